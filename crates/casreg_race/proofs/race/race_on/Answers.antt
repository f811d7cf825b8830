use Rattle.std.proofs.Common.{◌≡◌, ℕ, Vec, Global, map, ap, subst, ◌∙◌, reverse}
use Rattle.std.specs.Prelude.{None, vec_items}
use Rattle.cas_record.specs.declared.mark.Mark.{Mark}
use Rattle.cas_model_causes.specs.Eras.Tellings.{AreTellingsSo}
use Rattle.cas_turn.specs.Sitting.{Sitting}
use Rattle.cas_board.specs.declared.shared.Shared.{Shared}
use Rattle.casreg_race.proofs.Closed.{each_of, wrote_whole, wrote_front, wrote_nothing}
use Rattle.casreg_race.proofs.race.race_on.Goals as goal

pub returns-in-Ok-write_race-clause-raced : goal.returns-in-Ok-write_race-clause-raced
returns-in-Ok-write_race-clause-raced g c first_ fresh =
    let raced = c.in-Ok.ensures.raced in
    let results = c.in-Ok.results in
    wrote_whole c.args.board c.args.proposers c.run_lines-raced.new.passes.items c.run_lines-raced.ensures.passes c.close-closed.result.book.marks c.close-closed.ensures.mine c.close-closed.ensures.fronts g.D.Disk.tells c.args.tries first_ raced.0
    (map g.F.Fate.harm_count c.args.fates.now.items) (map g.F.Fate.harm_count c.run_lines-raced.new.fates.items) (map vec_items results.told.items) (raced.3 first_ fresh)
    (g.S.Source.remaining c.args.source.now) (g.K.Sink.contents c.args.sink.now) (g.K.Sink.contents c.write_race.new.sink) raced.1 results.bad.items raced.2 c.in-Ok-write_race.ensures.all

pub returns-in-Ok-clause-raced : goal.returns-in-Ok-clause-raced
returns-in-Ok-clause-raced g c first_ fresh =
    let raced = c.in-Ok.ensures.raced in
    let results = c.in-Ok.results in
    wrote_front c.args.board c.args.proposers c.run_lines-raced.new.passes.items c.run_lines-raced.ensures.passes c.close-closed.result.book.marks c.close-closed.ensures.mine c.close-closed.ensures.fronts g.D.Disk.tells c.args.tries first_ raced.0
    (map g.F.Fate.harm_count c.args.fates.now.items) (map g.F.Fate.harm_count c.run_lines-raced.new.fates.items) (map vec_items results.told.items) (raced.3 first_ fresh)
    (g.S.Source.remaining c.args.source.now) (g.K.Sink.contents c.args.sink.now) (g.K.Sink.contents c.write_race.new.sink) raced.1 results.bad.items raced.2 c.in-Err-write_race.fault c.in-Err-write_race.ensures.front

pub returns-clause-raced : goal.returns-clause-raced
returns-clause-raced g c first_ fresh =
    let same = c.in-Err.ensures.not_run in
    wrote_nothing c.args.board c.args.proposers c.run_lines-raced.new.passes.items c.run_lines-raced.ensures.passes c.close-closed.result.book.marks c.close-closed.ensures.mine c.close-closed.ensures.fronts g.D.Disk.tells c.args.tries first_
    (g.S.Source.remaining c.args.source.now) (g.K.Sink.contents c.args.sink.now) (map g.F.Fate.harm_count c.args.fates.now.items) (map g.F.Fate.harm_count c.run_lines-raced.new.fates.items) c.in-Err.fault
    (ap (λ (v : Vec (Sitting (Shared g.row.D.Denot) Mark) Global). v.items) same.0 ∙ fresh) (ap (λ (v : Vec g.row.F.Denot Global). map g.F.Fate.harm_count v.items) same.1)

pub close-closed-requires-clause-turn : goal.close-closed-requires-clause-turn
close-closed-requires-clause-turn g c = each_of c.args.board c.args.proposers c.run_lines-raced.new.passes.items c.run_lines-raced.ensures.passes (λ pass. pass.turn ≡ c.args.board.id) (λ pass is. is.turn)

pub close-closed-requires-clause-idle : goal.close-closed-requires-clause-idle
close-closed-requires-clause-idle g c = each_of c.args.board c.args.proposers c.run_lines-raced.new.passes.items c.run_lines-raced.ensures.passes (λ pass. pass.holds ≡ None) (λ pass is. is.idle)
