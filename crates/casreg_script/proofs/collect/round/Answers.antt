use Rattle.std.proofs.Common.{Bool, true, false, Ok, sym, ap, subst, ◌∙◌}
use Rattle.cas_model.specs.View.{meaning}
use Rattle.casreg_script.specs.Calls.Changes.{by_promise, proposes, ends_short, IsAcceptedBy, IsRoundBy}
use Rattle.casreg_script.specs.Collection.Collections.{EndsReading, EndsVoting}
use Rattle.casreg_script.specs.Calls.Playing.{IsPlaying}
use Rattle.casreg_script.specs.declared.halt.Halt.{Halt}
use Rattle.cas_world.specs.declared.collect.Reading.{Reading}
use Rattle.casreg_script.proofs.Collection.Rounds.{is_in_round}
use Rattle.casreg_script.proofs.Outcomes.{on_ok_is}
use Rattle.casreg_script.proofs.Calls.Playing.{round_plays}
use Rattle.casreg_script.proofs.collect.round.Goals as goal

pub accept-requires-clause-open : goal.accept-requires-clause-open
accept-requires-clause-open g c = (
  c.requires.running.0,
  is_in_round c.args.world.now c.requires.running.0 true c.requires.running.1
      (subst (λ (b : Bool). IsPlaying c.args.world.now 0 c.requires.running.0 b) c.if-has_proposed.true (round_plays c.args.world.now 0 c.requires.running.0 c.has_proposed.result c.requires.running.1.begun c.has_proposed.ensures.proposed c.has_proposed.ensures.phase)),
)

pub returns-then-has_proposed-clause-round : goal.returns-then-has_proposed-clause-round
returns-then-has_proposed-clause-round g c by is = let accepted = c.accept.ensures.accepted by is in record { view = accepted.view; is = accepted.is; has = by_promise accepted.has }

pub returns-then-has_proposed-clause-stopped : goal.returns-then-has_proposed-clause-stopped
returns-then-has_proposed-clause-stopped g c asked was =
    c.accept.ensures.stopped asked
    (is_in_round c.args.world.now asked true was
    (subst (λ (b : Bool). IsPlaying c.args.world.now 0 asked b) c.if-has_proposed.true (round_plays c.args.world.now 0 asked c.has_proposed.result was.begun c.has_proposed.ensures.proposed c.has_proposed.ensures.phase)))

pub prepare-requires-clause-open : goal.prepare-requires-clause-open
prepare-requires-clause-open g c = (
  c.requires.running.0,
  is_in_round c.args.world.now c.requires.running.0 false c.requires.running.1
      (subst (λ (b : Bool). IsPlaying c.args.world.now 0 c.requires.running.0 b) c.if-has_proposed.false (round_plays c.args.world.now 0 c.requires.running.0 c.has_proposed.result c.requires.running.1.begun c.has_proposed.ensures.proposed c.has_proposed.ensures.phase)),
)

pub accept-requires-in-Ok-Empty-clause-open : goal.accept-requires-in-Ok-Empty-clause-open
accept-requires-in-Ok-Empty-clause-open g c = (
  c.requires.running.0,
  c.prepare.ensures.plays c.requires.running.0
      (is_in_round c.args.world.now c.requires.running.0 false c.requires.running.1
      (subst (λ (b : Bool). IsPlaying c.args.world.now 0 c.requires.running.0 b) c.if-has_proposed.false (round_plays c.args.world.now 0 c.requires.running.0 c.has_proposed.result c.requires.running.1.begun c.has_proposed.ensures.proposed c.has_proposed.ensures.phase)))
      (c.in-Ok-Empty.is ∙ ap (λ (r : Reading). Ok r) c.in-Ok-Empty.field-0-is),
)

pub returns-in-Ok-Empty-clause-round : goal.returns-in-Ok-Empty-clause-round
returns-in-Ok-Empty-clause-round g c by is =
    let ended = on_ok_is c.prepare.result c.in-Ok-Empty.field-0 c.in-Ok-Empty.is c.prepare.ensures.ended by is in
    let accepted = c.accept-in-Ok-Empty.ensures.accepted ended.view ended.is in
    record {
      view = accepted.view;
      is = accepted.is;
      has = proposes ended.has (subst (λ (h : Halt). IsAcceptedBy (EndsVoting (meaning g.S.Shelf g.V.Disk)) (meaning g.S.Shelf g.V.Disk) ended.view 0 h c.prepare.new.world accepted.view c.accept-in-Ok-Empty.new.halt c.accept-in-Ok-Empty.new.world) (on_ok_is c.prepare.result c.in-Ok-Empty.field-0 c.in-Ok-Empty.is c.prepare.ensures.same_halt) accepted.has);
    }

pub returns-in-Ok-Empty-clause-stopped : goal.returns-in-Ok-Empty-clause-stopped
returns-in-Ok-Empty-clause-stopped g c asked was =
    c.accept-in-Ok-Empty.ensures.stopped asked
    (c.prepare.ensures.plays asked
    (is_in_round c.args.world.now asked false was
    (subst (λ (b : Bool). IsPlaying c.args.world.now 0 asked b) c.if-has_proposed.false (round_plays c.args.world.now 0 asked c.has_proposed.result was.begun c.has_proposed.ensures.proposed c.has_proposed.ensures.phase)))
    (c.in-Ok-Empty.is ∙ ap (λ (r : Reading). Ok r) c.in-Ok-Empty.field-0-is))

pub returns-in-Ok-Held-clause-round : goal.returns-in-Ok-Held-clause-round
returns-in-Ok-Held-clause-round g c by is =
    let ended = on_ok_is c.prepare.result c.in-Ok-Held.field-0 c.in-Ok-Held.is c.prepare.ensures.ended by is in
    record {
      view = ended.view;
      is = ended.is;
      has = subst (λ (h : Halt). IsRoundBy (EndsReading (meaning g.S.Shelf g.V.Disk)) (EndsVoting (meaning g.S.Shelf g.V.Disk)) (meaning g.S.Shelf g.V.Disk) by 0 c.args.halt.now c.args.world.now ended.view h c.prepare.new.world) (sym (on_ok_is c.prepare.result c.in-Ok-Held.field-0 c.in-Ok-Held.is c.prepare.ensures.same_halt)) (ends_short ended.has);
    }

pub returns-in-Ok-Held-clause-tombstone_set : goal.returns-in-Ok-Held-clause-tombstone_set
returns-in-Ok-Held-clause-tombstone_set g c asked was =
    c.prepare.ensures.tombstone_set asked _
    (is_in_round c.args.world.now asked false was
    (subst (λ (b : Bool). IsPlaying c.args.world.now 0 asked b) c.if-has_proposed.false (round_plays c.args.world.now 0 asked c.has_proposed.result was.begun c.has_proposed.ensures.proposed c.has_proposed.ensures.phase)))
    (c.in-Ok-Held.is ∙ ap (λ (r : Reading). Ok r) c.in-Ok-Held.field-0-is)

pub returns-in-Err-clause-stopped : goal.returns-in-Err-clause-stopped
returns-in-Err-clause-stopped g c asked was =
    c.in-Err.ensures.stopped asked
    (is_in_round c.args.world.now asked false was
    (subst (λ (b : Bool). IsPlaying c.args.world.now 0 asked b) c.if-has_proposed.false (round_plays c.args.world.now 0 asked c.has_proposed.result was.begun c.has_proposed.ensures.proposed c.has_proposed.ensures.phase)))
