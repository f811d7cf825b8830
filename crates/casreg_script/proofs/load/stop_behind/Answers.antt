use Rattle.std.proofs.Common.{◌≡◌, ◌%◌, ◌/◌, ℕ, length, slice_get, ap, subst, sym, ◌∙◌}
use Rattle.std.specs.Prelude.{slice_index_or}
use Rattle.std.proofs.lemmas.Option.{get_or_from_slice_get}
use Rattle.cas_model.specs.View.{meaning}
use Rattle.casreg_script.specs.Events.{CrashesAcceptor, RestartsAcceptor}
use Rattle.casreg_script.specs.Load.{stopping, none, stops}
use Rattle.casreg_script.proofs.load.stop_behind.Goals as goal

pub returns-then-line : goal.returns-then-line
returns-then-line g c =
    let id : c.member_at-id.result ≡ stopping c.args.load.now c.args.line = sym (get_or_from_slice_get c.args.load.now.members (c.args.line / 64 % length c.args.load.now.members) c.member_at-id.result 0
    (ap (λ (n : ℕ). slice_get c.args.load.now.members (c.args.line / 64 % n)) (sym c.count.ensures.value) ∙ c.member_at-id.ensures)) in
    stops {down = c.crash_acceptor.new.world} c.if-line.true
    (subst (λ (n : ℕ). CrashesAcceptor (meaning g.S.Shelf g.V.Disk) c.args.world.now n c.crash_acceptor.result c.crash_acceptor.new.world) id c.crash_acceptor.ensures)
    (subst (λ (n : ℕ). RestartsAcceptor (meaning g.S.Shelf g.V.Disk) c.crash_acceptor.new.world n c.restart_acceptor.result c.restart_acceptor.new.world) id c.restart_acceptor.ensures)

pub returns-else-line : goal.returns-else-line
returns-else-line g c = none c.if-line.false
