use Rattle.std.proofs.Common.{◌≡◌, sym, ap, subst, ◌∙◌}
use Rattle.cas_model.specs.View.{meaning}
use Rattle.cas_model.proofs.Places.{some_is}
use Rattle.casreg_script.specs.Calls.Playing.{IsOver}
use Rattle.cas_protocol.specs.Protocol.{is_done}
use Rattle.casreg_script.proofs.Calls.Playing.{crash_over}
use Rattle.casreg_script.proofs.changes.crash.Goals as goal

pub unreachable-requires : goal.unreachable-requires
unreachable-requires g c =
    let over = crash_over (meaning g.S.Shelf g.V.Disk) c.args.world.now c.crash_proposer.new.self c.args.proposer c.requires.«open».0 c.requires.«open».1 c.closed.result c.requires.«open».2 c.crash_proposer.ensures c.closed.ensures in
    absurd (cc (over.is, c.in-None.is))

pub returns-clause-over : goal.returns-clause-over
returns-clause-over g c asked proposed was =
    let over = crash_over (meaning g.S.Shelf g.V.Disk) c.args.world.now c.crash_proposer.new.self c.args.proposer asked proposed c.closed.result was c.crash_proposer.ensures c.closed.ensures in
    let same : over.told ≡ c.in-Some.told = some_is (sym over.is ∙ c.in-Some.is) in
    subst (IsOver c.crash_proposer.new.self c.args.proposer asked) same over.over

pub returns-clause-not_done : goal.returns-clause-not_done
returns-clause-not_done g c =
    let over = crash_over (meaning g.S.Shelf g.V.Disk) c.args.world.now c.crash_proposer.new.self c.args.proposer c.requires.«open».0 c.requires.«open».1 c.closed.result c.requires.«open».2 c.crash_proposer.ensures c.closed.ensures in
    ap is_done (some_is (sym c.in-Some.is ∙ over.is)) ∙ over.not_done
