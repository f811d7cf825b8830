use Rattle.std.proofs.Common.{Bool, not, subst}
use Rattle.cas_flow.specs.Flow.{queue_at}
use Rattle.cas_world.specs.World.{IsInPhase}
use Rattle.casreg_script.proofs.Calls.Turns.{in_front, none_waits}
use Rattle.test_world.proofs.Shown.{phase_shown}
use Rattle.test_world.proofs.player.what_is_due.Goals as goal

pub returns-then-has_proposed-clause-counts : goal.returns-then-has_proposed-clause-counts
returns-then-has_proposed-clause-counts g c is =
    subst (λ (b : Bool). IsInPhase c.args.world.now c.args.proposer (not b)) c.if-has_proposed.true
    (phase_shown c.args.world.now c.args.proposer c.verdict.result c.in-Some.field-0 c.has_proposed.result c.requires.safe c.requires.known c.verdict.ensures c.in-Some.is c.has_proposed.ensures.phase
    (none_waits (queue_at c.args.world.now.flow c.args.proposer).messages c.front.result (in_front c.args.world.now c.args.proposer c.requires.quiet c.front.ensures) c.in-None.is))

pub returns-else-has_proposed-clause-proposes : goal.returns-else-has_proposed-clause-proposes
returns-else-has_proposed-clause-proposes g c is =
    subst (λ (b : Bool). IsInPhase c.args.world.now c.args.proposer (not b)) c.if-has_proposed.false
    (phase_shown c.args.world.now c.args.proposer c.verdict.result c.in-Some.field-0 c.has_proposed.result c.requires.safe c.requires.known c.verdict.ensures c.in-Some.is c.has_proposed.ensures.phase
    (none_waits (queue_at c.args.world.now.flow c.args.proposer).messages c.front.result (in_front c.args.world.now c.args.proposer c.requires.quiet c.front.ensures) c.in-None.is))
