use Rattle.std.proofs.Common.{Bool, subst}
use Rattle.cas_model.specs.View.{meaning}
use Rattle.casreg_script.specs.Calls.Changes.{by_promise, proposes, EndsAcceptPhase}
use Rattle.casreg_script.specs.declared.halt.Halt.{Halt}
use Rattle.casreg_script.specs.Calls.Playing.{IsPlaying}
use Rattle.casreg_script.proofs.Calls.Playing.{round_plays}
use Rattle.casreg_script.proofs.changes.round.Goals as goal

pub accept-requires-clause-open : goal.accept-requires-clause-open
accept-requires-clause-open g c = (
  c.requires.begun.0,
  subst (λ (b : Bool). IsPlaying c.args.world.now c.args.proposer c.requires.begun.0 b) c.if-has_proposed.true
      (round_plays c.args.world.now c.args.proposer c.requires.begun.0 c.has_proposed.result c.requires.begun.1 c.has_proposed.ensures.proposed c.has_proposed.ensures.phase),
)

pub returns-then-has_proposed-clause-round : goal.returns-then-has_proposed-clause-round
returns-then-has_proposed-clause-round g c by is = let accepted = c.accept.ensures.accepted by is in record { view = accepted.view; is = accepted.is; has = by_promise accepted.has }

pub returns-then-has_proposed-clause-over : goal.returns-then-has_proposed-clause-over
returns-then-has_proposed-clause-over g c asked was = c.accept.ensures.over asked (subst (λ (b : Bool). IsPlaying c.args.world.now c.args.proposer asked b) c.if-has_proposed.true
    (round_plays c.args.world.now c.args.proposer asked c.has_proposed.result was c.has_proposed.ensures.proposed c.has_proposed.ensures.phase))

pub prepare-requires-clause-open : goal.prepare-requires-clause-open
prepare-requires-clause-open g c = (
  c.requires.begun.0,
  subst (λ (b : Bool). IsPlaying c.args.world.now c.args.proposer c.requires.begun.0 b) c.if-has_proposed.false
      (round_plays c.args.world.now c.args.proposer c.requires.begun.0 c.has_proposed.result c.requires.begun.1 c.has_proposed.ensures.proposed c.has_proposed.ensures.phase),
)

pub accept-requires-in-Ok-clause-open : goal.accept-requires-in-Ok-clause-open
accept-requires-in-Ok-clause-open g c = (
  c.requires.begun.0,
  c.in-Ok.ensures.plays c.requires.begun.0 (subst (λ (b : Bool). IsPlaying c.args.world.now c.args.proposer c.requires.begun.0 b) c.if-has_proposed.false
      (round_plays c.args.world.now c.args.proposer c.requires.begun.0 c.has_proposed.result c.requires.begun.1 c.has_proposed.ensures.proposed c.has_proposed.ensures.phase)),
)

pub returns-in-Ok-clause-round : goal.returns-in-Ok-clause-round
returns-in-Ok-clause-round g c by is =
    let proposed = c.in-Ok.ensures.proposed by is in
    let accepted = c.accept-in-Ok.ensures.accepted proposed.view proposed.is in
    record {
      view = accepted.view;
      is = accepted.is;
      has = proposes proposed.has (subst (λ (h : Halt). EndsAcceptPhase (meaning g.S.Shelf g.V.Disk) proposed.view c.args.proposer h c.prepare.new.world accepted.view c.accept-in-Ok.new.halt c.accept-in-Ok.new.world) c.in-Ok.ensures.same_halt accepted.has);
    }

pub returns-in-Ok-clause-over : goal.returns-in-Ok-clause-over
returns-in-Ok-clause-over g c asked was = c.accept-in-Ok.ensures.over asked (c.in-Ok.ensures.plays asked (subst (λ (b : Bool). IsPlaying c.args.world.now c.args.proposer asked b) c.if-has_proposed.false
    (round_plays c.args.world.now c.args.proposer asked c.has_proposed.result was c.has_proposed.ensures.proposed c.has_proposed.ensures.phase)))

pub returns-in-Err-clause-over : goal.returns-in-Err-clause-over
returns-in-Err-clause-over g c asked was = c.in-Err.ensures.over asked (subst (λ (b : Bool). IsPlaying c.args.world.now c.args.proposer asked b) c.if-has_proposed.false
    (round_plays c.args.world.now c.args.proposer asked c.has_proposed.result was c.has_proposed.ensures.proposed c.has_proposed.ensures.phase))
