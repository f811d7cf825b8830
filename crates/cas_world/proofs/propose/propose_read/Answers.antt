use Rattle.std.proofs.Common.{◌≡◌, sym, ap, subst, ◌∙◌}
use Rattle.std.specs.Prelude.{IfOk}
use Rattle.std.proofs.lemmas.Result.{IfErr-weaker}
use Rattle.cas_ballot.specs.Ballot.{FitsBallot}
use Rattle.cas_change.specs.Outcome.{outcome_of}
use Rattle.cas_proposer.specs.Round.{TurnsToAccept}
use Rattle.cas_proposer.specs.declared.round.Round.{Round}
use Rattle.cas_cache.specs.declared.ready.Ready.{Ready}
use Rattle.cas_model.proofs.Places.{some_is}
use Rattle.cas_world_calls.specs.Proposing.{proposing_of, ProposesOn, FailsToPropose}
use Rattle.cas_world.specs.Calls.Reading.{Proposes}
use Rattle.cas_world_calls.specs.declared.call.OpenCall.{OpenCall}
use Rattle.cas_world.proofs.Parts.{some_and}
use Rattle.cas_world.proofs.Calls.Proposes.{quorum_in, proposed_on, failed_on, proposed_by}
use Rattle.cas_world.proofs.propose.propose_read.Goals as goal
use Rattle.cas_model.specs.View.{disk_meaning}

-- src/propose.rt:127:5
pub propose_on-requires-clause-ballot : goal.propose_on-requires-clause-ballot
propose_on-requires-clause-ballot g c =
    subst FitsBallot (sym (ap (λ (r : Ready). r.ballot) (c.read-era.ensures.reads c.requires.may.round c.requires.may.is_round).is_ready)) c.requires.may.ballot

-- src/propose.rt:106:1
pub returns-clause-proposes : goal.returns-clause-proposes
returns-clause-proposes g c round is call is_open =
    let turned = some_and c.read-era.new.desk.round (TurnsToAccept round) (c.read-era.ensures.turns round is) in
    let same_key : round.key ≡ c.in-Some.call.key = ap (λ (r : Round). r.key) (some_is (sym is ∙ c.requires.may.is_round)) ∙ c.requires.may.same_key ∙ ap (λ (o : OpenCall). o.key) (some_is (sym c.requires.may.is_open ∙ c.in-Some.is)) in
    subst (λ (o : OpenCall). IfOk c.propose_on.result (Proposes (disk_meaning g.V.Disk) c.args.proposer c.args.caller.now.number round o c.args.desk.now c.propose_on.new.desk c.args.flow.now c.propose_on.new.flow)) (some_is (sym c.in-Some.is ∙ is_open))
    (proposed_by
    (ProposesOn (disk_meaning g.V.Disk) turned.0 c.read-era.new.desk c.propose_on.new.desk c.args.proposer c.in-Some.call.key c.read-era.result.0 (outcome_of c.in-Some.call.program c.read-era.result.1.state).state c.read-era.result.1.ballot c.args.flow.now c.propose_on.new.flow)
    (Proposes (disk_meaning g.V.Disk) c.args.proposer c.args.caller.now.number round c.in-Some.call c.args.desk.now c.propose_on.new.desk c.args.flow.now c.propose_on.new.flow)
    c.propose_on.result
    (proposing_of (record { caller = c.args.proposer; call = c.args.caller.now.number }) c.in-Some.call.key c.read-era.result.0.number c.in-Some.call.program c.read-era.result.1)
    c.propose_on.ensures.made (c.propose_on.ensures.sent turned.0 turned.1)
    (λ made made_is on. proposed_on (disk_meaning g.V.Disk) round c.args.desk.now c.read-era.new.desk c.propose_on.new.desk c.read-era.ensures.desk turned.0 turned.1 turned.2
    c.args.proposer c.args.caller.now.number c.in-Some.call c.args.flow.now c.propose_on.new.flow c.read-era.result.0 c.read-era.result.1 made (c.read-era.ensures.reads round is) same_key
    (quorum_in c.args.desk.now.round round is c.requires.quorum) made_is on))

-- src/propose.rt:106:1
pub returns-clause-refused : goal.returns-clause-refused
returns-clause-refused g c round is =
    let turned = some_and c.read-era.new.desk.round (TurnsToAccept round) (c.read-era.ensures.turns round is) in
    IfErr-weaker c.propose_on.result (FailsToPropose (disk_meaning g.V.Disk) turned.0.key c.read-era.new.desk c.propose_on.new.desk) (FailsToPropose (disk_meaning g.V.Disk) round.key c.args.desk.now c.propose_on.new.desk)
    (λ told fails. failed_on (disk_meaning g.V.Disk) round c.args.desk.now c.read-era.new.desk c.propose_on.new.desk c.read-era.ensures.desk turned.0 turned.1 turned.2 told is fails)
    (c.propose_on.ensures.refused turned.0 turned.1)
