use Rattle.std.proofs.Common.{◌≡◌, ◌+◌, ◌≤◌, ◌∙◌, ℕ, false, List, [], Option, Some, refl, sym, ap, subst, arith, length}
use Rattle.std.specs.Prelude.{◌⊎◌, IfOk, IfSome, sum_by, None}
use Rattle.cas_ballot.specs.Ballot.{FitsBallot}
use Rattle.cas_ballot.specs.declared.ballot.Ballot.{Ballot}
use Rattle.cas_ballot.specs.Members.{union_of}
use Rattle.cas_flow.specs.Flow.{FlowView}
use Rattle.cas_proposer.specs.Desk.{DeskView}
use Rattle.cas_quorum.specs.declared.era.Era.{Era}
use Rattle.cas_record.specs.declared.answer.Answer.TheVariants as answer
use Rattle.cas_record.specs.declared.mark.Mark.{Mark}
use Rattle.cas_record.specs.declared.operator.OpAnswer.TheVariants as op
use Rattle.cas_model.specs.Collection.State.{CollectionView, tomb_of}
use Rattle.cas_model.specs.Council.{ExchangeView, Removal, exchange_place, reserved_for_exchange, marks_of_read}
use Rattle.cas_model.specs.Safe.{IsSafe}
use Rattle.cas_model.specs.Step as step
use Rattle.cas_model.specs.Step.{Step}
use Rattle.cas_model.specs.Calls.Step.{Sends}
use Rattle.cas_model.specs.Collection.Step.{IsQuestionOf}
use Rattle.cas_model.specs.Exchanges.Step.{everyone, new_exchange, questions_to, told_view, with_council}
use Rattle.cas_model.specs.View.{View, IsAt, era_at, meaning, reserved_in_all}
use Rattle.cas_model.proofs.Places.{at_one, some_is}
use Rattle.cas_model.proofs.Safety.Marks.{full_for_exchanges}
use Rattle.cas_model.proofs.Safety.Steps.{steps_are_safe}
use Rattle.cas_world_calls.specs.Call.{reserved_of}
use Rattle.cas_world_calls.specs.Council.{council_view, exchange_view, question_view}
use Rattle.cas_collect.specs.declared.collect.CollectStep.TheVariants as collect
use Rattle.cas_vault.specs.Vault.{VaultStands, kept_of}
use Rattle.cas_vault.specs.declared.kept.Kept.{Kept}
use Rattle.cas_vault.proofs.Keeping.{same_kept}
use Rattle.cas_world.specs.Exchanges.Exchange.{MayAskCollected}
use Rattle.cas_world.specs.World.{IsWorld, view_of}
use Rattle.cas_world.proofs.Exchanges.Exchanges.{council_world, grown_world, reserved_fits}
use Rattle.cas_world.proofs.Collection.Gathers.{AsksAtStep, asks_all, asks_down, asks_either, asks_full, asks_lost, told_not}
use Rattle.cas_world.proofs.Parts.{at_place, remembered_then, seen_from}
use Rattle.cas_world.proofs.Eras.Planning.{ok_there}
use Rattle.cas_world.proofs.Calls.Reserving.{sum_seen}
use Rattle.cas_world.proofs.world.World.ask_collect.Given.{Over}
use Rattle.cas_world.proofs.world.World.ask_collect.Goals as goal
use Rattle.cas_world.proofs.world.World.ask_collect.Goals.{Joined-self-2}

-- ---- it is refused
pub returns-then-is_down-clause-step : goal.returns-then-is_down-clause-step
returns-then-is_down-clause-step g c = asks_down (meaning g.S.Shelf g.V.Disk) c.args.self.now c.refuse.new.self c.index.result.now (subst (λ (v : (View g.row.S.Denot g.row.V.Denot)). IsSafe v) c.self.view_is c.self.invariant.safe) (asks_either c.args.self.now c.requires) (subst (λ (v : (View g.row.S.Denot g.row.V.Denot)). IsAt v.desks 0 c.index.result.now) c.self.view_is (at_place c.self.inside.desks.items 0 0 c.index.result.now refl (omega (arith, c.self.invariant.safe.sound.desks)) c.index.ensures)) (sym c.is_down.ensures ∙ c.if-is_down.true) c.refuse.ensures.told

pub returns-then-is_down-clause-err : goal.returns-then-is_down-clause-err
returns-then-is_down-clause-err g c = told_not (meaning g.S.Shelf g.V.Disk) c.args.self.now c.refuse.new.self c.index.result.now (subst (λ (v : (View g.row.S.Denot g.row.V.Denot)). IsSafe v) c.self.view_is c.self.invariant.safe) (asks_either c.args.self.now c.requires) (subst (λ (v : (View g.row.S.Denot g.row.V.Denot)). IsAt v.desks 0 c.index.result.now) c.self.view_is (at_place c.self.inside.desks.items 0 0 c.index.result.now refl (omega (arith, c.self.invariant.safe.sound.desks)) c.index.ensures)) (op.Stopped answer.Down) c.refuse.result c.refuse.ensures.told c.refuse.ensures.answer

pub reserved_in_all-requires : goal.reserved_in_all-requires
reserved_in_all-requires g c = omega (arith, reserved_fits c.self.inside.setup.proposers c.self.inside.council c.self.inside.acceptors.items c.self.inside.desks.items c.self.inside.callers.items c.self.inside.flow c.self.inside.record c.self.invariant.safe, ap (sum_by reserved_of) c.deref.ensures.value)

pub overflow_add-marks : goal.overflow_add-marks
overflow_add-marks g c = omega (arith, reserved_fits c.self.inside.setup.proposers c.self.inside.council c.self.inside.acceptors.items c.self.inside.desks.items c.self.inside.callers.items c.self.inside.flow c.self.inside.record c.self.invariant.safe, c.count.ensures.within, c.reserved_in_all.ensures, ap (sum_by reserved_of) c.deref.ensures.value, sum_seen c.self.inside.callers.items)

pub overflow_add-since : goal.overflow_add-since
overflow_add-since g c = omega (arith, reserved_fits c.self.inside.setup.proposers c.self.inside.council c.self.inside.acceptors.items c.self.inside.desks.items c.self.inside.callers.items c.self.inside.flow c.self.inside.record c.self.invariant.safe, c.count.ensures.within, ap (λ (l : List Mark). length l) c.marks-since.ensures, c.reserved_in_all.ensures, ap (sum_by reserved_of) c.deref.ensures.value, sum_seen c.self.inside.callers.items)

pub returns-then-since-marks-gt-MOST_MARKS-clause-step : goal.returns-then-since-marks-gt-MOST_MARKS-clause-step
returns-then-since-marks-gt-MOST_MARKS-clause-step g c = asks_full (meaning g.S.Shelf g.V.Disk) c.args.self.now c.refuse-then-since-marks-gt-MOST_MARKS.new.self c.index.result.now (subst (λ (v : (View g.row.S.Denot g.row.V.Denot)). IsSafe v) c.self.view_is c.self.invariant.safe) (asks_either c.args.self.now c.requires) (subst (λ (v : (View g.row.S.Denot g.row.V.Denot)). IsAt v.desks 0 c.index.result.now) c.self.view_is (at_place c.self.inside.desks.items 0 0 c.index.result.now refl (omega (arith, c.self.invariant.safe.sound.desks)) c.index.ensures)) (sym c.is_down.ensures ∙ c.if-is_down.false)
    (omega (arith, c.if-since-marks-gt-MOST_MARKS.true, c.count.ensures.value, ap (λ (l : List ℕ). length l) (c.everyone-members.ensures ∙ ap (λ (e : Era). union_of e.prep e.acc) c.era.ensures), c.reserved_in_all.ensures, ap (sum_by reserved_of) c.deref.ensures.value, sum_seen c.self.inside.callers.items, ap (λ (l : List Mark). length l) c.marks-since.ensures, ap (λ (v : (View g.row.S.Denot g.row.V.Denot)). length v.marks + reserved_in_all v) c.self.view_is)) c.refuse-then-since-marks-gt-MOST_MARKS.ensures.told

pub returns-then-since-marks-gt-MOST_MARKS-clause-err : goal.returns-then-since-marks-gt-MOST_MARKS-clause-err
returns-then-since-marks-gt-MOST_MARKS-clause-err g c = told_not (meaning g.S.Shelf g.V.Disk) c.args.self.now c.refuse-then-since-marks-gt-MOST_MARKS.new.self c.index.result.now (subst (λ (v : (View g.row.S.Denot g.row.V.Denot)). IsSafe v) c.self.view_is c.self.invariant.safe) (asks_either c.args.self.now c.requires) (subst (λ (v : (View g.row.S.Denot g.row.V.Denot)). IsAt v.desks 0 c.index.result.now) c.self.view_is (at_place c.self.inside.desks.items 0 0 c.index.result.now refl (omega (arith, c.self.invariant.safe.sound.desks)) c.index.ensures)) (op.Stopped answer.RecordFull) c.refuse-then-since-marks-gt-MOST_MARKS.result c.refuse-then-since-marks-gt-MOST_MARKS.ensures.told c.refuse-then-since-marks-gt-MOST_MARKS.ensures.answer

-- ---- no memory is found
pub invariant_of-self : goal.invariant_of-self
invariant_of-self g c = grown_world c.self.inside.setup.proposers c.self.inside.council c.self.inside.acceptors.items c.self.inside.desks.items c.self.inside.callers.items c.self.inside.flow c.self.inside.record c.reserve.new.self c.self.invariant c.reserve.ensures.same c.reserve.ensures.grows

pub returns-then-is_err-clause-step : goal.returns-then-is_err-clause-step
returns-then-is_err-clause-step g c = asks_lost (meaning g.S.Shelf g.V.Disk) c.args.self.now c.refuse-then-is_err.new.self c.index.result.now (subst (λ (v : (View g.row.S.Denot g.row.V.Denot)). IsSafe v) c.self.view_is c.self.invariant.safe) (asks_either c.args.self.now c.requires) (subst (λ (v : (View g.row.S.Denot g.row.V.Denot)). IsAt v.desks 0 c.index.result.now) c.self.view_is (at_place c.self.inside.desks.items 0 0 c.index.result.now refl (omega (arith, c.self.invariant.safe.sound.desks)) c.index.ensures)) (sym c.is_down.ensures ∙ c.if-is_down.false)
    (c.refuse-then-is_err.ensures.told ∙ ap (told_view (view_of c.self.inside.setup.proposers c.self.inside.council c.self.inside.acceptors.items c.self.inside.desks.items c.self.inside.callers.items c.self.inside.flow c.reserve.new.self)) c.no_memory.ensures ∙ ap (λ (v : (View g.row.S.Denot g.row.V.Denot)). told_view v (op.Stopped (answer.NoMemory false))) (ap (λ (ms : List Mark). record (view_of c.self.inside.setup.proposers c.self.inside.council c.self.inside.acceptors.items c.self.inside.desks.items c.self.inside.callers.items c.self.inside.flow c.self.inside.record) { marks = ms }) c.reserve.ensures.same ∙ c.self.view_is))

pub returns-then-is_err-clause-err : goal.returns-then-is_err-clause-err
returns-then-is_err-clause-err g c = told_not (meaning g.S.Shelf g.V.Disk) c.args.self.now c.refuse-then-is_err.new.self c.index.result.now (subst (λ (v : (View g.row.S.Denot g.row.V.Denot)). IsSafe v) c.self.view_is c.self.invariant.safe) (asks_either c.args.self.now c.requires) (subst (λ (v : (View g.row.S.Denot g.row.V.Denot)). IsAt v.desks 0 c.index.result.now) c.self.view_is (at_place c.self.inside.desks.items 0 0 c.index.result.now refl (omega (arith, c.self.invariant.safe.sound.desks)) c.index.ensures)) (op.Stopped (answer.NoMemory false)) c.refuse-then-is_err.result
    (c.refuse-then-is_err.ensures.told ∙ ap (told_view (view_of c.self.inside.setup.proposers c.self.inside.council c.self.inside.acceptors.items c.self.inside.desks.items c.self.inside.callers.items c.self.inside.flow c.reserve.new.self)) c.no_memory.ensures ∙ ap (λ (v : (View g.row.S.Denot g.row.V.Denot)). told_view v (op.Stopped (answer.NoMemory false))) (ap (λ (ms : List Mark). record (view_of c.self.inside.setup.proposers c.self.inside.council c.self.inside.acceptors.items c.self.inside.desks.items c.self.inside.callers.items c.self.inside.flow c.self.inside.record) { marks = ms }) c.reserve.ensures.same ∙ c.self.view_is)) (c.refuse-then-is_err.ensures.answer ∙ c.no_memory.ensures)

pub invariant_of-self-in_default : goal.invariant_of-self-in_default
invariant_of-self-in_default g c = grown_world c.self.inside.setup.proposers c.self.inside.council c.self.inside.acceptors.items c.self.inside.desks.items c.self.inside.callers.items c.self.inside.flow c.self.inside.record c.reserve.new.self c.self.invariant c.reserve.ensures.same c.reserve.ensures.grows

pub returns-in_default-clause-step : goal.returns-in_default-clause-step
returns-in_default-clause-step g c = asks_lost (meaning g.S.Shelf g.V.Disk) c.args.self.now c.refuse-in_default.new.self c.index.result.now (subst (λ (v : (View g.row.S.Denot g.row.V.Denot)). IsSafe v) c.self.view_is c.self.invariant.safe) (asks_either c.args.self.now c.requires) (subst (λ (v : (View g.row.S.Denot g.row.V.Denot)). IsAt v.desks 0 c.index.result.now) c.self.view_is (at_place c.self.inside.desks.items 0 0 c.index.result.now refl (omega (arith, c.self.invariant.safe.sound.desks)) c.index.ensures)) (sym c.is_down.ensures ∙ c.if-is_down.false)
    (c.refuse-in_default.ensures.told ∙ ap (told_view (view_of c.self.inside.setup.proposers c.self.inside.council c.self.inside.acceptors.items c.self.inside.desks.items c.self.inside.callers.items c.self.inside.flow c.reserve.new.self)) c.no_memory-in_default.ensures ∙ ap (λ (v : (View g.row.S.Denot g.row.V.Denot)). told_view v (op.Stopped (answer.NoMemory false))) (ap (λ (ms : List Mark). record (view_of c.self.inside.setup.proposers c.self.inside.council c.self.inside.acceptors.items c.self.inside.desks.items c.self.inside.callers.items c.self.inside.flow c.self.inside.record) { marks = ms }) c.reserve.ensures.same ∙ c.self.view_is))

pub returns-in_default-clause-err : goal.returns-in_default-clause-err
returns-in_default-clause-err g c = told_not (meaning g.S.Shelf g.V.Disk) c.args.self.now c.refuse-in_default.new.self c.index.result.now (subst (λ (v : (View g.row.S.Denot g.row.V.Denot)). IsSafe v) c.self.view_is c.self.invariant.safe) (asks_either c.args.self.now c.requires) (subst (λ (v : (View g.row.S.Denot g.row.V.Denot)). IsAt v.desks 0 c.index.result.now) c.self.view_is (at_place c.self.inside.desks.items 0 0 c.index.result.now refl (omega (arith, c.self.invariant.safe.sound.desks)) c.index.ensures)) (op.Stopped (answer.NoMemory false)) c.refuse-in_default.result
    (c.refuse-in_default.ensures.told ∙ ap (told_view (view_of c.self.inside.setup.proposers c.self.inside.council c.self.inside.acceptors.items c.self.inside.desks.items c.self.inside.callers.items c.self.inside.flow c.reserve.new.self)) c.no_memory-in_default.ensures ∙ ap (λ (v : (View g.row.S.Denot g.row.V.Denot)). told_view v (op.Stopped (answer.NoMemory false))) (ap (λ (ms : List Mark). record (view_of c.self.inside.setup.proposers c.self.inside.council c.self.inside.acceptors.items c.self.inside.desks.items c.self.inside.callers.items c.self.inside.flow c.self.inside.record) { marks = ms }) c.reserve.ensures.same ∙ c.self.view_is)) (c.refuse-in_default.ensures.answer ∙ c.no_memory-in_default.ensures)

pub ask_each-requires-clause-tag : goal.ask_each-requires-clause-tag
ask_each-requires-clause-tag g c = subst (λ (b : Ballot). FitsBallot b) (sym c.tomb.ensures) (c.self.invariant.safe.collection.each c.in-Some.collection c.in-Some.is).tomb

pub invariant_of-self-in-Err : goal.invariant_of-self-in-Err
invariant_of-self-in-Err g c = subst (λ (f : FlowView). IsWorld (meaning g.S.Shelf g.V.Disk) (view_of c.self.inside.setup.proposers c.self.inside.council c.self.inside.acceptors.items c.self.inside.desks.items c.self.inside.callers.items f c.reserve.new.self) c.self.inside.callers.items c.reserve.new.self.room) (sym c.in-Err.ensures.not_sent)
    (grown_world c.self.inside.setup.proposers c.self.inside.council c.self.inside.acceptors.items c.self.inside.desks.items c.self.inside.callers.items c.self.inside.flow c.self.inside.record c.reserve.new.self c.self.invariant c.reserve.ensures.same c.reserve.ensures.grows)

pub returns-in-Err-clause-step : goal.returns-in-Err-clause-step
returns-in-Err-clause-step g c = asks_lost (meaning g.S.Shelf g.V.Disk) c.args.self.now c.refuse-in-Err.new.self c.index.result.now (subst (λ (v : (View g.row.S.Denot g.row.V.Denot)). IsSafe v) c.self.view_is c.self.invariant.safe) (asks_either c.args.self.now c.requires) (subst (λ (v : (View g.row.S.Denot g.row.V.Denot)). IsAt v.desks 0 c.index.result.now) c.self.view_is (at_place c.self.inside.desks.items 0 0 c.index.result.now refl (omega (arith, c.self.invariant.safe.sound.desks)) c.index.ensures)) (sym c.is_down.ensures ∙ c.if-is_down.false)
    (c.refuse-in-Err.ensures.told ∙ ap (told_view (view_of c.self.inside.setup.proposers c.self.inside.council c.self.inside.acceptors.items c.self.inside.desks.items c.self.inside.callers.items c.ask_each.new.flow c.reserve.new.self)) c.no_memory-in-Err.ensures
    ∙ ap (λ (f : FlowView). told_view (view_of c.self.inside.setup.proposers c.self.inside.council c.self.inside.acceptors.items c.self.inside.desks.items c.self.inside.callers.items f c.reserve.new.self) (op.Stopped (answer.NoMemory false))) c.in-Err.ensures.not_sent
    ∙ ap (λ (v : (View g.row.S.Denot g.row.V.Denot)). told_view v (op.Stopped (answer.NoMemory false))) (ap (λ (ms : List Mark). record (view_of c.self.inside.setup.proposers c.self.inside.council c.self.inside.acceptors.items c.self.inside.desks.items c.self.inside.callers.items c.self.inside.flow c.self.inside.record) { marks = ms }) c.reserve.ensures.same ∙ c.self.view_is))

pub returns-in-Err-clause-err : goal.returns-in-Err-clause-err
returns-in-Err-clause-err g c = told_not (meaning g.S.Shelf g.V.Disk) c.args.self.now c.refuse-in-Err.new.self c.index.result.now (subst (λ (v : (View g.row.S.Denot g.row.V.Denot)). IsSafe v) c.self.view_is c.self.invariant.safe) (asks_either c.args.self.now c.requires) (subst (λ (v : (View g.row.S.Denot g.row.V.Denot)). IsAt v.desks 0 c.index.result.now) c.self.view_is (at_place c.self.inside.desks.items 0 0 c.index.result.now refl (omega (arith, c.self.invariant.safe.sound.desks)) c.index.ensures)) (op.Stopped (answer.NoMemory false)) c.refuse-in-Err.result
    (c.refuse-in-Err.ensures.told ∙ ap (told_view (view_of c.self.inside.setup.proposers c.self.inside.council c.self.inside.acceptors.items c.self.inside.desks.items c.self.inside.callers.items c.ask_each.new.flow c.reserve.new.self)) c.no_memory-in-Err.ensures
    ∙ ap (λ (f : FlowView). told_view (view_of c.self.inside.setup.proposers c.self.inside.council c.self.inside.acceptors.items c.self.inside.desks.items c.self.inside.callers.items f c.reserve.new.self) (op.Stopped (answer.NoMemory false))) c.in-Err.ensures.not_sent
    ∙ ap (λ (v : (View g.row.S.Denot g.row.V.Denot)). told_view v (op.Stopped (answer.NoMemory false))) (ap (λ (ms : List Mark). record (view_of c.self.inside.setup.proposers c.self.inside.council c.self.inside.acceptors.items c.self.inside.desks.items c.self.inside.callers.items c.self.inside.flow c.self.inside.record) { marks = ms }) c.reserve.ensures.same ∙ c.self.view_is)) (c.refuse-in-Err.ensures.answer ∙ c.no_memory-in-Err.ensures)

-- ---- each member is asked
at_desk : (g : Over) (c : Joined-self-2 g) → IsAt c.self.inside.desks.items 0 c.index.result.now
at_desk g c = at_place c.self.inside.desks.items 0 0 c.index.result.now refl (omega (arith, c.self.invariant.safe.sound.desks)) c.index.ensures

same_desk : (g : Over) (c : Joined-self-2 g) → c.index-2.result.now ≡ c.index.result.now
same_desk g c = at_one c.self.inside.desks.items 0 (at_place c.self.inside.desks.items 0 0 c.index-2.result.now refl (omega (arith, c.self.invariant.safe.sound.desks)) c.index-2.ensures) (at_desk g c)

is_up : (g : Over) (c : Joined-self-2 g) → c.index.result.now.down ≡ false
is_up g c = (sym c.is_down.ensures ∙ c.if-is_down.false)

abbrev of : (g : Over) (c : Joined-self-2 g) → AsksAtStep (view_of c.self.inside.setup.proposers c.self.inside.council c.self.inside.acceptors.items c.self.inside.desks.items c.self.inside.callers.items c.self.inside.flow c.self.inside.record)
of g c = asks_either (view_of c.self.inside.setup.proposers c.self.inside.council c.self.inside.acceptors.items c.self.inside.desks.items c.self.inside.callers.items c.self.inside.flow c.self.inside.record) (subst (λ (v : (View g.row.S.Denot g.row.V.Denot)). MayAskCollected v collect.Ages ⊎ MayAskCollected v collect.Remove) (sym c.self.view_is) c.requires)

same_one : (g : Over) (c : Joined-self-2 g) → c.in-Some.collection ≡ (of g c).may.collection
same_one g c = some_is (sym c.in-Some.is ∙ (of g c).may.is_collection)

members_are : (g : Over) (c : Joined-self-2 g) → c.everyone-members.result ≡ everyone (view_of c.self.inside.setup.proposers c.self.inside.council c.self.inside.acceptors.items c.self.inside.desks.items c.self.inside.callers.items c.self.inside.flow c.self.inside.record)
members_are g c = c.everyone-members.ensures ∙ ap (λ (e : Era). union_of e.prep e.acc) (c.era.ensures ∙ ap (λ (v : (View g.row.S.Denot g.row.V.Denot)). era_at v 0) (sym c.self.view_is))

few : (g : Over) (c : Joined-self-2 g) → length c.self.inside.record.marks + reserved_in_all (view_of c.self.inside.setup.proposers c.self.inside.council c.self.inside.acceptors.items c.self.inside.desks.items c.self.inside.callers.items c.self.inside.flow c.self.inside.record) + length (everyone (view_of c.self.inside.setup.proposers c.self.inside.council c.self.inside.acceptors.items c.self.inside.desks.items c.self.inside.callers.items c.self.inside.flow c.self.inside.record)) ≤ 1000000
few g c = omega (arith, c.if-since-marks-gt-MOST_MARKS.false, c.count.ensures.value, ap (λ (l : List ℕ). length l) (members_are g c), c.reserved_in_all.ensures, ap (sum_by reserved_of) c.deref.ensures.value, sum_seen c.self.inside.callers.items, ap (λ (l : List Mark). length l) c.marks-since.ensures)

is_question : (g : Over) (c : Joined-self-2 g) → IsQuestionOf (of g c).may.collection (question_view c.in-Ok.question)
is_question g c = subst (λ (x : CollectionView). IsQuestionOf x (question_view c.in-Ok.question)) (same_one g c)
    (subst (λ r. IfOk r (λ question. IsQuestionOf c.in-Some.collection (question_view question))) c.in-Ok.is
    (subst (λ (o : Option CollectionView). IfSome o (λ x. IfOk c.collect_question.result (λ question. IsQuestionOf x (question_view question)))) c.in-Some.is c.collect_question.ensures))

since_is : (g : Over) (c : Joined-self-2 g) → length c.marks-since.result.now ≡ length c.self.inside.record.marks
since_is g c = ap (λ (l : List Mark). length l) c.marks-since.ensures

exchange_is : (g : Over) (c : Joined-self-2 g) → exchange_view c.in-Ok-ask_each.exchange ≡ new_exchange (question_view c.in-Ok.question) (tomb_of (of g c).may.collection.tombstone) (everyone (view_of c.self.inside.setup.proposers c.self.inside.council c.self.inside.acceptors.items c.self.inside.desks.items c.self.inside.callers.items c.self.inside.flow c.self.inside.record)) (length c.self.inside.record.marks) None
exchange_is g c = c.in-Ok-ask_each.ensures.exchange
    ∙ ap (λ (t : Ballot). new_exchange (question_view c.in-Ok.question) t c.everyone-members.result (length c.marks-since.result.now) None) (c.tomb.ensures ∙ ap (λ (x : CollectionView). tomb_of x.tombstone) (same_one g c))
    ∙ ap (λ (l : List ℕ). new_exchange (question_view c.in-Ok.question) (tomb_of (of g c).may.collection.tombstone) l (length c.marks-since.result.now) None) (members_are g c)
    ∙ ap (λ (n : ℕ). new_exchange (question_view c.in-Ok.question) (tomb_of (of g c).may.collection.tombstone) (everyone (view_of c.self.inside.setup.proposers c.self.inside.council c.self.inside.acceptors.items c.self.inside.desks.items c.self.inside.callers.items c.self.inside.flow c.self.inside.record)) n None) (since_is g c)

did : (g : Over) (c : Joined-self-2 g) → Step (meaning g.S.Shelf g.V.Disk) (view_of c.self.inside.setup.proposers c.self.inside.council c.self.inside.acceptors.items c.self.inside.desks.items c.self.inside.callers.items c.self.inside.flow c.self.inside.record) step.AskCollect (view_of c.self.inside.setup.proposers (record c.self.inside.council { exchange = Some c.in-Ok-ask_each.exchange }) c.self.inside.acceptors.items c.self.inside.desks.items c.self.inside.callers.items c.ask_each.new.flow c.reserve.new.self)
did g c = asks_all (meaning g.S.Shelf g.V.Disk) (view_of c.self.inside.setup.proposers c.self.inside.council c.self.inside.acceptors.items c.self.inside.desks.items c.self.inside.callers.items c.self.inside.flow c.self.inside.record) (view_of c.self.inside.setup.proposers (record c.self.inside.council { exchange = Some c.in-Ok-ask_each.exchange }) c.self.inside.acceptors.items c.self.inside.desks.items c.self.inside.callers.items c.ask_each.new.flow c.reserve.new.self) c.index.result.now c.self.invariant.safe (of g c) (at_desk g c) (question_view c.in-Ok.question) c.ask_each.new.flow (is_up g c) (is_question g c) (few g c)
    (λ told. record { kept = omega arith; left = λ bytes kept may on. omega (arith, ap (λ (k : Kept). k.age) (same_kept kept (kept_of c.index.result.now.vault) bytes on ((subst (λ (d : DeskView g.row.V.Denot). VaultStands g.V.Disk.tells g.V.Disk.seen g.V.Disk.may_leave d.vault) (same_desk g c) (c.age-age.ensures.stands (ap (λ (d : DeskView g.row.V.Denot). d.down) (same_desk g c) ∙ is_up g c))).images told bytes may))) })
    (subst (λ (n : ℕ). Sends c.self.inside.flow exchange_place (questions_to n (tomb_of (of g c).may.collection.tombstone) (question_view c.in-Ok.question) (everyone (view_of c.self.inside.setup.proposers c.self.inside.council c.self.inside.acceptors.items c.self.inside.desks.items c.self.inside.callers.items c.self.inside.flow c.self.inside.record))) c.ask_each.new.flow) (c.age-age.ensures.age ∙ ap (λ (d : DeskView g.row.V.Denot). (kept_of d.vault).age) (same_desk g c))
    (subst (λ (t : Ballot). Sends c.self.inside.flow exchange_place (questions_to c.age-age.result t (question_view c.in-Ok.question) (everyone (view_of c.self.inside.setup.proposers c.self.inside.council c.self.inside.acceptors.items c.self.inside.desks.items c.self.inside.callers.items c.self.inside.flow c.self.inside.record))) c.ask_each.new.flow) (c.tomb.ensures ∙ ap (λ (x : CollectionView). tomb_of x.tombstone) (same_one g c))
    (subst (λ (l : List ℕ). Sends c.self.inside.flow exchange_place (questions_to c.age-age.result c.tomb.result (question_view c.in-Ok.question) l) c.ask_each.new.flow) (members_are g c) c.in-Ok-ask_each.ensures.sent)))
    (ap (λ (ms : List Mark). record (view_of c.self.inside.setup.proposers (record c.self.inside.council { exchange = Some c.in-Ok-ask_each.exchange }) c.self.inside.acceptors.items c.self.inside.desks.items c.self.inside.callers.items c.ask_each.new.flow c.reserve.new.self) { marks = ms }) c.reserve.ensures.same
    ∙ ap (λ (e : ExchangeView). with_council (record (view_of c.self.inside.setup.proposers c.self.inside.council c.self.inside.acceptors.items c.self.inside.desks.items c.self.inside.callers.items c.self.inside.flow c.self.inside.record) { flow = c.ask_each.new.flow }) (record (council_view c.self.inside.council) { exchange = Some e })) (exchange_is g c))

pub invariant_of-self-in-Ok-ask_each : goal.invariant_of-self-in-Ok-ask_each
invariant_of-self-in-Ok-ask_each g c =
    council_world (view_of c.self.inside.setup.proposers c.self.inside.council c.self.inside.acceptors.items c.self.inside.desks.items c.self.inside.callers.items c.self.inside.flow c.self.inside.record) (view_of c.self.inside.setup.proposers (record c.self.inside.council { exchange = Some c.in-Ok-ask_each.exchange }) c.self.inside.acceptors.items c.self.inside.desks.items c.self.inside.callers.items c.ask_each.new.flow c.reserve.new.self) c.self.inside.callers.items c.self.inside.record.room c.reserve.new.self.room c.self.invariant refl
    (steps_are_safe (meaning g.S.Shelf g.V.Disk) (view_of c.self.inside.setup.proposers c.self.inside.council c.self.inside.acceptors.items c.self.inside.desks.items c.self.inside.callers.items c.self.inside.flow c.self.inside.record) step.AskCollect (view_of c.self.inside.setup.proposers (record c.self.inside.council { exchange = Some c.in-Ok-ask_each.exchange }) c.self.inside.acceptors.items c.self.inside.desks.items c.self.inside.callers.items c.ask_each.new.flow c.reserve.new.self) c.self.invariant.safe (did g c)) (remembered_then (meaning g.S.Shelf g.V.Disk) step.AskCollect (did g c) c.self.invariant.remembered)
    (omega (
      arith,
      ok_there c.reserve.result _ (sym c.is_err.ensures.value ∙ c.if-is_err.false) c.reserve.ensures.ok,
      c.count.ensures.value,
      ap (λ (l : List ℕ). length l) (members_are g c),
      c.reserved_in_all.ensures,
      ap (sum_by reserved_of) c.deref.ensures.value,
      sum_seen c.self.inside.callers.items,
      ap reserved_for_exchange (of g c).may.none_open,
      ap (λ (e : ExchangeView). e.reserved + marks_of_read e.reads e.members) (exchange_is g c),
    ))

pub returns-in-Ok-ask_each-clause-step : goal.returns-in-Ok-ask_each-clause-step
returns-in-Ok-ask_each-clause-step g c = seen_from (meaning g.S.Shelf g.V.Disk) step.AskCollect (view_of c.self.inside.setup.proposers (record c.self.inside.council { exchange = Some c.in-Ok-ask_each.exchange }) c.self.inside.acceptors.items c.self.inside.desks.items c.self.inside.callers.items c.ask_each.new.flow c.reserve.new.self) c.self.view_is (did g c)

-- ---- a full record is long
pub returns-then-is_down-clause-long : goal.returns-then-is_down-clause-long
returns-then-is_down-clause-long g c full = absurd (cc (full, c.refuse.ensures.answer))

pub returns-then-since-marks-gt-MOST_MARKS-clause-long : goal.returns-then-since-marks-gt-MOST_MARKS-clause-long
returns-then-since-marks-gt-MOST_MARKS-clause-long g c full =
    let safe = subst (λ (v : (View g.row.S.Denot g.row.V.Denot)). IsSafe v) c.self.view_is c.self.invariant.safe in
    full_for_exchanges c.args.self.now (Removal []) safe (λ room. omega (arith, room, c.if-since-marks-gt-MOST_MARKS.true, c.count.ensures.value, ap (λ (l : List ℕ). length l) (c.everyone-members.ensures ∙ ap (λ (e : Era). union_of e.prep e.acc) c.era.ensures), c.reserved_in_all.ensures, ap (sum_by reserved_of) c.deref.ensures.value, sum_seen c.self.inside.callers.items, ap (λ (l : List Mark). length l) c.marks-since.ensures, ap (λ (v : (View g.row.S.Denot g.row.V.Denot)). length v.marks + reserved_in_all v) c.self.view_is))

pub returns-then-is_err-clause-long : goal.returns-then-is_err-clause-long
returns-then-is_err-clause-long g c full = absurd (cc (full, c.refuse-then-is_err.ensures.answer, c.no_memory.ensures))

pub returns-in_default-clause-long : goal.returns-in_default-clause-long
returns-in_default-clause-long g c full = absurd (cc (full, c.refuse-in_default.ensures.answer, c.no_memory-in_default.ensures))

pub returns-in-Err-clause-long : goal.returns-in-Err-clause-long
returns-in-Err-clause-long g c full = absurd (cc (full, c.refuse-in-Err.ensures.answer, c.no_memory-in-Err.ensures))

pub returns-in-Ok-ask_each-clause-long : goal.returns-in-Ok-ask_each-clause-long
returns-in-Ok-ask_each-clause-long g c full = absurd (cc full)
