use Rattle.std.proofs.Common.{◌≡◌, ◌<◌, ◌+◌, ◌∙◌, ℕ, List, Option, refl, sym, ap, subst, arith, length, slice_set}
use Rattle.std.specs.Prelude.{sum_by, option_copied, IfSome}
use Rattle.cas_ballot.specs.Ballot.{FitsBallot}
use Rattle.cas_ballot.specs.Members.{union_of}
use Rattle.cas_proposer.specs.Desk.{DeskView}
use Rattle.cas_quorum.specs.declared.era.Era.{Era}
use Rattle.cas_record.specs.declared.answer.Answer.{Answer}
use Rattle.cas_record.specs.declared.operator.OpAnswer.TheVariants as op
use Rattle.cas_model.specs.Council as cluster
use Rattle.cas_model.specs.Council.{ExchangeView, ListingView, marks_of_read, reserved_by, reserved_for_exchange}
use Rattle.cas_model.specs.Step as step
use Rattle.cas_model.specs.Exchanges.Step.{StepAskAll, read_era, everyone, told_view}
use Rattle.cas_model.specs.View.{View, meaning, era_at, with_desk, disk_meaning}
use Rattle.cas_model.proofs.Eras.Rescanning.{told_reserves}
use Rattle.cas_model.proofs.Safety.Steps.{steps_are_safe}
use Rattle.cas_world_calls.specs.Call.{reserved_of}
use Rattle.cas_world_calls.specs.Council.{council_view, goes_on_in}
use Rattle.cas_world.specs.Exchanges.Exchange.{MayAskMembers, MayAskQuery, OpensExchange, FailsToAsk, asked_from, question_in, era_for, marks_to_ask}
use Rattle.cas_world.specs.World.{view_of}
use Rattle.cas_world.proofs.Exchanges.Asking.{idle_first, may_ask, tag_fits, asks, asks_not, full_to_ask, idle_then, refused_seen, first_id, asked_world}
use Rattle.cas_world.proofs.Exchanges.Exchanges.{reserved_fits}
use Rattle.cas_world.proofs.Parts.{at_place, remembered_then}
use Rattle.cas_world.proofs.Calls.Reserving.{sum_seen}
use Rattle.cas_world.proofs.world.World.ask_members.Given.{Over}
use Rattle.cas_world.proofs.world.World.ask_members.Goals as goal
use Rattle.cas_world.proofs.world.World.ask_members.Goals.{After-begin_exchange, After-tell}

pub reserved_in_all-reserved-requires : goal.reserved_in_all-reserved-requires
reserved_in_all-reserved-requires g c = omega (arith, reserved_fits c.self.inside.setup.proposers c.self.inside.council c.self.inside.acceptors.items c.self.inside.desks.items c.self.inside.callers.items c.self.inside.flow c.self.inside.record c.self.invariant.safe, ap (sum_by reserved_of) c.deref.ensures.value)

pub open_exchange-opened-requires-clause-idle : goal.open_exchange-opened-requires-clause-idle
open_exchange-opened-requires-clause-idle g c =
    idle_first (view_of c.self.inside.setup.proposers c.self.inside.council c.self.inside.acceptors.items c.self.inside.desks.items c.self.inside.callers.items c.self.inside.flow c.self.inside.record) c.index_mut.result.now c.self.invariant.safe (subst (λ (v : View g.row.S.Denot g.row.V.Denot). MayAskQuery v c.args.what) (sym c.self.view_is) c.requires).may.idle (at_place c.self.inside.desks.items 0 0 c.index_mut.result.now refl (omega (arith, c.self.invariant.safe.sound.desks)) c.index_mut.ensures.value)

pub open_exchange-opened-requires-clause-proposer : goal.open_exchange-opened-requires-clause-proposer
open_exchange-opened-requires-clause-proposer g c = omega (arith, first_id (view_of c.self.inside.setup.proposers c.self.inside.council c.self.inside.acceptors.items c.self.inside.desks.items c.self.inside.callers.items c.self.inside.flow c.self.inside.record) c.index_mut.result.now c.self.invariant.safe (at_place c.self.inside.desks.items 0 0 c.index_mut.result.now refl (omega (arith, c.self.invariant.safe.sound.desks)) c.index_mut.ensures.value))

pub open_exchange-opened-requires-clause-few : goal.open_exchange-opened-requires-clause-few
open_exchange-opened-requires-clause-few g c = omega (arith, reserved_fits c.self.inside.setup.proposers c.self.inside.council c.self.inside.acceptors.items c.self.inside.desks.items c.self.inside.callers.items c.self.inside.flow c.self.inside.record c.self.invariant.safe, c.reserved_in_all-reserved.ensures, ap (sum_by reserved_of) c.deref.ensures.value, sum_seen c.self.inside.callers.items)

pub open_exchange-opened-requires-clause-tag : goal.open_exchange-opened-requires-clause-tag
open_exchange-opened-requires-clause-tag g c = subst (λ (o : Option ListingView). IfSome o (λ listing. FitsBallot listing.tag)) (sym c.listing_for-goes_on.ensures) (tag_fits (view_of c.self.inside.setup.proposers c.self.inside.council c.self.inside.acceptors.items c.self.inside.desks.items c.self.inside.callers.items c.self.inside.flow c.self.inside.record) c.args.what c.self.invariant.safe)

-- ---- it opens
members_ok : (g : Over) (c : After-begin_exchange g) → c.everyone-everyone.result ≡ everyone (view_of c.self.inside.setup.proposers c.self.inside.council c.self.inside.acceptors.items c.self.inside.desks.items c.self.inside.callers.items c.self.inside.flow c.self.inside.record)
members_ok g c = c.everyone-everyone.ensures ∙ ap (λ (e : Era). union_of e.prep e.acc) (c.era-era.ensures ∙ ap (λ (v : View g.row.S.Denot g.row.V.Denot). era_at v 0) (sym c.self.view_is))

its_era_ok : (g : Over) (c : After-begin_exchange g) → read_era (view_of c.self.inside.setup.proposers c.self.inside.council c.self.inside.acceptors.items c.self.inside.desks.items c.self.inside.callers.items c.self.inside.flow c.self.inside.record) (question_in (view_of c.self.inside.setup.proposers c.self.inside.council c.self.inside.acceptors.items c.self.inside.desks.items c.self.inside.callers.items c.self.inside.flow c.self.inside.record) c.args.what) ≡ c.read_in-reads.result
its_era_ok g c = (subst (λ (v : View g.row.S.Denot g.row.V.Denot). MayAskQuery v c.args.what) (sym c.self.view_is) c.requires).reads
    ∙ sym (c.read_in-reads.ensures ∙ ap (λ (e : Era). era_for e c.args.what) (c.era-era.ensures ∙ ap (λ (v : View g.row.S.Denot g.row.V.Denot). era_at v 0) (sym c.self.view_is)))

opens : (g : Over) (c : After-begin_exchange g) → OpensExchange (disk_meaning g.V.Disk) c.index_mut.result.now c.open_exchange-opened.new.desk c.self.inside.flow c.open_exchange-opened.new.flow (everyone (view_of c.self.inside.setup.proposers c.self.inside.council c.self.inside.acceptors.items c.self.inside.desks.items c.self.inside.callers.items c.self.inside.flow c.self.inside.record)) (goes_on_in (council_view c.self.inside.council) c.args.what) c.args.what (length c.self.inside.record.marks) c.read_in-reads.result c.in-Ok.opened
opens g c =
    subst (λ (l : List ℕ). OpensExchange (disk_meaning g.V.Disk) c.index_mut.result.now c.open_exchange-opened.new.desk c.self.inside.flow c.open_exchange-opened.new.flow l (goes_on_in (council_view c.self.inside.council) c.args.what) c.args.what (length c.self.inside.record.marks) c.read_in-reads.result c.in-Ok.opened) (members_ok g c)
    (subst (λ (o : Option ListingView). OpensExchange (disk_meaning g.V.Disk) c.index_mut.result.now c.open_exchange-opened.new.desk c.self.inside.flow c.open_exchange-opened.new.flow c.everyone-everyone.result o c.args.what (length c.self.inside.record.marks) c.read_in-reads.result c.in-Ok.opened) c.listing_for-goes_on.ensures c.in-Ok.ensures.ok)

step_ok : (g : Over) (c : After-begin_exchange g) → StepAskAll (meaning g.S.Shelf g.V.Disk) (view_of c.self.inside.setup.proposers c.self.inside.council c.self.inside.acceptors.items c.self.inside.desks.items c.self.inside.callers.items c.self.inside.flow c.self.inside.record) (question_in (view_of c.self.inside.setup.proposers c.self.inside.council c.self.inside.acceptors.items c.self.inside.desks.items c.self.inside.callers.items c.self.inside.flow c.self.inside.record) c.args.what) (view_of c.self.inside.setup.proposers c.begin_exchange.new.self c.self.inside.acceptors.items (slice_set c.self.inside.desks.items 0 c.open_exchange-opened.new.desk) c.self.inside.callers.items c.open_exchange-opened.new.flow c.open_exchange-opened.new.record)
step_ok g c = record {
  desk = c.index_mut.result.now;
  may = may_ask (view_of c.self.inside.setup.proposers c.self.inside.council c.self.inside.acceptors.items c.self.inside.desks.items c.self.inside.callers.items c.self.inside.flow c.self.inside.record) (question_in (view_of c.self.inside.setup.proposers c.self.inside.council c.self.inside.acceptors.items c.self.inside.desks.items c.self.inside.callers.items c.self.inside.flow c.self.inside.record) c.args.what) c.index_mut.result.now c.self.invariant.safe (subst (λ (v : View g.row.S.Denot g.row.V.Denot). MayAskQuery v c.args.what) (sym c.self.view_is) c.requires).may (at_place c.self.inside.desks.items 0 0 c.index_mut.result.now refl (omega (arith, c.self.invariant.safe.sound.desks)) c.index_mut.ensures.value);
  asks = asks (meaning g.S.Shelf g.V.Disk) c.self.inside.setup.proposers c.self.inside.council c.begin_exchange.new.self c.self.inside.acceptors.items c.self.inside.desks.items c.index_mut.result.now c.open_exchange-opened.new.desk c.self.inside.callers.items c.self.inside.flow c.open_exchange-opened.new.flow c.self.inside.record c.open_exchange-opened.new.record c.args.what c.read_in-reads.result c.in-Ok.opened (opens g c) (its_era_ok g c)
      (omega (
        arith,
        c.in-Ok.ensures.fits,
        c.reserved_in_all-reserved.ensures,
        ap (sum_by reserved_of) c.deref.ensures.value,
        sum_seen c.self.inside.callers.items,
        ap (λ (l : List ℕ). marks_to_ask c.read_in-reads.result (asked_from l (option_copied c.listing_for-goes_on.result))) (members_ok g c),
        ap (λ (o : Option ListingView). marks_to_ask c.read_in-reads.result (asked_from (everyone (view_of c.self.inside.setup.proposers c.self.inside.council c.self.inside.acceptors.items c.self.inside.desks.items c.self.inside.callers.items c.self.inside.flow c.self.inside.record)) o)) c.listing_for-goes_on.ensures,
      )) c.in-Ok.ensures.marks c.begin_exchange.ensures.eras c.begin_exchange.ensures.opened;
}

pub invariant_of-self : goal.invariant_of-self
invariant_of-self g c =
    let none = ap (λ (v : View g.row.S.Denot g.row.V.Denot). reserved_for_exchange v.council.exchange) c.self.view_is ∙ ap reserved_for_exchange c.requires.may.none_open in
    asked_world (view_of c.self.inside.setup.proposers c.self.inside.council c.self.inside.acceptors.items c.self.inside.desks.items c.self.inside.callers.items c.self.inside.flow c.self.inside.record) _ c.open_exchange-opened.new.desk c.self.inside.callers.items c.self.inside.record.room c.open_exchange-opened.new.record.room c.self.invariant
    (ap (λ (d : DeskView g.row.V.Denot). d.round) c.in-Ok.ensures.ok.desk ∙ idle_first (view_of c.self.inside.setup.proposers c.self.inside.council c.self.inside.acceptors.items c.self.inside.desks.items c.self.inside.callers.items c.self.inside.flow c.self.inside.record) c.index_mut.result.now c.self.invariant.safe (subst (λ (v : View g.row.S.Denot g.row.V.Denot). MayAskQuery v c.args.what) (sym c.self.view_is) c.requires).may.idle (at_place c.self.inside.desks.items 0 0 c.index_mut.result.now refl (omega (arith, c.self.invariant.safe.sound.desks)) c.index_mut.ensures.value)) refl
    (steps_are_safe (meaning g.S.Shelf g.V.Disk) _ (step.AskAll (question_in (view_of c.self.inside.setup.proposers c.self.inside.council c.self.inside.acceptors.items c.self.inside.desks.items c.self.inside.callers.items c.self.inside.flow c.self.inside.record) c.args.what)) _ c.self.invariant.safe (step_ok g c)) (remembered_then (meaning g.S.Shelf g.V.Disk) (step.AskAll (question_in (view_of c.self.inside.setup.proposers c.self.inside.council c.self.inside.acceptors.items c.self.inside.desks.items c.self.inside.callers.items c.self.inside.flow c.self.inside.record) c.args.what)) (step_ok g c) c.self.invariant.remembered)
    (omega (
      arith,
      c.in-Ok.ensures.room,
      c.reserved_in_all-reserved.ensures,
      ap (sum_by reserved_of) c.deref.ensures.value,
      sum_seen c.self.inside.callers.items,
      none,
      ap reserved_by c.begin_exchange.ensures.opened,
      ap (λ (e : ExchangeView). e.reserved + marks_of_read e.reads e.members) c.in-Ok.ensures.ok.exchange,
    ))

pub returns-in-Ok-clause-step : goal.returns-in-Ok-clause-step
returns-in-Ok-clause-step g c = subst (λ (v : View g.row.S.Denot g.row.V.Denot). step.Step (meaning g.S.Shelf g.V.Disk) v (step.AskAll (question_in v c.args.what)) (view_of c.self.inside.setup.proposers c.begin_exchange.new.self c.self.inside.acceptors.items (slice_set c.self.inside.desks.items 0 c.open_exchange-opened.new.desk) c.self.inside.callers.items c.open_exchange-opened.new.flow c.open_exchange-opened.new.record)) c.self.view_is (step_ok g c)

-- ---- or not
members_err : (g : Over) (c : After-tell g) → c.everyone-everyone.result ≡ everyone (view_of c.self.inside.setup.proposers c.self.inside.council c.self.inside.acceptors.items c.self.inside.desks.items c.self.inside.callers.items c.self.inside.flow c.self.inside.record)
members_err g c = c.everyone-everyone.ensures ∙ ap (λ (e : Era). union_of e.prep e.acc) (c.era-era.ensures ∙ ap (λ (v : View g.row.S.Denot g.row.V.Denot). era_at v 0) (sym c.self.view_is))

its_era_err : (g : Over) (c : After-tell g) → read_era (view_of c.self.inside.setup.proposers c.self.inside.council c.self.inside.acceptors.items c.self.inside.desks.items c.self.inside.callers.items c.self.inside.flow c.self.inside.record) (question_in (view_of c.self.inside.setup.proposers c.self.inside.council c.self.inside.acceptors.items c.self.inside.desks.items c.self.inside.callers.items c.self.inside.flow c.self.inside.record) c.args.what) ≡ c.read_in-reads.result
its_era_err g c = (subst (λ (v : View g.row.S.Denot g.row.V.Denot). MayAskQuery v c.args.what) (sym c.self.view_is) c.requires).reads
    ∙ sym (c.read_in-reads.ensures ∙ ap (λ (e : Era). era_for e c.args.what) (c.era-era.ensures ∙ ap (λ (v : View g.row.S.Denot g.row.V.Denot). era_at v 0) (sym c.self.view_is)))

fails : (g : Over) (c : After-tell g) → FailsToAsk (disk_meaning g.V.Disk) c.index_mut.result.now c.open_exchange-opened.new.desk (goes_on_in (council_view c.self.inside.council) c.args.what) (length c.self.inside.record.marks + c.reserved_in_all-reserved.result + marks_to_ask c.read_in-reads.result (asked_from c.everyone-everyone.result (option_copied c.listing_for-goes_on.result))) c.in-Err.refusal
fails g c =
    subst (λ (o : Option ListingView). FailsToAsk (disk_meaning g.V.Disk) c.index_mut.result.now c.open_exchange-opened.new.desk o (length c.self.inside.record.marks + c.reserved_in_all-reserved.result + marks_to_ask c.read_in-reads.result (asked_from c.everyone-everyone.result (option_copied c.listing_for-goes_on.result))) c.in-Err.refusal) c.listing_for-goes_on.ensures c.in-Err.ensures.refused

step_err : (g : Over) (c : After-tell g) → StepAskAll (meaning g.S.Shelf g.V.Disk) (view_of c.self.inside.setup.proposers c.self.inside.council c.self.inside.acceptors.items c.self.inside.desks.items c.self.inside.callers.items c.self.inside.flow c.self.inside.record) (question_in (view_of c.self.inside.setup.proposers c.self.inside.council c.self.inside.acceptors.items c.self.inside.desks.items c.self.inside.callers.items c.self.inside.flow c.self.inside.record) c.args.what) (view_of c.self.inside.setup.proposers c.tell.new.self c.self.inside.acceptors.items (slice_set c.self.inside.desks.items 0 c.open_exchange-opened.new.desk) c.self.inside.callers.items c.open_exchange-opened.new.flow c.open_exchange-opened.new.record)
step_err g c = record {
  desk = c.index_mut.result.now;
  may = may_ask (view_of c.self.inside.setup.proposers c.self.inside.council c.self.inside.acceptors.items c.self.inside.desks.items c.self.inside.callers.items c.self.inside.flow c.self.inside.record) (question_in (view_of c.self.inside.setup.proposers c.self.inside.council c.self.inside.acceptors.items c.self.inside.desks.items c.self.inside.callers.items c.self.inside.flow c.self.inside.record) c.args.what) c.index_mut.result.now c.self.invariant.safe (subst (λ (v : View g.row.S.Denot g.row.V.Denot). MayAskQuery v c.args.what) (sym c.self.view_is) c.requires).may (at_place c.self.inside.desks.items 0 0 c.index_mut.result.now refl (omega (arith, c.self.invariant.safe.sound.desks)) c.index_mut.ensures.value);
  asks = asks_not (meaning g.S.Shelf g.V.Disk) (view_of c.self.inside.setup.proposers c.self.inside.council c.self.inside.acceptors.items c.self.inside.desks.items c.self.inside.callers.items c.self.inside.flow c.self.inside.record) (view_of c.self.inside.setup.proposers c.tell.new.self c.self.inside.acceptors.items (slice_set c.self.inside.desks.items 0 c.open_exchange-opened.new.desk) c.self.inside.callers.items c.open_exchange-opened.new.flow c.open_exchange-opened.new.record) c.args.what c.read_in-reads.result c.index_mut.result.now c.open_exchange-opened.new.desk
      (length c.self.inside.record.marks + c.reserved_in_all-reserved.result + marks_to_ask c.read_in-reads.result (asked_from c.everyone-everyone.result (option_copied c.listing_for-goes_on.result))) c.in-Err.refusal (at_place c.self.inside.desks.items 0 0 c.index_mut.result.now refl (omega (arith, c.self.invariant.safe.sound.desks)) c.index_mut.ensures.value) (its_era_err g c)
      (omega (
        arith,
        c.reserved_in_all-reserved.ensures,
        ap (sum_by reserved_of) c.deref.ensures.value,
        sum_seen c.self.inside.callers.items,
        ap (λ (l : List ℕ). marks_to_ask c.read_in-reads.result (asked_from l (option_copied c.listing_for-goes_on.result))) (members_err g c),
        ap (λ (o : Option ListingView). marks_to_ask c.read_in-reads.result (asked_from (everyone (view_of c.self.inside.setup.proposers c.self.inside.council c.self.inside.acceptors.items c.self.inside.desks.items c.self.inside.callers.items c.self.inside.flow c.self.inside.record)) o)) c.listing_for-goes_on.ensures,
      )) (fails g c)
      (refused_seen c.self.inside.setup.proposers c.self.inside.council c.tell.new.self c.self.inside.acceptors.items c.self.inside.desks.items c.open_exchange-opened.new.desk c.self.inside.callers.items c.self.inside.flow c.open_exchange-opened.new.flow c.self.inside.record c.open_exchange-opened.new.record (op.Stopped c.copy_of.result) c.tell.ensures.eras c.tell.ensures.told c.in-Err.ensures.not_sent c.in-Err.ensures.marks
      ∙ ap (λ (a : Answer). told_view (with_desk (view_of c.self.inside.setup.proposers c.self.inside.council c.self.inside.acceptors.items c.self.inside.desks.items c.self.inside.callers.items c.self.inside.flow c.self.inside.record) 0 c.open_exchange-opened.new.desk) (op.Stopped a)) c.copy_of.ensures);
}

pub invariant_of-self-in-Err : goal.invariant_of-self-in-Err
invariant_of-self-in-Err g c =
    asked_world (view_of c.self.inside.setup.proposers c.self.inside.council c.self.inside.acceptors.items c.self.inside.desks.items c.self.inside.callers.items c.self.inside.flow c.self.inside.record) _ c.open_exchange-opened.new.desk c.self.inside.callers.items c.self.inside.record.room c.open_exchange-opened.new.record.room c.self.invariant
    (idle_then (disk_meaning g.V.Disk) c.index_mut.result.now c.open_exchange-opened.new.desk (goes_on_in (council_view c.self.inside.council) c.args.what) _ c.in-Err.refusal (idle_first (view_of c.self.inside.setup.proposers c.self.inside.council c.self.inside.acceptors.items c.self.inside.desks.items c.self.inside.callers.items c.self.inside.flow c.self.inside.record) c.index_mut.result.now c.self.invariant.safe (subst (λ (v : View g.row.S.Denot g.row.V.Denot). MayAskQuery v c.args.what) (sym c.self.view_is) c.requires).may.idle (at_place c.self.inside.desks.items 0 0 c.index_mut.result.now refl (omega (arith, c.self.invariant.safe.sound.desks)) c.index_mut.ensures.value)) (fails g c)) refl
    (steps_are_safe (meaning g.S.Shelf g.V.Disk) _ (step.AskAll (question_in (view_of c.self.inside.setup.proposers c.self.inside.council c.self.inside.acceptors.items c.self.inside.desks.items c.self.inside.callers.items c.self.inside.flow c.self.inside.record) c.args.what)) _ c.self.invariant.safe (step_err g c)) (remembered_then (meaning g.S.Shelf g.V.Disk) (step.AskAll (question_in (view_of c.self.inside.setup.proposers c.self.inside.council c.self.inside.acceptors.items c.self.inside.desks.items c.self.inside.callers.items c.self.inside.flow c.self.inside.record) c.args.what)) (step_err g c) c.self.invariant.remembered)
    (omega (arith, c.self.invariant.room, c.in-Err.ensures.grows, ap reserved_by c.tell.ensures.told, told_reserves (council_view c.self.inside.council).order (op.Stopped c.copy_of.result)))

pub returns-in-Err-clause-step : goal.returns-in-Err-clause-step
returns-in-Err-clause-step g c = subst (λ (v : View g.row.S.Denot g.row.V.Denot). step.Step (meaning g.S.Shelf g.V.Disk) v (step.AskAll (question_in v c.args.what)) (view_of c.self.inside.setup.proposers c.tell.new.self c.self.inside.acceptors.items (slice_set c.self.inside.desks.items 0 c.open_exchange-opened.new.desk) c.self.inside.callers.items c.open_exchange-opened.new.flow c.open_exchange-opened.new.record)) c.self.view_is (step_err g c)

pub returns-in-Err-clause-none : goal.returns-in-Err-clause-none
returns-in-Err-clause-none g c =
    ap (λ (a : cluster.Council). a.exchange) c.tell.ensures.told ∙ ap (λ (v : View g.row.S.Denot g.row.V.Denot). v.council.exchange) c.self.view_is ∙ c.requires.may.none_open

-- ---- a full record is long
pub returns-in-Err-clause-long : goal.returns-in-Err-clause-long
returns-in-Err-clause-long g c full =
    subst (λ (v : View g.row.S.Denot g.row.V.Denot). 999000 < length v.marks) c.self.view_is
    (full_to_ask (disk_meaning g.V.Disk) (view_of c.self.inside.setup.proposers c.self.inside.council c.self.inside.acceptors.items c.self.inside.desks.items c.self.inside.callers.items c.self.inside.flow c.self.inside.record) c.args.what c.read_in-reads.result c.index_mut.result.now c.open_exchange-opened.new.desk
    (length c.self.inside.record.marks + c.reserved_in_all-reserved.result + marks_to_ask c.read_in-reads.result (asked_from c.everyone-everyone.result (option_copied c.listing_for-goes_on.result))) c.in-Err.refusal c.self.invariant.safe (its_era_err g c)
    (omega (
      arith,
      c.reserved_in_all-reserved.ensures,
      ap (sum_by reserved_of) c.deref.ensures.value,
      sum_seen c.self.inside.callers.items,
      ap (λ (l : List ℕ). marks_to_ask c.read_in-reads.result (asked_from l (option_copied c.listing_for-goes_on.result))) (members_err g c),
      ap (λ (o : Option ListingView). marks_to_ask c.read_in-reads.result (asked_from (everyone (view_of c.self.inside.setup.proposers c.self.inside.council c.self.inside.acceptors.items c.self.inside.desks.items c.self.inside.callers.items c.self.inside.flow c.self.inside.record)) o)) c.listing_for-goes_on.ensures,
    ))
    (fails g c) (cc full))
