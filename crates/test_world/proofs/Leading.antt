-- What the calls of a collection leave to the callers, and how far they lead it on.
use Rattle.std.proofs.Common.{◌≡◌, ◌≤◌, ℕ, nat_eq, true, false, List, None, Some, Ok, Err, slice_get, inl, inr, refl, sym, ap, subst, ◌∙◌, eqb-true}
use Rattle.std.specs.Prelude.{Result, OnErr, if◌then◌else◌}
use Rattle.std.proofs.lemmas.Bool.{eqb-false}
use Rattle.cas_base.proofs.Bools.{true_or_false}
use Rattle.cas_collect.specs.declared.collect.CollectStep.TheVariants as due
use Rattle.cas_record.specs.declared.answer.Answer.{Answer}
use Rattle.cas_record.specs.declared.answer.Answer.TheVariants as answer
use Rattle.cas_record.specs.declared.operator.Asked.{Asked}
use Rattle.cas_record.specs.declared.operator.OpAnswer.{OpAnswer}
use Rattle.cas_protocol.specs.Protocol.{is_done}
use Rattle.cas_model.specs.Step as step
use Rattle.cas_model.specs.Step.{Step, Event, StepBegin, StepPropose, BeginCollect, CountCollect, EndCollect}
use Rattle.cas_model.specs.Calls.Step as calls
use Rattle.cas_model.specs.Collection.Step as collects
use Rattle.cas_model.specs.Collection.Step.{BeginsCollection, StepReadHeld, StepRenew, StepMakeFloor, keep_always}
use Rattle.cas_model.specs.Exchanges.Step.{StepOrder, StepTell}
use Rattle.cas_model.specs.View.{Meaning, View, CallerView}
use Rattle.cas_model.proofs.Safety.Steps.{steps_are_safe}
use Rattle.cas_world.specs.Calls.Beginning.{HasNoCall}
use Rattle.cas_world.specs.Collection.Collect.{CountsTombstone, GoesOnCollecting, renewal_in}
use Rattle.cas_world.specs.declared.collect.Reading.{Reading}
use Rattle.cas_world.specs.declared.collect.Reading.TheVariants as reading
use Rattle.cas_world_calls.specs.declared.council.Gathered.{Gathered}
use Rattle.casreg_script.specs.Collection.Collecting.{IsDue}
use Rattle.casreg_script.specs.Exchanges.Exchanges.{HasConfirmed}
use Rattle.casreg_script.specs.Exchanges.Orders.{KeepsIdle}
use Rattle.casreg_script.proofs.Exchanges.Asking.{both_idle, keeps_idle, same_idle, order_keeps, tell_keeps}
use Rattle.casreg_script.proofs.Collection.Collecting as script
use Rattle.casreg_script.proofs.Collection.Collecting.{KeepsClients, floor_idle, renew_idle, renewed_so}
use Rattle.casreg_script.proofs.Calls.Keeping.{KeepsOthers, begin_keeps, count_keeps, propose_keeps, end_leaves}
use Rattle.casreg_script.proofs.Others.{get_other}
use Rattle.test_world.specs.Play.{Goes, IsRenewing, Leads, renews, renewed}

-- ---- what they leave
pub same_leads : {S V : Type 0} (old : View S V) → Leads old old
same_leads old = record { last_proposer = refl; others = λ id other was. was; safe = λ was. was }

pub then_leads : {S V : Type 0} (old mid new : View S V) → Leads old mid → Leads mid new → Leads old new
then_leads old mid new before after = record { last_proposer = after.last_proposer ∙ before.last_proposer; others = λ id other was. after.others id other (before.others id other was); safe = λ was. after.safe (before.safe was) }

pub same_goes : {S V : Type 0} (old : View S V) → Goes old old
same_goes old = record { idle = same_idle old; safe = λ was. was }

pub then_goes : {S V : Type 0} (old mid new : View S V) → Goes old mid → Goes mid new → Goes old new
then_goes old mid new before after = record { idle = both_idle old mid new before.idle after.idle; safe = λ was. after.safe (before.safe was) }

-- a step by which callers that have no open call have none still
pub step_goes : {S V : Type 0} (m : Meaning S V) (old new : View S V) (event : Event) → Step m old event new → KeepsIdle old new → Goes old new
step_goes m old new event by idle = record { idle = idle; safe = λ was. steps_are_safe m old event new was by }

pub order_goes : {S V : Type 0} (m : Meaning S V) (old new : View S V) (what : Asked) → StepOrder old what new → Goes old new
order_goes m old new what by = step_goes m old new (step.Order what) by (keeps_idle old new (order_keeps old new what by))

pub tell_goes : {S V : Type 0} (m : Meaning S V) (old new : View S V) (told : OpAnswer) → StepTell old told new → Goes old new
tell_goes m old new told by = step_goes m old new (step.Tell told) by (keeps_idle old new (tell_keeps old new told by))

-- a step by which the others keep theirs
clients_lead : {S V : Type 0} (m : Meaning S V) (old new : View S V) (event : Event) → Step m old event new → KeepsClients old new → Leads old new
clients_lead m old new event by keeps = record {
  last_proposer = keeps.last_proposer;
  others = λ id other was. record { caller = was.caller; at_caller = keeps.others id other ∙ was.at_caller; none_open = was.none_open };
  safe = λ was. steps_are_safe m old event new was by;
}

of_others : {S V : Type 0} (old new : View S V) → KeepsOthers old new 0 → KeepsClients old new
of_others old new keeps = record { last_proposer = keeps.last_proposer; others = keeps.others }

pub others_lead : {S V : Type 0} (m : Meaning S V) (old new : View S V) (event : Event) → Step m old event new → KeepsOthers old new 0 → Leads old new
others_lead m old new event by keeps = clients_lead m old new event by (of_others old new keeps)

-- and caller 0 has none after it
pub leads_on : {S V : Type 0} (old new : View S V) → Leads old new → HasNoCall new 0 → Goes old new
leads_on {S} {V} old new by own = record { idle = record { last_proposer = by.last_proposer; idle = idle }; safe = by.safe }
  where
    idle : (id : ℕ) → HasNoCall old id → HasNoCall new id
    idle id was = elim (true_or_false (nat_eq id 0)) [
      | inl is ↦ subst (HasNoCall new) (sym (eqb-true id 0 is)) own
      | inr other ↦ by.others id (eqb-false id 0 other) was
    ]

-- ---- the call of a collection
same_callers : {S V : Type 0} (old new : View S V) → new.last_proposer ≡ old.last_proposer → new.callers ≡ old.callers → KeepsClients old new
same_callers old new last_proposer callers = record { last_proposer = last_proposer; others = λ p other. ap (λ (l : List CallerView). slice_get l p) callers }

clients_join : {S V : Type 0} (old mid new : View S V) → KeepsClients old mid → KeepsClients mid new → KeepsClients old new
clients_join old mid new before after = record { last_proposer = after.last_proposer ∙ before.last_proposer; others = λ p other. after.others p other ∙ before.others p other }

refused_clients : {S V : Type 0} (m : Meaning S V) (old new : View S V) (key : List ℕ) → calls.RefusesCall m old 0 key new → KeepsClients old new
refused_clients {S} {V} m old new key (calls.stays told council refusal anew is) = same_callers old new (ap (λ (w : View S V). w.last_proposer) is) (ap (λ (w : View S V). w.callers) is)
refused_clients {S} {V} m old new key (calls.loses caller desk now ballot council at_caller at_desk none up loses anew is) = same_callers old new (ap (λ (w : View S V). w.last_proposer) is) (ap (λ (w : View S V). w.callers) is)

pub begin_leads : {S V : Type 0} (m : Meaning S V) (old new : View S V) (key : List ℕ) → Step m old (BeginCollect key) new → Leads old new
begin_leads {S} {V} m old new key by = clients_lead m old new (BeginCollect key) by (by_case by.begins)
  where
    after : (middle changed : View S V) → KeepsClients old middle → new ≡ changed → changed.last_proposer ≡ middle.last_proposer → changed.callers ≡ middle.callers → KeepsClients old new
    after middle changed before is last_proposer callers = clients_join old middle new before (same_callers middle new (ap (λ (w : View S V). w.last_proposer) is ∙ last_proposer) (ap (λ (w : View S V). w.callers) is ∙ callers))

    by_case : BeginsCollection m (λ before next. StepBegin m before 0 key keep_always next) old key by.may.order by.desk by.caller new → KeepsClients old new
    by_case (collects.is_down none down is) = same_callers old new (ap (λ (w : View S V). w.last_proposer) is) (ap (λ (w : View S V). w.callers) is)
    by_case (collects.is_busy plan none up is_plan is) = same_callers old new (ap (λ (w : View S V). w.last_proposer) is) (ap (λ (w : View S V). w.callers) is)
    by_case (collects.is_full none up no_plan full is) = same_callers old new (ap (λ (w : View S V). w.last_proposer) is) (ap (λ (w : View S V). w.callers) is)
    by_case (collects.no_memory middle none up no_plan refuses is) = after middle _ (refused_clients m old middle key refuses) is refl refl
    by_case (collects.begins middle none no_plan begins is) = after middle _ (of_others old middle (begin_keeps m old middle 0 key keep_always begins)) is refl refl
    by_case (collects.goes_on middle call is_c is_call begins is) = after middle _ (of_others old middle (begin_keeps m old middle 0 key keep_always begins)) is refl refl

-- what its prepare phase came to
pub reading_leads : {S V : Type 0} (m : Meaning S V) (old new : View S V) (result : Result Reading Answer) → (result ≡ Ok reading.Empty → StepPropose m old 0 new) → ((version : ℕ) → result ≡ Ok (reading.Held version) → StepReadHeld m old new)
    → OnErr result (StepPropose m old 0 new) → Leads old new
reading_leads {S} {V} m old new (Ok (reading.Held version)) empty held err =
    let by = held version refl in
    clients_lead m old new step.ReadHeld by (record {
      last_proposer = ap (λ (w : View S V). w.last_proposer) by.view;
      others = λ p other. ap (λ (w : View S V). slice_get w.callers p) by.view ∙ get_other old.callers 0 (record by.of_call.caller { call = None }) p other;
    })
reading_leads m old new (Ok reading.Empty) empty held err = others_lead m old new (step.Propose 0) (empty refl) (propose_keeps m old new 0 (empty refl))
reading_leads m old new (Err told) empty held err = others_lead m old new (step.Propose 0) err (propose_keeps m old new 0 err)

-- what was accepted is counted
acknowledges_lead : {S V : Type 0} (m : Meaning S V) (old new : View S V) → Step m old CountCollect new → Leads old new
acknowledges_lead {S} {V} m old new by =
    clients_lead m old new CountCollect by (clients_join old by.middle new (of_others old by.middle (count_keeps m old by.middle 0 by.counts)) (same_callers by.middle new (ap (λ (w : View S V). w.last_proposer) by.view) (ap (λ (w : View S V). w.callers) by.view)))

counts_done : {S V : Type 0} (m : Meaning S V) (old new : View S V) (told : Answer) → is_done told ≡ true → CountsTombstone m old told new → Step m old CountCollect new
counts_done m old new (answer.Done state took ballot) done by = by
counts_done m old new told done by = absurd (cc done)

counts_other : {S V : Type 0} (m : Meaning S V) (old new : View S V) (told : Answer) → is_done told ≡ false → CountsTombstone m old told new → Step m old (step.Count 0) new
counts_other m old new (answer.Done state took ballot) other by = absurd (cc other)
counts_other m old new told other by = by

pub count_leads : {S V : Type 0} (m : Meaning S V) (old new : View S V) (told : Answer) → CountsTombstone m old told new → Leads old new
count_leads m old new told by = elim (true_or_false (is_done told)) [
  | inl done ↦ acknowledges_lead m old new (counts_done m old new told done by)
  | inr other ↦ let counts = counts_other m old new told other by in others_lead m old new (step.Count 0) counts (count_keeps m old new 0 counts)
]

-- it ends
pub end_leads : {S V : Type 0} (m : Meaning S V) (old new : View S V) (told : Answer) → Step m old (EndCollect told) new → Leads old new
end_leads {S} {V} m old new told by =
    let leaves = end_leaves m old by.middle 0 told by.ends in
    clients_lead m old new (EndCollect told) by (clients_join old by.middle new (record { last_proposer = leaves.last_proposer; others = leaves.others }) (same_callers by.middle new (ap (λ (w : View S V). w.last_proposer) by.view) (ap (λ (w : View S V). w.callers) by.view)))

-- ---- how far it has come
as_script : {S V : Type 0} (view : View S V) (key : List ℕ) → IsRenewing view key → script.IsRenewalDue view key
as_script view key (renews proposer was) = script.renews proposer was
as_script view key (renewed was) = script.renewed was

of_script : {S V : Type 0} (view : View S V) (key : List ℕ) → script.IsRenewalDue view key → IsRenewing view key
of_script view key (script.renews proposer was) = renews proposer was
of_script view key (script.renewed was) = renewed was

-- the renewal that is next is due
pub due_renewal : {S V : Type 0} (view : View S V) (key : List ℕ) (proposer : ℕ) → IsRenewing view key → renewal_in view.council.collection ≡ Some proposer → IsDue view key (due.Renew proposer)
due_renewal view key proposer was is = script.due_renewal view key proposer (as_script view key was) is

-- none is left
pub all_renewed : {S V : Type 0} (view : View S V) (key : List ℕ) → IsRenewing view key → renewal_in view.council.collection ≡ None → IsDue view key due.Ages
all_renewed view key was is = script.all_renewed view key (as_script view key was) is

-- it was made
pub goes_renewing : {S V : Type 0} (m : Meaning S V) (old new : View S V) (key : List ℕ) (proposer : ℕ) → proposer ≤ old.last_proposer → IsDue old key (due.Renew proposer) → GoesOnCollecting old new → StepRenew m old proposer new → IsRenewing new key
goes_renewing m old new key proposer few was by made = of_script new key (renewed_so old new key proposer few was by (renew_idle m old new proposer made)).still

pub quiet_in : {S V : Type 0} (view : View S V) (key : List ℕ) → IsRenewing view key → view.council.exchange ≡ None
quiet_in view key (renews proposer was) = was.quiet
quiet_in view key (renewed was) = was.quiet

-- ---- its last steps
pub led_ages : {S V : Type 0} (old new : View S V) (key : List ℕ) (result : Gathered) → IsDue old key due.Ages → HasConfirmed old result new → Goes old new → IsDue new key due.Floor
led_ages old new key result was found by = script.confirmed_due old new key due.Ages result was found by.idle

pub floor_goes : {S V : Type 0} (m : Meaning S V) (old new : View S V) → StepMakeFloor old new → Goes old new
floor_goes m old new by = step_goes m old new step.MakeFloor by (floor_idle old new by)

pub led_floor : {S V : Type 0} (old new : View S V) (key : List ℕ) → IsDue old key due.Floor → StepMakeFloor old new → GoesOnCollecting old new → IsDue new key due.Remove
led_floor old new key was by goes = script.goes_due old new key due.Floor was goes ((floor_idle old new by).idle 0 was.idle)

pub led_removal : {S V : Type 0} (old new : View S V) (key : List ℕ) (result : Gathered) → IsDue old key due.Remove → HasConfirmed old result new → Goes old new → IsDue new key due.End
led_removal old new key result was found by = script.confirmed_due old new key due.Remove result was found by.idle
