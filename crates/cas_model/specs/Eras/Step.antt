-- How a change of membership begins, and how each proposer enters an era that it leads to.
use Rattle.std.specs.Prelude.{◌≡◌, ℕ, suc, Bool, ◌+◌, ◌<◌, ◌==◌, true, false, if◌then◌else◌, List, [], ◌∷◌, length, Option, None, Some, Result, Ok, Err, slice_set}
use Rattle.cas_base.specs.Faults.{Rose}
use Rattle.cas_ballot.specs.Members.{with_member}
use Rattle.cas_acceptor.specs.Acceptor.{AcceptorView}
use Rattle.cas_proposer.specs.Desk.{DeskView}
use Rattle.cas_quorum.specs.declared.era.Era.{Era}
use Rattle.cas_quorum.specs.declared.fault.PlanFault.{PlanFault}
use Rattle.cas_members.specs.declared.plan.PlanStep.{PlanStep}
use Rattle.cas_members.specs.Plan.{join_of, leave_of, resize_of}
use Rattle.cas_members.specs.Steps.{Progress}
use Rattle.cas_record.specs.declared.answer.Answer.TheVariants as answer
use Rattle.cas_record.specs.declared.answer.Cause.TheVariants as cause
use Rattle.cas_record.specs.declared.mark.Mark.TheVariants.{EraEntered}
use Rattle.cas_record.specs.declared.operator.Asked.{Asked}
use Rattle.cas_record.specs.declared.operator.Asked.TheVariants.{Join, Leave, Resize}
use Rattle.cas_record.specs.declared.operator.OpAnswer.TheVariants as told
use Rattle.cas_model.specs.Council.{OrderView, PlanView, hushed}
use Rattle.cas_model.specs.Eras.Course.{next_era}
use Rattle.cas_model.specs.Frames.Acceptors.{StartsShelf, FailsToStart}
use Rattle.cas_model.specs.Calls.Step.{most_marks}
use Rattle.cas_model.specs.Exchanges.Step.{with_council, told_view}
use Rattle.cas_model.specs.Calls.Desks.{HasKept, EntersEra, FailsToEnter}
use Rattle.cas_model.specs.Stops.Step.{closed_by, LeavesRound, GoesDown}
use Rattle.cas_model.specs.View.{Meaning, View, CallerView, IsAt, era_at, reserved_in_all, with_acceptor, with_desk, with_marks}

-- ---- a change of membership begins
-- the change that was asked for, from this era on, with these identities used; nothing else is planned
pub data IsPlanned (era : Era) (used : List ℕ) (asked : Asked) (planned : Result Progress PlanFault) : Type 0 where
  joins : (id : ℕ) → asked ≡ Join id → planned ≡ join_of era used id → IsPlanned era used asked planned
  leaves : (id : ℕ) → asked ≡ Leave id → planned ≡ leave_of era id → IsPlanned era used asked planned
  resizes : (need_prep need_acc : ℕ) → asked ≡ Resize need_prep need_acc → planned ≡ resize_of era need_prep need_acc → IsPlanned era used asked planned

abbrev pub new_plan : Asked → Progress → PlanView
new_plan asked progress = record { asked = asked; progress = progress; entered = 0; rescanned = 0; listing = None }

-- who was a member then
abbrev pub used_with : Asked → List ℕ → List ℕ
used_with (Join id) used = with_member used id
used_with other used = used

abbrev pub with_plan : {S V : Type 0} → View S V → Option PlanView → View S V
with_plan view plan = with_council view (record (hushed view.council) { plan = plan })

-- it is under way from then on
abbrev pub opened_plan : {S V : Type 0} → View S V → Asked → Progress → View S V
opened_plan view asked progress = with_council view (record (hushed view.council) { plan = Some (new_plan asked progress); used = used_with asked view.council.used })

abbrev pub is_join : Asked → Bool
is_join (Join id) = true
is_join other = false

-- the shelf of an acceptor that joins is started, or stays down, or was up; with any other change all go on as they are
pub data Welcomes {S V : Type 0} (m : Meaning S V) (old : View S V) (asked : Asked) (new : View S V) : Type 0 where
  starts : (id : ℕ) (acceptor now : AcceptorView S) → asked ≡ Join id → IsAt old.acceptors id acceptor → StartsShelf m.shelves acceptor now → new ≡ with_acceptor old id now → Welcomes m old asked new
  fails : (id : ℕ) (acceptor now : AcceptorView S) → asked ≡ Join id → IsAt old.acceptors id acceptor → FailsToStart m.shelves acceptor now → new ≡ with_acceptor old id now → Welcomes m old asked new
  is_up : (id : ℕ) (acceptor : AcceptorView S) → asked ≡ Join id → IsAt old.acceptors id acceptor → acceptor.down ≡ false → new ≡ old → Welcomes m old asked new
  stays : is_join asked ≡ false → new ≡ old → Welcomes m old asked new

-- The change that the open call asks for begins, or the call is told why not.
pub data OpensPlan {S V : Type 0} (m : Meaning S V) (old : View S V) (asked : Asked) (desk : DeskView V) (new : View S V) : Type 0 where
  is_down : desk.down ≡ true → new ≡ told_view old (told.Stopped answer.Down) → OpensPlan m old asked desk new
  is_busy : (plan : PlanView) → desk.down ≡ false → old.council.plan ≡ Some plan → new ≡ told_view old (told.Busy (era_at old 0).number) → OpensPlan m old asked desk new
  refuses : (fault : PlanFault) → desk.down ≡ false → old.council.plan ≡ None → IsPlanned (era_at old 0) old.council.used asked (Err fault) → new ≡ told_view old (told.Refused fault) → OpensPlan m old asked desk new
  opens : (progress : Progress) (middle : View S V) → desk.down ≡ false → old.council.plan ≡ None → IsPlanned (era_at old 0) old.council.used asked (Ok progress) → Welcomes m old asked middle
      → new ≡ opened_plan middle asked progress → OpensPlan m old asked desk new
  no_memory : (progress : Progress) (middle : View S V) → desk.down ≡ false → old.council.plan ≡ None → IsPlanned (era_at old 0) old.council.used asked (Ok progress) → Welcomes m old asked middle → new ≡ told_view middle (told.Stopped (answer.NoMemory false)) → OpensPlan m old asked desk new

-- an acceptor that was to join, and of whose shelf no start ever succeeded, is down then only where the shelf's count of faults rose
abbrev pub FailsByFaults : {S V : Type 0} → Meaning S V → View S V → Asked → View S V → Type 0
FailsByFaults {S} {V} m old asked new =
    (id : ℕ) (was now : AcceptorView S) → asked ≡ Join id → IsAt old.acceptors id was → IsAt new.acceptors id now → was.started ≡ false → now.down ≡ true → Rose (m.shelves.faults was.shelf) (m.shelves.faults now.shelf)

pub record StepOpenPlan {S V : Type 0} (m : Meaning S V) (old : View S V) (new : View S V) : Type 0 where
  pub order : OrderView
  pub is_open : old.council.order ≡ Some order
  pub desk : DeskView V
  pub at_desk : IsAt old.desks 0 desk
  pub none_collected : old.council.collection ≡ None
  pub opens : OpensPlan m old order.asked desk new
  pub faulted : (plan : PlanView) → old.council.plan ≡ None → new.council.plan ≡ Some plan → FailsByFaults m old order.asked new

-- ---- a proposer enters the next era
-- the steps after the first
abbrev pub rest_of : List PlanStep → List PlanStep
rest_of [] = []
rest_of (step ∷ later) = later

-- with the last proposer the era is the one that all entered last, and nothing is listed of it yet
abbrev pub plan_after : ℕ → PlanView → Era → PlanView
plan_after last_proposer plan next =
    if plan.entered == last_proposer then record plan { progress = record { era = next; left = rest_of plan.progress.left }; entered = 0; listing = None } else record plan { entered = suc plan.entered }

-- it is marked as in the era
abbrev pub entered_view : {S V : Type 0} → View S V → PlanView → Era → View S V
entered_view view plan next =
    with_marks (record (with_plan view (Some (plan_after view.last_proposer plan next))) { eras = slice_set view.eras plan.entered next }) (EraEntered plan.entered next.number ∷ [])

-- The open call asks for the change, the next era is to be entered, and it is this proposer that has to.
pub record MayEnterEra {S V : Type 0} (old : View S V) (proposer : ℕ) (plan : PlanView) (next : Era) (desk : DeskView V) : Type 0 where
  pub is_due : plan.entered ≡ proposer
  pub order : OrderView
  pub is_open : old.council.order ≡ Some order
  pub is_plan : old.council.plan ≡ Some plan
  pub is_for : plan.asked ≡ order.asked
  pub is_next : next_era old.council.plan ≡ Some next
  pub at_desk : IsAt old.desks plan.entered desk
  pub caller : CallerView
  pub at_caller : IsAt old.callers plan.entered caller

-- The next proposer enters it, or the open call is told why not.
pub data EntersNext {S V : Type 0} (m : Meaning S V) (old : View S V) (plan : PlanView) (next : Era) (desk : DeskView V) (new : View S V) : Type 0 where
  enters : (middle : View S V) → length old.marks + reserved_in_all old < most_marks
      → LeavesRound (EntersEra m.disks next) (closed_by (answer.Moved next.number) (cause.Moved next.number)) old plan.entered middle → new ≡ entered_view middle plan next → EntersNext m old plan next desk new
  is_full : length old.marks + reserved_in_all old ≡ most_marks → new ≡ told_view old (told.Stopped answer.RecordFull) → EntersNext m old plan next desk new
  is_down : length old.marks + reserved_in_all old < most_marks → desk.down ≡ true → new ≡ told_view old (told.ProposerDown plan.entered) → EntersNext m old plan next desk new
  fails : (middle : View S V) → length old.marks + reserved_in_all old < most_marks → GoesDown (FailsToEnter m.disks next) old plan.entered middle
      → new ≡ told_view middle (told.ProposerDown plan.entered) → EntersNext m old plan next desk new
  no_memory : (now : DeskView V) → length old.marks + reserved_in_all old < most_marks → desk.down ≡ false → HasKept m.disks desk.vault now.vault → now ≡ record desk { vault = now.vault }
      → new ≡ told_view (with_desk old plan.entered now) (told.Stopped (answer.NoMemory false)) → EntersNext m old plan next desk new

pub record StepEnterEra {S V : Type 0} (m : Meaning S V) (old : View S V) (proposer : ℕ) (new : View S V) : Type 0 where
  pub plan : PlanView
  pub next : Era
  pub desk : DeskView V
  pub may : MayEnterEra old proposer plan next desk
  pub enters : EntersNext m old plan next desk new
