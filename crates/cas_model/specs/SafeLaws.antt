-- What is true of every cluster as it is seen, whatever its disks tell.
use Rattle.std.specs.Prelude.{◌≡◌, ⊤, ◌<◌, ◌≤◌, ℕ, suc, List, length, reverse}
use Rattle.cas_record.specs.Places.{Stands}
use Rattle.cas_record.specs.declared.mark.Mark.{Mark}
use Rattle.cas_record.specs.declared.mark.Mark.TheVariants.{EraEntered}
use Rattle.cas_quorum.specs.declared.era.Era.{Era}
use Rattle.cas_record.specs.declared.operator.Asked.TheVariants as asked
use Rattle.cas_record.specs.declared.operator.OpAnswer.{OpAnswer}
use Rattle.cas_record.specs.declared.operator.OpAnswer.TheVariants as told
use Rattle.cas_model.specs.Openings.{Opening, IsOpeningOn}
use Rattle.cas_model.specs.Safe.{IsSafe}
use Rattle.cas_model.specs.Council.{Question, OrderView}
use Rattle.cas_model.specs.Step.{Event, Step, IsOpening}
use Rattle.cas_model.specs.Calls.Step.{IsFull}
use Rattle.cas_model.specs.Exchanges.Step.{HasRoomToAsk, IsFinishedBy}
use Rattle.cas_model.specs.Eras.Course.{IsAskedEra}
use Rattle.cas_model.specs.View.{Meaning, View, era_at, reserved_in_all}

-- There is a place for each acceptor that a cluster may have, and for each proposer and its caller.
pub record HasPlaces {S V : Type 0} (view : View S V) : Type 0 where
  pub acceptors : length view.acceptors ≡ 64
  pub desks : length view.desks ≡ suc view.last_proposer
  pub callers : length view.callers ≡ suc view.last_proposer

-- A cluster that has just opened with a place for each party is safe.
abbrev pub OpeningsAreSafe : {S V : Type 0} → Meaning S V → Type 0
OpeningsAreSafe {S} {V} m = (members : List ℕ) (view : View S V) → IsOpening m members view → HasPlaces view → IsSafe view

-- And so is one that has just opened on what stood before.
abbrev pub OpeningsOnAreSafe : {S V : Type 0} → Meaning S V → Type 0
OpeningsOnAreSafe {S} {V} m = (members used : List ℕ) (floors : List Opening) (view : View S V) → IsOpeningOn m members used floors view → HasPlaces view → IsSafe view

-- Whatever is called on a cluster that is safe, it is safe then.
abbrev pub StepsAreSafe : {S V : Type 0} → Meaning S V → Type 0
StepsAreSafe {S} {V} m = (old : View S V) (event : Event) (new : View S V) → IsSafe old → Step m old event new → IsSafe new

-- All that is reserved is less than 1,000 marks.
abbrev pub LittleIsReserved : Type 0 → Type 0 → Type 0
LittleIsReserved S V = (view : View S V) → IsSafe view → reserved_in_all view < 1000

-- Where the marks of a round do not fit, more than 999,000 are made.
abbrev pub FullForRounds : Type 0 → Type 0 → Type 0
FullForRounds S V = (view : View S V) (id : ℕ) → IsSafe view → IsFull view id → 999000 < length view.marks

-- And so it is where those of an exchange do not fit.
abbrev pub FullForExchanges : Type 0 → Type 0 → Type 0
FullForExchanges S V = (view : View S V) (question : Question) → IsSafe view → (HasRoomToAsk view question → ⊥) → 999000 < length view.marks

-- ---- what the operator is told
-- each proposer up to the greatest is marked as having entered the era
abbrev pub HaveAllEntered : ℕ → ℕ → List Mark → Type 0
HaveAllEntered last_proposer era marks = (proposer : ℕ) → proposer ≤ last_proposer → Stands (EraEntered proposer era) marks

-- and so it is with the era that is told of a change of membership or of sizes
abbrev pub HaveEnteredIts : ℕ → OpAnswer → List Mark → Type 0
HaveEnteredIts last_proposer (told.Joined id era rescanned) marks = HaveAllEntered last_proposer era marks
HaveEnteredIts last_proposer (told.Left id era rescanned) marks = HaveAllEntered last_proposer era marks
HaveEnteredIts last_proposer (told.Resized need_prep need_acc era rescanned) marks = HaveAllEntered last_proposer era marks
HaveEnteredIts last_proposer other marks = ⊤

-- the era has the number that is told, and what is told of it is so: the acceptor is one of those who prepare, or none of them, or quorums
-- have these sizes
abbrev pub IsEraTold : OpAnswer → Era → Type 0
IsEraTold (told.Joined id era rescanned) now = (now.number ≡ era) × IsAskedEra (asked.Join id) now
IsEraTold (told.Left id era rescanned) now = (now.number ≡ era) × IsAskedEra (asked.Leave id) now
IsEraTold (told.Resized need_prep need_acc era rescanned) now = (now.number ≡ era) × IsAskedEra (asked.Resize need_prep need_acc) now
IsEraTold other now = ⊤

-- All are in it where a change of membership or of sizes is at its end.
abbrev pub FinishedHaveEntered : Type 0 → Type 0 → Type 0
FinishedHaveEntered S V = (view : View S V) (order : OrderView) (answer : OpAnswer) → IsSafe view → IsFinishedBy view.council order answer → HaveEnteredIts view.last_proposer answer (reverse view.marks)

-- And the era in which proposer 0 works is then as it was asked for.
abbrev pub FinishedAreAsAsked : Type 0 → Type 0 → Type 0
FinishedAreAsAsked S V = (view : View S V) (order : OrderView) (answer : OpAnswer) → IsSafe view → IsFinishedBy view.council order answer → IsEraTold answer (era_at view 0)
