-- That what the operator was told of a change of membership and of a collection is so in the record. Marks are read newest first.
use Rattle.std.specs.Prelude.{◌<◌, ⊤, ℕ, suc, List, reverse, Option, None, Some, IfSome}
use Rattle.cas_change.specs.declared.state.State.TheVariants.{Empty}
use Rattle.cas_record.specs.Places.{At, Stands}
use Rattle.cas_record.specs.declared.mark.Mark.{Mark}
use Rattle.cas_record.specs.declared.mark.Mark.TheVariants.{EraEntered, Floor, Told}
use Rattle.cas_record.specs.declared.operator.Asked.{Asked}
use Rattle.cas_record.specs.declared.operator.OpAnswer.{OpAnswer}
use Rattle.cas_record.specs.declared.operator.OpAnswer.TheVariants as told
pub use Rattle.cas_model.specs.Exchanges.Tellings.{IsPassing}
use Rattle.cas_model.specs.Exchanges.Tellings.{WasToldSo}
use Rattle.cas_model.specs.History.{IsRemembered}
use Rattle.cas_model.specs.Safe.{IsSafe}
use Rattle.cas_model.specs.Step.{Event, Step}
use Rattle.cas_model.specs.View.{Meaning, View}

-- each of so many proposers, of whom the operator's is the first, entered the era
abbrev pub HaveAllMoved : ℕ → ℕ → List Mark → Type 0
HaveAllMoved proposers era marks = (proposer : ℕ) → proposer < proposers → Stands (EraEntered proposer era) marks

-- What the operator is told is so: all proposers had moved to the era of a join or a leave, and the key of a collection had its tombstone as
-- a floor, with the empty state.
abbrev pub IsSo : ℕ → OpAnswer → List Mark → Type 0
IsSo proposers (told.Joined id era rescanned) marks = HaveAllMoved proposers era marks
IsSo proposers (told.Left id era rescanned) marks = HaveAllMoved proposers era marks
IsSo proposers (told.Resized need_prep need_acc era rescanned) marks = HaveAllMoved proposers era marks
IsSo proposers (told.Collected key ballot removed kept) marks = Stands (Floor key ballot Empty) marks
IsSo proposers other marks = ⊤

-- each telling is so in the marks before it
pub record AreTellingsSo (proposers : ℕ) (marks : List Mark) : Type 0 where
  pub so : {asked : Asked} {answer : OpAnswer} {older : List Mark} → At (Told asked answer) older marks → IsSo proposers answer older

-- ---- in the cluster
-- all tellings are so of its proposers, and no open call was told of an end yet
pub record TellingsAreTrue {S V : Type 0} (view : View S V) : Type 0 where
  pub tellings : AreTellingsSo (suc view.last_proposer) (reverse view.marks)
  pub passing : WasToldSo IsPassing view.council.order

-- Where shelves and disks tell what they keep, each step leaves it so.
abbrev pub StepsTellTruly : {S V : Type 0} → Meaning S V → Type 0
StepsTellTruly {S} {V} m = (old : View S V) (event : Event) (new : View S V) → IsSafe old → IsRemembered m old → Step m old event new → TellingsAreTrue old → TellingsAreTrue new
