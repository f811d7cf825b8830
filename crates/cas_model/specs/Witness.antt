-- That there is a history in which a call is done and the next one is proposed by the promise that rode along with it.
use Rattle.std.specs.Prelude.{◌≡◌, ◌⊎◌, ⊤, ℕ, true, List, [], ◌∷◌, reverse, pos, Ok}
use Rattle.cas_change.specs.declared.outcome.Took.TheVariants.{Clause as ByClause}
use Rattle.cas_change.specs.declared.state.Body.TheVariants.{Number}
use Rattle.cas_change.specs.declared.state.State.TheVariants.{Held}
use Rattle.cas_slot.specs.Contents.{Contents}
use Rattle.cas_vault.specs.declared.kept.Kept.{Kept}
use Rattle.cas_vault.specs.Vault.{KeptOn}
use Rattle.cas_record.specs.declared.answer.Answer.TheVariants as answer
use Rattle.cas_record.specs.declared.mark.Mark.TheVariants.{Harmed, Proposed, Ended}
use Rattle.cas_record.specs.Places.{Stands}
use Rattle.cas_record.specs.Logs.Witness.{key_a, at}
use Rattle.cas_model.specs.Step.{History}
use Rattle.cas_model.specs.View.{Meaning, View}

-- a shelf that holds these contents; a crash leaves them, or the others; and how often it failed
pub record ToyShelf : Type 0 where
  pub contents : Contents
  pub others : Contents
  pub faults : ℕ

-- a disk of a vault that keeps this and never fails, and a crash leaves just that
pub record ToyDisk : Type 0 where
  pub kept : Kept

-- what they mean; they tell all that they keep
abbrev pub toys : Meaning ToyShelf ToyDisk
toys = record {
  shelves = record {
    contents = λ shelf. shelf.contents;
    tells = ⊤;
    may_leave = λ shelf left. (left ≡ Ok shelf.contents) ⊎ (left ≡ Ok shelf.others);
    faults = λ shelf. shelf.faults;
  };
  disks = record { tells = ⊤; may_leave = λ disk image. KeptOn disk.kept image; faults = λ disk. 0 };
}

-- A history: an acceptor goes down within the first call of proposer 1, which is answered Done at the ballot 1.1, for a change that adds
-- 5; the next one is proposed at 2.1, which had ridden along; and proposer 2 crashes within a call.
pub record ShownHistory : Type 0 where
  pub members : List ℕ
  pub view : View ToyShelf ToyDisk
  pub history : History toys members view
  pub harmed : Stands (Harmed 1 1 true) (reverse view.marks)
  pub done : Stands (Ended 1 1 1 (answer.Done (Held 0 (Number (pos 5))) (ByClause 0) (at 1 1))) (reverse view.marks)
  pub rides : Stands (Proposed (record { caller = 1; call = 2; key = key_a; ballot = at 2 1; read = at 1 1; era = 0; prepared_by = 1 ∷ 2 ∷ [] })) (reverse view.marks)
  pub crashed : Stands (Ended 2 1 1 answer.Crashed) (reverse view.marks)
