-- What a call of the board does for a caller, as its pass tells.
use Rattle.std.specs.Prelude.{◌≡◌, ◌+◌, ◌-◌, ◌^◌, ◌<◌, ◌≤◌, ℕ, true, false, List, [], length, ◌∷◌, ◌++◌, Some}
use Rattle.cas_change.specs.declared.program.Clause.{Clause}
use Rattle.cas_record.specs.declared.answer.Answer.{Answer}
use Rattle.cas_record.specs.declared.mark.Mark.{Mark}
use Rattle.cas_record.specs.declared.mark.Mark.TheVariants.{Begun, Ended}
use Rattle.cas_turn.specs.Sitting.{Sitting}
use Rattle.cas_board_steps.specs.Calls.Conflicts.{is_conflict}
use Rattle.cas_board_steps.specs.Calls.Changes.{IsRefusalBehind}
use Rattle.cas_board_steps.specs.Mine.{AreOfCall, losses, wants, wanted_by, FrontGoesOn, IsLast}
use Rattle.cas_board_steps.specs.Calls.Open.{HasOpen, beside_in, rounds_in, is_met_in}

-- ---- harms
-- a fate's count of harms did not fall, and rose by at least so much unless it stands at the greatest u64
pub record IsCounted (most old new : ℕ) : Type 0 where
  pub never_falls : old ≤ new
  pub counted : new < 2 ^ 64 - 1 → old + most ≤ new

-- ---- holds
module _ {V : Type 0} where
  -- the call of that number begins, for this
  pub record HasBegunInHold (call : ℕ) (key : List ℕ) (program : List Clause) (old new : Sitting V Mark) : Type 0 where
    pub more : List Mark
    pub front : FrontGoesOn old.number old.seen new.seen (Begun old.number call key program ∷ more)
    pub of_call : AreOfCall call more
    pub none_lost : losses more ≡ 0
    pub is_open : HasOpen call new.own
    pub first : rounds_in new.own ≡ 1
    pub unmet : is_met_in new.own ≡ false
    pub beside : beside_in new.own ≡ old.own
    pub wanted : wanted_by old.number new.seen ≡ Some (wants call key program)

  -- a call for this begins and ends at once, which is no conflict; or it is not begun, and no mark is made
  pub data HasNotBegun (key : List ℕ) (program : List Clause) (old new : Sitting V Mark) (told : Answer) : Type 0 where
    ends_at_once : (call rounds : ℕ) → FrontGoesOn old.number old.seen new.seen (Begun old.number call key program ∷ Ended old.number call rounds told ∷ []) → IsLast new.seen (Ended old.number call rounds told) → new.own ≡ old.own → is_conflict told ≡ false → HasNotBegun key program old new told
    is_refused : IsRefusalBehind (length new.seen) told → FrontGoesOn old.number old.seen new.seen [] → new.own ≡ old.own → HasNotBegun key program old new told

  -- the open call of that number goes on
  pub record HasGoneOnInHold (call most : ℕ) (old new : Sitting V Mark) : Type 0 where
    pub marks : List Mark
    pub front : FrontGoesOn old.number old.seen new.seen marks
    pub of_call : AreOfCall call marks
    pub few : losses marks ≤ most
    pub is_open : HasOpen call new.own
    pub beside : beside_in new.own ≡ beside_in old.own
    pub wanted : wanted_by old.number new.seen ≡ wanted_by old.number old.seen

  -- it has ended after so many rounds with this answer, which the front's last mark tells
  pub record HasEndedInHold (call rounds most : ℕ) (old new : Sitting V Mark) (told : Answer) : Type 0 where
    pub marks : List Mark
    pub front : FrontGoesOn old.number old.seen new.seen (marks ++ Ended old.number call rounds told ∷ [])
    pub last : IsLast new.seen (Ended old.number call rounds told)
    pub of_call : AreOfCall call marks
    pub few : losses marks ≤ most
    pub still : new.own ≡ beside_in old.own

  -- ---- a change
  -- A change is a call of its caller, with the marks of its beginning and its end, and between them marks of that call alone; a conflict
  -- had all rounds that it might have. Or it is not begun, and no mark of the caller is made.
  -- So many of them at most tell of frames that were lost or made late as the fate's count of harms rose by.
  pub data AnswersChange (key : List ℕ) (program : List Clause) (tries harms harms_then : ℕ) (old new : Sitting V Mark) (told : Answer) : Type 0 where
    is_answered : (call rounds : ℕ) (between : List Mark) → FrontGoesOn old.number old.seen new.seen (Begun old.number call key program ∷ between ++ Ended old.number call rounds told ∷ []) → AreOfCall call between → IsCounted (losses between) harms harms_then
        → IsLast new.seen (Ended old.number call rounds told) → (is_conflict told ≡ true → rounds ≡ tries) → AnswersChange key program tries harms harms_then old new told
    is_not_begun : IsRefusalBehind (length new.seen) told → IsCounted 0 harms harms_then → FrontGoesOn old.number old.seen new.seen [] → AnswersChange key program tries harms harms_then old new told
