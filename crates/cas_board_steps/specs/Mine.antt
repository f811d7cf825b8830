-- A caller's own marks in a front of the record, and those of one of its calls.
use Rattle.std.specs.Prelude.{◌≡◌, ℕ, suc, ◌==◌, ◌+◌, Bool, false, if◌then◌else◌, List, [], ◌∷◌, ◌++◌, All, Option, None, Some}
use Rattle.cas_change.specs.declared.program.Clause.{Clause}
use Rattle.cas_record.specs.declared.mark.Mark.{Mark}
use Rattle.cas_record.specs.declared.mark.Mark.TheVariants.{Begun, Proposed, Ended, Harmed}
use Rattle.cas_protocol.specs.Protocol.{is_done}
use Rattle.cas_turn.specs.Seen.{Begins}
use Rattle.cas_board_steps.specs.Owners.{owner_of}

abbrev pub is_owner : ℕ → Option ℕ → Bool
is_owner n None = false
is_owner n (Some owner) = owner == n

-- the marks that the caller owns, in order
abbrev pub mine : ℕ → List Mark → List Mark
mine n [] = []
mine n (mark ∷ later) = if is_owner n (owner_of mark) then mark ∷ mine n later else mine n later

-- the call within which a mark stands, of which it is neither the beginning nor the end
abbrev pub call_of : Mark → Option ℕ
call_of (Proposed p) = Some p.call
call_of (Harmed caller call down) = Some call
call_of other = None

-- all of them stand within that call
abbrev pub AreOfCall : ℕ → List Mark → Type 0
AreOfCall call marks = All (λ mark. call_of mark ≡ Some call) marks

-- how many frames were lost or made late, as they tell
abbrev pub losses : List Mark → ℕ
losses [] = 0
losses (Harmed caller call false ∷ later) = 1 + losses later
losses (mark ∷ later) = losses later

-- how many calls were answered done, as they tell
abbrev pub done_calls : List Mark → ℕ
done_calls [] = 0
done_calls (Ended caller call rounds answer ∷ later) = if is_done answer then suc (done_calls later) else done_calls later
done_calls (mark ∷ later) = done_calls later

-- ---- what a caller asks for
pub record Wanted : Type 0 where
  pub number : ℕ
  pub key : List ℕ
  pub program : List Clause

abbrev pub wants : ℕ → List ℕ → List Clause → Wanted
wants number key program = record { number = number; key = key; program = program }

-- what the caller asked for last, where it asked for this before
abbrev pub wanted_after : ℕ → Option Wanted → List Mark → Option Wanted
wanted_after n before [] = before
wanted_after n before (Begun caller call key program ∷ later) = wanted_after n (if caller == n then Some (wants call key program) else before) later
wanted_after n before (mark ∷ later) = wanted_after n before later

abbrev pub wanted_by : ℕ → List Mark → Option Wanted
wanted_by n marks = wanted_after n None marks

-- ---- fronts that go on
-- the front goes on with these of the caller's own marks
pub record FrontGoesOn (n : ℕ) (old new own : List Mark) : Type 0 where
  pub begins : Begins old new
  pub own_marks : mine n new ≡ mine n old ++ own

-- this is the last mark of the front
pub record IsLast (front : List Mark) (mark : Mark) : Type 0 where
  pub before : List Mark
  pub whole : before ++ mark ∷ [] ≡ front
