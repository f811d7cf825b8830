-- The one spelling of each part of frames and cells, and what has one. Numbers are big-endian.
use Rattle.std.specs.Prelude.{ℕ, ◌<◌, ◌^◌, List, [], ◌∷◌, ◌++◌, length, Option, Some, None, FitsSigned}
use Rattle.std.specs.Int.{w16, w32, w64, to_be_bytes, cast_unsigned}
use Rattle.cas_ballot.specs.declared.ballot.Ballot.{Ballot}
use Rattle.cas_ballot.specs.Ballot.{FitsBallot}
use Rattle.cas_change.specs.Text.{IsText}
use Rattle.cas_change.specs.declared.state.State.{State}
use Rattle.cas_change.specs.declared.state.State.TheVariants.{Empty, Held}
use Rattle.cas_change.specs.declared.state.Body.{Body}
use Rattle.cas_change.specs.declared.state.Body.TheVariants.{Number, Text}
use Rattle.cas_slot.specs.declared.slot.Accepted.{Accepted}

-- a key is its length and its bytes
unfoldable pub key_spelling : List ℕ → List ℕ
key_spelling key = length key ∷ key

-- a ballot is its counter in eight bytes and its proposer
unfoldable pub ballot_spelling : Ballot → List ℕ
ballot_spelling ballot = to_be_bytes w64 ballot.counter ++ ballot.proposer ∷ []

abbrev pub body_kind : Body → ℕ
body_kind (Number n) = 1
body_kind (Text text) = 2

-- a number is in two's complement; a text is its length in two bytes and its bytes
abbrev pub body_spelling : Body → List ℕ
body_spelling (Number n) = to_be_bytes w64 (cast_unsigned w64 n)
body_spelling (Text text) = to_be_bytes w16 (length text) ++ text

-- a state is 0 where it is empty, and else the kind of its body, its version in eight bytes, and its body
unfoldable pub state_spelling : State → List ℕ
state_spelling Empty = 0 ∷ []
state_spelling (Held version body) = body_kind body ∷ to_be_bytes w64 version ++ body_spelling body

-- what was accepted is its ballot, its era in four bytes, and its state
unfoldable pub accepted_spelling : Accepted → List ℕ
accepted_spelling accepted = ballot_spelling accepted.ballot ++ (to_be_bytes w32 accepted.era ++ state_spelling accepted.state)

-- 0 where there is nothing, and else 1 and what there is
abbrev pub optional_spelling : {A : Type 0} → (A → List ℕ) → Option A → List ℕ
optional_spelling spelling None = 0 ∷ []
optional_spelling spelling (Some x) = 1 ∷ spelling x

-- ---- what has a spelling

abbrev pub FitsBody : Body → Type 0
FitsBody (Number n) = FitsSigned w64 n
FitsBody (Text text) = IsText text

abbrev pub FitsState : State → Type 0
FitsState Empty = Unit {0}
FitsState (Held version (Number n)) = (version < 2 ^ 64) × FitsSigned w64 n
FitsState (Held version (Text text)) = (version < 2 ^ 64) × IsText text

pub record FitsAccepted (accepted : Accepted) : Type 0 where
  pub ballot : FitsBallot accepted.ballot
  pub era : accepted.era < 2 ^ 32
  pub state : FitsState accepted.state
