-- Reading from the front of bytes: a value and the bytes behind it, or how many bytes are left from the first one on that cannot
-- stand there. None is left where the bytes end too early.
use Rattle.std.specs.Prelude.{ℕ, zero, suc, ◌+◌, ◌-◌, Bool, nat_lt, nat_le, ◌&&◌, if◌then◌else◌, List, [], ◌∷◌, length, take, drop, Option, Some, None, Result, Ok, Err}
use Rattle.std.specs.Int.{Width, w16, w32, w64, byte_len, from_be_bytes, cast_signed}
use Rattle.cas_ballot.specs.declared.ballot.Ballot.{Ballot}
use Rattle.cas_change.specs.Key.{first_bad_byte}
use Rattle.cas_change.specs.declared.state.State.{State}
use Rattle.cas_change.specs.declared.state.State.TheVariants.{Empty, Held}
use Rattle.cas_change.specs.declared.state.Body.TheVariants.{Number, Text}
use Rattle.cas_slot.specs.declared.slot.Accepted.{Accepted}

-- what reading gives
abbrev pub Reading : Type 0 → Type 0
Reading A = Result (A × List ℕ) ℕ

infixl 10 ◌>>=◌
abbrev pub ◌>>=◌ : {A B : Type 0} → Reading A → (A × List ℕ → Reading B) → Reading B
(Ok x) >>= f = f x
(Err left) >>= f = Err left

-- two values, one behind the other
abbrev pub pair_at : {A B : Type 0} → (List ℕ → Reading A) → (List ℕ → Reading B) → List ℕ → Reading (A × B)
pair_at first second bytes = first bytes >>= λ a. second a.1 >>= λ b. Ok ((a.0, b.0), b.1)

-- what is made of a value
abbrev pub made_at : {A B : Type 0} → (A → B) → (List ℕ → Reading A) → List ℕ → Reading B
made_at make read bytes = read bytes >>= λ a. Ok (make a.0, a.1)

-- a byte that passes the test
abbrev pub byte_where : (ℕ → Bool) → List ℕ → Reading ℕ
byte_where test [] = Err 0
byte_where test (b ∷ bytes) = if test b then Ok (b, bytes) else Err (length (b ∷ bytes))

-- a number, big-endian
abbrev pub number_at : Width → List ℕ → Reading ℕ
number_at w bytes = if nat_lt (length bytes) (byte_len w) then Err 0 else Ok (from_be_bytes w (take (byte_len w) bytes), drop (byte_len w) bytes)

-- so many bytes
abbrev pub some_at : ℕ → List ℕ → Reading (List ℕ)
some_at n bytes = if nat_lt (length bytes) n then Err 0 else Ok (take n bytes, drop n bytes)

-- reading stops at this place, if there is one
abbrev pub stopped_at : {A : Type 0} → Option ℕ → List ℕ → Reading A → Reading A
stopped_at None bytes read = read
stopped_at (Some i) bytes read = Err (length bytes - i)

abbrev pub one_later : Option ℕ → Option ℕ
one_later None = None
one_later (Some i) = Some (i + 1)

-- the place of the byte by which a number rises above this limit, where it does
abbrev pub rise_at : List ℕ → List ℕ → Option ℕ
rise_at [] bytes = None
rise_at (l ∷ limit) [] = None
rise_at (l ∷ limit) (b ∷ bytes) = if nat_lt b l then None else (if nat_lt l b then Some 0 else one_later (rise_at limit bytes))

-- ---- the parts

abbrev pub is_key_length : ℕ → Bool
is_key_length n = nat_le 1 n && nat_le n 64

-- the bytes of a key, of which there are so many
abbrev pub key_bytes_at : ℕ → List ℕ → Reading (List ℕ)
key_bytes_at n bytes = stopped_at (first_bad_byte (take n bytes)) bytes (some_at n bytes)

unfoldable pub key_at : List ℕ → Reading (List ℕ)
key_at bytes = byte_where is_key_length bytes >>= λ n. key_bytes_at n.0 n.1

-- 2 to the 48th, in eight bytes
abbrev pub most_counter : List ℕ
most_counter = 0 ∷ 1 ∷ 0 ∷ 0 ∷ 0 ∷ 0 ∷ 0 ∷ 0 ∷ []

unfoldable pub counter_at : List ℕ → Reading ℕ
counter_at bytes = stopped_at (rise_at most_counter bytes) bytes (number_at w64 bytes)

abbrev pub is_proposer : ℕ → Bool
is_proposer n = nat_le n 16

abbrev pub ballot_of : ℕ × ℕ → Ballot
ballot_of parts = record { counter = parts.0; proposer = parts.1 }

unfoldable pub ballot_at : List ℕ → Reading Ballot
ballot_at = made_at ballot_of (pair_at counter_at (byte_where is_proposer))

-- 4,000, in two bytes
abbrev pub most_length : List ℕ
most_length = 15 ∷ 160 ∷ []

unfoldable pub text_at : List ℕ → Reading (List ℕ)
text_at bytes = stopped_at (rise_at most_length bytes) bytes (number_at w16 bytes) >>= λ n. some_at n.0 n.1

abbrev pub number_state : ℕ × ℕ → State
number_state parts = Held parts.0 (Number (cast_signed w64 parts.1))

abbrev pub text_state : ℕ × List ℕ → State
text_state parts = Held parts.0 (Text parts.1)

unfoldable pub state_at : List ℕ → Reading State
state_at [] = Err 0
state_at (zero ∷ bytes) = Ok (Empty, bytes)
state_at (suc zero ∷ bytes) = made_at number_state (pair_at (number_at w64) (number_at w64)) bytes
state_at (suc (suc zero) ∷ bytes) = made_at text_state (pair_at (number_at w64) text_at) bytes
state_at (suc (suc (suc b)) ∷ bytes) = Err (length (b ∷ bytes))

abbrev pub accepted_of : Ballot × (ℕ × State) → Accepted
accepted_of parts = record { ballot = parts.0; era = parts.1.0; state = parts.1.1 }

unfoldable pub accepted_at : List ℕ → Reading Accepted
accepted_at = made_at accepted_of (pair_at ballot_at (pair_at (number_at w32) state_at))

abbrev pub optional_at : {A : Type 0} → (List ℕ → Reading A) → List ℕ → Reading (Option A)
optional_at read [] = Err 0
optional_at read (zero ∷ bytes) = Ok (None, bytes)
optional_at read (suc zero ∷ bytes) = made_at Some read bytes
optional_at read (suc (suc b) ∷ bytes) = Err (length (b ∷ bytes))
