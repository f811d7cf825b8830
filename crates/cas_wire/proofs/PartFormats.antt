-- The formats of the parts.
use Rattle.std.proofs.Common.{◌≡◌, ℕ, zero, suc, ◌-◌, ◌^◌, lit<, ◌<◌, ◌≤◌, Bool, true, ltb, leb, List, [], ◌∷◌, ◌++◌, length, take, drop, Option, Some, None, Ok, Err, refl, sym, ap, subst, ◌∙◌, append_assoc, arith, inl, inr}
use Rattle.std.specs.Prelude.{IfSome, ◌&&◌, ◌⊎◌, ℤ, pos, negsuc, FitsSigned}
use Rattle.std.specs.Cmp.{first_so, second_so}
use Rattle.std.specs.Int.{w16, w32, w64, to_be_bytes, cast_signed, cast_unsigned}
use Rattle.std.proofs.lemmas.Bool.{leb-true, le-leb}
use Rattle.std.proofs.lemmas.Int.{of_z-to_z, to_z-of_z}
use Rattle.std.proofs.Math.Facts.{sfits_to_z}
use Rattle.std.proofs.lemmas.List.{take_at}
use Rattle.cas_ballot.specs.declared.ballot.Ballot.{Ballot}
use Rattle.cas_ballot.specs.Ballot.{FitsBallot}
use Rattle.cas_change.specs.Key.{IsKey, first_bad_byte}
use Rattle.cas_change.specs.Text.{IsText}
use Rattle.cas_change.specs.declared.state.State.{State}
use Rattle.cas_change.specs.declared.state.State.TheVariants.{Empty, Held}
use Rattle.cas_change.specs.declared.state.Body.TheVariants.{Number, Text}
use Rattle.cas_change.proofs.Keys.{key_bytes, no_bad_byte}
use Rattle.cas_slot.specs.declared.slot.Accepted.{Accepted}
use Rattle.cas_wire.specs.Reading.{Reading, ◌>>=◌, pair_at, byte_where, number_at, some_at, stopped_at, is_key_length, key_bytes_at, key_at, most_counter, counter_at, is_proposer, ballot_of, ballot_at, most_length, text_at, number_state, text_state, state_at, accepted_of, accepted_at, optional_at}
use Rattle.cas_wire.specs.Spelling.{key_spelling, ballot_spelling, state_spelling, accepted_spelling, optional_spelling, FitsState, FitsAccepted}
use Rattle.cas_wire.proofs.Limited.{IsLimit, limited_at, limited_format}
use Rattle.cas_wire.proofs.Limits.{IsBytes-high_first, value-of_8, value-of_2}
use Rattle.cas_base.proofs.Bytes.{IsBytes}
use Rattle.cas_wire.proofs.Formats.{IsBytes-rest, bind_ok, bind_err, ok_is, left_is, not_err, guard_err, stopped_ok, Takes, Takes-then, rest_shorter, IsFormat, byte_format, wide16, wide32, wide64, number_format, some_takes, some_again, pair_format, made_format, optional_format}

-- ---- keys

pub key_length_of : (n : ℕ) → is_key_length n ≡ true → (1 ≤ n) × (n ≤ 64)
key_length_of n e = (leb-true 1 n (first_so (leb 1 n) (leb n 64) e), leb-true n 64 (second_so (leb 1 n) (leb n 64) e))

pub both : (a b : Bool) → a ≡ true → b ≡ true → (a && b) ≡ true
both a b p q = rw (p, q) refl

key_takes : (bytes : List ℕ) (x : List ℕ × List ℕ) → IsBytes bytes → key_at bytes ≡ Ok x → Takes bytes (key_spelling x.0) x.1 × IsKey x.0
unfolding key_at key_spelling
key_takes bytes x fits e =
    let a = bind_ok (byte_where is_key_length bytes) (λ n. key_bytes_at n.0 n.1) x e in
    let head = (byte_format is_key_length).takes bytes a.0 fits a.1 in
    let s = stopped_ok (first_bad_byte (take a.0.0 a.0.1)) a.0.1 (some_at a.0.0 a.0.1) x a.2 in
    let body = some_takes a.0.0 a.0.1 x head.0.rest_fits s.1 in
    let len : length x.0 ≡ a.0.0 = body.1.0 in
    let few = key_length_of a.0.0 head.1.0 in
    let clean : first_bad_byte x.0 ≡ None = ap first_bad_byte body.1.1 ∙ s.0 in (
      subst (λ (n : ℕ). Takes bytes (n ∷ x.0) x.1) (sym len) (Takes-then bytes (a.0.0 ∷ []) a.0.1 x.0 x.1 head.0 body.0),
      key_bytes x.0 (omega (arith, len, few.0)) (omega (arith, len, few.1)) clean,
    )

none_bad : (key : List ℕ) (o : Option ℕ) → first_bad_byte key ≡ o → IsKey key → o ≡ None
none_bad key None e is = refl
none_bad key (Some at) e is = absurd (no_bad_byte key at is e)

key_again : (key rest : List ℕ) → IsKey key → key_at (key_spelling key ++ rest) ≡ Ok (key, rest)
unfolding key_at key_spelling
key_again key rest is =
    let few : is_key_length (length key) ≡ true = both (leb 1 (length key)) (leb (length key) 64) (le-leb 1 (length key) is.not_empty) (le-leb (length key) 64 is.fits) in
    let clean : first_bad_byte (take (length key) (key ++ rest)) ≡ None = ap first_bad_byte (take_at key rest (length key) refl) ∙ none_bad key (first_bad_byte key) refl is in
    ap (λ (r : Reading ℕ). r >>= λ n. key_bytes_at n.0 n.1) ((byte_format is_key_length).again (length key) (key ++ rest) (few, omega (arith, is.fits)))
    ∙ ap (λ (o : Option ℕ). stopped_at o (key ++ rest) (some_at (length key) (key ++ rest))) clean
    ∙ some_again key rest

stopped_err : {A : Type 0} (o : Option ℕ) (bytes : List ℕ) (r : Reading A) (left : ℕ) → stopped_at o bytes r ≡ Err left → (left ≤ length bytes) ⊎ (r ≡ Err left)
stopped_err None bytes r left e = inr e
stopped_err {A} (Some i) bytes r left e = let is : length bytes - i ≡ left = left_is {A = A} (length bytes - i) left e in inl (omega arith)

some_within : (n : ℕ) (bytes : List ℕ) (left : ℕ) → some_at n bytes ≡ Err left → left ≤ length bytes
some_within n bytes left e = let none : 0 ≡ left = guard_err (ltb (length bytes) n) 0 left (take n bytes, drop n bytes) e in omega arith

key_within : (bytes : List ℕ) (left : ℕ) → IsBytes bytes → key_at bytes ≡ Err left → left ≤ length bytes
unfolding key_at
key_within bytes left fits e = elim (bind_err (byte_where is_key_length bytes) (λ n. key_bytes_at n.0 n.1) left e) [
  | inl head ↦ (byte_format is_key_length).within bytes left fits head
  | inr a ↦
      let t = (byte_format is_key_length).takes bytes a.0 fits a.1 in
      let shorter = rest_shorter bytes (a.0.0 ∷ []) a.0.1 t.0 in
      elim (stopped_err (first_bad_byte (take a.0.0 a.0.1)) a.0.1 (some_at a.0.0 a.0.1) left a.2) [
        | inl stopped ↦ omega arith
        | inr short ↦ let inner = some_within a.0.0 a.0.1 left short in omega arith
      ]
]

pub key_format : IsFormat key_spelling IsKey key_at
key_format = record { takes = key_takes; again = key_again; within = key_within }

-- ---- numbers up to a limit

IsBytes-limit : IsBytes most_counter
IsBytes-limit zero = lit< tt
IsBytes-limit (suc zero) = lit< tt
IsBytes-limit (suc (suc zero)) = lit< tt
IsBytes-limit (suc (suc (suc zero))) = lit< tt
IsBytes-limit (suc (suc (suc (suc zero)))) = lit< tt
IsBytes-limit (suc (suc (suc (suc (suc zero))))) = lit< tt
IsBytes-limit (suc (suc (suc (suc (suc (suc zero)))))) = lit< tt
IsBytes-limit (suc (suc (suc (suc (suc (suc (suc zero))))))) = lit< tt
IsBytes-limit (suc (suc (suc (suc (suc (suc (suc (suc i)))))))) = lit< tt

IsBytes-length : IsBytes most_length
IsBytes-length zero = lit< tt
IsBytes-length (suc zero) = lit< tt
IsBytes-length (suc (suc i)) = lit< tt

pub counter_limit : IsLimit w64 (2 ^ 64) (2 ^ 48) most_counter
counter_limit = record {
  wide = wide64;
  below = lit< tt;
  spelled = refl;
  fits = IsBytes-limit;
  len = refl;
  value_is = refl;
  value_of = value-of_8;
  spelled_fits = IsBytes-high_first 8;
}

pub counter_format : IsFormat (to_be_bytes w64) (λ n. n ≤ 2 ^ 48) counter_at
unfolding counter_at
counter_format = limited_format w64 (2 ^ 64) (2 ^ 48) most_counter counter_limit

pub length_limit : IsLimit w16 (2 ^ 16) 4000 most_length
length_limit = record {
  wide = wide16;
  below = lit< tt;
  spelled = refl;
  fits = IsBytes-length;
  len = refl;
  value_is = refl;
  value_of = value-of_2;
  spelled_fits = IsBytes-high_first 2;
}

pub length_format : IsFormat (to_be_bytes w16) (λ n. n ≤ 4000) (limited_at w16 most_length)
length_format = limited_format w16 (2 ^ 16) 4000 most_length length_limit

-- ---- ballots

unfoldable pub ballot_parts : Ballot → ℕ × ℕ
ballot_parts ballot = (ballot.counter, ballot.proposer)

pub ballot_format : IsFormat ballot_spelling FitsBallot ballot_at
unfolding ballot_at ballot_spelling ballot_parts
ballot_format =
    let format = made_format ballot_of ballot_parts (λ p fits. refl) (λ ballot. refl) (pair_format counter_format (byte_format is_proposer)) in
    record {
      takes = λ bytes x fits e. let t = format.takes bytes x fits e in (t.0, record { counter = t.1.0; proposer = leb-true x.0.proposer 16 t.1.1.0 });
      again = λ ballot rest fits. format.again ballot rest (fits.counter, (le-leb ballot.proposer 16 fits.proposer, omega (arith, fits.proposer)));
      within = λ bytes left fits e. format.within bytes left fits e;
    }

-- ---- texts

text_takes : (bytes : List ℕ) (x : List ℕ × List ℕ) → IsBytes bytes → text_at bytes ≡ Ok x → Takes bytes (to_be_bytes w16 (length x.0) ++ x.0) x.1 × IsText x.0
unfolding text_at
text_takes bytes x fits e =
    let a = bind_ok (limited_at w16 most_length bytes) (λ n. some_at n.0 n.1) x e in
    let t = length_format.takes bytes a.0 fits a.1 in
    let body = some_takes a.0.0 a.0.1 x t.0.rest_fits a.2 in
    (subst (λ (n : ℕ). Takes bytes (to_be_bytes w16 n ++ x.0) x.1) (sym body.1.0) (Takes-then bytes (to_be_bytes w16 a.0.0) a.0.1 x.0 x.1 t.0 body.0), omega (arith, t.1, body.1.0))

text_again : (text rest : List ℕ) → IsText text → text_at ((to_be_bytes w16 (length text) ++ text) ++ rest) ≡ Ok (text, rest)
unfolding text_at
text_again text rest fits =
    ap text_at (append_assoc (to_be_bytes w16 (length text)) text rest)
    ∙ ap (λ (r : Reading ℕ). r >>= λ n. some_at n.0 n.1) (length_format.again (length text) (text ++ rest) fits)
    ∙ some_again text rest

text_within : (bytes : List ℕ) (left : ℕ) → IsBytes bytes → text_at bytes ≡ Err left → left ≤ length bytes
unfolding text_at
text_within bytes left fits e = elim (bind_err (limited_at w16 most_length bytes) (λ n. some_at n.0 n.1) left e) [
  | inl head ↦ length_format.within bytes left fits head
  | inr a ↦
      let t = length_format.takes bytes a.0 fits a.1 in
      let shorter = rest_shorter bytes (to_be_bytes w16 a.0.0) a.0.1 t.0 in
      let inner = some_within a.0.0 a.0.1 left a.2 in
      omega arith
]

pub text_format : IsFormat (λ text. to_be_bytes w16 (length text) ++ text) IsText text_at
text_format = record { takes = text_takes; again = text_again; within = text_within }

-- ---- states

pub two_numbers : IsFormat (λ (p : ℕ × ℕ). to_be_bytes w64 p.0 ++ to_be_bytes w64 p.1) (λ p. (p.0 < 2 ^ 64) × (p.1 < 2 ^ 64)) (pair_at (number_at w64) (number_at w64))
two_numbers = pair_format (number_format w64 (2 ^ 64) wide64) (number_format w64 (2 ^ 64) wide64)

pub version_and_text : IsFormat (λ (p : ℕ × List ℕ). to_be_bytes w64 p.0 ++ (to_be_bytes w16 (length p.1) ++ p.1)) (λ p. (p.0 < 2 ^ 64) × IsText p.1) (pair_at (number_at w64) text_at)
version_and_text = pair_format (number_format w64 (2 ^ 64) wide64) text_format

state_takes : (bytes : List ℕ) (x : State × List ℕ) → IsBytes bytes → state_at bytes ≡ Ok x → Takes bytes (state_spelling x.0) x.1 × FitsState x.0
unfolding state_at state_spelling
state_takes [] x fits e = absurd cc
state_takes (zero ∷ bytes) x fits e =
    subst (λ (y : State × List ℕ). Takes (0 ∷ bytes) (state_spelling y.0) y.1 × FitsState y.0) (ok_is (Empty, bytes) x e) (record { parts = refl; rest_fits = IsBytes-rest 0 bytes fits }, tt)
state_takes (suc zero ∷ bytes) x fits e =
    let a = bind_ok (pair_at (number_at w64) (number_at w64) bytes) (λ p. Ok (number_state p.0, p.1)) x e in
    let t = two_numbers.takes bytes a.0 (IsBytes-rest 1 bytes fits) a.1 in
    let back : cast_unsigned w64 (cast_signed w64 a.0.0.1) ≡ a.0.0.1 = of_z-to_z w64 a.0.0.1 t.1.1 in
    let made : State × List ℕ = (number_state a.0.0, a.0.1) in
    let whole : Takes (1 ∷ bytes) (1 ∷ to_be_bytes w64 a.0.0.0 ++ to_be_bytes w64 a.0.0.1) a.0.1 = record { parts = ap (λ (w : List ℕ). 1 ∷ w) t.0.parts; rest_fits = t.0.rest_fits } in
    subst (λ (y : State × List ℕ). Takes (1 ∷ bytes) (state_spelling y.0) y.1 × FitsState y.0) (ok_is made x a.2)
    (subst (λ (n : ℕ). Takes (1 ∷ bytes) (1 ∷ to_be_bytes w64 a.0.0.0 ++ to_be_bytes w64 n) a.0.1) (sym back) whole, (t.1.0, sfits_to_z {w = w64} {n = a.0.0.1} (record { fits = t.1.1 })))
state_takes (suc (suc zero) ∷ bytes) x fits e =
    let a = bind_ok (pair_at (number_at w64) text_at bytes) (λ p. Ok (text_state p.0, p.1)) x e in
    let t = version_and_text.takes bytes a.0 (IsBytes-rest 2 bytes fits) a.1 in
    let made : State × List ℕ = (text_state a.0.0, a.0.1) in
    subst (λ (y : State × List ℕ). Takes (2 ∷ bytes) (state_spelling y.0) y.1 × FitsState y.0) (ok_is made x a.2)
    (record { parts = ap (λ (w : List ℕ). 2 ∷ w) t.0.parts; rest_fits = t.0.rest_fits }, t.1)
state_takes (suc (suc (suc b)) ∷ bytes) x fits e = absurd cc

pub small_bits : (z : ℤ) → FitsSigned w64 z → cast_unsigned w64 z < 2 ^ 64
small_bits (pos m) fits = omega (arith, fits)
small_bits (negsuc m) fits = omega arith

state_again : (state : State) (rest : List ℕ) → FitsState state → state_at (state_spelling state ++ rest) ≡ Ok (state, rest)
unfolding state_at state_spelling
state_again Empty rest fits = refl
state_again (Held version (Number n)) rest fits =
    let small : cast_unsigned w64 n < 2 ^ 64 = small_bits n fits.1 in
    ap (λ (r : Reading (ℕ × ℕ)). r >>= λ p. Ok (number_state p.0, p.1)) (two_numbers.again (version, cast_unsigned w64 n) rest (fits.0, small))
    ∙ ap (λ z. Ok (Held version (Number z), rest)) (to_z-of_z w64 n fits.1)
state_again (Held version (Text text)) rest fits =
    ap (λ (r : Reading (ℕ × List ℕ)). r >>= λ p. Ok (text_state p.0, p.1)) (version_and_text.again (version, text) rest fits)

state_within : (bytes : List ℕ) (left : ℕ) → IsBytes bytes → state_at bytes ≡ Err left → left ≤ length bytes
unfolding state_at
state_within [] left fits e = let none : 0 ≡ left = left_is {A = State} 0 left e in omega arith
state_within (zero ∷ bytes) left fits e = absurd (not_err (Empty, bytes) left e)
state_within (suc zero ∷ bytes) left fits e = elim (bind_err (pair_at (number_at w64) (number_at w64) bytes) (λ p. Ok (number_state p.0, p.1)) left e) [
  | inl first ↦ let inner = two_numbers.within bytes left (IsBytes-rest 1 bytes fits) first in omega arith
  | inr a ↦ absurd (not_err (number_state a.0.0, a.0.1) left a.2)
]
state_within (suc (suc zero) ∷ bytes) left fits e = elim (bind_err (pair_at (number_at w64) text_at bytes) (λ p. Ok (text_state p.0, p.1)) left e) [
  | inl first ↦ let inner = version_and_text.within bytes left (IsBytes-rest 2 bytes fits) first in omega arith
  | inr a ↦ absurd (not_err (text_state a.0.0, a.0.1) left a.2)
]
state_within (suc (suc (suc b)) ∷ bytes) left fits e = let all : length (b ∷ bytes) ≡ left = left_is {A = State} (length (b ∷ bytes)) left e in omega arith

pub state_format : IsFormat state_spelling FitsState state_at
state_format = record { takes = state_takes; again = state_again; within = state_within }

-- ---- what was accepted

unfoldable pub accepted_parts : Accepted → Ballot × (ℕ × State)
accepted_parts accepted = (accepted.ballot, (accepted.era, accepted.state))

pub accepted_format : IsFormat accepted_spelling FitsAccepted accepted_at
unfolding accepted_at accepted_spelling accepted_parts
accepted_format =
    let format = made_format accepted_of accepted_parts (λ p fits. refl) (λ accepted. refl) (pair_format ballot_format (pair_format (number_format w32 (2 ^ 32) wide32) state_format)) in
    record {
      takes = λ bytes x fits e. let t = format.takes bytes x fits e in (t.0, record { ballot = t.1.0; era = t.1.1.0; state = t.1.1.1 });
      again = λ accepted rest fits. format.again accepted rest (fits.ballot, (fits.era, fits.state));
      within = λ bytes left fits e. format.within bytes left fits e;
    }

pub accepted_or_none_format : IsFormat (optional_spelling accepted_spelling) (λ accepted. IfSome accepted FitsAccepted) (optional_at accepted_at)
accepted_or_none_format = optional_format accepted_format
