-- Where reading a part stops.
use Rattle.std.proofs.Common.{◌≡◌, ℕ, zero, suc, ◌-◌, ◌^◌, lit<, lit≤, ◌<◌, ◌≤◌, true, not, ltb, leb, List, [], ◌∷◌, ◌++◌, length, get_or, take, drop, Some, None, Ok, Err, refl, sym, ap, subst, ◌∙◌, arith, inl, inr}
use Rattle.std.specs.Prelude.{IfSome, replicate}
use Rattle.std.specs.List.{All}
use Rattle.std.specs.Int.{w16, w32, w64, to_be_bytes, cast_unsigned}
use Rattle.std.proofs.lemmas.Bool.{ltb-true, le-leb, leb-true}
use Rattle.std.proofs.lemmas.Int.{of_z-to_z}
use Rattle.std.proofs.lemmas.List.{length-append, length-replicate, length-take, take_all, take-append-drop, get_or-take, get_or-replicate}
use Rattle.std.proofs.lemmas.List.Elements.{All-append, All-nil}
use Rattle.std.proofs.lemmas.List.Quantifiers.{position-Some}
use Rattle.std.proofs.Math.Facts.{sfits_to_z}
use Rattle.std.proofs.Math.Seq.{get_or-append_seam}
use Rattle.cas_ballot.specs.Ballot.{FitsBallot}
use Rattle.cas_change.specs.Key.{IsKey, IsKeyByte, is_key_byte, first_bad_byte}
use Rattle.cas_change.specs.Text.{IsText}
use Rattle.cas_change.specs.declared.state.State.{State}
use Rattle.cas_change.specs.declared.state.State.TheVariants.{Empty, Held}
use Rattle.cas_change.specs.declared.state.Body.TheVariants.{Number, Text}
use Rattle.cas_change.proofs.Keys.{passing_byte, byte_passing, key_bytes}
use Rattle.cas_wire.specs.Reading.{Reading, pair_at, byte_where, number_at, some_at, is_key_length, key_bytes_at, key_at, counter_at, is_proposer, ballot_of, ballot_at, most_length, text_at, number_state, text_state, state_at, accepted_of, accepted_at, optional_at}
use Rattle.cas_wire.specs.Spelling.{key_spelling, ballot_spelling, state_spelling, accepted_spelling, optional_spelling, FitsState, FitsAccepted}
use Rattle.cas_wire.proofs.Formats.{IsBytes-rest, bind_err, left_is, not_err, byte_format, wide32, wide64, number_format}
use Rattle.cas_wire.proofs.Limited.{guard_is, limited_at, limited_stops, stopped_err, number_stops}
use Rattle.cas_wire.proofs.PartFormats.{key_length_of, both, length_format, counter_format, ballot_format, small_bits, counter_limit, length_limit, ballot_parts, accepted_parts}
use Rattle.cas_wire.proofs.Stops.{StopsAt, Stops, stops_first, stops_second, pair_stops, made_stops, ended, not_first, behind_first, byte_stops, optional_stops}

-- the same of values that are said otherwise
said_stops : {A : Type 0} {s : A → List ℕ} {F : A → Type 0} {r : List ℕ → Reading A} (t : A → List ℕ) (G : A → Type 0) → ((a : A) → s a ≡ t a) → ((a : A) → F a → G a) → ((a : A) → G a → F a) → Stops s F r → Stops t G r
said_stops t G spelled to from stops bytes left fits e =
    let st = stops bytes left fits e in
    record {
      front = st.front;
      behind = st.behind;
      parts = st.parts;
      len = st.len;
      value = st.value;
      tail = st.tail;
      fits = to st.value st.fits;
      begins = sym (spelled st.value) ∙ st.begins;
      other = λ b after is a rest h we. st.other b after is a rest (from a h) (spelled a ∙ we);
    }

-- ---- so many bytes, of which there are fewer

some_short : (n : ℕ) (bytes : List ℕ) (left : ℕ) → some_at n bytes ≡ Err left → (length bytes < n) × (0 ≡ left)
some_short n bytes left e =
    let g = guard_is (ltb (length bytes) n) 0 left (take n bytes, drop n bytes) e in
    (ltb-true (length bytes) n g.0, g.1)

-- ---- keys

abbrev exclamation : ℕ
exclamation = 0x21

key_byte : IsKeyByte exclamation
key_byte = (lit≤ tt, lit≤ tt)

-- so many bytes that may stand in a key
abbrev padding : ℕ → List ℕ
padding n = replicate n exclamation

padding_each : (n : ℕ) → All IsKeyByte (padding n)
padding_each n = λ k d lt. subst IsKeyByte (sym (get_or-replicate n k exclamation d (omega (arith, lt, length-replicate {A = ℕ} n exclamation)))) key_byte

padded : (bytes : List ℕ) (n : ℕ) → All IsKeyByte bytes → length bytes < n → n ≤ 64 → IsKey (bytes ++ padding (n - length bytes))
padded bytes n each short few =
    let count = length-append bytes (padding (n - length bytes)) in
    let fill = length-replicate {A = ℕ} (n - length bytes) exclamation in
    record {
      not_empty = omega (arith, count, fill, short);
      fits = omega (arith, count, fill, short, few);
      each = All-append IsKeyByte bytes (padding (n - length bytes)) each (padding_each (n - length bytes));
    }

padded_len : (bytes : List ℕ) (n : ℕ) → length bytes < n → length (bytes ++ padding (n - length bytes)) ≡ n
padded_len bytes n short = omega (arith, short, length-append bytes (padding (n - length bytes)), length-replicate {A = ℕ} (n - length bytes) exclamation)

each_clean : (bytes : List ℕ) → length bytes ≤ 64 → first_bad_byte bytes ≡ None → All IsKeyByte bytes
each_clean [] few none = All-nil IsKeyByte
each_clean (b ∷ bytes) few none = (key_bytes (b ∷ bytes) (omega arith) few none).each

-- a bad byte at a place of a key's bytes
record HasBad (n : ℕ) (bytes : List ℕ) (i : ℕ) : Type 0 where
  below : i < n
  within : i < length bytes
  each : All IsKeyByte (take i bytes)
  bad : not (is_key_byte (get_or bytes i 0)) ≡ true

has_bad : (n : ℕ) (bytes : List ℕ) (i : ℕ) → first_bad_byte (take n bytes) ≡ Some i → HasBad n bytes i
has_bad n bytes i found =
    let p = position-Some (λ byte. not (is_key_byte byte)) (take n bytes) i 0 found in
    let within : i < length (take n bytes) = p.0 in
    let count = length-take n bytes in
    let below : i < n = omega (arith, within, count) in
    record {
      below = below;
      within = omega (arith, within, count);
      each = λ k d lt.
          let small : k < i = omega (arith, lt, length-take i bytes) in
          let here : get_or (take i bytes) k d ≡ get_or bytes k d = get_or-take i bytes k d small in
          let there : get_or (take n bytes) k d ≡ get_or bytes k d = get_or-take n bytes k d (omega (arith, small, below)) in
          let first = position-Some (λ byte. not (is_key_byte byte)) (take n bytes) i d found in
          subst IsKeyByte (there ∙ sym here) (passing_byte (get_or (take n bytes) k d) (first.2 k small));
      bad = ap (λ (b : ℕ). not (is_key_byte b)) (sym (get_or-take n bytes i 0 below)) ∙ p.1;
    }

-- the bytes of a key, of which there are n, stop
key_bytes_stop : (n : ℕ) → 1 ≤ n → n ≤ 64 → (bytes : List ℕ) (left : ℕ) → key_bytes_at n bytes ≡ Err left → StopsAt (λ (key : List ℕ). key) (λ key. IsKey key × (length key ≡ n)) bytes left
key_bytes_stop n some few bytes left e = elim (stopped_err (first_bad_byte (take n bytes)) bytes (some_at n bytes) left e) [
  | inl found ↦
      let i : ℕ = found.0 in
      let bad = has_bad n bytes found.0 found.1 in
      let count = length-take found.0 bytes in
      let lacks : length (take found.0 bytes) < n = omega (arith, count, bad.below) in
      let whole = length-append (take found.0 bytes) (drop found.0 bytes) in
      let joined = take-append-drop found.0 bytes in
      let same_len = ap (λ (xs : List ℕ). length xs) joined in
      record {
        front = take found.0 bytes;
        behind = drop found.0 bytes;
        parts = sym joined;
        len = omega (arith, whole, same_len, count, bad.within, found.2);
        value = take found.0 bytes ++ padding (n - length (take found.0 bytes));
        tail = padding (n - length (take found.0 bytes));
        fits = (padded (take found.0 bytes) n bad.each lacks few, padded_len (take found.0 bytes) n lacks);
        begins = refl;
        other = λ b after is key rest fits we.
            let place : length (take found.0 bytes) ≡ found.0 = omega (arith, count, bad.within) in
            let here : get_or bytes found.0 0 ≡ b = ap (λ (xs : List ℕ). get_or xs found.0 0) (sym joined ∙ ap (λ (xs : List ℕ). take found.0 bytes ++ xs) is) ∙ ap (λ (k : ℕ). get_or (take found.0 bytes ++ (b ∷ after)) k 0) (sym place) ∙ get_or-append_seam (take found.0 bytes) b after 0 in
            let there : get_or key found.0 0 ≡ b = ap (λ (xs : List ℕ). get_or xs found.0 0) we ∙ ap (λ (k : ℕ). get_or (take found.0 bytes ++ (b ∷ rest)) k 0) (sym place) ∙ get_or-append_seam (take found.0 bytes) b rest 0 in
            byte_passing (get_or bytes found.0 0) (subst IsKeyByte (there ∙ sym here) (fits.0.each found.0 0 (omega (arith, fits.1, bad.below)))) bad.bad;
      }
  | inr short ↦
      let s = some_short n bytes left short.1 in
      let all : first_bad_byte bytes ≡ None = ap first_bad_byte (sym (take_all n bytes (omega (arith, s.0)))) ∙ short.0 in
      ended (λ (key : List ℕ). key) (λ key. IsKey key × (length key ≡ n)) bytes left s.1 (bytes ++ padding (n - length bytes)) (padding (n - length bytes)) (padded bytes n (each_clean bytes (omega (arith, s.0, few)) all) s.0 few, padded_len bytes n s.0) refl
]

length_stops : Stops (λ n. n ∷ []) (λ n. (is_key_length n ≡ true) × (n < 256)) (byte_where is_key_length)
length_stops = byte_stops is_key_length 1 refl (lit< tt)

key_of_length : (n : ℕ) → is_key_length n ≡ true → IsKey (padding n) × (length (padding n) ≡ n)
key_of_length n good =
    let few = key_length_of n good in
    let fill = length-replicate {A = ℕ} n exclamation in
    (record { not_empty = omega (arith, fill, few.0); fits = omega (arith, fill, few.1); each = padding_each n }, fill)

key_length_is : (n : ℕ) → 0 < n → n ≤ 64 → is_key_length n ≡ true
key_length_is n some few = both (leb 1 n) (leb n 64) (le-leb 1 n some) (le-leb n 64 few)

key_parts : (key : List ℕ) → IsKey key → (is_key_length (length key) ≡ true) × (length key < 256)
key_parts key is = (key_length_is (length key) is.not_empty is.fits, omega (arith, is.fits))

pub key_stops : Stops key_spelling IsKey key_at
unfolding key_at key_spelling
key_stops bytes left fits e = elim (bind_err (byte_where is_key_length bytes) (λ n. key_bytes_at n.0 n.1) left e) [
  | inl first ↦
      stops_first {B = List ℕ} {w = λ (key : List ℕ). length key ∷ key} {W = IsKey} (byte_format is_key_length) length_stops
      (λ n h. let k = key_of_length n h.0 in (padding n, padding n, k.0, ap (λ (m : ℕ). m ∷ padding n) k.1))
      (λ key is. (length key, key, key_parts key is, refl)) bytes left fits first
  | inr n ↦
      let t = (byte_format is_key_length).takes bytes n.0 fits n.1 in
      let few = key_length_of n.0.0 t.1.0 in
      stops_second {B = List ℕ} {C = List ℕ} {t = λ (key : List ℕ). key} {G = λ key. IsKey key × (length key ≡ n.0.0)} {w = λ (key : List ℕ). length key ∷ key} {W = IsKey} (byte_format is_key_length)
      bytes n.0.0 n.0.1 left t.1 t.0.parts (key_bytes_stop n.0.0 few.0 few.1 n.0.1 left n.2)
      (λ key h. (key, h.0, ap (λ (m : ℕ). m ∷ key) h.1))
      (λ key is. (length key, key_parts key is, (key, refl, λ same. (key, (is, same), refl))))
]

-- ---- ballots

counter_stops : Stops (to_be_bytes w64) (λ n. n ≤ 2 ^ 48) counter_at
unfolding counter_at
counter_stops = limited_stops w64 (2 ^ 64) (2 ^ 48) _ counter_limit

pub ballot_stops : Stops ballot_spelling FitsBallot ballot_at
unfolding ballot_at ballot_spelling ballot_parts
ballot_stops =
    said_stops ballot_spelling FitsBallot (λ ballot. refl) (λ ballot h. record { counter = h.0; proposer = leb-true ballot.proposer 16 h.1.0 }) (λ ballot h. (h.counter, (le-leb ballot.proposer 16 h.proposer, omega (arith, h.proposer))))
    (made_stops ballot_of ballot_parts (λ p h. refl) (pair_stops counter_format counter_stops (byte_stops is_proposer 0 refl (lit< tt)) 0 (refl, lit< tt)))

-- ---- texts

abbrev zeros : ℕ → List ℕ
zeros n = replicate n 0

length_at_stops : Stops (to_be_bytes w16) (λ n. n ≤ 4000) (limited_at w16 most_length)
length_at_stops = limited_stops w16 (2 ^ 16) 4000 most_length length_limit

text_of_length : (n : ℕ) → n ≤ 4000 → IsText (zeros n) × (length (zeros n) ≡ n)
text_of_length n few = let fill = length-replicate {A = ℕ} n 0 in (omega (arith, fill, few), fill)

text_stops : Stops (λ text. to_be_bytes w16 (length text) ++ text) IsText text_at
unfolding text_at
text_stops bytes left fits e = elim (bind_err (limited_at w16 most_length bytes) (λ n. some_at n.0 n.1) left e) [
  | inl first ↦
      stops_first {B = List ℕ} {w = λ (text : List ℕ). to_be_bytes w16 (length text) ++ text} {W = IsText} length_format length_at_stops
      (λ n h. let k = text_of_length n h in (zeros n, zeros n, k.0, ap (λ (m : ℕ). to_be_bytes w16 m ++ zeros n) k.1))
      (λ text is. (length text, text, is, refl)) bytes left fits first
  | inr n ↦
      let t = length_format.takes bytes n.0 fits n.1 in
      let s = some_short n.0.0 n.0.1 left n.2 in
      let count : length (n.0.1 ++ zeros (n.0.0 - length n.0.1)) ≡ n.0.0 = omega (arith, s.0, length-append n.0.1 (zeros (n.0.0 - length n.0.1)), length-replicate {A = ℕ} (n.0.0 - length n.0.1) 0) in
      let most : n.0.0 ≤ 4000 = t.1 in
      stops_second {B = List ℕ} {C = List ℕ} {t = λ (text : List ℕ). text} {G = λ text. IsText text × (length text ≡ n.0.0)} {w = λ (text : List ℕ). to_be_bytes w16 (length text) ++ text} {W = IsText} length_format
      bytes n.0.0 n.0.1 left t.1 t.0.parts
      (ended (λ (text : List ℕ). text) (λ text. IsText text × (length text ≡ n.0.0)) n.0.1 left s.1 (n.0.1 ++ zeros (n.0.0 - length n.0.1)) (zeros (n.0.0 - length n.0.1)) (omega (arith, count, most), count) refl)
      (λ text h. (text, h.0, ap (λ (m : ℕ). to_be_bytes w16 m ++ text) h.1))
      (λ text is. (length text, is, (text, refl, λ same. (text, (is, same), refl))))
]

-- ---- states

two_stop : Stops (λ (p : ℕ × ℕ). to_be_bytes w64 p.0 ++ to_be_bytes w64 p.1) (λ p. (p.0 < 2 ^ 64) × (p.1 < 2 ^ 64)) (pair_at (number_at w64) (number_at w64))
two_stop = pair_stops (number_format w64 (2 ^ 64) wide64) (number_stops w64 (2 ^ 64) wide64) (number_stops w64 (2 ^ 64) wide64) 0 (lit< tt)

version_and_text_stop : Stops (λ (p : ℕ × List ℕ). to_be_bytes w64 p.0 ++ (to_be_bytes w16 (length p.1) ++ p.1)) (λ p. (p.0 < 2 ^ 64) × IsText p.1) (pair_at (number_at w64) text_at)
version_and_text_stop = pair_stops (number_format w64 (2 ^ 64) wide64) (number_stops w64 (2 ^ 64) wide64) text_stops [] (lit≤ tt)

from_number : (state : State) (rest : List ℕ) → FitsState state → state_spelling state ≡ 1 ∷ rest → (p : ℕ × ℕ) × ((p.0 < 2 ^ 64) × (p.1 < 2 ^ 64)) × (to_be_bytes w64 p.0 ++ to_be_bytes w64 p.1 ≡ rest)
unfolding state_spelling
from_number Empty rest h e = absurd cc
from_number (Held version (Number n)) rest h e = ((version, cast_unsigned w64 n), (h.0, small_bits n h.1), cc)
from_number (Held version (Text text)) rest h e = absurd cc

to_number : (p : ℕ × ℕ) → (p.0 < 2 ^ 64) × (p.1 < 2 ^ 64) → FitsState (number_state p) × (state_spelling (number_state p) ≡ 1 ∷ to_be_bytes w64 p.0 ++ to_be_bytes w64 p.1)
unfolding state_spelling
to_number p h = ((h.0, sfits_to_z {w = w64} {n = p.1} (record { fits = h.1 })), ap (λ (n : ℕ). 1 ∷ to_be_bytes w64 p.0 ++ to_be_bytes w64 n) (of_z-to_z w64 p.1 h.1))

from_text : (state : State) (rest : List ℕ) → FitsState state → state_spelling state ≡ 2 ∷ rest → (p : ℕ × List ℕ) × ((p.0 < 2 ^ 64) × IsText p.1) × (to_be_bytes w64 p.0 ++ (to_be_bytes w16 (length p.1) ++ p.1) ≡ rest)
unfolding state_spelling
from_text Empty rest h e = absurd cc
from_text (Held version (Number n)) rest h e = absurd cc
from_text (Held version (Text text)) rest h e = ((version, text), h, cc)

no_kind : (b : ℕ) (state : State) (rest : List ℕ) → state_spelling state ≡ suc (suc (suc b)) ∷ rest → ⊥
unfolding state_spelling
no_kind b Empty rest e = cc
no_kind b (Held version (Number n)) rest e = cc
no_kind b (Held version (Text text)) rest e = cc

pub state_stops : Stops state_spelling FitsState state_at
unfolding state_at state_spelling
state_stops [] left fits e = let none : 0 ≡ left = left_is {A = State} 0 left e in ended state_spelling FitsState [] left none Empty (0 ∷ []) tt refl
state_stops (zero ∷ bytes) left fits e = absurd (not_err (Empty, bytes) left e)
state_stops (suc zero ∷ bytes) left fits e = elim (bind_err (pair_at (number_at w64) (number_at w64) bytes) (λ p. Ok (number_state p.0, p.1)) left e) [
  | inl first ↦
      behind_first (λ (p : ℕ × ℕ). to_be_bytes w64 p.0 ++ to_be_bytes w64 p.1) (λ p. (p.0 < 2 ^ 64) × (p.1 < 2 ^ 64)) state_spelling FitsState 1 bytes left (two_stop bytes left (IsBytes-rest 1 bytes fits) first) number_state to_number from_number
  | inr a ↦ absurd (not_err (number_state a.0.0, a.0.1) left a.2)
]
state_stops (suc (suc zero) ∷ bytes) left fits e = elim (bind_err (pair_at (number_at w64) text_at bytes) (λ p. Ok (text_state p.0, p.1)) left e) [
  | inl first ↦
      behind_first (λ (p : ℕ × List ℕ). to_be_bytes w64 p.0 ++ (to_be_bytes w16 (length p.1) ++ p.1)) (λ p. (p.0 < 2 ^ 64) × IsText p.1) state_spelling FitsState 2 bytes left (version_and_text_stop bytes left (IsBytes-rest 2 bytes fits) first) text_state (λ p h. (h, refl)) from_text
  | inr a ↦ absurd (not_err (text_state a.0.0, a.0.1) left a.2)
]
state_stops (suc (suc (suc b)) ∷ bytes) left fits e =
    let all : length (b ∷ bytes) ≡ left = left_is {A = State} (length (b ∷ bytes)) left e in
    not_first state_spelling FitsState (suc (suc (suc b))) bytes left all Empty tt (λ state rest h is. no_kind b state rest is)

-- ---- what was accepted

accepted_stops : Stops accepted_spelling FitsAccepted accepted_at
unfolding accepted_at accepted_spelling accepted_parts
accepted_stops =
    said_stops accepted_spelling FitsAccepted (λ accepted. refl) (λ accepted h. record { ballot = h.0; era = h.1.0; state = h.1.1 }) (λ accepted h. (h.ballot, (h.era, h.state)))
    (made_stops accepted_of accepted_parts (λ p h. refl)
    (pair_stops ballot_format ballot_stops (pair_stops (number_format w32 (2 ^ 32) wide32) (number_stops w32 (2 ^ 32) wide32) state_stops Empty tt) (0, Empty) (lit< tt, tt)))

pub accepted_or_none_stops : Stops (optional_spelling accepted_spelling) (λ accepted. IfSome accepted FitsAccepted) (optional_at accepted_at)
accepted_or_none_stops = optional_stops accepted_stops
