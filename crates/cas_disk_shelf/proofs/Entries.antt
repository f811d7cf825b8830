-- What a cell spells, and that it is read as it was written.
use Rattle.std.specs.Prelude.{IfSome, ◌+◌, ◌-◌, nat_eq, if◌then◌else◌, ◌<◌, ◌≤◌}
use Rattle.std.proofs.Common.{◌≡◌, ℕ, zero, suc, Bool, true, false, List, [], ◌∷◌, ◌++◌, length, take, drop, Option, Some, None, Result, Ok, Err, refl, sym, ap, ◌∙◌, arith}
use Rattle.std.specs.Int.{w16, w32, to_be_bytes}
use Rattle.std.proofs.lemmas.Bool.{eq-eqb, eqb-true}
use Rattle.std.proofs.Math.Dec.{eqb-suc-zero}
use Rattle.std.proofs.lemmas.List.{append-nil, take_all, length-append, length-drop}
use Rattle.cas_base.proofs.Bytes.{IsBytes}
use Rattle.cas_ballot.specs.declared.ballot.Ballot.{Ballot}
use Rattle.cas_cells.specs.Format.{IsPayload}
use Rattle.cas_change.specs.Key.{IsKey}
use Rattle.cas_change.specs.declared.state.State.{State}
use Rattle.cas_change.specs.declared.state.State.TheVariants.{Empty, Held}
use Rattle.cas_change.specs.declared.state.Body.TheVariants.{Number, Text}
use Rattle.cas_slot.specs.declared.slot.Accepted.{Accepted}
use Rattle.cas_slot.specs.declared.slot.Slot.{Slot}
use Rattle.cas_wire.specs.Reading.{Reading, ◌>>=◌, key_at, ballot_at, accepted_at, optional_at}
use Rattle.cas_wire.specs.Spelling.{key_spelling, ballot_spelling, state_spelling, accepted_spelling, optional_spelling, FitsState, FitsAccepted}
use Rattle.cas_wire.proofs.Formats.{IsFormat, pair_format, made_format, optional_format}
use Rattle.cas_wire.proofs.PartFormats.{key_format, ballot_format, accepted_or_none_format}
use Rattle.cas_disk_shelf.specs.Cell.{KeyedSlot, entry_spelling, cell_spelling, FitsSlot, entry_of, entry_at, whole, entry_in}

abbrev refused : {A : Type 0} → ℕ → Result A ℕ
refused at = Err at

-- a key and its slot have a spelling
abbrev pub FitsEntry : KeyedSlot → Type 0
FitsEntry entry = IsKey entry.0 × FitsSlot entry.1

entry_parts : KeyedSlot → List ℕ × (Ballot × Option Accepted)
entry_parts entry = (entry.0, (entry.1.promise, entry.1.accepted))

entry_again : (entry : KeyedSlot) (rest : List ℕ) → FitsEntry entry → entry_at (entry_spelling entry ++ rest) ≡ Ok (entry, rest)
unfolding entry_parts
entry_again entry rest fits =
    let format = made_format entry_of entry_parts (λ p fits. refl) (λ entry. refl) (pair_format key_format (pair_format ballot_format accepted_or_none_format)) in
    format.again entry rest (fits.0, (fits.1.promise, fits.1.accepted))

cell_again : (entry : Option KeyedSlot) (rest : List ℕ) → IfSome entry FitsEntry → optional_at entry_at (cell_spelling entry ++ rest) ≡ Ok (entry, rest)
cell_again None rest fits = refl
cell_again (Some entry) rest fits = ap (λ (read : Reading KeyedSlot). read >>= λ a. Ok (Some a.0, a.1)) (entry_again entry rest fits)

-- a cell is read as it was written
pub read_again : (entry : Option KeyedSlot) → IfSome entry FitsEntry → entry_in (cell_spelling entry) ≡ Ok entry
unfolding entry_in
read_again entry fits =
    ap (whole (cell_spelling entry)) (ap (optional_at entry_at) (sym (append-nil (cell_spelling entry))) ∙ cell_again entry [] fits)

-- ---- lengths

length-key : (key : List ℕ) → IsKey key → length (key_spelling key) ≤ 65
unfolding key_spelling
length-key key is = omega (arith, is.fits)

length-ballot : (ballot : Ballot) → length (ballot_spelling ballot) ≡ 9
unfolding ballot_spelling
length-ballot ballot = refl

length-state : (state : State) → FitsState state → length (state_spelling state) ≤ 4011
unfolding state_spelling
length-state Empty fits = omega arith
length-state (Held version (Number n)) fits = omega arith
length-state (Held version (Text text)) fits = omega (arith, fits.1, length-append (to_be_bytes w16 (length text)) text)

length-accepted : (accepted : Accepted) → FitsAccepted accepted → length (accepted_spelling accepted) ≤ 4024
unfolding accepted_spelling
length-accepted accepted fits =
    omega (arith, length-state accepted.state fits.state, length-ballot accepted.ballot, length-append (ballot_spelling accepted.ballot) (to_be_bytes w32 accepted.era ++ state_spelling accepted.state), length-append (to_be_bytes w32 accepted.era) (state_spelling accepted.state))

length-optional : (accepted : Option Accepted) → IfSome accepted FitsAccepted → length (optional_spelling accepted_spelling accepted) ≤ 4025
length-optional None fits = omega arith
length-optional (Some accepted) fits = omega (arith, length-accepted accepted fits)

pub length-slot : (key : List ℕ) (slot : Slot) → IsKey key → FitsSlot slot → length (cell_spelling (Some (key, slot))) ≤ 4100
length-slot key slot is fits =
    let accepted : List ℕ = optional_spelling accepted_spelling slot.accepted in
    omega (arith, length-key key is, length-ballot slot.promise, length-optional slot.accepted fits.accepted, length-append (key_spelling key) (ballot_spelling slot.promise ++ accepted), length-append (ballot_spelling slot.promise) accepted)

-- ---- what is read is spelled so

entry_format : IsFormat entry_spelling FitsEntry entry_at
unfolding entry_parts
entry_format =
    let format = made_format entry_of entry_parts (λ p fits. refl) (λ entry. refl) (pair_format key_format (pair_format ballot_format accepted_or_none_format)) in
    record {
      takes = λ bytes x fits e. let t = format.takes bytes x fits e in (t.0, (t.1.0, record { promise = t.1.1.0; accepted = t.1.1.1 }));
      again = λ entry rest fits. format.again entry rest (fits.0, (fits.1.promise, fits.1.accepted));
      within = λ bytes left fits e. format.within bytes left fits e;
    }

whole_told : (bytes : List ℕ) (r : Reading (Option KeyedSlot)) (entry : Option KeyedSlot) → whole bytes r ≡ Ok entry → (rest : List ℕ) × (r ≡ Ok (entry, rest)) × (length rest ≡ 0)
whole_told bytes (Ok x) entry e = by_rest (nat_eq (length x.1) 0) refl e
  where
    by_rest : (b : Bool) → nat_eq (length x.1) 0 ≡ b → (if b then Ok x.0 else refused (length bytes - length x.1)) ≡ Ok entry → (rest : List ℕ) × (◌≡◌ {A = Reading (Option KeyedSlot)} (Ok x) (Ok (entry, rest))) × (length rest ≡ 0)
    by_rest true none e' =
        let same : x.0 ≡ entry = cc in
        (x.1, (λ t. Ok (same t, x.1)), eqb-true (length x.1) 0 none)
    by_rest false some e' = absurd cc
whole_told bytes (Err left) entry e = absurd cc

-- a payload from which a slot was read fits a wide cell
pub slot_payload_read : (bytes key : List ℕ) (slot : Slot) → IsBytes bytes → entry_in bytes ≡ Ok (Some (key, slot)) → IsPayload 4608 bytes
unfolding entry_in
slot_payload_read bytes key slot fits e =
    let told = whole_told bytes (optional_at entry_at bytes) (Some (key, slot)) e in
    let taken = (optional_format entry_format).takes bytes (Some (key, slot), told.0) fits told.1 in
    let spelled : List ℕ = cell_spelling (Some (key, slot)) in
    let long : length bytes ≡ length spelled + length told.0 = ap length taken.0.parts ∙ length-append spelled told.0 in
    let some : 1 ≤ length spelled = omega arith in
    record { not_empty = omega (arith, long, some); fits = omega (arith, long, told.2, length-slot key slot taken.1.0 taken.1.1) }

-- ---- reading part by part

not_zero : (n : ℕ) → 0 < n → nat_eq n 0 ≡ false
not_zero zero some = absurd (omega arith)
not_zero (suc n) some = eqb-suc-zero n

err_is : {A : Type 0} (m n : ℕ) → refused {A = A} m ≡ refused {A = A} n → m ≡ n
err_is m n e = cc

whole_by : {A : Type 0} (b : Bool) (x : A) (m at n : ℕ) → m ≤ n → (if b then Ok x else refused m) ≡ refused at → at ≤ n
whole_by true x m at n low e = absurd cc
whole_by {A} false x m at n low e = let same : m ≡ at = err_is {A = A} m at e in omega arith

whole_within : {A : Type 0} (bytes : List ℕ) (r : Reading A) (at : ℕ) → whole bytes r ≡ Err at → at ≤ length bytes
whole_within bytes (Ok x) at e = whole_by (nat_eq (length x.1) 0) x.0 (length bytes - length x.1) at (length bytes) (omega arith) e
whole_within {A} bytes (Err left) at e = let same : length bytes - left ≡ at = err_is {A = A} (length bytes - left) at e in omega arith

-- the first wrong byte is none behind the end
pub wrong_within : (bytes : List ℕ) (at : ℕ) → entry_in bytes ≡ Err at → at ≤ length bytes
unfolding entry_in
wrong_within bytes at e = whole_within bytes (optional_at entry_at bytes) at e

-- the bytes from a place on
pub rest_from : (bytes : List ℕ) (start : ℕ) → take (length bytes - start) (drop start bytes) ≡ drop start bytes
rest_from bytes start = take_all (length bytes - start) (drop start bytes) (omega (arith, length-drop start bytes))

pub not_a_kind : (kind : ℕ) (rest : List ℕ) → 1 < kind → entry_in (kind ∷ rest) ≡ Err 0
unfolding entry_in
not_a_kind zero rest high = absurd (omega arith)
not_a_kind (suc zero) rest high = absurd (omega arith)
not_a_kind (suc (suc b)) rest high = ap (λ (n : ℕ). Err n) (let none : length (suc (suc b) ∷ rest) - length (b ∷ rest) ≡ 0 = omega arith in none)

pub no_bytes : (bytes : List ℕ) → length bytes ≡ 0 → entry_in bytes ≡ Err 0
unfolding entry_in
no_bytes [] none = refl
no_bytes (b ∷ bytes) none = absurd (omega (arith, none))

pub some_bytes : (n : ℕ) → (n ≡ 0 → ⊥) → 0 < n
some_bytes zero some = absurd (some refl)
some_bytes (suc n) some = omega arith

free_by : (rest : List ℕ) (t : Bool) → nat_eq (length rest) 0 ≡ t → entry_in (0 ∷ rest) ≡ (if t then Ok None else Err (length (0 ∷ rest) - length rest))
unfolding entry_in
free_by rest t e = ap (λ (b : Bool). if b then Ok None else Err (length (0 ∷ rest) - length rest)) e

pub free_found : (kind : ℕ) (rest : List ℕ) → kind ≡ 0 → length rest ≡ 0 → entry_in (kind ∷ rest) ≡ Ok None
free_found kind rest zero_kind none = ap (λ (k : ℕ). entry_in (k ∷ rest)) zero_kind ∙ free_by rest true (eq-eqb (length rest) 0 none)

pub free_over : (kind : ℕ) (rest : List ℕ) → kind ≡ 0 → 0 < length rest → entry_in (kind ∷ rest) ≡ Err 1
free_over kind rest zero_kind some =
    ap (λ (k : ℕ). entry_in (k ∷ rest)) zero_kind ∙ free_by rest false (not_zero (length rest) some) ∙ ap (λ (n : ℕ). Err n) (let one : length (0 ∷ rest) - length rest ≡ 1 = omega arith in one)

module _ (bytes : List ℕ) where
  pub wrong_key : (left : ℕ) → key_at bytes ≡ Err left → entry_in (1 ∷ bytes) ≡ Err (length (1 ∷ bytes) - left)
  unfolding entry_in
  wrong_key left e = rw e refl

  pub wrong_promise : (key r1 : List ℕ) (left : ℕ) → key_at bytes ≡ Ok (key, r1) → ballot_at r1 ≡ Err left → entry_in (1 ∷ bytes) ≡ Err (length (1 ∷ bytes) - left)
  unfolding entry_in
  wrong_promise key r1 left e f = rw (e, f) refl

  module _ (key r1 : List ℕ) (promise : Ballot) (r2 : List ℕ) (e : key_at bytes ≡ Ok (key, r1)) (f : ballot_at r1 ≡ Ok (promise, r2)) where
    pub wrong_accepted : (left : ℕ) → optional_at accepted_at r2 ≡ Err left → entry_in (1 ∷ bytes) ≡ Err (length (1 ∷ bytes) - left)
    unfolding entry_in
    wrong_accepted left g = rw (e, f, g) refl

    read_whole : (accepted : Option Accepted) (r3 : List ℕ) → optional_at accepted_at r2 ≡ Ok (accepted, r3) → entry_in (1 ∷ bytes) ≡ (if nat_eq (length r3) 0 then Ok (Some (key, record { promise = promise; accepted = accepted })) else Err (length (1 ∷ bytes) - length r3))
    unfolding entry_in
    read_whole accepted r3 g = rw (e, f, g) refl

    pub found_entry : (accepted : Option Accepted) (r3 : List ℕ) → optional_at accepted_at r2 ≡ Ok (accepted, r3) → length r3 ≡ 0 → entry_in (1 ∷ bytes) ≡ Ok (Some (key, record { promise = promise; accepted = accepted }))
    found_entry accepted r3 g none = read_whole accepted r3 g ∙ ap (λ (b : Bool). if b then Ok (Some (key, record { promise = promise; accepted = accepted })) else Err (length (1 ∷ bytes) - length r3)) (eq-eqb (length r3) 0 none)

    pub left_over : (accepted : Option Accepted) (r3 : List ℕ) → optional_at accepted_at r2 ≡ Ok (accepted, r3) → 0 < length r3 → entry_in (1 ∷ bytes) ≡ Err (length (1 ∷ bytes) - length r3)
    left_over accepted r3 g some = read_whole accepted r3 g ∙ ap (λ (b : Bool). if b then Ok (Some (key, record { promise = promise; accepted = accepted })) else Err (length (1 ∷ bytes) - length r3)) (not_zero (length r3) some)
