-- Numbers up to a limit, and where reading one stops.
use Rattle.std.proofs.Common.{◌≡◌, ℕ, zero, suc, ◌+◌, ◌-◌, lit<, ◌<◌, ◌≤◌, Bool, true, false, cond, ltb, List, [], ◌∷◌, ◌++◌, length, take, drop, Option, Some, None, Ok, Err, refl, sym, ap, ◌∙◌, arith, inl, inr}
use Rattle.std.specs.Prelude.{◌⊎◌, replicate}
use Rattle.std.specs.Int.{Width, byte_len, to_be_bytes, from_be_bytes}
use Rattle.std.proofs.lemmas.Bool.{ltb-true, ltb-false}
use Rattle.std.proofs.lemmas.List.{append-nil, length-append, length-replicate}
use Rattle.cas_wire.specs.Reading.{Reading, number_at, stopped_at, rise_at, one_later}
use Rattle.cas_base.proofs.Bytes.{IsBytes}
use Rattle.cas_wire.proofs.Formats.{left_is, not_err, stopped_ok, Takes, IsFormat, IsWide, number_takes, number_again, number_within}
use Rattle.cas_wire.proofs.Limits.{value, not_risen, risen_by, rise_le, le_rise}
use Rattle.cas_wire.proofs.Stops.{StopsAt, Stops, ended}

-- a number of that width, read up to the limit of these bytes
abbrev pub limited_at : Width → List ℕ → List ℕ → Reading ℕ
limited_at w limit bytes = stopped_at (rise_at limit bytes) bytes (number_at w bytes)

-- these bytes spell the limit
pub record IsLimit (w : Width) (bound most : ℕ) (limit : List ℕ) : Type 0 where
  pub wide : IsWide w bound
  pub below : most < bound
  pub spelled : to_be_bytes w most ≡ limit
  pub fits : IsBytes limit
  pub len : length limit ≡ byte_len w
  pub value_is : value limit ≡ most
  pub value_of : (bytes : List ℕ) → length bytes ≡ byte_len w → value bytes ≡ from_be_bytes w bytes
  pub spelled_fits : (n : ℕ) → IsBytes (to_be_bytes w n)

-- ---- the format

value_spelled : (w : Width) (bound most : ℕ) (limit : List ℕ) → IsLimit w bound most limit → (n : ℕ) → n < bound → value (to_be_bytes w n) ≡ n
value_spelled w bound most limit l n lt = l.value_of (to_be_bytes w n) (l.wide.len n) ∙ l.wide.again n lt

limited_takes : (w : Width) (bound most : ℕ) (limit : List ℕ) → IsLimit w bound most limit → (bytes : List ℕ) (x : ℕ × List ℕ) → IsBytes bytes → limited_at w limit bytes ≡ Ok x → Takes bytes (to_be_bytes w x.0) x.1 × (x.0 ≤ most)
limited_takes w bound most limit l bytes x fits e =
    let s = stopped_ok (rise_at limit bytes) bytes (number_at w bytes) x e in
    let t = number_takes w bound l.wide bytes x fits s.1 in
    let none : rise_at limit (to_be_bytes w x.0 ++ x.1) ≡ None = ap (λ (xs : List ℕ). rise_at limit xs) (sym t.0.parts) ∙ s.0 in
    let le : value (to_be_bytes w x.0) ≤ value limit = rise_le limit (to_be_bytes w x.0) x.1 (l.wide.len x.0 ∙ sym l.len) (l.spelled_fits x.0) none in
    let is = value_spelled w bound most limit l x.0 t.1 in
    let top = l.value_is in
    (t.0, omega (arith, le, is, top))

not_above : (w : Width) (bound most : ℕ) (limit : List ℕ) → IsLimit w bound most limit → (n : ℕ) (rest : List ℕ) → n ≤ most → rise_at limit (to_be_bytes w n ++ rest) ≡ None
not_above w bound most limit l n rest le =
    let is = value_spelled w bound most limit l n (omega (arith, le, l.below)) in
    let top = l.value_is in
    le_rise limit (to_be_bytes w n) rest (l.wide.len n ∙ sym l.len) l.fits (omega (arith, le, is, top))

limited_again : (w : Width) (bound most : ℕ) (limit : List ℕ) → IsLimit w bound most limit → (n : ℕ) (rest : List ℕ) → n ≤ most → limited_at w limit (to_be_bytes w n ++ rest) ≡ Ok (n, rest)
limited_again w bound most limit l n rest le =
    ap (λ (o : Option ℕ). stopped_at o (to_be_bytes w n ++ rest) (number_at w (to_be_bytes w n ++ rest))) (not_above w bound most limit l n rest le)
    ∙ number_again w bound l.wide n rest (omega (arith, le, l.below))

pub stopped_err : {A : Type 0} (o : Option ℕ) (bytes : List ℕ) (r : Reading A) (left : ℕ) → stopped_at o bytes r ≡ Err left → ((i : ℕ) × (o ≡ Some i) × (length bytes - i ≡ left)) ⊎ ((o ≡ None) × (r ≡ Err left))
stopped_err None bytes r left e = inr (refl, e)
stopped_err {A} (Some i) bytes r left e = inl (i, refl, left_is {A = A} (length bytes - i) left e)

limited_within : (w : Width) (limit bytes : List ℕ) (left : ℕ) → limited_at w limit bytes ≡ Err left → left ≤ length bytes
limited_within w limit bytes left e = elim (stopped_err (rise_at limit bytes) bytes (number_at w bytes) left e) [ inl stopped ↦ omega (arith, stopped.2) | inr short ↦ number_within w bytes left short.1 ]

pub limited_format : (w : Width) (bound most : ℕ) (limit : List ℕ) → IsLimit w bound most limit → IsFormat (to_be_bytes w) (λ n. n ≤ most) (limited_at w limit)
limited_format w bound most limit l = record {
  takes = limited_takes w bound most limit l;
  again = limited_again w bound most limit l;
  within = λ bytes left fits e. limited_within w limit bytes left e;
}

-- ---- a number that ends too early

pub IsBytes-append : (xs ys : List ℕ) → IsBytes xs → IsBytes ys → IsBytes (xs ++ ys)
IsBytes-append [] ys fits fits' i = fits' i
IsBytes-append (x ∷ xs) ys fits fits' zero = fits 0
IsBytes-append (x ∷ xs) ys fits fits' (suc i) = IsBytes-append xs ys (λ k. fits (suc k)) fits' i

IsBytes-zeros : (n : ℕ) → IsBytes (replicate n 0)
IsBytes-zeros zero i = lit< tt
IsBytes-zeros (suc n) zero = lit< tt
IsBytes-zeros (suc n) (suc i) = IsBytes-zeros n i

pub guard_is : {A : Type 0} (b : Bool) (m left : ℕ) (x : A × List ℕ) → cond b (Err m) (Ok x) ≡ Err left → (b ≡ true) × (m ≡ left)
guard_is {A} true m left x e = (refl, left_is {A = A} m left e)
guard_is false m left x e = absurd (not_err x left e)

number_short : (w : Width) (bytes : List ℕ) (left : ℕ) → number_at w bytes ≡ Err left → (length bytes < byte_len w) × (0 ≡ left)
number_short w bytes left e =
    let g = guard_is (ltb (length bytes) (byte_len w)) 0 left (from_be_bytes w (take (byte_len w) bytes), drop (byte_len w) bytes) e in
    (ltb-true (length bytes) (byte_len w) g.0, g.1)

-- the bytes with zeros behind them
abbrev filled : Width → List ℕ → List ℕ
filled w bytes = bytes ++ replicate (byte_len w - length bytes) 0

filled_len : (w : Width) (bytes : List ℕ) → length bytes < byte_len w → length (filled w bytes) ≡ byte_len w
filled_len w bytes short = omega (arith, short, length-append bytes (replicate (byte_len w - length bytes) 0), length-replicate {A = ℕ} (byte_len w - length bytes) 0)

filled_fits : (w : Width) (bytes : List ℕ) → IsBytes bytes → IsBytes (filled w bytes)
filled_fits w bytes fits = IsBytes-append bytes (replicate (byte_len w - length bytes) 0) fits (IsBytes-zeros (byte_len w - length bytes))

pub number_stops : (w : Width) (bound : ℕ) → IsWide w bound → Stops (to_be_bytes w) (λ n. n < bound) (number_at w)
number_stops w bound wide bytes left fits e =
    let short = number_short w bytes left e in
    ended (to_be_bytes w) (λ n. n < bound) bytes left short.1 (from_be_bytes w (filled w bytes)) (replicate (byte_len w - length bytes) 0) (wide.below (filled w bytes) (filled_fits w bytes fits)) (wide.back (filled w bytes) (filled_len w bytes short.0) (filled_fits w bytes fits))

-- ---- where a number rises

pub record RisesAt (limit bytes : List ℕ) (i : ℕ) : Type 0 where
  pub front : List ℕ
  pub byte : ℕ
  pub after : List ℕ
  pub tail : List ℕ
  pub parts : bytes ≡ front ++ (byte ∷ after)
  pub len : length front ≡ i
  pub limit_parts : limit ≡ front ++ tail
  pub again : (rest : List ℕ) → rise_at limit (front ++ (byte ∷ rest)) ≡ Some i

later_some : (o : Option ℕ) (i : ℕ) → one_later o ≡ Some i → (j : ℕ) × (o ≡ Some j) × (i ≡ j + 1)
later_some None i e = absurd cc
later_some (Some j) i e = (j, refl, cc)

rise_case : (s t : Bool) (o : Option ℕ) (i : ℕ) → cond s None (cond t (Some 0) (one_later o)) ≡ Some i → ((s ≡ false) × (t ≡ true) × (i ≡ 0)) ⊎ ((s ≡ false) × (t ≡ false) × ((j : ℕ) × (o ≡ Some j) × (i ≡ j + 1)))
rise_case true t o i e = absurd cc
rise_case false true o i e = inl (refl, refl, cc)
rise_case false false o i e = inr (refl, refl, later_some o i e)

risen_here : (s t : Bool) (o : Option ℕ) → s ≡ false → t ≡ true → cond s None (cond t (Some 0) (one_later o)) ≡ Some 0
risen_here s t o p q = rw (p, q) refl

risen_later : (s t : Bool) (o : Option ℕ) (j : ℕ) → s ≡ false → t ≡ false → o ≡ Some j → cond s None (cond t (Some 0) (one_later o)) ≡ Some (j + 1)
risen_later s t o j p q h = rw (p, q, h) refl

pub rises_where : (limit bytes : List ℕ) (i : ℕ) → rise_at limit bytes ≡ Some i → RisesAt limit bytes i
rises_where [] bytes i e = absurd cc
rises_where (l ∷ limit) [] i e = absurd cc
rises_where (l ∷ limit) (b ∷ bytes) i e = elim (rise_case (ltb b l) (ltb l b) (rise_at limit bytes) i e) [
  | inl here ↦ record {
    front = [];
    byte = b;
    after = bytes;
    tail = l ∷ limit;
    parts = refl;
    len = sym here.2;
    limit_parts = refl;
    again = λ rest. risen_here (ltb b l) (ltb l b) (rise_at limit rest) here.0 here.1 ∙ ap (λ (n : ℕ). Some n) (sym here.2);
  }
  | inr later ↦
      let inner = rises_where limit bytes later.2.0 later.2.1 in
      let one : l ≡ b = omega (arith, ltb-false b l later.0, ltb-false l b later.1) in
      let count = inner.len in
      record {
        front = b ∷ inner.front;
        byte = inner.byte;
        after = inner.after;
        tail = inner.tail;
        parts = ap (λ (xs : List ℕ). b ∷ xs) inner.parts;
        len = omega (arith, count, later.2.2);
        limit_parts = ap (λ (xs : List ℕ). l ∷ xs) inner.limit_parts ∙ ap (λ (x : ℕ). x ∷ (inner.front ++ inner.tail)) one;
        again = λ rest. risen_later (ltb b l) (ltb l b) (rise_at limit (inner.front ++ (inner.byte ∷ rest))) later.2.0 later.0 later.1 (inner.again rest) ∙ ap (λ (n : ℕ). Some n) (sym later.2.2);
      }
]

rise_nil : (limit : List ℕ) → rise_at limit [] ≡ None
rise_nil [] = refl
rise_nil (l ∷ limit) = refl

-- zeros behind rise nowhere
rise_zeros : (limit bytes : List ℕ) (k : ℕ) → rise_at limit bytes ≡ None → rise_at limit (bytes ++ replicate k 0) ≡ None
rise_zeros [] bytes k e = refl
rise_zeros (l ∷ limit) [] zero e = refl
rise_zeros (l ∷ limit) [] (suc k) e = not_risen (ltb 0 l) (ltb l 0) (rise_at limit (replicate k 0)) (λ above. absurd (omega (arith, ltb-true l 0 above))) (λ s t. rise_zeros limit [] k (rise_nil limit))
rise_zeros (l ∷ limit) (b ∷ bytes) k e = elim (risen_by (ltb b l) (ltb l b) (rise_at limit bytes) e) [
  | inl below ↦ ap (λ (s : Bool). cond s None (cond (ltb l b) (Some 0) (one_later (rise_at limit (bytes ++ replicate k 0))))) below
  | inr equal ↦ not_risen (ltb b l) (ltb l b) (rise_at limit (bytes ++ replicate k 0)) (λ above. absurd (let no = equal.1 in cc)) (λ s t. rise_zeros limit bytes k equal.2)
]

module _ (w : Width) (bound most : ℕ) (limit : List ℕ) (l : IsLimit w bound most limit) where
  stops_risen : (bytes : List ℕ) (left i : ℕ) → rise_at limit bytes ≡ Some i → length bytes - i ≡ left → StopsAt (to_be_bytes w) (λ n. n ≤ most) bytes left
  stops_risen bytes left i risen is =
      let where_risen = rises_where limit bytes i risen in
      let whole : length bytes ≡ length where_risen.front + length (where_risen.byte ∷ where_risen.after) = ap (λ (xs : List ℕ). length xs) where_risen.parts ∙ length-append where_risen.front (where_risen.byte ∷ where_risen.after) in
      let count = where_risen.len in
      record {
        front = where_risen.front;
        behind = where_risen.byte ∷ where_risen.after;
        parts = where_risen.parts;
        len = omega (arith, whole, count, is);
        value = most;
        tail = where_risen.tail;
        fits = omega arith;
        begins = l.spelled ∙ where_risen.limit_parts;
        other = λ b after same n rest le e.
            let byte : where_risen.byte ≡ b = cc in
            let low : rise_at limit (to_be_bytes w n) ≡ None = ap (λ (xs : List ℕ). rise_at limit xs) (sym (append-nil (to_be_bytes w n))) ∙ not_above w bound most limit l n [] le in
            let high : rise_at limit (to_be_bytes w n) ≡ Some i = ap (λ (xs : List ℕ). rise_at limit xs) (e ∙ ap (λ (y : ℕ). where_risen.front ++ (y ∷ rest)) (sym byte)) ∙ where_risen.again rest in
            cc;
      }

  stops_short : (bytes : List ℕ) (left : ℕ) → IsBytes bytes → rise_at limit bytes ≡ None → number_at w bytes ≡ Err left → StopsAt (to_be_bytes w) (λ n. n ≤ most) bytes left
  stops_short bytes left fits none e =
      let short = number_short w bytes left e in
      let k : ℕ = byte_len w - length bytes in
      let len = filled_len w bytes short.0 in
      let low : rise_at limit (filled w bytes ++ []) ≡ None = ap (λ (xs : List ℕ). rise_at limit xs) (append-nil (filled w bytes)) ∙ rise_zeros limit bytes (byte_len w - length bytes) none in
      let le : value (filled w bytes) ≤ value limit = rise_le limit (filled w bytes) [] (len ∙ sym l.len) (filled_fits w bytes fits) low in
      let is : value (filled w bytes) ≡ from_be_bytes w (filled w bytes) = l.value_of (filled w bytes) len in
      let top = l.value_is in
      ended (to_be_bytes w) (λ n. n ≤ most) bytes left short.1 (from_be_bytes w (filled w bytes)) (replicate (byte_len w - length bytes) 0) (omega (arith, le, is, top)) (l.wide.back (filled w bytes) len (filled_fits w bytes fits))

  pub limited_stops : Stops (to_be_bytes w) (λ n. n ≤ most) (limited_at w limit)
  limited_stops bytes left fits e = elim (stopped_err (rise_at limit bytes) bytes (number_at w bytes) left e) [
    | inl risen ↦ stops_risen bytes left risen.0 risen.1 risen.2
    | inr short ↦ stops_short bytes left fits short.0 short.1
  ]
