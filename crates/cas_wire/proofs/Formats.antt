-- What is read is spelled so, and what is spelled so is read.
use Rattle.std.proofs.Common.{◌≡◌, ℕ, zero, suc, ◌+◌, ◌^◌, ◌<◌, ◌≤◌, Bool, true, false, cond, ltb, List, [], ◌∷◌, ◌++◌, length, take, drop, Option, Some, None, Ok, Err, refl, sym, ap, subst, ◌∙◌, append_assoc, arith, inl, inr}
use Rattle.std.specs.Prelude.{IfSome, ◌⊎◌}
use Rattle.std.specs.Int.{Width, w16, w32, w64, byte_len, from_be_bytes, to_be_bytes}
use Rattle.std.proofs.lemmas.Bool.{cases_lt, ltb-false, le-ltb}
use Rattle.std.proofs.lemmas.List.{take_at, drop_at, take-append-drop, length-append, length-take, get_or-drop, get_or-take, get_or_past}
use Rattle.std.proofs.lemmas.Nat.{be_bytes_2, be_bytes_4, be_bytes_8, from_be_bytes-to_be_bytes_2, from_be_bytes-to_be_bytes_4, from_be_bytes-to_be_bytes_8}
use Rattle.cas_base.proofs.Bytes.{IsBytes}
use Rattle.cas_wire.specs.Reading.{Reading, ◌>>=◌, pair_at, made_at, byte_where, number_at, some_at, stopped_at, optional_at}
use Rattle.cas_wire.specs.Spelling.{optional_spelling}

pub IsBytes-drop : (n : ℕ) (bytes : List ℕ) → IsBytes bytes → IsBytes (drop n bytes)
IsBytes-drop n bytes h i = rw get_or-drop (h (n + i))

pub IsBytes-take : (n : ℕ) (bytes : List ℕ) → IsBytes bytes → IsBytes (take n bytes)
IsBytes-take n bytes h i =
    elim (cases_lt i n) [
      | inl lt ↦ rw (get_or-take n bytes i 0 lt) (h i)
      | inr le ↦ rw (get_or_past (take n bytes) i 0 (omega (arith, length-take n bytes))) (omega arith)
    ]

pub IsBytes-rest : (b : ℕ) (bytes : List ℕ) → IsBytes (b ∷ bytes) → IsBytes bytes
IsBytes-rest b bytes h i = h (suc i)

-- the value of a step that did not fail
pub bind_ok : {A B : Type 0} (r : Reading A) (f : A × List ℕ → Reading B) (y : B × List ℕ) → (r >>= f) ≡ Ok y → (x : A × List ℕ) × (r ≡ Ok x) × (f x ≡ Ok y)
bind_ok (Ok x) f y e = (x, refl, e)
bind_ok (Err left) f y e = absurd cc

abbrev done : {A : Type 0} → A × List ℕ → Reading A
done x = Ok x

pub ok_is : {A : Type 0} (x y : A × List ℕ) → done x ≡ done y → x ≡ y
ok_is x y e = cc

-- a test that did not fail
pub guard_ok : {A : Type 0} (b : Bool) (left : ℕ) (x y : A × List ℕ) → cond b (Err left) (Ok x) ≡ Ok y → (b ≡ false) × (x ≡ y)
guard_ok true left x y e = absurd cc
guard_ok false left x y e = (refl, cc)

pub passed_ok : {A : Type 0} (b : Bool) (left : ℕ) (x y : A × List ℕ) → cond b (Ok x) (Err left) ≡ Ok y → (b ≡ true) × (x ≡ y)
passed_ok true left x y e = (refl, cc)
passed_ok false left x y e = absurd cc

pub stopped_ok : {A : Type 0} (o : Option ℕ) (bytes : List ℕ) (r : Reading A) (y : A × List ℕ) → stopped_at o bytes r ≡ Ok y → (o ≡ None) × (r ≡ Ok y)
stopped_ok None bytes r y e = (refl, e)
stopped_ok (Some i) bytes r y e = absurd cc

-- what a reader took from the front
pub record Takes (bytes text rest : List ℕ) : Type 0 where
  pub parts : bytes ≡ text ++ rest
  pub rest_fits : IsBytes rest

pub Takes-then : (a x b y c : List ℕ) → Takes a x b → Takes b y c → Takes a (x ++ y) c
Takes-then a x b y c p q = record { parts = p.parts ∙ ap (λ (t : List ℕ). x ++ t) q.parts ∙ sym (append_assoc x y c); rest_fits = q.rest_fits }

-- reading and spelling fit each other
pub record IsFormat {A : Type 0} (spell : A → List ℕ) (Fits : A → Type 0) (read : List ℕ → Reading A) : Type 0 where
  pub takes : (bytes : List ℕ) (x : A × List ℕ) → IsBytes bytes → read bytes ≡ Ok x → Takes bytes (spell x.0) x.1 × Fits x.0
  pub again : (a : A) (rest : List ℕ) → Fits a → read (spell a ++ rest) ≡ Ok (a, rest)
  -- the bytes that are left from a wrong one on are among them
  pub within : (bytes : List ℕ) (left : ℕ) → IsBytes bytes → read bytes ≡ Err left → left ≤ length bytes

abbrev failed : {A : Type 0} → ℕ → Reading A
failed left = Err left

pub left_is : {A : Type 0} (m n : ℕ) → failed {A = A} m ≡ failed {A = A} n → m ≡ n
left_is m n e = cc

pub bind_err : {A B : Type 0} (r : Reading A) (f : A × List ℕ → Reading B) (left : ℕ) → (r >>= f) ≡ Err left → (r ≡ Err left) ⊎ ((x : A × List ℕ) × (r ≡ Ok x) × (f x ≡ Err left))
bind_err (Ok x) f left e = inr (x, refl, e)
bind_err {B = B} (Err other) f left e = inl (ap (λ (n : ℕ). failed n) (left_is {A = B} other left e))

pub not_err : {A : Type 0} (x : A × List ℕ) (left : ℕ) → done x ≡ failed {A = A} left → ⊥
not_err x left e = cc

passed_err : {A : Type 0} (b : Bool) (m left : ℕ) (x : A × List ℕ) → cond b (done x) (Err m) ≡ Err left → m ≡ left
passed_err true m left x e = absurd (not_err x left e)
passed_err {A} false m left x e = left_is {A = A} m left e

pub guard_err : {A : Type 0} (b : Bool) (m left : ℕ) (x : A × List ℕ) → cond b (Err m) (done x) ≡ Err left → m ≡ left
guard_err {A} true m left x e = left_is {A = A} m left e
guard_err false m left x e = absurd (not_err x left e)

pub rest_shorter : (bytes text rest : List ℕ) → Takes bytes text rest → length rest ≤ length bytes
rest_shorter bytes text rest t = omega (arith, ap (λ (xs : List ℕ). length xs) t.parts, length-append text rest)

-- ---- a byte

pub byte_takes : (test : ℕ → Bool) (bytes : List ℕ) (x : ℕ × List ℕ) → IsBytes bytes → byte_where test bytes ≡ Ok x → Takes bytes (x.0 ∷ []) x.1 × ((test x.0 ≡ true) × (x.0 < 256))
byte_takes test [] x fits e = absurd cc
byte_takes test (b ∷ bytes) x fits e =
    let p = passed_ok (test b) (length (b ∷ bytes)) (b, bytes) x e in
    subst (λ (y : ℕ × List ℕ). Takes (b ∷ bytes) (y.0 ∷ []) y.1 × ((test y.0 ≡ true) × (y.0 < 256))) p.1 (record { parts = refl; rest_fits = IsBytes-rest b bytes fits }, (p.0, fits 0))

byte_within : (test : ℕ → Bool) (bytes : List ℕ) (left : ℕ) → byte_where test bytes ≡ Err left → left ≤ length bytes
byte_within test [] left e = let none : 0 ≡ left = left_is {A = ℕ} 0 left e in omega arith
byte_within test (b ∷ bytes) left e = let all : length (b ∷ bytes) ≡ left = passed_err (test b) (length (b ∷ bytes)) left (b, bytes) e in omega arith

pub byte_format : (test : ℕ → Bool) → IsFormat (λ n. n ∷ []) (λ n. (test n ≡ true) × (n < 256)) (byte_where test)
byte_format test = record {
  takes = byte_takes test;
  again = λ n rest h. ap (λ (b : Bool). cond b (done (n, rest)) (Err (length (n ∷ rest)))) h.0;
  within = λ bytes left fits e. byte_within test bytes left e;
}

-- ---- numbers

pub record IsWide (w : Width) (limit : ℕ) : Type 0 where
  pub len : (n : ℕ) → length (to_be_bytes w n) ≡ byte_len w
  pub back : (bytes : List ℕ) → length bytes ≡ byte_len w → IsBytes bytes → to_be_bytes w (from_be_bytes w bytes) ≡ bytes
  pub again : (n : ℕ) → n < limit → from_be_bytes w (to_be_bytes w n) ≡ n
  pub below : (bytes : List ℕ) → IsBytes bytes → from_be_bytes w bytes < limit

pub wide16 : IsWide w16 (2 ^ 16)
wide16 = record {
  len = λ n. refl;
  back = λ bytes len fits. be_bytes_2 bytes _ len fits refl;
  again = λ n lt. from_be_bytes-to_be_bytes_2 n lt;
  below = λ bytes fits. omega (arith, fits 0, fits 1);
}

pub wide32 : IsWide w32 (2 ^ 32)
wide32 = record {
  len = λ n. refl;
  back = λ bytes len fits. be_bytes_4 bytes _ len fits refl;
  again = λ n lt. from_be_bytes-to_be_bytes_4 n lt;
  below = λ bytes fits. omega (arith, fits 0, fits 1, fits 2, fits 3);
}

pub wide64 : IsWide w64 (2 ^ 64)
wide64 = record {
  len = λ n. refl;
  back = λ bytes len fits. be_bytes_8 bytes _ len fits refl;
  again = λ n lt. from_be_bytes-to_be_bytes_8 n lt;
  below = λ bytes fits. omega (arith, fits 0, fits 1, fits 2, fits 3, fits 4, fits 5, fits 6, fits 7);
}

pub number_takes : (w : Width) (limit : ℕ) (wide : IsWide w limit) (bytes : List ℕ) (x : ℕ × List ℕ) → IsBytes bytes → number_at w bytes ≡ Ok x → Takes bytes (to_be_bytes w x.0) x.1 × (x.0 < limit)
number_takes w limit wide bytes x fits e =
    let made : ℕ × List ℕ = (from_be_bytes w (take (byte_len w) bytes), drop (byte_len w) bytes) in
    let g = guard_ok (ltb (length bytes) (byte_len w)) 0 made x e in
    let long : byte_len w ≤ length bytes = ltb-false _ _ g.0 in
    let front : to_be_bytes w made.0 ≡ take (byte_len w) bytes = wide.back (take (byte_len w) bytes) (omega (arith, length-take (byte_len w) bytes)) (IsBytes-take (byte_len w) bytes fits) in
    subst (λ (y : ℕ × List ℕ). Takes bytes (to_be_bytes w y.0) y.1 × (y.0 < limit)) g.1
    (record { parts = sym (ap (λ (t : List ℕ). t ++ drop (byte_len w) bytes) front ∙ take-append-drop (byte_len w) bytes); rest_fits = IsBytes-drop (byte_len w) bytes fits }, wide.below (take (byte_len w) bytes) (IsBytes-take (byte_len w) bytes fits))

pub number_again : (w : Width) (limit : ℕ) (wide : IsWide w limit) (n : ℕ) (rest : List ℕ) → n < limit → number_at w (to_be_bytes w n ++ rest) ≡ Ok (n, rest)
number_again w limit wide n rest lt =
    let len = wide.len n in
    let long : ltb (length (to_be_bytes w n ++ rest)) (byte_len w) ≡ false = le-ltb _ _ (omega (arith, length-append (to_be_bytes w n) rest)) in
    rw (long, take_at (to_be_bytes w n) rest (byte_len w) len, drop_at (to_be_bytes w n) rest (byte_len w) len, wide.again n lt) refl

pub number_within : (w : Width) (bytes : List ℕ) (left : ℕ) → number_at w bytes ≡ Err left → left ≤ length bytes
number_within w bytes left e =
    let none : 0 ≡ left = guard_err (ltb (length bytes) (byte_len w)) 0 left (from_be_bytes w (take (byte_len w) bytes), drop (byte_len w) bytes) e in
    omega arith

pub number_format : (w : Width) (limit : ℕ) → IsWide w limit → IsFormat (to_be_bytes w) (λ n. n < limit) (number_at w)
number_format w limit wide = record {
  takes = number_takes w limit wide;
  again = number_again w limit wide;
  within = λ bytes left fits e. number_within w bytes left e;
}

-- ---- so many bytes

pub some_takes : (n : ℕ) (bytes : List ℕ) (x : List ℕ × List ℕ) → IsBytes bytes → some_at n bytes ≡ Ok x → Takes bytes x.0 x.1 × ((length x.0 ≡ n) × (x.0 ≡ take n bytes))
some_takes n bytes x fits e =
    let g = guard_ok (ltb (length bytes) n) 0 (take n bytes, drop n bytes) x e in
    let long : n ≤ length bytes = ltb-false _ _ g.0 in
    let len : length (take n bytes) ≡ n = omega (arith, length-take n bytes) in
    subst (λ (y : List ℕ × List ℕ). Takes bytes y.0 y.1 × ((length y.0 ≡ n) × (y.0 ≡ take n bytes))) g.1
    (record { parts = sym (take-append-drop n bytes); rest_fits = IsBytes-drop n bytes fits }, (len, refl))

pub some_again : (text rest : List ℕ) → some_at (length text) (text ++ rest) ≡ Ok (text, rest)
some_again text rest =
    let long : ltb (length (text ++ rest)) (length text) ≡ false = le-ltb _ _ (omega (arith, length-append text rest)) in
    rw (long, take_at text rest (length text) refl, drop_at text rest (length text) refl) refl

-- ---- one behind the other

module _ {A B : Type 0} {s : A → List ℕ} {F : A → Type 0} {r : List ℕ → Reading A} where
  pub pair_format : {t : B → List ℕ} {G : B → Type 0} {q : List ℕ → Reading B} → IsFormat s F r → IsFormat t G q
      → IsFormat (λ (p : A × B). s p.0 ++ t p.1) (λ p. F p.0 × G p.1) (pair_at r q)
  pair_format {t} {G} {q} one two = record {
    takes = λ bytes x fits e.
        let a = bind_ok (r bytes) (λ a. q a.1 >>= λ b. Ok ((a.0, b.0), b.1)) x e in
        let b = bind_ok (q a.0.1) (λ b. Ok ((a.0.0, b.0), b.1)) x a.2 in
        let first = one.takes bytes a.0 fits a.1 in
        let second = two.takes a.0.1 b.0 first.0.rest_fits b.1 in
        let made : (A × B) × List ℕ = ((a.0.0, b.0.0), b.0.1) in
        subst (λ (y : (A × B) × List ℕ). Takes bytes (s y.0.0 ++ t y.0.1) y.1 × (F y.0.0 × G y.0.1)) (ok_is made x b.2)
        (Takes-then bytes (s a.0.0) a.0.1 (t b.0.0) b.0.1 first.0 second.0, (first.1, second.1));
    again = λ p rest h.
        ap (pair_at r q) (append_assoc (s p.0) (t p.1) rest)
        ∙ ap (λ (read : Reading A). read >>= λ a. q a.1 >>= λ b. Ok ((a.0, b.0), b.1)) (one.again p.0 (t p.1 ++ rest) h.0)
        ∙ ap (λ (read : Reading B). read >>= λ b. Ok ((p.0, b.0), b.1)) (two.again p.1 rest h.1);
    within = λ bytes left fits e. elim (bind_err (r bytes) (λ a. q a.1 >>= λ b. Ok ((a.0, b.0), b.1)) left e) [
      | inl first ↦ one.within bytes left fits first
      | inr a ↦ elim (bind_err (q a.0.1) (λ b. Ok ((a.0.0, b.0), b.1)) left a.2) [
        | inl second ↦
            let t = one.takes bytes a.0 fits a.1 in
            let inner = two.within a.0.1 left t.0.rest_fits second in
            let shorter = rest_shorter bytes (s a.0.0) a.0.1 t.0 in
            omega arith
        | inr b ↦ absurd (not_err ((a.0.0, b.0.0), b.0.1) left b.2)
      ]
    ];
  }

  pub made_format : (f : A → B) (g : B → A) → ((a : A) → F a → g (f a) ≡ a) → ((b : B) → f (g b) ≡ b) → IsFormat s F r → IsFormat (λ b. s (g b)) (λ b. F (g b)) (made_at f r)
  made_format f g back forth one = record {
    takes = λ bytes x fits e.
        let a = bind_ok (r bytes) (λ a. Ok (f a.0, a.1)) x e in
        let t = one.takes bytes a.0 fits a.1 in
        let made : B × List ℕ = (f a.0.0, a.0.1) in
        subst (λ (y : B × List ℕ). Takes bytes (s (g y.0)) y.1 × F (g y.0)) (ok_is made x a.2)
        (subst (λ (y : A). Takes bytes (s y) a.0.1 × F y) (sym (back a.0.0 t.1)) t);
    again = λ b rest h.
        ap (λ (read : Reading A). read >>= λ a. Ok (f a.0, a.1)) (one.again (g b) rest h) ∙ ap (λ (y : B). Ok (y, rest)) (forth b);
    within = λ bytes left fits e. elim (bind_err (r bytes) (λ a. Ok (f a.0, a.1)) left e) [
      | inl first ↦ one.within bytes left fits first
      | inr a ↦ absurd (not_err (f a.0.0, a.0.1) left a.2)
    ];
  }

module _ {A : Type 0} {s : A → List ℕ} {F : A → Type 0} {r : List ℕ → Reading A} where
  optional_takes : IsFormat s F r → (bytes : List ℕ) (x : Option A × List ℕ) → IsBytes bytes → optional_at r bytes ≡ Ok x → Takes bytes (optional_spelling s x.0) x.1 × IfSome x.0 F
  optional_takes one [] x fits e = absurd cc
  optional_takes one (zero ∷ bytes) x fits e =
      subst (λ (y : Option A × List ℕ). Takes (0 ∷ bytes) (optional_spelling s y.0) y.1 × IfSome y.0 F) (ok_is (None, bytes) x e) (record { parts = refl; rest_fits = IsBytes-rest 0 bytes fits }, tt)
  optional_takes one (suc zero ∷ bytes) x fits e =
      let a = bind_ok (r bytes) (λ a. Ok (Some a.0, a.1)) x e in
      let t = one.takes bytes a.0 (IsBytes-rest 1 bytes fits) a.1 in
      let made : Option A × List ℕ = (Some a.0.0, a.0.1) in
      subst (λ (y : Option A × List ℕ). Takes (1 ∷ bytes) (optional_spelling s y.0) y.1 × IfSome y.0 F) (ok_is made x a.2) (record { parts = ap (λ (w : List ℕ). 1 ∷ w) t.0.parts; rest_fits = t.0.rest_fits }, t.1)
  optional_takes one (suc (suc b) ∷ bytes) x fits e = absurd cc

  optional_again : IsFormat s F r → (o : Option A) (rest : List ℕ) → IfSome o F → optional_at r (optional_spelling s o ++ rest) ≡ Ok (o, rest)
  optional_again one None rest h = refl
  optional_again one (Some a) rest h = ap (λ (read : Reading A). read >>= λ a. Ok (Some a.0, a.1)) (one.again a rest h)

  optional_within : IsFormat s F r → (bytes : List ℕ) (left : ℕ) → IsBytes bytes → optional_at r bytes ≡ Err left → left ≤ length bytes
  optional_within one [] left fits e = let none : 0 ≡ left = left_is {A = Option A} 0 left e in omega arith
  optional_within one (zero ∷ bytes) left fits e = absurd (let nothing : Option A × List ℕ = (None, bytes) in not_err nothing left e)
  optional_within one (suc zero ∷ bytes) left fits e = elim (bind_err (r bytes) (λ a. Ok (Some a.0, a.1)) left e) [
    | inl first ↦ let inner = one.within bytes left (IsBytes-rest 1 bytes fits) first in omega arith
    | inr a ↦ absurd (not_err (Some a.0.0, a.0.1) left a.2)
  ]
  optional_within one (suc (suc b) ∷ bytes) left fits e = let all : length (b ∷ bytes) ≡ left = left_is {A = Option A} (length (b ∷ bytes)) left e in omega arith

  pub optional_format : IsFormat s F r → IsFormat (optional_spelling s) (λ o. IfSome o F) (optional_at r)
  optional_format one = record { takes = optional_takes one; again = optional_again one; within = optional_within one }
