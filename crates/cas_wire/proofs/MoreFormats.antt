-- More ways to make a format of formats.
use Rattle.std.proofs.Common.{◌≡◌, ℕ, zero, suc, ◌≤◌, Bool, true, false, cond, eqb, List, [], ◌∷◌, ◌++◌, length, Option, Some, None, Ok, Err, refl, sym, ap, subst, ◌∙◌, append_assoc, arith, inl, inr}
use Rattle.std.specs.Prelude.{◌⊎◌}
use Rattle.std.specs.List.{flat_map, AllByRecursion}
use Rattle.std.proofs.lemmas.Bool.{eqb-true}
use Rattle.std.proofs.lemmas.List.Concat.{flat_map-cons}
use Rattle.cas_wire.specs.FrameReading.{then_at, where_at, list_at, known, named_at}
use Rattle.cas_wire.specs.Kinds.{named}
use Rattle.cas_wire.specs.Reading.{Reading, ◌>>=◌, made_at}
use Rattle.cas_base.proofs.Bytes.{IsBytes}
use Rattle.cas_wire.proofs.Formats.{IsBytes-rest, bind_ok, bind_err, ok_is, left_is, not_err, Takes, Takes-then, rest_shorter, IsFormat}

-- ---- a value that one before it says how to read

module _ {A B : Type 0} {s : A → List ℕ} {F : A → Type 0} {r : List ℕ → Reading A} where
  pub then_format : {t : B → List ℕ} {G : A → B → Type 0} {q : A → List ℕ → Reading B} → IsFormat s F r → ((a : A) → IsFormat t (G a) (q a))
      → IsFormat (λ (p : A × B). s p.0 ++ t p.1) (λ p. F p.0 × G p.0 p.1) (then_at r q)
  then_format {t} {G} {q} one two = record {
    takes = λ bytes x fits e.
        let a = bind_ok (r bytes) (λ a. q a.0 a.1 >>= λ b. Ok ((a.0, b.0), b.1)) x e in
        let b = bind_ok (q a.0.0 a.0.1) (λ b. Ok ((a.0.0, b.0), b.1)) x a.2 in
        let first = one.takes bytes a.0 fits a.1 in
        let second = (two a.0.0).takes a.0.1 b.0 first.0.rest_fits b.1 in
        let made : (A × B) × List ℕ = ((a.0.0, b.0.0), b.0.1) in
        subst (λ (y : (A × B) × List ℕ). Takes bytes (s y.0.0 ++ t y.0.1) y.1 × (F y.0.0 × G y.0.0 y.0.1)) (ok_is made x b.2)
        (Takes-then bytes (s a.0.0) a.0.1 (t b.0.0) b.0.1 first.0 second.0, (first.1, second.1));
    again = λ p rest h.
        ap (then_at r q) (append_assoc (s p.0) (t p.1) rest)
        ∙ ap (λ (read : Reading A). read >>= λ a. q a.0 a.1 >>= λ b. Ok ((a.0, b.0), b.1)) (one.again p.0 (t p.1 ++ rest) h.0)
        ∙ ap (λ (read : Reading B). read >>= λ b. Ok ((p.0, b.0), b.1)) ((two p.0).again p.1 rest h.1);
    within = λ bytes left fits e. elim (bind_err (r bytes) (λ a. q a.0 a.1 >>= λ b. Ok ((a.0, b.0), b.1)) left e) [
      | inl first ↦ one.within bytes left fits first
      | inr a ↦ elim (bind_err (q a.0.0 a.0.1) (λ b. Ok ((a.0.0, b.0), b.1)) left a.2) [
        | inl second ↦
            let t = one.takes bytes a.0 fits a.1 in
            let inner = (two a.0.0).within a.0.1 left t.0.rest_fits second in
            let shorter = rest_shorter bytes (s a.0.0) a.0.1 t.0 in
            omega arith
        | inr b ↦ absurd (not_err ((a.0.0, b.0.0), b.0.1) left b.2)
      ]
    ];
  }

-- ---- a value that passes a test

guarded_ok : {A : Type 0} (b : Bool) (a x : A × List ℕ) (left : ℕ) → cond b (Ok a) (Err left) ≡ Ok x → (b ≡ true) × (a ≡ x)
guarded_ok true a x left e = (refl, cc)
guarded_ok false a x left e = absurd cc

guarded_err : {A : Type 0} (b : Bool) (a : A × List ℕ) (m left : ℕ) → cond b (Ok a) (Err m) ≡ Err left → m ≡ left
guarded_err true a m left e = absurd (not_err a left e)
guarded_err {A} false a m left e = left_is {A = A} m left e

module _ {A : Type 0} {s : A → List ℕ} {F : A → Type 0} {r : List ℕ → Reading A} where
  pub where_format : (test : A → Bool) → IsFormat s F r → IsFormat s (λ a. F a × (test a ≡ true)) (where_at test r)
  where_format test one = record {
    takes = λ bytes x fits e.
        let a = bind_ok (r bytes) (λ a. cond (test a.0) (Ok a) (Err (length bytes))) x e in
        let g = guarded_ok (test a.0.0) a.0 x (length bytes) a.2 in
        let t = one.takes bytes a.0 fits a.1 in
        subst (λ (y : A × List ℕ). Takes bytes (s y.0) y.1 × (F y.0 × (test y.0 ≡ true))) g.1 (t.0, (t.1, g.0));
    again = λ a rest h.
        ap (λ (read : Reading A). read >>= λ x. cond (test x.0) (Ok x) (Err (length (s a ++ rest)))) (one.again a rest h.0)
        ∙ ap (λ (b : Bool). cond b (Ok (a, rest)) (Err (length (s a ++ rest)))) h.1;
    within = λ bytes left fits e. elim (bind_err (r bytes) (λ a. cond (test a.0) (Ok a) (Err (length bytes))) left e) [
      | inl first ↦ one.within bytes left fits first
      | inr a ↦ let all = guarded_err (test a.0.0) a.0 (length bytes) left a.2 in omega arith
    ];
  }

  -- ---- the same values, said otherwise

  pub said_format : {t : A → List ℕ} {G : A → Type 0} → ((a : A) → s a ≡ t a) → ((a : A) → F a → G a) → ((a : A) → G a → F a) → IsFormat s F r → IsFormat t G r
  said_format {t} {G} spelled to from one = record {
    takes = λ bytes x fits e.
        let a = one.takes bytes x fits e in
        (subst (λ (text : List ℕ). Takes bytes text x.1) (spelled x.0) a.0, to x.0 a.1);
    again = λ a rest h. ap (λ (text : List ℕ). r (text ++ rest)) (sym (spelled a)) ∙ one.again a rest (from a h);
    within = λ bytes left fits e. one.within bytes left fits e;
  }

  -- ---- so many values

  list_takes : IsFormat s F r → (n : ℕ) (bytes : List ℕ) (x : List A × List ℕ) → IsBytes bytes → list_at r n bytes ≡ Ok x → Takes bytes (flat_map s x.0) x.1 × ((length x.0 ≡ n) × AllByRecursion F x.0)
  unfolding list_at
  list_takes one zero bytes x fits e =
      subst (λ (y : List A × List ℕ). Takes bytes (flat_map s y.0) y.1 × ((length y.0 ≡ 0) × AllByRecursion F y.0)) (ok_is ([], bytes) x e) (record { parts = refl; rest_fits = fits }, (refl, tt))
  list_takes one (suc n) bytes x fits e =
      let a = bind_ok (r bytes) (λ first. list_at r n first.1 >>= λ others. Ok (first.0 ∷ others.0, others.1)) x e in
      let b = bind_ok (list_at r n a.0.1) (λ others. Ok (a.0.0 ∷ others.0, others.1)) x a.2 in
      let first = one.takes bytes a.0 fits a.1 in
      let second = list_takes one n a.0.1 b.0 first.0.rest_fits b.1 in
      let both = Takes-then bytes (s a.0.0) a.0.1 (flat_map s b.0.0) b.0.1 first.0 second.0 in
      let made : List A × List ℕ = (a.0.0 ∷ b.0.0, b.0.1) in
      subst (λ (y : List A × List ℕ). Takes bytes (flat_map s y.0) y.1 × ((length y.0 ≡ suc n) × AllByRecursion F y.0)) (ok_is made x b.2)
      (rw flat_map-cons both, (ap suc second.1.0, (first.1, second.1.1)))

  list_again : IsFormat s F r → (xs : List A) (rest : List ℕ) → AllByRecursion F xs → list_at r (length xs) (flat_map s xs ++ rest) ≡ Ok (xs, rest)
  unfolding list_at
  list_again one [] rest fits = refl
  list_again one (x ∷ xs) rest fits =
      let regrouped : flat_map s (x ∷ xs) ++ rest ≡ s x ++ (flat_map s xs ++ rest) = ap (λ (text : List ℕ). text ++ rest) (flat_map-cons s x xs) ∙ append_assoc (s x) (flat_map s xs) rest in
      ap (list_at r (suc (length xs))) regrouped
      ∙ ap (λ (read : Reading A). read >>= λ first. list_at r (length xs) first.1 >>= λ others. Ok (first.0 ∷ others.0, others.1)) (one.again x (flat_map s xs ++ rest) fits.0)
      ∙ ap (λ (read : Reading (List A)). read >>= λ others. Ok (x ∷ others.0, others.1)) (list_again one xs rest fits.1)

  list_within : IsFormat s F r → (n : ℕ) (bytes : List ℕ) (left : ℕ) → IsBytes bytes → list_at r n bytes ≡ Err left → left ≤ length bytes
  unfolding list_at
  list_within one zero bytes left fits e = absurd (let none : List A × List ℕ = ([], bytes) in not_err none left e)
  list_within one (suc n) bytes left fits e = elim (bind_err (r bytes) (λ first. list_at r n first.1 >>= λ others. Ok (first.0 ∷ others.0, others.1)) left e) [
    | inl first ↦ one.within bytes left fits first
    | inr a ↦ elim (bind_err (list_at r n a.0.1) (λ others. Ok (a.0.0 ∷ others.0, others.1)) left a.2) [
      | inl second ↦
          let t = one.takes bytes a.0 fits a.1 in
          let inner = list_within one n a.0.1 left t.0.rest_fits second in
          let shorter = rest_shorter bytes (s a.0.0) a.0.1 t.0 in
          omega arith
      | inr b ↦ absurd (let made : List A × List ℕ = (a.0.0 ∷ b.0.0, b.0.1) in not_err made left b.2)
    ]
  ]

  pub list_format : (n : ℕ) → IsFormat s F r → IsFormat (flat_map s) (λ xs. (length xs ≡ n) × AllByRecursion F xs) (list_at r n)
  list_format n one = record {
    takes = list_takes one n;
    again = λ xs rest h. ap (λ (m : ℕ). list_at r m (flat_map s xs ++ rest)) (sym h.0) ∙ list_again one xs rest h.1;
    within = list_within one n;
  }

-- ---- bytes of a table

-- each entry's byte is that of its value
abbrev pub IsTable : {A : Type 0} → (A → ℕ) → List (ℕ × A) → Type 0
IsTable byte_of table = AllByRecursion (λ entry. entry.0 ≡ byte_of entry.1) table

chosen : {A : Type 0} (b : Bool) (x : A) (o : Option A) (a : A) → cond b (Some x) o ≡ Some a → ((b ≡ true) × (x ≡ a)) ⊎ (o ≡ Some a)
chosen true x o a e = inl (refl, cc)
chosen false x o a e = inr e

named_is : {A : Type 0} (byte_of : A → ℕ) (table : List (ℕ × A)) (byte : ℕ) (a : A) → IsTable byte_of table → named table byte ≡ Some a → byte ≡ byte_of a
named_is byte_of [] byte a is e = absurd cc
named_is byte_of (entry ∷ entries) byte a is e = elim (chosen (eqb byte entry.0) entry.1 (named entries byte) a e) [
  | inl here ↦ eqb-true byte entry.0 here.0 ∙ is.0 ∙ ap byte_of here.1
  | inr later ↦ named_is byte_of entries byte a is.1 later
]

known_ok : {A : Type 0} (o : Option A) (bytes : List ℕ) (left : ℕ) (x : A × List ℕ) → known o bytes left ≡ Ok x → (o ≡ Some x.0) × (bytes ≡ x.1)
known_ok None bytes left x e = absurd cc
known_ok (Some a) bytes left x e = let is = ok_is (a, bytes) x e in (ap (λ y. Some y.0) is, ap (λ y. y.1) is)

known_err : {A : Type 0} (o : Option A) (bytes : List ℕ) (m left : ℕ) → known o bytes m ≡ Err left → m ≡ left
known_err {A} None bytes m left e = left_is {A = A} m left e
known_err (Some a) bytes m left e = absurd (not_err (a, bytes) left e)

named_takes : {A : Type 0} (byte_of : A → ℕ) (table : List (ℕ × A)) → IsTable byte_of table → (bytes : List ℕ) (x : A × List ℕ) → IsBytes bytes → named_at table bytes ≡ Ok x → Takes bytes (byte_of x.0 ∷ []) x.1 × Unit {0}
named_takes byte_of table is [] x fits e = absurd cc
named_takes byte_of table is (b ∷ bytes) x fits e =
    let k = known_ok (named table b) bytes (length (b ∷ bytes)) x e in
    let byte : b ≡ byte_of x.0 = named_is byte_of table b x.0 is k.0 in
    let rest_fits : IsBytes x.1 = subst IsBytes k.1 (IsBytes-rest b bytes fits) in
    (record { parts = ap (λ (c : ℕ). c ∷ bytes) byte ∙ ap (λ (xs : List ℕ). byte_of x.0 ∷ xs) k.1; rest_fits = rest_fits }, tt)

named_within : {A : Type 0} (table : List (ℕ × A)) (bytes : List ℕ) (left : ℕ) → named_at table bytes ≡ Err left → left ≤ length bytes
named_within {A} table [] left e = let none : 0 ≡ left = left_is {A = A} 0 left e in omega arith
named_within table (b ∷ bytes) left e = let all = known_err (named table b) bytes (length (b ∷ bytes)) left e in omega arith

pub named_format : {A : Type 0} (byte_of : A → ℕ) (table : List (ℕ × A)) → IsTable byte_of table → ((a : A) → named table (byte_of a) ≡ Some a) → IsFormat (λ a. byte_of a ∷ []) (λ a. Unit {0}) (named_at table)
named_format byte_of table is back = record {
  takes = named_takes byte_of table is;
  again = λ a rest h. ap (λ (o : Option _). known o rest (length (byte_of a ∷ rest))) (back a);
  within = λ bytes left fits e. named_within table bytes left e;
}

-- ---- one variant of several

module _ {A B : Type 0} {s : A → List ℕ} {F : A → Type 0} {r : List ℕ → Reading A} where
  pub variant_takes : (f : A → B) (t : B → List ℕ) (G : B → Type 0) → ((a : A) → s a ≡ t (f a)) → ((a : A) → F a → G (f a)) → IsFormat s F r
      → (bytes : List ℕ) (x : B × List ℕ) → IsBytes bytes → made_at f r bytes ≡ Ok x → Takes bytes (t x.0) x.1 × G x.0
  variant_takes f t G spelled to one bytes x fits e =
      let a = bind_ok (r bytes) (λ a. Ok (f a.0, a.1)) x e in
      let t1 = one.takes bytes a.0 fits a.1 in
      let made : B × List ℕ = (f a.0.0, a.0.1) in
      subst (λ (y : B × List ℕ). Takes bytes (t y.0) y.1 × G y.0) (ok_is made x a.2)
      (subst (λ (text : List ℕ). Takes bytes text a.0.1) (spelled a.0.0) t1.0, to a.0.0 t1.1)

  pub variant_again : (f : A → B) → IsFormat s F r → (a : A) (rest : List ℕ) → F a → made_at f r (s a ++ rest) ≡ Ok (f a, rest)
  variant_again f one a rest h = ap (λ (read : Reading A). read >>= λ x. Ok (f x.0, x.1)) (one.again a rest h)

  pub variant_within : (f : A → B) → IsFormat s F r → (bytes : List ℕ) (left : ℕ) → IsBytes bytes → made_at f r bytes ≡ Err left → left ≤ length bytes
  variant_within f one bytes left fits e = elim (bind_err (r bytes) (λ a. Ok (f a.0, a.1)) left e) [
    | inl first ↦ one.within bytes left fits first
    | inr a ↦ absurd (not_err (f a.0.0, a.0.1) left a.2)
  ]
