-- The places at which keys are named first.
use Rattle.std.proofs.Common.{◌≡◌, ℕ, ◌<◌, Bool, true, false, List, [], ◌∷◌, length, Some, None, refl, sym, ap, arith, ◌∙◌}
use Rattle.std.specs.Prelude.{◌⊎◌, Option, if◌then◌else◌}
use Rattle.std.specs.Option.{option_or}
use mathlib.Core.Logic.{inl, inr}
use Rattle.cas_base.proofs.Bools.{true_or_false, some_is}
use Rattle.cas_record.specs.declared.mark.Mark.{Mark}
use Rattle.cas_record.specs.declared.mark.Mark.TheVariants.{Begun, Proposed, Acked, Floor, Voted, EraEntered, Ended, Harmed, Told}
use Rattle.cas_record.specs.Kept.Index.{named_by, names, home_of}
use Rattle.cas_record.proofs.Tests.{key_same, key_is}

-- ---- choices of what may be there
pub or_some : {A : Type 0} (a b : Option A) (x : A) → a ≡ Some x → option_or a b ≡ Some x
or_some a b x is = ap (λ o. option_or o b) is

pub or_none : {A : Type 0} (a b : Option A) → a ≡ None → option_or a b ≡ b
or_none a b is = ap (λ o. option_or o b) is

-- what may be there is there, or not
pub there_or_not : {A : Type 0} (a : Option A) → ((x : A) × (a ≡ Some x)) ⊎ (a ≡ None)
there_or_not None = inr refl
there_or_not (Some x) = inl (x, refl)

pub if_there : {A : Type 0} (test : Bool) (x y : A) → (if test then Some x else None) ≡ Some y → (test ≡ true) × (x ≡ y)
if_there true x y is = (refl, some_is x y is)
if_there false x y is = absurd cc

-- ---- names
-- a mark that names a key is not silent, and names no other
pub names_one : (key : List ℕ) (mark : Mark) → names key mark ≡ true → named_by mark ≡ Some key
names_one key (Proposed p) is = ap Some (key_same is)
names_one key (Acked a) is = ap Some (key_same is)
names_one key (Floor k floor state) is = ap Some (key_same is)
names_one key (Begun c n k p) is = absurd cc
names_one key (Voted a k b) is = absurd cc
names_one key (EraEntered p n) is = absurd cc
names_one key (Ended c n r a) is = absurd cc
names_one key (Harmed c n d) is = absurd cc
names_one key (Told a b) is = absurd cc

pub names_it : (key : List ℕ) (mark : Mark) → named_by mark ≡ Some key → names key mark ≡ true
names_it key (Proposed p) is = key_is (some_is p.key key is)
names_it key (Acked a) is = key_is (some_is a.key key is)
names_it key (Floor k floor state) is = key_is (some_is k key is)
names_it key (Begun c n k p) is = absurd cc
names_it key (Voted a k b) is = absurd cc
names_it key (EraEntered p n) is = absurd cc
names_it key (Ended c n r a) is = absurd cc
names_it key (Harmed c n d) is = absurd cc
names_it key (Told a b) is = absurd cc

pub one_name : (a b : List ℕ) (mark : Mark) → names a mark ≡ true → names b mark ≡ true → a ≡ b
one_name a b mark is other = some_is a b (sym (names_one a mark is) ∙ names_one b mark other)

-- ---- homes
-- where a key's home is after one mark more: where it was, or at that mark
pub home_cases : (key : List ℕ) (mark : Mark) (older : List Mark) (home : ℕ) → home_of key (mark ∷ older) ≡ Some home
    → (home_of key older ≡ Some home) ⊎ ((home_of key older ≡ None) × ((names key mark ≡ true) × (home ≡ length older)))
home_cases key mark older home is = elim (there_or_not (home_of key older)) [
  | inl there ↦ inl (there.1 ∙ sym (or_some (home_of key older) _ there.0 there.1) ∙ is)
  | inr gone ↦ let here = if_there (names key mark) (length older) home (sym (or_none (home_of key older) _ gone) ∙ is) in inr (gone, (here.0, sym here.1))
]

-- a home is a place among the marks
pub home_within : (key : List ℕ) (marks : List Mark) (home : ℕ) → home_of key marks ≡ Some home → home < length marks
home_within key [] home is = absurd cc
home_within key (mark ∷ older) home is = elim (home_cases key mark older home is) [
  | inl before ↦ let low = home_within key older home before in omega (arith, low)
  | inr now ↦ omega (arith, now.1.1)
]

-- two keys of one home are one
pub one_home : (a b : List ℕ) (marks : List Mark) (home : ℕ) → home_of a marks ≡ Some home → home_of b marks ≡ Some home → a ≡ b
one_home a b [] home is other = absurd cc
one_home a b (mark ∷ older) home is other = elim (home_cases a mark older home is) [
  | inl first_ ↦ let low = home_within a older home first_ in elim (home_cases b mark older home other) [
    | inl second ↦ one_home a b older home first_ second
    | inr second ↦ absurd (omega (arith, low, second.1.1))
  ]
  | inr first_ ↦ elim (home_cases b mark older home other) [
    | inl second ↦ let low = home_within b older home second in absurd (omega (arith, low, first_.1.1))
    | inr second ↦ one_name a b mark first_.1.0 second.1.0
  ]
]

-- a home stays
pub home_stays : (key : List ℕ) (mark : Mark) (older : List Mark) (home : ℕ) → home_of key older ≡ Some home → home_of key (mark ∷ older) ≡ Some home
home_stays key mark older home is = or_some (home_of key older) _ home is

-- a key that was not named has its home at the mark that names it
pub home_here : (key : List ℕ) (mark : Mark) (older : List Mark) → home_of key older ≡ None → names key mark ≡ true → home_of key (mark ∷ older) ≡ Some (length older)
home_here key mark older gone is = or_none (home_of key older) _ gone ∙ ap (λ (t : Bool). if t then Some (length older) else None) is

-- a mark that does not name the key leaves it where it was
pub home_same : (key : List ℕ) (mark : Mark) (older : List Mark) → names key mark ≡ false → home_of key (mark ∷ older) ≡ home_of key older
home_same key mark older is = ap (λ (t : Bool). option_or (home_of key older) (if t then Some (length older) else None)) is ∙ or_nothing (home_of key older)
  where
    or_nothing : (o : Option ℕ) → option_or o None ≡ o
    or_nothing None = refl
    or_nothing (Some x) = refl

-- a key without a home was named by no mark
pub homeless : (key : List ℕ) (mark : Mark) (older : List Mark) → home_of key (mark ∷ older) ≡ None → (home_of key older ≡ None) × (names key mark ≡ false)
homeless key mark older is = elim (there_or_not (home_of key older)) [
  | inl there ↦ absurd (cc (or_some (home_of key older) (if names key mark then Some (length older) else None) there.0 there.1, is))
  | inr gone ↦ (
    gone,
    elim (true_or_false (names key mark)) [
      | inl named ↦ absurd (cc (home_here key mark older gone named, is))
      | inr silent ↦ silent
    ],
  )
]
