-- Rules, and the table that agrees with them.
use Rattle.std.proofs.Common.{◌≡◌, ◌≢◌, ◌<◌, ◌≤◌, ◌+◌, ℕ, zero, suc, Bool, true, false, nat_eq, nat_lt, inl, inr, refl, sym, ap, ap₂, ◌∙◌, arith, eqb-true, eq-eqb, ne_eqb, lt-ltb, ltb-true, ltb-false}
use Rattle.std.proofs.lemmas.Bool.{eqb-false, le-ltb}
use Rattle.std.specs.Prelude.{◌&&◌, ◌⊎◌, slice_index_or}
use Rattle.cas_base.proofs.Bools.{true_or_false}
use Rattle.cas_fate.specs.Legs.{row_of}
use Rattle.cas_fate.specs.declared.fate.Leg.{Leg}
use Rattle.cas_fate.specs.declared.fate.Leg.TheVariants as leg
use Rattle.cas_fate.specs.declared.fate.Verdict.{Verdict}
use Rattle.casreg_script.specs.Frames.Network.{ruled}
use Rattle.casreg_script.specs.declared.network.TheConstants.{LEGS}

-- ---- rows
abbrev leg_at : ℕ → Leg
leg_at row = slice_index_or LEGS row leg.Prepare

leg_at_row : (one : Leg) → leg_at (row_of one) ≡ one
leg_at_row leg.Prepare = refl
leg_at_row leg.Accept = refl
leg_at_row leg.Ages = refl
leg_at_row leg.Remove = refl
leg_at_row leg.List = refl
leg_at_row leg.Probe = refl
leg_at_row leg.Reply = refl

-- the legs stand in the order of their rows
pub row_at : (row : ℕ) → row < 7 → row_of (slice_index_or LEGS row leg.Prepare) ≡ row
row_at zero low = refl
row_at (suc zero) low = refl
row_at (suc (suc zero)) low = refl
row_at (suc (suc (suc zero))) low = refl
row_at (suc (suc (suc (suc zero)))) low = refl
row_at (suc (suc (suc (suc (suc zero))))) low = refl
row_at (suc (suc (suc (suc (suc (suc zero)))))) low = refl
row_at (suc (suc (suc (suc (suc (suc (suc row))))))) low = absurd (omega (arith, low))

-- legs of one row are one
same_leg : (a b : Leg) → row_of a ≡ row_of b → a ≡ b
same_leg a b is = sym (leg_at_row a) ∙ ap leg_at is ∙ leg_at_row b

-- ---- what is set
set_here : (a b : Bool) (v w : Verdict) → a ≡ true → b ≡ true → v ≡ ruled (a && b) v w
set_here a b v w is at = sym (ap₂ (λ (x y : Bool). ruled (x && y) v w) is at)

not_right : (a b : Bool) (v w : Verdict) → b ≡ false → ruled (a && b) v w ≡ w
not_right true b v w is = ap (λ (x : Bool). ruled x v w) is
not_right false b v w is = refl

-- what is below a number is below the next one
now_below : (a b : ℕ) → nat_eq a b ≡ true → nat_lt a (b + 1) ≡ true
now_below a b is = lt-ltb a (b + 1) (omega (arith, eqb-true a b is))

same_below : (a b : ℕ) → nat_eq a b ≡ false → nat_lt a b ≡ nat_lt a (b + 1)
same_below a b is = elim (true_or_false (nat_lt a b)) [
  | inl less ↦ less ∙ sym (lt-ltb a (b + 1) (let under : a < b = ltb-true a b less in omega (arith, under)))
  | inr more ↦ more ∙ sym (le-ltb a (b + 1) (let over : b ≤ a = ltb-false a b more in let other : a ≢ b = eqb-false a b is in omega (arith, over, other)))
]

still_below : (a b : ℕ) (c : Bool) (v w : Verdict) → nat_eq a b ≡ false → ruled (nat_lt a b && c) v w ≡ ruled (nat_lt a (b + 1) && c) v w
still_below a b c v w is = ap (λ (x : Bool). ruled (x && c) v w) (same_below a b is)

-- ---- one more entry of a table
-- one more acceptor of a leg
pub peers_more : (one : Leg) (number peer : ℕ) (verdict : Verdict) (before old new : Leg → ℕ → Verdict) → peer ≡ number → new one peer ≡ verdict → ((l : Leg) (p : ℕ) → (l ≢ one) ⊎ (p ≢ peer) → new l p ≡ old l p)
    → ((l : Leg) (p : ℕ) → old l p ≡ ruled (nat_lt p number && nat_eq (row_of one) (row_of l)) verdict (before l p)) → (l : Leg) (p : ℕ) → new l p ≡ ruled (nat_lt p (number + 1) && nat_eq (row_of one) (row_of l)) verdict (before l p)
peers_more one number peer verdict before old new same here others was l p = elim (true_or_false (nat_eq (row_of one) (row_of l))) [
  | inl is ↦ elim (true_or_false (nat_eq p number)) [
    | inl at ↦ ap (λ (k : Leg). new k p) (sym (same_leg one l (eqb-true (row_of one) (row_of l) is))) ∙ ap (new one) (eqb-true p number at ∙ sym same) ∙ here ∙ set_here (nat_lt p (number + 1)) (nat_eq (row_of one) (row_of l)) verdict (before l p) (now_below p number at) is
    | inr not_at ↦ others l p (inr (λ is. eqb-false p number not_at (is ∙ same))) ∙ was l p ∙ still_below p number (nat_eq (row_of one) (row_of l)) verdict (before l p) not_at
  ]
  | inr not_is ↦ others l p (inl (λ is. eqb-false (row_of one) (row_of l) not_is (ap row_of (sym is)))) ∙ was l p ∙ not_right (nat_lt p number) (nat_eq (row_of one) (row_of l)) verdict (before l p) not_is ∙ sym (not_right (nat_lt p (number + 1)) (nat_eq (row_of one) (row_of l)) verdict (before l p) not_is)
]

-- one acceptor of one more leg
pub legs_more : (one : Leg) (row : ℕ) (peer : ℕ) (verdict : Verdict) (before old new : Leg → ℕ → Verdict) → row_of one ≡ row → new one peer ≡ verdict → ((l : Leg) (p : ℕ) → (l ≢ one) ⊎ (p ≢ peer) → new l p ≡ old l p)
    → ((l : Leg) (p : ℕ) → old l p ≡ ruled (nat_lt (row_of l) row && nat_eq peer p) verdict (before l p)) → (l : Leg) (p : ℕ) → new l p ≡ ruled (nat_lt (row_of l) (row + 1) && nat_eq peer p) verdict (before l p)
legs_more one row peer verdict before old new at here others was l p = elim (true_or_false (nat_eq peer p)) [
  | inl same ↦ elim (true_or_false (nat_eq (row_of l) row)) [
    | inl is ↦ ap (λ (k : Leg). new k p) (same_leg l one (eqb-true (row_of l) row is ∙ sym at)) ∙ ap (new one) (sym (eqb-true peer p same)) ∙ here ∙ set_here (nat_lt (row_of l) (row + 1)) (nat_eq peer p) verdict (before l p) (now_below (row_of l) row is) same
    | inr not_is ↦ others l p (inl (λ is. eqb-false (row_of l) row not_is (ap row_of is ∙ at))) ∙ was l p ∙ still_below (row_of l) row (nat_eq peer p) verdict (before l p) not_is
  ]
  | inr other ↦ others l p (inr (λ is. eqb-false peer p other (sym is))) ∙ was l p ∙ not_right (nat_lt (row_of l) row) (nat_eq peer p) verdict (before l p) other ∙ sym (not_right (nat_lt (row_of l) (row + 1)) (nat_eq peer p) verdict (before l p) other)
]

-- all acceptors of one more leg
pub all_more : (one : Leg) (row : ℕ) (verdict : Verdict) (before old new : Leg → ℕ → Verdict) → row_of one ≡ row → ((l : Leg) (p : ℕ) → p < 64 → new l p ≡ ruled (nat_eq (row_of one) (row_of l)) verdict (old l p))
    → ((l : Leg) (p : ℕ) → p < 64 → old l p ≡ ruled (nat_lt (row_of l) row) verdict (before l p)) → (l : Leg) (p : ℕ) → p < 64 → new l p ≡ ruled (nat_lt (row_of l) (row + 1)) verdict (before l p)
all_more one row verdict before old new at set was l p low = elim (true_or_false (nat_eq (row_of l) row)) [
  | inl is ↦ set l p low ∙ ap (λ (b : Bool). ruled b verdict (old l p)) (eq-eqb (row_of one) (row_of l) (at ∙ sym (eqb-true (row_of l) row is))) ∙ sym (ap (λ (b : Bool). ruled b verdict (before l p)) (now_below (row_of l) row is))
  | inr not_is ↦ set l p low ∙ ap (λ (b : Bool). ruled b verdict (old l p)) (ne_eqb (row_of one) (row_of l) (λ same. eqb-false (row_of l) row not_is (sym same ∙ at))) ∙ was l p low ∙ ap (λ (b : Bool). ruled b verdict (before l p)) (same_below (row_of l) row not_is)
]

-- ---- one more rule
