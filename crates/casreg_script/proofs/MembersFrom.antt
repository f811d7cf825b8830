-- The member at a place, found number by number.
use Rattle.std.proofs.Common.{◌≡◌, ◌<◌, ◌≤◌, ◌+◌, ℕ, zero, suc, true, false, List, ◌∷◌, length, slice_get, Some, refl, sym, ap, ◌∙◌, subst, arith}
use Rattle.std.specs.List.{range_with_len, filter}
use Rattle.cas_ballot.specs.Members.{has_member, members_where, IsMemberSet}

-- those of the members that are among so many numbers from one on
abbrev pub members_from : List ℕ → ℕ → ℕ → List ℕ
members_from members number rest = filter (has_member members) (range_with_len number rest)

pub starts_with : (members : List ℕ) (number rest : ℕ) → has_member members number ≡ true → members_from members number (suc rest) ≡ number ∷ members_from members (number + 1) rest
starts_with members number rest is = rw is refl

pub starts_behind : (members : List ℕ) (number rest : ℕ) → has_member members number ≡ false → members_from members number (suc rest) ≡ members_from members (number + 1) rest
starts_behind members number rest is = rw is refl

all_from : (members : List ℕ) → IsMemberSet members → members ≡ members_from members 0 64
unfolding members_where
all_from members set = set.lists

-- what stands at a place among all of them stands at this one among those that are left
pub record IsPlacedFrom (members : List ℕ) (place number left : ℕ) : Type 0 where
  pub rest : ℕ
  pub ends : number + rest ≡ 64
  pub tail : slice_get (members_from members number rest) left ≡ slice_get members place
  pub within : left < length (members_from members number rest)

pub placed_at_first : (members : List ℕ) (place : ℕ) → IsMemberSet members → place < length members → IsPlacedFrom members place 0 place
placed_at_first members place set low = record {
  rest = 64;
  ends = refl;
  tail = ap (λ (l : List ℕ). slice_get l place) (sym (all_from members set));
  within = subst (λ (l : List ℕ). place < length l) (all_from members set) low;
}

by_rest : (members : List ℕ) (place number left : ℕ) (p : IsPlacedFrom members place number left) → number < 64 → (rest : ℕ) × (number + suc rest ≡ 64) × (slice_get (members_from members number (suc rest)) left ≡ slice_get members place) × (left < length (members_from members number (suc rest)))
by_rest members place number left p low = by p.rest p.ends p.tail p.within
  where
    by : (r : ℕ) → number + r ≡ 64 → slice_get (members_from members number r) left ≡ slice_get members place → left < length (members_from members number r) → (rest : ℕ) × (number + suc rest ≡ 64) × (slice_get (members_from members number (suc rest)) left ≡ slice_get members place) × (left < length (members_from members number (suc rest)))
    by zero ends tail within = absurd (omega arith)
    by (suc r) ends tail within = (r, ends, tail, within)

pub found_here : (members : List ℕ) (place number left : ℕ) → IsPlacedFrom members place number left → number < 64 → has_member members number ≡ true → left ≡ 0 → slice_get members place ≡ Some number
found_here members place number left p low has none =
    let r = by_rest members place number left p low in
    sym (r.2) ∙ (ap (λ (n : ℕ). slice_get (members_from members number (suc r.0)) n) none ∙ ap (λ (l : List ℕ). slice_get l 0) (starts_with members number r.0 has))

pub passes_one : (members : List ℕ) (place number left next : ℕ) → IsPlacedFrom members place number left → number < 64 → has_member members number ≡ true → next + 1 ≡ left → IsPlacedFrom members place (number + 1) next
passes_one members place number left next p low has less =
    let r = by_rest members place number left p low in
    let is : left ≡ suc next = omega (arith, less) in
    record {
      rest = r.0;
      ends = (let e = r.1 in omega (arith, e));
      tail = sym (ap (λ (n : ℕ). slice_get (members_from members number (suc r.0)) n) is ∙ ap (λ (l : List ℕ). slice_get l (suc next)) (starts_with members number r.0 has)) ∙ r.2;
      within = (let w = subst (λ (l : List ℕ). left < length l) (starts_with members number r.0 has) r.3 in omega (arith, w, less));
    }

pub passes_none : (members : List ℕ) (place number left : ℕ) → IsPlacedFrom members place number left → number < 64 → has_member members number ≡ false → IsPlacedFrom members place (number + 1) left
passes_none members place number left p low lacks =
    let r = by_rest members place number left p low in
    record {
      rest = r.0;
      ends = (let e = r.1 in omega (arith, e));
      tail = sym (ap (λ (l : List ℕ). slice_get l left) (starts_behind members number r.0 lacks)) ∙ r.2;
      within = subst (λ (l : List ℕ). left < length l) (starts_behind members number r.0 lacks) r.3;
    }

pub not_past : (members : List ℕ) (place number left : ℕ) → IsPlacedFrom members place number left → 64 ≤ number → ⊥
not_past members place number left p past = by p.rest p.ends p.within
  where
    by : (r : ℕ) → number + r ≡ 64 → left < length (members_from members number r) → ⊥
    by zero ends within = omega (arith, within)
    by (suc r) ends within = omega (arith, ends, past)
