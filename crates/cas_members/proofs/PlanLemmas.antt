-- Every plan of the table is lawful, and how the steps that are left go on.
use Rattle.std.proofs.Common.{◌≡◌, ℕ, ◌+◌, suc, ◌<◌, ◌≤◌, List, [], ◌∷◌, length, refl, sym, ap, subst, ◌∙◌, arith}
use Rattle.std.specs.Prelude.{All, Option, Some, None, option_to_list, ◌==◌, ◌&&◌, Bool, true, false, nat_le}
use Rattle.std.proofs.lemmas.Bool.Decides.{eqb_tells, leb_tells}
use mathlib.Core.Logic.{inl, inr}
use Rattle.cas_base.proofs.Bools.{and_left, and_right, not_both}
use Rattle.std.proofs.lemmas.List.Elements.{All-cons, All-nil, All-tail}
use Rattle.cas_ballot.specs.Members.{has_member, with_member, without_member, union_of, IsMemberSet}
use Rattle.cas_ballot.proofs.CountLemmas.{IsWithin, IsWithin-same, length-within, union_within}
use Rattle.cas_ballot.proofs.MemberLemmas.{IsMemberSet-members_where}
use Rattle.cas_ballot.proofs.CountLemmas.{length-with_member-le, le-length-without_member, IsWithin-with_member, IsWithin-without_member}
use Rattle.cas_quorum.specs.declared.era.Era.{Era}
use Rattle.cas_quorum.specs.Quorum.{majority_of}
use Rattle.cas_quorum.specs.Era.{era_of_majorities, majority_era, sized_era, IsSized, Meet}
use Rattle.cas_quorum.proofs.Counting.{IsNear, grows, shrinks, IsNear-same, majorities_meet}
use Rattle.cas_members.specs.Plan.{HasOneSet, IsLawfulCourse, are_sizes, eras_of, greater_of, has_majorities, meets_sizes}

-- ---- the eras of the table
-- eras with majorities of near sets meet
eras_meet : (m n : ℕ) (p a q b : List ℕ) → IsNear p b → IsNear q a → Meet (era_of_majorities m p a) (era_of_majorities n q b)
eras_meet m n p a q b forth back = record { forth = majorities_meet p b forth; back = majorities_meet q a back }

-- a set, and the set with one more
pub record AreNeighbours (small large : List ℕ) : Type 0 where
  pub small_set : IsMemberSet small
  pub large_set : IsMemberSet large
  pub within : IsWithin small large
  pub one_more : length large ≤ suc (length small)
  pub some : 0 < length small

no_less : (s l : List ℕ) → AreNeighbours s l → length s ≤ length l
no_less s l two =
    omega (arith, length-within (has_member s) (has_member l) two.within.all, ap length two.small_set.lists, ap length two.large_set.lists)

large_some : (s l : List ℕ) → AreNeighbours s l → 0 < length l
large_some s l two = omega (arith, two.some, no_less s l two)

up : (s l : List ℕ) → AreNeighbours s l → IsNear s l
up s l two = grows two.large_set two.within two.one_more

down : (s l : List ℕ) → AreNeighbours s l → IsNear l s
down s l two = shrinks two.large_set two.within two.one_more

low : (s l : List ℕ) → AreNeighbours s l → IsNear s s
low s l two = IsNear-same s two.small_set

high : (s l : List ℕ) → AreNeighbours s l → IsNear l l
high s l two = IsNear-same l two.large_set

half_fits : (n : ℕ) → 0 < n → majority_of n ≤ n
half_fits n some = omega (arith, some)

pub by_majorities : (n : ℕ) (p a : List ℕ) → 0 < length p → 0 < length a → IsSized (era_of_majorities n p a)
by_majorities n p a some_prep some_acc = record {
  some_prep = omega arith;
  prep = half_fits (length p) some_prep;
  some_acc = omega arith;
  acc = half_fits (length a) some_acc;
}

one_era : (era : Era) → IsSized era → All IsSized (era ∷ [])
one_era era sized = All-cons IsSized era [] sized (All-nil IsSized)

two_eras : (half whole : Era) → IsSized half → IsSized whole → All IsSized (half ∷ whole ∷ [])
two_eras half whole first second = All-cons IsSized half (whole ∷ []) first (one_era whole second)

-- from all members to all members of a neighbour, with an era between or at once
pub halves_up : (n : ℕ) (s l : List ℕ) → AreNeighbours s l
    → IsLawfulCourse (majority_era n s) (era_of_majorities (n + 1) s l ∷ majority_era (n + 2) l ∷ [])
halves_up n s l two = record {
  chain = (
    eras_meet n n s s s s (low s l two) (low s l two),
    eras_meet n (n + 1) s s s l (up s l two) (low s l two),
    (eras_meet (n + 1) (n + 1) s l s l (up s l two) (up s l two), eras_meet (n + 1) (n + 2) s l l l (up s l two) (high s l two), eras_meet (n + 2) (n + 2) l l l l (high s l two) (high s l two)),
  );
  sized = two_eras _ _ (by_majorities (n + 1) s l two.some (large_some s l two)) (by_majorities (n + 2) l l (large_some s l two) (large_some s l two));
  whole = refl;
}

pub halves_down : (n : ℕ) (s l : List ℕ) → AreNeighbours s l
    → IsLawfulCourse (majority_era n l) (era_of_majorities (n + 1) s l ∷ majority_era (n + 2) s ∷ [])
halves_down n s l two = record {
  chain = (
    eras_meet n n l l l l (high s l two) (high s l two),
    eras_meet n (n + 1) l l s l (high s l two) (up s l two),
    (eras_meet (n + 1) (n + 1) s l s l (up s l two) (up s l two), eras_meet (n + 1) (n + 2) s l s s (low s l two) (up s l two), eras_meet (n + 2) (n + 2) s s s s (low s l two) (low s l two)),
  );
  sized = two_eras _ _ (by_majorities (n + 1) s l two.some (large_some s l two)) (by_majorities (n + 2) s s two.some two.some);
  whole = refl;
}

pub at_once_up : (n : ℕ) (s l : List ℕ) → AreNeighbours s l → IsLawfulCourse (majority_era n s) (majority_era (n + 1) l ∷ [])
at_once_up n s l two = record {
  chain = (
    eras_meet n n s s s s (low s l two) (low s l two),
    eras_meet n (n + 1) s s l l (up s l two) (down s l two),
    eras_meet (n + 1) (n + 1) l l l l (high s l two) (high s l two),
  );
  sized = one_era _ (by_majorities (n + 1) l l (large_some s l two) (large_some s l two));
  whole = refl;
}

pub at_once_down : (n : ℕ) (s l : List ℕ) → AreNeighbours s l → IsLawfulCourse (majority_era n l) (majority_era (n + 1) s ∷ [])
at_once_down n s l two = record {
  chain = (
    eras_meet n n l l l l (high s l two) (high s l two),
    eras_meet n (n + 1) l l s s (down s l two) (up s l two),
    eras_meet (n + 1) (n + 1) s s s s (low s l two) (low s l two),
  );
  sized = one_era _ (by_majorities (n + 1) s s two.some two.some);
  whole = refl;
}

pub joins : (ids : List ℕ) (id : ℕ) → IsMemberSet ids → 0 < length ids → AreNeighbours ids (with_member ids id)
joins ids id set some = record {
  small_set = set;
  large_set = IsMemberSet-members_where _;
  within = IsWithin-with_member ids id;
  one_more = length-with_member-le ids id set;
  some = some;
}

pub leaves : (ids : List ℕ) (id : ℕ) → IsMemberSet ids → 1 < length ids → AreNeighbours (without_member ids id) ids
leaves ids id set several = record {
  small_set = IsMemberSet-members_where _;
  large_set = set;
  within = IsWithin-without_member ids id;
  one_more = le-length-without_member ids id set;
  some = omega (arith, several, le-length-without_member ids id set);
}

-- an era of one set is that of its members and sizes; and with majorities it is that of the majorities of its members
of_one_set : (era : Era) → era.acc ≡ era.prep → era ≡ sized_era era.number era.prep era.need_prep era.need_acc
of_one_set era same = by_set era.acc same
  where
    by_set : (acc : List ℕ) → acc ≡ era.prep
        → record { number = era.number; prep = era.prep; need_prep = era.need_prep; acc = acc; need_acc = era.need_acc }
        ≡ sized_era era.number era.prep era.need_prep era.need_acc
    by_set acc is = rw is refl

equal : (a b : ℕ) → (a == b) ≡ true → a ≡ b
equal a b is = elim (eqb_tells a b) [ inl same ↦ same.1 | inr other ↦ absurd (not_both (a == b) is other.0) ]

pub majority_by : (era : Era) → era.acc ≡ era.prep → has_majorities era ≡ true → era ≡ majority_era era.number era.prep
majority_by era same majorities = of_one_set era same ∙ by_sizes era.need_prep era.need_acc (equal _ _ (and_left _ _ majorities)) (equal _ _ (and_right _ _ majorities))
  where
    by_sizes : (p a : ℕ) → p ≡ majority_of (length era.prep) → a ≡ majority_of (length era.prep)
        → sized_era era.number era.prep p a ≡ majority_era era.number era.prep
    by_sizes p a p_is a_is = rw (p_is, a_is) refl

pub one_set_some : (era : Era) → HasOneSet era → 0 < length era.prep
one_set_some era one_set = omega (arith, one_set.sized.some_prep, one_set.sized.prep)

-- a course from an era of all members is one from the era itself
pub from_era : (era : Era) (later : List Era) → HasOneSet era → has_majorities era ≡ true → IsLawfulCourse (majority_era era.number era.prep) later
    → IsLawfulCourse era later
from_era era later one_set majorities course = subst (λ (from : Era). IsLawfulCourse from later) (sym (majority_by era one_set.same majorities)) course

-- ---- new sizes
at_most : (a b : ℕ) → nat_le a b ≡ true → a ≤ b
at_most a b is = elim (leb_tells a b) [ inl low ↦ low.1 | inr high ↦ absurd (not_both (nat_le a b) is high.0) ]

pub record AreSizes (members need_prep need_acc : ℕ) : Type 0 where
  pub some_prep : 1 ≤ need_prep
  pub prep : need_prep ≤ members
  pub some_acc : 1 ≤ need_acc
  pub acc : need_acc ≤ members
  pub meet : members < need_prep + need_acc

pub sizes_tell : (members need_prep need_acc : ℕ) → are_sizes members need_prep need_acc ≡ true → AreSizes members need_prep need_acc
sizes_tell n p a are = by_tests (nat_le 1 p) (nat_le p n) (nat_le 1 a) (nat_le a n) (nat_le (suc n) (p + a)) refl refl refl refl refl are
  where
    by_tests : (some_p low_p some_a low_a over : Bool) → nat_le 1 p ≡ some_p → nat_le p n ≡ low_p → nat_le 1 a ≡ some_a → nat_le a n ≡ low_a
        → nat_le (suc n) (p + a) ≡ over → (some_p && low_p && some_a && low_a && over) ≡ true → AreSizes n p a
    by_tests true true true true true e f g h k are =
        record { some_prep = at_most 1 p e; prep = at_most p n f; some_acc = at_most 1 a g; acc = at_most a n h; meet = at_most (suc n) (p + a) k }
    by_tests true true true true false e f g h k are = absurd (cc are)
    by_tests true true true false over e f g h k are = absurd (cc are)
    by_tests true true false low_a over e f g h k are = absurd (cc are)
    by_tests true false some_a low_a over e f g h k are = absurd (cc are)
    by_tests false low_p some_a low_a over e f g h k are = absurd (cc are)

greater_left : (a b : ℕ) → a ≤ greater_of a b
greater_left a b = elim (leb_tells a b) [ inl low ↦ rw low.0 low.1 | inr high ↦ rw high.0 (omega arith) ]

greater_right : (a b : ℕ) → b ≤ greater_of a b
greater_right a b = elim (leb_tells a b) [ inl low ↦ rw low.0 (omega arith) | inr high ↦ rw high.0 (omega (arith, high.1)) ]

greater_within : (a b n : ℕ) → a ≤ n → b ≤ n → greater_of a b ≤ n
greater_within a b n below also = elim (leb_tells a b) [ inl low ↦ rw low.0 also | inr high ↦ rw high.0 below ]

-- quorums of one set meet if their sizes are together above its number of members
meets_by : (m n : ℕ) (ids : List ℕ) (p a q b : ℕ) → IsMemberSet ids → length ids < p + b → length ids < q + a → Meet (sized_era m ids p a) (sized_era n ids q b)
meets_by m n ids p a q b set forth back =
    let once : length (union_of ids ids) ≡ length ids = ap length (union_within ids ids set (IsWithin-same ids)) in
    record { forth = omega (arith, once, forth); back = omega (arith, once, back) }

pub sized_by : (m : ℕ) (ids : List ℕ) (p a : ℕ) → AreSizes (length ids) p a → IsSized (sized_era m ids p a)
sized_by m ids p a are = record { some_prep = are.some_prep; prep = are.prep; some_acc = are.some_acc; acc = are.acc }

sizes_of : (era : Era) → IsMemberSet era.prep → HasOneSet era → AreSizes (length era.prep) era.need_prep era.need_acc
sizes_of era set one_set =
    let once : length (union_of era.prep era.prep) ≡ length era.prep = ap length (union_within era.prep era.prep set (IsWithin-same era.prep)) in
    let meets : length (union_of era.prep era.prep) < era.need_prep + era.need_acc =
    subst (λ (acc : List ℕ). length (union_of era.prep acc) < era.need_prep + era.need_acc) one_set.same one_set.meets.forth in
    record {
      some_prep = one_set.sized.some_prep;
      prep = one_set.sized.prep;
      some_acc = one_set.sized.some_acc;
      acc = subst (λ (acc : List ℕ). era.need_acc ≤ length acc) one_set.same one_set.sized.acc;
      meet = omega (arith, once, meets);
    }

meets_tell : (era : Era) (p a : ℕ) → meets_sizes era p a ≡ true → (length era.prep < p + era.need_acc) × (length era.prep < era.need_prep + a)
meets_tell era p a meet = (at_most _ _ (and_left _ _ meet), at_most _ _ (and_right _ _ meet))

pub sized_one_set : (m : ℕ) (ids : List ℕ) (p a : ℕ) → IsMemberSet ids → AreSizes (length ids) p a → HasOneSet (sized_era m ids p a)
sized_one_set m ids p a set are = record { same = refl; sized = sized_by m ids p a are; meets = meets_by m m ids p a p a set are.meet are.meet }

pub majority_one_set : (m : ℕ) (ids : List ℕ) → IsMemberSet ids → 0 < length ids → HasOneSet (majority_era m ids)
majority_one_set m ids set some = record {
  same = refl;
  sized = by_majorities m ids ids some some;
  meets = eras_meet m m ids ids ids ids (IsNear-same ids set) (IsNear-same ids set);
}

-- sizes that meet those of the era come at once
pub at_once : (era : Era) (p a : ℕ) → IsMemberSet era.prep → HasOneSet era → are_sizes (length era.prep) p a ≡ true → meets_sizes era p a ≡ true
    → IsLawfulCourse era (sized_era (era.number + 1) era.prep p a ∷ [])
at_once era p a set one_set are meet =
    let was = sizes_of era set one_set in
    let now = sizes_tell (length era.prep) p a are in
    let both = meets_tell era p a meet in
    let from : Era = sized_era era.number era.prep era.need_prep era.need_acc in
    let course : IsLawfulCourse from (sized_era (era.number + 1) era.prep p a ∷ []) = record {
      chain = (
        one_set_meets era.number era.number era.need_prep era.need_acc era.need_prep era.need_acc was.meet was.meet,
        one_set_meets era.number (era.number + 1) era.need_prep era.need_acc p a both.1 both.0,
        one_set_meets (era.number + 1) (era.number + 1) p a p a now.meet now.meet,
      );
      sized = one_era _ (sized_by (era.number + 1) era.prep p a now);
      whole = refl;
    } in
    subst (λ (e : Era). IsLawfulCourse e (sized_era (era.number + 1) era.prep p a ∷ [])) (sym (of_one_set era one_set.same)) course
  where
    one_set_meets : (m n p a q b : ℕ) → length era.prep < p + b → length era.prep < q + a → Meet (sized_era m era.prep p a) (sized_era n era.prep q b)
    one_set_meets m n p a q b forth back = meets_by m n era.prep p a q b set forth back

-- and others behind an era of the greater sizes
pub half_sizes : (era : Era) (p a : ℕ) → IsMemberSet era.prep → HasOneSet era → are_sizes (length era.prep) p a ≡ true
    → AreSizes (length era.prep) (greater_of era.need_prep p) (greater_of era.need_acc a)
half_sizes era p a set one_set are =
    let was = sizes_of era set one_set in
    let now = sizes_tell (length era.prep) p a are in
    record {
      some_prep = omega (arith, greater_right era.need_prep p, now.some_prep);
      prep = greater_within era.need_prep p (length era.prep) was.prep now.prep;
      some_acc = omega (arith, greater_right era.need_acc a, now.some_acc);
      acc = greater_within era.need_acc a (length era.prep) was.acc now.acc;
      meet = omega (arith, greater_right era.need_prep p, greater_right era.need_acc a, now.meet);
    }

pub by_half : (era : Era) (p a : ℕ) → IsMemberSet era.prep → HasOneSet era → are_sizes (length era.prep) p a ≡ true
    → IsLawfulCourse era (sized_era (era.number + 1) era.prep (greater_of era.need_prep p) (greater_of era.need_acc a) ∷ sized_era (era.number + 2) era.prep p a ∷ [])
by_half era p a set one_set are =
    let was = sizes_of era set one_set in
    let now = sizes_tell (length era.prep) p a are in
    let hp : ℕ = greater_of era.need_prep p in
    let ha : ℕ = greater_of era.need_acc a in
    let p1 : era.need_prep ≤ hp = greater_left era.need_prep p in
    let p2 : p ≤ hp = greater_right era.need_prep p in
    let a1 : era.need_acc ≤ ha = greater_left era.need_acc a in
    let a2 : a ≤ ha = greater_right era.need_acc a in
    let half = half_sizes era p a set one_set are in
    let from : Era = sized_era era.number era.prep era.need_prep era.need_acc in
    let course : IsLawfulCourse from (sized_era (era.number + 1) era.prep hp ha ∷ sized_era (era.number + 2) era.prep p a ∷ []) = record {
      chain = (
        one_set_meets era.number era.number era.need_prep era.need_acc era.need_prep era.need_acc was.meet was.meet,
        one_set_meets era.number (era.number + 1) era.need_prep era.need_acc hp ha (omega (arith, a1, was.meet)) (omega (arith, p1, was.meet)),
        (
          one_set_meets (era.number + 1) (era.number + 1) hp ha hp ha half.meet half.meet,
          one_set_meets (era.number + 1) (era.number + 2) hp ha p a (omega (arith, p2, now.meet)) (omega (arith, a2, now.meet)),
          one_set_meets (era.number + 2) (era.number + 2) p a p a now.meet now.meet,
        ),
      );
      sized = two_eras _ _ (sized_by (era.number + 1) era.prep hp ha half) (sized_by (era.number + 2) era.prep p a now);
      whole = refl;
    } in
    subst (λ (e : Era). IsLawfulCourse e (sized_era (era.number + 1) era.prep hp ha ∷ sized_era (era.number + 2) era.prep p a ∷ [])) (sym (of_one_set era one_set.same)) course
  where
    one_set_meets : (m n p a q b : ℕ) → length era.prep < p + b → length era.prep < q + a → Meet (sized_era m era.prep p a) (sized_era n era.prep q b)
    one_set_meets m n p a q b forth back = meets_by m n era.prep p a q b set forth back

-- once an era is entered, the rest of the course goes on from it
pub course_from : (era next : Era) (later : List Era) → IsLawfulCourse era (next ∷ later) → IsLawfulCourse next later
course_from era next [] course = record {
  chain = course.chain.2;
  sized = All-tail IsSized next [] course.sized;
  whole = course.whole;
}
course_from era next (last ∷ later) course = record {
  chain = course.chain.2;
  sized = All-tail IsSized next (last ∷ later) course.sized;
  whole = course.whole;
}

-- the half step's era is entered first, and the last one where there is none
pub enters_half : (from next half : Era) (h w a b : Option Era) → h ≡ Some half → Some next ≡ Some half → a ≡ None → b ≡ w
    → IsLawfulCourse from (eras_of h w) → IsLawfulCourse next (eras_of a b)
enters_half from next half h w a b eh en ea eb course =
    let e : next ≡ half = cc in
    rw (e, ea, eb) (course_from from half (option_to_list w) (rw eh at course))

pub enters_whole : (from next : Era) (h w a b : Option Era) → h ≡ None → w ≡ Some next → a ≡ None → b ≡ None
    → IsLawfulCourse from (eras_of h w) → IsLawfulCourse next (eras_of a b)
enters_whole from next h w a b eh ew ea eb course =
    rw (ea, eb) (course_from from next [] (rw (eh, ew) at course))
