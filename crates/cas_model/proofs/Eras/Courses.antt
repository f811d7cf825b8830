-- The course of a cluster stays a course: at its opening, where a proposer is up again, where a change of membership begins and ends, and
-- where a proposer enters the next era.
use Rattle.std.proofs.Common.{◌≡◌, ◌≤◌, ◌<◌, ℕ, suc, List, [], ◌∷◌, ◌++◌, length, Option, None, Some, refl, sym, ap, subst, ◌∙◌, inl, inr, arith, get_or-set_same, get_or-set_other}
use Rattle.std.specs.Prelude.{◌⊎◌, ◌==◌, ◌&&◌, drop, Bool, true, false, if◌then◌else◌, slice_set, replicate, Contains}
use Rattle.std.proofs.lemmas.List.{get_or-replicate, set-get_or, length-set, length_push}
use Rattle.cas_base.proofs.Bools.{not_both}
use Rattle.cas_members.specs.declared.plan.PlanStep.{PlanStep}
use Rattle.cas_members.specs.declared.plan.PlanStep.TheVariants.{Settle, Enter, Finished}
use Rattle.cas_members.specs.Steps.{Progress}
use Rattle.cas_quorum.specs.declared.era.Era.{Era}
use Rattle.cas_members.specs.Plan.{eras_in, next_of}
use Rattle.cas_quorum.specs.Era.{IsSized, Meet, NeighboursMeet, majority_era}
use Rattle.cas_record.specs.declared.operator.Asked.{Asked}
use Rattle.cas_round.proofs.Lists.{has, contains}
use Rattle.cas_record.proofs.Tests.{nat_same, nat_is}
use Rattle.cas_model.specs.Council.{ListingView, PlanView, stepped, with_listing}
use Rattle.cas_model.specs.Eras.Course.{EraEntry, Course, IsAskedEra, last_era, entering, shown_era, era_shown, IsWhole, Follows, IsPath, IsStart, WorksIn, not_yet, entered, CourseIsUnderWay, IsCourse}
use Rattle.cas_model.specs.Eras.Step.{new_plan, rest_of, plan_after}
use Rattle.cas_model.specs.View.{era_in}
use Rattle.cas_model.proofs.Places.{same_or_not, some_is, contains_none, contains_append, contains_front, contains_back}

abbrev pub course : ℕ → List Era → Option PlanView → List EraEntry → Course
course last_proposer eras plan entries = record { last_proposer = last_proposer; eras = eras; plan = plan; entries = entries }

-- ---- eras by their places
pub era_set : (eras : List Era) (id : ℕ) (era : Era) → id < length eras → era_in (slice_set eras id era) id ≡ era
era_set eras id era low = get_or-set_same eras id era (majority_era 0 []) low

pub era_kept : (eras : List Era) (id p : ℕ) (era : Era) → (p ≡ id → ⊥) → era_in (slice_set eras id era) p ≡ era_in eras p
era_kept eras id p era other = get_or-set_other eras id p era (majority_era 0 []) other

-- ---- steps that are left
-- a path is a start, where it is not from the first era
path_starts : (era : Era) (left : List PlanStep) → 0 < era.number → IsPath era left → IsStart era left
path_starts era [] positive is = (positive, is)
path_starts era (Settle ∷ left) positive is = is
path_starts era (Enter next ∷ left) positive is = absurd is
path_starts era (Finished ∷ left) positive is = is

-- and it enters no era at once
pub path_settles : (era : Era) (left : List PlanStep) → IsPath era left → entering left ≡ None
path_settles era [] is = refl
path_settles era (Settle ∷ left) is = refl
path_settles era (Enter next ∷ left) is = absurd is
path_settles era (Finished ∷ left) is = refl

-- where an era is entered, it follows, and the steps after it are a path from it
pub record LeadsToEra (era next : Era) (left : List PlanStep) : Type 0 where
  pub follows : Follows era next
  pub path : IsPath next (rest_of left)

pub leads : (era next : Era) (left : List PlanStep) → entering left ≡ Some next → IsStart era left → LeadsToEra era next left
leads era next [] is start = absurd (cc is)
leads era next (Enter other ∷ left) is start = subst (λ (e : Era). LeadsToEra era e (Enter other ∷ left)) (some_is is) (record { follows = start.0; path = start.1 })
leads era next (Settle ∷ left) is start = absurd (cc is)
leads era next (Finished ∷ left) is start = absurd (cc is)

-- ---- sizes
-- all eras are sized, also where one is put in a place
sized_with : (last_proposer : ℕ) (eras : List Era) (id : ℕ) (era : Era) → length eras ≡ 17 → last_proposer ≤ 16 → (id ≤ last_proposer → IsSized era)
    → ((p : ℕ) → p ≤ last_proposer → IsSized (era_in eras p)) → (p : ℕ) → p ≤ last_proposer → IsSized (era_in (slice_set eras id era) p)
sized_with last_proposer eras id era places few is were p low = by_place (same_or_not p id)
  where
    by_place : (p ≡ id) ⊎ (p ≡ id → ⊥) → IsSized (era_in (slice_set eras id era) p)
    by_place (inl same) =
        subst (λ (q : ℕ). IsSized (era_in (slice_set eras id era) q)) (sym same) (subst IsSized (sym (era_set eras id era (omega (arith, same, low, few, places)))) (is (omega (arith, same, low))))
    by_place (inr other) = subst IsSized (sym (era_kept eras id p era other)) (were p low)

-- ---- the opening
pub course_opens : (last_proposer : ℕ) (members : List ℕ) → last_proposer ≤ 16 → IsWhole (majority_era 0 members) → IsCourse (course last_proposer (replicate 17 (majority_era 0 members)) None [])
course_opens last_proposer members few whole = record {
  few = few;
  places = refl;
  sized = λ id low. subst IsSized (sym (first id (omega (arith, low, few)))) whole.one_set.sized;
  under_way = record { same = λ id low. first id (omega (arith, low, few)) ∙ sym (first 0 (omega arith)); whole = subst IsWhole (sym (first 0 (omega arith))) whole };
  entries = record {
    all = λ positive id low. absurd (omega (arith, positive, ap (λ (e : Era). e.number) (first 0 (omega arith))));
    led = λ id low. absurd (omega (arith, low));
    none_beyond = λ entry has. absurd (contains_none has);
    counted = omega (arith, ap (λ (e : Era). e.number) (first 0 (omega arith)));
  };
}
  where
    first : (id : ℕ) → id < 17 → era_in (replicate 17 (majority_era 0 members)) id ≡ majority_era 0 members
    first id low = get_or-replicate 17 id (majority_era 0 members) (majority_era 0 []) low

-- ---- a proposer is up again
-- one works where it worked, or in the next era
pub stays_on : (last_proposer : ℕ) (eras : List Era) (plan : PlanView) (entries : List EraEntry) (id : ℕ) (era : Era) → (id ≤ last_proposer → WorksIn plan id era) → (id ≤ last_proposer → IsSized era)
    → IsCourse (course last_proposer eras (Some plan) entries) → IsCourse (course last_proposer (slice_set eras id era) (Some plan) entries)
stays_on last_proposer eras plan entries id era works sized was = record {
  few = was.few;
  places = length-set eras id era ∙ was.places;
  sized = sized_with last_proposer eras id era was.places was.few sized was.sized;
  under_way = record {
    start = was.under_way.start;
    leads = was.under_way.leads;
    meets = was.under_way.meets;
    some_left = was.under_way.some_left;
    none_entered = was.under_way.none_entered;
    each = λ p low. by_place p low (same_or_not p id);
  };
  entries = record { all = was.entries.all; led = was.entries.led; none_beyond = was.entries.none_beyond; counted = was.entries.counted };
}
  where
    by_place : (p : ℕ) → p ≤ last_proposer → (p ≡ id) ⊎ (p ≡ id → ⊥) → WorksIn plan p (era_in (slice_set eras id era) p)
    by_place p low (inl same) = subst (λ (q : ℕ). WorksIn plan q (era_in (slice_set eras id era) q)) (sym same)
        (subst (WorksIn plan id) (sym (era_set eras id era (omega (arith, same, low, was.few, was.places)))) (works (omega (arith, same, low))))
    by_place p low (inr other) = subst (WorksIn plan p) (sym (era_kept eras id p era other)) (was.under_way.each p low)

pub course_shown : (last_proposer : ℕ) (eras : List Era) (plan : Option PlanView) (entries : List EraEntry) (id number : ℕ)
    → IsCourse (course last_proposer eras plan entries) → IsCourse (course last_proposer (slice_set eras id (era_shown plan (era_in eras id) number)) plan entries)
course_shown last_proposer eras None entries id number was = subst (λ (l : List Era). IsCourse (course last_proposer l None entries)) (sym (set-get_or eras id (majority_era 0 []))) was
course_shown last_proposer eras (Some plan) entries id number was =
    stays_on last_proposer eras plan entries id (era_shown (Some plan) (era_in eras id) number) (λ low. by_next low (entering plan.progress.left) refl)
    (λ low. sized_next low (entering plan.progress.left) refl) was
  where
    by_next : id ≤ last_proposer → (next : Option Era) → entering plan.progress.left ≡ next → WorksIn plan id (shown_era next (era_in eras id) number)
    by_next low None is = was.under_way.each id low
    by_next low (Some next) is = by_number (next.number == number)
      where
        by_number : (b : Bool) → WorksIn plan id (if b then next else era_in eras id)
        by_number true = entered is
        by_number false = was.under_way.each id low

    sized_next : id ≤ last_proposer → (next : Option Era) → entering plan.progress.left ≡ next → IsSized (shown_era next (era_in eras id) number)
    sized_next low None is = was.sized id low
    sized_next low (Some next) is = by_number (next.number == number)
      where
        by_number : (b : Bool) → IsSized (if b then next else era_in eras id)
        by_number true = (leads plan.progress.era next plan.progress.left is was.under_way.start).follows.sized
        by_number false = was.sized id low

-- ---- a change of membership
pub course_opened : (last_proposer : ℕ) (eras : List Era) (entries : List EraEntry) (asked : Asked) (progress : Progress) → progress.era ≡ era_in eras 0 → IsStart progress.era progress.left
    → IsAskedEra asked (last_era progress.era (eras_in progress.left)) → NeighboursMeet (progress.era ∷ eras_in progress.left)
    → IsCourse (course last_proposer eras None entries) → IsCourse (course last_proposer eras (Some (new_plan asked progress)) entries)
course_opened last_proposer eras entries asked progress from start ends meets was = record {
  few = was.few;
  places = was.places;
  sized = was.sized;
  under_way = record {
    start = start;
    leads = ends;
    meets = meets;
    some_left = omega arith;
    none_entered = λ none. refl;
    each = λ id low. not_yet (omega arith) (was.under_way.same id low ∙ sym from);
  };
  entries = record {
    all = λ positive id low. subst (λ (e : Era). Contains entries (record { proposer = id; era = e.number })) (sym from) (was.entries.all (subst (λ (e : Era). 0 < e.number) from positive) id low);
    led = λ id low. absurd (omega (arith, low));
    none_beyond = λ entry has. subst (λ (e : Era). (entry.era ≤ e.number) ⊎ ((entry.era ≡ suc e.number) × (entry.proposer < 0))) (sym from) (was.entries.none_beyond entry has);
    counted = subst (λ (e : Era). e.number ≤ length entries) (sym from) was.entries.counted;
  };
}

pub course_finished : (last_proposer : ℕ) (eras : List Era) (entries : List EraEntry) (plan : PlanView) → plan.progress.left ≡ [] → IsCourse (course last_proposer eras (Some plan) entries)
    → IsCourse (course last_proposer eras None entries)
course_finished last_proposer eras entries plan none was = record {
  few = was.few;
  places = was.places;
  sized = was.sized;
  under_way = record {
    same = λ id low. works id low ∙ sym (works 0 (omega arith));
    whole = subst IsWhole (sym (works 0 (omega arith))) (subst (IsStart plan.progress.era) none was.under_way.start).1;
  };
  entries = record {
    all = λ positive id low. subst (λ (e : Era). Contains entries (record { proposer = id; era = e.number })) (sym base) (was.entries.all (subst (λ (e : Era). 0 < e.number) base positive) id low);
    led = λ id low. absurd (omega (arith, low));
    none_beyond = λ entry has. subst (λ (e : Era). (entry.era ≤ e.number) ⊎ ((entry.era ≡ suc e.number) × (entry.proposer < 0))) (sym base)
        (subst (λ (n : ℕ). (entry.era ≤ plan.progress.era.number) ⊎ ((entry.era ≡ suc plan.progress.era.number) × (entry.proposer < n))) none_in (was.entries.none_beyond entry has));
    counted = subst (λ (e : Era). e.number ≤ length entries) (sym base) was.entries.counted;
  };
}
  where
    not_entering : entering plan.progress.left ≡ None
    not_entering = ap entering none

    none_in : plan.entered ≡ 0
    none_in = was.under_way.none_entered not_entering

    in_base : (id : ℕ) (era : Era) → WorksIn plan id era → era ≡ plan.progress.era
    in_base id era (not_yet few is) = is
    in_base id era (entered is) = absurd (cc (is, not_entering))

    works : (id : ℕ) → id ≤ last_proposer → era_in eras id ≡ plan.progress.era
    works id low = in_base id (era_in eras id) (was.under_way.each id low)

    base : era_in eras 0 ≡ plan.progress.era
    base = works 0 (omega arith)

-- ---- a proposer enters the next era
the_one : {entry other : EraEntry} → Contains (other ∷ []) entry → entry ≡ other
the_one {entry} {other} new = elim (has entry (other ∷ []) new) [
  | inl is ↦ sym is
  | inr none ↦ absurd none
]

the_entry : {entry other : EraEntry} → entry ≡ other → Contains (other ∷ []) entry
the_entry {entry} {other} same = contains entry (other ∷ []) (inl (sym same))

-- where it is not the last one, others are still to enter it
one_entered : (last_proposer : ℕ) (eras : List Era) (plan : PlanView) (entries : List EraEntry) (next : Era) → entering plan.progress.left ≡ Some next → (plan.entered ≡ last_proposer → ⊥)
    → IsCourse (course last_proposer eras (Some plan) entries)
    → IsCourse (course last_proposer (slice_set eras plan.entered next) (Some (record plan { entered = suc plan.entered })) (entries ++ record { proposer = plan.entered; era = next.number } ∷ []))
one_entered last_proposer eras plan entries next is_next more was = record {
  few = was.few;
  places = length-set eras plan.entered next ∙ was.places;
  sized = sized_with last_proposer eras plan.entered next was.places was.few (λ low. leading.follows.sized) was.sized;
  under_way = record {
    start = was.under_way.start;
    leads = was.under_way.leads;
    meets = was.under_way.meets;
    some_left = low;
    none_entered = λ none. absurd (cc (none, is_next));
    each = λ p at. by_place p (same_or_not p plan.entered) (λ other. was.under_way.each p at);
  };
  entries = record {
    all = λ positive id at. contains_front entries _ (was.entries.all positive id at);
    led = λ id under. by_number id (same_or_not id plan.entered) under;
    none_beyond = λ entry has. elim (contains_append entries _ has) [
      | inl old ↦ elim (was.entries.none_beyond entry old) [
        | inl few ↦ inl few
        | inr led ↦ inr (led.0, omega (arith, led.1))
      ]
      | inr new ↦ inr (ap (λ (e : EraEntry). e.era) (the_one new) ∙ leading.follows.number, omega (arith, ap (λ (e : EraEntry). e.proposer) (the_one new)))
    ];
    counted = omega (arith, was.entries.counted, length_push entries (record { proposer = plan.entered; era = next.number }));
  };
}
  where
    leading : LeadsToEra plan.progress.era next plan.progress.left
    leading = leads plan.progress.era next plan.progress.left is_next was.under_way.start

    low : suc plan.entered ≤ last_proposer
    low = omega (arith, was.under_way.some_left, more)

    by_place : (p : ℕ) → (p ≡ plan.entered) ⊎ (p ≡ plan.entered → ⊥) → ((p ≡ plan.entered → ⊥) → WorksIn plan p (era_in eras p))
        → WorksIn (record plan { entered = suc plan.entered }) p (era_in (slice_set eras plan.entered next) p)
    by_place p (inl same) old = entered (is_next ∙ ap (λ (e : Era). Some e) (sym (ap (λ (q : ℕ). era_in (slice_set eras plan.entered next) q) same ∙ era_set eras plan.entered next (omega (arith, was.few, was.places, was.under_way.some_left)))))
    by_place p (inr other) old = subst (WorksIn (record plan { entered = suc plan.entered }) p) (sym (era_kept eras plan.entered p next other)) (elim (old other) [
      | not_yet few is ↦ not_yet (omega (arith, few, other)) is
      | entered is ↦ entered is
    ])

    by_number : (id : ℕ) → (id ≡ plan.entered) ⊎ (id ≡ plan.entered → ⊥) → id < suc plan.entered
        → Contains (entries ++ record { proposer = plan.entered; era = next.number } ∷ []) (record { proposer = id; era = suc plan.progress.era.number })
    by_number id (inl same) under =
        contains_back entries _
        (the_entry (ap (λ (n : ℕ). record { proposer = n; era = suc plan.progress.era.number }) same ∙ ap (λ (n : ℕ). record { proposer = plan.entered; era = n }) (sym leading.follows.number)))
    by_number id (inr other) under = contains_front entries _ (was.entries.led id (omega (arith, under, other)))

-- the change ends where it was to end
last_behind : (era next : Era) (left : List PlanStep) → entering left ≡ Some next → last_era era (eras_in left) ≡ last_era next (eras_in (rest_of left))
last_behind era next [] is = absurd (cc is)
last_behind era next (Enter e ∷ left) is = ap (λ (from : Era). last_era from (eras_in left)) (some_is is)
last_behind era next (Settle ∷ left) is = absurd (cc is)
last_behind era next (Finished ∷ left) is = absurd (cc is)

-- and the eras that are left meet
meets_behind : (era next : Era) (left : List PlanStep) → entering left ≡ Some next → NeighboursMeet (era ∷ eras_in left) → NeighboursMeet (next ∷ eras_in (rest_of left))
meets_behind era next [] is meets = absurd (cc is)
meets_behind era next (Enter e ∷ left) is meets = subst (λ (from : Era). NeighboursMeet (from ∷ eras_in left)) (some_is is) meets.2
meets_behind era next (Settle ∷ left) is meets = absurd (cc is)
meets_behind era next (Finished ∷ left) is meets = absurd (cc is)

-- where it is the last one, the era is the one that all entered last
last_entered : (last_proposer : ℕ) (eras : List Era) (plan : PlanView) (entries : List EraEntry) (next : Era) → entering plan.progress.left ≡ Some next → plan.entered ≡ last_proposer
    → IsCourse (course last_proposer eras (Some plan) entries)
    → IsCourse (course last_proposer (slice_set eras plan.entered next) (Some (record plan { progress = record { era = next; left = rest_of plan.progress.left }; entered = 0; listing = None })) (entries ++ record { proposer = plan.entered; era = next.number } ∷ []))
last_entered last_proposer eras plan entries next is_next last was = record {
  few = was.few;
  places = length-set eras plan.entered next ∙ was.places;
  sized = sized_with last_proposer eras plan.entered next was.places was.few (λ low. leading.follows.sized) was.sized;
  under_way = record {
    start = path_starts next (rest_of plan.progress.left) (omega (arith, leading.follows.number)) leading.path;
    leads = subst (IsAskedEra plan.asked) (last_behind plan.progress.era next plan.progress.left is_next) was.under_way.leads;
    meets = meets_behind plan.progress.era next plan.progress.left is_next was.under_way.meets;
    some_left = omega arith;
    none_entered = λ none. refl;
    each = λ p at. not_yet (omega arith) (by_place p at (same_or_not p plan.entered));
  };
  entries = record {
    all = λ positive id at. by_number id at (same_or_not id plan.entered);
    led = λ id under. absurd (omega (arith, under));
    none_beyond = λ entry has. inl (elim (contains_append entries _ has) [
      | inl old ↦ elim (was.entries.none_beyond entry old) [
        | inl few ↦ omega (arith, few, leading.follows.number)
        | inr led ↦ omega (arith, led.0, leading.follows.number)
      ]
      | inr new ↦ omega (arith, ap (λ (e : EraEntry). e.era) (the_one new))
    ]);
    counted = omega (arith, was.entries.counted, length_push entries (record { proposer = plan.entered; era = next.number }), leading.follows.number);
  };
}
  where
    leading : LeadsToEra plan.progress.era next plan.progress.left
    leading = leads plan.progress.era next plan.progress.left is_next was.under_way.start

    in_next : (p : ℕ) (era : Era) → p < plan.entered → WorksIn plan p era → era ≡ next
    in_next p era under (not_yet few is) = absurd (omega (arith, under, few))
    in_next p era under (entered is) = some_is (sym is ∙ is_next)

    by_place : (p : ℕ) → p ≤ last_proposer → (p ≡ plan.entered) ⊎ (p ≡ plan.entered → ⊥) → era_in (slice_set eras plan.entered next) p ≡ next
    by_place p at (inl same) = ap (λ (q : ℕ). era_in (slice_set eras plan.entered next) q) same ∙ era_set eras plan.entered next (omega (arith, was.few, was.places, was.under_way.some_left))
    by_place p at (inr other) = era_kept eras plan.entered p next other ∙ in_next p (era_in eras p) (omega (arith, at, other, last)) (was.under_way.each p at)

    by_number : (id : ℕ) → id ≤ last_proposer → (id ≡ plan.entered) ⊎ (id ≡ plan.entered → ⊥)
        → Contains (entries ++ record { proposer = plan.entered; era = next.number } ∷ []) (record { proposer = id; era = next.number })
    by_number id at (inl same) = contains_back entries _ (the_entry (ap (λ (n : ℕ). record { proposer = n; era = next.number }) same))
    by_number id at (inr other) =
        contains_front entries _ (subst (λ (n : ℕ). Contains entries (record { proposer = id; era = n })) (sym leading.follows.number) (was.entries.led id (omega (arith, at, other, last))))

pub course_entered : (last_proposer : ℕ) (eras : List Era) (plan : PlanView) (entries : List EraEntry) (next : Era) → entering plan.progress.left ≡ Some next
    → IsCourse (course last_proposer eras (Some plan) entries)
    → IsCourse (course last_proposer (slice_set eras plan.entered next) (Some (plan_after last_proposer plan next)) (entries ++ record { proposer = plan.entered; era = next.number } ∷ []))
course_entered last_proposer eras plan entries next is_next was = by_number (plan.entered == last_proposer) refl
  where
    by_number : (b : Bool) → (plan.entered == last_proposer) ≡ b
        → IsCourse (course last_proposer (slice_set eras plan.entered next)
        (Some (if b then record plan { progress = record { era = next; left = rest_of plan.progress.left }; entered = 0; listing = None } else record plan { entered = suc plan.entered }))
        (entries ++ record { proposer = plan.entered; era = next.number } ∷ []))
    by_number true is = last_entered last_proposer eras plan entries next is_next (nat_same is) was
    by_number false is = one_entered last_proposer eras plan entries next is_next (λ same. not_both (plan.entered == last_proposer) (nat_is same) is) was

-- ---- quorums meet
meets_first : (era : Era) (later : List Era) → NeighboursMeet (era ∷ later) → Meet era era
meets_first era [] meet = meet
meets_first era (next ∷ later) meet = meet.0

-- whatever era a proposer works in, its own quorums meet
pub course_meets : (c : Course) (id : ℕ) → id ≤ c.last_proposer → IsCourse c → Meet (era_in c.eras id) (era_in c.eras id)
course_meets c id low is = by_plan c.plan is.under_way
  where
    by_plan : (plan : Option PlanView) → CourseIsUnderWay c plan → Meet (era_in c.eras id) (era_in c.eras id)
    by_plan None settled = subst (λ (e : Era). Meet e e) (sym (settled.same id low)) settled.whole.one_set.meets
    by_plan (Some plan) moving = elim (moving.each id low) [
      | not_yet few same ↦ subst (λ (e : Era). Meet e e) (sym same) (meets_first plan.progress.era (eras_in plan.progress.left) moving.meets)
      | entered is_next ↦ meets_first (era_in c.eras id) (eras_in (rest_of plan.progress.left)) (meets_behind plan.progress.era (era_in c.eras id) plan.progress.left is_next moving.meets)
    ]

-- ---- an era is settled
-- what is so where the first step is to settle the era
pub record AtSettle (last_proposer : ℕ) (eras : List Era) (plan : PlanView) (entries : List EraEntry) : Type 0 where
  pub positive : 0 < plan.progress.era.number
  pub none_entered : plan.entered ≡ 0
  pub in_base : (id : ℕ) → id ≤ last_proposer → era_in eras id ≡ plan.progress.era
  pub all : (id : ℕ) → id ≤ last_proposer → Contains entries (record { proposer = id; era = plan.progress.era.number })
  pub start : IsStart plan.progress.era (drop 1 plan.progress.left)

-- nothing is entered then
pub settle_enters : (left : List PlanStep) → next_of left ≡ Settle → entering left ≡ None
settle_enters [] is = absurd (cc is)
settle_enters (Settle ∷ left) is = refl
settle_enters (Enter era ∷ left) is = absurd (cc is)
settle_enters (Finished ∷ left) is = refl

-- and the change ends where it was to end
last_settled : (era : Era) (left : List PlanStep) → next_of left ≡ Settle → last_era era (eras_in left) ≡ last_era era (eras_in (drop 1 left))
last_settled era [] is = absurd (cc is)
last_settled era (Settle ∷ left) is = refl
last_settled era (Enter next ∷ left) is = absurd (cc is)
last_settled era (Finished ∷ left) is = absurd (cc is)

-- by the same eras
eras_settled : (left : List PlanStep) → next_of left ≡ Settle → eras_in left ≡ eras_in (drop 1 left)
eras_settled [] is = absurd (cc is)
eras_settled (Settle ∷ left) is = refl
eras_settled (Enter next ∷ left) is = absurd (cc is)
eras_settled (Finished ∷ left) is = absurd (cc is)

settled_start : (era : Era) (left : List PlanStep) → next_of left ≡ Settle → IsStart era left → (0 < era.number) × IsStart era (drop 1 left)
settled_start era [] is start = absurd (cc is)
settled_start era (Settle ∷ []) is start = absurd start
settled_start era (Settle ∷ Settle ∷ left) is start = absurd start
settled_start era (Settle ∷ Finished ∷ left) is start = absurd start
settled_start era (Settle ∷ Enter next ∷ left) is start = (start.0, (start.1, start.2))
settled_start era (Enter next ∷ left) is start = absurd (cc is)
settled_start era (Finished ∷ left) is start = absurd (cc is)

pub at_settle : (last_proposer : ℕ) (eras : List Era) (plan : PlanView) (entries : List EraEntry) → next_of plan.progress.left ≡ Settle → IsCourse (course last_proposer eras (Some plan) entries)
    → AtSettle last_proposer eras plan entries
at_settle last_proposer eras plan entries is was = record {
  positive = begins.0;
  none_entered = was.under_way.none_entered none;
  in_base = λ id low. elim (was.under_way.each id low) [
    | not_yet few same ↦ same
    | entered there ↦ absurd (cc (there, none))
  ];
  all = was.entries.all begins.0;
  start = begins.1;
}
  where
    none : entering plan.progress.left ≡ None
    none = settle_enters plan.progress.left is

    begins : (0 < plan.progress.era.number) × IsStart plan.progress.era (drop 1 plan.progress.left)
    begins = settled_start plan.progress.era plan.progress.left is was.under_way.start

-- ---- the plan goes on, and all else stays
-- other keys are listed or proposed anew
pub course_relisted : (last_proposer : ℕ) (eras : List Era) (plan : PlanView) (entries : List EraEntry) (count : ℕ) (listing : Option ListingView)
    → IsCourse (course last_proposer eras (Some plan) entries)
    → IsCourse (course last_proposer eras (Some (record plan { rescanned = count; listing = listing })) entries)
course_relisted last_proposer eras plan entries count listing was = record {
  few = was.few;
  places = was.places;
  sized = was.sized;
  under_way = record {
    start = was.under_way.start;
    leads = was.under_way.leads;
    meets = was.under_way.meets;
    some_left = was.under_way.some_left;
    none_entered = was.under_way.none_entered;
    each = λ id low. elim (was.under_way.each id low) [
      | not_yet few same ↦ not_yet few same
      | entered there ↦ entered there
    ];
  };
  entries = record { all = was.entries.all; led = was.entries.led; none_beyond = was.entries.none_beyond; counted = was.entries.counted };
}

-- the era is settled
pub course_stepped : (last_proposer : ℕ) (eras : List Era) (plan : PlanView) (entries : List EraEntry) → next_of plan.progress.left ≡ Settle → IsCourse (course last_proposer eras (Some plan) entries)
    → IsCourse (course last_proposer eras (Some (stepped plan)) entries)
course_stepped last_proposer eras plan entries is was =
    let at = at_settle last_proposer eras plan entries is was in
    record {
      few = was.few;
      places = was.places;
      sized = was.sized;
      under_way = record {
        start = at.start;
        leads = subst (IsAskedEra plan.asked) (last_settled plan.progress.era plan.progress.left is) was.under_way.leads;
        meets = subst (λ (l : List Era). NeighboursMeet (plan.progress.era ∷ l)) (eras_settled plan.progress.left is) was.under_way.meets;
        some_left = was.under_way.some_left;
        none_entered = λ none. at.none_entered;
        each = λ id low. not_yet (omega (arith, at.none_entered)) (at.in_base id low);
      };
      entries = record { all = was.entries.all; led = was.entries.led; none_beyond = was.entries.none_beyond; counted = was.entries.counted };
    }

pub course_listed : (last_proposer : ℕ) (eras : List Era) (plan : PlanView) (entries : List EraEntry) (listing : ListingView) → next_of plan.progress.left ≡ Settle
    → IsCourse (course last_proposer eras (Some plan) entries)
    → IsCourse (course last_proposer eras (Some (with_listing plan listing)) entries)
course_listed last_proposer eras plan entries listing is was = by_test (listing.complete && (length listing.keys == 0))
  where
    by_test : (b : Bool) → IsCourse (course last_proposer eras (Some (if b then stepped plan else record plan { listing = Some listing })) entries)
    by_test true = course_stepped last_proposer eras plan entries is was
    by_test false = course_relisted last_proposer eras plan entries plan.rescanned (Some listing) was
