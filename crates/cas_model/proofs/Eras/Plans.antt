-- The plans of the table are paths: what they enter follows each other and meets, and the last of it is whole.
use Rattle.std.proofs.Common.{◌≡◌, ◌<◌, ◌≤◌, ℕ, ◌+◌, zero, suc, List, [], ◌∷◌, ◌++◌, length, Some, refl, sym, ap, subst, ◌∙◌, inl, inr, arith}
use Rattle.std.specs.Prelude.{⊤, ◌⊎◌, ◌==◌, ◌&&◌, ◌||◌, ◌%◌, not, nat_le, Bool, true, false, if◌then◌else◌, Ok, Err}
use Rattle.std.proofs.lemmas.Bool.{leb-false}
use Rattle.cas_base.proofs.Bools.{or_cases, or_left, or_right, and_left, and_right, false_of_not, not_both, not_tells}
use Rattle.cas_ballot.specs.Members.{members_where, has_member, with_member, without_member, union_of, IsMemberSet}
use Rattle.cas_ballot.proofs.CountLemmas.{IsWithin, union_within, union_around, IsWithin-same, IsWithin-with_member, IsWithin-without_member, length-within, le-length-without_member}
use Rattle.cas_ballot.proofs.MemberLemmas.{has-members_where, members_where_tells, IsMemberSet-members_where}
use Rattle.cas_members.specs.declared.plan.PlanStep.{PlanStep}
use Rattle.cas_members.specs.declared.plan.PlanStep.TheVariants.{Settle, Enter, Finished}
use Rattle.cas_members.specs.declared.plan.TheConstants.{MOST_MEMBERS}
use Rattle.cas_members.specs.Plan.{are_sizes, eras_in, greater_of, has_majorities, join_of, join_steps, leave_of, leave_steps, meets_sizes, resize_of, resize_steps, settle_first}
use Rattle.cas_members.specs.Steps.{Progress}
use Rattle.cas_members.proofs.PlanLemmas as table
use Rattle.cas_members.proofs.PlanLemmas.{AreNeighbours, AreSizes, by_majorities, from_era, half_sizes, majority_one_set, sized_by, sized_one_set, sizes_tell}
use Rattle.cas_quorum.specs.declared.era.Era.{Era}
use Rattle.cas_quorum.specs.declared.fault.PlanFault.TheVariants.{AlreadyIn, NotIn, IdUsed, TooMany, Last, BadSize, NotMajority}
use Rattle.cas_quorum.specs.Era.{era_of_majorities, majority_era, sized_era, NeighboursMeet}
use Rattle.cas_record.specs.declared.operator.Asked.{Asked}
use Rattle.cas_record.specs.declared.operator.Asked.TheVariants.{Join, Leave, Resize}
use Rattle.cas_record.proofs.Tests.{nat_is, nat_same}
use Rattle.cas_model.specs.Eras.Course.{IsAskedEra, IsWhole, Follows, IsPath, IsStart, entering, last_era}
use Rattle.cas_model.specs.Eras.Step as plans
use Rattle.cas_model.specs.Eras.Step.{IsPlanned}
use Rattle.cas_model.proofs.Frames.Harms.{member_low}

-- ---- how many members
-- of two sets of which one has all of the other, together
few_within : (small large : List ℕ) → IsMemberSet large → IsWithin small large → length large ≤ 9 → (length (union_of small large) ≤ 9) × (length (union_of large small) ≤ 9)
few_within small large set within few = (omega (arith, few, ap length (union_within small large set within)), omega (arith, few, ap length (union_around small large set within)))

-- of an era that is whole
few_prepare : (era : Era) → IsWhole era → length era.prep ≤ 9
few_prepare era whole =
    let within : length (members_where (has_member era.prep)) ≤ length (union_of era.prep era.acc) = length-within (has_member era.prep) (λ n. has_member era.prep n || has_member era.acc n) (λ n small has. or_left (has_member era.prep n) (has_member era.acc n) has) in
    let few : length (union_of era.prep era.acc) ≤ 9 = whole.few in
    omega (arith, within, few, ap length whole.member_set.lists)

-- ---- eras by majorities
follows_by : (era : Era) (number : ℕ) (prep acc : List ℕ) → number ≡ suc era.number → IsMemberSet prep → IsMemberSet acc → 0 < length prep → 0 < length acc → length (union_of prep acc) ≤ 9 → Follows era (era_of_majorities number prep acc)
follows_by era number prep acc is prep_set acc_set some_prep some_acc few =
    record { number = is; prep_set = prep_set; acc_set = acc_set; some_prep = some_prep; some_acc = some_acc; sized = by_majorities number prep acc some_prep some_acc; few = few }

whole_by : (number : ℕ) (members : List ℕ) → IsMemberSet members → 0 < length members → length members ≤ 9 → IsWhole (majority_era number members)
whole_by number members set some few = record { one_set = majority_one_set number members set some; member_set = set; some = some; few = (few_within members members set (IsWithin-same members) few).0 }

-- ---- eras of given sizes
follows_in : (era : Era) (number : ℕ) (members : List ℕ) (p a : ℕ) → number ≡ suc era.number → IsMemberSet members → 0 < length members → length members ≤ 9 → AreSizes (length members) p a
    → Follows era (sized_era number members p a)
follows_in era number members p a is set some few sizes = record {
  number = is;
  prep_set = set;
  acc_set = set;
  some_prep = some;
  some_acc = some;
  sized = sized_by number members p a sizes;
  few = (few_within members members set (IsWithin-same members) few).0;
}

whole_in : (number : ℕ) (members : List ℕ) (p a : ℕ) → IsMemberSet members → 0 < length members → length members ≤ 9 → AreSizes (length members) p a → IsWhole (sized_era number members p a)
whole_in number members p a set some few sizes = record {
  one_set = sized_one_set number members p a set sizes;
  member_set = set;
  some = some;
  few = (few_within members members set (IsWithin-same members) few).0;
}

-- a set with one more has no less
no_less : (ids : List ℕ) (id : ℕ) → IsMemberSet ids → length ids ≤ length (with_member ids id)
no_less ids id set =
    let within : length (members_where (has_member ids)) ≤ length (with_member ids id) = length-within (has_member ids) (λ n. n == id || has_member ids n) (λ n small has. or_right (n == id) (has_member ids n) has) in
    omega (arith, within, ap length set.lists)

-- ---- steps that begin a change
-- they start from the era, which is left as it is only where it is the first, all eras of them meet, and the last is as it was asked for
record PlanGoes (asked : Asked) (era : Era) (left : List PlanStep) : Type 0 where
  pub start : IsStart era left
  pub leads : IsAskedEra asked (last_era era (eras_in left))
  pub first : (next : Era) → entering left ≡ Some next → era.number ≡ 0
  pub meets : NeighboursMeet (era ∷ eras_in left)

positive : (n : ℕ) → (n == 0) ≡ false → 0 < n
positive zero is = absurd (cc is)
positive (suc n) is = omega arith

at_once : (asked : Asked) (era next : Era) → Follows era next → IsWhole next → IsAskedEra asked next → NeighboursMeet (era ∷ next ∷ []) → (settled : Bool) → (era.number == 0) ≡ settled
    → PlanGoes asked era ((if settled then [] else Settle ∷ []) ++ Enter next ∷ [])
at_once asked era next follows whole leads meets true is = record { start = (follows, whole); leads = leads; first = λ e enters. nat_same is; meets = meets }
at_once asked era next follows whole leads meets false is = record { start = (positive era.number is, follows, whole); leads = leads; first = λ e enters. absurd (cc enters); meets = meets }

by_half : (asked : Asked) (era half last : Era) → Follows era half → Follows half last → IsWhole last → IsAskedEra asked last → NeighboursMeet (era ∷ half ∷ last ∷ []) → (settled : Bool) → (era.number == 0) ≡ settled
    → PlanGoes asked era ((if settled then [] else Settle ∷ []) ++ Enter half ∷ Settle ∷ Enter last ∷ [])
by_half asked era half last first second whole leads meets true is =
    record { start = (first, (omega (arith, first.number), second, whole)); leads = leads; first = λ e enters. nat_same is; meets = meets }
by_half asked era half last first second whole leads meets false is =
    record { start = (positive era.number is, first, (omega (arith, first.number), second, whole)); leads = leads; first = λ e enters. absurd (cc enters); meets = meets }

join_goes : (era : Era) (id : ℕ) → IsWhole era → length era.prep < 9 → has_majorities era ≡ true → PlanGoes (Join id) era (join_steps era id)
join_goes era id whole room majorities = by_parity (length era.prep % 2 == 1)
  where
    more : List ℕ
    more = with_member era.prep id

    two : AreNeighbours era.prep more
    two = table.joins era.prep id whole.member_set whole.some

    some : 0 < length more
    some = omega (arith, whole.some, no_less era.prep id whole.member_set)

    few : length more ≤ 9
    few = omega (arith, room, two.one_more)

    all_few : length (union_of more more) ≤ 9
    all_few = (few_within more more two.large_set (IsWithin-same more) few).0

    half_few : length (union_of era.prep more) ≤ 9
    half_few = (few_within era.prep more two.large_set two.within few).0

    half : Era
    half = era_of_majorities (era.number + 1) era.prep more

    there : id < 64 → has_member more id ≡ true
    there low = has-members_where (λ n. n == id || has_member era.prep n) id low ∙ or_left (id == id) (has_member era.prep id) (nat_is refl)

    by_parity : (odd : Bool)
        → PlanGoes (Join id) era (if odd then settle_first era ++ Enter half ∷ Settle ∷ Enter (majority_era (era.number + 2) more) ∷ [] else (settle_first era ++ Enter (majority_era (era.number + 1) more) ∷ []))
    by_parity true = by_half (Join id) era half (majority_era (era.number + 2) more) (follows_by era (era.number + 1) era.prep more (omega arith) two.small_set two.large_set whole.some some half_few)
        (follows_by half (era.number + 2) more more (omega arith) two.large_set two.large_set some some all_few) (whole_by (era.number + 2) more two.large_set some few) there
        (from_era era _ whole.one_set majorities (table.halves_up era.number era.prep more two)).chain (era.number == 0) refl
    by_parity false = at_once (Join id) era (majority_era (era.number + 1) more) (follows_by era (era.number + 1) more more (omega arith) two.large_set two.large_set some some all_few)
        (whole_by (era.number + 1) more two.large_set some few) there (from_era era _ whole.one_set majorities (table.at_once_up era.number era.prep more two)).chain (era.number == 0) refl

leave_goes : (era : Era) (id : ℕ) → IsWhole era → 1 < length era.prep → has_majorities era ≡ true → PlanGoes (Leave id) era (leave_steps era id)
leave_goes era id whole several majorities = by_parity (length era.prep % 2 == 0)
  where
    less : List ℕ
    less = without_member era.prep id

    two : AreNeighbours less era.prep
    two = table.leaves era.prep id whole.member_set several

    some : 0 < length less
    some = omega (arith, several, le-length-without_member era.prep id whole.member_set)

    few : length less ≤ 9
    few = omega (arith, few_prepare era whole, length-within (λ n. not (n == id) && has_member era.prep n) (has_member era.prep) (λ n small has. and_right (not (n == id)) (has_member era.prep n) has), ap length whole.member_set.lists)

    all_few : length (union_of less less) ≤ 9
    all_few = (few_within less less two.small_set (IsWithin-same less) few).0

    half_few : length (union_of less era.prep) ≤ 9
    half_few = (few_within less era.prep two.large_set two.within (few_prepare era whole)).0

    half : Era
    half = era_of_majorities (era.number + 1) less era.prep

    gone : has_member less id ≡ false
    gone = false_of_not (has_member less id) (λ is. not_both (id == id) (nat_is refl)
        (not_tells (id == id) (and_left (not (id == id)) (has_member era.prep id) (members_where_tells (λ n. not (n == id) && has_member era.prep n) id is))))

    by_parity : (even : Bool)
        → PlanGoes (Leave id) era (if even then settle_first era ++ Enter half ∷ Settle ∷ Enter (majority_era (era.number + 2) less) ∷ [] else (settle_first era ++ Enter (majority_era (era.number + 1) less) ∷ []))
    by_parity true = by_half (Leave id) era half (majority_era (era.number + 2) less) (follows_by era (era.number + 1) less era.prep (omega arith) two.small_set two.large_set some whole.some half_few)
        (follows_by half (era.number + 2) less less (omega arith) two.small_set two.small_set some some all_few) (whole_by (era.number + 2) less two.small_set some few) gone
        (from_era era _ whole.one_set majorities (table.halves_down era.number less era.prep two)).chain (era.number == 0) refl
    by_parity false = at_once (Leave id) era (majority_era (era.number + 1) less) (follows_by era (era.number + 1) less less (omega arith) two.small_set two.small_set some some all_few)
        (whole_by (era.number + 1) less two.small_set some few) gone (from_era era _ whole.one_set majorities (table.at_once_down era.number less era.prep two)).chain (era.number == 0) refl

-- the sizes that are asked for are the last ones
resize_goes : (era : Era) (p a : ℕ) → IsWhole era → are_sizes (length era.prep) p a ≡ true → PlanGoes (Resize p a) era (resize_steps era p a)
resize_goes era p a whole are = by_sizes (meets_sizes era p a) refl
  where
    few : length era.prep ≤ 9
    few = few_prepare era whole

    now : AreSizes (length era.prep) p a
    now = sizes_tell (length era.prep) p a are

    between : AreSizes (length era.prep) (greater_of era.need_prep p) (greater_of era.need_acc a)
    between = half_sizes era p a whole.member_set whole.one_set are

    half : Era
    half = sized_era (era.number + 1) era.prep (greater_of era.need_prep p) (greater_of era.need_acc a)

    by_sizes : (meet : Bool) → meets_sizes era p a ≡ meet
        → PlanGoes (Resize p a) era (if meet then settle_first era ++ Enter (sized_era (era.number + 1) era.prep p a) ∷ []
        else (settle_first era ++ Enter half ∷ Settle ∷ Enter (sized_era (era.number + 2) era.prep p a) ∷ []))
    by_sizes true meet = at_once (Resize p a) era (sized_era (era.number + 1) era.prep p a) (follows_in era (era.number + 1) era.prep p a (omega arith) whole.member_set whole.some few now)
        (whole_in (era.number + 1) era.prep p a whole.member_set whole.some few now) (refl, refl)
        (table.at_once era p a whole.member_set whole.one_set are meet).chain (era.number == 0) refl
    by_sizes false meet = by_half (Resize p a) era half (sized_era (era.number + 2) era.prep p a) (follows_in era (era.number + 1) era.prep _ _ (omega arith) whole.member_set whole.some few between)
        (follows_in half (era.number + 2) era.prep p a (omega arith) whole.member_set whole.some few now)
        (whole_in (era.number + 2) era.prep p a whole.member_set whole.some few now) (refl, refl)
        (table.by_half era p a whole.member_set whole.one_set are).chain (era.number == 0) refl

-- ---- the plans of the table
record IsOfTable (asked : Asked) (from : Era) (progress : Progress) : Type 0 where
  pub era : progress.era ≡ from
  pub goes : PlanGoes asked progress.era progress.left

of_table : (asked : Asked) (from : Era) (left : List PlanStep) (progress : Progress) → progress ≡ record { era = from; left = left } → PlanGoes asked from left → IsOfTable asked from progress
of_table asked from left progress is goes = subst (IsOfTable asked from) (sym is) (record { era = refl; goes = goes })

-- where one joins, it is new, there is room for it, and sizes are majorities
record HasJoined (era : Era) (used : List ℕ) (id : ℕ) (progress : Progress) : Type 0 where
  pub is : progress ≡ record { era = era; left = join_steps era id }
  pub unused : has_member used id ≡ false
  pub room : length era.prep < 9
  pub majorities : has_majorities era ≡ true

has_joined : (era : Era) (used : List ℕ) (id : ℕ) (progress : Progress) → Ok progress ≡ join_of era used id → HasJoined era used id progress
has_joined era used id progress planned = by_tests (has_member era.prep id) (has_member used id) (nat_le MOST_MEMBERS (length era.prep)) (has_majorities era) refl refl refl planned
  where
    by_tests : (a b c d : Bool) → has_member used id ≡ b → nat_le MOST_MEMBERS (length era.prep) ≡ c → has_majorities era ≡ d
        → Ok progress ≡ (if a then Err AlreadyIn else if b then Err IdUsed else if c then Err TooMany else if d then Ok (record { era = era; left = join_steps era id }) else Err NotMajority)
        → HasJoined era used id progress
    by_tests true b c d unused room majorities is = absurd (cc is)
    by_tests false true c d unused room majorities is = absurd (cc is)
    by_tests false false true d unused room majorities is = absurd (cc is)
    by_tests false false false true unused room majorities is = record { is = cc is; unused = unused; room = leb-false MOST_MEMBERS (length era.prep) room; majorities = majorities }
    by_tests false false false false unused room majorities is = absurd (cc is)

-- where a member leaves, others stay, and sizes are majorities
record HasLeftMembers (era : Era) (id : ℕ) (progress : Progress) : Type 0 where
  pub is : progress ≡ record { era = era; left = leave_steps era id }
  pub several : 1 < length era.prep
  pub majorities : has_majorities era ≡ true

has_left : (era : Era) (id : ℕ) (progress : Progress) → Ok progress ≡ leave_of era id → HasLeftMembers era id progress
has_left era id progress planned = by_tests (has_member era.prep id) (nat_le (length era.prep) 1) (has_majorities era) refl refl planned
  where
    by_tests : (a b c : Bool) → nat_le (length era.prep) 1 ≡ b → has_majorities era ≡ c
        → Ok progress ≡ (if a then (if b then Err Last else if c then Ok (record { era = era; left = leave_steps era id }) else Err NotMajority) else Err NotIn) → HasLeftMembers era id progress
    by_tests false b c several majorities is = absurd (cc is)
    by_tests true true c several majorities is = absurd (cc is)
    by_tests true false true several majorities is = record { is = cc is; several = leb-false (length era.prep) 1 several; majorities = majorities }
    by_tests true false false several majorities is = absurd (cc is)

-- where quorums are resized, their sizes are some that the members have
record HasResized (era : Era) (p a : ℕ) (progress : Progress) : Type 0 where
  pub is : progress ≡ record { era = era; left = resize_steps era p a }
  pub are : are_sizes (length era.prep) p a ≡ true

has_resized : (era : Era) (p a : ℕ) (progress : Progress) → Ok progress ≡ resize_of era p a → HasResized era p a progress
has_resized era p a progress planned = by_test (are_sizes (length era.prep) p a) refl planned
  where
    by_test : (b : Bool) → are_sizes (length era.prep) p a ≡ b → Ok progress ≡ (if b then Ok (record { era = era; left = resize_steps era p a }) else Err BadSize) → HasResized era p a progress
    by_test true are is = record { is = cc is; are = are }
    by_test false are is = absurd (cc is)

planned_of_table : (era : Era) (used : List ℕ) (asked : Asked) (progress : Progress) → IsWhole era → IsPlanned era used asked (Ok progress) → IsOfTable asked era progress
planned_of_table era used asked progress whole (plans.joins id asked_so planned) =
    let by = has_joined era used id progress planned in
    subst (λ (of : Asked). IsOfTable of era progress) (sym asked_so) (of_table (Join id) era (join_steps era id) progress by.is (join_goes era id whole by.room by.majorities))
planned_of_table era used asked progress whole (plans.leaves id asked_so planned) =
    let by = has_left era id progress planned in
    subst (λ (of : Asked). IsOfTable of era progress) (sym asked_so) (of_table (Leave id) era (leave_steps era id) progress by.is (leave_goes era id whole by.several by.majorities))
planned_of_table era used asked progress whole (plans.resizes p a asked_so planned) =
    let by = has_resized era p a progress planned in
    subst (λ (of : Asked). IsOfTable of era progress) (sym asked_so) (of_table (Resize p a) era (resize_steps era p a) progress by.is (resize_goes era p a whole by.are))

-- how a change of membership begins
pub record BeginsPlan (asked : Asked) (from : Era) (progress : Progress) : Type 0 where
  pub era : progress.era ≡ from
  pub start : IsStart progress.era progress.left
  -- it ends as it was asked for
  pub leads : IsAskedEra asked (last_era progress.era (eras_in progress.left))
  -- only the first era is left as it is
  pub first : (next : Era) → entering progress.left ≡ Some next → progress.era.number ≡ 0

pub planned_starts : (era : Era) (used : List ℕ) (asked : Asked) (progress : Progress) → IsWhole era → IsPlanned era used asked (Ok progress) → BeginsPlan asked era progress
planned_starts era used asked progress whole planned =
    let of = planned_of_table era used asked progress whole planned in
    record { era = of.era; start = of.goes.start; leads = of.goes.leads; first = of.goes.first }

-- all eras of it meet
pub planned_meets : (era : Era) (used : List ℕ) (asked : Asked) (progress : Progress) → IsWhole era → IsPlanned era used asked (Ok progress) → NeighboursMeet (progress.era ∷ eras_in progress.left)
planned_meets era used asked progress whole planned = (planned_of_table era used asked progress whole planned).goes.meets

-- ---- who is a member
-- the acceptor is a member of one of the eras
abbrev pub IsMemberOfOne : List Era → ℕ → Type 0
IsMemberOfOne [] acceptor = ⊥
IsMemberOfOne (era ∷ later) acceptor = (has_member (union_of era.prep era.acc) acceptor ≡ true) ⊎ IsMemberOfOne later acceptor

-- a set that has all who prepare and all who accept has all members
has_both : (prep acc all : List ℕ) (acceptor : ℕ) → IsWithin prep all → IsWithin acc all → has_member (union_of prep acc) acceptor ≡ true → has_member all acceptor ≡ true
has_both prep acc all acceptor prepares accepts member =
    let small = member_low (union_of prep acc) acceptor (IsMemberSet-members_where (λ n. has_member prep n || has_member acc n)) member in
    elim (or_cases (has_member prep acceptor) (has_member acc acceptor) (members_where_tells (λ n. has_member prep n || has_member acc n) acceptor member)) [
      | inl first ↦ prepares.all acceptor small first
      | inr second ↦ accepts.all acceptor small second
    ]

-- with an era entered at once, and with one between
once_within : (all prep acc : List ℕ) (number : ℕ) (acceptor : ℕ) (settled : Bool) → IsWithin prep all → IsWithin acc all
    → IsMemberOfOne (eras_in ((if settled then [] else Settle ∷ []) ++ Enter (era_of_majorities number prep acc) ∷ [])) acceptor → has_member all acceptor ≡ true
once_within all prep acc number acceptor true prepares accepts (inl member) = has_both prep acc all acceptor prepares accepts member
once_within all prep acc number acceptor false prepares accepts (inl member) = has_both prep acc all acceptor prepares accepts member
once_within all prep acc number acceptor true prepares accepts (inr none) = absurd none
once_within all prep acc number acceptor false prepares accepts (inr none) = absurd none

twice_within : (all prep acc last : List ℕ) (number later : ℕ) (acceptor : ℕ) (settled : Bool) → IsWithin prep all → IsWithin acc all → IsWithin last all
    → IsMemberOfOne (eras_in ((if settled then [] else Settle ∷ []) ++ Enter (era_of_majorities number prep acc) ∷ Settle ∷ Enter (majority_era later last) ∷ [])) acceptor → has_member all acceptor ≡ true
twice_within all prep acc last number later acceptor true prepares accepts ends (inl member) = has_both prep acc all acceptor prepares accepts member
twice_within all prep acc last number later acceptor false prepares accepts ends (inl member) = has_both prep acc all acceptor prepares accepts member
twice_within all prep acc last number later acceptor true prepares accepts ends (inr (inl member)) = has_both last last all acceptor ends ends member
twice_within all prep acc last number later acceptor false prepares accepts ends (inr (inl member)) = has_both last last all acceptor ends ends member
twice_within all prep acc last number later acceptor true prepares accepts ends (inr (inr none)) = absurd none
twice_within all prep acc last number later acceptor false prepares accepts ends (inr (inr none)) = absurd none

join_within : (era : Era) (id acceptor : ℕ) → IsMemberOfOne (eras_in (join_steps era id)) acceptor → has_member (with_member era.prep id) acceptor ≡ true
join_within era id acceptor = by_parity (length era.prep % 2 == 1)
  where
    more : List ℕ
    more = with_member era.prep id

    by_parity : (odd : Bool) → IsMemberOfOne (eras_in (if odd then settle_first era ++ Enter (era_of_majorities (era.number + 1) era.prep more) ∷ Settle ∷ Enter (majority_era (era.number + 2) more) ∷ [] else (settle_first era ++ Enter (majority_era (era.number + 1) more) ∷ []))) acceptor
        → has_member more acceptor ≡ true
    by_parity true = twice_within more era.prep more more (era.number + 1) (era.number + 2) acceptor (era.number == 0) (IsWithin-with_member era.prep id) (IsWithin-same more) (IsWithin-same more)
    by_parity false = once_within more more more (era.number + 1) acceptor (era.number == 0) (IsWithin-same more) (IsWithin-same more)

leave_within : (era : Era) (id acceptor : ℕ) → IsMemberOfOne (eras_in (leave_steps era id)) acceptor → has_member era.prep acceptor ≡ true
leave_within era id acceptor = by_parity (length era.prep % 2 == 0)
  where
    less : List ℕ
    less = without_member era.prep id

    by_parity : (even : Bool) → IsMemberOfOne (eras_in (if even then settle_first era ++ Enter (era_of_majorities (era.number + 1) less era.prep) ∷ Settle ∷ Enter (majority_era (era.number + 2) less) ∷ [] else (settle_first era ++ Enter (majority_era (era.number + 1) less) ∷ []))) acceptor
        → has_member era.prep acceptor ≡ true
    by_parity true = twice_within era.prep less era.prep less (era.number + 1) (era.number + 2) acceptor (era.number == 0) (IsWithin-without_member era.prep id) (IsWithin-same era.prep) (IsWithin-without_member era.prep id)
    by_parity false = once_within era.prep less less (era.number + 1) acceptor (era.number == 0) (IsWithin-without_member era.prep id) (IsWithin-without_member era.prep id)

-- with new sizes the members stay
resize_within : (era : Era) (p a acceptor : ℕ) → IsMemberOfOne (eras_in (resize_steps era p a)) acceptor → has_member era.prep acceptor ≡ true
resize_within era p a acceptor = by_sizes (meets_sizes era p a) (era.number == 0)
  where
    both : has_member (union_of era.prep era.prep) acceptor ≡ true → has_member era.prep acceptor ≡ true
    both member = has_both era.prep era.prep era.prep acceptor (IsWithin-same era.prep) (IsWithin-same era.prep) member

    by_sizes : (meet settled : Bool)
        → IsMemberOfOne (eras_in (if meet then (if settled then [] else Settle ∷ []) ++ Enter (sized_era (era.number + 1) era.prep p a) ∷ []
        else ((if settled then [] else Settle ∷ []) ++ Enter (sized_era (era.number + 1) era.prep (greater_of era.need_prep p) (greater_of era.need_acc a)) ∷ Settle ∷ Enter (sized_era (era.number + 2) era.prep p a) ∷ []))) acceptor
        → has_member era.prep acceptor ≡ true
    by_sizes true true (inl member) = both member
    by_sizes true false (inl member) = both member
    by_sizes true true (inr none) = absurd none
    by_sizes true false (inr none) = absurd none
    by_sizes false true (inl member) = both member
    by_sizes false false (inl member) = both member
    by_sizes false true (inr (inl member)) = both member
    by_sizes false false (inr (inl member)) = both member
    by_sizes false true (inr (inr none)) = absurd none
    by_sizes false false (inr (inr none)) = absurd none

-- a member of an era that a change leads to: it is one already, or it joins by that change and was none before
pub data IsMemberThen (era : Era) (used : List ℕ) (asked : Asked) (acceptor : ℕ) : Type 0 where
  already : has_member era.prep acceptor ≡ true → IsMemberThen era used asked acceptor
  joins : asked ≡ Join acceptor → has_member used acceptor ≡ false → acceptor < 64 → IsMemberThen era used asked acceptor

pub planned_members : (era : Era) (used : List ℕ) (asked : Asked) (progress : Progress) → IsWhole era → IsPlanned era used asked (Ok progress) → (acceptor : ℕ) → IsMemberOfOne (eras_in progress.left) acceptor → IsMemberThen era used asked acceptor
planned_members era used asked progress whole (plans.joins id asked_so planned) acceptor member =
    let within = join_within era id acceptor (subst (λ (p : Progress). IsMemberOfOne (eras_in p.left) acceptor) (has_joined era used id progress planned).is member) in
    elim (or_cases (acceptor == id) (has_member era.prep acceptor) (members_where_tells (λ n. n == id || has_member era.prep n) acceptor within)) [
      | inl same ↦ subst (IsMemberThen era used asked) (sym (nat_same same)) (joins asked_so (has_joined era used id progress planned).unused
          (subst (λ (n : ℕ). n < 64) (nat_same same) (member_low (with_member era.prep id) acceptor (IsMemberSet-members_where (λ n. n == id || has_member era.prep n)) within)))
      | inr is ↦ already is
    ]
planned_members era used asked progress whole (plans.leaves id asked_so planned) acceptor member =
    already (leave_within era id acceptor (subst (λ (p : Progress). IsMemberOfOne (eras_in p.left) acceptor) (has_left era id progress planned).is member))
planned_members era used asked progress whole (plans.resizes p a asked_so planned) acceptor member =
    already (resize_within era p a acceptor (subst (λ (of : Progress). IsMemberOfOne (eras_in of.left) acceptor) (has_resized era p a progress planned).is member))

-- ---- one era after another
abbrev pub AreNext : Era → List Era → Type 0
AreNext base [] = ⊤
AreNext base (next ∷ later) = Follows base next × AreNext next later

path_next : (era : Era) (left : List PlanStep) → IsPath era left → AreNext era (eras_in left)
path_next era [] is = tt
path_next era (Settle ∷ Enter next ∷ left) is = (is.1, path_next next left is.2)
path_next era (Settle ∷ []) is = absurd is
path_next era (Settle ∷ Settle ∷ left) is = absurd is
path_next era (Settle ∷ Finished ∷ left) is = absurd is
path_next era (Enter next ∷ left) is = absurd is
path_next era (Finished ∷ left) is = absurd is

pub start_next : (era : Era) (left : List PlanStep) → IsStart era left → AreNext era (eras_in left)
start_next era (Enter next ∷ left) start = (start.0, path_next next left start.1)
start_next era [] start = tt
start_next era (Settle ∷ left) start = path_next era (Settle ∷ left) start
start_next era (Finished ∷ left) start = absurd start
