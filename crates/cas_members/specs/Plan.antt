-- The plans by which acceptors join and leave.
use Rattle.std.specs.Prelude.{◌≡◌, ⊤, ℕ, suc, ◌+◌, ◌%◌, ◌==◌, ◌&&◌, Bool, nat_le, if◌then◌else◌, List, [], ◌∷◌, ◌++◌, length, All, Option, Result, Ok, Err, option_to_list}
use Rattle.cas_ballot.specs.Members.{has_member, with_member, without_member}
use Rattle.cas_quorum.specs.declared.era.Era.{Era}
use Rattle.cas_quorum.specs.declared.fault.PlanFault.{PlanFault}
use Rattle.cas_quorum.specs.declared.fault.PlanFault.TheVariants.{AlreadyIn, NotIn, IdUsed, TooMany, Last, BadSize, NotMajority}
use Rattle.cas_quorum.specs.Quorum.{majority_of}
use Rattle.cas_quorum.specs.Era.{era_of_majorities, majority_era, sized_era, IsSized, Meet, NeighboursMeet}
use Rattle.cas_members.specs.declared.plan.TheConstants.{MOST_MEMBERS}
use Rattle.cas_members.specs.declared.plan.PlanStep.{PlanStep}
use Rattle.cas_members.specs.declared.plan.PlanStep.TheVariants.{Settle, Enter, Finished}
use Rattle.cas_members.specs.Steps.{Progress}

-- ---- the table of plans
-- an era above 0 is settled before it is left
abbrev pub settle_first : Era → List PlanStep
settle_first era = if era.number == 0 then [] else Settle ∷ []

-- an acceptor joins an odd number of members in two steps, by an era in which it accepts alone, and an even number in one
abbrev pub join_steps : Era → ℕ → List PlanStep
join_steps era id =
    if length era.prep % 2 == 1
    then settle_first era ++ Enter (era_of_majorities (era.number + 1) era.prep (with_member era.prep id)) ∷ Settle ∷ Enter (majority_era (era.number + 2) (with_member era.prep id)) ∷ []
    else (settle_first era ++ Enter (majority_era (era.number + 1) (with_member era.prep id)) ∷ [])

-- a member leaves an even number in two steps, by an era in which it accepts alone, and an odd number in one
abbrev pub leave_steps : Era → ℕ → List PlanStep
leave_steps era id =
    if length era.prep % 2 == 0
    then settle_first era ++ Enter (era_of_majorities (era.number + 1) (without_member era.prep id) era.prep) ∷ Settle ∷ Enter (majority_era (era.number + 2) (without_member era.prep id)) ∷ []
    else (settle_first era ++ Enter (majority_era (era.number + 1) (without_member era.prep id)) ∷ [])

-- each size is the majority of the members
abbrev pub has_majorities : Era → Bool
has_majorities era = era.need_prep == majority_of (length era.prep) && era.need_acc == majority_of (length era.prep)

-- a join is refused by the first cause that holds, and is planned by the table otherwise
abbrev pub join_of : Era → List ℕ → ℕ → Result Progress PlanFault
join_of era used id =
    if has_member era.prep id then Err AlreadyIn
    else if has_member used id then Err IdUsed
    else if nat_le MOST_MEMBERS (length era.prep) then Err TooMany
    else if has_majorities era then Ok (record { era = era; left = join_steps era id })
    else Err NotMajority

abbrev pub leave_of : Era → ℕ → Result Progress PlanFault
leave_of era id =
    if has_member era.prep id
    then (if nat_le (length era.prep) 1 then Err Last
    else if has_majorities era then Ok (record { era = era; left = leave_steps era id })
    else Err NotMajority)
    else Err NotIn

-- ---- new sizes
abbrev pub greater_of : ℕ → ℕ → ℕ
greater_of a b = if nat_le a b then b else a

-- each size is from 1 to the number of members, and together they are above it
abbrev pub are_sizes : ℕ → ℕ → ℕ → Bool
are_sizes members need_prep need_acc =
    nat_le 1 need_prep && nat_le need_prep members && nat_le 1 need_acc && nat_le need_acc members && nat_le (suc members) (need_prep + need_acc)

-- quorums of these sizes meet those of the era, phase by phase
abbrev pub meets_sizes : Era → ℕ → ℕ → Bool
meets_sizes era need_prep need_acc =
    nat_le (suc (length era.prep)) (need_prep + era.need_acc) && nat_le (suc (length era.prep)) (era.need_prep + need_acc)

-- sizes that meet those of the era come at once, and others behind an era in which each size is the greater of the two
abbrev pub resize_steps : Era → ℕ → ℕ → List PlanStep
resize_steps era need_prep need_acc =
    if meets_sizes era need_prep need_acc
    then settle_first era ++ Enter (sized_era (era.number + 1) era.prep need_prep need_acc) ∷ []
    else (settle_first era ++ Enter (sized_era (era.number + 1) era.prep (greater_of era.need_prep need_prep) (greater_of era.need_acc need_acc))
    ∷ Settle ∷ Enter (sized_era (era.number + 2) era.prep need_prep need_acc) ∷ [])

abbrev pub resize_of : Era → ℕ → ℕ → Result Progress PlanFault
resize_of era need_prep need_acc =
    if are_sizes (length era.prep) need_prep need_acc then Ok (record { era = era; left = resize_steps era need_prep need_acc }) else Err BadSize

-- ---- what is next
abbrev pub next_of : List PlanStep → PlanStep
next_of [] = Finished
next_of (step ∷ later) = step

abbrev pub IsEnter : PlanStep → Type 0
IsEnter Settle = ⊥
IsEnter (Enter era) = ⊤
IsEnter Finished = ⊥

-- ---- what is true of every plan
-- the same members prepare and accept, and their quorums meet
pub record HasOneSet (era : Era) : Type 0 where
  pub same : era.acc ≡ era.prep
  pub sized : IsSized era
  pub meets : Meet era era

-- in the last era the same members prepare and accept
abbrev pub EndsWhole : Era → List Era → Type 0
EndsWhole era [] = era.prep ≡ era.acc
EndsWhole era (next ∷ later) = EndsWhole next later

-- from this era on, these eras are entered
pub record IsLawfulCourse (era : Era) (later : List Era) : Type 0 where
  pub chain : NeighboursMeet (era ∷ later)
  pub sized : All IsSized later
  pub whole : EndsWhole era later

-- the era of the half step, where there is one, and the last
abbrev pub eras_of : Option Era → Option Era → List Era
eras_of half whole = option_to_list half ++ option_to_list whole

-- the eras that the steps enter
abbrev pub eras_in : List PlanStep → List Era
eras_in [] = []
eras_in (Settle ∷ later) = eras_in later
eras_in (Enter era ∷ later) = era ∷ eras_in later
eras_in (Finished ∷ later) = eras_in later

-- each era that is entered meets itself and the one before it, in sizes that its sets have, and in the last one the same members prepare
-- and accept
abbrev pub IsLawfulPlan : Progress → Type 0
IsLawfulPlan plan = IsLawfulCourse plan.era (eras_in plan.left)
