-- The course of a cluster through its eras: which era each proposer works in, the change of membership that is under way, and who was
-- marked as having entered which era.
use Rattle.std.specs.Prelude.{◌≡◌, ◌⊎◌, true, false, ℕ, suc, ◌+◌, ◌<◌, ◌≤◌, ◌==◌, if◌then◌else◌, List, [], ◌∷◌, length, Option, None, Some, Contains}
use Rattle.cas_ballot.specs.Members.{has_member, union_of, IsMemberSet}
use Rattle.cas_members.specs.declared.plan.PlanStep.{PlanStep}
use Rattle.cas_members.specs.declared.plan.PlanStep.TheVariants.{Settle, Enter}
use Rattle.cas_members.specs.Plan.{HasOneSet, eras_in}
use Rattle.cas_quorum.specs.declared.era.Era.{Era}
use Rattle.cas_quorum.specs.Era.{IsSized, NeighboursMeet}
use Rattle.cas_record.specs.declared.mark.Mark.{Mark}
use Rattle.cas_record.specs.declared.mark.Mark.TheVariants.{EraEntered}
use Rattle.cas_record.specs.declared.operator.Asked.{Asked}
use Rattle.cas_record.specs.declared.operator.Asked.TheVariants.{Join, Leave, Resize}
use Rattle.cas_record.specs.Logs.Lawful.{Cluster}
use Rattle.cas_model.specs.Council.{PlanView}
use Rattle.cas_model.specs.Parties.{IsEraOf}
use Rattle.cas_model.specs.View.{View, era_in}

-- ---- what is seen of it
-- a proposer entered an era
pub record EraEntry : Type 0 where
  pub proposer : ℕ
  pub era : ℕ

-- as the marks tell, in their order
abbrev pub entries_in : List Mark → List EraEntry
entries_in [] = []
entries_in (EraEntered proposer era ∷ marks) = record { proposer = proposer; era = era } ∷ entries_in marks
entries_in (other ∷ marks) = entries_in marks

pub record Course : Type 0 where
  pub last_proposer : ℕ
  -- the era of each proposer, at the place of its number
  pub eras : List Era
  pub plan : Option PlanView
  pub entries : List EraEntry

abbrev pub course_of : {S V : Type 0} → View S V → Course
course_of view = record { last_proposer = view.last_proposer; eras = view.eras; plan = view.council.plan; entries = entries_in view.marks }

-- ---- its parts
-- the era that is to be entered next, where the first step that is left is to enter one
abbrev pub entering : List PlanStep → Option Era
entering (Enter era ∷ later) = Some era
entering other = None

abbrev pub next_era : Option PlanView → Option Era
next_era None = None
next_era (Some plan) = entering plan.progress.left

-- the era that all entered last
abbrev pub base_of : Option PlanView → List Era → Era
base_of None eras = era_in eras 0
base_of (Some plan) eras = plan.progress.era

abbrev pub base_era : Course → Era
base_era course = base_of course.plan course.eras

-- the proposers below this number are marked as in the next one
abbrev pub entered_by : Option PlanView → ℕ
entered_by None = 0
entered_by (Some plan) = plan.entered

-- the eras that are to be entered yet
abbrev pub later_of : Option PlanView → List Era
later_of None = []
later_of (Some plan) = eras_in plan.progress.left

-- a proposer whose vault shows the number of the next era works in that era, and any other works where it worked
abbrev pub shown_era : Option Era → Era → ℕ → Era
shown_era None era number = era
shown_era (Some next) era number = if next.number == number then next else era

abbrev pub era_shown : Option PlanView → Era → ℕ → Era
era_shown plan era number = shown_era (next_era plan) era number

-- ---- eras that follow each other
-- no more than nine members prepare or accept
abbrev pub HasFewMembers : Era → Type 0
HasFewMembers era = length (union_of era.prep era.acc) ≤ 9

-- the same members prepare and accept, and their quorums meet
pub record IsWhole (era : Era) : Type 0 where
  pub one_set : HasOneSet era
  pub member_set : IsMemberSet era.prep
  pub some : 0 < length era.prep
  pub few : HasFewMembers era

-- it has the next number, and members that prepare and that accept, in quorums of sizes that they have
pub record Follows (era next : Era) : Type 0 where
  pub number : next.number ≡ suc era.number
  pub prep_set : IsMemberSet next.prep
  pub acc_set : IsMemberSet next.acc
  pub some_prep : 0 < length next.prep
  pub some_acc : 0 < length next.acc
  pub sized : IsSized next
  pub few : HasFewMembers next

-- the steps settle an era, which is not the first, before they enter the one that follows it, and end in one that is whole
abbrev pub IsPath : Era → List PlanStep → Type 0
IsPath era [] = IsWhole era
IsPath era (Settle ∷ Enter next ∷ later) = (0 < era.number) × Follows era next × IsPath next later
IsPath era other = ⊥

-- the first era may be settled already; where no step is left, it is not the era any more
abbrev pub IsStart : Era → List PlanStep → Type 0
IsStart era [] = (0 < era.number) × IsWhole era
IsStart era (Enter next ∷ later) = Follows era next × IsPath next later
IsStart era left = IsPath era left

-- ---- where a change of membership or of sizes ends
-- the last of the eras that are to be entered, or the one that was
abbrev pub last_era : Era → List Era → Era
last_era era [] = era
last_era era (next ∷ later) = last_era next later

-- it is what was asked for: the acceptor is one of those who prepare, or none of them, or quorums have these sizes
abbrev pub IsAskedEra : Asked → Era → Type 0
IsAskedEra (Join id) era = id < 64 → has_member era.prep id ≡ true
IsAskedEra (Leave id) era = has_member era.prep id ≡ false
IsAskedEra (Resize need_prep need_acc) era = (era.need_prep ≡ need_prep) × (era.need_acc ≡ need_acc)
IsAskedEra other era = ⊥

-- ---- what is true of it
-- with no change under way all proposers work in one era, which is whole
pub record IsSettled (course : Course) : Type 0 where
  pub same : (id : ℕ) → id ≤ course.last_proposer → era_in course.eras id ≡ era_in course.eras 0
  pub whole : IsWhole (era_in course.eras 0)

-- the proposer works in the era that all entered last, or in the next one; who is marked as in that works there
pub data WorksIn (plan : PlanView) (id : ℕ) (era : Era) : Type 0 where
  not_yet : plan.entered ≤ id → era ≡ plan.progress.era → WorksIn plan id era
  entered : entering plan.progress.left ≡ Some era → WorksIn plan id era

-- With one, its steps are a path from the era that all entered last to one as it was asked for, and quorums of these eras meet. Some
-- proposers may work in the next one, but not all are marked so.
pub record EraIsMoving (course : Course) (plan : PlanView) : Type 0 where
  pub start : IsStart plan.progress.era plan.progress.left
  pub leads : IsAskedEra plan.asked (last_era plan.progress.era (eras_in plan.progress.left))
  pub meets : NeighboursMeet (plan.progress.era ∷ eras_in plan.progress.left)
  pub some_left : plan.entered ≤ course.last_proposer
  pub none_entered : entering plan.progress.left ≡ None → plan.entered ≡ 0
  pub each : (id : ℕ) → id ≤ course.last_proposer → WorksIn plan id (era_in course.eras id)

abbrev pub CourseIsUnderWay : Course → Option PlanView → Type 0
CourseIsUnderWay course None = IsSettled course
CourseIsUnderWay course (Some plan) = EraIsMoving course plan

-- All are marked as in the last era that all entered, unless it is the first; and in the next one just those that the change has led there.
pub record AreEntries (course : Course) : Type 0 where
  pub all : 0 < (base_era course).number → (id : ℕ) → id ≤ course.last_proposer → Contains course.entries (record { proposer = id; era = (base_era course).number })
  pub led : (id : ℕ) → id < entered_by course.plan → Contains course.entries (record { proposer = id; era = suc (base_era course).number })
  pub none_beyond : (entry : EraEntry) → Contains course.entries entry → (entry.era ≤ (base_era course).number) ⊎ ((entry.era ≡ suc (base_era course).number) × (entry.proposer < entered_by course.plan))
  pub counted : (base_era course).number ≤ length course.entries

pub record IsCourse (course : Course) : Type 0 where
  pub few : course.last_proposer ≤ 16
  pub places : length course.eras ≡ 17
  pub under_way : CourseIsUnderWay course course.plan
  pub sized : (id : ℕ) → id ≤ course.last_proposer → IsSized (era_in course.eras id)
  pub entries : AreEntries course

-- ---- in the cluster
-- it has no quorum and no member in that era
pub record IsNoEra (cluster : Cluster) (era : ℕ) : Type 0 where
  pub members : cluster.members era ≡ []
  pub prepares : (by : List ℕ) → cluster.prepares era by ≡ false
  pub accepts : (by : List ℕ) → cluster.accepts era by ≡ false

-- the eras that are to be entered are the cluster's, and it has none beyond
pub record IsCourseOf (cluster : Cluster) (course : Course) : Type 0 where
  pub is_course : IsCourse course
  pub later : (era : Era) → Contains (later_of course.plan) era → IsEraOf cluster era
  pub none_beyond : (number : ℕ) → (base_era course).number + length (later_of course.plan) < number → IsNoEra cluster number
