-- What a hold does for a change of membership, and what of caller 0's own part tells of it.
use Rattle.std.specs.Prelude.{◌≡◌, ⊤, ℕ, Bool, true, false, List, Option, None, Some}
use Rattle.cas_record.specs.declared.mark.Mark.{Mark}
use Rattle.cas_record.specs.declared.mark.Mark.TheVariants.{Begun, Ended, Told}
use Rattle.cas_record.specs.declared.operator.Asked.{Asked}
use Rattle.cas_record.specs.declared.operator.Asked.TheVariants as asked
use Rattle.cas_record.specs.declared.operator.OpAnswer.{OpAnswer}
use Rattle.cas_record.specs.declared.operator.OpAnswer.TheVariants as told
use Rattle.cas_world_calls.specs.Council.{due_key}
use Rattle.cas_model.specs.Council.{MemberPlace, NextKeys, ExchangeView, PlanView, Council}
use Rattle.cas_model.specs.Collection.Step.{keep_always}
use Rattle.cas_board_steps.specs.Calls.Conflicts.{is_conflict}
use Rattle.cas_board_steps.specs.Mine.{Wanted, wants}
use Rattle.cas_board_steps.specs.Calls.Open.{HasOpen, beside_in, rounds_in, is_met_in, rounds_after}
use Rattle.cas_board_steps.specs.Calls.Stages.{tells_met}
use Rattle.cas_board_steps.specs.declared.changes.Stage.{Stage}
use Rattle.cas_board_steps.specs.declared.membership.Listing.{Listing}
use Rattle.cas_board_steps.specs.declared.membership.Listing.TheVariants as listing
use Rattle.cas_board_steps.specs.declared.membership.Rescanning.{Rescanning}
use Rattle.cas_board_steps.specs.declared.membership.Rescanning.TheVariants as rescanning
use Rattle.cas_board_steps.specs.declared.membership.MembersStep.{MembersStep}
use Rattle.cas_board_steps.specs.declared.membership.MembersStep.TheVariants as step
use Rattle.cas_board_steps.specs.Exchanges.Orders.{new_order}
use Rattle.cas_board_steps.specs.OwnParts.{council_part}

-- ---- what is open
-- the operator's call for a change of membership is open and was told nothing, and the change is under way
pub record HasPlan (asked : Asked) (own : List ℕ) : Type 0 where
  pub council : Council
  pub is : own ≡ council_part council
  pub order : council.order ≡ Some (new_order asked)
  pub unasked : council.exchange ≡ None
  pub plan : PlanView
  pub is_plan : council.plan ≡ Some plan
  pub is_for : plan.asked ≡ asked

-- members are asked for their next keys, for the change
pub record HasListing (asked : Asked) (own : List ℕ) : Type 0 where
  pub council : Council
  pub is : own ≡ council_part council
  pub order : council.order ≡ Some (new_order asked)
  pub exchange : ExchangeView
  pub is_open : council.exchange ≡ Some exchange
  pub places : List MemberPlace
  pub question : exchange.question ≡ NextKeys places
  pub plan : PlanView
  pub is_plan : council.plan ≡ Some plan
  pub is_for : plan.asked ≡ asked

-- this key is due
pub record KeyIsDue (asked : Asked) (key own : List ℕ) : Type 0 where
  pub has_plan : HasPlan asked own
  pub due : due_key has_plan.plan ≡ Some key

-- and caller 0's call of that number proposes it anew
pub record HasRescan (asked : Asked) (call : ℕ) (key own : List ℕ) : Type 0 where
  pub called : HasOpen call own
  pub due : KeyIsDue asked key (beside_in own)

-- ---- its rounds
-- it has had one round, which no conflict has ended
pub record IsFirstRound (stage : Stage) (own : List ℕ) : Type 0 where
  pub first : rounds_in own ≡ 1
  pub unmet : is_met_in own ≡ false
  pub fresh : tells_met stage ≡ false

-- A hold leaves it open: its rounds are those that it has once it goes on, and its stage tells whether a conflict ended the last one, behind
-- which another may follow.
pub record KeepsRounds (may_repeat : Bool) (was own : List ℕ) (stage : Stage) : Type 0 where
  pub rounds : rounds_in own ≡ rounds_after was
  pub met : is_met_in own ≡ tells_met stage
  pub repeats : is_met_in own ≡ true → may_repeat ≡ true

-- ---- what it marks
-- a call that it begins has the program that leaves its state as it is, none ends with a conflict, and the operator is told nothing yet
abbrev pub IsPlanMark : Mark → Type 0
IsPlanMark (Begun caller call key program) = program ≡ keep_always
IsPlanMark (Ended caller call rounds answer) = is_conflict answer ≡ false
IsPlanMark (Told asked answer) = ⊥
IsPlanMark other = ⊤

-- the same, but a call may end with a conflict once it has had so many rounds
abbrev pub IsRescanMark : ℕ → Mark → Type 0
IsRescanMark tries (Begun caller call key program) = program ≡ keep_always
IsRescanMark tries (Ended caller call rounds answer) = is_conflict answer ≡ true → rounds ≡ tries
IsRescanMark tries (Told asked answer) = ⊥
IsRescanMark tries other = ⊤

-- ---- what is told
-- it names the acceptor that was to join or to leave, or says why not
abbrev pub IsMembersAnswer : Asked → OpAnswer → Type 0
IsMembersAnswer what (told.Joined id era rescanned) = what ≡ asked.Join id
IsMembersAnswer what (told.Left id era rescanned) = what ≡ asked.Leave id
IsMembersAnswer what (told.Resized need_prep need_acc era rescanned) = what ≡ asked.Resize need_prep need_acc
IsMembersAnswer what (told.Refused fault) = ⊤
IsMembersAnswer what (told.Busy era) = ⊤
IsMembersAnswer what (told.ProposerDown proposer) = ⊤
IsMembersAnswer what (told.Stopped why) = ⊤
IsMembersAnswer what other = ⊥

-- ---- steps
-- what is open as a step begins, with what caller 0 asked for last
abbrev pub StandsAt : Asked → List ℕ → Option Wanted → MembersStep → Type 0
StandsAt what own wanted step.Next = HasPlan what own
StandsAt what own wanted (step.Lists waits) = HasListing what own
StandsAt what own wanted (step.Rescans rescan) = HasRescan what rescan.begun.call rescan.key own × (wanted ≡ Some (wants rescan.begun.call rescan.key keep_always)) × IsFirstRound rescan.begun.stage own

-- members are asked still, or the change goes on
abbrev pub IsListedTo : Asked → List ℕ → Listing → Type 0
IsListedTo what own (listing.Waits waits) = HasListing what own
IsListedTo what own listing.Over = HasPlan what own

-- the call is open still, or the change goes on
abbrev pub IsRescannedTo : Asked → ℕ → List ℕ → List ℕ → Rescanning → Type 0
IsRescannedTo what call key own (rescanning.Goes stage) = HasRescan what call key own
IsRescannedTo what call key own rescanning.Counted = HasPlan what own

-- while it is open its rounds are kept so
abbrev pub RoundsAreKept : Bool → List ℕ → List ℕ → Rescanning → Type 0
RoundsAreKept may_repeat was own (rescanning.Goes stage) = KeepsRounds may_repeat was own stage
RoundsAreKept may_repeat was own rescanning.Counted = ⊤
