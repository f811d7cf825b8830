-- How the steps of a change of membership lead on from one to the next.
use Rattle.std.proofs.Common.{◌≡◌, ◌≤◌, ℕ, true, Some, ◌∙◌, inl, inr, arith}
use Rattle.cas_world_calls.specs.Council.{due_in}
use Rattle.cas_world_calls.specs.declared.council.Gathered.{Gathered}
use Rattle.cas_protocol.specs.Protocol.{is_done}
use Rattle.cas_model.specs.Calls.Step.{Rescans}
use Rattle.cas_model.specs.Eras.Step.{StepEnterEra}
use Rattle.cas_model.specs.View.{Meaning, View}
use Rattle.cas_record.specs.declared.answer.Answer.{Answer}
use Rattle.cas_record.specs.declared.operator.Asked.{Asked}
use Rattle.cas_world.specs.Calls.Beginning.{HasNoCall}
use Rattle.cas_world.specs.Eras.Plans.{IsUnderWay}
use Rattle.casreg_script.specs.Exchanges.Exchanges.{HasListed, KeepsCalls}
use Rattle.casreg_script.specs.Eras.Membership.{TakesStep, steps_left}
use Rattle.casreg_script.specs.Exchanges.Orders.{ExchangeGoesOn, IsFree, KeepsIdle}
use Rattle.casreg_script.proofs.Exchanges.Asking.{has_gone_on, same_idle, both_idle, keeps_idle}
use Rattle.casreg_script.proofs.Eras.Entering.{EntersNextEra, enter_idle}
use Rattle.casreg_script.proofs.Calls.Keeping.{LeavesOthers, still_none}
use Rattle.casreg_script.proofs.Eras.Rescanning.{Rescanned, is_rescan, is_rescanned, goes_on}

-- what is so after each step that the operator's call goes on from
pub record GoesFrom {S V : Type 0} (old new : View S V) : Type 0 where
  pub under_way : (asked : Asked) → IsUnderWay old asked → IsUnderWay new asked
  pub no_more : steps_left new ≤ steps_left old
  pub free : IsFree new
  pub idle : KeepsIdle old new

pub same_goes : {S V : Type 0} (view : View S V) → IsFree view → GoesFrom view view
same_goes view free = record { under_way = λ asked was. was; no_more = omega arith; free = free; idle = same_idle view }

pub then_goes : {S V : Type 0} (old mid new : View S V) → GoesFrom old mid → GoesFrom mid new → GoesFrom old new
then_goes old mid new before after = record {
  under_way = λ asked was. after.under_way asked (before.under_way asked was);
  no_more = omega (arith, before.no_more, after.no_more);
  free = after.free;
  idle = both_idle old mid new before.idle after.idle;
}

pub goes_on_from : {S V : Type 0} (old new : View S V) (asked : Asked) → GoesFrom old new → IsUnderWay old asked → ExchangeGoesOn new
goes_on_from old new asked goes was = goes_on new asked (goes.under_way asked was)

-- a step that was taken before, or is to come
pub takes_from : {S V : Type 0} (old mid new : View S V) → GoesFrom old mid → TakesStep mid new → TakesStep old new
takes_from old mid new goes takes = elim takes [ inl less ↦ inl (omega (arith, less, goes.no_more)) | inr due ↦ inr due ]

-- ---- a change
pub change_idle : {S V : Type 0} (old new : View S V) (id : ℕ) → LeavesOthers old new id → HasNoCall new id → KeepsIdle old new
change_idle old new id leaves own = record { last_proposer = leaves.last_proposer; idle = still_none old new id leaves own }

pub rescanned_from : {S V : Type 0} (old new : View S V) (asked : Asked) (key : _) (answer : Answer) → IsUnderWay old asked → due_in old.council.plan ≡ Some key → is_done answer ≡ true → Rescans old.council 0 key answer new.council → Rescanned old new
rescanned_from old new asked key answer was due done anew = is_rescanned old new key answer (is_rescan old asked key was due) done anew

pub rescan_goes : {S V : Type 0} (old new : View S V) → IsFree old → Rescanned old new → KeepsIdle old new → GoesFrom old new
rescan_goes old new free so idle = record { under_way = so.under_way; no_more = so.no_more; free = record { quiet = so.exchange ∙ free.quiet; idle = idle.idle 0 free.idle }; idle = idle }

-- ---- a listing
pub list_goes : {S V : Type 0} (old new : View S V) (result : Gathered) → IsFree old → HasListed old result new → KeepsCalls old new → GoesFrom old new
list_goes old new result free listed calls =
    let on = has_gone_on old new result listed in
    let idle = keeps_idle old new calls in
    record { under_way = on.under_way; no_more = on.no_more; free = record { quiet = listed.over; idle = idle.idle 0 free.idle }; idle = idle }

-- ---- an era
pub enter_goes : {S V : Type 0} (m : Meaning S V) (old new : View S V) (proposer : ℕ) → IsFree old → ((asked : Asked) → IsUnderWay old asked → IsUnderWay new asked) → EntersNextEra old new → StepEnterEra m old proposer new → GoesFrom old new
enter_goes m old new proposer free under_way so by =
    let idle = enter_idle m old new proposer by in
    record { under_way = under_way; no_more = so.no_more; free = record { quiet = so.exchange ∙ free.quiet; idle = idle.idle 0 free.idle }; idle = idle }
