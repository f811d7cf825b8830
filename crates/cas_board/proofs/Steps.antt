-- What caller 0's pass tells of the steps of a change of membership.
use Rattle.std.proofs.Common.{◌≡◌, ◌≢◌, ℕ, List, [], Option, refl, sym, subst, ◌∙◌, append-nil}
use Rattle.std.specs.Prelude.{Result, Ok, Err, IfOk}
use Rattle.cas_record.specs.declared.mark.Mark.{Mark}
use Rattle.cas_record.specs.declared.operator.Asked.{Asked}
use Rattle.cas_record.specs.declared.operator.OpAnswer.{OpAnswer}
use Rattle.cas_turn.specs.Seen.{HasSeenOwn}
use Rattle.cas_turn.specs.Sitting.{Sitting}
use Rattle.cas_board_steps.specs.Eras.Membership.{StandsAt}
use Rattle.cas_board_steps.specs.Mine.{Wanted, FrontGoesOn, mine, wanted_by}
use Rattle.cas_board_steps.specs.Owners.{owner_of}
use Rattle.cas_board_steps.specs.declared.changes.Stage.{Stage}
use Rattle.cas_board_steps.specs.declared.membership.MembersStep.{MembersStep}
use Rattle.cas_board_steps.specs.declared.membership.Rescanning.{Rescanning}
use Rattle.cas_board_steps.specs.declared.membership.Rescanning.TheVariants.{Goes, Counted}
use Rattle.cas_board_steps.proofs.Fronts.{wanted_seen}
use Rattle.cas_board.specs.Changes.{IsCounted}
use Rattle.cas_board.specs.Operations.{HasOperated, WasToldLast}
use Rattle.cas_board.proofs.Sittings.{counted_none}
use Rattle.cas_board.proofs.Operating.{HasRunOrder, order_goes_on, order_ends}

-- ---- one hold
-- the pass tells what stood when its hold was given back
pub stands_then : (asked : Asked) (result : Result MembersStep OpAnswer) (own own_then : List ℕ) (seen seen_then : List Mark) → own ≡ own_then → seen ≡ seen_then → IfOk result (StandsAt asked own_then (wanted_by 0 seen_then)) → IfOk result (StandsAt asked own (wanted_by 0 seen))
stands_then asked result own own_then seen seen_then same_own same_seen stands =
    subst (λ (o : List ℕ). IfOk result (StandsAt asked o (wanted_by 0 seen))) (sym same_own)
    (subst (λ (s : List Mark). IfOk result (StandsAt asked own_then (wanted_by 0 s))) (sym same_seen) stands)

-- ---- what caller 0 asked for last
pub wanted_held : (number : ℕ) (seen marks : List Mark) → number ≡ 0 → HasSeenOwn owner_of number seen marks → wanted_by 0 marks ≡ wanted_by 0 seen
wanted_held number seen marks is_first has = wanted_seen 0 seen marks (subst (λ (k : ℕ). HasSeenOwn owner_of k seen marks) is_first has)

pub wanted_still : (number : ℕ) (seen seen_then : List Mark) → number ≡ 0 → wanted_by number seen_then ≡ wanted_by number seen → wanted_by 0 seen_then ≡ wanted_by 0 seen
wanted_still number seen seen_then is_first same = subst (λ (k : ℕ). wanted_by k seen_then ≡ wanted_by k seen) is_first same

pub wanted_then : (result : Result Rescanning OpAnswer) (now now_then was was_then : Option Wanted) → now ≡ now_then → was_then ≡ was → IfOk result (λ to. to ≢ Counted → now_then ≡ was_then) → IfOk result (λ to. to ≢ Counted → now ≡ was)
wanted_then (Ok to) now now_then was was_then same_now same_was kept = λ goes. same_now ∙ kept goes ∙ same_was
wanted_then (Err told) now now_then was was_then same_now same_was kept = tt

pub not_counted : (to : Rescanning) (stage : Stage) → to ≡ Goes stage → to ≢ Counted
not_counted to stage goes = λ counted. cc (goes, counted)

-- ---- one step after another
module _ {A : Type 0} where
  -- a pass goes on from itself with no mark
  pub stays : (pass : Sitting A Mark) → FrontGoesOn pass.number pass.seen pass.seen []
  stays pass = record { begins = record { behind = []; whole = append-nil pass.seen }; own_marks = sym (append-nil (mine pass.number pass.seen)) }

  pub run_step : (such : Mark → Type 0) (harms harms_then : ℕ) (old new : Sitting A Mark) → HasRunOrder such harms harms_then old new → (lost : ℕ) × IsCounted lost harms harms_then × HasOperated such lost old new
  run_step such harms harms_then old new run = (run.lost, run.counted, run.operated)

  module _ (such : Mark → Type 0) (harms harms_then : ℕ) (old mid new : Sitting A Mark) (gave : mid ≡ record old { seen = mid.seen; own = mid.own }) (gave_then : new ≡ record mid { seen = new.seen; own = new.own }) (began : HasOperated such 0 old mid) where
    first_run : HasRunOrder such harms harms old mid
    first_run = record { pass = gave; lost = 0; counted = counted_none harms; operated = began }

    pub step_goes_on : (lost : ℕ) × IsCounted lost harms harms_then × HasOperated such lost mid new → (lost : ℕ) × IsCounted lost harms harms_then × HasOperated such lost old new
    step_goes_on then_ = run_step such harms harms_then old new (order_goes_on such harms harms old mid mid first_run refl then_.0 harms_then new (stays mid) then_.1 gave_then then_.2)

    pub step_tells : (asked : Asked) (told : OpAnswer) → (lost : ℕ) × IsCounted lost harms harms_then × WasToldLast asked such lost mid new told → (lost : ℕ) × IsCounted lost harms harms_then × WasToldLast asked such lost old new told
    step_tells asked told then_ = order_ends such harms harms old mid mid first_run refl then_.0 harms_then new (stays mid) then_.1 gave_then asked told then_.2
