-- How many keys a change of membership has proposed anew: as many as calls of caller 0 were answered done on its way.
use Rattle.std.specs.Prelude.{◌≡◌, ⊤, ℕ, ◌+◌, ◌-◌, ◌<◌, ◌≤◌, ◌^◌}
use Rattle.cas_record.specs.declared.mark.Mark.{Mark}
use Rattle.cas_record.specs.declared.mark.Mark.TheVariants.{EraEntered}
use Rattle.cas_record.specs.declared.operator.OpAnswer.{OpAnswer}
use Rattle.cas_record.specs.declared.operator.OpAnswer.TheVariants as told
use Rattle.cas_model.specs.View.{View}
use Rattle.cas_world.specs.Eras.Plans.{rescanned_of}
use Rattle.cas_board_steps.specs.Mine.{mine, done_calls}

-- the count stands still there
abbrev pub most_counted : ℕ
most_counted = 2 ^ 32 - 1

-- While calls went from so many that are done to so many, a count rose from one number to another: by one for each of them, and where it stands
-- still, by no more.
pub record HasRisen (before done done_then count : ℕ) : Type 0 where
  pub no_more : count + done ≤ before + done_then
  pub each : count < most_counted → count + done ≡ before + done_then

-- it has risen by the calls of caller 0 that were answered done from the earlier view to the later one
abbrev pub CountsTo : {S V : Type 0} → ℕ → View S V → View S V → Type 0
CountsTo count old new = HasRisen (rescanned_of old.council.plan) (done_calls (mine 0 old.marks)) (done_calls (mine 0 new.marks)) count

-- what is told at the end of the change is its count; until then it is kept
abbrev pub count_told : OpAnswer → ℕ → ℕ
count_told (told.Joined id era rescanned) kept = rescanned
count_told (told.Left id era rescanned) kept = rescanned
count_told (told.Resized need_prep need_acc era rescanned) kept = rescanned
count_told other kept = kept

-- at its end none is kept
abbrev pub LeavesNone : OpAnswer → ℕ → Type 0
LeavesNone (told.Joined id era rescanned) kept = kept ≡ 0
LeavesNone (told.Left id era rescanned) kept = kept ≡ 0
LeavesNone (told.Resized need_prep need_acc era rescanned) kept = kept ≡ 0
LeavesNone other kept = ⊤

abbrev pub TellsCount : {S V : Type 0} → OpAnswer → View S V → View S V → Type 0
TellsCount told old new = CountsTo (count_told told (rescanned_of new.council.plan)) old new × LeavesNone told (rescanned_of new.council.plan)

-- proposers may enter eras on the way of a call that makes such marks, as they do for a change of membership alone
abbrev pub EntersEras : (Mark → Type 0) → Type 0
EntersEras such = (proposer era : ℕ) → such (EraEntered proposer era)
