-- What a desk that goes down by its own disk, or moves on, leaves true of a cluster that nobody stops.
use Rattle.std.proofs.Common.{◌≡◌, ◌<◌, ℕ, Bool, true, false, List, Option, None, Some, refl, sym, ap, subst}
use Rattle.std.specs.Prelude.{is_some, option_map, slice_set, if◌then◌else◌}
use Rattle.cas_ballot.specs.Members.{has_member}
use Rattle.cas_base.specs.Faults.{Rose}
use Rattle.cas_proposer.specs.Desk.{DeskView}
use Rattle.cas_record.specs.declared.answer.Answer.{Answer}
use Rattle.cas_record.specs.declared.answer.Answer.TheVariants as answer
use Rattle.cas_record.specs.declared.answer.Cause.{Cause}
use Rattle.cas_record.specs.declared.answer.Cause.TheVariants as cause
use Rattle.cas_model.specs.Council.{ExchangeView, broken_off, crashed_in}
use Rattle.cas_model.specs.Stops.Step as stops
use Rattle.cas_model.specs.Stops.Step.{LeavesRound, GoesDown, closed_by, closed_by_crash, broken_off_view}
use Rattle.cas_model.specs.View.{Meaning, View, CallView, IsAt}
use Rattle.cas_model.proofs.Places.{at_set, some_is}
use Rattle.cas_board_world.specs.Blame.{Nobody, blame_by_answer, HasFailedAt}
use Rattle.cas_board_world.specs.Steady.{IsBlamedSince, IsFair, desk_faults, blame_by_exchange, blame_if_told}
use Rattle.cas_board_world.proofs.Parts.{rose_above, on_callers, on_council, on_desks}

-- the desk that changes so stays down only where it has failed, and whom its closed call blames has failed
pub record IsFairTurn {S V : Type 0} (m : Meaning S V) (old : View S V) (id : ℕ) (closed : CallView → CallView) (desk now : DeskView V) : Type 0 where
  pub stays : 0 < desk_faults m desk → 0 < desk_faults m now
  pub failed : now.down ≡ true → 0 < desk_faults m now
  pub call : (call : CallView) → IsFair m old.acceptors (slice_set old.desks id now) (blame_if_told id (closed call).told)

pub left_blamed : {S V : Type 0} {were : List ℕ} (m : Meaning S V) (DeskTurns : DeskView V → DeskView V → Type 0) (closed : CallView → CallView) (old : View S V) (id : ℕ) (new : View S V) → IsBlamedSince m were old
    → ((desk now : DeskView V) → IsAt old.desks id desk → DeskTurns desk now → IsFairTurn m old id closed desk now) → LeavesRound DeskTurns closed old id new → IsBlamedSince m were new
left_blamed {S} {V} {were} m DeskTurns closed old id new is fair (stops.idle desk now at none turns view) =
    subst (IsBlamedSince m were) (sym view) (on_desks m is id desk now at (fair desk now at turns).stays (fair desk now at turns).failed)
left_blamed {S} {V} {were} m DeskTurns closed old id new is fair (stops.closes desk now round of_call at some turns view) =
    subst (IsBlamedSince m were) (sym view) (on_callers m (on_desks m is id desk now at (fair desk now at turns).stays (fair desk now at turns).failed) id (record of_call.caller { call = Some (closed of_call.call) }) ((fair desk now at turns).call of_call.call))

-- ---- a desk moves on
pub moved_fair : {S V : Type 0} (m : Meaning S V) (old : View S V) (id : ℕ) (told : Answer) (why : Cause) (now : DeskView V) → blame_by_answer id told ≡ Nobody → blame_by_answer id (answer.Unsettled why) ≡ Nobody
    → (call : CallView) → IsFair m old.acceptors (slice_set old.desks id now) (blame_if_told id (closed_by told why call).told)
moved_fair {S} {V} m old id told why now first second call = by_proposed (is_some call.proposed)
  where
    by_proposed : (b : Bool) → IsFair m old.acceptors (slice_set old.desks id now) (blame_by_answer id (if b then answer.Unsettled why else told))
    by_proposed true = subst (IsFair m old.acceptors (slice_set old.desks id now)) (sym second) tt
    by_proposed false = subst (IsFair m old.acceptors (slice_set old.desks id now)) (sym first) tt

-- ---- a desk goes down
crash_fair : {S V : Type 0} (m : Meaning S V) (old : View S V) (id : ℕ) (desk now : DeskView V) → IsAt old.desks id desk → Rose (desk_faults m desk) (desk_faults m now) → IsFairTurn m old id closed_by_crash desk now
crash_fair {S} {V} m old id desk now at rose = record { stays = λ some. rose_above rose; failed = λ down. rose_above rose; call = λ call. by_proposed (is_some call.proposed) }
  where
    failed : HasFailedAt (desk_faults m) (slice_set old.desks id now) id
    failed = record { one = now; at = at_set old.desks id desk now at; failed = rose_above rose }

    by_proposed : (b : Bool) → IsFair m old.acceptors (slice_set old.desks id now) (blame_by_answer id (if b then answer.Unsettled cause.Crashed else answer.Crashed))
    by_proposed true = failed
    by_proposed false = failed

left_failed : {S V : Type 0} (m : Meaning S V) (DeskTurns : DeskView V → DeskView V → Type 0) (closed : CallView → CallView) (old : View S V) (id : ℕ) (new : View S V)
    → ((desk now : DeskView V) → DeskTurns desk now → Rose (desk_faults m desk) (desk_faults m now)) → LeavesRound DeskTurns closed old id new → HasFailedAt (desk_faults m) new.desks id
left_failed {S} {V} m DeskTurns closed old id new rose (stops.idle desk now at none turns view) =
    record { one = now; at = subst (λ (v : View S V). IsAt v.desks id now) (sym view) (at_set old.desks id desk now at); failed = rose_above (rose desk now turns) }
left_failed {S} {V} m DeskTurns closed old id new rose (stops.closes desk now round of_call at some turns view) =
    record { one = now; at = subst (λ (v : View S V). IsAt v.desks id now) (sym view) (at_set old.desks id desk now at); failed = rose_above (rose desk now turns) }

broken_fair : {S V : Type 0} (m : Meaning S V) (view : View S V) (exchange : Option ExchangeView) → HasFailedAt (desk_faults m) view.desks 0 → IsFair m view.acceptors view.desks (blame_by_exchange (option_map broken_off exchange))
broken_fair m view None failed = tt
broken_fair m view (Some exchange) failed = failed

broken_members : {S V : Type 0} (view : View S V) (exchange : Option ExchangeView) (now : ExchangeView) → option_map broken_off exchange ≡ Some now → (was : ExchangeView) × (exchange ≡ Some was) × (was.members ≡ now.members)
broken_members view None now is = absurd (cc is)
broken_members view (Some exchange) now is = (exchange, refl, ap (λ (e : ExchangeView). e.members) (some_is is))

broken_blamed : {S V : Type 0} {were : List ℕ} (m : Meaning S V) (view : View S V) → IsBlamedSince m were view → HasFailedAt (desk_faults m) view.desks 0 → IsBlamedSince m were (broken_off_view view)
broken_blamed {S} {V} {were} m view is failed =
    on_council m is (crashed_in view.council) is.order (broken_fair m view view.council.exchange failed) is.later
    (λ now same acceptor member.
    let was = broken_members view view.council.exchange now same in
    is.asked was.0 was.1 acceptor (subst (λ (l : List ℕ). has_member l acceptor ≡ true) (sym was.2) member))

-- by a fault of its disk, and it has failed then
pub down_blamed : {S V : Type 0} {were : List ℕ} (m : Meaning S V) (DeskTurns : DeskView V → DeskView V → Type 0) (old : View S V) (id : ℕ) (new : View S V) → IsBlamedSince m were old
    → ((desk now : DeskView V) → DeskTurns desk now → Rose (desk_faults m desk) (desk_faults m now)) → GoesDown DeskTurns old id new → IsBlamedSince m were new × HasFailedAt (desk_faults m) new.desks id
down_blamed {S} {V} {were} m DeskTurns old id new is rose (stops.of_client client leaves) =
    (left_blamed m DeskTurns closed_by_crash old id new is (λ desk now at turns. crash_fair m old id desk now at (rose desk now turns)) leaves, left_failed m DeskTurns closed_by_crash old id new rose leaves)
down_blamed {S} {V} {were} m DeskTurns old id new is rose (stops.of_operator middle operator leaves view) =
    let blamed = left_blamed m DeskTurns closed_by_crash old id middle is (λ desk now at turns. crash_fair m old id desk now at (rose desk now turns)) leaves in
    let failed = left_failed m DeskTurns closed_by_crash old id middle rose leaves in
    (subst (IsBlamedSince m were) (sym view) (broken_blamed m middle blamed (subst (HasFailedAt (desk_faults m) middle.desks) operator failed)), subst (λ (v : View S V). HasFailedAt (desk_faults m) v.desks id) (sym view) failed)
