-- How a desk moves on to the next era, or does not, and what that does to the whole.
use Rattle.std.proofs.Common.{◌≡◌, ◌+◌, ◌<◌, ◌≤◌, ◌∷◌, ◌++◌, ℕ, zero, suc, Bool, true, false, List, [], Option, None, Some, Result, refl, sym, ap, subst, ◌∙◌, inl, inr, arith, slice_set, length}
use Rattle.std.specs.Prelude.{⊤, ◌==◌, if◌then◌else◌, IfErr, IfSome, IsSome, IsErrOf, OnOk, is_some, map, option_map}
use Rattle.cas_acceptor.specs.Acceptor.{AcceptorView}
use Rattle.cas_base.specs.Faults.{Rose}
use Rattle.cas_disk.specs.Disk.{LeavesOnly}
use Rattle.cas_flow.specs.Flow.{FlowView, abandoned}
use Rattle.cas_proposer.specs.Desk.{DeskView, IsCrashed}
use Rattle.cas_proposer.specs.declared.round.Round.{Round}
use Rattle.cas_quorum.specs.declared.era.Era.{Era}
use Rattle.cas_record.specs.Book.{Book}
use Rattle.cas_record.specs.declared.answer.Answer.{Answer}
use Rattle.cas_record.specs.declared.answer.Answer.TheVariants as answer
use Rattle.cas_record.specs.declared.answer.Cause.TheVariants as cause
use Rattle.cas_record.specs.declared.mark.Mark.{Mark}
use Rattle.cas_record.specs.declared.mark.Mark.TheVariants.{EraEntered}
use Rattle.cas_record.specs.declared.operator.OpAnswer.{OpAnswer}
use Rattle.cas_record.specs.declared.operator.OpAnswer.TheVariants as op
use Rattle.cas_vault.specs.Vault.{disk_of, kept_of, kept_in_era, KeepsBeforeOrAfter, VaultStands, IsPast, counter_of}
use Rattle.cas_vault.specs.declared.kept.Kept.{Kept}
use Rattle.cas_vault.specs.declared.error.VaultError.{VaultError}
use Rattle.cas_vault.specs.declared.error.VaultError.TheVariants as error
use Rattle.cas_vault.proofs.Keeping.{same_kept}
use Rattle.cas_model.specs.Collection.State.{reserved_for_collection}
use Rattle.cas_model.specs.Council as cluster
use Rattle.cas_model.specs.Council.{OrderView, PlanView, reserved_by, reserved_for_order, silent_order, told_so, telling, hushed}
use Rattle.cas_model.proofs.Eras.Rescanning.{told_reserves}
use Rattle.cas_model.specs.Calls.Step.{most_marks}
use Rattle.cas_model.specs.Exchanges.Step.{told_view}
use Rattle.cas_model.specs.Calls.Desks.{EntersEra, FailsToEnter}
use Rattle.cas_model.specs.Eras.Step as plans
use Rattle.cas_model.specs.Eras.Step.{EntersNext, plan_after, rest_of}
use Rattle.cas_model.specs.Stops.Step as stops
use Rattle.cas_model.specs.Stops.Step.{LeavesRound, GoesDown, closed_by, closed_by_crash, broken_off_view}
use Rattle.cas_model.specs.View.{Meaning, View, CallView, CallerView, IsAt, reserved_in, reserved_of, reserved_in_all, with_desk}
use Rattle.cas_model.proofs.Places.{some_is}
use Rattle.cas_model.proofs.Safety.Parts.{reserved_set}
use Rattle.cas_world_calls.specs.Answers.{crash_answer, moved_answer}
use Rattle.cas_world_calls.specs.Call.{over}
use Rattle.cas_world_calls.specs.Council.{council_view}
use Rattle.cas_world.specs.Eras.Moving as moving
use Rattle.cas_world.specs.Eras.Moving.{LeavesDesk, Stays, MarksMove, closed_with, crash_at, abandoned_at}
use Rattle.cas_world.specs.Exchanges.Exchange.{WasToldOrder}
use Rattle.cas_world.specs.Eras.Plans.{IsUnderWay}
use Rattle.cas_world.proofs.Calls.Disks.{disks}
use Rattle.cas_world.specs.World.{view_of, call_view, caller_view}
use Rattle.cas_world_calls.specs.declared.call.Caller.{Caller}
use Rattle.cas_world_calls.specs.declared.call.OpenCall.{OpenCall}
use Rattle.cas_world_calls.specs.declared.council.Council.{Council}
use Rattle.cas_world.proofs.Calls.Callers.{at_map, map_set}
use Rattle.cas_world.proofs.Exchanges.Exchanges.{broken_reserved, hushed_reserves}
use Rattle.cas_world.proofs.Parts.{left_at, set_same}
use Rattle.cas_world.proofs.Stops.Stops.{HaveCopies, copies_idle, copies_still}

-- ---- vaults
module _ {V : Type 0} (tells : Type 0) (may_leave : V → List ℕ → Type 0) (faults : V → ℕ) where
  -- it is in the era, whatever a crash leaves
  pub enters_era : (seen : V → List ℕ) (era : Era) (old new : DeskView V) → old.down ≡ false → new ≡ record old { vault = new.vault; cache = []; round = None }
      → counter_of new.vault ≡ counter_of old.vault → kept_of new.vault ≡ kept_in_era era.number (kept_of old.vault)
      → (new.down ≡ false → VaultStands tells seen may_leave new.vault) → (tells → (n : ℕ) → IsPast may_leave n old.vault → IsPast may_leave n new.vault) → faults (disk_of old.vault) ≤ faults (disk_of new.vault) → EntersEra (disks tells may_leave faults) era old new
  enters_era seen era old new up desk counter kept stands past never_falls = record {
    up = up;
    desk = desk;
    counter = counter;
    kept = kept;
    still_past = past;
    ages = λ told age is. record {
      kept = omega (arith, is.kept, ap (λ (k : Kept). k.age) kept);
      left = λ c k may on. omega (arith, is.kept, ap (λ (x : Kept). x.age) (same_kept k (kept_of new.vault) c on ((stands (ap (λ (d : DeskView V). d.down) desk ∙ up)).images told c may) ∙ kept));
    };
    in_era = λ told. record {
      kept = ap (λ (k : Kept). k.era) kept;
      left = λ c k may on. inl (ap (λ (x : Kept). x.era) (same_kept k (kept_of new.vault) c on ((stands (ap (λ (d : DeskView V). d.down) desk ∙ up)).images told c may) ∙ kept));
    };
    never_falls = never_falls;
  }

  -- it stopped within the write: a crash leaves it in the era, or as it was
  pub fails_to_enter : (moment : V → ℕ) (left_since : V → ℕ → List ℕ → Type 0) (era : Era) (old new : DeskView V) → old.down ≡ false → IsCrashed old new
      → counter_of new.vault ≡ counter_of old.vault → kept_of new.vault ≡ kept_of old.vault
      → (tells → (t : ℕ) (c : List ℕ) → t ≤ moment (disk_of new.vault) → may_leave (disk_of new.vault) c → left_since (disk_of new.vault) t c)
      → (tells → LeavesOnly moment left_since (disk_of old.vault) (disk_of new.vault) (KeepsBeforeOrAfter (kept_of old.vault) (kept_in_era era.number (kept_of old.vault))))
      → (tells → (n : ℕ) → IsPast may_leave n old.vault → IsPast may_leave n new.vault) → Rose (faults (disk_of old.vault)) (faults (disk_of new.vault)) → FailsToEnter (disks tells may_leave faults) era old new
  fails_to_enter moment left_since era old new up crashed counter same now moments past rose = record {
    up = up;
    crashed = crashed;
    shows = record { counter = counter; kept = same };
    still_past = past;
    ages = λ told age is. record {
      kept = omega (arith, is.kept, ap (λ (k : Kept). k.age) same);
      left = λ c k may on. elim (left_at moment left_since may_leave (disk_of old.vault) (disk_of new.vault) (KeepsBeforeOrAfter (kept_of old.vault) (kept_in_era era.number (kept_of old.vault))) (now told) (moments told) c may) [
        | inl before ↦ omega (arith, is.kept, ap (λ (x : Kept). x.age) (same_kept k (kept_of old.vault) c on before))
        | inr after ↦ omega (arith, is.kept, ap (λ (x : Kept). x.age) (same_kept k (kept_in_era era.number (kept_of old.vault)) c on after))
      ];
    };
    torn = λ told number is. record {
      kept = ap (λ (k : Kept). k.era) same ∙ is.kept;
      left = λ c k may on. elim (left_at moment left_since may_leave (disk_of old.vault) (disk_of new.vault) (KeepsBeforeOrAfter (kept_of old.vault) (kept_in_era era.number (kept_of old.vault))) (now told) (moments told) c may) [
        | inl before ↦ inl (ap (λ (x : Kept). x.era) (same_kept k (kept_of old.vault) c on before) ∙ is.kept)
        | inr after ↦ inr (ap (λ (x : Kept). x.era) (same_kept k (kept_in_era era.number (kept_of old.vault)) c on after))
      ];
    };
    faulted = rose;
  }

-- ---- its round
-- the caller of a round that was open is told
pub leaves : {V : Type 0} (DeskTurns : DeskView V → DeskView V → Type 0) (told : Bool → Answer) (id : ℕ) (desk now : DeskView V) (caller caller_now : Caller) (flow flow_now : FlowView) (closes proposed : Bool) (said : Answer) (round : Option Round)
    → desk.round ≡ round → closes ≡ is_some round → (IsSome round → IsSome caller.call) → IfSome caller.call (λ call. proposed ≡ is_some call.proposed) → said ≡ told proposed → DeskTurns desk now → flow_now ≡ abandoned flow id
    → (closes ≡ true → IfSome caller.call (λ call. caller_now ≡ record caller { call = Some (record (over call said) { is_closed = true }) })) → (closes ≡ false → caller_now ≡ caller)
    → LeavesDesk DeskTurns (closed_with told) id desk now caller caller_now flow flow_now
leaves DeskTurns told id desk now caller caller_now flow flow_now closes proposed said None is closes_is open_ has says turns flows closed stays = moving.idle is turns (stays closes_is) flows
leaves {V} DeskTurns told id desk now caller caller_now flow flow_now closes proposed said (Some round) is closes_is open_ has says turns flows closed stays = by_call caller.call refl (open_ refl) has (closed closes_is)
  where
    by_call : (o : Option OpenCall) → caller.call ≡ o → IsSome o → IfSome o (λ call. proposed ≡ is_some call.proposed) → IfSome o (λ call. caller_now ≡ record caller { call = Some (record (over call said) { is_closed = true }) })
        → LeavesDesk DeskTurns (closed_with told) id desk now caller caller_now flow flow_now
    by_call None none some at by = absurd (cc some)
    by_call (Some call) is_open some at by =
        moving.closes round call is is_open turns (by ∙ ap (λ (a : Answer). record caller { call = Some (record (over call a) { is_closed = true }) }) (says ∙ ap told at)) flows

-- so it is seen
pub left_round : {S V : Type 0} (DeskTurns : DeskView V → DeskView V → Type 0) (closed : OpenCall → OpenCall) (seen : CallView → CallView) (last_proposer : ℕ) (council : Council) (acceptors : List (AcceptorView S)) (desks : List (DeskView V)) (callers : List Caller) (flow flow_now : FlowView) (book : Book)
    (id : ℕ) (desk now : DeskView V) (caller caller_now : Caller) → ((call : OpenCall) → call_view (closed call) ≡ seen (call_view call)) → IsAt desks id desk → IsAt callers id caller → LeavesDesk DeskTurns closed id desk now caller caller_now flow flow_now
    → LeavesRound DeskTurns seen (view_of last_proposer council acceptors desks callers flow book) id (view_of last_proposer council acceptors (slice_set desks id now) (slice_set callers id caller_now) flow_now book)
left_round {S} {V} DeskTurns closed seen last_proposer council acceptors desks callers flow flow_now book id desk now caller caller_now same at_desk at_caller (moving.idle none turns stays flows) =
    stops.idle desk now at_desk none turns
    (λ i. view_of last_proposer council acceptors (slice_set desks id now) ((ap (slice_set callers id) stays ∙ set_same callers id caller at_caller) i) (flows i) book)
left_round {S} {V} DeskTurns closed seen last_proposer council acceptors desks callers flow flow_now book id desk now caller caller_now same at_desk at_caller (moving.closes round call is is_open turns by flows) =
    stops.closes desk now round (record { caller = caller_view caller; at_caller = at_map caller_view callers id caller at_caller; call = call_view call; is_open = ap (option_map call_view) is_open }) at_desk is turns
    (λ i. record (view_of last_proposer council acceptors (slice_set desks id now) callers (flows i) book) {
      callers = (map_set caller_view callers id caller_now
          ∙ ap (λ (c : Caller). slice_set (map caller_view callers) id (caller_view c)) by
          ∙ ap (λ (c : CallView). slice_set (map caller_view callers) id (record (caller_view caller) { call = Some c })) (same call)) i;
    })

-- no more is reserved then
pub left_reserves : {V : Type 0} (DeskTurns : DeskView V → DeskView V → Type 0) (told : Bool → Answer) (id place : ℕ) (callers : List Caller) (desk now : DeskView V) (caller caller_now : Caller) (flow flow_now : FlowView)
    → IsAt callers place caller → ((call : OpenCall) → caller.call ≡ Some call → 0 < call.reserved) → LeavesDesk DeskTurns (closed_with told) id desk now caller caller_now flow flow_now
    → reserved_of (map caller_view (slice_set callers place caller_now)) ≤ reserved_of (map caller_view callers)
left_reserves DeskTurns told id place callers desk now caller caller_now flow flow_now at some (moving.idle none turns stays flows) =
    omega (arith, ap (λ (l : List Caller). reserved_of (map caller_view l)) (ap (slice_set callers place) stays ∙ set_same callers place caller at))
left_reserves DeskTurns told id place callers desk now caller caller_now flow flow_now at some (moving.closes round call is is_open turns by flows) =
    omega (
      arith,
      some call is_open,
      ap (λ (l : List CallerView). reserved_of l) (map_set caller_view callers place caller_now),
      reserved_set (map caller_view callers) place (caller_view caller) (caller_view caller_now) (at_map caller_view callers place caller at),
      ap (λ (o : Option OpenCall). reserved_in (option_map call_view o)) is_open,
      ap (λ (c : Caller). reserved_in (caller_view c).call) by,
    )

-- the desk changed so
pub turned : {V : Type 0} (DeskTurns : DeskView V → DeskView V → Type 0) (closed : OpenCall → OpenCall) (id : ℕ) (desk now : DeskView V) (caller caller_now : Caller) (flow flow_now : FlowView) → LeavesDesk DeskTurns closed id desk now caller caller_now flow flow_now → DeskTurns desk now
turned DeskTurns closed id desk now caller caller_now flow flow_now (moving.idle none turns stays flows) = turns
turned DeskTurns closed id desk now caller caller_now flow flow_now (moving.closes round call is is_open turns by flows) = turns

-- ---- the whole
pub crash_reserves : (id : ℕ) (council : cluster.Council) → reserved_by (crash_at id council) ≡ reserved_by council
crash_reserves zero council = ap (λ (n : ℕ). reserved_for_order council.order + n + reserved_for_collection council.collection) (broken_reserved council.exchange)
crash_reserves (suc id) council = refl

pub crash_order : (id : ℕ) (council : cluster.Council) → (crash_at id council).order ≡ council.order
crash_order zero council = refl
crash_order (suc id) council = refl

asked_after : (last_proposer : ℕ) (plan : PlanView) (next : Era) → (plan_after last_proposer plan next).asked ≡ plan.asked
asked_after last_proposer plan next = by_test (plan.entered == last_proposer)
  where
    by_test : (b : Bool) → (if b then record plan { progress = record { era = next; left = rest_of plan.progress.left }; entered = 0; listing = None } else record plan { entered = suc plan.entered }).asked ≡ plan.asked
    by_test true = refl
    by_test false = refl

-- a change of era as its view tells it: the round's end, what is marked and told
moved_same : (number : ℕ) (call : OpenCall) → call_view (closed_with (λ proposed. moved_answer proposed number) call) ≡ closed_by (answer.Moved number) (cause.Moved number) (call_view call)
moved_same number call = refl

pub crashed_same : (call : OpenCall) → call_view (closed_with crash_answer call) ≡ closed_by_crash (call_view call)
crashed_same call = refl

module _ {S V : Type 0} (m : Meaning S V) (last_proposer : ℕ) (council council_now : Council) (acceptors : List (AcceptorView S)) (desks : List (DeskView V)) (callers : List Caller) (flow then_ flow_now : FlowView) (before middle after : Book) (id : ℕ) (desk now : DeskView V) (caller caller_now : Caller) (plan : PlanView) (next : Era)
    (at_desk : IsAt desks id desk) (at_caller : IsAt callers id caller) (is_due : plan.entered ≡ id) (is_plan : (council_view council).plan ≡ Some plan) (same : middle.marks ≡ before.marks) (up : desk.down ≡ false)
    (fits : length before.marks + reserved_in_all (view_of last_proposer council acceptors desks callers flow before) < most_marks) where
  abbrev old : View S V
  old = view_of last_proposer council acceptors desks callers flow before

  abbrev left : View S V
  left = view_of last_proposer council acceptors (slice_set desks id now) (slice_set callers id caller_now) then_ before

  abbrev new : View S V
  new = view_of last_proposer council_now acceptors (slice_set desks id now) (slice_set callers id caller_now) flow_now after

  moves_on : (p : PlanView) → LeavesDesk (EntersEra m.disks next) (closed_with (λ proposed. moved_answer proposed next.number)) id desk now caller caller_now flow then_ → (council_view council).plan ≡ Some p
      → council_view council_now ≡ record (hushed (council_view council)) { plan = Some (plan_after last_proposer p next) } → council_now.eras.0 ≡ slice_set council.eras.0 id next → flow_now ≡ then_ → after.marks ≡ middle.marks ++ EraEntered id next.number ∷ []
      → EntersNext m old plan next desk new
  moves_on p leaves_ is_p council_is eras flows marks =
      let one : p ≡ plan = some_is (sym is_p ∙ is_plan) in
      plans.enters left fits
      (subst (λ (i : ℕ). LeavesRound (EntersEra m.disks next) (closed_by (answer.Moved next.number) (cause.Moved next.number)) old i left) (sym is_due)
      (left_round (EntersEra m.disks next) (closed_with (λ proposed. moved_answer proposed next.number)) (closed_by (answer.Moved next.number) (cause.Moved next.number)) last_proposer council acceptors desks callers flow then_ before id desk now caller caller_now (moved_same next.number) at_desk at_caller leaves_))
      ((λ i. record new {
        eras = (eras ∙ ap (λ (n : ℕ). slice_set council.eras.0 n next) (sym is_due)) i;
        council = (council_is ∙ ap (λ (q : PlanView). record (hushed (council_view council)) { plan = Some (plan_after last_proposer q next) }) one) i;
        flow = flows i;
        marks = (marks ∙ ap (λ (ms : List Mark). ms ++ EraEntered id next.number ∷ []) same ∙ ap (λ (n : ℕ). before.marks ++ EraEntered n next.number ∷ []) (sym is_due)) i;
      }))

  goes_down : LeavesDesk (FailsToEnter m.disks next) (closed_with crash_answer) id desk now caller caller_now flow then_ → council_view council_now ≡ telling (crash_at id (council_view council)) (op.ProposerDown id) → council_now.eras.0 ≡ council.eras.0
      → flow_now ≡ abandoned_at id then_ → after ≡ middle → EntersNext m old plan next desk new
  goes_down leaves_ council_is eras flows books = by_id id refl
    where
      left_so : LeavesRound (FailsToEnter m.disks next) closed_by_crash old id left
      left_so = left_round (FailsToEnter m.disks next) (closed_with crash_answer) closed_by_crash last_proposer council acceptors desks callers flow then_ before id desk now caller caller_now crashed_same at_desk at_caller leaves_

      marks : after.marks ≡ before.marks
      marks = ap (λ (b : Book). b.marks) books ∙ same

      by_id : (n : ℕ) → id ≡ n → EntersNext m old plan next desk new
      by_id zero is =
          plans.fails (broken_off_view left) fits
          (subst (λ (i : ℕ). GoesDown (FailsToEnter m.disks next) old i (broken_off_view left)) (sym is_due) (stops.of_operator left is left_so refl))
          ((λ i. record new { eras = eras i; council = (council_is ∙ ap (λ (n : ℕ). telling (crash_at n (council_view council)) (op.ProposerDown id)) is) i; flow = (flows ∙ ap (λ (n : ℕ). abandoned_at n then_) is) i; marks = marks i })
          ∙ ap (λ (n : ℕ). told_view (broken_off_view left) (op.ProposerDown n)) (sym is_due))
      by_id (suc n) is =
          plans.fails left fits
          (subst (λ (i : ℕ). GoesDown (FailsToEnter m.disks next) old i left) (sym is_due) (stops.of_client (λ none. absurd (cc (none, is))) left_so))
          ((λ i. record new { eras = eras i; council = (council_is ∙ ap (λ (k : ℕ). telling (crash_at k (council_view council)) (op.ProposerDown id)) is) i; flow = (flows ∙ ap (λ (k : ℕ). abandoned_at k then_) is) i; marks = marks i })
          ∙ ap (λ (k : ℕ). told_view left (op.ProposerDown k)) (sym is_due))

  finds_none : Stays m.disks desk now caller caller_now flow then_ → council_view council_now ≡ telling (council_view council) (op.Stopped (answer.NoMemory false)) → council_now.eras.0 ≡ council.eras.0 → flow_now ≡ then_ → after ≡ middle → EntersNext m old plan next desk new
  finds_none stays_ council_is eras flows books =
      plans.no_memory now fits up stays_.kept stays_.desk_
      ((λ i. record new {
        eras = eras i;
        callers = ap (map caller_view) (ap (slice_set callers id) stays_.caller_ ∙ set_same callers id caller at_caller) i;
        council = council_is i;
        flow = (flows ∙ stays_.flow_) i;
        marks = (ap (λ (b : Book). b.marks) books ∙ same) i;
      })
      ∙ ap (λ (i : ℕ). told_view (with_desk old i now) (op.Stopped (answer.NoMemory false))) (sym is_due))

  -- whichever became of it
  pub entered_so : (moved : Result ⊤ VaultError) (result : Result ⊤ OpAnswer) → OnOk moved (LeavesDesk (EntersEra m.disks next) (closed_with (λ proposed. moved_answer proposed next.number)) id desk now caller caller_now flow then_)
      → (IsErrOf moved error.VaultFault → LeavesDesk (FailsToEnter m.disks next) (closed_with crash_answer) id desk now caller caller_now flow then_) → (IsErrOf moved error.NoMemory → Stays m.disks desk now caller caller_now flow then_)
      → MarksMove last_proposer id next moved (council_view council) (council_view council_now) council.eras.0 council_now.eras.0 then_ flow_now middle after result → EntersNext m old plan next desk new
  entered_so moved result ok fault none (moving.moves p is is_p council_is eras flows marks room answer_is) =
      moves_on p (subst (λ (r : Result ⊤ VaultError). OnOk r (LeavesDesk (EntersEra m.disks next) (closed_with (λ proposed. moved_answer proposed next.number)) id desk now caller caller_now flow then_)) is ok) is_p council_is eras flows marks
  entered_so moved result ok fault none (moving.fails is council_is eras flows books answer_is) = goes_down (fault is) council_is eras flows books
  entered_so moved result ok fault none (moving.no_memory is council_is eras flows books answer_is) = finds_none (none is) council_is eras flows books

  -- no more is reserved than there is room for
  pub entered_room : (moved : Result ⊤ VaultError) (result : Result ⊤ OpAnswer) → OnOk moved (LeavesDesk (EntersEra m.disks next) (closed_with (λ proposed. moved_answer proposed next.number)) id desk now caller caller_now flow then_)
      → (IsErrOf moved error.VaultFault → LeavesDesk (FailsToEnter m.disks next) (closed_with crash_answer) id desk now caller caller_now flow then_) → (IsErrOf moved error.NoMemory → Stays m.disks desk now caller caller_now flow then_)
      → MarksMove last_proposer id next moved (council_view council) (council_view council_now) council.eras.0 council_now.eras.0 then_ flow_now middle after result
      → ((call : OpenCall) → caller.call ≡ Some call → 0 < call.reserved) → reserved_in_all old < middle.room → reserved_in_all new ≤ after.room
  entered_room moved result ok fault none (moving.moves p is is_p council_is eras flows marks room answer_is) some has =
      omega (
        arith,
        has,
        room,
        left_reserves (EntersEra m.disks next) (λ proposed. moved_answer proposed next.number) id id callers desk now caller caller_now flow then_ at_caller some
            (subst (λ (r : Result ⊤ VaultError). OnOk r (LeavesDesk (EntersEra m.disks next) (closed_with (λ proposed. moved_answer proposed next.number)) id desk now caller caller_now flow then_)) is ok),
        ap reserved_by council_is,
        hushed_reserves (council_view council).order,
      )
  entered_room moved result ok fault none (moving.fails is council_is eras flows books answer_is) some has =
      omega (
        arith,
        has,
        ap (λ (b : Book). b.room) books,
        left_reserves (FailsToEnter m.disks next) crash_answer id id callers desk now caller caller_now flow then_ at_caller some (fault is),
        ap reserved_by council_is,
        told_reserves (crash_at id (council_view council)).order (op.ProposerDown id),
        crash_reserves id (council_view council),
      )
  entered_room moved result ok fault none (moving.no_memory is council_is eras flows books answer_is) some has =
      omega (
        arith,
        has,
        ap (λ (b : Book). b.room) books,
        ap (λ (l : List Caller). reserved_of (map caller_view l)) (ap (slice_set callers id) (none is).caller_ ∙ set_same callers id caller at_caller),
        ap reserved_by council_is,
        told_reserves (council_view council).order (op.Stopped (answer.NoMemory false)),
      )

  -- an accept phase that stays has its copies
  pub entered_copies : (moved : Result ⊤ VaultError) (result : Result ⊤ OpAnswer) → OnOk moved (LeavesDesk (EntersEra m.disks next) (closed_with (λ proposed. moved_answer proposed next.number)) id desk now caller caller_now flow then_)
      → (IsErrOf moved error.VaultFault → LeavesDesk (FailsToEnter m.disks next) (closed_with crash_answer) id desk now caller caller_now flow then_) → (IsErrOf moved error.NoMemory → Stays m.disks desk now caller caller_now flow then_)
      → MarksMove last_proposer id next moved (council_view council) (council_view council_now) council.eras.0 council_now.eras.0 then_ flow_now middle after result
      → HaveCopies desks callers → HaveCopies (slice_set desks id now) (slice_set callers id caller_now)
  entered_copies moved result ok fault none (moving.moves p is is_p council_is eras flows marks room answer_is) were =
      let by = turned (EntersEra m.disks next) (closed_with (λ proposed. moved_answer proposed next.number)) id desk now caller caller_now flow then_
      (subst (λ (r : Result ⊤ VaultError). OnOk r (LeavesDesk (EntersEra m.disks next) (closed_with (λ proposed. moved_answer proposed next.number)) id desk now caller caller_now flow then_)) is ok) in
      copies_idle desks callers id now caller_now (ap (λ (d : DeskView V). d.round) by.desk) were
  entered_copies moved result ok fault none (moving.fails is council_is eras flows books answer_is) were =
      let by = turned (FailsToEnter m.disks next) (closed_with crash_answer) id desk now caller caller_now flow then_ (fault is) in copies_idle desks callers id now caller_now (ap (λ (d : DeskView V). d.round) by.crashed) were
  entered_copies moved result ok fault none (moving.no_memory is council_is eras flows books answer_is) were =
      subst (HaveCopies (slice_set desks id now)) (sym (ap (slice_set callers id) (none is).caller_ ∙ set_same callers id caller at_caller)) (copies_still desks callers id desk now at_desk (ap (λ (d : DeskView V). d.round) (none is).desk_) were)

  -- what is told
  pub entered_ok : (moved : Result ⊤ VaultError) (result : Result ⊤ OpAnswer) (order : OrderView) → MarksMove last_proposer id next moved (council_view council) (council_view council_now) council.eras.0 council_now.eras.0 then_ flow_now middle after result
      → (council_view council).order ≡ Some order → plan.asked ≡ order.asked → OnOk result (IsUnderWay new order.asked)
  entered_ok moved result order (moving.moves p is is_p council_is eras flows marks room answer_is) is_open is_for =
      subst (λ (r : Result ⊤ OpAnswer). OnOk r (IsUnderWay new order.asked)) (sym answer_is) (record {
        order = silent_order order;
        is_open = ap (λ (k : cluster.Council). k.order) council_is ∙ ap (option_map silent_order) is_open;
        is_for = refl;
        untold = refl;
        plan = record {
          open_plan = plan_after last_proposer p next;
          is_open = ap (λ (k : cluster.Council). k.plan) council_is;
          same = asked_after last_proposer p next ∙ ap (λ (q : PlanView). q.asked) (some_is (sym is_p ∙ is_plan)) ∙ is_for;
        };
      })
  entered_ok moved result order (moving.fails is council_is eras flows books answer_is) is_open is_for = subst (λ (r : Result ⊤ OpAnswer). OnOk r (IsUnderWay new order.asked)) (sym answer_is) tt
  entered_ok moved result order (moving.no_memory is council_is eras flows books answer_is) is_open is_for = subst (λ (r : Result ⊤ OpAnswer). OnOk r (IsUnderWay new order.asked)) (sym answer_is) tt

  pub entered_err : (moved : Result ⊤ VaultError) (result : Result ⊤ OpAnswer) (order : OrderView) → MarksMove last_proposer id next moved (council_view council) (council_view council_now) council.eras.0 council_now.eras.0 then_ flow_now middle after result
      → (council_view council).order ≡ Some order → IfErr result (WasToldOrder new)
  entered_err moved result order (moving.moves p is is_p council_is eras flows marks room answer_is) is_open = subst (λ (r : Result ⊤ OpAnswer). IfErr r (WasToldOrder new)) (sym answer_is) tt
  entered_err moved result order (moving.fails is council_is eras flows books answer_is) is_open =
      subst (λ (r : Result ⊤ OpAnswer). IfErr r (WasToldOrder new)) (sym answer_is) (record {
        order = told_so (op.ProposerDown id) order;
        is_open = ap (λ (k : cluster.Council). k.order) council_is ∙ ap (option_map (told_so (op.ProposerDown id))) (crash_order id (council_view council) ∙ is_open);
        said = op.ProposerDown id;
        was_said = refl;
        same = refl;
      })
  entered_err moved result order (moving.no_memory is council_is eras flows books answer_is) is_open =
      subst (λ (r : Result ⊤ OpAnswer). IfErr r (WasToldOrder new)) (sym answer_is) (record {
        order = told_so (op.Stopped (answer.NoMemory false)) order;
        is_open = ap (λ (k : cluster.Council). k.order) council_is ∙ ap (option_map (told_so (op.Stopped (answer.NoMemory false)))) is_open;
        said = op.Stopped (answer.NoMemory false);
        was_said = refl;
        same = refl;
      })
