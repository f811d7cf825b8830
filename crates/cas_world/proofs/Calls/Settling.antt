-- What a world keeps true as a round begins, or does not.
use Rattle.std.proofs.Common.{suc, ◌≡◌, ◌<◌, ◌≤◌, ℕ, Bool, true, false, List, [], ◌∷◌, ◌++◌, Option, None, Some, Result, Ok, Err, inl, inr, slice_set, refl, sym, ap, subst, ◌∙◌, arith, append-nil, append_assoc, length, length-append}
use Rattle.std.specs.Prelude.{◌⊎◌, ◌+◌, is_some, not, IsSome, IfSome, IfOk, IfErr, OnOk, OnErr, IsOk, map, option_map, slice_index_or}
use Rattle.std.proofs.lemmas.List.{length-map}
use Rattle.cas_acceptor.specs.Acceptor.{AcceptorView}
use Rattle.cas_ballot.specs.declared.ballot.Ballot.{Ballot}
use Rattle.cas_ballot.specs.Ballot.{FitsBallot}
use Rattle.cas_cache.specs.declared.ready.Ready.{Ready}
use Rattle.cas_cache.specs.Entries.{promise_at}
use Rattle.cas_change.specs.declared.program.Clause.{Clause}
use Rattle.cas_flow.specs.Flow.{FlowView, queue_at}
use Rattle.cas_proposer.specs.Desk.{DeskView}
use Rattle.cas_proposer.specs.Round.{IsPrepare, is_preparing}
use Rattle.cas_proposer.specs.declared.round.OpenPhase.{OpenPhase}
use Rattle.cas_proposer.specs.declared.round.OpenPhase.TheVariants as phases
use Rattle.cas_proposer.specs.declared.round.Round.{Round}
use Rattle.cas_quorum.specs.declared.era.Era.{Era}
use Rattle.cas_record.specs.Book.{Book}
use Rattle.cas_record.specs.declared.answer.Answer.{Answer}
use Rattle.cas_record.specs.declared.answer.Answer.TheVariants as answer
use Rattle.cas_record.specs.declared.mark.Mark.{Mark}
use Rattle.cas_slot.specs.declared.message.Reply.{Reply}
use Rattle.cas_model.specs.Safe.{IsSafe, IsOpenSafe, IsRoundSafe}
use Rattle.cas_model.specs.Step as step
use Rattle.cas_model.specs.Step.{Event, Step}
use Rattle.cas_model.specs.Calls.Step as calls
use Rattle.cas_model.specs.Calls.Step.{most_marks, round_marks}
use Rattle.cas_model.specs.View as seen
use Rattle.cas_model.specs.View.{Meaning, DiskMeaning, View, CallView, CallerView, IsAt, new_caller, era_in}
use Rattle.cas_model.proofs.Places.{set_set, some_is, at_one, at_set}
use Rattle.cas_record.proofs.Logs.Eras.{le_or_lt}
use Rattle.cas_model.proofs.Calls.Caches.{contains_promise}
use Rattle.cas_model.proofs.Safety.Parts.{low_at, at_low, idle_at}
use Rattle.cas_model.proofs.Safety.Steps.{steps_are_safe}
use Rattle.cas_model.specs.Council.{reserved_by}
use Rattle.cas_world_calls.specs.Council.{council_view}
use Rattle.cas_world_calls.specs.declared.council.Council.{Council}
use Rattle.cas_world.specs.Calls.Beginning.{opening_of, refused, Prepares, ProposesBy, OpensRound, FailsToOpen, reserved_beside, entered, entry_marks, proposes_now, told_now, settled, settled_marks, Heeds, HeedsLoss, HasRound, HasNoCall, MayBegin, is_refusal, BeginsOrNot}
use Rattle.cas_world_calls.specs.Call.{again, over, with_proposal, reserved_in, reserved_of}
use Rattle.cas_world.specs.World.{WasTold, IsWorld, HasCopies, view_of, call_view, caller_view}
use Rattle.cas_world.specs.declared.begin.Opening.{Opening}
use Rattle.cas_world_calls.specs.declared.call.Caller.{Caller}
use Rattle.cas_world_calls.specs.declared.call.OpenCall.{OpenCall}
use Rattle.cas_world_calls.specs.declared.proposal.Proposing.{Proposing}
use Rattle.cas_world.proofs.Calls.Begins.{beside_seen, beside_none, may_in, opened_book, IsNewCall, IsAnother, IsEntered, opens_first, opens_again, step_prepares, step_proposes, step_fails, step_stays}
use Rattle.cas_world.proofs.Calls.Callers.{map_set, at_map, seen_open}
use Rattle.cas_world.proofs.Calls.Ends.{rescan_reserves}
use Rattle.cas_world.proofs.Exchanges.Exchanges.{council_next}
use Rattle.cas_world.proofs.Parts.{at_place, set_same, remembered_then}
use Rattle.cas_world.proofs.Stops.Stops.{HaveCopies, copies_next}

-- ---- copies
prepare_of : (era : Era) (ballot : Ballot) (replies : List Reply) (phase : OpenPhase) → IsPrepare era ballot replies phase → is_preparing phase ≡ true
prepare_of era ballot replies (phases.Prepare phase) is = refl
prepare_of era ballot replies (phases.Accept phase) is = absurd is

none_yet : (round : Round) (call : Option OpenCall) → is_preparing round.phase ≡ true → HasCopies (Some round) call
none_yet round None is = tt
none_yet round (Some call) is = λ no. absurd (cc (is, no))

idle_copies : (round : Option Round) (call : Option OpenCall) → round ≡ None → HasCopies round call
idle_copies None call none = tt
idle_copies (Some round) call none = absurd (cc none)

is_ok : {A E : Type 0} (result : Result A E) → IsOk result → (value : A) × (result ≡ Ok value)
is_ok (Ok value) ok = (value, refl)
is_ok (Err error) ok = absurd (cc ok)

-- ---- the parties
-- a desk and its caller, with what may begin there
pub record ArePartiesFound {V : Type 0} (desks : List (DeskView V)) (callers : List Caller) (id number : ℕ) (key : List ℕ) (program : List Clause) (desk : DeskView V) (caller : Caller) : Type 0 where
  pub at_desk : IsAt desks id desk
  pub at_caller : IsAt callers id caller
  pub may : IsNewCall desk caller number ⊎ IsAnother desk caller number key program
  pub low : id ≤ 16
  pub place : id < length callers
  pub number_low : caller.number ≤ most_marks
  pub idle : desk.round ≡ None
  pub same_id : desk.id ≡ id
  pub fits : (ready : Ready) → promise_at key desk.cache ≡ Some ready → FitsBallot ready.ballot

module _ {S V : Type 0} (last_proposer : ℕ) (council : Council) (acceptors : List (AcceptorView S)) (desks : List (DeskView V)) (callers : List Caller) (flow : FlowView) (book : Book) (now : View S V) (place id number : ℕ) (key : List ℕ) (program : List Clause)
    (same : place ≡ id) (view : view_of last_proposer council acceptors desks callers flow book ≡ now) (known : id ≤ now.last_proposer) (safe : IsSafe (view_of last_proposer council acceptors desks callers flow book)) (may : MayBegin now id number key program) where
  low_id : id ≤ last_proposer
  low_id = omega (arith, known, ap (λ (v : View S V). v.last_proposer) view)

  found_by : (desk : DeskView V) (caller : Caller) → IsAt desks id desk → IsAt callers id caller → ArePartiesFound desks callers id number key program desk caller
  found_by desk caller at_desk at_caller =
      let party = safe.sound.parties id desk (caller_view caller) at_desk (at_map caller_view callers id caller at_caller) in
      let may_here : IsNewCall desk caller number ⊎ IsAnother desk caller number key program =
      may_in last_proposer council acceptors desks callers flow book id number key program desk caller safe at_desk at_caller (subst (λ (v : View S V). MayBegin v id number key program) (sym view) may) in
      record {
        at_desk = at_desk;
        at_caller = at_caller;
        may = may_here;
        low = omega (arith, low_id, safe.sound.few);
        place = low_at callers id at_caller;
        number_low = omega (arith, party.number, safe.sound.room);
        idle = elim may_here [ inl first ↦ first.idle | inr another ↦ another.idle ];
        same_id = party.same_id;
        fits = λ ready is. party.cached key ready (contains_promise key ready desk.cache is);
      }

  pub found : (desk : DeskView V) (caller : Caller) → desk ≡ slice_index_or desks place desk → caller ≡ slice_index_or callers place caller
      → ArePartiesFound desks callers id number key program desk caller
  found desk caller desk_is caller_is = found_by desk caller (at_place desks place id desk same (omega (arith, safe.sound.desks, low_id)) desk_is)
      (at_place callers place id caller same (omega (arith, safe.sound.callers, low_id, length-map callers caller_view)) caller_is)

  pub found_caller : (caller : Caller) → caller ≡ slice_index_or callers place caller → (desk : DeskView V) × ArePartiesFound desks callers id number key program desk caller
  found_caller caller caller_is = let desk = at_low desks id (omega (arith, safe.sound.desks, low_id)) in
      (desk.0, found_by desk.0 caller desk.1 (at_place callers place id caller same (omega (arith, safe.sound.callers, low_id, length-map callers caller_view)) caller_is))

  pub found_desk : (desk : DeskView V) → desk ≡ slice_index_or desks place desk → (caller : Caller) × ArePartiesFound desks callers id number key program desk caller
  found_desk desk desk_is = let caller = at_low callers id (omega (arith, safe.sound.callers, low_id, length-map callers caller_view)) in
      (caller.0, found_by desk caller.0 (at_place desks place id desk same (omega (arith, safe.sound.desks, low_id)) desk_is) caller.1)

pub not_more : (n : ℕ) → (1000000 < n → ⊥) → n ≤ 1000000
not_more n never = elim (le_or_lt n 1000000) [ inl low ↦ low | inr more ↦ absurd (never more) ]

pub all_fit : (key : List ℕ) (cache : List (List ℕ × Ready)) (there : Option Ready) → promise_at key cache ≡ there → ((ready : Ready) → promise_at key cache ≡ Some ready → FitsBallot ready.ballot) → IfSome there (λ ready. FitsBallot ready.ballot)
all_fit key cache None is fits = tt
all_fit key cache (Some ready) is fits = fits ready is

-- a round that fails to open never tells that the record is full
pub never_full : {A V : Type 0} (m : DiskMeaning V) (key : List ℕ) (old new : DeskView V) (begun : Result (Option Proposing) Answer) (result : Result A Answer) → IfErr begun (FailsToOpen m key old new) → IfErr begun (λ told. result ≡ Err told) → OnOk begun (IsOk result)
    → result ≡ Err answer.RecordFull → ⊥
never_full m key old new (Ok begun) result fails err ok full = absurd (cc ((is_ok result ok).1, full))
never_full m key old new (Err answer.RecordFull) result fails err ok full = elim fails [ ]
never_full m key old new (Err answer.Down) result fails err ok full = absurd (cc (err, full))
never_full m key old new (Err answer.Spent) result fails err ok full = absurd (cc (err, full))
never_full m key old new (Err answer.VaultFault) result fails err ok full = absurd (cc (err, full))
never_full m key old new (Err (answer.NoMemory proposed)) result fails err ok full = absurd (cc (err, full))
never_full m key old new (Err (answer.Done _ _ _)) result fails err ok full = elim fails [ ]
never_full m key old new (Err (answer.Conflict _)) result fails err ok full = elim fails [ ]
never_full m key old new (Err (answer.Aged _)) result fails err ok full = elim fails [ ]
never_full m key old new (Err (answer.Full _)) result fails err ok full = elim fails [ ]
never_full m key old new (Err (answer.Short _ _)) result fails err ok full = elim fails [ ]
never_full m key old new (Err (answer.Moved _)) result fails err ok full = elim fails [ ]
never_full m key old new (Err answer.Crashed) result fails err ok full = elim fails [ ]
never_full m key old new (Err (answer.Unsettled _)) result fails err ok full = elim fails [ ]

-- ---- what was proposed
-- an open round is in its accept phase where its call has proposed something
pub phase_tells : {S V : Type 0} (last_proposer : ℕ) (council : Council) (acceptors : List (AcceptorView S)) (desks : List (DeskView V)) (callers : List Caller) (flow : FlowView) (book : Book) (id : ℕ) (desk : DeskView V) (caller : Caller) (proposed : Bool)
    → IsSafe (view_of last_proposer council acceptors desks callers flow book) → IsAt desks id desk → IsAt callers id caller → IfSome caller.call (λ call. proposed ≡ is_some call.proposed)
    → (round : Option Round) → desk.round ≡ round → IfSome round (λ r. is_preparing r.phase ≡ not proposed)
phase_tells last_proposer council acceptors desks callers flow book id desk caller proposed safe at_desk at_caller told None is_round = tt
phase_tells last_proposer council acceptors desks callers flow book id desk caller proposed safe at_desk at_caller told (Some round) is_round =
    let is : IsOpenSafe (era_in council.eras.0 id) (caller_view caller) (queue_at flow id) round =
    subst (IsRoundSafe (era_in council.eras.0 id) (caller_view caller) (queue_at flow id)) is_round (safe.sound.parties id desk (caller_view caller) at_desk (at_map caller_view callers id caller at_caller)).round in
    let found = seen_open caller.call is.call is.is_open in
    let same : call_view found.0 ≡ is.call = some_is (ap (λ (o : Option OpenCall). option_map call_view o) (sym found.1) ∙ is.is_open) in
    let says : proposed ≡ is_some is.call.proposed = subst (λ (o : Option OpenCall). IfSome o (λ call. proposed ≡ is_some call.proposed)) found.1 told ∙ ap (λ (c : CallView). is_some c.proposed) same in
    by_phase (is_preparing round.phase) refl is says
  where
    by_phase : (b : Bool) → is_preparing round.phase ≡ b → (is : IsOpenSafe (era_in council.eras.0 id) (caller_view caller) (queue_at flow id) round) → proposed ≡ is_some is.call.proposed → is_preparing round.phase ≡ not proposed
    by_phase true preparing is says = preparing ∙ sym (ap not (says ∙ ap (λ (o : Option _). is_some o) (is.unproposed preparing)))
    by_phase false accepting is says = accepting ∙ sym (ap not (says ∙ is.proposed accepting))

-- ---- the whole
-- an event, what it keeps true, and what the beginning answers
pub record SettlesCall {S V A : Type 0} (m : Meaning S V) (old : View S V) (id number : ℕ) (key : List ℕ) (program : List Clause) (new : View S V)
    (callers : List Caller) (left : ℕ) (result : Result A Answer) : Type 0 where
  pub event : Event
  pub by : Step m old event new
  pub world : IsWorld m new callers left
  pub answers : BeginsOrNot m old id number key program result new

-- why a new call was not begun
abbrev pub IsRefusal : Answer → Type 0
IsRefusal told = (told ≡ answer.RecordFull) ⊎ (told ≡ answer.NoMemory false)

was_told : {S V : Type 0} (last_proposer : ℕ) (council : Council) (acceptors : List (AcceptorView S)) (desks : List (DeskView V)) (callers : List Caller) (flow : FlowView) (book : Book) (id number : ℕ) (caller next : Caller) (call : OpenCall) (told : Answer)
    → IsAt callers id caller → next.number ≡ number → next.call ≡ Some call → call.told ≡ Some told → WasTold (view_of last_proposer council acceptors desks (slice_set callers id next) flow book) id number told
was_told last_proposer council acceptors desks callers flow book id number caller next call told at same is said = record {
  caller = caller_view next;
  at_caller = at_map caller_view (slice_set callers id next) id next (at_set callers id caller next at);
  same_number = same;
  call = call_view call;
  is_open = ap (λ (o : Option OpenCall). option_map call_view o) is;
  told = said;
}

module _ {S V : Type 0} (A : Type 0) (m : Meaning S V) (last_proposer : ℕ) (council : Council) (acceptors : List (AcceptorView S)) (desks : List (DeskView V)) (callers : List Caller) (flow : FlowView) (book : Book) (id number : ℕ) (key : List ℕ) (program : List Clause)
    (desk : DeskView V) (caller : Caller) (inv : IsWorld m (view_of last_proposer council acceptors desks callers flow book) callers book.room) (at_desk : IsAt desks id desk) (at_caller : IsAt callers id caller) where
  abbrev old : View S V
  old = view_of last_proposer council acceptors desks callers flow book

  low : id < length callers
  low = low_at callers id at_caller

  -- what others reserved, and what this caller did
  all_reserved : seen.reserved_of (map caller_view callers) ≡ reserved_beside callers id + reserved_of caller
  all_reserved = ap (λ (l : List Caller). seen.reserved_of (map caller_view l)) (sym (set_same callers id caller at_caller)) ∙ beside_seen callers id caller low

  same_caller : (told : Answer) → caller.call ≡ None → refused caller told ≡ caller
  same_caller told none = ap (λ (o : Option OpenCall). record caller { call = option_map (λ call. over (again call 1) told) o }) none ∙ ap (λ (o : Option OpenCall). record caller { call = o }) (sym none)

  refused_open : (told : Answer) (call : OpenCall) → caller.call ≡ Some call → refused caller told ≡ told_now (entered caller None 1) told
  refused_open told call is = ap (λ (o : Option OpenCall). record caller { call = option_map (λ call. over (again call 1) told) o }) is
      ∙ sym (ap (λ (o : Option OpenCall). record caller { call = option_map (λ call. over call told) (option_map (λ call. again call 1) o) }) is)

  callers_same : (told : Answer) → caller.call ≡ None → slice_set callers id (refused caller told) ≡ callers
  callers_same told none = ap (λ (c : Caller). slice_set callers id c) (same_caller told none) ∙ set_same callers id caller at_caller

  no_call : caller.call ≡ None → HasNoCall (view_of last_proposer council acceptors desks callers flow book) id
  no_call none = record { caller = caller_view caller; at_caller = at_map caller_view callers id caller at_caller; none_open = ap (λ (o : Option OpenCall). option_map call_view o) none }

  -- one that is open is not none
  is_no_first : IsAnother desk caller number key program → HasNoCall (view_of last_proposer council acceptors desks callers flow book) id → ⊥
  is_no_first another none =
      let same : caller_view caller ≡ none.caller = at_one (map caller_view callers) id (at_map caller_view callers id caller at_caller) none.at_caller in
      let open_one : (caller_view caller).call ≡ Some (call_view another.call) = ap (λ (o : Option OpenCall). option_map call_view o) another.is_call in
      absurd (cc (sym open_one ∙ ap (λ (c : CallerView). c.call) same ∙ none.none_open))

  -- the mark of an open call's end is reserved
  some_reserved : (call : OpenCall) → caller.call ≡ Some call → desk.round ≡ None → 0 < call.reserved
  some_reserved call is idle = (idle_at (era_in council.eras.0 id) (caller_view caller) (queue_at flow id) desk.round idle (inv.safe.sound.parties id desk (caller_view caller) at_desk (at_map caller_view callers id caller at_caller)).round).reserved (call_view call)
      (ap (λ (o : Option OpenCall). option_map call_view o) is)

  -- a refused caller reserves no more than before
  refused_room : (told : Answer) (left : ℕ) → IsNewCall desk caller number ⊎ IsAnother desk caller number key program → book.room ≤ left → seen.reserved_of (map caller_view (slice_set callers id (refused caller told))) + reserved_by (council_view council) ≤ left
  refused_room told left (inl first) grows =
      let same : seen.reserved_of (map caller_view (slice_set callers id (refused caller told))) ≡ seen.reserved_of (map caller_view callers) = ap (λ (l : List Caller). seen.reserved_of (map caller_view l)) (callers_same told first.none_open) in
      omega (arith, same, inv.room, grows)
  refused_room told left (inr another) grows =
      let one : reserved_of (refused caller told) ≡ 1 = ap (λ (o : Option OpenCall). reserved_in (option_map (λ call. over (again call 1) told) o)) another.is_call in
      let had : reserved_of caller ≡ another.call.reserved = ap (λ (o : Option OpenCall). reserved_in o) another.is_call in
      omega (arith, beside_seen callers id (refused caller told) low, all_reserved, one, had, some_reserved another.call another.is_call another.idle, inv.room, grows)

  -- another round of the open call, for which one mark is reserved
  entered_one : (another : IsAnother desk caller number key program) → IsEntered (view_of last_proposer council acceptors desks callers flow book) id number key program (view_of last_proposer council acceptors desks (slice_set callers id (entered caller None 1)) flow (opened_book book None)) (entered caller None 1) 1 0
  entered_one another =
      let had : reserved_of caller ≡ another.call.reserved = ap (λ (o : Option OpenCall). reserved_in o) another.is_call in
      opens_again last_proposer council acceptors desks callers flow book id number key program 1 desk caller at_caller at_desk low another (omega arith) (omega arith)
      (omega (arith, all_reserved, had, some_reserved another.call another.is_call another.idle, inv.safe.sound.room))

  told_one : (told : Answer) (another : IsAnother desk caller number key program) (desks_now : List (DeskView V)) (flow_now : FlowView) (after : Book) → WasTold (view_of last_proposer council acceptors desks_now (slice_set callers id (refused caller told)) flow_now after) id number told
  told_one told another desks_now flow_now after = was_told last_proposer council acceptors desks_now callers flow_now after id number caller (refused caller told) (over (again another.call 1) told) told at_caller (sym another.same_number)
      (ap (λ (o : Option OpenCall). option_map (λ call. over (again call 1) told) o) another.is_call) refl

  -- its marks do not fit beside the others
  entered_full : (another : IsAnother desk caller number key program) → calls.most_marks < length book.marks + reserved_beside callers id + reserved_by (council_view council) + calls.round_marks (era_in council.eras.0 id)
      → calls.IsFull (view_of last_proposer council acceptors desks (slice_set callers id (entered caller None 1)) flow (opened_book book None)) id × (suc (entered_one another).call.reserved < calls.round_marks (era_in council.eras.0 id))
  entered_full another over_full =
      let entry : Caller = entered caller None 1 in
      let no_caller : seen.reserved_of (slice_set (map caller_view (slice_set callers id entry)) id new_caller) ≡ reserved_beside callers id =
      ap (λ (l : List CallerView). seen.reserved_of (slice_set l id new_caller)) (map_set caller_view callers id entry)
      ∙ (ap seen.reserved_of (set_set (map caller_view callers) id (caller_view entry) new_caller) ∙ beside_none callers id low) in
      let made : length (book.marks ++ []) ≡ length book.marks = ap (λ (l : List Mark). length l) (append-nil book.marks) in
      (omega (arith, over_full, no_caller, made), omega (arith, (entered_one another).within))

  -- where what the operator has under way is seen as before
  seen_as_before : (council_now : Council) → council_now.eras ≡ council.eras → council_view council_now ≡ council_view council → (desks_now : List (DeskView V)) (callers_now : List Caller) (flow_now : FlowView) (after : Book) (result : Result A Answer)
      → SettlesCall {A = A} m (view_of last_proposer council acceptors desks callers flow book) id number key program (view_of last_proposer council acceptors desks_now callers_now flow_now after) callers_now after.room result
      → SettlesCall {A = A} m (view_of last_proposer council acceptors desks callers flow book) id number key program (view_of last_proposer council_now acceptors desks_now callers_now flow_now after) callers_now after.room result
  seen_as_before council_now eras same desks_now callers_now flow_now after result =
      subst (λ (v : View S V). SettlesCall {A = A} m (view_of last_proposer council acceptors desks callers flow book) id number key program v callers_now after.room result)
      (sym (council_next last_proposer council council_now acceptors desks_now callers_now flow_now after (council_view council) eras same))

  -- what the operator's call is told of a refusal
  heeded_first : (council_now : Council) (told : Answer) → caller.call ≡ None → Heeds caller.call (council_view council) id key told (council_view council_now) → calls.Rescans (council_view council) id key told (council_view council_now)
  heeded_first council_now told none heeds = subst (λ (o : Option OpenCall). Heeds o (council_view council) id key told (council_view council_now)) none heeds

  heeded_again : (council_now : Council) (told : Answer) → IsAnother desk caller number key program → Heeds caller.call (council_view council) id key told (council_view council_now) → council_view council_now ≡ council_view council
  heeded_again council_now told another heeds = subst (λ (o : Option OpenCall). Heeds o (council_view council) id key told (council_view council_now)) another.is_call heeds

  refused_full : (told : Answer) → IsRefusal told → (told ≡ answer.RecordFull → calls.most_marks < length book.marks + reserved_beside callers id + reserved_by (council_view council) + calls.round_marks (era_in council.eras.0 id)) → calls.IsRefusal old id told
  refused_full told (inl full) over_full = inl (full, omega (arith, over_full full, beside_none callers id low))
  refused_full told (inr none) over_full = inr none

  -- no room was made
  pub not_made : (council_now : Council) → council_now.eras ≡ council.eras → (told : Answer) (after : Book) → IsNewCall desk caller number ⊎ IsAnother desk caller number key program → IsRefusal told → Heeds caller.call (council_view council) id key told (council_view council_now)
      → (told ≡ answer.RecordFull → calls.most_marks < length book.marks + reserved_beside callers id + reserved_by (council_view council) + calls.round_marks (era_in council.eras.0 id)) → after.marks ≡ book.marks → book.room ≤ after.room
      → SettlesCall {A = A} m (view_of last_proposer council acceptors desks callers flow book) id number key program (view_of last_proposer council_now acceptors desks (slice_set callers id (refused caller told)) flow after) (slice_set callers id (refused caller told)) after.room (Err told)
  not_made council_now eras told after (inl first) why heeds full marks grows =
      let same : view_of last_proposer council_now acceptors desks (slice_set callers id (refused caller told)) flow after ≡ record old { council = council_view council_now } =
      ap (λ (l : List Caller). view_of last_proposer council_now acceptors desks l flow after) (callers_same told first.none_open)
      ∙ council_next last_proposer council council_now acceptors desks callers flow after (council_view council_now) eras refl ∙ ap (λ (l : List Mark). record old { council = council_view council_now; marks = l }) marks in
      let anew = heeded_first council_now told first.none_open heeds in
      let by : Step m old (step.RefuseBegin id key) (view_of last_proposer council_now acceptors desks (slice_set callers id (refused caller told)) flow after) = calls.stays told (council_view council_now) (refused_full told why full) anew same in
      record {
        event = step.RefuseBegin id key;
        by = by;
        world = record {
          safe = steps_are_safe m _ (step.RefuseBegin id key) _ inv.safe by;
          remembered = remembered_then m (step.RefuseBegin id key) by inv.remembered;
          room = omega (arith, refused_room told after.room (inl first) grows, rescan_reserves (council_view council) (council_view council_now) id key told anew);
          copies = subst (λ (l : List Caller). HaveCopies desks l) (sym (callers_same told first.none_open)) inv.copies;
        };
        answers = inr (by, no_call first.none_open, why, anew);
      }
  not_made council_now eras told after (inr another) why heeds full marks grows =
      let is = entered_one another in
      let same : view_of last_proposer council acceptors desks (slice_set callers id (refused caller told)) flow after ≡ view_of last_proposer council acceptors desks (slice_set callers id (told_now (entered caller None 1) told)) flow (opened_book book None) =
      ap (λ (c : Caller). view_of last_proposer council acceptors desks (slice_set callers id c) flow after) (refused_open told another.call another.is_call)
      ∙ ap (λ (l : List Mark). record (view_of last_proposer council acceptors desks (slice_set callers id (told_now (entered caller None 1) told)) flow after) { marks = l }) (marks ∙ sym (append-nil book.marks)) in
      let by : Step m old (step.Begin id key program) (view_of last_proposer council acceptors desks (slice_set callers id (refused caller told)) flow after) =
      subst (λ (v : View S V). Step m old (step.Begin id key program) v) (sym same)
      (step_stays last_proposer council acceptors desks callers flow book id number key program m (entered caller None 1) (opened_book book None) caller at_caller 1 0 is told (elim why [ inl full ↦ subst calls.IsNoBeginning (sym full) tt | inr none ↦ subst calls.IsNoBeginning (sym none) refl ])
      (λ down. elim why [ inl full ↦ absurd (cc (full, down)) | inr none ↦ absurd (cc (none, down)) ]) (λ is_full. entered_full another (full is_full)) desk at_desk another.idle) in
      seen_as_before council_now eras (heeded_again council_now told another heeds) desks (slice_set callers id (refused caller told)) flow after (Err told) (record {
        event = step.Begin id key program;
        by = by;
        world = record {
          safe = steps_are_safe m _ (step.Begin id key program) _ inv.safe by;
          remembered = remembered_then m (step.Begin id key program) by inv.remembered;
          room = refused_room told after.room (inr another) grows;
          copies = subst (λ (l : List (DeskView V)). HaveCopies l (slice_set callers id (refused caller told))) (set_same desks id desk at_desk)
              (copies_next desks callers id desk (refused caller told) (idle_copies desk.round (refused caller told).call another.idle) inv.copies);
        };
        answers = inl (by, told_one told another desks flow after, λ none. absurd (is_no_first another none));
      })

  -- ---- room was made for its marks
  module _ (marks : ℕ) (same_marks : marks ≡ round_marks (era_in council.eras.0 id)) (few : length book.marks + reserved_beside callers id + reserved_by (council_view council) + marks ≤ most_marks) (opening : Option Opening)
      (first_is : caller.call ≡ None → opening ≡ Some (opening_of (record { caller = id; call = number }) key program)) (again_is : IsSome caller.call → opening ≡ None) where
    pub entering : IsNewCall desk caller number ⊎ IsAnother desk caller number key program
        → IsEntered (view_of last_proposer council acceptors desks callers flow book) id number key program (view_of last_proposer council acceptors desks (slice_set callers id (entered caller opening marks)) flow (opened_book book opening)) (entered caller opening marks) marks (length (entry_marks opening))
    entering (inl first) = subst (λ (o : Option Opening). IsEntered (view_of last_proposer council acceptors desks callers flow book) id number key program (view_of last_proposer council acceptors desks (slice_set callers id (entered caller o marks)) flow (opened_book book o)) (entered caller o marks) marks (length (entry_marks o)))
        (sym (first_is first.none_open)) (opens_first last_proposer council acceptors desks callers flow book id number key program marks desk caller at_caller low first same_marks few)
    entering (inr another) = subst (λ (o : Option Opening). IsEntered (view_of last_proposer council acceptors desks callers flow book) id number key program (view_of last_proposer council acceptors desks (slice_set callers id (entered caller o marks)) flow (opened_book book o)) (entered caller o marks) marks (length (entry_marks o)))
        (sym (again_is (subst (λ (o : Option OpenCall). IsSome o) (sym another.is_call) refl))) (opens_again last_proposer council acceptors desks callers flow book id number key program marks desk caller at_caller at_desk low another (omega (arith, same_marks)) (omega (arith, same_marks)) few)

    module _ (may : IsNewCall desk caller number ⊎ IsAnother desk caller number key program) (now : DeskView V) (flow_now : FlowView) (after : Book) (left : ℕ) (held : reserved_beside callers id + reserved_by (council_view council) + marks ≤ left) (grows : book.room ≤ left)
        (council_now : Council) (eras : council_now.eras ≡ council.eras) where
      idle : desk.round ≡ None
      idle = elim may [ inl first ↦ first.idle | inr another ↦ another.idle ]

      is_entered : IsEntered (view_of last_proposer council acceptors desks callers flow book) id number key program (view_of last_proposer council acceptors desks (slice_set callers id (entered caller opening marks)) flow (opened_book book opening)) (entered caller opening marks) marks (length (entry_marks opening))
      is_entered = entering may

      -- the marks that are reserved have their room
      next_room : (next : Caller) (spent : ℕ) → reserved_of next + spent ≤ marks → after.room + spent ≡ left → seen.reserved_of (map caller_view (slice_set callers id next)) + reserved_by (council_view council) ≤ after.room
      next_room next spent within made = omega (arith, beside_seen callers id next low, within, made, held)

      -- ---- it began
      has_round : (next : Caller) (call : OpenCall) → next.number ≡ number → next.call ≡ Some call → IsSome now.round → HasRound (view_of last_proposer council acceptors (slice_set desks id now) (slice_set callers id next) flow_now after) id number
      has_round next call same is some = record {
        caller = caller_view next;
        at_caller = at_map caller_view (slice_set callers id next) id next (at_set callers id caller next at_caller);
        same_number = same;
        call = call_view call;
        is_call = ap (λ (o : Option OpenCall). option_map call_view o) is;
        desk = now;
        at_desk = at_set desks id desk now at_desk;
        is_open = some;
      }

      pub prepares : Prepares m.disks (era_in council.eras.0 id) key id desk now flow flow_now → after.marks ≡ book.marks ++ entry_marks opening → after.room + length (entry_marks opening) ≡ left → (done : A)
          → SettlesCall {A = A} m (view_of last_proposer council acceptors desks callers flow book) id number key program (view_of last_proposer council acceptors (slice_set desks id now) (slice_set callers id (entered caller opening marks)) flow_now after)
          (slice_set callers id (entered caller opening marks)) after.room (Ok done)
      prepares was made spent done =
          let next : Caller = entered caller opening marks in
          let is_round : now.round ≡ Some was.round = ap (λ (d : DeskView V). d.round) was.begins.desk in
          let by : Step m old (step.Begin id key program) (view_of last_proposer council acceptors (slice_set desks id now) (slice_set callers id next) flow_now after) =
          subst (λ (l : List Mark). Step m old (step.Begin id key program) (record (view_of last_proposer council acceptors (slice_set desks id now) (slice_set callers id next) flow_now after) { marks = l })) (sym made)
          (step_prepares last_proposer council acceptors desks callers flow book id number key program m next (opened_book book opening) caller at_caller marks (length (entry_marks opening)) is_entered same_marks desk now flow_now at_desk was) in
          record {
            event = step.Begin id key program;
            by = by;
            world = record {
              safe = steps_are_safe m _ (step.Begin id key program) _ inv.safe by;
              remembered = remembered_then m (step.Begin id key program) by inv.remembered;
              room = next_room next (length (entry_marks opening)) (omega (arith, is_entered.within, ap (λ (o : Option OpenCall). reserved_in o) is_entered.is_open)) spent;
              copies = copies_next desks callers id now next (subst (λ (r : Option Round). HasCopies r next.call) (sym is_round)
                  (none_yet was.round next.call (prepare_of was.round.era was.round.ballot [] was.round.phase was.begins.opened.1.phase))) inv.copies;
            };
            answers = (by, has_round next is_entered.call is_entered.same_number is_entered.is_open (subst (λ (r : Option Round). IsSome r) (sym is_round) refl));
          }

      pub proposes : (proposing : Proposing) → ProposesBy m.disks (era_in council.eras.0 id) key program (record { caller = id; call = number }) desk now flow flow_now proposing → after.marks ≡ book.marks ++ (entry_marks opening ++ proposing.mark ∷ [])
          → after.room + length (entry_marks opening ++ proposing.mark ∷ []) ≡ left → (done : A)
          → SettlesCall {A = A} m (view_of last_proposer council acceptors desks callers flow book) id number key program (view_of last_proposer council acceptors (slice_set desks id now) (slice_set callers id (proposes_now (entered caller opening marks) proposing)) flow_now after)
          (slice_set callers id (proposes_now (entered caller opening marks) proposing)) after.room (Ok done)
      proposes proposing was made spent done =
          let entry : Caller = entered caller opening marks in
          let next : Caller = proposes_now entry proposing in
          let riding : Round = record was.round { ride = was.ride } in
          let is_round : now.round ≡ Some riding = ap (λ (d : DeskView V). d.round) was.begins.desk in
          let next_call : next.call ≡ Some (with_proposal is_entered.call proposing) = ap (λ (o : Option OpenCall). option_map (λ call. with_proposal call proposing) o) is_entered.is_open in
          let one_more : length (entry_marks opening ++ proposing.mark ∷ []) ≡ length (entry_marks opening) + 1 = length-append (entry_marks opening) (proposing.mark ∷ []) in
          let by : Step m old (step.Begin id key program) (view_of last_proposer council acceptors (slice_set desks id now) (slice_set callers id next) flow_now after) =
          step_proposes last_proposer council acceptors desks callers flow book id number key program m entry (opened_book book opening) caller at_caller marks (length (entry_marks opening)) is_entered same_marks desk now flow_now after proposing at_desk was
          (made ∙ sym (append_assoc book.marks (entry_marks opening) (proposing.mark ∷ []))) in
          let held_copies : HasCopies (Some riding) (Some (with_proposal is_entered.call proposing)) =
          λ accepting. (
            proposing.copies,
            refl,
            ap (λ (p : Proposing). p.copies.key) was.made ∙ sym was.begins.opened.0.of_key,
            ap (λ (p : Proposing). p.copies.told) was.made ∙ sym (ap (λ (p : Proposing). p.outcome.state) was.made),
            ap (λ (p : Proposing). p.copies.answer) was.made ∙ sym (ap (λ (p : Proposing). p.outcome.state) was.made),
            ap (λ (p : Proposing). p.copies.kept) was.made ∙ sym (ap (λ (p : Proposing). p.outcome.state) was.made),
          ) in
          record {
            event = step.Begin id key program;
            by = by;
            world = record {
              safe = steps_are_safe m _ (step.Begin id key program) _ inv.safe by;
              remembered = remembered_then m (step.Begin id key program) by inv.remembered;
              room = next_room next (length (entry_marks opening ++ proposing.mark ∷ [])) (omega (arith, is_entered.within, is_entered.reserved, same_marks, one_more, ap (λ (o : Option OpenCall). reserved_in o) next_call)) spent;
              copies = copies_next desks callers id now next (subst (λ (r : Option Round). HasCopies r next.call) (sym is_round) (subst (λ (o : Option OpenCall). HasCopies (Some riding) o) (sym next_call) held_copies)) inv.copies;
            };
            answers = (by, has_round next (with_proposal is_entered.call proposing) is_entered.same_number next_call (subst (λ (r : Option Round). IsSome r) (sym is_round) refl));
          }

      -- ---- its caller is told why not
      none_left : (told : Answer) → FailsToOpen m.disks key desk now told → now.round ≡ None
      none_left answer.Down by = ap (λ (d : DeskView V). d.round) by.1 ∙ idle
      none_left answer.Spent by = ap (λ (d : DeskView V). d.round) by.4 ∙ idle
      none_left answer.VaultFault by = ap (λ (d : DeskView V). d.round) by.1.desk
      none_left (answer.NoMemory proposed) by = ap (λ (d : DeskView V). d.round) by.3.desk
      none_left (answer.Done _ _ _) by = elim by [ ]
      none_left (answer.Conflict _) by = elim by [ ]
      none_left (answer.Aged _) by = elim by [ ]
      none_left (answer.Full _) by = elim by [ ]
      none_left (answer.Short _ _) by = elim by [ ]
      none_left (answer.Moved _) by = elim by [ ]
      none_left answer.Crashed by = elim by [ ]
      none_left (answer.Unsettled _) by = elim by [ ]
      none_left answer.RecordFull by = elim by [ ]

      pub fails : (told : Answer) → is_refusal told ≡ false → FailsToOpen m.disks key desk now told → after.marks ≡ book.marks ++ entry_marks opening → after.room + length (entry_marks opening) ≡ left
          → SettlesCall {A = A} m (view_of last_proposer council acceptors desks callers flow book) id number key program (view_of last_proposer council acceptors (slice_set desks id now) (slice_set callers id (told_now (entered caller opening marks) told)) flow after)
          (slice_set callers id (told_now (entered caller opening marks) told)) after.room (Err told)
      fails told begun was made spent =
          let entry : Caller = entered caller opening marks in
          let next : Caller = told_now entry told in
          let next_call : next.call ≡ Some (over is_entered.call told) = ap (λ (o : Option OpenCall). option_map (λ call. over call told) o) is_entered.is_open in
          let by : Step m old (step.Begin id key program) (view_of last_proposer council acceptors (slice_set desks id now) (slice_set callers id next) flow after) =
          subst (λ (l : List Mark). Step m old (step.Begin id key program) (record (view_of last_proposer council acceptors (slice_set desks id now) (slice_set callers id next) flow after) { marks = l })) (sym made)
          (step_fails last_proposer council acceptors desks callers flow book id number key program m entry (opened_book book opening) caller at_caller marks (length (entry_marks opening)) is_entered desk now told at_desk idle was) in
          record {
            event = step.Begin id key program;
            by = by;
            world = record {
              safe = steps_are_safe m _ (step.Begin id key program) _ inv.safe by;
              remembered = remembered_then m (step.Begin id key program) by inv.remembered;
              room = next_room next (length (entry_marks opening)) (omega (arith, is_entered.within, is_entered.reserved, same_marks, ap (λ (o : Option OpenCall). reserved_in o) next_call)) spent;
              copies = copies_next desks callers id now next (idle_copies now.round next.call (none_left told was)) inv.copies;
            };
            answers = inl (by, was_told last_proposer council acceptors (slice_set desks id now) callers flow after id number caller next (over is_entered.call told) told at_caller is_entered.same_number next_call refl, λ none. begun);
          }

      -- ---- no memory was found
      pub loses : (proposed : Bool) → FailsToOpen m.disks key desk now (answer.NoMemory proposed) → Heeds caller.call (council_view council) id key (answer.NoMemory proposed) (council_view council_now) → after.marks ≡ book.marks → after.room ≡ left
          → SettlesCall {A = A} m (view_of last_proposer council acceptors desks callers flow book) id number key program (view_of last_proposer council_now acceptors (slice_set desks id now) (slice_set callers id (refused caller (answer.NoMemory proposed))) flow after)
          (slice_set callers id (refused caller (answer.NoMemory proposed))) after.room (Err (answer.NoMemory proposed))
      loses proposed was heeds made spent = loses_in may
        where
          told : Answer
          told = answer.NoMemory proposed

          loses_in : IsNewCall desk caller number ⊎ IsAnother desk caller number key program
              → SettlesCall {A = A} m (view_of last_proposer council acceptors desks callers flow book) id number key program (view_of last_proposer council_now acceptors (slice_set desks id now) (slice_set callers id (refused caller (answer.NoMemory proposed))) flow after)
              (slice_set callers id (refused caller (answer.NoMemory proposed))) after.room (Err (answer.NoMemory proposed))
          loses_in (inl first) =
              let anew = subst (λ (b : Bool). calls.Rescans (council_view council) id key (answer.NoMemory b) (council_view council_now)) was.0 (heeded_first council_now told first.none_open heeds) in
              let by : Step m old (step.RefuseBegin id key) (view_of last_proposer council_now acceptors (slice_set desks id now) (slice_set callers id (refused caller told)) flow after) =
              calls.loses (caller_view caller) desk now was.2 (council_view council_now) (at_map caller_view callers id caller at_caller) at_desk first.idle was.1 was.3 anew
              (ap (λ (l : List Caller). view_of last_proposer council_now acceptors (slice_set desks id now) l flow after) (callers_same told first.none_open)
              ∙ council_next last_proposer council council_now acceptors (slice_set desks id now) callers flow after (council_view council_now) eras refl
              ∙ ap (λ (l : List Mark). record (view_of last_proposer council acceptors (slice_set desks id now) callers flow book) { council = council_view council_now; marks = l }) made) in
              record {
                event = step.RefuseBegin id key;
                by = by;
                world = record {
                  safe = steps_are_safe m _ (step.RefuseBegin id key) _ inv.safe by;
                  remembered = remembered_then m (step.RefuseBegin id key) by inv.remembered;
                  room = omega (arith, refused_room told after.room (inl first) (omega (arith, spent, grows)), rescan_reserves (council_view council) (council_view council_now) id key (answer.NoMemory false) anew);
                  copies = copies_next desks callers id now (refused caller told) (idle_copies now.round (refused caller told).call (none_left told was)) inv.copies;
                };
                answers = inr (by, no_call first.none_open, inr (ap (λ (b : Bool). answer.NoMemory b) was.0), heeded_first council_now told first.none_open heeds);
              }
          loses_in (inr another) =
              let is = entered_one another in
              let by : Step m old (step.Begin id key program) (view_of last_proposer council acceptors (slice_set desks id now) (slice_set callers id (refused caller told)) flow after) =
              subst (λ (c : Caller). Step m old (step.Begin id key program) (view_of last_proposer council acceptors (slice_set desks id now) (slice_set callers id c) flow after)) (sym (refused_open told another.call another.is_call))
              (subst (λ (l : List Mark). Step m old (step.Begin id key program) (record (view_of last_proposer council acceptors (slice_set desks id now) (slice_set callers id (told_now (entered caller None 1) told)) flow after) { marks = l })) (append-nil book.marks ∙ sym made)
              (step_fails last_proposer council acceptors desks callers flow book id number key program m (entered caller None 1) (opened_book book None) caller at_caller 1 0 is desk now told at_desk another.idle was)) in
              seen_as_before council_now eras (heeded_again council_now told another heeds) (slice_set desks id now) (slice_set callers id (refused caller told)) flow after (Err told) (record {
                event = step.Begin id key program;
                by = by;
                world = record {
                  safe = steps_are_safe m _ (step.Begin id key program) _ inv.safe by;
                  remembered = remembered_then m (step.Begin id key program) by inv.remembered;
                  room = refused_room told after.room (inr another) (omega (arith, spent, grows));
                  copies = copies_next desks callers id now (refused caller told) (idle_copies now.round (refused caller told).call (none_left told was)) inv.copies;
                };
                answers = inl (by, told_one told another (slice_set desks id now) flow after, λ none. absurd (is_no_first another none));
              })

      -- ---- all of it
      pub settles : (begun : Result (Option Proposing) Answer) → IfOk begun (OpensRound m.disks (era_in council.eras.0 id) key program (record { caller = id; call = number }) desk now flow flow_now) → IfErr begun (FailsToOpen m.disks key desk now) → OnErr begun (flow_now ≡ flow)
          → HeedsLoss caller.call (council_view council) id key begun (council_view council_now) → after.marks ≡ book.marks ++ settled_marks opening begun → after.room + length (settled_marks opening begun) ≡ left → (result : Result A Answer) → IfErr begun (λ told. result ≡ Err told) → OnOk begun (IsOk result)
          → SettlesCall {A = A} m (view_of last_proposer council acceptors desks callers flow book) id number key program (view_of last_proposer council_now acceptors (slice_set desks id now) (slice_set callers id (settled caller opening marks begun)) flow_now after)
          (slice_set callers id (settled caller opening marks begun)) after.room result
      settles (Ok None) opens refuses stays heeds made spent result err ok = seen_as_before council_now eras heeds (slice_set desks id now) (slice_set callers id (entered caller opening marks)) flow_now after result
          (subst (λ (r : Result A Answer). SettlesCall {A = A} m (view_of last_proposer council acceptors desks callers flow book) id number key program
          (view_of last_proposer council acceptors (slice_set desks id now) (slice_set callers id (entered caller opening marks)) flow_now after) (slice_set callers id (entered caller opening marks)) after.room r) (sym (is_ok result ok).1) (prepares opens made spent (is_ok result ok).0))
      settles (Ok (Some proposing)) opens refuses stays heeds made spent result err ok = seen_as_before council_now eras heeds (slice_set desks id now) (slice_set callers id (proposes_now (entered caller opening marks) proposing)) flow_now after result
          (subst (λ (r : Result A Answer). SettlesCall {A = A} m (view_of last_proposer council acceptors desks callers flow book) id number key program
          (view_of last_proposer council acceptors (slice_set desks id now) (slice_set callers id (proposes_now (entered caller opening marks) proposing)) flow_now after) (slice_set callers id (proposes_now (entered caller opening marks) proposing)) after.room r) (sym (is_ok result ok).1)
          (proposes proposing opens made spent (is_ok result ok).0))
      settles (Err told) opens refuses stays heeds made spent result err ok =
          subst (λ (f : FlowView). SettlesCall {A = A} m (view_of last_proposer council acceptors desks callers flow book) id number key program (view_of last_proposer council_now acceptors (slice_set desks id now) (slice_set callers id (settled caller opening marks (Err told))) f after)
          (slice_set callers id (settled caller opening marks (Err told))) after.room result) (sym stays)
          (subst (λ (r : Result A Answer). SettlesCall {A = A} m (view_of last_proposer council acceptors desks callers flow book) id number key program (view_of last_proposer council_now acceptors (slice_set desks id now) (slice_set callers id (settled caller opening marks (Err told))) flow after)
          (slice_set callers id (settled caller opening marks (Err told))) after.room r) (sym err) (by_told told refuses heeds made spent))
        where
          fails_so : (told : Answer) → is_refusal told ≡ false → FailsToOpen m.disks key desk now told → council_view council_now ≡ council_view council → after.marks ≡ book.marks ++ entry_marks opening → after.room + length (entry_marks opening) ≡ left
              → SettlesCall {A = A} m (view_of last_proposer council acceptors desks callers flow book) id number key program (view_of last_proposer council_now acceptors (slice_set desks id now) (slice_set callers id (told_now (entered caller opening marks) told)) flow after)
              (slice_set callers id (told_now (entered caller opening marks) told)) after.room (Err told)
          fails_so told begun was same made spent = seen_as_before council_now eras same (slice_set desks id now) (slice_set callers id (told_now (entered caller opening marks) told)) flow after (Err told) (fails told begun was made spent)

          by_told : (told : Answer) → FailsToOpen m.disks key desk now told → HeedsLoss caller.call (council_view council) id key (Err told) (council_view council_now) → after.marks ≡ book.marks ++ settled_marks opening (Err told) → after.room + length (settled_marks opening (Err told)) ≡ left
              → SettlesCall {A = A} m (view_of last_proposer council acceptors desks callers flow book) id number key program (view_of last_proposer council_now acceptors (slice_set desks id now) (slice_set callers id (settled caller opening marks (Err told))) flow after)
              (slice_set callers id (settled caller opening marks (Err told))) after.room (Err told)
          by_told answer.Down was heeds made spent = fails_so answer.Down refl was heeds made spent
          by_told answer.Spent was heeds made spent = fails_so answer.Spent refl was heeds made spent
          by_told answer.VaultFault was heeds made spent = fails_so answer.VaultFault refl was heeds made spent
          by_told (answer.NoMemory proposed) was heeds made spent = loses proposed was heeds (made ∙ append-nil book.marks) (omega (arith, spent))
          by_told (answer.Done _ _ _) was heeds made spent = elim was [ ]
          by_told (answer.Conflict _) was heeds made spent = elim was [ ]
          by_told (answer.Aged _) was heeds made spent = elim was [ ]
          by_told (answer.Full _) was heeds made spent = elim was [ ]
          by_told (answer.Short _ _) was heeds made spent = elim was [ ]
          by_told (answer.Moved _) was heeds made spent = elim was [ ]
          by_told answer.Crashed was heeds made spent = elim was [ ]
          by_told (answer.Unsettled _) was heeds made spent = elim was [ ]
          by_told answer.RecordFull was heeds made spent = elim was [ ]
