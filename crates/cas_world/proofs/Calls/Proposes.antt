-- What the end of a prepare phase does to the whole.
use Rattle.std.proofs.Common.{◌≡◌, ◌⊎◌, ◌<◌, ◌≤◌, ℕ, Bool, true, false, List, [], ◌∷◌, ◌++◌, Option, None, Some, inl, inr, slice_set, slice_index_or, refl, sym, ap, subst, ◌∙◌, arith}
use Rattle.std.specs.Prelude.{◌+◌, Result, Ok, Err, IsTrue, IfOk, IfSome, OnOk, map, option_map}
use Rattle.std.proofs.lemmas.List.{length-map}
use Rattle.cas_base.proofs.Bools.{true_or_false, and_right}
use Rattle.cas_acceptor.specs.Acceptor.{AcceptorView}
use Rattle.cas_ballot.specs.declared.ballot.Ballot.{Ballot}
use Rattle.cas_cache.specs.declared.ready.Ready.{Ready}
use Rattle.cas_cache.specs.Entries.{without}
use Rattle.cas_change.specs.Outcome.{outcome_of}
use Rattle.cas_change.specs.declared.state.State.{State}
use Rattle.cas_flow.specs.Flow.{FlowView, queue_at}
use Rattle.cas_proposer.specs.Desk.{DeskView, counter_after, counter_without, may_read}
use Rattle.cas_proposer.specs.Round.{is_preparing, has_quorum, TurnsToAccept}
use Rattle.cas_proposer.specs.declared.round.Round.{Round}
use Rattle.cas_quorum.specs.declared.era.Era.{Era}
use Rattle.cas_record.specs.Book.{Book}
use Rattle.cas_record.specs.declared.answer.Answer.{Answer}
use Rattle.cas_record.specs.declared.answer.Answer.TheVariants as answer
use Rattle.cas_record.specs.declared.mark.Mark.{Mark}
use Rattle.cas_round.specs.declared.verdict.RoundVerdict.{RoundVerdict}
use Rattle.cas_round.specs.declared.verdict.RoundVerdict.TheVariants as verdicts
use Rattle.cas_vault.specs.Vault.{counter_of, kept_of}
use Rattle.cas_slot.specs.declared.slot.Accepted.{Accepted}
use Rattle.cas_slot.specs.Slot.{accepted_ballot}
use Rattle.cas_protocol.specs.Proposers.{state_read}
use Rattle.cas_model.specs.Safe.{IsOpenSafe, IsRoundSafe}
use Rattle.cas_model.specs.Step.{OpenRoundAt, StepPropose}
use Rattle.cas_model.specs.Calls.Step as calls
use Rattle.cas_model.specs.Calls.Step.{Sends, accepts_to}
use Rattle.cas_model.specs.View.{DiskMeaning, Meaning, View, CallView, CallerView, IsAt, reserved_in, reserved_of, era_in}
use Rattle.cas_model.proofs.Places.{at_one, at_set, some_is}
use Rattle.cas_model.proofs.Safety.Parts.{reserved_set}
use Rattle.cas_model.proofs.Stops.Safe.{reserves_one}
use Rattle.cas_model.specs.Council.{reserved_by}
use Rattle.cas_world_calls.specs.Council.{council_view}
use Rattle.cas_world_calls.specs.declared.council.Council.{Council}
use Rattle.cas_protocol.specs.Protocol.{is_done}
use Rattle.cas_world_calls.specs.Call.{over, with_proposal}
use Rattle.cas_world_calls.specs.Proposing.{proposing_of, ProposesOn, FailsToPropose}
use Rattle.cas_world.specs.Calls.Reading as reading
use Rattle.cas_world.specs.Calls.Reading.{MayEndPrepare, ReadsRound, Proposes, EndsShort, HasProposed, ready_of}
use Rattle.cas_world.specs.World.{HasCopies, IsInPhase, IsWorld, WasTold, view_of, call_view, caller_view}
use Rattle.cas_world_calls.specs.declared.call.Caller.{Caller}
use Rattle.cas_world_calls.specs.declared.call.OpenCall.{OpenCall}
use Rattle.cas_world_calls.specs.declared.proposal.Author.{Author}
use Rattle.cas_world_calls.specs.declared.proposal.Proposing.{Proposing}
use Rattle.cas_world.proofs.Calls.Callers.{map_set, at_map, seen_open}
use Rattle.cas_world.proofs.Calls.Ends.{some_room}
use Rattle.cas_world.proofs.Parts.{at_place}
use Rattle.cas_world.proofs.Stops.Stops.{HaveCopies, copies_next}

-- ---- a prepare phase with a quorum
pub quorum_in : (open_one : Option Round) (round : Round) → open_one ≡ Some round → IsTrue (may_read open_one) → has_quorum round.phase ≡ true
quorum_in open_one round is may = and_right (is_preparing round.phase) (has_quorum round.phase) (subst (λ (r : Option Round). IsTrue (may_read r)) is may)

-- what stands ready, by its parts
pub ready_is : (lent_one round : Round) (read : Option Accepted) (by : List ℕ) (ballot : Ballot) (state : State) → lent_one ≡ round → ballot ≡ accepted_ballot read → state ≡ state_read read
    → (let ready : Ready = record { ballot = lent_one.ballot; state = state; read = ballot; by = by } in ready) ≡ ready_of round read by
ready_is lent_one round read by ballot state same is_ballot is_state =
    ap (λ (r : Round). let ready : Ready = record { ballot = r.ballot; state = state; read = ballot; by = by } in ready) same
    ∙ ap (λ (b : Ballot). let ready : Ready = record { ballot = round.ballot; state = state; read = b; by = by } in ready) is_ballot
    ∙ ap (λ (s : State). let ready : Ready = record { ballot = round.ballot; state = s; read = accepted_ballot read; by = by } in ready) is_state

-- ---- what was read is proposed
module _ {V : Type 0} (m : DiskMeaning V) (round : Round) (old mid new : DeskView V) (at : mid ≡ record old { round = mid.round }) (turned : Round) (turned_is : mid.round ≡ Some turned) (turns : TurnsToAccept round turned) where
  turned_desk : mid ≡ record old { round = Some turned }
  turned_desk = at ∙ ap (λ (r : Option Round). record old { round = r }) turned_is

  pub proposed_on : (proposer number : ℕ) (call : OpenCall) (before after : FlowView) (era : Era) (ready : Ready) (made : Proposing) → ReadsRound round era ready → round.key ≡ call.key → has_quorum round.phase ≡ true
      → made ≡ proposing_of (record { caller = proposer; call = number }) call.key era.number call.program ready
      → ProposesOn m turned mid new proposer call.key era (outcome_of call.program ready.state).state ready.ballot before after
      → Proposes m proposer number round call old new before after made
  proposed_on proposer number call before after era ready made reads same_key quorum made_is sent =
      let on : ProposesOn m turned (record old { round = Some turned }) new proposer call.key era (outcome_of call.program ready.state).state ready.ballot before after =
      subst (λ (d : DeskView V). ProposesOn m turned d new proposer call.key era (outcome_of call.program ready.state).state ready.ballot before after) turned_desk sent in
      let author : Author = record { caller = proposer; call = number } in record {
        turned = turned;
        read = reads.read;
        by = reads.by;
        ride = on.ride;
        quorum = quorum;
        confirmers = reads.confirmers;
        is_read = reads.is_read;
        turns = record { turns = turns; due = on.rides.due; drawn = on.rides.drawn; aged = on.rides.aged; desk = on.rides.desk };
        made = made_is ∙ ap (λ (k : List ℕ). proposing_of author k era.number call.program ready) (sym same_key)
            ∙ ap (λ (e : Era). proposing_of author round.key e.number call.program ready) reads.in_era
            ∙ ap (λ (r : Ready). proposing_of author round.key round.era.number call.program r) reads.is_ready;
        sends = subst (λ (r : Ready). Sends before proposer (accepts_to proposer (kept_of old.vault).age round.key r.ballot round.era.number on.ride (outcome_of call.program r.state).state round.era.acc) after) reads.is_ready
            (subst (λ (e : Era). Sends before proposer (accepts_to proposer (kept_of old.vault).age round.key ready.ballot e.number on.ride (outcome_of call.program ready.state).state e.acc) after) reads.in_era
            (subst (λ (k : List ℕ). Sends before proposer (accepts_to proposer (kept_of old.vault).age k ready.ballot era.number on.ride (outcome_of call.program ready.state).state era.acc) after) (sym same_key) on.sends));
      }

  -- a round that has turned and does not propose ends as one that has not
  failed_once_turned : (told : Answer) → old.round ≡ Some round → FailsToPropose m turned.key (record old { round = Some turned }) new told → FailsToPropose m round.key old new told
  failed_once_turned answer.VaultFault is by = record {
    desk = by.desk ∙ ap (λ (k : List ℕ). record old { vault = new.vault; cache = without k old.cache; round = None; down = true }) (ap (λ (r : Round). r.key) turns.same);
    counter = by.counter ∙ ap (λ (b : Option Ballot). counter_after (counter_of old.vault) b) (ap (λ (r : Round). r.met) turns.same) ∙ sym (ap (λ (r : Option Round). counter_without r (counter_of old.vault)) is);
    kept = by.kept;
    goes_on = by.goes_on;
    faulted = by.faulted;
  }
  failed_once_turned (answer.NoMemory proposed) is by = (
    by.0,
    by.1,
    record {
      desk = by.2.desk;
      cache = subst (λ (k : List ℕ). (new.cache ≡ old.cache) ⊎ (new.cache ≡ without k old.cache)) (ap (λ (r : Round). r.key) turns.same) by.2.cache;
      middle = by.2.middle;
      drawn = by.2.drawn;
      counter = by.2.counter ∙ ap (λ (b : Option Ballot). counter_after (counter_of by.2.middle) b) (ap (λ (r : Round). r.met) turns.same) ∙ sym (ap (λ (r : Option Round). counter_without r (counter_of by.2.middle)) is);
      kept = by.2.kept;
      goes_on = by.2.goes_on;
    },
  )
  failed_once_turned (answer.Done _ _ _) is by = elim by [ ]
  failed_once_turned (answer.Conflict _) is by = elim by [ ]
  failed_once_turned (answer.Aged _) is by = elim by [ ]
  failed_once_turned (answer.Full _) is by = elim by [ ]
  failed_once_turned (answer.Short _ _) is by = elim by [ ]
  failed_once_turned (answer.Moved _) is by = elim by [ ]
  failed_once_turned answer.Crashed is by = elim by [ ]
  failed_once_turned (answer.Unsettled _) is by = elim by [ ]
  failed_once_turned answer.Down is by = elim by [ ]
  failed_once_turned answer.Spent is by = elim by [ ]
  failed_once_turned answer.RecordFull is by = elim by [ ]

  pub failed_on : (told : Answer) → old.round ≡ Some round → FailsToPropose m turned.key mid new told → FailsToPropose m round.key old new told
  failed_on told is fails = failed_once_turned told is (subst (λ (d : DeskView V). FailsToPropose m turned.key d new told) turned_desk fails)

-- by what was answered
pub proposed_by : (P : Type 0) (Q : Proposing → Type 0) (r : Result Proposing Answer) (made : Proposing) → IfOk r (λ p. p ≡ made) → OnOk r P → ((p : Proposing) → p ≡ made → P → Q p) → IfOk r Q
proposed_by P Q (Ok p) made is on to = to p is on
proposed_by P Q (Err told) made is on to = tt

-- ---- what is told of a round that ends
verdict_not_done : (verdict : RoundVerdict) (told : Answer) → calls.refusal_by verdict ≡ Some told → is_done told ≡ false
verdict_not_done verdicts.Quorum told is = absurd (cc is)
verdict_not_done (verdicts.Met ballot) told is = ap is_done (sym (some_is is))
verdict_not_done (verdicts.Aged least) told is = ap is_done (sym (some_is is))
verdict_not_done (verdicts.Full acceptor) told is = ap is_done (sym (some_is is))
verdict_not_done (verdicts.Short got need) told is = ap is_done (sym (some_is is))

failure_not_done : {V : Type 0} (m : DiskMeaning V) (key : List ℕ) (old new : DeskView V) (told : Answer) → FailsToPropose m key old new told → is_done told ≡ false
failure_not_done m key old new answer.VaultFault by = refl
failure_not_done m key old new (answer.NoMemory proposed) by = refl
failure_not_done m key old new (answer.Done _ _ _) by = elim by [ ]
failure_not_done m key old new (answer.Conflict _) by = elim by [ ]
failure_not_done m key old new (answer.Aged _) by = elim by [ ]
failure_not_done m key old new (answer.Full _) by = elim by [ ]
failure_not_done m key old new (answer.Short _ _) by = elim by [ ]
failure_not_done m key old new (answer.Moved _) by = elim by [ ]
failure_not_done m key old new answer.Crashed by = elim by [ ]
failure_not_done m key old new (answer.Unsettled _) by = elim by [ ]
failure_not_done m key old new answer.Down by = elim by [ ]
failure_not_done m key old new answer.Spent by = elim by [ ]
failure_not_done m key old new answer.RecordFull by = elim by [ ]

pub not_done : {V : Type 0} (m : DiskMeaning V) (round : Round) (old new : DeskView V) (told : Answer) → EndsShort m round old new told → is_done told ≡ false
not_done m round old new told (reading.by_verdict verdict is refuses ends) = verdict_not_done verdict told refuses
not_done m round old new told (reading.by_failure fails) = failure_not_done m round.key old new told fails

-- its round is over then
failed_idle_desk : {V : Type 0} (m : DiskMeaning V) (key : List ℕ) (old new : DeskView V) (told : Answer) → FailsToPropose m key old new told → new.round ≡ None
failed_idle_desk {V} m key old new answer.VaultFault by = ap (λ (d : DeskView V). d.round) by.desk
failed_idle_desk {V} m key old new (answer.NoMemory proposed) by = ap (λ (d : DeskView V). d.round) by.2.desk
failed_idle_desk m key old new (answer.Done _ _ _) by = elim by [ ]
failed_idle_desk m key old new (answer.Conflict _) by = elim by [ ]
failed_idle_desk m key old new (answer.Aged _) by = elim by [ ]
failed_idle_desk m key old new (answer.Full _) by = elim by [ ]
failed_idle_desk m key old new (answer.Short _ _) by = elim by [ ]
failed_idle_desk m key old new (answer.Moved _) by = elim by [ ]
failed_idle_desk m key old new answer.Crashed by = elim by [ ]
failed_idle_desk m key old new (answer.Unsettled _) by = elim by [ ]
failed_idle_desk m key old new answer.Down by = elim by [ ]
failed_idle_desk m key old new answer.Spent by = elim by [ ]
failed_idle_desk m key old new answer.RecordFull by = elim by [ ]

pub idle_then : {V : Type 0} (m : DiskMeaning V) (round : Round) (old new : DeskView V) (told : Answer) → EndsShort m round old new told → new.round ≡ None
idle_then {V} m round old new told (reading.by_verdict verdict is refuses ends) = ap (λ (d : DeskView V). d.round) ends.desk
idle_then m round old new told (reading.by_failure fails) = failed_idle_desk m round.key old new told fails

-- ---- a desk and its caller whose prepare phase may end
pub record IsProposing {V : Type 0} (desks : List (DeskView V)) (callers : List Caller) (flow : FlowView) (id : ℕ) (desk : DeskView V) (caller : Caller) (left : ℕ) : Type 0 where
  pub at_desk : IsAt desks id desk
  pub at_caller : IsAt callers id caller
  pub may : MayEndPrepare desk caller flow id
  pub reserved : 0 < may.call.reserved
  pub room : 0 < left

pub proposing_in : {S V : Type 0} {m : Meaning S V} (last_proposer : ℕ) (council : Council) (acceptors : List (AcceptorView S)) (desks : List (DeskView V)) (callers : List Caller) (flow : FlowView) (book : Book) (now : View S V) (place id : ℕ) (desk : DeskView V) (caller : Caller)
    → place ≡ id → view_of last_proposer council acceptors desks callers flow book ≡ now → id ≤ now.last_proposer → IsWorld m (view_of last_proposer council acceptors desks callers flow book) callers book.room → desk ≡ slice_index_or desks place desk → caller ≡ slice_index_or callers place caller
    → IsInPhase now id true → IsProposing desks callers flow id desk caller book.room
proposing_in {S} {V} {m} last_proposer council acceptors desks callers flow book now place id desk caller same view low world desk_is caller_is seen =
    let phase = subst (λ (v : View S V). IsInPhase v id true) (sym view) seen in
    let safe = world.safe in
    let known : id ≤ last_proposer = omega (arith, low, ap (λ (v : View S V). v.last_proposer) view) in
    let at_desk = at_place desks place id desk same (omega (arith, safe.sound.desks, known)) desk_is in
    let at_caller = at_place callers place id caller same (omega (arith, safe.sound.callers, known, length-map callers caller_view)) caller_is in
    let at_seen = at_map caller_view callers id caller at_caller in
    let party = safe.sound.parties id desk (caller_view caller) at_desk at_seen in
    let is_round : desk.round ≡ Some phase.round = ap (λ (d : DeskView V). d.round) (at_one desks id at_desk phase.at_desk) ∙ phase.is_round in
    let is : IsOpenSafe (era_in council.eras.0 id) (caller_view caller) (queue_at flow id) phase.round = subst (IsRoundSafe (era_in council.eras.0 id) (caller_view caller) (queue_at flow id)) is_round party.round in
    let found = seen_open caller.call is.call is.is_open in
    let same_call : call_view found.0 ≡ is.call = some_is (ap (λ (o : Option OpenCall). option_map call_view o) (sym found.1) ∙ is.is_open) in
    let some : 0 < found.0.reserved = omega (arith, reserves_one (era_in council.eras.0 id) (caller_view caller) (queue_at flow id) phase.round is (safe.sound.prep_sets id) (safe.sound.acc_sets id), ap (λ (c : CallView). c.reserved) same_call) in
    record {
      at_desk = at_desk;
      at_caller = at_caller;
      may = record {
        round = phase.round;
        is_round = is_round;
        preparing = phase.phase;
        up = elim (true_or_false desk.down) [ inl down ↦ absurd (cc (party.idle down, is_round)) | inr up ↦ up ];
        call = found.0;
        is_open = found.1;
        same_key = is.same_key ∙ ap (λ (c : CallView). c.key) (sym same_call);
        ballot = is.ballot;
        number = omega (arith, party.same_id, known, safe.sound.few);
        few = omega (arith, known, safe.sound.few);
        queue = omega (arith, known, safe.sound.few, safe.sound.own);
      };
      reserved = some;
      room = some_room (reserved_by (council_view council)) callers id caller found.0 book.room at_caller found.1 some world.room;
    }

-- the round whose prepare phase ends
abbrev at_round : {S V : Type 0} (last_proposer : ℕ) (council : Council) (acceptors : List (AcceptorView S)) (desks : List (DeskView V)) (callers : List Caller) (flow : FlowView) (book : Book) (id : ℕ) (desk : DeskView V) (caller : Caller)
    → (queue_at flow id).messages ≡ [] → IsProposing desks callers flow id desk caller book.room → OpenRoundAt (view_of last_proposer council acceptors desks callers flow book) id
at_round last_proposer council acceptors desks callers flow book id desk caller none is = record {
  of_call = record { caller = caller_view caller; at_caller = at_map caller_view callers id caller is.at_caller; call = call_view is.may.call; is_open = ap (λ (o : Option OpenCall). option_map call_view o) is.may.is_open };
  desk = desk;
  at_desk = is.at_desk;
  up = is.may.up;
  round = is.may.round;
  is_open = is.may.is_round;
  none_waits = none;
}

-- what is seen of a caller's other call
seen_next : {S V : Type 0} (last_proposer : ℕ) (council : Council) (acceptors : List (AcceptorView S)) (desks : List (DeskView V)) (callers : List Caller) (flow : FlowView) (book : Book) (id : ℕ) (caller next : Caller) (call : OpenCall) → next ≡ record caller { call = Some call }
    → view_of last_proposer council acceptors desks (slice_set callers id next) flow book ≡ record (view_of last_proposer council acceptors desks callers flow book) { callers = slice_set (map caller_view callers) id (record (caller_view caller) { call = Some (call_view call) }) }
seen_next {S} {V} last_proposer council acceptors desks callers flow book id caller next call is =
    ap (λ (l : List CallerView). record (view_of last_proposer council acceptors desks callers flow book) { callers = l }) (map_set caller_view callers id next ∙ ap (λ (c : Caller). slice_set (map caller_view callers) id (caller_view c)) is)

-- ---- it proposes
pub proposes : {S V : Type 0} (m : Meaning S V) (last_proposer : ℕ) (council : Council) (acceptors : List (AcceptorView S)) (desks : List (DeskView V)) (callers : List Caller) (flow flow_now : FlowView) (book after : Book) (id : ℕ) (desk now : DeskView V) (caller next : Caller) (made : Proposing)
    → (queue_at flow id).messages ≡ [] → (is : IsProposing desks callers flow id desk caller book.room) → Proposes m.disks id caller.number is.may.round is.may.call desk now flow flow_now made
    → next ≡ record caller { call = Some (with_proposal is.may.call made) } → after.marks ≡ book.marks ++ made.mark ∷ []
    → StepPropose m (view_of last_proposer council acceptors desks callers flow book) id (view_of last_proposer council acceptors (slice_set desks id now) (slice_set callers id next) flow_now after)
proposes {S} {V} m last_proposer council acceptors desks callers flow flow_now book after id desk now caller next made none is by next_is marks =
    let author : Author = record { caller = id; call = caller.number } in
    let whole : Proposing = proposing_of author is.may.round.key is.may.round.era.number is.may.call.program (ready_of is.may.round by.read by.by) in
    record {
      at_round = at_round last_proposer council acceptors desks callers flow book id desk caller none is;
      preparing = is.may.preparing;
      proposes = calls.proposes now by.turned by.read by.by by.ride (outcome_of is.may.call.program (state_read by.read)) flow_now by.quorum by.confirmers by.is_read by.turns refl by.sends
          (seen_next last_proposer council acceptors (slice_set desks id now) callers flow_now after id caller next (with_proposal is.may.call whole) (next_is ∙ ap (λ (p : Proposing). record caller { call = Some (with_proposal is.may.call p) }) by.made)
          ∙ ap (λ (l : List Mark). record (view_of last_proposer council acceptors (slice_set desks id now) callers flow_now book)
          { callers = slice_set (map caller_view callers) id (record (caller_view caller) { call = Some (call_view (with_proposal is.may.call whole)) }); marks = l }) (marks ∙ ap (λ (p : Proposing). book.marks ++ p.mark ∷ []) by.made));
    }

-- a mark of what was reserved is made
pub room_proposed : (beside : ℕ) (callers : List Caller) (id : ℕ) (caller next : Caller) (call : OpenCall) (made : Proposing) (room left : ℕ) → IsAt callers id caller → caller.call ≡ Some call → next ≡ record caller { call = Some (with_proposal call made) } → 0 < call.reserved → left + 1 ≡ room
    → reserved_of (map caller_view callers) + beside ≤ room → reserved_of (map caller_view (slice_set callers id next)) + beside ≤ left
room_proposed beside callers id caller next call made room left at is_open is some spent low =
    omega (
      arith,
      some,
      spent,
      low,
      ap (λ (l : List CallerView). reserved_of l) (map_set caller_view callers id next),
      reserved_set (map caller_view callers) id (caller_view caller) (caller_view next) (at_map caller_view callers id caller at),
      ap (λ (o : Option OpenCall). reserved_in (option_map call_view o)) is_open,
      ap (λ (c : Caller). reserved_in (caller_view c).call) is,
    )

-- the end of the accept phase has its copies
pub copies_made : {V : Type 0} (m : DiskMeaning V) (desks : List (DeskView V)) (callers : List Caller) (id proposer number : ℕ) (round : Round) (call : OpenCall) (desk now : DeskView V) (caller next : Caller) (flow flow_now : FlowView) (made : Proposing)
    → Proposes m proposer number round call desk now flow flow_now made → next ≡ record caller { call = Some (with_proposal call made) } → HaveCopies desks callers → HaveCopies (slice_set desks id now) (slice_set callers id next)
copies_made {V} m desks callers id proposer number round call desk now caller next flow flow_now made by next_is were =
    let author : Author = record { caller = proposer; call = number } in
    let whole : Proposing = proposing_of author round.key round.era.number call.program (ready_of round by.read by.by) in
    let has : HasCopies (Some (record by.turned { ride = by.ride })) (Some (with_proposal call whole)) = λ accepting. (whole.copies, refl, sym (ap (λ (r : Round). r.key) by.turns.turns.same), refl, refl, refl) in
    copies_next desks callers id now next
    (subst (λ (o : Option OpenCall). HasCopies now.round o) (sym (ap (λ (c : Caller). c.call) next_is ∙ ap (λ (p : Proposing). Some (with_proposal call p)) by.made))
    (subst (λ (o : Option Round). HasCopies o (Some (with_proposal call whole))) (sym (ap (λ (d : DeskView V). d.round) by.turns.desk)) has))
    were

pub has_proposed : {S V : Type 0} (m : DiskMeaning V) (last_proposer : ℕ) (council : Council) (acceptors : List (AcceptorView S)) (desks : List (DeskView V)) (callers : List Caller) (flow flow_now : FlowView) (after : Book) (id proposer number : ℕ) (round : Round) (call : OpenCall) (desk now : DeskView V) (caller next : Caller) (made : Proposing)
    → IsAt desks id desk → IsAt callers id caller → Proposes m proposer number round call desk now flow flow_now made → next ≡ record caller { call = Some (with_proposal call made) }
    → HasProposed (view_of last_proposer council acceptors (slice_set desks id now) (slice_set callers id next) flow_now after) id
has_proposed {S} {V} m last_proposer council acceptors desks callers flow flow_now after id proposer number round call desk now caller next made at_desk at_caller by next_is = record {
  desk = now;
  at_desk = at_set desks id desk now at_desk;
  round = record by.turned { ride = by.ride };
  is_round = ap (λ (d : DeskView V). d.round) by.turns.desk;
  accepting = by.turns.turns.accepting;
  caller = caller_view next;
  at_caller = at_map caller_view (slice_set callers id next) id next (at_set callers id caller next at_caller);
  call = call_view (with_proposal call made);
  is_open = ap (λ (c : Caller). option_map call_view c.call) next_is;
  not_told = refl;
}

-- ---- it ends short
fails_short : {S V : Type 0} (m : Meaning S V) (old : View S V) (id : ℕ) (desk now : DeskView V) (round : Round) (caller : CallerView) (call : CallView) (told : Answer) (new : View S V) → FailsToPropose m.disks round.key desk now told
    → new ≡ calls.with_call (record old { desks = slice_set old.desks id now }) id caller (calls.over call told) → calls.ProposesOrEnds m old id desk round caller call new
fails_short m old id desk now round caller call answer.VaultFault new by view = calls.fails now by view
fails_short {S} {V} m old id desk now round caller call (answer.NoMemory proposed) new by view = calls.loses now by.1 by.2 (view ∙ ap (λ (b : Bool). calls.with_call (record old { desks = slice_set old.desks id now }) id caller (calls.over call (answer.NoMemory b))) by.0)
fails_short m old id desk now round caller call (answer.Done _ _ _) new by view = elim by [ ]
fails_short m old id desk now round caller call (answer.Conflict _) new by view = elim by [ ]
fails_short m old id desk now round caller call (answer.Aged _) new by view = elim by [ ]
fails_short m old id desk now round caller call (answer.Full _) new by view = elim by [ ]
fails_short m old id desk now round caller call (answer.Short _ _) new by view = elim by [ ]
fails_short m old id desk now round caller call (answer.Moved _) new by view = elim by [ ]
fails_short m old id desk now round caller call answer.Crashed new by view = elim by [ ]
fails_short m old id desk now round caller call (answer.Unsettled _) new by view = elim by [ ]
fails_short m old id desk now round caller call answer.Down new by view = elim by [ ]
fails_short m old id desk now round caller call answer.Spent new by view = elim by [ ]
fails_short m old id desk now round caller call answer.RecordFull new by view = elim by [ ]

ends_short : {S V : Type 0} (m : Meaning S V) (old : View S V) (id : ℕ) (desk now : DeskView V) (round : Round) (caller : CallerView) (call : CallView) (told : Answer) (new : View S V) → EndsShort m.disks round desk now told
    → new ≡ calls.with_call (record old { desks = slice_set old.desks id now }) id caller (calls.over call told) → calls.ProposesOrEnds m old id desk round caller call new
ends_short m old id desk now round caller call told new (reading.by_verdict verdict is refuses ends) view = calls.ends now verdict told is refuses ends view
ends_short m old id desk now round caller call told new (reading.by_failure fails) view = fails_short m old id desk now round caller call told new fails view

pub ends : {S V : Type 0} (m : Meaning S V) (last_proposer : ℕ) (council : Council) (acceptors : List (AcceptorView S)) (desks : List (DeskView V)) (callers : List Caller) (flow flow_now : FlowView) (book : Book) (id : ℕ) (desk now : DeskView V) (caller next : Caller) (told : Answer)
    → (queue_at flow id).messages ≡ [] → (is : IsProposing desks callers flow id desk caller book.room) → EndsShort m.disks is.may.round desk now told → flow_now ≡ flow → next ≡ record caller { call = Some (over is.may.call told) }
    → StepPropose m (view_of last_proposer council acceptors desks callers flow book) id (view_of last_proposer council acceptors (slice_set desks id now) (slice_set callers id next) flow_now book)
ends {S} {V} m last_proposer council acceptors desks callers flow flow_now book id desk now caller next told none is by same_flow next_is = record {
  at_round = at_round last_proposer council acceptors desks callers flow book id desk caller none is;
  preparing = is.may.preparing;
  proposes = ends_short m (view_of last_proposer council acceptors desks callers flow book) id desk now is.may.round (caller_view caller) (call_view is.may.call) told (view_of last_proposer council acceptors (slice_set desks id now) (slice_set callers id next) flow_now book) by
      (ap (λ (f : FlowView). view_of last_proposer council acceptors (slice_set desks id now) (slice_set callers id next) f book) same_flow ∙ seen_next last_proposer council acceptors (slice_set desks id now) callers flow book id caller next (over is.may.call told) next_is);
}

-- its caller, as it was told
pub told_next : (caller next : Caller) (call : OpenCall) (told : Answer) → caller.call ≡ Some call → IfSome caller.call (λ c. next ≡ record caller { call = Some (over c told) }) → next ≡ record caller { call = Some (over call told) }
told_next caller next call told is_open by = subst (λ (o : Option OpenCall). IfSome o (λ c. next ≡ record caller { call = Some (over c told) })) is_open by

pub made_next : (caller next : Caller) (call : OpenCall) (made : Proposing) → caller.call ≡ Some call → IfSome caller.call (λ c. next ≡ record caller { call = Some (with_proposal c made) }) → next ≡ record caller { call = Some (with_proposal call made) }
made_next caller next call made is_open by = subst (λ (o : Option OpenCall). IfSome o (λ c. next ≡ record caller { call = Some (with_proposal c made) })) is_open by

pub was_told : {S V : Type 0} (last_proposer : ℕ) (council : Council) (acceptors : List (AcceptorView S)) (desks : List (DeskView V)) (callers : List Caller) (flow : FlowView) (book : Book) (now : View S V) (desks_now : List (DeskView V)) (flow_now : FlowView) (book_now : Book) (id : ℕ) (seen : CallerView)
    (caller next : Caller) (call : OpenCall) (told : Answer) → view_of last_proposer council acceptors desks callers flow book ≡ now → IsAt now.callers id seen → IsAt callers id caller → next ≡ record caller { call = Some (over call told) }
    → WasTold (view_of last_proposer council acceptors desks_now (slice_set callers id next) flow_now book_now) id seen.number told
was_told {S} {V} last_proposer council acceptors desks callers flow book now desks_now flow_now book_now id seen caller next call told view at_seen at_caller next_is =
    let same : caller_view caller ≡ seen = at_one (map caller_view callers) id (at_map caller_view callers id caller at_caller) (subst (λ (v : View S V). IsAt v.callers id seen) (sym view) at_seen) in
    record {
      caller = caller_view next;
      at_caller = at_map caller_view (slice_set callers id next) id next (at_set callers id caller next at_caller);
      same_number = ap (λ (c : Caller). c.number) next_is ∙ ap (λ (c : CallerView). c.number) same;
      call = call_view (over call told);
      is_open = ap (λ (c : Caller). option_map call_view c.call) next_is;
      told = refl;
    }
