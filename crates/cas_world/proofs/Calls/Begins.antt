-- What the beginning of a round does to the whole.
use Rattle.std.proofs.Common.{◌≡◌, ◌<◌, ◌≤◌, ℕ, zero, suc, Bool, false, List, [], ◌∷◌, ◌++◌, Option, None, Some, inl, inr, take, drop, sum_by, slice_set, refl, sym, ap, subst, ◌∙◌, arith, append-nil, length}
use Rattle.std.specs.Prelude.{◌⊎◌, ◌+◌, ◌-◌, map, option_map}
use Rattle.std.proofs.lemmas.List.Sums.{sum_by-cons}
use Rattle.cas_cache.specs.Entries.{promise_at, without}
use Rattle.cas_acceptor.specs.Acceptor.{AcceptorView}
use Rattle.cas_ballot.specs.declared.ballot.Ballot.{Ballot}
use Rattle.cas_change.specs.declared.program.Clause.{Clause}
use Rattle.cas_change.specs.declared.outcome.Outcome.{Outcome}
use Rattle.cas_change.specs.Outcome.{outcome_of}
use Rattle.cas_change.specs.declared.state.State.{State}
use Rattle.cas_cache.specs.declared.ready.Ready.{Ready}
use Rattle.cas_flow.specs.Flow.{FlowView, queue_at}
use Rattle.cas_proposer.specs.Desk.{DeskView}
use Rattle.cas_proposer.specs.Round.{IsAbout}
use Rattle.cas_proposer.specs.declared.round.Round.{Round}
use Rattle.cas_quorum.specs.declared.era.Era.{Era}
use Rattle.cas_record.specs.Book.{Book}
use Rattle.cas_record.specs.declared.answer.Answer.{Answer}
use Rattle.cas_record.specs.declared.answer.Answer.TheVariants as answer
use Rattle.cas_record.specs.declared.mark.Mark.{Mark}
use Rattle.cas_record.specs.declared.mark.Mark.TheVariants.{Begun, Proposed}
use Rattle.cas_vault.specs.Vault.{kept_of}
use Rattle.cas_model.specs.Safe.{IsSafe, IsRoundSafe}
use Rattle.cas_model.specs.Step.{StepBegin}
use Rattle.cas_model.specs.Calls.Step as calls
use Rattle.cas_model.specs.Calls.Step.{Opens, BeginsRound, Sends, WasMet, most_marks, round_marks, accepts_to}
use Rattle.cas_model.specs.Calls.Desks.{FailsToDraw, LosesMemory}
use Rattle.cas_model.specs.View as seen
use Rattle.cas_model.specs.View.{Meaning, View, CallView, CallerView, IsAt, new_call, new_caller, era_in}
use Rattle.cas_model.proofs.Places.{at_one, at_set, some_is, set_set}
use Rattle.cas_model.specs.Council.{reserved_by}
use Rattle.cas_world_calls.specs.Council.{council_view}
use Rattle.cas_world_calls.specs.declared.council.Council.{Council}
use Rattle.cas_world.specs.Calls.Beginning.{opening_of, call_opened, Prepares, ProposesBy, FailsToOpen, reserved_beside, entered, entry_marks, proposes_now, told_now, MayBegin}
use Rattle.cas_world_calls.specs.Call.{again, over, with_proposal, reserved_of}
use Rattle.cas_world_calls.specs.Proposing.{proposing_of}
use Rattle.cas_world.specs.World.{view_of, call_view, caller_view}
use Rattle.cas_world.specs.declared.begin.Opening.{Opening}
use Rattle.cas_world_calls.specs.declared.call.Caller.{Caller}
use Rattle.cas_world_calls.specs.declared.call.OpenCall.{OpenCall}
use Rattle.cas_world_calls.specs.declared.proposal.Author.{Author}
use Rattle.cas_world_calls.specs.declared.proposal.Proposing.{Proposing}
use Rattle.cas_world.proofs.Calls.Callers.{map_set, at_map, seen_open}
use Rattle.cas_world.proofs.Parts.{set_same}
use Rattle.cas_world.proofs.Calls.Reserving.{reserved_seen, sum_seen}

-- ---- what is reserved
pub beside_seen : (callers : List Caller) (id : ℕ) (next : Caller) → id < length callers → seen.reserved_of (map caller_view (slice_set callers id next)) ≡ reserved_beside callers id + reserved_of next
beside_seen [] id next low = omega (arith, low)
beside_seen (c ∷ cs) zero next low =
    let none : sum_by reserved_of (take 0 (c ∷ cs)) ≡ 0 = refl in
    let back : sum_by reserved_of (drop (0 + 1) (c ∷ cs)) ≡ sum_by reserved_of cs = refl in omega (arith, sum_seen cs, reserved_seen next.call, none, back)
beside_seen (c ∷ cs) (suc id) next low =
    let rest : seen.reserved_of (map caller_view (slice_set cs id next)) ≡ reserved_beside cs id + reserved_of next = beside_seen cs id next (omega (arith, low)) in
    let front : sum_by reserved_of (take (suc id) (c ∷ cs)) ≡ reserved_of c + sum_by reserved_of (take id cs) = sum_by-cons reserved_of c (take id cs) in
    let two : suc id + 1 ≡ suc (suc id) = omega arith in
    let one : suc id ≡ id + 1 = omega arith in
    let back : sum_by reserved_of (drop (suc id + 1) (c ∷ cs)) ≡ sum_by reserved_of (drop (id + 1) cs) = ap (λ (i : ℕ). sum_by reserved_of (drop i (c ∷ cs))) two ∙ ap (λ (i : ℕ). sum_by reserved_of (drop i cs)) one in
    omega (arith, rest, front, back, reserved_seen c.call)

-- a caller with no open call reserves nothing
pub beside_none : (callers : List Caller) (id : ℕ) → id < length callers → seen.reserved_of (slice_set (map caller_view callers) id new_caller) ≡ reserved_beside callers id
beside_none callers id low =
    let new : Caller = record { number = 0; call = None } in
    let all : seen.reserved_of (map caller_view (slice_set callers id new)) ≡ reserved_beside callers id + reserved_of new = beside_seen callers id new low in
    let moved : seen.reserved_of (map caller_view (slice_set callers id new)) ≡ seen.reserved_of (slice_set (map caller_view callers) id new_caller) = ap seen.reserved_of (map_set caller_view callers id new) in omega (arith, all, moved)

-- ---- what may begin
-- another round of the open call
pub record IsAnother {V : Type 0} (desk : DeskView V) (caller : Caller) (number : ℕ) (key : List ℕ) (program : List Clause) : Type 0 where
  pub call : OpenCall
  pub is_call : caller.call ≡ Some call
  pub same_number : number ≡ caller.number
  pub same_key : call.key ≡ key
  pub same_program : call.program ≡ program
  pub unproposed : call.proposed ≡ None
  pub met : WasMet call.told
  pub idle : desk.round ≡ None

-- a new call
pub record IsNewCall {V : Type 0} (desk : DeskView V) (caller : Caller) (number : ℕ) : Type 0 where
  pub none_open : caller.call ≡ None
  pub next_number : number ≡ caller.number + 1
  pub idle : desk.round ≡ None

none_seen : (call : Option OpenCall) → option_map call_view call ≡ None → call ≡ None
none_seen None is = refl
none_seen (Some call) is = absurd (cc is)

none_round : (era : Era) (caller : CallerView) (queue : _) (round : Option Round) → caller.call ≡ None → IsRoundSafe era caller queue round → round ≡ None
none_round era caller queue None none safe = refl
none_round era caller queue (Some round) none safe = absurd (cc (sym none ∙ safe.is_open))

pub may_in : {S V : Type 0} (last_proposer : ℕ) (council : Council) (acceptors : List (AcceptorView S)) (desks : List (DeskView V)) (callers : List Caller) (flow : FlowView) (book : Book) (id number : ℕ) (key : List ℕ) (program : List Clause) (desk : DeskView V) (caller : Caller)
    → IsSafe (view_of last_proposer council acceptors desks callers flow book) → IsAt desks id desk → IsAt callers id caller → MayBegin (view_of last_proposer council acceptors desks callers flow book) id number key program
    → IsNewCall desk caller number ⊎ IsAnother desk caller number key program
may_in {S} {V} last_proposer council acceptors desks callers flow book id number key program desk caller safe at_desk at_caller (MayBegin.first was at none next) =
    let same : caller_view caller ≡ was = at_one (map caller_view callers) id (at_map caller_view callers id caller at_caller) at in
    let none_here : option_map call_view caller.call ≡ None = ap (λ (c : CallerView). c.call) same ∙ none in
    inl (record {
      none_open = none_seen caller.call none_here;
      next_number = next ∙ ap (λ (c : CallerView). c.number + 1) (sym same);
      idle = none_round (era_in council.eras.0 id) (caller_view caller) (queue_at flow id) desk.round none_here (safe.sound.parties id desk (caller_view caller) at_desk (at_map caller_view callers id caller at_caller)).round;
    })
may_in {S} {V} last_proposer council acceptors desks callers flow book id number key program desk caller safe at_desk at_caller (MayBegin.another was call at is same_number same_key same_program unproposed met idle) =
    let same : caller_view caller ≡ was = at_one (map caller_view callers) id (at_map caller_view callers id caller at_caller) at in
    let there : option_map call_view caller.call ≡ Some call = ap (λ (c : CallerView). c.call) same ∙ is in
    let found = seen_open caller.call call there in
    let same_call : call_view found.0 ≡ call = some_is (ap (λ (o : Option OpenCall). option_map call_view o) (sym found.1) ∙ there) in
    inr (record {
      call = found.0;
      is_call = found.1;
      same_number = same_number ∙ ap (λ (c : CallerView). c.number) (sym same);
      same_key = ap (λ (c : CallView). c.key) same_call ∙ same_key;
      same_program = ap (λ (c : CallView). c.program) same_call ∙ same_program;
      unproposed = ap (λ (c : CallView). c.proposed) same_call ∙ unproposed;
      met = subst (λ (c : CallView). WasMet c.told) (sym same_call) met;
      idle = idle desk at_desk;
    })

-- ---- a call that is open
-- it is opened, or tries once more, with so many marks
pub record IsEntered {S V : Type 0} (old : View S V) (id number : ℕ) (key : List ℕ) (program : List Clause) (middle : View S V) (caller : Caller) (marks spent : ℕ) : Type 0 where
  pub call : OpenCall
  pub is_open : caller.call ≡ Some call
  pub same_number : caller.number ≡ number
  pub same_key : call.key ≡ key
  pub same_program : call.program ≡ program
  pub reserved : marks ≤ suc call.reserved
  pub within : call.reserved + spent ≤ marks
  pub opens : Opens old id key program middle

-- the marks with that of a beginning
abbrev pub opened_book : Book → Option Opening → Book
opened_book book opening = record { marks = book.marks ++ entry_marks opening; room = 0 }

-- ---- a round that proposes at once
-- what is seen of its caller
proposing_seen : (entry : Caller) (call : OpenCall) (proposing : Proposing) (outcome : Outcome) → entry.call ≡ Some call → proposing.outcome ≡ outcome
    → caller_view (proposes_now entry proposing) ≡ record (caller_view entry) { call = Some (calls.proposing (call_view call) outcome) }
proposing_seen entry call proposing outcome is made =
    ap (λ (o : Option OpenCall). record { number = entry.number; call = option_map call_view (option_map (λ c. with_proposal c proposing) o) }) is
    ∙ ap (λ (o : Outcome). record { number = entry.number; call = Some (calls.proposing (call_view call) o) }) made

-- its mark
mark_about : (id number call_number : ℕ) (key : List ℕ) (program : List Clause) (era : Era) (ready : Ready) (round : Round) (proposing : Proposing) → proposing ≡ proposing_of (record { caller = id; call = number }) key era.number program ready
    → call_number ≡ number → IsAbout key era ready.ballot round → proposing.mark ≡ Proposed (calls.proposal_of id call_number round ready.read ready.by)
mark_about id number call_number key program era ready round proposing made same about =
    let proposal_at : (n : ℕ) (k : List ℕ) (b : Ballot) (e : Era) → Mark = λ n k b e. Proposed (record { caller = id; call = n; key = k; ballot = b; read = ready.read; era = e.number; prepared_by = ready.by }) in
    ap (λ (p : Proposing). p.mark) made ∙ ap (λ (n : ℕ). proposal_at n key ready.ballot era) (sym same) ∙ ap (λ (k : List ℕ). proposal_at call_number k ready.ballot era) (sym about.of_key)
    ∙ ap (λ (b : Ballot). proposal_at call_number round.key b era) (sym about.at) ∙ ap (λ (e : Era). proposal_at call_number round.key round.ballot e) (sym about.in_era)

-- its frames
sent_about : (before after : FlowView) (id age : ℕ) (key : List ℕ) (era : Era) (ballot : Ballot) (round : Round) (ride : Option Ballot) (state : State) → IsAbout key era ballot round
    → Sends before id (accepts_to id age key ballot era.number ride state era.acc) after → Sends before id (accepts_to id age round.key round.ballot round.era.number ride state round.era.acc) after
sent_about before after id age key era ballot round ride state about sends =
    subst (λ (e : Era). Sends before id (accepts_to id age round.key round.ballot e.number ride state e.acc) after) (sym about.in_era)
    (subst (λ (b : Ballot). Sends before id (accepts_to id age round.key b era.number ride state era.acc) after) (sym about.at)
    (subst (λ (k : List ℕ). Sends before id (accepts_to id age k ballot era.number ride state era.acc) after) (sym about.of_key) sends))

module _ {S V : Type 0} (last_proposer : ℕ) (council : Council) (acceptors : List (AcceptorView S)) (desks : List (DeskView V)) (callers : List Caller) (flow : FlowView) (book : Book) (id number : ℕ) (key : List ℕ) (program : List Clause) where
  abbrev old : View S V
  old = view_of last_proposer council acceptors desks callers flow book

  pub opens_first : (marks : ℕ) (desk : DeskView V) (caller : Caller) → IsAt callers id caller → id < length callers → IsNewCall desk caller number → marks ≡ round_marks (era_in council.eras.0 id) → length book.marks + reserved_beside callers id + reserved_by (council_view council) + marks ≤ most_marks
      → IsEntered (view_of last_proposer council acceptors desks callers flow book) id number key program
      (view_of last_proposer council acceptors desks (slice_set callers id (entered caller (Some (opening_of (record { caller = id; call = number }) key program)) marks)) flow (opened_book book (Some (opening_of (record { caller = id; call = number }) key program))))
      (entered caller (Some (opening_of (record { caller = id; call = number }) key program)) marks) marks 1
  opens_first marks desk caller at low is same few =
      let author : Author = record { caller = id; call = number } in
      let opening : Opening = opening_of author key program in
      let one_more : caller.number + 1 ≡ suc caller.number = omega arith in
      let at_entry : (n m r : ℕ) → View S V = λ n m r. record old { callers = slice_set (map caller_view callers) id (record { number = n; call = Some (new_call key program (r - 1)) }); marks = book.marks ++ Begun id m key program ∷ [] } in
      record {
        call = call_opened opening marks;
        is_open = refl;
        same_number = sym is.next_number;
        same_key = refl;
        same_program = refl;
        reserved = omega arith;
        within = omega (arith, same);
        opens = calls.first (caller_view caller) (at_map caller_view callers id caller at) (ap (λ (o : Option OpenCall). option_map call_view o) is.none_open) (omega (arith, few, same, beside_none callers id low))
            (ap (λ (l : List CallerView). record old { callers = l; marks = book.marks ++ Begun id number key program ∷ [] }) (map_set caller_view callers id (entered caller (Some opening) marks))
            ∙ ap (λ (n : ℕ). at_entry n number marks) one_more
            ∙ ap (λ (n : ℕ). at_entry (suc caller.number) n marks) (is.next_number ∙ one_more)
            ∙ ap (λ (r : ℕ). at_entry (suc caller.number) (suc caller.number) r) same);
      }

  pub opens_again : (marks : ℕ) (desk : DeskView V) (caller : Caller) → IsAt callers id caller → IsAt desks id desk → id < length callers → IsAnother desk caller number key program → 0 < marks → marks ≤ round_marks (era_in council.eras.0 id) → length book.marks + reserved_beside callers id + reserved_by (council_view council) + marks ≤ most_marks
      → IsEntered (view_of last_proposer council acceptors desks callers flow book) id number key program (view_of last_proposer council acceptors desks (slice_set callers id (entered caller None marks)) flow (opened_book book None)) (entered caller None marks) marks 0
  opens_again marks desk caller at at_desk low is some enough few =
      let open_now : (entered caller None marks).call ≡ Some (again is.call marks) = ap (λ (o : Option OpenCall). option_map (λ call. again call marks) o) is.is_call in
      record {
        call = again is.call marks;
        is_open = open_now;
        same_number = sym is.same_number;
        same_key = is.same_key;
        same_program = is.same_program;
        reserved = omega arith;
        within = omega arith;
        opens = calls.again (caller_view caller) (call_view is.call) marks (at_map caller_view callers id caller at) (ap (λ (o : Option OpenCall). option_map call_view o) is.is_call) is.same_key is.same_program is.unproposed is.met
            (λ d at_d. ap (λ (x : DeskView V). x.round) (at_one desks id at_d at_desk) ∙ is.idle) (omega (arith, few, beside_none callers id low)) (some, enough)
            (ap (λ (l : List CallerView). record old { callers = l; marks = book.marks ++ [] }) (map_set caller_view callers id (entered caller None marks))
            ∙ ap (λ (o : Option OpenCall). record old { callers = slice_set (map caller_view callers) id (record { number = caller.number; call = option_map call_view o }); marks = book.marks ++ [] }) open_now
            ∙ ap (λ (l : List Mark). record old { callers = slice_set (map caller_view callers) id (record { number = caller.number; call = Some (call_view (again is.call marks)) }); marks = l }) (append-nil book.marks));
      }

  -- ---- its round
  module _ (m : Meaning S V) (entry : Caller) (middle : Book) (caller : Caller) (at_caller : IsAt callers id caller) (marks spent : ℕ)
      (is : IsEntered (view_of last_proposer council acceptors desks callers flow book) id number key program (view_of last_proposer council acceptors desks (slice_set callers id entry) flow middle) entry marks spent) where
    begun_by : (new : View S V) → BeginsRound m (view_of last_proposer council acceptors desks (slice_set callers id entry) flow middle) id (caller_view entry) (call_view is.call) new → StepBegin m (view_of last_proposer council acceptors desks callers flow book) id key program new
    begun_by new by = record {
      middle = view_of last_proposer council acceptors desks (slice_set callers id entry) flow middle;
      opens = is.opens;
      caller = caller_view entry;
      at_caller = at_map caller_view (slice_set callers id entry) id entry (at_set callers id caller entry at_caller);
      call = call_view is.call;
      is_open = ap (λ (o : Option OpenCall). option_map call_view o) is.is_open;
      begins = by;
    }

    -- the caller with another call of that place
    next_seen : (desks_now : List (DeskView V)) (flow_now : FlowView) (after : Book) (next : Caller) (call : CallView) → caller_view next ≡ record (caller_view entry) { call = Some call }
        → view_of last_proposer council acceptors desks_now (slice_set callers id next) flow_now after
        ≡ calls.with_call (view_of last_proposer council acceptors desks_now (slice_set callers id entry) flow_now after) id (caller_view entry) call
    next_seen desks_now flow_now after next call same =
        let v : View S V = view_of last_proposer council acceptors desks_now callers flow_now after in
        ap (λ (l : List CallerView). record v { callers = l }) (map_set caller_view callers id next ∙ ap (λ (c : CallerView). slice_set (map caller_view callers) id c) same
        ∙ sym (set_set (map caller_view callers) id (caller_view entry) (record (caller_view entry) { call = Some call })) ∙ ap (λ (l : List CallerView). slice_set l id (record (caller_view entry) { call = Some call })) (sym (map_set caller_view callers id entry)))

    told_view : (told : Answer) → caller_view (told_now entry told) ≡ record (caller_view entry) { call = Some (calls.over (call_view is.call) told) }
    told_view told = ap (λ (o : Option OpenCall). record { number = entry.number; call = option_map call_view (option_map (λ call. over call told) o) }) is.is_open

    pub step_prepares : marks ≡ round_marks (era_in council.eras.0 id) → (desk now : DeskView V) (flow_now : FlowView) → IsAt desks id desk → Prepares m.disks (era_in council.eras.0 id) key id desk now flow flow_now
        → StepBegin m (view_of last_proposer council acceptors desks callers flow book) id key program (view_of last_proposer council acceptors (slice_set desks id now) (slice_set callers id entry) flow_now middle)
    step_prepares same_marks desk now flow_now at_desk was =
        let by : Prepares m.disks (era_in council.eras.0 id) is.call.key id desk now flow flow_now = subst (λ (k : List ℕ). Prepares m.disks (era_in council.eras.0 id) k id desk now flow flow_now) (sym is.same_key) was in
        begun_by _ (calls.prepares desk now by.ballot by.round flow_now at_desk by.up (omega (arith, same_marks, is.reserved)) by.begins by.sends refl)

    pub step_proposes : marks ≡ round_marks (era_in council.eras.0 id) → (desk now : DeskView V) (flow_now : FlowView) (after : Book) (proposing : Proposing) → IsAt desks id desk → ProposesBy m.disks (era_in council.eras.0 id) key program (record { caller = id; call = number }) desk now flow flow_now proposing
        → after.marks ≡ middle.marks ++ proposing.mark ∷ []
        → StepBegin m (view_of last_proposer council acceptors desks callers flow book) id key program (view_of last_proposer council acceptors (slice_set desks id now) (slice_set callers id (proposes_now entry proposing)) flow_now after)
    step_proposes same_marks desk now flow_now after proposing at_desk was made =
        let author : Author = record { caller = id; call = number } in
        let by : ProposesBy m.disks (era_in council.eras.0 id) is.call.key is.call.program author desk now flow flow_now proposing =
        subst (λ (k : List ℕ). ProposesBy m.disks (era_in council.eras.0 id) k is.call.program author desk now flow flow_now proposing) (sym is.same_key)
        (subst (λ (p : List Clause). ProposesBy m.disks (era_in council.eras.0 id) key p author desk now flow flow_now proposing) (sym is.same_program) was) in
        begun_by (view_of last_proposer council acceptors (slice_set desks id now) (slice_set callers id (proposes_now entry proposing)) flow_now after)
        (calls.proposes desk now by.ready by.ride by.round (outcome_of is.call.program by.ready.state) flow_now at_desk by.up (omega (arith, same_marks, is.reserved)) by.begins refl
        (sent_about flow flow_now id (kept_of desk.vault).age is.call.key (era_in council.eras.0 id) by.ready.ballot by.round by.ride (outcome_of is.call.program by.ready.state).state by.begins.opened.0 by.sends)
        (next_seen (slice_set desks id now) flow_now after (proposes_now entry proposing) (calls.proposing (call_view is.call) (outcome_of is.call.program by.ready.state))
        (proposing_seen entry is.call proposing (outcome_of is.call.program by.ready.state) is.is_open (ap (λ (p : Proposing). p.outcome) by.made))
        ∙ ap (λ (l : List Mark). record (calls.with_call (view_of last_proposer council acceptors (slice_set desks id now) (slice_set callers id entry) flow_now middle) id (caller_view entry) (calls.proposing (call_view is.call) (outcome_of is.call.program by.ready.state))) { marks = l })
        (made ∙ ap (λ (k : Mark). middle.marks ++ k ∷ []) (mark_about id number entry.number is.call.key is.call.program (era_in council.eras.0 id) by.ready by.round proposing by.made is.same_number by.begins.opened.0))))

    -- and it did not begin
    pub step_fails : (desk now : DeskView V) (told : Answer) → IsAt desks id desk → desk.round ≡ None → FailsToOpen m.disks key desk now told
        → StepBegin m (view_of last_proposer council acceptors desks callers flow book) id key program (view_of last_proposer council acceptors (slice_set desks id now) (slice_set callers id (told_now entry told)) flow middle)
    step_fails desk now answer.Down at_desk idle by =
        begun_by _ (calls.stays answer.Down tt (λ d at_d. (ap (λ (x : DeskView V). x.round) (at_one desks id at_d at_desk) ∙ idle, λ e. ap (λ (x : DeskView V). x.down) (at_one desks id at_d at_desk) ∙ by.0)) (λ e. absurd (cc e))
        (ap (λ (l : List (DeskView V)). view_of last_proposer council acceptors l (slice_set callers id (told_now entry answer.Down)) flow middle) (ap (λ (d : DeskView V). slice_set desks id d) by.1 ∙ set_same desks id desk at_desk)
        ∙ next_seen desks flow middle (told_now entry answer.Down) (calls.over (call_view is.call) answer.Down) (told_view answer.Down)))
    step_fails desk now answer.Spent at_desk idle by =
        begun_by _ (calls.spent desk now at_desk idle by.0 (subst (λ (k : List ℕ). promise_at k desk.cache ≡ None) (sym is.same_key) by.1) by.2 by.3 by.4 (next_seen (slice_set desks id now) flow middle (told_now entry answer.Spent) (calls.over (call_view is.call) answer.Spent) (told_view answer.Spent)))
    step_fails desk now answer.VaultFault at_desk idle by =
        begun_by _ (calls.fails desk now at_desk idle by.0 (subst (λ (k : List ℕ). FailsToDraw m.disks (without k desk.cache) desk now) (sym is.same_key) by.1)
        (next_seen (slice_set desks id now) flow middle (told_now entry answer.VaultFault) (calls.over (call_view is.call) answer.VaultFault) (told_view answer.VaultFault)))
    step_fails desk now (answer.NoMemory proposed) at_desk idle by =
        begun_by _ (calls.loses desk now by.2 at_desk idle by.1 (subst (λ (k : List ℕ). LosesMemory m.disks k desk now by.2) (sym is.same_key) by.3)
        (ap (λ (b : Bool). view_of last_proposer council acceptors (slice_set desks id now) (slice_set callers id (told_now entry (answer.NoMemory b))) flow middle) by.0
        ∙ next_seen (slice_set desks id now) flow middle (told_now entry (answer.NoMemory false)) (calls.over (call_view is.call) (answer.NoMemory false)) (told_view (answer.NoMemory false))))
    step_fails desk now (answer.Done _ _ _) at_desk idle by = elim by [ ]
    step_fails desk now (answer.Conflict _) at_desk idle by = elim by [ ]
    step_fails desk now (answer.Aged _) at_desk idle by = elim by [ ]
    step_fails desk now (answer.Full _) at_desk idle by = elim by [ ]
    step_fails desk now (answer.Short _ _) at_desk idle by = elim by [ ]
    step_fails desk now (answer.Moved _) at_desk idle by = elim by [ ]
    step_fails desk now answer.Crashed at_desk idle by = elim by [ ]
    step_fails desk now (answer.Unsettled _) at_desk idle by = elim by [ ]
    step_fails desk now answer.RecordFull at_desk idle by = elim by [ ]

    -- no room was made for its marks
    pub step_stays : (told : Answer) → calls.IsNoBeginning told → (told ≡ answer.Down → ⊥)
        → (told ≡ answer.RecordFull → calls.IsFull (view_of last_proposer council acceptors desks (slice_set callers id entry) flow middle) id × (suc is.call.reserved < round_marks (era_in council.eras.0 id))) → (desk : DeskView V) → IsAt desks id desk → desk.round ≡ None
        → StepBegin m (view_of last_proposer council acceptors desks callers flow book) id key program (view_of last_proposer council acceptors desks (slice_set callers id (told_now entry told)) flow middle)
    step_stays told none_begun up full desk at_desk idle =
        begun_by _ (calls.stays told none_begun (λ d at_d. (ap (λ (x : DeskView V). x.round) (at_one desks id at_d at_desk) ∙ idle, λ e. absurd (up e))) full
        (next_seen desks flow middle (told_now entry told) (calls.over (call_view is.call) told) (told_view told)))
