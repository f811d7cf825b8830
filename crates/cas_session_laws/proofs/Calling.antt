-- What the record tells of a request that was answered done.
use Rattle.std.proofs.Common.{◌≡◌, ℕ, suc, ◌+◌, ◌<◌, ◌≤◌, Bool, true, false, cond, List, [], ◌∷◌, ◌++◌, Option, Some, None, refl, sym, ap, subst, ◌∙◌, append_assoc, arith, inl, inr}
use Rattle.std.specs.Prelude.{◌⊎◌, ◌==◌, ◌||◌, nat_lt, ℤ}
use Rattle.std.specs.List.{AllByRecursion}
use Rattle.std.proofs.lemmas.Bool.{cases_Bool, eqb-true}
use Rattle.cas_ballot.specs.declared.ballot.Ballot.{Ballot}
use Rattle.cas_change.specs.declared.program.Clause.{Clause}
use Rattle.cas_change.specs.declared.state.State.{State}
use Rattle.cas_change.specs.declared.state.State.TheVariants.{Empty}
use Rattle.cas_change.specs.declared.outcome.Outcome.{Outcome}
use Rattle.cas_change.specs.declared.outcome.Took.{Took}
use Rattle.cas_change.specs.declared.outcome.Took.TheVariants.{Clause as ByClause, Nothing, Unfit}
use Rattle.cas_change.specs.Outcome.{outcome_of}
use Rattle.cas_record.specs.declared.answer.Answer.{Answer}
use Rattle.cas_record.specs.declared.answer.Answer.TheVariants as answer
use Rattle.cas_record.specs.declared.entry.Entry.{Entry}
use Rattle.cas_record.specs.declared.mark.Mark.{Mark}
use Rattle.cas_record.specs.declared.mark.Mark.TheVariants.{Begun, Ended}
use Rattle.cas_record.specs.Places.{At, Stands, IsOlderPart, here, past, whole, later}
use Rattle.cas_record.specs.Histories.Chain.{keep_always, settled_of}
use Rattle.cas_record.specs.Histories.Replay.{replay_from, opening_state}
use Rattle.cas_record.specs.Legal.{IsLegal, DoesStand, WasBegun, IsBegun, tells_unsettled}
use Rattle.cas_record.proofs.PlaceLemmas.{stands_deeper, stands_later, stands_at, at_part, part_at}
use Rattle.cas_record.proofs.Histories.Calls.{AreCallsCounted, begun_once}
use Rattle.cas_session_text.specs.declared.reply.LastReply.{LastReply}
use Rattle.cas_session_text.specs.Contents.{SessionContents, StandsFor, no_requests, reply_of, after_reply}
use Rattle.cas_session.specs.declared.request.SessionAct.{SessionAct}
use Rattle.cas_session.specs.declared.request.SessionAnswer.{SessionAnswer}
use Rattle.cas_session.specs.declared.request.SessionAnswer.TheVariants.{Done, Stale, Gap, Unfit as DoesNotFit, NotSession, Tired, Stopped}
use Rattle.cas_session.specs.declared.decision.Decision.{Decision}
use Rattle.cas_session.specs.declared.decision.Decision.TheVariants.{Answered, Proposes}
use Rattle.cas_session.specs.declared.attempts.Ending.{Ending}
use Rattle.cas_session.specs.declared.attempts.Ending.TheVariants.{Ends, Again}
use Rattle.cas_session.specs.Calls.{Call, Changes, is_answered, is_refused, CallIsAnswered, MakesCalls, none, first}
use Rattle.cas_session.specs.Request.{Request, value_after, decided, decided_by, decided_new, decided_next, reply_to, change_to}
use Rattle.cas_session.specs.Serving.{may_follow, ends_by, ends_with, without_memory, AttemptGoesOn, finds_no_memory, finds_no_session, finds_answer, changes}
use Rattle.cas_session.specs.Serving.{Attempts, has_no_memory, reads_nothing, reads_state, ServesRequest, is_answered as answers, is_tired, tries_again, WasServed}
use Rattle.cas_session_laws.specs.History.{IsRequest, IsOfSession, IsSessionKey, ActsFor, HasActed, Acting}
use Rattle.cas_session_laws.specs.Laws.{OpensWith, IsDone}
use Rattle.cas_session_laws.proofs.Histories.{FoundRequests, found, Explained, was_told, has_acted, explained, reply_of-caller}
use Rattle.cas_session_laws.proofs.Steps.{acts_where_taken}

-- ---- how an attempt ends
pub ends_done : {a b : SessionAnswer} → Ends a ≡ Ends b → a ≡ b
ends_done e = cc

not_stopped : {told : Answer} {pending fresh : Bool} {reply : ℤ} → Ends (Stopped told pending) ≡ Ends (Done reply fresh) → ⊥
not_stopped e = absurd cc

not_by : (told : Answer) (pending fresh : Bool) (reply : ℤ) → ends_by told pending ≡ Ends (Done reply fresh) → ⊥
not_by told pending fresh reply e = elim (cases_Bool (may_follow told)) [
  | inl t ↦
      let step : Again told pending ≡ Ends (Done reply fresh) = sym (ap (λ b. cond b (Again told pending) (Ends (Stopped told pending))) t) ∙ e in
      absurd (cc (step))
  | inr f ↦
      let step : Ends (Stopped told pending) ≡ Ends (Done reply fresh) = sym (ap (λ b. cond b (Again told pending) (Ends (Stopped told pending))) f) ∙ e in
      absurd (cc (step))
]

-- a change by which a request was done
record WasDone (told : Answer) (left reply : ℤ) (fresh : Bool) : Type 0 where
  state : State
  clause : ℕ
  ballot : Ballot
  answer_is : told ≡ answer.Done state (ByClause clause) ballot
  same : left ≡ reply
  is_fresh : fresh ≡ true

done_with : (left : ℤ) (told : Answer) (pending fresh : Bool) (reply : ℤ) → ends_with left told pending ≡ Ends (Done reply fresh) → WasDone told left reply fresh
done_with left (answer.Done state (ByClause n) ballot) pending fresh reply e =
    let same : Done left true ≡ Done reply fresh = cc (e) in
    record { state = state; clause = n; ballot = ballot; answer_is = refl; same = cc (same); is_fresh = cc (same) }
done_with left (answer.Done state Nothing ballot) pending fresh reply e = absurd (cc (e))
done_with left (answer.Done state (Unfit n) ballot) pending fresh reply e = absurd (cc (e))
done_with left (answer.Conflict met) pending fresh reply e = absurd (cc (e))
done_with left (answer.Aged least) pending fresh reply e = absurd (cc (e))
done_with left (answer.Full acceptor) pending fresh reply e = absurd (cc (e))
done_with left (answer.Short got need) pending fresh reply e = absurd (cc (e))
done_with left (answer.Moved era) pending fresh reply e = absurd (cc (e))
done_with left answer.Crashed pending fresh reply e = absurd (cc (e))
done_with left (answer.Unsettled why) pending fresh reply e = absurd (cc (e))
done_with left answer.Down pending fresh reply e = absurd (cc (e))
done_with left answer.VaultFault pending fresh reply e = absurd (cc (e))
done_with left answer.Spent pending fresh reply e = absurd (cc (e))
done_with left answer.RecordFull pending fresh reply e = absurd (cc (e))
done_with left (answer.NoMemory proposed) pending fresh reply e = absurd (cc (e))

-- ---- what is decided of a request that has come
-- the caller was told this last, and it is answered again
pub record WasToldBefore (request : Request) (contents : SessionContents) (reply : ℤ) (fresh : Bool) : Type 0 where
  pub told : reply_of request.caller contents.replies ≡ Some (reply_to request reply)
  pub not_fresh : fresh ≡ false

next-answered : (value : ℤ) (o : Option ℤ) (reply : ℤ) (fresh : Bool) → decided_next value o ≡ Answered (Done reply fresh) → ⊥
next-answered value (Some l) reply fresh e = absurd (cc (e))
next-answered value None reply fresh e = absurd (cc (e))

new-answered : (request : Request) (value : ℤ) (last : ℕ) (reply : ℤ) (fresh : Bool) → decided_new request value last ≡ Answered (Done reply fresh) → ⊥
new-answered request value last reply fresh e = elim (cases_Bool (request.number == (last + 1))) [
  | inl t ↦ next-answered value (value_after request.act value) reply fresh (sym (ap (λ b. cond b (decided_next value (value_after request.act value)) (Answered (Gap last))) t) ∙ e)
  | inr f ↦
      let step : Answered (Gap last) ≡ Answered (Done reply fresh) = sym (ap (λ b. cond b (decided_next value (value_after request.act value)) (Answered (Gap last))) f) ∙ e in
      absurd (cc (step))
]

record IsLastReplyOf (request : Request) (o : Option LastReply) (reply : ℤ) (fresh : Bool) : Type 0 where
  last : LastReply
  is_last : o ≡ Some last
  number : request.number ≡ last.number
  same : last.reply ≡ reply
  not_fresh : fresh ≡ false

by-answered : (request : Request) (value : ℤ) (o : Option LastReply) (reply : ℤ) (fresh : Bool) → decided_by request value o ≡ Answered (Done reply fresh) → IsLastReplyOf request o reply fresh
by-answered request value None reply fresh e = absurd (new-answered request value 0 reply fresh e)
by-answered request value (Some last) reply fresh e =
    let older : Decision = cond (nat_lt request.number last.number) (Answered (Stale last.number)) (decided_new request value last.number) in
    elim (cases_Bool (request.number == last.number)) [
      | inl t ↦
          let step : Answered (Done last.reply false) ≡ Answered (Done reply fresh) = sym (ap (λ b. cond b (Answered (Done last.reply false)) older) t) ∙ e in
          record { last = last; is_last = refl; number = eqb-true request.number last.number t; same = cc (step); not_fresh = cc (step) }
      | inr f ↦
          let step : older ≡ Answered (Done reply fresh) = sym (ap (λ b. cond b (Answered (Done last.reply false)) older) f) ∙ e in
          elim (cases_Bool (nat_lt request.number last.number)) [
            | inl t ↦
                let stale : Answered (Stale last.number) ≡ Answered (Done reply fresh) = sym (ap (λ b. cond b (Answered (Stale last.number)) (decided_new request value last.number)) t) ∙ step in
                absurd (cc (stale))
            | inr n ↦ absurd (new-answered request value last.number reply fresh (sym (ap (λ b. cond b (Answered (Stale last.number)) (decided_new request value last.number)) n) ∙ step))
          ]
    ]

told_before : (request : Request) (contents : SessionContents) (reply : ℤ) (fresh : Bool) → decided request contents ≡ Answered (Done reply fresh) → WasToldBefore request contents reply fresh
told_before request contents reply fresh e =
    let l = by-answered request contents.value (reply_of request.caller contents.replies) reply fresh e in
    let caller : l.last.caller ≡ request.caller = reply_of-caller request.caller contents.replies l.last l.is_last in
    let number : l.last.number ≡ request.number = sym l.number in
    let is : l.last ≡ reply_to request reply = λ i. record { caller = caller i; number = number i; reply = l.same i } in
    record { told = l.is_last ∙ ap (λ (r : LastReply). Some r) is; not_fresh = l.not_fresh }

-- ---- the call that answered
pub data Answering (request : Request) (key : List ℕ) (reply : ℤ) (fresh : Bool) (new : List Mark) : Type 0 where
  by_change : (state : State) (contents : SessionContents) {old : List Mark} {reached : State} {clause : ℕ} {ballot : Ballot} → StandsFor state contents
      → decided request contents ≡ Proposes reply → fresh ≡ true
      → Changes request.caller key (change_to state (after_reply (reply_to request reply) contents)) old new (answer.Done reached (ByClause clause) ballot)
      → Answering request key reply fresh new
  by_read : {old : List Mark} {state : State} {took : Took} {ballot : Ballot} {contents : SessionContents} → StandsFor state contents
      → WasToldBefore request contents reply fresh → Changes request.caller key keep_always old new (answer.Done state took ballot)
      → Answering request key reply fresh new

made_none : {caller : ℕ} {key : List ℕ} {old new : List Mark} → MakesCalls caller key old [] new → old ≡ new
made_none none = refl

record MadeOne (caller : ℕ) (key : List ℕ) (old : List Mark) (call : Call) (calls : List Call) (new : List Mark) : Type 0 where
  mid : List Mark
  changes : Changes caller key call.program old mid call.answer
  rest : MakesCalls caller key mid calls new

made_one : {caller : ℕ} {key : List ℕ} {old new : List Mark} {call : Call} {calls : List Call} → MakesCalls caller key old (call ∷ calls) new → MadeOne caller key old call calls new
made_one (first {mid = mid} c rest) = record { mid = mid; changes = c; rest = rest }

record MadeBoth (caller : ℕ) (key : List ℕ) (old : List Mark) (calls more : List Call) (new : List Mark) : Type 0 where
  mid : List Mark
  front : MakesCalls caller key old calls mid
  back : MakesCalls caller key mid more new

made_both : {caller : ℕ} {key : List ℕ} {new : List Mark} (calls more : List Call) (old : List Mark) → MakesCalls caller key old (calls ++ more) new → MadeBoth caller key old calls more new
made_both [] more old m = record { mid = old; front = none; back = m }
made_both (call ∷ calls) more old m =
    let one = made_one m in
    let rest = made_both calls more one.mid one.rest in
    record { mid = rest.mid; front = first one.changes rest.front; back = rest.back }

-- the only call
made_last : {caller : ℕ} {key : List ℕ} {old new : List Mark} {call : Call} → MakesCalls caller key old (call ∷ []) new → Changes caller key call.program old new call.answer
made_last {caller} {key} {old} {new} {call} m =
    let one = made_one m in
    subst (λ (marks : List Mark). Changes caller key call.program old marks call.answer) (made_none one.rest) one.changes

answered_on : (request : Request) (key : List ℕ) (reply : ℤ) (fresh pending : Bool) {state : State} {took : Took} {ballot : Ballot} {more : List Call} {ending : Ending} {old new : List Mark}
    → AttemptGoesOn request pending state more ending → ending ≡ Ends (Done reply fresh)
    → MakesCalls request.caller key old (record { program = keep_always; answer = answer.Done state took ballot } ∷ more) new → Answering request key reply fresh new
answered_on request key reply fresh pending finds_no_memory e m = absurd (cc (e))
answered_on request key reply fresh pending (finds_no_session n) e m = absurd (cc (e))
answered_on request key reply fresh pending (finds_answer contents {told} s d) e m =
    let is : told ≡ Done reply fresh = ends_done e in
    by_read s (told_before request contents reply fresh (d ∙ ap (λ (a : SessionAnswer). Answered a) is)) (made_last m)
answered_on request key reply fresh pending {state} {new = new} (changes contents {left} {told} s d) e m =
    let w = done_with left told pending fresh reply e in
    let one = made_one m in
    let c = made_last one.rest in
    by_change state contents s (d ∙ ap (λ (l : ℤ). Proposes l) w.same) w.is_fresh
    (subst (λ (a : Answer). Changes request.caller key (change_to state (after_reply (reply_to request reply) contents)) one.mid new a) w.answer_is
    (subst (λ (l : ℤ). Changes request.caller key (change_to state (after_reply (reply_to request l) contents)) one.mid new told) w.same c))

answered_by : (request : Request) (key : List ℕ) (reply : ℤ) (fresh pending : Bool) {calls : List Call} {ending : Ending} {old new : List Mark}
    → Attempts request pending calls ending → ending ≡ Ends (Done reply fresh) → MakesCalls request.caller key old calls new → Answering request key reply fresh new
answered_by request key reply fresh pending has_no_memory e m = absurd (cc (e))
answered_by request key reply fresh pending (reads_nothing {told} n) e m = absurd (not_by told pending fresh reply e)
answered_by request key reply fresh pending (reads_state g) e m = answered_on request key reply fresh pending g e m

pub answering : (request : Request) (key : List ℕ) (reply : ℤ) (fresh : Bool) {tries : ℕ} {pending : Bool} {calls : List Call} {told : SessionAnswer} {old new : List Mark}
    → ServesRequest request tries pending calls told → told ≡ Done reply fresh → MakesCalls request.caller key old calls new → Answering request key reply fresh new
answering request key reply fresh (answers {pending = pending} a) e m = answered_by request key reply fresh pending a (ap (λ (t : SessionAnswer). Ends t) e) m
answering request key reply fresh (is_tired a) e m = absurd (cc (e))
answering request key reply fresh (tries_again {calls = calls} {more = more} a rest) e m = answering request key reply fresh rest e (made_both calls more _ m).back

-- ---- what a call that was done tells
-- its entry stands, with what it left
pub record HasStood (caller : ℕ) (key : List ℕ) (program : List Clause) (state : State) (took : Took) (marks : List Mark) : Type 0 where
  pub call : ℕ
  pub before : List Entry
  pub after : List Entry
  pub place : settled_of key marks ≡ before ++ record { caller = caller; call = call; program = program } ∷ after
  pub outcome : outcome_of program (replay_from (opening_state key marks) before) ≡ record { state = state; took = took }

counted : {marks : List Mark} → IsLegal marks → AreCallsCounted marks
counted legal = record { begun = legal.numbered.begun }

stood : (caller call rounds : ℕ) (key : List ℕ) (program : List Clause) (state : State) (took : Took) (ballot : Ballot) (older before : List Mark)
    → IsLegal (Ended caller call rounds (answer.Done state took ballot) ∷ older) → At (Begun caller call key program) before older
    → HasStood caller key program state took (Ended caller call rounds (answer.Done state took ballot) ∷ older)
stood caller call rounds key program state took ballot older before legal begun =
    let d = legal.done_stands here in
    let proposed = legal.numbered.proposed (past d.proposed.at) in
    let begun_for : Stands (Begun d.proposal.caller d.proposal.call d.proposal.key proposed.begun.program) older = stands_deeper proposed.begun.stands d.proposed.at in
    let begun_mine : Stands (Begun caller call d.proposal.key proposed.begun.program) older =
    subst (λ c. Stands (Begun c call d.proposal.key proposed.begun.program) older) d.same_caller
    (subst (λ n. Stands (Begun d.proposal.caller n d.proposal.key proposed.begun.program) older) d.same_call begun_for) in
    let one = begun_once (counted legal) (past begun) (past begun_mine.at) in
    let entry : Entry = record { caller = caller; call = call; program = d.program } in
    let among : Stands entry (settled_of d.proposal.key older) =
    subst (λ (es : List Entry). Stands entry es) (sym d.place) (stands_later d.before (record { older = d.after; at = here })) in
    let was = legal.begun_first (later whole) d.proposal.key entry among in
    let begun_then : Stands (Begun caller call d.proposal.key d.program) older = stands_deeper was.begun was.proposed in
    let two = begun_once (counted legal) (past begun) (past begun_then.at) in
    let key_is : d.proposal.key ≡ key = sym one.same_key in
    let program_is : d.program ≡ program = sym two.same_program in
    record {
      call = call;
      before = d.before;
      after = d.after;
      place = ap (λ k. settled_of k older) (sym key_is) ∙ d.place ∙ ap (λ (p : List Clause). d.before ++ record { caller = caller; call = call; program = p } ∷ d.after) program_is;
      outcome = (λ i. outcome_of (sym program_is i) (replay_from (opening_state (sym key_is i) older) d.before)) ∙ d.outcome;
    }

at_behind : {A : Type 0} (front : List A) (x : A) (older : List A) → At x older (front ++ x ∷ older)
at_behind [] x older = here
at_behind (y ∷ front) x older = past (at_behind front x older)

pub stood_by : (caller : ℕ) (key : List ℕ) (program : List Clause) (state : State) (took : Took) (ballot : Ballot) (old new : List Mark)
    → IsLegal new → Changes caller key program old new (answer.Done state took ballot) → HasStood caller key program state took new
stood_by caller key program state took ballot old new legal (is_answered a) =
    let older : List Mark = a.within ++ Begun caller a.call key program ∷ a.before in
    subst (HasStood caller key program state took) (sym a.whole)
    (stood caller a.call a.rounds key program state took ballot older a.before (subst IsLegal a.whole legal) (at_behind a.within (Begun caller a.call key program) a.before))
stood_by caller key program state took ballot old new legal (is_refused r) = elim r.why [
  | inl full ↦ absurd (cc (full.0))
  | inr memory ↦ absurd (cc (memory))
]

-- ---- the entries of a session's key
each_of_session : (key : List ℕ) (marks : List Mark) → IsLegal marks → IsSessionKey key marks → (front history : List Entry) → settled_of key marks ≡ front ++ history
    → AllByRecursion IsOfSession history
each_of_session key marks legal session front [] e = tt
each_of_session key marks legal session front (entry ∷ rest) e = (one, each_of_session key marks legal session (front ++ entry ∷ []) rest (e ∙ sym (append_assoc front (entry ∷ []) rest)))
  where
    one : IsOfSession entry
    one =
        let among : Stands entry (settled_of key marks) = subst (λ (es : List Entry). Stands entry es) (sym e) (stands_later front (record { older = rest; at = here })) in
        let was = legal.begun_first whole key entry among in
        session entry.caller entry.call entry.program (stands_deeper was.begun was.proposed)

pub of_session : (key : List ℕ) (marks : List Mark) → IsLegal marks → IsSessionKey key marks → AllByRecursion IsOfSession (settled_of key marks)
of_session key marks legal session = each_of_session key marks legal session [] (settled_of key marks) refl

front_of_session : (before : List Entry) (after : List Entry) → AllByRecursion IsOfSession (before ++ after) → AllByRecursion IsOfSession before
front_of_session [] after each = tt
front_of_session (entry ∷ before) after each = (each.0, front_of_session before after each.1)

-- ---- what follows of an answer
longer : {request : Request} {left : ℤ} (start : State) (before rest history : List Entry) → history ≡ before ++ rest → HasActed request left start before → HasActed request left start history
longer start before rest history e h = record {
  before = h.before;
  entry = h.entry;
  after = h.after ++ rest;
  place = e ∙ ap (λ (es : List Entry). es ++ rest) h.place ∙ append_assoc h.before (h.entry ∷ h.after) rest;
  acted = h.acted;
}

-- the request that acted differs from the one that was answered by its act alone
as_asked : (request other : Request) (reply left : ℤ) (start : State) (history : List Entry) → reply_to other left ≡ reply_to request reply → HasActed other left start history
    → (act : SessionAct) × HasActed (record { caller = request.caller; number = request.number; act = act }) reply start history
as_asked request other reply left start history e h =
    let caller : other.caller ≡ request.caller = ap (λ (r : LastReply). r.caller) e in
    let number : other.number ≡ request.number = ap (λ (r : LastReply). r.number) e in
    let value : left ≡ reply = ap (λ (r : LastReply). r.reply) e in
    let same : other ≡ record { caller = request.caller; number = request.number; act = other.act } = λ i. record { caller = caller i; number = number i; act = other.act } in
    (other.act, subst (λ (r : Request). HasActed r reply start history) same (subst (λ (v : ℤ). HasActed other v start history) value h))

opens_empty : (request : Request) (reply : ℤ) (start : State) → start ≡ Empty → OpensWith request reply start → ⊥
opens_empty request reply start e o =
    let none_yet : o.contents ≡ no_requests = subst (λ (s : State). StandsFor s o.contents) e o.stands_for in
    let nothing : reply_of request.caller no_requests.replies ≡ Some (reply_to request reply) = ap (λ (c : SessionContents). reply_of request.caller c.replies) (sym none_yet) ∙ o.told in
    absurd (cc (nothing))

done_by_change : (request : Request) (reply : ℤ) (fresh : Bool) (key : List ℕ) (marks : List Mark) → HasActed request reply (opening_state key marks) (settled_of key marks)
    → IsDone request reply fresh key marks
done_by_change request reply fresh key marks h = record {
  fresh_acted = λ e. h;
  acted_or_opened = inl (request.act, h);
  acted = λ e. (request.act, h);
}

done_by_read : (request : Request) (reply : ℤ) (fresh : Bool) (key : List ℕ) (marks : List Mark) → fresh ≡ false
    → ((act : SessionAct) × HasActed (record { caller = request.caller; number = request.number; act = act }) reply (opening_state key marks) (settled_of key marks))
    ⊎ OpensWith request reply (opening_state key marks)
    → IsDone request reply fresh key marks
done_by_read request reply fresh key marks not_fresh known = record {
  fresh_acted = λ e. absurd (cc (e, not_fresh));
  acted_or_opened = known;
  acted = λ e. elim known [
    | inl h ↦ h
    | inr opened ↦ absurd (opens_empty request reply (opening_state key marks) e opened)
  ];
}

pub is_done : (request : Request) (reply : ℤ) (fresh : Bool) (key : List ℕ) (new : List Mark) → IsRequest request → IsLegal new → IsSessionKey key new → Answering request key reply fresh new
    → IsDone request reply fresh key new
is_done request reply fresh key new lawful legal session (by_change state contents {old} {reached} {clause} {ballot} s d is_fresh c) =
    let h = stood_by request.caller key (change_to state (after_reply (reply_to request reply) contents)) reached (ByClause clause) ballot old new legal c in
    let entry : Entry = record { caller = request.caller; call = h.call; program = change_to state (after_reply (reply_to request reply) contents) } in
    done_by_change request reply fresh key new (record {
      before = h.before;
      entry = entry;
      after = h.after;
      place = h.place;
      acted = acts_where_taken request state (replay_from (opening_state key new) h.before) contents reply entry clause refl
          (record { lawful = lawful; stands_for = s; next = d; change = refl }) (ap (λ (o : Outcome). o.took) h.outcome);
    })
is_done request reply fresh key new lawful legal session (by_read {old} {state} {took} {ballot} {contents} s told c) =
    let start : State = opening_state key new in
    let h = stood_by request.caller key keep_always state took ballot old new legal c in
    let entry : Entry = record { caller = request.caller; call = h.call; program = keep_always } in
    let read : replay_from start h.before ≡ state = ap (λ (o : Outcome). o.state) h.outcome in
    let each = front_of_session h.before (entry ∷ h.after) (subst (λ (es : List Entry). AllByRecursion IsOfSession es) h.place (of_session key new legal session)) in
    let stands : StandsFor (replay_from start h.before) contents = subst (λ (t : State). StandsFor t contents) (sym read) s in
    done_by_read request reply fresh key new told.not_fresh
    (elim (explained start h.before each contents stands request.caller (reply_to request reply) told.told) [
      | was_told opened stood_for told_then ↦ inr (record { contents = opened; stands_for = stood_for; told = told_then })
      | has_acted {request = other} {left = left} same acted ↦
          inl (as_asked request other reply left start (settled_of key new) same (longer start h.before (entry ∷ h.after) (settled_of key new) h.place acted))
    ])
