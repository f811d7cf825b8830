-- An acceptor's answer goes on with the log lawfully: what it did, its vote, and its reply.
use Rattle.std.proofs.Common.{◌≡◌, ℕ, ◌≤◌, Bool, true, false, List, [], ◌∷◌, ◌++◌, Option, Some, None, refl, sym, ap, subst, ◌∙◌, inl, inr, arith}
use Rattle.std.specs.Prelude.{cond, IsSomeAnd, is_some, unwrap_or}
use Rattle.std.specs.Ordering.{is_eq}
use Rattle.cas_base.proofs.Bools.{false_of_not, not_both}
use Rattle.cas_ballot.specs.declared.ballot.Ballot.{Ballot}
use Rattle.cas_ballot.specs.Ballot.{zero_ballot, BallotAtMost, BallotLess}
use Rattle.cas_ballot.proofs.BallotLemmas.{cmp_refl, less_irreflexive, at_most_refl, at_most_of_less, at_most_trans, at_most_greater_right}
use Rattle.cas_change.specs.declared.state.State.{State}
use Rattle.cas_change.specs.declared.state.State.TheVariants.{Empty}
use Rattle.cas_slot.specs.declared.message.Ask.{Ask}
use Rattle.cas_slot.specs.declared.message.Ask.TheVariants as ask
use Rattle.cas_slot.specs.declared.message.Request.{Request}
use Rattle.cas_slot.specs.declared.message.Reply.{Reply}
use Rattle.cas_slot.specs.declared.message.Tell.{Tell}
use Rattle.cas_slot.specs.declared.message.Tell.TheVariants as tell
use Rattle.cas_slot.specs.declared.slot.Accepted.{Accepted}
use Rattle.cas_slot.specs.declared.slot.Slot.{Slot}
use Rattle.cas_slot.specs.Ages.{least_age}
use Rattle.cas_slot.specs.Contents.{Contents, kept_at}
use Rattle.cas_slot.specs.Rules.{is_accepted_at}
use Rattle.cas_slot.specs.Slot.{accepted_of, accepted_ballot, seen_of}
use Rattle.cas_slot.proofs.SlotsLemmas.{slot_at-with_slot_same, slot_at-without_slot_same}
use Rattle.cas_slot.specs.Table.{Handles, Answers, IsReplyByTable, IsAcceptedTombstone, seen_at, accepted_at, promised_at}
use Rattle.cas_record.specs.declared.mark.Mark.{Mark}
use Rattle.cas_record.specs.declared.mark.Mark.TheVariants.{Voted}
use Rattle.cas_record.proofs.PlaceLemmas.{stands_later}
use Rattle.cas_record.proofs.Logs.Lemmas.{stands_in_log, not_zero, ProposedAt, proposed_at, not_opened}
use Rattle.cas_record.proofs.Logs.Slots.{took_tells}
use Rattle.cas_record.specs.Logs.Happening.{Happening, Marked, Asked, Promised, Took, Dropped, marks_of}
use Rattle.cas_record.specs.Logs.Lawful.{Cluster, Lawful, SlotTold, slot_told}
use Rattle.cas_record.specs.Histories.Chain.{has_opening, chain_of}
use Rattle.cas_record.specs.Histories.Replay.{replay_from, opening_state}
use Rattle.cas_record.specs.Logs.Orderly.{WasAsked, IsTold, IsTombstoneTold}
use Rattle.cas_record.specs.Places.{Stands, here, past}
use Rattle.cas_record.proofs.Tests.{ballot_same}
use Rattle.cas_protocol.specs.Acceptors.{told_of, LogTells, IsMadeState, IsOpeningState, IsAcceptedState, IsAskState, IsEmptyAt, events_of, votes_of, done_log, answered_log}
use Rattle.cas_protocol.specs.Laws.{LogTellsKept}
use Rattle.cas_protocol.proofs.Pages.{absent_unlisted}
use Rattle.cas_protocol.proofs.Deeds.{own_age, promises, tells_again, tells_promise, takes, raises, drops}

-- the acceptor was asked, and its least age is not above the request's
was_asked : {log : List Happening} (cluster : Cluster) (request : Request) (old : Contents) → LogTellsKept cluster log request.to old → Stands (Asked request) log → request.from ≤ 16
    → least_age old.ages request.from ≤ request.age → WasAsked log request.to request
was_asked cluster request old on asked known old_enough = record { asked = asked; to = refl; age = omega (arith, on.tells.ages request.from known, old_enough) }

-- ---- what the acceptor did
kept_still : {cluster : Cluster} {log : List Happening} {id : ℕ} {old new : Contents} → new ≡ old → LogTellsKept cluster log id old → LogTellsKept cluster log id new
kept_still {cluster} {log} {id} same on = subst (LogTellsKept cluster log id) (sym same) on

-- what the log tells once a slot promised, whether it had just seen the ballot or not
promise_tells : (log : List Happening) (id : ℕ) (old new : Contents) (key : List ℕ) (ballot : Ballot) (accepted : Option Accepted) → LogTells log id old → Answers old (ask.Prepare key ballot) (tell.Promised accepted) new
    → LogTells (Promised id key ballot (accepted_ballot accepted) ∷ log) id new
promise_tells log id old new key ballot accepted tells row = elim row.1 [
  | inl again ↦ subst (LogTells (Promised id key ballot (accepted_ballot accepted) ∷ log) id) (sym again.1) (tells_again id old key ballot (accepted_ballot accepted) tells again.0)
  | inr fresh ↦ subst (LogTells (Promised id key ballot (accepted_ballot accepted) ∷ log) id) (sym fresh.2) (tells_promise id old key ballot (accepted_ballot accepted) accepted tells fresh.0 row.0)
]

promise_low : (old new : Contents) (key : List ℕ) (ballot : Ballot) (accepted : Option Accepted) → Answers old (ask.Prepare key ballot) (tell.Promised accepted) new → BallotAtMost (seen_at old key) ballot
promise_low old new key ballot accepted row = elim row.1 [
  | inl again ↦ subst (BallotAtMost (seen_at old key)) again.0 (at_most_refl (seen_at old key))
  | inr fresh ↦ at_most_of_less fresh.0
]

repeat_is : (accepted : Option Accepted) (ballot : Ballot) → IsSomeAnd accepted (λ a. a.ballot ≡ ballot) → is_accepted_at accepted ballot ≡ true
repeat_is None ballot h = absurd h
repeat_is (Some a) ballot h = rw h (ap is_eq (cmp_refl ballot))

repeat_not : (accepted : Option Accepted) (ballot : Ballot) → (IsSomeAnd accepted (λ a. a.ballot ≡ ballot) → ⊥) → is_accepted_at accepted ballot ≡ false
repeat_not None ballot h = refl
repeat_not (Some a) ballot h = false_of_not _ (λ e. h (ballot_same {a = a.ballot} {b = ballot} e))

-- an accept is confirmed: again, or for the first time
accepts : (cluster : Cluster) {log : List Happening} (request : Request) (old new : Contents) (key : List ℕ) (ballot : Ballot) (era : ℕ) (ride : Option Ballot) (state : State)
    → request.ask ≡ ask.Accept key ballot era ride state → LogTellsKept cluster log request.to old → WasAsked log request.to request → IsMadeState (marks_of log) key ballot era state
    → Answers old (ask.Accept key ballot era ride state) tell.Accepted new → LogTellsKept cluster (events_of request.to old (ask.Accept key ballot era ride state) tell.Accepted ++ log) request.to new
accepts cluster {log} request old new key ballot era ride state is on was made row = elim row [
  | inl again ↦
      subst (λ (b : Bool). LogTellsKept cluster (cond b [] (Took request.to key ballot (unwrap_or ride zero_ballot) ∷ []) ++ log) request.to new) (sym (repeat_is (accepted_at old key) ballot again.0))
      (kept_still again.1 on)
  | inr fresh ↦
      subst (λ (b : Bool). LogTellsKept cluster (cond b [] (Took request.to key ballot (unwrap_or ride zero_ballot) ∷ []) ++ log) request.to new) (sym (repeat_not (accepted_at old key) ballot fresh.0))
      (subst (LogTellsKept cluster (Took request.to key ballot (unwrap_or ride zero_ballot) ∷ log) request.to) (sym fresh.3) (takes cluster request old key ballot era ride state is on was fresh.1 made))
]

-- a slot that holds the tombstone is there, and accepted at it
tombstone_there : (slot : Option Slot) (tomb : Ballot) → IsSomeAnd (accepted_of slot) (λ a. (a.ballot ≡ tomb) × (a.state ≡ Empty)) → (is_some slot ≡ true) × (accepted_ballot (accepted_of slot) ≡ tomb)
tombstone_there None tomb h = absurd h
tombstone_there (Some slot) tomb h = (refl, held slot.accepted h)
  where
    held : (accepted : Option Accepted) → IsSomeAnd accepted (λ a. (a.ballot ≡ tomb) × (a.state ≡ Empty)) → accepted_ballot accepted ≡ tomb
    held None h = absurd h
    held (Some a) h = h.0

removes : (cluster : Cluster) {log : List Happening} (request : Request) (old new : Contents) (key : List ℕ) (tomb : Ballot) → request.ask ≡ ask.Remove key tomb
    → LogTellsKept cluster log request.to old → WasAsked log request.to request → Answers old (ask.Remove key tomb) tell.Removed new
    → LogTellsKept cluster (events_of request.to old (ask.Remove key tomb) tell.Removed ++ log) request.to new
removes cluster {log} request old new key tomb is on was row = elim row [
  | inl absent ↦
      subst (λ (s : Option Slot). LogTellsKept cluster (cond (is_some s) (Dropped request.to key tomb ∷ []) [] ++ log) request.to new) (sym absent.0) (kept_still absent.1 on)
  | inr held ↦
      let there = tombstone_there (kept_at old key) tomb held.0.0 in
      subst (λ (b : Bool). LogTellsKept cluster (cond b (Dropped request.to key tomb ∷ []) [] ++ log) request.to new) (sym there.0)
      (subst (LogTellsKept cluster (Dropped request.to key tomb ∷ log) request.to) (sym held.1) (drops cluster request old key tomb is on was there.1 held.0.1))
]

-- the log and the contents after whatever the acceptor did
pub events_kept : (cluster : Cluster) {log : List Happening} (request : Request) (old new : Contents) (question : Ask) (answer : Tell) → request.ask ≡ question
    → LogTellsKept cluster log request.to old → Stands (Asked request) log → IsAskState (marks_of log) question → request.from ≤ 16
    → Handles old (record request { ask = question }) answer new → LogTellsKept cluster (events_of request.to old question answer ++ log) request.to new
events_kept cluster {log} request old new (ask.Prepare key ballot) (tell.Promised accepted) is on asked state known row =
    promises cluster request old new key ballot accepted is on (was_asked cluster request old on asked known row.0) row.1.0 (promise_low old new key ballot accepted row.1) (promise_tells log request.to old new key ballot accepted on.tells row.1)
events_kept cluster request old new (ask.Prepare key ballot) (tell.Met seen) is on asked state known row = kept_still row.1.2 on
events_kept cluster request old new (ask.Prepare key ballot) tell.Full is on asked state known row = kept_still row.1.2 on
events_kept cluster request old new (ask.Accept key ballot era ride state) tell.Accepted is on asked made known row =
    accepts cluster request old new key ballot era ride state is on (was_asked cluster request old on asked known row.0) made row.1
events_kept cluster request old new (ask.Accept key ballot era ride state) (tell.Met seen) is on asked made known row = kept_still row.1.3 on
events_kept cluster request old new (ask.Accept key ballot era ride state) tell.Full is on asked made known row = kept_still row.1.2 on
events_kept cluster request old new (ask.Ages tag least) tell.AgesSet is on asked state known row = subst (LogTellsKept cluster _ request.to) (sym row.1) (raises cluster request.to old least on)
events_kept cluster request old new (ask.Remove key tomb) tell.Removed is on asked state known row = removes cluster request old new key tomb is on
    (was_asked cluster request old on asked known row.0) row.1
events_kept cluster request old new (ask.Remove key tomb) tell.Kept is on asked state known row = kept_still row.1.2 on
events_kept cluster request old new (ask.List tag after) (tell.Listed told keys more) is on asked state known row = kept_still row.1.3 on
events_kept cluster request old new (ask.Probe tag key) (tell.Probed promise accepted) is on asked state known row = kept_still row.1.2 on
events_kept cluster request old new question (tell.Aged least) is on asked state known row = kept_still row.2 on
-- nothing else is told
events_kept cluster request old new question answer is on asked state known row = absurd row.1

-- ---- its vote
-- what was accepted is what was asked, be it for the first time or again
accepted_is : (old new : Contents) (key : List ℕ) (ballot : Ballot) (era : ℕ) (ride : Option Ballot) (state : State) → Answers old (ask.Accept key ballot era ride state) tell.Accepted new
    → accepted_ballot (accepted_at new key) ≡ ballot
accepted_is old new key ballot era ride state row = elim row [
  | inl again ↦ subst (λ (c : Contents). accepted_ballot (accepted_at c key) ≡ ballot) (sym again.1) (repeated (accepted_at old key) again.0)
  | inr fresh ↦ subst (λ (c : Contents). accepted_ballot (accepted_at c key) ≡ ballot) (sym fresh.3)
      (ap (λ (s : Option Slot). accepted_ballot (accepted_of s))
      (slot_at-with_slot_same old.slots key (record { promise = unwrap_or ride zero_ballot; accepted = Some (record { ballot = ballot; era = era; state = state }) })))
]
  where
    repeated : (accepted : Option Accepted) → IsSomeAnd accepted (λ a. a.ballot ≡ ballot) → accepted_ballot accepted ≡ ballot
    repeated None h = absurd h
    repeated (Some a) h = h

-- a ballot that was proposed is not zero
pub made_not_zero : (cluster : Cluster) (log : List Happening) {key : List ℕ} {ballot : Ballot} {era : ℕ} {state : State} → Lawful cluster log → IsMadeState (marks_of log) key ballot era state → ballot ≡ zero_ballot → ⊥
made_not_zero cluster log lawful made zero =
    let place = stands_in_log log made.stands in
    not_zero cluster lawful place.at (made.same_ballot ∙ zero)

-- nor is the ballot of a state that was accepted
pub accepted_not_zero : (cluster : Cluster) (log : List Happening) {key : List ℕ} (accepted : Accepted) → Lawful cluster log → IsAcceptedState (marks_of log) key (Some accepted) → accepted.ballot ≡ zero_ballot → ⊥
accepted_not_zero cluster log accepted lawful (inl made) zero = made_not_zero cluster log lawful made zero
accepted_not_zero cluster log accepted lawful (inr opening) zero = less_irreflexive (subst (BallotLess zero_ballot) zero opening.some)

-- the marks go on by a vote, and no state changes
state_voted : (marks : List Mark) (vote : Mark) (key : List ℕ) (accepted : Option Accepted) (id : ℕ) (k : List ℕ) (b : Ballot) → vote ≡ Voted id k b → IsAcceptedState marks key accepted → IsAcceptedState (vote ∷ marks) key accepted
state_voted marks vote key None id k b is h = tt
state_voted marks vote key (Some a) id k b is (inl h) = inl (subst (λ (m : Mark). IsMadeState (m ∷ marks) key a.ballot a.era a.state) (sym is) (record {
  proposal = h.proposal;
  stands = record { older = h.stands.older; at = past h.stands.at };
  same_key = h.same_key;
  same_ballot = h.same_ballot;
  same_era = h.same_era;
  state_is = h.state_is;
}))
state_voted marks vote key (Some a) id k b is (inr h) =
    inr (subst (λ (m : Mark). IsOpeningState (m ∷ marks) key a.ballot a.era a.state) (sym is) (record { opens = h.opens; some = h.some; same_era = h.same_era; state_is = h.state_is }))

votes : (cluster : Cluster) {log : List Happening} (id : ℕ) (kept : Contents) (key : List ℕ) (ballot : Ballot) → LogTellsKept cluster log id kept → accepted_ballot (accepted_at kept key) ≡ ballot → (ballot ≡ zero_ballot → ⊥)
    → LogTellsKept cluster (Marked (Voted id key ballot) ∷ log) id kept
votes cluster {log} id kept key ballot on holds some =
    let took = took_tells log id key ballot (ap (λ (s : SlotTold). s.accepted) (on.tells.slots key) ∙ holds) some in
    record {
      lawful = (on.lawful, record { ride = took.0; taken = took.1 });
      orderly = (on.orderly, tt);
      tells = record {
        slots = on.tells.slots;
        ages = on.tells.ages;
        states = λ q. state_voted (marks_of log) (Voted id key ballot) q (accepted_of (kept_at kept q)) id key ballot refl (on.tells.states q);
      };
    }

-- no deed is a mark
pub events_marks : (id : ℕ) (old : Contents) (log : List Happening) (question : Ask) (answer : Tell) → marks_of (events_of id old question answer ++ log) ≡ marks_of log
events_marks id old log (ask.Prepare key ballot) (tell.Promised accepted) = refl
events_marks id old log (ask.Accept key ballot era ride state) tell.Accepted = by_test (is_accepted_at (accepted_at old key) ballot)
  where
    by_test : (b : Bool) → marks_of (cond b [] (Took id key ballot (unwrap_or ride zero_ballot) ∷ []) ++ log) ≡ marks_of log
    by_test true = refl
    by_test false = refl
events_marks id old log (ask.Ages tag least) tell.AgesSet = refl
events_marks id old log (ask.Remove key tomb) tell.Removed = by_test (is_some (kept_at old key))
  where
    by_test : (b : Bool) → marks_of (cond b (Dropped id key tomb ∷ []) [] ++ log) ≡ marks_of log
    by_test true = refl
    by_test false = refl
events_marks id old log question answer = refl

-- the log with what the acceptor did and its vote
pub voted : (cluster : Cluster) {log : List Happening} (request : Request) (old new : Contents) (question : Ask) (answer : Tell)
    → LogTellsKept cluster log request.to old → LogTellsKept cluster (events_of request.to old question answer ++ log) request.to new → IsAskState (marks_of log) question
    → Handles old (record request { ask = question }) answer new
    → LogTellsKept cluster (votes_of request.to question answer ++ (events_of request.to old question answer ++ log)) request.to new
voted cluster {log} request old new (ask.Accept key ballot era ride state) tell.Accepted on did made row =
    votes cluster request.to new key ballot did (accepted_is old new key ballot era ride state row.1) (made_not_zero cluster log on.lawful made)
voted cluster request old new question answer on did state row = did

-- ---- its reply
accepted_low : (slot : Option Slot) → BallotAtMost (accepted_ballot (accepted_of slot)) (seen_of slot)
accepted_low None = at_most_refl zero_ballot
accepted_low (Some slot) = at_most_greater_right slot.promise (accepted_ballot slot.accepted)

-- a tombstone holds the empty state, so a slot that is kept holds none
not_tombstone : (cluster : Cluster) {log : List Happening} (id : ℕ) (old : Contents) (key : List ℕ) (tomb : Ballot) → LogTellsKept cluster log id old → IsEmptyAt (marks_of log) key tomb
    → (IsAcceptedTombstone old key tomb → ⊥) → IsTombstoneTold (slot_told log id key) tomb → ⊥
not_tombstone cluster {log} id old key tomb on empty other held =
    let told : slot_told log id key ≡ told_of (kept_at old key) = on.tells.slots key in
    let accepted : accepted_ballot (accepted_at old key) ≡ tomb = ap (λ (s : SlotTold). s.accepted) (sym told) ∙ held.holds in
    let promise : BallotAtMost (promised_at old key) tomb = subst (λ (s : SlotTold). BallotAtMost s.promise tomb) told held.promise in
    other (at_tomb (accepted_at old key) accepted (on.tells.states key), promise)
  where
    at_tomb : (a : Option Accepted) → accepted_ballot a ≡ tomb → IsAcceptedState (marks_of log) key a → IsSomeAnd a (λ x. (x.ballot ≡ tomb) × (x.state ≡ Empty))
    at_tomb None zero made = made_not_zero cluster log on.lawful empty.1 (sym zero)
    at_tomb (Some x) same (inr opening) =
        let m = empty.1 in
        let proposed : ProposedAt key tomb log = proposed_at log (record { proposal = m.proposal; stands = m.stands; same_key = m.same_key; same_ballot = m.same_ballot }) in
        absurd (not_both (has_opening key tomb (marks_of log)) (subst (λ b. has_opening key b (marks_of log) ≡ true) same opening.opens) (not_opened cluster on.lawful proposed))
    at_tomb (Some x) same (inl made) =
        (same, made.state_is ∙ ap (λ (b : Ballot). replay_from (opening_state key (marks_of log)) (chain_of key b (marks_of log))) same ∙ sym empty.1.state_is)

-- what the acceptor answers is so in the log with what it did and its vote
told_so : (cluster : Cluster) {log : List Happening} (request : Request) (old new : Contents) (question : Ask) (answer : Tell) → LogTellsKept cluster log request.to old
    → LogTellsKept cluster (events_of request.to old question answer ++ log) request.to new → IsAskState (marks_of log) question
    → Handles old (record request { ask = question }) answer new
    → IsTold (votes_of request.to question answer ++ (events_of request.to old question answer ++ log)) request.to question answer
told_so cluster {log} request old new (ask.Prepare key ballot) (tell.Promised accepted) on did state row =
    (record { older = log; at = here }, at_most_trans (subst (λ (a : Option Accepted). BallotAtMost (accepted_ballot a) (seen_at old key)) (sym row.1.0) (accepted_low (kept_at old key))) (promise_low old new key ballot accepted row.1))
told_so cluster request old new (ask.Prepare key ballot) (tell.Met seen) on did state row = row.1.1
told_so cluster request old new (ask.Prepare key ballot) tell.Full on did state row = tt
told_so cluster {log} request old new (ask.Accept key ballot era ride state) tell.Accepted on did made row = record { older = marks_of (events_of request.to old (ask.Accept key ballot era ride state) tell.Accepted ++ log); at = here }
told_so cluster request old new (ask.Accept key ballot era ride state) (tell.Met seen) on did made row = row.1.2
told_so cluster request old new (ask.Accept key ballot era ride state) tell.Full on did made row = tt
told_so cluster {log} request old new (ask.Ages tag least) tell.AgesSet on did state row = λ proposer known. omega (arith, own_age request.to proposer least log)
told_so cluster {log} request old new (ask.Remove key tomb) tell.Removed on did state row = did.tells.slots key ∙ ap told_of (gone row.1)
  where
    gone : Answers old (ask.Remove key tomb) tell.Removed new → kept_at new key ≡ None
    gone (inl absent) = ap (λ (c : Contents). kept_at c key) absent.1 ∙ absent.0
    gone (inr held) = ap (λ (c : Contents). kept_at c key) held.1 ∙ slot_at-without_slot_same old.slots key
told_so cluster request old new (ask.Remove key tomb) tell.Kept on did empty row = not_tombstone cluster request.to old key tomb on empty row.1.1
told_so cluster request old new (ask.List tag after) (tell.Listed told keys more) on did state row =
    (row.1.0, λ q above passed. on.tells.slots q ∙ ap told_of (absent_unlisted old after keys more q row.1.1 row.1.2.1 above passed))
told_so cluster request old new (ask.Probe tag key) (tell.Probed promise accepted) on did state row =
    on.tells.slots key ∙ ap (λ (b : Ballot). record { promise = b; accepted = accepted_ballot (accepted_at old key) }) (sym row.1.0)
    ∙ ap (λ (a : Option Accepted). record { promise = promise; accepted = accepted_ballot a }) (sym row.1.1)
told_so cluster request old new (ask.Prepare key ballot) (tell.Aged least) on did state row = tt
told_so cluster request old new (ask.Accept key ballot era ride state) (tell.Aged least) on did made row = tt
told_so cluster request old new (ask.Ages tag ages) (tell.Aged least) on did state row = tt
told_so cluster request old new (ask.Remove key tomb) (tell.Aged least) on did state row = tt
told_so cluster request old new (ask.List tag after) (tell.Aged least) on did state row = tt
told_so cluster request old new (ask.Probe tag key) (tell.Aged least) on did state row = tt
-- nothing else is told
told_so cluster request old new question answer on did state row = absurd row.1

pub answers : (cluster : Cluster) {log : List Happening} (old new : Contents) (request : Request) (reply : Reply) → LogTellsKept cluster log request.to old → Stands (Asked request) log
    → IsAskState (marks_of log) request.ask → request.from ≤ 16 → IsReplyByTable request.to old request reply new
    → LogTellsKept cluster (done_log request.to old request reply.tell log) request.to new × LogTellsKept cluster (answered_log request.to old request reply log) request.to new
answers cluster {log} old new request reply on asked state known is =
    let did = events_kept cluster request old new request.ask reply.tell refl on asked state known is.row in
    let vote = voted cluster request old new request.ask reply.tell on did state is.row in
    let log' = votes_of request.to request.ask reply.tell ++ (events_of request.to old request.ask reply.tell ++ log) in (
      did,
      record {
        lawful = (vote.lawful, tt);
        orderly = (
          vote.orderly,
          record {
            asked = stands_later (votes_of request.to request.ask reply.tell) (stands_later (events_of request.to old request.ask reply.tell) asked);
            from = is.from;
            to = is.to;
            phase = is.phase;
            tag = is.tag;
            told = told_so cluster request old new request.ask reply.tell on did state is.row;
          },
        );
        tells = record { slots = vote.tells.slots; ages = vote.tells.ages; states = vote.tells.states };
      },
    )
