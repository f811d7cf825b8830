-- Steps of acceptors: one answers, stops within an answer, crashes, or is up again; and a cluster has a history after each.
use Rattle.std.proofs.Common.{◌≡◌, ℕ, true, false, List, ◌∷◌, ◌++◌, Ok, refl, sym, ap, subst, ◌∙◌, inl, inr}
use Rattle.std.specs.Prelude.{◌==◌}
use Rattle.cas_base.proofs.Bools.{if_true, if_false, true_or_false}
use Rattle.cas_acceptor.specs.Acceptor.{AcceptorView, LeavesByTable}
use Rattle.cas_slot.specs.declared.message.Ask.{Ask}
use Rattle.cas_slot.specs.declared.message.Ask.TheVariants as ask
use Rattle.cas_slot.specs.declared.message.Reply.{Reply}
use Rattle.cas_slot.specs.declared.message.Request.{Request}
use Rattle.cas_slot.specs.declared.message.Tell.{Tell}
use Rattle.cas_slot.specs.declared.message.Tell.TheVariants as tell
use Rattle.cas_slot.specs.Contents.{Contents}
use Rattle.cas_slot.specs.Table.{Handles, IsReplyByTable}
use Rattle.cas_slot.specs.Table as Table
use Rattle.cas_record.specs.declared.mark.Mark.{Mark}
use Rattle.cas_record.specs.Logs.Happening.{Happening, Asked, Replied, marks_of}
use Rattle.cas_record.specs.Logs.Lawful.{Cluster, Lawful}
use Rattle.cas_record.specs.Logs.Orderly.{Orderly}
use Rattle.cas_record.specs.Places.{Stands, here}
use Rattle.cas_record.proofs.Tests.{nat_same, nat_is}
use Rattle.cas_protocol.specs.Acceptors.{IsElsewhere, IsLeft, events_of, votes_of, done_log, answered_log}
use Rattle.cas_protocol.specs.Laws.{LogTellsKept}
use Rattle.cas_model.specs.Parties.{IsAcceptorTrue, WasMade, IsRoundTell}
use Rattle.cas_protocol.specs.Protocol.{Made, GlobalState, kept_but, Answers, StopsWithin as StopsWithinEvent}
use Rattle.cas_model.specs.Frames.Acceptors.{AnswersByTable, StopsWithin, FindsNoMemory, CrashesShelf, StartsShelf, FailsToStart}
use Rattle.cas_model.specs.View.{Meaning, View, IsAt, with_acceptor}
use Rattle.cas_protocol.proofs.Along.{along, lawful_front, orderly_front, events_each, votes_each}
use Rattle.cas_protocol.proofs.Answered.{events_marks}
use Rattle.cas_model.proofs.Around.{Parties, parties_more, parties_seen, Everyone, Whole}
use Rattle.cas_protocol.proofs.Events.{keeps, events_elsewhere}
use Rattle.cas_model.proofs.Others.{IsOfOthers, asks_nothing, no_floor_of, acceptor_still}
use Rattle.cas_model.proofs.Places.{but_set}
use Rattle.cas_protocol.proofs.Staying.{stops, left_is}

-- ---- what an acceptor does is of no proposer
abbrev IsQuiet : Happening → Type 0
IsQuiet h = (p : ℕ) → IsOfOthers p h

quiet_step : {S V : Type 0} (m : Meaning S V) (cluster : Cluster) (all : List Made) (view : View S V) (h : Happening) (log : List Happening) → Lawful cluster (h ∷ log) → Orderly cluster (h ∷ log) → IsQuiet h
    → Parties m cluster log all view Everyone → Parties m cluster (h ∷ log) all view Everyone
quiet_step m cluster all view h log lawful orderly quiet was = parties_more m cluster log all view Everyone h lawful orderly (no_floor_of 0 (quiet 0)) (asks_nothing view.council h quiet) (λ p these. quiet p) was

-- all parties stay as they were where an acceptor does something
parties_done : {S V : Type 0} (m : Meaning S V) (cluster : Cluster) (log : List Happening) (all : List Made) (view : View S V) (to : ℕ) (old : Contents) (request : Request) (tell : Tell)
    → Lawful cluster (done_log to old request tell log) → Orderly cluster (done_log to old request tell log)
    → Parties m cluster log all view Everyone → Parties m cluster (done_log to old request tell log) all view Everyone
parties_done m cluster log all view to old request tell lawful orderly was =
    along cluster IsQuiet (λ l. Parties m cluster l all view Everyone) (quiet_step m cluster all view) (events_of to old request.ask tell) log
    (events_each IsQuiet to old request.ask tell (record { promised = λ key ballot told p. tt; took = λ key ballot ride p. tt; dropped = λ key tomb p. tt; raised = λ least p. tt })) lawful orderly was

parties_answered : {S V : Type 0} (m : Meaning S V) (cluster : Cluster) (log : List Happening) (all : List Made) (view : View S V) (to : ℕ) (old : Contents) (request : Request) (reply : Reply)
    → Lawful cluster (answered_log to old request reply log) → Orderly cluster (answered_log to old request reply log)
    → Parties m cluster log all view Everyone → Parties m cluster (answered_log to old request reply log) all view Everyone
parties_answered m cluster log all view to old request reply lawful orderly was =
    let votes = votes_of to request.ask reply.tell in
    let did = done_log to old request reply.tell log in
    quiet_step m cluster all view (Replied request reply) (votes ++ did) lawful orderly (λ p. tt)
    (along cluster IsQuiet (λ l. Parties m cluster l all view Everyone) (quiet_step m cluster all view) votes did (votes_each IsQuiet to request.ask reply.tell (λ key ballot p. tt)) lawful.0 orderly.0
    (parties_done m cluster log all view to old request reply.tell (lawful_front cluster votes did lawful.0) (orderly_front cluster votes did orderly.0) was))

-- ---- other acceptors
other_step : {S V : Type 0} (m : Meaning S V) (cluster : Cluster) (id : ℕ) (kept : Contents) (acceptor : AcceptorView S) (h : Happening) (log : List Happening) → Lawful cluster (h ∷ log) → Orderly cluster (h ∷ log) → IsElsewhere id h
    → IsAcceptorTrue m log id kept acceptor → IsAcceptorTrue m (h ∷ log) id kept acceptor
other_step m cluster id kept acceptor h log lawful orderly elsewhere was = acceptor_still m cluster h log id kept lawful elsewhere was

other_done : {S V : Type 0} (m : Meaning S V) (cluster : Cluster) (log : List Happening) (id to : ℕ) (kept old : Contents) (acceptor : AcceptorView S) (request : Request) (tell : Tell) → (to ≡ id → ⊥)
    → Lawful cluster (done_log to old request tell log) → Orderly cluster (done_log to old request tell log)
    → IsAcceptorTrue m log id kept acceptor → IsAcceptorTrue m (done_log to old request tell log) id kept acceptor
other_done m cluster log id to kept old acceptor request tell other lawful orderly was =
    along cluster (IsElsewhere id) (λ l. IsAcceptorTrue m l id kept acceptor) (other_step m cluster id kept acceptor) (events_of to old request.ask tell) log (events_elsewhere id to old request.ask tell other) lawful orderly was

other_answered : {S V : Type 0} (m : Meaning S V) (cluster : Cluster) (log : List Happening) (id to : ℕ) (kept old : Contents) (acceptor : AcceptorView S) (request : Request) (reply : Reply) → (to ≡ id → ⊥)
    → Lawful cluster (answered_log to old request reply log) → Orderly cluster (answered_log to old request reply log)
    → IsAcceptorTrue m log id kept acceptor → IsAcceptorTrue m (answered_log to old request reply log) id kept acceptor
other_answered m cluster log id to kept old acceptor request reply other lawful orderly was =
    let votes = votes_of to request.ask reply.tell in
    let did = done_log to old request reply.tell log in
    other_step m cluster id kept acceptor (Replied request reply) (votes ++ did) lawful orderly tt
    (along cluster (IsElsewhere id) (λ l. IsAcceptorTrue m l id kept acceptor) (other_step m cluster id kept acceptor) votes did (votes_each (IsElsewhere id) to request.ask reply.tell (λ key ballot. tt)) lawful.0 orderly.0
    (other_done m cluster log id to kept old acceptor request reply.tell other (lawful_front cluster votes did lawful.0) (orderly_front cluster votes did orderly.0) was))

-- ---- what one keeps
kept_here : (kept : ℕ → Contents) (to : ℕ) (new : Contents) → kept_but kept to new to ≡ new
kept_here kept to new = if_true (to == to) new (kept to) (nat_is refl)

kept_there : (kept : ℕ → Contents) (to id : ℕ) (new : Contents) → (id ≡ to → ⊥) → kept_but kept to new id ≡ kept id
kept_there kept to id new other = if_false (id == to) new (kept id) (elim (true_or_false (id == to)) [ inl same ↦ absurd (other (nat_same same)) | inr differs ↦ differs ])

-- all acceptors, where one is new
each_but : {S V : Type 0} (m : Meaning S V) (log : List Happening) (kept : ℕ → Contents) (view : View S V) (to : ℕ) (now : AcceptorView S) → IsAcceptorTrue m log to (kept to) now
    → ((a : ℕ) (acceptor : AcceptorView S) → (a ≡ to → ⊥) → IsAt view.acceptors a acceptor → IsAcceptorTrue m log a (kept a) acceptor)
    → (a : ℕ) (acceptor : AcceptorView S) → IsAt (with_acceptor view to now).acceptors a acceptor → IsAcceptorTrue m log a (kept a) acceptor
each_but {S} m log kept view to now own others a acceptor at = elim (but_set view.acceptors to now a acceptor at) [
  | inl same ↦ subst (λ (i : ℕ). IsAcceptorTrue m log i (kept i) acceptor) (sym same.0) (subst (IsAcceptorTrue m log to (kept to)) (sym same.1) own)
  | inr other ↦ others a acceptor other.0 other.1
]

-- one acceptor is replaced, and the log stays
pub replaces : {S V : Type 0} (m : Meaning S V) (cluster : Cluster) (global : GlobalState) (view : View S V) (to : ℕ) (now : AcceptorView S) → IsAcceptorTrue m global.log to (global.kept to) now
    → Whole m cluster global view → Whole m cluster global (with_acceptor view to now)
replaces m cluster global view to now own whole = record {
  meets = whole.meets;
  history = whole.history;
  acceptors = each_but m global.log global.kept view to now own (λ a acceptor other at. whole.acceptors a acceptor at);
  parties = parties_seen m cluster global.log global.made view (with_acceptor view to now) Everyone refl refl refl refl refl refl whole.parties;
}

-- ---- answers
abbrev pub answered_global : GlobalState → Request → Reply → Contents → GlobalState
answered_global global request reply new = record {
  log = answered_log request.to (global.kept request.to) request reply global.log;
  kept = kept_but global.kept request.to new;
  made = global.made;
}

up_not_down : {S V : Type 0} (m : Meaning S V) (now : AcceptorView S) → now.down ≡ false → now.down ≡ true → ⊥
up_not_down m now up down = absurd (cc (up, down))

pub answers : {S V : Type 0} (m : Meaning S V) (cluster : Cluster) (global : GlobalState) (view : View S V) (request : Request) (reply : Reply) (acceptor now : AcceptorView S) → m.shelves.tells
    → IsAt view.acceptors request.to acceptor → AnswersByTable m.shelves acceptor now request reply → Stands (Asked request) global.log
    → Whole m cluster global view → Whole m cluster (answered_global global request reply (m.shelves.contents now.shelf)) (with_acceptor view request.to now)
answers {S} {V} m cluster global view request reply acceptor now tells at by asked whole =
    let to = request.to in
    let was = whole.acceptors to acceptor at in
    let new : Contents = m.shelves.contents now.shelf in
    let answered : IsReplyByTable to (global.kept to) request reply new =
    subst (λ (c : Contents). IsReplyByTable to c request reply new) (was.keeps by.up) (subst (λ (i : ℕ). IsReplyByTable i (m.shelves.contents acceptor.shelf) request reply new) was.same_id by.table) in
    let history = keeps cluster whole.meets global whole.history (Answers request reply new asked answered) in
    let up : now.down ≡ false = ap (λ (a : AcceptorView S). a.down) by.acceptor ∙ by.up in
    let started : now.started ≡ true = ap (λ (a : AcceptorView S). a.started) by.acceptor ∙ was.started by.up in
    record {
      meets = whole.meets;
      history = history;
      acceptors = each_but m (answered_global global request reply new).log (answered_global global request reply new).kept view to now
          (record {
            same_id = ap (λ (a : AcceptorView S). a.id) by.acceptor ∙ was.same_id;
            started = λ e. started;
            keeps = λ e. sym (kept_here global.kept to new);
            lasts = λ e. by.lasts tells;
            stopped = λ down s left may. absurd (up_not_down m now up down);
            not_started = λ none. absurd (cc (none, started));
          })
          (λ a one other at_one. subst (λ (c : Contents). IsAcceptorTrue m (answered_global global request reply new).log a c one) (sym (kept_there global.kept to a new other))
          (other_answered m cluster global.log a to (global.kept a) (global.kept to) one request reply (λ same. other (sym same)) history.lawful history.orderly (whole.acceptors a one at_one)));
      parties = parties_seen m cluster (answered_global global request reply new).log global.made view (with_acceptor view to now) Everyone refl refl refl refl refl refl
          (parties_answered m cluster global.log global.made view to (global.kept to) request reply history.lawful history.orderly whole.parties);
    }

-- the marks then: those from before, and its vote
pub answered_marks : (global : GlobalState) (request : Request) (reply : Reply) (new : Contents)
    → marks_of (answered_global global request reply new).log ≡ marks_of (votes_of request.to request.ask reply.tell) ++ marks_of global.log
answered_marks global request reply new =
    votes_marks request.to request.ask reply.tell (done_log request.to (global.kept request.to) request reply.tell global.log)
    ∙ ap (λ (l : List Mark). marks_of (votes_of request.to request.ask reply.tell) ++ l) (events_marks request.to (global.kept request.to) global.log request.ask reply.tell)
  where
    votes_marks : (to : ℕ) (question : Ask) (answer : Tell) (log : List Happening) → marks_of (votes_of to question answer ++ log) ≡ marks_of (votes_of to question answer) ++ marks_of log
    votes_marks to (ask.Accept key ballot era ride state) tell.Accepted log = refl
    votes_marks to question answer log = refl

-- an answer is of the kind of what was asked
kind_of : (old new : Contents) (question : Ask) (answer : Tell) → Table.Answers old question answer new → IsRoundTell question answer
kind_of old new question (tell.Met seen) row = tt
kind_of old new question (tell.Aged least) row = tt
kind_of old new question tell.Full row = tt
kind_of old new (ask.Prepare key ballot) (tell.Promised accepted) row = tt
kind_of old new (ask.Accept key ballot era ride state) tell.Accepted row = tt
kind_of old new (ask.Ages tag least) answer row = tt
kind_of old new (ask.Remove key tomb) answer row = tt
kind_of old new (ask.List tag after) answer row = tt
kind_of old new (ask.Probe tag key) answer row = tt
kind_of old new question answer row = absurd row

kind_told : (old new : Contents) (request : Request) (answer : Tell) → Handles old request answer new → IsRoundTell request.ask answer
kind_told old new request (tell.Aged least) row = tt
kind_told old new request answer row = kind_of old new request.ask answer row.1

-- the reply of an acceptor was made
pub reply_made : {S V : Type 0} (m : Meaning S V) (global : GlobalState) (request : Request) (reply : Reply) (acceptor now : AcceptorView S) → AnswersByTable m.shelves acceptor now request reply
    → WasMade (answered_global global request reply (m.shelves.contents now.shelf)).log reply
reply_made m global request reply acceptor now by = record {
  request = request;
  replied = record { older = votes_of request.to request.ask reply.tell ++ done_log request.to (global.kept request.to) request reply.tell global.log; at = here };
  kind = kind_told (m.shelves.contents acceptor.shelf) (m.shelves.contents now.shelf) request reply.tell by.table.row;
}

-- ---- stops
pub stops_within : {S V : Type 0} (m : Meaning S V) (cluster : Cluster) (global : GlobalState) (view : View S V) (request : Request) (acceptor now : AcceptorView S) → m.shelves.tells
    → IsAt view.acceptors request.to acceptor → StopsWithin m.shelves acceptor now request → Stands (Asked request) global.log
    → Whole m cluster global view → Whole m cluster global (with_acceptor view request.to now)
stops_within {S} m cluster global view request acceptor now tells at by asked whole =
    let to = request.to in
    let was = whole.acceptors to acceptor at in
    let down : now.down ≡ true = ap (λ (a : AcceptorView S). a.down) by.acceptor in
    let started : now.started ≡ acceptor.started = ap (λ (a : AcceptorView S). a.started) by.acceptor in
    let on : LogTellsKept cluster global.log to (global.kept to) = record { lawful = whole.history.lawful; orderly = whole.history.orderly; tells = whole.history.tells to } in
    replaces m cluster global view to now (record {
      same_id = ap (λ (a : AcceptorView S). a.id) by.acceptor ∙ was.same_id;
      started = λ up. absurd (up_not_down m now up down);
      keeps = λ up. absurd (up_not_down m now up down);
      lasts = λ up. absurd (up_not_down m now up down);
      stopped = λ d s left may. stops cluster global.log to (global.kept to) on request left asked refl (whole.history.knows.asked request asked) (whole.history.knows.known request asked).0
          (subst (λ (c : Contents). LeavesByTable c request left) (was.keeps by.up) (by.leaves tells left may));
      not_started = λ none. was.not_started (sym started ∙ none);
    }) whole

pub finds_none : {S V : Type 0} (m : Meaning S V) (cluster : Cluster) (global : GlobalState) (view : View S V) (id : ℕ) (acceptor now : AcceptorView S) → m.shelves.tells
    → IsAt view.acceptors id acceptor → FindsNoMemory m.shelves acceptor now → Whole m cluster global view → Whole m cluster global (with_acceptor view id now)
finds_none {S} m cluster global view id acceptor now tells at by whole =
    let was = whole.acceptors id acceptor at in
    let up : now.down ≡ false = ap (λ (a : AcceptorView S). a.down) by.acceptor ∙ by.up in
    let started : now.started ≡ acceptor.started = ap (λ (a : AcceptorView S). a.started) by.acceptor in
    replaces m cluster global view id now (record {
      same_id = ap (λ (a : AcceptorView S). a.id) by.acceptor ∙ was.same_id;
      started = λ e. started ∙ was.started by.up;
      keeps = λ e. by.kept ∙ was.keeps by.up;
      lasts = λ e. by.lasts tells;
      stopped = λ down s left may. absurd (up_not_down m now up down);
      not_started = λ none. was.not_started (sym started ∙ none);
    }) whole

-- ---- crashes
pub crashes : {S V : Type 0} (m : Meaning S V) (cluster : Cluster) (global : GlobalState) (view : View S V) (id : ℕ) (acceptor now : AcceptorView S) → m.shelves.tells
    → IsAt view.acceptors id acceptor → CrashesShelf m.shelves acceptor now → Whole m cluster global view → Whole m cluster global (with_acceptor view id now)
crashes {S} m cluster global view id acceptor now tells at by whole =
    let was = whole.acceptors id acceptor at in
    let down : now.down ≡ true = ap (λ (a : AcceptorView S). a.down) by.acceptor in
    let started : now.started ≡ acceptor.started = ap (λ (a : AcceptorView S). a.started) by.acceptor in
    let settled = by.settled tells in
    replaces m cluster global view id now (record {
      same_id = ap (λ (a : AcceptorView S). a.id) by.acceptor ∙ was.same_id;
      started = λ up. absurd (up_not_down m now up down);
      keeps = λ up. absurd (up_not_down m now up down);
      lasts = λ up. absurd (up_not_down m now up down);
      stopped = λ d s left may. subst (IsLeft global.log id (global.kept id)) (sym (settled.nothing_else left may)) (elim (true_or_false acceptor.down) [
        | inl was_down ↦ was.stopped was_down (sym started ∙ s) settled.left settled.was_possible
        | inr was_up ↦ inl (was.lasts was_up settled.left settled.was_possible ∙ ap (λ (c : Contents). Ok c) (was.keeps was_up))
      ]);
      not_started = λ none. was.not_started (sym started ∙ none);
    }) whole

pub fails_to_start : {S V : Type 0} (m : Meaning S V) (cluster : Cluster) (global : GlobalState) (view : View S V) (id : ℕ) (acceptor now : AcceptorView S) → m.shelves.tells
    → IsAt view.acceptors id acceptor → FailsToStart m.shelves acceptor now → Whole m cluster global view → Whole m cluster global (with_acceptor view id now)
fails_to_start {S} m cluster global view id acceptor now tells at by whole =
    let was = whole.acceptors id acceptor at in
    let down : now.down ≡ true = ap (λ (a : AcceptorView S). a.down) by.acceptor ∙ by.was_down in
    let started : now.started ≡ acceptor.started = ap (λ (a : AcceptorView S). a.started) by.acceptor in
    replaces m cluster global view id now (record {
      same_id = ap (λ (a : AcceptorView S). a.id) by.acceptor ∙ was.same_id;
      started = λ up. absurd (up_not_down m now up down);
      keeps = λ up. absurd (up_not_down m now up down);
      lasts = λ up. absurd (up_not_down m now up down);
      stopped = λ d s left may. was.stopped by.was_down (sym started ∙ s) left (by.leaves tells (sym started ∙ s) left may);
      not_started = λ none. was.not_started (sym started ∙ none);
    }) whole

-- ---- an acceptor is up again
-- what is so then: the log may have gone on with what its last request made of it, and no mark was made
pub record IsUpAgain {S V : Type 0} (m : Meaning S V) (cluster : Cluster) (global : GlobalState) (view : View S V) : Type 0 where
  pub after : GlobalState
  pub whole : Whole m cluster after view
  pub marks : marks_of after.log ≡ marks_of global.log

-- one that is up and keeps what the log tells
up_true : {S V : Type 0} (m : Meaning S V) (log : List Happening) (id : ℕ) (kept : Contents) (acceptor now : AcceptorView S) → m.shelves.tells → acceptor.id ≡ id → StartsShelf m.shelves acceptor now → m.shelves.contents now.shelf ≡ kept → IsAcceptorTrue m log id kept now
up_true {S} m log id kept acceptor now tells same by keeps =
    let up : now.down ≡ false = ap (λ (a : AcceptorView S). a.down) by.acceptor in
    let started : now.started ≡ true = ap (λ (a : AcceptorView S). a.started) by.acceptor in
    record {
      same_id = ap (λ (a : AcceptorView S). a.id) by.acceptor ∙ same;
      started = λ e. started;
      keeps = λ e. keeps;
      lasts = λ e. by.lasts tells;
      stopped = λ down s left may. absurd (up_not_down m now up down);
      not_started = λ none. absurd (cc (none, started));
    }

pub starts : {S V : Type 0} (m : Meaning S V) (cluster : Cluster) (global : GlobalState) (view : View S V) (id : ℕ) (acceptor now : AcceptorView S) → m.shelves.tells
    → IsAt view.acceptors id acceptor → StartsShelf m.shelves acceptor now → Whole m cluster global view → IsUpAgain m cluster global (with_acceptor view id now)
starts {S} {V} m cluster global view id acceptor now tells at by whole = elim (true_or_false acceptor.started) [
  | inl started ↦ by_left (was.stopped by.was_down started (Ok new) (by.reopened tells started))
  | inr none ↦ as_before (by.afresh none ∙ sym (was.not_started none))
]
  where
    was : IsAcceptorTrue m global.log id (global.kept id) acceptor
    was = whole.acceptors id acceptor at

    new : Contents
    new = m.shelves.contents now.shelf

    as_before : new ≡ global.kept id → IsUpAgain m cluster global (with_acceptor view id now)
    as_before same = record {
      after = global;
      whole = replaces m cluster global view id now (up_true m global.log id (global.kept id) acceptor now tells was.same_id by same) whole;
      marks = refl;
    }

    half_done : (to : ℕ) (request : Request) (tell : Tell) → request.to ≡ to → to ≡ id → Stands (Asked request) global.log → Handles (global.kept to) request tell new → IsUpAgain m cluster global (with_acceptor view id now)
    half_done to request tell is_to same asked row =
        let to_id : request.to ≡ id = is_to ∙ same in
        let row_there : Handles (global.kept request.to) request tell new = subst (λ (i : ℕ). Handles (global.kept i) request tell new) (sym is_to) row in
        let after : GlobalState = record { log = done_log request.to (global.kept request.to) request tell global.log; kept = kept_but global.kept request.to new; made = global.made } in
        let history = keeps cluster whole.meets global whole.history (StopsWithinEvent request tell new asked row_there) in
        record {
          after = after;
          whole = record {
            meets = whole.meets;
            history = history;
            acceptors = each_but m after.log after.kept view id now
                (up_true m after.log id (after.kept id) acceptor now tells was.same_id by (subst (λ (i : ℕ). new ≡ kept_but global.kept request.to new i) to_id (sym (kept_here global.kept request.to new))))
                (λ a one other at_one. subst (λ (c : Contents). IsAcceptorTrue m after.log a c one) (sym (kept_there global.kept request.to a new (λ e. other (e ∙ to_id))))
                (other_done m cluster global.log a request.to (global.kept a) (global.kept request.to) one request tell (λ e. other (sym e ∙ to_id)) history.lawful history.orderly (whole.acceptors a one at_one)));
            parties = parties_seen m cluster after.log global.made view (with_acceptor view id now) Everyone refl refl refl refl refl refl
                (parties_done m cluster global.log global.made view request.to (global.kept request.to) request tell history.lawful history.orderly whole.parties);
          };
          marks = events_marks request.to (global.kept request.to) global.log request.ask tell;
        }

    by_left : IsLeft global.log id (global.kept id) (Ok new) → IsUpAgain m cluster global (with_acceptor view id now)
    by_left (inl same) = as_before (left_is new (global.kept id) same)
    by_left (inr left) =
        let half = left.1 in
        let same : new ≡ left.0 = left_is new left.0 left.2 in
        half_done id half.request half.answer half.was_asked.to refl half.was_asked.asked (subst (λ (c : Contents). Handles (global.kept id) half.request half.answer c) (sym same) half.row)
