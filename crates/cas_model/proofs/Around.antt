-- What stays as it was while others go on: the desks and callers apart from those who act, the frames under way, and the acceptors. So a
-- step of one proposer has to tell what becomes of its own desk, caller and frames alone.
use Rattle.std.proofs.Common.{◌≡◌, ◌≤◌, ℕ, suc, List, ◌∷◌, reverse, refl, sym, subst, ◌∙◌, inl, inr, arith}
use Rattle.std.specs.Prelude.{⊤, ◌⊎◌, length, slice_set}
use Rattle.cas_flow.specs.Flow.{FlowView, queue_at}
use Rattle.cas_flow.specs.declared.message.Message.{Message}
use Rattle.cas_acceptor.specs.Acceptor.{AcceptorView}
use Rattle.cas_proposer.specs.Desk.{DeskView}
use Rattle.cas_quorum.specs.declared.era.Era.{Era}
use Rattle.cas_slot.specs.Contents.{Contents}
use Rattle.cas_record.specs.declared.mark.Mark.{Mark}
use Rattle.cas_record.specs.Logs.Happening.{Happening, marks_of}
use Rattle.cas_record.specs.Logs.Lawful.{Cluster, ClusterMeets, Lawful}
use Rattle.cas_record.specs.Logs.Orderly.{Orderly}
use Rattle.cas_record.specs.Places.{Stands}
use Rattle.cas_protocol.specs.Acceptors.{IsElsewhere}
use Rattle.cas_model.specs.History.{AgreesWith, IsLogged}
use Rattle.cas_model.specs.Eras.Listed.{IsCouncilTrue}
use Rattle.cas_model.specs.Parties.{IsAcceptorTrue, AreMessagesTrue, IsEraOf, IsDeskTrue, IsCallerTrue}
use Rattle.cas_protocol.specs.Protocol.{Made, GlobalState, HasHistory, with_mark}
use Rattle.cas_model.specs.View.{Meaning, View, CallerView, IsAt, era_at, era_in}
use Rattle.cas_model.proofs.Others.{asks_nothing, IsOfOthers, FloorsNot, AsksFor, no_floor_of, council_still, messages_still, desk_still, caller_still, calls_of_others, acceptor_still, desk_more, caller_more}
use Rattle.cas_model.proofs.Eras.Courses.{era_set, era_kept}
use Rattle.cas_model.proofs.Places.{same_or_not, other_set}

-- ---- parties
-- these proposers with their callers, and all frames, are as the log tells
pub record Parties {S V : Type 0} (m : Meaning S V) (cluster : Cluster) (log : List Happening) (all : List Made) (view : View S V) (These : ℕ → Type 0) : Type 0 where
  pub last_proposer : cluster.last_proposer ≡ view.last_proposer
  pub few : view.last_proposer ≤ 16
  pub eras : (p : ℕ) → p ≤ view.last_proposer → IsEraOf cluster (era_at view p)
  pub desks : (p : ℕ) → These p → (desk : DeskView V) (caller : CallerView) → IsAt view.desks p desk → IsAt view.callers p caller
      → IsDeskTrue m cluster log all (era_at view p).number p caller (queue_at view.flow p).messages desk
  pub callers : (p : ℕ) → These p → (caller : CallerView) → IsAt view.callers p caller → IsCallerTrue log all p caller
  pub council : IsCouncilTrue cluster log view.council
  pub own : (p : ℕ) → AreMessagesTrue log (queue_at view.flow p).messages
  pub late : AreMessagesTrue log view.flow.late

pub parties_of : {S V : Type 0} (m : Meaning S V) (cluster : Cluster) (global : GlobalState) (view : View S V) (These : ℕ → Type 0) → AgreesWith m cluster global view
    → Parties m cluster global.log global.made view These
parties_of m cluster global view These is = record {
  last_proposer = is.last_proposer;
  few = is.few;
  eras = is.eras;
  desks = λ p these desk caller at_desk at_caller. is.desks p desk caller at_desk at_caller;
  callers = λ p these caller at. is.callers p caller at;
  council = is.council;
  own = is.own;
  late = is.late;
}

-- they still are once the log goes on with what is of others
pub parties_more : {S V : Type 0} (m : Meaning S V) (cluster : Cluster) (log : List Happening) (all : List Made) (view : View S V) (These : ℕ → Type 0) (h : Happening) → Lawful cluster (h ∷ log)
    → Orderly cluster (h ∷ log) → FloorsNot h → AsksFor view.council h → ((p : ℕ) → These p → IsOfOthers p h)
    → Parties m cluster log all view These → Parties m cluster (h ∷ log) all view These
parties_more m cluster log all view These h lawful orderly none asks of was = record {
  last_proposer = was.last_proposer;
  few = was.few;
  eras = was.eras;
  desks = λ p these desk caller at_desk at_caller. desk_still m cluster h log all (era_at view p).number p caller (queue_at view.flow p).messages desk orderly (of p these) (was.desks p these desk caller at_desk at_caller);
  callers = λ p these caller at. caller_still h log all caller (calls_of_others h p (of p these)) (was.callers p these caller at);
  council = council_still cluster h log view.council lawful none asks was.council;
  own = λ p. messages_still h log (queue_at view.flow p).messages (was.own p);
  late = messages_still h log view.flow.late was.late;
}

-- and once more is made
parties_made : {S V : Type 0} (m : Meaning S V) (cluster : Cluster) (log : List Happening) (all more : List Made) (view : View S V) (These : ℕ → Type 0) → ((x : Made) → Stands x all → Stands x more)
    → Parties m cluster log all view These → Parties m cluster log more view These
parties_made m cluster log all more view These grows was = record {
  last_proposer = was.last_proposer;
  few = was.few;
  eras = was.eras;
  desks = λ p these desk caller at_desk at_caller. desk_more m cluster log (era_at view p).number p caller (queue_at view.flow p).messages desk grows (was.desks p these desk caller at_desk at_caller);
  callers = λ p these caller at. caller_more log caller grows (was.callers p these caller at);
  council = was.council;
  own = was.own;
  late = was.late;
}

-- a view with the same desks, callers and frames
pub parties_seen : {S V : Type 0} (m : Meaning S V) (cluster : Cluster) (log : List Happening) (all : List Made) (old new : View S V) (These : ℕ → Type 0)
    → new.last_proposer ≡ old.last_proposer → new.eras ≡ old.eras → new.desks ≡ old.desks → new.callers ≡ old.callers → new.flow ≡ old.flow → new.council ≡ old.council
    → Parties m cluster log all old These → Parties m cluster log all new These
parties_seen {S} {V} m cluster log all old new These last_proposer eras desks callers flow council was = record {
  last_proposer = was.last_proposer ∙ sym last_proposer;
  few = subst (λ (n : ℕ). n ≤ 16) (sym last_proposer) was.few;
  eras = λ p low. subst (λ (l : List Era). IsEraOf cluster (era_in l p)) (sym eras) (was.eras p (subst (λ (n : ℕ). p ≤ n) last_proposer low));
  desks = λ p these desk caller at_desk at_caller.
      subst (λ (l : List Era). IsDeskTrue m cluster log all (era_in l p).number p caller (queue_at new.flow p).messages desk) (sym eras)
      (subst (λ (f : FlowView). IsDeskTrue m cluster log all (era_at old p).number p caller (queue_at f p).messages desk) (sym flow)
      (was.desks p these desk caller (subst (λ (l : List (DeskView V)). IsAt l p desk) desks at_desk) (subst (λ (l : List CallerView). IsAt l p caller) callers at_caller)));
  callers = λ p these caller at. was.callers p these caller (subst (λ (l : List CallerView). IsAt l p caller) callers at);
  council = subst (IsCouncilTrue cluster log) (sym council) was.council;
  own = λ p. subst (λ (f : FlowView). AreMessagesTrue log (queue_at f p).messages) (sym flow) (was.own p);
  late = subst (λ (f : FlowView). AreMessagesTrue log f.late) (sym flow) was.late;
}

-- ---- the whole
abbrev pub Everyone : ℕ → Type 0
Everyone p = ⊤

-- all parties, acceptors and frames are as the log tells; the marks are told apart
pub record Whole {S V : Type 0} (m : Meaning S V) (cluster : Cluster) (global : GlobalState) (view : View S V) : Type 0 where
  pub meets : ClusterMeets cluster
  pub history : HasHistory cluster global
  pub acceptors : (a : ℕ) (acceptor : AcceptorView S) → IsAt view.acceptors a acceptor → IsAcceptorTrue m global.log a (global.kept a) acceptor
  pub parties : Parties m cluster global.log global.made view Everyone

pub whole_of : {S V : Type 0} {cluster : Cluster} (m : Meaning S V) (view : View S V) (is : IsLogged m cluster view) → Whole m cluster is.global view
whole_of {cluster = cluster} m view is = record {
  meets = is.meets;
  history = is.history;
  acceptors = is.agrees.acceptors;
  parties = parties_of m cluster is.global view Everyone is.agrees;
}

pub logged : {S V : Type 0} (m : Meaning S V) (cluster : Cluster) (global : GlobalState) (view : View S V) → Whole m cluster global view → marks_of global.log ≡ reverse view.marks
    → IsLogged m cluster view
logged m cluster global view whole marks = record {
  meets = whole.meets;
  global = global;
  history = whole.history;
  agrees = record {
    marks = marks;
    last_proposer = whole.parties.last_proposer;
    few = whole.parties.few;
    eras = whole.parties.eras;
    acceptors = whole.acceptors;
    desks = λ id desk caller at_desk at_caller. whole.parties.desks id tt desk caller at_desk at_caller;
    callers = λ id caller at. whole.parties.callers id tt caller at;
    council = whole.parties.council;
    own = whole.parties.own;
    late = whole.parties.late;
  };
}

-- ---- a mark of nobody's
-- the log goes on with what is no deed of any proposer or acceptor
pub whole_more : {S V : Type 0} (m : Meaning S V) (cluster : Cluster) (global : GlobalState) (view : View S V) (h : Happening) → ((p : ℕ) → IsOfOthers p h) → ((a : ℕ) → IsElsewhere a h)
    → HasHistory cluster (with_mark global h)
    → Whole m cluster global view → Whole m cluster (with_mark global h) view
whole_more m cluster global view h others elsewhere history whole = record {
  meets = whole.meets;
  history = history;
  acceptors = λ a acceptor at. acceptor_still m cluster h global.log a (global.kept a) history.lawful (elsewhere a) (whole.acceptors a acceptor at);
  parties =
      parties_more m cluster global.log global.made view Everyone h history.lawful history.orderly (no_floor_of 0 (others 0)) (asks_nothing view.council h others) (λ p these. others p) whole.parties;
}

-- ---- one proposer
-- what is around it: the acceptors, and all other parties
pub record Around {S V : Type 0} (m : Meaning S V) (cluster : Cluster) (global : GlobalState) (view : View S V) (id : ℕ) : Type 0 where
  pub meets : ClusterMeets cluster
  pub history : HasHistory cluster global
  pub acceptors : (a : ℕ) (acceptor : AcceptorView S) → IsAt view.acceptors a acceptor → IsAcceptorTrue m global.log a (global.kept a) acceptor
  pub parties : Parties m cluster global.log global.made view (λ p. p ≡ id → ⊥)

pub around : {S V : Type 0} (m : Meaning S V) (cluster : Cluster) (global : GlobalState) (view : View S V) (id : ℕ) → Whole m cluster global view → Around m cluster global view id
around m cluster global view id whole = record {
  meets = whole.meets;
  history = whole.history;
  acceptors = whole.acceptors;
  parties = record {
    last_proposer = whole.parties.last_proposer;
    few = whole.parties.few;
    eras = whole.parties.eras;
    desks = λ p other desk caller at_desk at_caller. whole.parties.desks p tt desk caller at_desk at_caller;
    callers = λ p other caller at. whole.parties.callers p tt caller at;
    council = whole.parties.council;
    own = whole.parties.own;
    late = whole.parties.late;
  };
}

-- a happening of the proposer alone: it is none of the others', and no deed of an acceptor
abbrev pub IsOf : ℕ → Happening → Type 0
IsOf id h = ((p : ℕ) → (p ≡ id → ⊥) → IsOfOthers p h) × ((a : ℕ) → IsElsewhere a h)

floors_not : (id : ℕ) (h : Happening) → IsOf id h → FloorsNot h
floors_not id h of = no_floor_of (suc id) (of.0 (suc id) (λ same. omega (arith, same)))

-- the log goes on with it
pub around_more : {S V : Type 0} (m : Meaning S V) (cluster : Cluster) (log : List Happening) (kept : ℕ → Contents) (all : List Made) (view : View S V) (id : ℕ) (h : Happening) → IsOf id h
    → AsksFor view.council h
    → Around m cluster (record { log = log; kept = kept; made = all }) view id → HasHistory cluster (record { log = h ∷ log; kept = kept; made = all })
    → Around m cluster (record { log = h ∷ log; kept = kept; made = all }) view id
around_more m cluster log kept all view id h of asks was history = record {
  meets = was.meets;
  history = history;
  acceptors = λ a acceptor at. acceptor_still m cluster h log a (kept a) history.lawful (of.1 a) (was.acceptors a acceptor at);
  parties = parties_more m cluster log all view (λ p. p ≡ id → ⊥) h history.lawful history.orderly (floors_not id h of) asks of.0 was.parties;
}

-- and something more is made
pub around_made : {S V : Type 0} (m : Meaning S V) (cluster : Cluster) (log : List Happening) (kept : ℕ → Contents) (all more : List Made) (view : View S V) (id : ℕ) (h : Happening) → IsOf id h
    → AsksFor view.council h
    → ((x : Made) → Stands x all → Stands x more)
    → Around m cluster (record { log = log; kept = kept; made = all }) view id → HasHistory cluster (record { log = h ∷ log; kept = kept; made = more })
    → Around m cluster (record { log = h ∷ log; kept = kept; made = more }) view id
around_made m cluster log kept all more view id h of asks grows was history = record {
  meets = was.meets;
  history = history;
  acceptors = λ a acceptor at. acceptor_still m cluster h log a (kept a) history.lawful (of.1 a) (was.acceptors a acceptor at);
  parties =
      parties_made m cluster (h ∷ log) all more view (λ p. p ≡ id → ⊥) grows
      (parties_more m cluster log all view (λ p. p ≡ id → ⊥) h history.lawful history.orderly (floors_not id h of) asks of.0 was.parties);
}

-- the proposer works in another era of the cluster
pub around_era : {S V : Type 0} (m : Meaning S V) (cluster : Cluster) (global : GlobalState) (old : View S V) (id : ℕ) (era : Era) → length old.eras ≡ 17 → IsEraOf cluster era
    → Around m cluster global old id → Around m cluster global (record old { eras = slice_set old.eras id era }) id
around_era {S} {V} m cluster global old id era places is was = record {
  meets = was.meets;
  history = was.history;
  acceptors = was.acceptors;
  parties = record {
    last_proposer = was.parties.last_proposer;
    few = was.parties.few;
    eras = λ p low. era_there p low (same_or_not p id);
    desks = λ p other desk caller at_desk at_caller.
        subst (λ (e : Era). IsDeskTrue m cluster global.log global.made e.number p caller (queue_at old.flow p).messages desk) (sym (era_kept old.eras id p era other))
        (was.parties.desks p other desk caller at_desk at_caller);
    callers = was.parties.callers;
    council = was.parties.council;
    own = was.parties.own;
    late = was.parties.late;
  };
}
  where
    era_there : (p : ℕ) → p ≤ old.last_proposer → (p ≡ id) ⊎ (p ≡ id → ⊥) → IsEraOf cluster (era_in (slice_set old.eras id era) p)
    era_there p low (inl same) = subst (λ (q : ℕ). IsEraOf cluster (era_in (slice_set old.eras id era) q)) (sym same)
        (subst (IsEraOf cluster) (sym (era_set old.eras id era (omega (arith, same, low, was.parties.few, places)))) is)
    era_there p low (inr other) = subst (IsEraOf cluster) (sym (era_kept old.eras id p era other)) (was.parties.eras p low)

-- what a step of the proposer leaves alone
pub record Leaves {S V : Type 0} (old new : View S V) (id : ℕ) : Type 0 where
  pub last_proposer : new.last_proposer ≡ old.last_proposer
  pub eras : new.eras ≡ old.eras
  pub acceptors : new.acceptors ≡ old.acceptors
  pub desks : (p : ℕ) (desk : DeskView V) → (p ≡ id → ⊥) → IsAt new.desks p desk → IsAt old.desks p desk
  pub callers : (p : ℕ) (caller : CallerView) → (p ≡ id → ⊥) → IsAt new.callers p caller → IsAt old.callers p caller
  pub council : new.council ≡ old.council
  pub own : (p : ℕ) → (p ≡ id → ⊥) → (queue_at new.flow p).messages ≡ (queue_at old.flow p).messages

-- and what becomes of the proposer
pub record Becomes {S V : Type 0} (m : Meaning S V) (cluster : Cluster) (global : GlobalState) (view : View S V) (id : ℕ) : Type 0 where
  pub desk : (desk : DeskView V) (caller : CallerView) → IsAt view.desks id desk → IsAt view.callers id caller
      → IsDeskTrue m cluster global.log global.made (era_at view id).number id caller (queue_at view.flow id).messages desk
  pub caller : (caller : CallerView) → IsAt view.callers id caller → IsCallerTrue global.log global.made id caller
  pub own : AreMessagesTrue global.log (queue_at view.flow id).messages
  pub late : AreMessagesTrue global.log view.flow.late

-- then all are as the log tells again
pub settles : {S V : Type 0} (m : Meaning S V) (cluster : Cluster) (global : GlobalState) (old new : View S V) (id : ℕ) → Around m cluster global old id → Leaves old new id
    → Becomes m cluster global new id → Whole m cluster global new
settles {S} {V} m cluster global old new id rest leaves becomes = record {
  meets = rest.meets;
  history = rest.history;
  acceptors = λ a acceptor at. rest.acceptors a acceptor (subst (λ (l : List (AcceptorView S)). IsAt l a acceptor) leaves.acceptors at);
  parties = record {
    last_proposer = rest.parties.last_proposer ∙ sym leaves.last_proposer;
    few = subst (λ (n : ℕ). n ≤ 16) (sym leaves.last_proposer) rest.parties.few;
    eras = λ p low. subst (λ (l : List Era). IsEraOf cluster (era_in l p)) (sym leaves.eras) (rest.parties.eras p (subst (λ (n : ℕ). p ≤ n) leaves.last_proposer low));
    desks = λ p these desk caller at_desk at_caller. at_desks p desk caller at_desk at_caller (same_or_not p id);
    callers = λ p these caller at. at_callers p caller at (same_or_not p id);
    council = subst (IsCouncilTrue cluster global.log) (sym leaves.council) rest.parties.council;
    own = λ p. at_own p (same_or_not p id);
    late = becomes.late;
  };
}
  where
    at_desks : (p : ℕ) (desk : DeskView V) (caller : CallerView) → IsAt new.desks p desk → IsAt new.callers p caller → (p ≡ id) ⊎ (p ≡ id → ⊥)
        → IsDeskTrue m cluster global.log global.made (era_at new p).number p caller (queue_at new.flow p).messages desk
    at_desks p desk caller at_desk at_caller (inl same) =
        subst (λ (q : ℕ). IsDeskTrue m cluster global.log global.made (era_at new q).number q caller (queue_at new.flow q).messages desk) (sym same)
        (becomes.desk desk caller (subst (λ (q : ℕ). IsAt new.desks q desk) same at_desk) (subst (λ (q : ℕ). IsAt new.callers q caller) same at_caller))
    at_desks p desk caller at_desk at_caller (inr other) =
        subst (λ (l : List Era). IsDeskTrue m cluster global.log global.made (era_in l p).number p caller (queue_at new.flow p).messages desk) (sym leaves.eras)
        (subst (λ (l : List Message). IsDeskTrue m cluster global.log global.made (era_at old p).number p caller l desk) (sym (leaves.own p other))
        (rest.parties.desks p other desk caller (leaves.desks p desk other at_desk) (leaves.callers p caller other at_caller)))

    at_callers : (p : ℕ) (caller : CallerView) → IsAt new.callers p caller → (p ≡ id) ⊎ (p ≡ id → ⊥) → IsCallerTrue global.log global.made p caller
    at_callers p caller at (inl same) = subst (λ (q : ℕ). IsCallerTrue global.log global.made q caller) (sym same) (becomes.caller caller (subst (λ (q : ℕ). IsAt new.callers q caller) same at))
    at_callers p caller at (inr other) = rest.parties.callers p other caller (leaves.callers p caller other at)

    at_own : (p : ℕ) → (p ≡ id) ⊎ (p ≡ id → ⊥) → AreMessagesTrue global.log (queue_at new.flow p).messages
    at_own p (inl same) = subst (λ (q : ℕ). AreMessagesTrue global.log (queue_at new.flow q).messages) (sym same) becomes.own
    at_own p (inr other) = subst (AreMessagesTrue global.log) (sym (leaves.own p other)) (rest.parties.own p)

-- ---- what is left alone where the proposer's desk or its caller changes, and its frames
pub leaves_both : {S V : Type 0} (old : View S V) (id : ℕ) (desk : DeskView V) (caller : CallerView) (flow : FlowView) (marks : List Mark)
    → ((p : ℕ) → (p ≡ id → ⊥) → (queue_at flow p).messages ≡ (queue_at old.flow p).messages)
    → Leaves old (record old { desks = slice_set old.desks id desk; callers = slice_set old.callers id caller; flow = flow; marks = marks }) id
leaves_both old id desk caller flow marks others = record {
  last_proposer = refl;
  eras = refl;
  acceptors = refl;
  desks = λ p d other at. other_set old.desks id desk p d other at;
  callers = λ p c other at. other_set old.callers id caller p c other at;
  council = refl;
  own = others;
}

pub leaves_desk : {S V : Type 0} (old : View S V) (id : ℕ) (desk : DeskView V) (flow : FlowView) → ((p : ℕ) → (p ≡ id → ⊥) → (queue_at flow p).messages ≡ (queue_at old.flow p).messages)
    → Leaves old (record old { desks = slice_set old.desks id desk; flow = flow }) id
leaves_desk old id desk flow others = record {
  last_proposer = refl;
  eras = refl;
  acceptors = refl;
  desks = λ p d other at. other_set old.desks id desk p d other at;
  callers = λ p c other at. at;
  council = refl;
  own = others;
}

pub leaves_caller : {S V : Type 0} (old : View S V) (id : ℕ) (caller : CallerView) (flow : FlowView) (marks : List Mark)
    → ((p : ℕ) → (p ≡ id → ⊥) → (queue_at flow p).messages ≡ (queue_at old.flow p).messages)
    → Leaves old (record old { callers = slice_set old.callers id caller; flow = flow; marks = marks }) id
leaves_caller old id caller flow marks others = record {
  last_proposer = refl;
  eras = refl;
  acceptors = refl;
  desks = λ p d other at. at;
  callers = λ p c other at. other_set old.callers id caller p c other at;
  council = refl;
  own = others;
}
