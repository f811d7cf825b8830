-- A cluster that opens is logged, whether on nothing or on floors, and the record of one that is logged is legal.
use Rattle.std.proofs.Common.{None, Some, ◌≡◌, ◌<◌, ◌≤◌, ℕ, zero, suc, Bool, true, false, cond, List, [], ◌∷◌, Option, reverse, refl, sym, ap, subst, ◌∙◌, inl, inr, arith}
use Rattle.std.specs.Prelude.{◌⊎◌, ◌==◌, ◌&&◌, length, if◌then◌else◌, map, replicate, slice_get, slice_index_or, Contains}
use mathlib.Core.List.{reverse_aux}
use Rattle.std.proofs.lemmas.List.{get_or-replicate}
use Rattle.cas_base.proofs.Bools.{true_or_false, if_false, not_both}
use Rattle.cas_ballot.specs.declared.ballot.Ballot.{Ballot}
use Rattle.cas_ballot.specs.Ballot.{zero_ballot}
use Rattle.cas_ballot.specs.Members.{has_member, IsMemberSet}
use Rattle.cas_ballot.proofs.CountLemmas.{union_within, IsWithin-same}
use Rattle.cas_ballot.proofs.MemberLemmas.{members_where_same}
use Rattle.cas_change.specs.declared.state.State.{State}
use Rattle.cas_flow.specs.Flow.{FlowView, queue_at, empty_flow}
use Rattle.cas_flow.specs.Queue.{QueueView, empty_queue}
use Rattle.cas_flow.specs.declared.message.Message.{Message}
use Rattle.cas_proposer.specs.declared.round.Round.{Round}
use Rattle.cas_quorum.specs.declared.era.Era.{Era}
use Rattle.cas_members.proofs.PlanLemmas.{majority_one_set}
use Rattle.cas_quorum.specs.Era.{majority_era, holds_prep, holds_acc}
use Rattle.cas_quorum.specs.Quorum.{count_in, has_quorum, majority_of}
use Rattle.cas_quorum.proofs.Counting.{majorities_meet, IsNear-same, quorums_share}
use Rattle.cas_round.proofs.Lists.{Has, has, contains}
use Rattle.cas_slot.specs.Contents.{Contents, nothing, kept_at}
use Rattle.cas_slot.specs.Slot.{accepted_of}
use Rattle.cas_slot.specs.declared.slot.Slot.{Slot}
use Rattle.cas_vault.specs.Vault.{IsPast}
use Rattle.cas_acceptor.specs.Acceptor.{AcceptorView}
use Rattle.cas_record.specs.Logs.Happening.{Happening, Took, marks_of}
use Rattle.cas_record.specs.Laws.{HistoryIsOpened}
use Rattle.cas_record.specs.Logs.Lawful.{Cluster, ClusterMeets, Lawful, AreFirst, slot_told}
use Rattle.cas_record.specs.Legal.{IsLegal, HasFloor, calls_of}
use Rattle.cas_record.specs.Logs.Orderly.{took_it}
use Rattle.cas_record.specs.Places.{At, Stands}
use Rattle.cas_record.specs.declared.mark.Mark.{Mark}
use Rattle.cas_record.specs.declared.mark.Mark.TheVariants.{Proposed, Floor}
use Rattle.cas_record.specs.declared.mark.Proposal.{Proposal}
use Rattle.cas_record.proofs.Logs.Checks.{le_is}
use Rattle.cas_record.proofs.LawLemmas.{lawful_is_legal}
use Rattle.cas_record.proofs.Logs.Openings.{first_at, first_older}
use Rattle.cas_record.proofs.PlaceLemmas.{none_at_nil}
use Rattle.cas_record.proofs.Tests.{nat_same}
use Rattle.cas_protocol.specs.Acceptors.{told_of, IsAcceptedState}
use Rattle.cas_model.specs.Council.{Council}
use Rattle.cas_model.specs.History.{IsLogged, inside, IsFollowed, IsRemembered}
use Rattle.cas_model.specs.Eras.Listed.{IsCouncilTrue}
use Rattle.cas_model.specs.Openings.{Opening, mark_of, slot_of, KeysDiffer, HoldsFloors, IsOpenAcceptor, IsOpeningOn}
use Rattle.cas_model.specs.Parties.{AreMessagesTrue, IsEraOf, VaultKeepsEra, ArePromisesHeld, HaveOneEach, HasNone, IsOpenTrue, IsCallerTrue}
use Rattle.cas_model.specs.Eras.Course.{entries_in, course_of, IsNoEra, IsCourse, IsCourseOf}
use Rattle.cas_model.specs.Step.{IsOpening}
use Rattle.cas_model.specs.View.{Meaning, View, IsAt, era_at, era_in}
use Rattle.cas_model.proofs.Around.{logged}
use Rattle.cas_model.proofs.Eras.Courses.{course, course_opens}
use Rattle.cas_protocol.proofs.Events.{none_kept}
use Rattle.cas_model.proofs.Openings.FirstLogs.{first_log, are_first, first_marks, no_numbers_first, mark_first, floor_in, Finds, a_floor, no_floor, find, none_told, strange_told, floor_told, no_age_first, opens_first, state_first, lawful_first, orderly_first, took_first}
use Rattle.cas_model.proofs.Places.{contains_none}

-- ---- one era
-- the members prepare and accept by majorities in era 0, and nobody in another
abbrev pub first_cluster : ℕ → List ℕ → Cluster
first_cluster last_proposer members = record {
  last_proposer = last_proposer;
  members = λ era. if era == 0 then members else [];
  prepares = λ era by. if era == 0 then holds_prep (majority_era 0 members) by else false;
  accepts = λ era by. if era == 0 then holds_acc (majority_era 0 members) by else false;
}

first_meets : (last_proposer : ℕ) (members : List ℕ) → IsMemberSet members → ClusterMeets (first_cluster last_proposer members)
first_meets last_proposer members set p n low high prepared accepted prepares accepts =
    let meets = majorities_meet members members (IsNear-same members set) in
    quorums_share (majority_era 0 members) (majority_era 0 members) (record { forth = meets; back = meets }) prepared accepted (in_zero (p == 0) prepares) (in_zero (n == 0) accepts)
  where
    in_zero : {b : Bool} (is_zero : Bool) → (if is_zero then b else false) ≡ true → b ≡ true
    in_zero true e = e
    in_zero false e = absurd (cc e)

first_has : (last_proposer : ℕ) (members : List ℕ) → IsMemberSet members → 0 < length members → IsEraOf (first_cluster last_proposer members) (majority_era 0 members)
first_has last_proposer members set some = record {
  prep_members = λ acceptor member. member;
  acc_members = λ acceptor member. member;
  only_members = λ acceptor member. inl member;
  prepares = λ by. refl;
  accepts = λ by. refl;
  prep_set = set;
  acc_set = set;
  sized = record { some_prep = omega arith; prep = low; some_acc = omega arith; acc = low };
}
  where
    low : majority_of (length members) ≤ length members
    low = omega (arith, some)

-- it has no other
first_alone : (last_proposer : ℕ) (members : List ℕ) (era : ℕ) → 0 < era → IsNoEra (first_cluster last_proposer members) era
first_alone last_proposer members zero some = absurd (omega (arith, some))
first_alone last_proposer members (suc era) some = record {
  members = if_false (suc era == 0) members [] (later era);
  prepares = λ by. if_false (suc era == 0) (holds_prep (majority_era 0 members) by) false (later era);
  accepts = λ by. if_false (suc era == 0) (holds_acc (majority_era 0 members) by) false (later era);
}
  where
    later : (n : ℕ) → (suc n == 0) ≡ false
    later n = elim (true_or_false (suc n == 0)) [
      | inl is ↦ absurd (omega (arith, nat_same {a = suc n} {b = 0} is))
      | inr other ↦ other
    ]

-- its members are used
first_used : (is_zero : Bool) (members : List ℕ) (acceptor : ℕ) → has_member (if is_zero then members else []) acceptor ≡ true → has_member members acceptor ≡ true
first_used true members acceptor member = member
first_used false members acceptor none = absurd (cc none)

-- all of them are a quorum of either kind
all_hold : (members : List ℕ) → IsMemberSet members → 0 < length members → has_quorum (majority_of (length members)) members members ≡ true
all_hold members set some = le_is (subst (λ (n : ℕ). majority_of (length members) ≤ n) (sym same) (omega (arith, some)))
  where
    same : count_in members members ≡ length members
    same = ap (λ (l : List ℕ). length l) (members_where_same (λ n. has_member members n && has_member members n) (has_member members) (λ n low. both_same (has_member members n)) ∙ sym set.lists)
      where
        both_same : (b : Bool) → (b && b) ≡ b
        both_same true = refl
        both_same false = refl

-- ---- nothing is under way
empty_queues : (n p : ℕ) → slice_index_or (replicate n empty_queue) p empty_queue ≡ empty_queue
empty_queues zero p = refl
empty_queues (suc n) zero = refl
empty_queues (suc n) (suc p) = empty_queues n p

pub none_under_way : (flow : FlowView) (p : ℕ) → flow ≡ empty_flow → (queue_at flow p).messages ≡ []
none_under_way flow p is = ap (λ (f : FlowView). (queue_at f p).messages) is ∙ ap (λ (q : QueueView). q.messages) (empty_queues 18 p)

no_messages : (log : List Happening) (messages : List Message) → messages ≡ [] → AreMessagesTrue log messages
no_messages log messages none each has_it = absurd (contains_none (subst (λ (l : List Message). Contains l each) none has_it))

-- ---- what stood before
reverse_has : (floors older : List Opening) (o : Opening) → Has o (reverse_aux floors older) → Has o floors ⊎ Has o older
reverse_has [] older o h = inr h
reverse_has (p ∷ floors) older o h = elim (reverse_has floors (p ∷ older) o h) [
  | inl in_rest ↦ inl (inr in_rest)
  | inr in_front ↦ elim in_front [ inl same ↦ inl (inl same) | inr in_older ↦ inr in_older ]
]

has_reverse : (floors older : List Opening) (o : Opening) → Has o floors ⊎ Has o older → Has o (reverse_aux floors older)
has_reverse [] older o (inl h) = absurd h
has_reverse [] older o (inr h) = h
has_reverse (p ∷ floors) older o (inl (inl same)) = has_reverse floors (p ∷ older) o (inr (inl same))
has_reverse (p ∷ floors) older o (inl (inr h)) = has_reverse floors (p ∷ older) o (inl h)
has_reverse (p ∷ floors) older o (inr h) = has_reverse floors (p ∷ older) o (inr (inr h))

differ_reverse : (floors older : List Opening) → KeysDiffer floors → KeysDiffer older → ((o p : Opening) → Has o older → Has p floors → p.key ≡ o.key → ⊥) → KeysDiffer (reverse_aux floors older)
differ_reverse [] older differ before apart = before
differ_reverse (p ∷ floors) older differ before apart = differ_reverse floors (p ∷ older) differ.1 ((λ q in_older same. apart q p (has q older in_older) (inl refl) (sym same)), before) (λ o q in_front in_rest same. elim in_front [
  | inl is_p ↦ differ.0 q (contains q floors in_rest) (same ∙ ap (λ (x : Opening). x.key) (sym is_p))
  | inr in_older ↦ apart o q in_older (inr in_rest) same
])

map_reverse : (floors older : List Opening) → map mark_of (reverse_aux floors older) ≡ reverse_aux (map mark_of floors) (map mark_of older)
map_reverse [] older = refl
map_reverse (p ∷ floors) older = map_reverse floors (p ∷ older)

-- what an acceptor keeps that is up
abbrev kept_up : {S V : Type 0} (m : Meaning S V) → Option (AcceptorView S) → Contents
kept_up m None = nothing
kept_up m (Some acceptor) = cond acceptor.down nothing (m.shelves.contents acceptor.shelf)

abbrev kept_first : {S V : Type 0} (m : Meaning S V) → View S V → ℕ → Contents
kept_first m view id = kept_up m (slice_get view.acceptors id)

kept_is : {S V : Type 0} (m : Meaning S V) (view : View S V) (id : ℕ) (acceptor : AcceptorView S) → IsAt view.acceptors id acceptor → acceptor.down ≡ false → kept_first m view id ≡ m.shelves.contents acceptor.shelf
kept_is m view id acceptor at up = ap (kept_up m) at ∙ ap (λ (down : Bool). cond down nothing (m.shelves.contents acceptor.shelf)) up

kept_down : {S V : Type 0} (m : Meaning S V) (view : View S V) (id : ℕ) (acceptor : AcceptorView S) → IsAt view.acceptors id acceptor → acceptor.down ≡ true → kept_first m view id ≡ nothing
kept_down m view id acceptor at down = ap (kept_up m) at ∙ ap (λ (d : Bool). cond d nothing (m.shelves.contents acceptor.shelf)) down

-- what it keeps for a key: nothing, or its floor
data KeepsFloor (floors : List Opening) (member : Bool) (key : List ℕ) (slot : Option Slot) : Type 0 where
  keeps_none : (member ≡ true → (o : Opening) → Has o floors → o.key ≡ key → ⊥) → slot ≡ None → KeepsFloor floors member key slot
  keeps_floor : (o : Opening) → Has o floors → o.key ≡ key → member ≡ true → slot ≡ Some (slot_of o) → KeepsFloor floors member key slot

-- the key's floor is one of those with which it begins
record IsFloorOf (floors : List Opening) (key : List ℕ) (floor : Ballot) : Type 0 where
  o : Opening
  has : Has o floors
  same_key : o.key ≡ key
  same_ballot : o.ballot ≡ floor

key_of_floor : {k l : List ℕ} {a b : Ballot} {s t : State} → Floor k a s ≡ Floor l b t → l ≡ k
key_of_floor e = cc e

ballot_of_floor : {k l : List ℕ} {a b : Ballot} {s t : State} → Floor k a s ≡ Floor l b t → b ≡ a
ballot_of_floor e = cc e

some_same : {A : Type 0} {a b : A} → Some a ≡ Some b → a ≡ b
some_same e = cc e

-- ---- a cluster opens
opening_on_logged : {S V : Type 0} (m : Meaning S V) → m.shelves.tells → m.disks.tells → (members used : List ℕ) (floors : List Opening) (view : View S V) → IsOpeningOn m members used floors view
    → IsLogged m (first_cluster view.last_proposer members) view
opening_on_logged {S} {V} m shelves disks members used floors view is = logged m cluster (record { log = log; kept = kept; made = [] }) view (record {
  meets = first_meets view.last_proposer members is.member_set;
  history = record {
    lawful = lawful;
    orderly = orderly_first cluster members known differ (λ a member. member);
    tells = λ id. record {
      slots = λ key. slot_is id key (keeps_of id key);
      ages = λ proposer low. omega (arith, no_age_first members known id proposer);
      states = λ key. state_is key (kept_at (kept id) key) (keeps_of id key);
    };
    knows = record {
      asked = λ request stands. absurd (first_at log first stands.at);
      known = λ request stands. absurd (first_at log first stands.at);
      ended = λ request stands. absurd (first_at log first stands.at);
      replied = λ request reply stands. absurd (first_at log first stands.at);
      drawn = λ p stands. absurd (no_proposal stands);
      made = λ x stands. absurd (none_at_nil stands.at);
      floors = λ key floor has. let of = floor_of has in inr (subst (λ (k : List ℕ). HistoryIsOpened cluster log k floor) of.same_key (subst (HistoryIsOpened cluster log of.o.key) of.same_ballot (opened of.o of.has)));
      clear = λ key floor has. let of = floor_of has in record {
        era = 0;
        all_in = inl refl;
        clear = λ number acceptor late member.
            let took = took_first members known of.o of.has acceptor (first_used (number == 0) members acceptor member) in
            took_it zero_ballot (subst (λ (k : List ℕ). Stands (Took acceptor k floor zero_ballot) log) of.same_key (subst (λ (b : Ballot). Stands (Took acceptor of.o.key b zero_ballot) log) of.same_ballot took));
        aged = λ number acceptor late member. record { aged = λ request stands to round same low. absurd (first_at log first stands.at) };
      };
    };
  };
  acceptors = λ a acceptor at. let fresh = is.acceptors a acceptor at in record {
    same_id = fresh.same_id;
    started = fresh.started;
    keeps = λ up. sym (kept_is m view a acceptor at up);
    lasts = fresh.lasts shelves;
    stopped = λ down started left may. absurd (cc (started, fresh.not_started down));
    not_started = λ none. kept_down m view a acceptor at (is_down acceptor.down fresh.started none);
  };
  parties = record {
    last_proposer = refl;
    few = is.few;
    eras = λ p low. subst (IsEraOf cluster) (sym (era_is p low)) (first_has view.last_proposer members is.member_set is.some);
    desks = λ p these desk caller at_desk at_caller. let fresh = is.desks p desk at_desk in record {
      same_id = fresh.1.same_id;
      known = fresh.0;
      vault = record {
        past = λ b k e stands own. absurd (first_at log first stands.at);
        past_floors = λ k floor has. let of = floor_of has in subst (λ (b : Ballot). IsPast m.disks.may_leave b.counter desk.vault) of.same_ballot (fresh.1.past disks of.o (in_floors of.o of.has));
        ages = λ request stands own. absurd (first_at log first stands.at);
        is_in = inl (ap (λ (e : Era). e.number) (era_is p fresh.0));
        not_beyond = λ stands. first_at log first stands.at;
      };
      cached = subst (ArePromisesHeld cluster log [] p (era_at view p).number) (sym fresh.1.no_promise) (λ k ready h. absurd (contains_none h));
      one_each = subst HaveOneEach (sym fresh.1.no_promise) tt;
      none_open = subst (λ (r : Option Round). HasNone r desk.cache) (sym fresh.1.none_open) tt;
      round = subst (IsOpenTrue cluster log [] p (era_at view p).number caller (queue_at view.flow p).messages) (sym fresh.1.none_open) (none_under_way view.flow p is.flow);
    };
    callers = λ p these caller at. subst (IsCallerTrue log [] p) (sym (is.callers p caller at)) (record {
      number = sym (ap (calls_of p) (first_marks members known) ∙ no_numbers_first p known);
      call = λ call none. absurd (cc none);
      ended = λ call is_proposed. absurd (no_proposal is_proposed.stands);
    });
    council = subst (IsCouncilTrue cluster log) (sym is.council) (
      λ exchange none. absurd (cc none),
      tt,
      record { set = is.used_set; members = λ era acceptor member. is.all_used acceptor (first_used (era == 0) members acceptor member) },
      tt,
    );
    own = λ p. no_messages log (queue_at view.flow p).messages (none_under_way view.flow p is.flow);
    late = no_messages log view.flow.late (ap (λ (f : FlowView). f.late) is.flow);
  };
}) (first_marks members known ∙ map_reverse floors [] ∙ sym (ap (λ (l : List Mark). reverse l) is.marks))
  where
    known : List Opening
    known = reverse_aux floors []

    cluster : Cluster
    cluster = first_cluster view.last_proposer members

    log : List Happening
    log = first_log members known

    kept : ℕ → Contents
    kept = kept_first m view

    first : AreFirst log
    first = are_first members known

    differ : KeysDiffer known
    differ = differ_reverse floors [] is.openings.differ tt (λ o p none h same. none)

    lawful : Lawful cluster log
    lawful = lawful_first cluster members known differ (λ a member. member)

    in_known : (o : Opening) → Contains floors o → Has o known
    in_known o h = has_reverse floors [] o (inl (has o floors h))

    in_floors : (o : Opening) → Has o known → Contains floors o
    in_floors o h = elim (reverse_has floors [] o h) [ inl there ↦ contains o floors there | inr none ↦ absurd none ]

    era_is : (p : ℕ) → p ≤ view.last_proposer → era_at view p ≡ majority_era 0 members
    era_is p low = ap (λ (l : List Era). era_in l p) is.eras ∙ get_or-replicate 17 p (majority_era 0 members) (majority_era 0 []) (omega (arith, low, is.few))

    is_down : (down : Bool) → {started : Bool} → (down ≡ false → started ≡ true) → started ≡ false → down ≡ true
    is_down true up none = refl
    is_down false up none = absurd (cc (up refl, none))

    -- a mark is that of a floor
    no_proposal : {p : Proposal} → Stands (Proposed p) (marks_of log) → ⊥
    no_proposal {p} s = none (mark_first known (subst (λ (l : List Mark). At (Proposed p) s.older l) (first_marks members known) s.at))
      where
        none : (o : Opening) × Has o known × (Proposed p ≡ mark_of o) → ⊥
        none found = cc found.2

    floor_of : {key : List ℕ} {floor : Ballot} → HasFloor key floor (marks_of log) → IsFloorOf known key floor
    floor_of {key} {floor} s = of (mark_first known (subst (λ (l : List Mark). At (Floor key floor s.state) s.stands.older l) (first_marks members known) s.stands.at))
      where
        of : (o : Opening) × Has o known × (Floor key floor s.state ≡ mark_of o) → IsFloorOf known key floor
        of found = let same : Floor key floor s.state ≡ Floor found.0.key found.0.ballot found.0.state = found.2 in record { o = found.0; has = found.1; same_key = key_of_floor same; same_ballot = ballot_of_floor same }

    opened : (o : Opening) → Has o known → HistoryIsOpened cluster log o.key o.ballot
    opened o h =
        let stands = floor_in members known o h in
        record {
          opening = record { state = o.state; older = stands.older; at = stands.at; first = first_older log first stands.at };
          some = is.openings.some o (in_floors o h);
          by = members;
          prepares = all_hold members is.member_set is.some;
          accepts = all_hold members is.member_set is.some;
          took = λ acceptor member. took_first members known o h acceptor member;
        }

    -- what an acceptor keeps for a key
    keeps_in : (id : ℕ) (key : List ℕ) (acceptor : AcceptorView S) → IsAt view.acceptors id acceptor → Finds key known → KeepsFloor known (has_member members id) key (kept_at (kept id) key)
    keeps_in id key acceptor at found = by_cases (true_or_false acceptor.down) (true_or_false (has_member members id)) found
      where
        of : IsOpenAcceptor m members floors id acceptor
        of = is.acceptors id acceptor at

        nothing_at : kept id ≡ nothing → kept_at (kept id) key ≡ None
        nothing_at none = ap (λ (c : Contents). kept_at c key) none ∙ none_kept key

        holds : acceptor.down ≡ false → has_member members id ≡ true → HoldsFloors floors (kept id)
        holds up member = subst (HoldsFloors floors) (sym (kept_is m view id acceptor at up)) (of.holds member up)

        by_cases : (acceptor.down ≡ true) ⊎ (acceptor.down ≡ false) → (has_member members id ≡ true) ⊎ (has_member members id ≡ false) → Finds key known → KeepsFloor known (has_member members id) key (kept_at (kept id) key)
        by_cases (inl down) (inr other) found = keeps_none (λ member. absurd (not_both (has_member members id) member other)) (nothing_at (kept_down m view id acceptor at down))
        by_cases (inl down) (inl member) (a_floor o h same) = let there = is.up o (in_floors o h) id member in
            absurd (not_both acceptor.down down (ap (λ (a : AcceptorView S). a.down) (some_same (sym at ∙ there.at)) ∙ there.up))
        by_cases (inl down) (inl member) (no_floor apart) = keeps_none (λ in_it. apart) (nothing_at (kept_down m view id acceptor at down))
        by_cases (inr up) (inr other) found =
            keeps_none (λ member. absurd (not_both (has_member members id) member other)) (nothing_at (kept_is m view id acceptor at up ∙ of.keeps other up))
        by_cases (inr up) (inl member) (a_floor o h same) = keeps_floor o h same member (subst (λ (k : List ℕ). kept_at (kept id) k ≡ Some (slot_of o)) same ((holds up member).each o (in_floors o h)))
        by_cases (inr up) (inl member) (no_floor apart) = keeps_none (λ in_it. apart) ((holds up member).no_other key (λ o h. apart o (in_known o h)))

    keeps_of : (id : ℕ) (key : List ℕ) → KeepsFloor known (has_member members id) key (kept_at (kept id) key)
    keeps_of id key = at_place (slice_get view.acceptors id) refl (find key known)
      where
        at_place : (place : Option (AcceptorView S)) → slice_get view.acceptors id ≡ place → Finds key known → KeepsFloor known (has_member members id) key (kept_at (kept id) key)
        at_place (Some acceptor) at found = keeps_in id key acceptor at found
        at_place None none_at found = keeps_none (absent found) (ap (λ (p : Option (AcceptorView S)). kept_at (kept_up m p) key) none_at ∙ none_kept key)
          where
            absent : Finds key known → has_member members id ≡ true → (o : Opening) → Has o known → o.key ≡ key → ⊥
            absent found member o h same = let there = is.up o (in_floors o h) id member in cc (sym none_at ∙ there.at)

    slot_is : (id : ℕ) (key : List ℕ) → KeepsFloor known (has_member members id) key (kept_at (kept id) key) → slot_told log id key ≡ told_of (kept_at (kept id) key)
    slot_is id key (keeps_none apart is_none) = elim (true_or_false (has_member members id)) [
      | inl member ↦ none_told members known id key (apart member) ∙ ap told_of (sym is_none)
      | inr other ↦ strange_told members known id key other ∙ ap told_of (sym is_none)
    ]
    slot_is id key (keeps_floor o h same member slot) =
        subst (λ (k : List ℕ). slot_told log id k ≡ record { promise = zero_ballot; accepted = o.ballot }) same (floor_told members known differ id o h member) ∙ ap told_of (sym slot)

    state_is : {member : Bool} (key : List ℕ) (slot : Option Slot) → KeepsFloor known member key slot → IsAcceptedState (marks_of log) key (accepted_of slot)
    state_is key slot (keeps_none apart is_none) = subst (λ (s : Option Slot). IsAcceptedState (marks_of log) key (accepted_of s)) (sym is_none) tt
    state_is key slot (keeps_floor o h same member is_slot) = subst (λ (s : Option Slot). IsAcceptedState (marks_of log) key (accepted_of s)) (sym is_slot)
        (subst (λ (k : List ℕ). IsAcceptedState (marks_of log) k (accepted_of (Some (slot_of o)))) same
        (subst (λ (l : List Mark). IsAcceptedState l o.key (accepted_of (Some (slot_of o)))) (sym (first_marks members known))
        (inr (record { opens = opens_first known o h; some = is.openings.some o (in_floors o h); same_era = refl; state_is = state_first known differ o h }))))

-- floors enter no era
no_entries : (floors : List Opening) → entries_in (map mark_of floors) ≡ []
no_entries [] = refl
no_entries (o ∷ floors) = no_entries floors

-- its course begins in era 0
opening_on_course : {S V : Type 0} (m : Meaning S V) (members used : List ℕ) (floors : List Opening) (view : View S V) → IsOpeningOn m members used floors view
    → course_of view ≡ course view.last_proposer (replicate 17 (majority_era 0 members)) None []
opening_on_course m members used floors view is = ap (λ (l : List Era). course view.last_proposer l view.council.plan (entries_in view.marks)) is.eras
    ∙ ap (λ (c : Council). course view.last_proposer (replicate 17 (majority_era 0 members)) c.plan (entries_in view.marks)) is.council
    ∙ ap (λ (l : List Mark). course view.last_proposer (replicate 17 (majority_era 0 members)) None (entries_in l)) is.marks
    ∙ ap (course view.last_proposer (replicate 17 (majority_era 0 members)) None) (no_entries floors)

pub is_on_course : {S V : Type 0} (m : Meaning S V) (members used : List ℕ) (floors : List Opening) (view : View S V) → IsOpeningOn m members used floors view → IsCourse (course_of view)
is_on_course m members used floors view is = subst IsCourse (sym (opening_on_course m members used floors view is)) (course_opens view.last_proposer members is.few (record { one_set = majority_one_set 0 members is.member_set is.some; member_set = is.member_set; some = is.some; few = omega (arith, is.few_members, ap (λ (l : List ℕ). length l) (union_within members members is.member_set (IsWithin-same members))) }))

followed_on : {S V : Type 0} (m : Meaning S V) → m.shelves.tells → m.disks.tells → (members used : List ℕ) (floors : List Opening) (view : View S V) → IsOpeningOn m members used floors view → IsFollowed m view
followed_on m shelves disks members used floors view is = record {
  cluster = first_cluster view.last_proposer members;
  logged = opening_on_logged m shelves disks members used floors view is;
  course = subst (IsCourseOf (first_cluster view.last_proposer members)) (sym (opening_on_course m members used floors view is)) (record {
    is_course = course_opens view.last_proposer members is.few (record { one_set = majority_one_set 0 members is.member_set is.some; member_set = is.member_set; some = is.some; few = omega (arith, is.few_members, ap (λ (l : List ℕ). length l) (union_within members members is.member_set (IsWithin-same members))) });
    later = λ era none. absurd (contains_none none);
    none_beyond = λ number beyond. first_alone view.last_proposer members number (omega (arith, beyond));
  });
  in_eras = λ id desk at. let fresh = is.desks id desk at in
      (fresh.0, inside (subst (λ (e : Era). VaultKeepsEra m.disks e.number e.number desk.vault) (sym (ap (λ (l : List Era). era_in l id) is.eras ∙ get_or-replicate 17 id (majority_era 0 members) (majority_era 0 []) (omega (arith, fresh.0, is.few)))) (fresh.1.in_era disks)));
}

pub remembered_on : {S V : Type 0} (m : Meaning S V) → m.shelves.tells → m.disks.tells → (members used : List ℕ) (floors : List Opening) (view : View S V) → IsOpeningOn m members used floors view → IsRemembered m view
remembered_on m shelves disks members used floors view is = record {
  followed = followed_on m shelves disks members used floors view is;
  renewed = λ collection proposer age desk is_some at at_desk. absurd (cc (is_some, ap (λ (c : Council). c.collection) is.council));
}

-- one that opens on nothing does so on no floors
pub opening_on_none : {S V : Type 0} (m : Meaning S V) (members : List ℕ) (view : View S V) → IsOpening m members view → IsOpeningOn m members members [] view
opening_on_none m members view is = record {
  eras = is.eras;
  few = is.few;
  member_set = is.member_set;
  some = is.some;
  few_members = is.few_members;
  used_set = is.member_set;
  all_used = λ acceptor member. member;
  openings = record { some = λ o h. absurd (contains_none h); differ = tt };
  acceptors = λ id acceptor at. let fresh = is.acceptors id acceptor at in record {
    same_id = fresh.same_id;
    started = fresh.started;
    holds = λ member up. subst (HoldsFloors []) (sym (fresh.keeps up)) (record { each = λ o h. absurd (contains_none h); no_other = λ key no. none_kept key });
    keeps = λ other up. fresh.keeps up;
    lasts = fresh.lasts;
    not_started = fresh.not_started;
  };
  up = λ o h. absurd (contains_none h);
  desks = λ id desk at. let fresh = is.desks id desk at in
      (fresh.0, record { same_id = fresh.1.same_id; in_era = fresh.1.in_era; past = λ tells o h. absurd (contains_none h); no_promise = fresh.1.no_promise; none_open = fresh.1.none_open });
  callers = is.callers;
  council = is.council;
  flow = is.flow;
  marks = is.marks;
  room = omega (arith, ap (λ (l : List Mark). length l) is.marks);
}

pub opening_remembered : {S V : Type 0} (m : Meaning S V) → m.shelves.tells → m.disks.tells → (members : List ℕ) (view : View S V) → IsOpening m members view → IsRemembered m view
opening_remembered m shelves disks members view is = remembered_on m shelves disks members members [] view (opening_on_none m members view is)

pub logged_legal : {S V : Type 0} {cluster : Cluster} (m : Meaning S V) (view : View S V) → IsLogged m cluster view → IsLegal (reverse view.marks)
logged_legal {cluster = cluster} m view is = subst IsLegal is.agrees.marks (lawful_is_legal cluster is.meets is.global.log is.history.lawful)

pub remembered_legal : {S V : Type 0} (m : Meaning S V) (view : View S V) → IsRemembered m view → IsLegal (reverse view.marks)
remembered_legal m view is = logged_legal m view is.followed.logged
