-- A checker of reasons: where its tests pass, the log is orderly. It is for witnesses: logs that are checked by
-- computation.
use Rattle.std.proofs.Common.{◌≡◌, ℕ, Bool, true, false, not, List, [], ◌∷◌, Option, None, Some, refl, ap, ◌∙◌, subst, rules}
use Rattle.std.specs.Prelude.{◌&&◌, ◌==◌, nat_le, nat_lt, Decides, IfSome, unwrap_or}
use Rattle.std.specs.List.{list_any}
use mathlib.Core.Logic.{inl, inr}
use Rattle.cas_base.proofs.Bools.{if_true, if_false, true_or_false, and_left, and_right, both_true, not_of_false, not_tells, not_both}
use Rattle.cas_ballot.specs.declared.ballot.Ballot.{Ballot}
use Rattle.cas_ballot.specs.Ballot.{zero_ballot, BallotAtMost}
use Rattle.cas_ballot.specs.Members.{has_member}
use Rattle.cas_ballot.proofs.BallotLemmas.{not_lt_of_at_most}
use Rattle.cas_change.specs.declared.state.State.{State}
use Rattle.cas_change.specs.contracts.state.StatePartialEq.TheImpl as states
use Rattle.cas_slot.specs.contracts.message.PhasePartialEq.TheImpl as phases
use Rattle.cas_slot.specs.declared.message.Ask.{Ask}
use Rattle.cas_slot.specs.declared.message.Ask.TheVariants as ask
use Rattle.cas_slot.specs.declared.message.Phase.{Phase}
use Rattle.cas_slot.specs.declared.message.Request.{Request}
use Rattle.cas_slot.specs.declared.message.Reply.{Reply}
use Rattle.cas_slot.specs.declared.message.Tell.{Tell}
use Rattle.cas_slot.specs.declared.message.Tell.TheVariants as tell
use Rattle.cas_slot.specs.Ages.{least_age}
use Rattle.cas_slot.specs.Message.{phase_of, tag_of}
use Rattle.cas_slot.specs.Rules.{key_of}
use Rattle.cas_slot.specs.Slot.{accepted_ballot}
use Rattle.cas_record.specs.declared.mark.Mark.{Mark}
use Rattle.cas_record.specs.Places.{At, Stands}
use Rattle.cas_record.specs.Histories.Chain.{is_key, is_ballot, has_proposal}
use Rattle.cas_record.specs.Logs.Happening.{Happening, Asked, Promised, Took, Dropped, Drew, Replied, marks_of}
use Rattle.cas_record.specs.Logs.Lawful.{Cluster, SlotTold, slot_told, is_slot}
use Rattle.cas_record.specs.Logs.Listing.{no_slot_told}
use Rattle.cas_record.specs.Logs.Orderly.{age_told, IsAboveFloors, MayDraw, IsRoundAsk, MayAskFor, MayRide, IsAgedOut, MayAsk, WasAsked, MayPromiseBy, MayTakeBy, MayDropBy, IsTold, MayReply, HasReason, Orderly}
use Rattle.cas_record.proofs.PlaceLemmas.{stands_at}
use Rattle.cas_record.proofs.Tests.{key_same, key_is, key_refl, ballot_same, ballot_is, nat_same, nat_is, slot_same}
use Rattle.cas_record.proofs.Histories.Chains.{has_proposal_tells}
use Rattle.cas_record.proofs.Logs.Checks.{each_place, some_place, each_at, found, some_is, implies, use_implies, at_most, at_most_tells, less, less_of, le_tells, is_floor_at, floor_by, check_in, in_checked, up_to, up_to_at, is_above_floor, check_acked, acked_checked, is_vote, vote_by}

at_most_is : {a b : Ballot} → BallotAtMost a b → at_most a b ≡ true
at_most_is low = not_of_false _ (not_lt_of_at_most low)

-- ---- draws
abbrev pub check_above : List ℕ → Ballot → List Mark → Bool
check_above key ballot marks = each_place (is_above_floor key ballot) marks

above_checked : (key : List ℕ) (ballot : Ballot) (marks : List Mark) → check_above key ballot marks ≡ true → IsAboveFloors marks key ballot
above_checked key ballot marks e = record {
  above = λ {floor} {state} s. less_of (use_implies (is_key key key) (less floor ballot) (each_at (is_above_floor key ballot) e s.at) (key_refl key));
}

-- the ballot is drawn, for any key
abbrev pub is_draw : Ballot → Happening → List Happening → Bool
is_draw ballot (Drew b k e) older = is_ballot b ballot
is_draw ballot other older = false

abbrev pub check_draw : Cluster → List Happening → Ballot → List ℕ → ℕ → Bool
check_draw cluster log ballot key era =
    nat_le ballot.proposer cluster.last_proposer && (less zero_ballot ballot && (not (some_place (is_draw ballot) log)
    && (check_in log ballot.proposer era && check_above key ballot (marks_of log))))

draw_checked : (cluster : Cluster) (log : List Happening) (ballot : Ballot) (key : List ℕ) (era : ℕ) → check_draw cluster log ballot key era ≡ true → MayDraw cluster log ballot key era
draw_checked cluster log ballot key era e =
    let e1 = and_right (nat_le ballot.proposer cluster.last_proposer) _ e in
    let e2 = and_right (less zero_ballot ballot) _ e1 in
    let e3 = and_right (not (some_place (is_draw ballot) log)) _ e2 in
    record {
      known = le_tells (and_left (nat_le ballot.proposer cluster.last_proposer) _ e);
      some = less_of (and_left (less zero_ballot ballot) _ e1);
      fresh = λ k n s. not_both _ (some_is (is_draw ballot) s.at (ballot_is {a = ballot} refl)) (not_tells _ (and_left (not (some_place (is_draw ballot) log)) _ e2));
      is_in = in_checked log ballot.proposer era (and_left (check_in log ballot.proposer era) _ e3);
      above = above_checked key ballot (marks_of log) (and_right (check_in log ballot.proposer era) _ e3);
    }

-- ---- requests
-- the ballot is drawn for the key, in an era that passes the test
abbrev pub is_draw_for : (ℕ → Bool) → List ℕ → Ballot → Happening → List Happening → Bool
is_draw_for test key ballot (Drew b k e) older = is_ballot b ballot && (is_key k key && test e)
is_draw_for test key ballot other older = false

record DrawFor (test : ℕ → Bool) (key : List ℕ) (ballot : Ballot) (log : List Happening) : Type 0 where
  era : ℕ
  drawn : Stands (Drew ballot key era) log
  passes : test era ≡ true

draw_for_by : {test : ℕ → Bool} {key : List ℕ} {ballot : Ballot} {all : List Happening} (h : Happening) (older : List Happening) → At h older all → is_draw_for test key ballot h older ≡ true → DrawFor test key ballot all
draw_for_by {test} {key} {ballot} {all} (Drew b k e) older at t =
    let rest = and_right (is_ballot b ballot) _ t in
    record {
      era = e;
      drawn = stands_at (subst (λ x. At (Drew ballot x e) older all) (key_same (and_left (is_key k key) _ rest))
          (subst (λ x. At (Drew x k e) older all) (ballot_same (and_left (is_ballot b ballot) _ t)) at));
      passes = and_right (is_key k key) _ rest;
    }
draw_for_by h older at t = absurd cc

draw_for : (test : ℕ → Bool) (key : List ℕ) (ballot : Ballot) (log : List Happening) → some_place (is_draw_for test key ballot) log ≡ true → DrawFor test key ballot log
draw_for test key ballot log e = let f = found (is_draw_for test key ballot) log e in draw_for_by f.x f.older f.at f.passes

abbrev pub is_member_in : Cluster → Request → ℕ → Bool
is_member_in cluster request era = has_member (cluster.members era) request.to

abbrev pub check_ask_for : Cluster → List Happening → Request → List ℕ → Ballot → Bool
check_ask_for cluster log request key ballot =
    some_place (is_draw_for (is_member_in cluster request) key ballot) log && ((ballot.proposer == request.from) && check_above key ballot (marks_of log))

ask_for_checked : (cluster : Cluster) (log : List Happening) (request : Request) (key : List ℕ) (ballot : Ballot) → check_ask_for cluster log request key ballot ≡ true → MayAskFor cluster log request key ballot
ask_for_checked cluster log request key ballot e =
    let drawn = some_place (is_draw_for (is_member_in cluster request) key ballot) log in
    let rest = and_right drawn _ e in
    let draw = draw_for (is_member_in cluster request) key ballot log (and_left drawn _ e) in
    record {
      era = draw.era;
      drawn = draw.drawn;
      own = nat_same {a = ballot.proposer} {b = request.from} (and_left (ballot.proposer == request.from) _ rest);
      member = draw.passes;
      above = above_checked key ballot (marks_of log) (and_right (ballot.proposer == request.from) _ rest);
    }

abbrev pub check_ride : List Happening → List ℕ → Ballot → Option Ballot → Bool
check_ride log key ballot None = true
check_ride log key ballot (Some ride) = some_place (is_draw_for (λ era. true) key ride) log && less ballot ride

ride_checked : (log : List Happening) (key : List ℕ) (ballot : Ballot) (ride : Option Ballot) → check_ride log key ballot ride ≡ true → IfSome ride (MayRide log key ballot)
ride_checked log key ballot None e = tt
ride_checked log key ballot (Some ride) e =
    let drawn = some_place (is_draw_for (λ era. true) key ride) log in
    let draw = draw_for (λ era. true) key ride log (and_left drawn _ e) in
    record { era = draw.era; drawn = draw.drawn; above = less_of (and_right drawn _ e) }

abbrev pub is_round : Ask → Bool
is_round (ask.Prepare key ballot) = true
is_round (ask.Accept key ballot era ride state) = true
is_round other = false

round_is : (question : Ask) → IsRoundAsk question → is_round question ≡ true
round_is (ask.Prepare key ballot) round = refl
round_is (ask.Accept key ballot era ride state) round = refl
round_is other round = absurd round

-- the request is none of a round at or below the tombstone, or too old
abbrev pub is_old_for : ℕ → List ℕ → Ballot → Request → Bool
is_old_for acceptor key tomb request = (request.to == acceptor) && (is_round request.ask && (is_key (key_of request.ask) key && at_most (tag_of request.ask) tomb))

abbrev pub is_aged : List Happening → ℕ → List ℕ → Ballot → Happening → List Happening → Bool
is_aged log acceptor key tomb (Asked request) older = implies (is_old_for acceptor key tomb request) (nat_lt request.age (age_told log acceptor request.from))
is_aged log acceptor key tomb other older = true

aged_checked : (log : List Happening) (acceptor : ℕ) (key : List ℕ) (tomb : Ballot) → each_place (is_aged log acceptor key tomb) log ≡ true → IsAgedOut log acceptor key tomb
aged_checked log acceptor key tomb e = record {
  aged = λ request s to round same low.
      let old : is_old_for acceptor key tomb request ≡ true =
      both_true (request.to == acceptor) _ (nat_is to) (both_true (is_round request.ask) _ (round_is request.ask round) (both_true (is_key (key_of request.ask) key) _ (key_is same) (at_most_is low))) in
      le_tells (use_implies (is_old_for acceptor key tomb request) (nat_lt request.age (age_told log acceptor request.from)) (each_at (is_aged log acceptor key tomb) e s.at) old);
}

abbrev pub check_ask : Cluster → List Happening → Request → Ask → Bool
check_ask cluster log request (ask.Prepare key ballot) = check_ask_for cluster log request key ballot
check_ask cluster log request (ask.Accept key ballot era ride state) = check_ask_for cluster log request key ballot && (has_proposal key ballot (marks_of log) && check_ride log key ballot ride)
check_ask cluster log request (ask.Remove key tomb) = some_place (is_floor_at key tomb) (marks_of log) && (check_acked key tomb (marks_of log) && each_place (is_aged log request.to key tomb) log)
check_ask cluster log request (ask.List tag after) = check_ask_for cluster log request [] tag
check_ask cluster log request (ask.Probe tag key) = check_ask_for cluster log request [] tag
check_ask cluster log request other = true

ask_checked : (cluster : Cluster) (log : List Happening) (request : Request) (question : Ask) → check_ask cluster log request question ≡ true → MayAsk cluster log request question
ask_checked cluster log request (ask.Prepare key ballot) e = ask_for_checked cluster log request key ballot e
ask_checked cluster log request (ask.Accept key ballot era ride state) e =
    let rest = and_right (check_ask_for cluster log request key ballot) _ e in (
      ask_for_checked cluster log request key ballot (and_left (check_ask_for cluster log request key ballot) _ e),
      has_proposal_tells key ballot (marks_of log) (and_left (has_proposal key ballot (marks_of log)) _ rest),
      ride_checked log key ballot ride (and_right (has_proposal key ballot (marks_of log)) _ rest),
    )
ask_checked cluster log request (ask.Remove key tomb) e =
    let f = found (is_floor_at key tomb) (marks_of log) (and_left (some_place (is_floor_at key tomb) (marks_of log)) _ e) in
    let rest = and_right (some_place (is_floor_at key tomb) (marks_of log)) _ e in (
      floor_by f.x f.older f.at f.passes,
      acked_checked key tomb (marks_of log) (and_left (check_acked key tomb (marks_of log)) _ rest),
      aged_checked log request.to key tomb (and_right (check_acked key tomb (marks_of log)) _ rest),
    )
ask_checked cluster log request (ask.List tag after) e = ask_for_checked cluster log request [] tag e
ask_checked cluster log request (ask.Probe tag key) e = ask_for_checked cluster log request [] tag e
ask_checked cluster log request other e = tt

-- ---- what acceptors do
-- the acceptor was asked something that passes the test
abbrev pub is_asked : (Ask → Bool) → List Happening → ℕ → Happening → List Happening → Bool
is_asked test log acceptor (Asked request) older = (request.to == acceptor) && (nat_le (age_told log acceptor request.from) request.age && test request.ask)
is_asked test log acceptor other older = false

record AskedSo (test : Ask → Bool) (log : List Happening) (acceptor : ℕ) : Type 0 where
  request : Request
  was_asked : WasAsked log acceptor request
  passes : test request.ask ≡ true

asked_by : {test : Ask → Bool} {log : List Happening} {acceptor : ℕ} (h : Happening) (older : List Happening) → At h older log → is_asked test log acceptor h older ≡ true → AskedSo test log acceptor
asked_by {test} {log} {acceptor} (Asked request) older at e =
    let rest = and_right (request.to == acceptor) _ e in
    record {
      request = request;
      was_asked = record {
        asked = stands_at at;
        to = nat_same {a = request.to} {b = acceptor} (and_left (request.to == acceptor) _ e);
        age = le_tells (and_left (nat_le (age_told log acceptor request.from) request.age) _ rest);
      };
      passes = and_right (nat_le (age_told log acceptor request.from) request.age) _ rest;
    }
asked_by h older at e = absurd cc

abbrev pub check_asked : (Ask → Bool) → List Happening → ℕ → Bool
check_asked test log acceptor = some_place (is_asked test log acceptor) log

asked_so : (test : Ask → Bool) (log : List Happening) (acceptor : ℕ) → check_asked test log acceptor ≡ true → AskedSo test log acceptor
asked_so test log acceptor e = let f = found (is_asked test log acceptor) log e in asked_by f.x f.older f.at f.passes

abbrev pub is_prepare : List ℕ → Ballot → Ask → Bool
is_prepare key ballot (ask.Prepare k b) = is_key k key && is_ballot b ballot
is_prepare key ballot other = false

prepare_is : (key : List ℕ) (ballot : Ballot) (question : Ask) → is_prepare key ballot question ≡ true → question ≡ ask.Prepare key ballot
prepare_is key ballot (ask.Prepare k b) e =
    ap (λ x. ask.Prepare x b) (key_same (and_left (is_key k key) (is_ballot b ballot) e)) ∙ ap (ask.Prepare key) (ballot_same (and_right (is_key k key) (is_ballot b ballot) e))
prepare_is key ballot other e = absurd cc

abbrev pub check_promise_by : List Happening → ℕ → List ℕ → Ballot → Ballot → Bool
check_promise_by log acceptor key ballot told = check_asked (is_prepare key ballot) log acceptor && is_ballot told (slot_told log acceptor key).accepted

promise_by_checked : (log : List Happening) (acceptor : ℕ) (key : List ℕ) (ballot told : Ballot) → check_promise_by log acceptor key ballot told ≡ true → MayPromiseBy log acceptor key ballot told
promise_by_checked log acceptor key ballot told e =
    let asked = asked_so (is_prepare key ballot) log acceptor (and_left (check_asked (is_prepare key ballot) log acceptor) _ e) in
    record {
      request = asked.request;
      was_asked = asked.was_asked;
      is = prepare_is key ballot asked.request.ask asked.passes;
      slot = ballot_same (and_right (check_asked (is_prepare key ballot) log acceptor) _ e);
    }

abbrev pub is_accept : List ℕ → Ballot → Ballot → Ask → Bool
is_accept key ballot ride (ask.Accept k b era rides state) = is_key k key && (is_ballot b ballot && is_ballot ride (unwrap_or rides zero_ballot))
is_accept key ballot ride other = false

record IsAccept (key : List ℕ) (ballot ride : Ballot) (question : Ask) : Type 0 where
  era : ℕ
  rides : Option Ballot
  state : State
  is : question ≡ ask.Accept key ballot era rides state
  ride_is : ride ≡ unwrap_or rides zero_ballot

accept_is : (key : List ℕ) (ballot ride : Ballot) (question : Ask) → is_accept key ballot ride question ≡ true → IsAccept key ballot ride question
accept_is key ballot ride (ask.Accept k b era rides state) e =
    let rest = and_right (is_key k key) _ e in
    record {
      era = era;
      rides = rides;
      state = state;
      is = ap (λ x. ask.Accept x b era rides state) (key_same (and_left (is_key k key) _ e))
          ∙ ap (λ x. ask.Accept key x era rides state) (ballot_same (and_left (is_ballot b ballot) _ rest));
      ride_is = ballot_same (and_right (is_ballot b ballot) _ rest);
    }
accept_is key ballot ride other e = absurd cc

abbrev pub check_take_by : List Happening → ℕ → List ℕ → Ballot → Ballot → Bool
check_take_by log acceptor key ballot ride = check_asked (is_accept key ballot ride) log acceptor

take_by_checked : (log : List Happening) (acceptor : ℕ) (key : List ℕ) (ballot ride : Ballot) → check_take_by log acceptor key ballot ride ≡ true → MayTakeBy log acceptor key ballot ride
take_by_checked log acceptor key ballot ride e =
    let asked = asked_so (is_accept key ballot ride) log acceptor e in
    let accept = accept_is key ballot ride asked.request.ask asked.passes in
    record { request = asked.request; was_asked = asked.was_asked; era = accept.era; rides = accept.rides; state = accept.state; is = accept.is; ride_is = accept.ride_is }

abbrev pub is_remove : List ℕ → Ballot → Ask → Bool
is_remove key tomb (ask.Remove k t) = is_key k key && is_ballot t tomb
is_remove key tomb other = false

remove_is : (key : List ℕ) (tomb : Ballot) (question : Ask) → is_remove key tomb question ≡ true → question ≡ ask.Remove key tomb
remove_is key tomb (ask.Remove k t) e =
    ap (λ x. ask.Remove x t) (key_same (and_left (is_key k key) (is_ballot t tomb) e)) ∙ ap (ask.Remove key) (ballot_same (and_right (is_key k key) (is_ballot t tomb) e))
remove_is key tomb other e = absurd cc

abbrev pub check_drop_by : List Happening → ℕ → List ℕ → Ballot → Bool
check_drop_by log acceptor key tomb = check_asked (is_remove key tomb) log acceptor

drop_by_checked : (log : List Happening) (acceptor : ℕ) (key : List ℕ) (tomb : Ballot) → check_drop_by log acceptor key tomb ≡ true → MayDropBy log acceptor key tomb
drop_by_checked log acceptor key tomb e =
    let asked = asked_so (is_remove key tomb) log acceptor e in
    record { request = asked.request; was_asked = asked.was_asked; is = remove_is key tomb asked.request.ask asked.passes }

-- ---- replies
abbrev pub is_slot_so : SlotTold → Ballot → Ballot → Bool
is_slot_so slot promise accepted = is_ballot slot.promise promise && is_ballot slot.accepted accepted

slot_is : (slot : SlotTold) (promise accepted : Ballot) → is_slot_so slot promise accepted ≡ true → slot ≡ record { promise = promise; accepted = accepted }
slot_is slot promise accepted e =
    let p : slot.promise ≡ promise = ballot_same (and_left (is_ballot slot.promise promise) _ e) in
    let q : slot.accepted ≡ accepted = ballot_same (and_right (is_ballot slot.promise promise) _ e) in
    ap (λ x. record { promise = x; accepted = slot.accepted }) p ∙ ap (λ x. record { promise = promise; accepted = x }) q

abbrev pub is_same_place : Option (List ℕ) → Option (List ℕ) → Bool
is_same_place None None = true
is_same_place (Some a) (Some b) = is_key a b
is_same_place a b = false

same_place : (a b : Option (List ℕ)) → is_same_place a b ≡ true → a ≡ b
same_place None None e = refl
same_place (Some a) (Some b) e = ap Some (key_same e)
same_place None (Some b) e = absurd cc
same_place (Some a) None e = absurd cc

-- what the acceptor did to a slot it did to one of these keys
abbrev pub is_of_keys : ℕ → List (List ℕ) → Happening → List Happening → Bool
is_of_keys acceptor keys (Promised a k b told) older = implies (a == acceptor) (list_any (is_key k) keys)
is_of_keys acceptor keys (Took a k b ride) older = implies (a == acceptor) (list_any (is_key k) keys)
is_of_keys acceptor keys other older = true

-- a slot of another key that was told is not there
unlisted : (acceptor : ℕ) (keys : List (List ℕ)) (key : List ℕ) (a : ℕ) (k : List ℕ) → list_any (is_key key) keys ≡ false → implies (a == acceptor) (list_any (is_key k) keys) ≡ true
    → is_slot acceptor key a k ≡ true → ⊥
unlisted acceptor keys key a k none e own =
    let same = slot_same {acceptor = acceptor} {a = a} {key = key} {k = k} own in
    not_both (list_any (is_key key) keys) (subst (λ x. list_any (is_key x) keys ≡ true) same.1 (use_implies (a == acceptor) (list_any (is_key k) keys) e (nat_is same.0))) none

untold : (log : List Happening) (acceptor : ℕ) (keys : List (List ℕ)) (key : List ℕ) → each_place (is_of_keys acceptor keys) log ≡ true → list_any (is_key key) keys ≡ false
    → slot_told log acceptor key ≡ no_slot_told
untold [] acceptor keys key e none = refl
untold (Promised a k b told ∷ older) acceptor keys key e none = elim (true_or_false (is_slot acceptor key a k)) [
  | inl own ↦ absurd (unlisted acceptor keys key a k none (and_left (implies (a == acceptor) (list_any (is_key k) keys)) _ e) own)
  | inr other ↦ if_false (is_slot acceptor key a k) _ _ other ∙ untold older acceptor keys key (and_right (implies (a == acceptor) (list_any (is_key k) keys)) _ e) none
]
untold (Took a k b ride ∷ older) acceptor keys key e none = elim (true_or_false (is_slot acceptor key a k)) [
  | inl own ↦ absurd (unlisted acceptor keys key a k none (and_left (implies (a == acceptor) (list_any (is_key k) keys)) _ e) own)
  | inr other ↦ if_false (is_slot acceptor key a k) _ _ other ∙ untold older acceptor keys key (and_right (implies (a == acceptor) (list_any (is_key k) keys)) _ e) none
]
untold (Dropped a k tomb ∷ older) acceptor keys key e none = elim (true_or_false (is_slot acceptor key a k)) [
  | inl own ↦ if_true (is_slot acceptor key a k) _ _ own
  | inr other ↦ if_false (is_slot acceptor key a k) _ _ other ∙ untold older acceptor keys key e none
]
untold (other ∷ older) acceptor keys key e none = untold older acceptor keys key e none

-- the acceptor promised the ballot for the key, and told this
abbrev pub is_promise : ℕ → List ℕ → Ballot → Ballot → Happening → List Happening → Bool
is_promise acceptor key ballot told (Promised a k b t) older = is_slot acceptor key a k && (is_ballot b ballot && is_ballot t told)
is_promise acceptor key ballot told other older = false

promise_of_log : {acceptor : ℕ} {key : List ℕ} {ballot told : Ballot} {all : List Happening} (h : Happening) (older : List Happening) → At h older all → is_promise acceptor key ballot told h older ≡ true
    → Stands (Promised acceptor key ballot told) all
promise_of_log {acceptor} {key} {ballot} {told} {all} (Promised a k b t) older at e =
    let slot = slot_same {acceptor = acceptor} {a = a} {key = key} {k = k} (and_left (is_slot acceptor key a k) _ e) in
    let rest = and_right (is_slot acceptor key a k) _ e in
    stands_at (subst (λ x. At (Promised acceptor key ballot x) older all) (ballot_same (and_right (is_ballot b ballot) (is_ballot t told) rest))
    (subst (λ x. At (Promised acceptor key x t) older all) (ballot_same (and_left (is_ballot b ballot) (is_ballot t told) rest))
    (subst (λ x. At (Promised acceptor x b t) older all) slot.1 (subst (λ x. At (Promised x k b t) older all) slot.0 at))))
promise_of_log h older at e = absurd cc

abbrev pub check_told : List Happening → ℕ → Ask → Tell → Bool
check_told log acceptor (ask.Prepare key ballot) (tell.Promised accepted) = some_place (is_promise acceptor key ballot (accepted_ballot accepted)) log && at_most (accepted_ballot accepted) ballot
check_told log acceptor (ask.Accept key ballot era ride state) tell.Accepted = some_place (is_vote key ballot acceptor) (marks_of log)
check_told log acceptor (ask.Ages tag least) tell.AgesSet = up_to 16 (λ proposer. nat_le (least_age least proposer) (age_told log acceptor proposer))
check_told log acceptor (ask.Remove key tomb) tell.Removed = is_slot_so (slot_told log acceptor key) zero_ballot zero_ballot
check_told log acceptor (ask.List tag after) (tell.Listed told keys more) = is_same_place told after && each_place (is_of_keys acceptor keys) log
check_told log acceptor (ask.Probe tag key) (tell.Probed promise accepted) = is_slot_so (slot_told log acceptor key) promise (accepted_ballot accepted)
check_told log acceptor (ask.Prepare key ballot) (tell.Met seen) = less ballot seen
check_told log acceptor (ask.Accept key ballot era ride state) (tell.Met seen) = less ballot seen
check_told log acceptor (ask.Remove key tomb) tell.Kept = not (is_ballot (slot_told log acceptor key).accepted tomb && at_most (slot_told log acceptor key).promise tomb)
check_told log acceptor question answer = true

told_checked : (log : List Happening) (acceptor : ℕ) (question : Ask) (answer : Tell) → check_told log acceptor question answer ≡ true → IsTold log acceptor question answer
told_checked log acceptor (ask.Prepare key ballot) (tell.Promised accepted) e =
    let promised = some_place (is_promise acceptor key ballot (accepted_ballot accepted)) log in
    let f = found (is_promise acceptor key ballot (accepted_ballot accepted)) log (and_left promised _ e) in
    (promise_of_log f.x f.older f.at f.passes, at_most_tells (and_right promised _ e))
told_checked log acceptor (ask.Accept key ballot era ride state) tell.Accepted e = let f = found (is_vote key ballot acceptor) (marks_of log) e in vote_by f.x f.older f.at f.passes
told_checked log acceptor (ask.Ages tag least) tell.AgesSet e = λ proposer low. le_tells (up_to_at 16 (λ n. nat_le (least_age least n) (age_told log acceptor n)) proposer e low)
told_checked log acceptor (ask.Remove key tomb) tell.Removed e = slot_is (slot_told log acceptor key) zero_ballot zero_ballot e
told_checked log acceptor (ask.List tag after) (tell.Listed told keys more) e =
    (same_place told after (and_left (is_same_place told after) _ e), λ key above passed. untold log acceptor keys key (and_right (is_same_place told after) _ e) passed.not_listed)
told_checked log acceptor (ask.Probe tag key) (tell.Probed promise accepted) e = slot_is (slot_told log acceptor key) promise (accepted_ballot accepted) e
told_checked log acceptor (ask.Prepare key ballot) (tell.Met seen) e = less_of e
told_checked log acceptor (ask.Accept key ballot era ride state) (tell.Met seen) e = less_of e
told_checked log acceptor (ask.Remove key tomb) tell.Kept e = λ tombstone.
    let slot = slot_told log acceptor key in
    not_both (is_ballot slot.accepted tomb && at_most slot.promise tomb) (both_true (is_ballot slot.accepted tomb) _ (ballot_is tombstone.holds) (at_most_is tombstone.promise)) (not_tells _ e)
told_checked log acceptor question answer e = tt

state_decides : (a b : State) → Decides (states.ghosts.eq a b) (a ≡ b)
state_decides a b = search rules

abbrev pub is_same_ride : Option Ballot → Option Ballot → Bool
is_same_ride None None = true
is_same_ride (Some a) (Some b) = is_ballot a b
is_same_ride a b = false

same_ride : (a b : Option Ballot) → is_same_ride a b ≡ true → a ≡ b
same_ride None None e = refl
same_ride (Some a) (Some b) e = ap Some (ballot_same e)
same_ride None (Some b) e = absurd cc
same_ride (Some a) None e = absurd cc

abbrev pub is_same_ask : Ask → Ask → Bool
is_same_ask (ask.Prepare k b) (ask.Prepare l c) = is_key k l && is_ballot b c
is_same_ask (ask.Accept k b e r s) (ask.Accept l c f t u) = is_key k l && (is_ballot b c && ((e == f) && (is_same_ride r t && states.ghosts.eq s u)))
is_same_ask (ask.Ages t a) (ask.Ages u b) = is_ballot t u && is_key a.0 b.0
is_same_ask (ask.Remove k b) (ask.Remove l c) = is_key k l && is_ballot b c
is_same_ask (ask.List t a) (ask.List u b) = is_ballot t u && is_same_place a b
is_same_ask (ask.Probe t k) (ask.Probe u l) = is_ballot t u && is_key k l
is_same_ask a b = false

same_ask : (a b : Ask) → is_same_ask a b ≡ true → a ≡ b
same_ask (ask.Prepare k b) (ask.Prepare l c) e =
    let p : k ≡ l = key_same (and_left (is_key k l) _ e) in
    let q : b ≡ c = ballot_same (and_right (is_key k l) _ e) in
    cc
same_ask (ask.Accept k b e r s) (ask.Accept l c f t u) same =
    let e1 = and_right (is_key k l) _ same in
    let e2 = and_right (is_ballot b c) _ e1 in
    let e3 = and_right (e == f) _ e2 in
    let p : k ≡ l = key_same (and_left (is_key k l) _ same) in
    let q : b ≡ c = ballot_same (and_left (is_ballot b c) _ e1) in
    let n : e ≡ f = nat_same {a = e} {b = f} (and_left (e == f) _ e2) in
    let o : r ≡ t = same_ride r t (and_left (is_same_ride r t) _ e3) in
    let v : s ≡ u = (state_decides s u).0 (and_right (is_same_ride r t) _ e3) in
    cc
same_ask (ask.Ages t a) (ask.Ages u b) e =
    let p : t ≡ u = ballot_same (and_left (is_ballot t u) _ e) in
    let q : a.0 ≡ b.0 = key_same (and_right (is_ballot t u) _ e) in
    ap (λ x. ask.Ages x a) p ∙ ap (λ (xs : List ℕ). ask.Ages u (record { 0 = xs })) q
same_ask (ask.Remove k b) (ask.Remove l c) e =
    let p : k ≡ l = key_same (and_left (is_key k l) _ e) in
    let q : b ≡ c = ballot_same (and_right (is_key k l) _ e) in
    cc
same_ask (ask.List t a) (ask.List u b) e =
    let p : t ≡ u = ballot_same (and_left (is_ballot t u) _ e) in
    let q : a ≡ b = same_place a b (and_right (is_ballot t u) _ e) in
    cc
same_ask (ask.Probe t k) (ask.Probe u l) e =
    let p : t ≡ u = ballot_same (and_left (is_ballot t u) _ e) in
    let q : k ≡ l = key_same (and_right (is_ballot t u) _ e) in
    cc
same_ask a b e = absurd cc

abbrev pub is_same_request : Request → Request → Bool
is_same_request a b = (a.to == b.to) && ((a.from == b.from) && ((a.age == b.age) && is_same_ask a.ask b.ask))

same_request : (a b : Request) → is_same_request a b ≡ true → a ≡ b
same_request a b e =
    let e1 = and_right (a.to == b.to) _ e in
    let e2 = and_right (a.from == b.from) _ e1 in
    let to : a.to ≡ b.to = nat_same {a = a.to} {b = b.to} (and_left (a.to == b.to) _ e) in
    let from : a.from ≡ b.from = nat_same {a = a.from} {b = b.from} (and_left (a.from == b.from) _ e1) in
    let age : a.age ≡ b.age = nat_same {a = a.age} {b = b.age} (and_left (a.age == b.age) _ e2) in
    let question : a.ask ≡ b.ask = same_ask a.ask b.ask (and_right (a.age == b.age) _ e2) in
    λ i. record { to = to i; from = from i; age = age i; ask = question i }

phase_decides : (a b : Phase) → Decides (phases.ghosts.eq a b) (a ≡ b)
phase_decides a b = search rules

abbrev pub is_request : Request → Happening → List Happening → Bool
is_request request (Asked r) older = is_same_request r request
is_request request other older = false

request_by : (request : Request) {all : List Happening} (h : Happening) (older : List Happening) → At h older all → is_request request h older ≡ true → Stands (Asked request) all
request_by request {all} (Asked r) older at e = stands_at (subst (λ (x : Request). At (Asked x) older all) (same_request r request e) at)
request_by request h older at e = absurd cc

abbrev pub check_reply : List Happening → Request → Reply → Bool
check_reply log request reply =
    some_place (is_request request) log && ((reply.from == request.to) && ((reply.to == request.from) && (phases.ghosts.eq reply.phase (phase_of request.ask)
    && (is_ballot reply.tag (tag_of request.ask) && check_told log request.to request.ask reply.tell))))

reply_checked : (log : List Happening) (request : Request) (reply : Reply) → check_reply log request reply ≡ true → MayReply log request reply
reply_checked log request reply e =
    let asked = some_place (is_request request) log in
    let f = found (is_request request) log (and_left asked _ e) in
    let e1 = and_right asked _ e in
    let e2 = and_right (reply.from == request.to) _ e1 in
    let e3 = and_right (reply.to == request.from) _ e2 in
    let e4 = and_right (phases.ghosts.eq reply.phase (phase_of request.ask)) _ e3 in
    record {
      asked = request_by request f.x f.older f.at f.passes;
      from = nat_same {a = reply.from} {b = request.to} (and_left (reply.from == request.to) _ e1);
      to = nat_same {a = reply.to} {b = request.from} (and_left (reply.to == request.from) _ e2);
      phase = (phase_decides reply.phase (phase_of request.ask)).0 (and_left (phases.ghosts.eq reply.phase (phase_of request.ask)) _ e3);
      tag = ballot_same (and_left (is_ballot reply.tag (tag_of request.ask)) _ e4);
      told = told_checked log request.to request.ask reply.tell (and_right (is_ballot reply.tag (tag_of request.ask)) _ e4);
    }

-- ---- the whole
abbrev pub check_reason : Cluster → List Happening → Happening → Bool
check_reason cluster log (Drew ballot key era) = check_draw cluster log ballot key era
check_reason cluster log (Asked request) = check_ask cluster log request request.ask
check_reason cluster log (Promised acceptor key ballot told) = check_promise_by log acceptor key ballot told
check_reason cluster log (Took acceptor key ballot ride) = check_take_by log acceptor key ballot ride
check_reason cluster log (Dropped acceptor key tomb) = check_drop_by log acceptor key tomb
check_reason cluster log (Replied request reply) = check_reply log request reply
check_reason cluster log other = true

reason_checked : (cluster : Cluster) (log : List Happening) (h : Happening) → check_reason cluster log h ≡ true → HasReason cluster log h
reason_checked cluster log (Drew ballot key era) e = draw_checked cluster log ballot key era e
reason_checked cluster log (Asked request) e = ask_checked cluster log request request.ask e
reason_checked cluster log (Promised acceptor key ballot told) e = promise_by_checked log acceptor key ballot told e
reason_checked cluster log (Took acceptor key ballot ride) e = inl (take_by_checked log acceptor key ballot ride e)
reason_checked cluster log (Dropped acceptor key tomb) e = drop_by_checked log acceptor key tomb e
reason_checked cluster log (Replied request reply) e = reply_checked log request reply e
reason_checked cluster log other e = tt

-- whether each happening has its reason in what had happened before
abbrev pub check_order : Cluster → List Happening → Bool
check_order cluster [] = true
check_order cluster (h ∷ older) = check_order cluster older && check_reason cluster older h

pub orderly_checked : (cluster : Cluster) (log : List Happening) → check_order cluster log ≡ true → Orderly cluster log
orderly_checked cluster [] e = tt
orderly_checked cluster (h ∷ older) e =
    (orderly_checked cluster older (and_left (check_order cluster older) (check_reason cluster older h) e), reason_checked cluster older h (and_right (check_order cluster older) (check_reason cluster older h) e))
