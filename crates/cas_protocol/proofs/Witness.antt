-- A run: a call is begun, its round prepared by two acceptors and proposed; one acceptor stops within the accept and answers nobody,
-- is up again and answers the same request, the other answers too, and the call is Done. A promise rode along with the accepts, and
-- the next call is proposed by it, without asking anybody. A third acceptor takes what is long Done, and another proposer is met.
use Rattle.std.proofs.Common.{◌≡◌, ℕ, Bool, true, false, List, [], ◌∷◌, Option, Some, None, refl, sym, ap, subst, ◌∙◌, inl, inr, arith}
use Rattle.std.specs.Prelude.{IsSomeAnd, pos, ◌==◌, not, nat_le, cond, suc, ◌++◌}
use Rattle.std.specs.List.{list_any}
use Rattle.cas_base.proofs.Bools.{not_both, not_of_false, true_or_false}
use Rattle.cas_ballot.specs.declared.ballot.Ballot.{Ballot}
use Rattle.cas_ballot.specs.Ballot.{zero_ballot, BallotAtMost, BallotLess}
use Rattle.cas_ballot.specs.Members.{members_where, has_member}
use Rattle.cas_ballot.proofs.BallotLemmas.{at_most_refl, zero_at_most}
use Rattle.cas_change.specs.declared.program.Act.TheVariants.{Add}
use Rattle.cas_change.specs.declared.program.Clause.{Clause}
use Rattle.cas_change.specs.declared.program.Guard.TheVariants.{Always}
use Rattle.cas_change.specs.declared.state.Body.TheVariants.{Number}
use Rattle.cas_change.specs.declared.state.State.{State}
use Rattle.cas_change.specs.declared.state.State.TheVariants.{Empty, Held}
use Rattle.cas_change.specs.Outcome.{outcome_of}
use Rattle.cas_round.proofs.Lists.{Has, has}
use Rattle.cas_round.specs.Replies.{promisers_of, accepters_of}
use Rattle.cas_slot.specs.declared.message.Ask.TheVariants as ask
use Rattle.cas_slot.specs.declared.message.Request.{Request}
use Rattle.cas_slot.specs.declared.message.Reply.{Reply}
use Rattle.cas_slot.specs.declared.message.Tell.TheVariants as tell
use Rattle.cas_slot.specs.declared.slot.Slot.{Slot}
use Rattle.cas_slot.specs.Contents.{Contents, nothing, with_kept}
use Rattle.cas_slot.specs.Rules.{is_accepted_at}
use Rattle.cas_slot.specs.Slot.{accepted_of, seen_of}
use Rattle.cas_slot.specs.Table.{Handles, accepted_at}
use Rattle.cas_record.specs.declared.mark.Acknowledgment.{Acknowledgment}
use Rattle.cas_record.specs.declared.mark.Mark.{Mark}
use Rattle.cas_record.specs.declared.mark.Mark.TheVariants.{Begun, Proposed, Voted, Floor, Ended, Acked}
use Rattle.cas_record.specs.declared.mark.Proposal.{Proposal}
use Rattle.cas_record.specs.Logs.Happening.{Happening, Marked, Asked, Took, Drew, Entered, Replied, marks_of}
use Rattle.cas_record.specs.Legal.{IsEnded, IsAcked, calls_of}
use Rattle.cas_record.specs.Histories.Chain.{is_ballot}
use Rattle.cas_record.specs.declared.answer.Answer.TheVariants as answer
use Rattle.cas_record.specs.Logs.Orderly.{MayAskFor, MayAsk}
use Rattle.cas_record.specs.Places.{Stands, here, past}
use Rattle.cas_record.specs.Logs.Witness.{small_cluster, members_in, key_a, at, ask_of}
use Rattle.cas_record.proofs.PlaceLemmas.{stands_later, newest_or, none_at_nil}
use Rattle.cas_record.proofs.Logs.Lemmas.{mark_stands}
use Rattle.cas_record.proofs.Tests.{neither, neither_left, neither_right, ballot_same, ballot_is, nat_is}
use Rattle.cas_record.proofs.Logs.Checks.{le_tells}
use Rattle.cas_change.specs.declared.outcome.Took.TheVariants.{Clause as ByClause}
use Rattle.cas_cache.specs.declared.ready.Ready.{Ready}
use Rattle.cas_slot.specs.declared.message.Ask.{Ask}
use Rattle.cas_protocol.specs.Acceptors.{events_of}
use Rattle.cas_protocol.specs.Desks.{IsPastAll}
use Rattle.cas_protocol.specs.Proposers.{AllRide}
use Rattle.cas_protocol.specs.Protocol.{Made, GlobalState, opening, AllReplied, HasMade, IsPrepared, IsAccepted, ProtocolEvent, Begins, Draws, Asks, Answers, StopsWithin, Proposes, Counts, EndsDone, after, opened, then, SomeRunIsDone, IsPreparedByRide, ProposesByRide, Run}
use Rattle.cas_protocol.proofs.Answered.{events_marks}
use Rattle.cas_protocol.proofs.Handling as handling
use Rattle.cas_protocol.proofs.Handling.{none_kept, accepted_kept, room, reply_to, answered}

-- ---- what does not stand in a list
pub none : {A : Type 0} (test : A → Bool) (xs : List A) {x : A} → list_any test xs ≡ false → test x ≡ true → Stands x xs → ⊥
none test [] e t s = none_at_nil s.at
none test (y ∷ ys) {x} e t s = elim (newest_or s) [
  | inl same ↦ not_both (test y) (ap test (sym same) ∙ t) (neither_left (test y) (list_any test ys) e)
  | inr before ↦ none test ys (neither_right (test y) (list_any test ys) e) t before
]

abbrev is_drew : Happening → Bool
is_drew (Drew ballot key era) = true
is_drew other = false

abbrev is_entered : Happening → Bool
is_entered (Entered proposer era) = true
is_entered other = false

abbrev is_proposed : Mark → Bool
is_proposed (Proposed p) = true
is_proposed other = false

abbrev pub is_floor : Mark → Bool
is_floor (Floor key floor state) = true
is_floor other = false

abbrev is_ended : Mark → Bool
is_ended (Ended caller call rounds answer) = true
is_ended other = false

-- ---- what acceptors answer
abbrev pub one : Ballot
one = at 1 0

abbrev pub two : Ballot
two = at 2 0

abbrev pub five : State
five = Held 0 (Number (pos 5))

abbrev pub promised : Contents
promised = handling.promised one

abbrev pub accepted : Contents
accepted = handling.accepted one two five

abbrev ask_prepare : ℕ → Request
ask_prepare acceptor = ask_of acceptor 0 one (ask.Prepare key_a one)

abbrev pub ask_accept : ℕ → Request
ask_accept acceptor = ask_of acceptor 0 one (ask.Accept key_a one 0 (Some two) five)

one_above_zero : BallotLess zero_ballot one
one_above_zero = record { counters = omega arith; proposers = λ same. absurd (omega (arith, same)) }

pub promises : (acceptor : ℕ) → Handles nothing (ask_prepare acceptor) (tell.Promised None) promised
promises acceptor = handling.promises acceptor 0 one (omega arith) one_above_zero

pub takes : (acceptor : ℕ) → Handles promised (ask_accept acceptor) tell.Accepted accepted
takes acceptor = handling.takes acceptor 0 one two five (omega arith) (at_most_refl one)

-- an acceptor that was never asked to promise takes it too
abbrev late : Contents
late = with_kept nothing key_a (record { promise = two; accepted = Some (record { ballot = one; era = 0; state = five }) })

takes_late : (acceptor : ℕ) → Handles nothing (ask_accept acceptor) tell.Accepted late
takes_late acceptor = (
  omega arith,
  inr (
    (λ again. absurd (subst (λ (s : Option Slot). IsSomeAnd (accepted_of s) (λ a. a.ballot ≡ one)) none_kept again)),
    subst (λ (s : Option Slot). BallotAtMost (seen_of s) one) (sym none_kept) (zero_at_most one),
    room,
    refl,
  ),
)

takes_again : (acceptor : ℕ) → Handles accepted (ask_accept acceptor) tell.Accepted accepted
takes_again acceptor = (omega arith, inl (subst (λ (s : Option Slot). IsSomeAnd (accepted_of s) (λ a. a.ballot ≡ one)) (sym (accepted_kept one two five)) refl, refl))

-- ---- the round is prepared
abbrev pub program : List Clause
program = record { guard = Always; act = Add (pos 5) } ∷ []

abbrev begins : ProtocolEvent small_cluster opening
begins = Begins 0 1 key_a program refl

abbrev pub begun : GlobalState
begun = after small_cluster opening begins

pub past_all : IsPastAll small_cluster begun.log 0 0 0 key_a
past_all = record {
  known = omega arith;
  is_in = inl refl;
  drawn = λ ballot key era stands own. absurd (none is_drew begun.log refl refl stands);
  floors = λ floor has. absurd (none is_floor (marks_of begun.log) refl refl has.stands);
}

abbrev draws : ProtocolEvent small_cluster begun
draws = Draws 0 0 0 key_a past_all

abbrev drawn : GlobalState
drawn = after small_cluster begun draws

-- what is asked for the ballot
pub asks_for : (log : List Happening) (request : Request) → request.from ≡ 0 → has_member (members_in 0) request.to ≡ true → Stands (Drew one key_a 0) log → list_any is_floor (marks_of log) ≡ false
    → MayAskFor small_cluster log request key_a one
asks_for log request from member stands no_floor = record {
  era = 0;
  drawn = stands;
  own = sym from;
  member = member;
  above = record { above = λ {floor} {state} floored. absurd (none is_floor (marks_of log) no_floor refl floored) };
}

abbrev asks_first : ProtocolEvent small_cluster drawn
asks_first = Asks (ask_prepare 1) (record { may = asks_for drawn.log (ask_prepare 1) refl refl (record { older = begun.log; at = here }) refl; made = tt; ended = tt; from = omega arith; to = omega arith })

abbrev asked_first : GlobalState
asked_first = after small_cluster drawn asks_first

abbrev first : Reply
first = reply_to (ask_prepare 1) (tell.Promised None)

abbrev first_promises : ProtocolEvent small_cluster asked_first
first_promises = Answers (ask_prepare 1) first promised (record { older = drawn.log; at = here }) (answered (ask_prepare 1) (tell.Promised None) refl (promises 1))

abbrev promised_first : GlobalState
promised_first = after small_cluster asked_first first_promises

abbrev asks_second : ProtocolEvent small_cluster promised_first
asks_second = Asks (ask_prepare 2) (record { may = asks_for promised_first.log (ask_prepare 2) refl refl (record { older = begun.log; at = past (past (past here)) }) refl; made = tt; ended = tt; from = omega arith; to = omega arith })

abbrev asked_second : GlobalState
asked_second = after small_cluster promised_first asks_second

abbrev second : Reply
second = reply_to (ask_prepare 2) (tell.Promised None)

abbrev second_promises : ProtocolEvent small_cluster asked_second
second_promises = Answers (ask_prepare 2) second promised (record { older = promised_first.log; at = here }) (answered (ask_prepare 2) (tell.Promised None) refl (promises 2))

abbrev pub promised_second : GlobalState
promised_second = after small_cluster asked_second second_promises

-- ---- it is proposed
abbrev pub proposal : Proposal
proposal = record { caller = 0; call = 1; key = key_a; ballot = one; read = zero_ballot; era = 0; prepared_by = 1 ∷ 2 ∷ [] }

pub begun_stands : Stands (Begun 0 1 key_a program) (marks_of promised_second.log)
begun_stands = record { older = []; at = here }

abbrev pub drawn_stands : Stands (Drew one key_a 0) promised_second.log
drawn_stands = record { older = begun.log; at = past (past (past (past (past (past here))))) }

promises_replied : AllReplied promised_second.log (first ∷ second ∷ [])
promises_replied reply stands = by_place (has reply (first ∷ second ∷ []) stands)
  where
    by_place : Has reply (first ∷ second ∷ []) → (request : Request) × Stands (Replied request reply) promised_second.log
    by_place (inl is_first) = (ask_prepare 1, subst (λ (r : Reply). Stands (Replied (ask_prepare 1) r) promised_second.log) is_first (record { older = _; at = past (past (past here)) }))
    by_place (inr (inl is_second)) = (ask_prepare 2, subst (λ (r : Reply). Stands (Replied (ask_prepare 2) r) promised_second.log) is_second (record { older = _; at = here }))
    by_place (inr (inr nowhere)) = absurd nowhere

two_promised : (1 ∷ 2 ∷ []) ≡ promisers_of one (first ∷ second ∷ [])
unfolding members_where
two_promised = refl

pub two_are_enough : small_cluster.prepares 0 (1 ∷ 2 ∷ []) ≡ true
unfolding members_where
two_are_enough = refl

pub prepared : IsPrepared small_cluster promised_second.log proposal None
prepared = record {
  round = record {
    drawn = drawn_stands;
    not_beyond = λ s. absurd (none is_entered promised_second.log refl refl s);
    fresh = λ p. absurd (none is_proposed (marks_of promised_second.log) refl refl p.stands);
    above_floors = record { above = λ {floor} {state} s. absurd (none is_floor (marks_of promised_second.log) refl refl s) };
    begun = record { program = program; stands = begun_stands };
    once = λ p. absurd (none is_proposed (marks_of promised_second.log) refl refl p.stands);
    open_yet = λ e. absurd (none is_ended (marks_of promised_second.log) refl refl e.stands);
  };
  replies = first ∷ second ∷ [];
  replied = promises_replied;
  by = two_promised;
  quorum = two_are_enough;
  is_read = refl;
  same_read = refl;
}

abbrev made : Made
made = record { proposal = proposal; outcome = outcome_of program Empty }

abbrev proposes : ProtocolEvent small_cluster promised_second
proposes = Proposes proposal program None begun_stands prepared

abbrev pub proposed : GlobalState
proposed = after small_cluster promised_second proposes

-- the next ballot is drawn, which is to ride along
abbrev drew_high : Happening → Bool
drew_high (Drew ballot key era) = not (nat_le ballot.counter 1)
drew_high other = false

pub past_one : IsPastAll small_cluster proposed.log 0 0 1 key_a
past_one = record {
  known = omega arith;
  is_in = inl refl;
  drawn = λ ballot key era stands own. elim (true_or_false (nat_le ballot.counter 1)) [
    | inl low ↦ le_tells low
    | inr high ↦ absurd (none drew_high proposed.log refl (not_of_false (nat_le ballot.counter 1) high) stands)
  ];
  floors = λ floor has. absurd (none is_floor (marks_of proposed.log) refl refl has.stands);
}

abbrev draws_ride : ProtocolEvent small_cluster proposed
draws_ride = Draws 0 0 1 key_a past_one

abbrev drawn_ride : GlobalState
drawn_ride = after small_cluster proposed draws_ride

-- ---- it is accepted
one_less : BallotLess one two
one_less = record { counters = omega arith; proposers = λ same. absurd (omega (arith, same)) }

pub accepts : (log : List Happening) (request : Request) → request.ask ≡ ask.Accept key_a one 0 (Some two) five → MayAskFor small_cluster log request key_a one → Stands (Marked (Proposed proposal)) log
    → Stands (Drew two key_a 0) log → MayAsk small_cluster log request (ask.Accept key_a one 0 (Some two) five)
accepts log request is may stands drawn =
    (may, record { proposal = proposal; stands = mark_stands stands; same_key = refl; same_ballot = refl }, record { era = 0; drawn = drawn; above = one_less })

pub made_five : HasMade (made ∷ []) key_a one 0 five
made_five = record { made = made; stands = record { older = []; at = here }; same_key = refl; same_ballot = refl; same_era = refl; same_state = refl }

abbrev asks_to_accept : ProtocolEvent small_cluster drawn_ride
asks_to_accept = Asks (ask_accept 1) (record {
  may = accepts drawn_ride.log (ask_accept 1) refl (asks_for drawn_ride.log (ask_accept 1) refl refl (record { older = begun.log; at = past (past drawn_stands.at) }) refl)
      (record { older = promised_second.log; at = past here }) (record { older = proposed.log; at = here });
  made = made_five;
  ended = tt;
  from = omega arith;
  to = omega arith;
})

abbrev pub asked_to_accept : GlobalState
asked_to_accept = after small_cluster drawn_ride asks_to_accept

-- the first stops within it, and a crash leaves what it wrote
abbrev stops_within : ProtocolEvent small_cluster asked_to_accept
stops_within = StopsWithin (ask_accept 1) tell.Accepted accepted (record { older = drawn_ride.log; at = here }) (takes 1)

abbrev pub stopped : GlobalState
stopped = after small_cluster asked_to_accept stops_within

-- so far
pub run_stopped : Run small_cluster stopped
run_stopped =
    then asked_to_accept (then drawn_ride (then proposed (then promised_second (then asked_second (then promised_first (then asked_first (then drawn (then begun (then opening opened begins) draws) asks_first) first_promises) asks_second) second_promises) proposes) draws_ride)
    asks_to_accept) stops_within

abbrev wrote : List Happening
wrote = events_of 1 promised (ask_accept 1).ask tell.Accepted

asked_before : Stands (Asked (ask_accept 1)) stopped.log
asked_before = stands_later wrote (record { older = drawn_ride.log; at = here })

abbrev third : Reply
third = reply_to (ask_accept 1) tell.Accepted

-- and it is asked the same again
abbrev first_accepts : ProtocolEvent small_cluster stopped
first_accepts = Answers (ask_accept 1) third accepted asked_before (answered (ask_accept 1) tell.Accepted refl (takes_again 1))

abbrev accepted_again : GlobalState
accepted_again = after small_cluster stopped first_accepts

-- what stood before stands still
pub stopped_has : {x : Happening} → Stands x asked_to_accept.log → Stands x stopped.log
stopped_has stands = stands_later wrote stands

abbrev wrote_again : List Happening
wrote_again = events_of 1 accepted (ask_accept 1).ask tell.Accepted

again_has : {x : Happening} → Stands x stopped.log → Stands x accepted_again.log
again_has stands = let deeper = stands_later wrote_again stands in record { older = deeper.older; at = past (past deeper.at) }

drawn_still : Stands (Drew one key_a 0) accepted_again.log
drawn_still = again_has (stopped_has (record { older = begun.log; at = past (past (past drawn_stands.at)) }))

proposed_still : Stands (Marked (Proposed proposal)) accepted_again.log
proposed_still = again_has (stopped_has (record { older = promised_second.log; at = past (past here) }))

ride_still : Stands (Drew two key_a 0) accepted_again.log
ride_still = again_has (stopped_has (record { older = proposed.log; at = past here }))

marks_again : marks_of accepted_again.log ≡ Voted 1 key_a one ∷ marks_of asked_to_accept.log
marks_again = ap (λ (marks : List Mark). Voted 1 key_a one ∷ marks)
    (events_marks 1 accepted stopped.log (ask_accept 1).ask tell.Accepted ∙ events_marks 1 promised asked_to_accept.log (ask_accept 1).ask tell.Accepted)

abbrev asks_other : ProtocolEvent small_cluster accepted_again
asks_other = Asks (ask_accept 2) (record {
  may = accepts accepted_again.log (ask_accept 2) refl (asks_for accepted_again.log (ask_accept 2) refl refl drawn_still (ap (list_any is_floor) marks_again)) proposed_still ride_still;
  made = made_five;
  ended = tt;
  from = omega arith;
  to = omega arith;
})

abbrev asked_other : GlobalState
asked_other = after small_cluster accepted_again asks_other

abbrev fourth : Reply
fourth = reply_to (ask_accept 2) tell.Accepted

abbrev other_accepts : ProtocolEvent small_cluster asked_other
other_accepts = Answers (ask_accept 2) fourth accepted (record { older = accepted_again.log; at = here }) (answered (ask_accept 2) tell.Accepted refl (takes 2))

abbrev accepted_by_other : GlobalState
accepted_by_other = after small_cluster asked_other other_accepts

abbrev wrote_other : List Happening
wrote_other = events_of 2 promised (ask_accept 2).ask tell.Accepted

other_has : {x : Happening} → Stands x accepted_again.log → Stands x accepted_by_other.log
other_has stands = let deeper = stands_later wrote_other {all = asked_other.log} (record { older = stands.older; at = past stands.at }) in record { older = deeper.older; at = past (past deeper.at) }

marks_other : marks_of accepted_by_other.log ≡ Voted 2 key_a one ∷ Voted 1 key_a one ∷ marks_of asked_to_accept.log
marks_other = ap (λ (marks : List Mark). Voted 2 key_a one ∷ marks) (events_marks 2 promised asked_other.log (ask_accept 2).ask tell.Accepted ∙ marks_again)

accepts_replied : AllReplied accepted_by_other.log (third ∷ fourth ∷ [])
accepts_replied reply stands = by_place (has reply (third ∷ fourth ∷ []) stands)
  where
    by_place : Has reply (third ∷ fourth ∷ []) → (request : Request) × Stands (Replied request reply) accepted_by_other.log
    by_place (inl is_third) = (ask_accept 1, subst (λ (r : Reply). Stands (Replied (ask_accept 1) r) accepted_by_other.log) is_third (other_has (record { older = _; at = here })))
    by_place (inr (inl is_fourth)) = (ask_accept 2, subst (λ (r : Reply). Stands (Replied (ask_accept 2) r) accepted_by_other.log) is_fourth (record { older = _; at = here }))
    by_place (inr (inr nowhere)) = absurd nowhere

two_accepted : (1 ∷ 2 ∷ []) ≡ accepters_of one (third ∷ fourth ∷ [])
unfolding members_where
two_accepted = refl

pub two_suffice : small_cluster.accepts 0 (1 ∷ 2 ∷ []) ≡ true
unfolding members_where
two_suffice = refl

abbrev pub acknowledgment : Acknowledgment
acknowledgment = record { key = key_a; ballot = one; era = 0; by = 1 ∷ 2 ∷ [] }

-- the third acceptor is asked too, and answers nothing yet
abbrev asks_late : ProtocolEvent small_cluster accepted_by_other
asks_late = Asks (ask_accept 3) (record {
  may = accepts accepted_by_other.log (ask_accept 3) refl (asks_for accepted_by_other.log (ask_accept 3) refl refl (other_has drawn_still) (ap (list_any is_floor) marks_other)) (other_has proposed_still)
      (other_has ride_still);
  made = made_five;
  ended = tt;
  from = omega arith;
  to = omega arith;
})

abbrev asked_late : GlobalState
asked_late = after small_cluster accepted_by_other asks_late

late_has : {x : Happening} → Stands x accepted_by_other.log → Stands x asked_late.log
late_has stands = record { older = stands.older; at = past stands.at }

accepts_replied_then : AllReplied asked_late.log (third ∷ fourth ∷ [])
accepts_replied_then reply stands = let was = accepts_replied reply stands in (was.0, late_has was.1)

-- ---- it is counted, and answered Done
is_accepted : IsAccepted small_cluster asked_late.log acknowledgment
is_accepted = record {
  proposed = record {
    drawn = late_has (other_has drawn_still);
    proposal = proposal;
    proposed = mark_stands (late_has (other_has proposed_still));
    same_key = refl;
    same_ballot = refl;
    same_era = refl;
  };
  replies = third ∷ fourth ∷ [];
  replied = accepts_replied_then;
  by = two_accepted;
  quorum = two_suffice;
}

abbrev counts : ProtocolEvent small_cluster asked_late
counts = Counts acknowledgment is_accepted

abbrev counted : GlobalState
counted = after small_cluster asked_late counts

not_ended : IsEnded 0 1 (marks_of counted.log) → ⊥
not_ended ended = none is_ended (marks_of counted.log) (ap (list_any is_ended) marks_other) refl ended.stands

is_acked : IsAcked key_a one (marks_of counted.log)
is_acked = record { acknowledgment = acknowledgment; stands = record { older = marks_of asked_late.log; at = here }; same_key = refl; same_ballot = refl }

abbrev ends : ProtocolEvent small_cluster counted
ends = EndsDone made 1 (record { older = []; at = here }) is_acked not_ended

abbrev ended : GlobalState
ended = after small_cluster counted ends

-- ---- the next call is proposed by the promise that rode along
abbrev proposes_two : Mark → Bool
proposes_two (Proposed p) = is_ballot p.ballot two
proposes_two other = false

abbrev proposes_next : Mark → Bool
proposes_next (Proposed p) = p.call == 2
proposes_next other = false

abbrev ends_next : Mark → Bool
ends_next (Ended caller call rounds answer) = call == 2
ends_next other = false

abbrev begins_next : ProtocolEvent small_cluster ended
begins_next = Begins 0 2 key_a program (ap (λ (marks : List Mark). suc (calls_of 0 marks)) (sym marks_other))

abbrev begun_next : GlobalState
begun_next = after small_cluster ended begins_next

ended_has : {x : Happening} → Stands x accepted_by_other.log → Stands x begun_next.log
ended_has stands = record { older = stands.older; at = past (past (past (past stands.at))) }

marks_next : (test : Mark → Bool) → list_any test (marks_of begun_next.log) ≡ list_any test (Begun 0 2 key_a program ∷ Ended 0 1 1 (answer.Done five (ByClause 0) one) ∷ Acked acknowledgment
    ∷ Voted 2 key_a one ∷ Voted 1 key_a one ∷ marks_of asked_to_accept.log)
marks_next test = ap (λ (marks : List Mark). list_any test (Begun 0 2 key_a program ∷ Ended 0 1 1 (answer.Done five (ByClause 0) one) ∷ Acked acknowledgment ∷ marks)) marks_other

-- what an acceptor wrote does not pass the test, whether it wrote or not
pub wrote_none : (test : Happening → Bool) (wrote_before : Bool) (h : Happening) (log : List Happening) → test h ≡ false → list_any test log ≡ false → list_any test (cond wrote_before [] (h ∷ []) ++ log) ≡ false
wrote_none test true h log passes_not older = older
wrote_none test false h log passes_not older = neither (test h) (list_any test log) passes_not older

-- whoever was asked to accept was asked for the ride
abbrev rides_not : Ask → Bool
rides_not (ask.Accept key ballot era (Some ride) state) = not (is_ballot ride two)
rides_not (ask.Accept key ballot era None state) = true
rides_not other = false

abbrev asks_no_ride : Happening → Bool
asks_no_ride (Asked request) = rides_not request.ask
asks_no_ride other = false

abbrev pub wrote_at : Contents → Bool
wrote_at old = is_accepted_at (accepted_at old key_a) one

none_entered : list_any is_entered begun_next.log ≡ false
none_entered = wrote_none is_entered (wrote_at promised) (Took 2 key_a one two) asked_other.log refl
    (wrote_none is_entered (wrote_at accepted) (Took 1 key_a one two) stopped.log refl (wrote_none is_entered (wrote_at promised) (Took 1 key_a one two) asked_to_accept.log refl refl))

all_ask_ride : list_any asks_no_ride begun_next.log ≡ false
all_ask_ride = wrote_none asks_no_ride (wrote_at promised) (Took 2 key_a one two) asked_other.log refl
    (wrote_none asks_no_ride (wrote_at accepted) (Took 1 key_a one two) stopped.log refl (wrote_none asks_no_ride (wrote_at promised) (Took 1 key_a one two) asked_to_accept.log refl refl))

ride_is : (era : ℕ) (asked : Option Ballot) (state : State) → rides_not (ask.Accept key_a one era asked state) ≡ false → asked ≡ Some two
ride_is era None state e = absurd (cc)
ride_is era (Some ride) state e = elim (true_or_false (is_ballot ride two)) [
  | inl same ↦ ap Some (ballot_same {a = ride} {b = two} same)
  | inr other ↦ absurd (not_both (not (is_ballot ride two)) (not_of_false (is_ballot ride two) other) e)
]

all_ride : AllRide begun_next.log key_a one two
all_ride = record {
  rides = λ request era asked state stands is. elim (true_or_false (rides_not request.ask)) [
    | inl wrong ↦ absurd (none asks_no_ride begun_next.log all_ask_ride wrong stands)
    | inr right ↦ ride_is era asked state (ap rides_not (sym is) ∙ right)
  ];
}

accepts_replied_still : AllReplied begun_next.log (third ∷ fourth ∷ [])
accepts_replied_still reply stands = let was = accepts_replied reply stands in (was.0, ended_has was.1)

abbrev next_proposal : Proposal
next_proposal = record { caller = 0; call = 2; key = key_a; ballot = two; read = one; era = 0; prepared_by = 1 ∷ 2 ∷ [] }

abbrev ready : Ready
ready = record { ballot = two; state = five; read = one; by = 1 ∷ 2 ∷ [] }

none_floored : {floor : Ballot} {state : State} → Stands (Floor key_a floor state) (marks_of begun_next.log) → ⊥
none_floored s = none is_floor (marks_of begun_next.log) (marks_next is_floor) refl s

prepared_by_ride : IsPreparedByRide small_cluster begun_next next_proposal ready
prepared_by_ride = record {
  round = record {
    drawn = ended_has (other_has ride_still);
    not_beyond = λ s. absurd (none is_entered begun_next.log none_entered refl s);
    fresh = λ p. absurd (none proposes_two (marks_of begun_next.log) (marks_next proposes_two) (ballot_is {a = p.proposal.ballot} {b = two} p.same_ballot) p.stands);
    above_floors = record { above = λ {floor} {state} s. absurd (none_floored s) };
    begun = record { program = program; stands = record { older = marks_of ended.log; at = here } };
    once = λ p. absurd (none proposes_next (marks_of begun_next.log) (marks_next proposes_next) (nat_is {a = p.proposal.call} {b = 2} p.same_call) p.stands);
    open_yet = λ e. absurd (none ends_next (marks_of begun_next.log) (marks_next ends_next) refl e.stands);
  };
  same_ballot = refl;
  same_read = refl;
  by = refl;
  drawn = ended_has (other_has drawn_still);
  made = made_five;
  replies = third ∷ fourth ∷ [];
  replied = accepts_replied_still;
  accepted_by = two_accepted;
  quorum = two_are_enough;
  above = one_less;
  all = all_ride;
  over_floors = λ floor has. absurd (none_floored has.stands);
}

abbrev proposes_by_ride : ProtocolEvent small_cluster begun_next
proposes_by_ride = ProposesByRide next_proposal program ready (record { older = marks_of ended.log; at = here }) prepared_by_ride

abbrev proposed_next : GlobalState
proposed_next = after small_cluster begun_next proposes_by_ride

-- ---- and the third acceptor takes what is long Done
late_asked : Stands (Asked (ask_accept 3)) proposed_next.log
late_asked = record { older = accepted_by_other.log; at = past (past (past (past here))) }

abbrev answers_late : ProtocolEvent small_cluster proposed_next
answers_late = Answers (ask_accept 3) (reply_to (ask_accept 3) tell.Accepted) late late_asked (answered (ask_accept 3) tell.Accepted refl (takes_late 3))

abbrev wrote_late : List Happening
wrote_late = events_of 3 nothing (ask_accept 3).ask tell.Accepted

abbrev all_over : GlobalState
all_over = after small_cluster proposed_next answers_late

over_has : {x : Happening} → Stands x proposed_next.log → Stands x all_over.log
over_has stands = let deeper = stands_later wrote_late stands in record { older = deeper.older; at = past (past deeper.at) }

-- ---- another proposer draws a ballot that is too low, and is met
abbrev other_ballot : Ballot
other_ballot = at 1 1

abbrev drew_by_other : Happening → Bool
drew_by_other (Drew ballot key era) = ballot.proposer == 1
drew_by_other other = false

none_by_other : list_any drew_by_other all_over.log ≡ false
none_by_other = wrote_none drew_by_other (wrote_at nothing) (Took 3 key_a one two) proposed_next.log refl
    (wrote_none drew_by_other (wrote_at promised) (Took 2 key_a one two) asked_other.log refl
    (wrote_none drew_by_other (wrote_at accepted) (Took 1 key_a one two) stopped.log refl (wrote_none drew_by_other (wrote_at promised) (Took 1 key_a one two) asked_to_accept.log refl refl)))

no_floor_over : list_any is_floor (marks_of all_over.log) ≡ false
no_floor_over = ap (list_any is_floor) (events_marks 3 nothing proposed_next.log (ask_accept 3).ask tell.Accepted) ∙ marks_next is_floor

past_none : IsPastAll small_cluster all_over.log 1 0 0 key_a
past_none = record {
  known = omega arith;
  is_in = inl refl;
  drawn = λ ballot key era stands own. absurd (none drew_by_other all_over.log none_by_other (nat_is {a = ballot.proposer} {b = 1} own) stands);
  floors = λ floor has. absurd (none is_floor (marks_of all_over.log) no_floor_over refl has.stands);
}

abbrev draws_against : ProtocolEvent small_cluster all_over
draws_against = Draws 1 0 0 key_a past_none

abbrev contended : GlobalState
contended = after small_cluster all_over draws_against

abbrev ask_against : Request
ask_against = ask_of 1 0 other_ballot (ask.Prepare key_a other_ballot)

may_ask_against : MayAskFor small_cluster contended.log ask_against key_a other_ballot
may_ask_against = record {
  era = 0;
  drawn = record { older = all_over.log; at = here };
  own = refl;
  member = refl;
  above = record { above = λ {floor} {state} s. absurd (none is_floor (marks_of contended.log) no_floor_over refl s) };
}

abbrev asks_against : ProtocolEvent small_cluster contended
asks_against = Asks ask_against (record { may = may_ask_against; made = tt; ended = tt; from = omega arith; to = omega arith })

abbrev asked_against : GlobalState
asked_against = after small_cluster contended asks_against

meets : Handles accepted ask_against (tell.Met two) accepted
meets = (omega arith, (ap seen_of (sym (accepted_kept one two five)), record { counters = omega arith; proposers = λ same. absurd (omega (arith, same)) }, refl))

abbrev is_met : ProtocolEvent small_cluster asked_against
is_met = Answers ask_against (reply_to ask_against (tell.Met two)) accepted (record { older = contended.log; at = here }) (answered ask_against (tell.Met two) refl meets)

against_has : {x : Happening} → Stands x all_over.log → Stands x (after small_cluster asked_against is_met).log
against_has stands = record { older = stands.older; at = past (past (past stands.at)) }

pub done : SomeRunIsDone
done = record {
  global = after small_cluster asked_against is_met;
  run = then asked_against (then contended (then all_over (then proposed_next (then begun_next (then ended (then counted (then asked_late (then accepted_by_other (then asked_other (then accepted_again (then stopped run_stopped first_accepts) asks_other) other_accepts) asks_late) counts) ends) begins_next) proposes_by_ride) answers_late) draws_against) asks_against) is_met;
  done = mark_stands (against_has (over_has (record { older = counted.log; at = past (past here) })));
  next = mark_stands (against_has (over_has (record { older = begun_next.log; at = here })));
}
