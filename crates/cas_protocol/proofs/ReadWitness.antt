-- A run with a read: two acceptors take a ballot, and each stops within its write and answers nobody. A read by probes finds what they
-- took, their votes are marked, and it is acknowledged.
use Rattle.std.proofs.Common.{◌≡◌, ◌<◌, ℕ, Bool, true, false, List, [], ◌∷◌, Some, refl, sym, ap, subst, ◌∙◌, inl, inr, arith}
use Rattle.std.specs.Prelude.{◌==◌, not, nat_le}
use Rattle.std.specs.List.{list_any}
use Rattle.cas_base.proofs.Bools.{not_of_false, or_cases, true_or_false}
use Rattle.cas_ballot.specs.declared.ballot.Ballot.{Ballot}
use Rattle.cas_ballot.specs.Members.{has_member}
use Rattle.cas_change.specs.declared.state.State.{State}
use Rattle.cas_round.specs.Replies.{is_acceptance}
use Rattle.cas_slot.specs.declared.message.Ask.TheVariants as ask
use Rattle.cas_slot.specs.declared.message.Request.{Request}
use Rattle.cas_slot.specs.declared.message.Tell.{Tell}
use Rattle.cas_slot.specs.declared.message.Tell.TheVariants as tell
use Rattle.cas_slot.specs.declared.slot.Accepted.{Accepted}
use Rattle.cas_slot.specs.Contents.{Contents, kept_at}
use Rattle.cas_slot.specs.Slot.{accepted_of, promise_of}
use Rattle.cas_slot.specs.Table.{Handles}
use Rattle.cas_record.specs.declared.mark.Mark.{Mark}
use Rattle.cas_record.specs.declared.mark.Mark.TheVariants.{Proposed, Voted, Acked, Floor}
use Rattle.cas_record.specs.Histories.Chain.{settled_of}
use Rattle.cas_record.specs.Logs.Happening.{Happening, Marked, Asked, Took, Entered, Drew, Replied, marks_of}
use Rattle.cas_record.specs.Logs.Orderly.{MayAskFor}
use Rattle.cas_record.specs.Places.{Stands, here, past}
use Rattle.cas_record.specs.Logs.Witness.{small_cluster, members_in, key_a, at, ask_of}
use Rattle.cas_record.proofs.PlaceLemmas.{stands_later}
use Rattle.cas_record.proofs.Logs.Checks.{le_tells}
use Rattle.cas_record.proofs.Logs.Lemmas.{mark_stands}
use Rattle.cas_record.proofs.Logs.Quorums.{small_meet}
use Rattle.cas_record.proofs.Tests.{neither, nat_same}
use Rattle.cas_protocol.specs.Acceptors.{IsAcceptedState, events_of}
use Rattle.cas_protocol.specs.Desks.{IsPastAll}
use Rattle.cas_protocol.specs.Proposers.{WasProbed, by_probe, HasVotesSeen}
use Rattle.cas_protocol.specs.Protocol.{GlobalState, HasHistory, ProtocolEvent, Draws, Asks, Answers, StopsWithin, SeesVote, CountsSeen, after, Run, then}
use Rattle.cas_protocol.specs.Reads.{IsQuorumRead, HasToldBallot, SomeReadIsCounted}
use Rattle.cas_protocol.proofs.Answered.{events_marks}
use Rattle.cas_protocol.proofs.Events.{has_history}
use Rattle.cas_protocol.proofs.Handling.{accepted_kept, reply_to, answered}
use Rattle.cas_protocol.proofs.Witness.{none, is_floor, one, two, five, promised, accepted, ask_accept, takes, begun, asks_for, drawn_stands, promised_second, proposal, proposed, asked_to_accept, accepts, made_five, stopped, stopped_has, run_stopped, two_are_enough, two_suffice, acknowledgment, wrote_none, wrote_at}

-- ---- the second acceptor stops within its write as the first did
marks_stopped : marks_of stopped.log ≡ marks_of asked_to_accept.log
marks_stopped = events_marks 1 promised asked_to_accept.log (ask_accept 1).ask tell.Accepted

drawn_still : Stands (Drew one key_a 0) stopped.log
drawn_still = stopped_has (record { older = begun.log; at = past (past (past drawn_stands.at)) })

proposed_still : Stands (Marked (Proposed proposal)) stopped.log
proposed_still = stopped_has (record { older = promised_second.log; at = past (past here) })

ride_still : Stands (Drew two key_a 0) stopped.log
ride_still = stopped_has (record { older = proposed.log; at = past here })

abbrev asks_second : ProtocolEvent small_cluster stopped
asks_second = Asks (ask_accept 2) (record {
  may = accepts stopped.log (ask_accept 2) refl (asks_for stopped.log (ask_accept 2) refl refl drawn_still (ap (list_any is_floor) marks_stopped)) proposed_still ride_still;
  made = made_five;
  ended = tt;
  from = omega arith;
  to = omega arith;
})

abbrev asked_second : GlobalState
asked_second = after small_cluster stopped asks_second

abbrev second_stops : ProtocolEvent small_cluster asked_second
second_stops = StopsWithin (ask_accept 2) tell.Accepted accepted (record { older = stopped.log; at = here }) (takes 2)

abbrev silent : GlobalState
silent = after small_cluster asked_second second_stops

abbrev wrote_second : List Happening
wrote_second = events_of 2 promised (ask_accept 2).ask tell.Accepted

silent_has : {x : Happening} → Stands x stopped.log → Stands x silent.log
silent_has stands = stands_later wrote_second {all = asked_second.log} (record { older = stands.older; at = past stands.at })

marks_silent : marks_of silent.log ≡ marks_of asked_to_accept.log
marks_silent = events_marks 2 promised asked_second.log (ask_accept 2).ask tell.Accepted ∙ marks_stopped

-- what passes a test that none passed before, and that neither the request nor what was taken does, stands nowhere
silent_none : (test : Happening → Bool) → test (Took 1 key_a one two) ≡ false → test (Took 2 key_a one two) ≡ false → test (Asked (ask_accept 2)) ≡ false → list_any test asked_to_accept.log ≡ false
    → list_any test silent.log ≡ false
silent_none test first second asked older = wrote_none test (wrote_at promised) (Took 2 key_a one two) asked_second.log second
    (neither (test (Asked (ask_accept 2))) (list_any test stopped.log) asked (wrote_none test (wrote_at promised) (Took 1 key_a one two) asked_to_accept.log first older))

-- ---- the read draws a tag
abbrev tag : Ballot
tag = at 3 0

abbrev drew_higher : Happening → Bool
drew_higher (Drew ballot key era) = not (nat_le ballot.counter 2)
drew_higher other = false

abbrev is_entry : Happening → Bool
is_entry (Entered proposer era) = true
is_entry other = false

none_floored : {key : List ℕ} {floor : Ballot} {state : State} → Stands (Floor key floor state) (marks_of silent.log) → ⊥
none_floored s = none is_floor (marks_of silent.log) (ap (list_any is_floor) marks_silent) refl s

past_two : IsPastAll small_cluster silent.log 0 0 2 []
past_two = record {
  known = omega arith;
  is_in = inl refl;
  drawn = λ ballot key era stands own. elim (true_or_false (nat_le ballot.counter 2)) [
    | inl low ↦ le_tells low
    | inr high ↦ absurd (none drew_higher silent.log (silent_none drew_higher refl refl refl refl) (not_of_false (nat_le ballot.counter 2) high) stands)
  ];
  floors = λ floor has. absurd (none_floored has.stands);
}

abbrev draws_tag : ProtocolEvent small_cluster silent
draws_tag = Draws 0 0 2 [] past_two

abbrev reading : GlobalState
reading = after small_cluster silent draws_tag

-- ---- both are probed
abbrev ask_probe : ℕ → Request
ask_probe acceptor = ask_of acceptor 0 tag (ask.Probe tag key_a)

abbrev took : Accepted
took = record { ballot = one; era = 0; state = five }

abbrev told : Tell
told = tell.Probed two (Some took)

may_probe : (log : List Happening) (acceptor : ℕ) → has_member (members_in 0) acceptor ≡ true → Stands (Drew tag [] 0) log → list_any is_floor (marks_of log) ≡ false → MayAskFor small_cluster log (ask_probe acceptor) [] tag
may_probe log acceptor member stands no_floor = record {
  era = 0;
  drawn = stands;
  own = refl;
  member = member;
  above = record { above = λ {floor} {state} floored. absurd (none is_floor (marks_of log) no_floor refl floored) };
}

shows : (acceptor : ℕ) → Handles accepted (ask_probe acceptor) told accepted
shows acceptor = (omega arith, (ap promise_of (sym (accepted_kept one two five)), ap accepted_of (sym (accepted_kept one two five)), refl))

abbrev asks_one : ProtocolEvent small_cluster reading
asks_one = Asks (ask_probe 1) (record { may = may_probe reading.log 1 refl (record { older = silent.log; at = here }) (ap (list_any is_floor) marks_silent); made = tt; ended = tt; from = omega arith; to = omega arith })

abbrev asked_one : GlobalState
asked_one = after small_cluster reading asks_one

abbrev one_tells : ProtocolEvent small_cluster asked_one
one_tells = Answers (ask_probe 1) (reply_to (ask_probe 1) told) accepted (record { older = reading.log; at = here }) (answered (ask_probe 1) told refl (shows 1))

abbrev one_told : GlobalState
one_told = after small_cluster asked_one one_tells

abbrev asks_two : ProtocolEvent small_cluster one_told
asks_two = Asks (ask_probe 2) (record { may = may_probe one_told.log 2 refl (record { older = silent.log; at = past (past here) }) (ap (list_any is_floor) marks_silent); made = tt; ended = tt; from = omega arith; to = omega arith })

abbrev asked_two : GlobalState
asked_two = after small_cluster one_told asks_two

abbrev two_tells : ProtocolEvent small_cluster asked_two
two_tells = Answers (ask_probe 2) (reply_to (ask_probe 2) told) accepted (record { older = one_told.log; at = here }) (answered (ask_probe 2) told refl (shows 2))

abbrev both_told : GlobalState
both_told = after small_cluster asked_two two_tells

run_told : Run small_cluster both_told
run_told = then asked_two (then one_told (then asked_one (then reading (then silent (then asked_second (then stopped run_stopped asks_second) second_stops) draws_tag) asks_one) one_tells) asks_two) two_tells

-- ---- what was told
was_probed : (global : GlobalState) (acceptor : ℕ) → HasHistory small_cluster global → acceptor < 64 → global.kept acceptor ≡ accepted → Stands (Replied (ask_probe acceptor) (reply_to (ask_probe acceptor) told)) global.log
    → WasProbed global.log tag key_a acceptor (Some took)
was_probed global acceptor history small same stands = record {
  reply = reply_to (ask_probe acceptor) told;
  told = record {
    from = small;
    request = ask_probe acceptor;
    replied = stands;
    state = subst (IsAcceptedState (marks_of global.log) key_a) (ap accepted_of (accepted_kept one two five))
        (subst (λ (c : Contents). IsAcceptedState (marks_of global.log) key_a (accepted_of (kept_at c key_a))) same ((history.tells acceptor).states key_a));
  };
  from = refl;
  asked = refl;
  promise = two;
  tells = refl;
}

-- ---- their votes are seen, and counted
abbrev sees_one : ProtocolEvent small_cluster both_told
sees_one = SeesVote 1 key_a one (by_probe tag took (was_probed both_told 1 (has_history small_cluster small_meet both_told run_told) (omega arith) refl (record { older = _; at = past (past here) })) refl)

abbrev seen_one : GlobalState
seen_one = after small_cluster both_told sees_one

run_seen : Run small_cluster seen_one
run_seen = then both_told run_told sees_one

abbrev sees_two : ProtocolEvent small_cluster seen_one
sees_two = SeesVote 2 key_a one (by_probe tag took (was_probed seen_one 2 (has_history small_cluster small_meet seen_one run_seen) (omega arith) refl (record { older = _; at = past here })) refl)

abbrev seen_both : GlobalState
seen_both = after small_cluster seen_one sees_two

run_both : Run small_cluster seen_both
run_both = then seen_one run_seen sees_two

-- each of the two is the first or the second
of_two : (P : ℕ → Type 0) → P 1 → P 2 → (acceptor : ℕ) → has_member (1 ∷ 2 ∷ []) acceptor ≡ true → P acceptor
of_two P first second acceptor member = elim (or_cases (1 == acceptor) (has_member (2 ∷ []) acceptor) member) [
  | inl is ↦ subst P (nat_same {a = 1} {b = acceptor} is) first
  | inr other ↦ elim (or_cases (2 == acceptor) (has_member [] acceptor) other) [
    | inl is ↦ subst P (nat_same {a = 2} {b = acceptor} is) second
    | inr nobody ↦ absurd cc
  ]
]

both_have : {x : Happening} → Stands x stopped.log → Stands x seen_both.log
both_have stands = let deeper = silent_has stands in record { older = deeper.older; at = past (past (past (past (past (past (past deeper.at)))))) }

votes_seen : HasVotesSeen small_cluster seen_both.log acknowledgment
votes_seen = record {
  proposed = record { drawn = both_have drawn_still; proposal = proposal; proposed = mark_stands (both_have proposed_still); same_key = refl; same_ballot = refl; same_era = refl };
  votes = of_two (λ (acceptor : ℕ). Stands (Voted acceptor key_a one) (marks_of seen_both.log)) (record { older = _; at = past here }) (record { older = _; at = here });
  quorum = two_suffice;
}

abbrev counts_seen : ProtocolEvent small_cluster seen_both
counts_seen = CountsSeen acknowledgment votes_seen

abbrev counted : GlobalState
counted = after small_cluster seen_both counts_seen

run_counted : Run small_cluster counted
run_counted = then seen_both run_both counts_seen

-- ---- the whole
tells_ballot : (acceptor : ℕ) → acceptor < 64 → counted.kept acceptor ≡ accepted → Stands (Replied (ask_probe acceptor) (reply_to (ask_probe acceptor) told)) counted.log → HasToldBallot counted.log tag key_a one acceptor
tells_ballot acceptor small same stands =
    record { accepted = Some took; probed = was_probed counted acceptor (has_history small_cluster small_meet counted run_counted) small same stands; same_ballot = refl }

read : IsQuorumRead small_cluster silent.log counted.log tag key_a one (1 ∷ 2 ∷ [])
read = record {
  era = 0;
  drawn = past (past (past (past (past (past (past here))))));
  not_beyond = λ s. absurd (none is_entry silent.log (silent_none is_entry refl refl refl refl) refl s);
  quorum = two_are_enough;
  told = of_two (HasToldBallot counted.log tag key_a one) (tells_ballot 1 (omega arith) refl (record { older = _; at = past (past (past (past (past here)))) })) (tells_ballot 2 (omega arith) refl (record { older = _; at = past (past (past here)) }));
}

abbrev tells_accepted : Happening → Bool
tells_accepted (Replied request reply) = is_acceptance reply.tell
tells_accepted other = false

pub counted_read : SomeReadIsCounted
counted_read = record {
  before = silent;
  global = counted;
  run = run_counted;
  silent = λ request reply stands is. none tells_accepted counted.log (silent_none tells_accepted refl refl refl refl) (ap is_acceptance is) stands;
  none_settled = ap (settled_of key_a) marks_silent;
  read = read;
  settled = ap (λ (marks : List Mark). settled_of key_a (Acked acknowledgment ∷ Voted 2 key_a one ∷ Voted 1 key_a one ∷ marks)) marks_silent;
}
