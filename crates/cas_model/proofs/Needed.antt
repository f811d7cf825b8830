-- Why the invariant says what it says. Each of the parts that carry the record is given up once in a small log, and the record of that
-- log is not legal. For each log it is shown which of its happenings break a rule: the one that gives the part up, and those that break
-- one only because of it, where whoever does them cannot know. Up to the one that gives the part up the log is lawful, and each
-- happening has its reason.
use Rattle.std.proofs.Common.{◌≡◌, ℕ, suc, zero, ◌≤◌, Bool, true, false, List, [], ◌∷◌, ◌++◌, reverse, Option, Some, None, refl, sym, ap, ◌∙◌, inl, inr, arith}
use Rattle.std.specs.Prelude.{◌&&◌, ◌==◌, ◌⊎◌, not, if◌then◌else◌}
use Rattle.cas_base.proofs.Bools.{and_left, and_right}
use Rattle.cas_ballot.specs.declared.ballot.Ballot.{Ballot}
use Rattle.cas_ballot.specs.Ballot.{zero_ballot, BallotAtMost, BallotLess}
use Rattle.cas_ballot.specs.Members.{members_where, has_member}
use Rattle.cas_cache.specs.declared.ready.Ready.{Ready}
use Rattle.cas_change.specs.declared.program.Act.TheVariants.{Keep}
use Rattle.cas_change.specs.declared.state.State.TheVariants.{Empty}
use Rattle.cas_change.specs.declared.outcome.Took.TheVariants.{Clause as ByClause}
use Rattle.cas_slot.specs.declared.message.Ask.TheVariants as ask
use Rattle.cas_slot.specs.declared.message.Request.{Request}
use Rattle.cas_slot.specs.declared.message.Tell.TheVariants as tell
use Rattle.cas_slot.specs.declared.slot.Accepted.{Accepted}
use Rattle.cas_slot.specs.Contents.{Contents, kept_at}
use Rattle.cas_slot.specs.Slot.{accepted_of, accepted_ballot}
use Rattle.cas_slot.specs.Table.{Handles}
use Rattle.cas_vault.specs.declared.vault.Vault.{Vault}
use Rattle.cas_vault.specs.Vault.{counter_of}
use Rattle.cas_record.specs.declared.answer.Answer.TheVariants as answer
use Rattle.cas_record.specs.declared.answer.Cause.TheVariants as cause
use Rattle.cas_record.specs.declared.entry.Entry.{Entry}
use Rattle.cas_record.specs.declared.mark.Mark.{Mark}
use Rattle.cas_record.specs.declared.mark.Mark.TheVariants.{Proposed, Voted, Acked, Floor, EraEntered, Ended}
use Rattle.cas_record.specs.declared.mark.Proposal.{Proposal}
use Rattle.cas_record.specs.Logs.Happening.{Happening, Marked, Asked, Promised, Took, Drew, Entered, marks_of}
use Rattle.cas_record.specs.Places.{Stands, here, past, whole, later}
use Rattle.cas_record.specs.Histories.Chain.{is_key, settled_of}
use Rattle.cas_record.specs.Legal.{IsLegal}
use Rattle.cas_record.specs.Logs.Lawful.{Cluster, ClusterMeets, Lawful, May, SlotTold, in_take, slot_told, AllEntered, IsRescanned, IsCollected}
use Rattle.cas_record.specs.Logs.Listing.{no_slot_told}
use Rattle.cas_record.specs.Logs.Orderly.{Orderly, HasReason, IsAboveFloors}
use Rattle.cas_record.specs.Logs.Witness.{small_cluster, three, key_a, at, begins, ask_of, answers, promises, takes, round, raises, removes, enters}
use Rattle.cas_record.proofs.Histories.Chains.{nil_not}
use Rattle.cas_record.proofs.Logs.Checks.{each_place, each_at, check_next, lawful_checked}
use Rattle.cas_record.proofs.Logs.Listings.{stones_of_listing}
use Rattle.cas_record.proofs.Logs.Reasons.{check_reason, orderly_checked}
use Rattle.cas_record.proofs.Tests.{key_same, nat_same}
use Rattle.cas_protocol.specs.Acceptors.{LogTells}
use Rattle.cas_model.specs.Parties.{IsVaultTrue, IsHeldReady}
use Rattle.cas_protocol.specs.Protocol.{Made, IsLeaving}
use Rattle.cas_model.specs.View.{Meaning}
use Rattle.cas_model.proofs.Calls.Draws.{past_all}

-- ---- logs
-- the happenings of a log that do not pass the tests of what the rules allow and of what has a reason, in what had happened before
abbrev breaches : Cluster → List Happening → List Happening
breaches cluster [] = []
breaches cluster (happening ∷ older) =
    if check_next cluster older happening && check_reason cluster older happening then breaches cluster older else happening ∷ breaches cluster older

abbrev proposal : ℕ → ℕ → Ballot → Ballot → ℕ → List ℕ → Proposal
proposal caller call ballot read era by = record { caller = caller; call = call; key = key_a; ballot = ballot; read = read; era = era; prepared_by = by }

abbrev acked : Ballot → List ℕ → Happening
acked ballot by = Marked (Acked (record { key = key_a; ballot = ballot; era = 0; by = by }))

abbrev ended : ℕ → ℕ → Ballot → Happening
ended caller call ballot = Marked (Ended caller call 1 (answer.Done Empty (ByClause 0) ballot))

-- who began the first change of a history
abbrev first_caller : List Entry → ℕ
first_caller [] = 0
first_caller (entry ∷ entries) = entry.caller

-- a test that fails of what stands in the list does not pass of each
fails : {A : Type 0} (test : A → List A → Bool) (all : List A) {x : A} → each_place test all ≡ true → (s : Stands x all) → test x s.older ≡ false → ⊥
fails test all e s f = let both : true ≡ false = sym (each_at test e s.at) ∙ f in cc

abbrev no_floor : Mark → List Mark → Bool
no_floor (Floor key floor state) older = false
no_floor other older = true

-- ---- the vault is past each drawn ballot
-- The proposer stops and comes back with an old counter. It draws the ballot again, for its next call, and both calls are proposed at it.
abbrev drew : List Happening → List Happening
drew first = reverse (begins 1 1 Keep ∷ Drew (at 1 1) key_a 0 ∷ promises (1 ∷ 2 ∷ []) (at 1 1) None ++ first ++ begins 1 2 Keep ∷ [])

abbrev draws_again : List Happening → List Happening
draws_again older = reverse (promises (1 ∷ 2 ∷ []) (at 1 1) None) ++ Drew (at 1 1) key_a 0 ∷ older

abbrev drew_before : List Happening
drew_before = drew (Marked (Proposed (proposal 1 1 (at 1 1) zero_ballot 0 (1 ∷ 2 ∷ []))) ∷ Marked (Ended 1 1 1 (answer.Unsettled cause.Crashed)) ∷ [])

abbrev drew_again : List Happening
drew_again = draws_again drew_before

abbrev second : Happening
second = Marked (Proposed (proposal 1 2 (at 1 1) zero_ballot 0 (1 ∷ 2 ∷ [])))

not_past_lawful : Lawful small_cluster drew_before
unfolding members_where
not_past_lawful = lawful_checked small_cluster drew_before refl

not_past_orderly : Orderly small_cluster drew_before
not_past_orderly = orderly_checked small_cluster drew_before refl

drawn_first : Stands (Drew (at 1 1) key_a 0) drew_before
drawn_first = record { older = _; at = past (past (past (past (past (past (past (past (past here)))))))) }

-- the second draw has no reason, as the ballot is not fresh
not_past_draw : HasReason small_cluster drew_before (Drew (at 1 1) key_a 0) → ⊥
not_past_draw may = may.fresh key_a 0 drawn_first

-- and a vault that is past all that was drawn has a counter that is past it
not_past_vault : {S V : Type 0} (m : Meaning S V) (vault : Vault V) → counter_of vault ≡ 0 → IsVaultTrue m drew_before 1 0 vault → ⊥
not_past_vault m vault old is =
    let drawn = (past_all m small_cluster drew_before 1 0 key_a vault (omega arith) is).drawn in
    let low : 1 ≤ counter_of vault = drawn (at 1 1) key_a 0 drawn_first refl in
    absurd (omega (arith, old, low))

-- so the second proposal may not be made: its ballot is not fresh either, and the proposer has that from the draw alone
not_past_proposal : May small_cluster drew_again second → ⊥
not_past_proposal may = may.first.fresh (record { proposal = _; stands = record { older = _; at = past (past here) }; same_key = refl; same_ballot = refl })

not_past_breaches : breaches small_cluster (second ∷ drew_again) ≡ second ∷ Drew (at 1 1) key_a 0 ∷ []
unfolding members_where
not_past_breaches = refl

-- had the first call not been proposed, nothing but the draw would break a rule
not_past_alone : breaches small_cluster (second ∷ draws_again (drew (Marked (Ended 1 1 1 answer.Crashed) ∷ []))) ≡ Drew (at 1 1) key_a 0 ∷ []
unfolding members_where
not_past_alone = refl

-- two proposals of the key have one ballot
not_past : IsLegal (marks_of (second ∷ drew_again)) → ⊥
not_past legal = (legal.numbered.proposed here).fresh (record { proposal = _; stands = record { older = _; at = past (past here) }; same_key = refl; same_ballot = refl })

-- ---- a promise tells what the slot has accepted
-- The first change was taken by two acceptors, and acknowledged. One of them promises the next proposer's ballot and tells nothing; so
-- that proposer reads nothing, and its change is acknowledged too.
abbrev silent : Request
silent = ask_of 2 0 (at 2 2) (ask.Prepare key_a (at 2 2))

abbrev told_before : List Happening
told_before = reverse (
    begins 1 1 Keep ∷ Drew (at 1 1) key_a 0 ∷ promises (1 ∷ 2 ∷ []) (at 1 1) None
    ++ round 1 1 0 (at 1 1) zero_ballot None (1 ∷ 2 ∷ []) (1 ∷ 2 ∷ []) Empty
    ++ begins 2 1 Keep ∷ Drew (at 2 2) key_a 0 ∷ Asked silent ∷ [])

abbrev tells_nothing : Happening
tells_nothing = Promised 2 key_a (at 2 2) zero_ballot

abbrev told_nothing : List Happening
told_nothing =
    reverse (answers silent (tell.Promised None) ∷ promises (3 ∷ []) (at 2 2) None
    ++ round 2 1 0 (at 2 2) zero_ballot None (2 ∷ 3 ∷ []) (2 ∷ 3 ∷ []) Empty)
    ++ tells_nothing ∷ told_before

not_telling_lawful : Lawful small_cluster told_before
unfolding members_where
not_telling_lawful = lawful_checked small_cluster told_before refl

not_telling_orderly : Orderly small_cluster told_before
not_telling_orderly = orderly_checked small_cluster told_before refl

-- the promise may not be made: the acceptor took a ballot that it does not tell, and no floor is above that
not_telling_promise : May small_cluster told_before tells_nothing → ⊥
not_telling_promise may = elim (may.tells {taken = at 1 1} {ride = zero_ballot} (record { older = _; at = past (past (past (past (past (past (past here)))))) })) [
  | inl low ↦ let none : 1 ≤ 0 = low.counters in absurd (omega arith)
  | inr floored ↦ fails no_floor (marks_of told_before) refl floored.stands refl
]

-- nor is it what its slot has accepted
not_telling_slot : HasReason small_cluster told_before tells_nothing → ⊥
not_telling_slot may = let same : ◌≡◌ {A = ℕ} 0 1 = ap (λ (b : Ballot). b.counter) may.slot in absurd (omega arith)

-- and an acceptor that keeps what the log tells does not answer so
not_telling_answer : (kept new : Contents) → LogTells told_before 2 kept → Handles kept silent (tell.Promised None) new → ⊥
not_telling_answer kept new tells row =
    let same : ◌≡◌ {A = ℕ} 1 (accepted_ballot (accepted_of (kept_at kept key_a))).counter = ap (λ (slot : SlotTold). slot.accepted.counter) (tells.slots key_a) in
    let none : ◌≡◌ {A = ℕ} 0 (accepted_ballot (accepted_of (kept_at kept key_a))).counter = ap (λ (accepted : Option Accepted). (accepted_ballot accepted).counter) row.1.0 in
    absurd (omega (arith, same, none))

not_telling_breaches : breaches small_cluster told_nothing ≡ tells_nothing ∷ []
unfolding members_where
not_telling_breaches = refl

-- what was settled is lost
not_telling : IsLegal (marks_of told_nothing) → ⊥
not_telling legal =
    let prefix = legal.only_grows whole (later (later (later (later (later (later whole)))))) key_a in
    let same : ◌≡◌ {A = ℕ} 2 1 = ap first_caller prefix.joins in
    absurd (omega arith)

-- ---- what is asked is above the floors
-- A change is proposed and not yet taken. The next one is taken by two acceptors, it is made a floor, and the slots are removed. Then
-- the first proposer goes on and asks to accept the ballot that is now below the floor. Two acceptors take it. One had removed its
-- slot and the other had never been asked; it is acknowledged and answered Done, and does not stand.
abbrev collected : List Happening
collected = reverse (
    begins 0 1 Keep ∷ Drew (at 1 0) key_a 0 ∷ promises (1 ∷ 2 ∷ []) (at 1 0) None
    ++ Marked (Proposed (proposal 0 1 (at 1 0) zero_ballot 0 (1 ∷ 2 ∷ [])))
    ∷ begins 1 1 Keep ∷ Drew (at 1 1) key_a 0 ∷ promises (1 ∷ 2 ∷ []) (at 1 1) None
    ++ round 1 1 0 (at 1 1) zero_ballot None (1 ∷ 2 ∷ []) (1 ∷ 2 ∷ []) Empty
    ++ raises three (at 1 1) ++ Marked (Floor key_a (at 1 1) Empty) ∷ removes (1 ∷ 2 ∷ []) (at 1 1))

-- the request that comes late is of the age that the acceptors ask for
abbrev late : ℕ → Request
late acceptor = ask_of acceptor 1 (at 1 0) (ask.Accept key_a (at 1 0) 0 None Empty)

abbrev takes_late : ℕ → Happening
takes_late acceptor = Took acceptor key_a (at 1 0) zero_ballot

abbrev taken_late : ℕ → List Happening
taken_late acceptor = answers (late acceptor) tell.Accepted ∷ Marked (Voted acceptor key_a (at 1 0)) ∷ takes_late acceptor ∷ Asked (late acceptor) ∷ []

abbrev asked_below : List Happening
asked_below = acked (at 1 0) (1 ∷ 3 ∷ []) ∷ (taken_late 3 ++ taken_late 1 ++ collected)

below_floor_lawful : Lawful small_cluster collected
unfolding members_where
below_floor_lawful = lawful_checked small_cluster collected refl

below_floor_orderly : Orderly small_cluster collected
below_floor_orderly = orderly_checked small_cluster collected refl

-- the ballot of the round is not above the floors
below_floor_round : {marks : List Mark} → Stands (Floor key_a (at 1 1) Empty) marks → IsAboveFloors marks key_a (at 1 0) → ⊥
below_floor_round stands is =
    let less : BallotLess (at 1 1) (at 1 0) = is.above stands in
    let low : 2 ≤ 0 = less.proposers (omega arith) in
    absurd (omega arith)

-- so the request may not be made, to either acceptor
below_floor_request : HasReason small_cluster collected (Asked (late 1)) → ⊥
below_floor_request may = below_floor_round (record { older = _; at = here }) may.0.above

below_floor_again : HasReason small_cluster (taken_late 1 ++ collected) (Asked (late 3)) → ⊥
below_floor_again may = below_floor_round (record { older = _; at = past here }) may.0.above

-- nor may the acceptor take it, as it saw the floor; but its slot was removed, and it does not know
below_floor_take : May small_cluster (Asked (late 1) ∷ collected) (takes_late 1) → ⊥
below_floor_take may =
    let low : BallotAtMost (at 1 1) (at 1 0) = may.seen (at 1 1) (in_take zero_ballot (record { older = _; at = past (past (past (past (past (past (past (past (past (past (past (past (past (past (past (past (past (past (past (past (past (past (past (past (past here)))))))))))))))))))))))) })) in
    let none : 1 ≤ 0 = low.proposers (omega arith) in
    absurd (omega arith)

below_floor_slot : slot_told (Asked (late 1) ∷ collected) 1 key_a ≡ no_slot_told
below_floor_slot = refl

below_floor_breaches : breaches small_cluster (ended 0 1 (at 1 0) ∷ asked_below) ≡ Asked (late 3) ∷ takes_late 1 ∷ Asked (late 1) ∷ []
unfolding members_where
below_floor_breaches = refl

abbrev for_key_a : Mark → List Mark → Bool
for_key_a (Proposed p) older = is_key p.key key_a
for_key_a other older = true

-- only the change whose ballot became the floor is settled
settled_one : (before : List Entry) (entry : Entry) (after : List Entry) → settled_of key_a (marks_of asked_below) ≡ before ++ entry ∷ after → entry.caller ≡ 1
settled_one [] entry after e = cc
settled_one (x ∷ before) entry after e =
    let rest : [] ≡ before ++ entry ∷ after = cc in
    absurd (nil_not before entry after rest)

-- a change that was answered Done does not stand
below_floor : IsLegal (marks_of (ended 0 1 (at 1 0) ∷ asked_below)) → ⊥
below_floor legal =
    let stands = legal.done_stands here in
    let same : stands.proposal.key ≡ key_a = key_same (each_at for_key_a {all = marks_of asked_below} refl stands.proposed.at) in
    let place = ap (λ (key : List ℕ). settled_of key (marks_of asked_below)) (sym same) ∙ stands.place in
    let caller : ◌≡◌ {A = ℕ} 0 1 = settled_one _ _ _ place in
    absurd (omega arith)

-- ---- an image in the next era may enter it
-- A cluster that goes from acceptor 1 to acceptor 2: both are asked in era 1. Quorums of neighbouring eras meet, and those of eras 0 and 2
-- do not.
abbrev members_of : ℕ → List ℕ
members_of zero = 1 ∷ []
members_of (suc zero) = 1 ∷ 2 ∷ []
members_of (suc (suc era)) = 2 ∷ []

abbrev quorum_of : ℕ → List ℕ → Bool
quorum_of zero by = has_member by 1
quorum_of (suc zero) by = has_member by 1 && has_member by 2
quorum_of (suc (suc era)) by = has_member by 2

abbrev moving : Cluster
moving = record { last_proposer = 1; members = members_of; prepares = quorum_of; accepts = quorum_of }

moving_meets : ClusterMeets moving
moving_meets zero zero low high p a e f = record { acceptor = 1; left = e; right = f }
moving_meets zero (suc zero) low high p a e f = record { acceptor = 1; left = e; right = and_left (has_member a 1) (has_member a 2) f }
moving_meets zero (suc (suc n)) low high p a e f = absurd (omega arith)
moving_meets (suc zero) zero low high p a e f = record { acceptor = 1; left = and_left (has_member p 1) (has_member p 2) e; right = f }
moving_meets (suc zero) (suc zero) low high p a e f = record { acceptor = 1; left = and_left (has_member p 1) (has_member p 2) e; right = and_left (has_member a 1) (has_member a 2) f }
moving_meets (suc zero) (suc (suc n)) low high p a e f = record { acceptor = 2; left = and_right (has_member p 1) (has_member p 2) e; right = f }
moving_meets (suc (suc m)) zero low high p a e f = absurd (omega arith)
moving_meets (suc (suc m)) (suc zero) low high p a e f = record { acceptor = 2; left = e; right = and_right (has_member a 1) (has_member a 2) f }
moving_meets (suc (suc m)) (suc (suc n)) low high p a e f = record { acceptor = 2; left = e; right = f }

-- a change of proposer 1 in era 0, and one of proposer 0 in era 2 that reads nothing
abbrev changes_first : List Happening
changes_first = begins 1 1 Keep ∷ Drew (at 1 1) key_a 0 ∷ promises (1 ∷ []) (at 1 1) None ++ round 1 1 0 (at 1 1) zero_ballot None (1 ∷ []) (1 ∷ []) Empty

abbrev changes_last : List Happening
changes_last = begins 0 1 Keep ∷ Drew (at 2 0) key_a 2 ∷ promises (2 ∷ []) (at 2 0) None ++ round 0 1 2 (at 2 0) zero_ballot None (2 ∷ []) (2 ∷ []) Empty

-- All are in era 1, and the key that was changed in era 0 is not proposed anew there. A proposer enters era 2 all the same.
abbrev not_rescanned : List Happening
not_rescanned = reverse (changes_first ++ enters 1 (0 ∷ 1 ∷ []))

abbrev entered : List Happening
entered = reverse (Marked (EraEntered 0 2) ∷ changes_last) ++ Entered 0 2 ∷ not_rescanned

entered_early_lawful : Lawful moving not_rescanned
entered_early_lawful = lawful_checked moving not_rescanned refl

entered_early_orderly : Orderly moving not_rescanned
entered_early_orderly = orderly_checked moving not_rescanned refl

abbrev in_first_era : Mark → List Mark → Bool
in_first_era (Proposed p) older = p.era == 0
in_first_era other older = true

-- the key was proposed in era 0, and neither proposed in era 1 nor made a floor
no_stone : (left : ℕ) → 2 ≡ suc left → IsRescanned moving left key_a (marks_of not_rescanned) ⊎ IsCollected left key_a (marks_of not_rescanned) → ⊥
no_stone left next (inl rescanned) =
    let era : rescanned.proposal.era ≡ 0 = nat_same (each_at in_first_era {all = marks_of not_rescanned} refl rescanned.proposed) in
    absurd (omega (arith, era, next, rescanned.same_era))
no_stone left next (inr floored) = fails no_floor (marks_of not_rescanned) refl floored.stands refl

abbrev changed : Proposal
changed = proposal 1 1 (at 1 1) zero_ballot 0 (1 ∷ [])

changed_stands : Stands (Proposed changed) (marks_of not_rescanned)
changed_stands = record { older = _; at = past (past (past (past (past here)))) }

-- so the proposer may not enter
entered_early_entry : May moving not_rescanned (Entered 0 2) → ⊥
entered_early_entry may =
    let next : 2 ≡ suc may.left = may.next in
    no_stone may.left next (may.may_leave.stones {p = changed} changed_stands (omega (arith, next)))

-- and no listing of era 1 lets it leave
entered_early_leaving : IsLeaving moving not_rescanned 0 1 → ⊥
entered_early_leaving is = elim is.listed [
  | inl first ↦ absurd (omega (arith, first))
  | inr listed ↦ no_stone 1 refl (stones_of_listing moving moving_meets entered_early_lawful listed.all_in listed.quorum listed.shown {p = changed} changed_stands (omega arith))
]

entered_early_breaches : breaches moving entered ≡ Entered 0 2 ∷ []
entered_early_breaches = refl

-- what was settled is lost
entered_early : IsLegal (marks_of entered) → ⊥
entered_early legal =
    let prefix = legal.only_grows whole (later (later (later (later (later (later (later (later whole)))))))) key_a in
    let same : ◌≡◌ {A = ℕ} 0 1 = ap first_caller prefix.joins in
    absurd (omega arith)

-- One proposer goes through era 1 while the other is still in era 0, and changes what the first does not see.
abbrev not_left : List Happening
not_left = reverse (enters 1 (0 ∷ []))

abbrev entered_alone : List Happening
entered_alone = reverse (Marked (EraEntered 0 2) ∷ changes_first ++ changes_last) ++ Entered 0 2 ∷ not_left

left_behind_lawful : Lawful moving not_left
left_behind_lawful = lawful_checked moving not_left refl

left_behind_orderly : Orderly moving not_left
left_behind_orderly = orderly_checked moving not_left refl

abbrev not_entered_by : ℕ → Mark → List Mark → Bool
not_entered_by proposer (EraEntered p era) older = not (p == proposer)
not_entered_by proposer other older = true

-- the other one is not marked as in era 1
not_all_in : (left : ℕ) → AllEntered moving left (marks_of not_left) → ⊥
not_all_in left all = fails (not_entered_by 1) (marks_of not_left) refl (all 1 (omega arith)) refl

-- so the proposer may not enter
left_behind_entry : May moving not_left (Entered 0 2) → ⊥
left_behind_entry may = let next : 2 ≡ suc may.left = may.next in not_all_in may.left (may.may_leave.all_in (omega (arith, next)))

-- and no listing of era 1 lets it leave
left_behind_leaving : IsLeaving moving not_left 0 1 → ⊥
left_behind_leaving is = elim is.listed [
  | inl first ↦ absurd (omega (arith, first))
  | inr listed ↦ not_all_in 1 listed.all_in
]

left_behind_breaches : breaches moving entered_alone ≡ Entered 0 2 ∷ []
left_behind_breaches = refl

-- what was settled is lost
left_behind : IsLegal (marks_of entered_alone) → ⊥
left_behind legal =
    let prefix = legal.only_grows whole (later (later (later (later (later whole))))) key_a in
    let same : ◌≡◌ {A = ℕ} 0 1 = ap first_caller prefix.joins in
    absurd (omega arith)

-- ---- a cached promise was granted by a quorum
-- The promise of ballot 2.1 rides on accepts that one acceptor takes. Another change is acknowledged by the other two. Then the first
-- proposer proposes its next call by the promise that the one granted.
abbrev two_taken : List Happening
two_taken = reverse (
    begins 1 1 Keep ∷ Drew (at 1 1) key_a 0 ∷ promises (1 ∷ 2 ∷ []) (at 1 1) None
    ++ Drew (at 2 1) key_a 0 ∷ Marked (Proposed (proposal 1 1 (at 1 1) zero_ballot 0 (1 ∷ 2 ∷ [])))
    ∷ takes (1 ∷ []) (at 1 1) 0 (Some (at 2 1)) Empty
    ++ begins 2 1 Keep ∷ Drew (at 1 2) key_a 0 ∷ promises (2 ∷ 3 ∷ []) (at 1 2) None
    ++ round 2 1 0 (at 1 2) zero_ballot None (2 ∷ 3 ∷ []) (2 ∷ 3 ∷ []) Empty
    ++ Marked (Ended 1 1 1 (answer.Unsettled (cause.Met (at 1 2)))) ∷ begins 1 2 Keep ∷ [])

abbrev by_one : Happening
by_one = Marked (Proposed (proposal 1 2 (at 2 1) (at 1 1) 0 (1 ∷ [])))

abbrev proposed_by_one : List Happening
proposed_by_one = reverse (takes (1 ∷ 2 ∷ []) (at 2 1) 0 None Empty ++ acked (at 2 1) (1 ∷ 2 ∷ []) ∷ ended 1 2 (at 2 1) ∷ []) ++ by_one ∷ two_taken

granted_by_few_lawful : Lawful small_cluster two_taken
unfolding members_where
granted_by_few_lawful = lawful_checked small_cluster two_taken refl

granted_by_few_orderly : Orderly small_cluster two_taken
granted_by_few_orderly = orderly_checked small_cluster two_taken refl

-- the proposal may not be made: one acceptor of three is no quorum
granted_by_few_proposal : May small_cluster two_taken by_one → ⊥
unfolding members_where
granted_by_few_proposal may = let quorum : false ≡ true = may.quorum in cc

-- and no desk holds a promise that the one acceptor granted
granted_by_few_held : (all : List Made) (ready : Ready) → ready.by ≡ 1 ∷ [] → IsHeldReady small_cluster two_taken all 1 0 key_a ready → ⊥
unfolding members_where
granted_by_few_held all ready by held = let quorum : false ≡ true = ap (small_cluster.prepares 0) (sym by) ∙ held.quorum in cc

granted_by_few_breaches : breaches small_cluster proposed_by_one ≡ by_one ∷ []
unfolding members_where
granted_by_few_breaches = refl

-- what was settled is lost
granted_by_few : IsLegal (marks_of proposed_by_one) → ⊥
granted_by_few legal =
    let prefix = legal.only_grows whole (later (later (later (later (later (later whole)))))) key_a in
    let same : ◌≡◌ {A = ℕ} 1 2 = ap first_caller prefix.joins in
    absurd (omega arith)
