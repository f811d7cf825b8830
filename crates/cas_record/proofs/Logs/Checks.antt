-- A checker of logs: where its tests pass, the log is lawful. It is for witnesses: logs that are checked by computation.
use Rattle.std.proofs.Common.{◌≡◌, ℕ, suc, zero, ◌≤◌, Bool, true, false, not, List, [], ◌∷◌, arith, refl, sym, ap, ◌∙◌, subst, rules}
use Rattle.std.specs.Prelude.{◌⊎◌, ◌&&◌, ◌||◌, ◌==◌, nat_le, nat_lt, Decides}
use Rattle.std.specs.List.{list_all}
use Rattle.std.specs.Ordering.{is_lt}
use Rattle.std.proofs.lemmas.Bool.Decides.{leb_tells}
use mathlib.Core.Logic.{inl, inr}
use Rattle.cas_ballot.specs.declared.ballot.Ballot.{Ballot}
use Rattle.cas_ballot.specs.Ballot.{ballot_cmp, zero_ballot, BallotAtMost, BallotLess}
use Rattle.cas_ballot.specs.Members.{has_member}
use Rattle.cas_ballot.proofs.BallotLemmas.{at_most_or_less}
use Rattle.cas_change.specs.declared.state.State.{State}
use Rattle.cas_change.specs.declared.state.State.TheVariants.{Empty, Held}
use Rattle.cas_change.specs.declared.outcome.Outcome.{Outcome}
use Rattle.cas_change.specs.declared.outcome.Took.{Took as Who}
use Rattle.cas_change.specs.Outcome.{outcome_of}
use Rattle.cas_change.specs.contracts.outcome.OutcomePartialEq.TheImpl as outcomes
use Rattle.cas_record.specs.declared.answer.Answer.{Answer}
use Rattle.cas_record.specs.declared.answer.Answer.TheVariants as answer
use Rattle.cas_record.specs.declared.mark.Mark.{Mark}
use Rattle.cas_record.specs.declared.mark.Mark.TheVariants.{Begun, Proposed, Voted, Acked, Floor, EraEntered, Ended, Harmed, Told}
use Rattle.cas_record.specs.declared.mark.Proposal.{Proposal}
use Rattle.cas_record.specs.declared.mark.Acknowledgment.{Acknowledgment}
use Rattle.cas_record.specs.Places.{At, Stands, here, past}
use Rattle.cas_record.specs.Histories.Chain.{is_key, is_ballot, is_call, has_proposal, link_of, entry_of, chain_of}
use Rattle.cas_record.specs.Histories.Replay.{replay_from, opening_state}
use Rattle.cas_record.specs.Legal.{HasFloor, calls_of, IsBegun, IsProposed, IsEnded, IsFirstProposal, tells_refused, tells_unsettled, harms_due, harms_of, HasVotes, IsAcked, IsOpeningFloor, IsFloor}
use Rattle.cas_record.specs.Logs.Happening.{Happening, Marked, Promised, Took, Dropped, Entered, marks_of}
use Rattle.cas_record.specs.Logs.Lawful.{Cluster, IsMade, in_promise, in_take, in_ride, HasSeenAtMost, IsFloored, MayPromise, MayTake, slot_told, is_slot, MayDrop, AreFirst, HasOpening, IsIn, AllEntered, IsRescanned, IsCollected, MayLeaveEra, MayEnter, Granted, by_promise, by_ride, MayPropose, MayVote, MayAck, MayBeDone, MayAnswer, MayEnd, MayMarkEra, MayMark, May, Lawful}
use Rattle.cas_record.proofs.PlaceLemmas.{stands_at}
use Rattle.cas_base.proofs.Bools.{and_left, and_right, or_cases, or_left, or_right, both_true, not_tells, not_both}
use Rattle.cas_record.proofs.Tests.{key_same, key_is, key_refl, ballot_same, ballot_is, less_tells, less_is, nat_same, nat_is, call_same, call_is, slot_same}
use Rattle.cas_record.proofs.Histories.Chains.{has_proposal_tells, has_proposal_is}

-- ---- tests of what stands in a list
-- the test passes of each, with what stands behind it; and of some
abbrev pub each_place : {A : Type 0} → (A → List A → Bool) → List A → Bool
each_place test [] = true
each_place test (x ∷ older) = test x older && each_place test older

abbrev pub some_place : {A : Type 0} → (A → List A → Bool) → List A → Bool
some_place test [] = false
some_place test (x ∷ older) = test x older || some_place test older

pub record FoundPassing {A : Type 0} (test : A → List A → Bool) (all : List A) : Type 0 where
  pub x : A
  pub older : List A
  pub at : At x older all
  pub passes : test x older ≡ true

pub each_at : {A : Type 0} (test : A → List A → Bool) {x : A} {older all : List A} → each_place test all ≡ true → At x older all → test x older ≡ true
each_at test {x} {older} e here = and_left (test x older) (each_place test older) e
each_at test e (past {y = y} {rest = rest} at) = each_at test (and_right (test y rest) (each_place test rest) e) at

found_more : {A : Type 0} (test : A → List A → Bool) {y : A} {rest : List A} → FoundPassing test rest → FoundPassing test (y ∷ rest)
found_more test f = record { x = f.x; older = f.older; at = past f.at; passes = f.passes }

pub found : {A : Type 0} (test : A → List A → Bool) (all : List A) → some_place test all ≡ true → FoundPassing test all
found test [] e = absurd cc
found test (x ∷ older) e = elim (or_cases (test x older) (some_place test older) e) [
  | inl first ↦ record { x = x; older = older; at = here; passes = first }
  | inr rest ↦ found_more test (found test older rest)
]

pub some_is : {A : Type 0} (test : A → List A → Bool) {x : A} {older all : List A} → At x older all → test x older ≡ true → some_place test all ≡ true
some_is test {x} {older} here e = or_left (test x older) (some_place test older) e
some_is test (past {y = y} {rest = rest} at) e = or_right (test y rest) (some_place test rest) (some_is test at e)

-- where the first test passes, so does the second
abbrev pub implies : Bool → Bool → Bool
implies a b = not a || b

pub use_implies : (a b : Bool) → implies a b ≡ true → a ≡ true → b ≡ true
use_implies true b e p = e
use_implies false b e p = absurd cc

-- ---- ballots and numbers
abbrev pub at_most : Ballot → Ballot → Bool
at_most a b = not (is_lt (ballot_cmp b a))

pub at_most_tells : {a b : Ballot} → at_most a b ≡ true → BallotAtMost a b
at_most_tells {a} {b} e = elim (at_most_or_less a b) [
  | inl low ↦ low
  | inr high ↦ absurd (not_both (is_lt (ballot_cmp b a)) (less_is high) (not_tells (is_lt (ballot_cmp b a)) e))
]

abbrev pub less : Ballot → Ballot → Bool
less a b = is_lt (ballot_cmp a b)

pub less_of : {a b : Ballot} → less a b ≡ true → BallotLess a b
less_of e = less_tells e

pub le_tells : {a b : ℕ} → nat_le a b ≡ true → a ≤ b
le_tells {a} {b} e = elim (leb_tells a b) [ inl low ↦ low.1 | inr high ↦ absurd (not_both (nat_le a b) e high.0) ]

pub le_is : {a b : ℕ} → a ≤ b → nat_le a b ≡ true
le_is {a} {b} h = elim (leb_tells a b) [ inl low ↦ low.0 | inr high ↦ absurd (omega (arith, high.1)) ]

-- ---- acceptors
slot_refl : (acceptor : ℕ) (key : List ℕ) → is_slot acceptor key acceptor key ≡ true
slot_refl acceptor key = ap (λ b. b && is_key key key) (nat_is {a = acceptor} refl) ∙ key_refl key

-- what the acceptor saw of the key by this happening is at most the ballot
abbrev pub seen_low : ℕ → List ℕ → Ballot → Happening → List Happening → Bool
seen_low acceptor key ballot (Promised a k b told) older = implies (is_slot acceptor key a k) (at_most b ballot)
seen_low acceptor key ballot (Took a k b ride) older = implies (is_slot acceptor key a k) (at_most b ballot && at_most ride ballot)
seen_low acceptor key ballot other older = true

abbrev pub check_seen : List Happening → ℕ → List ℕ → Ballot → Bool
check_seen log acceptor key ballot = each_place (seen_low acceptor key ballot) log

took_low : (log : List Happening) (acceptor : ℕ) (key : List ℕ) (ballot : Ballot) {taken ride : Ballot} → check_seen log acceptor key ballot ≡ true
    → Stands (Took acceptor key taken ride) log → (at_most taken ballot && at_most ride ballot) ≡ true
took_low log acceptor key ballot {taken} {ride} e s =
    use_implies (is_slot acceptor key acceptor key) _ (each_at (seen_low acceptor key ballot) e s.at) (slot_refl acceptor key)

seen_checked : (log : List Happening) (acceptor : ℕ) (key : List ℕ) (ballot : Ballot) → check_seen log acceptor key ballot ≡ true → HasSeenAtMost log acceptor key ballot
seen_checked log acceptor key ballot e seen (in_promise told s) =
    at_most_tells (use_implies (is_slot acceptor key acceptor key) (at_most seen ballot) (each_at (seen_low acceptor key ballot) e s.at) (slot_refl acceptor key))
seen_checked log acceptor key ballot e seen (in_take ride s) = at_most_tells (and_left (at_most seen ballot) (at_most ride ballot) (took_low log acceptor key ballot e s))
seen_checked log acceptor key ballot e seen (in_ride taken s) = at_most_tells (and_right (at_most taken ballot) (at_most seen ballot) (took_low log acceptor key ballot e s))

abbrev pub is_floored_at : List ℕ → Ballot → Ballot → Mark → List Mark → Bool
is_floored_at key lower upper (Floor k floor state) older = is_key k key && (at_most lower floor && less floor upper)
is_floored_at key lower upper other older = false

floored_by : {key : List ℕ} {lower upper : Ballot} {all : List Mark} (mark : Mark) (older : List Mark) → At mark older all → is_floored_at key lower upper mark older ≡ true → IsFloored key lower upper all
floored_by {key} {lower} {upper} {all} (Floor k floor state) older at e =
    let both = and_right (is_key k key) (at_most lower floor && less floor upper) e in
    record {
      floor = floor;
      state = state;
      stands = stands_at (subst (λ x. At (Floor x floor state) older all) (key_same (and_left (is_key k key) _ e)) at);
      above = at_most_tells (and_left (at_most lower floor) (less floor upper) both);
      below = less_of (and_right (at_most lower floor) (less floor upper) both);
    }
floored_by mark older at e = absurd cc

-- what the acceptor took of the key by this happening is told, or under a floor
abbrev pub tells_low : List Mark → ℕ → List ℕ → Ballot → Ballot → Happening → List Happening → Bool
tells_low marks acceptor key ballot told (Took a k taken ride) older = implies (is_slot acceptor key a k) (at_most taken told || some_place (is_floored_at key taken ballot) marks)
tells_low marks acceptor key ballot told other older = true

abbrev pub check_promise : List Happening → ℕ → List ℕ → Ballot → Ballot → Bool
check_promise log acceptor key ballot told = check_seen log acceptor key ballot && each_place (tells_low (marks_of log) acceptor key ballot told) log

promise_checked : (log : List Happening) (acceptor : ℕ) (key : List ℕ) (ballot told : Ballot) → check_promise log acceptor key ballot told ≡ true → MayPromise log acceptor key ballot told
promise_checked log acceptor key ballot told e = record {
  seen = seen_checked log acceptor key ballot (and_left (check_seen log acceptor key ballot) _ e);
  tells = λ {taken} {ride} s.
      let floored = some_place (is_floored_at key taken ballot) (marks_of log) in
      elim (or_cases (at_most taken told) floored (use_implies (is_slot acceptor key acceptor key) _
      (each_at (tells_low (marks_of log) acceptor key ballot told) (and_right (check_seen log acceptor key ballot) _ e) s.at) (slot_refl acceptor key))) [
        | inl low ↦ inl (at_most_tells low)
        | inr by_floor ↦
            let f = found (is_floored_at key taken ballot) (marks_of log) by_floor in
            inr (floored_by f.x f.older f.at f.passes)
      ];
}

abbrev pub is_floor_at : List ℕ → Ballot → Mark → List Mark → Bool
is_floor_at key ballot (Floor k floor state) older = is_key k key && is_ballot floor ballot
is_floor_at key ballot other older = false

pub floor_by : {key : List ℕ} {ballot : Ballot} {all : List Mark} (mark : Mark) (older : List Mark) → At mark older all → is_floor_at key ballot mark older ≡ true → HasFloor key ballot all
floor_by {key} {ballot} {all} (Floor k floor state) older at e = record {
  state = state;
  stands = stands_at (subst (λ x. At (Floor key x state) older all) (ballot_same (and_right (is_key k key) (is_ballot floor ballot) e))
      (subst (λ x. At (Floor x floor state) older all) (key_same (and_left (is_key k key) (is_ballot floor ballot) e)) at));
}
floor_by mark older at e = absurd cc

abbrev pub check_made : List ℕ → Ballot → List Mark → Bool
check_made key ballot marks = has_proposal key ballot marks || some_place (is_floor_at key ballot) marks

made_checked : (key : List ℕ) (ballot : Ballot) (marks : List Mark) → check_made key ballot marks ≡ true → IsMade key ballot marks
made_checked key ballot marks e = elim (or_cases (has_proposal key ballot marks) (some_place (is_floor_at key ballot) marks) e) [
  | inl proposed ↦ inl (has_proposal_tells key ballot marks proposed)
  | inr floor ↦ let f = found (is_floor_at key ballot) marks floor in inr (floor_by f.x f.older f.at f.passes)
]

abbrev pub check_take : List Happening → ℕ → List ℕ → Ballot → Bool
check_take log acceptor key ballot = check_made key ballot (marks_of log) && check_seen log acceptor key ballot

take_checked : (log : List Happening) (acceptor : ℕ) (key : List ℕ) (ballot : Ballot) → check_take log acceptor key ballot ≡ true → MayTake log acceptor key ballot
take_checked log acceptor key ballot e = record {
  made = made_checked key ballot (marks_of log) (and_left (check_made key ballot (marks_of log)) _ e);
  seen = seen_checked log acceptor key ballot (and_right (check_made key ballot (marks_of log)) _ e);
}

abbrev pub check_drop : List Happening → ℕ → List ℕ → Ballot → Bool
check_drop log acceptor key tombstone =
    some_place (is_floor_at key tombstone) (marks_of log) && (is_ballot (slot_told log acceptor key).accepted tombstone && at_most (slot_told log acceptor key).promise tombstone)

drop_checked : (log : List Happening) (acceptor : ℕ) (key : List ℕ) (tombstone : Ballot) → check_drop log acceptor key tombstone ≡ true → MayDrop log acceptor key tombstone
drop_checked log acceptor key tombstone e =
    let f = found (is_floor_at key tombstone) (marks_of log) (and_left (some_place (is_floor_at key tombstone) (marks_of log)) _ e) in
    let floor = floor_by f.x f.older f.at f.passes in
    let slot = and_right (some_place (is_floor_at key tombstone) (marks_of log)) _ e in
    record {
      state = floor.state;
      floor = floor.stands;
      holds = ballot_same (and_left (is_ballot (slot_told log acceptor key).accepted tombstone) _ slot);
      promise = at_most_tells (and_right (is_ballot (slot_told log acceptor key).accepted tombstone) _ slot);
    }

-- ---- eras
abbrev pub entered_now : ℕ → ℕ → Happening → List Happening → Bool
entered_now proposer era (Entered p e) older = (p == proposer) && (e == era)
entered_now proposer era other older = false

entered_by : {proposer era : ℕ} {all : List Happening} (h : Happening) (older : List Happening) → At h older all → entered_now proposer era h older ≡ true → Stands (Entered proposer era) all
entered_by {proposer} {era} {all} (Entered p e) older at t =
    stands_at (subst (λ x. At (Entered proposer x) older all) (nat_same {a = e} {b = era} (and_right (p == proposer) (e == era) t))
    (subst (λ x. At (Entered x e) older all) (nat_same {a = p} {b = proposer} (and_left (p == proposer) (e == era) t)) at))
entered_by h older at t = absurd cc

abbrev pub check_in : List Happening → ℕ → ℕ → Bool
check_in log proposer era = (era == 0) || some_place (entered_now proposer era) log

pub in_checked : (log : List Happening) (proposer era : ℕ) → check_in log proposer era ≡ true → IsIn log proposer era
in_checked log proposer era e = elim (or_cases (era == 0) (some_place (entered_now proposer era) log) e) [
  | inl first ↦ inl (nat_same {a = era} {b = 0} first)
  | inr entered ↦ let f = found (entered_now proposer era) log entered in inr (entered_by f.x f.older f.at f.passes)
]

not_entered : (log : List Happening) (proposer era : ℕ) → some_place (entered_now proposer era) log ≡ false → Stands (Entered proposer era) log → ⊥
not_entered log proposer era e s = not_both _ (some_is (entered_now proposer era) s.at (ap (λ b. b && (era == era)) (nat_is {a = proposer} refl) ∙ nat_is {a = era} refl)) e

abbrev pub is_marked_in : ℕ → ℕ → Mark → List Mark → Bool
is_marked_in proposer era (EraEntered p e) older = (p == proposer) && (e == era)
is_marked_in proposer era other older = false

marked_by : {proposer era : ℕ} {all : List Mark} (m : Mark) (older : List Mark) → At m older all → is_marked_in proposer era m older ≡ true → Stands (EraEntered proposer era) all
marked_by {proposer} {era} {all} (EraEntered p e) older at t =
    stands_at (subst (λ x. At (EraEntered proposer x) older all) (nat_same {a = e} {b = era} (and_right (p == proposer) (e == era) t))
    (subst (λ x. At (EraEntered x e) older all) (nat_same {a = p} {b = proposer} (and_left (p == proposer) (e == era) t)) at))
marked_by m older at t = absurd cc

le_or_last : (i n : ℕ) → i ≤ suc n → (i ≤ n) ⊎ (i ≡ suc n)
le_or_last i n low = grind arith

-- the test passes of each number up to n
abbrev pub up_to : ℕ → (ℕ → Bool) → Bool
up_to zero test = test 0
up_to (suc n) test = test (suc n) && up_to n test

pub up_to_at : (n : ℕ) (test : ℕ → Bool) (i : ℕ) → up_to n test ≡ true → i ≤ n → test i ≡ true
up_to_at zero test i e low = subst (λ (x : ℕ). test x ≡ true) (omega arith) e
up_to_at (suc n) test i e low = elim (le_or_last i n low) [
  | inl below ↦ up_to_at n test i (and_right (test (suc n)) (up_to n test) e) below
  | inr last ↦ subst (λ (x : ℕ). test x ≡ true) (sym last) (and_left (test (suc n)) (up_to n test) e)
]

abbrev pub check_all_in : Cluster → ℕ → List Mark → Bool
check_all_in cluster era marks = up_to cluster.last_proposer (λ proposer. some_place (is_marked_in proposer era) marks)

all_in_checked : (cluster : Cluster) (era : ℕ) (marks : List Mark) → check_all_in cluster era marks ≡ true → AllEntered cluster era marks
all_in_checked cluster era marks e proposer low =
    let f = found (is_marked_in proposer era) marks (up_to_at cluster.last_proposer (λ n. some_place (is_marked_in n era) marks) proposer e low) in
    marked_by f.x f.older f.at f.passes

abbrev pub is_acked_at : List ℕ → Ballot → Mark → List Mark → Bool
is_acked_at key ballot (Acked a) older = is_key a.key key && is_ballot a.ballot ballot
is_acked_at key ballot other older = false

acked_by : {key : List ℕ} {ballot : Ballot} {all : List Mark} (m : Mark) (older : List Mark) → At m older all → is_acked_at key ballot m older ≡ true → IsAcked key ballot all
acked_by {key} {ballot} (Acked a) older at e = record {
  acknowledgment = a;
  stands = stands_at at;
  same_key = key_same (and_left (is_key a.key key) (is_ballot a.ballot ballot) e);
  same_ballot = ballot_same (and_right (is_key a.key key) (is_ballot a.ballot ballot) e);
}
acked_by m older at e = absurd cc

abbrev pub check_acked : List ℕ → Ballot → List Mark → Bool
check_acked key ballot marks = some_place (is_acked_at key ballot) marks

pub acked_checked : (key : List ℕ) (ballot : Ballot) (marks : List Mark) → check_acked key ballot marks ≡ true → IsAcked key ballot marks
acked_checked key ballot marks e = let f = found (is_acked_at key ballot) marks e in acked_by f.x f.older f.at f.passes

abbrev pub is_rescan_at : Cluster → ℕ → List ℕ → List Mark → Mark → List Mark → Bool
is_rescan_at cluster era key marks (Proposed p) older = is_key p.key key && ((p.era == era) && (check_all_in cluster era older && check_acked key p.ballot marks))
is_rescan_at cluster era key marks other older = false

rescan_by : {cluster : Cluster} {era : ℕ} {key : List ℕ} {all : List Mark} (m : Mark) (older : List Mark) → At m older all → is_rescan_at cluster era key all m older ≡ true → IsRescanned cluster era key all
rescan_by {cluster} {era} {key} {all} (Proposed p) older at e =
    let rest = and_right (is_key p.key key) _ e in
    let last = and_right (p.era == era) _ rest in
    record {
      proposal = p;
      older = older;
      proposed = at;
      same_key = key_same (and_left (is_key p.key key) _ e);
      same_era = nat_same {a = p.era} {b = era} (and_left (p.era == era) _ rest);
      entered = all_in_checked cluster era older (and_left (check_all_in cluster era older) (check_acked key p.ballot all) last);
      acked = acked_checked key p.ballot all (and_right (check_all_in cluster era older) (check_acked key p.ballot all) last);
    }
rescan_by m older at e = absurd cc

-- the proposal is of another key, or of the era or a later one, or at most the floor
abbrev pub is_under : ℕ → List ℕ → Ballot → Mark → List Mark → Bool
is_under era key floor (Proposed p) older = implies (is_key p.key key && nat_lt p.era era) (at_most p.ballot floor)
is_under era key floor other older = true

abbrev pub is_collected_at : ℕ → List ℕ → List Mark → Mark → List Mark → Bool
is_collected_at era key marks (Floor k floor state) older = is_key k key && each_place (is_under era key floor) marks
is_collected_at era key marks other older = false

collected_by : {era : ℕ} {key : List ℕ} {all : List Mark} (m : Mark) (older : List Mark) → At m older all → is_collected_at era key all m older ≡ true → IsCollected era key all
collected_by {era} {key} {all} (Floor k floor state) older at e = record {
  floor = floor;
  state = state;
  stands = stands_at (subst (λ x. At (Floor x floor state) older all) (key_same (and_left (is_key k key) (each_place (is_under era key floor) all) e)) at);
  above = λ {p} s same_key early.
      at_most_tells (use_implies (is_key p.key key && nat_lt p.era era) (at_most p.ballot floor)
      (each_at (is_under era key floor) (and_right (is_key k key) (each_place (is_under era key floor) all) e) s.at)
      (both_true (is_key p.key key) (nat_lt p.era era) (key_is same_key) (le_is early)));
}
collected_by m older at e = absurd cc

-- a proposal of an earlier era has its stepping stone
abbrev pub has_stone : Cluster → ℕ → List Mark → Mark → List Mark → Bool
has_stone cluster left marks (Proposed p) older = implies (nat_lt p.era left) (some_place (is_rescan_at cluster left p.key marks) marks || some_place (is_collected_at left p.key marks) marks)
has_stone cluster left marks other older = true

-- nothing but floors was marked and taken
abbrev pub are_first : List Happening → Bool
are_first [] = true
are_first (Marked (Floor key floor state) ∷ older) = are_first older
are_first (Took acceptor key ballot ride ∷ older) = are_first older
are_first (other ∷ older) = false

are_first_is : (log : List Happening) → AreFirst log → are_first log ≡ true
are_first_is [] first = refl
are_first_is (Marked (Floor key floor state) ∷ older) first = are_first_is older first
are_first_is (Took acceptor key ballot ride ∷ older) first = are_first_is older first
are_first_is (other ∷ older) first = absurd first

-- the happening is no floor with which a history opens
abbrev pub is_no_opening : Happening → List Happening → Bool
is_no_opening (Marked (Floor key floor state)) older = not (are_first older)
is_no_opening other older = true

none_opens : {key : List ℕ} {floor : Ballot} {log : List Happening} → each_place is_no_opening log ≡ true → HasOpening key floor log → ⊥
none_opens e o = not_both (are_first o.older) (are_first_is o.older o.first) (not_tells _ (each_at is_no_opening e o.at))

abbrev pub check_leave : Cluster → List Happening → ℕ → ℕ → Bool
check_leave cluster log proposer left =
    nat_le proposer cluster.last_proposer && (not (some_place (entered_now proposer (suc left)) log)
    && (((left == 0) || check_all_in cluster left (marks_of log)) && (each_place (has_stone cluster left (marks_of log)) (marks_of log) && each_place is_no_opening log)))

leave_checked : (cluster : Cluster) (log : List Happening) (proposer left : ℕ) → check_leave cluster log proposer left ≡ true → MayLeaveEra cluster log proposer left
leave_checked cluster log proposer left e =
    let marks = marks_of log in
    let rest = and_right (nat_le proposer cluster.last_proposer) _ e in
    let last = and_right (not (some_place (entered_now proposer (suc left)) log)) _ rest in
    let each = and_right ((left == 0) || check_all_in cluster left marks) _ last in
    record {
      known = le_tells (and_left (nat_le proposer cluster.last_proposer) _ e);
      once = not_entered log proposer (suc left) (not_tells _ (and_left (not (some_place (entered_now proposer (suc left)) log)) _ rest));
      all_in = λ some. elim (or_cases (left == 0) (check_all_in cluster left marks) (and_left ((left == 0) || check_all_in cluster left marks) _ last)) [
        | inl none ↦ let is_zero : left ≡ 0 = nat_same {a = left} {b = 0} none in absurd (omega arith)
        | inr all ↦ all_in_checked cluster left marks all
      ];
      stones = λ {p} s early.
          let stone = use_implies (nat_lt p.era left) _ (each_at (has_stone cluster left marks) (and_left (each_place (has_stone cluster left marks) marks) _ each) s.at) (le_is early) in
          elim (or_cases (some_place (is_rescan_at cluster left p.key marks) marks) (some_place (is_collected_at left p.key marks) marks) stone) [
            | inl rescan ↦ let f = found (is_rescan_at cluster left p.key marks) marks rescan in inl (rescan_by f.x f.older f.at f.passes)
            | inr collected ↦ let f = found (is_collected_at left p.key marks) marks collected in inr (collected_by f.x f.older f.at f.passes)
          ];
      openings = λ {key} {floor} opening some. absurd (none_opens (and_right (each_place (has_stone cluster left marks) marks) (each_place is_no_opening log) each) opening);
    }

abbrev pub check_enter : Cluster → List Happening → ℕ → ℕ → Bool
check_enter cluster log proposer zero = false
check_enter cluster log proposer (suc left) = check_leave cluster log proposer left

enter_checked : (cluster : Cluster) (log : List Happening) (proposer era : ℕ) → check_enter cluster log proposer era ≡ true → MayEnter cluster log proposer era
enter_checked cluster log proposer zero e = absurd cc
enter_checked cluster log proposer (suc left) e = record { left = left; next = refl; may_leave = leave_checked cluster log proposer left e }

abbrev pub check_mark_era : List Happening → ℕ → ℕ → Bool
check_mark_era log proposer era = some_place (entered_now proposer era) log && not (some_place (is_marked_in proposer era) (marks_of log))

mark_era_checked : (log : List Happening) (proposer era : ℕ) → check_mark_era log proposer era ≡ true → MayMarkEra log proposer era
mark_era_checked log proposer era e =
    let f = found (entered_now proposer era) log (and_left (some_place (entered_now proposer era) log) _ e) in
    record {
      entered = entered_by f.x f.older f.at f.passes;
      once = λ s. not_both _ (some_is (is_marked_in proposer era) s.at (both_true (proposer == proposer) (era == era) (nat_is {a = proposer} refl) (nat_is {a = era} refl)))
          (not_tells _ (and_right (some_place (entered_now proposer era) log) (not (some_place (is_marked_in proposer era) (marks_of log))) e));
    }

-- ---- calls
abbrev pub is_begun_at : ℕ → ℕ → List ℕ → Mark → List Mark → Bool
is_begun_at caller call key (Begun c n k program) older = is_call caller call c n && is_key k key
is_begun_at caller call key other older = false

begun_by : {caller call : ℕ} {key : List ℕ} {all : List Mark} (m : Mark) (older : List Mark) → At m older all → is_begun_at caller call key m older ≡ true → IsBegun caller call key all
begun_by {caller} {call} {key} {all} (Begun c n k program) older at e =
    let same = call_same {caller = caller} {call = call} {c = c} {n = n} (and_left (is_call caller call c n) (is_key k key) e) in
    let same_key = key_same (and_right (is_call caller call c n) (is_key k key) e) in
    record {
      program = program;
      stands = stands_at (subst (λ x. At (Begun caller call x program) older all) same_key
          (subst (λ x. At (Begun caller x k program) older all) same.1 (subst (λ x. At (Begun x n k program) older all) same.0 at)));
    }
begun_by m older at e = absurd cc

abbrev pub is_proposed_at : ℕ → ℕ → Mark → List Mark → Bool
is_proposed_at caller call (Proposed p) older = is_call caller call p.caller p.call
is_proposed_at caller call other older = false

proposed_by : {caller call : ℕ} {all : List Mark} (m : Mark) (older : List Mark) → At m older all → is_proposed_at caller call m older ≡ true → IsProposed caller call all
proposed_by {caller} {call} (Proposed p) older at e =
    let same = call_same {caller = caller} {call = call} {c = p.caller} {n = p.call} e in
    record { proposal = p; stands = stands_at at; same_caller = same.0; same_call = same.1 }
proposed_by m older at e = absurd cc

abbrev pub check_proposed : ℕ → ℕ → List Mark → Bool
check_proposed caller call marks = some_place (is_proposed_at caller call) marks

not_proposed : (caller call : ℕ) (marks : List Mark) → check_proposed caller call marks ≡ false → IsProposed caller call marks → ⊥
not_proposed caller call marks e p = not_both _ (some_is (is_proposed_at caller call) p.stands.at (call_is {caller = caller} {call = call} p.same_caller p.same_call)) e

abbrev pub is_ended_at : ℕ → ℕ → Mark → List Mark → Bool
is_ended_at caller call (Ended c n rounds answer) older = is_call caller call c n
is_ended_at caller call other older = false

abbrev pub check_ended : ℕ → ℕ → List Mark → Bool
check_ended caller call marks = some_place (is_ended_at caller call) marks

not_ended : (caller call : ℕ) (marks : List Mark) → check_ended caller call marks ≡ false → IsEnded caller call marks → ⊥
not_ended caller call marks e p = not_both _ (some_is (is_ended_at caller call) p.stands.at (call_is {caller = caller} {call = call} refl refl)) e

-- ---- proposals
abbrev pub check_first : Proposal → List Mark → Bool
check_first p marks =
    some_place (is_begun_at p.caller p.call p.key) marks && (not (check_proposed p.caller p.call marks)
    && (not (check_ended p.caller p.call marks) && (not (is_ballot p.ballot zero_ballot) && not (has_proposal p.key p.ballot marks))))

first_checked : (p : Proposal) (marks : List Mark) → check_first p marks ≡ true → IsFirstProposal p marks
first_checked p marks e =
    let begun = some_place (is_begun_at p.caller p.call p.key) marks in
    let e1 = and_right begun _ e in
    let e2 = and_right (not (check_proposed p.caller p.call marks)) _ e1 in
    let e3 = and_right (not (check_ended p.caller p.call marks)) _ e2 in
    let f = found (is_begun_at p.caller p.call p.key) marks (and_left begun _ e) in
    record {
      begun = begun_by f.x f.older f.at f.passes;
      once = not_proposed p.caller p.call marks (not_tells _ (and_left (not (check_proposed p.caller p.call marks)) _ e1));
      open_yet = not_ended p.caller p.call marks (not_tells _ (and_left (not (check_ended p.caller p.call marks)) _ e2));
      fresh = λ h. not_both (has_proposal p.key p.ballot marks)
          (has_proposal_is h.stands.at (record {
            same_key = h.same_key;
            same_ballot = h.same_ballot;
            not_zero = λ z. not_both (is_ballot p.ballot zero_ballot) (ballot_is z) (not_tells _ (and_left (not (is_ballot p.ballot zero_ballot)) _ e3));
          }))
          (not_tells _ (and_right (not (is_ballot p.ballot zero_ballot)) (not (has_proposal p.key p.ballot marks)) e3));
    }

-- the happening is the acceptor's grant to the proposal
abbrev pub is_grant : ℕ → Proposal → Happening → List Happening → Bool
is_grant acceptor p (Promised a k ballot told) older = is_slot acceptor p.key a k && (is_ballot ballot p.ballot && (at_most told p.read && check_in older p.ballot.proposer p.era))
is_grant acceptor p (Took a k taken ride) older = is_slot acceptor p.key a k && (is_ballot taken p.read && (is_ballot ride p.ballot && check_in older p.ballot.proposer p.era))
is_grant acceptor p other older = false

grant_by : {acceptor : ℕ} {p : Proposal} {all : List Happening} (h : Happening) (older : List Happening) → At h older all → is_grant acceptor p h older ≡ true → Granted all acceptor p
grant_by {acceptor} {p} {all} (Promised a k ballot told) older at e =
    let slot = slot_same {acceptor = acceptor} {a = a} {key = p.key} {k = k} (and_left (is_slot acceptor p.key a k) _ e) in
    let e1 = and_right (is_slot acceptor p.key a k) _ e in
    let e2 = and_right (is_ballot ballot p.ballot) _ e1 in
    let same : ballot ≡ p.ballot = ballot_same (and_left (is_ballot ballot p.ballot) _ e1) in
    by_promise told (record {
      older = older;
      at = subst (λ x. At (Promised acceptor p.key x told) older all) same
          (subst (λ x. At (Promised acceptor x ballot told) older all) slot.1 (subst (λ x. At (Promised x k ballot told) older all) slot.0 at));
    })
    (at_most_tells (and_left (at_most told p.read) _ e2)) (in_checked older p.ballot.proposer p.era (and_right (at_most told p.read) _ e2))
grant_by {acceptor} {p} {all} (Took a k taken ride) older at e =
    let slot = slot_same {acceptor = acceptor} {a = a} {key = p.key} {k = k} (and_left (is_slot acceptor p.key a k) _ e) in
    let e1 = and_right (is_slot acceptor p.key a k) _ e in
    let e2 = and_right (is_ballot taken p.read) _ e1 in
    let same : taken ≡ p.read = ballot_same (and_left (is_ballot taken p.read) _ e1) in
    let rides : ride ≡ p.ballot = ballot_same (and_left (is_ballot ride p.ballot) _ e2) in
    by_ride (record {
      older = older;
      at = subst (λ x. At (Took acceptor p.key p.read x) older all) rides (subst (λ x. At (Took acceptor p.key x ride) older all) same
          (subst (λ x. At (Took acceptor x taken ride) older all) slot.1 (subst (λ x. At (Took x k taken ride) older all) slot.0 at)));
    })
    (in_checked older p.ballot.proposer p.era (and_right (is_ballot ride p.ballot) _ e2))
grant_by h older at e = absurd cc

-- what a test passes of each member of a set
all_members : (test : ℕ → Bool) (by : List ℕ) (acceptor : ℕ) → list_all test by ≡ true → has_member by acceptor ≡ true → test acceptor ≡ true
all_members test [] acceptor e member = absurd cc
all_members test (a ∷ by) acceptor e member = elim (or_cases (a == acceptor) (has_member by acceptor) member) [
  | inl first ↦ subst (λ (x : ℕ). test x ≡ true) (nat_same {a = a} {b = acceptor} first) (and_left (test a) (list_all test by) e)
  | inr rest ↦ all_members test by acceptor (and_right (test a) (list_all test by) e) rest
]

abbrev pub check_granted : List Happening → Proposal → Bool
check_granted log p = list_all (λ acceptor. some_place (is_grant acceptor p) log) p.prepared_by

granted_checked : (log : List Happening) (p : Proposal) → check_granted log p ≡ true → (acceptor : ℕ) → has_member p.prepared_by acceptor ≡ true → Granted log acceptor p
granted_checked log p e acceptor member =
    let f = found (is_grant acceptor p) log (all_members (λ a. some_place (is_grant a p) log) p.prepared_by acceptor e member) in
    grant_by f.x f.older f.at f.passes

abbrev pub is_above_floor : List ℕ → Ballot → Mark → List Mark → Bool
is_above_floor key ballot (Floor k floor state) older = implies (is_key k key) (less floor ballot)
is_above_floor key ballot other older = true

abbrev pub check_propose : Cluster → List Happening → Proposal → Bool
check_propose cluster log p =
    check_first p (marks_of log) && (less p.read p.ballot && ((is_ballot p.read zero_ballot || check_made p.key p.read (marks_of log))
    && (each_place (is_above_floor p.key p.ballot) (marks_of log) && (cluster.prepares p.era p.prepared_by && (check_granted log p
    && (nat_le p.ballot.proposer cluster.last_proposer && (check_in log p.ballot.proposer p.era && not (some_place (entered_now p.ballot.proposer (suc p.era)) log))))))))

propose_checked : (cluster : Cluster) (log : List Happening) (p : Proposal) → check_propose cluster log p ≡ true → MayPropose cluster log p
propose_checked cluster log p e =
    let marks = marks_of log in
    let e1 = and_right (check_first p marks) _ e in
    let e2 = and_right (less p.read p.ballot) _ e1 in
    let read = is_ballot p.read zero_ballot || check_made p.key p.read marks in
    let e3 = and_right read _ e2 in
    let e4 = and_right (each_place (is_above_floor p.key p.ballot) marks) _ e3 in
    let e5 = and_right (cluster.prepares p.era p.prepared_by) _ e4 in
    let e6 = and_right (check_granted log p) _ e5 in
    let e7 = and_right (nat_le p.ballot.proposer cluster.last_proposer) _ e6 in
    record {
      first = first_checked p marks (and_left (check_first p marks) _ e);
      above_read = less_of (and_left (less p.read p.ballot) _ e1);
      read_stands = elim (or_cases (is_ballot p.read zero_ballot) (check_made p.key p.read marks) (and_left read _ e2)) [
        | inl none ↦ inl (ballot_same none)
        | inr some ↦ inr (made_checked p.key p.read marks some)
      ];
      above_floors = λ {floor} {state} s. less_of (use_implies (is_key p.key p.key) (less floor p.ballot)
          (each_at (is_above_floor p.key p.ballot) (and_left (each_place (is_above_floor p.key p.ballot) marks) _ e3) s.at) (key_refl p.key));
      quorum = and_left (cluster.prepares p.era p.prepared_by) _ e4;
      granted = granted_checked log p (and_left (check_granted log p) _ e5);
      known = le_tells (and_left (nat_le p.ballot.proposer cluster.last_proposer) _ e6);
      is_in = in_checked log p.ballot.proposer p.era (and_left (check_in log p.ballot.proposer p.era) _ e7);
      not_beyond = not_entered log p.ballot.proposer (suc p.era) (not_tells _ (and_right (check_in log p.ballot.proposer p.era) _ e7));
    }

-- ---- votes and acknowledgments
abbrev pub is_take : ℕ → List ℕ → Ballot → Happening → List Happening → Bool
is_take acceptor key ballot (Took a k taken ride) older = is_slot acceptor key a k && is_ballot taken ballot
is_take acceptor key ballot other older = false

take_by : {acceptor : ℕ} {key : List ℕ} {ballot : Ballot} {all : List Happening} (h : Happening) (older : List Happening) → At h older all → is_take acceptor key ballot h older ≡ true → MayVote all acceptor key ballot
take_by {acceptor} {key} {ballot} {all} (Took a k taken ride) older at e =
    let slot = slot_same {acceptor = acceptor} {a = a} {key = key} {k = k} (and_left (is_slot acceptor key a k) _ e) in
    record {
      ride = ride;
      taken = stands_at (subst (λ x. At (Took acceptor key x ride) older all) (ballot_same (and_right (is_slot acceptor key a k) (is_ballot taken ballot) e))
          (subst (λ x. At (Took acceptor x taken ride) older all) slot.1 (subst (λ x. At (Took x k taken ride) older all) slot.0 at)));
    }
take_by h older at e = absurd cc

abbrev pub check_vote : List Happening → ℕ → List ℕ → Ballot → Bool
check_vote log acceptor key ballot = some_place (is_take acceptor key ballot) log

vote_checked : (log : List Happening) (acceptor : ℕ) (key : List ℕ) (ballot : Ballot) → check_vote log acceptor key ballot ≡ true → MayVote log acceptor key ballot
vote_checked log acceptor key ballot e = let f = found (is_take acceptor key ballot) log e in take_by f.x f.older f.at f.passes

abbrev pub is_vote : List ℕ → Ballot → ℕ → Mark → List Mark → Bool
is_vote key ballot acceptor (Voted a k b) older = is_slot acceptor key a k && is_ballot b ballot
is_vote key ballot acceptor other older = false

pub vote_by : {acceptor : ℕ} {key : List ℕ} {ballot : Ballot} {all : List Mark} (m : Mark) (older : List Mark) → At m older all → is_vote key ballot acceptor m older ≡ true → Stands (Voted acceptor key ballot) all
vote_by {acceptor} {key} {ballot} {all} (Voted a k b) older at e =
    let slot = slot_same {acceptor = acceptor} {a = a} {key = key} {k = k} (and_left (is_slot acceptor key a k) _ e) in
    stands_at (subst (λ x. At (Voted acceptor key x) older all) (ballot_same (and_right (is_slot acceptor key a k) (is_ballot b ballot) e))
    (subst (λ x. At (Voted acceptor x b) older all) slot.1 (subst (λ x. At (Voted x k b) older all) slot.0 at)))
vote_by m older at e = absurd cc

abbrev pub is_acked_proposal : Acknowledgment → Mark → List Mark → Bool
is_acked_proposal a (Proposed p) older = is_key p.key a.key && (is_ballot p.ballot a.ballot && (p.era == a.era))
is_acked_proposal a other older = false

abbrev pub check_votes : Acknowledgment → List Mark → Bool
check_votes a marks = some_place (is_acked_proposal a) marks && list_all (λ acceptor. some_place (is_vote a.key a.ballot acceptor) marks) a.by

votes_by : (a : Acknowledgment) {all : List Mark} (m : Mark) (older : List Mark) → At m older all → is_acked_proposal a m older ≡ true
    → list_all (λ acceptor. some_place (is_vote a.key a.ballot acceptor) all) a.by ≡ true → HasVotes a all
votes_by a {all} (Proposed p) older at e votes =
    let rest = and_right (is_key p.key a.key) (is_ballot p.ballot a.ballot && (p.era == a.era)) e in
    record {
      proposal = p;
      proposed = stands_at at;
      same_key = key_same (and_left (is_key p.key a.key) _ e);
      same_ballot = ballot_same (and_left (is_ballot p.ballot a.ballot) (p.era == a.era) rest);
      same_era = nat_same {a = p.era} {b = a.era} (and_right (is_ballot p.ballot a.ballot) (p.era == a.era) rest);
      votes = λ acceptor member.
          let f = found (is_vote a.key a.ballot acceptor) all (all_members (λ n. some_place (is_vote a.key a.ballot n) all) a.by acceptor votes member) in
          vote_by f.x f.older f.at f.passes;
    }
votes_by a m older at e votes = absurd cc

abbrev pub check_ack : Cluster → List Happening → Acknowledgment → Bool
check_ack cluster log a = check_votes a (marks_of log) && cluster.accepts a.era a.by

ack_checked : (cluster : Cluster) (log : List Happening) (a : Acknowledgment) → check_ack cluster log a ≡ true → MayAck cluster log a
ack_checked cluster log a e =
    let votes = and_left (check_votes a (marks_of log)) _ e in
    let f = found (is_acked_proposal a) (marks_of log) (and_left (some_place (is_acked_proposal a) (marks_of log)) _ votes) in
    record {
      votes = votes_by a f.x f.older f.at f.passes (and_right (some_place (is_acked_proposal a) (marks_of log)) _ votes);
      quorum = and_right (check_votes a (marks_of log)) _ e;
    }

-- ---- floors
-- the mark begins no call and is no floor of the key
abbrev pub is_before_opening : List ℕ → Mark → List Mark → Bool
is_before_opening key (Begun caller call k program) older = false
is_before_opening key (Floor k floor state) older = not (is_key k key)
is_before_opening key other older = true

opening_checked : (key : List ℕ) (marks : List Mark) → each_place (is_before_opening key) marks ≡ true → IsOpeningFloor key marks
opening_checked key marks e = record {
  none_begun = λ caller call k program s. let never : false ≡ true = each_at (is_before_opening key) e s.at in cc;
  first = λ {floor} {state} s. not_both (is_key key key) (key_refl key) (not_tells _ (each_at (is_before_opening key) e s.at));
}

abbrev pub is_empty : State → Bool
is_empty Empty = true
is_empty (Held version body) = false

empty_tells : (state : State) → is_empty state ≡ true → state ≡ Empty
empty_tells Empty e = refl
empty_tells (Held version body) e = absurd cc

abbrev pub check_floor : List ℕ → Ballot → State → List Mark → Bool
check_floor key ballot state marks = each_place (is_before_opening key) marks || (is_empty state && check_acked key ballot marks)

floor_checked : (key : List ℕ) (ballot : Ballot) (state : State) (marks : List Mark) → check_floor key ballot state marks ≡ true → IsFloor key ballot state marks
floor_checked key ballot state marks e = elim (or_cases (each_place (is_before_opening key) marks) (is_empty state && check_acked key ballot marks) e) [
  | inl opening ↦ inl (opening_checked key marks opening)
  | inr tombstone ↦ inr (record {
    is_empty = empty_tells state (and_left (is_empty state) _ tombstone);
    acked = acked_checked key ballot marks (and_right (is_empty state) _ tombstone);
  })
]

-- ---- answers
outcome_decides : (a b : Outcome) → Decides (outcomes.ghosts.eq a b) (a ≡ b)
outcome_decides a b = search rules

-- what the proposal's program makes of the history that it goes on from
abbrev pub outcome_there : Proposal → List Mark → List Mark → Outcome
outcome_there p older marks = outcome_of (entry_of older p).program (replay_from (opening_state p.key marks) (chain_of p.key (link_of older p) older))

abbrev pub is_done_at : List Mark → ℕ → ℕ → State → Who → Ballot → Mark → List Mark → Bool
is_done_at marks caller call state who ballot (Proposed p) older =
    is_call caller call p.caller p.call && (is_ballot p.ballot ballot && (check_acked p.key ballot marks && outcomes.ghosts.eq (outcome_there p older marks) (record { state = state; took = who })))
is_done_at marks caller call state who ballot other older = false

done_by : {caller call : ℕ} {state : State} {who : Who} {ballot : Ballot} {all : List Mark} (m : Mark) (older : List Mark) → At m older all
    → is_done_at all caller call state who ballot m older ≡ true → MayBeDone all caller call state who ballot
done_by {caller} {call} {state} {who} {ballot} {all} (Proposed p) older at e =
    let same = call_same {caller = caller} {call = call} {c = p.caller} {n = p.call} (and_left (is_call caller call p.caller p.call) _ e) in
    let e1 = and_right (is_call caller call p.caller p.call) _ e in
    let e2 = and_right (is_ballot p.ballot ballot) _ e1 in
    record {
      proposal = p;
      older = older;
      proposed = at;
      same_caller = same.0;
      same_call = same.1;
      same_ballot = ballot_same (and_left (is_ballot p.ballot ballot) _ e1);
      acked = acked_checked p.key ballot all (and_left (check_acked p.key ballot all) _ e2);
      outcome = (outcome_decides (outcome_there p older all) (record { state = state; took = who })).0 (and_right (check_acked p.key ballot all) _ e2);
    }
done_by m older at e = absurd cc

abbrev pub check_answer : List Mark → ℕ → ℕ → Answer → Bool
check_answer marks caller call (answer.Done state who ballot) = some_place (is_done_at marks caller call state who ballot) marks
check_answer marks caller call other = true

answer_checked : (marks : List Mark) (caller call : ℕ) (a : Answer) → check_answer marks caller call a ≡ true → MayAnswer marks caller call a
answer_checked marks caller call (answer.Done state who ballot) e =
    let f = found (is_done_at marks caller call state who ballot) marks e in
    done_by f.x f.older f.at f.passes
answer_checked marks caller call other e = tt

abbrev pub is_call_begun : ℕ → ℕ → Mark → List Mark → Bool
is_call_begun caller call (Begun c n k program) older = is_call caller call c n
is_call_begun caller call other older = false

record KeyOf (caller call : ℕ) (marks : List Mark) : Type 0 where
  key : List ℕ
  begun : IsBegun caller call key marks

call_begun_by : {caller call : ℕ} {all : List Mark} (m : Mark) (older : List Mark) → At m older all → is_call_begun caller call m older ≡ true → KeyOf caller call all
call_begun_by {caller} {call} {all} (Begun c n k program) older at e =
    let same = call_same {caller = caller} {call = call} {c = c} {n = n} e in
    record {
      key = k;
      begun = record {
        program = program;
        stands = stands_at (subst (λ x. At (Begun caller x k program) older all) same.1 (subst (λ x. At (Begun x n k program) older all) same.0 at));
      };
    }
call_begun_by m older at e = absurd cc

abbrev pub check_end : List Mark → ℕ → ℕ → Answer → Bool
check_end marks caller call a =
    some_place (is_call_begun caller call) marks && (not (check_ended caller call marks) && (check_answer marks caller call a
    && (implies (tells_refused a) (not (check_proposed caller call marks)) && (implies (tells_unsettled a) (check_proposed caller call marks)
    && nat_le (harms_due a) (harms_of caller call marks)))))

end_checked : (marks : List Mark) (caller call : ℕ) (a : Answer) → check_end marks caller call a ≡ true → MayEnd marks caller call a
end_checked marks caller call a e =
    let begun = some_place (is_call_begun caller call) marks in
    let e1 = and_right begun _ e in
    let e2 = and_right (not (check_ended caller call marks)) _ e1 in
    let e3 = and_right (check_answer marks caller call a) _ e2 in
    let refused = implies (tells_refused a) (not (check_proposed caller call marks)) in
    let e4 = and_right refused _ e3 in
    let unsettled = implies (tells_unsettled a) (check_proposed caller call marks) in
    let f = found (is_call_begun caller call) marks (and_left begun _ e) in
    let of = call_begun_by f.x f.older f.at f.passes in
    record {
      first = record {
        key = of.key;
        begun = of.begun;
        once = not_ended caller call marks (not_tells _ (and_left (not (check_ended caller call marks)) _ e1));
      };
      answered = answer_checked marks caller call a (and_left (check_answer marks caller call a) _ e2);
      refused = λ tells. not_proposed caller call marks (not_tells _ (use_implies (tells_refused a) _ (and_left refused _ e3) tells));
      unsettled = λ tells.
          let g = found (is_proposed_at caller call) marks (use_implies (tells_unsettled a) _ (and_left unsettled _ e4) tells) in
          proposed_by g.x g.older g.at g.passes;
      harmed = le_tells (and_right unsettled _ e4);
    }

-- ---- the whole
abbrev pub check_mark : Cluster → List Happening → Mark → Bool
check_mark cluster log (Begun caller call key program) = call == suc (calls_of caller (marks_of log))
check_mark cluster log (Proposed p) = check_propose cluster log p
check_mark cluster log (Voted acceptor key ballot) = check_vote log acceptor key ballot
check_mark cluster log (Acked a) = check_ack cluster log a
check_mark cluster log (Floor key ballot state) = check_floor key ballot state (marks_of log)
check_mark cluster log (EraEntered proposer era) = check_mark_era log proposer era
check_mark cluster log (Ended caller call rounds a) = check_end (marks_of log) caller call a
check_mark cluster log (Harmed caller call down) = true
check_mark cluster log (Told asked answer) = true

mark_checked : (cluster : Cluster) (log : List Happening) (m : Mark) → check_mark cluster log m ≡ true → MayMark cluster log m
mark_checked cluster log (Begun caller call key program) e = nat_same {a = call} {b = suc (calls_of caller (marks_of log))} e
mark_checked cluster log (Proposed p) e = propose_checked cluster log p e
mark_checked cluster log (Voted acceptor key ballot) e = vote_checked log acceptor key ballot e
mark_checked cluster log (Acked a) e = ack_checked cluster log a e
mark_checked cluster log (Floor key ballot state) e = floor_checked key ballot state (marks_of log) e
mark_checked cluster log (EraEntered proposer era) e = mark_era_checked log proposer era e
mark_checked cluster log (Ended caller call rounds a) e = end_checked (marks_of log) caller call a e
mark_checked cluster log (Harmed caller call down) e = tt
mark_checked cluster log (Told asked answer) e = tt

abbrev pub check_next : Cluster → List Happening → Happening → Bool
check_next cluster log (Marked mark) = check_mark cluster log mark
check_next cluster log (Promised acceptor key ballot told) = check_promise log acceptor key ballot told
check_next cluster log (Took acceptor key ballot ride) = check_take log acceptor key ballot
check_next cluster log (Dropped acceptor key tombstone) = check_drop log acceptor key tombstone
check_next cluster log (Entered proposer era) = check_enter cluster log proposer era
check_next cluster log other = true

next_checked : (cluster : Cluster) (log : List Happening) (h : Happening) → check_next cluster log h ≡ true → May cluster log h
next_checked cluster log (Marked mark) e = mark_checked cluster log mark e
next_checked cluster log (Promised acceptor key ballot told) e = promise_checked log acceptor key ballot told e
next_checked cluster log (Took acceptor key ballot ride) e = take_checked log acceptor key ballot e
next_checked cluster log (Dropped acceptor key tombstone) e = drop_checked log acceptor key tombstone e
next_checked cluster log (Entered proposer era) e = enter_checked cluster log proposer era e
next_checked cluster log other e = tt

-- whether each happening was allowed by what had happened before
abbrev pub check : Cluster → List Happening → Bool
check cluster [] = true
check cluster (h ∷ older) = check cluster older && check_next cluster older h

pub lawful_checked : (cluster : Cluster) (log : List Happening) → check cluster log ≡ true → Lawful cluster log
lawful_checked cluster [] e = tt
lawful_checked cluster (h ∷ older) e =
    (lawful_checked cluster older (and_left (check cluster older) (check_next cluster older h) e), next_checked cluster older h (and_right (check cluster older) (check_next cluster older h) e))
