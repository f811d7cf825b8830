-- A proposal that would be made next, above all that was drawn, on what acceptors may have left: its history begins with what is settled.
use Rattle.std.proofs.Common.{◌≡◌, ◌<◌, ◌≤◌, ℕ, suc, true, List, [], ◌∷◌, ◌++◌, Option, refl, sym, ap, subst, ◌∙◌, inl, inr, arith}
use Rattle.std.specs.Prelude.{◌⊎◌, ◌==◌, max}
use Rattle.cas_base.proofs.Bools.{or_cases, or_left, or_right}
use Rattle.cas_ballot.specs.declared.ballot.Ballot.{Ballot}
use Rattle.cas_ballot.specs.Ballot.{zero_ballot, BallotAtMost, BallotLess, greater_of}
use Rattle.cas_ballot.specs.Members.{has_member}
use Rattle.cas_ballot.proofs.BallotLemmas.{at_most_refl}
use Rattle.cas_slot.specs.declared.slot.Slot.{Slot}
use Rattle.cas_slot.specs.Contents.{Contents, kept_at}
use Rattle.cas_slot.specs.Slot.{accepted_of, accepted_ballot, promise_of}
use Rattle.cas_slot.specs.Table.{accepted_at}
use Rattle.cas_record.specs.declared.mark.Mark.{Mark}
use Rattle.cas_record.specs.declared.mark.Mark.TheVariants.{Begun, Proposed, Floor}
use Rattle.cas_record.specs.declared.mark.Proposal.{Proposal}
use Rattle.cas_change.specs.declared.state.State.{State}
use Rattle.cas_record.specs.declared.entry.Entry.{Entry}
use Rattle.cas_record.specs.Histories.Chain.{chain_of, link_of, top_of, settled_of, floor_below, keep_always}
use Rattle.cas_record.specs.Legal.{calls_of, IsBegun, IsAcked, HasFloor, IsFirstProposal}
use Rattle.cas_record.specs.Logs.Happening.{Happening, Marked, Promised, Dropped, Entered, marks_of}
use Rattle.cas_record.specs.Logs.Lawful.{Cluster, ClusterMeets, Lawful, HasSeen, in_promise, in_take, in_ride, IsFloored, IsMade, IsIn, MayPromise, MayPropose, by_promise, SlotTold, slot_told}
use Rattle.cas_record.specs.Places.{At, here, past, Stands, IsPrefix}
use Rattle.cas_record.proofs.LegalLemmas.{counted, is_numbered}
use Rattle.cas_record.proofs.Tests.{nat_same, nat_is}
use Rattle.cas_record.proofs.Histories.Calls.{begun_low}
use Rattle.cas_record.proofs.Histories.Chains.{chain_zero, top_cases}
use Rattle.cas_record.proofs.Logs.Lemmas.{BeginsHistory, acked_at, acked_proposed, chain_whole, link_begins, mark_at}
use Rattle.cas_record.proofs.Logs.Agreement.{Settles, settles_begins, settles_deeper, settles_top, agree}
use Rattle.cas_record.proofs.Logs.Eras.{seam_of}
use Rattle.cas_record.proofs.Logs.Slots.{may_promise}
use Rattle.cas_record.proofs.PlaceLemmas.{newest_or, nil_prefix, stands_deeper, stands_later}
use Rattle.cas_protocol.specs.Acceptors.{told_of}
use Rattle.cas_protocol.specs.Laws.{LogTellsKept}

-- ---- counters
-- a ballot whose counter is below that of another is less
less_by : (a b : Ballot) → a.counter < b.counter → BallotLess a b
less_by a b less = record { counters = omega (arith, less); proposers = λ same. absurd (omega (arith, less, same)) }

at_most_by : (a b : Ballot) → a.counter < b.counter → BallotAtMost a b
at_most_by a b less = record { counters = omega (arith, less); proposers = λ same. absurd (omega (arith, less, same)) }

-- the greatest counter of what was removed
abbrev drops : List Happening → ℕ
drops [] = 0
drops (Dropped a k tomb ∷ older) = max tomb.counter (drops older)
drops (other ∷ older) = drops older

drops_more : (happening : Happening) (older : List Happening) → drops older ≤ drops (happening ∷ older)
drops_more (Dropped a k tomb) older = omega arith
drops_more other older = omega arith

drop_at : {a : ℕ} {k : List ℕ} {tomb : Ballot} {older log : List Happening} → At (Dropped a k tomb) older log → tomb.counter ≤ drops log
drop_at here = omega arith
drop_at (past {y = happening} {rest = rest} at) = omega (arith, drop_at at, drops_more happening rest)

-- the greatest counter of what was proposed and of the floors
abbrev makes : List Mark → ℕ
makes [] = 0
makes (Proposed p ∷ older) = max p.ballot.counter (makes older)
makes (Floor k floor state ∷ older) = max floor.counter (makes older)
makes (other ∷ older) = makes older

makes_more : (mark : Mark) (older : List Mark) → makes older ≤ makes (mark ∷ older)
makes_more (Proposed p) older = omega arith
makes_more (Floor k floor state) older = omega arith
makes_more other older = omega arith

proposed_at : {p : Proposal} {older marks : List Mark} → At (Proposed p) older marks → p.ballot.counter ≤ makes marks
proposed_at here = omega arith
proposed_at (past {y = mark} {rest = rest} at) = omega (arith, proposed_at at, makes_more mark rest)

floor_at : {key : List ℕ} {floor : Ballot} {state : State} {older marks : List Mark} → At (Floor key floor state) older marks → floor.counter ≤ makes marks
floor_at here = omega arith
floor_at (past {y = mark} {rest = rest} at) = omega (arith, floor_at at, makes_more mark rest)

-- ---- what one acceptor may promise
-- It may promise each ballot of the key above some counter, and tell this one.
pub record MayPromiseAbove (log : List Happening) (id : ℕ) (key : List ℕ) (told : Ballot) : Type 0 where
  pub above : ℕ
  pub may : (ballot : Ballot) → above < ballot.counter → MayPromise log id key ballot told

seen_later : (done : List Happening) {log : List Happening} {id : ℕ} {key : List ℕ} {ballot : Ballot} → HasSeen log id key ballot → HasSeen (done ++ log) id key ballot
seen_later done (in_promise told stands) = in_promise told (stands_later done stands)
seen_later done (in_take ride stands) = in_take ride (stands_later done stands)
seen_later done (in_ride taken stands) = in_ride taken (stands_later done stands)

-- that of what it may have left
pub left_tells : (cluster : Cluster) (done log : List Happening) (id : ℕ) (left : Contents) (key : List ℕ) → LogTellsKept cluster (done ++ log) id left
    → marks_of (done ++ log) ≡ marks_of log
    → MayPromiseAbove log id key (accepted_ballot (accepted_at left key))
left_tells cluster done log id left key on marks = record {
  above = max (drops (done ++ log)) (max (promise_of (kept_at left key)).counter (accepted_ballot (accepted_of (kept_at left key))).counter);
  may = λ ballot high.
      (let so : MayPromise (done ++ log) id key ballot (accepted_ballot (accepted_at left key)) = by_log ballot high in
      record {
        seen = λ seen has. so.seen seen (seen_later done has);
        tells = λ {taken} {ride} took. subst (λ (m : List Mark). BallotAtMost taken (accepted_ballot (accepted_at left key)) ⊎ IsFloored key taken ballot m) marks (so.tells (stands_later done took));
      });
}
  where
    slot : Option Slot
    slot = kept_at left key

    told : slot_told (done ++ log) id key ≡ told_of (kept_at left key)
    told = on.tells.slots key

    by_log : (ballot : Ballot) → max (drops (done ++ log)) (max (promise_of (kept_at left key)).counter (accepted_ballot (accepted_of (kept_at left key))).counter) < ballot.counter
        → MayPromise (done ++ log) id key ballot (accepted_ballot (accepted_at left key))
    by_log ballot high = subst (MayPromise (done ++ log) id key ballot) (ap (λ (s : SlotTold). s.accepted) told)
        (may_promise cluster (done ++ log) id key ballot on.lawful
        (record { above = λ {tombstone} stands. less_by tombstone ballot (omega (arith, high, drop_at stands.at)) })
        (subst (λ (s : SlotTold). BallotAtMost s.promise ballot) (sym told) (at_most_by (promise_of (kept_at left key)) ballot (omega (arith, high))))
        (subst (λ (s : SlotTold). BallotAtMost s.accepted ballot) (sym told) (at_most_by (accepted_ballot (accepted_of (kept_at left key))) ballot (omega (arith, high)))))

-- ---- what each of some acceptors may promise
pub record AllMayTell (log : List Happening) (key : List ℕ) (told : ℕ → Ballot) (by : List ℕ) : Type 0 where
  pub above : ℕ
  pub may : (id : ℕ) → has_member by id ≡ true → (ballot : Ballot) → above < ballot.counter → MayPromise log id key ballot (told id)

member_here : (x : ℕ) (xs : List ℕ) → has_member (x ∷ xs) x ≡ true
member_here x xs = or_left (x == x) (has_member xs x) (nat_is {a = x} refl)

member_past : (x : ℕ) (xs : List ℕ) (id : ℕ) → has_member xs id ≡ true → has_member (x ∷ xs) id ≡ true
member_past x xs id member = or_right (x == id) (has_member xs id) member

pub all_may_tell : (log : List Happening) (key : List ℕ) (told : ℕ → Ballot) (by : List ℕ) → ((id : ℕ) → has_member by id ≡ true → MayPromiseAbove log id key (told id))
    → AllMayTell log key told by
all_may_tell log key told [] each = record { above = 0; may = λ id member. absurd (cc member) }
all_may_tell log key told (x ∷ xs) each =
    let first = each x (member_here x xs) in
    let rest = all_may_tell log key told xs (λ id member. each id (member_past x xs id member)) in
    record {
      above = max first.above rest.above;
      may = λ id member ballot high. elim (or_cases (x == id) (has_member xs id) member) [
        | inl same ↦ subst (λ (n : ℕ). MayPromise log n key ballot (told n)) (nat_same {a = x} {b = id} same) (first.may ballot (omega (arith, high)))
        | inr later ↦ rest.may id later ballot (omega (arith, high))
      ];
    }

-- ---- they promise
module _ (key : List ℕ) (ballot : Ballot) (told : ℕ → Ballot) where
  abbrev promised_by : List ℕ → List Happening → List Happening
  promised_by [] log = log
  promised_by (x ∷ xs) log = Promised x key ballot (told x) ∷ promised_by xs log

  still_may : (xs : List ℕ) (log : List Happening) (id : ℕ) (t : Ballot) → MayPromise log id key ballot t → MayPromise (promised_by xs log) id key ballot t
  still_may [] log id t may = may
  still_may (x ∷ xs) log id t may =
      let before = still_may xs log id t may in
      record {
        seen = λ seen has. seen_now seen before has;
        tells = λ {taken} {ride} took. elim (newest_or took) [
          | inl same ↦ absurd (cc same)
          | inr older ↦ before.tells older
        ];
      }
    where
      seen_now : (seen : Ballot) → MayPromise (promised_by xs log) id key ballot t → HasSeen (Promised x key ballot (told x) ∷ promised_by xs log) id key seen
          → BallotAtMost seen ballot
      seen_now seen before (in_promise other stands) = elim (newest_or stands) [
        | inl same ↦ let is : seen ≡ ballot = cc same in subst (BallotAtMost seen) is (at_most_refl seen)
        | inr older ↦ before.seen seen (in_promise other older)
      ]
      seen_now seen before (in_take ride stands) = elim (newest_or stands) [
        | inl same ↦ absurd (cc same)
        | inr older ↦ before.seen seen (in_take ride older)
      ]
      seen_now seen before (in_ride taken stands) = elim (newest_or stands) [
        | inl same ↦ absurd (cc same)
        | inr older ↦ before.seen seen (in_ride taken older)
      ]

  lawful_by : (cluster : Cluster) (xs : List ℕ) (log : List Happening) → Lawful cluster log → ((id : ℕ) → has_member xs id ≡ true → MayPromise log id key ballot (told id))
      → Lawful cluster (promised_by xs log)
  lawful_by cluster [] log lawful may = lawful
  lawful_by cluster (x ∷ xs) log lawful may = (lawful_by cluster xs log lawful (λ id member. may id (member_past x xs id member)), still_may xs log x (told x) (may x (member_here x xs)))

  marks_by : (xs : List ℕ) (log : List Happening) → marks_of (promised_by xs log) ≡ marks_of log
  marks_by [] log = refl
  marks_by (x ∷ xs) log = marks_by xs log

  at_by : (xs : List ℕ) (log : List Happening) {happening : Happening} {older : List Happening} → At happening older log → At happening older (promised_by xs log)
  at_by [] log at = at
  at_by (x ∷ xs) log at = past (at_by xs log at)

  in_by : (xs : List ℕ) (log : List Happening) (proposer era : ℕ) → IsIn log proposer era → IsIn (promised_by xs log) proposer era
  in_by xs log proposer era (inl none) = inl none
  in_by xs log proposer era (inr entered) = inr (record { older = entered.older; at = at_by xs log entered.at })

  entered_then : (xs : List ℕ) (log : List Happening) (proposer era : ℕ) → Stands (Entered proposer era) (promised_by xs log) → Stands (Entered proposer era) log
  entered_then [] log proposer era stands = stands
  entered_then (x ∷ xs) log proposer era stands = elim (newest_or stands) [
    | inl same ↦ absurd (cc same)
    | inr older ↦ entered_then xs log proposer era older
  ]

  -- each of them has promised it, behind what the log has
  stand_by : (xs : List ℕ) (log : List Happening) (id proposer era : ℕ) → has_member xs id ≡ true → IsIn log proposer era
      → (place : Stands (Promised id key ballot (told id)) (promised_by xs log)) × IsIn place.older proposer era
  stand_by [] log id proposer era member is_in = absurd (cc member)
  stand_by (x ∷ xs) log id proposer era member is_in = elim (or_cases (x == id) (has_member xs id) member) [
    | inl same ↦ subst (λ (n : ℕ). (place : Stands (Promised n key ballot (told n)) (Promised x key ballot (told x) ∷ promised_by xs log)) × IsIn place.older proposer era)
        (nat_same {a = x} {b = id} same)
        (record { older = promised_by xs log; at = here }, in_by xs log proposer era is_in)
    | inr later ↦ (let found = stand_by xs log id proposer era later is_in in (record { older = found.0.older; at = past found.0.at }, found.1))
  ]

-- ---- the proposal that would be made next
-- A proposer that is in the era, and in none beyond, reads this of a prepare quorum of it: each of them may tell at most that.
pub record MayRead (cluster : Cluster) (log : List Happening) (key : List ℕ) (proposer era : ℕ) (by : List ℕ) (told : ℕ → Ballot) (read : Ballot) : Type 0 where
  pub known : proposer ≤ cluster.last_proposer
  pub is_in : IsIn log proposer era
  pub not_beyond : Stands (Entered proposer (suc era)) log → ⊥
  pub quorum : cluster.prepares era by ≡ true
  pub tells : AllMayTell log key told by
  pub most : (id : ℕ) → has_member by id ≡ true → BallotAtMost (told id) read
  pub stands : (read ≡ zero_ballot) ⊎ IsMade key read (marks_of log)

-- What is settled begins the history of what it read, or of the greatest floor, if that is greater.
pub record BeginsWithSettled (log : List Happening) (key : List ℕ) (read : Ballot) : Type 0 where
  pub ballot : Ballot
  pub above_floors : (floor : Ballot) → HasFloor key floor (marks_of log) → BallotLess floor ballot
  pub begins : IsPrefix (settled_of key (marks_of log)) (chain_of key (greater_of read (floor_below key ballot (marks_of log))) (marks_of log))

-- a call that would be the next of its caller was not begun
not_begun : (cluster : Cluster) (log : List Happening) (caller call : ℕ) (c n : ℕ) (key : List ℕ) → Lawful cluster log → call ≡ suc (calls_of caller (marks_of log))
    → c ≡ caller → n ≡ call → IsBegun c n key (marks_of log) → ⊥
not_begun cluster log caller call c n key lawful next same_caller same_call begun =
    let low : n ≤ calls_of c (marks_of log) = begun_low (counted cluster log lawful) begun.stands in
    omega (arith, low, next, same_call, ap (λ (k : ℕ). calls_of k (marks_of log)) same_caller)

module _ (cluster : Cluster) (meets : ClusterMeets cluster) (log : List Happening) (lawful : Lawful cluster log) (key : List ℕ) (proposer era : ℕ) (by : List ℕ) (told : ℕ → Ballot)
    (read : Ballot) (may : MayRead cluster log key proposer era by told read) where
  call : ℕ
  call = suc (calls_of proposer (marks_of log))

  abbrev high : Ballot
  high = record { counter = suc (max (makes (marks_of log)) may.tells.above); proposer = proposer }

  abbrev begun : List Happening
  begun = Marked (Begun proposer (suc (calls_of proposer (marks_of log))) key keep_always) ∷ log

  abbrev made : Proposal
  made = record { caller = proposer; call = suc (calls_of proposer (marks_of log)); key = key; ballot = high; read = read; era = era; prepared_by = by }

  begun_lawful : Lawful cluster begun
  begun_lawful = (lawful, refl)

  -- what may be promised may still be, once the call has begun
  begun_may : (id : ℕ) → has_member by id ≡ true → MayPromise begun id key high (told id)
  begun_may id member =
      let before = may.tells.may id member high (omega arith) in
      record {
        seen = λ seen has. before.seen seen (seen_before seen has);
        tells = λ {taken} {ride} took. elim (newest_or took) [
          | inl same ↦ absurd (cc same)
          | inr older ↦ elim (before.tells older) [
            | inl low ↦ inl low
            | inr floored ↦ inr (record {
              floor = floored.floor;
              state = floored.state;
              stands = record { older = floored.stands.older; at = past floored.stands.at };
              above = floored.above;
              below = floored.below;
            })
          ]
        ];
      }
    where
      seen_before : (seen : Ballot) → HasSeen begun id key seen → HasSeen log id key seen
      seen_before seen (in_promise other stands) = elim (newest_or stands) [
        | inl same ↦ absurd (cc same)
        | inr older ↦ in_promise other older
      ]
      seen_before seen (in_take ride stands) = elim (newest_or stands) [
        | inl same ↦ absurd (cc same)
        | inr older ↦ in_take ride older
      ]
      seen_before seen (in_ride taken stands) = elim (newest_or stands) [
        | inl same ↦ absurd (cc same)
        | inr older ↦ in_ride taken older
      ]

  abbrev promised : List Happening
  promised = promised_by key high told by begun

  promised_lawful : Lawful cluster promised
  promised_lawful = lawful_by key high told cluster by begun begun_lawful begun_may

  promised_marks : marks_of promised ≡ marks_of begun
  promised_marks = marks_by key high told by begun

  floors_low : (floor : Ballot) → HasFloor key floor (marks_of log) → BallotLess floor high
  floors_low floor has = less_by floor high (omega (arith, floor_at has.stands.at))

  read_low : (read ≡ zero_ballot) ⊎ IsMade key read (marks_of log) → BallotLess read high
  read_low (inl zero) = less_by read high (omega (arith, ap (λ (b : Ballot). b.counter) zero))
  read_low (inr (inl proposed)) = less_by read high (omega (arith, proposed_at proposed.stands.at, ap (λ (b : Ballot). b.counter) proposed.same_ballot))
  read_low (inr (inr floor)) = floors_low read floor

  made_then : (read ≡ zero_ballot) ⊎ IsMade key read (marks_of log) → (read ≡ zero_ballot) ⊎ IsMade key read (marks_of begun)
  made_then (inl zero) = inl zero
  made_then (inr (inl proposed)) = inr (inl (record {
    proposal = proposed.proposal;
    stands = record { older = proposed.stands.older; at = past proposed.stands.at };
    same_key = proposed.same_key;
    same_ballot = proposed.same_ballot;
  }))
  made_then (inr (inr floor)) = inr (inr (record { state = floor.state; stands = record { older = floor.stands.older; at = past floor.stands.at } }))

  first : IsFirstProposal made (marks_of begun)
  first = record {
    begun = record { program = keep_always; stands = record { older = marks_of log; at = here } };
    once = λ proposed. elim (newest_or proposed.stands) [
      | inl same ↦ cc same
      | inr older ↦
          let p = proposed.proposal in
          let was = (is_numbered cluster log lawful).proposed older.at in
          not_begun cluster log proposer _ p.caller p.call p.key lawful refl proposed.same_caller proposed.same_call
          (record { program = was.begun.program; stands = stands_deeper was.begun.stands older.at })
    ];
    open_yet = λ ended. elim (newest_or ended.stands) [
      | inl same ↦ cc same
      | inr older ↦
          let was = (is_numbered cluster log lawful).ended older.at in
          not_begun cluster log proposer _ proposer _ was.key lawful refl refl refl (record { program = was.begun.program; stands = stands_deeper was.begun.stands older.at })
    ];
    fresh = λ proposed. elim (newest_or proposed.stands) [
      | inl same ↦ cc same
      | inr older ↦ omega (arith, proposed_at older.at, ap (λ (b : Ballot). b.counter) proposed.same_ballot)
    ];
  }

  floor_before : (floor : Ballot) (state : State) → Stands (Floor key floor state) (marks_of begun) → BallotLess floor high
  floor_before floor state stands = elim (newest_or stands) [
    | inl same ↦ absurd (cc same)
    | inr older ↦ floors_low floor (record { state = state; stands = older })
  ]

  -- it may be proposed
  may_propose : MayPropose cluster promised made
  may_propose = record {
    first = subst (IsFirstProposal made) (sym promised_marks) first;
    above_read = read_low may.stands;
    read_stands = subst (λ (m : List Mark). (read ≡ zero_ballot) ⊎ IsMade key read m) (sym promised_marks) (made_then may.stands);
    above_floors = λ {floor} {state} stands. floor_before floor state (subst (Stands (Floor key floor state)) promised_marks stands);
    quorum = may.quorum;
    granted = λ id member.
        (let stand = stand_by key high told by begun id proposer era member begun_in in
        by_promise (told id) stand.0 (may.most id member) stand.1);
    known = may.known;
    is_in = in_by key high told by begun proposer era begun_in;
    not_beyond = λ stands. elim (newest_or (entered_then key high told by begun proposer (suc era) stands)) [
      | inl same ↦ cc same
      | inr older ↦ may.not_beyond older
    ];
  }
    where
      begun_in : IsIn begun proposer era
      begun_in = elim may.is_in [
        | inl none ↦ inl none
        | inr entered ↦ inr (record { older = entered.older; at = past entered.at })
      ]

  abbrev proposed : List Happening
  proposed = Marked (Proposed made) ∷ promised

  proposed_lawful : Lawful cluster proposed
  proposed_lawful = (promised_lawful, may_propose)

  -- the same history before it
  chain_before : (ballot : Ballot) → BeginsHistory key ballot promised → chain_of key ballot (marks_of log) ≡ chain_of key ballot (marks_of proposed)
  chain_before ballot begins = sym (ap (λ (m : List Mark). chain_of key ballot m) promised_marks) ∙ chain_whole cluster {happening = Marked (Proposed made)} proposed_lawful here begins

  link : link_of (marks_of promised) made ≡ greater_of read (floor_below key high (marks_of log))
  link = ap (λ (m : List Mark). greater_of read (floor_below key high m)) promised_marks

  settles : Settles key (top_of key (marks_of log)) log
      → IsPrefix (settled_of key (marks_of log)) (chain_of key (greater_of read (floor_below key high (marks_of log))) (marks_of log))
  settles of =
      let top = top_of key (marks_of log) in
      let there : Settles key top promised = settles_deeper of (at_by key high told by begun here) in
      let less : BallotLess top high = top_low (top_cases key (marks_of log)) in
      let on : IsPrefix (chain_of key top (marks_of proposed)) (chain_of key (link_of (marks_of promised) made) (marks_of proposed)) =
      agree cluster proposed_lawful (seam_of cluster meets proposed proposed_lawful) (settles_deeper there here) here less in
      subst (λ (b : Ballot). IsPrefix (settled_of key (marks_of log)) (chain_of key b (marks_of log))) link
      (subst (IsPrefix (settled_of key (marks_of log))) (sym (chain_before (link_of (marks_of promised) made) (link_begins cluster proposed_lawful here)))
      (subst (λ (h : List Entry). IsPrefix h (chain_of key (link_of (marks_of promised) made) (marks_of proposed))) (sym (chain_before top (settles_begins cluster promised_lawful there))) on))
    where
      top_low : (top_of key (marks_of log) ≡ zero_ballot) ⊎ (IsAcked key (top_of key (marks_of log)) (marks_of log) ⊎ HasFloor key (top_of key (marks_of log)) (marks_of log))
          → BallotLess (top_of key (marks_of log)) high
      top_low (inl zero) = less_by (top_of key (marks_of log)) high (omega (arith, ap (λ (b : Ballot). b.counter) zero))
      top_low (inr (inl acked)) =
          let p = acked_proposed cluster lawful (acked_at log acked) in
          less_by (top_of key (marks_of log)) high (omega (arith, proposed_at (mark_at p.at), ap (λ (b : Ballot). b.counter) p.same_ballot))
      top_low (inr (inr floor)) = floors_low (top_of key (marks_of log)) floor

  pub begins_with_settled : BeginsWithSettled log key read
  begins_with_settled = record {
    ballot = high;
    above_floors = floors_low;
    begins = elim (settles_top cluster log key lawful) [
      | inl zero ↦ subst (λ (h : List Entry). IsPrefix h (chain_of key (greater_of read (floor_below key high (marks_of log))) (marks_of log)))
          (sym (ap (λ (b : Ballot). chain_of key b (marks_of log)) zero ∙ chain_zero key (marks_of log))) (nil_prefix _)
      | inr of ↦ settles of
    ];
  }
