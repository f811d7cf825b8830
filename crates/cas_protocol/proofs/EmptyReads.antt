-- A register that a read found empty was empty at some time since the read began, also if it was collected meanwhile.
use Rattle.std.proofs.Common.{◌≡◌, ℕ, suc, true, false, List, [], Some, arith, refl, sym, ap, subst, ◌∙◌, inl, inr}
use Rattle.std.specs.Prelude.{◌⊎◌, ◌&&◌, not}
use Rattle.cas_base.proofs.Bools.{both_true, not_of_false, or_left, or_right}
use Rattle.cas_ballot.specs.declared.ballot.Ballot.{Ballot}
use Rattle.cas_ballot.specs.Ballot.{zero_ballot, BallotAtMost, BallotLess}
use Rattle.cas_ballot.specs.Members.{has_member}
use Rattle.cas_ballot.proofs.BallotLemmas.{at_most_refl, at_most_trans, at_most_antisym, zero_at_most, less_irreflexive, less_not_at_most}
use Rattle.cas_change.specs.declared.state.State.{State}
use Rattle.cas_change.specs.declared.state.State.TheVariants.{Empty}
use Rattle.cas_record.specs.declared.entry.Entry.{Entry}
use Rattle.cas_record.specs.declared.mark.Mark.{Mark}
use Rattle.cas_record.specs.declared.mark.Mark.TheVariants.{Floor}
use Rattle.cas_record.specs.Histories.Chain.{is_key, is_ballot, has_calls, opens_at, has_opening, chain_of, top_of, settled_of}
use Rattle.cas_record.specs.Histories.Replay.{replay_from, opening_state}
use Rattle.cas_record.specs.Laws.{HistoryIsOpened}
use Rattle.cas_record.specs.Legal.{HasFloor}
use Rattle.cas_record.specs.Logs.Happening.{Happening, Took, marks_of}
use Rattle.cas_record.specs.Logs.Lawful.{Cluster, Lawful, HasOpening}
use Rattle.cas_record.specs.Logs.Orderly.{MayDraw}
use Rattle.cas_record.specs.Places.{At, Stands, IsPrefix, here, past}
use Rattle.cas_record.proofs.Histories.Chains.{OpensAt, chain_zero, chain-none}
use Rattle.cas_record.proofs.Logs.Agreement.{Seam, Settles, by_ack, by_opening, settles_top, settles_begins, settles_floor, settled_begins}
use Rattle.cas_record.proofs.Logs.Eras.{le_or_lt, enter_law, rescan_at, seam_of}
use Rattle.cas_record.proofs.Logs.Lemmas.{lawful_older, mark_at, mark_stands, part_of, ProposedAt, proposed_at, proposed_deeper, AckedAt, acked_at, acked_deeper, acked_proposed, OpeningAt, above_opening, chain_whole, has_none_opening}
use Rattle.cas_record.proofs.Logs.Openings.{opening_before, opening_at, opening_in_log, never_proposed}
use Rattle.cas_record.proofs.Logs.Orders.{reason}
use Rattle.cas_record.proofs.PlaceLemmas.{deeper, stands_at, stands_part, nil_prefix}
use Rattle.cas_record.proofs.Tests.{key_is, ballot_is}
use Rattle.cas_protocol.specs.Acceptors.{IsEmptyAt}
use Rattle.cas_protocol.specs.Reads.{WasEmptySince, ReadsOfNothingWereEmpty}
use Rattle.cas_protocol.proofs.Held.{begins}
use Rattle.cas_protocol.proofs.Proposes.{opens_empty}
use Rattle.cas_protocol.proofs.QuorumReads.{Reached, by_member, by_floor, RemovedAt, reached, told_after, removed_at, floor_low, acked_low, acked_some}

-- a floor that was made before any call began opens a history
opens_is : {key : List ℕ} {floor : Ballot} {state : State} {older marks : List Mark} → At (Floor key floor state) older marks → has_calls older ≡ false → has_opening key floor marks ≡ true
opens_is {key} {floor} {state} {older} here none =
    or_left (opens_at key floor (Floor key floor state) older) (has_opening key floor older)
    (both_true (is_key key key) (is_ballot floor floor && not (has_calls older)) (key_is {a = key} {b = key} refl)
    (both_true (is_ballot floor floor) (not (has_calls older)) (ballot_is {a = floor} {b = floor} refl) (not_of_false (has_calls older) none)))
opens_is {key} {floor} (past {y = mark} {rest = rest} at) none = or_right (opens_at key floor mark rest) (has_opening key floor rest) (opens_is at none)

-- where the empty state was made the key's history did not open
empty_apart : (cluster : Cluster) {log : List Happening} {key : List ℕ} {floor : Ballot} → Lawful cluster log → OpeningAt key floor log → IsEmptyAt (marks_of log) key floor → ⊥
empty_apart cluster {log} {key} {floor} lawful o empty =
    let made = empty.1 in
    let p : ProposedAt key floor log = proposed_at log (record { proposal = made.proposal; stands = made.stands; same_key = made.same_key; same_ballot = made.same_ballot }) in
    let above : BallotLess floor p.proposal.ballot = above_opening cluster lawful p.at (subst (λ k. OpeningAt k floor log) (sym p.same_key) o) in
    less_irreflexive (subst (BallotLess floor) p.same_ballot above)

pub empty_since : ReadsOfNothingWereEmpty
empty_since cluster meets before log tag key by lawful orderly floors known read = by_top (settles_top cluster before key there)
  where
    marks : List Mark
    marks = marks_of before

    now : List Mark
    now = marks_of log

    top : Ballot
    top = top_of key marks

    there : Lawful cluster before
    there = lawful_older cluster lawful read.drawn

    seam : Seam log
    seam = seam_of cluster meets log lawful

    drew : MayDraw cluster before tag [] read.era
    drew = reason cluster orderly read.drawn

    -- what was settled begins the history up to an empty floor at or above it
    starts : {floor : Ballot} → Settles key top before → IsEmptyAt now key floor → BallotAtMost top floor → IsPrefix (settled_of key marks) (chain_of key floor now)
    starts {floor} (by_ack a) empty high =
        subst (λ (xs : List Entry). IsPrefix xs (chain_of key floor now)) (sym (chain_whole cluster lawful read.drawn (settles_begins cluster there (by_ack a))))
        (begins cluster log key top lawful seam (acked_deeper a read.drawn) (Some (record { ballot = floor; era = empty.0; state = Empty })) (inl empty.1) high)
    starts {floor} (by_opening o) empty high = subst (λ (xs : List Entry). IsPrefix xs (chain_of key floor now)) (sym (chain-none key top marks (has_none_opening cluster there o))) (nil_prefix _)

    at_floor : {floor : Ballot} → Settles key top before → HasFloor key floor now → IsEmptyAt now key floor → BallotAtMost top floor → WasEmptySince before log key
    at_floor {floor} settles has empty high = record {
      ballot = floor;
      goes_on = starts settles empty high;
      begins = settled_begins cluster lawful seam (settles_floor cluster lawful has) (floor_low has.stands.at);
      empty = sym empty.1.state_is;
    }

    removed : {acceptor : ℕ} {taken ride : Ballot} → has_member by acceptor ≡ true → Stands (Took acceptor key taken ride) before → (taken ≡ zero_ballot → ⊥) → RemovedAt cluster log key taken
    removed {acceptor} member took some =
        let told = read.told acceptor member in
        removed_at cluster lawful orderly (told_after cluster orderly read.drawn told.probed told.same_ballot) took some

    -- whoever removed what it had taken did so at an empty floor
    at_removed : {taken : Ballot} → Settles key top before → RemovedAt cluster log key taken → BallotAtMost top taken → WasEmptySince before log key
    at_removed settles gone high = elim (known.empty gone.floor gone.has) [
      | inl empty ↦ at_floor settles gone.has empty (at_most_trans high gone.above)
      | inr opened ↦ absurd (never_proposed cluster lawful opened.opening (proposed_deeper (acked_proposed cluster (lawful_older cluster lawful gone.at) (acked_at gone.asked gone.acked)) gone.at))
    ]

    still : {floor : Ballot} → HasFloor key floor marks → HasFloor key floor now
    still has = record { state = has.state; stands = stands_part has.stands (part_of read.drawn) }

    by_reached : (a : AckedAt key top before) → Reached before key by top → WasEmptySince before log key
    by_reached a (by_member acceptor taken ride member took high) =
        at_removed (by_ack a) (removed member took (λ zero. acked_some cluster there a (at_most_antisym (subst (BallotAtMost top) zero high) (zero_at_most top)))) high
    by_reached a (by_floor floor has high) = elim (known.empty floor (still has)) [
      | inl empty ↦ at_floor (by_ack a) (still has) empty high
      | inr opened ↦
          let p = acked_proposed cluster lawful (acked_deeper a read.drawn) in
          let above : BallotLess floor p.proposal.ballot = above_opening cluster lawful p.at (subst (λ k. OpeningAt k floor log) (sym p.same_key) (opening_at cluster lawful opened.opening)) in
          absurd (less_not_at_most (subst (BallotLess floor) p.same_ballot above) high)
    ]

    -- the floor with which the history opened was taken by a quorum
    by_opened : OpeningAt key top before → HistoryIsOpened cluster before key top → WasEmptySince before log key
    by_opened o opened = elim (le_or_lt read.era 1) [
      | inl near ↦
          let shared = meets read.era 0 (omega arith) (omega arith) by opened.by read.quorum opened.accepts in
          at_removed (by_opening o) (removed shared.left (opened.took shared.acceptor shared.right) (λ zero. less_irreflexive (subst (BallotLess zero_ballot) zero opened.some))) (at_most_refl top)
      | inr far ↦ elim drew.is_in [
        | inl first ↦ absurd (omega arith)
        | inr entered ↦
            let may = enter_law cluster there entered.at in
            let next : read.era ≡ suc may.left = may.next in
            elim (may.may_leave.openings (opening_before (λ no. no) opened.opening entered.at) (omega arith)) [
              | inl rescanned ↦
                  let r = rescan_at cluster entered.older rescanned in
                  let above : BallotLess top r.proposal.ballot = above_opening cluster there (deeper r.at entered.at) (subst (λ k. OpeningAt k top before) (sym r.same_key) o) in
                  absurd (less_not_at_most above (acked_low (acked_deeper r.acked entered.at)))
              | inr above ↦ absurd (less_not_at_most above.above (floor_low (stands_part above.stands (part_of entered.at)).at))
            ]
      ]
    ]

    from_opening : OpeningAt key top before → WasEmptySince before log key
    from_opening o =
        let has : HasFloor key top marks = record { state = o.state; stands = mark_stands (stands_at o.at) } in
        elim (floors.empty top has) [
          | inl empty ↦ absurd (empty_apart cluster there o empty)
          | inr opened ↦ by_opened o opened
        ]

    -- with nothing settled before, no floor opened the history later either
    never_opened : top ≡ zero_ballot → (floor : Ballot) → OpensAt key floor now → ⊥
    never_opened zero floor o = elim (known.empty floor (record { state = o.state; stands = stands_at o.at })) [
      | inl empty ↦ empty_apart cluster lawful (opening_in_log cluster log lawful (opens_is o.at o.none)) empty
      | inr opened ↦
          let first : HasOpening key floor before = opening_before (λ no. no) opened.opening read.drawn in
          let low : BallotAtMost floor top = floor_low (mark_at first.at) in
          less_not_at_most opened.some (subst (BallotAtMost floor) zero low)
    ]

    by_top : (top ≡ zero_ballot) ⊎ Settles key top before → WasEmptySince before log key
    by_top (inl zero) = record {
      ballot = zero_ballot;
      goes_on = subst (λ (xs : List Entry). IsPrefix xs (chain_of key zero_ballot now)) (sym (ap (λ b. chain_of key b marks) zero ∙ chain_zero key marks)) (nil_prefix _);
      begins = subst (λ (xs : List Entry). IsPrefix xs (settled_of key now)) (sym (chain_zero key now)) (nil_prefix _);
      empty = ap (λ (xs : List Entry). replay_from (opening_state key now) xs) (chain_zero key now) ∙ opens_empty key now (never_opened zero);
    }
    by_top (inr (by_ack a)) = by_reached a (reached cluster meets there drew.known drew.is_in read.not_beyond read.quorum a)
    by_top (inr (by_opening o)) = from_opening o
