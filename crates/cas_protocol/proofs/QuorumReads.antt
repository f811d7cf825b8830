-- What a read of a quorum tells goes on from what was settled when it began.
use Rattle.std.proofs.Common.{◌≡◌, ◌≤◌, ℕ, suc, true, List, [], ◌∷◌, Option, Some, arith, refl, sym, ap, subst, ◌∙◌, inl, inr}
use Rattle.std.specs.Prelude.{◌⊎◌}
use Rattle.cas_base.proofs.Bools.{if_true}
use Rattle.cas_ballot.specs.declared.ballot.Ballot.{Ballot}
use Rattle.cas_ballot.specs.Ballot.{zero_ballot, greater_of, BallotAtMost, BallotLess}
use Rattle.cas_ballot.specs.Members.{has_member}
use Rattle.cas_ballot.proofs.BallotLemmas.{at_most_refl, at_most_trans, at_most_antisym, at_most_greater_left, zero_at_most, less_irreflexive, less_not_at_most}
use Rattle.cas_change.specs.declared.state.State.{State}
use Rattle.cas_change.specs.declared.state.State.TheVariants.{Empty}
use Rattle.cas_slot.specs.declared.message.Ask.TheVariants as ask
use Rattle.cas_slot.specs.declared.message.Request.{Request}
use Rattle.cas_slot.specs.declared.slot.Accepted.{Accepted}
use Rattle.cas_slot.specs.Slot.{accepted_ballot}
use Rattle.cas_record.specs.declared.entry.Entry.{Entry}
use Rattle.cas_record.specs.declared.mark.Mark.{Mark}
use Rattle.cas_record.specs.declared.mark.Mark.TheVariants.{Proposed, Floor}
use Rattle.cas_record.specs.declared.mark.Proposal.{Proposal}
use Rattle.cas_record.specs.Histories.Chain.{is_key, chain_of, top_of, settled_of}
use Rattle.cas_record.specs.Histories.Replay.{replay_from, opening_state}
use Rattle.cas_record.specs.Laws.{HistoryIsOpened}
use Rattle.cas_record.specs.Legal.{HasFloor, IsAcked}
use Rattle.cas_record.specs.Logs.Happening.{Happening, Marked, Asked, Took, Entered, Drew, marks_of}
use Rattle.cas_record.specs.Logs.Lawful.{Cluster, ClusterMeets, Lawful, IsIn, MayDrop, slot_told}
use Rattle.cas_record.specs.Logs.Orderly.{Orderly, MayAsk, MayDraw, MayDropBy, IsClear, took_it, IsNoneOrAbove}
use Rattle.cas_record.specs.Places.{At, Stands, IsOlderPart, IsPrefix, here, past, whole, later}
use Rattle.cas_record.proofs.Histories.Chains.{chain_zero, chain-none, chain-opened, top_more, acked_at_most_top}
use Rattle.cas_record.proofs.Logs.Agreement.{Settles, by_ack, by_opening, settles_top, settles_begins, took_of_acked}
use Rattle.cas_record.proofs.Logs.Eras.{le_or_lt, enter_law, entered_of_mark, entered_by, entered_at, before_all_entered, rescan_at, rescan_above, seam_of}
use Rattle.cas_record.proofs.Logs.Floors.{accepted_after}
use Rattle.cas_record.proofs.Logs.Lemmas.{law, lawful_older, mark_at, mark_stands, in_log, part_of, ack_law, ProposedAt, proposed_deeper, AckedAt, acked_at, acked_deeper, acked_proposed, not_zero, one_place, OpeningAt, above_opening, chain_whole, has_none_opening}
use Rattle.cas_record.proofs.Logs.Listings.{marks_part}
use Rattle.cas_record.proofs.Logs.Openings.{opening_before, opening_at, has_opening_deeper, first_taken, never_proposed}
use Rattle.cas_record.proofs.Logs.Orders.{reason, orderly_older, drawn_once}
use Rattle.cas_record.proofs.Logs.Slots.{slot_bounds}
use Rattle.cas_record.proofs.PlaceLemmas.{deeper, stands_deeper, stands_at, stands_part, part_at, order, older_than, newer_than, at_one, nil_prefix}
use Rattle.cas_record.proofs.Tests.{key_is}
use Rattle.cas_protocol.specs.Acceptors.{IsAcceptedState}
use Rattle.cas_protocol.specs.Proposers.{WasProbed}
use Rattle.cas_protocol.specs.Protocol.{IsFloorClear}
use Rattle.cas_protocol.specs.Reads.{ReadsGoOn, ReadsOfNothing, WhatIsReadStays}
use Rattle.cas_protocol.proofs.Answered.{accepted_not_zero}
use Rattle.cas_protocol.proofs.Events.{clear_stays, above_floor}
use Rattle.cas_protocol.proofs.Held.{begins}
use Rattle.cas_protocol.proofs.Growing.{tell_grows}
use Rattle.cas_protocol.proofs.Probes.{probed_at, probed_state}
use Rattle.cas_protocol.proofs.Proposes.{opens_empty, floor_not_zero, all_in_low}

-- ---- what was told after the draw
-- a ballot is drawn at one place
one_draw : (cluster : Cluster) {log xs ys : List Happening} {tag : Ballot} {era e : ℕ} → Orderly cluster log → At (Drew tag [] era) xs log → At (Drew tag [] e) ys log → xs ≡ ys
one_draw cluster {xs = xs} {ys = ys} {tag = tag} {era = era} {e = e} orderly at also = elim (order at also) [
  | older_than before ↦ let may : MayDraw cluster ys tag [] e = reason cluster orderly also in absurd (may.fresh [] era (stands_at before))
  | newer_than after ↦ let may : MayDraw cluster xs tag [] era = reason cluster orderly at in absurd (may.fresh [] e (stands_at after))
  | at_one same older ↦ older
]

-- when it told the ballot, after the tag was drawn, the slot of the key had accepted it; and it is a member of the reader's era
pub record IsToldAfter (cluster : Cluster) (before log : List Happening) (key : List ℕ) (era : ℕ) (ballot : Ballot) (acceptor : ℕ) : Type 0 where
  pub replied : Happening
  pub now : List Happening
  pub at : At replied now log
  pub after : IsOlderPart before now
  pub slot : (slot_told now acceptor key).accepted ≡ ballot
  pub member : has_member (cluster.members era) acceptor ≡ true

pub told_after : (cluster : Cluster) {before log : List Happening} {tag : Ballot} {key : List ℕ} {era : ℕ} {ballot : Ballot} {acceptor : ℕ} {accepted : Option Accepted} → Orderly cluster log
    → At (Drew tag [] era) before log → WasProbed log tag key acceptor accepted → accepted_ballot accepted ≡ ballot → IsToldAfter cluster before log key era ballot acceptor
told_after cluster {before} {log} {acceptor = acceptor} orderly drawn was same =
    let p = probed_at cluster orderly was in
    let drawn_there = deeper p.drawn.at p.at in
    let one = one_draw cluster orderly drawn drawn_there in
    let same_era = (drawn_once cluster orderly (stands_at drawn) (stands_at drawn_there)).1 in
    record {
      replied = p.replied;
      now = p.now;
      at = p.at;
      after = subst (λ xs. IsOlderPart xs p.now) (sym one) (part_at p.drawn.at);
      slot = p.slot ∙ same;
      member = subst (λ (e : ℕ). has_member (cluster.members e) acceptor ≡ true) (sym same_era) p.member;
    }

-- ---- what a quorum of the reader's era reaches
-- a member of the quorum took the ballot or one above it, or a floor is at or above it
pub data Reached (before : List Happening) (key by : List ℕ) (ballot : Ballot) : Type 0 where
  by_member : (acceptor : ℕ) (taken ride : Ballot) → has_member by acceptor ≡ true → Stands (Took acceptor key taken ride) before → BallotAtMost ballot taken → Reached before key by ballot
  by_floor : (floor : Ballot) → HasFloor key floor (marks_of before) → BallotAtMost ballot floor → Reached before key by ballot

no_entry : {proposer era : ℕ} {p : Proposal} → Entered proposer era ≡ Marked (Proposed p) → ⊥
no_entry e = cc

-- an acknowledgment is of the era of its proposal
acked_in : (cluster : Cluster) {log older : List Happening} {p : Proposal} → Lawful cluster log → (a : AckedAt p.key p.ballot log) → At (Marked (Proposed p)) older log → a.acknowledgment.era ≡ p.era
acked_in cluster lawful a at =
    let votes = (ack_law cluster lawful a.at).votes in
    let found = in_log a.older votes.proposed.at in
    let one = one_place cluster lawful (deeper found.at a.at) at (votes.same_key ∙ a.same_key) (votes.same_ballot ∙ a.same_ballot) in
    sym votes.same_era ∙ ap (λ (x : Proposal). x.era) one.same

-- what was acknowledged in the reader's era or in one beside it was taken by a member of the quorum
reached_near : (cluster : Cluster) → ClusterMeets cluster → {before : List Happening} {key by : List ℕ} {era : ℕ} {ballot acked : Ballot} → Lawful cluster before → cluster.prepares era by ≡ true
    → (a : AckedAt key acked before) → era ≤ suc a.acknowledgment.era → a.acknowledgment.era ≤ suc era → BallotAtMost ballot acked → Reached before key by ballot
reached_near cluster meets {era = era} {acked = acked} lawful quorum a low high at_most =
    let shared = meets era a.acknowledgment.era low high _ a.acknowledgment.by quorum (ack_law cluster lawful a.at).quorum in
    let took = took_of_acked cluster lawful a shared.acceptor shared.right in
    by_member shared.acceptor acked took.ride shared.left (stands_deeper took.stands a.at) at_most

-- nothing was proposed two eras after one that the reader has not left
not_ahead : (cluster : Cluster) {before older : List Happening} {q : Proposal} {proposer era : ℕ} → Lawful cluster before → proposer ≤ cluster.last_proposer
    → (Stands (Entered proposer (suc era)) before → ⊥) → At (Marked (Proposed q)) older before → suc (suc era) ≤ q.era → ⊥
not_ahead cluster {q = q} {proposer = proposer} {era = era} lawful known not_beyond q_at ahead =
    let entry = entered_at cluster lawful q_at (omega arith) in
    let next : q.era ≡ suc entry.left = entry.next in
    let entry_at = deeper entry.at q_at in
    let there = lawful_older cluster lawful entry_at in
    let marked = entry.may_leave.all_in (omega arith) proposer known in
    not_beyond (stands_deeper (entered_by cluster entry.left (suc era) (omega arith) there (entered_of_mark cluster entry.older there marked) (omega arith) (omega arith)) entry_at)

-- what was acknowledged two eras before or earlier was proposed anew in the era before, or collected
reached_far : (cluster : Cluster) → ClusterMeets cluster → {before older : List Happening} {key by : List ℕ} {proposer era : ℕ} {q : Proposal} → Lawful cluster before → cluster.prepares era by ≡ true
    → Stands (Entered proposer era) before → At (Marked (Proposed q)) older before → q.key ≡ key → suc (suc q.era) ≤ era → Reached before key by q.ballot
reached_far cluster meets {before} {older} {key} {by} {proposer} {era} {q} lawful quorum entered q_at q_key far =
    let may = enter_law cluster lawful entered.at in
    let left = may.left in
    let next : era ≡ suc left = may.next in
    let there = lawful_older cluster lawful entered.at in
    let q_there = before_all_entered cluster lawful entered.at (may.may_leave.all_in (omega arith)) q_at (omega arith) no_entry in
    elim (may.may_leave.stones (stands_at (mark_at q_there)) (omega arith)) [
      | inl rescanned ↦
          let r = rescan_at cluster entered.older rescanned in
          let high = rescan_above cluster meets left (omega arith) there r q_there refl (omega arith) in
          let acked : AckedAt r.proposal.key r.proposal.ballot before = acked_deeper (subst (λ k. AckedAt k r.proposal.ballot entered.older) (sym r.same_key) r.acked) entered.at in
          let r_era : acked.acknowledgment.era ≡ left = acked_in cluster lawful acked (deeper r.at entered.at) ∙ r.same_era in
          let reached : Reached before r.proposal.key by q.ballot = reached_near cluster meets lawful quorum acked (omega arith) (omega arith) high in
          subst (λ k. Reached before k by q.ballot) (r.same_key ∙ q_key) reached
      | inr collected ↦
          let floor : Stands (Floor key collected.floor collected.state) (marks_of before) =
          subst (λ k. Stands (Floor k collected.floor collected.state) (marks_of before)) q_key (stands_part collected.stands (part_of entered.at)) in
          by_floor collected.floor (record { state = collected.state; stands = floor }) (collected.above (stands_at (mark_at q_there)) refl (omega arith))
    ]

-- a prepare quorum of the era in which a proposer is reaches each ballot that was acknowledged
pub reached : (cluster : Cluster) → ClusterMeets cluster → {before : List Happening} {key by : List ℕ} {proposer era : ℕ} {ballot : Ballot} → Lawful cluster before → proposer ≤ cluster.last_proposer
    → IsIn before proposer era → (Stands (Entered proposer (suc era)) before → ⊥) → cluster.prepares era by ≡ true → AckedAt key ballot before → Reached before key by ballot
reached cluster meets {before} {key} {by} {proposer} {era} {ballot} lawful known is_in not_beyond quorum a =
    let votes = (ack_law cluster lawful a.at).votes in
    let found = in_log a.older votes.proposed.at in
    let q = votes.proposal in
    let q_at = deeper found.at a.at in
    let q_ballot : q.ballot ≡ ballot = votes.same_ballot ∙ a.same_ballot in
    let q_era : q.era ≡ a.acknowledgment.era = votes.same_era in
    elim (le_or_lt a.acknowledgment.era (suc era)) [
      | inr ahead ↦ absurd (not_ahead cluster lawful known not_beyond q_at (omega arith))
      | inl low ↦ elim (le_or_lt era (suc a.acknowledgment.era)) [
        | inl high ↦ reached_near cluster meets lawful quorum a high low (at_most_refl ballot)
        | inr far ↦ elim is_in [
          | inl first ↦ absurd (omega arith)
          | inr entered ↦ subst (λ b. Reached before key by b) q_ballot (reached_far cluster meets lawful quorum entered q_at (votes.same_key ∙ a.same_key) (omega arith))
        ]
      ]
    ]

-- ---- what is told is nothing, or at or above that
-- a floor stands later
floor_later : {part log : List Happening} {key : List ℕ} {floor : Ballot} → IsOlderPart part log → HasFloor key floor (marks_of part) → HasFloor key floor (marks_of log)
floor_later part has = record { state = has.state; stands = stands_part has.stands (marks_part part) }

-- who is clear of a floor stays so
clear_later : (cluster : Cluster) {before now : List Happening} {acceptor : ℕ} {key : List ℕ} {floor : Ballot} → IsOlderPart before now → Lawful cluster now → Orderly cluster now
    → HasFloor key floor (marks_of before) → IsClear before acceptor key floor → IsClear now acceptor key floor
clear_later cluster whole lawful orderly has clear = clear
clear_later cluster {before} {acceptor = acceptor} {key = key} {floor = floor} (later {y = h} {rest = rest} part) lawful orderly has clear =
    let there = floor_later part has in
    clear_stays cluster h rest orderly.1 (λ ballot ride may. first_taken cluster lawful.0 there may) (above_floor cluster h rest orderly there) (clear_later cluster part lawful.0 orderly.0 has clear)

-- a member of the reader's era that told a ballot told nothing, or one at or above each floor
told_floor : (cluster : Cluster) {before log : List Happening} {key : List ℕ} {proposer era : ℕ} {ballot floor : Ballot} {acceptor : ℕ} → Lawful cluster log → Orderly cluster log
    → Lawful cluster before → proposer ≤ cluster.last_proposer → (Stands (Entered proposer (suc era)) before → ⊥) → IsToldAfter cluster before log key era ballot acceptor → HasFloor key floor (marks_of before)
    → IsFloorClear cluster before key floor → IsNoneOrAbove floor ballot
told_floor cluster {before} {log} {key} {proposer} {era} {ballot} {floor} {acceptor} lawful orderly lawful_before known not_beyond told has is =
    let lawful_now = lawful_older cluster lawful told.at in
    let orderly_now = orderly_older cluster orderly told.at in
    let clear = is.clear era acceptor (all_in_low cluster before is.era proposer era lawful_before known not_beyond is.all_in) told.member in
    subst (IsNoneOrAbove floor) told.slot (accepted_after cluster told.now acceptor key floor lawful_now orderly_now (clear_later cluster told.after lawful_now orderly_now has clear))

-- one that took a ballot before told nothing, or a ballot at or above it
told_taken : (cluster : Cluster) {before log : List Happening} {key : List ℕ} {era : ℕ} {ballot taken ride : Ballot} {acceptor : ℕ} → Lawful cluster log → Orderly cluster log
    → IsToldAfter cluster before log key era ballot acceptor → Stands (Took acceptor key taken ride) before → IsNoneOrAbove taken ballot
told_taken cluster {key = key} {taken = taken} {ride = ride} {acceptor = acceptor} lawful orderly told took =
    subst (IsNoneOrAbove taken) told.slot
    (accepted_after cluster told.now acceptor key taken (lawful_older cluster lawful told.at) (orderly_older cluster orderly told.at) (took_it ride (stands_part took told.after)))

-- ---- one ballot
pub goes_on : ReadsGoOn
goes_on cluster meets before log tag key by acceptor accepted lawful orderly floors read was = (begun (settles_top cluster before key there), state_of (probed_state was))
  where
    there : Lawful cluster before
    there = lawful_older cluster lawful read.drawn

    drew : MayDraw cluster before tag [] read.era
    drew = reason cluster orderly read.drawn

    some : {ballot : Ballot} → IsNoneOrAbove ballot accepted.ballot → BallotAtMost ballot accepted.ballot
    some (inl zero) = absurd (accepted_not_zero cluster log accepted lawful (probed_state was) zero)
    some (inr above) = above

    low : {ballot : Ballot} → Reached before key by ballot → BallotAtMost ballot accepted.ballot
    low (by_member who taken ride member took at_most) =
        let told = read.told who member in
        at_most_trans at_most (some (told_taken cluster lawful orderly (told_after cluster orderly read.drawn told.probed told.same_ballot) took))
    low (by_floor floor has at_most) =
        at_most_trans at_most (some (told_floor cluster lawful orderly there drew.known read.not_beyond (told_after cluster orderly read.drawn was refl) has (floors.clear floor has)))

    begun : (top_of key (marks_of before) ≡ zero_ballot) ⊎ Settles key (top_of key (marks_of before)) before → IsPrefix (settled_of key (marks_of before)) (chain_of key accepted.ballot (marks_of log))
    begun (inl zero) =
        subst (λ (xs : List Entry). IsPrefix xs (chain_of key accepted.ballot (marks_of log))) (sym (ap (λ b. chain_of key b (marks_of before)) zero ∙ chain_zero key (marks_of before))) (nil_prefix _)
    begun (inr (by_opening o)) =
        subst (λ (xs : List Entry). IsPrefix xs (chain_of key accepted.ballot (marks_of log))) (sym (chain-none key _ (marks_of before) (has_none_opening cluster there o))) (nil_prefix _)
    begun (inr (by_ack a)) =
        subst (λ (xs : List Entry). IsPrefix xs (chain_of key accepted.ballot (marks_of log))) (sym (chain_whole cluster lawful read.drawn (settles_begins cluster there (by_ack a))))
        (begins cluster log key _ lawful (seam_of cluster meets log lawful) (acked_deeper a read.drawn) (Some accepted) (probed_state was)
        (low (reached cluster meets there drew.known drew.is_in read.not_beyond read.quorum a)))

    state_of : IsAcceptedState (marks_of log) key (Some accepted) → accepted.state ≡ replay_from (opening_state key (marks_of log)) (chain_of key accepted.ballot (marks_of log))
    state_of (inl made) = made.state_is
    state_of (inr opening) = opening.state_is ∙ ap (λ (xs : List Entry). replay_from (opening_state key (marks_of log)) xs) (sym (chain-opened key accepted.ballot (marks_of log) opening.opens))

-- ---- nothing
-- an acceptor that took a ballot before and told nothing removed the slot at a floor
pub record RemovedAt (cluster : Cluster) (log : List Happening) (key : List ℕ) (taken : Ballot) : Type 0 where
  pub removal : Request
  pub floor : Ballot
  pub has : HasFloor key floor (marks_of log)
  pub above : BallotAtMost taken floor
  pub asked : List Happening
  pub at : At (Asked removal) asked log
  pub acked : IsAcked key floor (marks_of asked)

pub removed_at : (cluster : Cluster) {before log : List Happening} {key : List ℕ} {era : ℕ} {taken ride : Ballot} {acceptor : ℕ} → Lawful cluster log → Orderly cluster log
    → IsToldAfter cluster before log key era zero_ballot acceptor → Stands (Took acceptor key taken ride) before → (taken ≡ zero_ballot → ⊥) → RemovedAt cluster log key taken
removed_at cluster {log = log} {key = key} {taken = taken} {ride = ride} {acceptor = acceptor} lawful orderly told took some =
    elim ((slot_bounds cluster told.now acceptor key (lawful_older cluster lawful told.at)).took taken ride (stands_part took told.after)) [
      | inl low ↦ absurd (some (at_most_antisym (subst (BallotAtMost taken) told.slot low) (zero_at_most taken)))
      | inr dropped ↦
          let at = deeper dropped.stands.at told.at in
          let may : MayDrop dropped.stands.older acceptor key dropped.tombstone = law cluster lawful at in
          let by : MayDropBy dropped.stands.older acceptor key dropped.tombstone = reason cluster orderly at in
          let asked_at = deeper by.was_asked.asked.at at in
          let remove : MayAsk cluster by.was_asked.asked.older by.request (ask.Remove key dropped.tombstone) =
          subst (MayAsk cluster by.was_asked.asked.older by.request) by.is (reason cluster orderly asked_at) in
          record {
            removal = by.request;
            floor = dropped.tombstone;
            has = record { state = may.state; stands = stands_part may.floor (part_of at) };
            above = dropped.above;
            asked = by.was_asked.asked.older;
            at = asked_at;
            acked = remove.1;
          }
    ]

-- what is settled last is at or above each floor and each acknowledgment
pub floor_low : {key : List ℕ} {floor : Ballot} {state : State} {older marks : List Mark} → At (Floor key floor state) older marks → BallotAtMost floor (top_of key marks)
floor_low {key} {floor} {older = older} here =
    subst (BallotAtMost floor) (sym (if_true (is_key key key) (greater_of floor (top_of key older)) (top_of key older) (key_is {a = key} {b = key} refl)))
    (at_most_greater_left floor (top_of key older))
floor_low {key} (past {y = mark} {rest = rest} at) = at_most_trans (floor_low at) (top_more key mark rest)

pub acked_low : {log : List Happening} {key : List ℕ} {ballot : Ballot} → AckedAt key ballot log → BallotAtMost ballot (top_of key (marks_of log))
acked_low {log} {key} {ballot} a =
    subst (λ k. BallotAtMost ballot (top_of k (marks_of log))) a.same_key
    (subst (λ b. BallotAtMost b (top_of a.acknowledgment.key (marks_of log))) a.same_ballot (acked_at_most_top (mark_at a.at)))

-- what was acknowledged is not zero
pub acked_some : (cluster : Cluster) {log : List Happening} {key : List ℕ} {ballot : Ballot} → Lawful cluster log → AckedAt key ballot log → ballot ≡ zero_ballot → ⊥
acked_some cluster lawful a zero = let p = acked_proposed cluster lawful a in not_zero cluster lawful p.at (p.same_ballot ∙ zero)

pub nothing_read : ReadsOfNothing
nothing_read cluster meets before log tag key by lawful orderly floors none_made read = by_top (settles_top cluster before key there)
  where
    marks : List Mark
    marks = marks_of before

    top : Ballot
    top = top_of key marks

    there : Lawful cluster before
    there = lawful_older cluster lawful read.drawn

    drew : MayDraw cluster before tag [] read.era
    drew = reason cluster orderly read.drawn

    -- a floor at or above what is settled last is that
    at_top : {floor : Ballot} → HasFloor key floor marks → BallotAtMost top floor → floor ≡ top
    at_top has high = at_most_antisym (floor_low has.stands.at) high

    removed : {acceptor : ℕ} {taken ride : Ballot} → has_member by acceptor ≡ true → Stands (Took acceptor key taken ride) before → (taken ≡ zero_ballot → ⊥) → RemovedAt cluster log key taken
    removed {acceptor} member took some =
        let told = read.told acceptor member in
        removed_at cluster lawful orderly (told_after cluster orderly read.drawn told.probed told.same_ballot) took some

    -- what is settled last, if it was acknowledged, is a floor
    floored : (top ≡ zero_ballot → ⊥) → Reached before key by top → HasFloor key top marks
    floored some (by_member acceptor taken ride member took high) =
        let gone = removed member took (λ zero. some (at_most_antisym (subst (BallotAtMost top) zero high) (zero_at_most top))) in
        let has = none_made gone.floor gone.has in
        subst (λ b. HasFloor key b marks) (at_top has (at_most_trans high gone.above)) has
    floored some (by_floor floor has high) = subst (λ b. HasFloor key b marks) (at_top has high) has

    -- its history did not open with that floor, for whoever took it removed it at a later one
    not_opened : HistoryIsOpened cluster before key top → ⊥
    not_opened opened = elim (le_or_lt read.era 1) [
      | inl near ↦
          let shared = meets read.era 0 (omega arith) (omega arith) by opened.by read.quorum opened.accepts in
          let gone = removed shared.left (opened.took shared.acceptor shared.right) (λ zero. less_irreflexive (subst (BallotLess zero_ballot) zero opened.some)) in
          let same = at_top (none_made gone.floor gone.has) gone.above in
          let proposed = proposed_deeper (acked_proposed cluster (lawful_older cluster lawful gone.at) (acked_at gone.asked gone.acked)) gone.at in
          never_proposed cluster lawful (has_opening_deeper opened.opening read.drawn) (subst (λ b. ProposedAt key b log) same proposed)
      | inr far ↦ elim drew.is_in [
        | inl first ↦ absurd (omega arith)
        | inr entered ↦
            let may = enter_law cluster there entered.at in
            let next : read.era ≡ suc may.left = may.next in
            elim (may.may_leave.openings (opening_before (λ no. no) opened.opening entered.at) (omega arith)) [
              | inl rescanned ↦
                  let r = rescan_at cluster entered.older rescanned in
                  let r_at = deeper r.at entered.at in
                  let above : BallotLess top r.proposal.ballot = above_opening cluster there r_at (subst (λ k. OpeningAt k top before) (sym r.same_key) (opening_at cluster there opened.opening)) in
                  less_not_at_most above (acked_low (acked_deeper r.acked entered.at))
              | inr above ↦ less_not_at_most above.above (floor_low (stands_part above.stands (part_of entered.at)).at)
            ]
      ]
    ]

    empty_at : HasFloor key top marks → replay_from (opening_state key marks) (settled_of key marks) ≡ Empty
    empty_at has = elim (floors.empty top has) [
      | inl empty ↦ sym empty.1.state_is
      | inr opened ↦ absurd (not_opened opened)
    ]

    by_top : (top ≡ zero_ballot) ⊎ Settles key top before → replay_from (opening_state key marks) (settled_of key marks) ≡ Empty
    by_top (inl zero) =
        ap (λ (xs : List Entry). replay_from (opening_state key marks) xs) (ap (λ b. chain_of key b marks) zero ∙ chain_zero key marks)
        ∙ opens_empty key marks (λ floor o.
        let has : HasFloor key floor marks = record { state = o.state; stands = stands_at o.at } in
        floor_not_zero cluster before there (floors.empty floor has) (at_most_antisym (subst (BallotAtMost floor) zero (floor_low o.at)) (zero_at_most floor)))
    by_top (inr (by_ack a)) = empty_at (floored (acked_some cluster there a) (reached cluster meets there drew.known drew.is_in read.not_beyond read.quorum a))
    by_top (inr (by_opening o)) = empty_at (mark_floor o)
      where
        mark_floor : OpeningAt key top before → HasFloor key top marks
        mark_floor o = record { state = o.state; stands = mark_stands (stands_at o.at) }

-- ---- what stays
probed_stays : (cluster : Cluster) (h : Happening) (log : List Happening) → Lawful cluster (h ∷ log) → {tag : Ballot} {key : List ℕ} {acceptor : ℕ} {accepted : Option Accepted} → WasProbed log tag key acceptor accepted
    → WasProbed (h ∷ log) tag key acceptor accepted
probed_stays cluster h log lawful was =
    record {
      reply = was.reply;
      told = record {
        from = was.told.from;
        request = was.told.request;
        replied = record { older = was.told.replied.older; at = past was.told.replied.at };
        state = tell_grows cluster h log was.told.request.ask was.reply.tell lawful was.told.state;
      };
      from = was.from;
      asked = was.asked;
      promise = was.promise;
      tells = was.tells;
    }

pub stays : WhatIsReadStays
stays cluster h log lawful = record {
  probed = λ tag key acceptor accepted was. probed_stays cluster h log lawful was;
  read = λ before tag key ballot by was. record {
    era = was.era;
    drawn = past was.drawn;
    not_beyond = was.not_beyond;
    quorum = was.quorum;
    told = λ acceptor member.
        let told = was.told acceptor member in
        record { accepted = told.accepted; probed = probed_stays cluster h log lawful told.probed; same_ballot = told.same_ballot };
  };
}
