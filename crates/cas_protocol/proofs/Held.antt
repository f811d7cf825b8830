-- What was acknowledged, and what is settled, stands on the shelves of a quorum.
use Rattle.std.proofs.Common.{◌≡◌, ℕ, true, List, ◌++◌, Option, Some, None, Ok, refl, sym, ap, subst, ◌∙◌, inl, inr}
use Rattle.cas_ballot.specs.declared.ballot.Ballot.{Ballot}
use Rattle.cas_ballot.specs.Ballot.{BallotAtMost, BallotLess}
use Rattle.cas_ballot.proofs.BallotLemmas.{at_most_antisym, at_most_or_less, less_irreflexive, none_below_zero}
use Rattle.cas_slot.specs.declared.slot.Accepted.{Accepted}
use Rattle.cas_slot.specs.Contents.{Contents}
use Rattle.cas_slot.specs.Slot.{accepted_ballot}
use Rattle.cas_slot.specs.Table.{accepted_at}
use Rattle.cas_ballot.specs.Members.{has_member}
use Rattle.cas_record.specs.declared.mark.Acknowledgment.{Acknowledgment}
use Rattle.cas_record.specs.declared.mark.Mark.TheVariants.{Acked}
use Rattle.cas_record.specs.declared.mark.Mark.{Mark}
use Rattle.cas_record.specs.Histories.Chain.{chain_of, top_of}
use Rattle.cas_record.specs.Logs.Happening.{Happening, Took, Dropped, marks_of}
use Rattle.cas_record.specs.Logs.Lawful.{Cluster, ClusterMeets, Lawful, MayDrop}
use Rattle.cas_record.specs.Logs.Orderly.{Orderly, IsAboveFloors}
use Rattle.cas_record.specs.Places.{Stands, IsPrefix}
use Rattle.cas_record.proofs.Logs.Agreement.{Seam, by_ack, never_below_opening, agree_whole, took_of_acked}
use Rattle.cas_record.proofs.Histories.Chains.{chain_zero, top_cases}
use Rattle.cas_record.proofs.Logs.Eras.{seam_of}
use Rattle.cas_record.proofs.Logs.Lemmas.{law, stands_in_log, ack_law, AckedAt, acked_at, proposed_at, part_of}
use Rattle.cas_record.proofs.Logs.Openings.{opening_in_log}
use Rattle.cas_record.proofs.PlaceLemmas.{stands_later, stands_deeper, stands_part, prefix_same}
use Rattle.cas_protocol.specs.Acceptors.{LogTells, IsAcceptedState, IsLeft}
use Rattle.cas_protocol.specs.Held.{Holds}
use Rattle.cas_protocol.specs.Laws.{LogTellsKept, WhatIsAckedIsHeld, WhatIsSettledIsHeld}
use Rattle.cas_protocol.proofs.Staying.{goes_on_from, taken}

-- no slot of the key was removed at or above a ballot that is above its floors
dropped_less : (cluster : Cluster) (log : List Happening) {id : ℕ} {key : List ℕ} {ballot : Ballot} → Lawful cluster log → IsAboveFloors (marks_of log) key ballot
    → (tomb : Ballot) → Stands (Dropped id key tomb) log → BallotLess tomb ballot
dropped_less cluster log {id} {key} lawful above tomb dropped =
    let may : MayDrop dropped.older id key tomb = law cluster lawful dropped.at in
    above.above (stands_part may.floor (part_of dropped.at))

-- the history of the ballot begins that of what is accepted at or above it
pub begins : (cluster : Cluster) (log : List Happening) (key : List ℕ) (ballot : Ballot) → Lawful cluster log → Seam log → AckedAt key ballot log → (accepted : Option Accepted)
    → IsAcceptedState (marks_of log) key accepted → BallotAtMost ballot (accepted_ballot accepted)
    → IsPrefix (chain_of key ballot (marks_of log)) (chain_of key (accepted_ballot accepted) (marks_of log))
begins cluster log key ballot lawful seam acked accepted made low = elim (at_most_or_less (accepted_ballot accepted) ballot) [
  | inl high ↦ prefix_same (ap (λ b. chain_of key b (marks_of log)) (at_most_antisym low high))
  | inr less ↦ by_state accepted made less
]
  where
    by_state : (accepted : Option Accepted) → IsAcceptedState (marks_of log) key accepted → BallotLess ballot (accepted_ballot accepted)
        → IsPrefix (chain_of key ballot (marks_of log)) (chain_of key (accepted_ballot accepted) (marks_of log))
    by_state None made less = absurd (none_below_zero less)
    by_state (Some a) (inr opening) less = absurd (never_below_opening cluster lawful (by_ack acked) (opening_in_log cluster log lawful opening.opens) less)
    by_state (Some a) (inl made) less =
        agree_whole cluster lawful seam (by_ack acked) (proposed_at log (record { proposal = made.proposal; stands = made.stands; same_key = made.same_key; same_ballot = made.same_ballot })) less

-- each of those that took it holds it, whatever a crash leaves
holds : (cluster : Cluster) → ClusterMeets cluster → (log : List Happening) (key : List ℕ) (ballot ride : Ballot) → Lawful cluster log → Orderly cluster log → AckedAt key ballot log → IsAboveFloors (marks_of log) key ballot
    → (acceptor : ℕ) (kept new : Contents) → Stands (Took acceptor key ballot ride) log → LogTells log acceptor kept → IsLeft log acceptor kept (Ok new) → Holds log key ballot new
holds cluster meets log key ballot ride lawful orderly acked above acceptor kept new took tells left =
    let on : LogTellsKept cluster log acceptor kept = record { lawful = lawful; orderly = orderly; tells = tells } in
    let after = goes_on_from cluster log acceptor kept on new left in
    let above_after : IsAboveFloors (marks_of (after.0 ++ log)) key ballot = subst (λ (marks : List Mark). IsAboveFloors marks key ballot) (sym after.2) above in
    let low : BallotAtMost ballot (accepted_ballot (accepted_at new key)) =
    taken cluster (after.0 ++ log) acceptor new key ballot ride after.1 (stands_later after.0 took) (dropped_less cluster (after.0 ++ log) after.1.lawful above_after) in
    let made : IsAcceptedState (marks_of log) key (accepted_at new key) = subst (λ (marks : List Mark). IsAcceptedState marks key (accepted_at new key)) after.2 (after.1.tells.states key) in
    record {
      at_least = low;
      state = made;
      begins = begins cluster log key ballot lawful (seam_of cluster meets log lawful) acked (accepted_at new key) made low;
    }

-- what was acknowledged at a place of the log is held by those that confirmed it
held_at : (cluster : Cluster) → ClusterMeets cluster → (log : List Happening) {key : List ℕ} {ballot : Ballot} (a : AckedAt key ballot log) → Lawful cluster log → Orderly cluster log → IsAboveFloors (marks_of log) key ballot
    → (acceptor : ℕ) (kept new : Contents) → has_member a.acknowledgment.by acceptor ≡ true → LogTells log acceptor kept → IsLeft log acceptor kept (Ok new) → Holds log key ballot new
held_at cluster meets log {key} {ballot} a lawful orderly above acceptor kept new member tells left =
    let took = took_of_acked cluster lawful a acceptor member in
    holds cluster meets log key ballot took.ride lawful orderly a above acceptor kept new (stands_deeper took.stands a.at) tells left

pub held_by : (cluster : Cluster) → ClusterMeets cluster → (log : List Happening) (a : Acknowledgment) → Lawful cluster log → Orderly cluster log → Stands (Acked a) (marks_of log) → IsAboveFloors (marks_of log) a.key a.ballot
    → (cluster.accepts a.era a.by ≡ true)
    × ((acceptor : ℕ) (kept new : Contents) → has_member a.by acceptor ≡ true → LogTells log acceptor kept → IsLeft log acceptor kept (Ok new) → Holds log a.key a.ballot new)
held_by cluster meets log a lawful orderly stands above =
    let place = stands_in_log log stands in
    let acked : AckedAt a.key a.ballot log = record { older = place.older; acknowledgment = a; at = place.at; same_key = refl; same_ballot = refl } in
    ((ack_law cluster lawful place.at).quorum, held_at cluster meets log acked lawful orderly above)

pub acknowledged : WhatIsAckedIsHeld
acknowledged cluster meets log key ballot lawful orderly acked above =
    let a = acked_at log acked in
    record {
      era = a.acknowledgment.era;
      by = a.acknowledgment.by;
      quorum = (ack_law cluster lawful a.at).quorum;
      held = held_at cluster meets log a lawful orderly above;
    }

pub settled : WhatIsSettledIsHeld
settled cluster meets log key lawful orderly above = elim (top_cases key (marks_of log)) [
  | inl none ↦ inl (ap (λ b. chain_of key b (marks_of log)) none ∙ chain_zero key (marks_of log))
  | inr some ↦ elim some [
    | inl acked ↦ inr (acknowledged cluster meets log key (top_of key (marks_of log)) lawful orderly acked above)
    | inr floor ↦ absurd (less_irreflexive (above.above floor.stands))
  ]
]
