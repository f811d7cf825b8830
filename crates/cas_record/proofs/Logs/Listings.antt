-- A complete listing of an era gives the stepping stones of that era: each key that was proposed in an earlier era is
-- rescanned in it, or collected.
use Rattle.std.proofs.Common.{◌≡◌, ℕ, suc, ◌<◌, ◌≤◌, true, false, List, [], ◌∷◌, arith, refl, sym, ap, subst}
use Rattle.std.specs.Prelude.{◌⊎◌, ◌&&◌, nat_lt}
use mathlib.Core.Logic.{inl, inr}
use Rattle.cas_base.proofs.Bools.{true_or_false, both_true, not_both, and_left, and_right}
use Rattle.cas_ballot.specs.declared.ballot.Ballot.{Ballot}
use Rattle.cas_ballot.specs.Ballot.{BallotAtMost}
use Rattle.cas_ballot.specs.Members.{has_member}
use Rattle.cas_ballot.proofs.BallotLemmas.{at_most_refl, at_most_trans, at_most_antisym, at_most_or_less, at_most_of_less, less_not_at_most, zero_at_most}
use Rattle.cas_change.specs.declared.state.State.{State}
use Rattle.cas_record.specs.declared.mark.Mark.{Mark}
use Rattle.cas_record.specs.declared.mark.Mark.TheVariants.{Proposed, Floor}
use Rattle.cas_record.specs.declared.mark.Proposal.{Proposal}
use Rattle.cas_record.specs.Places.{At, Stands, IsOlderPart, here, past, whole, later}
use Rattle.cas_record.specs.Histories.Chain.{is_key}
use Rattle.cas_record.specs.Logs.Happening.{Happening, Marked, marks_of}
use Rattle.cas_record.specs.Logs.Lawful.{Cluster, ClusterMeets, Lawful, HasSeen, SlotTold, MayPropose, MayDrop, AllEntered, IsRescanned, IsCollected, Granted}
use Rattle.cas_record.specs.Logs.Listing.{no_slot_told, WasAbsent}
use Rattle.cas_record.proofs.PlaceLemmas.{none_at_nil, deeper, stands_at, stands_part, part_at, newest_or}
use Rattle.cas_record.proofs.Tests.{key_same, key_is}
use Rattle.cas_record.proofs.Logs.Lemmas.{law, lawful_older, mark_at, in_log, part_of, proposal_law, one_place}
use Rattle.cas_record.proofs.LegalLemmas.{lawful_part}
use Rattle.cas_record.proofs.Logs.Slots.{slot_bounds, SlotBounds}
use Rattle.cas_record.proofs.Logs.Eras.{le_or_lt, enter_law, entered_of_mark, entered_by, granted_seen, seen_deeper, rescan_at, rescan_above}
use Rattle.cas_record.proofs.Logs.Checks.{le_tells, le_is}

-- ---- parts
pub marks_part : {part log : List Happening} → IsOlderPart part log → IsOlderPart (marks_of part) (marks_of log)
marks_part whole = whole
marks_part (later {y = Marked mark} part) = later (marks_part part)
marks_part (later {y = other} part) = marks_part part

-- once all proposers had entered an era, nothing was proposed in an earlier one
pub proposed_before : (cluster : Cluster) {then log older : List Happening} {q : Proposal} {era : ℕ} → Lawful cluster log → IsOlderPart then log → AllEntered cluster era (marks_of then)
    → At (Marked (Proposed q)) older log → q.era < era → At (Marked (Proposed q)) older then
proposed_before cluster lawful whole entered at early = at
proposed_before cluster {q = q} {era = era} lawful (later {y = y} {rest = rest} part) entered here early =
    let may : MayPropose cluster rest q = lawful.1 in
    let mark = stands_part (entered q.ballot.proposer may.known) (marks_part part) in
    absurd (may.not_beyond (entered_by cluster era (suc q.era) (omega arith) lawful.0 (entered_of_mark cluster rest lawful.0 mark) (omega arith) early))
proposed_before cluster lawful (later part) entered (past at) early = proposed_before cluster lawful.0 part entered at early

-- ---- the greatest proposal of earlier eras
pub record IsGreatestEarly (key : List ℕ) (era : ℕ) (marks : List Mark) (q : Proposal) : Type 0 where
  pub stands : Stands (Proposed q) marks
  pub same_key : q.key ≡ key
  pub early : q.era < era
  pub above : {p : Proposal} → Stands (Proposed p) marks → p.key ≡ key → p.era < era → BallotAtMost p.ballot q.ballot

pub data Early (key : List ℕ) (era : ℕ) (marks : List Mark) : Type 0 where
  none_early : ((p : Proposal) → Stands (Proposed p) marks → p.key ≡ key → p.era < era → ⊥) → Early key era marks
  greatest_early : (q : Proposal) → IsGreatestEarly key era marks q → Early key era marks

-- a mark that is no proposal of the key in an earlier era changes nothing
early_more : {key : List ℕ} {era : ℕ} {mark : Mark} {older : List Mark} → ((p : Proposal) → Proposed p ≡ mark → p.key ≡ key → p.era < era → ⊥) → Early key era older → Early key era (mark ∷ older)
early_more other (none_early none) = none_early (λ p stands same early. elim (newest_or stands) [
  | inl now ↦ other p now same early
  | inr before ↦ none p before same early
])
early_more {mark = mark} {older = older} other (greatest_early q g) = greatest_early q (record {
  stands = stands_at (past g.stands.at);
  same_key = g.same_key;
  early = g.early;
  above = λ {p} stands same early. elim (newest_or stands) [ inl now ↦ absurd (other p now same early) | inr before ↦ g.above before same early ];
})

same_proposal : {p q : Proposal} → Proposed p ≡ Proposed q → p ≡ q
same_proposal e = cc

early_first : {key : List ℕ} {era : ℕ} (q : Proposal) {older : List Mark} → q.key ≡ key → q.era < era → Early key era older → Early key era (Proposed q ∷ older)
early_first q same_key early (none_early none) = greatest_early q (record {
  stands = stands_at here;
  same_key = same_key;
  early = early;
  above = λ {p} stands same before. elim (newest_or stands) [
    | inl now ↦ subst (λ (x : Proposal). BallotAtMost p.ballot x.ballot) (same_proposal now) (at_most_refl p.ballot)
    | inr there ↦ absurd (none p there same before)
  ];
})
early_first {key} {era} q {older} same_key early (greatest_early g is) = elim (at_most_or_less g.ballot q.ballot) [
  | inl low ↦ greatest_early q (record {
    stands = stands_at here;
    same_key = same_key;
    early = early;
    above = λ {p} stands same before. elim (newest_or stands) [
      | inl now ↦ subst (λ (x : Proposal). BallotAtMost p.ballot x.ballot) (same_proposal now) (at_most_refl p.ballot)
      | inr there ↦ at_most_trans (is.above there same before) low
    ];
  })
  | inr high ↦ greatest_early g (record {
    stands = stands_at (past is.stands.at);
    same_key = is.same_key;
    early = is.early;
    above = λ {p} stands same before. elim (newest_or stands) [
      | inl now ↦ subst (λ (x : Proposal). BallotAtMost x.ballot g.ballot) (sym (same_proposal now)) (at_most_of_less high)
      | inr there ↦ is.above there same before
    ];
  })
]

pub early_of : (key : List ℕ) (era : ℕ) (marks : List Mark) → Early key era marks
early_of key era [] = none_early (λ p stands same early. none_at_nil stands.at)
early_of key era (Proposed q ∷ older) = elim (true_or_false (is_key q.key key && nat_lt q.era era)) [
  | inl of ↦ early_first q (key_same (and_left (is_key q.key key) _ of)) (le_tells (and_right (is_key q.key key) _ of)) (early_of key era older)
  | inr other ↦ early_more (λ p now same early. not_early q other (subst (λ (x : Proposal). x.key ≡ key) (same_proposal now) same) (subst (λ (x : Proposal). x.era < era) (same_proposal now) early)) (early_of key era older)
]
  where
    not_early : (q : Proposal) → (is_key q.key key && nat_lt q.era era) ≡ false → q.key ≡ key → q.era < era → ⊥
    not_early q other same early = not_both (is_key q.key key && nat_lt q.era era) (both_true (is_key q.key key) (nat_lt q.era era) (key_is same) (le_is early)) other
early_of key era (mark ∷ older) = early_more (λ p now same early. absurd cc) (early_of key era older)

-- ---- the stones
-- a floor at or above the greatest proposal of earlier eras collects the key
collected_by : {key : List ℕ} {era : ℕ} {marks : List Mark} {q : Proposal} (floor : Ballot) (state : State) → IsGreatestEarly key era marks q → Stands (Floor key floor state) marks → BallotAtMost q.ballot floor
    → IsCollected era key marks
collected_by floor state greatest stands high = record {
  floor = floor;
  state = state;
  stands = stands;
  above = λ {p} there same early. at_most_trans (greatest.above there same early) high;
}

-- an acceptor that granted it and was shown without a slot later had removed the slot at a tombstone at or above it
absent_collected : (cluster : Cluster) {log older : List Happening} {era acceptor : ℕ} {q : Proposal} → Lawful cluster log → At (Marked (Proposed q)) older log → IsGreatestEarly q.key era (marks_of log) q
    → Granted older acceptor q → WasAbsent cluster era log acceptor q.key → IsCollected era q.key (marks_of log)
absent_collected cluster {log} {older} {era} {acceptor} {q} lawful at greatest granted absent =
    let then = absent.then in
    let lawful_then = lawful_part cluster lawful absent.part in
    let there = proposed_before cluster lawful absent.part absent.entered at greatest.early in
    let seen : HasSeen then acceptor q.key q.ballot = seen_deeper (granted_seen granted) there in
    let bounds : SlotBounds no_slot_told acceptor q.key then = subst (λ (s : SlotTold). SlotBounds s acceptor q.key then) absent.none (slot_bounds cluster then acceptor q.key lawful_then) in
    elim (bounds.seen q.ballot seen) [
      | inl low ↦ absurd (less_not_at_most (proposal_law cluster lawful at).above_read (at_most_trans low (zero_at_most q.read)))
      | inr dropped ↦
          let drop : MayDrop dropped.stands.older acceptor q.key dropped.tombstone = law cluster lawful_then dropped.stands.at in
          let floor = stands_part (stands_part drop.floor (part_of dropped.stands.at)) (marks_part absent.part) in
          collected_by dropped.tombstone drop.state greatest floor dropped.above
    ]

-- a proposal two or more eras before has a stone already in the entry of the era
far_stone : (cluster : Cluster) → ClusterMeets cluster → {log older : List Happening} {era : ℕ} {q : Proposal} → Lawful cluster log → AllEntered cluster era (marks_of log) → At (Marked (Proposed q)) older log
    → IsGreatestEarly q.key era (marks_of log) q → suc (suc q.era) ≤ era → IsCollected era q.key (marks_of log)
far_stone cluster meet {log} {older} {era} {q} lawful entered at greatest far =
    let entry = entered_of_mark cluster log lawful (entered 0 (omega arith)) in
    let may = enter_law cluster lawful entry.at in
    let left = may.left in
    let next : era ≡ suc left = may.next in
    let there = lawful_older cluster lawful entry.at in
    let q_there = proposed_before cluster lawful (part_at entry.at) (may.may_leave.all_in (omega arith)) at (omega arith) in
    elim (may.may_leave.stones (stands_at (mark_at q_there)) (omega arith)) [
      | inl rescanned ↦
          let r = rescan_at cluster entry.older rescanned in
          let r_era : r.proposal.era ≡ left = r.same_era in
          let r_at = deeper r.at entry.at in
          let high = rescan_above cluster meet left (omega arith) there r q_there refl (omega arith) in
          let low = greatest.above (stands_at (mark_at r_at)) r.same_key (omega arith) in
          let one = one_place cluster lawful at r_at (sym r.same_key) (at_most_antisym high low) in
          let same_era : q.era ≡ r.proposal.era = ap (λ (x : Proposal). x.era) one.same in
          absurd (omega arith)
      | inr collected ↦
          collected_by collected.floor collected.state greatest (stands_part collected.stands (part_of entry.at)) (collected.above (stands_at (mark_at q_there)) refl (omega arith))
    ]

greatest_stone : (cluster : Cluster) → ClusterMeets cluster → {log : List Happening} {era : ℕ} {by : List ℕ} {q : Proposal} → Lawful cluster log → AllEntered cluster era (marks_of log)
    → cluster.accepts era by ≡ true
    → ((acceptor : ℕ) → has_member by acceptor ≡ true → IsRescanned cluster era q.key (marks_of log) ⊎ WasAbsent cluster era log acceptor q.key)
    → IsGreatestEarly q.key era (marks_of log) q → IsRescanned cluster era q.key (marks_of log) ⊎ IsCollected era q.key (marks_of log)
greatest_stone cluster meet {log} {era} {by} {q} lawful entered quorum listed greatest =
    let found = in_log log greatest.stands.at in
    let early : q.era < era = greatest.early in
    elim (le_or_lt era (suc q.era)) [
      | inr far ↦ inr (far_stone cluster meet lawful entered found.at greatest (omega arith))
      | inl near ↦
          let may = proposal_law cluster lawful found.at in
          let shared = meet q.era era (omega arith) (omega arith) q.prepared_by by may.quorum quorum in
          elim (listed shared.acceptor shared.right) [
            | inl rescanned ↦ inl rescanned
            | inr absent ↦ inr (absent_collected cluster lawful found.at greatest (may.granted shared.acceptor shared.left) absent)
          ]
    ]

pub stones_of_listing : (cluster : Cluster) → ClusterMeets cluster → {log : List Happening} {era : ℕ} {by : List ℕ} → Lawful cluster log → AllEntered cluster era (marks_of log)
    → cluster.accepts era by ≡ true
    → ((acceptor : ℕ) (key : List ℕ) → has_member by acceptor ≡ true → IsRescanned cluster era key (marks_of log) ⊎ WasAbsent cluster era log acceptor key)
    → {p : Proposal} → Stands (Proposed p) (marks_of log) → p.era < era → IsRescanned cluster era p.key (marks_of log) ⊎ IsCollected era p.key (marks_of log)
stones_of_listing cluster meet {log} {era} {by} lawful entered quorum listed {p} stands early = elim (early_of p.key era (marks_of log)) [
  | none_early none ↦ absurd (none p stands refl early)
  | greatest_early q g ↦
      let same = g.same_key in
      let greatest : IsGreatestEarly q.key era (marks_of log) q = subst (λ k. IsGreatestEarly k era (marks_of log) q) (sym same) g in
      subst (λ k. IsRescanned cluster era k (marks_of log) ⊎ IsCollected era k (marks_of log)) same
      (greatest_stone cluster meet lawful entered quorum (λ acceptor member. listed acceptor q.key member) greatest)
]
