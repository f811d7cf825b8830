-- What stays so when the log goes on.
use Rattle.std.proofs.Common.{◌≡◌, ℕ, true, not, List, ◌∷◌, Option, Some, None, refl, sym, ap, subst, ◌∙◌, inl, inr}
use Rattle.std.specs.Prelude.{◌&&◌}
use Rattle.cas_base.proofs.Bools.{and_left, and_right, or_right, if_false, right_false, false_of_not, not_of_true, not_tells, not_both, true_or_false}
use Rattle.cas_ballot.specs.declared.ballot.Ballot.{Ballot}
use Rattle.cas_change.specs.declared.state.State.{State}
use Rattle.cas_slot.specs.declared.slot.Accepted.{Accepted}
use Rattle.cas_slot.specs.declared.message.Ask.{Ask}
use Rattle.cas_slot.specs.declared.message.Ask.TheVariants as ask
use Rattle.cas_slot.specs.declared.message.Tell.{Tell}
use Rattle.cas_slot.specs.declared.message.Tell.TheVariants as tell
use Rattle.cas_record.specs.declared.entry.Entry.{Entry}
use Rattle.cas_record.specs.declared.mark.Proposal.{Proposal}
use Rattle.cas_record.specs.declared.mark.Mark.{Mark}
use Rattle.cas_record.specs.declared.mark.Mark.TheVariants.{Proposed, Floor}
use Rattle.cas_record.specs.Histories.Chain.{is_key, has_calls, opens_at, has_opening, chain_of}
use Rattle.cas_record.specs.Histories.Replay.{replay_from, opening_state}
use Rattle.cas_record.specs.Logs.Happening.{Happening, Marked, marks_of}
use Rattle.cas_record.specs.Logs.Lawful.{Cluster, Lawful}
use Rattle.cas_record.specs.Places.{At, Stands, here, past}
use Rattle.cas_record.proofs.Histories.Chains.{no_calls}
use Rattle.cas_record.proofs.Logs.Lemmas.{mark_stands, proposal_placed, ProposedAt, proposed_at, acked_at, acked_proposed, at_proposal, proposal_law, chain_whole, part_of}
use Rattle.cas_record.proofs.Logs.Openings.{opening_in_log}
use Rattle.cas_record.proofs.PlaceLemmas.{stands_at, stands_part}
use Rattle.cas_record.proofs.Tests.{key_same}
use Rattle.cas_protocol.specs.Acceptors.{IsMadeState, IsOpeningState, IsAcceptedState, IsAskState, IsTellState}

-- once a call was begun, the state with which a history starts stays
opening_stays : (key : List ℕ) (mark : Mark) (older : List Mark) → has_calls older ≡ true → opening_state key (mark ∷ older) ≡ opening_state key older
opening_stays key (Floor k floor state) older e = if_false (is_key k key && not (has_calls older)) state (opening_state key older) (right_false (is_key k key) (not (has_calls older)) (not_of_true (has_calls older) e))
opening_stays key mark older e = refl

-- a key that was proposed has a call that was begun
calls_begun : (cluster : Cluster) (log : List Happening) {key : List ℕ} {ballot : Ballot} → Lawful cluster log → ProposedAt key ballot log → has_calls (marks_of log) ≡ true
calls_begun cluster log lawful made =
    let begun = (proposal_law cluster lawful made.at).first.begun in
    let stands = stands_part begun.stands (part_of made.at) in
    elim (true_or_false (has_calls (marks_of log))) [ inl some ↦ some | inr none ↦ absurd (no_calls none stands.at) ]

-- from a proposal on the state with which a history starts stays
pub opening_later : (cluster : Cluster) {p : Proposal} {older log : List Happening} → Lawful cluster log → At (Marked (Proposed p)) older log → opening_state p.key (marks_of log) ≡ opening_state p.key (marks_of older)
opening_later cluster {p} {older} {log} lawful here = opening_stays p.key (Proposed p) (marks_of older) (calls_of_proposal cluster lawful)
  where
    calls_of_proposal : (cluster : Cluster) → Lawful cluster (Marked (Proposed p) ∷ older) → has_calls (marks_of older) ≡ true
    calls_of_proposal cluster lawful =
        let begun = lawful.1.first.begun in
        elim (true_or_false (has_calls (marks_of older))) [ inl some ↦ some | inr none ↦ absurd (no_calls none begun.stands.at) ]
opening_later cluster {p} {older} {log} lawful (past {y = h} {rest = rest} at) = later_by h rest lawful at (opening_later cluster lawful.0 at)
  where
    later_by : (h : Happening) (rest : List Happening) → Lawful cluster (h ∷ rest) → At (Marked (Proposed p)) older rest → opening_state p.key (marks_of rest) ≡ opening_state p.key (marks_of older)
        → opening_state p.key (marks_of (h ∷ rest)) ≡ opening_state p.key (marks_of older)
    later_by (Marked mark) rest lawful at before = opening_stays p.key mark (marks_of rest) (calls_begun cluster rest lawful.0 (proposal_placed at)) ∙ before
    later_by other rest lawful at before = before

-- ---- states
-- the state of a proposal stays
pub made_grows : (cluster : Cluster) (h : Happening) (log : List Happening) {key : List ℕ} {ballot : Ballot} {era : ℕ} {state : State} → Lawful cluster (h ∷ log)
    → IsMadeState (marks_of log) key ballot era state → IsMadeState (marks_of (h ∷ log)) key ballot era state
made_grows cluster (Marked mark) log {key} {ballot} lawful s =
    let made : ProposedAt key ballot log = proposed_at log (record { proposal = s.proposal; stands = s.stands; same_key = s.same_key; same_ballot = s.same_ballot }) in
    let chain : chain_of key ballot (marks_of log) ≡ chain_of key ballot (mark ∷ marks_of log) = chain_whole cluster {happening = Marked mark} lawful here (at_proposal made) in
    let opening : opening_state key (mark ∷ marks_of log) ≡ opening_state key (marks_of log) = opening_stays key mark (marks_of log) (calls_begun cluster log lawful.0 made) in
    record {
      proposal = s.proposal;
      stands = record { older = s.stands.older; at = past s.stands.at };
      same_key = s.same_key;
      same_ballot = s.same_ballot;
      same_era = s.same_era;
      state_is = s.state_is ∙ ap (λ (xs : List Entry). replay_from (opening_state key (marks_of log)) xs) chain ∙ ap (λ (o : State). replay_from o (chain_of key ballot (mark ∷ marks_of log))) (sym opening);
    }
made_grows cluster other log lawful s = s

-- the state with which a history opened stays
opening_state_stays : (cluster : Cluster) (mark : Mark) (log : List Happening) (key : List ℕ) (ballot : Ballot) → Lawful cluster (Marked mark ∷ log) → has_opening key ballot (marks_of log) ≡ true
    → opening_state key (mark ∷ marks_of log) ≡ opening_state key (marks_of log)
opening_state_stays cluster (Floor k floor state) log key ballot lawful opens =
    if_false (is_key k key && not (has_calls (marks_of log))) state (opening_state key (marks_of log)) (false_of_not _ no_other)
  where
    no_other : (is_key k key && not (has_calls (marks_of log))) ≡ true → ⊥
    no_other e = elim lawful.1 [
      | inl first ↦
          let o = opening_in_log cluster log lawful.0 opens in
          first.first (subst (λ x. Stands (Floor x ballot o.state) (marks_of log)) (sym (key_same (and_left (is_key k key) _ e))) (mark_stands (stands_at o.at)))
      | inr tombstone ↦ not_both (has_calls (marks_of log)) (calls_begun cluster log lawful.0 (acked_proposed cluster lawful.0 (acked_at log tombstone.acked))) (not_tells _ (and_right (is_key k key) _ e))
    ]
opening_state_stays cluster mark log key ballot lawful opens = refl

opening_grows : (cluster : Cluster) (h : Happening) (log : List Happening) {key : List ℕ} {ballot : Ballot} {era : ℕ} {state : State} → Lawful cluster (h ∷ log)
    → IsOpeningState (marks_of log) key ballot era state → IsOpeningState (marks_of (h ∷ log)) key ballot era state
opening_grows cluster (Marked mark) log {key} {ballot} lawful s = record {
  opens = or_right (opens_at key ballot mark (marks_of log)) (has_opening key ballot (marks_of log)) s.opens;
  some = s.some;
  same_era = s.same_era;
  state_is = s.state_is ∙ sym (opening_state_stays cluster mark log key ballot lawful s.opens);
}
opening_grows cluster other log lawful s = s

pub accepted_grows : (cluster : Cluster) (h : Happening) (log : List Happening) (key : List ℕ) (accepted : Option Accepted) → Lawful cluster (h ∷ log)
    → IsAcceptedState (marks_of log) key accepted → IsAcceptedState (marks_of (h ∷ log)) key accepted
accepted_grows cluster h log key None lawful s = tt
accepted_grows cluster h log key (Some accepted) lawful s = elim s [ inl made ↦ inl (made_grows cluster h log lawful made) | inr opening ↦ inr (opening_grows cluster h log lawful opening) ]

pub ask_grows : (cluster : Cluster) (h : Happening) (log : List Happening) (question : Ask) → Lawful cluster (h ∷ log) → IsAskState (marks_of log) question → IsAskState (marks_of (h ∷ log)) question
ask_grows cluster h log (ask.Accept key ballot era ride state) lawful s = made_grows cluster h log lawful s
ask_grows cluster h log (ask.Remove key tomb) lawful s = (s.0, made_grows cluster h log lawful s.1)
ask_grows cluster h log (ask.Prepare key ballot) lawful s = tt
ask_grows cluster h log (ask.Ages tag least) lawful s = tt
ask_grows cluster h log (ask.List tag after) lawful s = tt
ask_grows cluster h log (ask.Probe tag key) lawful s = tt

pub tell_grows : (cluster : Cluster) (h : Happening) (log : List Happening) (question : Ask) (answer : Tell) → Lawful cluster (h ∷ log) → IsTellState (marks_of log) question answer → IsTellState (marks_of (h ∷ log)) question answer
tell_grows cluster h log (ask.Prepare key ballot) (tell.Promised accepted) lawful s = accepted_grows cluster h log key accepted lawful s
tell_grows cluster h log (ask.Probe tag key) (tell.Probed promise accepted) lawful s = accepted_grows cluster h log key accepted lawful s
tell_grows cluster h log question answer lawful s = s
