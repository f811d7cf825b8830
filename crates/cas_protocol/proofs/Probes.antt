-- What a probe tells of the log: what the acceptor's slot had accepted when it answered; and that a vote that is seen may be marked.
use Rattle.std.proofs.Common.{◌≡◌, ℕ, true, List, [], Option, sym, ap, subst, ◌∙◌}
use Rattle.cas_ballot.specs.declared.ballot.Ballot.{Ballot}
use Rattle.cas_ballot.specs.Members.{has_member}
use Rattle.cas_slot.specs.declared.message.Ask.{Ask}
use Rattle.cas_slot.specs.declared.message.Ask.TheVariants as ask
use Rattle.cas_slot.specs.declared.message.Tell.TheVariants as tell
use Rattle.cas_slot.specs.declared.slot.Accepted.{Accepted}
use Rattle.cas_slot.specs.Slot.{accepted_ballot}
use Rattle.cas_record.specs.declared.mark.Acknowledgment.{Acknowledgment}
use Rattle.cas_record.specs.Logs.Happening.{Happening, Drew, marks_of}
use Rattle.cas_record.specs.Logs.Lawful.{Cluster, Lawful, MayVote, MayAck, SlotTold, slot_told}
use Rattle.cas_record.specs.Logs.Orderly.{Orderly, MayAsk, MayAskFor, MayReply, IsTold}
use Rattle.cas_record.specs.Places.{At, Stands}
use Rattle.cas_record.proofs.Logs.Orders.{reason}
use Rattle.cas_record.proofs.Logs.Slots.{took_tells}
use Rattle.cas_record.proofs.PlaceLemmas.{deeper, stands_deeper}
use Rattle.cas_protocol.specs.Acceptors.{IsTellState, IsAcceptedState}
use Rattle.cas_protocol.specs.Proposers.{WasProbed, IsVoteSeen, by_deed, by_probe, HasVotesSeen}
use Rattle.cas_protocol.proofs.Answered.{accepted_not_zero}

-- ---- a probe
-- When it replied, the slot of the key had accepted what the acceptor told; it is a member of an era in which the tag was drawn before.
pub record IsProbedAt (cluster : Cluster) (log : List Happening) (tag : Ballot) (key : List ℕ) (acceptor : ℕ) (accepted : Option Accepted) : Type 0 where
  pub replied : Happening
  pub now : List Happening
  pub at : At replied now log
  pub slot : (slot_told now acceptor key).accepted ≡ accepted_ballot accepted
  pub era : ℕ
  pub drawn : Stands (Drew tag [] era) now
  pub member : has_member (cluster.members era) acceptor ≡ true

pub probed_at : (cluster : Cluster) {log : List Happening} {tag : Ballot} {key : List ℕ} {acceptor : ℕ} {accepted : Option Accepted} → Orderly cluster log → WasProbed log tag key acceptor accepted
    → IsProbedAt cluster log tag key acceptor accepted
probed_at cluster {log} {tag} {key} {acceptor} {accepted} orderly was =
    let request = was.told.request in
    let at = was.told.replied.at in
    let now = was.told.replied.older in
    let may : MayReply now request was.reply = reason cluster orderly at in
    let same : request.to ≡ acceptor = sym may.from ∙ was.from in
    let may_ask : MayAsk cluster may.asked.older request request.ask = reason cluster orderly (deeper may.asked.at at) in
    let ask_for : MayAskFor cluster may.asked.older request [] tag = subst (MayAsk cluster may.asked.older request) was.asked may_ask in
    let told : IsTold now request.to (ask.Probe tag key) (tell.Probed was.promise accepted) =
    subst (λ (q : Ask). IsTold now request.to q (tell.Probed was.promise accepted)) was.asked (subst (IsTold now request.to request.ask) was.tells may.told) in
    record {
      replied = _;
      now = now;
      at = at;
      slot = subst (λ (a : ℕ). (slot_told now a key).accepted ≡ accepted_ballot accepted) same (ap (λ (s : SlotTold). s.accepted) told);
      era = ask_for.era;
      drawn = stands_deeper ask_for.drawn may.asked.at;
      member = subst (λ (a : ℕ). has_member (cluster.members ask_for.era) a ≡ true) same ask_for.member;
    }

-- what is told is a state that was proposed, or with which a history opened
pub probed_state : {log : List Happening} {tag : Ballot} {key : List ℕ} {acceptor : ℕ} {accepted : Option Accepted} → WasProbed log tag key acceptor accepted
    → IsAcceptedState (marks_of log) key accepted
probed_state {log} {tag} {key} {acceptor} {accepted} was =
    subst (λ (q : Ask). IsTellState (marks_of log) q (tell.Probed was.promise accepted)) was.asked (subst (IsTellState (marks_of log) was.told.request.ask) was.tells was.told.state)

-- ---- a vote that is seen
pub may_vote : (cluster : Cluster) {log : List Happening} {acceptor : ℕ} {key : List ℕ} {ballot : Ballot} → Lawful cluster log → Orderly cluster log → IsVoteSeen log acceptor key ballot
    → MayVote log acceptor key ballot
may_vote cluster lawful orderly (by_deed ride took) = record { ride = ride; taken = took }
may_vote cluster {log} {acceptor} {key} {ballot} lawful orderly (by_probe tag accepted was same) =
    let then_ = probed_at cluster orderly was in
    let took = took_tells then_.now acceptor key ballot (then_.slot ∙ same) (λ zero. accepted_not_zero cluster log accepted lawful (probed_state was) (same ∙ zero)) in
    record { ride = took.0; taken = stands_deeper took.1 then_.at }

-- ---- what the votes that were seen count
pub may_ack : (cluster : Cluster) {log : List Happening} {a : Acknowledgment} → HasVotesSeen cluster log a → MayAck cluster log a
may_ack cluster seen = record {
  votes = record {
    proposal = seen.proposed.proposal;
    proposed = seen.proposed.proposed;
    same_key = seen.proposed.same_key;
    same_ballot = seen.proposed.same_ballot;
    same_era = seen.proposed.same_era;
    votes = seen.votes;
  };
  quorum = seen.quorum;
}
