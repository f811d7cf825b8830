-- What the marks tell of calls, keys and ballots, where the calls are numbered.
use Rattle.std.proofs.Common.{◌≡◌, ℕ, true, List, [], ◌∷◌, ◌++◌, length, refl, sym, ap, ◌∙◌, subst}
use Rattle.std.specs.Prelude.{Some, None}
use mathlib.Core.Logic.{inl, inr}
use Rattle.cas_base.proofs.Bools.{if_true, if_false, true_or_false, and_left, and_right, both_true, or_cases, or_left, or_right, not_both, some_is}
use Rattle.cas_ballot.specs.declared.ballot.Ballot.{Ballot}
use Rattle.cas_ballot.specs.Ballot.{zero_ballot}
use Rattle.cas_change.specs.declared.program.Clause.{Clause}
use Rattle.cas_change.specs.Outcome.{outcome_of}
use Rattle.cas_record.specs.declared.answer.Answer.{Answer}
use Rattle.cas_record.specs.declared.entry.Entry.{Entry}
use Rattle.cas_record.specs.declared.mark.Mark.{Mark}
use Rattle.cas_record.specs.declared.mark.Mark.TheVariants.{Begun, Proposed, Ended}
use Rattle.cas_record.specs.declared.mark.Proposal.{Proposal}
use Rattle.cas_record.specs.Places.{At, IsOlderPart, here, past, whole, later}
use Rattle.cas_record.specs.Histories.Chain.{is_key, is_ballot, is_call, is_proposal, has_proposal, link_of, entry_of, program_of, chain_of, settled_of}
use Rattle.cas_record.specs.Histories.Replay.{replay_from, opening_state}
use Rattle.cas_record.specs.Legal.{HasProposal, IsProposed, IsEnded, IsNumbered}
use Rattle.cas_record.proofs.PlaceLemmas.{stands_at, part_at}
use Rattle.cas_record.proofs.Tests.{IsProposalOf, proposal_is, key_same, key_refl, ballot_same, ballot_is, call_same, call_is}
use Rattle.cas_record.proofs.Histories.Chains.{chain_zero}
use Rattle.cas_audit.specs.declared.told.Node.{Node}
use Rattle.cas_audit.specs.Told.{place_of, seen_of, ballot_of, has_ended, is_at, if_some, node_by, node_of, chain_from}
use Rattle.cas_audit.proofs.Histories.{calls_proposed, chain_stays, some_stays, start_stays, chain_cases, one_ballot}

-- ---- calls
-- the call began at the place
pub record BeganAt (caller call place : ℕ) (marks : List Mark) : Type 0 where
  pub key : List ℕ
  pub program : List Clause
  pub older : List Mark
  pub at : At (Begun caller call key program) older marks
  pub place_is : place ≡ length older
  pub seen_is : seen_of caller call marks ≡ length (settled_of key older)

began_past : {caller call place : ℕ} {mark : Mark} {older : List Mark} → seen_of caller call (mark ∷ older) ≡ seen_of caller call older → BeganAt caller call place older → BeganAt caller call place (mark ∷ older)
began_past same b = record { key = b.key; program = b.program; older = b.older; at = past b.at; place_is = b.place_is; seen_is = same ∙ b.seen_is }

pub began_at : (caller call place : ℕ) (marks : List Mark) → place_of caller call marks ≡ Some place → BeganAt caller call place marks
began_at caller call place [] is = absurd cc
began_at caller call place (Begun c n k p ∷ older) is = elim (true_or_false (is_call caller call c n)) [
  | inl e ↦
      let same = call_same {caller = caller} {call = call} {c = c} {n = n} e in
      record {
        key = k;
        program = p;
        older = older;
        at = subst (λ (x : ℕ). At (Begun x call k p) older (Begun c n k p ∷ older)) same.0 (subst (λ (y : ℕ). At (Begun c y k p) older (Begun c n k p ∷ older)) same.1 here);
        place_is = sym (some_is (length older) place (sym (if_true (is_call caller call c n) (Some (length older)) (place_of caller call older) e) ∙ is));
        seen_is = if_true (is_call caller call c n) (length (settled_of k older)) (seen_of caller call older) e;
      }
  | inr e ↦ began_past (if_false (is_call caller call c n) (length (settled_of k older)) (seen_of caller call older) e)
      (began_at caller call place older (sym (if_false (is_call caller call c n) (Some (length older)) (place_of caller call older) e) ∙ is))
]
began_at caller call place (mark ∷ older) is = began_past refl (began_at caller call place older is)

-- a call that began has a place
pub record HasPlace (caller call : ℕ) (marks : List Mark) : Type 0 where
  pub place : ℕ
  pub is : place_of caller call marks ≡ Some place

place_past : (caller call : ℕ) (mark : Mark) (older : List Mark) → HasPlace caller call older → HasPlace caller call (mark ∷ older)
place_past caller call (Begun c n k p) older h = elim (true_or_false (is_call caller call c n)) [
  | inl e ↦ record { place = length older; is = if_true (is_call caller call c n) (Some (length older)) (place_of caller call older) e }
  | inr e ↦ record { place = h.place; is = if_false (is_call caller call c n) (Some (length older)) (place_of caller call older) e ∙ h.is }
]
place_past caller call mark older h = record { place = h.place; is = h.is }

pub has_place : {caller call : ℕ} {key : List ℕ} {program : List Clause} {older marks : List Mark} → At (Begun caller call key program) older marks → HasPlace caller call marks
has_place {caller} {call} {older = older} here = record { place = length older; is = if_true (is_call caller call caller call) (Some (length older)) (place_of caller call older) (call_is {caller = caller} {call = call} {c = caller} {n = call} refl refl) }
has_place {caller} {call} (past {y = mark} {rest = rest} at) = place_past caller call mark rest (has_place at)

-- the call was proposed at the ballot
pub record ProposedBy (caller call : ℕ) (ballot : Ballot) (marks : List Mark) : Type 0 where
  pub proposal : Proposal
  pub older : List Mark
  pub at : At (Proposed proposal) older marks
  pub same_caller : proposal.caller ≡ caller
  pub same_call : proposal.call ≡ call
  pub same_ballot : proposal.ballot ≡ ballot

by_past : {caller call : ℕ} {ballot : Ballot} {mark : Mark} {older : List Mark} → ProposedBy caller call ballot older → ProposedBy caller call ballot (mark ∷ older)
by_past b = record { proposal = b.proposal; older = b.older; at = past b.at; same_caller = b.same_caller; same_call = b.same_call; same_ballot = b.same_ballot }

pub proposed_by : (caller call : ℕ) (ballot : Ballot) (marks : List Mark) → ballot_of caller call marks ≡ Some ballot → ProposedBy caller call ballot marks
proposed_by caller call ballot [] is = absurd cc
proposed_by caller call ballot (Proposed p ∷ older) is = elim (true_or_false (is_call caller call p.caller p.call)) [
  | inl e ↦
      let same = call_same {caller = caller} {call = call} {c = p.caller} {n = p.call} e in
      record {
        proposal = p;
        older = older;
        at = here;
        same_caller = same.0;
        same_call = same.1;
        same_ballot = some_is p.ballot ballot (sym (if_true (is_call caller call p.caller p.call) (Some p.ballot) (ballot_of caller call older) e) ∙ is);
      }
  | inr e ↦ by_past (proposed_by caller call ballot older (sym (if_false (is_call caller call p.caller p.call) (Some p.ballot) (ballot_of caller call older) e) ∙ is))
]
proposed_by caller call ballot (mark ∷ older) is = by_past (proposed_by caller call ballot older is)

pub record HasBallot (caller call : ℕ) (marks : List Mark) : Type 0 where
  pub ballot : Ballot
  pub is : ballot_of caller call marks ≡ Some ballot

ballot_past : (caller call : ℕ) (mark : Mark) (older : List Mark) → HasBallot caller call older → HasBallot caller call (mark ∷ older)
ballot_past caller call (Proposed p) older h = elim (true_or_false (is_call caller call p.caller p.call)) [
  | inl e ↦ record { ballot = p.ballot; is = if_true (is_call caller call p.caller p.call) (Some p.ballot) (ballot_of caller call older) e }
  | inr e ↦ record { ballot = h.ballot; is = if_false (is_call caller call p.caller p.call) (Some p.ballot) (ballot_of caller call older) e ∙ h.is }
]
ballot_past caller call mark older h = record { ballot = h.ballot; is = h.is }

has_ballot_at : {p : Proposal} {older marks : List Mark} → At (Proposed p) older marks → HasBallot p.caller p.call marks
has_ballot_at {p} {older} here = record { ballot = p.ballot; is = if_true (is_call p.caller p.call p.caller p.call) (Some p.ballot) (ballot_of p.caller p.call older) (call_is {caller = p.caller} {call = p.call} {c = p.caller} {n = p.call} refl refl) }
has_ballot_at {p} (past {y = mark} {rest = rest} at) = ballot_past p.caller p.call mark rest (has_ballot_at at)

pub has_ballot : {caller call : ℕ} {marks : List Mark} → IsProposed caller call marks → HasBallot caller call marks
has_ballot {caller} {call} {marks} p = subst (λ c. HasBallot c call marks) p.same_caller (subst (λ n. HasBallot p.proposal.caller n marks) p.same_call (has_ballot_at p.stands.at))

pub is_proposed : {caller call : ℕ} {ballot : Ballot} {marks : List Mark} → ballot_of caller call marks ≡ Some ballot → IsProposed caller call marks
is_proposed {caller} {call} {ballot} {marks} is =
    let b = proposed_by caller call ballot marks is in
    record { proposal = b.proposal; stands = stands_at b.at; same_caller = b.same_caller; same_call = b.same_call }

pub not_proposed : {caller call : ℕ} {marks : List Mark} → ballot_of caller call marks ≡ None → IsProposed caller call marks → ⊥
not_proposed none p = let h = has_ballot p in absurd (cc (h.is, none))

-- the end of a call
ended_past : {caller call : ℕ} {mark : Mark} {older : List Mark} → IsEnded caller call older → IsEnded caller call (mark ∷ older)
ended_past e = record { rounds = e.rounds; answer = e.answer; stands = record { older = e.stands.older; at = past e.stands.at } }

pub ended_tells : (caller call : ℕ) (marks : List Mark) → has_ended caller call marks ≡ true → IsEnded caller call marks
ended_tells caller call [] e = absurd cc
ended_tells caller call (Ended c n r a ∷ older) e = elim (or_cases (is_call caller call c n) (has_ended caller call older) e) [
  | inl first ↦
      let same = call_same {caller = caller} {call = call} {c = c} {n = n} first in
      subst (λ (x : ℕ). IsEnded x call (Ended c n r a ∷ older)) same.0 (subst (λ (y : ℕ). IsEnded c y (Ended c n r a ∷ older)) same.1 (record { rounds = r; answer = a; stands = stands_at here }))
  | inr rest ↦ ended_past (ended_tells caller call older rest)
]
ended_tells caller call (mark ∷ older) e = ended_past (ended_tells caller call older e)

ended_more : (caller call : ℕ) (mark : Mark) (older : List Mark) → has_ended caller call older ≡ true → has_ended caller call (mark ∷ older) ≡ true
ended_more caller call (Ended c n r a) older e = or_right (is_call caller call c n) (has_ended caller call older) e
ended_more caller call mark older e = e

ended_at : {caller call rounds : ℕ} {answer : Answer} {older marks : List Mark} → At (Ended caller call rounds answer) older marks → has_ended caller call marks ≡ true
ended_at {caller} {call} {older = older} here = or_left (is_call caller call caller call) (has_ended caller call older) (call_is {caller = caller} {call = call} {c = caller} {n = call} refl refl)
ended_at {caller} {call} (past {y = mark} {rest = rest} at) = ended_more caller call mark rest (ended_at at)

pub ended_is : {caller call : ℕ} {marks : List Mark} → IsEnded caller call marks → has_ended caller call marks ≡ true
ended_is e = ended_at e.stands.at

-- ---- ballots of keys
pub at_same : {key k : List ℕ} {ballot b : Ballot} → is_at key ballot k b ≡ true → (k ≡ key) × (b ≡ ballot)
at_same {key} {k} {ballot} {b} e = (key_same (and_left (is_key k key) (is_ballot b ballot) e), ballot_same (and_right (is_key k key) (is_ballot b ballot) e))

pub at_refl : (key : List ℕ) (ballot : Ballot) → is_at key ballot key ballot ≡ true
at_refl key ballot = both_true (is_key key key) (is_ballot ballot ballot) (key_refl key) (ballot_is {a = ballot} refl)

-- the node is that of a proposal
pub record IsNodeOf (key : List ℕ) (ballot : Ballot) (marks : List Mark) (node : Node) : Type 0 where
  pub proposal : Proposal
  pub older : List Mark
  pub at : At (Proposed proposal) older marks
  pub same_key : proposal.key ≡ key
  pub same_ballot : proposal.ballot ≡ ballot
  pub is : node ≡ node_by proposal older

node_past : {key : List ℕ} {ballot : Ballot} {mark : Mark} {older : List Mark} {node : Node} → IsNodeOf key ballot older node → IsNodeOf key ballot (mark ∷ older) node
node_past n = record { proposal = n.proposal; older = n.older; at = past n.at; same_key = n.same_key; same_ballot = n.same_ballot; is = n.is }

pub node_tells : (key : List ℕ) (ballot : Ballot) (marks : List Mark) (node : Node) → node_of key ballot marks ≡ Some node → IsNodeOf key ballot marks node
node_tells key ballot [] node is = absurd cc
node_tells key ballot (Proposed p ∷ older) node is = elim (true_or_false (is_at key ballot p.key p.ballot)) [
  | inl e ↦
      let same = at_same {key = key} {k = p.key} {ballot = ballot} {b = p.ballot} e in
      record {
        proposal = p;
        older = older;
        at = here;
        same_key = same.0;
        same_ballot = same.1;
        is = sym (some_is (node_by p older) node (sym (if_true (is_at key ballot p.key p.ballot) (Some (node_by p older)) (node_of key ballot older) e) ∙ is));
      }
  | inr e ↦ node_past (node_tells key ballot older node (sym (if_false (is_at key ballot p.key p.ballot) (Some (node_by p older)) (node_of key ballot older) e) ∙ is))
]
node_tells key ballot (mark ∷ older) node is = node_past (node_tells key ballot older node is)

pub record HasNode (key : List ℕ) (ballot : Ballot) (marks : List Mark) : Type 0 where
  pub node : Node
  pub is : node_of key ballot marks ≡ Some node

has_node_past : (key : List ℕ) (ballot : Ballot) (mark : Mark) (older : List Mark) → HasNode key ballot older → HasNode key ballot (mark ∷ older)
has_node_past key ballot (Proposed p) older h = elim (true_or_false (is_at key ballot p.key p.ballot)) [
  | inl e ↦ record { node = node_by p older; is = if_true (is_at key ballot p.key p.ballot) (Some (node_by p older)) (node_of key ballot older) e }
  | inr e ↦ record { node = h.node; is = if_false (is_at key ballot p.key p.ballot) (Some (node_by p older)) (node_of key ballot older) e ∙ h.is }
]
has_node_past key ballot mark older h = record { node = h.node; is = h.is }

has_node_at : {p : Proposal} {older marks : List Mark} → At (Proposed p) older marks → HasNode p.key p.ballot marks
has_node_at {p} {older} here = record { node = node_by p older; is = if_true (is_at p.key p.ballot p.key p.ballot) (Some (node_by p older)) (node_of p.key p.ballot older) (at_refl p.key p.ballot) }
has_node_at {p} (past {y = mark} {rest = rest} at) = has_node_past p.key p.ballot mark rest (has_node_at at)

pub has_node : {key : List ℕ} {ballot : Ballot} {marks : List Mark} → HasProposal key ballot marks → HasNode key ballot marks
has_node {key} {ballot} {marks} h = subst (λ k. HasNode k ballot marks) h.same_key (subst (λ b. HasNode h.proposal.key b marks) h.same_ballot (has_node_at h.stands.at))

pub has_proposal_of : {key : List ℕ} {ballot : Ballot} {marks : List Mark} {node : Node} → IsNodeOf key ballot marks node → HasProposal key ballot marks
has_proposal_of n = record { proposal = n.proposal; stands = stands_at n.at; same_key = n.same_key; same_ballot = n.same_ballot }

pub no_node : {key : List ℕ} {ballot : Ballot} {marks : List Mark} → node_of key ballot marks ≡ None → HasProposal key ballot marks → ⊥
no_node none h = let n = has_node h in absurd (cc (n.is, none))

-- where there is no node, there is no history
pub no_chain : (key : List ℕ) (ballot : Ballot) (marks : List Mark) → node_of key ballot marks ≡ None → chain_of key ballot marks ≡ []
no_chain key ballot marks none = elim (chain_cases key ballot marks) [
  | inl is ↦ is
  | inr e ↦ absurd (no_node none (record { proposal = e.proposal; stands = stands_at e.at; same_key = e.same_key; same_ballot = e.same_ballot }))
]

has_proposal_here : (p : Proposal) (older : List Mark) → IsProposalOf p.key p.ballot p → has_proposal p.key p.ballot (Proposed p ∷ older) ≡ true
has_proposal_here p older of = or_left (is_proposal p.key p.ballot p) (has_proposal p.key p.ballot older) (proposal_is of)

-- a node tells how long the history is
pub node_length : {key : List ℕ} {ballot : Ballot} {marks : List Mark} {node : Node} → IsNumbered marks → IsNodeOf key ballot marks node → node.length ≡ length (chain_of key ballot marks)
node_length {key} {ballot} {marks} {node} numbered n =
    let p = n.proposal in
    let part = part_of n.at in
    let stays : chain_of p.key p.ballot marks ≡ chain_of p.key p.ballot (Proposed p ∷ n.older) = elim (true_or_false (is_ballot p.ballot zero_ballot)) [
      | inl zero ↦
          let none : p.ballot ≡ zero_ballot = ballot_same {a = p.ballot} {b = zero_ballot} zero in
          ap (λ b. chain_of p.key b marks) none ∙ chain_zero p.key marks ∙ sym (ap (λ b. chain_of p.key b (Proposed p ∷ n.older)) none ∙ chain_zero p.key (Proposed p ∷ n.older))
      | inr drawn ↦ chain_stays p.key p.ballot part (calls_proposed numbered n.at)
          (has_proposal_here p n.older (record { same_key = refl; same_ballot = refl; not_zero = λ z. not_both (is_ballot p.ballot zero_ballot) (ballot_is z) drawn }))
    ] in
    ap (λ (x : Node). x.length) n.is ∙ ap length (sym stays) ∙ (λ i. length (chain_of (n.same_key i) (n.same_ballot i) marks))
  where
    part_of : {p : Proposal} {xs all : List Mark} → At (Proposed p) xs all → IsOlderPart (Proposed p ∷ xs) all
    part_of here = whole
    part_of (past at) = later (part_of at)

from_stays : (key : List ℕ) (ballot : Ballot) {older marks : List Mark} → IsNumbered marks → IsOlderPart older marks → chain_from key (if_some ballot (chain_of key ballot older)) marks ≡ chain_of key ballot older
from_stays key ballot {older} {marks} numbered part = go (chain_of key ballot older) refl
  where
    go : (entries : List Entry) → chain_of key ballot older ≡ entries → chain_from key (if_some ballot entries) marks ≡ entries
    go [] is = refl
    go (entry ∷ entries) is = some_stays key ballot numbered part (λ none. absurd (cc (none, is))) ∙ is

-- what a node with a history tells
pub record TellsNode (key : List ℕ) (ballot : Ballot) (marks : List Mark) (node : Node) : Type 0 where
  pub proposal : Proposal
  pub older : List Mark
  pub at : At (Proposed proposal) older marks
  pub same_key : proposal.key ≡ key
  pub same_ballot : proposal.ballot ≡ ballot
  pub chain_is : chain_of key ballot marks ≡ chain_from key node.from marks ++ entry_of older proposal ∷ []
  pub from_is : chain_from key node.from marks ≡ chain_of key (link_of older proposal) older
  pub outcome_is : node.outcome ≡ outcome_of (program_of proposal.caller proposal.call older) (replay_from (opening_state key marks) (chain_from key node.from marks))

pub node_history : {key : List ℕ} {ballot : Ballot} {marks : List Mark} {node : Node} → IsNumbered marks → IsNodeOf key ballot marks node → (chain_of key ballot marks ≡ [] → ⊥) → TellsNode key ballot marks node
node_history {key} {ballot} {marks} {node} numbered n some = elim (chain_cases key ballot marks) [
  | inl none ↦ absurd (some none)
  | inr ends ↦
      let one = one_ballot numbered ends.at n.at (ends.same_key ∙ sym n.same_key) (ends.same_ballot ∙ sym n.same_ballot) in
      let p = ends.proposal in
      let node_is : node ≡ node_by p ends.older = n.is ∙ (λ i. node_by (sym one.same i) (sym one.older_same i)) in
      let from_of : chain_from key node.from marks ≡ chain_of key (link_of ends.older p) ends.older =
      ap (λ (x : Node). chain_from key x.from marks) node_is ∙ ap (λ k. chain_from key (if_some (link_of ends.older p) (chain_of k (link_of ends.older p) ends.older)) marks) ends.same_key
      ∙ from_stays key (link_of ends.older p) numbered (part_at ends.at) in
      record {
        proposal = p;
        older = ends.older;
        at = ends.at;
        same_key = ends.same_key;
        same_ballot = ends.same_ballot;
        chain_is = ends.is ∙ ap (λ front. front ++ entry_of ends.older p ∷ []) (sym from_of);
        from_is = from_of;
        outcome_is = ap (λ (x : Node). x.outcome) node_is
            ∙ ap (λ k. outcome_of (program_of p.caller p.call ends.older) (replay_from (opening_state k ends.older) (chain_of k (link_of ends.older p) ends.older))) ends.same_key
            ∙ (λ i. outcome_of (program_of p.caller p.call ends.older) (replay_from (sym (start_stays key (part_at ends.at) (calls_proposed numbered ends.at)) i) (sym from_of i)));
      }
]
