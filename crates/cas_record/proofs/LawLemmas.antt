-- The laws.
use Rattle.std.proofs.Common.{◌≡◌, ℕ, true, List, [], ◌∷◌, refl, sym, subst}
use Rattle.std.specs.Prelude.{◌==◌}
use mathlib.Core.Logic.{inl, inr}
use Rattle.cas_ballot.specs.declared.ballot.Ballot.{Ballot}
use Rattle.cas_ballot.specs.Members.{has_member}
use Rattle.cas_record.specs.declared.mark.Mark.{Mark}
use Rattle.cas_record.specs.declared.mark.Mark.TheVariants.{Voted, Acked}
use Rattle.cas_record.specs.declared.mark.Acknowledgment.{Acknowledgment}
use Rattle.cas_record.specs.Places.{Stands, IsOlderPart, IsPrefix, here, past}
use Rattle.cas_record.specs.Histories.Chain.{chain_of}
use Rattle.cas_record.specs.Logs.Happening.{Happening, Marked, marks_of}
use Rattle.cas_record.specs.Logs.Lawful.{Cluster, Lawful, MayVote}
use Rattle.cas_record.specs.Laws.{ChainsExtend, SettledGrows, LawfulIsLegal, EarlierIsLegal}
use Rattle.cas_record.proofs.PlaceLemmas.{stands_part, at_part, part_part}
use Rattle.cas_base.proofs.Bools.{or_cases, or_left, or_right}
use Rattle.cas_record.proofs.Tests.{nat_same, nat_is}
use Rattle.cas_record.proofs.Logs.Lemmas.{ProposedAt, stands_in_log}
use Rattle.cas_record.proofs.Logs.Agreement.{Settles, by_ack, agree_whole}
use Rattle.cas_record.proofs.LegalLemmas.{legal_by_seams}
use Rattle.cas_record.proofs.Logs.Eras.{seam_of}

pub lawful_is_legal : LawfulIsLegal
lawful_is_legal cluster meet log lawful = legal_by_seams cluster (seam_of cluster meet) log lawful

pub settled_grows : SettledGrows
settled_grows cluster meet log lawful earlier part key = (lawful_is_legal cluster meet log lawful).only_grows whole_part part key
  where
    whole_part : IsOlderPart (marks_of log) (marks_of log)
    whole_part = IsOlderPart.whole

pub earlier_is_legal : EarlierIsLegal
earlier_is_legal marks earlier part legal = record {
  numbered = record {
    begun = λ at. legal.numbered.begun (at_part at part);
    proposed = λ at. legal.numbered.proposed (at_part at part);
    ended = λ at. legal.numbered.ended (at_part at part);
  };
  done_stands = λ at. legal.done_stands (at_part at part);
  refused_never = record {
    refused = λ at tells proposed. legal.refused_never.refused (at_part at part) tells
        (record { proposal = proposed.proposal; stands = stands_part proposed.stands part; same_caller = proposed.same_caller; same_call = proposed.same_call });
    unsettled = λ at tells. legal.refused_never.unsettled (at_part at part) tells;
  };
  after_seen = λ at begun entry before after same_caller same_call e. legal.after_seen (at_part at part) begun entry before after same_caller same_call e;
  only_grows = λ later_part earlier_part key. legal.only_grows (part_part later_part part) earlier_part key;
  begun_first = λ is_part key entry stands. legal.begun_first (part_part is_part part) key entry stands;
  has_votes = λ at. legal.has_votes (at_part at part);
  floors = λ at. legal.floors (at_part at part);
  short_harmed = λ at. legal.short_harmed (at_part at part);
}

-- ---- a chosen ballot could be acknowledged
-- the log with the votes of these acceptors
voted : List Happening → List ℕ → List ℕ → Ballot → List Happening
voted log [] key ballot = log
voted log (acceptor ∷ rest) key ballot = Marked (Voted acceptor key ballot) ∷ voted log rest key ballot

stands_voted : (log : List Happening) (by : List ℕ) (key : List ℕ) (ballot : Ballot) {happening : Happening} → Stands happening log → Stands happening (voted log by key ballot)
unfolding voted
stands_voted log [] key ballot s = s
stands_voted log (acceptor ∷ rest) key ballot s = let t = stands_voted log rest key ballot s in record { older = t.older; at = past t.at }

mark_voted : (log : List Happening) (by : List ℕ) (key : List ℕ) (ballot : Ballot) {mark : Mark} → Stands mark (marks_of log) → Stands mark (marks_of (voted log by key ballot))
unfolding voted
mark_voted log [] key ballot s = s
mark_voted log (acceptor ∷ rest) key ballot s = let t = mark_voted log rest key ballot s in record { older = t.older; at = past t.at }

lawful_voted : (cluster : Cluster) (log : List Happening) (by : List ℕ) (key : List ℕ) (ballot : Ballot) → Lawful cluster log
    → ((acceptor : ℕ) → has_member by acceptor ≡ true → MayVote log acceptor key ballot) → Lawful cluster (voted log by key ballot)
unfolding voted
lawful_voted cluster log [] key ballot lawful taken = lawful
lawful_voted cluster log (acceptor ∷ rest) key ballot lawful taken =
    let own = taken acceptor (or_left (acceptor == acceptor) (has_member rest acceptor) (nat_is {a = acceptor} refl)) in (
      lawful_voted cluster log rest key ballot lawful (λ a member. taken a (or_right (acceptor == a) (has_member rest a) member)),
      record { ride = own.ride; taken = stands_voted log rest key ballot own.taken },
    )

has_voted : (log : List Happening) (by : List ℕ) (key : List ℕ) (ballot : Ballot) (acceptor : ℕ) → has_member by acceptor ≡ true → Stands (Voted acceptor key ballot) (marks_of (voted log by key ballot))
unfolding voted
has_voted log [] key ballot acceptor member = absurd cc
has_voted log (first ∷ rest) key ballot acceptor member = elim (or_cases (first == acceptor) (has_member rest acceptor) member) [
  | inl is_first ↦
      subst (λ a. Stands (Voted a key ballot) (Voted first key ballot ∷ marks_of (voted log rest key ballot))) (nat_same {a = first} {b = acceptor} is_first)
      (record { older = marks_of (voted log rest key ballot); at = here })
  | inr in_rest ↦ let t = has_voted log rest key ballot acceptor in_rest in record { older = t.older; at = past t.at }
]

-- votes change no history
chain-voted : (log : List Happening) (by : List ℕ) (key : List ℕ) (ballot : Ballot) (k : List ℕ) (b : Ballot) → chain_of k b (marks_of (voted log by key ballot)) ≡ chain_of k b (marks_of log)
unfolding voted
chain-voted log [] key ballot k b = refl
chain-voted log (acceptor ∷ rest) key ballot k b = chain-voted log rest key ballot k b

pub chains_extend : ChainsExtend
chains_extend cluster meet log lawful chosen p is_chosen proposed same_key less =
    let by = is_chosen.by in
    let before = voted log by chosen.key chosen.ballot in
    let a : Acknowledgment = record { key = chosen.key; ballot = chosen.ballot; era = chosen.era; by = by } in
    let acked = Marked (Acked a) ∷ before in
    let is_lawful : Lawful cluster acked = (
      lawful_voted cluster log by chosen.key chosen.ballot lawful is_chosen.taken,
      record {
        votes = record {
          proposal = chosen;
          proposed = mark_voted log by chosen.key chosen.ballot is_chosen.proposed;
          same_key = refl;
          same_ballot = refl;
          same_era = refl;
          votes = λ acceptor member. has_voted log by chosen.key chosen.ballot acceptor member;
        };
        quorum = is_chosen.quorum;
      },
    ) in
    let settles : Settles p.key chosen.ballot acked = by_ack (record { acknowledgment = a; older = before; at = here; same_key = sym same_key; same_ballot = refl }) in
    let standing = stands_voted log by chosen.key chosen.ballot (stands_in_log log proposed) in
    let greater : ProposedAt p.key p.ballot acked = record { proposal = p; older = standing.older; at = past standing.at; same_key = refl; same_ballot = refl } in
    let whole = agree_whole cluster is_lawful (seam_of cluster meet acked is_lawful) settles greater less in
    subst (λ xs. IsPrefix xs (chain_of p.key p.ballot (marks_of log))) (chain-voted log by chosen.key chosen.ballot p.key chosen.ballot)
    (subst (IsPrefix (chain_of p.key chosen.ballot (marks_of before))) (chain-voted log by chosen.key chosen.ballot p.key p.ballot) whole)
