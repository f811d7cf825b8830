-- What a proposal goes on from: the state that it read, or the floor that stands where nothing was read.
use Rattle.std.proofs.Common.{◌≡◌, ℕ, List, true, sym, subst}
use Rattle.std.specs.Prelude.{◌⊎◌}
use mathlib.Core.Logic.{inl, inr}
use Rattle.cas_ballot.specs.declared.ballot.Ballot.{Ballot}
use Rattle.cas_ballot.specs.Ballot.{zero_ballot, BallotLess}
use Rattle.cas_ballot.specs.Members.{has_member}
use Rattle.cas_ballot.proofs.BallotLemmas.{greater_cases, less_not_at_most, none_below_zero}
use Rattle.cas_record.specs.declared.mark.Proposal.{Proposal}
use Rattle.cas_record.specs.Histories.Chain.{floor_below, link_of}
use Rattle.cas_record.specs.Legal.{HasFloor}
use Rattle.cas_record.specs.Logs.Happening.{Happening, marks_of}
use Rattle.cas_record.specs.Logs.Lawful.{Cluster, Lawful}
use Rattle.cas_record.specs.Logs.Orderly.{IsClear, Orderly, WasRead, nothing_read, read_from}
use Rattle.cas_record.proofs.Histories.Chains.{floor_below_cases}
use Rattle.cas_record.proofs.Logs.Floors.{told_after}

pub link_read : (cluster : Cluster) {log : List Happening} {p : Proposal} → Lawful cluster log → Orderly cluster log → WasRead log p
    → ((acceptor : ℕ) (floor : Ballot) → has_member p.prepared_by acceptor ≡ true → HasFloor p.key floor (marks_of log) → BallotLess floor p.ballot → IsClear log acceptor p.key floor)
    → (link_of (marks_of log) p ≡ p.read) ⊎ ((p.read ≡ zero_ballot) × HasFloor p.key (link_of (marks_of log) p) (marks_of log))
link_read cluster {log} {p} lawful orderly was clear =
    let floor = floor_below p.key p.ballot (marks_of log) in
    elim (greater_cases p.read floor) [
      | inl read ↦ inl read.0
      | inr later ↦ inr (elim (floor_below_cases p.key p.ballot (marks_of log)) [
        | inl zero ↦ absurd (none_below_zero (subst (BallotLess p.read) zero later.1))
        | inr below ↦
            (is_nothing was later.1 (λ acceptor member. clear acceptor floor member below.stands below.below) below.below, subst (λ b. HasFloor p.key b (marks_of log)) (sym later.0) below.stands)
      ])
    ]
  where
    is_nothing : {floor : Ballot} → WasRead log p → BallotLess p.read floor → ((acceptor : ℕ) → has_member p.prepared_by acceptor ≡ true → IsClear log acceptor p.key floor) → BallotLess floor p.ballot
        → p.read ≡ zero_ballot
    is_nothing (nothing_read none) above each less = none
    is_nothing (read_from acceptor member promised) above each less = elim (told_after cluster lawful orderly (each acceptor member) promised less) [
      | inl none ↦ none
      | inr high ↦ absurd (less_not_at_most above high)
    ]
