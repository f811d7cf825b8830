-- A proposer with a promise that rode along proposes lawfully, and draws lawfully; and a call whose proposal is acknowledged is done.
use Rattle.std.proofs.Common.{◌≡◌, ℕ, ◌+◌, ◌≤◌, List, refl, sym, ap, subst, ◌∙◌, inl, inr, arith}
use Rattle.cas_ballot.specs.declared.ballot.Ballot.{Ballot}
use Rattle.cas_ballot.specs.Ballot.{zero_ballot, BallotAtMost, BallotLess}
use Rattle.cas_ballot.specs.Members.{has_member}
use Rattle.cas_ballot.proofs.BallotLemmas.{greater_cases, less_not_at_most, zero_at_most, less_irreflexive}
use Rattle.cas_cache.specs.declared.ready.Ready.{Ready}
use Rattle.cas_change.specs.declared.program.Clause.{Clause}
use Rattle.cas_change.specs.declared.state.State.{State}
use Rattle.cas_change.specs.Outcome.{outcome_of}
use Rattle.cas_record.specs.declared.mark.Proposal.{Proposal}
use Rattle.cas_record.specs.Histories.Chain.{chain_of, link_of, floor_below, program_of}
use Rattle.cas_record.specs.Logs.Happening.{Happening, Took, marks_of}
use Rattle.cas_record.specs.Logs.Lawful.{Cluster}
use Rattle.cas_record.specs.Logs.Orderly.{MayDraw}
use Rattle.cas_record.specs.Places.{Stands}
use Rattle.cas_record.specs.Histories.Replay.{replay_from, opening_state}
use Rattle.cas_record.proofs.Histories.Calls.{program_of_begun}
use Rattle.cas_record.proofs.Histories.Chains.{floor_below_cases}
use Rattle.cas_record.proofs.Logs.Grants.{granted_ride}
use Rattle.cas_record.proofs.LegalLemmas.{counted}
use Rattle.cas_record.proofs.Logs.Lemmas.{lawful_older, mark_at, proposal_law, part_of}
use Rattle.cas_record.proofs.Logs.Orders.{reason}
use Rattle.cas_record.proofs.PlaceLemmas.{stands_part}
use Rattle.cas_protocol.specs.Desks.{IsRiding}
use Rattle.cas_protocol.specs.Laws.{RidersProposeLawfully, ProposersDrawLawfully, CallsAreDoneLawfully}
use Rattle.cas_protocol.proofs.Growing.{opening_later}
use Rattle.cas_protocol.proofs.Proposes.{in_still}

-- ---- a promise that rode along
-- no floor of the key is above what is read, so a proposal goes on from that
link_is_read : (cluster : Cluster) (log : List Happening) (p : Proposal) (era : ℕ) (ready : Ready) → IsRiding cluster log p.key era ready → p.read ≡ ready.read → link_of (marks_of log) p ≡ p.read
link_is_read cluster log p era ready riding same =
    let floor = floor_below p.key p.ballot (marks_of log) in
    elim (greater_cases p.read floor) [
      | inl read ↦ read.0
      | inr later ↦ elim (floor_below_cases p.key p.ballot (marks_of log)) [
        | inl zero ↦ absurd (less_not_at_most (subst (BallotLess p.read) zero later.1) (zero_at_most p.read))
        | inr below ↦ absurd (less_not_at_most later.1 (subst (BallotAtMost floor) (sym same) (riding.over_floors floor below.stands)))
      ]
    ]

pub rides : RidersProposeLawfully
rides cluster log p ready lawful orderly round riding ballot read by =
    let may : MayDraw cluster round.drawn.older p.ballot p.key p.era = reason cluster orderly round.drawn.at in
    let some : p.ballot ≡ zero_ballot → ⊥ = λ zero. less_irreflexive (subst (BallotLess zero_ballot) zero may.some) in
    let link = link_is_read cluster log p p.era ready riding read in (
      record {
        first = record { begun = round.begun; once = round.once; open_yet = round.open_yet; fresh = round.fresh };
        above_read = subst (BallotLess p.read) (sym ballot) (subst (λ b. BallotLess b ready.ballot) (sym read) riding.above);
        read_stands = inr (inl (record { proposal = riding.state.proposal; stands = riding.state.stands; same_key = riding.state.same_key; same_ballot = riding.state.same_ballot ∙ sym read }));
        above_floors = round.above_floors.above;
        quorum = ap (λ ids. cluster.prepares p.era ids) by ∙ riding.quorum;
        granted = λ acceptor member.
            granted_ride cluster p orderly round.drawn some
            (subst (λ b. Stands (Took acceptor p.key p.read b) log) (sym ballot) (subst (λ b. Stands (Took acceptor p.key b ready.ballot) log) (sym read) (riding.took acceptor (sym (ap (λ ids. has_member ids acceptor) by) ∙ member))));
        known = may.known;
        is_in = in_still may.is_in round.drawn.at;
        not_beyond = round.not_beyond;
      },
      riding.state.state_is ∙ ap (λ b. replay_from (opening_state p.key (marks_of log)) (chain_of p.key b (marks_of log))) (sym read ∙ sym link),
    )

-- ---- a draw
pub draws : ProposersDrawLawfully
draws cluster log proposer era counter key all = record {
  known = all.known;
  some = record { counters = omega arith; proposers = λ same. absurd (omega (arith, same)) };
  fresh = λ k e drawn. absurd (omega (arith, all.drawn (record { counter = counter + 1; proposer = proposer }) k e drawn refl));
  is_in = all.is_in;
  above = record { above = λ {floor} {state} stands. above floor (all.floors floor (record { state = state; stands = stands })) };
}
  where
    above : (floor : Ballot) → floor.counter ≤ counter → BallotLess floor (record { counter = counter + 1; proposer = proposer })
    above floor low = record { counters = omega arith; proposers = λ same. absurd (omega (arith, same, low)) }

-- ---- an answer
pub done : CallsAreDoneLawfully
done cluster log older p program state outcome lawful at acked open_yet begun state_is outcome_is =
    let proposed = proposal_law cluster lawful at in
    let own : program_of p.caller p.call (marks_of older) ≡ program = program_of_begun (counted cluster older (lawful_older cluster lawful at)) begun.at in
    let opening : opening_state p.key (marks_of log) ≡ opening_state p.key (marks_of older) = opening_later cluster lawful at in
    record {
      first = record { key = p.key; begun = record { program = program; stands = stands_part begun (part_of at) }; once = open_yet };
      answered = record {
        proposal = p;
        older = marks_of older;
        proposed = mark_at at;
        same_caller = refl;
        same_call = refl;
        same_ballot = refl;
        acked = acked;
        outcome =
            ap (λ (o : State). outcome_of (program_of p.caller p.call (marks_of older)) (replay_from o (chain_of p.key (link_of (marks_of older) p) (marks_of older)))) opening
            ∙ ap (λ (c : List Clause). outcome_of c (replay_from (opening_state p.key (marks_of older)) (chain_of p.key (link_of (marks_of older) p) (marks_of older)))) own
            ∙ ap (outcome_of program) (sym state_is) ∙ sym outcome_is;
      };
      refused = λ e. absurd (cc);
      unsettled = λ e. absurd (cc);
      harmed = omega arith;
    }
