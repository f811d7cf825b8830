-- What is known of a state, a reply or a promise that rode along: how it comes to be so, and that it stays so.
use Rattle.std.proofs.Common.{◌≡◌, ◌<◌, ℕ, List, ◌∷◌, ◌++◌, Option, Some, refl, sym, ap, subst, ◌∙◌, inl, inr}
use Rattle.std.specs.Prelude.{unwrap_or}
use Rattle.cas_ballot.specs.declared.ballot.Ballot.{Ballot}
use Rattle.cas_ballot.specs.Ballot.{zero_ballot, BallotAtMost}
use Rattle.cas_ballot.specs.Members.{has_member}
use Rattle.cas_cache.specs.declared.ready.Ready.{Ready}
use Rattle.cas_change.specs.declared.program.Clause.{Clause}
use Rattle.cas_change.specs.declared.state.State.{State}
use Rattle.cas_change.specs.declared.state.State.TheVariants.{Empty}
use Rattle.cas_change.specs.Outcome.{outcome_of}
use Rattle.cas_round.proofs.Lists.{contains}
use Rattle.cas_slot.specs.declared.message.Ask.{Ask}
use Rattle.cas_slot.specs.declared.message.Ask.TheVariants as ask
use Rattle.cas_slot.specs.declared.message.Request.{Request}
use Rattle.cas_slot.specs.declared.message.Reply.{Reply}
use Rattle.cas_slot.specs.declared.message.Tell.{Tell}
use Rattle.cas_slot.specs.declared.message.Tell.TheVariants as tell
use Rattle.cas_slot.specs.Contents.{Contents}
use Rattle.cas_slot.specs.Table.{Handles}
use Rattle.cas_record.specs.declared.mark.Mark.TheVariants.{Proposed, Voted, Floor}
use Rattle.cas_record.specs.Histories.Chain.{chain_of, link_of, program_of}
use Rattle.cas_record.specs.Logs.Happening.{Happening, Marked, Asked, Took, marks_of}
use Rattle.cas_record.specs.Logs.Lawful.{Cluster, Lawful, MayVote}
use Rattle.cas_record.specs.Legal.{HasProposal, HasFloor}
use Rattle.cas_record.specs.Logs.Orderly.{Orderly, took_it}
use Rattle.cas_record.specs.Places.{Stands, here, past}
use Rattle.cas_record.specs.Histories.Replay.{replay_from, opening_state}
use Rattle.cas_record.proofs.Histories.Calls.{program_of_begun}
use Rattle.cas_record.proofs.LegalLemmas.{counted}
use Rattle.cas_record.proofs.Logs.Lemmas.{law, stands_in_log, proposed_at, chain_whole, link_begins}
use Rattle.cas_record.proofs.Logs.Openings.{has_opening_deeper, never_proposed}
use Rattle.cas_record.proofs.Logs.Orders.{reason}
use Rattle.cas_record.proofs.PlaceLemmas.{stands_deeper, newest_or}
use Rattle.cas_record.proofs.Histories.Replays.{replay_of_proposal}
use Rattle.cas_protocol.specs.Acceptors.{IsAcceptedState, IsTellState, events_of, votes_of}
use Rattle.cas_protocol.specs.Desks.{IsRiding}
use Rattle.cas_protocol.specs.Laws.{LogTellsKept, RepliesAreTrue, WhatIsKnownStays, ProposalsMakeStates, PromisesRideLawfully, TombstonesAreFloors}
use Rattle.cas_protocol.specs.Proposers.{IsReplyTrue}
use Rattle.cas_protocol.proofs.Growing.{opening_later, made_grows, ask_grows, tell_grows}
use Rattle.cas_protocol.proofs.Proposes.{voter}
use Rattle.cas_protocol.proofs.Proposing.{vote_heard}

-- ---- replies
-- what is told of a state was accepted, and so is the state of a proposal
tell_made : (cluster : Cluster) {log : List Happening} (request : Request) (old new : Contents) (question : Ask) (answer : Tell) → LogTellsKept cluster log request.to old
    → Handles old (record request { ask = question }) answer new
    → IsTellState (marks_of (votes_of request.to question answer ++ (events_of request.to old question answer ++ log))) question answer
tell_made cluster {log} request old new (ask.Prepare key ballot) (tell.Promised accepted) on row = subst (IsAcceptedState (marks_of log) key) (sym row.1.0) (on.tells.states key)
tell_made cluster {log} request old new (ask.Probe tag key) (tell.Probed promise accepted) on row = subst (IsAcceptedState (marks_of log) key) (sym row.1.1) (on.tells.states key)
tell_made cluster request old new (ask.Accept key ballot era ride state) answer on row = tt
tell_made cluster request old new (ask.Ages tag least) answer on row = tt
tell_made cluster request old new (ask.Remove key tomb) answer on row = tt
tell_made cluster request old new (ask.List tag after) answer on row = tt
tell_made cluster request old new question (tell.Met seen) on row = tt
tell_made cluster request old new question (tell.Aged least) on row = tt
tell_made cluster request old new question tell.Full on row = tt
-- nothing else is told
tell_made cluster request old new question answer on row = absurd row.1

pub replies : RepliesAreTrue
replies cluster log old new request reply on asked state known small is = record {
  from = subst (λ i. i < 64) (sym is.from) small;
  request = request;
  replied = record { older = votes_of request.to request.ask reply.tell ++ (events_of request.to old request.ask reply.tell ++ log); at = here };
  state = tell_made cluster request old new request.ask reply.tell on is.row;
}

-- ---- what stays
pub reply_stays : (cluster : Cluster) (h : Happening) (log : List Happening) → Lawful cluster (h ∷ log) → (reply : Reply) → IsReplyTrue log reply → IsReplyTrue (h ∷ log) reply
reply_stays cluster h log lawful reply was = record {
  from = was.from;
  request = was.request;
  replied = record { older = was.replied.older; at = past was.replied.at };
  state = tell_grows cluster h log was.request.ask reply.tell lawful was.state;
}

-- a floor that stands once the log went on stood before, or was made just now
floor_cases : (h : Happening) (log : List Happening) (key : List ℕ) (floor read : Ballot) → ((f : Ballot) (state : State) → h ≡ Marked (Floor key f state) → BallotAtMost f read)
    → ((f : Ballot) → HasFloor key f (marks_of log) → BallotAtMost f read) → HasFloor key floor (marks_of (h ∷ log)) → BallotAtMost floor read
floor_cases (Marked mark) log key floor read new old has = elim (newest_or has.stands) [
  | inl now ↦ new floor has.state (ap Marked (sym now))
  | inr before ↦ old floor (record { state = has.state; stands = before })
]
floor_cases h log key floor read new old has = old floor has

ride_stays : (cluster : Cluster) (h : Happening) (log : List Happening) → Lawful cluster (h ∷ log) → (key : List ℕ) (era : ℕ) (ready : Ready)
    → ((floor : Ballot) (state : State) → h ≡ Marked (Floor key floor state) → BallotAtMost floor ready.read) → IsRiding cluster log key era ready → IsRiding cluster (h ∷ log) key era ready
ride_stays cluster h log lawful key era ready floors was = record {
  quorum = was.quorum;
  took = λ acceptor member. let took = was.took acceptor member in record { older = took.older; at = past took.at };
  above = was.above;
  made_in = was.made_in;
  state = made_grows cluster h log lawful was.state;
  over_floors = λ floor has. floor_cases h log key floor ready.read floors was.over_floors has;
}

pub stays : WhatIsKnownStays
stays cluster h log lawful = record {
  made = λ key ballot era state was. made_grows cluster h log lawful was;
  asked = λ question was. ask_grows cluster h log question lawful was;
  replied = reply_stays cluster h log lawful;
  rides = ride_stays cluster h log lawful;
}

-- ---- proposals
pub makes : ProposalsMakeStates
makes cluster log p program state outcome lawful may begun state_is outcome_is =
    let after : Lawful cluster (Marked (Proposed p) ∷ log) = (lawful, may) in
    let opening : opening_state p.key (Proposed p ∷ marks_of log) ≡ opening_state p.key (marks_of log) = opening_later cluster after here in
    let own : program_of p.caller p.call (marks_of log) ≡ program = program_of_begun (counted cluster log lawful) begun.at in
    let chain : chain_of p.key (link_of (marks_of log) p) (marks_of log) ≡ chain_of p.key (link_of (marks_of log) p) (Proposed p ∷ marks_of log) =
    chain_whole cluster {happening = Marked (Proposed p)} after here (link_begins cluster after here) in
    let read : state ≡ replay_from (opening_state p.key (Proposed p ∷ marks_of log)) (chain_of p.key (link_of (marks_of log) p) (Proposed p ∷ marks_of log)) =
    state_is ∙ ap (replay_from (opening_state p.key (marks_of log))) chain ∙ ap (λ (o : State). replay_from o (chain_of p.key (link_of (marks_of log) p) (Proposed p ∷ marks_of log))) (sym opening) in
    record {
      proposal = p;
      stands = record { older = marks_of log; at = here };
      same_key = refl;
      same_ballot = refl;
      same_era = refl;
      state_is = ap (λ o. o.state) outcome_is ∙ ap (λ (s : State). (outcome_of program s).state) read
          ∙ ap (λ (c : List Clause). (outcome_of c (replay_from (opening_state p.key (Proposed p ∷ marks_of log)) (chain_of p.key (link_of (marks_of log) p) (Proposed p ∷ marks_of log)))).state) (sym own)
          ∙ sym (replay_of_proposal cluster {p = p} (opening_state p.key (Proposed p ∷ marks_of log)) after here);
    }

-- ---- a promise that rides along
-- what an acceptor voted for it took, with the ride that all were asked for
took_ride : (cluster : Cluster) {log : List Happening} (acceptor : ℕ) (key : List ℕ) (ballot ride : Ballot) → Lawful cluster log → Orderly cluster log → HasProposal key ballot (marks_of log) → Stands (Voted acceptor key ballot) (marks_of log)
    → ((request : Request) (era : ℕ) (asked : Option Ballot) (state : State) → Stands (Asked request) log → request.ask ≡ ask.Accept key ballot era asked state → asked ≡ Some ride)
    → Stands (Took acceptor key ballot ride) log
took_ride cluster {log} acceptor key ballot ride lawful orderly proposed voted rides =
    let place = stands_in_log log voted in
    let vote : MayVote place.older acceptor key ballot = law cluster lawful place.at in
    let taken : Stands (Took acceptor key ballot vote.ride) log = stands_deeper vote.taken place.at in
    elim (reason cluster orderly taken.at) [
      | inl by ↦
          let same : by.rides ≡ Some ride = rides by.request by.era by.rides by.state (stands_deeper by.was_asked.asked taken.at) by.is in
          subst (λ r. Stands (Took acceptor key ballot r) log) (by.ride_is ∙ ap (λ (o : Option Ballot). unwrap_or o zero_ballot) same) taken
      | inr first ↦ absurd (never_proposed cluster lawful (has_opening_deeper first.opening taken.at) (proposed_at log proposed))
    ]

pub rides_along : PromisesRideLawfully
rides_along cluster log key era ready replies lawful orderly drawn made true_ by quorum above all floors = record {
  quorum = quorum;
  took = λ acceptor member.
      let who = voter replies ready.read acceptor (sym (ap (λ ids. has_member ids acceptor) by) ∙ member) in
      let vote = vote_heard cluster key ready.read era who.reply orderly drawn (true_ who.reply (contains who.reply replies who.stands)) who.is_heard who.tells in
      took_ride cluster acceptor key ready.read ready.ballot lawful orderly (record { proposal = made.proposal; stands = made.stands; same_key = made.same_key; same_ballot = made.same_ballot }) (subst (λ x. Stands (Voted x key ready.read) (marks_of log)) who.from vote) all.rides;
  above = above;
  made_in = era;
  state = made;
  over_floors = floors;
}

-- ---- floors
pub floored : TombstonesAreFloors
floored cluster log key tomb lawful empty acked =
    let after : Lawful cluster (Marked (Floor key tomb Empty) ∷ log) = (lawful, inr (record { is_empty = refl; acked = acked })) in (
      after,
      ((empty.0, made_grows cluster (Marked (Floor key tomb Empty)) log after empty.1), λ acceptor ride took. took_it ride (record { older = took.older; at = past took.at })),
    )
