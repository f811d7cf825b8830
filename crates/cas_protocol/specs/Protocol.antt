-- The protocol whole: a cluster as the log of what happened in it and what each acceptor keeps, and all that may happen next. What a
-- party must know for it, or the whole process must see to, is the condition of the event. Frames are lost, repeated or late as they
-- like: a request that was ever made may be answered now, any number of times or never, and a proposer goes by whichever replies were
-- ever made to it. A proposer that stops is no event of its own: it does nothing for a while, and draws above all that it drew.
use Rattle.std.specs.Prelude.{◌≡◌, ⊤, ℕ, suc, ◌<◌, ◌≤◌, ◌==◌, if◌then◌else◌, true, false, Bool, List, [], ◌∷◌, Option, Contains, ◌⊎◌, ◌+◌, pos}
use Rattle.cas_ballot.specs.declared.ballot.Ballot.{Ballot}
use Rattle.cas_ballot.specs.Ballot.{BallotAtMost, BallotLess}
use Rattle.cas_ballot.specs.Members.{has_member}
use Rattle.cas_cache.specs.declared.ready.Ready.{Ready}
use Rattle.cas_change.specs.declared.outcome.Outcome.{Outcome}
use Rattle.cas_change.specs.declared.program.Clause.{Clause}
use Rattle.cas_change.specs.declared.state.State.{State}
use Rattle.cas_change.specs.declared.state.State.TheVariants.{Empty, Held}
use Rattle.cas_change.specs.declared.state.Body.TheVariants.{Number}
use Rattle.cas_change.specs.declared.outcome.Took.TheVariants.{Clause as ByClause}
use Rattle.cas_change.specs.Outcome.{outcome_of}
use Rattle.cas_round.specs.Replies.{promisers_of, accepters_of}
use Rattle.cas_round.specs.Round.{IsRead}
use Rattle.cas_slot.specs.declared.message.Ask.{Ask}
use Rattle.cas_slot.specs.declared.message.Ask.TheVariants as ask
use Rattle.cas_slot.specs.declared.message.Request.{Request}
use Rattle.cas_slot.specs.declared.message.Reply.{Reply}
use Rattle.cas_slot.specs.declared.message.Tell.{Tell}
use Rattle.cas_slot.specs.declared.slot.Accepted.{Accepted}
use Rattle.cas_slot.specs.Contents.{Contents, nothing}
use Rattle.cas_slot.specs.Slot.{accepted_ballot}
use Rattle.cas_slot.specs.Table.{Handles, IsReplyByTable}
use Rattle.cas_record.specs.declared.answer.Answer.{Answer}
use Rattle.cas_record.specs.declared.answer.Answer.TheVariants as answer
use Rattle.cas_record.specs.declared.operator.Asked.{Asked as OperatorAsked}
use Rattle.cas_record.specs.declared.operator.OpAnswer.{OpAnswer}
use Rattle.cas_record.specs.declared.mark.Acknowledgment.{Acknowledgment}
use Rattle.cas_record.specs.declared.mark.Mark.{Mark}
use Rattle.cas_record.specs.declared.mark.Mark.TheVariants.{Begun, Proposed, Voted, Acked, Floor, EraEntered, Ended, Harmed, Told}
use Rattle.cas_record.specs.declared.mark.Proposal.{Proposal}
use Rattle.cas_record.specs.Histories.Chain.{chain_of, link_of}
use Rattle.cas_record.specs.Logs.Happening.{Happening, Marked, Asked, Drew, Entered, Replied, marks_of}
use Rattle.cas_record.specs.Logs.Lawful.{Cluster, ClusterMeets, Lawful, AllEntered, IsRescanned, MayMarkEra}
use Rattle.cas_record.specs.Legal.{IsLegal, HasFloor, IsProposed, IsEnded, IsAcked, IsFirstEnd, calls_of, tells_refused, tells_unsettled, harms_due, harms_of}
use Rattle.cas_record.specs.Laws.{HistoryIsOpened}
use Rattle.cas_record.specs.Logs.Listing.{WasAbsent}
use Rattle.cas_record.specs.Logs.Orderly.{Orderly, MayAsk, IsClear, IsAgedOut}
use Rattle.cas_record.specs.Places.{Stands, At}
use Rattle.cas_record.specs.Histories.Replay.{replay_from, opening_state}
use Rattle.cas_record.specs.Logs.Witness.{small_cluster, key_a, at}
use Rattle.cas_protocol.specs.Acceptors.{LogTells, IsMadeState, IsEmptyAt, IsAskState, done_log, answered_log}
use Rattle.cas_protocol.specs.Desks.{IsPastAll}
use Rattle.cas_protocol.specs.Proposers.{IsReplyTrue, IsOpenRound, IsProposedIn, IsVoteSeen, HasVotesSeen, AllRide, state_read}

-- ---- a cluster
-- what a proposer made of what it read
pub record Made : Type 0 where
  pub proposal : Proposal
  pub outcome : Outcome

pub record GlobalState : Type 0 where
  -- newest first
  pub log : List Happening
  -- by the number of the acceptor
  pub kept : ℕ → Contents
  pub made : List Made

-- nothing happened yet
abbrev pub opening : GlobalState
opening = record { log = []; kept = λ id. nothing; made = [] }

abbrev pub kept_but : (ℕ → Contents) → ℕ → Contents → ℕ → Contents
kept_but kept acceptor new id = if id == acceptor then new else kept id

-- ---- what parties know
-- each of the replies was made
abbrev pub AllReplied : List Happening → List Reply → Type 0
AllReplied log replies = (reply : Reply) → Contains replies reply → (request : Request) × Stands (Replied request reply) log

-- a proposer made this state at the key's ballot
pub record HasMade (all : List Made) (key : List ℕ) (ballot : Ballot) (era : ℕ) (state : State) : Type 0 where
  pub made : Made
  pub stands : Stands made all
  pub same_key : made.proposal.key ≡ key
  pub same_ballot : made.proposal.ballot ≡ ballot
  pub same_era : made.proposal.era ≡ era
  pub same_state : made.outcome.state ≡ state

-- what is asked to be accepted was made
abbrev pub IsMadeAsk : List Made → Ask → Type 0
IsMadeAsk all (ask.Accept key ballot era ride state) = HasMade all key ballot era state
IsMadeAsk all other = ⊤

-- the call that proposed the ballot has ended
pub record HasEnded (marks : List Mark) (ballot : Ballot) : Type 0 where
  pub proposal : Proposal
  pub stands : Stands (Proposed proposal) marks
  pub same_ballot : proposal.ballot ≡ ballot
  pub ended : IsEnded proposal.caller proposal.call marks

-- new ages are told under the ballot of a call that has ended
abbrev pub IsEndedAsk : List Mark → Ask → Type 0
IsEndedAsk marks (ask.Ages tag least) = HasEnded marks tag
IsEndedAsk marks other = ⊤

pub record IsAskable (cluster : Cluster) (global : GlobalState) (request : Request) : Type 0 where
  pub may : MayAsk cluster global.log request request.ask
  pub made : IsMadeAsk global.made request.ask
  pub ended : IsEndedAsk (marks_of global.log) request.ask
  pub from : request.from ≤ 16
  pub to : request.to < 64

-- the prepare phase of the call's round has a quorum, and this is what was read
pub record IsPrepared (cluster : Cluster) (log : List Happening) (p : Proposal) (read : Option Accepted) : Type 0 where
  pub round : IsOpenRound log p.caller p.call p.key p.ballot p.era
  pub replies : List Reply
  pub replied : AllReplied log replies
  pub by : p.prepared_by ≡ promisers_of p.ballot replies
  pub quorum : cluster.prepares p.era p.prepared_by ≡ true
  pub is_read : IsRead p.ballot replies read
  pub same_read : p.read ≡ accepted_ballot read

-- the call's round is at a ballot that was to be promised by whoever accepted what the proposer had made at the key's last one; a
-- prepare quorum accepted that, and no floor was made above it
pub record IsPreparedByRide (cluster : Cluster) (global : GlobalState) (p : Proposal) (ready : Ready) : Type 0 where
  pub round : IsOpenRound global.log p.caller p.call p.key p.ballot p.era
  pub same_ballot : p.ballot ≡ ready.ballot
  pub same_read : p.read ≡ ready.read
  pub by : p.prepared_by ≡ ready.by
  pub drawn : Stands (Drew ready.read p.key p.era) global.log
  pub made : HasMade global.made p.key ready.read p.era ready.state
  pub replies : List Reply
  pub replied : AllReplied global.log replies
  pub accepted_by : ready.by ≡ accepters_of ready.read replies
  pub quorum : cluster.prepares p.era ready.by ≡ true
  pub above : BallotLess ready.read ready.ballot
  pub all : AllRide global.log p.key ready.read ready.ballot
  pub over_floors : (floor : Ballot) → HasFloor p.key floor (marks_of global.log) → BallotAtMost floor ready.read

-- the accept phase has a quorum
pub record IsAccepted (cluster : Cluster) (log : List Happening) (a : Acknowledgment) : Type 0 where
  pub proposed : IsProposedIn log a
  pub replies : List Reply
  pub replied : AllReplied log replies
  pub by : a.by ≡ accepters_of a.ballot replies
  pub quorum : cluster.accepts a.era a.by ≡ true

abbrev pub is_done : Answer → Bool
is_done (answer.Done state took ballot) = true
is_done other = false

-- an answer that is not Done: a refused change was not proposed, an unsettled one was, and what is short was harmed
pub record IsOtherEnd (log : List Happening) (caller call : ℕ) (answer : Answer) : Type 0 where
  pub first : IsFirstEnd caller call (marks_of log)
  pub not_done : is_done answer ≡ false
  pub refused : tells_refused answer ≡ true → IsProposed caller call (marks_of log) → ⊥
  pub unsettled : tells_unsettled answer ≡ true → IsProposed caller call (marks_of log)
  pub harmed : harms_due answer ≤ harms_of caller call (marks_of log)

-- All proposers are in an era, and each member of that era or of a later one took the floor, or was never asked at or below it; and what
-- it was asked at or below it is too old for it.
pub record IsFloorClear (cluster : Cluster) (log : List Happening) (key : List ℕ) (floor : Ballot) : Type 0 where
  pub era : ℕ
  pub all_in : (era ≡ 0) ⊎ AllEntered cluster era (marks_of log)
  pub clear : (number acceptor : ℕ) → era ≤ number → has_member (cluster.members number) acceptor ≡ true → IsClear log acceptor key floor
  pub aged : (number acceptor : ℕ) → era ≤ number → has_member (cluster.members number) acceptor ≡ true → IsAgedOut log acceptor key floor

-- the empty state was made at the key's ballot and acknowledged, and members are clear of what was below it
pub record MayBeFloor (cluster : Cluster) (global : GlobalState) (key : List ℕ) (tomb : Ballot) : Type 0 where
  pub made : IsEmptyAt (marks_of global.log) key tomb
  pub acked : IsAcked key tomb (marks_of global.log)
  pub clear : IsFloorClear cluster global.log key tomb

-- an accept quorum of the era showed of each key that it had no slot once all were in the era, or the key was rescanned there
pub record IsListed (cluster : Cluster) (log : List Happening) (era : ℕ) : Type 0 where
  pub all_in : AllEntered cluster era (marks_of log)
  pub by : List ℕ
  pub quorum : cluster.accepts era by ≡ true
  pub shown : (acceptor : ℕ) (key : List ℕ) → has_member by acceptor ≡ true → IsRescanned cluster era key (marks_of log) ⊎ WasAbsent cluster era log acceptor key

-- a proposer that is known leaves this era for the next, once: era 0 as it likes, and any other when it is listed
pub record IsLeaving (cluster : Cluster) (log : List Happening) (proposer left : ℕ) : Type 0 where
  pub known : proposer ≤ cluster.last_proposer
  pub once : Stands (Entered proposer (suc left)) log → ⊥
  pub listed : (left ≡ 0) ⊎ IsListed cluster log left

-- ---- what may happen
pub data ProtocolEvent (cluster : Cluster) (global : GlobalState) : Type 0 where
  -- a caller's next call begins
  Begins : (caller call : ℕ) (key : List ℕ) (program : List Clause) → call ≡ suc (calls_of caller (marks_of global.log)) → ProtocolEvent cluster global
  -- a proposer draws the ballot after its counter
  Draws : (proposer era counter : ℕ) (key : List ℕ) → IsPastAll cluster global.log proposer era counter key → ProtocolEvent cluster global
  -- a request is made
  Asks : (request : Request) → IsAskable cluster global request → ProtocolEvent cluster global
  -- an acceptor handles a request that was once made, and answers it
  Answers : (request : Request) (reply : Reply) (new : Contents) → Stands (Asked request) global.log → IsReplyByTable request.to (global.kept request.to) request reply new → ProtocolEvent cluster global
  -- an acceptor stopped within such a request and answers nobody, but a crash left what the answer would have made
  StopsWithin : (request : Request) (tell : Tell) (new : Contents) → Stands (Asked request) global.log → Handles (global.kept request.to) request tell new → ProtocolEvent cluster global
  -- a proposer proposes what the program of the call makes of what its round read, or of what a promise rode on
  Proposes : (p : Proposal) (program : List Clause) (read : Option Accepted) → Stands (Begun p.caller p.call p.key program) (marks_of global.log) → IsPrepared cluster global.log p read → ProtocolEvent cluster global
  ProposesByRide : (p : Proposal) (program : List Clause) (ready : Ready) → Stands (Begun p.caller p.call p.key program) (marks_of global.log) → IsPreparedByRide cluster global p ready → ProtocolEvent cluster global
  -- what was proposed is counted
  Counts : (a : Acknowledgment) → IsAccepted cluster global.log a → ProtocolEvent cluster global
  -- a vote is seen, whoever took the ballot and whether it ever told so when it took it
  SeesVote : (acceptor : ℕ) (key : List ℕ) (ballot : Ballot) → IsVoteSeen global.log acceptor key ballot → ProtocolEvent cluster global
  -- what was proposed is counted by the votes that were seen
  CountsSeen : (a : Acknowledgment) → HasVotesSeen cluster global.log a → ProtocolEvent cluster global
  -- a call is answered Done with what was made, once that is acknowledged
  EndsDone : (made : Made) (rounds : ℕ) → Stands made global.made → IsAcked made.proposal.key made.proposal.ballot (marks_of global.log)
      → (IsEnded made.proposal.caller made.proposal.call (marks_of global.log) → ⊥) → ProtocolEvent cluster global
  -- or anything else
  EndsElse : (caller call rounds : ℕ) (answer : Answer) → IsOtherEnd global.log caller call answer → ProtocolEvent cluster global
  -- a frame of a call was harmed
  Harms : (caller call : ℕ) (down : Bool) → ProtocolEvent cluster global
  -- the operator was told something
  TellsOperator : (asked : OperatorAsked) (told : OpAnswer) → ProtocolEvent cluster global
  -- a tombstone is made a floor
  MakesFloor : (key : List ℕ) (tomb : Ballot) → MayBeFloor cluster global key tomb → ProtocolEvent cluster global
  -- a proposer enters the era after the one that it leaves, and is marked as in it
  Enters : (proposer left : ℕ) → IsLeaving cluster global.log proposer left → ProtocolEvent cluster global
  MarksEra : (proposer era : ℕ) → MayMarkEra global.log proposer era → ProtocolEvent cluster global

abbrev pub with_mark : GlobalState → Happening → GlobalState
with_mark global happening = record global { log = happening ∷ global.log }

abbrev pub with_proposal : GlobalState → Proposal → Outcome → GlobalState
with_proposal global p outcome = record global { log = Marked (Proposed p) ∷ global.log; made = record { proposal = p; outcome = outcome } ∷ global.made }

-- the cluster after it
abbrev pub after : (cluster : Cluster) (global : GlobalState) → ProtocolEvent cluster global → GlobalState
after cluster global (Begins caller call key program numbered) = with_mark global (Marked (Begun caller call key program))
after cluster global (Draws proposer era counter key past) = with_mark global (Drew (record { counter = counter + 1; proposer = proposer }) key era)
after cluster global (Asks request askable) = with_mark global (Asked request)
after cluster global (Answers request reply new asked answered) =
    record global { log = answered_log request.to (global.kept request.to) request reply global.log; kept = kept_but global.kept request.to new }
after cluster global (StopsWithin request tell new asked row) = record global { log = done_log request.to (global.kept request.to) request tell global.log; kept = kept_but global.kept request.to new }
after cluster global (Proposes p program read begun prepared) = with_proposal global p (outcome_of program (state_read read))
after cluster global (ProposesByRide p program ready begun prepared) = with_proposal global p (outcome_of program ready.state)
after cluster global (Counts a accepted) = with_mark global (Marked (Acked a))
after cluster global (SeesVote acceptor key ballot seen) = with_mark global (Marked (Voted acceptor key ballot))
after cluster global (CountsSeen a seen) = with_mark global (Marked (Acked a))
after cluster global (EndsDone made rounds stands acked open_yet) =
    with_mark global (Marked (Ended made.proposal.caller made.proposal.call rounds (answer.Done made.outcome.state made.outcome.took made.proposal.ballot)))
after cluster global (EndsElse caller call rounds answer other) = with_mark global (Marked (Ended caller call rounds answer))
after cluster global (Harms caller call down) = with_mark global (Marked (Harmed caller call down))
after cluster global (TellsOperator asked told) = with_mark global (Marked (Told asked told))
after cluster global (MakesFloor key tomb may) = with_mark global (Marked (Floor key tomb Empty))
after cluster global (Enters proposer left leaving) = with_mark global (Entered proposer (suc left))
after cluster global (MarksEra proposer era may) = with_mark global (Marked (EraEntered proposer era))

-- all that happened, from the opening on
pub data Run (cluster : Cluster) : GlobalState → Type 0 where
  opened : Run cluster opening
  then : (global : GlobalState) → Run cluster global → (event : ProtocolEvent cluster global) → Run cluster (after cluster global event)

-- ---- the history of a cluster
-- what was made is what the program of its call made of the state from which its proposal went on; and that is the state of its ballot
pub record IsMadeOf (log : List Happening) (m : Made) : Type 0 where
  pub older : List Happening
  pub at : At (Marked (Proposed m.proposal)) older log
  pub program : List Clause
  pub begun : Stands (Begun m.proposal.caller m.proposal.call m.proposal.key program) (marks_of older)
  pub state : State
  pub is_read : state ≡ replay_from (opening_state m.proposal.key (marks_of older)) (chain_of m.proposal.key (link_of (marks_of older) m.proposal) (marks_of older))
  pub same_outcome : m.outcome ≡ outcome_of program state
  pub is_made : IsMadeState (marks_of log) m.proposal.key m.proposal.ballot m.proposal.era m.outcome.state

-- what requests ask for and replies tell is so, each ballot was drawn before it was proposed, what was made is so, and each floor is empty
-- or opened the history of its key, and members are clear of it
pub record Knows (cluster : Cluster) (log : List Happening) (all : List Made) : Type 0 where
  pub asked : (request : Request) → Stands (Asked request) log → IsAskState (marks_of log) request.ask
  pub known : (request : Request) → Stands (Asked request) log → (request.from ≤ 16) × (request.to < 64)
  pub ended : (request : Request) → Stands (Asked request) log → IsEndedAsk (marks_of log) request.ask
  pub replied : (request : Request) (reply : Reply) → Stands (Replied request reply) log → IsReplyTrue log reply
  pub drawn : (p : Proposal) → Stands (Proposed p) (marks_of log) → Stands (Drew p.ballot p.key p.era) log
  pub made : (m : Made) → Stands m all → IsMadeOf log m
  pub floors : (key : List ℕ) (floor : Ballot) → HasFloor key floor (marks_of log) → IsEmptyAt (marks_of log) key floor ⊎ HistoryIsOpened cluster log key floor
  pub clear : (key : List ℕ) (floor : Ballot) → HasFloor key floor (marks_of log) → IsFloorClear cluster log key floor

-- the log is lawful and each happening has its reason; it tells what each acceptor keeps; and what is known is so
pub record HasHistory (cluster : Cluster) (global : GlobalState) : Type 0 where
  pub lawful : Lawful cluster global.log
  pub orderly : Orderly cluster global.log
  pub tells : (acceptor : ℕ) → LogTells global.log acceptor (global.kept acceptor)
  pub knows : Knows cluster global.log global.made

-- ---- laws
-- Whatever happens, a cluster with a history has one after it.
abbrev pub EventsKeepHistory : Type 0
EventsKeepHistory = (cluster : Cluster) → ClusterMeets cluster → (global : GlobalState) → HasHistory cluster global → (event : ProtocolEvent cluster global) → HasHistory cluster (after cluster global event)

-- After whatever happened, from the opening on, a cluster has a history, and its record is legal.
abbrev pub RunsAreLegal : Type 0
RunsAreLegal = (cluster : Cluster) → ClusterMeets cluster → (global : GlobalState) → Run cluster global → HasHistory cluster global × IsLegal (marks_of global.log)

-- a run in which a call is answered Done with what it added to nothing, and the next one is proposed by a promise that rode along
pub record SomeRunIsDone : Type 0 where
  pub global : GlobalState
  pub run : Run small_cluster global
  pub done : Stands (Ended 0 1 1 (answer.Done (Held 0 (Number (pos 5))) (ByClause 0) (at 1 0))) (marks_of global.log)
  pub next : Stands (Proposed (record { caller = 0; call = 2; key = key_a; ballot = at 2 0; read = at 1 0; era = 0; prepared_by = 1 ∷ 2 ∷ [] })) (marks_of global.log)
