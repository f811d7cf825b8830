-- What the numbers, keys and sets of a mark can be.
use Rattle.std.specs.Prelude.{ℕ, ◌^◌, ◌<◌, ◌≤◌, List}
use Rattle.cas_ballot.specs.declared.ballot.Ballot.{Ballot}
use Rattle.cas_ballot.specs.Members.{IsMemberSet}
use Rattle.cas_change.specs.Key.{IsKey}
use Rattle.cas_change.specs.declared.program.Clause.{Clause}
use Rattle.cas_change.specs.declared.outcome.Took.{Took}
use Rattle.cas_change.specs.declared.outcome.Took.TheVariants as took
use Rattle.cas_change_text.specs.Grammar.{IsProgram}
use Rattle.cas_change_text.specs.Printing.{program_text}
use Rattle.cas_change_text.specs.Ranges.{StateFits}
use Rattle.cas_change_text.specs.Words.{words_of}
use Rattle.cas_record.specs.declared.answer.Answer.{Answer}
use Rattle.cas_record.specs.declared.answer.Answer.TheVariants as answer
use Rattle.cas_record.specs.declared.answer.Cause.{Cause}
use Rattle.cas_record.specs.declared.answer.Cause.TheVariants as cause
use Rattle.cas_record.specs.declared.mark.Acknowledgment.{Acknowledgment}
use Rattle.cas_record.specs.declared.mark.Mark.{Mark}
use Rattle.cas_record.specs.declared.mark.Mark.TheVariants.{Begun, Proposed, Voted, Acked, Floor, EraEntered, Ended, Harmed, Told}
use Rattle.cas_record.specs.declared.mark.Proposal.{Proposal}
use Rattle.cas_record.specs.declared.operator.Asked.{Asked}
use Rattle.cas_record.specs.declared.operator.Asked.TheVariants as asked
use Rattle.cas_record.specs.declared.operator.OpAnswer.{OpAnswer}
use Rattle.cas_record.specs.declared.operator.OpAnswer.TheVariants as told

-- a caller and the number of its call
abbrev pub CallFits : ℕ → ℕ → Type 0
CallFits caller call = (caller < 2 ^ 8) × (call < 2 ^ 32)

abbrev pub BallotFits : Ballot → Type 0
BallotFits ballot = (ballot.counter < 2 ^ 64) × (ballot.proposer < 2 ^ 8)

-- a program whose text spells it, as that of each program does that can be sent
abbrev pub ProgramFits : List Clause → Type 0
ProgramFits program = IsProgram (words_of (program_text program)) program

abbrev pub TookFits : Took → Type 0
TookFits (took.Clause i) = i < 2 ^ 8
TookFits took.Nothing = Unit {0}
TookFits (took.Unfit i) = i < 2 ^ 8

abbrev pub CauseFits : Cause → Type 0
CauseFits (cause.Met ballot) = BallotFits ballot
CauseFits (cause.Aged least) = least < 2 ^ 64
CauseFits (cause.Full acceptor) = acceptor ≤ 63
CauseFits (cause.Short got need) = (got < 2 ^ 32) × (need < 2 ^ 32)
CauseFits (cause.Moved era) = era < 2 ^ 32
CauseFits cause.Crashed = Unit {0}

abbrev pub AnswerFits : Answer → Type 0
AnswerFits (answer.Done state took ballot) = StateFits state × TookFits took × BallotFits ballot
AnswerFits (answer.Conflict met) = BallotFits met
AnswerFits (answer.Aged least) = least < 2 ^ 64
AnswerFits (answer.Full acceptor) = acceptor ≤ 63
AnswerFits (answer.Short got need) = (got < 2 ^ 32) × (need < 2 ^ 32)
AnswerFits (answer.Moved era) = era < 2 ^ 32
AnswerFits answer.Crashed = Unit {0}
AnswerFits (answer.Unsettled why) = CauseFits why
AnswerFits answer.Down = Unit {0}
AnswerFits answer.VaultFault = Unit {0}
AnswerFits answer.Spent = Unit {0}
AnswerFits answer.RecordFull = Unit {0}
AnswerFits (answer.NoMemory proposed) = Unit {0}

abbrev pub AskedFits : Asked → Type 0
AskedFits (asked.Join id) = id ≤ 63
AskedFits (asked.Leave id) = id ≤ 63
AskedFits (asked.Collect key) = IsKey key
AskedFits (asked.Probe key) = IsKey key
AskedFits (asked.Resize need_prep need_acc) = (need_prep < 2 ^ 32) × (need_acc < 2 ^ 32)
AskedFits (asked.Read key) = IsKey key

-- an acceptor, an era, and a count of keys
abbrev pub FinishFits : ℕ → ℕ → ℕ → Type 0
FinishFits id era rescanned = (id ≤ 63) × (era < 2 ^ 32) × (rescanned < 2 ^ 32)

-- an operator's answer that is written; others are free
abbrev pub ToldFits : OpAnswer → Type 0
ToldFits (told.Joined id era rescanned) = FinishFits id era rescanned
ToldFits (told.Left id era rescanned) = FinishFits id era rescanned
ToldFits (told.Resized need_prep need_acc era rescanned) = (need_prep < 2 ^ 32) × (need_acc < 2 ^ 32) × (era < 2 ^ 32) × (rescanned < 2 ^ 32)
ToldFits (told.Refused fault) = Unit {0}
ToldFits (told.Busy era) = era < 2 ^ 32
ToldFits (told.Collected key ballot removed kept) = IsKey key × BallotFits ballot × (removed < 2 ^ 32) × (kept < 2 ^ 32)
ToldFits (told.NotEmpty version) = version < 2 ^ 64
ToldFits (told.Absent acceptor) = acceptor ≤ 63
ToldFits (told.ProposerDown proposer) = proposer < 2 ^ 8
ToldFits (told.Probed key found) = Unit {0}
ToldFits (told.Stopped answer) = AnswerFits answer

-- the ballots of a proposal, its era, and the acceptors that promised
abbrev pub BallotsFit : Proposal → Type 0
BallotsFit p = BallotFits p.ballot × BallotFits p.read × (p.era < 2 ^ 32) × IsMemberSet p.prepared_by

abbrev pub ProposalFits : Proposal → Type 0
ProposalFits p = CallFits p.caller p.call × IsKey p.key × BallotsFit p

abbrev pub AcknowledgmentFits : Acknowledgment → Type 0
AcknowledgmentFits a = IsKey a.key × BallotFits a.ballot × (a.era < 2 ^ 32) × IsMemberSet a.by

abbrev pub MarkFits : Mark → Type 0
MarkFits (Begun caller call key program) = CallFits caller call × IsKey key × ProgramFits program
MarkFits (Proposed p) = ProposalFits p
MarkFits (Voted acceptor key ballot) = (acceptor ≤ 63) × IsKey key × BallotFits ballot
MarkFits (Acked a) = AcknowledgmentFits a
MarkFits (Floor key ballot state) = IsKey key × BallotFits ballot × StateFits state
MarkFits (EraEntered proposer number) = (proposer < 2 ^ 8) × (number < 2 ^ 32)
MarkFits (Ended caller call rounds answer) = CallFits caller call × (rounds < 2 ^ 32) × AnswerFits answer
MarkFits (Harmed caller call down) = CallFits caller call
MarkFits (Told asked answer) = AskedFits asked × ToldFits answer
