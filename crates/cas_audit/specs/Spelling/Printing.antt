-- What is written for a mark, without a newline.
pub use Rattle.cas_record.specs.Answers.{is_told}
use Rattle.std.specs.Prelude.{ℕ, Bool, true, false, List, [], ◌∷◌, ◌++◌, codes, decimal}
use Rattle.std.specs.List.{flat_map}
use Rattle.cas_ballot.specs.Ballot.{ballot_text}
use Rattle.cas_change.specs.declared.outcome.Took.{Took}
use Rattle.cas_change.specs.declared.outcome.Took.TheVariants as took
use Rattle.cas_change_text.specs.Printing.{program_text, state_text}
use Rattle.cas_lines.specs.Answers.{answer_text}
use Rattle.cas_quorum.specs.Fault.{plan_fault_text}
use Rattle.cas_record.specs.declared.answer.Answer.{Answer}
use Rattle.cas_record.specs.declared.answer.Answer.TheVariants as answer
use Rattle.cas_record.specs.declared.mark.Mark.{Mark}
use Rattle.cas_record.specs.declared.mark.Mark.TheVariants.{Begun, Proposed, Voted, Acked, Floor, EraEntered, Ended, Harmed, Told}
use Rattle.cas_record.specs.declared.mark.Proposal.{Proposal}
use Rattle.cas_record.specs.declared.operator.Asked.{Asked}
use Rattle.cas_record.specs.declared.operator.Asked.TheVariants as asked
use Rattle.cas_record.specs.declared.operator.OpAnswer.{OpAnswer}
use Rattle.cas_record.specs.declared.operator.OpAnswer.TheVariants as told

-- ---- parts
-- a number behind others
abbrev pub next_number_text : ℕ → List ℕ
next_number_text number = codes "," ++ decimal number

-- numbers, with a comma between any two
abbrev pub numbers_text : List ℕ → List ℕ
numbers_text [] = codes "-"
numbers_text (number ∷ numbers) = decimal number ++ flat_map next_number_text numbers

-- the call of that number of the caller
abbrev pub call_text : ℕ → ℕ → List ℕ
call_text caller call = decimal caller ++ codes "." ++ decimal call

-- which clause acted
abbrev pub clause_note : Took → List ℕ
clause_note (took.Clause i) = codes " clause " ++ decimal i
clause_note took.Nothing = codes " no clause"
clause_note (took.Unfit i) = codes " unfit " ++ decimal i

-- an answer with the number of its clause
abbrev pub full_answer_text : Answer → List ℕ
full_answer_text (answer.Done state took ballot) = codes "done " ++ state_text state ++ codes " at " ++ ballot_text ballot ++ clause_note took
full_answer_text other = answer_text other

-- what harmed a frame
abbrev pub harm_note : Bool → List ℕ
harm_note false = codes " fate"
harm_note true = codes " down"

-- what a proposal says behind its key: its ballot, the ballot that it read, its era, and the acceptors that promised
unfoldable pub ballots_text : Proposal → List ℕ
ballots_text p = ballot_text p.ballot ++ codes " read " ++ ballot_text p.read ++ codes " era " ++ decimal p.era ++ codes " by " ++ numbers_text p.prepared_by

-- ---- operators
abbrev pub asked_text : Asked → List ℕ
asked_text (asked.Join id) = codes "join " ++ decimal id
asked_text (asked.Leave id) = codes "leave " ++ decimal id
asked_text (asked.Collect key) = codes "collect " ++ key
asked_text (asked.Probe key) = codes "probe " ++ key
asked_text (asked.Resize need_prep need_acc) = codes "resize " ++ decimal need_prep ++ codes " " ++ decimal need_acc
asked_text (asked.Read key) = codes "read " ++ key

-- what an operator is answered; answers to probes are not written
abbrev pub told_text : OpAnswer → List ℕ
told_text (told.Joined id era rescanned) = codes "joined " ++ decimal id ++ codes " era " ++ decimal era ++ codes " rescanned " ++ decimal rescanned
told_text (told.Left id era rescanned) = codes "left " ++ decimal id ++ codes " era " ++ decimal era ++ codes " rescanned " ++ decimal rescanned
told_text (told.Resized need_prep need_acc era rescanned) =
    codes "resized " ++ decimal need_prep ++ codes " " ++ decimal need_acc ++ codes " era " ++ decimal era ++ codes " rescanned " ++ decimal rescanned
told_text (told.Refused fault) = plan_fault_text fault
told_text (told.Busy era) = codes "busy " ++ decimal era
told_text (told.Collected key ballot removed kept) = codes "collected " ++ key ++ codes " at " ++ ballot_text ballot ++ codes " removed " ++ decimal removed ++ codes " kept " ++ decimal kept
told_text (told.NotEmpty version) = codes "not empty v" ++ decimal version
told_text (told.Absent acceptor) = codes "absent " ++ decimal acceptor
told_text (told.ProposerDown proposer) = codes "proposer down " ++ decimal proposer
told_text (told.Probed key found) = []
told_text (told.Stopped answer) = answer_text answer

-- ---- marks
-- whether a record's text can have the mark
abbrev pub has_text : Mark → Bool
has_text (Told asked answer) = is_told answer
has_text other = true

abbrev pub mark_text : Mark → List ℕ
mark_text (Begun caller call key program) = codes "begun " ++ call_text caller call ++ codes " " ++ key ++ codes " " ++ program_text program
mark_text (Proposed p) = codes "proposed " ++ call_text p.caller p.call ++ codes " " ++ p.key ++ codes " " ++ ballots_text p
mark_text (Voted acceptor key ballot) = codes "voted " ++ decimal acceptor ++ codes " " ++ key ++ codes " " ++ ballot_text ballot
mark_text (Acked a) = codes "acked " ++ a.key ++ codes " " ++ ballot_text a.ballot ++ codes " era " ++ decimal a.era ++ codes " by " ++ numbers_text a.by
mark_text (Floor key ballot state) = codes "floor " ++ key ++ codes " " ++ ballot_text ballot ++ codes " " ++ state_text state
mark_text (EraEntered proposer number) = codes "entered " ++ decimal proposer ++ codes " " ++ decimal number
mark_text (Ended caller call rounds answer) = codes "ended " ++ call_text caller call ++ codes " " ++ decimal rounds ++ codes " " ++ full_answer_text answer
mark_text (Harmed caller call down) = codes "harmed " ++ call_text caller call ++ harm_note down
mark_text (Told asked answer) = codes "told " ++ asked_text asked ++ codes " -> " ++ told_text answer
