-- What is written for each answer.
use Rattle.std.specs.Prelude.{ℕ, true, false, List, [], ◌∷◌, ◌++◌, codes, decimal, Option, Some, None}
use Rattle.std.specs.List.{flat_map}
use Rattle.cas_ballot.specs.Ballot.{ballot_text}
use Rattle.cas_change.specs.declared.outcome.Took.{Took}
use Rattle.cas_change.specs.declared.outcome.Took.TheVariants as took
use Rattle.cas_change_text.specs.Printing.{state_text}
use Rattle.cas_change_text.specs.Refusal.{reason_text}
use Rattle.cas_change_text.specs.declared.refusal.Why.{Why}
use Rattle.cas_lines.specs.declared.answer.EventAnswer.{EventAnswer}
use Rattle.cas_lines.specs.declared.answer.EventAnswer.TheVariants as event
use Rattle.cas_lines.specs.declared.answer.Shown.{Shown}
use Rattle.cas_lines.specs.declared.answer.Shown.TheVariants as shown
use Rattle.cas_quorum.specs.Fault.{plan_fault_text}
use Rattle.cas_record.specs.declared.answer.Answer.{Answer}
use Rattle.cas_record.specs.declared.answer.Answer.TheVariants as answer
use Rattle.cas_record.specs.declared.answer.Cause.{Cause}
use Rattle.cas_record.specs.declared.answer.Cause.TheVariants as cause
use Rattle.cas_record.specs.declared.operator.OpAnswer.{OpAnswer}
use Rattle.cas_record.specs.declared.operator.OpAnswer.TheVariants as op
use Rattle.cas_record.specs.declared.operator.Probe.{Probe}
use Rattle.cas_record.specs.declared.read_answer.ReadAnswer.{ReadAnswer}
use Rattle.cas_record.specs.declared.read_answer.ReadAnswer.TheVariants as read
use Rattle.cas_slot.specs.declared.message.Tell.{Tell}
use Rattle.cas_slot.specs.declared.message.Tell.TheVariants as tell
use Rattle.cas_slot.specs.declared.slot.Accepted.{Accepted}

-- what is said of a change of which no clause acted
abbrev pub took_text : Took → List ℕ
took_text (took.Clause i) = []
took_text took.Nothing = codes " no clause"
took_text (took.Unfit i) = codes " unfit"

-- why a proposed change is not known to stand
abbrev pub cause_text : Cause → List ℕ
cause_text (cause.Met ballot) = codes "met " ++ ballot_text ballot
cause_text (cause.Aged least) = codes "aged " ++ decimal least
cause_text (cause.Full acceptor) = codes "full " ++ decimal acceptor
cause_text (cause.Short got need) = codes "short " ++ decimal got ++ codes " " ++ decimal need
cause_text (cause.Moved era) = codes "moved " ++ decimal era
cause_text cause.Crashed = codes "crashed"

abbrev pub answer_text : Answer → List ℕ
answer_text (answer.Done state took ballot) = codes "done " ++ state_text state ++ codes " at " ++ ballot_text ballot ++ took_text took
answer_text (answer.Conflict met) = codes "conflict " ++ ballot_text met
answer_text (answer.Aged least) = codes "aged " ++ decimal least
answer_text (answer.Full acceptor) = codes "full " ++ decimal acceptor
answer_text (answer.Short got need) = codes "short " ++ decimal got ++ codes " " ++ decimal need
answer_text (answer.Moved era) = codes "moved " ++ decimal era
answer_text answer.Crashed = codes "crashed"
answer_text (answer.Unsettled why) = codes "unsettled " ++ cause_text why
answer_text answer.Down = codes "down"
answer_text answer.VaultFault = codes "vault fault"
answer_text answer.Spent = codes "spent"
answer_text answer.RecordFull = codes "record full"
answer_text (answer.NoMemory false) = codes "no memory"
answer_text (answer.NoMemory true) = codes "no memory proposed"

-- the line that answers a change of this caller
abbrev pub change_line : ℕ → Answer → List ℕ
change_line caller answer = decimal caller ++ codes ": " ++ answer_text answer ++ 10 ∷ []

-- the line that says why the line of that number is bad
abbrev pub bad_line : ℕ → Why → List ℕ
bad_line number why = codes "bad " ++ decimal number ++ codes " " ++ reason_text why ++ 10 ∷ []

-- ---- operators

-- at which ballot, and in which era, what a member keeps was accepted
abbrev pub kept_text : Option Accepted → List ℕ
kept_text None = codes "none"
kept_text (Some accepted) = ballot_text accepted.ballot ++ codes "/" ++ decimal accepted.era

-- what a member tells that was probed; another reply tells no more than none
abbrev pub told_text : Option Tell → List ℕ
told_text (Some (tell.Probed promise accepted)) = kept_text accepted
told_text told = codes "?"

abbrev pub probe_text : Probe → List ℕ
probe_text probe = codes " " ++ decimal probe.acceptor ++ codes "=" ++ told_text probe.told

-- whose plan is finished, in which era, and how many keys were proposed anew for it
abbrev pub plan_text : ℕ → ℕ → ℕ → List ℕ
plan_text id era rescanned = decimal id ++ codes " era " ++ decimal era ++ codes " rescanned " ++ decimal rescanned

-- the sizes of quorums, the era in which their plan is finished, and how many keys were proposed anew for it
abbrev pub sizes_text : ℕ → ℕ → ℕ → ℕ → List ℕ
sizes_text need_prep need_acc era rescanned = decimal need_prep ++ codes " " ++ decimal need_acc ++ codes " era " ++ decimal era ++ codes " rescanned " ++ decimal rescanned

abbrev pub op_text : OpAnswer → List ℕ
op_text (op.Joined id era rescanned) = codes "joined " ++ plan_text id era rescanned
op_text (op.Left id era rescanned) = codes "left " ++ plan_text id era rescanned
op_text (op.Resized need_prep need_acc era rescanned) = codes "resized " ++ sizes_text need_prep need_acc era rescanned
op_text (op.Refused fault) = plan_fault_text fault
op_text (op.Busy era) = codes "busy " ++ decimal era
op_text (op.Collected key ballot removed kept) = codes "collected " ++ key ++ codes " at " ++ ballot_text ballot ++ codes " removed " ++ decimal removed ++ codes " kept " ++ decimal kept
op_text (op.NotEmpty version) = codes "not empty v" ++ decimal version
op_text (op.Absent acceptor) = codes "absent " ++ decimal acceptor
op_text (op.ProposerDown proposer) = codes "proposer down " ++ decimal proposer
op_text (op.Probed key found) = codes "probe " ++ key ++ flat_map probe_text found.probes.items
op_text (op.Stopped answer) = answer_text answer

-- the line that answers an operator
abbrev pub op_line : OpAnswer → List ℕ
op_line answer = codes "op: " ++ op_text answer ++ 10 ∷ []

-- what the operator is told who read a key
abbrev pub read_text : ReadAnswer → List ℕ
read_text (read.Value key state ballot) = codes "read " ++ key ++ codes " " ++ state_text state ++ codes " at " ++ ballot_text ballot
read_text (read.Short got need) = codes "short " ++ decimal got ++ codes " " ++ decimal need
read_text (read.NotAgreed low high) = codes "not agreed " ++ ballot_text low ++ codes " " ++ ballot_text high
read_text (read.OldEra ballot era) = codes "old era " ++ decimal era ++ codes " at " ++ ballot_text ballot
read_text (read.Stopped answer) = answer_text answer

-- and the line that tells it
abbrev pub read_line : ReadAnswer → List ℕ
read_line answer = codes "op: " ++ read_text answer ++ 10 ∷ []

-- ---- events

abbrev pub event_text : EventAnswer → List ℕ
event_text event.Ok = codes "ok"
event_text event.Absent = codes "none"
event_text event.Fault = codes "fault"
event_text (event.Foreign at) = codes "foreign " ++ decimal at
event_text event.RecordFull = codes "record full"
event_text event.NoMemory = codes "no memory"

-- the line that answers an event
abbrev pub event_line : EventAnswer → List ℕ
event_line answer = event_text answer ++ 10 ∷ []

-- the state that an acceptor accepted, with its ballot and era
abbrev pub accepted_text : Option Accepted → List ℕ
accepted_text None = []
accepted_text (Some accepted) = codes " accepted " ++ ballot_text accepted.ballot ++ codes " era " ++ decimal accepted.era ++ codes " " ++ state_text accepted.state

abbrev pub shown_text : Shown → List ℕ
shown_text shown.Nothing = codes "none"
shown_text shown.Down = codes "down"
shown_text (shown.Kept slot) = codes "promise " ++ ballot_text slot.promise ++ accepted_text slot.accepted

-- the line that tells what an acceptor keeps for a key
abbrev pub shown_line : ℕ → List ℕ → Shown → List ℕ
shown_line id key shown = decimal id ++ codes " " ++ key ++ codes ": " ++ shown_text shown ++ 10 ∷ []
