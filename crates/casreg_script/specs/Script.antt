-- A script: its lines run one after another, each has its answer, and the answers are its transcript.
use Rattle.std.specs.Prelude.{◌≡◌, ℕ, suc, Bool, true, false, List, [], ◌∷◌, ◌++◌, Option, Some, None, Err, replicate, slice_set}
use Rattle.cas_change_text.specs.declared.refusal.Why.{Why}
use Rattle.cas_lines.specs.Answers.{change_line, bad_line, event_line, op_line, read_line, shown_line}
use Rattle.cas_lines.specs.Command.{IsLine, AskedChange, change_of}
use Rattle.cas_lines.specs.Reading.{line_in}
use Rattle.cas_lines.specs.declared.answer.EventAnswer.{EventAnswer}
use Rattle.cas_lines.specs.declared.answer.EventAnswer.TheVariants as event
use Rattle.cas_lines.specs.declared.answer.Shown.{Shown}
use Rattle.cas_lines.specs.declared.command.Command.{Command}
use Rattle.cas_lines.specs.declared.command.Command.TheVariants.{Join, Leave, Resize, Probe, Read as ReadKey, Collect, Net, CrashAcceptor, RestartAcceptor, CrashProposer, RestartProposer, HaltPrepared, HaltProposed, Stray, Show}
use Rattle.cas_record.specs.declared.answer.Answer.{Answer}
use Rattle.cas_record.specs.declared.operator.Asked as operator
use Rattle.cas_record.specs.declared.operator.Asked.TheVariants.{Join as ToJoin, Leave as ToLeave, Resize as ToResize}
use Rattle.cas_record.specs.declared.operator.OpAnswer.{OpAnswer}
use Rattle.cas_record.specs.declared.read_answer.ReadAnswer.{ReadAnswer}
use Rattle.cas_model.specs.Step as step
use Rattle.cas_model.specs.Step.{Step}
use Rattle.cas_model.specs.View.{Meaning, View, IsAt}
use Rattle.casreg_script.specs.Calls.Changes.{IsChange}
use Rattle.casreg_script.specs.Collection.Collections.{IsCollection}
use Rattle.casreg_script.specs.Frames.Conditions.{Rule, Ruled}
use Rattle.casreg_script.specs.Events.{CrashesAcceptor, RestartsAcceptor, RestartsProposer, AnswersStray, IsShownSlot}
use Rattle.casreg_script.specs.Eras.Membership.{ChangesMembers}
use Rattle.casreg_script.specs.Frames.Network.{IsNetwork}
use Rattle.casreg_script.specs.Exchanges.Probes.{IsProbe}
use Rattle.casreg_script.specs.Exchanges.Reads.{IsReadLine}
use Rattle.casreg_script.specs.Stage.{Stage}
use Rattle.casreg_script.specs.declared.halt.Halt.{Halt}

-- ---- states
-- the world, the rules for its frames, the last one first, and where each proposer is to halt
pub record State (S V : Type 0) : Type 0 where
  pub world : View S V
  pub rules : List Rule
  pub halts : List Halt

-- it is to halt nowhere
abbrev pub nowhere : Halt
nowhere = record { after_prepare = false; after_propose = false }

-- a script over a world begins with nothing set
abbrev pub opening_state : {S V : Type 0} → View S V → State S V
opening_state world = record { world = world; rules = []; halts = replicate 17 nowhere }

-- ---- answers
-- what answers a line: what its caller is told of its change, what an event did, what is shown, what the operator is told, or is told who
-- read a key, why the line is bad, or nothing where it is a remark
pub data LineAnswer : Type 0 where
  Changed : ℕ → Answer → LineAnswer
  Happened : EventAnswer → LineAnswer
  Shows : ℕ → List ℕ → Shown → LineAnswer
  Operated : OpAnswer → LineAnswer
  Reads : ReadAnswer → LineAnswer
  Bad : Why → LineAnswer
  Remark : LineAnswer

-- a line that asks for a change runs it, and the halts of its proposer may be used up
pub record RunsChange {S V : Type 0} (m : Meaning S V) (tries : ℕ) (old : State S V) (asked : AskedChange) (answer : Answer) (new : State S V) : Type 0 where
  pub halt : Halt
  pub at_halt : IsAt old.halts asked.caller halt
  pub after : Halt
  pub change : IsChange m tries (Ruled old.rules) asked.caller asked.key asked.program halt old.world answer (Ruled new.rules) after new.world
  pub rules : new.rules ≡ old.rules
  pub halts : new.halts ≡ slice_set old.halts asked.caller after

-- an event line: one more rule for frames, a stop or a restart, a halt that is due, or a late frame
pub data RunsEvent {S V : Type 0} (m : Meaning S V) (old : State S V) : Command → EventAnswer → State S V → Type 0 where
  net : {leg : _} {who : _} {verdict : _} {new : State S V} → new ≡ record old { rules = record { leg = leg; who = who; verdict = verdict } ∷ old.rules } → RunsEvent m old (Net leg who verdict) event.Ok new
  crash_acceptor : {id : ℕ} {answer : EventAnswer} {world : View S V} → CrashesAcceptor m old.world id answer world → RunsEvent m old (CrashAcceptor id) answer (record old { world = world })
  restart_acceptor : {id : ℕ} {answer : EventAnswer} {world : View S V} → RestartsAcceptor m old.world id answer world → RunsEvent m old (RestartAcceptor id) answer (record old { world = world })
  crash_proposer : {proposer : ℕ} {world : View S V} → Step m old.world (step.CrashProposer proposer) world → RunsEvent m old (CrashProposer proposer) event.Ok (record old { world = world })
  restart_proposer : {proposer : ℕ} {answer : EventAnswer} {world : View S V} → RestartsProposer m old.world proposer answer world → RunsEvent m old (RestartProposer proposer) answer (record old { world = world })
  halt_prepared : {proposer : ℕ} (halt : Halt) {new : State S V} → IsAt old.halts proposer halt → new ≡ record old { halts = slice_set old.halts proposer (record halt { after_prepare = true }) } → RunsEvent m old (HaltPrepared proposer) event.Ok new
  halt_proposed : {proposer : ℕ} (halt : Halt) {new : State S V} → IsAt old.halts proposer halt → new ≡ record old { halts = slice_set old.halts proposer (record halt { after_propose = true }) } → RunsEvent m old (HaltProposed proposer) event.Ok new
  stray : {index : ℕ} {answer : EventAnswer} {world : View S V} → AnswersStray m old.world index answer world → RunsEvent m old (Stray index) answer (record old { world = world })

-- a line that asks for a probe runs it
pub record RunsProbe {S V : Type 0} (m : Meaning S V) (old : State S V) (key : List ℕ) (answer : OpAnswer) (new : State S V) : Type 0 where
  pub probe : IsProbe m (Ruled old.rules) key old.world answer (Ruled new.rules) new.world
  pub rules : new.rules ≡ old.rules
  pub halts : new.halts ≡ old.halts

-- and one that asks for a read
pub record RunsRead {S V : Type 0} (m : Meaning S V) (old : State S V) (key : List ℕ) (answer : ReadAnswer) (new : State S V) : Type 0 where
  pub read : IsReadLine m (Ruled old.rules) key old.world answer (Ruled new.rules) new.world
  pub rules : new.rules ≡ old.rules
  pub halts : new.halts ≡ old.halts

-- the change of membership that a command asks for
abbrev pub membership_of : Command → Option operator.Asked
membership_of (Join id) = Some (ToJoin id)
membership_of (Leave id) = Some (ToLeave id)
membership_of (Resize need_prep need_acc) = Some (ToResize need_prep need_acc)
membership_of command = None

-- a line that asks for it runs it, and the halts of proposer 0 may be used up
pub record RunsMembership {S V : Type 0} (m : Meaning S V) (tries : ℕ) (old : State S V) (asked : operator.Asked) (answer : OpAnswer) (new : State S V) : Type 0 where
  pub halt : Halt
  pub at_halt : IsAt old.halts 0 halt
  pub after : Halt
  pub changes : ChangesMembers m tries (Ruled old.rules) asked halt old.world answer (Ruled new.rules) after new.world
  pub rules : new.rules ≡ old.rules
  pub halts : new.halts ≡ slice_set old.halts 0 after

-- a line that asks for a collection runs it, and the halts of proposer 0 may be used up
pub record RunsCollection {S V : Type 0} (m : Meaning S V) (tries : ℕ) (old : State S V) (key : List ℕ) (answer : OpAnswer) (new : State S V) : Type 0 where
  pub halt : Halt
  pub at_halt : IsAt old.halts 0 halt
  pub after : Halt
  pub collects : IsCollection m tries (Ruled old.rules) key halt old.world answer (Ruled new.rules) after new.world
  pub rules : new.rules ≡ old.rules
  pub halts : new.halts ≡ slice_set old.halts 0 after

-- the line is run as its words say, by a script of so many tries
pub data IsAnswered {S V : Type 0} (m : Meaning S V) (tries : ℕ) (old : State S V) (line : List ℕ) : LineAnswer → State S V → Type 0 where
  changes : {answer : Answer} {new : State S V} (command : Command) (asked : AskedChange) → IsLine old.world.last_proposer line (Some command) → change_of command ≡ Some asked → RunsChange m tries old asked answer new
      → IsAnswered m tries old line (Changed asked.caller answer) new
  happens : {answer : EventAnswer} {new : State S V} (command : Command) → IsLine old.world.last_proposer line (Some command) → RunsEvent m old command answer new → IsAnswered m tries old line (Happened answer) new
  shows : {shown : Shown} (id : ℕ) (key : List ℕ) → IsLine old.world.last_proposer line (Some (Show id key)) → IsShownSlot m old.world id key shown → IsAnswered m tries old line (Shows id key shown) old
  probes : {answer : OpAnswer} {new : State S V} (key : List ℕ) → IsLine old.world.last_proposer line (Some (Probe key)) → RunsProbe m old key answer new → IsAnswered m tries old line (Operated answer) new
  reads : {answer : ReadAnswer} {new : State S V} (key : List ℕ) → IsLine old.world.last_proposer line (Some (ReadKey key)) → RunsRead m old key answer new → IsAnswered m tries old line (Reads answer) new
  collects : {answer : OpAnswer} {new : State S V} (key : List ℕ) → IsLine old.world.last_proposer line (Some (Collect key)) → RunsCollection m tries old key answer new → IsAnswered m tries old line (Operated answer) new
  changes_members : {answer : OpAnswer} {new : State S V} (command : Command) (asked : operator.Asked) → IsLine old.world.last_proposer line (Some command) → membership_of command ≡ Some asked → RunsMembership m tries old asked answer new
      → IsAnswered m tries old line (Operated answer) new
  -- a line that is refused changes nothing
  refused : (why : Why) (word : ℕ) → line_in old.world.last_proposer line ≡ Err (record { why = why; word = word }) → IsAnswered m tries old line (Bad why) old
  remark : IsLine old.world.last_proposer line None → IsAnswered m tries old line Remark old

-- the lines were run one after another, with these answers
pub data ScriptRun {S V : Type 0} (m : Meaning S V) (tries : ℕ) (old : State S V) : List (List ℕ) → List LineAnswer → State S V → Type 0 where
  none : ScriptRun m tries old [] [] old
  one_more : {lines : List (List ℕ)} {answers : List LineAnswer} {mid new : State S V} (line : List ℕ) (answer : LineAnswer) → ScriptRun m tries old lines answers mid → IsAnswered m tries mid line answer new
      → ScriptRun m tries old (lines ++ line ∷ []) (answers ++ answer ∷ []) new

-- the text of the answer to the line of that number
abbrev pub text_of : ℕ → LineAnswer → List ℕ
text_of number (Changed caller answer) = change_line caller answer
text_of number (Happened answer) = event_line answer
text_of number (Shows id key shown) = shown_line id key shown
text_of number (Operated answer) = op_line answer
text_of number (Reads answer) = read_line answer
text_of number (Bad why) = bad_line number why
text_of number Remark = []

-- the texts of the answers to the lines from that number on
abbrev pub transcript_of : ℕ → List LineAnswer → List ℕ
transcript_of number [] = []
transcript_of number (answer ∷ later) = text_of number answer ++ transcript_of (suc number) later

-- ---- scripts
-- a script is in this state
pub record IsInState {S V : Type 0} (stage : Stage S V) (state : State S V) : Type 0 where
  pub world : stage.world ≡ state.world
  pub network : IsNetwork stage.network (Ruled state.rules)
  pub halts : stage.halts ≡ state.halts

-- the line of that number was run, and this is the text of its answer
pub record AnswersLine {S V : Type 0} (m : Meaning S V) (tries : ℕ) (old : State S V) (line : List ℕ) (number : ℕ) (text : List ℕ) (stage : Stage S V) : Type 0 where
  pub answer : LineAnswer
  pub new : State S V
  pub is_in : IsInState stage new
  pub run : IsAnswered m tries old line answer new
  pub text_is : text ≡ text_of number answer

-- where there was no memory the line was run, or was not
pub data RanOrNot {S V : Type 0} (m : Meaning S V) (tries : ℕ) (old : State S V) (line : List ℕ) (stage : Stage S V) : Type 0 where
  not_run : IsInState stage old → RanOrNot m tries old line stage
  ran : (answer : LineAnswer) (new : State S V) → IsInState stage new → IsAnswered m tries old line answer new → RanOrNot m tries old line stage

-- a script is in some state that has P
pub record Runs {S V : Type 0} (P : State S V → Type 0) (stage : Stage S V) : Type 0 where
  pub new : State S V
  pub is_in : IsInState stage new
  pub has : P new

-- it is an event line that does something
abbrev pub is_event : Command → Bool
is_event (Net leg who verdict) = true
is_event (CrashAcceptor id) = true
is_event (RestartAcceptor id) = true
is_event (CrashProposer proposer) = true
is_event (RestartProposer proposer) = true
is_event (HaltPrepared proposer) = true
is_event (HaltProposed proposer) = true
is_event (Stray index) = true
is_event other = false
