-- A load: lines that a generator draws run one after another, over frames that a seeded fate decides of. Behind some of them an acceptor stops
-- and starts again, and a key is collected.
use Rattle.std.specs.Prelude.{◌≡◌, ◌≢◌, ◌+◌, ◌%◌, ◌/◌, ◌^◌, ◌≤◌, ◌<◌, ℕ, nat_lt, nat_eq, if◌then◌else◌, List, [], ◌∷◌, ◌++◌, codes, decimal, length, slice_index_or, Some, pos}
use Rattle.rand_pcg.specs.Lcg.{Lcg}
use Rattle.cas_ballot.specs.Members.{IsMemberSet}
use Rattle.cas_fate.specs.Generator.{drawn_line}
use Rattle.cas_fate.specs.Seeded.{generator_of_seed}
use Rattle.cas_fate.specs.declared.generator.Drawn.{Drawn}
use Rattle.cas_lines.specs.Command.{AskedChange, change_of}
use Rattle.cas_lines.specs.Summary.{summary_of}
use Rattle.cas_lines.specs.declared.answer.EventAnswer.{EventAnswer}
use Rattle.cas_lines.specs.declared.command.Command.{Command}
use Rattle.cas_lines.specs.declared.command.Command.TheVariants.{Add, Get, Set, Del, Num}
use Rattle.cas_lines.specs.declared.summary.Summary.{Summary}
use Rattle.cas_record.specs.declared.answer.Answer.{Answer}
use Rattle.cas_record.specs.declared.operator.OpAnswer.{OpAnswer}
use Rattle.cas_model.specs.View.{Meaning, View}
use Rattle.casreg_script.specs.Calls.Changes.{IsChange}
use Rattle.casreg_script.specs.Collection.Collections.{IsCollection}
use Rattle.casreg_script.specs.Frames.Conditions.{NetworkView, Drawn as DrawnBy}
use Rattle.casreg_script.specs.Events.{CrashesAcceptor, RestartsAcceptor}
use Rattle.casreg_script.specs.Script.{nowhere}
use Rattle.casreg_script.specs.declared.halt.Halt.{Halt}
use Rattle.casreg_script.specs.declared.load.Load.{Load}

-- ---- its lines
-- the key of that number
abbrev pub key_of : ℕ → List ℕ
key_of number = codes "k" ++ decimal number

-- the text that the line of that number puts
abbrev pub text_of : ℕ → List ℕ
text_of line = codes "t" ++ decimal line

-- what the line of that number asks for, which was drawn so: of ten kinds five add 1, two get, and one each puts a text, clears and puts a
-- number
abbrev pub command_of : ℕ → Drawn → Command
command_of line drawn =
    if nat_lt drawn.kind 5 then Add drawn.caller (key_of drawn.key) (pos 1)
    else (if nat_lt drawn.kind 7 then Get drawn.caller (key_of drawn.key)
    else (if nat_eq drawn.kind 7 then Set drawn.caller (key_of drawn.key) (text_of line)
    else (if nat_eq drawn.kind 8 then Del drawn.caller (key_of drawn.key)
    else Num drawn.caller (key_of drawn.key) (pos line))))

-- ---- states
-- the world, what decides of its frames, and what the next line is drawn by
pub record LoadState (S V : Type 0) : Type 0 where
  pub world : View S V
  pub network : NetworkView
  pub lines : Lcg

-- a load begins with the generators of two seeds that follow each other
abbrev pub load_opening : {S V : Type 0} → Load → View S V → LoadState S V
load_opening load world = record { world = world; network = DrawnBy (generator_of_seed ((load.seed + 1) % 2 ^ 64)); lines = generator_of_seed load.seed }

-- ---- a line
-- the next line is drawn and run, as the one of that number
pub record AnswersDrawn {S V : Type 0} (m : Meaning S V) (load : Load) (line : ℕ) (old : LoadState S V) (answer : Answer) (new : LoadState S V) : Type 0 where
  pub asked : AskedChange
  pub asks : change_of (command_of line (drawn_line load.proposers old.lines).0) ≡ Some asked
  pub after : Halt
  pub change : IsChange m load.tries old.network asked.caller asked.key asked.program nowhere old.world answer new.network after new.world
  pub lines : new.lines ≡ (drawn_line load.proposers old.lines).1

-- the member that stops behind it: one after another does, in rising order
abbrev pub stopping : Load → ℕ → ℕ
stopping load line = slice_index_or load.members (line / 64 % length load.members) 0

-- behind each 64th line a member crashes and is restarted
pub data StopsBehind {S V : Type 0} (m : Meaning S V) (load : Load) (line : ℕ) (old : View S V) : View S V → Type 0 where
  none : line % 64 ≢ 63 → StopsBehind m load line old old
  stops : {down new : View S V} {crashed restarted : EventAnswer} → line % 64 ≡ 63 → CrashesAcceptor m old (stopping load line) crashed down → RestartsAcceptor m down (stopping load line) restarted new → StopsBehind m load line old new

-- the key that is collected behind it: one after another is
abbrev pub collected : ℕ → List ℕ
collected line = key_of (line / 100 % 32)

-- behind each 100th line a key is collected, whatever the operator is told
pub data CollectsBehind {S V : Type 0} (m : Meaning S V) (load : Load) (line : ℕ) (by : NetworkView) (old : View S V) : NetworkView → View S V → Type 0 where
  none : line % 100 ≢ 99 → CollectsBehind m load line by old by old
  collects : {next : NetworkView} {new : View S V} {after : Halt} {told : OpAnswer} → line % 100 ≡ 99 → IsCollection m load.tries by (collected line) nowhere old told next after new → CollectsBehind m load line by old next new

-- a line with all that comes behind it
pub record RunsDrawn {S V : Type 0} (m : Meaning S V) (load : Load) (line : ℕ) (old : LoadState S V) (answer : Answer) (new : LoadState S V) : Type 0 where
  pub answered : LoadState S V
  pub answers : AnswersDrawn m load line old answer answered
  pub stopped : View S V
  pub stops : StopsBehind m load line answered.world stopped
  pub collects : CollectsBehind m load line answered.network stopped new.network new.world
  pub lines : new.lines ≡ answered.lines

-- ---- the whole
-- lines were drawn and run one after another, with these answers; the first is line 0
pub data LoadRun {S V : Type 0} (m : Meaning S V) (load : Load) (old : LoadState S V) : List Answer → LoadState S V → Type 0 where
  none : LoadRun m load old [] old
  one_more : {answers : List Answer} {mid new : LoadState S V} (answer : Answer) → LoadRun m load old answers mid → RunsDrawn m load (length answers) mid answer new → LoadRun m load old (answers ++ answer ∷ []) new

-- a load over a world ran all its lines, and its answers are summed up so
pub record SumsUp {S V : Type 0} (m : Meaning S V) (load : Load) (old : View S V) (summary : Summary) (new : View S V) : Type 0 where
  pub answers : List Answer
  pub last : LoadState S V
  pub run : LoadRun m load (load_opening load old) answers last
  pub all : length answers ≡ load.lines
  pub counted : summary ≡ summary_of answers
  pub ends : last.world ≡ new

-- It broke off for want of memory: before a line, or behind the one that was run last, before the collection that was due.
pub data LoadBreaksOff {S V : Type 0} (m : Meaning S V) (load : Load) (old new : View S V) : Type 0 where
  before_line : {answers : List Answer} {last : LoadState S V} → LoadRun m load (load_opening load old) answers last → last.world ≡ new → LoadBreaksOff m load old new
  before_collection : {answers : List Answer} {last answered : LoadState S V} {answer : Answer} → LoadRun m load (load_opening load old) answers last → AnswersDrawn m load (length answers) last answer answered
      → StopsBehind m load (length answers) answered.world new → length answers % 100 ≡ 99 → LoadBreaksOff m load old new

-- ---- loads
-- as many members, proposers and tries as a load may have
pub record IsLoad (load : Load) : Type 0 where
  pub member_set : IsMemberSet load.members
  pub some_members : 0 < length load.members
  pub few_members : length load.members ≤ 9
  pub some_proposers : 1 ≤ load.proposers
  pub few_proposers : load.proposers ≤ 16
  pub some_tries : 1 ≤ load.tries
