-- When each status comes, and what was written by then.
use Rattle.std.specs.Prelude.{◌≡◌, ◌≢◌, [], ◌⊎◌, ◌+◌, ℕ, suc, List, ◌++◌, ⊤, length, reverse, take, Option, IfSome, Result}
use Rattle.std.specs.Io.KnownBytes.{Appends}
use Rattle.cas_base.specs.Faults.{Rose}
use Rattle.cas_disk_shelf.specs.declared.shelf.DiskShelf.{DiskShelf}
use Rattle.cas_lines.specs.declared.lines.TheConstants.{MOST_LINES}
use Rattle.cas_lines.specs.Lines.{lines_of, Ending, Whole, TooMany, TooLong, ending_of}
use Rattle.cas_record.specs.Legal.{IsLegal}
use Rattle.cas_record.specs.declared.mark.Mark.{Mark}
use Rattle.casreg_race.specs.Race.{WroteRace}
use Rattle.casreg_race.specs.declared.race.RaceFault.{RaceFault}
use Rattle.cas_model_causes.specs.Eras.Tellings.{AreTellingsSo}
use Rattle.cas_world.specs.Openings.Opening.{members_to, disks_of}
use Rattle.cas_world.specs.declared.fault.OpenFault.{OpenFault}
use Rattle.cas_store.specs.Kept.{AreHeld, AreKept}
use Rattle.cas_store.specs.Rack.{RackMeaning, IsAllEmpty, IsNotEmpty}
use Rattle.cas_store.specs.Store.{acceptor_disks, StaysClosed}
use Rattle.cas_store.specs.declared.rack.Rack.{Rack}
use Rattle.cas_store.specs.declared.rack.RackFault.{RackFault}
use Rattle.cas_reopen.specs.Closed.{IsWhyClosed, StopsWithinOpening}
use Rattle.cas_reopen.specs.Opened.{IsOpenedOver}
use Rattle.cas_reopen.specs.declared.fault.ReopenFault.{ReopenFault}
use Rattle.cas_model.specs.View.{Meaning, View, IsAt}
use Rattle.cas_board_world.specs.Blame.{AreDeserved}
use Rattle.casreg_script.specs.Script.{State, LineAnswer, ScriptRun, IsInState, opening_state, transcript_of}
use Rattle.casreg_script.specs.Stage.{Stage}
use Rattle.casreg_progress.specs.Runs.{AreDoneWhereReady, AreSoWhereRead}
use Rattle.casreg_command.specs.declared.status.Status.{Status}
use Rattle.casreg_command.specs.declared.status.Status.TheVariants as status
use Rattle.casreg_command.specs.declared.words.LoadOptions.{LoadOptions}
use Rattle.casreg_command.specs.declared.words.Options.{Options}
use Rattle.casreg_command.specs.Status.{status_of_rack, status_of_opening, status_of_race, status_of_reopening}
use Rattle.cas_lines.specs.Sink.{AppendsFront}
use Rattle.cas_lines.specs.Summary.{summary_line}
use Rattle.cas_lines.specs.declared.summary.Summary.{Summary}
use Rattle.casreg_script.specs.Load.{SumsUp, LoadBreaksOff}
use Rattle.casreg_script.specs.declared.load.Load.{Load}
use Rattle.casreg_command.specs.declared.words.Request.{Request}
use Rattle.casreg_command.specs.declared.words.Request.TheVariants as request
use Rattle.casreg_command.specs.Records.{WroteFinding, EndsBehindMarks}
use Rattle.casreg_command.specs.Words.{AreWords, members_of}

-- ---- causes
-- the status of a run that nothing hinders, by where its input ends
abbrev pub status_of : Ending → Status
status_of Whole = status.Ok
status_of TooMany = status.TooManyLines
status_of (TooLong line) = status.Endless line

-- the statuses of a load that opened, or whose store was not opened
abbrev pub LoadEnds : Status → Type 0
LoadEnds status.Ok = ⊤
LoadEnds status.Usage = ⊥
LoadEnds status.ReadFault = ⊥
LoadEnds status.WriteFault = ⊤
LoadEnds (status.NotEmpty disk) = ⊥
LoadEnds (status.Foreign disk at) = ⊤
LoadEnds (status.TooManyKeys keys) = ⊤
LoadEnds (status.LostDisk disk) = ⊤
LoadEnds (status.Spent disk) = ⊤
LoadEnds (status.DiskFault disk) = ⊤
LoadEnds status.TooManyLines = ⊥
LoadEnds status.NoMemory = ⊤
LoadEnds (status.Endless line) = ⊥

-- a command that reads lines
abbrev pub ReadsLines : Request → Type 0
ReadsLines (request.Script options) = ⊤
ReadsLines (request.Race options) = ⊤
ReadsLines (request.Load options) = ⊥
ReadsLines request.Audit = ⊤

-- a status that tells why a store was not opened
abbrev pub TellsWhyClosed : Status → Type 0
TellsWhyClosed (status.NotEmpty disk) = ⊤
TellsWhyClosed (status.Foreign disk at) = ⊤
TellsWhyClosed (status.TooManyKeys keys) = ⊤
TellsWhyClosed (status.LostDisk disk) = ⊤
TellsWhyClosed (status.Spent disk) = ⊤
TellsWhyClosed (status.DiskFault disk) = ⊤
TellsWhyClosed other = ⊥

-- ---- what goes in and what comes out
-- what a command is given: what its source has still to give and what its sink holds, where they tell it, their counts of faults, how many
-- frames each fate has harmed, and the rack
pub record WentIn (D : Type 0) : Type 0 where
  pub input : Option (List ℕ)
  pub written : Option (List ℕ)
  pub source_faults : ℕ
  pub sink_faults : ℕ
  pub harms : List ℕ
  pub rack : Rack D

-- what comes of it: the status, which lines had ended where the source failed, what the sink holds then, the same counts, and the rack
pub record CameOut (D : Type 0) : Type 1 where
  pub status : Status
  pub HadEnded : List (List ℕ) → Type 0
  pub written : Option (List ℕ)
  pub source_faults : ℕ
  pub sink_faults : ℕ
  pub harms : List ℕ
  pub rack : Rack D

-- why a status comes
pub record Causes {D : Type 0} (words : List (List ℕ)) (given : WentIn D) (out : CameOut D) : Type 0 where
  pub usage : out.status ≡ status.Usage → (request : Request) → AreWords words request → ⊥
  pub no_words : ((request : Request) → AreWords words request → ⊥) → (out.status ≡ status.Usage) ⊎ (out.status ≡ status.NoMemory)
  pub read_fault : out.status ≡ status.ReadFault → Rose given.source_faults out.source_faults
  pub write_fault : out.status ≡ status.WriteFault → Rose given.sink_faults out.sink_faults
  -- of a script, a race or an audit 0, 7 and 9 come by where the input ends alone
  pub ends : (asked : Request) → ReadsLines asked → AreWords words asked → (ending : Ending) → out.status ≡ status_of ending → IfSome given.input (λ bytes. ending_of bytes ≡ ending)
  -- with the right words and no fault of source and sink one of these comes, unless there is no memory, or a disk is not empty or fails
  -- as the store is opened
  pub completes : (asked : Request) → ReadsLines asked → AreWords words asked → (Rose given.source_faults out.source_faults → ⊥) → (Rose given.sink_faults out.sink_faults → ⊥)
      → IfSome given.input (λ bytes. (out.status ≡ status_of (ending_of bytes)) ⊎ (out.status ≡ status.NoMemory) ⊎ TellsWhyClosed out.status)
  -- and so does 0 of a load, which reads nothing
  pub load_completes : (options : LoadOptions) → AreWords words (request.Load options) → (Rose given.sink_faults out.sink_faults → ⊥) → (out.status ≡ status.Ok) ⊎ (out.status ≡ status.NoMemory) ⊎ TellsWhyClosed out.status

-- ---- disks
-- the disk of that number: those of acceptors are numbered from 0 on, and those of vaults from 64 on
pub data IsDisk {D : Type 0} (rack : Rack D) : ℕ → D → Type 0 where
  of_acceptor : (place : ℕ) (disk : D) → IsAt rack.acceptors.items place disk → IsDisk rack place disk
  of_vault : (place : ℕ) (disk : D) → IsAt rack.vaults.items place disk → IsDisk rack (64 + place) disk

-- it was not empty, where disks tell what they keep
pub record WasNotEmpty {D : Type 0} (m : RackMeaning D) (rack : Rack D) (number : ℕ) : Type 0 where
  pub disk : D
  pub is_disk : IsDisk rack number disk
  pub not_empty : m.tells → m.seen disk ≢ []

-- its count of faults rose
pub record DiskHasFailed {D : Type 0} (m : RackMeaning D) (rack back : Rack D) (number : ℕ) : Type 0 where
  pub was : D
  pub is_was : IsDisk rack number was
  pub now : D
  pub is_now : IsDisk back number now
  pub rose : Rose (m.faults was) (m.faults now)

-- the status of a disk that was not empty or that failed comes only by what became of that disk
abbrev pub AreDisksToBlame : {D : Type 0} → RackMeaning D → Rack D → Rack D → Status → Type 0
AreDisksToBlame m rack back (status.NotEmpty disk) = WasNotEmpty m rack disk
AreDisksToBlame m rack back (status.DiskFault disk) = DiskHasFailed m rack back disk
AreDisksToBlame m rack back other = ⊤

-- ---- what was written, where input and sink tell their bytes
-- the first lines of an input
abbrev pub AreFirstLines : Option (List ℕ) → List (List ℕ) → Type 0
AreFirstLines input lines = IfSome input (λ bytes. (later : List (List ℕ)) × (lines_of bytes ≡ lines ++ later))

-- the answers to first lines of the input, of which this holds, from the first world on
pub record AnswersTo {S V : Type 0} (meant : Meaning S V) (tries : ℕ) (P : List (List ℕ) → Type 0) (input old new : Option (List ℕ)) (first world : State S V) : Type 0 where
  pub lines : List (List ℕ)
  pub of_input : AreFirstLines input lines
  pub are : P lines
  pub answers : List LineAnswer
  pub run : ScriptRun meant tries first lines answers world
  pub written : Appends old new (transcript_of 1 answers)

-- a front of the answers to first lines
pub record AnswersFront {S V : Type 0} (meant : Meaning S V) (tries : ℕ) (input old new : Option (List ℕ)) (first world : State S V) : Type 0 where
  pub lines : List (List ℕ)
  pub of_input : AreFirstLines input lines
  pub answers : List LineAnswer
  pub run : ScriptRun meant tries first lines answers world
  pub front : List ℕ
  pub rest : List ℕ
  pub is_front : transcript_of 1 answers ≡ front ++ rest
  pub written : Appends old new front

-- what was written by the end of a run from the first world to this one: to all lines of the input, to as many as there may be, to those
-- before the one that is too long, to those that had ended when the source failed, or a front
abbrev pub WroteIn : {S V : Type 0} → Meaning S V → ℕ → (List (List ℕ) → Type 0) → Option (List ℕ) → Option (List ℕ) → Option (List ℕ) → State S V → State S V → Status → Type 0
WroteIn meant tries HadEnded input old new first world status.Ok = AnswersTo meant tries (λ lines. IfSome input (λ bytes. lines ≡ lines_of bytes)) input old new first world
WroteIn meant tries HadEnded input old new first world status.Usage = ⊥
WroteIn meant tries HadEnded input old new first world status.ReadFault = AnswersTo meant tries HadEnded input old new first world
WroteIn meant tries HadEnded input old new first world status.WriteFault = AnswersFront meant tries input old new first world
WroteIn meant tries HadEnded input old new first world (status.NotEmpty disk) = ⊥
WroteIn meant tries HadEnded input old new first world (status.Foreign disk at) = ⊥
WroteIn meant tries HadEnded input old new first world (status.TooManyKeys keys) = ⊥
WroteIn meant tries HadEnded input old new first world (status.LostDisk disk) = ⊥
WroteIn meant tries HadEnded input old new first world (status.Spent disk) = ⊥
WroteIn meant tries HadEnded input old new first world (status.DiskFault disk) = ⊥
WroteIn meant tries HadEnded input old new first world status.TooManyLines = AnswersTo meant tries (λ lines. length lines ≡ MOST_LINES) input old new first world
WroteIn meant tries HadEnded input old new first world status.NoMemory = AnswersFront meant tries input old new first world
WroteIn meant tries HadEnded input old new first world (status.Endless line) = AnswersTo meant tries (λ lines. suc (length lines) ≡ line) input old new first world

-- the same of a script that is in some state then
pub record EndsIn {S V : Type 0} (meant : Meaning S V) (tries : ℕ) (HadEnded : List (List ℕ) → Type 0) (input old new : Option (List ℕ)) (first : State S V) (stage : Stage S V) (result : Status) : Type 0 where
  pub last : State S V
  pub is_in : IsInState stage last
  pub wrote : WroteIn meant tries HadEnded input old new first last result

-- ---- the world of a run
-- the rack that comes back holds the disks of the world, each at its place
pub record IsRackOf {D : Type 0} (world : View (DiskShelf D) D) (rack : Rack D) : Type 0 where
  pub acceptors : rack.acceptors.items ≡ acceptor_disks world.acceptors
  pub vaults : take (world.last_proposer + 1) rack.vaults.items ≡ disks_of world.desks

-- what a script wrote that ran from this world on, whose record was legal then, where disks tell what they keep, and the rack that comes
-- back, on which what is acknowledged stands
pub record Ran {D : Type 0} (meant : Meaning (DiskShelf D) D) (tells : Type 0) (tries : ℕ) (HadEnded : List (List ℕ) → Type 0) (input old new : Option (List ℕ)) (world : View (DiskShelf D) D) (result : Status) (back : Rack D) : Type 0 where
  pub last : State (DiskShelf D) D
  pub wrote : WroteIn meant tries HadEnded input old new (opening_state world) last result
  pub legal : tells → IsLegal (reverse last.world.marks)
  pub kept : tells → AreKept meant.disks.may_leave (reverse last.world.marks) back.acceptors.items
  pub held : tells → AreHeld meant.disks.may_leave last.world back.acceptors.items
  pub rack : IsRackOf last.world back

-- the same of a script whose record has these marks
pub record RanLeaving {D : Type 0} (meant : Meaning (DiskShelf D) D) (tells : Type 0) (tries : ℕ) (HadEnded : List (List ℕ) → Type 0) (input old new : Option (List ℕ)) (world : View (DiskShelf D) D) (marks : List Mark) (result : Status) (back : Rack D) : Type 0 where
  pub ran : Ran meant tells tries HadEnded input old new world result back
  pub marks_are : marks ≡ ran.last.world.marks

-- what a script wrote with its record behind its answers: how it had ended before, and what was written by then
pub record RanOver {D : Type 0} (meant : Meaning (DiskShelf D) D) (tells : Type 0) (options : Options) (HadEnded : List (List ℕ) → Type 0) (input old new : Option (List ℕ)) (world : View (DiskShelf D) D) (result : Status) (back : Rack D) : Type 0 where
  pub before : Status
  pub between : Option (List ℕ)
  pub ran : Ran meant tells options.tries HadEnded input old between world before back
  pub behind : EndsBehindMarks options.marks ran.last.world.marks before between new result

-- ---- a load
-- What a load wrote that ran from this world to that one: the summary of its answers, or a front of it where the sink failed or there was no
-- memory. Where memory failed before the end of the load nothing was written.
pub data WroteSummary {S V : Type 0} (meant : Meaning S V) (load : Load) (old new : Option (List ℕ)) (world last : View S V) : Status → Type 0 where
  whole : (summary : Summary) → SumsUp meant load world summary last → Appends old new (summary_line summary) → WroteSummary meant load old new world last status.Ok
  sink_failed : (summary : Summary) → SumsUp meant load world summary last → AppendsFront old new (summary_line summary) → WroteSummary meant load old new world last status.WriteFault
  no_text : (summary : Summary) → SumsUp meant load world summary last → new ≡ old → WroteSummary meant load old new world last status.NoMemory
  broke_off : LoadBreaksOff meant load world last → new ≡ old → WroteSummary meant load old new world last status.NoMemory

-- what a load wrote that ran from this world on, whose record was legal then, where disks tell what they keep, and the rack that comes
-- back, on which what is acknowledged stands
pub record Loaded {D : Type 0} (meant : Meaning (DiskShelf D) D) (tells : Type 0) (load : Load) (old new : Option (List ℕ)) (world : View (DiskShelf D) D) (result : Status) (back : Rack D) : Type 0 where
  pub last : View (DiskShelf D) D
  pub wrote : WroteSummary meant load old new world last result
  pub legal : tells → IsLegal (reverse last.marks)
  pub kept : tells → AreKept meant.disks.may_leave (reverse last.marks) back.acceptors.items
  pub held : tells → AreHeld meant.disks.may_leave last back.acceptors.items
  pub rack : IsRackOf last back

-- the same of a load whose record has these marks
pub record LoadedLeaving {D : Type 0} (meant : Meaning (DiskShelf D) D) (tells : Type 0) (load : Load) (old new : Option (List ℕ)) (world : View (DiskShelf D) D) (marks : List Mark) (result : Status) (back : Rack D) : Type 0 where
  pub loaded : Loaded meant tells load old new world result back
  pub marks_are : marks ≡ loaded.last.marks

-- what a load wrote with its record behind its summary: how it had ended before, and what was written by then
pub record LoadedOver {D : Type 0} (meant : Meaning (DiskShelf D) D) (tells : Type 0) (options : LoadOptions) (old new : Option (List ℕ)) (world : View (DiskShelf D) D) (result : Status) (back : Rack D) : Type 0 where
  pub before : Status
  pub between : Option (List ℕ)
  pub loaded : Loaded meant tells options.load old between world before back
  pub behind : EndsBehindMarks options.marks loaded.last.marks before between new result

-- ---- a race
-- what a race did whose record was legal, where disks tell what they keep, and tells what is so of the operator's calls, and what it wrote;
-- what is acknowledged in that stands on the disks that come back, and whom a mark of it blames has a disk there that failed
pub record RacedTo {D : Type 0} (m : RackMeaning D) (options : Options) (input old new : Option (List ℕ)) (harms harms_then : List ℕ) (marks : List Mark) (result : Status) (back : Rack D) : Type 0 where
  pub ended : Result (Unit {0}) RaceFault
  pub is : result ≡ status_of_race ended
  pub legal : m.tells → IsLegal (reverse marks)
  pub tellings : m.tells → AreTellingsSo (options.proposers + 1) (reverse marks)
  pub kept : m.tells → AreKept m.may_leave (reverse marks) back.acceptors.items
  pub deserved : AreDeserved m.faults back.acceptors.items back.vaults.items marks
  pub wrote : WroteRace m.tells options.tries options.proposers [] input old new harms harms_then marks ended

-- what a race wrote with its record behind all else: how it had ended before, and what was written by then
pub record RacedOver {D : Type 0} (m : RackMeaning D) (options : Options) (input old new : Option (List ℕ)) (harms harms_then : List ℕ) (result : Status) (back : Rack D) : Type 0 where
  pub marks : List Mark
  pub before : Status
  pub between : Option (List ℕ)
  pub raced : RacedTo m options input old between harms harms_then marks before back
  pub behind : EndsBehindMarks options.marks marks before between new result

-- ---- a script along its lines
-- Along the run whose answers, or a front of them, were written, each change line that nothing stood against was answered done, or that
-- there was no memory, where the members and its proposer were up after it.
abbrev pub AreDoneAlong : {D : Type 0} {meant : Meaning (DiskShelf D) D} {tells : Type 0} {tries : ℕ} {HadEnded : List (List ℕ) → Type 0} {input old new : Option (List ℕ)} {world : View (DiskShelf D) D} {back : Rack D} (result : Status) → Ran meant tells tries HadEnded input old new world result back → Type 0
AreDoneAlong {meant = meant} status.Ok by = AreDoneWhereReady meant by.wrote.run
AreDoneAlong status.Usage by = ⊥
AreDoneAlong {meant = meant} status.ReadFault by = AreDoneWhereReady meant by.wrote.run
AreDoneAlong {meant = meant} status.WriteFault by = AreDoneWhereReady meant by.wrote.run
AreDoneAlong (status.NotEmpty disk) by = ⊥
AreDoneAlong (status.Foreign disk at) by = ⊥
AreDoneAlong (status.TooManyKeys keys) by = ⊥
AreDoneAlong (status.LostDisk disk) by = ⊥
AreDoneAlong (status.Spent disk) by = ⊥
AreDoneAlong (status.DiskFault disk) by = ⊥
AreDoneAlong {meant = meant} status.TooManyLines by = AreDoneWhereReady meant by.wrote.run
AreDoneAlong {meant = meant} status.NoMemory by = AreDoneWhereReady meant by.wrote.run
AreDoneAlong {meant = meant} (status.Endless line) by = AreDoneWhereReady meant by.wrote.run

-- Along it, what each read was answered is so.
abbrev pub AreReadSoAlong : {D : Type 0} {meant : Meaning (DiskShelf D) D} {tells : Type 0} {tries : ℕ} {HadEnded : List (List ℕ) → Type 0} {input old new : Option (List ℕ)} {world : View (DiskShelf D) D} {back : Rack D} (result : Status)
    → Ran meant tells tries HadEnded input old new world result back → Type 0
AreReadSoAlong {meant = meant} status.Ok by = AreSoWhereRead meant by.wrote.run
AreReadSoAlong status.Usage by = ⊥
AreReadSoAlong {meant = meant} status.ReadFault by = AreSoWhereRead meant by.wrote.run
AreReadSoAlong {meant = meant} status.WriteFault by = AreSoWhereRead meant by.wrote.run
AreReadSoAlong (status.NotEmpty disk) by = ⊥
AreReadSoAlong (status.Foreign disk at) by = ⊥
AreReadSoAlong (status.TooManyKeys keys) by = ⊥
AreReadSoAlong (status.LostDisk disk) by = ⊥
AreReadSoAlong (status.Spent disk) by = ⊥
AreReadSoAlong (status.DiskFault disk) by = ⊥
AreReadSoAlong {meant = meant} status.TooManyLines by = AreSoWhereRead meant by.wrote.run
AreReadSoAlong {meant = meant} status.NoMemory by = AreSoWhereRead meant by.wrote.run
AreReadSoAlong {meant = meant} (status.Endless line) by = AreSoWhereRead meant by.wrote.run

-- ---- all of it
-- a command over acceptors and proposers
abbrev pub UsesDisks : Request → Type 0
UsesDisks (request.Script options) = ⊤
UsesDisks (request.Race options) = ⊤
UsesDisks (request.Load options) = ⊤
UsesDisks request.Audit = ⊥

-- a command that goes on from what stands on its disks; a race takes empty ones alone
abbrev pub GoesOnWithDisks : Request → Type 0
GoesOnWithDisks (request.Script options) = ⊤
GoesOnWithDisks (request.Race options) = ⊥
GoesOnWithDisks (request.Load options) = ⊤
GoesOnWithDisks request.Audit = ⊥

-- Why a command whose words are right runs nothing. There was no memory. Or its store was not opened over the disks, and what was settled stands
-- on the members' disks still. Or of a race a disk is not known to be empty, its store was not opened, or there was no memory for its board.
pub data NothingRan {D : Type 0} (m : RackMeaning D) (asked : Request) (given : WentIn D) (out : CameOut D) : Type 0 where
  no_words_read : out.status ≡ status.NoMemory → out.rack ≡ given.rack → NothingRan m asked given out
  not_opened : (fault : ReopenFault) → GoesOnWithDisks asked → IsWhyClosed m (members_of asked) given.rack out.rack fault → (m.tells → StopsWithinOpening m (members_of asked) given.rack out.rack)
      → out.status ≡ status_of_reopening fault → NothingRan m asked given out
  not_empty : (options : Options) (fault : RackFault) → asked ≡ request.Race options → IsNotEmpty m given.rack fault out.rack → out.status ≡ status_of_rack fault → NothingRan m asked given out
  not_begun : (options : Options) (empty : Rack D) (fault : OpenFault) → asked ≡ request.Race options → IsAllEmpty m given.rack empty
      → StaysClosed m.faults options.acceptors options.proposers empty.acceptors.items empty.vaults.items fault out.rack.acceptors.items out.rack.vaults.items → out.status ≡ status_of_opening fault → NothingRan m asked given out
  no_board : (options : Options) (empty : Rack D) → asked ≡ request.Race options → IsAllEmpty m given.rack empty → out.status ≡ status.NoMemory → NothingRan m asked given out

-- then nothing is written
pub record WroteNothing {D : Type 0} (m : RackMeaning D) (asked : Request) (given : WentIn D) (out : CameOut D) : Type 0 where
  pub why : NothingRan m asked given out
  pub unwritten : out.written ≡ given.written

-- What a script wrote: a store was opened over the rack, and the script ran from its world to one whose record is legal. Along it was done what
-- nothing stood against, and reads were answered what is so.
pub record WroteScript {D : Type 0} (meant : Meaning (DiskShelf D) D) (m : RackMeaning D) (options : Options) (given : WentIn D) (out : CameOut D) : Type 0 where
  pub world : View (DiskShelf D) D
  pub over : IsOpenedOver meant m options.acceptors options.proposers (members_to options.acceptors) given.rack world
  pub ran : RanOver meant m.tells options out.HadEnded given.input given.written out.written world out.status out.rack
  pub done : AreDoneAlong ran.before ran.ran
  pub read : m.tells → AreReadSoAlong ran.before ran.ran

-- what a load wrote, from the world of a store that was opened over the rack to one whose record is legal
pub record WroteLoad {D : Type 0} (meant : Meaning (DiskShelf D) D) (m : RackMeaning D) (options : LoadOptions) (given : WentIn D) (out : CameOut D) : Type 0 where
  pub world : View (DiskShelf D) D
  pub over : IsOpenedOver meant m (length options.load.members) options.load.proposers options.load.members given.rack world
  pub loaded : LoadedOver meant m.tells options given.written out.written world out.status out.rack

-- what a race wrote over empty disks
pub record WroteRaceOver {D : Type 0} (m : RackMeaning D) (options : Options) (given : WentIn D) (out : CameOut D) : Type 0 where
  pub rack : Rack D
  pub empty : IsAllEmpty m given.rack rack
  pub raced : RacedOver m options given.input given.written out.written given.harms out.harms out.status out.rack

-- what an audit wrote, which leaves all disks alone
pub record WroteAudit {D : Type 0} (given : WentIn D) (out : CameOut D) : Type 0 where
  pub wrote : WroteFinding given.input given.written out.written out.status
  pub rack : out.rack ≡ given.rack

-- what a command wrote, by what it is
abbrev pub WroteBy : {D : Type 0} → Meaning (DiskShelf D) D → RackMeaning D → Request → WentIn D → CameOut D → Type 0
WroteBy meant m (request.Script options) given out = WroteScript meant m options given out
WroteBy meant m (request.Race options) given out = WroteRaceOver m options given out
WroteBy meant m (request.Load options) given out = WroteLoad meant m options given out
WroteBy meant m request.Audit given out = WroteAudit given out

abbrev pub Wrote : {D : Type 0} → Meaning (DiskShelf D) D → RackMeaning D → Request → WentIn D → CameOut D → Type 0
Wrote meant m asked given out = WroteNothing m asked given out ⊎ WroteBy meant m asked given out

-- What becomes of a command: what was written, where its words are of one; nothing, and the rack comes back as it was, where they are of none;
-- why its status comes; and that of a disk which the status names.
pub record RanCommand {D : Type 0} (meant : Meaning (DiskShelf D) D) (m : RackMeaning D) (words : List (List ℕ)) (given : WentIn D) (out : CameOut D) : Type 0 where
  pub wrote : (asked : Request) → AreWords words asked → Wrote meant m asked given out
  pub refused : ((asked : Request) → AreWords words asked → ⊥) → (out.written ≡ given.written) × (out.rack ≡ given.rack)
  pub causes : Causes words given out
  pub disks : AreDisksToBlame m given.rack out.rack out.status
