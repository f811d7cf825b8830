-- Along a script: each line leaves a safe cluster safe and a remembered one remembered, each change line that nothing stood against was
-- answered done, and what a read was answered is so.
use Rattle.std.specs.Prelude.{⊤, ℕ, List, reverse}
use Rattle.cas_model.specs.History.{IsRemembered}
use Rattle.cas_model.specs.Safe.{IsSafe}
use Rattle.cas_model.specs.View.{Meaning, era_at}
use Rattle.casreg_script.specs.Exchanges.Reads.{IsReadAnswerSo}
use Rattle.casreg_script.specs.Script as script
use Rattle.casreg_script.specs.Script.{State, LineAnswer, IsAnswered, ScriptRun}
use Rattle.casreg_progress.specs.Lines.{next_ballot, IsReadyLine, AreUp, IsDoneOrNoMemory}

-- Each line of a script leaves a safe cluster safe, whatever it asks for and is answered.
abbrev pub LinesKeepSafe : {S V : Type 0} → Meaning S V → Type 0
LinesKeepSafe {S} {V} m = (tries : ℕ) (old new : State S V) (line : List ℕ) (answer : LineAnswer) → IsSafe old.world → IsAnswered m tries old line answer new → IsSafe new.world

-- Each line leaves a remembered cluster remembered, if shelves and disks tell what they keep.
abbrev pub LinesKeepRemembered : {S V : Type 0} → Meaning S V → Type 0
LinesKeepRemembered {S} {V} m =
    m.shelves.tells → m.disks.tells → (tries : ℕ) (old new : State S V) (line : List ℕ) (answer : LineAnswer) → IsRemembered m old.world → IsAnswered m tries old line answer new
    → IsRemembered m new.world

-- If the line asked for a change, nothing stood against it, and the members of the era and its proposer's desk were up after it, then it
-- was answered done, at the ballot of its proposer's next round, or that there was no memory.
abbrev pub IsDoneWhereReady : {S V : Type 0} (m : Meaning S V) {tries : ℕ} {old new : State S V} {line : List ℕ} {answer : LineAnswer} → IsAnswered m tries old line answer new → Type 0
IsDoneWhereReady m {old = old} (script.changes {answer = answer} {new = new} command asked is_line asks runs) =
    (ready : IsReadyLine m old asked) → AreUp (era_at old.world asked.caller) new.world asked.caller → IsDoneOrNoMemory (next_ballot ready.all_ready.desk asked.key) answer
IsDoneWhereReady m other = ⊤

-- so it is with each line of a run
abbrev pub AreDoneWhereReady : {S V : Type 0} (m : Meaning S V) {tries : ℕ} {first_ last : State S V} {lines : List (List ℕ)} {answers : List LineAnswer} → ScriptRun m tries first_ lines answers last
    → Type 0
AreDoneWhereReady m script.none = ⊤
AreDoneWhereReady m (script.one_more line answer before by) = AreDoneWhereReady m before × IsDoneWhereReady m by

-- Along a script that begins in a safe cluster, each change line that nothing stood against was answered done, where all were up after it.
abbrev pub RunsAreDone : {S V : Type 0} → Meaning S V → Type 0
RunsAreDone {S} {V} m =
    (tries : ℕ) (old new : State S V) (lines : List (List ℕ)) (answers : List LineAnswer) → IsSafe old.world → (run : ScriptRun m tries old lines answers new) → AreDoneWhereReady m run

-- What a line that asked for a read was answered is so, by the marks before the line and behind it.
abbrev pub IsSoWhereRead : {S V : Type 0} (m : Meaning S V) {tries : ℕ} {old new : State S V} {line : List ℕ} {answer : LineAnswer} → IsAnswered m tries old line answer new → Type 0
IsSoWhereRead m {old = old} (script.reads {answer = answer} {new = new} key is_line runs) = IsReadAnswerSo (reverse old.world.marks) (reverse new.world.marks) answer
IsSoWhereRead m other = ⊤

-- so it is with each line of a run
abbrev pub AreSoWhereRead : {S V : Type 0} (m : Meaning S V) {tries : ℕ} {first_ last : State S V} {lines : List (List ℕ)} {answers : List LineAnswer} → ScriptRun m tries first_ lines answers last
    → Type 0
AreSoWhereRead m script.none = ⊤
AreSoWhereRead m (script.one_more line answer before by) = AreSoWhereRead m before × IsSoWhereRead m by

-- Along a script that begins in a remembered cluster, what each read was answered is so, if shelves and disks tell what they keep.
abbrev pub RunsReadSo : {S V : Type 0} → Meaning S V → Type 0
RunsReadSo {S} {V} m =
    m.shelves.tells → m.disks.tells → (tries : ℕ) (old new : State S V) (lines : List (List ℕ)) (answers : List LineAnswer) → IsRemembered m old.world → (run : ScriptRun m tries old lines answers new)
    → AreSoWhereRead m run
