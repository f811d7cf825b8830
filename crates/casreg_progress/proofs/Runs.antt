-- Along a script each ready change line was answered done, and what each read was answered is so.
use Rattle.std.proofs.Common.{ℕ, List}
use Rattle.cas_model.specs.History.{IsRemembered}
use Rattle.cas_model.specs.Safe.{IsSafe}
use Rattle.cas_model.specs.View.{Meaning}
use Rattle.casreg_script.specs.Script as script
use Rattle.casreg_script.specs.Script.{State, LineAnswer, IsAnswered, ScriptRun}
use Rattle.casreg_progress.specs.Runs.{IsDoneWhereReady, IsSoWhereRead, RunsAreDone, RunsReadSo}
use Rattle.casreg_progress.proofs.Lines.{lines_are_done}
use Rattle.casreg_progress.proofs.Staying.{Stays, same, both, line_stays}

run_stays : {S V : Type 0} (m : Meaning S V) (tries : ℕ) (old new : State S V) (lines : List (List ℕ)) (answers : List LineAnswer) → ScriptRun m tries old lines answers new
    → Stays m old.world new.world
run_stays m tries old new lines answers script.none = same m old.world
run_stays m tries old new lines answers (script.one_more {lines = before} {answers = told} {mid = mid} line answer run by) =
    both m old.world mid.world new.world (run_stays m tries old mid before told run) (line_stays m tries mid new line answer by)

line_done : {S V : Type 0} (m : Meaning S V) (tries : ℕ) (old new : State S V) (line : List ℕ) (answer : LineAnswer) → IsSafe old.world → (by : IsAnswered m tries old line answer new)
    → IsDoneWhereReady m by
line_done m tries old new line answer safe (script.changes {answer = told} command asked is_line asks runs) =
    λ ready up. lines_are_done m tries old new asked told safe ready runs up
line_done m tries old new line answer safe (script.happens command is_line runs) = tt
line_done m tries old new line answer safe (script.shows id key is_line shown) = tt
line_done m tries old new line answer safe (script.probes key is_line runs) = tt
line_done m tries old new line answer safe (script.reads key is_line runs) = tt
line_done m tries old new line answer safe (script.collects key is_line runs) = tt
line_done m tries old new line answer safe (script.changes_members command asked is_line asks runs) = tt
line_done m tries old new line answer safe (script.refused why word is_line) = tt
line_done m tries old new line answer safe (script.remark is_line) = tt

pub runs_are_done : {S V : Type 0} (m : Meaning S V) → RunsAreDone m
runs_are_done m tries old new lines answers safe script.none = tt
runs_are_done {S} {V} m tries old new lines answers safe (script.one_more {lines = before} {answers = told} {mid = mid} line answer run by) =
    let stays = run_stays m tries old mid before told run in (
      runs_are_done m tries old mid before told safe run,
      line_done m tries mid new line answer (stays.0 safe) by,
    )

line_so : {S V : Type 0} (m : Meaning S V) (shelves : m.shelves.tells) (disks : m.disks.tells) (tries : ℕ) (old new : State S V) (line : List ℕ) (answer : LineAnswer) → IsRemembered m old.world
    → (by : IsAnswered m tries old line answer new) → IsSoWhereRead m by
line_so m shelves disks tries old new line answer is (script.changes command asked is_line asks runs) = tt
line_so m shelves disks tries old new line answer is (script.happens command is_line runs) = tt
line_so m shelves disks tries old new line answer is (script.shows id key is_line shown) = tt
line_so m shelves disks tries old new line answer is (script.probes key is_line runs) = tt
line_so m shelves disks tries old new line answer is (script.reads key is_line runs) = runs.read.so shelves disks is
line_so m shelves disks tries old new line answer is (script.collects key is_line runs) = tt
line_so m shelves disks tries old new line answer is (script.changes_members command asked is_line asks runs) = tt
line_so m shelves disks tries old new line answer is (script.refused why word is_line) = tt
line_so m shelves disks tries old new line answer is (script.remark is_line) = tt

pub runs_read_so : {S V : Type 0} (m : Meaning S V) → RunsReadSo m
runs_read_so m shelves disks tries old new lines answers is script.none = tt
runs_read_so m shelves disks tries old new lines answers is (script.one_more {lines = before} {answers = told} {mid = mid} line answer run by) = (
  runs_read_so m shelves disks tries old mid before told is run,
  line_so m shelves disks tries mid new line answer ((run_stays m tries old mid before told run).1 shelves disks is) by,
)
