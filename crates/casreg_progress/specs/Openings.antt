-- The first line of a script: nothing stands against its change where all are up.
use Rattle.std.specs.Prelude.{◌+◌, ◌^◌, ◌<◌, ℕ, List}
use Rattle.cas_lines.specs.Command.{AskedChange}
use Rattle.cas_proposer.specs.Desk.{DeskView}
use Rattle.cas_record.specs.declared.answer.Answer.{Answer}
use Rattle.cas_vault.specs.Vault.{counter_of}
use Rattle.cas_model.specs.SafeLaws.{HasPlaces}
use Rattle.cas_model.specs.Step.{IsOpening}
use Rattle.cas_model.specs.View.{Meaning, View, IsAt, era_at}
use Rattle.casreg_script.specs.Script.{State, RunsChange, opening_state}
use Rattle.casreg_progress.specs.Lines.{AreUp, IsDoneOrNoMemory}

-- A script over a cluster that just opened begins with a change of a proposer whose ballots are not spent: it is answered done, at the
-- proposer's first ballot, but where no memory is found, if the members and the proposer's desk are up before and after it.
abbrev pub FirstLinesAreDone : {S V : Type 0} → Meaning S V → Type 0
FirstLinesAreDone {S} {V} m = (tries : ℕ) (members : List ℕ) (world : View S V) (new : State S V) (asked : AskedChange) (answer : Answer) (desk : DeskView V) → IsOpening m members world → HasPlaces world → IsAt world.desks asked.caller desk → counter_of desk.vault < 2 ^ 48
    → AreUp (era_at world asked.caller) world asked.caller → RunsChange m tries (opening_state world) asked answer new → AreUp (era_at world asked.caller) new.world asked.caller → IsDoneOrNoMemory (record { counter = counter_of desk.vault + 1; proposer = asked.caller }) answer
