-- The answer to a line, by what its command did.
use Rattle.std.proofs.Common.{◌≡◌, ◌<◌, ℕ, List, Option, Some, Result, Ok, Err, slice_set, slice_index_or, length, refl, ap, subst, ◌∙◌}
use Rattle.std.specs.Prelude.{IfOk, OnErr}
use Rattle.cas_lines.specs.Command.{IsLine, AskedChange, change_of}
use Rattle.cas_lines.specs.declared.answer.EventAnswer.{EventAnswer}
use Rattle.cas_lines.specs.declared.answer.Shown.{Shown}
use Rattle.cas_lines.specs.declared.command.Command.{Command}
use Rattle.cas_lines.specs.declared.command.Command.TheVariants.{Probe, Read, Collect, Show}
use Rattle.cas_record.specs.declared.answer.Answer.{Answer}
use Rattle.cas_record.specs.declared.operator.Asked as operator
use Rattle.cas_record.specs.declared.operator.OpAnswer.{OpAnswer}
use Rattle.cas_record.specs.declared.read_answer.ReadAnswer.{ReadAnswer}
use Rattle.casreg_script.specs.Exchanges.Probes.{IsProbe}
use Rattle.casreg_script.specs.Exchanges.Reads.{IsReadLine}
use Rattle.cas_model.specs.View.{Meaning, View}
use Rattle.cas_change.specs.declared.program.Clause.{Clause}
use Rattle.cas_world.specs.Calls.Beginning.{HasNoCall}
use Rattle.casreg_script.specs.Calls.Changes.{IsChange}
use Rattle.casreg_script.specs.Collection.Collections.{IsCollection}
use Rattle.casreg_script.specs.Frames.Conditions.{Ruled}
use Rattle.casreg_script.specs.Events.{IsShownSlot}
use Rattle.casreg_script.specs.Eras.Membership.{ChangesMembers}
use Rattle.casreg_script.specs.Frames.Network.{IsNetwork, NetworkLeaves, Through}
use Rattle.casreg_script.specs.Script.{State, LineAnswer, Changed, Happened, Shows, Operated, Reads, RunsProbe, probes, RunsRead, reads, RunsCollection, collects, RunsMembership, changes_members, membership_of, RunsChange, RunsEvent, IsAnswered, changes, happens, shows, text_of, IsInState, AnswersLine, RanOrNot, ran, Runs, nowhere}
use Rattle.casreg_script.specs.Stage.{Stage, IsStage}
use Rattle.casreg_script.specs.declared.halt.Halt.{Halt}
use Rattle.casreg_script.specs.declared.network.Network.{Network}
use Rattle.casreg_script.proofs.Calls.Keeping.{change_leaves, stays_quiet, idle_then}
use Rattle.casreg_script.proofs.Frames.Ruled.{still_ruled, change_stay, collection_stay, membership_stay, probe_stay, read_stay}
use Rattle.casreg_script.proofs.Stages.{stage_of, halt_at, world_is, halts_are, network_is}

-- ---- results
-- with its text, where there was memory for it
pub with_text : {S V : Type 0} {T E : Type 0} (m : Meaning S V) (tries number : ℕ) (state : State S V) (line : List ℕ) (stage : Stage S V) (bytes : T → List ℕ) (r : Result T E) (answer : LineAnswer) (new : State S V) → IsInState stage new → IsAnswered m tries state line answer new
    → IfOk r (λ text. bytes text ≡ text_of number answer) → IfOk r (λ text. AnswersLine m tries state line number (bytes text) stage)
with_text m tries number state line stage bytes (Ok text) answer new is_in run text_is = record { answer = answer; new = new; is_in = is_in; run = run; text_is = text_is }
with_text m tries number state line stage bytes (Err e) answer new is_in run text_is = tt

pub without_text : {S V : Type 0} {T E : Type 0} (m : Meaning S V) (tries : ℕ) (state : State S V) (line : List ℕ) (stage : Stage S V) (r : Result T E) (answer : LineAnswer) (new : State S V) → IsInState stage new → IsAnswered m tries state line answer new → OnErr r (RanOrNot m tries state line stage)
without_text m tries state line stage (Ok text) answer new is_in run = tt
without_text m tries state line stage (Err e) answer new is_in run = ran answer new is_in run

-- ---- what is run
-- the line says so of the world of the state
pub line_of : {S V : Type 0} (stage : Stage S V) (state : State S V) (line : List ℕ) (said : Option Command) → IsInState stage state → IsLine stage.world.last_proposer line said → IsLine state.world.last_proposer line said
line_of {S} {V} stage state line said at is = subst (λ (w : View S V). IsLine w.last_proposer line said) at.world is

pub changes_run : {S V : Type 0} (m : Meaning S V) (tries : ℕ) (old stage : Stage S V) (state : State S V) (line : List ℕ) (command : Command) (asked : AskedChange) (answer : Answer) → IsInState old state → IsLine old.world.last_proposer line (Some command) → change_of command ≡ Some asked
    → (runs : Runs (RunsChange m tries state asked answer) stage) → IsAnswered m tries state line (Changed asked.caller answer) runs.new
changes_run m tries old stage state line command asked answer at is asks runs = changes command asked (line_of old state line (Some command) at is) asks runs.has

pub happens_run : {S V : Type 0} (m : Meaning S V) (tries : ℕ) (old stage : Stage S V) (state : State S V) (line : List ℕ) (command : Command) (answer : EventAnswer) → IsInState old state → IsLine old.world.last_proposer line (Some command)
    → (runs : Runs (RunsEvent m state command answer) stage) → IsAnswered m tries state line (Happened answer) runs.new
happens_run m tries old stage state line command answer at is runs = happens command (line_of old state line (Some command) at is) runs.has

pub shows_run : {S V : Type 0} (m : Meaning S V) (tries : ℕ) (stage : Stage S V) (state : State S V) (line : List ℕ) (command : Command) (id : ℕ) (key : List ℕ) (shown : Shown) (world : View S V) → IsInState stage state → IsLine stage.world.last_proposer line (Some command) → command ≡ Show id key
    → world ≡ state.world → IsShownSlot m world id key shown → IsAnswered m tries state line (Shows id key shown) state
shows_run {S} {V} m tries stage state line command id key shown world at is says same has =
    shows id key (subst (λ (c : Command). IsLine state.world.last_proposer line (Some c)) says (line_of stage state line (Some command) at is)) (subst (λ (w : View S V). IsShownSlot m w id key shown) same has)

pub probes_run : {S V : Type 0} (m : Meaning S V) (tries : ℕ) (old stage : Stage S V) (state : State S V) (line : List ℕ) (command : Command) (key : List ℕ) (answer : OpAnswer) → IsInState old state → IsLine old.world.last_proposer line (Some command) → command ≡ Probe key
    → (runs : Runs (RunsProbe m state key answer) stage) → IsAnswered m tries state line (Operated answer) runs.new
probes_run m tries old stage state line command key answer at is says runs = probes key (subst (λ (c : Command). IsLine state.world.last_proposer line (Some c)) says (line_of old state line (Some command) at is)) runs.has

pub reads_run : {S V : Type 0} (m : Meaning S V) (tries : ℕ) (old stage : Stage S V) (state : State S V) (line : List ℕ) (command : Command) (key : List ℕ) (answer : ReadAnswer) → IsInState old state → IsLine old.world.last_proposer line (Some command) → command ≡ Read key
    → (runs : Runs (RunsRead m state key answer) stage) → IsAnswered m tries state line (Reads answer) runs.new
reads_run m tries old stage state line command key answer at is says runs = reads key (subst (λ (c : Command). IsLine state.world.last_proposer line (Some c)) says (line_of old state line (Some command) at is)) runs.has

pub collects_run : {S V : Type 0} (m : Meaning S V) (tries : ℕ) (old stage : Stage S V) (state : State S V) (line : List ℕ) (command : Command) (key : List ℕ) (answer : OpAnswer) → IsInState old state → IsLine old.world.last_proposer line (Some command) → command ≡ Collect key
    → (runs : Runs (RunsCollection m tries state key answer) stage) → IsAnswered m tries state line (Operated answer) runs.new
collects_run m tries old stage state line command key answer at is says runs = collects key (subst (λ (c : Command). IsLine state.world.last_proposer line (Some c)) says (line_of old state line (Some command) at is)) runs.has

pub members_run : {S V : Type 0} (m : Meaning S V) (tries : ℕ) (old stage : Stage S V) (state : State S V) (line : List ℕ) (command : Command) (asked : operator.Asked) (answer : OpAnswer) → IsInState old state → IsLine old.world.last_proposer line (Some command) → membership_of command ≡ Some asked
    → (runs : Runs (RunsMembership m tries state asked answer) stage) → IsAnswered m tries state line (Operated answer) runs.new
members_run m tries old stage state line command asked answer at is asks runs = changes_members command asked (line_of old state line (Some command) at is) asks runs.has

-- ---- a collection
pub collection_runs : {S V : Type 0} (m : Meaning S V) (world now : View S V) (network next : Network) (halts : List Halt) (tries : ℕ) (seen : Stage S V) (state : State S V) (key : List ℕ) (after : Halt) (answer : OpAnswer)
    → stage_of world network halts tries ≡ seen → IsInState seen state → 0 < length halts
    → (IsNetwork network (Ruled state.rules) → NetworkLeaves next (λ view. IsCollection m tries (Ruled state.rules) key (slice_index_or halts 0 nowhere) world answer view after now))
    → Runs (RunsCollection m tries state key answer) (stage_of now next (slice_set halts 0 after) tries)
collection_runs {S} {V} m world now network next halts tries seen state key after answer is at low runs =
    let now_ruled = still_ruled next state.rules (λ view. IsCollection m tries (Ruled state.rules) key (slice_index_or halts 0 nowhere) world answer view after now) (λ view. collection_stay m tries (Ruled state.rules) view key (slice_index_or halts 0 nowhere) after world now answer) (runs (network_is world network halts tries seen state is at)) in record {
      new = record state { world = now; halts = slice_set state.halts 0 after };
      is_in = record {
        world = refl;
        network = now_ruled.is;
        halts = ap (λ (l : List Halt). slice_set l 0 after) (halts_are world network halts tries seen state is at);
      };
      has = record {
        halt = slice_index_or halts 0 nowhere;
        at_halt = halt_at halts state.halts 0 0 refl low (halts_are world network halts tries seen state is at);
        after = after;
        collects = subst (λ (w : View S V). IsCollection m tries (Ruled state.rules) key (slice_index_or halts 0 nowhere) w answer (Ruled state.rules) after now) (world_is world network halts tries seen state is at) now_ruled.has;
        rules = refl;
        halts = refl;
      };
    }

-- ---- a change of membership
pub membership_runs : {S V : Type 0} (m : Meaning S V) (world now : View S V) (network next : Network) (halts : List Halt) (tries : ℕ) (seen : Stage S V) (state : State S V) (asked : operator.Asked) (after : Halt) (answer : OpAnswer)
    → stage_of world network halts tries ≡ seen → IsInState seen state → 0 < length halts
    → (IsNetwork network (Ruled state.rules) → NetworkLeaves next (λ view. ChangesMembers m tries (Ruled state.rules) asked (slice_index_or halts 0 nowhere) world answer view after now))
    → Runs (RunsMembership m tries state asked answer) (stage_of now next (slice_set halts 0 after) tries)
membership_runs {S} {V} m world now network next halts tries seen state asked after answer is at low runs =
    let now_ruled = still_ruled next state.rules (λ view. ChangesMembers m tries (Ruled state.rules) asked (slice_index_or halts 0 nowhere) world answer view after now) (λ view. membership_stay m tries (Ruled state.rules) view asked (slice_index_or halts 0 nowhere) after world now answer) (runs (network_is world network halts tries seen state is at)) in record {
      new = record state { world = now; halts = slice_set state.halts 0 after };
      is_in = record {
        world = refl;
        network = now_ruled.is;
        halts = ap (λ (l : List Halt). slice_set l 0 after) (halts_are world network halts tries seen state is at);
      };
      has = record {
        halt = slice_index_or halts 0 nowhere;
        at_halt = halt_at halts state.halts 0 0 refl low (halts_are world network halts tries seen state is at);
        after = after;
        changes = subst (λ (w : View S V). ChangesMembers m tries (Ruled state.rules) asked (slice_index_or halts 0 nowhere) w answer (Ruled state.rules) after now) (world_is world network halts tries seen state is at) now_ruled.has;
        rules = refl;
        halts = refl;
      };
    }

-- ---- a probe
pub probe_runs : {S V : Type 0} (m : Meaning S V) (world now : View S V) (network next : Network) (halts : List Halt) (tries : ℕ) (seen : Stage S V) (state : State S V) (key : List ℕ) (answer : OpAnswer) → stage_of world network halts tries ≡ seen → IsInState seen state
    → (IsNetwork network (Ruled state.rules) → NetworkLeaves next (λ view. IsProbe m (Ruled state.rules) key world answer view now)) → Runs (RunsProbe m state key answer) (stage_of now next halts tries)
probe_runs {S} {V} m world now network next halts tries seen state key answer is at runs =
    let now_ruled = still_ruled next state.rules (λ view. IsProbe m (Ruled state.rules) key world answer view now) (λ view. probe_stay m (Ruled state.rules) view key world now answer) (runs (network_is world network halts tries seen state is at)) in record {
      new = record state { world = now };
      is_in = record { world = refl; network = now_ruled.is; halts = halts_are world network halts tries seen state is at };
      has = record {
        probe = subst (λ (w : View S V). IsProbe m (Ruled state.rules) key w answer (Ruled state.rules) now) (world_is world network halts tries seen state is at) now_ruled.has;
        rules = refl;
        halts = refl;
      };
    }

-- ---- a read
pub read_runs : {S V : Type 0} (m : Meaning S V) (world now : View S V) (network next : Network) (halts : List Halt) (tries : ℕ) (seen : Stage S V) (state : State S V) (key : List ℕ) (answer : ReadAnswer) → stage_of world network halts tries ≡ seen → IsInState seen state
    → (IsNetwork network (Ruled state.rules) → NetworkLeaves next (λ view. IsReadLine m (Ruled state.rules) key world answer view now)) → Runs (RunsRead m state key answer) (stage_of now next halts tries)
read_runs {S} {V} m world now network next halts tries seen state key answer is at runs =
    let now_ruled = still_ruled next state.rules (λ view. IsReadLine m (Ruled state.rules) key world answer view now) (λ view. read_stay m (Ruled state.rules) view key world now answer) (runs (network_is world network halts tries seen state is at)) in record {
      new = record state { world = now };
      is_in = record { world = refl; network = now_ruled.is; halts = halts_are world network halts tries seen state is at };
      has = record {
        read = subst (λ (w : View S V). IsReadLine m (Ruled state.rules) key w answer (Ruled state.rules) now) (world_is world network halts tries seen state is at) now_ruled.has;
        rules = refl;
        halts = refl;
      };
    }

-- ---- a change
pub change_runs : {S V : Type 0} (m : Meaning S V) (world now : View S V) (network next : Network) (halts : List Halt) (tries : ℕ) (seen : Stage S V) (state : State S V) (index : ℕ) (asked : AskedChange) (after : Halt) (answer : Answer)
    → stage_of world network halts tries ≡ seen → IsInState seen state → index ≡ asked.caller → asked.caller < length halts
    → (IsNetwork network (Ruled state.rules) → NetworkLeaves next (λ view. IsChange m tries (Ruled state.rules) asked.caller asked.key asked.program (slice_index_or halts index nowhere) world answer view after now))
    → Runs (RunsChange m tries state asked answer) (stage_of now next (slice_set halts index after) tries)
change_runs {S} {V} m world now network next halts tries seen state index asked after answer is at same low runs =
    let now_ruled = still_ruled next state.rules (λ view. IsChange m tries (Ruled state.rules) asked.caller asked.key asked.program (slice_index_or halts index nowhere) world answer view after now) (λ view. change_stay m tries (Ruled state.rules) view asked.caller asked.key asked.program (slice_index_or halts index nowhere) after world now answer) (runs (network_is world network halts tries seen state is at)) in record {
      new = record state { world = now; halts = slice_set state.halts asked.caller after };
      is_in = record {
        world = refl;
        network = now_ruled.is;
        halts = ap (λ (l : List Halt). slice_set l index after) (halts_are world network halts tries seen state is at) ∙ ap (λ (i : ℕ). slice_set state.halts i after) same;
      };
      has = record {
        halt = slice_index_or halts index nowhere;
        at_halt = halt_at halts state.halts index asked.caller same low (halts_are world network halts tries seen state is at);
        after = after;
        change = subst (λ (w : View S V). IsChange m tries (Ruled state.rules) asked.caller asked.key asked.program (slice_index_or halts index nowhere) w answer (Ruled state.rules) after now) (world_is world network halts tries seen state is at) now_ruled.has;
        rules = refl;
        halts = refl;
      };
    }

pub change_stage : {S V : Type 0} (m : Meaning S V) (world now : View S V) (network next : Network) (halts afters : List Halt) (tries proposers : ℕ) (id : ℕ) (key : List ℕ) (program : List Clause) (halt after : Halt) (answer : Answer) → IsStage (stage_of world network halts tries) proposers
    → now.last_proposer ≡ world.last_proposer → HasNoCall now id → Through network next (λ by view. IsChange m tries by id key program halt world answer view after now)
    → IsStage (stage_of now next afters tries) proposers
change_stage m world now network next halts afters tries proposers id key program halt after answer is last_proposer idle runs =
    let leaves = change_leaves m tries id key program halt after world now answer (runs (Ruled is.ruled.0) is.ruled.1).has in record {
      known = last_proposer ∙ is.known;
      few = is.few;
      some = is.some;
      idle = idle_then world now id leaves is.idle idle;
      quiet = stays_quiet (leaves.council is.quiet) is.quiet;
      ruled = (is.ruled.0, (still_ruled next is.ruled.0 (λ view. IsChange m tries (Ruled is.ruled.0) id key program halt world answer view after now) (λ view. change_stay m tries (Ruled is.ruled.0) view id key program halt after world now answer) (runs (Ruled is.ruled.0) is.ruled.1)).is);
    }
