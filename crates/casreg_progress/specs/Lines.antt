-- Where nothing stands against a change, and how its line is answered then.
use Rattle.std.specs.Prelude.{◌≡◌, ◌⊎◌, ◌+◌, ◌^◌, ◌<◌, ◌≤◌, ⊤, ℕ, true, false, List, Option, None, Some}
use Rattle.cas_ballot.specs.declared.ballot.Ballot.{Ballot}
use Rattle.cas_ballot.specs.Ballot.{BallotAtMost}
use Rattle.cas_ballot.specs.Members.{has_member}
use Rattle.cas_cache.specs.declared.ready.Ready.{Ready}
use Rattle.cas_cache.specs.Entries.{promise_at}
use Rattle.cas_fate.specs.declared.fate.Verdict.TheVariants.{Deliver}
use Rattle.cas_flow.specs.declared.message.Message.{Message}
use Rattle.cas_acceptor.specs.Acceptor.{AcceptorView}
use Rattle.cas_lines.specs.Command.{AskedChange}
use Rattle.cas_proposer.specs.Desk.{DeskView}
use Rattle.cas_quorum.specs.declared.era.Era.{Era}
use Rattle.cas_record.specs.declared.answer.Answer.{Answer}
use Rattle.cas_record.specs.declared.answer.Answer.TheVariants.{Done, NoMemory}
use Rattle.cas_slot.specs.Ages.{least_age}
use Rattle.cas_slot.specs.Slots.{IsFullFor}
use Rattle.cas_slot.specs.Table.{seen_at}
use Rattle.cas_vault.specs.Vault.{counter_of, kept_of}
use Rattle.cas_model.specs.Safe.{IsSafe}
use Rattle.cas_model.specs.Calls.Step.{HasRoom, round_marks}
use Rattle.cas_model.specs.View.{Meaning, ShelfMeaning, View, CallerView, IsAt, era_at}
use Rattle.casreg_script.specs.Frames.Conditions.{verdict_on}
use Rattle.casreg_script.specs.Script.{State, RunsChange, nowhere}

-- ---- the next round
-- the ballot at which a desk begins a round: that of the promise that it holds, or the one after its counter
abbrev pub ballot_by : ℕ → ℕ → Option Ready → Ballot
ballot_by id counter None = record { counter = counter + 1; proposer = id }
ballot_by id counter (Some ready) = ready.ballot

-- that of its next round of the key
abbrev pub next_ballot : {V : Type 0} → DeskView V → List ℕ → Ballot
next_ballot desk key = ballot_by desk.id (counter_of desk.vault) (promise_at key desk.cache)

-- ---- what is ready
-- the acceptor prepares or accepts in the era
abbrev pub IsMemberOf : Era → ℕ → Type 0
IsMemberOf era id = (has_member era.prep id ≡ true) ⊎ (has_member era.acc id ≡ true)

-- An acceptor is up, keeps no greater age of the desk's proposer, has seen no ballot above that of the desk's next round of the key, and
-- has room for the key.
pub record IsReadyFor {S V : Type 0} (m : ShelfMeaning S) (desk : DeskView V) (key : List ℕ) (acceptor : AcceptorView S) : Type 0 where
  pub up : acceptor.down ≡ false
  pub age : least_age (m.contents acceptor.shelf).ages desk.id ≤ (kept_of desk.vault).age
  pub seen : BallotAtMost (seen_at (m.contents acceptor.shelf) key) (next_ballot desk key)
  pub room : IsFullFor (m.contents acceptor.shelf).slots key → ⊥

-- A desk is up and has no open round. Where it holds no promise of the key, its ballots are not spent.
pub record IsReadyToBegin {V : Type 0} (desk : DeskView V) (key : List ℕ) : Type 0 where
  pub up : desk.down ≡ false
  pub none_open : desk.round ≡ None
  pub unspent : promise_at key desk.cache ≡ None → counter_of desk.vault < 2 ^ 48

-- every member of the proposer's era is ready for the next round of the key at the proposer's desk, and so is that desk
pub record AreReady {S V : Type 0} (m : Meaning S V) (view : View S V) (id : ℕ) (key : List ℕ) : Type 0 where
  pub desk : DeskView V
  pub at_desk : IsAt view.desks id desk
  pub begins : IsReadyToBegin desk key
  pub members : (member : ℕ) → IsMemberOf (era_at view id) member → (acceptor : AcceptorView S) × IsAt view.acceptors member acceptor × IsReadyFor m.shelves desk key acceptor

-- ---- the line
-- Nothing stands against the change of a line: each frame is delivered, its proposer is to halt nowhere, all are ready for it, its caller
-- has no open call, and the marks of its round fit.
pub record IsReadyLine {S V : Type 0} (m : Meaning S V) (old : State S V) (asked : AskedChange) : Type 0 where
  pub delivers : (frame : Message) → verdict_on old.rules frame ≡ Deliver
  pub goes_on : IsAt old.halts asked.caller nowhere
  pub all_ready : AreReady m old.world asked.caller asked.key
  pub no_call : (caller : CallerView) → IsAt old.world.callers asked.caller caller → caller.call ≡ None
  pub room : HasRoom old.world asked.caller (round_marks (era_at old.world asked.caller))

-- the members of the era and the proposer's desk are up
pub record AreUp {S V : Type 0} (era : Era) (view : View S V) (id : ℕ) : Type 0 where
  pub members : (member : ℕ) → IsMemberOf era member → (acceptor : AcceptorView S) → IsAt view.acceptors member acceptor → acceptor.down ≡ false
  pub desk : (desk : DeskView V) → IsAt view.desks id desk → desk.down ≡ false

-- a change is done at this ballot, or there was no memory for it
abbrev pub IsDoneOrNoMemory : Ballot → Answer → Type 0
IsDoneOrNoMemory ballot (Done state took done_at) = done_at ≡ ballot
IsDoneOrNoMemory ballot (NoMemory proposed) = ⊤
IsDoneOrNoMemory ballot other = ⊥

-- A line whose change nothing stands against is answered done, at the ballot of its proposer's next round, but where no memory is found:
-- whatever tries it has, if the members of the era and its proposer's desk are up after it.
abbrev pub ReadyLinesAreDone : {S V : Type 0} → Meaning S V → Type 0
ReadyLinesAreDone {S} {V} m = (tries : ℕ) (old new : State S V) (asked : AskedChange) (answer : Answer) → IsSafe old.world → (ready : IsReadyLine m old asked) → RunsChange m tries old asked answer new → AreUp (era_at old.world asked.caller) new.world asked.caller
    → IsDoneOrNoMemory (next_ballot ready.all_ready.desk asked.key) answer
