-- What each call on a cluster does to it.
use Rattle.std.specs.Prelude.{◌+◌, ◌≡◌, ℕ, ◌<◌, ◌≤◌, true, false, List, [], None, Some, is_some, length, replicate, if◌then◌else◌, slice_get, slice_set}
use Rattle.cas_ballot.specs.Members.{IsMemberSet}
use Rattle.cas_change.specs.declared.program.Clause.{Clause}
use Rattle.cas_fate.specs.declared.fate.Verdict.{Verdict}
use Rattle.cas_flow.specs.Flow.{empty_flow, queue_at}
use Rattle.cas_flow.specs.declared.message.Message.{Message}
use Rattle.cas_quorum.specs.Era.{majority_era}
use Rattle.cas_slot.specs.Contents.{nothing}
use Rattle.cas_slot.specs.Shelf.{OnlyLeaves}
use Rattle.cas_acceptor.specs.Acceptor.{AcceptorView}
use Rattle.cas_proposer.specs.Desk.{DeskView}
use Rattle.cas_proposer.specs.Round.{is_preparing}
use Rattle.cas_proposer.specs.declared.round.Round.{Round}
use Rattle.cas_vault.specs.Vault.{kept_of}
use Rattle.cas_record.specs.declared.answer.Answer.{Answer}
use Rattle.cas_record.specs.declared.answer.Answer.TheVariants as answer
use Rattle.cas_record.specs.declared.operator.Asked.{Asked}
use Rattle.cas_record.specs.declared.operator.OpAnswer.{OpAnswer}
use Rattle.cas_model.specs.Council.{Question, opening_council}
use Rattle.cas_model.specs.Eras.Course.{era_shown}
use Rattle.cas_model.specs.Openings.{Opening, IsOpeningOn}
use Rattle.cas_model.specs.Parties.{VaultKeepsEra}
use Rattle.cas_model.specs.Frames.Acceptors.{CrashesShelf, StartsShelf, FailsToStart}
use Rattle.cas_model.specs.Calls.Step.{most_marks, Opens, BeginsRound, RefusesCall, ProposesOrEnds, CountsOrEnds, EndsCall, telling, with_call}
use Rattle.cas_model.specs.Collection.Step.{keep_always, StepBeginCollect, StepReadHeld, StepCountCollect, StepEndCollect, StepGatherRound, StepRenew, StepAskCollect, StepGatherCollect, StepMakeFloor}
use Rattle.cas_model.specs.Exchanges.Step.{StepOrder, StepTell, StepAskAll, StepTurnExchange, StepRefuseTurnExchange, StepGather, StepRefuseKey}
use Rattle.cas_model.specs.Calls.Desks.{Restarts}
use Rattle.cas_model.specs.Eras.Step.{StepOpenPlan, StepEnterEra}
use Rattle.cas_model.specs.Stops.Step.{OpenCallAt, StepCrashProposer}
use Rattle.cas_model.specs.Frames.Step.{TakesTurn, FindsNoRoom, Strays}
use Rattle.cas_model.specs.View.{Meaning, CallView, CallerView, View, IsAt, new_caller, era_at, reserved_in_all, with_acceptor, with_desk}

-- ---- the calls
pub data Event : Type 0 where
  -- a caller begins a call, or another round of its open one; or that is refused
  Begin : (caller : ℕ) (key : List ℕ) (program : List Clause) → Event
  RefuseBegin : (caller : ℕ) (key : List ℕ) → Event
  -- the first own frame of a proposer has its turn; or no memory is found for it
  Turn : (proposer : ℕ) (verdict : Verdict) → Event
  RefuseTurn : (proposer : ℕ) → Event
  -- the prepare phase ends, and the accept phase
  Propose : (proposer : ℕ) → Event
  Count : (proposer : ℕ) → Event
  -- a call ends with what it was told
  End : (caller : ℕ) (answer : Answer) → Event
  -- a late frame strays in; or no memory is found for it
  Stray : (index : ℕ) → Event
  RefuseStray : Event
  -- an acceptor or a proposer stops, and is up again or fails to
  CrashAcceptor : (id : ℕ) → Event
  RestartAcceptor : (id : ℕ) → Event
  CrashProposer : (proposer : ℕ) → Event
  RestartProposer : (proposer : ℕ) → Event
  -- the operator's call begins, or is refused, and is told its answer
  Order : (asked : Asked) → Event
  RefuseOrder : Event
  Tell : (answer : OpAnswer) → Event
  -- proposer 0 asks all members; the first frame of that has its turn, or no memory is found for it; and what was told is gathered
  AskAll : (question : Question) → Event
  TurnExchange : (verdict : Verdict) → Event
  RefuseTurnExchange : Event
  Gather : Event
  -- no memory is found for the key that is to be proposed anew
  RefuseKey : Event
  -- a change of membership begins, and the next proposer enters the era that it leads to; or the operator is told why not
  OpenPlan : Event
  EnterEra : (proposer : ℕ) → Event
  -- a collection's call begins or goes on with another round, its round reads a held state or is counted, its call ends, and what became of it is gathered
  BeginCollect : (key : List ℕ) → Event
  ReadHeld : Event
  CountCollect : Event
  EndCollect : (answer : Answer) → Event
  GatherRound : Event
  -- the next proposer is renewed; all members are told the new ages, or to remove their slots, and what they answered is gathered; and the tombstone becomes a floor
  Renew : (proposer : ℕ) → Event
  AskCollect : Event
  GatherCollect : Event
  MakeFloor : Event

-- ---- what they do
-- a call is begun or goes on, and its round begins, or its caller is told why not
pub record StepBegin {S V : Type 0} (m : Meaning S V) (old : View S V) (id : ℕ) (key : List ℕ) (program : List Clause) (new : View S V) : Type 0 where
  pub middle : View S V
  pub opens : Opens old id key program middle
  pub caller : CallerView
  pub at_caller : IsAt middle.callers id caller
  pub call : CallView
  pub is_open : caller.call ≡ Some call
  pub begins : BeginsRound m middle id caller call new

-- its open round
pub record OpenRoundAt {S V : Type 0} (view : View S V) (id : ℕ) : Type 0 where
  pub of_call : OpenCallAt view id
  pub desk : DeskView V
  pub at_desk : IsAt view.desks id desk
  pub up : desk.down ≡ false
  pub round : Round
  pub is_open : desk.round ≡ Some round
  pub none_waits : (queue_at view.flow id).messages ≡ []

pub record StepTurn {S V : Type 0} (m : Meaning S V) (old : View S V) (id : ℕ) (verdict : Verdict) (new : View S V) : Type 0 where
  pub of_call : OpenCallAt old id
  pub front : Message
  pub waits : slice_get (queue_at old.flow id).messages 0 ≡ Some front
  pub turn : TakesTurn m old id verdict front of_call.caller of_call.call new

-- no memory: the caller is told, and whether its change was proposed
pub record StepRefuseTurn {S V : Type 0} (m : Meaning S V) (old : View S V) (id : ℕ) (new : View S V) : Type 0 where
  pub of_call : OpenCallAt old id
  pub middle : View S V
  pub refuses : FindsNoRoom m old middle
  pub view : new ≡ with_call middle id of_call.caller (telling of_call.call (answer.NoMemory (is_some of_call.call.proposed)))

pub record StepPropose {S V : Type 0} (m : Meaning S V) (old : View S V) (id : ℕ) (new : View S V) : Type 0 where
  pub at_round : OpenRoundAt old id
  pub preparing : is_preparing at_round.round.phase ≡ true
  pub proposes : ProposesOrEnds m old id at_round.desk at_round.round at_round.of_call.caller at_round.of_call.call new

pub record StepCount {S V : Type 0} (m : Meaning S V) (old : View S V) (id : ℕ) (new : View S V) : Type 0 where
  pub at_round : OpenRoundAt old id
  pub accepting : is_preparing at_round.round.phase ≡ false
  pub counts : CountsOrEnds m old id at_round.desk at_round.round at_round.of_call.caller at_round.of_call.call new

pub record StepEnd {S V : Type 0} (m : Meaning S V) (old : View S V) (id : ℕ) (answer : Answer) (new : View S V) : Type 0 where
  pub of_call : OpenCallAt old id
  pub ends : EndsCall m old id of_call.caller of_call.call answer new

pub record StepStray {S V : Type 0} (m : Meaning S V) (old : View S V) (index : ℕ) (new : View S V) : Type 0 where
  pub late : Message
  pub waits : slice_get old.flow.late index ≡ Some late
  -- there is room for a mark
  pub room : length old.marks + reserved_in_all old < most_marks
  pub strays : Strays m old index late new

-- ---- stops
pub data StepCrashAcceptor {S V : Type 0} (m : Meaning S V) (old : View S V) (id : ℕ) (new : View S V) : Type 0 where
  crashes : (acceptor now : AcceptorView S) → IsAt old.acceptors id acceptor → CrashesShelf m.shelves acceptor now → new ≡ with_acceptor old id now → StepCrashAcceptor m old id new

pub data StepRestartAcceptor {S V : Type 0} (m : Meaning S V) (old : View S V) (id : ℕ) (new : View S V) : Type 0 where
  was_up : (acceptor : AcceptorView S) → IsAt old.acceptors id acceptor → acceptor.down ≡ false → new ≡ old → StepRestartAcceptor m old id new
  starts : (acceptor now : AcceptorView S) → IsAt old.acceptors id acceptor → StartsShelf m.shelves acceptor now → new ≡ with_acceptor old id now → StepRestartAcceptor m old id new
  fails : (acceptor now : AcceptorView S) → IsAt old.acceptors id acceptor → FailsToStart m.shelves acceptor now → new ≡ with_acceptor old id now → StepRestartAcceptor m old id new

-- a proposer that is up again works in the era that its vault shows
abbrev pub restarted : {S V : Type 0} → View S V → ℕ → DeskView V → View S V
restarted view id desk = record (with_desk view id desk) { eras = if desk.down then view.eras else slice_set view.eras id (era_shown view.council.plan (era_at view id) (kept_of desk.vault).era) }

pub data StepRestartProposer {S V : Type 0} (m : Meaning S V) (old : View S V) (id : ℕ) (new : View S V) : Type 0 where
  was_up_already : (desk : DeskView V) → IsAt old.desks id desk → desk.down ≡ false → new ≡ old → StepRestartProposer m old id new
  restarts : (desk now : DeskView V) (caller : CallerView) → IsAt old.desks id desk → IsAt old.callers id caller → desk.down ≡ true → Restarts m.disks desk now → new ≡ restarted old id now → StepRestartProposer m old id new

-- ---- all of them
abbrev pub Step : {S V : Type 0} → Meaning S V → View S V → Event → View S V → Type 0
Step m old (Begin caller key program) new = StepBegin m old caller key program new
Step m old (RefuseBegin caller key) new = RefusesCall m old caller key new
Step m old (Turn proposer verdict) new = StepTurn m old proposer verdict new
Step m old (RefuseTurn proposer) new = StepRefuseTurn m old proposer new
Step m old (Propose proposer) new = StepPropose m old proposer new
Step m old (Count proposer) new = StepCount m old proposer new
Step m old (End caller answer) new = StepEnd m old caller answer new
Step m old (Stray index) new = StepStray m old index new
Step m old RefuseStray new = FindsNoRoom m old new
Step m old (CrashAcceptor id) new = StepCrashAcceptor m old id new
Step m old (RestartAcceptor id) new = StepRestartAcceptor m old id new
Step m old (CrashProposer proposer) new = StepCrashProposer m old proposer new
Step m old (RestartProposer proposer) new = StepRestartProposer m old proposer new
Step m old (Order asked) new = StepOrder old asked new
Step m old RefuseOrder new = new ≡ old
Step m old (Tell answer) new = StepTell old answer new
Step m old (AskAll question) new = StepAskAll m old question new
Step m old (TurnExchange verdict) new = StepTurnExchange m old verdict new
Step m old RefuseTurnExchange new = StepRefuseTurnExchange m old new
Step m old Gather new = StepGather old new
Step m old RefuseKey new = StepRefuseKey old new
Step m old OpenPlan new = StepOpenPlan m old new
Step m old (EnterEra proposer) new = StepEnterEra m old proposer new
Step m old (BeginCollect key) new = StepBeginCollect m (λ before after. StepBegin m before 0 key keep_always after) old key new
Step m old ReadHeld new = StepReadHeld m old new
Step m old CountCollect new = StepCountCollect (λ before after. StepCount m before 0 after) old new
Step m old (EndCollect answer) new = StepEndCollect (λ before after. StepEnd m before 0 answer after) old answer new
Step m old GatherRound new = StepGatherRound old new
Step m old (Renew proposer) new = StepRenew m old proposer new
Step m old AskCollect new = StepAskCollect m old new
Step m old GatherCollect new = StepGatherCollect old new
Step m old MakeFloor new = StepMakeFloor old new

-- ---- the beginning
-- it is up and keeps nothing, or never started
pub record IsFreshAcceptor {S V : Type 0} (m : Meaning S V) (id : ℕ) (acceptor : AcceptorView S) : Type 0 where
  pub same_id : acceptor.id ≡ id
  pub started : acceptor.down ≡ false → acceptor.started ≡ true
  pub keeps : acceptor.down ≡ false → m.shelves.contents acceptor.shelf ≡ nothing
  pub lasts : m.shelves.tells → acceptor.down ≡ false → OnlyLeaves (m.shelves.contents acceptor.shelf) (m.shelves.may_leave acceptor.shelf)
  pub not_started : acceptor.down ≡ true → acceptor.started ≡ false

-- it holds no promise and has no open round, and its vault is in era 0
pub record IsFreshDesk {S V : Type 0} (m : Meaning S V) (id : ℕ) (desk : DeskView V) : Type 0 where
  pub same_id : desk.id ≡ id
  pub in_era : m.disks.tells → VaultKeepsEra m.disks 0 0 desk.vault
  pub no_promise : desk.cache ≡ []
  pub none_open : desk.round ≡ None

-- nothing has happened yet
pub record IsOpening {S V : Type 0} (m : Meaning S V) (members : List ℕ) (view : View S V) : Type 0 where
  pub eras : view.eras ≡ replicate 17 (majority_era 0 members)
  pub few : view.last_proposer ≤ 16
  pub member_set : IsMemberSet members
  pub some : 0 < length members
  pub few_members : length members ≤ 9
  pub acceptors : (id : ℕ) (acceptor : AcceptorView S) → IsAt view.acceptors id acceptor → IsFreshAcceptor m id acceptor
  pub desks : (id : ℕ) (desk : DeskView V) → IsAt view.desks id desk → (id ≤ view.last_proposer) × IsFreshDesk m id desk
  pub callers : (id : ℕ) (caller : CallerView) → IsAt view.callers id caller → caller ≡ new_caller
  pub council : view.council ≡ opening_council members
  pub flow : view.flow ≡ empty_flow
  pub marks : view.marks ≡ []

-- all that was done with a cluster, from its opening on
pub data History {S V : Type 0} (m : Meaning S V) (members : List ℕ) : View S V → Type 0 where
  opens : (view : View S V) → IsOpening m members view → History m members view
  -- or it opened on what stood before
  opens_on : (used : List ℕ) (floors : List Opening) (view : View S V) → IsOpeningOn m members used floors view → History m members view
  steps : (old : View S V) (event : Event) (new : View S V) → History m members old → Step m old event new → History m members new
