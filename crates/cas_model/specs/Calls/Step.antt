-- What the calls of a caller do: a call begins or goes on with another round, proposes, is counted and ended.
use Rattle.std.specs.Prelude.{◌*◌, ◌<◌, ◌≤◌, length, drop, slice_get, slice_set, ◌≡◌, ◌⊎◌, ⊤, ℕ, suc, ◌+◌, ◌-◌, ◌^◌, min, true, false, List, [], ◌∷◌, ◌++◌, map, Option, None, Some}
use Rattle.cas_ballot.specs.declared.ballot.Ballot.{Ballot}
use Rattle.cas_ballot.specs.Members.{union_of}
use Rattle.cas_cache.specs.declared.ready.Ready.{Ready}
use Rattle.cas_change.specs.declared.outcome.Outcome.{Outcome}
use Rattle.cas_change.specs.declared.program.Clause.{Clause}
use Rattle.cas_change.specs.declared.state.State.{State}
use Rattle.cas_change.specs.Outcome.{outcome_of}
use Rattle.cas_flow.specs.Flow.{FlowView, queue_at, abandoned}
use Rattle.cas_flow.specs.declared.message.Message.{Message}
use Rattle.cas_flow.specs.declared.message.Message.TheVariants as message
use Rattle.cas_proposer.specs.Desk.{DeskView}
use Rattle.cas_members.specs.declared.plan.PlanStep.TheVariants.{Settle}
use Rattle.cas_members.specs.Plan.{next_of}
use Rattle.cas_proposer.specs.Round.{has_quorum, IsReadOf, IsVerdictOf, IsConfirmersOf}
use Rattle.cas_proposer.specs.declared.round.Round.{Round}
use Rattle.cas_quorum.specs.declared.era.Era.{Era}
use Rattle.cas_round.specs.declared.verdict.RoundVerdict.{RoundVerdict}
use Rattle.cas_round.specs.declared.verdict.RoundVerdict.TheVariants as verdict
use Rattle.cas_slot.specs.declared.message.Ask.TheVariants as ask
use Rattle.cas_slot.specs.declared.slot.Accepted.{Accepted}
use Rattle.cas_slot.specs.Slot.{accepted_ballot}
use Rattle.cas_cache.specs.Entries.{promise_at, without}
use Rattle.cas_vault.specs.Vault.{counter_of, kept_of}
use Rattle.cas_record.specs.declared.answer.Answer.{Answer}
use Rattle.cas_record.specs.declared.answer.Answer.TheVariants as answer
use Rattle.cas_record.specs.declared.answer.Cause.{Cause}
use Rattle.cas_record.specs.declared.answer.Cause.TheVariants as cause
use Rattle.cas_record.specs.declared.mark.Mark.TheVariants.{Begun, Proposed, Acked, Ended}
use Rattle.cas_record.specs.declared.mark.Proposal.{Proposal}
use Rattle.cas_record.specs.declared.operator.OpAnswer.TheVariants.{Stopped}
use Rattle.cas_model.specs.Council.{ListingView, OrderView, PlanView, Council, with_listing, reserved_by, telling as telling_operator}
use Rattle.cas_protocol.specs.Protocol.{is_done}
use Rattle.cas_protocol.specs.Proposers.{state_read}
use Rattle.cas_model.specs.Calls.Desks.{BeginsToPrepare, BeginsByPromise, TurnsWith, EndsRound, FailsToDraw, LosesMemory, HasKept}
use Rattle.cas_model.specs.View.{Meaning, CallView, CallerView, View, IsAt, era_at, new_call, new_caller, reserved_of, with_desk, with_caller, with_marks}

-- ---- frames that are sent
-- the proposer's own frames are followed by these, and no other frame moves
pub record Sends (old : FlowView) (proposer : ℕ) (messages : List Message) (new : FlowView) : Type 0 where
  pub own : (queue_at new proposer).messages ≡ (queue_at old proposer).messages ++ messages
  pub again : (queue_at new proposer).again ≡ (queue_at old proposer).again
  pub others : (id : ℕ) → (id ≡ proposer → ⊥) → queue_at new id ≡ queue_at old id
  pub late : new.late ≡ old.late
  pub queues : length new.own ≡ length old.own
  -- there is room for as many replies again
  pub room : length messages ≤ (queue_at new proposer).room

-- each of these acceptors is asked to prepare, and each to accept
abbrev pub prepares_to : ℕ → ℕ → List ℕ → Ballot → List ℕ → List Message
prepares_to proposer age key ballot members = map (λ to. message.Request (record { to = to; from = proposer; age = age; ask = ask.Prepare key ballot })) members

abbrev pub accepts_to : ℕ → ℕ → List ℕ → Ballot → ℕ → Option Ballot → State → List ℕ → List Message
accepts_to proposer age key ballot era ride state members =
    map (λ to. message.Request (record { to = to; from = proposer; age = age; ask = ask.Accept key ballot era ride state })) members

-- ---- a call begins
-- how many marks a record holds, and how many a round reserves
abbrev pub most_marks : ℕ
most_marks = 1000000

abbrev pub round_marks : Era → ℕ
round_marks era = 4 * length (union_of era.prep era.acc) + 8

-- how many that is at most, where no more than nine members prepare or accept
abbrev pub most_round_marks : ℕ
most_round_marks = 44

-- another round reserves one at least, and no more than a first one
abbrev pub IsForRound : {S V : Type 0} → View S V → ℕ → ℕ → Type 0
IsForRound view id reserved = (0 < reserved) × (reserved ≤ round_marks (era_at view id))

-- how many marks are made or reserved by others
abbrev pub marks_beside : {S V : Type 0} → View S V → ℕ → ℕ
marks_beside view id = length view.marks + reserved_of (slice_set view.callers id new_caller) + reserved_by view.council

-- so many may be reserved for the caller's call beside them
abbrev pub HasRoom : {S V : Type 0} → View S V → ℕ → ℕ → Type 0
HasRoom view id reserved = marks_beside view id + reserved ≤ most_marks

-- the round's marks do not fit beside them
abbrev pub IsFull : {S V : Type 0} → View S V → ℕ → Type 0
IsFull view id = most_marks < marks_beside view id + round_marks (era_at view id)

-- a new call, with its mark
abbrev pub opened : {S V : Type 0} → View S V → ℕ → CallerView → List ℕ → List Clause → View S V
opened view id caller key program =
    with_marks (with_caller view id (record { number = suc caller.number; call = Some (new_call key program (round_marks (era_at view id) - 1)) })) (Begun id (suc caller.number) key program ∷ [])

-- the caller's open call is this
abbrev pub with_call : {S V : Type 0} → View S V → ℕ → CallerView → CallView → View S V
with_call view id caller call = with_caller view id (record caller { call = Some call })

-- a count goes on by one, and stands still at its end
abbrev pub one_more : ℕ → ℕ
one_more count = min (count + 1) (2 ^ 32 - 1)

-- another round of the open one, for which nothing was proposed
abbrev pub tried_again : CallView → ℕ → CallView
tried_again call reserved = record call { rounds = one_more call.rounds; reserved = reserved; harmed = []; told = None; is_closed = false }

-- the last round ended with a conflict
abbrev pub WasMet : Option Answer → Type 0
WasMet (Some (answer.Conflict met)) = ⊤
WasMet other = ⊥

pub data Opens {S V : Type 0} (old : View S V) (id : ℕ) (key : List ℕ) (program : List Clause) (new : View S V) : Type 0 where
  first : (caller : CallerView) → IsAt old.callers id caller → caller.call ≡ None → HasRoom old id (round_marks (era_at old id)) → new ≡ opened old id caller key program → Opens old id key program new
  again : (caller : CallerView) (call : CallView) (reserved : ℕ) → IsAt old.callers id caller → caller.call ≡ Some call → call.key ≡ key → call.program ≡ program → call.proposed ≡ None → WasMet call.told
      → ((desk : DeskView V) → IsAt old.desks id desk → desk.round ≡ None) → HasRoom old id reserved → IsForRound old id reserved → new ≡ with_call old id caller (tried_again call reserved) → Opens old id key program new

-- ---- the caller is told something
abbrev pub telling : CallView → Answer → CallView
telling call answer = record call { told = Some answer }

-- its round is over, and it is told this: of the marks that were reserved that of its end is left
abbrev pub over : CallView → Answer → CallView
over call answer = record call { told = Some answer; reserved = 1 }

-- why a round could not begin
abbrev pub IsNoBeginning : Answer → Type 0
IsNoBeginning answer.Down = ⊤
IsNoBeginning answer.RecordFull = ⊤
IsNoBeginning (answer.NoMemory proposed) = proposed ≡ false
IsNoBeginning other = ⊥

-- ---- a proposal
abbrev pub proposing : CallView → Outcome → CallView
proposing call outcome = record call { reserved = call.reserved - 1; proposed = Some outcome; harmed = []; told = None }

abbrev pub proposal_of : ℕ → ℕ → Round → Ballot → List ℕ → Proposal
proposal_of caller call round read by = record { caller = caller; call = call; key = round.key; ballot = round.ballot; read = read; era = round.era.number; prepared_by = by }

-- the outcome is proposed at the round's ballot, and each member that accepts is asked to
abbrev pub proposed_view : {S V : Type 0} → View S V → ℕ → CallerView → CallView → DeskView V → FlowView → Proposal → Outcome → View S V
proposed_view view id caller call desk flow p outcome =
    with_marks (record (with_call (with_desk view id desk) id caller (proposing call outcome)) { flow = flow }) (Proposed p ∷ [])

-- ---- a key is proposed anew
-- The key is the first of those that are listed of the era that the operator's call is to settle, and caller 0 proposes it anew.
pub record IsRescan (council : Council) (id : ℕ) (key : List ℕ) : Type 0 where
  pub by_operator : id ≡ 0
  pub order : OrderView
  pub is_open : council.order ≡ Some order
  pub plan : PlanView
  pub is_plan : council.plan ≡ Some plan
  pub is_for : plan.asked ≡ order.asked
  pub settles : next_of plan.progress.left ≡ Settle
  pub listing : ListingView
  pub is_listing : plan.listing ≡ Some listing
  pub complete : listing.complete ≡ true
  pub first : slice_get listing.keys 0 ≡ Some key

-- it is counted and no longer listed
abbrev pub rescanned_by : PlanView → ListingView → PlanView
rescanned_by plan listing = with_listing (record plan { rescanned = one_more plan.rescanned }) (record listing { keys = drop 1 listing.keys })

-- By what the caller was told: the key is done, or the operator's call is told that it stopped, and why.
pub data Rescans (old : Council) (id : ℕ) (key : List ℕ) (answer : Answer) (new : Council) : Type 0 where
  rescans : (of : IsRescan old id key) → is_done answer ≡ true → new ≡ record old { plan = Some (rescanned_by of.plan of.listing) } → Rescans old id key answer new
  stops : IsRescan old id key → is_done answer ≡ false → new ≡ telling_operator old (Stopped answer) → Rescans old id key answer new
  is_none : (IsRescan old id key → ⊥) → new ≡ old → Rescans old id key answer new

-- ---- a round begins
-- at a ballot that is drawn; by a promise, and then what its program makes of the promised state is proposed at once; or not at all
pub data BeginsRound {S V : Type 0} (m : Meaning S V) (old : View S V) (id : ℕ) (caller : CallerView) (call : CallView) (new : View S V) : Type 0 where
  prepares : (desk now : DeskView V) (ballot : Ballot) (round : Round) (flow : FlowView) → IsAt old.desks id desk → desk.down ≡ false → round_marks (era_at old id) ≤ suc call.reserved
      → BeginsToPrepare m.disks (era_at old id) call.key desk now ballot round
      → Sends old.flow id (prepares_to id (kept_of desk.vault).age call.key ballot (era_at old id).prep) flow
      → new ≡ record (with_desk old id now) { flow = flow } → BeginsRound m old id caller call new
  proposes : (desk now : DeskView V) (ready : Ready) (ride : Option Ballot) (round : Round) (outcome : Outcome) (flow : FlowView) → IsAt old.desks id desk → desk.down ≡ false → round_marks (era_at old id) ≤ suc call.reserved
      → BeginsByPromise m.disks (era_at old id) call.key desk now ready ride round → outcome ≡ outcome_of call.program ready.state
      → Sends old.flow id (accepts_to id (kept_of desk.vault).age round.key round.ballot round.era.number ride outcome.state round.era.acc) flow
      → new ≡ proposed_view old id caller call now flow (proposal_of id caller.number round ready.read ready.by) outcome → BeginsRound m old id caller call new
  stays : (told : Answer) → IsNoBeginning told → ((desk : DeskView V) → IsAt old.desks id desk → (desk.round ≡ None) × (told ≡ answer.Down → desk.down ≡ true)) → (told ≡ answer.RecordFull → IsFull old id × (suc call.reserved < round_marks (era_at old id))) → new ≡ with_call old id caller (over call told)
      → BeginsRound m old id caller call new
  spent : (desk now : DeskView V) → IsAt old.desks id desk → desk.round ≡ None → desk.down ≡ false → promise_at call.key desk.cache ≡ None → counter_of desk.vault ≡ 2 ^ 48 → HasKept m.disks desk.vault now.vault → now ≡ record desk { vault = now.vault }
      → new ≡ with_call (with_desk old id now) id caller (over call answer.Spent) → BeginsRound m old id caller call new
  fails : (desk now : DeskView V) → IsAt old.desks id desk → desk.round ≡ None → desk.down ≡ false → FailsToDraw m.disks (without call.key desk.cache) desk now
      → new ≡ with_call (with_desk old id now) id caller (over call answer.VaultFault) → BeginsRound m old id caller call new
  loses : (desk now : DeskView V) (ballot : Option Ballot) → IsAt old.desks id desk → desk.round ≡ None → desk.down ≡ false
      → LosesMemory m.disks call.key desk now ballot → new ≡ with_call (with_desk old id now) id caller (over call (answer.NoMemory false)) → BeginsRound m old id caller call new

-- why a new call is refused: the marks of its round do not fit, or there is no memory
abbrev pub IsRefusal : {S V : Type 0} → View S V → ℕ → Answer → Type 0
IsRefusal view id told = ((told ≡ answer.RecordFull) × IsFull view id) ⊎ (told ≡ answer.NoMemory false)

-- A new call is refused, and no mark is made: all is as before, but for what was lost with the memory. Where it would have proposed a key
-- anew, the operator's call is told so.
pub data RefusesCall {S V : Type 0} (m : Meaning S V) (old : View S V) (id : ℕ) (key : List ℕ) (new : View S V) : Type 0 where
  stays : (told : Answer) (council : Council) → IsRefusal old id told → Rescans old.council id key told council → new ≡ record old { council = council } → RefusesCall m old id key new
  loses : (caller : CallerView) (desk now : DeskView V) (ballot : Option Ballot) (council : Council) → IsAt old.callers id caller → IsAt old.desks id desk → desk.round ≡ None → desk.down ≡ false
      → LosesMemory m.disks key desk now ballot → Rescans old.council id key (answer.NoMemory false) council → new ≡ record (with_desk old id now) { council = council } → RefusesCall m old id key new

-- ---- a round goes on
-- how a phase without a quorum ends a call that proposed nothing, and one that did
abbrev pub refusal_by : RoundVerdict → Option Answer
refusal_by verdict.Quorum = None
refusal_by (verdict.Met ballot) = Some (answer.Conflict ballot)
refusal_by (verdict.Aged least) = Some (answer.Aged least)
refusal_by (verdict.Full acceptor) = Some (answer.Full acceptor)
refusal_by (verdict.Short got need) = Some (answer.Short got need)

abbrev pub cause_by : RoundVerdict → Option Cause
cause_by verdict.Quorum = None
cause_by (verdict.Met ballot) = Some (cause.Met ballot)
cause_by (verdict.Aged least) = Some (cause.Aged least)
cause_by (verdict.Full acceptor) = Some (cause.Full acceptor)
cause_by (verdict.Short got need) = Some (cause.Short got need)

-- what the program makes of what was read is proposed, once the prepare phase has a quorum; without one the round ends and its caller is
-- told why; and it ends where no ballot can be drawn to ride, or no memory is found
pub data ProposesOrEnds {S V : Type 0} (m : Meaning S V) (old : View S V) (id : ℕ) (desk : DeskView V) (round : Round) (caller : CallerView) (call : CallView) (new : View S V) : Type 0 where
  proposes : (now : DeskView V) (turned : Round) (read : Option Accepted) (by : List ℕ) (ride : Option Ballot) (outcome : Outcome) (flow : FlowView)
      → has_quorum round.phase ≡ true → IsConfirmersOf round by → IsReadOf round read → TurnsWith m.disks desk now round turned ride → outcome ≡ outcome_of call.program (state_read read)
      → Sends old.flow id (accepts_to id (kept_of desk.vault).age round.key round.ballot round.era.number ride outcome.state round.era.acc) flow
      → new ≡ proposed_view old id caller call now flow (proposal_of id caller.number round (accepted_ballot read) by) outcome → ProposesOrEnds m old id desk round caller call new
  ends : (now : DeskView V) (verdict : RoundVerdict) (answer : Answer) → IsVerdictOf round verdict → refusal_by verdict ≡ Some answer
      → EndsRound m.disks desk now round None → new ≡ with_call (with_desk old id now) id caller (over call answer) → ProposesOrEnds m old id desk round caller call new
  fails : (now : DeskView V) → FailsToDraw m.disks (without round.key desk.cache) desk now
      → new ≡ with_call (with_desk old id now) id caller (over call answer.VaultFault) → ProposesOrEnds m old id desk round caller call new
  loses : (now : DeskView V) (ballot : Option Ballot) → LosesMemory m.disks round.key desk now ballot
      → new ≡ with_call (with_desk old id now) id caller (over call (answer.NoMemory false)) → ProposesOrEnds m old id desk round caller call new

-- the promise that a round offers once it is done: its ballot rode along
abbrev pub offered_by : Round → Option Ballot → State → List ℕ → Option Ready
offered_by round None state by = None
offered_by round (Some ride) state by = Some (record { ballot = ride; state = state; read = round.ballot; by = by })

-- what was proposed is acknowledged, and its caller is told that it is done; or no quorum accepted, and it is told why
pub data CountsOrEnds {S V : Type 0} (m : Meaning S V) (old : View S V) (id : ℕ) (desk : DeskView V) (round : Round) (caller : CallerView) (call : CallView) (new : View S V) : Type 0 where
  counts : (now : DeskView V) (by : List ℕ) (outcome : Outcome) → has_quorum round.phase ≡ true → IsConfirmersOf round by → call.proposed ≡ Some outcome
      → EndsRound m.disks desk now round (offered_by round round.ride outcome.state by)
      → new ≡ with_marks (with_call (with_desk old id now) id caller (over call (answer.Done outcome.state outcome.took round.ballot)))
      (Acked (record { key = round.key; ballot = round.ballot; era = round.era.number; by = by }) ∷ [])
      → CountsOrEnds m old id desk round caller call new
  ends : (now : DeskView V) (verdict : RoundVerdict) (why : Cause) → IsVerdictOf round verdict → cause_by verdict ≡ Some why
      → EndsRound m.disks desk now round None → new ≡ with_call (with_desk old id now) id caller (over call (answer.Unsettled why)) → CountsOrEnds m old id desk round caller call new

-- ---- a call ends
-- with what it was told last; an open round is closed, and its frames join the late ones
pub record EndsCall {S V : Type 0} (m : Meaning S V) (old : View S V) (id : ℕ) (caller : CallerView) (call : CallView) (answer : Answer) (new : View S V) : Type 0 where
  pub told : call.told ≡ Some answer
  pub desk : DeskView V
  pub at_desk : IsAt old.desks id desk
  pub now : DeskView V
  pub closed : ((desk.round ≡ None) × (now ≡ desk)) ⊎ ((round : Round) × (desk.round ≡ Some round) × EndsRound m.disks desk now round None)
  pub council : Council
  pub rescans : Rescans old.council id call.key answer council
  pub view : new ≡ with_marks (record (with_caller (with_desk old id now) id (record caller { call = None })) { flow = abandoned old.flow id; council = council }) (Ended id caller.number call.rounds answer ∷ [])
