-- What a change does to a world: the calls that it makes, one after another.
use Rattle.std.specs.Prelude.{◌≡◌, ◌-◌, ◌<◌, ℕ, Bool, true, false, Some, List, []}
use Rattle.cas_change.specs.declared.program.Clause.{Clause}
use Rattle.cas_fate.specs.declared.fate.Verdict.{Verdict}
use Rattle.cas_flow.specs.Flow.{queue_at}
use Rattle.cas_flow.specs.Message.{head_of}
use Rattle.cas_flow.specs.declared.message.Message.{Message}
use Rattle.cas_proposer.specs.Desk.{DeskView}
use Rattle.cas_proposer.specs.Round.{has_quorum, is_preparing}
use Rattle.cas_proposer.specs.declared.round.Round.{Round}
use Rattle.cas_record.specs.declared.answer.Answer.{Answer}
use Rattle.cas_record.specs.declared.answer.Answer.TheVariants.{RecordFull, NoMemory}
use Rattle.cas_model.specs.Step.{Step, Begin, RefuseBegin, Turn, RefuseTurn, Propose, Count, End, CrashProposer}
use Rattle.cas_model.specs.Stops.Step.{OpenCallAt}
use Rattle.cas_model.specs.Calls.Step.{HasRoom, IsFull, WasMet, round_marks}
use Rattle.cas_model.specs.View.{Meaning, View, IsAt, era_at}
use Rattle.casreg_script.specs.Frames.Conditions.{NetworkView, DecidesVerdict, is_to_repeat}
use Rattle.casreg_script.specs.Frames.Strays.{LetsStrayIn}
use Rattle.casreg_script.specs.declared.halt.Halt.{Halt}

-- ---- turns
-- Turns were made, each on the first frame of the proposer, of which became what the network decided once it had let a late frame in, if it
-- did. Told is what decides then, and whether the frame in front is to have its second turn.
pub data Turned {S V : Type 0} (m : Meaning S V) (by : NetworkView) (id : ℕ) (old : View S V) : NetworkView → Bool → View S V → Type 0 where
  none : Turned m by id old by false old
  one_more : {before between after : NetworkView} {again : Bool} {verdict : Verdict} {mid near new : View S V} (frame : Message) → Turned m by id old before again mid → LetsStrayIn m before mid between near → IsAt (queue_at near.flow id).messages 0 frame
      → DecidesVerdict (head_of frame) between again verdict after → Step m near (Turn id verdict) new → Turned m by id old after (is_to_repeat again verdict) new

-- until none waits
pub record AllTurned {S V : Type 0} (m : Meaning S V) (by : NetworkView) (id : ℕ) (old : View S V) (next : NetworkView) (new : View S V) : Type 0 where
  pub again : Bool
  pub turned : Turned m by id old next again new
  pub none_waits : (queue_at new.flow id).messages ≡ []

-- after some turns one found no memory
pub record FailsToTurn {S V : Type 0} (m : Meaning S V) (by : NetworkView) (id : ℕ) (old : View S V) (next : NetworkView) (new : View S V) : Type 0 where
  pub before : NetworkView
  pub again : Bool
  pub mid : View S V
  pub turned : Turned m by id old before again mid
  pub between : NetworkView
  pub near : View S V
  pub lets_in : LetsStrayIn m before mid between near
  pub frame : Message
  pub waits : IsAt (queue_at near.flow id).messages 0 frame
  pub verdict : Verdict
  pub decides : DecidesVerdict (head_of frame) between again verdict next
  pub fails : Step m near (RefuseTurn id) new

-- ---- the prepare phase
-- a quorum confirmed in the open phase of the proposer's round
pub record HasQuorum {S V : Type 0} (view : View S V) (id : ℕ) : Type 0 where
  pub desk : DeskView V
  pub at_desk : IsAt view.desks id desk
  pub round : Round
  pub is_round : desk.round ≡ Some round
  pub quorum : has_quorum round.phase ≡ true

-- the proposer is to halt after the prepare phase, and does so now that the phase has a quorum
abbrev pub Strikes : {S V : Type 0} → Halt → View S V → ℕ → Type 0
Strikes halt view id = (halt.after_prepare ≡ true) × HasQuorum view id

-- all turns were made, no halt struck, and the phase was ended so: it proposed, or its caller was told why not
pub record EndsPrepareBy {S V : Type 0} (Ends : View S V → View S V → Type 0) (m : Meaning S V) (by : NetworkView) (id : ℕ) (halt : Halt) (old : View S V) (next : NetworkView) (new : View S V) : Type 0 where
  pub turned : View S V
  pub turns : AllTurned m by id old next turned
  pub goes_on : Strikes halt turned id → ⊥
  pub proposes : Ends turned new

-- it is cut off before that: a turn finds no memory, or the proposer halts
pub data IsCutOff {S V : Type 0} (m : Meaning S V) (by : NetworkView) (id : ℕ) (halt : Halt) (old : View S V) : NetworkView → Halt → View S V → Type 0 where
  no_memory : {next : NetworkView} {new : View S V} → FailsToTurn m by id old next new → IsCutOff m by id halt old next halt new
  halts : {next : NetworkView} {turned new : View S V} → AllTurned m by id old next turned → Strikes halt turned id → Step m turned (CrashProposer id) new → IsCutOff m by id halt old next (record halt { after_prepare = false }) new

-- ---- the accept phase
pub record IsInAcceptPhase {S V : Type 0} (view : View S V) (id : ℕ) : Type 0 where
  pub desk : DeskView V
  pub at_desk : IsAt view.desks id desk
  pub round : Round
  pub is_round : desk.round ≡ Some round
  pub accepting : is_preparing round.phase ≡ false

-- it is cut off before it is counted: right after the proposal the proposer halts, if it is to, and its frames join the late ones; or a turn
-- finds no memory
pub data IsCutShort {S V : Type 0} (m : Meaning S V) (by : NetworkView) (id : ℕ) (halt : Halt) (old : View S V) : NetworkView → Halt → View S V → Type 0 where
  halts : {new : View S V} → IsInAcceptPhase old id → halt.after_propose ≡ true → Step m old (CrashProposer id) new → IsCutShort m by id halt old by (record halt { after_propose = false }) new
  no_memory : {next : NetworkView} {new : View S V} → halt.after_propose ≡ false → FailsToTurn m by id old next new → IsCutShort m by id halt old next halt new

-- so it is, or all turns are made and what was accepted is counted
pub data IsAcceptedBy {S V : Type 0} (Counts : View S V → View S V → Type 0) (m : Meaning S V) (by : NetworkView) (id : ℕ) (halt : Halt) (old : View S V) : NetworkView → Halt → View S V → Type 0 where
  cut_short : {next : NetworkView} {after : Halt} {new : View S V} → IsCutShort m by id halt old next after new → IsAcceptedBy Counts m by id halt old next after new
  counts : {next : NetworkView} {turned new : View S V} → halt.after_propose ≡ false → AllTurned m by id old next turned → Counts turned new → IsAcceptedBy Counts m by id halt old next halt new

-- ---- a round
-- the round that was begun, up to what its caller was told. A call that was told as it began why it has no round has none.
pub data IsRoundBy {S V : Type 0} (Ends Counts : View S V → View S V → Type 0) (m : Meaning S V) (by : NetworkView) (id : ℕ) (halt : Halt) (old : View S V) : NetworkView → Halt → View S V → Type 0 where
  none_begun : IsRoundBy Ends Counts m by id halt old by halt old
  -- it began by a promise, and proposed as it began
  by_promise : {next : NetworkView} {after : Halt} {new : View S V} → IsAcceptedBy Counts m by id halt old next after new → IsRoundBy Ends Counts m by id halt old next after new
  cut_off : {next : NetworkView} {after : Halt} {new : View S V} → IsCutOff m by id halt old next after new → IsRoundBy Ends Counts m by id halt old next after new
  ends_short : {next : NetworkView} {new : View S V} → EndsPrepareBy Ends m by id halt old next new → IsRoundBy Ends Counts m by id halt old next halt new
  proposes : {between next : NetworkView} {after : Halt} {proposed new : View S V} → EndsPrepareBy Ends m by id halt old between proposed → IsAcceptedBy Counts m between id halt proposed next after new → IsRoundBy Ends Counts m by id halt old next after new

-- the caller's open call was told of a conflict
pub record IsMet {S V : Type 0} (view : View S V) (id : ℕ) : Type 0 where
  pub of_call : OpenCallAt view id
  pub met : WasMet of_call.call.told

-- so many rounds at most: another one is begun exactly where the last one ended with a conflict and tries are left
pub data AreRoundsBy {S V : Type 0} (Begins Ends Counts : View S V → View S V → Type 0) (m : Meaning S V) (id : ℕ) : ℕ → NetworkView → Halt → View S V → NetworkView → Halt → View S V → Type 0 where
  last : {tries : ℕ} {by next : NetworkView} {halt after : Halt} {old new : View S V} → IsRoundBy Ends Counts m by id halt old next after new → (IsMet new id → tries ≡ 1) → AreRoundsBy Begins Ends Counts m id tries by halt old next after new
  another : {tries : ℕ} {by between next : NetworkView} {halt mid after : Halt} {old met begun new : View S V} → 1 < tries → IsRoundBy Ends Counts m by id halt old between mid met → IsMet met id → Begins met begun
      → AreRoundsBy Begins Ends Counts m id (tries - 1) between mid begun next after new → AreRoundsBy Begins Ends Counts m id tries by halt old next after new

-- ---- the rounds of a change
abbrev pub ProposesAt : {S V : Type 0} → Meaning S V → ℕ → View S V → View S V → Type 0
ProposesAt m id old new = Step m old (Propose id) new

abbrev pub CountsAt : {S V : Type 0} → Meaning S V → ℕ → View S V → View S V → Type 0
CountsAt m id old new = Step m old (Count id) new

abbrev pub EndsPrepare : {S V : Type 0} → Meaning S V → NetworkView → ℕ → Halt → View S V → NetworkView → View S V → Type 0
EndsPrepare m by id = EndsPrepareBy (ProposesAt m id) m by id

abbrev pub EndsAcceptPhase : {S V : Type 0} → Meaning S V → NetworkView → ℕ → Halt → View S V → NetworkView → Halt → View S V → Type 0
EndsAcceptPhase m by id = IsAcceptedBy (CountsAt m id) m by id

abbrev pub IsRound : {S V : Type 0} → Meaning S V → NetworkView → ℕ → Halt → View S V → NetworkView → Halt → View S V → Type 0
IsRound m by id = IsRoundBy (ProposesAt m id) (CountsAt m id) m by id

abbrev pub AreRounds : {S V : Type 0} → Meaning S V → ℕ → List ℕ → List Clause → ℕ → NetworkView → Halt → View S V → NetworkView → Halt → View S V → Type 0
AreRounds m id key program = AreRoundsBy (λ before after. Step m before (Begin id key program) after) (ProposesAt m id) (CountsAt m id) m id

-- ---- a change
-- the answers of a call that is not begun: the record is full, exactly where the marks of a round do not fit beside those that are made
-- and those that other calls reserved, or there was no memory
pub data IsRefused {S V : Type 0} (world : View S V) (id : ℕ) : Answer → Type 0 where
  full : IsFull world id → IsRefused world id RecordFull
  no_memory : HasRoom world id (round_marks (era_at world id)) → IsRefused world id (NoMemory false)

-- a change as the caller's next call, with its answer
pub data IsChange {S V : Type 0} (m : Meaning S V) (tries : ℕ) (by : NetworkView) (id : ℕ) (key : List ℕ) (program : List Clause) (halt : Halt) (old : View S V) : Answer → NetworkView → Halt → View S V → Type 0 where
  -- it is not begun, and no mark is made
  refused : {answer : Answer} {new : View S V} → IsRefused old id answer → Step m old (RefuseBegin id key) new → IsChange m tries by id key program halt old answer by halt new
  -- it is begun, has its rounds, and ends with the answer that it was told
  ended : {begun told new : View S V} {next : NetworkView} {after : Halt} {answer : Answer} → Step m old (Begin id key program) begun → AreRounds m id key program tries by halt begun next after told → Step m told (End id answer) new
      → IsChange m tries by id key program halt old answer next after new
