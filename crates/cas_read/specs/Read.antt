-- What an operator is answered who reads a key over a board, and that it is so. Fronts are read oldest first.
use Rattle.std.specs.Prelude.{◌≡◌, ◌≢◌, ⊤, ℕ, List, reverse, Result, Ok, Err, IfOk}
use Rattle.cas_ballot.specs.declared.ballot.Ballot.{Ballot}
use Rattle.cas_ballot.specs.Ballot.{zero_ballot}
use Rattle.cas_ballot.specs.Members.{IsMemberSet}
use Rattle.cas_change.specs.declared.state.State.{State}
use Rattle.cas_change.specs.declared.state.State.TheVariants.{Empty}
use Rattle.cas_record.specs.Histories.Chain.{chain_of, settled_of}
use Rattle.cas_record.specs.Histories.Replay.{replay_from, opening_state}
use Rattle.cas_record.specs.Places.{IsPrefix}
use Rattle.cas_record.specs.Reading.{read_of}
use Rattle.cas_record.specs.declared.answer.Answer.{Answer}
use Rattle.cas_record.specs.declared.mark.Mark.{Mark}
use Rattle.cas_record.specs.declared.operator.Asked.TheVariants as asked
use Rattle.cas_record.specs.declared.read_answer.ReadAnswer.{ReadAnswer}
use Rattle.cas_record.specs.declared.read_answer.ReadAnswer.TheVariants.{Value, Stopped}
use Rattle.cas_turn.specs.Sitting.{Sitting}
use Rattle.cas_board_steps.specs.Exchanges.Orders.{IsAgreedIn, IsAskingHarm, IsProbeAnswer, IsTrueProbe}
use Rattle.cas_agreement.specs.Nothing.{IsSettledEmpty}
use Rattle.cas_board.specs.Looks.{told_by_look}
use Rattle.cas_board.specs.Operations.{IsSilentSince, Operates}
use Rattle.cas_board.specs.declared.probing.Look.{Look}

-- ---- what is answered
-- by a look of the key, or by what stopped it
abbrev pub answer_by : List ℕ → Result Look Answer → ReadAnswer
answer_by key (Ok look) = read_of key look.agreement look.found.probes.items
answer_by key (Err why) = Stopped why

-- ---- that it is so
-- The state is what the history up to the ballot leaves. This history goes on from what was settled in the front before, and begins what is
-- settled in all.
pub record IsValueSoOnBoard (before all : List Mark) (key : List ℕ) (state : State) (ballot : Ballot) : Type 0 where
  pub is : state ≡ replay_from (opening_state key (reverse all)) (chain_of key ballot (reverse all))
  pub goes_on : IsPrefix (settled_of key (reverse before)) (chain_of key ballot (reverse all))
  pub begins : IsPrefix (chain_of key ballot (reverse all)) (settled_of key (reverse all))

-- The state is empty, and that is what was settled in the front before leaves.
pub record IsEmptySoOnBoard (before : List Mark) (key : List ℕ) (state : State) : Type 0 where
  pub is : state ≡ Empty
  pub was : IsSettledEmpty key (reverse before)

-- a value at a ballot above zero is that history's, and one at zero is that of an empty register
abbrev pub IsAnswerSo : List Mark → List Mark → ReadAnswer → Type 0
IsAnswerSo before all (Value key state ballot) = (ballot ≢ zero_ballot → IsValueSoOnBoard before all key state ballot) × (ballot ≡ zero_ballot → IsEmptySoOnBoard before key state)
IsAnswerSo before all other = ⊤

-- ---- a read
-- It is answered by a look, with all that is said of what the operator was told.
pub record HasReadByLook {V : Type 0} (tells : Type 0) (key : List ℕ) (harms harms_then : ℕ) (old new : Sitting V Mark) (answer : ReadAnswer) : Type 0 where
  pub looked : Result Look Answer
  pub is : answer ≡ answer_by key looked
  pub operates : Operates (asked.Read key) IsAskingHarm harms harms_then old new (told_by_look key looked)
  pub names : (members : List ℕ) × IsMemberSet members × IsProbeAnswer key members (told_by_look key looked)
  pub silent : IsSilentSince 0 old new (told_by_look key looked)
  pub found : tells → IsTrueProbe old.seen new.seen (told_by_look key looked)
  pub agrees : IfOk looked (λ look. IsAgreedIn tells tells new.seen look.found look.agreement)
