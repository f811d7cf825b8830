-- Whose each mark of the record is, and which marks one hold may add.
use Rattle.std.specs.Prelude.{◌≡◌, ⊤, ℕ, Bool, true, false, List, [], ◌∷◌, All, Option, None, Some}
use Rattle.cas_record.specs.declared.mark.Mark.{Mark}
use Rattle.cas_record.specs.declared.mark.Mark.TheVariants.{Begun, Proposed, Voted, Acked, Floor, EraEntered, Ended, Harmed, Told}

-- the caller that it bears; a floor, and what an operator was answered, is caller 0's
abbrev pub owner_of : Mark → Option ℕ
owner_of (Begun caller call key program) = Some caller
owner_of (Proposed p) = Some p.caller
owner_of (Voted acceptor key ballot) = None
owner_of (Acked a) = None
owner_of (Floor key ballot state) = Some 0
owner_of (EraEntered proposer number) = None
owner_of (Ended caller call rounds answer) = Some caller
owner_of (Harmed caller call down) = Some caller
owner_of (Told asked answer) = Some 0

-- it tells what a call was answered
abbrev pub is_answer : Mark → Bool
is_answer (Ended caller call rounds answer) = true
is_answer (Told asked answer) = true
is_answer other = false

-- in one hold nothing follows a proposal, and no answer a vote
abbrev pub MayFollow : Mark → List Mark → Type 0
MayFollow (Proposed p) later = later ≡ []
MayFollow (Voted acceptor key ballot) later = All (λ mark. is_answer mark ≡ false) later
MayFollow other later = ⊤

abbrev pub MayAdd : List Mark → Type 0
MayAdd [] = ⊤
MayAdd (mark ∷ later) = MayFollow mark later × MayAdd later
