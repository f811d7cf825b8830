-- What members agree on of a key that is read, and what is marked of it.
use Rattle.std.specs.Prelude.{◌≡◌, ◌++◌, ℕ, Bool, true, false, List, [], ◌∷◌, map, Option, Some}
use Rattle.cas_ballot.specs.declared.ballot.Ballot.{Ballot}
use Rattle.cas_ballot.specs.Ballot.{BallotLess}
use Rattle.cas_ballot.specs.Members.{members_where}
use Rattle.cas_quorum.specs.declared.era.Era.{Era}
use Rattle.cas_quorum.specs.Era.{holds_prep, holds_acc}
use Rattle.cas_slot.specs.declared.message.Tell.{Tell}
use Rattle.cas_slot.specs.declared.message.Tell.TheVariants as tell
use Rattle.cas_slot.specs.declared.slot.Accepted.{Accepted}
use Rattle.cas_slot.specs.Slot.{accepted_ballot}
use Rattle.cas_record.specs.declared.mark.Mark.{Mark}
use Rattle.cas_record.specs.declared.mark.Mark.TheVariants.{Voted, Acked}
use Rattle.cas_record.specs.declared.operator.Probe.{Probe as Answered}
use Rattle.cas_record.specs.Histories.Chain.{is_ballot, top_of}
use Rattle.cas_protocol.specs.Reads.{acknowledgment_of}
use Rattle.cas_model.specs.Eras.Listings.{told_by}
use Rattle.cas_model.specs.View.{IsAt}

-- ---- what they agree on
-- whether it told that it accepted this ballot; zero is the ballot of one that accepted nothing
abbrev pub tells_ballot : Ballot → Option Tell → Bool
tells_ballot ballot (Some (tell.Probed promise accepted)) = is_ballot (accepted_ballot accepted) ballot
tells_ballot ballot other = false

-- the acceptors that did
abbrev pub holders_of : Ballot → List Answered → List ℕ
holders_of ballot found = members_where (λ acceptor. tells_ballot ballot (told_by found acceptor))

-- a prepare quorum and an accept quorum of the era told this ballot
pub record AgreeAt (era : Era) (found : List Answered) (ballot : Ballot) : Type 0 where
  pub prepares : holds_prep era (holders_of ballot found) ≡ true
  pub accepts : holds_acc era (holders_of ballot found) ≡ true

-- One of them told what it accepted, in that era.
pub record AgreeOn (era : Era) (found : List Answered) (accepted : Accepted) : Type 0 where
  pub agree : AgreeAt era found accepted.ballot
  pub place : ℕ
  pub one : Answered
  pub at : IsAt found place one
  pub promise : Ballot
  pub told : one.told ≡ Some (tell.Probed promise (Some accepted))
  pub in_era : accepted.era ≡ era.number

-- ---- what is marked of it
-- the vote of each of them, and that what they accepted is acknowledged by them
abbrev pub marks_of_holders : List ℕ → Accepted → List ℕ → List Mark
marks_of_holders key accepted by = map (λ acceptor. Voted acceptor key accepted.ballot) by ++ Acked (acknowledgment_of key accepted by) ∷ []

-- If they agree on a ballot above the last that settled, it is acknowledged. Otherwise nothing is marked.
pub data MarksRead (era : Era) (key : List ℕ) (found : List Answered) (older marks : List Mark) : Type 0 where
  counted : (accepted : Accepted) → AgreeOn era found accepted → BallotLess (top_of key older) accepted.ballot → marks ≡ marks_of_holders key accepted (holders_of accepted.ballot found) → MarksRead era key found older marks
  nothing : ((accepted : Accepted) → AgreeOn era found accepted → BallotLess (top_of key older) accepted.ballot → ⊥) → marks ≡ [] → MarksRead era key found older marks
