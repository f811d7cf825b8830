-- What members that agree on a key told of it.
use Rattle.std.specs.Prelude.{◌≡◌, ◌≢◌, ◌<◌, ⊤, ℕ, true, List, [], ◌∷◌, map, Some}
use Rattle.cas_ballot.specs.declared.ballot.Ballot.{Ballot}
use Rattle.cas_ballot.specs.Ballot.{zero_ballot}
use Rattle.cas_quorum.specs.declared.era.Era.{Era}
use Rattle.cas_quorum.specs.Era.{Meet}
use Rattle.cas_slot.specs.declared.message.Tell.TheVariants.{Probed}
use Rattle.cas_slot.specs.declared.slot.Accepted.{Accepted}
use Rattle.cas_record.specs.declared.operator.Probe.{Probe}
use Rattle.cas_record.specs.Agreement.{is_agreed, place_of}
use Rattle.cas_model.specs.Exchanges.Read.{AgreeOn}
use Rattle.cas_model.specs.View.{IsAt}

-- those who were asked, in their order
abbrev pub names_of : List Probe → List ℕ
names_of found = map (λ probe. probe.acceptor) found

-- numbers that rise, so that each stands once
abbrev pub Rises : List ℕ → Type 0
Rises [] = ⊤
Rises (x ∷ xs) = ((place y : ℕ) → IsAt xs place y → x < y) × Rises xs

-- the state that is told at the place of this ballot, which is what they agree on
pub record IsToldAt (era : Era) (ballot : Ballot) (found : List Probe) : Type 0 where
  pub place : ℕ
  pub is : place_of era.number ballot found ≡ Some place
  pub one : Probe
  pub at : IsAt found place one
  pub promise : Ballot
  pub accepted : Accepted
  pub told : one.told ≡ Some (Probed promise (Some accepted))
  pub same : accepted.ballot ≡ ballot
  pub on : AgreeOn era found accepted

-- So it is wherever members agree on a ballot above zero.
abbrev pub AgreedStatesAreTold : Type 0
AgreedStatesAreTold = (era : Era) (found : List Probe) (ballot : Ballot) → Meet era era → Rises (names_of found) → ballot ≢ zero_ballot → is_agreed era found ballot ≡ true → IsToldAt era ballot found
