-- What a caller knows of a desk whose round goes on or ended.
use Rattle.std.specs.Prelude.{is_some, IsSomeAnd, Result, Ok}
use Rattle.std.proofs.Common.{◌≡◌, ◌⊎◌, ◌^◌, true, false, Option, Some, None, refl, ap, ◌∙◌}
use Rattle.cas_ballot.specs.declared.ballot.Ballot.{Ballot}
use Rattle.cas_cache.specs.declared.ready.Ready.{Ready}
use Rattle.cas_vault.specs.declared.error.VaultError.{VaultError}
use Rattle.cas_vault.specs.Vault.{counter_of}
use Rattle.cas_proposer.specs.declared.round.Round.{Round}
use Rattle.cas_proposer.specs.Desk.{DeskView, cache_after, may_ride, with_ride}

some_of : (o : Option Round) → is_some o ≡ true → (round : Round) × (o ≡ Some round)
some_of None is = absurd (cc)
some_of (Some round) is = (round, refl)

pub is_some_of : (o : Option Round) (P : Round → Type 0) → IsSomeAnd o P → is_some o ≡ true
is_some_of None P is = absurd is
is_some_of (Some round) P is = refl

may_ride_open : (o : Option Round) → may_ride o ≡ true → is_some o ≡ true
may_ride_open None is = absurd (cc)
may_ride_open (Some round) is = refl

with_ride_open : (o : Option Round) (ballot : Ballot) → is_some o ≡ true → is_some (with_ride o ballot) ≡ true
with_ride_open None ballot is = absurd (cc)
with_ride_open (Some round) ballot is = refl

-- a round that goes on at a desk that is up
pub record GoesOn {V : Type 0} (desk : DeskView V) : Type 0 where
  pub up : desk.down ≡ false
  pub still_open : is_some desk.round ≡ true

-- after a ride
pub after_ride : {V : Type 0} (old new : DeskView V) (r : Result (Option Ballot) VaultError) (ride : Option Ballot) → r ≡ Ok ride
    → (r ≡ Ok None → ((old.id ≡ 0) ⊎ (counter_of old.vault ≡ 2 ^ 48)) × (new ≡ old))
    → ((ballot : Ballot) → r ≡ Ok (Some ballot) → new ≡ record old { vault = new.vault; round = with_ride old.round ballot })
    → may_ride old.round ≡ true → old.down ≡ false → GoesOn new
after_ride {V} old new r None is none rides may up =
    let same : new ≡ old = (none is).1 in
    record { up = ap (λ (d : DeskView V). d.down) same ∙ up; still_open = ap (λ (d : DeskView V). is_some d.round) same ∙ may_ride_open old.round may }
after_ride {V} old new r (Some ballot) is none rides may up =
    let same = rides ballot is in
    record { up = ap (λ (d : DeskView V). d.down) same ∙ up; still_open = ap (λ (d : DeskView V). is_some d.round) same ∙ with_ride_open old.round ballot (may_ride_open old.round may) }

-- after the end of a round none is open, and the desk is as it was
pub after_end : {V : Type 0} (old new : DeskView V) (kept : Option Ready) → is_some old.round ≡ true
    → ((round : Round) → old.round ≡ Some round → new ≡ record old { vault = new.vault; cache = cache_after round kept old.cache; round = None })
    → (new.down ≡ old.down) × (new.round ≡ None)
after_end {V} old new kept is ends =
    let there = some_of old.round is in
    let same = ends there.0 there.1 in
    (ap (λ (d : DeskView V). d.down) same, ap (λ (d : DeskView V). d.round) same)
