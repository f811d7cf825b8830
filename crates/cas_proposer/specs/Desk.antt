-- A proposer's desk: what it shows, the cache rule, and what becomes of its vault.
use Rattle.std.specs.Prelude.{◌≡◌, ⊤, ℕ, ◌+◌, ◌^◌, ◌≤◌, max, Bool, true, false, not, ◌&&◌, is_none, if◌then◌else◌, List, [], ◌∷◌, take, Option, None, Some}
use Rattle.cas_ballot.specs.declared.ballot.Ballot.{Ballot}
use Rattle.cas_quorum.specs.declared.era.Era.{Era}
use Rattle.cas_cache.specs.declared.ready.Ready.{Ready}
use Rattle.cas_cache.specs.declared.cache.Cache.{Cache}
use Rattle.cas_cache.specs.Cache.{promises_of, place_of}
use Rattle.cas_cache.specs.Entries.{promise_at, without}
use Rattle.cas_vault.specs.declared.vault.Vault.{Vault}
use Rattle.cas_vault.specs.Vault.{counter_of, kept_of, kept_to_draw, VaultStands}
use Rattle.cas_proposer.specs.declared.began.Began.{Began}
use Rattle.cas_proposer.specs.declared.began.Began.TheVariants.{Prepare, Accept}
use Rattle.cas_proposer.specs.declared.round.Round.{Round}
use Rattle.cas_proposer.specs.Round.{IsAbout, IsPreparing, IsAccepting, is_preparing, has_quorum, may_keep}

-- the proposer's number, its vault, the promises that it may use with their keys, the open round, and whether it is down
pub record DeskView (V : Type 0) : Type 0 where
  pub id : ℕ
  pub vault : Vault V
  pub cache : List (List ℕ × Ready)
  pub round : Option Round
  pub down : Bool

-- ---- the cache rule
-- The promises after the end of a round: its key stands first exactly where the round offers a promise that is kept, and is out
-- after every other end. There are 64 at most, and the least recently used goes.
abbrev pub cache_after : Round → Option Ready → List (List ℕ × Ready) → List (List ℕ × Ready)
cache_after round None cache = without round.key cache
cache_after round (Some ready) cache =
    if may_keep round ready then take 64 ((round.key, ready) ∷ without round.key cache) else without round.key cache

-- the counter after the end of a round: the greater of itself and that of the greatest ballot that was met in either phase
abbrev pub counter_after : ℕ → Option Ballot → ℕ
counter_after counter None = counter
counter_after counter (Some met) = max counter met.counter

-- the same where no round need be open
abbrev pub cache_without : Option Round → List (List ℕ × Ready) → List (List ℕ × Ready)
cache_without None cache = cache
cache_without (Some round) cache = cache_after round None cache

abbrev pub counter_without : Option Round → ℕ → ℕ
counter_without None counter = counter
counter_without (Some round) counter = counter_after counter round.met

-- ---- a round begins
-- the promise by which a round begins in its accept phase
abbrev pub promise_used : Began → Option Ready
promise_used (Prepare ballot) = None
promise_used (Accept ready) = Some ready

-- the round of a key in an era that began so, before any reply
abbrev pub IsOpened : List ℕ → Era → Began → Round → Type 0
IsOpened key era (Prepare ballot) round = IsAbout key era ballot round × IsPreparing [] round
IsOpened key era (Accept ready) round = IsAbout key era ready.ballot round × IsAccepting [] [] round

-- whether a round is open in its accept phase, and no ballot rides with it yet
abbrev pub may_ride : Option Round → Bool
may_ride None = false
may_ride (Some round) = not (is_preparing round.phase) && is_none round.ride

-- whether a round is open in its prepare phase, and a quorum promised
abbrev pub may_read : Option Round → Bool
may_read None = false
may_read (Some round) = is_preparing round.phase && has_quorum round.phase

-- whether a round is open in its prepare phase
abbrev pub is_in_prepare : Option Round → Bool
is_in_prepare None = false
is_in_prepare (Some round) = is_preparing round.phase

-- the round with the ballot that rides
abbrev pub with_ride : Option Round → Ballot → Option Round
with_ride None ballot = None
with_ride (Some round) ballot = Some (record round { ride = Some ballot })

-- ---- the vault
-- a ballot of this proposer is drawn: the one after its counter
pub record Draws {V : Type 0} (id : ℕ) (old new : Vault V) (ballot : Ballot) : Type 0 where
  pub next : ballot ≡ record { counter = counter_of old + 1; proposer = id }
  pub counter : counter_of new ≡ counter_of old + 1
  pub kept : kept_of new ≡ kept_to_draw (counter_of old) (kept_of old)

-- what a vault shows stays
pub record ShowsTheSame {V : Type 0} (old new : Vault V) : Type 0 where
  pub counter : counter_of new ≡ counter_of old
  pub kept : kept_of new ≡ kept_of old

-- a round begins: a ballot is drawn for it, or it uses a promise and the vault stays
abbrev pub DrawsFor : {V : Type 0} → ℕ → Vault V → Vault V → Began → Type 0
DrawsFor id old new (Prepare ballot) = Draws id old new ballot
DrawsFor id old new (Accept ready) = new ≡ old

-- ---- a desk goes down
-- where its vault's disk fails in a draw: an open round ends, and the promises stay
pub record GoesDownInDraw {V : Type 0} (old new : DeskView V) : Type 0 where
  pub desk : new ≡ record old { vault = new.vault; cache = cache_without old.round old.cache; round = None; down = true }
  pub counter : counter_of new.vault ≡ counter_without old.round (counter_of old.vault)
  pub kept : kept_of new.vault ≡ kept_of old.vault

-- where it crashes: an open round is closed, and no promise stays
abbrev pub IsCrashed : {V : Type 0} → DeskView V → DeskView V → Type 0
IsCrashed old new = new ≡ record old { vault = new.vault; cache = []; round = None; down = true }

-- ---- what a desk keeps true
abbrev pub key_of : Option Round → Option (List ℕ)
key_of None = None
key_of (Some round) = Some round.key

abbrev pub IsOut : Option Round → List (List ℕ × Ready) → Type 0
IsOut None cache = ⊤
IsOut (Some round) cache = promise_at round.key cache ≡ None

abbrev pub met_counter : Option Ballot → ℕ
met_counter None = 0
met_counter (Some met) = met.counter

abbrev pub MetIsWithin : Option Round → Type 0
MetIsWithin None = ⊤
MetIsWithin (Some round) = met_counter round.met ≤ 2 ^ 48

-- no ballot rides with a round in its prepare phase
abbrev pub IsUnridden : Option Round → Type 0
IsUnridden None = ⊤
IsUnridden (Some round) = is_preparing round.phase ≡ true → round.ride ≡ None

-- where it is up its vault is in use, and where it is down no round is open; the open place of the cache is that of the open
-- round's key, which has no promise; a ballot rides in an accept phase alone; and no counter that was met is above its end
pub record IsDesk {V : Type 0} (tells : Type 0) (seen : V → List ℕ) (may_leave : V → List ℕ → Type 0) (vault : Vault V) (cache : Cache) (round : Option Round) (down : Bool) : Type 0 where
  pub stands : down ≡ false → VaultStands tells seen may_leave vault
  pub idle : down ≡ true → round ≡ None
  pub place : place_of cache ≡ key_of round
  pub out : IsOut round (promises_of cache)
  pub unridden : IsUnridden round
  pub within : MetIsWithin round
