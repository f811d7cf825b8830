-- What a renewed proposer holds and asks for the key of a collection stays above its tombstone, whatever is called.
use Rattle.std.proofs.Common.{◌≡◌, ℕ, ◌+◌, List, Option, None, Some, refl, sym, ap, subst, ◌∙◌, inl, inr, arith}
use Rattle.std.specs.Prelude.{◌⊎◌, Contains}
use Rattle.cas_ballot.specs.declared.ballot.Ballot.{Ballot}
use Rattle.cas_ballot.specs.Ballot.{BallotAtMost, BallotLess}
use Rattle.cas_ballot.proofs.BallotLemmas.{at_most_of_less}
use Rattle.cas_cache.specs.declared.ready.Ready.{Ready}
use Rattle.cas_cache.specs.Entries.{without}
use Rattle.cas_change.specs.declared.state.State.{State}
use Rattle.cas_proposer.specs.Desk.{DeskView}
use Rattle.cas_proposer.specs.declared.round.Round.{Round}
use Rattle.cas_quorum.specs.declared.era.Era.{Era}
use Rattle.cas_record.specs.Logs.Orderly.{IsRoundAsk}
use Rattle.cas_slot.specs.declared.ages.Ages.{Ages}
use Rattle.cas_slot.specs.declared.message.Ask.TheVariants as ask
use Rattle.cas_slot.specs.declared.message.Reply.{Reply}
use Rattle.cas_slot.specs.declared.message.Request.{Request}
use Rattle.cas_slot.specs.Message.{tag_of}
use Rattle.cas_slot.specs.Rules.{key_of}
use Rattle.cas_vault.specs.declared.vault.Vault.{Vault}
use Rattle.cas_vault.specs.Vault.{counter_of, IsPast}
use Rattle.cas_model.specs.Collection.Logged.{AsksAboveFor, IsRenewed}
use Rattle.cas_model.specs.Collection.State.{CollectionView, tomb_of}
use Rattle.cas_model.specs.Parties.{IsAged}
use Rattle.cas_model.specs.Calls.Step.{offered_by}
use Rattle.cas_model.specs.Calls.Desks.{VaultGoesOn, HasDrawn, MayHaveDrawn, BeginsToPrepare, BeginsByPromise, TurnsWith, HearsReply, EndsRound}
use Rattle.cas_model.specs.View.{DiskMeaning, IsAt}
use Rattle.cas_model.proofs.Others.{IsNoProbeIn, IsAskedApart}
use Rattle.cas_model.specs.Council.{Council}
use Rattle.cas_model.proofs.Calls.Caches.{contains_without, contains_promise, IsKeptOr, kept, held, kept_or_held}
use Rattle.cas_model.proofs.Eras.InEras.{goes_on}
use Rattle.cas_model.proofs.Places.{some_is}

-- ---- ballots
-- what is drawn is above all that the vault is past
pub drawn_above : {V : Type 0} (m : DiskMeaning V) (id : ℕ) (old new : Vault V) (tomb ballot : Ballot) → IsPast m.may_leave tomb.counter old → HasDrawn m id old new ballot → BallotLess tomb ballot
drawn_above m id old new tomb ballot past by =
    let counter : ballot.counter ≡ counter_of old + 1 = ap (λ (b : Ballot). b.counter) by.draws.next in
    record { counters = omega (arith, past.counter, counter); proposers = λ low. absurd (omega (arith, past.counter, counter, low)) }

-- ---- one desk
-- what it holds for the key is above the tombstone
pub record HoldsAbove {V : Type 0} (key : List ℕ) (tomb : Ballot) (desk : DeskView V) : Type 0 where
  pub ballot : (round : Round) → desk.round ≡ Some round → round.key ≡ key → BallotLess tomb round.ballot
  pub ride : (round : Round) (ride : Ballot) → desk.round ≡ Some round → round.key ≡ key → round.ride ≡ Some ride → BallotLess tomb ride
  pub cached : (ready : Ready) → Contains desk.cache (key, ready) → BallotLess tomb ready.ballot × BallotAtMost tomb ready.read

holds : {V : Type 0} {m : DiskMeaning V} {key : List ℕ} {tomb : Ballot} {age : ℕ} {desk : DeskView V} → IsRenewed m key tomb age desk → HoldsAbove key tomb desk
holds was = record { ballot = was.ballot; ride = was.ride; cached = was.cached }

-- the vault goes on, and what it holds is above
renewed_on : {V : Type 0} (m : DiskMeaning V) (key : List ℕ) (tomb : Ballot) (age : ℕ) (old new : DeskView V) → ((n : ℕ) → IsPast m.may_leave n old.vault → IsPast m.may_leave n new.vault)
    → ((n : ℕ) → IsAged m n old.vault → IsAged m n new.vault) → IsRenewed m key tomb age old → HoldsAbove key tomb new → IsRenewed m key tomb age new
renewed_on m key tomb age old new still ages was above = record {
  past = still tomb.counter was.past;
  aged = ages age was.aged;
  ballot = above.ballot;
  ride = above.ride;
  cached = above.cached;
}

-- with no round open, it holds what it held, or less
fewer_above : {V : Type 0} (key : List ℕ) (tomb : Ballot) (old new : DeskView V) → new.round ≡ None → ((ready : Ready) → Contains new.cache (key, ready) → Contains old.cache (key, ready))
    → HoldsAbove key tomb old → HoldsAbove key tomb new
fewer_above key tomb old new none within was = record {
  ballot = λ round is same. absurd (cc (is, none));
  ride = λ round ride is same rides. absurd (cc (is, none));
  cached = λ ready h. was.cached ready (within ready h);
}

-- ---- what may become of it
-- it turns into the other by a step that keeps all of this
pub record KeepsAbove {V : Type 0} (m : DiskMeaning V) (old new : DeskView V) : Type 0 where
  pub renewed : (key : List ℕ) (tomb : Ballot) (age : ℕ) → IsRenewed m key tomb age old → IsRenewed m key tomb age new

pub same_above : {V : Type 0} (m : DiskMeaning V) (old new : DeskView V) → new ≡ old → KeepsAbove m old new
same_above {V} m old new same = record { renewed = λ key tomb age was. subst (λ (d : DeskView V). IsRenewed m key tomb age d) (sym same) was }

-- its round is over, or none was open, and its cache has no more
pub idle_above : {V : Type 0} (m : DiskMeaning V) (old new : DeskView V) → ((n : ℕ) → IsPast m.may_leave n old.vault → IsPast m.may_leave n new.vault)
    → ((n : ℕ) → IsAged m n old.vault → IsAged m n new.vault) → new.round ≡ None
    → ((entry : List ℕ × Ready) → Contains new.cache entry → Contains old.cache entry) → KeepsAbove m old new
idle_above m old new still ages none within = record { renewed = λ key tomb age was. renewed_on m key tomb age old new still ages was (fewer_above key tomb old new none (λ ready h. within (key, ready) h) (holds was)) }

-- the same round, and the vault goes on
pub vault_above : {V : Type 0} (m : DiskMeaning V) (old new : DeskView V) → ((n : ℕ) → IsPast m.may_leave n old.vault → IsPast m.may_leave n new.vault)
    → ((n : ℕ) → IsAged m n old.vault → IsAged m n new.vault) → new.round ≡ old.round
    → new.cache ≡ old.cache → KeepsAbove m old new
vault_above {V} m old new still ages same_round same_cache = record {
  renewed = λ key tomb age was. renewed_on m key tomb age old new still ages was (record {
    ballot = λ round is same. was.ballot round (sym same_round ∙ is) same;
    ride = λ round ride is same rides. was.ride round ride (sym same_round ∙ is) same rides;
    cached = λ ready h. was.cached ready (subst (λ (l : List (List ℕ × Ready)). Contains l (key, ready)) same_cache h);
  });
}

pub prepares_above : {V : Type 0} (m : DiskMeaning V) (era : Era) (k : List ℕ) (old new : DeskView V) (ballot : Ballot) (round : Round) → m.tells → BeginsToPrepare m era k old new ballot round
    → KeepsAbove m old new
prepares_above {V} m era k old new ballot round tells by = record {
  renewed = λ key tomb age was. renewed_on m key tomb age old new (by.drawn.goes_on.still_past tells) (by.drawn.goes_on.ages tells) was (record {
    ballot = λ r is same. subst (BallotLess tomb) (sym (ap (λ (x : Round). x.ballot) (is_round r is) ∙ by.opened.0.at)) (drawn_above m old.id old.vault new.vault tomb ballot was.past by.drawn);
    ride = λ r ride is same rides. absurd (cc (sym (ap (λ (x : Round). x.ride) (is_round r is)) ∙ rides, by.opened.0.ride));
    cached = λ ready h. was.cached ready (contains_without k old.cache (subst (λ (l : List (List ℕ × Ready)). Contains l (key, ready)) (ap (λ (d : DeskView V). d.cache) by.desk) h));
  });
}
  where
    is_round : (r : Round) → new.round ≡ Some r → r ≡ round
    is_round r is = some_is (sym is ∙ ap (λ (d : DeskView V). d.round) by.desk)

-- the ballot that rides was drawn, or there is none
ride_above : {V : Type 0} (m : DiskMeaning V) (id : ℕ) (old new : Vault V) (tomb ride : Ballot) (may : Option Ballot) → IsPast m.may_leave tomb.counter old → MayHaveDrawn m id old new may
    → may ≡ Some ride → BallotLess tomb ride
ride_above m id old new tomb ride None past by is = absurd (cc is)
ride_above m id old new tomb ride (Some ballot) past by is = subst (BallotLess tomb) (some_is is) (drawn_above m id old new tomb ballot past by)

pub promise_above : {V : Type 0} (m : DiskMeaning V) (era : Era) (k : List ℕ) (old new : DeskView V) (ready : Ready) (ride : Option Ballot) (round : Round) → m.tells
    → BeginsByPromise m era k old new ready ride round → KeepsAbove m old new
promise_above {V} m era k old new ready ride round tells by = record {
  renewed = λ key tomb age was. renewed_on m key tomb age old new (on.still_past tells) (on.ages tells) was (record {
    ballot = λ r is same. subst (BallotLess tomb) (sym (ap (λ (x : Round). x.ballot) (is_round r is) ∙ by.opened.0.at))
        (was.cached ready (subst (λ (x : List ℕ). Contains old.cache (x, ready)) (sym by.opened.0.of_key ∙ ap (λ (x : Round). x.key) (sym (is_round r is)) ∙ same) (contains_promise k ready old.cache by.promise))).0;
    ride = λ r rode is same rides. ride_above m old.id old.vault new.vault tomb rode ride was.past by.drawn (ap (λ (x : Round). x.ride) (sym (is_round r is)) ∙ rides);
    cached = λ other h. was.cached other (contains_without k old.cache (subst (λ (l : List (List ℕ × Ready)). Contains l (key, other)) (ap (λ (d : DeskView V). d.cache) by.desk) h));
  });
}
  where
    on : VaultGoesOn m old.vault new.vault
    on = goes_on m old.id old.vault new.vault ride by.drawn

    is_round : (r : Round) → new.round ≡ Some r → r ≡ record round { ride = ride }
    is_round r is = some_is (sym is ∙ ap (λ (d : DeskView V). d.round) by.desk)

pub turns_above : {V : Type 0} (m : DiskMeaning V) (old new : DeskView V) (round turned : Round) (ride : Option Ballot) → m.tells → old.round ≡ Some round → TurnsWith m old new round turned ride
    → KeepsAbove m old new
turns_above {V} m old new round turned ride tells is_open by = record {
  renewed = λ key tomb age was. renewed_on m key tomb age old new (on.still_past tells) (on.ages tells) was (record {
    ballot = λ r is same. subst (BallotLess tomb) (ap (λ (x : Round). x.ballot) (sym by.turns.same) ∙ ap (λ (x : Round). x.ballot) (sym (is_round r is)))
        (was.ballot round is_open (ap (λ (x : Round). x.key) (sym by.turns.same) ∙ ap (λ (x : Round). x.key) (sym (is_round r is)) ∙ same));
    ride = λ r rode is same rides. ride_above m old.id old.vault new.vault tomb rode ride was.past by.drawn (ap (λ (x : Round). x.ride) (sym (is_round r is)) ∙ rides);
    cached = λ ready h. was.cached ready (subst (λ (l : List (List ℕ × Ready)). Contains l (key, ready)) (ap (λ (d : DeskView V). d.cache) by.desk) h);
  });
}
  where
    on : VaultGoesOn m old.vault new.vault
    on = goes_on m old.id old.vault new.vault ride by.drawn

    is_round : (r : Round) → new.round ≡ Some r → r ≡ record turned { ride = ride }
    is_round r is = some_is (sym is ∙ ap (λ (d : DeskView V). d.round) by.desk)

pub hears_above : {V : Type 0} (m : DiskMeaning V) (old new : DeskView V) (round heard : Round) {reply : Reply} → old.round ≡ Some round → HearsReply old new round heard reply → KeepsAbove m old new
hears_above {V} m old new round heard is_open by = record {
  renewed = λ key tomb age was.
      subst (λ (d : DeskView V). IsRenewed m key tomb age d) (sym by.desk) (record {
        past = was.past;
        aged = was.aged;
        ballot =
            λ r is same. subst (BallotLess tomb) (ap (λ (x : Round). x.ballot) (sym by.hears.same) ∙ ap (λ (x : Round). x.ballot) (some_is is)) (was.ballot round is_open (same_key (some_is is) same));
        ride = λ r rode is same rides. was.ride round rode is_open (same_key (some_is is) same) (ap (λ (x : Round). x.ride) (sym by.hears.same) ∙ ap (λ (x : Round). x.ride) (some_is is) ∙ rides);
        cached = was.cached;
      });
}
  where
    same_key : {r : Round} {key : List ℕ} → heard ≡ r → r.key ≡ key → round.key ≡ key
    same_key is same = ap (λ (x : Round). x.key) (sym by.hears.same) ∙ ap (λ (x : Round). x.key) is ∙ same

-- a round that ends keeps the promise that rode along, or none
pub ends_above : {V : Type 0} (m : DiskMeaning V) (old new : DeskView V) (round : Round) (state : State) (by : List ℕ) → m.tells → old.round ≡ Some round
    → EndsRound m old new round (offered_by round round.ride state by) → KeepsAbove m old new
ends_above {V} m old new round state members tells is_open by = record {
  renewed = λ key tomb age was. renewed_on m key tomb age old new (by.goes_on.still_past tells) (by.goes_on.ages tells) was (record {
    ballot = λ r is same. absurd (cc (is, ap (λ (d : DeskView V). d.round) by.desk));
    ride = λ r ride is same rides. absurd (cc (is, ap (λ (d : DeskView V). d.round) by.desk));
    cached = λ ready h. by_entry key tomb age was ready
        (kept_or_held round (offered_by round round.ride state members) old.cache (key, ready) (subst (λ (l : List (List ℕ × Ready)). Contains l (key, ready)) (ap (λ (d : DeskView V). d.cache) by.desk) h));
  });
}
  where
    by_ride : (ride : Option Ballot) (ready : Ready) → offered_by round ride state members ≡ Some ready → (ride ≡ Some ready.ballot) × (ready.read ≡ round.ballot)
    by_ride None ready is = absurd (cc is)
    by_ride (Some ride) ready is = (ap (λ (x : Ready). Some x.ballot) (some_is is), ap (λ (x : Ready). x.read) (sym (some_is is)))

    by_entry : (key : List ℕ) (tomb : Ballot) (age : ℕ) → IsRenewed m key tomb age old → (ready : Ready) → IsKeptOr round (offered_by round round.ride state members) old.cache (key, ready)
        → BallotLess tomb ready.ballot × BallotAtMost tomb ready.read
    by_entry key tomb age was ready (kept offered is_offered may same) =
        let parts = by_ride round.ride offered is_offered in
        let same_key : round.key ≡ key = ap (λ (e : List ℕ × Ready). e.0) same in
        let same_ready : offered ≡ ready = ap (λ (e : List ℕ × Ready). e.1) same in
        (subst (λ (x : Ready). BallotLess tomb x.ballot) same_ready (was.ride round offered.ballot is_open same_key parts.0), subst (λ (x : Ready). BallotAtMost tomb x.read) same_ready (subst (BallotAtMost tomb) (sym parts.1) (at_most_of_less (was.ballot round is_open same_key))))
    by_entry key tomb age was ready (held there) = was.cached ready there

pub ends_plainly_above : {V : Type 0} (m : DiskMeaning V) (old new : DeskView V) (round : Round) → m.tells → EndsRound m old new round None → KeepsAbove m old new
ends_plainly_above {V} m old new round tells by = idle_above m old new (by.goes_on.still_past tells) (by.goes_on.ages tells) (ap (λ (d : DeskView V). d.round) by.desk)
    (λ entry h. contains_without round.key old.cache (subst (λ (l : List (List ℕ × Ready)). Contains l entry) (ap (λ (d : DeskView V). d.cache) by.desk) h))

-- a cache that is the same, or without one key
pub fewer_in : (key : List ℕ) (old new : List (List ℕ × Ready)) → (new ≡ old) ⊎ (new ≡ without key old) → (entry : List ℕ × Ready) → Contains new entry → Contains old entry
fewer_in key old new same entry h = elim same [
  | inl all ↦ subst (λ (l : List (List ℕ × Ready)). Contains l entry) all h
  | inr without_one ↦ contains_without key old (subst (λ (l : List (List ℕ × Ready)). Contains l entry) without_one h)
]

-- ---- what it asks
-- the desk of the proposer, where it was renewed for the collection
abbrev pub IsRenewedFor : {V : Type 0} → DiskMeaning V → Option CollectionView → ℕ → DeskView V → Type 0
IsRenewedFor m collection id desk = (c : CollectionView) (age : ℕ) → collection ≡ Some c → IsAt c.ages id age → IsRenewed m c.course.key (tomb_of c.tombstone) age desk

-- a request that tells no ages, and is above the tombstone where it is of a round of the key
asks_above : (collection : Option CollectionView) (request : Request) → ((tag : Ballot) (least : Ages) → request.ask ≡ ask.Ages tag least → ⊥)
    → ((c : CollectionView) (age : ℕ) → collection ≡ Some c → IsAt c.ages request.from age → IsRoundAsk request.ask → key_of request.ask ≡ c.course.key → BallotLess (tomb_of c.tombstone) (tag_of request.ask)) → AsksAboveFor collection request
asks_above None request tells above = tt
asks_above (Some c) request tells above = record { above = λ age at round same. above c age refl at round same; tells_none = tells }

-- and is no probe beside an open exchange
pub asks_by : (council : Council) (request : Request) → IsNoProbeIn council.exchange request → ((tag : Ballot) (least : Ages) → request.ask ≡ ask.Ages tag least → ⊥)
    → ((c : CollectionView) (age : ℕ) → council.collection ≡ Some c → IsAt c.ages request.from age → IsRoundAsk request.ask → key_of request.ask ≡ c.course.key → BallotLess (tomb_of c.tombstone) (tag_of request.ask)) → IsAskedApart council request
asks_by council request apart tells above = (asks_above council.collection request tells above, apart)
