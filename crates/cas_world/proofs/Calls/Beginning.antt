-- Rounds that begin and propose at a desk, and what is lost with the memory.
use Rattle.std.proofs.Common.{◌≡◌, ◌⊎◌, ◌+◌, ◌≤◌, ℕ, Bool, true, false, not, if◌then◌else◌, List, refl, sym, ap, subst, ◌∙◌, arith, inl, inr}
use Rattle.std.specs.Prelude.{◌^◌, [], Option, Some, None, is_none, nat_lt, IsTrue}
use Rattle.cas_base.proofs.Bools.{and_right}
use Rattle.cas_base.specs.Faults.{Rose}
use Rattle.cas_proposer.proofs.DeskLemmas.{without_absent}
use Rattle.cas_ballot.specs.declared.ballot.Ballot.{Ballot}
use Rattle.cas_ballot.specs.Ballot.{FitsBallot}
use Rattle.cas_cache.specs.declared.ready.Ready.{Ready}
use Rattle.cas_cache.specs.Entries.{without}
use Rattle.cas_disk.specs.Disk.{LeavesOnly}
use Rattle.cas_vault.specs.declared.kept.Kept.{Kept}
use Rattle.cas_vault.specs.declared.vault.Vault.{Vault}
use Rattle.cas_vault.specs.Vault.{disk_of, counter_of, kept_of, kept_to_draw, KeptOn, KeepsBeforeOrAfter, VaultStands, IsPast}
use Rattle.cas_vault.proofs.Keeping.{same_kept}
use Rattle.cas_proposer.specs.Desk.{DeskView, Draws, ShowsTheSame, GoesDownInDraw, cache_after, cache_without, counter_after, counter_without, may_ride, with_ride}
use Rattle.cas_proposer.specs.Round.{is_preparing}
use Rattle.cas_proposer.specs.declared.round.Round.{Round}
use Rattle.cas_model.specs.Council.{ListingView}
use Rattle.cas_model.specs.Parties.{IsAged}
use Rattle.cas_model.specs.Exchanges.Step.{HasTag, TagsAll}
use Rattle.cas_model.specs.Calls.Desks.{IsRideDue, VaultGoesOn, HasDrawn, HasKept, MayHaveDrawn, FailsToDraw, LosesMemory}
use Rattle.cas_model.specs.View.{DiskMeaning}
use Rattle.cas_model.proofs.Calls.Asks.{tag_goes_on}
use Rattle.cas_world.proofs.Calls.Disks.{disks}
use Rattle.cas_world_calls.specs.Proposing.{RidesOn, ProposesOn, FailsToPropose, proposing_of}
use Rattle.cas_cache.specs.Entries.{promise_at}
use Rattle.cas_proposer.specs.Desk.{IsOpened}
use Rattle.cas_record.specs.declared.answer.Answer.{Answer}
use Rattle.cas_record.specs.declared.answer.Answer.TheVariants as answer
use Rattle.cas_change.specs.Outcome.{outcome_of}
use Rattle.cas_change.specs.declared.program.Clause.{Clause}
use Rattle.cas_flow.specs.Flow.{FlowView}
use Rattle.cas_quorum.specs.declared.era.Era.{Era}
use Rattle.cas_proposer.specs.declared.began.Began.TheVariants as began
use Rattle.cas_world_calls.specs.declared.proposal.Author.{Author}
use Rattle.cas_world_calls.specs.declared.proposal.Proposing.{Proposing}
use Rattle.cas_world.specs.Calls.Beginning.{FailsToOpen, ProposesBy}

-- ---- what a draw keeps
pub no_more : (old new : ℕ) → new ≡ old → old ≤ new
no_more old new same = omega (arith, same)

-- what is kept is of the same age and in the same era
pub record KeepsPlace (old new : Kept) : Type 0 where
  pub age : new.age ≡ old.age
  pub era : new.era ≡ old.era

pub same_place : {old new : Kept} → new ≡ old → KeepsPlace old new
same_place same = record { age = ap (λ (k : Kept). k.age) same; era = ap (λ (k : Kept). k.era) same }

one_place : (b : Bool) (old x y : Kept) → KeepsPlace old x → KeepsPlace old y → KeepsPlace old (if b then x else y)
one_place true old x y a b = a
one_place false old x y a b = b

pub drawn_place : (counter : ℕ) (old new : Kept) → new ≡ kept_to_draw counter old → KeepsPlace old new
drawn_place counter old new same = subst (KeepsPlace old) (sym same) (one_place (nat_lt old.bound (counter + 1)) old _ old (record { age = refl; era = refl }) (record { age = refl; era = refl }))

place_on : (kept before : Kept) (counter : ℕ) (c : List ℕ) → KeptOn kept c → KeepsBeforeOrAfter before (kept_to_draw counter before) c → KeepsPlace before kept
place_on kept before counter c on (inl b) = same_place (same_kept kept before c on b)
place_on kept before counter c on (inr a) = drawn_place counter before kept (same_kept kept (kept_to_draw counter before) c on a)

none_there : (ride : Option Ballot) → is_none ride ≡ true → ride ≡ None
none_there None none = refl
none_there (Some b) none = let no : false ≡ true = none in absurd (cc)

-- the round with no ballot that rides is as it is
no_ride : (round : Round) → IsTrue (may_ride (Some round)) → Some round ≡ Some (record round { ride = None })
no_ride round may = ap (λ (r : Option Ballot). Some (record round { ride = r })) (none_there round.ride (and_right (not (is_preparing round.phase)) (is_none round.ride) may))

module _ {V : Type 0} (tells : Type 0) (may_leave : V → List ℕ → Type 0) (faults : V → ℕ) where
  -- a round's end keeps its vault's disk
  pub goes_on_still : (old new : Vault V) → disk_of new ≡ disk_of old → kept_of new ≡ kept_of old → ((n : ℕ) → IsPast may_leave n old → IsPast may_leave n new) → VaultGoesOn (disks tells may_leave faults) old new
  goes_on_still old new same_disk same_kept_of past = record {
    still_past = λ t. past;
    ages = λ t age was. record {
      kept = subst (λ (k : Kept). age ≤ k.age) (sym same_kept_of) was.kept;
      left = λ c kept left on. was.left c kept (subst (λ (d : V). may_leave d c) same_disk left) on;
    };
    era = λ t era other was. record {
      kept = ap (λ (k : Kept). k.era) same_kept_of ∙ was.kept;
      left = λ c kept left on. was.left c kept (subst (λ (d : V). may_leave d c) same_disk left) on;
    };
    never_falls = no_more (faults (disk_of old)) (faults (disk_of new)) (ap faults same_disk);
  }

  pub goes_on_same : (old : Vault V) → VaultGoesOn (disks tells may_leave faults) old old
  goes_on_same old = record { still_past = λ t n was. was; ages = λ t age was. was; era = λ t era other was. was; never_falls = no_more (faults (disk_of old)) (faults (disk_of old)) refl }

  -- a vault that is in use keeps its age, whatever a crash leaves
  pub aged_by : (seen : V → List ℕ) (age : ℕ) (vault : Vault V) → VaultStands tells seen may_leave vault → (kept_of vault).age ≡ age → tells → IsAged (disks tells may_leave faults) age vault
  aged_by seen age vault stands is t = record {
    kept = omega (arith, is);
    left = λ c kept left on. omega (arith, is, ap (λ (k : Kept). k.age) (same_kept kept (kept_of vault) c on (stands.images t c left)));
  }

  -- no memory was found once a ballot was drawn or not, and the round is ended
  pub loses_after : (old mid new : DeskView V) (round : Round) (ride rides : Option Ballot) → old.round ≡ Some round → MayHaveDrawn (disks tells may_leave faults) old.id old.vault mid.vault ride
      → mid ≡ record old { vault = mid.vault; round = Some (record round { ride = rides }) }
      → ((r : Round) → mid.round ≡ Some r → new ≡ record mid { vault = new.vault; cache = cache_after r None mid.cache; round = None })
      → counter_of new.vault ≡ counter_without mid.round (counter_of mid.vault) → kept_of new.vault ≡ kept_of mid.vault → disk_of new.vault ≡ disk_of mid.vault
      → ((n : ℕ) → IsPast may_leave n mid.vault → IsPast may_leave n new.vault) → LosesMemory (disks tells may_leave faults) round.key old new ride
  loses_after old mid new round ride rides is drawn at ends counted same_kept_of same_disk past =
      let riding : mid.round ≡ Some (record round { ride = rides }) = ap (λ (d : DeskView V). d.round) at in
      let ended : new ≡ record mid { vault = new.vault; cache = without round.key mid.cache; round = None } = ends (record round { ride = rides }) riding in
      let from : new ≡ record old { vault = new.vault; cache = without round.key mid.cache; round = None } =
      ended ∙ ap (λ (d : DeskView V). record d { vault = new.vault; cache = without round.key mid.cache; round = None }) at in
      let cache : new.cache ≡ without round.key mid.cache = ap (λ (d : DeskView V). d.cache) from in record {
        desk = from ∙ ap (λ (ready : List (List ℕ × Ready)). record old { vault = new.vault; cache = ready; round = None }) (sym cache);
        cache = inr (cache ∙ ap (λ (d : DeskView V). without round.key d.cache) at);
        middle = mid.vault;
        drawn = drawn;
        counter = counted ∙ (ap (λ (r : Option Round). counter_without r (counter_of mid.vault)) riding ∙ sym (ap (λ (r : Option Round). counter_without r (counter_of mid.vault)) is));
        kept = same_kept_of;
        goes_on = goes_on_still mid.vault new.vault same_disk same_kept_of past;
      }

  module _ (seen : V → List ℕ) (moment : V → ℕ) (left_since : V → ℕ → List ℕ → Type 0) (counts_now : (disk : V) (t : ℕ) (c : List ℕ) → tells → t ≤ moment disk → may_leave disk c → left_since disk t c) where
    -- a draw keeps the age and the era, wherever it stops
    pub goes_on : (old new : Vault V) → (tells → (n : ℕ) → IsPast may_leave n old → IsPast may_leave n new)
        → (tells → LeavesOnly moment left_since (disk_of old) (disk_of new) (KeepsBeforeOrAfter (kept_of old) (kept_to_draw (counter_of old) (kept_of old)))) → KeepsPlace (kept_of old) (kept_of new) → faults (disk_of old) ≤ faults (disk_of new)
        → VaultGoesOn (disks tells may_leave faults) old new
    goes_on old new past moments same never_falls = record {
      still_past = past;
      ages = λ t age was. record {
        kept = omega (arith, same.age, was.kept);
        left = λ c kept left on. omega (arith, (left_place t c kept left on).age, was.kept);
      };
      era = λ t era other was. record {
        kept = same.era ∙ was.kept;
        left = λ c kept left on. inl ((left_place t c kept left on).era ∙ was.kept);
      };
      never_falls = never_falls;
    }
      where
        left_place : tells → (c : List ℕ) (kept : Kept) → may_leave (disk_of new) c → KeptOn kept c → KeepsPlace (kept_of old) kept
        left_place t c kept left on = place_on kept (kept_of old) (counter_of old) c on ((moments t).each c (counts_now (disk_of new) (moment (disk_of old)) c t (moments t).later left))

    rides_fits : (old new : DeskView V) (ballot : Ballot) → old.id ≤ 16 → Draws old.id old.vault new.vault ballot → VaultStands tells seen may_leave new.vault → FitsBallot ballot
    rides_fits old new ballot few draws stands =
        let counter : ballot.counter ≡ counter_of old.vault + 1 = ap (λ (b : Ballot). b.counter) draws.next in
        let proposer : ballot.proposer ≡ old.id = ap (λ (b : Ballot). b.proposer) draws.next in record {
          counter = omega (arith, counter, draws.counter, stands.counter);
          proposer = omega (arith, proposer, few);
        }

    -- what a ride tells
    pub rides_by : (old new : DeskView V) (round : Round) (ride : Option Ballot) → IsRideDue old.id (counter_of old.vault) ride → old.round ≡ Some round → IsTrue (may_ride old.round)
        → old.down ≡ false → old.id ≤ 16 → (ride ≡ None → new ≡ old)
        → ((b : Ballot) → ride ≡ Some b → Draws old.id old.vault new.vault b) → ((b : Ballot) → ride ≡ Some b → new ≡ record old { vault = new.vault; round = with_ride old.round b })
        → (tells → (b : Ballot) → ride ≡ Some b → IsPast may_leave b.counter new.vault) → (tells → (n : ℕ) → IsPast may_leave n old.vault → IsPast may_leave n new.vault)
        → (tells → LeavesOnly moment left_since (disk_of old.vault) (disk_of new.vault) (KeepsBeforeOrAfter (kept_of old.vault) (kept_to_draw (counter_of old.vault) (kept_of old.vault))))
        → (new.down ≡ false → VaultStands tells seen may_leave new.vault) → faults (disk_of old.vault) ≤ faults (disk_of new.vault) → RidesOn (disks tells may_leave faults) round old new ride
    rides_by old new round None due is may up few same draws at past still moments stands never_falls =
        subst (λ (d : DeskView V). RidesOn (disks tells may_leave faults) round old d None) (sym (same refl)) (record {
          due = due;
          drawn = record { shows = record { counter = refl; kept = refl }; goes_on = goes_on_same old.vault };
          aged = aged_by seen (kept_of old.vault).age old.vault (subst (λ (d : DeskView V). d.down ≡ false → VaultStands tells seen may_leave d.vault) (same refl) stands up) refl;
          desk = ap (λ (r : Option Round). record old { round = r }) (is ∙ no_ride round (subst (λ (r : Option Round). IsTrue (may_ride r)) is may));
          fits = tt;
        })
    rides_by old new round (Some b) due is may up few same draws at past still moments stands never_falls =
        let drew : Draws old.id old.vault new.vault b = draws b refl in
        let in_use : VaultStands tells seen may_leave new.vault = stands (ap (λ (d : DeskView V). d.down) (at b refl) ∙ up) in
        let fits : FitsBallot b = rides_fits old new b few drew in_use in
        let place : KeepsPlace (kept_of old.vault) (kept_of new.vault) = drawn_place (counter_of old.vault) (kept_of old.vault) (kept_of new.vault) drew.kept in record {
          due = due;
          drawn = record {
            draws = drew;
            fits = fits;
            past = λ t. past t b refl;
            goes_on = goes_on old.vault new.vault still moments place never_falls;
          };
          aged = aged_by seen (kept_of old.vault).age new.vault in_use place.age;
          desk = at b refl ∙ ap (λ (r : Option Round). record old { vault = new.vault; round = with_ride r b }) is;
          fits = fits;
        }

    -- the vault failed in a draw
    pub fails_by : (old new : DeskView V) (round : Round) → old.round ≡ Some round → GoesDownInDraw old new → (tells → (n : ℕ) → IsPast may_leave n old.vault → IsPast may_leave n new.vault)
        → (tells → LeavesOnly moment left_since (disk_of old.vault) (disk_of new.vault) (KeepsBeforeOrAfter (kept_of old.vault) (kept_to_draw (counter_of old.vault) (kept_of old.vault))))
        → faults (disk_of old.vault) ≤ faults (disk_of new.vault) → Rose (faults (disk_of old.vault)) (faults (disk_of new.vault))
        → FailsToDraw (disks tells may_leave faults) (without round.key old.cache) old new
    fails_by old new round is goes still moments never_falls rose =
        record {
          desk = goes.desk ∙ ap (λ (r : Option Round). record old { vault = new.vault; cache = cache_without r old.cache; round = None; down = true }) is;
          counter = goes.counter;
          kept = goes.kept;
          goes_on = goes_on old.vault new.vault still moments (same_place goes.kept) never_falls;
          faulted = rose;
        }

    -- no memory was found for a draw, and the round is ended
    pub loses_by : (old mid new : DeskView V) (round : Round) → old.round ≡ Some round → mid ≡ record old { vault = mid.vault } → ShowsTheSame old.vault mid.vault
        → (tells → (n : ℕ) → IsPast may_leave n old.vault → IsPast may_leave n mid.vault)
        → (tells → LeavesOnly moment left_since (disk_of old.vault) (disk_of mid.vault) (KeepsBeforeOrAfter (kept_of old.vault) (kept_to_draw (counter_of old.vault) (kept_of old.vault))))
        → ((r : Round) → mid.round ≡ Some r → new ≡ record mid { vault = new.vault; cache = cache_after r None mid.cache; round = None })
        → counter_of new.vault ≡ counter_without mid.round (counter_of mid.vault) → kept_of new.vault ≡ kept_of mid.vault → disk_of new.vault ≡ disk_of mid.vault
        → ((n : ℕ) → IsPast may_leave n mid.vault → IsPast may_leave n new.vault) → faults (disk_of old.vault) ≤ faults (disk_of mid.vault) → LosesMemory (disks tells may_leave faults) round.key old new None
    loses_by old mid new round is at shows still moments ends counted same_kept_of same_disk past never_falls =
        loses_after old mid new round None round.ride is
        (record { shows = shows; goes_on = goes_on old.vault mid.vault still moments (same_place shows.kept) never_falls })
        (at ∙ ap (λ (r : Option Round). record old { vault = mid.vault; round = r }) is) ends counted same_kept_of same_disk past

-- whether a ballot is to ride is known by what a ride answers
pub ride_due : (id counter : ℕ) (ride : Option Ballot) → (ride ≡ None → (id ≡ 0) ⊎ (counter ≡ 2 ^ 48)) → ((id ≡ 0) ⊎ (counter ≡ 2 ^ 48) → ride ≡ None) → IsRideDue id counter ride
ride_due id counter None none not_drawn = none refl
ride_due id counter (Some ballot) none not_drawn = λ over. cc (not_drawn over)

-- ---- a promise that is used up
pub without_twice : (key : List ℕ) (cache : List (List ℕ × Ready)) → promise_at key (without key cache) ≡ None → without key (without key cache) ≡ without key cache
without_twice key cache none = without_absent key (without key cache) none

-- where a desk's promise of the key is gone, so it is from those that it had
pub gone_from : {V : Type 0} (key : List ℕ) (old mid : DeskView V) → mid ≡ record old { vault = mid.vault; cache = without key old.cache; round = mid.round } → promise_at key mid.cache ≡ None → promise_at key (without key old.cache) ≡ None
gone_from {V} key old mid at none = ap (promise_at key) (sym (ap (λ (d : DeskView V). d.cache) at)) ∙ none

-- a desk that begins a round stays up
pub up_from : {V : Type 0} (key : List ℕ) (old mid : DeskView V) → mid ≡ record old { vault = mid.vault; cache = without key old.cache; round = mid.round } → old.down ≡ false → mid.down ≡ false
up_from {V} key old mid at up = ap (λ (d : DeskView V). d.down) at ∙ up

-- ---- a round that ends as soon as it begins
-- what becomes of a cache of which a promise was used up, where its round ends
cache_used : (key : List ℕ) (of_round : List ℕ) (old new : List (List ℕ × Ready)) → of_round ≡ key → promise_at key (without key old) ≡ None → (new ≡ without key old) ⊎ (new ≡ without of_round (without key old)) → (new ≡ old) ⊎ (new ≡ without key old)
cache_used key of_round old new same one (inl stays) = inr stays
cache_used key of_round old new same one (inr out) = inr (out ∙ (ap (λ (k : List ℕ). without k (without key old)) same ∙ without_twice key old one))

-- the counter after the end of a round that met nothing
not_met : (old : Option Round) (round : Round) (counter : ℕ) → old ≡ None → round.met ≡ None → counter_without (Some round) counter ≡ counter_without old counter
not_met old round counter none met = ap (λ (b : Option Ballot). counter_after counter b) met ∙ sym (ap (λ (r : Option Round). counter_without r counter) none)

module _ {V : Type 0} (m : DiskMeaning V) (key : List ℕ) (old new : DeskView V) (round : Round) (none : old.round ≡ None) (same : round.key ≡ key) (met : round.met ≡ None) (one : promise_at key (without key old.cache) ≡ None) (up : old.down ≡ false) where
  -- the round was to propose by the promise that it used up
  pub failed_at_once : (told : Answer) → FailsToPropose m round.key (record old { cache = without key old.cache; round = Some round }) new told → FailsToOpen m key old new told
  failed_at_once answer.VaultFault by = (
    up,
    record {
      desk = by.desk ∙ ap (λ (l : List (List ℕ × Ready)). record old { vault = new.vault; cache = l; round = None; down = true }) (ap (λ (k : List ℕ). without k (without key old.cache)) same ∙ without_twice key old.cache one);
      counter = by.counter ∙ not_met old.round round (counter_of old.vault) none met;
      kept = by.kept;
      goes_on = by.goes_on;
      faulted = by.faulted;
    },
  )
  failed_at_once (answer.NoMemory proposed) by = (
    by.0,
    up,
    by.1,
    record {
      desk = by.2.desk;
      cache = cache_used key round.key old.cache new.cache same one by.2.cache;
      middle = by.2.middle;
      drawn = by.2.drawn;
      counter = by.2.counter ∙ not_met old.round round (counter_of by.2.middle) none met;
      kept = by.2.kept;
      goes_on = by.2.goes_on;
    },
  )
  failed_at_once (answer.Done _ _ _) by = elim by [ ]
  failed_at_once (answer.Conflict _) by = elim by [ ]
  failed_at_once (answer.Aged _) by = elim by [ ]
  failed_at_once (answer.Full _) by = elim by [ ]
  failed_at_once (answer.Short _ _) by = elim by [ ]
  failed_at_once (answer.Moved _) by = elim by [ ]
  failed_at_once answer.Crashed by = elim by [ ]
  failed_at_once (answer.Unsettled _) by = elim by [ ]
  failed_at_once answer.Down by = elim by [ ]
  failed_at_once answer.Spent by = elim by [ ]
  failed_at_once answer.RecordFull by = elim by [ ]

-- the desk whose round begins by a promise
pub accepting_desk : {V : Type 0} (old mid : DeskView V) (key : List ℕ) (round : Round) → mid ≡ record old { vault = mid.vault; cache = without key old.cache; round = mid.round } → mid.vault ≡ old.vault → mid.round ≡ Some round
    → mid ≡ record old { cache = without key old.cache; round = Some round }
accepting_desk {V} old mid key round at same is = at ∙ (λ i. record old { vault = same i; cache = without key old.cache; round = is i })

pub proposed_at_once : {V : Type 0} (m : DiskMeaning V) (era : Era) (key : List ℕ) (program : List Clause) (author : Author) (old new : DeskView V) (before after : FlowView) (proposing : Proposing) (ready : Ready) (round : Round)
    → old.down ≡ false → old.round ≡ None → promise_at key old.cache ≡ Some ready → IsOpened key era (began.Accept ready) round → proposing ≡ proposing_of author key era.number program ready
    → ProposesOn m round (record old { cache = without key old.cache; round = Some round }) new author.caller key era (outcome_of program ready.state).state ready.ballot before after
    → ProposesBy m era key program author old new before after proposing
proposed_at_once {V} m era key program author old new before after proposing ready round up none promise opened made on = record {
  up = up;
  ready = ready;
  ride = on.ride;
  round = round;
  begins = record { none_open = none; promise = promise; due = on.rides.due; drawn = on.rides.drawn; aged = on.rides.aged; opened = opened; desk = on.rides.desk };
  made = made;
  sends = on.sends;
}

-- the desk whose round begins at a ballot that was drawn
pub preparing_desk : {V : Type 0} (old mid : DeskView V) (key : List ℕ) (round : Round) → mid ≡ record old { vault = mid.vault; cache = without key old.cache; round = mid.round } → mid.round ≡ Some round
    → mid ≡ record old { vault = mid.vault; cache = without key old.cache; round = Some round }
preparing_desk {V} old mid key round at is = at ∙ ap (λ (r : Option Round). record old { vault = mid.vault; cache = without key old.cache; round = r }) is

module _ {V : Type 0} (tells : Type 0) (may_leave : V → List ℕ → Type 0) (faults : V → ℕ) where
  -- no memory was found for the frames of a round that prepares, and it is ended
  pub lost_at_once : (key : List ℕ) (old mid new : DeskView V) (ballot : Ballot) (round : Round) → old.round ≡ None → round.key ≡ key → round.met ≡ None → promise_at key (without key old.cache) ≡ None
      → HasDrawn (disks tells may_leave faults) old.id old.vault mid.vault ballot → mid ≡ record old { vault = mid.vault; cache = without key old.cache; round = Some round }
      → ((r : Round) → mid.round ≡ Some r → new ≡ record mid { vault = new.vault; cache = cache_after r None mid.cache; round = None })
      → counter_of new.vault ≡ counter_without mid.round (counter_of mid.vault) → kept_of new.vault ≡ kept_of mid.vault → disk_of new.vault ≡ disk_of mid.vault
      → ((n : ℕ) → IsPast may_leave n mid.vault → IsPast may_leave n new.vault) → LosesMemory (disks tells may_leave faults) key old new (Some ballot)
  lost_at_once key old mid new ballot round none same met one drawn at ends counted same_kept_of same_disk past =
      let is : mid.round ≡ Some round = ap (λ (d : DeskView V). d.round) at in
      let from : new ≡ record old { vault = new.vault; cache = without round.key mid.cache; round = None } =
      ends round is ∙ ap (λ (d : DeskView V). record d { vault = new.vault; cache = without round.key mid.cache; round = None }) at in
      let cache : new.cache ≡ without round.key mid.cache = ap (λ (d : DeskView V). d.cache) from in record {
        desk = from ∙ ap (λ (ready : List (List ℕ × Ready)). record old { vault = new.vault; cache = ready; round = None }) (sym cache);
        cache = cache_used key round.key old.cache new.cache same one (inr (cache ∙ ap (λ (d : DeskView V). without round.key d.cache) at));
        middle = mid.vault;
        drawn = drawn;
        counter = counted ∙ (ap (λ (r : Option Round). counter_without r (counter_of mid.vault)) is ∙ not_met old.round round (counter_of mid.vault) none met);
        kept = same_kept_of;
        goes_on = goes_on_still tells may_leave faults mid.vault new.vault same_disk same_kept_of past;
      }

  module _ (seen : V → List ℕ) (moment : V → ℕ) (left_since : V → ℕ → List ℕ → Type 0) (counts_now : (disk : V) (t : ℕ) (c : List ℕ) → tells → t ≤ moment disk → may_leave disk c → left_since disk t c) where
    pub drew_by : (old new : DeskView V) (ballot : Ballot) → old.id ≤ 16 → Draws old.id old.vault new.vault ballot → VaultStands tells seen may_leave new.vault → (tells → IsPast may_leave (counter_of new.vault) new.vault)
        → (tells → (n : ℕ) → IsPast may_leave n old.vault → IsPast may_leave n new.vault)
        → (tells → LeavesOnly moment left_since (disk_of old.vault) (disk_of new.vault) (KeepsBeforeOrAfter (kept_of old.vault) (kept_to_draw (counter_of old.vault) (kept_of old.vault))))
        → faults (disk_of old.vault) ≤ faults (disk_of new.vault)
        → HasDrawn (disks tells may_leave faults) old.id old.vault new.vault ballot
    drew_by old new ballot few draws stands past still moments never_falls = record {
      draws = draws;
      fits = rides_fits tells may_leave faults seen moment left_since counts_now old new ballot few draws stands;
      past = λ t. subst (λ (n : ℕ). IsPast may_leave n new.vault) (draws.counter ∙ sym (ap (λ (b : Ballot). b.counter) draws.next)) (past t);
      goes_on = goes_on tells may_leave faults seen moment left_since counts_now old.vault new.vault still moments (drawn_place (counter_of old.vault) (kept_of old.vault) (kept_of new.vault) draws.kept) never_falls;
    }

    -- a tag is drawn
    pub drew_tag : (old new : DeskView V) (ballot : Ballot) → old.id ≤ 16 → old.down ≡ false → Draws old.id old.vault new.vault ballot → new ≡ record old { vault = new.vault } → (new.down ≡ false → VaultStands tells seen may_leave new.vault)
        → (tells → IsPast may_leave ballot.counter new.vault) → (tells → (n : ℕ) → IsPast may_leave n old.vault → IsPast may_leave n new.vault)
        → (tells → LeavesOnly moment left_since (disk_of old.vault) (disk_of new.vault) (KeepsBeforeOrAfter (kept_of old.vault) (kept_to_draw (counter_of old.vault) (kept_of old.vault))))
        → faults (disk_of old.vault) ≤ faults (disk_of new.vault)
        → HasDrawn (disks tells may_leave faults) old.id old.vault new.vault ballot
    drew_tag old new ballot few up draws at stands past still moments never_falls =
        drew_by old new ballot few draws (stands (ap (λ (d : DeskView V). d.down) at ∙ up))
        (λ t. subst (λ (n : ℕ). IsPast may_leave n new.vault) (ap (λ (b : Ballot). b.counter) draws.next ∙ sym draws.counter) (past t)) still moments never_falls

    -- the vault failed in a draw beside rounds
    pub failed_tag : (old new : DeskView V) → old.round ≡ None → GoesDownInDraw old new → (tells → (n : ℕ) → IsPast may_leave n old.vault → IsPast may_leave n new.vault)
        → (tells → LeavesOnly moment left_since (disk_of old.vault) (disk_of new.vault) (KeepsBeforeOrAfter (kept_of old.vault) (kept_to_draw (counter_of old.vault) (kept_of old.vault))))
        → faults (disk_of old.vault) ≤ faults (disk_of new.vault) → Rose (faults (disk_of old.vault)) (faults (disk_of new.vault))
        → FailsToDraw (disks tells may_leave faults) old.cache old new
    failed_tag old new none goes still moments never_falls rose =
        record {
          desk = goes.desk ∙ ap (λ (r : Option Round). record old { vault = new.vault; cache = cache_without r old.cache; round = None; down = true }) none;
          counter = goes.counter;
          kept = goes.kept;
          goes_on = goes_on tells may_leave faults seen moment left_since counts_now old.vault new.vault still moments (same_place goes.kept) never_falls;
          faulted = rose;
        }

    -- nothing was drawn
    pub kept_by : (old new : DeskView V) → ShowsTheSame old.vault new.vault → (tells → (n : ℕ) → IsPast may_leave n old.vault → IsPast may_leave n new.vault)
        → (tells → LeavesOnly moment left_since (disk_of old.vault) (disk_of new.vault) (KeepsBeforeOrAfter (kept_of old.vault) (kept_to_draw (counter_of old.vault) (kept_of old.vault))))
        → faults (disk_of old.vault) ≤ faults (disk_of new.vault)
        → HasKept (disks tells may_leave faults) old.vault new.vault
    kept_by old new shows still moments never_falls = record {
      shows = shows;
      goes_on = goes_on tells may_leave faults seen moment left_since counts_now old.vault new.vault still moments (same_place shows.kept) never_falls;
    }

  -- no memory was found once a ballot was drawn or not, and no round is open
  pub lost_drawn : (key : List ℕ) (old new : DeskView V) (ballot : Option Ballot) → old.round ≡ None → MayHaveDrawn (disks tells may_leave faults) old.id old.vault new.vault ballot → new ≡ record old { vault = new.vault } → LosesMemory (disks tells may_leave faults) key old new ballot
  lost_drawn key old new ballot none kept at = record {
    desk = at ∙ (λ i. record old { vault = new.vault; cache = ap (λ (d : DeskView V). d.cache) (sym at) i; round = none i });
    cache = inl (ap (λ (d : DeskView V). d.cache) at);
    middle = new.vault;
    drawn = kept;
    counter = sym (ap (λ (r : Option Round). counter_without r (counter_of new.vault)) none);
    kept = refl;
    goes_on = goes_on_same tells may_leave faults new.vault;
  }

  pub lost_idle : (key : List ℕ) (old new : DeskView V) → old.round ≡ None → HasKept (disks tells may_leave faults) old.vault new.vault → new ≡ record old { vault = new.vault } → LosesMemory (disks tells may_leave faults) key old new None
  lost_idle key old new none kept at = lost_drawn key old new None none kept at

  -- a tag that was drawn, or that of a listing
  pub lost_tagged : (goes_on : Option ListingView) (old new : DeskView V) (tag : Ballot) → old.round ≡ None → HasTag (disks tells may_leave faults) goes_on old new tag → new ≡ record old { vault = new.vault }
      → (ballot : Option Ballot) × LosesMemory (disks tells may_leave faults) [] old new ballot
  lost_tagged None old new tag none has at = (Some tag, lost_drawn [] old new (Some tag) none has at)
  lost_tagged (Some listing) old new tag none has at = (
    None,
    lost_idle [] old new none (subst (λ (v : Vault V). HasKept (disks tells may_leave faults) old.vault v) (sym has.1) (record { shows = record { counter = refl; kept = refl }; goes_on = goes_on_same tells may_leave faults old.vault })) at,
  )

  -- it is one for what is asked at the age of a vault that is in use
  pub tags_all : (seen : V → List ℕ) (goes_on : Option ListingView) (old new : DeskView V) (tag : Ballot) → VaultStands tells seen may_leave old.vault → HasTag (disks tells may_leave faults) goes_on old new tag → TagsAll (disks tells may_leave faults) goes_on old new tag
  tags_all seen goes_on old new tag stands has = record {
    has_tag = has;
    aged = λ t. (tag_goes_on (disks tells may_leave faults) goes_on old new tag has).ages t _ (aged_by tells may_leave faults seen (kept_of old.vault).age old.vault stands refl t);
  }

  pub failed_idle : (old new : DeskView V) → old.round ≡ None → HasKept (disks tells may_leave faults) old.vault new.vault → new ≡ record old { vault = new.vault; down = new.down }
      → new.down ≡ true → Rose (faults (disk_of old.vault)) (faults (disk_of new.vault)) → FailsToDraw (disks tells may_leave faults) old.cache old new
  failed_idle old new none kept at down rose = record {
    desk = at ∙ (λ i. record old { vault = new.vault; round = none i; down = down i });
    counter = kept.shows.counter ∙ sym (ap (λ (r : Option Round). counter_without r (counter_of old.vault)) none);
    kept = kept.shows.kept;
    goes_on = kept.goes_on;
    faulted = rose;
  }

pub up_desk : {V : Type 0} (old new : DeskView V) → new ≡ record old { vault = new.vault; down = new.down } → new.down ≡ false → old.down ≡ false → new ≡ record old { vault = new.vault }
up_desk {V} old new at up was = at ∙ ap (λ (b : Bool). record old { vault = new.vault; down = b }) (up ∙ sym was)
