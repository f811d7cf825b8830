-- Ballots stay within their limits.
use Rattle.std.proofs.Common.{◌≡◌, ℕ, Bool, true, false, cond, ◌<◌, List, [], length, take, None, Some, ◌∙◌, inl, inr, sym, ap, subst, arith}
use Rattle.std.specs.Prelude.{Option, IfSome}
use Rattle.std.proofs.lemmas.List.{length-take}
use Rattle.std.specs.FinMap as map
use Rattle.std.specs.Ordering.{nat_cmp, is_lt}
use Rattle.std.specs.Cmp.Lexicographic.{slice_cmp}
use Rattle.cas_ballot.specs.declared.ballot.Ballot.{Ballot}
use Rattle.cas_ballot.specs.Ballot.{FitsBallot, zero_ballot, ballot_cmp}
use Rattle.cas_slot.specs.declared.ages.Ages.{Ages}
use Rattle.cas_slot.specs.declared.slot.Accepted.{Accepted}
use Rattle.cas_slot.specs.declared.slot.Slot.{Slot}
use Rattle.cas_slot.specs.declared.message.Ask.{Ask}
use Rattle.cas_slot.specs.declared.message.Ask.TheVariants as ask
use Rattle.cas_slot.specs.declared.message.Tell.{Tell}
use Rattle.cas_slot.specs.declared.message.Tell.TheVariants as tell
use Rattle.cas_slot.specs.Contents.{Contents, kept_at, with_kept, without_kept}
use Rattle.cas_slot.specs.Limits.{SlotBallotsFit, TellFits, AllBallotsFit, CanBeListed}
use Rattle.cas_slot.specs.Slot.{accepted_ballot, accepted_of, promise_of, seen_of}
use Rattle.cas_slot.specs.Slots.{Slots, no_slots, keys_above}
use Rattle.cas_slot.specs.Table.{Answers}
use Rattle.cas_slot.proofs.ListingLemmas.{page_rises}
use Rattle.cas_slot.proofs.SlotsLemmas.{lookup-slots, slot_cases, removed_cases}

pub zero_fits : FitsBallot zero_ballot
zero_fits = record { counter = omega arith; proposer = omega arith }

-- where there are no slots, none is beyond them
pub nothing_fits : (ages : Ages) → AllBallotsFit (record { slots = no_slots; ages = ages })
nothing_fits ages key = subst (λ (o : Option Slot). IfSome o SlotBallotsFit) (sym (map.get-empty (slice_cmp nat_cmp) key)) tt

pub none_fit : (ages : Ages) (entries : List (List ℕ × Slot)) → entries ≡ [] → AllBallotsFit (record { slots = map.from_entries entries; ages = ages })
none_fit ages entries none = rw none (λ key. subst (λ (o : Option Slot). IfSome o SlotBallotsFit) (lookup-slots key []) tt)

pub put_fits : (old : Contents) (key : List ℕ) (slot : Slot) → AllBallotsFit old → SlotBallotsFit slot → AllBallotsFit (with_kept old key slot)
put_fits old key slot all fits q = elim (slot_cases old.slots key slot q) [
  | inl put ↦ subst (λ (o : Option Slot). IfSome o SlotBallotsFit) (sym put) fits
  | inr kept ↦ subst (λ (o : Option Slot). IfSome o SlotBallotsFit) (sym kept) (all q)
]

pub removal_fits : (old : Contents) (key : List ℕ) → AllBallotsFit old → AllBallotsFit (without_kept old key)
removal_fits old key all q = elim (removed_cases old.slots key q) [
  | inl gone ↦ subst (λ (o : Option Slot). IfSome o SlotBallotsFit) (sym gone) tt
  | inr kept ↦ subst (λ (o : Option Slot). IfSome o SlotBallotsFit) (sym kept) (all q)
]

-- ---- what is told of a slot

promise_fits : (slot : Option Slot) → IfSome slot SlotBallotsFit → FitsBallot (promise_of slot)
promise_fits None fits = zero_fits
promise_fits (Some slot) fits = fits.promise

pub accepted_fits : (slot : Option Slot) → IfSome slot SlotBallotsFit → IfSome (accepted_of slot) (λ a. FitsBallot a.ballot)
accepted_fits None fits = tt
accepted_fits (Some slot) fits = fits.accepted

accepted_ballot_fits : (accepted : Option Accepted) → IfSome accepted (λ a. FitsBallot a.ballot) → FitsBallot (accepted_ballot accepted)
accepted_ballot_fits None fits = zero_fits
accepted_ballot_fits (Some accepted) fits = fits

greater_by : (t : Bool) (a b : Ballot) → FitsBallot a → FitsBallot b → FitsBallot (cond t b a)
greater_by true a b p q = q
greater_by false a b p q = p

seen_fits : (slot : Option Slot) → IfSome slot SlotBallotsFit → FitsBallot (seen_of slot)
seen_fits None fits = zero_fits
seen_fits (Some slot) fits = greater_by (is_lt (ballot_cmp slot.promise (accepted_ballot slot.accepted))) slot.promise (accepted_ballot slot.accepted) fits.promise (accepted_ballot_fits slot.accepted fits.accepted)

listed_fits : (slots : Slots) (after told : Option (List ℕ)) (keys : List (List ℕ)) (more : Bool) → told ≡ after → keys ≡ take 4 (keys_above slots after)
    → (more ≡ true → 4 < length (keys_above slots after)) → CanBeListed told keys more
listed_fits slots after told keys more same first follow =
    (rw (same, first) (page_rises slots after 4), λ yes. ap length first ∙ omega (arith, length-take 4 (keys_above slots after), follow yes))

-- what is told of contents whose ballots are within their limits
pub told_fits : (old : Contents) (question : Ask) (answer : Tell) (new : Contents) → AllBallotsFit old → Answers old question answer new → TellFits answer
told_fits old (ask.Prepare key ballot) (tell.Met seen) new all row = subst FitsBallot (sym row.0) (seen_fits (kept_at old key) (all key))
told_fits old (ask.Prepare key ballot) (tell.Promised accepted) new all row =
    subst (λ (o : Option Accepted). IfSome o (λ a. FitsBallot a.ballot)) (sym row.0) (accepted_fits (kept_at old key) (all key))
told_fits old (ask.Prepare key ballot) (tell.Probed promise accepted) new all row = absurd row
told_fits old (ask.Prepare key ballot) (tell.Listed told keys more) new all row = absurd row
told_fits old (ask.Accept key ballot era ride state) (tell.Met seen) new all row = subst FitsBallot (sym row.1) (seen_fits (kept_at old key) (all key))
told_fits old (ask.Accept key ballot era ride state) (tell.Promised accepted) new all row = absurd row
told_fits old (ask.Accept key ballot era ride state) (tell.Probed promise accepted) new all row = absurd row
told_fits old (ask.Accept key ballot era ride state) (tell.Listed told keys more) new all row = absurd row
told_fits old (ask.Ages tag least) (tell.Met seen) new all row = absurd row
told_fits old (ask.Ages tag least) (tell.Promised accepted) new all row = absurd row
told_fits old (ask.Ages tag least) (tell.Probed promise accepted) new all row = absurd row
told_fits old (ask.Ages tag least) (tell.Listed told keys more) new all row = absurd row
told_fits old (ask.Remove key tomb) (tell.Met seen) new all row = absurd row
told_fits old (ask.Remove key tomb) (tell.Promised accepted) new all row = absurd row
told_fits old (ask.Remove key tomb) (tell.Probed promise accepted) new all row = absurd row
told_fits old (ask.Remove key tomb) (tell.Listed told keys more) new all row = absurd row
told_fits old (ask.List tag after) (tell.Met seen) new all row = absurd row
told_fits old (ask.List tag after) (tell.Promised accepted) new all row = absurd row
told_fits old (ask.List tag after) (tell.Probed promise accepted) new all row = absurd row
told_fits old (ask.List tag after) (tell.Listed told keys more) new all row = listed_fits old.slots after told keys more row.0 row.1 row.2.0
told_fits old (ask.Probe tag key) (tell.Met seen) new all row = absurd row
told_fits old (ask.Probe tag key) (tell.Promised accepted) new all row = absurd row
told_fits old (ask.Probe tag key) (tell.Probed promise accepted) new all row = (
  subst FitsBallot (sym row.0) (promise_fits (kept_at old key) (all key)),
  subst (λ (o : Option Accepted). IfSome o (λ a. FitsBallot a.ballot)) (sym row.1) (accepted_fits (kept_at old key) (all key)),
)
told_fits old question tell.Accepted new all row = tt
told_fits old question (tell.Aged least) new all row = tt
told_fits old question tell.Full new all row = tt
told_fits old question tell.AgesSet new all row = tt
told_fits old question tell.Removed new all row = tt
told_fits old question tell.Kept new all row = tt
told_fits old (ask.Probe tag key) (tell.Listed told keys more) new all row = absurd row
