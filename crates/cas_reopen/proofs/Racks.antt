-- Stores that are opened over a rack all of whose disks have told their lengths.
use Rattle.std.proofs.Common.{◌≡◌, ◌∙◌, ℕ, List, [], true, false, Ok, Err, refl, sym, ap, subst}
use Rattle.std.specs.Prelude.{Result, IfErr}
use Rattle.cas_ballot.specs.Members.{has_member}
use Rattle.cas_disk_shelf.specs.declared.shelf.DiskShelf.{DiskShelf}
use Rattle.cas_model.specs.Openings.{Opening}
use Rattle.cas_model.specs.View.{Meaning, View}
use Rattle.cas_world.specs.Openings.Opening.{members_to}
use Rattle.cas_store.specs.Rack.{RackMeaning, IsAllEmpty}
use Rattle.cas_store.specs.declared.rack.Rack.{Rack}
use Rattle.cas_reopen.specs.declared.fault.ReopenFault.{ReopenFault}
use Rattle.cas_reopen.specs.declared.fault.ReopenFault.TheVariants as reopen
use Rattle.cas_reopen.specs.Closed.{NoneIsLost, NoneWasLost, ComesInOrder}
use Rattle.cas_reopen.specs.Filled.{AreLengthsOf, RackGivesNoLength}
use Rattle.cas_reopen.specs.Opened.{GoesOnOver, IsOpenedOver}
use Rattle.cas_reopen.specs.Opened.IsOpenedOver.{is_named, is_reopened}
use Rattle.cas_reopen.specs.Ready.{GoesOnFromDisks}
use Rattle.cas_reopen.proofs.Asked.{may_be_since}

module _ {D : Type 0} (meant : Meaning (DiskShelf D) D) (m : RackMeaning D) (acceptors proposers : ℕ) (members : List ℕ) (rack asked : Rack D) (world : View (DiskShelf D) D) where
  pub reopened : (filled vaults : List ℕ) → AreLengthsOf m filled vaults rack asked → NoneIsLost members filled vaults → GoesOnFromDisks meant m members filled proposers false asked world
      → IsOpenedOver meant m acceptors proposers members rack world
  reopened filled vaults lengths stand goes =
      let stood = goes.stood refl in
      is_reopened (record {
        asked = asked;
        filled = filled;
        vaults = vaults;
        lengths = lengths;
        none_lost = stand.each;
        vault = stand.vault;
        floors = goes.floors;
        past = goes.past;
        stood = record {
          left = stood.left;
          may_be = λ told. may_be_since m members filled vaults rack asked lengths stood.left told (stood.may_be told);
          found = stood.found;
          counter = stood.counter;
        };
        goes_on = goes.goes_on;
      })

  pub named : (used : List ℕ) → used ≡ [] → IsAllEmpty m rack asked → GoesOnFromDisks meant m members used proposers true asked world → IsOpenedOver meant m acceptors proposers members rack world
  named used none empty goes =
      let bare = goes.none refl in
      is_named asked empty
      (subst (λ (u : List ℕ). GoesOnOver meant m.seen members u [] proposers 0 asked world) none
      (subst (λ (f : List Opening). GoesOnOver meant m.seen members used f proposers 0 asked world) bare.0
      (subst (λ (p : ℕ). GoesOnOver meant m.seen members used goes.floors proposers p asked world) bare.1 goes.goes_on)))

-- what holds of each fault holds of that of a result
pub each_err : {T F : Type 0} (P : F → Type 0) (result : Result T F) → ((fault : F) → P fault) → IfErr result P
each_err P (Ok value) holds = tt
each_err P (Err fault) holds = holds fault

-- ---- the order of the faults
pub in_order : {D : Type 0} (m : RackMeaning D) (members : List ℕ) (old : Rack D) (fault : ReopenFault) → NoneWasLost m members old → ComesInOrder m members old fault
in_order m members old (reopen.Foreign disk at) none = none
in_order m members old (reopen.TooManyKeys keys) none = none
in_order m members old (reopen.LostDisk disk) none = tt
in_order m members old (reopen.Spent disk) none = none
in_order m members old (reopen.DiskFault disk) none = tt
in_order m members old reopen.NoMemory none = tt

pub unknown_in_order : {D : Type 0} (m : RackMeaning D) (members : List ℕ) (old new : Rack D) (fault : ReopenFault) → RackGivesNoLength m old new fault → ComesInOrder m members old fault
unknown_in_order m members old new (reopen.Foreign disk at) gives = absurd gives.why
unknown_in_order m members old new (reopen.TooManyKeys keys) gives = absurd gives.why
unknown_in_order m members old new (reopen.LostDisk disk) gives = tt
unknown_in_order m members old new (reopen.Spent disk) gives = absurd gives.why
unknown_in_order m members old new (reopen.DiskFault disk) gives = tt
unknown_in_order m members old new reopen.NoMemory gives = tt
