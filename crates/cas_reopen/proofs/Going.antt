-- Stores whose worlds stand on the disks of a rack.
use Rattle.std.proofs.Common.{◌≡◌, ◌<◌, ◌≤◌, ◌+◌, ℕ, zero, suc, Bool, true, false, List, [], ◌∷◌, ◌++◌, length, map, Ok, Err, refl, sym, ap, subst, ◌∙◌, inl, inr, arith}
use Rattle.std.specs.Prelude.{◌⊎◌, slice_get, Option, None, Some, drop}
use Rattle.std.specs.Option.{option_map}
use Rattle.std.proofs.lemmas.List.{length-map}
use Rattle.std.proofs.lemmas.Option.{slice_get-map, slice_get_within}
use Rattle.cas_base.specs.Faults.{Rose}
use Rattle.cas_acceptor.specs.Acceptor.{AcceptorView}
use Rattle.cas_ballot.specs.Members.{has_member, IsMemberSet}
use Rattle.cas_proposer.specs.Desk.{DeskView}
use Rattle.cas_slot.specs.Contents.{Contents}
use Rattle.cas_slot.specs.Shelf.{Left}
use Rattle.cas_disk.specs.declared.disk.Disk.{Ghosts as DiskKind}
use Rattle.cas_disk_shelf.specs.Shelf.{disk_of, contents_of, ShelfMayLeave}
use Rattle.cas_disk_shelf.specs.declared.shelf.DiskShelf.{DiskShelf}
use Rattle.cas_vault.specs.Vault.{disk_of as vault_disk_of}
use Rattle.cas_model.specs.Openings.{Opening}
use Rattle.cas_model.specs.View.{Meaning, DiskMeaning, View, IsAt, disk_meaning}
use Rattle.cas_model.proofs.Frames.Harms.{member_low}
use Rattle.cas_model.proofs.Safety.Parts.{at_low}
use Rattle.cas_restore.proofs.Placing.{there_too}
use Rattle.cas_world.specs.Openings.Opening.{disks_of}
use Rattle.cas_world.specs.Openings.OpeningOn.{placed_as, placed, IsFaultOfVault, AVaultIsNotTakenUp, DoesNotGoOn}
use Rattle.cas_world.specs.Openings.OpeningOn.DoesNotGoOn.{none_touched, one_refused}
use Rattle.cas_world.specs.declared.fault.OpenFault.{OpenFault}
use Rattle.cas_world.specs.declared.fault.OpenFault.TheVariants as opening
use Rattle.cas_world.proofs.Openings.OpeningsOn.{placed_at}
use Rattle.cas_store.specs.Rack.{RackMeaning, rack_meaning}
use Rattle.cas_store.specs.Store.{acceptor_disks}
use Rattle.cas_store.specs.declared.rack.Rack.{Rack}
use Rattle.cas_store.proofs.Keeping.{stored}
use Rattle.cas_store.proofs.Standing.{at_mapped}
use Rattle.cas_reopen.specs.declared.fault.ReopenFault.{ReopenFault}
use Rattle.cas_reopen.specs.declared.fault.ReopenFault.TheVariants as reopen
use Rattle.cas_reopen.specs.Closed.{IsForeignDisk, IsWhyNotOpened}
use Rattle.cas_reopen.specs.Closed.IsForeignDisk.{no_shelf, no_vault}
use Rattle.cas_reopen.specs.Faults.{fault_of_opening, MayBeLeft, IsWhyNotRestored}
use Rattle.cas_reopen.specs.Filled.{disks_in}
use Rattle.cas_reopen.specs.Opened.{leaves_of, StoodOnDisks, GoesOnOver}
use Rattle.cas_reopen.specs.Ready.{OthersStay, AreReadyFor, IsOpenOnShelves, IsNotOpenOnShelves, GoesOnFromDisks}
use Rattle.cas_reopen.specs.Ready.IsNotOpenOnShelves.{not_ready, not_taken_up}
use Rattle.cas_reopen.specs.Shelves.{AreRestored, AreLeftBetween, StopsWithinGiving}
use Rattle.cas_reopen.specs.Shelves.StopsWithinGiving.{before_giving, in_giving}
use Rattle.cas_reopen.proofs.Asked.{at_first, at_second}

-- ---- acceptors on their disks
placed_shelf : {D : Type 0} (member : Bool) (id : ℕ) (shelf : DiskShelf D) → disk_of (placed_as member id shelf).shelf ≡ disk_of shelf
placed_shelf true id shelf = refl
placed_shelf false id shelf = refl

placed_disks : {D : Type 0} (members : List ℕ) (number : ℕ) (shelves : List (DiskShelf D)) → acceptor_disks (placed members number shelves) ≡ map disk_of shelves
placed_disks members number [] = refl
placed_disks {D} members number (shelf ∷ shelves) =
    ap (λ (d : D). d ∷ acceptor_disks (placed members (suc number) shelves)) (placed_shelf (has_member members number) number shelf)
    ∙ ap (λ (l : List D). disk_of shelf ∷ l) (placed_disks members (suc number) shelves)

placed_up : {S : Type 0} (members : List ℕ) (shelves : List S) (id : ℕ) (acceptor : AcceptorView S) → IsAt (placed members 0 shelves) id acceptor → has_member members id ≡ true → acceptor.down ≡ false
placed_up {S} members shelves id acceptor at member =
    let found = placed_at members 0 shelves id acceptor at in
    ap (λ (a : AcceptorView S). a.down) (found.2 ∙ ap (λ (b : Bool). placed_as b (0 + id) found.0) (ap (has_member members) (let e : 0 + id ≡ id = omega arith in e) ∙ member))

same_disk : {D : Type 0} (old new : List (DiskShelf D)) (id : ℕ) → slice_get new id ≡ slice_get old id → slice_get (map disk_of new) id ≡ slice_get (map disk_of old) id
same_disk {D} old new id same = slice_get-map disk_of new id ∙ ap (λ (o : Option (DiskShelf D)). option_map disk_of o) same ∙ sym (slice_get-map disk_of old id)

-- a shelf stands on the disk of its place
on_disk : {D : Type 0} (shelves : List (DiskShelf D)) (disks : List D) (id : ℕ) (shelf : DiskShelf D) → map disk_of shelves ≡ disks → IsAt shelves id shelf → IsAt disks id (disk_of shelf)
on_disk {D} shelves disks id shelf over at =
    subst (λ (l : List D). IsAt l id (disk_of shelf)) over (slice_get-map disk_of shelves id ∙ ap (λ (o : Option (DiskShelf D)). option_map disk_of o) at)

off_disk : {D : Type 0} (shelves : List (DiskShelf D)) (disks : List D) (id : ℕ) (disk : D) → map disk_of shelves ≡ disks → IsAt disks id disk
    → (shelf : DiskShelf D) × IsAt shelves id shelf × (disk_of shelf ≡ disk)
off_disk {D} shelves disks id disk over at = at_mapped disk_of shelves id disk (subst (λ (l : List D). IsAt l id disk) (sym over) at)

-- ---- what is said of shelves is said of their disks
module _ {D : Type 0} (may_leave : D → List ℕ → Type 0) (members : List ℕ) (shelves : List (DiskShelf D)) (disks : List D) (over : map disk_of shelves ≡ disks) where
  abbrev Leaves : DiskShelf D → Left → Type 0
  Leaves shelf left = ShelfMayLeave may_leave shelf left

  pub may_be_on : (left : ℕ → Contents) → MayBeLeft Leaves members shelves left → MayBeLeft (leaves_of may_leave) members disks left
  may_be_on left may_be = λ id was member at.
      let it = off_disk shelves disks id was over at in
      subst (λ (d : D). leaves_of may_leave d (Ok (left id))) it.2 (may_be id it.0 member it.1)

  pub stops_on : (shelves_back : List (DiskShelf D)) (back : List D) → back ≡ map disk_of shelves_back → StopsWithinGiving Leaves members shelves shelves_back
      → StopsWithinGiving (leaves_of may_leave) members disks back
  stops_on shelves_back back off (before_giving leave) = before_giving (λ id was now l member at at_now leaves.
      let before = off_disk shelves disks id was over at in
      let after = off_disk shelves_back back id now (sym off) at_now in
      subst (λ (d : D). leaves_of may_leave d l) before.2 (leave id before.0 after.0 l member before.1 after.1 (subst (λ (d : D). leaves_of may_leave d l) (sym after.2) leaves)))
  stops_on shelves_back back off (in_giving left may_be between) = in_giving left (may_be_on left may_be) (record {
    slots = between.slots;
    found = between.found;
    each = λ id now l member at_now leaves.
        let after = off_disk shelves_back back id now (sym off) at_now in
        between.each id after.0 l member after.1 (subst (λ (d : D). leaves_of may_leave d l) (sym after.2) leaves);
  })

  pub others_on : (shelves_back : List (DiskShelf D)) (back : List D) → back ≡ map disk_of shelves_back → OthersStay members shelves shelves_back → OthersStay members disks back
  others_on shelves_back back off stay = λ id other.
      ap (λ (l : List D). slice_get l id) off ∙ same_disk shelves shelves_back id (stay id other) ∙ ap (λ (l : List D). slice_get l id) over

-- ---- a world over a rack
pub goes_on_from : {D : Type 0} (meant : Meaning (DiskShelf D) D) (m : RackMeaning D) (is_up : DiskShelf D → Type 0) (members used : List ℕ) (proposers : ℕ) (is_new : Bool)
    (shelves : List (DiskShelf D)) (rack : Rack D) (world : View (DiskShelf D) D)
    → (m.tells → meant.shelves.tells) → ((shelf : DiskShelf D) (left : Left) → meant.shelves.may_leave shelf left → ShelfMayLeave m.may_leave shelf left)
    → map disk_of shelves ≡ rack.acceptors.items → length rack.acceptors.items ≡ 64
    → IsOpenOnShelves meant is_up m.seen members used proposers is_new shelves rack.vaults.items world → GoesOnFromDisks meant m members used proposers is_new rack world
goes_on_from {D} meant m is_up members used proposers is_new shelves rack world tells reads over all made = record {
  floors = made.floors;
  past = made.past;
  none = made.none;
  stood = λ goes.
      let restored = made.restored goes in
      record {
        left = restored.left;
        may_be = λ told. may_be_on m.may_leave members shelves rack.acceptors.items over restored.left
            (λ id was member at. reads was (Ok (restored.left id)) (restored.may_be (tells told) id was member at));
        found = restored.given.found;
        counter = restored.given.counter;
      };
  goes_on = record {
    opening = made.opening;
    places = made.places;
    last_proposer = made.last_proposer;
    up = λ id acceptor at member. placed_up members made.ready id acceptor (subst (λ (l : List (AcceptorView (DiskShelf D))). IsAt l id acceptor) made.acceptors at) member;
    all = ap (λ (l : List D). length l) disks ∙ length-map made.ready disk_of ∙ made.are_ready.places ∙ sym (length-map shelves disk_of) ∙ ap (λ (l : List D). length l) over ∙ all;
    others = λ id other.
        ap (λ (l : List D). slice_get l id) disks ∙ same_disk shelves made.ready id (made.are_ready.others id other) ∙ ap (λ (l : List D). slice_get l id) over;
    vaults = made.taken_up;
  };
}
  where
    disks : acceptor_disks world.acceptors ≡ map disk_of made.ready
    disks = ap (λ (l : List (AcceptorView (DiskShelf D))). acceptor_disks l) made.acceptors ∙ placed_disks members 0 made.ready

-- ---- a rack over which no world is opened
module _ {D : Type 0} (m : RackMeaning D) (members : List ℕ) (set : IsMemberSet members) (shelves shelves_back : List (DiskShelf D)) (old new : Rack D)
    (over : map disk_of shelves ≡ old.acceptors.items) (off : new.acceptors.items ≡ map disk_of shelves_back) (all : length old.acceptors.items ≡ 64) (all_back : length new.acceptors.items ≡ 64) where
  -- a member's shelf, before and after
  member_at : (disk : ℕ) → has_member members disk ≡ true → (was now : DiskShelf D) × IsAt shelves disk was × IsAt shelves_back disk now
  member_at disk member =
      let low = member_low members disk set member in
      let was = at_low old.acceptors.items disk (omega (arith, low, all)) in
      let now = at_low new.acceptors.items disk (omega (arith, low, all_back)) in
      let before = off_disk shelves old.acceptors.items disk was.0 over was.1 in
      let after = off_disk shelves_back new.acceptors.items disk now.0 (sym off) now.1 in
      (before.0, after.0, before.1, after.1)

  why_not_ready : (fault : ReopenFault)
      → IsWhyNotRestored m.tells (λ shelf. contents_of shelf) (λ shelf left. ShelfMayLeave m.may_leave shelf left) (λ shelf. m.faults (disk_of shelf)) members shelves shelves_back fault
      → IsWhyNotOpened m members old new fault
  why_not_ready (reopen.Foreign disk at) why =
      let here = member_at disk why.0 in
      no_shelf (disk_of here.0) why.0 (on_disk shelves old.acceptors.items disk here.0 over here.2) (λ told. why.1 here.0 here.2 told)
  why_not_ready (reopen.TooManyKeys keys) why = record { left = why.0; may_be = λ told. may_be_on m.may_leave members shelves old.acceptors.items over why.0 (why.1 told); many = why.2 }
  why_not_ready (reopen.LostDisk disk) why = absurd why
  why_not_ready (reopen.Spent disk) why = absurd why
  why_not_ready (reopen.DiskFault disk) why =
      let here = member_at disk why.0 in (
        disk_of here.0,
        disk_of here.1,
        at_first old.acceptors.items old.vaults.items disk (disk_of here.0) (on_disk shelves old.acceptors.items disk here.0 over here.2),
        at_first new.acceptors.items new.vaults.items disk (disk_of here.1) (on_disk shelves_back new.acceptors.items disk here.1 (sym off) here.3),
        why.1 here.0 here.1 here.2 here.3,
      )
  why_not_ready reopen.NoMemory why = tt

  -- a vault that was not taken up
  module _ (number : ℕ) (was now : D) (at_was : IsAt old.vaults.items number was) (at_now : IsAt new.vaults.items number now) where
    is_high : 64 ≤ 64 + number
    is_high = omega arith

    was_there : IsAt (disks_in old) (64 + number) was
    was_there = subst (λ (n : ℕ). IsAt (disks_in old) (n + number) was) all (at_second old.acceptors.items old.vaults.items number was at_was)

    now_there : IsAt (disks_in new) (64 + number) now
    now_there = subst (λ (n : ℕ). IsAt (disks_in new) (n + number) now) all_back (at_second new.acceptors.items new.vaults.items number now at_now)

    pub why_not_taken_up : (disks : DiskMeaning D) (why : OpenFault) → (m.tells → disks.tells) → ((c : List ℕ) → m.may_leave now c → disks.may_leave now c)
        → IsFaultOfVault disks m.seen (64 + number) (m.faults was) (m.faults now) now why → IsWhyNotOpened m members old new (fault_of_opening why)
    why_not_taken_up disks (opening.DiskFault disk) tells reads is =
        (was, now, subst (λ (n : ℕ). IsAt (disks_in old) n was) (sym is.0) was_there, subst (λ (n : ℕ). IsAt (disks_in new) n now) (sym is.0) now_there, is.1)
    why_not_taken_up disks (opening.Foreign disk at) tells reads is =
        no_vault now (subst (λ (n : ℕ). 64 ≤ n) (sym is.0) is_high) (subst (λ (n : ℕ). IsAt (disks_in new) n now) (sym is.0) now_there) (λ told. is.1 (tells told))
    why_not_taken_up disks (opening.Spent disk) tells reads is = record {
      now = now;
      vault = subst (λ (n : ℕ). 64 ≤ n) (sym is.0) is_high;
      at = subst (λ (n : ℕ). IsAt (disks_in new) n now) (sym is.0) now_there;
      kept = is.1;
      age = is.2;
      keeps = λ told image may. is.3 (tells told) image (reads image may);
    }
    why_not_taken_up disks opening.NoMemory tells reads is = tt

-- the disk of the vault that was not taken up, as it comes back
refused_at : {D : Type 0} (disks : List D) (desks : List (DeskView D)) (left back : List D) (number : ℕ) (now : D) (rest : List D) → back ≡ disks_of desks ++ left → left ≡ now ∷ rest
    → length desks ≡ number → IsAt back number now
refused_at {D} disks desks left back number now rest is first many =
    subst (λ (l : List D). IsAt l number now) (sym (is ∙ ap (λ (l : List D). disks_of desks ++ l) first))
    (subst (λ (n : ℕ). IsAt (disks_of desks ++ now ∷ rest) n now) (here (length (disks_of desks)) number (length-map desks (λ (d : DeskView D). vault_disk_of d.vault) ∙ many))
    (at_second (disks_of desks) (now ∷ rest) 0 now refl))
  where
    here : (n number : ℕ) → n ≡ number → n + 0 ≡ number
    here n number is = omega (arith, is)

pub not_opened : {D : Type 0} (K : DiskKind D) (members : List ℕ) (set : IsMemberSet members) (proposers : ℕ) (shelves shelves_back : List (DiskShelf D)) (old new : Rack D)
    → map disk_of shelves ≡ old.acceptors.items → new.acceptors.items ≡ map disk_of shelves_back → length old.acceptors.items ≡ 64 → length new.acceptors.items ≡ 64
    → (fault : ReopenFault) → IsNotOpenOnShelves (stored K) K.seen members proposers shelves old.vaults.items fault shelves_back new.vaults.items
    → IsWhyNotOpened (rack_meaning K) members old new fault
not_opened K members set proposers shelves shelves_back old new over off all all_back fault (not_ready why same) =
    why_not_ready (rack_meaning K) members set shelves shelves_back old new over off all all_back fault why
not_opened K members set proposers shelves shelves_back old new over off all all_back fault (not_taken_up past ready why is (none_touched none same_shelves same_vaults)) =
    subst (IsWhyNotOpened (rack_meaning K) members old new) (sym (is ∙ ap fault_of_opening none)) tt
not_opened K members set proposers shelves shelves_back old new over off all all_back fault (not_taken_up past ready why is (one_refused desks left refused same_shelves back)) =
    subst (IsWhyNotOpened (rack_meaning K) members old new) (sym is)
    (why_not_taken_up (rack_meaning K) members set shelves shelves_back old new over off all all_back refused.number refused.disk refused.now refused.at_disk
    (refused_at old.vaults.items desks left new.vaults.items refused.number refused.now (drop (refused.number + 1) old.vaults.items) back refused.rest refused.made.places)
    (disk_meaning K) why (λ told. told) (λ c may. may) refused.cause)

-- ---- shelves that come back
pub same_back : {S V : Type 0} (m : DiskMeaning V) (seen : V → List ℕ) (faults : V → ℕ) (past proposers : ℕ) (shelves shelves_back : List S) (disks disks_back : List V) (fault : OpenFault)
    → DoesNotGoOn m seen faults past proposers shelves disks fault shelves_back disks_back → shelves_back ≡ shelves
same_back m seen faults past proposers shelves shelves_back disks disks_back fault (none_touched none same_shelves same_disks) = same_shelves
same_back m seen faults past proposers shelves shelves_back disks disks_back fault (one_refused desks left refused same_shelves back) = same_shelves
