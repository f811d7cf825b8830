-- Worlds that stand on the disks of a rack.
use Rattle.std.proofs.Common.{◌≡◌, ◌<◌, ◌≤◌, ℕ, zero, suc, List, [], ◌∷◌, ◌++◌, length, map, Some, refl, sym, ap, subst, ◌∙◌, inl, inr, arith}
use Rattle.std.specs.Prelude.{◌⊎◌, ◌+◌, ◌==◌, true, false, drop}
use Rattle.std.specs.List.{range_with_len}
use Rattle.cas_base.proofs.Bools.{or_cases}
use Rattle.cas_ballot.specs.Members.{has_member}
use Rattle.cas_record.proofs.Tests.{nat_same}
use Rattle.std.proofs.lemmas.List.{length-map}
use Rattle.cas_acceptor.specs.Acceptor.{AcceptorView}
use Rattle.cas_proposer.specs.Desk.{DeskView}
use Rattle.cas_vault.specs.Vault.{disk_of as vault_disk_of}
use Rattle.cas_disk_shelf.specs.Shelf.{disk_of}
use Rattle.cas_disk_shelf.specs.declared.shelf.DiskShelf.{DiskShelf}
use Rattle.cas_model.specs.View.{Meaning, ShelfMeaning, DiskMeaning, IsAt}
use Rattle.cas_model.proofs.Places.{some_is, same_or_not}
use Rattle.cas_model.proofs.Safety.Parts.{at_low}
use Rattle.cas_world.specs.Openings.Opening.{members_to, unstarted, shelves_of, disks_of, IsFaultOf, AreStartedBelow, AMemberFails, AVaultFails, DoesNotOpen}
use Rattle.cas_world.specs.Openings.Opening.SomeDiskFails.{a_shelf, a_disk}
use Rattle.cas_world.specs.Openings.Opening.DoesNotOpen.{nothing_touched, some_fails}
use Rattle.cas_world.specs.declared.fault.OpenFault.{OpenFault}
use Rattle.cas_world.proofs.Lists.{unstarted_places}
use Rattle.cas_store.specs.Store.{acceptor_disks, AreReached, OneFails, StaysClosed}
use Rattle.cas_store.specs.Store as store

-- ---- lists by their places
pub at_mapped : {A B : Type 0} (f : A → B) (xs : List A) (place : ℕ) (y : B) → IsAt (map f xs) place y → (x : A) × IsAt xs place x × (f x ≡ y)
at_mapped f [] place y at = absurd (cc at)
at_mapped f (x ∷ xs) zero y at = (x, refl, some_is at)
at_mapped f (x ∷ xs) (suc place) y at = at_mapped f xs place y at

at_front : {A : Type 0} (xs ys : List A) (place : ℕ) (x : A) → place < length xs → IsAt (xs ++ ys) place x → IsAt xs place x
at_front [] ys place x low at = absurd (omega (arith, low))
at_front (z ∷ xs) ys zero x low at = at
at_front (z ∷ xs) ys (suc place) x low at = at_front xs ys place x (omega (arith, low)) at

at_middle : {A : Type 0} (xs : List A) (y : A) (ys : List A) → IsAt (xs ++ y ∷ ys) (length xs) y
at_middle [] y ys = refl
at_middle (z ∷ xs) y ys = at_middle xs y ys

at_dropped : {A : Type 0} (n : ℕ) (all : List A) (place : ℕ) (x : A) → IsAt (drop n all) place x → IsAt all (n + place) x
at_dropped {A} zero all place x at = subst (λ (p : ℕ). IsAt all p x) (omega arith) at
at_dropped (suc n) [] place x at = absurd (cc at)
at_dropped {A} (suc n) (y ∷ all) place x at = subst (λ (p : ℕ). IsAt (y ∷ all) p x) (let e : suc (n + place) ≡ suc n + place = omega arith in e) (at_dropped n all place x at)

at_behind : {A : Type 0} (xs : List A) (y : A) (ys : List A) (place : ℕ) (x : A) → length xs < place → IsAt (xs ++ y ∷ ys) place x → (rest : ℕ) × (length xs + 1 + rest ≡ place) × IsAt ys rest x
at_behind [] y ys zero x above at = absurd (omega (arith, above))
at_behind [] y ys (suc place) x above at = (place, omega arith, at)
at_behind (z ∷ xs) y ys zero x above at = absurd (omega (arith, above))
at_behind (z ∷ xs) y ys (suc place) x above at =
    let found = at_behind xs y ys place x (omega (arith, above)) at in
    (found.0, omega (arith, found.1), found.2)

zero_or_above : (p to : ℕ) → (p < 1) ⊎ (to ≤ p) → (p ≡ 0) ⊎ (to ≤ p)
zero_or_above p to (inl low) = inl (omega (arith, low))
zero_or_above p to (inr above) = inr above

not_none : (p to : ℕ) → (p < 0) ⊎ (to ≤ p) → to ≤ p
not_none p to (inl low) = absurd (omega (arith, low))
not_none p to (inr above) = above

-- ---- acceptors on their disks
pub disks_shelved : {D : Type 0} (acceptors : List (AcceptorView (DiskShelf D))) → map disk_of (shelves_of acceptors) ≡ acceptor_disks acceptors
disks_shelved [] = refl
disks_shelved {D} (acceptor ∷ acceptors) = ap (λ (l : List D). disk_of acceptor.shelf ∷ l) (disks_shelved acceptors)

unstarted_disk : {D : Type 0} (number : ℕ) (shelves : List (DiskShelf D)) (place : ℕ) (acceptor : AcceptorView (DiskShelf D)) → IsAt (unstarted number shelves) place acceptor → IsAt (map disk_of shelves) place (disk_of acceptor.shelf)
unstarted_disk number [] place acceptor at = absurd (cc at)
unstarted_disk {D} number (shelf ∷ shelves) zero acceptor at = ap (λ (a : AcceptorView (DiskShelf D)). Some (disk_of a.shelf)) (some_is at)
unstarted_disk number (shelf ∷ shelves) (suc place) acceptor at = unstarted_disk (suc number) shelves place acceptor at

module _ {D : Type 0} (m : ShelfMeaning (DiskShelf D)) (faults : D → ℕ) (shelves : List (DiskShelf D)) (disks : List D) (over : map disk_of shelves ≡ disks) where
  -- what an acceptor that never started stands on
  stands : (place : ℕ) (was : AcceptorView (DiskShelf D)) → IsAt (unstarted 0 shelves) place was → IsAt disks place (disk_of was.shelf)
  stands place was at = subst (λ (l : List D). IsAt l place (disk_of was.shelf)) over (unstarted_disk 0 shelves place was at)

  as_many : (acceptors : List (AcceptorView (DiskShelf D))) → length acceptors ≡ length (unstarted 0 shelves) → length (acceptor_disks acceptors) ≡ length disks
  as_many acceptors places =
      length-map acceptors (λ (a : AcceptorView (DiskShelf D)). disk_of a.shelf) ∙ places ∙ unstarted_places 0 shelves
      ∙ sym (length-map shelves disk_of) ∙ ap (λ (l : List D). length l) over

  pub started_on : (to : ℕ) (acceptors : List (AcceptorView (DiskShelf D))) → AreStartedBelow m (λ shelf. faults (disk_of shelf)) (unstarted 0 shelves) to acceptors → AreReached faults 1 to disks (acceptor_disks acceptors)
  started_on to acceptors starts = record {
    places = as_many acceptors starts.places;
    reached = λ p now low high at.
        let found = at_mapped (λ (a : AcceptorView (DiskShelf D)). disk_of a.shelf) acceptors p now at in
        let began = starts.members p found.0 low high found.1 in
        (disk_of began.0.shelf, stands p began.0 began.1, subst (λ (d : D). faults (disk_of began.0.shelf) ≤ faults d) found.2 began.2.never_falls);
    others = λ p now which at.
        let found = at_mapped (λ (a : AcceptorView (DiskShelf D)). disk_of a.shelf) acceptors p now at in
        subst (λ (d : D). IsAt disks p d) found.2 (stands p found.0 (starts.others p found.0 (zero_or_above p to which) found.1));
  }

  pub member_fails_on : (count : ℕ) (fault : OpenFault) (acceptors : List (AcceptorView (DiskShelf D))) → count < length disks → AMemberFails m (λ shelf. faults (disk_of shelf)) (unstarted 0 shelves) count fault acceptors → OneFails faults 0 1 count fault disks (acceptor_disks acceptors)
  member_fails_on count fault acceptors few fails =
      let view = λ (a : AcceptorView (DiskShelf D)). disk_of a.shelf in
      let low : fails.number < length acceptors = omega (arith, few, fails.to, as_many acceptors fails.places, length-map acceptors view) in
      let here = at_low acceptors fails.number low in
      let failed = fails.fails here.0 here.1 in
      record {
        place = fails.number;
        low = fails.from;
        high = fails.to;
        reached = record {
          places = as_many acceptors fails.places;
          reached = λ p now from to at.
              let found = at_mapped view acceptors p now at in
              elim (same_or_not p fails.number) [
                | inl same ↦
                    (let now_failed = fails.fails found.0 (subst (λ (i : ℕ). IsAt acceptors i found.0) same found.1) in
                    (disk_of now_failed.0.shelf, stands p now_failed.0 (subst (λ (i : ℕ). IsAt (unstarted 0 shelves) i now_failed.0) (sym same) now_failed.1), subst (λ (d : D). faults (disk_of now_failed.0.shelf) ≤ faults d) found.2 now_failed.2.never_falls))
                | inr other ↦
                    (let began = fails.starts p found.0 from (below p fails.number to other) found.1 in
                    (disk_of began.0.shelf, stands p began.0 began.1, subst (λ (d : D). faults (disk_of began.0.shelf) ≤ faults d) found.2 began.2.never_falls))
              ];
          others = λ p now which at.
              let found = at_mapped view acceptors p now at in
              subst (λ (d : D). IsAt disks p d) found.2 (stands p found.0 (fails.others p found.0 (or_above p fails.number which) found.1));
        };
        was = disk_of failed.0.shelf;
        at_was = stands fails.number failed.0 failed.1;
        now = disk_of here.0.shelf;
        at_now = at_view acceptors fails.number here.0 here.1;
        cause = subst (λ (n : ℕ). IsFaultOf n (faults (disk_of failed.0.shelf)) (faults (disk_of here.0.shelf)) fault) (let e : fails.number ≡ 0 + fails.number = omega arith in e) failed.2.cause;
      }
    where
      below : (p number : ℕ) → p < number + 1 → (p ≡ number → ⊥) → p < number
      below p number high other = omega (arith, high, other)

      or_above : (p number : ℕ) → (p < 1) ⊎ (number + 1 ≤ p) → (p ≡ 0) ⊎ (number < p)
      or_above p number (inl low) = inl (omega (arith, low))
      or_above p number (inr above) = inr (omega (arith, above))

      at_view : (acceptors : List (AcceptorView (DiskShelf D))) (place : ℕ) (a : AcceptorView (DiskShelf D)) → IsAt acceptors place a → IsAt (acceptor_disks acceptors) place (disk_of a.shelf)
      at_view [] place a at = absurd (cc at)
      at_view (b ∷ acceptors) zero a at = ap (λ (x : AcceptorView (DiskShelf D)). Some (disk_of x.shelf)) (some_is at)
      at_view (b ∷ acceptors) (suc place) a at = at_view acceptors place a at

-- ---- vaults on their disks
pub vault_fails_on : {D : Type 0} (m : DiskMeaning D) (faults : D → ℕ) (disks : List D) (last_proposer : ℕ) (fault : OpenFault) (desks : List (DeskView D)) (left back : List D) → back ≡ disks_of desks ++ left → length back ≡ length disks
    → AVaultFails m faults disks last_proposer fault desks left → OneFails faults 64 0 last_proposer fault disks back
vault_fails_on {D} m faults disks last_proposer fault desks left back is places fails =
    let rest = drop (fails.number + 1) disks in
    let all : back ≡ disks_of desks ++ fails.now ∷ rest = is ∙ ap (λ (l : List D). disks_of desks ++ l) fails.rest in
    let made : length (disks_of desks) ≡ fails.number = length-map desks (λ (d : DeskView D). vault_disk_of d.vault) ∙ fails.made.places in
    let here : IsAt back fails.number fails.now = subst (λ (l : List D). IsAt l fails.number fails.now) (sym all) (subst (λ (n : ℕ). IsAt (disks_of desks ++ fails.now ∷ rest) n fails.now) made (at_middle (disks_of desks) fails.now rest)) in
    record {
      place = fails.number;
      low = omega arith;
      high = fails.to;
      reached = record {
        places = places;
        reached = λ p now from to at. elim (same_or_not p fails.number) [
          | inl same ↦ (
            fails.disk,
            subst (λ (i : ℕ). IsAt disks i fails.disk) (sym same) fails.at_disk,
            subst (λ (d : D). faults fails.disk ≤ faults d) (some_is (sym here ∙ subst (λ (i : ℕ). IsAt back i now) same at)) fails.never_falls,
          )
          | inr other ↦
              (let found = at_mapped (λ (d : DeskView D). vault_disk_of d.vault) desks p now (at_front (disks_of desks) (fails.now ∷ rest) p now (before p fails.number (length (disks_of desks)) to other made) (subst (λ (l : List D). IsAt l p now) all at)) in
              let desk = fails.made.each p found.0 found.1 in
              (desk.0, desk.1, subst (λ (d : D). faults desk.0 ≤ faults d) found.2 desk.2.never_falls))
        ];
        others = λ p now which at.
            let above : fails.number + 1 ≤ p = not_none p (fails.number + 1) which in
            let found = at_behind (disks_of desks) fails.now rest p now (omega (arith, above, made)) (subst (λ (l : List D). IsAt l p now) all at) in
            subst (λ (i : ℕ). IsAt disks i now) (let e : fails.number + 1 + found.0 ≡ p = omega (arith, found.1, made) in e) (at_dropped (fails.number + 1) disks found.0 now found.2);
      };
      was = fails.disk;
      at_was = fails.at_disk;
      now = fails.now;
      at_now = here;
      cause = fails.cause;
    }
  where
    before : (p number made : ℕ) → p < number + 1 → (p ≡ number → ⊥) → made ≡ number → p < made
    before p number made high other is = omega (arith, high, other, is)

-- ---- what comes back
pub stays_closed : {D : Type 0} (m : Meaning (DiskShelf D) D) (faults : D → ℕ) (count last_proposer : ℕ) (shelves : List (DiskShelf D)) (disks vaults : List D) (fault : OpenFault) (shelves_back : List (DiskShelf D)) (disks_back vaults_back : List D)
    → map disk_of shelves ≡ disks → disks_back ≡ map disk_of shelves_back → count < length disks → length vaults_back ≡ length vaults
    → DoesNotOpen m (λ shelf. faults (disk_of shelf)) faults count last_proposer shelves vaults fault shelves_back vaults_back → StaysClosed faults count last_proposer disks vaults fault disks_back vaults_back
stays_closed {D} m faults count last_proposer shelves disks vaults fault shelves_back disks_back vaults_back over off few places (nothing_touched none same_shelves same_vaults) =
    store.nothing_reached none (off ∙ (ap (λ (l : List (DiskShelf D)). map disk_of l) same_shelves ∙ over)) same_vaults
stays_closed {D} m faults count last_proposer shelves disks vaults fault shelves_back disks_back vaults_back over off few places (some_fails acceptors desks left (a_shelf fails none same) shelves_are vaults_are) =
    let back : acceptor_disks acceptors ≡ disks_back = sym (off ∙ (ap (λ (l : List (DiskShelf D)). map disk_of l) shelves_are ∙ disks_shelved acceptors)) in
    store.a_member_fails (subst (λ (l : List D). OneFails faults 0 1 count fault disks l) back (member_fails_on m.shelves faults shelves disks over count fault acceptors few fails))
    (vaults_are ∙ (ap (λ (l : List (DeskView D)). disks_of l ++ left) none ∙ same))
stays_closed {D} m faults count last_proposer shelves disks vaults fault shelves_back disks_back vaults_back over off few places (some_fails acceptors desks left (a_disk starts fails) shelves_are vaults_are) =
    let back : acceptor_disks acceptors ≡ disks_back = sym (off ∙ (ap (λ (l : List (DiskShelf D)). map disk_of l) shelves_are ∙ disks_shelved acceptors)) in
    store.a_vault_fails (subst (λ (l : List D). AreReached faults 1 (count + 1) disks l) back (started_on m.shelves faults shelves disks over (count + 1) acceptors starts))
    (vault_fails_on m.disks faults vaults last_proposer fault desks left vaults_back vaults_are places fails)

-- ---- who is up
in_range : (from count n : ℕ) → has_member (range_with_len from count) n ≡ true → (from ≤ n) × (n < from + count)
in_range from zero n none = absurd (cc none)
in_range from (suc count) n is = elim (or_cases (from == n) (has_member (range_with_len (from + 1) count) n) is) [
  | inl same ↦ let e : from ≡ n = nat_same same in (omega (arith, e), omega (arith, e))
  | inr later ↦ let rest = in_range (from + 1) count n later in (omega (arith, rest.0), omega (arith, rest.1))
]

-- the members have started
pub members_up : {S : Type 0} (m : ShelfMeaning S) (faults : S → ℕ) (old : List (AcceptorView S)) (count : ℕ) (new : List (AcceptorView S)) → AreStartedBelow m faults old (count + 1) new
    → (id : ℕ) (acceptor : AcceptorView S) → IsAt new id acceptor → has_member (members_to count) id ≡ true → acceptor.down ≡ false
members_up {S} m faults old count new started id acceptor at member =
    let low = in_range 1 count id member in
    let first : 0 < id = omega (arith, low.0) in
    let last : id < count + 1 = omega (arith, low.1) in
    ap (λ (a : AcceptorView S). a.down) (started.members id acceptor first last at).2.acceptor
