-- What a run of a shelf's calls leaves, by what the run of its disk's calls leaves.
use Rattle.std.proofs.Common.{◌≡◌, inl, ℕ, List, Ok, refl, sym, ap, subst, ◌∙◌}
use Rattle.cas_slot.specs.Contents.{Contents}
use Rattle.cas_slot.specs.Shelf.{Left, ShelfLeavesOnly, IsOldOrNew}
use Rattle.cas_disk.specs.Disk.{Only, Elapses, LeavesOnly as DiskLeavesOnly, ContinuesOnly as DiskContinuesOnly}
use Rattle.cas_disk.proofs.Moments as disk
use Rattle.cas_disk_shelf.specs.declared.shelf.DiskShelf.{DiskShelf}
use Rattle.cas_disk_shelf.specs.Image.{left_on}
use Rattle.cas_disk_shelf.specs.Shelf.{disk_of, moment_of, ShelfMayLeave, ShelfLeftSince, ShelfContinuesOnly}

module _ {D : Type 0} (moment : D → ℕ) (left_since : D → ℕ → List ℕ → Type 0) where
  -- what is so of each image is so of what it is to a shelf
  pub reads_only : (old new : D) (P : List ℕ → Type 0) (Q : Left → Type 0) → ((c : List ℕ) → P c → Q (left_on c)) → DiskContinuesOnly moment left_since old new P → ShelfContinuesOnly moment left_since old new Q
  reads_only old new P Q so run = disk.weaker moment left_since old new P (λ c. Q (left_on c)) so run

  -- and so of a whole call
  pub as_shelf : (old new : DiskShelf D) (P : List ℕ → Type 0) (Q : Left → Type 0) → ((c : List ℕ) → P c → Q (left_on c)) → DiskLeavesOnly moment left_since (disk_of old) (disk_of new) P → ShelfLeavesOnly (moment_of moment) (ShelfLeftSince left_since) old new Q
  as_shelf old new P Q so run = record { later = run.later; each = λ left since. subst Q (sym since.2) (so since.0 (run.each since.0 since.1)) }

  -- a call that goes on from where the past was forgotten
  pub from_there : (old new : DiskShelf D) (mid : D) (Q : Left → Type 0) → moment mid ≡ moment (disk_of old) → ShelfContinuesOnly moment left_since mid (disk_of new) Q → ShelfLeavesOnly (moment_of moment) (ShelfLeftSince left_since) old new Q
  from_there old new mid Q same run = as_shelf old new (λ c. Q (left_on c)) Q (λ c q. q) (disk.from_there moment left_since (disk_of old) mid (disk_of new) (λ c. Q (left_on c)) same run)

  -- the disk was not touched
  pub at_rest : (old new : D) (may_leave : D → List ℕ → Type 0) (Q : Left → Type 0) → new ≡ old → ((c : List ℕ) → left_since old (moment old) c → may_leave old c) → ((c : List ℕ) → may_leave old c → Q (left_on c)) → ShelfContinuesOnly moment left_since old new Q
  at_rest old new may_leave Q same now so =
      subst (λ (d : D). DiskContinuesOnly moment left_since old d (λ c. Q (left_on c))) (sym same) (disk.started moment left_since old (λ c. Q (left_on c)) (λ c left. so c (now c left)))

  -- a run that leaves the contents alone
  pub unchanged : (old new : D) (before after : Contents) → ShelfContinuesOnly moment left_since old new (λ left. left ≡ Ok before) → ShelfContinuesOnly moment left_since old new (IsOldOrNew before after)
  unchanged old new before after run = disk.weaker moment left_since old new (λ c. left_on c ≡ Ok before) (λ c. IsOldOrNew before after (left_on c)) (λ c is. inl is) run

  -- and then a change of them
  pub then_changed : (old mid new : D) (before after : Contents) → ShelfContinuesOnly moment left_since old mid (λ left. left ≡ Ok before) → ShelfContinuesOnly moment left_since mid new (IsOldOrNew before after) → ShelfContinuesOnly moment left_since old new (IsOldOrNew before after)
  then_changed old mid new before after first second =
      disk.then_on moment left_since old mid new (λ c. IsOldOrNew before after (left_on c)) (unchanged old mid before after first) second

  -- a crash, a read of what it left, and then changes that leave the contents which were read
  pub taken_up : (may_leave : D → List ℕ → Type 0) (old new : DiskShelf D) (began mid read : D) (seen : List ℕ) (held : Contents) → moment began ≡ moment (disk_of old) → ((c : List ℕ) → may_leave began c → may_leave (disk_of old) c) → ((c : List ℕ) → left_since began (moment began) c → may_leave began c)
      → Elapses (moment began) (moment mid) (left_since began) (left_since mid) (may_leave mid) → may_leave began seen → Only seen (may_leave mid) → DiskContinuesOnly moment left_since mid read (λ c. c ≡ seen) → left_on seen ≡ Ok held
      → ShelfContinuesOnly moment left_since read (disk_of new) (λ left. left ≡ Ok held) → ShelfLeavesOnly (moment_of moment) (ShelfLeftSince left_since) old new (ShelfMayLeave may_leave old)
  taken_up may_leave old new began mid read seen held same outcomes now time image settled first recovered second =
      let P : List ℕ → Type 0 = λ c. ShelfMayLeave may_leave old (left_on c) in
      let here : (c : List ℕ) → c ≡ seen → P c = λ c is. (seen, outcomes seen image, ap left_on is) in
      from_there old new began (ShelfMayLeave may_leave old) same
      (disk.then_on moment left_since began read (disk_of new) P
      (disk.then_on moment left_since began mid read P
      (disk.goes_on moment left_since began began mid P (may_leave mid) (disk.started moment left_since began P (λ c left. (c, outcomes c (now c left), refl))) time (λ c left. here c (settled c left)))
      (disk.weaker moment left_since mid read (λ c. c ≡ seen) P here first))
      (disk.weaker moment left_since read (disk_of new) (λ c. left_on c ≡ Ok held) P (λ c is. (seen, outcomes seen image, is ∙ sym recovered)) second))
