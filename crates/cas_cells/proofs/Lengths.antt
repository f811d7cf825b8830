-- What calls leave of the length of a disk. The crates above may cite it.
use Rattle.std.specs.Prelude.{nat_lt, if◌then◌else◌}
use Rattle.std.proofs.Common.{◌≡◌, ◌≢◌, inl, inr, ℕ, ◌+◌, ◌-◌, ◌*◌, ◌/◌, ◌<◌, ◌≤◌, true, false, Option, List, length, drop, sym, ◌∙◌, ap, subst, arith, length-take, length-drop}
use Rattle.std.proofs.lemmas.Bool.{cases_lt}
use Rattle.std.proofs.lemmas.Bool.Decides.{nat_tests}
use Rattle.cas_disk.specs.Disk.{ContinuesOnly}
use Rattle.cas_disk.proofs.Moments.{then_on, weaker}
use Rattle.cas_cells.specs.Format.{frame_at, frame_place, frame_size}
use Rattle.cas_cells.specs.Torn.{Others}
use Rattle.cas_cells.specs.Held.{CellHeld, LeavesPayload, MayOpen, frame_of, other}
use Rattle.cas_cells.specs.Length.{NotLonger}
use Rattle.cas_cells.specs.declared.cell.Cell.{Cell}
use Rattle.cas_cells.proofs.Places.{size_of_side}
use Rattle.cas_cells.proofs.Tearing.{frame_within}
use Rattle.cas_cells.proofs.Leaving.{spare_whole}

-- the frame in which a disk of this length ends
ends_in : ℕ → ℕ → ℕ
ends_in narrow n = if nat_lt n (1024 * (narrow + 1)) then n / 512 else 2 * (narrow + 1) + (n - 1024 * (narrow + 1)) / 4608

ends_there : (narrow n : ℕ) → (frame_place narrow (ends_in narrow n) ≤ n) × (n < frame_place narrow (ends_in narrow n) + frame_size narrow (ends_in narrow n))
unfolding ends_in frame_place frame_size
ends_there narrow n = elim (cases_lt n (1024 * (narrow + 1))) [
  | inl low ↦ let is : nat_lt n (1024 * (narrow + 1)) ≡ true = grind (arith, nat_tests) in rw is (omega arith, omega arith)
  | inr high ↦ let is : nat_lt n (1024 * (narrow + 1)) ≡ false = grind (arith, nat_tests) in rw is (omega arith, omega arith)
]

-- where all frames but a whole one are as they were, there are no more bytes than there were
others_short : (narrow k : ℕ) (old c : List ℕ) → length (frame_at narrow old k) ≡ frame_size narrow k → Others narrow k old c → length c ≤ length old
others_short narrow k old c whole others =
    let j : ℕ = ends_in narrow (length old) in
    let ends = ends_there narrow (length old) in
    let within : frame_place narrow k + frame_size narrow k ≤ length old = frame_within narrow old k whole in
    let apart : j ≢ k = λ (is : j ≡ k). absurd (let past : length old < frame_place narrow k + frame_size narrow k = subst (λ (m : ℕ). length old < frame_place narrow m + frame_size narrow m) is ends.1 in omega (arith, within, past)) in
    let same : length (frame_at narrow c j) ≡ length (frame_at narrow old j) = ap length (others j apart) in
    omega (arith, same, ends.0, ends.1, length-take (frame_size narrow j) (drop (frame_place narrow j) c), length-drop (frame_place narrow j) c, length-take (frame_size narrow j) (drop (frame_place narrow j) old), length-drop (frame_place narrow j) old)

module _ {D : Type 0} (moment : D → ℕ) (left_since : D → ℕ → List ℕ → Type 0) (may_leave : D → List ℕ → Type 0) where
  -- so many bytes are no more than these
  pub within_more : (old new : D) (less more : ℕ) → less ≤ more → NotLonger moment left_since may_leave old new less → NotLonger moment left_since may_leave old new more
  within_more old new less more le run = record { within = λ limit low all. run.within limit (omega (arith, le, low)) all }

  -- one run after another
  pub then_no_longer : (old mid new : D) (bytes : ℕ) → ((c : List ℕ) → moment old ≤ moment mid → may_leave mid c → left_since mid (moment old) c)
      → NotLonger moment left_since may_leave old mid bytes → NotLonger moment left_since may_leave mid new bytes → NotLonger moment left_since may_leave old new bytes
  then_no_longer old mid new bytes counts first second = record {
    within = λ limit low all.
        let run : ContinuesOnly moment left_since old mid (λ c. length c ≤ limit) = first.within limit low all in
        then_on moment left_since old mid new (λ c. length c ≤ limit) run (second.within limit low (λ c left. run.each c (counts c run.later left)));
  }

  -- a run in which a crash leaves nothing longer than what a read gave before
  pub no_longer_than_seen : (old new : D) (seen : List ℕ) (P : List ℕ → Type 0) → may_leave old seen → ((c : List ℕ) → P c → length c ≤ length seen) → ContinuesOnly moment left_since old new P → NotLonger moment left_since may_leave old new 0
  no_longer_than_seen old new seen P stays short run = record {
    within = λ limit low all. weaker moment left_since old new P (λ c. length c ≤ limit) (λ c is. omega (arith, short c is, all seen stays)) run;
  }

  -- a step of a cell
  pub step_no_longer : (narrow : ℕ) (old new : D) (seen : List ℕ) (i : ℕ) (cell : Cell) (pay : Option (List ℕ)) → may_leave old seen → CellHeld narrow seen i cell
      → ContinuesOnly moment left_since old new (LeavesPayload narrow (frame_of i (other cell.side)) seen i pay) → NotLonger moment left_since may_leave old new 0
  step_no_longer narrow old new seen i cell pay stays held run =
      let k = frame_of i (other cell.side) in
      no_longer_than_seen old new seen (LeavesPayload narrow k seen i pay) stays (λ c leaves. others_short narrow k seen c (spare_whole narrow cell seen i held ∙ sym (size_of_side narrow i (other cell.side))) leaves.others) run

  -- the step that opens its spare
  pub opening_no_longer : (narrow : ℕ) (old new : D) (seen : List ℕ) (i : ℕ) (cell : Cell) (pay : Option (List ℕ)) (p : List ℕ) → may_leave old seen → CellHeld narrow seen i cell
      → ContinuesOnly moment left_since old new (MayOpen narrow (frame_of i (other cell.side)) seen i pay p) → NotLonger moment left_since may_leave old new 0
  opening_no_longer narrow old new seen i cell pay p stays held run =
      let k = frame_of i (other cell.side) in
      no_longer_than_seen old new seen (MayOpen narrow k seen i pay p) stays (λ c opens. others_short narrow k seen c (spare_whole narrow cell seen i held ∙ sym (size_of_side narrow i (other cell.side))) opens.others) run

  -- the same after a run that left so many bytes
  pub then_opening_no_longer : (narrow : ℕ) (old mid new : D) (seen : List ℕ) (bytes : ℕ) (i : ℕ) (cell : Cell) (pay : Option (List ℕ)) (p : List ℕ) → ((c : List ℕ) → moment old ≤ moment mid → may_leave mid c → left_since mid (moment old) c) → may_leave mid seen → CellHeld narrow seen i cell
      → NotLonger moment left_since may_leave old mid bytes → ContinuesOnly moment left_since mid new (MayOpen narrow (frame_of i (other cell.side)) seen i pay p) → NotLonger moment left_since may_leave old new bytes
  then_opening_no_longer narrow old mid new seen bytes i cell pay p counts stays held first run =
      then_no_longer old mid new bytes counts first (within_more mid new 0 bytes (omega arith) (opening_no_longer narrow mid new seen i cell pay p stays held run))
