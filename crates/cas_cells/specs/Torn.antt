-- What a write into one frame leaves of the frames of a disk.
use Rattle.std.specs.Prelude.{◌≡◌, ◌≢◌, ◌<◌, ℕ, List, length, drop, slice_index}
use Rattle.cas_cells.specs.Format.{frame_at, frame_size}

-- all frames but one are as they were
abbrev pub Others : ℕ → ℕ → List ℕ → List ℕ → Type 0
Others narrow k old c = (j : ℕ) → j ≢ k → frame_at narrow c j ≡ frame_at narrow old j

-- another gate may stand before frame k
pub record GateTorn (narrow k : ℕ) (old c : List ℕ) : Type 0 where
  pub others : Others narrow k old c
  pub tail : drop 1 (frame_at narrow c k) ≡ drop 1 (frame_at narrow old k)
  pub size : length (frame_at narrow c k) ≡ frame_size narrow k

-- anything may stand in frame k behind its gate
pub record TailTorn (narrow k : ℕ) (old c : List ℕ) : Type 0 where
  pub others : Others narrow k old c
  pub gate : slice_index (frame_at narrow c k) 0 ≡ slice_index (frame_at narrow old k) 0
  pub size : length (frame_at narrow c k) ≡ frame_size narrow k

-- the frames below k are as they were
abbrev pub SameBelow : ℕ → ℕ → List ℕ → List ℕ → Type 0
SameBelow narrow k old c = (j : ℕ) → j < k → frame_at narrow c j ≡ frame_at narrow old j
