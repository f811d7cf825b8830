-- What reading leaves of a disk.
use Rattle.std.specs.Prelude.{◌≡◌, ℕ, List}
use Rattle.cas_disk.specs.Disk.{Only, ContinuesOnly}

-- the content is as it was and on the disk, and a crash at any moment left it
pub record OnlyRead {D : Type 0} (moment : D → ℕ) (left_since : D → ℕ → List ℕ → Type 0) (seen : D → List ℕ) (may_leave : D → List ℕ → Type 0) (old new : D) : Type 0 where
  pub content : seen new ≡ seen old
  pub durable : Only (seen new) (may_leave new)
  pub any_moment : ContinuesOnly moment left_since old new (λ c. c ≡ seen old)
