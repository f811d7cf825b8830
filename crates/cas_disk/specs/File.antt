-- A disk over a file: what its calls do to the file that it has, and to its count of faults.
use Rattle.std.specs.Prelude.{◌≡◌, ℕ, ◌+◌, ◌≤◌, Option, None, Result, MatchResult}
use Rattle.std.specs.declared.fs.File.{File}
use Rattle.cas_base.specs.Faults.{Rose}
use Rattle.cas_disk.specs.declared.disk.DiskFault.{DiskFault}
use Rattle.cas_disk.specs.declared.disk.DiskFault.TheVariants.{Failed}
use Rattle.cas_disk.specs.declared.file.FileDisk.{FileDisk}

-- the file of a disk over a file
abbrev pub file_of : FileDisk → Option File
file_of d = d.file

-- how often a disk over a file has failed
abbrev pub faults_of : FileDisk → ℕ
faults_of d = d.faults

-- it has no file: it was made over none, or closed its own as a write or a sync failed
abbrev pub HasFailed : FileDisk → Type 0
HasFailed d = file_of d ≡ None

-- a call did what it was asked and the count stayed, or it failed by `Failed` and the count rose by one; the greatest count stays
pub record CountsFailure {T : Type 0} (result : Result T DiskFault) (old new : ℕ) : Type 0 where
  pub answer : MatchResult result (λ _. new ≡ old) (λ fault. (fault ≡ Failed) × Rose old new)
  pub never_falls : old ≤ new
  pub by_one : new ≤ old + 1
