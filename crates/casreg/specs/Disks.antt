-- The disks that the program hands in.
use Rattle.std.specs.Prelude.{◌≡◌, ℕ, false, List, [], All}
use Rattle.cas_disk.specs.Memory.{bytes_of, durable_of, troubles_of, image_of, faults_of, calls_of, is_stopped}
use Rattle.cas_disk.specs.declared.medium.Image.TheVariants as image
use Rattle.cas_disk.specs.declared.memory.MemoryDisk.{MemoryDisk}
use Rattle.cas_store.specs.declared.rack.Rack.{Rack}

-- a disk in memory that is empty and was never called, has no trouble before it and counts no fault
pub record IsUnused (disk : MemoryDisk) : Type 0 where
  pub bytes : bytes_of disk ≡ []
  pub durable : durable_of disk ≡ []
  pub troubles : troubles_of disk ≡ []
  pub image : image_of disk ≡ image.New
  pub faults : faults_of disk ≡ 0
  pub calls : calls_of disk ≡ 0
  pub runs : is_stopped disk ≡ false

-- all disks of a rack in memory are so
pub record AreUnused (rack : Rack MemoryDisk) : Type 0 where
  pub acceptors : All IsUnused rack.acceptors.items
  pub vaults : All IsUnused rack.vaults.items

-- these disks count no fault
abbrev pub CountNoFault : {D : Type 0} → (D → ℕ) → List D → Type 0
CountNoFault faults disks = All (λ disk. faults disk ≡ 0) disks

-- no disk of the rack counts a fault
pub record AreFaultless {D : Type 0} (faults : D → ℕ) (rack : Rack D) : Type 0 where
  pub acceptors : CountNoFault faults rack.acceptors.items
  pub vaults : CountNoFault faults rack.vaults.items
