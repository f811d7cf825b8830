-- Along a script over a store that just opened was done what nothing stood against, and what reads were answered is so.
use Rattle.std.proofs.Common.{ℕ, List, Option}
use Rattle.cas_model.specs.History.{IsRemembered}
use Rattle.cas_model.specs.Safe.{IsSafe}
use Rattle.cas_model.specs.View.{Meaning, View}
use Rattle.cas_disk_shelf.specs.declared.shelf.DiskShelf.{DiskShelf}
use Rattle.cas_store.specs.Rack.{RackMeaning}
use Rattle.cas_store.specs.declared.rack.Rack.{Rack}
use Rattle.cas_reopen.specs.Opened.{IsOpenedOver}
use Rattle.casreg_script.specs.Script.{opening_state}
use Rattle.casreg_progress.proofs.Runs.{runs_are_done, runs_read_so}
use Rattle.cas_world.specs.Openings.Opening.{members_to}
use Rattle.casreg_command.specs.Causes.{WentIn, CameOut, AreDoneAlong, AreReadSoAlong, Ran, RanOver, WroteScript}
use Rattle.casreg_command.specs.declared.status.Status.{Status}
use Rattle.casreg_command.specs.declared.status.Status.TheVariants as status
use Rattle.casreg_command.specs.declared.words.Options.{Options}
use Rattle.casreg_command.proofs.Opened.{begins_over, begins_safe, begins_remembered}

safe_done : {D : Type 0} (meant : Meaning (DiskShelf D) D) (tells : Type 0) (tries : ℕ) (P : List (List ℕ) → Type 0) (input old new : Option (List ℕ)) (world : View (DiskShelf D) D) (back : Rack D) (result : Status) → IsSafe world → (by : Ran meant tells tries P input old new world result back)
    → AreDoneAlong result by
safe_done meant tells tries P input old new world back status.Ok safe by = runs_are_done meant tries (opening_state world) by.last by.wrote.lines by.wrote.answers safe by.wrote.run
safe_done meant tells tries P input old new world back status.Usage safe by = by.wrote
safe_done meant tells tries P input old new world back status.ReadFault safe by = runs_are_done meant tries (opening_state world) by.last by.wrote.lines by.wrote.answers safe by.wrote.run
safe_done meant tells tries P input old new world back status.WriteFault safe by = runs_are_done meant tries (opening_state world) by.last by.wrote.lines by.wrote.answers safe by.wrote.run
safe_done meant tells tries P input old new world back (status.NotEmpty disk) safe by = by.wrote
safe_done meant tells tries P input old new world back (status.Foreign disk at) safe by = by.wrote
safe_done meant tells tries P input old new world back (status.TooManyKeys keys) safe by = by.wrote
safe_done meant tells tries P input old new world back (status.LostDisk disk) safe by = by.wrote
safe_done meant tells tries P input old new world back (status.Spent disk) safe by = by.wrote
safe_done meant tells tries P input old new world back (status.DiskFault disk) safe by = by.wrote
safe_done meant tells tries P input old new world back status.TooManyLines safe by = runs_are_done meant tries (opening_state world) by.last by.wrote.lines by.wrote.answers safe by.wrote.run
safe_done meant tells tries P input old new world back status.NoMemory safe by = runs_are_done meant tries (opening_state world) by.last by.wrote.lines by.wrote.answers safe by.wrote.run
safe_done meant tells tries P input old new world back (status.Endless line) safe by = runs_are_done meant tries (opening_state world) by.last by.wrote.lines by.wrote.answers safe by.wrote.run

reads_so : {D : Type 0} (meant : Meaning (DiskShelf D) D) (tells : Type 0) (shelves : meant.shelves.tells) (disks : meant.disks.tells) (tries : ℕ) (P : List (List ℕ) → Type 0) (input old new : Option (List ℕ)) (world : View (DiskShelf D) D) (back : Rack D) (result : Status)
    → IsRemembered meant world → (by : Ran meant tells tries P input old new world result back) → AreReadSoAlong result by
reads_so meant tells shelves disks tries P input old new world back status.Ok is by = runs_read_so meant shelves disks tries (opening_state world) by.last by.wrote.lines by.wrote.answers is by.wrote.run
reads_so meant tells shelves disks tries P input old new world back status.Usage is by = by.wrote
reads_so meant tells shelves disks tries P input old new world back status.ReadFault is by = runs_read_so meant shelves disks tries (opening_state world) by.last by.wrote.lines by.wrote.answers is by.wrote.run
reads_so meant tells shelves disks tries P input old new world back status.WriteFault is by = runs_read_so meant shelves disks tries (opening_state world) by.last by.wrote.lines by.wrote.answers is by.wrote.run
reads_so meant tells shelves disks tries P input old new world back (status.NotEmpty disk) is by = by.wrote
reads_so meant tells shelves disks tries P input old new world back (status.Foreign disk at) is by = by.wrote
reads_so meant tells shelves disks tries P input old new world back (status.TooManyKeys keys) is by = by.wrote
reads_so meant tells shelves disks tries P input old new world back (status.LostDisk disk) is by = by.wrote
reads_so meant tells shelves disks tries P input old new world back (status.Spent disk) is by = by.wrote
reads_so meant tells shelves disks tries P input old new world back (status.DiskFault disk) is by = by.wrote
reads_so meant tells shelves disks tries P input old new world back status.TooManyLines is by = runs_read_so meant shelves disks tries (opening_state world) by.last by.wrote.lines by.wrote.answers is by.wrote.run
reads_so meant tells shelves disks tries P input old new world back status.NoMemory is by = runs_read_so meant shelves disks tries (opening_state world) by.last by.wrote.lines by.wrote.answers is by.wrote.run
reads_so meant tells shelves disks tries P input old new world back (status.Endless line) is by = runs_read_so meant shelves disks tries (opening_state world) by.last by.wrote.lines by.wrote.answers is by.wrote.run

-- a run in a store that was opened over the rack
pub ran_over : {D : Type 0} {meant : Meaning (DiskShelf D) D} {m : RackMeaning D} {given : WentIn D} {out : CameOut D} (options : Options) (world : View (DiskShelf D) D)
    → (m.tells → meant.shelves.tells × meant.disks.tells) → IsOpenedOver meant m options.acceptors options.proposers (members_to options.acceptors) given.rack world
    → RanOver meant m.tells options out.HadEnded given.input given.written out.written world out.status out.rack → WroteScript meant m options given out
ran_over {meant = meant} {m} {given} {out} options world tell over by =
    let begins = begins_over meant m options.acceptors options.proposers (members_to options.acceptors) given.rack world over in
    record {
      world = world;
      over = over;
      ran = by;
      done = safe_done meant m.tells options.tries out.HadEnded given.input given.written by.between world out.rack by.before (begins_safe begins) by.ran;
      read = λ tells.
          reads_so meant m.tells (tell tells).0 (tell tells).1 options.tries out.HadEnded given.input given.written by.between world out.rack by.before
          (begins_remembered (tell tells).0 (tell tells).1 begins) by.ran;
    }
