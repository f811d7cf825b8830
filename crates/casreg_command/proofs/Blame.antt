-- A status that names a disk comes by what became of that disk.
use Rattle.std.proofs.Common.{suc, zero, ◌≡◌, ◌⊎◌, inl, inr, ◌+◌, ◌≤◌, ℕ, List, [], ◌∷◌, ◌++◌, length, Option, sym, subst, ◌∙◌, arith}
use Rattle.cas_model.specs.View.{Meaning, View, IsAt}
use Rattle.cas_disk_shelf.specs.declared.shelf.DiskShelf.{DiskShelf}
use Rattle.cas_store.specs.Rack.{RackMeaning, AreFoundEmptyBelow, IsWhyNot, IsAllEmpty, IsNotEmpty, an_acceptor, a_vault}
use Rattle.cas_store.specs.Store.{StaysClosed, nothing_reached, a_member_fails, a_vault_fails}
use Rattle.cas_store.specs.declared.rack.Rack.{Rack}
use Rattle.cas_store.specs.declared.rack.RackFault.{RackFault}
use Rattle.cas_store.specs.declared.rack.RackFault.TheVariants as rack_fault
use Rattle.cas_world.specs.Openings.Opening.{IsFaultOf}
use Rattle.cas_world.specs.declared.fault.OpenFault.{OpenFault}
use Rattle.cas_world.specs.declared.fault.OpenFault.TheVariants as opening
use Rattle.cas_reopen.specs.Closed.{IsWhyClosed}
use Rattle.cas_reopen.specs.Filled.{disks_in}
use Rattle.cas_reopen.specs.declared.fault.ReopenFault.{ReopenFault}
use Rattle.cas_reopen.specs.declared.fault.ReopenFault.TheVariants as reopening
use Rattle.casreg_script.specs.Script.{State}
use Rattle.casreg_script.specs.declared.load.Load.{Load}
use Rattle.casreg_command.specs.Records.{WroteFinding}
use Rattle.casreg_command.proofs.Marked.{behind_blamed, low_or_high, rose_later}
use Rattle.casreg_command.specs.Causes.{IsDisk, of_acceptor, of_vault, AreDisksToBlame, WentIn, CameOut, NothingRan, WroteIn, WroteBy, Wrote, no_words_read, not_opened, not_empty, not_begun, no_board, WroteSummary, whole, sink_failed, no_text, broke_off}
use Rattle.casreg_command.specs.Words.{members_of}
use Rattle.casreg_command.specs.declared.words.Request.{Request}
use Rattle.casreg_command.specs.declared.words.Request.TheVariants as request
use Rattle.std.specs.Prelude.{Result, Ok, Err}
use Rattle.cas_lines.specs.declared.lines.LineFault.TheVariants as fault
use Rattle.casreg_race.specs.declared.race.RaceFault.{RaceFault}
use Rattle.casreg_race.specs.declared.race.RaceFault.TheVariants as race
use Rattle.casreg_tasks.specs.declared.histories.HistoryFault.TheVariants as text
use Rattle.casreg_command.specs.Status.{status_of_rack, status_of_opening, status_of_race, status_of_reopening}
use Rattle.casreg_command.specs.declared.status.Status.{Status}
use Rattle.casreg_command.specs.declared.status.Status.TheVariants as status

from_zero : (n : ℕ) → 0 + n ≡ n
from_zero n = omega arith

-- ---- disks that were asked for their lengths
not_empty_by : {D : Type 0} (m : RackMeaning D) (rack back : Rack D) (number : ℕ) (was now : D) (fault : RackFault) → IsDisk rack number was → IsDisk back number now
    → IsWhyNot m number was fault now → AreDisksToBlame m rack back (status_of_rack fault)
not_empty_by {D} m rack back number was now (rack_fault.NotEmpty disk) is_was is_now why = record {
  disk = was;
  is_disk = subst (λ (n : ℕ). IsDisk rack n was) (sym why.cause.0) is_was;
  not_empty = λ tells empty. why.cause.1 tells ((why.asked.kept tells).content ∙ empty);
}
not_empty_by {D} m rack back number was now (rack_fault.DiskFault disk) is_was is_now why = record {
  was = was;
  is_was = subst (λ (n : ℕ). IsDisk rack n was) (sym why.cause.0) is_was;
  now = now;
  is_now = subst (λ (n : ℕ). IsDisk back n now) (sym why.cause.0) is_now;
  rose = why.cause.1;
}
not_empty_by m rack back number was now rack_fault.NoMemory is_was is_now why = tt

rack_blamed : {D : Type 0} (m : RackMeaning D) (rack back : Rack D) (fault : RackFault) → IsNotEmpty m rack fault back → AreDisksToBlame m rack back (status_of_rack fault)
rack_blamed m rack back fault (an_acceptor one same) = not_empty_by m rack back one.place one.was one.now fault (of_acceptor one.place one.was one.at_was) (of_acceptor one.place one.now one.at_now) (subst (λ (n : ℕ). IsWhyNot m n one.was fault one.now) (from_zero one.place) one.why)
rack_blamed m rack back fault (a_vault empty one) = not_empty_by m rack back (64 + one.place) one.was one.now fault (of_vault one.place one.was one.at_was) (of_vault one.place one.now one.at_now) one.why

-- ---- disks that were started
-- a disk that was asked stands where it stood, and its count did not fall
record WasThere {D : Type 0} (m : RackMeaning D) (old : List D) (place : ℕ) (now : D) : Type 0 where
  pub was : D
  pub at_was : IsAt old place was
  pub never_falls : m.faults was ≤ m.faults now

was_there : {D : Type 0} (m : RackMeaning D) (old new : List D) (to place : ℕ) (now : D) → AreFoundEmptyBelow m old to new → IsAt new place now → WasThere m old place now
was_there {D} m old new to place now empty at = elim (low_or_high place to) [
  | inl low ↦ let before = empty.empty place now low at in record { was = before.0; at_was = before.1; never_falls = before.2.asked.never_falls }
  | inr high ↦ record { was = now; at_was = empty.others place now high at; never_falls = omega arith }
]

opening_by : {D : Type 0} (m : RackMeaning D) (rack asked back : Rack D) (number : ℕ) (was mid now : D) (fault : OpenFault) → IsDisk rack number was
    → m.faults was ≤ m.faults mid → IsDisk back number now
    → IsFaultOf number (m.faults mid) (m.faults now) fault → AreDisksToBlame m rack back (status_of_opening fault)
opening_by {D} m rack asked back number was mid now (opening.DiskFault disk) is_was low is_now cause = record {
  was = was;
  is_was = subst (λ (n : ℕ). IsDisk rack n was) (sym cause.0) is_was;
  now = now;
  is_now = subst (λ (n : ℕ). IsDisk back n now) (sym cause.0) is_now;
  rose = rose_later (m.faults was) (m.faults mid) (m.faults now) low cause.1;
}
opening_by m rack asked back number was mid now (opening.Foreign disk at) is_was low is_now cause = absurd cause
opening_by m rack asked back number was mid now (opening.Spent disk) is_was low is_now cause = absurd cause
opening_by m rack asked back number was mid now opening.NoMemory is_was low is_now cause = tt

opening_blamed : {D : Type 0} (m : RackMeaning D) (count last_proposer : ℕ) (rack asked back : Rack D) (fault : OpenFault) → IsAllEmpty m rack asked
    → StaysClosed m.faults count last_proposer asked.acceptors.items asked.vaults.items fault back.acceptors.items back.vaults.items
    → AreDisksToBlame m rack back (status_of_opening fault)
opening_blamed m count last_proposer rack asked back fault empty (nothing_reached none acceptors vaults) = subst (λ (f : OpenFault). AreDisksToBlame m rack back (status_of_opening f)) (sym none) tt
opening_blamed m count last_proposer rack asked back fault empty (a_member_fails one vaults) =
    let before = was_there m rack.acceptors.items asked.acceptors.items 64 one.place one.was empty.acceptors one.at_was in
    opening_by m rack asked back one.place before.was one.was one.now fault (of_acceptor one.place before.was before.at_was) before.never_falls (of_acceptor one.place one.now one.at_now)
    (subst (λ (n : ℕ). IsFaultOf n (m.faults one.was) (m.faults one.now) fault) (from_zero one.place) one.cause)
opening_blamed m count last_proposer rack asked back fault empty (a_vault_fails members one) =
    let before = was_there m rack.vaults.items asked.vaults.items 17 one.place one.was empty.vaults one.at_was in
    opening_by m rack asked back (64 + one.place) before.was one.was one.now fault (of_vault one.place before.was before.at_was) before.never_falls (of_vault one.place one.now one.at_now)
    one.cause

-- ---- stores that were not opened over their disks
-- a disk of two lists that stand one behind the other
by_place : {D : Type 0} (first later : List D) (number : ℕ) (disk : D) → IsAt (first ++ later) number disk → IsAt first number disk ⊎ ((place : ℕ) × (number ≡ length first + place) × IsAt later place disk)
by_place [] later number disk at = inr (number, omega arith, at)
by_place (d ∷ first) later zero disk at = inl at
by_place (d ∷ first) later (suc number) disk at = elim (by_place first later number disk at) [
  | inl here ↦ inl here
  | inr there ↦ inr (there.0, (let same = there.1 in omega (arith, same)), there.2)
]

disk_of_rack : {D : Type 0} (rack : Rack D) (number : ℕ) (disk : D) → length rack.acceptors.items ≡ 64 → IsAt (disks_in rack) number disk → IsDisk rack number disk
disk_of_rack {D} rack number disk all at = elim (by_place rack.acceptors.items rack.vaults.items number disk at) [
  | inl here ↦ of_acceptor number disk here
  | inr there ↦ subst (λ (n : ℕ). IsDisk rack n disk) (let same = there.1 in omega (arith, same, all)) (of_vault there.0 disk there.2)
]

closed_blamed : {D : Type 0} (m : RackMeaning D) (members : List ℕ) (rack back : Rack D) (fault : ReopenFault) → length rack.acceptors.items ≡ 64 → length back.acceptors.items ≡ 64 → IsWhyClosed m members rack back fault
    → AreDisksToBlame m rack back (status_of_reopening fault)
closed_blamed m members rack back (reopening.LostDisk disk) all all_back why = tt
closed_blamed m members rack back (reopening.Foreign disk at) all all_back why = tt
closed_blamed m members rack back (reopening.TooManyKeys keys) all all_back why = tt
closed_blamed m members rack back (reopening.Spent disk) all all_back why = tt
closed_blamed m members rack back (reopening.DiskFault disk) all all_back why = record {
  was = why.0;
  is_was = disk_of_rack rack disk why.0 all why.2;
  now = why.1;
  is_now = disk_of_rack back disk why.1 all_back why.3;
  rose = why.4;
}
closed_blamed m members rack back reopening.NoMemory all all_back why = tt

-- ---- all of it
-- a run that began ends with no status that names a disk
ran_blamed : {D : Type 0} (meant : Meaning (DiskShelf D) D) (m : RackMeaning D) (tries : ℕ) (P : List (List ℕ) → Type 0) (input old new : Option (List ℕ)) (first last : State (DiskShelf D) D) (rack back : Rack D) (result : Status)
    → WroteIn meant tries P input old new first last result → AreDisksToBlame m rack back result
ran_blamed meant m tries P input old new first last rack back status.Ok wrote = tt
ran_blamed meant m tries P input old new first last rack back status.Usage wrote = tt
ran_blamed meant m tries P input old new first last rack back status.ReadFault wrote = tt
ran_blamed meant m tries P input old new first last rack back status.WriteFault wrote = tt
ran_blamed meant m tries P input old new first last rack back (status.NotEmpty disk) wrote = absurd wrote
ran_blamed meant m tries P input old new first last rack back (status.Foreign disk at) wrote = absurd wrote
ran_blamed meant m tries P input old new first last rack back (status.TooManyKeys keys) wrote = absurd wrote
ran_blamed meant m tries P input old new first last rack back (status.LostDisk disk) wrote = absurd wrote
ran_blamed meant m tries P input old new first last rack back (status.Spent disk) wrote = absurd wrote
ran_blamed meant m tries P input old new first last rack back (status.DiskFault disk) wrote = absurd wrote
ran_blamed meant m tries P input old new first last rack back status.TooManyLines wrote = tt
ran_blamed meant m tries P input old new first last rack back status.NoMemory wrote = tt
ran_blamed meant m tries P input old new first last rack back (status.Endless line) wrote = tt

-- and so does a load
load_blamed : {S V D : Type 0} (meant : Meaning S V) (m : RackMeaning D) (load : Load) (old new : Option (List ℕ)) (world last : View S V) (rack back : Rack D) (result : Status) → WroteSummary meant load old new world last result → AreDisksToBlame m rack back result
load_blamed meant m load old new world last rack back result (whole summary sums wrote) = tt
load_blamed meant m load old new world last rack back result (sink_failed summary sums wrote) = tt
load_blamed meant m load old new world last rack back result (no_text summary sums same) = tt
load_blamed meant m load old new world last rack back result (broke_off breaks same) = tt

-- and so does a race
race_blamed : {D : Type 0} (m : RackMeaning D) (rack back : Rack D) (ended : Result (Unit {0}) RaceFault) → AreDisksToBlame m rack back (status_of_race ended)
race_blamed m rack back (Ok done) = tt
race_blamed m rack back (Err (race.NotRun fault.ReadFault)) = tt
race_blamed m rack back (Err (race.NotRun fault.TooManyLines)) = tt
race_blamed m rack back (Err (race.NotRun (fault.Endless line))) = tt
race_blamed m rack back (Err (race.NotRun fault.NoMemory)) = tt
race_blamed m rack back (Err (race.CutOff text.WriteFault)) = tt
race_blamed m rack back (Err (race.CutOff text.NoMemory)) = tt

-- and an audit
audit_blamed : {D : Type 0} (m : RackMeaning D) (rack back : Rack D) (input old new : Option (List ℕ)) (result : Status) → WroteFinding input old new result
    → AreDisksToBlame m rack back result
audit_blamed m rack back input old new status.Ok wrote = tt
audit_blamed m rack back input old new status.Usage wrote = tt
audit_blamed m rack back input old new status.ReadFault wrote = tt
audit_blamed m rack back input old new status.WriteFault wrote = tt
audit_blamed m rack back input old new (status.NotEmpty disk) wrote = absurd wrote
audit_blamed m rack back input old new (status.Foreign disk at) wrote = absurd wrote
audit_blamed m rack back input old new (status.TooManyKeys keys) wrote = absurd wrote
audit_blamed m rack back input old new (status.LostDisk disk) wrote = absurd wrote
audit_blamed m rack back input old new (status.Spent disk) wrote = absurd wrote
audit_blamed m rack back input old new (status.DiskFault disk) wrote = absurd wrote
audit_blamed m rack back input old new status.TooManyLines wrote = tt
audit_blamed m rack back input old new status.NoMemory wrote = tt
audit_blamed m rack back input old new (status.Endless line) wrote = tt

-- where nothing ran
nothing_blamed : {D : Type 0} (m : RackMeaning D) (asked : Request) (given : WentIn D) (out : CameOut D) → length given.rack.acceptors.items ≡ 64 → length out.rack.acceptors.items ≡ 64 → NothingRan m asked given out
    → AreDisksToBlame m given.rack out.rack out.status
nothing_blamed m asked given out all all_back (no_words_read is same) = subst (λ (s : Status). AreDisksToBlame m given.rack out.rack s) (sym is) tt
nothing_blamed m asked given out all all_back (not_opened fault goes closed stops is) =
    subst (λ (s : Status). AreDisksToBlame m given.rack out.rack s) (sym is) (closed_blamed m (members_of asked) given.rack out.rack fault all all_back closed)
nothing_blamed m asked given out all all_back (not_empty options fault race not is) = subst (λ (s : Status). AreDisksToBlame m given.rack out.rack s) (sym is) (rack_blamed m given.rack out.rack fault not)
nothing_blamed m asked given out all all_back (not_begun options empty fault race are closed is) =
    subst (λ (s : Status). AreDisksToBlame m given.rack out.rack s) (sym is) (opening_blamed m options.acceptors options.proposers given.rack empty out.rack fault are closed)
nothing_blamed m asked given out all all_back (no_board options empty race are is) = subst (λ (s : Status). AreDisksToBlame m given.rack out.rack s) (sym is) tt

by_request : {D : Type 0} (meant : Meaning (DiskShelf D) D) (m : RackMeaning D) (asked : Request) (given : WentIn D) (out : CameOut D) → WroteBy meant m asked given out
    → AreDisksToBlame m given.rack out.rack out.status
by_request meant m (request.Script options) given out by = behind_blamed m given.rack out.rack by.ran.behind (ran_blamed meant m options.tries out.HadEnded given.input given.written by.ran.between _ by.ran.ran.last given.rack out.rack by.ran.before by.ran.ran.wrote)
by_request meant m (request.Race options) given out by = behind_blamed m given.rack out.rack by.raced.behind (subst (λ (s : Status). AreDisksToBlame m given.rack out.rack s) (sym by.raced.raced.is) (race_blamed m given.rack out.rack by.raced.raced.ended))
by_request meant m (request.Load options) given out by =
    behind_blamed m given.rack out.rack by.loaded.behind
    (load_blamed meant m options.load given.written by.loaded.between by.world by.loaded.loaded.last given.rack out.rack by.loaded.before by.loaded.loaded.wrote)
by_request meant m request.Audit given out by = audit_blamed m given.rack out.rack given.input given.written out.written out.status by.wrote

pub blamed : {D : Type 0} (meant : Meaning (DiskShelf D) D) (m : RackMeaning D) (asked : Request) (given : WentIn D) (out : CameOut D) → length given.rack.acceptors.items ≡ 64 → length out.rack.acceptors.items ≡ 64 → Wrote meant m asked given out
    → AreDisksToBlame m given.rack out.rack out.status
blamed meant m asked given out all all_back (inl nothing) = nothing_blamed m asked given out all all_back nothing.why
blamed meant m asked given out all all_back (inr by) = by_request meant m asked given out by
