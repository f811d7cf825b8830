use Rattle.std.specs.Prelude.{is_some, nat_le}
use Rattle.std.proofs.Common.{◌≡◌, ℕ, ◌+◌, ◌<◌, ◌≤◌, Bool, true, false, None, Err, refl, sym, ap, subst, ◌∙◌, arith}
use Rattle.std.proofs.lemmas.Bool.{le-leb, lt-leb, or_from, or_left, or_right}
use Rattle.cas_slot.proofs.LimitLemmas.{put_fits}
use Rattle.cas_slot.specs.Contents.{kept_at}
use Rattle.cas_slot.specs.Limits.{AllBallotsFit}
use Rattle.cas_slot.specs.Slots.{slot_count}
use Rattle.cas_cells.specs.Cells.{cells_of, disk_of}
use Rattle.cas_cells.specs.Format.{cell_place, narrow_in}
use Rattle.cas_cells.proofs.Survival.{narrow_seen}
use Rattle.cas_disk_shelf.specs.Image.{is_one_too_many, place_on}
use Rattle.cas_disk_shelf.specs.Memory.{alone_in}
use Rattle.cas_disk_shelf.proofs.Loading.{loaded_narrow, loaded_twin, loaded_wide, not_some, read_to_narrow, read_to_twin, read_to_wide, too_many_next, unknown}
use Rattle.cas_disk_shelf.proofs.memory.take_in.Goals as goal
use Rattle.cas_disk_shelf.proofs.memory.take_in.Goals.{then-has-via-then-has, then-has-via-else-has+then-len-ge-MOST_SLOTS}

pub returns-then-is_twin-clause-loaded : goal.returns-then-is_twin-clause-loaded
returns-then-is_twin-clause-loaded g c =
    let r = c.requires in
    loaded_twin (cells_of c.args.cells.now) c.args.so_many (c.args.so_many + 1) refl c.args.loaded.now c.settle.new.self r.loaded c.args.key c.args.slot r.holds (sym c.is_twin.ensures ∙ c.if-is_twin.true)
    c.settle.ensures.held c.in_ok-settle.ensures.index c.settle.ensures.free c.in_ok-settle.ensures.alone (c.in_ok-settle.ensures.counted _ r.loaded.counted)

pub returns-then-is_twin-clause-read : goal.returns-then-is_twin-clause-read
returns-then-is_twin-clause-read g c =
    let r = c.requires in
    read_to_twin (cells_of c.args.cells.now) c.args.so_many (c.args.so_many + 1) refl c.args.loaded.now c.settle.new.self r.loaded c.args.key c.args.slot r.holds (sym c.is_twin.ensures ∙ c.if-is_twin.true)
    r.read c.settle.ensures.held c.in_ok-settle.ensures.alone

pub returns-then-has-clause-foreign : goal.returns-then-has-clause-foreign
returns-then-has-clause-foreign g c tells at is =
    let r = c.requires in
    let row = cells_of c.args.cells.now in
    let seen = g.D.Disk.seen (disk_of c.args.cells.now) in
    let old = c.args.loaded.now in
    let same : c.place.result ≡ at = cc in
    let has : Bool = is_some (kept_at old.memory.held c.args.key) in
    let full : Bool = nat_le 4096 (slot_count old.memory.held.slots) in
    let many : is_one_too_many old.memory.held.slots c.args.key ≡ true = elim c.then-has.branch [
      | then-has-via-then-has w ↦ or_left has full (sym c.has.ensures ∙ w.if-has.true)
      | then-has-via-else-has+then-len-ge-MOST_SLOTS w ↦ or_right has full (le-leb 4096 (slot_count old.memory.held.slots) (omega (arith, w.if-len-ge-MOST_SLOTS.true, w.len.ensures)))
    ] in
    too_many_next row c.args.so_many (c.args.so_many + 1) refl (place_on seen) (old.memory.held.slots, alone_in old) (r.read (place_on seen)) c.args.key c.args.slot r.holds (sym c.is_twin.ensures ∙ c.if-is_twin.false) many
    ∙ ap (λ (n : ℕ). Err n) (ap (λ (n : ℕ). cell_place n (c.args.so_many + 1)) (narrow_seen g.D.Disk.tells g.D.Disk.seen g.D.Disk.may_leave c.args.cells.now r.stands tells) ∙ sym c.place.ensures.place ∙ same)

pub add_narrow-requires-clause-new : goal.add_narrow-requires-clause-new
add_narrow-requires-clause-new g c =
    let r = c.requires in
    let old = c.args.loaded.now in
    let none : kept_at old.memory.held c.args.key ≡ None = not_some (kept_at old.memory.held c.args.key) (sym c.has.ensures ∙ c.if-has.false) in
    let room : slot_count old.memory.held.slots < 4096 = omega (arith, c.if-len-ge-MOST_SLOTS.false, c.len.ensures) in
    let many : is_one_too_many old.memory.held.slots c.args.key ≡ false = or_from _ _ (sym c.has.ensures ∙ c.if-has.false) (lt-leb 4096 (slot_count old.memory.held.slots) room) in
    (unknown (cells_of c.args.cells.now) c.args.so_many (c.args.so_many + 1) refl old old r.loaded c.args.key c.args.slot r.holds (sym c.is_twin.ensures ∙ c.if-is_twin.false) none room many).1

pub returns-in_ok-add_narrow-clause-fits : goal.returns-in_ok-add_narrow-clause-fits
returns-in_ok-add_narrow-clause-fits g c =
    subst AllBallotsFit (sym c.in_ok-add_narrow.ensures.held) (put_fits c.args.loaded.now.memory.held c.args.key c.args.slot c.requires.fits c.requires.slot_fits)

pub returns-in_ok-add_narrow-clause-loaded : goal.returns-in_ok-add_narrow-clause-loaded
returns-in_ok-add_narrow-clause-loaded g c =
    let r = c.requires in
    let old = c.args.loaded.now in
    let none : kept_at old.memory.held c.args.key ≡ None = not_some (kept_at old.memory.held c.args.key) (sym c.has.ensures ∙ c.if-has.false) in
    let room : slot_count old.memory.held.slots < 4096 = omega (arith, c.if-len-ge-MOST_SLOTS.false, c.len.ensures) in
    let many : is_one_too_many old.memory.held.slots c.args.key ≡ false = or_from _ _ (sym c.has.ensures ∙ c.if-has.false) (lt-leb 4096 (slot_count old.memory.held.slots) room) in
    let near : c.args.so_many + 1 ≤ narrow_in (cells_of c.args.cells.now) = omega (arith, c.if-cell-narrow_count.true, c.narrow_count.ensures.count) in
    loaded_narrow (cells_of c.args.cells.now) c.args.so_many (c.args.so_many + 1) refl old c.add_narrow.new.self r.loaded c.args.key c.args.slot r.holds (sym c.is_twin.ensures ∙ c.if-is_twin.false) none room many
    near c.in_ok-add_narrow.ensures.held c.add_narrow.ensures.index c.add_narrow.ensures.free c.in_ok-add_narrow.ensures.alone (c.in_ok-add_narrow.ensures.counted _ r.loaded.counted)

pub returns-in_ok-add_narrow-clause-read : goal.returns-in_ok-add_narrow-clause-read
returns-in_ok-add_narrow-clause-read g c =
    let r = c.requires in
    let old = c.args.loaded.now in
    let none : kept_at old.memory.held c.args.key ≡ None = not_some (kept_at old.memory.held c.args.key) (sym c.has.ensures ∙ c.if-has.false) in
    let room : slot_count old.memory.held.slots < 4096 = omega (arith, c.if-len-ge-MOST_SLOTS.false, c.len.ensures) in
    let many : is_one_too_many old.memory.held.slots c.args.key ≡ false = or_from _ _ (sym c.has.ensures ∙ c.if-has.false) (lt-leb 4096 (slot_count old.memory.held.slots) room) in
    let near : c.args.so_many + 1 ≤ narrow_in (cells_of c.args.cells.now) = omega (arith, c.if-cell-narrow_count.true, c.narrow_count.ensures.count) in
    read_to_narrow (cells_of c.args.cells.now) c.args.so_many (c.args.so_many + 1) refl old c.add_narrow.new.self r.loaded c.args.key c.args.slot r.holds (sym c.is_twin.ensures ∙ c.if-is_twin.false) none room many
    r.read near c.in_ok-add_narrow.ensures.held c.in_ok-add_narrow.ensures.alone

pub returns-in_ok-add_wide-clause-fits : goal.returns-in_ok-add_wide-clause-fits
returns-in_ok-add_wide-clause-fits g c =
    subst AllBallotsFit (sym c.in_ok-add_wide.ensures.held) (put_fits c.args.loaded.now.memory.held c.args.key c.args.slot c.requires.fits c.requires.slot_fits)

pub returns-in_ok-add_wide-clause-loaded : goal.returns-in_ok-add_wide-clause-loaded
returns-in_ok-add_wide-clause-loaded g c =
    let r = c.requires in
    let old = c.args.loaded.now in
    let none : kept_at old.memory.held c.args.key ≡ None = not_some (kept_at old.memory.held c.args.key) (sym c.has.ensures ∙ c.if-has.false) in
    let room : slot_count old.memory.held.slots < 4096 = omega (arith, c.if-len-ge-MOST_SLOTS.false, c.len.ensures) in
    let many : is_one_too_many old.memory.held.slots c.args.key ≡ false = or_from _ _ (sym c.has.ensures ∙ c.if-has.false) (lt-leb 4096 (slot_count old.memory.held.slots) room) in
    let far : narrow_in (cells_of c.args.cells.now) < c.args.so_many + 1 = omega (arith, c.if-cell-narrow_count.false, c.narrow_count.ensures.count) in
    loaded_wide (cells_of c.args.cells.now) c.args.so_many (c.args.so_many + 1) refl old c.add_wide.new.self r.loaded c.args.key c.args.slot r.holds (sym c.is_twin.ensures ∙ c.if-is_twin.false) none room many
    far c.in_ok-add_wide.ensures.held c.in_ok-add_wide.ensures.index c.add_wide.ensures.free c.add_wide.ensures.alone (c.in_ok-add_wide.ensures.counted _ r.loaded.counted)

pub returns-in_ok-add_wide-clause-read : goal.returns-in_ok-add_wide-clause-read
returns-in_ok-add_wide-clause-read g c =
    let r = c.requires in
    let old = c.args.loaded.now in
    let none : kept_at old.memory.held c.args.key ≡ None = not_some (kept_at old.memory.held c.args.key) (sym c.has.ensures ∙ c.if-has.false) in
    let room : slot_count old.memory.held.slots < 4096 = omega (arith, c.if-len-ge-MOST_SLOTS.false, c.len.ensures) in
    let many : is_one_too_many old.memory.held.slots c.args.key ≡ false = or_from _ _ (sym c.has.ensures ∙ c.if-has.false) (lt-leb 4096 (slot_count old.memory.held.slots) room) in
    let far : narrow_in (cells_of c.args.cells.now) < c.args.so_many + 1 = omega (arith, c.if-cell-narrow_count.false, c.narrow_count.ensures.count) in
    read_to_wide (cells_of c.args.cells.now) c.args.so_many (c.args.so_many + 1) refl old c.add_wide.new.self r.loaded c.args.key c.args.slot r.holds (sym c.is_twin.ensures ∙ c.if-is_twin.false) none room many
    r.read far c.in_ok-add_wide.ensures.held c.add_wide.ensures.alone
