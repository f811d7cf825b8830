use Rattle.std.proofs.Common.{◌∙◌, arith}
use Rattle.cas_slot.proofs.ListingLemmas.{slot_count-entries}
use Rattle.cas_survey.specs.Survey.{kept_on}
use Rattle.cas_restore.specs.Restored.{slots_of}
use Rattle.cas_world.specs.Openings.OpeningOn.{openings_of}
use Rattle.cas_reopen.specs.Shelves.StaysWithin.{between}
use Rattle.cas_reopen.proofs.Giving.{floors_open, counter_low, greatest_low, all_hold, left_between, not_settled, capped}
use Rattle.cas_slot.specs.Slots.{slot_count}
use Rattle.cas_reopen.proofs.shelves.give.Goals as goal

pub returns-in-Err-clause-stops : goal.returns-in-Err-clause-stops
returns-in-Err-clause-stops g c = λ told. between (left_between g.S.Shelf.tells g.S.Shelf.is_up g.S.Shelf.contents g.S.Shelf.may_leave g.S.Shelf.fault_count c.args.members
    (slots_of c.args.found.now.slots)
    c.args.shelves.now.items c.restore_members.new.shelves.items told c.requires.found.found c.restore_members.ensures.towards)

pub returns-in_err-floors_of-clause-stops : goal.returns-in_err-floors_of-clause-stops
returns-in_err-floors_of-clause-stops g c = λ told. between (left_between g.S.Shelf.tells g.S.Shelf.is_up g.S.Shelf.contents g.S.Shelf.may_leave g.S.Shelf.fault_count c.args.members
    (slots_of c.args.found.now.slots)
    c.args.shelves.now.items c.restore_members.new.shelves.items told c.requires.found.found c.restore_members.ensures.towards)

pub returns-clause-stops : goal.returns-clause-stops
returns-clause-stops g c = λ told. between (left_between g.S.Shelf.tells g.S.Shelf.is_up g.S.Shelf.contents g.S.Shelf.may_leave g.S.Shelf.fault_count c.args.members (slots_of c.args.found.now.slots)
    c.args.shelves.now.items c.restore_members.new.shelves.items told c.requires.found.found c.restore_members.ensures.towards)

pub returns-clause-ok : goal.returns-clause-ok
returns-clause-ok g c =
    let listed = c.in_ok-floors_of.ensures {u = tt} in
    let became = (c.in_default.ensures {u = tt}).ok in
    record {
      found = record { slots = slots_of c.args.found.now.slots; found = c.requires.found.found; listed = listed };
      openings = floors_open c.args.members (kept_on g.S.Shelf.contents c.args.shelves.now.items) (slots_of c.args.found.now.slots) (openings_of c.in_ok-floors_of.field-0.items)
          c.requires.found.found listed;
      few = omega (arith, listed.few, slot_count-entries c.args.found.now.slots.entries c.len-keys.ensures.ordered, c.len-keys.ensures.len, c.if-keys-gt-MOST_SLOTS.false);
      counter = c.requires.found.counter;
      limit = c.requires.found.limit;
      held = all_hold g.S.Shelf.tells g.S.Shelf.is_up g.S.Shelf.contents g.S.Shelf.may_leave g.S.Shelf.fault_count c.args.members (slots_of c.args.found.now.slots)
          c.args.shelves.now.items c.restore_members.new.shelves.items (openings_of c.in_ok-floors_of.field-0.items) c.requires.found.found listed became;
      others = became.others;
    }

pub returns-clause-counters : goal.returns-clause-counters
returns-clause-counters g c =
    let listed = c.in_ok-floors_of.ensures {u = tt} in
    greatest_low c.in_ok-floors_of.field-0.items c.args.found.now.past
    (counter_low c.args.members (kept_on g.S.Shelf.contents c.args.shelves.now.items) (slots_of c.args.found.now.slots) (openings_of c.in_ok-floors_of.field-0.items) c.requires.found.found listed
    c.args.found.now.past c.requires.found.counter)

pub returns-in-Err-clause-err : goal.returns-in-Err-clause-err
returns-in-Err-clause-err g c = rw c.fault_of.ensures (not_settled g.S.Shelf.contents g.S.Shelf.is_up g.S.Shelf.fault_count c.args.members c.args.shelves.now.items
    c.restore_members.new.shelves.items c.in-Err.fault
    (c.in-Err.ensures {u = tt}).err)

pub returns-then-keys-gt-MOST_SLOTS-clause-err : goal.returns-then-keys-gt-MOST_SLOTS-clause-err
returns-then-keys-gt-MOST_SLOTS-clause-err g c = record {
  slots = slots_of c.args.found.now.slots;
  found = c.requires.found.found;
  count = c.unwrap_or-keys.ensures ∙ capped c.try_from.result c.len-keys.result (slot_count (slots_of c.args.found.now.slots))
      (omega (arith, slot_count-entries c.args.found.now.slots.entries c.len-keys.ensures.ordered, c.len-keys.ensures.len)) c.try_from.ensures;
  many = omega (arith, slot_count-entries c.args.found.now.slots.entries c.len-keys.ensures.ordered, c.len-keys.ensures.len, c.if-keys-gt-MOST_SLOTS.true);
}

pub returns-in-Err-clause-others : goal.returns-in-Err-clause-others
returns-in-Err-clause-others g c = c.restore_members.ensures.towards.others

pub returns-in_err-floors_of-clause-others : goal.returns-in_err-floors_of-clause-others
returns-in_err-floors_of-clause-others g c = c.restore_members.ensures.towards.others

pub returns-clause-others : goal.returns-clause-others
returns-clause-others g c = c.restore_members.ensures.towards.others
