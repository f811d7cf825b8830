use Rattle.std.proofs.Common.{reverse, sym, ap, is_lt, ◌∙◌}
use Rattle.cas_record.proofs.Kept.Stands.{no_floor, floor_is}
use Rattle.cas_record.proofs.tables.floor_below.Goals as goal

pub returns-in-None : goal.returns-in-None
returns-in-None c = sym (no_floor c.args.key.now c.args.ballot (reverse c.args.marks.now) (sym c.requires ∙ c.in-None.is))

pub returns-then-is_lt : goal.returns-then-is_lt
returns-then-is_lt c = sym (floor_is c.args.key.now c.args.ballot c.in-Some.floor (reverse c.args.marks.now) (sym c.requires ∙ c.in-Some.is) (sym (ap is_lt c.cmp.ensures) ∙ sym c.is_lt.ensures ∙ c.if-is_lt.true))
