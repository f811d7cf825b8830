use Rattle.std.proofs.Common.{sym, ◌∙◌}
use Rattle.cas_audit.proofs.LowerFloors.{range_last, range_none}
use Rattle.cas_audit.proofs.notes.most_below.Goals as goal

pub returns-in-Some : goal.returns-in-Some
returns-in-Some c = range_last c.args.ballot c.in-Some.floor.now c.args.floors.now.keys c.next_back.new.self c.range.ensures.ordered (sym (c.range.ensures.between tt) ∙ c.in-Some.ensures.steps)

pub returns-in-None : goal.returns-in-None
returns-in-None c = range_none c.args.ballot c.args.floors.now.keys (sym (c.range.ensures.between tt) ∙ c.in-None.ensures.steps.0)
