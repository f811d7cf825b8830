use Rattle.std.proofs.Common.{not, ap, ◌∙◌}
use Rattle.cas_world.specs.Eras.Plans.{asked_of}
use Rattle.cas_board_steps.proofs.Eras.Plans.{list_waits, list_through}
use Rattle.cas_board_steps.proofs.membership.list_on.Goals as goal

pub gather_list-requires-clause-through : goal.gather_list-requires-clause-through
gather_list-requires-clause-through g c = list_through c.args.world.now (asked_of c.args.target.now) c.front.result c.requires.lists c.front.ensures (c.is_none.ensures ∙ ap not c.if-is_none.true)

pub turn_list-requires-clause-waits : goal.turn_list-requires-clause-waits
turn_list-requires-clause-waits g c = list_waits c.args.world.now (asked_of c.args.target.now) c.front.result c.requires.lists c.front.ensures (c.is_none.ensures ∙ ap not c.if-is_none.false)
