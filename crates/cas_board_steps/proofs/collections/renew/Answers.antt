use Rattle.std.proofs.Common.{sym, ◌∙◌}
use Rattle.cas_board_steps.proofs.Collection.Renewals.{renewal_due, none_due}
use Rattle.cas_board_steps.proofs.collections.renew.Goals as goal

pub renew_proposer-requires-clause-at : goal.renew_proposer-requires-clause-at
renew_proposer-requires-clause-at g c = renewal_due c.args.world.now c.args.key.now c.in-Some.proposer c.requires.at (sym c.in-Some.is ∙ c.renew_next.ensures.next)

pub ask_ages-requires-clause-at : goal.ask_ages-requires-clause-at
ask_ages-requires-clause-at g c = none_due c.args.world.now c.args.key.now c.requires.at (sym c.in-None.is ∙ c.renew_next.ensures.next)
