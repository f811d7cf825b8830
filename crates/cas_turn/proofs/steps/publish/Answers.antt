use Rattle.std.proofs.Common.{rules, ap}
use Rattle.cas_turn.specs.Steps.{Sat}
use Rattle.cas_turn.proofs.Taking.{publishes_at, holding_is}
use Rattle.cas_turn.proofs.steps.publish.Goals as goal

pub fetch_add-requires : goal.fetch_add-requires
fetch_add-requires g c = let t = c.requires.table in let r = c.requires.grew in (search rules, search rules, publishes_at _ _ _ _ _ _ _ _ _ _ _ r.2 r.3 r.4 r.5)

pub returns-clause-home : goal.returns-clause-home
returns-clause-home g c = let r = c.requires.grew in (r.1, holding_is g.V.Grows.list g.V.Grows.owner g.V.Grows.part g.V.Grows.seats c.args.top.now.key.seats _ _ _ _ _ (c.fetch_add.ensures.2 (r.1) (ap (λ (m : Sat g.row.V.Denot g.row.V-Item.Denot). m.1) r.2)).0)

pub returns-clause-holds : goal.returns-clause-holds
returns-clause-holds g c w at = (c.fetch_add.ensures.2 w at).0

pub returns-clause-seats : goal.returns-clause-seats
returns-clause-seats g c w at = (c.fetch_add.ensures.2 w at).1
