use Rattle.std.proofs.Common.{ap, ◌∙◌}
use Rattle.cas_model.specs.Exchanges.Step.{told_view}
use Rattle.cas_world.proofs.Exchanges.Exchanges.{some_there}
use Rattle.cas_world.proofs.Eras.Planning.{told_last}
use Rattle.cas_world.proofs.world.World.due_key.Goals as goal

pub returns-in-Err-clause-step : goal.returns-in-Err-clause-step
returns-in-Err-clause-step g c = let there = some_there c.args.self.now.council.order c.requires in record { order = there.0; is_open = there.1; view = c.refuse.ensures.told ∙ ap (told_view c.args.self.now) c.no_memory.ensures }

pub returns-in-Err-clause-told : goal.returns-in-Err-clause-told
returns-in-Err-clause-told g c = let there = some_there c.args.self.now.council.order c.requires in told_last c.args.self.now c.refuse.new.self there.0 _ c.refuse.result there.1 c.refuse.ensures.told c.refuse.ensures.answer
