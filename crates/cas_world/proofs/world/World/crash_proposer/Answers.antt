use Rattle.cas_model.specs.Stops.Step as stops
use Rattle.cas_world.proofs.world.World.crash_proposer.Goals as goal

-- src/parties.rt:53:5
pub returns-then-proposer-eq0 : goal.returns-then-proposer-eq0
returns-then-proposer-eq0 g c = stops.of_operator c.crash_desk.new.self c.if-proposer-eq0.true c.crash_desk.ensures c.break_off.ensures

-- src/parties.rt:53:5
pub returns-else-proposer-eq0 : goal.returns-else-proposer-eq0
returns-else-proposer-eq0 g c = stops.of_client c.if-proposer-eq0.false c.crash_desk.ensures
