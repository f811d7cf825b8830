use Rattle.casreg_script.proofs.Opened.{new_idle, new_quiet}
use Rattle.test_store.proofs.script.opened.Goals as goal

pub new-requires-clause-idle : goal.new-requires-clause-idle
new-requires-clause-idle c = new_idle _ _ c.in-Ok.world c.in-Ok.ensures.opening c.in-Ok.ensures.places

pub new-requires-clause-quiet : goal.new-requires-clause-quiet
new-requires-clause-quiet c = new_quiet _ _ c.in-Ok.world c.in-Ok.ensures.opening
