use Rattle.casreg_script.specs.Load.{none, collects}
use Rattle.casreg_script.proofs.load.collect_behind.Goals as goal

pub returns-in_ok-collect-clause-collects : goal.returns-in_ok-collect-clause-collects
returns-in_ok-collect-clause-collects g c by is =
    let told = c.in_ok-collect.ensures.collects by is in
    record { view = told.view; is = told.is; has = collects c.if-line.true (rw c.in_ok-key.ensures at told.has) }

pub returns-else-line-clause-collects : goal.returns-else-line-clause-collects
returns-else-line-clause-collects g c by is = record { view = by; is = is; has = none c.if-line.false }
