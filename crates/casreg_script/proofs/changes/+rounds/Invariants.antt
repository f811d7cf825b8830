use Rattle.casreg_script.proofs.changes.+rounds.Given as goal

abbrev pub decreases-rounds : goal.decreases-rounds
decreases-rounds g l = l.tries
