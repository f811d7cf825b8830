use Rattle.casreg_script.specs.Eras.Membership.{none}
use Rattle.casreg_script.proofs.Eras.Rescanning.{told_stays}
use Rattle.casreg_script.proofs.membership.carry_out.Goals as goal

pub returns-in-Err-clause-carried : goal.returns-in-Err-clause-carried
returns-in-Err-clause-carried g c by is = record {
  view = by;
  is = is;
  has = record { taken_up = c.take_up.new.world; takes_up = c.in-Err.ensures.taken_up; advances = none; over = λ on. told_stays c.take_up.new.world c.in-Err.told c.in-Err.ensures.told on };
}
