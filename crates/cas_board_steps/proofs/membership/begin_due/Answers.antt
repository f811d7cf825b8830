use Rattle.std.proofs.Common.{sym, ◌∙◌}
use Rattle.cas_world.specs.Eras.Plans.{asked_of}
use Rattle.cas_board_steps.proofs.Eras.Plans.{nothing_done}
use Rattle.cas_board_steps.proofs.membership.begin_due.Goals as goal

pub begin_rescan-requires-clause-due : goal.begin_rescan-requires-clause-due
begin_rescan-requires-clause-due g c = sym c.requires.due ∙ c.in-Some.is

pub returns-in-None-clause-goes_on : goal.returns-in-None-clause-goes_on
returns-in-None-clause-goes_on g c = nothing_done c.args.world.now (asked_of c.args.target.now) c.requires.planned c.requires.kept
