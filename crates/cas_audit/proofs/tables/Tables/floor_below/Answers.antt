use Rattle.std.proofs.Common.{sym, ap, ◌∙◌}
use Rattle.std.specs.Prelude.{option_copied}
use Rattle.cas_audit.specs.Tables.{ballots_in}
use Rattle.cas_audit.specs.Told.{most_below}
use Rattle.cas_audit.proofs.LowerFloors.{floors_below}
use Rattle.cas_audit.proofs.tables.Tables.floor_below.Goals as goal

pub returns-in-Some : goal.returns-in-Some
returns-in-Some c = λ marks audit.
    c.most_below.ensures ∙ ap (most_below c.args.ballot) (ap ballots_in (ap option_copied (sym c.in-Some.is) ∙ c.get.ensures.value) ∙ audit.are.floors c.args.key.now) ∙ floors_below c.args.key.now c.args.ballot marks

pub returns-in-None : goal.returns-in-None
returns-in-None c = λ marks audit. ap (most_below c.args.ballot) (ap ballots_in (ap option_copied (sym c.in-None.is) ∙ c.get.ensures.value) ∙ audit.are.floors c.args.key.now) ∙ floors_below c.args.key.now c.args.ballot marks
