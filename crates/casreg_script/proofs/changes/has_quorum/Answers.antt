use Rattle.casreg_script.proofs.Calls.Playing.{quorum_shown}
use Rattle.casreg_script.proofs.changes.has_quorum.Goals as goal

pub returns : goal.returns
returns g c =
    let shown = quorum_shown c.args.world.now c.args.proposer c.requires.«open».0 c.requires.«open».1 c.verdict.result c.requires.«open».2 c.verdict.ensures in
    (λ yes. shown.0 (c.is_quorum.ensures.0 yes), λ has. c.is_quorum.ensures.1 (shown.1 has))
