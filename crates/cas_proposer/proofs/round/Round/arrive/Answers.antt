use Rattle.cas_proposer.proofs.RoundLemmas.{prepare_hears, accept_hears}
use Rattle.cas_proposer.proofs.round.Round.arrive.Goals as goal

pub returns-in-Prepare : goal.returns-in-Prepare
returns-in-Prepare c = rw (c.met_after-self.ensures, c.is_heard.ensures)
    (prepare_hears c.args.self.now c.args.reply c.in-Prepare.phase c.arrive.new.self c.in-Prepare.is c.arrive.ensures.after c.arrive.ensures.other)

pub returns-in-Accept : goal.returns-in-Accept
returns-in-Accept c = rw (c.met_after-self.ensures, c.is_heard.ensures)
    (accept_hears c.args.self.now c.args.reply c.in-Accept.phase c.arrive-in-Accept.new.self c.in-Accept.is c.arrive-in-Accept.ensures.after c.arrive-in-Accept.ensures.other)
