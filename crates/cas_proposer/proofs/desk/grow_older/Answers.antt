use Rattle.std.proofs.Common.{arith}
use Rattle.cas_vault.specs.Vault.{counter_of}
use Rattle.cas_proposer.proofs.DeskLemmas.{still_ok, past_below}
use Rattle.cas_proposer.proofs.desk.grow_older.Goals as goal

pub returns-clause-past : goal.returns-clause-past
returns-clause-past g c tells =
    still_ok c.raise_age.result (past_below g.V.Disk.tells g.V.Disk.seen g.V.Disk.may_leave c.raise_age.new.self c.args.counter (counter_of c.forward.new.self) (omega (arith, c.forward.ensures.counter))) (c.raise_age.ensures.past tells)

pub returns-clause-still_past : goal.returns-clause-still_past
returns-clause-still_past g c tells n past = c.raise_age.ensures.still_past tells n (c.forward.ensures.still_past n past)
