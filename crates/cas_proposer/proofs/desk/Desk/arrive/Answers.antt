use Rattle.std.proofs.Common.{Option, sym, subst}
use Rattle.cas_proposer.specs.declared.desk.Desk.TheInside.{Inside}
use Rattle.cas_proposer.specs.declared.round.Round.{Round}
use Rattle.cas_proposer.specs.Desk.{IsDesk}
use Rattle.cas_proposer.proofs.DeskLemmas.{still_desk}
use Rattle.cas_proposer.proofs.desk.Desk.arrive.Goals as goal
use Rattle.cas_proposer.proofs.desk.Desk.arrive.Goals.{in-Some, in-None}

pub invariant_of-self : goal.invariant_of-self
invariant_of-self g c =
    elim c.match-self.branch [
      | in-Some w ↦ subst (λ (i : Inside g.row.V.Denot). IsDesk g.V.Disk.tells g.V.Disk.seen g.V.Disk.may_leave i.vault i.cache i.round i.down) (sym w.self-inside-is)
          (still_desk g.V.Disk.tells g.V.Disk.seen g.V.Disk.may_leave c.self.inside.vault c.self.inside.cache c.self.inside.down w.in-Some.round c.args.reply w.arrive.new.self w.arrive.ensures c.requires
          (subst (λ (o : Option Round). IsDesk g.V.Disk.tells g.V.Disk.seen g.V.Disk.may_leave c.self.inside.vault c.self.inside.cache o c.self.inside.down) w.in-Some.is c.self.invariant))
      | in-None w ↦ subst (λ (i : Inside g.row.V.Denot). IsDesk g.V.Disk.tells g.V.Disk.seen g.V.Disk.may_leave i.vault i.cache i.round i.down) (sym w.self-inside-is) c.self.invariant
    ]
