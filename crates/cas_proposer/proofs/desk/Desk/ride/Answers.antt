use Rattle.std.proofs.Common.{sym, subst}
use Rattle.cas_vault.specs.Vault.{IsPast}
use Rattle.cas_proposer.specs.declared.desk.Desk.TheInside.{Inside}
use Rattle.cas_proposer.specs.Desk.{DeskView}
use Rattle.cas_proposer.proofs.desk.Desk.ride.Goals as goal
use Rattle.cas_proposer.proofs.desk.Desk.ride.Goals.{in-Some, in_default}

pub returns-clause-still_past : goal.returns-clause-still_past
returns-clause-still_past g c tells n past =
    let drawn = subst (λ (d : DeskView g.row.V.Denot). IsPast g.V.Disk.may_leave n d.vault) (sym c.self-2.view_is) (c.tag.ensures.still_past tells n past) in
    elim c.match-self.branch [
      | in-Some w ↦ subst (λ (i : Inside g.row.V.Denot). IsPast g.V.Disk.may_leave n i.vault) (sym w.self-inside-is) drawn
      | in_default w ↦ subst (λ (i : Inside g.row.V.Denot). IsPast g.V.Disk.may_leave n i.vault) (sym w.self-inside-is) drawn
    ]
