use Rattle.std.proofs.Common.{sym, subst}
use Rattle.cas_vault.specs.Vault.{IsPast}
use Rattle.cas_proposer.specs.Desk.{DeskView}
use Rattle.cas_proposer.proofs.desk.Desk.move_to.Goals as goal

pub returns-in-Ok-clause-still_past : goal.returns-in-Ok-clause-still_past
returns-in-Ok-clause-still_past g c tells n past = c.enter_era.ensures.still_past tells n (subst (λ (d : DeskView g.row.V.Denot). IsPast g.V.Disk.may_leave n d.vault) (sym c.self.view_is) past)

pub returns-in-Err-VaultFault-clause-still_past : goal.returns-in-Err-VaultFault-clause-still_past
returns-in-Err-VaultFault-clause-still_past g c tells n past = c.enter_era.ensures.still_past tells n (subst (λ (d : DeskView g.row.V.Denot). IsPast g.V.Disk.may_leave n d.vault) (sym c.self.view_is) past)

pub returns-in-Err-clause-still_past : goal.returns-in-Err-clause-still_past
returns-in-Err-clause-still_past g c tells n past = c.enter_era.ensures.still_past tells n (subst (λ (d : DeskView g.row.V.Denot). IsPast g.V.Disk.may_leave n d.vault) (sym c.self.view_is) past)
