use Rattle.std.proofs.Common.{refl}
use Rattle.cas_disk.proofs.Moments.{from_there}
use Rattle.cas_vault.specs.Vault.{KeepsBeforeOrAfter}
use Rattle.cas_vault.proofs.Keeping.{still_in_use}
use Rattle.cas_vault.proofs.vault.Vault.keep.Goals as goal

pub write-requires-clause-stands : goal.write-requires-clause-stands
write-requires-clause-stands g c =
    let s = c.requires.stands in
    still_in_use g.V.Disk.tells g.V.Disk.seen g.V.Disk.may_leave c.args.self.now _ s (c.forget_past.ensures.stands s.row) c.forget_past.ensures.cells refl refl

pub returns-clause-any_moment : goal.returns-clause-any_moment
returns-clause-any_moment g c tells = from_there g.V.Disk.moment g.V.Disk.left_since _ _ _ (KeepsBeforeOrAfter c.args.self.now.kept c.args.kept) (c.forget_past.ensures.now tells) (c.write.ensures.any_moment tells)
