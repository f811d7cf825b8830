use Rattle.std.proofs.Common.{arith}
use Rattle.cas_vault.proofs.Keeping.{past_along}
use Rattle.cas_vault.proofs.vault.Vault.enter_era.Goals as goal

pub returns-clause-still_past : goal.returns-clause-still_past
returns-clause-still_past g c tells n past =
    past_along g.V.Disk.tells g.V.Disk.seen g.V.Disk.may_leave g.V.Disk.moment g.V.Disk.left_since _ _ _ n c.requires tells
    (g.met.V.Disk.seen_may_stay _ tells) (λ t image. g.met.V.Disk.counts_now _ t image tells) (c.keep.ensures.any_moment tells) (omega arith) (omega arith) past
