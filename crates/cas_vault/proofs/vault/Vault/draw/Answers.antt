use Rattle.std.proofs.Common.{arith}
use Rattle.cas_vault.proofs.Keeping.{past_along, bound_to_draw}
use Rattle.cas_vault.proofs.vault.Vault.draw.Goals as goal

pub returns-in_err-cover-clause-still_past : goal.returns-in_err-cover-clause-still_past
returns-in_err-cover-clause-still_past g c tells n past =
    let s = c.requires in
    past_along g.V.Disk.tells g.V.Disk.seen g.V.Disk.may_leave g.V.Disk.moment g.V.Disk.left_since _ _ _ n s tells
    (g.met.V.Disk.seen_may_stay _ tells) (λ t image. g.met.V.Disk.counts_now _ t image tells) (c.cover.ensures.any_moment tells)
    (bound_to_draw c.args.self.now.counter c.args.self.now.kept s.fits.bound) (omega arith) past

pub returns-clause-still_past : goal.returns-clause-still_past
returns-clause-still_past g c tells n past =
    let s = c.requires in
    past_along g.V.Disk.tells g.V.Disk.seen g.V.Disk.may_leave g.V.Disk.moment g.V.Disk.left_since _ _ _ n s tells
    (g.met.V.Disk.seen_may_stay _ tells) (λ t image. g.met.V.Disk.counts_now _ t image tells) (c.cover.ensures.any_moment tells)
    (bound_to_draw c.args.self.now.counter c.args.self.now.kept s.fits.bound) (omega arith) past
