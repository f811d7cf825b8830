use Rattle.std.proofs.Common.{◌∷◌, [], Some, ◌∙◌, arith}
use Rattle.cas_vault.proofs.Keeping.{in_use}
use Rattle.cas_vault.proofs.vault.Vault.start.Goals as goal

pub returns-clause-stands : goal.returns-clause-stands
returns-clause-stands g c =
    in_use g.V.Disk.tells g.V.Disk.seen g.V.Disk.may_leave _ c.in_ok-format.ensures.stands (c.in_ok-format.ensures.formatted ∙ (λ t. Some (c.spell.ensures t) ∷ []))
    (record { bound = omega arith; age = omega arith; era = omega arith }) (omega arith)
