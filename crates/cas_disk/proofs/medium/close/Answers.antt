use Rattle.std.proofs.Common.{◌≡◌, ◌∷◌, [], ◌++◌, ◌<◌, length, arith, refl}
use Rattle.std.proofs.lemmas.Grind.{common_steps}
use Rattle.cas_disk.proofs.Epochs.{closes_some}
use Rattle.cas_disk.proofs.medium.close.Goals as goal

pub returns-clause-past : goal.returns-clause-past
returns-clause-past c =
    let some : 0 < length c.args.pending.now.items = grind (arith, common_steps) in
    let grown : c.push.new.self.items ≡ c.args.past.now.items ++ record { writes = c.replace-writes.result; before = c.args.before } ∷ [] = grind (arith, common_steps) in
    closes_some _ _ _ _ (record { writes = c.replace-writes.result; before = c.args.before }) some grown (grind (arith, common_steps)) refl
