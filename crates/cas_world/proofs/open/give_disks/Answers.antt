use Rattle.std.proofs.Common.{◌≡◌, ◌++◌, ◌∷◌, [], List, ap, ◌∙◌, arith}
use Rattle.std.specs.Prelude.{reverse}
use Rattle.cas_world.specs.Openings.Opening.{disks_of}
use Rattle.cas_vault.specs.declared.vault.Vault.{Vault}
use Rattle.cas_vault.specs.Vault.{disk_of}
use Rattle.cas_world.proofs.Lists.{given}
use Rattle.cas_world.proofs.open.give_disks.Goals as goal

pub loop-desk-preserved : goal.loop-desk-preserved
loop-desk-preserved g c =
    let popped = (c.in-Some.ensures {u = tt}).items in
    let disk : c.into_disk.result ≡ disk_of c.in-Some.desk.vault = c.into_disk.ensures ∙ ap (λ (v : Vault _). disk_of v) c.into_vault.ensures in
    record {
      all = ap (λ (l : List _). disks_of c.pop.new.self.items ++ reverse l) (c.push_reserved.ensures.items ∙ ap (λ (x : _). c.loop-desk.disks.items ++ x ∷ []) disk)
          ∙ given (λ (d : _). disk_of d.vault) c.loop-desk.desks.items c.pop.new.self.items c.in-Some.desk c.loop-desk.disks.items popped
          ∙ c.loop-desk.invariant.all;
      room = omega (arith, c.loop-desk.invariant.room, (c.in-Some.ensures {u = tt}).cases, c.push_reserved.ensures.len, c.push_reserved.ensures.capacity);
    }
