use Rattle.std.proofs.Common.{◌≡◌, ◌+◌, ◌≤◌, ℕ, false, List, [], None, refl, sym, ap, subst, ◌∙◌, arith}
use Rattle.std.specs.Prelude.{◌==◌, length}
use Rattle.cas_proposer.specs.Desk.{DeskView}
use Rattle.cas_vault.specs.declared.vault.Vault.{Vault}
use Rattle.cas_vault.specs.Vault.{disk_of, KeptOn}
use Rattle.cas_model.specs.View.{DiskMeaning, disk_meaning}
use Rattle.cas_world.specs.Openings.OpeningOn.{GoesOnPast, VaultIsTakenUp}
use Rattle.cas_world.proofs.reopen.take_up_desk.Goals as goal

-- what goes on from a disk that was only asked for its length, goes on from the disk as it was
asked_before : {V : Type 0} (m : DiskMeaning V) (past : ℕ) (is_new : _) (disk asked : V) (vault : Vault V) → (m.tells → (image : List ℕ) → m.may_leave asked image → m.may_leave disk image)
    → GoesOnPast m past is_new asked vault → GoesOnPast m past is_new disk vault
asked_before m past is_new disk asked vault still on = record {
  before = on.before;
  counter = on.counter;
  kept = on.kept;
  started = on.started;
  reopened = λ old tells. (let image = on.reopened old tells in (image.0, still tells image.0 image.1, image.2));
}

pub returns-in-Ok-new-clause-desk : goal.returns-in-Ok-new-clause-desk
returns-in-Ok-new-clause-desk g c =
    let m = disk_meaning g.V.Disk in
    let is = (c.in-Ok-new.ensures {u = tt}).desk in
    let vault : c.in-Ok-new.desk.vault ≡ c.take_up.new.vault = ap (λ (d : DeskView _). d.vault) is in
    let took = c.in-Ok-take_up.ensures {u = tt} in
    let asked : disk_of c.over-vault.result ≡ c.len.new.self = c.over-vault.ensures.disk in
    record {
      is = is ∙ ap (λ (v : Vault _). record { id = c.args.id; vault = v; cache = []; round = None; down = false }) (sym vault);
      vault = subst (VaultIsTakenUp m c.args.past) (sym vault) took.ok;
      is_new = c.in-Ok.length == 0;
      empty = λ tells. ap (λ (n : ℕ). n == 0) (c.in-Ok.ensures.told tells);
      goes_on = asked_before m c.args.past _ c.args.disk (disk_of c.over-vault.result) c.in-Ok-new.desk.vault
          (λ tells image may. (c.in-Ok.ensures.kept tells).outcomes image (subst (λ (d : _). m.may_leave d image) asked may))
          (subst (GoesOnPast m c.args.past _ (disk_of c.over-vault.result)) (sym vault) took.goes_on);
      never_falls = omega (arith, c.len.ensures.cause.never_falls, c.take_up.ensures.cause.never_falls, ap g.V.Disk.fault_count asked, ap (λ (v : Vault _). g.V.Disk.fault_count (disk_of v)) vault);
    }
