use Rattle.std.proofs.Common.{◌≡◌, ap, sym, ◌∙◌, subst, List, ℕ}
use Rattle.cas_disk.specs.Medium.{MayLeave}
use Rattle.cas_disk.specs.MediumLaws.{seen_is_image}
use Rattle.cas_disk.specs.declared.medium.Medium.{Medium}
use Rattle.cas_disk.specs.declared.medium.Write.{Write}
use Rattle.cas_disk.proofs.memory.MemoryDiskDisk.sync.Goals as goal

pub returns-clause-crash : goal.returns-clause-crash
returns-clause-crash c image left =
    let bytes = c.begin.new.self.medium.bytes.items in
    let pending = c.args.self.now.medium.pending.items in
    let same : bytes ≡ c.args.self.now.medium.bytes.items = ap (λ (m : Medium). m.bytes.items) c.begin.ensures.medium in
    let settled = subst (λ (ws : List Write). MayLeave ws c.settle.new.self.bytes.items image) c.settle.ensures.pending left in
    subst (λ (l : List ℕ). MayLeave pending c.args.self.now.medium.bytes.items l) (sym (settled ∙ c.settle.ensures.bytes)) (subst (λ (l : List ℕ). MayLeave pending c.args.self.now.medium.bytes.items l) (sym same) (seen_is_image pending c.args.self.now.medium.bytes.items c.args.self.now.medium.fit))
