use Rattle.std.proofs.Common.{◌≡◌, ◌∙◌, Bool, true, false, sym, ap, arith}
use Rattle.cas_disk_shelf.specs.Head.{head_of, head_as, is_old, IsSpelledHead}
use Rattle.cas_disk_shelf.specs.HeadLaws.{head_back}
use Rattle.cas_disk_shelf.proofs.Faults.{each_ok}
use Rattle.cas_disk_shelf.proofs.codec.read_head.Goals as goal

pub returns-then-is_old-clause-spelled : goal.returns-then-is_old-clause-spelled
returns-then-is_old-clause-spelled c =
    let bytes = c.args.bytes.now in
    let old : is_old bytes ≡ true = sym c.is_old.ensures ∙ c.if-is_old.true in
    let read : head_of bytes ≡ c.read_old_head.result = ap (λ (b : Bool). head_as b bytes) old ∙ sym c.read_old_head.ensures.read in
    each_ok c.read_old_head.result (IsSpelledHead bytes) (λ head is. head_back bytes head (λ i. omega (arith, c.type_inv.bytes i)) (read ∙ is))

pub returns-else-is_old-clause-spelled : goal.returns-else-is_old-clause-spelled
returns-else-is_old-clause-spelled c =
    let bytes = c.args.bytes.now in
    let new : is_old bytes ≡ false = sym c.is_old.ensures ∙ c.if-is_old.false in
    let read : head_of bytes ≡ c.read_new_head.result = ap (λ (b : Bool). head_as b bytes) new ∙ sym c.read_new_head.ensures.read in
    each_ok c.read_new_head.result (IsSpelledHead bytes) (λ head is. head_back bytes head (λ i. omega (arith, c.type_inv.bytes i)) (read ∙ is))
