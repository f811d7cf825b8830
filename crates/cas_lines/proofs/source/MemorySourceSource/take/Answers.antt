use Rattle.std.proofs.Common.{arith, rules}
use Rattle.std.proofs.lemmas.Grind.{common_steps}
use Rattle.cas_lines.specs.declared.source.Failed.{Failed}
use Rattle.cas_lines.proofs.Calls.{gives_front}
use Rattle.cas_lines.proofs.Pieces.{split_at_copied}
use Rattle.cas_lines.proofs.source.MemorySourceSource.take.Goals as goal

pub returns-clause-bytes : goal.returns-clause-bytes
returns-clause-bytes c =
    let s = c.self.inside in
    let whole = c.deref-2.ensures.value in
    let counted = rw whole at c.copy_front-count.ensures.count in
    let copied = rw whole at c.copy_front-count.ensures.copied in
    rw (← c.self.view_is) (split_at_copied s.bytes.items _ _ s.at s.piece _ (omega arith) (omega arith) c.copy_front-count.auto.buf counted copied)

pub returns-clause-gives : goal.returns-clause-gives
returns-clause-gives c =
    let s = c.self.inside in
    let whole = c.deref-2.ensures.value in
    let counted = rw whole at c.copy_front-count.ensures.count in
    let copied = rw whole at c.copy_front-count.ensures.copied in
    gives_front Failed _ _ c.copy_front-count.result c.copy_front-count.new.buf (rw (← c.self.view_is) (search rules)) (rw (← c.self.view_is) (first_of (search rules, grind (arith, common_steps))))
    (rw (← c.self.view_is) (split_at_copied s.bytes.items _ _ s.at s.piece _ (omega arith) (omega arith) c.copy_front-count.auto.buf counted copied).0)
