use Rattle.std.proofs.Common.{ap, sym, ◌∙◌, arith}
use Rattle.std.proofs.lemmas.Bool.{eqb-true, eqb-false}
use Rattle.cas_disk_shelf.specs.Cell.{entry_in}
use Rattle.cas_disk_shelf.proofs.Entries.{no_bytes, not_a_kind, free_found, free_over, some_bytes}
use Rattle.cas_disk_shelf.proofs.codec.read_cell.Goals as goal

pub returns-in_default-clause-found : goal.returns-in_default-clause-found
returns-in_default-clause-found c = no_bytes c.args.bytes.now c.in_default.ensures.cases

pub returns-then-kind-gt1-clause-found : goal.returns-then-kind-gt1-clause-found
returns-then-kind-gt1-clause-found c = ap entry_in c.in-Some.ensures.cases.0 ∙ not_a_kind c.in-Some.kind.now c.in-Some.rest.now c.if-kind-gt1.true

pub returns-then-is_empty-clause-found : goal.returns-then-is_empty-clause-found
returns-then-is_empty-clause-found c =
    ap entry_in c.in-Some.ensures.cases.0
    ∙ free_found c.in-Some.kind.now c.in-Some.rest.now (omega (arith, c.if-kind-gt1.false, c.if-kind-eq1.false)) (eqb-true _ _ (sym c.is_empty.ensures ∙ c.if-is_empty.true))

pub returns-else-is_empty-clause-found : goal.returns-else-is_empty-clause-found
returns-else-is_empty-clause-found c =
    ap entry_in c.in-Some.ensures.cases.0
    ∙ free_over c.in-Some.kind.now c.in-Some.rest.now (omega (arith, c.if-kind-gt1.false, c.if-kind-eq1.false)) (some_bytes _ (eqb-false _ _ (sym c.is_empty.ensures ∙ c.if-is_empty.false)))
