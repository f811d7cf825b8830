use Rattle.std.proofs.Common.{◌≡◌, ◌<◌, ◌++◌, length, reverse, ap, ◌∙◌, arith}
use Rattle.std.proofs.lemmas.Bool.Decides.{nat_tests}
use Rattle.cas_change.specs.declared.state.State.{State}
use Rattle.cas_change.specs.declared.outcome.Outcome.{Outcome}
use Rattle.cas_record.specs.Histories.Replay.{opening_state}
use Rattle.casreg_tasks.specs.Histories.{entry_lines, head_line, history_from}
use Rattle.casreg_tasks.proofs.Entries.{told_more, told_all}
use Rattle.casreg_tasks.proofs.histories.print_history.Goals as goal

pub loop-entry-init : goal.loop-entry-init
loop-entry-init c =
    let same : c.len.result ≡ length c.deref-entry-items.result.now = omega (arith, c.len.ensures, c.deref-entry-items.ensures.len) in
    ap (λ t. t ++ entry_lines c.in_ok-state.state c.deref-entry-items.result.now) (c.in_ok-text.ensures ∙ ap (head_line c.args.key.now) same)

pub loop-entry-preserved : goal.loop-entry-preserved
loop-entry-preserved c =
    let entries = c.deref-entry-items.result.now in
    told_more c.loop-entry.state c.in_ok-state-2.field-0.state entries c.loop-entry.entry-index c.entry-item.result c.loop-entry.text.items c.in_ok-line.line.items
    c.extend_from_slice.new.self.items (head_line c.args.key.now (length entries) ++ entry_lines c.in_ok-state.state entries)
    c.loop-entry-test.true c.entry-item.is c.loop-entry.invariant (ap (λ (o : Outcome). o.state) c.in_ok-state-2.ensures.outcome) c.in_ok-line.ensures
    (c.in_ok-extend_from_slice.ensures.items ∙ ap (λ t. c.loop-entry.text.items ++ t) c.deref.ensures.value)

pub returns : goal.returns
returns c =
    let entries = c.deref-entry-items.result.now in
    let marks = reverse c.args.book.now.marks in
    let some : 0 < length entries = grind (arith, nat_tests, c.is_empty.ensures, c.if-is_empty.false, c.deref-entry-items.ensures.len) in
    told_all c.args.key.now c.in_ok-state.state c.loop-entry.state entries c.loop-entry.entry-index c.loop-entry.text.items c.loop-entry.invariant c.loop-entry-test.false some
    ∙ ap (λ (s : State). history_from c.args.key.now s entries) c.in_ok-state.ensures
    ∙ ap (history_from c.args.key.now (opening_state c.args.key.now marks)) (c.deref-entry-items.ensures.value ∙ c.in_ok-entries.ensures)
