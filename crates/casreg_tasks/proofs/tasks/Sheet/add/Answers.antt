use Rattle.std.proofs.Common.{◌≡◌, ◌<◌, [], ◌∷◌, ◌++◌, length, get_or, set, map, Some, None, Ok, Err, ap, sym, subst, ◌∙◌, arith}
use Rattle.std.specs.Prelude.{vec_items}
use Rattle.std.proofs.lemmas.List.{length-map}
use Rattle.casreg_tasks.specs.Tasks.{race_line_in, AreParted}
use Rattle.casreg_tasks.proofs.Sheets.{parted_remark, parted_bad, parted_task, grew, task_within, ok_of_both}
use Rattle.casreg_tasks.proofs.tasks.Sheet.add.Goals as goal

pub returns-in_ok-push-in-Ok-Some-clause-parted : goal.returns-in_ok-push-in-Ok-Some-clause-parted
returns-in_ok-push-in-Ok-Some-clause-parted c = λ lines numbered parted.
    let items = c.args.self.now.tasks.items in
    let caller = c.in_ok-caller-in-Ok-Some.caller in
    let is : race_line_in c.args.proposers c.args.line.now.bytes ≡ Ok (Some c.in-Ok-Some.command) = cc (c.bytes.ensures, c.in-Ok-Some.ensures.exact, c.in-Ok-Some.field-0-is) in
    let within = task_within c.args.proposers c.in-Ok-Some.command caller c.in_ok-caller-in-Ok-Some.task (rw c.in-Ok-Some.field-0-is at c.in-Ok-Some.ensures.known) c.in_ok-caller-in-Ok-Some.ensures in
    let low : caller < length items = omega (arith, within, parted.callers, length-map items vec_items) in
    let now = grew items caller c.index_mut.result.now c.push.new.self c.in_ok-caller-in-Ok-Some.task low (c.index_mut.ensures.value ∙ ap (λ i. get_or items i c.index_mut.result.now) c.from.ensures) c.in_ok-push-in-Ok-Some.ensures.items in
    parted_task c.args.proposers lines c.args.line.now.bytes _ _ parted c.in-Ok-Some.command caller c.in_ok-caller-in-Ok-Some.task _ is c.in_ok-caller-in-Ok-Some.ensures within
    (ap (λ i. map vec_items (set items i c.push.new.self)) c.from.ensures ∙ now)

pub returns-in-Ok-None-clause-parted : goal.returns-in-Ok-None-clause-parted
returns-in-Ok-None-clause-parted c = λ lines numbered parted.
    let is : race_line_in c.args.proposers c.args.line.now.bytes ≡ Ok None = cc (c.bytes.ensures, c.in-Ok-None.ensures.exact, c.in-Ok-None.field-0-is) in
    parted_remark c.args.proposers lines c.args.line.now.bytes _ _ parted is

pub returns-in-Err-clause-parted : goal.returns-in-Err-clause-parted
returns-in-Err-clause-parted c = λ lines numbered parted.
    ok_of_both c.refuse.result _ c.refuse.ensures.why c.refuse.ensures.bad (λ why bad.
    let is : race_line_in c.args.proposers c.args.line.now.bytes ≡ Err c.in-Err.refusal = cc (c.bytes.ensures, c.in-Err.ensures.exact why) in
    subst (λ ts. AreParted c.args.proposers (lines ++ c.args.line.now.bytes ∷ []) c.refuse.new.self.bad.items (map vec_items ts)) (sym (ap vec_items c.refuse.ensures.tasks))
    (parted_bad c.args.proposers lines c.args.line.now.bytes _ _ parted c.number.result c.in-Err.refusal c.refuse.new.self.bad.items is (c.number.ensures ∙ numbered) bad))
