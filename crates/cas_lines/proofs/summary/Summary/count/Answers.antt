use Rattle.std.proofs.Common.{refl, ap, arith}
use Rattle.cas_lines.specs.Summary.{is_done, is_conflict, is_unsettled, is_other}
use Rattle.cas_lines.proofs.Summaries.{one_if, few_of, none_of, one_more}
use Rattle.cas_lines.proofs.summary.Summary.count.Goals as goal

pub overflow_add-self-in-Done : goal.overflow_add-self-in-Done
overflow_add-self-in-Done c = let few = (few_of c.args.self.now c.requires.counts.0 c.requires.counts.1).done in omega (arith, few, c.requires.room)

pub overflow_add-self-in-Conflict : goal.overflow_add-self-in-Conflict
overflow_add-self-in-Conflict c = let few = (few_of c.args.self.now c.requires.counts.0 c.requires.counts.1).conflict in omega (arith, few, c.requires.room)

pub overflow_add-self-in-Unsettled : goal.overflow_add-self-in-Unsettled
overflow_add-self-in-Unsettled c = let few = (few_of c.args.self.now c.requires.counts.0 c.requires.counts.1).unsettled in omega (arith, few, c.requires.room)

pub overflow_add-self-in_default : goal.overflow_add-self-in_default
overflow_add-self-in_default c = let few = (few_of c.args.self.now c.requires.counts.0 c.requires.counts.1).other in omega (arith, few, c.requires.room)

pub returns-in-Done : goal.returns-in-Done
returns-in-Done c answers is = one_more answers c.args.answer.now c.args.self.now _ is refl (let none = ap is_done c.in-Done.is in omega (arith, ap one_if none)) (let none = ap is_conflict c.in-Done.is in omega (arith, ap one_if none)) (let none = ap is_unsettled c.in-Done.is in omega (arith, ap one_if none)) (let none = ap is_other c.in-Done.is in omega (arith, ap one_if none))

pub returns-in-Conflict : goal.returns-in-Conflict
returns-in-Conflict c answers is = one_more answers c.args.answer.now c.args.self.now _ is refl (let none = ap is_done c.in-Conflict.is in omega (arith, ap one_if none)) (let none = ap is_conflict c.in-Conflict.is in omega (arith, ap one_if none)) (let none = ap is_unsettled c.in-Conflict.is in omega (arith, ap one_if none)) (let none = ap is_other c.in-Conflict.is in omega (arith, ap one_if none))

pub returns-in-Unsettled : goal.returns-in-Unsettled
returns-in-Unsettled c answers is = one_more answers c.args.answer.now c.args.self.now _ is refl (let none = ap is_done c.in-Unsettled.is in omega (arith, ap one_if none)) (let none = ap is_conflict c.in-Unsettled.is in omega (arith, ap one_if none)) (let none = ap is_unsettled c.in-Unsettled.is in omega (arith, ap one_if none)) (let none = ap is_other c.in-Unsettled.is in omega (arith, ap one_if none))

pub returns-in_default : goal.returns-in_default
returns-in_default c answers is =
    let none = none_of c.args.answer.now c.in_default.not-Done c.in_default.not-Conflict c.in_default.not-Unsettled in
    one_more answers c.args.answer.now c.args.self.now _ is refl (omega (arith, ap one_if none.done)) (omega (arith, ap one_if none.conflict)) (omega (arith, ap one_if none.unsettled)) (omega (arith, ap one_if none.other))
