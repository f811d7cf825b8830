use Rattle.std.proofs.Common.{◌≡◌, ◌+◌, ◌-◌, length, sym, ap, subst, ◌∙◌, arith}
use Rattle.std.specs.Prelude.{Some, None, IfOk}
use Rattle.cas_world.specs.Calls.Beginning.{opening_of}
use Rattle.std.specs.Prelude.{is_some}
use Rattle.cas_world_calls.specs.declared.call.Caller.{Caller}
use Rattle.cas_world.proofs.Parts.{at_place}
use Rattle.cas_world.proofs.Calls.Reserving.{others_within, some_not, none_not}
use Rattle.cas_model.proofs.Places.{some_is}
use Rattle.cas_world.proofs.begin.make_room.Goals as goal
use Rattle.cas_world.proofs.begin.make_room.Goals.{then-is_none, else-is_none}

pub reserved_by-requires-2 : goal.reserved_by-requires-2
reserved_by-requires-2 c = omega (arith, c.requires.few, others_within c.from-place.result (length c.args.callers.now - (c.from-place.result + 1)) c.args.callers.now)

pub overflow_add-others : goal.overflow_add-others
overflow_add-others c = omega (arith, c.requires.few, c.reserved_by.ensures, c.reserved_by-2.ensures, others_within c.from-place.result (length c.args.callers.now - (c.from-place.result + 1)) c.args.callers.now)

pub overflow_add-others-2 : goal.overflow_add-others-2
overflow_add-others-2 c = omega (arith, c.requires.few, c.reserved_by.ensures, c.reserved_by-2.ensures, others_within c.from-place.result (length c.args.callers.now - (c.from-place.result + 1)) c.args.callers.now)

pub overflow_add-marks : goal.overflow_add-marks
overflow_add-marks c = let made : length c.marks.result.now ≡ length c.args.record.now.marks = ap (λ l. length l) c.marks.ensures in
    omega (arith, made, c.requires.few, c.reserved_by.ensures, c.reserved_by-2.ensures, others_within c.from-place.result (length c.args.callers.now - (c.from-place.result + 1)) c.args.callers.now)

pub overflow_add-marks-2 : goal.overflow_add-marks-2
overflow_add-marks-2 c = let made : length c.marks.result.now ≡ length c.args.record.now.marks = ap (λ l. length l) c.marks.ensures in
    omega (arith, made, c.requires.few, c.requires.marks, c.reserved_by.ensures, c.reserved_by-2.ensures, others_within c.from-place.result (length c.args.callers.now - (c.from-place.result + 1)) c.args.callers.now)

pub returns-in-Ok-clause-first : goal.returns-in-Ok-clause-first
returns-in-Ok-clause-first c caller at none =
    let same : caller ≡ c.index-callers-place.result = some_is (sym at ∙ at_place c.args.callers.now c.from-place.result c.args.author.caller c.index-callers-place.result c.from-place.ensures c.requires.place c.index-callers-place.is) in
    elim c.if-is_none.branch [
      | then-is_none w ↦ subst (λ r. IfOk r (λ opening. opening ≡ Some (opening_of c.args.author c.args.key.now c.args.program.now))) (sym w.made-is ∙ c.in-Ok.is) w.new_opening-made.ensures.opening
      | else-is_none w ↦ absurd (none_not caller.call none (ap (λ (k : Caller). is_some k.call) (same ∙ c.index-callers-place.is) ∙ w.if-is_none.ensures))
    ]

pub returns-in-Ok-clause-again : goal.returns-in-Ok-clause-again
returns-in-Ok-clause-again c caller at some =
    let same : caller ≡ c.index-callers-place.result = some_is (sym at ∙ at_place c.args.callers.now c.from-place.result c.args.author.caller c.index-callers-place.result c.from-place.ensures c.requires.place c.index-callers-place.is) in
    elim c.if-is_none.branch [
      | then-is_none w ↦ absurd (some_not caller.call some (ap (λ (k : Caller). is_some k.call) (same ∙ c.index-callers-place.is) ∙ w.if-is_none.ensures))
      | else-is_none w ↦ subst (λ r. IfOk r (λ opening. opening ≡ None)) (sym w.made-is ∙ c.in-Ok.is) w.reserve-made.ensures.none
    ]
