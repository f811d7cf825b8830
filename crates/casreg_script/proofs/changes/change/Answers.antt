use Rattle.std.proofs.Common.{sym, subst, ◌∙◌}
use Rattle.std.specs.Prelude.{⊤}
use Rattle.cas_record.specs.declared.answer.Answer.{Answer}
use Rattle.cas_model.specs.Calls.Step.{Rescans}
use Rattle.cas_model.specs.View.{meaning}
use Rattle.casreg_script.specs.Calls.Changes.{IsChange, refused, ended, last, none_begun}
use Rattle.casreg_script.proofs.Calls.Keeping.{both, begin_keeps, rounds_keep}
use Rattle.casreg_script.proofs.Calls.Playing.{begun_first, has_begun, begun_over, begun_not_met, refusal_is, told_is, end_closes, ends_rescan}
use Rattle.casreg_script.proofs.changes.change.Goals as goal

pub begin-requires-clause-may : goal.begin-requires-clause-may
begin-requires-clause-may g c = begun_first c.args.world.now c.args.caller c.next_call-call.result c.args.key.now c.args.program.now c.requires.idle c.next_call-call.ensures

pub rounds-answer-requires-clause-begun : goal.rounds-answer-requires-clause-begun
rounds-answer-requires-clause-begun g c = has_begun _ c.args.world.now c.begin.new.self c.args.caller c.next_call-call.result c.args.key.now c.args.program.now c.requires.quiet c.in-Ok.ensures.step.0 c.in-Ok.ensures.step.1

pub returns-in-Ok-clause-change : goal.returns-in-Ok-clause-change
returns-in-Ok-clause-change g c by is =
    let rounds = c.rounds-answer.ensures.rounds by is in
    record {
      view = rounds.view;
      is = rounds.is;
      has = subst (λ (a : Answer). IsChange (meaning g.S.Shelf g.V.Disk) c.args.tries by c.args.caller c.args.key.now c.args.program.now c.args.halt.now c.args.world.now a rounds.view c.rounds-answer.new.halt c.end.new.self) (sym c.end.ensures.same) (ended c.in-Ok.ensures.step.0 rounds.has c.end.ensures.step);
    }

pub returns-in-Ok-clause-idle : goal.returns-in-Ok-clause-idle
returns-in-Ok-clause-idle g c = end_closes _ c.rounds-answer.new.world c.end.new.self c.args.caller c.rounds-answer.result c.end.ensures.step

pub returns-in-Err-clause-change : goal.returns-in-Err-clause-change
returns-in-Err-clause-change g c by is =
    let not_begun = refusal_is _ c.args.world.now c.begin.new.self c.args.caller c.next_call-call.result c.args.key.now c.args.program.now c.in-Err.refusal c.requires.idle (sym c.is_refusal.ensures ∙ c.if-is_refusal.true) c.in-Err.ensures.full c.in-Err.ensures.step in
    record { view = by; is = is; has = refused not_begun.0 not_begun.1 }

pub returns-in-Err-clause-idle : goal.returns-in-Err-clause-idle
returns-in-Err-clause-idle g c =
    (refusal_is _ c.args.world.now c.begin.new.self c.args.caller c.next_call-call.result c.args.key.now c.args.program.now c.in-Err.refusal c.requires.idle (sym c.is_refusal.ensures ∙ c.if-is_refusal.true) c.in-Err.ensures.full c.in-Err.ensures.step).2

pub returns-in-Err-2-clause-change : goal.returns-in-Err-2-clause-change
returns-in-Err-2-clause-change g c by is =
    let begun = told_is ⊤ _ c.args.world.now c.begin.new.self c.args.caller c.next_call-call.result c.args.key.now c.args.program.now c.in-Err.refusal (sym c.is_refusal.ensures ∙ c.if-is_refusal.false) c.in-Err.ensures.step in
    record {
      view = by;
      is = is;
      has = subst (λ (a : Answer). IsChange (meaning g.S.Shelf g.V.Disk) c.args.tries by c.args.caller c.args.key.now c.args.program.now c.args.halt.now c.args.world.now a by c.args.halt.now c.end-in-Err-2.new.self) (sym c.end-in-Err-2.ensures.same)
          (ended begun.0 (last none_begun (begun_not_met _ c.args.world.now c.begin.new.self c.args.caller c.args.key.now c.args.program.now _ begun.0)) c.end-in-Err-2.ensures.step);
    }

pub returns-in-Err-2-clause-idle : goal.returns-in-Err-2-clause-idle
returns-in-Err-2-clause-idle g c = end_closes _ c.begin.new.self c.end-in-Err-2.new.self c.args.caller c.in-Err.refusal c.end-in-Err-2.ensures.step

pub end-requires-clause-told : goal.end-requires-clause-told
end-requires-clause-told g c = c.rounds-answer.ensures.over.was_told

pub returns-in-Ok-clause-rescans : goal.returns-in-Ok-clause-rescans
returns-in-Ok-clause-rescans g c =
    subst (λ (a : Answer). Rescans c.args.world.now.council c.args.caller c.args.key.now a c.end.new.self.council) (sym c.end.ensures.same)
    (ends_rescan _ c.args.world.now c.rounds-answer.new.world c.end.new.self c.args.caller _ c.rounds-answer.result
    (both c.args.world.now c.begin.new.self c.rounds-answer.new.world c.args.caller (begin_keeps _ c.args.world.now c.begin.new.self c.args.caller c.args.key.now c.args.program.now c.in-Ok.ensures.step.0)
    (rounds_keep _ c.args.caller c.args.key.now c.args.program.now c.args.tries c.args.halt.now c.rounds-answer.new.halt c.begin.new.self c.rounds-answer.new.world (c.rounds-answer.ensures.rounds c.requires.network.0 c.requires.network.1).has))
    c.requires.quiet c.rounds-answer.ensures.over c.end.ensures.step)

pub returns-in-Err-clause-rescans : goal.returns-in-Err-clause-rescans
returns-in-Err-clause-rescans g c =
    (refusal_is _ c.args.world.now c.begin.new.self c.args.caller c.next_call-call.result c.args.key.now c.args.program.now c.in-Err.refusal c.requires.idle (sym c.is_refusal.ensures ∙ c.if-is_refusal.true) c.in-Err.ensures.full c.in-Err.ensures.step).3

pub returns-in-Err-2-clause-rescans : goal.returns-in-Err-2-clause-rescans
returns-in-Err-2-clause-rescans g c =
    let begun = told_is ⊤ _ c.args.world.now c.begin.new.self c.args.caller c.next_call-call.result c.args.key.now c.args.program.now c.in-Err.refusal (sym c.is_refusal.ensures ∙ c.if-is_refusal.false) c.in-Err.ensures.step in
    subst (λ (a : Answer). Rescans c.args.world.now.council c.args.caller c.args.key.now a c.end-in-Err-2.new.self.council) (sym c.end-in-Err-2.ensures.same)
    (ends_rescan _ c.args.world.now c.begin.new.self c.end-in-Err-2.new.self c.args.caller _ c.in-Err.refusal (begin_keeps _ c.args.world.now c.begin.new.self c.args.caller c.args.key.now c.args.program.now begun.0) c.requires.quiet
    (begun_over _ c.args.world.now c.begin.new.self c.args.caller c.next_call-call.result c.args.key.now c.args.program.now c.in-Err.refusal c.requires.quiet begun.0 begun.1) c.end-in-Err-2.ensures.step)
