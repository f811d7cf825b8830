use Rattle.std.proofs.Common.{◌≡◌, ◌≢◌, ℕ, List, None, sym, ap, subst, ◌∙◌}
use Rattle.std.specs.Prelude.{vec_items}
use Rattle.std.proofs.lemmas.Result.{IfOk-weaker}
use Rattle.cas_change_text.specs.declared.refusal.Why.TheVariants as why
use Rattle.cas_model.specs.View.{View, meaning}
use Rattle.cas_lines.specs.Answers.{bad_line}
use Rattle.cas_lines.specs.Command.{IsLine}
use Rattle.cas_lines.specs.Reading.{line_in}
use Rattle.casreg_script.specs.Script.{Bad, Remark, remark, refused, AnswersLine}
use Rattle.casreg_script.specs.Stage.{Stage}
use Rattle.casreg_script.proofs.script.Script.answer.Goals as goal

pub returns-in-Ok-None-clause-answers : goal.returns-in-Ok-None-clause-answers
returns-in-Ok-None-clause-answers g c state at =
    let known : c.self.inside.proposers ≡ state.world.last_proposer = sym c.self.invariant.known ∙ ap (λ (v : Stage _ _). v.world.last_proposer) c.self.view_is ∙ ap (λ (w : View _ _). w.last_proposer) at.world in
    record {
      answer = Remark;
      new = state;
      is_in = at;
      run = remark (subst (λ (n : ℕ). IsLine n c.args.line.now.bytes None) known (subst (λ (l : List ℕ). IsLine c.self.inside.proposers l None) c.bytes.ensures
          (subst (IsLine c.self.inside.proposers c.bytes.result.now) c.in-Ok-None.field-0-is c.in-Ok-None.ensures.found)));
      text_is = c.new.ensures.items;
    }

pub returns-in-Err-clause-answers : goal.returns-in-Err-clause-answers
returns-in-Err-clause-answers g c state at =
    let known : c.self.inside.proposers ≡ state.world.last_proposer = sym c.self.invariant.known ∙ ap (λ (v : Stage _ _). v.world.last_proposer) c.self.view_is ∙ ap (λ (w : View _ _). w.last_proposer) at.world in
    IfOk-weaker c.answer_refusal.result (λ text. (c.in-Err.refusal.why ≢ why.NoMemory) × (vec_items text ≡ bad_line c.number.result c.in-Err.refusal.why))
    (λ text. AnswersLine (meaning g.S.Shelf g.V.Disk) c.args.self.now.tries state c.args.line.now.bytes c.args.line.now.number (vec_items text) c.args.self.now)
    (λ text h. record {
      answer = Bad c.in-Err.refusal.why;
      new = state;
      is_in = at;
      run = refused c.in-Err.refusal.why c.in-Err.refusal.word (ap (λ (n : ℕ). line_in n c.args.line.now.bytes) (sym known) ∙ ap (line_in c.self.inside.proposers) (sym c.bytes.ensures) ∙ c.in-Err.ensures.exact h.0);
      text_is = h.1 ∙ ap (λ (n : ℕ). bad_line n c.in-Err.refusal.why) c.number.ensures;
    }) c.answer_refusal.ensures
