use Rattle.std.proofs.Common.{◌≡◌, ℕ, arith, refl, sym, ◌∙◌, ap, Err, subst}
use Rattle.std.proofs.lemmas.Result.{err_from_is_err_and}
use Rattle.std.specs.Io.KnownBytes.{Appends}
use Rattle.std.specs.Prelude.{vec_items}
use Rattle.cas_lines.specs.Sink.{AppendsFront}
use Rattle.cas_model.specs.View.{meaning}
use Rattle.casreg_script.specs.Script.{AnswersLine, RanOrNot}
use Rattle.casreg_command.specs.Causes.{EndsIn, status_of}
use Rattle.casreg_command.proofs.Runs.{midway-nothing, midway-next, midway-line, midway-end}
use Rattle.casreg_command.proofs.Written.{ends_all, ends_fault, wrote_no_answer, wrote_front, if_err, fault_ends}
use Rattle.casreg_command.proofs.cluster.answer_lines.Goals as goal

pub loop-lines-init : goal.loop-lines-init
loop-lines-init g c = record {
  midway = λ first_ at. record { state = first_; is_in = at; midway = midway-nothing _ _ _ _ _ _ _ _ _ c.new-lines.ensures.held c.new-lines.ensures.handed refl };
  tries = refl;
  source_faults = omega arith;
  sink_faults = omega arith;
}

pub returns-in_err-line-clause-ends : goal.returns-in_err-line-clause-ends
returns-in_err-line-clause-ends g c = λ ending is.
    let p = err_from_is_err_and c.from_residual.result c.from_residual.ensures.1 in
    let told : p.0 ≡ status_of ending = cc (p.1, is) in
    fault_ends _ _ _ _ _ _ _ _ _ _ _ _ c.in_err-line.field-0.0 (c.loop-lines.invariant.midway c.requires.state.0 c.requires.state.1).midway (λ same. c.in_err-line.ensures.too_many (ap Err same)) (λ line same. c.in_err-line.ensures.endless line (ap Err same))
    ending (sym p.2 ∙ told)

pub returns-in_err-line-clause-wrote : goal.returns-in_err-line-clause-wrote
returns-in_err-line-clause-wrote g c first_ at =
    let p = err_from_is_err_and c.from_residual.result c.from_residual.ensures.1 in
    if_err _ p.0 _ p.1 (subst (EndsIn _ _ _ _ _ _ _ _) (sym p.2) (ends_fault _ _ _ _ _ _ _ _ _ _ _ _ c.next.new.self _ c.in_err-line.field-0.0 (c.loop-lines.invariant.midway first_ at)
    (λ same. c.in_err-line.ensures.too_many (ap Err same)) (λ line same. c.in_err-line.ensures.endless line (ap Err same)) c.in_err-line.ensures.at_once))

pub loop-lines-preserved : goal.loop-lines-preserved
loop-lines-preserved g c = record {
  midway = λ first_ at.
      let out = rw c.in-Some.is at c.in_ok-line.ensures.line in
      let number = rw c.in-Some.is at c.in_ok-line.ensures.number in
      let handed = rw c.in-Some.is at c.in_ok-line.ensures.handed in
      let few = rw c.in-Some.is at c.in_ok-line.ensures.few in
      let at_once = rw c.in-Some.is at c.in_ok-line.ensures.at_once in
      let midway = c.loop-lines.invariant.midway first_ at in
      let next = midway-next _ _ _ _ _ _ _ _ _ _ _ _ _ _ _ c.in-Some.line midway.midway out at_once few number handed in
      let answered = subst (λ (n : ℕ). AnswersLine (meaning g.H.Shelf g.D.Disk) n midway.state c.in-Some.line.bytes c.in-Some.line.number (vec_items c.in_ok-text.text) c.answer.new.self) c.loop-lines.invariant.tries (c.in_ok-text.ensures.answers midway.state midway.is_in) in
      record {
        state = answered.new;
        is_in = answered.is_in;
        midway = midway-line _ _ _ _ _ _ _ _ _ _ _ _ _ _ c.in-Some.line.bytes c.in-Some.line.number answered.answer _ next answered.run answered.text_is (subst (Appends _ _) c.deref.ensures.value c.in_ok-put_all.ensures.all);
      };
  tries = c.answer.ensures.tries ∙ c.loop-lines.invariant.tries;
  source_faults = omega (arith, c.loop-lines.invariant.source_faults, c.next.ensures.never_falls);
  sink_faults = omega (arith, c.loop-lines.invariant.sink_faults, c.put_all.ensures.by_count.never_falls);
}

pub returns-in_err-text-clause-wrote : goal.returns-in_err-text-clause-wrote
returns-in_err-text-clause-wrote g c first_ at =
    let out = rw c.in-Some.is at c.in_ok-line.ensures.line in
    let number = rw c.in-Some.is at c.in_ok-line.ensures.number in
    let handed = rw c.in-Some.is at c.in_ok-line.ensures.handed in
    let few = rw c.in-Some.is at c.in_ok-line.ensures.few in
    let at_once = rw c.in-Some.is at c.in_ok-line.ensures.at_once in
    let midway = c.loop-lines.invariant.midway first_ at in
    let next = midway-next _ _ _ _ _ _ _ _ _ _ _ _ _ _ _ c.in-Some.line midway.midway out at_once few number handed in
    let p = err_from_is_err_and c.from_residual-in_err-text.result c.from_residual-in_err-text.ensures.1 in
    if_err _ p.0 _ p.1 (subst (EndsIn _ _ _ _ _ _ _ _) (sym p.2) (wrote_no_answer _ _ _ _ _ _ _ _ _ _ _ _ _ _ c.in-Some.line.bytes c.in-Some.line.number next
    (subst (λ (n : ℕ). RanOrNot (meaning g.H.Shelf g.D.Disk) n midway.state c.in-Some.line.bytes c.answer.new.self) c.loop-lines.invariant.tries (c.in_err-text.ensures.err midway.state midway.is_in))))

pub returns-in_err-put_all-clause-wrote : goal.returns-in_err-put_all-clause-wrote
returns-in_err-put_all-clause-wrote g c first_ at =
    let out = rw c.in-Some.is at c.in_ok-line.ensures.line in
    let number = rw c.in-Some.is at c.in_ok-line.ensures.number in
    let handed = rw c.in-Some.is at c.in_ok-line.ensures.handed in
    let few = rw c.in-Some.is at c.in_ok-line.ensures.few in
    let at_once = rw c.in-Some.is at c.in_ok-line.ensures.at_once in
    let midway = c.loop-lines.invariant.midway first_ at in
    let next = midway-next _ _ _ _ _ _ _ _ _ _ _ _ _ _ _ c.in-Some.line midway.midway out at_once few number handed in
    let p = err_from_is_err_and c.from_residual-in_err-put_all.result c.from_residual-in_err-put_all.ensures.1 in
    if_err _ p.0 _ p.1 (subst (EndsIn _ _ _ _ _ _ _ _) (sym p.2) (wrote_front _ _ _ _ _ _ _ _ _ _ _ _ _ _ _ c.in-Some.line.bytes c.in-Some.line.number _ next
    (subst (λ (n : ℕ). AnswersLine (meaning g.H.Shelf g.D.Disk) n midway.state c.in-Some.line.bytes c.in-Some.line.number (vec_items c.in_ok-text.text) c.answer.new.self) c.loop-lines.invariant.tries (c.in_ok-text.ensures.answers midway.state midway.is_in))
    (subst (AppendsFront _ _) c.deref.ensures.value c.in_err-put_all.ensures.front)))

pub returns-clause-all : goal.returns-clause-all
returns-clause-all g c first_ at = ends_all _ _ _ _ _ _ _ _ _ _ _ _ _ (c.loop-lines.invariant.midway first_ at) (rw c.in_default.is at c.in_ok-line.ensures.end)

pub returns-clause-whole : goal.returns-clause-whole
returns-clause-whole g c = midway-end _ _ _ _ _ _ _ _ _ _ _ _ (c.loop-lines.invariant.midway c.requires.state.0 c.requires.state.1).midway (rw c.in_default.is at c.in_ok-line.ensures.end)
