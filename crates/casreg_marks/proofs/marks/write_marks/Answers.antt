use Rattle.std.proofs.Common.{◌≡◌, ℕ, suc, List, [], ◌++◌, length, take, sym, ap, subst, ◌∙◌, arith}
use Rattle.std.specs.Io.KnownBytes.{Appends}
use Rattle.std.specs.List.{flat_map, AllByRecursion}
use Rattle.std.proofs.KnownBytes.{Appends-nil, Appends-trans}
use Rattle.std.proofs.lemmas.List.{take_all}
use Rattle.cas_lines.specs.Sink.{AppendsFront}
use Rattle.cas_record.specs.declared.mark.Mark.{Mark}
use Rattle.casreg_marks.specs.Marks.{with_text, count_line, mark_line, record_text}
use Rattle.casreg_marks.proofs.Lined.{SaysItself, text_spells}
use Rattle.casreg_marks.proofs.Written.{on_err, front_done, front_within, so_far, to_come, is_whole, whole_at, whole_around, taken_more, so_far_more, each_more}
use Rattle.casreg_marks.proofs.marks.write_marks.Goals as goal

pub returns-in_err-put_all-clause-front : goal.returns-in_err-put_all-clause-front
returns-in_err-put_all-clause-front g c =
    let marks : List Mark = c.args.marks.now in
    let head : List ℕ = count_line (length (with_text marks)) in
    let line : c.deref.result.now ≡ head = c.deref.ensures.value ∙ c.in_ok-head.ensures in
    on_err c.from_residual-in_err-put_all.result _
    (front_within (record_text (with_text marks)) [] head (flat_map mark_line marks)
    (g.K.Sink.contents c.args.sink.now) (g.K.Sink.contents c.args.sink.now) (g.K.Sink.contents c.put_all.new.sink) (is_whole marks) (Appends-nil _)
    (subst (AppendsFront (g.K.Sink.contents c.args.sink.now) (g.K.Sink.contents c.put_all.new.sink)) line c.in_err-put_all.ensures.front))

pub returns-in_err-line-clause-front : goal.returns-in_err-line-clause-front
returns-in_err-line-clause-front g c =
    let marks : List Mark = c.args.marks.now in
    let i = c.loop-mark.mark-index in
    on_err c.from_residual-in_err-line.result _ (front_done (record_text (with_text marks)) (so_far marks i) (to_come marks i) _ _ (whole_at marks i) c.loop-mark.invariant.written)

pub returns-in_err-put_all-2-clause-front : goal.returns-in_err-put_all-2-clause-front
returns-in_err-put_all-2-clause-front g c =
    let marks : List Mark = c.args.marks.now in
    let i = c.loop-mark.mark-index in
    let mark : Mark = c.mark-item.result in
    let line : c.deref-in-loop-mark.result.now ≡ mark_line mark = c.deref-in-loop-mark.ensures.value ∙ c.in_ok-line.ensures.line in
    on_err c.from_residual-in_err-put_all-2.result _
    (front_within (record_text (with_text marks)) (so_far marks i) (mark_line mark) (to_come marks (suc i))
    (g.K.Sink.contents c.args.sink.now) (g.K.Sink.contents c.loop-mark.sink) (g.K.Sink.contents c.put_all-in-loop-mark.new.sink)
    (whole_around marks i mark c.loop-mark-test.true c.mark-item.is) c.loop-mark.invariant.written
    (subst (AppendsFront (g.K.Sink.contents c.loop-mark.sink) (g.K.Sink.contents c.put_all-in-loop-mark.new.sink)) line c.in_err-put_all-2.ensures.front))

pub loop-mark-preserved : goal.loop-mark-preserved
loop-mark-preserved g c =
    let marks : List Mark = c.args.marks.now in
    let i = c.loop-mark.mark-index in
    let mark : Mark = c.mark-item.result in
    let line : c.deref-in-loop-mark.result.now ≡ mark_line mark = c.deref-in-loop-mark.ensures.value ∙ c.in_ok-line.ensures.line in
    record {
      written = subst (Appends (g.K.Sink.contents c.args.sink.now) (g.K.Sink.contents c.put_all-in-loop-mark.new.sink)) (sym (so_far_more marks i mark c.loop-mark-test.true c.mark-item.is))
          (Appends-trans _ _ _ (so_far marks i) (mark_line mark) c.loop-mark.invariant.written
          (subst (Appends (g.K.Sink.contents c.loop-mark.sink) (g.K.Sink.contents c.put_all-in-loop-mark.new.sink)) line c.in_ok-put_all-2.ensures.all));
      said = subst (AllByRecursion SaysItself) (sym (taken_more marks i mark c.loop-mark-test.true c.mark-item.is))
          (each_more SaysItself (take i marks) mark c.loop-mark.invariant.said c.in_ok-line.ensures.says);
      never_falls = let was = c.loop-mark.invariant.never_falls in let more = c.put_all-in-loop-mark.ensures.by_count.never_falls in omega (arith, was, more);
    }

pub returns-clause-all : goal.returns-clause-all
returns-clause-all g c =
    let marks : List Mark = c.args.marks.now in
    let all : take c.loop-mark.mark-index marks ≡ marks = take_all c.loop-mark.mark-index marks (let end = c.loop-mark-test.false in omega (arith, end)) in
    subst (Appends (g.K.Sink.contents c.args.sink.now) (g.K.Sink.contents c.loop-mark.sink))
    (ap (λ (l : List Mark). count_line (length (with_text marks)) ++ flat_map mark_line l) all ∙ is_whole marks) c.loop-mark.invariant.written

pub returns-clause-spells : goal.returns-clause-spells
returns-clause-spells g c few =
    let marks : List Mark = c.args.marks.now in
    let all : take c.loop-mark.mark-index marks ≡ marks = take_all c.loop-mark.mark-index marks (let end = c.loop-mark-test.false in omega (arith, end)) in
    text_spells marks (subst (AllByRecursion SaysItself) all c.loop-mark.invariant.said) few
