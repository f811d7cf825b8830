use Rattle.std.proofs.Common.{◌≡◌, ◌+◌, ◌<◌, ◌++◌, [], ℕ, List, Vec, Global, length, get_or, map, take, drop, suc, refl, sym, ap, subst, ◌∙◌, arith}
use Rattle.std.specs.Prelude.{vec_items}
use Rattle.std.specs.List.{flat_map}
use Rattle.std.specs.Io.KnownBytes.{Appends}
use Rattle.std.proofs.KnownBytes.{Appends-nil, Appends-trans}
use Rattle.cas_lines.specs.Sink.{AppendsFront}
use Rattle.casreg_race.specs.declared.told.Told.{Told}
use Rattle.casreg_race.specs.Texts.{told_line, told_lines}
use Rattle.casreg_race.proofs.Written.{on_err, front_done, front_within, told_rest, told_around, told_next}
use Rattle.casreg_race.proofs.race.write_answers.Goals as goal

pub returns-in_err-put_all-clause-front : goal.returns-in_err-put_all-clause-front
returns-in_err-put_all-clause-front g c =
    let bad : List ℕ = c.args.results.now.bad.items in
    on_err c.from_residual.result _
    (front_within _ [] bad (told_lines 0 (map vec_items c.args.results.now.told.items)) (g.K.Sink.contents c.args.sink.now) (g.K.Sink.contents c.args.sink.now) (g.K.Sink.contents c.put_all.new.sink) refl (Appends-nil _)
    (subst (AppendsFront (g.K.Sink.contents c.args.sink.now) (g.K.Sink.contents c.put_all.new.sink)) c.deref.ensures.value c.in_err-put_all.ensures.front))

pub returns-in_err-text-clause-front : goal.returns-in_err-text-clause-front
returns-in_err-text-clause-front g c =
    let i = c.loop-caller.caller in
    let all : List (List Told) = map vec_items c.args.results.now.told.items in
    on_err c.from_residual-in_err-text.result _ (front_done _ (c.args.results.now.bad.items ++ told_lines 0 (take i all)) (told_lines (0 + i) (drop i all)) _ _ (told_rest c.args.results.now.bad.items i all) c.loop-caller.invariant.written)

pub returns-in_err-put_all-2-clause-front : goal.returns-in_err-put_all-2-clause-front
returns-in_err-put_all-2-clause-front g c =
    let i = c.loop-caller.caller in
    let bad : List ℕ = c.args.results.now.bad.items in
    let told : List (Vec Told Global) = c.args.results.now.told.items in
    let all : List (List Told) = map vec_items told in
    let one : Vec Told Global = c.told-item.result in
    let value = c.deref-told-items.ensures.value in
    let low : i < length told = let long : length c.deref-told-items.result.now ≡ length told = ap (λ (l : List (Vec Told Global)). length l) value in omega (arith, long) in
    let is : one ≡ get_or told i one = c.told-item.is ∙ ap (λ (l : List (Vec Told Global)). get_or l i one) value in
    let text : c.deref-in-loop-caller-2.result.now ≡ flat_map (told_line i) (vec_items one) = c.deref-in-loop-caller-2.ensures.value ∙ c.in_ok-text.ensures ∙ ap (flat_map (told_line i)) c.deref-in-loop-caller.ensures.value in
    on_err c.from_residual-in_err-put_all-2.result _
    (front_within _ (bad ++ told_lines 0 (take i all)) (flat_map (told_line i) (vec_items one)) (told_lines (suc i) (drop (suc i) all)) (g.K.Sink.contents c.args.sink.now) (g.K.Sink.contents c.loop-caller.sink) (g.K.Sink.contents c.put_all-in-loop-caller.new.sink) (told_around vec_items told i one low is bad) c.loop-caller.invariant.written
    (subst (AppendsFront (g.K.Sink.contents c.loop-caller.sink) (g.K.Sink.contents c.put_all-in-loop-caller.new.sink)) text c.in_err-put_all-2.ensures.front))

pub loop-caller-preserved : goal.loop-caller-preserved
loop-caller-preserved g c =
    let i = c.loop-caller.caller in
    let bad : List ℕ = c.args.results.now.bad.items in
    let told : List (Vec Told Global) = c.args.results.now.told.items in
    let all : List (List Told) = map vec_items told in
    let one : Vec Told Global = c.told-item.result in
    let value = c.deref-told-items.ensures.value in
    let low : i < length told = let long : length c.deref-told-items.result.now ≡ length told = ap (λ (l : List (Vec Told Global)). length l) value in omega (arith, long) in
    let is : one ≡ get_or told i one = c.told-item.is ∙ ap (λ (l : List (Vec Told Global)). get_or l i one) value in
    let text : c.deref-in-loop-caller-2.result.now ≡ flat_map (told_line i) (vec_items one) = c.deref-in-loop-caller-2.ensures.value ∙ c.in_ok-text.ensures ∙ ap (flat_map (told_line i)) c.deref-in-loop-caller.ensures.value in
    record {
      written = subst (Appends (g.K.Sink.contents c.args.sink.now) (g.K.Sink.contents c.put_all-in-loop-caller.new.sink)) (sym (told_next vec_items told i one low is bad))
          (Appends-trans _ _ _ (bad ++ told_lines 0 (take i all)) (flat_map (told_line i) (vec_items one)) c.loop-caller.invariant.written
          (subst (Appends (g.K.Sink.contents c.loop-caller.sink) (g.K.Sink.contents c.put_all-in-loop-caller.new.sink)) text c.in_ok-put_all-2.ensures.all));
      never_falls = let was = c.loop-caller.invariant.never_falls in let more = c.put_all-in-loop-caller.ensures.by_count.never_falls in omega (arith, was, more);
    }
