use Rattle.std.proofs.Common.{◌≡◌, ◌+◌, ◌∷◌, [], ◌++◌, ℕ, List, take, sym, ap, ◌∙◌, arith}
use Rattle.std.specs.List.{flat_map}
use Rattle.std.proofs.lemmas.Grind.{flat_map-append}
use Rattle.std.proofs.lemmas.List.{take_more, append-nil}
use Rattle.casreg_race.specs.declared.told.Told.{Told}
use Rattle.casreg_race.specs.Texts.{told_line}
use Rattle.casreg_race.proofs.told.print_told.Goals as goal

pub loop-one-preserved : goal.loop-one-preserved
loop-one-preserved c =
    let one : Told = c.one-item.result in
    let i = c.loop-one.one-index in
    let caller = c.args.caller in
    let before : List Told = take i c.args.told.now in
    let more : take (i + 1) c.args.told.now ≡ before ++ one ∷ [] = take_more c.args.told.now i one (omega arith) ∙ ap (λ (t : Told). before ++ t ∷ []) (sym c.one-item.is) in
    record {
      lines = c.in_ok-extend_from_slice.ensures.items
          ∙ ap (λ (l : List ℕ). c.loop-one.text.items ++ l) (c.deref.ensures.value ∙ c.in_ok-line.ensures ∙ sym (append-nil (told_line caller one)))
          ∙ ap (λ (l : List ℕ). l ++ flat_map (told_line caller) (one ∷ [])) c.loop-one.invariant.lines
          ∙ sym (flat_map-append (told_line caller) before (one ∷ []))
          ∙ ap (flat_map (told_line caller)) (sym more);
    }
