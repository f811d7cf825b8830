use Rattle.std.proofs.Common.{◌∷◌, ◌<◌, not, length, take, drop, sym, ap, ◌∙◌, arith, eqb-true}
use Rattle.std.proofs.lemmas.Bool.{eqb-false}
use Rattle.std.proofs.lemmas.List.{length-take}
use Rattle.std.proofs.lemmas.List.Sums.{prefix_len-le-length}
use Rattle.cas_change_text.specs.Words.{is_blank, words_of, WordsLeft}
use Rattle.cas_change_text.proofs.WordLists.{word_len, no_first_word, first_word, words_of-blanks}
use Rattle.cas_change_text.proofs.words.Words.next.Goals as goal

pub split_at-requires : goal.split_at-requires
split_at-requires c = omega (arith, c.count_blanks.ensures, prefix_len-le-length is_blank c.self.inside.rest.now)

pub split_at-requires-2 : goal.split_at-requires-2
split_at-requires-2 c = omega (arith, c.count_before_blank.ensures, prefix_len-le-length (λ byte. not (is_blank byte)) c.split_at.result.1.now)

pub returns-then-is_empty-clause-none : goal.returns-then-is_empty-clause-none
returns-then-is_empty-clause-none c =
    let line = c.self.inside.rest.now in
    let from = c.split_at.ensures.back ∙ ap (λ n. drop n line) c.count_blanks.ensures in
    let word = c.split_at-2.ensures.front ∙ ap (λ n. take n c.split_at.result.1.now) c.count_before_blank.ensures ∙ ap (λ l. take (word_len l) l) from in
    ap (λ (w : WordsLeft). w.words) (sym c.self.view_is)
    ∙ no_first_word line (ap length (sym word) ∙ eqb-true (length c.split_at-2.result.0.now) 0 (sym c.is_empty.ensures ∙ c.if-is_empty.true))

pub returns-clause-word : goal.returns-clause-word
returns-clause-word c =
    let line = c.self.inside.rest.now in
    let from = c.split_at.ensures.back ∙ ap (λ n. drop n line) c.count_blanks.ensures in
    let some = eqb-false (length c.split_at-2.result.0.now) 0 (sym c.is_empty.ensures ∙ c.if-is_empty.false) in
    let word = c.split_at-2.ensures.front ∙ ap (λ n. take n c.split_at.result.1.now) c.count_before_blank.ensures in
    let rest = c.split_at-2.ensures.back ∙ ap (λ n. drop n c.split_at.result.1.now) c.count_before_blank.ensures in
    let long : 0 < word_len c.split_at.result.1.now = omega (arith, some, ap length word, length-take (word_len c.split_at.result.1.now) c.split_at.result.1.now) in
    ap (λ (w : WordsLeft). w.words) (sym c.self.view_is)
    ∙ sym (words_of-blanks line) ∙ ap words_of (sym from)
    ∙ first_word c.split_at.result.1.now long
    ∙ (λ i. sym word i ∷ words_of (sym rest i))
