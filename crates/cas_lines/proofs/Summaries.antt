-- One answer more in a summary.
use Rattle.std.proofs.Common.{◌≡◌, ◌+◌, ◌≤◌, ℕ, Bool, true, false, List, [], ◌∷◌, ◌++◌, length, refl, sym, ap, subst, ◌∙◌, arith}
use Rattle.std.specs.Prelude.{if◌then◌else◌}
use Rattle.std.proofs.lemmas.List.{length-append}
use Rattle.cas_record.specs.declared.answer.Answer.{Answer}
use Rattle.cas_record.specs.declared.answer.Answer.TheVariants as answer
use Rattle.cas_lines.specs.Summary.{is_done, is_conflict, is_unsettled, is_other, count, summary_of}
use Rattle.cas_lines.specs.declared.summary.Summary.{Summary}

-- whether one is of a kind, in numbers
abbrev pub one_if : Bool → ℕ
one_if is = if is then 1 else 0

count_append : (is : Answer → Bool) (answers : List Answer) (one : Answer) → count is (answers ++ one ∷ []) ≡ count is answers + one_if (is one)
count_append is [] one = omega arith
count_append is (first_ ∷ answers) one = let more : count is (answers ++ one ∷ []) ≡ count is answers + one_if (is one) = count_append is answers one in omega (arith, more)

few_by : (b : Bool) (n most : ℕ) → n ≤ most → one_if b + n ≤ 1 + most
few_by true n most few = omega (arith, few)
few_by false n most few = omega (arith, few)

-- no kind has more than there are
count_few : (is : Answer → Bool) (answers : List Answer) → count is answers ≤ length answers
count_few is [] = omega arith
count_few is (first_ ∷ answers) = let fewer = few_by (is first_) (count is answers) (length answers) (count_few is answers) in omega (arith, fewer)

pub record IsFew (summary : Summary) : Type 0 where
  pub done : summary.done ≤ summary.lines
  pub conflict : summary.conflict ≤ summary.lines
  pub unsettled : summary.unsettled ≤ summary.lines
  pub other : summary.other ≤ summary.lines

pub few_of : (summary : Summary) (answers : List Answer) → summary ≡ summary_of answers → IsFew summary
few_of summary answers is = subst IsFew (sym is) (record { done = count_few is_done answers; conflict = count_few is_conflict answers; unsettled = count_few is_unsettled answers; other = count_few is_other answers })

-- the summary with one answer more
pub one_more : (answers : List Answer) (one : Answer) (old new : Summary) → old ≡ summary_of answers → new.lines ≡ old.lines + 1 → new.done ≡ old.done + one_if (is_done one) → new.conflict ≡ old.conflict + one_if (is_conflict one) → new.unsettled ≡ old.unsettled + one_if (is_unsettled one)
    → new.other ≡ old.other + one_if (is_other one) → new ≡ summary_of (answers ++ one ∷ [])
one_more answers one old new is lines done conflict unsettled other = λ i. record {
  lines = (lines ∙ ap (λ (s : Summary). s.lines + 1) is ∙ sym (length-append answers (one ∷ []))) i;
  done = (done ∙ ap (λ (s : Summary). s.done + one_if (is_done one)) is ∙ sym (count_append is_done answers one)) i;
  conflict = (conflict ∙ ap (λ (s : Summary). s.conflict + one_if (is_conflict one)) is ∙ sym (count_append is_conflict answers one)) i;
  unsettled = (unsettled ∙ ap (λ (s : Summary). s.unsettled + one_if (is_unsettled one)) is ∙ sym (count_append is_unsettled answers one)) i;
  other = (other ∙ ap (λ (s : Summary). s.other + one_if (is_other one)) is ∙ sym (count_append is_other answers one)) i;
}

-- an answer of no kind that is named is another one
pub record IsNone (one : Answer) : Type 0 where
  pub done : is_done one ≡ false
  pub conflict : is_conflict one ≡ false
  pub unsettled : is_unsettled one ≡ false
  pub other : is_other one ≡ true

pub none_of : (one : Answer) → ((state : _) (took : _) (ballot : _) → one ≡ answer.Done state took ballot → ⊥) → ((met : _) → one ≡ answer.Conflict met → ⊥) → ((why : _) → one ≡ answer.Unsettled why → ⊥) → IsNone one
none_of (answer.Done state took ballot) not_done not_conflict not_unsettled = absurd (not_done state took ballot refl)
none_of (answer.Conflict met) not_done not_conflict not_unsettled = absurd (not_conflict met refl)
none_of (answer.Unsettled why) not_done not_conflict not_unsettled = absurd (not_unsettled why refl)
none_of one not_done not_conflict not_unsettled = record { done = refl; conflict = refl; unsettled = refl; other = refl }
