use Rattle.std.proofs.Common.{◌≡◌, ◌∷◌, ℕ, List, [], Some, None, true, false, take, drop, refl, sym, ap, subst, ◌∙◌}
use Rattle.std.specs.Prelude.{ℤ, FitsSigned}
use Rattle.std.specs.Int.{w64}
use Rattle.std.proofs.Math.Facts.{to_z-of_z}
use Rattle.std.proofs.lemmas.Bool.{true≢false}
use Rattle.cas_change_text.specs.Decimal.{i64_of}
use Rattle.cas_change_text.proofs.Printed.{i64_of-signed_decimal}
use Rattle.cas_session_text.specs.Contents.{SessionContents, IsContents, contents_text}
use Rattle.cas_session_text.proofs.Reading.{space_at, first_word, words_behind, whole_told}
use Rattle.cas_session_text.proofs.session.read_loosely.Goals as goal

-- the value that the first word says
value_read : (contents : SessionContents) (text word : List ℕ) (n : ℕ) → IsContents contents → contents_text contents ≡ text → word ≡ take n text → n ≡ space_at text → i64_of word ≡ Some contents.value
value_read contents text word n lawful e cut count =
    ap i64_of (cut ∙ ap (λ m. take m text) count ∙ sym (first_word contents text lawful e)) ∙ i64_of-signed_decimal contents.value lawful.value_fits

pub returns-in_default : goal.returns-in_default
returns-in_default c = λ contents lawful text.
    absurd (c.in_default.not-Some contents.value (c.read_i64.ensures ∙ value_read contents c.args.text.now c.split_at.result.0.now c.count_before.result lawful text c.split_at.ensures.front c.count_before.ensures.count))

pub returns-then-branch : goal.returns-then-branch
returns-then-branch c = λ contents lawful text.
    let value : Some c.in-Some.value ≡ Some contents.value = sym c.in-Some.is ∙ c.read_i64.ensures ∙ value_read contents c.args.text.now c.split_at.result.0.now c.count_before.result lawful text c.split_at.ensures.front c.count_before.ensures.count in
    let same : c.in-Some.value ≡ contents.value = cc (value) in
    let fits : FitsSigned w64 c.in-Some.value = subst (FitsSigned w64) (sym same) lawful.value_fits in
    let start : c.set_value.new.self ≡ record { value = contents.value; replies = [] } = c.set_value.ensures ∙ (λ i. record { value = (to_z-of_z fits ∙ same) i; replies = ap (λ (s : SessionContents). s.replies) c.new-session.ensures i }) in
    let behind = c.split_at.ensures.back ∙ ap (λ n. drop n c.args.text.now) c.count_before.ensures.count in
    let told = whole_told contents c.set_value.new.self c.tell_words.new.session c.split_at.result.1.now c.in_ok-tell_words.field-0 start lawful (words_behind contents c.args.text.now lawful text ∙ sym behind) c.in_ok-tell_words.ensures in
    cc (told.1)

pub returns-else-branch : goal.returns-else-branch
returns-else-branch c = λ contents lawful text.
    let value : Some c.in-Some.value ≡ Some contents.value = sym c.in-Some.is ∙ c.read_i64.ensures ∙ value_read contents c.args.text.now c.split_at.result.0.now c.count_before.result lawful text c.split_at.ensures.front c.count_before.ensures.count in
    let same : c.in-Some.value ≡ contents.value = cc (value) in
    let fits : FitsSigned w64 c.in-Some.value = subst (FitsSigned w64) (sym same) lawful.value_fits in
    let start : c.set_value.new.self ≡ record { value = contents.value; replies = [] } = c.set_value.ensures ∙ (λ i. record { value = (to_z-of_z fits ∙ same) i; replies = ap (λ (s : SessionContents). s.replies) c.new-session.ensures i }) in
    let behind = c.split_at.ensures.back ∙ ap (λ n. drop n c.args.text.now) c.count_before.ensures.count in
    let told = whole_told contents c.set_value.new.self c.tell_words.new.session c.split_at.result.1.now c.in_ok-tell_words.field-0 start lawful (words_behind contents c.args.text.now lawful text ∙ sym behind) c.in_ok-tell_words.ensures in
    absurd (true≢false (sym told.0 ∙ c.if-branch.false))
