use Rattle.std.proofs.Common.{◌≡◌, ◌∷◌, ◌++◌, ◌^◌, ◌<◌, ℕ, List, true, Option, Some, None, refl, sym, ap, subst, ◌∙◌, arith}
use Rattle.std.specs.Prelude.{decimal, ℤ, FitsSigned}
use Rattle.std.specs.Int.{w64}
use Rattle.std.proofs.Math.Facts.{to_z-of_z}
use Rattle.std.specs.Fmt.{signed_decimal}
use Rattle.cas_session_text.specs.declared.reply.LastReply.{LastReply}
use Rattle.cas_session_text.specs.Contents.{IsLastReply, reply_word, lacks}
use Rattle.cas_session_text.proofs.Texts.{lacks-decimal}
use Rattle.cas_session_text.proofs.Reading.{SaysReply, says}
use Rattle.cas_session_text.proofs.session.read_reply.Goals as goal

-- the parts of a word that is a reply's
parts : (reply : LastReply) (word caller rest number value : List ℕ) → IsLastReply reply → reply_word reply ≡ word
    → ((front back : List ℕ) → lacks 58 front ≡ true → front ++ 58 ∷ back ≡ word → (caller ≡ front) × (rest ≡ back))
    → ((front back : List ℕ) → lacks 58 front ≡ true → front ++ 58 ∷ back ≡ rest → (number ≡ front) × (value ≡ back)) → SaysReply reply caller number value
parts reply word caller rest number value is e first second =
    let one = first (decimal reply.caller) (decimal reply.number ++ 58 ∷ signed_decimal reply.reply) (lacks-decimal 58 reply.caller refl (omega (arith, is.caller.known))) e in
    let two = second (decimal reply.number) (signed_decimal reply.reply) (lacks-decimal 58 reply.number refl is.number_fits) (sym one.1) in
    says reply caller number value is one.0 two.0 two.1

pub returns-in_err-caller-clause-again : goal.returns-in_err-caller-clause-again
returns-in_err-caller-clause-again c = λ reply is e.
    let s = parts reply c.args.word.now c.split_at_colon.result.0.now c.split_at_colon.result.1.now c.split_at_colon-2.result.0.now c.split_at_colon-2.result.1.now is e c.split_at_colon.ensures c.split_at_colon-2.ensures in
    let clash : None ≡ Some reply.caller = sym c.in_err-caller.was ∙ c.read_u64.ensures ∙ s.caller in
    absurd (cc (clash))

pub returns-in_err-number-clause-again : goal.returns-in_err-number-clause-again
returns-in_err-number-clause-again c = λ reply is e.
    let s = parts reply c.args.word.now c.split_at_colon.result.0.now c.split_at_colon.result.1.now c.split_at_colon-2.result.0.now c.split_at_colon-2.result.1.now is e c.split_at_colon.ensures c.split_at_colon-2.ensures in
    let clash : None ≡ Some reply.number = sym c.in_err-number.was ∙ c.read_u64-2.ensures ∙ s.number in
    absurd (cc (clash))

pub returns-in_err-reply-clause-again : goal.returns-in_err-reply-clause-again
returns-in_err-reply-clause-again c = λ reply is e.
    let s = parts reply c.args.word.now c.split_at_colon.result.0.now c.split_at_colon.result.1.now c.split_at_colon-2.result.0.now c.split_at_colon-2.result.1.now is e c.split_at_colon.ensures c.split_at_colon-2.ensures in
    let clash : None ≡ Some reply.reply = sym c.in_err-reply.was ∙ c.read_i64.ensures ∙ s.value in
    absurd (cc (clash))

pub returns-clause-again : goal.returns-clause-again
returns-clause-again c = λ reply is e.
    let s = parts reply c.args.word.now c.split_at_colon.result.0.now c.split_at_colon.result.1.now c.split_at_colon-2.result.0.now c.split_at_colon-2.result.1.now is e c.split_at_colon.ensures c.split_at_colon-2.ensures in
    let caller : Some c.in_ok-caller.caller ≡ Some reply.caller = sym c.in_ok-caller.was ∙ c.read_u64.ensures ∙ s.caller in
    let number : Some c.in_ok-number.number ≡ Some reply.number = sym c.in_ok-number.was ∙ c.read_u64-2.ensures ∙ s.number in
    let value : Some c.in_ok-reply.reply ≡ Some reply.reply = sym c.in_ok-reply.was ∙ c.read_i64.ensures ∙ s.value in
    let same : c.in_ok-reply.reply ≡ reply.reply = cc (value) in
    let fits : FitsSigned w64 c.in_ok-reply.reply = subst (FitsSigned w64) (sym same) is.reply_fits in
    let first : c.in_ok-caller.caller ≡ reply.caller = cc (caller) in
    let second : c.in_ok-number.number ≡ reply.number = cc (number) in
    c.reply_by.ensures.again reply is (sym first) (sym second) (sym same ∙ sym (to_z-of_z fits))
