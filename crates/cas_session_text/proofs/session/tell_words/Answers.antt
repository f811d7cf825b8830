use Rattle.std.proofs.Common.{◌≡◌, ◌<◌, ℕ, List, Some, length, take, drop, refl, sym, ap, ◌∙◌, arith}
use Rattle.std.proofs.lemmas.Bool.{eqb-true, eqb-false}
use Rattle.cas_session_text.specs.declared.reply.LastReply.{LastReply}
use Rattle.cas_session_text.proofs.Reading.{Next, next_read, next_left, all_told}
use Rattle.cas_session_text.proofs.session.tell_words.Goals as goal

pub returns-in_default : goal.returns-in_default
returns-in_default c = λ replies text lawful.
    let words : List ℕ = c.split_at.result.1.now in
    let some : 0 < length c.loop-rest.rest.now = omega (arith, eqb-false (length c.loop-rest.rest.now) 0 (sym c.is_empty.ensures ∙ c.loop-rest-test.true)) in
    let next = next_read c.args.session.now c.loop-rest.session replies c.loop-rest.rest.now words lawful (c.loop-rest.invariant replies text lawful) some c.split_at.ensures.back in
    let word = c.split_at-in-loop-rest.ensures.front ∙ ap (λ n. take n words) c.count_before.ensures.count in
    absurd (c.in_default.not-Some next.reply (c.read_reply.ensures.again next.reply next.lawful (next.word ∙ sym word)))

pub loop-rest-preserved : goal.loop-rest-preserved
loop-rest-preserved c = λ replies text lawful.
    let words : List ℕ = c.split_at.result.1.now in
    let some : 0 < length c.loop-rest.rest.now = omega (arith, eqb-false (length c.loop-rest.rest.now) 0 (sym c.is_empty.ensures ∙ c.loop-rest-test.true)) in
    let next = next_read c.args.session.now c.loop-rest.session replies c.loop-rest.rest.now words lawful (c.loop-rest.invariant replies text lawful) some c.split_at.ensures.back in
    let word = c.split_at-in-loop-rest.ensures.front ∙ ap (λ n. take n words) c.count_before.ensures.count in
    let behind = c.split_at-in-loop-rest.ensures.back ∙ ap (λ n. drop n words) c.count_before.ensures.count in
    let read : Some c.in-Some.reply ≡ Some next.reply = sym c.in-Some.is ∙ c.read_reply.ensures.again next.reply next.lawful (next.word ∙ sym word) in
    next_left c.args.session.now c.loop-rest.session c.tell.new.self replies words c.split_at-in-loop-rest.result.1.now c.in-Some.reply next (cc (read)) c.in_ok-tell.ensures.told behind

pub returns : goal.returns
returns c = λ replies text lawful.
    (refl, all_told c.args.session.now c.loop-rest.session replies c.loop-rest.rest.now (c.loop-rest.invariant replies text lawful) (eqb-true (length c.loop-rest.rest.now) 0 (sym c.is_empty.ensures ∙ c.loop-rest-test.false)))
