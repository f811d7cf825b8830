use Rattle.std.proofs.Common.{◌≡◌, ◌≤◌, ℕ, List, length, sym, ◌∙◌, subst}
use Rattle.cas_session_text.proofs.Texts.{text_fits}
use Rattle.cas_session.proofs.attempts.text_of.Goals as goal

-- no text of a session is too long
pub unreachable-requires : goal.unreachable-requires
unreachable-requires c =
    let fits : length c.deref.result.now ≤ 4000 =
    subst (λ (t : List ℕ). length t ≤ 4000) (sym (c.deref.ensures.value ∙ c.in_ok-printed.ensures.text)) (text_fits c.args.session.now c.in_ok-printed.ensures.lawful) in
    let memory = c.in-Err-TooLong.ensures.no_memory.1 fits in
    cc (memory, c.in-Err-TooLong.field-0-is)
