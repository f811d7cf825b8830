use Rattle.std.proofs.Common.{◌≡◌, ◌∷◌, ℕ, List, length, drop, take, refl, sym, ap, ◌∙◌, arith}
use Rattle.cas_session_text.proofs.Texts.{front_of, back_of}
use Rattle.cas_session_text.proofs.session.split_at_colon.Goals as goal

pub returns : goal.returns
returns c = λ front back none e.
    let bytes : List ℕ = c.args.bytes.now in
    let rest : c.split_at.result.1.now ≡ 58 ∷ back = c.split_at.ensures.back ∙ ap (λ n. drop n bytes) c.count_before.ensures.count ∙ back_of 58 front back bytes none refl e in
    let one : c.min.result ≡ 1 = omega (arith, c.min.ensures, ap (length {A = ℕ}) rest) in (
      c.split_at.ensures.front ∙ ap (λ n. take n bytes) c.count_before.ensures.count ∙ front_of 58 front back bytes none refl e,
      c.split_at-2.ensures.back ∙ ap (λ n. drop n c.split_at.result.1.now) one ∙ ap (λ (t : List ℕ). drop 1 t) rest,
    )
