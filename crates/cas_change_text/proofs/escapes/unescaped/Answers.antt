use Rattle.std.proofs.Common.{List, ℕ, sym, ap, ◌∙◌}
use Rattle.cas_change_text.specs.Escapes.{unescaped}
use Rattle.cas_change_text.proofs.EscapedTexts.{in_front, in_front-onto}
use Rattle.cas_change_text.proofs.escapes.unescaped.Goals as goal

pub loop-byte-preserved : goal.loop-byte-preserved
loop-byte-preserved c =
    ap (λ (bytes : List ℕ). in_front bytes (unescaped c.in-Some.behind.now)) c.in_ok-push.ensures.items
    ∙ in_front-onto c.loop-byte.bytes.items c.in-Some.byte (unescaped c.in-Some.behind.now)
    ∙ ap (in_front c.loop-byte.bytes.items) (sym c.in-Some.ensures.some)
    ∙ c.loop-byte.invariant
