use Rattle.std.proofs.Common.{◌≡◌, sym, subst, ℕ, List}
use Rattle.cas_change_text.specs.Grammar.{IsState}
use Rattle.cas_change_text.specs.Printing.{state_text}
use Rattle.cas_change_text.specs.Words.{words_of}
use Rattle.cas_change_text.proofs.Printed.{IsState-printed}
use Rattle.cas_change_text.proofs.printing.print_state.Goals as goal

pub returns-clause-spelled : goal.returns-clause-spelled
returns-clause-spelled c =
    let state = c.args.state.now in
    let text : c.into_bytes.result.items ≡ state_text state = cc (c.into_bytes.ensures.value, c.in_ok-push_state.ensures.ok, c.new-text.ensures.bytes) in
    subst (λ (t : List ℕ). IsState (words_of t) state) (sym text) (IsState-printed state c.in_ok-push_state.ensures.fits)
