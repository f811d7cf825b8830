-- A key is what passed the three tests.
use Rattle.std.proofs.Common.{arith, sym, ◌∙◌, refl}
use Rattle.std.proofs.lemmas.Result.{err_from_is_err_and}
use Rattle.cas_change.proofs.Keys.{key_bytes, no_bad_byte}
use Rattle.cas_change.proofs.key.Key.read.Goals as goal

pub returns-in-Some-clause-no_memory : goal.returns-in-Some-clause-no_memory
returns-in-Some-clause-no_memory c = (λ e. cc, λ key. absurd (no_bad_byte _ _ key (sym c.first_bad_byte.ensures ∙ c.in-Some.is)))

pub returns-in_err-from_slice-clause-no_memory : goal.returns-in_err-from_slice-clause-no_memory
returns-in_err-from_slice-clause-no_memory c =
    let fault = err_from_is_err_and c.from_residual.result c.from_residual.ensures.1 in
    rw (fault.1, fault.2)
    (λ e. key_bytes _ (grind arith) (omega arith) (sym c.first_bad_byte.ensures ∙ c.in_default.is), λ key. refl)

pub invariant_of-result : goal.invariant_of-result
invariant_of-result c = rw c.in_ok-from_slice.ensures.ok (record { key = key_bytes _ (grind arith) (omega arith) (sym c.first_bad_byte.ensures ∙ c.in_default.is); number = c.prefix_number.ensures })

pub returns-clause-key : goal.returns-clause-key
returns-clause-key c = (c.in_ok-from_slice.ensures.ok, key_bytes _ (grind arith) (omega arith) (sym c.first_bad_byte.ensures ∙ c.in_default.is))
