use Rattle.std.proofs.Common.{◌∙◌, ℕ, Option, sym, ap}
use Rattle.cas_disk_shelf.specs.Head.{old_head_of, old_head_by, behind_old}
use Rattle.cas_disk_shelf.proofs.Faults.{err_again}
use Rattle.cas_disk_shelf.proofs.codec.read_old_head.Goals as goal

pub returns-in-Some-clause-read : goal.returns-in-Some-clause-read
unfolding old_head_of
returns-in-Some-clause-read c = sym (ap (λ (o : Option ℕ). old_head_by o c.args.bytes.now) (sym c.in-Some.ensures.place))

pub returns-in_err-narrow-clause-read : goal.returns-in_err-narrow-clause-read
unfolding old_head_of
returns-in_err-narrow-clause-read c =
    let bytes = c.args.bytes.now in
    err_again c.from_residual.result c.in_err-narrow.field-0.0 c.from_residual.ensures.1
    ∙ sym (ap (λ (o : Option ℕ). old_head_by o bytes) (sym c.in_default.ensures.place) ∙ ap (behind_old bytes) (sym c.in_err-narrow.ensures.read))

pub returns-clause-read : goal.returns-clause-read
unfolding old_head_of
returns-clause-read c =
    let bytes = c.args.bytes.now in
    c.read_end.ensures.read
    ∙ sym (ap (λ (o : Option ℕ). old_head_by o bytes) (sym c.in_default.ensures.place) ∙ ap (behind_old bytes) (sym c.in_ok-narrow.ensures.read))
