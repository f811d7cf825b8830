use Rattle.std.proofs.Common.{◌≡◌, ◌∙◌, ℕ, Bool, Option, cond, length, Err, sym, ap}
use Rattle.std.proofs.lemmas.Bool.{lt-ltb, le-ltb}
use Rattle.cas_disk_shelf.specs.Head.{new_head_of, new_head_by, behind_narrow, behind_wide, count_at}
use Rattle.cas_disk_shelf.proofs.Faults.{err_again}
use Rattle.cas_disk_shelf.proofs.codec.read_new_head.Goals as goal

pub returns-in-Some-clause-read : goal.returns-in-Some-clause-read
unfolding new_head_of
returns-in-Some-clause-read c = sym (ap (λ (o : Option ℕ). new_head_by o c.args.bytes.now) (sym c.in-Some.ensures.place))

pub returns-in_err-narrow-clause-read : goal.returns-in_err-narrow-clause-read
unfolding new_head_of
returns-in_err-narrow-clause-read c =
    let bytes = c.args.bytes.now in
    let told : count_at 9 bytes ≡ Err c.in_err-narrow.field-0.0 = sym c.in_err-narrow.ensures.read in
    err_again c.from_residual.result c.in_err-narrow.field-0.0 c.from_residual.ensures.1
    ∙ sym (ap (λ (o : Option ℕ). new_head_by o bytes) (sym c.in_default.ensures.place) ∙ ap (behind_narrow bytes) told)

pub returns-then-bytes-lt13-clause-read : goal.returns-then-bytes-lt13-clause-read
unfolding new_head_of
returns-then-bytes-lt13-clause-read c =
    let bytes = c.args.bytes.now in
    sym (ap (λ (o : Option ℕ). new_head_by o bytes) (sym c.in_default.ensures.place) ∙ ap (behind_narrow bytes) (sym c.in_ok-narrow.ensures.read)
    ∙ ap (λ (b : Bool). cond b (Err (length bytes)) (behind_wide c.in_ok-narrow.narrow bytes (count_at 13 bytes))) (lt-ltb (length bytes) 13 c.if-bytes-lt13.true))

pub returns-in_err-count-clause-read : goal.returns-in_err-count-clause-read
unfolding new_head_of
returns-in_err-count-clause-read c =
    let bytes = c.args.bytes.now in
    err_again c.from_residual-in_err-count.result c.in_err-count.field-0.0 c.from_residual-in_err-count.ensures.1
    ∙ sym (ap (λ (o : Option ℕ). new_head_by o bytes) (sym c.in_default.ensures.place) ∙ ap (behind_narrow bytes) (sym c.in_ok-narrow.ensures.read)
    ∙ ap (λ (b : Bool). cond b (Err (length bytes)) (behind_wide c.in_ok-narrow.narrow bytes (count_at 13 bytes))) (le-ltb (length bytes) 13 c.if-bytes-lt13.false)
    ∙ ap (behind_wide c.in_ok-narrow.narrow bytes) (sym c.in_err-count.ensures.read))

pub returns-clause-read : goal.returns-clause-read
unfolding new_head_of
returns-clause-read c =
    let bytes = c.args.bytes.now in
    c.read_end.ensures.read
    ∙ sym (ap (λ (o : Option ℕ). new_head_by o bytes) (sym c.in_default.ensures.place) ∙ ap (behind_narrow bytes) (sym c.in_ok-narrow.ensures.read)
    ∙ ap (λ (b : Bool). cond b (Err (length bytes)) (behind_wide c.in_ok-narrow.narrow bytes (count_at 13 bytes))) (le-ltb (length bytes) 13 c.if-bytes-lt13.false)
    ∙ ap (behind_wide c.in_ok-narrow.narrow bytes) (sym c.in_ok-count.ensures.read))
