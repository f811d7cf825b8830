use Rattle.std.proofs.Common.{ℕ, ◌-◌, List, length, take, drop, sym, ap, ◌∙◌, arith, Err}
use Rattle.std.proofs.lemmas.List.{length-drop}
use Rattle.cas_wire.specs.Reading.{optional_at, accepted_at}
use Rattle.cas_disk_shelf.proofs.Entries.{rest_from, wrong_accepted, found_entry, left_over}
use Rattle.cas_disk_shelf.proofs.codec.read_accepted.Goals as goal

pub returns-in-Wrong-clause-found : goal.returns-in-Wrong-clause-found
returns-in-Wrong-clause-found c =
    let bytes = c.args.bytes.now in
    let from = c.args.from in
    let part = rw c.in-Wrong.is at c.in_ok-at.ensures.place in
    let rest = rest_from bytes from in
    wrong_accepted bytes c.args.key c.requires.so_far.rest c.args.promise (drop from bytes) c.requires.so_far.key_read c.requires.so_far.promise_read _ (ap (optional_at accepted_at) (sym rest) ∙ part.1)
    ∙ ap (λ (n : ℕ). Err n) (omega (arith, part.0, ap (λ (l : List ℕ). length l) rest, length-drop from bytes, c.requires.so_far.within))

pub returns-then-from-used-clause-found : goal.returns-then-from-used-clause-found
returns-then-from-used-clause-found c =
    let bytes = c.args.bytes.now in
    let from = c.args.from in
    let part = rw c.in-Read.is at c.in_ok-at.ensures.place in
    let rest = rest_from bytes from in
    let long = length-drop c.in-Read.used (take (length bytes - from) (drop from bytes)) in
    left_over bytes c.args.key c.requires.so_far.rest c.args.promise (drop from bytes) c.requires.so_far.key_read c.requires.so_far.promise_read c.in-Read.accepted _ (ap (optional_at accepted_at) (sym rest) ∙ part.1)
    (omega (arith, long, c.if-from-used.true, ap (λ (l : List ℕ). length l) rest, length-drop from bytes))
    ∙ ap (λ (n : ℕ). Err n) (omega (arith, long, c.if-from-used.true, ap (λ (l : List ℕ). length l) rest, length-drop from bytes))

pub returns-else-from-used-clause-found : goal.returns-else-from-used-clause-found
returns-else-from-used-clause-found c =
    let bytes = c.args.bytes.now in
    let from = c.args.from in
    let part = rw c.in-Read.is at c.in_ok-at.ensures.place in
    let rest = rest_from bytes from in
    let long = length-drop c.in-Read.used (take (length bytes - from) (drop from bytes)) in
    found_entry bytes c.args.key c.requires.so_far.rest c.args.promise (drop from bytes) c.requires.so_far.key_read c.requires.so_far.promise_read c.in-Read.accepted _ (ap (optional_at accepted_at) (sym rest) ∙ part.1)
    (omega (arith, long, c.if-from-used.false, ap (λ (l : List ℕ). length l) rest, length-drop from bytes))
