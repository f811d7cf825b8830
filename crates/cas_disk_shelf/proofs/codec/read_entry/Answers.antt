use Rattle.std.proofs.Common.{ℕ, List, length, drop, sym, ap, ◌∙◌, arith, Err}
use Rattle.std.proofs.lemmas.List.{length-drop}
use Rattle.cas_wire.specs.Reading.{ballot_at}
use Rattle.cas_disk_shelf.proofs.Entries.{rest_from, wrong_key, wrong_promise}
use Rattle.cas_disk_shelf.proofs.codec.read_entry.Goals as goal

pub returns-in-Wrong-clause-found : goal.returns-in-Wrong-clause-found
returns-in-Wrong-clause-found c =
    let bytes = c.args.bytes.now in
    let part = rw c.in-Wrong.is at c.in_ok-at.ensures.place in
    wrong_key bytes _ part.1 ∙ ap (λ (n : ℕ). Err n) (omega (arith, part.0))

pub returns-in-Wrong-take_ballot-clause-found : goal.returns-in-Wrong-take_ballot-clause-found
returns-in-Wrong-take_ballot-clause-found c =
    let bytes = c.args.bytes.now in
    let used = c.in-Read.used in
    let part = rw c.in-Read.is at c.in_ok-at.ensures.place in
    let wrong = c.in-Wrong-take_ballot.ensures.place in
    let rest = rest_from bytes used in
    wrong_promise bytes c.in-Read.key (drop used bytes) _ part.1 (ap ballot_at (sym rest) ∙ wrong.1)
    ∙ ap (λ (n : ℕ). Err n) (omega (arith, part.0, wrong.0, ap (λ (l : List ℕ). length l) rest, length-drop used bytes))
