use Rattle.std.proofs.Common.{◌≡◌, ◌+◌, ◌∷◌, [], Some, None, Err, sym, ◌∙◌, ap, subst, arith, ℕ, List, Option}
use Rattle.std.proofs.lemmas.Grind.{common_steps}
use Rattle.cas_cells.specs.Format.{narrow_told, wide_told, wrong_from}
use Rattle.cas_cells.specs.Held.{OnDisk, SoundAt, payload_held}
use Rattle.cas_cells.specs.declared.cell.Cell.{Cell}
use Rattle.cas_cells.specs.declared.fault.CellFault.TheVariants.{Foreign}
use Rattle.cas_cells.proofs.Rows.{cell_sound}
use Rattle.cas_cells.proofs.Using.{only_cell}
use Rattle.cas_cells.proofs.Recovering.{row_read, foreign_first, foreign_blank, foreign_rest, first_held}
use Rattle.cas_cells.proofs.reading.read_row.Goals as goal

abbrev pair : ℕ → ℕ → ℕ × ℕ
pair m n = (m, n)

pub returns-in_default-clause-foreign : goal.returns-in_default-clause-foreign
returns-in_default-clause-foreign g c tells at told =
    let seen = g.D.Disk.seen c.args.disk.now in
    let first = c.in_ok-first.first in
    let is : SoundAt 0 0 (payload_held first) seen = cell_sound 0 seen 0 first (c.in_ok-first.ensures.held tells) in
    let blank : SoundAt 0 0 None seen = subst (λ (p : Option (List ℕ)). SoundAt 0 0 p seen) c.in_default.ensures.counts is in
    let place : 0 ≡ at = cc in
    foreign_blank seen blank ∙ ap (λ (k : ℕ). Some k) place

pub read_rest-requires-clause-held : goal.read_rest-requires-clause-held
read_rest-requires-clause-held g c tells =
    let seen = g.D.Disk.seen c.args.disk.now in
    let first = c.in_ok-first.first in
    let pushed : c.push.new.self.items ≡ first ∷ [] = grind (arith, common_steps) in
    subst (λ (l : List Cell). OnDisk c.in-Some.narrow (g.D.Disk.seen c.read_cell.new.disk) l) (sym pushed)
    (subst (λ (d : List ℕ). OnDisk c.in-Some.narrow d (first ∷ [])) (sym (c.read_cell.ensures.kept tells).content) (only_cell c.in-Some.narrow seen first (first_held c.in-Some.narrow seen first (c.in_ok-first.ensures.held tells))))

pub returns-in_err-read_rest-clause-foreign : goal.returns-in_err-read_rest-clause-foreign
returns-in_err-read_rest-clause-foreign g c tells at told =
    let seen = g.D.Disk.seen c.args.disk.now in
    let first = c.in_ok-first.first in
    let fault : c.read_rest.result ≡ Err (Foreign at) = grind (arith, common_steps) in
    let head = c.in-Some.ensures.counts.0 in
    let is : SoundAt 0 0 (Some head) seen = subst (λ (p : Option (List ℕ)). SoundAt 0 0 p seen) c.in-Some.ensures.counts.1 (cell_sound 0 seen 0 first (c.in_ok-first.ensures.held tells)) in
    let n = c.in-Some.narrow in
    let count : ℕ = n + c.in-Some.wide in
    let rest : wrong_from n count 1 seen ≡ Some at = subst (λ (d : List ℕ). wrong_from n count 1 d ≡ Some at) (c.read_cell.ensures.kept tells).content (c.read_rest.ensures.foreign tells at fault) in
    let counts : pair n c.in-Some.wide ≡ pair (narrow_told head) (wide_told head) = (λ k. ((c.in-Some.ensures.counts.2) k, (c.in-Some.ensures.counts.3) k)) in
    foreign_rest seen head (Some at) is (subst (λ (x : ℕ × ℕ). wrong_from x.0 (x.0 + x.1) 1 seen ≡ Some at) counts rest)

pub returns-clause-held : goal.returns-clause-held
returns-clause-held g c tells =
    subst (λ (d : List ℕ). OnDisk c.in-Some.narrow d c.read_rest.new.cells.items) (c.read_cell.ensures.kept tells).content (c.in_ok-read_rest.ensures.held tells)

pub returns-clause-row : goal.returns-clause-row
returns-clause-row g c =
    let first = c.in_ok-first.first in
    let pushed : c.push.new.self.items ≡ first ∷ [] = grind (arith, common_steps) in
    let counts = c.in-Some.ensures.counts in
    (row_read c.read_rest.new.cells.items first counts.0 c.in-Some.narrow c.in-Some.wide (c.read_rest.ensures.first ∙ pushed) counts.1 c.in_ok-first.ensures.within counts.2 counts.3 c.in_ok-read_rest.ensures.length).row

pub returns-clause-narrow : goal.returns-clause-narrow
returns-clause-narrow g c =
    let first = c.in_ok-first.first in
    let pushed : c.push.new.self.items ≡ first ∷ [] = grind (arith, common_steps) in
    let counts = c.in-Some.ensures.counts in
    (row_read c.read_rest.new.cells.items first counts.0 c.in-Some.narrow c.in-Some.wide (c.read_rest.ensures.first ∙ pushed) counts.1 c.in_ok-first.ensures.within counts.2 counts.3 c.in_ok-read_rest.ensures.length).narrow_is

pub returns-clause-head : goal.returns-clause-head
returns-clause-head g c =
    let first = c.in_ok-first.first in
    let pushed : c.push.new.self.items ≡ first ∷ [] = grind (arith, common_steps) in
    let counts = c.in-Some.ensures.counts in
    (row_read c.read_rest.new.cells.items first counts.0 c.in-Some.narrow c.in-Some.wide (c.read_rest.ensures.first ∙ pushed) counts.1 c.in_ok-first.ensures.within counts.2 counts.3 c.in_ok-read_rest.ensures.length).head

pub returns-in_err-first-clause-foreign : goal.returns-in_err-first-clause-foreign
returns-in_err-first-clause-foreign g c tells at told =
    let fault : c.read_cell.result ≡ Err (Foreign at) = grind (arith, common_steps) in
    let facts = c.read_cell.ensures.foreign tells at fault in
    foreign_first (g.D.Disk.seen c.args.disk.now) at facts.0 facts.1
