use Rattle.std.specs.Prelude.{replicate}
use Rattle.std.proofs.Common.{◌≡◌, ◌+◌, ◌-◌, ◌/◌, ◌%◌, ◌∷◌, ◌++◌, ◌≤◌, [], length, take, arith, ◌∙◌, ap, List, ℕ}
use Rattle.std.proofs.lemmas.Grind.{common_steps}
use Rattle.std.proofs.lemmas.List.{take_all}
use Rattle.cas_cells.proofs.frame.tail_of.Goals as goal

pub returns : goal.returns
returns c =
    let payload = c.args.payload.now in
    let most : ℕ = c.args.size - 1 in
    let so_far : c.extend_from_slice.new.self.items ≡ (c.args.number ∷ length payload / 256 ∷ length payload % 256 ∷ []) ++ payload = grind (arith, common_steps) in
    let grown : c.resize.new.self.items ≡ take most c.extend_from_slice.new.self.items ++ replicate (most - length c.extend_from_slice.new.self.items) 0 = grind (arith, common_steps) in
    let front = c.args.number ∷ length payload / 256 ∷ length payload % 256 ∷ payload in
    let fits : length front ≤ most = omega (arith, c.requires.fits.fits) in
    let room : most - length front ≡ c.args.size - (length payload + 4) = omega arith in
    grown
    ∙ ap (λ (l : List ℕ). take most l ++ replicate (most - length l) 0) so_far
    ∙ ap (λ (l : List ℕ). l ++ replicate (most - length front) 0) (take_all most front fits)
    ∙ ap (λ (k : ℕ). front ++ replicate k 0) room
