use Rattle.std.proofs.Common.{ℕ, ◌∷◌, List, Option, Bor, subst, sym, ap, ◌∙◌, arith}
use Rattle.std.specs.Option.{option_map}
use Rattle.cas_audit.proofs.Spelling.Rising.{AreMembersReadSoFar, one_read, borrowed_parts}
use Rattle.cas_audit.proofs.words.rising_members.Goals as goal

pub loop-rest-preserved : goal.loop-rest-preserved
loop-rest-preserved c =
    let so_far = subst (λ (rest : Option (Bor (List ℕ))). AreMembersReadSoFar c.args.word.now c.loop-rest.members c.loop-rest.least (option_map (λ (list : Bor (List ℕ)). list.now) rest)) c.in-Some.is c.loop-rest.invariant in
    let behind : Option (List ℕ) = option_map (λ (list : Bor (List ℕ)). list.now) c.first_part.result.1 in
    let split = c.first_part.ensures.split ∙ ap (λ (parts : List (List ℕ)). c.first_part.result.0.now ∷ parts) (borrowed_parts c.first_part.result.1) in
    let read = one_read c.args.word.now c.loop-rest.members c.in-Some.list.now c.first_part.result.0.now c.loop-rest.least c.in_ok-id.id behind so_far split (sym c.in_ok-id.ensures.member) c.in_ok-id.ensures.rises (omega (arith, c.number-least.ensures.value, c.number-least.ensures.within)) in
    rw (c.insert.ensures, c.number-least.ensures.value) read
