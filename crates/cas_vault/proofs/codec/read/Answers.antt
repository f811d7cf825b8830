use Rattle.std.specs.Int.{w32, w64, from_be_bytes}
use Rattle.std.proofs.Common.{Ok, ap, ◌∙◌, arith, List, ℕ, take}
use Rattle.cas_vault.proofs.Spellings.{spelled_by_parts, rest_from, same_record, not_wrong}
use Rattle.cas_vault.proofs.codec.read.Goals as goal

pub returns-in-Some-clause-only : goal.returns-in-Some-clause-only
returns-in-Some-clause-only c kept is = absurd (not_wrong c.args.bytes.now kept c.in-Some.place is c.in-Some.ensures)

pub returns-in-None-clause-found : goal.returns-in-None-clause-found
returns-in-None-clause-found c =
    let bytes = c.args.bytes.now in
    spelled_by_parts bytes _ _ _ (λ i. omega (arith, c.type_inv.bytes i)) c.in-None.ensures
    (c.u64_at.ensures ∙ ap (λ (l : List ℕ). from_be_bytes w64 (take 8 l)) (rest_from bytes 9))
    (c.u64_at-in-None.ensures ∙ ap (λ (l : List ℕ). from_be_bytes w64 (take 8 l)) (rest_from bytes 17))
    (c.u32_at.ensures ∙ ap (λ (l : List ℕ). from_be_bytes w32 (take 4 l)) (rest_from bytes 25))

pub returns-in-None-clause-only : goal.returns-in-None-clause-only
returns-in-None-clause-only c kept is = ap Ok (same_record c.args.bytes.now _ kept (returns-in-None-clause-found c) is)
