use Rattle.std.proofs.Common.{◌≡◌, ◌≤◌, inl, inr, false, sym, ◌∙◌, arith, below_more}
use Rattle.std.proofs.lemmas.Bool.{cases_lt}
use Rattle.cas_vault.specs.Places.{may_stand}
use Rattle.cas_vault.proofs.Spellings.{begins, begins_none, none_behind}
use Rattle.cas_vault.proofs.codec.first_wrong.Goals as goal

pub returns-then-not-may_stand : goal.returns-then-not-may_stand
returns-then-not-may_stand c =
    let bytes = c.args.bytes.now in
    let place = c.loop-place.place in
    let wrong : may_stand bytes place ≡ false = sym c.may_stand.ensures ∙ c.if-not-may_stand.true in
    let short : place ≤ 29 = elim (cases_lt 29 place) [
      | inl past ↦ let stands = c.loop-place.invariant 29 past in absurd (cc (none_behind bytes, stands))
      | inr low ↦ low
    ] in
    record {
      within = omega arith;
      right_before = begins bytes place (λ i. omega (arith, c.type_inv.bytes i)) (omega arith) short c.loop-place.invariant;
      wrong = λ within. begins_none bytes place within wrong;
      too_short = λ past. absurd (omega arith);
    }

pub loop-place-preserved : goal.loop-place-preserved
loop-place-preserved c = below_more _ _ c.loop-place.invariant (sym c.may_stand.ensures ∙ c.if-not-may_stand.false)

pub returns-then-bytes-lt-LENGTH : goal.returns-then-bytes-lt-LENGTH
returns-then-bytes-lt-LENGTH c =
    let bytes = c.args.bytes.now in
    record {
      within = omega arith;
      right_before = begins bytes _ (λ i. omega (arith, c.type_inv.bytes i)) (omega arith) (omega arith) (λ i low. c.loop-place.invariant i (omega arith));
      wrong = λ within. absurd (omega arith);
      too_short = λ past. omega arith;
    }
