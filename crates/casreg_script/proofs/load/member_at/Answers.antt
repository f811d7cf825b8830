use Rattle.std.proofs.Common.{◌≡◌, ◌+◌, ℕ, Some, Option, ap, subst, sym, ◌∙◌, arith}
use Rattle.std.specs.Prelude.{IfSome}
use Rattle.cas_ballot.specs.Members.{has_member}
use Rattle.casreg_script.proofs.MembersFrom.{IsPlacedFrom, placed_at_first, found_here, passes_one, passes_none, not_past}
use Rattle.casreg_script.proofs.load.member_at.Goals as goal
use Rattle.casreg_script.proofs.load.member_at.Goals.{then-has+else-left-eq0, else-has}

id_is : (option : Option ℕ) (id number : ℕ) → option ≡ Some id → IfSome option (λ (i : ℕ). i ≡ number) → id ≡ number
id_is option id number some is = subst (λ (o : Option ℕ). IfSome o (λ (i : ℕ). i ≡ number)) some is

pub loop-number-init : goal.loop-number-init
loop-number-init c = record { placed = placed_at_first c.args.members c.args.place c.requires.set c.requires.within }

pub returns-then-left-eq0 : goal.returns-then-left-eq0
returns-then-left-eq0 c =
    let id = id_is c.new.result c.unwrap-id.result c.loop-number.number c.unwrap-id.ensures c.new.ensures.value in
    found_here c.args.members c.args.place c.loop-number.number c.loop-number.left c.loop-number.invariant.placed (omega arith)
    (ap (has_member c.args.members) (sym id) ∙ (sym c.has.ensures ∙ c.if-has.true)) c.if-left-eq0.true ∙ ap (λ (n : ℕ). Some n) (sym id)

pub loop-number-preserved : goal.loop-number-preserved
loop-number-preserved c =
    let id = id_is c.new.result c.unwrap-id.result c.loop-number.number c.unwrap-id.ensures c.new.ensures.value in
    let told : has_member c.args.members c.loop-number.number ≡ c.has.result = ap (has_member c.args.members) (sym id) ∙ sym c.has.ensures in
    record {
      placed = elim c.if-has.branch [
        | then-has+else-left-eq0 w ↦ passes_one c.args.members c.args.place c.loop-number.number c.loop-number.left c.if-has.left c.loop-number.invariant.placed (omega arith) (told ∙ w.if-has.true) (omega arith)
        | else-has w ↦ subst (λ (n : ℕ). IsPlacedFrom c.args.members c.args.place (c.loop-number.number + 1) n) (sym w.left-is) (passes_none c.args.members c.args.place c.loop-number.number c.loop-number.left c.loop-number.invariant.placed (omega arith) (told ∙ w.if-has.false))
      ];
    }

pub unreachable-requires : goal.unreachable-requires
unreachable-requires c = not_past c.args.members c.args.place c.loop-number.number c.loop-number.left c.loop-number.invariant.placed (omega arith)
