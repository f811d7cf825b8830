use Rattle.std.proofs.Common.{◌≡◌, ◌∙◌, sym, ap, Some}
use Rattle.std.specs.Prelude.{Option, unwrap_or}
use Rattle.cas_slot.specs.declared.slot.Slot.{Slot}
use Rattle.cas_restore.proofs.Same.{slot_decides}
use Rattle.cas_restore.proofs.shelf.is_there.Goals as goal

pub returns-in-Some : goal.returns-in-Some
returns-in-Some g c =
    let tells = slot_decides c.in-Some.kept c.args.slot.now in
    let is : Some c.in-Some.kept ≡ _ = sym c.in-Some.is ∙ c.in_ok-kept.ensures {u = tt} in
    (λ e. sym is ∙ ap Some (tells.0 (sym c.eq.ensures ∙ e)), λ e. c.eq.ensures ∙ tells.1 (ap (λ (o : Option Slot). unwrap_or o c.in-Some.kept) (is ∙ e)))
