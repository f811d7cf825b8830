use Rattle.std.proofs.Common.{◌≡◌, List, length, reverse, subst, ap, ◌∙◌}
use Rattle.std.proofs.lemmas.List.{length-map}
use Rattle.cas_record.specs.declared.mark.Acknowledgment.{Acknowledgment}
use Rattle.cas_record.specs.declared.mark.Mark.TheVariants.{Acked}
use Rattle.cas_record.specs.Logs.Orderly.{IsAboveFloors}
use Rattle.cas_record.specs.Places.{Stands}
use Rattle.cas_model.specs.History.{IsRemembered}
use Rattle.cas_model.specs.Safe.{IsSafe}
use Rattle.cas_model.specs.View.{Meaning, View, meaning}
use Rattle.cas_model_stops.proofs.Holding.{what_stopped_hold}
use Rattle.cas_model.specs.Laws.{AcknowledgedIsKept}
use Rattle.cas_model.proofs.Exchanges.Tellings.{writable}
use Rattle.cas_model.proofs.Openings.Opens.{remembered_legal}
use Rattle.cas_model.proofs.ViewLaws.{done_kept}
use Rattle.cas_world.proofs.world.World.parts.Goals as goal

pub returns-clause-legal : goal.returns-clause-legal
returns-clause-legal g c shelves vaults = remembered_legal _ _ (c.self.invariant.remembered shelves vaults)

kept_now : {S V : Type 0} (m : Meaning S V) {inside now : View S V} → inside ≡ now → m.shelves.tells → IsRemembered m inside → (a : Acknowledgment) → Stands (Acked a) (reverse now.marks) → IsAboveFloors (reverse now.marks) a.key a.ballot → AcknowledgedIsKept m now a
kept_now {S} {V} m {inside} {now} same tells is a stands above = done_kept m tells now a (subst (λ (v : View S V). IsRemembered m v) same is) stands above

pub returns-clause-kept : goal.returns-clause-kept
returns-clause-kept g c shelves vaults a stands above = kept_now _ c.self.view_is shelves (c.self.invariant.remembered shelves vaults) a stands above

pub returns-clause-all_shelves : goal.returns-clause-all_shelves
returns-clause-all_shelves g c =
    c.give_shelves.new.shelves.ok.0 ∙ (ap (λ (l : List _). length l) c.give_shelves.ensures ∙ (length-map c.self.inside.acceptors.items (λ a. a.shelf) ∙ c.self.invariant.safe.sound.acceptors))

pub returns-clause-held : goal.returns-clause-held
returns-clause-held g c shelves vaults =
    let m = meaning g.S.Shelf g.V.Disk in
    what_stopped_hold m shelves vaults c.args.self (subst IsSafe c.self.view_is c.self.invariant.safe) (subst (IsRemembered m) c.self.view_is (c.self.invariant.remembered shelves vaults))

pub returns-clause-writable : goal.returns-clause-writable
returns-clause-writable g c = writable _ c.self.invariant.safe
