-- What `==` tells of slots.
use Rattle.std.proofs.Common.{◌≡◌, ℕ, Option, None, Some, refl, ap, ◌∙◌, rules}
use Rattle.std.specs.Prelude.{Decides}
use Rattle.std.specs.Option.{option_eq}
use Rattle.std.proofs.lemmas.Bool.Decides.{Decides-and, Decides-eqb, Decides-like}
use Rattle.cas_slot.specs.declared.slot.Slot.{Slot}
use Rattle.cas_slot.specs.declared.slot.Accepted.{Accepted}
use Rattle.cas_slot.specs.contracts.slot.SlotPartialEq.TheImpl as slots
use Rattle.cas_slot.specs.contracts.slot.AcceptedPartialEq.TheImpl as accepteds

accepted_decides : (a b : Accepted) → Decides (accepteds.ghosts.eq a b) (a ≡ b)
accepted_decides a b = search rules

option_decides : (a b : Option Accepted) → Decides (option_eq accepteds.ghosts.eq a b) (a ≡ b)
option_decides None None = (λ _. refl, λ _. refl)
option_decides None (Some b) = (λ e. absurd cc, λ e. absurd cc)
option_decides (Some a) None = (λ e. absurd cc, λ e. absurd cc)
option_decides (Some a) (Some b) = (λ e. ap Some ((accepted_decides a b).0 e), λ e. (accepted_decides a b).1 (cc))

parts_same : (a b : Slot) → ((a.promise.counter ≡ b.promise.counter) × (a.promise.proposer ≡ b.promise.proposer)) × (a.accepted ≡ b.accepted) → a ≡ b
parts_same a b p = ap (λ (n : ℕ). record { promise = record { counter = n; proposer = a.promise.proposer }; accepted = a.accepted }) p.0.0
    ∙ ap (λ (n : ℕ). record { promise = record { counter = b.promise.counter; proposer = n }; accepted = a.accepted }) p.0.1
    ∙ ap (λ (o : Option Accepted). record { promise = b.promise; accepted = o }) p.1

pub slot_decides : (a b : Slot) → Decides (slots.ghosts.eq a b) (a ≡ b)
slot_decides a b = Decides-like _ (parts_same a b) (λ e. ((ap (λ (s : Slot). s.promise.counter) e, ap (λ (s : Slot). s.promise.proposer) e), ap (λ (s : Slot). s.accepted) e))
    (Decides-and _ _ (Decides-and _ _ (Decides-eqb a.promise.counter b.promise.counter) (Decides-eqb a.promise.proposer b.promise.proposer)) (option_decides a.accepted b.accepted))
