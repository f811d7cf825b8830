-- Who tells stays as one of them is heard.
use Rattle.std.proofs.Common.{◌≡◌, ℕ, zero, suc, true, List, [], ◌∷◌, map, Option, None, Some, refl, sym, ap, ◌∙◌}
use Rattle.std.specs.Prelude.{◌==◌, position, slice_set, is_none}
use Rattle.std.specs.Option.{option_map_or}
use Rattle.std.proofs.lemmas.List.Quantifiers.{position-Some}
use Rattle.cas_base.proofs.Bools.{and_left}
use Rattle.cas_record.proofs.Tests.{nat_same}
use Rattle.cas_record.specs.declared.operator.Probe.{Probe as Answered}
use Rattle.cas_slot.specs.declared.message.Reply.{Reply}
use Rattle.cas_model.specs.Exchanges.Step.{awaits, hears}
use Rattle.cas_model.specs.View.{IsAt}
use Rattle.cas_model.proofs.Places.{some_is}
use Rattle.cas_model.proofs.Safety.Parts.{at_low}
use Rattle.cas_agreement.specs.Told.{names_of}
use Rattle.cas_agreement.proofs.Standing.{get_at}

named_after : (told : List Answered) (place : ℕ) (one now : Answered) → IsAt told place one → now.acceptor ≡ one.acceptor → names_of (slice_set told place now) ≡ names_of told
named_after [] place one now at same = refl
named_after (x ∷ rest) zero one now at same = ap (λ (k : ℕ). k ∷ names_of rest) (same ∙ ap (λ (p : Answered). p.acceptor) (sym (some_is at)))
named_after (x ∷ rest) (suc place) one now at same = ap (λ (l : List ℕ). x.acceptor ∷ l) (named_after rest place one now at same)

pub hears_named : (reply : Reply) (told : List Answered) → names_of (hears reply told) ≡ names_of told
hears_named reply told = by_place (position (awaits reply.from) told) refl
  where
    now : Answered
    now = record { acceptor = reply.from; told = Some reply.tell }

    by_place : (o : Option ℕ) → position (awaits reply.from) told ≡ o
        → names_of (option_map_or (λ place. slice_set told place (record { acceptor = reply.from; told = Some reply.tell })) o told) ≡ names_of told
    by_place None is = refl
    by_place (Some place) is =
        let low = position-Some (awaits reply.from) told place now is in
        let there = at_low told place low.0 in
        let awaited : awaits reply.from there.0 ≡ true = ap (awaits reply.from) (sym (get_at told place there.0 now there.1)) ∙ low.1 in
        named_after told place there.0 (record { acceptor = reply.from; told = Some reply.tell }) there.1 (sym (nat_same (and_left (there.0.acceptor == reply.from) (is_none there.0.told) awaited)))

pub asked_named : (members : List ℕ) → names_of (map (λ member. record { acceptor = member; told = None }) members) ≡ members
asked_named [] = refl
asked_named (member ∷ members) = ap (λ (l : List ℕ). member ∷ l) (asked_named members)
