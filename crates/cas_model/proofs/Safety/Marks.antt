-- How many marks are reserved in all, and how long a full record is.
use Rattle.std.proofs.Common.{◌≡◌, ◌≤◌, ℕ, zero, suc, List, [], ◌∷◌, Option, None, Some, refl, inl, inr, arith}
use Rattle.std.specs.Prelude.{◌+◌, ◌*◌, length, slice_set}
use Rattle.cas_flow.specs.Flow.{queue_at}
use Rattle.cas_flow.specs.Queue.{QueueView}
use Rattle.cas_quorum.specs.declared.era.Era.{Era}
use Rattle.cas_record.proofs.Logs.Eras.{le_or_lt}
use Rattle.cas_model.specs.Collection.State.{CollectionView, reserved_for_collection}
use Rattle.cas_model.specs.Council.{ExchangeView, OrderView, exchange_place, reserved_for_order, marks_of_read, reserved_for_exchange, reserved_by}
use Rattle.cas_model.specs.Safe.{IsAskingSafe, IsSafe, IsSound}
use Rattle.cas_model.specs.SafeLaws.{LittleIsReserved, FullForRounds, FullForExchanges}
use Rattle.cas_model.specs.Calls.Step.{most_marks}
use Rattle.cas_model.specs.Exchanges.Step.{asked_by, read_era}
use Rattle.cas_model.specs.View.{View, CallerView, IsAt, new_caller, reserved_in, reserved_of, reserved_in_all, era_at}
use Rattle.cas_model.proofs.Exchanges.Safe.{asked_few}
use Rattle.cas_model.proofs.Safety.Parts.{at_low, low_at, few_round}

-- ---- for calls
-- a caller that has no call reserves nothing
freed : (callers : List CallerView) (place : ℕ) → reserved_of (slice_set callers place new_caller) ≤ reserved_of callers
freed [] zero = omega arith
freed [] (suc place) = omega arith
freed (caller ∷ callers) zero = omega arith
freed (caller ∷ callers) (suc place) = omega (arith, freed callers place)

few_each : (callers : List CallerView) → ((id : ℕ) (caller : CallerView) → IsAt callers id caller → reserved_in caller.call ≤ 44) → reserved_of callers ≤ 44 * length callers
few_each [] few = omega arith
few_each (caller ∷ callers) few = omega (arith, few 0 caller refl, few_each callers (λ id other at. few (suc id) other at))

few_calls : {S V : Type 0} (view : View S V) → IsSound view → reserved_of view.callers ≤ 748
few_calls view is = omega (arith, is.few, is.callers, few_each view.callers each)
  where
    each : (id : ℕ) (caller : CallerView) → IsAt view.callers id caller → reserved_in caller.call ≤ 44
    each id caller at =
        let desk = at_low view.desks id (omega (arith, low_at view.callers id at, is.desks, is.callers)) in
        (is.parties id desk.0 caller desk.1 at).few

-- ---- for the operator
few_order : (order : Option OrderView) → reserved_for_order order ≤ 1
few_order None = omega arith
few_order (Some order) = omega arith

few_read : (reads : Option Era) (members : List ℕ) → length members ≤ 9 → marks_of_read reads members ≤ 10
few_read None members few = omega arith
few_read (Some era) members few = omega (arith, few)

few_asking : (exchange : Option ExchangeView) (queue : QueueView) → IsAskingSafe exchange queue → reserved_for_exchange exchange ≤ 19
few_asking None queue is = omega arith
few_asking (Some exchange) queue is = omega (arith, is.few, few_read exchange.reads exchange.members is.few_members)

few_collecting : (collection : Option CollectionView) → ((each : CollectionView) → collection ≡ Some each → each.reserved ≤ 1) → reserved_for_collection collection ≤ 1
few_collecting None few = omega arith
few_collecting (Some collection) few = few collection refl

few_by : {S V : Type 0} (view : View S V) → IsSafe view → reserved_by view.council ≤ 21
few_by view is =
    omega (
      arith,
      few_order view.council.order,
      few_asking view.council.exchange (queue_at view.flow exchange_place) is.sound.asking,
      few_collecting view.council.collection (λ each is_it. (is.collection.each each is_it).few),
    )

-- ---- in all
pub little_is_reserved : {S V : Type 0} → LittleIsReserved S V
little_is_reserved view is = omega (arith, few_calls view is.sound, few_by view is)

pub full_for_rounds : {S V : Type 0} → FullForRounds S V
full_for_rounds view id is full = omega (arith, full, freed view.callers id, few_calls view is.sound, few_by view is, few_round (era_at view id) (is.sound.few_members id))

pub full_for_exchanges : {S V : Type 0} → FullForExchanges S V
full_for_exchanges view question is full = elim (le_or_lt (length view.marks + reserved_in_all view + length (asked_by view question) + marks_of_read (read_era view question) (asked_by view question)) most_marks) [
  | inl low ↦ absurd (full low)
  | inr more ↦ omega (arith, more, few_calls view is.sound, few_by view is, asked_few view question (is.sound.few_members 0), few_read (read_era view question) (asked_by view question) (asked_few view question (is.sound.few_members 0)))
]
