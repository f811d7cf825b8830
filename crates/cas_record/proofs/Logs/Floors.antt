-- What an acceptor tells after a floor: nothing accepted, or a ballot at or above the floor.
use Rattle.std.proofs.Common.{◌≡◌, ℕ, List, [], ◌∷◌, refl, sym, ap, subst}
use mathlib.Core.Logic.{inl, inr}
use Rattle.cas_base.proofs.Bools.{if_true, if_false, true_or_false, not_both}
use Rattle.cas_ballot.specs.declared.ballot.Ballot.{Ballot}
use Rattle.cas_ballot.specs.Ballot.{BallotAtMost, BallotLess}
use Rattle.cas_ballot.proofs.BallotLemmas.{at_most_refl, less_not_at_most}
use Rattle.cas_record.specs.Places.{At, Stands, here}
use Rattle.cas_record.specs.Logs.Happening.{Happening, Promised, Took, Dropped}
use Rattle.cas_record.specs.Logs.Lawful.{Cluster, Lawful, SlotTold, slot_told, is_slot, MayTake, in_take, in_promise}
use Rattle.cas_record.specs.Logs.Orderly.{MayPromiseBy, IsClear, took_it, never_asked, IsNoneOrAbove, Orderly}
use Rattle.cas_record.proofs.PlaceLemmas.{stands_deeper, stands_at, newest_or, order, older_than, newer_than, at_one}
use Rattle.cas_record.proofs.Tests.{slot_same}
use Rattle.cas_record.proofs.Logs.Lemmas.{law, lawful_older}
use Rattle.cas_record.proofs.Logs.Slots.{slot_of, promise_keeps}
use Rattle.cas_record.proofs.Logs.Orders.{reason, orderly_older}

-- an acceptor was clear before a happening that is not its acceptance of the floor
clear_before : {happening : Happening} {log : List Happening} {acceptor : ℕ} {key : List ℕ} {floor : Ballot} → ((ride : Ballot) → Took acceptor key floor ride ≡ happening → ⊥)
    → IsClear (happening ∷ log) acceptor key floor → IsClear log acceptor key floor
clear_before other (took_it ride took) = elim (newest_or took) [ inl now ↦ absurd (other ride now) | inr older ↦ took_it ride older ]
clear_before {happening} {log} other (never_asked above none_taken) =
    let newest : At happening log (happening ∷ log) = here in
    never_asked (λ request asked to round key. above request (stands_deeper asked newest) to round key) (λ ballot ride took. none_taken ballot ride (stands_deeper took newest))

-- what a clear acceptor takes is at or above the floor
taken_high : (log : List Happening) (acceptor : ℕ) (key : List ℕ) (floor ballot ride : Ballot) → MayTake log acceptor key ballot
    → IsClear (Took acceptor key ballot ride ∷ log) acceptor key floor → BallotAtMost floor ballot
taken_high log acceptor key floor ballot ride take (took_it r took) = elim (newest_or took) [
  | inl now ↦ let same : floor ≡ ballot = cc in subst (BallotAtMost floor) same (at_most_refl floor)
  | inr older ↦ take.seen floor (in_take r older)
]
taken_high log acceptor key floor ballot ride take (never_asked above none_taken) =
    let newest : At (Took acceptor key ballot ride) log (Took acceptor key ballot ride ∷ log) = here in
    none_taken ballot ride (stands_at newest)

pub accepted_after : (cluster : Cluster) (log : List Happening) (acceptor : ℕ) (key : List ℕ) (floor : Ballot) → Lawful cluster log → Orderly cluster log → IsClear log acceptor key floor
    → IsNoneOrAbove floor (slot_told log acceptor key).accepted
accepted_after cluster [] acceptor key floor lawful orderly clear = inl refl
accepted_after cluster (Promised a k b told ∷ older) acceptor key floor lawful orderly clear =
    subst (IsNoneOrAbove floor) (sym (promise_keeps older acceptor key a k b told))
    (accepted_after cluster older acceptor key floor lawful.0 orderly.0 (clear_before (λ ride e. absurd cc) clear))
accepted_after cluster (Took a k b ride ∷ older) acceptor key floor lawful orderly clear = elim (true_or_false (is_slot acceptor key a k)) [
  | inl own ↦
      let same = slot_same {acceptor = acceptor} {a = a} {key = key} {k = k} own in
      let here_clear : IsClear (Took a k b ride ∷ older) a k floor =
      subst (λ x. IsClear (Took a k b ride ∷ older) x k floor) (sym same.0) (subst (λ x. IsClear (Took a k b ride ∷ older) acceptor x floor) (sym same.1) clear) in
      let take : MayTake older a k b = lawful.1 in
      subst (λ (s : SlotTold). IsNoneOrAbove floor s.accepted) (sym (if_true (is_slot acceptor key a k) _ _ own)) (inr (taken_high older a k floor b ride take here_clear))
  | inr other ↦
      let elsewhere : (r : Ballot) → Took acceptor key floor r ≡ Took a k b ride → ⊥ =
      λ r e. let p : acceptor ≡ a = cc in let q : key ≡ k = cc in not_both (is_slot acceptor key a k) (slot_of p q) other in
      subst (λ (s : SlotTold). IsNoneOrAbove floor s.accepted) (sym (if_false (is_slot acceptor key a k) _ _ other))
      (accepted_after cluster older acceptor key floor lawful.0 orderly.0 (clear_before elsewhere clear))
]
accepted_after cluster (Dropped a k tomb ∷ older) acceptor key floor lawful orderly clear = elim (true_or_false (is_slot acceptor key a k)) [
  | inl own ↦ inl (ap (λ (s : SlotTold). s.accepted) (if_true (is_slot acceptor key a k) _ _ own))
  | inr other ↦ subst (λ (s : SlotTold). IsNoneOrAbove floor s.accepted) (sym (if_false (is_slot acceptor key a k) _ _ other))
      (accepted_after cluster older acceptor key floor lawful.0 orderly.0 (clear_before (λ ride e. absurd cc) clear))
]
accepted_after cluster (other ∷ older) acceptor key floor lawful orderly clear =
    accepted_after cluster older acceptor key floor lawful.0 orderly.0 (clear_before (λ ride e. absurd cc) clear)

-- an acceptor that promised above the floor was clear of it already then
clear_then : (cluster : Cluster) {log older : List Happening} {acceptor : ℕ} {key : List ℕ} {floor b told : Ballot} → Lawful cluster log → At (Promised acceptor key b told) older log → BallotLess floor b
    → IsClear log acceptor key floor → IsClear older acceptor key floor
clear_then cluster {acceptor = acceptor} {key = key} {floor = floor} {b = b} {told = told} lawful at less (took_it ride took) = elim (order took.at at) [
  | older_than before ↦ took_it ride (stands_at before)
  | newer_than after ↦
      let take : MayTake took.older acceptor key floor = law cluster lawful took.at in
      absurd (less_not_at_most less (take.seen b (in_promise told (stands_at after))))
  | at_one same older_same ↦ absurd cc
]
clear_then cluster lawful at less (never_asked above none_taken) =
    never_asked (λ request asked to round key. above request (stands_deeper asked at) to round key) (λ ballot ride took. none_taken ballot ride (stands_deeper took at))

-- what is told to a ballot above the floor is nothing, or at or above the floor
pub told_after : (cluster : Cluster) {log : List Happening} {acceptor : ℕ} {key : List ℕ} {floor b told : Ballot} → Lawful cluster log → Orderly cluster log → IsClear log acceptor key floor
    → Stands (Promised acceptor key b told) log → BallotLess floor b → IsNoneOrAbove floor told
told_after cluster {acceptor = acceptor} {key = key} {floor = floor} {b = b} {told = told} lawful orderly clear promised less =
    let by : MayPromiseBy promised.older acceptor key b told = reason cluster orderly promised.at in
    subst (IsNoneOrAbove floor) (sym by.slot)
    (accepted_after cluster promised.older acceptor key floor (lawful_older cluster lawful promised.at) (orderly_older cluster orderly promised.at) (clear_then cluster lawful promised.at less clear))
