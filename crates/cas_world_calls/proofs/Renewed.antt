-- One more proposer is renewed.
use Rattle.std.proofs.Common.{◌≡◌, ◌<◌, ◌≤◌, ◌+◌, ℕ, zero, suc, List, [], ◌∷◌, ◌++◌, length, take, replicate, slice_set, sym, ap, ◌∙◌, arith, length-take, length-append}
use Rattle.std.proofs.lemmas.List.{length-replicate, take-replicate, take_more_set}
use Rattle.cas_slot.specs.declared.ages.Ages.{Ages}
use Rattle.cas_world_calls.specs.Collection.{IsRenewedTo}

-- behind those that were renewed the first age is set
set_shown : (t : List ℕ) (k x : ℕ) → length t < k → k ≤ 17 → slice_set (take k (t ++ replicate 17 0)) (length t) x ≡ take k ((t ++ x ∷ []) ++ replicate 17 0)
set_shown t zero x low few = absurd (omega (arith, low))
set_shown [] (suc k) x low few = ap (λ (l : List ℕ). x ∷ l) (take-replicate k 16 0 (omega (arith, few)) ∙ sym (take-replicate k 17 0 (omega (arith, few))))
set_shown (y ∷ t) (suc k) x low few = ap (λ (l : List ℕ). y ∷ l) (set_shown t k x (omega (arith, low)) (omega (arith, few)))

pub renewed_more : (n : ℕ) (least : Ages) (age : ℕ) → length (take n least.0) ≤ 16 → IsRenewedTo n least → IsRenewedTo (n + 1) (record { 0 = slice_set least.0 n age })
renewed_more n least age short was = record {
  few = omega (arith, few);
  shown = ap (λ (l : List ℕ). record { 0 = l }) (now ∙ ap (λ (l : List ℕ). take 17 (l ++ replicate 17 0)) (sym (take_more_set least.0 n age (omega (arith, few, long)))));
}
  where
    t : List ℕ
    t = take n least.0

    same : least.0 ≡ take 17 (t ++ replicate 17 0)
    same = ap (λ (l : Ages). l.0) was.shown

    long : length least.0 ≡ 17
    long = omega (arith, ap (λ (l : List ℕ). length l) same, length-take 17 (t ++ replicate 17 0), length-append t (replicate 17 0), length-replicate {A = ℕ} 17 0)

    few : n ≤ 16
    few = omega (arith, length-take n least.0, long, short, was.few)

    place : length t ≡ n
    place = omega (arith, length-take n least.0, long, few)

    now : slice_set least.0 n age ≡ take 17 ((t ++ age ∷ []) ++ replicate 17 0)
    now = ap (λ (l : List ℕ). slice_set l n age) same ∙ ap (λ (k : ℕ). slice_set (take 17 (t ++ replicate 17 0)) k age) (sym place) ∙ set_shown t 17 age (omega (arith, place, few)) (omega arith)
