-- The marks that callers reserved.
use Rattle.std.proofs.Common.{◌≡◌, ◌+◌, ◌≤◌, ℕ, suc, zero, List, [], ◌∷◌, take, drop, sum_by, refl, sym, ap, ◌∙◌, arith}
use Rattle.std.proofs.lemmas.List.Sums.{sum_by-cons}
use Rattle.std.specs.Prelude.{Option, Some, None, IsSome, is_some, map, option_map, true, false}
use Rattle.cas_model.specs.View as seen
use Rattle.cas_world_calls.specs.Call.{reserved_in, reserved_of}
use Rattle.cas_world.specs.World.{call_view, caller_view}
use Rattle.cas_world_calls.specs.declared.call.Caller.{Caller}
use Rattle.cas_world_calls.specs.declared.call.OpenCall.{OpenCall}

-- as much is reserved for callers as for what they are seen as
pub reserved_seen : (call : Option OpenCall) → seen.reserved_in (option_map call_view call) ≡ reserved_in call
reserved_seen None = refl
reserved_seen (Some call) = refl

pub sum_seen : (callers : List Caller) → seen.reserved_of (map caller_view callers) ≡ sum_by reserved_of callers
sum_seen [] = refl
sum_seen (c ∷ cs) = let rest : seen.reserved_of (map caller_view cs) ≡ sum_by reserved_of cs = sum_seen cs in omega (arith, rest, reserved_seen c.call, sum_by-cons reserved_of c cs)

-- ---- what other callers reserved
take_within : (k : ℕ) (callers : List Caller) → sum_by reserved_of (take k callers) ≤ sum_by reserved_of callers
take_within zero [] = omega arith
take_within (suc k) [] = omega arith
take_within zero (c ∷ callers) = omega arith
take_within (suc k) (c ∷ callers) = let rest : sum_by reserved_of (take k callers) ≤ sum_by reserved_of callers = take_within k callers in
    let all : sum_by reserved_of (c ∷ callers) ≡ reserved_of c + sum_by reserved_of callers = sum_by-cons reserved_of c callers in
    let front : sum_by reserved_of (take (suc k) (c ∷ callers)) ≡ reserved_of c + sum_by reserved_of (take k callers) = sum_by-cons reserved_of c (take k callers) in omega (arith, rest, all, front)

beside : (n : ℕ) (callers : List Caller) → sum_by reserved_of (take n callers) + sum_by reserved_of (drop (suc n) callers) ≤ sum_by reserved_of callers
beside zero [] = omega arith
beside (suc n) [] = omega arith
beside zero (c ∷ callers) =
    let all : sum_by reserved_of (c ∷ callers) ≡ reserved_of c + sum_by reserved_of callers = sum_by-cons reserved_of c callers in
    let none : sum_by reserved_of (take 0 (c ∷ callers)) ≡ 0 = refl in
    let back : sum_by reserved_of (drop 1 (c ∷ callers)) ≡ sum_by reserved_of callers = refl in omega (arith, all, none, back)
beside (suc n) (c ∷ callers) = let rest : sum_by reserved_of (take n callers) + sum_by reserved_of (drop (suc n) callers) ≤ sum_by reserved_of callers = beside n callers in
    let all : sum_by reserved_of (c ∷ callers) ≡ reserved_of c + sum_by reserved_of callers = sum_by-cons reserved_of c callers in
    let front : sum_by reserved_of (take (suc n) (c ∷ callers)) ≡ reserved_of c + sum_by reserved_of (take n callers) = sum_by-cons reserved_of c (take n callers) in
    let back : sum_by reserved_of (drop (suc (suc n)) (c ∷ callers)) ≡ sum_by reserved_of (drop (suc n) callers) = refl in omega (arith, rest, all, front, back)

-- those before a place and some behind it reserved no more than all
pub others_within : (n k : ℕ) (callers : List Caller) → sum_by reserved_of (take n callers) + sum_by reserved_of (take k (drop (n + 1) callers)) ≤ sum_by reserved_of callers
others_within n k callers =
    let next : n + 1 ≡ suc n = omega arith in
    let some : sum_by reserved_of (take k (drop (n + 1) callers)) ≤ sum_by reserved_of (drop (n + 1) callers) = take_within k (drop (n + 1) callers) in
    let same : sum_by reserved_of (drop (n + 1) callers) ≡ sum_by reserved_of (drop (suc n) callers) = ap (λ (i : ℕ). sum_by reserved_of (drop i callers)) next in
    let both : sum_by reserved_of (take n callers) + sum_by reserved_of (drop (suc n) callers) ≤ sum_by reserved_of callers = beside n callers in
    omega (arith, some, same, both)

pub some_not : {A : Type 0} (o : Option A) → IsSome o → is_some o ≡ false → ⊥
some_not {A} (Some x) some none = let no : true ≡ false = none in absurd (cc)
some_not {A} None some none = absurd (cc some)

pub none_not : {A : Type 0} (o : Option A) → o ≡ None → is_some o ≡ true → ⊥
none_not {A} o none some = let no : false ≡ true = ap is_some (sym none) ∙ some in absurd (cc)
