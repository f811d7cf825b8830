-- How many values are read.
use Rattle.std.proofs.Common.{◌≡◌, ℕ, zero, suc, ◌≤◌, List, [], ◌∷◌, length, Ok, sym, ap, ◌∙◌, arith}
use Rattle.std.proofs.lemmas.Bool.{leb-true}
use Rattle.cas_wire.specs.FrameReading.{list_at, is_count}
use Rattle.cas_wire.specs.Reading.{Reading, ◌>>=◌, byte_where, key_at}
use Rattle.cas_wire.proofs.Formats.{bind_ok, ok_is, passed_ok}

listed_len : {A : Type 0} (r : List ℕ → Reading A) (n : ℕ) (bytes : List ℕ) (x : List A × List ℕ) → list_at r n bytes ≡ Ok x → length x.0 ≡ n
unfolding list_at
listed_len {A} r zero bytes x e = let none : List A × List ℕ = ([], bytes) in sym (ap (λ (y : List A × List ℕ). length y.0) (ok_is none x e))
listed_len {A} r (suc n) bytes x e =
    let a = bind_ok (r bytes) (λ first. list_at r n first.1 >>= λ others. Ok (first.0 ∷ others.0, others.1)) x e in
    let b = bind_ok (list_at r n a.0.1) (λ others. Ok (a.0.0 ∷ others.0, others.1)) x a.2 in
    let made : List A × List ℕ = (a.0.0 ∷ b.0.0, b.0.1) in
    sym (ap (λ (y : List A × List ℕ). length y.0) (ok_is made x b.2)) ∙ ap suc (listed_len r n a.0.1 b.0 b.1)

count_few : (bytes : List ℕ) (n : ℕ × List ℕ) → byte_where is_count bytes ≡ Ok n → n.0 ≤ 4
count_few [] n e = absurd cc
count_few (b ∷ bytes) n e =
    let p = passed_ok (is_count b) (length (b ∷ bytes)) (b, bytes) n e in
    let same : b ≡ n.0 = ap (λ (y : ℕ × List ℕ). y.0) p.1 in
    omega (arith, same, leb-true b 4 p.0)

pub few_keys : (bytes : List ℕ) (n : ℕ × List ℕ) (x : List (List ℕ) × List ℕ) → byte_where is_count bytes ≡ Ok n → list_at key_at n.0 n.1 ≡ Ok x → length x.0 ≤ 4
few_keys bytes n x e f = omega (arith, count_few bytes n e, listed_len key_at n.0 n.1 x f)
