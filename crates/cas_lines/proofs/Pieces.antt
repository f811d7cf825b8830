-- Lemmas on known bytes that come and go in pieces.
use Rattle.std.proofs.Common.{◌≡◌, ℕ, ◌+◌, ◌-◌, ◌<◌, ◌≤◌, min, List, [], ◌++◌, length, take, drop, Option, sym, ap, ◌∙◌, arith, take-append-drop, length-drop}
use Rattle.std.proofs.Math.Seq.{take-add}
use Rattle.std.proofs.lemmas.List.{drop-drop, length-take, take_at, drop_all, take_all}
use Rattle.std.specs.Io.KnownBytes.{Appends}
use Rattle.std.proofs.KnownBytes.{Appends-trans}

-- `&xs[at..]` is what is left after the first `at`
pub rest_from : (xs : List ℕ) (at : ℕ) → take (length xs - at) (drop at xs) ≡ drop at xs
rest_from xs at = take_all _ _ (omega (arith, length-drop at xs))

-- a front of the bytes, and then a front of the rest
pub Appends-take_more : (a b c : Option (List ℕ)) (bytes : List ℕ) (i n : ℕ) → Appends a b (take i bytes) → Appends b c (take n (take (length bytes - i) (drop i bytes))) → Appends a c (take (i + n) bytes)
Appends-take_more a b c bytes i n first second =
    rw take-add (Appends-trans a b c _ _ first (rw rest_from at second))

-- what was copied into a buffer stood in front of what is left, and nothing was copied only where nothing is left
pub split_at_copied : (bytes old new : List ℕ) (at piece count : ℕ)
    → at ≤ length bytes → 1 ≤ piece → length new ≡ length old
    → count ≡ min piece (min (length old) (length (take (length bytes - at) (drop at bytes))))
    → new ≡ take count (take (length bytes - at) (drop at bytes)) ++ drop count old
    → (drop at bytes ≡ take count new ++ drop (at + count) bytes) × (count ≡ 0 → 0 < length new → drop (at + count) bytes ≡ [])
split_at_copied bytes old new at piece count inside some same counted copied =
    let rest = drop at bytes in
    let counted' : count ≡ min piece (min (length old) (length rest)) = rw rest_from at counted in
    let copied' : new ≡ take count rest ++ drop count old = rw rest_from at copied in
    let front : take count new ≡ take count rest = ap (take count) copied' ∙ take_at (take count rest) (drop count old) count (omega (arith, length-take count rest)) in (
      rw (front, ← drop-drop) (sym (take-append-drop count rest)),
      λ none room. drop_all (at + count) bytes (omega (arith, length-drop at bytes)),
    )
