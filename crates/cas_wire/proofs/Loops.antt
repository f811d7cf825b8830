-- Reading values one after another, as a loop does.
use Rattle.std.proofs.Common.{◌≡◌, ℕ, suc, ◌-◌, ◌+◌, ◌≤◌, ◌<◌, List, [], ◌∷◌, ◌++◌, length, take, Ok, Err, refl, sym, ap, ◌∙◌, append_assoc, arith}
use Rattle.std.specs.Int.{w64}
use Rattle.std.proofs.Math.ListN.{set, length-set}
use Rattle.std.proofs.lemmas.List.{append-nil, take_more_set, take_all}
use Rattle.cas_wire.specs.FrameReading.{list_at}
use Rattle.cas_wire.specs.Part.{Fails}
use Rattle.cas_wire.specs.Reading.{Reading, ◌>>=◌, number_at}
use Rattle.cas_wire.specs.declared.reading.ReadError.{ReadError}
use Rattle.cas_wire.specs.declared.reading.ReadError.TheVariants.{NoMemory, Wrong}

-- what was read before, and what is still read
abbrev pub with_front : {A : Type 0} → List A → Reading (List A) → Reading (List A)
with_front front read = read >>= λ x. Ok (front ++ x.0, x.1)

module _ {A : Type 0} (r : List ℕ → Reading A) where
  regroup : (front : List A) (a : A) (read : Reading (List A)) → with_front front (read >>= λ others. Ok (a ∷ others.0, others.1)) ≡ with_front (front ++ a ∷ []) read
  regroup front a (Ok x) = ap (λ (xs : List A). Ok (xs, x.1)) (simp append_assoc)
  regroup front a (Err left) = refl

  unrolled : (n i : ℕ) (bytes : List ℕ) → i < n → list_at r (n - i) bytes ≡ (r bytes >>= λ first. list_at r (n - (i + 1)) first.1 >>= λ others. Ok (first.0 ∷ others.0, others.1))
  unfolding list_at
  unrolled n i bytes lt =
      let k : n - i ≡ suc (n - (i + 1)) = omega arith in
      ap (λ (m : ℕ). list_at r m bytes) k

  pub goes_on : (front : List A) (n i : ℕ) (bytes : List ℕ) (a : A) (after : List ℕ) (total : Reading (List A)) → i < n → r bytes ≡ Ok (a, after)
      → with_front front (list_at r (n - i) bytes) ≡ total → with_front (front ++ a ∷ []) (list_at r (n - (i + 1)) after) ≡ total
  goes_on front n i bytes a after total lt h so_far =
      sym (ap (with_front front) (unrolled n i bytes lt)
      ∙ ap (λ (read : Reading A). with_front front (read >>= λ first. list_at r (n - (i + 1)) first.1 >>= λ others. Ok (first.0 ∷ others.0, others.1))) h
      ∙ regroup front a (list_at r (n - (i + 1)) after)) ∙ so_far

  pub ends : (e : ReadError) (front : List A) (n i : ℕ) (bytes : List ℕ) (total : Reading (List A)) → i < n → Fails e (r bytes)
      → with_front front (list_at r (n - i) bytes) ≡ total → Fails e total
  ends NoMemory front n i bytes total lt h so_far = tt
  ends (Wrong left) front n i bytes total lt h so_far =
      sym so_far ∙ ap (with_front front) (unrolled n i bytes lt)
      ∙ ap (λ (read : Reading A). with_front front (read >>= λ first. list_at r (n - (i + 1)) first.1 >>= λ others. Ok (first.0 ∷ others.0, others.1))) h

  pub is_done : (front : List A) (n i : ℕ) (bytes : List ℕ) (total : Reading (List A)) → n ≤ i → with_front front (list_at r (n - i) bytes) ≡ total → total ≡ Ok (front, bytes)
  unfolding list_at
  is_done front n i bytes total le so_far =
      let k : n - i ≡ 0 = omega arith in
      sym so_far ∙ ap (λ (m : ℕ). with_front front (list_at r m bytes)) k ∙ ap (λ (xs : List A). Ok (xs, bytes)) (append-nil front)

-- ---- the seventeen ages

-- the first ages are read
pub record AgesRead (least rest bytes : List ℕ) (i : ℕ) : Type 0 where
  pub long : length least ≡ 17
  pub read : with_front (take i least) (list_at (number_at w64) (17 - i) rest) ≡ list_at (number_at w64) 17 bytes

pub age_read : (least rest bytes : List ℕ) (i age : ℕ) (after : List ℕ) → i < 17 → AgesRead least rest bytes i → number_at w64 rest ≡ Ok (age, after) → AgesRead (set least i age) after bytes (i + 1)
age_read least rest bytes i age after lt so_far e =
    let lt' : i < length least = omega (arith, lt, so_far.long) in
    record {
      long = length-set least i age ∙ so_far.long;
      read = ap (λ (xs : List ℕ). with_front xs (list_at (number_at w64) (17 - (i + 1)) after)) (take_more_set least i age lt')
          ∙ goes_on (number_at w64) (take i least) 17 i rest age after (list_at (number_at w64) 17 bytes) lt e so_far.read;
    }

pub ages_wrong : (e : ReadError) (least rest bytes : List ℕ) (i : ℕ) → i < 17 → AgesRead least rest bytes i → Fails e (number_at w64 rest) → Fails e (list_at (number_at w64) 17 bytes)
ages_wrong e least rest bytes i lt so_far h = ends (number_at w64) e (take i least) 17 i rest (list_at (number_at w64) 17 bytes) lt h so_far.read

pub ages_done : (least rest bytes : List ℕ) (i : ℕ) → 17 ≤ i → AgesRead least rest bytes i → list_at (number_at w64) 17 bytes ≡ Ok (least, rest)
ages_done least rest bytes i le so_far =
    is_done (number_at w64) (take i least) 17 i rest (list_at (number_at w64) 17 bytes) le so_far.read
    ∙ ap (λ (xs : List ℕ). Ok (xs, rest)) (take_all i least (omega (arith, le, so_far.long)))
