-- What a part says of its bytes.
use Rattle.std.proofs.Common.{◌≡◌, ℕ, ◌-◌, ◌≤◌, List, length, take, drop, Ok, Err, sym, ap, ◌∙◌, arith}
use Rattle.std.proofs.lemmas.List.{take_at, drop_at, length-append}
use Rattle.cas_wire.specs.Part.{IsPart, IsSpelledPart, StopsAtFirst}
use Rattle.cas_wire.specs.Reading.{Reading}
use Rattle.cas_wire.specs.declared.parts.Part.TheVariants as part
use Rattle.cas_base.proofs.Bytes.{IsBytes}
use Rattle.cas_wire.proofs.Formats.{IsFormat, Takes, not_err, rest_shorter}
use Rattle.cas_wire.proofs.Stops.{Stops, first_wrong}

used_is : {A : Type 0} (s : A → List ℕ) (bytes rest : List ℕ) (value : A) → Takes bytes (s value) rest → length bytes - length rest ≡ length (s value)
used_is s bytes rest value t = omega (arith, ap (λ (xs : List ℕ). length xs) t.parts, length-append (s value) rest)

module _ {A : Type 0} {s : A → List ℕ} {F : A → Type 0} {r : List ℕ → Reading A} where
  pub left_over : IsFormat s F r → (bytes : List ℕ) (value : A) (rest : List ℕ) → IsBytes bytes → r bytes ≡ Ok (value, rest) → length rest ≤ length bytes
  left_over format bytes value rest fits e = rest_shorter bytes (s value) rest (format.takes bytes (value, rest) fits e).0

  pub found_spelled : IsFormat s F r → (bytes : List ℕ) (value : A) (rest : List ℕ) → IsBytes bytes → r bytes ≡ Ok (value, rest) → IsSpelledPart s F bytes (part.Read value (length bytes - length rest))
  found_spelled format bytes value rest fits e =
      let t = format.takes bytes (value, rest) fits e in
      let n = used_is s bytes rest value t.0 in
      (t.1, omega arith, ap (λ (xs : List ℕ). take (length bytes - length rest) xs) t.0.parts ∙ take_at (s value) rest (length bytes - length rest) (sym n))

  pub found_place : IsFormat s F r → (bytes : List ℕ) (value : A) (rest : List ℕ) → IsBytes bytes → r bytes ≡ Ok (value, rest) → IsPart (r bytes) bytes (part.Read value (length bytes - length rest))
  found_place format bytes value rest fits e =
      let t = format.takes bytes (value, rest) fits e in
      let n = used_is s bytes rest value t.0 in
      let behind : drop (length bytes - length rest) bytes ≡ rest = ap (λ (xs : List ℕ). drop (length bytes - length rest) xs) t.0.parts ∙ drop_at (s value) rest (length bytes - length rest) (sym n) in
      (omega arith, e ∙ ap (λ (xs : List ℕ). Ok (value, xs)) (sym behind))

  pub wrong_spelled : IsFormat s F r → (bytes : List ℕ) (left : ℕ) → r bytes ≡ Err left → IsSpelledPart s F bytes (part.Wrong (length bytes - left))
  wrong_spelled format bytes left e = (omega arith, λ value rest fits is. not_err (value, rest) left (sym (ap r is ∙ format.again value rest fits) ∙ e))

  pub wrong_place : IsFormat s F r → (bytes : List ℕ) (left : ℕ) → IsBytes bytes → r bytes ≡ Err left → IsPart (r bytes) bytes (part.Wrong (length bytes - left))
  wrong_place format bytes left fits e =
      let few = format.within bytes left fits e in
      let same : left ≡ length bytes - (length bytes - left) = omega (arith, few) in
      (omega arith, e ∙ ap (λ (n : ℕ). Err n) same)

  pub wrong_first : Stops s F r → (bytes : List ℕ) (left : ℕ) → IsBytes bytes → r bytes ≡ Err left → StopsAtFirst s F bytes (part.Wrong (length bytes - left))
  wrong_first stops bytes left fits e = first_wrong s F bytes left (stops bytes left fits e)
