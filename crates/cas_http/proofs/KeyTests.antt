-- The test of keys decides what a key is.
use Rattle.std.proofs.Common.{◌≡◌, ℕ, true, false, ◌&&◌, nat_lt, nat_le, if◌then◌else◌, List, length, Option, Some, None, refl, arith}
use Rattle.std.specs.Option.{is_none}
use Rattle.std.specs.Cmp.{first_so, second_so}
use Rattle.std.proofs.lemmas.Grind.{common_steps}
use Rattle.cas_change.specs.Key.{first_bad_byte, IsKey}
use Rattle.cas_change.specs.declared.key.TheConstants.{LONGEST_KEY}
use Rattle.cas_change.proofs.Keys.{key_bytes, no_bad_byte}
use Rattle.cas_http.specs.Heads.{is_key, if_key}

nothing_there : (found : Option ℕ) → is_none found ≡ true → found ≡ None
nothing_there None e = refl
nothing_there (Some at) e = cc

none_found : (found : Option ℕ) → ((at : ℕ) → found ≡ Some at → ⊥) → found ≡ None
none_found None h = refl
none_found (Some at) h = absurd (h at refl)

pub key_of_test : (bytes : List ℕ) → is_key bytes ≡ true → IsKey bytes
key_of_test bytes e =
    let sized = first_so (nat_lt 0 (length bytes) && nat_le (length bytes) LONGEST_KEY) (is_none (first_bad_byte bytes)) e in
    let some : nat_lt 0 (length bytes) ≡ true = first_so _ _ sized in
    let fits : nat_le (length bytes) LONGEST_KEY ≡ true = second_so (nat_lt 0 (length bytes)) _ sized in
    key_bytes bytes (grind (arith, common_steps)) (grind (arith, common_steps)) (nothing_there _ (second_so (nat_lt 0 (length bytes) && nat_le (length bytes) LONGEST_KEY) _ e))

pub test_of_key : (bytes : List ℕ) → IsKey bytes → is_key bytes ≡ true
test_of_key bytes key =
    let some : nat_lt 0 (length bytes) ≡ true = grind (arith, common_steps) in
    let fits : nat_le (length bytes) LONGEST_KEY ≡ true = grind (arith, common_steps) in
    let clean : first_bad_byte bytes ≡ None = none_found _ (λ at e. no_bad_byte bytes at key e) in
    rw (some, fits, clean) refl

pub if_key_is : (bytes : List ℕ) → IsKey bytes → if_key bytes ≡ Some bytes
if_key_is bytes key = rw (test_of_key bytes key) refl

pub if_key_not : (bytes : List ℕ) → (IsKey bytes → ⊥) → if_key bytes ≡ None
if_key_not bytes none =
    elim (is_key bytes) as (λ b. is_key bytes ≡ b → (if b then Some bytes else None) ≡ None) [ true ↦ λ e. absurd (none (key_of_test bytes e)) | false ↦ λ e. refl ] refl
