-- Whether bytes are UTF-8, as a test and as a fact.
use Rattle.std.proofs.Common.{◌≡◌, ℕ, true, false, if◌then◌else◌, List, refl, ap}
use Rattle.std.specs.Str.{IsUtf8, is_utf8}
use Rattle.std.proofs.lemmas.Str.{IsUtf8-from_is_utf8, is_utf8-from_IsUtf8}

pub if_utf8_is : {A : Type 0} (bytes : List ℕ) (here there : A) → IsUtf8 bytes → (if is_utf8 bytes then here else there) ≡ here
if_utf8_is bytes here there h = ap (λ b. if b then here else there) (is_utf8-from_IsUtf8 bytes h)

pub if_utf8_not : {A : Type 0} (bytes : List ℕ) (here there : A) → (IsUtf8 bytes → here ≡ there) → (if is_utf8 bytes then here else there) ≡ there
if_utf8_not bytes here there h =
    elim (is_utf8 bytes) as (λ b. is_utf8 bytes ≡ b → (if b then here else there) ≡ there) [ true ↦ λ e. h (IsUtf8-from_is_utf8 bytes e) | false ↦ λ e. refl ] refl
