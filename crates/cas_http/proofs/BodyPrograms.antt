-- What a body spells, by what it reads as.
use Rattle.std.proofs.Common.{◌≡◌, ℕ, List, Some, None, ap, ◌∙◌}
use Rattle.std.specs.Option.{option_and_then}
use Rattle.std.specs.Str.{IsUtf8}
use Rattle.serde_json.specs.Data.{Data}
use Rattle.serde_json.specs.Read.{read}
use Rattle.cas_http.specs.Programs.{program_in, program_of_body}
use Rattle.cas_http.proofs.Utf8.{if_utf8_is, if_utf8_not}

pub spelled : (body : List ℕ) (d : Data) → IsUtf8 body → read body ≡ Some d → program_of_body body ≡ program_in d
spelled body d text is =
    if_utf8_is body (option_and_then program_in (read body)) None text ∙ ap (option_and_then program_in) is

pub none_spelled : (body : List ℕ) → (IsUtf8 body → read body ≡ None) → program_of_body body ≡ None
none_spelled body none =
    if_utf8_not body (option_and_then program_in (read body)) None (λ text. ap (option_and_then program_in) (none text))
