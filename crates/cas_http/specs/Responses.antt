-- The head of an answer, as the grammar of HTTP has it.
use Rattle.std.specs.Prelude.{ℕ, Bool, true, false, List, [], ◌∷◌, ◌++◌, take, drop, codes, decimal, Some}
use Rattle.httparse.specs.Ascii.{space}
use Rattle.httparse.specs.Grammar.{crlf, Field, ResponseHead}
use Rattle.cas_http.specs.declared.code.Code.{Code}
use Rattle.cas_http.specs.declared.code.Code.TheVariants as code
use Rattle.cas_http.specs.Codes.{status_text}

-- a field with one space before its value
abbrev pub field_of : List ℕ → List ℕ → Field
field_of name value = record { name = name; raw = space ∷ value; end = crlf }

abbrev pub allow_fields : Code → List Field
allow_fields code.MethodNotAllowed = field_of (codes "Allow") (codes "GET, POST, DELETE") ∷ []
allow_fields other = []

abbrev pub close_fields : Bool → List Field
close_fields true = field_of (codes "Connection") (codes "close") ∷ []
close_fields false = []

-- the head of an answer whose body has so many bytes
abbrev pub response_of : Code → ℕ → Bool → ResponseHead
response_of code size last = record {
  blank = [];
  minor = 1;
  digits = take 3 (status_text code);
  reason = Some (drop 4 (status_text code));
  line_end = crlf;
  fields = field_of (codes "Content-Type") (codes "application/json") ∷ field_of (codes "Content-Length") (decimal size) ∷ (allow_fields code ++ close_fields last);
  last = crlf;
}
