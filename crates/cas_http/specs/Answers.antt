-- The bytes of an answer.
use Rattle.std.specs.Prelude.{ℕ, Bool, true, false, List, [], ◌++◌, length, codes, decimal}
use Rattle.httparse.specs.Ascii.{crlf_bytes}
use Rattle.cas_http.specs.declared.code.Code.{Code}
use Rattle.cas_http.specs.declared.code.Code.TheVariants as code
use Rattle.cas_http.specs.Codes.{status_text}

-- a line with its end, CR LF
abbrev pub line_text : List ℕ → List ℕ
line_text line = line ++ crlf_bytes

-- the line that says which methods are allowed, in a 405 alone
abbrev pub allow_text : Code → List ℕ
allow_text code.MethodNotAllowed = line_text (codes "Allow: GET, POST, DELETE")
allow_text other = []

-- the line that says that the connection closes
abbrev pub close_text : Bool → List ℕ
close_text true = line_text (codes "Connection: close")
close_text false = []

-- an answer of this code and body, after which the connection closes or not
abbrev pub answer_text_of : Code → List ℕ → Bool → List ℕ
answer_text_of code body last =
    line_text (codes "HTTP/1.1 " ++ status_text code)
    ++ line_text (codes "Content-Type: application/json")
    ++ line_text (codes "Content-Length: " ++ decimal (length body))
    ++ allow_text code
    ++ close_text last
    ++ line_text []
    ++ body
