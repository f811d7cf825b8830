-- The codes of answers, and behind which a connection closes.
use Rattle.std.specs.Prelude.{ℕ, Bool, true, false, List, codes}
use Rattle.cas_http.specs.declared.code.Code.{Code}
use Rattle.cas_http.specs.declared.code.Code.TheVariants as code

-- the number and the phrase
abbrev pub status_text : Code → List ℕ
status_text code.Done = codes "200 OK"
status_text code.BadRequest = codes "400 Bad Request"
status_text code.NotFound = codes "404 Not Found"
status_text code.MethodNotAllowed = codes "405 Method Not Allowed"
status_text code.Conflict = codes "409 Conflict"
status_text code.LengthRequired = codes "411 Length Required"
status_text code.ContentTooLarge = codes "413 Content Too Large"
status_text code.Unprocessable = codes "422 Unprocessable Content"
status_text code.HeadTooLarge = codes "431 Request Header Fields Too Large"
status_text code.NotImplemented = codes "501 Not Implemented"
status_text code.Unavailable = codes "503 Service Unavailable"

-- behind these the connection closes, whatever the request asked for
abbrev pub closes : Code → Bool
closes code.BadRequest = true
closes code.LengthRequired = true
closes code.ContentTooLarge = true
closes code.HeadTooLarge = true
closes code.NotImplemented = true
closes other = false
