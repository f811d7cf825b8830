-- What the head of a request asks for.
use Rattle.std.specs.Prelude.{◌≡◌, ℕ, ◌<◌, ◌≤◌, Bool, not, ◌&&◌, ◌||◌, ◌==◌, nat_lt, nat_le, is_none, if◌then◌else◌, List, length, take, drop, map, codes, Option, Some, None}
use Rattle.std.specs.Str.{bytes_eq}
use Rattle.httparse.specs.Grammar.{RequestHead, print_request, ReadsRequest, HasNoRequest, MayBecomeRequest}
use Rattle.httparse.specs.Spans.{name_and_value, RequestOverflows}
use Rattle.cas_change.specs.Key.{first_bad_byte}
use Rattle.cas_change.specs.declared.key.TheConstants.{LONGEST_KEY}
use Rattle.cas_http.specs.declared.code.Code.TheVariants as code
use Rattle.cas_http.specs.declared.fields.BodyLength.{BodyLength}
use Rattle.cas_http.specs.declared.fields.BodyLength.TheVariants as body
use Rattle.cas_http.specs.declared.method.Method.{Method}
use Rattle.cas_http.specs.declared.method.Method.TheVariants as method
use Rattle.cas_http.specs.declared.head.Asks.{Asks}
use Rattle.cas_http.specs.declared.head.Asks.TheVariants as asks
use Rattle.cas_http.specs.declared.head.Head.{Head}
use Rattle.cas_http.specs.declared.head.Front.{Front}
use Rattle.cas_http.specs.declared.head.Front.TheVariants as front
use Rattle.cas_http.specs.declared.head.TheConstants.{MOST_HEAD, MOST_FIELDS, MOST_BODY}
use Rattle.cas_http.specs.Methods.{method_named}
use Rattle.cas_http.specs.Fields.{NamedField, host_fits, is_coded, body_length, bytes_of, asks_to_close}

-- ---- targets
-- the bytes are those of a key
abbrev pub is_key : List ℕ → Bool
is_key bytes = nat_lt 0 (length bytes) && nat_le (length bytes) LONGEST_KEY && is_none (first_bad_byte bytes)

abbrev pub if_key : List ℕ → Option (List ℕ)
if_key bytes = if is_key bytes then Some bytes else None

-- the key of a target: what follows `/r/`, as it stands
abbrev pub key_in : List ℕ → Option (List ℕ)
key_in target = if bytes_eq (take 3 target) (codes "/r/") then if_key (drop 3 target) else None

-- ---- what is asked for: the first refusal that has a cause, or a change
abbrev pub asked_of : Option Method → Option (List ℕ) → BodyLength → Asks
asked_of None key bytes = asks.Refused code.MethodNotAllowed
asked_of (Some name) None bytes = asks.Refused code.NotFound
asked_of (Some method.Post) (Some key) body.Absent = asks.Refused code.LengthRequired
asked_of (Some name) (Some key) bytes = asks.Change name key

-- a head of this method, target, minor version and fields, whose Content-Length says this
abbrev pub asked_with : BodyLength → List ℕ → List ℕ → ℕ → List NamedField → Asks
asked_with body.Broken name target minor fields = asks.Refused code.BadRequest
asked_with bytes name target minor fields =
    if not (host_fits minor fields) then asks.Refused code.BadRequest
    else (if is_coded fields then asks.Refused code.NotImplemented
    else (if nat_lt MOST_BODY (bytes_of bytes) then asks.Refused code.ContentTooLarge
    else asked_of (method_named name) (key_in target) bytes))

-- how many bytes of body are read before the answer: none behind a 400, a 501 or a 413
abbrev pub body_read : Asks → BodyLength → ℕ
body_read (asks.Refused code.BadRequest) bytes = 0
body_read (asks.Refused code.NotImplemented) bytes = 0
body_read (asks.Refused code.ContentTooLarge) bytes = 0
body_read other bytes = bytes_of bytes

-- the connection closes behind the answer, whatever that is: version 1.0, or a Connection field says so
abbrev pub is_last : ℕ → List NamedField → Bool
is_last minor fields = (minor == 0) || asks_to_close fields

-- a head of this length and these parts
abbrev pub head_with : ℕ → List ℕ → List ℕ → ℕ → List NamedField → Head
head_with size name target minor fields =
    let asked = asked_with (body_length fields) name target minor fields in
    record {
      length = size;
      body = body_read asked (body_length fields);
      last = is_last minor fields;
      asks = asked;
    }

-- what is told of a head of the grammar
abbrev pub head_of : RequestHead → Head
head_of h = head_with (length (print_request h)) h.method h.target h.minor (map name_and_value h.fields)

-- ---- the front of an input
-- no head is there yet, and one may come
pub record IsUnfinished (bytes : List ℕ) : Type 0 where
  pub none : HasNoRequest bytes
  pub may_come : MayBecomeRequest bytes

-- what is told then of so many bytes
abbrev pub unfinished : ℕ → Front
unfinished size = if nat_lt size MOST_HEAD then front.Open else front.Refused code.HeadTooLarge

-- what the bytes of an input begin with
abbrev pub IsFront : List ℕ → Front → Type 0
IsFront bytes front.Open = (length bytes < MOST_HEAD) × IsUnfinished bytes
IsFront bytes (front.Refused code.HeadTooLarge) = (MOST_HEAD ≤ length bytes) × IsUnfinished (take MOST_HEAD bytes)
IsFront bytes (front.Refused code.BadRequest) = RequestOverflows MOST_FIELDS (take MOST_HEAD bytes)
IsFront bytes (front.Refused other) = ⊥
IsFront bytes (front.Whole head) =
    (h : RequestHead) × (rest : List ℕ) × ReadsRequest (take MOST_HEAD bytes) h rest
    × (length h.fields ≤ MOST_FIELDS) × (head ≡ head_of h)
