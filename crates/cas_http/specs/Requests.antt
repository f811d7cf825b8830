-- The requests that the bytes of an input spell.
use Rattle.std.specs.Prelude.{◌≡◌, ℕ, ◌+◌, Bool, true, false, ◌||◌, nat_le, if◌then◌else◌, List, length, slice_range, Option, Some, None}
use Rattle.cas_change.specs.declared.program.Clause.{Clause}
use Rattle.cas_http.specs.declared.code.Code.TheVariants as code
use Rattle.cas_http.specs.declared.head.Asks.{Asks}
use Rattle.cas_http.specs.declared.head.Asks.TheVariants as asks
use Rattle.cas_http.specs.declared.head.Head.{Head}
use Rattle.cas_http.specs.declared.head.Front.{Front}
use Rattle.cas_http.specs.declared.head.Front.TheVariants as front
use Rattle.cas_http.specs.declared.request.Request.{Request}
use Rattle.cas_http.specs.declared.request.Request.TheVariants as request
use Rattle.cas_http.specs.declared.request.Spelled.{Spelled}
use Rattle.cas_http.specs.Codes.{closes}
use Rattle.cas_http.specs.Heads.{IsFront}
use Rattle.cas_http.specs.Methods.{program_asked}

-- a change of the register, where there is a program
abbrev pub change_with : List ℕ → Option (List Clause) → Request
change_with key (Some program) = request.Change key program
change_with key None = request.Refused code.Unprocessable

-- what is asked for with this body
abbrev pub request_of : Asks → List ℕ → Request
request_of (asks.Refused refusal) body = request.Refused refusal
request_of (asks.Change method key) body = change_with key (program_asked method body)

-- a refusal may close the connection by itself
abbrev pub refusal_closes : Request → Bool
refusal_closes (request.Refused refusal) = closes refusal
refusal_closes (request.Change key program) = false

-- where the body behind a head ends, if it is whole in so many bytes
abbrev pub end_within : Head → ℕ → Option ℕ
end_within head size = if nat_le (head.length + head.body) size then Some (head.length + head.body) else None

-- the request that has this head, this body and this length
abbrev pub spelled_with : Head → List ℕ → ℕ → Spelled
spelled_with head body size = record {
  request = request_of head.asks body;
  length = size;
  last = head.last || refusal_closes (request_of head.asks body);
}

abbrev pub spelled_by : Head → List ℕ → Option ℕ → Option Spelled
spelled_by head bytes (Some end) = Some (spelled_with head (slice_range bytes head.length end) end)
spelled_by head bytes None = None

-- the request that an input begins with, by its front; none where more bytes have to come
abbrev pub spelled_at : Front → List ℕ → Option Spelled
spelled_at front.Open bytes = None
spelled_at (front.Refused refusal) bytes = Some (record { request = request.Refused refusal; length = 0; last = true })
spelled_at (front.Whole head) bytes = spelled_by head bytes (end_within head (length bytes))

abbrev pub BeginsWith : List ℕ → Option Spelled → Type 0
BeginsWith bytes told = (front : Front) × IsFront bytes front × (told ≡ spelled_at front bytes)
