-- How long a request is, and what is told of one that closes.
use Rattle.std.proofs.Common.{◌≡◌, ℕ, ◌+◌, ◌<◌, ◌≤◌, Bool, true, false, not, ◌||◌, nat_lt, if◌then◌else◌, List, length, map, take, Some, None, refl, ap, sym, subst, ◌∙◌, ⊎_elim, arith}
use Rattle.std.proofs.lemmas.Bool.{cases_lt}
use Rattle.std.proofs.lemmas.Grind.{common_steps}
use Rattle.std.proofs.lemmas.List.{length-append, length-take}
use Rattle.httparse.specs.Grammar.{print_request}
use Rattle.httparse.specs.Spans.{name_and_value}
use Rattle.cas_http.specs.declared.code.Code.{Code}
use Rattle.cas_http.specs.declared.code.Code.TheVariants as code
use Rattle.cas_http.specs.declared.fields.BodyLength.{BodyLength}
use Rattle.cas_http.specs.declared.fields.BodyLength.TheVariants as body
use Rattle.cas_http.specs.declared.head.Asks.{Asks}
use Rattle.cas_http.specs.declared.head.Asks.TheVariants as asks
use Rattle.cas_http.specs.declared.head.Head.{Head}
use Rattle.cas_http.specs.declared.head.Front.TheVariants as front
use Rattle.cas_http.specs.declared.head.TheConstants.{MOST_HEAD, MOST_BODY}
use Rattle.cas_http.specs.declared.request.Request.TheVariants as request
use Rattle.cas_http.specs.declared.request.Spelled.{Spelled}
use Rattle.cas_http.specs.Fields.{NamedField, host_fits, is_coded, body_length, bytes_of}
use Rattle.cas_http.specs.Heads.{asked_of, asked_with, body_read, head_of, key_in, IsFront}
use Rattle.cas_http.specs.Methods.{method_named}
use Rattle.cas_http.proofs.RequestFronts.{not_there, there}
use Rattle.cas_http.specs.Requests.{request_of, refusal_closes, spelled_with, BeginsWith}

-- ---- a head
-- whatever is asked for, no more of the body is read than a body may have
few_read : (asked : Asks) (bytes : BodyLength) → bytes_of bytes ≤ MOST_BODY → body_read asked bytes ≤ MOST_BODY
few_read (asks.Refused code.Done) bytes few = few
few_read (asks.Refused code.BadRequest) bytes few = omega arith
few_read (asks.Refused code.NotFound) bytes few = few
few_read (asks.Refused code.MethodNotAllowed) bytes few = few
few_read (asks.Refused code.Conflict) bytes few = few
few_read (asks.Refused code.LengthRequired) bytes few = few
few_read (asks.Refused code.ContentTooLarge) bytes few = omega arith
few_read (asks.Refused code.Unprocessable) bytes few = few
few_read (asks.Refused code.HeadTooLarge) bytes few = few
few_read (asks.Refused code.NotImplemented) bytes few = omega arith
few_read (asks.Refused code.Unavailable) bytes few = few
few_read (asks.Change method key) bytes few = few

either : (b : Bool) (asked other : Asks) (bytes : BodyLength) → (b ≡ true → body_read asked bytes ≤ MOST_BODY) → (b ≡ false → body_read other bytes ≤ MOST_BODY)
    → body_read (if b then asked else other) bytes ≤ MOST_BODY
either true asked other bytes first second = first refl
either false asked other bytes first second = second refl

short : (n : ℕ) → nat_lt MOST_BODY n ≡ false → n ≤ MOST_BODY
short n test = grind (arith, common_steps)

-- a longer one is refused, and not read
body_fits : (bytes : BodyLength) (name target : List ℕ) (minor : ℕ) (fields : List NamedField) → body_read (asked_with bytes name target minor fields) bytes ≤ MOST_BODY
body_fits body.Broken name target minor fields = omega arith
body_fits body.Absent name target minor fields = few_read (asked_with body.Absent name target minor fields) body.Absent (omega arith)
body_fits (body.Bytes n) name target minor fields =
    let bytes : BodyLength = body.Bytes n in
    let found : Asks = asked_of (method_named name) (key_in target) bytes in
    let sized : Asks = if nat_lt MOST_BODY n then asks.Refused code.ContentTooLarge else found in
    let coded : Asks = if is_coded fields then asks.Refused code.NotImplemented else sized in
    either (not (host_fits minor fields)) (asks.Refused code.BadRequest) coded bytes (λ _. omega arith)
    (λ _. either (is_coded fields) (asks.Refused code.NotImplemented) sized bytes (λ _. omega arith)
    (λ _. either (nat_lt MOST_BODY n) (asks.Refused code.ContentTooLarge) found bytes (λ _. omega arith)
    (λ test. few_read found bytes (short n test))))

-- a whole head of an input, and its body
head_fits : (bytes : List ℕ) (head : Head) → IsFront bytes (front.Whole head) → (head.length ≤ length bytes) × (head.length ≤ MOST_HEAD) × (head.body ≤ MOST_BODY)
head_fits bytes head (h, rest, reads, fits, is) =
    let size : length (take MOST_HEAD bytes) ≡ length (print_request h) + length rest = ap length reads.1 ∙ length-append (print_request h) rest in
    let long : head.length ≡ length (print_request h) = ap (λ (x : Head). x.length) is in
    let body : head.body ≡ (head_of h).body = ap (λ (x : Head). x.body) is in (
      omega (arith, size, long, length-take MOST_HEAD bytes),
      omega (arith, size, long, length-take MOST_HEAD bytes),
      subst (λ n. n ≤ MOST_BODY) (sym body) (body_fits (body_length (map name_and_value h.fields)) h.method h.target h.minor (map name_and_value h.fields)),
    )

-- ---- requests
-- no more is waited for than the longest request has
pub waits_for_few : (bytes : List ℕ) → BeginsWith bytes None → length bytes < MOST_HEAD + MOST_BODY
waits_for_few bytes (front.Open, is, same) = omega (arith, is.0)
waits_for_few bytes (front.Refused refusal, is, same) = cc
waits_for_few bytes (front.Whole head, is, same) =
    let fits = head_fits bytes head is in
    ⊎_elim
    (λ (short : length bytes < head.length + head.body). omega (arith, fits.1, fits.2))
    (λ (within : head.length + head.body ≤ length bytes). let told = same ∙ there head bytes within in cc)
    (cases_lt (length bytes) (head.length + head.body))

-- a request that stands there is told by a code with no bytes, or by a head that stands within the bytes with its body
data ToldIn (bytes : List ℕ) (asked : Spelled) : Type 0 where
  by_code : (refusal : Code) → asked ≡ record { request = request.Refused refusal; length = 0; last = true } → ToldIn bytes asked
  by_head : (head : Head) (body : List ℕ) → head.length + head.body ≤ length bytes → head.length + head.body ≤ MOST_HEAD + MOST_BODY
      → asked ≡ spelled_with head body (head.length + head.body) → ToldIn bytes asked

same_told : (a b : Spelled) → Some a ≡ Some b → a ≡ b
same_told a b is = cc

told_by : (bytes : List ℕ) (asked : Spelled) → BeginsWith bytes (Some asked) → ToldIn bytes asked
told_by bytes asked (front.Open, is, same) = cc
told_by bytes asked (front.Refused refusal, is, same) = by_code refusal (same_told _ _ same)
told_by bytes asked (front.Whole head, is, same) =
    let fits = head_fits bytes head is in
    ⊎_elim
    (λ (short : length bytes < head.length + head.body). let none = same ∙ not_there head bytes short in cc)
    (λ (within : head.length + head.body ≤ length bytes). by_head head _ within (omega (arith, fits.1, fits.2)) (same_told _ _ (same ∙ there head bytes within)))
    (cases_lt (length bytes) (head.length + head.body))

fits_told : (bytes : List ℕ) (asked : Spelled) → ToldIn bytes asked → (asked.length ≤ length bytes) × (asked.length ≤ MOST_HEAD + MOST_BODY)
fits_told bytes asked (by_code refusal is) =
    let size : asked.length ≡ 0 = ap (λ (x : Spelled). x.length) is in
    (omega arith, omega arith)
fits_told bytes asked (by_head head body within few is) =
    let size : asked.length ≡ head.length + head.body = ap (λ (x : Spelled). x.length) is in
    (omega arith, omega arith)

-- a request stands within the bytes, and has no more than the longest
pub request_fits : (bytes : List ℕ) (asked : Spelled) → BeginsWith bytes (Some asked) → (asked.length ≤ length bytes) × (asked.length ≤ MOST_HEAD + MOST_BODY)
request_fits bytes asked begins = fits_told bytes asked (told_by bytes asked begins)

or_true : (a b : Bool) → b ≡ true → (a || b) ≡ true
or_true true b is = refl
or_true false b is = is

closes_told : (bytes : List ℕ) (asked : Spelled) → ToldIn bytes asked → refusal_closes asked.request ≡ true → asked.last ≡ true
closes_told bytes asked (by_code refusal is) closes = ap (λ (x : Spelled). x.last) is
closes_told bytes asked (by_head head body within few is) closes =
    let last : asked.last ≡ (head.last || refusal_closes (request_of head.asks body)) = ap (λ (x : Spelled). x.last) is in
    let same : asked.request ≡ request_of head.asks body = ap (λ (x : Spelled). x.request) is in
    last ∙ or_true head.last _ (sym (ap refusal_closes same) ∙ closes)

-- behind a refusal that closes the connection closes
pub refusal_is_last : (bytes : List ℕ) (asked : Spelled) → BeginsWith bytes (Some asked) → refusal_closes asked.request ≡ true → asked.last ≡ true
refusal_is_last bytes asked begins = closes_told bytes asked (told_by bytes asked begins)
