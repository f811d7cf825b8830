-- A request is known by its bytes, and stays the same behind more of them.
use Rattle.std.proofs.Common.{◌≡◌, ℕ, ◌+◌, ◌-◌, ◌<◌, ◌≤◌, true, false, nat_le, List, ◌++◌, length, take, drop, slice_range, Option, Some, None, refl, ap, sym, subst, ◌∙◌, ⊎_elim, arith}
use Rattle.std.proofs.lemmas.Bool.{cases_lt}
use Rattle.std.proofs.lemmas.Grind.{common_steps}
use Rattle.std.proofs.lemmas.List.{take_all, take-append-le, drop-append-le, length-append, length-drop}
use Rattle.httparse.specs.Grammar.{RequestHead, ReadsRequest}
use Rattle.cas_http.specs.declared.code.Code.TheVariants as code
use Rattle.cas_http.specs.declared.head.Head.{Head}
use Rattle.cas_http.specs.declared.head.Front.{Front}
use Rattle.cas_http.specs.declared.head.Front.TheVariants as front
use Rattle.cas_http.specs.declared.head.TheConstants.{MOST_HEAD, MOST_FIELDS}
use Rattle.cas_http.specs.declared.request.Spelled.{Spelled}
use Rattle.cas_http.specs.Heads.{head_of, IsFront}
use Rattle.cas_http.specs.Requests.{end_within, spelled_with, spelled_by, spelled_at, BeginsWith}
use Rattle.cas_http.proofs.Fronts.{front_is_found, overflow_is_none}
use Rattle.cas_http.proofs.LongerFronts.{stays}

-- ---- a head that stands there tells the request
front_is_the_head : (bytes : List ℕ) (told : Front) (h : RequestHead) (rest : List ℕ) → IsFront bytes told
    → ReadsRequest (take MOST_HEAD bytes) h rest → length h.fields ≤ MOST_FIELDS → told ≡ front.Whole (head_of h)
front_is_the_head bytes front.Open h rest (short, waits) reads fits =
    let all : take MOST_HEAD bytes ≡ bytes = take_all MOST_HEAD bytes (omega arith) in
    let P : List ℕ → Type 0 = λ buffer. ReadsRequest buffer h rest in
    absurd (waits.none h rest (subst P all reads))
front_is_the_head bytes (front.Refused code.HeadTooLarge) h rest (long, waits) reads fits = absurd (waits.none h rest reads)
front_is_the_head bytes (front.Refused code.BadRequest) h rest over reads fits = absurd (overflow_is_none (take MOST_HEAD bytes) h rest over reads fits)
front_is_the_head bytes (front.Refused other) h rest is reads fits = absurd is
front_is_the_head bytes (front.Whole head) h rest is reads fits = front_is_found bytes head h rest is reads

pub head_tells : (bytes : List ℕ) (told : Option Spelled) (h : RequestHead) (rest : List ℕ) → BeginsWith bytes told
    → ReadsRequest (take MOST_HEAD bytes) h rest → length h.fields ≤ MOST_FIELDS → told ≡ spelled_at (front.Whole (head_of h)) bytes
head_tells bytes told h rest (seen, is, same) reads fits =
    same ∙ ap (λ f. spelled_at f bytes) (front_is_the_head bytes seen h rest is reads fits)

-- ---- more bytes change nothing
same_slice : (bytes more : List ℕ) (from end : ℕ) → from ≤ end → end ≤ length bytes → slice_range (bytes ++ more) from end ≡ slice_range bytes from end
same_slice bytes more from end ordered within =
    ap (take (end - from)) (drop-append-le from bytes more (omega arith))
    ∙ take-append-le (end - from) (drop from bytes) more (omega (arith, length-drop from bytes))

end_stays : (head : Head) (size size' : ℕ) → size ≤ size' → head.length + head.body ≤ size → end_within head size' ≡ end_within head size
end_stays head size size' more within =
    let here : nat_le (head.length + head.body) size ≡ true = grind (arith, common_steps) in
    let there : nat_le (head.length + head.body) size' ≡ true = grind (arith, common_steps) in
    rw (here, there) refl

pub not_there : (head : Head) (bytes : List ℕ) → length bytes < head.length + head.body → spelled_by head bytes (end_within head (length bytes)) ≡ None
not_there head bytes short =
    let test : nat_le (head.length + head.body) (length bytes) ≡ false = grind (arith, common_steps) in
    rw test refl

pub there : (head : Head) (bytes : List ℕ) → head.length + head.body ≤ length bytes
    → spelled_by head bytes (end_within head (length bytes)) ≡ Some (spelled_with head (slice_range bytes head.length (head.length + head.body)) (head.length + head.body))
there head bytes within =
    let test : nat_le (head.length + head.body) (length bytes) ≡ true = grind (arith, common_steps) in
    rw test refl

spelled_stays : (head : Head) (bytes more : List ℕ) (told : Spelled) → Some told ≡ spelled_by head bytes (end_within head (length bytes))
    → Some told ≡ spelled_by head (bytes ++ more) (end_within head (length (bytes ++ more)))
spelled_stays head bytes more told is =
    ⊎_elim
    (λ (short : length bytes < head.length + head.body).
    let none : Some told ≡ None = is ∙ not_there head bytes short in
    cc)
    (λ (within : head.length + head.body ≤ length bytes).
    let end : ℕ = head.length + head.body in
    is ∙ there head bytes within
    ∙ ap (λ body. Some (spelled_with head body end)) (sym (same_slice bytes more head.length end (omega arith) within))
    ∙ sym (there head (bytes ++ more) (omega (arith, length-append bytes more))))
    (cases_lt (length bytes) (head.length + head.body))

pub request_stays : (bytes more : List ℕ) (told : Spelled) → BeginsWith bytes (Some told) → BeginsWith (bytes ++ more) (Some told)
request_stays bytes more told (front.Open, is, same) = cc
request_stays bytes more told (front.Refused refusal, is, same) =
    (front.Refused refusal, stays bytes more (front.Refused refusal) is (λ e. cc), same)
request_stays bytes more told (front.Whole head, is, same) =
    (front.Whole head, stays bytes more (front.Whole head) is (λ e. cc), spelled_stays head bytes more told same)
