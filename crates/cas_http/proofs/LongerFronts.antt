-- What is told of the front of an input stays behind more bytes.
use Rattle.std.proofs.Common.{◌≡◌, ◌≢◌, ℕ, ◌+◌, ◌-◌, ◌<◌, ◌≤◌, List, [], ◌++◌, length, take, refl, ap, sym, subst, ◌∙◌, ⊎_elim, append-nil, append_assoc, arith}
use Rattle.std.proofs.Math.Seq.{take-append-add}
use Rattle.std.proofs.lemmas.Bool.{cases_lt}
use Rattle.std.proofs.lemmas.List.{take_all, take-append-le, length-append}
use Rattle.httparse.specs.Grammar.{RequestHead, ReadsRequest}
use Rattle.httparse.specs.Spans.{RequestOverflows}
use Rattle.httparse.proofs.GrammarLemmas.{ReadsRequest-append}
use Rattle.cas_http.specs.declared.code.Code.TheVariants as code
use Rattle.cas_http.specs.declared.head.Front.{Front}
use Rattle.cas_http.specs.declared.head.Front.TheVariants as front
use Rattle.cas_http.specs.declared.head.TheConstants.{MOST_HEAD, MOST_FIELDS}
use Rattle.cas_http.specs.Heads.{IsUnfinished, IsFront}

-- where a head is looked for, more bytes only add behind
longer : (bytes more : List ℕ) → (added : List ℕ) × (take MOST_HEAD (bytes ++ more) ≡ take MOST_HEAD bytes ++ added)
longer bytes more =
    ⊎_elim
    (λ (short : length bytes < MOST_HEAD).
    let size : MOST_HEAD ≡ length bytes + (MOST_HEAD - length bytes) = omega arith in (
      take (MOST_HEAD - length bytes) more,
      ap (λ n. take n (bytes ++ more)) size ∙ take-append-add bytes more (MOST_HEAD - length bytes)
          ∙ ap (λ front. front ++ take (MOST_HEAD - length bytes) more) (sym (take_all MOST_HEAD bytes (omega arith))),
    ))
    (λ (long : MOST_HEAD ≤ length bytes). ([], take-append-le MOST_HEAD bytes more long ∙ sym (append-nil (take MOST_HEAD bytes))))
    (cases_lt (length bytes) MOST_HEAD)

still_reads : (bytes more : List ℕ) (h : RequestHead) (rest : List ℕ) → ReadsRequest (take MOST_HEAD bytes) h rest → (rest' : List ℕ) × ReadsRequest (take MOST_HEAD (bytes ++ more)) h rest'
still_reads bytes more h rest reads =
    let seen = longer bytes more in
    let P : List ℕ → Type 0 = λ buffer. ReadsRequest buffer h (rest ++ seen.0) in
    (rest ++ seen.0, subst P (sym seen.1) (ReadsRequest-append (take MOST_HEAD bytes) h rest seen.0 reads))

still_overflows : (bytes more : List ℕ) → RequestOverflows MOST_FIELDS (take MOST_HEAD bytes) → RequestOverflows MOST_FIELDS (take MOST_HEAD (bytes ++ more))
still_overflows bytes more overflows =
    let seen = longer bytes more in
    let P : List ℕ → Type 0 = λ buffer. RequestOverflows MOST_FIELDS buffer in
    subst P (sym seen.1) (λ others h rest reads.
    let Q : List ℕ → Type 0 = λ buffer. ReadsRequest buffer h rest in
    overflows (seen.0 ++ others) h rest (subst Q (append_assoc (take MOST_HEAD bytes) seen.0 others) reads))

still_unfinished : (bytes more : List ℕ) → MOST_HEAD ≤ length bytes → IsUnfinished (take MOST_HEAD bytes) → IsUnfinished (take MOST_HEAD (bytes ++ more))
still_unfinished bytes more long waits =
    subst IsUnfinished (sym (take-append-le MOST_HEAD bytes more long)) waits

pub stays : (bytes more : List ℕ) (told : Front) → IsFront bytes told → told ≢ front.Open → IsFront (bytes ++ more) told
stays bytes more front.Open is ready = absurd (ready refl)
stays bytes more (front.Refused code.HeadTooLarge) (long, waits) ready =
    (omega (arith, length-append bytes more), still_unfinished bytes more long waits)
stays bytes more (front.Refused code.BadRequest) is ready = still_overflows bytes more is
stays bytes more (front.Refused other) is ready = absurd is
stays bytes more (front.Whole head) (h, rest, reads, fits, is) ready =
    let found = still_reads bytes more h rest reads in
    (h, found.0, found.1, fits, is)
