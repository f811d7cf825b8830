-- What the parser says of the front of an input, in the words of what is told of it.
use Rattle.std.proofs.Common.{◌≡◌, ℕ, ◌<◌, ◌≤◌, true, false, nat_lt, List, [], ◌++◌, length, take, map, Option, Some, option_copied, Bor, ap, sym, subst, ◌∙◌, ⊎_elim, arith}
use Rattle.std.proofs.lemmas.Bool.{cases_lt}
use Rattle.std.proofs.lemmas.List.{take_all, length-map}
use Rattle.std.proofs.lemmas.Grind.{common_steps}
use Rattle.httparse.specs.declared.borrowed.Header.{Header}
use Rattle.httparse.specs.declared.borrowed.Request.{Request}
use Rattle.httparse.specs.Borrowed.{header_parts, HoldsSomeRequest}
use Rattle.httparse.specs.Grammar.{RequestHead, ReadsRequest, HasNoRequest, MayBecomeRequest}
use Rattle.httparse.specs.Spans.{name_and_value, RequestOverflows}
use Rattle.httparse.proofs.GrammarLemmas.{request_unique, request_prefix_free, ReadsRequest-append}
use Rattle.cas_http.specs.declared.head.Head.{Head}
use Rattle.cas_http.specs.declared.head.Front.TheVariants as front
use Rattle.cas_http.specs.declared.head.TheConstants.{MOST_HEAD, MOST_FIELDS}
use Rattle.cas_http.specs.Fields.{NamedField}
use Rattle.cas_http.specs.Heads.{head_with, head_of, IsUnfinished, unfinished, IsFront}

-- the bytes up to the limit, by the lesser of the two lengths
pub front_is : (bytes : List ℕ) (size : ℕ) → (length bytes < MOST_HEAD → size ≡ length bytes) → (MOST_HEAD ≤ length bytes → size ≡ MOST_HEAD) → take size bytes ≡ take MOST_HEAD bytes
front_is bytes size short long =
    ⊎_elim
    (λ (less : length bytes < MOST_HEAD). take_all size bytes (omega (arith, short less)) ∙ sym (take_all MOST_HEAD bytes (omega arith)))
    (λ (more : MOST_HEAD ≤ length bytes). ap (λ n. take n bytes) (long more))
    (cases_lt (length bytes) MOST_HEAD)

-- ---- no whole head
pub unfinished_is_front : (bytes : List ℕ) → HasNoRequest (take MOST_HEAD bytes) → MayBecomeRequest (take MOST_HEAD bytes) → IsFront bytes (unfinished (length bytes))
unfinished_is_front bytes none may =
    let waiting : IsUnfinished (take MOST_HEAD bytes) = record { none = none; may_come = may } in
    ⊎_elim
    (λ (short : length bytes < MOST_HEAD).
    let test : nat_lt (length bytes) MOST_HEAD ≡ true = grind (arith, common_steps) in
    let all : take MOST_HEAD bytes ≡ bytes = take_all MOST_HEAD bytes (omega arith) in
    rw test (short, subst IsUnfinished all waiting))
    (λ (long : MOST_HEAD ≤ length bytes).
    let test : nat_lt (length bytes) MOST_HEAD ≡ false = grind (arith, common_steps) in
    rw test (long, waiting))
    (cases_lt (length bytes) MOST_HEAD)

-- ---- a whole head
pub copied_is : (option : Option (Bor (List ℕ))) (here : Bor (List ℕ)) (bytes : List ℕ) → option ≡ Some here → option_copied option ≡ Some bytes → here.now ≡ bytes
copied_is option here bytes some copied =
    let same : Some here.now ≡ Some bytes = ap option_copied (sym some) ∙ copied in
    cc

heads_agree : (size size' : ℕ) (name name' target target' : List ℕ) (minor minor' : ℕ) (fields fields' : List NamedField) → size ≡ size'
    → name ≡ name' → target ≡ target' → minor ≡ minor' → fields ≡ fields'
    → head_with size name target minor fields ≡ head_with size' name' target' minor' fields'
heads_agree size size' name name' target target' minor minor' fields fields' a b c d e =
    λ i. head_with (a i) (b i) (c i) (d i) (e i)

-- as many fields as headers
fields_length : (headers : List Header) (h : RequestHead) → map header_parts headers ≡ map name_and_value h.fields → length h.fields ≡ length headers
fields_length headers h same =
    sym (length-map h.fields name_and_value) ∙ ap length (sym same) ∙ length-map headers header_parts

pub whole_is_front : (bytes : List ℕ) (request : Request) (size : ℕ) (head : Head) (name target : Bor (List ℕ)) (minor : ℕ)
    → HoldsSomeRequest (take MOST_HEAD bytes) request size → request.method ≡ Some name → request.path ≡ Some target → request.version ≡ Some minor
    → length request.headers.now ≤ MOST_FIELDS → head ≡ head_with size name.now target.now minor (map header_parts request.headers.now)
    → IsFront bytes (front.Whole head)
whole_is_front bytes request size head name target minor (h, holds) name_is target_is minor_is fits is =
    let same_name = copied_is request.method name h.method name_is holds.method in
    let same_target = copied_is request.path target h.target target_is holds.path in
    let minors : Some minor ≡ Some h.minor = sym minor_is ∙ holds.version in
    let same_minor : minor ≡ h.minor = cc in (
      h,
      _,
      holds.reads,
      omega (arith, fields_length request.headers.now h holds.fields),
      is ∙ heads_agree _ _ _ _ _ _ _ _ _ _ holds.len_is same_name same_target same_minor holds.fields,
    )

-- one head alone stands there
pub front_is_found : (bytes : List ℕ) (head : Head) (h : RequestHead) (rest : List ℕ) → IsFront bytes (front.Whole head)
    → ReadsRequest (take MOST_HEAD bytes) h rest → front.Whole head ≡ front.Whole (head_of h)
front_is_found bytes head h rest (k, other, reads, fits, is) found =
    ap (λ (x : Head). front.Whole x) (is ∙ ap head_of ((request_unique (take MOST_HEAD bytes) k h other rest reads found).0))

-- ---- a head with too many fields
pub crowded_overflows : (buffer : List ℕ) (request : Request) (size : ℕ) → HoldsSomeRequest buffer request size → MOST_FIELDS < length request.headers.now → RequestOverflows MOST_FIELDS buffer
crowded_overflows buffer request size (h, holds) many more k rest reads =
    let same = (request_prefix_free buffer more h k _ rest holds.reads reads).0 in
    let P : RequestHead → Type 0 = λ x. MOST_FIELDS < length x.fields in
    subst P same (omega (arith, fields_length request.headers.now h holds.fields))

pub overflow_is_none : (buffer : List ℕ) (h : RequestHead) (rest : List ℕ) → RequestOverflows MOST_FIELDS buffer → ReadsRequest buffer h rest → length h.fields ≤ MOST_FIELDS → ⊥
overflow_is_none buffer h rest overflows reads fits =
    let over = overflows [] h (rest ++ []) (ReadsRequest-append buffer h rest [] reads) in
    omega arith
