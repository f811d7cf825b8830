-- Each answer begins with a head of the grammar of HTTP, and its body follows.
use Rattle.std.proofs.Common.{◌≡◌, ℕ, ◌^◌, ◌<◌, Bool, true, false, ◌&&◌, List, [], ◌∷◌, ◌++◌, length, take, drop, codes, decimal, refl, sym, ◌∙◌, append_assoc, arith}
use Rattle.std.specs.Char.{is_ascii_digit}
use Rattle.std.specs.Cmp.{first_so, second_so}
use Rattle.std.specs.List.{All, flat_map, list_all}
use Rattle.std.specs.Str.{all_ascii_digits}
use Rattle.std.proofs.lemmas.Bool.Decides.{nat_tests}
use Rattle.std.proofs.lemmas.Fmt.{digits_decimal}
use Rattle.std.proofs.lemmas.List.Elements.{All-nil, All-cons, All-append}
use Rattle.std.proofs.lemmas.List.Concat.{flat_map-append}
use Rattle.std.proofs.lemmas.List.Sums.{AllPass-from_list_all}
use Rattle.std.proofs.lemmas.Str.Parse.{numerals_by_value, tells_all_ascii_digits}
use Rattle.httparse.specs.Grammar.{is_token_byte, is_value_byte, AllPass, print_version, print_reason, print_end, crlf, Field, print_field, IsField, print_response, IsResponseHead, ReadsResponse}
use Rattle.cas_http.specs.declared.code.Code.{Code}
use Rattle.cas_http.specs.declared.code.Code.TheVariants as code
use Rattle.cas_http.specs.Codes.{status_text}
use Rattle.cas_http.specs.Answers.{line_text, allow_text, close_text, answer_text_of}
use Rattle.cas_http.specs.Responses.{field_of, allow_fields, close_fields, response_of}

-- ---- the bytes
-- the first line, by its parts
abbrev start_line : Code → List ℕ
start_line code = [] ++ print_version 1 ++ 32 ∷ take 3 (status_text code) ++ print_reason (response_of code 0 false).reason ++ print_end crlf

start_line_is : (code : Code) → line_text (codes "HTTP/1.1 " ++ status_text code) ≡ start_line code
start_line_is code.Done = refl
start_line_is code.BadRequest = refl
start_line_is code.NotFound = refl
start_line_is code.MethodNotAllowed = refl
start_line_is code.Conflict = refl
start_line_is code.LengthRequired = refl
start_line_is code.ContentTooLarge = refl
start_line_is code.Unprocessable = refl
start_line_is code.HeadTooLarge = refl
start_line_is code.NotImplemented = refl
start_line_is code.Unavailable = refl

allow_is : (code : Code) → allow_text code ≡ flat_map print_field (allow_fields code)
allow_is code.MethodNotAllowed = refl
allow_is _ = refl

close_is : (last : Bool) → close_text last ≡ flat_map print_field (close_fields last)
close_is true = refl
close_is false = refl

regroup : (first type size allow close end body : List ℕ) → first ++ type ++ size ++ allow ++ close ++ end ++ body ≡ first ++ (type ++ (size ++ (allow ++ close)) ++ end) ++ body
regroup first type size allow close end body = simp append_assoc

bytes_are : (code : Code) (body : List ℕ) (last : Bool) → answer_text_of code body last ≡ print_response (response_of code (length body) last) ++ body
unfolding print_response
bytes_are code body last =
    let type : List ℕ = line_text (codes "Content-Type: application/json") in
    let size : List ℕ = line_text (codes "Content-Length: " ++ decimal (length body)) in
    let rest : allow_text code ++ close_text last ≡ flat_map print_field (allow_fields code ++ close_fields last) =
    (λ i. allow_is code i ++ close_is last i) ∙ sym (flat_map-append print_field (allow_fields code) (close_fields last)) in
    regroup (line_text (codes "HTTP/1.1 " ++ status_text code)) type size (allow_text code) (close_text last) (line_text []) body
    ∙ (λ i. start_line_is code i ++ (type ++ (size ++ rest i) ++ print_end crlf) ++ body)

-- ---- the head
passes : (test : ℕ → Bool) (bytes : List ℕ) → list_all test bytes ≡ true → AllPass test bytes
passes test bytes e = AllPass-from_list_all test bytes e

digit_is_value : (byte : ℕ) → is_ascii_digit byte ≡ true → is_value_byte byte ≡ true
digit_is_value byte e = grind (arith, nat_tests)

digits_are_values : (digits : List ℕ) → all_ascii_digits digits ≡ true → list_all is_value_byte digits ≡ true
digits_are_values [] e = refl
digits_are_values (digit ∷ digits) e =
    λ i. digit_is_value digit (first_so (is_ascii_digit digit) (all_ascii_digits digits) e) i
    && digits_are_values digits (second_so (is_ascii_digit digit) (all_ascii_digits digits) e) i

is_field : (field : Field) → 0 < length field.name → list_all is_token_byte field.name ≡ true → list_all is_value_byte field.raw ≡ true → IsField field
is_field field some name raw = record { name = (some, passes is_token_byte field.name name); raw = passes is_value_byte field.raw raw }

type_is_field : IsField (field_of (codes "Content-Type") (codes "application/json"))
unfolding is_token_byte
type_is_field = is_field (field_of (codes "Content-Type") (codes "application/json")) (omega arith) refl refl

size_is_field : (size : ℕ) → size < 2 ^ 64 → IsField (field_of (codes "Content-Length") (decimal size))
unfolding is_token_byte
size_is_field size fits =
    let digits = digits_decimal (numerals_by_value (λ ds. all_ascii_digits ds ≡ true) tells_all_ascii_digits) size fits in
    is_field (field_of (codes "Content-Length") (decimal size)) (omega arith) refl (digits_are_values (decimal size) digits)

allow_is_field : IsField (field_of (codes "Allow") (codes "GET, POST, DELETE"))
unfolding is_token_byte
allow_is_field = is_field (field_of (codes "Allow") (codes "GET, POST, DELETE")) (omega arith) refl refl

close_is_field : IsField (field_of (codes "Connection") (codes "close"))
unfolding is_token_byte
close_is_field = is_field (field_of (codes "Connection") (codes "close")) (omega arith) refl refl

allow_are_fields : (code : Code) → All IsField (allow_fields code)
allow_are_fields code.MethodNotAllowed = All-cons IsField _ [] allow_is_field (All-nil IsField)
allow_are_fields _ = All-nil IsField

close_are_fields : (last : Bool) → All IsField (close_fields last)
close_are_fields true = All-cons IsField _ [] close_is_field (All-nil IsField)
close_are_fields false = All-nil IsField

-- three digits, and a phrase
pub record HasStatus (code : Code) : Type 0 where
  pub three : length (take 3 (status_text code)) ≡ 3
  pub digits : list_all is_ascii_digit (take 3 (status_text code)) ≡ true
  pub phrase : list_all is_value_byte (drop 4 (status_text code)) ≡ true

has_status : (code : Code) → HasStatus code
has_status code.Done = record { three = refl; digits = refl; phrase = refl }
has_status code.BadRequest = record { three = refl; digits = refl; phrase = refl }
has_status code.NotFound = record { three = refl; digits = refl; phrase = refl }
has_status code.MethodNotAllowed = record { three = refl; digits = refl; phrase = refl }
has_status code.Conflict = record { three = refl; digits = refl; phrase = refl }
has_status code.LengthRequired = record { three = refl; digits = refl; phrase = refl }
has_status code.ContentTooLarge = record { three = refl; digits = refl; phrase = refl }
has_status code.Unprocessable = record { three = refl; digits = refl; phrase = refl }
has_status code.HeadTooLarge = record { three = refl; digits = refl; phrase = refl }
has_status code.NotImplemented = record { three = refl; digits = refl; phrase = refl }
has_status code.Unavailable = record { three = refl; digits = refl; phrase = refl }

is_head : (code : Code) (size : ℕ) (last : Bool) → size < 2 ^ 64 → IsResponseHead (response_of code size last)
is_head code size last fits =
    let others = All-append IsField (allow_fields code) (close_fields last) (allow_are_fields code) (close_are_fields last) in
    let rest : List Field = field_of (codes "Content-Length") (decimal size) ∷ (allow_fields code ++ close_fields last) in
    let sized : All IsField rest = All-cons IsField (field_of (codes "Content-Length") (decimal size)) (allow_fields code ++ close_fields last) (size_is_field size fits) others in
    record {
      minor = omega arith;
      digits = ((has_status code).three, passes is_ascii_digit (take 3 (status_text code)) (has_status code).digits);
      reason = passes is_value_byte (drop 4 (status_text code)) (has_status code).phrase;
      fields = All-cons IsField (field_of (codes "Content-Type") (codes "application/json")) rest type_is_field sized;
    }

pub reads : (answer : List ℕ) (code : Code) (body : List ℕ) (last : Bool) → length body < 2 ^ 64
    → answer ≡ answer_text_of code body last → ReadsResponse answer (response_of code (length body) last) body
reads answer code body last fits is = (is_head code (length body) last fits, is ∙ bytes_are code body last)
