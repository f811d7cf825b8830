-- What is written of an outcome has no float and does not nest deep, so it is the compact text of what was meant, and is read again.
use Rattle.std.proofs.Common.{◌≡◌, ℕ, ◌≤◌, true, false, List, codes, Some, if◌then◌else◌, ℤ, pos, negsuc, refl, subst, arith}
use Rattle.std.specs.Str.{is_utf8}
use Rattle.hex.specs.Hex.{encode_lower}
use Rattle.serde_json.specs.Data.{Data, string, depth}
use Rattle.serde_json.specs.Find.{is_float, of_integer}
use Rattle.serde_json.specs.Read.{read, max_depth}
use Rattle.serde_json.specs.Written.{compact_text, has_float}
use Rattle.cas_ballot.specs.declared.ballot.Ballot.{Ballot}
use Rattle.cas_change.specs.declared.outcome.Took.{Took}
use Rattle.cas_change.specs.declared.outcome.Took.TheVariants as took
use Rattle.cas_change.specs.declared.state.Body.TheVariants.{Number, Text}
use Rattle.cas_change.specs.declared.state.State.{State}
use Rattle.cas_change.specs.declared.state.State.TheVariants.{Empty, Held}
use Rattle.cas_record.specs.declared.answer.Answer.{Answer}
use Rattle.cas_record.specs.declared.answer.Answer.TheVariants as answer
use Rattle.cas_http.specs.Outcomes.{versioned, text_data, state_data, took_data, done_data, answer_data}

is_float-of_integer : (n : ℤ) → is_float (of_integer n) ≡ false
is_float-of_integer (pos n) = refl
is_float-of_integer (negsuc n) = refl

abbrev as_string : List ℕ → ℕ → Data
as_string bytes version = versioned (codes "text") (string bytes) version

abbrev as_digits : List ℕ → ℕ → Data
as_digits bytes version = versioned (codes "hex") (string (encode_lower bytes)) version

text_has_no_float : (bytes : List ℕ) (version : ℕ) → has_float (text_data bytes version) ≡ false
text_has_no_float bytes version =
    elim (is_utf8 bytes) as (λ b. has_float (if b then as_string bytes version else as_digits bytes version) ≡ false) [ true ↦ refl | false ↦ refl ]

state_has_no_float : (state : State) → has_float (state_data state) ≡ false
state_has_no_float Empty = refl
state_has_no_float (Held version (Number n)) = rw (is_float-of_integer n) refl
state_has_no_float (Held version (Text bytes)) = text_has_no_float bytes version

took_has_no_float : (by : Took) → has_float (took_data by) ≡ false
took_has_no_float (took.Clause i) = refl
took_has_no_float took.Nothing = refl
took_has_no_float (took.Unfit i) = refl

pub done_has_no_float : (state : State) (by : Took) (ballot : Ballot) → has_float (done_data state by ballot) ≡ false
done_has_no_float state by ballot = rw (state_has_no_float state, took_has_no_float by) refl

text_is_shallow : (bytes : List ℕ) (version : ℕ) → depth (text_data bytes version) ≤ 1
text_is_shallow bytes version =
    elim (is_utf8 bytes) as (λ b. depth (if b then as_string bytes version else as_digits bytes version) ≤ 1) [ true ↦ omega arith | false ↦ omega arith ]

state_is_shallow : (state : State) → depth (state_data state) ≤ 1
state_is_shallow Empty = omega arith
state_is_shallow (Held version (Number n)) = omega arith
state_is_shallow (Held version (Text bytes)) = text_is_shallow bytes version

took_is_flat : (by : Took) → depth (took_data by) ≡ 0
took_is_flat (took.Clause i) = refl
took_is_flat took.Nothing = refl
took_is_flat (took.Unfit i) = refl

pub done_is_shallow : (state : State) (by : Took) (ballot : Ballot) → depth (done_data state by ballot) ≤ max_depth
done_is_shallow state by ballot =
    let state_depth = state_is_shallow state in
    let took_depth = took_is_flat by in
    omega arith

pub answer_has_no_float : (told : Answer) → has_float (answer_data told) ≡ false
answer_has_no_float (answer.Done state by ballot) = done_has_no_float state by ballot
answer_has_no_float _ = refl

pub answer_is_shallow : (told : Answer) → depth (answer_data told) ≤ max_depth
answer_is_shallow (answer.Done state by ballot) = done_is_shallow state by ballot
answer_is_shallow _ = omega arith

-- the text of a value is that of the data that it stands for
pub printed : (text : List ℕ) (value meant : Data) → value ≡ meant → has_float meant ≡ false → (has_float value ≡ false → text ≡ compact_text value) → text ≡ compact_text meant
printed text value meant same no_float h =
    let P : Data → Type 0 = λ d. has_float d ≡ false → text ≡ compact_text d in
    subst P same h no_float

pub read_again : (text : List ℕ) (value meant : Data) → value ≡ meant → depth meant ≤ max_depth → (depth value ≤ max_depth → read text ≡ Some value) → read text ≡ Some meant
read_again text value meant same shallow h =
    let P : Data → Type 0 = λ d. depth d ≤ max_depth → read text ≡ Some d in
    subst P same h shallow
