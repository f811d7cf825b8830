-- The JSON that answers a change.
use Rattle.std.specs.Prelude.{ℕ, Bool, if◌then◌else◌, List, codes}
use Rattle.std.specs.Str.{is_utf8}
use Rattle.hex.specs.Hex.{encode_lower}
use Rattle.serde_json.specs.Data.{Data, null, number, unsigned, string, object, no_members, member}
use Rattle.serde_json.specs.Find.{of_integer}
use Rattle.cas_ballot.specs.Ballot.{ballot_text}
use Rattle.cas_ballot.specs.declared.ballot.Ballot.{Ballot}
use Rattle.cas_change.specs.declared.outcome.Took.{Took}
use Rattle.cas_change.specs.declared.outcome.Took.TheVariants as took
use Rattle.cas_change.specs.declared.state.Body.{Body}
use Rattle.cas_change.specs.declared.state.Body.TheVariants.{Number, Text}
use Rattle.cas_change.specs.declared.state.State.{State}
use Rattle.cas_change.specs.declared.state.State.TheVariants.{Empty, Held}
use Rattle.cas_record.specs.declared.answer.Answer.{Answer}
use Rattle.cas_record.specs.declared.answer.Answer.TheVariants as answer
use Rattle.cas_lines.specs.Answers.{answer_text}
use Rattle.serde_json.specs.Written.{compact_text}
use Rattle.cas_http.specs.declared.code.Code.{Code}
use Rattle.cas_http.specs.declared.code.Code.TheVariants as code
use Rattle.cas_http.specs.Answers.{answer_text_of}

-- an object of the two members, of which the first has that name
abbrev pub versioned : List ℕ → Data → ℕ → Data
versioned name d version = object (member name d (member (codes "version") (number (unsigned version)) no_members))

-- a text as a string where it is UTF-8, and else in hexadecimal digits, those above 9 in lower case
abbrev pub text_data : List ℕ → ℕ → Data
text_data bytes version = if is_utf8 bytes then versioned (codes "text") (string bytes) version
    else versioned (codes "hex") (string (encode_lower bytes)) version

abbrev pub body_data : Body → ℕ → Data
body_data (Number n) version = versioned (codes "num") (number (of_integer n)) version
body_data (Text bytes) version = text_data bytes version

abbrev pub state_data : State → Data
state_data Empty = null
state_data (Held version body) = body_data body version

-- the number of the clause that acted, or why none did
abbrev pub took_data : Took → Data
took_data (took.Clause i) = number (unsigned i)
took_data took.Nothing = string (codes "none")
took_data (took.Unfit i) = string (codes "unfit")

-- what a change that stands left, which clause acted, and at which ballot
abbrev pub done_data : State → Took → Ballot → Data
done_data state by ballot =
    object (member (codes "at") (string (ballot_text ballot))
    (member (codes "state") (state_data state)
    (member (codes "took") (took_data by) no_members)))

-- any other answer, by its text
abbrev pub told_data : List ℕ → Data
told_data text = object (member (codes "answer") (string text) no_members)

-- ---- answers
-- 200 for a change that stands, 409 for a conflict, 503 for any other answer
abbrev pub code_of : Answer → Code
code_of (answer.Done state by ballot) = code.Done
code_of (answer.Conflict met) = code.Conflict
code_of other = code.Unavailable

abbrev pub answer_data : Answer → Data
answer_data (answer.Done state by ballot) = done_data state by ballot
answer_data other = told_data (answer_text other)

-- the whole answer to a change, after which the connection closes or not
abbrev pub reply_text : Answer → Bool → List ℕ
reply_text told last = answer_text_of (code_of told) (compact_text (answer_data told)) last
