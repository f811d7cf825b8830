-- The fields of a head that decide on an answer. A field is its name, and its value without the white space around it.
use Rattle.std.specs.Prelude.{ℕ, Bool, ◌&&◌, ◌||◌, ◌==◌, nat_lt, nat_le, if◌then◌else◌, List, length, codes, Option, Some, None, option_map, count_by}
use Rattle.std.specs.List.{find, list_any, slice_split}
use Rattle.std.specs.Str.{str_eq_ignore_ascii_case, all_ascii_digits}
use Rattle.std.specs.Str.Parse.{digits_value}
use Rattle.cas_http.specs.declared.fields.BodyLength.{BodyLength}
use Rattle.cas_http.specs.declared.fields.BodyLength.TheVariants as body
use Rattle.cas_http.specs.declared.fields.TheConstants.{MOST_DIGITS}

abbrev pub NamedField : Type 0
NamedField = List ℕ × List ℕ

-- the field has this name, whatever the case of its letters
abbrev pub has_name : List ℕ → NamedField → Bool
has_name name field = str_eq_ignore_ascii_case field.0 name

abbrev pub count_named : List ℕ → List NamedField → ℕ
count_named name fields = count_by (has_name name) fields

-- the value of the first field of this name
abbrev pub value_named : List ℕ → List NamedField → Option (List ℕ)
value_named name fields = option_map (λ field. field.1) (find (has_name name) fields)

-- ---- Host: one, or none in version 1.0
abbrev pub host_fits : ℕ → List NamedField → Bool
host_fits minor fields = (count_named (codes "host") fields == 1) || ((count_named (codes "host") fields == 0) && (minor == 0))

-- ---- Transfer-Encoding: any is one too many
abbrev pub is_coded : List NamedField → Bool
is_coded fields = nat_lt 0 (count_named (codes "transfer-encoding") fields)

-- ---- Content-Length: at most one, of 1 to 10 digits
abbrev pub is_length : List ℕ → Bool
is_length digits = nat_le 1 (length digits) && nat_le (length digits) MOST_DIGITS && all_ascii_digits digits

abbrev pub length_in : List ℕ → Option ℕ
length_in digits = if is_length digits then Some (digits_value 10 digits) else None

abbrev pub length_by : Option ℕ → BodyLength
length_by (Some bytes) = body.Bytes bytes
length_by None = body.Broken

abbrev pub length_said : Option (List ℕ) → BodyLength
length_said None = body.Absent
length_said (Some digits) = length_by (length_in digits)

abbrev pub body_length : List NamedField → BodyLength
body_length fields = if nat_lt 1 (count_named (codes "content-length") fields) then body.Broken
    else length_said (value_named (codes "content-length") fields)

-- how many bytes that is; none where it cannot be told
abbrev pub bytes_of : BodyLength → ℕ
bytes_of (body.Bytes bytes) = bytes
bytes_of other = 0

-- ---- Connection
-- a comma, a space or a tab
abbrev pub is_separator : ℕ → Bool
is_separator byte = (byte == 44) || (byte == 32) || (byte == 9)

-- one of the words of a value is `close`, whatever its case
abbrev pub says_close : List ℕ → Bool
says_close value = list_any (λ word. str_eq_ignore_ascii_case word (codes "close")) (slice_split is_separator value)

abbrev pub is_closing : NamedField → Bool
is_closing field = has_name (codes "connection") field && says_close field.1

-- some Connection field says so
abbrev pub asks_to_close : List NamedField → Bool
asks_to_close fields = list_any is_closing fields
