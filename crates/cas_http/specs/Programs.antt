-- The program of change that the body of a POST spells in JSON.
use Rattle.std.specs.Prelude.{ℕ, suc, ◌==◌, ◌&&◌, nat_le, if◌then◌else◌, List, [], ◌∷◌, length, codes, Option, Some, None, option_map, option_and_then, ℤ}
use Rattle.std.specs.Str.{bytes_eq, is_utf8}
use Rattle.serde_json.specs.Data.{Data, object, Items, no_items, item, Members, no_members, member}
use Rattle.serde_json.specs.Find.{get, as_number, as_str, as_array, as_object, as_u64, as_i64}
use Rattle.serde_json.specs.Read.{read}
use Rattle.cas_change.specs.declared.program.TheConstants.{MOST_CLAUSES}
use Rattle.cas_change.specs.declared.text.TheConstants.{LONGEST_TEXT}
use Rattle.cas_change.specs.declared.program.Guard.{Guard}
use Rattle.cas_change.specs.declared.program.Guard.TheVariants.{Always, IsEmpty, VersionIs, NumberBelow, TextIs}
use Rattle.cas_change.specs.declared.program.Act.{Act}
use Rattle.cas_change.specs.declared.program.Act.TheVariants.{Keep, PutText, PutNumber, Add, Clear}
use Rattle.cas_change.specs.declared.program.Clause.{Clause}

-- ---- values
abbrev pub version_in : Data → Option ℕ
version_in d = option_and_then as_u64 (as_number d)

abbrev pub number_in : Data → Option ℤ
number_in d = option_and_then as_i64 (as_number d)

abbrev pub if_text : List ℕ → Option (List ℕ)
if_text bytes = if nat_le (length bytes) LONGEST_TEXT then Some bytes else None

-- a string of at most 4,000 bytes
abbrev pub text_in : Data → Option (List ℕ)
text_in d = option_and_then if_text (as_str d)

-- ---- objects
-- the name and the value of the only member
abbrev pub only_of : Members → Option (List ℕ × Data)
only_of (member name d no_members) = Some (name, d)
only_of other = None

abbrev pub only_member : Data → Option (List ℕ × Data)
only_member d = option_and_then only_of (as_object d)

abbrev pub count_members : Members → ℕ
count_members no_members = 0
count_members (member name d ms) = suc (count_members ms)

-- how many members an object has; another value has none
abbrev pub member_count : Data → ℕ
member_count (object ms) = count_members ms
member_count other = 0

-- what a value says by a word, or by the name and the value of its only member
abbrev pub said_by : {A : Type 0} → (List ℕ → Option A) → (List ℕ → Data → Option A) → Option (List ℕ) → Option (List ℕ × Data) → Option A
said_by by_word by_member (Some word) only = by_word word
said_by by_word by_member None (Some only) = by_member only.0 only.1
said_by by_word by_member None None = None

-- ---- guards: "always", "empty", {"version":v}, {"below":n}, {"is":text}
abbrev pub guard_word : List ℕ → Option Guard
guard_word word = if bytes_eq word (codes "always") then Some Always
    else (if bytes_eq word (codes "empty") then Some IsEmpty else None)

abbrev pub guard_member : List ℕ → Data → Option Guard
guard_member name d = if bytes_eq name (codes "version") then option_map VersionIs (version_in d)
    else (if bytes_eq name (codes "below") then option_map NumberBelow (number_in d)
    else (if bytes_eq name (codes "is") then option_map TextIs (text_in d) else None))

abbrev pub guard_in : Data → Option Guard
guard_in d = said_by guard_word guard_member (as_str d) (only_member d)

-- ---- acts: "keep", "clear", {"text":text}, {"num":n}, {"add":n}
abbrev pub act_word : List ℕ → Option Act
act_word word = if bytes_eq word (codes "keep") then Some Keep
    else (if bytes_eq word (codes "clear") then Some Clear else None)

abbrev pub act_member : List ℕ → Data → Option Act
act_member name d = if bytes_eq name (codes "text") then option_map PutText (text_in d)
    else (if bytes_eq name (codes "num") then option_map PutNumber (number_in d)
    else (if bytes_eq name (codes "add") then option_map Add (number_in d) else None))

abbrev pub act_in : Data → Option Act
act_in d = said_by act_word act_member (as_str d) (only_member d)

-- ---- clauses: an object with exactly the keys "guard" and "act"
abbrev pub clause_with : Option Guard → Option Act → Option Clause
clause_with (Some guard) (Some act) = Some (record { guard = guard; act = act })
clause_with (Some guard) None = None
clause_with None act = None

abbrev pub clause_in : Data → Option Clause
clause_in d = if member_count d == 2
    then clause_with (option_and_then guard_in (get (codes "guard") d)) (option_and_then act_in (get (codes "act") d))
    else None

-- one more clause in front, where both are there
abbrev pub with_first : Option Clause → Option (List Clause) → Option (List Clause)
with_first (Some clause) (Some clauses) = Some (clause ∷ clauses)
with_first (Some clause) None = None
with_first None clauses = None

-- the clauses that the items of an array are, where each is one
abbrev pub clauses_in : Items → Option (List Clause)
clauses_in no_items = Some []
clauses_in (item d ds) = with_first (clause_in d) (clauses_in ds)

-- ---- programs: an array of 1 to 8 clauses
abbrev pub if_program : List Clause → Option (List Clause)
if_program clauses = if nat_le 1 (length clauses) && nat_le (length clauses) MOST_CLAUSES then Some clauses else None

abbrev pub program_in : Data → Option (List Clause)
program_in d = option_and_then if_program (option_and_then clauses_in (as_array d))

-- the program that a body spells; none where it is no JSON in UTF-8, or the JSON of no program
abbrev pub program_of_body : List ℕ → Option (List Clause)
program_of_body body = if is_utf8 body then option_and_then program_in (read body) else None
