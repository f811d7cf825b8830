-- What the tables of a record are to its marks. The marks are read in the order in which they were made.
use Rattle.std.specs.Prelude.{◌≡◌, ℕ, ◌+◌, ◌*◌, ◌<◌, ◌≤◌, Bool, ◌&&◌, ◌==◌, List, [], length, reverse, Option, Some, None, Result, Ok, Err, vec_len, vec_capacity, slice_get, slice_index_or}
use Rattle.std.specs.Ordering.{nat_cmp}
use Rattle.std.specs.declared.cmp.Ordering.{Ordering}
use Rattle.std.specs.declared.cmp.Ordering.TheVariants.{Less}
use Rattle.std.specs.Option.{option_map_or}
use Rattle.std.specs.Cmp.Lexicographic.{slice_cmp}
use Rattle.cas_ballot.specs.declared.ballot.Ballot.{Ballot}
use Rattle.cas_record.specs.declared.mark.Mark.{Mark}
use Rattle.cas_record.specs.declared.mark.Mark.TheVariants.{Proposed}
use Rattle.cas_record.specs.declared.mark.Proposal.{Proposal}
use Rattle.cas_record.specs.Places.{At}
use Rattle.cas_record.specs.declared.row.Row.{Row}
use Rattle.cas_record.specs.declared.row.Link.{Link}
use Rattle.cas_record.specs.declared.tables.Tables.{Tables}
use Rattle.indexmap.specs.IndexMap.{get, spare}
use Rattle.cas_record.specs.Histories.Chain.{has_calls}
use Rattle.cas_record.specs.Kept.Index.{key_at, home_of, IsAfter, HasEntryOrFloor, IsRowOf, link_by, link_at, opened_at, begun_at, KeyLess}

-- whether two places by home and ballot are one
abbrev pub same_spot : (ℕ × Ballot) → (ℕ × Ballot) → Bool
same_spot a b = (a.0 == b.0) && ((a.1.counter == b.1.counter) && (a.1.proposer == b.1.proposer))

-- whether two calls are one
abbrev pub same_call : (ℕ × ℕ) → (ℕ × ℕ) → Bool
same_call a b = (a.0 == b.0) && (a.1 == b.1)

-- the place that was found, or where it would be
abbrev pub place_in : Result ℕ ℕ → ℕ
place_in (Ok at) = at
place_in (Err at) = at

-- the row is the key's, or none where no mark names the key
abbrev pub IsRowFor : List ℕ → List Mark → Option Row → Type 0
IsRowFor key marks None = home_of key (reverse marks) ≡ None
IsRowFor key marks (Some row) = IsRowOf key (reverse marks) row

-- the row is that of the key at the place
abbrev pub IsRowAt : List (List ℕ) → List Row → List Mark → ℕ → Type 0
IsRowAt keys rows marks at = (row : Row) → slice_get rows at ≡ Some row → IsRowOf (slice_index_or keys at []) (reverse marks) row

-- the rows are those of these keys, which rise and are all that the marks name
pub record AreRowsOf (keys : List (List ℕ)) (rows : List Row) (marks : List Mark) : Type 0 where
  pub same_length : length keys ≡ length rows
  pub rise : (i j : ℕ) → i < j → j < length keys → KeyLess (slice_index_or keys i []) (slice_index_or keys j [])
  pub each : (at : ℕ) → IsRowAt keys rows marks at
  pub complete : (key : List ℕ) (home : ℕ) → home_of key (reverse marks) ≡ Some home → (at : ℕ) × ((at < length keys) × (slice_index_or keys at [] ≡ key))

-- the rows are those of the marks
pub record HasRows (rows : List Row) (marks : List Mark) : Type 0 where
  pub keys : List (List ℕ)
  pub are : AreRowsOf keys rows marks

-- a table by home and ballot tells for each key what the function does, which reads the marks newest first
pub record TellsBySpot {V : Type 0} (told : ℕ × Ballot → Option V) (of : List ℕ → Ballot → List Mark → Option V) (marks : List Mark) : Type 0 where
  pub held : (key : List ℕ) (ballot : Ballot) (home : ℕ) → home_of key marks ≡ Some home → told (home, ballot) ≡ of key ballot marks
  pub fresh : (home : ℕ) (ballot : Ballot) → length marks ≤ home → told (home, ballot) ≡ None

-- the tables are those of the marks
pub record IsTablesOf (tables : Tables) (marks : List Mark) : Type 0 where
  pub rows : HasRows tables.rows.items marks
  pub links : TellsBySpot (get same_spot tables.links) link_at (reverse marks)
  pub openings : TellsBySpot (get same_spot tables.openings) opened_at (reverse marks)
  pub calls : (caller call : ℕ) → get same_call tables.calls (caller, call) ≡ begun_at caller call (reverse marks)
  pub calls_began : tables.has_calls ≡ has_calls (reverse marks)

-- so many further marks find room in each table
pub record HasRoomFor (marks : ℕ) (tables : Tables) : Type 0 where
  pub rows : vec_len tables.rows + marks ≤ vec_capacity tables.rows
  pub links : 2 * marks ≤ spare tables.links
  pub openings : 2 * marks ≤ spare tables.openings
  pub calls : 2 * marks ≤ spare tables.calls

-- how the key of a row compares with another
abbrev pub row_cmp : List Mark → List ℕ → Row → Ordering
row_cmp marks key row = option_map_or (λ own. slice_cmp nat_cmp own key) (key_at marks row.home) Less

-- the key has no row, and would have it at this place: rows before it are of smaller keys, and those from it on of greater ones
pub record IsGapFor (key : List ℕ) (rows : List Row) (marks : List Mark) (at : ℕ) : Type 0 where
  pub within : at ≤ length rows
  pub homeless : home_of key (reverse marks) ≡ None
  pub smaller : (j : ℕ) (row : Row) (other : List ℕ) → j < at → slice_get rows j ≡ Some row → IsRowOf other (reverse marks) row → KeyLess other key
  pub greater : (j : ℕ) (row : Row) (other : List ℕ) → at ≤ j → slice_get rows j ≡ Some row → IsRowOf other (reverse marks) row → KeyLess key other

-- the key's row is at this place
pub record IsPlaceFor (key : List ℕ) (rows : List Row) (marks : List Mark) (at : ℕ) : Type 0 where
  pub within : at < length rows
  pub own : (row : Row) → slice_get rows at ≡ Some row → IsRowOf key (reverse marks) row

-- the link is that of a proposal among the marks
pub record IsLinkIn (marks : List Mark) (link : Link) : Type 0 where
  pub proposal : Proposal
  pub older : List Mark
  pub at : At (Proposed proposal) older (reverse marks)
  pub is : link ≡ link_by proposal older

-- what a search for the key found: its row, or the place where that would be
abbrev pub IsSearched : List ℕ → List Row → List Mark → Result ℕ ℕ → Type 0
IsSearched key rows marks (Ok at) = IsPlaceFor key rows marks at
IsSearched key rows marks (Err at) = IsGapFor key rows marks at

-- ---- keys in order
-- rows before this place are of keys that do not come after the key, if there is one, and those from it on of keys that do
pub record IsFirstAfter (after : Option (List ℕ)) (rows : List Row) (marks : List Mark) (from : ℕ) : Type 0 where
  pub before : (j : ℕ) (row : Row) (key : List ℕ) → j < from → slice_get rows j ≡ Some row → IsRowOf key (reverse marks) row → IsAfter after key → ⊥
  pub beyond : (j : ℕ) (row : Row) (key : List ℕ) → from ≤ j → slice_get rows j ≡ Some row → IsRowOf key (reverse marks) row → IsAfter after key

-- no row between the places is of a key with an entry or a floor
abbrev pub AreUnlisted : List Row → List Mark → ℕ → ℕ → Type 0
AreUnlisted rows marks from to = (j : ℕ) (row : Row) (key : List ℕ) → from ≤ j → j < to → slice_get rows j ≡ Some row → IsRowOf key (reverse marks) row → HasEntryOrFloor key (reverse marks) → ⊥

-- the place is that of the first row from the one on whose key has an entry or a floor
pub record IsNextListed (rows : List Row) (marks : List Mark) (from at : ℕ) : Type 0 where
  pub low : from ≤ at
  pub within : at < length rows
  pub unlisted : AreUnlisted rows marks from at
  pub listed : (row : Row) (key : List ℕ) → slice_get rows at ≡ Some row → IsRowOf key (reverse marks) row → HasEntryOrFloor key (reverse marks)
