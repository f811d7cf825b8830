-- What a record keeps beside its marks, said of the marks. The marks are read newest first, and a place counts the marks
-- before it.
use Rattle.std.specs.Prelude.{◌≡◌, ℕ, Bool, false, not, ◌&&◌, if◌then◌else◌, List, [], ◌∷◌, length, ◌⊎◌, Option, Some, None, IsSome, slice_get}
use Rattle.std.specs.Option.{option_or, option_and_then}
use Rattle.std.specs.Ordering.{nat_cmp}
use Rattle.std.specs.declared.cmp.Ordering.TheVariants.{Less}
use Rattle.std.specs.Cmp.Lexicographic.{slice_cmp}
use Rattle.cas_ballot.specs.declared.ballot.Ballot.{Ballot}
use Rattle.cas_ballot.specs.Ballot.{greater_of}
use Rattle.cas_change.specs.declared.program.Clause.{Clause}
use Rattle.cas_change.specs.declared.state.State.{State}
use Rattle.cas_change.specs.declared.state.State.TheVariants.{Empty}
use Rattle.cas_record.specs.declared.mark.Mark.{Mark}
use Rattle.cas_record.specs.declared.mark.Mark.TheVariants.{Begun, Proposed, Acked, Floor}
use Rattle.cas_record.specs.declared.mark.Proposal.{Proposal}
use Rattle.cas_record.specs.declared.row.Row.{Row}
use Rattle.cas_record.specs.declared.row.Link.{Link}
use Rattle.cas_record.specs.Histories.Chain.{is_key, is_call, is_proposal, has_proposal, has_opening, has_calls, opens_at, link_of, keep_always, settled_of}

-- ---- keys
-- the key that a proposal, an acknowledgment or a floor names
abbrev pub named_by : Mark → Option (List ℕ)
named_by (Proposed p) = Some p.key
named_by (Acked a) = Some a.key
named_by (Floor key floor state) = Some key
named_by other = None

-- whether the mark names the key
abbrev pub names : List ℕ → Mark → Bool
names key (Proposed p) = is_key p.key key
names key (Acked a) = is_key a.key key
names key (Floor k floor state) = is_key k key
names key other = false

-- the key that the mark at a place names; these marks are read in the order in which they were made
abbrev pub key_at : List Mark → ℕ → Option (List ℕ)
key_at marks place = option_and_then named_by (slice_get marks place)

-- the place of the first mark that names the key
abbrev pub home_of : List ℕ → List Mark → Option ℕ
home_of key [] = None
home_of key (mark ∷ older) = option_or (home_of key older) (if names key mark then Some (length older) else None)

-- ---- tops and floors
-- the later of a ballot and one that may be there
abbrev pub later_of : Ballot → Option Ballot → Ballot
later_of ballot None = ballot
later_of ballot (Some other) = greater_of ballot other

-- the greatest ballot of the key that was acknowledged or made a floor
abbrev pub top_at : List ℕ → List Mark → Option Ballot
top_at key [] = None
top_at key (Acked a ∷ older) = if is_key a.key key then Some (later_of a.ballot (top_at key older)) else top_at key older
top_at key (Floor k floor state ∷ older) = if is_key k key then Some (later_of floor (top_at key older)) else top_at key older
top_at key (mark ∷ older) = top_at key older

-- the greatest floor of the key
abbrev pub floor_at : List ℕ → List Mark → Option Ballot
floor_at key [] = None
floor_at key (Floor k floor state ∷ older) = if is_key k key then Some (later_of floor (floor_at key older)) else floor_at key older
floor_at key (mark ∷ older) = floor_at key older

-- the place of the key's latest opening floor, made before any call began
abbrev pub opening_at : List ℕ → List Mark → Option ℕ
opening_at key [] = None
opening_at key (Floor k floor state ∷ older) = if is_key k key && not (has_calls older) then Some (length older) else opening_at key older
opening_at key (mark ∷ older) = opening_at key older

-- the row tells of the key what the marks tell
pub record TellsOf (key : List ℕ) (marks : List Mark) (row : Row) : Type 0 where
  pub top : row.top ≡ top_at key marks
  pub floor : row.floor ≡ floor_at key marks
  pub opening : row.opening ≡ opening_at key marks

-- the row is the key's
pub record IsRowOf (key : List ℕ) (marks : List Mark) (row : Row) : Type 0 where
  pub home : home_of key marks ≡ Some row.home
  pub tells : TellsOf key marks row

-- ---- links
-- the place of the first mark that begins the call
abbrev pub begun_at : ℕ → ℕ → List Mark → Option ℕ
begun_at caller call [] = None
begun_at caller call (Begun c n key program ∷ older) = option_or (begun_at caller call older) (if is_call caller call c n then Some (length older) else None)
begun_at caller call (mark ∷ older) = begun_at caller call older

-- the ballot, where the history up to it has an entry: the key has a proposal there, and no opening floor
abbrev pub standing_at : List ℕ → Ballot → List Mark → Option Ballot
standing_at key ballot marks = if has_proposal key ballot marks && not (has_opening key ballot marks) then Some ballot else None

-- a proposal's place, that of its call's beginning, and the ballot from whose history it goes on
abbrev pub link_by : Proposal → List Mark → Link
link_by p older = record { place = length older; begun = begun_at p.caller p.call older; from = standing_at p.key (link_of older p) older }

-- the link of the key's first proposal at the ballot
abbrev pub link_at : List ℕ → Ballot → List Mark → Option Link
link_at key ballot [] = None
link_at key ballot (Proposed p ∷ older) = option_or (link_at key ballot older) (if is_proposal key ballot p then Some (link_by p older) else None)
link_at key ballot (mark ∷ older) = link_at key ballot older

-- the link at a ballot that may be there
abbrev pub next_at : List ℕ → Option Ballot → List Mark → Option Link
next_at key from marks = option_and_then (λ ballot. link_at key ballot marks) from

-- the place of the key's first opening floor at the ballot
abbrev pub opened_at : List ℕ → Ballot → List Mark → Option ℕ
opened_at key ballot [] = None
opened_at key ballot (mark ∷ older) = option_or (opened_at key ballot older) (if opens_at key ballot mark older then Some (length older) else None)

-- ---- what is read at a place, of marks in the order in which they were made
-- the program of a mark that begins a call; one that never began changes nothing
abbrev pub program_in : Option Mark → List Clause
program_in (Some (Begun caller call key program)) = program
program_in other = keep_always

abbrev pub program_at : List Mark → Option ℕ → List Clause
program_at marks begun = program_in (option_and_then (slice_get marks) begun)

-- the state of a floor, or empty
abbrev pub state_in : Option Mark → State
state_in (Some (Floor key floor state)) = state
state_in other = Empty

abbrev pub state_at : List Mark → Option ℕ → State
state_at marks opening = state_in (option_and_then (slice_get marks) opening)

-- ---- keys in order
-- one key comes before another, in the order of their bytes
abbrev pub KeyLess : List ℕ → List ℕ → Type 0
KeyLess a b = slice_cmp nat_cmp a b ≡ Less

-- the key comes after this one, if there is one
abbrev pub IsAfter : Option (List ℕ) → List ℕ → Type 0
IsAfter None key = Unit {0}
IsAfter (Some other) key = KeyLess other key

-- the key has an entry that stands, or a floor
abbrev pub HasEntryOrFloor : List ℕ → List Mark → Type 0
HasEntryOrFloor key marks = (settled_of key marks ≡ [] → ⊥) ⊎ IsSome (floor_at key marks)
