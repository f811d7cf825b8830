-- What the cells in memory say of the frames on a disk.
use Rattle.std.specs.Prelude.{◌≡◌, ◌≢◌, ◌⊎◌, ℕ, ◌+◌, ◌-◌, ◌*◌, ◌/◌, ◌%◌, ◌<◌, ◌≤◌, false, List, [], ◌∷◌, ◌++◌, length, drop, slice_index, slice_get, replicate, Option, Some, None, MatchOption, MatchBool, is_some}
use Rattle.std.specs.Option.{option_map}
use Rattle.cas_cells.specs.Format.{frame_at, half_size, next, IsPayload, count_told, wrong_at, payload_at}
use Rattle.cas_disk.specs.Disk.{Only}
use Rattle.cas_cells.specs.Torn.{Others}
use Rattle.cas_cells.specs.declared.cell.Side.{Side}
use Rattle.cas_cells.specs.declared.cell.Side.TheVariants.{First, Second}
use Rattle.cas_cells.specs.declared.cell.Cell.{Cell}

-- the bytes of a frame of this size behind its gate
abbrev pub tail_of : ℕ → ℕ → List ℕ → List ℕ
tail_of size number payload = number ∷ length payload / 256 ∷ length payload % 256 ∷ payload ++ replicate (size - (length payload + 4)) 0

-- an open frame with this number and payload
pub record IsFrame (size number : ℕ) (payload frame : List ℕ) : Type 0 where
  pub bytes : frame ≡ 1 ∷ tail_of size number payload
  pub small : number < 3
  pub fits : IsPayload size payload

-- a whole frame that is closed
pub record IsShut (size : ℕ) (frame : List ℕ) : Type 0 where
  pub whole : length frame ≡ size
  pub closed : slice_index frame 0 ≢ 1

-- an open frame whose number this one follows
abbrev pub IsOlder : ℕ → ℕ → List ℕ → Type 0
IsOlder size number frame = (before : ℕ) × (payload : List ℕ) × (next before ≡ number) × IsFrame size before payload frame

-- the payload that a cell in memory holds
abbrev pub payload_held : Cell → Option (List ℕ)
payload_held cell = option_map (λ v. v.items) cell.payload

-- that payload fits a frame of this size
abbrev pub HoldsWithin : ℕ → Cell → Type 0
HoldsWithin size cell = MatchOption (payload_held cell) (Unit {0}) (λ p. IsPayload size p)

-- a blank cell is written in its first frame next, with number 0
pub record IsBlank (cell : Cell) : Type 0 where
  pub side : cell.side ≡ Second
  pub number : cell.number ≡ 2
  pub spare : cell.spare_open ≡ false

-- and of a new one nothing is known of the bytes of that frame
pub record IsNew (cell : Cell) : Type 0 where
  pub blank : IsBlank cell
  pub used : 4608 ≤ cell.spare_used

-- behind the gate of a frame and so many bytes there are zeros alone
abbrev pub IsZeroBehind : ℕ → List ℕ → Type 0
IsZeroBehind n frame = drop (n + 1) frame ≡ replicate (length frame - (n + 1)) 0

-- how many bytes behind its gate may be other than zero: of a frame with that payload, and of a closed one, in which any may stand
abbrev pub used_by : Option (List ℕ) → ℕ
used_by None = 4608
used_by (Some payload) = length payload + 3

-- the cell in memory says what stands in its current frame and in its spare, which have this size, and how much of the spare may be
-- other than zero
pub record FramesHeld (size : ℕ) (cell : Cell) (current spare : List ℕ) : Type 0 where
  pub in_current : MatchOption (payload_held cell) (IsBlank cell × IsShut size current) (λ p. IsFrame size cell.number p current)
  pub in_spare : MatchBool cell.spare_open (IsOlder size cell.number spare) (IsShut size spare)
  pub in_rest : IsZeroBehind cell.spare_used spare

abbrev pub other : Side → Side
other First = Second
other Second = First

-- the number of the frame of a cell on this side
abbrev pub frame_of : ℕ → Side → ℕ
frame_of i First = 2 * i
frame_of i Second = 2 * i + 1

-- where the payload of the frame on this side begins in its cell
abbrev pub place_on : ℕ → Side → ℕ
place_on size First = 4
place_on size Second = size + 4

-- of two frames, the one on this side
abbrev pub on : Side → List ℕ → List ℕ → List ℕ
on First first second = first
on Second first second = second

-- the cell in memory says what stands in its two frames
abbrev pub HeldIn : ℕ → List ℕ → List ℕ → Cell → Type 0
HeldIn size first second cell = FramesHeld size cell (on cell.side first second) (on (other cell.side) first second)

-- the cell in memory holds cell i of a disk
abbrev pub CellHeld : ℕ → List ℕ → ℕ → Cell → Type 0
CellHeld narrow disk i cell = FramesHeld (half_size narrow i) cell (frame_at narrow disk (frame_of i cell.side)) (frame_at narrow disk (frame_of i (other cell.side)))

-- each cell in memory holds its cell of a disk
abbrev pub OnDisk : ℕ → List ℕ → List Cell → Type 0
OnDisk narrow disk cells = (i : ℕ) (cell : Cell) → slice_get cells i ≡ Some cell → CellHeld narrow disk i cell

-- cell 0 is not blank, and as many cells stand behind it as it tells
abbrev pub IsRow : List (Option (List ℕ)) → Type 0
IsRow [] = ⊥
IsRow (None ∷ cells) = ⊥
IsRow (Some head ∷ cells) = length cells ≡ count_told head

-- nothing is wrong in cell i of a disk, and this is its payload
pub record SoundAt (narrow i : ℕ) (payload : Option (List ℕ)) (disk : List ℕ) : Type 0 where
  pub whole : wrong_at narrow disk i ≡ 2 * half_size narrow i
  pub same : payload_at narrow disk i ≡ payload

-- frame k changed, and cell i has this payload
pub record LeavesPayload (narrow k : ℕ) (old : List ℕ) (i : ℕ) (payload : Option (List ℕ)) (c : List ℕ) : Type 0 where
  pub others : Others narrow k old c
  pub here : SoundAt narrow i payload c

-- frame k changed, and cell i has its old payload or this one
pub record MayOpen (narrow k : ℕ) (old : List ℕ) (i : ℕ) (before : Option (List ℕ)) (payload c : List ℕ) : Type 0 where
  pub others : Others narrow k old c
  pub here : SoundAt narrow i before c ⊎ SoundAt narrow i (Some payload) c

-- what a cell says once its spare is closed
pub record Shuts (cell cell' : Cell) : Type 0 where
  pub held : payload_held cell' ≡ payload_held cell
  pub side : cell'.side ≡ cell.side
  pub number : cell'.number ≡ cell.number
  pub spare : cell'.spare_open ≡ false
  pub used : cell'.spare_used ≡ cell.spare_used

-- the cell says the same of its current frame and of the spare's gate
pub record IsAsBefore (cell cell' : Cell) : Type 0 where
  pub held : payload_held cell' ≡ payload_held cell
  pub side : cell'.side ≡ cell.side
  pub number : cell'.number ≡ cell.number
  pub spare : cell'.spare_open ≡ cell.spare_open

-- what a cell says once a payload was written into its closed spare
pub record Writes (payload : List ℕ) (cell cell' : Cell) : Type 0 where
  pub same : IsAsBefore cell cell'
  pub used : cell'.spare_used ≡ length payload + 3

-- what a cell says once its spare is open: the spare is current
pub record OpensSpare (payload : List ℕ) (cell cell' : Cell) : Type 0 where
  pub held : payload_held cell' ≡ Some payload
  pub side : cell'.side ≡ other cell.side
  pub number : cell'.number ≡ next cell.number
  pub spare : cell'.spare_open ≡ is_some cell.payload
  pub used : cell'.spare_used ≡ used_by (payload_held cell)

-- this payload stands in the spare of cell i, under the number that follows the current one
abbrev pub HoldsTail : ℕ → List ℕ → ℕ → Cell → List ℕ → Type 0
HoldsTail narrow disk i cell payload = drop 1 (frame_at narrow disk (frame_of i (other cell.side))) ≡ tail_of (half_size narrow i) (next cell.number) payload

-- after a step that found no memory: the cell in memory holds cell i of the new content, which a crash leaves, and only the spare changed
pub record Still (narrow : ℕ) (old new : List ℕ) (may_leave : List ℕ → Type 0) (i : ℕ) (before now : Cell) : Type 0 where
  pub held : CellHeld narrow new i now
  pub others : Others narrow (frame_of i (other before.side)) old new
  pub durable : Only new may_leave
