-- The bytes that name the kinds of requests and of replies, format 2, and which replies a request may get.
use Rattle.std.specs.Prelude.{ℕ, Bool, true, false, nat_eq, if◌then◌else◌, List, [], ◌∷◌, Option, Some, None}
use Rattle.cas_slot.specs.declared.message.Phase.{Phase}
use Rattle.cas_slot.specs.declared.message.Phase.TheVariants as phase
use Rattle.cas_slot.specs.declared.message.Tell.{Tell}
use Rattle.cas_slot.specs.declared.message.Tell.TheVariants as tell
use Rattle.cas_wire.specs.declared.kinds.TellKind.{TellKind}
use Rattle.cas_wire.specs.declared.kinds.TellKind.TheVariants as kind

-- what a byte names in a table
abbrev pub named : {A : Type 0} → List (ℕ × A) → ℕ → Option A
named [] byte = None
named (entry ∷ entries) byte = if nat_eq byte entry.0 then Some entry.1 else named entries byte

abbrev pub phases : List (ℕ × Phase)
phases = (0x01, phase.Prepare) ∷ (0x02, phase.Accept) ∷ (0x03, phase.Ages) ∷ (0x04, phase.Remove) ∷ (0x05, phase.List) ∷ (0x06, phase.Probe) ∷ []

-- the byte of a kind of request
abbrev pub phase_byte : Phase → ℕ
phase_byte phase.Prepare = 0x01
phase_byte phase.Accept = 0x02
phase_byte phase.Ages = 0x03
phase_byte phase.Remove = 0x04
phase_byte phase.List = 0x05
phase_byte phase.Probe = 0x06

abbrev pub kinds : List (ℕ × TellKind)
kinds =
    (0x81, kind.Promised) ∷ (0x82, kind.Accepted) ∷ (0x83, kind.Met) ∷ (0x84, kind.Aged) ∷ (0x85, kind.Full)
    ∷ (0x86, kind.AgesSet) ∷ (0x87, kind.Removed) ∷ (0x88, kind.Kept) ∷ (0x89, kind.Listed) ∷ (0x8A, kind.Probed) ∷ []

-- the byte of a kind of reply
abbrev pub kind_byte : TellKind → ℕ
kind_byte kind.Promised = 0x81
kind_byte kind.Accepted = 0x82
kind_byte kind.Met = 0x83
kind_byte kind.Aged = 0x84
kind_byte kind.Full = 0x85
kind_byte kind.AgesSet = 0x86
kind_byte kind.Removed = 0x87
kind_byte kind.Kept = 0x88
kind_byte kind.Listed = 0x89
kind_byte kind.Probed = 0x8A

-- the kind of a reply
abbrev pub kind_of : Tell → TellKind
kind_of (tell.Promised accepted) = kind.Promised
kind_of tell.Accepted = kind.Accepted
kind_of (tell.Met ballot) = kind.Met
kind_of (tell.Aged least) = kind.Aged
kind_of tell.Full = kind.Full
kind_of tell.AgesSet = kind.AgesSet
kind_of tell.Removed = kind.Removed
kind_of tell.Kept = kind.Kept
kind_of (tell.Listed after keys more) = kind.Listed
kind_of (tell.Probed promise accepted) = kind.Probed

-- whether a request of this kind may get a reply of that kind
abbrev pub may_get : Phase → TellKind → Bool
may_get phase.Prepare kind.Promised = true
may_get phase.Accept kind.Accepted = true
may_get phase.Prepare kind.Met = true
may_get phase.Accept kind.Met = true
may_get asked kind.Aged = true
may_get phase.Prepare kind.Full = true
may_get phase.Accept kind.Full = true
may_get phase.Ages kind.AgesSet = true
may_get phase.Remove kind.Removed = true
may_get phase.Remove kind.Kept = true
may_get phase.List kind.Listed = true
may_get phase.Probe kind.Probed = true
may_get asked told = false

-- the byte of a yes or a no
abbrev pub flags : List (ℕ × Bool)
flags = (0, false) ∷ (1, true) ∷ []

abbrev pub flag_byte : Bool → ℕ
flag_byte true = 1
flag_byte false = 0
