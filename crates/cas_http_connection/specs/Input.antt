-- Which requests bytes spell, and what a source gave.
use Rattle.std.specs.Prelude.{◌≡◌, ℕ, suc, Bool, false, ◌||◌, ◌==◌, List, [], ◌∷◌, ◌++◌, length, drop, Option, Some, None, Result, Ok, Err}
use Rattle.std.specs.Io.KnownBytes.{Consumes, IsAtEnd}
use Rattle.cas_http.specs.declared.request.Spelled.{Spelled}
use Rattle.cas_http.specs.Requests.{BeginsWith}
use Rattle.cas_lines.specs.Source.{Taken, Bytes, End, Fault}
use Rattle.cas_http_connection.specs.declared.connection.TheConstants.{MOST_REQUESTS}
use Rattle.cas_http_connection.specs.declared.fault.ConnectionFault.{ConnectionFault}
use Rattle.cas_http_connection.specs.declared.fault.ConnectionFault.TheVariants as fault

-- ---- requests
-- behind so many others the connection closes behind this request, since that asks for it, or is the last that may be
abbrev pub is_last : ℕ → Spelled → Bool
is_last before asked = asked.last || (suc before == MOST_REQUESTS)

-- the bytes spell these requests, one behind another, and then these bytes are left. The connection closes behind the last of them, or not;
-- behind none of the others it closes
pub data SpellsRequests (bytes : List ℕ) : List Spelled → Bool → List ℕ → Type 0 where
  spells_none : SpellsRequests bytes [] false bytes
  spells_one_more : {requests : List Spelled} {rest : List ℕ} {asked : Spelled} → SpellsRequests bytes requests false rest → BeginsWith rest (Some asked) → SpellsRequests bytes (requests ++ asked ∷ []) (is_last (length requests) asked) (drop asked.length rest)

-- it is open what comes next: behind no request the connection closes, and what follows them is no whole request yet
abbrev pub IsOpen : List ℕ → Type 0
IsOpen bytes = (requests : List Spelled) × (rest : List ℕ) × SpellsRequests bytes requests false rest × BeginsWith rest None

-- ---- what a source gave
-- by its calls a source gave these bytes, and was asked only where this held of the bytes before
pub data Gave {S : Type 0} (gives : S → Taken → S → Type 0) (May : List ℕ → Type 0) (old : S) : List ℕ → S → Type 0 where
  gave_nothing : Gave gives May old [] old
  gave_more : {bytes piece : List ℕ} {mid new : S} → Gave gives May old bytes mid → May bytes → gives mid (Bytes piece) new → Gave gives May old (bytes ++ piece) new

-- and then a call told the end or a fault. None: no call was made
abbrev pub Stops : {S : Type 0} → (S → Taken → S → Type 0) → S → Option Taken → S → Type 0
Stops gives mid None new = new ≡ mid
Stops gives mid (Some last) new = gives mid last new

-- ---- readers
-- What a reader tells by the bytes before it and by what stopped its source, and which bytes it holds then. A request is taken away; where none is
-- whole yet, the input ended or the source failed.
abbrev pub Tells : List ℕ → Option Taken → Result (Option Spelled) ConnectionFault → List ℕ → Type 0
Tells bytes stop (Ok (Some asked)) rest = BeginsWith bytes (Some asked) × (stop ≡ None) × (rest ≡ drop asked.length bytes)
Tells bytes stop (Ok None) rest = BeginsWith bytes None × (stop ≡ Some End) × (rest ≡ bytes)
Tells bytes stop (Err fault.ReadFault) rest = BeginsWith bytes None × (stop ≡ Some Fault) × (rest ≡ bytes)
Tells bytes stop (Err fault.NoMemory) rest = (stop ≡ None) × (rest ≡ bytes)
Tells bytes stop (Err other) rest = ⊥

-- What a reader held and what its source gave, and what it tells of that. The source was asked only while no whole request was there.
pub record HearsRequest {S : Type 0} (gives : S → Taken → S → Type 0) (result : Result (Option Spelled) ConnectionFault) (old new : S) (input left : Option (List ℕ)) (held rest : List ℕ) : Type 0 where
  pub more : List ℕ
  pub mid : S
  pub gave : Gave gives (λ bytes. BeginsWith (held ++ bytes) None) old more mid
  pub stop : Option Taken
  pub stops : Stops gives mid stop new
  pub taken : Consumes input left more
  pub at_end : stop ≡ Some End → IsAtEnd left
  pub tells : Tells (held ++ more) stop result rest
