-- What a reader of the code says.
use Rattle.std.specs.Prelude.{◌≡◌, ℕ, ◌+◌, ◌-◌, ◌<◌, ◌≤◌, List, ◌++◌, length, take, drop, Result, Ok, Err}
use Rattle.cas_wire.specs.Reading.{Reading}
use Rattle.cas_wire.specs.declared.parts.Part.{Part}
use Rattle.cas_wire.specs.declared.parts.Part.TheVariants as part
use Rattle.cas_wire.specs.declared.reading.ReadError.{ReadError}
use Rattle.cas_wire.specs.declared.reading.ReadError.TheVariants.{NoMemory, Wrong}

-- reading fails there, unless memory ran out
abbrev pub Fails : {A : Type 0} → ReadError → Reading A → Type 0
Fails NoMemory reading = Unit {0}
Fails (Wrong left) reading = reading ≡ Err left

-- what a function returned, seen by view, is what reading gives, unless memory ran out
abbrev pub Gives : {X A : Type 0} → (X → A × List ℕ) → Result X ReadError → Reading A → Type 0
Gives view (Ok x) reading = reading ≡ Ok (view x)
Gives view (Err e) reading = Fails e reading

-- a part of these bytes is what reading gives
abbrev pub IsPart : {A : Type 0} → Reading A → List ℕ → Part A → Type 0
IsPart reading bytes (part.Read value used) = (used ≤ length bytes) × (reading ≡ Ok (value, drop used bytes))
IsPart reading bytes (part.Wrong at) = (at ≤ length bytes) × (reading ≡ Err (length bytes - at))

-- a part of these bytes is the value that their front spells, or no front of them spells one
abbrev pub IsSpelledPart : {A : Type 0} → (A → List ℕ) → (A → Type 0) → List ℕ → Part A → Type 0
IsSpelledPart spelling Fits bytes (part.Read value used) = Fits value × (used ≤ length bytes) × (take used bytes ≡ spelling value)
IsSpelledPart {A} spelling Fits bytes (part.Wrong at) = (at ≤ length bytes) × ((value : A) (rest : List ℕ) → Fits value → bytes ≡ spelling value ++ rest → ⊥)

-- some spelling begins with the bytes before this place, and none with the byte at it too, where there is one
pub record IsFirstWrong {A : Type 0} (spelling : A → List ℕ) (Fits : A → Type 0) (bytes : List ℕ) (at : ℕ) : Type 0 where
  pub before : (value : A) × (rest : List ℕ) × Fits value × (spelling value ≡ take at bytes ++ rest)
  pub here : at < length bytes → (value : A) (rest : List ℕ) → Fits value → spelling value ≡ take (at + 1) bytes ++ rest → ⊥

-- the place of a wrong part is the first that is wrong
abbrev pub StopsAtFirst : {A : Type 0} → (A → List ℕ) → (A → Type 0) → List ℕ → Part A → Type 0
StopsAtFirst spelling Fits bytes (part.Read value used) = Unit {0}
StopsAtFirst spelling Fits bytes (part.Wrong at) = IsFirstWrong spelling Fits bytes at
