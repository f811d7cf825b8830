-- What the numbers and texts of programs and states can be.
use Rattle.std.specs.Prelude.{ℕ, ◌^◌, ◌<◌, List, All, FitsSigned}
use Rattle.std.specs.Int.{w64}
use Rattle.cas_change.specs.Text.{IsText}
use Rattle.cas_change.specs.declared.program.Guard.{Guard}
use Rattle.cas_change.specs.declared.program.Guard.TheVariants.{Always, IsEmpty, VersionIs, NumberBelow, TextIs}
use Rattle.cas_change.specs.declared.program.Act.{Act}
use Rattle.cas_change.specs.declared.program.Act.TheVariants.{Keep, PutText, PutNumber, Add, Clear}
use Rattle.cas_change.specs.declared.program.Clause.{Clause}
use Rattle.cas_change.specs.declared.state.Body.{Body}
use Rattle.cas_change.specs.declared.state.Body.TheVariants.{Number, Text}
use Rattle.cas_change.specs.declared.state.State.{State}
use Rattle.cas_change.specs.declared.state.State.TheVariants.{Empty, Held}

-- at most 4,000 bytes
abbrev pub TextFits : List ℕ → Type 0
TextFits bytes = IsText bytes × All (λ byte. byte < 256) bytes

abbrev pub GuardFits : Guard → Type 0
GuardFits Always = Unit {0}
GuardFits IsEmpty = Unit {0}
GuardFits (VersionIs version) = version < 2 ^ 64
GuardFits (NumberBelow number) = FitsSigned w64 number
GuardFits (TextIs bytes) = TextFits bytes

abbrev pub ActFits : Act → Type 0
ActFits Keep = Unit {0}
ActFits (PutText bytes) = TextFits bytes
ActFits (PutNumber number) = FitsSigned w64 number
ActFits (Add number) = FitsSigned w64 number
ActFits Clear = Unit {0}

abbrev pub ClauseFits : Clause → Type 0
ClauseFits clause = GuardFits clause.guard × ActFits clause.act

abbrev pub BodyFits : Body → Type 0
BodyFits (Number number) = FitsSigned w64 number
BodyFits (Text bytes) = TextFits bytes

abbrev pub StateFits : State → Type 0
StateFits Empty = Unit {0}
StateFits (Held version body) = (version < 2 ^ 64) × BodyFits body
