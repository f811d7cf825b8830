-- What the steps of a reader of lines ask of a source.
use Rattle.std.specs.Prelude.{◌≡◌, ◌↔◌, ℕ, List, ◌++◌, Option, Some, None, Result, Ok, Err}
use Rattle.cas_lines.specs.Lines.{Heard}
use Rattle.cas_lines.specs.Source.{Taken, End, Fault}
use Rattle.cas_lines.specs.declared.lines.LineFault.{LineFault}
use Rattle.cas_lines.specs.declared.lines.LineFault.TheVariants.{ReadFault}
use Rattle.cas_lines.specs.declared.lines.Supply.{Supply}
use Rattle.cas_lines.specs.declared.lines.Supply.TheVariants as supply

-- what stopped the source, where what is held was filled up
abbrev pub StopsFilling : Result Supply LineFault → Option Taken → Type 0
StopsFilling (Ok supply.Line) stop = stop ≡ None
StopsFilling (Ok supply.Beyond) stop = stop ≡ None
StopsFilling (Ok supply.End) stop = stop ≡ Some End
StopsFilling (Err fault) stop = stop ≡ Some Fault ↔ fault ≡ ReadFault

-- what stopped the source, where the input should end
abbrev pub StopsAtEnd : {T : Type 0} → Result T LineFault → Option Taken → Type 0
StopsAtEnd (Ok end) stop = stop ≡ Some End
StopsAtEnd (Err fault) stop = stop ≡ Some Fault ↔ fault ≡ ReadFault

-- the bytes held grew by what a source gave, which was asked only while it was open what comes next
pub record GrowsBy {S : Type 0} (gives : S → Taken → S → Type 0) (room : ℕ) (old : List ℕ) (old_source : S) (Stops : Option Taken → Type 0) (new : List ℕ) (new_source : S) : Type 0 where
  pub more : List ℕ
  pub stop : Option Taken
  pub heard : Heard gives room old old_source more stop new_source
  pub grown : new ≡ old ++ more
  pub stops : Stops stop
