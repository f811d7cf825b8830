use Rattle.std.proofs.Common.{◌≡◌, ◌^◌, ◌<◌, drop}
use Rattle.cas_change_text.specs.Decimal.{number_after}
use Rattle.cas_change_text.proofs.decimal.number_of.Given as goal

-- the number so far and the digits that are left write the whole number
abbrev pub invariant-loop-byte : goal.invariant-loop-byte
invariant-loop-byte l = record {
  read : number_after l.number (drop l.byte-index l.digits) ≡ number_after 0 l.digits;
  fits : l.number < 2 ^ 64;
}
