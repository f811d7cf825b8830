use Rattle.std.proofs.Common.{refl, ap}
use Rattle.std.specs.Map.{lookup}
use Rattle.cas_record.specs.Kept.Tables.{same_spot, same_call}
use Rattle.cas_record.proofs.Kept.Rows.{no_rows}
use Rattle.cas_record.proofs.tables.Tables.new.Goals as goal

pub returns : goal.returns
returns c = record {
  rows = no_rows c.new.result.items c.new.ensures.items;
  links = record {
    held = λ key ballot home is. absurd cc;
    fresh = λ home ballot past. ap (lookup (same_spot (home, ballot))) c.new-2.ensures.empty;
  };
  openings = record {
    held = λ key ballot home is. absurd cc;
    fresh = λ home ballot past. ap (lookup (same_spot (home, ballot))) c.new-3.ensures.empty;
  };
  calls = λ caller call. ap (lookup (same_call (caller, call))) c.new-4.ensures.empty;
  calls_began = refl;
}
