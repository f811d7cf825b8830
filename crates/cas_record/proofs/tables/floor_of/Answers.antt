use Rattle.std.proofs.Common.{reverse, sym, subst}
use Rattle.cas_record.specs.Kept.Tables.{IsRowFor}
use Rattle.cas_record.proofs.Kept.Stands.{floor_of_none}
use Rattle.cas_record.proofs.tables.floor_of.Goals as goal

pub returns-in-None : goal.returns-in-None
returns-in-None c = λ key marks is. sym (floor_of_none key (reverse marks) (subst (IsRowFor key marks) c.in-None.is is))
