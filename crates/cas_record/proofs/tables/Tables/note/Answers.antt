use Rattle.std.proofs.Common.{arith}
use Rattle.cas_record.proofs.Kept.Tables.{quiet_by, quiet_next}
use Rattle.cas_record.proofs.tables.Tables.note.Goals as goal

pub returns-in_default : goal.returns-in_default
returns-in_default c =
    let other = c.in_default in
    record {
      tables = quiet_next c.args.marks.now c.args.self.now c.args.mark.now (quiet_by c.args.marks.now c.args.mark.now other.not-Begun other.not-Proposed other.not-Acked other.not-Floor) c.requires.tables;
      room = λ n room. record { rows = omega (arith, room.rows); links = omega (arith, room.links); openings = omega (arith, room.openings); calls = omega (arith, room.calls) };
    }
