use Rattle.std.proofs.Common.{refl}
use Rattle.cas_world.proofs.Calls.Beginning.{loses_after}
use Rattle.cas_world.proofs.proposing.propose_on.Goals as goal

-- src/proposal.rt:69:1
pub returns-in-Err-clause-refused : goal.returns-in-Err-clause-refused
returns-in-Err-clause-refused g c round is =
    let rode = c.in_ok-ride.ensures.rides round is in (
      refl,
      c.in_ok-ride.ride,
      loses_after g.V.Disk.tells g.V.Disk.may_leave g.V.Disk.fault_count c.args.desk.now c.ride_on.new.desk c.end.new.self round c.in_ok-ride.ride c.in_ok-ride.ride is rode.drawn rode.desk
          c.end.ensures.desk c.end.ensures.counter c.end.ensures.kept c.end.ensures.disk c.end.ensures.still_past,
    )
