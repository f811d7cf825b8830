use Rattle.std.proofs.Common.{refl}
use Rattle.std.specs.Prelude.{◌∷◌}
use Rattle.indexmap.specs.IndexMap.{get}
use Rattle.cas_record.specs.declared.mark.Mark.TheVariants.{Ended}
use Rattle.cas_audit.specs.Tables.{same_call, same_place, no_call}
use Rattle.cas_audit.specs.Told.{call_of}
use Rattle.cas_audit.proofs.Updates.{next_or, places_kept, ended_call, ended_other}
use Rattle.cas_audit.proofs.tables.Tables.note_ended.Goals as goal

pub returns : goal.returns
returns c = λ marks rounds answer are legal.
    let old = c.args.self.now in
    let caller = c.args.caller in
    let call = c.args.call in
    let mark = Ended caller call rounds answer in
    record {
      counts = are.counts;
      calls = λ c1 n1. next_or same_call (λ q. call_of q.0 q.1 (mark ∷ marks)) (λ q. call_of q.0 q.1 marks) no_call (get same_call old.calls) (get same_call c.put.new.table) (caller, call) _ c.put.ensures (λ q. are.calls q.0 q.1)
          (λ q e. ended_call caller call rounds answer marks c.call_of-told.result (c.call_of-told.ensures marks are) q.0 q.1 e)
          (λ q e. ended_other caller call rounds answer marks q.0 q.1 e) (c1, n1);
      rows = are.rows;
      openings = are.openings;
      floors = are.floors;
      nodes = are.nodes;
      spots = are.spots;
      settled = places_kept mark marks (get same_place old.settled) legal (λ k. refl) are.settled;
      calls_began = are.calls_began;
    }
