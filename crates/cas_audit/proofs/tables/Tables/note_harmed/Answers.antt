use Rattle.std.proofs.Common.{arith, refl, ap, reverse}
use Rattle.std.specs.Prelude.{◌∷◌}
use Rattle.std.proofs.lemmas.List.{length-reverse}
use Rattle.indexmap.specs.IndexMap.{get}
use Rattle.cas_record.specs.declared.mark.Mark.TheVariants.{Harmed}
use Rattle.cas_audit.specs.declared.told.Call.{Call}
use Rattle.cas_audit.specs.Tables.{same_call, same_place, no_call}
use Rattle.cas_audit.specs.Told.{call_of}
use Rattle.cas_audit.proofs.Updates.{next_or, places_kept, harmed_call, harmed_other, harms_few}
use Rattle.cas_audit.proofs.tables.Tables.note_harmed.Goals as goal

pub overflow_add-told : goal.overflow_add-told
overflow_add-told c =
    let marks = reverse c.args.marks.now in
    omega (arith, c.requires.few, length-reverse c.args.marks.now, harms_few c.args.caller c.args.call marks, ap (λ (x : Call). x.harms) (c.call_of-told.ensures marks c.requires.tables))

pub returns : goal.returns
returns c = λ down legal.
    let marks = reverse c.args.marks.now in
    let are = c.requires.tables in
    let old = c.args.self.now in
    let caller = c.args.caller in
    let call = c.args.call in
    let mark = Harmed caller call down in
    record {
      counts = are.counts;
      calls = λ c1 n1. next_or same_call (λ q. call_of q.0 q.1 (mark ∷ marks)) (λ q. call_of q.0 q.1 marks) no_call (get same_call old.calls) (get same_call c.put.new.table) (caller, call) _ c.put.ensures (λ q. are.calls q.0 q.1)
          (λ q e. harmed_call caller call down marks c.call_of-told.result (c.call_of-told.ensures marks are) q.0 q.1 e)
          (λ q e. harmed_other caller call down marks q.0 q.1 e) (c1, n1);
      rows = are.rows;
      openings = are.openings;
      floors = are.floors;
      nodes = are.nodes;
      spots = are.spots;
      settled = places_kept mark marks (get same_place old.settled) legal (λ k. refl) are.settled;
      calls_began = are.calls_began;
    }
