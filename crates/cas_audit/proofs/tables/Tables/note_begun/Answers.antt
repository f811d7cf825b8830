use Rattle.std.proofs.Common.{suc, refl, ap, nat_eq}
use Rattle.std.specs.Prelude.{◌∷◌, ◌==◌}
use Rattle.indexmap.specs.IndexMap.{get}
use Rattle.cas_base.proofs.Bools.{if_false}
use Rattle.cas_record.specs.declared.mark.Mark.TheVariants.{Begun}
use Rattle.cas_record.specs.Legal.{calls_of}
use Rattle.cas_record.specs.Places.{here}
use Rattle.cas_audit.specs.declared.told.Row.{Row}
use Rattle.cas_audit.specs.Tables.{same_call, same_place, no_call}
use Rattle.cas_audit.specs.Told.{call_of}
use Rattle.cas_audit.proofs.Updates.{next_or, places_kept, begun_count, begun_call, begun_other}
use Rattle.cas_audit.proofs.tables.Tables.note_begun.Goals as goal

pub returns : goal.returns
returns c = λ marks program are place_is legal.
    let old = c.args.self.now in
    let caller = c.args.caller in
    let call = c.args.call in
    let key = c.args.key.now in
    let mark = Begun caller call key program in
    let told = c.call_of-told.ensures marks are in
    let seen = ap (λ (x : Row). x.settled) (c.row_of-seen.ensures marks are) in
    record {
      counts = next_or nat_eq (λ q. calls_of q (mark ∷ marks)) (λ q. calls_of q marks) 0 (get nat_eq old.counts) (get nat_eq c.put.new.table) caller call c.put.ensures are.counts
          (begun_count caller call key program marks (legal.numbered.begun here)) (λ q e. if_false (caller == q) (suc (calls_of q marks)) (calls_of q marks) e);
      calls = λ c1 n1. next_or same_call (λ q. call_of q.0 q.1 (mark ∷ marks)) (λ q. call_of q.0 q.1 marks) no_call (get same_call old.calls) (get same_call c.put-2.new.table) (caller, call) _ c.put-2.ensures (λ q. are.calls q.0 q.1)
          (λ q e. begun_call caller call key program marks c.call_of-told.result c.args.place c.row_of-seen.result.settled told place_is seen q.0 q.1 e)
          (λ q e. begun_other caller call key program marks q.0 q.1 e) (c1, n1);
      rows = are.rows;
      openings = are.openings;
      floors = are.floors;
      nodes = are.nodes;
      spots = are.spots;
      settled = places_kept mark marks (get same_place old.settled) legal (λ k. refl) are.settled;
      calls_began = refl;
    }
