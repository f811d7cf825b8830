use Rattle.std.proofs.Common.{◌≡◌, reverse, length, sym, ap, subst, ◌∙◌}
use Rattle.std.specs.Prelude.{◌∷◌, Some, if◌then◌else◌}
use Rattle.indexmap.specs.IndexMap.{get}
use Rattle.cas_record.specs.declared.mark.Mark.TheVariants.{Proposed}
use Rattle.cas_audit.specs.Tables.{same_call, same_spot, same_place, no_call}
use Rattle.cas_audit.specs.Told.{call_of, node_of}
use Rattle.cas_audit.proofs.Updates.{next_or, next_some, places_kept, proposed_call, proposed_other, proposed_node, no_proposed_node, proposed_row, proposed_settled}
use Rattle.cas_audit.proofs.tables.Tables.note_proposed.Goals as goal

pub returns-clause-ok : goal.returns-clause-ok
returns-clause-ok c =
    let marks = reverse c.args.marks.now in
    let are = c.requires.audit.are in
    let old = c.args.self.now in
    let p = c.args.p.now in
    let mark = Proposed p in
    let node = c.in_ok-node.node in
    let put = subst (λ k. (q : _) → get same_spot c.put-2.new.table q ≡ (if same_spot (k, p.ballot) q then Some node else get same_spot old.nodes q)) c.in_ok-copy.ensures c.put-2.ensures in
    record {
      counts = are.counts;
      calls = λ c1 n1. next_or same_call (λ q. call_of q.0 q.1 (mark ∷ marks)) (λ q. call_of q.0 q.1 marks) no_call (get same_call old.calls) (get same_call c.put.new.table) (p.caller, p.call) _ c.put.ensures (λ q. are.calls q.0 q.1)
          (λ q e. proposed_call p marks c.call_of-told.result (c.call_of-told.ensures marks are) q.0 q.1 e)
          (λ q e. proposed_other p marks q.0 q.1 e) (c1, n1);
      rows = λ key. are.rows key ∙ sym (proposed_row p marks c.requires.audit.legal key);
      openings = are.openings;
      floors = are.floors;
      nodes = λ k b. next_some same_spot (λ q. node_of q.0 q.1 (mark ∷ marks)) (λ q. node_of q.0 q.1 marks) (get same_spot old.nodes) (get same_spot c.put-2.new.table) (p.key, p.ballot) node put (λ q. are.nodes q.0 q.1)
          (λ q e. proposed_node p marks node c.in_ok-node.ensures q e)
          (λ q e. no_proposed_node p marks q e) (k, b);
      spots = are.spots;
      settled = places_kept mark marks (get same_place old.settled) c.requires.legal (λ key. ap length (proposed_settled p marks c.requires.audit.legal key)) are.settled;
      calls_began = are.calls_began;
    }
