use Rattle.std.proofs.Common.{◌≡◌, refl, sym, subst, ◌∙◌}
use Rattle.std.specs.Prelude.{◌∷◌, Some, if◌then◌else◌}
use Rattle.indexmap.specs.IndexMap.{get}
use Rattle.cas_record.specs.declared.mark.Mark.TheVariants.{Voted}
use Rattle.cas_audit.specs.declared.told.Spot.{Spot}
use Rattle.cas_audit.specs.Tables.{same_spot, same_place, no_spot}
use Rattle.cas_audit.specs.Told.{spot_of}
use Rattle.cas_audit.proofs.Updates.{next_or, places_kept, voted_spot, voted_other}
use Rattle.cas_audit.proofs.tables.Tables.note_voted.Goals as goal

pub returns-clause-ok : goal.returns-clause-ok
returns-clause-ok c = λ marks are legal.
    let old = c.args.self.now in
    let key = c.args.key.now in
    let ballot = c.args.ballot in
    let mark = Voted c.args.acceptor key ballot in
    let spot = c.in_ok-spot.spot in
    let value : Spot = record { voters = c.insert.new.self; acked = spot.acked } in
    let put = subst (λ k. (q : _) → get same_spot c.put.new.table q ≡ (if same_spot (k, ballot) q then Some value else get same_spot old.spots q)) c.in_ok-copy.ensures c.put.ensures in
    record {
      counts = are.counts;
      calls = are.calls;
      rows = are.rows;
      openings = are.openings;
      floors = are.floors;
      nodes = are.nodes;
      spots = λ k b. next_or same_spot (λ q. spot_of q.0 q.1 (mark ∷ marks)) (λ q. spot_of q.0 q.1 marks) no_spot (get same_spot old.spots) (get same_spot c.put.new.table) (key, ballot) value put (λ q. are.spots q.0 q.1)
          (λ q e. voted_spot c.args.acceptor key ballot marks spot (c.in_ok-spot.ensures marks are) q e ∙ (λ i. record { voters = sym c.insert.ensures i; acked = spot.acked }))
          (λ q e. voted_other c.args.acceptor key ballot marks q e) (k, b);
      settled = places_kept mark marks (get same_place old.settled) legal (λ k. refl) are.settled;
      calls_began = are.calls_began;
    }
