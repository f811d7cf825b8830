use Rattle.std.proofs.Common.{◌≡◌, true, arith, ap, subst}
use Rattle.std.specs.Prelude.{◌∷◌, Some, if◌then◌else◌}
use Rattle.indexmap.specs.IndexMap.{get}
use Rattle.cas_ballot.specs.Ballot.{greater_of}
use Rattle.cas_record.specs.declared.mark.Mark.TheVariants.{Acked}
use Rattle.cas_record.specs.Histories.Chain.{is_key, chain_of, top_of, settled_of}
use Rattle.cas_record.specs.Places.{IsPrefix, whole, later}
use Rattle.cas_audit.specs.declared.told.Row.{Row}
use Rattle.cas_audit.specs.declared.told.Spot.{Spot}
use Rattle.cas_audit.specs.Tables.{same_spot, same_place, no_spot, no_row}
use Rattle.cas_audit.specs.Told.{row_of, spot_of}
use Rattle.cas_audit.proofs.Decisions.{acked_settled}
use Rattle.cas_audit.proofs.Going.{acked_apart}
use Rattle.cas_audit.proofs.Updates.{next_or, raised_places, acked_row, acked_row_other, acked_spot, acked_other}
use Rattle.cas_audit.proofs.tables.Tables.note_acked.Goals as goal

pub returns-clause-ok : goal.returns-clause-ok
returns-clause-ok c = λ marks audit legal.
    let a = c.args.a.now in
    let mark = Acked a in
    let mid = c.raise.new.self in
    let are = c.in_ok-row.ensures.tables marks audit in
    let spot = c.in_ok-spot.spot in
    let value : Spot = record { voters = spot.voters; acked = true } in
    let row = c.in_ok-row.row in
    let row_is = c.in_ok-row.ensures.row marks audit in
    let entries = chain_of a.key (greater_of a.ballot (top_of a.key marks)) marks in
    let put_spot = subst (λ k. (q : _) → get same_spot c.put.new.table q ≡ (if same_spot (k, a.ballot) q then Some value else get same_spot mid.spots q)) c.in_ok-copy.ensures c.put.ensures in
    let put_row = subst (λ k. (q : _) → get is_key c.put-2.new.table q ≡ (if is_key k q then Some row else get is_key mid.rows q)) c.in_ok-own.ensures c.put-2.ensures in
    let begins : IsPrefix (settled_of a.key marks) entries = subst (IsPrefix (settled_of a.key marks)) (acked_settled a marks) (legal.only_grows whole (later whole) a.key) in
    let found = c.in_ok-row.ensures.found marks audit begins in
    record {
      counts = are.counts;
      calls = are.calls;
      rows = next_or is_key (λ k. row_of k (mark ∷ marks)) (λ k. row_of k marks) no_row (get is_key mid.rows) (get is_key c.put-2.new.table) a.key row put_row are.rows (acked_row a marks row row_is) (acked_row_other a marks);
      openings = are.openings;
      floors = are.floors;
      nodes = are.nodes;
      spots = λ k b. next_or same_spot (λ q. spot_of q.0 q.1 (mark ∷ marks)) (λ q. spot_of q.0 q.1 marks) no_spot (get same_spot mid.spots) (get same_spot c.put.new.table) (a.key, a.ballot) value put_spot (λ q. are.spots q.0 q.1)
          (acked_spot a marks spot (c.in_ok-spot.ensures marks audit.are)) (acked_other a marks) (k, b);
      settled = raised_places mark a.key entries marks (get same_place mid.settled) legal (acked_settled a marks) (λ k e. acked_apart k a marks e)
          (λ place within. found place (omega (arith, within, ap (λ (x : Row). x.settled) row_is))) are.settled;
      calls_began = are.calls_began;
    }
