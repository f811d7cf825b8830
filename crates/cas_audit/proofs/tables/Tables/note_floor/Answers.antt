use Rattle.std.proofs.Common.{◌≡◌, Result, Ok, Err, arith, sym, ap, subst, ◌∙◌}
use Rattle.std.specs.Result.{OnErr}
use Rattle.std.specs.Prelude.{◌∷◌, Some, if◌then◌else◌}
use Rattle.indexmap.specs.IndexMap.{get}
use Rattle.cas_ballot.specs.Ballot.{greater_of}
use Rattle.cas_record.specs.declared.mark.Mark.TheVariants.{Floor}
use Rattle.cas_record.specs.Histories.Chain.{is_key, chain_of, top_of, settled_of}
use Rattle.cas_record.specs.Places.{IsPrefix, whole, later}
use Rattle.cas_audit.specs.declared.told.Row.{Row}
use Rattle.cas_audit.specs.declared.told.Opening.{Opening}
use Rattle.cas_audit.specs.Tables.{ballots_in, same_place, no_row}
use Rattle.cas_audit.specs.Told.{row_of, opening_of}
use Rattle.cas_audit.proofs.Decisions.{floor_settled}
use Rattle.cas_audit.proofs.Going.{floor_apart}
use Rattle.cas_audit.proofs.LowerFloors.{added_floor}
use Rattle.cas_audit.proofs.Updates.{next_or, next_some, raised_places, floor_row, floor_row_other, opened_next, opened_other, opened_late}
use Rattle.cas_audit.proofs.tables.Tables.note_floor.Goals as goal

pub returns-then-self-clause-ok : goal.returns-then-self-clause-ok
returns-then-self-clause-ok c = λ marks audit legal.
    let key = c.args.key.now in
    let ballot = c.args.ballot in
    let state = c.args.state.now in
    let mark = Floor key ballot state in
    let mid = c.raise.new.self in
    let are = c.in_ok-row.ensures.tables marks audit in
    let row = c.in_ok-row.row in
    let row_is = c.in_ok-row.ensures.row marks audit in
    let value : Row = record { top = row.top; settled = row.settled; floor = Some c.later_floor.result } in
    let entries = chain_of key (greater_of ballot (top_of key marks)) marks in
    let put_row = subst (λ k. (q : _) → get is_key c.put.new.table q ≡ (if is_key k q then Some value else get is_key mid.rows q)) c.in_ok-own.ensures c.put.ensures in
    let is = floor_settled key ballot state marks audit.legal in
    let begins : IsPrefix (settled_of key marks) entries = subst (IsPrefix (settled_of key marks)) is (legal.only_grows whole (later whole) key) in
    let found = c.in_ok-row.ensures.found marks audit begins in
    record {
      counts = are.counts;
      calls = are.calls;
      rows = next_or is_key (λ k. row_of k (mark ∷ marks)) (λ k. row_of k marks) no_row (get is_key mid.rows) (get is_key c.put.new.table) key value put_row are.rows
          (λ k e. floor_row key ballot state marks row audit.legal row_is k e ∙ (λ i. record { top = row.top; settled = row.settled; floor = Some (sym c.later_floor.ensures i) })) (floor_row_other key ballot state marks);
      openings = λ k. are.openings k ∙ sym (opened_late key ballot state marks (sym are.calls_began ∙ c.if-self.true) k);
      floors = λ k. added_floor key ballot state marks (λ q. ballots_in (get is_key mid.floors q)) (λ q. ballots_in (get is_key c.add_floor.new.table q)) c.in_ok-add_floor.ensures.ok are.floors k;
      nodes = are.nodes;
      spots = are.spots;
      settled = raised_places mark key entries marks (get same_place mid.settled) legal is (λ k e. floor_apart k key ballot state marks e)
          (λ place within. found place (omega (arith, within, ap (λ (x : Row). x.settled) row_is))) are.settled;
      calls_began = are.calls_began;
    }

pub returns-clause-ok : goal.returns-clause-ok
returns-clause-ok c = λ marks audit legal.
    let key = c.args.key.now in
    let ballot = c.args.ballot in
    let state = c.args.state.now in
    let mark = Floor key ballot state in
    let mid = c.raise.new.self in
    let are = c.in_ok-row.ensures.tables marks audit in
    let row = c.in_ok-row.row in
    let row_is = c.in_ok-row.ensures.row marks audit in
    let value : Row = record { top = row.top; settled = row.settled; floor = Some c.later_floor.result } in
    let opening : Opening = record { ballot = ballot; state = c.in_ok-copy.field-0 } in
    let opening_is : opening ≡ record { ballot = ballot; state = state } = λ i. record { ballot = ballot; state = c.in_ok-copy.ensures i } in
    let entries = chain_of key (greater_of ballot (top_of key marks)) marks in
    let put_opening = subst (λ k. (q : _) → get is_key c.put-2.new.table q ≡ (if is_key k q then Some opening else get is_key mid.openings q)) c.in_ok-at.ensures c.put-2.ensures in
    let put_row = subst (λ k. (q : _) → get is_key c.put-3.new.table q ≡ (if is_key k q then Some value else get is_key mid.rows q)) c.in_ok-own.ensures c.put-3.ensures in
    let is = floor_settled key ballot state marks audit.legal in
    let begins : IsPrefix (settled_of key marks) entries = subst (IsPrefix (settled_of key marks)) is (legal.only_grows whole (later whole) key) in
    let found = c.in_ok-row.ensures.found marks audit begins in
    record {
      counts = are.counts;
      calls = are.calls;
      rows = next_or is_key (λ k. row_of k (mark ∷ marks)) (λ k. row_of k marks) no_row (get is_key mid.rows) (get is_key c.put-3.new.table) key value put_row are.rows
          (λ k e. floor_row key ballot state marks row audit.legal row_is k e ∙ (λ i. record { top = row.top; settled = row.settled; floor = Some (sym c.later_floor.ensures i) })) (floor_row_other key ballot state marks);
      openings = next_some is_key (λ k. opening_of k (mark ∷ marks)) (λ k. opening_of k marks) (get is_key mid.openings) (get is_key c.put-2.new.table) key opening put_opening are.openings
          (opened_next key ballot state marks opening (sym are.calls_began ∙ c.if-self.false) opening_is) (opened_other key ballot state marks);
      floors = λ k. added_floor key ballot state marks (λ q. ballots_in (get is_key mid.floors q)) (λ q. ballots_in (get is_key c.add_floor.new.table q)) c.in_ok-add_floor.ensures.ok are.floors k;
      nodes = are.nodes;
      spots = are.spots;
      settled = raised_places mark key entries marks (get same_place mid.settled) legal is (λ k e. floor_apart k key ballot state marks e)
          (λ place within. found place (omega (arith, within, ap (λ (x : Row). x.settled) row_is))) are.settled;
      calls_began = are.calls_began;
    }

on_err_of : {T E P : Type 0} (result : Result T E) → P → OnErr result P
on_err_of (Ok x) has = tt
on_err_of (Err e) has = has

pub returns-in_err-add_floor-clause-err : goal.returns-in_err-add_floor-clause-err
returns-in_err-add_floor-clause-err c = on_err_of c.from_residual-in_err-add_floor.result (λ marks audit.
    let are = c.in_ok-row.ensures.tables marks audit in
    record {
      counts = are.counts;
      calls = are.calls;
      rows = are.rows;
      openings = are.openings;
      floors = λ k. c.in_err-add_floor.ensures.err k ∙ are.floors k;
      nodes = are.nodes;
      spots = are.spots;
      settled = are.settled;
      calls_began = are.calls_began;
    })
