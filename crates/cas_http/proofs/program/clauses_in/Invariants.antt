use Rattle.std.proofs.Common.{◌≡◌, drop}
use Rattle.serde_json.specs.View.{items_view}
use Rattle.cas_http.specs.Programs.{clauses_in}
use Rattle.cas_http.proofs.ClauseLists.{behind}
use Rattle.cas_http.proofs.program.clauses_in.Given as goal

abbrev pub invariant-loop-item : goal.invariant-loop-item
invariant-loop-item l = clauses_in (items_view l.fn.items) ≡ behind l.clauses.items (clauses_in (items_view (drop l.item-index l.fn.items)))
