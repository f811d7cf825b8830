use Rattle.std.proofs.Common.{sym, subst}
use Rattle.std.specs.Prelude.{IsTrue, ◌↔◌}
use Rattle.cas_record.specs.Histories.Chain.{settled_of}
use Rattle.cas_record.specs.Places.{IsPrefix}
use Rattle.cas_audit.specs.Keeping.{KeepsSettled}
use Rattle.cas_audit.proofs.Decisions.{if_ok_map, floor_settled}
use Rattle.cas_audit.proofs.tables.Tables.keeps_settled.Goals as goal

pub returns-in-Floor : goal.returns-in-Floor
returns-in-Floor c = if_ok_map c.stays_settled-in-Floor.result c.stays_settled-in-Floor.ensures (λ kept told marks audit.
    let f = c.in-Floor in
    subst (λ mark. IsTrue kept ↔ KeepsSettled mark marks) (sym f.is)
    (subst (λ entries. IsTrue kept ↔ IsPrefix (settled_of f.key marks) entries) (sym (floor_settled f.key f.ballot f.state marks audit.legal)) (told marks audit)))
