use Rattle.std.proofs.Common.{◌≡◌, ◌-◌, ◌<◌, suc, length, arith, reverse, sym, ap, subst, ◌∙◌}
use Rattle.std.specs.Prelude.{option_copied}
use Rattle.cas_base.proofs.Bools.{not_both}
use Rattle.cas_record.specs.Histories.Chain.{chain_of, settled_of}
use Rattle.cas_audit.specs.declared.told.Call.{Call}
use Rattle.cas_audit.specs.declared.told.Row.{Row}
use Rattle.cas_audit.specs.Tables.{IsFoundAt}
use Rattle.cas_audit.proofs.Facts.{not_proposed}
use Rattle.cas_audit.proofs.Decisions.{call_in, nowhere_short, nowhere_long, nowhere_other, change_here}
use Rattle.cas_audit.proofs.tables.Tables.change_at.Goals as goal

pub returns-in_default : goal.returns-in_default
returns-in_default c = λ k before entry after same_caller same_call is.
    absurd (cc (ap option_copied c.in_default.is, (c.key_of.ensures k).1 (call_in c.requires.legal.numbered k before entry after same_caller same_call is).0))

pub returns-in_default-proposed : goal.returns-in_default-proposed
returns-in_default-proposed c = λ k before entry after same_caller same_call is.
    not_proposed (sym (ap (λ (x : Call). x.proposed) (c.call_of.ensures (reverse c.args.marks.now) c.requires.are)) ∙ c.in_default-proposed.is) (call_in c.requires.legal.numbered k before entry after same_caller same_call is).1

pub returns-then-long-eq0 : goal.returns-then-long-eq0
returns-then-long-eq0 c =
    let marks = reverse c.args.marks.now in
    nowhere_short c.requires.legal.numbered ((c.key_of.ensures c.in-Some.key.now).0 (ap option_copied c.in-Some.is))
    (sym (ap (λ (x : Call). x.proposed) (c.call_of.ensures marks c.requires.are)) ∙ c.in-Some-proposed.is) (sym (c.in_ok-long.ensures marks c.requires) ∙ c.if-long-eq0.true)

pub returns-then-long-row_of : goal.returns-then-long-row_of
returns-then-long-row_of c =
    let marks = reverse c.args.marks.now in
    let row = ap (λ (x : Row). x.settled) (c.row_of.ensures marks c.requires.are) in
    nowhere_long c.requires.legal.numbered ((c.key_of.ensures c.in-Some.key.now).0 (ap option_copied c.in-Some.is))
    (sym (ap (λ (x : Call). x.proposed) (c.call_of.ensures marks c.requires.are)) ∙ c.in-Some-proposed.is) (omega (arith, row, c.in_ok-long.ensures marks c.requires, c.if-long-row_of.true))

pub returns-then-not-is_found : goal.returns-then-not-is_found
returns-then-not-is_found c =
    let marks = reverse c.args.marks.now in
    let key = c.in-Some.key.now in
    let row = ap (λ (x : Row). x.settled) (c.row_of.ensures marks c.requires.are) in
    let long = c.in_ok-long.ensures marks c.requires in
    let within : c.in_ok-long.long - 1 < length (settled_of key marks) = omega (arith, row, c.if-long-eq0.false, c.if-long-row_of.false) in
    let place : length (chain_of key c.in-Some-proposed.ballot marks) ≡ suc (c.in_ok-long.long - 1) = omega (arith, long, c.if-long-eq0.false) in
    nowhere_other c.in_ok-settled_at.field-0 c.requires.legal.numbered ((c.key_of.ensures key).0 (ap option_copied c.in-Some.is))
    (sym (ap (λ (x : Call). x.proposed) (c.call_of.ensures marks c.requires.are)) ∙ c.in-Some-proposed.is) place
    (c.in_ok-settled_at.ensures marks c.requires.are within) (λ e. not_both c.is_found.result (c.is_found.ensures.1 e) c.if-not-is_found.true)

pub returns : goal.returns
returns c =
    let marks = reverse c.args.marks.now in
    let key = c.in-Some.key.now in
    let row = ap (λ (x : Row). x.settled) (c.row_of.ensures marks c.requires.are) in
    let within : c.in_ok-long.long - 1 < length (settled_of key marks) = omega (arith, row, c.if-long-eq0.false, c.if-long-row_of.false) in
    change_here c.requires.legal.numbered ((c.key_of.ensures key).0 (ap option_copied c.in-Some.is))
    (sym (ap (λ (x : Call). x.proposed) (c.call_of.ensures marks c.requires.are)) ∙ c.in-Some-proposed.is)
    (subst (IsFoundAt key marks (c.in_ok-long.long - 1)) (c.is_found.ensures.0 c.if-not-is_found.false) (c.in_ok-settled_at.ensures marks c.requires.are within))
