use Rattle.std.proofs.Common.{reverse}
use Rattle.cas_base.proofs.Bools.{not_both}
use Rattle.cas_audit.proofs.Verdicts.{breaks_numbers, breaks_standing, breaks_refusals, breaks_real_time, breaks_settled, breaks_votes, breaks_floors, breaks_harms, breaks_nothing}
use Rattle.cas_audit.proofs.auditor.first_broken.Goals as goal

pub returns-then-not-branch : goal.returns-then-not-branch
returns-then-not-branch c =
    let marks = reverse c.args.marks.now in
    breaks_numbers c.args.mark.now marks c.requires.legal (λ kept. not_both c.in_ok-keeps_numbers.field-0 (c.in_ok-keeps_numbers.ensures.1 kept) c.if-not-branch.true)

pub returns-then-not-branch-2 : goal.returns-then-not-branch-2
returns-then-not-branch-2 c =
    let marks = reverse c.args.marks.now in
    breaks_standing c.args.mark.now marks c.requires.legal (c.in_ok-keeps_numbers.ensures.0 c.if-not-branch.false) (λ kept. not_both c.in_ok-keeps_standing.field-0 (c.in_ok-keeps_standing.ensures.1 kept) c.if-not-branch-2.true)

pub returns-then-not-keeps_refusals : goal.returns-then-not-keeps_refusals
returns-then-not-keeps_refusals c =
    let marks = reverse c.args.marks.now in
    breaks_refusals c.args.mark.now marks c.requires.legal (c.in_ok-keeps_numbers.ensures.0 c.if-not-branch.false) (c.in_ok-keeps_standing.ensures.0 c.if-not-branch-2.false) (λ kept. not_both c.keeps_refusals.result ((c.keeps_refusals.ensures marks c.requires).1 kept) c.if-not-keeps_refusals.true)

pub returns-then-not-branch-3 : goal.returns-then-not-branch-3
returns-then-not-branch-3 c =
    let marks = reverse c.args.marks.now in
    breaks_real_time c.args.mark.now marks c.requires.legal (c.in_ok-keeps_numbers.ensures.0 c.if-not-branch.false) (c.in_ok-keeps_standing.ensures.0 c.if-not-branch-2.false) ((c.keeps_refusals.ensures marks c.requires).0 c.if-not-keeps_refusals.false) (λ kept. not_both c.in_ok-keeps_real_time.field-0 (c.in_ok-keeps_real_time.ensures.1 kept) c.if-not-branch-3.true)

pub returns-then-not-branch-4 : goal.returns-then-not-branch-4
returns-then-not-branch-4 c =
    let marks = reverse c.args.marks.now in
    breaks_settled c.args.mark.now marks c.requires.legal (c.in_ok-keeps_numbers.ensures.0 c.if-not-branch.false) (c.in_ok-keeps_standing.ensures.0 c.if-not-branch-2.false) ((c.keeps_refusals.ensures marks c.requires).0 c.if-not-keeps_refusals.false) (c.in_ok-keeps_real_time.ensures.0 c.if-not-branch-3.false) (λ kept. not_both c.in_ok-keeps_settled.field-0 ((c.in_ok-keeps_settled.ensures marks c.requires).1 kept) c.if-not-branch-4.true)

pub returns-then-not-branch-5 : goal.returns-then-not-branch-5
returns-then-not-branch-5 c =
    let marks = reverse c.args.marks.now in
    breaks_votes c.args.mark.now marks c.requires.legal (c.in_ok-keeps_numbers.ensures.0 c.if-not-branch.false) (c.in_ok-keeps_standing.ensures.0 c.if-not-branch-2.false) ((c.keeps_refusals.ensures marks c.requires).0 c.if-not-keeps_refusals.false) (c.in_ok-keeps_real_time.ensures.0 c.if-not-branch-3.false) ((c.in_ok-keeps_settled.ensures marks c.requires).0 c.if-not-branch-4.false) (λ kept. not_both c.in_ok-keeps_votes.field-0 ((c.in_ok-keeps_votes.ensures marks c.requires).1 kept) c.if-not-branch-5.true)

pub returns-then-not-branch-6 : goal.returns-then-not-branch-6
returns-then-not-branch-6 c =
    let marks = reverse c.args.marks.now in
    breaks_floors c.args.mark.now marks c.requires.legal (c.in_ok-keeps_numbers.ensures.0 c.if-not-branch.false) (c.in_ok-keeps_standing.ensures.0 c.if-not-branch-2.false) ((c.keeps_refusals.ensures marks c.requires).0 c.if-not-keeps_refusals.false) (c.in_ok-keeps_real_time.ensures.0 c.if-not-branch-3.false) ((c.in_ok-keeps_settled.ensures marks c.requires).0 c.if-not-branch-4.false) ((c.in_ok-keeps_votes.ensures marks c.requires).0 c.if-not-branch-5.false) (λ kept. not_both c.in_ok-keeps_floors.field-0 ((c.in_ok-keeps_floors.ensures marks c.requires).1 kept) c.if-not-branch-6.true)

pub returns-then-not-keeps_harms : goal.returns-then-not-keeps_harms
returns-then-not-keeps_harms c =
    let marks = reverse c.args.marks.now in
    breaks_harms c.args.mark.now marks c.requires.legal (c.in_ok-keeps_numbers.ensures.0 c.if-not-branch.false) (c.in_ok-keeps_standing.ensures.0 c.if-not-branch-2.false) ((c.keeps_refusals.ensures marks c.requires).0 c.if-not-keeps_refusals.false) (c.in_ok-keeps_real_time.ensures.0 c.if-not-branch-3.false) ((c.in_ok-keeps_settled.ensures marks c.requires).0 c.if-not-branch-4.false) ((c.in_ok-keeps_votes.ensures marks c.requires).0 c.if-not-branch-5.false) ((c.in_ok-keeps_floors.ensures marks c.requires).0 c.if-not-branch-6.false) (λ kept. not_both c.keeps_harms.result ((c.keeps_harms.ensures marks c.requires).1 kept) c.if-not-keeps_harms.true)

pub returns : goal.returns
returns c =
    let marks = reverse c.args.marks.now in
    breaks_nothing c.args.mark.now marks c.requires.legal (c.in_ok-keeps_numbers.ensures.0 c.if-not-branch.false) (c.in_ok-keeps_standing.ensures.0 c.if-not-branch-2.false) ((c.keeps_refusals.ensures marks c.requires).0 c.if-not-keeps_refusals.false) (c.in_ok-keeps_real_time.ensures.0 c.if-not-branch-3.false) ((c.in_ok-keeps_settled.ensures marks c.requires).0 c.if-not-branch-4.false) ((c.in_ok-keeps_votes.ensures marks c.requires).0 c.if-not-branch-5.false) ((c.in_ok-keeps_floors.ensures marks c.requires).0 c.if-not-branch-6.false) ((c.keeps_harms.ensures marks c.requires).0 c.if-not-keeps_harms.false)
