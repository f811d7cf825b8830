use Rattle.std.proofs.Common.{◌≡◌, None, reverse, unwrap_or, sym, ap, subst, ◌∙◌}
use Rattle.cas_ballot.specs.declared.ballot.Ballot.{Ballot}
use Rattle.cas_ballot.specs.Ballot.{zero_ballot}
use Rattle.cas_record.specs.Histories.Chain.{top_of, chain_of}
use Rattle.cas_record.specs.Kept.Index.{standing_at, next_at, home_of, IsRowOf}
use Rattle.cas_record.specs.Kept.Tables.{IsRowFor}
use Rattle.cas_record.proofs.Histories.Chains.{chain_zero}
use Rattle.cas_record.proofs.PlaceLemmas.{at_part}
use Rattle.cas_record.proofs.Kept.Stands.{top_is, top_of_none}
use Rattle.cas_record.proofs.Histories.Lemmas.{IsReached, reached_first, reached_last, reached_link, reached_more, next_falls}
use Rattle.cas_record.proofs.tables.Tables.settled.Goals as goal

-- a key that no mark names has no history
pub returns-in_default : goal.returns-in_default
returns-in_default c =
    let key = c.args.key.now in
    let marks = reverse c.args.marks.now in
    let gone : home_of key marks ≡ None = subst (IsRowFor key c.args.marks.now) c.in_default.is c.row_of.ensures in
    let zero : top_of key marks ≡ zero_ballot = sym (top_is key marks) ∙ ap (λ o. unwrap_or o zero_ballot) (top_of_none key marks gone) in
    c.new-entries.ensures.items ∙ sym (ap (λ (b : Ballot). chain_of key b marks) zero ∙ chain_zero key marks)

pub loop-next-init : goal.loop-next-init
loop-next-init c =
    let key = c.args.key.now in
    let marks = reverse c.args.marks.now in
    let row : IsRowOf key marks c.in-Some.row = subst (IsRowFor key c.args.marks.now) c.in-Some.is c.row_of.ensures in
    let top : c.unwrap_or-top.result ≡ top_of key marks = c.unwrap_or-top.ensures ∙ ap (λ o. unwrap_or o zero_ballot) row.tells.top ∙ top_is key marks in
    let standing = c.standing.ensures key c.args.marks.now c.requires row in
    let next : c.link_at-next.result ≡ next_at key (standing_at key (top_of key marks) marks) marks =
    c.link_at-next.ensures key c.args.marks.now c.requires row ∙ ap (λ o. next_at key o marks) (standing ∙ ap (λ (b : Ballot). standing_at key b marks) top) in
    subst (IsReached key (top_of key marks) marks c.link_at-next.result) (sym c.new-entries.ensures.items) (reached_first key (top_of key marks) marks c.link_at-next.result next)

pub entry_at-requires : goal.entry_at-requires
entry_at-requires c =
    let reached = c.loop-next.invariant in
    let l = reached_link c.args.key.now (top_of c.args.key.now (reverse c.args.marks.now)) (reverse c.args.marks.now) c.loop-next.next c.loop-next.entries.items c.in-Some-next.link reached c.in-Some-next.is in
    record { proposal = l.proposal; older = l.older; at = at_part l.at reached.is_part; is = l.is }

pub loop-next-smaller : goal.loop-next-smaller
loop-next-smaller c =
    let key = c.args.key.now in
    let marks = reverse c.args.marks.now in
    let row : IsRowOf key marks c.in-Some.row = subst (IsRowFor key c.args.marks.now) c.in-Some.is c.row_of.ensures in
    next_falls key (top_of key marks) marks c.loop-next.next c.loop-next.entries.items c.in-Some-next.link c.link_at-next-in-Some-next.result c.loop-next.invariant c.in-Some-next.is
    (c.link_at-next-in-Some-next.ensures key c.args.marks.now c.requires row)

pub loop-next-preserved : goal.loop-next-preserved
loop-next-preserved c =
    let key = c.args.key.now in
    let marks = reverse c.args.marks.now in
    let row : IsRowOf key marks c.in-Some.row = subst (IsRowFor key c.args.marks.now) c.in-Some.is c.row_of.ensures in
    subst (IsReached key (top_of key marks) marks c.link_at-next-in-Some-next.result) (sym c.in_ok-push.ensures.items)
    (reached_more key (top_of key marks) marks c.loop-next.next c.loop-next.entries.items c.in-Some-next.link c.loop-next.invariant c.in-Some-next.is
    c.in_ok-entry_at.field-0 c.link_at-next-in-Some-next.result c.in_ok-entry_at.ensures (c.link_at-next-in-Some-next.ensures key c.args.marks.now c.requires row))

pub returns : goal.returns
returns c =
    let key = c.args.key.now in
    let marks = reverse c.args.marks.now in
    c.reverse.ensures.items ∙ sym (reached_last key (top_of key marks) marks c.loop-next.next c.loop-next.entries.items c.loop-next.invariant c.in_default-next.is)
