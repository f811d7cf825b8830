use Rattle.std.proofs.Common.{sym, ◌∙◌, ap, Some}
use Rattle.serde_json.specs.View.{view}
use Rattle.cas_http.proofs.ObjectMembers.{not_only, the_only}
use Rattle.cas_http.proofs.program.only_member.Goals as goal

pub returns-then-len-ne1 : goal.returns-then-len-ne1
returns-then-len-ne1 c = sym (not_only (view c.args.value.now) c.in_ok-members.members.now.entries c.in_ok-members.ensures (λ one. c.if-len-ne1.true (c.len.ensures.len ∙ one)))

pub returns : goal.returns
returns c =
    let members = c.in_ok-members.members.now.entries in
    let only = the_only (view c.args.value.now) members c.in_ok-name.name.now c.in_ok-name.value.now c.in_ok-members.ensures in
    ap (λ name. Some (name, view c.in_ok-name.value.now)) c.as_str.ensures.value
    ∙ sym (only (sym c.len.ensures.len ∙ c.if-len-ne1.false) c.in_ok-name.ensures.first)
