use Rattle.std.proofs.Common.{sym, ◌∙◌}
use Rattle.serde_json.specs.View.{view}
use Rattle.cas_http.proofs.ObjectMembers.{counted}
use Rattle.cas_http.proofs.program.member_count.Goals as goal

pub returns-in-Some : goal.returns-in-Some
returns-in-Some c = c.len.ensures.len ∙ sym (counted (view c.args.value.now) c.in-Some.members.now.entries c.in-Some.ensures)
