use Rattle.std.proofs.Common.{Option, sym, subst}
use Rattle.cas_world_calls.specs.Council.{council_view}
use Rattle.cas_world_calls.specs.declared.call.OpenCall.{OpenCall}
use Rattle.cas_world.specs.Calls.Beginning.{Heeds}
use Rattle.cas_world.proofs.Eras.Planning.{none_there}
use Rattle.cas_world.proofs.begin.heed.Goals as goal

pub returns-then-is_none-clause-heeds : goal.returns-then-is_none-clause-heeds
returns-then-is_none-clause-heeds c =
    subst (λ (o : Option OpenCall). Heeds o (council_view c.args.council.now) c.args.caller c.args.key.now c.args.refusal.now (council_view c.end.new.self)) (sym (none_there c.args.asking.now.call c.if-is_none.ensures)) c.end.ensures.rescans
