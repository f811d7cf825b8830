use Rattle.std.proofs.Common.{List, [], ◌∷◌, ◌++◌, ap, ◌∙◌}
use Rattle.cas_world.specs.declared.reopen.OpeningFloor.{OpeningFloor}
use Rattle.test_world.proofs.Floors.{members_hold}
use Rattle.test_world.proofs.openings.opened_on.Goals as goal

pub open_on-requires-clause-held : goal.open_on-requires-clause-held
open_on-requires-clause-held c =
    members_hold _ _ _ _ c.in_ok-floor.floor _
    (c.push_reserved.ensures.items ∙ ap (λ (floors : List OpeningFloor). floors ++ c.in_ok-floor.floor ∷ []) c.in_ok-floors.ensures.items) c.in_ok-shelves.ensures
