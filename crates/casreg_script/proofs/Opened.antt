-- A world that has just been opened.
use Rattle.std.proofs.Common.{ℕ, List, [], ap, arith}
use Rattle.cas_model.specs.Council.{Council, IsAtRest}
use Rattle.cas_model.specs.Openings.{Opening, IsOpeningOn}
use Rattle.cas_model.specs.SafeLaws.{HasPlaces}
use Rattle.cas_model.specs.Step.{IsOpening}
use Rattle.cas_model.specs.View.{Meaning, View, CallerView}
use Rattle.cas_model.proofs.Openings.Opens.{opening_on_none}
use Rattle.cas_model.proofs.Safety.Parts.{at_low}
use Rattle.casreg_script.specs.Stage.{AllIdle}

-- no call is open
pub opened_idle : {S V : Type 0} (m : Meaning S V) (members used : List ℕ) (floors : List Opening) (world : View S V) → IsOpeningOn m members used floors world → HasPlaces world → AllIdle world
opened_idle m members used floors world opening places id low =
    let there = at_low world.callers id (omega (arith, places.callers, low)) in
    record { caller = there.0; at_caller = there.1; none_open = ap (λ (c : CallerView). c.call) (opening.callers id there.0 there.1) }

-- and none of the operator's, nor an exchange
pub opened_quiet : {S V : Type 0} (m : Meaning S V) (members used : List ℕ) (floors : List Opening) (world : View S V) → IsOpeningOn m members used floors world → IsAtRest world.council
opened_quiet m members used floors world opening = record { order = ap (λ (c : Council). c.order) opening.council; exchange = ap (λ (c : Council). c.exchange) opening.council }

-- the same where nothing has happened
pub new_idle : {S V : Type 0} (m : Meaning S V) (members : List ℕ) (world : View S V) → IsOpening m members world → HasPlaces world → AllIdle world
new_idle m members world opening places = opened_idle m members members [] world (opening_on_none m members world opening) places

pub new_quiet : {S V : Type 0} (m : Meaning S V) (members : List ℕ) (world : View S V) → IsOpening m members world → IsAtRest world.council
new_quiet m members world opening = opened_quiet m members members [] world (opening_on_none m members world opening)
