-- What a state's parts say of the whole.
use Rattle.std.proofs.Common.{ℕ, ◌^◌, ◌<◌}
use Rattle.cas_change.specs.declared.state.Body.{Body}
use Rattle.cas_change.specs.declared.state.Body.TheVariants.{Number, Text}
use Rattle.cas_change.specs.declared.state.State.TheVariants.{Held}
use Rattle.cas_wire.specs.Spelling.{FitsBody, FitsState}

pub held_fits : (version : ℕ) (body : Body) → version < 2 ^ 64 → FitsBody body → FitsState (Held version body)
held_fits version (Number n) small fits = (small, fits)
held_fits version (Text text) small fits = (small, fits)
