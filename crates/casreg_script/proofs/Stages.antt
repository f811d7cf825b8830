-- What a line does to the state of a script.
use Rattle.std.proofs.Common.{◌≡◌, ◌<◌, ℕ, zero, suc, List, [], ◌∷◌, length, Some, slice_get, slice_set, slice_index_or, refl, sym, ap, subst, ◌∙◌, arith}
use Rattle.cas_model.specs.View.{View, IsAt}
use Rattle.casreg_script.specs.Frames.Conditions.{Rule, Ruled}
use Rattle.casreg_script.specs.Frames.Network.{IsNetwork}
use Rattle.casreg_script.specs.Script.{State, IsInState, Runs, nowhere}
use Rattle.casreg_script.specs.Stage.{Stage, IsStage}
use Rattle.casreg_script.specs.declared.halt.Halt.{Halt}
use Rattle.casreg_script.specs.declared.network.Network.{Network}
use Rattle.casreg_script.proofs.Calls.Keeping.{KeepsCallers, stays_quiet, still_idle}

-- ---- parts
abbrev pub stage_of : {S V : Type 0} → View S V → Network → List Halt → ℕ → Stage S V
stage_of world network halts tries = record { world = world; network = network; halts = halts; tries = tries }

pub at_index : {A : Type 0} (all : List A) (place : ℕ) (d : A) → place < length all → slice_get all place ≡ Some (slice_index_or all place d)
at_index [] place d low = absurd (omega (arith, low))
at_index (x ∷ all) zero d low = refl
at_index (x ∷ all) (suc place) d low = at_index all place d (omega (arith, low))

-- where a proposer is to halt
pub halt_at : (halts now : List Halt) (index place : ℕ) → index ≡ place → place < length halts → halts ≡ now → IsAt now place (slice_index_or halts index nowhere)
halt_at halts now index place same low is =
    subst (λ (l : List Halt). IsAt l place (slice_index_or halts index nowhere)) is (subst (λ (i : ℕ). IsAt halts place (slice_index_or halts i nowhere)) (sym same) (at_index halts place nowhere low))

-- what is left between two lines
pub goes_idle : {S V : Type 0} (world now : View S V) (network : Network) (halts : List Halt) (tries proposers : ℕ) → IsStage (stage_of world network halts tries) proposers → KeepsCallers world now → IsStage (stage_of now network halts tries) proposers
goes_idle world now network halts tries proposers is keeps = record { known = keeps.last_proposer ∙ is.known; few = is.few; some = is.some; idle = still_idle world now keeps.last_proposer keeps.callers is.idle; quiet = stays_quiet (keeps.council is.quiet) is.quiet; ruled = is.ruled }

-- ---- states
-- what the world of the state is
pub world_is : {S V : Type 0} (world : View S V) (network : Network) (halts : List Halt) (tries : ℕ) (seen : Stage S V) (state : State S V) → stage_of world network halts tries ≡ seen → IsInState seen state → world ≡ state.world
world_is {S} {V} world network halts tries seen state is at = ap (λ (s : Stage S V). s.world) is ∙ at.world

pub halts_are : {S V : Type 0} (world : View S V) (network : Network) (halts : List Halt) (tries : ℕ) (seen : Stage S V) (state : State S V) → stage_of world network halts tries ≡ seen → IsInState seen state → halts ≡ state.halts
halts_are {S} {V} world network halts tries seen state is at = ap (λ (s : Stage S V). s.halts) is ∙ at.halts

pub network_is : {S V : Type 0} (world : View S V) (network : Network) (halts : List Halt) (tries : ℕ) (seen : Stage S V) (state : State S V) → stage_of world network halts tries ≡ seen → IsInState seen state → IsNetwork network (Ruled state.rules)
network_is {S} {V} world network halts tries seen state is at = subst (λ (n : Network). IsNetwork n (Ruled state.rules)) (sym (ap (λ (s : Stage S V). s.network) is)) at.network

-- another world, with all else as it is
pub in_world : {S V : Type 0} (world now : View S V) (network : Network) (halts : List Halt) (tries : ℕ) (seen : Stage S V) (state : State S V) (P : State S V → Type 0) → stage_of world network halts tries ≡ seen → IsInState seen state → P (record state { world = now })
    → Runs P (stage_of now network halts tries)
in_world world now network halts tries seen state P is at has = record {
  new = record state { world = now };
  is_in = record { world = refl; network = network_is world network halts tries seen state is at; halts = halts_are world network halts tries seen state is at };
  has = has;
}

-- one rule more
pub in_network : {S V : Type 0} (world : View S V) (network now : Network) (halts : List Halt) (tries : ℕ) (seen : Stage S V) (state : State S V) (rule : Rule) (P : State S V → Type 0) → stage_of world network halts tries ≡ seen → IsInState seen state
    → (IsNetwork network (Ruled state.rules) → IsNetwork now (Ruled (rule ∷ state.rules))) → P (record state { rules = rule ∷ state.rules }) → Runs P (stage_of world now halts tries)
in_network world network now halts tries seen state rule P is at goes has = record {
  new = record state { rules = rule ∷ state.rules };
  is_in = record { world = world_is world network halts tries seen state is at; network = goes (network_is world network halts tries seen state is at); halts = halts_are world network halts tries seen state is at };
  has = has;
}

-- one halt more
pub in_halts : {S V : Type 0} (world : View S V) (network : Network) (halts : List Halt) (tries : ℕ) (seen : Stage S V) (state : State S V) (index place : ℕ) (next : Halt) (P : State S V → Type 0) → stage_of world network halts tries ≡ seen → IsInState seen state → index ≡ place
    → P (record state { halts = slice_set state.halts place next }) → Runs P (stage_of world network (slice_set halts index next) tries)
in_halts world network halts tries seen state index place next P is at same has = record {
  new = record state { halts = slice_set state.halts place next };
  is_in = record {
    world = world_is world network halts tries seen state is at;
    network = network_is world network halts tries seen state is at;
    halts = ap (λ (l : List Halt). slice_set l index next) (halts_are world network halts tries seen state is at) ∙ ap (λ (i : ℕ). slice_set state.halts i next) same;
  };
  has = has;
}

-- ---- event lines
