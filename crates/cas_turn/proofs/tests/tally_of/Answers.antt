use Rattle.std.proofs.Common.{◌∙◌, ◌≡◌, ℕ}
use Rattle.std.specs.Prelude.{None}
use Rattle.std.proofs.lemmas.List.Elements.{All-same}
use Rattle.cas_turn.specs.Sitting.{Sitting}
use Rattle.cas_turn.specs.declared.tests.Tally.{Tally}
use Rattle.cas_turn.proofs.SeatedLemmas.{fresh_all}
use Rattle.cas_turn.proofs.tests.tally_of.Goals as goal

pub hold_in_threads-requires-clause-idle : goal.hold_in_threads-requires-clause-idle
hold_in_threads-requires-clause-idle g c = λ κs lives. All-same (λ (s : Sitting Tally ℕ). (s.turn ≡ c.in-Ok.made.0.id) × (s.holds ≡ None)) _ _ (c.as_mut_slice.ensures.value ∙ c.in-Ok.ensures.seats) (fresh_all _ _ _)
