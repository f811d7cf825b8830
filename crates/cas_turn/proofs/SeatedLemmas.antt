-- What a seat between two calls is at the table, by what it holds.
use Rattle.std.proofs.Common.{◌≡◌, ℕ, true, false, List, [], ◌∷◌, ◌++◌, ◌+◌, arith, append_assoc, map, All, subst, refl, sym, ap, ◌∙◌}
use Rattle.std.specs.Prelude.{Option, Some, None, IsSome}
use mathlib.Core.List.{map-append}
use Rattle.std.specs.List.{range_with_len}
use Rattle.std.proofs.lemmas.List.Elements.{All-nil, All-cons, All-head, All-tail, All-map}
use Rattle.std.proofs.lemmas.List.FromFn.{map-range_with_len_more}
use Rattle.cas_turn.specs.Sitting.{Sitting, TurnId, fresh_seat, first_seats, fresh_seats}
use Rattle.cas_turn.specs.declared.view.Stage.{Stage}
use Rattle.cas_turn.specs.declared.view.Stage.TheVariants.{Idle, Waiting, Holding}
use Rattle.cas_turn.specs.declared.view.Known.{Known}
use Rattle.cas_turn.specs.declared.view.View.{View}
use Rattle.cas_turn.specs.declared.view.View.TheVariants.{Gathers}
use Rattle.cas_turn.specs.Rule.{sat}
use Rattle.cas_turn.specs.Steps.{Sat, known_of, stage_of, ticket_of, idle, holding, IsHolding, known_by, them_of}
use Rattle.cas_turn.specs.Seated.{held_by, SlotFits, IsSeated}

module _ {V I : Type 0} where
  holds_by_stage : (k : Known I) (stage : Stage V) (slots : List (ℕ × Option V)) → SlotFits stage slots → IsSome (held_by stage)
      → (v : V) × (held_by stage ≡ Some v) × ◌≡◌ {A = Sat V I} (sat k stage, slots) (holding k (ticket_of stage) v None)
  holds_by_stage k Idle slots fits some = let no : false ≡ true = some in absurd (cc)
  holds_by_stage k (Waiting t) slots fits some = let no : false ≡ true = some in absurd (cc)
  holds_by_stage k (Holding t v) slots fits some = (v, refl, ap (λ (x : List (ℕ × Option V)). (sat k (Holding t v), x)) fits)

  -- a seat that holds has the value that it shows
  pub holds_value : (me : Sat V I) → IsSeated me → IsSome (held_by (stage_of me.0)) → (v : V) × (held_by (stage_of me.0) ≡ Some v) × IsHolding me v None
  holds_value me seated some = let h = holds_by_stage (known_of me.0) (stage_of me.0) me.1 seated.slot some in
      let view : me.0 ≡ sat (known_of me.0) (stage_of me.0) = seated.view in
      (h.0, h.1, ap (λ (x : View V I). (x, me.1)) view ∙ h.2)

  -- the seats of a new turn, with one more
  pub fresh_more : (turn : TurnId) (count : ℕ) (seen : List I) (n : ℕ) (before after : List (Sitting V I)) (s : Sitting V I) → after ≡ before ++ s ∷ [] → before ≡ first_seats turn count seen n → s ≡ fresh_seat turn count seen n
      → after ≡ first_seats turn count seen (n + 1)
  fresh_more turn count seen n before after s pushed given is = pushed ∙ ((λ i. given i ++ is i ∷ []) ∙ sym (map-range_with_len_more (fresh_seat turn count seen) 0 n n (omega arith)))

  idle_by_stage : (k : Known I) (stage : Stage V) (slots : List (ℕ × Option V)) → SlotFits stage slots → held_by stage ≡ None → ◌≡◌ {A = Sat V I} (sat k stage, slots) (idle k)
  idle_by_stage k Idle slots fits none = ap (λ (x : List (ℕ × Option V)). (sat k Idle, x)) fits
  idle_by_stage k (Waiting t) slots fits none = absurd fits
  idle_by_stage k (Holding t v) slots fits none = let no : Some v ≡ None = none in absurd (cc)

  -- a seat that holds nothing is idle
  pub idle_place : (me : Sat V I) → IsSeated me → held_by (stage_of me.0) ≡ None → me ≡ idle (known_of me.0)
  idle_place me seated none = let view : me.0 ≡ sat (known_of me.0) (stage_of me.0) = seated.view in
      ap (λ (x : View V I). (x, me.1)) view ∙ idle_by_stage (known_of me.0) (stage_of me.0) me.1 seated.slot none

  -- one seat goes from those that are left to those that were taken in
  pub entries_pop : (olds news : List (Sitting V I)) (s : Sitting V I) (before after whole : List (Known I)) → olds ≡ news ++ s ∷ [] → after ≡ known_by s ∷ before → map known_by olds ++ before ≡ whole
      → map known_by news ++ after ≡ whole
  entries_pop olds news s before after whole popped grown same =
      ap (λ (l : List (Known I)). map known_by news ++ l) grown
      ∙ (sym (append_assoc (map known_by news) (known_by s ∷ []) before)
      ∙ (ap (λ (l : List (Known I)). l ++ before) (sym (map-append known_by news (s ∷ [])))
      ∙ (ap (λ (l : List (Sitting V I)). map known_by l ++ before) (sym popped) ∙ same)))

  all_of_entries : (P : Known I → Type 0) (seats : List (Sitting V I)) → All P (map known_by seats) → All (λ s. P (known_by s)) seats
  all_of_entries P [] all = All-nil (λ s. P (known_by s))
  all_of_entries P (s ∷ rest) all = All-cons (λ x. P (known_by x)) s rest (All-head P (known_by s) (map known_by rest) all) (all_of_entries P rest (All-tail P (known_by s) (map known_by rest) all))

  -- what is true of all entries is true of all seats
  pub all_entries : (P : Known I → Type 0) (seats rest : List (Sitting V I)) (last : Sitting V I) (them : List (Known I)) → seats ≡ rest ++ last ∷ [] → them ≡ map known_by rest ++ known_by last ∷ [] → All P them
      → All (λ s. P (known_by s)) seats
  all_entries P seats rest last them popped are all = all_of_entries P seats
      (subst (All P) (are ∙ (sym (map-append known_by rest (last ∷ [])) ∙ ap (λ (l : List (Sitting V I)). map known_by l) (sym popped))) all)

  pub gathering_is : (me : Sat V I) (them : List (Known I)) → me ≡ (Gathers them, []) → me ≡ (Gathers (them_of me.0), [])
  gathering_is me them is = is ∙ ap (λ (m : Sat V I). (Gathers (them_of m.0), [])) (sym is)

  pub them_in : (me : Sat V I) (them : List (Known I)) → me ≡ (Gathers them, []) → them_of me.0 ≡ them
  them_in me them is = ap (λ (m : Sat V I). them_of m.0) is

  -- each seat of a new turn is that turn's, and holds nothing
  pub fresh_all : (turn : TurnId) (count : ℕ) (seen : List I) → All (λ (s : Sitting V I). (s.turn ≡ turn) × (s.holds ≡ None)) (fresh_seats turn count seen)
  fresh_all turn count seen = All-map (λ (s : Sitting V I). (s.turn ≡ turn) × (s.holds ≡ None)) (fresh_seat turn count seen) (range_with_len 0 count) (λ k d _. (refl, refl))
