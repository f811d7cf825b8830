-- Room for the answers of callers, caller by caller.
use Rattle.std.proofs.Common.{◌≡◌, ◌+◌, ◌<◌, ℕ, List, [], ◌∷◌, ◌++◌, length, sym, subst, ◌∙◌, arith}
use Rattle.std.specs.Prelude.{slice_index_or}
use Rattle.std.proofs.lemmas.List.{get_or_append_left, get_or_push}
use Rattle.std.proofs.lemmas.Option.{slice_get-get_or}
use borrow.Author.Count.{below_more}
use Rattle.cas_model.proofs.Places.{some_is}
use Rattle.casreg_tasks.specs.declared.tasks.Task.{Task}
use Rattle.casreg_race.specs.declared.told.Told.{Told}
use Rattle.casreg_race.specs.Runs.{HasRoomForAnswers}

-- what stands at a place does not depend on what is read past the end
pub same_read : {A : Type 0} (xs : List A) (n : ℕ) (d e : A) → n < length xs → slice_index_or xs n d ≡ slice_index_or xs n e
same_read xs n d e low = some_is (sym (slice_get-get_or xs n d low) ∙ slice_get-get_or xs n e low)

module _ {A T : Type 0} (asks : A → List Task) (says : T → List Told) (rooms : T → ℕ) (all : List A) (made : List T) (i : ℕ) (x : T) (count : length made ≡ i) where
  pub rooms_more : ((n : ℕ) (a : A) (t : T) → n < i → HasRoomForAnswers (asks (slice_index_or all n a)) (says (slice_index_or made n t)) (rooms (slice_index_or made n t)))
      → ((a : A) → HasRoomForAnswers (asks (slice_index_or all i a)) (says x) (rooms x)) → (n : ℕ) (a : A) (t : T) → n < i + 1
      → HasRoomForAnswers (asks (slice_index_or all n a)) (says (slice_index_or (made ++ x ∷ []) n t)) (rooms (slice_index_or (made ++ x ∷ []) n t))
  rooms_more before here n a t low =
      below_more (λ k. (b : A) (u : T) → HasRoomForAnswers (asks (slice_index_or all k b)) (says (slice_index_or (made ++ x ∷ []) k u)) (rooms (slice_index_or (made ++ x ∷ []) k u))) i
      (λ k less b u. subst (λ (v : T). HasRoomForAnswers (asks (slice_index_or all k b)) (says v) (rooms v)) (sym (get_or_append_left made (x ∷ []) u k (omega (arith, less, count)))) (before k b u less))
      (λ b u. subst (λ (v : T). HasRoomForAnswers (asks (slice_index_or all i b)) (says v) (rooms v)) (sym (get_or_push made x u i count)) (here b)) n low a t
