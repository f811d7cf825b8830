use Rattle.std.proofs.Common.{◌≡◌, ◌-◌, ℕ, suc, List, [], ◌∷◌, length, Some, refl, sym, ap, ◌∙◌, arith}
use Rattle.std.specs.Prelude.{slice_get}
use Rattle.cas_record.specs.Logs.Orderly.{last_of}
use Rattle.cas_world_listing.proofs.page.copy_last.Goals as goal

last_at : (key : List ℕ) (keys : List (List ℕ)) → last_of (key ∷ keys) ≡ slice_get (key ∷ keys) (length keys)
last_at key [] = refl
last_at key (next ∷ keys) = last_at next keys

last_of-slice_get : (keys : List (List ℕ)) → last_of keys ≡ slice_get keys (length keys - 1)
last_of-slice_get [] = refl
last_of-slice_get (key ∷ keys) = last_at key keys ∙ ap (slice_get (key ∷ keys)) (let e : length keys ≡ suc (length keys) - 1 = omega arith in e)

pub returns-in_ok-copy-in-Some : goal.returns-in_ok-copy-in-Some
returns-in_ok-copy-in-Some c = ap Some c.in_ok-copy-in-Some.ensures ∙ c.in-Some.ensures.value ∙ sym (last_of-slice_get c.args.keys.now)
