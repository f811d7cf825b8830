-- Lists of keys in the order of their bytes.
use Rattle.std.specs.List.{list_any}
use Rattle.std.specs.Prelude.{◌≡◌, ℕ, ◌||◌, Bool, true, None, List}
use Rattle.cas_record.specs.Histories.Chain.{is_key}
use Rattle.cas_slot.specs.Slots.{rises}

-- the keys that pass the test are added to a list, which rises
pub record Adds (added : List ℕ → Bool) (old new : List (List ℕ)) : Type 0 where
  pub rises : rises None new ≡ true
  pub keys : (key : List ℕ) → list_any (is_key key) new ≡ (list_any (is_key key) old || added key)
