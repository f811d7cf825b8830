-- What one who owns some items has seen of a list that only grows.
use Rattle.std.specs.Prelude.{◌≡◌, ◌≢◌, ℕ, List, ◌++◌, length, drop, All, Option, Some, nat_lt, if◌then◌else◌}

-- items begins with seen
pub record Begins {I : Type 0} (seen items : List I) : Type 0 where
  pub behind : List I
  pub whole : seen ++ behind ≡ items

-- no item of the list is n's
abbrev pub NoneOwned : {I : Type 0} → (I → Option ℕ) → ℕ → List I → Type 0
NoneOwned owner n items = All (λ i. owner i ≢ Some n) items

-- items begins with seen, and behind that stands no item that n owns
pub record HasSeenOwn {I : Type 0} (owner : I → Option ℕ) (n : ℕ) (seen items : List I) : Type 0 where
  pub behind : List I
  pub whole : seen ++ behind ≡ items
  pub none_own : NoneOwned owner n behind

-- each item is n's or nobody's
abbrev pub OnlyOwnedBy : {I : Type 0} → (I → Option ℕ) → ℕ → List I → Type 0
OnlyOwnedBy owner n items = All (λ i. (m : ℕ) → owner i ≡ Some m → m ≡ n) items

-- what a longer list has behind a beginning of it
abbrev pub added_to : {I : Type 0} → List I → List I → List I
added_to old new = drop (length old) new

-- the longer of two lists, and the first where they are equally long
abbrev pub longer_of : {I : Type 0} → List I → List I → List I
longer_of a b = if nat_lt (length a) (length b) then b else a
