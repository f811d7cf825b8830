-- Where something stands in a list that is read newest first, and lists that begin others.
use Rattle.std.specs.Prelude.{◌≡◌, List, ◌∷◌, ◌++◌}

-- x stands in the list, with these older items behind it
pub data At {A : Type 0} (x : A) (older : List A) : List A → Type 0 where
  here : At x older (x ∷ older)
  past : {y : A} {rest : List A} → At x older rest → At x older (y ∷ rest)

-- x stands in the list
pub record Stands {A : Type 0} (x : A) (all : List A) : Type 0 where
  pub older : List A
  pub at : At x older all

-- the list as it was at an earlier time
pub data IsOlderPart {A : Type 0} (part : List A) : List A → Type 0 where
  whole : IsOlderPart part part
  later : {y : A} {rest : List A} → IsOlderPart part rest → IsOlderPart part (y ∷ rest)

-- the first list begins the second
pub record IsPrefix {A : Type 0} (front all : List A) : Type 0 where
  pub rest : List A
  pub joins : all ≡ front ++ rest
