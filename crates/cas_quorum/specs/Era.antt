-- Eras: the quorums of each phase, and when the quorums of two eras meet.
use Rattle.std.specs.Prelude.{⊤, ℕ, ◌<◌, ◌≤◌, Bool, List, [], ◌∷◌, length}
use Rattle.cas_quorum.specs.declared.era.Era.{Era}
use Rattle.cas_quorum.specs.Quorum.{has_quorum, majority_of, SizesMeet}

-- the era with majorities of these two sets
abbrev pub era_of_majorities : ℕ → List ℕ → List ℕ → Era
era_of_majorities number prep acc = record {
  number = number;
  prep = prep;
  need_prep = majority_of (length prep);
  acc = acc;
  need_acc = majority_of (length acc);
}

-- the era in which these members prepare and accept, by majorities
abbrev pub majority_era : ℕ → List ℕ → Era
majority_era number members = era_of_majorities number members members

-- the era in which these members prepare and accept, in quorums of these sizes
abbrev pub sized_era : ℕ → List ℕ → ℕ → ℕ → Era
sized_era number members need_prep need_acc = record {
  number = number;
  prep = members;
  need_prep = need_prep;
  acc = members;
  need_acc = need_acc;
}

-- each size is from 1 to the number of members of its set
pub record IsSized (era : Era) : Type 0 where
  pub some_prep : 0 < era.need_prep
  pub prep : era.need_prep ≤ length era.prep
  pub some_acc : 0 < era.need_acc
  pub acc : era.need_acc ≤ length era.acc

-- whether a prepare quorum, and whether an accept quorum of the era is among these acceptors
abbrev pub holds_prep : Era → List ℕ → Bool
holds_prep era by = has_quorum era.need_prep era.prep by

abbrev pub holds_acc : Era → List ℕ → Bool
holds_acc era by = has_quorum era.need_acc era.acc by

-- two eras meet: the prepare size of each and the accept size of the other are more than the two sets have
pub record Meet (a b : Era) : Type 0 where
  pub forth : SizesMeet a.prep a.need_prep b.acc b.need_acc
  pub back : SizesMeet b.prep b.need_prep a.acc a.need_acc

-- each era of the chain meets itself and the next
abbrev pub NeighboursMeet : List Era → Type 0
NeighboursMeet [] = ⊤
NeighboursMeet (era ∷ []) = Meet era era
NeighboursMeet (era ∷ next ∷ later) = Meet era era × Meet era next × NeighboursMeet (next ∷ later)
