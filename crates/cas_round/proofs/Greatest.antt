-- The greatest of a list with one more in front.
use Rattle.std.proofs.Common.{◌≡◌, ℕ, suc, ◌≤◌, ◌<◌, List, [], ◌∷◌, arith, refl, sym, subst}
use Rattle.std.specs.Prelude.{Option, None, Some, max, cond, ◌⊎◌}
use Rattle.std.specs.Ordering.{is_lt, MatchOrdering}
use Rattle.std.specs.declared.cmp.Ordering.{Ordering}
use Rattle.std.specs.declared.cmp.Ordering.TheVariants.{Less, Equal, Greater}
use Rattle.std.proofs.lemmas.List.Elements.{All-cons, All-nil}
use Rattle.std.proofs.lemmas.Bool.Decides.{leb_tells}
use mathlib.Core.Logic.{inl, inr}
use Rattle.cas_ballot.specs.declared.ballot.Ballot.{Ballot}
use Rattle.cas_ballot.specs.Ballot.{ballot_cmp, greater_of, BallotAtMost, BallotLess}
use Rattle.cas_ballot.proofs.BallotLemmas.{at_most_refl, at_most_trans, at_most_of_less, greater_cases, compared}
use Rattle.cas_slot.specs.declared.slot.Accepted.{Accepted}
use Rattle.cas_round.specs.Round.{IsGreatest, GreatestOf, AgeAtMost, IsNoLess, AcceptedAtMost, latest_of}
use Rattle.cas_round.specs.Tally.{greatest_met, greatest_age, least_full}

-- ---- in any order
alone : {X : Type 0} (R : X → X → Type 0) (x : X) → R x x → IsGreatest R (x ∷ []) x
alone R x same = record { stands = (0, omega arith, refl); above = All-cons (λ y. R y x) x [] same (All-nil (λ y. R y x)) }

kept : {X : Type 0} (R : X → X → Type 0) (x most : X) (xs : List X) → R x most → IsGreatest R xs most → IsGreatest R (x ∷ xs) most
kept R x most xs below h = record {
  stands = (suc h.stands.0, omega (arith, h.stands.1), h.stands.2);
  above = All-cons (λ y. R y most) x xs below h.above;
}

replaced : {X : Type 0} (R : X → X → Type 0) (x most : X) (xs : List X) → R x x → R most x → ((a b c : X) → R a b → R b c → R a c)
    → IsGreatest R xs most → IsGreatest R (x ∷ xs) x
replaced R x most xs same above trans h = record {
  stands = (0, omega arith, refl);
  above = All-cons (λ y. R y x) x xs same (λ k d small. trans _ most x (h.above k d small) above);
}

-- ---- ballots
met_step : (told met : Ballot) (mets : List Ballot) → IsGreatest BallotAtMost mets met → IsGreatest BallotAtMost (told ∷ mets) (greater_of met told)
met_step told met mets h = elim (greater_cases met told) [
  | inl same ↦ subst (λ b. IsGreatest BallotAtMost (told ∷ mets) b) (sym same.0) (kept BallotAtMost told met mets same.1 h)
  | inr more ↦ subst (λ b. IsGreatest BallotAtMost (told ∷ mets) b) (sym more.0)
      (replaced BallotAtMost told met mets (at_most_refl told) (at_most_of_less more.1) (λ a b c p q. at_most_trans p q) h)
]

pub met_more : (told : Ballot) (mets : List Ballot) (met : Option Ballot) → GreatestOf BallotAtMost mets met → GreatestOf BallotAtMost (told ∷ mets) (Some (greatest_met met told))
met_more told mets None h = subst (λ (xs : List Ballot). IsGreatest BallotAtMost (told ∷ xs) told) (sym h) (alone BallotAtMost told (at_most_refl told))
met_more told mets (Some met) h = met_step told met mets h

-- ---- ages
age_step : (told aged : ℕ) (ages : List ℕ) → (told ≤ aged) ⊎ (aged < told) → IsGreatest AgeAtMost ages aged → IsGreatest AgeAtMost (told ∷ ages) (max aged told)
age_step told aged ages (inl low) h =
    let same : max aged told ≡ aged = omega arith in
    subst (λ n. IsGreatest AgeAtMost (told ∷ ages) n) (sym same) (kept AgeAtMost told aged ages low h)
age_step told aged ages (inr high) h =
    let more : max aged told ≡ told = omega arith in
    subst (λ n. IsGreatest AgeAtMost (told ∷ ages) n) (sym more)
    (replaced AgeAtMost told aged ages (omega arith) (omega arith) (λ a b c p q. omega (arith, p, q)) h)

le_or_lt : (a b : ℕ) → (a ≤ b) ⊎ (b < a)
le_or_lt a b = elim (leb_tells a b) [ inl low ↦ inl low.1 | inr high ↦ inr high.1 ]

pub age_more : (told : ℕ) (ages : List ℕ) (aged : Option ℕ) → GreatestOf AgeAtMost ages aged → GreatestOf AgeAtMost (told ∷ ages) (Some (greatest_age aged told))
age_more told ages None h = subst (λ (xs : List ℕ). IsGreatest AgeAtMost (told ∷ xs) told) (sym h) (alone AgeAtMost told (omega arith))
age_more told ages (Some aged) h = age_step told aged ages (le_or_lt told aged) h

-- ---- acceptors
pub full_more : (told : ℕ) (fulls : List ℕ) (full : Option ℕ) → GreatestOf IsNoLess fulls full → GreatestOf IsNoLess (told ∷ fulls) (Some (least_full full told))
full_more told fulls None h = subst (λ (xs : List ℕ). IsGreatest IsNoLess (told ∷ xs) told) (sym h) (alone IsNoLess told (omega arith))
full_more told fulls (Some full) h = elim (leb_tells full told) [
  | inl low ↦ rw low.0 (kept IsNoLess told full fulls low.1 h)
  | inr high ↦ rw high.0 (replaced IsNoLess told full fulls (omega arith) (omega (arith, high.1)) (λ a b c p q. omega (arith, p, q)) h)
]

-- ---- what was accepted
read_step : (r : Ordering) (told read : Accepted) (list : List Accepted) → MatchOrdering r (BallotLess read.ballot told.ballot) (read.ballot ≡ told.ballot) (BallotLess told.ballot read.ballot)
    → IsGreatest AcceptedAtMost list read → IsGreatest AcceptedAtMost (told ∷ list) (cond (is_lt r) told read)
read_step Less told read list p h = replaced AcceptedAtMost told read list (at_most_refl told.ballot) (at_most_of_less p) (λ a b c f g. at_most_trans f g) h
read_step Equal told read list p h = kept AcceptedAtMost told read list (subst (λ b. BallotAtMost b read.ballot) p (at_most_refl read.ballot)) h
read_step Greater told read list p h = kept AcceptedAtMost told read list (at_most_of_less p) h

pub read_more : (told : Accepted) (list : List Accepted) (read : Option Accepted) → GreatestOf AcceptedAtMost list read
    → GreatestOf AcceptedAtMost (told ∷ list) (latest_of read (Some told))
read_more told list None h = subst (λ (xs : List Accepted). IsGreatest AcceptedAtMost (told ∷ xs) told) (sym h) (alone AcceptedAtMost told (at_most_refl told.ballot))
read_more told list (Some read) h = read_step (ballot_cmp read.ballot told.ballot) told read list (compared read.ballot told.ballot) h
