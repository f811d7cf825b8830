-- Going from a ballot to the one from whose history it goes on, and on.
use Rattle.std.proofs.Common.{◌≡◌, ℕ, suc, List, [], ◌∷◌, ◌++◌, length, arith, refl, sym, ap, ◌∙◌, subst}
use Rattle.std.specs.Prelude.{◌⊎◌, Option, Some, None}
use mathlib.Core.Logic.{inl, inr}
use Rattle.cas_ballot.specs.declared.ballot.Ballot.{Ballot}
use Rattle.cas_record.specs.declared.entry.Entry.{Entry}
use Rattle.cas_record.specs.declared.mark.Mark.{Mark}
use Rattle.cas_record.specs.Places.{IsPrefix}
use Rattle.cas_record.specs.Histories.Chain.{chain_of, entry_of}
use Rattle.cas_record.specs.Legal.{IsNumbered}
use Rattle.cas_record.proofs.PlaceLemmas.{prefix_refl, prefix_trans}
use Rattle.cas_audit.specs.declared.told.Node.{Node}
use Rattle.cas_audit.specs.Told.{node_of, chain_from, Reaches}
use Rattle.cas_audit.proofs.Histories.{one_chain}
use Rattle.cas_audit.proofs.Facts.{node_tells, node_history, no_chain}

-- ---- fronts
same_front : {A : Type 0} (xs ys r s : List A) → xs ++ r ≡ ys ++ s → length xs ≡ length ys → xs ≡ ys
same_front [] [] r s is long = refl
same_front [] (y ∷ ys) r s is long = absurd cc
same_front (x ∷ xs) [] r s is long = absurd cc
same_front (x ∷ xs) (y ∷ ys) r s is long =
    let head : x ≡ y = cc in
    let tail : xs ++ r ≡ ys ++ s = cc in
    let rest = same_front xs ys r s tail (omega (arith, long)) in
    λ i. head i ∷ rest i

-- two fronts of one list are one where they are as long
pub one_front : {A : Type 0} {xs ys zs : List A} → IsPrefix xs zs → IsPrefix ys zs → length xs ≡ length ys → xs ≡ ys
one_front {xs = xs} {ys = ys} p q long = same_front xs ys p.rest q.rest (sym p.joins ∙ q.joins) long

pub length_last : {A : Type 0} (xs : List A) (x : A) → length (xs ++ x ∷ []) ≡ suc (length xs)
length_last [] x = refl
length_last (y ∷ xs) x = ap suc (length_last xs x)

pub nil_of_length : {A : Type 0} (xs : List A) → length xs ≡ 0 → xs ≡ []
nil_of_length [] e = refl
nil_of_length (x ∷ xs) e = absurd cc

-- ---- steps
pub reach_first : (key : List ℕ) (ballot : Ballot) (marks : List Mark) → Reaches key (Some ballot) marks (chain_of key ballot marks) (length (chain_of key ballot marks))
reach_first key ballot marks = record { begins = prefix_refl (chain_of key ballot marks); long = refl }

-- with entries left there is a ballot, and it has a node
pub none_left : (key : List ℕ) (marks : List Mark) (entries : List Entry) (count : ℕ) → Reaches key None marks entries (suc count) → ⊥
none_left key marks entries count r = absurd (omega (arith, r.long))

pub no_node_left : (key : List ℕ) (ballot : Ballot) (marks : List Mark) (entries : List Entry) (count : ℕ) → Reaches key (Some ballot) marks entries (suc count) → node_of key ballot marks ≡ None → ⊥
no_node_left key ballot marks entries count r none = absurd (omega (arith, r.long, ap length (no_chain key ballot marks none)))

pub reach_next : (key : List ℕ) (ballot : Ballot) (marks : List Mark) (node : Node) (entries : List Entry) (count : ℕ) → IsNumbered marks → node_of key ballot marks ≡ Some node
    → Reaches key (Some ballot) marks entries (suc count) → Reaches key node.from marks entries count
reach_next key ballot marks node entries count numbered is r =
    let tells = node_history numbered (node_tells key ballot marks node is) (λ none. absurd (omega (arith, r.long, ap length none))) in
    let entry = entry_of tells.older tells.proposal in
    record {
      begins = prefix_trans (record { rest = entry ∷ []; joins = tells.chain_is }) r.begins;
      long = omega (arith, r.long, ap length tells.chain_is, length_last (chain_from key node.from marks) entry);
    }

-- ---- the end
-- where the front has as many entries as another history, that begins the entries exactly where the walk arrives at its ballot
pub arrives : (key : List ℕ) (top : Ballot) (found : Option Ballot) (marks : List Mark) (entries : List Entry) → IsNumbered marks → Reaches key found marks entries (length (chain_of key top marks))
    → IsPrefix (chain_of key top marks) entries → (length (chain_of key top marks) ≡ 0) ⊎ (found ≡ Some top)
arrives key top None marks entries numbered r p = inl (sym r.long)
arrives key top (Some ballot) marks entries numbered r p = elim (one_chain key top ballot numbered (one_front p r.begins (sym r.long))) [
  | inl none ↦ inl (ap length none)
  | inr same ↦ inr (ap Some (sym same))
]

pub arrived : (key : List ℕ) (top : Ballot) (found : Option Ballot) (marks : List Mark) (entries : List Entry) → Reaches key found marks entries (length (chain_of key top marks))
    → found ≡ Some top → IsPrefix (chain_of key top marks) entries
arrived key top found marks entries r is = subst (λ (o : Option Ballot). IsPrefix (chain_from key o marks) entries) is r.begins

pub empty_begins : {A : Type 0} (xs ys : List A) → length xs ≡ 0 → IsPrefix xs ys
empty_begins xs ys e = subst (λ zs. IsPrefix zs ys) (sym (nil_of_length xs e)) (record { rest = ys; joins = refl })
