-- What the tests of the definitions tell.
use Rattle.std.proofs.Common.{◌≡◌, ℕ, suc, ◌≤◌, Bool, true, false, not, List, cond, arith, refl, ap, subst}
use Rattle.std.specs.Prelude.{◌⊎◌, ◌&&◌, ◌||◌, ◌==◌}
use Rattle.std.specs.declared.cmp.Ordering.{Ordering}
use Rattle.std.specs.declared.cmp.Ordering.TheVariants.{Less, Equal, Greater}
use Rattle.std.specs.Ordering.{is_lt, is_eq, MatchOrdering}
use Rattle.std.proofs.lemmas.Bool.Decides.{eqb_tells}
use mathlib.Core.Logic.{inl, inr}
use lib.Pointwise.{bytes_decides}
use Rattle.cas_base.proofs.Bools.{and_left, and_right, both_true, not_of_false, not_tells, not_both, false_of_not}
use Rattle.cas_ballot.specs.declared.ballot.Ballot.{Ballot}
use Rattle.cas_ballot.specs.Ballot.{ballot_cmp, zero_ballot, greater_of, BallotAtMost, BallotLess}
use Rattle.cas_ballot.proofs.BallotLemmas.{compared, cmp_refl, at_most_refl, at_most_greater_left, at_most_greater_right, greater_cases, cmp_of_less}
use Rattle.cas_record.specs.declared.mark.Proposal.{Proposal}
use Rattle.cas_record.specs.Histories.Chain.{is_key, is_ballot, is_proposal, is_call}
use Rattle.cas_record.specs.Logs.Lawful.{is_slot}

-- ---- choices
pub if_both : {A : Type 0} (b : Bool) (x y z : A) → x ≡ z → y ≡ z → cond b x y ≡ z
if_both true x y z e f = e
if_both false x y z e f = f

pub neither : (a b : Bool) → a ≡ false → b ≡ false → (a || b) ≡ false
neither true b e f = e
neither false b e f = f

pub neither_left : (a b : Bool) → (a || b) ≡ false → a ≡ false
neither_left true b e = e
neither_left false b e = refl

pub neither_right : (a b : Bool) → (a || b) ≡ false → b ≡ false
neither_right true b e = absurd cc
neither_right false b e = e

-- ---- keys, ballots and calls
pub key_same : {a b : List ℕ} → is_key a b ≡ true → a ≡ b
key_same {a} {b} e = (bytes_decides a b).0 e

pub key_is : {a b : List ℕ} → a ≡ b → is_key a b ≡ true
key_is {a} {b} e = (bytes_decides a b).1 e

pub key_refl : (key : List ℕ) → is_key key key ≡ true
key_refl key = (bytes_decides key key).1 refl

same_by : (r : Ordering) (a b : Ballot) → MatchOrdering r (BallotLess a b) (a ≡ b) (BallotLess b a) → is_eq r ≡ true → a ≡ b
same_by Less a b p e = absurd cc
same_by Equal a b p e = p
same_by Greater a b p e = absurd cc

pub ballot_same : {a b : Ballot} → is_ballot a b ≡ true → a ≡ b
ballot_same {a} {b} e = same_by (ballot_cmp a b) a b (compared a b) e

pub ballot_is : {a b : Ballot} → a ≡ b → is_ballot a b ≡ true
ballot_is {a} {b} e = subst (λ x. is_ballot a x ≡ true) e (ap is_eq (cmp_refl a))

lt_by : (r : Ordering) (a b : Ballot) → MatchOrdering r (BallotLess a b) (a ≡ b) (BallotLess b a) → is_lt r ≡ true → BallotLess a b
lt_by Less a b p e = p
lt_by Equal a b p e = absurd cc
lt_by Greater a b p e = absurd cc

pub less_tells : {a b : Ballot} → is_lt (ballot_cmp a b) ≡ true → BallotLess a b
less_tells {a} {b} e = lt_by (ballot_cmp a b) a b (compared a b) e

pub less_is : {a b : Ballot} → BallotLess a b → is_lt (ballot_cmp a b) ≡ true
less_is p = ap is_lt (cmp_of_less p)

pub nat_same : {a b : ℕ} → (a == b) ≡ true → a ≡ b
nat_same {a} {b} e = elim (eqb_tells a b) [ inl same ↦ same.1 | inr other ↦ absurd (not_both (a == b) e other.0) ]

pub nat_is : {a b : ℕ} → a ≡ b → (a == b) ≡ true
nat_is {a} {b} e = elim (eqb_tells a b) [ inl same ↦ same.0 | inr other ↦ absurd (other.1 e) ]

pub call_same : {caller call c n : ℕ} → is_call caller call c n ≡ true → (c ≡ caller) × (n ≡ call)
call_same {caller} {call} {c} {n} e = (nat_same (and_left (c == caller) (n == call) e), nat_same (and_right (c == caller) (n == call) e))

pub call_is : {caller call c n : ℕ} → c ≡ caller → n ≡ call → is_call caller call c n ≡ true
call_is {caller} {call} {c} {n} p q = both_true (c == caller) (n == call) (nat_is p) (nat_is q)

-- ---- proposals of a ballot
pub record IsProposalOf (key : List ℕ) (ballot : Ballot) (p : Proposal) : Type 0 where
  pub same_key : p.key ≡ key
  pub same_ballot : p.ballot ≡ ballot
  pub not_zero : ballot ≡ zero_ballot → ⊥

pub proposal_tells : (key : List ℕ) (ballot : Ballot) (p : Proposal) → is_proposal key ballot p ≡ true → IsProposalOf key ballot p
proposal_tells key ballot p e =
    let rest : (is_ballot p.ballot ballot && not (is_ballot ballot zero_ballot)) ≡ true = and_right (is_key p.key key) _ e in
    record {
      same_key = key_same (and_left (is_key p.key key) _ e);
      same_ballot = ballot_same (and_left (is_ballot p.ballot ballot) _ rest);
      not_zero = λ z. not_both (is_ballot ballot zero_ballot) (ballot_is z) (not_tells (is_ballot ballot zero_ballot) (and_right (is_ballot p.ballot ballot) _ rest));
    }

pub proposal_is : {key : List ℕ} {ballot : Ballot} {p : Proposal} → IsProposalOf key ballot p → is_proposal key ballot p ≡ true
proposal_is {key} {ballot} {p} of =
    both_true (is_key p.key key) _ (key_is of.same_key)
    (both_true (is_ballot p.ballot ballot) _ (ballot_is of.same_ballot)
    (not_of_false (is_ballot ballot zero_ballot) (false_of_not _ (λ e. of.not_zero (ballot_same e)))))

-- ---- the greater of what is met so far and one more, where a test lets it
pub step_right : (t : Bool) (x y : Ballot) → BallotAtMost y (cond t (greater_of x y) y)
step_right true x y = at_most_greater_right x y
step_right false x y = at_most_refl y

pub step_left : (t : Bool) (x y : Ballot) → t ≡ true → BallotAtMost x (cond t (greater_of x y) y)
step_left true x y e = at_most_greater_left x y
step_left false x y e = absurd cc

pub step_cases : (t : Bool) (x y : Ballot) → (cond t (greater_of x y) y ≡ y) ⊎ ((t ≡ true) × (cond t (greater_of x y) y ≡ x))
step_cases true x y = elim (greater_cases x y) [ inl left ↦ inr (refl, left.0) | inr right ↦ inl right.0 ]
step_cases false x y = inl refl

pub step_up : (b : Bool) (n : ℕ) → n ≤ cond b (suc n) n
step_up true n = omega arith
step_up false n = omega arith

-- ---- slots
pub slot_same : {acceptor a : ℕ} {key k : List ℕ} → is_slot acceptor key a k ≡ true → (a ≡ acceptor) × (k ≡ key)
slot_same {acceptor} {a} {key} {k} e = (nat_same {a = a} {b = acceptor} (and_left (a == acceptor) (is_key k key) e), key_same (and_right (a == acceptor) (is_key k key) e))
