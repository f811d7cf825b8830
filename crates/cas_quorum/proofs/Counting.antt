-- Quorums that are together larger than their sets share an acceptor, and majorities are.
use Rattle.std.proofs.Common.{◌≡◌, ℕ, ◌+◌, suc, ◌<◌, ◌≤◌, Bool, true, false, List, length, arith, refl, ap}
use Rattle.std.specs.Prelude.{◌&&◌, ◌||◌}
use Rattle.std.proofs.lemmas.Bool.Decides.{leb_tells}
use mathlib.Core.Logic.{inl, inr}
use Rattle.cas_ballot.specs.Members.{has_member, members_where, union_of, IsMemberSet}
use Rattle.cas_ballot.proofs.CountLemmas.{length-apart, length-within, someone, Passes, IsWithin, IsWithin-same, union_within, union_around}
use Rattle.cas_quorum.specs.declared.era.Era.{Era}
use Rattle.cas_quorum.specs.Quorum.{count_in, has_quorum, majority_of, SizesMeet, Shared}
use Rattle.cas_quorum.specs.Era.{holds_prep, holds_acc, Meet}

-- an acceptor that is in either set's part is in the sets together
within_either : (p a q b : Bool) → ((p && a) || (q && b)) ≡ true → (p || q) ≡ true
within_either true a q b e = refl
within_either false a true b e = refl
within_either false a false b e = e

both_left : (a b : Bool) → (a && b) ≡ true → a ≡ true
both_left true b e = refl
both_left false b e = e

both_right : (a b : Bool) → (a && b) ≡ true → b ≡ true
both_right true b e = e
both_right false b e = absurd (cc e)

-- an acceptor of both sets that is in both parts is shared by the parts
shared : (prep acc prepared accepted : List ℕ)
    → Passes (λ n. (has_member prep n && has_member prepared n) && (has_member acc n && has_member accepted n)) → Shared prepared accepted
shared prep acc prepared accepted one =
    let left : (has_member prep one.acceptor && has_member prepared one.acceptor) ≡ true = both_left _ (has_member acc one.acceptor && has_member accepted one.acceptor) one.passes in
    let right : (has_member acc one.acceptor && has_member accepted one.acceptor) ≡ true = both_right (has_member prep one.acceptor && has_member prepared one.acceptor) _ one.passes in
    record {
      acceptor = one.acceptor;
      left = both_right (has_member prep one.acceptor) _ left;
      right = both_right (has_member acc one.acceptor) _ right;
    }

-- parts of two sets that are together more than the sets share an acceptor
parts_share : (prep acc prepared accepted : List ℕ)
    → length (union_of prep acc) < count_in prep prepared + count_in acc accepted → Shared prepared accepted
parts_share prep acc prepared accepted h =
    let p : ℕ → Bool = λ n. has_member prep n && has_member prepared n in
    let q : ℕ → Bool = λ n. has_member acc n && has_member accepted n in
    let inside : length (members_where (λ n. p n || q n)) ≤ length (union_of prep acc)
    = length-within (λ n. p n || q n) (λ n. has_member prep n || has_member acc n)
    (λ n small e. within_either (has_member prep n) (has_member prepared n) (has_member acc n) (has_member accepted n) e) in
    shared prep acc prepared accepted (someone (λ n. p n && q n) (omega (arith, length-apart p q, inside)))

-- a test for a quorum tells that there is one
quorum_tells : (need : ℕ) (set by : List ℕ) → has_quorum need set by ≡ true → need ≤ count_in set by
quorum_tells need set by e = elim (leb_tells need (count_in set by)) [ inl low ↦ low.1 | inr high ↦ absurd (cc (e, high.0)) ]

-- quorums whose sizes are together more than their two sets have share an acceptor
pub sizes_share : (prep acc : List ℕ) (need_prep need_acc : ℕ) → SizesMeet prep need_prep acc need_acc → (prepared accepted : List ℕ)
    → has_quorum need_prep prep prepared ≡ true → has_quorum need_acc acc accepted ≡ true → Shared prepared accepted
sizes_share prep acc need_prep need_acc meet prepared accepted e f =
    parts_share prep acc prepared accepted (omega (arith, meet, quorum_tells need_prep prep prepared e, quorum_tells need_acc acc accepted f))

-- and so do quorums of eras that meet
pub quorums_share : (a b : Era) → Meet a b → (prepared accepted : List ℕ)
    → holds_prep a prepared ≡ true → holds_acc b accepted ≡ true → Shared prepared accepted
quorums_share a b meet prepared accepted e f = sizes_share a.prep b.acc a.need_prep b.need_acc meet.forth prepared accepted e f

-- ---- majorities
-- two sets of which one has all of the other, and at most one more
pub data IsNear (a b : List ℕ) : Type 0 where
  grows : IsMemberSet b → IsWithin a b → length b ≤ suc (length a) → IsNear a b
  shrinks : IsMemberSet a → IsWithin b a → length a ≤ suc (length b) → IsNear a b

large : (m n : ℕ) → n ≤ suc m → n < majority_of m + majority_of n
large m n h = omega arith

large_back : (m n : ℕ) → m ≤ suc n → m < majority_of m + majority_of n
large_back m n h = omega arith

-- majorities of near sets meet
pub majorities_meet : (a b : List ℕ) → IsNear a b → SizesMeet a (majority_of (length a)) b (majority_of (length b))
majorities_meet a b (grows set within more) = omega (arith, ap length (union_within a b set within), large (length a) (length b) more)
majorities_meet a b (shrinks set within more) = omega (arith, ap length (union_around b a set within), large_back (length a) (length b) more)

pub IsNear-same : (a : List ℕ) → IsMemberSet a → IsNear a a
IsNear-same a set = grows set (IsWithin-same a) (omega arith)
