-- The same replies have one verdict.
use Rattle.std.proofs.Common.{◌≡◌, ℕ, ◌≤◌, Bool, true, false, List, [], arith, refl, sym, ◌∙◌, ap, subst}
use Rattle.std.specs.Prelude.{Option, None, Some, ◌==◌, ◌&&◌, Contains, option_map}
use Rattle.cas_ballot.specs.declared.ballot.Ballot.{Ballot}
use Rattle.cas_ballot.specs.Ballot.{BallotAtMost}
use Rattle.cas_ballot.proofs.BallotLemmas.{at_most_antisym}
use Rattle.cas_ballot.proofs.MemberLemmas.{members_where_same}
use Rattle.cas_quorum.specs.Quorum.{has_quorum, count_in}
use Rattle.cas_slot.specs.declared.slot.Accepted.{Accepted}
use Rattle.cas_slot.specs.declared.message.Phase.{Phase}
use Rattle.cas_slot.specs.declared.message.Reply.{Reply}
use Rattle.cas_slot.specs.declared.message.Tell.{Tell}
use Rattle.cas_round.specs.declared.verdict.RoundVerdict.{RoundVerdict}
use Rattle.cas_round.specs.declared.verdict.RoundVerdict.TheVariants.{Quorum, Met, Aged, Full, Short}
use Rattle.cas_round.specs.Replies.{heard, is_prepare, is_accept, is_promise, is_acceptance, confirmers_of, met_by, age_by, mets_of, ages_of, fulls_of, accepteds_of}
use Rattle.cas_round.specs.Round.{IsGreatest, AgeAtMost, IsNoLess, AcceptedAtMost, GreatestOf, IsRoundVerdict}
use Rattle.cas_base.proofs.Bools.{some_is}
use Rattle.cas_round.specs.Laws.{SameReplies, OneVerdict, OneRead}
use Rattle.cas_round.proofs.Lists.{Has, has, contains, IsListWithin, within_filter, within_map, same_any, nothing_within}

-- ---- the greatest of lists with the same elements
-- what stands in a list is at most its greatest
below : {X : Type 0} (R : X → X → Type 0) (xs : List X) (most x : X) → IsGreatest R xs most → Has x xs → R x most
below R xs most x h stands =
    let place : Contains xs x = contains x xs stands in
    subst (λ y. R y most) place.2 (h.above place.0 x place.1)

most_there : {X : Type 0} (R : X → X → Type 0) (xs ys : List X) (a b : X) → IsListWithin xs ys → IsGreatest R xs a → IsGreatest R ys b → R a b
most_there R xs ys a b w p q = below R ys b a q (w.all a (has a xs p.stands))

none_there : {X : Type 0} (R : X → X → Type 0) (xs ys : List X) (a : X) → IsListWithin xs ys → IsGreatest R xs a → ys ≡ [] → ⊥
none_there R xs ys a w p e = nothing_within xs ys a w e (has a xs p.stands)

-- ---- what both lists tell
record SameTold (confirms : Tell → Bool) (xs ys : List Reply) : Type 0 where
  confirmed : confirmers_of confirms xs ≡ confirmers_of confirms ys
  mets : IsListWithin (mets_of xs) (mets_of ys)
  mets_back : IsListWithin (mets_of ys) (mets_of xs)
  ages : IsListWithin (ages_of xs) (ages_of ys)
  ages_back : IsListWithin (ages_of ys) (ages_of xs)
  fulls : IsListWithin (fulls_of xs) (fulls_of ys)
  fulls_back : IsListWithin (fulls_of ys) (fulls_of xs)

same_told : (confirms : Tell → Bool) (xs ys : List Reply) → IsListWithin xs ys → IsListWithin ys xs → SameTold confirms xs ys
same_told confirms xs ys there back = record {
  confirmed = members_where_same _ _ (λ n small. same_any (λ reply. (reply.from == n) && confirms reply.tell) xs ys there back);
  mets = within_map (λ reply. met_by reply.tell) xs ys there;
  mets_back = within_map (λ reply. met_by reply.tell) ys xs back;
  ages = within_map (λ reply. age_by reply.tell) xs ys there;
  ages_back = within_map (λ reply. age_by reply.tell) ys xs back;
  fulls = within_map _ xs ys there;
  fulls_back = within_map _ ys xs back;
}

quorum_same : (members : List ℕ) (need : ℕ) (confirms : Tell → Bool) (xs ys : List Reply) → SameTold confirms xs ys
    → has_quorum need members (confirmers_of confirms xs) ≡ has_quorum need members (confirmers_of confirms ys)
quorum_same members need confirms xs ys same = ap (λ by. has_quorum need members by) same.confirmed

differ : (a b : Bool) → a ≡ b → a ≡ true → b ≡ false → ⊥
differ a b e p q = cc (e, p, q)

one : (members : List ℕ) (need : ℕ) (confirms : Tell → Bool) (xs ys : List Reply) → SameTold confirms xs ys
    → (v w : RoundVerdict) → IsRoundVerdict members need confirms xs v → IsRoundVerdict members need confirms ys w → v ≡ w
one members need confirms xs ys same Quorum Quorum p q = refl
one members need confirms xs ys same Quorum other p q = absurd (differ _ _ (quorum_same members need confirms xs ys same) p q.0)
one members need confirms xs ys same (Met b) Quorum p q = absurd (differ _ _ (sym (quorum_same members need confirms xs ys same)) q p.0)
one members need confirms xs ys same (Met b) (Met c) p q =
    ap Met (at_most_antisym (most_there BallotAtMost (mets_of xs) (mets_of ys) b c same.mets p.1 q.1) (most_there BallotAtMost (mets_of ys) (mets_of xs) c b same.mets_back q.1 p.1))
one members need confirms xs ys same (Met b) other p q = absurd (none_there BallotAtMost (mets_of xs) (mets_of ys) b same.mets p.1 q.1)
one members need confirms xs ys same (Aged a) Quorum p q = absurd (differ _ _ (sym (quorum_same members need confirms xs ys same)) q p.0)
one members need confirms xs ys same (Aged a) (Met c) p q = absurd (none_there BallotAtMost (mets_of ys) (mets_of xs) c same.mets_back q.1 p.1)
one members need confirms xs ys same (Aged a) (Aged c) p q =
    let up : a ≤ c = most_there AgeAtMost (ages_of xs) (ages_of ys) a c same.ages p.2 q.2 in
    let down : c ≤ a = most_there AgeAtMost (ages_of ys) (ages_of xs) c a same.ages_back q.2 p.2 in
    ap Aged (omega arith)
one members need confirms xs ys same (Aged a) other p q = absurd (none_there AgeAtMost (ages_of xs) (ages_of ys) a same.ages p.2 q.2)
one members need confirms xs ys same (Full a) Quorum p q = absurd (differ _ _ (sym (quorum_same members need confirms xs ys same)) q p.0)
one members need confirms xs ys same (Full a) (Met c) p q = absurd (none_there BallotAtMost (mets_of ys) (mets_of xs) c same.mets_back q.1 p.1)
one members need confirms xs ys same (Full a) (Aged c) p q = absurd (none_there AgeAtMost (ages_of ys) (ages_of xs) c same.ages_back q.2 p.2)
one members need confirms xs ys same (Full a) (Full c) p q =
    let down : c ≤ a = most_there IsNoLess (fulls_of xs) (fulls_of ys) a c same.fulls p.3 q.3 in
    let up : a ≤ c = most_there IsNoLess (fulls_of ys) (fulls_of xs) c a same.fulls_back q.3 p.3 in
    ap Full (omega arith)
one members need confirms xs ys same (Full a) (Short got needed) p q = absurd (none_there IsNoLess (fulls_of xs) (fulls_of ys) a same.fulls p.3 q.3)
one members need confirms xs ys same (Short got needed) Quorum p q = absurd (differ _ _ (sym (quorum_same members need confirms xs ys same)) q p.0)
one members need confirms xs ys same (Short got needed) (Met c) p q = absurd (none_there BallotAtMost (mets_of ys) (mets_of xs) c same.mets_back q.1 p.1)
one members need confirms xs ys same (Short got needed) (Aged c) p q = absurd (none_there AgeAtMost (ages_of ys) (ages_of xs) c same.ages_back q.2 p.2)
one members need confirms xs ys same (Short got needed) (Full c) p q = absurd (none_there IsNoLess (fulls_of ys) (fulls_of xs) c same.fulls_back q.3 p.3)
one members need confirms xs ys same (Short got needed) (Short got' needed') p q =
    let counts : got ≡ got' = p.4 ∙ ap (count_in members) same.confirmed ∙ sym q.4 in
    let needs : needed ≡ needed' = p.5 ∙ sym q.5 in
    ap (λ n. Short n needed) counts ∙ ap (λ n. Short got' n) needs

there_of : (xs ys : List Reply) → SameReplies xs ys → IsListWithin xs ys
there_of xs ys same = record { all = λ reply h. has reply ys (same.forth reply (contains reply xs h)) }

back_of : (xs ys : List Reply) → SameReplies xs ys → IsListWithin ys xs
back_of xs ys same = record { all = λ reply h. has reply xs (same.back reply (contains reply ys h)) }

heard_same : (confirms : Tell → Bool) (is_phase : Phase → Bool) (ballot : Ballot) (xs ys : List Reply) → SameReplies xs ys
    → SameTold confirms (heard is_phase ballot xs) (heard is_phase ballot ys)
heard_same confirms is_phase ballot xs ys same =
    same_told confirms (heard is_phase ballot xs) (heard is_phase ballot ys)
    (within_filter _ xs ys (there_of xs ys same))
    (within_filter _ ys xs (back_of xs ys same))

pub one_verdict : OneVerdict
one_verdict era ballot xs ys same v w = (
  one era.prep era.need_prep is_promise (heard is_prepare ballot xs) (heard is_prepare ballot ys) (heard_same is_promise is_prepare ballot xs ys same) v w,
  one era.acc era.need_acc is_acceptance (heard is_accept ballot xs) (heard is_accept ballot ys) (heard_same is_acceptance is_accept ballot xs ys same) v w,
)

-- ---- what is read
read_same : (xs ys : List Accepted) → IsListWithin xs ys → IsListWithin ys xs → (a b : Option Accepted) → GreatestOf AcceptedAtMost xs a → GreatestOf AcceptedAtMost ys b
    → option_map (λ (read : Accepted). read.ballot) a ≡ option_map (λ (read : Accepted). read.ballot) b
read_same xs ys there back None None p q = refl
read_same xs ys there back None (Some b) p q = absurd (none_there AcceptedAtMost ys xs b back q p)
read_same xs ys there back (Some a) None p q = absurd (none_there AcceptedAtMost xs ys a there p q)
read_same xs ys there back (Some a) (Some b) p q =
    ap Some (at_most_antisym (most_there AcceptedAtMost xs ys a b there p q) (most_there AcceptedAtMost ys xs b a back q p))

state_same : (xs ys : List Accepted) → IsListWithin ys xs → (a b : Option Accepted) → GreatestOf AcceptedAtMost xs a → GreatestOf AcceptedAtMost ys b
    → option_map (λ (read : Accepted). read.ballot) a ≡ option_map (λ (read : Accepted). read.ballot) b
    → ((p q : Accepted) → Contains xs p → Contains xs q → p.ballot ≡ q.ballot → p ≡ q) → a ≡ b
state_same xs ys back None None p q same one = refl
state_same xs ys back None (Some b) p q same one = absurd (cc)
state_same xs ys back (Some a) None p q same one = absurd (cc)
state_same xs ys back (Some a) (Some b) p q same one =
    ap Some (one a b p.stands (contains b xs (back.all b (has b ys q.stands))) (some_is a.ballot b.ballot same))

pub one_read : OneRead
one_read ballot xs ys same a b p q =
    let told = accepteds_of (heard is_prepare ballot xs) in
    let told' = accepteds_of (heard is_prepare ballot ys) in
    let there : IsListWithin told told' = within_map _ (heard is_prepare ballot xs) (heard is_prepare ballot ys) (within_filter _ xs ys (there_of xs ys same)) in
    let back : IsListWithin told' told = within_map _ (heard is_prepare ballot ys) (heard is_prepare ballot xs) (within_filter _ ys xs (back_of xs ys same)) in
    let ballots : option_map (λ (read : Accepted). read.ballot) a ≡ option_map (λ (read : Accepted). read.ballot) b = read_same told told' there back a b p q in
    (ballots, λ one. state_same told told' back a b p q ballots one)
