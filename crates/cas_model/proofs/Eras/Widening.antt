-- A cluster gets new eras, one after another: what it had stays, and its quorums still meet.
use Rattle.std.proofs.Common.{◌≡◌, ◌≤◌, ◌<◌, ℕ, ◌+◌, suc, true, List, [], ◌∷◌, length, refl, sym, ap, subst, ◌∙◌, inl, inr, arith}
use Rattle.std.specs.Prelude.{◌⊎◌, ◌||◌, ◌==◌, if◌then◌else◌, Contains}
use Rattle.cas_base.proofs.Bools.{if_true, if_false, or_left, or_right, or_cases, false_of_not, not_both}
use Rattle.cas_ballot.specs.Members.{has_member, union_of}
use Rattle.cas_ballot.proofs.MemberLemmas.{members_where_tells, has-members_where}
use Rattle.cas_quorum.specs.declared.era.Era.{Era}
use Rattle.cas_quorum.specs.Era.{holds_prep, holds_acc, Meet, NeighboursMeet}
use Rattle.cas_quorum.specs.Quorum.{Shared}
use Rattle.cas_quorum.proofs.Counting.{quorums_share}
use Rattle.cas_record.specs.Logs.Lawful.{Cluster, ClusterMeets, IsWidened}
use Rattle.cas_record.proofs.Tests.{nat_same, nat_is}
use Rattle.cas_round.proofs.Lists.{has, contains}
use Rattle.cas_model.specs.Eras.Course.{Follows, IsNoEra}
use Rattle.cas_model.specs.Parties.{IsEraOf}
use Rattle.cas_model.proofs.Frames.Harms.{member_low}
use Rattle.cas_model.proofs.Places.{same_or_not, contains_none}
use Rattle.cas_model.proofs.Eras.Plans.{IsMemberOfOne, AreNext}

-- ---- one at a number
-- this at the number, and elsewhere what was there
abbrev at_number : {A : Type 0} → ℕ → A → (ℕ → A) → ℕ → A
at_number number new old n = if number == n then new else old n

own : {A : Type 0} (number : ℕ) (new : A) (old : ℕ → A) → at_number number new old number ≡ new
own number new old = if_true (number == number) new (old number) (nat_is refl)

elsewhere : {A : Type 0} (number : ℕ) (new : A) (old : ℕ → A) (n : ℕ) → (n ≡ number → ⊥) → at_number number new old n ≡ old n
elsewhere number new old n other = if_false (number == n) new (old n) (false_of_not (number == n) (λ same. other (sym (nat_same same))))

-- ---- one era more
abbrev with_era : Cluster → Era → Cluster
with_era cluster next = record {
  last_proposer = cluster.last_proposer;
  members = at_number next.number (union_of next.prep next.acc) cluster.members;
  prepares = λ n by. at_number next.number (holds_prep next by) (λ k. cluster.prepares k by) n;
  accepts = λ n by. at_number next.number (holds_acc next by) (λ k. cluster.accepts k by) n;
}

own_prepares : (cluster : Cluster) (next : Era) (n : ℕ) (by : List ℕ) → n ≡ next.number → (with_era cluster next).prepares n by ≡ holds_prep next by
own_prepares cluster next n by same = ap (λ (k : ℕ). (with_era cluster next).prepares k by) same ∙ own next.number (holds_prep next by) (λ k. cluster.prepares k by)

own_accepts : (cluster : Cluster) (next : Era) (n : ℕ) (by : List ℕ) → n ≡ next.number → (with_era cluster next).accepts n by ≡ holds_acc next by
own_accepts cluster next n by same = ap (λ (k : ℕ). (with_era cluster next).accepts k by) same ∙ own next.number (holds_acc next by) (λ k. cluster.accepts k by)

other_prepares : (cluster : Cluster) (next : Era) (n : ℕ) (by : List ℕ) → (n ≡ next.number → ⊥) → (with_era cluster next).prepares n by ≡ cluster.prepares n by
other_prepares cluster next n by other = elsewhere next.number (holds_prep next by) (λ k. cluster.prepares k by) n other

other_accepts : (cluster : Cluster) (next : Era) (n : ℕ) (by : List ℕ) → (n ≡ next.number → ⊥) → (with_era cluster next).accepts n by ≡ cluster.accepts n by
other_accepts cluster next n by other = elsewhere next.number (holds_acc next by) (λ k. cluster.accepts k by) n other

other_members : (cluster : Cluster) (next : Era) (n : ℕ) → (n ≡ next.number → ⊥) → (with_era cluster next).members n ≡ cluster.members n
other_members cluster next n other = elsewhere next.number (union_of next.prep next.acc) cluster.members n other

-- what it has at another number stays
keeps_era : (cluster : Cluster) (next era : Era) → (era.number ≡ next.number → ⊥) → IsEraOf cluster era → IsEraOf (with_era cluster next) era
keeps_era cluster next era other is = record {
  prep_members = λ acceptor member. subst (λ (l : List ℕ). has_member l acceptor ≡ true) (sym (other_members cluster next era.number other)) (is.prep_members acceptor member);
  acc_members = λ acceptor member. subst (λ (l : List ℕ). has_member l acceptor ≡ true) (sym (other_members cluster next era.number other)) (is.acc_members acceptor member);
  only_members = λ acceptor member. is.only_members acceptor (subst (λ (l : List ℕ). has_member l acceptor ≡ true) (other_members cluster next era.number other) member);
  prepares = λ by. other_prepares cluster next era.number by other ∙ is.prepares by;
  accepts = λ by. other_accepts cluster next era.number by other ∙ is.accepts by;
  prep_set = is.prep_set;
  acc_set = is.acc_set;
  sized = is.sized;
}

keeps_none : (cluster : Cluster) (next : Era) (number : ℕ) → (number ≡ next.number → ⊥) → IsNoEra cluster number → IsNoEra (with_era cluster next) number
keeps_none cluster next number other none = record {
  members = other_members cluster next number other ∙ none.members;
  prepares = λ by. other_prepares cluster next number by other ∙ none.prepares by;
  accepts = λ by. other_accepts cluster next number by other ∙ none.accepts by;
}

-- and the era is one of it
has_era : (cluster : Cluster) (base next : Era) → Follows base next → IsEraOf (with_era cluster next) next
has_era cluster base next follows = record {
  prep_members = λ acceptor member. in_union acceptor (member_low next.prep acceptor follows.prep_set member) (or_left (has_member next.prep acceptor) (has_member next.acc acceptor) member);
  acc_members = λ acceptor member. in_union acceptor (member_low next.acc acceptor follows.acc_set member) (or_right (has_member next.prep acceptor) (has_member next.acc acceptor) member);
  only_members = λ acceptor member. or_cases (has_member next.prep acceptor) (has_member next.acc acceptor) (members_where_tells (λ n. has_member next.prep n || has_member next.acc n) acceptor
      (subst (λ (l : List ℕ). has_member l acceptor ≡ true) (own next.number (union_of next.prep next.acc) cluster.members) member));
  prepares = λ by. own_prepares cluster next next.number by refl;
  accepts = λ by. own_accepts cluster next next.number by refl;
  prep_set = follows.prep_set;
  acc_set = follows.acc_set;
  sized = follows.sized;
}
  where
    in_union : (acceptor : ℕ) → acceptor < 64 → (has_member next.prep acceptor || has_member next.acc acceptor) ≡ true → has_member ((with_era cluster next).members next.number) acceptor ≡ true
    in_union acceptor low either = ap (λ (l : List ℕ). has_member l acceptor) (own next.number (union_of next.prep next.acc) cluster.members)
        ∙ has-members_where (λ n. has_member next.prep n || has_member next.acc n) acceptor low ∙ either

-- ---- after the last era
-- the quorums of the cluster meet, and this is its last era
record IsLastEra (cluster : Cluster) (base : Era) : Type 0 where
  pub meets : ClusterMeets cluster
  pub is_era : IsEraOf cluster base
  pub none_beyond : (number : ℕ) → base.number < number → IsNoEra cluster number

new_meets : (cluster : Cluster) (base next : Era) → Follows base next → Meet base next → Meet next next → IsLastEra cluster base → ClusterMeets (with_era cluster next)
new_meets cluster base next follows neighbours same last m n low high prepared accepted prepares accepts = by_number (same_or_not m next.number) (same_or_not n next.number)
  where
    -- of the numbers around that of the new era only that of the base has quorums
    around : (k : ℕ) → (k ≡ next.number → ⊥) → k ≤ suc next.number → next.number ≤ suc k → (k ≡ base.number) ⊎ IsNoEra cluster k
    around k other below above = elim (same_or_not k base.number) [
      | inl base_so ↦ inl base_so
      | inr not_base ↦ inr (last.none_beyond k (omega (arith, other, below, above, not_base, follows.number)))
    ]

    new_prepares : m ≡ next.number → holds_prep next prepared ≡ true
    new_prepares is = sym (own_prepares cluster next m prepared is) ∙ prepares

    new_accepts : n ≡ next.number → holds_acc next accepted ≡ true
    new_accepts is = sym (own_accepts cluster next n accepted is) ∙ accepts

    old_prepares : (m ≡ next.number → ⊥) → cluster.prepares m prepared ≡ true
    old_prepares other = sym (other_prepares cluster next m prepared other) ∙ prepares

    old_accepts : (n ≡ next.number → ⊥) → cluster.accepts n accepted ≡ true
    old_accepts other = sym (other_accepts cluster next n accepted other) ∙ accepts

    after_base : (m ≡ base.number) ⊎ IsNoEra cluster m → (m ≡ next.number → ⊥) → n ≡ next.number → Shared prepared accepted
    after_base (inl is) other new =
        quorums_share base next neighbours prepared accepted (sym (last.is_era.prepares prepared) ∙ subst (λ (k : ℕ). cluster.prepares k prepared ≡ true) is (old_prepares other)) (new_accepts new)
    after_base (inr none) other new = absurd (not_both (cluster.prepares m prepared) (old_prepares other) (none.prepares prepared))

    before_base : (n ≡ base.number) ⊎ IsNoEra cluster n → m ≡ next.number → (n ≡ next.number → ⊥) → Shared prepared accepted
    before_base (inl is) new other =
        quorums_share next base (record { forth = neighbours.back; back = neighbours.forth }) prepared accepted (new_prepares new)
        (sym (last.is_era.accepts accepted) ∙ subst (λ (k : ℕ). cluster.accepts k accepted ≡ true) is (old_accepts other))
    before_base (inr none) new other = absurd (not_both (cluster.accepts n accepted) (old_accepts other) (none.accepts accepted))

    by_number : (m ≡ next.number) ⊎ (m ≡ next.number → ⊥) → (n ≡ next.number) ⊎ (n ≡ next.number → ⊥) → Shared prepared accepted
    by_number (inl m_is) (inl n_is) = quorums_share next next same prepared accepted (new_prepares m_is) (new_accepts n_is)
    by_number (inl m_is) (inr n_other) = before_base (around n n_other (omega (arith, m_is, high)) (omega (arith, m_is, low))) m_is n_other
    by_number (inr m_other) (inl n_is) = after_base (around m m_other (omega (arith, n_is, low)) (omega (arith, n_is, high))) m_other n_is
    by_number (inr m_other) (inr n_other) = last.meets m n low high prepared accepted (old_prepares m_other) (old_accepts n_other)

new_last : (cluster : Cluster) (base next : Era) → Follows base next → Meet base next → Meet next next → IsLastEra cluster base → IsLastEra (with_era cluster next) next
new_last cluster base next follows neighbours same last = record {
  meets = new_meets cluster base next follows neighbours same last;
  is_era = has_era cluster base next follows;
  none_beyond = λ number far. keeps_none cluster next number (λ is. omega (arith, is, far)) (last.none_beyond number (omega (arith, far, follows.number)));
}

new_widened : (cluster : Cluster) (next : Era) → IsNoEra cluster next.number → IsWidened cluster (with_era cluster next)
new_widened cluster next none = record {
  last_proposer = refl;
  members = λ era acceptor member. elim (same_or_not era next.number) [
    | inl new ↦ absurd (nobody (cluster.members era) acceptor (ap cluster.members new ∙ none.members) member)
    | inr other ↦ subst (λ (l : List ℕ). has_member l acceptor ≡ true) (sym (other_members cluster next era other)) member
  ];
  prepares = λ era by quorum. elim (same_or_not era next.number) [
    | inl new ↦ absurd (not_both (cluster.prepares era by) quorum (ap (λ (k : ℕ). cluster.prepares k by) new ∙ none.prepares by))
    | inr other ↦ other_prepares cluster next era by other ∙ quorum
  ];
  accepts = λ era by quorum. elim (same_or_not era next.number) [
    | inl new ↦ absurd (not_both (cluster.accepts era by) quorum (ap (λ (k : ℕ). cluster.accepts k by) new ∙ none.accepts by))
    | inr other ↦ other_accepts cluster next era by other ∙ quorum
  ];
}
  where
    nobody : (members : List ℕ) (acceptor : ℕ) → members ≡ [] → has_member members acceptor ≡ true → ⊥
    nobody members acceptor is_none member = absurd (cc (sym (ap (λ (l : List ℕ). has_member l acceptor) is_none) ∙ member))

-- ---- eras that follow each other
-- the wider cluster has the eras of the other up to the base, and these later ones after it
pub record IsWidening (cluster wider : Cluster) (base : Era) (later : List Era) : Type 0 where
  pub meets : ClusterMeets wider
  pub widened : IsWidened cluster wider
  pub members : (number acceptor : ℕ) → has_member (wider.members number) acceptor ≡ true → (has_member (cluster.members number) acceptor ≡ true) ⊎ IsMemberOfOne later acceptor
  pub keeps : (era : Era) → era.number ≤ base.number → IsEraOf cluster era → IsEraOf wider era
  pub has : (era : Era) → Contains later era → IsEraOf wider era
  pub none_beyond : (number : ℕ) → base.number + length later < number → IsNoEra wider number

widened_same : (cluster : Cluster) → IsWidened cluster cluster
widened_same cluster = record { last_proposer = refl; members = λ era acceptor member. member; prepares = λ era by quorum. quorum; accepts = λ era by quorum. quorum }

widened_on : {old middle new : Cluster} → IsWidened old middle → IsWidened middle new → IsWidened old new
widened_on first second = record {
  last_proposer = second.last_proposer ∙ first.last_proposer;
  members = λ era acceptor member. second.members era acceptor (first.members era acceptor member);
  prepares = λ era by quorum. second.prepares era by (first.prepares era by quorum);
  accepts = λ era by quorum. second.accepts era by (first.accepts era by quorum);
}

meets_itself : (era : Era) (later : List Era) → NeighboursMeet (era ∷ later) → Meet era era
meets_itself era [] meet = meet
meets_itself era (next ∷ later) meet = meet.0

-- its members are those that the cluster had there, or those of the new era
new_member : (cluster : Cluster) (next : Era) (number acceptor : ℕ) → has_member ((with_era cluster next).members number) acceptor ≡ true
    → (has_member (cluster.members number) acceptor ≡ true) ⊎ (has_member (union_of next.prep next.acc) acceptor ≡ true)
new_member cluster next number acceptor member = elim (same_or_not number next.number) [
  | inl is ↦ inr (subst (λ (l : List ℕ). has_member l acceptor ≡ true) (ap (with_era cluster next).members is ∙ own next.number (union_of next.prep next.acc) cluster.members) member)
  | inr other ↦ inl (subst (λ (l : List ℕ). has_member l acceptor ≡ true) (other_members cluster next number other) member)
]

further : (cluster wider : Cluster) (base next : Era) (later : List Era) → Follows base next → IsLastEra cluster base → IsWidening (with_era cluster next) wider next later → IsWidening cluster wider base (next ∷ later)
further cluster wider base next later follows last rest = record {
  meets = rest.meets;
  widened = widened_on (new_widened cluster next (last.none_beyond next.number (omega (arith, follows.number)))) rest.widened;
  members = λ number acceptor member. elim (rest.members number acceptor member) [
    | inl before ↦ elim (new_member cluster next number acceptor before) [
      | inl was ↦ inl was
      | inr new ↦ inr (inl new)
    ]
    | inr there ↦ inr (inr there)
  ];
  keeps = λ era low is. rest.keeps era (omega (arith, low, follows.number)) (keeps_era cluster next era (λ same. omega (arith, same, low, follows.number)) is);
  has = λ era has_it. elim (has era (next ∷ later) has_it) [
    | inl is ↦ subst (IsEraOf wider) is (rest.keeps next (omega arith) (has_era cluster base next follows))
    | inr there ↦ rest.has era (contains era later there)
  ];
  none_beyond = λ number far. rest.none_beyond number (omega (arith, far, follows.number));
}

widens_last : (cluster : Cluster) (base : Era) (later : List Era) → IsLastEra cluster base → AreNext base later → NeighboursMeet (base ∷ later)
    → (wider : Cluster) × IsWidening cluster wider base later
widens_last cluster base [] last follows meet = (
  cluster,
  record {
    meets = last.meets;
    widened = widened_same cluster;
    members = λ number acceptor member. inl member;
    keeps = λ era low is. is;
    has = λ era none. absurd (contains_none none);
    none_beyond = λ number far. last.none_beyond number (omega (arith, far));
  },
)
widens_last cluster base (next ∷ later) last follows meet =
    let rest = widens_last (with_era cluster next) next later (new_last cluster base next follows.0 meet.1 (meets_itself next later meet.2) last) follows.1 meet.2 in
    (rest.0, further cluster rest.0 base next later follows.0 last rest.1)

-- a cluster whose last era is the base can have the later ones too
pub widens : (cluster : Cluster) (base : Era) (later : List Era) → ClusterMeets cluster → IsEraOf cluster base → ((number : ℕ) → base.number < number → IsNoEra cluster number)
    → AreNext base later → NeighboursMeet (base ∷ later) → (wider : Cluster) × IsWidening cluster wider base later
widens cluster base later meets is_era none_beyond follows meet = widens_last cluster base later (record { meets = meets; is_era = is_era; none_beyond = none_beyond }) follows meet
