-- What members agree on: that a quorum of each phase told it, and that nothing else fits what they told.
use Rattle.std.proofs.Common.{◌≡◌, ℕ, ◌+◌, suc, zero, ◌<◌, Bool, true, false, not, cond, List, [], ◌∷◌, length, take, get_or, Option, Some, None, refl, sym, ap, ◌∙◌, subst, arith}
use Rattle.std.specs.Prelude.{◌⊎◌, ◌&&◌, ◌||◌, ◌==◌, MatchOption, is_some, option_map}
use Rattle.std.specs.List.{list_any, Contains}
use Rattle.std.specs.Ordering.{is_lt, ord_min, ord_max}
use Rattle.std.proofs.lemmas.Bool.{and_parts, and_from, or_cases, or_parts, or_left, or_right, both_ways, not-false, false_from_ne_true, cases_Bool}
use Rattle.std.proofs.lemmas.List.Folds.{list_any_more, list_any_at}
use mathlib.Core.Logic.{inl, inr}
use Rattle.cas_ballot.specs.declared.ballot.Ballot.{Ballot}
use Rattle.cas_ballot.specs.Ballot.{ballot_cmp, zero_ballot, BallotAtMost}
use Rattle.cas_ballot.specs.Members.{members_where, has_member, with_member}
use Rattle.cas_ballot.proofs.BallotLemmas.{at_most_refl, at_most_trans, at_most_antisym, at_most_or_less, at_most_of_less, not_lt_of_at_most}
use Rattle.cas_ballot.proofs.MemberLemmas.{has-members_where, members_where_same, members_where_tells}
use Rattle.cas_quorum.specs.declared.era.Era.{Era}
use Rattle.cas_quorum.specs.Era.{holds_prep, holds_acc, Meet}
use Rattle.cas_quorum.proofs.Counting.{quorums_share}
use Rattle.cas_slot.specs.declared.message.Tell.{Tell}
use Rattle.cas_slot.specs.declared.message.Tell.TheVariants as tell
use Rattle.cas_slot.specs.declared.slot.Accepted.{Accepted}
use Rattle.cas_record.specs.declared.agreement.Agreement.{Agreement}
use Rattle.cas_record.specs.declared.agreement.Agreement.TheVariants.{Value, Short, NotAgreed, OldEra}
use Rattle.cas_record.specs.declared.operator.Probe.{Probe}
use Rattle.cas_record.specs.Histories.Chain.{is_ballot}
use Rattle.cas_record.specs.Agreement.{accepted_told, ballot_told, is_ballot_told, is_of_era, is_kept_in, tells, tells_ballot, tells_in}
use Rattle.cas_record.specs.Agreement.{acceptors_where, tellers, is_told, is_kept, IsLowest, IsHighest}
use Rattle.cas_record.specs.Agreement.{is_agreed, place_of, NoneAgreed, shortfall, BallotsDiffer, IsOfOldEra, IsAgreementOf, TellOnce, HaveOneEra, tells_agreed, IsSpan, has_other_era, IsOtherEra}
use Rattle.cas_record.proofs.Tests.{ballot_same, ballot_is, less_is, nat_same, nat_is}

-- ---- tests
ballot_self : (ballot : Ballot) → is_ballot ballot ballot ≡ true
ballot_self ballot = ballot_is {a = ballot} {b = ballot} refl

nat_self : (n : ℕ) → (n == n) ≡ true
nat_self n = nat_is {a = n} {b = n} refl

-- ---- any of a list
any_implies : {X : Type 0} (P Q : X → Bool) → ((x : X) → P x ≡ true → Q x ≡ true) → (xs : List X) → list_any P xs ≡ true → list_any Q xs ≡ true
any_implies P Q each [] e = absurd cc
any_implies P Q each (x ∷ xs) e = elim (or_cases (P x) (list_any P xs) e) [
  | inl here ↦ or_left (Q x) (list_any Q xs) (each x here)
  | inr later ↦ or_right (Q x) (list_any Q xs) (any_implies P Q each xs later)
]

-- one that passes
one_of : {X : Type 0} (P : X → Bool) (xs : List X) → list_any P xs ≡ true → (x : X) × Contains xs x × (P x ≡ true)
one_of P [] e = absurd cc
one_of P (x ∷ xs) e = elim (or_cases (P x) (list_any P xs) e) [
  | inl here ↦ (x, (zero, omega arith, refl), here)
  | inr later ↦
      let one = one_of P xs later in
      (one.0, (suc one.1.0, omega (arith, one.1.1), one.1.2), one.2)
]

-- one more
pub any_more : {X : Type 0} (P : X → Bool) (xs : List X) (i : ℕ) (x : X) → i < length xs → x ≡ get_or xs i x → list_any P (take (i + 1) xs) ≡ (list_any P (take i xs) || P x)
any_more P xs i x low is = list_any_more P xs i x low ∙ ap (λ y. list_any P (take i xs) || P y) (sym is)

pub any_past : {X : Type 0} (P : X → Bool) (xs : List X) (i : ℕ) (x : X) → i < length xs → x ≡ get_or xs i x → list_any P (take i xs) ≡ false → P x ≡ false → list_any P (take (i + 1) xs) ≡ false
any_past P xs i x low is before here = any_more P xs i x low is ∙ rw (before, here) refl

-- ---- members
with_one : (x y t : Bool) → t ≡ true → (x || y) ≡ (y || (x && t))
with_one true true t e = refl
with_one true false t e = sym e
with_one false true t e = refl
with_one false false t e = refl

without_one : (x y t : Bool) → t ≡ false → y ≡ (y || (x && t))
without_one x true t e = refl
without_one true false t e = sym e
without_one false false t e = refl

-- no probe yet
pub none_where : (test : Probe → Bool) (found : List Probe) → [] ≡ acceptors_where test (take 0 found)
unfolding members_where
none_where test found = refl

-- one probe more
pub acceptors_more : (test : Probe → Bool) (found : List Probe) (i : ℕ) (probe : Probe) → i < length found → probe ≡ get_or found i probe
    → cond (test probe) (with_member (acceptors_where test (take i found)) probe.acceptor) (acceptors_where test (take i found)) ≡ acceptors_where test (take (i + 1) found)
acceptors_more test found i probe low is =
    let passes : ℕ → Probe → Bool = λ n p. (n == p.acceptor) && test p in
    let before : ℕ → Bool = λ n. list_any (passes n) (take i found) in
    let more : (n : ℕ) → list_any (passes n) (take (i + 1) found) ≡ (before n || passes n probe) = λ n. any_more (passes n) found i probe low is in
    elim (cases_Bool (test probe)) [
      | inl e ↦
          let grown : with_member (acceptors_where test (take i found)) probe.acceptor ≡ acceptors_where test (take (i + 1) found) = members_where_same _ _ (λ n below.
          ap (λ (b : Bool). (n == probe.acceptor) || b) (has-members_where before n below) ∙ with_one (n == probe.acceptor) (before n) (test probe) e ∙ sym (more n)) in
          rw e grown
      | inr e ↦
          let same : acceptors_where test (take i found) ≡ acceptors_where test (take (i + 1) found) = members_where_same _ _ (λ n below.
          without_one (n == probe.acceptor) (before n) (test probe) e ∙ sym (more n)) in
          rw e same
    ]

-- members that hold a quorum of each phase have one that passes
someone_passes : (era : Era) (test : Probe → Bool) (found : List Probe) → Meet era era
    → holds_prep era (acceptors_where test found) ≡ true → holds_acc era (acceptors_where test found) ≡ true → list_any test found ≡ true
someone_passes era test found meet prep acc =
    let one = quorums_share era era meet (acceptors_where test found) (acceptors_where test found) prep acc in
    let has = members_where_tells (λ n. list_any (λ probe. (n == probe.acceptor) && test probe) found) one.acceptor one.left in
    any_implies (λ probe. (one.acceptor == probe.acceptor) && test probe) test (λ probe e. (and_parts (one.acceptor == probe.acceptor) (test probe) e).1) found has

-- ---- an agreed ballot
told_agreed : (era : Era) (found : List Probe) (ballot : Ballot) (told : Option Ballot) → is_agreed era found ballot ≡ true → is_ballot_told ballot told ≡ true → tells_agreed era found told ≡ true
told_agreed era found ballot None agreed e = absurd cc
told_agreed era found ballot (Some other) agreed e = subst (λ (b : Ballot). is_agreed era found b ≡ true) (sym (ballot_same e)) agreed

pub agreed_some : (era : Era) (found : List Probe) (told : Option Ballot) → tells_agreed era found told ≡ true → MatchOption told (NoneAgreed era found) (λ ballot. is_agreed era found ballot ≡ true)
agreed_some era found None e = absurd cc
agreed_some era found (Some ballot) e = e

pub none_agreed : (era : Era) (found : List Probe) → Meet era era → list_any (λ probe. tells_agreed era found (ballot_told probe.told)) found ≡ false → NoneAgreed era found
none_agreed era found meet none ballot = false_from_ne_true (is_agreed era found ballot) (λ agreed.
    let parts = and_parts (holds_prep era (acceptors_where (tells_in era.number ballot) found)) (holds_acc era (acceptors_where (tells_in era.number ballot) found)) agreed in
    let some = someone_passes era (tells_in era.number ballot) found meet parts.0 parts.1 in
    both_ways _ none (any_implies (tells_in era.number ballot) (λ probe. tells_agreed era found (ballot_told probe.told)) (λ probe e.
    told_agreed era found ballot (ballot_told probe.told) agreed (and_parts (tells_ballot ballot probe) (is_of_era era.number (accepted_told probe.told)) e).0) found some))

-- ---- those that told
enough_by : (x y : Bool) (a b : ℕ × ℕ) → cond x (cond y None (Some a)) (Some b) ≡ None → (x ≡ true) × (y ≡ true)
enough_by true true a b e = (refl, refl)
enough_by true false a b e = absurd cc
enough_by false y a b e = absurd cc

enough_told : (era : Era) (by : List ℕ) → shortfall era by ≡ None → (holds_prep era by ≡ true) × (holds_acc era by ≡ true)
enough_told era by e = enough_by (holds_prep era by) (holds_acc era by) _ _ e

some_told : (found : List Probe) → list_any tells found ≡ true → (ballot : Ballot) × (is_told found ballot ≡ true)
some_told [] e = absurd cc
some_told (probe ∷ found) e = by (some_told found) (ballot_told probe.told) refl
  where
    by : (list_any tells found ≡ true → (ballot : Ballot) × (is_told found ballot ≡ true)) → (told : Option Ballot) → ballot_told probe.told ≡ told
        → (ballot : Ballot) × (is_told (probe ∷ found) ballot ≡ true)
    by rest (Some ballot) is = (ballot, or_left (tells_ballot ballot probe) (is_told found ballot) (ap (is_ballot_told ballot) is ∙ ballot_self ballot))
    by rest None is =
        let later : list_any tells found ≡ true = elim (or_cases (tells probe) (list_any tells found) e) [
          | inl here ↦ absurd (both_ways (tells probe) (ap is_some is) here)
          | inr later ↦ later
        ] in
        let one = rest later in
        (one.0, or_right (tells_ballot one.0 probe) (is_told found one.0) one.1)

-- enough that told have told a ballot
pub told_some : (era : Era) (found : List Probe) → Meet era era → shortfall era (tellers found) ≡ None → ((ballot : Ballot) → is_told found ballot ≡ false) → ⊥
told_some era found meet enough none =
    let both = enough_told era (tellers found) enough in
    let one = some_told found (someone_passes era tells found meet both.0 both.1) in
    both_ways _ (none one.0) one.1

-- ---- the least and the greatest
lesser_cases : (a b : Ballot) → ((ord_min ballot_cmp a b ≡ a) × BallotAtMost a b) ⊎ ((ord_min ballot_cmp a b ≡ b) × BallotAtMost b a)
lesser_cases a b = elim (at_most_or_less a b) [
  | inl low ↦ inl ((let test : is_lt (ballot_cmp b a) ≡ false = not_lt_of_at_most low in rw test refl), low)
  | inr less ↦ inr ((let test : is_lt (ballot_cmp b a) ≡ true = less_is less in rw test refl), at_most_of_less less)
]

later_cases : (a b : Ballot) → ((ord_max ballot_cmp a b ≡ a) × BallotAtMost b a) ⊎ ((ord_max ballot_cmp a b ≡ b) × BallotAtMost a b)
later_cases a b = elim (at_most_or_less a b) [
  | inl low ↦ inr ((let test : is_lt (ballot_cmp b a) ≡ false = not_lt_of_at_most low in rw test refl), low)
  | inr less ↦ inl ((let test : is_lt (ballot_cmp b a) ≡ true = less_is less in rw test refl), at_most_of_less less)
]

lowest_more : (some more : Ballot → Bool) (low ballot : Ballot) → ((b : Ballot) → more b ≡ (some b || is_ballot ballot b)) → IsLowest some low → IsLowest more (ord_min ballot_cmp low ballot)
lowest_more some more low ballot same was = elim (lesser_cases low ballot) [
  | inl own ↦ subst (IsLowest more) (sym own.0) (record {
    has = same low ∙ or_left (some low) (is_ballot ballot low) was.has;
    least = λ b e. elim (or_cases (some b) (is_ballot ballot b) (sym (same b) ∙ e)) [
      | inl before ↦ was.least b before
      | inr here ↦ subst (BallotAtMost low) (ballot_same here) own.1
    ];
  })
  | inr new ↦ subst (IsLowest more) (sym new.0) (record {
    has = same ballot ∙ or_right (some ballot) (is_ballot ballot ballot) (ballot_self ballot);
    least = λ b e. elim (or_cases (some b) (is_ballot ballot b) (sym (same b) ∙ e)) [
      | inl before ↦ at_most_trans new.1 (was.least b before)
      | inr here ↦ subst (BallotAtMost ballot) (ballot_same here) (at_most_refl ballot)
    ];
  })
]

highest_more : (some more : Ballot → Bool) (high ballot : Ballot) → ((b : Ballot) → more b ≡ (some b || is_ballot ballot b)) → IsHighest some high → IsHighest more (ord_max ballot_cmp high ballot)
highest_more some more high ballot same was = elim (later_cases high ballot) [
  | inl own ↦ subst (IsHighest more) (sym own.0) (record {
    has = same high ∙ or_left (some high) (is_ballot ballot high) was.has;
    greatest = λ b e. elim (or_cases (some b) (is_ballot ballot b) (sym (same b) ∙ e)) [
      | inl before ↦ was.greatest b before
      | inr here ↦ subst (λ (x : Ballot). BallotAtMost x high) (ballot_same here) own.1
    ];
  })
  | inr new ↦ subst (IsHighest more) (sym new.0) (record {
    has = same ballot ∙ or_right (some ballot) (is_ballot ballot ballot) (ballot_self ballot);
    greatest = λ b e. elim (or_cases (some b) (is_ballot ballot b) (sym (same b) ∙ e)) [
      | inl before ↦ at_most_trans (was.greatest b before) new.1
      | inr here ↦ subst (λ (x : Ballot). BallotAtMost x ballot) (ballot_same here) (at_most_refl ballot)
    ];
  })
]

pub span_more : (some more : Ballot → Bool) (low high ballot : Ballot) → ((b : Ballot) → more b ≡ (some b || is_ballot ballot b))
    → IsSpan some (Some (low, high)) → IsSpan more (Some (ord_min ballot_cmp low ballot, ord_max ballot_cmp high ballot))
span_more some more low high ballot same was = (lowest_more some more low ballot same was.0, highest_more some more high ballot same was.1)

pub span_first : (some more : Ballot → Bool) (ballot : Ballot) → ((b : Ballot) → more b ≡ (some b || is_ballot ballot b)) → IsSpan some None → IsSpan more (Some (ballot, ballot))
span_first some more ballot same none =
    let only : (b : Ballot) → more b ≡ true → ballot ≡ b = λ b e. elim (or_cases (some b) (is_ballot ballot b) (sym (same b) ∙ e)) [
      | inl before ↦ absurd (both_ways _ (none b) before)
      | inr here ↦ ballot_same here
    ] in
    let has : more ballot ≡ true = same ballot ∙ or_right (some ballot) (is_ballot ballot ballot) (ballot_self ballot) in (
      record { has = has; least = λ b e. subst (BallotAtMost ballot) (only b e) (at_most_refl ballot) },
      record { has = has; greatest = λ b e. subst (λ (x : Ballot). BallotAtMost x ballot) (only b e) (at_most_refl ballot) },
    )

or_none : (b : Bool) → b ≡ (b || false)
or_none true = refl
or_none false = refl

pub span_same : (some more : Ballot → Bool) (span : Option (Ballot × Ballot)) → ((b : Ballot) → more b ≡ (some b || false)) → IsSpan some span → IsSpan more span
span_same some more None same was = λ b. same b ∙ sym (or_none (some b)) ∙ was b
span_same some more (Some span) same was =
    let back : (b : Ballot) → more b ≡ some b = λ b. same b ∙ sym (or_none (some b)) in (
      record { has = back span.0 ∙ was.0.has; least = λ b e. was.0.least b (sym (back b) ∙ e) },
      record { has = back span.1 ∙ was.1.has; greatest = λ b e. was.1.greatest b (sym (back b) ∙ e) },
    )

-- one ballot alone was told if the least is the greatest
pub span_one : (found : List Probe) (low high : Ballot) (span : Option (Ballot × Ballot)) → span ≡ Some (low, high) → IsSpan (is_told found) span → is_ballot low high ≡ true
    → (ballot : Ballot) → is_told found ballot ≡ true → ballot ≡ low
span_one found low high span is spans e ballot told =
    let both = subst (IsSpan (is_told found)) is spans in
    at_most_antisym (subst (BallotAtMost ballot) (sym (ballot_same e)) (both.1.greatest ballot told)) (both.0.least ballot told)

-- ---- eras
kept_tells : (number : ℕ) (ballot : Ballot) (told : Option Tell) → is_kept_in number ballot (accepted_told told) ≡ true → is_ballot_told ballot (ballot_told told) ≡ true
kept_tells number ballot None e = absurd cc
kept_tells number ballot (Some (tell.Promised accepted)) e = absurd cc
kept_tells number ballot (Some tell.Accepted) e = absurd cc
kept_tells number ballot (Some (tell.Met other)) e = absurd cc
kept_tells number ballot (Some (tell.Aged least)) e = absurd cc
kept_tells number ballot (Some tell.Full) e = absurd cc
kept_tells number ballot (Some tell.AgesSet) e = absurd cc
kept_tells number ballot (Some tell.Removed) e = absurd cc
kept_tells number ballot (Some tell.Kept) e = absurd cc
kept_tells number ballot (Some (tell.Listed after keys more)) e = absurd cc
kept_tells number ballot (Some (tell.Probed promise None)) e = absurd cc
kept_tells number ballot (Some (tell.Probed promise (Some accepted))) e = (and_parts (is_ballot accepted.ballot ballot) (accepted.era == number) e).0

kept_told : (number : ℕ) (ballot : Ballot) (found : List Probe) → is_kept number ballot found ≡ true → is_told found ballot ≡ true
kept_told number ballot found e =
    any_implies (λ probe. is_kept_in number ballot (accepted_told probe.told)) (tells_ballot ballot) (λ probe kept. kept_tells number ballot probe.told kept) found e

-- if all states are of the era, those that told the one ballot told it as one of the era
one_current : (number : ℕ) (low : Ballot) (told : Option Ballot) (current : Bool) → current ≡ true → ((ballot : Ballot) → is_ballot_told ballot told ≡ true → ballot ≡ low)
    → (is_ballot_told low told && current) ≡ is_some told
one_current number low None current e only = refl
one_current number low (Some ballot) current e only =
    let same : is_ballot ballot low ≡ true = ballot_is (only ballot (ballot_self ballot)) in
    rw (same, e) refl

all_current : (number : ℕ) (low : Ballot) (n : ℕ) (found : List Probe) → ((ballot : Ballot) → is_told found ballot ≡ true → ballot ≡ low) → has_other_era number found ≡ false
    → list_any (λ probe. (n == probe.acceptor) && tells_in number low probe) found ≡ list_any (λ probe. (n == probe.acceptor) && tells probe) found
all_current number low n [] only none = refl
all_current number low n (probe ∷ found) only none =
    let parts = or_parts (not (is_of_era number (accepted_told probe.told))) (has_other_era number found) none in
    let own : (ballot : Ballot) → is_ballot_told ballot (ballot_told probe.told) ≡ true → ballot ≡ low = λ ballot e. only ballot (or_left (tells_ballot ballot probe) (is_told found ballot) e) in
    let here : tells_in number low probe ≡ tells probe = one_current number low (ballot_told probe.told) (is_of_era number (accepted_told probe.told)) (not-false _ parts.0) own in
    let rest = all_current number low n found (λ ballot e. only ballot (or_right (tells_ballot ballot probe) (is_told found ballot) e)) parts.1 in
    λ i. ((n == probe.acceptor) && here i) || rest i

pub all_agreed : (era : Era) (found : List Probe) (low : Ballot) → shortfall era (tellers found) ≡ None
    → ((ballot : Ballot) → is_told found ballot ≡ true → ballot ≡ low) → has_other_era era.number found ≡ false
    → is_agreed era found low ≡ true
all_agreed era found low enough only none =
    let same : acceptors_where (tells_in era.number low) found ≡ tellers found = members_where_same _ _ (λ n below. all_current era.number low n found only none) in
    let both = enough_told era (tellers found) enough in
    subst (λ (by : List ℕ). (holds_prep era by && holds_acc era by) ≡ true) (sym same) (and_from _ _ both.0 both.1)

-- a state that is not of the era is of another
pub other_of : (number : ℕ) (found : List Probe) (i : ℕ) (probe : Probe) → i < length found → probe ≡ get_or found i probe → is_of_era number (accepted_told probe.told) ≡ false
    → MatchOption (option_map (λ (accepted : Accepted). accepted.era) (accepted_told probe.told)) (has_other_era number found ≡ false) (λ other. IsOtherEra number found other)
other_of number found i probe low is e = by (accepted_told probe.told) refl e
  where
    by : (accepted : Option Accepted) → accepted_told probe.told ≡ accepted → is_of_era number accepted ≡ false
        → MatchOption (option_map (λ (accepted : Accepted). accepted.era) accepted) (has_other_era number found ≡ false) (λ other. IsOtherEra number found other)
    by None same e = absurd cc
    by (Some accepted) same e = record {
      ballot = accepted.ballot;
      kept =
          let keeps : Probe → Bool = λ p. is_kept_in accepted.era accepted.ballot (accepted_told p.told) in
          let here : keeps probe ≡ true = ap (is_kept_in accepted.era accepted.ballot) same ∙ and_from _ _ (ballot_self accepted.ballot) (nat_self accepted.era) in
          list_any_at keeps found i probe low (subst (λ (p : Probe). keeps p ≡ true) is here);
      older = λ own. both_ways _ (or_parts (is_ballot accepted.ballot zero_ballot) (accepted.era == number) e).1 (nat_is own);
    }

pub old_era : (era : Era) (found : List Probe) (low : Ballot) (number : ℕ) → ((ballot : Ballot) → is_told found ballot ≡ true → ballot ≡ low)
    → IsOtherEra era.number found number → IsOfOldEra era found low number
old_era era found low number only other = record {
  kept = subst (λ (b : Ballot). is_kept number b found ≡ true) (only other.ballot (kept_told number other.ballot found other.kept)) other.kept;
  only = only;
  older = other.older;
}

-- ---- one agreement
one_ballot : (a b : Ballot) (told : Option Ballot) → is_ballot_told a told ≡ true → is_ballot_told b told ≡ true → a ≡ b
one_ballot a b None e f = absurd cc
one_ballot a b (Some told) e f = sym (ballot_same e) ∙ ballot_same f

teller_of : (test : Probe → Bool) (found : List Probe) (n : ℕ) → has_member (acceptors_where test found) n ≡ true
    → (probe : Probe) × Contains found probe × (((n == probe.acceptor) && test probe) ≡ true)
teller_of test found n has = one_of (λ probe. (n == probe.acceptor) && test probe) found (members_where_tells (λ m. list_any (λ probe. (m == probe.acceptor) && test probe) found) n has)

one_agreed : (era : Era) (found : List Probe) → Meet era era → TellOnce found → (a b : Ballot) → is_agreed era found a ≡ true → is_agreed era found b ≡ true → a ≡ b
one_agreed era found meet once a b e f =
    let of_a : List ℕ = acceptors_where (tells_in era.number a) found in
    let of_b : List ℕ = acceptors_where (tells_in era.number b) found in
    let one = quorums_share era era meet of_a of_b (and_parts (holds_prep era of_a) (holds_acc era of_a) e).0 (and_parts (holds_prep era of_b) (holds_acc era of_b) f).1 in
    let n = one.acceptor in
    let p = teller_of (tells_in era.number a) found n one.left in
    let q = teller_of (tells_in era.number b) found n one.right in
    let by_p = and_parts (n == p.0.acceptor) (tells_in era.number a p.0) p.2 in
    let by_q = and_parts (n == q.0.acceptor) (tells_in era.number b q.0) q.2 in
    let same : q.0 ≡ p.0 = once q.0 p.0 q.1 p.1 (sym (nat_same by_q.0) ∙ nat_same by_p.0) in
    let told_a = (and_parts (tells_ballot a p.0) (is_of_era era.number (accepted_told p.0.told)) by_p.1).0 in
    let told_b = (and_parts (tells_ballot b q.0) (is_of_era era.number (accepted_told q.0.told)) by_q.1).0 in
    one_ballot a b (ballot_told p.0.told) told_a (subst (λ (probe : Probe). tells_ballot b probe ≡ true) same told_b)

kept_parts : (number : ℕ) (ballot : Ballot) (kept : Option Accepted) → is_kept_in number ballot kept ≡ true
    → (accepted : Accepted) × (kept ≡ Some accepted) × (accepted.ballot ≡ ballot) × (accepted.era ≡ number)
kept_parts number ballot None e = absurd cc
kept_parts number ballot (Some accepted) e =
    let parts = and_parts (is_ballot accepted.ballot ballot) (accepted.era == number) e in
    (accepted, refl, ballot_same parts.0, nat_same parts.1)

one_era_kept : (found : List Probe) → HaveOneEra found → (ballot : Ballot) (m n : ℕ) → is_kept m ballot found ≡ true → is_kept n ballot found ≡ true → m ≡ n
one_era_kept found have ballot m n e f =
    let p = one_of (λ probe. is_kept_in m ballot (accepted_told probe.told)) found e in
    let q = one_of (λ probe. is_kept_in n ballot (accepted_told probe.told)) found f in
    let a = kept_parts m ballot (accepted_told p.0.told) p.2 in
    let b = kept_parts n ballot (accepted_told q.0.told) q.2 in
    sym a.3 ∙ have p.0 q.0 a.0 b.0 p.1 q.1 a.1 b.1 (a.2 ∙ sym b.2) ∙ b.3

one_span : (found : List Probe) (low high also_low also_high : Ballot) → BallotsDiffer found low high → BallotsDiffer found also_low also_high → (low ≡ also_low) × (high ≡ also_high)
one_span found low high also_low also_high a b = (
  at_most_antisym (a.lowest.least also_low b.lowest.has) (b.lowest.least low a.lowest.has),
  at_most_antisym (b.highest.greatest high a.highest.has) (a.highest.greatest also_high b.highest.has),
)

some_same : (a b : ℕ × ℕ) → Some a ≡ Some b → a ≡ b
some_same a b e = cc e

pub one_agreement : (era : Era) (found : List Probe) → Meet era era → TellOnce found → HaveOneEra found → (a b : Agreement) → IsAgreementOf era found a → IsAgreementOf era found b → a ≡ b
one_agreement era found meet once have (Value x at) (Value y to) e f =
    let same = one_agreed era found meet once x y e.0 f.0 in
    let place : at ≡ to = e.1 ∙ ap (λ (ballot : Ballot). place_of era.number ballot found) same ∙ sym f.1 in
    λ i. Value (same i) (place i)
one_agreement era found meet once have (Value x at) (Short got need) e f = absurd (both_ways _ (f.0 x) e.0)
one_agreement era found meet once have (Value x at) (NotAgreed low high) e f = absurd (both_ways _ (f.0.none x) e.0)
one_agreement era found meet once have (Value x at) (OldEra y number) e f = absurd (both_ways _ (f.0.none x) e.0)
one_agreement era found meet once have (Short got need) (Value y to) e f = absurd (both_ways _ (e.0 y) f.0)
one_agreement era found meet once have (Short got need) (Short less more) e f =
    let same = some_same (got, need) (less, more) (sym e.1 ∙ f.1) in
    λ i. Short (same i).0 (same i).1
one_agreement era found meet once have (Short got need) (NotAgreed low high) e f = absurd (let no : Some (got, need) ≡ None = sym e.1 ∙ f.0.enough in cc no)
one_agreement era found meet once have (Short got need) (OldEra y number) e f = absurd (let no : Some (got, need) ≡ None = sym e.1 ∙ f.0.enough in cc no)
one_agreement era found meet once have (NotAgreed low high) (Value y to) e f = absurd (both_ways _ (e.0.none y) f.0)
one_agreement era found meet once have (NotAgreed low high) (Short got need) e f = absurd (let no : Some (got, need) ≡ None = sym f.1 ∙ e.0.enough in cc no)
one_agreement era found meet once have (NotAgreed low high) (NotAgreed also_low also_high) e f =
    let same = one_span found low high also_low also_high e.1 f.1 in
    λ i. NotAgreed (same.0 i) (same.1 i)
one_agreement era found meet once have (NotAgreed low high) (OldEra y number) e f = absurd (e.1.apart (f.1.only low e.1.lowest.has ∙ sym (f.1.only high e.1.highest.has)))
one_agreement era found meet once have (OldEra x number) (Value y to) e f = absurd (both_ways _ (e.0.none y) f.0)
one_agreement era found meet once have (OldEra x number) (Short got need) e f = absurd (let no : Some (got, need) ≡ None = sym f.1 ∙ e.0.enough in cc no)
one_agreement era found meet once have (OldEra x number) (NotAgreed low high) e f = absurd (f.1.apart (e.1.only low f.1.lowest.has ∙ sym (e.1.only high f.1.highest.has)))
one_agreement era found meet once have (OldEra x m) (OldEra y n) e f =
    let same : x ≡ y = f.1.only x (kept_told m x found e.1.kept) in
    let one : m ≡ n = one_era_kept found have y m n (subst (λ (b : Ballot). is_kept m b found ≡ true) same e.1.kept) f.1.kept in
    λ i. OldEra (same i) (one i)
