-- What members that agree on a key told of it, and that this is what the model says they agree on.
use Rattle.std.proofs.Common.{◌+◌, ◌≡◌, ◌≢◌, ◌<◌, ◌≤◌, ℕ, zero, suc, Bool, true, false, List, [], ◌∷◌, Option, None, Some, refl, sym, ap, subst, ◌∙◌, inl, inr, arith}
use Rattle.std.specs.Prelude.{◌==◌, ◌&&◌, ◌||◌, if◌then◌else◌, filter, get_or, position}
use Rattle.std.specs.List.{list_any, range_with_len}
use Rattle.std.proofs.lemmas.Bool.Decides.{leb_tells}
use Rattle.std.proofs.lemmas.List.Quantifiers.{position-Some}
use Rattle.cas_base.proofs.Bools.{true_or_false, and_left, and_right, both_true, or_cases, if_false}
use Rattle.cas_ballot.specs.Ballot.{zero_ballot}
use Rattle.cas_ballot.specs.Members.{has_member, members_where, IsMemberSet}
use Rattle.cas_ballot.specs.declared.ballot.Ballot.{Ballot}
use Rattle.cas_ballot.proofs.CountLemmas.{length-within}
use Rattle.cas_ballot.proofs.MemberLemmas.{has-members_where, members_where_tells}
use Rattle.cas_quorum.specs.Era.{holds_prep, holds_acc, Meet}
use Rattle.cas_quorum.specs.Quorum.{has_quorum, count_in}
use Rattle.cas_quorum.specs.declared.era.Era.{Era}
use Rattle.cas_quorum.proofs.Counting.{quorums_share}
use Rattle.cas_record.proofs.Tests.{ballot_same, nat_same, nat_is}
use Rattle.cas_record.specs.Agreement.{accepted_told, ballot_told, is_ballot_told, is_of_era, tells_in, acceptors_where, is_agreed, place_of}
use Rattle.cas_record.specs.Histories.Chain.{is_ballot}
use Rattle.cas_record.specs.declared.operator.Probe.{Probe as Answered}
use Rattle.cas_slot.specs.declared.message.Tell.{Tell}
use Rattle.cas_slot.specs.declared.message.Tell.TheVariants as tell
use Rattle.cas_slot.specs.declared.slot.Accepted.{Accepted}
use Rattle.cas_model.specs.Eras.Listings.{told_by}
use Rattle.cas_model.specs.Exchanges.Read.{tells_ballot, holders_of, AgreeAt, AgreeOn}
use Rattle.cas_model.specs.View.{IsAt}
use Rattle.cas_model.proofs.Places.{some_is}
use Rattle.cas_agreement.specs.Told.{names_of, Rises, IsToldAt, AgreedStatesAreTold}
use Rattle.cas_agreement.proofs.Standing.{Passing, passing, any_at, first, get_at}

-- ---- members in their order
-- those of a range that pass a test, and all of them are from its start on
filtered : (p : ℕ → Bool) (start many : ℕ) → Rises (filter p (range_with_len start many)) × ((place y : ℕ) → IsAt (filter p (range_with_len start many)) place y → start ≤ y)
filtered p start zero = (tt, λ place y at. absurd (cc at))
filtered p start (suc many) = by_test (p start) (filtered p (start + 1) many)
  where
    later : List ℕ
    later = filter p (range_with_len (start + 1) many)

    by_test : (b : Bool) → Rises later × ((place y : ℕ) → IsAt later place y → start + 1 ≤ y)
        → Rises (if b then start ∷ later else later) × ((place y : ℕ) → IsAt (if b then start ∷ later else later) place y → start ≤ y)
    by_test true rest = ((λ place y at. omega (arith, rest.1 place y at), rest.0), low)
      where
        low : (place y : ℕ) → IsAt (start ∷ later) place y → start ≤ y
        low zero y at = omega (arith, some_is at)
        low (suc place) y at = omega (arith, rest.1 place y at)
    by_test false rest = (rest.0, λ place y at. omega (arith, rest.1 place y at))

pub rises_where : (p : ℕ → Bool) → Rises (members_where p)
unfolding members_where
rises_where p = (filtered p 0 64).0

pub set_rises : (ids : List ℕ) → IsMemberSet ids → Rises ids
set_rises ids is = subst Rises (sym is.lists) (rises_where (has_member ids))

-- ---- what each of them told
at_map : (found : List Answered) (place : ℕ) (one : Answered) → IsAt found place one → IsAt (names_of found) place one.acceptor
at_map [] place one at = absurd (cc at)
at_map (first ∷ rest) zero one at = ap (λ (p : Answered). Some p.acceptor) (some_is at)
at_map (first ∷ rest) (suc place) one at = at_map rest place one at

apart : (m n : ℕ) → m < n → (m == n) ≡ false
apart m n low = by_test (m == n) refl
  where
    by_test : (b : Bool) → (m == n) ≡ b → b ≡ false
    by_test true is = absurd (omega (arith, low, nat_same is))
    by_test false is = refl

told_each : (found : List Answered) → Rises (names_of found) → (place : ℕ) (one : Answered) → IsAt found place one → told_by found one.acceptor ≡ one.told
told_each [] rises place one at = absurd (cc at)
told_each (first ∷ rest) rises zero one at =
    let same : first ≡ one = some_is at in
    subst (λ (p : Answered). (if first.acceptor == p.acceptor then first.told else told_by rest p.acceptor) ≡ p.told) same
    (ap (λ (b : Bool). if b then first.told else told_by rest first.acceptor) (nat_is {a = first.acceptor} {b = first.acceptor} refl))
told_each (first ∷ rest) rises (suc place) one at =
    ap (λ (b : Bool). if b then first.told else told_by rest one.acceptor) (apart first.acceptor one.acceptor (rises.0 place one.acceptor (at_map rest place one at)))
    ∙ told_each rest rises.1 place one at

-- ---- who told a ballot
same_test : (ballot : Ballot) (told : Option Tell) → is_ballot_told ballot (ballot_told told) ≡ true → tells_ballot ballot told ≡ true
same_test ballot None is = is
same_test ballot (Some (tell.Probed promise None)) is = is
same_test ballot (Some (tell.Probed promise (Some accepted))) is = is
same_test ballot (Some (tell.Aged least)) is = is
same_test ballot (Some (tell.Promised accepted)) is = is
same_test ballot (Some tell.Accepted) is = is
same_test ballot (Some (tell.Met seen)) is = is
same_test ballot (Some tell.Full) is = is
same_test ballot (Some tell.AgesSet) is = is
same_test ballot (Some tell.Removed) is = is
same_test ballot (Some tell.Kept) is = is
same_test ballot (Some (tell.Listed after keys more)) is = is

-- what is told at a ballot above zero
pub record ToldAboveZero (ballot : Ballot) (told : Option Tell) : Type 0 where
  pub promise : Ballot
  pub accepted : Accepted
  pub is : told ≡ Some (tell.Probed promise (Some accepted))
  pub same : accepted.ballot ≡ ballot

told_above : (ballot : Ballot) (told : Option Tell) → ballot ≢ zero_ballot → is_ballot_told ballot (ballot_told told) ≡ true → ToldAboveZero ballot told
told_above ballot (Some (tell.Probed promise (Some accepted))) above is = record { promise = promise; accepted = accepted; is = refl; same = ballot_same is }
told_above ballot (Some (tell.Probed promise None)) above is = absurd (above (sym (ballot_same is)))
told_above ballot None above is = absurd (cc is)
told_above ballot (Some tell.Accepted) above is = absurd (cc is)
told_above ballot (Some (tell.Aged least)) above is = absurd (cc is)
told_above ballot (Some (tell.Promised accepted)) above is = absurd (cc is)
told_above ballot (Some (tell.Met seen)) above is = absurd (cc is)
told_above ballot (Some tell.Full) above is = absurd (cc is)
told_above ballot (Some tell.AgesSet) above is = absurd (cc is)
told_above ballot (Some tell.Removed) above is = absurd (cc is)
told_above ballot (Some tell.Kept) above is = absurd (cc is)
told_above ballot (Some (tell.Listed after keys more)) above is = absurd (cc is)

not_zero : (ballot : Ballot) → ballot ≢ zero_ballot → is_ballot ballot zero_ballot ≡ false
not_zero ballot above = elim (true_or_false (is_ballot ballot zero_ballot)) [
  | inl same ↦ absurd (above (ballot_same same))
  | inr other ↦ other
]

-- ---- quorums
quorum_more : (need : ℕ) (set by more : List ℕ) → ((n : ℕ) → n < 64 → has_member by n ≡ true → has_member more n ≡ true) → has_quorum need set by ≡ true → has_quorum need set more ≡ true
quorum_more need set by more each is =
    let few : count_in set by ≤ count_in set more = length-within (λ n. has_member set n && has_member by n) (λ n. has_member set n && has_member more n)
    (λ n low both. both_true (has_member set n) (has_member more n) (and_left (has_member set n) (has_member by n) both) (each n low (and_right (has_member set n) (has_member by n) both))) in
    elim (leb_tells need (count_in set by)) [
      | inl enough ↦ elim (leb_tells need (count_in set more)) [
        | inl so ↦ so.0
        | inr less ↦ absurd (omega (arith, less.1, few, enough.1))
      ]
      | inr less ↦ absurd (cc (is, less.0))
    ]

someone_agrees : (era : Era) (found : List Answered) (ballot : Ballot) → Meet era era → is_agreed era found ballot ≡ true → list_any (tells_in era.number ballot) found ≡ true
someone_agrees era found ballot meets is =
    let by : List ℕ = acceptors_where (tells_in era.number ballot) found in
    let shared = quorums_share era era meets by by (and_left (holds_prep era by) (holds_acc era by) is) (and_right (holds_prep era by) (holds_acc era by) is) in
    let some = passing (λ (x : Answered). (shared.acceptor == x.acceptor) && tells_in era.number ballot x) found
    (members_where_tells (λ m. list_any (λ (x : Answered). (m == x.acceptor) && tells_in era.number ballot x) found) shared.acceptor shared.left) in
    any_at (tells_in era.number ballot) found some.place some.one some.at (and_right (shared.acceptor == some.one.acceptor) (tells_in era.number ballot some.one) some.passes)

-- ---- what they agree on
-- what they agree on above zero is what the one at their place told
pub record ToldAt (number : ℕ) (ballot : Ballot) (found : List Answered) : Type 0 where
  pub place : ℕ
  pub is : place_of number ballot found ≡ Some place
  pub one : Answered
  pub at : IsAt found place one
  pub told : ToldAboveZero ballot one.told

told_where : (era : Era) (found : List Answered) (ballot : Ballot) → ballot ≢ zero_ballot → list_any (tells_in era.number ballot) found ≡ true → ToldAt era.number ballot found
told_where era found ballot above someone =
    let it = first (tells_in era.number ballot) found someone in
    record {
      place = it.place;
      is = if_false (is_ballot ballot zero_ballot) None (position (tells_in era.number ballot) found) (not_zero ballot above) ∙ it.is;
      one = it.one;
      at = it.at;
      told = told_above ballot it.one.told above (and_left (is_ballot_told ballot (ballot_told it.one.told)) (is_of_era era.number (accepted_told it.one.told)) it.passes);
    }

pub told_there : (era : Era) (found : List Answered) (ballot : Ballot) → Meet era era → ballot ≢ zero_ballot → is_agreed era found ballot ≡ true → ToldAt era.number ballot found
told_there era found ballot meets above is = told_where era found ballot above (someone_agrees era found ballot meets is)

module _ (found : List Answered) (rises : Rises (names_of found)) (era : Era) (ballot : Ballot) where
  -- one that told it is one of those that did
  teller : (n : ℕ) → has_member (acceptors_where (tells_in era.number ballot) found) n ≡ true → Passing (λ probe. (n == probe.acceptor) && tells_in era.number ballot probe) found
  teller n is =
      passing (λ probe. (n == probe.acceptor) && tells_in era.number ballot probe) found
      (members_where_tells (λ k. list_any (λ probe. (k == probe.acceptor) && tells_in era.number ballot probe) found) n is)

  held : (n : ℕ) → n < 64 → has_member (acceptors_where (tells_in era.number ballot) found) n ≡ true → has_member (holders_of ballot found) n ≡ true
  held n low is =
      let it = teller n is in
      let tells = and_right (n == it.one.acceptor) (tells_in era.number ballot it.one) it.passes in
      let told = same_test ballot it.one.told (and_left (is_ballot_told ballot (ballot_told it.one.told)) (is_of_era era.number (accepted_told it.one.told)) tells) in
      has-members_where (λ acceptor. tells_ballot ballot (told_by found acceptor)) n low
      ∙ ap (λ (k : ℕ). tells_ballot ballot (told_by found k)) (nat_same (and_left (n == it.one.acceptor) (tells_in era.number ballot it.one) it.passes))
      ∙ ap (tells_ballot ballot) (told_each found rises it.place it.one it.at) ∙ told

  -- as many of them as hold a quorum hold one by what the model says
  more_hold : (need : ℕ) (set : List ℕ) → has_quorum need set (acceptors_where (tells_in era.number ballot) found) ≡ true → has_quorum need set (holders_of ballot found) ≡ true
  more_hold need set is = quorum_more need set (acceptors_where (tells_in era.number ballot) found) (holders_of ballot found) held is

  pub agree_at : is_agreed era found ballot ≡ true → AgreeAt era found ballot
  agree_at is =
      let by = acceptors_where (tells_in era.number ballot) found in
      record {
        prepares = more_hold era.need_prep era.prep (and_left (holds_prep era by) (holds_acc era by) is);
        accepts = more_hold era.need_acc era.acc (and_right (holds_prep era by) (holds_acc era by) is);
      }

  -- and the state at the place that is named is one that they agree on
  pub agree_on : (place : ℕ) (one : Answered) (promise : Ballot) (accepted : Accepted) → is_agreed era found ballot ≡ true → Some place ≡ place_of era.number ballot found → IsAt found place one
      → one.told ≡ Some (tell.Probed promise (Some accepted)) → AgreeOn era found accepted × (accepted.ballot ≡ ballot)
  agree_on place one promise accepted is at_is at told = by_zero (is_ballot ballot zero_ballot) refl (at_is)
    where
      by_zero : (b : Bool) → is_ballot ballot zero_ballot ≡ b → Some place ≡ (if b then None else position (tells_in era.number ballot) found) → AgreeOn era found accepted × (accepted.ballot ≡ ballot)
      by_zero true zero_is at_it = absurd (cc at_it)
      by_zero false none at_it =
          let low = position-Some (tells_in era.number ballot) found place one (sym at_it) in
          let it : get_or found place one ≡ one = get_at found place one one at in
          let tells : tells_in era.number ballot one ≡ true = ap (tells_in era.number ballot) (sym it) ∙ low.1 in
          let is_told = and_left (is_ballot_told ballot (ballot_told one.told)) (is_of_era era.number (accepted_told one.told)) tells in
          let is_so = and_right (is_ballot_told ballot (ballot_told one.told)) (is_of_era era.number (accepted_told one.told)) tells in
          let same : accepted.ballot ≡ ballot = ballot_same (sym (ap (λ (t : Option Tell). is_ballot_told ballot (ballot_told t)) told) ∙ is_told) in
          let of_era : (is_ballot accepted.ballot zero_ballot || (accepted.era == era.number)) ≡ true = sym (ap (λ (t : Option Tell). is_of_era era.number (accepted_told t)) told) ∙ is_so in (
            record {
              agree = subst (AgreeAt era found) (sym same) (agree_at is);
              place = place;
              one = one;
              at = at;
              promise = promise;
              told = told;
              in_era = elim (or_cases (is_ballot accepted.ballot zero_ballot) (accepted.era == era.number) of_era) [
                | inl zero_it ↦ absurd (cc (sym none ∙ ap (λ (b : Ballot). is_ballot b zero_ballot) (sym same) ∙ zero_it))
                | inr era_is ↦ nat_same era_is
              ];
            },
            same,
          )

  told_on : is_agreed era found ballot ≡ true → ToldAt era.number ballot found → IsToldAt era ballot found
  told_on agrees it = record {
    place = it.place;
    is = it.is;
    one = it.one;
    at = it.at;
    promise = it.told.promise;
    accepted = it.told.accepted;
    told = it.told.is;
    same = it.told.same;
    on = (agree_on it.place it.one it.told.promise it.told.accepted agrees (sym it.is) it.at it.told.is).0;
  }

  -- what is told at their place is what they agree on, if anyone told it
  pub told_at_place : (n : ℕ) → has_member (acceptors_where (tells_in era.number ballot) found) n ≡ true → ballot ≢ zero_ballot → is_agreed era found ballot ≡ true → IsToldAt era ballot found
  told_at_place n someone above agrees =
      let some = teller n someone in
      told_on agrees (told_where era found ballot above (any_at (tells_in era.number ballot) found some.place some.one some.at (and_right (n == some.one.acceptor) (tells_in era.number ballot some.one) some.passes)))

pub agreed_is_told : AgreedStatesAreTold
agreed_is_told era found ballot meets rises above agrees = told_on found rises era ballot agrees (told_there era found ballot meets above agrees)
