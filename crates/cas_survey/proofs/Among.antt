-- What is found among the members that were looked through so far.
use Rattle.std.proofs.Common.{◌≡◌, ◌∙◌, ◌≤◌, ◌<◌, ◌+◌, ◌⊎◌, ◌^◌, ℕ, List, Option, None, Some, true, false, ap, sym, subst, refl, inl, inr, arith}
use Rattle.std.specs.Prelude.{slice_get, IfSome}
use Rattle.std.proofs.lemmas.Bool.{cases_lt}
use Rattle.cas_base.proofs.Bools.{not_both}
use Rattle.cas_ballot.specs.Ballot.{zero_ballot, FitsBallot}
use Rattle.cas_ballot.specs.Members.{has_member}
use Rattle.cas_ballot.proofs.BallotLemmas.{at_most_trans}
use Rattle.cas_slot.specs.declared.slot.Accepted.{Accepted}
use Rattle.cas_slot.specs.declared.slot.Slot.{Slot}
use Rattle.cas_slot.proofs.LimitLemmas.{zero_fits, nothing_fits, accepted_fits, told_fits}
use Rattle.cas_slot.specs.Contents.{Contents, kept_at, no_ages}
use Rattle.cas_slot.specs.declared.message.Ask.TheVariants as ask
use Rattle.cas_slot.specs.declared.message.Tell.TheVariants as tell
use Rattle.cas_slot.specs.Limits.{SlotBallotsFit, AllBallotsFit}
use Rattle.cas_slot.specs.Slots.{Slots, slot_at}
use Rattle.cas_slot.specs.Table.{seen_at}
use Rattle.cas_survey.specs.Survey.{kept_of, kept_on, AreUp, GoesOnFromAccepted, IsFinding, AreFindings, IsGreatestAmong, IsGreatestCounter, FindsMore, CountsOn}

-- a member with a lower number than this
abbrev pub IsLower : ℕ → List ℕ → ℕ → Type 0
IsLower number members id = (id < number) × (has_member members id ≡ true)

abbrev pub FoundBelow : ℕ → List ℕ → (ℕ → Contents) → Slots → Type 0
FoundBelow number members kept found = (key : List ℕ) → IsFinding (IsLower number members) kept key (slot_at found key)

-- ---- none
pub found_below_none : (members : List ℕ) (kept : ℕ → Contents) (found : Slots) → ((key : List ℕ) → slot_at found key ≡ None) → FoundBelow 0 members kept found
found_below_none members kept found empty key = record {
  from = λ slot at. absurd (let no : None ≡ Some slot = sym (empty key) ∙ at in cc);
  greatest = λ id lower. absurd (omega (arith, lower.0));
}

pub counted_below_none : (members : List ℕ) (kept : ℕ → Contents) → IsGreatestAmong (IsLower 0 members) kept 0
counted_below_none members kept = record { most = λ id key lower. absurd (omega (arith, lower.0)); reached = inl refl }

-- ---- one more
lower_or_this : (number : ℕ) (members : List ℕ) (id : ℕ) → IsLower (number + 1) members id → IsLower number members id ⊎ (id ≡ number)
lower_or_this number members id lower = elim (cases_lt id number) [
  | inl low ↦ inl (low, lower.1)
  | inr high ↦ inr (omega (arith, lower.0, high))
]

later : (number : ℕ) (members : List ℕ) (id : ℕ) → IsLower number members id → IsLower (number + 1) members id
later number members id lower = (omega (arith, lower.0), lower.1)

pub found_below_more : (number : ℕ) (members : List ℕ) (kept : ℕ → Contents) (contents : Contents) (old new : Slots) → has_member members number ≡ true → kept number ≡ contents
    → FoundBelow number members kept old → FindsMore contents old new → FoundBelow (number + 1) members kept new
found_below_more number members kept contents old new member is before gathers key = record {
  from = λ slot at. elim (gathers.from key slot at) [
    | inl old_one ↦ let found = (before key).from slot old_one in (found.0, later number members found.0 found.1, found.2)
    | inr goes ↦ (number, (omega arith, member), subst (λ (c : Contents). GoesOnFromAccepted c key slot) (sym is) goes)
  ];
  greatest = λ id lower. elim (lower_or_this number members id lower) [
    | inl low ↦ at_most_trans ((before key).greatest id low) (gathers.grows key)
    | inr same ↦ rw (same, is) (gathers.reaches key)
  ];
}

pub found_below_other : (number : ℕ) (members : List ℕ) (kept : ℕ → Contents) (found : Slots) → has_member members number ≡ false → FoundBelow number members kept found
    → FoundBelow (number + 1) members kept found
found_below_other number members kept found other before key = record {
  from = λ slot at. let it = (before key).from slot at in (it.0, later number members it.0 it.1, it.2);
  greatest = λ id lower. elim (lower_or_this number members id lower) [
    | inl low ↦ (before key).greatest id low
    | inr same ↦ absurd (not_both (has_member members id) lower.1 (ap (has_member members) same ∙ other))
  ];
}

pub counted_below_more : (number : ℕ) (members : List ℕ) (kept : ℕ → Contents) (contents : Contents) (old new : ℕ) → has_member members number ≡ true → kept number ≡ contents
    → IsGreatestAmong (IsLower number members) kept old → CountsOn contents old new → IsGreatestAmong (IsLower (number + 1) members) kept new
counted_below_more number members kept contents old new member is before counts = record {
  most = λ id key lower. elim (lower_or_this number members id lower) [
    | inl low ↦ let most = before.most id key low in omega (arith, most, counts.grows)
    | inr same ↦ rw (same, is) (counts.reaches key)
  ];
  reached = elim counts.from [
    | inl same ↦ elim before.reached [
      | inl zero ↦ inl (same ∙ zero)
      | inr it ↦ inr (it.0, later number members it.0 it.1, it.2, it.3 ∙ sym same)
    ]
    | inr it ↦ inr (number, (omega arith, member), it.0, ap (λ (c : Contents). (seen_at c it.0).counter) is ∙ it.1)
  ];
}

pub counted_below_other : (number : ℕ) (members : List ℕ) (kept : ℕ → Contents) (past : ℕ) → has_member members number ≡ false → IsGreatestAmong (IsLower number members) kept past
    → IsGreatestAmong (IsLower (number + 1) members) kept past
counted_below_other number members kept past other before = record {
  most = λ id key lower. elim (lower_or_this number members id lower) [
    | inl low ↦ before.most id key low
    | inr same ↦ absurd (not_both (has_member members id) lower.1 (ap (has_member members) same ∙ other))
  ];
  reached = elim before.reached [
    | inl zero ↦ inl zero
    | inr it ↦ inr (it.0, later number members it.0 it.1, it.2, it.3)
  ];
}

-- ---- all
within : (number : ℕ) (members : List ℕ) (id : ℕ) → ((n : ℕ) → number ≤ n → has_member members n ≡ false) → has_member members id ≡ true → IsLower number members id
within number members id end member = elim (cases_lt id number) [
  | inl low ↦ (low, member)
  | inr high ↦ absurd (not_both (has_member members id) member (end id high))
]

pub found_in_all : (number : ℕ) (members : List ℕ) (kept : ℕ → Contents) (found : Slots) → ((n : ℕ) → number ≤ n → has_member members n ≡ false) → FoundBelow number members kept found
    → AreFindings members kept found
found_in_all number members kept found end below key = record {
  from = λ slot at. let it = (below key).from slot at in (it.0, it.1.1, it.2);
  greatest = λ id member. (below key).greatest id (within number members id end member);
}

pub counted_in_all : (number : ℕ) (members : List ℕ) (kept : ℕ → Contents) (past : ℕ) → ((n : ℕ) → number ≤ n → has_member members n ≡ false) → IsGreatestAmong (IsLower number members) kept past
    → IsGreatestCounter members kept past
counted_in_all number members kept past end below = record {
  most = λ id key member. below.most id key (within number members id end member);
  reached = elim below.reached [
    | inl zero ↦ inl zero
    | inr it ↦ inr (it.0, it.1.1, it.2, it.3)
  ];
}

-- ---- limits
-- a ballot above zero is one that a prepare at zero would be told
seen_counter_fits : (kept : Contents) (key : List ℕ) → AllBallotsFit kept → (seen_at kept key).counter ≤ 2 ^ 48
seen_counter_fits kept key fits = elim (cases_lt 0 (seen_at kept key).counter) [
  | inl some ↦ (told_fits kept (ask.Prepare key zero_ballot) (tell.Met (seen_at kept key)) kept fits
      (refl, record { counters = omega (arith, some); proposers = λ none. absurd (omega (arith, some, none)) }, refl)).counter
  | inr none ↦ omega (arith, none)
]

kept_fits_of : {S : Type 0} (contents : S → Contents) (shelf : Option S) → ((s : S) → shelf ≡ Some s → AllBallotsFit (contents s)) → AllBallotsFit (kept_of contents shelf)
kept_fits_of contents None fits = nothing_fits no_ages
kept_fits_of contents (Some s) fits = fits s refl

-- the ballots that members keep are within their limits
pub kept_fits : {S : Type 0} (is_up : S → Type 0) (contents : S → Contents) (members : List ℕ) (shelves : List S) → ((shelf : S) → is_up shelf → AllBallotsFit (contents shelf))
    → AreUp is_up members shelves → (id : ℕ) → has_member members id ≡ true → AllBallotsFit (kept_on contents shelves id)
kept_fits is_up contents members shelves fit up id member = kept_fits_of contents (slice_get shelves id) (λ shelf at. fit shelf (up id shelf member at))

goes_fits : (contents : Contents) (key : List ℕ) (slot : Slot) → AllBallotsFit contents → GoesOnFromAccepted contents key slot → SlotBallotsFit slot
goes_fits contents key slot fits goes = rw goes.is (record {
  promise = zero_fits;
  accepted = subst (λ (a : Option Accepted). IfSome a (λ it. FitsBallot it.ballot)) goes.at (accepted_fits (kept_at contents key) (fits key));
})

slot_fits : (found : Option Slot) → ((slot : Slot) → found ≡ Some slot → SlotBallotsFit slot) → IfSome found SlotBallotsFit
slot_fits None fits = tt
slot_fits (Some slot) fits = fits slot refl

pub findings_fit : (members : List ℕ) (kept : ℕ → Contents) (found : Slots) → ((id : ℕ) → has_member members id ≡ true → AllBallotsFit (kept id)) → AreFindings members kept found
    → (key : List ℕ) → IfSome (slot_at found key) SlotBallotsFit
findings_fit members kept found fits findings key = slot_fits (slot_at found key) (λ slot at. let it = (findings key).from slot at in goes_fits (kept it.0) key slot (fits it.0 it.1) it.2)

pub counter_fits : (members : List ℕ) (kept : ℕ → Contents) (past : ℕ) → ((id : ℕ) → has_member members id ≡ true → AllBallotsFit (kept id)) → IsGreatestCounter members kept past → past ≤ 2 ^ 48
counter_fits members kept past fits greatest = elim greatest.reached [
  | inl zero ↦ omega (arith, zero)
  | inr it ↦ let within = seen_counter_fits (kept it.0) it.2 (fits it.0 it.1) in omega (arith, within, it.3)
]
