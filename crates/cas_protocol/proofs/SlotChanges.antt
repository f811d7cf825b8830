-- What the log tells of the slots once one of them changed.
use Rattle.std.proofs.Common.{◌≡◌, ℕ, true, false, List, ◌∷◌, Option, Some, None, refl, sym, ap, subst, ◌∙◌, inl, inr}
use Rattle.std.specs.Prelude.{◌==◌}
use Rattle.std.specs.Ordering.{is_lt}
use Rattle.cas_base.proofs.Bools.{if_true, if_false, both_true, not_both, true_or_false, false_of_not}
use Rattle.cas_ballot.specs.declared.ballot.Ballot.{Ballot}
use Rattle.cas_ballot.specs.Ballot.{ballot_cmp, greater_of, BallotAtMost, BallotLess}
use Rattle.cas_ballot.proofs.BallotLemmas.{at_most_refl, at_most_trans, at_most_greater_left, at_most_greater_right, not_lt_of_at_most}
use Rattle.cas_slot.specs.declared.slot.Accepted.{Accepted}
use Rattle.cas_slot.specs.declared.slot.Slot.{Slot}
use Rattle.cas_slot.specs.Contents.{Contents, kept_at, with_kept, without_kept}
use Rattle.cas_slot.specs.Slot.{accepted_of, seen_of}
use Rattle.cas_slot.proofs.SlotsLemmas.{slot_at-with_slot_same, slot_at-with_slot_other, slot_at-without_slot_same, slot_at-without_slot_other}
use Rattle.cas_record.specs.Histories.Chain.{is_key}
use Rattle.cas_record.specs.Logs.Happening.{Happening, Promised, Took, Dropped}
use Rattle.cas_record.specs.Logs.Lawful.{SlotTold, slot_told, is_slot, promised_slot}
use Rattle.cas_record.proofs.Tests.{key_same, key_is, key_refl, nat_is, slot_same, less_is}
use Rattle.cas_protocol.specs.Acceptors.{told_of}

-- ---- what a slot tells
pub told_seen : (slot : Option Slot) → greater_of (told_of slot).promise (told_of slot).accepted ≡ seen_of slot
told_seen None = refl
told_seen (Some slot) = refl

-- the slot has not seen a ballot above this one
pub low_promise : (slot : Option Slot) (ballot : Ballot) → BallotAtMost (seen_of slot) ballot → BallotAtMost (told_of slot).promise ballot
low_promise slot ballot low = at_most_trans (at_most_greater_left (told_of slot).promise (told_of slot).accepted) (subst (λ b. BallotAtMost b ballot) (sym (told_seen slot)) low)

pub low_accepted : (slot : Option Slot) (ballot : Ballot) → BallotAtMost (seen_of slot) ballot → BallotAtMost (told_of slot).accepted ballot
low_accepted slot ballot low = at_most_trans (at_most_greater_right (told_of slot).promise (told_of slot).accepted) (subst (λ b. BallotAtMost b ballot) (sym (told_seen slot)) low)

-- what the log tells of a slot that promised
pub promised_new : (slot : Option Slot) (ballot : Ballot) → BallotLess (seen_of slot) ballot
    → promised_slot (told_of slot) ballot ≡ told_of (Some (record { promise = ballot; accepted = accepted_of slot }))
promised_new slot ballot less =
    if_true (is_lt (ballot_cmp (greater_of (told_of slot).promise (told_of slot).accepted) ballot)) _ _
    (less_is (subst (λ b. BallotLess b ballot) (sym (told_seen slot)) less))

pub promised_again : (slot : Option Slot) (ballot : Ballot) → seen_of slot ≡ ballot → promised_slot (told_of slot) ballot ≡ told_of slot
promised_again slot ballot same =
    if_false (is_lt (ballot_cmp (greater_of (told_of slot).promise (told_of slot).accepted) ballot)) _ _
    (not_lt_of_at_most (subst (BallotAtMost ballot) (sym (told_seen slot ∙ same)) (at_most_refl ballot)))

-- ---- one slot changes
-- the slots of other acceptors and keys stay as they were told
other_slot : (acceptor a : ℕ) (key k : List ℕ) → ((a ≡ acceptor) × (k ≡ key) → ⊥) → is_slot acceptor key a k ≡ false
other_slot acceptor a key k differs = false_of_not _ (λ e. differs (slot_same {acceptor = acceptor} {a = a} {key = key} {k = k} e))

own_slot : (acceptor : ℕ) (key : List ℕ) → is_slot acceptor key acceptor key ≡ true
own_slot acceptor key = both_true (acceptor == acceptor) (is_key key key) (nat_is {a = acceptor} refl) (key_refl key)

-- what is told of each slot after one of them changed
pub record ChangesSlot (old new : List Happening) (acceptor : ℕ) (key : List ℕ) (slot : SlotTold) : Type 0 where
  pub own : slot_told new acceptor key ≡ slot
  pub other : (a : ℕ) (k : List ℕ) → ((acceptor ≡ a) × (key ≡ k) → ⊥) → slot_told new a k ≡ slot_told old a k

pub promise_changes : (log : List Happening) (acceptor : ℕ) (key : List ℕ) (ballot told : Ballot)
    → ChangesSlot log (Promised acceptor key ballot told ∷ log) acceptor key (promised_slot (slot_told log acceptor key) ballot)
promise_changes log acceptor key ballot told = record {
  own = if_true (is_slot acceptor key acceptor key) _ _ (own_slot acceptor key);
  other = λ a k differs. if_false (is_slot a k acceptor key) _ _ (other_slot a acceptor k key differs);
}

pub take_changes : (log : List Happening) (acceptor : ℕ) (key : List ℕ) (ballot ride : Ballot)
    → ChangesSlot log (Took acceptor key ballot ride ∷ log) acceptor key (record { promise = ride; accepted = ballot })
take_changes log acceptor key ballot ride = record {
  own = if_true (is_slot acceptor key acceptor key) _ _ (own_slot acceptor key);
  other = λ a k differs. if_false (is_slot a k acceptor key) _ _ (other_slot a acceptor k key differs);
}

pub drop_changes : (log : List Happening) (acceptor : ℕ) (key : List ℕ) (tomb : Ballot)
    → ChangesSlot log (Dropped acceptor key tomb ∷ log) acceptor key (told_of None)
drop_changes log acceptor key tomb = record {
  own = if_true (is_slot acceptor key acceptor key) _ _ (own_slot acceptor key);
  other = λ a k differs. if_false (is_slot a k acceptor key) _ _ (other_slot a acceptor k key differs);
}

-- ---- the contents with one slot changed
-- the slot of each key, where the log tells the slot that was put and every other as before
pub slots_put : {old new : List Happening} {id : ℕ} {key : List ℕ} {told : SlotTold} (kept : Contents) (slot : Slot) → ChangesSlot old new id key told → told ≡ told_of (Some slot)
    → ((q : List ℕ) → slot_told old id q ≡ told_of (kept_at kept q)) → (q : List ℕ) → slot_told new id q ≡ told_of (kept_at (with_kept kept key slot) q)
slots_put {old} {new} {id} {key} kept slot c is was q = elim (true_or_false (is_key key q)) [
  | inl same ↦ subst (λ k. slot_told new id k ≡ told_of (kept_at (with_kept kept key slot) k)) (key_same same) (c.own ∙ is ∙ ap told_of (sym (slot_at-with_slot_same kept.slots key slot)))
  | inr other ↦
      let differs : key ≡ q → ⊥ = λ e. not_both (is_key key q) (key_is e) other in
      c.other id q (λ same. differs same.1) ∙ was q ∙ ap told_of (sym (slot_at-with_slot_other kept.slots key slot q (λ e. differs (sym e))))
]

-- where the log tells the slot as it is
pub slots_same : {old new : List Happening} {id : ℕ} {key : List ℕ} {told : SlotTold} (kept : Contents) → ChangesSlot old new id key told → told ≡ told_of (kept_at kept key)
    → ((q : List ℕ) → slot_told old id q ≡ told_of (kept_at kept q)) → (q : List ℕ) → slot_told new id q ≡ told_of (kept_at kept q)
slots_same {old} {new} {id} {key} kept c is was q = elim (true_or_false (is_key key q)) [
  | inl same ↦ subst (λ k. slot_told new id k ≡ told_of (kept_at kept k)) (key_same same) (c.own ∙ is)
  | inr other ↦ c.other id q (λ same. not_both (is_key key q) (key_is same.1) other) ∙ was q
]

-- and where the slot was removed
pub slots_dropped : {old new : List Happening} {id : ℕ} {key : List ℕ} (kept : Contents) → ChangesSlot old new id key (told_of None)
    → ((q : List ℕ) → slot_told old id q ≡ told_of (kept_at kept q)) → (q : List ℕ) → slot_told new id q ≡ told_of (kept_at (without_kept kept key) q)
slots_dropped {old} {new} {id} {key} kept c was q = elim (true_or_false (is_key key q)) [
  | inl same ↦ subst (λ k. slot_told new id k ≡ told_of (kept_at (without_kept kept key) k)) (key_same same) (c.own ∙ ap told_of (sym (slot_at-without_slot_same kept.slots key)))
  | inr other ↦
      let differs : key ≡ q → ⊥ = λ e. not_both (is_key key q) (key_is e) other in
      c.other id q (λ same. differs same.1) ∙ was q ∙ ap told_of (sym (slot_at-without_slot_other kept.slots key q (λ e. differs (sym e))))
]

-- what holds of the accepted state of each slot, where it holds of the one that was put
pub states_put : (kept : Contents) (key : List ℕ) (slot : Slot) (P : List ℕ → Option Accepted → Type 0) → P key slot.accepted
    → ((q : List ℕ) → P q (accepted_of (kept_at kept q))) → (q : List ℕ) → P q (accepted_of (kept_at (with_kept kept key slot) q))
states_put kept key slot P put all q = elim (true_or_false (is_key key q)) [
  | inl same ↦ subst (λ k. P k (accepted_of (kept_at (with_kept kept key slot) k))) (key_same same) (subst (λ (s : Option Slot). P key (accepted_of s)) (sym (slot_at-with_slot_same kept.slots key slot)) put)
  | inr other ↦
      subst (λ (s : Option Slot). P q (accepted_of s)) (sym (slot_at-with_slot_other kept.slots key slot q (λ e. not_both (is_key key q) (key_is (sym e)) other))) (all q)
]

pub states_dropped : (kept : Contents) (key : List ℕ) (P : List ℕ → Option Accepted → Type 0) → P key None
    → ((q : List ℕ) → P q (accepted_of (kept_at kept q))) → (q : List ℕ) → P q (accepted_of (kept_at (without_kept kept key) q))
states_dropped kept key P none all q = elim (true_or_false (is_key key q)) [
  | inl same ↦ subst (λ k. P k (accepted_of (kept_at (without_kept kept key) k))) (key_same same) (subst (λ (s : Option Slot). P key (accepted_of s)) (sym (slot_at-without_slot_same kept.slots key)) none)
  | inr other ↦
      subst (λ (s : Option Slot). P q (accepted_of s)) (sym (slot_at-without_slot_other kept.slots key q (λ e. not_both (is_key key q) (key_is (sym e)) other))) (all q)
]
