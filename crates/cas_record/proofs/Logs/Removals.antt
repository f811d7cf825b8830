-- What an acceptor tells of a slot once it was asked to remove it at a tombstone that it took: that it is not there, or a ballot above the
-- tombstone.
use Rattle.std.proofs.Common.{◌≡◌, ℕ, Bool, true, false, cond, List, ◌∷◌, refl, sym, ap, ◌∙◌, subst}
use Rattle.std.specs.Prelude.{◌⊎◌}
use mathlib.Core.Logic.{inl, inr}
use Rattle.std.specs.Ordering.{is_lt}
use Rattle.cas_base.proofs.Bools.{if_true, if_false, true_or_false, not_both}
use Rattle.cas_ballot.specs.declared.ballot.Ballot.{Ballot}
use Rattle.cas_ballot.specs.Ballot.{ballot_cmp, zero_ballot, greater_of, BallotAtMost, BallotLess}
use Rattle.cas_ballot.proofs.BallotLemmas.{at_most_or_less, at_most_antisym, at_most_less, less_irreflexive, less_not_at_most}
use Rattle.cas_slot.specs.declared.message.Ask.{Ask}
use Rattle.cas_slot.specs.declared.message.Ask.TheVariants as ask
use Rattle.cas_slot.specs.declared.message.Request.{Request}
use Rattle.cas_slot.specs.declared.message.Reply.{Reply}
use Rattle.cas_slot.specs.declared.message.Tell.{Tell}
use Rattle.cas_slot.specs.declared.message.Tell.TheVariants as tell
use Rattle.cas_slot.specs.Message.{tag_of}
use Rattle.cas_slot.specs.Rules.{key_of}
use Rattle.cas_record.specs.Places.{At, Stands, here, past}
use Rattle.cas_record.specs.Logs.Happening.{Happening, Asked, Promised, Took, Dropped, Replied}
use Rattle.cas_record.specs.Logs.Lawful.{Cluster, Lawful, SlotTold, promised_slot, slot_told, is_slot}
use Rattle.cas_record.specs.Logs.Listing.{no_slot_told}
use Rattle.cas_record.specs.Logs.Orderly.{IsRoundAsk, WasAsked, MayPromiseBy, MayTakeBy, MayDropBy, IsTombstoneTold, IsTold, MayReply, HasReason, Orderly}
use Rattle.cas_record.proofs.PlaceLemmas.{deeper, stands_deeper, stands_at}
use Rattle.cas_record.proofs.Tests.{slot_same}
use Rattle.cas_record.proofs.Logs.Slots.{IsAboveDropped, slot_bounds, slot_of}
use Rattle.cas_record.proofs.Logs.Openings.{first_at}
use Rattle.cas_record.proofs.Logs.Orders.{reason, above_dropped, removed_above}

-- the slot is not there, or it has promised or accepted above the ballot
pub data IsGoneOrAbove (tomb : Ballot) (slot : SlotTold) : Type 0 where
  is_gone : slot ≡ no_slot_told → IsGoneOrAbove tomb slot
  promised_above : BallotLess tomb slot.promise → IsGoneOrAbove tomb slot
  accepted_above : BallotLess tomb slot.accepted → IsGoneOrAbove tomb slot

-- ---- what is asked above a ballot
-- what holds of a slot that is not there, and goes on as ballots above this one are promised and taken
record GoesOnAbove (tomb : Ballot) (P : SlotTold → Type 0) : Type 0 where
  none : P no_slot_told
  promises : (ballot : Ballot) (slot : SlotTold) → BallotLess tomb ballot → P slot → P (promised_slot slot ballot)
  takes : (ballot ride : Ballot) → BallotLess tomb ballot → P (record { promise = ride; accepted = ballot })

-- something was asked, and what the acceptor is asked for the key, and may answer, is above the ballot
record AsksAboveOnly (log : List Happening) (acceptor : ℕ) (key : List ℕ) (tomb : Ballot) : Type 0 where
  some : Request
  some_asked : Stands (Asked some) log
  above : (request : Request) → WasAsked log acceptor request → IsRoundAsk request.ask → key_of request.ask ≡ key → BallotLess tomb (tag_of request.ask)

one_more : (cluster : Cluster) (h : Happening) (log : List Happening) (acceptor : ℕ) (key : List ℕ) (tomb : Ballot) (P : SlotTold → Type 0) → GoesOnAbove tomb P → AsksAboveOnly log acceptor key tomb → HasReason cluster log h
    → P (slot_told log acceptor key) → P (slot_told (h ∷ log) acceptor key)
one_more cluster (Promised a k b told) log acceptor key tomb P goes above by was = elim (true_or_false (is_slot acceptor key a k)) [
  | inl own ↦
      let same = slot_same {acceptor = acceptor} {a = a} {key = key} {k = k} own in
      let may : MayPromiseBy log a k b told = by in
      let high = above.above may.request (subst (λ (x : ℕ). WasAsked log x may.request) same.0 may.was_asked) (subst IsRoundAsk (sym may.is) tt) (ap key_of may.is ∙ same.1) in
      subst P (sym (if_true (is_slot acceptor key a k) _ _ own)) (goes.promises b (slot_told log acceptor key) (subst (λ (x : Ask). BallotLess tomb (tag_of x)) may.is high) was)
  | inr other ↦ subst P (sym (if_false (is_slot acceptor key a k) _ _ other)) was
]
one_more cluster (Took a k b ride) log acceptor key tomb P goes above (inr first) was = absurd (first_at log first.first above.some_asked.at)
one_more cluster (Took a k b ride) log acceptor key tomb P goes above (inl by) was = elim (true_or_false (is_slot acceptor key a k)) [
  | inl own ↦
      let same = slot_same {acceptor = acceptor} {a = a} {key = key} {k = k} own in
      let may : MayTakeBy log a k b ride = by in
      let high = above.above may.request (subst (λ (x : ℕ). WasAsked log x may.request) same.0 may.was_asked) (subst IsRoundAsk (sym may.is) tt) (ap key_of may.is ∙ same.1) in
      subst P (sym (if_true (is_slot acceptor key a k) _ _ own)) (goes.takes b ride (subst (λ (x : Ask). BallotLess tomb (tag_of x)) may.is high))
  | inr other ↦ subst P (sym (if_false (is_slot acceptor key a k) _ _ other)) was
]
one_more cluster (Dropped a k t) log acceptor key tomb P goes above by was = elim (true_or_false (is_slot acceptor key a k)) [
  | inl own ↦ subst P (sym (if_true (is_slot acceptor key a k) _ _ own)) goes.none
  | inr other ↦ subst P (sym (if_false (is_slot acceptor key a k) _ _ other)) was
]
one_more cluster other log acceptor key tomb P goes above by was = was

-- so it holds from a happening on, since which all that is asked is above the ballot
from_then_on : (cluster : Cluster) {x : Happening} {older log : List Happening} (acceptor : ℕ) (key : List ℕ) (tomb : Ballot) (P : SlotTold → Type 0) → GoesOnAbove tomb P
    → ((now : List Happening) → At x older now → Orderly cluster now → AsksAboveOnly now acceptor key tomb) → At x older log → Orderly cluster log → P (slot_told (x ∷ older) acceptor key) → P (slot_told log acceptor key)
from_then_on cluster acceptor key tomb P goes above here orderly was = was
from_then_on cluster acceptor key tomb P goes above (past {y = y} {rest = rest} at) orderly was =
    one_more cluster y rest acceptor key tomb P goes (above rest at orderly.0) orderly.1 (from_then_on cluster acceptor key tomb P goes above at orderly.0 was)

-- ---- a slot that is gone or above
goes_above : (tomb : Ballot) → GoesOnAbove tomb (IsGoneOrAbove tomb)
goes_above tomb = record {
  none = is_gone refl;
  promises = λ ballot slot less was. when ballot slot less was (is_lt (ballot_cmp (greater_of slot.promise slot.accepted) ballot));
  takes = λ ballot ride less. accepted_above less;
}
  where
    when : (ballot : Ballot) (slot : SlotTold) → BallotLess tomb ballot → IsGoneOrAbove tomb slot → (t : Bool) → IsGoneOrAbove tomb (cond t (record slot { promise = ballot }) slot)
    when ballot slot less was true = promised_above less
    when ballot slot less was false = was

-- and since the acceptor removed it
after_removal : (cluster : Cluster) {log : List Happening} (acceptor : ℕ) (key : List ℕ) (tomb : Ballot) → Orderly cluster log → Stands (Dropped acceptor key tomb) log → IsGoneOrAbove tomb (slot_told log acceptor key)
after_removal cluster {log} acceptor key tomb orderly dropped =
    from_then_on cluster acceptor key tomb (IsGoneOrAbove tomb) (goes_above tomb) above dropped.at orderly
    (one_more_drop dropped.older)
  where
    above : (now : List Happening) → At (Dropped acceptor key tomb) dropped.older now → Orderly cluster now → AsksAboveOnly now acceptor key tomb
    above now at orderly_now =
        let by : MayDropBy dropped.older acceptor key tomb = reason cluster orderly_now at in
        record {
          some = by.request;
          some_asked = stands_deeper by.was_asked.asked at;
          above = λ request was round same.
              let over : IsAboveDropped now acceptor (key_of request.ask) (tag_of request.ask) = above_dropped cluster orderly_now was round in
              over.above (subst (λ (k : List ℕ). Stands (Dropped acceptor k tomb) now) (sym same) (stands_at at));
        }

    one_more_drop : (older : List Happening) → IsGoneOrAbove tomb (slot_told (Dropped acceptor key tomb ∷ older) acceptor key)
    one_more_drop older = elim (true_or_false (is_slot acceptor key acceptor key)) [
      | inl own ↦ is_gone (if_true (is_slot acceptor key acceptor key) _ _ own)
      | inr other ↦ absurd (not_own other)
    ]
      where
        not_own : is_slot acceptor key acceptor key ≡ false → ⊥
        not_own other = not_both (is_slot acceptor key acceptor key) (slot_of {acceptor = acceptor} {a = acceptor} {key = key} {k = key} refl refl) other

-- ---- a slot that is not told as the tombstone's
apart : (tomb : Ballot) → (tomb ≡ zero_ballot → ⊥) → GoesOnAbove tomb (λ (slot : SlotTold). IsTombstoneTold slot tomb → ⊥)
apart tomb some = record {
  none = λ told. some (sym told.holds);
  promises = λ ballot slot less was. when ballot slot less was (is_lt (ballot_cmp (greater_of slot.promise slot.accepted) ballot));
  takes = λ ballot ride less told. less_irreflexive (subst (BallotLess tomb) told.holds less);
}
  where
    when : (ballot : Ballot) (slot : SlotTold) → BallotLess tomb ballot → (IsTombstoneTold slot tomb → ⊥) → (t : Bool) → IsTombstoneTold (cond t (record slot { promise = ballot }) slot) tomb → ⊥
    when ballot slot less was true told = less_not_at_most less told.promise
    when ballot slot less was false told = was told

-- what an acceptor that was asked to remove the tombstone answered tells that its slot is not the tombstone's
abbrev pub IsRemovalTold : Tell → Type 0
IsRemovalTold told = (told ≡ tell.Removed) ⊎ (told ≡ tell.Kept)

told_apart : (log : List Happening) (acceptor : ℕ) (key : List ℕ) (tomb : Ballot) (told : Tell) → (tomb ≡ zero_ballot → ⊥) → IsRemovalTold told → IsTold log acceptor (ask.Remove key tomb) told → IsTombstoneTold (slot_told log acceptor key) tomb → ⊥
told_apart log acceptor key tomb told some (inl removed) is holds =
    let none : slot_told log acceptor key ≡ no_slot_told = subst (IsTold log acceptor (ask.Remove key tomb)) removed is in
    some (sym holds.holds ∙ ap (λ (s : SlotTold). s.accepted) none)
told_apart log acceptor key tomb told some (inr kept) is holds =
    let not : IsTombstoneTold (slot_told log acceptor key) tomb → ⊥ = subst (IsTold log acceptor (ask.Remove key tomb)) kept is in
    not holds

-- ---- both
-- an acceptor that took the tombstone and answered the request to remove it has no slot of the key, or one above the tombstone
pub gone_after : (cluster : Cluster) {log : List Happening} {acceptor : ℕ} {key : List ℕ} {tomb ride : Ballot} {request : Request} {reply : Reply} → Lawful cluster log → Orderly cluster log → (tomb ≡ zero_ballot → ⊥)
    → Stands (Took acceptor key tomb ride) log → Stands (Replied request reply) log → request.ask ≡ ask.Remove key tomb → request.to ≡ acceptor → IsRemovalTold reply.tell → IsGoneOrAbove tomb (slot_told log acceptor key)
gone_after cluster {log} {acceptor} {key} {tomb} {ride} {request} {reply} lawful orderly some took replied is to told =
    elim ((slot_bounds cluster log acceptor key lawful).took tomb ride took) [
      | inl low ↦ by_accepted low (at_most_or_less (slot_told log acceptor key).accepted tomb)
      | inr dropped ↦ raised dropped.tombstone dropped.above (after_removal cluster acceptor key dropped.tombstone orderly dropped.stands)
    ]
  where
    may : MayReply replied.older request reply
    may = reason cluster orderly replied.at

    not_told : IsTombstoneTold (slot_told log acceptor key) tomb → ⊥
    not_told = from_then_on cluster acceptor key tomb (λ (slot : SlotTold). IsTombstoneTold slot tomb → ⊥) (apart tomb some)
        (λ now at orderly_now. record {
          some = request;
          some_asked = stands_deeper may.asked at;
          above = λ asked was round same. removed_above cluster orderly_now (deeper may.asked.at at) is to was round same;
        }) replied.at orderly
        (subst (λ (a : ℕ). IsTombstoneTold (slot_told replied.older a key) tomb → ⊥) to (told_apart replied.older request.to key tomb reply.tell some told (subst (λ (q : Ask). IsTold replied.older request.to q reply.tell) is may.told)))

    by_accepted : BallotAtMost tomb (slot_told log acceptor key).accepted → BallotAtMost (slot_told log acceptor key).accepted tomb ⊎ BallotLess tomb (slot_told log acceptor key).accepted → IsGoneOrAbove tomb (slot_told log acceptor key)
    by_accepted low (inr above) = accepted_above above
    by_accepted low (inl high) = elim (at_most_or_less (slot_told log acceptor key).promise tomb) [
      | inl promise ↦ absurd (not_told (record { holds = at_most_antisym high low; promise = promise }))
      | inr above ↦ promised_above above
    ]

    raised : (floor : Ballot) → BallotAtMost tomb floor → IsGoneOrAbove floor (slot_told log acceptor key) → IsGoneOrAbove tomb (slot_told log acceptor key)
    raised floor low (is_gone gone) = is_gone gone
    raised floor low (promised_above above) = promised_above (at_most_less low above)
    raised floor low (accepted_above above) = accepted_above (at_most_less low above)
