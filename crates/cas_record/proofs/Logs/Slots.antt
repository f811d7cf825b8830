-- The slot that the log tells of an acceptor bounds what the acceptor saw, so that its own comparison of ballots is what
-- the rules ask of a promise and of an acceptance. What it saw before it removed a slot is under the tombstone.
use Rattle.std.proofs.Common.{◌≡◌, ℕ, Bool, true, false, List, [], ◌∷◌, cond, refl, sym, ap, ◌∙◌, subst}
use Rattle.std.specs.Prelude.{◌⊎◌, ◌==◌}
use mathlib.Core.Logic.{inl, inr}
use Rattle.std.specs.Ordering.{is_lt}
use Rattle.cas_ballot.specs.declared.ballot.Ballot.{Ballot}
use Rattle.cas_ballot.specs.Ballot.{ballot_cmp, zero_ballot, greater_of, BallotAtMost, BallotLess}
use Rattle.cas_ballot.proofs.BallotLemmas.{at_most_or_less, at_most_refl, at_most_trans, at_most_greater_left, at_most_greater_right, greater_at_most, at_most_of_less}
use Rattle.cas_record.specs.Places.{At, Stands, here, past}
use Rattle.cas_record.specs.Histories.Chain.{is_key}
use Rattle.cas_record.specs.Logs.Happening.{Happening, Promised, Took, Dropped, marks_of}
use Rattle.cas_record.specs.Logs.Lawful.{Cluster, IsMade, Lawful, HasSeen, in_promise, in_take, in_ride, MayPromise, MayTake, MayDrop, SlotTold, promised_slot, slot_told, is_slot}
use Rattle.cas_record.proofs.PlaceLemmas.{none_at_nil, newest_or, stands_part}
use Rattle.cas_base.proofs.Bools.{if_true, if_false, true_or_false, both_true, not_both}
use Rattle.cas_record.proofs.Tests.{less_is, key_is, nat_is, slot_same}
use Rattle.cas_record.proofs.Logs.Lemmas.{law, part_of}

-- the acceptor removed the key's slot at a tombstone that is at or above the ballot
pub record IsDropped (acceptor : ℕ) (key : List ℕ) (ballot : Ballot) (log : List Happening) : Type 0 where
  pub tombstone : Ballot
  pub stands : Stands (Dropped acceptor key tombstone) log
  pub above : BallotAtMost ballot tombstone

dropped_more : {acceptor : ℕ} {key : List ℕ} {ballot : Ballot} {h : Happening} {log : List Happening} → IsDropped acceptor key ballot log → IsDropped acceptor key ballot (h ∷ log)
dropped_more d = record { tombstone = d.tombstone; stands = record { older = d.stands.older; at = past d.stands.at }; above = d.above }

-- what the acceptor saw is at most what the slot has seen, and what it took is at most what the slot accepted, unless
-- it was removed since
pub record SlotBounds (slot : SlotTold) (acceptor : ℕ) (key : List ℕ) (log : List Happening) : Type 0 where
  pub seen : (ballot : Ballot) → HasSeen log acceptor key ballot → BallotAtMost ballot (greater_of slot.promise slot.accepted) ⊎ IsDropped acceptor key ballot log
  pub took : (ballot ride : Ballot) → Stands (Took acceptor key ballot ride) log → BallotAtMost ballot slot.accepted ⊎ IsDropped acceptor key ballot log

-- ---- the newest happening and the older ones
data SeenNow (h : Happening) (acceptor : ℕ) (key : List ℕ) (ballot : Ballot) : Type 0 where
  now_promise : (told : Ballot) → Promised acceptor key ballot told ≡ h → SeenNow h acceptor key ballot
  now_take : (ride : Ballot) → Took acceptor key ballot ride ≡ h → SeenNow h acceptor key ballot
  now_ride : (taken : Ballot) → Took acceptor key taken ballot ≡ h → SeenNow h acceptor key ballot

seen_head : {h : Happening} {older : List Happening} {acceptor : ℕ} {key : List ℕ} {ballot : Ballot} → HasSeen (h ∷ older) acceptor key ballot → SeenNow h acceptor key ballot ⊎ HasSeen older acceptor key ballot
seen_head (in_promise told s) = elim (newest_or s) [ inl e ↦ inl (now_promise told e) | inr older ↦ inr (in_promise told older) ]
seen_head (in_take ride s) = elim (newest_or s) [ inl e ↦ inl (now_take ride e) | inr older ↦ inr (in_take ride older) ]
seen_head (in_ride taken s) = elim (newest_or s) [ inl e ↦ inl (now_ride taken e) | inr older ↦ inr (in_ride taken older) ]

-- ---- a happening that is none of the slot's
-- the happening is of another slot, or tells nothing of slots
record Elsewhere (h : Happening) (acceptor : ℕ) (key : List ℕ) : Type 0 where
  no_seen : (ballot : Ballot) → SeenNow h acceptor key ballot → ⊥
  no_take : (ballot ride : Ballot) → Took acceptor key ballot ride ≡ h → ⊥

bounds_elsewhere : {slot : SlotTold} {acceptor : ℕ} {key : List ℕ} {h : Happening} {log : List Happening} → Elsewhere h acceptor key → SlotBounds slot acceptor key log → SlotBounds slot acceptor key (h ∷ log)
bounds_elsewhere e b = record {
  seen = λ ballot s. elim (seen_head s) [
    | inl now ↦ absurd (e.no_seen ballot now)
    | inr older ↦ elim (b.seen ballot older) [ inl low ↦ inl low | inr dropped ↦ inr (dropped_more dropped) ]
  ];
  took = λ ballot ride s. elim (newest_or s) [
    | inl now ↦ absurd (e.no_take ballot ride now)
    | inr older ↦ elim (b.took ballot ride older) [ inl low ↦ inl low | inr dropped ↦ inr (dropped_more dropped) ]
  ];
}

pub slot_of : {acceptor a : ℕ} {key k : List ℕ} → acceptor ≡ a → key ≡ k → is_slot acceptor key a k ≡ true
slot_of {acceptor} {a} {key} {k} p q = both_true (a == acceptor) (is_key k key) (nat_is (sym p)) (key_is (sym q))

-- a happening that is no promise and no acceptance shows nothing
silent : {h : Happening} {acceptor : ℕ} {key : List ℕ} → ((ballot told : Ballot) → Promised acceptor key ballot told ≡ h → ⊥) → ((ballot ride : Ballot) → Took acceptor key ballot ride ≡ h → ⊥) → Elsewhere h acceptor key
silent {h} {acceptor} {key} no_promise no_take = record { no_seen = none; no_take = no_take }
  where
    none : (ballot : Ballot) → SeenNow h acceptor key ballot → ⊥
    none ballot (now_promise told e) = no_promise ballot told e
    none ballot (now_take ride e) = no_take ballot ride e
    none ballot (now_ride taken e) = no_take taken ballot e

promise_elsewhere : {acceptor a : ℕ} {key k : List ℕ} {b told : Ballot} → is_slot acceptor key a k ≡ false → Elsewhere (Promised a k b told) acceptor key
promise_elsewhere {acceptor} {a} {key} {k} {b} {told} other =
    silent (λ ballot t e. let p : acceptor ≡ a = cc in let q : key ≡ k = cc in not_both (is_slot acceptor key a k) (slot_of p q) other) (λ ballot ride e. absurd cc)

take_elsewhere : {acceptor a : ℕ} {key k : List ℕ} {b r : Ballot} → is_slot acceptor key a k ≡ false → Elsewhere (Took a k b r) acceptor key
take_elsewhere {acceptor} {a} {key} {k} {b} {r} other =
    silent (λ ballot t e. absurd cc) (λ ballot ride e. let p : acceptor ≡ a = cc in let q : key ≡ k = cc in not_both (is_slot acceptor key a k) (slot_of p q) other)

drop_elsewhere : {acceptor a : ℕ} {key k : List ℕ} {t : Ballot} → Elsewhere (Dropped a k t) acceptor key
drop_elsewhere = silent (λ ballot t e. absurd cc) (λ ballot ride e. absurd cc)

drop_shows_none : {acceptor a : ℕ} {key k : List ℕ} {t ballot : Ballot} → SeenNow (Dropped a k t) acceptor key ballot → ⊥
drop_shows_none (now_promise told e) = cc
drop_shows_none (now_take ride e) = cc
drop_shows_none (now_ride taken e) = cc

bounds_when : (t : Bool) {acceptor : ℕ} {key : List ℕ} {log : List Happening} (yes_slot no_slot : SlotTold) → (t ≡ true → SlotBounds yes_slot acceptor key log) → (t ≡ false → SlotBounds no_slot acceptor key log)
    → SlotBounds (cond t yes_slot no_slot) acceptor key log
bounds_when true yes_slot no_slot f g = f refl
bounds_when false yes_slot no_slot f g = g refl

-- ---- a happening of the slot
bounds_promise : {slot : SlotTold} {acceptor a : ℕ} {key k : List ℕ} {b told : Ballot} {log : List Happening} → a ≡ acceptor → k ≡ key → MayPromise log a k b told → SlotBounds slot acceptor key log
    → SlotBounds (record { promise = b; accepted = slot.accepted }) acceptor key (Promised a k b told ∷ log)
bounds_promise {slot} {acceptor} {a} {key} {k} {b} {told} {log} p q may bounds = record {
  seen = λ ballot s. inl (at_most_trans (low ballot (seen_head s)) (at_most_greater_left b slot.accepted));
  took = λ ballot ride s. elim (newest_or s) [
    | inl now ↦ absurd cc
    | inr older ↦ elim (bounds.took ballot ride older) [ inl low ↦ inl low | inr dropped ↦ inr (dropped_more dropped) ]
  ];
}
  where
    moved : (ballot : Ballot) → HasSeen log acceptor key ballot → HasSeen log a k ballot
    moved ballot s = subst (λ x. HasSeen log x k ballot) (sym p) (subst (λ x. HasSeen log acceptor x ballot) (sym q) s)

    low : (ballot : Ballot) → SeenNow (Promised a k b told) acceptor key ballot ⊎ HasSeen log acceptor key ballot → BallotAtMost ballot b
    low ballot (inl (now_promise t e)) = let same : ballot ≡ b = cc in subst (λ x. BallotAtMost x b) (sym same) (at_most_refl b)
    low ballot (inl (now_take r e)) = absurd cc
    low ballot (inl (now_ride t e)) = absurd cc
    low ballot (inr older) = may.seen ballot (moved ballot older)

-- a ballot that the slot has seen is promised again
bounds_again : {slot : SlotTold} {acceptor a : ℕ} {key k : List ℕ} {b told : Ballot} {log : List Happening} → BallotAtMost b (greater_of slot.promise slot.accepted) → SlotBounds slot acceptor key log
    → SlotBounds slot acceptor key (Promised a k b told ∷ log)
bounds_again {slot} {acceptor} {a} {key} {k} {b} {told} {log} seen bounds = record {
  seen = λ ballot s. low ballot (seen_head s);
  took = λ ballot ride s. elim (newest_or s) [
    | inl now ↦ absurd cc
    | inr older ↦ elim (bounds.took ballot ride older) [ inl low ↦ inl low | inr dropped ↦ inr (dropped_more dropped) ]
  ];
}
  where
    low : (ballot : Ballot) → SeenNow (Promised a k b told) acceptor key ballot ⊎ HasSeen log acceptor key ballot
        → BallotAtMost ballot (greater_of slot.promise slot.accepted) ⊎ IsDropped acceptor key ballot (Promised a k b told ∷ log)
    low ballot (inl (now_promise t e)) = let same : ballot ≡ b = cc in inl (subst (λ x. BallotAtMost x (greater_of slot.promise slot.accepted)) (sym same) seen)
    low ballot (inl (now_take r e)) = absurd cc
    low ballot (inl (now_ride t e)) = absurd cc
    low ballot (inr older) = elim (bounds.seen ballot older) [ inl most ↦ inl most | inr dropped ↦ inr (dropped_more dropped) ]

bounds_promised : {slot : SlotTold} {acceptor a : ℕ} {key k : List ℕ} {b told : Ballot} {log : List Happening} → a ≡ acceptor → k ≡ key → MayPromise log a k b told → SlotBounds slot acceptor key log
    → SlotBounds (promised_slot slot b) acceptor key (Promised a k b told ∷ log)
bounds_promised {slot} {b = b} p q may bounds =
    let seen = greater_of slot.promise slot.accepted in
    bounds_when (is_lt (ballot_cmp seen b)) (record slot { promise = b }) slot
    (λ e. bounds_promise {slot = slot} p q may bounds)
    (λ e. bounds_again (elim (at_most_or_less b seen) [ inl low ↦ low | inr high ↦ absurd (not_both (is_lt (ballot_cmp seen b)) (less_is high) e) ]) bounds)

bounds_take : {acceptor a : ℕ} {key k : List ℕ} {b r : Ballot} {log : List Happening} → a ≡ acceptor → k ≡ key → MayTake log a k b
    → SlotBounds (record { promise = r; accepted = b }) acceptor key (Took a k b r ∷ log)
bounds_take {acceptor} {a} {key} {k} {b} {r} {log} p q may = record {
  seen = λ ballot s. inl (low ballot (seen_head s));
  took = λ ballot ride s. inl (elim (newest_or s) [
    | inl now ↦ let same : ballot ≡ b = cc in subst (λ x. BallotAtMost x b) (sym same) (at_most_refl b)
    | inr older ↦ may.seen ballot (moved ballot (in_take ride older))
  ]);
}
  where
    moved : (ballot : Ballot) → HasSeen log acceptor key ballot → HasSeen log a k ballot
    moved ballot s = subst (λ x. HasSeen log x k ballot) (sym p) (subst (λ x. HasSeen log acceptor x ballot) (sym q) s)

    low : (ballot : Ballot) → SeenNow (Took a k b r) acceptor key ballot ⊎ HasSeen log acceptor key ballot → BallotAtMost ballot (greater_of r b)
    low ballot (inl (now_promise t e)) = absurd cc
    low ballot (inl (now_take x e)) = let same : ballot ≡ b = cc in subst (λ x. BallotAtMost x (greater_of r b)) (sym same) (at_most_greater_right r b)
    low ballot (inl (now_ride t e)) = let same : ballot ≡ r = cc in subst (λ x. BallotAtMost x (greater_of r b)) (sym same) (at_most_greater_left r b)
    low ballot (inr older) = at_most_trans (may.seen ballot (moved ballot older)) (at_most_greater_right r b)

bounds_drop : {slot : SlotTold} {acceptor a : ℕ} {key k : List ℕ} {t : Ballot} {log : List Happening} → a ≡ acceptor → k ≡ key → slot.accepted ≡ t → BallotAtMost slot.promise t → SlotBounds slot acceptor key log
    → SlotBounds (record { promise = zero_ballot; accepted = zero_ballot }) acceptor key (Dropped a k t ∷ log)
bounds_drop {slot} {acceptor} {a} {key} {k} {t} {log} p q holds promise bounds = record {
  seen = λ ballot s. inr (elim (seen_head s) [
    | inl now ↦ absurd (drop_shows_none now)
    | inr older ↦ elim (bounds.seen ballot older) [ inl low ↦ dropped ballot (at_most_trans low all_low) | inr before ↦ dropped_more before ]
  ]);
  took = λ ballot ride s. inr (elim (newest_or s) [
    | inl now ↦ absurd cc
    | inr older ↦ elim (bounds.took ballot ride older) [ inl low ↦ dropped ballot (subst (BallotAtMost ballot) holds low) | inr before ↦ dropped_more before ]
  ]);
}
  where
    all_low : BallotAtMost (greater_of slot.promise slot.accepted) t
    all_low = greater_at_most promise (subst (λ x. BallotAtMost x t) (sym holds) (at_most_refl t))

    dropped : (ballot : Ballot) → BallotAtMost ballot t → IsDropped acceptor key ballot (Dropped a k t ∷ log)
    dropped ballot low = record {
      tombstone = t;
      stands = record { older = log; at = subst (λ x. At (Dropped x key t) log (Dropped a k t ∷ log)) p (subst (λ x. At (Dropped a x t) log (Dropped a k t ∷ log)) q here) };
      above = low;
    }

-- ---- the slot of a lawful log
none_seen : {acceptor : ℕ} {key : List ℕ} {ballot : Ballot} → HasSeen [] acceptor key ballot → ⊥
none_seen (in_promise told s) = none_at_nil s.at
none_seen (in_take ride s) = none_at_nil s.at
none_seen (in_ride taken s) = none_at_nil s.at

pub slot_bounds : (cluster : Cluster) (log : List Happening) (acceptor : ℕ) (key : List ℕ) → Lawful cluster log → SlotBounds (slot_told log acceptor key) acceptor key log
slot_bounds cluster [] acceptor key lawful = record { seen = λ ballot s. absurd (none_seen s); took = λ ballot ride s. absurd (none_at_nil s.at) }
slot_bounds cluster (Promised a k b told ∷ older) acceptor key lawful =
    let before = slot_bounds cluster older acceptor key lawful.0 in
    bounds_when (is_slot acceptor key a k) (promised_slot (slot_told older acceptor key) b) (slot_told older acceptor key)
    (λ e. let same = slot_same {acceptor = acceptor} {a = a} {key = key} {k = k} e in bounds_promised {slot = slot_told older acceptor key} same.0 same.1 lawful.1 before)
    (λ e. bounds_elsewhere (promise_elsewhere e) before)
slot_bounds cluster (Took a k b ride ∷ older) acceptor key lawful =
    let before = slot_bounds cluster older acceptor key lawful.0 in
    bounds_when (is_slot acceptor key a k) (record { promise = ride; accepted = b }) (slot_told older acceptor key)
    (λ e. let same = slot_same {acceptor = acceptor} {a = a} {key = key} {k = k} e in bounds_take same.0 same.1 lawful.1)
    (λ e. bounds_elsewhere (take_elsewhere e) before)
slot_bounds cluster (Dropped a k t ∷ older) acceptor key lawful =
    let before = slot_bounds cluster older acceptor key lawful.0 in
    let may : MayDrop older a k t = lawful.1 in
    bounds_when (is_slot acceptor key a k) (record { promise = zero_ballot; accepted = zero_ballot }) (slot_told older acceptor key)
    (λ e.
    let same = slot_same {acceptor = acceptor} {a = a} {key = key} {k = k} e in
    let holds : (slot_told older acceptor key).accepted ≡ t = subst (λ x. (slot_told older x key).accepted ≡ t) same.0 (subst (λ x. (slot_told older a x).accepted ≡ t) same.1 may.holds) in
    let promise : BallotAtMost (slot_told older acceptor key).promise t = subst (λ x. BallotAtMost (slot_told older x key).promise t) same.0 (subst (λ x. BallotAtMost (slot_told older a x).promise t) same.1 may.promise) in
    bounds_drop {slot = slot_told older acceptor key} same.0 same.1 holds promise before)
    (λ e. bounds_elsewhere drop_elsewhere before)
slot_bounds cluster (other ∷ older) acceptor key lawful =
    bounds_elsewhere (silent (λ ballot t e. absurd cc) (λ ballot ride e. absurd cc)) (slot_bounds cluster older acceptor key lawful.0)

-- ---- what the acceptor's own comparison allows
-- the ballot is above every tombstone at which the acceptor removed the key's slot
pub record IsAboveDropped (log : List Happening) (acceptor : ℕ) (key : List ℕ) (ballot : Ballot) : Type 0 where
  pub above : {tombstone : Ballot} → Stands (Dropped acceptor key tombstone) log → BallotLess tombstone ballot

under_slot : (cluster : Cluster) (log : List Happening) (acceptor : ℕ) (key : List ℕ) (ballot : Ballot) → Lawful cluster log → IsAboveDropped log acceptor key ballot
    → BallotAtMost (slot_told log acceptor key).promise ballot → BallotAtMost (slot_told log acceptor key).accepted ballot
    → (seen : Ballot) → HasSeen log acceptor key seen → BallotAtMost seen ballot
under_slot cluster log acceptor key ballot lawful dropped promise accepted seen s = elim ((slot_bounds cluster log acceptor key lawful).seen seen s) [
  | inl low ↦ at_most_trans low (greater_at_most promise accepted)
  | inr before ↦ at_most_trans before.above (at_most_of_less (dropped.above before.stands))
]

-- a ballot at or above what the slot has seen may be promised, and what the slot accepted told
pub may_promise : (cluster : Cluster) (log : List Happening) (acceptor : ℕ) (key : List ℕ) (ballot : Ballot) → Lawful cluster log → IsAboveDropped log acceptor key ballot
    → BallotAtMost (slot_told log acceptor key).promise ballot → BallotAtMost (slot_told log acceptor key).accepted ballot
    → MayPromise log acceptor key ballot (slot_told log acceptor key).accepted
may_promise cluster log acceptor key ballot lawful dropped promise accepted = record {
  seen = under_slot cluster log acceptor key ballot lawful dropped promise accepted;
  tells = λ {taken} {ride} s. elim ((slot_bounds cluster log acceptor key lawful).took taken ride s) [
    | inl low ↦ inl low
    | inr before ↦
        let may : MayDrop before.stands.older acceptor key before.tombstone = law cluster lawful before.stands.at in
        inr (record {
          floor = before.tombstone;
          state = may.state;
          stands = stands_part may.floor (part_of before.stands.at);
          above = before.above;
          below = dropped.above before.stands;
        })
  ];
}

-- a ballot that was made, at or above what the slot has seen, may be taken
pub may_take : (cluster : Cluster) (log : List Happening) (acceptor : ℕ) (key : List ℕ) (ballot : Ballot) → Lawful cluster log → IsAboveDropped log acceptor key ballot
    → IsMade key ballot (marks_of log) → BallotAtMost (slot_told log acceptor key).promise ballot → BallotAtMost (slot_told log acceptor key).accepted ballot
    → MayTake log acceptor key ballot
may_take cluster log acceptor key ballot lawful dropped made promise accepted = record {
  made = made;
  seen = under_slot cluster log acceptor key ballot lawful dropped promise accepted;
}

-- ---- what the slot accepted
promised_keeps : (t : Bool) (slot : SlotTold) (ballot : Ballot) → (cond t (record slot { promise = ballot }) slot).accepted ≡ slot.accepted
promised_keeps true slot ballot = refl
promised_keeps false slot ballot = refl

same_accepted : (t : Bool) (x y : SlotTold) → x.accepted ≡ y.accepted → (cond t x y).accepted ≡ y.accepted
same_accepted true x y p = p
same_accepted false x y p = refl

-- a promise leaves what the slot accepted
pub promise_keeps : (log : List Happening) (acceptor : ℕ) (key : List ℕ) (a : ℕ) (k : List ℕ) (ballot told : Ballot)
    → (slot_told (Promised a k ballot told ∷ log) acceptor key).accepted ≡ (slot_told log acceptor key).accepted
promise_keeps log acceptor key a k ballot told =
    let slot = slot_told log acceptor key in
    same_accepted (is_slot acceptor key a k) (promised_slot slot ballot) slot (promised_keeps (is_lt (ballot_cmp (greater_of slot.promise slot.accepted) ballot)) slot ballot)

take_more : {happening : Happening} {log : List Happening} {acceptor : ℕ} {key : List ℕ} {ballot : Ballot} → (ride : Ballot) × Stands (Took acceptor key ballot ride) log
    → (ride : Ballot) × Stands (Took acceptor key ballot ride) (happening ∷ log)
take_more rest = (rest.0, record { older = rest.1.older; at = past rest.1.at })

-- what a slot accepted was taken
pub took_tells : (log : List Happening) (acceptor : ℕ) (key : List ℕ) (ballot : Ballot) → (slot_told log acceptor key).accepted ≡ ballot → (ballot ≡ zero_ballot → ⊥)
    → (ride : Ballot) × Stands (Took acceptor key ballot ride) log
took_tells [] acceptor key ballot e some = absurd (some (sym e))
took_tells (Promised a k b told ∷ older) acceptor key ballot e some = take_more (took_tells older acceptor key ballot (sym (promise_keeps older acceptor key a k b told) ∙ e) some)
took_tells (Took a k b ride ∷ older) acceptor key ballot e some = elim (true_or_false (is_slot acceptor key a k)) [
  | inl own ↦
      let at = slot_same {acceptor = acceptor} {a = a} {key = key} {k = k} own in
      let b_is : b ≡ ballot = ap (λ (s : SlotTold). s.accepted) (sym (if_true (is_slot acceptor key a k) _ _ own)) ∙ e in (
        ride,
        subst (λ x. Stands (Took x key ballot ride) (Took a k b ride ∷ older)) at.0
            (subst (λ x. Stands (Took a x ballot ride) (Took a k b ride ∷ older)) at.1
            (subst (λ x. Stands (Took a k x ride) (Took a k b ride ∷ older)) b_is (record { older = older; at = here }))),
      )
  | inr other ↦ take_more (took_tells older acceptor key ballot (ap (λ (s : SlotTold). s.accepted) (sym (if_false (is_slot acceptor key a k) _ _ other)) ∙ e) some)
]
took_tells (Dropped a k tombstone ∷ older) acceptor key ballot e some = elim (true_or_false (is_slot acceptor key a k)) [
  | inl own ↦ absurd (some (sym e ∙ ap (λ (s : SlotTold). s.accepted) (if_true (is_slot acceptor key a k) _ _ own)))
  | inr other ↦ take_more (took_tells older acceptor key ballot (ap (λ (s : SlotTold). s.accepted) (sym (if_false (is_slot acceptor key a k) _ _ other)) ∙ e) some)
]
took_tells (other ∷ older) acceptor key ballot e some = take_more (took_tells older acceptor key ballot e some)
