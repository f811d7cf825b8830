-- Those that are to tell: each has one place, and a reply changes no place but its sender's.
use Rattle.std.proofs.Common.{◌≡◌, ◌≤◌, ◌<◌, ℕ, zero, suc, ◌+◌, Bool, true, false, cond, List, [], ◌∷◌, Option, None, Some, refl, sym, ap, subst, ◌∙◌, inl, inr, arith, get_or}
use Rattle.std.specs.Prelude.{◌⊎◌, ◌==◌, if◌then◌else◌, is_none, length, map, filter, nat_lt, position, slice_set, Contains}
use Rattle.std.specs.List.{range_with_len, position_or_len}
use Rattle.std.specs.Option.{option_map_or}
use Rattle.std.proofs.lemmas.List.Quantifiers.{position-Some}
use Rattle.std.proofs.lemmas.List.Sums.{fails_before_first}
use Rattle.cas_base.proofs.Bools.{and_left, both_true}
use Rattle.cas_ballot.specs.Members.{members_where, has_member, IsMemberSet}
use Rattle.cas_flow.specs.declared.message.Message.{Message}
use Rattle.cas_record.specs.declared.operator.Probe.{Probe as Answered}
use Rattle.cas_record.proofs.Tests.{nat_same, nat_is}
use Rattle.cas_slot.specs.declared.message.Reply.{Reply}
use Rattle.cas_model.specs.Exchanges.Step.{awaits, hears}
use Rattle.cas_model.specs.View.{IsAt}
use Rattle.cas_model.proofs.Places.{some_is, but_set, contains_new, contains_older}
use Rattle.cas_model.proofs.Safety.Parts.{at_low, low_at}
use Rattle.cas_model_causes.specs.Exchanges.Answering.{tellers_of, silent_in}

-- ---- places
get_at : {A : Type 0} (xs : List A) (place : ℕ) (x d : A) → IsAt xs place x → get_or xs place d ≡ x
get_at [] place x d at = absurd (cc at)
get_at (y ∷ xs) zero x d at = some_is at
get_at (y ∷ xs) (suc place) x d at = get_at xs place x d at

-- the first place at which one is awaited
record IsSpot (from : ℕ) (told : List Answered) (spot : ℕ) : Type 0 where
  one : Answered
  at : IsAt told spot one
  is_from : one.acceptor ≡ from

spot_of : (from : ℕ) (told : List Answered) (spot : ℕ) → position (awaits from) told ≡ Some spot → IsSpot from told spot
spot_of from told spot is = by_place told refl
  where
    by_place : (l : List Answered) → l ≡ told → IsSpot from told spot
    by_place [] same = absurd (cc (subst (λ (xs : List Answered). position (awaits from) xs ≡ Some spot) (sym same) is))
    by_place (first ∷ later) same =
        let facts = position-Some (awaits from) told spot first is in
        let there = at_low told spot facts.0 in
        let one : Answered = there.0 in
        let passes : awaits from one ≡ true = subst (λ (a : Answered). awaits from a ≡ true) (get_at told spot one first there.1) facts.1 in
        record { one = one; at = there.1; is_from = nat_same (and_left (one.acceptor == from) (is_none one.told) passes) }

none_beyond : (n size : ℕ) (place : ℕ) → ◌≡◌ {A = Option ℕ} (cond (nat_lt n size) (Some n) None) None → place < size → place < n
none_beyond n size place e low = by_test (nat_lt n size) refl
  where
    by_test : (b : Bool) → nat_lt n size ≡ b → place < n
    by_test true is = absurd (cc (e, is))
    by_test false is = grind (arith, is, low)

-- where none is awaited of it, one of it has told something
none_of : (from : ℕ) (told : List Answered) (place : ℕ) (one : Answered) → position (awaits from) told ≡ None → IsAt told place one → awaits from one ≡ false
none_of from told place one none at =
    let before : place < position_or_len (awaits from) told = none_beyond (position_or_len (awaits from) told) (length told) place none (low_at told place at) in
    subst (λ (a : Answered). awaits from a ≡ false) (get_at told place one one at) (fails_before_first (awaits from) told place one before)

-- ---- each has one place
low_by : (b : Bool) (start : ℕ) (rest : List ℕ) (xs : List Answered) → tellers_of xs ≡ cond b (start ∷ rest) rest → (p : ℕ) (x : Answered) → IsAt xs p x
    → ((ys : List Answered) → tellers_of ys ≡ rest → (q : ℕ) (y : Answered) → IsAt ys q y → start + 1 ≤ y.acceptor) → start ≤ x.acceptor
low_by false start rest xs is p x at later = omega (arith, later xs is p x at)
low_by true start rest [] is p x at later = absurd (cc at)
low_by true start rest (y ∷ ys) is zero x at later = let same : y ≡ x = some_is at in let first : y.acceptor ≡ start = cc is in omega (arith, first, ap (λ (a : Answered). a.acceptor) same)
low_by true start rest (y ∷ ys) is (suc p) x at later = let behind : tellers_of ys ≡ rest = cc is in omega (arith, later ys behind p x at)

low : (test : ℕ → Bool) (start size : ℕ) (xs : List Answered) → tellers_of xs ≡ filter test (range_with_len start size) → (p : ℕ) (x : Answered) → IsAt xs p x → start ≤ x.acceptor
low test start zero [] is p x at = absurd (cc at)
low test start zero (y ∷ ys) is p x at = absurd (cc is)
low test start (suc size) xs is p x at = low_by (test start) start (filter test (range_with_len (start + 1) size)) xs is p x at (λ ys same q y there. low test (start + 1) size ys same q y there)

apart_by : (b : Bool) (start : ℕ) (rest : List ℕ) (xs : List Answered) → tellers_of xs ≡ cond b (start ∷ rest) rest → (p q : ℕ) (x y : Answered) → IsAt xs p x → IsAt xs q y → x.acceptor ≡ y.acceptor
    → ((ys : List Answered) → tellers_of ys ≡ rest → (r : ℕ) (z : Answered) → IsAt ys r z → start + 1 ≤ z.acceptor)
    → ((ys : List Answered) → tellers_of ys ≡ rest → (r s : ℕ) (z w : Answered) → IsAt ys r z → IsAt ys s w → z.acceptor ≡ w.acceptor → r ≡ s) → p ≡ q
apart_by false start rest xs is p q x y at_p at_q same above later = later xs is p q x y at_p at_q same
apart_by true start rest [] is p q x y at_p at_q same above later = absurd (cc at_p)
apart_by true start rest (o ∷ xs) is zero zero x y at_p at_q same above later = refl
apart_by true start rest (o ∷ xs) is zero (suc q) x y at_p at_q same above later =
    let first : o.acceptor ≡ start = cc is in
    let behind : tellers_of xs ≡ rest = cc is in
    absurd (omega (arith, first, ap (λ (a : Answered). a.acceptor) (some_is at_p), same, above xs behind q y at_q))
apart_by true start rest (o ∷ xs) is (suc p) zero x y at_p at_q same above later =
    let first : o.acceptor ≡ start = cc is in
    let behind : tellers_of xs ≡ rest = cc is in
    absurd (omega (arith, first, ap (λ (a : Answered). a.acceptor) (some_is at_q), same, above xs behind p x at_p))
apart_by true start rest (o ∷ xs) is (suc p) (suc q) x y at_p at_q same above later =
    let behind : tellers_of xs ≡ rest = cc is in
    ap suc (later xs behind p q x y at_p at_q same)

apart : (test : ℕ → Bool) (start size : ℕ) (xs : List Answered) → tellers_of xs ≡ filter test (range_with_len start size) → (p q : ℕ) (x y : Answered) → IsAt xs p x → IsAt xs q y → x.acceptor ≡ y.acceptor → p ≡ q
apart test start zero [] is p q x y at_p at_q same = absurd (cc at_p)
apart test start zero (o ∷ xs) is p q x y at_p at_q same = absurd (cc is)
apart test start (suc size) xs is p q x y at_p at_q same =
    apart_by (test start) start (filter test (range_with_len (start + 1) size)) xs is p q x y at_p at_q same (λ ys there r z at. low test (start + 1) size ys there r z at) (λ ys there r s z w at_r at_s one. apart test (start + 1) size ys there r s z w at_r at_s one)

members_filtered : (members : List ℕ) → IsMemberSet members → members ≡ filter (has_member members) (range_with_len 0 64)
unfolding members_where
members_filtered members set = set.lists

pub one_place : (members : List ℕ) (xs : List Answered) → IsMemberSet members → tellers_of xs ≡ members → (p q : ℕ) (x y : Answered) → IsAt xs p x → IsAt xs q y → x.acceptor ≡ y.acceptor → p ≡ q
one_place members xs set are p q x y at_p at_q same = apart (has_member members) 0 64 xs (are ∙ members_filtered members set) p q x y at_p at_q same

-- ---- a reply
abbrev put : Reply → List Answered → Option ℕ → List Answered
put reply told place = option_map_or (λ spot. slice_set told spot (record { acceptor = reply.from; told = Some reply.tell })) place told

same_tellers : (told : List Answered) (spot : ℕ) (one now : Answered) → IsAt told spot one → one.acceptor ≡ now.acceptor → tellers_of (slice_set told spot now) ≡ tellers_of told
same_tellers [] spot one now at same = absurd (cc at)
same_tellers (first ∷ told) zero one now at same = ap (λ (a : ℕ). a ∷ tellers_of told) (sym same ∙ sym (ap (λ (x : Answered). x.acceptor) (some_is at)))
same_tellers (first ∷ told) (suc spot) one now at same = ap (λ (l : List ℕ). first.acceptor ∷ l) (same_tellers told spot one now at same)

-- who is to tell stays
pub tellers_stay : (reply : Reply) (told : List Answered) → tellers_of (hears reply told) ≡ tellers_of told
tellers_stay reply told = by_place (position (awaits reply.from) told) refl
  where
    by_place : (place : Option ℕ) → position (awaits reply.from) told ≡ place → tellers_of (put reply told place) ≡ tellers_of told
    by_place None e = refl
    by_place (Some spot) e = let is = spot_of reply.from told spot e in same_tellers told spot is.one (record { acceptor = reply.from; told = Some reply.tell }) is.at is.is_from

-- one that told nothing then had told nothing, and the reply is none of its own
pub silent_before : (members : List ℕ) (reply : Reply) (told : List Answered) → IsMemberSet members → tellers_of told ≡ members → (place : ℕ) (one : Answered) → IsAt (hears reply told) place one → one.told ≡ None → IsAt told place one × (one.acceptor ≡ reply.from → ⊥)
silent_before members reply told set are place one at none = by_place (position (awaits reply.from) told) refl at
  where
    by_place : (spot : Option ℕ) → position (awaits reply.from) told ≡ spot → IsAt (put reply told spot) place one → IsAt told place one × (one.acceptor ≡ reply.from → ⊥)
    by_place None e there = (there, λ same. absurd (cc (none_of reply.from told place one e there, both_true (one.acceptor == reply.from) (is_none one.told) (nat_is same) (ap is_none none))))
    by_place (Some spot) e there = elim (but_set told spot (record { acceptor = reply.from; told = Some reply.tell }) place one there) [
      | inl now ↦ absurd (cc (sym none ∙ ap (λ (a : Answered). a.told) now.1))
      | inr other ↦ (
        other.1,
        λ same. let is = spot_of reply.from told spot e in other.0 (one_place members told set are place spot one is.one other.1 is.at (same ∙ sym is.is_from)),
      )
    ]

-- what is told then was told before, or is the reply's
pub told_before : (reply : Reply) (told : List Answered) (place : ℕ) (one : Answered) → IsAt (hears reply told) place one → IsAt told place one ⊎ ((one.acceptor ≡ reply.from) × (one.told ≡ Some reply.tell))
told_before reply told place one at = by_place (position (awaits reply.from) told) at
  where
    by_place : (spot : Option ℕ) → IsAt (put reply told spot) place one → IsAt told place one ⊎ ((one.acceptor ≡ reply.from) × (one.told ≡ Some reply.tell))
    by_place None there = inl there
    by_place (Some spot) there = elim (but_set told spot (record { acceptor = reply.from; told = Some reply.tell }) place one there) [
      | inl now ↦ inr (ap (λ (a : Answered). a.acceptor) now.1, ap (λ (a : Answered). a.told) now.1)
      | inr other ↦ inl other.1
    ]

-- ---- those that are asked
pub asked_tellers : (tos : List ℕ) → tellers_of (map (λ member. record { acceptor = member; told = None }) tos) ≡ tos
asked_tellers [] = refl
asked_tellers (to ∷ tos) = ap (λ (l : List ℕ). to ∷ l) (asked_tellers tos)

pub asked_at : (f : ℕ → Message) (tos : List ℕ) (place : ℕ) (one : Answered) → IsAt (map (λ member. record { acceptor = member; told = None }) tos) place one → Contains (map f tos) (f one.acceptor)
asked_at f [] place one at = absurd (cc at)
asked_at f (to ∷ tos) zero one at = subst (λ (a : Answered). Contains (map f (to ∷ tos)) (f a.acceptor)) (some_is at) (contains_new (f to) (map f tos))
asked_at f (to ∷ tos) (suc place) one at = contains_older (map f tos) (asked_at f tos place one at)

-- ---- how many told nothing
-- each that told nothing passes the test
abbrev AllSilent : (ℕ → Bool) → List Answered → Type 0
AllSilent test xs = (p : ℕ) (x : Answered) → IsAt xs p x → x.told ≡ None → test x.acceptor ≡ true

fewer : (c : Bool) (start : ℕ) (passed : List ℕ) → length passed ≤ length (cond c (start ∷ passed) passed)
fewer true start passed = omega arith
fewer false start passed = omega arith

silent_more : (c : Bool) (start : ℕ) (passed : List ℕ) (ys : List Answered) (told : Bool) → (told ≡ true → c ≡ true) → silent_in ys ≤ length passed → (if told then suc (silent_in ys) else silent_in ys) ≤ length (cond c (start ∷ passed) passed)
silent_more true start passed ys true is low_ys = omega (arith, low_ys)
silent_more false start passed ys true is low_ys = absurd (cc (is refl))
silent_more c start passed ys false is low_ys = omega (arith, low_ys, fewer c start passed)

none_tells : {A : Type 0} (o : Option A) → is_none o ≡ true → o ≡ None
none_tells None e = refl
none_tells (Some x) e = absurd (cc e)

silent_by : (q : ℕ → Bool) (b : Bool) (start : ℕ) (rest passed : List ℕ) (xs : List Answered) → tellers_of xs ≡ cond b (start ∷ rest) rest → AllSilent q xs
    → ((ys : List Answered) → tellers_of ys ≡ rest → AllSilent q ys → silent_in ys ≤ length passed) → silent_in xs ≤ length (cond (q start) (start ∷ passed) passed)
silent_by q false start rest passed xs is all later = omega (arith, later xs is all, fewer (q start) start passed)
silent_by q true start rest passed [] is all later = absurd (cc is)
silent_by q true start rest passed (y ∷ ys) is all later =
    let first : y.acceptor ≡ start = cc is in
    let behind : tellers_of ys ≡ rest = cc is in
    silent_more (q start) start passed ys (is_none y.told) (λ none. ap q (sym first) ∙ all 0 y refl (none_tells y.told none)) (later ys behind (λ p x at none. all (suc p) x at none))

silent_few : (test q : ℕ → Bool) (start size : ℕ) (xs : List Answered) → tellers_of xs ≡ filter test (range_with_len start size) → AllSilent q xs → silent_in xs ≤ length (filter q (range_with_len start size))
silent_few test q start zero [] is all = omega arith
silent_few test q start zero (y ∷ ys) is all = absurd (cc is)
silent_few test q start (suc size) xs is all =
    silent_by q (test start) start (filter test (range_with_len (start + 1) size)) (filter q (range_with_len (start + 1) size)) xs is all (λ ys same each. silent_few test q (start + 1) size ys same each)

-- where each of those that told nothing is of a set, they are no more than the set has
pub silent_within : (members harmed : List ℕ) (xs : List Answered) → IsMemberSet members → IsMemberSet harmed → tellers_of xs ≡ members → AllSilent (has_member harmed) xs → silent_in xs ≤ length harmed
silent_within members harmed xs set harmed_set are all =
    let few = silent_few (has_member members) (has_member harmed) 0 64 xs (are ∙ members_filtered members set) all in
    let same : length harmed ≡ length (filter (has_member harmed) (range_with_len 0 64)) = ap (λ (l : List ℕ). length l) (members_filtered harmed harmed_set) in
    omega (arith, few, same)
