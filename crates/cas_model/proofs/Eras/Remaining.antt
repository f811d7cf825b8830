-- A listing that goes on and is not complete has less left than before.
use Rattle.std.proofs.Common.{◌≡◌, ℕ, zero, suc, ◌+◌, ◌*◌, ◌<◌, ◌≤◌, Bool, true, false, List, [], ◌∷◌, length, map, Option, None, Some, refl, sym, ap, subst, ◌∙◌, inl, inr, arith}
use Rattle.std.specs.Prelude.{◌⊎◌, ◌&&◌, ◌||◌, ◌==◌, not, All, IfSome, if◌then◌else◌}
use Rattle.std.specs.Cmp.{ranks}
use Rattle.std.specs.Cmp.Lexicographic.{slice_cmp}
use Rattle.std.specs.Ordering.{nat_cmp, is_lt, ordering_then, MatchOrdering}
use Rattle.std.specs.declared.cmp.Ordering.{Ordering}
use Rattle.std.specs.declared.cmp.Ordering.TheVariants.{Less, Equal, Greater}
use Rattle.cas_base.proofs.Bools.{and_left, and_right, not_both}
use Rattle.cas_ballot.specs.Members.{members_where}
use Rattle.cas_change.specs.Key.{IsKey, IsKeyByte}
use Rattle.cas_quorum.specs.declared.era.Era.{Era}
use Rattle.cas_quorum.specs.Era.{holds_prep, holds_acc}
use Rattle.cas_slot.specs.Slots.{is_above, rises}
use Rattle.cas_record.specs.Logs.Orderly.{last_of}
use Rattle.cas_record.specs.declared.operator.Probe.{Probe as Answered}
use Rattle.cas_record.proofs.Tests.{nat_same}
use Rattle.cas_model.specs.Council.{Place, GoesOn, Ended, MemberPlace, ListingView, place_in, has_ended, after_of}
use Rattle.cas_model.specs.Eras.Listings.{Page, can_follow, told_by, page_of, place_after, moved, ended_in, counts, counted, ListsOn, missing}
use Rattle.cas_model.specs.Eras.Remaining.{number_from, rank_of, above_all, keys_behind, keys_left, AreKeys, IsPageOfKeys, LeavesLess}
use Rattle.cas_model.proofs.Eras.Listings.{page_is}
use Rattle.cas_protocol.proofs.Pages.{below_above}

-- ---- keys as numbers
behind : (b : ℕ) (bytes : List ℕ) → All IsKeyByte (b ∷ bytes) → All IsKeyByte bytes
behind b bytes each = λ k d inside. each (suc k) d (omega arith)

least : (b : ℕ) (bytes : List ℕ) → All IsKeyByte (b ∷ bytes) → b ≤ 126
least b bytes each = (each 0 0 (omega arith)).1

-- what comes before decides
number_below : (digits before other : ℕ) (bytes more : List ℕ) → All IsKeyByte bytes → before < other → number_from digits before bytes < number_from digits other more
number_below zero before other bytes more each less = less
number_below (suc digits) before other [] [] each less = number_below digits (128 * before) (128 * other) [] [] each (omega arith)
number_below (suc digits) before other [] (m ∷ more) each less = number_below digits (128 * before) (128 * other + m + 1) [] more each (omega arith)
number_below (suc digits) before other (b ∷ bytes) [] each less = number_below digits (128 * before + b + 1) (128 * other) bytes [] (behind b bytes each) (omega (arith, least b bytes each))
number_below (suc digits) before other (b ∷ bytes) (m ∷ more) each less = number_below digits (128 * before + b + 1) (128 * other + m + 1) bytes more (behind b bytes each) (omega (arith, least b bytes each))

-- and otherwise the bytes, in their order
number_above : (digits before : ℕ) (low high : List ℕ) → All IsKeyByte low → length high ≤ digits → is_lt (slice_cmp nat_cmp low high) ≡ true → number_from digits before low < number_from digits before high
number_above digits before [] [] each fits less = absurd cc
number_above zero before [] (h ∷ high) each fits less = absurd (omega arith)
number_above (suc digits) before [] (h ∷ high) each fits less = number_below digits (128 * before) (128 * before + h + 1) [] high each (omega arith)
number_above digits before (l ∷ low) [] each fits less = absurd cc
number_above zero before (l ∷ low) (h ∷ high) each fits less = absurd (omega arith)
number_above (suc digits) before (l ∷ low) (h ∷ high) each fits less = by_first (nat_cmp l h) (ranks l h) (number_above digits (128 * before + l + 1) low high (behind l low each) (omega arith)) less
  where
    by_first : (o : Ordering) → MatchOrdering o (l < h) (l ≡ h) (h < l)
        → (is_lt (slice_cmp nat_cmp low high) ≡ true → number_from digits (128 * before + l + 1) low < number_from digits (128 * before + l + 1) high)
        → is_lt (ordering_then o (slice_cmp nat_cmp low high)) ≡ true → number_from digits (128 * before + l + 1) low < number_from digits (128 * before + h + 1) high
    by_first Less first later same = number_below digits (128 * before + l + 1) (128 * before + h + 1) low high (behind l low each) (omega arith)
    by_first Equal first later same = subst (λ (n : ℕ). number_from digits (128 * before + l + 1) low < number_from digits (128 * before + n + 1) high) first (later same)
    by_first Greater first later same = absurd cc

-- behind a key above this place less is left
less_behind : (after : Option (List ℕ)) (key : List ℕ) → IfSome after IsKey → IsKey key → is_above after key ≡ true → keys_behind (GoesOn (Some key)) < keys_behind (GoesOn after)
unfolding rank_of above_all
less_behind None key first is above = omega arith
less_behind (Some after) key first is above =
    let more : number_from 64 0 after < number_from 64 0 key = number_above 64 0 after key first.each is.fits above in
    let most : number_from 64 0 key < number_from 64 1 [] = number_below 64 0 1 key [] is.each (omega arith) in
    omega arith

-- ---- pages
-- the last key is above the place, and a key
last_above : (after : Option (List ℕ)) (keys : List (List ℕ)) (last : List ℕ) → rises after keys ≡ true → last_of keys ≡ Some last → is_above after last ≡ true
last_above after [] last up is = absurd (cc is)
last_above after (key ∷ []) last up is = let same : key ≡ last = cc is in subst (λ (k : List ℕ). is_above after k ≡ true) same (and_left (is_above after key) true up)
last_above after (key ∷ next ∷ keys) last up is =
    over after (and_left (is_above after key) (rises (Some key) (next ∷ keys)) up)
    (last_above (Some key) (next ∷ keys) last (and_right (is_above after key) (rises (Some key) (next ∷ keys)) up) is)
  where
    over : (from : Option (List ℕ)) → is_above from key ≡ true → is_above (Some key) last ≡ true → is_above from last ≡ true
    over None first later = refl
    over (Some low) first later = below_above low key last first later

last_is : (after : Option (List ℕ)) (keys : List (List ℕ)) (last : List ℕ) → AreKeys after keys → last_of keys ≡ Some last → IfSome after IsKey × IsKey last
last_is after [] last are is = absurd (cc is)
last_is after (key ∷ []) last are is = let same : key ≡ last = cc is in (are.0, subst IsKey same are.1)
last_is after (key ∷ next ∷ keys) last are is = (are.0, (last_is (Some key) (next ∷ keys) last are.2 is).1)

-- a page that can follow leads to where less is left
page_less : (after : Option (List ℕ)) (page : Page) → AreKeys after page.keys → can_follow after page.keys page.more ≡ true → keys_behind (place_after (Some page) (GoesOn after)) < keys_behind (GoesOn after)
page_less after page are follows = by_more page.more refl
  where
    up : rises after page.keys ≡ true
    up = and_left (rises after page.keys) (not page.more || not (length page.keys == 0)) follows

    some : (not page.more || not (length page.keys == 0)) ≡ true
    some = and_right (rises after page.keys) (not page.more || not (length page.keys == 0)) follows

    ended : (from : Option (List ℕ)) → 0 < keys_behind (GoesOn from)
    ended None = omega arith
    ended (Some key) = omega arith

    none_last : (keys : List (List ℕ)) → last_of keys ≡ None → length keys ≡ 0
    none_last [] is = refl
    none_last (key ∷ []) is = absurd (cc is)
    none_last (key ∷ next ∷ keys) is = absurd (cc (none_last (next ∷ keys) is))

    by_last : (last : Option (List ℕ)) → last_of page.keys ≡ last → page.more ≡ true → keys_behind (GoesOn last) < keys_behind (GoesOn after)
    by_last None is more = absurd (cc (some, more, ap (λ (n : ℕ). n == 0) (none_last page.keys is)))
    by_last (Some last) is more = let both = last_is after page.keys last are is in less_behind after last both.0 both.1 (last_above after page.keys last up is)

    by_more : (b : Bool) → page.more ≡ b → keys_behind (if b then GoesOn (last_of page.keys) else Ended) < keys_behind (GoesOn after)
    by_more true more = by_last (last_of page.keys) refl more
    by_more false more = ended after

-- a member stays where it is without a page, and less is left of it otherwise
one_less : (told : List Answered) (one : MemberPlace) → IsPageOfKeys told one → (page_of told one.member one.place ≡ None) ⊎ (keys_behind (moved told one).place < keys_behind one.place)
one_less told one = by_place one.place
  where
    by_page : (after : Option (List ℕ)) (page : Option Page) → page_of told one.member (GoesOn after) ≡ page → IfSome page (λ p. AreKeys after p.keys) → (page ≡ None) ⊎ (keys_behind (place_after page (GoesOn after)) < keys_behind (GoesOn after))
    by_page after None is are = inl refl
    by_page after (Some page) is are = inr (page_less after page are (page_is after (told_by told one.member) page is).follows)

    by_place : (place : Place) → IfSome (page_of told one.member place) (λ page. AreKeys (after_of place) page.keys) → (page_of told one.member place ≡ None) ⊎ (keys_behind (place_after (page_of told one.member place) place) < keys_behind place)
    by_place Ended are = inl refl
    by_place (GoesOn after) are = by_page after (page_of told one.member (GoesOn after)) refl are

-- ---- places
or_false : (b : Bool) → (b || false) ≡ b
or_false true = refl
or_false false = refl

-- nobody moves, and those that count are those that have ended; or less is left
abbrev NobodyMoves : List Answered → List MemberPlace → Type 0
NobodyMoves told places = ((member : ℕ) → counts told places member ≡ has_ended (place_in (map (moved told) places) member)) × (keys_left (map (moved told) places) ≡ keys_left places)

places_less : (told : List Answered) (places : List MemberPlace) → All (IsPageOfKeys told) places → NobodyMoves told places ⊎ (keys_left (map (moved told) places) < keys_left places)
places_less told [] each = inl (λ member. refl, refl)
places_less told (one ∷ places) each = by_both (one_less told one (each 0 one (omega arith))) (places_less told places (λ k d inside. each (suc k) d (omega arith)))
  where
    stays : page_of told one.member one.place ≡ None → keys_behind (moved told one).place ≡ keys_behind one.place
    stays none = ap (λ (p : Option Page). keys_behind (place_after p one.place)) none

    same : page_of told one.member one.place ≡ None → NobodyMoves told places → (member : ℕ) → (b : Bool) → (one.member == member) ≡ b
        → counts told (one ∷ places) member ≡ has_ended (place_in (map (moved told) (one ∷ places)) member)
    same none rest member true e =
        let here : page_of told member one.place ≡ None = subst (λ (n : ℕ). page_of told n one.place ≡ None) (nat_same e) none in
        rw (e, here, none) (or_false (has_ended one.place))
    same none rest member false e = rw e (rest.0 member)

    by_both : (page_of told one.member one.place ≡ None) ⊎ (keys_behind (moved told one).place < keys_behind one.place) → NobodyMoves told places ⊎ (keys_left (map (moved told) places) < keys_left places)
        → NobodyMoves told (one ∷ places) ⊎ (keys_left (map (moved told) (one ∷ places)) < keys_left (one ∷ places))
    by_both (inl none) (inl rest) = inl (λ member. same none rest member (one.member == member) refl, omega (arith, stays none, rest.1))
    by_both (inl none) (inr less) = inr (omega (arith, stays none, less))
    by_both (inr less) (inl rest) = inr (omega (arith, less, rest.1))
    by_both (inr less) (inr more) = inr (omega (arith, less, more))

-- ---- the listing
-- no quorum is missing
none_missing : (era : Era) (by : List ℕ) → missing era by ≡ None → (holds_prep era by && holds_acc era by) ≡ true
none_missing era by none = by_tests (holds_prep era by) (holds_acc era by) refl refl
  where
    by_tests : (p a : Bool) → holds_prep era by ≡ p → holds_acc era by ≡ a → (p && a) ≡ true
    by_tests true true prep acc = refl
    by_tests true false prep acc = absurd (cc (rw (prep, acc) at none))
    by_tests false a prep acc = absurd (cc (rw prep at none))

pub lists_less : (era : Era) (told : List Answered) (old new : ListingView) → All (IsPageOfKeys told) old.places → ListsOn era told old new → LeavesLess era told old new
lists_less era told old new each on enough partial = elim (places_less told old.places each) [
  | inl still ↦ absurd (not_both new.complete (complete still.0) partial)
  | inr less ↦ subst (λ (l : List MemberPlace). keys_left l < keys_left old.places) (sym on.places) less
]
  where
    complete : ((member : ℕ) → counts told old.places member ≡ has_ended (place_in (map (moved told) old.places) member)) → new.complete ≡ true
    complete same =
        let all_ended : counted told old.places ≡ ended_in new.places = (λ i. members_where (λ member. same member i)) ∙ ap ended_in (sym on.places) in
        on.complete ∙ subst (λ (l : List ℕ). (holds_prep era l && holds_acc era l) ≡ true) all_ended (none_missing era (counted told old.places) enough)
