-- What callers were told, and what follows when one of them is told something.
use Rattle.std.proofs.Common.{◌≡◌, ℕ, zero, suc, ◌+◌, ◌<◌, ◌≤◌, Bool, true, false, cond, List, [], ◌∷◌, ◌++◌, length, get_or, take, drop, Option, Some, None, Result, Ok, Err, refl, sym, ap, subst, ◌∙◌, append_assoc, append-nil, arith, inl, inr}
use Rattle.std.specs.Prelude.{◌==◌, nat_lt, slice_set, ◌⊎◌, OnOk, OnErr}
use Rattle.std.specs.List.{prefix_len, insert, AllByRecursion}
use Rattle.std.proofs.Math.Seq.{drop-cons}
use Rattle.std.proofs.lemmas.List.{drop_all, set_split}
use Rattle.std.proofs.lemmas.List.Sums.{prefix_len_stops}
use Rattle.std.proofs.lemmas.Bool.{cases_lt, cases_eq, lt-ltb, le-ltb, eq-eqb, eqb-true, eqb-false, ne_eqb, ltb-false}
use Rattle.cas_session_text.specs.declared.reply.LastReply.{LastReply}
use Rattle.cas_session_text.specs.Contents.{SessionContents, IsLastReply, IsContents, AreRisingAbove, reply_of, told_at, with_reply, after_reply}

-- ---- the caller's place
with-below : (told reply : LastReply) (replies : List LastReply) → reply.caller < told.caller → with_reply told (reply ∷ replies) ≡ reply ∷ with_reply told replies
with-below told reply replies below = rw (lt-ltb reply.caller told.caller below) refl

with-same : (told reply : LastReply) (replies : List LastReply) → reply.caller ≡ told.caller → with_reply told (reply ∷ replies) ≡ told ∷ replies
with-same told reply replies same = rw (le-ltb reply.caller told.caller (omega arith), eq-eqb reply.caller told.caller same) refl

with-above : (told reply : LastReply) (replies : List LastReply) → told.caller < reply.caller → with_reply told (reply ∷ replies) ≡ told ∷ reply ∷ replies
with-above told reply replies above = rw (le-ltb reply.caller told.caller (omega arith), ne_eqb reply.caller told.caller (λ e. omega arith)) refl

pub data PlaceOfReply (told reply : LastReply) : Type 0 where
  below : reply.caller < told.caller → PlaceOfReply told reply
  same : reply.caller ≡ told.caller → PlaceOfReply told reply
  above : told.caller < reply.caller → PlaceOfReply told reply

pub place_of : (told reply : LastReply) → PlaceOfReply told reply
place_of told reply = elim (cases_lt reply.caller told.caller) [
  | inl lt ↦ below lt
  | inr ge ↦ elim (cases_eq reply.caller told.caller) [ inl e ↦ same e | inr ne ↦ above (omega arith) ]
]

-- how many of the first are to lesser callers
abbrev pub below_len : ℕ → List LastReply → ℕ
below_len caller replies = prefix_len (λ (reply : LastReply). nat_lt reply.caller caller) replies

-- the replies to lesser callers stay in front
with_reply-split : (told : LastReply) (replies : List LastReply) →
    with_reply told replies ≡ take (below_len told.caller replies) replies ++ with_reply told (drop (below_len told.caller replies) replies)
with_reply-split told [] = refl
with_reply-split told (reply ∷ replies) =
    let n : ℕ = below_len told.caller replies in
    elim (cases_lt reply.caller told.caller) [
      | inl lt ↦
          let step : below_len told.caller (reply ∷ replies) ≡ 1 + n = ap (λ b. cond b (1 + n) 0) (lt-ltb reply.caller told.caller lt) in
          let one : below_len told.caller (reply ∷ replies) ≡ suc n = omega (arith, step) in
          with-below told reply replies lt ∙ ap (λ (rs : List LastReply). reply ∷ rs) (with_reply-split told replies)
          ∙ ap (λ m. take m (reply ∷ replies) ++ with_reply told (drop m (reply ∷ replies))) (sym one)
      | inr ge ↦
          let none : below_len told.caller (reply ∷ replies) ≡ 0 = ap (λ b. cond b (1 + n) 0) (le-ltb reply.caller told.caller ge) in
          ap (λ m. take m (reply ∷ replies) ++ with_reply told (drop m (reply ∷ replies))) (sym none)
    ]

pub with_reply-set : (told : LastReply) (replies : List LastReply) (d : LastReply) → below_len told.caller replies < length replies
    → (get_or replies (below_len told.caller replies) d).caller ≡ told.caller → slice_set replies (below_len told.caller replies) told ≡ with_reply told replies
with_reply-set told replies d within found =
    let n : ℕ = below_len told.caller replies in
    set_split replies n told within ∙ sym (with_reply-split told replies
    ∙ ap (λ (rs : List LastReply). take n replies ++ rs)
    (ap (with_reply told) (drop-cons replies n d within) ∙ with-same told (get_or replies n d) (drop (suc n) replies) found))

pub with_reply-insert : (told : LastReply) (replies : List LastReply) (d : LastReply)
    → (below_len told.caller replies < length replies → (get_or replies (below_len told.caller replies) d).caller ≡ told.caller → ⊥)
    → insert replies (below_len told.caller replies) told ≡ with_reply told replies
with_reply-insert told replies d other =
    let n : ℕ = below_len told.caller replies in
    sym (with_reply-split told replies ∙ ap (λ (rs : List LastReply). take n replies ++ rs) behind)
  where
    behind : with_reply told (drop (below_len told.caller replies) replies) ≡ told ∷ drop (below_len told.caller replies) replies
    behind = elim (cases_lt (below_len told.caller replies) (length replies)) [
      | inl within ↦
          let n : ℕ = below_len told.caller replies in
          let split = drop-cons replies n d within in
          let not_below : told.caller ≤ (get_or replies n d).caller =
          ltb-false (get_or replies n d).caller told.caller (prefix_len_stops (λ (reply : LastReply). nat_lt reply.caller told.caller) replies d within) in
          let is_above : told.caller < (get_or replies n d).caller = elim (cases_eq (get_or replies n d).caller told.caller) [
            | inl e ↦ absurd (other within e)
            | inr ne ↦ omega arith
          ] in
          ap (with_reply told) split ∙ with-above told (get_or replies n d) (drop (suc n) replies) is_above ∙ ap (λ (rs : List LastReply). told ∷ rs) (sym split)
      | inr past ↦
          let nothing = drop_all (below_len told.caller replies) replies past in
          ap (with_reply told) nothing ∙ ap (λ (rs : List LastReply). told ∷ rs) (sym nothing)
    ]

-- what a test of a place tells
told_there : (replies : List LastReply) (at caller : ℕ) (d : LastReply) → told_at replies at caller ≡ true → (at < length replies) × ((get_or replies at d).caller ≡ caller)
told_there [] at caller d t = absurd cc
told_there (reply ∷ replies) zero caller d t = (omega arith, eqb-true reply.caller caller t)
told_there (reply ∷ replies) (suc at) caller d t = let rest = told_there replies at caller d t in (omega (arith, rest.0), rest.1)

told_elsewhere : (replies : List LastReply) (at caller : ℕ) (d : LastReply) → told_at replies at caller ≡ false → at < length replies → (get_or replies at d).caller ≡ caller → ⊥
told_elsewhere [] at caller d f within e = absurd (omega arith)
told_elsewhere (reply ∷ replies) zero caller d f within e = eqb-false reply.caller caller f e
told_elsewhere (reply ∷ replies) (suc at) caller d f within e = told_elsewhere replies at caller d f (omega arith) e

pub set_place : (told : LastReply) (replies : List LastReply) (at : ℕ) → at ≡ below_len told.caller replies → told_at replies at told.caller ≡ true → slice_set replies at told ≡ with_reply told replies
set_place told replies at place t =
    let there = told_there replies (below_len told.caller replies) told.caller told (subst (λ n. told_at replies n told.caller ≡ true) place t) in
    subst (λ n. slice_set replies n told ≡ with_reply told replies) (sym place) (with_reply-set told replies told there.0 there.1)

pub insert_place : (told : LastReply) (replies : List LastReply) (at : ℕ) → at ≡ below_len told.caller replies → told_at replies at told.caller ≡ false → insert replies at told ≡ with_reply told replies
insert_place told replies at place f =
    let elsewhere : told_at replies (below_len told.caller replies) told.caller ≡ false = subst (λ n. told_at replies n told.caller ≡ false) place f in
    subst (λ n. insert replies n told ≡ with_reply told replies) (sym place)
    (with_reply-insert told replies told (told_elsewhere replies (below_len told.caller replies) told.caller told elsewhere))

-- ---- what stays lawful
each-with : (told : LastReply) (replies : List LastReply) → IsLastReply told → AllByRecursion IsLastReply replies → AllByRecursion IsLastReply (with_reply told replies)
each-with told [] is each = (is, tt)
each-with told (reply ∷ replies) is each =
    let P : List LastReply → Type 0 = AllByRecursion IsLastReply in
    elim (place_of told reply) [
      | below lt ↦ subst P (sym (with-below told reply replies lt)) (each.0, each-with told replies is each.1)
      | same e ↦ subst P (sym (with-same told reply replies e)) (is, each.1)
      | above gt ↦ subst P (sym (with-above told reply replies gt)) (is, (each.0, each.1))
    ]

rising-with : (low : ℕ) (told : LastReply) (replies : List LastReply) → low < told.caller → AreRisingAbove low replies → AreRisingAbove low (with_reply told replies)
rising-with low told [] lower rising = (lower, tt)
rising-with low told (reply ∷ replies) lower rising =
    let P : List LastReply → Type 0 = AreRisingAbove low in
    elim (place_of told reply) [
      | below lt ↦ subst P (sym (with-below told reply replies lt)) (rising.0, rising-with reply.caller told replies lt rising.1)
      | same e ↦ subst P (sym (with-same told reply replies e)) (lower, subst (λ c. AreRisingAbove c replies) e rising.1)
      | above gt ↦ subst P (sym (with-above told reply replies gt)) (lower, (gt, rising.1))
    ]

pub IsContents-told : (told : LastReply) (contents : SessionContents) → IsLastReply told → IsContents contents → IsContents (record contents { replies = with_reply told contents.replies })
IsContents-told told contents is lawful = record {
  value_fits = lawful.value_fits;
  each = each-with told contents.replies is lawful.each;
  rising = rising-with 0 told contents.replies (omega (arith, is.caller.some)) lawful.rising;
}

-- whether there was memory for it or not
pub lawful_either : {A E : Type 0} (told : LastReply) (contents : SessionContents) (replies : List LastReply) (r : Result A E) → OnOk r (replies ≡ with_reply told contents.replies) → OnErr r (replies ≡ contents.replies)
    → IsLastReply told → IsContents contents → IsContents (record { value = contents.value; replies = replies })
lawful_either told contents replies (Ok x) new old is lawful = subst (λ (rs : List LastReply). IsContents (record { value = contents.value; replies = rs })) (sym new) (IsContents-told told contents is lawful)
lawful_either told contents replies (Err e) new old is lawful = subst (λ (rs : List LastReply). IsContents (record { value = contents.value; replies = rs })) (sym old) lawful

pub IsContents-after : (told : LastReply) (contents : SessionContents) → IsLastReply told → IsContents contents → IsContents (after_reply told contents)
IsContents-after told contents is lawful = record {
  value_fits = is.reply_fits;
  each = each-with told contents.replies is lawful.each;
  rising = rising-with 0 told contents.replies (omega (arith, is.caller.some)) lawful.rising;
}

-- ---- at the end
rising_front : (low : ℕ) (front : List LastReply) (reply : LastReply) (back : List LastReply) → AreRisingAbove low (front ++ reply ∷ back) → low < reply.caller
rising_front low [] reply back rising = rising.0
rising_front low (first ∷ front) reply back rising = omega (arith, rising.0, rising_front first.caller front reply back rising.1)

pub with_reply-end : (low : ℕ) (front : List LastReply) (reply : LastReply) (back : List LastReply) → AreRisingAbove low (front ++ reply ∷ back)
    → with_reply reply front ≡ front ++ reply ∷ []
with_reply-end low [] reply back rising = refl
with_reply-end low (first ∷ front) reply back rising =
    with-below reply first front (rising_front first.caller front reply back rising.1)
    ∙ ap (λ (rs : List LastReply). first ∷ rs) (with_reply-end first.caller front reply back rising.1)

-- ---- what a caller is told then
pub reply_of-here : (caller : ℕ) (reply : LastReply) (replies : List LastReply) → reply.caller ≡ caller → reply_of caller (reply ∷ replies) ≡ Some reply
reply_of-here caller reply replies e = rw (eq-eqb reply.caller caller e) refl

pub reply_of-past : (caller : ℕ) (reply : LastReply) (replies : List LastReply) → (reply.caller ≡ caller → ⊥) → reply_of caller (reply ∷ replies) ≡ reply_of caller replies
reply_of-past caller reply replies ne = rw (ne_eqb reply.caller caller ne) refl

pub reply_of-told : (told : LastReply) (replies : List LastReply) → reply_of told.caller (with_reply told replies) ≡ Some told
reply_of-told told [] = reply_of-here told.caller told [] refl
reply_of-told told (reply ∷ replies) = elim (place_of told reply) [
  | below lt ↦ ap (reply_of told.caller) (with-below told reply replies lt) ∙ reply_of-past told.caller reply (with_reply told replies) (λ e. omega arith) ∙ reply_of-told told replies
  | same e ↦ ap (reply_of told.caller) (with-same told reply replies e) ∙ reply_of-here told.caller told replies refl
  | above gt ↦ ap (reply_of told.caller) (with-above told reply replies gt) ∙ reply_of-here told.caller told (reply ∷ replies) refl
]

same_front : (told reply : LastReply) (replies : List LastReply) (caller : ℕ) → reply_of caller (with_reply told replies) ≡ reply_of caller replies
    → reply_of caller (reply ∷ with_reply told replies) ≡ reply_of caller (reply ∷ replies)
same_front told reply replies caller e = ap (λ (o : Option LastReply). cond (reply.caller == caller) (Some reply) o) e

pub reply_of-other : (told : LastReply) (replies : List LastReply) (caller : ℕ) → (told.caller ≡ caller → ⊥) → reply_of caller (with_reply told replies) ≡ reply_of caller replies
reply_of-other told [] caller ne = reply_of-past caller told [] ne
reply_of-other told (reply ∷ replies) caller ne = elim (place_of told reply) [
  | below lt ↦ ap (reply_of caller) (with-below told reply replies lt) ∙ same_front told reply replies caller (reply_of-other told replies caller ne)
  | same e ↦ ap (reply_of caller) (with-same told reply replies e) ∙ reply_of-past caller told replies ne ∙ sym (reply_of-past caller reply replies (λ s. ne (sym e ∙ s)))
  | above gt ↦ ap (reply_of caller) (with-above told reply replies gt) ∙ reply_of-past caller told (reply ∷ replies) ne
]
