-- The settled keys of a record, parted at one of its keys, and what moves as the next key comes.
use Rattle.std.proofs.Common.{◌≡◌, ℕ, List, [], ◌∷◌, ◌++◌, take, drop, append_assoc, Option, Some, None, refl, sym, ap, subst, arith, ◌∙◌, inl, inr}
use Rattle.std.specs.Prelude.{All, Contains}
use Rattle.std.specs.Io.KnownBytes.{Appends}
use Rattle.std.specs.List.{flat_map}
use Rattle.std.specs.List.Sorted.{IsStrictlySortedBy}
use Rattle.std.proofs.lemmas.List.{append-nil, take-append-drop}
use Rattle.std.proofs.lemmas.List.Concat.{flat_map-append}
use Rattle.std.proofs.lemmas.List.Elements.{All-contains, All-nil, All-cons, All-head, All-push, All-weaker, All-from_recursion, Contains-append_cases, Contains-append_right}
use Rattle.std.proofs.KnownBytes.{Appends-nil, Appends-trans}
use Rattle.cas_lines.specs.Sink.{AppendsFront}
use Rattle.cas_record.specs.declared.mark.Mark.{Mark}
use Rattle.cas_record.specs.Histories.Chain.{settled_of}
use Rattle.cas_record.specs.Kept.Index.{IsAfter, HasEntryOrFloor, KeyLess}
use Rattle.cas_record.specs.Histories.Replay.{opening_state}
use Rattle.cas_record.proofs.Kept.Rows.{key_cases, key_less_trans, key_not_less}
use Rattle.casreg_tasks.specs.Histories.{AreHistories, AreSettledKeys, history_from, history_text}
use Rattle.casreg_tasks.specs.Texts.{WroteFrontOf, WroteText}
use Rattle.casreg_tasks.proofs.SettledKeys.{none_or_some, settled_keys, are_settled, after_less, Rise}

-- the settled keys are parted at this one: those up to it, and those behind
pub record ArePartedAt (marks : List Mark) (after : Option (List ℕ)) (done ahead : List (List ℕ)) : Type 0 where
  pub are_keys : AreSettledKeys marks (done ++ ahead)
  pub passed : All (λ key. IsAfter after key → ⊥) done
  pub to_come : All (IsAfter after) ahead

pub parted_first : (marks : List Mark) → ArePartedAt marks None [] (settled_keys marks)
parted_first marks = record { are_keys = are_settled marks; passed = λ k d low. absurd (omega (arith, low)); to_come = λ k d low. tt }

-- the next key that the record lists
pub record IsNextKey (marks : List Mark) (after : Option (List ℕ)) (key : List ℕ) : Type 0 where
  pub listed : HasEntryOrFloor key marks
  pub is_after : IsAfter after key
  pub least : (other : List ℕ) → HasEntryOrFloor other marks → IsAfter after other → KeyLess other key → ⊥

-- ---- one key on
-- the keys parted at the next key, whose history is all that the first part gets
pub record PartedOn (marks : List Mark) (key : List ℕ) (done : List (List ℕ)) : Type 0 where
  pub now_done : List (List ℕ)
  pub ahead : List (List ℕ)
  pub parted : ArePartedAt marks (Some key) now_done ahead
  pub text : flat_map (history_text marks) now_done ≡ flat_map (history_text marks) done ++ history_text marks key

module _ (marks : List Mark) (after : Option (List ℕ)) (key : List ℕ) (next : IsNextKey marks after key) (done : List (List ℕ)) where
  passed_on : All (λ k. IsAfter after k → ⊥) done → All (λ k. IsAfter (Some key) k → ⊥) done
  passed_on passed = All-weaker (λ k. IsAfter after k → ⊥) (λ k. IsAfter (Some key) k → ⊥) (λ k not_after is. not_after (after_less after key k next.is_after is)) done passed

  -- no key is the next one, which has no entry then
  skipped : (ahead : List (List ℕ)) → ArePartedAt marks after done ahead → All (KeyLess key) ahead → PartedOn marks key done
  skipped ahead parted above = record {
    now_done = done;
    ahead = ahead;
    parted = record { are_keys = parted.are_keys; passed = passed_on parted.passed; to_come = above };
    text = sym (ap (λ t. flat_map (history_text marks) done ++ t) (ap (history_from key (opening_state key marks)) bare) ∙ append-nil (flat_map (history_text marks) done));
  }
    where
      nowhere : Contains (done ++ ahead) key → ⊥
      nowhere is = elim (Contains-append_cases done ahead key is) [
        | inl before ↦ All-contains (λ k. IsAfter after k → ⊥) done key parted.passed before next.is_after
        | inr behind ↦ key_not_less key (All-contains (KeyLess key) ahead key above behind)
      ]

      bare : settled_of key marks ≡ []
      bare = elim (none_or_some (settled_of key marks)) [ inl none ↦ none | inr some ↦ absurd (nowhere ((parted.are_keys.settled key).1 some)) ]

  -- the next key is the first of those ahead
  taken : (ahead : List (List ℕ)) → ArePartedAt marks after done (key ∷ ahead) → All (KeyLess key) ahead → PartedOn marks key done
  taken ahead parted above = record {
    now_done = done ++ key ∷ [];
    ahead = ahead;
    parted = record {
      are_keys = subst (AreSettledKeys marks) (sym (append_assoc done (key ∷ []) ahead)) parted.are_keys;
      passed = All-push (λ k. IsAfter (Some key) k → ⊥) done key (passed_on parted.passed) (key_not_less key);
      to_come = above;
    };
    text = flat_map-append (history_text marks) done (key ∷ []) ∙ ap (λ t. flat_map (history_text marks) done ++ t) (append-nil (history_text marks key));
  }

  rise_behind : (front : List (List ℕ)) (first_ : List ℕ) (later : List (List ℕ)) → Rise (front ++ first_ ∷ later) → All (KeyLess first_) later
  unfolding IsStrictlySortedBy
  rise_behind [] first_ later rise = All-from_recursion (KeyLess first_) later rise.0
  rise_behind (one ∷ front) first_ later rise = rise_behind front first_ later rise.1

  pub parted_on : (ahead : List (List ℕ)) → ArePartedAt marks after done ahead → PartedOn marks key done
  parted_on [] parted = skipped [] parted (All-nil (KeyLess key))
  parted_on (first_ ∷ later) parted =
      let behind = rise_behind done first_ later parted.are_keys.rising in
      let settled = (parted.are_keys.settled first_).0 (Contains-append_right done (first_ ∷ later) first_ (0, omega arith, refl)) in
      elim (key_cases first_ key) [
        | inl before ↦ absurd (next.least first_ (inl settled) (All-head (IsAfter after) first_ later parted.to_come) before)
        | inr other ↦ elim other [
          | inl same ↦ taken later (subst (λ (k : List ℕ). ArePartedAt marks after done (k ∷ later)) same parted) (subst (λ (k : List ℕ). All (KeyLess k) later) same behind)
          | inr above ↦ skipped (first_ ∷ later) parted (All-cons (KeyLess key) first_ later above (All-weaker (KeyLess first_) (KeyLess key) (λ k less. key_less_trans key first_ k above less) later behind))
        ]
      ]

-- ---- what was written so far
-- the histories of all keys up to this one were written
pub record IsSoFar (marks : List Mark) (after : Option (List ℕ)) (old new : Option (List ℕ)) : Type 0 where
  pub done : List (List ℕ)
  pub ahead : List (List ℕ)
  pub parted : ArePartedAt marks after done ahead
  pub written : Appends old new (flat_map (history_text marks) done)

pub so_far_first : (marks : List Mark) (held : Option (List ℕ)) → IsSoFar marks None held held
so_far_first marks held = record { done = []; ahead = settled_keys marks; parted = parted_first marks; written = Appends-nil held }

pub so_far_on : (marks : List Mark) (after : Option (List ℕ)) (key text : List ℕ) (old held new : Option (List ℕ)) → IsSoFar marks after old held → IsNextKey marks after key
    → text ≡ history_text marks key → Appends held new text → IsSoFar marks (Some key) old new
so_far_on marks after key text old held new so_far next is appended =
    let on = parted_on marks after key next so_far.done so_far.ahead so_far.parted in
    let both = Appends-trans old held new (flat_map (history_text marks) so_far.done) text so_far.written appended in
    record {
      done = on.now_done;
      ahead = on.ahead;
      parted = on.parted;
      written = subst (Appends old new) (ap (λ t. flat_map (history_text marks) so_far.done ++ t) is ∙ sym on.text) both;
    }

all_of : (marks : List Mark) (after : Option (List ℕ)) (done ahead : List (List ℕ)) → ArePartedAt marks after done ahead → AreHistories marks (flat_map (history_text marks) done ++ flat_map (history_text marks) ahead)
all_of marks after done ahead parted = record { keys = done ++ ahead; are_keys = parted.are_keys; is = sym (flat_map-append (history_text marks) done ahead) }

-- a front was written, also where no memory came for the next history
pub front_of : (marks : List Mark) (after : Option (List ℕ)) (old new : Option (List ℕ)) → IsSoFar marks after old new → WroteFrontOf (AreHistories marks) old new
front_of marks after old new so_far = record {
  front = flat_map (history_text marks) so_far.done;
  rest = flat_map (history_text marks) so_far.ahead;
  has = all_of marks after so_far.done so_far.ahead so_far.parted;
  written = so_far.written;
}

-- and where the sink failed within the next one
pub front_within : (marks : List Mark) (after : Option (List ℕ)) (key text : List ℕ) (old held new : Option (List ℕ)) → IsSoFar marks after old held → IsNextKey marks after key
    → text ≡ history_text marks key → AppendsFront held new text → WroteFrontOf (AreHistories marks) old new
front_within marks after key text old held new so_far next is appended =
    let on = parted_on marks after key next so_far.done so_far.ahead so_far.parted in
    let before = flat_map (history_text marks) so_far.done in
    let later = flat_map (history_text marks) on.ahead in
    let count = appended.0 in
    let whole : (before ++ take count text) ++ (drop count text ++ later) ≡ flat_map (history_text marks) on.now_done ++ later =
    append_assoc before (take count text) (drop count text ++ later)
    ∙ ap (λ t. before ++ t) (sym (append_assoc (take count text) (drop count text) later) ∙ ap (λ t. t ++ later) (take-append-drop count text ∙ is))
    ∙ sym (append_assoc before (history_text marks key) later) ∙ ap (λ t. t ++ later) (sym on.text) in
    record {
      front = before ++ take count text;
      rest = drop count text ++ later;
      has = subst (AreHistories marks) (sym whole) (all_of marks (Some key) on.now_done on.ahead on.parted);
      written = Appends-trans old held new before (take count text) so_far.written appended.2;
    }

-- no key is left
pub so_far_whole : (marks : List Mark) (after : Option (List ℕ)) (old new : Option (List ℕ)) → IsSoFar marks after old new → ((key : List ℕ) → HasEntryOrFloor key marks → IsAfter after key → ⊥) → WroteText (AreHistories marks) old new
so_far_whole marks after old new so_far none = record {
  text = flat_map (history_text marks) so_far.done;
  has = record {
    keys = so_far.done;
    are_keys = subst (AreSettledKeys marks) (ap (λ ks. so_far.done ++ ks) (nothing so_far.ahead so_far.parted) ∙ append-nil so_far.done) so_far.parted.are_keys;
    is = refl;
  };
  written = so_far.written;
}
  where
    nothing : (ahead : List (List ℕ)) → ArePartedAt marks after so_far.done ahead → ahead ≡ []
    nothing [] parted = refl
    nothing (first_ ∷ later) parted =
        let settled = (parted.are_keys.settled first_).0 (Contains-append_right so_far.done (first_ ∷ later) first_ (0, omega arith, refl)) in
        absurd (none first_ (inl settled) (All-head (IsAfter after) first_ later parted.to_come))
