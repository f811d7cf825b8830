-- What was seen of a list stays seen while the list grows, and of two beginnings of one list the longer has seen more.
use Rattle.std.proofs.Common.{◌≡◌, ℕ, ◌<◌, ◌≤◌, ◌≢◌, Bool, true, false, if◌then◌else◌, nat_lt, List, [], ◌∷◌, ◌++◌, length, drop, refl, sym, ap, ◌∙◌, subst, arith, append_assoc, ltb-true, ltb-false}
use Rattle.std.specs.Prelude.{Option, Some}
use Rattle.std.proofs.lemmas.List.Elements.{All-append, All-nil, All-cons, All-head, All-tail, All-weaker}
use Rattle.cas_turn.specs.Seen.{Begins, NoneOwned, HasSeenOwn, OnlyOwnedBy, added_to, longer_of}

module _ {I : Type 0} where
  append_nil : (l : List I) → l ++ [] ≡ l
  append_nil [] = refl
  append_nil (x ∷ xs) = ap (λ t. x ∷ t) (append_nil xs)

  -- of two beginnings of one list, the shorter begins the longer
  pub rejoin : (a b x y : List I) → a ++ x ≡ b ++ y → length a ≤ length b → (m : List I) × (a ++ m ≡ b) × (x ≡ m ++ y)
  rejoin [] b x y e l = (b, refl, e)
  rejoin (u ∷ a) [] x y e l = absurd (omega arith)
  rejoin (u ∷ a) (v ∷ b) x y e l = let tail : a ++ x ≡ b ++ y = cc in let head : u ≡ v = cc in let r = rejoin a b x y tail (omega arith) in (r.0, (let whole : a ++ r.0 ≡ b = r.1 in cc), r.2)

  pub begins_self : (l : List I) → Begins l l
  begins_self l = record { behind = []; whole = append_nil l }

  drop_whole : (a b : List I) → drop (length a) (a ++ b) ≡ b
  drop_whole [] b = refl
  drop_whole (x ∷ a) b = drop_whole a b

  -- a list is its beginning and what was added
  pub added_whole : (a l : List I) → Begins a l → a ++ added_to a l ≡ l
  added_whole a l b = subst (λ (t : List I). a ++ drop (length a) t ≡ t) b.whole (ap (λ t. a ++ t) (drop_whole a b.behind))

  pub begins_nothing : (l : List I) → Begins [] l
  begins_nothing l = record { behind = l; whole = refl }

  pub begins_grows : (a l new : List I) → Begins a l → Begins a (l ++ new)
  begins_grows a l new b = record { behind = b.behind ++ new; whole = sym (append_assoc a b.behind new) ∙ ap (λ t. t ++ new) b.whole }

  pub begins_both : (a b c : List I) → Begins a b → Begins b c → Begins a c
  begins_both a b c first second = record { behind = first.behind ++ second.behind; whole = sym (append_assoc a first.behind second.behind) ∙ ap (λ (l : List I). l ++ second.behind) first.whole ∙ second.whole }

  -- a beginning as long as the whole is the whole
  all_of : (a m : List I) → length (a ++ m) ≤ length a → a ++ m ≡ a
  all_of [] [] l = refl
  all_of [] (x ∷ m) l = absurd (omega arith)
  all_of (x ∷ a) m l = ap (λ t. x ∷ t) (all_of a m (omega arith))

  by_test : (a b : List I) (P : List I → Type 0) (t : Bool) → nat_lt (length a) (length b) ≡ t → (length a < length b → P b) → (length b ≤ length a → P a) → P (if t then b else a)
  by_test a b P true e less more = less (ltb-true (length a) (length b) e)
  by_test a b P false e less more = more (ltb-false (length a) (length b) e)

  longer_cases : (a b : List I) (P : List I → Type 0) → (length a < length b → P b) → (length b ≤ length a → P a) → P (longer_of a b)
  longer_cases a b P less more = by_test a b P (nat_lt (length a) (length b)) refl less more

module _ {I : Type 0} (owner : I → Option ℕ) (n : ℕ) where
  abbrev others : I → Type 0
  others i = owner i ≢ Some n

  none_split : (a b : List I) → NoneOwned owner n (a ++ b) → NoneOwned owner n a × NoneOwned owner n b
  none_split [] b none = (All-nil others, none)
  none_split (x ∷ a) b none = let r = none_split a b (All-tail others x (a ++ b) none) in (All-cons others x a (All-head others x (a ++ b) none) r.0, r.1)

  pub sees_self : (l : List I) → HasSeenOwn owner n l l
  sees_self l = record { behind = []; whole = append_nil l; none_own = All-nil others }

  pub sees_begins : (a l : List I) → HasSeenOwn owner n a l → Begins a l
  sees_begins a l h = record { behind = h.behind; whole = h.whole }

  pub sees_grown : (a l new : List I) → HasSeenOwn owner n a l → NoneOwned owner n new → HasSeenOwn owner n a (l ++ new)
  sees_grown a l new h none = record {
    behind = h.behind ++ new;
    whole = sym (append_assoc a h.behind new) ∙ ap (λ t. t ++ new) h.whole;
    none_own = All-append others h.behind new h.none_own none;
  }

  -- where both begin one list and a is the shorter
  sees_between : (a b l : List I) → HasSeenOwn owner n a l → Begins b l → length a ≤ length b → HasSeenOwn owner n a b × HasSeenOwn owner n b l
  sees_between a b l h g shorter = let r = rejoin a b h.behind g.behind (h.whole ∙ sym g.whole) shorter in
      let parts = none_split r.0 g.behind (subst (NoneOwned owner n) r.2 h.none_own) in
      (record { behind = r.0; whole = r.1; none_own = parts.0 }, record { behind = g.behind; whole = g.whole; none_own = parts.1 })

  begins_between : (a b l : List I) → Begins a l → Begins b l → length a ≤ length b → Begins a b
  begins_between a b l h g shorter = let r = rejoin a b h.behind g.behind (h.whole ∙ sym g.whole) shorter in record { behind = r.0; whole = r.1 }

  pub sees_longer : (mine theirs l : List I) → HasSeenOwn owner n mine l → Begins theirs l → HasSeenOwn owner n (longer_of mine theirs) l
  sees_longer mine theirs l h g = longer_cases mine theirs (λ x. HasSeenOwn owner n x l) (λ less. (sees_between mine theirs l h g (omega arith)).1) (λ _. h)

  pub learns : (mine theirs l : List I) → HasSeenOwn owner n mine l → Begins theirs l → HasSeenOwn owner n mine (longer_of mine theirs) × Begins theirs (longer_of mine theirs)
  learns mine theirs l h g = longer_cases mine theirs (λ x. HasSeenOwn owner n mine x × Begins theirs x) (λ less. ((sees_between mine theirs l h g (omega arith)).0, begins_self theirs))
      (λ more. (sees_self mine, begins_between theirs mine l g (sees_begins mine l h) more))

  -- what n alone may own, nobody else owns
  pub none_else : (m : ℕ) → m ≢ n → (l : List I) → OnlyOwnedBy owner n l → NoneOwned owner m l
  none_else m other l only = All-weaker (λ i. (x : ℕ) → owner i ≡ Some x → x ≡ n) (λ i. owner i ≢ Some m) (λ i p e. other (p m e)) l only
