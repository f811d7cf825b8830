-- Places in lists that are read newest first.
use Rattle.std.proofs.Common.{◌≡◌, suc, ◌≤◌, List, [], ◌∷◌, ◌++◌, length, arith, refl, sym, ap, ◌∙◌, subst, append_assoc}
use Rattle.std.proofs.lemmas.List.{append-nil}
use Rattle.std.specs.Prelude.{◌⊎◌}
use mathlib.Core.Logic.{inl, inr}
use Rattle.cas_record.specs.Places.{At, Stands, IsOlderPart, IsPrefix, here, past, whole, later}

-- ---- places
-- behind what stands in a list stands only what stands in the list
pub deeper : {A : Type 0} {x y : A} {xs ys all : List A} → At x xs ys → At y ys all → At x xs all
deeper p here = past p
deeper p (past q) = past (deeper p q)

pub stands_deeper : {A : Type 0} {x y : A} {ys all : List A} → Stands x ys → At y ys all → Stands x all
stands_deeper s q = record { older = s.older; at = deeper s.at q }

pub stands_at : {A : Type 0} {x : A} {xs all : List A} → At x xs all → Stands x all
stands_at {xs = xs} p = record { older = xs; at = p }

-- what stands behind others stands
pub stands_later : {A : Type 0} {x : A} (front : List A) {all : List A} → Stands x all → Stands x (front ++ all)
stands_later [] s = s
stands_later (y ∷ front) s = let rest = stands_later front s in record { older = rest.older; at = past rest.at }

-- what stands in a list is the newest, or stands behind it
pub newest_or : {A : Type 0} {x h : A} {older : List A} → Stands x (h ∷ older) → (x ≡ h) ⊎ Stands x older
newest_or s = go s.at
  where
    go : {A : Type 0} {x h : A} {xs older : List A} → At x xs (h ∷ older) → (x ≡ h) ⊎ Stands x older
    go here = inl refl
    go {xs = xs} (past at) = inr (stands_at at)

-- two that stand in a list are in one order or are one
pub data Placed {A : Type 0} (x : A) (xs : List A) (y : A) (ys : List A) : Type 0 where
  older_than : At x xs ys → Placed x xs y ys
  newer_than : At y ys xs → Placed x xs y ys
  at_one : x ≡ y → xs ≡ ys → Placed x xs y ys

pub order : {A : Type 0} {x y : A} {xs ys all : List A} → At x xs all → At y ys all → Placed x xs y ys
order here here = at_one refl refl
order here (past q) = newer_than q
order (past p) here = older_than p
order (past p) (past q) = order p q

pub length-At : {A : Type 0} {x : A} {xs all : List A} → At x xs all → suc (length xs) ≤ length all
length-At here = omega arith
length-At (past p) = omega (arith, length-At p)

pub none_at_nil : {A : Type 0} {x : A} {xs : List A} → At x xs [] → ⊥
none_at_nil p = elim p [ ]

-- ---- older parts
pub part_at : {A : Type 0} {x : A} {xs all : List A} → At x xs all → IsOlderPart xs all
part_at here = later whole
part_at (past p) = later (part_at p)

pub at_part : {A : Type 0} {x : A} {xs part all : List A} → At x xs part → IsOlderPart part all → At x xs all
at_part p whole = p
at_part p (later q) = past (at_part p q)

pub stands_part : {A : Type 0} {x : A} {part all : List A} → Stands x part → IsOlderPart part all → Stands x all
stands_part s q = record { older = s.older; at = at_part s.at q }

pub part_part : {A : Type 0} {a b c : List A} → IsOlderPart a b → IsOlderPart b c → IsOlderPart a c
part_part p whole = p
part_part p (later q) = later (part_part p q)

-- ---- prefixes
pub prefix_refl : {A : Type 0} (xs : List A) → IsPrefix xs xs
prefix_refl xs = record { rest = []; joins = sym (append-nil xs) }

pub prefix_same : {A : Type 0} {xs ys : List A} → xs ≡ ys → IsPrefix xs ys
prefix_same {xs = xs} e = subst (λ zs. IsPrefix xs zs) e (prefix_refl xs)

pub nil_prefix : {A : Type 0} (xs : List A) → IsPrefix [] xs
nil_prefix xs = record { rest = xs; joins = refl }

pub prefix_trans : {A : Type 0} {xs ys zs : List A} → IsPrefix xs ys → IsPrefix ys zs → IsPrefix xs zs
prefix_trans {xs = xs} p q = record {
  rest = p.rest ++ q.rest;
  joins = q.joins ∙ ap (λ front. front ++ q.rest) p.joins ∙ append_assoc xs p.rest q.rest;
}

pub prefix_append : {A : Type 0} {xs ys : List A} (zs : List A) → IsPrefix xs ys → IsPrefix xs (ys ++ zs)
prefix_append {ys = ys} zs p = prefix_trans p (record { rest = zs; joins = refl })

length-append-le : {A : Type 0} (xs ys : List A) → length xs ≤ length (xs ++ ys)
length-append-le [] ys = omega arith
length-append-le (x ∷ xs) ys = omega (arith, length-append-le xs ys)

pub length-prefix : {A : Type 0} {xs ys : List A} → IsPrefix xs ys → length xs ≤ length ys
length-prefix {xs = xs} p = subst (λ zs. length xs ≤ length zs) (sym p.joins) (length-append-le xs p.rest)

-- where something stands in a list with one more at its end, it is that one, or stands in the list
pub last_or_in : {A : Type 0} (xs : List A) (y : A) (before : List A) (e : A) (after : List A) → xs ++ y ∷ [] ≡ before ++ e ∷ after
    → ((before ≡ xs) × (e ≡ y)) ⊎ ((rest : List A) × (xs ≡ before ++ e ∷ rest))
last_or_in [] y [] e after q = inl (refl, cc)
last_or_in [] y (b ∷ []) e after q = absurd cc
last_or_in [] y (b ∷ c ∷ before) e after q = absurd cc
last_or_in (x ∷ xs) y [] e after q = inr (xs, cc)
last_or_in (x ∷ xs) y (b ∷ before) e after q =
    let rest : xs ++ y ∷ [] ≡ before ++ e ∷ after = cc in
    let head : x ≡ b = cc in
    elim (last_or_in xs y before e after rest) [
      | inl last ↦ inl (cc, last.1)
      | inr inside ↦ inr (inside.0, λ i. head i ∷ inside.1 i)
    ]
