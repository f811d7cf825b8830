-- The messages of frames of which none is blank.
use Rattle.std.proofs.Common.{◌≡◌, ℕ, zero, suc, ◌+◌, ◌-◌, ◌<◌, ◌≤◌, Bool, length, take, drop, List, [], ◌∷◌, ◌++◌, Option, Some, None, arith, refl, sym, ap, subst, ◌∙◌}
use Rattle.std.specs.Prelude.{IsTrue, IsSome, IfSome, slice_get, slice_index_or}
use Rattle.cas_flow.specs.declared.message.Message.{Message}
use Rattle.cas_flow.specs.Queue.{QueueView, messages_of, all_bear, pushed, joined}

pub messages_append : (xs ys : List (Option Message)) → messages_of (xs ++ ys) ≡ messages_of xs ++ messages_of ys
messages_append [] ys = refl
messages_append (None ∷ xs) ys = messages_append xs ys
messages_append (Some m ∷ xs) ys = ap (λ (zs : List Message). m ∷ zs) (messages_append xs ys)

pub bear_append : (xs ys : List (Option Message)) → IsTrue (all_bear xs) → IsTrue (all_bear ys) → IsTrue (all_bear (xs ++ ys))
bear_append [] ys a b = b
bear_append (None ∷ xs) ys a b = grind (arith, a)
bear_append (Some m ∷ xs) ys a b = bear_append xs ys a b

one_bears : (f : Option Message) → IsSome f → IsTrue (all_bear (f ∷ []))
one_bears None some = grind (arith, some)
one_bears (Some m) some = refl

-- one more frame that is not blank
pub push_bears : (xs new : List (Option Message)) (f : Option Message) → IsTrue (all_bear xs) → IsSome f → new ≡ xs ++ f ∷ [] → IsTrue (all_bear new)
push_bears xs new f a some e = subst (λ (l : List (Option Message)). IsTrue (all_bear l)) (sym e) (bear_append xs (f ∷ []) a (one_bears f some))

pub push_messages : (xs new : List (Option Message)) (m : Message) → new ≡ xs ++ Some m ∷ [] → messages_of new ≡ messages_of xs ++ m ∷ []
push_messages xs new m e = ap messages_of e ∙ messages_append xs (Some m ∷ [])

pub push_view : (queue : QueueView) (xs new : List (Option Message)) (f : Option Message) (again : Bool) (cap len cap' len' : ℕ) →
    record { messages = messages_of xs; again = again; room = cap - len } ≡ queue → new ≡ xs ++ f ∷ [] → cap' ≡ cap → len' ≡ len + 1 →
    IfSome f (λ m. record { messages = messages_of new; again = again; room = cap' - len' } ≡ pushed queue m)
push_view queue xs new None again cap len cap' len' v e c l = tt
push_view queue xs new (Some m) again cap len cap' len' v e c l =
    let with_messages : List Message → QueueView = λ ms. record { messages = ms; again = again; room = cap' - len' } in
    let with_room : ℕ → QueueView = λ n. record { messages = messages_of xs ++ m ∷ []; again = again; room = n } in
    let room : cap' - len' ≡ (cap - len) - 1 = omega (arith, c, l) in
    ap with_messages (push_messages xs new m e) ∙ ap with_room room ∙ ap (λ (q : QueueView). pushed q m) v

pub messages_length : (xs : List (Option Message)) → IsTrue (all_bear xs) → length (messages_of xs) ≡ length xs
messages_length [] a = refl
messages_length (None ∷ xs) a = grind (arith, a)
messages_length (Some m ∷ xs) a = ap (λ (n : ℕ). suc n) (messages_length xs a)

-- the frame at a place bears the message at that place
pub messages_at : (xs : List (Option Message)) (i : ℕ) (x : Option Message) → IsTrue (all_bear xs) → i < length xs → x ≡ slice_index_or xs i x → x ≡ slice_get (messages_of xs) i
messages_at [] i x a l e = grind (arith, l)
messages_at (None ∷ xs) i x a l e = grind (arith, a)
messages_at (Some m ∷ xs) zero x a l e = e
messages_at (Some m ∷ xs) (suc i) x a l e = messages_at xs i x a (omega (arith, l)) e

messages_take : (xs : List (Option Message)) (i : ℕ) → IsTrue (all_bear xs) → messages_of (take i xs) ≡ take i (messages_of xs)
messages_take xs zero a = refl
messages_take [] (suc i) a = refl
messages_take (None ∷ xs) (suc i) a = grind (arith, a)
messages_take (Some m ∷ xs) (suc i) a = ap (λ (l : List Message). m ∷ l) (messages_take xs i a)

messages_drop : (xs : List (Option Message)) (i : ℕ) → IsTrue (all_bear xs) → messages_of (drop i xs) ≡ drop i (messages_of xs)
messages_drop xs zero a = refl
messages_drop [] (suc i) a = refl
messages_drop (None ∷ xs) (suc i) a = grind (arith, a)
messages_drop (Some m ∷ xs) (suc i) a = messages_drop xs i a

bear_take : (xs : List (Option Message)) (i : ℕ) → IsTrue (all_bear xs) → IsTrue (all_bear (take i xs))
bear_take xs zero a = refl
bear_take [] (suc i) a = refl
bear_take (None ∷ xs) (suc i) a = grind (arith, a)
bear_take (Some m ∷ xs) (suc i) a = bear_take xs i a

bear_drop : (xs : List (Option Message)) (i : ℕ) → IsTrue (all_bear xs) → IsTrue (all_bear (drop i xs))
bear_drop xs zero a = a
bear_drop [] (suc i) a = a
bear_drop (None ∷ xs) (suc i) a = grind (arith, a)
bear_drop (Some m ∷ xs) (suc i) a = bear_drop xs i a

-- a frame left, and those behind it closed the gap
pub removed_bears : (xs new : List (Option Message)) (i : ℕ) → IsTrue (all_bear xs) → new ≡ take i xs ++ drop (i + 1) xs → IsTrue (all_bear new)
removed_bears xs new i a e = subst (λ (l : List (Option Message)). IsTrue (all_bear l)) (sym e) (bear_append (take i xs) (drop (i + 1) xs) (bear_take xs i a) (bear_drop xs (i + 1) a))

pub removed_messages : (ms : List Message) (xs new : List (Option Message)) (i : ℕ) → messages_of xs ≡ ms → IsTrue (all_bear xs) → new ≡ take i xs ++ drop (i + 1) xs → messages_of new ≡ take i ms ++ drop (i + 1) ms
removed_messages ms xs new i v a e =
    ap messages_of e ∙ messages_append (take i xs) (drop (i + 1) xs)
    ∙ ap (λ (l : List Message). l ++ messages_of (drop (i + 1) xs)) (messages_take xs i a)
    ∙ ap (λ (l : List Message). take i (messages_of xs) ++ l) (messages_drop xs (i + 1) a)
    ∙ ap (λ (l : List Message). take i l ++ drop (i + 1) l) v

joined_fits : (ms : List Message) (m : Message) → length ms < 65536 → joined ms m ≡ ms ++ m ∷ []
joined_fits ms m l = grind (arith, l)

pub joined_full : (ms : List Message) (f : Option Message) → 65536 ≤ length ms → IfSome f (λ m. ms ≡ joined ms m)
joined_full ms None l = tt
joined_full ms (Some m) l = grind (arith, l)

pub joined_view : (ms : List Message) (xs new : List (Option Message)) (f : Option Message) → messages_of xs ≡ ms → length ms < 65536 → new ≡ xs ++ f ∷ [] → IfSome f (λ m. messages_of new ≡ joined ms m)
joined_view ms xs new None v l e = tt
joined_view ms xs new (Some m) v l e = push_messages xs new m e ∙ ap (λ (ns : List Message). ns ++ m ∷ []) v ∙ sym (joined_fits ms m l)

-- as many messages as frames
pub as_many : (ms : List Message) (xs : List (Option Message)) → messages_of xs ≡ ms → IsTrue (all_bear xs) → length ms ≡ length xs
as_many ms xs v a = ap (λ (l : List Message). length l) (sym v) ∙ messages_length xs a
