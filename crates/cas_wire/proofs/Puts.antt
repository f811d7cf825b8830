-- Writing values one after another, as a loop does.
use Rattle.std.proofs.Common.{◌≡◌, ℕ, ◌+◌, ◌*◌, ◌<◌, ◌≤◌, List, [], ◌∷◌, ◌++◌, length, get_or, take, sym, ap, subst, ◌∙◌, append_assoc, arith}
use Rattle.std.specs.Global.{Vec}
use Rattle.std.specs.List.{flat_map, AllByRecursion}
use Rattle.std.proofs.lemmas.List.{take_more, flat_map_more}
use Rattle.cas_wire.specs.Writing.{Puts}

-- each of the first values is put
pub record PutsFront {A : Type 0} (spelling : A → List ℕ) (Fits : A → Type 0) (most : ℕ) (old new : Vec ℕ) (values : List A) (i : ℕ) : Type 0 where
  pub put : Puts old new (flat_map spelling (take i values)) (most * i)
  pub fits : AllByRecursion Fits (take i values)

all_more : {A : Type 0} (P : A → Type 0) (xs : List A) (x : A) → AllByRecursion P xs → P x → AllByRecursion P (xs ++ x ∷ [])
all_more P [] x h p = (p, tt)
all_more P (y ∷ ys) x h p = (h.0, all_more P ys x h.1 p)

pub one_more : {A : Type 0} (spelling : A → List ℕ) (Fits : A → Type 0) (most : ℕ) (old mid new : Vec ℕ) (values : List A) (i : ℕ) (x : A) → i < length values → x ≡ get_or values i x
    → PutsFront spelling Fits most old mid values i → Puts mid new (spelling x) most → Fits x → PutsFront spelling Fits most old new values (i + 1)
one_more spelling Fits most old mid new values i x lt is front put fits =
    let taken : take (i + 1) values ≡ take i values ++ x ∷ [] = take_more values i x lt ∙ ap (λ y. take i values ++ y ∷ []) (sym is) in
    let before = front.put in
    record {
      put = record {
        items = put.items ∙ ap (λ (text : List ℕ). text ++ spelling x) before.items ∙ flat_map_more spelling old.items (take i values) x ∙ ap (λ xs. old.items ++ flat_map spelling xs) (sym taken);
        len = let a = before.len in let b = put.len in omega arith;
        capacity = let a = before.capacity in let b = put.capacity in omega arith;
      };
      fits = subst (AllByRecursion Fits) (sym taken) (all_more Fits (take i values) x front.fits fits);
    }

-- ---- one behind the other

pub Puts-then : (a b c : Vec ℕ) (s t : List ℕ) (m n : ℕ) → Puts a b s m → Puts b c t n → Puts a c (s ++ t) (m + n)
Puts-then a b c s t m n p q = record {
  items = q.items ∙ ap (λ (text : List ℕ). text ++ t) p.items ∙ append_assoc a.items s t;
  len = let k = p.len in let l = q.len in omega arith;
  capacity = let k = p.capacity in let l = q.capacity in omega arith;
}

pub four_put : (a b c d e : Vec ℕ) (w x y z : ℕ) → Puts a b (w ∷ []) 1 → Puts b c (x ∷ []) 1 → Puts c d (y ∷ []) 1 → Puts d e (z ∷ []) 1 → Puts a e (w ∷ x ∷ y ∷ z ∷ []) 4
four_put a b c d e w x y z p q r s =
    Puts-then a d e (w ∷ x ∷ y ∷ []) (z ∷ []) 3 1 (Puts-then a c d (w ∷ x ∷ []) (y ∷ []) 2 1 (Puts-then a b c (w ∷ []) (x ∷ []) 1 1 p q) r) s

pub Puts-as : (a b : Vec ℕ) (s t : List ℕ) (m n : ℕ) → Puts a b s m → s ≡ t → m ≤ n → Puts a b t n
Puts-as a b s t m n p e few = record {
  items = p.items ∙ ap (λ (text : List ℕ). a.items ++ text) e;
  len = let k = p.len in omega arith;
  capacity = p.capacity;
}
