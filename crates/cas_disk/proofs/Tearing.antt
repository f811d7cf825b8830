-- The images that a crash leaves of several writes, and how one write is undone.
use Rattle.std.specs.Prelude.{IsTrue, min}
use Rattle.std.proofs.Common.{◌≡◌, ℕ, ◌+◌, ◌-◌, ◌≤◌, take-append-drop, List, [], ◌∷◌, ◌++◌, length, take, drop, refl, sym, ◌∙◌, ap, subst, arith, length-append, length-take, length-drop, append_assoc}
use Rattle.std.proofs.lemmas.List.{take_at, drop_at, take-append-le, length-take-le, take_min, drop-drop}
use Rattle.std.proofs.lemmas.Bool.{and_from}
use Rattle.std.proofs.lemmas.Bool.Decides.{nat_tests}
use Rattle.cas_disk.specs.Disk.{Torn, HoldsBytes}
use Rattle.cas_disk.specs.Medium.{undo, undone, fits, all_fit, IsImage}
use Rattle.cas_disk.specs.declared.medium.Write.{Write}
use Rattle.cas_disk.proofs.Moments.{torn_nothing}

-- none of the writes is there
pub image_of_none : (durable : List ℕ) (writes : List Write) → IsImage durable writes durable
image_of_none durable [] = refl
image_of_none durable (w ∷ writes) = (durable, image_of_none durable writes, torn_nothing w.at w.len durable)

-- where nothing was written, nothing changes
pub image_of_nothing : (writes : List Write) (old new : List ℕ) → IsImage (undone writes old) writes new → writes ≡ [] → new ≡ old
image_of_nothing [] old new image none = image
image_of_nothing (w ∷ writes) old new image none = absurd (cc)

-- the newest of the writes torn over an image of the rest
pub image_more : (durable d c : List ℕ) (w : Write) (writes rest : List Write) → IsImage durable rest d → Torn w.at w.len d c → writes ≡ w ∷ rest → IsImage durable writes c
image_more durable d c w writes rest image torn is = subst (λ (ws : List Write). IsImage durable ws c) (sym is) (d, image, torn)

three_parts : (at n : ℕ) (c : List ℕ) → take at c ++ take n (drop at c) ++ drop (at + n) c ≡ c
three_parts at n c =
    append_assoc (take at c) (take n (drop at c)) (drop (at + n) c)
    ∙ ap (λ (rest : List ℕ). take at c ++ (take n (drop at c) ++ rest)) (sym (drop-drop n at c))
    ∙ ap (λ (rest : List ℕ). take at c ++ rest) (take-append-drop n (drop at c))
    ∙ take-append-drop at c

-- what stood where a write goes
pub overwritten : (old : List ℕ) (at n : ℕ) → take ((at + min n (length old - at)) - at) (drop at old) ≡ take n (drop at old)
overwritten old at n =
    let same : (at + min n (length old - at)) - at ≡ min n (length (drop at old)) = omega (arith, length-drop at old) in
    ap (λ (k : ℕ). take k (drop at old)) same ∙ take_min n (drop at old)

-- what a write keeps of the old content
pub record Keeping (w : Write) (old new piece : List ℕ) : Type 0 where
  pub at_most_end : w.at ≤ length old
  pub long : w.len ≡ length piece
  pub overwritten : w.old.items ≡ take w.len (drop w.at old)
  pub holds : HoldsBytes old w.at piece new

front_of : (w : Write) (old new piece : List ℕ) → Keeping w old new piece → length (take w.at old ++ piece) ≡ w.at + w.len
front_of w old new piece k =
    omega (arith, length-append (take w.at old) piece, length-take-le w.at old k.at_most_end, k.long)

-- undone, a write leaves what was there before
pub undo_written : (w : Write) (old new piece : List ℕ) → Keeping w old new piece → undo w new ≡ old
undo_written w old new piece k =
    let rest = drop (w.at + length piece) old in
    let front : take w.at new ≡ take w.at old =
    ap (λ (l : List ℕ). take w.at l) k.holds
    ∙ take-append-le w.at (take w.at old ++ piece) rest (omega (arith, front_of w old new piece k))
    ∙ take_at (take w.at old) piece w.at (length-take-le w.at old k.at_most_end) in
    let back : drop (w.at + w.len) new ≡ drop (w.at + w.len) old =
    ap (λ (l : List ℕ). drop (w.at + w.len) l) k.holds
    ∙ drop_at (take w.at old ++ piece) rest (w.at + w.len) (front_of w old new piece k)
    ∙ ap (λ (n : ℕ). drop (w.at + n) old) (sym k.long) in
    ap (λ (l : List ℕ). l ++ w.old.items ++ drop (w.at + w.len) new) front
    ∙ ap (λ (l : List ℕ). take w.at old ++ l ++ drop (w.at + w.len) new) k.overwritten
    ∙ ap (λ (l : List ℕ). take w.at old ++ take w.len (drop w.at old) ++ l) back
    ∙ three_parts w.at w.len old

-- and it can be undone in place
pub written_fits : (w : Write) (old new piece : List ℕ) → Keeping w old new piece → IsTrue (fits w new)
written_fits w old new piece k =
    let long : length new ≡ w.at + w.len + (length old - (w.at + w.len)) =
    omega (arith, ap length k.holds, length-append (take w.at old ++ piece) (drop (w.at + length piece) old), front_of w old new piece k, length-drop (w.at + length piece) old, k.long) in
    let kept : length w.old.items ≡ min w.len (length old - w.at) =
    omega (arith, ap length k.overwritten, length-take w.len (drop w.at old), length-drop w.at old) in
    let reach = k.at_most_end in
    grind (arith, nat_tests)

pub written_all_fit : (w : Write) (rest : List Write) (old new piece : List ℕ) → Keeping w old new piece → IsTrue (all_fit rest old) → IsTrue (all_fit (w ∷ rest) new)
written_all_fit w rest old new piece k fit =
    and_from (fits w new) (all_fit rest (undo w new)) (written_fits w old new piece k)
    (subst (λ (l : List ℕ). IsTrue (all_fit rest l)) (sym (undo_written w old new piece k)) fit)

pub written_undone : (w : Write) (rest : List Write) (old new piece : List ℕ) → Keeping w old new piece → undone (w ∷ rest) new ≡ undone rest old
written_undone w rest old new piece k = ap (λ (l : List ℕ). undone rest l) (undo_written w old new piece k)
