-- Laws of what a disk in memory tells.
use Rattle.std.specs.Prelude.{◌≡◌, ◌⊎◌, ℕ, ◌+◌, ◌-◌, ◌≤◌, IsTrue, List, [], ◌∷◌, ◌++◌, length, take, drop, refl}
use Rattle.std.proofs.Common.{inl, inr, sym, subst, ◌∙◌, arith, length-append, length-drop}
use Rattle.std.proofs.lemmas.List.{take_at, drop_at, drop_all, take-append-le, length-take-le}
use Rattle.std.proofs.lemmas.Bool.{and_parts}
use Rattle.std.proofs.lemmas.Bool.Decides.{nat_tests}
use Rattle.cas_disk.specs.Disk.{Torn}
use Rattle.cas_disk.specs.Medium.{undo, undone, fits, all_fit, MayLeave, LeftSince, LeftAfter, WasLeft}
use Rattle.cas_disk.specs.declared.medium.Write.{Write}
use Rattle.cas_disk.specs.declared.medium.Epoch.{Epoch}

-- what `fits` tests
pub record Fit (w : Write) (c : List ℕ) : Type 0 where
  pub within : w.at + w.len ≤ length c
  pub shape : (length w.old.items ≡ w.len) ⊎ ((length w.old.items ≤ w.len) × (w.at + w.len ≡ length c))

pub fit_of : (w : Write) (c : List ℕ) → IsTrue (fits w c) → Fit w c
fit_of w c fit = record {
  within = grind (arith, nat_tests);
  shape = grind (arith, nat_tests);
}

pub length-undo : (w : Write) (c : List ℕ) → Fit w c → length (undo w c) ≡ w.at + length w.old.items + (length c - (w.at + w.len))
length-undo w c fit =
    let front : length (take w.at c) ≡ w.at = length-take-le w.at c (omega (arith, fit.within)) in
    omega (arith, front, length-append (take w.at c ++ w.old.items) (drop (w.at + w.len) c), length-append (take w.at c) w.old.items, length-drop (w.at + w.len) c)

-- a write that is undone and torn anew may be what it was
pub torn_back : (w : Write) (c : List ℕ) → Fit w c → Torn w.at w.len (undo w c) c
torn_back w c fit =
    let front : length (take w.at c) ≡ w.at = length-take-le w.at c (omega (arith, fit.within)) in
    let middle : length (take w.at c ++ w.old.items) ≡ w.at + length w.old.items = omega (arith, front, length-append (take w.at c) w.old.items) in
    let long : length (undo w c) ≡ w.at + length w.old.items + (length c - (w.at + w.len)) = length-undo w c fit in
    record {
      before = sym (take-append-le w.at (take w.at c ++ w.old.items) (drop (w.at + w.len) c) (omega (arith, middle)) ∙ take_at (take w.at c) w.old.items w.at front);
      after = elim fit.shape [
        | inl whole ↦ sym (drop_at (take w.at c ++ w.old.items) (drop (w.at + w.len) c) (w.at + w.len) (omega (arith, middle, whole)))
        | inr to_end ↦ drop_all (w.at + w.len) c (omega (arith, to_end.1)) ∙ sym (drop_all (w.at + w.len) (undo w c) (omega (arith, long, to_end.0, to_end.1)))
      ];
      no_shorter = elim fit.shape [ inl whole ↦ omega (arith, long, whole, fit.within) | inr to_end ↦ omega (arith, long, to_end.0, to_end.1) ];
      no_longer = elim fit.shape [ inl whole ↦ omega (arith, long, whole, fit.within) | inr to_end ↦ omega (arith, long, to_end.0, to_end.1) ];
    }

-- what a read gives is an image that a crash may leave
pub seen_is_image : (writes : List Write) (c : List ℕ) → IsTrue (all_fit writes c) → MayLeave writes c c
seen_is_image [] c fit = refl
seen_is_image (w ∷ writes) c fit =
    let parts = and_parts (fits w c) (all_fit writes (undo w c)) fit in
    (undo w c, seen_is_image writes (undo w c) parts.1, torn_back w c (fit_of w c parts.0))

none_left : (past : List Epoch) (now c : List ℕ) → WasLeft (drop (length past) past) now c → ⊥
none_left [] now c left = left
none_left (e ∷ past) now c left = none_left past now c left

-- since this moment a crash might have left what it may leave now
pub since_now : (past : List Epoch) (pending : List Write) (bytes c : List ℕ) → LeftSince past pending bytes (length past) c → MayLeave pending bytes c
since_now past pending bytes c (inl now) = now
since_now past pending bytes c (inr left) = absurd (none_left past (undone pending bytes) c left)

-- and so where moments were forgotten before
pub after_now : (forgotten : ℕ) (past : List Epoch) (pending : List Write) (bytes c : List ℕ) → LeftAfter forgotten past pending bytes (forgotten + length past) c → MayLeave pending bytes c
after_now forgotten past pending bytes c (inl lost) = absurd (omega arith)
after_now forgotten past pending bytes c (inr left) =
    let here : (forgotten + length past) - forgotten ≡ length past = omega arith in
    since_now past pending bytes c (subst (λ (t : ℕ). LeftSince past pending bytes t c) here left)
