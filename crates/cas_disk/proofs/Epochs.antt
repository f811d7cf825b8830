-- How the past of a disk in memory grows.
use Rattle.std.proofs.Common.{◌≡◌, ◌⊎◌, inl, inr, ⊎_elim, ℕ, ◌+◌, ◌-◌, zero, suc, ◌<◌, ◌≤◌, List, [], ◌∷◌, ◌++◌, length, drop, refl, sym, ◌∙◌, ap, subst, arith, length-append}
use Rattle.cas_disk.specs.Disk.{Elapses}
use Rattle.cas_disk.specs.Medium.{undone, IsImage, started_with, content_before, WasLeft, MayLeave, LeftSince, LeftAfter, Closes}
use Rattle.cas_disk.specs.declared.medium.Write.{Write}
use Rattle.cas_disk.specs.declared.medium.Before.{Before}
use Rattle.cas_disk.specs.declared.medium.Epoch.{Epoch}
use Rattle.cas_disk.proofs.Moments.{torn_nothing}

-- the content before an epoch that is over
abbrev start : Epoch → List ℕ → List ℕ
start e now = started_with e.before e.writes.items now

before_push : (epochs : List Epoch) (e : Epoch) (now : List ℕ) → content_before (epochs ++ e ∷ []) now ≡ content_before epochs (start e now)
before_push [] e now = refl
before_push (f ∷ epochs) e now = ap (λ (c : List ℕ). started_with f.before f.writes.items c) (before_push epochs e now)

drop_push : (t : ℕ) (past : List Epoch) (e : Epoch) → t ≤ length past → drop t (past ++ e ∷ []) ≡ drop t past ++ e ∷ []
drop_push zero past e le = refl
drop_push (suc t) [] e le = absurd (omega arith)
drop_push (suc t) (f ∷ past) e le = drop_push t past e (omega arith)

-- one epoch more: what was left before it, or within it
left_push : (epochs : List Epoch) (e : Epoch) (now c : List ℕ) → WasLeft (epochs ++ e ∷ []) now c → WasLeft epochs (start e now) c ⊎ IsImage (start e now) e.writes.items c
left_push [] e now c (inl here) = inr here
left_push [] e now c (inr none) = absurd none
left_push (f ∷ epochs) e now c (inl here) = inl (inl (subst (λ (b : List ℕ). IsImage (started_with f.before f.writes.items b) f.writes.items c) (before_push epochs e now) here))
left_push (f ∷ epochs) e now c (inr there) = ⊎_elim (λ left. inl (inr left)) (λ image. inr image) (left_push epochs e now c there)

push_left : (epochs : List Epoch) (e : Epoch) (now c : List ℕ) → WasLeft epochs (start e now) c ⊎ IsImage (start e now) e.writes.items c → WasLeft (epochs ++ e ∷ []) now c
push_left [] e now c (inl none) = absurd none
push_left [] e now c (inr here) = inl here
push_left (f ∷ epochs) e now c (inl (inl here)) = inl (subst (λ (b : List ℕ). IsImage (started_with f.before f.writes.items b) f.writes.items c) (sym (before_push epochs e now)) here)
push_left (f ∷ epochs) e now c (inl (inr there)) = inr (push_left epochs e now c (inl there))
push_left (f ∷ epochs) e now c (inr image) = inr (push_left epochs e now c (inr image))

-- nothing happened
pub elapses_same : (past : List Epoch) (pending : List Write) (bytes : List ℕ) → Elapses (length past) (length past) (LeftSince past pending bytes) (LeftSince past pending bytes) (MayLeave pending bytes)
elapses_same past pending bytes = record { later = omega arith; nothing_else = λ t c le left. inl left; keeps = λ t c le left. left }

-- one write more
pub elapses_write : (past : List Epoch) (w : Write) (pending : List Write) (old new : List ℕ) → undone (w ∷ pending) new ≡ undone pending old
    → Elapses (length past) (length past) (LeftSince past pending old) (LeftSince past (w ∷ pending) new) (MayLeave (w ∷ pending) new)
elapses_write past w pending old new same = record {
  later = omega arith;
  nothing_else = λ t c le left. ⊎_elim (λ now. inr now) (λ was. inl (inr (subst (λ (b : List ℕ). WasLeft (drop t past) b c) same was))) left;
  keeps = λ t c le left. ⊎_elim
      (λ now. inl (subst (λ (b : List ℕ). IsImage b (w ∷ pending) c) (sym same) (c, now, torn_nothing w.at w.len c)))
      (λ was. inr (subst (λ (b : List ℕ). WasLeft (drop t past) b c) (sym same) was)) left;
}

-- the epoch is over, and its content is settled
elapses_push : (past : List Epoch) (e : Epoch) (old new : List ℕ) → start e new ≡ undone e.writes.items old
    → Elapses (length past) (length (past ++ e ∷ [])) (LeftSince past e.writes.items old) (LeftSince (past ++ e ∷ []) [] new) (MayLeave [] new)
elapses_push past e old new same = record {
  later = omega (arith, length-append past (e ∷ []));
  nothing_else = λ t c le left. ⊎_elim (λ now. inr now) (λ was. inl (back t c (left_push (drop t past) e new c (subst (λ (l : List Epoch). WasLeft l new c) (drop_push t past e le) was)))) left;
  keeps = λ t c le left. inr (subst (λ (l : List Epoch). WasLeft l new c) (sym (drop_push t past e le)) (push_left (drop t past) e new c (on t c left)));
}
  where
    back : (t : ℕ) (c : List ℕ) → WasLeft (drop t past) (start e new) c ⊎ IsImage (start e new) e.writes.items c → LeftSince past e.writes.items old t c
    back t c (inl was) = inr (subst (λ (b : List ℕ). WasLeft (drop t past) b c) same was)
    back t c (inr image) = inl (subst (λ (b : List ℕ). IsImage b e.writes.items c) same image)

    on : (t : ℕ) (c : List ℕ) → LeftSince past e.writes.items old t c → WasLeft (drop t past) (start e new) c ⊎ IsImage (start e new) e.writes.items c
    on t c (inl now) = inr (subst (λ (b : List ℕ). IsImage b e.writes.items c) (sym same) now)
    on t c (inr was) = inl (subst (λ (b : List ℕ). WasLeft (drop t past) b c) (sym same) was)

-- the epoch of these writes is over: the content is what it was, or was redrawn so that the record still tells what it was
pub elapses_close : (past : List Epoch) (pending : List Write) (before : Before) (past' : List Epoch) (old new : List ℕ) → Closes past pending before past' → started_with before pending new ≡ undone pending old → ((pending ≡ []) → new ≡ old)
    → Elapses (length past) (length past') (LeftSince past pending old) (LeftSince past' [] new) (MayLeave [] new)
elapses_close past [] before past' old new closes same none =
    subst (λ (b : List ℕ). Elapses (length past) (length past') (LeftSince past [] old) (LeftSince past' [] b) (MayLeave [] b)) (sym (none refl))
    (subst (λ (l : List Epoch). Elapses (length past) (length l) (LeftSince past [] old) (LeftSince l [] old) (MayLeave [] old)) (sym closes) (elapses_same past [] old))
elapses_close past (w ∷ pending) before past' old new closes same none =
    let e = closes.0 in
    let P : List Write → Type 0 = λ ws. Elapses (length past) (length past') (LeftSince past ws old) (LeftSince past' [] new) (MayLeave [] new) in
    let starts : start e new ≡ undone e.writes.items old =
    ap (λ (b : Before). started_with b e.writes.items new) closes.3
    ∙ ap (λ (ws : List Write). started_with before ws new) closes.2
    ∙ same
    ∙ ap (λ (ws : List Write). undone ws old) (sym closes.2) in
    subst P closes.2 (subst (λ (l : List Epoch). Elapses (length past) (length l) (LeftSince past e.writes.items old) (LeftSince l [] new) (MayLeave [] new)) (sym closes.1) (elapses_push past e old new starts))

-- the same, counted on after moments that were forgotten
pub elapses_after : (forgotten : ℕ) (past past' : List Epoch) (pending pending' : List Write) (old new : List ℕ) → Elapses (length past) (length past') (LeftSince past pending old) (LeftSince past' pending' new) (MayLeave pending' new)
    → Elapses (forgotten + length past) (forgotten + length past') (LeftAfter forgotten past pending old) (LeftAfter forgotten past' pending' new) (MayLeave pending' new)
elapses_after forgotten past past' pending pending' old new time = record {
  later = omega (arith, time.later);
  nothing_else = λ t c le left. ⊎_elim
      (λ lost. inl (inl lost))
      (λ since. ⊎_elim (λ was. inl (inr was)) (λ now. inr now) (time.nothing_else (t - forgotten) c (omega arith) since)) left;
  keeps = λ t c le left. ⊎_elim (λ lost. inl lost) (λ since. inr (time.keeps (t - forgotten) c (omega arith) since)) left;
}

-- writes were closed into a record of them
pub closes_some : (past : List Epoch) (pending : List Write) (before : Before) (past' : List Epoch) (e : Epoch) → 0 < length pending → past' ≡ past ++ e ∷ [] → e.writes.items ≡ pending → e.before ≡ before → Closes past pending before past'
closes_some past [] before past' e some is writes how = absurd (omega arith)
closes_some past (w ∷ pending) before past' e some is writes how = (e, is, writes, how)
