-- Lemmas on where newlines stand in bytes that grow piece by piece.
use Rattle.std.proofs.Common.{◌≡◌, ℕ, ◌+◌, ◌-◌, ◌≤◌, Bool, true, false, ◌||◌, ◌==◌, List, ◌++◌, length, take, drop, refl, sym, ap, ◌∙◌, arith, inl, inr}
use Rattle.std.proofs.Math.Seq.{take-append-add}
use Rattle.std.proofs.lemmas.Bool.{cases_lt}
use Rattle.std.proofs.lemmas.List.{take_all, length-take, take-append-le}
use Rattle.std.specs.Io.{StartsWith}
use Rattle.std.proofs.KnownBytes.{starts_with_rest}
use Rattle.cas_lines.specs.Lines.{has_newline}
use Rattle.std.proofs.lemmas.List.Folds.{list_any-append}

-- bytes that grew have a newline where the old ones or the added ones have it
has_newline-grown : (old new : List ℕ) → StartsWith new old → has_newline new ≡ (has_newline old || has_newline (drop (length old) new))
has_newline-grown old new front =
    ap has_newline (starts_with_rest new old front) ∙ list_any-append (λ byte. byte == 10) old (drop (length old) new)

-- a newline in what was added within the room
pub newline_added : (room : ℕ) (old new : List ℕ) → StartsWith new old → length new ≤ room
    → has_newline (drop (length old) new) ≡ true → has_newline (take room new) ≡ true
newline_added room old new front within there =
    rw (take_all room new within, has_newline-grown old new front, there) (or_true (has_newline old))
  where
    or_true : (a : Bool) → (a || true) ≡ true
    or_true true = refl
    or_true false = refl

-- no newline in what was there, and none in what was added within the room
pub no_newline_added : (room : ℕ) (old new : List ℕ) → StartsWith new old → length old ≤ room → length new ≤ room
    → has_newline (take room old) ≡ false
    → has_newline (drop (length old) new) ≡ false → has_newline (take room new) ≡ false
no_newline_added room old new front inside within before there =
    let none : has_newline old ≡ false = rw (take_all room old inside) at before in
    rw (take_all room new within, has_newline-grown old new front, there, none) refl

-- what is added beyond the room changes nothing within it
pub no_newline_beyond : (room : ℕ) (old new : List ℕ) → StartsWith new old → length old ≡ room
    → has_newline (take room old) ≡ false → has_newline (take room new) ≡ false
no_newline_beyond room old new front full before =
    let same : take room new ≡ take room old = rw (← full) (front ∙ sym (take_all (length old) old (omega arith))) in
    rw same before

-- what begins with the new bytes begins with the old ones
pub StartsWith-trans : (old mid new : List ℕ) → StartsWith mid old → StartsWith new mid → StartsWith new old
StartsWith-trans old mid new first second =
    let shorter : length old ≤ length mid = omega (arith, ap length first, length-take (length old) mid) in
    ap (take (length old)) (starts_with_rest new mid second) ∙ take-append-le (length old) mid (drop (length mid) new) shorter ∙ first

-- a newline stays where it is when more bytes follow
pub has_newline-front : (bytes more : List ℕ) → has_newline bytes ≡ true → has_newline (bytes ++ more) ≡ true
has_newline-front bytes more some = list_any-append (λ byte. byte == 10) bytes more ∙ ap (λ b. b || has_newline more) some

-- a newline within the room stays there when more bytes follow
pub newline_kept : (room : ℕ) (held left : List ℕ) → has_newline (take room held) ≡ true → has_newline (take room (held ++ left)) ≡ true
newline_kept room held left some =
    elim (cases_lt room (length held)) [
      | inl over ↦ ap has_newline (take-append-le room held left (omega arith)) ∙ some
      | inr fits ↦
          let more = room - length held in
          let split : length held + more ≡ room = omega arith in
          ap (λ n. has_newline (take n (held ++ left))) (sym split)
          ∙ ap has_newline (take-append-add held left more)
          ∙ has_newline-front held (take more left) (ap has_newline (sym (take_all room held fits)) ∙ some)
    ]
