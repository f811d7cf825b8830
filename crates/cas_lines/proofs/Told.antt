-- Lemmas on the lines that a source told in a whole run, and those that its reader handed out.
use Rattle.std.proofs.Common.{◌≡◌, ℕ, ◌<◌, true, false, ◌||◌, ◌==◌, cond, List, [], ◌∷◌, ◌++◌, length, Option, Some, None, Ok, Err, refl, sym, ap, ◌∙◌, subst, arith, inl, inr, append_assoc, append-nil}
use Rattle.std.specs.Prelude.{◌⊎◌}
use Rattle.std.specs.Io.BufRead.{drop_through}
use Rattle.cas_lines.specs.Lines.{has_newline, text_of, lines_of, SourceGave, not_asked, asked, Heard, going, stopped, LineState, LinesState, IsTextOf, TellsAtOnce, HasTold, told_nothing, told_bytes, told_end, FailsBehind}
use Rattle.cas_lines.specs.Source.{Taken, End, Fault}
use Rattle.cas_lines.specs.declared.lines.LineFault.TheVariants.{ReadFault}
use Rattle.cas_lines.proofs.FirstLens.{first_line_ends}
use Rattle.cas_lines.proofs.FirstLines.{lines_of-first}

-- ---- lines
-- behind bytes without a newline nothing stands
nothing_behind : (bytes : List ℕ) → has_newline bytes ≡ false → drop_through 10 bytes ≡ []
nothing_behind [] none = refl
nothing_behind (byte ∷ bytes) none =
    elim (byte == 10) as (λ b. (b || has_newline bytes) ≡ false → cond b bytes (drop_through 10 bytes) ≡ [])
    [ true ↦ λ h. absurd cc | false ↦ λ h. nothing_behind bytes h ]
    none

-- bytes without a newline are one line
one_line : (bytes : List ℕ) → has_newline bytes ≡ false → 0 < length bytes → lines_of bytes ≡ text_of bytes ∷ []
one_line [] none some = absurd (omega arith)
one_line (byte ∷ bytes) none some = lines_of-first byte bytes ∙ ap (λ rest. text_of (byte ∷ bytes) ∷ lines_of rest) (nothing_behind (byte ∷ bytes) none)

-- ---- runs
-- these lines were handed out and these bytes are held: the lines that the source ended, and those that end in the bytes since
pub record HandsOutTold {S : Type 0} (gives : S → Taken → S → Type 0) (start : S) (lines : List (List ℕ)) (held : List ℕ) (source : S) : Type 0 where
  pub told : List (List ℕ)
  pub bytes : List ℕ
  pub calls : HasTold gives start told bytes source
  pub ended : List (List ℕ)
  pub split : (later : List ℕ) → lines_of (bytes ++ later) ≡ ended ++ lines_of (held ++ later)
  pub all : lines ≡ told ++ ended

pub hands_nothing : {S : Type 0} (gives : S → Taken → S → Type 0) (start : S) (held : List ℕ) → held ≡ [] → HandsOutTold gives start [] held start
hands_nothing gives start held empty = record {
  told = [];
  bytes = [];
  calls = told_nothing;
  ended = [];
  split = λ later. ap (λ b. lines_of (b ++ later)) (sym empty);
  all = refl;
}

-- what was asked for was told
asked_told : {S : Type 0} (gives : S → Taken → S → Type 0) (start : S) (told : List (List ℕ)) (bytes : List ℕ) (room : ℕ) (held : List ℕ) (old : S) (more : List ℕ) (new : S)
    → HasTold gives start told bytes old → SourceGave gives room held old more new → HasTold gives start told (bytes ++ more) new
asked_told gives start told bytes room held old more new h not_asked = subst (λ b. HasTold gives start told b new) (sym (append-nil bytes)) h
asked_told gives start told bytes room held old more new h (asked {more = before} {bytes = last} {mid = mid} calls still gave) =
    subst (λ b. HasTold gives start told b new) (append_assoc bytes before last) (told_bytes (asked_told gives start told bytes room held old before mid h calls) gave)

-- the bytes that were asked for follow those held
split_more : (bytes held more : List ℕ) (ended : List (List ℕ)) → ((later : List ℕ) → lines_of (bytes ++ later) ≡ ended ++ lines_of (held ++ later))
    → (later : List ℕ) → lines_of ((bytes ++ more) ++ later) ≡ ended ++ lines_of ((held ++ more) ++ later)
split_more bytes held more ended split later =
    ap lines_of (append_assoc bytes more later) ∙ split (more ++ later) ∙ ap (λ b. ended ++ lines_of b) (sym (append_assoc held more later))

-- a line whose newline is there went out
hands_ended : {S : Type 0} (gives : S → Taken → S → Type 0) (start : S) (lines : List (List ℕ)) (held more rest line : List ℕ) (room : ℕ) (old new : S)
    → HandsOutTold gives start lines held old → SourceGave gives room held old more new → IsTextOf (held ++ more) line rest → has_newline (held ++ more) ≡ true
    → HandsOutTold gives start (lines ++ line ∷ []) rest new
hands_ended gives start lines held more rest line room old new h calls is some = record {
  told = h.told;
  bytes = h.bytes ++ more;
  calls = asked_told gives start h.told h.bytes room held old more new h.calls calls;
  ended = h.ended ++ line ∷ [];
  split = λ later. split_more h.bytes held more h.ended h.split later
      ∙ ap (λ l. h.ended ++ l) (first_line_ends (held ++ more) later some)
      ∙ (λ i. h.ended ++ (sym is.0 i ∷ lines_of (sym is.1 i ++ later)))
      ∙ sym (append_assoc h.ended (line ∷ []) (lines_of (rest ++ later)));
  all = ap (λ l. l ++ line ∷ []) h.all ∙ append_assoc h.told h.ended (line ∷ []);
}

-- a line behind which the input ended went out
hands_last : {S : Type 0} (gives : S → Taken → S → Type 0) (start : S) (lines : List (List ℕ)) (held more rest line : List ℕ) (room : ℕ) (old mid new : S)
    → HandsOutTold gives start lines held old → SourceGave gives room held old more mid → gives mid End new → IsTextOf (held ++ more) line rest
    → has_newline (held ++ more) ≡ false → 0 < length (held ++ more) → HandsOutTold gives start (lines ++ line ∷ []) rest new
hands_last gives start lines held more rest line room old mid new h calls gave is none some =
    let text : lines_of (held ++ more) ≡ line ∷ [] = one_line (held ++ more) none some ∙ ap (λ l. l ∷ []) (sym is.0) in
    let whole : lines_of (h.bytes ++ more) ≡ h.ended ++ line ∷ [] = h.split more ∙ ap (λ l. h.ended ++ l) text in
    record {
      told = h.told ++ lines_of (h.bytes ++ more);
      bytes = [];
      calls = told_end (asked_told gives start h.told h.bytes room held old more mid h.calls calls) gave;
      ended = [];
      split = λ later. ap (λ b. lines_of (b ++ later)) (sym (is.1 ∙ nothing_behind (held ++ more) none));
      all = ap (λ l. l ++ line ∷ []) h.all ∙ append_assoc h.told h.ended (line ∷ []) ∙ ap (λ l. h.told ++ l) (sym whole) ∙ sym (append-nil (h.told ++ lines_of (h.bytes ++ more)));
    }

-- by what stopped the source
hands_by : {S : Type 0} (gives : S → Taken → S → Type 0) (start : S) (lines : List (List ℕ)) (held more rest line : List ℕ) (room : ℕ) (stop : Option Taken) (old new : S)
    → HandsOutTold gives start lines held old → Heard gives room held old more stop new → IsTextOf (held ++ more) line rest
    → ((stop ≡ None) × (has_newline (held ++ more) ≡ true)) ⊎ ((stop ≡ Some End) × (has_newline (held ++ more) ≡ false) × (0 < length (held ++ more)))
    → HandsOutTold gives start (lines ++ line ∷ []) rest new
hands_by gives start lines held more rest line room stop old new h (going calls) is (inl newline) = hands_ended gives start lines held more rest line room old new h calls is newline.1
hands_by gives start lines held more rest line room stop old new h (going calls) is (inr end) = absurd (cc (end.0))
hands_by gives start lines held more rest line room stop old new h (stopped calls still gave) is (inl newline) = absurd (cc (newline.0))
hands_by gives start lines held more rest line room stop old new h (stopped {mid = mid} {last = last} calls still gave) is (inr end) =
    let last_is : last ≡ End = cc (end.0) in
    hands_last gives start lines held more rest line room old mid new h calls (subst (λ t. gives mid t new) last_is gave) is end.1 end.2

-- one line more
pub hands_told : {S : Type 0} (gives : S → Taken → S → Type 0) (start : S) (lines : List (List ℕ)) (old new : LinesState) (line : LineState) (source new_source : S)
    → HandsOutTold gives start lines old.held source → TellsAtOnce gives old source (Ok (Some line)) new new_source → HandsOutTold gives start (lines ++ line.bytes ∷ []) new.held new_source
hands_told gives start lines old new line source new_source h t = hands_by gives start lines old.held t.more new.held line.bytes _ t.stop source new_source h t.heard t.tells.0 t.tells.1

-- ---- faults
fails_by : {S : Type 0} (gives : S → Taken → S → Type 0) (start : S) (lines : List (List ℕ)) (held more : List ℕ) (room : ℕ) (stop : Option Taken) (old new : S)
    → HandsOutTold gives start lines held old → Heard gives room held old more stop new → stop ≡ Some Fault → FailsBehind gives start new lines
fails_by gives start lines held more room stop old new h (going calls) is = absurd cc
fails_by gives start lines held more room stop old new h (stopped {mid = mid} {last = last} calls still gave) is =
    let last_is : last ≡ Fault = cc in
    record {
      told = h.told;
      bytes = h.bytes ++ more;
      mid = mid;
      calls = asked_told gives start h.told h.bytes room held old more mid h.calls calls;
      fails = subst (λ t. gives mid t new) last_is gave;
      ended = h.ended;
      rest = held ++ more;
      within = record { split = split_more h.bytes held more h.ended h.split; none = still.0 };
      all = h.all;
    }

-- where the source failed, all lines that had ended were handed out, and no others
pub fails_told : {S : Type 0} (gives : S → Taken → S → Type 0) (start : S) (lines : List (List ℕ)) (old new : LinesState) (source new_source : S)
    → HandsOutTold gives start lines old.held source → TellsAtOnce gives old source (Err ReadFault) new new_source → FailsBehind gives start new_source lines
fails_told gives start lines old new source new_source h t = fails_by gives start lines old.held t.more _ t.stop source new_source h t.heard (t.tells.0.1 refl)

-- ---- the end
ends_by : {S : Type 0} (gives : S → Taken → S → Type 0) (start : S) (lines : List (List ℕ)) (held more : List ℕ) (room : ℕ) (stop : Option Taken) (old new : S)
    → HandsOutTold gives start lines held old → Heard gives room held old more stop new → stop ≡ Some End → held ++ more ≡ [] → HasTold gives start lines [] new
ends_by gives start lines held more room stop old new h (going calls) is empty = absurd cc
ends_by gives start lines held more room stop old new h (stopped {mid = mid} {last = last} calls still gave) is empty =
    let last_is : last ≡ End = cc in
    let whole : lines_of (h.bytes ++ more) ≡ h.ended = h.split more ∙ ap (λ b. h.ended ++ lines_of b) empty ∙ append-nil h.ended in
    subst (λ l. HasTold gives start l [] new) (ap (λ l. h.told ++ l) whole ∙ sym h.all)
    (told_end (asked_told gives start h.told h.bytes room held old more mid h.calls calls) (subst (λ t. gives mid t new) last_is gave))

-- where the source ended, all lines that it told were handed out
pub ends_told : {S : Type 0} (gives : S → Taken → S → Type 0) (start : S) (lines : List (List ℕ)) (old new : LinesState) (source new_source : S)
    → HandsOutTold gives start lines old.held source → TellsAtOnce gives old source (Ok None) new new_source → HasTold gives start lines [] new_source
ends_told gives start lines old new source new_source h t = ends_by gives start lines old.held t.more _ t.stop source new_source h t.heard t.tells.0 t.tells.1
