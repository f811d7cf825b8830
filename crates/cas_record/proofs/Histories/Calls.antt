-- The bookkeeping of calls: a call is begun once, and its entry bears the program with which it began.
use Rattle.std.proofs.Common.{◌≡◌, ℕ, suc, ◌≤◌, true, false, not, List, [], ◌∷◌, arith, refl, ◌∙◌, subst}
use Rattle.std.specs.Prelude.{◌&&◌, ◌==◌}
use mathlib.Core.Logic.{inl, inr}
use Rattle.cas_change.specs.declared.program.Clause.{Clause}
use Rattle.cas_record.specs.declared.mark.Mark.{Mark}
use Rattle.cas_record.specs.declared.mark.Mark.TheVariants.{Begun}
use Rattle.cas_record.specs.Places.{At, Stands, IsOlderPart, here, past}
use Rattle.cas_record.specs.Histories.Chain.{is_call, has_begun, program_of}
use Rattle.cas_record.specs.Legal.{calls_of}
use Rattle.cas_record.proofs.PlaceLemmas.{at_part, older_than, newer_than, at_one, order}
use Rattle.cas_base.proofs.Bools.{if_true, if_false, both_true, right_false, or_cases, or_left, or_right, not_of_true, not_of_false, false_of_not}
use Rattle.cas_record.proofs.Tests.{nat_is, call_same, call_is, step_up}

-- the calls of each caller are numbered as they begin
pub record AreCallsCounted (marks : List Mark) : Type 0 where
  pub begun : {caller call : ℕ} {key : List ℕ} {program : List Clause} {older : List Mark} → At (Begun caller call key program) older marks → call ≡ suc (calls_of caller older)

pub counted_part : {part marks : List Mark} → AreCallsCounted marks → IsOlderPart part marks → AreCallsCounted part
counted_part counted part = record { begun = λ at. counted.begun (at_part at part) }

calls_more : (caller : ℕ) (mark : Mark) (older : List Mark) → calls_of caller older ≤ calls_of caller (mark ∷ older)
calls_more caller (Begun c n k p) older = step_up (c == caller) (calls_of caller older)
calls_more caller mark older = omega arith

calls_here : (caller call : ℕ) (key : List ℕ) (program : List Clause) (older : List Mark) → calls_of caller (Begun caller call key program ∷ older) ≡ suc (calls_of caller older)
calls_here caller call key program older = if_true (caller == caller) _ _ (nat_is {a = caller} refl)

calls_of_begun : {caller call : ℕ} {key : List ℕ} {program : List Clause} {older marks : List Mark} → At (Begun caller call key program) older marks
    → suc (calls_of caller older) ≤ calls_of caller marks
calls_of_begun {caller} {call} {key} {program} {older} here = omega (arith, calls_here caller call key program older)
calls_of_begun {caller} (past {y = mark} {rest = rest} at) = omega (arith, calls_of_begun at, calls_more caller mark rest)

-- a call that was begun is one of those counted
pub begun_low : {caller call : ℕ} {key : List ℕ} {program : List Clause} {marks : List Mark} → AreCallsCounted marks → Stands (Begun caller call key program) marks → call ≤ calls_of caller marks
begun_low counted s = omega (arith, counted.begun s.at, calls_of_begun s.at)

-- a call is begun once
pub record OneBegun (key other : List ℕ) (program : List Clause) (second : List Clause) (xs ys : List Mark) : Type 0 where
  pub same_key : key ≡ other
  pub same_program : program ≡ second
  pub older_same : xs ≡ ys

pub begun_once : {caller call : ℕ} {key other : List ℕ} {program second : List Clause} {xs ys marks : List Mark} → AreCallsCounted marks
    → At (Begun caller call key program) xs marks → At (Begun caller call other second) ys marks → OneBegun key other program second xs ys
begun_once counted at also = elim (order at also) [
  | older_than before ↦ absurd (omega (arith, counted.begun at, counted.begun also, calls_of_begun before))
  | newer_than after ↦ absurd (omega (arith, counted.begun at, counted.begun also, calls_of_begun after))
  | at_one same older_same ↦ record { same_key = cc; same_program = cc; older_same = older_same }
]

pub record BegunAt (caller call : ℕ) (marks : List Mark) : Type 0 where
  pub key : List ℕ
  pub program : List Clause
  pub stands : Stands (Begun caller call key program) marks

begun_more : {caller call : ℕ} {mark : Mark} {marks : List Mark} → BegunAt caller call marks → BegunAt caller call (mark ∷ marks)
begun_more b = record { key = b.key; program = b.program; stands = record { older = b.stands.older; at = past b.stands.at } }

begun_front : {caller call c n : ℕ} {key : List ℕ} {program : List Clause} {older : List Mark} → c ≡ caller → n ≡ call → BegunAt caller call (Begun c n key program ∷ older)
begun_front {call = call} {c = c} {n = n} {key = key} {program = program} {older = older} p q =
    subst (λ x. BegunAt x call (Begun c n key program ∷ older)) p (subst (λ x. BegunAt c x (Begun c n key program ∷ older)) q
    (record { key = key; program = program; stands = record { older = older; at = here } }))

has_begun_tells : (caller call : ℕ) (marks : List Mark) → has_begun caller call marks ≡ true → BegunAt caller call marks
has_begun_tells caller call [] e = absurd cc
has_begun_tells caller call (Begun c n key program ∷ older) e = elim (or_cases (is_call caller call c n) (has_begun caller call older) e) [
  | inl first ↦ let same = call_same {caller = caller} {call = call} {c = c} {n = n} first in begun_front same.0 same.1
  | inr rest ↦ begun_more (has_begun_tells caller call older rest)
]
has_begun_tells caller call (mark ∷ older) e = begun_more (has_begun_tells caller call older e)

has_begun_more : (caller call : ℕ) (mark : Mark) (older : List Mark) → has_begun caller call older ≡ true → has_begun caller call (mark ∷ older) ≡ true
has_begun_more caller call (Begun c n k p) older e = or_right (is_call caller call c n) (has_begun caller call older) e
has_begun_more caller call mark older e = e

has_begun_is : {caller call : ℕ} {key : List ℕ} {program : List Clause} {older marks : List Mark} → At (Begun caller call key program) older marks → has_begun caller call marks ≡ true
has_begun_is {caller} {call} {older = older} here = or_left (is_call caller call caller call) (has_begun caller call older) (call_is {caller = caller} {call = call} refl refl)
has_begun_is {caller} {call} (past {y = mark} {rest = rest} at) = has_begun_more caller call mark rest (has_begun_is at)

program_more : (caller call : ℕ) (mark : Mark) (older : List Mark) → has_begun caller call older ≡ true → program_of caller call (mark ∷ older) ≡ program_of caller call older
program_more caller call (Begun c n k p) older e = if_false (is_call caller call c n && not (has_begun caller call older)) _ _ (right_false (is_call caller call c n) _ (not_of_true _ e))
program_more caller call mark older e = refl

-- its program is that with which it began
pub program_of_begun : {caller call : ℕ} {key : List ℕ} {program : List Clause} {older marks : List Mark} → AreCallsCounted marks → At (Begun caller call key program) older marks
    → program_of caller call marks ≡ program
program_of_begun {caller} {call} {key} {program} {older} counted here =
    let first : has_begun caller call older ≡ false = false_of_not _ (λ e.
    let b = has_begun_tells caller call older e in
    absurd (omega (arith, counted.begun (past b.stands.at), counted.begun {key = key} {program = program} here, calls_of_begun b.stands.at))) in
    if_true (is_call caller call caller call && not (has_begun caller call older)) _ _ (both_true _ _ (call_is {caller = caller} {call = call} refl refl) (not_of_false _ first))
program_of_begun {caller} {call} counted (past {y = mark} {rest = rest} at) =
    program_more caller call mark rest (has_begun_is at) ∙ program_of_begun (record { begun = λ b. counted.begun (past b) }) at
