-- Reading clauses one after another, as a loop does.
use Rattle.std.proofs.Common.{◌≡◌, ℕ, suc, ◌+◌, ◌-◌, ◌<◌, true, false, List, [], ◌∷◌, ◌++◌, Result, Ok, Err, refl, sym, ap, append_assoc, arith}
use Rattle.cas_change.specs.declared.program.Clause.{Clause}
use Rattle.cas_change_text.specs.declared.refusal.TextRefusal.{TextRefusal}
use Rattle.cas_change_text.specs.Words.{WordsLeft}
use Rattle.cas_change_text.specs.Reading.{◌>>=◌, clause_at, semicolon_at, clauses_at}

-- what was read before, and what is still read
abbrev pub with_front : List Clause → Result (List Clause) TextRefusal → Result (List Clause) TextRefusal
with_front front read = read >>= λ clauses. Ok (front ++ clauses)

-- one more that may come
one_more : (most at : ℕ) → at < most → most - at ≡ suc (most - (at + 1))
one_more most at below = omega arith

regroup : (front : List Clause) (clause : Clause) (read : Result (List Clause) TextRefusal)
    → with_front front (read >>= λ clauses. Ok (clause ∷ clauses)) ≡ with_front (front ++ clause ∷ []) read
regroup front clause (Ok clauses) = ap (λ (cs : List Clause). Ok cs) (sym (append_assoc front (clause ∷ []) clauses))
regroup front clause (Err refusal) = refl

-- a clause with a semicolon behind it
pub one_clause : (most at : ℕ) (front : List Clause) (left mid after : WordsLeft) (clause : Clause) → at < most
    → clause_at left ≡ Ok (clause, mid) → semicolon_at mid ≡ Ok (true, after)
    → with_front front (clauses_at (most - at) left) ≡ with_front (front ++ clause ∷ []) (clauses_at (most - (at + 1)) after)
unfolding clauses_at
one_clause most at front left mid after clause below read more =
    rw (one_more most at below, read, more) (regroup front clause (clauses_at (most - (at + 1)) after))

-- the last clause
pub last_clause : (most at : ℕ) (front : List Clause) (left mid after : WordsLeft) (clause : Clause) → at < most
    → clause_at left ≡ Ok (clause, mid) → semicolon_at mid ≡ Ok (false, after)
    → with_front front (clauses_at (most - at) left) ≡ Ok (front ++ clause ∷ [])
unfolding clauses_at
last_clause most at front left mid after clause below read more =
    rw (one_more most at below, read, more) refl

-- no clause
pub no_clause : (most at : ℕ) (front : List Clause) (left : WordsLeft) (refusal : TextRefusal) → at < most
    → clause_at left ≡ Err refusal → with_front front (clauses_at (most - at) left) ≡ Err refusal
unfolding clauses_at
no_clause most at front left refusal below read = rw (one_more most at below, read) refl

-- no semicolon behind a clause
pub no_semicolon : (most at : ℕ) (front : List Clause) (left mid : WordsLeft) (clause : Clause) (refusal : TextRefusal) → at < most
    → clause_at left ≡ Ok (clause, mid) → semicolon_at mid ≡ Err refusal → with_front front (clauses_at (most - at) left) ≡ Err refusal
unfolding clauses_at
no_semicolon most at front left mid clause refusal below read more = rw (one_more most at below, read, more) refl
