use Rattle.std.proofs.Common.{◌≡◌, ◌-◌, vec_len}
use Rattle.cas_change.specs.declared.program.TheConstants.{MOST_CLAUSES}
use Rattle.cas_change_text.specs.Reading.{clauses_at, program_at}
use Rattle.cas_change_text.proofs.ClauseLists.{with_front}
use Rattle.cas_change_text.proofs.reading.read_clauses.Given as goal

-- the clauses so far, and those that are still read, are those of all words
abbrev pub invariant-loop-clause : goal.invariant-loop-clause
invariant-loop-clause l = record {
  read : with_front l.clauses.items (clauses_at (MOST_CLAUSES - l._clause) l.words) ≡ program_at l.initial.words;
  count : vec_len l.clauses ≡ l._clause;
}
