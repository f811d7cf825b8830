-- The lines of entries, told one after another.
use Rattle.std.proofs.Common.{◌≡◌, ℕ, ◌+◌, ◌<◌, ◌≤◌, List, [], ◌∷◌, ◌++◌, length, get_or, drop, append_assoc, sym, ap, ◌∙◌, arith}
use Rattle.std.proofs.lemmas.List.{append-nil, drop_more, drop_all}
use Rattle.cas_change.specs.declared.state.State.{State}
use Rattle.cas_change.specs.Outcome.{outcome_of}
use Rattle.cas_record.specs.declared.entry.Entry.{Entry}
use Rattle.casreg_tasks.specs.Histories.{entry_line, entry_lines, head_line, history_from}

-- the next of the entries goes behind the text
pub told_more : (state next : State) (entries : List Entry) (i : ℕ) (entry : Entry) (text line new whole : List ℕ) → i < length entries → entry ≡ get_or entries i entry
    → text ++ entry_lines state (drop i entries) ≡ whole → next ≡ (outcome_of entry.program state).state → line ≡ entry_line entry next → new ≡ text ++ line → new ++ entry_lines next (drop (i + 1) entries) ≡ whole
told_more state next entries i entry text line new whole low is before acted line_is new_is =
    ap (λ t. t ++ entry_lines next rest) new_is ∙ append_assoc text line (entry_lines next rest) ∙ ap (λ t. text ++ t) (sym here) ∙ before
  where
    rest : List Entry
    rest = drop (i + 1) entries

    here : entry_lines state (drop i entries) ≡ line ++ entry_lines next rest
    here = ap (entry_lines state) (drop_more entries i entry low) ∙ ap (λ (e : Entry). entry_lines state (e ∷ rest)) (sym is)
        ∙ ap (λ (s : State). entry_line entry s ++ entry_lines s rest) (sym acted) ∙ ap (λ t. t ++ entry_lines next rest) (sym line_is)

-- all entries are told
pub told_all : (key : List ℕ) (start state : State) (entries : List Entry) (i : ℕ) (text : List ℕ) → text ++ entry_lines state (drop i entries) ≡ head_line key (length entries) ++ entry_lines start entries
    → length entries ≤ i → 0 < length entries → text ≡ history_from key start entries
told_all key start state [] i text so_far end some = absurd (omega arith)
told_all key start state (first_ ∷ later) i text so_far end some =
    sym (append-nil text) ∙ ap (λ es. text ++ entry_lines state es) (sym (drop_all i (first_ ∷ later) end)) ∙ so_far
