-- The settled histories of a record as text. The marks are read newest first.
use Rattle.std.specs.Prelude.{◌≡◌, ◌≢◌, ◌↔◌, ℕ, List, [], ◌∷◌, ◌++◌, length, codes, decimal, Contains}
use Rattle.std.specs.List.{flat_map}
use Rattle.std.specs.List.Sorted.{IsStrictlySortedBy}
use Rattle.std.specs.Cmp.Lexicographic.{slice_cmp}
use Rattle.std.specs.Ordering.{nat_cmp}
use Rattle.cas_change.specs.declared.state.State.{State}
use Rattle.cas_change_text.specs.Printing.{program_text, state_text}
use Rattle.cas_record.specs.Histories.Chain.{settled_of}
use Rattle.cas_record.specs.Histories.Replay.{replay_from, opening_state}
use Rattle.cas_record.specs.declared.entry.Entry.{Entry}
use Rattle.cas_record.specs.declared.mark.Mark.{Mark}

-- an entry: whose call it is, its program, and the state that this left
abbrev pub entry_line : Entry → State → List ℕ
entry_line entry state = decimal entry.caller ++ codes "." ++ decimal entry.call ++ codes " " ++ program_text entry.program ++ codes " -> " ++ state_text state ++ 10 ∷ []

-- entries one after another, of which the first acts on this state
abbrev pub entry_lines : State → List Entry → List ℕ
entry_lines state [] = []
entry_lines state (entry ∷ later) = entry_line entry (replay_from state (entry ∷ [])) ++ entry_lines (replay_from state (entry ∷ [])) later

-- of which key the history is, and how many entries it has
abbrev pub head_line : List ℕ → ℕ → List ℕ
head_line key count = codes "history " ++ key ++ codes " " ++ decimal count ++ 10 ∷ []

-- the history of a key whose first entry acts on this state; of one without an entry nothing is told
abbrev pub history_from : List ℕ → State → List Entry → List ℕ
history_from key start [] = []
history_from key start (first ∷ later) = head_line key (length (first ∷ later)) ++ entry_lines start (first ∷ later)

-- the settled history of a key
abbrev pub history_text : List Mark → List ℕ → List ℕ
history_text marks key = history_from key (opening_state key marks) (settled_of key marks)

-- all keys whose settled history has an entry, each once, in the order of their bytes
pub record AreSettledKeys (marks : List Mark) (keys : List (List ℕ)) : Type 0 where
  pub rising : IsStrictlySortedBy (slice_cmp nat_cmp) keys
  pub settled : (key : List ℕ) → Contains keys key ↔ (settled_of key marks ≢ [])

-- the settled history of each key that has an entry, keys in byte order
pub record AreHistories (marks : List Mark) (text : List ℕ) : Type 0 where
  pub keys : List (List ℕ)
  pub are_keys : AreSettledKeys marks keys
  pub is : text ≡ flat_map (history_text marks) keys
