-- The history of a key, as the record tells it: which proposal changed which, and which stand. The marks are read
-- newest first.
use Rattle.std.specs.Prelude.{ℕ, Bool, true, false, not, ◌&&◌, ◌||◌, ◌==◌, nat_eq, if◌then◌else◌, List, [], ◌∷◌, ◌++◌}
use Rattle.std.specs.Cmp.Lexicographic.{pointwise}
use Rattle.std.specs.Ordering.{is_lt, is_eq}
use Rattle.cas_ballot.specs.declared.ballot.Ballot.{Ballot}
use Rattle.cas_ballot.specs.Ballot.{ballot_cmp, zero_ballot, greater_of}
use Rattle.cas_change.specs.declared.program.Clause.{Clause}
use Rattle.cas_change.specs.declared.program.Guard.TheVariants.{Always}
use Rattle.cas_change.specs.declared.program.Act.TheVariants.{Keep}
use Rattle.cas_record.specs.declared.entry.Entry.{Entry}
use Rattle.cas_record.specs.declared.mark.Mark.{Mark}
use Rattle.cas_record.specs.declared.mark.Mark.TheVariants.{Begun, Proposed, Acked, Floor}
use Rattle.cas_record.specs.declared.mark.Proposal.{Proposal}

-- whether two keys, or two ballots, are one
abbrev pub is_key : List ℕ → List ℕ → Bool
is_key = pointwise nat_eq

abbrev pub is_ballot : Ballot → Ballot → Bool
is_ballot a b = is_eq (ballot_cmp a b)

-- whether the proposal is the key's at the ballot; zero is the ballot of none
abbrev pub is_proposal : List ℕ → Ballot → Proposal → Bool
is_proposal key ballot p = is_key p.key key && (is_ballot p.ballot ballot && not (is_ballot ballot zero_ballot))

-- whether the key has a proposal at the ballot
abbrev pub has_proposal : List ℕ → Ballot → List Mark → Bool
has_proposal key ballot [] = false
has_proposal key ballot (Proposed p ∷ older) = is_proposal key ballot p || has_proposal key ballot older
has_proposal key ballot (mark ∷ older) = has_proposal key ballot older

-- the greatest floor of the key below the ballot, or zero
abbrev pub floor_below : List ℕ → Ballot → List Mark → Ballot
floor_below key ballot [] = zero_ballot
floor_below key ballot (Floor k floor state ∷ older) =
    if is_key k key && is_lt (ballot_cmp floor ballot) then greater_of floor (floor_below key ballot older) else floor_below key ballot older
floor_below key ballot (mark ∷ older) = floor_below key ballot older

-- the ballot whose history a proposal goes on from: what it read, or a later floor below it
abbrev pub link_of : List Mark → Proposal → Ballot
link_of older p = greater_of p.read (floor_below p.key p.ballot older)

-- the program that changes nothing
abbrev pub keep_always : List Clause
keep_always = record { guard = Always; act = Keep } ∷ []

-- whether any call was begun
abbrev pub has_calls : List Mark → Bool
has_calls [] = false
has_calls (Begun caller call key program ∷ older) = true
has_calls (mark ∷ older) = has_calls older

-- whether the mark is a floor of the key at the ballot with which its history opens: it was made before any call began
abbrev pub opens_at : List ℕ → Ballot → Mark → List Mark → Bool
opens_at key ballot (Floor k floor state) older = is_key k key && (is_ballot floor ballot && not (has_calls older))
opens_at key ballot other older = false

-- whether the ballot is that of an opening floor of the key
abbrev pub has_opening : List ℕ → Ballot → List Mark → Bool
has_opening key ballot [] = false
has_opening key ballot (mark ∷ older) = opens_at key ballot mark older || has_opening key ballot older

-- whether these are the numbers of the call
abbrev pub is_call : ℕ → ℕ → ℕ → ℕ → Bool
is_call caller call c n = (c == caller) && (n == call)

-- whether the call was begun
abbrev pub has_begun : ℕ → ℕ → List Mark → Bool
has_begun caller call [] = false
has_begun caller call (Begun c n key program ∷ older) = is_call caller call c n || has_begun caller call older
has_begun caller call (mark ∷ older) = has_begun caller call older

-- the program of a call, by its first Begun mark; one that was never begun changes nothing
abbrev pub program_of : ℕ → ℕ → List Mark → List Clause
program_of caller call [] = keep_always
program_of caller call (Begun c n key program ∷ older) =
    if is_call caller call c n && not (has_begun caller call older) then program else program_of caller call older
program_of caller call (mark ∷ older) = program_of caller call older

-- the entry that a proposal makes in the history of its key
abbrev pub entry_of : List Mark → Proposal → Entry
entry_of older p = record { caller = p.caller; call = p.call; program = program_of p.caller p.call older }

-- the history up to a ballot: that of an opening floor is empty; by any other's first proposal it is the history up to
-- the proposal's link, and then its entry
abbrev pub chain_of : List ℕ → Ballot → List Mark → List Entry
chain_of key ballot [] = []
chain_of key ballot (Proposed p ∷ older) =
    if is_proposal key ballot p && not (has_proposal key ballot older || has_opening key ballot older)
    then chain_of key (link_of older p) older ++ entry_of older p ∷ []
    else chain_of key ballot older
chain_of key ballot (Floor k floor state ∷ older) = if opens_at key ballot (Floor k floor state) older then [] else chain_of key ballot older
chain_of key ballot (mark ∷ older) = chain_of key ballot older

-- the greatest ballot of the key that was acknowledged or made a floor, or zero
abbrev pub top_of : List ℕ → List Mark → Ballot
top_of key [] = zero_ballot
top_of key (Acked a ∷ older) = if is_key a.key key then greater_of a.ballot (top_of key older) else top_of key older
top_of key (Floor k floor state ∷ older) = if is_key k key then greater_of floor (top_of key older) else top_of key older
top_of key (mark ∷ older) = top_of key older

-- the history that stands
abbrev pub settled_of : List ℕ → List Mark → List Entry
settled_of key marks = chain_of key (top_of key marks) marks
