-- What the marks tell of a call, of a key, and of a key's ballot. The marks are read newest first.
use Rattle.std.specs.Prelude.{◌≡◌, ℕ, suc, Bool, false, not, ◌&&◌, ◌||◌, if◌then◌else◌, List, [], ◌∷◌, length, Option, Some, None}
use Rattle.cas_ballot.specs.declared.ballot.Ballot.{Ballot}
use Rattle.std.specs.BTreeSet.{insert_key}
use Rattle.std.specs.Ordering.{is_lt}
use Rattle.cas_ballot.specs.Ballot.{ballot_cmp, greater_of, zero_ballot}
use Rattle.cas_ballot.specs.Members.{with_member}
use Rattle.cas_change.specs.declared.state.State.{State}
use Rattle.cas_change.specs.declared.state.State.TheVariants.{Empty}
use Rattle.cas_change.specs.Outcome.{outcome_of}
use Rattle.cas_record.specs.declared.entry.Entry.{Entry}
use Rattle.cas_record.specs.declared.mark.Mark.{Mark}
use Rattle.cas_record.specs.declared.mark.Mark.TheVariants.{Begun, Proposed, Voted, Acked, Floor, Ended}
use Rattle.cas_record.specs.declared.mark.Proposal.{Proposal}
use Rattle.cas_record.specs.Histories.Chain.{is_key, is_ballot, is_call, has_calls, program_of, link_of, chain_of, top_of, settled_of}
use Rattle.cas_record.specs.Kept.Index.{floor_at}
use Rattle.cas_record.specs.Legal.{harms_of}
use Rattle.cas_record.specs.Places.{IsPrefix}
use Rattle.cas_record.specs.Histories.Replay.{replay_from, opening_state}
use Rattle.cas_audit.specs.declared.told.Call.{Call}
use Rattle.cas_audit.specs.declared.told.Row.{Row}
use Rattle.cas_audit.specs.declared.told.Opening.{Opening}
use Rattle.cas_audit.specs.declared.told.Node.{Node}
use Rattle.cas_audit.specs.declared.told.Spot.{Spot}

-- ---- calls
-- the place of the mark with which the call began: how many marks stand before it
abbrev pub place_of : ℕ → ℕ → List Mark → Option ℕ
place_of caller call [] = None
place_of caller call (Begun c n key program ∷ older) = if is_call caller call c n then Some (length older) else place_of caller call older
place_of caller call (mark ∷ older) = place_of caller call older

-- how many changes of its key were settled when the call began
abbrev pub seen_of : ℕ → ℕ → List Mark → ℕ
seen_of caller call [] = 0
seen_of caller call (Begun c n key program ∷ older) = if is_call caller call c n then length (settled_of key older) else seen_of caller call older
seen_of caller call (mark ∷ older) = seen_of caller call older

-- the ballot at which the call was proposed
abbrev pub ballot_of : ℕ → ℕ → List Mark → Option Ballot
ballot_of caller call [] = None
ballot_of caller call (Proposed p ∷ older) = if is_call caller call p.caller p.call then Some p.ballot else ballot_of caller call older
ballot_of caller call (mark ∷ older) = ballot_of caller call older

-- whether the call was answered
abbrev pub has_ended : ℕ → ℕ → List Mark → Bool
has_ended caller call [] = false
has_ended caller call (Ended c n rounds answer ∷ older) = is_call caller call c n || has_ended caller call older
has_ended caller call (mark ∷ older) = has_ended caller call older

abbrev pub call_of : ℕ → ℕ → List Mark → Call
call_of caller call marks = record {
  begun = place_of caller call marks;
  seen = seen_of caller call marks;
  proposed = ballot_of caller call marks;
  ended = has_ended caller call marks;
  harms = harms_of caller call marks;
}

-- ---- keys
abbrev pub row_of : List ℕ → List Mark → Row
row_of key marks = record { top = top_of key marks; settled = length (settled_of key marks); floor = floor_at key marks }

-- the row once the ballot is acknowledged or made a floor, but for the floor
abbrev pub raised_row : List ℕ → Ballot → List Mark → Row
raised_row key ballot marks =
    let top = greater_of ballot (top_of key marks) in
    record { top = top; settled = length (chain_of key top marks); floor = floor_at key marks }

-- the key's floors, in the order of their ballots
abbrev pub floors_of : List ℕ → List Mark → List Ballot
floors_of key [] = []
floors_of key (Floor k floor state ∷ older) = if is_key k key then insert_key ballot_cmp (floors_of key older) floor else floors_of key older
floors_of key (mark ∷ older) = floors_of key older

-- the greatest of these ballots that is below that one, or zero
abbrev pub most_below : Ballot → List Ballot → Ballot
most_below ballot [] = zero_ballot
most_below ballot (floor ∷ floors) = if is_lt (ballot_cmp floor ballot) then greater_of floor (most_below ballot floors) else most_below ballot floors

-- the key's latest opening floor
abbrev pub opening_of : List ℕ → List Mark → Option Opening
opening_of key [] = None
opening_of key (Floor k floor state ∷ older) = if is_key k key && not (has_calls older) then Some (record { ballot = floor; state = state }) else opening_of key older
opening_of key (mark ∷ older) = opening_of key older

-- ---- ballots
-- whether this is the key's ballot
abbrev pub is_at : List ℕ → Ballot → List ℕ → Ballot → Bool
is_at key ballot k b = is_key k key && is_ballot b ballot

-- the ballot, where the history up to it has an entry
abbrev pub if_some : Ballot → List Entry → Option Ballot
if_some ballot [] = None
if_some ballot (entry ∷ entries) = Some ballot

-- what the marks before a proposal tell of it
abbrev pub node_by : Proposal → List Mark → Node
node_by p older = record {
  era = p.era;
  from = if_some (link_of older p) (chain_of p.key (link_of older p) older);
  length = length (chain_of p.key p.ballot (Proposed p ∷ older));
  outcome = outcome_of (program_of p.caller p.call older) (replay_from (opening_state p.key older) (chain_of p.key (link_of older p) older));
}

-- what they tell of the key's proposal at the ballot
abbrev pub node_of : List ℕ → Ballot → List Mark → Option Node
node_of key ballot [] = None
node_of key ballot (Proposed p ∷ older) = if is_at key ballot p.key p.ballot then Some (node_by p older) else node_of key ballot older
node_of key ballot (mark ∷ older) = node_of key ballot older

-- the acceptors that voted for the key's ballot
abbrev pub voters_of : List ℕ → Ballot → List Mark → List ℕ
voters_of key ballot [] = []
voters_of key ballot (Voted acceptor k b ∷ older) = if is_at key ballot k b then with_member (voters_of key ballot older) acceptor else voters_of key ballot older
voters_of key ballot (mark ∷ older) = voters_of key ballot older

-- whether the key's ballot was acknowledged
abbrev pub has_acked : List ℕ → Ballot → List Mark → Bool
has_acked key ballot [] = false
has_acked key ballot (Acked a ∷ older) = is_at key ballot a.key a.ballot || has_acked key ballot older
has_acked key ballot (mark ∷ older) = has_acked key ballot older

abbrev pub spot_of : List ℕ → Ballot → List Mark → Spot
spot_of key ballot marks = record { voters = voters_of key ballot marks; acked = has_acked key ballot marks }

-- ---- places in settled histories
-- the history up to the ballot is the front of the entries with so many before its last
pub record EndsFront (key : List ℕ) (ballot : Ballot) (marks : List Mark) (entries : List Entry) (place : ℕ) : Type 0 where
  pub begins : IsPrefix (chain_of key ballot marks) entries
  pub long : length (chain_of key ballot marks) ≡ suc place

-- the history up to a ballot that may be there
abbrev pub chain_from : List ℕ → Option Ballot → List Mark → List Entry
chain_from key None marks = []
chain_from key (Some ballot) marks = chain_of key ballot marks

-- the history up to the ballot that was found is the front of the entries with so many
pub record Reaches (key : List ℕ) (found : Option Ballot) (marks : List Mark) (entries : List Entry) (count : ℕ) : Type 0 where
  pub begins : IsPrefix (chain_from key found marks) entries
  pub long : length (chain_from key found marks) ≡ count

-- ---- openings
-- the state with which a history starts
abbrev pub start_of : Option Opening → State
start_of None = Empty
start_of (Some opening) = opening.state

-- whether a history opens at the ballot
abbrev pub opens_with : Ballot → Option Opening → Bool
opens_with ballot None = false
opens_with ballot (Some opening) = is_ballot opening.ballot ballot
