-- What the tables of an audit are to the marks so far. The marks are read newest first.
use Rattle.std.specs.Prelude.{◌≡◌, ℕ, ◌<◌, Bool, false, ◌&&◌, ◌==◌, nat_eq, List, [], ◌∷◌, ◌++◌, length, Option, Some, None, unwrap_or, slice_get}
use Rattle.std.specs.Option.{option_and_then}
use Rattle.std.specs.BTreeSet.{BTreeSet}
use Rattle.indexmap.specs.IndexMap.{get, spare}
use Rattle.cas_ballot.specs.declared.ballot.Ballot.{Ballot}
use Rattle.cas_ballot.specs.Ballot.{zero_ballot}
use Rattle.cas_change.specs.declared.program.Clause.{Clause}
use Rattle.cas_record.specs.declared.mark.Mark.{Mark}
use Rattle.cas_record.specs.declared.entry.Entry.{Entry}
use Rattle.cas_record.specs.declared.mark.Proposal.{Proposal}
use Rattle.cas_record.specs.declared.mark.Mark.TheVariants.{Begun, Proposed}
use Rattle.cas_record.specs.Places.{At}
use Rattle.cas_record.specs.Histories.Chain.{is_key, has_calls, link_of, chain_of, entry_of, settled_of}
use Rattle.cas_record.specs.Legal.{calls_of, IsLegal}
use Rattle.cas_audit.specs.declared.told.Call.{Call}
use Rattle.cas_audit.specs.declared.told.Row.{Row}
use Rattle.cas_audit.specs.declared.told.Spot.{Spot}
use Rattle.cas_audit.specs.declared.tables.Tables.{Tables}
use Rattle.cas_audit.specs.Told.{call_of, row_of, opening_of, floors_of, node_of, spot_of, EndsFront}

-- whether two calls, two ballots of keys, or two places in the histories of keys are one
abbrev pub same_call : (ℕ × ℕ) → (ℕ × ℕ) → Bool
same_call a b = (a.0 == b.0) && (a.1 == b.1)

abbrev pub same_spot : (List ℕ × Ballot) → (List ℕ × Ballot) → Bool
same_spot a b = is_key a.0 b.0 && ((a.1.counter == b.1.counter) && (a.1.proposer == b.1.proposer))

abbrev pub same_place : (List ℕ × ℕ) → (List ℕ × ℕ) → Bool
same_place a b = is_key a.0 b.0 && (a.1 == b.1)

-- what no mark tells of
abbrev pub no_call : Call
no_call = record { begun = None; seen = 0; proposed = None; ended = false; harms = 0 }

abbrev pub no_row : Row
no_row = record { top = zero_ballot; settled = 0; floor = None }

abbrev pub no_spot : Spot
no_spot = record { voters = []; acked = false }

-- the ballots of a set, in their order, and none where there is no set
abbrev pub ballots_in : Option (BTreeSet Ballot) → List Ballot
ballots_in None = []
ballots_in (Some set) = set.keys

-- the ballot that was found ends the front of the entries with so many before its last
abbrev pub IsFoundIn : List ℕ → List Mark → List Entry → ℕ → Option Ballot → Type 0
IsFoundIn key marks entries place None = ⊥
IsFoundIn key marks entries place (Some ballot) = EndsFront key ballot marks entries place

abbrev pub IsFoundAt : List ℕ → List Mark → ℕ → Option Ballot → Type 0
IsFoundAt key marks place found = IsFoundIn key marks (settled_of key marks) place found

-- the tables are those of the marks
pub record AreTables (tables : Tables) (marks : List Mark) : Type 0 where
  pub counts : (caller : ℕ) → unwrap_or (get nat_eq tables.counts caller) 0 ≡ calls_of caller marks
  pub calls : (caller call : ℕ) → unwrap_or (get same_call tables.calls (caller, call)) no_call ≡ call_of caller call marks
  pub rows : (key : List ℕ) → unwrap_or (get is_key tables.rows key) no_row ≡ row_of key marks
  pub openings : (key : List ℕ) → get is_key tables.openings key ≡ opening_of key marks
  pub floors : (key : List ℕ) → ballots_in (get is_key tables.floors key) ≡ floors_of key marks
  pub nodes : (key : List ℕ) (ballot : Ballot) → get same_spot tables.nodes (key, ballot) ≡ node_of key ballot marks
  pub spots : (key : List ℕ) (ballot : Ballot) → unwrap_or (get same_spot tables.spots (key, ballot)) no_spot ≡ spot_of key ballot marks
  pub settled : (key : List ℕ) (place : ℕ) → place < length (settled_of key marks) → IsFoundAt key marks place (get same_place tables.settled (key, place))
  pub calls_began : tables.has_calls ≡ has_calls marks

-- one further entry finds room in each table
pub record HasRoomInTables (tables : Tables) : Type 0 where
  pub counts : 0 < spare tables.counts
  pub calls : 0 < spare tables.calls
  pub rows : 0 < spare tables.rows
  pub openings : 0 < spare tables.openings
  pub floors : 0 < spare tables.floors
  pub nodes : 0 < spare tables.nodes
  pub spots : 0 < spare tables.spots

-- ---- what is read at a place, of marks in the order in which they were made
-- the key of a mark that begins a call
abbrev pub key_in : Option Mark → Option (List ℕ)
key_in (Some (Begun caller call key program)) = Some key
key_in other = None

abbrev pub key_at : List Mark → Option ℕ → Option (List ℕ)
key_at marks begun = key_in (option_and_then (slice_get marks) begun)

-- the program of a mark that begins a call
abbrev pub program_in : Option Mark → Option (List Clause)
program_in (Some (Begun caller call key program)) = Some program
program_in other = None

abbrev pub program_at : List Mark → Option ℕ → Option (List Clause)
program_at marks begun = program_in (option_and_then (slice_get marks) begun)

-- ---- the audit of a legal record
pub record IsAudit (tables : Tables) (marks : List Mark) : Type 0 where
  pub are : AreTables tables marks
  pub legal : IsLegal marks

-- ---- where a change stands
-- the change of the call stands at the place in the settled history of its key
pub record ChangeAt (caller call place : ℕ) (marks : List Mark) : Type 0 where
  pub proposal : Proposal
  pub older : List Mark
  pub at : At (Proposed proposal) older marks
  pub same_caller : proposal.caller ≡ caller
  pub same_call : proposal.call ≡ call
  pub long : length (chain_of proposal.key (link_of older proposal) older) ≡ place
  pub after : List Entry
  pub stands : settled_of proposal.key marks ≡ chain_of proposal.key (link_of older proposal) older ++ entry_of older proposal ∷ after

-- no change of the call stands
abbrev pub StandsNowhere : ℕ → ℕ → List Mark → Type 0
StandsNowhere caller call marks = (key : List ℕ) (before : List Entry) (entry : Entry) (after : List Entry) → entry.caller ≡ caller → entry.call ≡ call
    → settled_of key marks ≡ before ++ entry ∷ after → ⊥

abbrev pub IsChangeAt : ℕ → ℕ → List Mark → Option ℕ → Type 0
IsChangeAt caller call marks None = StandsNowhere caller call marks
IsChangeAt caller call marks (Some place) = ChangeAt caller call place marks
