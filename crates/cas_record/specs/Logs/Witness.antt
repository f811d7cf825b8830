-- A log in which all happens that the rules speak of: a change, one whose promise rode along, a collection whose slots
-- are removed, a change that begins the key anew, a call that came to nothing, two changes of era with the rescan
-- between them, and a change in the last era. It shows that the laws speak of something.
use Rattle.std.specs.Prelude.{◌≡◌, ℕ, suc, zero, Bool, true, false, nat_lt, if◌then◌else◌, List, [], ◌∷◌, ◌++◌, length, map, reverse, pos, Option, None, Some, unwrap_or}
use Rattle.std.specs.List.{range_with_len}
use Rattle.cas_ballot.specs.declared.ballot.Ballot.{Ballot}
use Rattle.cas_ballot.specs.Ballot.{zero_ballot}
use Rattle.cas_change.specs.declared.program.Guard.TheVariants.{Always}
use Rattle.cas_change.specs.declared.program.Act.{Act}
use Rattle.cas_change.specs.declared.program.Act.TheVariants.{Keep, Add, Clear}
use Rattle.cas_change.specs.declared.state.State.{State}
use Rattle.cas_change.specs.declared.state.State.TheVariants.{Empty, Held}
use Rattle.cas_change.specs.declared.state.Body.TheVariants.{Number}
use Rattle.cas_change.specs.declared.outcome.Took.TheVariants.{Clause as ByClause}
use Rattle.cas_quorum.specs.Quorum.{has_quorum}
use Rattle.cas_slot.specs.declared.ages.Ages.{Ages}
use Rattle.cas_slot.specs.declared.message.Ask.{Ask}
use Rattle.cas_slot.specs.declared.message.Ask.TheVariants as ask
use Rattle.cas_slot.specs.declared.message.Request.{Request}
use Rattle.cas_slot.specs.declared.message.Tell.{Tell}
use Rattle.cas_slot.specs.declared.message.Tell.TheVariants as tell
use Rattle.cas_slot.specs.declared.slot.Accepted.{Accepted}
use Rattle.cas_slot.specs.Message.{phase_of, tag_of}
use Rattle.cas_slot.specs.Slot.{accepted_ballot}
use Rattle.cas_record.specs.declared.answer.Answer.TheVariants as answer
use Rattle.cas_record.specs.declared.mark.Mark.TheVariants.{Begun, Proposed, Voted, Acked, Floor, EraEntered, Ended, Harmed}
use Rattle.cas_record.specs.Histories.Chain.{settled_of}
use Rattle.cas_record.specs.Histories.Replay.{replay}
use Rattle.cas_record.specs.Logs.Happening.{Happening, Marked, Asked, Promised, Took, Dropped, Entered, Drew, Raised, Replied, marks_of}
use Rattle.cas_record.specs.Logs.Lawful.{Cluster, ClusterMeets, Lawful}
use Rattle.cas_record.specs.Logs.Orderly.{Orderly}

-- ---- the cluster
abbrev pub three : List ℕ
three = 1 ∷ 2 ∷ 3 ∷ []

abbrev pub four : List ℕ
four = 1 ∷ 2 ∷ 3 ∷ 4 ∷ []

-- acceptor 4 joins acceptors 1 to 3: first as one that accepts, and then as one that promises too
abbrev pub members_in : ℕ → List ℕ
members_in zero = three
members_in (suc era) = four

abbrev pub prepares_of : ℕ → List ℕ → Bool
prepares_of zero = has_quorum 2 three
prepares_of (suc zero) = has_quorum 2 three
prepares_of (suc (suc era)) = has_quorum 3 four

abbrev pub accepts_of : ℕ → List ℕ → Bool
accepts_of zero = has_quorum 2 three
accepts_of (suc era) = has_quorum 3 four

abbrev pub small_cluster : Cluster
small_cluster = record { last_proposer = 2; members = members_in; prepares = prepares_of; accepts = accepts_of }

-- ---- the log, the oldest first
abbrev pub key_a : List ℕ
key_a = 97 ∷ []

abbrev pub at : ℕ → ℕ → Ballot
at counter proposer = record { counter = counter; proposer = proposer }

abbrev pub begins : ℕ → ℕ → Act → Happening
begins caller call act = Marked (Begun caller call key_a (record { guard = Always; act = act } ∷ []))

-- before the collection the proposers have age 0, and from then on age 1
abbrev pub age_of : Ballot → ℕ
age_of ballot = if nat_lt 3 ballot.counter then 1 else 0

abbrev pub ask_of : ℕ → ℕ → Ballot → Ask → Request
ask_of acceptor age ballot question = record { to = acceptor; from = ballot.proposer; age = age; ask = question }

abbrev pub answers : Request → Tell → Happening
answers request told = Replied request (record { from = request.to; to = request.from; phase = phase_of request.ask; tag = tag_of request.ask; tell = told })

-- each of these is asked to promise the ballot, does, and tells what it had accepted
abbrev pub promises : List ℕ → Ballot → Option Accepted → List Happening
promises [] ballot accepted = []
promises (acceptor ∷ by) ballot accepted =
    let request = ask_of acceptor (age_of ballot) ballot (ask.Prepare key_a ballot) in
    Asked request ∷ Promised acceptor key_a ballot (accepted_ballot accepted) ∷ answers request (tell.Promised accepted) ∷ promises by ballot accepted

-- each of these is asked to accept the state, does, and says so
abbrev pub takes : List ℕ → Ballot → ℕ → Option Ballot → State → List Happening
takes [] ballot era ride state = []
takes (acceptor ∷ by) ballot era ride state =
    let request = ask_of acceptor (age_of ballot) ballot (ask.Accept key_a ballot era ride state) in
    Asked request ∷ Took acceptor key_a ballot (unwrap_or ride zero_ballot) ∷ Marked (Voted acceptor key_a ballot) ∷ answers request tell.Accepted ∷ takes by ballot era ride state

-- a call is proposed and taken, and answered Done with the state that it leaves
abbrev pub round : ℕ → ℕ → ℕ → Ballot → Ballot → Option Ballot → List ℕ → List ℕ → State → List Happening
round caller call era ballot read ride prepared by state =
    Marked (Proposed (record { caller = caller; call = call; key = key_a; ballot = ballot; read = read; era = era; prepared_by = prepared }))
    ∷ (takes by ballot era ride state ++ Marked (Acked (record { key = key_a; ballot = ballot; era = era; by = by }))
    ∷ Marked (Ended caller call 1 (answer.Done state (ByClause 0) ballot)) ∷ [])

-- the collection: each of these asks every proposer for age 1 from now on
abbrev pub ones : Ages
ones = record { 0 = map (λ proposer. 1) (range_with_len 0 17) }

abbrev pub raises : List ℕ → Ballot → List Happening
raises [] tomb = []
raises (acceptor ∷ by) tomb =
    let request = ask_of acceptor 1 tomb (ask.Ages tomb ones) in
    Asked request ∷ Raised acceptor ones ∷ answers request tell.AgesSet ∷ raises by tomb

-- each of these is asked to remove the tombstone, and does
abbrev pub removes : List ℕ → Ballot → List Happening
removes [] tomb = []
removes (acceptor ∷ by) tomb =
    let request = ask_of acceptor 1 tomb (ask.Remove key_a tomb) in
    Asked request ∷ Dropped acceptor key_a tomb ∷ answers request tell.Removed ∷ removes by tomb

-- the acceptor is asked for its keys, and tells these, and that there are no more
abbrev pub lists : ℕ → Ballot → List (List ℕ) → List Happening
lists acceptor tag keys =
    let request = ask_of acceptor 1 tag (ask.List tag None) in
    Asked request ∷ answers request (tell.Listed None keys false) ∷ []

-- the acceptor is asked for what it keeps for the key
abbrev pub probes : ℕ → Ballot → Option Accepted → List Happening
probes acceptor tag accepted =
    let request = ask_of acceptor 1 tag (ask.Probe tag key_a) in
    Asked request ∷ answers request (tell.Probed zero_ballot accepted) ∷ []

abbrev pub holds : Ballot → ℕ → State → Option Accepted
holds ballot era state = Some (record { ballot = ballot; era = era; state = state })

abbrev pub enters : ℕ → List ℕ → List Happening
enters era [] = []
enters era (proposer ∷ rest) = Entered proposer era ∷ Marked (EraEntered proposer era) ∷ enters era rest

abbrev pub number : ℕ → ℕ → State
number version value = Held version (Number (pos value))

abbrev pub happened : List Happening
happened =
    begins 1 1 (Add (pos 5)) ∷ Drew (at 1 1) key_a 0 ∷ promises (1 ∷ 2 ∷ []) (at 1 1) None
    ++ Drew (at 2 1) key_a 0 ∷ round 1 1 0 (at 1 1) zero_ballot (Some (at 2 1)) (1 ∷ 2 ∷ []) (1 ∷ 2 ∷ []) (number 0 5)
    ++ begins 1 2 Clear ∷ round 1 2 0 (at 2 1) (at 1 1) None (1 ∷ 2 ∷ []) (1 ∷ 2 ∷ []) Empty
    ++ begins 0 1 Keep ∷ Drew (at 3 0) key_a 0 ∷ promises (1 ∷ 2 ∷ []) (at 3 0) (holds (at 2 1) 0 Empty) ++ promises (3 ∷ []) (at 3 0) None
    ++ round 0 1 0 (at 3 0) (at 2 1) None three three Empty
    ++ raises three (at 3 0) ++ Marked (Floor key_a (at 3 0) Empty) ∷ removes (1 ∷ 2 ∷ []) (at 3 0)
    ++ begins 2 1 (Add (pos 9)) ∷ Drew (at 4 2) key_a 0 ∷ promises (1 ∷ 2 ∷ []) (at 4 2) None
    ++ round 2 1 0 (at 4 2) zero_ballot None (1 ∷ 2 ∷ []) (1 ∷ 2 ∷ []) (number 0 9)
    ++ begins 2 2 Keep ∷ Marked (Harmed 2 2 false) ∷ Marked (Harmed 2 2 true) ∷ Marked (Ended 2 2 1 (answer.Short 0 2))
    ∷ enters 1 (0 ∷ 1 ∷ 2 ∷ [])
    ++ Drew (at 5 0) [] 1 ∷ lists 1 (at 5 0) (key_a ∷ []) ++ lists 2 (at 5 0) (key_a ∷ []) ++ lists 4 (at 5 0) []
    ++ begins 0 2 Keep ∷ Drew (at 6 0) key_a 1 ∷ promises (1 ∷ 2 ∷ []) (at 6 0) (holds (at 4 2) 0 (number 0 9))
    ++ round 0 2 1 (at 6 0) (at 4 2) None (1 ∷ 2 ∷ []) (1 ∷ 2 ∷ 4 ∷ []) (number 0 9)
    ++ Drew (at 7 0) [] 1 ∷ probes 4 (at 7 0) (holds (at 6 0) 1 (number 0 9))
    ++ enters 2 (0 ∷ 1 ∷ 2 ∷ [])
    ++ begins 1 3 (Add (pos 1)) ∷ Drew (at 8 1) key_a 2 ∷ promises (1 ∷ 2 ∷ 4 ∷ []) (at 8 1) (holds (at 6 0) 1 (number 0 9))
    ++ round 1 3 2 (at 8 1) (at 6 0) None (1 ∷ 2 ∷ 4 ∷ []) (1 ∷ 2 ∷ 4 ∷ []) (number 1 10)

-- the quorums of the cluster meet, the log is lawful, and six changes stand and leave the number 10
pub record WitnessStands : Type 0 where
  pub meet : ClusterMeets small_cluster
  pub lawful : Lawful small_cluster (reverse happened)
  pub settled : length (settled_of key_a (marks_of (reverse happened))) ≡ 6
  pub state : replay (settled_of key_a (marks_of (reverse happened))) ≡ Held 1 (Number (pos 10))

-- each happening of the log has its reason
abbrev pub WitnessIsOrderly : Type 0
WitnessIsOrderly = Orderly small_cluster (reverse happened)
