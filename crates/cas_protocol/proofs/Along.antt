-- What is so of each of some happenings, and what stays as the log goes on with them.
use Rattle.std.proofs.Common.{ℕ, Bool, true, false, List, [], ◌∷◌, ◌++◌}
use Rattle.std.specs.Prelude.{⊤, cond, is_some, unwrap_or}
use Rattle.cas_ballot.specs.declared.ballot.Ballot.{Ballot}
use Rattle.cas_ballot.specs.Ballot.{zero_ballot}
use Rattle.cas_slot.specs.declared.ages.Ages.{Ages}
use Rattle.cas_slot.specs.declared.message.Ask.{Ask}
use Rattle.cas_slot.specs.declared.message.Ask.TheVariants as ask
use Rattle.cas_slot.specs.declared.message.Tell.{Tell}
use Rattle.cas_slot.specs.declared.message.Tell.TheVariants as tell
use Rattle.cas_slot.specs.Contents.{Contents, kept_at}
use Rattle.cas_slot.specs.Rules.{is_accepted_at}
use Rattle.cas_slot.specs.Table.{accepted_at}
use Rattle.cas_record.specs.declared.mark.Mark.TheVariants.{Voted}
use Rattle.cas_record.specs.Logs.Happening.{Happening, Marked, Promised, Took, Dropped, Raised}
use Rattle.cas_record.specs.Logs.Lawful.{Cluster, Lawful}
use Rattle.cas_record.specs.Logs.Orderly.{Orderly}
use Rattle.cas_protocol.specs.Acceptors.{events_of, votes_of}

abbrev pub EachOf : (Happening → Type 0) → List Happening → Type 0
EachOf Q [] = ⊤
EachOf Q (h ∷ front) = Q h × EachOf Q front

-- what stays with each happening stays with all of them
pub along : (cluster : Cluster) (Q : Happening → Type 0) (P : List Happening → Type 0) → ((h : Happening) (log : List Happening) → Lawful cluster (h ∷ log) → Orderly cluster (h ∷ log) → Q h → P log → P (h ∷ log))
    → (front log : List Happening) → EachOf Q front → Lawful cluster (front ++ log) → Orderly cluster (front ++ log) → P log → P (front ++ log)
along cluster Q P step [] log each lawful orderly was = was
along cluster Q P step (h ∷ front) log each lawful orderly was = step h (front ++ log) lawful orderly each.0 (along cluster Q P step front log each.1 lawful.0 orderly.0 was)

pub lawful_front : (cluster : Cluster) (front log : List Happening) → Lawful cluster (front ++ log) → Lawful cluster log
lawful_front cluster [] log lawful = lawful
lawful_front cluster (h ∷ front) log lawful = lawful_front cluster front log lawful.0

pub orderly_front : (cluster : Cluster) (front log : List Happening) → Orderly cluster (front ++ log) → Orderly cluster log
orderly_front cluster [] log orderly = orderly
orderly_front cluster (h ∷ front) log orderly = orderly_front cluster front log orderly.0

-- what is so of all events of an acceptor
pub record IsOfDeeds (Q : Happening → Type 0) (to : ℕ) : Type 0 where
  pub promised : (key : List ℕ) (ballot told : Ballot) → Q (Promised to key ballot told)
  pub took : (key : List ℕ) (ballot ride : Ballot) → Q (Took to key ballot ride)
  pub dropped : (key : List ℕ) (tomb : Ballot) → Q (Dropped to key tomb)
  pub raised : (least : Ages) → Q (Raised to least)

pub events_each : (Q : Happening → Type 0) (to : ℕ) (old : Contents) (question : Ask) (answer : Tell) → IsOfDeeds Q to → EachOf Q (events_of to old question answer)
events_each Q to old (ask.Prepare key ballot) (tell.Promised accepted) of = (of.promised key ballot _, tt)
events_each Q to old (ask.Accept key ballot era ride state) tell.Accepted of = by_test (is_accepted_at (accepted_at old key) ballot)
  where
    by_test : (b : Bool) → EachOf Q (cond b [] (Took to key ballot (unwrap_or ride zero_ballot) ∷ []))
    by_test true = tt
    by_test false = (of.took key ballot (unwrap_or ride zero_ballot), tt)
events_each Q to old (ask.Ages tag least) tell.AgesSet of = (of.raised least, tt)
events_each Q to old (ask.Remove key tomb) tell.Removed of = by_test (is_some (kept_at old key))
  where
    by_test : (b : Bool) → EachOf Q (cond b (Dropped to key tomb ∷ []) [])
    by_test true = (of.dropped key tomb, tt)
    by_test false = tt
events_each Q to old question answer of = tt

pub votes_each : (Q : Happening → Type 0) (to : ℕ) (question : Ask) (answer : Tell) → ((key : List ℕ) (ballot : Ballot) → Q (Marked (Voted to key ballot))) → EachOf Q (votes_of to question answer)
votes_each Q to (ask.Accept key ballot era ride state) tell.Accepted of = (of key ballot, tt)
votes_each Q to question answer of = tt
