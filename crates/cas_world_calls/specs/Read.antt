-- What came of an exchange that reads a key.
use Rattle.std.specs.Prelude.{◌≡◌, ◌&&◌, ◌==◌, ◌++◌, ◌+◌, ◌≤◌, ⊤, ℕ, Bool, List, [], ◌∷◌, length, reverse, Option, None, Some, false, Result, Ok, if◌then◌else◌}
use Rattle.cas_ballot.specs.declared.ballot.Ballot.{Ballot}
use Rattle.cas_ballot.specs.Ballot.{ballot_cmp}
use Rattle.std.specs.Ordering.{is_lt}
use Rattle.cas_quorum.specs.declared.era.Era.{Era}
use Rattle.cas_quorum.specs.Era.{holds_prep, holds_acc}
use Rattle.cas_slot.specs.declared.message.Tell.{Tell}
use Rattle.cas_slot.specs.declared.message.Tell.TheVariants as tell
use Rattle.cas_slot.specs.declared.slot.Accepted.{Accepted}
use Rattle.cas_record.specs.Agreement.{IsAgreementOf}
use Rattle.cas_record.specs.Book.{Book}
use Rattle.cas_record.specs.declared.agreement.Agreement.{Agreement}
use Rattle.cas_record.specs.declared.mark.Mark.{Mark}
use Rattle.cas_record.specs.declared.mark.Mark.TheVariants.{Voted}
use Rattle.cas_record.specs.declared.operator.OpAnswer.{OpAnswer}
use Rattle.cas_record.specs.declared.operator.OpAnswer.TheVariants as op
use Rattle.cas_record.specs.declared.operator.Probe.{Probe as Answered}
use Rattle.cas_record.specs.declared.operator.Probes.{Probes}
use Rattle.cas_model.specs.Council as cluster
use Rattle.cas_model.specs.Council.{ExchangeView}
use Rattle.cas_model.specs.Exchanges.Read.{holders_of, MarksRead}
use Rattle.cas_world_calls.specs.Council.{IsFoundByProbe, GathersAs, over_with}
use Rattle.cas_world_calls.specs.declared.council.Gathered.{Gathered}
use Rattle.cas_world_calls.specs.declared.council.Gathered.TheVariants as gathered
use Rattle.cas_world_calls.specs.declared.read.Reading.{Reading}

-- ---- what they agree on
-- whether its ballot is above this one, a prepare quorum and an accept quorum of the era told it, and it was accepted in that era
abbrev pub agrees : Era → List Answered → Ballot → Accepted → Bool
agrees era found above accepted = is_lt (ballot_cmp above accepted.ballot)
    && ((accepted.era == era.number) && (holds_prep era (holders_of accepted.ballot found) && holds_acc era (holders_of accepted.ballot found)))

-- the state that is told so, if they agree on it
abbrev pub agreed_by : Era → List Answered → Ballot → Option Tell → Option Accepted
agreed_by era found above (Some (tell.Probed promise (Some accepted))) = if agrees era found above accepted then Some accepted else None
agreed_by era found above other = None

abbrev pub or_next : Option Accepted → Option Accepted → Option Accepted
or_next None next = next
or_next (Some accepted) next = Some accepted

-- the first such state that these told
abbrev pub first_agreed : Era → List Answered → Ballot → List Answered → Option Accepted
first_agreed era found above [] = None
first_agreed era found above (one ∷ later) = or_next (agreed_by era found above one.told) (first_agreed era found above later)

-- ---- what is marked
abbrev pub vote_of : List ℕ → Ballot → ℕ → Mark
vote_of key ballot acceptor = Voted acceptor key ballot

-- its question is of one key
abbrev pub IsProbeRead : cluster.Question → Type 0
IsProbeRead (cluster.Probe key) = ⊤
IsProbeRead other = ⊥

-- what the open call is told of the key, and the marks of what they agree on
pub record IsReadFound (era : Era) (exchange : ExchangeView) (older : List Mark) (reading : Reading) : Type 0 where
  pub key : List ℕ
  pub asks : exchange.question ≡ cluster.Probe key
  pub found : IsFoundByProbe exchange key reading.told
  pub marks : MarksRead era key exchange.told older reading.marks.items

-- ---- what came of an exchange
-- there is room for all marks that it may make
abbrev pub MarksFit : ExchangeView → Book → Type 0
MarksFit exchange book = (key : List ℕ) (era : Era) (marks : List Mark) → exchange.question ≡ cluster.Probe key → exchange.reads ≡ Some era → MarksRead era key exchange.told (reverse book.marks) marks → length marks ≤ book.room

-- what is read is marked, and anything else is not
pub data GathersIn (era : Era) (exchange : ExchangeView) (old : cluster.Council) (before after : Book) (result : Result Gathered OpAnswer) (new : cluster.Council) : Type 0 where
  plain : GathersAs era exchange old result new → after ≡ before → GathersIn era exchange old before after result new
  read : (key : List ℕ) (read : Era) (agreement : Agreement) (found kept : Probes) (marks : List Mark) → exchange.crashed ≡ false → exchange.question ≡ cluster.Probe key → exchange.reads ≡ Some read → found.probes.items ≡ exchange.told → kept.probes.items ≡ exchange.told
      → MarksRead read key exchange.told (reverse before.marks) marks → after.marks ≡ before.marks ++ marks → after.room + length marks ≡ before.room
      → IsAgreementOf read found.probes.items agreement → result ≡ Ok (gathered.Read agreement found) → new ≡ over_with old (op.Probed key kept) → GathersIn era exchange old before after result new
