-- What a hold does for a call of the operator, whose marks are caller 0's, and what of caller 0's own part tells of it.
use Rattle.std.specs.Prelude.{◌≡◌, ◌≤◌, ⊤, ℕ, ◌+◌, Bool, true, false, List, ◌++◌, length, map, reverse, take, All, Option, None, Some}
use Rattle.cas_ballot.specs.Members.{has_member, union_of}
use Rattle.cas_quorum.specs.Era.{IsSized, Meet}
use Rattle.cas_quorum.specs.declared.era.Era.{Era}
use Rattle.cas_record.specs.Agreement.{IsAgreementOf}
use Rattle.cas_record.specs.declared.agreement.Agreement.{Agreement}
use Rattle.cas_record.specs.declared.agreement.Agreement.TheVariants as agreed
use Rattle.cas_record.specs.declared.operator.Probe.{Probe as ProbeOf}
use Rattle.cas_ballot.specs.Ballot.{zero_ballot}
use Rattle.cas_ballot.specs.declared.ballot.Ballot.{Ballot}
use Rattle.cas_slot.specs.declared.message.Tell.TheVariants as tell
use Rattle.cas_slot.specs.declared.slot.Accepted.{Accepted}
use Rattle.cas_agreement.specs.Nothing.{HasNoFloorSince, IsSettledEmpty}
use Rattle.cas_model.specs.Exchanges.ReadLaws.{IsReadSo, WasEmptyOnce}
use Rattle.cas_world.specs.declared.exchange.Exchange.{Exchange}
use Rattle.cas_world.specs.declared.exchange.Exchange.TheVariants as this
use Rattle.cas_world_calls.specs.declared.council.Gathered.{Gathered}
use Rattle.cas_world_calls.specs.declared.council.Gathered.TheVariants as gathered
use Rattle.cas_board_steps.specs.declared.orders.Heard.{Heard}
use Rattle.cas_board_steps.specs.declared.orders.Inquiry.{Inquiry}
use Rattle.cas_board_steps.specs.declared.orders.Inquiry.TheVariants as inquiry
use Rattle.cas_board_steps.specs.declared.orders.ProbeOrder.{ProbeOrder}
use Rattle.cas_record.specs.Places.{Stands}
use Rattle.cas_record.specs.declared.answer.Answer.{Answer}
use Rattle.cas_record.specs.declared.answer.Answer.TheVariants as answer
use Rattle.cas_record.specs.declared.mark.Acknowledgment.{Acknowledgment}
use Rattle.cas_record.specs.declared.mark.Mark.{Mark}
use Rattle.cas_record.specs.declared.mark.Mark.TheVariants.{Acked, Harmed}
use Rattle.cas_record.specs.declared.operator.Asked.{Asked}
use Rattle.cas_record.specs.declared.operator.Asked.TheVariants as asked
use Rattle.cas_record.specs.declared.operator.OpAnswer.{OpAnswer}
use Rattle.cas_record.specs.declared.operator.OpAnswer.TheVariants as told
use Rattle.cas_record.specs.declared.operator.Probes.{Probes}
use Rattle.cas_model.specs.Council.{Probe, ExchangeView, OrderView, Council}
use Rattle.cas_model.specs.Exchanges.Step.{told_marks}
use Rattle.cas_model.specs.View.{View, IsAt}
use Rattle.cas_world.specs.Eras.Plans.{rescanned_of}
use Rattle.cas_board_steps.specs.Eras.Counting.{CountsTo, EntersEras, TellsCount}
use Rattle.cas_board_steps.specs.Kept.{Makes}
use Rattle.cas_board_steps.specs.Mine.{mine, losses}
use Rattle.cas_board_steps.specs.Calls.Open.{NothingIsOpen}
use Rattle.cas_board_steps.specs.OwnParts.{asked_of, harms_part, reads_part, council_part, own_part}
use Rattle.cas_model_causes.specs.Exchanges.Answering.{silent_in}
use Rattle.cas_model_causes.specs.Exchanges.Confirmed.{era_marked}
use Rattle.cas_model_causes.specs.Exchanges.Current.{AreCurrentTells}
use Rattle.cas_model_causes.specs.Exchanges.Unaged.{AreToldSo}

-- ---- what is asked of a key
-- what the operator's call asks for, and what the members are asked
abbrev pub asked_for : Inquiry → List ℕ → Asked
asked_for inquiry.Probe key = asked.Probe key
asked_for inquiry.Read key = asked.Read key

abbrev pub exchange_for : Inquiry → List ℕ → Exchange
exchange_for inquiry.Probe key = this.Probe key
exchange_for inquiry.Read key = this.Read key

-- whether it reads the key, as a number
abbrev pub reads_flag : Inquiry → ℕ
reads_flag inquiry.Probe = 0
reads_flag inquiry.Read = 1

-- ---- what is open
-- a call of the operator that was told nothing
abbrev pub new_order : Asked → OrderView
new_order asked = record { asked = asked; told = None }

-- the operator's call for this is open, and no exchange, no collection and no caller's call beside it
pub record HasOrder (asked : Asked) (own : List ℕ) : Type 0 where
  pub council : Council
  pub is : own ≡ council_part council
  pub order : council.order ≡ Some (new_order asked)
  pub exchange : council.exchange ≡ None
  pub collection : council.collection ≡ None

-- what its order holds that was begun for this key
abbrev pub order_for : Inquiry → List ℕ → ProbeOrder
order_for asks_for key = record { inquiry = asks_for; question = exchange_for asks_for key; key = key }

-- this is such an order, and the operator's call for it is open
pub record IsOrderOf (asks_for : Inquiry) (key : List ℕ) (order : ProbeOrder) (own : List ℕ) : Type 0 where
  pub is : order ≡ order_for asks_for key
  pub ordered : HasOrder (asked_for asks_for key) own

-- a probe or a read of the key is open, for which these were asked
pub record HasProbe (asks_for : Inquiry) (key members own : List ℕ) : Type 0 where
  pub council : Council
  pub is : own ≡ council_part council
  pub order : council.order ≡ Some (new_order (asked_for asks_for key))
  pub exchange : ExchangeView
  pub is_open : council.exchange ≡ Some exchange
  pub question : exchange.question ≡ Probe key
  pub reads : reads_part exchange.reads ≡ reads_flag asks_for
  pub asks : asked_of exchange ≡ members

-- of so many of those that it asks a frame was harmed
pub record HasHarms (harms : ℕ) (own : List ℕ) : Type 0 where
  pub council : Council
  pub is : own ≡ council_part council
  pub exchange : ExchangeView
  pub is_open : council.exchange ≡ Some exchange
  pub harmed : harms_part exchange.question exchange.harmed ≡ harms

-- the members were asked when at least so many marks had been made
pub record WasAskedBehind (many : ℕ) (own : List ℕ) : Type 0 where
  pub council : Council
  pub is : own ≡ council_part council
  pub exchange : ExchangeView
  pub is_open : council.exchange ≡ Some exchange
  pub behind : many ≤ exchange.since

-- ---- what a hold does
-- the operator's call goes on: it makes such marks, marks at most so many losses, and counts what a change of membership proposes anew, or
-- leaves that count where no proposer enters an era on its way
pub record OperatesIn {S V : Type 0} (such : Mark → Type 0) (most : ℕ) (old new : View S V) : Type 0 where
  pub marks : List Mark
  pub makes : Makes 0 old new marks
  pub all_such : All such (mine 0 marks)
  pub few : losses (mine 0 marks) ≤ most
  pub counts : EntersEras such → CountsTo (rescanned_of new.council.plan) old new
  pub keeps : (EntersEras such → ⊥) → rescanned_of new.council.plan ≡ rescanned_of old.council.plan

-- it ends, and is told this, which is marked last but for what a probe found
pub record IsToldIn {S V : Type 0} (asked : Asked) (such : Mark → Type 0) (most : ℕ) (old new : View S V) (answer : OpAnswer) : Type 0 where
  pub marks : List Mark
  pub makes : Makes 0 old new (marks ++ told_marks asked answer)
  pub all_such : All such (mine 0 marks)
  pub few : losses (mine 0 marks) ≤ most
  pub is_free : NothingIsOpen (own_part new 0)
  pub counts : EntersEras such → TellsCount answer old new
  pub keeps : (EntersEras such → ⊥) → rescanned_of new.council.plan ≡ rescanned_of old.council.plan

-- ---- a probe
-- it tells of a frame that was harmed within an exchange, which is of no caller's call
abbrev pub IsAskingHarm : Mark → Type 0
IsAskingHarm (Harmed caller call down) = call ≡ 0
IsAskingHarm other = ⊥

-- what may stop it
abbrev pub stops_probe : Answer → Bool
stops_probe answer.Down = true
stops_probe answer.Crashed = true
stops_probe answer.Spent = true
stops_probe answer.VaultFault = true
stops_probe answer.RecordFull = true
stops_probe (answer.NoMemory proposed) = true
stops_probe other = false

pub record IsProbeStop (answer : OpAnswer) : Type 0 where
  pub why : Answer
  pub is : answer ≡ told.Stopped why
  pub stops : stops_probe why ≡ true

-- whom probes name, in their order
abbrev pub named_in : Probes → List ℕ
named_in found = map (λ probe. probe.acceptor) found.probes.items

-- it is answered with what each of the members told of the key, or with what stopped it
abbrev pub IsProbeAnswer : List ℕ → List ℕ → OpAnswer → Type 0
IsProbeAnswer key members (told.Probed other found) = (other ≡ key) × (named_in found ≡ members)
IsProbeAnswer key members (told.Stopped why) = stops_probe why ≡ true
IsProbeAnswer key members other = ⊥

-- no more of them told nothing than this
abbrev pub IsSilentAtMost : ℕ → OpAnswer → Type 0
IsSilentAtMost most (told.Probed key found) = silent_in found.probes.items ≤ most
IsSilentAtMost most other = ⊤

-- whoever confirmed what was acknowledged in the era that proposer 0 was marked last as having entered is one of these
abbrev pub AreAllConfirmers : List Mark → List ℕ → Type 0
AreAllConfirmers marks asked = (a : Acknowledgment) (acceptor : ℕ) → Stands (Acked a) marks → a.era ≡ era_marked 0 marks → has_member a.by acceptor ≡ true → has_member asked acceptor ≡ true

-- Each that told anything told what it keeps of the key, which is so by all these marks, and at or above what it had confirmed among those
-- before; and all such confirmers are asked.
abbrev pub IsTrueProbe : List Mark → List Mark → OpAnswer → Type 0
IsTrueProbe before all (told.Probed key found) = AreToldSo (reverse all) key found.probes.items × AreCurrentTells (reverse all) before key found.probes.items × AreAllConfirmers (reverse all) (named_in found)
IsTrueProbe before all other = ⊤

-- ---- a read
-- what was gathered is what members told of a key
abbrev pub IsOfKey : Gathered → Type 0
IsOfKey (gathered.Probed found) = ⊤
IsOfKey (gathered.Read agreement found) = ⊤
IsOfKey other = ⊥

-- and has these parts
abbrev pub HasParts : Gathered → Probes → Option Agreement → Type 0
HasParts (gathered.Probed found) those agreement = (those ≡ found) × (agreement ≡ None)
HasParts (gathered.Read its found) those agreement = (those ≡ found) × (agreement ≡ Some its)
HasParts other those agreement = ⊥

-- This is what they agree on by an era whose quorums meet, in which all who told work. Where acceptors' and vaults' disks tell, it is the one
-- that proposer 0 was marked last as having entered.
pub record IsAgreedIn (acceptors vaults : Type 0) (marks : List Mark) (found : Probes) (agreement : Agreement) : Type 0 where
  pub era : Era
  pub sized : IsSized era
  pub meets : Meet era era
  pub everyone : named_in found ≡ union_of era.prep era.acc
  pub number : acceptors → vaults → era.number ≡ era_marked 0 (reverse marks)
  pub agrees : IsAgreementOf era found.probes.items agreement

-- so it is of what a read was told, unless that stopped
abbrev pub IsAgreedSo : Type 0 → Type 0 → List Mark → OpAnswer → Option Agreement → Type 0
IsAgreedSo acceptors vaults marks (told.Probed key found) (Some agreement) = IsAgreedIn acceptors vaults marks found agreement
IsAgreedSo acceptors vaults marks (told.Probed key found) None = ⊥
IsAgreedSo acceptors vaults marks other agreement = ⊤

-- The register was empty at some time since so many marks, or more, had been made. What was settled at any time before leaves the empty state,
-- if no floor of the key was made since.
pub record WasEmptyBehind (many : ℕ) (all : List Mark) (key : List ℕ) : Type 0 where
  pub since : ℕ
  pub more : many ≤ since
  pub empty : WasEmptyOnce (reverse (take since all)) (reverse all) key
  pub before : (few : ℕ) → few ≤ since → HasNoFloorSince key (reverse (take few all)) (reverse all) → IsSettledEmpty key (reverse (take few all))

-- What they agree on is so: if it is nothing, the register was empty; else the state is that of the history up to its ballot, which goes on from
-- what was settled before, and begins what is settled now.
pub record IsAgreedStateTrue (before all : List Mark) (key : List ℕ) (found : Probes) (ballot : Ballot) (at : Option ℕ) : Type 0 where
  pub nothing : ballot ≡ zero_ballot → WasEmptyBehind (length before) all key
  pub state : (place : ℕ) (one : ProbeOf) (promise : Ballot) (accepted : Accepted) → at ≡ Some place → IsAt found.probes.items place one → one.told ≡ Some (tell.Probed promise (Some accepted)) → (accepted.ballot ≡ ballot) × IsReadSo (reverse before) (reverse all) key accepted

abbrev pub IsTrueAgreement : List Mark → List Mark → List ℕ → Probes → Agreement → Type 0
IsTrueAgreement before all key found (agreed.Value ballot at) = IsAgreedStateTrue before all key found ballot at
IsTrueAgreement before all key found other = ⊤

-- so it is of what a read was told
abbrev pub IsTrueRead : List Mark → List Mark → OpAnswer → Option Agreement → Type 0
IsTrueRead before all (told.Probed key found) (Some agreement) = IsTrueAgreement before all key found agreement
IsTrueRead before all other agreement = ⊤

-- What was heard is so, where disks tell, of what was marked before the members were asked: what each keeps and, to a read, what they agree on.
pub record IsHeardTrue (asks_for : Inquiry) (acceptors vaults : Type 0) (before all : List Mark) (heard : Heard) : Type 0 where
  pub probed : acceptors → vaults → IsTrueProbe before all heard.told
  pub agreed : asks_for ≡ inquiry.Read → IsAgreedSo acceptors vaults all heard.told heard.agreement
  pub read : acceptors → vaults → IsTrueRead before all heard.told heard.agreement

-- No more of them are harmed as a hold goes on with it than marks of caller 0 were made.
abbrev pub MarksHarms : {S V : Type 0} → View S V → View S V → Type 0
MarksHarms {S} {V} old new = (harms : ℕ) → HasHarms harms (own_part old 0) → (more : ℕ) × HasHarms more (own_part new 0) × (more + length (mine 0 old.marks) ≤ harms + length (mine 0 new.marks))
