-- What an exchange does to a world, in which proposer 0 asks all members: the calls that it makes, one after another.
use Rattle.std.specs.Prelude.{◌≡◌, ℕ, Bool, false, List, [], None, Some}
use Rattle.cas_fate.specs.declared.fate.Verdict.{Verdict}
use Rattle.cas_flow.specs.Flow.{queue_at}
use Rattle.cas_flow.specs.Message.{head_of}
use Rattle.cas_flow.specs.declared.message.Message.{Message}
use Rattle.cas_quorum.specs.declared.era.Era.{Era}
use Rattle.cas_record.specs.Agreement.{IsAgreementOf}
use Rattle.cas_record.specs.declared.agreement.Agreement.{Agreement}
use Rattle.cas_record.specs.declared.operator.OpAnswer.TheVariants as op
use Rattle.cas_record.specs.declared.operator.Probes.{Probes}
use Rattle.cas_world_calls.specs.Council.{listed_if}
use Rattle.cas_world_calls.specs.declared.council.Gathered.{Gathered}
use Rattle.cas_world_calls.specs.declared.council.Gathered.TheVariants as came
use Rattle.cas_model.specs.Collection.State.{CollectionView, confirmed_step}
use Rattle.cas_model.specs.Council.{Question, ExchangeView, ListingView, OrderView, PlanView, exchange_place, silent_order, with_listing}
use Rattle.cas_model.specs.Eras.Remaining.{keys_left}
use Rattle.cas_model.specs.Step.{Event, Step, TurnExchange, RefuseTurnExchange, Gather, GatherCollect}
use Rattle.cas_model.specs.Exchanges.Step.{everyone, listing_in, places_from}
use Rattle.cas_model.specs.View.{Meaning, View, IsAt, era_at}
use Rattle.cas_world.specs.Exchanges.Exchange.{WasToldOrder}
use Rattle.cas_world.specs.declared.exchange.Exchange.{Exchange}
use Rattle.cas_world.specs.declared.exchange.Exchange.TheVariants as what
use Rattle.casreg_script.specs.Frames.Conditions.{NetworkView, DecidesVerdict, is_to_repeat}
use Rattle.casreg_script.specs.Frames.Strays.{LetsStrayIn}

-- ---- turns
-- turns were made, each on the first frame of the exchange, as those of a round are
pub data AskTurned {S V : Type 0} (m : Meaning S V) (by : NetworkView) (old : View S V) : NetworkView → Bool → View S V → Type 0 where
  none : AskTurned m by old by false old
  one_more : {before between after : NetworkView} {again : Bool} {verdict : Verdict} {mid near new : View S V} (frame : Message) → AskTurned m by old before again mid → LetsStrayIn m before mid between near → IsAt (queue_at near.flow exchange_place).messages 0 frame
      → DecidesVerdict (head_of frame) between again verdict after → Step m near (TurnExchange verdict) new → AskTurned m by old after (is_to_repeat again verdict) new

-- turns were made until none of the exchange's frames waits
pub record AllAskTurned {S V : Type 0} (m : Meaning S V) (by : NetworkView) (old : View S V) (next : NetworkView) (new : View S V) : Type 0 where
  pub again : Bool
  pub turned : AskTurned m by old next again new
  pub none_waits : (queue_at new.flow exchange_place).messages ≡ []

-- after some turns one found no memory
pub record BreaksOffAsking {S V : Type 0} (m : Meaning S V) (by : NetworkView) (old : View S V) (next : NetworkView) (new : View S V) : Type 0 where
  pub before : NetworkView
  pub again : Bool
  pub mid : View S V
  pub turned : AskTurned m by old before again mid
  pub between : NetworkView
  pub near : View S V
  pub lets_in : LetsStrayIn m before mid between near
  pub frame : Message
  pub waits : IsAt (queue_at near.flow exchange_place).messages 0 frame
  pub verdict : Verdict
  pub decides : DecidesVerdict (head_of frame) between again verdict next
  pub fails : Step m near RefuseTurnExchange new

-- ---- the whole
-- The members are asked, and what they told is gathered; or none is asked, or a turn finds no memory. The two events are those by which
-- the question is asked and its answers are gathered.
pub data AsksMembers {S V : Type 0} (m : Meaning S V) (by : NetworkView) (asks gathers : Event) (old : View S V) : NetworkView → View S V → Type 0 where
  not_asked : {new : View S V} → Step m old asks new → new.council.exchange ≡ None → AsksMembers m by asks gathers old by new
  no_memory : {next : NetworkView} {asked new : View S V} → Step m old asks asked → BreaksOffAsking m by asked next new → AsksMembers m by asks gathers old next new
  gathered : {next : NetworkView} {asked turned new : View S V} → Step m old asks asked → AllAskTurned m by asked next turned → Step m turned gathers new → AsksMembers m by asks gathers old next new

-- the step of the store by which its answers are gathered
abbrev pub answers_of : Exchange → Event
answers_of what.Ages = GatherCollect
answers_of what.Remove = GatherCollect
answers_of what.List = Gather
answers_of (what.Probe key) = Gather
answers_of (what.Read key) = Gather

-- ---- what came of it
-- the listing of the change of membership that is under way went on to another, and the operator's call goes on
pub record HasListed {S V : Type 0} (old : View S V) (gathered : Gathered) (new : View S V) : Type 0 where
  pub order : OrderView
  pub was_open : old.council.order ≡ Some order
  pub goes_on : new.council.order ≡ Some (silent_order order)
  pub over : new.council.exchange ≡ None
  pub plan : PlanView
  pub was_plan : old.council.plan ≡ Some plan
  pub listing : ListingView
  pub is_plan : new.council.plan ≡ Some (with_listing plan listing)
  pub came : gathered ≡ listed_if listing.complete

-- the step of the collection that was due is confirmed by all, and the operator's call goes on
pub record HasConfirmed {S V : Type 0} (old : View S V) (gathered : Gathered) (new : View S V) : Type 0 where
  pub order : OrderView
  pub was_open : old.council.order ≡ Some order
  pub goes_on : new.council.order ≡ Some (silent_order order)
  pub over : new.council.exchange ≡ None
  pub collection : CollectionView
  pub was_collection : old.council.collection ≡ Some collection
  pub removed : ℕ
  pub kept : ℕ
  pub is_collection : new.council.collection ≡ Some (record (confirmed_step collection) { removed = removed; kept = kept })
  pub came : gathered ≡ came.All removed kept

-- the operator's call may tell what each keeps for the key, by which all agree so in this era
pub record HasAgreed {S V : Type 0} (era : Era) (key : List ℕ) (agreement : Agreement) (found : Probes) (new : View S V) : Type 0 where
  pub told : WasToldOrder new (op.Probed key found)
  pub agrees : IsAgreementOf era found.probes.items agreement

-- what each keeps for the key, as the operator's call may tell, and what they agree on; or the next keys; or that a collection goes on
abbrev pub CameOf : {S V : Type 0} → Exchange → View S V → Gathered → View S V → Type 0
CameOf (what.Probe key) old (came.Probed found) new = WasToldOrder new (op.Probed key found)
CameOf (what.Probe key) old other new = ⊥
CameOf (what.Read key) old (came.Read agreement found) new = HasAgreed (era_at old 0) key agreement found new
CameOf (what.Read key) old other new = ⊥
CameOf what.List old result new = HasListed old result new
CameOf what.Ages old result new = HasConfirmed old result new
CameOf what.Remove old result new = HasConfirmed old result new

-- how much is left to be listed
abbrev pub listing_left : {S V : Type 0} → View S V → ℕ
listing_left view = keys_left (places_from (everyone view) (listing_in view.council.plan))

-- ---- what stays
-- an exchange for the operator's open call asks this
pub record IsAsking {S V : Type 0} (view : View S V) (question : Question) : Type 0 where
  pub order : OrderView
  pub is_order : view.council.order ≡ Some order
  pub exchange : ExchangeView
  pub is_open : view.council.exchange ≡ Some exchange
  pub same : exchange.question ≡ question

-- the operator's call stays, and its change of membership or its collection
pub record KeepsOrder {S V : Type 0} (old new : View S V) : Type 0 where
  pub order : new.council.order ≡ old.council.order
  pub plan : new.council.plan ≡ old.council.plan
  pub collection : new.council.collection ≡ old.council.collection

-- the calls of the callers stay
pub record KeepsCalls {S V : Type 0} (old new : View S V) : Type 0 where
  pub last_proposer : new.last_proposer ≡ old.last_proposer
  pub callers : new.callers ≡ old.callers
