-- What of the store is a caller's own: what is kept of its open call and, for the operator's caller 0, of all that is under way. Where
-- nothing is open it is empty.
use Rattle.std.specs.Prelude.{ℕ, zero, suc, if◌then◌else◌, List, [], ◌∷◌, ◌++◌, length, map, Option, None, Some, is_some, slice_get}
use Rattle.cas_world_calls.specs.Collecting.{is_sought}
use Rattle.cas_collect.specs.declared.collect.CollectStep.{CollectStep}
use Rattle.cas_collect.specs.declared.collect.CollectStep.TheVariants as collect
use Rattle.cas_quorum.specs.declared.era.Era.{Era}
use Rattle.cas_record.specs.declared.operator.Asked.{Asked}
use Rattle.cas_record.specs.declared.operator.Asked.TheVariants as asked
use Rattle.cas_world_calls.specs.Council.{due_key}
use Rattle.cas_model.specs.Collection.State.{CollectionView}
use Rattle.cas_model.specs.Council.{Question, Probe, NextKeys, NewAges, Removal, ExchangeView, OrderView, PlanView, Council}
use Rattle.cas_model.specs.View.{View, CallView, CallerView}
use Rattle.cas_board_steps.specs.Calls.Conflicts.{told_conflict}

-- ---- a call
-- one part among others: what it is of, how long it is, and what it has
abbrev pub framed : ℕ → List ℕ → List ℕ
framed kind part = kind ∷ length part ∷ part

-- whether its last round ended with a conflict, or it has proposed something
abbrev pub phase_of : CallView → ℕ
phase_of call = if told_conflict call.told then 2 else if is_some call.proposed then 1 else 0

-- its number, how many rounds it had, and its phase
abbrev pub call_part : ℕ → ℕ → ℕ → List ℕ
call_part number rounds phase = framed 0 (number ∷ rounds ∷ phase ∷ [])

abbrev pub open_part : ℕ → Option CallView → List ℕ
open_part number None = []
open_part number (Some call) = call_part number call.rounds (phase_of call)

abbrev pub caller_part : Option CallerView → List ℕ
caller_part None = []
caller_part (Some caller) = open_part caller.number caller.call

-- ---- what the operator has under way
abbrev pub asked_part : Asked → List ℕ
asked_part (asked.Join id) = 0 ∷ id ∷ []
asked_part (asked.Leave id) = 1 ∷ id ∷ []
asked_part (asked.Collect key) = 2 ∷ key
asked_part (asked.Probe key) = 3 ∷ key
asked_part (asked.Resize need_prep need_acc) = 4 ∷ need_prep ∷ need_acc ∷ []
asked_part (asked.Read key) = 5 ∷ key

abbrev pub question_part : Question → List ℕ
question_part (Probe key) = 0 ∷ key
question_part (NextKeys places) = 1 ∷ []
question_part (NewAges key least) = 2 ∷ key
question_part (Removal key) = 3 ∷ key

abbrev pub step_part : CollectStep → List ℕ
step_part collect.Round = 0 ∷ []
step_part (collect.Renew proposer) = 1 ∷ proposer ∷ []
step_part collect.Ages = 2 ∷ []
step_part collect.Floor = 3 ∷ []
step_part collect.Remove = 4 ∷ []
step_part collect.End = 5 ∷ []

abbrev pub order_part : Option OrderView → List ℕ
order_part None = []
order_part (Some order) = framed 1 ((if is_some order.told then 1 else 0) ∷ asked_part order.asked)

-- those that are asked, in their order
abbrev pub asked_of : ExchangeView → List ℕ
asked_of exchange = map (λ probe. probe.acceptor) exchange.told

-- of how many of those that a probe asks a frame was harmed
abbrev pub harms_part : Question → List ℕ → ℕ
harms_part (Probe key) harmed = length harmed
harms_part other harmed = 0

-- whether it reads its key
abbrev pub reads_part : Option Era → ℕ
reads_part reads = if is_some reads then 1 else 0

abbrev pub exchange_part : Option ExchangeView → List ℕ
exchange_part None = []
exchange_part (Some exchange) = framed 2 (exchange.since ∷ harms_part exchange.question exchange.harmed ∷ reads_part exchange.reads ∷ length (asked_of exchange) ∷ asked_of exchange ++ question_part exchange.question)

-- the key that it is to propose anew, if one is due
abbrev pub due_part : Option (List ℕ) → List ℕ
due_part None = []
due_part (Some key) = 1 ∷ key

abbrev pub plan_part : Option PlanView → List ℕ
plan_part None = []
plan_part (Some plan) = framed 3 (length plan.progress.left ∷ plan.entered ∷ plan.rescanned ∷ length (asked_part plan.asked) ∷ asked_part plan.asked ++ due_part (due_key plan))

-- whether the call of its round is open, or it is over, and whether it is known then what became of it
abbrev pub round_part : CollectionView → ℕ
round_part collection = if collection.calling then 0 else if is_sought collection.tombstone then 1 else 2

abbrev pub collection_part : Option CollectionView → List ℕ
collection_part None = []
collection_part (Some collection) = framed 4 (length (step_part collection.course.step) ∷ step_part collection.course.step ++ round_part collection ∷ collection.course.key)

abbrev pub council_part : Council → List ℕ
council_part council = order_part council.order ++ exchange_part council.exchange ++ plan_part council.plan ++ collection_part council.collection

-- ---- a caller's own part
abbrev pub own_part : {S V : Type 0} → View S V → ℕ → List ℕ
own_part view zero = caller_part (slice_get view.callers zero) ++ council_part view.council
own_part view (suc n) = caller_part (slice_get view.callers (suc n))
