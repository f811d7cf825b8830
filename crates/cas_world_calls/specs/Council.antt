-- What a world shows of what its operator has under way.
use Rattle.std.specs.Prelude.{◌≡◌, ⊤, ℕ, Bool, true, false, if◌then◌else◌, List, [], Option, None, Some, option_map, replicate, slice_get, Result, Ok, Err}
use Rattle.cas_members.specs.Plan.{next_of}
use Rattle.cas_members.specs.declared.plan.PlanStep.{PlanStep}
use Rattle.cas_members.specs.declared.plan.PlanStep.TheVariants.{Settle}
use Rattle.cas_quorum.specs.declared.era.Era.{Era}
use Rattle.cas_record.specs.declared.answer.Answer.{Answer}
use Rattle.cas_record.specs.declared.answer.Answer.TheVariants as answer
use Rattle.cas_record.specs.declared.mark.Mark.{Mark}
use Rattle.cas_record.specs.declared.operator.OpAnswer.{OpAnswer}
use Rattle.cas_record.specs.declared.operator.OpAnswer.TheVariants as op
use Rattle.cas_record.specs.declared.operator.Probe.{Probe as Answered}
use Rattle.cas_record.specs.declared.operator.Probes.{Probes}
use Rattle.cas_slot.specs.declared.message.Reply.{Reply}
use Rattle.cas_model.specs.Council as cluster
use Rattle.cas_model.specs.Council.{ListingView, ExchangeView, OrderView, PlanView, with_listing, telling, hushed}
use Rattle.cas_model.specs.Eras.Listings.{ListsOn, counted, missing, why_short}
use Rattle.cas_model.specs.Eras.Remaining.{LeavesLess, keys_left}
use Rattle.cas_model.specs.Exchanges.Step.{listing_in, hears, harmed_exchange, harm_marks}
use Rattle.cas_world_calls.specs.Answers.{is_plain}
use Rattle.cas_world_calls.specs.declared.council.Council.{Council}
use Rattle.cas_world_calls.specs.declared.council.Query.{Query}
use Rattle.cas_world_calls.specs.declared.council.Query.TheVariants as what
use Rattle.cas_world_calls.specs.declared.council.Gathered.{Gathered}
use Rattle.cas_world_calls.specs.declared.council.Gathered.TheVariants as gathered
use Rattle.cas_world_calls.specs.declared.council.OpenExchange.{OpenExchange}
use Rattle.cas_world_calls.specs.declared.council.Order.{Order}
use Rattle.cas_world_calls.specs.declared.council.Question.{Question}
use Rattle.cas_world_calls.specs.declared.council.Question.TheVariants as asks
use Rattle.cas_world_calls.specs.declared.plan.OpenPlan.{OpenPlan}

-- ---- what is seen
abbrev pub question_view : Question → cluster.Question
question_view (asks.Probe key) = cluster.Probe key
question_view (asks.NextKeys places) = cluster.NextKeys places
question_view (asks.NewAges key least) = cluster.NewAges key least
question_view (asks.Removal key) = cluster.Removal key

abbrev pub order_view : Order → OrderView
order_view order = record { asked = order.asked; told = order.told }

abbrev pub exchange_view : OpenExchange → ExchangeView
exchange_view exchange = record {
  question = question_view exchange.question;
  tag = exchange.tag;
  members = exchange.members;
  since = exchange.since;
  told = exchange.told.items;
  harmed = exchange.harmed;
  reserved = exchange.reserved;
  crashed = exchange.crashed;
  reads = exchange.reads;
}

abbrev pub plan_view : OpenPlan → PlanView
plan_view plan = record { asked = plan.asked; progress = plan.plan; entered = plan.entered; rescanned = plan.rescanned; listing = plan.listing }

abbrev pub council_view : Council → cluster.Council
council_view council = record { order = option_map order_view council.order; exchange = option_map exchange_view council.exchange; plan = option_map plan_view council.plan; used = council.used; collection = council.collection }

-- all proposers work in this era, whose members are these, and nothing is under way
abbrev pub opening_council : Era → List ℕ → Council
opening_council era members = record { eras = record { 0 = replicate 17 era }; order = None; exchange = None; plan = None; used = members; collection = None }

-- ---- the keys that are to be proposed anew
-- the first of a complete listing of the era that is to be settled
abbrev pub first_of : Option ListingView → Option (List ℕ)
first_of None = None
first_of (Some listing) = if listing.complete then slice_get listing.keys 0 else None

abbrev pub first_where : PlanStep → Option ListingView → Option (List ℕ)
first_where Settle listing = first_of listing
first_where other listing = None

abbrev pub due_key : PlanView → Option (List ℕ)
due_key plan = first_where (next_of plan.progress.left) plan.listing

-- where the open call asks for that change
abbrev pub due_in : Option PlanView → Option (List ℕ)
due_in None = None
due_in (Some plan) = due_key plan

pub record RescanIsDue (council : cluster.Council) (key : List ℕ) : Type 0 where
  pub order : OrderView
  pub is_open : council.order ≡ Some order
  pub plan : PlanView
  pub is_plan : council.plan ≡ Some plan
  pub is_for : plan.asked ≡ order.asked
  pub due : due_key plan ≡ Some key

-- ---- an exchange
-- a member that told nothing yet
abbrev pub unanswered : ℕ → Answered
unanswered member = record { acceptor = member; told = None }

-- a reply to it arrives
abbrev pub heard_by : Reply → ExchangeView → ExchangeView
heard_by reply exchange = record exchange { told = hears reply exchange.told }

abbrev pub heard_in : cluster.Council → Reply → cluster.Council
heard_in council reply = record council { exchange = option_map (heard_by reply) council.exchange }

-- a frame of the member is harmed
abbrev pub harmed_in : cluster.Council → ℕ → cluster.Council
harmed_in council member = record council { exchange = option_map (λ exchange. harmed_exchange exchange member) council.exchange }

abbrev pub harms_of : Option ExchangeView → ℕ → Bool → List Mark
harms_of None member down = []
harms_of (Some exchange) member down = harm_marks exchange member down

abbrev pub harms_in : cluster.Council → ℕ → Bool → List Mark
harms_in council member down = harms_of council.exchange member down

-- ---- what came of it
-- what the open call is told of the key that was probed
pub record IsFoundByProbe (exchange : ExchangeView) (key : List ℕ) (told : OpAnswer) : Type 0 where
  pub found : Probes
  pub same : found.probes.items ≡ exchange.told
  pub tells : told ≡ op.Probed key found

-- it is what the members told of a key
abbrev pub IsProbed : Gathered → Type 0
IsProbed (gathered.Probed found) = ⊤
IsProbed other = ⊥

-- the next keys are asked for
abbrev pub IsOfKeys : cluster.Question → Type 0
IsOfKeys (cluster.NextKeys places) = ⊤
IsOfKeys other = ⊥

-- an era is to be settled, and its listing has begun
pub record EraIsListed (under_way : Option PlanView) : Type 0 where
  pub plan : PlanView
  pub is_plan : under_way ≡ Some plan
  pub settles : next_of plan.progress.left ≡ Settle
  pub listing : ListingView
  pub is_listing : plan.listing ≡ Some listing

abbrev pub MayList : cluster.Question → Option PlanView → Type 0
MayList (cluster.Probe key) plan = ⊤
MayList (cluster.NextKeys places) plan = EraIsListed plan
MayList other plan = ⊥

-- whether a listing is at its end
abbrev pub listed_if : Bool → Gathered
listed_if complete = if complete then gathered.Listed else gathered.More

-- the listing goes on by what the members told, or those that count are no quorum
pub data GoesOnBy (era : Era) (told : List Answered) (listing : ListingView) (old : PlanView) (result : Result Gathered Answer) (new : PlanView) : Type 0 where
  lists : (next : ListingView) → missing era (counted told listing.places) ≡ None → ListsOn era told listing next → LeavesLess era told listing next → result ≡ Ok (listed_if next.complete) → new ≡ with_listing old next → GoesOnBy era told listing old result new
  is_short : (short : Answer) → missing era (counted told listing.places) ≡ Some short → result ≡ Err (why_short told short) → new ≡ old → GoesOnBy era told listing old result new

-- the exchange is over, and the open call is told that
abbrev pub over_with : cluster.Council → OpAnswer → cluster.Council
over_with council told = record (telling council told) { exchange = None }

-- the exchange is over, the open call is told nothing, and the change of membership goes on so
abbrev pub listed_with : cluster.Council → PlanView → cluster.Council
listed_with council plan = record (hushed council) { exchange = None; plan = Some plan }

pub data GathersAs (era : Era) (exchange : ExchangeView) (old : cluster.Council) (result : Result Gathered OpAnswer) (new : cluster.Council) : Type 0 where
  crashed : exchange.crashed ≡ true → result ≡ Err (op.Stopped answer.Crashed) → new ≡ over_with old (op.Stopped answer.Crashed) → GathersAs era exchange old result new
  probed : (key : List ℕ) (found kept : Probes) → exchange.crashed ≡ false → exchange.question ≡ cluster.Probe key → exchange.reads ≡ None → found.probes.items ≡ exchange.told → kept.probes.items ≡ exchange.told
      → result ≡ Ok (gathered.Probed found) → new ≡ over_with old (op.Probed key kept) → GathersAs era exchange old result new
  lists : (of : EraIsListed old.plan) (next : ListingView) → exchange.crashed ≡ false → IsOfKeys exchange.question → missing era (counted exchange.told of.listing.places) ≡ None → ListsOn era exchange.told of.listing next → LeavesLess era exchange.told of.listing next
      → result ≡ Ok (listed_if next.complete) → new ≡ listed_with old (with_listing of.plan next) → GathersAs era exchange old result new
  is_short : (of : EraIsListed old.plan) (short : Answer) → exchange.crashed ≡ false → IsOfKeys exchange.question → missing era (counted exchange.told of.listing.places) ≡ Some short
      → result ≡ Err (op.Stopped (why_short exchange.told short)) → new ≡ over_with old (op.Stopped (why_short exchange.told short)) → GathersAs era exchange old result new
  no_memory : exchange.crashed ≡ false → result ≡ Err (op.Stopped (answer.NoMemory false)) → new ≡ record (telling old (op.Stopped (answer.NoMemory false))) { exchange = Some exchange } → GathersAs era exchange old result new

-- ---- a listing goes on
-- how many keys at most are left to be listed
abbrev pub left_in : Option ListingView → ℕ
left_in None = 0
left_in (Some listing) = keys_left listing.places

abbrev pub left_to_list : Option PlanView → ℕ
left_to_list plan = left_in (listing_in plan)

-- the listing that goes on, where the next keys are asked for
abbrev pub goes_on_in : cluster.Council → Query → Option ListingView
goes_on_in council (what.Probe key) = None
goes_on_in council (what.Read key) = None
goes_on_in council what.List = listing_in council.plan

-- one that begins is that of the change of membership from then on
abbrev pub with_begun : Option ListingView → PlanView → PlanView
with_begun None plan = plan
with_begun (Some listing) plan = record plan { listing = Some listing }

-- ---- the open call ends
-- where its last step told nothing, its change of membership is at its end, and is no longer under way
abbrev pub concluded : Option OpAnswer → cluster.Council → cluster.Council
concluded None council = record council { plan = None }
concluded (Some told) council = council

-- it may be told what ends it: an answer that holds no memory, or that the key of its collection is collected
abbrev pub MayConclude : Option (List ℕ) → OpAnswer → Type 0
MayConclude collected (op.Collected key ballot removed kept) = collected ≡ Some key
MayConclude collected answer = is_plain answer ≡ true
