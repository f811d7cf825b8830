-- What caller 0's own part tells of a collection, and what its own part is in one.
use Rattle.std.proofs.Common.{◌≡◌, ◌≢◌, ℕ, zero, suc, List, [], ◌∷◌, ◌++◌, length, Option, None, Some, slice_get, refl, sym, ap, ap₂, ◌∙◌, arith}
use Rattle.std.specs.Prelude.{true}
use Rattle.cas_collect.specs.declared.collect.CollectStep.{CollectStep}
use Rattle.cas_collect.specs.declared.collect.CollectStep.TheVariants as step
use Rattle.cas_record.specs.declared.mark.Mark.{Mark}
use Rattle.cas_record.specs.declared.operator.Asked.TheVariants as asked
use Rattle.cas_model.specs.Collection.State.{CollectionView}
use Rattle.cas_model.specs.Council.{Question, Probe, NextKeys, NewAges, Removal, ExchangeView, PlanView, Council}
use Rattle.cas_model.specs.Safe.{is_of_collection}
use Rattle.cas_model.specs.Collection.Step.{keep_always}
use Rattle.cas_model.specs.View.{View, CallView, CallerView, IsAt}
use Rattle.cas_model.proofs.Places.{some_is}
use Rattle.cas_board_steps.specs.Collection.Collecting.{CollectsAt, HasTombstoneCall, HasStep, HasQuestion}
use Rattle.cas_board_steps.specs.Kept.{IsKept}
use Rattle.cas_board_steps.specs.Mine.{Wanted, wants, wanted_by}
use Rattle.cas_board_steps.specs.OwnParts.{call_part, open_part, caller_part, step_part, round_part, question_part, order_part, plan_part, exchange_part, collection_part, council_part, own_part, phase_of}
use Rattle.cas_board_steps.proofs.Exchanges.Councils.{append_same, IsLikeCouncil, is_like, order_told, no_exchange, exchange_told, none_beside, own_is_council, kind_of, no_call_kind}

-- ---- a collection
step_of : List ℕ → CollectStep
step_of (suc zero ∷ proposer ∷ l) = step.Renew proposer
step_of (suc (suc zero) ∷ l) = step.Ages
step_of (suc (suc (suc zero)) ∷ l) = step.Floor
step_of (suc (suc (suc (suc zero))) ∷ l) = step.Remove
step_of (suc (suc (suc (suc (suc zero)))) ∷ l) = step.End
step_of other = step.Round

step_is : (s : CollectStep) → step_of (step_part s) ≡ s
unfolding step_of
step_is step.Round = refl
step_is (step.Renew proposer) = refl
step_is step.Ages = refl
step_is step.Floor = refl
step_is step.Remove = refl
step_is step.End = refl

-- one that is at the same step of the same key
record IsLikeCollection (open_ : Option CollectionView) (collection : CollectionView) : Type 0 where
  now : CollectionView
  is_open : open_ ≡ Some now
  step : now.course.step ≡ collection.course.step
  round : round_part now ≡ round_part collection
  key : now.course.key ≡ collection.course.key

collection_told : (o : Option CollectionView) (c : CollectionView) → collection_part o ≡ collection_part (Some c) → IsLikeCollection o c
collection_told None c e = absurd (let h : 9 ≡ 4 = ap kind_of e in omega (arith, h))
collection_told (Some now) c e =
    let body : length (step_part now.course.step) ∷ step_part now.course.step ++ round_part now ∷ now.course.key ≡ length (step_part c.course.step) ∷ step_part c.course.step ++ round_part c ∷ c.course.key = cc e in
    let long : length (step_part now.course.step) ≡ length (step_part c.course.step) = cc body in
    let both = append_same (step_part now.course.step) (step_part c.course.step) (round_part now ∷ now.course.key) (round_part c ∷ c.course.key) long (cc body) in
    record { now = now; is_open = refl; step = sym (step_is now.course.step) ∙ ap step_of both.0 ∙ step_is c.course.step; round = cc both.1; key = cc both.1 }

no_plan : (p : Option PlanView) → plan_part p ≡ [] → p ≡ None
no_plan None e = refl
no_plan (Some plan) e = absurd (let h : 3 ≡ 9 = ap kind_of e in omega (arith, h))

collects_like : (key : List ℕ) (due : CollectStep) (round : ℕ) (a b : Council) → IsLikeCouncil a b → CollectsAt key due round b → CollectsAt key due round a
collects_like key due round a b like at =
    let c = collection_told a.collection at.collection (like.collection ∙ ap collection_part at.is_collection) in
    record {
      order = order_told a.order (asked.Collect key) (like.order ∙ ap order_part at.order);
      none_planned = no_plan a.plan (like.plan ∙ ap plan_part at.none_planned);
      collection = c.now;
      is_collection = c.is_open;
      is_due = c.step ∙ at.is_due;
      same_key = c.key ∙ at.same_key;
      round_is = c.round ∙ at.round_is;
    }

-- ---- a step that is due
pub record IsStepDue {S V : Type 0} (view : View S V) (key : List ℕ) (due : CollectStep) : Type 0 where
  pub no_call : (caller : CallerView) → IsAt view.callers 0 caller → caller.call ≡ None
  pub at : CollectsAt key due 2 view.council
  pub none_asked : view.council.exchange ≡ None

pub has_step : {S V : Type 0} (view : View S V) (key : List ℕ) (due : CollectStep) → IsStepDue view key due → HasStep key due (own_part view 0)
has_step view key due is = record { council = view.council; is = own_is_council view is.no_call; at = is.at; none_asked = is.none_asked }

pub is_step : {S V : Type 0} (view : View S V) (key : List ℕ) (due : CollectStep) → HasStep key due (own_part view 0) → IsStepDue view key due
is_step view key due has =
    let it = none_beside view has.council has.is in
    record { no_call = it.no_call; at = collects_like key due 2 view.council has.council it.like has.at; none_asked = no_exchange view.council.exchange (it.like.exchange ∙ ap exchange_part has.none_asked) }

-- ---- its question
of_same : (a b : Question) → question_part a ≡ question_part b → is_of_collection b ≡ true → is_of_collection a ≡ true
of_same (NewAges key least) b e of_it = refl
of_same (Removal key) b e of_it = refl
of_same (Probe key) (NewAges other least) e of_it = absurd (let h : 0 ≡ 2 = ap kind_of e in omega (arith, h))
of_same (Probe key) (Removal other) e of_it = absurd (let h : 0 ≡ 3 = ap kind_of e in omega (arith, h))
of_same (NextKeys places) (NewAges other least) e of_it = absurd (let h : 1 ≡ 2 = ap kind_of e in omega (arith, h))
of_same (NextKeys places) (Removal other) e of_it = absurd (let h : 1 ≡ 3 = ap kind_of e in omega (arith, h))
of_same (Probe key) (Probe other) e of_it = absurd (cc of_it)
of_same (Probe key) (NextKeys places) e of_it = absurd (cc of_it)
of_same (NextKeys places) (Probe other) e of_it = absurd (cc of_it)
of_same (NextKeys places) (NextKeys others) e of_it = absurd (cc of_it)

pub record IsStepAsked {S V : Type 0} (view : View S V) (key : List ℕ) (due : CollectStep) : Type 0 where
  pub no_call : (caller : CallerView) → IsAt view.callers 0 caller → caller.call ≡ None
  pub at : CollectsAt key due 2 view.council
  pub exchange : ExchangeView
  pub is_open : view.council.exchange ≡ Some exchange
  pub of_it : is_of_collection exchange.question ≡ true

pub has_question : {S V : Type 0} (view : View S V) (key : List ℕ) (due : CollectStep) → IsStepAsked view key due → HasQuestion key due (own_part view 0)
has_question view key due is = record { council = view.council; is = own_is_council view is.no_call; at = is.at; exchange = is.exchange; is_open = is.is_open; of_it = is.of_it }

pub is_asked : {S V : Type 0} (view : View S V) (key : List ℕ) (due : CollectStep) → HasQuestion key due (own_part view 0) → IsStepAsked view key due
is_asked view key due has =
    let it = none_beside view has.council has.is in
    let x = exchange_told view.council.exchange has.exchange (it.like.exchange ∙ ap exchange_part has.is_open) in
    record { no_call = it.no_call; at = collects_like key due 2 view.council has.council it.like has.at; exchange = x.now; is_open = x.is_open; of_it = of_same x.now.question has.exchange.question x.question has.of_it }

-- ---- its call
pub record IsSettingTombstone {S V : Type 0} (view : View S V) (key : List ℕ) (call : ℕ) : Type 0 where
  pub caller : CallerView
  pub at_caller : IsAt view.callers 0 caller
  pub number : caller.number ≡ call
  pub open_call : CallView
  pub is_open : caller.call ≡ Some open_call
  pub at : CollectsAt key step.Round 0 view.council
  pub none_asked : view.council.exchange ≡ None

record TombstoneParts (o : Option CallerView) (rest : List ℕ) (call : ℕ) (tail : List ℕ) : Type 0 where
  caller : CallerView
  is : o ≡ Some caller
  number : caller.number ≡ call
  open_call : CallView
  is_open : caller.call ≡ Some open_call
  rest_is : rest ≡ tail

tombstone_call : (caller : CallerView) (is_call : Option CallView) (rest : List ℕ) (call rounds phase : ℕ) (tail : List ℕ) → caller.call ≡ is_call → (kind_of rest ≢ 0) → open_part caller.number is_call ++ rest ≡ call_part call rounds phase ++ tail → TombstoneParts (Some caller) rest call tail
tombstone_call caller None rest call rounds phase tail is not e = absurd (not (ap kind_of e))
tombstone_call caller (Some one) rest call rounds phase tail is not e =
    let same_number : caller.number ≡ call = cc e in
    let same_rest : rest ≡ tail = cc e in
    record { caller = caller; is = refl; number = same_number; open_call = one; is_open = is; rest_is = same_rest }

tombstone_caller : (o : Option CallerView) (rest : List ℕ) (call rounds phase : ℕ) (tail : List ℕ) → (kind_of rest ≢ 0) → caller_part o ++ rest ≡ call_part call rounds phase ++ tail → TombstoneParts o rest call tail
tombstone_caller None rest call rounds phase tail not e = absurd (not (ap kind_of e))
tombstone_caller (Some one) rest call rounds phase tail not e = tombstone_call one one.call rest call rounds phase tail refl not e

pub is_setting_tombstone : {S V : Type 0} (view : View S V) (key : List ℕ) (call : ℕ) (marks : List Mark) → HasTombstoneCall key call (own_part view 0) marks → IsSettingTombstone view key call
is_setting_tombstone view key call marks has =
    let p = tombstone_caller (slice_get view.callers 0) (council_part view.council) call has.rounds has.phase (council_part has.council) (no_call_kind view.council) has.is in
    let like = is_like view.council has.council p.rest_is in
    record {
      caller = p.caller;
      at_caller = p.is;
      number = p.number;
      open_call = p.open_call;
      is_open = p.is_open;
      at = collects_like key step.Round 0 view.council has.council like has.at;
      none_asked = no_exchange view.council.exchange (like.exchange ∙ ap exchange_part has.none_asked);
    }

pub has_tombstone : {S V : Type 0} (view : View S V) (key : List ℕ) (call : ℕ) → IsSettingTombstone view key call → wanted_by 0 view.marks ≡ Some (wants call key keep_always) → HasTombstoneCall key call (own_part view 0) view.marks
has_tombstone view key call is wanted = record {
  rounds = is.open_call.rounds;
  phase = phase_of is.open_call;
  council = view.council;
  is = ap (λ (o : Option CallerView). caller_part o ++ council_part view.council) is.at_caller ∙ ap₂ (λ (k : ℕ) (o : Option CallView). open_part k o ++ council_part view.council) is.number is.is_open;
  at = is.at;
  none_asked = is.none_asked;
  wanted = wanted;
}

-- it was begun for the key, with the program that leaves each state as it is
pub record IsKeeping (call : CallView) (key : List ℕ) : Type 0 where
  pub key_is : call.key ≡ key
  pub program_is : call.program ≡ keep_always

pub is_keeping : {S V : Type 0} (view : View S V) (key : List ℕ) (call : ℕ) (is : IsSettingTombstone view key call) → wanted_by 0 view.marks ≡ Some (wants call key keep_always) → IsKept view → IsKeeping is.open_call key
is_keeping view key call is wanted kept =
    let same : wants is.caller.number is.open_call.key is.open_call.program ≡ wants call key keep_always = some_is (sym (kept.wanted 0 is.caller is.open_call is.at_caller is.is_open) ∙ wanted) in
    record { key_is = ap (λ (w : Wanted). w.key) same; program_is = ap (λ (w : Wanted). w.program) same }
