-- What caller 0's own part tells of what the operator has under way.
use Rattle.std.proofs.Common.{◌≡◌, ◌≤◌, ◌≢◌, ℕ, if◌then◌else◌, List, [], ◌∷◌, ◌++◌, length, Option, None, Some, is_some, option_map, slice_get, refl, sym, ap, ap₂, ◌∙◌, append-nil, append_assoc, arith}
use Rattle.cas_record.specs.declared.operator.Asked.{Asked}
use Rattle.cas_record.specs.declared.operator.Asked.TheVariants as asked
use Rattle.cas_record.specs.declared.operator.OpAnswer.{OpAnswer}
use Rattle.cas_world_calls.specs.Council.{due_key}
use Rattle.cas_model.specs.Collection.State.{CollectionView}
use Rattle.cas_model.specs.Council.{MemberPlace, Question, Probe, NextKeys, NewAges, Removal, ExchangeView, OrderView, PlanView, Council}
use Rattle.cas_model.specs.View.{View, CallView, CallerView, IsAt}
use Rattle.cas_model.proofs.Places.{some_is}
use Rattle.cas_board_steps.specs.OwnParts.{framed, open_part, caller_part, asked_part, due_part, question_part, asked_of, harms_part, reads_part, order_part, exchange_part, plan_part, collection_part, council_part, own_part}
use Rattle.cas_board_steps.specs.Calls.Open.{NothingIsOpen}
use Rattle.cas_board_steps.specs.Exchanges.Orders.{asked_for, reads_flag, new_order, HasOrder, HasProbe, HasHarms, WasAskedBehind}
use Rattle.cas_board_steps.specs.declared.orders.Inquiry.{Inquiry}

-- ---- lists in front of others
pub append_same : (p q r s : List ℕ) → length p ≡ length q → p ++ r ≡ q ++ s → (p ≡ q) × (r ≡ s)
append_same [] [] r s long e = (refl, e)
append_same [] (y ∷ q) r s long e = absurd (omega (arith, long))
append_same (x ∷ p) [] r s long e = absurd (omega (arith, long))
append_same (x ∷ p) (y ∷ q) r s long e =
    let same_head : x ≡ y = cc e in
    let same_tail : p ++ r ≡ q ++ s = cc e in
    let rest = append_same p q r s (omega (arith, long)) same_tail in
    (ap₂ (λ (a : ℕ) (l : List ℕ). a ∷ l) same_head rest.0, rest.1)

pub framed_same : (kind : ℕ) (p q r s : List ℕ) → framed kind p ++ r ≡ framed kind q ++ s → (p ≡ q) × (r ≡ s)
framed_same kind p q r s e =
    let long : length p ≡ length q = cc e in
    let whole : p ++ r ≡ q ++ s = cc e in
    append_same p q r s long whole

body_same : (kind : ℕ) (p q : List ℕ) → framed kind p ≡ framed kind q → p ≡ q
body_same kind p q e = cc e

-- which part stands first, if any does
abbrev pub kind_of : List ℕ → ℕ
kind_of [] = 9
kind_of (x ∷ xs) = x

-- a part of that kind, or none
abbrev part_of : ℕ → Option (List ℕ) → List ℕ
part_of kind None = []
part_of kind (Some body) = framed kind body

part_same : (kind : ℕ) (a b : Option (List ℕ)) (r s : List ℕ) → (kind_of r ≢ kind) → (kind_of s ≢ kind) → part_of kind a ++ r ≡ part_of kind b ++ s → (part_of kind a ≡ part_of kind b) × (r ≡ s)
part_same kind None None r s not_r not_s e = (refl, e)
part_same kind None (Some q) r s not_r not_s e = absurd (not_r (ap kind_of e))
part_same kind (Some p) None r s not_r not_s e = absurd (not_s (sym (ap kind_of e)))
part_same kind (Some p) (Some q) r s not_r not_s e = let both = framed_same kind p q r s e in (ap (framed kind) both.0, both.1)

-- ---- the parts of a council
order_body : OrderView → List ℕ
order_body order = (if is_some order.told then 1 else 0) ∷ asked_part order.asked

order_as_part : (o : Option OrderView) → order_part o ≡ part_of 1 (option_map order_body o)
unfolding order_body
order_as_part None = refl
order_as_part (Some order) = refl

exchange_body : ExchangeView → List ℕ
exchange_body exchange = exchange.since ∷ harms_part exchange.question exchange.harmed ∷ reads_part exchange.reads ∷ length (asked_of exchange) ∷ asked_of exchange ++ question_part exchange.question

exchange_as_part : (x : Option ExchangeView) → exchange_part x ≡ part_of 2 (option_map exchange_body x)
unfolding exchange_body
exchange_as_part None = refl
exchange_as_part (Some exchange) = refl

plan_body : PlanView → List ℕ
plan_body plan = length plan.progress.left ∷ plan.entered ∷ plan.rescanned ∷ length (asked_part plan.asked) ∷ asked_part plan.asked ++ due_part (due_key plan)

plan_as_part : (p : Option PlanView) → plan_part p ≡ part_of 3 (option_map plan_body p)
unfolding plan_body
plan_as_part None = refl
plan_as_part (Some plan) = refl

pub whole_is : (c : Council) → council_part c ≡ order_part c.order ++ (exchange_part c.exchange ++ (plan_part c.plan ++ collection_part c.collection))
whole_is c = append_assoc (order_part c.order ++ exchange_part c.exchange) (plan_part c.plan) (collection_part c.collection) ∙ append_assoc (order_part c.order) (exchange_part c.exchange) (plan_part c.plan ++ collection_part c.collection)

no_order_behind : (x : Option ExchangeView) (p : Option PlanView) (c : Option CollectionView) → kind_of (exchange_part x ++ (plan_part p ++ collection_part c)) ≢ 1
no_order_behind (Some x) p c e = absurd (let h : 2 ≡ 1 = e in omega (arith, h))
no_order_behind None (Some p) c e = absurd (let h : 3 ≡ 1 = e in omega (arith, h))
no_order_behind None None (Some c) e = absurd (let h : 4 ≡ 1 = e in omega (arith, h))
no_order_behind None None None e = absurd (let h : 9 ≡ 1 = e in omega (arith, h))

no_exchange_behind : (p : Option PlanView) (c : Option CollectionView) → kind_of (plan_part p ++ collection_part c) ≢ 2
no_exchange_behind (Some p) c e = absurd (let h : 3 ≡ 2 = e in omega (arith, h))
no_exchange_behind None (Some c) e = absurd (let h : 4 ≡ 2 = e in omega (arith, h))
no_exchange_behind None None e = absurd (let h : 9 ≡ 2 = e in omega (arith, h))

no_plan_behind : (c : Option CollectionView) → kind_of (collection_part c) ≢ 3
no_plan_behind (Some c) e = absurd (let h : 4 ≡ 3 = e in omega (arith, h))
no_plan_behind None e = absurd (let h : 9 ≡ 3 = e in omega (arith, h))

-- two councils of which a caller's own part says the same
pub record IsLikeCouncil (a b : Council) : Type 0 where
  pub order : order_part a.order ≡ order_part b.order
  pub exchange : exchange_part a.exchange ≡ exchange_part b.exchange
  pub plan : plan_part a.plan ≡ plan_part b.plan
  pub collection : collection_part a.collection ≡ collection_part b.collection

pub is_like : (a b : Council) → council_part a ≡ council_part b → IsLikeCouncil a b
is_like a b e =
    let whole : order_part a.order ++ (exchange_part a.exchange ++ (plan_part a.plan ++ collection_part a.collection)) ≡ order_part b.order ++ (exchange_part b.exchange ++ (plan_part b.plan ++ collection_part b.collection)) = sym (whole_is a) ∙ e ∙ whole_is b in
    let orders = part_same 1 (option_map order_body a.order) (option_map order_body b.order) (exchange_part a.exchange ++ (plan_part a.plan ++ collection_part a.collection)) (exchange_part b.exchange ++ (plan_part b.plan ++ collection_part b.collection))
    (no_order_behind a.exchange a.plan a.collection) (no_order_behind b.exchange b.plan b.collection)
    (ap (λ (l : List ℕ). l ++ (exchange_part a.exchange ++ (plan_part a.plan ++ collection_part a.collection))) (sym (order_as_part a.order)) ∙ whole ∙ ap (λ (l : List ℕ). l ++ (exchange_part b.exchange ++ (plan_part b.plan ++ collection_part b.collection))) (order_as_part b.order)) in
    let exchanges = part_same 2 (option_map exchange_body a.exchange) (option_map exchange_body b.exchange) (plan_part a.plan ++ collection_part a.collection) (plan_part b.plan ++ collection_part b.collection)
    (no_exchange_behind a.plan a.collection) (no_exchange_behind b.plan b.collection)
    (ap (λ (l : List ℕ). l ++ (plan_part a.plan ++ collection_part a.collection)) (sym (exchange_as_part a.exchange)) ∙ orders.1 ∙ ap (λ (l : List ℕ). l ++ (plan_part b.plan ++ collection_part b.collection)) (exchange_as_part b.exchange)) in
    let plans = part_same 3 (option_map plan_body a.plan) (option_map plan_body b.plan) (collection_part a.collection) (collection_part b.collection) (no_plan_behind a.collection) (no_plan_behind b.collection)
    (ap (λ (l : List ℕ). l ++ collection_part a.collection) (sym (plan_as_part a.plan)) ∙ exchanges.1 ∙ ap (λ (l : List ℕ). l ++ collection_part b.collection) (plan_as_part b.plan)) in
    record {
      order = order_as_part a.order ∙ orders.0 ∙ sym (order_as_part b.order);
      exchange = exchange_as_part a.exchange ∙ exchanges.0 ∙ sym (exchange_as_part b.exchange);
      plan = plan_as_part a.plan ∙ plans.0 ∙ sym (plan_as_part b.plan);
      collection = plans.1;
    }

-- ---- what a part tells
asked_same : (a b : Asked) → asked_part a ≡ asked_part b → a ≡ b
asked_same (asked.Join a) (asked.Join b) e = let same : a ≡ b = cc e in ap asked.Join same
asked_same (asked.Leave a) (asked.Leave b) e = let same : a ≡ b = cc e in ap asked.Leave same
asked_same (asked.Collect a) (asked.Collect b) e = let same : a ≡ b = cc e in ap asked.Collect same
asked_same (asked.Probe a) (asked.Probe b) e = let same : a ≡ b = cc e in ap asked.Probe same
asked_same (asked.Join a) (asked.Leave b) e = absurd (let h : 0 ≡ 1 = ap kind_of e in omega (arith, h))
asked_same (asked.Join a) (asked.Collect b) e = absurd (let h : 0 ≡ 2 = ap kind_of e in omega (arith, h))
asked_same (asked.Join a) (asked.Probe b) e = absurd (let h : 0 ≡ 3 = ap kind_of e in omega (arith, h))
asked_same (asked.Leave a) (asked.Join b) e = absurd (let h : 1 ≡ 0 = ap kind_of e in omega (arith, h))
asked_same (asked.Leave a) (asked.Collect b) e = absurd (let h : 1 ≡ 2 = ap kind_of e in omega (arith, h))
asked_same (asked.Leave a) (asked.Probe b) e = absurd (let h : 1 ≡ 3 = ap kind_of e in omega (arith, h))
asked_same (asked.Collect a) (asked.Join b) e = absurd (let h : 2 ≡ 0 = ap kind_of e in omega (arith, h))
asked_same (asked.Collect a) (asked.Leave b) e = absurd (let h : 2 ≡ 1 = ap kind_of e in omega (arith, h))
asked_same (asked.Collect a) (asked.Probe b) e = absurd (let h : 2 ≡ 3 = ap kind_of e in omega (arith, h))
asked_same (asked.Probe a) (asked.Join b) e = absurd (let h : 3 ≡ 0 = ap kind_of e in omega (arith, h))
asked_same (asked.Probe a) (asked.Leave b) e = absurd (let h : 3 ≡ 1 = ap kind_of e in omega (arith, h))
asked_same (asked.Probe a) (asked.Collect b) e = absurd (let h : 3 ≡ 2 = ap kind_of e in omega (arith, h))
asked_same (asked.Join a) (asked.Resize q b) e = absurd (let h : 0 ≡ 4 = ap kind_of e in omega (arith, h))
asked_same (asked.Join a) (asked.Read b) e = absurd (let h : 0 ≡ 5 = ap kind_of e in omega (arith, h))
asked_same (asked.Leave a) (asked.Resize q b) e = absurd (let h : 1 ≡ 4 = ap kind_of e in omega (arith, h))
asked_same (asked.Leave a) (asked.Read b) e = absurd (let h : 1 ≡ 5 = ap kind_of e in omega (arith, h))
asked_same (asked.Collect a) (asked.Resize q b) e = absurd (let h : 2 ≡ 4 = ap kind_of e in omega (arith, h))
asked_same (asked.Collect a) (asked.Read b) e = absurd (let h : 2 ≡ 5 = ap kind_of e in omega (arith, h))
asked_same (asked.Probe a) (asked.Resize q b) e = absurd (let h : 3 ≡ 4 = ap kind_of e in omega (arith, h))
asked_same (asked.Probe a) (asked.Read b) e = absurd (let h : 3 ≡ 5 = ap kind_of e in omega (arith, h))
asked_same (asked.Resize p a) (asked.Join b) e = absurd (let h : 4 ≡ 0 = ap kind_of e in omega (arith, h))
asked_same (asked.Resize p a) (asked.Leave b) e = absurd (let h : 4 ≡ 1 = ap kind_of e in omega (arith, h))
asked_same (asked.Resize p a) (asked.Collect b) e = absurd (let h : 4 ≡ 2 = ap kind_of e in omega (arith, h))
asked_same (asked.Resize p a) (asked.Probe b) e = absurd (let h : 4 ≡ 3 = ap kind_of e in omega (arith, h))
asked_same (asked.Resize p a) (asked.Resize q b) e = let first : p ≡ q = cc e in let second : a ≡ b = cc e in (λ i. asked.Resize (first i) (second i))
asked_same (asked.Resize p a) (asked.Read b) e = absurd (let h : 4 ≡ 5 = ap kind_of e in omega (arith, h))
asked_same (asked.Read a) (asked.Join b) e = absurd (let h : 5 ≡ 0 = ap kind_of e in omega (arith, h))
asked_same (asked.Read a) (asked.Leave b) e = absurd (let h : 5 ≡ 1 = ap kind_of e in omega (arith, h))
asked_same (asked.Read a) (asked.Collect b) e = absurd (let h : 5 ≡ 2 = ap kind_of e in omega (arith, h))
asked_same (asked.Read a) (asked.Probe b) e = absurd (let h : 5 ≡ 3 = ap kind_of e in omega (arith, h))
asked_same (asked.Read a) (asked.Resize q b) e = absurd (let h : 5 ≡ 4 = ap kind_of e in omega (arith, h))
asked_same (asked.Read a) (asked.Read b) e = let same : a ≡ b = cc e in ap asked.Read same

told_flag : Option OpAnswer → ℕ
told_flag t = if is_some t then 1 else 0

untold : (t : Option OpAnswer) → told_flag t ≡ 0 → t ≡ None
unfolding told_flag
untold None e = refl
untold (Some answer) e = absurd (let h : 1 ≡ 0 = e in omega (arith, h))

-- the operator's call for just this, that was told nothing
pub order_told : (o : Option OrderView) (asked : Asked) → order_part o ≡ order_part (Some (new_order asked)) → o ≡ Some (new_order asked)
unfolding told_flag
order_told None asked e = absurd (let h : 9 ≡ 1 = ap kind_of e in omega (arith, h))
order_told (Some order) asked e =
    let body : told_flag order.told ∷ asked_part order.asked ≡ 0 ∷ asked_part asked = body_same 1 _ _ e in
    let none : told_flag order.told ≡ 0 = cc body in
    let part : asked_part order.asked ≡ asked_part asked = cc body in
    ap₂ (λ (a : Asked) (t : Option OpAnswer). Some (record { asked = a; told = t })) (asked_same order.asked asked part) (untold order.told none)

pub no_order : (o : Option OrderView) → order_part o ≡ [] → o ≡ None
no_order None e = refl
no_order (Some order) e = absurd (let h : 1 ≡ 9 = ap kind_of e in omega (arith, h))

pub no_exchange : (x : Option ExchangeView) → exchange_part x ≡ [] → x ≡ None
no_exchange None e = refl
no_exchange (Some exchange) e = absurd (let h : 2 ≡ 9 = ap kind_of e in omega (arith, h))

pub no_collection : (c : Option CollectionView) → collection_part c ≡ [] → c ≡ None
no_collection None e = refl
no_collection (Some collection) e = absurd (let h : 4 ≡ 9 = ap kind_of e in omega (arith, h))

-- an exchange that is open asks the same of the same
pub record IsLikeExchange (open_ : Option ExchangeView) (exchange : ExchangeView) : Type 0 where
  pub now : ExchangeView
  pub is_open : open_ ≡ Some now
  pub asked : asked_of now ≡ asked_of exchange
  pub question : question_part now.question ≡ question_part exchange.question
  pub harms : harms_part now.question now.harmed ≡ harms_part exchange.question exchange.harmed
  pub reads : reads_part now.reads ≡ reads_part exchange.reads
  pub since : now.since ≡ exchange.since

pub exchange_told : (x : Option ExchangeView) (exchange : ExchangeView) → exchange_part x ≡ exchange_part (Some exchange) → IsLikeExchange x exchange
exchange_told None exchange e = absurd (let h : 9 ≡ 2 = ap kind_of e in omega (arith, h))
exchange_told (Some now) exchange e =
    let body : now.since ∷ harms_part now.question now.harmed ∷ reads_part now.reads ∷ length (asked_of now) ∷ asked_of now ++ question_part now.question ≡ exchange.since ∷ harms_part exchange.question exchange.harmed ∷ reads_part exchange.reads ∷ length (asked_of exchange) ∷ asked_of exchange ++ question_part exchange.question = body_same 2 _ _ e in
    let since : now.since ≡ exchange.since = cc body in
    let reads : reads_part now.reads ≡ reads_part exchange.reads = cc body in
    let harms : harms_part now.question now.harmed ≡ harms_part exchange.question exchange.harmed = cc body in
    let long : length (asked_of now) ≡ length (asked_of exchange) = cc body in
    let both = append_same (asked_of now) (asked_of exchange) (question_part now.question) (question_part exchange.question) long (cc body) in
    record { now = now; is_open = refl; asked = both.0; question = both.1; harms = harms; reads = reads; since = since }

-- a change of membership for the same, with the same key due
pub record IsLikePlan (open_ : Option PlanView) (plan : PlanView) : Type 0 where
  pub now : PlanView
  pub is_plan : open_ ≡ Some now
  pub asked : now.asked ≡ plan.asked
  pub due : due_key now ≡ due_key plan

due_same : (a b : Option (List ℕ)) → due_part a ≡ due_part b → a ≡ b
due_same None None e = refl
due_same None (Some b) e = absurd (cc e)
due_same (Some a) None e = absurd (cc e)
due_same (Some a) (Some b) e = let same : a ≡ b = cc e in ap (λ (k : List ℕ). Some k) same

pub plan_told : (p : Option PlanView) (plan : PlanView) → plan_part p ≡ plan_part (Some plan) → IsLikePlan p plan
plan_told None plan e = absurd (let h : 9 ≡ 3 = ap kind_of e in omega (arith, h))
plan_told (Some now) plan e =
    let body : length now.progress.left ∷ now.entered ∷ now.rescanned ∷ length (asked_part now.asked) ∷ asked_part now.asked ++ due_part (due_key now) ≡ length plan.progress.left ∷ plan.entered ∷ plan.rescanned ∷ length (asked_part plan.asked) ∷ asked_part plan.asked ++ due_part (due_key plan) = body_same 3 _ _ e in
    let long : length (asked_part now.asked) ≡ length (asked_part plan.asked) = cc body in
    let both = append_same (asked_part now.asked) (asked_part plan.asked) (due_part (due_key now)) (due_part (due_key plan)) long (cc body) in
    record { now = now; is_plan = refl; asked = asked_same now.asked plan.asked both.0; due = due_same (due_key now) (due_key plan) both.1 }

pub listing_told : (q : Question) → question_part q ≡ 1 ∷ [] → (places : List MemberPlace) × (q ≡ NextKeys places)
listing_told (Probe k) e = absurd (let h : 0 ≡ 1 = ap kind_of e in omega (arith, h))
listing_told (NextKeys places) e = (places, refl)
listing_told (NewAges k least) e = absurd (let h : 2 ≡ 1 = ap kind_of e in omega (arith, h))
listing_told (Removal k) e = absurd (let h : 3 ≡ 1 = ap kind_of e in omega (arith, h))

pub probe_told : (q : Question) (key : List ℕ) → question_part q ≡ 0 ∷ key → q ≡ Probe key
probe_told (Probe k) key e = let same : k ≡ key = cc e in ap Probe same
probe_told (NextKeys places) key e = absurd (let h : 1 ≡ 0 = ap kind_of e in omega (arith, h))
probe_told (NewAges k least) key e = absurd (let h : 2 ≡ 0 = ap kind_of e in omega (arith, h))
probe_told (Removal k) key e = absurd (let h : 3 ≡ 0 = ap kind_of e in omega (arith, h))

-- ---- caller 0's own part
pub no_call_kind : (c : Council) → kind_of (council_part c) ≢ 0
no_call_kind c e = by_parts c.order c.exchange c.plan c.collection e
  where
    by_parts : (o : Option OrderView) (x : Option ExchangeView) (p : Option PlanView) (k : Option CollectionView) → kind_of (order_part o ++ exchange_part x ++ plan_part p ++ collection_part k) ≡ 0 → ⊥
    by_parts (Some o) x p k is = absurd (let h : 1 ≡ 0 = is in omega (arith, h))
    by_parts None (Some x) p k is = absurd (let h : 2 ≡ 0 = is in omega (arith, h))
    by_parts None None (Some p) k is = absurd (let h : 3 ≡ 0 = is in omega (arith, h))
    by_parts None None None (Some k) is = absurd (let h : 4 ≡ 0 = is in omega (arith, h))
    by_parts None None None None is = absurd (let h : 9 ≡ 0 = is in omega (arith, h))

-- where it says what a council does alone, caller 0 has no open call
pub record HasNoCallBeside {S V : Type 0} (view : View S V) (council : Council) : Type 0 where
  pub no_call : (caller : CallerView) → IsAt view.callers 0 caller → caller.call ≡ None
  pub like : IsLikeCouncil view.council council

no_call_in : (number : ℕ) (call : Option CallView) (rest : List ℕ) (council : Council) → open_part number call ++ rest ≡ council_part council → (call ≡ None) × (rest ≡ council_part council)
no_call_in number None rest council e = (refl, e)
no_call_in number (Some call) rest council e = absurd (no_call_kind council (sym (ap kind_of e)))

pub no_call_of : (o : Option CallerView) (rest : List ℕ) (council : Council) → caller_part o ++ rest ≡ council_part council → ((caller : CallerView) → o ≡ Some caller → caller.call ≡ None) × (rest ≡ council_part council)
no_call_of None rest council e = (λ caller is. absurd (cc is), e)
no_call_of (Some one) rest council e = let parts = no_call_in one.number one.call rest council e in (λ caller is. ap (λ (c : CallerView). c.call) (sym (some_is is)) ∙ parts.0, parts.1)

pub none_beside : {S V : Type 0} (view : View S V) (council : Council) → own_part view 0 ≡ council_part council → HasNoCallBeside view council
none_beside view council e = let parts = no_call_of (slice_get view.callers 0) (council_part view.council) council e in record { no_call = parts.0; like = is_like view.council council parts.1 }

-- with no open call of caller 0 its own part is what the operator has under way
own_alone : (o : Option CallerView) (rest : List ℕ) → ((caller : CallerView) → o ≡ Some caller → caller.call ≡ None) → caller_part o ++ rest ≡ rest
own_alone None rest none = refl
own_alone (Some caller) rest none = ap (λ (c : Option CallView). open_part caller.number c ++ rest) (none caller refl)

pub own_is_council : {S V : Type 0} (view : View S V) → ((caller : CallerView) → IsAt view.callers 0 caller → caller.call ≡ None) → own_part view 0 ≡ council_part view.council
own_is_council view none = own_alone (slice_get view.callers 0) (council_part view.council) none

-- ---- nothing is open
abbrev pub with_plan : Option PlanView → Council
with_plan plan = record { order = None; exchange = None; plan = plan; collection = None; used = [] }

pub record IsCouncilIdle {S V : Type 0} (view : View S V) : Type 0 where
  pub no_call : (caller : CallerView) → IsAt view.callers 0 caller → caller.call ≡ None
  pub order : view.council.order ≡ None
  pub exchange : view.council.exchange ≡ None
  pub collection : view.council.collection ≡ None

pub free_idle : {S V : Type 0} (view : View S V) → NothingIsOpen (own_part view 0) → IsCouncilIdle view
free_idle view free =
    let it = none_beside view (with_plan free.plan) (free.is ∙ sym (append-nil (plan_part free.plan))) in
    record { no_call = it.no_call; order = no_order view.council.order it.like.order; exchange = no_exchange view.council.exchange it.like.exchange; collection = no_collection view.council.collection it.like.collection }

pub idle_free : {S V : Type 0} (view : View S V) → IsCouncilIdle view → NothingIsOpen (own_part view 0)
idle_free view idle = record {
  plan = view.council.plan;
  is = own_is_council view idle.no_call ∙ parts view.council.order view.council.exchange view.council.plan view.council.collection idle.order idle.exchange idle.collection;
}
  where
    parts : (o : Option OrderView) (x : Option ExchangeView) (p : Option PlanView) (c : Option CollectionView) → o ≡ None → x ≡ None → c ≡ None → order_part o ++ exchange_part x ++ plan_part p ++ collection_part c ≡ plan_part p
    parts None None p None order exchange collection = append-nil (plan_part p)
    parts (Some o) x p c order exchange collection = absurd (cc order)
    parts None (Some x) p c order exchange collection = absurd (cc exchange)
    parts None None p (Some c) order exchange collection = absurd (cc collection)

-- ---- an order, and a probe
pub record IsOrderedOnBoard {S V : Type 0} (view : View S V) (asked : Asked) : Type 0 where
  pub no_call : (caller : CallerView) → IsAt view.callers 0 caller → caller.call ≡ None
  pub order : view.council.order ≡ Some (new_order asked)
  pub exchange : view.council.exchange ≡ None
  pub collection : view.council.collection ≡ None

pub has_order : {S V : Type 0} (view : View S V) (asked : Asked) → IsOrderedOnBoard view asked → HasOrder asked (own_part view 0)
has_order view asked is = record { council = view.council; is = own_is_council view is.no_call; order = is.order; exchange = is.exchange; collection = is.collection }

pub is_ordered : {S V : Type 0} (view : View S V) (asked : Asked) → HasOrder asked (own_part view 0) → IsOrderedOnBoard view asked
is_ordered view asked has =
    let it = none_beside view has.council has.is in
    record {
      no_call = it.no_call;
      order = order_told view.council.order asked (it.like.order ∙ ap order_part has.order);
      exchange = no_exchange view.council.exchange (it.like.exchange ∙ ap exchange_part has.exchange);
      collection = no_collection view.council.collection (it.like.collection ∙ ap collection_part has.collection);
    }

pub record IsProbed {S V : Type 0} (view : View S V) (asks_for : Inquiry) (key members : List ℕ) : Type 0 where
  pub no_call : (caller : CallerView) → IsAt view.callers 0 caller → caller.call ≡ None
  pub order : view.council.order ≡ Some (new_order (asked_for asks_for key))
  pub exchange : ExchangeView
  pub is_open : view.council.exchange ≡ Some exchange
  pub question : exchange.question ≡ Probe key
  pub reads : reads_part exchange.reads ≡ reads_flag asks_for
  pub asks : asked_of exchange ≡ members

pub has_probe : {S V : Type 0} (view : View S V) (asks_for : Inquiry) (key members : List ℕ) → IsProbed view asks_for key members → HasProbe asks_for key members (own_part view 0)
has_probe view asks_for key members is = record { council = view.council; is = own_is_council view is.no_call; order = is.order; exchange = is.exchange; is_open = is.is_open; question = is.question; reads = is.reads; asks = is.asks }

pub is_probed : {S V : Type 0} (view : View S V) (asks_for : Inquiry) (key members : List ℕ) → HasProbe asks_for key members (own_part view 0) → IsProbed view asks_for key members
is_probed view asks_for key members has =
    let it = none_beside view has.council has.is in
    let x = exchange_told view.council.exchange has.exchange (it.like.exchange ∙ ap exchange_part has.is_open) in
    record {
      no_call = it.no_call;
      order = order_told view.council.order (asked_for asks_for key) (it.like.order ∙ ap order_part has.order);
      exchange = x.now;
      is_open = x.is_open;
      question = probe_told x.now.question key (x.question ∙ ap question_part has.question);
      reads = x.reads ∙ has.reads;
      asks = x.asked ∙ has.asks;
    }

-- when the members were asked
pub asked_behind : {S V : Type 0} (view : View S V) (exchange : ExchangeView) (many : ℕ) → ((caller : CallerView) → IsAt view.callers 0 caller → caller.call ≡ None) → view.council.exchange ≡ Some exchange → many ≤ exchange.since → WasAskedBehind many (own_part view 0)
asked_behind view exchange many none is_open low = record { council = view.council; is = own_is_council view none; exchange = exchange; is_open = is_open; behind = low }

pub behind_is : {S V : Type 0} (view : View S V) (exchange : ExchangeView) (many : ℕ) → view.council.exchange ≡ Some exchange → WasAskedBehind many (own_part view 0) → many ≤ exchange.since
behind_is view exchange many is_open has =
    let it = none_beside view has.council has.is in
    let x = exchange_told view.council.exchange has.exchange (it.like.exchange ∙ ap exchange_part has.is_open) in
    omega (arith, has.behind, x.since, ap (λ (e : ExchangeView). e.since) (some_is (sym is_open ∙ x.is_open)))

-- those that are harmed
pub has_harms : {S V : Type 0} (view : View S V) (exchange : ExchangeView) → ((caller : CallerView) → IsAt view.callers 0 caller → caller.call ≡ None) → view.council.exchange ≡ Some exchange → HasHarms (harms_part exchange.question exchange.harmed) (own_part view 0)
has_harms view exchange none is_open = record { council = view.council; is = own_is_council view none; exchange = exchange; is_open = is_open; harmed = refl }

pub harms_are : {S V : Type 0} (view : View S V) (exchange : ExchangeView) (harms : ℕ) → view.council.exchange ≡ Some exchange → HasHarms harms (own_part view 0) → harms_part exchange.question exchange.harmed ≡ harms
harms_are view exchange harms is_open has =
    let it = none_beside view has.council has.is in
    let x = exchange_told view.council.exchange has.exchange (it.like.exchange ∙ ap exchange_part has.is_open) in
    ap (λ (e : ExchangeView). harms_part e.question e.harmed) (some_is (sym is_open ∙ x.is_open)) ∙ x.harms ∙ has.harmed
