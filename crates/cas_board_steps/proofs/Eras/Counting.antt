-- What a change of membership counts, over one step and one hold.
use Rattle.std.proofs.Common.{◌≡◌, ◌+◌, ℕ, suc, ◌==◌, Bool, true, false, if◌then◌else◌, List, [], ◌∷◌, ◌++◌, length, drop, Option, None, Some, is_some, option_map, slice_get, refl, sym, ap, subst, ◌∙◌, append-nil, arith}
use Rattle.std.specs.Prelude.{◌&&◌, All}
use Rattle.std.proofs.lemmas.List.Elements.{All-head, All-tail}
use Rattle.cas_ballot.specs.declared.ballot.Ballot.{Ballot}
use Rattle.cas_quorum.specs.declared.era.Era.{Era}
use Rattle.cas_record.specs.declared.answer.Answer.{Answer}
use Rattle.cas_record.specs.declared.mark.Mark.{Mark}
use Rattle.cas_record.specs.declared.mark.Mark.TheVariants.{Begun, Proposed, Voted, Acked, Floor, EraEntered, Ended, Harmed, Told}
use Rattle.cas_record.specs.declared.operator.Asked.{Asked}
use Rattle.cas_record.specs.declared.operator.Asked.TheVariants as asked
use Rattle.cas_record.specs.declared.operator.OpAnswer.{OpAnswer}
use Rattle.cas_record.specs.declared.operator.OpAnswer.TheVariants as op
use Rattle.cas_model_causes.specs.Eras.Tellings.{IsPassing}
use Rattle.cas_model.specs.Collection.State.{CollectionView}
use Rattle.cas_model.specs.Council.{Council, ExchangeView, ListingView, MemberPlace, OrderView, PlanView, stepped, with_listing, without_partial}
use Rattle.cas_protocol.specs.Protocol.{is_done}
use Rattle.cas_model.specs.Calls.Step as calls
use Rattle.cas_model.specs.Calls.Step.{IsRescan, Rescans, one_more}
use Rattle.cas_model.specs.Exchanges.Step as council
use Rattle.cas_model.specs.Exchanges.Step.{IsFinishedBy, StepTell, listing_begun, told_marks}
use Rattle.cas_model.specs.Eras.Step.{plan_after, rest_of}
use Rattle.cas_model.specs.View.{View, CallView, CallerView}
use Rattle.cas_model.proofs.Places.{some_is}
use Rattle.cas_world.specs.Eras.Plans.{rescanned_of}
use Rattle.cas_board_steps.specs.Eras.Counting.{CountsTo, HasRisen, TellsCount}
use Rattle.cas_board_steps.specs.Mine.{mine, call_of, AreOfCall, done_calls}
use Rattle.cas_board_steps.specs.Calls.Open.{rescanned_behind, rescanned_in}
use Rattle.cas_board_steps.specs.Exchanges.Orders.{IsAskingHarm}
use Rattle.cas_board_steps.specs.OwnParts.{asked_of, asked_part, harms_part, reads_part, question_part, step_part, round_part, open_part, caller_part, order_part, exchange_part, plan_part, collection_part, council_part, own_part}
use Rattle.cas_board_steps.proofs.Exchanges.Councils.{whole_is}
use Rattle.cas_board_steps.proofs.Fronts.{mine_append, mine_own}
use Rattle.cas_board_steps.proofs.Exchanges.Operating.{told_mine, tells_of}

-- ---- calls that are done
pub done_append : (a b : List Mark) → done_calls (a ++ b) ≡ done_calls a + done_calls b
done_append [] b = omega arith
done_append (Ended caller call rounds told ∷ a) b = by_end (is_done told) (done_append a b)
  where
    by_end : (d : Bool) → done_calls (a ++ b) ≡ done_calls a + done_calls b → (if d then suc (done_calls (a ++ b)) else done_calls (a ++ b)) ≡ (if d then suc (done_calls a) else done_calls a) + done_calls b
    by_end true rest = omega (arith, rest)
    by_end false rest = rest
done_append (Begun caller call key program ∷ a) b = done_append a b
done_append (Proposed p ∷ a) b = done_append a b
done_append (Voted acceptor key ballot ∷ a) b = done_append a b
done_append (Acked x ∷ a) b = done_append a b
done_append (Floor key ballot state ∷ a) b = done_append a b
done_append (EraEntered proposer era ∷ a) b = done_append a b
done_append (Harmed caller call down ∷ a) b = done_append a b
done_append (Told asks told ∷ a) b = done_append a b

-- within a call none is
pub none_done : (call : ℕ) (marks : List Mark) → AreOfCall call marks → done_calls marks ≡ 0
none_done call [] all = refl
none_done call (mark ∷ marks) all = by_mark mark (All-head (λ m. call_of m ≡ Some call) mark marks all) (none_done call marks (All-tail (λ m. call_of m ≡ Some call) mark marks all))
  where
    by_mark : (m : Mark) → call_of m ≡ Some call → done_calls marks ≡ 0 → done_calls (m ∷ marks) ≡ 0
    by_mark (Proposed p) is rest = rest
    by_mark (Harmed caller one down) is rest = rest
    by_mark (Begun caller one key program) is rest = absurd (cc is)
    by_mark (Voted acceptor key ballot) is rest = absurd (cc is)
    by_mark (Acked a) is rest = absurd (cc is)
    by_mark (Floor key ballot state) is rest = absurd (cc is)
    by_mark (EraEntered proposer era) is rest = absurd (cc is)
    by_mark (Ended caller one rounds told) is rest = absurd (cc is)
    by_mark (Told asks told) is rest = absurd (cc is)

-- nor while members are asked
pub harms_undone : (marks : List Mark) → All IsAskingHarm marks → done_calls marks ≡ 0
harms_undone [] all = refl
harms_undone (mark ∷ marks) all = by_mark mark (All-head IsAskingHarm mark marks all) (harms_undone marks (All-tail IsAskingHarm mark marks all))
  where
    by_mark : (m : Mark) → IsAskingHarm m → done_calls marks ≡ 0 → done_calls (m ∷ marks) ≡ 0
    by_mark (Harmed caller one down) is rest = rest
    by_mark (Begun caller one key program) is rest = absurd is
    by_mark (Proposed p) is rest = absurd is
    by_mark (Voted acceptor key ballot) is rest = absurd is
    by_mark (Acked a) is rest = absurd is
    by_mark (Floor key ballot state) is rest = absurd is
    by_mark (EraEntered proposer era) is rest = absurd is
    by_mark (Ended caller one rounds told) is rest = absurd is
    by_mark (Told asks told) is rest = absurd is

told_undone : (asks : Asked) (told : OpAnswer) → done_calls (told_marks asks told) ≡ 0
told_undone asks (op.Probed key found) = refl
told_undone asks (op.Joined id era rescanned) = refl
told_undone asks (op.Left id era rescanned) = refl
told_undone asks (op.Resized need_prep need_acc era rescanned) = refl
told_undone asks (op.Refused fault) = refl
told_undone asks (op.Busy era) = refl
told_undone asks (op.Collected key ballot removed kept) = refl
told_undone asks (op.NotEmpty version) = refl
told_undone asks (op.Absent acceptor) = refl
told_undone asks (op.ProposerDown proposer) = refl
told_undone asks (op.Stopped why) = refl

-- the end of a call behind its other marks
pub done_at_end : (call rounds : ℕ) (told : Answer) (marks : List Mark) → done_calls (mine 0 marks) ≡ 0 → done_calls (mine 0 (marks ++ Ended 0 call rounds told ∷ [])) ≡ (if is_done told then 1 else 0)
done_at_end call rounds told marks none =
    ap done_calls (mine_append 0 marks (Ended 0 call rounds told ∷ []) ∙ ap (λ (l : List Mark). mine 0 marks ++ l) (mine_own 0 (Ended 0 call rounds told) [] refl))
    ∙ (let both = done_append (mine 0 marks) (Ended 0 call rounds told ∷ []) in let e : done_calls (mine 0 marks ++ Ended 0 call rounds told ∷ []) ≡ (if is_done told then 1 else 0) = omega (arith, both, none) in e)

-- ---- the count
-- by all of them
pub risen_by : {before done done_then count : ℕ} → count + done ≡ before + done_then → HasRisen before done done_then count
risen_by same = record { no_more = omega (arith, same); each = λ low. same }

module _ {S V : Type 0} (old new : View S V) (marks : List Mark) (made : new.marks ≡ old.marks ++ marks) where
  done_new : done_calls (mine 0 new.marks) ≡ done_calls (mine 0 old.marks) + done_calls (mine 0 marks)
  done_new = ap (λ (l : List Mark). done_calls (mine 0 l)) made ∙ ap done_calls (mine_append 0 old.marks marks) ∙ done_append (mine 0 old.marks) (mine 0 marks)

  -- by the marks that were made
  pub counts_by : (count done : ℕ) → HasRisen (rescanned_of old.council.plan) 0 done count → done ≡ done_calls (mine 0 marks) → CountsTo count old new
  counts_by count done rose is = record { no_more = omega (arith, rose.no_more, is, done_new); each = λ low. (let all = rose.each low in omega (arith, all, is, done_new)) }

  -- where none of them is the end of a call that is done
  pub counts_still : done_calls (mine 0 marks) ≡ 0 → rescanned_of new.council.plan ≡ rescanned_of old.council.plan → CountsTo (rescanned_of new.council.plan) old new
  counts_still none same = counts_by (rescanned_of new.council.plan) 0 (risen_by (let e : rescanned_of new.council.plan + 0 ≡ rescanned_of old.council.plan + 0 = omega (arith, same) in e)) (sym none)

-- ---- the plan
pub begun_same : (places : List MemberPlace) (tag : Ballot) (plan : Option PlanView) → rescanned_of (option_map (listing_begun places tag) plan) ≡ rescanned_of plan
begun_same places tag None = refl
begun_same places tag (Some plan) = refl

pub listed_same : (plan : PlanView) (listing : ListingView) → (with_listing plan listing).rescanned ≡ plan.rescanned
listed_same plan listing = by_end (listing.complete && (length listing.keys == 0))
  where
    by_end : (b : Bool) → (if b then stepped plan else record plan { listing = Some listing }).rescanned ≡ plan.rescanned
    by_end true = refl
    by_end false = refl

pub after_same : (last_proposer : ℕ) (plan : PlanView) (next : Era) → (plan_after last_proposer plan next).rescanned ≡ plan.rescanned
after_same last_proposer plan next = by_last (plan.entered == last_proposer)
  where
    by_last : (b : Bool) → (if b then record plan { progress = record { era = next; left = rest_of plan.progress.left }; entered = 0; listing = None } else record plan { entered = suc plan.entered }).rescanned ≡ plan.rescanned
    by_last true = refl
    by_last false = refl

rested_same : (plan : Option PlanView) → rescanned_of (option_map without_partial plan) ≡ rescanned_of plan
rested_same None = refl
rested_same (Some plan) = refl

-- a key that was proposed anew is counted, and the end of its call is as much
one_risen : (count : ℕ) → HasRisen count 0 1 (one_more count)
one_risen count = record { no_more = omega arith; each = λ low. omega (arith, low) }

none_risen : (count : ℕ) → HasRisen count 0 0 count
none_risen count = risen_by refl

pub rescans_count : (old new : Council) (key : List ℕ) (told : Answer) → IsRescan old 0 key → Rescans old 0 key told new → HasRisen (rescanned_of old.plan) 0 (if is_done told then 1 else 0) (rescanned_of new.plan)
rescans_count old new key told due (calls.rescans of done is) =
    let now : rescanned_of new.plan ≡ one_more (rescanned_of old.plan) = ap (λ (c : Council). rescanned_of c.plan) is ∙ listed_same (record of.plan { rescanned = one_more of.plan.rescanned }) (record of.listing { keys = drop 1 of.listing.keys }) ∙ ap one_more (sym (ap rescanned_of of.is_plan)) in
    subst (λ (b : Bool). HasRisen (rescanned_of old.plan) 0 (if b then 1 else 0) (rescanned_of new.plan)) (sym done) (subst (HasRisen (rescanned_of old.plan) 0 1) (sym now) (one_risen (rescanned_of old.plan)))
rescans_count old new key told due (calls.stops of undone is) =
    subst (λ (b : Bool). HasRisen (rescanned_of old.plan) 0 (if b then 1 else 0) (rescanned_of new.plan)) (sym undone) (subst (HasRisen (rescanned_of old.plan) 0 0) (sym (ap (λ (c : Council). rescanned_of c.plan) is)) (none_risen (rescanned_of old.plan)))
rescans_count old new key told due (calls.is_none not is) = absurd (not due)

-- ---- the operator is told
unfinished : (asks : Asked) (era rescanned : ℕ) (told : OpAnswer) → council.finished asks era rescanned told → IsPassing told → ⊥
unfinished (asked.Join id) era rescanned told is passing = subst IsPassing is passing
unfinished (asked.Leave id) era rescanned told is passing = subst IsPassing is passing
unfinished (asked.Resize need_prep need_acc) era rescanned told is passing = subst IsPassing is passing
unfinished (asked.Collect key) era rescanned told is passing = is
unfinished (asked.Probe key) era rescanned told is passing = is
unfinished (asked.Read key) era rescanned told is passing = is

told_plan : {S V : Type 0} (mid new : View S V) (told : OpAnswer) → StepTell mid told new → IsPassing told → rescanned_of new.council.plan ≡ rescanned_of mid.council.plan
told_plan {S} {V} mid new told (council.tells order said is_open was says is) passing = ap (λ (w : View S V). rescanned_of w.council.plan) is ∙ rested_same mid.council.plan
told_plan {S} {V} mid new told (council.finishes order is_open by is) passing = absurd (unfinished order.asked by.plan.progress.era.number by.plan.rescanned told by.tells passing)
told_plan {S} {V} mid new told (council.collects order is_open by is) passing = absurd (subst IsPassing by.tells passing)

passing_counts : {S V : Type 0} (old new : View S V) (told : OpAnswer) → IsPassing told → CountsTo (rescanned_of new.council.plan) old new → TellsCount told old new
passing_counts old new (op.Joined id era rescanned) passing counts = absurd passing
passing_counts old new (op.Left id era rescanned) passing counts = absurd passing
passing_counts old new (op.Resized need_prep need_acc era rescanned) passing counts = absurd passing
passing_counts old new (op.Collected key ballot removed kept) passing counts = absurd passing
passing_counts old new (op.Refused fault) passing counts = (counts, tt)
passing_counts old new (op.Busy era) passing counts = (counts, tt)
passing_counts old new (op.NotEmpty version) passing counts = (counts, tt)
passing_counts old new (op.Absent acceptor) passing counts = (counts, tt)
passing_counts old new (op.ProposerDown proposer) passing counts = (counts, tt)
passing_counts old new (op.Stopped why) passing counts = (counts, tt)
passing_counts old new (op.Probed key found) passing counts = (counts, tt)

module _ {S V : Type 0} (asks : Asked) (told : OpAnswer) (order : OrderView) (mid new : View S V) (is_order : mid.council.order ≡ Some order) (is_asked : order.asked ≡ asks) (ends : StepTell mid told new) where
  done_told : done_calls (mine 0 new.marks) ≡ done_calls (mine 0 mid.marks)
  done_told =
      let made = done_new mid new (told_marks asks told) (tells_of mid new asks told order is_order is_asked ends).leaves.made in
      let none : done_calls (mine 0 (told_marks asks told)) ≡ 0 = ap done_calls (told_mine asks told) ∙ told_undone asks told in
      omega (arith, made, none)

  -- what tells of no end leaves the count
  pub told_counts : (old : View S V) → IsPassing told → CountsTo (rescanned_of mid.council.plan) old mid → TellsCount told old new
  told_counts old passing counts =
      let plan = told_plan mid new told ends passing in
      passing_counts old new told passing (record { no_more = omega (arith, counts.no_more, plan, done_told); each = λ low. (let was = counts.each (omega (arith, plan, low)) in omega (arith, was, plan, done_told)) })

  -- at its end it is told
  pub end_counts : order.told ≡ None → IsFinishedBy mid.council order told → TellsCount told mid new
  end_counts untold by = by_asked order.asked by.tells
    where
      none_left : (rescanned : ℕ) → rescanned ≡ by.plan.rescanned → CountsTo rescanned mid new
      none_left rescanned same = risen_by (let e : rescanned + done_calls (mine 0 mid.marks) ≡ rescanned_of mid.council.plan + done_calls (mine 0 new.marks) = omega (arith, same, done_told, ap rescanned_of by.is_plan) in e)

      ended : StepTell mid told new → ((other : OrderView) → council.IsCollectedBy mid.council other told → ⊥) → rescanned_of new.council.plan ≡ 0
      ended (council.tells other said is_open was says is) none = absurd (cc (sym (ap (λ (o : OrderView). o.told) (some_is (sym is_open ∙ is_order))) ∙ was, untold))
      ended (council.finishes other is_open finished is) none = ap (λ (w : View S V). rescanned_of w.council.plan) is
      ended (council.collects other is_open collected is) none = absurd (none other collected)

      by_asked : (a : Asked) → council.finished a by.plan.progress.era.number by.plan.rescanned told → TellsCount told mid new
      by_asked (asked.Join id) is = subst (λ (t : OpAnswer). TellsCount t mid new) (sym is) (none_left by.plan.rescanned refl, ended ends (λ other collected. cc (sym is ∙ collected.tells)))
      by_asked (asked.Leave id) is = subst (λ (t : OpAnswer). TellsCount t mid new) (sym is) (none_left by.plan.rescanned refl, ended ends (λ other collected. cc (sym is ∙ collected.tells)))
      by_asked (asked.Resize need_prep need_acc) is = subst (λ (t : OpAnswer). TellsCount t mid new) (sym is) (none_left by.plan.rescanned refl, ended ends (λ other collected. cc (sym is ∙ collected.tells)))
      by_asked (asked.Collect key) is = absurd is
      by_asked (asked.Probe key) is = absurd is
      by_asked (asked.Read key) is = absurd is

-- what is told of no change of membership leaves what one has counted
pub lasts_told : {S V : Type 0} (mid new : View S V) (asks : Asked) (told : OpAnswer) (order : OrderView) → mid.council.order ≡ Some order → order.asked ≡ asks → ((era rescanned : ℕ) → council.finished asks era rescanned told → ⊥) → StepTell mid told new → rescanned_of new.council.plan ≡ rescanned_of mid.council.plan
lasts_told {S} {V} mid new asks told order is_order is_asked lasting (council.tells other said is_open was says is) = ap (λ (w : View S V). rescanned_of w.council.plan) is ∙ rested_same mid.council.plan
lasts_told mid new asks told order is_order is_asked lasting (council.finishes other is_open by is) =
    absurd (lasting by.plan.progress.era.number by.plan.rescanned (subst (λ (a : Asked). council.finished a by.plan.progress.era.number by.plan.rescanned told) (ap (λ (o : OrderView). o.asked) (some_is (sym is_open ∙ is_order)) ∙ is_asked) by.tells))
lasts_told {S} {V} mid new asks told order is_order is_asked lasting (council.collects other is_open by is) = ap (λ (w : View S V). rescanned_of w.council.plan) is ∙ rested_same mid.council.plan

-- ---- its own part
skip_part : (part later : List ℕ) → rescanned_behind (length part) (part ++ later) ≡ rescanned_behind 0 later
skip_part [] later = refl
skip_part (x ∷ part) later = skip_part part later

call_skipped : (number : ℕ) (call : Option CallView) (later : List ℕ) → rescanned_behind 0 (open_part number call ++ later) ≡ rescanned_behind 0 later
call_skipped number None later = refl
call_skipped number (Some call) later = refl

caller_skipped : (caller : Option CallerView) (later : List ℕ) → rescanned_behind 0 (caller_part caller ++ later) ≡ rescanned_behind 0 later
caller_skipped None later = refl
caller_skipped (Some caller) later = call_skipped caller.number caller.call later

order_skipped : (order : Option OrderView) (later : List ℕ) → rescanned_behind 0 (order_part order ++ later) ≡ rescanned_behind 0 later
order_skipped None later = refl
order_skipped (Some order) later = skip_part ((if is_some order.told then 1 else 0) ∷ asked_part order.asked) later

exchange_skipped : (exchange : Option ExchangeView) (later : List ℕ) → rescanned_behind 0 (exchange_part exchange ++ later) ≡ rescanned_behind 0 later
exchange_skipped None later = refl
exchange_skipped (Some exchange) later =
    skip_part (exchange.since ∷ harms_part exchange.question exchange.harmed ∷ reads_part exchange.reads ∷ length (asked_of exchange) ∷ asked_of exchange ++ question_part exchange.question) later

collection_skipped : (collection : Option CollectionView) → rescanned_behind 0 (collection_part collection) ≡ 0
collection_skipped None = refl
collection_skipped (Some collection) = ap (rescanned_behind 0) (sym (append-nil (collection_part (Some collection)))) ∙ skip_part (length (step_part collection.course.step) ∷ step_part collection.course.step ++ round_part collection ∷ collection.course.key) []

plan_counted : (plan : Option PlanView) (collection : Option CollectionView) → rescanned_behind 0 (plan_part plan ++ collection_part collection) ≡ rescanned_of plan
plan_counted None collection = collection_skipped collection
plan_counted (Some plan) collection = refl

-- it bears the count
pub own_rescanned : {S V : Type 0} (view : View S V) → rescanned_in (own_part view 0) ≡ rescanned_of view.council.plan
own_rescanned view =
    caller_skipped (slice_get view.callers 0) (council_part view.council)
    ∙ ap (rescanned_behind 0) (whole_is view.council)
    ∙ order_skipped view.council.order (exchange_part view.council.exchange ++ (plan_part view.council.plan ++ collection_part view.council.collection))
    ∙ exchange_skipped view.council.exchange (plan_part view.council.plan ++ collection_part view.council.collection)
    ∙ plan_counted view.council.plan view.council.collection
