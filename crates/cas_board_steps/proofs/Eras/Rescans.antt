-- What a hold does for a call of caller 0 that proposes a key anew, by what it does for any call.
use Rattle.std.proofs.Common.{◌≡◌, ◌≤◌, ℕ, Bool, true, false, if◌then◌else◌, inl, inr, List, [], ◌∷◌, ◌++◌, drop, None, Some, option_map, refl, sym, ap, subst, ◌∙◌, arith}
use Rattle.std.specs.Prelude.{All}
use Rattle.std.proofs.lemmas.List.Elements.{All-append, All-nil, All-cons, All-head, All-tail, All-weaker}
use Rattle.cas_change.specs.declared.program.Clause.{Clause}
use Rattle.cas_record.specs.declared.answer.Answer.{Answer}
use Rattle.cas_record.specs.declared.mark.Mark.{Mark}
use Rattle.cas_record.specs.declared.mark.Mark.TheVariants.{Begun, Proposed, Voted, Acked, Floor, EraEntered, Ended, Harmed, Told}
use Rattle.cas_record.specs.declared.operator.Asked.{Asked}
use Rattle.cas_record.specs.declared.operator.OpAnswer.{OpAnswer}
use Rattle.cas_record.specs.declared.operator.OpAnswer.TheVariants as op
use Rattle.cas_world_calls.specs.Council.{due_key, due_in}
use Rattle.cas_world_calls.proofs.Listed.{rescan_of}
use Rattle.cas_model.specs.Council.{Council, PlanView, told_so}
use Rattle.cas_protocol.specs.Protocol.{is_done}
use Rattle.cas_model.specs.Calls.Step as calls
use Rattle.cas_model.specs.Calls.Step.{IsRescan, Rescans}
use Rattle.cas_model.specs.Collection.Step.{keep_always}
use Rattle.cas_model.specs.Exchanges.Step.{StepTell, told_marks}
use Rattle.cas_model.specs.View.{View, CallerView, IsAt}
use Rattle.cas_model.proofs.Places.{some_is}
use Rattle.cas_world.specs.Exchanges.Exchange.{WasToldOrder}
use Rattle.cas_world.specs.Eras.Plans.{rescanned_of}
use Rattle.cas_board_steps.specs.Calls.Conflicts.{is_conflict}
use Rattle.cas_board_steps.specs.Calls.Changes as begins
use Rattle.cas_board_steps.specs.Eras.Counting.{CountsTo, EntersEras}
use Rattle.cas_board_steps.specs.Calls.Changes.{BeginsIn, BeginsNot, GoesOnIn, EndsMarked, IsRefusalBehind}
use Rattle.cas_board_steps.specs.Kept.{IsKept, Makes}
use Rattle.cas_board_steps.specs.Eras.Membership.{HasPlan, KeyIsDue, HasRescan, IsPlanMark, IsRescanMark}
use Rattle.cas_board_steps.specs.Mine.{mine, losses, done_calls, call_of, AreOfCall, Wanted, wants, wanted_by}
use Rattle.cas_board_steps.specs.Calls.Open.{IsIdle, rounds_after}
use Rattle.cas_board_steps.specs.Exchanges.Orders.{new_order, OperatesIn, IsToldIn}
use Rattle.cas_board_steps.specs.Owners.{is_answer, MayAdd}
use Rattle.cas_board_steps.specs.OwnParts.{council_part, order_part, exchange_part, plan_part, own_part}
use Rattle.cas_board_steps.proofs.Exchanges.Councils.{own_is_council, is_like, IsLikeCouncil, order_told, no_exchange, plan_told}
use Rattle.cas_board_steps.proofs.Eras.Counting.{counts_by, counts_still, done_at_end, none_done, rescans_count, told_counts}
use Rattle.cas_board_steps.proofs.Fronts.{mine_append, mine_own}
use Rattle.cas_board_steps.proofs.Calls.Holds.{Held}
use Rattle.cas_board_steps.proofs.Eras.Plans.{IsChanging, has_plan, is_changing, with_asked}
use Rattle.cas_board_steps.proofs.Exchanges.Operating.{tells_after, told_may_add}
use Rattle.cas_board_steps.proofs.Parts.{open_at, idle_call, beside_part}
use Rattle.cas_board_steps.proofs.Calls.Tries.{done_no_conflict, rescan_within}

-- ---- marks
of_rescan : (call : ℕ) (mark : Mark) → call_of mark ≡ Some call → IsPlanMark mark
of_rescan call (Proposed p) is = tt
of_rescan call (Harmed caller one down) is = tt
of_rescan call (Begun caller one key program) is = absurd (cc is)
of_rescan call (Voted acceptor key ballot) is = absurd (cc is)
of_rescan call (Acked a) is = absurd (cc is)
of_rescan call (Floor key ballot state) is = absurd (cc is)
of_rescan call (EraEntered proposer number) is = absurd (cc is)
of_rescan call (Ended caller one rounds told) is = absurd (cc is)
of_rescan call (Told asked told) is = absurd (cc is)

call_of_rescan : (call : ℕ) (marks : List Mark) → AreOfCall call marks → All IsPlanMark marks
call_of_rescan call marks all = All-weaker (λ mark. call_of mark ≡ Some call) IsPlanMark (of_rescan call) marks all

-- behind the end of a call the operator may be told
told_behind_end : (n call rounds : ℕ) (told : Answer) (asked : Asked) (said : OpAnswer) (marks : List Mark) → MayAdd (marks ++ Ended n call rounds told ∷ []) → MayAdd ((marks ++ Ended n call rounds told ∷ []) ++ told_marks asked said)
told_behind_end n call rounds told asked said [] may = (tt, told_may_add asked said)
told_behind_end n call rounds told asked said (Begun caller one key program ∷ marks) may = (tt, told_behind_end n call rounds told asked said marks may.1)
told_behind_end n call rounds told asked said (Proposed p ∷ marks) may = absurd (not_last marks may.0)
  where
    not_last : (l : List Mark) → l ++ Ended n call rounds told ∷ [] ≡ [] → ⊥
    not_last [] e = absurd (cc e)
    not_last (mark ∷ l) e = absurd (cc e)
told_behind_end n call rounds told asked said (Voted acceptor key ballot ∷ marks) may = absurd (cc (none_behind marks may.0))
  where
    none_behind : (l : List Mark) → All (λ mark. is_answer mark ≡ false) (l ++ Ended n call rounds told ∷ []) → true ≡ false
    none_behind [] all = All-head (λ mark. is_answer mark ≡ false) (Ended n call rounds told) [] all
    none_behind (mark ∷ l) all = none_behind l (All-tail (λ one. is_answer one ≡ false) mark (l ++ Ended n call rounds told ∷ []) all)
told_behind_end n call rounds told asked said (Acked a ∷ marks) may = (tt, told_behind_end n call rounds told asked said marks may.1)
told_behind_end n call rounds told asked said (Floor key ballot state ∷ marks) may = (tt, told_behind_end n call rounds told asked said marks may.1)
told_behind_end n call rounds told asked said (EraEntered proposer number ∷ marks) may = (tt, told_behind_end n call rounds told asked said marks may.1)
told_behind_end n call rounds told asked said (Ended caller one some answer_ ∷ marks) may = (tt, told_behind_end n call rounds told asked said marks may.1)
told_behind_end n call rounds told asked said (Harmed caller one down ∷ marks) may = (tt, told_behind_end n call rounds told asked said marks may.1)
told_behind_end n call rounds told asked said (Told what answer_ ∷ marks) may = (tt, told_behind_end n call rounds told asked said marks may.1)

-- ---- the key that is due
-- as the council has it
record DueIn (council : Council) (asked : Asked) (key : List ℕ) : Type 0 where
  order : council.order ≡ Some (new_order asked)
  unasked : council.exchange ≡ None
  plan : PlanView
  is_plan : council.plan ≡ Some plan
  is_for : plan.asked ≡ asked
  due : due_key plan ≡ Some key

due_in_council : (council : Council) (asked : Asked) (key : List ℕ) → KeyIsDue asked key (council_part council) → DueIn council asked key
due_in_council c asked key is =
    let like : IsLikeCouncil c is.has_plan.council = is_like c is.has_plan.council is.has_plan.is in
    let p = plan_told c.plan is.has_plan.plan (like.plan ∙ ap plan_part is.has_plan.is_plan) in
    record {
      order = order_told c.order asked (like.order ∙ ap order_part is.has_plan.order);
      unasked = no_exchange c.exchange (like.exchange ∙ ap exchange_part is.has_plan.unasked);
      plan = p.now;
      is_plan = p.is_plan;
      is_for = p.asked ∙ is.has_plan.is_for;
      due = p.due ∙ is.due;
    }

due_rescan : (council : Council) (asked : Asked) (key : List ℕ) → DueIn council asked key → IsRescan council 0 key
due_rescan c asked key d = rescan_of c 0 key refl (record { order = new_order asked; is_open = d.order; plan = d.plan; is_plan = d.is_plan; is_for = d.is_for; due = d.due })

-- it is counted, or the operator is told why not
data RescannedOnBoard {S V : Type 0} (new : View S V) (asked : Asked) (told : Answer) : Type 0 where
  is_counted : is_done told ≡ true → IsChanging new asked → RescannedOnBoard new asked told
  is_stopped : is_done told ≡ false → new.council.order ≡ Some (told_so (op.Stopped told) (new_order asked)) → RescannedOnBoard new asked told

rescanned : {S V : Type 0} (old new : View S V) (asked : Asked) (key : List ℕ) (told : Answer) → DueIn old.council asked key → Rescans old.council 0 key told new.council → ((caller : CallerView) → IsAt new.callers 0 caller → caller.call ≡ None) → RescannedOnBoard new asked told
rescanned {S} {V} old new asked key told due (calls.rescans of done same) none = is_counted done (record {
  no_call = none;
  order = ap (λ (k : Council). k.order) same ∙ due.order;
  unasked = ap (λ (k : Council). k.exchange) same ∙ due.unasked;
  plan = calls.rescanned_by of.plan of.listing;
  is_plan = ap (λ (k : Council). k.plan) same;
  is_for = with_asked (record of.plan { rescanned = calls.one_more of.plan.rescanned }) (record of.listing { keys = drop 1 of.listing.keys }) ∙ ap (λ (p : PlanView). p.asked) (some_is (sym of.is_plan ∙ due.is_plan)) ∙ due.is_for;
})
rescanned {S} {V} old new asked key told due (calls.stops of undone same) none = is_stopped undone (ap (λ (k : Council). k.order) same ∙ ap (option_map (told_so (op.Stopped told))) due.order)
rescanned old new asked key told due (calls.is_none not same) none = absurd (not (due_rescan old.council asked key due))

-- ---- such a call begins
pub plan_is_idle : (asked : Asked) (own : List ℕ) → HasPlan asked own → IsIdle own
plan_is_idle asked own has = record { council = has.council; unasked = has.unasked; is = has.is }

-- the key that the store names as due
pub is_due : {S V : Type 0} (view : View S V) (asked : Asked) (key : List ℕ) → HasPlan asked (own_part view 0) → due_in view.council.plan ≡ Some key → KeyIsDue asked key (own_part view 0)
is_due view asked key has due =
    let is = is_changing view asked has in
    record { has_plan = record { council = view.council; is = own_is_council view is.no_call; order = is.order; unasked = is.unasked; plan = is.plan; is_plan = is.is_plan; is_for = is.is_for }; due = sym (ap due_in is.is_plan) ∙ due }

due_there : {S V : Type 0} (view : View S V) (asked : Asked) (key : List ℕ) → HasPlan asked (own_part view 0) → due_in view.council.plan ≡ Some key → DueIn view.council asked key
due_there view asked key has due =
    let is = is_changing view asked has in
    record { order = is.order; unasked = is.unasked; plan = is.plan; is_plan = is.is_plan; is_for = is.is_for; due = sym (ap due_in is.is_plan) ∙ due }

pub rescan_begins : {S V : Type 0} (call : ℕ) (old new : View S V) (asked : Asked) (key : List ℕ) → HasPlan asked (own_part old 0) → due_in old.council.plan ≡ Some key → BeginsIn 0 call key keep_always old new → OperatesIn IsPlanMark 0 old new × HasRescan asked call key (own_part new 0)
rescan_begins call old new asked key has due b = (
  record {
    marks = Begun 0 call key keep_always ∷ b.more;
    makes = b.makes;
    all_such = subst (All IsPlanMark) (sym (mine_own 0 (Begun 0 call key keep_always) b.more refl)) (All-cons IsPlanMark (Begun 0 call key keep_always) (mine 0 b.more) refl (call_of_rescan call (mine 0 b.more) b.of_call));
    few = subst (λ (l : List Mark). losses l ≤ 0) (sym (mine_own 0 (Begun 0 call key keep_always) b.more refl)) (let none = b.none_lost in omega (arith, none));
    counts = λ enters. counts_still old new (Begun 0 call key keep_always ∷ b.more) b.makes.made
        (ap done_calls (mine_own 0 (Begun 0 call key keep_always) b.more refl) ∙ none_done call (mine 0 b.more) b.of_call) (ap (λ (k : Council). rescanned_of k.plan) b.council);
    keeps = λ not. ap (λ (k : Council). rescanned_of k.plan) b.council;
  },
  record { called = b.is_open; due = subst (KeyIsDue asked key) (sym b.beside) (is_due old asked key has due) },
)

-- what was made, where the end of the call leaves nothing open
record EndsRescan {S V : Type 0} (such : Mark → Type 0) (most : ℕ) (old mid : View S V) (asked : Asked) (told : Answer) : Type 0 where
  marks : List Mark
  makes : Makes 0 old mid marks
  may_tell : (said : OpAnswer) → MayAdd (marks ++ told_marks asked said)
  all_such : All such (mine 0 marks)
  few : losses (mine 0 marks) ≤ most
  none : (caller : CallerView) → IsAt mid.callers 0 caller → caller.call ≡ None
  becomes : RescannedOnBoard mid asked told
  counts : CountsTo (rescanned_of mid.council.plan) old mid

-- a call that is not begun is not done
refused_undone : {made : ℕ} {told : Answer} → IsRefusalBehind made told → is_done told ≡ false
refused_undone (inl full) = ap is_done full.0
refused_undone (inr none) = ap is_done none

begins_not : {S V : Type 0} (old mid : View S V) (asked : Asked) (key : List ℕ) (told : Answer) → HasPlan asked (own_part old 0) → due_in old.council.plan ≡ Some key → BeginsNot 0 key keep_always old mid told → EndsRescan IsPlanMark 0 old mid asked told
begins_not old mid asked key told has due (begins.ends_at_once call rounds makes leaves no_conflict) =
    let begun : Mark = Begun 0 call key keep_always in
    let ended : Mark = Ended 0 call rounds told in
    let own : mine 0 (begun ∷ ended ∷ []) ≡ begun ∷ ended ∷ [] = mine_own 0 begun (ended ∷ []) refl ∙ ap (λ (l : List Mark). begun ∷ l) (mine_own 0 ended [] refl) in
    let none = idle_call mid 0 leaves.is_idle in
    record {
      marks = begun ∷ ended ∷ [];
      makes = makes;
      may_tell = λ said. (tt, (tt, told_may_add asked said));
      all_such = subst (All IsPlanMark) (sym own) (All-cons IsPlanMark begun (ended ∷ []) refl (All-cons IsPlanMark ended [] no_conflict (All-nil IsPlanMark)));
      few = subst (λ (l : List Mark). losses l ≤ 0) (sym own) (omega arith);
      none = none;
      becomes = rescanned old mid asked key told (due_there old asked key has due) leaves.rescans none;
      counts = counts_by old mid (begun ∷ ended ∷ []) makes.made (rescanned_of mid.council.plan) (if is_done told then 1 else 0)
          (rescans_count old.council mid.council key told (due_rescan old.council asked key (due_there old asked key has due)) leaves.rescans) (sym (ap done_calls own));
    }
begins_not old mid asked key told has due (begins.is_refused refusal makes leaves) =
    let none = idle_call mid 0 leaves.is_idle in
    record {
      marks = [];
      makes = makes;
      may_tell = λ said. told_may_add asked said;
      all_such = All-nil IsPlanMark;
      few = omega arith;
      none = none;
      becomes = rescanned old mid asked key told (due_there old asked key has due) leaves.rescans none;
      counts = counts_by old mid [] makes.made (rescanned_of mid.council.plan) (if is_done told then 1 else 0)
          (rescans_count old.council mid.council key told (due_rescan old.council asked key (due_there old asked key has due)) leaves.rescans) (ap (λ (b : Bool). if b then 1 else 0) (refused_undone refusal));
    }

-- ---- it goes on, and ends
pub rescan_goes_on : {S V : Type 0} (call most : ℕ) (old new : View S V) (asked : Asked) (key : List ℕ) → HasRescan asked call key (own_part old 0) → GoesOnIn 0 call most old new → OperatesIn IsPlanMark most old new × HasRescan asked call key (own_part new 0)
rescan_goes_on call most old new asked key has g = (
  record { marks = g.marks; makes = g.makes; all_such = call_of_rescan call (mine 0 g.marks) g.of_call; few = g.few; counts = λ enters. counts_still old new g.marks g.makes.made (none_done call (mine 0 g.marks) g.of_call) (ap (λ (k : Council). rescanned_of k.plan) g.council); keeps = λ not. ap (λ (k : Council). rescanned_of k.plan) g.council },
  record { called = g.is_open; due = subst (KeyIsDue asked key) (sym g.beside) has.due },
)

losses_end : (marks : List Mark) (n call rounds : ℕ) (told : Answer) → losses (marks ++ Ended n call rounds told ∷ []) ≡ losses marks
losses_end [] n call rounds told = refl
losses_end (Harmed caller one false ∷ marks) n call rounds told = let rest = losses_end marks n call rounds told in omega (arith, rest)
losses_end (Harmed caller one true ∷ marks) n call rounds told = losses_end marks n call rounds told
losses_end (Begun caller one key program ∷ marks) n call rounds told = losses_end marks n call rounds told
losses_end (Proposed p ∷ marks) n call rounds told = losses_end marks n call rounds told
losses_end (Voted acceptor key ballot ∷ marks) n call rounds told = losses_end marks n call rounds told
losses_end (Acked a ∷ marks) n call rounds told = losses_end marks n call rounds told
losses_end (Floor key ballot state ∷ marks) n call rounds told = losses_end marks n call rounds told
losses_end (EraEntered proposer number ∷ marks) n call rounds told = losses_end marks n call rounds told
losses_end (Ended caller one some answer_ ∷ marks) n call rounds told = losses_end marks n call rounds told
losses_end (Told what answer_ ∷ marks) n call rounds told = losses_end marks n call rounds told

ends_rescan : {S V : Type 0} (such : Mark → Type 0) (call most : ℕ) (old mid : View S V) (asked : Asked) (key : List ℕ) (program : List Clause) (told : Answer) → ((mark : Mark) → IsPlanMark mark → such mark) → such (Ended 0 call (rounds_after (own_part old 0)) told)
    → HasRescan asked call key (own_part old 0) → IsKept old → wanted_by 0 old.marks ≡ Some (wants call key program) → EndsMarked 0 call most old mid told → EndsRescan such most old mid asked told
ends_rescan {S} {V} such call most old mid asked key program told weaker such_end has kept wanted e =
    let o = open_at old 0 call has.called in
    let rounds : ℕ = rounds_after (own_part old 0) in
    let ended : Mark = Ended 0 call rounds told in
    let own : mine 0 (e.marks ++ ended ∷ []) ≡ mine 0 e.marks ++ ended ∷ [] = mine_append 0 e.marks (ended ∷ []) ∙ ap (λ (l : List Mark). mine 0 e.marks ++ l) (mine_own 0 ended [] refl) in
    let none = idle_call mid 0 e.is_idle in
    let same_key : o.open_call.key ≡ key = ap (λ (w : Wanted). w.key) (some_is (sym (kept.wanted 0 o.caller o.open_call o.at_caller o.is_open) ∙ wanted)) in
    let rescans_so : Rescans old.council 0 key told mid.council = subst (λ (k : List ℕ). Rescans old.council 0 k told mid.council) same_key (e.rescans o.caller o.open_call o.at_caller o.is_open) in
    let due = due_in_council old.council asked key (subst (KeyIsDue asked key) (beside_part old 0 o.caller o.open_call o.at_caller o.is_open) has.due) in
    record {
      marks = e.marks ++ ended ∷ [];
      makes = e.makes;
      may_tell = λ said. told_behind_end 0 call rounds told asked said e.marks e.makes.may_add;
      all_such = subst (All such) (sym own) (All-append such (mine 0 e.marks) (ended ∷ []) (All-weaker IsPlanMark such weaker (mine 0 e.marks) (call_of_rescan call (mine 0 e.marks) e.of_call)) (All-cons such ended [] such_end (All-nil such)));
      few = subst (λ (l : List Mark). losses l ≤ most) (sym own) (let same = losses_end (mine 0 e.marks) 0 call rounds told in let low = e.few in omega (arith, same, low));
      none = none;
      becomes = rescanned old mid asked key told due rescans_so none;
      counts = counts_by old mid (e.marks ++ ended ∷ []) e.makes.made (rescanned_of mid.council.plan) (if is_done told then 1 else 0)
          (rescans_count old.council mid.council key told (due_rescan old.council asked key due) rescans_so) (sym (done_at_end call rounds told e.marks (none_done call (mine 0 e.marks) e.of_call)));
    }

-- the key is counted, and the change of membership goes on
counted_on : {S V : Type 0} (most : ℕ) (old mid : View S V) (asked : Asked) (told : Answer) → EndsRescan IsPlanMark most old mid asked told → is_done told ≡ true → OperatesIn IsPlanMark most old mid × HasPlan asked (own_part mid 0)
counted_on {S} {V} most old mid asked told e done = (record { marks = e.marks; makes = e.makes; all_such = e.all_such; few = e.few; counts = λ enters. e.counts; keeps = λ not. absurd (not (λ p e. tt)) }, has_plan mid asked (by_case e.becomes))
  where
    by_case : RescannedOnBoard mid asked told → IsChanging mid asked
    by_case (is_counted did is) = is
    by_case (is_stopped undone order) = absurd (cc (done, undone))

-- or the operator may be told why not, and is
stopped_order : {S V : Type 0} (mid : View S V) (asked : Asked) (told : Answer) → RescannedOnBoard mid asked told → is_done told ≡ false → mid.council.order ≡ Some (told_so (op.Stopped told) (new_order asked))
stopped_order mid asked told (is_counted done is) undone = absurd (cc (done, undone))
stopped_order mid asked told (is_stopped did order) undone = order

may_stop : {S V : Type 0} (such : Mark → Type 0) (most : ℕ) (old mid : View S V) (asked : Asked) (told : Answer) → EndsRescan such most old mid asked told → is_done told ≡ false → WasToldOrder mid (op.Stopped told)
may_stop such most old mid asked told e undone = record { order = told_so (op.Stopped told) (new_order asked); is_open = stopped_order mid asked told e.becomes undone; said = op.Stopped told; was_said = refl; same = refl }

stops_so : {S V : Type 0} (such : Mark → Type 0) → EntersEras such → (most : ℕ) (old mid new : View S V) (asked : Asked) (told : Answer) → EndsRescan such most old mid asked told → IsKept mid → mid.last_proposer ≡ old.last_proposer → is_done told ≡ false → StepTell mid (op.Stopped told) new → Held old new (IsToldIn asked such most old new (op.Stopped told))
stops_so such entering most old mid new asked told e kept last_proposer undone ends =
    tells_after such most old mid new e.marks asked (op.Stopped told) (told_so (op.Stopped told) (new_order asked)) (record { makes = e.makes; kept = kept; last_proposer = last_proposer; none = e.none }) e.all_such e.few (e.may_tell (op.Stopped told)) (stopped_order mid asked told e.becomes undone) refl ends
    (λ enters. told_counts asked (op.Stopped told) (told_so (op.Stopped told) (new_order asked)) mid new (stopped_order mid asked told e.becomes undone) refl ends old tt e.counts) (λ not. absurd (not entering))

-- ---- by how it began
module _ {S V : Type 0} (old mid : View S V) (asked : Asked) (key : List ℕ) (told : Answer) (has : HasPlan asked (own_part old 0)) (due : due_in old.council.plan ≡ Some key) (begun : BeginsNot 0 key keep_always old mid told) where
  pub not_begun_counted : is_done told ≡ true → OperatesIn IsPlanMark 0 old mid × HasPlan asked (own_part mid 0)
  not_begun_counted = counted_on 0 old mid asked told (begins_not old mid asked key told has due begun)

  pub not_begun_may_stop : is_done told ≡ false → WasToldOrder mid (op.Stopped told)
  not_begun_may_stop = may_stop IsPlanMark 0 old mid asked told (begins_not old mid asked key told has due begun)

  pub not_begun_stops : (new : View S V) → IsKept mid → mid.last_proposer ≡ old.last_proposer → is_done told ≡ false → StepTell mid (op.Stopped told) new → Held old new (IsToldIn asked IsPlanMark 0 old new (op.Stopped told))
  not_begun_stops new = stops_so IsPlanMark (λ p e. tt) 0 old mid new asked told (begins_not old mid asked key told has due begun)

-- ---- by how it ended
module _ {S V : Type 0} (call most : ℕ) (old mid : View S V) (asked : Asked) (key : List ℕ) (program : List Clause) (told : Answer) (has : HasRescan asked call key (own_part old 0)) (kept : IsKept old) (wanted : wanted_by 0 old.marks ≡ Some (wants call key program)) (ended : EndsMarked 0 call most old mid told) where
  pub ended_counted : is_done told ≡ true → OperatesIn IsPlanMark most old mid × HasPlan asked (own_part mid 0)
  ended_counted done = counted_on most old mid asked told (ends_rescan IsPlanMark call most old mid asked key program told (λ mark such. such) (done_no_conflict told done) has kept wanted ended) done

  ends_within : (tries : ℕ) → (is_conflict told ≡ true → rounds_after (own_part old 0) ≡ tries) → EndsRescan (IsRescanMark tries) most old mid asked told
  ends_within tries spent = ends_rescan (IsRescanMark tries) call most old mid asked key program told (rescan_within tries) spent has kept wanted ended

  pub ended_may_stop : is_done told ≡ false → WasToldOrder mid (op.Stopped told)
  ended_may_stop = may_stop (IsRescanMark (rounds_after (own_part old 0))) most old mid asked told (ends_within (rounds_after (own_part old 0)) (λ conflict. refl))

  pub ended_stops : (tries : ℕ) → (is_conflict told ≡ true → rounds_after (own_part old 0) ≡ tries) → (new : View S V) → IsKept mid → mid.last_proposer ≡ old.last_proposer → is_done told ≡ false → StepTell mid (op.Stopped told) new → Held old new (IsToldIn asked (IsRescanMark tries) most old new (op.Stopped told))
  ended_stops tries spent new = stops_so (IsRescanMark tries) (λ p e. tt) most old mid new asked told (ends_within tries spent)
