-- What a hold does for a collection that renews a proposer, whose open round is closed.
use Rattle.std.proofs.Common.{◌≡◌, ◌≢◌, ℕ, zero, suc, ◌+◌, Bool, true, false, if◌then◌else◌, List, [], ◌++◌, length, Option, None, Some, IsSome, is_some, option_map, slice_get, slice_set, inl, inr, refl, sym, ap, ap₂, subst, ◌∙◌, append-nil, length-set}
use Rattle.std.specs.Prelude.{◌⊎◌, not, nat_lt}
use Rattle.std.proofs.lemmas.List.Elements.{All-nil}
use Rattle.cas_collect.specs.declared.collect.CollectStep.{CollectStep}
use Rattle.cas_collect.specs.declared.collect.CollectStep.TheVariants as step
use Rattle.cas_collect.specs.Order.{step_after}
use Rattle.cas_proposer.specs.Desk.{DeskView}
use Rattle.cas_proposer.specs.declared.round.Round.{Round}
use Rattle.cas_record.specs.declared.answer.Answer.{Answer}
use Rattle.cas_record.specs.declared.answer.Answer.TheVariants as answer
use Rattle.cas_record.specs.declared.answer.Cause.{Cause}
use Rattle.cas_record.specs.declared.answer.Cause.TheVariants as cause
use Rattle.cas_record.specs.declared.mark.Mark.{Mark}
use Rattle.cas_record.specs.declared.operator.Asked.TheVariants as asked
use Rattle.cas_record.specs.declared.operator.OpAnswer.{OpAnswer}
use Rattle.cas_record.specs.declared.operator.OpAnswer.TheVariants as op
use Rattle.cas_model.specs.Collection.State.{CollectionView}
use Rattle.cas_model.specs.Council.{Council, OrderView, told_so, silent_order}
use Rattle.cas_protocol.specs.Protocol.{is_done}
use Rattle.cas_model.specs.Collection.Step as collect
use Rattle.cas_model.specs.Collection.Step.{StepRenew, RenewsNext}
use Rattle.cas_model.specs.Exchanges.Step.{StepTell}
use Rattle.cas_model.specs.Stops.Step as stops
use Rattle.cas_model.specs.Stops.Step.{OpenCallAt, closed_by, LeavesRound}
use Rattle.cas_model.specs.View.{Meaning, View, CallView, CallerView, IsAt}
use Rattle.cas_model.proofs.Places.{same_or_not, at_one, at_set, some_is}
use Rattle.cas_world.specs.Collection.Collect.{GoesOnCollecting, renewal_in, renewal_of}
use Rattle.cas_world.specs.Exchanges.Exchange.{WasToldOrder}
use Rattle.cas_world.specs.Eras.Plans.{rescanned_of}
use Rattle.cas_world.specs.Readers.{closed_in}
use Rattle.cas_board_steps.specs.Collection.Collecting.{HasStep, IsTombstoneMark, IsCollectAnswer}
use Rattle.cas_board_steps.specs.Calls.Conflicts.{told_conflict, is_conflict}
use Rattle.cas_board_steps.specs.Kept.{IsStaged, running, is_met, is_closed, IsKept, Makes}
use Rattle.cas_board_steps.specs.Mine.{wants, wanted_by}
use Rattle.cas_board_steps.specs.Exchanges.Orders.{new_order, OperatesIn, IsToldIn}
use Rattle.cas_board_steps.specs.Owners.{owner_of}
use Rattle.cas_board_steps.specs.OwnParts.{caller_part, open_part, call_part, phase_of, own_part}
use Rattle.cas_board_steps.proofs.Calls.Acts.{Spares, spares_set, round_set, has_round, was_desk, staged_same}
use Rattle.cas_board_steps.proofs.Collection.Collecting.{IsStepDue, has_step, is_step}
use Rattle.cas_board_steps.proofs.Collection.Steps.{stopped_held, no_marks, none_counted, steps_on}
use Rattle.cas_board_steps.proofs.Calls.Holds.{Held}
use Rattle.cas_board_steps.proofs.Exchanges.Operating.{leaves_desks}

-- ---- a hold that makes no mark, and closes what another caller has open or leaves it
pub record PassesHold {S V : Type 0} (old mid : View S V) : Type 0 where
  pub makes : Makes 0 old mid []
  pub kept : IsKept mid
  pub last_proposer : mid.last_proposer ≡ old.last_proposer
  pub none : (caller : CallerView) → IsAt mid.callers 0 caller → caller.call ≡ None

passes_council : {S V : Type 0} (old mid new : View S V) (council : Council) → PassesHold old mid → new ≡ record mid { council = council } → PassesHold old new
passes_council {S} {V} old mid new council passes is = subst (λ (w : View S V). PassesHold old w) (sym is) (record {
  makes = record { last_proposer = passes.makes.last_proposer; made = passes.makes.made; may_add = passes.makes.may_add; owned = passes.makes.owned; others = others };
  kept = record { places = record { desks = passes.kept.places.desks; callers = passes.kept.places.callers }; staged = passes.kept.staged; wanted = passes.kept.wanted };
  last_proposer = passes.last_proposer;
  none = passes.none;
})
  where
    others : (m : ℕ) → m ≢ 0 → own_part (record mid { council = council }) m ≡ own_part old m
    others zero other = absurd (other refl)
    others (suc m) other = passes.makes.others (suc m) other

makes_behind : {S V : Type 0} (a b c : View S V) (l : List Mark) → Makes 0 a b [] → Makes 0 b c l → Makes 0 a c l
makes_behind a b c l first then_ = record {
  last_proposer = then_.last_proposer ∙ first.last_proposer;
  made = then_.made ∙ ap (λ (k : List Mark). k ++ l) (first.made ∙ append-nil a.marks);
  may_add = then_.may_add;
  owned = then_.owned;
  others = λ m other. then_.others m other ∙ first.others m other;
}

-- so the operator is told behind it
passes_told : {S V : Type 0} (key : List ℕ) (most : ℕ) (old mid new : View S V) (said told : OpAnswer) → PassesHold old mid → mid.council.order ≡ Some (told_so said (new_order (asked.Collect key))) → IsCollectAnswer key said → rescanned_of mid.council.plan ≡ rescanned_of old.council.plan → WasToldOrder mid told → StepTell mid told new
    → Held old new (IsToldIn (asked.Collect key) (IsTombstoneMark key) most old new told × IsCollectAnswer key told)
passes_told key most old mid new said told passes order answers planned was ends =
    let held = stopped_held key most mid mid new told (record { leaves = leaves_desks mid mid mid [] refl refl refl refl (sym (append-nil mid.marks)); said = said; order = order; answers = answers; planned = refl }) was ends passes.kept passes.none in
    let d = held.does.0 in
    record {
      does = (record { marks = d.marks; makes = makes_behind old mid new _ passes.makes d.makes; all_such = d.all_such; few = d.few; is_free = d.is_free; counts = λ enters. absurd (enters 0 0); keeps = λ not. d.keeps (λ enters. enters 0 0) ∙ planned }, held.does.1);
      kept = held.kept;
      last_proposer = held.last_proposer ∙ passes.last_proposer;
    }

-- ---- a desk changes, and its round stays open or not
passes_desk : {S V : Type 0} (old mid : View S V) (p : ℕ) (desk now : DeskView V) → IsAt old.desks p desk → is_some now.round ≡ is_some desk.round → mid.last_proposer ≡ old.last_proposer → mid.desks ≡ slice_set old.desks p now → mid.callers ≡ old.callers → mid.marks ≡ old.marks
    → IsKept old → ((caller : CallerView) → IsAt old.callers 0 caller → caller.call ≡ None) → PassesHold old mid
passes_desk {S} {V} old mid p desk now at same last_proposer desks callers made kept none = record {
  makes = record { last_proposer = last_proposer; made = made ∙ sym (append-nil old.marks); may_add = tt; owned = All-nil (λ i. (m : ℕ) → owner_of i ≡ Some m → m ≡ 0); others = others };
  kept = record {
    places = record { desks = ap (λ (l : List (DeskView V)). length l) desks ∙ length-set old.desks p now ∙ kept.places.desks ∙ ap suc (sym last_proposer); callers = ap (λ (l : List CallerView). length l) callers ∙ kept.places.callers ∙ ap suc (sym last_proposer) };
    staged = λ id one caller call at_desk at_caller is_call.
        let d = was_desk old.desks mid.desks id one (ap (λ (l : List (DeskView V)). has_round (slice_get l id)) desks ∙ round_set old.desks p now desk at same id) at_desk in
        staged_same one d.was call d.same (kept.staged id d.was caller call d.at_was (subst (λ (l : List CallerView). IsAt l id caller) callers at_caller) is_call);
    wanted = λ id caller call at_caller is_call. ap (wanted_by id) made ∙ kept.wanted id caller call (subst (λ (l : List CallerView). IsAt l id caller) callers at_caller) is_call;
  };
  last_proposer = last_proposer;
  none = λ caller here. none caller (subst (λ (l : List CallerView). IsAt l 0 caller) callers here);
}
  where
    others : (m : ℕ) → m ≢ 0 → own_part mid m ≡ own_part old m
    others zero other = absurd (other refl)
    others (suc m) other = ap (λ (l : List CallerView). caller_part (slice_get l (suc m))) callers

-- ---- a round is closed, and its caller told so
-- the answer tells neither a conflict nor that it is done
closed_told : (told : Answer) (why : Cause) (call : CallView) → is_conflict told ≡ false → is_done told ≡ false → (told_conflict (closed_by told why call).told ≡ false) × IsSome (closed_in (Some (closed_by told why call)))
closed_told told why call unmet undone = by_test (is_some call.proposed)
  where
    by_done : (b : Bool) (t : Answer) → is_done t ≡ b → b ≡ false → IsSome (closed_in (Some (record call { reserved = 1; told = Some t; is_closed = true })))
    by_done true t e is_no = absurd (cc is_no)
    by_done false t e is_no = subst (λ (d : Bool). IsSome (if not d then Some t else None)) (sym e) refl

    by_test : (b : Bool) → (told_conflict (Some (if b then answer.Unsettled why else told)) ≡ false) × IsSome (closed_in (Some (record call { reserved = 1; told = Some (if b then answer.Unsettled why else told); is_closed = true })))
    by_test true = (refl, refl)
    by_test false = (unmet, by_done (is_done told) told refl undone)

running_unmet : {V : Type 0} (desk : DeskView V) (call : CallView) (round : Round) → desk.round ≡ Some round → IsStaged desk call → told_conflict call.told ≡ false
running_unmet desk call round is (running some unmet unclosed) = unmet
running_unmet desk call round is (is_met none met unproposed unclosed) = absurd (cc (sym is ∙ none))
running_unmet desk call round is (is_closed none closed unmet) = unmet

passes_closed : {S V : Type 0} (old mid : View S V) (p : ℕ) (told : Answer) (why : Cause) (desk now : DeskView V) (round : Round) (of_call : OpenCallAt old p) → is_conflict told ≡ false → is_done told ≡ false → IsAt old.desks p desk → desk.round ≡ Some round → now.round ≡ None
    → mid.last_proposer ≡ old.last_proposer → mid.desks ≡ slice_set old.desks p now → mid.callers ≡ slice_set old.callers p (record of_call.caller { call = Some (closed_by told why of_call.call) }) → mid.marks ≡ old.marks
    → IsKept old → ((caller : CallerView) → IsAt old.callers 0 caller → caller.call ≡ None) → PassesHold old mid
passes_closed {S} {V} old mid p told why desk now round of_call no_conflict undone at is_round idle last_proposer desks callers made kept none = record {
  makes = record { last_proposer = last_proposer; made = made ∙ sym (append-nil old.marks); may_add = tt; owned = All-nil (λ i. (m : ℕ) → owner_of i ≡ Some m → m ≡ 0); others = others };
  kept = record {
    places = record { desks = ap (λ (l : List (DeskView V)). length l) desks ∙ length-set old.desks p now ∙ kept.places.desks ∙ ap suc (sym last_proposer); callers = ap (λ (l : List CallerView). length l) callers ∙ length-set old.callers p next ∙ kept.places.callers ∙ ap suc (sym last_proposer) };
    staged = staged;
    wanted = wanted;
  };
  last_proposer = last_proposer;
  none = λ caller here. none caller (sym (sparing.others 0 not_operator) ∙ here);
}
  where
    next : CallerView
    next = record of_call.caller { call = Some (closed_by told why of_call.call) }

    not_operator : 0 ≢ p
    not_operator is = cc (sym (none of_call.caller (subst (λ (k : ℕ). IsAt old.callers k of_call.caller) (sym is) of_call.at_caller)) ∙ of_call.is_open)

    sparing : Spares p old.callers mid.callers
    sparing = spares_set p old.callers mid.callers next callers

    sparing_desks : Spares p old.desks mid.desks
    sparing_desks = spares_set p old.desks mid.desks now desks

    at_next : IsAt mid.callers p next
    at_next = subst (λ (l : List CallerView). IsAt l p next) (sym callers) (at_set old.callers p of_call.caller next of_call.at_caller)

    unmet : told_conflict of_call.call.told ≡ false
    unmet = running_unmet desk of_call.call round is_round (kept.staged p desk of_call.caller of_call.call at of_call.at_caller of_call.is_open)

    closed : (told_conflict (closed_by told why of_call.call).told ≡ false) × IsSome (closed_in (Some (closed_by told why of_call.call)))
    closed = closed_told told why of_call.call no_conflict undone

    same_phase : phase_of (closed_by told why of_call.call) ≡ phase_of of_call.call
    same_phase = ap (λ (b : Bool). if b then 2 else if is_some of_call.call.proposed then 1 else 0) (closed.0 ∙ sym unmet)

    part_at : caller_part (slice_get mid.callers p) ≡ caller_part (slice_get old.callers p)
    part_at = ap caller_part at_next ∙ ap (call_part of_call.caller.number of_call.call.rounds) same_phase ∙ sym (ap caller_part of_call.at_caller ∙ ap (open_part of_call.caller.number) of_call.is_open)

    others : (m : ℕ) → m ≢ 0 → own_part mid m ≡ own_part old m
    others zero other = absurd (other refl)
    others (suc m) other = elim (same_or_not (suc m) p) [
      | inl same ↦ subst (λ (k : ℕ). caller_part (slice_get mid.callers k) ≡ caller_part (slice_get old.callers k)) (sym same) part_at
      | inr apart ↦ ap caller_part (sparing.others (suc m) apart)
    ]

    staged : (id : ℕ) (one : DeskView V) (caller : CallerView) (call : CallView) → IsAt mid.desks id one → IsAt mid.callers id caller → caller.call ≡ Some call → IsStaged one call
    staged id one caller call at_desk at_caller is_call = elim (same_or_not id p) [
      | inl same ↦
          let same_caller : next ≡ caller = at_one mid.callers p at_next (subst (λ (k : ℕ). IsAt mid.callers k caller) same at_caller) in
          let same_call : closed_by told why of_call.call ≡ call = some_is (ap (λ (c : CallerView). c.call) same_caller ∙ is_call) in
          let now_at : IsAt mid.desks p now = subst (λ (l : List (DeskView V)). IsAt l p now) (sym desks) (at_set old.desks p desk now at) in
          let same_desk : now ≡ one = at_one mid.desks p now_at (subst (λ (k : ℕ). IsAt mid.desks k one) same at_desk) in
          subst (λ (c : CallView). IsStaged one c) same_call (is_closed (ap (λ (d : DeskView V). d.round) (sym same_desk) ∙ idle) closed.1 closed.0)
      | inr apart ↦ kept.staged id one caller call (sym (sparing_desks.others id apart) ∙ at_desk) (sym (sparing.others id apart) ∙ at_caller) is_call
    ]

    wanted : (id : ℕ) (caller : CallerView) (call : CallView) → IsAt mid.callers id caller → caller.call ≡ Some call → wanted_by id mid.marks ≡ Some (wants caller.number call.key call.program)
    wanted id caller call at_caller is_call = elim (same_or_not id p) [
      | inl same ↦
          let same_caller : next ≡ caller = at_one mid.callers p at_next (subst (λ (k : ℕ). IsAt mid.callers k caller) same at_caller) in
          let same_call : closed_by told why of_call.call ≡ call = some_is (ap (λ (c : CallerView). c.call) same_caller ∙ is_call) in
          ap₂ (λ (k : ℕ) (l : List Mark). wanted_by k l) same made ∙ kept.wanted p of_call.caller of_call.call of_call.at_caller of_call.is_open
          ∙ ap₂ (λ (c : CallerView) (o : CallView). Some (wants c.number o.key o.program)) same_caller same_call
      | inr apart ↦ ap (wanted_by id) made ∙ kept.wanted id caller call (sym (sparing.others id apart) ∙ at_caller) is_call
    ]

-- a desk leaves its round so
pub leaves_round : {S V : Type 0} {T : DeskView V → DeskView V → Type 0} (old mid : View S V) (p : ℕ) (told : Answer) (why : Cause) → is_conflict told ≡ false → is_done told ≡ false → ((desk now : DeskView V) → T desk now → now.round ≡ None) → LeavesRound T (closed_by told why) old p mid
    → IsKept old → ((caller : CallerView) → IsAt old.callers 0 caller → caller.call ≡ None) → PassesHold old mid × (mid.council ≡ old.council)
leaves_round {S} {V} {T} old mid p told why unmet undone ends (stops.idle desk now at none_open turns is) kept none = (
  passes_desk old mid p desk now at (ap (λ (o : Option Round). is_some o) (ends desk now turns ∙ sym none_open)) (ap (λ (w : View S V). w.last_proposer) is) (ap (λ (w : View S V). w.desks) is) (ap (λ (w : View S V). w.callers) is) (ap (λ (w : View S V). w.marks) is) kept none,
  ap (λ (w : View S V). w.council) is,
)
leaves_round {S} {V} {T} old mid p told why unmet undone ends (stops.closes desk now round of_call at is_round turns is) kept none = (
  passes_closed old mid p told why desk now round of_call unmet undone at is_round (ends desk now turns) (ap (λ (w : View S V). w.last_proposer) is) (ap (λ (w : View S V). w.desks) is) (ap (λ (w : View S V). w.callers) is) (ap (λ (w : View S V). w.marks) is) kept none,
  ap (λ (w : View S V). w.council) is,
)

-- nothing happens, or an exchange that none is of is broken off
passes_none : {S V : Type 0} (view : View S V) → IsKept view → ((caller : CallerView) → IsAt view.callers 0 caller → caller.call ≡ None) → PassesHold view view
passes_none view kept none = record { makes = record { last_proposer = refl; made = sym (append-nil view.marks); may_add = tt; owned = All-nil (λ i. (m : ℕ) → owner_of i ≡ Some m → m ≡ 0); others = λ m other. refl }; kept = kept; last_proposer = refl; none = none }

passes_broken : {S V : Type 0} (old inner middle : View S V) → PassesHold old inner → middle ≡ stops.broken_off_view inner → PassesHold old middle
passes_broken {S} {V} old inner middle passes is = subst (λ (w : View S V). PassesHold old w) (sym is) (record {
  makes = record { last_proposer = passes.makes.last_proposer; made = passes.makes.made; may_add = passes.makes.may_add; owned = passes.makes.owned; others = others };
  kept = record { places = record { desks = passes.kept.places.desks; callers = passes.kept.places.callers }; staged = passes.kept.staged; wanted = passes.kept.wanted };
  last_proposer = passes.last_proposer;
  none = passes.none;
})
  where
    others : (m : ℕ) → m ≢ 0 → own_part (stops.broken_off_view inner) m ≡ own_part old m
    others zero other = absurd (other refl)
    others (suc m) other = passes.makes.others (suc m) other

-- ---- the next proposer is renewed
pub renew_held : {S V : Type 0} (m : Meaning S V) (key : List ℕ) (proposer most : ℕ) (old new : View S V) → HasStep key (step.Renew proposer) (own_part old 0) → IsKept old → StepRenew m old proposer new → GoesOnCollecting old new
    → Held old new (OperatesIn (IsTombstoneMark key) most old new × (HasStep key step.Ages (own_part new 0) ⊎ ((next : ℕ) × HasStep key (step.Renew next) (own_part new 0))))
renew_held {S} {V} m key proposer most old new has kept by ok = by_case by.renews
  where
    was : IsStepDue old key (step.Renew proposer)
    was = is_step old key (step.Renew proposer) has

    silent : new.council.order ≡ Some (new_order (asked.Collect key))
    silent = ap (λ (c : Council). c.order) ok.is ∙ ap (option_map silent_order) was.at.order

    by_next : (collection : CollectionView) → collection.course.step ≡ step.Renew proposer → (next : CollectStep) → next ≡ step_after collection.course.proposers collection.course.step → HasStep key next (own_part new 0)
        → HasStep key step.Ages (own_part new 0) ⊎ ((p : ℕ) × HasStep key (step.Renew p) (own_part new 0))
    by_next collection due next is there = by_test (nat_lt proposer collection.course.proposers) (is ∙ ap (step_after collection.course.proposers) due)
      where
        by_test : (b : Bool) → next ≡ (if b then step.Renew (proposer + 1) else step.Ages) → HasStep key step.Ages (own_part new 0) ⊎ ((p : ℕ) × HasStep key (step.Renew p) (own_part new 0))
        by_test true same = inr (proposer + 1, subst (λ (s : CollectStep). HasStep key s (own_part new 0)) same there)
        by_test false same = inl (subst (λ (s : CollectStep). HasStep key s (own_part new 0)) same there)

    told_not : {A : Type 0} (said : OpAnswer) (council : Council) → council.order ≡ old.council.order → new.council.order ≡ option_map (told_so said) council.order → A
    told_not said council same is = absurd (cc (ap (option_map (λ (o : OrderView). o.told)) (sym silent ∙ is ∙ ap (option_map (told_so said)) (same ∙ was.at.order))))

    by_case : RenewsNext m old by.at proposer by.desk new → Held old new (OperatesIn (IsTombstoneMark key) most old new × (HasStep key step.Ages (own_part new 0) ⊎ ((p : ℕ) × HasStep key (step.Renew p) (own_part new 0))))
    by_case (collect.renews age middle leaves is) =
        let l = leaves_round old middle proposer (answer.Aged age) (cause.Aged age) refl refl (λ desk now turns. ap (λ (d : DeskView V). d.round) turns.desk) leaves kept was.no_call in
        let passes = passes_council old middle new _ l.0 is in
        let at = steps_on key (step.Renew proposer) (step_after by.at.collection.course.proposers by.at.collection.course.step) old.council new.council was.at by.at.order by.at.collection _ by.at.is_open by.at.is_collection (ap (λ (w : View S V). w.council.order) is) (ap (λ (w : View S V). w.council.plan) is ∙ ap (λ (c : Council). c.plan) l.1) (ap (λ (w : View S V). w.council.collection) is) refl refl refl in
        record {
          does = (
            no_marks key most old new passes.makes (none_counted was.at at),
            by_next by.at.collection by.is_due (step_after by.at.collection.course.proposers by.at.collection.course.step) refl (has_step new key (step_after by.at.collection.course.proposers by.at.collection.course.step) (record { no_call = passes.none; at = at; none_asked = ap (λ (w : View S V). w.council.exchange) is ∙ ap (λ (c : Council). c.exchange) l.1 ∙ was.none_asked })),
          );
          kept = passes.kept;
          last_proposer = passes.last_proposer;
        }
    by_case (collect.is_down down is) = told_not (op.ProposerDown proposer) old.council refl (ap (λ (w : View S V). w.council.order) is)
    by_case (collect.fails middle (stops.of_client not leaves) is) =
        let l = leaves_round old middle proposer answer.Crashed cause.Crashed refl refl (λ desk now turns. ap (λ (d : DeskView V). d.round) turns.crashed) leaves kept was.no_call in
        told_not (op.ProposerDown proposer) middle.council (ap (λ (c : Council). c.order) l.1) (ap (λ (w : View S V). w.council.order) is)
    by_case (collect.fails middle (stops.of_operator inner first leaves broken) is) =
        let l = leaves_round old inner proposer answer.Crashed cause.Crashed refl refl (λ desk now turns. ap (λ (d : DeskView V). d.round) turns.crashed) leaves kept was.no_call in
        told_not (op.ProposerDown proposer) middle.council (ap (λ (w : View S V). w.council.order) broken ∙ ap (λ (c : Council). c.order) l.1) (ap (λ (w : View S V). w.council.order) is)
    by_case (collect.is_spent up spent is) = told_not (op.Stopped answer.Spent) old.council refl (ap (λ (w : View S V). w.council.order) is)
    by_case (collect.no_memory now up finds is) = told_not (op.Stopped (answer.NoMemory false)) old.council refl (ap (λ (w : View S V). w.council.order) is)

pub renew_told : {S V : Type 0} (m : Meaning S V) (key : List ℕ) (proposer most : ℕ) (old mid new : View S V) (told : OpAnswer) → HasStep key (step.Renew proposer) (own_part old 0) → IsKept old → StepRenew m old proposer mid → WasToldOrder mid told → StepTell mid told new
    → Held old new (IsToldIn (asked.Collect key) (IsTombstoneMark key) most old new told × IsCollectAnswer key told)
renew_told {S} {V} m key proposer most old mid new told has kept by said ends = by_case by.renews
  where
    was : IsStepDue old key (step.Renew proposer)
    was = is_step old key (step.Renew proposer) has

    order_of : (what : OpAnswer) (council : Council) → council.order ≡ old.council.order → option_map (told_so what) council.order ≡ Some (told_so what (new_order (asked.Collect key)))
    order_of what council same = ap (option_map (told_so what)) (same ∙ was.at.order)

    by_case : RenewsNext m old by.at proposer by.desk mid → Held old new (IsToldIn (asked.Collect key) (IsTombstoneMark key) most old new told × IsCollectAnswer key told)
    by_case (collect.renews age middle leaves is) = absurd (cc (sym (ap (λ (o : OrderView). o.told) (some_is (sym said.is_open ∙ ap (λ (w : View S V). w.council.order) is))) ∙ said.was_said))
    by_case (collect.is_down down is) = passes_told key most old mid new (op.ProposerDown proposer) told (passes_council old old mid _ (passes_none old kept was.no_call) is) (ap (λ (w : View S V). w.council.order) is ∙ order_of (op.ProposerDown proposer) old.council refl) tt (ap (λ (w : View S V). rescanned_of w.council.plan) is) said ends
    by_case (collect.fails middle (stops.of_client not leaves) is) =
        let l = leaves_round old middle proposer answer.Crashed cause.Crashed refl refl (λ desk now turns. ap (λ (d : DeskView V). d.round) turns.crashed) leaves kept was.no_call in
        passes_told key most old mid new (op.ProposerDown proposer) told (passes_council old middle mid _ l.0 is) (ap (λ (w : View S V). w.council.order) is ∙ order_of (op.ProposerDown proposer) middle.council (ap (λ (c : Council). c.order) l.1)) tt (ap (λ (w : View S V). rescanned_of w.council.plan) is ∙ ap (λ (c : Council). rescanned_of c.plan) l.1) said ends
    by_case (collect.fails middle (stops.of_operator inner first leaves broken) is) =
        let l = leaves_round old inner proposer answer.Crashed cause.Crashed refl refl (λ desk now turns. ap (λ (d : DeskView V). d.round) turns.crashed) leaves kept was.no_call in
        passes_told key most old mid new (op.ProposerDown proposer) told (passes_council old middle mid _ (passes_broken old inner middle l.0 broken) is) (ap (λ (w : View S V). w.council.order) is ∙ order_of (op.ProposerDown proposer) middle.council (ap (λ (w : View S V). w.council.order) broken ∙ ap (λ (c : Council). c.order) l.1)) tt (ap (λ (w : View S V). rescanned_of w.council.plan) is ∙ ap (λ (w : View S V). rescanned_of w.council.plan) broken ∙ ap (λ (c : Council). rescanned_of c.plan) l.1) said ends
    by_case (collect.is_spent up spent is) = passes_told key most old mid new (op.Stopped answer.Spent) told (passes_council old old mid _ (passes_none old kept was.no_call) is) (ap (λ (w : View S V). w.council.order) is ∙ order_of (op.Stopped answer.Spent) old.council refl) tt (ap (λ (w : View S V). rescanned_of w.council.plan) is) said ends
    by_case (collect.no_memory now up finds is) =
        passes_told key most old mid new (op.Stopped (answer.NoMemory false)) told (passes_desk old mid proposer by.desk now by.at_desk (ap (λ (d : DeskView V). is_some d.round) finds.desk) (ap (λ (w : View S V). w.last_proposer) is) (ap (λ (w : View S V). w.desks) is) (ap (λ (w : View S V). w.callers) is) (ap (λ (w : View S V). w.marks) is) kept was.no_call)
        (ap (λ (w : View S V). w.council.order) is ∙ order_of (op.Stopped (answer.NoMemory false)) old.council refl) tt (ap (λ (w : View S V). rescanned_of w.council.plan) is) said ends

-- which step is due, as is read of the world
pub renewal_due : {S V : Type 0} (view : View S V) (key : List ℕ) (proposer : ℕ) → HasStep key step.Ages (own_part view 0) ⊎ ((p : ℕ) × HasStep key (step.Renew p) (own_part view 0)) → Some proposer ≡ renewal_in view.council.collection → HasStep key (step.Renew proposer) (own_part view 0)
renewal_due {S} {V} view key proposer (inl has) e =
    let is = is_step view key step.Ages has in
    absurd (cc (e ∙ ap renewal_in is.at.is_collection ∙ ap renewal_of is.at.is_due))
renewal_due {S} {V} view key proposer (inr (p, has)) e =
    let is = is_step view key (step.Renew p) has in
    let same : proposer ≡ p = some_is (e ∙ ap renewal_in is.at.is_collection ∙ ap renewal_of is.at.is_due) in
    subst (λ (k : ℕ). HasStep key (step.Renew k) (own_part view 0)) (sym same) has

pub none_due : {S V : Type 0} (view : View S V) (key : List ℕ) → HasStep key step.Ages (own_part view 0) ⊎ ((p : ℕ) × HasStep key (step.Renew p) (own_part view 0)) → None ≡ renewal_in view.council.collection → HasStep key step.Ages (own_part view 0)
none_due {S} {V} view key (inl has) e = has
none_due {S} {V} view key (inr (p, has)) e =
    let is = is_step view key (step.Renew p) has in
    absurd (cc (e ∙ ap renewal_in is.at.is_collection ∙ ap renewal_of is.at.is_due))
