-- What a hold does for the call of a collection's round.
use Rattle.std.proofs.Common.{◌≡◌, ◌≢◌, ◌≤◌, ℕ, zero, suc, ◌+◌, ◌==◌, Bool, true, false, if◌then◌else◌, List, [], ◌∷◌, ◌++◌, None, Some, slice_set, refl, sym, ap, ap₂, subst, ◌∙◌, append_assoc}
use Rattle.std.specs.Prelude.{All}
use Rattle.std.proofs.lemmas.List.Elements.{All-append, All-nil, All-cons, All-head, All-tail, All-weaker}
use Rattle.cas_change.specs.declared.program.Clause.{Clause}
use Rattle.cas_collect.specs.declared.collect.CollectStep.TheVariants as step
use Rattle.cas_proposer.specs.Desk.{DeskView}
use Rattle.cas_record.specs.declared.answer.Answer.{Answer}
use Rattle.cas_record.specs.declared.mark.Mark.{Mark}
use Rattle.cas_record.specs.declared.mark.Mark.TheVariants as kinds
use Rattle.cas_record.specs.declared.operator.Asked.{Asked}
use Rattle.cas_record.specs.declared.operator.Asked.TheVariants as asked
use Rattle.cas_record.specs.declared.operator.OpAnswer.{OpAnswer}
use Rattle.cas_record.specs.declared.operator.OpAnswer.TheVariants as op
use Rattle.cas_model.specs.Council.{Council, OrderView}
use Rattle.cas_protocol.specs.Protocol.{is_done}
use Rattle.cas_model.specs.Step.{StepEnd}
use Rattle.cas_model.specs.Calls.Step as calls
use Rattle.cas_model.specs.Collection.Step.{keep_always, stopped_by}
use Rattle.cas_model.specs.Exchanges.Step.{told_marks}
use Rattle.cas_model.specs.View.{Meaning, View, CallView, CallerView, IsAt}
use Rattle.cas_model.proofs.Places.{at_one, at_set, some_is}
use Rattle.cas_turn.specs.Seen.{OnlyOwnedBy}
use Rattle.cas_world.specs.Eras.Plans.{rescanned_of}
use Rattle.cas_board_steps.specs.Eras.Counting.{EntersEras}
use Rattle.cas_board_steps.specs.Collection.Collecting.{CollectsAt, HasTombstoneCall, IsTombstoneMark, IsCollectAnswer, Stops}
use Rattle.cas_board_steps.specs.Kept.{IsStaged, IsKept, Makes}
use Rattle.cas_board_steps.specs.Mine.{mine, call_of, losses, Wanted, wants, wanted_after, wanted_by}
use Rattle.cas_board_steps.specs.Calls.Open.{rounds_in}
use Rattle.cas_board_steps.specs.Exchanges.Orders.{OperatesIn, IsToldIn}
use Rattle.cas_board_steps.specs.Owners.{owner_of, is_answer, MayFollow, MayAdd}
use Rattle.cas_board_steps.specs.OwnParts.{own_part}
use Rattle.cas_board_steps.proofs.Calls.Acts.{Acts, Spares, spares_same, spares_set, spares_then, SparesRounds, spares_rounds, rounds_then, OwnKept, makes_of, kept_by}
use Rattle.cas_board_steps.proofs.Collection.Collecting.{IsSettingTombstone, has_tombstone, IsKeeping}
use Rattle.cas_board_steps.proofs.Exchanges.Councils.{idle_free}
use Rattle.cas_board_steps.proofs.Eras.Counting.{lasts_told}
use Rattle.cas_board_steps.proofs.Calls.Events.{CallGoesOn, CallIsOver}
use Rattle.cas_board_steps.proofs.Fronts.{mine_append, mine_own, wanted_append}
use Rattle.cas_board_steps.proofs.Calls.Holds.{Held}
use Rattle.cas_board_steps.proofs.Exchanges.Operating.{LeavesOtherCalls, tells_of, told_only}
use Rattle.cas_board_steps.proofs.Parts.{rounds_part}

-- ---- marks
-- once caller 0 asked for something, it has asked for it
asked_once : (w : Wanted) (l : List Mark) → wanted_after 0 (Some w) l ≢ None
asked_once w [] e = cc e
asked_once w (kinds.Begun caller call key program ∷ l) e = by_test (caller == 0) (asked_once (wants call key program) l) (asked_once w l) e
  where
    by_test : (b : Bool) → (wanted_after 0 (Some (wants call key program)) l ≡ None → ⊥) → (wanted_after 0 (Some w) l ≡ None → ⊥) → wanted_after 0 (if b then Some (wants call key program) else Some w) l ≡ None → ⊥
    by_test true now then_ is = now is
    by_test false now then_ is = then_ is
asked_once w (kinds.Proposed p ∷ l) e = asked_once w l e
asked_once w (kinds.Voted acceptor key ballot ∷ l) e = asked_once w l e
asked_once w (kinds.Acked a ∷ l) e = asked_once w l e
asked_once w (kinds.Floor key ballot state ∷ l) e = asked_once w l e
asked_once w (kinds.EraEntered proposer number ∷ l) e = asked_once w l e
asked_once w (kinds.Ended caller call rounds told ∷ l) e = asked_once w l e
asked_once w (kinds.Harmed caller call down ∷ l) e = asked_once w l e
asked_once w (kinds.Told asks told ∷ l) e = asked_once w l e

-- such a mark stands in front of others, where it is caller 0's
such_if : (key : List ℕ) (call : ℕ) (b : Bool) (mark : Mark) (l : List Mark) → IsTombstoneMark key mark → (All (λ m. call_of m ≡ Some call) l → All (IsTombstoneMark key) l) → All (λ m. call_of m ≡ Some call) (if b then mark ∷ l else l) → All (IsTombstoneMark key) (if b then mark ∷ l else l)
such_if key call true mark l such rest of_ = All-cons (IsTombstoneMark key) mark l such (rest (All-tail (λ m. call_of m ≡ Some call) mark l of_))
such_if key call false mark l such rest of_ = rest of_

-- the marks of a call that begin none are such marks
pub such_marks : (key : List ℕ) (call : ℕ) (l : List Mark) → All (λ mark. call_of mark ≡ Some call) (mine 0 l) → wanted_after 0 None l ≡ None → All (IsTombstoneMark key) (mine 0 l)
such_marks key call [] of_call none = All-nil (IsTombstoneMark key)
such_marks key call (kinds.Begun caller number other program ∷ l) of_call none = by_test (caller == 0) (such_marks key call l) of_call none
  where
    by_test : (b : Bool) → (All (λ mark. call_of mark ≡ Some call) (mine 0 l) → wanted_after 0 None l ≡ None → All (IsTombstoneMark key) (mine 0 l)) → All (λ mark. call_of mark ≡ Some call) (if b then kinds.Begun caller number other program ∷ mine 0 l else mine 0 l)
        → wanted_after 0 (if b then Some (wants number other program) else None) l ≡ None → All (IsTombstoneMark key) (if b then kinds.Begun caller number other program ∷ mine 0 l else mine 0 l)
    by_test true rest of_ is = absurd (asked_once (wants number other program) l is)
    by_test false rest of_ is = rest of_ is
such_marks key call (kinds.Proposed p ∷ l) of_call none = such_if key call (p.caller == 0) (kinds.Proposed p) (mine 0 l) tt (λ rest. such_marks key call l rest none) of_call
such_marks key call (kinds.Ended caller number rounds told ∷ l) of_call none = by_test (caller == 0) (λ rest. such_marks key call l rest none) of_call
  where
    by_test : (b : Bool) → (All (λ mark. call_of mark ≡ Some call) (mine 0 l) → All (IsTombstoneMark key) (mine 0 l)) → All (λ mark. call_of mark ≡ Some call) (if b then kinds.Ended caller number rounds told ∷ mine 0 l else mine 0 l)
        → All (IsTombstoneMark key) (if b then kinds.Ended caller number rounds told ∷ mine 0 l else mine 0 l)
    by_test true rest of_ = absurd (cc (All-head (λ mark. call_of mark ≡ Some call) (kinds.Ended caller number rounds told) (mine 0 l) of_))
    by_test false rest of_ = rest of_
such_marks key call (kinds.Harmed caller number down ∷ l) of_call none = such_if key call (caller == 0) (kinds.Harmed caller number down) (mine 0 l) tt (λ rest. such_marks key call l rest none) of_call
such_marks key call (kinds.Voted acceptor other ballot ∷ l) of_call none = such_marks key call l of_call none
such_marks key call (kinds.Acked a ∷ l) of_call none = such_marks key call l of_call none
such_marks key call (kinds.Floor other ballot state ∷ l) of_call none = absurd (cc (All-head (λ mark. call_of mark ≡ Some call) (kinds.Floor other ballot state) (mine 0 l) of_call))
such_marks key call (kinds.EraEntered proposer number ∷ l) of_call none = such_marks key call l of_call none
such_marks key call (kinds.Told asks told ∷ l) of_call none = absurd (cc (All-head (λ mark. call_of mark ≡ Some call) (kinds.Told asks told) (mine 0 l) of_call))

-- what may be added with the end of a call, may be with what the operator is told behind it
module _ (n number rounds : ℕ) (told : Answer) (asks : Asked) (tells : OpAnswer) where
  abbrev ended : Mark
  ended = kinds.Ended n number rounds told

  abbrev told_last : Mark
  told_last = kinds.Told asks tells

  not_empty : (l : List Mark) → l ++ ended ∷ [] ≡ [] → ⊥
  not_empty [] e = cc e
  not_empty (mark ∷ l) e = cc e

  not_silent : (l : List Mark) → All (λ mark. is_answer mark ≡ false) (l ++ ended ∷ []) → ⊥
  not_silent [] all = cc (All-head (λ mark. is_answer mark ≡ false) (kinds.Ended n number rounds told) [] all)
  not_silent (mark ∷ l) all = not_silent l (All-tail (λ m. is_answer m ≡ false) mark (l ++ kinds.Ended n number rounds told ∷ []) all)

  may_follow : (mark : Mark) (l : List Mark) → MayFollow mark (l ++ ended ∷ []) → MayFollow mark ((l ++ ended ∷ []) ++ told_last ∷ [])
  may_follow (kinds.Proposed p) l may = absurd (not_empty l may)
  may_follow (kinds.Voted acceptor key ballot) l may = absurd (not_silent l may)
  may_follow (kinds.Begun caller call key program) l may = tt
  may_follow (kinds.Acked a) l may = tt
  may_follow (kinds.Floor key ballot state) l may = tt
  may_follow (kinds.EraEntered proposer era) l may = tt
  may_follow (kinds.Ended caller call rounds_ answer_) l may = tt
  may_follow (kinds.Harmed caller call down) l may = tt
  may_follow (kinds.Told other answer_) l may = tt

  may_tell : (l : List Mark) → MayAdd (l ++ ended ∷ []) → MayAdd ((l ++ ended ∷ []) ++ told_last ∷ [])
  may_tell [] may = (tt, (tt, tt))
  may_tell (mark ∷ l) may = (may_follow mark l may.0, may_tell l may.1)

-- ---- a call on the world for caller 0, whatever becomes of what the operator has under way
pub record LeadsOperator {S V : Type 0} (old new : View S V) (made_ : List Mark) : Type 0 where
  pub last_proposer : new.last_proposer ≡ old.last_proposer
  pub desks : SparesRounds 0 old.desks new.desks
  pub callers : Spares 0 old.callers new.callers
  pub made : new.marks ≡ old.marks ++ made_

pub leads_acts : {S V : Type 0} (old new : View S V) (l : List Mark) → Acts 0 old new l → LeadsOperator old new l
leads_acts old new l acts = record { last_proposer = acts.last_proposer; desks = acts.desks; callers = acts.callers; made = acts.made }

pub leads_leaves : {S V : Type 0} (old new : View S V) (l : List Mark) → LeavesOtherCalls old new l → LeadsOperator old new l
leads_leaves old new l leaves = record { last_proposer = leaves.last_proposer; desks = leaves.desks; callers = spares_same 0 old.callers new.callers leaves.callers; made = leaves.made }

pub leads_then : {S V : Type 0} (a b c : View S V) (l more : List Mark) → LeadsOperator a b l → LeadsOperator b c more → LeadsOperator a c (l ++ more)
leads_then a b c l more first then_ = record {
  last_proposer = then_.last_proposer ∙ first.last_proposer;
  desks = rounds_then 0 a.desks b.desks c.desks first.desks then_.desks;
  callers = spares_then 0 a.callers b.callers c.callers first.callers then_.callers;
  made = then_.made ∙ ap (λ (k : List Mark). k ++ more) first.made ∙ append_assoc a.marks l more;
}

-- with another council beside
pub leads_council : {S V : Type 0} (old mid new : View S V) (l : List Mark) (council : Council) → LeadsOperator old mid l → new ≡ record mid { council = council } → LeadsOperator old new l
leads_council {S} {V} old mid new l council leads is = subst (λ (w : View S V). LeadsOperator old w l) (sym is) (record { last_proposer = leads.last_proposer; desks = leads.desks; callers = leads.callers; made = leads.made })

leads_by : {S V : Type 0} (old new : View S V) (l : List Mark) → LeadsOperator old new l → Acts 0 (record old { council = new.council }) new l
leads_by old new l leads = record { last_proposer = leads.last_proposer; desks = leads.desks; callers = leads.callers; council = refl; made = leads.made }

pub makes_led : {S V : Type 0} (old new : View S V) (l : List Mark) → LeadsOperator old new l → MayAdd l → OnlyOwnedBy owner_of 0 l → Makes 0 old new l
makes_led {S} {V} old new l leads may only = record { last_proposer = leads.last_proposer; made = leads.made; may_add = may; owned = only; others = others }
  where
    others : (m : ℕ) → m ≢ 0 → own_part new m ≡ own_part old m
    others zero other = absurd (other refl)
    others (suc m) other = (makes_of 0 (record old { council = new.council }) new l (leads_by old new l leads) may only).others (suc m) other

pub kept_led : {S V : Type 0} (old new : View S V) (l : List Mark) → LeadsOperator old new l → OnlyOwnedBy owner_of 0 l → IsKept old → OwnKept 0 new → IsKept new
kept_led old new l leads only kept own =
    kept_by 0 (record old { council = new.council }) new l (leads_by old new l leads) only (record { places = record { desks = kept.places.desks; callers = kept.places.callers }; staged = kept.staged; wanted = kept.wanted }) own

pub none_kept : {S V : Type 0} (view : View S V) → ((caller : CallerView) → IsAt view.callers 0 caller → caller.call ≡ None) → OwnKept 0 view
none_kept view none = record {
  staged = λ desk caller call at_desk at_caller is_call. absurd (cc (sym (none caller at_caller) ∙ is_call));
  wanted = λ caller call at_caller is_call. absurd (cc (sym (none caller at_caller) ∙ is_call));
}

-- ---- the call has come so far
-- it was told something, or goes on: which marks were made, and that its end may be marked behind them
pub record ReachesEnd {S V : Type 0} (key : List ℕ) (call most : ℕ) (old mid : View S V) : Type 0 where
  pub marks : List Mark
  pub leads : LeadsOperator old mid marks
  pub only : OnlyOwnedBy owner_of 0 marks
  pub such : All (IsTombstoneMark key) (mine 0 marks)
  pub few : losses (mine 0 marks) ≤ most
  pub caller : CallerView
  pub at_caller : IsAt mid.callers 0 caller
  pub number : caller.number ≡ call
  pub may_end : (rounds : ℕ) (told : Answer) → MayAdd (marks ++ kinds.Ended 0 call rounds told ∷ [])

-- ---- its end
-- the call of the caller ends
pub record EndsLast {S V : Type 0} (old new : View S V) (caller : CallerView) (rounds : ℕ) (told : Answer) : Type 0 where
  pub leads : LeadsOperator old new (kinds.Ended 0 caller.number rounds told ∷ [])
  pub none : (one : CallerView) → IsAt new.callers 0 one → one.call ≡ None

pub ends_last : {S V : Type 0} (m : Meaning S V) (told : Answer) (old new : View S V) (by : StepEnd m old 0 told new) → EndsLast old new by.of_call.caller by.of_call.call.rounds told
ends_last {S} {V} m told old new by =
    let next : CallerView = record by.of_call.caller { call = None } in
    let callers : new.callers ≡ slice_set old.callers 0 next = ap (λ (w : View S V). w.callers) by.ends.view in
    record {
      leads = record {
        last_proposer = ap (λ (w : View S V). w.last_proposer) by.ends.view;
        desks = spares_rounds 0 old.desks new.desks (spares_set 0 old.desks new.desks by.ends.now (ap (λ (w : View S V). w.desks) by.ends.view));
        callers = spares_set 0 old.callers new.callers next callers;
        made = ap (λ (w : View S V). w.marks) by.ends.view;
      };
      none = λ one at. ap (λ (c : CallerView). c.call) (sym (at_one new.callers 0 (subst (λ (l : List CallerView). IsAt l 0 next) (sym callers) (at_set old.callers 0 by.of_call.caller next by.of_call.at_caller)) at));
    }

pub only_ended : (number rounds : ℕ) (told : Answer) → OnlyOwnedBy owner_of 0 (kinds.Ended 0 number rounds told ∷ [])
only_ended number rounds told = All-cons (λ i. (m : ℕ) → owner_of i ≡ Some m → m ≡ 0) (kinds.Ended 0 number rounds told) [] (λ m e. sym (some_is e)) (All-nil (λ i. (m : ℕ) → owner_of i ≡ Some m → m ≡ 0))

pub such_ended : (such : Mark → Type 0) (key : List ℕ) (number rounds : ℕ) (told : Answer) (l : List Mark) → ((mark : Mark) → IsTombstoneMark key mark → such mark) → such (kinds.Ended 0 number rounds told) → All (IsTombstoneMark key) (mine 0 l) → All such (mine 0 (l ++ kinds.Ended 0 number rounds told ∷ []))
such_ended such key number rounds told l weaker last all =
    subst (All such) (sym (mine_append 0 l (kinds.Ended 0 number rounds told ∷ []) ∙ ap (λ (k : List Mark). mine 0 l ++ k) (mine_own 0 (kinds.Ended 0 number rounds told) [] refl)))
    (All-append such (mine 0 l) (kinds.Ended 0 number rounds told ∷ []) (All-weaker (IsTombstoneMark key) such weaker (mine 0 l) all) (All-cons such (kinds.Ended 0 number rounds told) [] last (All-nil such)))

losses_ended : (number rounds most : ℕ) (told : Answer) (l : List Mark) → losses l ≤ most → losses (l ++ kinds.Ended 0 number rounds told ∷ []) ≤ most
losses_ended number rounds most told l few = subst (λ (k : ℕ). k ≤ most) (sym (same l)) few
  where
    same : (k : List Mark) → losses (k ++ kinds.Ended 0 number rounds told ∷ []) ≡ losses k
    same [] = refl
    same (kinds.Harmed caller call false ∷ k) = ap (λ (x : ℕ). 1 + x) (same k)
    same (kinds.Harmed caller call true ∷ k) = same k
    same (kinds.Begun caller call key program ∷ k) = same k
    same (kinds.Proposed p ∷ k) = same k
    same (kinds.Voted acceptor key ballot ∷ k) = same k
    same (kinds.Acked a ∷ k) = same k
    same (kinds.Floor key ballot state ∷ k) = same k
    same (kinds.EraEntered proposer era ∷ k) = same k
    same (kinds.Ended caller call rounds_ answer_ ∷ k) = same k
    same (kinds.Told asks answer_ ∷ k) = same k

pub few_ended : (number rounds most : ℕ) (told : Answer) (l : List Mark) → losses (mine 0 l) ≤ most → losses (mine 0 (l ++ kinds.Ended 0 number rounds told ∷ [])) ≤ most
few_ended number rounds most told l few =
    subst (λ (k : List Mark). losses k ≤ most) (sym (mine_append 0 l (kinds.Ended 0 number rounds told ∷ []) ∙ ap (λ (k : List Mark). mine 0 l ++ k) (mine_own 0 (kinds.Ended 0 number rounds told) [] refl))) (losses_ended number rounds most told (mine 0 l) few)

-- no key is counted where no change of membership is under way
pub none_rescanned : (key : List ℕ) (told : Answer) (old council : Council) → old.plan ≡ None → calls.Rescans old 0 key told council → council ≡ old
none_rescanned key told old council none (calls.rescans of done same) = absurd (cc (sym none ∙ of.is_plan))
none_rescanned key told old council none (calls.stops of undone same) = absurd (cc (sym none ∙ of.is_plan))
none_rescanned key told old council none (calls.is_none not same) = same

-- it ends, and the operator is told that it stopped
pub stops_held : {S V : Type 0} (such : Mark → Type 0) (m : Meaning S V) (key : List ℕ) (call most : ℕ) (old mid new : View S V) (told : Answer) → ((mark : Mark) → IsTombstoneMark key mark → such mark) → (EntersEras such → ⊥) → such (kinds.Ended 0 call (rounds_in (own_part mid 0)) told) → ReachesEnd key call most old mid → ((order : OrderView) → mid.council.order ≡ Some order → order.asked ≡ asked.Collect key) → old.council.plan ≡ None → mid.council.plan ≡ None → is_done told ≡ false → IsKept old → Stops m mid told new
    → Held old new (IsToldIn (asked.Collect key) such most old new (op.Stopped told) × IsCollectAnswer key (op.Stopped told))
stops_held {S} {V} such m key call most old mid new told weaker not_entering last reaches asks none_old none_mid undone kept (after, by, tells) =
    let ends = ends_last m told mid by.middle by.ends in
    let rounds : ℕ = by.ends.of_call.call.rounds in
    let number : by.ends.of_call.caller.number ≡ call = ap (λ (c : CallerView). c.number) (at_one mid.callers 0 by.ends.of_call.at_caller reaches.at_caller) ∙ reaches.number in
    let ended : List Mark = kinds.Ended 0 call rounds told ∷ [] in
    let leads_end : LeadsOperator mid by.middle ended = subst (λ (k : ℕ). LeadsOperator mid by.middle (kinds.Ended 0 k rounds told ∷ [])) number ends.leads in
    let to_after : LeadsOperator old after (reaches.marks ++ ended) = leads_council old by.middle after (reaches.marks ++ ended) _ (leads_then old mid by.middle reaches.marks ended reaches.leads leads_end) by.view in
    let t = tells_of after new (asked.Collect key) (op.Stopped told) (record by.is.at.order { told = stopped_by told }) (ap (λ (w : View S V). w.council.order) by.view) (asks by.is.at.order by.is.at.is_open) tells in
    let all : List Mark = (reaches.marks ++ ended) ++ told_marks (asked.Collect key) (op.Stopped told) in
    let leads : LeadsOperator old new all = leads_then old after new (reaches.marks ++ ended) (told_marks (asked.Collect key) (op.Stopped told)) to_after (leads_leaves after new (told_marks (asked.Collect key) (op.Stopped told)) t.leaves) in
    let only : OnlyOwnedBy owner_of 0 all = All-append (λ i. (k : ℕ) → owner_of i ≡ Some k → k ≡ 0) (reaches.marks ++ ended) (told_marks (asked.Collect key) (op.Stopped told)) (All-append (λ i. (k : ℕ) → owner_of i ≡ Some k → k ≡ 0) reaches.marks ended reaches.only (only_ended call rounds told)) (told_only (asked.Collect key) (op.Stopped told)) in
    let may : MayAdd all = may_tell 0 call rounds told (asked.Collect key) (op.Stopped told) reaches.marks (reaches.may_end rounds told) in
    let none : (one : CallerView) → IsAt new.callers 0 one → one.call ≡ None = λ one at. ends.none one (subst (λ (l : List CallerView). IsAt l 0 one) (ap (λ (w : View S V). w.callers) by.view) (subst (λ (l : List CallerView). IsAt l 0 one) t.leaves.callers at)) in
    record {
      does = (
        record {
          marks = reaches.marks ++ ended;
          makes = makes_led old new all leads may only;
          all_such = such_ended such key call rounds told reaches.marks weaker (subst (λ (k : ℕ). such (kinds.Ended 0 call k told)) (rounds_part mid 0 by.ends.of_call.caller by.ends.of_call.call by.ends.of_call.at_caller by.ends.of_call.is_open) last) reaches.such;
          few = few_ended call rounds most told reaches.marks reaches.few;
          is_free = idle_free new (record { no_call = none; order = t.order; exchange = t.exchange; collection = t.collection });
          counts = λ enters. absurd (not_entering enters);
          keeps = λ not. lasts_told after new (asked.Collect key) (op.Stopped told) (record by.is.at.order { told = stopped_by told }) (ap (λ (w : View S V). w.council.order) by.view) (asks by.is.at.order by.is.at.is_open) (λ era rescanned is. is) tells
              ∙ ap (λ (w : View S V). rescanned_of w.council.plan) by.view ∙ ap (λ (w : View S V). rescanned_of w.council.plan) by.ends.ends.view
              ∙ ap (λ (c : Council). rescanned_of c.plan) (none_rescanned by.ends.of_call.call.key told mid.council by.ends.ends.council none_mid by.ends.ends.rescans) ∙ ap rescanned_of (none_mid ∙ sym none_old);
        },
        tt,
      );
      kept = kept_led old new all leads only kept (none_kept new none);
      last_proposer = leads.last_proposer;
    }

-- ---- a step of its open call
-- by what a step of its call does
pub reaches_over : {S V : Type 0} (key : List ℕ) (call most : ℕ) (old mid : View S V) (caller : CallerView) (was : CallView) → caller.number ≡ call → CallIsOver 0 most old mid caller was → ReachesEnd key call most old mid
reaches_over key call most old mid caller was number over = record {
  marks = over.goes.marks;
  leads = leads_acts old mid over.goes.marks over.goes.acts;
  only = over.goes.fine.only;
  such = such_marks key caller.number over.goes.marks over.goes.fine.of_call (over.goes.fine.asks None);
  few = over.goes.fine.few;
  caller = record caller { call = Some over.goes.next };
  at_caller = over.goes.at_next;
  number = number;
  may_end = λ rounds told. subst (λ (k : ℕ). MayAdd (over.goes.marks ++ kinds.Ended 0 k rounds told ∷ [])) number (over.may_end rounds told);
}

-- and the order stays
pub asks_there : {S V : Type 0} (key : List ℕ) (old mid : View S V) (call : ℕ) → IsSettingTombstone old key call → mid.council ≡ old.council → (order : OrderView) → mid.council.order ≡ Some order → order.asked ≡ asked.Collect key
asks_there key old mid call was same order is = ap (λ (o : OrderView). o.asked) (some_is (sym is ∙ ap (λ (c : Council). c.order) same ∙ was.at.order))

-- the call goes on with another state of it, and what the operator has under way is this
pub tombstone_held : {S V : Type 0} (key : List ℕ) (call most : ℕ) (old mid new : View S V) (caller : CallerView) (was : CallView) (council : Council) → caller.number ≡ call → (goes : CallGoesOn 0 most old mid caller was) → new ≡ record mid { council = council } → CollectsAt key step.Round 0 council → council.exchange ≡ None
    → old.council.plan ≡ None → IsKeeping was key → wanted_by 0 old.marks ≡ Some (wants call key keep_always) → ((desk : DeskView V) → IsAt mid.desks 0 desk → IsStaged desk goes.next) → IsKept old → Held old new (OperatesIn (IsTombstoneMark key) most old new × HasTombstoneCall key call (own_part new 0) new.marks)
tombstone_held {S} {V} key call most old mid new caller was council number goes is at none_asked none_old keeping wanted staged kept =
    let next : CallerView = record caller { call = Some goes.next } in
    let leads : LeadsOperator old new goes.marks = leads_council old mid new goes.marks council (leads_acts old mid goes.marks goes.acts) is in
    let at_next : IsAt new.callers 0 next = subst (λ (w : View S V). IsAt w.callers 0 next) (sym is) goes.at_next in
    let wanted_now : wanted_by 0 new.marks ≡ Some (wants call key keep_always) = ap (wanted_by 0) leads.made ∙ wanted_append 0 None old.marks goes.marks ∙ goes.fine.asks (wanted_by 0 old.marks) ∙ wanted in
    let at_now : CollectsAt key step.Round 0 new.council = subst (λ (w : View S V). CollectsAt key step.Round 0 w.council) (sym is) at in
    record {
      does = (
        record { marks = goes.marks; makes = makes_led old new goes.marks leads goes.fine.may_add goes.fine.only; all_such = such_marks key caller.number goes.marks goes.fine.of_call (goes.fine.asks None); few = goes.fine.few; counts = λ enters. absurd (enters 0 0); keeps = λ not. ap rescanned_of (at_now.none_planned ∙ sym none_old) },
        has_tombstone new key call (record { caller = next; at_caller = at_next; number = number; open_call = goes.next; is_open = refl; at = at_now; none_asked = ap (λ (w : View S V). w.council.exchange) is ∙ none_asked }) wanted_now,
      );
      kept = kept_led old new goes.marks leads goes.fine.only kept (record {
        staged = λ desk one open_ at_desk at_one_ is_open.
            subst (λ (c : CallView). IsStaged desk c) (some_is (ap (λ (c : CallerView). c.call) (at_one new.callers 0 at_next at_one_) ∙ is_open)) (staged desk (subst (λ (l : List (DeskView V)). IsAt l 0 desk) (ap (λ (w : View S V). w.desks) is) at_desk));
        wanted = λ one open_ at_one_ is_open.
            let same : next ≡ one = at_one new.callers 0 at_next at_one_ in
            let same_call : goes.next ≡ open_ = some_is (ap (λ (c : CallerView). c.call) same ∙ is_open) in
            wanted_now ∙ ap (λ (k : ℕ). Some (wants k key keep_always)) (sym number)
            ∙ ap₂ (λ (k : List ℕ) (p : List Clause). Some (wants caller.number k p)) (sym (goes.key ∙ keeping.key_is)) (sym (goes.program ∙ keeping.program_is))
            ∙ ap₂ (λ (c : CallerView) (o : CallView). Some (wants c.number o.key o.program)) same same_call;
      });
      last_proposer = leads.last_proposer;
    }
