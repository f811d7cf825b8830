-- What caller 0's pass tells of a call of the operator, by what its holds did.
use Rattle.std.proofs.Common.{◌≡◌, ◌≤◌, ℕ, ◌+◌, length, true, false, inl, inr, List, [], ◌++◌, refl, sym, ap, subst, ◌∙◌, append_assoc, append-nil, length-append, arith}
use Rattle.std.specs.Prelude.{◌||◌, Result, Ok, Err, IfErr, OnOk, take, reverse, Contains, IfOk}
use Rattle.std.proofs.Math.Seq.{take-append_seam}
use Rattle.std.proofs.lemmas.List.Elements.{All-append, All-nil, All-weaker}
use Rattle.cas_record.specs.declared.answer.Answer.{Answer}
use Rattle.cas_record.specs.declared.mark.Mark.{Mark}
use Rattle.cas_record.specs.declared.mark.Mark.TheVariants.{EraEntered}
use Rattle.cas_record.specs.declared.operator.Asked.{Asked}
use Rattle.cas_record.specs.declared.operator.OpAnswer.{OpAnswer}
use Rattle.cas_record.specs.declared.operator.OpAnswer.TheVariants.{Stopped}
use Rattle.cas_record.specs.declared.operator.OpAnswer.TheVariants as op
use Rattle.cas_model.specs.Exchanges.Step.{told_marks, everyone}
use Rattle.cas_model.specs.View.{View, era_at}
use Rattle.cas_turn.specs.Seen.{Begins, HasSeenOwn}
use Rattle.cas_turn.specs.Sitting.{Sitting, Turning}
use Rattle.cas_turn.proofs.SeenLemmas.{begins_both}
use Rattle.cas_board_steps.specs.Eras.Counting.{count_told, CountsTo, EntersEras, HasRisen, LeavesNone}
use Rattle.cas_board_steps.specs.Calls.Changes.{IsRefusalBehind}
use Rattle.cas_board_steps.specs.Kept.{Makes, IsHeldBy}
use Rattle.cas_board_steps.specs.Mine.{mine, losses, done_calls, FrontGoesOn}
use Rattle.cas_board_steps.specs.Calls.Open.{NothingIsOpen, rescanned_in}
use Rattle.cas_board_steps.specs.Exchanges.Orders.{HasHarms, MarksHarms, OperatesIn, IsToldIn, IsProbeAnswer, IsSilentAtMost, IsTrueProbe, WasAskedBehind, stops_probe}
use Rattle.cas_model_causes.proofs.Exchanges.Current.{among_fewer}
use Rattle.cas_ballot.specs.Members.{members_where, has_member, IsMemberSet}
use Rattle.cas_ballot.proofs.MemberLemmas.{IsMemberSet-members_where}
use Rattle.cas_board_steps.specs.Owners.{owner_of}
use Rattle.cas_board_steps.specs.OwnParts.{own_part}
use Rattle.cas_world.specs.Eras.Plans.{rescanned_of}
use Rattle.cas_board_steps.proofs.Eras.Counting.{done_append, own_rescanned, risen_by}
use Rattle.cas_board_steps.proofs.Fronts.{front_goes_on, goes_on_then, mine_append, mine_seen}
use Rattle.cas_board_steps.proofs.Exchanges.Operating.{told_mine}
use Rattle.cas_board.specs.Changes.{IsCounted}
use Rattle.cas_board.specs.Operations.{HasCountedTo, HasOperated, HasMarkedHarms, IsSilentSince, WasToldLast, Operates, is_told}
use Rattle.cas_board.specs.Passes.{IsPassOf}
use Rattle.cas_board.proofs.Losses.{counted_then}
use Rattle.cas_board.proofs.Sittings.{WasHeld, few_then, counted_none, counted_less}

-- ---- one hold
module _ {S V A : Type 0} (before after : View S V) (old new : Sitting A Mark) (was : WasHeld 0 before after old new) where
  pub operator_made : (marks : List Mark) → Makes 0 before after marks → FrontGoesOn old.number old.seen new.seen (mine 0 marks)
  operator_made marks makes =
      subst (λ (k : ℕ). FrontGoesOn k old.seen new.seen (mine 0 marks)) was.number
      (front_goes_on 0 old.seen before.marks new.seen marks (subst (λ (k : ℕ). HasSeenOwn owner_of k old.seen before.marks) (sym was.number) was.has) (was.seen ∙ makes.made))

  pub operator_own : new.own ≡ own_part after 0
  operator_own = was.own ∙ ap (own_part after) (sym was.number)

  -- what is counted
  kept_count : rescanned_in new.own ≡ rescanned_of after.council.plan
  kept_count = ap rescanned_in operator_own ∙ own_rescanned after

  operator_counts : (count : ℕ) → CountsTo count before after → HasCountedTo count old new
  operator_counts count counts =
      let was_seen : done_calls (mine old.number before.marks) ≡ done_calls (mine old.number old.seen) = ap done_calls (mine_seen old.number old.seen before.marks was.has) in
      let before_is : done_calls (mine 0 before.marks) ≡ done_calls (mine old.number before.marks) = ap (λ (k : ℕ). done_calls (mine k before.marks)) was.number in
      let after_is : done_calls (mine 0 after.marks) ≡ done_calls (mine old.number new.seen) = ap (λ (k : ℕ). done_calls (mine k after.marks)) was.number ∙ ap (λ (l : List Mark). done_calls (mine old.number l)) (sym was.seen) in
      let kept_before : rescanned_of before.council.plan ≡ rescanned_in old.own = sym (own_rescanned before) ∙ ap rescanned_in (ap (own_part before) was.number ∙ was.part) in
      record { no_more = omega (arith, counts.no_more, was_seen, before_is, after_is, kept_before); each = λ low. (let all = counts.each low in omega (arith, all, was_seen, before_is, after_is, kept_before)) }

  pub still_counted : rescanned_of after.council.plan ≡ rescanned_of before.council.plan → rescanned_in new.own ≡ rescanned_in old.own
  still_counted same = kept_count ∙ same ∙ sym (own_rescanned before) ∙ ap rescanned_in (ap (own_part before) was.number ∙ was.part)

  pub operator_goes_on : (such : Mark → Type 0) (most : ℕ) → OperatesIn such most before after → HasOperated such most old new
  operator_goes_on such most o = record { marks = mine 0 o.marks; front = operator_made o.marks o.makes; all_such = o.all_such; few = o.few; counts = λ enters. subst (λ (n : ℕ). HasCountedTo n old new) (sym kept_count) (operator_counts (rescanned_of after.council.plan) (o.counts enters)); keeps = λ not. still_counted (o.keeps not) }

  pub operator_told : (asked : Asked) (such : Mark → Type 0) (most : ℕ) (answer : OpAnswer) → IsToldIn asked such most before after answer → WasToldLast asked such most old new answer
  operator_told asked such most answer t = record {
    marks = mine 0 t.marks;
    front = subst (FrontGoesOn old.number old.seen new.seen) (mine_append 0 t.marks (told_marks asked answer) ∙ ap (λ (l : List Mark). mine 0 t.marks ++ l) (told_mine asked answer)) (operator_made (t.marks ++ told_marks asked answer) t.makes);
    last = record { before = before.marks ++ t.marks; whole = append_assoc before.marks t.marks (told_marks asked answer) ∙ sym t.makes.made ∙ sym was.seen };
    all_such = t.all_such;
    few = t.few;
    is_free = subst NothingIsOpen (sym operator_own) t.is_free;
    counts = λ enters. let tells = t.counts enters in
        subst (λ (n : ℕ). HasCountedTo (count_told answer n) old new × LeavesNone answer n) (sym kept_count) (operator_counts (count_told answer (rescanned_of after.council.plan)) tells.0, tells.1);
    keeps = λ not. still_counted (t.keeps not);
  }

  pub operator_harms : own_part before 0 ≡ old.own → MarksHarms before after → HasMarkedHarms old new
  operator_harms own_was marks harms has =
      let then_ = marks harms (subst (HasHarms harms) (sym own_was) has) in
      let had : HasSeenOwn owner_of 0 old.seen before.marks = subst (λ (k : ℕ). HasSeenOwn owner_of k old.seen before.marks) (sym was.number) was.has in (
        then_.0,
        subst (HasHarms then_.0) (sym operator_own) then_.1,
        omega (arith, then_.2, ap (λ (l : List Mark). length l) (mine_seen 0 old.seen before.marks had), ap (λ (l : List Mark). length (mine 0 l)) was.seen),
      )

-- by what a hold answered, it made marks that may be given back
pub operates_or_tells : {S V T : Type 0} (asked : Asked) (such such_last : Mark → Type 0) (most : ℕ) (before after : View S V) (result : Result T OpAnswer) → OnOk result (OperatesIn such most before after) → IfErr result (IsToldIn asked such_last most before after) → IsHeldBy 0 before after
operates_or_tells asked such such_last most before after (Ok value) goes told = (_, goes.makes)
operates_or_tells asked such such_last most before after (Err answer) goes told = (_, told.makes)

pub asks_or_tells : {S V T : Type 0} (asked : Asked) (such : Mark → Type 0) (most : ℕ) (before after : View S V) (result : Result T OpAnswer) → OnOk result (Makes 0 before after []) → IfErr result (IsToldIn asked such most before after) → IsHeldBy 0 before after
asks_or_tells asked such most before after (Ok value) makes told = (_, makes)
asks_or_tells asked such most before after (Err answer) makes told = (_, told.makes)

-- ---- one hold after another
-- the pass of a call of the operator that has gone on, and what was lost by then
pub record HasRunOrder {A : Type 0} (such : Mark → Type 0) (harms harms_now : ℕ) (old now : Sitting A Mark) : Type 0 where
  pub pass : now ≡ record old { seen = now.seen; own = now.own }
  pub lost : ℕ
  pub counted : IsCounted lost harms harms_now
  pub operated : HasOperated such lost old now

pub order_runs : {A : Type 0} (such : Mark → Type 0) (harms : ℕ) (pass : Sitting A Mark) → HasRunOrder such harms harms pass pass
order_runs such harms pass = record {
  pass = refl;
  lost = 0;
  counted = counted_none harms;
  operated = record { marks = []; front = record { begins = record { behind = []; whole = append-nil pass.seen }; own_marks = sym (append-nil (mine pass.number pass.seen)) }; all_such = All-nil such; few = omega arith; counts = λ enters. risen_by refl; keeps = λ not. refl };
}

-- a count that had not changed before it rose
risen_behind : (ra rb rc da db dc : ℕ) → HasRisen rb db dc rc → rb ≡ ra → db ≡ da → HasRisen ra da dc rc
risen_behind ra rb rc da db dc rose same_r same_d = subst (λ (r : ℕ). HasRisen r da dc rc) same_r (subst (λ (d : ℕ). HasRisen rb d dc rc) same_d rose)

-- counts over two spans, between which neither changes
risen_then : (ra rb rc rd da db dc dd : ℕ) → HasRisen ra da db rb → rc ≡ rb → dc ≡ db → dc ≤ dd → HasRisen rc dc dd rd → HasRisen ra da dd rd
risen_then ra rb rc rd da db dc dd first same_r same_d more last = record {
  no_more = omega (arith, first.no_more, last.no_more, same_r, same_d);
  each = λ low.
      let two = last.each low in
      let one = first.each (omega (arith, two, more, same_r, low)) in
      omega (arith, one, two, same_r, same_d);
}

module _ {A : Type 0} (such : Mark → Type 0) (harms harms_now : ℕ) (a b c : Sitting A Mark) (run : HasRunOrder such harms harms_now a b) (strayed : c ≡ record b { seen = c.seen }) where
  number_b : b.number ≡ a.number
  number_b = ap (λ (s : Sitting A Mark). s.number) run.pass

  pub order_number : c.number ≡ a.number
  order_number = ap (λ (s : Sitting A Mark). s.number) strayed ∙ number_b

  pub order_pass : (board : Turning) → IsPassOf board a → IsPassOf board c
  order_pass board is = record {
    turn = ap (λ (s : Sitting A Mark). s.turn) strayed ∙ ap (λ (s : Sitting A Mark). s.turn) run.pass ∙ is.turn;
    seats = ap (λ (s : Sitting A Mark). s.seats) strayed ∙ ap (λ (s : Sitting A Mark). s.seats) run.pass ∙ is.seats;
    idle = ap (λ (s : Sitting A Mark). s.holds) strayed ∙ ap (λ (s : Sitting A Mark). s.holds) run.pass ∙ is.idle;
    seated = let number : c.number ≡ a.number = order_number in omega (arith, number, is.seated);
    known = let number : c.number ≡ a.number = order_number in omega (arith, number, is.known);
  }

  pub order_own : c.own ≡ b.own
  order_own = ap (λ (s : Sitting A Mark). s.own) strayed

  module _ (most harms_then : ℕ) (d : Sitting A Mark) (strays : FrontGoesOn b.number b.seen c.seen []) (counts : IsCounted most harms_now harms_then) (gave : d ≡ record c { seen = d.seen; own = d.own }) where
    pub order_ran : d ≡ record a { seen = d.seen; own = d.own }
    order_ran = gave ∙ ap (λ (s : Sitting A Mark). record s { seen = d.seen; own = d.own }) strayed ∙ ap (λ (s : Sitting A Mark). record s { seen = d.seen; own = d.own }) run.pass

    whole_front : (more : List Mark) → FrontGoesOn c.number c.seen d.seen more → FrontGoesOn a.number a.seen d.seen (run.operated.marks ++ more)
    whole_front more then_ =
        goes_on_then a.number a.seen b.seen d.seen run.operated.marks more run.operated.front
        (goes_on_then a.number b.seen c.seen d.seen [] more (subst (λ (k : ℕ). FrontGoesOn k b.seen c.seen []) number_b strays) (subst (λ (k : ℕ). FrontGoesOn k c.seen d.seen more) order_number then_))

    counts_whole : EntersEras such → (count : ℕ) (more : List Mark) → FrontGoesOn c.number c.seen d.seen more → HasCountedTo count c d → HasCountedTo count a d
    counts_whole enters count more then_ last =
        let goes : FrontGoesOn a.number c.seen d.seen more = subst (λ (k : ℕ). FrontGoesOn k c.seen d.seen more) order_number then_ in
        let between : FrontGoesOn a.number b.seen c.seen [] = subst (λ (k : ℕ). FrontGoesOn k b.seen c.seen []) number_b strays in
        let grown : done_calls (mine a.number d.seen) ≡ done_calls (mine a.number c.seen) + done_calls more = ap done_calls goes.own_marks ∙ done_append (mine a.number c.seen) more in
        risen_then (rescanned_in a.own) (rescanned_in b.own) (rescanned_in c.own) count (done_calls (mine a.number a.seen)) (done_calls (mine a.number b.seen)) (done_calls (mine a.number c.seen)) (done_calls (mine a.number d.seen))
        (run.operated.counts enters) (ap rescanned_in order_own) (ap done_calls (between.own_marks ∙ append-nil (mine a.number b.seen))) (omega (arith, grown))
        (subst (λ (k : ℕ). HasRisen (rescanned_in c.own) (done_calls (mine k c.seen)) (done_calls (mine k d.seen)) count) order_number last)

    pub order_goes_on : HasOperated such most c d → HasRunOrder such harms harms_then a d
    order_goes_on then_ = record {
      pass = order_ran;
      lost = run.lost + most;
      counted = counted_then run.lost most harms harms_now harms_then run.counted counts;
      operated = record {
        marks = run.operated.marks ++ then_.marks;
        front = whole_front then_.marks then_.front;
        all_such = All-append such run.operated.marks then_.marks run.operated.all_such then_.all_such;
        few = few_then run.operated.marks then_.marks run.lost most run.operated.few then_.few;
        counts = λ enters. counts_whole enters (rescanned_in d.own) then_.marks then_.front (then_.counts enters);
        keeps = λ not. then_.keeps not ∙ ap rescanned_in order_own ∙ run.operated.keeps not;
      };
    }

    pub order_ends : (asked : Asked) (answer : OpAnswer) → WasToldLast asked such most c d answer → (lost : ℕ) × IsCounted lost harms harms_then × WasToldLast asked such lost a d answer
    order_ends asked answer then_ = (
      run.lost + most,
      counted_then run.lost most harms harms_now harms_then run.counted counts,
      record {
        marks = run.operated.marks ++ then_.marks;
        front = subst (FrontGoesOn a.number a.seen d.seen) (sym (append_assoc run.operated.marks then_.marks (told_marks asked answer))) (whole_front (then_.marks ++ told_marks asked answer) then_.front);
        last = then_.last;
        all_such = All-append such run.operated.marks then_.marks run.operated.all_such then_.all_such;
        few = few_then run.operated.marks then_.marks run.lost most run.operated.few then_.few;
        is_free = then_.is_free;
        counts = λ enters. let tells = then_.counts enters in (counts_whole enters (count_told answer (rescanned_in d.own)) (then_.marks ++ told_marks asked answer) then_.front tells.0, tells.1);
        keeps = λ not. then_.keeps not ∙ ap rescanned_in order_own ∙ run.operated.keeps not;
      },
    )

-- a probe that has gone on by one hold more, before which frames strayed in
pub marked_harms : {A : Type 0} (a b c d : Sitting A Mark) → HasMarkedHarms a b → c.own ≡ b.own → b.number ≡ 0 → FrontGoesOn b.number b.seen c.seen [] → HasMarkedHarms c d → HasMarkedHarms a d
marked_harms a b c d first own number strays last harms has =
    let one = first harms has in
    let two = last one.0 (subst (HasHarms one.0) (sym own) one.1) in
    let goes : FrontGoesOn 0 b.seen c.seen [] = subst (λ (k : ℕ). FrontGoesOn k b.seen c.seen []) number strays in
    (two.0, two.1, omega (arith, one.2, two.2, ap (λ (l : List Mark). length l) (goes.own_marks ∙ append-nil (mine 0 b.seen))))

pub none_marked : {A : Type 0} (a : Sitting A Mark) → HasMarkedHarms a a
none_marked a harms has = (harms, has, omega arith)

-- ---- those that told nothing
-- a pass whose front went on has no fewer marks of caller 0
pub own_grown : {A : Type 0} (old new : Sitting A Mark) (marks : List Mark) → old.number ≡ 0 → FrontGoesOn old.number old.seen new.seen marks → length (mine 0 old.seen) ≤ length (mine 0 new.seen)
own_grown old new marks number front =
    let goes : FrontGoesOn 0 old.seen new.seen marks = subst (λ (k : ℕ). FrontGoesOn k old.seen new.seen marks) number front in
    omega (arith, ap (λ (l : List Mark). length l) goes.own_marks, length-append (mine 0 old.seen) marks)

pub silent_since : {A : Type 0} (most harms : ℕ) (old new : Sitting A Mark) (told : OpAnswer) → most + length (mine 0 old.seen) ≤ harms + length (mine 0 new.seen) → IsSilentAtMost most told → IsSilentSince harms old new told
silent_since most harms old new (op.Probed key found) more few = omega (arith, few, more)
silent_since most harms old new (op.Joined id era rescanned) more few = tt
silent_since most harms old new (op.Left id era rescanned) more few = tt
silent_since most harms old new (op.Resized need_prep need_acc era rescanned) more few = tt
silent_since most harms old new (op.Refused fault) more few = tt
silent_since most harms old new (op.Busy era) more few = tt
silent_since most harms old new (op.Collected key ballot removed kept) more few = tt
silent_since most harms old new (op.NotEmpty version) more few = tt
silent_since most harms old new (op.Absent acceptor) more few = tt
silent_since most harms old new (op.ProposerDown proposer) more few = tt
silent_since most harms old new (op.Stopped why) more few = tt

-- so it is since a pass that had no more marks
pub silent_before : {A : Type 0} (harms : ℕ) (first old new : Sitting A Mark) (told : OpAnswer) → length (mine 0 first.seen) ≤ length (mine 0 old.seen) → IsSilentSince harms old new told → IsSilentSince harms first new told
silent_before harms first old new (op.Probed key found) fewer few = omega (arith, few, fewer)
silent_before harms first old new (op.Joined id era rescanned) fewer few = tt
silent_before harms first old new (op.Left id era rescanned) fewer few = tt
silent_before harms first old new (op.Resized need_prep need_acc era rescanned) fewer few = tt
silent_before harms first old new (op.Refused fault) fewer few = tt
silent_before harms first old new (op.Busy era) fewer few = tt
silent_before harms first old new (op.Collected key ballot removed kept) fewer few = tt
silent_before harms first old new (op.NotEmpty version) fewer few = tt
silent_before harms first old new (op.Absent acceptor) fewer few = tt
silent_before harms first old new (op.ProposerDown proposer) fewer few = tt
silent_before harms first old new (op.Stopped why) fewer few = tt

-- a probe that was told in one hold more, before which frames strayed in
pub silent_then : {A : Type 0} (asked : Asked) (such : Mark → Type 0) (most harms : ℕ) (a b c d : Sitting A Mark) (told : OpAnswer) → HasMarkedHarms a b → HasHarms harms a.own → c.own ≡ b.own → b.number ≡ 0 → c.number ≡ 0 → FrontGoesOn b.number b.seen c.seen []
    → ((less : ℕ) → HasHarms less c.own → IsSilentAtMost less told) → WasToldLast asked such most c d told → IsSilentSince harms a d told
silent_then asked such most harms a b c d told first has own b_number c_number strays silent last =
    let one = first harms has in
    silent_since one.0 harms a d told (omega (arith, one.2, own_grown b c [] b_number strays, own_grown c d (last.marks ++ told_marks asked told) c_number last.front)) (silent one.0 (subst (HasHarms one.0) (sym own) one.1))

-- ---- what a probe tells
-- the members were asked behind fewer marks, too
pub asked_earlier : (few many : ℕ) {own : List ℕ} → few ≤ many → WasAskedBehind many own → WasAskedBehind few own
asked_earlier few many low has = record { council = has.council; is = has.is; exchange = has.exchange; is_open = has.is_open; behind = omega (arith, low, has.behind) }

-- what a pass had seen is no longer than the record
pub seen_of : {S V A : Type 0} (before after : View S V) (old new : Sitting A Mark) → WasHeld 0 before after old new → (marks : List Mark) → before.marks ≡ marks → length old.seen ≤ length marks
seen_of before after old new was marks same = omega (arith, length-append old.seen was.has.behind, ap (λ (l : List Mark). length l) was.has.whole, ap (λ (l : List Mark). length l) same)

-- the marks with which a front began are the first ones of any later front
pub begun_in : (old mid new : List Mark) {x : Mark} → Begins old mid → Begins mid new → Contains old x → Contains (take (length old) new) x
begun_in old mid new {x} first second there =
    let both = begins_both old mid new first second in
    subst (λ (l : List Mark). Contains l x) (sym (take-append_seam old both.behind) ∙ ap (λ (l : List Mark). take (length old) l) both.whole) there

-- what is true by more marks before a probe is so by fewer
pub true_among : (more fewer all : List Mark) (told : OpAnswer) → ((x : Mark) → Contains fewer x → Contains more x) → IsTrueProbe more all told → IsTrueProbe fewer all told
true_among more fewer all (op.Probed key found) each is = (is.0, λ place one t at tells. among_fewer (reverse all) more fewer key one.acceptor t each (is.1 place one t at tells), is.2)
true_among more fewer all (op.Joined id era rescanned) each is = tt
true_among more fewer all (op.Left id era rescanned) each is = tt
true_among more fewer all (op.Resized need_prep need_acc era rescanned) each is = tt
true_among more fewer all (op.Refused fault) each is = tt
true_among more fewer all (op.Busy era) each is = tt
true_among more fewer all (op.Collected key ballot removed kept) each is = tt
true_among more fewer all (op.NotEmpty version) each is = tt
true_among more fewer all (op.Absent acceptor) each is = tt
true_among more fewer all (op.ProposerDown proposer) each is = tt
true_among more fewer all (op.Stopped why) each is = tt

-- ---- marks of which less is known
barred : {such less : Mark → Type 0} → ((mark : Mark) → such mark → less mark) → (EntersEras less → ⊥) → EntersEras such → ⊥
barred weaker not enters = not (λ proposer era. weaker (EraEntered proposer era) (enters proposer era))

module _ {A : Type 0} (such less : Mark → Type 0) (weaker : (mark : Mark) → such mark → less mark) (back : EntersEras less → EntersEras such) where
  pub operated_less : (most : ℕ) (old new : Sitting A Mark) → HasOperated such most old new → HasOperated less most old new
  operated_less most old new o = record { marks = o.marks; front = o.front; all_such = All-weaker such less weaker o.marks o.all_such; few = o.few; counts = λ enters. o.counts (back enters); keeps = λ not. o.keeps (barred weaker not) }

  pub told_less : (asked : Asked) (most : ℕ) (old new : Sitting A Mark) (answer : OpAnswer) → WasToldLast asked such most old new answer → WasToldLast asked less most old new answer
  told_less asked most old new answer t = record { marks = t.marks; front = t.front; last = t.last; all_such = All-weaker such less weaker t.marks t.all_such; few = t.few; is_free = t.is_free; counts = λ enters. t.counts (back enters); keeps = λ not. t.keeps (barred weaker not) }

  pub run_less : (harms harms_now : ℕ) (old now : Sitting A Mark) → HasRunOrder such harms harms_now old now → HasRunOrder less harms harms_now old now
  run_less harms harms_now old now run = record { pass = run.pass; lost = run.lost; counted = run.counted; operated = operated_less run.lost old now run.operated }

-- ---- the whole
-- holds that made no mark of caller 0's stood before it
pub told_behind : {A : Type 0} (asked : Asked) (such : Mark → Type 0) (most : ℕ) (a b c : Sitting A Mark) (answer : OpAnswer) → b.number ≡ a.number → FrontGoesOn a.number a.seen b.seen [] → rescanned_in b.own ≡ rescanned_in a.own
    → WasToldLast asked such most b c answer → WasToldLast asked such most a c answer
told_behind asked such most a b c answer number first counted told = record {
  marks = told.marks;
  front = goes_on_then a.number a.seen b.seen c.seen [] (told.marks ++ told_marks asked answer) first (subst (λ (k : ℕ). FrontGoesOn k b.seen c.seen (told.marks ++ told_marks asked answer)) number told.front);
  last = told.last;
  all_such = told.all_such;
  few = told.few;
  is_free = told.is_free;
  counts = λ enters. let tells = told.counts enters in (
    risen_behind (rescanned_in a.own) (rescanned_in b.own) (count_told answer (rescanned_in c.own)) (done_calls (mine a.number a.seen)) (done_calls (mine a.number b.seen)) (done_calls (mine a.number c.seen))
        (subst (λ (k : ℕ). HasRisen (rescanned_in b.own) (done_calls (mine k b.seen)) (done_calls (mine k c.seen)) (count_told answer (rescanned_in c.own))) number tells.0) counted (ap done_calls (first.own_marks ∙ append-nil (mine a.number a.seen))),
    tells.1,
  );
  keeps = λ not. told.keeps not ∙ counted;
}

pub operates_told : {A : Type 0} (asked : Asked) (such : Mark → Type 0) (lost harms harms_then : ℕ) (a c : Sitting A Mark) (answer : OpAnswer) → IsCounted lost harms harms_then → WasToldLast asked such lost a c answer → Operates asked such harms harms_then a c answer
operates_told asked such lost harms harms_then a c answer counted told = is_told told.marks told.front told.last told.all_such (counted_less (losses told.marks) lost harms harms_then told.few counted) told.counts

-- ---- by how a result goes
pub on_ok : {A E P Q : Type 0} (result : Result A E) → (P → Q) → OnOk result P → OnOk result Q
on_ok (Ok value) then_ p = then_ p
on_ok (Err told) then_ p = tt

pub if_ok : {A E : Type 0} {P Q : A → Type 0} (result : Result A E) → ((value : A) → P value → Q value) → IfOk result P → IfOk result Q
if_ok (Ok value) then_ p = then_ value p
if_ok (Err told) then_ p = tt

pub if_err : {A E : Type 0} {P Q : E → Type 0} (result : Result A E) → ((told : E) → P told → Q told) → IfErr result P → IfErr result Q
if_err (Ok value) then_ p = tt
if_err (Err told) then_ p = then_ told p

-- ---- in a hold of the operator's
-- what is there of its own is as it was left
pub operator_part : {S V : Type 0} (n : ℕ) (inside before : View S V) (own : List ℕ) → n ≡ 0 → inside ≡ before → own_part before n ≡ own → own_part inside 0 ≡ own
operator_part {S} {V} n inside before own is_first same part = ap (λ (v : View S V). own_part v 0) same ∙ ap (own_part before) (sym is_first) ∙ part

-- ---- a probe
refused_stops : (made : ℕ) (why : Answer) → IsRefusalBehind made why → stops_probe why ≡ true
refused_stops made why (inl full) = ap stops_probe full.0
refused_stops made why (inr none) = ap stops_probe none

no_members : IsMemberSet (members_where (λ n. false))
no_members = IsMemberSet-members_where (λ n. false)

pub everyone_set : {S V : Type 0} (view : View S V) → IsMemberSet (everyone view)
everyone_set view = IsMemberSet-members_where (λ n. has_member (era_at view 0).prep n || has_member (era_at view 0).acc n)

pub answers_any : (key : List ℕ) (told : OpAnswer) → ((members : List ℕ) → IsProbeAnswer key members told) → (members : List ℕ) × IsMemberSet members × IsProbeAnswer key members told
answers_any key told each = (members_where (λ n. false), no_members, each (members_where (λ n. false)))

pub refused_answers : (key : List ℕ) (made : ℕ) (why : Answer) → IsRefusalBehind made why → (members : List ℕ) × IsMemberSet members × IsProbeAnswer key members (Stopped why)
refused_answers key made why refusal = (members_where (λ n. false), no_members, refused_stops made why refusal)
