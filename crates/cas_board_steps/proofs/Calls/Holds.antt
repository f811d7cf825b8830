-- What a hold does for a caller's call, by what its calls on the world do.
use Rattle.std.proofs.Common.{◌≡◌, ◌≤◌, ℕ, zero, suc, Bool, true, false, if◌then◌else◌, List, [], ◌∷◌, ◌++◌, Option, None, Some, IsSome, slice_get, slice_set, length, inl, inr, refl, sym, ap, ap₂, subst, ◌∙◌, append-nil, arith}
use Rattle.std.specs.Prelude.{◌⊎◌, ◌<◌, IfSome, option_map, is_some, Result, Ok, Err, OnOk, OnErr, IfErr, IsErrOf}
use Rattle.std.proofs.lemmas.List.Elements.{All-append, All-nil, All-cons, All-head}
use Rattle.cas_change.specs.declared.program.Clause.{Clause}
use Rattle.cas_fate.specs.declared.fate.Verdict.{Verdict}
use Rattle.cas_proposer.specs.Desk.{DeskView}
use Rattle.cas_record.proofs.Tests.{nat_is}
use Rattle.cas_record.specs.declared.answer.Answer.{Answer}
use Rattle.cas_record.specs.declared.answer.Answer.TheVariants as answer
use Rattle.cas_record.specs.declared.mark.Mark.{Mark}
use Rattle.cas_record.specs.declared.mark.Mark.TheVariants.{Begun, Ended}
use Rattle.cas_model.specs.Council.{Council}
use Rattle.cas_model.specs.Step.{Step, OpenRoundAt, Stray, RefuseStray, StepBegin, StepCount, StepEnd, StepPropose, StepRefuseTurn, StepTurn}
use Rattle.cas_model.specs.Calls.Step as calls
use Rattle.cas_model.specs.Calls.Step.{one_more}
use Rattle.cas_model_causes.specs.Calls.Told.{BeginsBy, AcceptsBy}
use Rattle.cas_model.specs.Frames.Step as frames
use Rattle.cas_model.specs.View.{Meaning, View, CallView, CallerView, IsAt}
use Rattle.cas_model.proofs.Places.{at_one, at_set, some_is}
use Rattle.cas_turn.specs.Seen.{OnlyOwnedBy}
use Rattle.cas_world.specs.Calls.Beginning.{HasRound, HasNoCall, BeginsOrNot, MayBegin, first, is_refusal}
use Rattle.cas_world.specs.Readers.{next_number}
use Rattle.cas_world.specs.Calls.Reading.{HasProposed}
use Rattle.cas_world.specs.World.{WasTold}
use Rattle.cas_board_steps.specs.Calls.Conflicts.{is_conflict, told_conflict}
use Rattle.cas_board_steps.specs.Calls.Changes.{BeginsIn, IsRefusalBehind, LeavesIdle, BeginsNot, ends_at_once, is_refused, GoesOnIn, EndsMarked, StraysIn, harm_by}
use Rattle.cas_board_steps.specs.Kept.{IsStaged, running, IsKept, Makes}
use Rattle.cas_board_steps.specs.Mine.{mine, call_of, AreOfCall, losses, Wanted, wants, wanted_after, wanted_by}
use Rattle.cas_board_steps.specs.Owners.{owner_of}
use Rattle.cas_board_steps.specs.OwnParts.{plan_part, council_part, own_part}
use Rattle.cas_board_steps.specs.Calls.Open.{NothingIsOpen, IsIdle, HasOpen, rounds_after}
use Rattle.cas_board_steps.proofs.Calls.Acts.{Acts, acts_then, acts_aside, makes_aside, kept_aside, spares_same, spares_rounds, part_same, makes_of, OwnKept, was_desk, staged_same, kept_by}
use Rattle.cas_board_steps.proofs.Calls.Events.{Fine, fine_none, CallGoesOn, CallIsOver, LetsInLate, quiet_rescans, rescans_unasked, end_ends, stray_lets_in, refused_stray_lets_in, first_begins, again_goes_on, over_where_told, turn_goes_on, refused_turn_goes_on, propose_goes_on, count_is_over, refused_acts}
use Rattle.cas_board_steps.proofs.Fronts.{wanted_append}
use Rattle.cas_board_steps.proofs.Exchanges.Councils.{is_like, no_order, with_plan}
use Rattle.cas_board_steps.proofs.Parts.{rest_of, rest_same, open_at, open_quiet, idle_quiet, idle_call, stays_open, is_open_then, own_closed, now_idle, beside_part, rounds_part, met_part, after_part}
use Rattle.cas_board_steps.proofs.Calls.Stages.{NextAt, next_at, IsRoundRunning, running_call, runs_there, met_told, turn_running, proposed_running, propose_met}

-- ---- calls that go on
-- the caller of the open call is the one that stands there
pub number_of : {S V : Type 0} (view : View S V) (n call : ℕ) → HasOpen call (own_part view n) → (caller : CallerView) → IsAt view.callers n caller → caller.number ≡ call
number_of view n call has caller at = let open_ = open_at view n call has in ap (λ (c : CallerView). c.number) (at_one view.callers n at open_.at_caller) ∙ open_.number

-- what a hold does, what the store keeps true by it, and how many proposers there are then
pub record Held {S V : Type 0} (old new : View S V) (Does : Type 0) : Type 0 where
  pub does : Does
  pub kept : IsKept new
  pub last_proposer : new.last_proposer ≡ old.last_proposer

wanted_by_acts : {S V : Type 0} (n call most : ℕ) (old new : View S V) (marks : List Mark) → Acts n old new marks → Fine n call most marks → wanted_by n new.marks ≡ wanted_by n old.marks
wanted_by_acts n call most old new marks acts fine = ap (wanted_by n) acts.made ∙ wanted_append n None old.marks marks ∙ fine.asks (wanted_by n old.marks)

-- the open call as it goes on: as it was, or once more behind a conflict
pub record EntersAgain (was entered : CallView) : Type 0 where
  pub key : entered.key ≡ was.key
  pub program : entered.program ≡ was.program
  pub rounds : entered.rounds ≡ (if told_conflict was.told then one_more was.rounds else was.rounds)

pub enters_same : (was : CallView) → told_conflict was.told ≡ false → EntersAgain was was
enters_same was unmet = record { key = refl; program = refl; rounds = ap (λ (b : Bool). if b then one_more was.rounds else was.rounds) (sym unmet) }

enters_again : (was : CallView) (reserved : ℕ) → calls.WasMet was.told → EntersAgain was (calls.tried_again was reserved)
enters_again was reserved met = record { key = refl; program = refl; rounds = ap (λ (b : Bool). if b then one_more was.rounds else was.rounds) (sym (met_told was.told met)) }

pub goes_on_in : {S V : Type 0} (n call most : ℕ) (old new : View S V) (caller : CallerView) (was entered : CallView) → IsAt old.callers n caller → caller.call ≡ Some was → EntersAgain was entered → HasOpen call (own_part old n) → IsKept old → (goes : CallGoesOn n most old new caller entered)
    → ((desk : DeskView V) → IsAt new.desks n desk → IsStaged desk goes.next) → Held old new (GoesOnIn n call most old new)
goes_on_in {S} {V} n call most old new caller was entered at is enters has kept goes staged =
    let number : caller.number ≡ call = number_of old n call has caller at in
    let next_caller : CallerView = record caller { call = Some goes.next } in
    let wanted : wanted_by n new.marks ≡ wanted_by n old.marks = wanted_by_acts n caller.number most old new goes.marks goes.acts goes.fine in
    record {
      does = record {
        marks = goes.marks;
        makes = makes_of n old new goes.marks goes.acts goes.fine.may_add goes.fine.only;
        of_call = subst (λ (k : ℕ). AreOfCall k (mine n goes.marks)) number goes.fine.of_call;
        few = goes.fine.few;
        is_open = stays_open old new n call has goes.acts.council next_caller goes.next goes.at_next number refl;
        rounds = rounds_part new n next_caller goes.next goes.at_next refl ∙ goes.rounds ∙ enters.rounds ∙ sym (after_part old n caller was at is);
        beside = beside_part new n next_caller goes.next goes.at_next refl ∙ rest_same old new n goes.acts.council ∙ sym (beside_part old n caller was at is);
        council = goes.acts.council;
        wanted = wanted;
      };
      kept = kept_by n old new goes.marks goes.acts goes.fine.only kept (record {
        staged = λ desk one open_ at_desk at_one_ is_open. subst (λ (c : CallView). IsStaged desk c) (some_is (ap (λ (c : CallerView). c.call) (at_one new.callers n goes.at_next at_one_) ∙ is_open)) (staged desk at_desk);
        wanted = λ one open_ at_one_ is_open.
            let same : next_caller ≡ one = at_one new.callers n goes.at_next at_one_ in
            let same_call : goes.next ≡ open_ = some_is (ap (λ (c : CallerView). c.call) same ∙ is_open) in
            let before : wanted_by n old.marks ≡ Some (wants caller.number was.key was.program) = kept.wanted n caller was at is in
            wanted ∙ before ∙ ap₂ (λ (k : List ℕ) (p : List Clause). Some (wants caller.number k p)) (sym (goes.key ∙ enters.key)) (sym (goes.program ∙ enters.program))
            ∙ ap₂ (λ (c : CallerView) (o : CallView). Some (wants c.number o.key o.program)) same same_call;
      });
      last_proposer = goes.acts.last_proposer;
    }

-- ---- calls that end
-- nothing is done before it ends
pub over_at_once : {S V : Type 0} (n most : ℕ) (old : View S V) (caller : CallerView) (was : CallView) → IsAt old.callers n caller → caller.call ≡ Some was → CallIsOver n most old old caller was
over_at_once n most old caller was at is = record {
  goes = record {
    next = was;
    marks = [];
    acts = record { last_proposer = refl; desks = spares_rounds n old.desks old.desks (spares_same n old.desks old.desks refl); callers = spares_same n old.callers old.callers refl; council = refl; made = sym (append-nil old.marks) };
    fine = fine_none n caller.number most;
    at_next = subst (λ (c : CallerView). IsAt old.callers n c) (ap (λ (o : Option CallView). record caller { call = o }) is) at;
    key = refl;
    program = refl;
    rounds = refl;
    closed = λ open_. open_;
    told = λ desk at_desk some unmet. unmet;
  };
  may_end = λ rounds told. (tt, tt);
}

-- the end of a call leaves what stood beside it, where that was no call of the operator
rest_still : {S V : Type 0} (n : ℕ) (key : List ℕ) (told : Answer) (old new : View S V) → calls.Rescans old.council n key told new.council → NothingIsOpen (rest_of old n) → rest_of new n ≡ rest_of old n
rest_still zero key told old new then_ free =
    let none : old.council.order ≡ None = no_order old.council.order (is_like old.council (with_plan free.plan) (free.is ∙ sym (append-nil (plan_part free.plan)))).order in
    ap council_part (quiet_rescans 0 old.council new.council key told (λ first_. none) then_)
rest_still (suc n) key told old new then_ free = refl

-- a caller with no open call has nothing of its own to keep
pub idle_kept : {S V : Type 0} (n : ℕ) (view : View S V) (caller : CallerView) → IsAt view.callers n caller → caller.call ≡ None → OwnKept n view
idle_kept {S} {V} n view caller at none = record {
  staged = λ desk one open_ at_desk at_one_ is_open. absurd (cc (sym none ∙ ap (λ (c : CallerView). c.call) (at_one view.callers n at at_one_) ∙ is_open));
  wanted = λ one open_ at_one_ is_open. absurd (cc (sym none ∙ ap (λ (c : CallerView). c.call) (at_one view.callers n at at_one_) ∙ is_open));
}

only_ended : (n call rounds : ℕ) (told : Answer) → OnlyOwnedBy owner_of n (Ended n call rounds told ∷ [])
only_ended n call rounds told = All-cons (λ i. (m : ℕ) → owner_of i ≡ Some m → m ≡ n) (Ended n call rounds told) [] (λ m e. sym (some_is e)) (All-nil (λ i. (m : ℕ) → owner_of i ≡ Some m → m ≡ n))

pub ends_in : {S V : Type 0} (m : Meaning S V) (n call most : ℕ) (told : Answer) (old mid new : View S V) (caller : CallerView) (was entered : CallView) → IsAt old.callers n caller → caller.call ≡ Some was → EntersAgain was entered → HasOpen call (own_part old n) → IsKept old → CallIsOver n most old mid caller entered
    → StepEnd m mid n told new → Held old new (EndsMarked n call most old new told)
ends_in {S} {V} m n call most told old mid new caller was entered at is enters has kept over by =
    let number : caller.number ≡ call = number_of old n call has caller at in
    let next_caller : CallerView = record caller { call = Some over.goes.next } in
    let same : by.of_call.caller ≡ next_caller = at_one mid.callers n by.of_call.at_caller over.goes.at_next in
    let ended = end_ends m n told mid new by in
    let next_none : CallerView = record by.of_call.caller { call = None } in
    let rounds : ℕ = by.of_call.call.rounds in
    let same_call : by.of_call.call ≡ over.goes.next = some_is (sym by.of_call.is_open ∙ ap (λ (c : CallerView). c.call) same) in
    let same_rounds : rounds ≡ rounds_after (own_part old n) = ap (λ (c : CallView). c.rounds) same_call ∙ over.goes.rounds ∙ enters.rounds ∙ sym (after_part old n caller was at is) in
    let same_number : by.of_call.caller.number ≡ caller.number = ap (λ (c : CallerView). c.number) same in
    let acts_end : Acts n (record mid { council = new.council }) new (Ended n caller.number rounds told ∷ []) = subst (λ (k : ℕ). Acts n (record mid { council = new.council }) new (Ended n k rounds told ∷ [])) same_number ended.acts in
    let then_ : calls.Rescans old.council n was.key told new.council =
    subst (λ (k : Council). calls.Rescans k n was.key told new.council) over.goes.acts.council
    (subst (λ (k : List ℕ). calls.Rescans mid.council n k told new.council) (ap (λ (c : CallView). c.key) same_call ∙ over.goes.key ∙ enters.key) ended.rescans) in
    let all : List Mark = over.goes.marks ++ Ended n caller.number rounds told ∷ [] in
    let acts : Acts n (record old { council = new.council }) new all = acts_then n (record old { council = new.council }) (record mid { council = new.council }) new over.goes.marks (Ended n caller.number rounds told ∷ []) (acts_aside n old mid new.council over.goes.marks over.goes.acts) acts_end in
    let only : OnlyOwnedBy owner_of n all = All-append (λ i. (m : ℕ) → owner_of i ≡ Some m → m ≡ n) over.goes.marks (Ended n caller.number rounds told ∷ []) over.goes.fine.only (only_ended n caller.number rounds told) in
    record {
      does = record {
        marks = over.goes.marks;
        makes = subst (λ (k : ℕ). Makes n old new (over.goes.marks ++ Ended n k (rounds_after (own_part old n)) told ∷ [])) number
            (subst (λ (r : ℕ). Makes n old new (over.goes.marks ++ Ended n caller.number r told ∷ [])) same_rounds (makes_aside n old new all acts (over.may_end rounds told) only (λ not_first. quiet_rescans n old.council new.council was.key told (λ first_. absurd (not_first first_)) then_)));
        of_call = subst (λ (k : ℕ). AreOfCall k (mine n over.goes.marks)) number over.goes.fine.of_call;
        few = over.goes.fine.few;
        rescans = λ one one_was at_one_ one_is. subst (λ (k : List ℕ). calls.Rescans old.council n k told new.council) (ap (λ (c : CallView). c.key) (some_is (sym is ∙ ap (λ (c : CallerView). c.call) (at_one old.callers n at at_one_) ∙ one_is))) then_;
        is_idle = now_idle new n next_none ended.at_next refl (λ is_first. rescans_unasked n old.council new.council was.key told then_ ∙ (open_quiet old n call has is_first).exchange);
        still = λ free. own_closed new n next_none ended.at_next refl ∙ rest_still n was.key told old new then_ (subst NothingIsOpen (beside_part old n caller was at is) free) ∙ sym (beside_part old n caller was at is);
      };
      kept = kept_aside n old new all acts only kept (idle_kept n new next_none ended.at_next refl);
      last_proposer = acts.last_proposer;
    }

-- ---- calls that begin
begun_only : (n number : ℕ) (key : List ℕ) (program : List Clause) (more : List Mark) → OnlyOwnedBy owner_of n more → OnlyOwnedBy owner_of n (Begun n number key program ∷ more)
begun_only n number key program more only = All-cons (λ i. (m : ℕ) → owner_of i ≡ Some m → m ≡ n) (Begun n number key program) more (λ m e. sym (some_is e)) only

wanted_begun : (n number : ℕ) (key : List ℕ) (program : List Clause) (old more : List Mark) → ((before : Option Wanted) → wanted_after n before more ≡ before) → wanted_by n (old ++ Begun n number key program ∷ more) ≡ Some (wants number key program)
wanted_begun n number key program old more asks =
    wanted_append n None old (Begun n number key program ∷ more)
    ∙ ap (λ (t : Bool). wanted_after n (if t then Some (wants number key program) else wanted_by n old) more) (nat_is {a = n} {b = n} refl)
    ∙ asks (Some (wants number key program))

pub begins_in : {S V : Type 0} (m : Meaning S V) (n : ℕ) (key : List ℕ) (program : List Clause) (old new : View S V) (caller : CallerView) → IsAt old.callers n caller → caller.call ≡ None → IsIdle (own_part old n) → IsKept old → StepBegin m old n key program new → HasRound new n (suc caller.number)
    → Held old new (BeginsIn n (suc caller.number) key program old new)
begins_in {S} {V} m n key program old new caller at none idle kept by has =
    let number : ℕ = suc caller.number in
    let b = first_begins m n 0 key program old new caller at none by in
    let next_caller : CallerView = record { number = number; call = Some b.next } in
    let all : List Mark = Begun n number key program ∷ b.more in
    let only : OnlyOwnedBy owner_of n all = begun_only n number key program b.more b.fine.only in
    let wanted : wanted_by n new.marks ≡ Some (wants number key program) = ap (wanted_by n) b.acts.made ∙ wanted_begun n number key program old.marks b.more b.fine.asks in
    let few : losses (mine n b.more) ≤ 0 = b.fine.few in
    record {
      does = record {
        more = b.more;
        makes = makes_of n old new all b.acts (tt, b.fine.may_add) only;
        of_call = b.fine.of_call;
        none_lost = omega (arith, few);
        is_open = is_open_then old new n number idle b.acts.council next_caller b.next b.at_next refl refl;
        first = rounds_part new n next_caller b.next b.at_next refl ∙ b.rounds_is;
        unmet = met_part new n next_caller b.next b.at_next refl ∙ b.told has.desk has.at_desk has.is_open;
        beside = beside_part new n next_caller b.next b.at_next refl ∙ rest_same old new n b.acts.council ∙ sym (own_closed old n caller at none);
        council = b.acts.council;
        wanted = wanted;
      };
      kept = kept_by n old new all b.acts only kept (record {
        staged = λ desk one open_ at_desk at_one_ is_open.
            let same_call : b.next ≡ open_ = some_is (ap (λ (c : CallerView). c.call) (at_one new.callers n b.at_next at_one_) ∙ is_open) in
            let some : IsSome desk.round = subst (λ (d : DeskView V). IsSome d.round) (at_one new.desks n has.at_desk at_desk) has.is_open in
            running some (subst (λ (c : CallView). told_conflict c.told ≡ false) same_call (b.told desk at_desk some)) (subst (λ (c : CallView). c.is_closed ≡ false) same_call b.closed);
        wanted = λ one open_ at_one_ is_open.
            let same : next_caller ≡ one = at_one new.callers n b.at_next at_one_ in
            let same_call : b.next ≡ open_ = some_is (ap (λ (c : CallerView). c.call) same ∙ is_open) in
            wanted ∙ ap₂ (λ (k : List ℕ) (p : List Clause). Some (wants number k p)) (sym b.key_is) (sym b.program_is)
            ∙ ap₂ (λ (c : CallerView) (o : CallView). Some (wants c.number o.key o.program)) same same_call;
      });
      last_proposer = b.acts.last_proposer;
    }

-- no call is open behind one that is not begun, or ends at once
leaves_idle : {S V : Type 0} (n : ℕ) (key : List ℕ) (told : Answer) (old new : View S V) (caller next : CallerView) → IsAt old.callers n caller → caller.call ≡ None → IsIdle (own_part old n) → IsAt new.callers n next → next.call ≡ None → calls.Rescans old.council n key told new.council → LeavesIdle n key told old new
leaves_idle n key told old new caller next at none idle at_next next_none then_ = record {
  rescans = then_;
  is_idle = now_idle new n next at_next next_none (λ is_first. rescans_unasked n old.council new.council key told then_ ∙ (idle_quiet old n idle is_first).exchange);
  still = λ free. own_closed new n next at_next next_none ∙ rest_still n key told old new then_ (subst NothingIsOpen (own_closed old n caller at none) free) ∙ sym (own_closed old n caller at none);
}

-- it is told why no round begins, and ends at once
pub passes_in : {S V : Type 0} (m : Meaning S V) (n : ℕ) (key : List ℕ) (program : List Clause) (told : Answer) (old mid new : View S V) (caller : CallerView) → IsAt old.callers n caller → caller.call ≡ None → IsIdle (own_part old n) → IsKept old → StepBegin m old n key program mid
    → (number : ℕ) → WasTold mid n number told → is_conflict told ≡ false → StepEnd m mid n told new → Held old new (BeginsNot n key program old new told)
passes_in {S} {V} m n key program told old mid new caller at none idle kept by number was no_conflict ends =
    let call : ℕ = suc caller.number in
    let b = first_begins m n 0 key program old mid caller at none by in
    let next_caller : CallerView = record { number = call; call = Some b.next } in
    let same : ends.of_call.caller ≡ next_caller = at_one mid.callers n ends.of_call.at_caller b.at_next in
    let ended = end_ends m n told mid new ends in
    let next_none : CallerView = record ends.of_call.caller { call = None } in
    let rounds : ℕ = ends.of_call.call.rounds in
    let acts_end : Acts n (record mid { council = new.council }) new (Ended n call rounds told ∷ []) = subst (λ (k : ℕ). Acts n (record mid { council = new.council }) new (Ended n k rounds told ∷ [])) (ap (λ (c : CallerView). c.number) same) ended.acts in
    let same_call : ends.of_call.call ≡ b.next = some_is (sym ends.of_call.is_open ∙ ap (λ (c : CallerView). c.call) same) in
    let then_ : calls.Rescans old.council n key told new.council =
    subst (λ (k : Council). calls.Rescans k n key told new.council) b.acts.council
    (subst (λ (k : List ℕ). calls.Rescans mid.council n k told new.council) (ap (λ (c : CallView). c.key) same_call ∙ b.key_is) ended.rescans) in
    let opens : Acts n old mid (Begun n call key program ∷ []) = subst (λ (l : List Mark). Acts n old mid (Begun n call key program ∷ l)) (b.silent number told was) b.acts in
    let all : List Mark = Begun n call key program ∷ Ended n call rounds told ∷ [] in
    let acts : Acts n (record old { council = new.council }) new all = acts_then n (record old { council = new.council }) (record mid { council = new.council }) new (Begun n call key program ∷ []) (Ended n call rounds told ∷ []) (acts_aside n old mid new.council (Begun n call key program ∷ []) opens) acts_end in
    let only : OnlyOwnedBy owner_of n all = begun_only n call key program (Ended n call rounds told ∷ []) (only_ended n call rounds told) in
    record {
      does = ends_at_once call rounds (makes_aside n old new all acts (tt, (tt, tt)) only (λ not_first. quiet_rescans n old.council new.council key told (λ first_. absurd (not_first first_)) then_))
          (leaves_idle n key told old new caller next_none at none idle ended.at_next refl then_) no_conflict;
      kept = kept_aside n old new all acts only kept (idle_kept n new next_none ended.at_next refl);
      last_proposer = acts.last_proposer;
    }

-- why it is not begun, before as many marks as there were
pub refusal_then : {S V : Type 0} (told : Answer) (old new : View S V) → (told ≡ answer.RecordFull) ⊎ (told ≡ answer.NoMemory false) → (told ≡ answer.RecordFull → 999000 < length old.marks) → new.marks ≡ old.marks → IsRefusalBehind (length new.marks) told
refusal_then told old new (inl full) long same = inl (full, subst (λ (l : List Mark). 999000 < length l) (sym same) (long full))
refusal_then told old new (inr none) long same = inr none

-- it is not begun
pub refused_in : {S V : Type 0} (m : Meaning S V) (n : ℕ) (key : List ℕ) (told : Answer) (old new : View S V) (program : List Clause) (caller : CallerView) → IsAt old.callers n caller → caller.call ≡ None → IsIdle (own_part old n) → IsKept old → (told ≡ answer.RecordFull) ⊎ (told ≡ answer.NoMemory false) → (told ≡ answer.RecordFull → 999000 < length old.marks) → calls.RefusesCall m old n key new → calls.Rescans old.council n key told new.council
    → Held old new (BeginsNot n key program old new told)
refused_in {S} {V} m n key told old new program caller at none idle kept refusal long by then_ =
    let done = refused_acts m n key old new by in
    let at_new : IsAt new.callers n caller = subst (λ (l : List CallerView). IsAt l n caller) (sym done.1) at in
    let fine = fine_none n 0 0 in
    record {
      does = is_refused (refusal_then told old new refusal long (done.0.made ∙ append-nil old.marks)) (makes_aside n old new [] done.0 tt fine.only (λ not_first. quiet_rescans n old.council new.council key told (λ first_. absurd (not_first first_)) then_))
          (leaves_idle n key told old new caller caller at none idle at_new none then_);
      kept = kept_aside n old new [] done.0 fine.only kept (idle_kept n new caller at_new none);
      last_proposer = done.0.last_proposer;
    }

-- ---- by how a result goes
pub on_ok : {A E P Q : Type 0} (result : Result A E) → (P → Q) → OnOk result P → OnOk result Q
on_ok (Ok value) then_ p = then_ p
on_ok (Err told) then_ p = tt

pub if_err : {A E : Type 0} {P Q : E → Type 0} (result : Result A E) → ((told : E) → P told → Q told) → IfErr result P → IfErr result Q
if_err (Ok value) then_ p = tt
if_err (Err told) then_ p = then_ told p

-- ---- by what the world tells
-- no conflict keeps a round from beginning
pub no_conflict_begun : {S V : Type 0} (m : Meaning S V) (old new : View S V) (n : ℕ) (key : List ℕ) (told : Answer) → BeginsBy m old n key told new → is_conflict told ≡ false
no_conflict_begun m old new n key (answer.Conflict met) cause = absurd cause
no_conflict_begun m old new n key (answer.Done state took ballot) cause = refl
no_conflict_begun m old new n key (answer.Aged least) cause = refl
no_conflict_begun m old new n key (answer.Full acceptor) cause = refl
no_conflict_begun m old new n key (answer.Short got need) cause = refl
no_conflict_begun m old new n key (answer.Moved era) cause = refl
no_conflict_begun m old new n key answer.Crashed cause = refl
no_conflict_begun m old new n key (answer.Unsettled why) cause = refl
no_conflict_begun m old new n key answer.Down cause = refl
no_conflict_begun m old new n key answer.VaultFault cause = refl
no_conflict_begun m old new n key answer.Spent cause = refl
no_conflict_begun m old new n key answer.RecordFull cause = refl
no_conflict_begun m old new n key (answer.NoMemory proposed) cause = refl

pub again_no_conflict : {S V : Type 0} (A : Type 0) (m : Meaning S V) (n call : ℕ) (key : List ℕ) (program : List Clause) (told : Answer) (old new : View S V) → BeginsOrNot {A = A} m old n call key program (Err told) new → BeginsBy m old n key told new → is_conflict told ≡ false
again_no_conflict A m n call key program told old new begun cause = no_conflict_begun m old new n key told cause

-- nor is a round counted as one
pub no_conflict_counted : {S V : Type 0} (view : View S V) (n : ℕ) (told : Answer) → AcceptsBy view n told → is_conflict told ≡ false
no_conflict_counted view n (answer.Conflict met) cause = absurd cause
no_conflict_counted view n (answer.Done state took ballot) cause = refl
no_conflict_counted view n (answer.Aged least) cause = refl
no_conflict_counted view n (answer.Full acceptor) cause = refl
no_conflict_counted view n (answer.Short got need) cause = refl
no_conflict_counted view n (answer.Moved era) cause = refl
no_conflict_counted view n answer.Crashed cause = refl
no_conflict_counted view n (answer.Unsettled why) cause = refl
no_conflict_counted view n answer.Down cause = refl
no_conflict_counted view n answer.VaultFault cause = refl
no_conflict_counted view n answer.Spent cause = refl
no_conflict_counted view n answer.RecordFull cause = refl
no_conflict_counted view n (answer.NoMemory proposed) cause = refl

-- a caller with nothing open has no call
no_call_of : {S V : Type 0} (old : View S V) (n call : ℕ) → NextAt old n call → IsIdle (own_part old n) → HasNoCall old n
no_call_of old n call at idle = record { caller = at.caller; at_caller = at.at_caller; none_open = idle_call old n idle at.caller at.at_caller }

pub begin_may : {S V : Type 0} (old : View S V) (n call : ℕ) (key : List ℕ) (program : List Clause) → option_map next_number (slice_get old.callers n) ≡ Some call → IsIdle (own_part old n) → MayBegin old n call key program
begin_may old n call key program next idle =
    let at = next_at old n call next in
    first at.caller at.at_caller (idle_call old n idle at.caller at.at_caller) (let k : suc at.caller.number ≡ call = at.number in omega (arith, k))

pub begin_ok : {S V : Type 0} (m : Meaning S V) (n call : ℕ) (key : List ℕ) (program : List Clause) (old new : View S V) → option_map next_number (slice_get old.callers n) ≡ Some call → IsIdle (own_part old n) → IsKept old → StepBegin m old n key program new → HasRound new n call
    → Held old new (BeginsIn n call key program old new)
begin_ok m n call key program old new next idle kept by has =
    let at = next_at old n call next in
    subst (λ (k : ℕ). Held old new (BeginsIn n k key program old new)) at.number
    (begins_in m n key program old new at.caller at.at_caller (idle_call old n idle at.caller at.at_caller) idle kept by (subst (λ (k : ℕ). HasRound new n k) (sym at.number) has))

pub begin_refused : {S V : Type 0} (A : Type 0) (m : Meaning S V) (n call : ℕ) (key : List ℕ) (program : List Clause) (told : Answer) (old new : View S V) → option_map next_number (slice_get old.callers n) ≡ Some call → IsIdle (own_part old n) → IsKept old → is_refusal told ≡ true → (IsErrOf {T = A} (Err told) answer.RecordFull → 999000 < length old.marks)
    → BeginsOrNot {A = A} m old n call key program (Err told) new → Held old new (BeginsNot n key program old new told)
begin_refused A m n call key program told old new next idle kept refusal long (inl begun) = absurd (cc (begun.2 (no_call_of old n call (next_at old n call next) idle), refusal))
begin_refused A m n call key program told old new next idle kept refusal long (inr not_begun) =
    let at = next_at old n call next in
    refused_in m n key told old new program at.caller at.at_caller (idle_call old n idle at.caller at.at_caller) idle kept not_begun.2 (λ full. long (ap (λ (a : Answer). Err a) full)) not_begun.0 not_begun.3

-- it was told why no round begins
pub begin_told : {S V : Type 0} (A : Type 0) (m : Meaning S V) (n call : ℕ) (key : List ℕ) (program : List Clause) (told : Answer) (old new : View S V) → is_refusal told ≡ false → BeginsOrNot {A = A} m old n call key program (Err told) new → StepBegin m old n key program new × WasTold new n call told
begin_told A m n call key program told old new is (inl begun) = (begun.0, begun.1)
begin_told A m n call key program told old new is (inr not_begun) = absurd (elim not_begun.2 [
  | inl full_is ↦ cc (ap is_refusal full_is, is)
  | inr none_is ↦ cc (ap is_refusal none_is, is)
])

pub begin_passes : {S V : Type 0} (A : Type 0) (m : Meaning S V) (n call : ℕ) (key : List ℕ) (program : List Clause) (told : Answer) (old mid new : View S V) → option_map next_number (slice_get old.callers n) ≡ Some call → IsIdle (own_part old n) → IsKept old → is_refusal told ≡ false
    → BeginsOrNot {A = A} m old n call key program (Err told) mid → BeginsBy m old n key told mid → StepEnd m mid n told new → Held old new (BeginsNot n key program old new told)
begin_passes A m n call key program told old mid new next idle kept is begun cause ends =
    let at = next_at old n call next in
    let by = begin_told A m n call key program told old mid is begun in
    passes_in m n key program told old mid new at.caller at.at_caller (idle_call old n idle at.caller at.at_caller) idle kept by.0 call by.1 (no_conflict_begun m old mid n key told cause) ends

-- ---- another round
pub again_ok : {S V : Type 0} (m : Meaning S V) (n call most : ℕ) (key : List ℕ) (program : List Clause) (old new : View S V) → HasOpen call (own_part old n) → IsKept old → StepBegin m old n key program new → HasRound new n call → Held old new (GoesOnIn n call most old new)
again_ok {S} {V} m n call most key program old new has kept by round =
    let o = open_at old n call has in
    let again = again_goes_on m n most key program old new o.caller o.open_call o.at_caller o.is_open by in
    let goes = again.round.goes in
    goes_on_in n call most old new o.caller o.open_call (calls.tried_again o.open_call again.reserved) o.at_caller o.is_open (enters_again o.open_call again.reserved again.met) has kept goes
    (λ desk at_desk. let some : IsSome desk.round = subst (λ (d : DeskView V). IsSome d.round) (at_one new.desks n round.at_desk at_desk) round.is_open in running some (goes.told desk at_desk some refl) (goes.closed refl))

pub again_told : {S V : Type 0} (A : Type 0) (m : Meaning S V) (n call : ℕ) (key : List ℕ) (program : List Clause) (told : Answer) (old new : View S V) → HasOpen call (own_part old n) → BeginsOrNot {A = A} m old n call key program (Err told) new → StepBegin m old n key program new × WasTold new n call told
again_told A m n call key program told old new has (inl begun) = (begun.0, begun.1)
again_told A m n call key program told old new has (inr not_begun) =
    let o = open_at old n call has in
    absurd (cc (sym not_begun.1.none_open ∙ ap (λ (c : CallerView). c.call) (at_one old.callers n not_begun.1.at_caller o.at_caller) ∙ o.is_open))

pub again_ends : {S V : Type 0} (A : Type 0) (m : Meaning S V) (n call most : ℕ) (key : List ℕ) (program : List Clause) (told : Answer) (old mid new : View S V) → HasOpen call (own_part old n) → IsKept old → BeginsOrNot {A = A} m old n call key program (Err told) mid → StepEnd m mid n told new
    → Held old new (EndsMarked n call most old new told)
again_ends A m n call most key program told old mid new has kept begun ends =
    let o = open_at old n call has in
    let by = again_told A m n call key program told old mid has begun in
    let again = again_goes_on m n most key program old mid o.caller o.open_call o.at_caller o.is_open by.0 in
    let entered : CallView = calls.tried_again o.open_call again.reserved in
    ends_in m n call most told old mid new o.caller o.open_call entered o.at_caller o.is_open (enters_again o.open_call again.reserved again.met) has kept
    (over_where_told n most old mid o.caller entered call told again.round by.1) ends

-- ---- a turn
pub turn_ok : {S V : Type 0} (m : Meaning S V) (n call : ℕ) (v : Verdict) (old new : View S V) → HasOpen call (own_part old n) → IsKept old → ((desk : DeskView V) → IsAt old.desks n desk → IsSome desk.round) → StepTurn m old n v new → Held old new (GoesOnIn n call (harm_by v) old new)
turn_ok m n call v old new has kept was by =
    let goes = turn_goes_on m n v old new by in
    let runs = runs_there old n by.of_call.caller by.of_call.call kept by.of_call.at_caller by.of_call.is_open was in
    goes_on_in n call (harm_by v) old new by.of_call.caller by.of_call.call by.of_call.call by.of_call.at_caller by.of_call.is_open (enters_same by.of_call.call runs.unmet) has kept goes
    (λ desk at_desk. let some = turn_running m n v old new was by desk at_desk in running some (goes.told desk at_desk some runs.unmet) (goes.closed runs.unclosed))

-- what the caller is told where no memory was found
pub turn_told : {S V : Type 0} (m : Meaning S V) (n call : ℕ) (proposed : Bool) (old mid : View S V) → HasOpen call (own_part old n) → StepRefuseTurn m old n mid → ((seen : CallerView) → IsAt mid.callers n seen → IfSome seen.call (λ open_call. proposed ≡ is_some open_call.proposed)) → WasTold mid n call (answer.NoMemory proposed)
turn_told {S} {V} m n call proposed old mid has by says =
    let next : CallView = calls.telling by.of_call.call (answer.NoMemory (is_some by.of_call.call.proposed)) in
    let next_caller : CallerView = record by.of_call.caller { call = Some next } in
    let at_next : IsAt mid.callers n next_caller = subst (λ (l : List CallerView). IsAt l n next_caller) (sym (ap (λ (w : View S V). w.callers) by.view ∙ ap (λ (l : List CallerView). slice_set l n next_caller) (same_callers by.refuses))) (at_set old.callers n by.of_call.caller next_caller by.of_call.at_caller) in
    record {
      caller = next_caller;
      at_caller = at_next;
      same_number = number_of old n call has by.of_call.caller by.of_call.at_caller;
      call = next;
      is_open = refl;
      told = ap (λ (b : Bool). Some (answer.NoMemory b)) (sym (says next_caller at_next));
    }
  where
    same_callers : {middle : View S V} → frames.FindsNoRoom m old middle → middle.callers ≡ old.callers
    same_callers (frames.stays same) = ap (λ (w : View S V). w.callers) same
    same_callers (frames.kept id acceptor now there finds same) = ap (λ (w : View S V). w.callers) same

pub turn_ends : {S V : Type 0} (m : Meaning S V) (n call most : ℕ) (told : Answer) (old mid new : View S V) → HasOpen call (own_part old n) → IsKept old → ((desk : DeskView V) → IsAt old.desks n desk → IsSome desk.round) → StepRefuseTurn m old n mid → WasTold mid n call told → StepEnd m mid n told new → Held old new (EndsMarked n call most old new told)
turn_ends m n call most told old mid new has kept running_ by was ends =
    let runs = runs_there old n by.of_call.caller by.of_call.call kept by.of_call.at_caller by.of_call.is_open running_ in
    ends_in m n call most told old mid new by.of_call.caller by.of_call.call by.of_call.call by.of_call.at_caller by.of_call.is_open (enters_same by.of_call.call runs.unmet) has kept (over_where_told n most old mid by.of_call.caller by.of_call.call call told (refused_turn_goes_on m n most old mid by) was) ends

-- ---- the end of a prepare phase
round_runs : {S V : Type 0} (view : View S V) (n : ℕ) (at : OpenRoundAt view n) → IsKept view → IsRoundRunning at.of_call.call
round_runs view n at kept = running_call view n at.of_call.caller at.of_call.call at.desk kept at.of_call.at_caller at.of_call.is_open at.at_desk (subst IsSome (sym at.is_open) refl)

pub propose_ok : {S V : Type 0} (m : Meaning S V) (n call most : ℕ) (old new : View S V) → HasOpen call (own_part old n) → IsKept old → HasProposed new n → StepPropose m old n new → Held old new (GoesOnIn n call most old new)
propose_ok m n call most old new has kept proposed by =
    let goes = (propose_goes_on m n most old new by).goes in
    let runs = round_runs old n by.at_round kept in
    goes_on_in n call most old new by.at_round.of_call.caller by.at_round.of_call.call by.at_round.of_call.call by.at_round.of_call.at_caller by.at_round.of_call.is_open (enters_same by.at_round.of_call.call runs.unmet) has kept goes
    (λ desk at_desk. let some = proposed_running new n proposed desk at_desk in running some (goes.told desk at_desk some runs.unmet) (goes.closed runs.unclosed))

pub propose_told : {S V : Type 0} (n call : ℕ) (told : Answer) (old new : View S V) → HasOpen call (own_part old n) → ((caller : CallerView) → slice_get old.callers n ≡ Some caller → WasTold new n caller.number told) → WasTold new n call told
propose_told n call told old new has tells = let o = open_at old n call has in subst (λ (k : ℕ). WasTold new n k told) o.number (tells o.caller o.at_caller)

pub propose_is_met : {S V : Type 0} (m : Meaning S V) (n call most : ℕ) (told : Answer) (old new : View S V) → HasOpen call (own_part old n) → IsKept old → ((caller : CallerView) → IsAt old.callers n caller → IfSome caller.call (λ one. one.proposed ≡ None)) → WasTold new n call told → is_conflict told ≡ true → StepPropose m old n new
    → Held old new (GoesOnIn n call most old new)
propose_is_met m n call most told old new has kept unproposed was conflict by =
    let goes = (propose_goes_on m n most old new by).goes in
    let runs = round_runs old n by.at_round kept in
    goes_on_in n call most old new by.at_round.of_call.caller by.at_round.of_call.call by.at_round.of_call.call by.at_round.of_call.at_caller by.at_round.of_call.is_open (enters_same by.at_round.of_call.call runs.unmet) has kept goes
    (λ desk at_desk. propose_met m n call told old new unproposed was conflict by (record by.at_round.of_call.caller { call = Some goes.next }) goes.next goes.at_next refl (goes.closed runs.unclosed) desk at_desk)

pub propose_ends : {S V : Type 0} (m : Meaning S V) (n call most : ℕ) (told : Answer) (old mid new : View S V) → HasOpen call (own_part old n) → IsKept old → WasTold mid n call told → StepPropose m old n mid → StepEnd m mid n told new → Held old new (EndsMarked n call most old new told)
propose_ends m n call most told old mid new has kept was by ends =
    ends_in m n call most told old mid new by.at_round.of_call.caller by.at_round.of_call.call by.at_round.of_call.call by.at_round.of_call.at_caller by.at_round.of_call.is_open (enters_same by.at_round.of_call.call (round_runs old n by.at_round kept).unmet) has kept
    (over_where_told n most old mid by.at_round.of_call.caller by.at_round.of_call.call call told (propose_goes_on m n most old mid by) was) ends

-- ---- the ends of a call
pub count_ends : {S V : Type 0} (m : Meaning S V) (n call most : ℕ) (told : Answer) (old mid new : View S V) → HasOpen call (own_part old n) → IsKept old → StepCount m old n mid → StepEnd m mid n told new → Held old new (EndsMarked n call most old new told)
count_ends m n call most told old mid new has kept by ends =
    ends_in m n call most told old mid new by.at_round.of_call.caller by.at_round.of_call.call by.at_round.of_call.call by.at_round.of_call.at_caller by.at_round.of_call.is_open (enters_same by.at_round.of_call.call (round_runs old n by.at_round kept).unmet) has kept (count_is_over m n most old mid by) ends

pub closed_ends : {S V : Type 0} (m : Meaning S V) (n call most : ℕ) (told : Answer) (old new : View S V) (has : HasOpen call (own_part old n)) → IsKept old → told_conflict (open_at old n call has).open_call.told ≡ false → StepEnd m old n told new → Held old new (EndsMarked n call most old new told)
closed_ends m n call most told old new has kept unmet ends =
    let o = open_at old n call has in
    ends_in m n call most told old old new o.caller o.open_call o.open_call o.at_caller o.is_open (enters_same o.open_call unmet) has kept (over_at_once n most old o.caller o.open_call o.at_caller o.is_open) ends

-- ---- late frames
pub strays_in : {S V : Type 0} (old new : View S V) → IsKept old → LetsInLate old new → Held old new (StraysIn old new)
strays_in {S} {V} old new kept by = record {
  does = record {
    marks = by.marks;
    makes = λ n. record { last_proposer = by.last_proposer; made = by.made; may_add = (by.fine n 0 0).may_add; owned = (by.fine n 0 0).only; others = λ m other. own m };
    none_own = λ n. none_of_call (mine n by.marks) (by.fine n 0 0).of_call (by.fine n 1 0).of_call;
    own = own;
    wanted = λ n. ap (wanted_by n) by.made ∙ wanted_append n None old.marks by.marks ∙ (by.fine n 0 0).asks (wanted_by n old.marks);
  };
  kept = record {
    places = record { desks = by.places ∙ kept.places.desks ∙ ap suc (sym by.last_proposer); callers = ap (λ (l : List CallerView). length l) by.callers ∙ kept.places.callers ∙ ap suc (sym by.last_proposer) };
    staged = λ id desk caller call at_desk at_caller is_call.
        let d = was_desk old.desks new.desks id desk (by.rounds id) at_desk in
        staged_same desk d.was call d.same (kept.staged id d.was caller call d.at_was (subst (λ (l : List CallerView). IsAt l id caller) by.callers at_caller) is_call);
    wanted = λ id caller call at_caller is_call.
        ap (wanted_by id) by.made ∙ wanted_append id None old.marks by.marks ∙ (by.fine id 0 0).asks (wanted_by id old.marks) ∙ kept.wanted id caller call (subst (λ (l : List CallerView). IsAt l id caller) by.callers at_caller) is_call;
  };
  last_proposer = by.last_proposer;
}
  where
    own : (n : ℕ) → own_part new n ≡ own_part old n
    own n = part_same old new n (ap (λ (l : List CallerView). slice_get l n) by.callers) by.council

    -- no mark is of two calls
    none_of_call : (l : List Mark) → AreOfCall 0 l → AreOfCall 1 l → l ≡ []
    none_of_call [] zero_ one_ = refl
    none_of_call (mark ∷ l) zero_ one_ = absurd (let a : call_of mark ≡ Some 0 = All-head (λ i. call_of i ≡ Some 0) mark l zero_ in let b : call_of mark ≡ Some 1 = All-head (λ i. call_of i ≡ Some 1) mark l one_ in let e : 0 ≡ 1 = some_is (sym a ∙ b) in omega (arith, e))

pub stray_ends : {S V A E : Type 0} (m : Meaning S V) (index : ℕ) (old new : View S V) (result : Result A E) → OnOk result (Step m old (Stray index) new) → OnErr result (Step m old RefuseStray new) → IsKept old → Held old new (StraysIn old new)
stray_ends m index old new (Ok peer) ok err kept = strays_in old new kept (stray_lets_in m index old new ok)
stray_ends m index old new (Err fault) ok err kept = strays_in old new kept (refused_stray_lets_in m old new err)

-- ---- how many proposers there are within a hold
pub greatest_refused : {S V : Type 0} (m : Meaning S V) (n : ℕ) (old new : View S V) → StepRefuseTurn m old n new → new.last_proposer ≡ old.last_proposer
greatest_refused m n old new by = (refused_turn_goes_on m n 0 old new by).goes.acts.last_proposer

pub greatest_proposed : {S V : Type 0} (m : Meaning S V) (n : ℕ) (old new : View S V) → StepPropose m old n new → new.last_proposer ≡ old.last_proposer
greatest_proposed m n old new by = (propose_goes_on m n 0 old new by).goes.acts.last_proposer
