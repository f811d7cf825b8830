-- The round of a collection is that of a call of proposer 0, and the council alone tells the two apart.
use Rattle.std.proofs.Common.{◌≡◌, ℕ, false, List, Option, None, Some, refl, sym, ap, subst, ◌∙◌}
use Rattle.std.specs.Prelude.{option_map}
use Rattle.cas_proposer.specs.Desk.{DeskView}
use Rattle.cas_record.specs.declared.answer.Answer.{Answer}
use Rattle.cas_record.specs.declared.answer.Answer.TheVariants as answer
use Rattle.cas_record.specs.declared.operator.OpAnswer.{OpAnswer}
use Rattle.cas_record.specs.declared.operator.OpAnswer.TheVariants as op
use Rattle.cas_round.specs.declared.verdict.RoundVerdict.TheVariants as verdict
use Rattle.cas_model.specs.Council.{Council, OrderView, told_so}
use Rattle.cas_model.specs.Step as step
use Rattle.cas_model.specs.Step.{Step, BeginCollect, ReadHeld, CountCollect}
use Rattle.cas_model.specs.Collection.State.{CollectionView}
use Rattle.cas_model.specs.Calls.Step as calls
use Rattle.cas_model.specs.Collection.Step as collect
use Rattle.cas_model.specs.Exchanges.Step.{told_view}
use Rattle.cas_model.specs.View.{Meaning, View, CallerView, IsAt, era_at}
use Rattle.cas_model.proofs.Places.{at_one, some_is}
use Rattle.cas_model.proofs.Safety.Steps.{steps_are_safe}
use Rattle.cas_model_causes.specs.Calls.Causes.{CallIsTold}
use Rattle.cas_model_causes.specs.Collection.Collects.{RefusesBy, IsStoppedBy, CollectionsHaveCauses, CollectionsBeginToAsk, UndisturbedCollectionsAreDone}
use Rattle.cas_model_causes.specs.Calls.Told.{HasVerdict, BeginsBy, AcceptsBy}
use Rattle.cas_model_causes.specs.Calls.Undisturbed.{BeginsToAsk}
use Rattle.cas_model_causes.proofs.Calls.Told.{begins_by, accepts_by, has_quorum_verdict}
use Rattle.cas_model_causes.proofs.Calls.Undisturbed.{begin_to_ask, done_after}

-- ---- what is told
-- what a caller is told is the same beside any council
told_beside : {S V : Type 0} (view : View S V) (council : Council) (id : ℕ) (told : Option Answer) → CallIsTold (record view { council = council }) id told → CallIsTold view id told
told_beside view council id told was = record { caller = was.caller; at_caller = was.at_caller; call = was.call; is_open = was.is_open; told_is = was.told_is }

-- who has no open call is told nothing
none_is_told : {S V : Type 0} (old new : View S V) (caller : CallerView) (told : Option Answer) → IsAt old.callers 0 caller → caller.call ≡ None → new.callers ≡ old.callers → CallIsTold new 0 told → ⊥
none_is_told old new caller told at none same was =
    let seen : caller ≡ was.caller = at_one old.callers 0 at (subst (λ (l : List CallerView). IsAt l 0 was.caller) same was.at_caller) in
    let is_none : None ≡ Some was.call = sym none ∙ ap (λ (c : CallerView). c.call) seen ∙ was.is_open in
    cc is_none

-- a call that is refused leaves the callers
refused_callers : {S V : Type 0} (m : Meaning S V) (old : View S V) (key : List ℕ) (middle : View S V) → calls.RefusesCall m old 0 key middle → middle.callers ≡ old.callers
refused_callers {S} {V} m old key middle (calls.stays answer council refusal follows is) = ap (λ (w : View S V). w.callers) is
refused_callers {S} {V} m old key middle (calls.loses caller desk now ballot council at_caller at_desk none up loses follows is) = ap (λ (w : View S V). w.callers) is

-- ---- causes
begins_so : {S V : Type 0} (m : Meaning S V) (old new : View S V) (key : List ℕ) (told : Answer) → Step m old (BeginCollect key) new → CallIsTold new 0 (Some told) → BeginsBy m old 0 key told new
begins_so {S} {V} m old new key told by was = by_case by.begins
  where
    -- the call of proposer 0 begins its round so, and the council is told of it
    as_call : (middle : View S V) (collection : CollectionView) → Step m old (step.Begin 0 key collect.keep_always) middle → new ≡ collect.collecting middle by.may.order None collection → BeginsBy m old 0 key told new
    as_call middle collection begins is = beside (subst (λ (w : View S V). CallIsTold w 0 (Some told)) is was)
      where
        by_answer : (a : Answer) → BeginsBy m old 0 key a middle → BeginsBy m old 0 key a (collect.collecting middle by.may.order None collection)
        by_answer answer.VaultFault of = record { desk = of.desk; at_desk = of.at_desk; now = of.now; at_now = of.at_now; rose = of.rose }
        by_answer other of = of

        beside : CallIsTold (collect.collecting middle by.may.order None collection) 0 (Some told) → BeginsBy m old 0 key told new
        beside now = subst (BeginsBy m old 0 key told) (sym is) (by_answer told (begins_by m old middle 0 key collect.keep_always told begins (told_beside middle _ 0 (Some told) now)))

    by_case : collect.BeginsCollection m (λ before after. step.StepBegin m before 0 key collect.keep_always after) old key by.may.order by.desk by.caller new → BeginsBy m old 0 key told new
    by_case (collect.is_down none down is) = absurd (none_is_told old new by.caller (Some told) by.may.at_caller none (ap (λ (w : View S V). w.callers) is) was)
    by_case (collect.is_busy plan none up planned is) = absurd (none_is_told old new by.caller (Some told) by.may.at_caller none (ap (λ (w : View S V). w.callers) is) was)
    by_case (collect.is_full none up not_planned full is) = absurd (none_is_told old new by.caller (Some told) by.may.at_caller none (ap (λ (w : View S V). w.callers) is) was)
    by_case (collect.no_memory middle none up not_planned refuses is) = absurd (none_is_told old new by.caller (Some told) by.may.at_caller none (ap (λ (w : View S V). w.callers) is ∙ refused_callers m old key middle refuses) was)
    by_case (collect.begins middle none not_planned begins is) = as_call middle _ begins is
    by_case (collect.goes_on middle call collecting open_ begins is) = as_call middle _ begins is

-- who is told something was told that
told_seen : (answer : OpAnswer) (open_ : Option OrderView) (seen : OrderView) → option_map (told_so answer) open_ ≡ Some seen → seen.told ≡ Some answer
told_seen answer None seen e = absurd (cc e)
told_seen answer (Some order) seen e = sym (ap (λ (o : OrderView). o.told) (some_is e))

refuses_so : {S V : Type 0} (m : Meaning S V) (old new : View S V) (key : List ℕ) (told : Answer) → Step m old (BeginCollect key) new → ((caller : CallerView) → IsAt old.callers 0 caller → caller.call ≡ None) → IsStoppedBy new told → RefusesBy old told
refuses_so {S} {V} m old new key told by idle was = by_case by.begins
  where
    told_is : (answer : OpAnswer) (base : View S V) → new ≡ told_view base answer → Some answer ≡ Some (op.Stopped told)
    told_is answer base is = sym (told_seen answer base.council.order was.order (sym (ap (λ (w : View S V). w.council.order) is) ∙ was.is_open)) ∙ was.told

    stopped : (answer : Answer) (base : View S V) → new ≡ told_view base (op.Stopped answer) → answer ≡ told
    stopped answer base is = let e : op.Stopped answer ≡ op.Stopped told = some_is (told_is (op.Stopped answer) base is) in cc e

    by_case : collect.BeginsCollection m (λ before after. step.StepBegin m before 0 key collect.keep_always after) old key by.may.order by.desk by.caller new → RefusesBy old told
    by_case (collect.is_down none down is) = subst (RefusesBy old) (stopped answer.Down old is) (λ desk at. ap (λ (d : DeskView V). d.down) (at_one old.desks 0 at by.may.at_desk) ∙ down)
    by_case (collect.is_busy plan none up planned is) = let e : op.Busy (era_at old 0).number ≡ op.Stopped told = some_is (told_is (op.Busy (era_at old 0).number) old is) in absurd (cc e)
    by_case (collect.is_full none up not_planned full is) = subst (RefusesBy old) (stopped answer.RecordFull old is) full
    by_case (collect.no_memory middle none up not_planned refuses is) = subst (RefusesBy old) (stopped (answer.NoMemory false) middle is) refl
    by_case (collect.begins middle none not_planned begins is) =
        let seen : record by.may.order { told = None } ≡ was.order = some_is (sym (ap (λ (w : View S V). w.council.order) is) ∙ was.is_open) in
        let e : None ≡ Some (op.Stopped told) = ap (λ (o : OrderView). o.told) seen ∙ was.told in
        absurd (cc e)
    by_case (collect.goes_on middle call collecting open_ begins is) = let e : None ≡ Some call = sym (idle by.caller by.may.at_caller) ∙ open_ in absurd (cc e)

reads_so : {S V : Type 0} (m : Meaning S V) (old new : View S V) → Step m old ReadHeld new → HasVerdict old 0 verdict.Quorum
reads_so m old new by = record { desk = by.desk; at_desk = by.at_desk; round = by.round; is_round = by.is_round; verdict_is = has_quorum_verdict by.round by.quorum }

-- the call of a collection is counted as any
counted : {S V : Type 0} (m : Meaning S V) (old new : View S V) (told : Option Answer) (by : Step m old CountCollect new) → CallIsTold by.middle 0 told → CallIsTold new 0 told
counted m old new told by was = subst (λ w. CallIsTold w 0 told) (sym by.view) (record { caller = was.caller; at_caller = was.at_caller; call = was.call; is_open = was.is_open; told_is = was.told_is })

accepts_so : {S V : Type 0} (m : Meaning S V) (old new : View S V) (told : Answer) → Step m old CountCollect new → CallIsTold new 0 (Some told) → AcceptsBy old 0 told
accepts_so {S} {V} m old new told by was = accepts_by m old by.middle 0 told by.counts (told_beside by.middle _ 0 (Some told) (subst (λ (w : View S V). CallIsTold w 0 (Some told)) by.view was))

pub collections_have_causes : {S V : Type 0} (m : Meaning S V) → CollectionsHaveCauses m
collections_have_causes m = record { refuses = refuses_so m; begins = begins_so m; reads = reads_so m; accepts = accepts_so m }

-- ---- completeness
pub collections_begin_to_ask : {S V : Type 0} (m : Meaning S V) → CollectionsBeginToAsk m
collections_begin_to_ask {S} {V} m old new key safe by told = by_case by.begins
  where
    as_call : (middle : View S V) (collection : CollectionView) → Step m old (step.Begin 0 key collect.keep_always) middle → new ≡ collect.collecting middle by.may.order None collection → BeginsToAsk new 0
    as_call middle collection begins is =
        let asks = begin_to_ask m old middle 0 key collect.keep_always safe begins in
        subst (λ (w : View S V). BeginsToAsk w 0) (sym is) (record {
          prepares = λ round of. let fresh = asks.prepares round of in record { prepares = fresh.prepares; age = fresh.age; waits = fresh.waits };
          accepts = λ round of. let fresh = asks.accepts round of in (fresh.0, record { accepts = fresh.1.accepts; proposed = fresh.1.proposed; age = fresh.1.age; waits = fresh.1.waits });
        })

    none : (base : View S V) → by.caller.call ≡ None → new.callers ≡ old.callers → BeginsToAsk new 0
    none base idle same = absurd (none_is_told old new by.caller None by.may.at_caller idle same told)

    by_case : collect.BeginsCollection m (λ before after. step.StepBegin m before 0 key collect.keep_always after) old key by.may.order by.desk by.caller new → BeginsToAsk new 0
    by_case (collect.is_down idle down is) = none old idle (ap (λ (w : View S V). w.callers) is)
    by_case (collect.is_busy plan idle up planned is) = none old idle (ap (λ (w : View S V). w.callers) is)
    by_case (collect.is_full idle up not_planned full is) = none old idle (ap (λ (w : View S V). w.callers) is)
    by_case (collect.no_memory middle idle up not_planned refuses is) = none old idle (ap (λ (w : View S V). w.callers) is ∙ refused_callers m old key middle refuses)
    by_case (collect.begins middle idle not_planned begins is) = as_call middle _ begins is
    by_case (collect.goes_on middle call collecting open_ begins is) = as_call middle _ begins is

pub collections_are_done : {S V : Type 0} (m : Meaning S V) → UndisturbedCollectionsAreDone m
collections_are_done m old first_ mid turned last new key promising accepting promised accepted round to_prepare to_accept safe prep acc begins told_first prepares undisturbed_before proposes_it told undisturbed_after counts =
    let done = done_after m first_ mid turned last counts.middle 0 promising accepting promised accepted round to_prepare to_accept (steps_are_safe m old (BeginCollect key) first_ safe begins) prep acc
    ((collections_begin_to_ask m old first_ key safe begins told_first).prepares round prepares) undisturbed_before proposes_it told undisturbed_after counts.counts in
    (done.0, done.1, counted m last new _ counts done.2)
