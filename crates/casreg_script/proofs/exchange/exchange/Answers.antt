use Rattle.std.proofs.Common.{Result, sym, refl, subst, ◌∙◌}
use Rattle.std.specs.Prelude.{IfOk}
use Rattle.std.proofs.lemmas.Result.{IfOk-weaker, err_from_is_err_and}
use Rattle.cas_world_calls.specs.declared.council.Gathered.{Gathered}
use Rattle.cas_world_calls.specs.declared.council.Gathered.TheVariants as came
use Rattle.cas_record.specs.declared.operator.OpAnswer.{OpAnswer}
use Rattle.cas_model.specs.Council.{Probe}
use Rattle.cas_model.specs.Step.{Step}
use Rattle.cas_model.specs.View.{meaning}
use Rattle.cas_world.specs.Exchanges.Exchange.{HasGathered, asking_of}
use Rattle.cas_world.specs.declared.exchange.Exchange.{Exchange}
use Rattle.casreg_script.specs.Exchanges.Exchanges.{AllAskTurned, CameOf, IsAsking, KeepsOrder, not_asked, no_memory, gathered}
use Rattle.casreg_script.specs.Frames.Network.{NetworkLeaves}
use Rattle.casreg_script.proofs.Outcomes.{on_err, on_ok}
use Rattle.casreg_script.proofs.Exchanges.Asking.{HasAskedThis, ReadsFor, has_asked_this, is_asking, may_gather, may_gather_read, reads_for, asking_stops, gathered_so, came_of, less_left, asking_keeps, answers_keep, both_calls}
use Rattle.casreg_script.proofs.exchange.exchange.Given.{Over}
use Rattle.casreg_script.proofs.exchange.exchange.Goals as goal

pub returns-in_err-ask_all-clause-asks : goal.returns-in_err-ask_all-clause-asks
returns-in_err-ask_all-clause-asks g c by is = record { view = by; is = is; has = not_asked c.in_err-ask_all.ensures.step c.in_err-ask_all.ensures.none }

pub returns-in_err-ask_all-clause-calls : goal.returns-in_err-ask_all-clause-calls
returns-in_err-ask_all-clause-calls g c = asking_keeps _ c.args.world.now c.ask_all.new.self c.args.what c.in_err-ask_all.ensures.step

pub ask_turns-requires-clause-asks : goal.ask_turns-requires-clause-asks
ask_turns-requires-clause-asks g c =
    let has = has_asked_this _ c.args.world.now c.ask_all.new.self c.args.what c.in_ok-ask_all.ensures.step c.in_ok-ask_all.ensures.ok in
    (has.question, is_asking c.args.world.now c.ask_all.new.self has.question has.asked)

pub returns-then-is_err-clause-asks : goal.returns-then-is_err-clause-asks
returns-then-is_err-clause-asks g c by is =
    let fails = on_err _ (sym c.is_err.ensures.value ∙ c.if-is_err.true) c.ask_turns.ensures.fails by is in
    record { view = fails.view; is = fails.is; has = no_memory c.in_ok-ask_all.ensures.step fails.has }

pub returns-then-is_err-clause-calls : goal.returns-then-is_err-clause-calls
returns-then-is_err-clause-calls g c = both_calls c.args.world.now c.ask_all.new.self c.ask_turns.new.world (asking_keeps _ c.args.world.now c.ask_all.new.self c.args.what c.in_ok-ask_all.ensures.step) c.ask_turns.ensures.calls

pub gather-requires : goal.gather-requires
gather-requires g c =
    let none = sym c.is_err.ensures.value ∙ c.if-is_err.false in
    let has = has_asked_this _ c.args.world.now c.ask_all.new.self c.args.what c.in_ok-ask_all.ensures.step c.in_ok-ask_all.ensures.ok in
    may_gather c.ask_turns.new.world has.question (on_ok _ none (c.ask_turns.ensures.asks has.question (is_asking c.args.world.now c.ask_all.new.self has.question has.asked)))
    (on_ok _ none c.ask_turns.ensures.through c.requires.network.0 c.requires.network.1).has.none_waits

asked_so : (g : Over) (c : goal.After-gather g) → HasAskedThis c.args.world.now c.args.what c.ask_all.new.self
asked_so g c = has_asked_this _ c.args.world.now c.ask_all.new.self c.args.what c.in_ok-ask_all.ensures.step c.in_ok-ask_all.ensures.ok

still_asking : (g : Over) (c : goal.After-gather g) → IsAsking c.ask_turns.new.world (asked_so g c).question
still_asking g c = on_ok _ (sym c.is_err.ensures.value ∙ c.if-is_err.false) (c.ask_turns.ensures.asks (asked_so g c).question (is_asking c.args.world.now c.ask_all.new.self (asked_so g c).question (asked_so g c).asked))

-- the turns were made
turned_by : (g : Over) (c : goal.After-gather g) → NetworkLeaves c.ask_turns.new.network (λ next. AllAskTurned (meaning g.S.Shelf g.V.Disk) c.requires.network.0 c.ask_all.new.self next c.ask_turns.new.world)
turned_by g c = on_ok _ (sym c.is_err.ensures.value ∙ c.if-is_err.false) c.ask_turns.ensures.through c.requires.network.0 c.requires.network.1

reads_its : (g : Over) (c : goal.After-gather g) → ReadsFor c.args.world.now c.args.what c.ask_turns.new.world
reads_its g c = reads_for (meaning g.S.Shelf g.V.Disk) c.args.world.now c.ask_all.new.self c.ask_turns.new.world c.args.what c.requires.may c.in_ok-ask_all.ensures.step (asked_so g c) (turned_by g c).has.turned

still_ordered : (g : Over) (c : goal.After-gather g) → KeepsOrder c.ask_all.new.self c.ask_turns.new.world
still_ordered g c = on_ok _ (sym c.is_err.ensures.value ∙ c.if-is_err.false) c.ask_turns.ensures.order

pub returns-clause-asks : goal.returns-clause-asks
returns-clause-asks g c by is =
    let turns = on_ok _ (sym c.is_err.ensures.value ∙ c.if-is_err.false) c.ask_turns.ensures.through by is in
    record {
      view = turns.view;
      is = turns.is;
      has = gathered c.in_ok-ask_all.ensures.step turns.has (gathered_so _ c.args.world.now c.ask_turns.new.world c.gather.new.self c.args.what (asked_so g c).question (asked_so g c).asks (still_asking g c) c.gather.ensures.step);
    }

pub returns-clause-gathered : goal.returns-clause-gathered
returns-clause-gathered g c =
    IfOk-weaker c.gather.result (λ found. HasGathered c.ask_turns.new.world found c.gather.new.self) (λ found. CameOf c.args.what c.args.world.now found c.gather.new.self)
    (λ found has. came_of c.args.world.now c.ask_all.new.self c.ask_turns.new.world c.gather.new.self c.args.what found c.requires.may (asked_so g c) (still_ordered g c) (still_asking g c) (reads_its g c) has)
    c.gather.ensures.ok

pub returns-clause-less : goal.returns-clause-less
returns-clause-less g c more =
    less_left c.args.world.now c.ask_all.new.self c.ask_turns.new.world c.gather.new.self c.args.what came.More c.requires.may (asked_so g c) (still_ordered g c)
    (subst (λ (r : Result Gathered OpAnswer). IfOk r (λ found. CameOf c.args.what c.args.world.now found c.gather.new.self)) more (returns-clause-gathered g c)) refl (c.gather.ensures.less more)

pub returns-clause-calls : goal.returns-clause-calls
returns-clause-calls g c =
    both_calls c.args.world.now c.ask_all.new.self c.gather.new.self (asking_keeps _ c.args.world.now c.ask_all.new.self c.args.what c.in_ok-ask_all.ensures.step)
    (both_calls c.ask_all.new.self c.ask_turns.new.world c.gather.new.self c.ask_turns.ensures.calls
    (answers_keep _ c.ask_turns.new.world c.gather.new.self c.args.what
    (gathered_so _ c.args.world.now c.ask_turns.new.world c.gather.new.self c.args.what (asked_so g c).question (asked_so g c).asks (still_asking g c) c.gather.ensures.step)))

pub returns-in_err-ask_all-clause-stopped : goal.returns-in_err-ask_all-clause-stopped
returns-in_err-ask_all-clause-stopped g c key is =
    let p = err_from_is_err_and c.from_residual.result c.from_residual.ensures.1 in
    rw (p.1, p.2) (asking_stops (meaning g.S.Shelf g.V.Disk) c.args.world.now c.ask_all.new.self (Probe key) c.in_err-ask_all.field-0.0
    (subst (λ (e : Exchange). Step (meaning g.S.Shelf g.V.Disk) c.args.world.now (asking_of c.args.world.now e) c.ask_all.new.self) is c.in_err-ask_all.ensures.step) c.in_err-ask_all.ensures.none c.in_err-ask_all.ensures.err)

pub returns-clause-stopped : goal.returns-clause-stopped
returns-clause-stopped g c key is =
    c.gather.ensures.stopped (may_gather_read c.args.world.now c.ask_turns.new.world c.args.what key (asked_so g c).question is (asked_so g c).asks (still_asking g c) (turned_by g c).has.none_waits)
