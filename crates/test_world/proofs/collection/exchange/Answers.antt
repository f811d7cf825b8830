use Rattle.std.proofs.Common.{sym, ◌∙◌}
use Rattle.std.proofs.lemmas.Result.{IfOk-weaker}
use Rattle.cas_model.specs.View.{View, meaning}
use Rattle.cas_world.specs.Exchanges.Exchange.{HasGathered, asking_of}
use Rattle.casreg_script.specs.Exchanges.Exchanges.{CameOf, IsAsking, KeepsOrder, answers_of}
use Rattle.casreg_script.proofs.Outcomes.{on_ok}
use Rattle.cas_world.specs.declared.exchange.Exchange.{Exchange}
use Rattle.cas_world.specs.declared.exchange.Exchange.TheVariants as what
use Rattle.test_world.specs.Tasks.{IsOfRemoval}
use Rattle.casreg_script.proofs.Exchanges.Asking.{HasAskedThis, ReadsFor, has_asked_this, is_asking, may_gather, gathered_so, came_of, asking_keeps, answers_keep, keeps_idle}
use Rattle.test_world.proofs.Leading.{step_goes, then_goes}
use Rattle.test_world.proofs.collection.exchange.Given.{Over}
use Rattle.test_world.proofs.collection.exchange.Goals as goal

pub returns-in_err-ask_all-clause-goes : goal.returns-in_err-ask_all-clause-goes
returns-in_err-ask_all-clause-goes g c = step_goes (meaning g.S.Shelf g.V.Disk) c.args.world.now c.ask_all.new.self (asking_of c.args.world.now c.args.what) c.in_err-ask_all.ensures.step (keeps_idle c.args.world.now c.ask_all.new.self (asking_keeps _ c.args.world.now c.ask_all.new.self c.args.what c.in_err-ask_all.ensures.step))

pub ask_turns-requires : goal.ask_turns-requires
ask_turns-requires g c =
    let has = has_asked_this _ c.args.world.now c.ask_all.new.self c.args.what c.in_ok-ask_all.ensures.step c.in_ok-ask_all.ensures.ok in
    record { asks = (has.question, is_asking c.args.world.now c.ask_all.new.self has.question has.asked) }

pub returns-then-is_err-clause-goes : goal.returns-then-is_err-clause-goes
returns-then-is_err-clause-goes g c =
    then_goes c.args.world.now c.ask_all.new.self c.ask_turns.new.world
    (step_goes (meaning g.S.Shelf g.V.Disk) c.args.world.now c.ask_all.new.self (asking_of c.args.world.now c.args.what) c.in_ok-ask_all.ensures.step (keeps_idle c.args.world.now c.ask_all.new.self (asking_keeps _ c.args.world.now c.ask_all.new.self c.args.what c.in_ok-ask_all.ensures.step)))
    c.ask_turns.ensures.goes

pub gather-requires : goal.gather-requires
gather-requires g c =
    let none = sym c.is_err.ensures.value ∙ c.if-is_err.false in
    let has = has_asked_this _ c.args.world.now c.ask_all.new.self c.args.what c.in_ok-ask_all.ensures.step c.in_ok-ask_all.ensures.ok in
    may_gather c.ask_turns.new.world has.question (on_ok _ none (c.ask_turns.ensures.asks has.question (is_asking c.args.world.now c.ask_all.new.self has.question has.asked))) (on_ok _ none c.ask_turns.ensures.through)

asked_so : (g : Over) (c : goal.After-gather g) → HasAskedThis c.args.world.now c.args.what c.ask_all.new.self
asked_so g c = has_asked_this _ c.args.world.now c.ask_all.new.self c.args.what c.in_ok-ask_all.ensures.step c.in_ok-ask_all.ensures.ok

still_asking : (g : Over) (c : goal.After-gather g) → IsAsking c.ask_turns.new.world (asked_so g c).question
still_asking g c = on_ok _ (sym c.is_err.ensures.value ∙ c.if-is_err.false) (c.ask_turns.ensures.asks (asked_so g c).question (is_asking c.args.world.now c.ask_all.new.self (asked_so g c).question (asked_so g c).asked))

still_ordered : (g : Over) (c : goal.After-gather g) → KeepsOrder c.ask_all.new.self c.ask_turns.new.world
still_ordered g c = on_ok _ (sym c.is_err.ensures.value ∙ c.if-is_err.false) c.ask_turns.ensures.order

-- nothing is read then
reads_none : {S V : Type 0} (old turned : View S V) (asks : Exchange) → IsOfRemoval asks → ReadsFor old asks turned
reads_none old turned what.Ages is = tt
reads_none old turned what.Remove is = tt
reads_none old turned what.List is = absurd is
reads_none old turned (what.Probe key) is = absurd is
reads_none old turned (what.Read key) is = absurd is

pub returns-clause-gathered : goal.returns-clause-gathered
returns-clause-gathered g c =
    IfOk-weaker c.gather.result (λ found. HasGathered c.ask_turns.new.world found c.gather.new.self) (λ found. CameOf c.args.what c.args.world.now found c.gather.new.self)
    (λ found has. came_of c.args.world.now c.ask_all.new.self c.ask_turns.new.world c.gather.new.self c.args.what found c.requires.may (asked_so g c) (still_ordered g c) (still_asking g c) (reads_none c.args.world.now c.ask_turns.new.world c.args.what c.requires.removal) has)
    c.gather.ensures.ok

pub returns-clause-goes : goal.returns-clause-goes
returns-clause-goes g c =
    let by = gathered_so _ c.args.world.now c.ask_turns.new.world c.gather.new.self c.args.what (asked_so g c).question (asked_so g c).asks (still_asking g c) c.gather.ensures.step in
    then_goes c.args.world.now c.ask_turns.new.world c.gather.new.self
    (then_goes c.args.world.now c.ask_all.new.self c.ask_turns.new.world
    (step_goes (meaning g.S.Shelf g.V.Disk) c.args.world.now c.ask_all.new.self (asking_of c.args.world.now c.args.what) c.in_ok-ask_all.ensures.step (keeps_idle c.args.world.now c.ask_all.new.self (asking_keeps _ c.args.world.now c.ask_all.new.self c.args.what c.in_ok-ask_all.ensures.step)))
    c.ask_turns.ensures.goes)
    (step_goes (meaning g.S.Shelf g.V.Disk) c.ask_turns.new.world c.gather.new.self (answers_of c.args.what) by (keeps_idle c.ask_turns.new.world c.gather.new.self (answers_keep _ c.ask_turns.new.world c.gather.new.self c.args.what by)))
