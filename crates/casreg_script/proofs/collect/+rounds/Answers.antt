use Rattle.std.proofs.Common.{List, Option, inr, sym, subst, ◌∙◌, arith}
use Rattle.std.specs.Prelude.{IfSome, IfNone}
use Rattle.cas_change.specs.declared.program.Clause.{Clause}
use Rattle.cas_model.specs.Collection.Step.{keep_always}
use Rattle.cas_model.specs.View.{meaning}
use Rattle.cas_record.specs.declared.answer.Answer.{Answer}
use Rattle.cas_world.specs.Calls.Beginning.{MayBegin}
use Rattle.casreg_script.specs.Calls.Changes.{last, another, none_begun}
use Rattle.casreg_script.specs.Collection.Collecting.{HasStopped, IsTombstoneSet}
use Rattle.casreg_script.proofs.Collection.Rounds.{may_collect_again, is_running, begun_stopped, collect_not_met, told_again, said_so, set_not_met}
use Rattle.casreg_script.proofs.Outcomes.{if_none_of}
use Rattle.casreg_script.proofs.Calls.Playing.{is_met, not_met, may_again}
use Rattle.casreg_script.proofs.collect.+rounds.Goals as goal

pub returns-in_err-told-clause-rounds : goal.returns-in_err-told-clause-rounds
returns-in_err-told-clause-rounds g n c by is =
    let round = c.round.ensures.round by is in
    record {
      view = round.view;
      is = round.is;
      has = last round.has (λ met. set_not_met c.round.new.world c.args.key.now (subst (λ (o : Option Answer). IfNone o (IsTombstoneSet c.round.new.world c.args.key.now)) c.in_err-told.was (c.round.ensures.tombstone_set _ c.requires.running)) met);
    }

pub returns-in_err-told-clause-tombstone_set : goal.returns-in_err-told-clause-tombstone_set
returns-in_err-told-clause-tombstone_set g n c = if_none_of c.from_residual.result (subst (λ (o : Option Answer). IfNone o (IsTombstoneSet c.round.new.world c.args.key.now)) c.in_err-told.was (c.round.ensures.tombstone_set _ c.requires.running))

pub returns-then-tries-eq1-clause-rounds : goal.returns-then-tries-eq1-clause-rounds
returns-then-tries-eq1-clause-rounds g n c by is = let round = c.round.ensures.round by is in record { view = round.view; is = round.is; has = last round.has (λ met. c.if-tries-eq1.true) }

pub returns-then-not-is_conflict-clause-rounds : goal.returns-then-not-is_conflict-clause-rounds
returns-then-not-is_conflict-clause-rounds g n c by is =
    let round = c.round.ensures.round by is in
    let stopped = subst (λ (o : Option Answer). IfSome o (HasStopped c.round.new.world (record { number = c.args.call; key = c.args.key.now; program = keep_always }))) c.in_ok-told.was (c.round.ensures.stopped _ c.requires.running) in
    record { view = round.view; is = round.is; has = last round.has (not_met c.round.new.world 0 c.args.call c.args.tries c.in_ok-told.told stopped.over.was_told (sym c.is_conflict.ensures ∙ c.if-not-is_conflict.true)) }

pub begin_collect-requires-clause-asked : goal.begin_collect-requires-clause-asked
begin_collect-requires-clause-asked g n c =
    let stopped = subst (λ (o : Option Answer). IfSome o (HasStopped c.round.new.world (record { number = c.args.call; key = c.args.key.now; program = keep_always }))) c.in_ok-told.was (c.round.ensures.stopped _ c.requires.running) in
    may_collect_again c.round.new.world _ c.in_ok-told.told stopped

pub begin_collect-requires-clause-may : goal.begin_collect-requires-clause-may
begin_collect-requires-clause-may g n c =
    let stopped = subst (λ (o : Option Answer). IfSome o (HasStopped c.round.new.world (record { number = c.args.call; key = c.args.key.now; program = keep_always }))) c.in_ok-told.was (c.round.ensures.stopped _ c.requires.running) in
    subst (λ (p : List Clause). MayBegin c.round.new.world 0 c.args.call c.args.key.now p) (sym c.requires.program) (may_again c.round.new.world 0 _ c.in_ok-told.told stopped.over (sym c.is_conflict.ensures ∙ c.if-not-is_conflict.false))

pub rounds-requires : goal.rounds-requires
rounds-requires g n c κs lives =
    let stopped = subst (λ (o : Option Answer). IfSome o (HasStopped c.round.new.world (record { number = c.args.call; key = c.args.key.now; program = keep_always }))) c.in_ok-told.was (c.round.ensures.stopped _ c.requires.running) in (
      omega (arith, c.decreases, c.if-tries-eq1.false, c.requires.some),
      (
        lives.0,
        (
          lives.1,
          (
            is_running (meaning g.S.Shelf g.V.Disk) c.round.new.world c.begin_collect.new.self c.args.key.now c.begin_collect.ensures.step c.args.call stopped.over.quiet (inr stopped.seeks.none_planned) c.in-Ok.ensures.ok,
            (c.requires.program, (omega (arith, c.if-tries-eq1.false, c.requires.some), c.round.ensures.network c.requires.network.0 c.requires.network.1)),
          ),
        ),
      ),
    )

pub returns-in-Ok-clause-rounds : goal.returns-in-Ok-clause-rounds
returns-in-Ok-clause-rounds g n c by is =
    let round = c.round.ensures.round by is in
    let more = c.rounds.ensures.rounds round.view round.is in
    let stopped = subst (λ (o : Option Answer). IfSome o (HasStopped c.round.new.world (record { number = c.args.call; key = c.args.key.now; program = keep_always }))) c.in_ok-told.was (c.round.ensures.stopped _ c.requires.running) in
    record {
      view = more.view;
      is = more.is;
      has = another (omega (arith, c.if-tries-eq1.false, c.requires.some)) round.has (is_met c.round.new.world 0 c.args.call c.in_ok-told.told stopped.over.was_told (sym c.is_conflict.ensures ∙ c.if-not-is_conflict.false)) c.begin_collect.ensures.step more.has;
    }

pub why_stopped-requires : goal.why_stopped-requires
why_stopped-requires g n c =
    let stopped = subst (λ (o : Option Answer). IfSome o (HasStopped c.round.new.world (record { number = c.args.call; key = c.args.key.now; program = keep_always }))) c.in_ok-told.was (c.round.ensures.stopped _ c.requires.running) in
    let again = told_again c.round.new.world c.begin_collect.new.self c.args.call c.args.key.now c.in-Err.refusal _ c.in_ok-told.told stopped c.in-Err.ensures.err in
    (again.0, again.1)

pub returns-clause-rounds : goal.returns-clause-rounds
returns-clause-rounds g n c by is =
    let round = c.round.ensures.round by is in
    let stopped = subst (λ (o : Option Answer). IfSome o (HasStopped c.round.new.world (record { number = c.args.call; key = c.args.key.now; program = keep_always }))) c.in_ok-told.was (c.round.ensures.stopped _ c.requires.running) in
    record {
      view = round.view;
      is = round.is;
      has = another (omega (arith, c.if-tries-eq1.false, c.requires.some)) round.has (is_met c.round.new.world 0 c.args.call c.in_ok-told.told stopped.over.was_told (sym c.is_conflict.ensures ∙ c.if-not-is_conflict.false)) c.begin_collect.ensures.step
          (last none_begun (λ met. collect_not_met (meaning g.S.Shelf g.V.Disk) c.round.new.world c.begin_collect.new.self c.args.key.now c.begin_collect.ensures.step met));
    }

pub returns-clause-stopped : goal.returns-clause-stopped
returns-clause-stopped g n c =
    let stopped = subst (λ (o : Option Answer). IfSome o (HasStopped c.round.new.world (record { number = c.args.call; key = c.args.key.now; program = keep_always }))) c.in_ok-told.was (c.round.ensures.stopped _ c.requires.running) in
    let again = told_again c.round.new.world c.begin_collect.new.self c.args.call c.args.key.now c.in-Err.refusal _ c.in_ok-told.told stopped c.in-Err.ensures.err in
    let begun = said_so c.begin_collect.new.self c.args.call c.args.key.now c.in-Err.refusal again.0 c.why_stopped.result again.1 c.why_stopped.ensures again.2 in
    begun_stopped (meaning g.S.Shelf g.V.Disk) c.round.new.world c.begin_collect.new.self c.args.key.now c.begin_collect.ensures.step c.args.call c.why_stopped.result stopped.over.quiet (inr stopped.seeks.none_planned) begun.not_done begun.was_told begun.is

pub returns-then-not-is_conflict-clause-stopped : goal.returns-then-not-is_conflict-clause-stopped
returns-then-not-is_conflict-clause-stopped g n c = subst (λ (o : Option Answer). IfSome o (HasStopped c.round.new.world (record { number = c.args.call; key = c.args.key.now; program = keep_always }))) c.in_ok-told.was (c.round.ensures.stopped _ c.requires.running)
