use Rattle.std.proofs.Common.{rules, sym, ◌∙◌, arith}
use Rattle.std.specs.Prelude.{⊤}
use Rattle.casreg_script.specs.Calls.Changes.{last, another, none_begun}
use Rattle.casreg_script.proofs.Calls.Playing.{has_begun, begun_over, begun_not_met, again_is, is_met, not_met, may_again}
use Rattle.casreg_script.proofs.changes.+rounds.Goals as goal

pub returns-then-tries-eq1-clause-rounds : goal.returns-then-tries-eq1-clause-rounds
returns-then-tries-eq1-clause-rounds g n c by is = let round = c.round-told.ensures.round by is in record { view = round.view; is = round.is; has = last round.has (λ met. c.if-tries-eq1.true) }

pub returns-then-tries-eq1-clause-over : goal.returns-then-tries-eq1-clause-over
returns-then-tries-eq1-clause-over g n c = c.round-told.ensures.over _ c.requires.begun

pub returns-then-not-is_conflict-clause-rounds : goal.returns-then-not-is_conflict-clause-rounds
returns-then-not-is_conflict-clause-rounds g n c by is =
    let round = c.round-told.ensures.round by is in
    record {
      view = round.view;
      is = round.is;
      has = last round.has (not_met c.round-told.new.world c.args.caller c.args.call c.args.tries c.round-told.result (c.round-told.ensures.over _ c.requires.begun).was_told (sym c.is_conflict.ensures ∙ c.if-not-is_conflict.true));
    }

pub returns-then-not-is_conflict-clause-over : goal.returns-then-not-is_conflict-clause-over
returns-then-not-is_conflict-clause-over g n c = c.round-told.ensures.over _ c.requires.begun

pub begin-requires-clause-may : goal.begin-requires-clause-may
begin-requires-clause-may g n c = may_again c.round-told.new.world c.args.caller _ c.round-told.result (c.round-told.ensures.over _ c.requires.begun) (sym c.is_conflict.ensures ∙ c.if-not-is_conflict.false)

pub rounds-requires : goal.rounds-requires
rounds-requires g n c κs lives = (
  omega (arith, c.decreases, c.if-tries-eq1.false, c.requires.some),
  (
    lives.0,
    (
      lives.1,
      (
        search rules,
        (
          has_begun _ c.round-told.new.world c.begin.new.self c.args.caller c.args.call c.args.key.now c.args.program.now (c.round-told.ensures.over _ c.requires.begun).quiet c.in-Ok.ensures.step.0 c.in-Ok.ensures.step.1,
          (
            omega (arith, c.if-tries-eq1.false, c.requires.some),
            c.round-told.ensures.network c.requires.network.0 c.requires.network.1,
          ),
        ),
      ),
    ),
  ),
)

pub returns-in-Ok-clause-rounds : goal.returns-in-Ok-clause-rounds
returns-in-Ok-clause-rounds g n c by is =
    let round = c.round-told.ensures.round by is in
    let more = c.rounds.ensures.rounds round.view round.is in
    record {
      view = more.view;
      is = more.is;
      has = another (omega (arith, c.if-tries-eq1.false, c.requires.some)) round.has (is_met c.round-told.new.world c.args.caller c.args.call c.round-told.result (c.round-told.ensures.over _ c.requires.begun).was_told (sym c.is_conflict.ensures ∙ c.if-not-is_conflict.false)) c.in-Ok.ensures.step.0 more.has;
    }

pub returns-clause-rounds : goal.returns-clause-rounds
returns-clause-rounds g n c by is =
    let round = c.round-told.ensures.round by is in
    let was = (c.round-told.ensures.over _ c.requires.begun).was_told in
    let begun = again_is ⊤ _ c.round-told.new.world c.begin.new.self c.args.caller c.args.call c.args.call c.args.key.now c.args.program.now c.in-Err.told c.round-told.result was c.in-Err.ensures.step in
    record {
      view = round.view;
      is = round.is;
      has = another (omega (arith, c.if-tries-eq1.false, c.requires.some)) round.has (is_met c.round-told.new.world c.args.caller c.args.call c.round-told.result was (sym c.is_conflict.ensures ∙ c.if-not-is_conflict.false)) begun.0
          (last none_begun (begun_not_met _ c.round-told.new.world c.begin.new.self c.args.caller c.args.key.now c.args.program.now _ begun.0));
    }

pub returns-clause-over : goal.returns-clause-over
returns-clause-over g n c =
    let before = c.round-told.ensures.over _ c.requires.begun in
    let begun = again_is ⊤ _ c.round-told.new.world c.begin.new.self c.args.caller c.args.call c.args.call c.args.key.now c.args.program.now c.in-Err.told c.round-told.result before.was_told c.in-Err.ensures.step in
    begun_over _ c.round-told.new.world c.begin.new.self c.args.caller c.args.call c.args.key.now c.args.program.now c.in-Err.told before.quiet begun.0 begun.1

pub begin-requires-clause-unasked : goal.begin-requires-clause-unasked
begin-requires-clause-unasked g n c = λ is_first. (c.round-told.ensures.over _ c.requires.begun).quiet
