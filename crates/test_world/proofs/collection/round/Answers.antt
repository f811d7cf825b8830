use Rattle.std.proofs.Common.{Bool, true, false, Ok, ap, subst, ◌∙◌}
use Rattle.casreg_script.specs.Calls.Playing.{IsPlaying}
use Rattle.cas_world.specs.declared.collect.Reading.{Reading}
use Rattle.casreg_script.proofs.Collection.Rounds.{is_in_round}
use Rattle.casreg_script.proofs.Calls.Playing.{round_plays}
use Rattle.test_world.proofs.Leading.{then_leads}
use Rattle.test_world.proofs.collection.round.Goals as goal

pub accept-requires : goal.accept-requires
accept-requires g c = record {
  «open» = (
    c.requires.running.0,
    is_in_round c.args.world.now c.requires.running.0 true c.requires.running.1
        (subst (λ (b : Bool). IsPlaying c.args.world.now 0 c.requires.running.0 b) c.if-has_proposed.true (round_plays c.args.world.now 0 c.requires.running.0 c.has_proposed.result c.requires.running.1.begun c.has_proposed.ensures.proposed c.has_proposed.ensures.phase)),
  );
}

pub returns-then-has_proposed-clause-stopped : goal.returns-then-has_proposed-clause-stopped
returns-then-has_proposed-clause-stopped g c asked was =
    c.accept.ensures.stopped asked
    (is_in_round c.args.world.now asked true was
    (subst (λ (b : Bool). IsPlaying c.args.world.now 0 asked b) c.if-has_proposed.true (round_plays c.args.world.now 0 asked c.has_proposed.result was.begun c.has_proposed.ensures.proposed c.has_proposed.ensures.phase)))

pub prepare-requires : goal.prepare-requires
prepare-requires g c = record {
  «open» = (
    c.requires.running.0,
    is_in_round c.args.world.now c.requires.running.0 false c.requires.running.1
        (subst (λ (b : Bool). IsPlaying c.args.world.now 0 c.requires.running.0 b) c.if-has_proposed.false (round_plays c.args.world.now 0 c.requires.running.0 c.has_proposed.result c.requires.running.1.begun c.has_proposed.ensures.proposed c.has_proposed.ensures.phase)),
  );
}

pub accept-requires-in-Ok-Empty : goal.accept-requires-in-Ok-Empty
accept-requires-in-Ok-Empty g c = record {
  «open» = (
    c.requires.running.0,
    c.prepare.ensures.plays c.requires.running.0
        (is_in_round c.args.world.now c.requires.running.0 false c.requires.running.1
        (subst (λ (b : Bool). IsPlaying c.args.world.now 0 c.requires.running.0 b) c.if-has_proposed.false (round_plays c.args.world.now 0 c.requires.running.0 c.has_proposed.result c.requires.running.1.begun c.has_proposed.ensures.proposed c.has_proposed.ensures.phase)))
        (c.in-Ok-Empty.is ∙ ap (λ (r : Reading). Ok r) c.in-Ok-Empty.field-0-is),
  );
}

pub returns-in-Ok-Empty-clause-stopped : goal.returns-in-Ok-Empty-clause-stopped
returns-in-Ok-Empty-clause-stopped g c asked was =
    c.accept-in-Ok-Empty.ensures.stopped asked
    (c.prepare.ensures.plays asked
    (is_in_round c.args.world.now asked false was
    (subst (λ (b : Bool). IsPlaying c.args.world.now 0 asked b) c.if-has_proposed.false (round_plays c.args.world.now 0 asked c.has_proposed.result was.begun c.has_proposed.ensures.proposed c.has_proposed.ensures.phase)))
    (c.in-Ok-Empty.is ∙ ap (λ (r : Reading). Ok r) c.in-Ok-Empty.field-0-is))

pub returns-in-Ok-Empty-clause-leads : goal.returns-in-Ok-Empty-clause-leads
returns-in-Ok-Empty-clause-leads g c = then_leads c.args.world.now c.prepare.new.world c.accept-in-Ok-Empty.new.world c.prepare.ensures.leads c.accept-in-Ok-Empty.ensures.leads

pub returns-in-Ok-Held-clause-tombstone_set : goal.returns-in-Ok-Held-clause-tombstone_set
returns-in-Ok-Held-clause-tombstone_set g c asked was =
    c.prepare.ensures.tombstone_set asked _
    (is_in_round c.args.world.now asked false was
    (subst (λ (b : Bool). IsPlaying c.args.world.now 0 asked b) c.if-has_proposed.false (round_plays c.args.world.now 0 asked c.has_proposed.result was.begun c.has_proposed.ensures.proposed c.has_proposed.ensures.phase)))
    (c.in-Ok-Held.is ∙ ap (λ (r : Reading). Ok r) c.in-Ok-Held.field-0-is)

pub returns-in-Err-clause-stopped : goal.returns-in-Err-clause-stopped
returns-in-Err-clause-stopped g c asked was =
    c.in-Err.ensures.stopped asked
    (is_in_round c.args.world.now asked false was
    (subst (λ (b : Bool). IsPlaying c.args.world.now 0 asked b) c.if-has_proposed.false (round_plays c.args.world.now 0 asked c.has_proposed.result was.begun c.has_proposed.ensures.proposed c.has_proposed.ensures.phase)))
