use Rattle.std.proofs.Common.{Option, None, Some, true, ap, subst, ◌∙◌}
use Rattle.cas_flow.specs.Flow.{FlowView, taken}
use Rattle.cas_record.specs.declared.mark.Mark.{Mark}
use Rattle.cas_world.specs.Frames.Serve.{Serves}
use Rattle.cas_world.specs.Frames.Turn.{is_down}
use Rattle.cas_world.specs.declared.serve.Served.{Served}
use Rattle.cas_world.specs.declared.serve.Served.TheVariants as served
use Rattle.cas_world.proofs.Frames.Turning.{answered, makes_no_vote, makes_vote, makes_harm}
use Rattle.cas_world.proofs.turn.ask.Goals as goal
use Rattle.cas_model.specs.View.{shelf_meaning}

-- src/turn.rt:143:1
pub returns-in-Some-clause-ok : goal.returns-in-Some-clause-ok
returns-in-Some-clause-ok g c =
    let m = shelf_meaning g.S.Shelf in
    let replied : Serves m c.args.acceptors.now.items c.args.request.now (served.Replied c.in-Replied.frame c.in-Replied.vote) c.serve_by.new.acceptors.items =
    subst (λ (s : Served). Serves m c.args.acceptors.now.items c.args.request.now s c.serve_by.new.acceptors.items) c.in-Replied.is c.in_ok-served.ensures.ok in
    let voted : Serves m c.args.acceptors.now.items c.args.request.now (served.Replied c.in-Replied.frame (Some c.in-Some.mark)) c.serve_by.new.acceptors.items =
    subst (λ (v : Option Mark). Serves m c.args.acceptors.now.items c.args.request.now (served.Replied c.in-Replied.frame v) c.serve_by.new.acceptors.items) c.in-Some.is replied in
    answered m c.args.proposer c.args.verdict c.args.request.now c.args.acceptors.now.items _ c.args.caller.now _ c.args.flow.now c.take.new.self _ c.args.record.now c.mark.new.record c.in-Replied.frame (Some c.in-Some.mark)
    voted (c.take.ensures ∙ ap (λ (f : FlowView). taken f c.args.proposer c.args.verdict) c.blank.ensures.same) c.push_own.ensures
    (makes_vote c.args.caller.now c.silence.new.self _ _ _ c.in-Some.mark c.requires.mark.is_open c.silence.ensures c.mark.ensures.call c.mark.ensures.marks c.mark.ensures.room)

-- src/turn.rt:143:1
pub returns-in_default-clause-ok : goal.returns-in_default-clause-ok
returns-in_default-clause-ok g c =
    let m = shelf_meaning g.S.Shelf in
    let replied : Serves m c.args.acceptors.now.items c.args.request.now (served.Replied c.in-Replied.frame c.in-Replied.vote) c.serve_by.new.acceptors.items =
    subst (λ (s : Served). Serves m c.args.acceptors.now.items c.args.request.now s c.serve_by.new.acceptors.items) c.in-Replied.is c.in_ok-served.ensures.ok in
    let voted : Serves m c.args.acceptors.now.items c.args.request.now (served.Replied c.in-Replied.frame None) c.serve_by.new.acceptors.items =
    subst (λ (v : Option Mark). Serves m c.args.acceptors.now.items c.args.request.now (served.Replied c.in-Replied.frame v) c.serve_by.new.acceptors.items) c.in_default.is replied in
    answered m c.args.proposer c.args.verdict c.args.request.now c.args.acceptors.now.items _ c.args.caller.now _ c.args.flow.now c.take.new.self _ c.args.record.now c.args.record.now c.in-Replied.frame None
    voted (c.take.ensures ∙ ap (λ (f : FlowView). taken f c.args.proposer c.args.verdict) c.blank.ensures.same) c.push_own.ensures
    (makes_no_vote c.args.caller.now _ _ c.requires.mark.is_open c.silence.ensures)

-- src/turn.rt:143:1
pub returns-in-Down-clause-ok : goal.returns-in-Down-clause-ok
returns-in-Down-clause-ok g c =
    let m = shelf_meaning g.S.Shelf in
    let fell : Serves m c.args.acceptors.now.items c.args.request.now served.Down c.serve_by.new.acceptors.items =
    subst (λ (s : Served). Serves m c.args.acceptors.now.items c.args.request.now s c.serve_by.new.acceptors.items) c.in-Down.is c.in_ok-served.ensures.ok in
    is_down fell (c.take.ensures ∙ ap (λ (f : FlowView). taken f c.args.proposer c.args.verdict) c.blank.ensures.same)
    (makes_harm c.args.proposer c.args.caller.now _ c.args.record.now _ c.args.request.now.to true c.requires.mark.is_open c.harm.ensures.call c.harm.ensures.marks c.harm.ensures.room_left)
