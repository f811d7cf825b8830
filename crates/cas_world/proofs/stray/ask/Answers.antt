use Rattle.std.proofs.Common.{Option, None, Some, refl, sym, subst, arith, append-nil}
use Rattle.cas_record.specs.declared.mark.Mark.{Mark}
use Rattle.cas_world.specs.Frames.Serve.{Serves, RepliesBy}
use Rattle.cas_world.specs.Frames.Stray.{is_down}
use Rattle.cas_world.specs.declared.serve.Served.{Served}
use Rattle.cas_world.proofs.Frames.Straying.{answered_late}
use Rattle.cas_world.proofs.stray.ask.Goals as goal
use Rattle.cas_model.specs.View.{shelf_meaning}

-- src/stray.rt:77:1
pub returns-in-Some-clause-ok : goal.returns-in-Some-clause-ok
returns-in-Some-clause-ok g c =
    let replied = subst (λ (s : Served). Serves (shelf_meaning g.S.Shelf) c.args.acceptors.now.items c.args.request.now s c.serve.new.acceptors.items) c.in-Replied.is c.in_ok-served.ensures.ok in
    let voted = subst (λ (v : Option Mark). RepliesBy (shelf_meaning g.S.Shelf) c.args.acceptors.now.items c.args.request.now c.in-Replied.frame v c.serve.new.acceptors.items) c.in-Some.is replied in
    answered_late (shelf_meaning g.S.Shelf) c.args.index c.args.request.now c.args.acceptors.now.items _ c.args.flow.now c.take_late.new.self _ c.args.record.now c.push.new.self c.in-Replied.frame (Some c.in-Some.mark)
    voted c.take_late.ensures c.push_late.ensures c.push.ensures.marks c.push.ensures.room

-- src/stray.rt:77:1
pub returns-in_default-vote-clause-ok : goal.returns-in_default-vote-clause-ok
returns-in_default-vote-clause-ok g c =
    let replied = subst (λ (s : Served). Serves (shelf_meaning g.S.Shelf) c.args.acceptors.now.items c.args.request.now s c.serve.new.acceptors.items) c.in-Replied.is c.in_ok-served.ensures.ok in
    let voted = subst (λ (v : Option Mark). RepliesBy (shelf_meaning g.S.Shelf) c.args.acceptors.now.items c.args.request.now c.in-Replied.frame v c.serve.new.acceptors.items) c.in_default-vote.is replied in
    answered_late (shelf_meaning g.S.Shelf) c.args.index c.args.request.now c.args.acceptors.now.items _ c.args.flow.now c.take_late.new.self _ c.args.record.now c.args.record.now c.in-Replied.frame None
    voted c.take_late.ensures c.push_late.ensures (sym (append-nil c.args.record.now.marks)) (omega arith)

-- src/stray.rt:77:1
pub returns-in_default-clause-ok : goal.returns-in_default-clause-ok
returns-in_default-clause-ok g c =
    is_down (subst (λ (s : Served). Serves (shelf_meaning g.S.Shelf) c.args.acceptors.now.items c.args.request.now s c.serve.new.acceptors.items) c.in_default.is c.in_ok-served.ensures.ok) c.take_late.ensures refl
