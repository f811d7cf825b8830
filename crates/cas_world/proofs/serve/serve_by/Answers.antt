use Rattle.std.proofs.Common.{◌≡◌, ℕ, false, Err, refl, slice_set, ap, ◌∙◌, arith}
use Rattle.cas_acceptor.specs.declared.fault.HandleFault.{HandleFault}
use Rattle.cas_world.specs.Frames.Serve.{was_kept}
use Rattle.cas_world.proofs.Parts.{at_place}
use Rattle.cas_base.proofs.Bools.{false_of_not}
use Rattle.cas_world.proofs.Frames.Serving.{no_failure, not_down, replies_by, finds_down, finds_no_memory}
use Rattle.cas_world.proofs.serve.serve_by.Goals as goal
use Rattle.cas_model.specs.View.{shelf_meaning}

pub returns-in-Ok-clause-ok : goal.returns-in-Ok-clause-ok
returns-in-Ok-clause-ok g c =
    let same : c.from.result ≡ c.args.request.now.to = c.from.ensures ∙ c.number.ensures.value in
    let stands = at_place c.args.acceptors.now.items c.from.result c.args.request.now.to c.index_mut.result.now same (omega (arith, c.requires.numbered.all, c.number.ensures.value, c.number.ensures.within)) c.index_mut.ensures.value in
    let changed = ap (λ (i : ℕ). slice_set c.args.acceptors.now.items i c.handle.new.self) same in
    let up : c.index_mut.result.now.down ≡ false = false_of_not _ (λ was. no_failure _ refl (c.in-Ok.ensures.was_down was).0) in
    let still : c.handle.new.self.down ≡ false = false_of_not _ (λ fell. no_failure _ refl (c.in-Ok.ensures.down.1 fell)) in
    replies_by (shelf_meaning g.S.Shelf) c.args.acceptors.now.items _ c.args.request.now c.fill.new.self c.vote_of-vote.result
    c.index_mut.result.now c.handle.new.self c.in-Ok.reply c.in_ok-key.key stands (c.requires.numbered.each _ _ stands) up still c.in-Ok.ensures.same.0 c.in-Ok.ensures.same.1
    c.in-Ok.ensures.table c.in-Ok.ensures.kept c.in-Ok.ensures.never_falls c.fill.ensures c.in_ok-key.ensures c.vote_of-vote.ensures changed

pub returns-in-Err-Down-clause-ok : goal.returns-in-Err-Down-clause-ok
returns-in-Err-Down-clause-ok g c =
    let same : c.from.result ≡ c.args.request.now.to = c.from.ensures ∙ c.number.ensures.value in
    let stands = at_place c.args.acceptors.now.items c.from.result c.args.request.now.to c.index_mut.result.now same (omega (arith, c.requires.numbered.all, c.number.ensures.value, c.number.ensures.within)) c.index_mut.ensures.value in
    let changed = ap (λ (i : ℕ). slice_set c.args.acceptors.now.items i c.handle.new.self) same in
    finds_down (shelf_meaning g.S.Shelf) g.S.Shelf.moment g.S.Shelf.left_since c.args.acceptors.now.items _ c.args.request.now
    c.index_mut.result.now c.handle.new.self stands (c.in-Err-Down.ensures.down.0 (ap (λ (f : HandleFault). Err f) c.in-Err-Down.field-0-is)) c.in-Err-Down.ensures.same.0 c.in-Err-Down.ensures.same.1
    (λ was. (c.in-Err-Down.ensures.was_down was).1) c.in-Err-Down.ensures.any_moment (λ left tells later may. g.met.S.Shelf.counts_now _ _ left tells later may) (c.in-Err-Down.ensures.cause (ap (λ (f : HandleFault). Err f) c.in-Err-Down.field-0-is)) changed

pub returns-clause-err : goal.returns-clause-err
returns-clause-err g c =
    let same : c.from.result ≡ c.args.request.now.to = c.from.ensures ∙ c.number.ensures.value in
    let stands = at_place c.args.acceptors.now.items c.from.result c.args.request.now.to c.index_mut.result.now same (omega (arith, c.requires.numbered.all, c.number.ensures.value, c.number.ensures.within)) c.index_mut.ensures.value in
    let changed = ap (λ (i : ℕ). slice_set c.args.acceptors.now.items i c.handle.new.self) same in
    let up : c.index_mut.result.now.down ≡ false = false_of_not _ (λ was. not_down _ refl c.in-Err-NoMemory.field-0-is (c.in-Err-NoMemory.ensures.was_down was).0) in
    let still : c.handle.new.self.down ≡ false = false_of_not _ (λ fell. not_down _ refl c.in-Err-NoMemory.field-0-is (c.in-Err-NoMemory.ensures.down.1 fell)) in
    was_kept c.args.request.now.to c.index_mut.result.now c.handle.new.self stands
    (finds_no_memory (shelf_meaning g.S.Shelf) c.index_mut.result.now c.handle.new.self up still c.in-Err-NoMemory.ensures.same.0 c.in-Err-NoMemory.ensures.same.1
    c.in-Err-NoMemory.ensures.err c.in-Err-NoMemory.ensures.kept c.in-Err-NoMemory.ensures.never_falls)
    changed
