use Rattle.std.proofs.Common.{◌∙◌, ap, sym, Some}
use Rattle.std.proofs.lemmas.Result.{on_ok_weaker}
use Rattle.cas_slot.specs.Contents.{Contents, kept_at, with_kept}
use Rattle.cas_slot.proofs.SlotsLemmas.{slot_at-with_slot_same}
use Rattle.cas_restore.proofs.Towards.{between_put, ok_or_err, towards_itself, towards_by}
use Rattle.cas_restore.proofs.shelf.put_if_other.Goals as goal

pub returns-in_err-is_there-clause-towards : goal.returns-in_err-is_there-clause-towards
returns-in_err-is_there-clause-towards g c = λ slots given.
    towards_itself g.S.Shelf.tells g.S.Shelf.contents g.S.Shelf.may_leave slots c.args.shelf.now (λ t. g.met.S.Shelf.up_is_kept c.args.shelf.now t c.requires.up)

pub returns-then-branch-clause-towards : goal.returns-then-branch-clause-towards
returns-then-branch-clause-towards g c = λ slots given.
    towards_itself g.S.Shelf.tells g.S.Shelf.contents g.S.Shelf.may_leave slots c.args.shelf.now (λ t. g.met.S.Shelf.up_is_kept c.args.shelf.now t c.requires.up)

pub returns-in_err-copy-clause-towards : goal.returns-in_err-copy-clause-towards
returns-in_err-copy-clause-towards g c = λ slots given.
    towards_itself g.S.Shelf.tells g.S.Shelf.contents g.S.Shelf.may_leave slots c.args.shelf.now (λ t. g.met.S.Shelf.up_is_kept c.args.shelf.now t c.requires.up)

pub returns-clause-ok : goal.returns-clause-ok
returns-clause-ok g c =
    on_ok_weaker c.put.result (λ is. ap (λ (x : Contents). kept_at x c.args.key.now) is ∙ slot_at-with_slot_same (g.S.Shelf.contents c.args.shelf.now).slots c.args.key.now
    c.in_ok-copy.copy ∙ ap Some (c.in_ok-copy.ensures {u = tt}))
    c.put.ensures.ok

pub returns-clause-towards : goal.returns-clause-towards
returns-clause-towards g c = λ slots given.
    let old = g.S.Shelf.contents c.args.shelf.now in
    towards_by g.S.Shelf.tells g.S.Shelf.contents g.S.Shelf.may_leave slots c.args.shelf.now c.put.new.self (with_kept old c.args.key.now c.in_ok-copy.copy)
    (between_put old slots c.args.key.now c.in_ok-copy.copy (given ∙ ap Some (sym (c.in_ok-copy.ensures {u = tt}))))
    (ok_or_err c.put.result c.put.ensures.ok c.put.ensures.err)
    (λ t left may. let moments = c.put.ensures.any_moment t in moments.each left (g.met.S.Shelf.counts_now c.put.new.self (g.S.Shelf.moment c.args.shelf.now) left t moments.later may))
