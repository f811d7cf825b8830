use Rattle.std.proofs.Common.{◌≡◌, ◌∙◌, true, false, ap, sym}
use Rattle.std.specs.Prelude.{is_some}
use Rattle.std.proofs.lemmas.Result.{on_ok_weaker}
use Rattle.cas_slot.specs.Contents.{Contents, kept_at, without_kept}
use Rattle.cas_slot.specs.Slots.{slot_at}
use Rattle.cas_slot.proofs.SlotsLemmas.{lookup-slots, slot_at-without_slot_same}
use Rattle.cas_restore.specs.Restored.{slots_of}
use Rattle.cas_restore.proofs.Towards.{none_of, between_drop, ok_or_err, towards_itself, towards_by}
use Rattle.cas_restore.proofs.shelf.drop_other.Goals as goal

pub returns-then-contains_key-clause-dropped : goal.returns-then-contains_key-clause-dropped
returns-then-contains_key-clause-dropped g c = λ none.
    let has : true ≡ is_some (slot_at (slots_of c.args.slots.now) c.args.key.now) = sym c.if-contains_key.true ∙ c.contains_key.ensures ∙ ap is_some
    (lookup-slots c.args.key.now c.args.slots.now.entries) in
    let no : true ≡ false = has ∙ ap is_some none in
    absurd (cc no)

pub returns-then-contains_key-clause-towards : goal.returns-then-contains_key-clause-towards
returns-then-contains_key-clause-towards g c =
    towards_itself g.S.Shelf.tells g.S.Shelf.contents g.S.Shelf.may_leave (slots_of c.args.slots.now) c.args.shelf.now (λ t. g.met.S.Shelf.up_is_kept c.args.shelf.now t c.requires)

lacked : (g : _) (c : goal.After-drop_slot g) → is_some (slot_at (slots_of c.args.slots.now) c.args.key.now) ≡ false
lacked g c = sym (ap is_some (lookup-slots c.args.key.now c.args.slots.now.entries)) ∙ sym c.contains_key.ensures ∙ c.if-contains_key.false

pub returns-clause-dropped : goal.returns-clause-dropped
returns-clause-dropped g c =
    on_ok_weaker c.drop_slot.result (λ is none. ap (λ (x : Contents). kept_at x c.args.key.now) is ∙ slot_at-without_slot_same (g.S.Shelf.contents c.args.shelf.now).slots c.args.key.now)
    c.drop_slot.ensures.ok

pub returns-clause-untouched : goal.returns-clause-untouched
returns-clause-untouched g c = λ some. let no : true ≡ false = sym some ∙ lacked g c in absurd (cc no)

pub returns-clause-towards : goal.returns-clause-towards
returns-clause-towards g c =
    let old = g.S.Shelf.contents c.args.shelf.now in
    towards_by g.S.Shelf.tells g.S.Shelf.contents g.S.Shelf.may_leave (slots_of c.args.slots.now) c.args.shelf.now c.drop_slot.new.self (without_kept old c.args.key.now)
    (between_drop old (slots_of c.args.slots.now) c.args.key.now (none_of _ (lacked g c)))
    (ok_or_err c.drop_slot.result c.drop_slot.ensures.ok c.drop_slot.ensures.err)
    (λ t left may. let moments = c.drop_slot.ensures.any_moment t in moments.each left (g.met.S.Shelf.counts_now c.drop_slot.new.self (g.S.Shelf.moment c.args.shelf.now) left t moments.later may))
