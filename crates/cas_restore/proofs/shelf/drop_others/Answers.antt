use Rattle.std.proofs.Common.{◌≡◌, ◌∙◌, subst, refl, arith}
use Rattle.std.specs.Prelude.{IsSome}
use Rattle.std.specs.FinMap as map
use Rattle.std.proofs.lemmas.Result.{err_from_is_err_and}
use Rattle.cas_slot.specs.Slots.{slot_at}
use Rattle.cas_restore.specs.Restored.{slots_of}
use Rattle.cas_restore.proofs.Dropping.{all_among, key_is_kept, fewer_among, none_among}
use Rattle.cas_survey.proofs.Keys.{all_keys}
use Rattle.cas_restore.proofs.Faults.{rose_since}
use Rattle.cas_restore.proofs.Towards.{towards_itself, towards_then}
use Rattle.cas_restore.proofs.shelf.drop_others.Goals as goal
use Rattle.cas_restore.proofs.shelf.drop_others.Goals.{After-drop_other}

pub returns-in_err-keys-clause-towards : goal.returns-in_err-keys-clause-towards
returns-in_err-keys-clause-towards g c =
    towards_itself g.S.Shelf.tells g.S.Shelf.contents g.S.Shelf.may_leave (slots_of c.args.slots.now) c.args.shelf.now (λ t. g.met.S.Shelf.up_is_kept c.args.shelf.now t c.requires)

pub loop-key-init : goal.loop-key-init
loop-key-init g c =
    let all : c.deref-key-items.result.now ≡ map.keys (g.S.Shelf.contents c.args.shelf.now).slots = all_keys 18446744073709551615 (g.S.Shelf.contents c.args.shelf.now).slots
    c.deref-key-items.result.now (c.deref-key-items.ensures.value ∙ c.in_ok-keys.ensures {u = tt}) (omega (arith, c.deref-key-items.type_inv.1)) in
    record {
      up = c.requires;
      all = all;
      among = all_among (slots_of c.args.slots.now) (g.S.Shelf.contents c.args.shelf.now) c.deref-key-items.result.now all;
      towards = towards_itself g.S.Shelf.tells g.S.Shelf.contents g.S.Shelf.may_leave (slots_of c.args.slots.now) c.args.shelf.now (λ t. g.met.S.Shelf.up_is_kept c.args.shelf.now t c.requires);
      untouched = λ _. refl;
      never_falls = omega arith;
    }

pub drop_other-requires : goal.drop_other-requires
drop_other-requires g c = c.loop-key.invariant.up

untouched : (g : _) (c : After-drop_other g) → (g.S.Shelf.contents c.args.shelf.now).slots ≡ slots_of c.args.slots.now → c.drop_other.new.shelf ≡ c.args.shelf.now
untouched g c same =
    c.drop_other.ensures.untouched (subst (λ (s : _). IsSome (slot_at s c.key-item.result)) same
    (key_is_kept (g.S.Shelf.contents c.args.shelf.now).slots c.loop-key.key-index c.deref-key-items.result.now c.key-item.result c.loop-key.invariant.all c.loop-key-test.true c.key-item.is))
    ∙ c.loop-key.invariant.untouched same

pub loop-key-preserved : goal.loop-key-preserved
loop-key-preserved g c =
    let to = c.in_ok-drop_other.ensures {u = tt} in
    record {
      up = to.up;
      all = c.loop-key.invariant.all;
      among = fewer_among (slots_of c.args.slots.now) (g.S.Shelf.contents c.loop-key.shelf) (g.S.Shelf.contents c.drop_other.new.shelf) c.deref-key-items.result.now c.loop-key.key-index
          c.key-item.result
          c.loop-key-test.true c.key-item.is c.drop_other.ensures.towards.between to.dropped c.loop-key.invariant.among;
      towards = towards_then g.S.Shelf.tells g.S.Shelf.contents g.S.Shelf.may_leave (slots_of c.args.slots.now) c.args.shelf.now c.loop-key.shelf c.drop_other.new.shelf
          c.loop-key.invariant.towards c.drop_other.ensures.towards;
      untouched = untouched g (goal.at.loop-key-preserved g c).After-drop_other;
      never_falls = omega (arith, c.loop-key.invariant.never_falls, c.drop_other.ensures.cause.never_falls);
    }

pub returns-clause-dropped : goal.returns-clause-dropped
returns-clause-dropped g c = none_among (slots_of c.args.slots.now) (g.S.Shelf.contents c.loop-key.shelf) c.deref-key-items.result.now c.loop-key.key-index c.loop-key-test.false
    c.loop-key.invariant.among

pub returns-clause-up : goal.returns-clause-up
returns-clause-up g c = c.loop-key.invariant.up

pub returns-clause-untouched : goal.returns-clause-untouched
returns-clause-untouched g c = c.loop-key.invariant.untouched

pub returns-clause-towards : goal.returns-clause-towards
returns-clause-towards g c = c.loop-key.invariant.towards

pub returns-clause-cause : goal.returns-clause-cause
returns-clause-cause g c = record { never_falls = c.loop-key.invariant.never_falls; failed = λ e. absurd (cc e) }

pub returns-in_err-drop_other-clause-untouched : goal.returns-in_err-drop_other-clause-untouched
returns-in_err-drop_other-clause-untouched g c = untouched g (goal.at.returns-in_err-drop_other-clause-untouched g c).After-drop_other

pub returns-in_err-drop_other-clause-towards : goal.returns-in_err-drop_other-clause-towards
returns-in_err-drop_other-clause-towards g c =
    towards_then g.S.Shelf.tells g.S.Shelf.contents g.S.Shelf.may_leave (slots_of c.args.slots.now) c.args.shelf.now c.loop-key.shelf c.drop_other.new.shelf c.loop-key.invariant.towards
    c.drop_other.ensures.towards

pub returns-in_err-drop_other-clause-cause : goal.returns-in_err-drop_other-clause-cause
returns-in_err-drop_other-clause-cause g c = record {
  never_falls = omega (arith, c.loop-key.invariant.never_falls, c.drop_other.ensures.cause.never_falls);
  failed = λ e. rose_since _ _ _ c.loop-key.invariant.never_falls (c.drop_other.ensures.cause.failed
      (let p = err_from_is_err_and c.from_residual-in_err-drop_other.result c.from_residual-in_err-drop_other.ensures.1 in let was = c.in_err-drop_other.was {u = tt} in cc (p.1, p.2, e, was)));
}
