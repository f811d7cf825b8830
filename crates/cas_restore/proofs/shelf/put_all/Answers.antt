use Rattle.std.proofs.Common.{◌≡◌, ◌∙◌, ◌≤◌, Some, ap, sym, subst, refl, arith}
use Rattle.std.specs.Prelude.{IfSome}
use Rattle.std.specs.Cmp.Lexicographic.{nat_list_cmp_total}
use Rattle.std.specs.Map.Iter.{deref_pair}
use Rattle.std.proofs.lemmas.Map.Iter.{btree_map_turn}
use Rattle.std.proofs.lemmas.Result.{err_from_is_err_and}
use Rattle.cas_slot.specs.declared.slots.TheConstants.{MOST_SLOTS}
use Rattle.cas_slot.specs.Limits.{SlotBallotsFit}
use Rattle.cas_slot.specs.Slots.{slot_at, slot_count}
use Rattle.cas_slot.proofs.ListingLemmas.{slot_count-entries}
use Rattle.cas_slot.proofs.SlotsLemmas.{lookup-slots}
use Rattle.cas_restore.specs.Restored.{slots_of, MovesTowards}
use Rattle.cas_restore.proofs.Dropping.{others_stay_away}
use Rattle.cas_restore.proofs.Faults.{rose_since}
use Rattle.cas_restore.proofs.Putting.{StandsOrFollows, all_follow, fewer_follow, all_stand, has_room}
use Rattle.cas_restore.proofs.Towards.{towards_itself, towards_then}
use Rattle.cas_restore.proofs.shelf.put_all.Given.{Over}
use Rattle.cas_restore.proofs.shelf.put_all.Goals as goal
use Rattle.cas_restore.proofs.shelf.put_all.Goals.{After-into_iter-key-iterator, In-Some, After-put_if_other}

start : (g : Over) (c : After-into_iter-key-iterator g) → c.into_iter-key-iterator.result ≡ c.args.slots.now.entries
start g c = c.into_iter-key-iterator.ensures.into_iter_gives ∙ c.iter-key-items.ensures.rest

pub loop-key-init : goal.loop-key-init
loop-key-init g c = record {
  up = c.requires.up;
  stands = subst (StandsOrFollows (slots_of c.args.slots.now) (g.S.Shelf.contents c.args.shelf.now)) (sym (start g c)) (all_follow c.args.slots.now.entries (g.S.Shelf.contents c.args.shelf.now));
  towards = towards_itself g.S.Shelf.tells g.S.Shelf.contents g.S.Shelf.may_leave (slots_of c.args.slots.now) c.args.shelf.now (λ t. g.met.S.Shelf.up_is_kept c.args.shelf.now t c.requires.up);
  untouched = λ _. refl;
  never_falls = omega arith;
}

-- the next entry is that of its key
given : (g : Over) (c : In-Some g) → slot_at (slots_of c.args.slots.now) c.in-Some.key.now ≡ Some c.in-Some.slot.now
given g c =
    let turn = btree_map_turn deref_pair c.loop-key.yielded c.into_iter-key-iterator.result c.loop-key.key-iterator c.next.new.self c.next.result (c.in-Some.key, c.in-Some.slot)
    c.loop-key.yielded_by c.in-Some.is
    c.next.ensures.steps nat_list_cmp_total c.args.slots.now (c.into_iter-key-iterator.ensures.into_iter_gives ∙ c.iter-key-items.ensures.rest) c.iter-key-items.ensures.ordered in
    sym (lookup-slots c.in-Some.key.now c.args.slots.now.entries) ∙ turn.1

pub put_if_other-requires : goal.put_if_other-requires
put_if_other-requires g c =
    let at = given g (goal.at.put_if_other-requires g c).In-Some in
    let few : slot_count (slots_of c.args.slots.now) ≤ MOST_SLOTS = omega (arith, c.requires.few, slot_count-entries c.args.slots.now.entries c.iter-key-items.ensures.ordered) in
    record {
      up = c.loop-key.invariant.up;
      fits = subst (λ (o : _). IfSome o SlotBallotsFit) at (c.requires.fits c.in-Some.key.now);
      room = has_room (slots_of c.args.slots.now) (g.S.Shelf.contents c.loop-key.shelf) c.in-Some.key.now c.in-Some.slot.now few
          (others_stay_away (slots_of c.args.slots.now) (g.S.Shelf.contents c.args.shelf.now) (g.S.Shelf.contents c.loop-key.shelf) c.loop-key.invariant.towards.between c.requires.none) at;
    }

untouched : (g : Over) (c : After-put_if_other g) → (g.S.Shelf.contents c.args.shelf.now).slots ≡ slots_of c.args.slots.now → c.put_if_other.new.shelf ≡ c.args.shelf.now
untouched g c same =
    let still = c.loop-key.invariant.untouched same in
    c.put_if_other.ensures.untouched (ap (λ (s : _). slot_at (g.S.Shelf.contents s).slots c.in-Some.key.now) still ∙ ap (λ (s : _). slot_at s c.in-Some.key.now) same ∙ given g
    (goal.at.After-put_if_other g c).In-Some) ∙ still

towards : (g : Over) (c : After-put_if_other g) → MovesTowards g.S.Shelf.tells g.S.Shelf.contents g.S.Shelf.may_leave (slots_of c.args.slots.now) c.args.shelf.now c.put_if_other.new.shelf
towards g c =
    towards_then g.S.Shelf.tells g.S.Shelf.contents g.S.Shelf.may_leave (slots_of c.args.slots.now) c.args.shelf.now c.loop-key.shelf c.put_if_other.new.shelf c.loop-key.invariant.towards
    (c.put_if_other.ensures.towards (slots_of c.args.slots.now) (given g (goal.at.After-put_if_other g c).In-Some))

pub loop-key-preserved : goal.loop-key-preserved
loop-key-preserved g c =
    let to = c.in_ok-put_if_other.ensures {u = tt} in
    let here = (goal.at.loop-key-preserved g c).After-put_if_other in
    record {
      up = to.up;
      stands = fewer_follow (slots_of c.args.slots.now) (g.S.Shelf.contents c.loop-key.shelf) (g.S.Shelf.contents c.put_if_other.new.shelf) c.loop-key.key-iterator c.in-Some.key.now
          c.in-Some.slot.now c.next.new.self
          (c.in-Some.ensures {u = tt}).steps (c.put_if_other.ensures.towards (slots_of c.args.slots.now) (given g (goal.at.loop-key-preserved g c).In-Some)).between to.ok c.loop-key.invariant.stands;
      towards = towards g here;
      untouched = untouched g here;
      never_falls = omega (arith, c.loop-key.invariant.never_falls, c.put_if_other.ensures.cause.never_falls);
    }

pub returns-clause-ok : goal.returns-clause-ok
returns-clause-ok g c = record {
  up = c.loop-key.invariant.up;
  holds = all_stand (slots_of c.args.slots.now) (g.S.Shelf.contents c.args.shelf.now) (g.S.Shelf.contents c.loop-key.shelf) c.loop-key.key-iterator ((c.in-None.ensures {u = tt}).steps.0)
      c.loop-key.invariant.towards.between
      (others_stay_away (slots_of c.args.slots.now) (g.S.Shelf.contents c.args.shelf.now) (g.S.Shelf.contents c.loop-key.shelf) c.loop-key.invariant.towards.between c.requires.none)
      c.loop-key.invariant.stands;
}

pub returns-clause-untouched : goal.returns-clause-untouched
returns-clause-untouched g c = c.loop-key.invariant.untouched

pub returns-clause-towards : goal.returns-clause-towards
returns-clause-towards g c = c.loop-key.invariant.towards

pub returns-clause-cause : goal.returns-clause-cause
returns-clause-cause g c = record { never_falls = c.loop-key.invariant.never_falls; failed = λ e. absurd (cc e) }

pub returns-in_err-put_if_other-clause-untouched : goal.returns-in_err-put_if_other-clause-untouched
returns-in_err-put_if_other-clause-untouched g c = untouched g (goal.at.returns-in_err-put_if_other-clause-untouched g c).After-put_if_other

pub returns-in_err-put_if_other-clause-towards : goal.returns-in_err-put_if_other-clause-towards
returns-in_err-put_if_other-clause-towards g c = towards g (goal.at.returns-in_err-put_if_other-clause-towards g c).After-put_if_other

pub returns-in_err-put_if_other-clause-cause : goal.returns-in_err-put_if_other-clause-cause
returns-in_err-put_if_other-clause-cause g c = record {
  never_falls = omega (arith, c.loop-key.invariant.never_falls, c.put_if_other.ensures.cause.never_falls);
  failed = λ e. rose_since _ _ _ c.loop-key.invariant.never_falls (c.put_if_other.ensures.cause.failed
      (let p = err_from_is_err_and c.from_residual.result c.from_residual.ensures.1 in let was = c.in_err-put_if_other.was {u = tt} in cc (p.1, p.2, e, was)));
}
