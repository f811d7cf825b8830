use Rattle.std.proofs.Common.{◌≡◌, ◌∙◌, ℕ, List, [], Option, ap, sym, subst, arith, get_or}
use Rattle.std.specs.FinMap.{from_entries}
use Rattle.std.specs.Prelude.{IfSome}
use Rattle.cas_ballot.specs.Members.{has_member}
use Rattle.cas_slot.specs.Slots.{slot_at}
use Rattle.std.proofs.lemmas.Option.{slice_get_read}
use Rattle.cas_slot.proofs.SlotsLemmas.{lookup-slots}
use Rattle.cas_slot.specs.declared.slot.Slot.{Slot}
use Rattle.cas_survey.specs.Survey.{kept_of, kept_on}
use Rattle.cas_survey.proofs.Among.{found_below_none, counted_below_none, found_below_more, found_below_other, counted_below_more, counted_below_other}
use Rattle.cas_survey.proofs.Among.{found_in_all, counted_in_all, kept_fits, findings_fit, counter_fits}
use Rattle.cas_survey.proofs.findings.survey.Goals.{then-has+in_ok-add, else-has}
use Rattle.cas_survey.proofs.findings.survey.Goals as goal

pub loop-number-init : goal.loop-number-init
loop-number-init g c = record {
  slots = found_below_none c.args.members (kept_on g.S.Shelf.contents c.args.shelves.now) _
      (λ key. ap (λ (es : List (List ℕ × Slot)). slot_at (from_entries es) key) c.new.ensures.empty ∙ sym (lookup-slots key []));
  past = counted_below_none c.args.members (kept_on g.S.Shelf.contents c.args.shelves.now);
}

pub loop-number-preserved : goal.loop-number-preserved
loop-number-preserved g c =
    let number = c.loop-number.number in
    let members = c.args.members in
    let kept = kept_on g.S.Shelf.contents c.args.shelves.now in
    let id : c.unwrap-id.result ≡ number = subst (λ (o : Option ℕ). IfSome o (λ id. id ≡ number)) c.unwrap-id.ensures c.new-in-loop-number.ensures.value in
    elim c.if-has.branch [
      | then-has+in_ok-add w ↦
          let is : kept number ≡ g.S.Shelf.contents w.index-shelves-from.result = ap (kept_of g.S.Shelf.contents)
          (slice_get_read c.args.shelves.now 64 number w.index-shelves-from.result (sym c.requires.all)
          (omega (arith, c.loop-number-test.true, c.end-number-end.ensures.within))
          (w.index-shelves-from.is ∙ ap (λ (n : ℕ). get_or c.args.shelves.now n w.index-shelves-from.result) w.from.ensures)) in
          let member = ap (has_member members) (sym id) ∙ sym c.has.ensures ∙ w.if-has.true in
          let added = w.in_ok-add.ensures {u = tt} in
          rw w.found-is (record {
            slots = found_below_more number members kept (g.S.Shelf.contents w.index-shelves-from.result) _ _ member is c.loop-number.invariant.slots added.slots;
            past = counted_below_more number members kept (g.S.Shelf.contents w.index-shelves-from.result) _ _ member is c.loop-number.invariant.past added.past;
          })
      | else-has w ↦
          let other = ap (has_member members) (sym id) ∙ sym c.has.ensures ∙ w.if-has.false in
          rw w.found-is (record {
            slots = found_below_other number members kept _ other c.loop-number.invariant.slots;
            past = counted_below_other number members kept _ other c.loop-number.invariant.past;
          })
    ]

pub returns-clause-fits : goal.returns-clause-fits
returns-clause-fits g c = findings_fit c.args.members (kept_on g.S.Shelf.contents c.args.shelves.now) _
    (kept_fits g.S.Shelf.is_up g.S.Shelf.contents c.args.members c.args.shelves.now g.met.S.Shelf.ballots_fit c.requires.up)
    (found_in_all c.loop-number.number c.args.members (kept_on g.S.Shelf.contents c.args.shelves.now) _
    (λ n high. c.end-number-end.ensures.behind n (omega (arith, c.loop-number-test.false, high))) c.loop-number.invariant.slots)

pub returns-clause-limit : goal.returns-clause-limit
returns-clause-limit g c = counter_fits c.args.members (kept_on g.S.Shelf.contents c.args.shelves.now) _
    (kept_fits g.S.Shelf.is_up g.S.Shelf.contents c.args.members c.args.shelves.now g.met.S.Shelf.ballots_fit c.requires.up)
    (counted_in_all c.loop-number.number c.args.members (kept_on g.S.Shelf.contents c.args.shelves.now) _
    (λ n high. c.end-number-end.ensures.behind n (omega (arith, c.loop-number-test.false, high))) c.loop-number.invariant.past)
