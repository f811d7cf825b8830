use Rattle.std.proofs.Common.{◌≡◌, ◌+◌, ◌-◌, ◌<◌, ℕ, true, List, take, drop, length, slice_set, sym, ap, ◌∙◌, arith}
use Rattle.std.specs.Prelude.{nat_lt, sum_by}
use Rattle.std.proofs.lemmas.List.{length-drop, length-map, take_all}
use Rattle.cas_record.specs.declared.mark.Mark.{Mark}
use Rattle.cas_model.specs.Council.{reserved_by}
use Rattle.cas_model.specs.Calls.Step.{round_marks}
use Rattle.cas_model.specs.View.{View, era_at, new_caller, reserved_of as seen_reserved}
use Rattle.cas_world_calls.specs.Call.{reserved_of}
use Rattle.cas_world_calls.specs.Council.{council_view}
use Rattle.cas_world_calls.specs.declared.call.Caller.{Caller}
use Rattle.cas_world.specs.Calls.Beginning.{reserved_beside}
use Rattle.cas_world.specs.World.{caller_view}
use Rattle.cas_world.proofs.Calls.Begins.{beside_none}
use Rattle.cas_world.proofs.Exchanges.Exchanges.{reserved_fits}
use Rattle.cas_world.proofs.Calls.Reserving.{others_within}
use Rattle.cas_world.proofs.world.World.is_full.Given.{Over}
use Rattle.cas_world.proofs.world.World.is_full.Goals as goal
use Rattle.cas_world.proofs.world.World.is_full.Goals.{After-reserved}

pub reserved_by-requires : goal.reserved_by-requires
reserved_by-requires g c = omega (arith, reserved_fits c.self.inside.setup.proposers c.self.inside.council c.self.inside.acceptors.items c.self.inside.desks.items c.self.inside.callers.items c.self.inside.flow c.self.inside.record c.self.invariant.safe, ap (λ (l : List Caller). sum_by reserved_of (take c.from-place.result l)) c.deref.ensures.value, others_within c.from-place.result 0 c.self.inside.callers.items)

pub reserved_by-requires-2 : goal.reserved_by-requires-2
reserved_by-requires-2 g c = omega (arith, reserved_fits c.self.inside.setup.proposers c.self.inside.council c.self.inside.acceptors.items c.self.inside.desks.items c.self.inside.callers.items c.self.inside.flow c.self.inside.record c.self.invariant.safe, ap (λ (l : List Caller). sum_by reserved_of (take (length l - (c.from-place.result + 1)) (drop (c.from-place.result + 1) l))) c.deref-2.ensures.value, others_within c.from-place.result (length c.self.inside.callers.items - (c.from-place.result + 1)) c.self.inside.callers.items)

pub overflow_add-others : goal.overflow_add-others
overflow_add-others g c = omega (arith, c.reserved_by.ensures, c.reserved_by-2.ensures, ap (λ (l : List Caller). sum_by reserved_of (take c.from-place.result l)) c.deref.ensures.value, ap (λ (l : List Caller). sum_by reserved_of (take (length l - (c.from-place.result + 1)) (drop (c.from-place.result + 1) l))) c.deref-2.ensures.value, others_within c.from-place.result (length c.self.inside.callers.items - (c.from-place.result + 1)) c.self.inside.callers.items, reserved_fits c.self.inside.setup.proposers c.self.inside.council c.self.inside.acceptors.items c.self.inside.desks.items c.self.inside.callers.items c.self.inside.flow c.self.inside.record c.self.invariant.safe)

pub overflow_add-result : goal.overflow_add-result
overflow_add-result g c = omega (arith, ap (λ (l : List Mark). length l) c.marks.ensures, c.reserved_by.ensures, c.reserved_by-2.ensures, ap (λ (l : List Caller). sum_by reserved_of (take c.from-place.result l)) c.deref.ensures.value, ap (λ (l : List Caller). sum_by reserved_of (take (length l - (c.from-place.result + 1)) (drop (c.from-place.result + 1) l))) c.deref-2.ensures.value, others_within c.from-place.result (length c.self.inside.callers.items - (c.from-place.result + 1)) c.self.inside.callers.items, reserved_fits c.self.inside.setup.proposers c.self.inside.council c.self.inside.acceptors.items c.self.inside.desks.items c.self.inside.callers.items c.self.inside.flow c.self.inside.record c.self.invariant.safe)

pub overflow_add-result-2 : goal.overflow_add-result-2
overflow_add-result-2 g c = omega (arith, ap (λ (l : List Mark). length l) c.marks.ensures, c.reserved.ensures, c.reserved_by.ensures, c.reserved_by-2.ensures, ap (λ (l : List Caller). sum_by reserved_of (take c.from-place.result l)) c.deref.ensures.value, ap (λ (l : List Caller). sum_by reserved_of (take (length l - (c.from-place.result + 1)) (drop (c.from-place.result + 1) l))) c.deref-2.ensures.value, others_within c.from-place.result (length c.self.inside.callers.items - (c.from-place.result + 1)) c.self.inside.callers.items, reserved_fits c.self.inside.setup.proposers c.self.inside.council c.self.inside.acceptors.items c.self.inside.desks.items c.self.inside.callers.items c.self.inside.flow c.self.inside.record c.self.invariant.safe)

pub overflow_add-result-3 : goal.overflow_add-result-3
overflow_add-result-3 g c = omega (arith, ap (λ (l : List Mark). length l) c.marks.ensures, c.reserved.ensures, c.round_marks-marks.ensures.few, c.reserved_by.ensures, c.reserved_by-2.ensures, ap (λ (l : List Caller). sum_by reserved_of (take c.from-place.result l)) c.deref.ensures.value, ap (λ (l : List Caller). sum_by reserved_of (take (length l - (c.from-place.result + 1)) (drop (c.from-place.result + 1) l))) c.deref-2.ensures.value, others_within c.from-place.result (length c.self.inside.callers.items - (c.from-place.result + 1)) c.self.inside.callers.items, reserved_fits c.self.inside.setup.proposers c.self.inside.council c.self.inside.acceptors.items c.self.inside.desks.items c.self.inside.callers.items c.self.inside.flow c.self.inside.record c.self.invariant.safe)

lt_is : {a b : ℕ} → a < b → nat_lt a b ≡ true
lt_is low = grind (arith, low)

lt_tells : {a b : ℕ} → nat_lt a b ≡ true → a < b
lt_tells e = grind (arith, e)

-- the marks of the others, by the caller's number
before : (g : Over) (c : After-reserved g) → c.reserved_by.result ≡ sum_by reserved_of (take c.args.caller c.self.inside.callers.items)
before g c = c.reserved_by.ensures ∙ ap (λ (l : List Caller). sum_by reserved_of (take c.from-place.result l)) c.deref.ensures.value ∙ ap (λ (n : ℕ). sum_by reserved_of (take n c.self.inside.callers.items)) c.from-place.ensures

behind : (g : Over) (c : After-reserved g) → c.reserved_by-2.result ≡ sum_by reserved_of (drop (c.args.caller + 1) c.self.inside.callers.items)
behind g c = c.reserved_by-2.ensures ∙ ap (λ (l : List Caller). sum_by reserved_of (take (length l - (c.from-place.result + 1)) (drop (c.from-place.result + 1) l))) c.deref-2.ensures.value ∙ ap (sum_by reserved_of) (take_all (length c.self.inside.callers.items - (c.from-place.result + 1)) (drop (c.from-place.result + 1) c.self.inside.callers.items) (omega (arith, length-drop (c.from-place.result + 1) c.self.inside.callers.items)))
    ∙ ap (λ (n : ℕ). sum_by reserved_of (drop (n + 1) c.self.inside.callers.items)) c.from-place.ensures

pub returns : goal.returns
returns g c =
    let counted : length c.args.self.now.marks ≡ length c.self.inside.record.marks = ap (λ (v : (View g.row.S.Denot g.row.V.Denot)). length v.marks) (sym c.self.view_is) in
    let place : c.args.caller < length c.self.inside.callers.items = omega (arith, c.self.invariant.safe.sound.callers, c.requires, ap (λ (v : (View g.row.S.Denot g.row.V.Denot)). v.last_proposer) c.self.view_is, length-map c.self.inside.callers.items caller_view) in
    let others : seen_reserved (slice_set c.args.self.now.callers c.args.caller new_caller) ≡ reserved_beside c.self.inside.callers.items c.args.caller = ap (λ (v : (View g.row.S.Denot g.row.V.Denot)). seen_reserved (slice_set v.callers c.args.caller new_caller)) (sym c.self.view_is) ∙ beside_none c.self.inside.callers.items c.args.caller place in
    let aside : reserved_by c.args.self.now.council ≡ reserved_by (council_view c.self.inside.council) = ap (λ (v : (View g.row.S.Denot g.row.V.Denot)). reserved_by v.council) (sym c.self.view_is) in
    let needs : round_marks (era_at c.args.self.now c.args.caller) ≡ c.round_marks-marks.result = ap (λ (v : (View g.row.S.Denot g.row.V.Denot)). round_marks (era_at v c.args.caller)) (sym c.self.view_is) ∙ sym (c.round_marks-marks.ensures.value ∙ ap round_marks c.of.ensures) in (
      λ many. omega (arith, lt_tells many, counted, others, aside, needs, before g c, behind g c, ap (λ (l : List Mark). length l) c.marks.ensures, c.reserved.ensures),
      λ full. lt_is (omega (arith, full, counted, others, aside, needs, before g c, behind g c, ap (λ (l : List Mark). length l) c.marks.ensures, c.reserved.ensures)),
    )
