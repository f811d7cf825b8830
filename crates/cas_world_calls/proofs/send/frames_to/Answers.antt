use Rattle.std.proofs.Common.{◌≡◌, ℕ, ◌++◌, ◌∷◌, [], List, map, subst, refl, sym, ap, ◌∙◌, arith, ◌≤◌, length}
use Rattle.std.specs.Prelude.{Option, Some, IfSome}
use Rattle.std.specs.List.{filter, range_with_len}
use Rattle.cas_flow.specs.declared.message.Message.{Message}
use Rattle.cas_ballot.specs.Members.{has_member}
use Rattle.cas_ballot.proofs.MemberLemmas.{members_before}
use Rattle.cas_slot.specs.Limits.{AskBallotsFit}
use Rattle.cas_world_calls.specs.Sending.{requests_to}
use Rattle.cas_world_calls.proofs.Sending.{asking, is_asking, asked_count, with_one, without_one, all_asking}
use Rattle.cas_world_calls.proofs.send.frames_to.Goals as goal
use Rattle.cas_world_calls.proofs.send.frames_to.Goals.{then-has+in_ok-frame+in_ok-push, else-has}

-- src/send.rt:42:5
pub loop-number-init : goal.loop-number-init
loop-number-init c = (c.in_ok-frames.ensures.items, refl, refl, refl, refl)

-- src/send.rt:46:25
pub ask-requires-clause-asked : goal.ask-requires-clause-asked
ask-requires-clause-asked c = record {
  from = omega (arith, c.loop-number.invariant.1, c.requires.proposer);
  ballots = subst AskBallotsFit (sym c.loop-number.invariant.3) c.requires.ballots;
}

-- src/send.rt:42:5
pub loop-number-preserved : goal.loop-number-preserved
loop-number-preserved c =
    let inv = c.loop-number.invariant in
    let id : c.unwrap-id.result ≡ c.loop-number.number = subst (λ (r : Option ℕ). IfSome r (λ (id : ℕ). id ≡ c.loop-number.number)) c.unwrap-id.ensures c.new-in-loop-number.ensures.value in
    let has : c.has.result ≡ has_member c.args.members.now c.loop-number.number = c.has.ensures ∙ ap (has_member c.args.members.now) id in
    elim c.if-has.branch [
      | then-has+in_ok-frame+in_ok-push w ↦ rw w.frames-is (rw w.request-is (
        with_one (asking c.args.proposer c.args.age c.args.ask) (has_member c.args.members.now) c.loop-number.number c.loop-number.frames.items w.push.new.self.items (sym has ∙ w.if-has.true) inv.0
            (w.in_ok-push.ensures.items ∙ ap (λ (x : Option Message). c.loop-number.frames.items ++ x ∷ []) (w.ask.ensures ∙ is_asking id inv.1 inv.2 inv.3)),
        inv.1,
        inv.2,
        inv.3,
        w.flow-is ∙ (w.in_ok-frame.ensures.same ∙ inv.4),
      ))
      | else-has w ↦ rw w.frames-is (rw w.request-is (
        without_one (asking c.args.proposer c.args.age c.args.ask) (has_member c.args.members.now) c.loop-number.number c.loop-number.frames.items c.loop-number.frames.items (sym has ∙ w.if-has.false) inv.0 refl,
        inv.1,
        inv.2,
        inv.3,
        w.flow-is ∙ inv.4,
      ))
    ]

all_asked : (c : goal.Joined-request-3) → c.loop-number.frames.items ≡ map Some (requests_to c.args.proposer c.args.age c.args.ask c.args.members.now)
all_asked c =
    let all : c.loop-number.number ≡ c.end-number-end.result = omega (arith, c.loop-number-test.false, c.loop-number.auto.number-end) in
    c.loop-number.invariant.0
    ∙ (ap (λ (k : ℕ). map (asking c.args.proposer c.args.age c.args.ask) (filter (has_member c.args.members.now) (range_with_len 0 k))) all
    ∙ (ap (map (asking c.args.proposer c.args.age c.args.ask)) (members_before c.args.members.now c.end-number-end.result c.end-number-end.ensures.within c.end-number-end.ensures.behind ∙ sym c.count.ensures.set.lists)
    ∙ all_asking c.args.proposer c.args.age c.args.ask c.args.members.now))

pub returns : goal.returns
returns c = record {
  same = c.loop-number.invariant.4;
  each = all_asked c;
  few = subst (λ (n : ℕ). n ≤ 64) (sym (ap (λ (l : List (Option Message)). length l) (all_asked c) ∙ asked_count c.args.proposer c.args.age c.args.ask c.args.members.now)) (omega (arith, c.count.ensures.value, c.count.ensures.within));
}
