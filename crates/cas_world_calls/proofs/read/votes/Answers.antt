use Rattle.std.proofs.Common.{◌≡◌, ℕ, map, List, refl, sym, ap, subst, ◌∙◌, ◌++◌, ◌∷◌, [], arith}
use Rattle.std.specs.Prelude.{Option, IfSome}
use Rattle.std.specs.List.{filter, range_with_len}
use Rattle.cas_ballot.specs.Members.{has_member, members_where}
use Rattle.cas_record.specs.declared.mark.Mark.TheVariants.{Voted}
use Rattle.cas_world_calls.specs.Read.{vote_of}
use Rattle.cas_world_calls.proofs.Sending.{with_one, without_one}
use Rattle.cas_world_calls.proofs.read.votes.Goals as goal
use Rattle.cas_world_calls.proofs.read.votes.Goals.{then-has+in_ok-copy+in_ok-push, else-has}

pub loop-number-preserved : goal.loop-number-preserved
loop-number-preserved c =
    let id : c.unwrap-id.result ≡ c.loop-number.number = subst (λ (r : Option ℕ). IfSome r (λ (id : ℕ). id ≡ c.loop-number.number)) c.unwrap-id.ensures c.new.ensures.value in
    let has : c.has.result ≡ has_member c.args.by.now c.loop-number.number = c.has.ensures ∙ ap (has_member c.args.by.now) id in
    elim c.if-has.branch [
      | then-has+in_ok-copy+in_ok-push w ↦ rw w.marks-is
          (with_one (vote_of c.args.key.now c.args.ballot) (has_member c.args.by.now) c.loop-number.number c.loop-number.marks.items w.push.new.self.items (sym has ∙ w.if-has.true) c.loop-number.invariant
          (w.in_ok-push.ensures.items ∙ ap (λ (k : List ℕ). c.loop-number.marks.items ++ Voted c.unwrap-id.result k c.args.ballot ∷ []) w.in_ok-copy.ensures
          ∙ ap (λ (n : ℕ). c.loop-number.marks.items ++ vote_of c.args.key.now c.args.ballot n ∷ []) id))
      | else-has w ↦ rw w.marks-is
          (without_one (vote_of c.args.key.now c.args.ballot) (has_member c.args.by.now) c.loop-number.number c.loop-number.marks.items c.loop-number.marks.items (sym has ∙ w.if-has.false) c.loop-number.invariant refl)
    ]

pub returns : goal.returns
unfolding members_where
returns c =
    let all : c.loop-number.number ≡ 64 = omega (arith, c.loop-number-test.false, c.loop-number.auto.number-end) in
    c.loop-number.invariant ∙ ap (λ (k : ℕ). map (vote_of c.args.key.now c.args.ballot) (filter (has_member c.args.by.now) (range_with_len 0 k))) all
    ∙ ap (map (vote_of c.args.key.now c.args.ballot)) (sym c.count.ensures.set.lists)
