use Rattle.std.proofs.Common.{◌≡◌, ℕ, ◌++◌, ◌∷◌, [], Option, None, Some, sym, ap, subst, ◌∙◌}
use Rattle.std.specs.Prelude.{◌-◌, List, IfSome}
use Rattle.cas_cache.specs.declared.ready.Ready.{Ready}
use Rattle.cas_change.specs.declared.outcome.Outcome.{Outcome}
use Rattle.cas_change.specs.declared.outcome.Took.{Took}
use Rattle.cas_change.specs.declared.state.State.{State}
use Rattle.cas_proposer.specs.Desk.{counter_without}
use Rattle.cas_proposer.specs.declared.round.Round.{Round}
use Rattle.cas_record.specs.declared.answer.Answer.{Answer}
use Rattle.cas_record.specs.declared.answer.Answer.TheVariants as answer
use Rattle.cas_record.specs.declared.mark.Mark.TheVariants.{Acked}
use Rattle.cas_vault.specs.Vault.{counter_of}
use Rattle.cas_model.specs.Calls.Step.{offered_by}
use Rattle.cas_model.specs.Calls.Desks.{EndsRound}
use Rattle.cas_model.proofs.Places.{some_is}
use Rattle.cas_world_calls.specs.Call.{over}
use Rattle.cas_world.specs.Calls.Count.{Counts}
use Rattle.cas_world_calls.specs.declared.call.Caller.{Caller}
use Rattle.cas_world_calls.specs.declared.call.OpenCall.{OpenCall}
use Rattle.cas_world_calls.specs.declared.proposal.Copies.{Copies}
use Rattle.cas_world.proofs.Stops.Stops.{end_goes_on}
use Rattle.cas_world.proofs.propose.acknowledge.Given.{Over}
use Rattle.cas_world.proofs.propose.acknowledge.Goals as goal
use Rattle.cas_model.specs.View.{disk_meaning}

-- the round that is lent is the open one
lent_is : (g : Over) (c : goal.After-done g) → c.in-Some.round.now ≡ c.requires.round
lent_is g c = some_is (sym c.in-Some.ensures ∙ c.requires.is_round)

copies_are : (g : Over) (c : goal.After-done g) → c.take_copies-copies.result.copies ≡ c.requires.copies
copies_are g c =
    subst (λ (o : Option Copies). IfSome o (λ copies. c.take_copies-copies.result.copies ≡ copies)) c.requires.has_copies
    (subst (λ (o : Option OpenCall). IfSome o (λ call. IfSome call.copies (λ copies. c.take_copies-copies.result.copies ≡ copies))) c.requires.is_open c.take_copies-copies.ensures.copies)

took_is : (g : Over) (c : goal.After-done g) → c.take_copies-copies.result.took ≡ c.requires.outcome.took
took_is g c =
    subst (λ (o : Option Outcome). IfSome o (λ outcome. c.take_copies-copies.result.took ≡ outcome.took)) c.requires.proposed
    (subst (λ (o : Option OpenCall). IfSome o (λ call. IfSome call.proposed (λ outcome. c.take_copies-copies.result.took ≡ outcome.took))) c.requires.is_open c.take_copies-copies.ensures.took)

-- the states that are told and kept are that of the outcome
told_is : (g : Over) (c : goal.After-done g) (state : State) → state ≡ c.requires.outcome.state → answer.Done state c.take_copies-copies.result.took c.in-Some.round.now.ballot ≡ answer.Done c.requires.outcome.state c.requires.outcome.took c.requires.round.ballot
told_is g c state is = ap (λ (s : State). answer.Done s c.take_copies-copies.result.took c.in-Some.round.now.ballot) is
    ∙ ap (λ (t : Took). answer.Done c.requires.outcome.state t c.in-Some.round.now.ballot) (took_is g c)
    ∙ ap (λ (r : Round). answer.Done c.requires.outcome.state c.requires.outcome.took r.ballot) (lent_is g c)

offer_is : (g : Over) (c : goal.After-done g) → c.offered.result ≡ offered_by c.requires.round c.requires.round.ride c.requires.outcome.state c.confirmers-by.result
offer_is g c = c.offered.ensures c.requires.round (sym (ap (λ (r : Round). r.ballot) (lent_is g c)))
    ∙ ap (λ (r : Round). offered_by c.requires.round r.ride c.take_copies-copies.result.copies.kept c.confirmers-by.result) (lent_is g c)
    ∙ ap (λ (s : State). offered_by c.requires.round c.requires.round.ride s c.confirmers-by.result) (ap (λ (x : Copies). x.kept) (copies_are g c) ∙ c.requires.kept)

ends : (g : Over) (c : goal.After-done g) → EndsRound (disk_meaning g.V.Disk) c.args.desk.now c.end.new.self c.requires.round (offered_by c.requires.round c.requires.round.ride c.requires.outcome.state c.confirmers-by.result)
ends g c = subst (λ (o : Option Ready). EndsRound (disk_meaning g.V.Disk) c.args.desk.now c.end.new.self c.requires.round o) (offer_is g c) (record {
  desk = c.end.ensures.desk c.requires.round c.requires.is_round;
  counter = c.end.ensures.counter ∙ ap (λ (r : Option Round). counter_without r (counter_of c.args.desk.now.vault)) c.requires.is_round;
  kept = c.end.ensures.kept;
  goes_on = end_goes_on _ c.args.desk.now.vault c.end.new.self.vault c.end.ensures.kept c.end.ensures.disk c.end.ensures.still_past;
})

caller_is : (g : Over) (c : goal.After-done g) → c.done.new.self ≡ record c.args.caller.now { call = Some (over c.requires.call (answer.Done c.take_copies-copies.result.copies.told c.take_copies-copies.result.took c.in-Some.round.now.ballot)) }
caller_is g c =
    let told : Answer = answer.Done c.take_copies-copies.result.copies.told c.take_copies-copies.result.took c.in-Some.round.now.ballot in
    let taken : c.take_copies-copies.new.caller ≡ record c.args.caller.now { call = Some (record c.requires.call { copies = None }) } =
    subst (λ (o : Option OpenCall). IfSome o (λ call. c.take_copies-copies.new.caller ≡ record c.args.caller.now { call = Some (record call { copies = None }) })) c.requires.is_open c.take_copies-copies.ensures.caller in
    let marked : c.mark.new.self ≡ record c.args.caller.now { call = Some (record c.requires.call { copies = None; reserved = c.requires.call.reserved - 1 }) } =
    subst (λ (x : Caller). IfSome x.call (λ call. c.mark.new.self ≡ record x { call = Some (record call { reserved = call.reserved - 1 }) })) taken c.mark.ensures.call in
    subst (λ (x : Caller). IfSome x.call (λ call. c.done.new.self ≡ record x { call = Some (over call told) })) marked c.done.ensures

counts : (g : Over) (c : goal.After-done g) → Counts (disk_meaning g.V.Disk) c.args.desk.now c.end.new.self c.requires.round c.args.caller.now c.done.new.self c.requires.call c.requires.outcome c.args.record.now c.mark.new.record
    (answer.Done c.take_copies-copies.result.copies.answer c.take_copies-copies.result.took c.in-Some.round.now.ballot)
counts g c = record {
  by = c.confirmers-by.result;
  confirmers = c.confirmers-by.ensures.confirmers c.requires.round c.requires.is_round;
  shown = c.confirmers-by.ensures.shown c.requires.round c.requires.is_round;
  ends = ends g c;
  told_is = told_is g c c.take_copies-copies.result.copies.answer (ap (λ (x : Copies). x.answer) (copies_are g c) ∙ c.requires.answer);
  caller_is = caller_is g c ∙ ap (λ (a : Answer). record c.args.caller.now { call = Some (over c.requires.call a) })
      (told_is g c c.take_copies-copies.result.copies.told (ap (λ (x : Copies). x.told) (copies_are g c) ∙ c.requires.told) ∙ sym (told_is g c c.take_copies-copies.result.copies.answer (ap (λ (x : Copies). x.answer) (copies_are g c) ∙ c.requires.answer)));
  marks = c.mark.ensures.marks
      ∙ ap (λ (r : Round). c.args.record.now.marks ++ Acked (record { key = c.take_copies-copies.result.copies.key; ballot = r.ballot; era = r.era.number; by = c.confirmers-by.result }) ∷ []) (lent_is g c)
      ∙ ap (λ (k : List ℕ). c.args.record.now.marks ++ Acked (record { key = k; ballot = c.requires.round.ballot; era = c.requires.round.era.number; by = c.confirmers-by.result }) ∷ []) (ap (λ (x : Copies). x.key) (copies_are g c) ∙ c.requires.key);
  room = c.mark.ensures.room;
}

pub returns : goal.returns
returns g c round is_round call is_open outcome is_outcome =
    let same_call : c.requires.call ≡ call = some_is (sym c.requires.is_open ∙ is_open) in
    let same_outcome : c.requires.outcome ≡ outcome = some_is (sym c.requires.proposed ∙ ap (λ (x : OpenCall). x.proposed) same_call ∙ is_outcome) in
    let told = answer.Done c.take_copies-copies.result.copies.answer c.take_copies-copies.result.took c.in-Some.round.now.ballot in
    subst (λ (x : Outcome). Counts (disk_meaning g.V.Disk) c.args.desk.now c.end.new.self round c.args.caller.now c.done.new.self call x c.args.record.now c.mark.new.record told) same_outcome
    (subst (λ (x : OpenCall). Counts (disk_meaning g.V.Disk) c.args.desk.now c.end.new.self round c.args.caller.now c.done.new.self x c.requires.outcome c.args.record.now c.mark.new.record told) same_call
    (subst (λ (x : Round). Counts (disk_meaning g.V.Disk) c.args.desk.now c.end.new.self x c.args.caller.now c.done.new.self c.requires.call c.requires.outcome c.args.record.now c.mark.new.record told) (some_is (sym c.requires.is_round ∙ is_round)) (counts g c)))
