use Rattle.std.proofs.Common.{ℕ, List, [], refl, sym, ap, subst, ◌∙◌}
use Rattle.std.specs.Prelude.{Contains}
use Rattle.cas_record.specs.declared.mark.Mark.{Mark}
use Rattle.cas_record.specs.declared.operator.Asked.TheVariants as asked
use Rattle.cas_record.specs.declared.operator.OpAnswer.{OpAnswer}
use Rattle.cas_model.proofs.Places.{contains_front}
use Rattle.cas_ballot.specs.Members.{IsMemberSet}
use Rattle.cas_board.specs.Operations.{IsSilentSince, Operates, WasToldLast, is_not_begun}
use Rattle.cas_board_steps.specs.Exchanges.Orders.{asked_for, IsAskingHarm, IsProbeAnswer, IsTrueProbe}
use Rattle.cas_board_steps.specs.declared.orders.Inquiry.{Inquiry}
use Rattle.cas_board_steps.proofs.Exchanges.Probes.{own_order, order_inquiry, order_key}
use Rattle.cas_board.proofs.Looks.{carried, heard_so, look_agrees, look_reads}
use Rattle.cas_board_steps.proofs.Exchanges.Truth.{true_earlier}
use Rattle.cas_board.proofs.Sittings.{counted_none}
use Rattle.cas_board.proofs.Operating.{told_behind, operates_told, refused_answers, own_grown, silent_before, true_among}
use Rattle.cas_board.proofs.board.Board.look.Goals as goal

pub ask_and_probe-requires-clause-operator : goal.ask_and_probe-requires-clause-operator
ask_and_probe-requires-clause-operator g c = ap (λ s. s.number) c.order_probe_once.ensures.pass ∙ c.requires.operator

pub ask_and_probe-requires-clause-order : goal.ask_and_probe-requires-clause-order
ask_and_probe-requires-clause-order g c = own_order c.in-Ok.ensures.order

pub look_of-requires : goal.look_of-requires
look_of-requires g c =
    heard_so g.D.Disk.tells g.D.Disk.tells c.ask_and_probe.new.pass.seen c.in-Ok.order.key c.ask_and_probe.ensures.answer.0 c.ask_and_probe.result.told c.ask_and_probe.result.agreement c.ask_and_probe.ensures.answer.2 (c.ask_and_probe.ensures.truly.agreed (order_inquiry c.in-Ok.ensures.order))

pub returns-in-Ok-clause-free : goal.returns-in-Ok-clause-free
returns-in-Ok-clause-free g c = c.ask_and_probe.ensures.told.2.is_free

pub returns-in-Ok-clause-operates : goal.returns-in-Ok-clause-operates
returns-in-Ok-clause-operates g c =
    subst (Operates (asked.Read c.args.key.now) IsAskingHarm (g.F.Fate.harm_count c.args.fate.now) (g.F.Fate.harm_count c.ask_and_probe.new.fate) c.args.pass.now c.ask_and_probe.new.pass) (sym (c.look_of.ensures.told c.args.key.now c.ask_and_probe.ensures.answer.0 (subst (λ (k : List ℕ). IsProbeAnswer k c.ask_and_probe.ensures.answer.0 c.ask_and_probe.result.told) (order_key c.in-Ok.ensures.order) c.ask_and_probe.ensures.answer.2)))
    (operates_told (asked.Read c.args.key.now) IsAskingHarm c.ask_and_probe.ensures.told.0 _ _ c.args.pass.now c.ask_and_probe.new.pass c.ask_and_probe.result.told c.ask_and_probe.ensures.told.1
    (told_behind (asked.Read c.args.key.now) IsAskingHarm c.ask_and_probe.ensures.told.0 c.args.pass.now c.order_probe_once.new.pass c.ask_and_probe.new.pass c.ask_and_probe.result.told (ap (λ s. s.number) c.order_probe_once.ensures.pass) c.in-Ok.ensures.front c.order_probe_once.ensures.counted
    (carried (λ (i : Inquiry) (k : List ℕ). WasToldLast (asked_for i k) IsAskingHarm c.ask_and_probe.ensures.told.0 c.order_probe_once.new.pass c.ask_and_probe.new.pass c.ask_and_probe.result.told) (order_inquiry c.in-Ok.ensures.order) (order_key c.in-Ok.ensures.order) c.ask_and_probe.ensures.told.2)))

pub returns-in-Ok-clause-answer : goal.returns-in-Ok-clause-answer
returns-in-Ok-clause-answer g c =
    subst (λ (a : OpAnswer). (members : List ℕ) × IsMemberSet members × IsProbeAnswer c.args.key.now members a) (sym (c.look_of.ensures.told c.args.key.now c.ask_and_probe.ensures.answer.0 (subst (λ (k : List ℕ). IsProbeAnswer k c.ask_and_probe.ensures.answer.0 c.ask_and_probe.result.told) (order_key c.in-Ok.ensures.order) c.ask_and_probe.ensures.answer.2)))
    (subst (λ (k : List ℕ). (members : List ℕ) × IsMemberSet members × IsProbeAnswer k members c.ask_and_probe.result.told) (order_key c.in-Ok.ensures.order) c.ask_and_probe.ensures.answer)

pub returns-in-Err-clause-free : goal.returns-in-Err-clause-free
returns-in-Err-clause-free g c = c.in-Err.ensures.refused.1

pub returns-in-Err-clause-operates : goal.returns-in-Err-clause-operates
returns-in-Err-clause-operates g c = is_not_begun c.in-Err.refusal c.in-Err.ensures.refused.0 refl (counted_none (g.F.Fate.harm_count c.args.fate.now)) c.in-Err.ensures.front (λ enters. absurd (enters 0 0))

pub returns-in-Err-clause-answer : goal.returns-in-Err-clause-answer
returns-in-Err-clause-answer g c = refused_answers c.args.key.now _ c.in-Err.refusal c.in-Err.ensures.refused.0

pub returns-in-Ok-clause-truly : goal.returns-in-Ok-clause-truly
returns-in-Ok-clause-truly g c tells =
    subst (IsTrueProbe c.args.pass.now.seen c.ask_and_probe.new.pass.seen) (sym (c.look_of.ensures.told c.args.key.now c.ask_and_probe.ensures.answer.0 (subst (λ (k : List ℕ). IsProbeAnswer k c.ask_and_probe.ensures.answer.0 c.ask_and_probe.result.told) (order_key c.in-Ok.ensures.order) c.ask_and_probe.ensures.answer.2)))
    (true_among c.order_probe_once.new.pass.seen c.args.pass.now.seen c.ask_and_probe.new.pass.seen c.ask_and_probe.result.told
    (λ x there. subst (λ (l : List Mark). Contains l x) c.in-Ok.ensures.front.begins.whole (contains_front c.args.pass.now.seen c.in-Ok.ensures.front.begins.behind there)) (c.ask_and_probe.ensures.truly.probed tells tells))

pub returns-in-Ok-clause-silent : goal.returns-in-Ok-clause-silent
returns-in-Ok-clause-silent g c =
    subst (IsSilentSince 0 c.args.pass.now c.ask_and_probe.new.pass) (sym (c.look_of.ensures.told c.args.key.now c.ask_and_probe.ensures.answer.0 (subst (λ (k : List ℕ). IsProbeAnswer k c.ask_and_probe.ensures.answer.0 c.ask_and_probe.result.told) (order_key c.in-Ok.ensures.order) c.ask_and_probe.ensures.answer.2)))
    (silent_before 0 c.args.pass.now c.order_probe_once.new.pass c.ask_and_probe.new.pass c.ask_and_probe.result.told (own_grown c.args.pass.now c.order_probe_once.new.pass [] c.requires.operator c.in-Ok.ensures.front) c.ask_and_probe.ensures.silent)

pub returns-in-Ok-clause-counted : goal.returns-in-Ok-clause-counted
returns-in-Ok-clause-counted g c = c.ask_and_probe.ensures.told.2.keeps (λ enters. enters 0 0) ∙ c.order_probe_once.ensures.counted

pub returns-in-Ok-clause-agreed : goal.returns-in-Ok-clause-agreed
returns-in-Ok-clause-agreed g c =
    look_agrees g.D.Disk.tells g.D.Disk.tells c.ask_and_probe.new.pass.seen c.args.key.now c.look_of.result c.ask_and_probe.result.told c.ask_and_probe.result.agreement (c.look_of.ensures.told c.args.key.now c.ask_and_probe.ensures.answer.0 (subst (λ (k : List ℕ). IsProbeAnswer k c.ask_and_probe.ensures.answer.0 c.ask_and_probe.result.told) (order_key c.in-Ok.ensures.order) c.ask_and_probe.ensures.answer.2)) c.look_of.ensures.agreement (c.ask_and_probe.ensures.truly.agreed (order_inquiry c.in-Ok.ensures.order))

pub returns-in-Ok-clause-reads : goal.returns-in-Ok-clause-reads
returns-in-Ok-clause-reads g c tells =
    look_reads c.args.pass.now.seen c.ask_and_probe.new.pass.seen c.args.key.now c.look_of.result c.ask_and_probe.result.told c.ask_and_probe.result.agreement (c.look_of.ensures.told c.args.key.now c.ask_and_probe.ensures.answer.0 (subst (λ (k : List ℕ). IsProbeAnswer k c.ask_and_probe.ensures.answer.0 c.ask_and_probe.result.told) (order_key c.in-Ok.ensures.order) c.ask_and_probe.ensures.answer.2)) c.look_of.ensures.agreement
    (true_earlier c.args.pass.now.seen c.order_probe_once.new.pass.seen c.ask_and_probe.new.pass.seen c.in-Ok.ensures.front.begins.behind c.ask_and_probe.ensures.told.2.front.begins.behind c.in-Ok.ensures.front.begins.whole c.ask_and_probe.ensures.told.2.front.begins.whole (c.ask_and_probe.ensures.legal tells) c.ask_and_probe.result.told c.ask_and_probe.result.agreement (c.ask_and_probe.ensures.truly.read tells tells))
