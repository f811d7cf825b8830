use Rattle.std.proofs.Common.{None, sym, subst}
use Rattle.std.specs.Prelude.{take}
use Rattle.cas_record.specs.declared.operator.OpAnswer.{OpAnswer}
use Rattle.cas_record.specs.declared.operator.OpAnswer.TheVariants as op
use Rattle.cas_world.specs.Eras.Plans.{was_told}
use Rattle.cas_board_steps.specs.Exchanges.Orders.{asked_for, IsAgreedSo, IsToldIn, IsAskingHarm, IsProbeAnswer, IsSilentAtMost, IsTrueProbe, IsTrueRead}
use Rattle.cas_board_steps.proofs.Exchanges.Probes.{may_gather, may_gather_members, is_of_key, found_told, gather_told, gather_silent, gather_truly, gather_agrees, gather_reads, none_reads, stopped_agrees}
use Rattle.cas_board_steps.proofs.orders.gather_probe.Goals as goal

pub gather-requires : goal.gather-requires
gather-requires g c = may_gather c.args.world.now c.args.inquiry c.args.key c.requires.asks.0 c.requires.asks.1 c.requires.through

pub parts_of-found-requires : goal.parts_of-found-requires
parts_of-found-requires g c = is_of_key c.args.world.now c.gather.new.self c.args.inquiry c.args.key c.requires.asks.0 c.in-Ok.gathered c.requires.asks.1 c.in-Ok.ensures.ok

pub tell-requires : goal.tell-requires
tell-requires g c = was_told (found_told c.args.world.now c.gather.new.self c.args.inquiry c.args.key c.requires.asks.0 c.in-Ok.gathered c.parts_of-found.result.0 c.parts_of-found.result.1 c.requires.asks.1 c.parts_of-found.ensures c.in-Ok.ensures.ok)

pub returns-in-Ok-clause-kept : goal.returns-in-Ok-clause-kept
returns-in-Ok-clause-kept g c = (gather_told _ 0 c.args.world.now c.gather.new.self c.tell.new.self c.args.inquiry c.args.key c.requires.asks.0 (op.Probed c.args.key c.parts_of-found.result.0) c.requires.asks.1 c.requires.kept c.in-Ok.ensures.step (found_told c.args.world.now c.gather.new.self c.args.inquiry c.args.key c.requires.asks.0 c.in-Ok.gathered c.parts_of-found.result.0 c.parts_of-found.result.1 c.requires.asks.1 c.parts_of-found.ensures c.in-Ok.ensures.ok) c.tell.ensures.step).kept

pub returns-in-Ok-clause-last_proposer : goal.returns-in-Ok-clause-last_proposer
returns-in-Ok-clause-last_proposer g c = (gather_told _ 0 c.args.world.now c.gather.new.self c.tell.new.self c.args.inquiry c.args.key c.requires.asks.0 (op.Probed c.args.key c.parts_of-found.result.0) c.requires.asks.1 c.requires.kept c.in-Ok.ensures.step (found_told c.args.world.now c.gather.new.self c.args.inquiry c.args.key c.requires.asks.0 c.in-Ok.gathered c.parts_of-found.result.0 c.parts_of-found.result.1 c.requires.asks.1 c.parts_of-found.ensures c.in-Ok.ensures.ok) c.tell.ensures.step).last_proposer

pub returns-in-Ok-clause-told : goal.returns-in-Ok-clause-told
returns-in-Ok-clause-told g c most = subst (IsToldIn (asked_for c.args.inquiry c.args.key) IsAskingHarm most c.args.world.now c.tell.new.self) (sym c.tell.ensures.same) (gather_told _ most c.args.world.now c.gather.new.self c.tell.new.self c.args.inquiry c.args.key c.requires.asks.0 (op.Probed c.args.key c.parts_of-found.result.0) c.requires.asks.1 c.requires.kept c.in-Ok.ensures.step (found_told c.args.world.now c.gather.new.self c.args.inquiry c.args.key c.requires.asks.0 c.in-Ok.gathered c.parts_of-found.result.0 c.parts_of-found.result.1 c.requires.asks.1 c.parts_of-found.ensures c.in-Ok.ensures.ok) c.tell.ensures.step).does.0

pub returns-in-Ok-clause-answer : goal.returns-in-Ok-clause-answer
returns-in-Ok-clause-answer g c members has = subst (IsProbeAnswer c.args.key members) (sym c.tell.ensures.same) (gather_told _ 0 c.args.world.now c.gather.new.self c.tell.new.self c.args.inquiry c.args.key members (op.Probed c.args.key c.parts_of-found.result.0) has c.requires.kept c.in-Ok.ensures.step (found_told c.args.world.now c.gather.new.self c.args.inquiry c.args.key members c.in-Ok.gathered c.parts_of-found.result.0 c.parts_of-found.result.1 has c.parts_of-found.ensures c.in-Ok.ensures.ok) c.tell.ensures.step).does.1

pub returns-in-Ok-clause-silent : goal.returns-in-Ok-clause-silent
returns-in-Ok-clause-silent g c harms has =
    subst (IsSilentAtMost harms) (sym c.tell.ensures.same) (gather_silent _ c.args.world.now c.gather.new.self c.args.inquiry c.args.key c.requires.asks.0 (op.Probed c.args.key c.parts_of-found.result.0) c.requires.asks.1 c.in-Ok.ensures.step (found_told c.args.world.now c.gather.new.self c.args.inquiry c.args.key c.requires.asks.0 c.in-Ok.gathered c.parts_of-found.result.0 c.parts_of-found.result.1 c.requires.asks.1 c.parts_of-found.ensures c.in-Ok.ensures.ok) c.in-Ok.ensures.steady harms has)

pub returns-in-Err-clause-kept : goal.returns-in-Err-clause-kept
returns-in-Err-clause-kept g c = (gather_told _ 0 c.args.world.now c.gather.new.self c.tell-in-Err.new.self c.args.inquiry c.args.key c.requires.asks.0 c.in-Err.told c.requires.asks.1 c.requires.kept c.in-Err.ensures.step c.in-Err.ensures.err c.tell-in-Err.ensures.step).kept

pub returns-in-Err-clause-last_proposer : goal.returns-in-Err-clause-last_proposer
returns-in-Err-clause-last_proposer g c = (gather_told _ 0 c.args.world.now c.gather.new.self c.tell-in-Err.new.self c.args.inquiry c.args.key c.requires.asks.0 c.in-Err.told c.requires.asks.1 c.requires.kept c.in-Err.ensures.step c.in-Err.ensures.err c.tell-in-Err.ensures.step).last_proposer

pub returns-in-Err-clause-told : goal.returns-in-Err-clause-told
returns-in-Err-clause-told g c most = subst (IsToldIn (asked_for c.args.inquiry c.args.key) IsAskingHarm most c.args.world.now c.tell-in-Err.new.self) (sym c.tell-in-Err.ensures.same) (gather_told _ most c.args.world.now c.gather.new.self c.tell-in-Err.new.self c.args.inquiry c.args.key c.requires.asks.0 c.in-Err.told c.requires.asks.1 c.requires.kept c.in-Err.ensures.step c.in-Err.ensures.err c.tell-in-Err.ensures.step).does.0

pub returns-in-Err-clause-answer : goal.returns-in-Err-clause-answer
returns-in-Err-clause-answer g c members has = subst (IsProbeAnswer c.args.key members) (sym c.tell-in-Err.ensures.same) (gather_told _ 0 c.args.world.now c.gather.new.self c.tell-in-Err.new.self c.args.inquiry c.args.key members c.in-Err.told has c.requires.kept c.in-Err.ensures.step c.in-Err.ensures.err c.tell-in-Err.ensures.step).does.1

pub returns-in-Err-clause-silent : goal.returns-in-Err-clause-silent
returns-in-Err-clause-silent g c harms has = subst (IsSilentAtMost harms) (sym c.tell-in-Err.ensures.same) (gather_silent _ c.args.world.now c.gather.new.self c.args.inquiry c.args.key c.requires.asks.0 c.in-Err.told c.requires.asks.1 c.in-Err.ensures.step c.in-Err.ensures.err c.in-Err.ensures.steady harms has)

pub returns-in-Ok-clause-truly : goal.returns-in-Ok-clause-truly
returns-in-Ok-clause-truly g c many asked_then = record {
  probed = λ shelves disks.
      subst (IsTrueProbe (take many c.tell.new.self.marks) c.tell.new.self.marks) (sym c.tell.ensures.same)
      (gather_truly _ c.args.world.now c.gather.new.self c.tell.new.self c.args.inquiry c.args.key c.requires.asks.0 (op.Probed c.args.key c.parts_of-found.result.0) c.requires.asks.1 c.in-Ok.ensures.step (found_told c.args.world.now c.gather.new.self c.args.inquiry c.args.key c.requires.asks.0 c.in-Ok.gathered c.parts_of-found.result.0 c.parts_of-found.result.1 c.requires.asks.1 c.parts_of-found.ensures c.in-Ok.ensures.ok) c.tell.ensures.step c.in-Ok.ensures.steady shelves disks many asked_then);
  agreed = λ read.
      subst (λ (a : OpAnswer). IsAgreedSo g.S.Shelf.tells g.V.Disk.tells c.tell.new.self.marks a c.parts_of-found.result.1) (sym c.tell.ensures.same)
      (gather_agrees _ c.args.world.now c.gather.new.self c.tell.new.self c.args.inquiry c.args.key c.requires.asks.0 c.in-Ok.gathered c.parts_of-found.result.0 c.parts_of-found.result.1 c.requires.asks.1 c.parts_of-found.ensures c.in-Ok.ensures.ok c.in-Ok.ensures.step c.tell.ensures.step c.in-Ok.ensures.steady read);
  read = λ shelves disks.
      subst (λ (a : OpAnswer). IsTrueRead (take many c.tell.new.self.marks) c.tell.new.self.marks a c.parts_of-found.result.1) (sym c.tell.ensures.same)
      (gather_reads _ c.args.world.now c.gather.new.self c.tell.new.self c.args.inquiry c.args.key c.requires.asks.0 c.in-Ok.gathered c.parts_of-found.result.0 c.parts_of-found.result.1 c.requires.asks.1 c.parts_of-found.ensures c.in-Ok.ensures.ok c.in-Ok.ensures.step c.tell.ensures.step c.in-Ok.ensures.steady shelves disks many asked_then);
}

pub returns-in-Err-clause-truly : goal.returns-in-Err-clause-truly
returns-in-Err-clause-truly g c many asked_then = record {
  probed = λ shelves disks.
      subst (IsTrueProbe (take many c.tell-in-Err.new.self.marks) c.tell-in-Err.new.self.marks) (sym c.tell-in-Err.ensures.same)
      (gather_truly _ c.args.world.now c.gather.new.self c.tell-in-Err.new.self c.args.inquiry c.args.key c.requires.asks.0 c.in-Err.told c.requires.asks.1 c.in-Err.ensures.step c.in-Err.ensures.err c.tell-in-Err.ensures.step c.in-Err.ensures.steady shelves disks many asked_then);
  agreed = λ read.
      subst (λ (a : OpAnswer). IsAgreedSo g.S.Shelf.tells g.V.Disk.tells c.tell-in-Err.new.self.marks a None) (sym c.tell-in-Err.ensures.same)
      (stopped_agrees g.S.Shelf.tells g.V.Disk.tells c.tell-in-Err.new.self.marks c.in-Err.told None (c.in-Err.ensures.stopped (may_gather_members c.args.world.now c.args.inquiry c.args.key c.requires.asks.0 c.requires.asks.1 c.requires.through)));
  read = λ shelves disks.
      none_reads (take many c.tell-in-Err.new.self.marks) c.tell-in-Err.new.self.marks c.tell-in-Err.result;
}
