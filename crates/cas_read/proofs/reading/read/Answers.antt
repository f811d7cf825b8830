use Rattle.std.proofs.Common.{sym, subst}
use Rattle.cas_record.specs.declared.read_answer.ReadAnswer.{ReadAnswer}
use Rattle.cas_read.specs.Read.{IsAnswerSo}
use Rattle.cas_read.proofs.Floors.{look_floorless}
use Rattle.cas_read.proofs.Refused.{refused_read}
use Rattle.cas_read.proofs.Values.{answered, look_so}
use Rattle.cas_read.proofs.reading.read.Goals as goal

pub returns-in_default-clause-reads : goal.returns-in_default-clause-reads
returns-in_default-clause-reads g c = refused_read g.D.Disk.tells c.args.key.now (g.F.Fate.harm_count c.args.fate.now) c.args.pass.now

pub returns-in-Ok-look-clause-reads : goal.returns-in-Ok-look-clause-reads
returns-in-Ok-look-clause-reads g c = record {
  looked = c.look.result;
  is = answered c.args.key.now c.in-Ok.named c.look.result c.in-Ok-look.field-0 c.of.result c.in-Ok.ensures c.in-Ok-look.is c.of.ensures;
  operates = c.look.ensures.operates;
  names = c.look.ensures.answer;
  silent = c.look.ensures.silent;
  found = c.look.ensures.truly;
  agrees = c.look.ensures.agreed;
}

pub returns-in-Ok-look-clause-truly : goal.returns-in-Ok-look-clause-truly
returns-in-Ok-look-clause-truly g c tells =
    let floorless = look_floorless c.args.key.now (g.F.Fate.harm_count c.args.fate.now) (g.F.Fate.harm_count c.look.new.fate) c.args.pass.now c.look.new.pass c.look.result _ c.requires.operator c.in-Ok-look.is c.look.ensures.operates in
    subst (λ (a : ReadAnswer). IsAnswerSo c.args.pass.now.seen c.look.new.pass.seen a) (sym (answered c.args.key.now c.in-Ok.named c.look.result c.in-Ok-look.field-0 c.of.result c.in-Ok.ensures c.in-Ok-look.is c.of.ensures))
    (look_so g.D.Disk.tells c.args.pass.now.seen c.look.new.pass.seen c.args.key.now floorless.0 floorless.1 c.look.result c.look.ensures.agreed (c.look.ensures.reads tells))
