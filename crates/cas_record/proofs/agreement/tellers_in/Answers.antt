use Rattle.std.proofs.Common.{ap, ◌∙◌, arith}
use Rattle.std.proofs.lemmas.List.{take_all}
use Rattle.cas_record.specs.Agreement.{tells_in, acceptors_where}
use Rattle.cas_record.proofs.Agreements.{none_where, acceptors_more}
use Rattle.cas_record.proofs.agreement.tellers_in.Goals as goal

pub loop-probe-init : goal.loop-probe-init
loop-probe-init c = c.new-members.ensures ∙ none_where (tells_in c.args.number c.args.ballot) c.args.found.now

pub loop-probe-preserved : goal.loop-probe-preserved
loop-probe-preserved c =
    rw (c.add_if.ensures, c.tells_in-passes.ensures, c.loop-probe.invariant)
    (acceptors_more (tells_in c.args.number c.args.ballot) c.args.found.now c.loop-probe.probe-index c.probe-item.result (omega arith) c.probe-item.is)

pub returns : goal.returns
returns c = c.loop-probe.invariant ∙ ap (acceptors_where (tells_in c.args.number c.args.ballot)) (take_all c.loop-probe.probe-index c.args.found.now (omega arith))
