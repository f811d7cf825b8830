use Rattle.std.proofs.Common.{◌≡◌, suc, arith, length, Some, subst}
use Rattle.cas_record.specs.Histories.Chain.{chain_of}
use Rattle.cas_audit.specs.Told.{Reaches}
use Rattle.cas_audit.proofs.Walks.{reach_first}
use Rattle.cas_audit.proofs.tables.Tables.front_of.Goals as goal

pub loop-step-init : goal.loop-step-init
loop-step-init c = λ marks left audit long_is left_is.
    let key = c.args.key.now in
    let entries = chain_of key c.args.ballot marks in
    let all : length entries ≡ left = omega (arith, long_is, left_is) in
    subst (Reaches key (Some c.args.ballot) marks entries) all (reach_first key c.args.ballot marks)

pub loop-step-preserved : goal.loop-step-preserved
loop-step-preserved c = λ marks left audit long_is left_is.
    let key = c.args.key.now in
    let entries = chain_of key c.args.ballot marks in
    c.in_ok-found.ensures marks audit entries left (c.loop-step.invariant marks (suc left) audit long_is (omega (arith, left_is)))

pub returns : goal.returns
returns c = λ marks audit long_is. c.loop-step.invariant marks c.args.count audit long_is (omega arith)
