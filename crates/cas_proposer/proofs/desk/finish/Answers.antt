use Rattle.std.proofs.Common.{sym}
use Rattle.cas_cache.specs.Cache.{promises_of}
use Rattle.cas_proposer.proofs.DeskLemmas.{kept_first}
use Rattle.cas_proposer.proofs.desk.finish.Goals as goal

pub returns-in-Some-kept-clause-promises : goal.returns-in-Some-kept-clause-promises
returns-in-Some-kept-clause-promises g c =
    kept_first c.args.round c.args.kept c.in-Some-kept.ready (promises_of c.args.cache.now) (promises_of c.keep.new.self) c.in-Some-kept.is (sym c.if-may_keep.ensures) c.requires.out c.keep.ensures.promises
