use Rattle.cas_restore.specs.Restored.{slots_of}
use Rattle.cas_restore.proofs.Towards.{towards_then}
use Rattle.cas_restore.proofs.shelf.restore.Goals as goal

pub returns-clause-towards : goal.returns-clause-towards
returns-clause-towards g c =
    towards_then g.S.Shelf.tells g.S.Shelf.contents g.S.Shelf.may_leave (slots_of c.args.slots.now) c.args.shelf.now c.drop_others.new.shelf c.put_all.new.shelf
    c.drop_others.ensures.towards c.put_all.ensures.towards
