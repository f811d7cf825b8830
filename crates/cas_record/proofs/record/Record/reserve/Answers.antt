use Rattle.cas_record.proofs.«record».Record.reserve.Goals as goal

pub invariant_of-self : goal.invariant_of-self
invariant_of-self c =
    let kept = c.self.invariant in
    (c.reserve.ensures.same c.self.inside.marks.items kept.0, c.reserve.ensures.grows c.self.inside.room kept.1, kept.2)
