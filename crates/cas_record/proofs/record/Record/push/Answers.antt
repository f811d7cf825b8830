use Rattle.std.proofs.Common.{◌≡◌, ◌+◌, ◌-◌, ◌<◌, ◌++◌, ◌∷◌, [], ℕ, List, subst, sym, ap, arith, ◌∙◌}
use Rattle.cas_record.specs.Book.{Book}
use Rattle.cas_record.specs.declared.mark.Mark.{Mark}
use Rattle.cas_record.specs.Kept.Tables.{IsTablesOf, HasRoomFor}
use Rattle.cas_record.proofs.«record».Record.push.Goals as goal

pub invariant_of-self : goal.invariant_of-self
invariant_of-self c =
    let kept = c.self.invariant in
    let room_is = ap (λ (b : Book). b.room) c.self.view_is in
    let some : 0 < c.self.inside.room = omega (arith, c.requires, room_is) in
    let one_less : c.self.inside.room ≡ c.self.inside.room - 1 + 1 = omega (arith, some) in (
      subst (IsTablesOf c.note.new.self) (ap (λ (ms : List Mark). ms ++ c.args.mark ∷ []) c.deref.ensures.value ∙ sym c.push_reserved.ensures.items) c.note.ensures.tables,
      c.note.ensures.room (c.self.inside.room - 1) (subst (λ (n : ℕ). HasRoomFor n c.self.inside.tables) one_less kept.1),
      omega (arith, kept.2, some, c.push_reserved.ensures.len, c.push_reserved.ensures.capacity),
    )
