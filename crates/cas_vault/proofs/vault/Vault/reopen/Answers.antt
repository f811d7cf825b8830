use Rattle.std.proofs.Common.{◌≡◌, inr, Some, ◌∷◌, [], Option, ℕ, ◌+◌, List, ap, sym, subst, ◌∙◌, arith}
use Rattle.std.specs.Prelude.{unwrap_or}
use Rattle.cas_disk.proofs.Moments.{reread}
use Rattle.cas_cells.specs.Cells.{cells_of, disk_of}
use Rattle.cas_cells.specs.Format.{IsImageOf, narrow_in}
use Rattle.cas_cells.proofs.Places.{place_first}
use Rattle.cas_vault.specs.Codec.{spelling}
use Rattle.cas_vault.proofs.Keeping.{in_use, row_read, head_is, payload_there, place_there, past_image, same_kept}
use Rattle.cas_vault.specs.Vault.{KeptOn}
use Rattle.cas_vault.specs.declared.kept.Kept.{Kept}
use Rattle.cas_vault.proofs.vault.Vault.reopen.Goals as goal

pub returns-in-Ok-clause-any_moment : goal.returns-in-Ok-clause-any_moment
returns-in-Ok-clause-any_moment g c tells =
    reread g.V.Disk.moment g.V.Disk.left_since g.V.Disk.may_leave _ _ _ _ _ (c.forget_past.ensures.now tells) (c.forget_past.ensures.kept tells).outcomes (λ image left. g.met.V.Disk.only_now _ image tells left)
    (c.crash.ensures.time tells) (c.crash.ensures.image tells) (c.crash.ensures.settled tells) (c.recover.ensures.read tells).any_moment

pub returns-in-Err-clause-any_moment : goal.returns-in-Err-clause-any_moment
returns-in-Err-clause-any_moment g c tells =
    reread g.V.Disk.moment g.V.Disk.left_since g.V.Disk.may_leave _ _ _ _ _ (c.forget_past.ensures.now tells) (c.forget_past.ensures.kept tells).outcomes (λ image left. g.met.V.Disk.only_now _ image tells left)
    (c.crash.ensures.time tells) (c.crash.ensures.image tells) (c.crash.ensures.settled tells) (c.recover.ensures.read tells).any_moment

pub returns-in-Ok-clause-reopened : goal.returns-in-Ok-clause-reopened
returns-in-Ok-clause-reopened g c tells =
    let held = row_read (cells_of c.recover.new.self) c.in-Some.payload.now c.in-Ok.kept c.in_ok-recover.ensures.stands.row c.in-Some.ensures.held c.in-Ok.ensures.found in
    record {
      fits = c.in-Ok.ensures.found.fits;
      row = subst (λ (disk : List ℕ). IsImageOf (Some (spelling c.in-Ok.kept) ∷ []) disk) (sym (c.recover.ensures.read tells).content) (subst (λ row. IsImageOf row (g.V.Disk.seen (disk_of c.crash.new.self))) held (c.in_ok-recover.ensures.recovered tells));
    }

pub returns-in-Ok-clause-stands : goal.returns-in-Ok-clause-stands
returns-in-Ok-clause-stands g c =
    let held = row_read (cells_of c.recover.new.self) c.in-Some.payload.now c.in-Ok.kept c.in_ok-recover.ensures.stands.row c.in-Some.ensures.held c.in-Ok.ensures.found in
    in_use g.V.Disk.tells g.V.Disk.seen g.V.Disk.may_leave _ c.in_ok-recover.ensures.stands held c.in-Ok.ensures.found.fits c.in-Ok.ensures.found.fits.bound

pub returns-in-Err-clause-foreign : goal.returns-in-Err-clause-foreign
returns-in-Err-clause-foreign g c tells at is =
    let row = cells_of c.recover.new.self in
    let disk = g.V.Disk.seen (disk_of c.recover.new.self) in
    let payload = c.in-Some.payload.now in
    let stands = subst (λ (l : List ℕ). IsImageOf row l) (sym (c.recover.ensures.read tells).content) (c.in_ok-recover.ensures.recovered tells) in
    let is_row = c.in_ok-recover.ensures.stands.row in
    let there = payload_there row payload disk is_row (head_is row payload is_row c.in-Some.ensures.held) stands.same in
    let place = place_there disk payload there ∙ ap Some (sym (c.unwrap_or-place.ensures ∙ ap (λ (o : Option ℕ). unwrap_or o 0) (c.payload_place.ensures.place tells ∙ place_first (narrow_in row) 0 disk))) in
    inr (c.unwrap_or-place.result, payload, c.in-Err.wrong, stands.sound, there, place, c.in-Err.ensures.wrong, (let sum : at ≡ c.unwrap_or-place.result + c.in-Err.wrong = cc in sum))

pub returns-in-Ok-clause-past : goal.returns-in-Ok-clause-past
returns-in-Ok-clause-past g c tells n past =
    let mid = g.V.Disk.seen (disk_of c.crash.new.self) in
    let read = c.recover.ensures.read tells in
    let held = row_read (cells_of c.recover.new.self) c.in-Some.payload.now c.in-Ok.kept c.in_ok-recover.ensures.stands.row c.in-Some.ensures.held c.in-Ok.ensures.found in
    let here : KeptOn c.in-Ok.kept mid = record { fits = c.in-Ok.ensures.found.fits; row = subst (λ row. IsImageOf row mid) held (c.in_ok-recover.ensures.recovered tells) } in
    past_image g.V.Disk.may_leave c.args.self.now _ mid n ((c.forget_past.ensures.kept tells).outcomes mid (c.crash.ensures.image tells)) (λ image left. read.durable image left ∙ read.content)
    (λ kept there was bound. omega (arith, bound, ap (λ (k : Kept). k.bound) (same_kept kept c.in-Ok.kept mid there here))) past

pub returns-in-Err-clause-past : goal.returns-in-Err-clause-past
returns-in-Err-clause-past g c tells n past =
    let mid = g.V.Disk.seen (disk_of c.crash.new.self) in
    let read = c.recover.ensures.read tells in
    past_image g.V.Disk.may_leave c.args.self.now _ mid n ((c.forget_past.ensures.kept tells).outcomes mid (c.crash.ensures.image tells)) (λ image left. read.durable image left ∙ read.content) (λ kept there was bound. was) past
