use Rattle.std.proofs.Common.{◌≡◌, ◌-◌, ◌+◌, ◌∷◌, min, length, take, drop, arith, refl, sym, ◌∙◌, ap, subst, List, ℕ}
use Rattle.std.proofs.lemmas.Grind.{common_steps}
use Rattle.cas_disk.specs.Medium.{undone, IsImage, MayLeave, LeftSince}
use Rattle.cas_disk.specs.Disk.{Elapses}
use Rattle.cas_disk.specs.declared.medium.Write.{Write}
use Rattle.cas_disk.specs.declared.medium.Epoch.{Epoch}
use Rattle.cas_disk.proofs.Tearing.{Keeping, overwritten, written_all_fit, written_undone}
use Rattle.cas_disk.proofs.Epochs.{elapses_write, elapses_after}
use Rattle.cas_disk.proofs.medium.Medium.write.Goals as goal

pub invariant_of-self-2 : goal.invariant_of-self-2
invariant_of-self-2 c =
    let bytes = c.args.self.now.bytes.items in
    let pending = c.args.self.now.pending.items in
    let w : Write = record { at = c.args.at; len = length c.args.piece.now; old = c.in_ok-old.old } in
    let stood : c.in_ok-old.old.items ≡ take ((c.args.at + min (length c.args.piece.now) (length bytes - c.args.at)) - c.args.at) (drop c.args.at bytes) = grind (arith, common_steps) in
    let kept : Keeping w bytes c.put.new.bytes.items c.args.piece.now = record { at_most_end = c.requires; long = refl; overwritten = stood ∙ overwritten bytes c.args.at (length c.args.piece.now); holds = c.in_ok-put.ensures.ok } in
    let newest : c.push_newest.new.pending.items ≡ w ∷ pending = c.push_newest.ensures ∙ ap (λ (l : List Write). w ∷ l) c.reserve-2.ensures.items in
    record {
      fit = rw newest (written_all_fit w pending bytes _ _ kept c.args.self.now.fit);
      room = λ _. grind (arith, common_steps, c.in_ok-reserve.ensures.ok);
    }

pub returns-clause-crash : goal.returns-clause-crash
returns-clause-crash c image left =
    let bytes = c.args.self.now.bytes.items in
    let pending = c.args.self.now.pending.items in
    let w : Write = record { at = c.args.at; len = length c.args.piece.now; old = c.in_ok-old.old } in
    let stood : c.in_ok-old.old.items ≡ take ((c.args.at + min (length c.args.piece.now) (length bytes - c.args.at)) - c.args.at) (drop c.args.at bytes) = grind (arith, common_steps) in
    let kept : Keeping w bytes c.put.new.bytes.items c.args.piece.now = record { at_most_end = c.requires; long = refl; overwritten = stood ∙ overwritten bytes c.args.at (length c.args.piece.now); holds = c.in_ok-put.ensures.ok } in
    let newest : c.push_newest.new.pending.items ≡ w ∷ pending = c.push_newest.ensures ∙ ap (λ (l : List Write). w ∷ l) c.reserve-2.ensures.items in
    let here = subst (λ (l : List Write). MayLeave l c.put.new.bytes.items image) newest left in
    (here.0, subst (λ (l : List ℕ). IsImage l pending here.0) (written_undone w pending bytes _ _ kept) here.1, here.2)

pub returns-clause-time : goal.returns-clause-time
returns-clause-time c =
    let bytes = c.args.self.now.bytes.items in
    let pending = c.args.self.now.pending.items in
    let past = c.args.self.now.past.items in
    let new = c.put.new.bytes.items in
    let w : Write = record { at = c.args.at; len = length c.args.piece.now; old = c.in_ok-old.old } in
    let stood : c.in_ok-old.old.items ≡ take ((c.args.at + min (length c.args.piece.now) (length bytes - c.args.at)) - c.args.at) (drop c.args.at bytes) = grind (arith, common_steps) in
    let kept : Keeping w bytes new c.args.piece.now = record { at_most_end = c.requires; long = refl; overwritten = stood ∙ overwritten bytes c.args.at (length c.args.piece.now); holds = c.in_ok-put.ensures.ok } in
    let newest : c.push_newest.new.pending.items ≡ w ∷ pending = c.push_newest.ensures ∙ ap (λ (l : List Write). w ∷ l) c.reserve-2.ensures.items in
    elapses_after c.args.self.now.forgotten past c.reserve.new.self.items pending c.push_newest.new.pending.items bytes new
    (subst (λ (ps : List Write). Elapses (length past) (length c.reserve.new.self.items) (LeftSince past pending bytes) (LeftSince c.reserve.new.self.items ps new) (MayLeave ps new)) (sym newest)
    (subst (λ (es : List Epoch). Elapses (length past) (length es) (LeftSince past pending bytes) (LeftSince es (w ∷ pending) new) (MayLeave (w ∷ pending) new)) (sym c.reserve.ensures.items)
    (elapses_write past w pending bytes new (written_undone w pending bytes _ _ kept))))

pub returns-clause-durable : goal.returns-clause-durable
returns-clause-durable c =
    let bytes = c.args.self.now.bytes.items in
    let pending = c.args.self.now.pending.items in
    let w : Write = record { at = c.args.at; len = length c.args.piece.now; old = c.in_ok-old.old } in
    let stood : c.in_ok-old.old.items ≡ take ((c.args.at + min (length c.args.piece.now) (length bytes - c.args.at)) - c.args.at) (drop c.args.at bytes) = grind (arith, common_steps) in
    let kept : Keeping w bytes c.put.new.bytes.items c.args.piece.now = record { at_most_end = c.requires; long = refl; overwritten = stood ∙ overwritten bytes c.args.at (length c.args.piece.now); holds = c.in_ok-put.ensures.ok } in
    let newest : c.push_newest.new.pending.items ≡ w ∷ pending = c.push_newest.ensures ∙ ap (λ (l : List Write). w ∷ l) c.reserve-2.ensures.items in
    ap (λ (l : List Write). undone l c.put.new.bytes.items) newest ∙ written_undone w pending bytes _ _ kept
