use Rattle.std.proofs.Common.{rules, ◌≡◌, length, ap, ◌∙◌}
use Rattle.std.specs.Prelude.{take}
use Rattle.cas_slot.specs.Slots.{keys_above}
use Rattle.cas_acceptor.proofs.Pages.{four_of_five, five_tell}
use Rattle.cas_acceptor.proofs.decide.listed.Goals as goal

pub returns : goal.returns
returns g c =
    let all = keys_above (g.S.Shelf.contents c.args.shelf.now).slots c.args.after.now in
    let keys : c.in_ok-keys.keys.items ≡ take 5 all = c.in_ok-keys.ensures {u = tt} ∙ ap (λ a. take 5 (keys_above (g.S.Shelf.contents c.args.shelf.now).slots a)) c.as_ref.ensures.value in (
      search rules,
      c.new.ensures ∙ (c.truncate.ensures.items ∙ (ap (take 4) keys ∙ four_of_five all)),
      five_tell c.len-more.result all (c.len-more.ensures ∙ (c.in_ok-keys.keys.ok.0 ∙ ap length keys)),
    )
