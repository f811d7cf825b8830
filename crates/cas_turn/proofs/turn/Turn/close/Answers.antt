use Rattle.std.proofs.Common.{◌≡◌, ap, ◌∙◌, ◌∷◌, ◌++◌, List, map, All}
use Rattle.std.proofs.lemmas.List.Elements.{All-weaker}
use Rattle.cas_turn.specs.declared.view.Known.{Known}
use Rattle.cas_turn.specs.Seen.{HasSeenOwn}
use Rattle.cas_turn.specs.Sitting.{Sitting, Turning}
use Rattle.cas_turn.specs.Steps.{known_by}
use Rattle.cas_turn.proofs.SeatedLemmas.{all_entries, them_in}
use Rattle.cas_turn.proofs.turn.Turn.close.Goals as goal

pub returns : goal.returns
returns g c =
    let first = them_in _ _ c.gather.ensures.gathers ∙ (λ i. known_by (c.gatherer_of-gatherer.ensures.seat i) ∷ them_in _ _ c.gatherer_of-gatherer.ensures.nobody i) in
    let all = them_in _ _ c.gather_all.ensures.gathers ∙ ap (λ (l : List (Known g.row.V-Item.Denot)). map known_by c.pop.new.self.items ++ l) first in
    let Seen : Sitting g.row.V.Denot g.row.V-Item.Denot → Type 0 = λ s. HasSeenOwn g.V.Grows.owner s.number s.seen (g.V.Grows.list c.value_at_home.result) in
    let Own : Sitting g.row.V.Denot g.row.V-Item.Denot → Type 0 = λ s. g.V.Grows.part c.value_at_home.result s.number ≡ s.own in
    let each : All (λ s. Seen s × Own s) c.args.seats.items = all_entries (λ (k : Known g.row.V-Item.Denot). HasSeenOwn g.V.Grows.owner k.number k.seen (g.V.Grows.list c.value_at_home.result) × (g.V.Grows.part c.value_at_home.result k.number ≡ k.own)) _ _ _ _ c.in-Some.ensures.items all c.value_at_home.ensures.them in
    record {
      seen = All-weaker (λ s. Seen s × Own s) Seen (λ s b. b.0) c.args.seats.items each;
      own = All-weaker (λ s. Seen s × Own s) Own (λ s b. b.1) c.args.seats.items each;
      seats = c.value_at_home.ensures.seats ∙ ap (λ (t : Turning). t.seats) c.self.view_is;
    }
