use Rattle.std.proofs.Common.{ap, ◌∙◌, sym, ◌≡◌, subst, All}
use Rattle.std.specs.Prelude.{Some, None}
use mathlib.Core.Option.{some-injective}
use Rattle.cas_turn.specs.declared.view.Known.{Known}
use Rattle.cas_turn.specs.Seen.{HasSeenOwn}
use Rattle.cas_turn.specs.Steps.{Sat, them_of}
use Rattle.cas_turn.proofs.Parting.{closes_at}
use Rattle.cas_turn.proofs.turn.closing.value_at_home.Goals as goal

pub unreachable-requires : goal.unreachable-requires
unreachable-requires g c =
    let h = closes_at g.V.Grows.list g.V.Grows.owner g.V.Grows.part g.V.Grows.seats c.args.board.shared.key.seats _ _ _ _ (ap (λ (m : Sat g.row.V.Denot g.row.V-Item.Denot). m.0) c.requires.gathers) c.requires.all c.close_with-closed.ensures.values.2 in
    let v : g.row.V.Denot = h.0 in
    let same : c.take-home.result ≡ Some v = some-injective _ _ (sym c.take-home.ensures.value ∙ h.1) in
    let no : None ≡ Some v = sym c.in_default.is ∙ same in cc

pub returns : goal.returns
returns g c =
    let h = closes_at g.V.Grows.list g.V.Grows.owner g.V.Grows.part g.V.Grows.seats c.args.board.shared.key.seats _ _ _ _ (ap (λ (m : Sat g.row.V.Denot g.row.V-Item.Denot). m.0) c.requires.gathers) c.requires.all c.close_with-closed.ensures.values.2 in
    let v : g.row.V.Denot = h.0 in
    let same : c.take-home.result ≡ Some v = some-injective _ _ (sym c.take-home.ensures.value ∙ h.1) in
    let are : Some v ≡ Some c.in-Some.value = sym same ∙ c.in-Some.is in
    let is : v ≡ c.in-Some.value = cc in
    record {
      seats = subst (λ (x : g.row.V.Denot). g.V.Grows.seats x ≡ c.args.board.shared.key.seats) is h.2;
      them = subst (λ (x : g.row.V.Denot). All (λ (k : Known g.row.V-Item.Denot). HasSeenOwn g.V.Grows.owner k.number k.seen (g.V.Grows.list x) × (g.V.Grows.part x k.number ≡ k.own)) (them_of c.args.gatherer.me.0)) is h.3;
    }
