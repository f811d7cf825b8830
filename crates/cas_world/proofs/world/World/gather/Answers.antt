use Rattle.std.proofs.Common.{◌≡◌, None, Some, Option, true, false, sym, ap, subst, ◌∙◌}
use Rattle.std.specs.Option.{option_map_or}
use Rattle.std.specs.Prelude.{is_some, option_map}
use Rattle.cas_model.specs.Council.{ExchangeView}
use Rattle.cas_model.specs.Safe.{is_of_collection}
use Rattle.cas_model.specs.Step.{Step}
use Rattle.cas_model.specs.View.{View, meaning}
use Rattle.cas_world_calls.specs.Council.{exchange_view}
use Rattle.cas_world.specs.Exchanges.Exchange.{gathering_by}
use Rattle.cas_world.proofs.Collection.Gathers.{must_be_round, must_be_collected, must_be_members, some_seen}
use Rattle.cas_world.proofs.Eras.Planning.{none_there}
use Rattle.cas_world.proofs.world.World.gather.Goals as goal

pub gather_round-requires : goal.gather_round-requires
gather_round-requires g c = must_be_round c.args.self.now (sym (ap (λ (v : (View g.row.S.Denot g.row.V.Denot)). v.council.exchange) c.self.view_is) ∙ ap (option_map exchange_view) (none_there c.self.inside.council.exchange c.if-is_none.ensures)) c.requires

pub returns-then-is_none-clause-step : goal.returns-then-is_none-clause-step
returns-then-is_none-clause-step g c =
    let none : c.args.self.now.council.exchange ≡ None =
    sym (ap (λ (v : (View g.row.S.Denot g.row.V.Denot)). v.council.exchange) c.self.view_is) ∙ ap (option_map exchange_view) (none_there c.self.inside.council.exchange c.if-is_none.ensures) in
    subst (λ (o : Option ExchangeView). Step (meaning g.S.Shelf g.V.Disk) c.args.self.now (gathering_by o) c.gather_round.new.self) (sym none) c.gather_round.ensures.step

pub gather_collection-requires : goal.gather_collection-requires
gather_collection-requires g c =
    must_be_collected c.args.self.now (sym (ap (λ (v : (View g.row.S.Denot g.row.V.Denot)). option_map_or (λ e. is_of_collection e.question) v.council.exchange false) c.self.view_is) ∙ sym c.asks_for_collection.ensures ∙ c.if-asks_for_collection.true) c.requires

pub gather_members-requires : goal.gather_members-requires
gather_members-requires g c = record {
  may =
      must_be_members c.args.self.now (sym (ap (λ (v : (View g.row.S.Denot g.row.V.Denot)). is_some v.council.exchange) c.self.view_is) ∙ some_seen c.self.inside.council.exchange c.if-is_none.ensures)
      (sym (ap (λ (v : (View g.row.S.Denot g.row.V.Denot)). option_map_or (λ e. is_of_collection e.question) v.council.exchange false) c.self.view_is) ∙ sym c.asks_for_collection.ensures ∙ c.if-asks_for_collection.false) c.requires;
}

pub returns-then-is_none-clause-removed : goal.returns-then-is_none-clause-removed
returns-then-is_none-clause-removed g c shelves disks exchange collection is_open asks is_collection at_end =
    let none : c.args.self.now.council.exchange ≡ None =
    sym (ap (λ (v : (View g.row.S.Denot g.row.V.Denot)). v.council.exchange) c.self.view_is) ∙ ap (option_map exchange_view) (none_there c.self.inside.council.exchange c.if-is_none.ensures) in
    let e : None ≡ Some exchange = sym none ∙ is_open in
    absurd (cc e)

pub returns-clause-removed : goal.returns-clause-removed
returns-clause-removed g c shelves disks exchange collection is_open asks is_collection at_end =
    let other : option_map_or (λ e. is_of_collection e.question) c.args.self.now.council.exchange false ≡ false =
    sym (ap (λ (v : (View g.row.S.Denot g.row.V.Denot)). option_map_or (λ e. is_of_collection e.question) v.council.exchange false) c.self.view_is) ∙ sym c.asks_for_collection.ensures ∙ c.if-asks_for_collection.false in
    let e : true ≡ false = sym asks ∙ sym (ap (λ (o : Option ExchangeView). option_map_or (λ x. is_of_collection x.question) o false) is_open) ∙ other in
    absurd (cc e)

pub returns-then-is_none-clause-stopped : goal.returns-then-is_none-clause-stopped
returns-then-is_none-clause-stopped g c may =
    let none : c.args.self.now.council.exchange ≡ None =
    sym (ap (λ (v : (View g.row.S.Denot g.row.V.Denot)). v.council.exchange) c.self.view_is) ∙ ap (option_map exchange_view) (none_there c.self.inside.council.exchange c.if-is_none.ensures) in
    let e : None ≡ Some may.exchange = sym none ∙ may.is_open in
    absurd (cc e)

pub returns-then-asks_for_collection-clause-stopped : goal.returns-then-asks_for_collection-clause-stopped
returns-then-asks_for_collection-clause-stopped g c may =
    let asks : option_map_or (λ e. is_of_collection e.question) c.args.self.now.council.exchange false ≡ true =
    sym (ap (λ (v : (View g.row.S.Denot g.row.V.Denot)). option_map_or (λ e. is_of_collection e.question) v.council.exchange false) c.self.view_is) ∙ sym c.asks_for_collection.ensures ∙ c.if-asks_for_collection.true in
    let e : true ≡ false = sym asks ∙ ap (λ (o : Option ExchangeView). option_map_or (λ x. is_of_collection x.question) o false) may.is_open ∙ may.beside in
    absurd (cc e)
