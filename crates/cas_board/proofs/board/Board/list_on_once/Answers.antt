use Rattle.std.proofs.Common.{ℕ, List, sym, ap, subst, ◌∙◌}
use Rattle.std.specs.Prelude.{OnOk, IfOk, IfErr}
use Rattle.cas_world.specs.Eras.Plans.{asked_of}
use Rattle.cas_board_steps.specs.Calls.Changes.{harm_by}
use Rattle.cas_board_steps.specs.Eras.Membership.{HasListing, IsListedTo, IsPlanMark}
use Rattle.cas_board_steps.specs.Exchanges.Orders.{OperatesIn, IsToldIn}
use Rattle.cas_board.proofs.Sittings.{was_held, gives_back}
use Rattle.cas_board.proofs.Operating.{operator_part, operator_own, operator_goes_on, operator_told, operates_or_tells, on_ok, if_err}
use Rattle.cas_board.proofs.board.Board.list_on_once.Goals as goal

pub list_on-listing-requires-clause-lists : goal.list_on-listing-requires-clause-lists
list_on-listing-requires-clause-lists g c =
    subst (HasListing (asked_of c.args.target.now)) (sym (operator_part c.args.pass.now.number c.shared.inside.world c.hold-shared.result c.args.pass.now.own c.requires.operator c.shared.view_is c.hold-shared.ensures.own)) c.requires.lists

pub give_back-requires-clause-makes : goal.give_back-requires-clause-makes
give_back-requires-clause-makes g c =
    gives_back 0 c.hold-shared.result c.list_on-listing.new.world c.args.pass.now c.hold-shared.new.seat c.hold-shared.ensures.seat (sym (ap (λ s. s.number) c.hold-shared.ensures.seat ∙ c.requires.operator))
    (operates_or_tells (asked_of c.args.target.now) IsPlanMark IsPlanMark (harm_by c.args.verdict) c.hold-shared.result c.list_on-listing.new.world c.list_on-listing.result (subst (λ v. OnOk c.list_on-listing.result (OperatesIn IsPlanMark (harm_by c.args.verdict) v c.list_on-listing.new.world)) c.shared.view_is c.list_on-listing.ensures.goes_on) (subst (λ v. IfErr c.list_on-listing.result (IsToldIn (asked_of c.args.target.now) IsPlanMark (harm_by c.args.verdict) v c.list_on-listing.new.world)) c.shared.view_is c.list_on-listing.ensures.told))

pub returns-clause-goes_on : goal.returns-clause-goes_on
returns-clause-goes_on g c =
    on_ok c.list_on-listing.result (operator_goes_on c.hold-shared.result c.list_on-listing.new.world c.args.pass.now c.give_back.new.pass (was_held 0 c.hold-shared.result c.list_on-listing.new.world c.args.pass.now c.hold-shared.new.seat c.give_back.new.pass c.hold-shared.ensures.seen c.hold-shared.ensures.own c.hold-shared.ensures.seat (sym (ap (λ s. s.number) c.hold-shared.ensures.seat ∙ c.requires.operator)) c.give_back.ensures.pass) IsPlanMark (harm_by c.args.verdict)) (subst (λ v. OnOk c.list_on-listing.result (OperatesIn IsPlanMark (harm_by c.args.verdict) v c.list_on-listing.new.world)) c.shared.view_is c.list_on-listing.ensures.goes_on)

pub returns-clause-listed : goal.returns-clause-listed
returns-clause-listed g c =
    subst (λ (o : List ℕ). IfOk c.list_on-listing.result (IsListedTo (asked_of c.args.target.now) o)) (sym (operator_own c.hold-shared.result c.list_on-listing.new.world c.args.pass.now c.give_back.new.pass (was_held 0 c.hold-shared.result c.list_on-listing.new.world c.args.pass.now c.hold-shared.new.seat c.give_back.new.pass c.hold-shared.ensures.seen c.hold-shared.ensures.own c.hold-shared.ensures.seat (sym (ap (λ s. s.number) c.hold-shared.ensures.seat ∙ c.requires.operator)) c.give_back.ensures.pass))) c.list_on-listing.ensures.listed

pub returns-clause-told : goal.returns-clause-told
returns-clause-told g c =
    if_err c.list_on-listing.result (operator_told c.hold-shared.result c.list_on-listing.new.world c.args.pass.now c.give_back.new.pass (was_held 0 c.hold-shared.result c.list_on-listing.new.world c.args.pass.now c.hold-shared.new.seat c.give_back.new.pass c.hold-shared.ensures.seen c.hold-shared.ensures.own c.hold-shared.ensures.seat (sym (ap (λ s. s.number) c.hold-shared.ensures.seat ∙ c.requires.operator)) c.give_back.ensures.pass) (asked_of c.args.target.now) IsPlanMark (harm_by c.args.verdict)) (subst (λ v. IfErr c.list_on-listing.result (IsToldIn (asked_of c.args.target.now) IsPlanMark (harm_by c.args.verdict) v c.list_on-listing.new.world)) c.shared.view_is c.list_on-listing.ensures.told)
