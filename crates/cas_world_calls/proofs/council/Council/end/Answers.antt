use Rattle.std.proofs.Common.{◌≡◌, ◌∙◌, Option, Some, sym, ap, subst}
use Rattle.std.specs.Prelude.{IfSome, option_map}
use Rattle.cas_model.specs.Council.{ListingView, PlanView}
use Rattle.cas_model.specs.Calls.Step.{rescans, rescanned_by, IsRescan}
use Rattle.cas_model.proofs.Places.{some_is}
use Rattle.cas_world_calls.specs.Council.{council_view, plan_view, RescanIsDue}
use Rattle.cas_world_calls.proofs.Listed.{rescan_of}
use Rattle.cas_world_calls.proofs.council.Council.end.Goals as goal

pub returns-in-Some-clause-rescans : goal.returns-in-Some-clause-rescans
returns-in-Some-clause-rescans c =
    let due : RescanIsDue (council_view c.args.self.now) c.args.key.now = c.is_due.ensures.due c.if-not-is_due.false in
    let of : IsRescan (council_view c.args.self.now) c.args.caller c.args.key.now = rescan_of (council_view c.args.self.now) c.args.caller c.args.key.now c.if-caller-ne0.false due in
    let one : plan_view c.in-Some.plan ≡ of.plan = some_is (sym (ap (option_map plan_view) c.in-Some.is) ∙ of.is_plan) in
    rescans of (sym c.is_done.ensures ∙ c.if-not-is_done.false)
    (ap (λ (p : PlanView). record (council_view c.args.self.now) { plan = Some p })
    (subst (λ (o : Option ListingView). IfSome o (λ listing. plan_view c.rescan.new.self ≡ rescanned_by (plan_view c.in-Some.plan) listing)) (ap (λ (p : PlanView). p.listing) one ∙ of.is_listing) c.rescan.ensures
    ∙ ap (λ (p : PlanView). rescanned_by p of.listing) one))
