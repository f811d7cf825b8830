-- The key that is to be proposed anew next, and how a listing goes on.
use Rattle.std.proofs.Common.{◌≡◌, ℕ, Bool, true, false, List, Option, None, Some, Result, Ok, Err, refl, sym, ap, subst, ◌∙◌}
use Rattle.std.specs.Prelude.{if◌then◌else◌, IfSome, option_map, slice_get}
use Rattle.cas_members.specs.Plan.{next_of}
use Rattle.cas_members.specs.declared.plan.PlanStep.{PlanStep}
use Rattle.cas_members.specs.declared.plan.PlanStep.TheVariants.{Settle, Enter, Finished}
use Rattle.cas_quorum.specs.declared.era.Era.{Era}
use Rattle.cas_record.specs.declared.answer.Answer.{Answer}
use Rattle.cas_record.specs.declared.operator.OpAnswer.{OpAnswer}
use Rattle.cas_record.specs.declared.operator.OpAnswer.TheVariants as op
use Rattle.cas_record.specs.declared.operator.Probe.{Probe as Answered}
use Rattle.cas_model.specs.Council as cluster
use Rattle.cas_model.specs.Council.{ExchangeView, ListingView, PlanView}
use Rattle.cas_model.specs.Eras.Listings.{why_short}
use Rattle.cas_model.specs.Calls.Step.{IsRescan}
use Rattle.cas_model.proofs.Places.{some_is}
use Rattle.cas_world_calls.specs.Council.{first_where, RescanIsDue, EraIsListed, IsOfKeys, GoesOnBy, GathersAs, listed_with, over_with, crashed, probed, lists, is_short, no_memory}
use Rattle.cas_world_calls.specs.Council as council
use Rattle.cas_world_calls.specs.declared.council.Gathered.{Gathered}

-- it is the first of a complete listing of the era that is to be settled
pub record IsFirstListed (step : PlanStep) (listed : Option ListingView) (key : List ℕ) : Type 0 where
  pub settles : step ≡ Settle
  pub listing : ListingView
  pub is_listing : listed ≡ Some listing
  pub complete : listing.complete ≡ true
  pub first : slice_get listing.keys 0 ≡ Some key

first_is : (listing : ListingView) (complete : Bool) (key : List ℕ) → listing.complete ≡ complete → (if complete then slice_get listing.keys 0 else None) ≡ Some key
    → IsFirstListed Settle (Some listing) key
first_is listing true key whole is = record { settles = refl; listing = listing; is_listing = refl; complete = whole; first = is }
first_is listing false key whole is = absurd (cc is)

pub due_first : (step : PlanStep) (listed : Option ListingView) (key : List ℕ) → first_where step listed ≡ Some key → IsFirstListed step listed key
due_first Settle None key is = absurd (cc is)
due_first Settle (Some listing) key is = first_is listing listing.complete key refl is
due_first (Enter era) listed key is = absurd (cc is)
due_first Finished listed key is = absurd (cc is)

-- caller 0 proposes it anew
pub rescan_of : (old : cluster.Council) (id : ℕ) (key : List ℕ) → id ≡ 0 → (due : RescanIsDue old key) → IsRescan old id key
rescan_of old id key by due =
    let first = due_first (next_of due.plan.progress.left) due.plan.listing key due.due in record {
      by_operator = by;
      order = due.order;
      is_open = due.is_open;
      plan = due.plan;
      is_plan = due.is_plan;
      is_for = due.is_for;
      settles = first.settles;
      listing = first.listing;
      is_listing = first.is_listing;
      complete = first.complete;
      first = first.first;
    }

-- ---- what came of a question for keys
-- what is made of something comes from something
pub made_from : {A B : Type 0} (f : A → B) (o : Option A) (y : B) → option_map f o ≡ Some y → (x : A) × (o ≡ Some x) × (f x ≡ y)
made_from f None y is = absurd (cc is)
made_from f (Some x) y is = (x, refl, some_is is)

pub made_none : {A B : Type 0} (f : A → B) (o : Option A) → option_map f o ≡ None → o ≡ None
made_none f None is = refl
made_none f (Some x) is = absurd (cc is)

-- the listing that has begun
abbrev pub listing_at : (under_way : Option PlanView) (plan : PlanView) (listing : ListingView) → EraIsListed under_way → under_way ≡ Some plan → plan.listing ≡ Some listing → EraIsListed under_way
listing_at under_way plan listing was is_plan is_listing =
    record { plan = plan; is_plan = is_plan; settles = ap (λ (p : PlanView). next_of p.progress.left) (some_is (sym is_plan ∙ was.is_plan)) ∙ was.settles; listing = listing; is_listing = is_listing }

pub keys_gathered : (era : Era) (exchange : ExchangeView) (old new : cluster.Council) (plan now : PlanView) (listing : ListingView) (found : Gathered) → EraIsListed old.plan → old.plan ≡ Some plan → plan.listing ≡ Some listing
    → exchange.crashed ≡ false → IsOfKeys exchange.question → GoesOnBy era exchange.told listing plan (Ok found) now → new ≡ listed_with old now → GathersAs era exchange old (Ok found) new
keys_gathered era exchange old new plan now listing found was is_plan is_listing up keys (council.lists next enough on less result is) view =
    lists (listing_at old.plan plan listing was is_plan is_listing) next up keys enough on less (cc result) (view ∙ ap (listed_with old) is)
keys_gathered era exchange old new plan now listing found was is_plan is_listing up keys (council.is_short short missing result is) view = absurd (cc result)

pub keys_missed : (era : Era) (exchange : ExchangeView) (old new : cluster.Council) (plan now : PlanView) (listing : ListingView) (short : Answer) → EraIsListed old.plan → old.plan ≡ Some plan → plan.listing ≡ Some listing
    → exchange.crashed ≡ false → IsOfKeys exchange.question → GoesOnBy era exchange.told listing plan (Err short) now → new ≡ over_with (record old { plan = Some now }) (op.Stopped short) → GathersAs era exchange old (Err (op.Stopped short)) new
keys_missed era exchange old new plan now listing short was is_plan is_listing up keys (council.lists next enough on less result is) view = absurd (cc result)
keys_missed era exchange old new plan now listing short was is_plan is_listing up keys (council.is_short of missing result is) view =
    let same : short ≡ why_short exchange.told of = cc result in
    is_short (listing_at old.plan plan listing was is_plan is_listing) of up keys missing (ap (λ (a : Answer). Err (op.Stopped a)) same)
    (view ∙ ap (λ (p : PlanView). over_with (record old { plan = Some p }) (op.Stopped short)) is ∙ ap (λ (o : Option PlanView). over_with (record old { plan = o }) (op.Stopped short)) (sym is_plan) ∙ ap (λ (a : Answer). over_with old (op.Stopped a)) same)

-- what the change of membership made of it
pub gone_on : (under_way : Option PlanView) (plan now : PlanView) (era : Era) (told : List Answered) (result : Result Gathered Answer) → EraIsListed under_way → under_way ≡ Some plan → IfSome plan.listing (λ listing. GoesOnBy era told listing plan result now)
    → (listing : ListingView) × (plan.listing ≡ Some listing) × GoesOnBy era told listing plan result now
gone_on under_way plan now era told result was is_plan by =
    let is_listing = ap (λ (p : PlanView). p.listing) (some_is (sym is_plan ∙ was.is_plan)) ∙ was.is_listing in
    (was.listing, is_listing, subst (λ (o : Option ListingView). IfSome o (λ listing. GoesOnBy era told listing plan result now)) is_listing by)

-- whatever exchange stands in the council
pub gathers_from : (era : Era) (exchange : ExchangeView) (old new : cluster.Council) (other : Option ExchangeView) (result : Result Gathered OpAnswer) → GathersAs era exchange (record old { exchange = other }) result new → GathersAs era exchange old result new
gathers_from era exchange old new other result (crashed down told next) = crashed down told next
gathers_from era exchange old new other result (probed key found kept up question plain has keeps told next) = probed key found kept up question plain has keeps told next
gathers_from era exchange old new other result (lists of listing up keys enough on less told next) = lists of listing up keys enough on less told next
gathers_from era exchange old new other result (is_short of short up keys missing told next) = is_short of short up keys missing told next
gathers_from era exchange old new other result (no_memory up told next) = no_memory up told next
