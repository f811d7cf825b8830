-- What a key that is proposed anew does to the change of membership that is under way, and a listing that is complete.
use Rattle.std.proofs.Common.{◌≡◌, ◌<◌, ◌≤◌, ℕ, Bool, true, false, List, [], ◌∷◌, Option, None, Some, length, drop, slice_get, refl, sym, ap, subst, ◌∙◌, inl, inr, arith, length-drop}
use Rattle.std.specs.Prelude.{◌⊎◌, ◌&&◌, ◌==◌, IsSome, option_map, if◌then◌else◌}
use Rattle.cas_members.specs.declared.plan.PlanStep.{PlanStep}
use Rattle.cas_members.specs.declared.plan.PlanStep.TheVariants.{Settle, Enter, Finished}
use Rattle.cas_members.specs.Plan.{next_of}
use Rattle.cas_record.specs.declared.answer.Answer.{Answer}
use Rattle.cas_record.specs.declared.answer.Answer.TheVariants as answers
use Rattle.cas_record.specs.declared.operator.Asked.{Asked}
use Rattle.cas_record.specs.declared.operator.OpAnswer.{OpAnswer}
use Rattle.cas_record.specs.declared.operator.OpAnswer.TheVariants as op
use Rattle.cas_world_calls.specs.Council.{first_of, first_where, due_key, due_in}
use Rattle.cas_model.specs.Council.{Council, ListingView, OrderView, PlanView, stepped, with_listing, told_so}
use Rattle.cas_protocol.specs.Protocol.{is_done}
use Rattle.cas_model.specs.Calls.Step.{IsRescan, Rescans, rescans, stops, is_none, rescanned_by, one_more}
use Rattle.cas_model.specs.Exchanges.Step.{listing_in}
use Rattle.cas_model.specs.View.{View}
use Rattle.cas_model.proofs.Places.{some_is}
use Rattle.cas_world.specs.Exchanges.Exchange.{WasToldOrder}
use Rattle.cas_world.specs.Eras.Plans.{IsUnderWay}
use Rattle.casreg_script.specs.Eras.Membership.{TakesStep, left_of, steps_left, listed_in, keys_listed}
use Rattle.casreg_script.specs.Exchanges.Orders.{ExchangeGoesOn}

-- ---- the key that is due
-- it is the first of a complete listing
record IsFirstDue (plan : PlanView) (key : List ℕ) : Type 0 where
  settles : next_of plan.progress.left ≡ Settle
  listing : ListingView
  is_listing : plan.listing ≡ Some listing
  complete : listing.complete ≡ true
  first : slice_get listing.keys 0 ≡ Some key

first_is : (plan : PlanView) (key : List ℕ) → due_key plan ≡ Some key → IsFirstDue plan key
first_is plan key due = by_step (next_of plan.progress.left) refl due
  where
    by_complete : (listing : ListingView) → next_of plan.progress.left ≡ Settle → plan.listing ≡ Some listing → (complete : Bool) → listing.complete ≡ complete → (if complete then slice_get listing.keys 0 else None) ≡ Some key → IsFirstDue plan key
    by_complete listing settles is_listing true complete first = record { settles = settles; listing = listing; is_listing = is_listing; complete = complete; first = first }
    by_complete listing settles is_listing false complete first = absurd (cc first)

    by_listing : (listing : Option ListingView) → next_of plan.progress.left ≡ Settle → plan.listing ≡ listing → first_of listing ≡ Some key → IsFirstDue plan key
    by_listing None settles is_listing first = absurd (cc first)
    by_listing (Some listing) settles is_listing first = by_complete listing settles is_listing listing.complete refl first

    by_step : (step : PlanStep) → next_of plan.progress.left ≡ step → first_where step plan.listing ≡ Some key → IsFirstDue plan key
    by_step Settle settles first = by_listing plan.listing settles refl first
    by_step (Enter era) settles first = absurd (cc first)
    by_step Finished settles first = absurd (cc first)

pub is_rescan : {S V : Type 0} (view : View S V) (asked : Asked) (key : List ℕ) → IsUnderWay view asked → due_in view.council.plan ≡ Some key → IsRescan view.council 0 key
is_rescan view asked key was due =
    let first = first_is was.plan.open_plan key (sym (ap due_in was.plan.is_open) ∙ due) in
    record {
      by_operator = refl;
      order = was.order;
      is_open = was.is_open;
      plan = was.plan.open_plan;
      is_plan = was.plan.is_open;
      is_for = was.plan.same ∙ sym was.is_for;
      settles = first.settles;
      listing = first.listing;
      is_listing = first.is_listing;
      complete = first.complete;
      first = first.first;
    }

-- ---- a listing that is complete
-- the change stays what it was opened for
pub with_asked : (plan : PlanView) (listing : ListingView) → (with_listing plan listing).asked ≡ plan.asked
with_asked plan listing = by_end (listing.complete && (length listing.keys == 0))
  where
    by_end : (b : Bool) → (if b then stepped plan else record plan { listing = Some listing }).asked ≡ plan.asked
    by_end true = refl
    by_end false = refl

-- with a step that is left there is one less after it
one_step : (left : List PlanStep) → next_of left ≡ Settle → length (drop 1 left) < length left
one_step [] settles = absurd (cc settles)
one_step (step ∷ later) settles = omega (arith, length-drop 1 (step ∷ later))

-- a complete listing that has no key left settles the era; otherwise its first key is due
pub record SettlesEra (plan next : PlanView) (listing : ListingView) : Type 0 where
  pub no_more : left_of (Some next) ≤ left_of (Some plan)
  pub takes : (left_of (Some next) < left_of (Some plan)) ⊎ IsSome (due_key next)
  pub listed : listed_in next.listing ≤ length listing.keys

pub settles_by : (plan : PlanView) (listing : ListingView) → next_of plan.progress.left ≡ Settle → listing.complete ≡ true → SettlesEra plan (with_listing plan listing) listing
settles_by plan listing settles complete = subst (λ (c : Bool). SettlesEra plan (if c && (length listing.keys == 0) then stepped plan else record plan { listing = Some listing }) listing) (sym complete) (by_end (length listing.keys == 0) refl)
  where
    some_key : (keys : List (List ℕ)) → (length keys == 0) ≡ false → IsSome (slice_get keys 0)
    some_key [] some = absurd (cc some)
    some_key (key ∷ keys) some = refl

    due : (length listing.keys == 0) ≡ false → IsSome (due_key (record plan { listing = Some listing }))
    due some =
        subst (λ (s : PlanStep). IsSome (first_where s (Some listing))) (sym settles)
        (subst (λ (c : Bool). IsSome (if c then slice_get listing.keys 0 else None)) (sym complete) (some_key listing.keys some))

    by_end : (b : Bool) → (length listing.keys == 0) ≡ b → SettlesEra plan (if b then stepped plan else record plan { listing = Some listing }) listing
    by_end true none =
        let fewer = one_step plan.progress.left settles in
        record { no_more = omega (arith, fewer); takes = inl fewer; listed = omega arith }
    by_end false some = record { no_more = omega arith; takes = inr (due some); listed = omega arith }

-- ---- a key that was done
-- it is no longer listed, and the call goes on
pub record Rescanned {S V : Type 0} (old new : View S V) : Type 0 where
  pub under_way : (asked : Asked) → IsUnderWay old asked → IsUnderWay new asked
  pub exchange : new.council.exchange ≡ old.council.exchange
  pub no_more : steps_left new ≤ steps_left old
  pub takes : TakesStep old new
  pub fewer : keys_listed new < keys_listed old

first_less : (keys : List (List ℕ)) (key : List ℕ) → slice_get keys 0 ≡ Some key → length (drop 1 keys) < length keys
first_less [] key first = absurd (cc first)
first_less (one ∷ keys) key first = omega (arith, length-drop 1 (one ∷ keys))

rescanned_to : {S V : Type 0} (old new : View S V) (key : List ℕ) (of : IsRescan old.council 0 key) → new.council ≡ record old.council { plan = Some (rescanned_by of.plan of.listing) } → Rescanned old new
rescanned_to {S} {V} old new key of is = record {
  under_way = λ asked was. record {
    order = was.order;
    is_open = ap (λ (c : Council). c.order) is ∙ was.is_open;
    is_for = was.is_for;
    untold = was.untold;
    plan = record { open_plan = next; is_open = plan; same = with_asked counted rest ∙ ap (λ (p : PlanView). p.asked) (some_is (sym of.is_plan ∙ was.plan.is_open)) ∙ was.plan.same };
  };
  exchange = ap (λ (c : Council). c.exchange) is;
  no_more = omega (arith, so.no_more, ap left_of plan, ap left_of of.is_plan);
  takes = elim so.takes [
    | inl less ↦ inl (omega (arith, less, ap left_of plan, ap left_of of.is_plan))
    | inr due ↦ inr (subst (λ (p : Option PlanView). IsSome (due_in p)) (sym plan) due)
  ];
  fewer = omega (arith, so.listed, ap (λ (p : Option PlanView). listed_in (listing_in p)) plan, ap (λ (p : Option PlanView). listed_in (listing_in p)) of.is_plan, ap listed_in of.is_listing, first_less of.listing.keys key of.first);
}
  where
    counted : PlanView
    counted = record of.plan { rescanned = one_more of.plan.rescanned }

    rest : ListingView
    rest = record of.listing { keys = drop 1 of.listing.keys }

    next : PlanView
    next = rescanned_by of.plan of.listing

    plan : new.council.plan ≡ Some next
    plan = ap (λ (c : Council). c.plan) is

    so : SettlesEra counted next rest
    so = settles_by counted rest of.settles of.complete

pub is_rescanned : {S V : Type 0} (old new : View S V) (key : List ℕ) (answer : Answer) → IsRescan old.council 0 key → is_done answer ≡ true → Rescans old.council 0 key answer new.council → Rescanned old new
is_rescanned old new key answer due done (rescans of done_ is) = rescanned_to old new key of is
is_rescanned old new key answer due done (stops of not_done is) = absurd (cc (done, not_done))
is_rescanned old new key answer due done (is_none other is) = absurd (other due)

-- ---- a key that was not done
pub not_done : (told : Answer) → ((state : _) (took : _) (ballot : _) → told ≡ answers.Done state took ballot → ⊥) → is_done told ≡ false
not_done (answers.Done state took ballot) other = absurd (other state took ballot refl)
not_done told other = refl

-- the operator's call was told why
pub told_stopped : {S V : Type 0} (old new : View S V) (key : List ℕ) (answer : Answer) → IsRescan old.council 0 key → is_done answer ≡ false → Rescans old.council 0 key answer new.council → WasToldOrder new (op.Stopped answer)
told_stopped old new key answer due not_done (rescans of done is) = absurd (cc (done, not_done))
told_stopped old new key answer due not_done (is_none other is) = absurd (other due)
told_stopped {S} {V} old new key answer due not_done (stops of not_done_ is) = record {
  order = told_so (op.Stopped answer) of.order;
  is_open = ap (λ (c : Council). c.order) is ∙ ap (option_map (told_so (op.Stopped answer))) of.is_open;
  said = op.Stopped answer;
  was_said = refl;
  same = refl;
}

-- ---- the operator's call
pub goes_on : {S V : Type 0} (view : View S V) (asked : Asked) → IsUnderWay view asked → ExchangeGoesOn view
goes_on view asked was = record { order = was.order; is_open = was.is_open; untold = was.untold }

-- one that was told why it goes no further does not go on
pub told_stays : {S V A : Type 0} (view : View S V) (told : OpAnswer) → WasToldOrder view told → ExchangeGoesOn view → A
told_stays view told was on = absurd (cc (sym was.was_said ∙ ap (λ (o : OrderView). o.told) (some_is (sym was.is_open ∙ on.is_open)) ∙ on.untold))
