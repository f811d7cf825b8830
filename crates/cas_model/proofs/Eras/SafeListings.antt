-- Listings stay as they are to be, whatever becomes of what the operator has under way.
use Rattle.std.proofs.Common.{◌≡◌, ◌<◌, ℕ, suc, Bool, true, false, List, [], ◌∷◌, length, Option, None, Some, refl, sym, ap, subst, ◌∙◌, arith}
use Rattle.std.specs.Prelude.{◌&&◌, ◌==◌, drop, option_map, if◌then◌else◌}
use Rattle.cas_base.proofs.Bools.{and_right, both_true, not_both}
use Rattle.cas_ballot.specs.declared.ballot.Ballot.{Ballot}
use Rattle.cas_ballot.specs.Ballot.{FitsBallot}
use Rattle.cas_members.specs.declared.plan.PlanStep.TheVariants.{Settle}
use Rattle.cas_members.specs.Plan.{next_of}
use Rattle.cas_proposer.specs.Desk.{DeskView}
use Rattle.cas_quorum.specs.declared.era.Era.{Era}
use Rattle.cas_record.specs.declared.answer.Answer.{Answer}
use Rattle.cas_record.specs.declared.operator.Asked.{Asked}
use Rattle.cas_slot.specs.Slots.{is_above, rises}
use Rattle.cas_model.specs.Council.{MemberPlace, ListingView, Question, Probe, NextKeys, NewAges, Removal, ExchangeView, PlanView, Council, stepped, with_listing, complete_only, without_partial, broken_off}
use Rattle.cas_model.specs.Eras.Course.{entering}
use Rattle.cas_model.specs.Safe.{IsListingSafe, AreListingsSafe, IsOfListing, IsAskingOf, IsCouncilSafe}
use Rattle.cas_model.specs.Calls.Step as calls
use Rattle.cas_model.specs.Calls.Step.{Rescans, one_more}
use Rattle.cas_model.specs.Exchanges.Step.{places_from, IsForQuestion, listing_in, listing_for, HasTag, begun_listing, listing_begun, plan_asked, new_exchange}
use Rattle.cas_model.specs.Eras.Step.{rest_of, plan_after}
use Rattle.cas_model.specs.View.{DiskMeaning, CallView}
use Rattle.cas_model.proofs.Eras.Courses.{settle_enters}
use Rattle.cas_model.proofs.Places.{some_is}

-- ---- exchanges
-- no exchange is open
pub none_asks : (under_way : Option PlanView) → IsAskingOf under_way None
none_asks under_way exchange places none asks = absurd (cc none)

-- one with the same tag asks the same
pub same_asks : (under_way : Option PlanView) (exchange now : ExchangeView) → now.tag ≡ exchange.tag → now.question ≡ exchange.question → IsAskingOf under_way (Some exchange) → IsAskingOf under_way (Some now)
same_asks under_way exchange now tag question was other places is asks =
    let same = some_is is in
    subst (λ (t : Ballot). IsOfListing under_way t places) (sym tag ∙ ap (λ (e : ExchangeView). e.tag) same) (was exchange places refl (sym question ∙ ap (λ (e : ExchangeView). e.question) same ∙ asks))

pub broken_asks : (under_way : Option PlanView) (open_ : Option ExchangeView) → IsAskingOf under_way open_ → IsAskingOf under_way (option_map broken_off open_)
broken_asks under_way None was = none_asks under_way
broken_asks under_way (Some exchange) was = same_asks under_way exchange (broken_off exchange) refl refl was

-- ---- the change of membership
-- none is under way
pub no_listings : AreListingsSafe None
no_listings plan listing none is = absurd (cc none)

-- of this one nothing is listed
pub unlisted : (plan : PlanView) → plan.listing ≡ None → AreListingsSafe (Some plan)
unlisted plan none other listing is is_listing = absurd (cc (is_listing, none, ap (λ (p : PlanView). p.listing) (some_is is)))

-- of this one just that is listed
pub one_listed : (plan : PlanView) (listing : ListingView) → plan.listing ≡ Some listing → IsListingSafe plan listing → AreListingsSafe (Some plan)
one_listed plan listing has is other found same is_listing =
    subst (λ (p : PlanView). IsListingSafe p found) (some_is same) (subst (IsListingSafe plan) (some_is (sym has ∙ ap (λ (p : PlanView). p.listing) (some_is same) ∙ is_listing)) is)

-- a listing that is not complete is dropped
pub rest_safe : (under_way : Option PlanView) → AreListingsSafe under_way → AreListingsSafe (option_map without_partial under_way)
rest_safe None was = no_listings
rest_safe (Some plan) was = by_listing plan.listing refl
  where
    by_listing : (listing : Option ListingView) → plan.listing ≡ listing → AreListingsSafe (Some (record plan { listing = complete_only listing }))
    by_listing None is = unlisted (record plan { listing = None }) refl
    by_listing (Some listing) is = by_complete listing.complete
      where
        safe : IsListingSafe plan listing
        safe = was plan listing refl is

        by_complete : (b : Bool) → AreListingsSafe (Some (record plan { listing = if b then Some listing else None }))
        by_complete true = one_listed (record plan { listing = Some listing }) listing refl (record { tag = safe.tag; settles = safe.settles; rises = safe.rises; some_left = safe.some_left })
        by_complete false = unlisted (record plan { listing = None }) refl

-- it goes on, or the era is settled
pub listed_safe : (plan : PlanView) (listing : ListingView) → FitsBallot listing.tag → next_of plan.progress.left ≡ Settle → rises None listing.keys ≡ true → AreListingsSafe (Some (with_listing plan listing))
listed_safe plan listing fits settles rising = by_test (listing.complete && (length listing.keys == 0)) refl
  where
    some_left : (keys : List (List ℕ)) → (length keys == 0 ≡ true → ⊥) → 0 < length keys
    some_left [] none = absurd (none refl)
    some_left (key ∷ keys) none = omega arith

    by_test : (b : Bool) → (listing.complete && (length listing.keys == 0)) ≡ b → AreListingsSafe (Some (if b then stepped plan else record plan { listing = Some listing }))
    by_test true e = unlisted (stepped plan) refl
    by_test false e = one_listed (record plan { listing = Some listing }) listing refl (record {
      tag = fits;
      settles = settles;
      rises = rising;
      some_left = λ complete. some_left listing.keys (λ none. not_both (listing.complete && (length listing.keys == 0)) (both_true listing.complete (length listing.keys == 0) complete none) e);
    })

-- all but the first rise, too
rest_rises : (keys : List (List ℕ)) → rises None keys ≡ true → rises None (drop 1 keys) ≡ true
rest_rises [] rising = refl
rest_rises (key ∷ []) rising = refl
rest_rises (key ∷ next ∷ keys) rising = and_right (is_above (Some key) next) (rises (Some next) keys) rising

-- a key is proposed anew, and no collection begins or ends with it
pub rescan_collects : (old : Council) (id : ℕ) (key : List ℕ) (told : Answer) (new : Council) → Rescans old id key told new → new.collection ≡ old.collection
rescan_collects old id key told new (calls.rescans of done same) = ap (λ (c : Council). c.collection) same
rescan_collects old id key told new (calls.stops of undone same) = ap (λ (c : Council). c.collection) same
rescan_collects old id key told new (calls.is_none none same) = ap (λ (c : Council). c.collection) same

pub rescan_safe : (old : Council) (id : ℕ) (key : List ℕ) (told : Answer) (new : Council) → Rescans old id key told new → IsCouncilSafe old → IsCouncilSafe new
rescan_safe old id key told new (calls.is_none none same) was = subst IsCouncilSafe (sym same) was
rescan_safe old id key told new (calls.stops of undone same) was = subst IsCouncilSafe (sym same) was
rescan_safe old id key told new (calls.rescans of done same) was =
    let safe = was.0 of.plan of.listing of.is_plan of.is_listing in
    subst IsCouncilSafe (sym same) (
      listed_safe (record of.plan { rescanned = one_more of.plan.rescanned }) (record of.listing { keys = drop 1 of.listing.keys }) safe.tag safe.settles (rest_rises of.listing.keys safe.rises),
      λ exchange places open_ asks.
          let lists = was.1 exchange places open_ asks in
          let one : lists.plan ≡ of.plan = some_is (sym lists.is_plan ∙ of.is_plan) in
          let same_listing : lists.listing ≡ of.listing = some_is (sym lists.is_listing ∙ ap (λ (p : PlanView). p.listing) one ∙ of.is_listing) in
          absurd (cc (of.complete, lists.partial, ap (λ (l : ListingView). l.complete) same_listing)),
    )

-- a change of membership begins
pub begun_safe : (under_way : Option PlanView) (open_ : Option ExchangeView) (plan : PlanView) → under_way ≡ None → plan.listing ≡ None → IsAskingOf under_way open_ → AreListingsSafe (Some plan) × IsAskingOf (Some plan) open_
begun_safe under_way open_ plan none is_listing was = (unlisted plan is_listing, λ exchange places is asks. absurd (cc ((was exchange places is asks).is_plan, none)))

-- and is at its end
pub ended_safe : (under_way : Option PlanView) (open_ : Option ExchangeView) (plan : PlanView) → under_way ≡ Some plan → plan.progress.left ≡ [] → AreListingsSafe under_way → IsAskingOf under_way open_ → AreListingsSafe None × IsAskingOf None open_
ended_safe under_way open_ plan is_plan none listings was = (
  no_listings,
  λ exchange places is asks.
      let lists = was exchange places is asks in
      let settles = (listings lists.plan lists.listing lists.is_plan lists.is_listing).settles in
      let one : lists.plan ≡ plan = some_is (sym lists.is_plan ∙ is_plan) in
      absurd (cc (settles, ap (λ (p : PlanView). next_of p.progress.left) one, ap next_of none)),
)

-- a proposer enters the next era, of which nothing is listed
pub enters_safe : (under_way : Option PlanView) (open_ : Option ExchangeView) (last_proposer : ℕ) (plan : PlanView) (next : Era) → under_way ≡ Some plan → entering plan.progress.left ≡ Some next → AreListingsSafe under_way → IsAskingOf under_way open_
    → AreListingsSafe (Some (plan_after last_proposer plan next)) × IsAskingOf (Some (plan_after last_proposer plan next)) open_
enters_safe under_way open_ last_proposer plan next is_plan is_next listings was = (by_test (plan.entered == last_proposer), λ exchange places is asks. absurd (asks_none exchange places is asks))
  where
    none : (listing : ListingView) → plan.listing ≡ Some listing → ⊥
    none listing is = cc (is_next, settle_enters plan.progress.left (listings plan listing is_plan is).settles)

    is_none : (listing : Option ListingView) → plan.listing ≡ listing → plan.listing ≡ None
    is_none None is = is
    is_none (Some listing) is = absurd (none listing is)

    by_test : (b : Bool) → AreListingsSafe (Some (if b then record plan { progress = record { era = next; left = rest_of plan.progress.left }; entered = 0; listing = None } else record plan { entered = suc plan.entered }))
    by_test true = unlisted (record plan { progress = record { era = next; left = rest_of plan.progress.left }; entered = 0; listing = None }) refl
    by_test false = unlisted (record plan { entered = suc plan.entered }) (is_none plan.listing refl)

    asks_none : (exchange : ExchangeView) (places : List MemberPlace) → open_ ≡ Some exchange → exchange.question ≡ NextKeys places → ⊥
    asks_none exchange places is asks =
        let lists = was exchange places is asks in
        none lists.listing (ap (λ (p : PlanView). p.listing) (sym (some_is (sym lists.is_plan ∙ is_plan))) ∙ lists.is_listing)

-- ---- next keys are asked for
-- the tag fits, and the listing that has it is as it is to be
pub asked_safe : {V : Type 0} (m : DiskMeaning V) (members tos : List ℕ) (since : ℕ) (reads : Option Era) (council : Council) (call : Option CallView) (asked : Asked) (question : Question) (desk now : DeskView V) (tag : Ballot) → IsForQuestion members council call asked question
    → HasTag m (listing_for council question) desk now tag → IsCouncilSafe council → FitsBallot tag × IsCouncilSafe (record council { exchange = Some (new_exchange question tag tos since reads); plan = plan_asked question tag council.plan })
asked_safe m members tos since reads council call asked (Probe key) desk now tag is_for drawn was = (drawn.fits, (was.0, λ exchange places is asks. absurd (cc (asks, ap (λ (e : ExchangeView). e.question) (some_is is)))))
asked_safe m members tos since reads council call asked (NewAges key least) desk now tag is_for drawn was = absurd is_for
asked_safe m members tos since reads council call asked (Removal key) desk now tag is_for drawn was = absurd is_for
asked_safe {V} m members tos since reads council call asked (NextKeys places) desk now tag (none_open, due) has_tag was = subst Fits (sym due.is_plan) (by_listing due.plan.listing refl (subst (λ (o : Option PlanView). HasTag m (listing_in o) desk now tag) due.is_plan has_tag))
  where
    exchange : ExchangeView
    exchange = new_exchange (NextKeys places) tag tos since reads

    Fits : Option PlanView → Type 0
    Fits under_way = FitsBallot tag × (AreListingsSafe (option_map (listing_begun places tag) under_way) × IsAskingOf (option_map (listing_begun places tag) under_way) (Some exchange))

    with_it : ListingView → PlanView
    with_it listing = record due.plan { listing = Some listing }

    same_places : (a b : List MemberPlace) → NextKeys a ≡ NextKeys b → a ≡ b
    same_places a b same = cc same

    goes_on : (listing : ListingView) → IsListingSafe due.plan listing → listing.complete ≡ false → listing.tag ≡ tag → listing.places ≡ places → AreListingsSafe (Some (with_it listing)) × IsAskingOf (Some (with_it listing)) (Some exchange)
    goes_on listing safe partial is_tag is_places = (
      one_listed (with_it listing) listing refl (record { tag = safe.tag; settles = safe.settles; rises = safe.rises; some_left = safe.some_left }),
      λ other from is asks. subst (λ (t : Ballot). IsOfListing (Some (with_it listing)) t from) (ap (λ (e : ExchangeView). e.tag) (some_is is)) (record {
        plan = with_it listing;
        is_plan = refl;
        listing = listing;
        is_listing = refl;
        partial = partial;
        same_tag = is_tag;
        same_places = is_places ∙ same_places places from (ap (λ (e : ExchangeView). e.question) (some_is is) ∙ asks);
      }),
    )

    by_listing : (listing : Option ListingView) → due.plan.listing ≡ listing → HasTag m listing desk now tag → Fits (Some due.plan)
    by_listing None is drawn = subst (λ (l : Option ListingView). FitsBallot tag × (AreListingsSafe (Some (with_it (begun_listing places tag l))) × IsAskingOf (Some (with_it (begun_listing places tag l))) (Some exchange))) (sym is)
        (drawn.fits, goes_on (begun_listing places tag None) (record { tag = drawn.fits; settles = due.settles; rises = refl; some_left = λ none. absurd (cc none) }) refl refl refl)
    by_listing (Some listing) is kept =
        let safe = was.0 due.plan listing due.is_plan is in
        subst (λ (l : Option ListingView). FitsBallot tag × (AreListingsSafe (Some (with_it (begun_listing places tag l))) × IsAskingOf (Some (with_it (begun_listing places tag l))) (Some exchange))) (sym is)
        (subst FitsBallot (sym kept.0) safe.tag, goes_on listing safe (due.partial listing is) (sym kept.0) (sym (due.goes_on ∙ ap (places_from members) is)))
