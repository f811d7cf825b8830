-- What a listing tells as it goes on by the pages of its members, and as its keys are proposed anew; and that an era is listed once
-- nothing of it is left.
use Rattle.std.proofs.Common.{◌≡◌, ◌<◌, ℕ, suc, Bool, true, false, List, [], ◌∷◌, length, map, Option, None, Some, refl, sym, ap, subst, ◌∙◌, inl, inr, arith}
use Rattle.std.specs.Prelude.{◌⊎◌, ◌&&◌, ◌==◌, IsTrue, IfSome, drop, slice_get, if◌then◌else◌}
use Rattle.std.specs.List.{list_any}
use Rattle.cas_base.proofs.Bools.{true_or_false, and_left, and_right, or_cases, or_left, or_right, if_true, if_false, not_both}
use Rattle.cas_ballot.specs.declared.ballot.Ballot.{Ballot}
use Rattle.cas_ballot.proofs.MemberLemmas.{members_where_tells}
use Rattle.cas_quorum.specs.declared.era.Era.{Era}
use Rattle.cas_quorum.specs.Era.{holds_prep, holds_acc}
use Rattle.cas_slot.specs.declared.message.Ask.{Ask}
use Rattle.cas_slot.specs.declared.message.Ask.TheVariants as ask
use Rattle.cas_slot.specs.declared.message.Phase.TheVariants as phase
use Rattle.cas_slot.specs.declared.message.Tell.{Tell}
use Rattle.cas_slot.specs.declared.message.Tell.TheVariants as tell
use Rattle.cas_slot.specs.Message.{phase_of, tag_of}
use Rattle.cas_slot.specs.Slots.{is_above}
use Rattle.cas_record.specs.declared.operator.Probe.{Probe as Answered}
use Rattle.cas_record.specs.Histories.Chain.{is_key}
use Rattle.cas_record.specs.declared.mark.Mark.TheVariants.{Begun}
use Rattle.cas_record.specs.declared.mark.Proposal.{Proposal}
use Rattle.cas_change.specs.declared.outcome.Took.{Took}
use Rattle.cas_change.specs.declared.state.State.{State}
use Rattle.cas_record.specs.Logs.Happening.{Happening, Drew, Entered, marks_of}
use Rattle.cas_record.specs.Logs.Lawful.{Cluster, Lawful, AllEntered, IsRescanned, MayPropose, SlotTold, slot_told}
use Rattle.cas_record.specs.Logs.Listing.{WasAbsent}
use Rattle.cas_record.specs.Logs.Orderly.{Orderly, MayAsk, MayAskFor, MayDraw, MayReply, IsTold, IsPassed, last_of}
use Rattle.cas_record.specs.Places.{At, Stands}
use Rattle.cas_record.proofs.Logs.Listings.{marks_part}
use Rattle.cas_record.proofs.Histories.Calls.{begun_once}
use Rattle.cas_record.proofs.Logs.Eras.{le_or_lt, entered_by, entered_of_mark}
use Rattle.cas_record.proofs.LegalLemmas.{counted}
use Rattle.cas_record.proofs.Logs.Lemmas.{part_of, mark_at, proposal_law, lawful_older}
use Rattle.cas_record.proofs.Logs.Orders.{reason, orderly_older}
use Rattle.cas_record.proofs.PlaceLemmas.{deeper, stands_deeper, stands_at, stands_part, part_at, order, older_than, newer_than, at_one}
use Rattle.cas_record.proofs.Tests.{nat_same, key_same}
use Rattle.cas_model.specs.Council.{Place, GoesOn, Ended, MemberPlace, ListingView, PlanView, place_in, has_ended, Question, NextKeys, phase_for, stepped, with_listing}
use Rattle.cas_model.specs.Eras.Listed.{IsShown, rescanned, listed, absent, AreShown, IsListingTrue, IsPlanKnown}
use Rattle.cas_model.specs.Parties.{WasToldBy, WereTold, IsDoneTrue, IsCallTrue}
use Rattle.cas_protocol.specs.Protocol.{GlobalState, IsMadeOf, HasHistory, IsListed}
use Rattle.cas_model.specs.Eras.Listings.{Page, is_after, can_follow, told_by, page_from, page_of, keys_of, place_after, moved, is_listed, ended_in, ListsOn}
use Rattle.cas_model.specs.View.{CallView, IsAt}
use Rattle.cas_model.proofs.Places.{same_or_not, some_is}

-- ---- pages
after_same : (after other : Option (List ℕ)) → is_after after other ≡ true → after ≡ other
after_same None None is = refl
after_same (Some key) (Some other) is = ap (λ (k : List ℕ). Some k) (key_same is)
after_same None (Some other) is = absurd (cc is)
after_same (Some key) None is = absurd (cc is)

-- what was told where there is a page that goes on from here
pub record IsPage (after : Option (List ℕ)) (told : Option Tell) (page : Page) : Type 0 where
  pub from : Option (List ℕ)
  pub is : told ≡ Some (tell.Listed from page.keys page.more)
  pub same : from ≡ after
  pub follows : can_follow after page.keys page.more ≡ true

pub page_is : (after : Option (List ℕ)) (told : Option Tell) (page : Page) → page_from after told ≡ Some page → IsPage after told page
page_is after None page e = absurd (cc e)
page_is after (Some (tell.Listed from keys more)) page e = by_test (is_after from after && can_follow after keys more) refl e
  where
    by_test : (b : Bool) → (is_after from after && can_follow after keys more) ≡ b → (if b then Some (record { keys = keys; more = more }) else None) ≡ Some page → IsPage after (Some (tell.Listed from keys more)) page
    by_test true passes e =
        let is : record { keys = keys; more = more } ≡ page = cc e in
        record {
          from = from;
          is = ap (λ (p : Page). Some (tell.Listed from p.keys p.more)) is;
          same = after_same from after (and_left (is_after from after) (can_follow after keys more) passes);
          follows = subst (λ (p : Page). can_follow after p.keys p.more ≡ true) is (and_right (is_after from after) (can_follow after keys more) passes);
        }
    by_test false passes e = absurd (cc e)
page_is after (Some told) page e = absurd (cc e)

-- the answer of which it is
pub record IsAnswerOf (told : List Answered) (member : ℕ) (said : Tell) : Type 0 where
  pub place : ℕ
  pub answer : Answered
  pub at : IsAt told place answer
  pub is_told : answer.told ≡ Some said
  pub same : answer.acceptor ≡ member

pub answer_of : (told : List Answered) (member : ℕ) (said : Tell) → told_by told member ≡ Some said → IsAnswerOf told member said
answer_of [] member said e = absurd (cc e)
answer_of (one ∷ told) member said e = by_test (one.acceptor == member) refl e (answer_of told member said)
  where
    by_test : (b : Bool) → (one.acceptor == member) ≡ b → (if b then one.told else told_by told member) ≡ Some said → (told_by told member ≡ Some said → IsAnswerOf told member said) → IsAnswerOf (one ∷ told) member said
    by_test true same e rest = record { place = 0; answer = one; at = refl; is_told = e; same = nat_same same }
    by_test false same e rest = let is = rest e in record { place = suc is.place; answer = is.answer; at = is.at; is_told = is.is_told; same = is.same }

-- ---- places
-- a member stands where its page leads, and each key of the page is listed; or it was never there
record HasMoved (told : List Answered) (places : List MemberPlace) (member : ℕ) : Type 0 where
  same : place_in (map (moved told) places) member ≡ place_after (page_of told member (place_in places member)) (place_in places member)
  keys : (key : List ℕ) → list_any (is_key key) (keys_of (page_of told member (place_in places member))) ≡ true → is_listed told places key ≡ true

places_moved : (told : List Answered) (places : List MemberPlace) (member : ℕ) → (place_in (map (moved told) places) member ≡ GoesOn None) ⊎ HasMoved told places member
places_moved told [] member = inl refl
places_moved told (one ∷ places) member = by_test (one.member == member) refl (places_moved told places member)
  where
    here : List ℕ → Bool
    here key = list_any (is_key key) (keys_of (page_of told one.member one.place))

    by_test : (b : Bool) → (one.member == member) ≡ b → (place_in (map (moved told) places) member ≡ GoesOn None) ⊎ HasMoved told places member
        → (place_in (map (moved told) (one ∷ places)) member ≡ GoesOn None) ⊎ HasMoved told (one ∷ places) member
    by_test true e rest = inr (record {
      same = if_true (one.member == member) _ _ e ∙ ap (λ (n : ℕ). place_after (page_of told n one.place) one.place) (nat_same e)
          ∙ ap (λ (p : Place). place_after (page_of told member p) p) (sym (if_true (one.member == member) one.place (place_in places member) e));
      keys = λ key on. or_left (here key) (is_listed told places key) (ap (λ (n : ℕ). list_any (is_key key) (keys_of (page_of told n one.place))) (nat_same e)
          ∙ ap (λ (p : Place). list_any (is_key key) (keys_of (page_of told member p))) (sym (if_true (one.member == member) one.place (place_in places member) e)) ∙ on);
    })
    by_test false e (inl none) = inl (if_false (one.member == member) _ _ e ∙ none)
    by_test false e (inr rest) = inr (record {
      same = if_false (one.member == member) _ _ e ∙ rest.same ∙ ap (λ (p : Place). place_after (page_of told member p) p) (sym (if_false (one.member == member) one.place (place_in places member) e));
      keys = λ key on. or_right (here key) (is_listed told places key) (rest.keys key (ap (λ (p : Place). list_any (is_key key) (keys_of (page_of told member p))) (sym (if_false (one.member == member) one.place (place_in places member) e)) ∙ on));
    })

-- ---- what a page shows
-- a ballot is drawn at one place
one_draw : (cluster : Cluster) {log xs ys : List Happening} {tag : Ballot} {key other : List ℕ} {era e : ℕ} → Orderly cluster log → At (Drew tag key era) xs log → At (Drew tag other e) ys log → xs ≡ ys
one_draw cluster {xs = xs} {ys = ys} {tag = tag} {key = key} {other = other} {era = era} {e = e} orderly at also = elim (order at also) [
  | older_than before ↦ let may : MayDraw cluster ys tag other e = reason cluster orderly also in absurd (may.fresh key era (stands_at before))
  | newer_than after ↦ let may : MayDraw cluster xs tag key era = reason cluster orderly at in absurd (may.fresh other e (stands_at after))
  | at_one same older ↦ older
]

-- a request of that phase is to list
record IsList (question : Ask) : Type 0 where
  tag : Ballot
  after : Option (List ℕ)
  is : question ≡ ask.List tag after

is_list : (question : Ask) → phase_of question ≡ phase.List → IsList question
is_list (ask.List tag after) e = record { tag = tag; after = after; is = refl }
is_list question e = absurd (cc e)

-- where the place of the draw tells that all had entered the era, a reply that bears the tag was made later
page_shows : (cluster : Cluster) (log : List Happening) (era : ℕ) (listing : ListingView) (tag : Ballot) (question : Question) (member : ℕ) (from : Option (List ℕ)) (keys : List (List ℕ)) (more : Bool) → Orderly cluster log
    → IsListingTrue cluster log era listing → tag ≡ listing.tag → question ≡ NextKeys listing.places → WasToldBy log tag question member (tell.Listed from keys more)
    → (key : List ℕ) → is_above from key ≡ true → IsPassed keys more key → WasAbsent cluster era log member key
page_shows cluster log era listing tag question member from keys more orderly of same_tag same_question was key above passed = record {
  then = then_;
  part = part_at was.made.replied.at;
  entered = λ proposer known. stands_part (subst (λ (l : List Happening). AllEntered cluster era (marks_of l)) one of.entered proposer known) (marks_part (part_at drawn_at));
  none = ap (λ (a : ℕ). slot_at a) (sym same_member) ∙ told.1 key (subst (λ (o : Option (List ℕ)). IsTrue (is_above o key)) told.0 above) passed;
}
  where
    then_ : List Happening
    then_ = was.made.replied.older

    slot_at : ℕ → SlotTold
    slot_at a = slot_told then_ a key

    may : MayReply then_ was.made.request was.reply
    may = reason cluster orderly was.made.replied.at

    lists : IsList was.made.request.ask
    lists = is_list was.made.request.ask (sym may.phase ∙ was.to_it.phase ∙ ap phase_for same_question)

    same_member : was.made.request.to ≡ member
    same_member = sym may.from ∙ was.same_from

    told : IsTold then_ was.made.request.to (ask.List lists.tag lists.after) (tell.Listed from keys more)
    told = subst (λ (t : Tell). IsTold then_ was.made.request.to (ask.List lists.tag lists.after) t) was.same_tell (subst (λ (a : Ask). IsTold then_ was.made.request.to a was.reply.tell) lists.is may.told)

    asked : MayAskFor cluster may.asked.older was.made.request [] lists.tag
    asked = subst (MayAsk cluster may.asked.older was.made.request) lists.is (reason cluster (orderly_older cluster orderly was.made.replied.at) may.asked.at)

    is_tag : lists.tag ≡ listing.tag
    is_tag = ap tag_of (sym lists.is) ∙ sym may.tag ∙ was.to_it.tag ∙ same_tag

    drawn_at : At (Drew lists.tag [] asked.era) asked.drawn.older then_
    drawn_at = deeper asked.drawn.at may.asked.at

    one : of.drawn.older ≡ asked.drawn.older
    one = one_draw cluster orderly of.drawn.at (subst (λ (t : Ballot). At (Drew t [] asked.era) asked.drawn.older log) is_tag (deeper drawn_at was.made.replied.at))

-- ---- a listing goes on
-- more keys are listed
shown_more : {cluster : Cluster} {log : List Happening} {era member : ℕ} {keys more : List (List ℕ)} {key : List ℕ} → (list_any (is_key key) keys ≡ true → IsShown cluster log era member more key)
    → IsShown cluster log era member keys key → IsShown cluster log era member more key
shown_more grows (rescanned is) = rescanned is
shown_more grows (listed is) = grows is
shown_more grows (absent is) = absent is

are_shown_more : (cluster : Cluster) (log : List Happening) (era member : ℕ) (keys more : List (List ℕ)) (place : Place) → ((key : List ℕ) → list_any (is_key key) keys ≡ true → IsShown cluster log era member more key)
    → AreShown cluster log era member keys place → AreShown cluster log era member more place
are_shown_more cluster log era member keys more (GoesOn after) grows were = λ key low. shown_more (grows key) (were key low)
are_shown_more cluster log era member keys more Ended grows were = λ key. shown_more (grows key) (were key)

-- where a page leads
record PageShows (cluster : Cluster) (log : List Happening) (era member : ℕ) (keys : List (List ℕ)) (after : Option (List ℕ)) (page : Page) : Type 0 where
  before : (key : List ℕ) → is_above after key ≡ false → IsShown cluster log era member keys key
  on_page : (key : List ℕ) → list_any (is_key key) page.keys ≡ true → list_any (is_key key) keys ≡ true
  passed : (key : List ℕ) → is_above after key ≡ true → IsPassed page.keys page.more key → WasAbsent cluster era log member key

page_leads : (cluster : Cluster) (log : List Happening) (era member : ℕ) (keys : List (List ℕ)) (after : Option (List ℕ)) (page : Page) → PageShows cluster log era member keys after page
    → AreShown cluster log era member keys (place_after (Some page) (GoesOn after))
page_leads cluster log era member keys after page shows = by_more page.more refl
  where
    by_key : (key : List ℕ) → (IsTrue page.more → IfSome (last_of page.keys) (λ last. is_above (Some last) key ≡ false)) → IsShown cluster log era member keys key
    by_key key low = elim (true_or_false (is_above after key)) [
      | inr not_above ↦ shows.before key not_above
      | inl above ↦ elim (true_or_false (list_any (is_key key) page.keys)) [
        | inl on ↦ listed (shows.on_page key on)
        | inr off ↦ absent (shows.passed key above (record { not_listed = off; not_above = low }))
      ]
    ]

    last_low : (last : Option (List ℕ)) (key : List ℕ) → is_above last key ≡ false → IfSome last (λ l. is_above (Some l) key ≡ false)
    last_low None key low = tt
    last_low (Some l) key low = low

    by_more : (b : Bool) → page.more ≡ b → AreShown cluster log era member keys (if b then GoesOn (last_of page.keys) else Ended)
    by_more true e = λ key low. by_key key (λ more. last_low (last_of page.keys) key low)
    by_more false e = λ key. by_key key (λ more. absurd (not_both page.more more e))

pub listing_on : (cluster : Cluster) (log : List Happening) (number : ℕ) (era : Era) (told : List Answered) (tag : Ballot) (question : Question) (old new : ListingView) → Orderly cluster log
    → ((by : List ℕ) → holds_acc era by ≡ true → cluster.accepts number by ≡ true) → WereTold log tag question told → tag ≡ old.tag → question ≡ NextKeys old.places → ListsOn era told old new
    → IsListingTrue cluster log number old → IsListingTrue cluster log number new
listing_on cluster log number era told tag question old new orderly accepts were same_tag same_question on was =
    subst (λ (t : Ballot). IsListingTrue cluster log number (record { tag = t; places = new.places; keys = new.keys; complete = new.complete })) (sym on.tag) (record {
      own = was.own;
      drawn = was.drawn;
      above_floors = was.above_floors;
      entered = was.entered;
      all_ended = was.all_ended;
      shown = λ member. subst (λ (l : List MemberPlace). AreShown cluster log number member new.keys (place_in l member)) (sym on.places) (by_place member (places_moved told old.places member));
      quorum = λ complete. accepts (ended_in new.places) (and_right (holds_prep era (ended_in new.places)) (holds_acc era (ended_in new.places)) (sym on.complete ∙ complete));
    })
  where
    grows : (key : List ℕ) → list_any (is_key key) old.keys ≡ true → list_any (is_key key) new.keys ≡ true
    grows key had = on.keys key ∙ or_left (list_any (is_key key) old.keys) (is_listed told old.places key) had

    said_by : (member : ℕ) (said : Tell) → IsAnswerOf told member said → WasToldBy log tag question member said
    said_by member said by = subst (λ (a : ℕ). WasToldBy log tag question a said) by.same (were by.place by.answer said by.at by.is_told)

    by_move : (member : ℕ) (place : Place) (page : Option Page) → page_of told member place ≡ page → AreShown cluster log number member old.keys place
        → ((key : List ℕ) → list_any (is_key key) (keys_of page) ≡ true → list_any (is_key key) new.keys ≡ true) → AreShown cluster log number member new.keys (place_after page place)
    by_move member place None e shown on_page = are_shown_more cluster log number member old.keys new.keys place (λ key had. listed (grows key had)) shown
    by_move member Ended (Some page) e shown on_page = absurd (cc e)
    by_move member (GoesOn after) (Some page) e shown on_page =
        let is = page_is after (told_by told member) page e in
        page_leads cluster log number member new.keys after page (record {
          before = λ key low. shown_more (λ had. listed (grows key had)) (shown key low);
          on_page = on_page;
          passed = λ key above passed. page_shows cluster log number old tag question member is.from page.keys page.more orderly was same_tag same_question
              (said_by member (tell.Listed is.from page.keys page.more) (answer_of told member (tell.Listed is.from page.keys page.more) is.is)) key (subst (λ (o : Option (List ℕ)). is_above o key ≡ true) (sym is.same) above) passed;
        })

    by_place : (member : ℕ) → (place_in (map (moved told) old.places) member ≡ GoesOn None) ⊎ HasMoved told old.places member → AreShown cluster log number member new.keys (place_in (map (moved told) old.places) member)
    by_place member (inl none) = subst (AreShown cluster log number member new.keys) (sym none) (λ key low. absurd (cc low))
    by_place member (inr has) = subst (AreShown cluster log number member new.keys) (sym has.same)
        (by_move member (place_in old.places member) (page_of told member (place_in old.places member)) refl (was.shown member)
        (λ key on_it. on.keys key ∙ or_right (list_any (is_key key) old.keys) (is_listed told old.places key) (has.keys key on_it)))

-- ---- a key is proposed anew
-- it is the first that was listed, or another
first_or : (keys : List (List ℕ)) (first key : List ℕ) → slice_get keys 0 ≡ Some first → list_any (is_key key) keys ≡ true → (key ≡ first) ⊎ (list_any (is_key key) (drop 1 keys) ≡ true)
first_or [] first key at among = absurd (cc at)
first_or (one ∷ keys) first key at among = elim (or_cases (is_key key one) (list_any (is_key key) keys) among) [
  | inl same ↦ inl (key_same same ∙ some_is at)
  | inr later ↦ inr later
]

pub listing_rescanned : (cluster : Cluster) (log : List Happening) (number : ℕ) (listing : ListingView) (first : List ℕ) → slice_get listing.keys 0 ≡ Some first → IsRescanned cluster number first (marks_of log)
    → IsListingTrue cluster log number listing → IsListingTrue cluster log number (record listing { keys = drop 1 listing.keys })
listing_rescanned cluster log number listing first at anew was = record {
  own = was.own;
  drawn = was.drawn;
  above_floors = was.above_floors;
  entered = was.entered;
  all_ended = was.all_ended;
  shown = λ member. are_shown_more cluster log number member listing.keys (drop 1 listing.keys) (place_in listing.places member) (λ key had. elim (first_or listing.keys first key at had) [
    | inl same ↦ rescanned (subst (λ (k : List ℕ). IsRescanned cluster number k (marks_of log)) (sym same) anew)
    | inr later ↦ listed later
  ]) (was.shown member);
  quorum = was.quorum;
}

-- A call of caller 0 that was open while the era was listed, and is done: its key was proposed anew.
pub rescan_of : (cluster : Cluster) (global : GlobalState) (era number : ℕ) (call : CallView) (state : State) (took : Took) (ballot : Ballot) (listing : ListingView) → HasHistory cluster global
    → IsCallTrue global.log global.made 0 number call → IsDoneTrue global.log global.made 0 number state took ballot → IsListingTrue cluster global.log era listing → (Stands (Entered 0 (suc era)) global.log → ⊥)
    → IsRescanned cluster era call.key (marks_of global.log)
rescan_of cluster global era number call state took ballot listing history of done was none_beyond = record {
  proposal = p;
  older = marks_of made.older;
  proposed = mark_at made.at;
  same_key = same_key;
  same_era = same_era;
  entered = all_in;
  acked = record { acknowledgment = done.acked.acknowledgment; stands = done.acked.stands; same_key = done.acked.same_key ∙ same_key; same_ballot = done.acked.same_ballot ∙ sym done.same_ballot };
}
  where
    p : Proposal
    p = done.made.proposal

    made : IsMadeOf global.log done.made
    made = history.knows.made done.made done.stands

    may : MayPropose cluster made.older p
    may = proposal_law cluster history.lawful made.at

    lawful : Lawful cluster made.older
    lawful = lawful_older cluster history.lawful made.at

    own : p.ballot.proposer ≡ 0
    own = ap (λ (b : Ballot). b.proposer) done.same_ballot ∙ done.own

    -- it was proposed after the tag was drawn, since it was not ended before
    after : At (Drew listing.tag [] era) was.drawn.older made.older
    after = elim (order made.at was.drawn.at) [
      | older_than before ↦ absurd (
          let ended = was.all_ended number (record { proposal = p; stands = stands_at (mark_at before); same_caller = done.same_caller; same_call = done.same_call }) in
          of.open_yet (record { rounds = ended.rounds; answer = ended.answer; stands = stands_part ended.stands (part_of was.drawn.at) }))
      | newer_than later ↦ later
      | at_one same older ↦ absurd (cc same)
    ]

    all_in : AllEntered cluster era (marks_of made.older)
    all_in proposer known = stands_part (was.entered proposer known) (part_of after)

    begun : Stands (Begun 0 number p.key made.program) (marks_of global.log)
    begun = subst (λ (c : ℕ). Stands (Begun c number p.key made.program) (marks_of global.log)) done.same_caller
        (subst (λ (n : ℕ). Stands (Begun p.caller n p.key made.program) (marks_of global.log)) done.same_call (stands_part made.begun (part_of made.at)))

    same_key : p.key ≡ call.key
    same_key = (begun_once (counted cluster global.log history.lawful) begun.at of.begun.at).same_key

    not_early : p.era < era → ⊥
    not_early early = may.not_beyond (entered_by cluster era (suc p.era) (omega arith) lawful (entered_of_mark cluster made.older lawful (all_in p.ballot.proposer may.known)) (omega arith) early)

    not_late : era < p.era → ⊥
    not_late late = elim may.is_in [
      | inl first ↦ omega (arith, first, late)
      | inr stands ↦ none_beyond (subst (λ (q : ℕ). Stands (Entered q (suc era)) global.log) own
          (entered_by cluster p.era (suc era) (omega arith) history.lawful (stands_deeper stands made.at) (omega arith) late))
    ]

    same_era : p.era ≡ era
    same_era = elim (same_or_not p.era era) [
      | inl same ↦ same
      | inr other ↦ elim (le_or_lt p.era era) [
        | inl low ↦ absurd (not_early (omega (arith, low, other)))
        | inr high ↦ absurd (not_late high)
      ]
    ]

-- ---- nothing is left
-- each key is shown where the listing of the member has ended
ended_shown : (cluster : Cluster) (log : List Happening) (number member : ℕ) (keys : List (List ℕ)) (place : Place) → keys ≡ [] → has_ended place ≡ true → AreShown cluster log number member keys place
    → (key : List ℕ) → IsRescanned cluster number key (marks_of log) ⊎ WasAbsent cluster number log member key
ended_shown cluster log number member keys (GoesOn after) none ended shown = absurd (cc ended)
ended_shown cluster log number member keys Ended none ended shown = λ key. elim (shown key) [
  | rescanned is ↦ inl is
  | listed is ↦ absurd (cc (ap (list_any (is_key key)) (sym none) ∙ is))
  | absent is ↦ inr is
]

listed_whole : (cluster : Cluster) (log : List Happening) (number : ℕ) (listing : ListingView) → listing.complete ≡ true → listing.keys ≡ [] → IsListingTrue cluster log number listing → IsListed cluster log number
listed_whole cluster log number listing complete none was = record {
  all_in = λ proposer known. stands_part (was.entered proposer known) (part_of was.drawn.at);
  by = ended_in listing.places;
  quorum = was.quorum complete;
  shown = λ acceptor key member. ended_shown cluster log number acceptor listing.keys (place_in listing.places acceptor) none (members_where_tells (λ n. has_ended (place_in listing.places n)) acceptor member) (was.shown acceptor) key;
}

no_keys : (keys : List (List ℕ)) → (length keys == 0) ≡ true → keys ≡ []
no_keys [] e = refl
no_keys (key ∷ keys) e = let none : suc (length keys) ≡ 0 = nat_same e in absurd (omega (arith, none))

-- the era is settled then
pub known_listed : (cluster : Cluster) (log : List Happening) (plan : PlanView) (listing : ListingView) → IsPlanKnown cluster log plan → IsListingTrue cluster log plan.progress.era.number listing
    → IsPlanKnown cluster log (with_listing plan listing)
known_listed cluster log plan listing known was = by_test (listing.complete && (length listing.keys == 0)) refl
  where
    by_test : (b : Bool) → (listing.complete && (length listing.keys == 0)) ≡ b → IsPlanKnown cluster log (if b then stepped plan else record plan { listing = Some listing })
    by_test true e = record {
      settled = λ next enters. inr (listed_whole cluster log plan.progress.era.number listing (and_left listing.complete (length listing.keys == 0) e) (no_keys listing.keys (and_right listing.complete (length listing.keys == 0) e)) was);
      listing = λ other none. absurd (cc none);
    }
    by_test false e = record { settled = known.settled; listing = λ other is. subst (IsListingTrue cluster log plan.progress.era.number) (some_is is) was }
