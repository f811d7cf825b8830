-- How a listing goes on: each member tells its next keys, and so its listing comes to its last key, or to its end.
use Rattle.std.specs.List.{list_any}
use Rattle.std.specs.Prelude.{◌≡◌, ℕ, ◌&&◌, ◌||◌, ◌==◌, not, max, is_some, Bool, true, false, if◌then◌else◌, List, [], ◌∷◌, length, map, Option, None, Some, option_map, unwrap_or}
use Rattle.cas_ballot.specs.Members.{members_where}
use Rattle.cas_quorum.specs.declared.era.Era.{Era}
use Rattle.cas_quorum.specs.Era.{holds_prep, holds_acc}
use Rattle.cas_quorum.specs.Quorum.{count_in}
use Rattle.cas_slot.specs.Slots.{rises}
use Rattle.cas_slot.specs.declared.message.Tell.{Tell}
use Rattle.cas_slot.specs.declared.message.Tell.TheVariants as tell
use Rattle.cas_record.specs.Histories.Chain.{is_key}
use Rattle.cas_record.specs.Logs.Orderly.{last_of}
use Rattle.cas_record.specs.declared.answer.Answer.{Answer}
use Rattle.cas_record.specs.declared.answer.Answer.TheVariants as answer
use Rattle.cas_record.specs.declared.operator.Probe.{Probe as Answered}
use Rattle.cas_model.specs.Council.{Place, GoesOn, Ended, MemberPlace, ListingView, place_in, has_ended}

-- ---- pages
-- the next keys of a member, and whether more follow
pub record Page : Type 0 where
  pub keys : List (List ℕ)
  pub more : Bool

-- whether both are the same place
abbrev pub is_after : Option (List ℕ) → Option (List ℕ) → Bool
is_after None None = true
is_after (Some key) (Some other) = is_key key other
is_after after other = false

-- what the member told
abbrev pub told_by : List Answered → ℕ → Option Tell
told_by [] member = None
told_by (one ∷ told) member = if one.acceptor == member then one.told else told_by told member

-- whether these can be the next keys behind a place: they rise behind it, and where more follow there are some
abbrev pub can_follow : Option (List ℕ) → List (List ℕ) → Bool → Bool
can_follow after keys more = rises after keys && (not more || not (length keys == 0))

-- its page, where it goes on from its place
abbrev pub page_from : Option (List ℕ) → Option Tell → Option Page
page_from after (Some (tell.Listed from keys more)) = if is_after from after && can_follow after keys more then Some (record { keys = keys; more = more }) else None
page_from after other = None

abbrev pub page_of : List Answered → ℕ → Place → Option Page
page_of told member Ended = None
page_of told member (GoesOn after) = page_from after (told_by told member)

abbrev pub keys_of : Option Page → List (List ℕ)
keys_of None = []
keys_of (Some page) = page.keys

-- a page leads to its last key, or to the end
abbrev pub place_after : Option Page → Place → Place
place_after None place = place
place_after (Some page) place = if page.more then GoesOn (last_of page.keys) else Ended

abbrev pub moved : List Answered → MemberPlace → MemberPlace
moved told one = record one { place = place_after (page_of told one.member one.place) one.place }

-- ---- the listing
-- whether the key is on one of the pages
abbrev pub is_listed : List Answered → List MemberPlace → List ℕ → Bool
is_listed told places key = list_any (λ one. list_any (is_key key) (keys_of (page_of told one.member one.place))) places

-- the members whose listing has ended
abbrev pub ended_in : List MemberPlace → List ℕ
ended_in places = members_where (λ member. has_ended (place_in places member))

-- whether it is one of the members whose keys are listed
abbrev pub stands_in : List MemberPlace → ℕ → Bool
stands_in places member = list_any (λ one. one.member == member) places

-- those of them that count: their listing has ended, or their next keys arrived
abbrev pub counts : List Answered → List MemberPlace → ℕ → Bool
counts told places member = stands_in places member && (has_ended (place_in places member) || is_some (page_of told member (place_in places member)))

abbrev pub counted : List Answered → List MemberPlace → List ℕ
counted told places = members_where (counts told places)

-- it goes on by the pages
pub record ListsOn (era : Era) (told : List Answered) (old new : ListingView) : Type 0 where
  pub tag : new.tag ≡ old.tag
  pub places : new.places ≡ map (moved told) old.places
  pub rises : rises None new.keys ≡ true
  pub keys : (key : List ℕ) → list_any (is_key key) new.keys ≡ (list_any (is_key key) old.keys || is_listed told old.places key)
  pub complete : new.complete ≡ (holds_prep era (ended_in new.places) && holds_acc era (ended_in new.places))

-- ---- that it is short
-- how many of a quorum these are where one is missing, first a prepare quorum
abbrev pub missing : Era → List ℕ → Option Answer
missing era by =
    if not (holds_prep era by) then Some (answer.Short (count_in era.prep by) era.need_prep)
    else if not (holds_acc era by) then Some (answer.Short (count_in era.acc by) era.need_acc)
    else None

-- the greatest age that was told
abbrev pub greater_age : Option Tell → Option ℕ → Option ℕ
greater_age (Some (tell.Aged least)) last_proposer = Some (max least (unwrap_or last_proposer 0))
greater_age other last_proposer = last_proposer

abbrev pub greatest_age : List Answered → Option ℕ
greatest_age [] = None
greatest_age (one ∷ told) = greater_age one.told (greatest_age told)

-- why a quorum is missing: requests were too old, or replies did not arrive
abbrev pub why_short : List Answered → Answer → Answer
why_short told short = unwrap_or (option_map (λ least. answer.Aged least) (greatest_age told)) short
