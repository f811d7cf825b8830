-- How much of a listing is left: how many keys at most stand behind the place of each member.
use Rattle.std.specs.Prelude.{◌≡◌, ◌<◌, ℕ, zero, suc, ⊤, ◌+◌, ◌-◌, ◌*◌, false, IfSome, List, [], ◌∷◌, Option, None, Some}
use Rattle.cas_change.specs.Key.{IsKey}
use Rattle.cas_quorum.specs.declared.era.Era.{Era}
use Rattle.cas_record.specs.declared.operator.Probe.{Probe as Answered}
use Rattle.cas_model.specs.Council.{Place, GoesOn, Ended, MemberPlace, ListingView, after_of}
use Rattle.cas_model.specs.Eras.Listings.{page_of, counted, missing}

-- ---- keys as numbers
-- the bytes as so many digits to the base 128, behind what stands before them
abbrev pub number_from : ℕ → ℕ → List ℕ → ℕ
number_from zero before bytes = before
number_from (suc digits) before [] = number_from digits (128 * before) []
number_from (suc digits) before (byte ∷ bytes) = number_from digits (128 * before + byte + 1) bytes

-- a key, and what is above each of them
unfoldable pub rank_of : List ℕ → ℕ
rank_of key = number_from 64 0 key

unfoldable pub above_all : ℕ
above_all = number_from 64 1 []

-- ---- what is left
abbrev pub keys_behind : Place → ℕ
keys_behind Ended = 0
keys_behind (GoesOn None) = above_all + 2
keys_behind (GoesOn (Some key)) = above_all - rank_of key + 1

abbrev pub keys_left : List MemberPlace → ℕ
keys_left [] = 0
keys_left (one ∷ places) = keys_behind one.place + keys_left places

-- ---- a listing that goes on
-- these are keys, and so is the one behind which they come
abbrev pub AreKeys : Option (List ℕ) → List (List ℕ) → Type 0
AreKeys after [] = ⊤
AreKeys after (key ∷ keys) = IfSome after IsKey × IsKey key × AreKeys (Some key) keys

-- those of the member's page
abbrev pub IsPageOfKeys : List Answered → MemberPlace → Type 0
IsPageOfKeys told one = IfSome (page_of told one.member one.place) (λ page. AreKeys (after_of one.place) page.keys)

-- where enough members count, it is complete or less is left than before
abbrev pub LeavesLess : Era → List Answered → ListingView → ListingView → Type 0
LeavesLess era told old new = missing era (counted told old.places) ≡ None → new.complete ≡ false → keys_left new.places < keys_left old.places
