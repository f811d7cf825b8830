-- Examples of how a listing of three members goes on, which are checked and which no contract names.
use Rattle.std.proofs.Common.{◌≡◌, ℕ, Bool, true, false, List, [], ◌∷◌, None, Some, refl}
use Rattle.std.specs.Prelude.{◌||◌, map}
use Rattle.std.specs.List.{list_any}
use Rattle.cas_ballot.specs.Members.{members_where}
use Rattle.cas_quorum.specs.declared.era.Era.{Era}
use Rattle.cas_quorum.specs.Era.{majority_era}
use Rattle.cas_slot.specs.declared.message.Tell.{Tell}
use Rattle.cas_slot.specs.declared.message.Tell.TheVariants as tell
use Rattle.cas_record.specs.Histories.Chain.{is_key}
use Rattle.cas_record.specs.declared.answer.Answer.TheVariants as answer
use Rattle.cas_record.specs.declared.operator.Probe.{Probe as Answered}
use Rattle.cas_model.specs.Council.{GoesOn, Ended, MemberPlace}
use Rattle.cas_model.specs.Eras.Listings.{moved, is_listed, counted, missing, why_short}

abbrev three : List ℕ
three = 1 ∷ 2 ∷ 3 ∷ []

abbrev era : Era
era = majority_era 1 three

abbrev key_a : List ℕ
key_a = 1 ∷ []

abbrev key_b : List ℕ
key_b = 2 ∷ []

-- nothing is listed yet
abbrev start : List MemberPlace
start = map (λ member. record { member = member; place = GoesOn None }) three

-- the first and the second member tell this, and the third nothing
abbrev told_two : Tell → Tell → List Answered
told_two first second = record { acceptor = 1; told = Some first } ∷ record { acceptor = 2; told = Some second } ∷ record { acceptor = 3; told = None } ∷ []

-- ---- two pages arrive
abbrev pages : List Answered
pages = told_two (tell.Listed None (key_a ∷ []) false) (tell.Listed None (key_a ∷ key_b ∷ []) true)

-- the first member has come to its end, and more keys of the second follow
they_move : map (moved pages) start ≡ record { member = 1; place = Ended } ∷ record { member = 2; place = GoesOn (Some key_b) } ∷ record { member = 3; place = GoesOn None } ∷ []
they_move = refl

two_are_enough : missing era (counted pages start) ≡ None
unfolding members_where
two_are_enough = refl

-- each key is listed once
both_are_listed : (key : List ℕ) → list_any (is_key key) (key_a ∷ key_b ∷ []) ≡ (list_any (is_key key) [] || is_listed pages start key)
both_are_listed key = by_tests (is_key key key_a) (is_key key key_b)
  where
    by_tests : (a b : Bool) → (a || (b || false)) ≡ (false || ((a || false) || ((a || (b || false)) || (false || false))))
    by_tests true b = refl
    by_tests false true = refl
    by_tests false false = refl

-- ---- one page arrives
-- that of the second goes on from another place
abbrev one_page : List Answered
one_page = told_two (tell.Listed None (key_a ∷ []) false) (tell.Listed (Some key_a) (key_b ∷ []) false)

one_is_short : missing era (counted one_page start) ≡ Some (answer.Short 1 2)
unfolding members_where
one_is_short = refl

-- ---- requests are too old
the_greatest_age_is_told : why_short (told_two (tell.Aged 7) (tell.Aged 4)) (answer.Short 0 2) ≡ answer.Aged 7
the_greatest_age_is_told = refl
