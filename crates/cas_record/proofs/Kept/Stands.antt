-- What the tables tell of tops, floors and histories.
use Rattle.std.proofs.Common.{◌≡◌, ℕ, Bool, true, false, List, [], ◌∷◌, length, reverse, Some, None, refl, sym, ap, subst, ◌∙◌}
use Rattle.std.specs.Prelude.{Option, is_some, unwrap_or, not, ◌&&◌, ◌||◌, if◌then◌else◌}
use Rattle.std.specs.Option.{option_or}
use Rattle.std.specs.Ordering.{is_lt}
use mathlib.Core.Logic.{inl, inr}
use Rattle.cas_base.proofs.Bools.{true_or_false, if_true, if_false, left_false, some_is, false_of_not}
use Rattle.cas_ballot.specs.declared.ballot.Ballot.{Ballot}
use Rattle.cas_ballot.specs.Ballot.{ballot_cmp, zero_ballot, greater_of, BallotLess}
use Rattle.cas_ballot.proofs.BallotLemmas.{none_below_zero, at_most_greater_left, at_most_greater_right, at_most_less}
use Rattle.cas_record.specs.declared.mark.Mark.{Mark}
use Rattle.cas_record.specs.declared.mark.Mark.TheVariants.{Begun, Proposed, Acked, Floor, Voted, EraEntered, Ended, Harmed, Told}
use Rattle.cas_record.specs.declared.row.Row.{Row}
use Rattle.cas_record.specs.declared.tables.Tables.{Tables}
use Rattle.indexmap.specs.IndexMap.{get}
use Rattle.cas_record.specs.Histories.Chain.{is_key, is_proposal, has_proposal, opens_at, has_opening, floor_below, top_of}
use Rattle.cas_record.specs.Kept.Index.{home_of, later_of, top_at, floor_at, link_at, link_by, opened_at, standing_at, IsRowOf}
use Rattle.cas_record.specs.Kept.Tables.{same_spot, IsTablesOf}
use Rattle.cas_record.proofs.Tests.{less_tells, less_is}
use Rattle.cas_record.proofs.Kept.Homes.{there_or_not}
use Rattle.cas_record.proofs.Kept.Rows.{no_row, tells_none}
use Rattle.cas_record.proofs.Kept.Tables.{no_link}

pub greater_zero : (x : Ballot) → greater_of x zero_ballot ≡ x
greater_zero x = if_false (is_lt (ballot_cmp x zero_ballot)) zero_ballot x (false_of_not (is_lt (ballot_cmp x zero_ballot)) (λ e. none_below_zero (less_tells {a = x} {b = zero_ballot} e)))

-- ---- floors
-- a floor that is put before others
floor_first : (key k : List ℕ) (b f : Ballot) (rest : Ballot) → is_key k key ≡ true → is_lt (ballot_cmp f b) ≡ true
    → (if is_key k key && is_lt (ballot_cmp f b) then greater_of f rest else rest) ≡ greater_of f rest
floor_first key k b f rest e less = if_true (is_key k key && is_lt (ballot_cmp f b)) (greater_of f rest) rest (ap (λ (t : Bool). t && is_lt (ballot_cmp f b)) e ∙ less)

pub no_floor : (key : List ℕ) (b : Ballot) (marks : List Mark) → floor_at key marks ≡ None → floor_below key b marks ≡ zero_ballot
no_floor key b [] none = refl
no_floor key b (Floor k f s ∷ older) none = elim (true_or_false (is_key k key)) [
  | inl e ↦ absurd (cc (if_true (is_key k key) (Some (later_of f (floor_at key older))) (floor_at key older) e, none))
  | inr e ↦ if_false (is_key k key && is_lt (ballot_cmp f b)) (greater_of f (floor_below key b older)) (floor_below key b older) (left_false (is_key k key) _ e)
      ∙ no_floor key b older (sym (if_false (is_key k key) (Some (later_of f (floor_at key older))) (floor_at key older) e) ∙ none)
]
no_floor key b (Proposed p ∷ older) none = no_floor key b older none
no_floor key b (Acked a ∷ older) none = no_floor key b older none
no_floor key b (Begun c n k p ∷ older) none = no_floor key b older none
no_floor key b (Voted a k c ∷ older) none = no_floor key b older none
no_floor key b (EraEntered p n ∷ older) none = no_floor key b older none
no_floor key b (Ended c n r a ∷ older) none = no_floor key b older none
no_floor key b (Harmed c n d ∷ older) none = no_floor key b older none
no_floor key b (Told a c ∷ older) none = no_floor key b older none

pub floor_is : (key : List ℕ) (b g : Ballot) (marks : List Mark) → floor_at key marks ≡ Some g → is_lt (ballot_cmp g b) ≡ true → floor_below key b marks ≡ g
floor_is key b g [] is less = absurd cc
floor_is key b g (Floor k f s ∷ older) is less = elim (true_or_false (is_key k key)) [
  | inl e ↦
      let made : Some (later_of f (floor_at key older)) ≡ Some g = sym (if_true (is_key k key) (Some (later_of f (floor_at key older))) (floor_at key older) e) ∙ is in
      let made_is : later_of f (floor_at key older) ≡ g = some_is (later_of f (floor_at key older)) g made in
      elim (there_or_not (floor_at key older)) [
        | inr none ↦
            let f_is : f ≡ g = sym (ap (later_of f) none) ∙ made_is in
            floor_first key k b f (floor_below key b older) e (subst (λ (x : Ballot). is_lt (ballot_cmp x b) ≡ true) (sym f_is) less)
            ∙ ap (greater_of f) (no_floor key b older none) ∙ greater_zero f ∙ f_is
        | inl there ↦
            let g_is : greater_of f there.0 ≡ g = sym (ap (later_of f) there.1) ∙ made_is in
            let low : BallotLess (greater_of f there.0) b = subst (λ (x : Ballot). BallotLess x b) (sym g_is) (less_tells {a = g} {b = b} less) in
            let left = less_is (at_most_less (at_most_greater_left f there.0) low) in
            let right = less_is (at_most_less (at_most_greater_right f there.0) low) in
            floor_first key k b f (floor_below key b older) e left ∙ ap (greater_of f) (floor_is key b there.0 older there.1 right) ∙ g_is
      ]
  | inr e ↦ if_false (is_key k key && is_lt (ballot_cmp f b)) (greater_of f (floor_below key b older)) (floor_below key b older) (left_false (is_key k key) _ e)
      ∙ floor_is key b g older (sym (if_false (is_key k key) (Some (later_of f (floor_at key older))) (floor_at key older) e) ∙ is) less
]
floor_is key b g (Proposed p ∷ older) is less = floor_is key b g older is less
floor_is key b g (Acked a ∷ older) is less = floor_is key b g older is less
floor_is key b g (Begun c n k p ∷ older) is less = floor_is key b g older is less
floor_is key b g (Voted a k c ∷ older) is less = floor_is key b g older is less
floor_is key b g (EraEntered p n ∷ older) is less = floor_is key b g older is less
floor_is key b g (Ended c n r a ∷ older) is less = floor_is key b g older is less
floor_is key b g (Harmed c n d ∷ older) is less = floor_is key b g older is less
floor_is key b g (Told a c ∷ older) is less = floor_is key b g older is less

-- ---- tops
later_step : (t : Bool) (x : Ballot) (o : Option Ballot) (y : Ballot) → unwrap_or o zero_ballot ≡ y
    → unwrap_or (if t then Some (later_of x o) else o) zero_ballot ≡ (if t then greater_of x y else y)
later_step true x None y e = sym (greater_zero x) ∙ ap (greater_of x) e
later_step true x (Some z) y e = ap (greater_of x) e
later_step false x o y e = e

-- the top is the greatest ballot, or zero where there is none
pub top_is : (key : List ℕ) (marks : List Mark) → unwrap_or (top_at key marks) zero_ballot ≡ top_of key marks
top_is key [] = refl
top_is key (Acked a ∷ older) = later_step (is_key a.key key) a.ballot (top_at key older) (top_of key older) (top_is key older)
top_is key (Floor k f s ∷ older) = later_step (is_key k key) f (top_at key older) (top_of key older) (top_is key older)
top_is key (Proposed p ∷ older) = top_is key older
top_is key (Begun c n k p ∷ older) = top_is key older
top_is key (Voted a k c ∷ older) = top_is key older
top_is key (EraEntered p n ∷ older) = top_is key older
top_is key (Ended c n r a ∷ older) = top_is key older
top_is key (Harmed c n d ∷ older) = top_is key older
top_is key (Told a c ∷ older) = top_is key older

-- ---- histories that have an entry
or_is_some : {V : Type 0} (o : Option V) (t : Bool) (x : V) → is_some (option_or o (if t then Some x else None)) ≡ (t || is_some o)
or_is_some None true x = refl
or_is_some None false x = refl
or_is_some (Some y) true x = refl
or_is_some (Some y) false x = refl

pub link_some : (key : List ℕ) (b : Ballot) (marks : List Mark) → is_some (link_at key b marks) ≡ has_proposal key b marks
link_some key b [] = refl
link_some key b (Proposed p ∷ older) = or_is_some (link_at key b older) (is_proposal key b p) (link_by p older) ∙ ap (λ (t : Bool). is_proposal key b p || t) (link_some key b older)
link_some key b (Acked a ∷ older) = link_some key b older
link_some key b (Floor k f s ∷ older) = link_some key b older
link_some key b (Begun c n k p ∷ older) = link_some key b older
link_some key b (Voted a k c ∷ older) = link_some key b older
link_some key b (EraEntered p n ∷ older) = link_some key b older
link_some key b (Ended c n r a ∷ older) = link_some key b older
link_some key b (Harmed c n d ∷ older) = link_some key b older
link_some key b (Told a c ∷ older) = link_some key b older

pub opened_some : (key : List ℕ) (b : Ballot) (marks : List Mark) → is_some (opened_at key b marks) ≡ has_opening key b marks
opened_some key b [] = refl
opened_some key b (mark ∷ older) = or_is_some (opened_at key b older) (opens_at key b mark older) (length older) ∙ ap (λ (t : Bool). opens_at key b mark older || t) (opened_some key b older)

-- a key that no mark names has no history
pub stands_not : (key : List ℕ) (b : Ballot) (marks : List Mark) → home_of key marks ≡ None → standing_at key b marks ≡ None
stands_not key b marks gone =
    if_false (has_proposal key b marks && not (has_opening key b marks)) (Some b) None (left_false (has_proposal key b marks) _ (sym (link_some key b marks) ∙ ap is_some (no_link key b marks gone)))

-- the tables tell whether a history has an entry
pub stands_here : (tables : Tables) (key : List ℕ) (b : Ballot) (marks : List Mark) (row : Row) → IsTablesOf tables marks → IsRowOf key (reverse marks) row
    → (if is_some (get same_spot tables.links (row.home, b)) && not (is_some (get same_spot tables.openings (row.home, b))) then Some b else None) ≡ standing_at key b (reverse marks)
stands_here tables key b marks row are is =
    let found = ap is_some (are.links.held key b row.home is.home) ∙ link_some key b (reverse marks) in
    let shut = ap is_some (are.openings.held key b row.home is.home) ∙ opened_some key b (reverse marks) in
    ap (λ (t : Bool). if t && not (is_some (get same_spot tables.openings (row.home, b))) then Some b else None) found
    ∙ ap (λ (t : Bool). if has_proposal key b (reverse marks) && not t then Some b else None) shut

-- a key that no mark names has no floor
pub floor_of_none : (key : List ℕ) (marks : List Mark) → home_of key marks ≡ None → floor_at key marks ≡ None
floor_of_none key marks gone = sym (tells_none key marks no_row gone refl refl refl).floor

pub top_of_none : (key : List ℕ) (marks : List Mark) → home_of key marks ≡ None → top_at key marks ≡ None
top_of_none key marks gone = sym (tells_none key marks no_row gone refl refl refl).top

-- the same, by what two look-ups found
pub stands_by : (tables : Tables) (key : List ℕ) (b : Ballot) (marks : List Mark) (row : Row) (found shut : Bool) → IsTablesOf tables marks → IsRowOf key (reverse marks) row
    → found ≡ is_some (get same_spot tables.links (row.home, b)) → shut ≡ is_some (get same_spot tables.openings (row.home, b)) → (if found && not shut then Some b else None) ≡ standing_at key b (reverse marks)
stands_by tables key b marks row found shut are is f s =
    ap (λ (t : Bool). if t && not shut then Some b else None) f ∙ ap (λ (t : Bool). if is_some (get same_spot tables.links (row.home, b)) && not t then Some b else None) s ∙ stands_here tables key b marks row are is

pub choice_shut : (found shut : Bool) (b : Ballot) → shut ≡ true → (if found && not shut then Some b else None) ≡ None
choice_shut found true b e = if_both found (Some b) None
  where
    if_both : (t : Bool) (x : Option Ballot) (y : Option Ballot) → (if t && false then x else y) ≡ y
    if_both true x y = refl
    if_both false x y = refl
choice_shut found false b e = absurd cc

pub choice_lost : (found shut : Bool) (b : Ballot) → found ≡ false → (if found && not shut then Some b else None) ≡ None
choice_lost true shut b e = absurd cc
choice_lost false shut b e = refl

pub choice_made : (found shut : Bool) (b : Ballot) → found ≡ true → shut ≡ false → (if found && not shut then Some b else None) ≡ Some b
choice_made true true b e f = absurd cc
choice_made true false b e f = refl
choice_made false shut b e f = absurd cc
