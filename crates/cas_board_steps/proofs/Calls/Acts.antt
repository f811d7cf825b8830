-- What a call on the world leaves to the other callers, and what a hold makes of that.
use Rattle.std.proofs.Common.{◌≡◌, ◌≢◌, ℕ, zero, suc, Bool, true, false, List, [], ◌∷◌, ◌++◌, length, Option, None, Some, option_map, IsSome, is_some, slice_get, slice_set, inl, inr, refl, sym, ap, ap₂, subst, ◌∙◌, append_assoc, length-set}
use Rattle.cas_proposer.specs.Desk.{DeskView}
use Rattle.cas_proposer.specs.declared.round.Round.{Round}
use Rattle.cas_record.specs.declared.mark.Mark.{Mark}
use Rattle.cas_model.specs.Council.{Council}
use Rattle.cas_model.specs.View.{View, CallView, CallerView, IsAt}
use Rattle.cas_model.proofs.Places.{same_or_not, some_is, at_set}
use Rattle.cas_turn.specs.Seen.{OnlyOwnedBy}
use Rattle.cas_board_steps.specs.Kept.{IsStaged, running, is_met, is_closed, IsWanted, IsKept, Makes}
use Rattle.cas_board_steps.specs.Owners.{owner_of, MayAdd}
use Rattle.cas_board_steps.specs.OwnParts.{caller_part, council_part, own_part}
use Rattle.cas_board_steps.proofs.Fronts.{wanted_of_others}

-- ---- lists of which one place may change
pub record Spares {A : Type 0} (n : ℕ) (old new : List A) : Type 0 where
  pub places : length new ≡ length old
  pub others : (p : ℕ) → p ≢ n → slice_get new p ≡ slice_get old p

get_other : {A : Type 0} (all : List A) (place : ℕ) (x : A) (p : ℕ) → p ≢ place → slice_get (slice_set all place x) p ≡ slice_get all p
get_other [] place x p other = refl
get_other (one ∷ rest) zero x zero other = absurd (other refl)
get_other (one ∷ rest) zero x (suc p) other = refl
get_other (one ∷ rest) (suc place) x zero other = refl
get_other (one ∷ rest) (suc place) x (suc p) other = get_other rest place x p (λ is. other (ap suc is))

pub spares_same : {A : Type 0} (n : ℕ) (old new : List A) → new ≡ old → Spares n old new
spares_same {A} n old new same = record { places = ap (λ (l : List A). length l) same; others = λ p other. ap (λ (l : List A). slice_get l p) same }

pub spares_set : {A : Type 0} (n : ℕ) (old new : List A) (x : A) → new ≡ slice_set old n x → Spares n old new
spares_set {A} n old new x set_ = record { places = ap (λ (l : List A). length l) set_ ∙ length-set old n x; others = λ p other. ap (λ (l : List A). slice_get l p) set_ ∙ get_other old n x p other }

pub spares_then : {A : Type 0} (n : ℕ) (a b c : List A) → Spares n a b → Spares n b c → Spares n a c
spares_then n a b c first then_ = record { places = then_.places ∙ first.places; others = λ p other. then_.others p other ∙ first.others p other }

-- ---- desks, of which other callers' rounds stay open or not
abbrev pub has_round : {V : Type 0} → Option (DeskView V) → Option Bool
has_round desk = option_map (λ d. is_some d.round) desk

pub record SparesRounds {V : Type 0} (n : ℕ) (old new : List (DeskView V)) : Type 0 where
  pub places : length new ≡ length old
  pub others : (p : ℕ) → p ≢ n → has_round (slice_get new p) ≡ has_round (slice_get old p)

pub spares_rounds : {V : Type 0} (n : ℕ) (old new : List (DeskView V)) → Spares n old new → SparesRounds n old new
spares_rounds n old new spares = record { places = spares.places; others = λ p other. ap has_round (spares.others p other) }

pub rounds_then : {V : Type 0} (n : ℕ) (a b c : List (DeskView V)) → SparesRounds n a b → SparesRounds n b c → SparesRounds n a c
rounds_then n a b c first then_ = record { places = then_.places ∙ first.places; others = λ p other. then_.others p other ∙ first.others p other }

pub round_set : {V : Type 0} (old : List (DeskView V)) (place : ℕ) (now was : DeskView V) → IsAt old place was → is_some now.round ≡ is_some was.round → (p : ℕ) → has_round (slice_get (slice_set old place now) p) ≡ has_round (slice_get old p)
round_set {V} old place now was at same p = elim (same_or_not p place) [
  | inl is ↦ ap (λ (q : ℕ). has_round (slice_get (slice_set old place now) q)) is ∙ ap has_round (at_set old place was now at) ∙ ap (λ (b : Bool). Some b) same ∙ sym (ap has_round at) ∙ ap (λ (q : ℕ). has_round (slice_get old q)) (sym is)
  | inr other ↦ ap has_round (get_other old place now p other)
]

-- ---- a call on the world
-- It leaves all that is other callers' own, and makes these marks.
pub record Acts {S V : Type 0} (n : ℕ) (old new : View S V) (marks : List Mark) : Type 0 where
  pub last_proposer : new.last_proposer ≡ old.last_proposer
  pub desks : SparesRounds n old.desks new.desks
  pub callers : Spares n old.callers new.callers
  pub council : new.council ≡ old.council
  pub made : new.marks ≡ old.marks ++ marks

pub acts_then : {S V : Type 0} (n : ℕ) (a b c : View S V) (marks more : List Mark) → Acts n a b marks → Acts n b c more → Acts n a c (marks ++ more)
acts_then n a b c marks more first then_ = record {
  last_proposer = then_.last_proposer ∙ first.last_proposer;
  desks = rounds_then n a.desks b.desks c.desks first.desks then_.desks;
  callers = spares_then n a.callers b.callers c.callers first.callers then_.callers;
  council = then_.council ∙ first.council;
  made = then_.made ∙ ap (λ (l : List Mark). l ++ more) first.made ∙ append_assoc a.marks marks more;
}

-- ---- own parts
pub part_same : {S V : Type 0} (old new : View S V) (m : ℕ) → slice_get new.callers m ≡ slice_get old.callers m → new.council ≡ old.council → own_part new m ≡ own_part old m
part_same old new zero callers council = ap₂ (λ (c : Option CallerView) (k : Council). caller_part c ++ council_part k) callers council
part_same old new (suc m) callers council = ap caller_part callers

pub makes_of : {S V : Type 0} (n : ℕ) (old new : View S V) (marks : List Mark) → Acts n old new marks → MayAdd marks → OnlyOwnedBy owner_of n marks → Makes n old new marks
makes_of n old new marks acts may only = record { last_proposer = acts.last_proposer; made = acts.made; may_add = may; owned = only; others = λ m other. part_same old new m (acts.callers.others m other) acts.council }

-- where it changes what the operator has under way, that is as if it had been so before
pub acts_aside : {S V : Type 0} (n : ℕ) (old new : View S V) (council : Council) (marks : List Mark) → Acts n old new marks → Acts n (record old { council = council }) (record new { council = council }) marks
acts_aside n old new council marks acts = record { last_proposer = acts.last_proposer; desks = acts.desks; callers = acts.callers; council = refl; made = acts.made }

pub makes_aside : {S V : Type 0} (n : ℕ) (old new : View S V) (marks : List Mark) → Acts n (record old { council = new.council }) new marks → MayAdd marks → OnlyOwnedBy owner_of n marks → (n ≢ 0 → new.council ≡ old.council) → Makes n old new marks
makes_aside {S} {V} n old new marks acts may only council = record { last_proposer = acts.last_proposer; made = acts.made; may_add = may; owned = only; others = others }
  where
    others : (m : ℕ) → m ≢ n → own_part new m ≡ own_part old m
    others zero other = part_same old new zero (acts.callers.others zero other) (council (λ is. other (sym is)))
    others (suc m) other = ap caller_part (acts.callers.others (suc m) other)

-- ---- what is kept
-- what is kept of the caller itself
pub record OwnKept {S V : Type 0} (n : ℕ) (view : View S V) : Type 0 where
  pub staged : (desk : DeskView V) (caller : CallerView) (call : CallView) → IsAt view.desks n desk → IsAt view.callers n caller → caller.call ≡ Some call → IsStaged desk call
  pub wanted : (caller : CallerView) (call : CallView) → IsAt view.callers n caller → caller.call ≡ Some call → IsWanted n caller call view.marks

some_round : (o : Option Round) → is_some o ≡ true → IsSome o
some_round None e = absurd (cc e)
some_round (Some x) e = refl

none_round : (o : Option Round) → is_some o ≡ false → o ≡ None
none_round None e = refl
none_round (Some x) e = absurd (cc e)

round_some : (o : Option Round) → IsSome o → is_some o ≡ true
round_some None e = absurd (cc e)
round_some (Some x) e = refl

-- a stage depends on whether the round is open
pub staged_same : {V : Type 0} (desk was : DeskView V) (call : CallView) → is_some desk.round ≡ is_some was.round → IsStaged was call → IsStaged desk call
staged_same desk was call same (running some unmet unclosed) = running (some_round desk.round (same ∙ round_some was.round some)) unmet unclosed
staged_same {V} desk was call same (is_met none met unproposed unclosed) = is_met (none_round desk.round (same ∙ ap (λ (o : Option Round). is_some o) none)) met unproposed unclosed
staged_same {V} desk was call same (is_closed none closed unmet) = is_closed (none_round desk.round (same ∙ ap (λ (o : Option Round). is_some o) none)) closed unmet

-- a desk as it was before
pub record WasDesk {V : Type 0} (old : List (DeskView V)) (p : ℕ) (desk : DeskView V) : Type 0 where
  pub was : DeskView V
  pub at_was : IsAt old p was
  pub same : is_some desk.round ≡ is_some was.round

pub was_desk : {V : Type 0} (old new : List (DeskView V)) (p : ℕ) (desk : DeskView V) → has_round (slice_get new p) ≡ has_round (slice_get old p) → IsAt new p desk → WasDesk old p desk
was_desk {V} old new p desk same at = by_old (slice_get old p) refl
  where
    by_old : (o : Option (DeskView V)) → slice_get old p ≡ o → WasDesk old p desk
    by_old None is = absurd (cc (sym (ap has_round at) ∙ same ∙ ap has_round is))
    by_old (Some was) is = record { was = was; at_was = is; same = some_is (sym (ap has_round at) ∙ same ∙ ap has_round is) }

pub kept_by : {S V : Type 0} (n : ℕ) (old new : View S V) (marks : List Mark) → Acts n old new marks → OnlyOwnedBy owner_of n marks → IsKept old → OwnKept n new → IsKept new
kept_by {S} {V} n old new marks acts only was own = record {
  places = record { desks = acts.desks.places ∙ was.places.desks ∙ ap suc (sym acts.last_proposer); callers = acts.callers.places ∙ was.places.callers ∙ ap suc (sym acts.last_proposer) };
  staged = staged;
  wanted = wanted;
}
  where
    staged : (id : ℕ) (desk : DeskView V) (caller : CallerView) (call : CallView) → IsAt new.desks id desk → IsAt new.callers id caller → caller.call ≡ Some call → IsStaged desk call
    staged id desk caller call at_desk at_caller is_call = elim (same_or_not id n) [
      | inl same ↦ own.staged desk caller call (subst (λ (p : ℕ). IsAt new.desks p desk) same at_desk) (subst (λ (p : ℕ). IsAt new.callers p caller) same at_caller) is_call
      | inr other ↦ let d = was_desk old.desks new.desks id desk (acts.desks.others id other) at_desk in
          staged_same desk d.was call d.same (was.staged id d.was caller call d.at_was (sym (acts.callers.others id other) ∙ at_caller) is_call)
    ]

    wanted : (id : ℕ) (caller : CallerView) (call : CallView) → IsAt new.callers id caller → caller.call ≡ Some call → IsWanted id caller call new.marks
    wanted id caller call at_caller is_call = elim (same_or_not id n) [
      | inl same ↦ subst (λ (p : ℕ). IsWanted p caller call new.marks) (sym same) (own.wanted caller call (subst (λ (p : ℕ). IsAt new.callers p caller) same at_caller) is_call)
      | inr other ↦ wanted_of_others n id old.marks new.marks marks other acts.made only ∙ was.wanted id caller call (sym (acts.callers.others id other) ∙ at_caller) is_call
    ]

pub kept_aside : {S V : Type 0} (n : ℕ) (old new : View S V) (marks : List Mark) → Acts n (record old { council = new.council }) new marks → OnlyOwnedBy owner_of n marks → IsKept old → OwnKept n new → IsKept new
kept_aside n old new marks acts only was own =
    kept_by n (record old { council = new.council }) new marks acts only (record { places = record { desks = was.places.desks; callers = was.places.callers }; staged = was.staged; wanted = was.wanted }) own
