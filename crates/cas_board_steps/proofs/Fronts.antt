-- A caller's own marks in a record that grows.
use Rattle.std.proofs.Common.{◌≡◌, ◌≢◌, ℕ, ◌==◌, Bool, true, false, if◌then◌else◌, List, [], ◌∷◌, ◌++◌, length, drop, Option, None, Some, inl, inr, refl, sym, ap, subst, ◌∙◌, append_assoc, append-nil}
use Rattle.std.proofs.lemmas.List.Elements.{All-head, All-tail}
use Rattle.cas_base.proofs.Bools.{true_or_false}
use Rattle.cas_record.proofs.Tests.{nat_same, nat_is}
use Rattle.cas_record.specs.declared.mark.Mark.{Mark}
use Rattle.cas_record.specs.declared.mark.Mark.TheVariants.{Begun, Proposed, Voted, Acked, Floor, EraEntered, Ended, Harmed, Told}
use Rattle.cas_turn.specs.Seen.{Begins, HasSeenOwn, NoneOwned, OnlyOwnedBy, added_to}
use Rattle.cas_turn.proofs.SeenLemmas.{begins_both, begins_grows, sees_begins, none_else}
use Rattle.cas_board_steps.specs.Mine.{is_owner, mine, Wanted, wants, wanted_after, wanted_by, FrontGoesOn}
use Rattle.cas_board_steps.specs.Owners.{owner_of}

-- ---- what is added
drop_whole : {A : Type 0} (a b : List A) → drop (length a) (a ++ b) ≡ b
drop_whole [] b = refl
drop_whole (x ∷ a) b = drop_whole a b

pub added_is : {A : Type 0} (old new marks : List A) → new ≡ old ++ marks → added_to old new ≡ marks
added_is {A} old new marks made = ap (λ (l : List A). drop (length old) l) made ∙ drop_whole old marks

-- ---- owners
owned_not : (n owner : ℕ) → Some owner ≢ Some n → (owner == n) ≡ false
owned_not n owner not = elim (true_or_false (owner == n)) [
  | inl same ↦ absurd (not (ap (λ (k : ℕ). Some k) (nat_same same)))
  | inr other ↦ other
]

-- ---- own marks
cons_if : (t : Bool) (mark : Mark) (l r lr : List Mark) → lr ≡ l ++ r → (if t then mark ∷ lr else lr) ≡ (if t then mark ∷ l else l) ++ r
cons_if true mark l r lr e = ap (λ (z : List Mark). mark ∷ z) e
cons_if false mark l r lr e = e

pub mine_append : (n : ℕ) (a b : List Mark) → mine n (a ++ b) ≡ mine n a ++ mine n b
mine_append n [] b = refl
mine_append n (mark ∷ a) b = cons_if (is_owner n (owner_of mark)) mark (mine n a) (mine n b) (mine n (a ++ b)) (mine_append n a b)

skipped : (n : ℕ) (owner : Option ℕ) (mark : Mark) (l : List Mark) → owner ≢ Some n → l ≡ [] → (if is_owner n owner then mark ∷ l else l) ≡ []
skipped n None mark l not e = e
skipped n (Some owner) mark l not e = ap (λ (t : Bool). if t then mark ∷ l else l) (owned_not n owner not) ∙ e

pub mine_none : (n : ℕ) (l : List Mark) → NoneOwned owner_of n l → mine n l ≡ []
mine_none n [] none = refl
mine_none n (mark ∷ l) none = skipped n (owner_of mark) mark (mine n l) (All-head (λ m. owner_of m ≢ Some n) mark l none) (mine_none n l (All-tail (λ m. owner_of m ≢ Some n) mark l none))

-- a mark of its own
pub mine_own : (n : ℕ) (mark : Mark) (l : List Mark) → owner_of mark ≡ Some n → mine n (mark ∷ l) ≡ mark ∷ mine n l
mine_own n mark l own = ap (λ (o : Option ℕ). if is_owner n o then mark ∷ mine n l else mine n l) own ∙ ap (λ (t : Bool). if t then mark ∷ mine n l else mine n l) (nat_is {a = n} {b = n} refl)

-- what a front has of its caller's own, of which a longer one has no more
pub mine_seen : (n : ℕ) (seen all : List Mark) → HasSeenOwn owner_of n seen all → mine n all ≡ mine n seen
mine_seen n seen all has = ap (mine n) (sym has.whole) ∙ mine_append n seen has.behind ∙ ap (λ (l : List Mark). mine n seen ++ l) (mine_none n has.behind has.none_own) ∙ append-nil (mine n seen)

-- what was seen, and what a hold added to it
pub front_goes_on : (n : ℕ) (seen all new marks : List Mark) → HasSeenOwn owner_of n seen all → new ≡ all ++ marks → FrontGoesOn n seen new (mine n marks)
front_goes_on n seen all new marks has made = record {
  begins = subst (λ (l : List Mark). Begins seen l) (sym made) (begins_grows seen all marks (sees_begins owner_of n seen all has));
  own_marks = ap (mine n) made ∙ mine_append n all marks ∙ ap (λ (l : List Mark). l ++ mine n marks) (mine_seen n seen all has);
}

pub goes_on_then : (n : ℕ) (a b c own more : List Mark) → FrontGoesOn n a b own → FrontGoesOn n b c more → FrontGoesOn n a c (own ++ more)
goes_on_then n a b c own more first then_ = record {
  begins = begins_both a b c first.begins then_.begins;
  own_marks = then_.own_marks ∙ ap (λ (l : List Mark). l ++ more) first.own_marks ∙ append_assoc (mine n a) own more;
}

-- ---- what a caller asked for last
pub wanted_append : (n : ℕ) (before : Option Wanted) (a b : List Mark) → wanted_after n before (a ++ b) ≡ wanted_after n (wanted_after n before a) b
wanted_append n before [] b = refl
wanted_append n before (Begun caller call key program ∷ a) b = wanted_append n (if caller == n then Some (wants call key program) else before) a b
wanted_append n before (Proposed p ∷ a) b = wanted_append n before a b
wanted_append n before (Voted acceptor key ballot ∷ a) b = wanted_append n before a b
wanted_append n before (Acked x ∷ a) b = wanted_append n before a b
wanted_append n before (Floor key ballot state ∷ a) b = wanted_append n before a b
wanted_append n before (EraEntered proposer number ∷ a) b = wanted_append n before a b
wanted_append n before (Ended caller call rounds answer ∷ a) b = wanted_append n before a b
wanted_append n before (Harmed caller call down ∷ a) b = wanted_append n before a b
wanted_append n before (Told asked answer ∷ a) b = wanted_append n before a b

pub wanted_none : (n : ℕ) (before : Option Wanted) (l : List Mark) → NoneOwned owner_of n l → wanted_after n before l ≡ before
wanted_none n before [] none = refl
wanted_none n before (Begun caller call key program ∷ l) none =
    ap (λ (t : Bool). wanted_after n (if t then Some (wants call key program) else before) l) (owned_not n caller (All-head (λ m. owner_of m ≢ Some n) (Begun caller call key program) l none))
    ∙ wanted_none n before l (All-tail (λ m. owner_of m ≢ Some n) (Begun caller call key program) l none)
wanted_none n before (Proposed p ∷ l) none = wanted_none n before l (All-tail (λ m. owner_of m ≢ Some n) (Proposed p) l none)
wanted_none n before (Voted acceptor key ballot ∷ l) none = wanted_none n before l (All-tail (λ m. owner_of m ≢ Some n) (Voted acceptor key ballot) l none)
wanted_none n before (Acked x ∷ l) none = wanted_none n before l (All-tail (λ m. owner_of m ≢ Some n) (Acked x) l none)
wanted_none n before (Floor key ballot state ∷ l) none = wanted_none n before l (All-tail (λ m. owner_of m ≢ Some n) (Floor key ballot state) l none)
wanted_none n before (EraEntered proposer number ∷ l) none = wanted_none n before l (All-tail (λ m. owner_of m ≢ Some n) (EraEntered proposer number) l none)
wanted_none n before (Ended caller call rounds answer ∷ l) none = wanted_none n before l (All-tail (λ m. owner_of m ≢ Some n) (Ended caller call rounds answer) l none)
wanted_none n before (Harmed caller call down ∷ l) none = wanted_none n before l (All-tail (λ m. owner_of m ≢ Some n) (Harmed caller call down) l none)
wanted_none n before (Told asked answer ∷ l) none = wanted_none n before l (All-tail (λ m. owner_of m ≢ Some n) (Told asked answer) l none)

-- it stays what it was where nobody but others marked anything
pub wanted_stays : (n : ℕ) (old new marks : List Mark) → new ≡ old ++ marks → NoneOwned owner_of n marks → wanted_by n new ≡ wanted_by n old
wanted_stays n old new marks made none = ap (wanted_by n) made ∙ wanted_append n None old marks ∙ wanted_none n (wanted_by n old) marks none

pub wanted_seen : (n : ℕ) (seen all : List Mark) → HasSeenOwn owner_of n seen all → wanted_by n all ≡ wanted_by n seen
wanted_seen n seen all has = wanted_stays n seen all has.behind (sym has.whole) has.none_own

pub wanted_of_others : (n m : ℕ) (old new marks : List Mark) → m ≢ n → new ≡ old ++ marks → OnlyOwnedBy owner_of n marks → wanted_by m new ≡ wanted_by m old
wanted_of_others n m old new marks other made only = wanted_stays m old new marks made (none_else owner_of n m other marks only)
