-- What a pass tells of a hold, by what the hold did.
use Rattle.std.proofs.Common.{◌≡◌, ◌≤◌, ◌<◌, ℕ, zero, suc, ◌+◌, ◌-◌, ◌^◌, Bool, if◌then◌else◌, ap₂, List, [], ◌∷◌, ◌++◌, length, None, Some, slice_get, true, false, refl, sym, ap, subst, ◌∙◌, append_assoc, append-nil, arith}
use Rattle.std.specs.Prelude.{Result, Ok, Err, IfOk, IfErr, OnOk}
use Rattle.std.proofs.lemmas.List.Elements.{All-append, All-nil}
use Rattle.std.proofs.Math.Nat.{min-le_left}
use Rattle.cas_change.specs.declared.program.Clause.{Clause}
use Rattle.cas_record.specs.declared.answer.Answer.{Answer}
use Rattle.cas_record.specs.declared.mark.Mark.{Mark}
use Rattle.cas_record.specs.declared.mark.Mark.TheVariants.{Begun, Ended}
use Rattle.cas_model.specs.Calls.Step.{one_more}
use Rattle.cas_model.specs.View.{View}
use Rattle.cas_model.proofs.Places.{some_is}
use Rattle.cas_turn.specs.Seen.{Begins, HasSeenOwn, OnlyOwnedBy, added_to}
use Rattle.cas_turn.specs.Sitting.{Sitting, Turning}
use Rattle.cas_board.specs.Passes.{IsPassOf}
use Rattle.cas_board.specs.Changes as changes
use Rattle.cas_board.specs.Changes.{IsCounted, HasBegunInHold, HasNotBegun, HasGoneOnInHold, HasEndedInHold, AnswersChange}
use Rattle.cas_board_steps.specs.Calls.Changes as begins
use Rattle.cas_board_steps.specs.Calls.Changes.{BeginsIn, IsRefusalBehind, BeginsNot, GoesOnIn, EndsMarked, StraysIn}
use Rattle.cas_board_steps.specs.Kept.{IsKept, Makes, IsHeldBy}
use Rattle.cas_board_steps.specs.declared.changes.Begun.{Begun as Opened}
use Rattle.cas_board_steps.specs.Mine.{mine, call_of, losses, wanted_by, FrontGoesOn, IsLast}
use Rattle.cas_board_steps.specs.Owners.{owner_of, MayAdd}
use Rattle.cas_board_steps.specs.OwnParts.{own_part}
use Rattle.cas_board_steps.specs.Calls.Conflicts.{is_conflict}
use Rattle.cas_board_steps.specs.Calls.Open.{NothingIsOpen, HasOpen, beside_in, rounds_in, is_met_in, rounds_after}
use Rattle.cas_board_steps.specs.Calls.Stages.{tells_met}
use Rattle.cas_board_steps.specs.declared.changes.Stage.{Stage}
use Rattle.cas_board.proofs.Losses.{losses_append, counted_then}
use Rattle.cas_board.proofs.Passes.{still_pass}
use Rattle.cas_board_steps.proofs.Fronts.{added_is, mine_append, mine_own, front_goes_on, goes_on_then, wanted_seen}
use Rattle.cas_board_steps.proofs.Parts.{open_at}

-- ---- what may be given back
module _ {S V : Type 0} (n : ℕ) (before after : View S V) (marks : List Mark) (makes : Makes n before after marks) where
  pub gives_more : Begins before.marks after.marks
  gives_more = record { behind = marks; whole = sym makes.made }

  pub gives_lawful : MayAdd (added_to before.marks after.marks)
  gives_lawful = subst MayAdd (sym (added_is before.marks after.marks marks makes.made)) makes.may_add

  pub gives_own : OnlyOwnedBy owner_of n (added_to before.marks after.marks)
  gives_own = subst (OnlyOwnedBy owner_of n) (sym (added_is before.marks after.marks marks makes.made)) makes.owned

-- ---- what a hold asks
get_low : {A : Type 0} (xs : List A) (place : ℕ) (x : A) → slice_get xs place ≡ Some x → place < length xs
get_low [] place x e = absurd (cc e)
get_low (y ∷ xs) zero x e = omega arith
get_low (y ∷ xs) (suc place) x e = let low : place < length xs = get_low xs place x e in omega (arith, low)

-- a caller with an open call is known
pub open_known : {S V : Type 0} (view : View S V) (n call : ℕ) → HasOpen call (own_part view n) → IsKept view → n ≤ view.last_proposer
open_known view n call has kept = let o = open_at view n call has in let low : n < length view.callers = get_low view.callers n o.caller o.at_caller in omega (arith, low, kept.places.callers)

-- ---- what the pass tells then
module _ {S V A : Type 0} (before after : View S V) (old new : Sitting A Mark) (has : HasSeenOwn owner_of old.number old.seen before.marks) (seen : new.seen ≡ after.marks) (own : new.own ≡ own_part after old.number) where
  front_of : (marks : List Mark) → Makes old.number before after marks → FrontGoesOn old.number old.seen new.seen (mine old.number marks)
  front_of marks makes = front_goes_on old.number old.seen before.marks new.seen marks has (seen ∙ makes.made)

  front_is : (marks mine_ : List Mark) → Makes old.number before after marks → mine old.number marks ≡ mine_ → FrontGoesOn old.number old.seen new.seen mine_
  front_is marks mine_ makes same = subst (FrontGoesOn old.number old.seen new.seen) same (front_of marks makes)

  open_then : (call : ℕ) → HasOpen call (own_part after old.number) → HasOpen call new.own
  open_then call has_open = subst (HasOpen call) (sym own) has_open

  last_then : (marks : List Mark) (mark : Mark) → Makes old.number before after (marks ++ mark ∷ []) → IsLast new.seen mark
  last_then marks mark makes = record { before = before.marks ++ marks; whole = append_assoc before.marks marks (mark ∷ []) ∙ sym makes.made ∙ sym seen }

  pub pass_begins : (call : ℕ) (key : List ℕ) (program : List Clause) → own_part before old.number ≡ old.own → BeginsIn old.number call key program before after → HasBegunInHold call key program old new
  pass_begins call key program own_was b = record {
    more = mine old.number b.more;
    front = front_is (Begun old.number call key program ∷ b.more) (Begun old.number call key program ∷ mine old.number b.more) b.makes (mine_own old.number (Begun old.number call key program) b.more refl);
    of_call = b.of_call;
    none_lost = b.none_lost;
    is_open = open_then call b.is_open;
    first = ap rounds_in own ∙ b.first;
    unmet = ap is_met_in own ∙ b.unmet;
    beside = ap beside_in own ∙ b.beside ∙ own_was;
    wanted = ap (wanted_by old.number) seen ∙ b.wanted;
  }

  pub pass_begins_not : (key : List ℕ) (program : List Clause) (told : Answer) → own_part before old.number ≡ old.own → NothingIsOpen (own_part before old.number) → BeginsNot old.number key program before after told → HasNotBegun key program old new told
  pass_begins_not key program told own_was free (begins.ends_at_once call rounds makes leaves no_conflict) =
      let n : ℕ = old.number in
      let begun : Mark = Begun n call key program in
      let ended : Mark = Ended n call rounds told in
      changes.ends_at_once call rounds (front_is (begun ∷ ended ∷ []) (begun ∷ ended ∷ []) makes (mine_own n begun (ended ∷ []) refl ∙ ap (λ (l : List Mark). begun ∷ l) (mine_own n ended [] refl)))
      (last_then (begun ∷ []) ended makes) (own ∙ leaves.still free ∙ own_was) no_conflict
  pass_begins_not key program told own_was free (begins.is_refused refusal makes leaves) = changes.is_refused (subst (λ (l : List Mark). IsRefusalBehind (length l) told) (sym seen) refusal) (front_of [] makes) (own ∙ leaves.still free ∙ own_was)

  pub pass_goes_on : (call most : ℕ) → own_part before old.number ≡ old.own → GoesOnIn old.number call most before after → HasGoneOnInHold call most old new
  pass_goes_on call most own_was g = record {
    marks = mine old.number g.marks;
    front = front_of g.marks g.makes;
    of_call = g.of_call;
    few = g.few;
    is_open = open_then call g.is_open;
    beside = ap beside_in own ∙ g.beside ∙ ap beside_in own_was;
    wanted = ap (wanted_by old.number) seen ∙ g.wanted ∙ wanted_seen old.number old.seen before.marks has;
  }

  pub pass_ends : (call most : ℕ) (told : Answer) → own_part before old.number ≡ old.own → NothingIsOpen (beside_in (own_part before old.number)) → EndsMarked old.number call most before after told → HasEndedInHold call (rounds_after (own_part before old.number)) most old new told
  pass_ends call most told own_was alone e =
      let ended : Mark = Ended old.number call (rounds_after (own_part before old.number)) told in
      record {
        marks = mine old.number e.marks;
        front = front_is (e.marks ++ ended ∷ []) (mine old.number e.marks ++ ended ∷ []) e.makes (mine_append old.number e.marks (ended ∷ []) ∙ ap (λ (l : List Mark). mine old.number e.marks ++ l) (mine_own old.number ended [] refl));
        last = last_then e.marks ended e.makes;
        of_call = e.of_call;
        few = e.few;
        still = own ∙ e.still alone ∙ ap beside_in own_was;
      }

  pub pass_strays : StraysIn before after → FrontGoesOn old.number old.seen new.seen []
  pass_strays s = front_is s.marks [] (s.makes old.number) (s.none_own old.number)

  pub pass_strays_wanted : StraysIn before after → wanted_by old.number new.seen ≡ wanted_by old.number old.seen
  pass_strays_wanted s = ap (wanted_by old.number) seen ∙ s.wanted old.number ∙ wanted_seen old.number old.seen before.marks has

-- ---- a hold
-- between a pass and what it is once the hold is given back, a world became another
pub record WasHeld {S V A : Type 0} (n : ℕ) (before after : View S V) (old new : Sitting A Mark) : Type 0 where
  pub number : n ≡ old.number
  pub has : HasSeenOwn owner_of old.number old.seen before.marks
  pub seen : new.seen ≡ after.marks
  pub own : new.own ≡ own_part after old.number
  pub part : own_part before old.number ≡ old.own

pub was_held : {S V : Type 0} (n : ℕ) (before after : View S V) (old held new : Sitting (View S V) Mark) → HasSeenOwn owner_of old.number old.seen before.marks → own_part before old.number ≡ old.own → held ≡ record old { holds = Some before; seen = before.marks } → n ≡ held.number
    → new ≡ record held { holds = None; seen = after.marks; own = own_part after held.number } → WasHeld n before after old new
was_held {S} {V} n before after old held new has part holds number gave = record {
  part = part;
  number = number ∙ ap (λ (s : Sitting (View S V) Mark). s.number) holds;
  has = has;
  seen = ap (λ (s : Sitting (View S V) Mark). s.seen) gave;
  own = ap (λ (s : Sitting (View S V) Mark). s.own) gave ∙ ap (λ (s : Sitting (View S V) Mark). own_part after s.number) holds;
}

-- what is given back was made in the hold
pub gives_back : {S V : Type 0} (n : ℕ) (before after : View S V) (old held : Sitting (View S V) Mark) → held ≡ record old { holds = Some before; seen = before.marks } → n ≡ held.number → IsHeldBy n before after → (x : View S V) → held.holds ≡ Some x → IsHeldBy held.number x after
gives_back {S} {V} n before after old held holds number makes x is =
    subst (λ (v : View S V). IsHeldBy held.number v after) (some_is (ap (λ (s : Sitting (View S V) Mark). s.holds) (sym holds) ∙ is))
    (subst (λ (k : ℕ). IsHeldBy k before after) number makes)

-- a caller with an open call is known
pub held_known : {S V : Type 0} (n number call : ℕ) (before : View S V) (own : List ℕ) → n ≡ number → own_part before number ≡ own → HasOpen call own → IsKept before → n ≤ before.last_proposer
held_known n number call before own same part has kept = open_known before n call (subst (λ (k : ℕ). HasOpen call (own_part before k)) (sym same) (subst (HasOpen call) (sym part) has)) kept

-- ---- by what a hold answers
module _ {S V : Type 0} (n : ℕ) (before after : View S V) (key : List ℕ) (program : List Clause) where
  pub begun_makes : (result : Result Opened Answer) → IfOk result (λ begun. BeginsIn n begun.call key program before after) → IfErr result (BeginsNot n key program before after) → IsHeldBy n before after
  begun_makes (Ok begun) b e = (_, b.makes)
  begun_makes (Err told) b (begins.ends_at_once call rounds makes leaves no_conflict) = (_, makes)
  begun_makes (Err told) b (begins.is_refused refusal makes leaves) = (_, makes)

module _ {S V A : Type 0} (n : ℕ) (before after : View S V) (key : List ℕ) (program : List Clause) where
  pub begun_told : (old new : Sitting A Mark) (result : Result Opened Answer) → WasHeld n before after old new → own_part before old.number ≡ old.own → IfOk result (λ begun. BeginsIn n begun.call key program before after) → IfOk result (λ begun. HasBegunInHold begun.call key program old new)
  begun_told old new (Ok begun) was own_was b = pass_begins before after old new was.has was.seen was.own begun.call key program own_was (subst (λ (k : ℕ). BeginsIn k begun.call key program before after) was.number b)
  begun_told old new (Err told) was own_was b = tt

  pub refused_told : (old new : Sitting A Mark) (result : Result Opened Answer) → WasHeld n before after old new → NothingIsOpen (own_part before old.number) → IfErr result (BeginsNot n key program before after) → IfErr result (HasNotBegun key program old new)
  refused_told old new (Ok begun) was free e = tt
  refused_told old new (Err told) was free e = pass_begins_not before after old new was.has was.seen was.own key program told was.part free (subst (λ (k : ℕ). BeginsNot k key program before after told) was.number e)

module _ {S V Stage : Type 0} (n call most : ℕ) (before after : View S V) where
  pub gone_makes : (result : Result Stage Answer) → OnOk result (GoesOnIn n call most before after) → IfErr result (EndsMarked n call most before after) → IsHeldBy n before after
  gone_makes (Ok stage) g e = (_, g.makes)
  gone_makes (Err told) g e = (_, e.makes)

module _ {S V A Stage : Type 0} (n call most : ℕ) (before after : View S V) where
  pub gone_told : (old new : Sitting A Mark) (result : Result Stage Answer) → WasHeld n before after old new → own_part before old.number ≡ old.own → OnOk result (GoesOnIn n call most before after) → OnOk result (HasGoneOnInHold call most old new)
  gone_told old new (Ok stage) was own_was g = pass_goes_on before after old new was.has was.seen was.own call most own_was (subst (λ (k : ℕ). GoesOnIn k call most before after) was.number g)
  gone_told old new (Err told) was own_was g = tt

  pub ended_told : (old new : Sitting A Mark) (result : Result Stage Answer) → WasHeld n before after old new → own_part before old.number ≡ old.own → NothingIsOpen (beside_in old.own) → IfErr result (EndsMarked n call most before after) → IfErr result (HasEndedInHold call (rounds_after old.own) most old new)
  ended_told old new (Ok stage) was own_was alone e = tt
  ended_told old new (Err told) was own_was alone e =
      subst (λ (own : List ℕ). HasEndedInHold call (rounds_after own) most old new told) own_was
      (pass_ends before after old new was.has was.seen was.own call most told own_was (subst (λ (l : List ℕ). NothingIsOpen (beside_in l)) (sym own_was) alone) (subst (λ (k : ℕ). EndsMarked k call most before after told) was.number e))

  pub rounds_told : (old new : Sitting A Mark) (result : Result Stage Answer) → WasHeld n before after old new → own_part before old.number ≡ old.own → OnOk result (GoesOnIn n call most before after) → OnOk result (rounds_in new.own ≡ rounds_after old.own)
  rounds_told old new (Ok stage) was own_was g = ap rounds_in was.own ∙ (subst (λ (k : ℕ). GoesOnIn k call most before after) was.number g).rounds ∙ ap rounds_after own_was
  rounds_told old new (Err told) was own_was g = tt

module _ {S V A : Type 0} (n : ℕ) (before after : View S V) (old new : Sitting A Mark) (was : WasHeld n before after old new) where
  met_own : is_met_in new.own ≡ is_met_in (own_part after n)
  met_own = ap is_met_in was.own ∙ ap (λ (k : ℕ). is_met_in (own_part after k)) (sym was.number)

  pub met_told : (result : Result Stage Answer) → IfOk result (λ stage. is_met_in (own_part after n) ≡ tells_met stage) → IfOk result (λ stage. is_met_in new.own ≡ tells_met stage)
  met_told (Ok stage) met = met_own ∙ met
  met_told (Err told) met = tt

  pub repeats_told : (may_repeat : Bool) (result : Result Stage Answer) → OnOk result (is_met_in (own_part after n) ≡ true → may_repeat ≡ true) → OnOk result (is_met_in new.own ≡ true → may_repeat ≡ true)
  repeats_told may_repeat (Ok stage) repeats = λ met. repeats (sym met_own ∙ met)
  repeats_told may_repeat (Err told) repeats = tt

-- ---- one hold after another
pub few_then : (a b : List Mark) (most more : ℕ) → losses a ≤ most → losses b ≤ more → losses (a ++ b) ≤ most + more
few_then a b most more few less = let sum = losses_append a b in omega (arith, sum, few, less)

pub counted_none : (harms : ℕ) → IsCounted 0 harms harms
counted_none harms = record { never_falls = omega arith; counted = λ below. omega arith }

pub counted_less : (less most a b : ℕ) → less ≤ most → IsCounted most a b → IsCounted less a b
counted_less less most a b low is = record { never_falls = is.never_falls; counted = λ below. let c = is.counted below in omega (arith, low, c) }

module _ {A : Type 0} (call lost most : ℕ) (a b c d : Sitting A Mark) (number : b.number ≡ a.number) (asked : c ≡ record b { seen = c.seen }) (strays : FrontGoesOn b.number b.seen c.seen []) (wants_same : wanted_by b.number c.seen ≡ wanted_by b.number b.seen) where
  at_first : c.number ≡ a.number
  at_first = ap (λ (s : Sitting A Mark). s.number) asked ∙ number

  whole_front : (marks more : List Mark) → FrontGoesOn a.number a.seen b.seen marks → FrontGoesOn c.number c.seen d.seen more → FrontGoesOn a.number a.seen d.seen (marks ++ more)
  whole_front marks more first then_ =
      goes_on_then a.number a.seen b.seen d.seen marks more first
      (goes_on_then a.number b.seen c.seen d.seen [] more (subst (λ (k : ℕ). FrontGoesOn k b.seen c.seen []) number strays) (subst (λ (k : ℕ). FrontGoesOn k c.seen d.seen more) at_first then_))

  pub gone_then : HasGoneOnInHold call lost a b → HasGoneOnInHold call most c d → HasGoneOnInHold call (lost + most) a d
  gone_then first then_ = record {
    marks = first.marks ++ then_.marks;
    front = whole_front first.marks then_.marks first.front then_.front;
    of_call = All-append (λ mark. call_of mark ≡ Some call) first.marks then_.marks first.of_call then_.of_call;
    few = few_then first.marks then_.marks lost most first.few then_.few;
    is_open = then_.is_open;
    beside = then_.beside ∙ ap (λ (s : Sitting A Mark). beside_in s.own) asked ∙ first.beside;
    wanted = ap (λ (k : ℕ). wanted_by k d.seen) (sym at_first) ∙ then_.wanted ∙ ap (λ (k : ℕ). wanted_by k c.seen) (at_first ∙ sym number) ∙ wants_same ∙ ap (λ (k : ℕ). wanted_by k b.seen) number ∙ first.wanted;
  }

  pub ended_then : (told : Answer) (rounds : ℕ) → HasGoneOnInHold call lost a b → HasEndedInHold call rounds most c d told → HasEndedInHold call rounds (lost + most) a d told
  ended_then told rounds first then_ = record {
    marks = first.marks ++ then_.marks;
    front = subst (FrontGoesOn a.number a.seen d.seen) (sym (append_assoc first.marks then_.marks (Ended a.number call rounds told ∷ [])))
        (whole_front first.marks (then_.marks ++ Ended a.number call rounds told ∷ []) first.front (subst (λ (k : ℕ). FrontGoesOn c.number c.seen d.seen (then_.marks ++ Ended k call rounds told ∷ [])) at_first then_.front));
    last = subst (λ (k : ℕ). IsLast d.seen (Ended k call rounds told)) at_first then_.last;
    of_call = All-append (λ mark. call_of mark ≡ Some call) first.marks then_.marks first.of_call then_.of_call;
    few = few_then first.marks then_.marks lost most first.few then_.few;
    still = then_.still ∙ ap (λ (s : Sitting A Mark). beside_in s.own) asked ∙ first.beside;
  }

-- a call that has just begun has gone on by nothing
pub goes_on_none : {A : Type 0} (call : ℕ) (pass : Sitting A Mark) → HasOpen call pass.own → HasGoneOnInHold call 0 pass pass
goes_on_none call pass has = record {
  marks = [];
  front = record { begins = record { behind = []; whole = append-nil pass.seen }; own_marks = sym (append-nil (mine pass.number pass.seen)) };
  of_call = All-nil (λ mark. call_of mark ≡ Some call);
  few = omega arith;
  is_open = has;
  beside = refl;
  wanted = refl;
}

-- ---- a call that has begun, from hold to hold
-- the pass of a call that has gone on, and what was lost by then
pub record SittingHasRun {A : Type 0} (call harms harms_now : ℕ) (old now : Sitting A Mark) : Type 0 where
  pub pass : now ≡ record old { seen = now.seen; own = now.own }
  pub lost : ℕ
  pub counted : IsCounted lost harms harms_now
  pub gone : HasGoneOnInHold call lost old now

pub run_begins : {A : Type 0} (call harms : ℕ) (pass : Sitting A Mark) → HasOpen call pass.own → SittingHasRun call harms harms pass pass
run_begins call harms pass has = record { pass = refl; lost = 0; counted = counted_none harms; gone = goes_on_none call pass has }

module _ {A : Type 0} (call harms harms_now : ℕ) (a b c : Sitting A Mark) (run : SittingHasRun call harms harms_now a b) (asked : c ≡ record b { seen = c.seen }) where
  pub asked_pass : (board : Turning) → IsPassOf board a → IsPassOf board c
  asked_pass board is = let now = still_pass board a b is run.pass in record {
    turn = ap (λ (s : Sitting A Mark). s.turn) asked ∙ now.turn;
    seats = ap (λ (s : Sitting A Mark). s.seats) asked ∙ now.seats;
    idle = ap (λ (s : Sitting A Mark). s.holds) asked ∙ now.idle;
    seated = let number : c.number ≡ b.number = ap (λ (s : Sitting A Mark). s.number) asked in omega (arith, number, now.seated);
    known = let number : c.number ≡ b.number = ap (λ (s : Sitting A Mark). s.number) asked in omega (arith, number, now.known);
  }

  pub asked_open : HasOpen call c.own
  asked_open = subst (HasOpen call) (sym (ap (λ (s : Sitting A Mark). s.own) asked)) run.gone.is_open

  pub asked_alone : NothingIsOpen (beside_in a.own) → NothingIsOpen (beside_in c.own)
  asked_alone alone = subst NothingIsOpen (sym (ap (λ (s : Sitting A Mark). beside_in s.own) asked ∙ run.gone.beside)) alone

  number_b : b.number ≡ a.number
  number_b = ap (λ (s : Sitting A Mark). s.number) run.pass

  pub asked_wanted : (wanted : _) → wanted_by b.number c.seen ≡ wanted_by b.number b.seen → wanted_by a.number a.seen ≡ wanted → wanted_by c.number c.seen ≡ wanted
  asked_wanted wanted same is = ap (λ (s : Sitting A Mark). wanted_by s.number c.seen) asked ∙ same ∙ ap (λ (k : ℕ). wanted_by k b.seen) number_b ∙ run.gone.wanted ∙ is

  module _ (most harms_then : ℕ) (d : Sitting A Mark) (strays : FrontGoesOn b.number b.seen c.seen []) (wants_same : wanted_by b.number c.seen ≡ wanted_by b.number b.seen) (counts : IsCounted most harms_now harms_then) (gave : d ≡ record c { seen = d.seen; own = d.own }) where
    pub run_pass : d ≡ record a { seen = d.seen; own = d.own }
    run_pass = gave ∙ ap (λ (s : Sitting A Mark). record s { seen = d.seen; own = d.own }) asked ∙ ap (λ (s : Sitting A Mark). record s { seen = d.seen; own = d.own }) run.pass

    pub run_goes_on : HasGoneOnInHold call most c d → SittingHasRun call harms harms_then a d
    run_goes_on gone = record {
      pass = run_pass;
      lost = run.lost + most;
      counted = counted_then run.lost most harms harms_now harms_then run.counted counts;
      gone = gone_then call run.lost most a b c d number_b asked strays wants_same run.gone gone;
    }

    pub run_ends : (told : Answer) (rounds tries : ℕ) → (is_conflict told ≡ true → rounds ≡ tries) → HasEndedInHold call rounds most c d told
        → (lost so_many : ℕ) × IsCounted lost harms harms_then × HasEndedInHold call so_many lost a d told × (is_conflict told ≡ true → so_many ≡ tries)
    run_ends told rounds tries tried ended = (run.lost + most, rounds, counted_then run.lost most harms harms_now harms_then run.counted counts, ended_then call run.lost most a b c d number_b asked strays wants_same told rounds run.gone ended, tried)

-- ---- rounds
-- it has had so many rounds, of which the last ended with a conflict or not; there may be so many, and behind a conflict there is another
pub record HasTried (tries rounds : ℕ) (met : Bool) (own : List ℕ) : Type 0 where
  pub counted : rounds_in own ≡ rounds
  pub tells : is_met_in own ≡ met
  pub within : rounds ≤ tries
  pub more : met ≡ true → rounds < tries

-- how many it has had as it goes on
abbrev pub rounds_now : ℕ → Bool → ℕ
rounds_now rounds met = if met then one_more rounds else rounds

module _ (tries rounds : ℕ) (met : Bool) (own : List ℕ) (tried : HasTried tries rounds met own) where
  pub rounds_same : rounds_after own ≡ rounds_now rounds met
  rounds_same = ap₂ (λ (b : Bool) (r : ℕ). rounds_now r b) tried.tells tried.counted

  pub rounds_within : rounds_now rounds met ≤ tries
  rounds_within = by_test met tried.more tried.within
    where
      by_test : (b : Bool) → (b ≡ true → rounds < tries) → rounds ≤ tries → rounds_now rounds b ≤ tries
      by_test true more within = let low = more refl in let less : one_more rounds ≤ rounds + 1 = min-le_left (rounds + 1) (2 ^ 32 - 1) in omega (arith, low, less)
      by_test false more within = within

  -- with no further one to come it has had all
  pub rounds_spent : (now : ℕ) → now ≡ rounds_now rounds met → tries ≤ now → rounds_after own ≡ tries
  rounds_spent now is spent = let low = rounds_within in let whole : now ≡ tries = omega (arith, is, low, spent) in rounds_same ∙ sym is ∙ whole

  pub tried_on : (now : ℕ) (met_then : Bool) (own_then : List ℕ) → now ≡ rounds_now rounds met → rounds_in own_then ≡ rounds_after own → is_met_in own_then ≡ met_then → (is_met_in own_then ≡ true → now < tries) → HasTried tries now met_then own_then
  tried_on now met_then own_then is goes tells more = record {
    counted = goes ∙ rounds_same ∙ sym is;
    tells = tells;
    within = let low = rounds_within in omega (arith, is, low);
    more = λ m. more (tells ∙ m);
  }

-- asking for a verdict leaves that
pub tried_asked : {A : Type 0} (tries rounds : ℕ) (met : Bool) (b c : Sitting A Mark) → c ≡ record b { seen = c.seen } → HasTried tries rounds met b.own → HasTried tries rounds met c.own
tried_asked {A} tries rounds met b c asked tried = subst (HasTried tries rounds met) (sym (ap (λ (s : Sitting A Mark). s.own) asked)) tried

-- ---- a change
module _ {A : Type 0} (key : List ℕ) (program : List Clause) (harms harms_then : ℕ) where
  pub change_answered : (tries call lost rounds : ℕ) (a b c : Sitting A Mark) (told : Answer) → b.number ≡ a.number → HasBegunInHold call key program a b → IsCounted lost harms harms_then → HasEndedInHold call rounds lost b c told → (is_conflict told ≡ true → rounds ≡ tries) → AnswersChange key program tries harms harms_then a c told
  change_answered tries call lost rounds a b c told number first counted then_ tried =
      let begun : Mark = Begun a.number call key program in
      let ended : Mark = Ended a.number call rounds told in
      changes.is_answered call rounds (first.more ++ then_.marks)
      (subst (λ (l : List Mark). FrontGoesOn a.number a.seen c.seen (begun ∷ l)) (sym (append_assoc first.more then_.marks (ended ∷ [])))
      (goes_on_then a.number a.seen b.seen c.seen (begun ∷ first.more) (then_.marks ++ ended ∷ []) first.front
      (subst (λ (k : ℕ). FrontGoesOn k b.seen c.seen (then_.marks ++ Ended k call rounds told ∷ [])) number then_.front)))
      (All-append (λ mark. call_of mark ≡ Some call) first.more then_.marks first.of_call then_.of_call)
      (counted_less (losses (first.more ++ then_.marks)) lost harms harms_then (let low = few_then first.more then_.marks 0 lost (let none = first.none_lost in omega (arith, none)) then_.few in omega (arith, low)) counted)
      (subst (λ (k : ℕ). IsLast c.seen (Ended k call rounds told)) number then_.last) tried

  pub change_refused : (tries : ℕ) (a c : Sitting A Mark) (told : Answer) → IsCounted 0 harms harms_then → HasNotBegun key program a c told → AnswersChange key program tries harms harms_then a c told
  change_refused tries a c told counted (changes.ends_at_once call rounds front last free no_conflict) = changes.is_answered call rounds [] front (All-nil (λ mark. call_of mark ≡ Some call)) counted last (λ conflict. absurd (cc (no_conflict, conflict)))
  change_refused tries a c told counted (changes.is_refused refusal front free) = changes.is_not_begun refusal counted front

-- a call that was not begun, or ended at once, leaves the pass's own part
pub refused_own : {A : Type 0} (key : List ℕ) (program : List Clause) (a c : Sitting A Mark) (told : Answer) → HasNotBegun key program a c told → c.own ≡ a.own
refused_own key program a c told (changes.ends_at_once call rounds front last still no_conflict) = still
refused_own key program a c told (changes.is_refused refusal front still) = still
