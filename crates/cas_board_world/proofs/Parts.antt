-- What is true of a cluster that nobody stops, as one of its parts changes.
use Rattle.std.proofs.Common.{◌≡◌, ◌≤◌, ◌<◌, ℕ, zero, suc, true, false, List, [], ◌∷◌, ◌++◌, Option, None, Some, refl, sym, ap, subst, ◌∙◌, inl, inr, arith}
use Rattle.std.specs.Prelude.{◌⊎◌, option_map, slice_set, Contains}
use Rattle.cas_base.specs.Faults.{Rose}
use Rattle.cas_ballot.specs.Members.{has_member}
use Rattle.cas_acceptor.specs.Acceptor.{AcceptorView}
use Rattle.cas_proposer.specs.Desk.{DeskView}
use Rattle.cas_quorum.specs.declared.era.Era.{Era}
use Rattle.cas_record.specs.declared.mark.Mark.{Mark}
use Rattle.cas_record.specs.declared.operator.OpAnswer.{OpAnswer}
use Rattle.cas_model.specs.Council.{ExchangeView, OrderView, Council, told_so, telling, silent_order}
use Rattle.cas_model.specs.Eras.Course.{later_of}
use Rattle.cas_model.specs.View.{Meaning, CallerView, IsAt, era_in}
use Rattle.cas_model.proofs.Places.{same_or_not, but_set, at_set, at_one, contains_append, newest_or_older, contains_none}
use Rattle.cas_board_world.specs.Blame.{Blame, Nobody, SomeAcceptor, VaultOf, blame_by, blame_by_op, HasFailedAt}
use Rattle.cas_board_world.specs.Steady.{AreBlamed, WereMembers, IsExcused, IsFair, acceptor_faults, desk_faults, blame_by_call, blame_by_order, blame_by_exchange}

-- ---- faults
pub rose_above : {old new : ℕ} → Rose old new → 0 < new
rose_above (inl more) = omega (arith, more)
rose_above (inr most) = omega (arith, most)

pub stays_above : {old new : ℕ} → old ≤ new → 0 < old → 0 < new
stays_above low some = omega (arith, low, some)

-- at each place is one that has failed, if the one before it had
abbrev pub Lasts : {A : Type 0} → (A → ℕ) → List A → List A → Type 0
Lasts {A} faults old new = (place : ℕ) (x : A) → IsAt old place x → (y : A) × IsAt new place y × (0 < faults x → 0 < faults y)

pub lasts_same : {A : Type 0} (faults : A → ℕ) (xs : List A) → Lasts faults xs xs
lasts_same faults xs place x at = (x, at, λ some. some)

other_at : {A : Type 0} (xs : List A) (place p : ℕ) (x y : A) → (p ≡ place → ⊥) → IsAt xs p x → IsAt (slice_set xs place y) p x
other_at [] place p x y other at = absurd (cc at)
other_at (z ∷ xs) zero zero x y other at = absurd (other refl)
other_at (z ∷ xs) zero (suc p) x y other at = at
other_at (z ∷ xs) (suc place) zero x y other at = at
other_at (z ∷ xs) (suc place) (suc p) x y other at = other_at xs place p x y (λ e. other (ap suc e)) at

pub lasts_set : {A : Type 0} (faults : A → ℕ) (xs : List A) (place : ℕ) (was now : A) → IsAt xs place was → (0 < faults was → 0 < faults now) → Lasts faults xs (slice_set xs place now)
lasts_set {A} faults xs place was now at low p x at_x = elim (same_or_not p place) [
  | inl same ↦
      let at_was : IsAt xs place x = subst (λ (n : ℕ). IsAt xs n x) same at_x in
      (now, subst (λ (n : ℕ). IsAt (slice_set xs place now) n now) (sym same) (at_set xs place was now at), subst (λ (z : A). 0 < faults z → 0 < faults now) (at_one xs place at at_was) low)
  | inr other ↦ (x, other_at xs place p x now other at_x, λ some. some)
]

pub failed_then : {A : Type 0} (faults : A → ℕ) (old new : List A) (place : ℕ) → Lasts faults old new → HasFailedAt faults old place → HasFailedAt faults new place
failed_then faults old new place lasts was =
    let now = lasts place was.one was.at in
    record { one = now.0; at = now.1; failed = now.2 was.failed }

pub fair_then : {S V : Type 0} (m : Meaning S V) (acceptors more : List (AcceptorView S)) (desks rest : List (DeskView V)) (blame : Blame) → Lasts (acceptor_faults m) acceptors more → Lasts (desk_faults m) desks rest
    → IsFair m acceptors desks blame → IsFair m more rest blame
fair_then m acceptors more desks rest Nobody first second was = tt
fair_then m acceptors more desks rest SomeAcceptor first second was = (was.0, failed_then (acceptor_faults m) acceptors more was.0 first was.1)
fair_then m acceptors more desks rest (VaultOf p) first second was = failed_then (desk_faults m) desks rest p second was

-- nobody is blamed
pub fair_nobody : {S V : Type 0} (m : Meaning S V) (acceptors : List (AcceptorView S)) (desks : List (DeskView V)) (blame : Blame) → blame ≡ Nobody → IsFair m acceptors desks blame
fair_nobody m acceptors desks blame is = subst (IsFair m acceptors desks) (sym is) tt

-- ---- an acceptor changes
pub on_acceptors : {S V : Type 0} (m : Meaning S V) {were : List ℕ} {acceptors : List (AcceptorView S)} {desks : List (DeskView V)} {eras : List Era} {callers : List CallerView} {council : Council} {marks : List Mark}
    → AreBlamed m were acceptors desks eras callers council marks → (id : ℕ) (was now : AcceptorView S) → IsAt acceptors id was → (0 < acceptor_faults m was → 0 < acceptor_faults m now) → (now.down ≡ true → IsExcused m were id now)
    → AreBlamed m were (slice_set acceptors id now) desks eras callers council marks
on_acceptors {S} {V} m {were} {acceptors} {desks} {eras} {callers} {council} {marks} is id was now at low excused = record {
  excused = λ p acceptor at_p down. elim (but_set acceptors id now p acceptor at_p) [
    | inl same ↦ subst (λ (n : ℕ). IsExcused m were n acceptor) (sym same.0) (subst (IsExcused m were id) (sym same.1) (excused (sym (ap (λ (a : AcceptorView S). a.down) same.1) ∙ down)))
    | inr other ↦ is.excused p acceptor other.1 down
  ];
  failed = is.failed;
  calls = λ p caller at_p. then_ _ (is.calls p caller at_p);
  order = then_ _ is.order;
  exchange = then_ _ is.exchange;
  were_set = is.were_set;
  in_eras = is.in_eras;
  later = is.later;
  asked = is.asked;
  marked = λ mark there. then_ _ (is.marked mark there);
}
  where
    then_ : (blame : Blame) → IsFair m acceptors desks blame → IsFair m (slice_set acceptors id now) desks blame
    then_ blame fair = fair_then m acceptors (slice_set acceptors id now) desks desks blame (lasts_set (acceptor_faults m) acceptors id was now at low) (lasts_same (desk_faults m) desks) fair

-- one that is up, or has failed
pub acceptor_up : {S V : Type 0} (m : Meaning S V) {were : List ℕ} {acceptors : List (AcceptorView S)} {desks : List (DeskView V)} {eras : List Era} {callers : List CallerView} {council : Council} {marks : List Mark}
    → AreBlamed m were acceptors desks eras callers council marks → (id : ℕ) (was now : AcceptorView S) → IsAt acceptors id was → (0 < acceptor_faults m was → 0 < acceptor_faults m now) → now.down ≡ false
    → AreBlamed m were (slice_set acceptors id now) desks eras callers council marks
acceptor_up m is id was now at low up = on_acceptors m is id was now at low (λ down. absurd (cc (sym up ∙ down)))

pub acceptor_failed : {S V : Type 0} (m : Meaning S V) {were : List ℕ} {acceptors : List (AcceptorView S)} {desks : List (DeskView V)} {eras : List Era} {callers : List CallerView} {council : Council} {marks : List Mark}
    → AreBlamed m were acceptors desks eras callers council marks → (id : ℕ) (was now : AcceptorView S) → IsAt acceptors id was → Rose (acceptor_faults m was) (acceptor_faults m now)
    → AreBlamed m were (slice_set acceptors id now) desks eras callers council marks
acceptor_failed m is id was now at rose = on_acceptors m is id was now at (λ before. rose_above rose) (λ down. inl (rose_above rose))

-- ---- a desk changes
pub on_desks : {S V : Type 0} (m : Meaning S V) {were : List ℕ} {acceptors : List (AcceptorView S)} {desks : List (DeskView V)} {eras : List Era} {callers : List CallerView} {council : Council} {marks : List Mark}
    → AreBlamed m were acceptors desks eras callers council marks → (id : ℕ) (was now : DeskView V) → IsAt desks id was → (0 < desk_faults m was → 0 < desk_faults m now) → (now.down ≡ true → 0 < desk_faults m now)
    → AreBlamed m were acceptors (slice_set desks id now) eras callers council marks
on_desks {S} {V} m {were} {acceptors} {desks} {eras} {callers} {council} {marks} is id was now at low failed = record {
  excused = is.excused;
  failed = λ p desk at_p down. elim (but_set desks id now p desk at_p) [
    | inl same ↦ subst (λ (d : DeskView V). 0 < desk_faults m d) (sym same.1) (failed (sym (ap (λ (d : DeskView V). d.down) same.1) ∙ down))
    | inr other ↦ is.failed p desk other.1 down
  ];
  calls = λ p caller at_p. then_ _ (is.calls p caller at_p);
  order = then_ _ is.order;
  exchange = then_ _ is.exchange;
  were_set = is.were_set;
  in_eras = is.in_eras;
  later = is.later;
  asked = is.asked;
  marked = λ mark there. then_ _ (is.marked mark there);
}
  where
    then_ : (blame : Blame) → IsFair m acceptors desks blame → IsFair m acceptors (slice_set desks id now) blame
    then_ blame fair = fair_then m acceptors acceptors desks (slice_set desks id now) blame (lasts_same (acceptor_faults m) acceptors) (lasts_set (desk_faults m) desks id was now at low) fair

-- one that is down only where it was
pub desk_goes_on : {S V : Type 0} (m : Meaning S V) {were : List ℕ} {acceptors : List (AcceptorView S)} {desks : List (DeskView V)} {eras : List Era} {callers : List CallerView} {council : Council} {marks : List Mark}
    → AreBlamed m were acceptors desks eras callers council marks → (id : ℕ) (was now : DeskView V) → IsAt desks id was → (0 < desk_faults m was → 0 < desk_faults m now) → now.down ≡ was.down
    → AreBlamed m were acceptors (slice_set desks id now) eras callers council marks
desk_goes_on {S} {V} m is id was now at low same =
    on_desks m is id was now at low (λ down. low (is.failed id was at (sym same ∙ down)))

-- one that has failed, which is at its place then
pub desk_failed : {S V : Type 0} (m : Meaning S V) {were : List ℕ} {acceptors : List (AcceptorView S)} {desks : List (DeskView V)} {eras : List Era} {callers : List CallerView} {council : Council} {marks : List Mark}
    → AreBlamed m were acceptors desks eras callers council marks → (id : ℕ) (was now : DeskView V) → IsAt desks id was → Rose (desk_faults m was) (desk_faults m now)
    → AreBlamed m were acceptors (slice_set desks id now) eras callers council marks × HasFailedAt (desk_faults m) (slice_set desks id now) id
desk_failed m {were} {acceptors} {desks} is id was now at rose =
    (on_desks m is id was now at (λ before. rose_above rose) (λ down. rose_above rose), record { one = now; at = at_set desks id was now at; failed = rose_above rose })

-- ---- a caller changes
pub on_callers : {S V : Type 0} (m : Meaning S V) {were : List ℕ} {acceptors : List (AcceptorView S)} {desks : List (DeskView V)} {eras : List Era} {callers : List CallerView} {council : Council} {marks : List Mark}
    → AreBlamed m were acceptors desks eras callers council marks → (id : ℕ) (now : CallerView) → IsFair m acceptors desks (blame_by_call id now.call)
    → AreBlamed m were acceptors desks eras (slice_set callers id now) council marks
on_callers {S} {V} m {were} {acceptors} {desks} {eras} {callers} {council} {marks} is id now fair = record {
  excused = is.excused;
  failed = is.failed;
  calls = λ p caller at_p. elim (but_set callers id now p caller at_p) [
    | inl same ↦ subst (λ (n : ℕ). IsFair m acceptors desks (blame_by_call n caller.call)) (sym same.0) (subst (λ (c : CallerView). IsFair m acceptors desks (blame_by_call id c.call)) (sym same.1) fair)
    | inr other ↦ is.calls p caller other.1
  ];
  order = is.order;
  exchange = is.exchange;
  were_set = is.were_set;
  in_eras = is.in_eras;
  later = is.later;
  asked = is.asked;
  marked = is.marked;
}

-- ---- marks are made
pub on_marks : {S V : Type 0} (m : Meaning S V) {were : List ℕ} {acceptors : List (AcceptorView S)} {desks : List (DeskView V)} {eras : List Era} {callers : List CallerView} {council : Council} {marks : List Mark}
    → AreBlamed m were acceptors desks eras callers council marks → (more : List Mark) → ((mark : Mark) → Contains more mark → IsFair m acceptors desks (blame_by mark))
    → AreBlamed m were acceptors desks eras callers council (marks ++ more)
on_marks {S} {V} m {were} {acceptors} {desks} {eras} {callers} {council} {marks} is more fair = record {
  excused = is.excused;
  failed = is.failed;
  calls = is.calls;
  order = is.order;
  exchange = is.exchange;
  were_set = is.were_set;
  in_eras = is.in_eras;
  later = is.later;
  asked = is.asked;
  marked = λ mark there. elim (contains_append marks more there) [
    | inl before ↦ is.marked mark before
    | inr now ↦ fair mark now
  ];
}

pub on_mark : {S V : Type 0} (m : Meaning S V) {were : List ℕ} {acceptors : List (AcceptorView S)} {desks : List (DeskView V)} {eras : List Era} {callers : List CallerView} {council : Council} {marks : List Mark}
    → AreBlamed m were acceptors desks eras callers council marks → (mark : Mark) → IsFair m acceptors desks (blame_by mark) → AreBlamed m were acceptors desks eras callers council (marks ++ mark ∷ [])
on_mark {S} {V} m {were} {acceptors} {desks} is mark fair = on_marks m is (mark ∷ []) (λ other there. elim (newest_or_older [] there) [
  | inl now ↦ subst (λ (k : Mark). IsFair m acceptors desks (blame_by k)) now fair
  | inr none ↦ absurd (contains_none none)
])

-- ---- a proposer works in another era
era_set : (eras : List Era) (place p : ℕ) (era : Era) → (era_in (slice_set eras place era) p ≡ era_in eras p) ⊎ (era_in (slice_set eras place era) p ≡ era)
era_set [] place p era = inl refl
era_set (e ∷ eras) zero zero era = inr refl
era_set (e ∷ eras) zero (suc p) era = inl refl
era_set (e ∷ eras) (suc place) zero era = inl refl
era_set (e ∷ eras) (suc place) (suc p) era = era_set eras place p era

pub on_eras : {S V : Type 0} (m : Meaning S V) {were : List ℕ} {acceptors : List (AcceptorView S)} {desks : List (DeskView V)} {eras : List Era} {callers : List CallerView} {council : Council} {marks : List Mark}
    → AreBlamed m were acceptors desks eras callers council marks → (id : ℕ) (era : Era) → WereMembers were era → AreBlamed m were acceptors desks (slice_set eras id era) callers council marks
on_eras {S} {V} m {were} {acceptors} {desks} {eras} {callers} {council} {marks} is id era used = record {
  excused = is.excused;
  failed = is.failed;
  calls = is.calls;
  order = is.order;
  exchange = is.exchange;
  were_set = is.were_set;
  in_eras = λ p. elim (era_set eras id p era) [
    | inl same ↦ subst (WereMembers were) (sym same) (is.in_eras p)
    | inr new ↦ subst (WereMembers were) (sym new) used
  ];
  later = is.later;
  asked = is.asked;
  marked = is.marked;
}

-- ---- the operator
-- all else stays
pub on_council : {S V : Type 0} (m : Meaning S V) {were : List ℕ} {acceptors : List (AcceptorView S)} {desks : List (DeskView V)} {eras : List Era} {callers : List CallerView} {council : Council} {marks : List Mark}
    → AreBlamed m were acceptors desks eras callers council marks → (now : Council) → IsFair m acceptors desks (blame_by_order now.order) → IsFair m acceptors desks (blame_by_exchange now.exchange)
    → ((era : Era) → Contains (later_of now.plan) era → WereMembers were era)
    → ((exchange : ExchangeView) → now.exchange ≡ Some exchange → (acceptor : ℕ) → has_member exchange.members acceptor ≡ true → has_member were acceptor ≡ true)
    → AreBlamed m were acceptors desks eras callers now marks
on_council {S} {V} m {were} {acceptors} {desks} {eras} {callers} {council} {marks} is now order exchange later asked = record {
  excused = is.excused;
  failed = is.failed;
  calls = is.calls;
  order = order;
  exchange = exchange;
  were_set = is.were_set;
  in_eras = is.in_eras;
  later = later;
  asked = asked;
  marked = is.marked;
}

-- its open call is told something, or nothing
told_order : {S V : Type 0} (m : Meaning S V) (acceptors : List (AcceptorView S)) (desks : List (DeskView V)) (order : Option OrderView) (answer : OpAnswer) → IsFair m acceptors desks (blame_by_op answer)
    → IsFair m acceptors desks (blame_by_order (option_map (told_so answer) order))
told_order m acceptors desks None answer fair = tt
told_order m acceptors desks (Some order) answer fair = fair

pub hushed_order : {S V : Type 0} (m : Meaning S V) (acceptors : List (AcceptorView S)) (desks : List (DeskView V)) (order : Option OrderView) → IsFair m acceptors desks (blame_by_order (option_map silent_order order))
hushed_order m acceptors desks None = tt
hushed_order m acceptors desks (Some order) = tt

pub on_telling : {S V : Type 0} (m : Meaning S V) {were : List ℕ} {acceptors : List (AcceptorView S)} {desks : List (DeskView V)} {eras : List Era} {callers : List CallerView} {council : Council} {marks : List Mark}
    → AreBlamed m were acceptors desks eras callers council marks → (answer : OpAnswer) → IsFair m acceptors desks (blame_by_op answer) → AreBlamed m were acceptors desks eras callers (telling council answer) marks
on_telling {S} {V} m {were} {acceptors} {desks} {eras} {callers} {council} {marks} is answer fair =
    on_council m is (telling council answer) (told_order m acceptors desks council.order answer fair) is.exchange is.later is.asked

-- and its exchange is over
pub on_gathered : {S V : Type 0} (m : Meaning S V) {were : List ℕ} {acceptors : List (AcceptorView S)} {desks : List (DeskView V)} {eras : List Era} {callers : List CallerView} {council : Council} {marks : List Mark}
    → AreBlamed m were acceptors desks eras callers council marks → (answer : OpAnswer) → IsFair m acceptors desks (blame_by_op answer) → AreBlamed m were acceptors desks eras callers (record (telling council answer) { exchange = None }) marks
on_gathered {S} {V} m {were} {acceptors} {desks} {eras} {callers} {council} {marks} is answer fair =
    on_council m is (record (telling council answer) { exchange = None }) (told_order m acceptors desks council.order answer fair) tt is.later (λ exchange none. absurd (cc none))
