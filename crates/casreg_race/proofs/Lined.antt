-- Callers that were lined up from their passes, and what they ran.
use Rattle.std.proofs.Common.{◌≡◌, ◌+◌, ◌<◌, ℕ, zero, suc, List, [], ◌∷◌, ◌++◌, length, map, Some, refl, sym, ap, subst, ◌∙◌, arith}
use Rattle.std.specs.Prelude.{slice_get, slice_index_or, All}
use Rattle.std.specs.List.{range_with_len}
use Rattle.std.proofs.lemmas.List.{length-map, map-append}
use Rattle.std.proofs.lemmas.List.FromFn.{length-range_with_len}
use Rattle.std.proofs.lemmas.Option.{get_or_from_slice_get, slice_get-get_or}
use Rattle.cas_model.proofs.Places.{some_is}
use Rattle.cas_model.proofs.Safety.Parts.{low_at, at_low}
use Rattle.cas_record.specs.declared.mark.Mark.{Mark}
use Rattle.cas_turn.specs.Seen.{Begins}
use Rattle.cas_turn.specs.Sitting.{Sitting, TurnId, Turning, fresh_seat, fresh_seats}
use Rattle.cas_board_steps.specs.Mine.{mine, losses}
use Rattle.cas_board_steps.specs.Calls.Open.{NothingIsOpen, rescanned_in}
use Rattle.cas_board.specs.Changes.{IsCounted}
use Rattle.cas_board.specs.Passes.{IsPassOf}
use Rattle.casreg_tasks.specs.Tasks.{AreParted, tasks_of}
use Rattle.casreg_tasks.specs.declared.tasks.Task.{Task}
use Rattle.casreg_race.specs.declared.told.Told.{Told}
use Rattle.casreg_race.specs.Runs.{IsMeantFor, IsReady, HasRoomForAnswers, HasRun, HasRaced, RanBehind, ArePassesOf, AreRaced}
use Rattle.casreg_race.proofs.Meant.{all_meant}
use Rattle.cas_board.proofs.Passes.{still_pass}

-- ---- lists by their places
pub at_mapped : {A B : Type 0} (f : A → B) (xs : List A) (n : ℕ) (y : B) → slice_get (map f xs) n ≡ Some y → (x : A) × (slice_get xs n ≡ Some x) × (f x ≡ y)
at_mapped f [] n y at = absurd (cc at)
at_mapped f (x ∷ xs) zero y at = (x, refl, some_is at)
at_mapped f (x ∷ xs) (suc n) y at = at_mapped f xs n y at

pub map_at : {A B : Type 0} (f : A → B) (xs : List A) (n : ℕ) (x : A) → slice_get xs n ≡ Some x → slice_get (map f xs) n ≡ Some (f x)
map_at f [] n x at = absurd (cc at)
map_at f (y ∷ xs) zero x at = ap (λ (z : _). Some (f z)) (some_is at)
map_at f (y ∷ xs) (suc n) x at = map_at f xs n x at

front_at : {A : Type 0} (xs ys : List A) (n : ℕ) (x : A) → slice_get xs n ≡ Some x → slice_get (xs ++ ys) n ≡ Some x
front_at [] ys n x at = absurd (cc at)
front_at (y ∷ xs) ys zero x at = at
front_at (y ∷ xs) ys (suc n) x at = front_at xs ys n x at

one_at : {A : Type 0} (xs : List A) (n : ℕ) (x y : A) → slice_get xs n ≡ Some x → slice_get xs n ≡ Some y → x ≡ y
one_at xs n x y at also = some_is (sym at ∙ also)

map_twice : {A B C : Type 0} (f : A → B) (h : B → C) (xs : List A) → map h (map f xs) ≡ map (λ x. h (f x)) xs
map_twice f h [] = refl
map_twice {C = C} f h (x ∷ xs) = ap (λ (l : List C). h (f x) ∷ l) (map_twice f h xs)

pub map_given : {A B C : Type 0} (f : A → B) (h : B → C) (xs : List A) (all : List B) → all ≡ map f xs → map h all ≡ map (λ x. h (f x)) xs
map_given f h xs all is = ap (map h) is ∙ map_twice f h xs

pub map_parts : {A B C : Type 0} (f : A → B) (h : B → C) (xs : List A) (rest all : List B) → map f xs ++ rest ≡ all → map (λ x. h (f x)) xs ++ map h rest ≡ map h all
map_parts {C = C} f h xs rest all is = ap (λ (l : List C). l ++ map h rest) (sym (map_twice f h xs)) ∙ sym (map-append h (map f xs) rest) ∙ ap (map h) is

-- ---- new passes
range_at : (from count n k : ℕ) → slice_get (range_with_len from count) n ≡ Some k → k ≡ from + n
range_at from zero n k at = absurd (cc at)
range_at from (suc count) zero k at = let same = some_is at in omega (arith, same)
range_at from (suc count) (suc n) k at = let later = range_at (from + 1) count n k at in omega (arith, later)

pub fresh_at : {V : Type 0} (turn : TurnId) (count : ℕ) (first : List Mark) (n : ℕ) (pass : Sitting V Mark) → slice_get (fresh_seats turn count first) n ≡ Some pass → pass ≡ fresh_seat turn count first n
fresh_at turn count first n pass at =
    let found = at_mapped (fresh_seat turn count first) (range_with_len 0 count) n pass at in
    sym found.2 ∙ ap (fresh_seat turn count first) (let k = range_at 0 count n found.0 found.1 in let e : found.0 ≡ n = omega (arith, k) in e)

seats_count : (V : Type 0) (board : TurnId) (proposers : ℕ) (first : List Mark) → length (fresh_seats {V = V} {I = Mark} board (proposers + 1) first) ≡ suc proposers
seats_count V board proposers first =
    let seats = length-map (range_with_len 0 (proposers + 1)) (fresh_seat {V = V} {I = Mark} board (proposers + 1) first) in
    let range = length-range_with_len 0 (proposers + 1) in
    omega (arith, seats, range)

pub count_of : {V : Type 0} (board : TurnId) (proposers : ℕ) (first : List Mark) (passes : List (Sitting V Mark)) → passes ≡ fresh_seats board (proposers + 1) first → length passes ≡ suc proposers
count_of {V} board proposers first passes fresh = ap (λ (l : List (Sitting V Mark)). length l) fresh ∙ seats_count V board proposers first

module _ {V : Type 0} (board : Turning) (proposers : ℕ) (first : List Mark) (passes : List (Sitting V Mark)) (fresh : passes ≡ fresh_seats board.id (proposers + 1) first) (idle : All (λ pass. IsPassOf board pass × NothingIsOpen pass.own) passes) where
  pub idle_at : (n : ℕ) (pass : Sitting V Mark) → slice_get passes n ≡ Some pass → IsPassOf board pass × NothingIsOpen pass.own
  idle_at n pass at = subst (λ (p : Sitting V Mark). IsPassOf board p × NothingIsOpen p.own) (get_or_from_slice_get passes n pass pass at) (idle n pass (low_at passes n at))

  pub number_at : (n : ℕ) (pass : Sitting V Mark) → slice_get passes n ≡ Some pass → pass.number ≡ n
  number_at n pass at = ap (λ (s : Sitting V Mark). s.number) (fresh_at board.id (proposers + 1) first n pass (subst (λ (l : List (Sitting V Mark)). slice_get l n ≡ Some pass) fresh at))

  -- those of a new board
  pub new_passes : ArePassesOf board proposers passes
  new_passes = record { count = count_of board.id proposers first passes fresh; each = λ n pass at. ((idle_at n pass at).0, number_at n pass at) }

  -- and so are those of the racers that are made of them
  pub racers_idle : {R : Type 0} (pass_of : R → Sitting V Mark) (racers : List R) → map pass_of racers ≡ passes → (n : ℕ) (r : R) → slice_get racers n ≡ Some r → IsPassOf board (pass_of r)
  racers_idle pass_of racers are n r at = (idle_at n (pass_of r) (subst (λ (l : List (Sitting V Mark)). slice_get l n ≡ Some (pass_of r)) are (map_at pass_of racers n r at))).0

-- ---- racers that are lined up
module _ {R Asks Says : Type 0} (tasks_in : R → Asks) (told_in : R → Says) (asks : Asks → List Task) (says : Says → List Told) (room : Says → ℕ) (racers : List R) (tasks : List Asks) (told : List Says)
    (tasks_are : map tasks_in racers ≡ tasks) (told_are : map told_in racers ≡ told) where
  tasks_at : (n : ℕ) (r : R) → slice_get racers n ≡ Some r → slice_get tasks n ≡ Some (tasks_in r)
  tasks_at n r at = subst (λ (l : List Asks). slice_get l n ≡ Some (tasks_in r)) tasks_are (map_at tasks_in racers n r at)

  told_at : (n : ℕ) (r : R) → slice_get racers n ≡ Some r → slice_get told n ≡ Some (told_in r)
  told_at n r at = subst (λ (l : List Says). slice_get l n ≡ Some (told_in r)) told_are (map_at told_in racers n r at)

  room_at : ((n : ℕ) (of_caller : Asks) (of_answers : Says) → n < length tasks → HasRoomForAnswers (asks (slice_index_or tasks n of_caller)) (says (slice_index_or told n of_answers)) (room (slice_index_or told n of_answers)))
      → (n : ℕ) (r : R) → slice_get racers n ≡ Some r → HasRoomForAnswers (asks (tasks_in r)) (says (told_in r)) (room (told_in r))
  room_at rooms n r at =
      subst (λ (l : Asks). HasRoomForAnswers (asks l) (says (told_in r)) (room (told_in r))) (get_or_from_slice_get tasks n (tasks_in r) (tasks_in r) (tasks_at n r at))
      (subst (λ (l : Says). HasRoomForAnswers (asks (slice_index_or tasks n (tasks_in r))) (says l) (room l)) (get_or_from_slice_get told n (told_in r) (told_in r) (told_at n r at))
      (rooms n (tasks_in r) (told_in r) (low_at tasks n (tasks_at n r at))))

  module _ (proposers : ℕ) (lines : List (List ℕ)) (bad : List ℕ) (parted : AreParted proposers lines bad (map asks tasks)) where
    pub asks_at : (n : ℕ) (r : R) → slice_get racers n ≡ Some r → asks (tasks_in r) ≡ tasks_of proposers n lines
    asks_at n r at =
        let here : slice_get (map asks tasks) n ≡ Some (asks (tasks_in r)) = map_at asks tasks n (tasks_in r) (tasks_at n r at) in
        sym (get_or_from_slice_get (map asks tasks) n (asks (tasks_in r)) [] here) ∙ parted.tasks_are n (let low = low_at (map asks tasks) n here in let callers = parted.callers in omega (arith, low, callers))

    pub ready_all : {V : Type 0} (pass_of : R → Sitting V Mark) (board : Turning) (first : List Mark) (passes : List (Sitting V Mark)) → map pass_of racers ≡ passes → passes ≡ fresh_seats board.id (proposers + 1) first → All (λ pass. IsPassOf board pass × NothingIsOpen pass.own) passes
        → ((n : ℕ) (of_caller : Asks) (of_answers : Says) → n < length tasks → HasRoomForAnswers (asks (slice_index_or tasks n of_caller)) (says (slice_index_or told n of_answers)) (room (slice_index_or told n of_answers)))
        → All (λ r. IsReady board (pass_of r) (asks (tasks_in r)) (says (told_in r)) (room (told_in r))) racers
    ready_all {V} pass_of board first passes passes_are fresh idle rooms k d low =
        let r = slice_index_or racers k d in
        let at : slice_get racers k ≡ Some r = slice_get-get_or racers k d low in
        let at_pass : slice_get passes k ≡ Some (pass_of r) = subst (λ (l : List (Sitting V Mark)). slice_get l k ≡ Some (pass_of r)) passes_are (map_at pass_of racers k r at) in
        let has = room_at rooms k r at in
        let is = idle_at board proposers first passes fresh idle k (pass_of r) at_pass in
        record {
          is_pass = is.0;
          free = is.1;
          meant = subst (λ (n : ℕ). All (IsMeantFor n) (asks (tasks_in r))) (sym (number_at board proposers first passes fresh idle k (pass_of r) at_pass))
              (subst (λ (l : List Task). All (IsMeantFor k) l) (sym (asks_at k r at)) (all_meant proposers k lines));
          untold = has.none;
          enough = has.enough;
        }

-- ---- racers that have run
module _ {R V : Type 0} (pass_of : R → Sitting V Mark) (harms_of : R → ℕ) (asked_of : R → List Task) (told_of : R → List Told) (tells : Type 0) (tries : ℕ) (old new : List R) (as_many : length new ≡ length old)
    (ran : (i : ℕ) (d : R) → i < length old → HasRaced tells tries (harms_of (slice_index_or old i d)) (harms_of (slice_index_or new i d)) (asked_of (slice_index_or old i d)) (told_of (slice_index_or new i d)) (pass_of (slice_index_or old i d)) (pass_of (slice_index_or new i d))) where
  ran_at : (n : ℕ) (was now : R) → slice_get old n ≡ Some was → slice_get new n ≡ Some now → HasRaced tells tries (harms_of was) (harms_of now) (asked_of was) (told_of now) (pass_of was) (pass_of now)
  ran_at n was now at_was at_now =
      subst (λ (r : R). HasRaced tells tries (harms_of was) (harms_of r) (asked_of was) (told_of r) (pass_of was) (pass_of r)) (get_or_from_slice_get new n now was at_now)
      (subst (λ (r : R). HasRaced tells tries (harms_of r) (harms_of (slice_index_or new n was)) (asked_of r) (told_of (slice_index_or new n was)) (pass_of r) (pass_of (slice_index_or new n was))) (get_or_from_slice_get old n was was at_was)
      (ran n was (low_at old n at_was)))

  -- the racer at the same place before
  before : (n : ℕ) (now : R) → slice_get new n ≡ Some now → (was : R) × (slice_get old n ≡ Some was)
  before n now at = at_low old n (let low = low_at new n at in omega (arith, low, as_many))

  module _ (board : Turning) (proposers : ℕ) (first : List Mark) (fresh : map pass_of old ≡ fresh_seats board.id (proposers + 1) first) where
    count_old : length old ≡ suc proposers
    count_old = sym (length-map old pass_of) ∙ count_of board.id proposers first (map pass_of old) fresh

    pass_was : (n : ℕ) (was : R) → slice_get old n ≡ Some was → pass_of was ≡ fresh_seat board.id (proposers + 1) first n
    pass_was n was at = fresh_at board.id (proposers + 1) first n (pass_of was) (subst (λ (l : List (Sitting V Mark)). slice_get l n ≡ Some (pass_of was)) fresh (map_at pass_of old n was at))

    number_now : (n : ℕ) (was now : R) → slice_get old n ≡ Some was → slice_get new n ≡ Some now → (pass_of now).number ≡ n
    number_now n was now at_was at_now = ap (λ (s : Sitting V Mark). s.number) (ran_at n was now at_was at_now).pass ∙ ap (λ (s : Sitting V Mark). s.number) (pass_was n was at_was)

    pub passes_are : ((n : ℕ) (was : R) → slice_get old n ≡ Some was → IsPassOf board (pass_of was)) → ArePassesOf board proposers (map pass_of new)
    passes_are idle = record {
      count = length-map new pass_of ∙ as_many ∙ count_old;
      each = λ n pass at.
          let now = at_mapped pass_of new n pass at in
          let was = before n now.0 now.1 in
          subst (λ (p : Sitting V Mark). IsPassOf board p × (p.number ≡ n)) now.2
          (still_pass board (pass_of was.0) (pass_of now.0) (idle n was.0 was.1) (ran_at n was.0 now.0 was.1 now.1).pass, number_now n was.0 now.0 was.1 now.1);
    }

    -- its front was the first marks
    first_before : (n : ℕ) (was : R) → slice_get old n ≡ Some was → mine (pass_of was).number (pass_of was).seen ≡ mine n first
    first_before n was at = ap (λ (s : Sitting V Mark). mine s.number s.seen) (pass_was n was at)

    -- and nothing was under way
    none_counted : (n : ℕ) (was : R) → slice_get old n ≡ Some was → rescanned_in (pass_of was).own ≡ 0
    none_counted n was at = ap (λ (s : Sitting V Mark). rescanned_in s.own) (pass_was n was at)

    -- what the front of a caller has of its own
    own_now : (n : ℕ) (was now : R) (at_was : slice_get old n ≡ Some was) (at_now : slice_get new n ≡ Some now) → mine n (pass_of now).seen ≡ mine n first ++ (ran_at n was now at_was at_now).own
    own_now n was now at_was at_now =
        let raced = ran_at n was now at_was at_now in
        let is = pass_was n was at_was in
        ap (λ (s : Sitting V Mark). mine s.number (pass_of now).seen) (sym is)
        ∙ raced.front.own_marks
        ∙ ap (λ (s : Sitting V Mark). mine s.number s.seen ++ raced.own) is

    front_now : (n : ℕ) (was now : R) → slice_get old n ≡ Some was → slice_get new n ≡ Some now → Begins first (pass_of now).seen
    front_now n was now at_was at_now = subst (λ (s : Sitting V Mark). Begins s.seen (pass_of now).seen) (pass_was n was at_was) (ran_at n was now at_was at_now).front.begins

    module _ (lines : List (List ℕ)) (harms harms_then rest : List ℕ) (asks : (n : ℕ) (was : R) → slice_get old n ≡ Some was → asked_of was ≡ tasks_of proposers n lines)
        (harms_are : map harms_of old ++ rest ≡ harms) (harms_then_are : map harms_of new ++ rest ≡ harms_then) where
      ran_behind : (n : ℕ) (was now : R) → slice_get old n ≡ Some was → slice_get new n ≡ Some now → RanBehind tells (pass_of now).seen tries n first (tasks_of proposers n lines) (told_of now) harms harms_then (pass_of now).seen
      ran_behind n was now at_was at_now =
          let raced = ran_at n was now at_was at_now in
          let all = (pass_of now).seen in
          let next = rescanned_in (pass_of now).own in
          let number : (pass_of was).number ≡ n = ap (λ (s : Sitting V Mark). s.number) (pass_was n was at_was) in
          record {
            own = raced.own;
            behind = own_now n was now at_was at_now;
            counted = next;
            run = subst (λ (l : List Task). HasRun tells all tries n (mine n first) 0 l (told_of now) raced.own next) (asks n was at_was)
                (subst (λ (l : List Mark). HasRun tells all tries n l 0 (asked_of was) (told_of now) raced.own next) (first_before n was at_was)
                (subst (λ (k : ℕ). HasRun tells all tries n (mine (pass_of was).number (pass_of was).seen) k (asked_of was) (told_of now) raced.own next) (none_counted n was at_was)
                (subst (λ (k : ℕ). HasRun tells all tries k (mine (pass_of was).number (pass_of was).seen) (rescanned_in (pass_of was).own) (asked_of was) (told_of now) raced.own next) number raced.run)));
            harmed = λ before after at_before at_after.
                let was_harms : harms_of was ≡ before = one_at harms n _ _ (subst (λ (l : List ℕ). slice_get l n ≡ Some (harms_of was)) harms_are (front_at (map harms_of old) rest n _ (map_at harms_of old n was at_was))) at_before in
                let now_harms : harms_of now ≡ after = one_at harms_then n _ _ (subst (λ (l : List ℕ). slice_get l n ≡ Some (harms_of now)) harms_then_are (front_at (map harms_of new) rest n _ (map_at harms_of new n now at_now))) at_after in
                subst (λ (k : ℕ). IsCounted (losses raced.own) before k) now_harms (subst (λ (k : ℕ). IsCounted (losses raced.own) k (harms_of now)) was_harms raced.counted);
          }

      pub are_raced : AreRaced tells tries proposers first lines harms harms_then (map told_of new) (map pass_of new)
      are_raced = record {
        callers = length-map new told_of ∙ as_many ∙ count_old;
        fronts = λ n pass at_pass.
            let now = at_mapped pass_of new n pass at_pass in
            let was = before n now.0 now.1 in
            subst (λ (p : Sitting V Mark). Begins first p.seen) now.2 (front_now n was.0 now.0 was.1 now.1);
        runs = λ n pass of_caller at_pass at_told.
            let now = at_mapped pass_of new n pass at_pass in
            let told = at_mapped told_of new n of_caller at_told in
            let was = before n now.0 now.1 in
            let told_is : told_of now.0 ≡ of_caller = ap told_of (one_at new n now.0 told.0 now.1 told.1) ∙ told.2 in
            subst (λ (p : Sitting V Mark). RanBehind tells p.seen tries n first (tasks_of proposers n lines) of_caller harms harms_then p.seen) now.2
            (subst (λ (l : List Told). RanBehind tells (pass_of now.0).seen tries n first (tasks_of proposers n lines) l harms harms_then (pass_of now.0).seen) told_is (ran_behind n was.0 now.0 was.1 now.1));
      }
