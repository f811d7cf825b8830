-- What holds of the table between any two steps: of its words, of the value, and of what each seat knows.
use Rattle.std.specs.Prelude.{◌≡◌, ℕ, ◌+◌, ◌-◌, ◌<◌, ◌≤◌, ◌%◌, ◌^◌, Bool, true, false, List, [], ◌∷◌, length, All, sum_by, Option, Some, None}
use mathlib.Core.Option as slot
use lib.ListN.{get_elem?}
use Rattle.atomic_table.specs.Table.{State}
use Rattle.cas_turn.specs.declared.view.Stage.{Stage}
use Rattle.cas_turn.specs.declared.view.Stage.TheVariants.{Idle, Waiting, Holding}
use Rattle.cas_turn.specs.declared.view.Known.{Known}
use Rattle.cas_turn.specs.declared.view.View.{View}
use Rattle.cas_turn.specs.declared.view.View.TheVariants.{Opens, Tells, Sits, Gathers}
use Rattle.cas_turn.specs.Seen.{Begins, HasSeenOwn, longer_of}

-- how a turn stands between two steps
pub record Moment (V : Type 0) : Type 0 where
  -- the value as it was opened with, or published last
  pub now : V
  -- whether it is out with a seat
  pub out : Bool
  -- how many tickets were drawn, and how many of them were served
  pub drawn : ℕ
  pub served : ℕ
  -- the seat that has a ticket
  pub queue : ℕ → ℕ
  -- the seat that has a number
  pub desk : ℕ → ℕ

-- 1 for a seat that waits or holds
abbrev pub stage_weight : {V : Type 0} → Stage V → ℕ
stage_weight Idle = 0
stage_weight (Waiting t) = 1
stage_weight (Holding t v) = 1

module _ {V I : Type 0} where
  -- a seat that took in no note
  abbrev pub sat : Known I → Stage V → View V I
  sat k stage = Sits k stage None

  -- 1 for a seat that has a ticket
  abbrev pub tickets_of : View V I → ℕ
  tickets_of (Opens n count seen) = 0
  tickets_of (Tells seen) = 0
  tickets_of (Sits k stage learned) = stage_weight stage
  tickets_of (Gathers them) = 0

  -- how many of the numbers below `seats` a seat has
  abbrev pub numbers_of : ℕ → View V I → ℕ
  numbers_of seats (Opens n count seen) = seats - n
  numbers_of seats (Tells seen) = 0
  numbers_of seats (Sits k stage learned) = 1
  numbers_of seats (Gathers them) = length them

  -- it holds the value
  abbrev pub IsHolder : View V I → Type 0
  IsHolder d = (k : Known I) × (t : ℕ) × (v : V) × (learned : Option (List I × List I)) × (d ≡ Sits k (Holding t v) learned)

-- the slot as the table has it: empty while the value is out, and else at home with the value
abbrev pub home_of : {V : Type 0} → Bool → V → slot.Option (Option V)
home_of true v = slot.none
home_of false v = slot.some (Some v)

module _ {V I : Type 0} (list : V → List I) (owner : I → Option ℕ) (part : V → ℕ → List ℕ) (made_for : V → ℕ) where
  -- the seat `me` has the number n, which has seen this much of the list
  pub record SeatStands (now : V) (desk : ℕ → ℕ) (me n : ℕ) (seen : List I) : Type 0 where
    pub at_desk : desk n ≡ me
    pub has_seen : HasSeenOwn owner n seen (list now)

  -- the seat `me` has a number, which knows this
  pub record SeatKnows (now : V) (desk : ℕ → ℕ) (me : ℕ) (k : Known I) : Type 0 where
    pub stands : SeatStands now desk me k.number k.seen
    pub own_part : part now k.number ≡ k.own

  -- a number that was not given has seen what the first seats see, and has no part yet
  pub record IsUngiven (now : V) (desk : ℕ → ℕ) (me n : ℕ) (seen : List I) : Type 0 where
    pub stands : SeatStands now desk me n seen
    pub no_part : part now n ≡ []

  -- a ticket is one of those that are drawn and not served
  pub record Queues (m : Moment V) (me t : ℕ) : Type 0 where
    pub at_queue : m.queue t ≡ me
    pub not_served : m.served ≤ t
    pub was_drawn : t < m.drawn

  -- a holder has the ticket that is served, and the value is out with it
  pub record HoldsTurn (m : Moment V) (me t : ℕ) (v : V) : Type 0 where
    pub queues : Queues m me t
    pub is_served : t ≡ m.served
    pub is_out : m.out ≡ true
    pub has_value : v ≡ m.now

  -- what is true of a stage
  abbrev pub StageFits : Moment V → ℕ → Stage V → Type 0
  StageFits m me Idle = Unit {0}
  StageFits m me (Waiting t) = Queues m me t
  StageFits m me (Holding t v) = HoldsTurn m me t v

  -- what two lists, its own and a note's, have made a seat see
  pub record Learned (n : ℕ) (mine theirs seen : List I) : Type 0 where
    pub longer : seen ≡ longer_of mine theirs
    pub from_mine : HasSeenOwn owner n mine seen
    pub from_theirs : Begins theirs seen

  -- what is true of the two lists, if a note was taken in
  abbrev pub LearnedFits : ℕ → List I → Option (List I × List I) → Type 0
  LearnedFits n seen None = Unit {0}
  LearnedFits n seen (Some both) = Learned n both.0 both.1 seen

  -- what is true of a seat with a number
  pub record SeatFits (m : Moment V) (me : ℕ) (k : Known I) (stage : Stage V) (learned : Option (List I × List I)) : Type 0 where
    pub stands : SeatStands m.now m.desk me k.number k.seen
    pub own_part : part m.now k.number ≡ k.own
    pub for_seats : made_for m.now ≡ k.seats
    pub stage_fits : StageFits m me stage
    pub learned_fits : LearnedFits k.number k.seen learned

  -- what is true of any seat
  abbrev pub Fits : Moment V → ℕ → View V I → Type 0
  Fits m me (Opens next count seen) = (made_for m.now ≡ count) × ((n : ℕ) → next ≤ n → IsUngiven m.now m.desk me n seen)
  Fits m me (Tells seen) = Begins seen (list m.now)
  Fits m me (Sits k stage learned) = SeatFits m me k stage learned
  Fits m me (Gathers them) = All (λ k. SeatKnows m.now m.desk me k) them

  -- the words: tickets drawn and served, modulo 2^64, and the length of the list
  abbrev pub words_of : Moment V → List ℕ
  words_of m = m.drawn % 2 ^ 64 ∷ m.served % 2 ^ 64 ∷ length (list m.now) ∷ []

  -- the rule of a turn with so many seats
  pub record Kept (seats : ℕ) (s : State (Option V) (View V I)) : Type 0 where
    pub moment : Moment V
    pub words : s.words ≡ words_of moment
    pub homes : s.homes ≡ home_of moment.out moment.now ∷ []
    pub tickets : sum_by tickets_of s.views + moment.served ≡ moment.drawn
    pub numbers : sum_by (numbers_of seats) s.views ≡ seats
    pub for_seats : made_for moment.now ≡ seats
    pub holder : moment.out ≡ true → (d : View V I) × (get_elem? s.views (moment.queue moment.served) ≡ slot.some d) × IsHolder d
    pub each_seat : (j : ℕ) (d : View V I) → get_elem? s.views j ≡ slot.some d → Fits moment j d
