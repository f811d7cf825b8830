-- What each step tells the seat that makes it, and how views are cut and joined.
use Rattle.std.specs.Prelude.{◌≡◌, ◌≢◌, ℕ, ◌+◌, ◌%◌, ◌^◌, List, [], ◌∷◌, ◌++◌, length, Option, Some}
use Rattle.atomic_table.specs.Table.{Me, Step}
use Rattle.atomic_table.specs.Seated.{TableId}
use Rattle.atomic_table.specs.declared.shared.Seat.{Seat}
use Rattle.cas_turn.specs.declared.view.Stage.{Stage}
use Rattle.cas_turn.specs.declared.view.Stage.TheVariants.{Idle, Waiting, Holding}
use Rattle.cas_turn.specs.declared.view.Known.{Known}
use Rattle.cas_turn.specs.declared.view.View.{View}
use Rattle.cas_turn.specs.declared.view.View.TheVariants.{Opens, Tells, Sits, Gathers}
use Rattle.cas_turn.specs.Seen.{Begins, HasSeenOwn, OnlyOwnedBy, added_to, longer_of}
use Rattle.cas_turn.specs.Rule.{sat, Learned}
use Rattle.cas_turn.specs.Sitting.{Sitting}

-- a seat's view and its slot, as steps see them
abbrev pub Sat : Type 0 → Type 0 → Type 0
Sat V I = Me (Option V) (View V I)

-- one of so many numbers, which has seen this and has no part
abbrev pub newcomer : {I : Type 0} → ℕ → List I → ℕ → Known I
newcomer count seen n = record { number = n; seats = count; seen = seen; own = [] }

-- the ticket of a seat that waits or holds
abbrev pub ticket_of : {V : Type 0} → Stage V → ℕ
ticket_of Idle = 0
ticket_of (Waiting t) = t
ticket_of (Holding t v) = t

module _ {V I : Type 0} where
  -- what a seat with a number knows for it
  abbrev pub known_of : View V I → Known I
  known_of (Sits k stage learned) = k
  known_of (Opens n count seen) = newcomer 0 [] 0
  known_of (Tells seen) = newcomer 0 [] 0
  known_of (Gathers them) = newcomer 0 [] 0

  abbrev pub stage_of : View V I → Stage V
  stage_of (Sits k stage learned) = stage
  stage_of (Opens n count seen) = Idle
  stage_of (Tells seen) = Idle
  stage_of (Gathers them) = Idle

  -- it neither waits nor holds
  abbrev pub idle : Known I → Sat V I
  idle k = (sat k Idle, [])

  -- it waits with a ticket
  abbrev pub waiting : Known I → ℕ → Sat V I
  waiting k t = (sat k (Waiting t), [])

  -- it holds the value v, and its slot has this
  abbrev pub holding : Known I → ℕ → V → Option V → Sat V I
  holding k t v inside = (sat k (Holding t v), (0, inside) ∷ [])

  -- the ticket of the seat
  abbrev pub ticket_in : Sat V I → ℕ
  ticket_in me = ticket_of (stage_of me.0)

  -- it waits, and its ticket is told by this word
  pub record IsWaiting (me : Sat V I) (k : Known I) (told : ℕ) : Type 0 where
    pub waits : me ≡ waiting k (ticket_in me)
    pub ticket : told ≡ ticket_in me % 2 ^ 64

  -- it holds the value v, and its slot has this
  abbrev pub IsHolding : Sat V I → V → Option V → Type 0
  IsHolding me v inside = me ≡ holding (known_of me.0) (ticket_in me) v inside

  -- it is a seat that took in no note
  abbrev pub TookNoNote : Sat V I → Type 0
  TookNoNote me = me.0 ≡ sat (known_of me.0) (stage_of me.0)

  -- the table and the place stay the same
  pub record IsSamePlace (p q : Seat (Option V) (View V I)) : Type 0 where
    pub table : q.table_id ≡ p.table_id
    pub place : q.id ≡ p.id

  -- it has a ticket, and was told its word
  abbrev pub drew : Step (Option V) → Sat V I → ℕ → Sat V I → Type 0
  drew st me r me' = IsWaiting me' (known_of me.0) r

  -- it is idle again
  abbrev pub left_turn : Step (Option V) → Sat V I → ℕ → Sat V I → Type 0
  left_turn st me r me' = me' ≡ idle (known_of me.0)

  -- the next number comes off the seat that has all from there on
  abbrev pub without_next : View V I → View V I
  without_next (Opens n count seen) = Opens (n + 1) count seen
  without_next (Tells seen) = Tells seen
  without_next (Sits k stage learned) = Sits k stage learned
  without_next (Gathers them) = Gathers them

  -- the seat of that number
  abbrev pub next_seat : View V I → View V I
  next_seat (Opens n count seen) = sat (newcomer count seen n) Idle
  next_seat (Tells seen) = Tells []
  next_seat (Sits k stage learned) = Tells []
  next_seat (Gathers them) = Tells []

  -- what was seen, for another seat
  abbrev pub note_of : View V I → View V I
  note_of v = Tells (known_of v).seen

  -- a seat takes in a note
  abbrev pub told : View V I → View V I → View V I
  told (Sits k stage learned) (Tells theirs) = Sits (record k { seen = longer_of k.seen theirs }) stage (Some (k.seen, theirs))
  told (Sits k stage learned) w = Sits k stage learned
  told (Opens n count seen) w = Opens n count seen
  told (Tells seen) w = Tells seen
  told (Gathers them) w = Gathers them

  -- the seat that closes the turn takes in another
  abbrev pub gathered : View V I → View V I → View V I
  gathered (Gathers them) (Sits k stage learned) = Gathers (k ∷ them)
  gathered (Gathers them) w = Gathers them
  gathered (Sits k stage learned) w = Sits k stage learned
  gathered (Opens n count seen) w = Opens n count seen
  gathered (Tells seen) w = Tells seen

-- a place at a table of this shape
pub record IsPlaceOf {V I : Type 0} (id : TableId) (p : Seat (Option V) (View V I)) : Type 0 where
  pub same : p.table_id ≡ id
  pub three_words : id.words ≡ 3
  pub one_slot : id.slots ≡ 1

module _ {V I : Type 0} (list : V → List I) (owner : I → Option ℕ) (part : V → ℕ → List ℕ) (made_for : V → ℕ) where
  -- what a number knows once it has the value v
  abbrev pub known_from : Known I → V → Known I
  known_from k v = record k { seen = list v; own = part v k.number }

  -- the seat has the value v, which begins with what it had seen, has its own part as it was left, and is for as many seats
  pub record Took (me me' : Sat V I) (v : V) : Type 0 where
    pub holds : me' ≡ holding (known_from (known_of me.0) v) (ticket_in me) v (Some v)
    pub has_seen : HasSeenOwn owner (known_of me.0).number (known_of me.0).seen (list v)
    pub own_part : part v (known_of me.0).number ≡ (known_of me.0).own
    pub for_seats : made_for v ≡ (known_of me.0).seats

  -- it takes the value where its ticket is served, and else goes on waiting
  abbrev pub looked : Step (Option V) → Sat V I → ℕ → Sat V I → Type 0
  looked st me r me' = (r ≡ ticket_in me % 2 ^ 64 → (v : V) × Took me me' v) × (r ≢ ticket_in me % 2 ^ 64 → me' ≡ me)

  -- from before to after, the number's holder only added what it may own, and changed no other number's own part, nor for how many seats the value is
  pub record Grew (n : ℕ) (before after : V) : Type 0 where
    pub whole : list before ++ added_to (list before) (list after) ≡ list after
    pub owned : OnlyOwnedBy owner n (added_to (list before) (list after))
    pub others : (m : ℕ) → m ≢ n → part after m ≡ part before m
    pub for_seats : made_for after ≡ made_for before

  -- a seat with what it had seen has now seen the longer of that and of what the note brought
  pub record HeardNote (theirs : List I) (me me' : Sat V I) : Type 0 where
    pub seat : me' ≡ (sat (record (known_of me.0) { seen = longer_of (known_of me.0).seen theirs }) (stage_of me.0), me.1)
    pub has_seen : HasSeenOwn owner (known_of me.0).number (known_of me.0).seen (longer_of (known_of me.0).seen theirs)
    pub begins : Begins theirs (longer_of (known_of me.0).seen theirs)

  -- what the holder finds
  abbrev pub measured : Step (Option V) → Sat V I → ℕ → Sat V I → Type 0
  measured st me r me' = (me' ≡ me) × ((v : V) → stage_of me.0 ≡ Holding (ticket_in me) v → r ≡ length (list v))

  -- the value in the slot is now the turn's, and is for as many seats as the turn has
  abbrev pub published : Step (Option V) → Sat V I → ℕ → Sat V I → Type 0
  published st me r me' = (w : V) → me.1 ≡ (0, Some w) ∷ [] → (me' ≡ holding (known_from (known_of me.0) w) (ticket_in me) w (Some w)) × (made_for w ≡ (known_of me.0).seats)

  -- the seat is told what its two lists have made it see, and keeps the longer one alone
  abbrev pub settled : Step (Option V) → Sat V I → ℕ → Sat V I → Type 0
  settled st me r me' = (me' ≡ (sat (known_of me.0) (stage_of me.0), me.1))
      × ((mine theirs : List I) → me.0 ≡ Sits (known_of me.0) (stage_of me.0) (Some (mine, theirs)) → Learned list owner part made_for (known_of me.0).number mine theirs (known_of me.0).seen)

-- what a seat knows for its number
abbrev pub known_by : {V I : Type 0} → Sitting V I → Known I
known_by s = record { number = s.number; seats = s.seats; seen = s.seen; own = s.own }

-- what a seat that closes the turn took in
abbrev pub them_of : {V I : Type 0} → View V I → List (Known I)
them_of (Gathers them) = them
them_of (Opens n count seen) = []
them_of (Tells seen) = []
them_of (Sits k stage learned) = []
