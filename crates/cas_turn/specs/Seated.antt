-- How a seat's place at the table is what its user sees.
use Rattle.std.specs.Prelude.{◌≡◌, ℕ, List, [], ◌∷◌, Option, Some, None}
use Rattle.atomic_table.specs.declared.shared.Seat.{Seat}
use Rattle.cas_turn.specs.declared.view.Stage.{Stage}
use Rattle.cas_turn.specs.declared.view.Stage.TheVariants.{Idle, Waiting, Holding}
use Rattle.cas_turn.specs.declared.view.Known.{Known}
use Rattle.cas_turn.specs.declared.view.View.{View}
use Rattle.cas_turn.specs.Rule.{sat}
use Rattle.cas_turn.specs.Steps.{Sat, known_of, stage_of}
use Rattle.cas_turn.specs.Sitting.{Sitting, TurnId}

-- the value that a seat holds
abbrev pub held_by : {V : Type 0} → Stage V → Option V
held_by Idle = None
held_by (Waiting t) = None
held_by (Holding t v) = Some v

-- between two calls a seat does not wait, and its slot is out and empty just while it holds
abbrev pub SlotFits : {V : Type 0} → Stage V → List (ℕ × Option V) → Type 0
SlotFits Idle slots = slots ≡ []
SlotFits (Waiting t) slots = ⊥
SlotFits (Holding t v) slots = slots ≡ (0, None) ∷ []

module _ {V I : Type 0} where
  -- a seat between two calls
  pub record IsSeated (me : Sat V I) : Type 0 where
    pub view : me.0 ≡ sat (known_of me.0) (stage_of me.0)
    pub slot : SlotFits (stage_of me.0) me.1

  -- a seat as its user sees it
  abbrev pub sitting : TurnId → Known I → Option V → Sitting V I
  sitting turn k holds = record { turn = turn; number = k.number; seats = k.seats; holds = holds; seen = k.seen; own = k.own }

  abbrev pub sitting_at : Seat (Option V) (View V I) → Sitting V I
  sitting_at p = sitting p.table_id (known_of p.me.0) (held_by (stage_of p.me.0))
