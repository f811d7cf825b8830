-- What becomes of the frames under way: by the rules that the lines of a script have set, or by what a fate draws.
use Rattle.std.specs.Prelude.{ℕ, Bool, true, false, ◌&&◌, not, nat_eq, List, [], ◌∷◌, Option, None, Some, if◌then◌else◌}
use Rattle.rand_pcg.specs.Lcg.{Lcg}
use Rattle.cas_fate.specs.Legs.{row_of}
use Rattle.cas_fate.specs.Seeded.{drawn_verdict, drawn_stray}
use Rattle.cas_fate.specs.declared.fate.Leg.{Leg}
use Rattle.cas_fate.specs.declared.fate.Verdict.{Verdict}
use Rattle.cas_fate.specs.declared.fate.Verdict.TheVariants.{Deliver, Lose, Twice, Late, Hold}
use Rattle.cas_flow.specs.Message.{head_of}
use Rattle.cas_flow.specs.declared.message.Message.{Message}

-- ---- rules
-- this becomes of the frames of a leg to or from an acceptor: of any leg, and of any acceptor, where none is named
pub record Rule : Type 0 where
  pub leg : Option Leg
  pub who : Option ℕ
  pub verdict : Verdict

abbrev pub is_leg : Option Leg → Leg → Bool
is_leg None leg = true
is_leg (Some named) leg = nat_eq (row_of named) (row_of leg)

abbrev pub is_who : Option ℕ → ℕ → Bool
is_who None peer = true
is_who (Some named) peer = nat_eq named peer

-- what the last rule says that names the leg and the acceptor; without any the frame is delivered. The last rule stands first.
abbrev pub verdict_of : List Rule → Leg → ℕ → Verdict
verdict_of [] leg peer = Deliver
verdict_of (rule ∷ earlier) leg peer = if is_leg rule.leg leg && is_who rule.who peer then rule.verdict else verdict_of earlier leg peer

-- what they say of a frame
abbrev pub verdict_on : List Rule → Message → Verdict
verdict_on rules frame = verdict_of rules (head_of frame).0 (head_of frame).1

-- ---- networks
-- what decides of the frames: rules, the last one first, or a generator that a fate draws from
pub data NetworkView : Type 0 where
  Ruled : List Rule → NetworkView
  Drawn : Lcg → NetworkView

-- The verdict on a frame with this head, and what decides then. By rules each of its turns has the verdict that they say. By a draw its first
-- turn has the one that is drawn, and its second one draws nothing.
pub data DecidesVerdict (head : Leg × ℕ) : NetworkView → Bool → Verdict → NetworkView → Type 0 where
  by_rules : {rules : List Rule} {again : Bool} → DecidesVerdict head (Ruled rules) again (verdict_of rules head.0 head.1) (Ruled rules)
  by_draw : {random : Lcg} → DecidesVerdict head (Drawn random) false (drawn_verdict random).0 (Drawn (drawn_verdict random).1)
  repeats : {random : Lcg} → DecidesVerdict head (Drawn random) true Twice (Drawn random)

-- Which of so many late frames is to stray in, if one is, and what decides then. By rules none is.
pub data Names (late : ℕ) : NetworkView → Option ℕ → NetworkView → Type 0 where
  none_by_rules : {rules : List Rule} → Names late (Ruled rules) None (Ruled rules)
  by_draw_of_late : {random : Lcg} → Names late (Drawn random) (drawn_stray late random).0 (Drawn (drawn_stray late random).1)

-- the frame is repeated: by its first turn it gets a second one
abbrev pub is_twice : Verdict → Bool
is_twice Deliver = false
is_twice Lose = false
is_twice Twice = true
is_twice Late = false
is_twice Hold = false

-- whether a frame is to have its second turn next, after a turn with that verdict that was its second one, or was its first
abbrev pub is_to_repeat : Bool → Verdict → Bool
is_to_repeat again verdict = not again && is_twice verdict
