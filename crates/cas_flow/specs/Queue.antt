-- The frames that wait, as the messages that they bear.
use Rattle.std.specs.Prelude.{ℕ, ◌+◌, ◌-◌, nat_lt, length, if◌then◌else◌, Bool, true, false, ◌&&◌, is_some, List, [], ◌∷◌, ◌++◌, drop, Option, Some, None}
use Rattle.cas_fate.specs.declared.fate.Verdict.{Verdict}
use Rattle.cas_fate.specs.declared.fate.Verdict.TheVariants as verdict
use Rattle.cas_flow.specs.declared.message.Message.{Message}
use Rattle.cas_flow.specs.declared.fall.Fall.{Fall}
use Rattle.cas_flow.specs.declared.fall.Fall.TheVariants.{Handle, Gone, Held}

-- what frames bear
abbrev pub messages_of : List (Option Message) → List Message
messages_of [] = []
messages_of (None ∷ frames) = messages_of frames
messages_of (Some message ∷ frames) = message ∷ messages_of frames

-- no frame is blank
abbrev pub all_bear : List (Option Message) → Bool
all_bear [] = true
all_bear (frame ∷ frames) = is_some frame && all_bear frames

-- the messages in order, whether the first was handled once of two times, and how many more have room
pub record QueueView : Type 0 where
  pub messages : List Message
  pub again : Bool
  pub room : ℕ

abbrev pub empty_queue : QueueView
empty_queue = record { messages = []; again = false; room = 0 }

-- one more message, behind the others
abbrev pub pushed : QueueView → Message → QueueView
pushed queue message = record { messages = queue.messages ++ message ∷ []; again = queue.again; room = queue.room - 1 }

-- the first message left
abbrev pub popped : QueueView → QueueView
popped queue = record { messages = drop 1 queue.messages; again = false; room = queue.room + 1 }

-- what a verdict means for the frame in front; in its second turn it is handled whatever the verdict
abbrev pub fall_of : Bool → Verdict → Fall
fall_of true verdict = Handle
fall_of false verdict.Deliver = Handle
fall_of false verdict.Twice = Handle
fall_of false verdict.Lose = Gone
fall_of false verdict.Late = Gone
fall_of false verdict.Hold = Held

-- a late frame joins the others, or is lost where there are 65,536
abbrev pub joined : List Message → Message → List Message
joined late message = if nat_lt (length late) 65536 then late ++ message ∷ [] else late
