-- What is under way, and what becomes of it.
use Rattle.std.specs.Prelude.{ℕ, ◌+◌, Bool, true, false, List, [], ◌∷◌, length, Option, Some, None, if◌then◌else◌, slice_get, slice_set, slice_index_or, replicate}
use Rattle.cas_fate.specs.declared.fate.Verdict.{Verdict}
use Rattle.cas_fate.specs.declared.fate.Verdict.TheVariants.{Deliver, Lose, Twice, Late, Hold}
use Rattle.cas_flow.specs.declared.message.Message.{Message}
use Rattle.cas_flow.specs.declared.fall.Fall.{Fall}
use Rattle.cas_flow.specs.declared.fall.Fall.TheVariants.{Handle, Gone, Held}
use Rattle.cas_flow.specs.Queue.{QueueView, empty_queue, popped, fall_of, joined}

-- the queue of each proposer, 0 first, that of the exchange, and the late messages
pub record FlowView : Type 0 where
  pub own : List QueueView
  pub late : List Message

abbrev pub empty_flow : FlowView
empty_flow = record { own = replicate 18 empty_queue; late = [] }

abbrev pub queue_at : FlowView → ℕ → QueueView
queue_at flow proposer = slice_index_or flow.own proposer empty_queue

-- another queue of that proposer
abbrev pub with_queue : FlowView → ℕ → QueueView → FlowView
with_queue flow proposer queue = record { own = slice_set flow.own proposer queue; late = flow.late }

-- whether a second turn follows this one
abbrev pub is_first_of_two : Bool → Verdict → Bool
is_first_of_two true verdict = false
is_first_of_two false Deliver = false
is_first_of_two false Lose = false
is_first_of_two false Twice = true
is_first_of_two false Late = false
is_first_of_two false Hold = false

-- whether the frame in front joins the late ones
abbrev pub is_late : Bool → Verdict → Bool
is_late true verdict = false
is_late false Deliver = false
is_late false Lose = false
is_late false Twice = false
is_late false Late = true
is_late false Hold = false

-- a frame that is handled leaves, unless a second turn follows; one that is gone leaves; one that is held stays
abbrev pub queue_by : Fall → QueueView → Verdict → QueueView
queue_by Handle queue verdict = if is_first_of_two queue.again verdict then record { messages = queue.messages; again = true; room = queue.room } else popped queue
queue_by Gone queue verdict = popped queue
queue_by Held queue verdict = queue

abbrev pub queue_after : QueueView → Verdict → QueueView
queue_after queue verdict = queue_by (fall_of queue.again verdict) queue verdict

abbrev pub joined_by : List Message → Option Message → List Message
joined_by late None = late
joined_by late (Some message) = joined late message

abbrev pub late_after : List Message → QueueView → Verdict → List Message
late_after late queue verdict = if is_late queue.again verdict then joined_by late (slice_get queue.messages 0) else late

abbrev pub taken : FlowView → ℕ → Verdict → FlowView
taken flow proposer verdict = record { own = slice_set flow.own proposer (queue_after (queue_at flow proposer) verdict); late = late_after flow.late (queue_at flow proposer) verdict }

-- messages join the late ones one after another
abbrev pub all_joined : List Message → List Message → List Message
all_joined late [] = late
all_joined late (message ∷ messages) = all_joined (joined late message) messages

-- no message left
abbrev pub emptied : QueueView → QueueView
emptied queue = record { messages = []; again = false; room = queue.room + length queue.messages }

abbrev pub abandoned : FlowView → ℕ → FlowView
abandoned flow proposer = record { own = slice_set flow.own proposer (emptied (queue_at flow proposer)); late = all_joined flow.late (queue_at flow proposer).messages }
