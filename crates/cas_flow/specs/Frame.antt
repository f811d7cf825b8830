-- What the bytes of a frame bear.
use Rattle.std.specs.Prelude.{◌≡◌, ℕ, ◌≤◌, List, [], Option, None, Some, Ok, Err, option_map}
use Rattle.cas_fate.specs.declared.fate.Leg.{Leg}
use Rattle.cas_fate.specs.declared.fate.Leg.TheVariants as leg
use Rattle.cas_slot.specs.declared.message.Request.{Request as ARequest}
use Rattle.cas_slot.specs.declared.message.Reply.{Reply as AReply}
use Rattle.cas_wire.specs.Frame.{IsRequestFrame, IsReplyFrame}
use Rattle.cas_wire.specs.FrameReading.{whole_of, request_at, reply_at}
use Rattle.cas_wire.specs.Reading.{Reading}
use Rattle.cas_wire.specs.declared.frame.TheConstants.{LONGEST_FRAME}
use Rattle.cas_flow.specs.declared.frame.Head.{Head}
use Rattle.cas_flow.specs.declared.frame.Head.TheVariants.{Blank, Asked, Told}
use Rattle.cas_flow.specs.declared.message.Message.{Message}
use Rattle.cas_flow.specs.declared.message.Message.TheVariants.{Request, Reply}
use Rattle.cas_flow.specs.Message.{head_of}

-- the whole of what was read
abbrev pub asked : Reading ARequest → Option Message
asked (Ok found) = option_map (λ request. Request request) (whole_of found.0 found.1)
asked (Err left) = None

abbrev pub told : Reading AReply → Option Message
told (Ok found) = option_map (λ reply. Reply reply) (whole_of found.0 found.1)
told (Err left) = None

-- the message that a frame bears, if it is not blank
abbrev pub message_in : Head → List ℕ → Option Message
message_in Blank bytes = None
message_in (Asked leg to) bytes = asked (request_at bytes)
message_in (Told from) bytes = told (reply_at bytes)

-- these bytes are the frame of this message, which is on that leg and has that acceptor at its other end
abbrev pub Bears : List ℕ → Leg × ℕ → Option Message → Type 0
Bears bytes head None = ⊥
Bears bytes head (Some (Request request)) = IsRequestFrame bytes request × (head_of (Request request) ≡ head)
Bears bytes head (Some (Reply reply)) = IsReplyFrame bytes reply × (head_of (Reply reply) ≡ head)

-- a blank frame has no byte and room for the longest; another bears the message of its head
abbrev pub BearsMessage : Head → List ℕ → ℕ → Type 0
BearsMessage Blank bytes capacity = (bytes ≡ []) × (LONGEST_FRAME ≤ capacity)
BearsMessage (Asked leg to) bytes capacity = Bears bytes (leg, to) (asked (request_at bytes))
BearsMessage (Told from) bytes capacity = Bears bytes (leg.Reply, from) (told (reply_at bytes))
