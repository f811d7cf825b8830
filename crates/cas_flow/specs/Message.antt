-- What a frame bears, and which leg it is on.
use Rattle.std.specs.Prelude.{ℕ}
use Rattle.cas_fate.specs.declared.fate.Leg.{Leg}
use Rattle.cas_fate.specs.declared.fate.Leg.TheVariants as leg
use Rattle.cas_slot.specs.declared.message.Phase.{Phase}
use Rattle.cas_slot.specs.declared.message.Phase.TheVariants as phase
use Rattle.cas_slot.specs.Message.{phase_of}
use Rattle.cas_wire.specs.Frame.{FitsRequest, FitsReply, CanBeAsked, CanBeTold}
use Rattle.cas_flow.specs.declared.message.Message.{Message}
use Rattle.cas_flow.specs.declared.message.Message.TheVariants.{Request, Reply}

-- the leg of a request of this kind
abbrev pub leg_of_phase : Phase → Leg
leg_of_phase phase.Prepare = leg.Prepare
leg_of_phase phase.Accept = leg.Accept
leg_of_phase phase.Ages = leg.Ages
leg_of_phase phase.Remove = leg.Remove
leg_of_phase phase.List = leg.List
leg_of_phase phase.Probe = leg.Probe

-- the leg of a message, and the acceptor at its other end
abbrev pub head_of : Message → Leg × ℕ
head_of (Request request) = (leg_of_phase (phase_of request.ask), request.to)
head_of (Reply reply) = (leg.Reply, reply.from)

-- a message is within its limits, and so it may be sent, and handed to whom it is for
abbrev pub FitsMessage : Message → Type 0
FitsMessage (Request request) = FitsRequest request
FitsMessage (Reply reply) = FitsReply reply

abbrev pub CanBeSent : Message → Type 0
CanBeSent (Request request) = CanBeAsked request
CanBeSent (Reply reply) = CanBeTold reply
