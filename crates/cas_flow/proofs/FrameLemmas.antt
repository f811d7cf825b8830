-- A frame bears the message that its bytes spell.
use Rattle.std.proofs.Common.{◌≡◌, ℕ, List, Option, Some, refl, sym, ap, subst, ◌∙◌}
use Rattle.cas_fate.specs.declared.fate.Leg.{Leg}
use Rattle.cas_slot.specs.declared.message.Request.{Request as ARequest}
use Rattle.cas_slot.specs.declared.message.Reply.{Reply as AReply}
use Rattle.cas_wire.specs.Frame.{IsRequestFrame, IsReplyFrame}
use Rattle.cas_wire.specs.FrameReading.{request_at, reply_at}
use Rattle.cas_wire.proofs.Frames.{whole_read}
use Rattle.cas_wire.proofs.RequestFormats.{request_format}
use Rattle.cas_wire.proofs.ReplyFormats.{reply_format}
use Rattle.cas_flow.specs.declared.message.Message.{Message}
use Rattle.cas_flow.specs.declared.message.Message.TheVariants.{Request, Reply}
use Rattle.cas_flow.specs.Frame.{asked, told, Bears}
use Rattle.cas_flow.specs.Message.{leg_of_phase, head_of}
use Rattle.cas_slot.specs.Message.{phase_of}

pub asked_is : (bytes : List ℕ) (request : ARequest) → IsRequestFrame bytes request → asked (request_at bytes) ≡ Some (Request request)
asked_is bytes request is = ap (λ (x : List ℕ). asked (request_at x)) is.spelled ∙ ap asked (whole_read request_format request is.fits)

pub told_is : (bytes : List ℕ) (reply : AReply) → IsReplyFrame bytes reply → told (reply_at bytes) ≡ Some (Reply reply)
told_is bytes reply is = ap (λ (x : List ℕ). told (reply_at x)) is.spelled ∙ ap told (whole_read reply_format reply is.fits)

pub bears_request : (bytes : List ℕ) (request : ARequest) (leg : Leg) → leg ≡ leg_of_phase (phase_of request.ask) → IsRequestFrame bytes request → Bears bytes (leg, request.to) (asked (request_at bytes))
bears_request bytes request leg e is = subst (λ (m : Option Message). Bears bytes (leg, request.to) m) (sym (asked_is bytes request is)) (is, ap (λ (l : Leg). (l, request.to)) (sym e))

pub bears_reply : (bytes : List ℕ) (reply : AReply) → IsReplyFrame bytes reply → Bears bytes (head_of (Reply reply)) (told (reply_at bytes))
bears_reply bytes reply is = subst (λ (m : Option Message). Bears bytes (head_of (Reply reply)) m) (sym (told_is bytes reply is)) (is, refl)
