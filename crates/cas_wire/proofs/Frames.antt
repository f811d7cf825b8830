-- Bytes that are one frame as a whole.
use Rattle.std.proofs.Common.{◌≡◌, ℕ, List, [], ◌∷◌, ◌++◌, Some, Ok, Err, sym, ap, ◌∙◌}
use Rattle.std.specs.Prelude.{IfSome}
use Rattle.std.proofs.lemmas.List.{append-nil}
use Rattle.cas_wire.specs.Frame.{request_spelling, reply_spelling, FitsRequest, FitsReply, IsRequestFrame, IsReplyFrame}
use Rattle.cas_wire.specs.FrameReading.{whole_of, request_at, reply_at}
use Rattle.cas_wire.specs.Reading.{Reading}
use Rattle.cas_slot.specs.declared.message.Request.{Request}
use Rattle.cas_slot.specs.declared.message.Reply.{Reply}
use Rattle.cas_base.proofs.Bytes.{IsBytes}
use Rattle.cas_wire.proofs.Formats.{ok_is, not_err, IsFormat}
use Rattle.cas_wire.proofs.ReplyFormats.{reply_format}
use Rattle.cas_wire.proofs.RequestFormats.{request_format}

module _ {A : Type 0} {s : A → List ℕ} {F : A → Type 0} {r : List ℕ → Reading A} where
  pub whole_spelled : IsFormat s F r → (bytes : List ℕ) (a : A) → IsBytes bytes → r bytes ≡ Ok (a, []) → F a × (bytes ≡ s a)
  whole_spelled format bytes a fits e =
      let t = format.takes bytes (a, []) fits e in
      (t.1, t.0.parts ∙ append-nil (s a))

  pub whole_read : IsFormat s F r → (a : A) → F a → r (s a) ≡ Ok (a, [])
  whole_read format a fits = ap r (sym (append-nil (s a))) ∙ format.again a [] fits

  -- what is read of a frame is its value, and nothing is left
  pub whole_is : IsFormat s F r → (bytes : List ℕ) (a : A) (x : A × List ℕ) → F a → bytes ≡ s a → r bytes ≡ Ok x → x ≡ (a, [])
  whole_is format bytes a x fits spelled e = ok_is x (a, []) (sym e ∙ ap r spelled ∙ whole_read format a fits)

  pub whole_not_wrong : IsFormat s F r → (bytes : List ℕ) (a : A) (left : ℕ) → F a → bytes ≡ s a → r bytes ≡ Err left → ⊥
  whole_not_wrong format bytes a left fits spelled e = not_err (a, []) left (sym (whole_read format a fits) ∙ ap r (sym spelled) ∙ e)

  -- no spelling begins another
  pub none_begins : IsFormat s F r → (a b : A) (rest : List ℕ) → F a → F b → s a ++ rest ≡ s b → (rest ≡ []) × (b ≡ a)
  none_begins format a b rest fits fits' e =
      let same = ok_is (a, rest) (b, []) (sym (format.again a rest fits) ∙ ap r e ∙ whole_read format b fits') in
      (ap (λ (y : A × List ℕ). y.1) same, sym (ap (λ (y : A × List ℕ). y.0) same))

-- ---- requests

pub request_found : (bytes : List ℕ) (request : Request) (rest : List ℕ) → IsBytes bytes → request_at bytes ≡ Ok (request, rest) → IfSome (whole_of request rest) (IsRequestFrame bytes)
request_found bytes request [] fits e = let w = whole_spelled request_format bytes request fits e in record { fits = w.0; spelled = w.1 }
request_found bytes request (b ∷ rest) fits e = tt

pub request_only : (bytes : List ℕ) (request : Request) (rest : List ℕ) → request_at bytes ≡ Ok (request, rest) → (other : Request) → IsRequestFrame bytes other → whole_of request rest ≡ Some other
request_only bytes request rest e other is =
    let same = whole_is request_format bytes other (request, rest) is.fits is.spelled e in
    ap (λ (y : Request × List ℕ). whole_of y.0 y.1) same

pub request_wrong : (bytes : List ℕ) (left : ℕ) → request_at bytes ≡ Err left → (other : Request) → IsRequestFrame bytes other → ⊥
request_wrong bytes left e other is = whole_not_wrong request_format bytes other left is.fits is.spelled e

pub request_alone : (bytes : List ℕ) (request : Request) → FitsRequest request → bytes ≡ request_spelling request → (more : List ℕ) (other : Request) → IsRequestFrame (bytes ++ more) other → (more ≡ []) × (other ≡ request)
request_alone bytes request fits e more other is = none_begins request_format request other more fits is.fits (ap (λ (xs : List ℕ). xs ++ more) (sym e) ∙ is.spelled)

-- ---- replies

pub reply_found : (bytes : List ℕ) (reply : Reply) (rest : List ℕ) → IsBytes bytes → reply_at bytes ≡ Ok (reply, rest) → IfSome (whole_of reply rest) (IsReplyFrame bytes)
reply_found bytes reply [] fits e = let w = whole_spelled reply_format bytes reply fits e in record { fits = w.0; spelled = w.1 }
reply_found bytes reply (b ∷ rest) fits e = tt

pub reply_only : (bytes : List ℕ) (reply : Reply) (rest : List ℕ) → reply_at bytes ≡ Ok (reply, rest) → (other : Reply) → IsReplyFrame bytes other → whole_of reply rest ≡ Some other
reply_only bytes reply rest e other is =
    let same = whole_is reply_format bytes other (reply, rest) is.fits is.spelled e in
    ap (λ (y : Reply × List ℕ). whole_of y.0 y.1) same

pub reply_wrong : (bytes : List ℕ) (left : ℕ) → reply_at bytes ≡ Err left → (other : Reply) → IsReplyFrame bytes other → ⊥
reply_wrong bytes left e other is = whole_not_wrong reply_format bytes other left is.fits is.spelled e

pub reply_alone : (bytes : List ℕ) (reply : Reply) → FitsReply reply → bytes ≡ reply_spelling reply → (more : List ℕ) (other : Reply) → IsReplyFrame (bytes ++ more) other → (more ≡ []) × (other ≡ reply)
reply_alone bytes reply fits e more other is = none_begins reply_format reply other more fits is.fits (ap (λ (xs : List ℕ). xs ++ more) (sym e) ∙ is.spelled)
