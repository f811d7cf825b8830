-- What a register holds that serves numbered requests, and its text.
use Rattle.std.specs.Prelude.{◌≡◌, ℕ, ◌^◌, ◌<◌, ◌≤◌, ⊤, Bool, false, not, ◌==◌, nat_lt, if◌then◌else◌, List, [], ◌∷◌, ◌++◌, Option, Some, None, slice_get, ℤ, pos, FitsSigned, codes, decimal}
use Rattle.std.specs.Fmt.{signed_decimal}
use Rattle.std.specs.Int.{w64}
use Rattle.std.specs.List.{find, flat_map, list_all, AllByRecursion}
use Rattle.cas_change.specs.declared.state.Body.TheVariants.{Number, Text}
use Rattle.cas_change.specs.declared.state.State.{State}
use Rattle.cas_change.specs.declared.state.State.TheVariants.{Empty, Held}
use Rattle.cas_session_text.specs.declared.reply.LastReply.{LastReply}
use Rattle.cas_session_text.specs.declared.reply.TheConstants.{MOST_CALLERS}

-- a value, and what callers were told last
pub record SessionContents : Type 0 where
  pub value : ℤ
  pub replies : List LastReply

pub record IsCaller (caller : ℕ) : Type 0 where
  pub some : 1 ≤ caller
  pub known : caller ≤ MOST_CALLERS

-- what a caller may have been told: requests are numbered from 1
pub record IsLastReply (reply : LastReply) : Type 0 where
  pub caller : IsCaller reply.caller
  pub numbered : 1 ≤ reply.number
  pub number_fits : reply.number < 2 ^ 64
  pub reply_fits : FitsSigned w64 reply.reply

-- callers rise, all of them above that one
abbrev pub AreRisingAbove : ℕ → List LastReply → Type 0
AreRisingAbove low [] = ⊤
AreRisingAbove low (reply ∷ replies) = (low < reply.caller) × AreRisingAbove reply.caller replies

pub record IsContents (contents : SessionContents) : Type 0 where
  pub value_fits : FitsSigned w64 contents.value
  pub each : AllByRecursion IsLastReply contents.replies
  pub rising : AreRisingAbove 0 contents.replies

-- what an empty register stands for
abbrev pub no_requests : SessionContents
no_requests = record { value = pos 0; replies = [] }

-- ---- the text
abbrev pub reply_word : LastReply → List ℕ
reply_word reply = decimal reply.caller ++ (codes ":" ++ (decimal reply.number ++ (codes ":" ++ signed_decimal reply.reply)))

abbrev pub next_reply_text : LastReply → List ℕ
next_reply_text reply = codes " " ++ reply_word reply

-- the value, and each reply behind a space
abbrev pub contents_text : SessionContents → List ℕ
contents_text contents = signed_decimal contents.value ++ flat_map next_reply_text contents.replies

-- whether no byte of these is that one
abbrev pub lacks : ℕ → List ℕ → Bool
lacks stop bytes = list_all (λ byte. not (byte == stop)) bytes

-- the state stands for these contents: it is empty and they are those of no requests, or it holds their text
abbrev pub StandsFor : State → SessionContents → Type 0
StandsFor Empty contents = contents ≡ no_requests
StandsFor (Held version (Text text)) contents = IsContents contents × (contents_text contents ≡ text)
StandsFor (Held version (Number number)) contents = ⊥

-- ---- replies
-- what the caller was told last, if anything
abbrev pub reply_of : ℕ → List LastReply → Option LastReply
reply_of caller replies = find (λ reply. reply.caller == caller) replies

-- whether the reply at that place is to the caller
abbrev pub is_to : ℕ → Option LastReply → Bool
is_to caller None = false
is_to caller (Some reply) = reply.caller == caller

abbrev pub told_at : List LastReply → ℕ → ℕ → Bool
told_at replies at caller = is_to caller (slice_get replies at)

-- with this in place of what its caller was told before, or put in where callers rise
abbrev pub with_reply : LastReply → List LastReply → List LastReply
with_reply told [] = told ∷ []
with_reply told (reply ∷ replies) =
    if nat_lt reply.caller told.caller then reply ∷ with_reply told replies
    else (if reply.caller == told.caller then told ∷ replies else told ∷ reply ∷ replies)

-- the contents after a caller was told this, which is the value then
abbrev pub after_reply : LastReply → SessionContents → SessionContents
after_reply told contents = record { value = told.reply; replies = with_reply told contents.replies }
