-- Numbered requests, and what is decided on one by what a register tells.
use Rattle.std.specs.Prelude.{◌≡◌, ℕ, suc, ◌+◌, Bool, true, false, ◌==◌, nat_lt, if◌then◌else◌, List, [], ◌∷◌, Option, Some, None, ⊤, ℤ, ◌+ℤ◌, FitsSigned}
use Rattle.std.specs.Int.{w64}
use Rattle.cas_change.specs.State.{fits_i64}
use Rattle.cas_change.specs.declared.state.Body.TheVariants.{Number, Text}
use Rattle.cas_change.specs.declared.state.State.{State}
use Rattle.cas_change.specs.declared.state.State.TheVariants.{Empty, Held}
use Rattle.cas_change.specs.declared.program.Clause.{Clause}
use Rattle.cas_change.specs.declared.program.Guard.{Guard}
use Rattle.cas_change.specs.declared.program.Guard.TheVariants.{Always, IsEmpty, TextIs}
use Rattle.cas_change.specs.declared.program.Act.{Act}
use Rattle.cas_change.specs.declared.program.Act.TheVariants.{PutText}
use Rattle.cas_session_text.specs.declared.reply.LastReply.{LastReply}
use Rattle.cas_session.specs.declared.request.SessionAct.{SessionAct}
use Rattle.cas_session.specs.declared.request.SessionAct.TheVariants.{Add, Put}
use Rattle.cas_session.specs.declared.request.SessionAnswer.{SessionAnswer}
use Rattle.cas_session.specs.declared.request.SessionAnswer.TheVariants.{Done, Stale, Gap, Unfit}
use Rattle.cas_session.specs.declared.decision.Decision.{Decision}
use Rattle.cas_session.specs.declared.decision.Decision.TheVariants.{Answered, Proposes}
use Rattle.cas_session_text.specs.Contents.{SessionContents, contents_text, reply_of}

-- the value that an act leaves; none where a sum is outside i64
abbrev pub value_after : SessionAct → ℤ → Option ℤ
value_after (Add addend) value = if fits_i64 (value +ℤ addend) then Some (value +ℤ addend) else None
value_after (Put number) value = Some number

-- a caller's request of that number
pub record Request : Type 0 where
  pub caller : ℕ
  pub number : ℕ
  pub act : SessionAct

abbrev pub request_of : ℕ → ℕ → SessionAct → Request
request_of caller number act = record { caller = caller; number = number; act = act }

-- the number of the caller's last request, 0 where it has none
abbrev pub last_number : Option LastReply → ℕ
last_number None = 0
last_number (Some last) = last.number

-- what is decided on the request that is next: it leaves this value, or is unfit
abbrev pub decided_next : ℤ → Option ℤ → Decision
decided_next value (Some left) = Proposes left
decided_next value None = Answered (Unfit value)

-- what is decided on a request that has not come: it is next, or leaves a gap
abbrev pub decided_new : Request → ℤ → ℕ → Decision
decided_new request value last =
    if request.number == (last + 1) then decided_next value (value_after request.act value) else Answered (Gap last)

-- what is decided by what the caller was told last
abbrev pub decided_by : Request → ℤ → Option LastReply → Decision
decided_by request value None = decided_new request value 0
decided_by request value (Some last) =
    if request.number == last.number then Answered (Done last.reply false)
    else (if nat_lt request.number last.number then Answered (Stale last.number) else decided_new request value last.number)

-- what is decided on a request: the one that came last is answered as it was, an older one is stale, and of those that have not come
-- the next one is proposed, if its value fits, and any other leaves a gap
abbrev pub decided : Request → SessionContents → Decision
decided request contents = decided_by request contents.value (reply_of request.caller contents.replies)

-- a value that is proposed is an i64
abbrev pub ProposesFitting : Decision → Type 0
ProposesFitting (Answered told) = ⊤
ProposesFitting (Proposes left) = FitsSigned w64 left

-- what the caller is told of the request, which left this value
abbrev pub reply_to : Request → ℤ → LastReply
reply_to request left = record { caller = request.caller; number = request.number; reply = left }

-- what a register must hold, still, for a change that is made for that state
abbrev pub guard_for : State → Guard
guard_for (Held version (Text text)) = TextIs text
guard_for other = IsEmpty

-- the program of one clause
abbrev pub one_clause : Guard → Act → List Clause
one_clause guard act = record { guard = guard; act = act } ∷ []

-- the program that puts the text of these contents in place of exactly that state
abbrev pub change_to : State → SessionContents → List Clause
change_to state contents = one_clause (guard_for state) (PutText (contents_text contents))
