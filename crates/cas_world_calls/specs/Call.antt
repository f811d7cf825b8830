-- An open call, step by step.
use Rattle.std.specs.Prelude.{ℕ, ◌+◌, ◌-◌, ◌^◌, min, Bool, false, if◌then◌else◌, List, [], ◌∷◌, Option, None, Some}
use Rattle.cas_ballot.specs.Members.{has_member, with_member}
use Rattle.cas_record.specs.declared.answer.Answer.{Answer}
use Rattle.cas_record.specs.declared.mark.Mark.{Mark}
use Rattle.cas_record.specs.declared.mark.Mark.TheVariants.{Harmed}
use Rattle.cas_world_calls.specs.declared.call.Caller.{Caller}
use Rattle.cas_world_calls.specs.declared.call.OpenCall.{OpenCall}
use Rattle.cas_world_calls.specs.declared.proposal.Proposing.{Proposing}

-- another round of it begins, with so many marks reserved
abbrev pub again : OpenCall → ℕ → OpenCall
again call reserved = record call { rounds = min (call.rounds + 1) (2 ^ 32 - 1); reserved = reserved; harmed = []; told = None; is_closed = false }

-- its round is over, and this is told: of the marks that were reserved that of its end is left
abbrev pub over : OpenCall → Answer → OpenCall
over call told = record call { told = Some told; copies = None; reserved = 1 }

-- its outcome is proposed, and its accept phase begins
abbrev pub with_proposal : OpenCall → Proposing → OpenCall
with_proposal call proposing =
    record call { proposed = Some proposing.outcome; copies = Some proposing.copies; reserved = call.reserved - 1; harmed = []; told = None }

-- the first harm of an acceptor in a phase is marked, and no other
abbrev pub harmed_by : OpenCall → ℕ → OpenCall
harmed_by call acceptor =
    if has_member call.harmed acceptor then record call { told = None } else record call { told = None; harmed = with_member call.harmed acceptor; reserved = call.reserved - 1 }

abbrev pub harms_marked : ℕ → ℕ → OpenCall → ℕ → Bool → List Mark
harms_marked caller number call acceptor down = if has_member call.harmed acceptor then [] else Harmed caller number down ∷ []

-- how many marks are reserved for a call, if one is open
abbrev pub reserved_in : Option OpenCall → ℕ
reserved_in None = 0
reserved_in (Some call) = call.reserved

abbrev pub reserved_of : Caller → ℕ
reserved_of caller = reserved_in caller.call
