-- What one mark more owes each rule of a legal record, where the record before it is legal. The marks are read newest
-- first.
use Rattle.std.specs.Prelude.{◌≡◌, ℕ, suc, ◌≤◌, true, List, ◌∷◌, ◌++◌, length, ◌↔◌}
use Rattle.cas_change.specs.declared.program.Clause.{Clause}
use Rattle.cas_record.specs.Histories.Chain.{settled_of}
use Rattle.cas_record.specs.Legal.{calls_of, IsProposed, IsFirstProposal, IsFirstEnd, IsNumbered, DoesStand, tells_refused, tells_unsettled, RefusedNever, harms_due, harms_of, HasVotes, IsFloor, IsLegal}
use Rattle.cas_record.specs.Places.{At, IsPrefix}
use Rattle.cas_record.specs.declared.answer.Answer.{Answer}
use Rattle.cas_record.specs.declared.answer.Answer.TheVariants as answer
use Rattle.cas_record.specs.declared.entry.Entry.{Entry}
use Rattle.cas_record.specs.declared.mark.Mark.{Mark}
use Rattle.cas_record.specs.declared.mark.Mark.TheVariants.{Begun, Proposed, Acked, Floor, Ended}
use Rattle.cas_audit.specs.Rules.{DoneStands, StandsAfterSeen, OnlyGrows, BegunFirst, AckedByVotes, FloorsAreTombstones, ShortIsHarmed}

-- a call that begins has the next number of its caller, one that is proposed or answered is so for the first time
abbrev pub KeepsNumbers : Mark → List Mark → Type 0
KeepsNumbers (Begun caller call key program) older = call ≡ suc (calls_of caller older)
KeepsNumbers (Proposed p) older = IsFirstProposal p older
KeepsNumbers (Ended caller call rounds answer) older = IsFirstEnd caller call older
KeepsNumbers other older = Unit {0}

-- a change that is answered Done stands
abbrev pub AnswerStands : ℕ → ℕ → Answer → List Mark → Type 0
AnswerStands caller call (answer.Done state took ballot) older = DoesStand caller call state took ballot older
AnswerStands caller call other older = Unit {0}

abbrev pub KeepsStanding : Mark → List Mark → Type 0
KeepsStanding (Ended caller call rounds answer) older = AnswerStands caller call answer older
KeepsStanding other older = Unit {0}

-- an answer that tells whether its call was proposed tells the truth
pub record TellsTruly (answer : Answer) (caller call : ℕ) (older : List Mark) : Type 0 where
  pub refused : tells_refused answer ≡ true → IsProposed caller call older → ⊥
  pub unsettled : tells_unsettled answer ≡ true → IsProposed caller call older

abbrev pub KeepsRefusals : Mark → List Mark → Type 0
KeepsRefusals (Ended caller call rounds answer) older = TellsTruly answer caller call older
KeepsRefusals other older = Unit {0}

-- wherever the change of the call stands, it stands after all that was settled when the call began
pub record StandsLate (caller call : ℕ) (older : List Mark) : Type 0 where
  pub each : {key : List ℕ} {program : List Clause} {earlier : List Mark} → At (Begun caller call key program) earlier older
      → (entry : Entry) (before after : List Entry) → entry.caller ≡ caller → entry.call ≡ call
      → settled_of key older ≡ before ++ entry ∷ after → length (settled_of key earlier) ≤ length before

abbrev pub AnswerIsLate : ℕ → ℕ → Answer → List Mark → Type 0
AnswerIsLate caller call (answer.Done state took ballot) older = StandsLate caller call older
AnswerIsLate caller call other older = Unit {0}

abbrev pub KeepsRealTime : Mark → List Mark → Type 0
KeepsRealTime (Ended caller call rounds answer) older = AnswerIsLate caller call answer older
KeepsRealTime other older = Unit {0}

-- an acknowledgment or a floor leaves what was settled of its key, and may add to it
abbrev pub KeepsSettled : Mark → List Mark → Type 0
KeepsSettled (Acked a) older = IsPrefix (settled_of a.key older) (settled_of a.key (Acked a ∷ older))
KeepsSettled (Floor key ballot state) older = IsPrefix (settled_of key older) (settled_of key (Floor key ballot state ∷ older))
KeepsSettled other older = Unit {0}

-- an acknowledgment has its votes
abbrev pub KeepsVotes : Mark → List Mark → Type 0
KeepsVotes (Acked a) older = HasVotes a older
KeepsVotes other older = Unit {0}

-- a floor is a tombstone, or opens its key's history
abbrev pub KeepsFloors : Mark → List Mark → Type 0
KeepsFloors (Floor key ballot state) older = IsFloor key ballot state older
KeepsFloors other older = Unit {0}

-- an answer that tells a shortfall has its harms
abbrev pub KeepsHarms : Mark → List Mark → Type 0
KeepsHarms (Ended caller call rounds answer) older = harms_due answer ≤ harms_of caller call older
KeepsHarms other older = Unit {0}

-- on a legal record each rule goes on with one mark more exactly where the mark keeps it; that what is settled was begun
-- follows where the calls stay numbered
pub record RulesGoOn (mark : Mark) (older : List Mark) : Type 0 where
  pub numbered : IsNumbered (mark ∷ older) ↔ KeepsNumbers mark older
  pub done_stands : DoneStands (mark ∷ older) ↔ KeepsStanding mark older
  pub refused_never : IsNumbered (mark ∷ older) → RefusedNever (mark ∷ older) ↔ KeepsRefusals mark older
  pub after_seen : StandsAfterSeen (mark ∷ older) ↔ KeepsRealTime mark older
  pub only_grows : OnlyGrows (mark ∷ older) ↔ KeepsSettled mark older
  pub begun_first : IsNumbered (mark ∷ older) → BegunFirst (mark ∷ older)
  pub has_votes : AckedByVotes (mark ∷ older) ↔ KeepsVotes mark older
  pub floors : FloorsAreTombstones (mark ∷ older) ↔ KeepsFloors mark older
  pub short_harmed : ShortIsHarmed (mark ∷ older) ↔ KeepsHarms mark older

abbrev pub LegalGoesOn : Type 0
LegalGoesOn = (mark : Mark) (older : List Mark) → IsLegal older → RulesGoOn mark older
