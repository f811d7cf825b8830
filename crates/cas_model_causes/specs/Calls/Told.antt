-- What an answer tells of the cluster: the cause of each.
use Rattle.std.specs.Prelude.{◌≡◌, ℕ, ◌^◌, ⊤, false, true, List, Some, None, IfSome}
use Rattle.cas_base.specs.Faults.{Rose}
use Rattle.cas_ballot.specs.declared.ballot.Ballot.{Ballot}
use Rattle.cas_ballot.specs.Ballot.{BallotLess}
use Rattle.cas_cache.specs.Entries.{promise_at}
use Rattle.cas_change.specs.declared.program.Clause.{Clause}
use Rattle.cas_proposer.specs.Desk.{DeskView}
use Rattle.cas_proposer.specs.Round.{IsVerdictOf}
use Rattle.cas_proposer.specs.declared.round.Round.{Round}
use Rattle.cas_round.specs.declared.verdict.RoundVerdict.{RoundVerdict}
use Rattle.cas_round.specs.declared.verdict.RoundVerdict.TheVariants as verdict
use Rattle.cas_vault.specs.Vault.{disk_of, counter_of}
use Rattle.cas_record.specs.declared.answer.Answer.{Answer}
use Rattle.cas_record.specs.declared.answer.Answer.TheVariants as answer
use Rattle.cas_record.specs.declared.answer.Cause.TheVariants as cause
use Rattle.cas_model.specs.History.{IsRemembered}
use Rattle.cas_model.specs.Step.{Step, Begin, Propose, Count}
use Rattle.cas_model.specs.Calls.Step.{IsFull, refusal_by, cause_by}
use Rattle.cas_model.specs.View.{Meaning, DiskMeaning, View, CallerView, IsAt}
use Rattle.cas_model_causes.specs.Calls.Causes.{CallIsTold}

-- ---- what is seen of a proposer
-- its desk is down
abbrev pub IsDown : {S V : Type 0} → View S V → ℕ → Type 0
IsDown {S} {V} view id = (desk : DeskView V) → IsAt view.desks id desk → desk.down ≡ true

-- it holds no promise of the key, and its counter stands at its end
pub record IsSpent {S V : Type 0} (view : View S V) (id : ℕ) (key : List ℕ) : Type 0 where
  pub desk : DeskView V
  pub at_desk : IsAt view.desks id desk
  pub no_promise : promise_at key desk.cache ≡ None
  pub counter : counter_of desk.vault ≡ 2 ^ 48

-- the count of faults of its vault's disk rose
pub record HasFaulted {S V : Type 0} (m : DiskMeaning V) (old new : View S V) (id : ℕ) : Type 0 where
  pub desk : DeskView V
  pub at_desk : IsAt old.desks id desk
  pub now : DeskView V
  pub at_now : IsAt new.desks id now
  pub rose : Rose (m.faults (disk_of desk.vault)) (m.faults (disk_of now.vault))

-- the open phase of its round ends so, by the replies that arrived
pub record HasVerdict {S V : Type 0} (view : View S V) (id : ℕ) (verdict : RoundVerdict) : Type 0 where
  pub desk : DeskView V
  pub at_desk : IsAt view.desks id desk
  pub round : Round
  pub is_round : desk.round ≡ Some round
  pub verdict_is : IsVerdictOf round verdict

-- ---- causes
-- A round does not begin: its proposer is down, its marks do not fit, its ballots are spent, its vault's disk failed, or there is no
-- memory.
abbrev pub BeginsBy : {S V : Type 0} → Meaning S V → View S V → ℕ → List ℕ → Answer → View S V → Type 0
BeginsBy m old id key answer.Down new = IsDown old id
BeginsBy m old id key answer.RecordFull new = IsFull old id
BeginsBy m old id key answer.Spent new = IsSpent old id key
BeginsBy m old id key answer.VaultFault new = HasFaulted m.disks old new id
BeginsBy m old id key (answer.NoMemory proposed) new = proposed ≡ false
BeginsBy m old id key other new = ⊥

-- A round ends before it proposed: no quorum promised, and this is what was met instead; its vault's disk failed; or there is no memory.
abbrev pub PreparesBy : {S V : Type 0} → Meaning S V → View S V → ℕ → Answer → View S V → Type 0
PreparesBy m old id answer.VaultFault new = HasFaulted m.disks old new id
PreparesBy m old id (answer.NoMemory proposed) new = proposed ≡ false
PreparesBy m old id told new = (why : RoundVerdict) × HasVerdict old id why × (refusal_by why ≡ Some told)

-- A round is counted: a quorum accepted, or none did and this is what was met instead.
abbrev pub AcceptsBy : {S V : Type 0} → View S V → ℕ → Answer → Type 0
AcceptsBy old id (answer.Done state took ballot) = HasVerdict old id verdict.Quorum
AcceptsBy old id (answer.Unsettled reason) = (why : RoundVerdict) × HasVerdict old id why × (cause_by why ≡ Some reason)
AcceptsBy old id other = ⊥

-- a ballot that is told as met is above that of the round
abbrev pub TellsAbove : {S V : Type 0} → View S V → ℕ → Answer → Type 0
TellsAbove {S} {V} view id (answer.Conflict met) = (desk : DeskView V) → IsAt view.desks id desk → IfSome desk.round (λ round. BallotLess round.ballot met)
TellsAbove {S} {V} view id (answer.Unsettled (cause.Met met)) = (desk : DeskView V) → IsAt view.desks id desk → IfSome desk.round (λ round. BallotLess round.ballot met)
TellsAbove view id other = ⊤

-- ---- the laws
-- What a call's step tells its caller has its cause.
pub record AnswersHaveCauses {S V : Type 0} (m : Meaning S V) : Type 0 where
  pub begins : (old new : View S V) (id : ℕ) (key : List ℕ) (program : List Clause) (told : Answer) → Step m old (Begin id key program) new → CallIsTold new id (Some told) → BeginsBy m old id key told new
  pub prepares : (old new : View S V) (id : ℕ) (told : Answer) → Step m old (Propose id) new → CallIsTold new id (Some told) → PreparesBy m old id told new
  pub accepts : (old new : View S V) (id : ℕ) (told : Answer) → Step m old (Count id) new → CallIsTold new id (Some told) → AcceptsBy old id told

-- Where shelves and disks tell what they keep, a ballot that a round met is above its own.
abbrev pub WhatIsMetIsAbove : {S V : Type 0} → Meaning S V → Type 0
WhatIsMetIsAbove {S} {V} m = m.shelves.tells → m.disks.tells → (view : View S V) (id : ℕ) (caller : CallerView) (desk : DeskView V) (round : Round) (met : Ballot) → IsRemembered m view → IsAt view.callers id caller → IsAt view.desks id desk → desk.round ≡ Some round
    → IsVerdictOf round (verdict.Met met) → BallotLess round.ballot met
