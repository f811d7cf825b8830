-- Why a call is told what it is, from its step.
use Rattle.std.proofs.Common.{◌≡◌, inl, inr, ℕ, List, Result, Ok, Err, Some, refl, sym, ap, subst}
use Rattle.std.specs.Prelude.{IfErr}
use Rattle.cas_change.specs.declared.program.Clause.{Clause}
use Rattle.cas_record.specs.declared.answer.Answer.{Answer}
use Rattle.cas_record.specs.declared.answer.Answer.TheVariants as answer
use Rattle.cas_model.specs.History.{IsRemembered}
use Rattle.cas_model.specs.Step.{Step, Propose, Count}
use Rattle.cas_model.specs.Calls.Step.{IsFull}
use Rattle.cas_model.specs.View.{Meaning, View, CallerView, IsAt}
use Rattle.cas_model_causes.specs.Calls.Causes.{CallIsTold}
use Rattle.cas_model_causes.specs.Calls.Told.{BeginsBy, PreparesBy, AcceptsBy, TellsAbove}
use Rattle.cas_model_causes.proofs.Calls.Told.{begins_by, prepares_by, accepts_by, prepares_above, accepts_above}
use Rattle.cas_world.specs.Calls.Beginning.{BeginsOrNot}
use Rattle.cas_world.specs.World.{WasTold}

told_so : {S V : Type 0} (view : View S V) (id number : ℕ) (told : Answer) → WasTold view id number told → CallIsTold view id (Some told)
told_so view id number told was = record { caller = was.caller; at_caller = was.at_caller; call = was.call; is_open = was.is_open; told_is = was.told }

-- ---- a beginning
pub begin_cause : {S V A : Type 0} (m : Meaning S V) (old new : View S V) (id number : ℕ) (key : List ℕ) (program : List Clause) (result : Result A Answer) → (result ≡ Err answer.RecordFull → IsFull old id) → BeginsOrNot m old id number key program result new
    → IfErr result (λ told. BeginsBy m old id key told new)
begin_cause m old new id number key program (Ok done) full by = tt
begin_cause m old new id number key program (Err told) full (inl step) = begins_by m old new id key program told step.0 (told_so new id number told step.1)
begin_cause {A = A} m old new id number key program (Err told) full (inr refused) = elim refused.2 [
  | inl is_full ↦ subst (λ (a : Answer). BeginsBy m old id key a new) (sym is_full) (full (ap (λ (a : Answer). Err a) is_full))
  | inr none ↦ subst (λ (a : Answer). BeginsBy m old id key a new) (sym none) refl
]

-- ---- the end of a prepare phase
pub propose_cause : {S V A : Type 0} (m : Meaning S V) (old new : View S V) (id : ℕ) (result : Result A Answer) → Step m old (Propose id) new → ((caller : CallerView) → IsAt old.callers id caller → IfErr result (WasTold new id caller.number))
    → IfErr result (λ told. PreparesBy m old id told new)
propose_cause m old new id (Ok done) by was = tt
propose_cause m old new id (Err told) by was =
    let at = by.at_round.of_call in prepares_by m old new id told by (told_so new id at.caller.number told (was at.caller at.at_caller))

pub propose_above : {S V A : Type 0} (m : Meaning S V) (old new : View S V) (id : ℕ) (result : Result A Answer) → Step m old (Propose id) new → ((caller : CallerView) → IsAt old.callers id caller → IfErr result (WasTold new id caller.number))
    → m.shelves.tells → m.disks.tells → IsRemembered m old → IfErr result (λ told. TellsAbove old id told)
propose_above m old new id (Ok done) by was shelves_tell disks_tell is = tt
propose_above {A = A} m old new id (Err told) by was shelves_tell disks_tell is =
    let at = by.at_round.of_call in prepares_above m old new id at.caller told shelves_tell disks_tell is at.at_caller (propose_cause {A = A} m old new id (Err told) by was)

-- ---- the end of an accept phase
pub count_cause : {S V : Type 0} (m : Meaning S V) (old new : View S V) (id : ℕ) (told : Answer) → Step m old (Count id) new → ((caller : CallerView) → IsAt old.callers id caller → WasTold new id caller.number told) → AcceptsBy old id told
count_cause m old new id told by was =
    let at = by.at_round.of_call in accepts_by m old new id told by (told_so new id at.caller.number told (was at.caller at.at_caller))

pub count_above : {S V : Type 0} (m : Meaning S V) (old new : View S V) (id : ℕ) (told : Answer) → Step m old (Count id) new → ((caller : CallerView) → IsAt old.callers id caller → WasTold new id caller.number told)
    → m.shelves.tells → m.disks.tells → IsRemembered m old → TellsAbove old id told
count_above m old new id told by was shelves_tell disks_tell is =
    let at = by.at_round.of_call in accepts_above m old id at.caller told shelves_tell disks_tell is at.at_caller (count_cause m old new id told by was)
