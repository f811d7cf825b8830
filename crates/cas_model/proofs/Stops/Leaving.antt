-- A desk that stops or moves on: its open round is closed, its frames join the late ones, and its caller is told.
use Rattle.std.proofs.Common.{◌≡◌, ℕ, List, Option, None, Some, reverse, refl, sym, ap, subst, ◌∙◌, arith}
use Rattle.std.specs.Prelude.{true, is_some, if◌then◌else◌}
use Rattle.cas_change.specs.declared.outcome.Outcome.{Outcome}
use Rattle.cas_flow.specs.Flow.{queue_at, abandoned}
use Rattle.cas_flow.specs.declared.message.Message.{Message}
use Rattle.cas_proposer.specs.Desk.{DeskView, IsCrashed}
use Rattle.cas_vault.specs.declared.vault.Vault.{Vault}
use Rattle.cas_record.specs.declared.answer.Answer.{Answer}
use Rattle.cas_record.specs.declared.answer.Answer.TheVariants as answer
use Rattle.cas_record.specs.declared.answer.Cause.{Cause}
use Rattle.cas_record.specs.declared.answer.Cause.TheVariants as cause
use Rattle.cas_record.specs.declared.mark.Mark.{Mark}
use Rattle.cas_record.specs.Logs.Happening.{Happening, marks_of}
use Rattle.cas_record.specs.Logs.Lawful.{Cluster}
use Rattle.cas_record.specs.Legal.{IsProposed, harms_due}
use Rattle.cas_model.specs.History.{IsLogged}
use Rattle.cas_model.specs.Parties.{AreMessagesTrue, IsVaultTrue, ArePromisesHeld, HaveOneEach, IsDeskTrue, IsToldTrue, IsCallTrue, IsCallerTrue}
use Rattle.cas_protocol.specs.Protocol.{Made, GlobalState}
use Rattle.cas_model.specs.Stops.Step as stops
use Rattle.cas_model.specs.Stops.Step.{closed_by, closed_by_crash, LeavesRound, GoesDown}
use Rattle.cas_model.specs.View.{Meaning, View, CallView, CallerView, IsAt, era_at}
use Rattle.cas_model.proofs.Around.{Whole, whole_of, logged, Around, around, leaves_desk, settles}
use Rattle.cas_model.proofs.Exchanges.Steps as council
use Rattle.cas_model.proofs.Calls.Draws.{Lasts}
use Rattle.cas_model.proofs.Calls.Ends.{IsDeskQuiet, quiet_true, quiets, none_left, others_left, all_joined_true, call_told}
use Rattle.cas_model.proofs.Places.{contains_none, own_set}

-- ---- what the caller is told
-- an answer that a call may be told whose change was not proposed, and a cause for one whose change was
pub record IsClosing (told : Answer) (why : Cause) : Type 0 where
  pub refusal : (log : List Happening) (all : List Made) (id number : ℕ) → (IsProposed id number (marks_of log) → ⊥) → IsToldTrue log all id number told
  pub unharmed : harms_due (answer.Unsettled why) ≡ 0

pub closing_crash : IsClosing answer.Crashed cause.Crashed
closing_crash = record { refusal = λ log all id number none. record { refused = λ e. none; unsettled = λ e. absurd (cc e); harmed = omega arith }; unharmed = refl }

pub closing_move : (era : ℕ) → IsClosing (answer.Moved era) (cause.Moved era)
closing_move era = record { refusal = λ log all id number none. record { refused = λ e. none; unsettled = λ e. absurd (cc e); harmed = omega arith }; unharmed = refl }

closed_true : (log : List Happening) (all : List Made) (id number : ℕ) (call : CallView) (told : Answer) (why : Cause) → IsClosing told why → IsCallTrue log all id number call → IsCallTrue log all id number (closed_by told why call)
closed_true log all id number call told why closing was = call_told log all id number call (if is_some call.proposed then answer.Unsettled why else told) true 1 was (by_proposed call.proposed was.unproposed was.proposed)
  where
    by_proposed : (proposed : Option Outcome) → (proposed ≡ None → IsProposed id number (marks_of log) → ⊥) → (is_some proposed ≡ true → IsProposed id number (marks_of log))
        → IsToldTrue log all id number (if is_some proposed then answer.Unsettled why else told)
    by_proposed None none some = closing.refusal log all id number (none refl)
    by_proposed (Some outcome) none some = record { refused = λ e. absurd (cc e); unsettled = λ e. some refl; harmed = omega (arith, closing.unharmed) }

-- ---- the view then
pub left_whole : {S V : Type 0} (m : Meaning S V) (cluster : Cluster) (global : GlobalState) (old : View S V) (id : ℕ) (DeskTurns : DeskView V → DeskView V → Type 0) (told : Answer) (why : Cause) (new : View S V) → IsClosing told why
    → Around m cluster global old id → ((c : CallerView) → IsAt old.callers id c → IsCallerTrue global.log global.made id c) → AreMessagesTrue global.log (queue_at old.flow id).messages → AreMessagesTrue global.log old.flow.late
    → ((desk now : DeskView V) (c : CallerView) → IsAt old.desks id desk → IsAt old.callers id c → DeskTurns desk now → IsDeskQuiet m cluster global.log global.made id (era_at old id).number now)
    → LeavesRound DeskTurns (closed_by told why) old id new → Whole m cluster global new
left_whole {S} {V} m cluster global old id DeskTurns told why new closing rest callers own late quiet (stops.idle desk now at none turns view) =
    subst (Whole m cluster global) (sym view) (settles m cluster global old _ id rest (leaves_desk old id now _ (others_left old.flow id)) (record {
      desk = λ d c at_d at_c.
          subst (λ (x : DeskView V). IsDeskTrue m cluster global.log global.made (era_at old id).number id c (queue_at (abandoned old.flow id) id).messages x) (sym (own_set old.desks id now d at_d))
          (quiet_true m cluster global.log global.made id (era_at old id).number c (queue_at (abandoned old.flow id) id).messages now (none_left old.flow id) (quiet desk now c at at_c turns));
      caller = callers;
      own = subst (AreMessagesTrue global.log) (sym (none_left old.flow id)) (λ each has_it. absurd (contains_none has_it));
      late = all_joined_true global.log (queue_at old.flow id).messages old.flow.late own late;
    }))
left_whole {S} {V} m cluster global old id DeskTurns told why new closing rest callers own late quiet (stops.closes desk now round of at is_round turns view) =
    let was = callers of.caller of.at_caller in
    subst (Whole m cluster global) (sym view)
    (quiets m cluster global old id of.caller (closed_by told why of.call) now (abandoned old.flow id) rest was
    (closed_true global.log global.made id of.caller.number of.call told why closing (was.call of.call of.is_open)) (quiet desk now of.caller at of.at_caller turns)
    (none_left old.flow id) (others_left old.flow id) (all_joined_true global.log (queue_at old.flow id).messages old.flow.late own late))

pub left_marks : {S V : Type 0} (DeskTurns : DeskView V → DeskView V → Type 0) (closed : CallView → CallView) (old new : View S V) (id : ℕ) → LeavesRound DeskTurns closed old id new → new.marks ≡ old.marks
left_marks {S} {V} DeskTurns closed old new id (stops.idle desk now at none turns view) = ap (λ (w : View S V). w.marks) view
left_marks {S} {V} DeskTurns closed old new id (stops.closes desk now round of at is_round turns view) = ap (λ (w : View S V). w.marks) view

-- ---- it goes down
-- the log tells of its vault and its promises what it told; and a desk that crashed holds none
pub vault_past : {S V : Type 0} (m : Meaning S V) (log : List Happening) (id era : ℕ) {old new : Vault V} → Lasts m.disks old new → IsVaultTrue m log id era old → IsVaultTrue m log id era new
vault_past m log id era still was = record {
  past = λ ballot key e drawn own. still.still_past ballot.counter (was.past ballot key e drawn own);
  past_floors = λ key floor has. still.still_past floor.counter (was.past_floors key floor has);
  ages = λ request stands own. still.ages request.age (was.ages request stands own);
  is_in = was.is_in;
  not_beyond = was.not_beyond;
}

pub quiet_crashed : {S V : Type 0} (m : Meaning S V) (cluster : Cluster) (log : List Happening) (all : List Made) (id era : ℕ) (caller : CallerView) (waiting : List Message) (desk now : DeskView V)
    → Lasts m.disks desk.vault now.vault → IsCrashed desk now → IsDeskTrue m cluster log all era id caller waiting desk → IsDeskQuiet m cluster log all id era now
quiet_crashed {S} {V} m cluster log all id era caller waiting desk now still crashed of = record {
  same_id = ap (λ (d : DeskView V). d.id) crashed ∙ of.same_id;
  known = of.known;
  vault = vault_past m log id era still of.vault;
  cached = subst (ArePromisesHeld cluster log all id era) (sym (ap (λ (d : DeskView V). d.cache) crashed)) (λ key ready h. absurd (contains_none h));
  one_each = subst HaveOneEach (sym (ap (λ (d : DeskView V). d.cache) crashed)) tt;
  none_open = ap (λ (d : DeskView V). d.round) crashed;
}

-- wherever a crash leaves its vault past all that it was past
pub crashed_logged : {S V : Type 0} {cluster : Cluster} (m : Meaning S V) (old : View S V) (id : ℕ) (DeskTurns : DeskView V → DeskView V → Type 0) (new : View S V)
    → ((desk now : DeskView V) → DeskTurns desk now → IsCrashed desk now × Lasts m.disks desk.vault now.vault)
    → IsLogged m cluster old → LeavesRound DeskTurns closed_by_crash old id new → IsLogged m cluster new
crashed_logged {S} {V} {cluster} m old id DeskTurns new crashes is by =
    let whole = whole_of m old is in
    logged m cluster is.global new
    (left_whole m cluster is.global old id DeskTurns answer.Crashed cause.Crashed new closing_crash (around m cluster is.global old id whole) (is.agrees.callers id) (is.agrees.own id) is.agrees.late
    (λ desk now c at at_c turns.
    let how = crashes desk now turns in
    quiet_crashed m cluster is.global.log is.global.made id (era_at old id).number c (queue_at old.flow id).messages desk now how.1 how.0 (is.agrees.desks id desk c at at_c)) by)
    (is.agrees.marks ∙ sym (ap (λ (l : List Mark). reverse l) (left_marks DeskTurns closed_by_crash old new id by)))

pub down_logged : {S V : Type 0} {cluster : Cluster} (m : Meaning S V) (old : View S V) (id : ℕ) (DeskTurns : DeskView V → DeskView V → Type 0) (new : View S V)
    → ((desk now : DeskView V) → DeskTurns desk now → IsCrashed desk now × Lasts m.disks desk.vault now.vault)
    → IsLogged m cluster old → GoesDown DeskTurns old id new → IsLogged m cluster new
down_logged m old id DeskTurns new crashes is (stops.of_client apart by) = crashed_logged m old id DeskTurns new crashes is by
down_logged {cluster = cluster} m old id DeskTurns new crashes is (stops.of_operator middle first by view) = subst (IsLogged m cluster) (sym view) (council.breaks_off m middle (crashed_logged m old id DeskTurns middle crashes is by))
