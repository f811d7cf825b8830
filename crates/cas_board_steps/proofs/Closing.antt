-- What becomes of another caller's call as a call of the operator closes its round.
use Rattle.std.proofs.Common.{◌≡◌, ℕ, suc, Bool, true, false, not, if◌then◌else◌, List, [], ◌++◌, length, Option, None, Some, IsSome, is_some, slice_get, slice_set, inl, inr, refl, sym, ap, ap₂, subst, ◌∙◌, append-nil}
use Rattle.std.specs.Prelude.{◌&&◌}
use Rattle.cas_proposer.specs.Desk.{DeskView}
use Rattle.cas_proposer.specs.declared.round.Round.{Round}
use Rattle.cas_record.specs.declared.answer.Answer.{Answer}
use Rattle.cas_record.specs.declared.answer.Answer.TheVariants as answer
use Rattle.cas_record.specs.declared.answer.Cause.{Cause}
use Rattle.cas_record.specs.declared.mark.Mark.{Mark}
use Rattle.cas_protocol.specs.Protocol.{is_done}
use Rattle.cas_flow.specs.Flow.{abandoned}
use Rattle.cas_model.specs.Calls.Step.{with_call}
use Rattle.cas_model.specs.Stops.Step.{OpenCallAt, LeavesRound, idle, closes, closed_by}
use Rattle.cas_model.specs.View.{View, CallView, CallerView, IsAt, with_desk}
use Rattle.cas_model.proofs.Places.{at_one, at_set, same_or_not, some_is}
use Rattle.cas_world.specs.Readers.{told_if}
use Rattle.cas_board_steps.specs.Calls.Conflicts.{is_conflict, told_conflict}
use Rattle.cas_board_steps.specs.Kept.{IsStaged, running, is_met, is_closed, IsKept}
use Rattle.cas_board_steps.specs.Mine.{Wanted, wants, wanted_by, wanted_after}
use Rattle.cas_board_steps.specs.Owners.{owner_of}
use Rattle.cas_turn.specs.Seen.{OnlyOwnedBy}
use Rattle.std.proofs.lemmas.List.Elements.{All-nil}
use Rattle.cas_board_steps.specs.OwnParts.{phase_of, call_part, open_part, caller_part}
use Rattle.cas_board_steps.proofs.Calls.Acts.{Acts, spares_same, spares_set, kept_by, staged_same}
use Rattle.cas_board_steps.proofs.Calls.Events.{desks_set}
use Rattle.cas_board_steps.proofs.Fronts.{wanted_append}

-- ---- what is kept
-- where more is marked, by which nobody asks for anything
pub kept_marked : {S V : Type 0} (old new : View S V) (marks : List Mark) → new.last_proposer ≡ old.last_proposer → new.desks ≡ old.desks → new.callers ≡ old.callers → new.marks ≡ old.marks ++ marks → ((n : ℕ) (before : Option Wanted) → wanted_after n before marks ≡ before) → IsKept old → IsKept new
kept_marked {S} {V} old new marks last_proposer desks callers made asks kept = record {
  places = record { desks = ap (λ (l : List (DeskView V)). length l) desks ∙ kept.places.desks ∙ ap suc (sym last_proposer); callers = ap (λ (l : List CallerView). length l) callers ∙ kept.places.callers ∙ ap suc (sym last_proposer) };
  staged = λ id desk caller call at_desk at_caller is_call. kept.staged id desk caller call (subst (λ (l : List (DeskView V)). IsAt l id desk) desks at_desk) (subst (λ (l : List CallerView). IsAt l id caller) callers at_caller) is_call;
  wanted = λ id caller call at_caller is_call. ap (wanted_by id) made ∙ wanted_append id None old.marks marks ∙ asks id (wanted_by id old.marks) ∙ kept.wanted id caller call (subst (λ (l : List CallerView). IsAt l id caller) callers at_caller) is_call;
}

-- ---- a round that is closed
-- Each caller keeps its own part.
pub record ClosesRound {S V : Type 0} (old new : View S V) : Type 0 where
  pub last_proposer : new.last_proposer ≡ old.last_proposer
  pub marks : new.marks ≡ old.marks
  pub council : new.council ≡ old.council
  pub parts : (p : ℕ) → caller_part (slice_get new.callers p) ≡ caller_part (slice_get old.callers p)
  pub kept : IsKept new
  pub none : (caller : CallerView) → IsAt new.callers 0 caller → caller.call ≡ None

-- what it was told is no conflict
told_closed : Answer → Cause → CallView → Answer
told_closed told why call = if is_some call.proposed then answer.Unsettled why else told

unmet_closed : (told : Answer) (why : Cause) (call : CallView) → is_conflict told ≡ false → is_conflict (told_closed told why call) ≡ false
unfolding told_closed
unmet_closed told why call unmet = by_test (is_some call.proposed)
  where
    by_test : (b : Bool) → is_conflict (if b then answer.Unsettled why else told) ≡ false
    by_test true = refl
    by_test false = unmet

-- and it can be told so
some_closed : (told : Answer) (why : Cause) (call : CallView) → is_done told ≡ false → IsSome (told_if true (Some (told_closed told why call)))
unfolding told_closed
some_closed told why call undone = by_test (is_some call.proposed)
  where
    by_done : (one : Answer) (b : Bool) → b ≡ false → IsSome (if true && not b then Some one else None)
    by_done one false is = refl
    by_done one true is = absurd (cc is)

    by_test : (b : Bool) → IsSome (told_if true (Some (if b then answer.Unsettled why else told)))
    by_test true = refl
    by_test false = by_done told (is_done told) undone

module _ {S V : Type 0} {DeskTurns : DeskView V → DeskView V → Type 0} (told : Answer) (why : Cause) (old new : View S V) (id : ℕ) (turns : (desk now : DeskView V) → DeskTurns desk now → now.round ≡ None) (unmet : is_conflict told ≡ false) (undone : is_done told ≡ false) (kept : IsKept old) (none : (caller : CallerView) → IsAt old.callers 0 caller → caller.call ≡ None) where
  only_none : (n : ℕ) → OnlyOwnedBy owner_of n []
  only_none n = All-nil (λ i. (m : ℕ) → owner_of i ≡ Some m → m ≡ n)

  -- none was open
  none_closed : (desk now : DeskView V) → IsAt old.desks id desk → desk.round ≡ None → now.round ≡ None → new ≡ record (with_desk old id now) { flow = abandoned old.flow id } → ClosesRound old new
  none_closed desk now at was_none is_none is =
      let callers : new.callers ≡ old.callers = ap (λ (w : View S V). w.callers) is in
      let acts : Acts id old new [] = record { last_proposer = ap (λ (w : View S V). w.last_proposer) is; desks = desks_set id old new now (ap (λ (w : View S V). w.desks) is); callers = spares_same id old.callers new.callers callers; council = ap (λ (w : View S V). w.council) is; made = ap (λ (w : View S V). w.marks) is ∙ sym (append-nil old.marks) } in
      let at_now : IsAt new.desks id now = subst (λ (w : View S V). IsAt w.desks id now) (sym is) (at_set old.desks id desk now at) in
      record {
        last_proposer = acts.last_proposer;
        marks = ap (λ (w : View S V). w.marks) is;
        council = acts.council;
        parts = λ p. ap (λ (l : List CallerView). caller_part (slice_get l p)) callers;
        kept = kept_by id old new [] acts (only_none id) kept (record {
          staged = λ one caller call at_desk at_caller is_call.
              staged_same one desk call (ap (λ (d : DeskView V). is_some d.round) (sym (at_one new.desks id at_now at_desk)) ∙ ap (λ (o : Option Round). is_some o) (is_none ∙ sym was_none))
              (kept.staged id desk caller call at (subst (λ (l : List CallerView). IsAt l id caller) callers at_caller) is_call);
          wanted = λ caller call at_caller is_call. ap (wanted_by id) (ap (λ (w : View S V). w.marks) is) ∙ kept.wanted id caller call (subst (λ (l : List CallerView). IsAt l id caller) callers at_caller) is_call;
        });
        none = λ caller at_caller. none caller (subst (λ (l : List CallerView). IsAt l 0 caller) callers at_caller);
      }

  -- in an open round no conflict was told
  running_unmet : (desk : DeskView V) (call : CallView) → IsStaged desk call → IsSome desk.round → told_conflict call.told ≡ false
  running_unmet desk call (running some no_conflict unclosed) is = no_conflict
  running_unmet desk call (is_met no_round met unproposed unclosed) is = absurd (cc (subst IsSome no_round is))
  running_unmet desk call (is_closed no_round closed no_conflict) is = no_conflict

  same_phase : (call : CallView) → told_conflict call.told ≡ false → phase_of (closed_by told why call) ≡ phase_of call
  unfolding told_closed
  same_phase call was = ap (λ (b : Bool). if b then 2 else if is_some call.proposed then 1 else 0) (unmet_closed told why call unmet ∙ sym was)

  -- one was
  one_closed : (desk now : DeskView V) (round : Round) (of_call : OpenCallAt old id) → IsAt old.desks id desk → desk.round ≡ Some round → now.round ≡ None
      → new ≡ record (with_call (with_desk old id now) id of_call.caller (closed_by told why of_call.call)) { flow = abandoned old.flow id } → ClosesRound old new
  unfolding told_closed
  one_closed desk now round of_call at is_round is_none is =
      let next : CallView = closed_by told why of_call.call in
      let next_caller : CallerView = record of_call.caller { call = Some next } in
      let callers : new.callers ≡ slice_set old.callers id next_caller = ap (λ (w : View S V). w.callers) is in
      let acts : Acts id old new [] = record { last_proposer = ap (λ (w : View S V). w.last_proposer) is; desks = desks_set id old new now (ap (λ (w : View S V). w.desks) is); callers = spares_set id old.callers new.callers next_caller callers; council = ap (λ (w : View S V). w.council) is; made = ap (λ (w : View S V). w.marks) is ∙ sym (append-nil old.marks) } in
      let at_now : IsAt new.desks id now = subst (λ (w : View S V). IsAt w.desks id now) (sym is) (at_set old.desks id desk now at) in
      let at_next : IsAt new.callers id next_caller = subst (λ (l : List CallerView). IsAt l id next_caller) (sym callers) (at_set old.callers id of_call.caller next_caller of_call.at_caller) in
      let was_unmet : told_conflict of_call.call.told ≡ false = running_unmet desk of_call.call (kept.staged id desk of_call.caller of_call.call at of_call.at_caller of_call.is_open) (subst IsSome (sym is_round) refl) in
      record {
        last_proposer = acts.last_proposer;
        marks = ap (λ (w : View S V). w.marks) is;
        council = acts.council;
        parts = λ p. elim (same_or_not p id) [
          | inl same ↦ ap (λ (q : ℕ). caller_part (slice_get new.callers q)) same ∙ ap caller_part at_next ∙ ap (call_part of_call.caller.number of_call.call.rounds) (same_phase of_call.call was_unmet)
              ∙ ap (open_part of_call.caller.number) (sym of_call.is_open) ∙ ap caller_part (sym of_call.at_caller) ∙ ap (λ (q : ℕ). caller_part (slice_get old.callers q)) (sym same)
          | inr other ↦ ap caller_part (acts.callers.others p other)
        ];
        kept = kept_by id old new [] acts (only_none id) kept (record {
          staged = λ one caller call at_desk at_caller is_call.
              let same_call : next ≡ call = some_is (ap (λ (c : CallerView). c.call) (at_one new.callers id at_next at_caller) ∙ is_call) in
              subst (λ (c : CallView). IsStaged one c) same_call
              (is_closed (ap (λ (d : DeskView V). d.round) (sym (at_one new.desks id at_now at_desk)) ∙ is_none) (some_closed told why of_call.call undone) (unmet_closed told why of_call.call unmet));
          wanted = λ caller call at_caller is_call.
              let same : next_caller ≡ caller = at_one new.callers id at_next at_caller in
              let same_call : next ≡ call = some_is (ap (λ (c : CallerView). c.call) same ∙ is_call) in
              ap (wanted_by id) (ap (λ (w : View S V). w.marks) is) ∙ kept.wanted id of_call.caller of_call.call of_call.at_caller of_call.is_open
              ∙ ap₂ (λ (c : CallerView) (o : CallView). Some (wants c.number o.key o.program)) same same_call;
        });
        none = λ caller at_caller. elim (same_or_not 0 id) [
          | inl same ↦ absurd (cc (sym (none of_call.caller (subst (λ (q : ℕ). IsAt old.callers q of_call.caller) (sym same) of_call.at_caller)) ∙ of_call.is_open))
          | inr other ↦ none caller (sym (acts.callers.others 0 other) ∙ at_caller)
        ];
      }

  pub closes_round : LeavesRound DeskTurns (closed_by told why) old id new → ClosesRound old new
  closes_round (idle desk now at was_none turned is) = none_closed desk now at was_none (turns desk now turned) is
  closes_round (closes desk now round of_call at is_round turned is) = one_closed desk now round of_call at is_round (turns desk now turned) is
