-- Along a line who goes down counts a fault.
use Rattle.std.proofs.Common.{◌≡◌, ◌≤◌, ◌-◌, ℕ, true, false, List, Option, None, Some, slice_set, refl, sym, ap, subst, ◌∙◌, inl, inr, arith}
use Rattle.std.specs.Prelude.{◌⊎◌}
use Rattle.cas_base.specs.Faults.{Rose}
use Rattle.cas_base.proofs.Bools.{not_both}
use Rattle.cas_ballot.specs.declared.ballot.Ballot.{Ballot}
use Rattle.cas_change.specs.declared.program.Clause.{Clause}
use Rattle.cas_fate.specs.declared.fate.Verdict.{Verdict}
use Rattle.cas_flow.specs.declared.message.Message.{Message}
use Rattle.cas_acceptor.specs.Acceptor.{AcceptorView}
use Rattle.cas_proposer.specs.Desk.{DeskView}
use Rattle.cas_proposer.specs.declared.round.Round.{Round}
use Rattle.cas_record.specs.declared.answer.Answer.{Answer}
use Rattle.cas_vault.specs.declared.vault.Vault.{Vault}
use Rattle.cas_vault.specs.Vault.{disk_of}
use Rattle.cas_model.specs.Step.{StepBegin, StepTurn, StepRefuseTurn, StepPropose, StepCount, StepEnd}
use Rattle.cas_model.specs.Stops.Step.{OpenCallAt}
use Rattle.cas_model.specs.Calls.Step as calls
use Rattle.cas_model.specs.Calls.Desks.{MayHaveDrawn, FailsToDraw, LosesMemory}
use Rattle.cas_model.specs.Frames.Step as frames
use Rattle.cas_model.specs.View.{Meaning, ShelfMeaning, DiskMeaning, View, IsAt}
use Rattle.cas_model.proofs.Places.{at_one, but_set}
use Rattle.casreg_progress.proofs.ByRules as script
use Rattle.casreg_progress.proofs.ByRules.{change_by, TurnedByRules, FailsToTurnByRules, EndsPrepare, IsAccepted, IsRound, AreRounds, IsChangeByRules}
use Rattle.casreg_script.specs.Frames.Conditions.{Rule, verdict_on}
use Rattle.casreg_script.specs.Script.{nowhere}
use Rattle.casreg_script.specs.declared.halt.Halt.{Halt}
use Rattle.casreg_progress.specs.Faults.{FaultlessLinesStayUp}

-- ---- counts
rose_from : (a b c : ℕ) → a ≤ b → Rose b c → Rose a c
rose_from a b c low (inl more) = inl (omega (arith, low, more))
rose_from a b c low (inr most) = inr most

-- ---- one acceptor
-- where it was down it is as it was; where it was up it is still, or its shelf counted a fault
record Fares {S : Type 0} (m : ShelfMeaning S) (was now : AcceptorView S) : Type 0 where
  pub out : was.down ≡ true → now ≡ was
  pub up : was.down ≡ false → ((now.down ≡ false) × (m.faults was.shelf ≤ m.faults now.shelf)) ⊎ ((now.down ≡ true) × Rose (m.faults was.shelf) (m.faults now.shelf))

fares_same : {S : Type 0} (m : ShelfMeaning S) (was : AcceptorView S) → Fares m was was
fares_same m was = record { out = λ down. refl; up = λ up. inl (up, omega arith) }

fares_both : {S : Type 0} (m : ShelfMeaning S) (a b c : AcceptorView S) → Fares m a b → Fares m b c → Fares m a c
fares_both {S} m a b c before after = record {
  out = λ down. after.out (ap (λ (x : AcceptorView S). x.down) (before.out down) ∙ down) ∙ before.out down;
  up = λ up. elim (before.up up) [
    | inl stays ↦ elim (after.up stays.0) [
      | inl goes ↦ inl (goes.0, omega (arith, stays.1, goes.1))
      | inr falls ↦ inr (falls.0, rose_from (m.faults a.shelf) (m.faults b.shelf) (m.faults c.shelf) stays.1 falls.1)
    ]
    | inr falls ↦ inr (subst (λ (x : AcceptorView S). (x.down ≡ true) × Rose (m.faults a.shelf) (m.faults x.shelf)) (sym (after.out falls.0)) falls)
  ];
}

-- ---- one desk
-- where it was down with no round it is as it was; where it was up it is still, or its vault's disk counted a fault
record KeepsDesk {V : Type 0} (m : DiskMeaning V) (was now : DeskView V) : Type 0 where
  pub out : was.down ≡ true → was.round ≡ None → now ≡ was
  pub up : was.down ≡ false → ((now.down ≡ false) × (m.faults (disk_of was.vault) ≤ m.faults (disk_of now.vault))) ⊎ ((now.down ≡ true) × (now.round ≡ None) × Rose (m.faults (disk_of was.vault)) (m.faults (disk_of now.vault)))

keeps_same : {V : Type 0} (m : DiskMeaning V) (was : DeskView V) → KeepsDesk m was was
keeps_same m was = record { out = λ down none. refl; up = λ up. inl (up, omega arith) }

keeps_both : {V : Type 0} (m : DiskMeaning V) (a b c : DeskView V) → KeepsDesk m a b → KeepsDesk m b c → KeepsDesk m a c
keeps_both {V} m a b c before after = record {
  out = λ down none.
      let same : b ≡ a = before.out down none in
      after.out (ap (λ (x : DeskView V). x.down) same ∙ down) (ap (λ (x : DeskView V). x.round) same ∙ none) ∙ same;
  up = λ up. elim (before.up up) [
    | inl stays ↦ elim (after.up stays.0) [
      | inl goes ↦ inl (goes.0, omega (arith, stays.1, goes.1))
      | inr falls ↦ inr (falls.0, falls.1, rose_from (m.faults (disk_of a.vault)) (m.faults (disk_of b.vault)) (m.faults (disk_of c.vault)) stays.1 falls.2)
    ]
    | inr falls ↦ inr (subst (λ (x : DeskView V). (x.down ≡ true) × (x.round ≡ None) × Rose (m.faults (disk_of a.vault)) (m.faults (disk_of x.vault))) (sym (after.out falls.0 falls.1)) falls)
  ];
}

-- it is up, and goes on
keeps_up : {V : Type 0} (m : DiskMeaning V) (was now : DeskView V) → was.down ≡ false → now.down ≡ was.down → m.faults (disk_of was.vault) ≤ m.faults (disk_of now.vault) → KeepsDesk m was now
keeps_up m was now up same low = record { out = λ down none. absurd (not_both was.down down up); up = λ still. inl (same ∙ up, low) }

-- its round goes on or ends
keeps_round : {V : Type 0} (m : DiskMeaning V) (was now : DeskView V) (round : Round) → was.round ≡ Some round → now.down ≡ was.down → m.faults (disk_of was.vault) ≤ m.faults (disk_of now.vault) → KeepsDesk m was now
keeps_round m was now round is_open same low = record { out = λ down none. absurd (cc (none, is_open)); up = λ up. inl (same ∙ up, low) }

drawn_low : {V : Type 0} (m : DiskMeaning V) (id : ℕ) (old new : Vault V) (ballot : Option Ballot) → MayHaveDrawn m id old new ballot → m.faults (disk_of old) ≤ m.faults (disk_of new)
drawn_low m id old new None kept = kept.goes_on.never_falls
drawn_low m id old new (Some ballot) drawn = drawn.goes_on.never_falls

keeps_failed : {V : Type 0} (m : DiskMeaning V) {promises : _} (was now : DeskView V) → was.down ≡ false → FailsToDraw m promises was now → KeepsDesk m was now
keeps_failed {V} m was now up fails = record {
  out = λ down none. absurd (not_both was.down down up);
  up = λ still. inr (ap (λ (d : DeskView V). d.down) fails.desk, ap (λ (d : DeskView V). d.round) fails.desk, fails.faulted);
}

keeps_lost : {V : Type 0} (m : DiskMeaning V) (was now : DeskView V) (key : List ℕ) (ballot : Option Ballot) → was.down ≡ false → LosesMemory m key was now ballot → KeepsDesk m was now
keeps_lost {V} m was now key ballot up loses =
    keeps_up m was now up (ap (λ (d : DeskView V). d.down) loses.desk) (omega (arith, drawn_low m was.id was.vault loses.middle ballot loses.drawn, loses.goes_on.never_falls))

-- ---- all of them
record Kept {S V : Type 0} (m : Meaning S V) (old new : View S V) (id : ℕ) : Type 0 where
  pub shelves : (a : ℕ) (now : AcceptorView S) → IsAt new.acceptors a now → (was : AcceptorView S) × IsAt old.acceptors a was × Fares m.shelves was now
  pub vault : (now : DeskView V) → IsAt new.desks id now → (was : DeskView V) × IsAt old.desks id was × KeepsDesk m.disks was now

kept_both : {S V : Type 0} (m : Meaning S V) (old mid new : View S V) (id : ℕ) → Kept m old mid id → Kept m mid new id → Kept m old new id
kept_both m old mid new id before after = record {
  shelves = λ a now at.
      let then_ = after.shelves a now at in
      let first_ = before.shelves a then_.0 then_.1 in
      (first_.0, first_.1, fares_both m.shelves first_.0 then_.0 now first_.2 then_.2);
  vault = λ now at.
      let then_ = after.vault now at in
      let first_ = before.vault then_.0 then_.1 in
      (first_.0, first_.1, keeps_both m.disks first_.0 then_.0 now first_.2 then_.2);
}

same_shelves : {S V : Type 0} (m : Meaning S V) (old new : View S V) → new.acceptors ≡ old.acceptors → (a : ℕ) (now : AcceptorView S) → IsAt new.acceptors a now → (was : AcceptorView S) × IsAt old.acceptors a was × Fares m.shelves was now
same_shelves {S} {V} m old new same a now at = (now, subst (λ (l : List (AcceptorView S)). IsAt l a now) same at, fares_same m.shelves now)

same_vault : {S V : Type 0} (m : Meaning S V) (old new : View S V) (id : ℕ) → new.desks ≡ old.desks → (now : DeskView V) → IsAt new.desks id now → (was : DeskView V) × IsAt old.desks id was × KeepsDesk m.disks was now
same_vault {S} {V} m old new id same now at = (now, subst (λ (l : List (DeskView V)). IsAt l id now) same at, keeps_same m.disks now)

kept_same : {S V : Type 0} (m : Meaning S V) (old new : View S V) (id : ℕ) → new.acceptors ≡ old.acceptors → new.desks ≡ old.desks → Kept m old new id
kept_same m old new id acceptors desks = record { shelves = same_shelves m old new acceptors; vault = same_vault m old new id desks }

kept_shelf : {S V : Type 0} (m : Meaning S V) (old new : View S V) (id place : ℕ) (acceptor next : AcceptorView S) → IsAt old.acceptors place acceptor → Fares m.shelves acceptor next → new.acceptors ≡ slice_set old.acceptors place next → new.desks ≡ old.desks → Kept m old new id
kept_shelf {S} {V} m old new id place acceptor next there fares acceptors desks = record {
  shelves = λ a now at. elim (but_set old.acceptors place next a now (subst (λ (l : List (AcceptorView S)). IsAt l a now) acceptors at)) [
    | inl own ↦ (acceptor, subst (λ (p : ℕ). IsAt old.acceptors p acceptor) (sym own.0) there, subst (Fares m.shelves acceptor) (sym own.1) fares)
    | inr other ↦ (now, other.1, fares_same m.shelves now)
  ];
  vault = same_vault m old new id desks;
}

kept_desk : {S V : Type 0} (m : Meaning S V) (old new : View S V) (id : ℕ) (desk next : DeskView V) → IsAt old.desks id desk → KeepsDesk m.disks desk next → new.acceptors ≡ old.acceptors → new.desks ≡ slice_set old.desks id next → Kept m old new id
kept_desk {S} {V} m old new id desk next there keeps acceptors desks = record {
  shelves = same_shelves m old new acceptors;
  vault = λ now at. elim (but_set old.desks id next id now (subst (λ (l : List (DeskView V)). IsAt l id now) desks at)) [
    | inl own ↦ (desk, there, subst (KeepsDesk m.disks desk) (sym own.1) keeps)
    | inr other ↦ absurd (other.0 refl)
  ];
}

-- ---- steps
turn_kept : {S V : Type 0} (m : Meaning S V) (old new : View S V) (id : ℕ) (v : Verdict) → StepTurn m old id v new → Kept m old new id
turn_kept {S} {V} m old new id v by = in_turn by.of_call by.front by.turn
  where
    same : new.acceptors ≡ old.acceptors → new.desks ≡ old.desks → Kept m old new id
    same acceptors desks = kept_same m old new id acceptors desks

    in_turn : (of_call : OpenCallAt old id) (front : Message) → frames.TakesTurn m old id v front of_call.caller of_call.call new → Kept m old new id
    in_turn at front (frames.held fall is) = same (ap (λ (w : View S V). w.acceptors) is) (ap (λ (w : View S V). w.desks) is)
    in_turn at front (frames.gone fall is) = same (ap (λ (w : View S V). w.acceptors) is) (ap (λ (w : View S V). w.desks) is)
    in_turn at front (frames.answers request acceptor now reply fall front_is there table is) = kept_shelf m old new id request.to acceptor now there
        (record { out = λ down. absurd (not_both acceptor.down down table.up); up = λ up. inl (ap (λ (a : AcceptorView S). a.down) table.acceptor ∙ up, table.never_falls) })
        (ap (λ (w : View S V). w.acceptors) is) (ap (λ (w : View S V). w.desks) is)
    in_turn at front (frames.finds_down request acceptor fall front_is there down is) = same (ap (λ (w : View S V). w.acceptors) is) (ap (λ (w : View S V). w.desks) is)
    in_turn at front (frames.brings_down request acceptor now fall front_is there stops is) = kept_shelf m old new id request.to acceptor now there
        (record { out = λ down. absurd (not_both acceptor.down down stops.up); up = λ up. inr (ap (λ (a : AcceptorView S). a.down) stops.acceptor, stops.faulted) })
        (ap (λ (w : View S V). w.acceptors) is) (ap (λ (w : View S V). w.desks) is)
    in_turn at front (frames.arrives reply desk now round heard fall front_is there is_round hears is) = kept_desk m old new id desk now there
        (keeps_round m.disks desk now round is_round (ap (λ (d : DeskView V). d.down) hears.desk) (subst (λ (d : DeskView V). m.disks.faults (disk_of desk.vault) ≤ m.disks.faults (disk_of d.vault)) (sym hears.desk) (omega arith)))
        (ap (λ (w : View S V). w.acceptors) is) (ap (λ (w : View S V). w.desks) is)

refuse_kept : {S V : Type 0} (m : Meaning S V) (old new : View S V) (id : ℕ) → StepRefuseTurn m old id new → Kept m old new id
refuse_kept {S} {V} m old new id by = kept_both m old by.middle new id (finds by.refuses) (kept_same m by.middle new id (ap (λ (w : View S V). w.acceptors) by.view) (ap (λ (w : View S V). w.desks) by.view))
  where
    finds : frames.FindsNoRoom m old by.middle → Kept m old by.middle id
    finds (frames.stays is) = kept_same m old by.middle id (ap (λ (w : View S V). w.acceptors) is) (ap (λ (w : View S V). w.desks) is)
    finds (frames.kept at acceptor now there found is) = kept_shelf m old by.middle id at acceptor now there
        (record { out = λ down. absurd (not_both acceptor.down down found.up); up = λ up. inl (ap (λ (a : AcceptorView S). a.down) found.acceptor ∙ up, found.never_falls) })
        (ap (λ (w : View S V). w.acceptors) is) (ap (λ (w : View S V). w.desks) is)

begin_kept : {S V : Type 0} (m : Meaning S V) (old new : View S V) (id : ℕ) (key : List ℕ) (program : List Clause) → StepBegin m old id key program new → Kept m old new id
begin_kept {S} {V} m old new id key program by = kept_both m old by.middle new id (opens by.opens) (in_round by.begins)
  where
    opens : calls.Opens old id key program by.middle → Kept m old by.middle id
    opens (calls.first was at none_open room is) = kept_same m old by.middle id (ap (λ (w : View S V). w.acceptors) is) (ap (λ (w : View S V). w.desks) is)
    opens (calls.again was open_call reserved at is_open key_is program_is none_proposed met no_round room some is) = kept_same m old by.middle id (ap (λ (w : View S V). w.acceptors) is) (ap (λ (w : View S V). w.desks) is)

    in_round : calls.BeginsRound m by.middle id by.caller by.call new → Kept m by.middle new id
    in_round (calls.prepares desk now ballot round flow at up few begins sends is) = kept_desk m by.middle new id desk now at
        (keeps_up m.disks desk now up (ap (λ (d : DeskView V). d.down) begins.desk) begins.drawn.goes_on.never_falls) (ap (λ (w : View S V). w.acceptors) is) (ap (λ (w : View S V). w.desks) is)
    in_round (calls.proposes desk now ready ride round outcome flow at up few begins made sends is) = kept_desk m by.middle new id desk now at
        (keeps_up m.disks desk now up (ap (λ (d : DeskView V). d.down) begins.desk) (drawn_low m.disks desk.id desk.vault now.vault ride begins.drawn)) (ap (λ (w : View S V). w.acceptors) is) (ap (λ (w : View S V). w.desks) is)
    in_round (calls.stays told no_beginning no_round full is) = kept_same m by.middle new id (ap (λ (w : View S V). w.acceptors) is) (ap (λ (w : View S V). w.desks) is)
    in_round (calls.spent desk now at none_open up no_promise spent kept now_is is) = kept_desk m by.middle new id desk now at
        (keeps_up m.disks desk now up (ap (λ (d : DeskView V). d.down) now_is) kept.goes_on.never_falls) (ap (λ (w : View S V). w.acceptors) is) (ap (λ (w : View S V). w.desks) is)
    in_round (calls.fails desk now at none_open up fails is) = kept_desk m by.middle new id desk now at (keeps_failed m.disks desk now up fails) (ap (λ (w : View S V). w.acceptors) is) (ap (λ (w : View S V). w.desks) is)
    in_round (calls.loses desk now ballot at none_open up loses is) = kept_desk m by.middle new id desk now at (keeps_lost m.disks desk now by.call.key ballot up loses) (ap (λ (w : View S V). w.acceptors) is) (ap (λ (w : View S V). w.desks) is)

no_begin_kept : {S V : Type 0} (m : Meaning S V) (old new : View S V) (id : ℕ) (key : List ℕ) → calls.RefusesCall m old id key new → Kept m old new id
no_begin_kept {S} {V} m old new id key (calls.stays told council refusal rescans is) = kept_same m old new id (ap (λ (w : View S V). w.acceptors) is) (ap (λ (w : View S V). w.desks) is)
no_begin_kept {S} {V} m old new id key (calls.loses caller desk now ballot council at_caller at none_open up loses rescans is) = kept_desk m old new id desk now at (keeps_lost m.disks desk now key ballot up loses) (ap (λ (w : View S V). w.acceptors) is) (ap (λ (w : View S V). w.desks) is)

propose_kept : {S V : Type 0} (m : Meaning S V) (old new : View S V) (id : ℕ) → StepPropose m old id new → Kept m old new id
propose_kept {S} {V} m old new id by = in_phase by.at_round.of_call by.at_round.desk by.at_round.at_desk by.at_round.up by.at_round.round by.proposes
  where
    in_phase : (of_call : OpenCallAt old id) (desk : DeskView V) → IsAt old.desks id desk → desk.down ≡ false → (round : Round) → calls.ProposesOrEnds m old id desk round of_call.caller of_call.call new → Kept m old new id
    in_phase at desk there up round (calls.proposes now turned read by_them ride outcome flow quorum confirmers reads turns made sends is) = kept_desk m old new id desk now there
        (keeps_up m.disks desk now up (ap (λ (d : DeskView V). d.down) turns.desk) (drawn_low m.disks desk.id desk.vault now.vault ride turns.drawn)) (ap (λ (w : View S V). w.acceptors) is) (ap (λ (w : View S V). w.desks) is)
    in_phase at desk there up round (calls.ends now verdict told verdict_is refuses ends is) = kept_desk m old new id desk now there
        (keeps_up m.disks desk now up (ap (λ (d : DeskView V). d.down) ends.desk) ends.goes_on.never_falls) (ap (λ (w : View S V). w.acceptors) is) (ap (λ (w : View S V). w.desks) is)
    in_phase at desk there up round (calls.fails now fails is) = kept_desk m old new id desk now there (keeps_failed m.disks desk now up fails) (ap (λ (w : View S V). w.acceptors) is) (ap (λ (w : View S V). w.desks) is)
    in_phase at desk there up round (calls.loses now ballot loses is) = kept_desk m old new id desk now there (keeps_lost m.disks desk now round.key ballot up loses) (ap (λ (w : View S V). w.acceptors) is) (ap (λ (w : View S V). w.desks) is)

count_kept : {S V : Type 0} (m : Meaning S V) (old new : View S V) (id : ℕ) → StepCount m old id new → Kept m old new id
count_kept {S} {V} m old new id by = in_phase by.at_round.of_call by.at_round.desk by.at_round.at_desk by.at_round.up by.at_round.round by.counts
  where
    in_phase : (of_call : OpenCallAt old id) (desk : DeskView V) → IsAt old.desks id desk → desk.down ≡ false → (round : Round) → calls.CountsOrEnds m old id desk round of_call.caller of_call.call new → Kept m old new id
    in_phase at desk there up round (calls.counts now by_them outcome quorum confirmers proposed ends is) = kept_desk m old new id desk now there
        (keeps_up m.disks desk now up (ap (λ (d : DeskView V). d.down) ends.desk) ends.goes_on.never_falls) (ap (λ (w : View S V). w.acceptors) is) (ap (λ (w : View S V). w.desks) is)
    in_phase at desk there up round (calls.ends now verdict why verdict_is cause ends is) = kept_desk m old new id desk now there
        (keeps_up m.disks desk now up (ap (λ (d : DeskView V). d.down) ends.desk) ends.goes_on.never_falls) (ap (λ (w : View S V). w.acceptors) is) (ap (λ (w : View S V). w.desks) is)

end_kept : {S V : Type 0} (m : Meaning S V) (old new : View S V) (id : ℕ) (told : Answer) → StepEnd m old id told new → Kept m old new id
end_kept {S} {V} m old new id told by = kept_desk m old new id by.ends.desk by.ends.now by.ends.at_desk closed (ap (λ (w : View S V). w.acceptors) by.ends.view) (ap (λ (w : View S V). w.desks) by.ends.view)
  where
    closed : KeepsDesk m.disks by.ends.desk by.ends.now
    closed = elim by.ends.closed [
      | inl was ↦ subst (KeepsDesk m.disks by.ends.desk) (sym was.1) (keeps_same m.disks by.ends.desk)
      | inr was ↦ keeps_round m.disks by.ends.desk by.ends.now was.0 was.1 (ap (λ (d : DeskView V). d.down) was.2.desk) was.2.goes_on.never_falls
    ]

-- ---- the parts of a line whose proposer is to halt nowhere
turned_kept : {S V : Type 0} (m : Meaning S V) (rules : List Rule) (id : ℕ) (old new : View S V) → TurnedByRules m rules id old new → Kept m old new id
turned_kept m rules id old new script.none = kept_same m old old id refl refl
turned_kept m rules id old new (script.one_more {mid = mid} frame turned at by) = kept_both m old mid new id (turned_kept m rules id old mid turned) (turn_kept m mid new id (verdict_on rules frame) by)

fails_kept : {S V : Type 0} (m : Meaning S V) (rules : List Rule) (id : ℕ) (old new : View S V) → FailsToTurnByRules m rules id old new → Kept m old new id
fails_kept m rules id old new by = kept_both m old by.mid new id (turned_kept m rules id old by.mid by.turned) (refuse_kept m by.mid new id by.fails)

ends_kept : {S V : Type 0} (m : Meaning S V) (rules : List Rule) (id : ℕ) (halt : Halt) (old new : View S V) → EndsPrepare m rules id halt old new → Kept m old new id
ends_kept m rules id halt old new by = kept_both m old by.turned new id (turned_kept m rules id old by.turned by.turns.turned) (propose_kept m by.turned new id by.proposes)

-- what a part of it keeps, and that no halt is due after it
abbrev DeskKeptOn : {S V : Type 0} → Meaning S V → View S V → View S V → ℕ → Halt → Type 0
DeskKeptOn m old new id after = Kept m old new id × (after ≡ nowhere)

accepted_kept : {S V : Type 0} (m : Meaning S V) (rules : List Rule) (id : ℕ) (halt after : Halt) (old new : View S V) → halt ≡ nowhere → IsAccepted m rules id halt old after new → DeskKeptOn m old new id after
accepted_kept m rules id halt after old new on (script.cut_short (script.halts accepting due crashes)) = absurd (not_both halt.after_propose due (ap (λ (h : Halt). h.after_propose) on))
accepted_kept m rules id halt after old new on (script.cut_short (script.no_memory due fails)) = (fails_kept m rules id old new fails, on)
accepted_kept m rules id halt after old new on (script.counts {turned = turned} due turns by) = (kept_both m old turned new id (turned_kept m rules id old turned turns.turned) (count_kept m turned new id by), on)

round_kept : {S V : Type 0} (m : Meaning S V) (rules : List Rule) (id : ℕ) (halt after : Halt) (old new : View S V) → halt ≡ nowhere
    → IsRound m rules id halt old after new → DeskKeptOn m old new id after
round_kept m rules id halt after old new on script.none_begun = (kept_same m old old id refl refl, on)
round_kept m rules id halt after old new on (script.by_promise accepted) = accepted_kept m rules id halt after old new on accepted
round_kept m rules id halt after old new on (script.cut_off (script.no_memory fails)) = (fails_kept m rules id old new fails, on)
round_kept m rules id halt after old new on (script.cut_off (script.halts turns strikes crashes)) = absurd (not_both halt.after_prepare strikes.0 (ap (λ (h : Halt). h.after_prepare) on))
round_kept m rules id halt after old new on (script.ends_short ends) = (ends_kept m rules id halt old new ends, on)
round_kept m rules id halt after old new on (script.proposes {proposed = proposed} ends accepted) =
    let last = accepted_kept m rules id halt after proposed new on accepted in
    (kept_both m old proposed new id (ends_kept m rules id halt old proposed ends) last.0, last.1)

rounds_kept : {S V : Type 0} (m : Meaning S V) (rules : List Rule) (id : ℕ) (key : List ℕ) (program : List Clause) (tries : ℕ) (halt after : Halt) (old new : View S V) → halt ≡ nowhere → AreRounds m rules id key program tries halt old after new → Kept m old new id
rounds_kept m rules id key program tries halt after old new on (script.last round no_more) = (round_kept m rules id halt after old new on round).0
rounds_kept m rules id key program tries halt after old new on (script.another {mid = mid} {met = met} {begun = begun} left round is_met begins rest) =
    let first_ = round_kept m rules id halt mid old met on round in
    kept_both m old met new id first_.0 (kept_both m met begun new id (begin_kept m met begun id key program begins) (rounds_kept m rules id key program (tries - 1) mid after begun new first_.1 rest))

change_kept : {S V : Type 0} (m : Meaning S V) (tries : ℕ) (rules : List Rule) (id : ℕ) (key : List ℕ) (program : List Clause) (halt after : Halt) (old new : View S V) (told : Answer) → halt ≡ nowhere → IsChangeByRules m tries rules id key program halt old told after new → Kept m old new id
change_kept m tries rules id key program halt after old new told on (script.refused refused by) = no_begin_kept m old new id key by
change_kept m tries rules id key program halt after old new told on (script.ended {begun = begun} {told = last} begins rounds ends) =
    kept_both m old begun new id (begin_kept m old begun id key program begins) (kept_both m begun last new id (rounds_kept m rules id key program tries halt after begun last on rounds) (end_kept m last new id told ends))

-- ---- the line
pub lines_stay_up : {S V : Type 0} (m : Meaning S V) → FaultlessLinesStayUp m
lines_stay_up {S} {V} m tries era old new asked told goes_on up runs faultless = record {
  members = λ member is acceptor at.
      let was = kept.shelves member acceptor at in
      elim (was.2.up (up.members member is was.0 was.1)) [
        | inl stays ↦ stays.0
        | inr falls ↦ absurd (faultless.shelves member is was.0 acceptor was.1 at falls.1)
      ];
  desk = λ desk at.
      let was = kept.vault desk at in
      elim (was.2.up (up.desk was.0 was.1)) [
        | inl stays ↦ stays.0
        | inr falls ↦ absurd (faultless.vault was.0 desk was.1 at falls.2)
      ];
}
  where
    kept : Kept m old.world new.world asked.caller
    kept = change_kept m tries old.rules asked.caller asked.key asked.program runs.halt runs.after old.world new.world told (at_one old.halts asked.caller runs.at_halt goes_on) (change_by m tries old.rules _ asked.caller asked.key asked.program runs.halt runs.after old.world new.world told runs.change)
