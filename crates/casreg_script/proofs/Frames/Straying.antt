-- What a late frame leaves as it is that strays in.
use Rattle.std.proofs.Common.{◌≡◌, ℕ, Bool, nat_eq, List, Some, slice_set, inl, inr, refl, sym, ap, subst, ◌∙◌, eqb-true}
use Rattle.std.proofs.lemmas.Bool.{eqb-false}
use Rattle.cas_base.proofs.Bools.{true_or_false}
use Rattle.cas_flow.specs.declared.message.Message.{Message}
use Rattle.cas_lines.specs.declared.answer.EventAnswer.{EventAnswer}
use Rattle.cas_proposer.specs.Desk.{DeskView}
use Rattle.cas_proposer.specs.Round.{is_preparing}
use Rattle.cas_proposer.specs.declared.round.Round.{Round}
use Rattle.cas_model.specs.Frames.Step as frames
use Rattle.cas_model.specs.View.{Meaning, View, CallerView, IsAt}
use Rattle.cas_model.proofs.Places.{at_one, at_set, some_is}
use Rattle.casreg_script.specs.Frames.Conditions.{NetworkView}
use Rattle.casreg_script.specs.Events as events
use Rattle.casreg_script.specs.Events.{AnswersStray}
use Rattle.casreg_script.specs.Calls.Playing.{AskedCall, IsPlaying}
use Rattle.casreg_script.specs.Frames.Strays as strays
use Rattle.casreg_script.specs.Frames.Strays.{LetsStrayIn, KeepsUnderWay}
use Rattle.casreg_script.proofs.Others.{get_other}

pub same_under_way : {S V : Type 0} (old : View S V) → KeepsUnderWay old old
same_under_way old = record { own = refl; last_proposer = refl; callers = refl; council = refl; plays = λ id asked proposed was. was }

-- callers play on where the round of each desk stays in its phase
record KeepsPhases {S V : Type 0} (old new : View S V) : Type 0 where
  desks : (id : ℕ) (desk : DeskView V) (round : Round) → IsAt old.desks id desk → desk.round ≡ Some round → (now : DeskView V) × (heard : Round) × IsAt new.desks id now × (now.round ≡ Some heard) × (is_preparing heard.phase ≡ is_preparing round.phase)

plays_on : {S V : Type 0} (old new : View S V) → new.callers ≡ old.callers → new.council ≡ old.council → KeepsPhases old new → (id : ℕ) (asked : AskedCall) (proposed : Bool) → IsPlaying old id asked proposed → IsPlaying new id asked proposed
plays_on {S} {V} old new callers council keeps id asked proposed was =
    let now = keeps.desks id was.desk was.round was.at_desk was.is_round in
    record {
      call = was.call;
      is_for = record {
        caller = was.is_for.caller;
        at_caller = subst (λ (l : List CallerView). IsAt l id was.is_for.caller) (sym callers) was.is_for.at_caller;
        number = was.is_for.number;
        is_call = was.is_for.is_call;
        key = was.is_for.key;
        program = was.is_for.program;
      };
      proposed_is = was.proposed_is;
      desk = now.0;
      at_desk = now.2;
      round = now.1;
      is_round = now.3;
      phase = now.4 ∙ was.phase;
      quiet = ap (λ c. c.exchange) council ∙ was.quiet;
    }

by_view : {S V : Type 0} (old changed new : View S V) → new ≡ changed → KeepsUnderWay old changed → KeepsUnderWay old new
by_view {S} {V} old changed new is keeps = subst (KeepsUnderWay old) (sym is) keeps

-- no desk changes
same_desks : {S V : Type 0} (old new : View S V) → new.flow.own ≡ old.flow.own → new.last_proposer ≡ old.last_proposer → new.callers ≡ old.callers → new.council ≡ old.council → new.desks ≡ old.desks → KeepsUnderWay old new
same_desks {S} {V} old new own last_proposer callers council desks = record {
  own = own;
  last_proposer = last_proposer;
  callers = callers;
  council = council;
  plays = plays_on old new callers council (record { desks = λ id desk round at is. (desk, round, subst (λ (l : List (DeskView V)). IsAt l id desk) (sym desks) at, is, refl) });
}

-- one desk hears a reply
hears_on : {S V : Type 0} (old : View S V) (place : ℕ) (desk now : DeskView V) (round heard : Round) → IsAt old.desks place desk → desk.round ≡ Some round → now.round ≡ Some heard → is_preparing heard.phase ≡ is_preparing round.phase → (new : View S V) → new.callers ≡ old.callers → new.desks ≡ slice_set old.desks place now → KeepsPhases old new
hears_on {S} {V} old place desk now round heard at is_round now_is phase new callers desks = record {
  desks = λ id d r at_id is. elim (true_or_false (nat_eq id place)) [
    | inl same ↦
        let one : d ≡ desk = at_one old.desks place (subst (λ (p : ℕ). IsAt old.desks p d) (eqb-true id place same) at_id) at in
        let same_round : round ≡ r = some_is (sym is_round ∙ ap (λ (x : DeskView V). x.round) (sym one) ∙ is) in (
          now,
          heard,
          subst (λ (l : List (DeskView V)). IsAt l id now) (sym desks) (subst (λ (p : ℕ). IsAt (slice_set old.desks place now) p now) (sym (eqb-true id place same)) (at_set old.desks place desk now at)),
          now_is,
          phase ∙ ap (λ (x : Round). is_preparing x.phase) same_round,
        )
    | inr other ↦ (d, r, subst (λ (l : List (DeskView V)). IsAt l id d) (sym desks) (get_other old.desks place now id (eqb-false id place other) ∙ at_id), is, refl)
  ];
}

stray_keeps : {S V : Type 0} (m : Meaning S V) (old new : View S V) (index : ℕ) (late : Message) → frames.Strays m old index late new → KeepsUnderWay old new
stray_keeps m old new index late (frames.answers request acceptor now reply late_is at table is) = by_view old _ new is (same_desks old _ refl refl refl refl refl)
stray_keeps m old new index late (frames.brings_down request acceptor now late_is at stops is) = by_view old _ new is (same_desks old _ refl refl refl refl refl)
stray_keeps m old new index late (frames.drops ignored is) = by_view old _ new is (same_desks old _ refl refl refl refl refl)
stray_keeps {S} {V} m old new index late (frames.arrives reply desk now round heard late_is at is_round hears is) =
    by_view old _ new is (record {
      own = refl;
      last_proposer = refl;
      callers = refl;
      council = refl;
      plays = plays_on old _ refl refl (hears_on old _ desk now round heard at is_round (ap (λ (d : DeskView V). d.round) hears.desk) hears.hears.same_phase _ refl refl);
    })

pub strays_under_way : {S V : Type 0} (m : Meaning S V) (old new : View S V) (index : ℕ) (answer : EventAnswer) → AnswersStray m old index answer new → KeepsUnderWay old new
strays_under_way m old new index answer (events.absent none) = same_under_way old
strays_under_way m old new index answer (events.strays by) = stray_keeps m old new index by.late by.strays
strays_under_way m old new index answer (events.full low is) = same_under_way old
strays_under_way m old new index answer (events.no_memory low (frames.stays is)) = by_view old old new is (same_under_way old)
strays_under_way m old new index answer (events.no_memory low (frames.kept id acceptor now there finds is)) = by_view old _ new is (same_desks old _ refl refl refl refl refl)

pub lets_under_way : {S V : Type 0} (m : Meaning S V) (by next : NetworkView) (old new : View S V) → LetsStrayIn m by old next new → KeepsUnderWay old new
lets_under_way m by next old new (strays.none names) = same_under_way old
lets_under_way m by next old new (strays.one place answer names strays_in) = strays_under_way m old new place answer strays_in
