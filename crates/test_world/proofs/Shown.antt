-- What the readers of a world show of its open rounds and calls.
use Rattle.std.proofs.Common.{◌≡◌, ◌<◌, ◌≤◌, ℕ, zero, suc, Bool, true, false, not, List, [], ◌∷◌, Option, None, Some, slice_get, refl, sym, subst, ◌∙◌, arith}
use Rattle.std.specs.Prelude.{◌&&◌, IfSome, replicate, if◌then◌else◌}
use Rattle.std.specs.Cmp.Lexicographic.{pointwise}
use Rattle.cas_base.proofs.Bools.{and_left, and_right}
use Rattle.cas_flow.specs.Flow.{queue_at}
use Rattle.cas_proposer.specs.Desk.{DeskView}
use Rattle.cas_proposer.specs.Round.{is_preparing}
use Rattle.cas_proposer.specs.declared.round.Round.{Round}
use Rattle.cas_record.specs.declared.answer.Answer.{Answer}
use Rattle.cas_round.specs.declared.verdict.RoundVerdict.{RoundVerdict}
use Rattle.cas_protocol.specs.Protocol.{is_done}
use Rattle.cas_model.specs.Safe.{IsSafe}
use Rattle.cas_model.specs.SafeLaws.{HasPlaces}
use Rattle.cas_model.specs.Step.{IsOpening}
use Rattle.cas_model.specs.View.{Meaning, View, CallView, CallerView, IsAt}
use Rattle.cas_model.proofs.Openings.Safe.{opens_are_safe}
use Rattle.cas_model.proofs.Safety.Parts.{at_low}
use Rattle.cas_world.specs.Readers.{told_if, closed_in, IsVerdictIn}
use Rattle.cas_world.specs.World.{IsInPhase, WasTold}
use Rattle.casreg_script.proofs.Opened.{new_idle, new_quiet}
use Rattle.test_world.specs.Play.{IsPlay}

-- ---- a new world
pub new_play : {S V : Type 0} (m : Meaning S V) (members : List ℕ) (world : View S V) (proposers : ℕ) (calls : List Bool) → IsOpening m members world → HasPlaces world → world.last_proposer ≡ proposers → IsPlay world proposers calls None
new_play m members world proposers calls opening places known =
    let quiet = new_quiet m members world opening in
    record {
      known = known;
      few = subst (λ (n : ℕ). n ≤ 16) known opening.few;
      safe = opens_are_safe m members world opening places;
      idle = λ id low closed. new_idle m members world opening places id (subst (λ (n : ℕ). id ≤ n) (sym known) low);
      quiet = quiet.exchange;
      order = quiet.order;
      still = tt;
    }

-- ---- an open round
pub phase_shown : {S V : Type 0} (view : View S V) (id : ℕ) (verdict : Option RoundVerdict) (one : RoundVerdict) (proposed : Bool) → IsSafe view → id ≤ view.last_proposer → ((desk : DeskView V) → IsAt view.desks id desk → IsVerdictIn desk.round verdict)
    → verdict ≡ Some one → ((desk : DeskView V) → slice_get view.desks id ≡ Some desk → IfSome desk.round (λ round. is_preparing round.phase ≡ not proposed)) → (queue_at view.flow id).messages ≡ [] → IsInPhase view id (not proposed)
phase_shown {S} {V} view id verdict one proposed safe low shows is phase none =
    let there = at_low view.desks id (omega (arith, safe.sound.desks, low)) in
    by_round there.0 there.1 there.0.round refl
  where
    by_round : (desk : DeskView V) → IsAt view.desks id desk → (round : Option Round) → desk.round ≡ round → IsInPhase view id (not proposed)
    by_round desk at None idle = absurd (cc (sym is ∙ subst (λ (r : Option Round). IsVerdictIn r verdict) idle (shows desk at)))
    by_round desk at (Some round) is_round = record {
      desk = desk;
      at_desk = at;
      round = round;
      is_round = is_round;
      phase = subst (λ (r : Option Round). IfSome r (λ round. is_preparing round.phase ≡ not proposed)) is_round (phase desk at);
      none_waits = none;
    }

-- ---- an open call
pub caller_there : {S V : Type 0} (view : View S V) (id : ℕ) → IsSafe view → id ≤ view.last_proposer → (caller : CallerView) × IsAt view.callers id caller
caller_there view id safe low = at_low view.callers id (omega (arith, safe.sound.callers, low))

-- what its last step told, by the number of the call
pub told_last : {S V : Type 0} (old new : View S V) (id last : ℕ) (told : Answer) → IsSafe old → id ≤ old.last_proposer → ((caller : CallerView) → slice_get old.callers id ≡ Some caller → caller.number ≡ last)
    → ((caller : CallerView) → slice_get old.callers id ≡ Some caller → WasTold new id caller.number told) → WasTold new id last told
told_last old new id last told safe low numbered tells =
    let there = caller_there old id safe low in
    subst (λ (n : ℕ). WasTold new id n told) (numbered there.0 there.1) (tells there.0 there.1)

record ToldOf (call : Option CallView) (told : Answer) : Type 0 where
  open_call : CallView
  is_open : call ≡ Some open_call
  was_told : open_call.told ≡ Some told

told_of : (call : Option CallView) (told : Answer) → closed_in call ≡ Some told → ToldOf call told
told_of None told is = absurd (cc is)
told_of (Some call) told is = record { open_call = call; is_open = refl; was_told = by_told call.told is }
  where
    by_closed : (closed done : Bool) (said : Answer) → (if closed && not done then Some said else None) ≡ Some told → Some said ≡ Some told
    by_closed true true said is = absurd (cc is)
    by_closed true false said is = is
    by_closed false done said is = absurd (cc is)

    by_told : (said : Option Answer) → told_if call.is_closed said ≡ Some told → said ≡ Some told
    by_told None is = absurd (cc is)
    by_told (Some said) is = by_closed call.is_closed (is_done said) said is

-- how it was closed by another
pub closed_told : {S V : Type 0} (view : View S V) (id last : ℕ) (closed : Option Answer) (told : Answer) → IsSafe view → id ≤ view.last_proposer → ((caller : CallerView) → slice_get view.callers id ≡ Some caller → caller.number ≡ last)
    → ((caller : CallerView) → IsAt view.callers id caller → closed ≡ closed_in caller.call) → closed ≡ Some told → WasTold view id last told
closed_told view id last closed told safe low numbered shows is =
    let there = caller_there view id safe low in
    let of = told_of there.0.call told (sym (shows there.0 there.1) ∙ is) in
    record { caller = there.0; at_caller = there.1; same_number = numbered there.0 there.1; call = of.open_call; is_open = of.is_open; told = of.was_told }

-- ---- none is open
pub none_in : (equal : Bool → Bool → Bool) (calls : List Bool) (count : ℕ) (result : Bool) → equal true false ≡ false → result ≡ not (pointwise equal calls (replicate count false)) → result ≡ false
    → (id : ℕ) → id < count → slice_get calls id ≡ Some false
none_in equal calls count result other says is id low = in_all calls count (by_not _ (sym says ∙ is)) id low
  where
    by_not : (b : Bool) → not b ≡ false → b ≡ true
    by_not true is = refl
    by_not false is = absurd (cc is)

    in_all : (calls : List Bool) (count : ℕ) → pointwise equal calls (replicate count false) ≡ true → (id : ℕ) → id < count → slice_get calls id ≡ Some false
    in_all calls zero same id low = absurd (omega (arith, low))
    in_all [] (suc count) same id low = absurd (cc same)
    in_all (true ∷ calls) (suc count) same id low = absurd (cc (other, and_left (equal true false) (pointwise equal calls (replicate count false)) same))
    in_all (false ∷ calls) (suc count) same zero low = refl
    in_all (false ∷ calls) (suc count) same (suc id) low = in_all calls count (and_right (equal false false) (pointwise equal calls (replicate count false)) same) id (omega (arith, low))
