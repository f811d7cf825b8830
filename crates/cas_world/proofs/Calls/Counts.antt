-- What the end of an accept phase does to the whole.
use Rattle.std.proofs.Common.{◌≡◌, ◌<◌, ◌≤◌, ℕ, Bool, true, false, List, [], Option, None, Some, slice_set, slice_index_or, refl, sym, ap, subst, ◌∙◌, arith}
use Rattle.std.specs.Prelude.{◌+◌, is_some, IfSome, map, option_map}
use Rattle.std.proofs.lemmas.List.{length-map}
use Rattle.cas_acceptor.specs.Acceptor.{AcceptorView}
use Rattle.cas_change.specs.declared.outcome.Outcome.{Outcome}
use Rattle.cas_flow.specs.Flow.{FlowView, queue_at}
use Rattle.cas_proposer.specs.Desk.{DeskView}
use Rattle.cas_proposer.specs.Round.{is_preparing, has_quorum, IsVerdictOf}
use Rattle.cas_round.specs.declared.verdict.RoundVerdict.{RoundVerdict}
use Rattle.cas_round.specs.declared.verdict.RoundVerdict.TheVariants as verdicts
use Rattle.cas_proposer.specs.declared.round.Round.{Round}
use Rattle.cas_record.specs.Book.{Book}
use Rattle.cas_record.specs.declared.answer.Answer.{Answer}
use Rattle.cas_record.specs.declared.answer.Answer.TheVariants as answer
use Rattle.cas_record.specs.declared.answer.Cause.{Cause}
use Rattle.cas_record.specs.declared.mark.Mark.{Mark}
use Rattle.cas_model.specs.Council.{reserved_by}
use Rattle.cas_world_calls.specs.Council.{council_view}
use Rattle.cas_world_calls.specs.declared.council.Council.{Council}
use Rattle.cas_world_calls.specs.Call.{over}
use Rattle.cas_model.specs.Calls.Desks.{EndsRound}
use Rattle.cas_model.proofs.Safety.Parts.{reserved_set}
use Rattle.cas_model.specs.Step.{OpenRoundAt, StepCount}
use Rattle.cas_model.specs.Calls.Step as calls
use Rattle.cas_model.specs.Safe.{IsOpenSafe, IsRoundSafe}
use Rattle.cas_model.specs.View.{Meaning, View, CallView, CallerView, IsAt, reserved_in, reserved_of, era_in}
use Rattle.cas_model.proofs.Places.{at_one, some_is}
use Rattle.cas_model.proofs.Stops.Safe.{reserves_one}
use Rattle.cas_world.specs.Calls.Count.{MayCount, Counts}
use Rattle.cas_world_calls.specs.declared.call.Caller.{Caller}
use Rattle.cas_world_calls.specs.declared.call.OpenCall.{OpenCall}
use Rattle.cas_world_calls.specs.declared.proposal.Copies.{Copies}
use Rattle.cas_world.specs.World.{HasCopies, IsInPhase, IsWorld, view_of, call_view, caller_view}
use Rattle.cas_world.proofs.Calls.Callers.{map_set, at_map, seen_open}
use Rattle.cas_world.proofs.Calls.Ends.{some_room}
use Rattle.cas_world.proofs.Parts.{at_place}

-- what was proposed
proposed_some : (outcome : Option Outcome) → is_some outcome ≡ true → (one : Outcome) × (outcome ≡ Some one)
proposed_some None is = absurd (cc is)
proposed_some (Some one) is = (one, refl)

-- a desk and its caller whose accept phase may be counted
pub record IsCounting {V : Type 0} (desks : List (DeskView V)) (callers : List Caller) (id : ℕ) (desk : DeskView V) (caller : Caller) (left : ℕ) : Type 0 where
  pub at_desk : IsAt desks id desk
  pub at_caller : IsAt callers id caller
  pub may : MayCount desk caller left
  pub accepting : is_preparing may.round.phase ≡ false
  pub three : 3 ≤ may.call.reserved
  pub up : desk.down ≡ true → desk.round ≡ None

pub counting : {S V : Type 0} {m : Meaning S V} (last_proposer : ℕ) (council : Council) (acceptors : List (AcceptorView S)) (desks : List (DeskView V)) (callers : List Caller) (flow : FlowView) (book : Book) (now : View S V) (place id : ℕ) (desk : DeskView V) (caller : Caller)
    → place ≡ id → view_of last_proposer council acceptors desks callers flow book ≡ now → id ≤ now.last_proposer → IsWorld m (view_of last_proposer council acceptors desks callers flow book) callers book.room → desk ≡ slice_index_or desks place desk → caller ≡ slice_index_or callers place caller
    → IsInPhase now id false → IsCounting desks callers id desk caller book.room
counting {S} {V} {m} last_proposer council acceptors desks callers flow book now place id desk caller same view low world desk_is caller_is seen =
    let phase = subst (λ (v : View S V). IsInPhase v id false) (sym view) seen in
    let safe = world.safe in
    let known : id ≤ last_proposer = omega (arith, low, ap (λ (v : View S V). v.last_proposer) view) in
    let at_desk = at_place desks place id desk same (omega (arith, safe.sound.desks, known)) desk_is in
    let at_caller = at_place callers place id caller same (omega (arith, safe.sound.callers, known, length-map callers caller_view)) caller_is in
    let at_seen = at_map caller_view callers id caller at_caller in
    let party = safe.sound.parties id desk (caller_view caller) at_desk at_seen in
    let is_round : desk.round ≡ Some phase.round = ap (λ (d : DeskView V). d.round) (at_one desks id at_desk phase.at_desk) ∙ phase.is_round in
    let is : IsOpenSafe (era_in council.eras.0 id) (caller_view caller) (queue_at flow id) phase.round = subst (IsRoundSafe (era_in council.eras.0 id) (caller_view caller) (queue_at flow id)) is_round party.round in
    let found = seen_open caller.call is.call is.is_open in
    let same_call : call_view found.0 ≡ is.call = some_is (ap (λ (o : Option OpenCall). option_map call_view o) (sym found.1) ∙ is.is_open) in
    let outcome = proposed_some found.0.proposed (ap (λ (c : CallView). is_some c.proposed) same_call ∙ is.proposed phase.phase) in
    let held = subst (λ (r : Option Round). HasCopies r caller.call) is_round (world.copies id desk caller at_desk at_caller) in
    let copies = subst (λ (o : Option Outcome). IfSome o (λ outcome. (copies : Copies) × (found.0.copies ≡ Some copies)
    × (copies.key ≡ phase.round.key) × (copies.told ≡ outcome.state) × (copies.answer ≡ outcome.state) × (copies.kept ≡ outcome.state))) outcome.1
    (subst (λ (o : Option OpenCall). HasCopies (Some phase.round) o) found.1 held phase.phase) in
    let some : 0 < found.0.reserved = omega (arith, reserves_one (era_in council.eras.0 id) (caller_view caller) (queue_at flow id) phase.round is (safe.sound.prep_sets id) (safe.sound.acc_sets id), ap (λ (c : CallView). c.reserved) same_call) in
    record {
      at_desk = at_desk;
      at_caller = at_caller;
      may = record {
        round = phase.round;
        is_round = is_round;
        call = found.0;
        is_open = found.1;
        outcome = outcome.0;
        proposed = outcome.1;
        copies = copies.0;
        has_copies = copies.1;
        key = copies.2;
        told = copies.3;
        answer = copies.4;
        kept = copies.5;
        reserved = some;
        room = some_room (reserved_by (council_view council)) callers id caller found.0 book.room at_caller found.1 some world.room;
      };
      accepting = phase.phase;
      three = omega (arith, reserves_one (era_in council.eras.0 id) (caller_view caller) (queue_at flow id) phase.round is (safe.sound.prep_sets id) (safe.sound.acc_sets id), ap (λ (c : CallView). c.reserved) same_call);
      up = party.idle;
    }

-- a desk with an open round is up
pub up_with : (down : Bool) (round : Option Round) (one : Round) → (down ≡ true → round ≡ None) → round ≡ Some one → down ≡ false
up_with true round one idle is = absurd (cc (idle refl, is))
up_with false round one idle is = refl

-- the round that is counted
abbrev at_round : {S V : Type 0} (last_proposer : ℕ) (council : Council) (acceptors : List (AcceptorView S)) (desks : List (DeskView V)) (callers : List Caller) (flow : FlowView) (book : Book) (id : ℕ) (desk : DeskView V) (caller : Caller)
    → (queue_at flow id).messages ≡ [] → IsCounting desks callers id desk caller book.room → OpenRoundAt (view_of last_proposer council acceptors desks callers flow book) id
at_round last_proposer council acceptors desks callers flow book id desk caller none is = record {
  of_call = record { caller = caller_view caller; at_caller = at_map caller_view callers id caller is.at_caller; call = call_view is.may.call; is_open = ap (λ (o : Option OpenCall). option_map call_view o) is.may.is_open };
  desk = desk;
  at_desk = is.at_desk;
  up = up_with desk.down desk.round is.may.round is.up is.may.is_round;
  round = is.may.round;
  is_open = is.may.is_round;
  none_waits = none;
}

pub counted : {S V : Type 0} (m : Meaning S V) (last_proposer : ℕ) (council : Council) (acceptors : List (AcceptorView S)) (desks : List (DeskView V)) (callers : List Caller) (flow : FlowView) (book after : Book) (id : ℕ) (desk now : DeskView V) (caller next : Caller) (told : Answer)
    → (queue_at flow id).messages ≡ [] → (is : IsCounting desks callers id desk caller book.room) → has_quorum is.may.round.phase ≡ true → Counts m.disks desk now is.may.round caller next is.may.call is.may.outcome book after told
    → StepCount m (view_of last_proposer council acceptors desks callers flow book) id (view_of last_proposer council acceptors (slice_set desks id now) (slice_set callers id next) flow after)
counted {S} {V} m last_proposer council acceptors desks callers flow book after id desk now caller next told none is quorum by = record {
  at_round = at_round last_proposer council acceptors desks callers flow book id desk caller none is;
  accepting = is.accepting;
  counts = calls.counts now by.by is.may.outcome quorum by.confirmers is.may.proposed by.ends
      (ap (λ (l : List CallerView). record (view_of last_proposer council acceptors (slice_set desks id now) callers flow after) { callers = l }) (map_set caller_view callers id next)
      ∙ ap (λ (c : CallerView). record (view_of last_proposer council acceptors (slice_set desks id now) callers flow after) { callers = slice_set (map caller_view callers) id c }) (ap caller_view by.caller_is)
      ∙ ap (λ (a : Answer). record (view_of last_proposer council acceptors (slice_set desks id now) callers flow after) { callers = slice_set (map caller_view callers) id (record (caller_view caller) { call = Some (calls.over (call_view is.may.call) a) }) }) by.told_is
      ∙ ap (λ (l : List Mark). record (view_of last_proposer council acceptors (slice_set desks id now) callers flow book)
      { callers = slice_set (map caller_view callers) id (record (caller_view caller) { call = Some (calls.over (call_view is.may.call) (answer.Done is.may.outcome.state is.may.outcome.took is.may.round.ballot)) }); marks = l }) by.marks);
}

-- no quorum accepted
pub fell_short : {S V : Type 0} (m : Meaning S V) (last_proposer : ℕ) (council : Council) (acceptors : List (AcceptorView S)) (desks : List (DeskView V)) (callers : List Caller) (flow : FlowView) (book : Book) (id : ℕ) (desk now : DeskView V) (caller next : Caller) (verdict : RoundVerdict) (why : Cause)
    → (queue_at flow id).messages ≡ [] → (is : IsCounting desks callers id desk caller book.room) → IsVerdictOf is.may.round verdict → calls.cause_by verdict ≡ Some why → EndsRound m.disks desk now is.may.round None
    → IfSome caller.call (λ call. next ≡ record caller { call = Some (over call (answer.Unsettled why)) })
    → StepCount m (view_of last_proposer council acceptors desks callers flow book) id (view_of last_proposer council acceptors (slice_set desks id now) (slice_set callers id next) flow book)
fell_short {S} {V} m last_proposer council acceptors desks callers flow book id desk now caller next verdict why none is is_verdict cause ends by =
    let caller_is : next ≡ record caller { call = Some (over is.may.call (answer.Unsettled why)) } =
    subst (λ (o : Option OpenCall). IfSome o (λ call. next ≡ record caller { call = Some (over call (answer.Unsettled why)) })) is.may.is_open by in
    record {
      at_round = at_round last_proposer council acceptors desks callers flow book id desk caller none is;
      accepting = is.accepting;
      counts = calls.ends now verdict why is_verdict cause ends
          (ap (λ (l : List CallerView). record (view_of last_proposer council acceptors (slice_set desks id now) callers flow book) { callers = l }) (map_set caller_view callers id next)
          ∙ ap (λ (c : CallerView). record (view_of last_proposer council acceptors (slice_set desks id now) callers flow book) { callers = slice_set (map caller_view callers) id c }) (ap caller_view caller_is));
    }

-- of what was reserved one is left
pub room_over : (beside : ℕ) (callers : List Caller) (id : ℕ) (caller next : Caller) (call : OpenCall) (told : Answer) (room left spent : ℕ) → IsAt callers id caller → caller.call ≡ Some call → next ≡ record caller { call = Some (over call told) } → 1 + spent ≤ call.reserved → left + spent ≡ room
    → reserved_of (map caller_view callers) + beside ≤ room → reserved_of (map caller_view (slice_set callers id next)) + beside ≤ left
room_over beside callers id caller next call told room left spent at is_open is few made low =
    omega (
      arith,
      few,
      made,
      low,
      ap (λ (l : List CallerView). reserved_of l) (map_set caller_view callers id next),
      reserved_set (map caller_view callers) id (caller_view caller) (caller_view next) (at_map caller_view callers id caller at),
      ap (λ (o : Option OpenCall). reserved_in (option_map call_view o)) is_open,
      ap (λ (c : Caller). reserved_in (caller_view c).call) is,
    )

pub quorum_of : (verdict : RoundVerdict) → calls.cause_by verdict ≡ None → verdict ≡ verdicts.Quorum
quorum_of verdicts.Quorum is = refl
quorum_of (verdicts.Met ballot) is = absurd (cc is)
quorum_of (verdicts.Aged least) is = absurd (cc is)
quorum_of (verdicts.Full acceptor) is = absurd (cc is)
quorum_of (verdicts.Short got need) is = absurd (cc is)
