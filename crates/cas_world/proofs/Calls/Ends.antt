-- What the end of a call does to the whole.
use Rattle.std.proofs.Common.{◌≡◌, ◌<◌, ◌≤◌, ℕ, List, [], ◌∷◌, ◌++◌, Option, None, Some, slice_set, slice_index_or, refl, sym, ap, subst, ◌∙◌, inl, inr, arith}
use Rattle.std.specs.Prelude.{◌⊎◌, ◌+◌, IsSome, IsSomeAnd, IfSome, map, option_map}
use Rattle.std.proofs.lemmas.List.{length-map}
use Rattle.cas_acceptor.specs.Acceptor.{AcceptorView}
use Rattle.cas_flow.specs.Flow.{FlowView, abandoned}
use Rattle.cas_proposer.specs.Desk.{DeskView}
use Rattle.cas_proposer.specs.declared.round.Round.{Round}
use Rattle.cas_record.specs.Book.{Book}
use Rattle.cas_record.specs.declared.answer.Answer.{Answer}
use Rattle.cas_record.specs.declared.mark.Mark.{Mark}
use Rattle.cas_record.specs.declared.mark.Mark.TheVariants.{Ended}
use Rattle.cas_model.specs.Council as cluster
use Rattle.cas_model.specs.Council.{reserved_by}
use Rattle.cas_model.specs.Step.{StepEnd}
use Rattle.cas_model.specs.Calls.Step.{Rescans, rescans, stops, is_none}
use Rattle.cas_model.proofs.Eras.Rescanning.{told_reserves}
use Rattle.cas_record.specs.declared.operator.OpAnswer.TheVariants.{Stopped}
use Rattle.cas_model.specs.Calls.Desks.{EndsRound}
use Rattle.cas_model.specs.View.{DiskMeaning, Meaning, View, CallView, CallerView, IsAt, reserved_in, reserved_of}
use Rattle.cas_model.proofs.Places.{at_one, some_is}
use Rattle.cas_model.specs.Safe.{IsSafe}
use Rattle.cas_model.proofs.Safety.Parts.{reserved_set}
use Rattle.cas_model.proofs.Stops.Safe.{call_reserves_at}
use Rattle.cas_world_calls.specs.declared.council.Council.{Council}
use Rattle.cas_world_calls.specs.declared.call.Caller.{Caller}
use Rattle.cas_world_calls.specs.declared.call.EndedCall.{EndedCall}
use Rattle.cas_world_calls.specs.declared.call.OpenCall.{OpenCall}
use Rattle.cas_world_calls.specs.Council.{council_view}
use Rattle.cas_world.specs.World.{WasTold, view_of, call_view, caller_view}
use Rattle.cas_world.proofs.Calls.Callers.{map_set, at_map}
use Rattle.cas_world.proofs.Parts.{at_place}

-- the open call of a caller, as its world was asked
pub record IsCallToldIn (caller : Caller) (number : ℕ) (answer : Answer) : Type 0 where
  pub call : OpenCall
  pub is_open : caller.call ≡ Some call
  pub told : call.told ≡ Some answer
  pub same_number : caller.number ≡ number

seen_told : (caller : Caller) (call : Option OpenCall) (view : CallView) (number : ℕ) (answer : Answer) → caller.call ≡ call → option_map call_view call ≡ Some view → view.told ≡ Some answer → caller.number ≡ number → IsCallToldIn caller number answer
seen_told caller None view number answer is seen told same = absurd (cc seen)
seen_told caller (Some call) view number answer is seen told same = record { call = call; is_open = is; told = ap (λ (v : CallView). v.told) (some_is seen) ∙ told; same_number = same }

pub told_in : {S V : Type 0} (last_proposer : ℕ) (council : Council) (acceptors : List (AcceptorView S)) (desks : List (DeskView V)) (callers : List Caller) (flow : FlowView) (book : Book) (id number : ℕ) (answer : Answer) (caller : Caller)
    → IsAt callers id caller → WasTold (view_of last_proposer council acceptors desks callers flow book) id number answer → IsCallToldIn caller number answer
told_in last_proposer council acceptors desks callers flow book id number answer caller at told =
    let same : caller_view caller ≡ told.caller = at_one (map caller_view callers) id (at_map caller_view callers id caller at) told.at_caller in
    seen_told caller caller.call told.call number answer refl (ap (λ (c : CallerView). c.call) same ∙ told.is_open) told.told (ap (λ (c : CallerView). c.number) same ∙ told.same_number)

-- a round that was open is closed
pub closed_or : {V : Type 0} (m : DiskMeaning V) (desk now : DeskView V) (round : Option Round) → desk.round ≡ round → (desk.round ≡ None → now ≡ desk) → ((r : Round) → desk.round ≡ Some r → EndsRound m desk now r None)
    → ((desk.round ≡ None) × (now ≡ desk)) ⊎ ((r : Round) × (desk.round ≡ Some r) × EndsRound m desk now r None)
closed_or m desk now None is idle ends = inl (is, idle is)
closed_or m desk now (Some round) is idle ends = inr (round, is, ends round is)

pub none_after : {V : Type 0} (m : DiskMeaning V) (desk now : DeskView V) → ((desk.round ≡ None) × (now ≡ desk)) ⊎ ((r : Round) × (desk.round ≡ Some r) × EndsRound m desk now r None) → now.round ≡ None
none_after {V} m desk now (inl idle) = ap (λ (d : DeskView V). d.round) idle.1 ∙ idle.0
none_after {V} m desk now (inr ends) = ap (λ (d : DeskView V). d.round) ends.2.desk

pub ends : {S V : Type 0} (m : Meaning S V) (last_proposer : ℕ) (council council_now : Council) (acceptors : List (AcceptorView S)) (desks : List (DeskView V)) (callers : List Caller) (flow : FlowView) (book after : Book) (id number : ℕ) (answer : Answer)
    (desk now : DeskView V) (caller : Caller) (told : IsCallToldIn caller number answer) → IsAt desks id desk → IsAt callers id caller → ((desk.round ≡ None) × (now ≡ desk)) ⊎ ((r : Round) × (desk.round ≡ Some r) × EndsRound m.disks desk now r None)
    → Rescans (council_view council) id told.call.key answer (council_view council_now) → council_now.eras ≡ council.eras → after.marks ≡ book.marks ++ Ended id number told.call.rounds answer ∷ []
    → StepEnd m (view_of last_proposer council acceptors desks callers flow book) id answer (view_of last_proposer council_now acceptors (slice_set desks id now) (slice_set callers id (record caller { call = None })) (abandoned flow id) after)
ends {S} {V} m last_proposer council council_now acceptors desks callers flow book after id number answer desk now caller told at_desk at_caller closed anew eras marks = record {
  of_call = record { caller = caller_view caller; at_caller = at_map caller_view callers id caller at_caller; call = call_view told.call; is_open = ap (λ (o : Option OpenCall). option_map call_view o) told.is_open };
  ends = record {
    told = told.told;
    desk = desk;
    at_desk = at_desk;
    now = now;
    closed = closed;
    council = council_view council_now;
    rescans = anew;
    view = (λ i. record (view_of last_proposer council_now acceptors (slice_set desks id now) (slice_set callers id (record caller { call = None })) (abandoned flow id) after) { eras = (eras i).0 })
        ∙ ap (λ (l : List CallerView). record (view_of last_proposer council acceptors (slice_set desks id now) callers (abandoned flow id) after) { callers = l; council = council_view council_now }) (map_set caller_view callers id (record caller { call = None }))
        ∙ ap (λ (l : List Mark). record (view_of last_proposer council acceptors (slice_set desks id now) callers (abandoned flow id) book) { callers = slice_set (map caller_view callers) id (record (caller_view caller) { call = None }); council = council_view council_now; marks = l })
        (marks ∙ ap (λ (n : ℕ). book.marks ++ Ended id n told.call.rounds answer ∷ []) (sym told.same_number));
  };
}

-- what was reserved for the call is not reserved any more, and one mark of it was made
pub room_ended : (beside : ℕ) (callers : List Caller) (id : ℕ) (caller : Caller) (call : OpenCall) (room left : ℕ) → IsAt callers id caller → caller.call ≡ Some call → 0 < call.reserved → left + 1 ≡ room → reserved_of (map caller_view callers) + beside ≤ room
    → reserved_of (map caller_view (slice_set callers id (record caller { call = None }))) + beside ≤ left
room_ended beside callers id caller call room left at is_open some made low =
    omega (
      arith,
      some,
      made,
      low,
      ap (λ (l : List CallerView). reserved_of l) (map_set caller_view callers id (record caller { call = None })),
      reserved_set (map caller_view callers) id (caller_view caller) (record (caller_view caller) { call = None }) (at_map caller_view callers id caller at),
      ap (λ (o : Option OpenCall). reserved_in (option_map call_view o)) is_open,
    )

pub some_room : (beside : ℕ) (callers : List Caller) (id : ℕ) (caller : Caller) (call : OpenCall) (room : ℕ) → IsAt callers id caller → caller.call ≡ Some call → 0 < call.reserved → reserved_of (map caller_view callers) + beside ≤ room → 0 < room
some_room beside callers id caller call room at is_open some low =
    omega (arith, some, low, reserved_set (map caller_view callers) id (caller_view caller) (record (caller_view caller) { call = None }) (at_map caller_view callers id caller at), ap (λ (o : Option OpenCall). reserved_in (option_map call_view o)) is_open)

-- a desk and its caller whose open call was told this, and a mark is reserved
pub record IsEnding {V : Type 0} (desks : List (DeskView V)) (callers : List Caller) (id number : ℕ) (answer : Answer) (desk : DeskView V) (caller : Caller) : Type 0 where
  pub at_desk : IsAt desks id desk
  pub at_caller : IsAt callers id caller
  pub told : IsCallToldIn caller number answer
  pub some : 0 < told.call.reserved

pub ending : {S V : Type 0} (last_proposer : ℕ) (council : Council) (acceptors : List (AcceptorView S)) (desks : List (DeskView V)) (callers : List Caller) (flow : FlowView) (book : Book) (now : View S V) (place id number : ℕ) (answer : Answer) (desk : DeskView V) (caller : Caller)
    → place ≡ id → view_of last_proposer council acceptors desks callers flow book ≡ now → id ≤ now.last_proposer → IsSafe (view_of last_proposer council acceptors desks callers flow book) → desk ≡ slice_index_or desks place desk → caller ≡ slice_index_or callers place caller
    → WasTold now id number answer → IsEnding desks callers id number answer desk caller
ending {S} {V} last_proposer council acceptors desks callers flow book now place id number answer desk caller same view low safe desk_is caller_is told =
    let known : id ≤ last_proposer = omega (arith, low, ap (λ (v : View S V). v.last_proposer) view) in
    let at_desk = at_place desks place id desk same (omega (arith, safe.sound.desks, known)) desk_is in
    let at_caller = at_place callers place id caller same (omega (arith, safe.sound.callers, known, length-map callers caller_view)) caller_is in
    let is = told_in last_proposer council acceptors desks callers flow book id number answer caller at_caller (subst (λ (v : View S V). WasTold v id number answer) (sym view) told) in
    record {
      at_desk = at_desk;
      at_caller = at_caller;
      told = is;
      some = call_reserves_at (view_of last_proposer council acceptors desks callers flow book) id (caller_view caller) (call_view is.call) desk safe.sound (at_map caller_view callers id caller at_caller) (ap (λ (o : Option OpenCall). option_map call_view o) is.is_open) at_desk;
    }

-- what the end of a call leaves
pub ended_as : (caller : Caller) (call : OpenCall) (answer : Answer) (result : EndedCall) → caller.call ≡ Some call → call.told ≡ Some answer
    → IfSome caller.call (λ c. IfSome c.told (λ told. result ≡ record { key = c.key; rounds = c.rounds; told = told })) → result ≡ record { key = call.key; rounds = call.rounds; told = answer }
ended_as caller call answer result is_open told by =
    subst (λ (o : Option Answer). IfSome o (λ t. result ≡ record { key = call.key; rounds = call.rounds; told = t })) told
    (subst (λ (o : Option OpenCall). IfSome o (λ c. IfSome c.told (λ t. result ≡ record { key = c.key; rounds = c.rounds; told = t }))) is_open by)

-- no more is reserved for the operator then, and no less
pub rescan_reserves : (old new : cluster.Council) (id : ℕ) (key : List ℕ) (answer : Answer) → Rescans old id key answer new → reserved_by new ≡ reserved_by old
rescan_reserves old new id key answer (rescans of done same) = ap reserved_by same
rescan_reserves old new id key answer (stops of undone same) = omega (arith, ap reserved_by same, told_reserves old.order (Stopped answer))
rescan_reserves old new id key answer (is_none none same) = ap reserved_by same

pub may_end : (caller : Caller) (call : OpenCall) (answer : Answer) → caller.call ≡ Some call → call.told ≡ Some answer → IsSomeAnd caller.call (λ c. IsSome c.told)
may_end caller call answer is_open told = subst (λ (o : Option OpenCall). IsSomeAnd o (λ c. IsSome c.told)) (sym is_open) (subst (λ (o : Option Answer). IsSome o) (sym told) refl)
