-- What was started is an opening.
use Rattle.std.proofs.Common.{◌≡◌, ◌<◌, ◌≤◌, ℕ, zero, suc, true, false, List, [], ◌∷◌, length, map, Option, Some, refl, sym, ap, subst, ◌∙◌, inl, inr, arith}
use Rattle.std.specs.Prelude.{◌⊎◌, ◌+◌, replicate}
use Rattle.std.proofs.lemmas.List.{length-map, length-replicate}
use Rattle.std.proofs.lemmas.List.FromFn.{length-range_with_len}
use Rattle.std.proofs.lemmas.Option.{slice_get_within}
use Rattle.cas_acceptor.specs.Acceptor.{AcceptorView}
use Rattle.cas_flow.specs.Flow.{FlowView, empty_flow}
use Rattle.cas_proposer.specs.Desk.{DeskView}
use Rattle.cas_proposer.specs.declared.round.Round.{Round}
use Rattle.cas_quorum.specs.Era.{majority_era}
use Rattle.cas_record.specs.Book.{Book}
use Rattle.cas_vault.specs.declared.kept.Kept.{Kept}
use Rattle.cas_vault.specs.Vault.{fresh}
use Rattle.cas_vault.proofs.Keeping.{same_kept}
use Rattle.cas_model.specs.SafeLaws.{HasPlaces}
use Rattle.cas_model.specs.Step.{IsFreshAcceptor, IsFreshDesk, IsOpening}
use Rattle.cas_model.specs.View.{Meaning, CallerView, IsAt, new_caller, reserved_of, reserved_in}
use Rattle.cas_model.proofs.Openings.Safe.{opens_are_safe}
use Rattle.cas_model.specs.Council.{reserved_by}
use Rattle.cas_world_calls.specs.Council.{opening_council, council_view}
use Rattle.cas_world_calls.specs.declared.council.Council.{Council}
use Rattle.cas_world_calls.specs.declared.call.Caller.{Caller}
use Rattle.cas_world.specs.Openings.Opening.{unbegun, members_to, unstarted, HasStarted, AreStartedBelow, IsDeskOver, AllStart}
use Rattle.cas_model.proofs.Openings.Opens.{opening_remembered}
use Rattle.cas_world.specs.World.{HasCopies, IsWorld, view_of, caller_view}
use Rattle.cas_world.proofs.Calls.Callers.{at_map}
use Rattle.cas_model.proofs.Safety.Parts.{at_low}
use Rattle.cas_world.proofs.Lists.{unstarted_at, unstarted_places, replicate_at, members_set}

-- ---- acceptors
fresh_started : {S V : Type 0} (m : Meaning S V) (faults : S → ℕ) (id : ℕ) (was now : AcceptorView S) → was.id ≡ id → HasStarted m.shelves faults was now → IsFreshAcceptor m id now
fresh_started {S} m faults id was now same starts = record {
  same_id = ap (λ (a : AcceptorView S). a.id) starts.acceptor ∙ same;
  started = λ up. ap (λ (a : AcceptorView S). a.started) starts.acceptor;
  keeps = λ up. starts.holds;
  lasts = λ tells up. starts.lasts tells;
  not_started = λ down. absurd (cc (down, ap (λ (a : AcceptorView S). a.down) starts.acceptor));
}

fresh_unstarted : {S V : Type 0} (m : Meaning S V) (id : ℕ) (shelf : S) (now : AcceptorView S) → now ≡ record { id = 0 + id; started = false; down = true; shelf = shelf } → IsFreshAcceptor m id now
fresh_unstarted {S} m id shelf now is =
    let down : now.down ≡ true = ap (λ (a : AcceptorView S). a.down) is in
    record {
      same_id = ap (λ (a : AcceptorView S). a.id) is ∙ (let e : 0 + id ≡ id = omega arith in e);
      started = λ up. absurd (cc (up, down));
      keeps = λ up. absurd (cc (up, down));
      lasts = λ tells up. absurd (cc (up, down));
      not_started = λ is_down. ap (λ (a : AcceptorView S). a.started) is;
    }

member_or_not : (id count : ℕ) → ((0 < id) × (id < count + 1)) ⊎ ((id ≡ 0) ⊎ (count + 1 ≤ id))
member_or_not zero count = inr (inl refl)
member_or_not (suc id) count = elim (le_or_lt (count + 1) (suc id)) [
  | inl above ↦ inr (inr above)
  | inr below ↦ inl (omega arith, below)
]
  where
    le_or_lt : (a b : ℕ) → (a ≤ b) ⊎ (b < a)
    le_or_lt a b = grind arith

fresh_acceptors : {S V : Type 0} (m : Meaning S V) (faults : S → ℕ) (count : ℕ) (shelves : List S) (acceptors : List (AcceptorView S)) → AreStartedBelow m.shelves faults (unstarted 0 shelves) (count + 1) acceptors
    → (id : ℕ) (acceptor : AcceptorView S) → IsAt acceptors id acceptor → IsFreshAcceptor m id acceptor
fresh_acceptors {S} {V} m faults count shelves acceptors starts id acceptor at = elim (member_or_not id count) [
  | inl member ↦ (let found = starts.members id acceptor member.0 member.1 at in
      let was = unstarted_at 0 shelves id found.0 found.1 in
      fresh_started m faults id found.0 acceptor (ap (λ (a : AcceptorView S). a.id) was.1 ∙ (let e : 0 + id ≡ id = omega arith in e)) found.2)
  | inr other ↦ (let was = unstarted_at 0 shelves id acceptor (starts.others id acceptor other at) in fresh_unstarted m id was.0 acceptor was.1)
]

-- ---- desks
fresh_desk : {S V : Type 0} (m : Meaning S V) (faults : V → ℕ) (id : ℕ) (disk : V) (desk : DeskView V) → IsDeskOver m.disks faults id disk desk → IsFreshDesk m id desk
fresh_desk {S} {V} m faults id disk desk over = record {
  same_id = ap (λ (d : DeskView V). d.id) over.is;
  in_era = λ tells. record {
    kept = ap (λ (k : Kept). k.era) over.kept;
    left = λ c kept may on. inl (ap (λ (k : Kept). k.era) (same_kept kept fresh c on (over.lasts tells c may)));
  };
  no_promise = ap (λ (d : DeskView V). d.cache) over.is;
  none_open = ap (λ (d : DeskView V). d.round) over.is;
}

-- ---- callers
pub fresh_callers : (n : ℕ) (callers : List Caller) → callers ≡ replicate n unbegun → (id : ℕ) (caller : CallerView) → IsAt (map caller_view callers) id caller → caller ≡ new_caller
fresh_callers n callers is id caller at =
    let low : id < length callers = omega (arith, slice_get_within (map caller_view callers) id caller at, length-map callers caller_view) in
    let found = at_low callers id low in
    let one : found.0 ≡ unbegun = replicate_at n unbegun id found.0 (subst (λ (l : List Caller). IsAt l id found.0) is found.1) in
    let seen : Some caller ≡ Some (caller_view found.0) = sym at ∙ at_map caller_view callers id found.0 found.1 in
    let same : caller ≡ caller_view found.0 = cc seen in
    same ∙ ap caller_view one

pub none_reserved : (callers : List CallerView) → ((id : ℕ) (caller : CallerView) → IsAt callers id caller → caller ≡ new_caller) → reserved_of callers ≡ 0
none_reserved [] fresh = refl
none_reserved (caller ∷ callers) fresh = omega (arith, ap (λ (c : CallerView). reserved_in c.call) (fresh 0 caller refl), none_reserved callers (λ id c at. fresh (suc id) c at))

-- ---- the whole
module _ {S V : Type 0} (m : Meaning S V) (shelf_faults : S → ℕ) (disk_faults : V → ℕ) (count last_proposer : ℕ) (shelves : List S) (disks : List V) (council : Council) (acceptors : List (AcceptorView S)) (desks : List (DeskView V)) (callers : List Caller) (flow : FlowView) (book : Book) (left : List V)
    (some : 0 < count) (few : count ≤ 9) (few_proposers : last_proposer ≤ 16) (all_shelves : length shelves ≡ 64)
    (starts : AllStart m shelf_faults disk_faults count last_proposer (unstarted 0 shelves) disks acceptors desks left) (eras_are : council ≡ opening_council (majority_era 0 (members_to count)) (members_to count)) (callers_are : callers ≡ replicate (last_proposer + 1) unbegun) (flow_is : flow ≡ empty_flow) (marks : book.marks ≡ []) where
  pub is_opening : IsOpening m (members_to count) (view_of last_proposer council acceptors desks callers flow book)
  is_opening = record {
    eras = ap (λ (c : Council). c.eras.0) eras_are;
    council = ap council_view eras_are;
    few = few_proposers;
    member_set = members_set count (omega (arith, few));
    some = omega (arith, some, length-range_with_len 1 count);
    few_members = omega (arith, few, length-range_with_len 1 count);
    acceptors = fresh_acceptors m shelf_faults count shelves acceptors starts.members;
    desks = λ id desk at.
        (let low : id < length desks = slice_get_within desks id desk at in
        let found = starts.made.each id desk at in
        (omega (arith, low, starts.made.places), fresh_desk m disk_faults id found.0 desk found.2));
    callers = fresh_callers (last_proposer + 1) callers callers_are;
    flow = flow_is;
    marks = marks;
  }

  pub has_places : HasPlaces (view_of last_proposer council acceptors desks callers flow book)
  has_places = record {
    acceptors = starts.members.places ∙ (unstarted_places 0 shelves ∙ all_shelves);
    desks = omega (arith, starts.made.places);
    callers = omega (arith, length-map callers caller_view, ap (λ (l : List Caller). length l) callers_are, length-replicate (last_proposer + 1) unbegun);
  }

  pub is_world : IsWorld m (view_of last_proposer council acceptors desks callers flow book) callers book.room
  is_world = record {
    safe = opens_are_safe m (members_to count) (view_of last_proposer council acceptors desks callers flow book) is_opening has_places;
    remembered = λ shelves_tell disks_tell. opening_remembered m shelves_tell disks_tell (members_to count) (view_of last_proposer council acceptors desks callers flow book) is_opening;
    room = omega (arith, none_reserved (map caller_view callers) (fresh_callers (last_proposer + 1) callers callers_are), ap (λ (c : Council). reserved_by (council_view c)) eras_are);
    copies = λ id desk caller at_desk at_caller.
        (let found = starts.made.each id desk at_desk in
        subst (λ (r : Option Round). HasCopies r caller.call) (sym (ap (λ (d : DeskView V). d.round) found.2.is)) tt);
  }
