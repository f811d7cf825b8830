-- What was taken up is an opening on what stood before.
use Rattle.std.proofs.Common.{◌≡◌, ◌<◌, ◌≤◌, ℕ, zero, suc, Bool, true, false, List, [], ◌∷◌, ◌++◌, length, map, Option, refl, sym, ap, subst, ◌∙◌, inl, inr, arith, append_assoc}
use Rattle.std.specs.Prelude.{◌+◌, ◌||◌, max, drop, replicate}
use Rattle.std.proofs.lemmas.List.{length_push, length-map, length-replicate, length-drop}
use Rattle.std.proofs.lemmas.Option.{slice_get_within}
use Rattle.cas_base.proofs.Bools.{or_right}
use Rattle.cas_acceptor.specs.Acceptor.{AcceptorView}
use Rattle.cas_ballot.specs.Members.{has_member, union_of, IsMemberSet}
use Rattle.cas_ballot.proofs.MemberLemmas.{has-members_where, IsMemberSet-members_where}
use Rattle.cas_flow.specs.Flow.{FlowView, empty_flow}
use Rattle.cas_proposer.specs.Desk.{DeskView}
use Rattle.cas_proposer.specs.declared.round.Round.{Round}
use Rattle.cas_quorum.specs.Era.{majority_era}
use Rattle.cas_record.specs.Book.{Book}
use Rattle.cas_record.specs.declared.mark.Mark.{Mark}
use Rattle.cas_round.proofs.Lists.{Has, has}
use Rattle.cas_slot.specs.Shelf.{OnlyLeaves}
use Rattle.cas_vault.specs.declared.kept.Kept.{Kept}
use Rattle.cas_vault.specs.declared.vault.Vault.{Vault}
use Rattle.cas_vault.specs.Vault.{kept_of, IsPast}
use Rattle.cas_vault.proofs.Keeping.{same_kept}
use Rattle.cas_model.specs.Council.{reserved_by}
use Rattle.cas_model.specs.Openings.{Opening, mark_of, AreOpenings, IsOpenAcceptor, IsOpenDesk, IsOpeningOn}
use Rattle.cas_model.specs.SafeLaws.{HasPlaces}
use Rattle.cas_model.specs.Calls.Step.{most_marks}
use Rattle.cas_model.specs.View.{Meaning, DiskMeaning, IsAt}
use Rattle.cas_model.proofs.Frames.Harms.{member_low}
use Rattle.cas_model.proofs.Openings.Opens.{remembered_on}
use Rattle.cas_model.proofs.Places.{some_is}
use Rattle.cas_model.proofs.Openings.Safe.{opens_on_are_safe}
use Rattle.cas_model.proofs.Safety.Parts.{at_low}
use Rattle.cas_world_calls.specs.Council.{opening_council, council_view}
use Rattle.cas_world_calls.specs.declared.council.Council.{Council}
use Rattle.cas_world_calls.specs.declared.call.Caller.{Caller}
use Rattle.cas_world.specs.Openings.Opening.{unbegun, shelves_of}
use Rattle.cas_world.specs.declared.fault.OpenFault.{OpenFault}
use Rattle.cas_world.specs.Openings.OpeningOn.{opening_of, openings_of, greatest_counter, placed_as, placed, MembersHold, IsTakenUpOver, AreTakenUpBelow, AVaultIsNotTakenUp}
use Rattle.cas_world.specs.World.{HasCopies, IsWorld, view_of, caller_view}
use Rattle.cas_world.specs.declared.reopen.OpeningFloor.{OpeningFloor}
use Rattle.cas_world.proofs.Lists.{at_pushed}
use Rattle.cas_world.proofs.Openings.Openings.{fresh_callers, none_reserved}

-- ---- acceptors
pub placed_at : {S : Type 0} (members : List ℕ) (number : ℕ) (shelves : List S) (id : ℕ) (acceptor : AcceptorView S) → IsAt (placed members number shelves) id acceptor
    → (shelf : S) × IsAt shelves id shelf × (acceptor ≡ placed_as (has_member members (number + id)) (number + id) shelf)
placed_at members number [] id acceptor at = absurd (cc at)
placed_at {S} members number (shelf ∷ shelves) zero acceptor at =
    (shelf, refl, sym (some_is at) ∙ ap (λ (n : ℕ). placed_as (has_member members n) n shelf) (omega arith))
placed_at {S} members number (shelf ∷ shelves) (suc id) acceptor at =
    let found = placed_at members (suc number) shelves id acceptor at in
    (found.0, found.1, found.2 ∙ ap (λ (n : ℕ). placed_as (has_member members n) n found.0) (omega arith))

pub placed_places : {S : Type 0} (members : List ℕ) (number : ℕ) (shelves : List S) → length (placed members number shelves) ≡ length shelves
placed_places members number [] = refl
placed_places members number (shelf ∷ shelves) = ap suc (placed_places members (suc number) shelves)

-- one more acceptor is made
pub placed_more : {S : Type 0} (members : List ℕ) (made : List (AcceptorView S)) (left : List S) (shelf : S) (now : AcceptorView S) → now ≡ placed_as (has_member members (length made)) (length made) shelf
    → (made ++ now ∷ []) ++ placed members (length (made ++ now ∷ [])) left ≡ made ++ placed members (length made) (shelf ∷ left)
placed_more {S} members made left shelf now is =
    append_assoc made (now ∷ []) (placed members (length (made ++ now ∷ [])) left)
    ∙ ap (λ (n : ℕ). made ++ now ∷ placed members n left) (length_push made now ∙ (let e : length made + 1 ≡ suc (length made) = omega arith in e))
    ∙ ap (λ (a : AcceptorView S). made ++ a ∷ placed members (suc (length made)) left) is

placed_open : {S V : Type 0} (m : Meaning S V) (is_up : S → Type 0) (members : List ℕ) (floors : List Opening) (shelves : List S) → ((shelf : S) → m.shelves.tells → is_up shelf → OnlyLeaves (m.shelves.contents shelf) (m.shelves.may_leave shelf))
    → MembersHold is_up m.shelves.contents members floors shelves → (id : ℕ) (acceptor : AcceptorView S) → IsAt (placed members 0 shelves) id acceptor → IsOpenAcceptor m members floors id acceptor
placed_open {S} {V} m is_up members floors shelves lasts held id acceptor at = by_member (has_member members id) refl
  where
    found : (shelf : S) × IsAt shelves id shelf × (acceptor ≡ placed_as (has_member members (0 + id)) (0 + id) shelf)
    found = placed_at members 0 shelves id acceptor at

    is : acceptor ≡ placed_as (has_member members id) id found.0
    is = found.2 ∙ ap (λ (n : ℕ). placed_as (has_member members n) n found.0) (omega arith)

    running : has_member members id ≡ true → acceptor ≡ record { id = id; started = true; down = false; shelf = found.0 }
    running member = is ∙ ap (λ (b : Bool). placed_as b id found.0) member

    unstarted : has_member members id ≡ false → acceptor ≡ record { id = id; started = false; down = true; shelf = found.0 }
    unstarted other = is ∙ ap (λ (b : Bool). placed_as b id found.0) other

    by_member : (b : Bool) → has_member members id ≡ b → IsOpenAcceptor m members floors id acceptor
    by_member true member = subst (IsOpenAcceptor m members floors id) (sym (running member)) (record {
      same_id = refl;
      started = λ up. refl;
      holds = λ in_it up. held.holds id found.0 member found.1;
      keeps = λ other up. absurd (cc (member, other));
      lasts = λ tells up. lasts found.0 tells (held.up id found.0 member found.1);
      not_started = λ down. absurd (cc down);
    })
    by_member false other = subst (IsOpenAcceptor m members floors id) (sym (unstarted other)) (record {
      same_id = refl;
      started = λ up. absurd (cc up);
      holds = λ in_it up. absurd (cc up);
      keeps = λ out up. absurd (cc up);
      lasts = λ tells up. absurd (cc up);
      not_started = λ down. refl;
    })

-- ---- desks
lower_past : {V : Type 0} {may_leave : V → List ℕ → Type 0} {vault : Vault V} (n past : ℕ) → n ≤ past → IsPast may_leave past vault → IsPast may_leave n vault
lower_past n past low is = record { counter = omega (arith, low, is.counter); images = λ c may. let image = is.images c may in (image.0, image.1, omega (arith, low, image.2)) }

below_greatest : (floors : List OpeningFloor) (o : Opening) → Has o (openings_of floors) → o.ballot.counter ≤ greatest_counter floors
below_greatest [] o h = absurd h
below_greatest (floor ∷ floors) o (inl same) = subst (λ (x : Opening). x.ballot.counter ≤ max floor.ballot.counter (greatest_counter floors)) same (omega arith)
below_greatest (floor ∷ floors) o (inr h) = omega (arith, below_greatest floors o h)

pub dropped_all : {A : Type 0} (n : ℕ) (xs : List A) → length xs ≤ n → drop n xs ≡ []
dropped_all zero [] low = refl
dropped_all zero (x ∷ xs) low = absurd (omega (arith, low))
dropped_all (suc n) [] low = refl
dropped_all (suc n) (x ∷ xs) low = dropped_all n xs (omega (arith, low))

open_desk : {S V : Type 0} (m : Meaning S V) (seen : V → List ℕ) (faults : V → ℕ) (past : ℕ) (floors : List OpeningFloor) (id : ℕ) (disk : V) (desk : DeskView V)
    → IsTakenUpOver m.disks seen faults past id disk desk → greatest_counter floors ≤ past → IsOpenDesk m (openings_of floors) id desk
open_desk {S} {V} m seen faults past floors id disk desk over low = record {
  same_id = ap (λ (d : DeskView V). d.id) over.is;
  in_era = λ tells. record {
    kept = over.vault.era;
    left = λ c kept may on. inl (ap (λ (k : Kept). k.era) (same_kept kept (kept_of desk.vault) c on (over.vault.lasts tells c may)) ∙ over.vault.era);
  };
  past = λ tells o h. lower_past o.ballot.counter past (omega (arith, low, below_greatest floors o (has o (openings_of floors) h))) (over.vault.is_past tells);
  no_promise = ap (λ (d : DeskView V). d.cache) over.is;
  none_open = ap (λ (d : DeskView V). d.round) over.is;
}

-- ---- one more vault that is taken up
pub one_more_taken : {V : Type 0} (m : DiskMeaning V) (seen : V → List ℕ) (faults : V → ℕ) (past : ℕ) (disks : List V) (number : ℕ) (desks : List (DeskView V)) (disk : V) (desk : DeskView V)
    → AreTakenUpBelow m seen faults past disks number desks → IsAt disks number disk
    → IsTakenUpOver m seen faults past number disk desk → AreTakenUpBelow m seen faults past disks (number + 1) (desks ++ desk ∷ [])
one_more_taken {V} m seen faults past disks number desks disk desk before at over = record {
  places = length_push desks desk ∙ ap (λ (n : ℕ). n + 1) before.places;
  each = λ id x at_x. elim (at_pushed desks desk id x at_x) [
    | inl earlier ↦ before.each id x earlier
    | inr last ↦ (let e : id ≡ number = last.0 ∙ before.places in
        (disk, subst (λ (i : ℕ). IsAt disks i disk) (sym e) at, subst (λ (i : ℕ). IsTakenUpOver m seen faults past i disk x) (sym e) (subst (λ (y : DeskView V). IsTakenUpOver m seen faults past number disk y) (sym last.1) over)))
  ];
}

-- ---- marks
marks_are : (floors : List OpeningFloor) → map (λ (floor : OpeningFloor). mark_of (opening_of floor)) floors ≡ map mark_of (openings_of floors)
marks_are [] = refl
marks_are (floor ∷ floors) = ap (λ (l : List Mark). mark_of (opening_of floor) ∷ l) (marks_are floors)

-- ---- the whole
module _ {S V : Type 0} (m : Meaning S V) (is_up : S → Type 0) (seen : V → List ℕ) (disk_faults : V → ℕ) (past : ℕ) (members used : List ℕ) (floors : List OpeningFloor) (last_proposer : ℕ) (shelves : List S) (disks : List V) (council : Council) (desks : List (DeskView V)) (callers : List Caller) (flow : FlowView) (book : Book)
    (member_set : IsMemberSet members) (some : 0 < length members) (few_members : length members ≤ 9) (few_proposers : last_proposer ≤ 16) (all_shelves : length shelves ≡ 64) (openings : AreOpenings (openings_of floors)) (few_marks : length floors ≤ most_marks)
    (lasts : (shelf : S) → m.shelves.tells → is_up shelf → OnlyLeaves (m.shelves.contents shelf) (m.shelves.may_leave shelf)) (held : MembersHold is_up m.shelves.contents members (openings_of floors) shelves)
    (low_past : greatest_counter floors ≤ past) (taken : AreTakenUpBelow m.disks seen disk_faults past disks (last_proposer + 1) desks) (eras_are : council ≡ opening_council (majority_era 0 members) (union_of used members)) (callers_are : callers ≡ replicate (last_proposer + 1) unbegun) (flow_is : flow ≡ empty_flow)
    (marks : book.marks ≡ map (λ (floor : OpeningFloor). mark_of (opening_of floor)) floors) where
  pub is_opening_on : IsOpeningOn m members (union_of used members) (openings_of floors) (view_of last_proposer council (placed members 0 shelves) desks callers flow book)
  is_opening_on = record {
    eras = ap (λ (c : Council). c.eras.0) eras_are;
    council = ap council_view eras_are;
    few = few_proposers;
    member_set = member_set;
    some = some;
    few_members = few_members;
    used_set = IsMemberSet-members_where (λ n. has_member used n || has_member members n);
    all_used = λ acceptor member.
        has-members_where (λ n. has_member used n || has_member members n) acceptor (member_low members acceptor member_set member) ∙ or_right (has_member used acceptor) (has_member members acceptor) member;
    openings = openings;
    acceptors = placed_open m is_up members (openings_of floors) shelves lasts held;
    up = λ o h id member.
        (let low : id < length (placed members 0 shelves) = omega (arith, member_low members id member_set member, placed_places members 0 shelves, all_shelves) in
        let found = at_low (placed members 0 shelves) id low in
        let place = placed_at members 0 shelves id found.0 found.1 in
        record {
          acceptor = found.0;
          at = found.1;
          up = ap (λ (a : AcceptorView S). a.down) (place.2 ∙ ap (λ (n : ℕ). placed_as (has_member members n) n place.0) (let e : 0 + id ≡ id = omega arith in e) ∙ ap (λ (b : Bool). placed_as b id place.0) member);
        });
    desks = λ id desk at.
        (let low : id < length desks = slice_get_within desks id desk at in
        let found = taken.each id desk at in
        (omega (arith, low, taken.places), open_desk m seen disk_faults past floors id found.0 desk found.2 low_past));
    callers = fresh_callers (last_proposer + 1) callers callers_are;
    flow = flow_is;
    marks = marks ∙ marks_are floors;
    room = omega (arith, ap (λ (l : List Mark). length l) marks, length-map floors (λ (floor : OpeningFloor). mark_of (opening_of floor)), few_marks);
  }

  pub has_places_on : HasPlaces (view_of last_proposer council (placed members 0 shelves) desks callers flow book)
  has_places_on = record {
    acceptors = placed_places members 0 shelves ∙ all_shelves;
    desks = omega (arith, taken.places);
    callers = omega (arith, length-map callers caller_view, ap (λ (l : List Caller). length l) callers_are, length-replicate (last_proposer + 1) unbegun);
  }

  pub is_world_on : IsWorld m (view_of last_proposer council (placed members 0 shelves) desks callers flow book) callers book.room
  is_world_on = record {
    safe = opens_on_are_safe m members (union_of used members) (openings_of floors) (view_of last_proposer council (placed members 0 shelves) desks callers flow book) is_opening_on has_places_on;
    remembered = λ shelves_tell disks_tell. remembered_on m shelves_tell disks_tell members (union_of used members) (openings_of floors) (view_of last_proposer council (placed members 0 shelves) desks callers flow book) is_opening_on;
    room = omega (arith, none_reserved (map caller_view callers) (fresh_callers (last_proposer + 1) callers callers_are), ap (λ (c : Council). reserved_by (council_view c)) eras_are);
    copies = λ id desk caller at_desk at_caller.
        (let found = taken.each id desk at_desk in
        subst (λ (r : Option Round). HasCopies r caller.call) (sym (ap (λ (d : DeskView V). d.round) found.2.is)) tt);
  }

-- ---- what comes back
shelf_placed : {S : Type 0} (member : Bool) (number : ℕ) (shelf : S) (rest : List (AcceptorView S)) → shelves_of (placed_as member number shelf ∷ rest) ≡ shelf ∷ shelves_of rest
shelf_placed true number shelf rest = refl
shelf_placed false number shelf rest = refl

pub placed_shelves : {S : Type 0} (members : List ℕ) (number : ℕ) (shelves : List S) → shelves_of (placed members number shelves) ≡ shelves
placed_shelves members number [] = refl
placed_shelves {S} members number (shelf ∷ shelves) = shelf_placed (has_member members number) number shelf (placed members (suc number) shelves) ∙ ap (λ (l : List S). shelf ∷ l) (placed_shelves members (suc number) shelves)

-- as many disks are there as came in
pub none_lost_on : {V : Type 0} (m : DiskMeaning V) (seen : V → List ℕ) (faults : V → ℕ) (past : ℕ) (disks : List V) (last_proposer : ℕ) (fault : OpenFault) (desks : List (DeskView V)) (left : List V) → last_proposer < length disks
    → AVaultIsNotTakenUp m seen faults past disks last_proposer fault desks left → length desks + length left ≡ length disks
none_lost_on {V} m seen faults past disks last_proposer fault desks left low fails =
    omega (arith, low, fails.to, fails.made.places, ap (λ (l : List V). length l) fails.rest, length-drop (fails.number + 1) disks)
