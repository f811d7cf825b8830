-- A script over a cluster that just opened is ready for its first line.
use Rattle.std.proofs.Common.{◌≡◌, ◌<◌, ◌≤◌, ◌^◌, ◌∙◌, ℕ, zero, suc, true, false, List, [], ◌∷◌, Option, None, refl, sym, ap, subst, inl, inr, arith}
use Rattle.std.specs.Prelude.{◌+◌, ◌||◌, length, replicate, slice_set}
use Rattle.std.specs.Cmp.Lexicographic.{slice_cmp}
use Rattle.std.specs.FinMap as map
use Rattle.std.specs.Ordering.{nat_cmp}
use Rattle.std.proofs.lemmas.List.{get_or-replicate}
use Rattle.cas_ballot.specs.declared.ballot.Ballot.{Ballot}
use Rattle.cas_ballot.specs.Ballot.{BallotAtMost}
use Rattle.cas_ballot.specs.Members.{has_member, members_where}
use Rattle.cas_ballot.proofs.BallotLemmas.{zero_at_most}
use Rattle.cas_ballot.proofs.CountLemmas.{length-within}
use Rattle.cas_cache.specs.declared.ready.Ready.{Ready}
use Rattle.cas_cache.specs.Entries.{promise_at}
use Rattle.cas_acceptor.specs.Acceptor.{AcceptorView}
use Rattle.cas_lines.specs.Command.{AskedChange}
use Rattle.cas_proposer.specs.Desk.{DeskView}
use Rattle.cas_quorum.specs.declared.era.Era.{Era}
use Rattle.cas_quorum.specs.Era.{majority_era}
use Rattle.cas_record.specs.declared.mark.Mark.{Mark}
use Rattle.cas_slot.specs.Ages.{least_age}
use Rattle.cas_slot.specs.Contents.{Contents, nothing}
use Rattle.cas_slot.specs.Slot.{seen_of}
use Rattle.cas_slot.specs.Slots.{IsFullFor}
use Rattle.cas_slot.specs.Table.{seen_at}
use Rattle.cas_slot.specs.declared.slot.Slot.{Slot}
use Rattle.cas_vault.specs.Vault.{counter_of, kept_of}
use Rattle.cas_model.specs.SafeLaws.{HasPlaces}
use Rattle.cas_model.specs.Step.{IsOpening, IsFreshDesk}
use Rattle.cas_model.specs.Council.{reserved_by}
use Rattle.cas_model.specs.View.{Meaning, View, CallerView, IsAt, new_caller, reserved_in, reserved_of, era_at, era_in}
use Rattle.cas_model.proofs.Frames.Harms.{member_low}
use Rattle.cas_model.proofs.Places.{at_one, but_set}
use Rattle.cas_model.proofs.Openings.Safe.{opens_are_safe}
use Rattle.cas_model.proofs.Safety.Parts.{at_low}
use Rattle.casreg_script.specs.Script.{nowhere, opening_state}
use Rattle.casreg_progress.specs.Lines.{ballot_by, next_ballot, IsMemberOf, IsReadyFor, AreReady, AreUp, IsReadyLine, IsDoneOrNoMemory}
use Rattle.casreg_progress.specs.Openings.{FirstLinesAreDone}
use Rattle.casreg_progress.proofs.Lines.{lines_are_done}

-- ---- lists
at_replicate : {A : Type 0} (n i : ℕ) (x : A) → i < n → IsAt (replicate n x) i x
at_replicate zero i x low = absurd (omega (arith, low))
at_replicate (suc n) zero x low = refl
at_replicate (suc n) (suc i) x low = at_replicate n i x (omega (arith, low))

-- a set has 64 members at most
all_members : length (members_where (λ n. true)) ≡ 64
unfolding members_where
all_members = refl

few_members : (test : ℕ → _) → length (members_where test) ≤ 64
few_members test = subst (λ (n : ℕ). length (members_where test) ≤ n) all_members (length-within test (λ n. true) (λ n low is. refl))

-- ---- what is kept at first
sees_nothing : (key : List ℕ) (ballot : Ballot) → BallotAtMost (seen_at nothing key) ballot
sees_nothing key ballot = subst (λ (s : Option Slot). BallotAtMost (seen_of s) ballot) (sym (map.get-empty (slice_cmp nat_cmp) key)) (zero_at_most ballot)

has_room : (key : List ℕ) → IsFullFor nothing.slots key → ⊥
has_room key full = omega (arith, full.no_room, map.len-empty (slice_cmp nat_cmp) Slot)

no_age : (id : ℕ) → id ≤ 16 → least_age nothing.ages id ≡ 0
no_age id few = get_or-replicate 17 id 0 0 (omega (arith, few))

-- nothing is reserved for callers that never called
none_reserved : (callers : List CallerView) → ((id : ℕ) (caller : CallerView) → IsAt callers id caller → caller ≡ new_caller) → reserved_of callers ≡ 0
none_reserved [] fresh = refl
none_reserved (caller ∷ callers) fresh = omega (arith, ap (λ (c : CallerView). reserved_in c.call) (fresh 0 caller refl), none_reserved callers (λ id c at. fresh (suc id) c at))

-- ---- a cluster that just opened
member_of : (members : List ℕ) (member : ℕ) → IsMemberOf (majority_era 0 members) member → has_member members member ≡ true
member_of members member (inl is) = is
member_of members member (inr is) = is

ready_member : {S V : Type 0} (m : Meaning S V) (id : ℕ) (key : List ℕ) (desk : DeskView V) (acceptor : AcceptorView S) → id ≤ 16 → desk.id ≡ id → acceptor.down ≡ false → m.shelves.contents acceptor.shelf ≡ nothing → IsReadyFor m.shelves desk key acceptor
ready_member m id key desk acceptor few same up keeps = record {
  up = up;
  age = subst (λ (c : Contents). least_age c.ages desk.id ≤ (kept_of desk.vault).age) (sym keeps) (omega (arith, no_age desk.id (subst (λ (n : ℕ). n ≤ 16) (sym same) few)));
  seen = subst (λ (c : Contents). BallotAtMost (seen_at c key) (next_ballot desk key)) (sym keeps) (sees_nothing key (next_ballot desk key));
  room = λ full. has_room key (subst (λ (c : Contents). IsFullFor c.slots key) keeps full);
}

-- each proposer works in the era of the opening
opening_era : {S V : Type 0} (m : Meaning S V) (members : List ℕ) (world : View S V) (id : ℕ) → IsOpening m members world → id ≤ 16 → era_at world id ≡ majority_era 0 members
opening_era m members world id opens low = ap (λ (l : List Era). era_in l id) opens.eras ∙ get_or-replicate 17 id (majority_era 0 members) (majority_era 0 []) (omega (arith, low))

all_ready : {S V : Type 0} (m : Meaning S V) (members : List ℕ) (world : View S V) (id : ℕ) (key : List ℕ) (desk : DeskView V) → IsOpening m members world → HasPlaces world → IsAt world.desks id desk → counter_of desk.vault < 2 ^ 48 → AreUp (era_at world id) world id → AreReady m world id key
all_ready {S} {V} m members world id key desk opens places at low up = record {
  desk = desk;
  at_desk = at;
  begins = record { up = up.desk desk at; none_open = fresh.1.none_open; unspent = λ none. low };
  members = λ member is.
      let has_it : has_member members member ≡ true = member_of members member (subst (λ (e : Era). IsMemberOf e member) era_is is) in
      let there = at_low world.acceptors member (omega (arith, member_low members member opens.member_set has_it, places.acceptors)) in
      let is_up = up.members member is there.0 there.1 in
      (there.0, there.1, ready_member m id key desk there.0 (omega (arith, fresh.0, opens.few)) fresh.1.same_id is_up ((opens.acceptors member there.0 there.1).keeps is_up));
}
  where
    fresh : (id ≤ world.last_proposer) × IsFreshDesk m id desk
    fresh = opens.desks id desk at

    era_is : era_at world id ≡ majority_era 0 members
    era_is = opening_era m members world id opens (omega (arith, fresh.0, opens.few))

caller_set : (callers : List CallerView) (id : ℕ) → ((place : ℕ) (caller : CallerView) → IsAt callers place caller → caller ≡ new_caller) → (place : ℕ) (caller : CallerView) → IsAt (slice_set callers id new_caller) place caller → caller ≡ new_caller
caller_set callers id fresh place caller at = elim (but_set callers id new_caller place caller at) [
  | inl own ↦ own.1
  | inr other ↦ fresh place caller other.1
]

line_ready : {S V : Type 0} (m : Meaning S V) (members : List ℕ) (world : View S V) (asked : AskedChange) (desk : DeskView V) → IsOpening m members world → HasPlaces world → IsAt world.desks asked.caller desk → counter_of desk.vault < 2 ^ 48 → AreUp (era_at world asked.caller) world asked.caller → IsReadyLine m (opening_state world) asked
line_ready {S} {V} m members world asked desk opens places at low up = record {
  delivers = λ frame. refl;
  goes_on = at_replicate 17 asked.caller nowhere (omega (arith, (opens.desks asked.caller desk at).0, opens.few));
  all_ready = all_ready m members world asked.caller asked.key desk opens places at low up;
  no_call = λ caller at. ap (λ (c : CallerView). c.call) (opens.callers asked.caller caller at);
  room = omega (
    arith,
    ap (λ (l : List Mark). length l) opens.marks,
    none_reserved (slice_set world.callers asked.caller new_caller) (caller_set world.callers asked.caller opens.callers),
    ap reserved_by opens.council,
    few_members (λ n. has_member (era_at world asked.caller).prep n || has_member (era_at world asked.caller).acc n),
  );
}

-- its first ballot
first_ballot : {V : Type 0} (desk : DeskView V) (id : ℕ) (key : List ℕ) → desk.id ≡ id → desk.cache ≡ [] → next_ballot desk key ≡ record { counter = counter_of desk.vault + 1; proposer = id }
first_ballot desk id key same none =
    ap (λ (cache : List (List ℕ × Ready)). ballot_by desk.id (counter_of desk.vault) (promise_at key cache)) none ∙ ap (λ (p : ℕ). ballot_by p (counter_of desk.vault) None) same

pub first_lines_are_done : {S V : Type 0} (m : Meaning S V) → FirstLinesAreDone m
first_lines_are_done {S} {V} m tries members world new asked told desk opens places at low up runs up_then =
    subst (λ (b : Ballot). IsDoneOrNoMemory b told) (ap (λ (d : DeskView V). next_ballot d asked.key) (at_one world.desks asked.caller ready.all_ready.at_desk at) ∙ first_ballot desk asked.caller asked.key fresh.same_id fresh.no_promise)
    (lines_are_done m tries (opening_state world) new asked told (opens_are_safe m members world opens places) ready runs up_then)
  where
    fresh : IsFreshDesk m asked.caller desk
    fresh = (opens.desks asked.caller desk at).1

    ready : IsReadyLine m (opening_state world) asked
    ready = line_ready m members world asked desk opens places at low up
