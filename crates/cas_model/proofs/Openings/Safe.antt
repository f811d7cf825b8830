-- A cluster that opens is safe.
use Rattle.std.proofs.Common.{None, ◌≡◌, ◌≤◌, ℕ, zero, suc, List, [], ◌∷◌, refl, sym, ap, subst, arith}
use Rattle.std.specs.Prelude.{length, Contains, replicate, slice_index_or}
use Rattle.cas_ballot.specs.Members.{IsMemberSet, members_where}
use Rattle.cas_cache.specs.declared.ready.Ready.{Ready}
use Rattle.cas_flow.specs.Flow.{FlowView, queue_at}
use Rattle.cas_quorum.specs.declared.era.Era.{Era}
use Rattle.cas_quorum.specs.Era.{majority_era}
use Rattle.cas_ballot.proofs.CountLemmas.{union_within, IsWithin-same}
use Rattle.cas_model.specs.Council.{Council, exchange_place, reserved_by}
use Rattle.cas_model.specs.Eras.Course.{HasFewMembers}
use Rattle.cas_model.specs.Exchanges.Tellings.{AreToldAnswers, StopsUndone, WasToldSo}
use Rattle.cas_model.specs.Safe.{IsAskingSafe, IsCouncilSafe, IsCollectingIn, IsSound}
use Rattle.cas_model.proofs.Exchanges.Tellings.{floor_marks}
use Rattle.cas_model.proofs.Eras.SafeListings.{no_listings, none_asks}
use Rattle.cas_model.specs.SafeLaws.{OpeningsAreSafe, OpeningsOnAreSafe}
use Rattle.cas_model.specs.View.{Meaning, CallerView, IsAt, new_caller, reserved_in, reserved_of, era_at, era_in}
use Rattle.cas_model.proofs.Openings.Opens.{none_under_way, is_on_course, opening_on_none}
use Rattle.cas_model.proofs.Places.{contains_none}
use Rattle.cas_model.proofs.Safety.Parts.{party_idle}

-- nothing is reserved for callers that never called
none_reserved : (callers : List CallerView) → ((id : ℕ) (caller : CallerView) → IsAt callers id caller → caller ≡ new_caller) → reserved_of callers ≡ 0
none_reserved [] fresh = refl
none_reserved (caller ∷ callers) fresh = omega (arith, ap (λ (c : CallerView). reserved_in c.call) (fresh 0 caller refl), none_reserved callers (λ id c at. fresh (suc id) c at))

pub no_members : IsMemberSet []
unfolding members_where
no_members = record { lists = refl }

-- the members of each era are a set, and so is what no proposer has
sets : {members : List ℕ} (n id : ℕ) → IsMemberSet members
    → IsMemberSet (slice_index_or (replicate n (majority_era 0 members)) id (majority_era 0 [])).prep × IsMemberSet (slice_index_or (replicate n (majority_era 0 members)) id (majority_era 0 [])).acc
sets zero id set = (no_members, no_members)
sets (suc n) zero set = (set, set)
sets (suc n) (suc id) set = sets n id set

-- and they are few
few_whole : (members : List ℕ) → IsMemberSet members → length members ≤ 9 → HasFewMembers (majority_era 0 members)
few_whole members set low = omega (arith, low, ap (λ (l : List ℕ). length l) (union_within members members set (IsWithin-same members)))

few : {members : List ℕ} (n id : ℕ) → IsMemberSet members → length members ≤ 9 → HasFewMembers (slice_index_or (replicate n (majority_era 0 members)) id (majority_era 0 []))
few zero id set low = few_whole [] no_members (omega arith)
few {members = members} (suc n) zero set low = few_whole members set low
few (suc n) (suc id) set low = few n id set low

pub opens_on_are_safe : {S V : Type 0} (m : Meaning S V) → OpeningsOnAreSafe m
opens_on_are_safe {S} {V} m members used floors view is places = record {
  sound = sound;
  course = is_on_course m members used floors view is;
  collection = subst (λ (c : Council). IsCollectingIn c (era_at view 0) view.last_proposer) (sym is.council) (record { each = λ collection none. absurd (cc none); exchange = λ exchange none asks. absurd (cc none) });
  tellings = record { marked = subst AreToldAnswers (sym is.marks) (floor_marks floors); last = subst (λ (c : Council). WasToldSo StopsUndone c.order) (sym is.council) tt };
}
  where
    sound : IsSound view
    sound = record {
      few = is.few;
      prep_sets = λ id. subst (λ (l : List Era). IsMemberSet (era_in l id).prep) (sym is.eras) (sets 17 id is.member_set).0;
      acc_sets = λ id. subst (λ (l : List Era). IsMemberSet (era_in l id).acc) (sym is.eras) (sets 17 id is.member_set).1;
      few_members = λ id. subst (λ (l : List Era). HasFewMembers (era_in l id)) (sym is.eras) (few 17 id is.member_set is.few_members);
      eras = ap (λ (l : List Era). length l) is.eras;
      acceptors = places.acceptors;
      acceptor_ids = λ id acceptor at. (is.acceptors id acceptor at).same_id;
      desks = places.desks;
      callers = places.callers;
      own = ap (λ (f : FlowView). length f.own) is.flow;
      parties = λ id desk caller at_desk at_caller.
          let fresh = (is.desks id desk at_desk).1 in
          let new = is.callers id caller at_caller in
          party_idle (era_at view id) (length view.marks) id desk caller (queue_at view.flow id) fresh.same_id fresh.none_open (none_under_way view.flow id is.flow) (omega (arith, ap (λ (c : CallerView). c.number) new))
          (λ key ready h. absurd (contains_none (subst (λ (l : List (List ℕ × Ready)). Contains l (key, ready)) fresh.no_promise h)))
          (λ call some. absurd (cc (some, ap (λ (c : CallerView). c.call) new))) (omega (arith, ap (λ (c : CallerView). reserved_in c.call) new));
      asking = subst (λ (c : Council). IsAskingSafe c.exchange (queue_at view.flow exchange_place)) (sym is.council) (none_under_way view.flow exchange_place is.flow);
      council = subst IsCouncilSafe (sym is.council) (no_listings, none_asks None);
      room = omega (arith, none_reserved view.callers is.callers, is.room, ap (λ (c : Council). reserved_by c) is.council);
    }

pub opens_are_safe : {S V : Type 0} (m : Meaning S V) → OpeningsAreSafe m
opens_are_safe m members view is places = opens_on_are_safe m members members [] view (opening_on_none m members view is) places
