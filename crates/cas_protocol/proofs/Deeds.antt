-- What an acceptor does goes on with the log lawfully, has its reason, and leaves what the log tells then.
use Rattle.std.proofs.Common.{◌≡◌, ℕ, List, ◌∷◌, Option, Some, refl, sym, ap, subst, ◌∙◌, inl, arith}
use Rattle.std.specs.Prelude.{◌==◌, max, unwrap_or}
use Rattle.cas_base.proofs.Bools.{if_true}
use Rattle.cas_ballot.specs.declared.ballot.Ballot.{Ballot}
use Rattle.cas_ballot.specs.Ballot.{zero_ballot, BallotAtMost, BallotLess}
use Rattle.cas_change.specs.declared.state.State.{State}
use Rattle.cas_slot.specs.declared.ages.Ages.{Ages}
use Rattle.cas_slot.specs.declared.message.Ask.TheVariants as ask
use Rattle.cas_slot.specs.declared.message.Request.{Request}
use Rattle.cas_slot.specs.declared.slot.Accepted.{Accepted}
use Rattle.cas_slot.specs.declared.slot.Slot.{Slot}
use Rattle.cas_slot.specs.Ages.{least_age}
use Rattle.cas_slot.specs.Contents.{Contents, kept_at, with_kept, without_kept, with_raised}
use Rattle.cas_slot.specs.Message.{tag_of}
use Rattle.cas_slot.specs.Rules.{key_of}
use Rattle.cas_slot.specs.Slot.{accepted_ballot}
use Rattle.cas_slot.specs.Table.{seen_at, accepted_at, promised_at}
use Rattle.cas_slot.proofs.AgeLemmas.{least_age-raised}
use Rattle.cas_record.specs.Logs.Happening.{Happening, Promised, Took, Dropped, Raised, marks_of}
use Rattle.cas_record.specs.Logs.Lawful.{Cluster, SlotTold, slot_told, promised_slot, MayPromise}
use Rattle.cas_record.specs.Legal.{HasProposal, HasFloor, IsAcked}
use Rattle.cas_record.specs.Logs.Orderly.{Orderly, WasAsked, IsRoundAsk, MayAsk, IsAgedOut, age_told}
use Rattle.cas_record.proofs.Logs.Lemmas.{part_of}
use Rattle.cas_record.proofs.Logs.Orders.{reason, above_dropped}
use Rattle.cas_record.proofs.PlaceLemmas.{stands_part}
use Rattle.cas_record.proofs.Logs.Slots.{IsAboveDropped, may_promise, may_take}
use Rattle.cas_record.proofs.Tests.{nat_is}
use Rattle.cas_protocol.specs.Acceptors.{told_of, LogTells, IsMadeState, IsAcceptedState}
use Rattle.cas_protocol.specs.Laws.{LogTellsKept}
use Rattle.cas_protocol.proofs.SlotChanges.{low_promise, low_accepted, promised_new, promised_again, promise_changes, take_changes, drop_changes, slots_put, slots_same, slots_dropped, states_put, states_dropped}

-- what a request of a round asks for is above what the acceptor has removed
dropped_below : (cluster : Cluster) {log : List Happening} {request : Request} (key : List ℕ) (ballot : Ballot) → Orderly cluster log → WasAsked log request.to request → IsRoundAsk request.ask
    → key_of request.ask ≡ key → tag_of request.ask ≡ ballot → IsAboveDropped log request.to key ballot
dropped_below cluster {log} {request} key ballot orderly was round k t =
    subst (λ x. IsAboveDropped log request.to x ballot) k (subst (IsAboveDropped log request.to (key_of request.ask)) t (above_dropped cluster orderly was round))

-- ---- a promise
pub promises : (cluster : Cluster) {log : List Happening} (request : Request) (old new : Contents) (key : List ℕ) (ballot : Ballot) (accepted : Option Accepted) → request.ask ≡ ask.Prepare key ballot
    → LogTellsKept cluster log request.to old → WasAsked log request.to request → accepted ≡ accepted_at old key → BallotAtMost (seen_at old key) ballot
    → LogTells (Promised request.to key ballot (accepted_ballot accepted) ∷ log) request.to new
    → LogTellsKept cluster (Promised request.to key ballot (accepted_ballot accepted) ∷ log) request.to new
promises cluster {log} request old new key ballot accepted is on was same low tells =
    let slot = kept_at old key in
    let told : slot_told log request.to key ≡ told_of slot = on.tells.slots key in
    let round : IsRoundAsk request.ask = subst IsRoundAsk (sym is) tt in
    let may : MayPromise log request.to key ballot (slot_told log request.to key).accepted =
    may_promise cluster log request.to key ballot on.lawful (dropped_below cluster key ballot on.orderly was round (ap key_of is) (ap tag_of is))
    (subst (λ (s : SlotTold). BallotAtMost s.promise ballot) (sym told) (low_promise slot ballot low))
    (subst (λ (s : SlotTold). BallotAtMost s.accepted ballot) (sym told) (low_accepted slot ballot low)) in
    let told_is : (slot_told log request.to key).accepted ≡ accepted_ballot accepted = ap (λ (s : SlotTold). s.accepted) told ∙ ap accepted_ballot (sym same) in
    record {
      lawful = (on.lawful, subst (MayPromise log request.to key ballot) told_is may);
      orderly = (on.orderly, record { request = request; was_asked = was; is = is; slot = sym told_is });
      tells = tells;
    }

-- what the log tells after a promise: of a slot that had just seen the ballot, and of one that had not
pub tells_again : {log : List Happening} (id : ℕ) (old : Contents) (key : List ℕ) (ballot told : Ballot) → LogTells log id old → seen_at old key ≡ ballot → LogTells (Promised id key ballot told ∷ log) id old
tells_again {log} id old key ballot told tells same = record {
  slots = slots_same old (promise_changes log id key ballot told) (ap (λ s. promised_slot s ballot) (tells.slots key) ∙ promised_again (kept_at old key) ballot same) tells.slots;
  ages = tells.ages;
  states = tells.states;
}

pub tells_promise : {log : List Happening} (id : ℕ) (old : Contents) (key : List ℕ) (ballot told : Ballot) (accepted : Option Accepted) → LogTells log id old → BallotLess (seen_at old key) ballot → accepted ≡ accepted_at old key
    → LogTells (Promised id key ballot told ∷ log) id (with_kept old key (record { promise = ballot; accepted = accepted }))
tells_promise {log} id old key ballot told accepted tells less same = record {
  slots = slots_put old (record { promise = ballot; accepted = accepted }) (promise_changes log id key ballot told)
      (ap (λ s. promised_slot s ballot) (tells.slots key) ∙ promised_new (kept_at old key) ballot less ∙ ap (λ (a : Option Accepted). told_of (Some (record { promise = ballot; accepted = a }))) (sym same))
      tells.slots;
  ages = tells.ages;
  states = states_put old key (record { promise = ballot; accepted = accepted }) (IsAcceptedState (marks_of log)) (subst (IsAcceptedState (marks_of log) key) (sym same) (tells.states key)) tells.states;
}

-- ---- an acceptance
pub takes : (cluster : Cluster) {log : List Happening} (request : Request) (old : Contents) (key : List ℕ) (ballot : Ballot) (era : ℕ) (rides : Option Ballot) (state : State)
    → request.ask ≡ ask.Accept key ballot era rides state → LogTellsKept cluster log request.to old → WasAsked log request.to request → BallotAtMost (seen_at old key) ballot
    → IsMadeState (marks_of log) key ballot era state
    → LogTellsKept cluster (Took request.to key ballot (unwrap_or rides zero_ballot) ∷ log) request.to
    (with_kept old key (record { promise = unwrap_or rides zero_ballot; accepted = Some (record { ballot = ballot; era = era; state = state }) }))
takes cluster {log} request old key ballot era rides state is on was low made =
    let slot = kept_at old key in
    let new_slot : Slot = record { promise = unwrap_or rides zero_ballot; accepted = Some (record { ballot = ballot; era = era; state = state }) } in
    let told : slot_told log request.to key ≡ told_of slot = on.tells.slots key in
    let round : IsRoundAsk request.ask = subst IsRoundAsk (sym is) tt in
    let may_ask : MayAsk cluster was.asked.older request request.ask = reason cluster on.orderly was.asked.at in
    let accept : MayAsk cluster was.asked.older request (ask.Accept key ballot era rides state) = subst (MayAsk cluster was.asked.older request) is may_ask in
    let proposed : HasProposal key ballot (marks_of log) = record { proposal = made.proposal; stands = made.stands; same_key = made.same_key; same_ballot = made.same_ballot } in
    record {
      lawful = (
        on.lawful,
        may_take cluster log request.to key ballot on.lawful (dropped_below cluster key ballot on.orderly was round (ap key_of is) (ap tag_of is)) (inl proposed)
            (subst (λ (s : SlotTold). BallotAtMost s.promise ballot) (sym told) (low_promise slot ballot low))
            (subst (λ (s : SlotTold). BallotAtMost s.accepted ballot) (sym told) (low_accepted slot ballot low)),
      );
      orderly = (on.orderly, inl (record { request = request; was_asked = was; era = era; rides = rides; state = state; is = is; ride_is = refl }));
      tells = record {
        slots = slots_put old new_slot (take_changes log request.to key ballot (unwrap_or rides zero_ballot)) refl on.tells.slots;
        ages = on.tells.ages;
        states = states_put old key new_slot (IsAcceptedState (marks_of log)) (inl made) on.tells.states;
      };
    }

-- ---- least ages
pub own_age : (id proposer : ℕ) (least : Ages) (log : List Happening) → age_told (Raised id least ∷ log) id proposer ≡ max (least_age least proposer) (age_told log id proposer)
own_age id proposer least log = if_true (id == id) _ _ (nat_is {a = id} refl)

pub raises : (cluster : Cluster) {log : List Happening} (id : ℕ) (old : Contents) (least : Ages) → LogTellsKept cluster log id old → LogTellsKept cluster (Raised id least ∷ log) id (with_raised old least)
raises cluster {log} id old least on = record {
  lawful = (on.lawful, tt);
  orderly = (on.orderly, tt);
  tells = record {
    slots = on.tells.slots;
    ages = λ proposer known. omega (arith, own_age id proposer least log, least_age-raised old.ages least proposer known, on.tells.ages proposer known);
    states = on.tells.states;
  };
}

-- ---- a removal
pub drops : (cluster : Cluster) {log : List Happening} (request : Request) (old : Contents) (key : List ℕ) (tomb : Ballot) → request.ask ≡ ask.Remove key tomb
    → LogTellsKept cluster log request.to old → WasAsked log request.to request → accepted_ballot (accepted_at old key) ≡ tomb → BallotAtMost (promised_at old key) tomb
    → LogTellsKept cluster (Dropped request.to key tomb ∷ log) request.to (without_kept old key)
drops cluster {log} request old key tomb is on was holds promise =
    let told : slot_told log request.to key ≡ told_of (kept_at old key) = on.tells.slots key in
    let may_ask : MayAsk cluster was.asked.older request request.ask = reason cluster on.orderly was.asked.at in
    let remove : HasFloor key tomb (marks_of was.asked.older) × IsAcked key tomb (marks_of was.asked.older) × IsAgedOut was.asked.older request.to key tomb = subst (MayAsk cluster was.asked.older request) is may_ask in
    record {
      lawful = (
        on.lawful,
        record {
          state = remove.0.state;
          floor = stands_part remove.0.stands (part_of was.asked.at);
          holds = ap (λ (s : SlotTold). s.accepted) told ∙ holds;
          promise = subst (λ (s : SlotTold). BallotAtMost s.promise tomb) (sym told) promise;
        },
      );
      orderly = (on.orderly, record { request = request; was_asked = was; is = is });
      tells = record {
        slots = slots_dropped old (drop_changes log request.to key tomb) on.tells.slots;
        ages = on.tells.ages;
        states = states_dropped old key (IsAcceptedState (marks_of log)) tt on.tells.states;
      };
    }
