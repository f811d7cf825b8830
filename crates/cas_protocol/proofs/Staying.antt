-- What stays as the log tells it: what others do changes nothing, a stop leaves one of two, and what was taken stays.
use Rattle.std.proofs.Common.{◌≡◌, ℕ, ◌≤◌, List, [], ◌∷◌, ◌++◌, Ok, refl, sym, ap, subst, ◌∙◌, inl, inr, arith}
use Rattle.std.specs.Prelude.{◌⊎◌, ◌==◌}
use Rattle.cas_base.proofs.Bools.{if_false, false_of_not}
use Rattle.cas_ballot.specs.Ballot.{BallotAtMost}
use Rattle.cas_ballot.proofs.BallotLemmas.{less_not_at_most}
use Rattle.cas_slot.specs.declared.message.Request.{Request}
use Rattle.cas_slot.specs.declared.message.Tell.{Tell}
use Rattle.cas_slot.specs.declared.message.Tell.TheVariants as tell
use Rattle.cas_slot.specs.Ages.{least_age}
use Rattle.cas_slot.specs.Contents.{Contents, kept_at}
use Rattle.cas_slot.specs.Shelf.{Left}
use Rattle.cas_slot.specs.Slot.{accepted_of}
use Rattle.cas_slot.specs.Table.{Handles}
use Rattle.cas_acceptor.specs.Acceptor.{LeavesByTable}
use Rattle.cas_record.specs.Logs.Happening.{Happening, Asked, Promised, Took, Dropped, Raised, marks_of}
use Rattle.cas_record.specs.Logs.Lawful.{Cluster, Lawful, SlotTold, slot_told, is_slot}
use Rattle.cas_record.specs.Logs.Orderly.{WasAsked, age_told}
use Rattle.cas_record.specs.Places.{Stands, past}
use Rattle.cas_record.proofs.Logs.Slots.{slot_bounds}
use Rattle.cas_record.proofs.Tests.{slot_same, nat_same}
use Rattle.cas_protocol.specs.Acceptors.{LogTells, IsElsewhere, IsLeft, IsAskState, events_of}
use Rattle.cas_protocol.specs.Laws.{LogTellsKept, OthersChangeNothing, AcceptorsStopLawfully, WhatWasTakenStays}
use Rattle.cas_protocol.proofs.Answered.{events_kept, events_marks}
use Rattle.cas_protocol.proofs.Growing.{accepted_grows, ask_grows}

-- ---- what others do
-- the slots and the ages that are told of an acceptor, when another does something
slot_elsewhere : (h : Happening) (log : List Happening) (id : ℕ) (key : List ℕ) → IsElsewhere id h → slot_told (h ∷ log) id key ≡ slot_told log id key
slot_elsewhere (Promised a k b t) log id key other = if_false (is_slot id key a k) _ _ (false_of_not _ (λ e. other (slot_same {acceptor = id} {a = a} {key = key} {k = k} e).0))
slot_elsewhere (Took a k b r) log id key other = if_false (is_slot id key a k) _ _ (false_of_not _ (λ e. other (slot_same {acceptor = id} {a = a} {key = key} {k = k} e).0))
slot_elsewhere (Dropped a k t) log id key other = if_false (is_slot id key a k) _ _ (false_of_not _ (λ e. other (slot_same {acceptor = id} {a = a} {key = key} {k = k} e).0))
slot_elsewhere h log id key other = refl

age_elsewhere : (h : Happening) (log : List Happening) (id proposer : ℕ) → IsElsewhere id h → age_told (h ∷ log) id proposer ≡ age_told log id proposer
age_elsewhere (Raised a least) log id proposer other = if_false (a == id) _ _ (false_of_not _ (λ e. other (nat_same {a = a} {b = id} e)))
age_elsewhere h log id proposer other = refl

pub tells_still : (cluster : Cluster) (h : Happening) (log : List Happening) (id : ℕ) (kept : Contents) → Lawful cluster (h ∷ log) → IsElsewhere id h → LogTells log id kept → LogTells (h ∷ log) id kept
tells_still cluster h log id kept lawful other tells = record {
  slots = λ key. slot_elsewhere h log id key other ∙ tells.slots key;
  ages = λ proposer known. omega (arith, age_elsewhere h log id proposer other, tells.ages proposer known);
  states = λ key. accepted_grows cluster h log key (accepted_of (kept_at kept key)) lawful (tells.states key);
}

asked_still : (h : Happening) (log : List Happening) (id : ℕ) (request : Request) → IsElsewhere id h → WasAsked log id request → WasAsked (h ∷ log) id request
asked_still h log id request other was = record {
  asked = record { older = was.asked.older; at = past was.asked.at };
  to = was.to;
  age = omega (arith, age_elsewhere h log id request.from other, was.age);
}

pub left_still : (cluster : Cluster) (h : Happening) (log : List Happening) (id : ℕ) (kept : Contents) (left : Left) → Lawful cluster (h ∷ log) → IsElsewhere id h → IsLeft log id kept left → IsLeft (h ∷ log) id kept left
left_still cluster h log id kept left lawful other (inl same) = inl same
left_still cluster h log id kept left lawful other (inr half) = inr (
  half.0,
  record {
    request = half.1.request;
    answer = half.1.answer;
    was_asked = asked_still h log id half.1.request other half.1.was_asked;
    known = half.1.known;
    state = ask_grows cluster h log half.1.request.ask lawful half.1.state;
    row = half.1.row;
  },
  half.2,
)

pub others : OthersChangeNothing
others cluster h log id lawful other = (
  λ kept tells. tells_still cluster h log id kept lawful other tells,
  λ kept left was. left_still cluster h log id kept left lawful other was,
)

-- ---- a stop
-- an answer that is told to a request that is not too old
asked_row : (kept : Contents) (request : Request) (answer : Tell) (new : Contents) → Handles kept request answer new → (new ≡ kept) ⊎ (least_age kept.ages request.from ≤ request.age)
asked_row kept request (tell.Aged least) new row = inl row.2
asked_row kept request (tell.Promised accepted) new row = inr row.0
asked_row kept request tell.Accepted new row = inr row.0
asked_row kept request (tell.Met seen) new row = inr row.0
asked_row kept request tell.Full new row = inr row.0
asked_row kept request tell.AgesSet new row = inr row.0
asked_row kept request tell.Removed new row = inr row.0
asked_row kept request tell.Kept new row = inr row.0
asked_row kept request (tell.Listed after keys more) new row = inr row.0
asked_row kept request (tell.Probed promise accepted) new row = inr row.0

pub stops : (cluster : Cluster) (log : List Happening) (id : ℕ) (kept : Contents) → LogTellsKept cluster log id kept → (request : Request) (left : Left) → Stands (Asked request) log → request.to ≡ id
    → IsAskState (marks_of log) request.ask → request.from ≤ 16 → LeavesByTable kept request left → IsLeft log id kept left
stops cluster log id kept on request left asked to state known (inl same) = inl same
stops cluster log id kept on request left asked to state known (inr row) = elim (asked_row kept request row.0 row.1 row.2) [
  | inl same ↦ inl (row.3 ∙ ap Ok same)
  | inr old_enough ↦ inr (
    row.1,
    record {
      request = request;
      answer = row.0;
      was_asked = record { asked = asked; to = to; age = omega (arith, on.tells.ages request.from known, old_enough) };
      known = known;
      state = state;
      row = row.2;
    },
    row.3,
  )
]

pub left_is : (a b : Contents) → ◌≡◌ {A = Left} (Ok a) (Ok b) → a ≡ b
left_is a b e = cc

pub goes_on_from : (cluster : Cluster) (log : List Happening) (id : ℕ) (kept : Contents) → LogTellsKept cluster log id kept → (new : Contents) → IsLeft log id kept (Ok new)
    → (done : List Happening) × LogTellsKept cluster (done ++ log) id new × (marks_of (done ++ log) ≡ marks_of log)
goes_on_from cluster log id kept on new (inl same) = ([], subst (LogTellsKept cluster log id) (left_is kept new (sym same)) on, refl)
goes_on_from cluster log id kept on new (inr half) =
    let h = half.1 in
    let on_to : LogTellsKept cluster log h.request.to kept = subst (λ i. LogTellsKept cluster log i kept) (sym h.was_asked.to) on in
    let did = events_kept cluster h.request kept half.0 h.request.ask h.answer refl on_to h.was_asked.asked h.state h.known h.row in (
      events_of h.request.to kept h.request.ask h.answer,
      subst (λ i. LogTellsKept cluster (events_of h.request.to kept h.request.ask h.answer ++ log) i new) h.was_asked.to
          (subst (LogTellsKept cluster (events_of h.request.to kept h.request.ask h.answer ++ log) h.request.to) (left_is half.0 new (sym half.2)) did),
      events_marks h.request.to kept log h.request.ask h.answer,
    )

pub stop : AcceptorsStopLawfully
stop cluster log id kept on = (stops cluster log id kept on, goes_on_from cluster log id kept on)

-- ---- what was taken
pub taken : WhatWasTakenStays
taken cluster log id kept key ballot ride on took below =
    elim ((slot_bounds cluster log id key on.lawful).took ballot ride took) [
      | inl low ↦ subst (λ (s : SlotTold). BallotAtMost ballot s.accepted) (on.tells.slots key) low
      | inr dropped ↦ absurd (less_not_at_most (below dropped.tombstone dropped.stands) dropped.above)
    ]
