-- What an acceptor answers to requests for one key, of which it keeps nothing at first: it promises a ballot, and takes what is asked at
-- it.
use Rattle.std.proofs.Common.{◌≡◌, ◌≤◌, ℕ, Option, Some, None, refl, sym, ap, subst, ◌∙◌, inr, arith}
use Rattle.std.specs.Prelude.{IsSomeAnd}
use Rattle.std.specs.Cmp.Lexicographic.{slice_cmp}
use Rattle.std.specs.FinMap as map
use Rattle.std.specs.Ordering.{nat_cmp}
use Rattle.cas_ballot.specs.declared.ballot.Ballot.{Ballot}
use Rattle.cas_ballot.specs.Ballot.{zero_ballot, BallotAtMost, BallotLess}
use Rattle.cas_change.specs.declared.state.State.{State}
use Rattle.cas_slot.specs.declared.message.Ask.TheVariants as ask
use Rattle.cas_slot.specs.declared.message.Request.{Request}
use Rattle.cas_slot.specs.declared.message.Reply.{Reply}
use Rattle.cas_slot.specs.declared.message.Tell.{Tell}
use Rattle.cas_slot.specs.declared.message.Tell.TheVariants as tell
use Rattle.cas_slot.specs.declared.slot.Slot.{Slot}
use Rattle.cas_slot.specs.Ages.{least_age}
use Rattle.cas_slot.specs.Contents.{Contents, nothing, no_ages, kept_at, with_kept}
use Rattle.cas_slot.specs.Message.{phase_of, tag_of}
use Rattle.cas_slot.specs.Slot.{accepted_of, seen_of}
use Rattle.cas_slot.specs.Slots.{no_slots, IsFullFor}
use Rattle.cas_slot.specs.Table.{Handles, IsReplyByTable}
use Rattle.cas_slot.proofs.SlotsLemmas.{slot_at-with_slot_same}
use Rattle.cas_record.specs.Logs.Witness.{key_a}

-- ---- what is kept
abbrev pub slot_promised : Ballot → Slot
slot_promised ballot = record { promise = ballot; accepted = None }

abbrev pub slot_accepted : Ballot → Ballot → State → Slot
slot_accepted ballot ride state = record { promise = ride; accepted = Some (record { ballot = ballot; era = 0; state = state }) }

abbrev pub promised : Ballot → Contents
promised ballot = with_kept nothing key_a (slot_promised ballot)

abbrev pub accepted : Ballot → Ballot → State → Contents
accepted ballot ride state = with_kept (promised ballot) key_a (slot_accepted ballot ride state)

pub none_kept : kept_at nothing key_a ≡ None
none_kept = map.get-empty (slice_cmp nat_cmp) key_a

promised_kept : (ballot : Ballot) → kept_at (promised ballot) key_a ≡ Some (slot_promised ballot)
promised_kept ballot = slot_at-with_slot_same no_slots key_a (slot_promised ballot)

pub accepted_kept : (ballot ride : Ballot) (state : State) → kept_at (accepted ballot ride state) key_a ≡ Some (slot_accepted ballot ride state)
accepted_kept ballot ride state = slot_at-with_slot_same (promised ballot).slots key_a (slot_accepted ballot ride state)

pub room : IsFullFor no_slots key_a → ⊥
room full = omega (arith, full.no_room, map.len-empty (slice_cmp nat_cmp) Slot)

not_new : {x : Slot} → Some x ≡ None → ⊥
not_new e = cc

-- ---- what is answered
abbrev pub reply_to : Request → Tell → Reply
reply_to request told = record { from = request.to; to = request.from; phase = phase_of request.ask; tag = tag_of request.ask; tell = told }

pub answered : {id : ℕ} {old new : Contents} (request : Request) (told : Tell) → request.to ≡ id → Handles old request told new → IsReplyByTable id old request (reply_to request told) new
answered request told same row = record { from = same; to = refl; phase = refl; tag = refl; row = row }

pub promises : (to from : ℕ) (ballot : Ballot) → least_age no_ages from ≤ 0 → BallotLess zero_ballot ballot
    → Handles nothing (record { to = to; from = from; age = 0; ask = ask.Prepare key_a ballot }) (tell.Promised None) (promised ballot)
promises to from ballot young above = (
  young,
  (
    ap accepted_of (sym none_kept),
    inr (subst (λ (s : Option Slot). BallotLess (seen_of s) ballot) (sym none_kept) above, room, refl),
  ),
)

pub takes : (to from : ℕ) (ballot ride : Ballot) (state : State) → least_age no_ages from ≤ 0 → BallotAtMost (seen_of (Some (slot_promised ballot))) ballot
    → Handles (promised ballot) (record { to = to; from = from; age = 0; ask = ask.Accept key_a ballot 0 (Some ride) state }) tell.Accepted (accepted ballot ride state)
takes to from ballot ride state young above = (
  young,
  inr (
    (λ again. absurd (subst (λ (s : Option Slot). IsSomeAnd (accepted_of s) (λ a. a.ballot ≡ ballot)) (promised_kept ballot) again)),
    subst (λ (s : Option Slot). BallotAtMost (seen_of s) ballot) (sym (promised_kept ballot)) above,
    (λ full. not_new (sym (promised_kept ballot) ∙ full.new_key)),
    refl,
  ),
)
