-- What a proposer's replies tell of the log: who promised and what was read, and who accepted.
use Rattle.std.proofs.Common.{◌≡◌, ℕ, true, List, Option, refl, sym, ap, subst, ◌∙◌}
use Rattle.std.specs.Ordering.{is_eq}
use Rattle.cas_base.proofs.Bools.{and_left, and_right}
use Rattle.cas_ballot.specs.declared.ballot.Ballot.{Ballot}
use Rattle.cas_ballot.specs.Ballot.{ballot_cmp, BallotAtMost}
use Rattle.cas_ballot.specs.Members.{has_member}
use Rattle.cas_change.specs.declared.state.State.{State}
use Rattle.cas_slot.specs.declared.message.Ask.{Ask}
use Rattle.cas_slot.specs.declared.message.Ask.TheVariants as ask
use Rattle.cas_slot.specs.declared.message.Request.{Request}
use Rattle.cas_slot.specs.declared.message.Reply.{Reply}
use Rattle.cas_slot.specs.declared.message.Tell.{Tell}
use Rattle.cas_slot.specs.declared.message.Tell.TheVariants as tell
use Rattle.cas_slot.specs.declared.slot.Accepted.{Accepted}
use Rattle.cas_slot.specs.Message.{phase_of, tag_of}
use Rattle.cas_slot.specs.Slot.{accepted_ballot}
use Rattle.cas_round.specs.Replies.{is_prepare, is_accept, is_heard, is_promise, is_acceptance}
use Rattle.cas_record.specs.declared.mark.Mark.TheVariants.{Voted}
use Rattle.cas_record.specs.Logs.Happening.{Happening, Asked, Promised, Drew, marks_of}
use Rattle.cas_record.specs.Logs.Lawful.{Cluster}
use Rattle.cas_record.specs.Logs.Orderly.{Orderly, MayAsk, MayAskFor, MayReply, IsTold}
use Rattle.cas_record.specs.Places.{Stands}
use Rattle.cas_record.proofs.Logs.Lemmas.{part_of}
use Rattle.cas_record.proofs.Logs.Orders.{reason, drawn_once}
use Rattle.cas_record.proofs.PlaceLemmas.{stands_deeper, stands_part}
use Rattle.cas_record.proofs.Tests.{ballot_same}
use Rattle.cas_protocol.specs.Acceptors.{IsTellState, IsAcceptedState}
use Rattle.cas_protocol.specs.Proposers.{IsReplyTrue}

-- ---- a reply that is heard
-- what is asked in a prepare phase is a prepare, with the ballot as its tag
pub record IsPrepareAsk (question : Ask) (ballot : Ballot) : Type 0 where
  pub key : List ℕ
  pub is : question ≡ ask.Prepare key ballot

prepare_asked : (question : Ask) (ballot : Ballot) → is_prepare (phase_of question) ≡ true → tag_of question ≡ ballot → IsPrepareAsk question ballot
prepare_asked (ask.Prepare key b) ballot phase_is tag_is = record { key = key; is = ap (ask.Prepare key) tag_is }
prepare_asked other ballot phase_is tag_is = absurd (cc)

pub record IsAcceptAsk (question : Ask) (ballot : Ballot) : Type 0 where
  pub key : List ℕ
  pub era : ℕ
  pub ride : Option Ballot
  pub state : State
  pub is : question ≡ ask.Accept key ballot era ride state

accept_asked : (question : Ask) (ballot : Ballot) → is_accept (phase_of question) ≡ true → tag_of question ≡ ballot → IsAcceptAsk question ballot
accept_asked (ask.Accept key b era ride state) ballot phase_is tag_is = record { key = key; era = era; ride = ride; state = state; is = ap (λ x. ask.Accept key x era ride state) tag_is }
accept_asked other ballot phase_is tag_is = absurd (cc)

-- a tell that promises
pub record IsPromiseTell (answer : Tell) : Type 0 where
  pub accepted : Option Accepted
  pub is : answer ≡ tell.Promised accepted

pub promise_told : (answer : Tell) → is_promise answer ≡ true → IsPromiseTell answer
promise_told (tell.Promised accepted) e = record { accepted = accepted; is = refl }
promise_told other e = absurd (cc)

pub acceptance_told : (answer : Tell) → is_acceptance answer ≡ true → answer ≡ tell.Accepted
acceptance_told tell.Accepted e = refl
acceptance_told other e = absurd (cc)

-- ---- what a reply of the round tells
-- the acceptor promised the key's ballot, and told this
pub record HasPromised (log : List Happening) (key : List ℕ) (ballot : Ballot) (reply : Reply) (accepted : Option Accepted) : Type 0 where
  pub promised : Stands (Promised reply.from key ballot (accepted_ballot accepted)) log
  pub low : BallotAtMost (accepted_ballot accepted) ballot
  pub state : IsAcceptedState (marks_of log) key accepted

-- of a request that was asked for a ballot that was drawn for the key, the key is that one
same_key : (cluster : Cluster) {log : List Happening} {request : Request} {key k : List ℕ} {ballot : Ballot} {era : ℕ} → Orderly cluster log → Stands (Drew ballot key era) log
    → (asked : Stands (Asked request) log) → MayAskFor cluster asked.older request k ballot → k ≡ key
same_key cluster orderly drawn asked may = (drawn_once cluster orderly (stands_deeper may.drawn asked.at) drawn).0

-- the request to which a reply of the prepare phase is the answer
record WasPrepareAsked (cluster : Cluster) (log : List Happening) (request : Request) (ballot : Ballot) : Type 0 where
  key : List ℕ
  is : request.ask ≡ ask.Prepare key ballot
  asked : Stands (Asked request) log
  may : MayAskFor cluster asked.older request key ballot

was_prepare_asked : (cluster : Cluster) {log : List Happening} (ballot : Ballot) (reply : Reply) → Orderly cluster log → (true_ : IsReplyTrue log reply) → is_heard is_prepare ballot reply ≡ true → WasPrepareAsked cluster log true_.request ballot
was_prepare_asked cluster {log} ballot reply orderly true_ heard_ =
    let request = true_.request in
    let may : MayReply true_.replied.older request reply = reason cluster orderly true_.replied.at in
    let asked : Stands (Asked request) log = stands_deeper may.asked true_.replied.at in
    let may_ask : MayAsk cluster asked.older request request.ask = reason cluster orderly asked.at in
    let is_phase : is_prepare (phase_of request.ask) ≡ true = ap is_prepare (sym may.phase) ∙ and_left (is_prepare reply.phase) (is_eq (ballot_cmp reply.tag ballot)) heard_ in
    let is_tag : tag_of request.ask ≡ ballot = sym may.tag ∙ ballot_same {a = reply.tag} {b = ballot} (and_right (is_prepare reply.phase) (is_eq (ballot_cmp reply.tag ballot)) heard_) in
    let prepare = prepare_asked request.ask ballot is_phase is_tag in
    record { key = prepare.key; is = prepare.is; asked = asked; may = subst (MayAsk cluster asked.older request) prepare.is may_ask }

-- who made the reply is a member of the era in which the ballot was drawn
pub member_heard : (cluster : Cluster) {log : List Happening} (key : List ℕ) (ballot : Ballot) (era : ℕ) (reply : Reply) → Orderly cluster log → Stands (Drew ballot key era) log
    → IsReplyTrue log reply → is_heard is_prepare ballot reply ≡ true → has_member (cluster.members era) reply.from ≡ true
member_heard cluster {log} key ballot era reply orderly drawn true_ heard_ =
    let may : MayReply true_.replied.older true_.request reply = reason cluster orderly true_.replied.at in
    let prepare = was_prepare_asked cluster ballot reply orderly true_ heard_ in
    let same_era : prepare.may.era ≡ era = (drawn_once cluster orderly (stands_deeper prepare.may.drawn prepare.asked.at) drawn).1 in
    subst (λ (e : ℕ). has_member (cluster.members e) reply.from ≡ true) same_era (subst (λ (a : ℕ). has_member (cluster.members prepare.may.era) a ≡ true) (sym may.from) prepare.may.member)

pub promise_heard : (cluster : Cluster) {log : List Happening} (key : List ℕ) (ballot : Ballot) (era : ℕ) (reply : Reply) (accepted : Option Accepted) → Orderly cluster log → Stands (Drew ballot key era) log
    → IsReplyTrue log reply → is_heard is_prepare ballot reply ≡ true → reply.tell ≡ tell.Promised accepted → HasPromised log key ballot reply accepted
promise_heard cluster {log} key ballot era reply accepted orderly drawn true_ heard_ tells =
    let request = true_.request in
    let may : MayReply true_.replied.older request reply = reason cluster orderly true_.replied.at in
    let prepare = was_prepare_asked cluster ballot reply orderly true_ heard_ in
    let key_is : prepare.key ≡ key = same_key cluster orderly drawn prepare.asked prepare.may in
    let question : request.ask ≡ ask.Prepare key ballot = prepare.is ∙ ap (λ k. ask.Prepare k ballot) key_is in
    let told : IsTold true_.replied.older request.to (ask.Prepare key ballot) (tell.Promised accepted) = subst (λ q. IsTold true_.replied.older request.to q (tell.Promised accepted)) question (subst (IsTold true_.replied.older request.to request.ask) tells may.told) in
    record {
      promised = subst (λ a. Stands (Promised a key ballot (accepted_ballot accepted)) log) (sym may.from) (stands_deeper told.0 true_.replied.at);
      low = told.1;
      state = subst (λ q. IsTellState (marks_of log) q (tell.Promised accepted)) question (subst (IsTellState (marks_of log) request.ask) tells true_.state);
    }

pub vote_heard : (cluster : Cluster) {log : List Happening} (key : List ℕ) (ballot : Ballot) (era : ℕ) (reply : Reply) → Orderly cluster log → Stands (Drew ballot key era) log
    → IsReplyTrue log reply → is_heard is_accept ballot reply ≡ true → reply.tell ≡ tell.Accepted → Stands (Voted reply.from key ballot) (marks_of log)
vote_heard cluster {log} key ballot era reply orderly drawn true_ heard_ tells =
    let request = true_.request in
    let may : MayReply true_.replied.older request reply = reason cluster orderly true_.replied.at in
    let asked : Stands (Asked request) log = stands_deeper may.asked true_.replied.at in
    let may_ask : MayAsk cluster asked.older request request.ask = reason cluster orderly asked.at in
    let is_phase : is_accept (phase_of request.ask) ≡ true = ap is_accept (sym may.phase) ∙ and_left (is_accept reply.phase) (is_eq (ballot_cmp reply.tag ballot)) heard_ in
    let is_tag : tag_of request.ask ≡ ballot = sym may.tag ∙ ballot_same {a = reply.tag} {b = ballot} (and_right (is_accept reply.phase) (is_eq (ballot_cmp reply.tag ballot)) heard_) in
    let accept = accept_asked request.ask ballot is_phase is_tag in
    let ask_for : MayAsk cluster asked.older request (ask.Accept accept.key ballot accept.era accept.ride accept.state) = subst (MayAsk cluster asked.older request) accept.is may_ask in
    let key_is : accept.key ≡ key = same_key cluster orderly drawn asked ask_for.0 in
    let question : request.ask ≡ ask.Accept key ballot accept.era accept.ride accept.state = accept.is ∙ ap (λ k. ask.Accept k ballot accept.era accept.ride accept.state) key_is in
    let told : IsTold true_.replied.older request.to (ask.Accept key ballot accept.era accept.ride accept.state) tell.Accepted = subst (λ q. IsTold true_.replied.older request.to q tell.Accepted) question (subst (IsTold true_.replied.older request.to request.ask) tells may.told) in
    subst (λ a. Stands (Voted a key ballot) (marks_of log)) (sym may.from) (stands_part told (part_of true_.replied.at))
