-- When eras are added, nothing that happened becomes unlawful: a log stays lawful and orderly in a cluster with more
-- members and quorums.
use Rattle.std.proofs.Common.{ℕ, ◌≤◌, List, [], ◌∷◌, sym, subst}
use mathlib.Core.Logic.{inl, inr}
use Rattle.cas_ballot.specs.declared.ballot.Ballot.{Ballot}
use Rattle.cas_slot.specs.declared.message.Ask.{Ask}
use Rattle.cas_slot.specs.declared.message.Ask.TheVariants as ask
use Rattle.cas_slot.specs.declared.message.Request.{Request}
use Rattle.cas_record.specs.declared.mark.Mark.{Mark}
use Rattle.cas_record.specs.declared.mark.Mark.TheVariants.{Proposed, Acked}
use Rattle.cas_record.specs.declared.mark.Proposal.{Proposal}
use Rattle.cas_record.specs.declared.mark.Acknowledgment.{Acknowledgment}
use Rattle.cas_record.specs.Logs.Happening.{Happening, Marked, Asked, Took, Entered, Drew}
use Rattle.cas_record.specs.Logs.Lawful.{Cluster, IsWidened, AllEntered, IsRescanned, MayLeaveEra, MayPropose, MayAck, MayMark, May, Lawful}
use Rattle.cas_record.specs.Logs.Orderly.{MayDraw, MayAskFor, MayAsk, HasReason, Orderly}

-- ---- lawful
all_more : {old new : Cluster} → IsWidened old new → {era : ℕ} {marks : List Mark} → AllEntered old era marks → AllEntered new era marks
all_more w entered proposer known = entered proposer (subst (λ (n : ℕ). proposer ≤ n) w.last_proposer known)

rescanned_more : {old new : Cluster} → IsWidened old new → {era : ℕ} {key : List ℕ} {marks : List Mark} → IsRescanned old era key marks → IsRescanned new era key marks
rescanned_more w r = record {
  proposal = r.proposal;
  older = r.older;
  proposed = r.proposed;
  same_key = r.same_key;
  same_era = r.same_era;
  entered = all_more w r.entered;
  acked = r.acked;
}

pub leave_more : {old new : Cluster} → IsWidened old new → {log : List Happening} {proposer left : ℕ} → MayLeaveEra old log proposer left → MayLeaveEra new log proposer left
leave_more w {proposer = proposer} may = record {
  known = subst (λ (n : ℕ). proposer ≤ n) (sym w.last_proposer) may.known;
  once = may.once;
  all_in = λ some. all_more w (may.all_in some);
  stones = λ {p} stands early. elim (may.stones stands early) [ inl rescanned ↦ inl (rescanned_more w rescanned) | inr collected ↦ inr collected ];
  openings = λ {key} {floor} opening some. elim (may.openings opening some) [ inl rescanned ↦ inl (rescanned_more w rescanned) | inr above ↦ inr above ];
}

propose_more : {old new : Cluster} → IsWidened old new → {log : List Happening} (p : Proposal) → MayPropose old log p → MayPropose new log p
propose_more w p may = record {
  first = may.first;
  above_read = may.above_read;
  read_stands = may.read_stands;
  above_floors = may.above_floors;
  quorum = w.prepares p.era p.prepared_by may.quorum;
  granted = may.granted;
  known = subst (λ (n : ℕ). p.ballot.proposer ≤ n) (sym w.last_proposer) may.known;
  is_in = may.is_in;
  not_beyond = may.not_beyond;
}

ack_more : {old new : Cluster} → IsWidened old new → {log : List Happening} (a : Acknowledgment) → MayAck old log a → MayAck new log a
ack_more w a may = record { votes = may.votes; quorum = w.accepts a.era a.by may.quorum }

mark_more : {old new : Cluster} → IsWidened old new → (log : List Happening) (mark : Mark) → MayMark old log mark → MayMark new log mark
mark_more w log (Proposed p) may = propose_more w p may
mark_more w log (Acked a) may = ack_more w a may
mark_more w log other may = may

next_more : {old new : Cluster} → IsWidened old new → (log : List Happening) (happening : Happening) → May old log happening → May new log happening
next_more w log (Marked mark) may = mark_more w log mark may
next_more w log (Entered proposer era) may = record { left = may.left; next = may.next; may_leave = leave_more w may.may_leave }
next_more w log other may = may

pub lawful_more : {old new : Cluster} → IsWidened old new → (log : List Happening) → Lawful old log → Lawful new log
lawful_more w [] lawful = tt
lawful_more w (happening ∷ older) lawful = (lawful_more w older lawful.0, next_more w older happening lawful.1)

-- ---- orderly
draw_more : {old new : Cluster} → IsWidened old new → {log : List Happening} (ballot : Ballot) {key : List ℕ} {era : ℕ} → MayDraw old log ballot key era → MayDraw new log ballot key era
draw_more w ballot may = record {
  known = subst (λ (n : ℕ). ballot.proposer ≤ n) (sym w.last_proposer) may.known;
  some = may.some;
  fresh = may.fresh;
  is_in = may.is_in;
  above = may.above;
}

ask_for_more : {old new : Cluster} → IsWidened old new → {log : List Happening} (request : Request) {key : List ℕ} {ballot : Ballot} → MayAskFor old log request key ballot → MayAskFor new log request key ballot
ask_for_more w request may = record {
  era = may.era;
  drawn = may.drawn;
  own = may.own;
  member = w.members may.era request.to may.member;
  above = may.above;
}

ask_more : {old new : Cluster} → IsWidened old new → (log : List Happening) (request : Request) (question : Ask) → MayAsk old log request question → MayAsk new log request question
ask_more w log request (ask.Prepare key ballot) may = ask_for_more w request may
ask_more w log request (ask.Accept key ballot era ride state) may = (ask_for_more w request may.0, may.1, may.2)
ask_more w log request (ask.List tag after) may = ask_for_more w request may
ask_more w log request (ask.Probe tag key) may = ask_for_more w request may
ask_more w log request other may = may

reason_more : {old new : Cluster} → IsWidened old new → (log : List Happening) (happening : Happening) → HasReason old log happening → HasReason new log happening
reason_more w log (Drew ballot key era) may = draw_more w ballot may
reason_more w log (Asked request) may = ask_more w log request request.ask may
reason_more w log (Took acceptor key ballot ride) may = elim may [
  | inl by ↦ inl by
  | inr first ↦ inr (record { first = first.first; member = w.members 0 acceptor first.member; opening = first.opening; no_ride = first.no_ride })
]
reason_more w log other may = may

pub orderly_more : {old new : Cluster} → IsWidened old new → (log : List Happening) → Orderly old log → Orderly new log
orderly_more w [] orderly = tt
orderly_more w (happening ∷ older) orderly = (orderly_more w older orderly.0, reason_more w older happening orderly.1)
