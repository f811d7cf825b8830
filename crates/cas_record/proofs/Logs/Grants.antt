-- What was promised, and what rode along, is granted: it was drawn, and so its proposer was in its era before.
use Rattle.std.proofs.Common.{◌≡◌, ℕ, List, Option, None, Some, sym, subst}
use Rattle.std.specs.Prelude.{IfSome, unwrap_or}
use mathlib.Core.Logic.{inl, inr}
use Rattle.cas_ballot.specs.declared.ballot.Ballot.{Ballot}
use Rattle.cas_ballot.specs.Ballot.{zero_ballot, BallotAtMost}
use Rattle.cas_slot.specs.declared.message.Ask.TheVariants as ask
use Rattle.cas_record.specs.declared.mark.Proposal.{Proposal}
use Rattle.cas_record.specs.Places.{At, Stands}
use Rattle.cas_record.specs.Logs.Happening.{Happening, Promised, Took, Drew}
use Rattle.cas_record.specs.Logs.Lawful.{Cluster, IsIn, Granted, by_promise, by_ride}
use Rattle.cas_record.specs.Logs.Orderly.{MayDraw, MayAsk, MayAskFor, MayRide, MayPromiseBy, Orderly}
use Rattle.cas_record.proofs.PlaceLemmas.{deeper, stands_deeper}
use Rattle.cas_record.proofs.Logs.Orders.{reason, orderly_older, drawn_once}

in_deeper : {happening : Happening} {older log : List Happening} {proposer era : ℕ} → IsIn older proposer era → At happening older log → IsIn log proposer era
in_deeper is_in at = elim is_in [ inl first ↦ inl first | inr entered ↦ inr (stands_deeper entered at) ]

-- who drew a ballot was in its era before, also where the draw stands in a part
drawn_in : (cluster : Cluster) {happening : Happening} {log older : List Happening} {ballot : Ballot} {key k : List ℕ} {era e : ℕ} → Orderly cluster log → Stands (Drew ballot key era) log
    → At happening older log → Stands (Drew ballot k e) older → IsIn older ballot.proposer era
drawn_in cluster {older = older} {ballot = ballot} {k = k} {e = e} orderly drawn at there =
    let same = drawn_once cluster orderly drawn (stands_deeper there at) in
    let may : MayDraw cluster there.older ballot k e = reason cluster (orderly_older cluster orderly at) there.at in
    subst (λ (x : ℕ). IsIn older ballot.proposer x) (sym same.1) (in_deeper may.is_in there.at)

pub granted_promise : (cluster : Cluster) {log : List Happening} {acceptor : ℕ} (p : Proposal) (told : Ballot) → Orderly cluster log → Stands (Drew p.ballot p.key p.era) log
    → Stands (Promised acceptor p.key p.ballot told) log → BallotAtMost told p.read → Granted log acceptor p
granted_promise cluster {acceptor = acceptor} p told orderly drawn promised low =
    let by : MayPromiseBy promised.older acceptor p.key p.ballot told = reason cluster orderly promised.at in
    let asked = by.was_asked.asked in
    let may : MayAsk cluster asked.older by.request by.request.ask = reason cluster orderly (deeper asked.at promised.at) in
    let ask_for : MayAskFor cluster asked.older by.request p.key p.ballot = subst (MayAsk cluster asked.older by.request) by.is may in
    by_promise told promised low (drawn_in cluster orderly drawn promised.at (stands_deeper ask_for.drawn asked.at))

rode : (cluster : Cluster) (log : List Happening) (key : List ℕ) (ballot ride : Ballot) (rides : Option Ballot) → (ride ≡ zero_ballot → ⊥) → ride ≡ unwrap_or rides zero_ballot
    → IfSome rides (MayRide log key ballot) → MayRide log key ballot ride
rode cluster log key ballot ride None some is may = absurd (some is)
rode cluster log key ballot ride (Some other) some is may = subst (MayRide log key ballot) (sym is) may

pub granted_ride : (cluster : Cluster) {log : List Happening} {acceptor : ℕ} (p : Proposal) → Orderly cluster log → Stands (Drew p.ballot p.key p.era) log → (p.ballot ≡ zero_ballot → ⊥)
    → Stands (Took acceptor p.key p.read p.ballot) log → Granted log acceptor p
granted_ride cluster {acceptor = acceptor} p orderly drawn some took = elim (reason cluster orderly took.at) [
  | inl by ↦
      let asked = by.was_asked.asked in
      let may : MayAsk cluster asked.older by.request by.request.ask = reason cluster orderly (deeper asked.at took.at) in
      let accept : MayAsk cluster asked.older by.request (ask.Accept p.key p.read by.era by.rides by.state) = subst (MayAsk cluster asked.older by.request) by.is may in
      let ride = rode cluster asked.older p.key p.read p.ballot by.rides some by.ride_is accept.2 in
      by_ride took (drawn_in cluster orderly drawn took.at (stands_deeper ride.drawn asked.at))
  | inr first ↦ absurd (some first.no_ride)
]
