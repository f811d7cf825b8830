-- What follows from the reasons of happenings: a ballot is drawn once, ages only grow, and what an acceptor answers is
-- above the tombstones that it removed.
use Rattle.std.proofs.Common.{◌≡◌, ℕ, ◌<◌, ◌≤◌, max, Bool, true, false, cond, List, ◌∷◌, arith, refl, sym, ap, ◌∙◌, subst}
use Rattle.std.specs.Prelude.{◌==◌}
use mathlib.Core.Logic.{inl, inr}
use Rattle.cas_ballot.specs.declared.ballot.Ballot.{Ballot}
use Rattle.cas_ballot.specs.Ballot.{BallotLess}
use Rattle.cas_ballot.proofs.BallotLemmas.{at_most_or_less}
use Rattle.cas_slot.specs.declared.message.Ask.{Ask}
use Rattle.cas_slot.specs.declared.message.Ask.TheVariants as ask
use Rattle.cas_slot.specs.declared.message.Request.{Request}
use Rattle.cas_slot.specs.Ages.{least_age}
use Rattle.cas_slot.specs.Message.{tag_of}
use Rattle.cas_slot.specs.Rules.{key_of}
use Rattle.cas_record.specs.Places.{At, Stands, here, past}
use Rattle.cas_record.specs.declared.mark.Mark.TheVariants.{Floor}
use Rattle.cas_record.specs.Legal.{HasFloor, IsAcked}
use Rattle.cas_record.specs.Logs.Happening.{Happening, Asked, Dropped, Drew, Raised, marks_of}
use Rattle.cas_record.specs.Logs.Lawful.{Cluster}
use Rattle.cas_record.specs.Logs.Orderly.{age_told, MayDraw, IsRoundAsk, MayAskFor, IsAgedOut, MayAsk, WasAsked, MayDropBy, HasReason, Orderly}
use Rattle.cas_record.proofs.PlaceLemmas.{deeper, stands_at, stands_part, older_than, newer_than, at_one, order}
use Rattle.cas_record.proofs.Logs.Lemmas.{part_of}
use Rattle.cas_record.proofs.Logs.Slots.{IsAboveDropped}

pub reason : (cluster : Cluster) {happening : Happening} {older log : List Happening} → Orderly cluster log → At happening older log → HasReason cluster older happening
reason cluster orderly here = orderly.1
reason cluster orderly (past at) = reason cluster orderly.0 at

pub orderly_older : (cluster : Cluster) {happening : Happening} {older log : List Happening} → Orderly cluster log → At happening older log → Orderly cluster older
orderly_older cluster orderly here = orderly.0
orderly_older cluster orderly (past at) = orderly_older cluster orderly.0 at

-- ---- ballots
-- a ballot is drawn once
pub drawn_once : (cluster : Cluster) {log : List Happening} {ballot : Ballot} {key k : List ℕ} {era e : ℕ} → Orderly cluster log → Stands (Drew ballot key era) log → Stands (Drew ballot k e) log
    → (key ≡ k) × (era ≡ e)
drawn_once cluster {ballot = ballot} {key = key} {k = k} {era = era} {e = e} orderly first second = elim (order first.at second.at) [
  | older_than before ↦
      let may : MayDraw cluster second.older ballot k e = reason cluster orderly second.at in
      absurd (may.fresh key era (stands_at before))
  | newer_than after ↦
      let may : MayDraw cluster first.older ballot key era = reason cluster orderly first.at in
      absurd (may.fresh k e (stands_at after))
  | at_one same older_same ↦ (cc, cc)
]

-- ---- ages
age_step : (t : Bool) (x y : ℕ) → y ≤ cond t (max x y) y
age_step true x y = omega arith
age_step false x y = omega arith

age_more : (happening : Happening) (log : List Happening) (acceptor proposer : ℕ) → age_told log acceptor proposer ≤ age_told (happening ∷ log) acceptor proposer
age_more (Raised a least) log acceptor proposer = age_step (a == acceptor) (least_age least proposer) (age_told log acceptor proposer)
age_more other log acceptor proposer = omega arith

-- the age that an acceptor asks for only grows
pub age_later : {happening : Happening} {older : List Happening} (log : List Happening) (acceptor proposer : ℕ) → At happening older log → age_told older acceptor proposer ≤ age_told log acceptor proposer
age_later {happening} {older} log acceptor proposer here = age_more happening older acceptor proposer
age_later log acceptor proposer (past {y = y} {rest = rest} at) = omega (arith, age_later rest acceptor proposer at, age_more y rest acceptor proposer)

-- ---- requests
-- a request of a round is for a ballot that was drawn
pub round_asked : (cluster : Cluster) (log : List Happening) (request : Request) (question : Ask) → IsRoundAsk question → MayAsk cluster log request question
    → MayAskFor cluster log request (key_of question) (tag_of question)
round_asked cluster log request (ask.Prepare key ballot) round may = may
round_asked cluster log request (ask.Accept key ballot era ride state) round may = may.0
round_asked cluster log request other round may = absurd round

not_remove : (request other : Request) (key : List ℕ) (tomb : Ballot) → other.ask ≡ ask.Remove key tomb → IsRoundAsk request.ask → Asked other ≡ Asked request → ⊥
not_remove request other key tomb is round same =
    let same_request : other ≡ request = cc in
    subst IsRoundAsk (sym (ap (λ (r : Request). r.ask) same_request) ∙ is) round

-- once an acceptor was asked to remove the key's slot at a tombstone, what it may answer of a round of the key is above that
pub removed_above : (cluster : Cluster) {log older : List Happening} {acceptor : ℕ} {key : List ℕ} {tomb : Ballot} {request removal : Request} → Orderly cluster log → At (Asked removal) older log
    → removal.ask ≡ ask.Remove key tomb → removal.to ≡ acceptor → WasAsked log acceptor request → IsRoundAsk request.ask → key_of request.ask ≡ key → BallotLess tomb (tag_of request.ask)
removed_above cluster {log} {older} {acceptor} {key} {tomb} {request} {removal} orderly at is to was round same =
    let may : MayAsk cluster older removal removal.ask = reason cluster orderly at in
    let remove : HasFloor key tomb (marks_of older) × IsAcked key tomb (marks_of older) × IsAgedOut older removal.to key tomb = subst (MayAsk cluster older removal) is may in
    elim (order was.asked.at at) [
      | older_than before ↦ elim (at_most_or_less (tag_of request.ask) tomb) [
        | inl low ↦
            let young : request.age < age_told older removal.to request.from = remove.2.aged request (stands_at before) (was.to ∙ sym to) round same low in
            let grown : age_told older acceptor request.from ≤ age_told log acceptor request.from = age_later log acceptor request.from at in
            let young_here : request.age < age_told older acceptor request.from = subst (λ (a : ℕ). request.age < age_told older a request.from) to young in
            absurd (omega (arith, was.age, grown, young_here))
        | inr high ↦ high
      ]
      | newer_than after ↦
          let ask_for = round_asked cluster was.asked.older request request.ask round (reason cluster orderly was.asked.at) in
          ask_for.above.above (subst (λ (k : List ℕ). Stands (Floor k tomb remove.0.state) (marks_of was.asked.older)) (sym same) (stands_part remove.0.stands (part_of after)))
      | at_one one older_same ↦ absurd (not_remove request removal key tomb is round (sym one))
    ]

-- an acceptor that may answer a request of a round has removed the key's slot only below the request's ballot
pub above_dropped : (cluster : Cluster) {log : List Happening} {acceptor : ℕ} {request : Request} → Orderly cluster log → WasAsked log acceptor request → IsRoundAsk request.ask
    → IsAboveDropped log acceptor (key_of request.ask) (tag_of request.ask)
above_dropped cluster {log} {acceptor} {request} orderly was round = record { above = λ {tombstone} dropped. above tombstone dropped }
  where
    above : (tomb : Ballot) → Stands (Dropped acceptor (key_of request.ask) tomb) log → BallotLess tomb (tag_of request.ask)
    above tomb dropped =
        let drop : MayDropBy dropped.older acceptor (key_of request.ask) tomb = reason cluster orderly dropped.at in
        removed_above cluster orderly (deeper drop.was_asked.asked.at dropped.at) drop.is drop.was_asked.to was round refl
