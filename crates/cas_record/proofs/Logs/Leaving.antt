-- What may be left may be left later, as long as the proposer has not left it.
use Rattle.std.proofs.Common.{◌≡◌, ℕ, suc, ◌<◌, List, ◌∷◌, arith, sym}
use mathlib.Core.Logic.{inl, inr}
use Rattle.cas_record.specs.declared.mark.Mark.{Mark}
use Rattle.cas_record.specs.declared.mark.Mark.TheVariants.{Proposed}
use Rattle.cas_record.specs.declared.mark.Proposal.{Proposal}
use Rattle.cas_record.specs.Places.{Stands, IsOlderPart, whole, later}
use Rattle.cas_record.specs.Logs.Happening.{Happening, Entered, marks_of}
use Rattle.cas_record.specs.Logs.Lawful.{Cluster, Lawful, AllEntered, IsRescanned, MayLeaveEra}
use Rattle.cas_record.proofs.PlaceLemmas.{stands_at, at_part, stands_part, newest_or}
use Rattle.cas_record.proofs.Logs.Lemmas.{mark_at, in_log}
use Rattle.cas_record.proofs.Logs.Eras.{entered_of_mark}
use Rattle.cas_record.proofs.Logs.Listings.{marks_part, proposed_before}
use Rattle.cas_record.proofs.Logs.Openings.{opening_older}

-- a proposal of an era before one that all have entered stood already
old_proposal : (cluster : Cluster) (happening : Happening) (log : List Happening) {p : Proposal} {era : ℕ} → Lawful cluster (happening ∷ log) → AllEntered cluster era (marks_of log)
    → Stands (Proposed p) (marks_of (happening ∷ log)) → p.era < era → Stands (Proposed p) (marks_of log)
old_proposal cluster happening log lawful entered stands early =
    let found = in_log (happening ∷ log) stands.at in
    stands_at (mark_at (proposed_before cluster lawful (later whole) entered found.at early))

rescanned_part : {cluster : Cluster} {era : ℕ} {key : List ℕ} {part marks : List Mark} → IsOlderPart part marks → IsRescanned cluster era key part → IsRescanned cluster era key marks
rescanned_part part r = record {
  proposal = r.proposal;
  older = r.older;
  proposed = at_part r.proposed part;
  same_key = r.same_key;
  same_era = r.same_era;
  entered = r.entered;
  acked = record { acknowledgment = r.acked.acknowledgment; stands = stands_part r.acked.stands part; same_key = r.acked.same_key; same_ballot = r.acked.same_ballot };
}

pub may_leave_more : (cluster : Cluster) (happening : Happening) {log : List Happening} {proposer left : ℕ} → Lawful cluster (happening ∷ log) → (happening ≡ Entered proposer (suc left) → ⊥)
    → MayLeaveEra cluster log proposer left → MayLeaveEra cluster (happening ∷ log) proposer left
may_leave_more cluster happening {log} {proposer} {left} lawful other may =
    let newer : IsOlderPart log (happening ∷ log) = later whole in
    let part = marks_part newer in
    record {
      known = may.known;
      once = λ stands. elim (newest_or stands) [ inl now ↦ other (sym now) | inr before ↦ may.once before ];
      all_in = λ some p low. stands_part (may.all_in some p low) part;
      stones = λ {p} stands early.
          let entered = may.all_in (omega arith) in
          elim (may.stones (old_proposal cluster happening log lawful entered stands early) early) [
            | inl rescanned ↦ inl (rescanned_part part rescanned)
            | inr collected ↦ inr (record {
              floor = collected.floor;
              state = collected.state;
              stands = stands_part collected.stands part;
              above = λ {p = q} there same before. collected.above (old_proposal cluster happening log lawful entered there before) same before;
            })
          ];
      openings = λ {key} {floor} opening some.
          let entered = entered_of_mark cluster log lawful.0 (may.all_in some 0 (omega arith)) in
          elim (may.openings (opening_older entered opening) some) [
            | inl rescanned ↦ inl (rescanned_part part rescanned)
            | inr above ↦ inr (record { floor = above.floor; state = above.state; stands = stands_part above.stands part; above = above.above })
          ];
    }
