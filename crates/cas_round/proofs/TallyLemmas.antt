-- One more reply, and what a tally says of the verdict.
use Rattle.std.proofs.Common.{◌≡◌, ℕ, Bool, true, false, List, [], ◌∷◌, arith, refl, sym, ◌∙◌, ap}
use Rattle.std.specs.Prelude.{Option, None, Some, ◌==◌, ◌&&◌, ◌||◌}
use Rattle.std.specs.List.{list_any}
use Rattle.std.proofs.lemmas.Bool.Decides.{nat_tests}
use Rattle.cas_ballot.specs.declared.ballot.Ballot.{Ballot}
use Rattle.cas_ballot.specs.Ballot.{BallotAtMost}
use Rattle.cas_ballot.specs.Members.{members_where, with_member}
use Rattle.cas_ballot.proofs.MemberLemmas.{members_where_same, has-members_where}
use Rattle.cas_quorum.specs.Quorum.{has_quorum, count_in}
use Rattle.cas_slot.specs.declared.message.Phase.{Phase}
use Rattle.cas_slot.specs.declared.message.Reply.{Reply}
use Rattle.cas_slot.specs.declared.message.Tell.{Tell}
use Rattle.cas_slot.specs.declared.message.Tell.TheVariants as tell
use Rattle.cas_round.specs.declared.tally.Tally.{Tally}
use Rattle.cas_round.specs.declared.verdict.RoundVerdict.TheVariants.{Short}
use Rattle.cas_round.specs.Replies.{confirmers_of, mets_of, ages_of, fulls_of}
use Rattle.cas_round.specs.Round.{IsTallyOf, IsRoundVerdict, GreatestOf, AgeAtMost, IsNoLess}
use Rattle.cas_round.specs.Tally.{no_tally, refused_after, verdict_by, unless_met, unless_aged, unless_full}
use Rattle.cas_round.proofs.Greatest.{met_more, age_more, full_more}

-- ---- who confirmed
flip : (a b : ℕ) → (a == b) ≡ (b == a)
flip a b = grind (arith, nat_tests)

stays_out : (a b x : Bool) → b ≡ false → x ≡ ((a && b) || x)
stays_out true b x e = rw e refl
stays_out false b x e = refl

comes_in : (a b x : Bool) → b ≡ true → ((a && b) || x) ≡ (a || x)
comes_in true b x e = rw e refl
comes_in false b x e = refl

no_confirmer : (confirms : Tell → Bool) (reply : Reply) (replies : List Reply) → confirms reply.tell ≡ false
    → confirmers_of confirms replies ≡ confirmers_of confirms (reply ∷ replies)
no_confirmer confirms reply replies e =
    members_where_same _ _ (λ n below. stays_out (reply.from == n) (confirms reply.tell) (list_any (λ r. (r.from == n) && confirms r.tell) replies) e)

pub one_confirmer : (confirms : Tell → Bool) (reply : Reply) (replies : List Reply) → confirms reply.tell ≡ true
    → with_member (confirmers_of confirms replies) reply.from ≡ confirmers_of confirms (reply ∷ replies)
one_confirmer confirms reply replies e =
    members_where_same _ _ (λ n below.
    rw (flip n reply.from, has-members_where (λ m. list_any (λ r. (r.from == m) && confirms r.tell) replies) n below)
    (sym (comes_in (reply.from == n) (confirms reply.tell) (list_any (λ r. (r.from == n) && confirms r.tell) replies) e)))

-- ---- one more reply
pub refused : (confirms : Tell → Bool) (from to : ℕ) (phase : Phase) (tag : Ballot) (tell : Tell) (replies : List Reply) (tally : Tally)
    → confirms tell ≡ false → IsTallyOf confirms replies tally
    → IsTallyOf confirms (record { from = from; to = to; phase = phase; tag = tag; tell = tell } ∷ replies) (refused_after tally from tell)
refused confirms from to phase tag (tell.Met ballot) replies tally e h = record {
  confirmed = h.confirmed ∙ no_confirmer confirms (record { from = from; to = to; phase = phase; tag = tag; tell = tell.Met ballot }) replies e;
  met = met_more ballot (mets_of replies) tally.met h.met;
  aged = h.aged;
  full = h.full;
}
refused confirms from to phase tag (tell.Aged least) replies tally e h = record {
  confirmed = h.confirmed ∙ no_confirmer confirms (record { from = from; to = to; phase = phase; tag = tag; tell = tell.Aged least }) replies e;
  met = h.met;
  aged = age_more least (ages_of replies) tally.aged h.aged;
  full = h.full;
}
refused confirms from to phase tag tell.Full replies tally e h = record {
  confirmed = h.confirmed ∙ no_confirmer confirms (record { from = from; to = to; phase = phase; tag = tag; tell = tell.Full }) replies e;
  met = h.met;
  aged = h.aged;
  full = full_more from (fulls_of replies) tally.full h.full;
}
refused confirms from to phase tag other replies tally e h = record {
  confirmed = h.confirmed ∙ no_confirmer confirms (record { from = from; to = to; phase = phase; tag = tag; tell = other }) replies e;
  met = h.met;
  aged = h.aged;
  full = h.full;
}

-- ---- the verdict
short : (members : List ℕ) (need : ℕ) (confirms : Tell → Bool) (replies : List Reply) (tally : Tally) → IsTallyOf confirms replies tally
    → has_quorum need members (confirmers_of confirms replies) ≡ false
    → (met : Option Ballot) → GreatestOf BallotAtMost (mets_of replies) met → (aged : Option ℕ) → GreatestOf AgeAtMost (ages_of replies) aged
    → (full : Option ℕ) → GreatestOf IsNoLess (fulls_of replies) full
    → IsRoundVerdict members need confirms replies (unless_met met (unless_aged aged (unless_full full (Short (count_in members tally.confirmed) need))))
short members need confirms replies tally h e (Some met) m aged a full f = (e, m)
short members need confirms replies tally h e None m (Some aged) a full f = (e, m, a)
short members need confirms replies tally h e None m None a (Some full) f = (e, m, a, f)
short members need confirms replies tally h e None m None a None f = (e, m, a, f, ap (count_in members) h.confirmed, refl)

pub verdict : (members : List ℕ) (need : ℕ) (confirms : Tell → Bool) (replies : List Reply) (tally : Tally) → IsTallyOf confirms replies tally
    → (quorum : Bool) → has_quorum need members (confirmers_of confirms replies) ≡ quorum → IsRoundVerdict members need confirms replies (verdict_by tally quorum members need)
verdict members need confirms replies tally h true e = e
verdict members need confirms replies tally h false e = short members need confirms replies tally h e tally.met h.met tally.aged h.aged tally.full h.full

-- ---- no reply
pub nothing : (confirms : Tell → Bool) → IsTallyOf confirms [] no_tally
unfolding members_where
nothing confirms = record { confirmed = refl; met = refl; aged = refl; full = refl }
