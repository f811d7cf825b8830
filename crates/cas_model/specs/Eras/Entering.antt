-- Why proposers may be in the eras that they are in.
use Rattle.std.specs.Prelude.{◌≡◌, ◌⊎◌, ℕ, suc, ◌<◌, ◌≤◌, true, List, reverse}
use Rattle.cas_quorum.specs.Era.{holds_prep, holds_acc}
use Rattle.cas_quorum.specs.Quorum.{Shared}
use Rattle.cas_record.specs.declared.mark.Mark.{Mark}
use Rattle.cas_record.specs.declared.mark.Mark.TheVariants.{EraEntered, Proposed}
use Rattle.cas_record.specs.declared.mark.Proposal.{Proposal}
use Rattle.cas_record.specs.Legal.{IsAcked}
use Rattle.cas_record.specs.Logs.Lawful.{IsCollected}
use Rattle.cas_record.specs.Places.{At, Stands}
use Rattle.cas_model.specs.History.{IsRemembered}
use Rattle.cas_model.specs.Safe.{IsSafe}
use Rattle.cas_model.specs.SafeLaws.{HaveAllEntered}
use Rattle.cas_model.specs.View.{Meaning, View, era_at}

-- the key was proposed anew in the era, once all proposers had entered it, and that was acknowledged
pub record WasRescannedIn (last_proposer era : ℕ) (key : List ℕ) (marks : List Mark) : Type 0 where
  pub proposal : Proposal
  pub older : List Mark
  pub proposed : At (Proposed proposal) older marks
  pub same_key : proposal.key ≡ key
  pub same_era : proposal.era ≡ era
  pub entered : HaveAllEntered last_proposer era older
  pub acked : IsAcked key proposal.ballot marks

-- An era above the first was entered once all proposers were in the one before it, unless that is the first; and each key that had been
-- proposed in an earlier era was then rescanned there, or has a floor at or above all its proposals of earlier eras.
pub record WasLeftLawfully (last_proposer left : ℕ) (marks : List Mark) : Type 0 where
  pub all_in : 0 < left → HaveAllEntered last_proposer left marks
  pub rescanned : (p : Proposal) → Stands (Proposed p) marks → p.era < left → WasRescannedIn last_proposer left p.key marks ⊎ IsCollected left p.key marks

-- Whoever is marked as in an era was allowed to enter it; and a prepare quorum of the era of one proposer and an accept quorum of that of
-- another share an acceptor.
pub record AreErasLawful {S V : Type 0} (view : View S V) : Type 0 where
  pub allowed : (proposer era : ℕ) → Stands (EraEntered proposer era) (reverse view.marks)
      → (left : ℕ) × (era ≡ suc left) × WasLeftLawfully view.last_proposer left (reverse view.marks)
  pub meet : (one other : ℕ) (prepared accepted : List ℕ) → one ≤ view.last_proposer → other ≤ view.last_proposer → holds_prep (era_at view one) prepared ≡ true
      → holds_acc (era_at view other) accepted ≡ true → Shared prepared accepted

abbrev pub ErasAreLawful : {S V : Type 0} → Meaning S V → Type 0
ErasAreLawful {S} {V} m = (view : View S V) → IsSafe view → IsRemembered m view → AreErasLawful view
