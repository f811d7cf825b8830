-- Why proposers may be in the eras that they are in.
use Rattle.std.proofs.Common.{◌≡◌, ◌<◌, ◌≤◌, ℕ, zero, suc, true, List, refl, sym, subst, ◌∙◌, inl, inr, arith}
use Rattle.std.specs.Prelude.{◌⊎◌, reverse}
use Rattle.cas_flow.specs.Flow.{queue_at}
use Rattle.cas_proposer.specs.Desk.{DeskView}
use Rattle.cas_quorum.specs.Era.{holds_prep, holds_acc}
use Rattle.cas_quorum.specs.Quorum.{Shared}
use Rattle.cas_record.specs.declared.mark.Mark.{Mark}
use Rattle.cas_record.specs.declared.mark.Mark.TheVariants.{EraEntered, Proposed}
use Rattle.cas_record.specs.declared.mark.Proposal.{Proposal}
use Rattle.cas_record.specs.Logs.Happening.{Happening, Marked, Entered, marks_of}
use Rattle.cas_record.specs.Logs.Lawful.{Cluster, Lawful, AllEntered, IsIn, MayEnter, MayMarkEra}
use Rattle.cas_record.specs.Places.{At, Stands}
use Rattle.cas_record.proofs.Logs.Eras.{before_all_entered, enter_law}
use Rattle.cas_record.proofs.Logs.Lemmas.{law, mark_at, part_of, stands_in_log}
use Rattle.cas_record.proofs.PlaceLemmas.{at_part, deeper, stands_part}
use Rattle.cas_protocol.proofs.Proposes.{all_in_low}
use Rattle.cas_model.specs.History.{IsRemembered}
use Rattle.cas_model.specs.Parties.{IsDeskTrue}
use Rattle.cas_model.specs.Safe.{IsSafe}
use Rattle.cas_model.specs.View.{Meaning, View, CallerView, era_at}
use Rattle.cas_model.specs.Step.{Event, Step}
use Rattle.cas_model.proofs.Collection.Steps.{keeps}
use Rattle.cas_model.proofs.Safety.Parts.{at_low}
use Rattle.cas_model.proofs.Safety.Steps.{steps_are_safe}
use Rattle.cas_model.specs.SafeLaws.{HaveAllEntered}
use Rattle.cas_model.specs.Eras.Entering.{WasLeftLawfully, AreErasLawful, ErasAreLawful}

-- all in an era at some time are in it later
all_later : (cluster : Cluster) (last_proposer era : ℕ) (part marks : List Mark) → cluster.last_proposer ≡ last_proposer
    → ((mark : Mark) → Stands mark part → Stands mark marks) → AllEntered cluster era part → HaveAllEntered last_proposer era marks
all_later cluster last_proposer era part marks same later all proposer low = later (EraEntered proposer era) (all proposer (omega (arith, low, same)))

-- what was allowed when a proposer entered an era is so of the whole record
left_lawfully : (cluster : Cluster) (last_proposer : ℕ) (log : List Happening) (proposer left : ℕ) {older : List Happening} → cluster.last_proposer ≡ last_proposer
    → Lawful cluster log → At (Entered proposer (suc left)) older log → WasLeftLawfully last_proposer left (marks_of log)
left_lawfully cluster last_proposer log proposer left {older} same lawful at = record {
  all_in = λ some. all_later cluster last_proposer left (marks_of older) (marks_of log) same later (all some);
  rescanned = λ p stands early. elim (may.may_leave.stones (proposed_then p stands early) (omega (arith, early, is_left))) [
    | inl rescanned ↦ inl (record {
      proposal = rescanned.proposal;
      older = rescanned.older;
      proposed = at_part rescanned.proposed (part_of at);
      same_key = rescanned.same_key;
      same_era = rescanned.same_era ∙ is_left;
      entered = λ other low. subst (λ (n : ℕ). Stands (EraEntered other n) rescanned.older) is_left (rescanned.entered other (omega (arith, low, same)));
      acked = record {
        acknowledgment = rescanned.acked.acknowledgment;
        stands = later _ rescanned.acked.stands;
        same_key = rescanned.acked.same_key;
        same_ballot = rescanned.acked.same_ballot;
      };
    })
    | inr collected ↦ inr (record {
      floor = collected.floor;
      state = collected.state;
      stands = later _ collected.stands;
      above = λ {p = q} stands_q same_key low. collected.above (proposed_then q stands_q low) same_key (omega (arith, low, is_left));
    })
  ];
}
  where
    may : MayEnter cluster older proposer (suc left)
    may = enter_law cluster lawful at

    is_left : may.left ≡ left
    is_left = cc may.next

    later : (mark : Mark) → Stands mark (marks_of older) → Stands mark (marks_of log)
    later mark stands = stands_part stands (part_of at)

    all : 0 < left → AllEntered cluster left (marks_of older)
    all some = subst (λ (n : ℕ). AllEntered cluster n (marks_of older)) is_left (may.may_leave.all_in (omega (arith, some, is_left)))

    -- what was proposed in an earlier era had been proposed then
    proposed_then : (p : Proposal) → Stands (Proposed p) (marks_of log) → p.era < left → Stands (Proposed p) (marks_of older)
    proposed_then p stands early =
        let found = stands_in_log log stands in
        let before = before_all_entered cluster lawful at (all (omega (arith, early))) found.at early (λ same_. cc same_) in
        record { older = _; at = mark_then before }
      where
        mark_then : {place : List Happening} → At (Marked (Proposed p)) place older → At (Proposed p) (marks_of place) (marks_of older)
        mark_then place_at = mark_at place_at

allowed : {S V : Type 0} (m : Meaning S V) (view : View S V) (proposer era : ℕ) → IsRemembered m view → Stands (EraEntered proposer era) (reverse view.marks)
    → (left : ℕ) × (era ≡ suc left) × WasLeftLawfully view.last_proposer left (reverse view.marks)
allowed m view proposer era is stands =
    let log = is.followed.logged.global.log in
    let cluster = is.followed.cluster in
    let marked = stands_in_log log (subst (Stands (EraEntered proposer era)) (sym is.followed.logged.agrees.marks) stands) in
    let mark : MayMarkEra marked.older proposer era = law cluster is.followed.logged.history.lawful marked.at in
    let at : At (Entered proposer era) mark.entered.older log = deeper mark.entered.at marked.at in
    let may : MayEnter cluster mark.entered.older proposer era = enter_law cluster is.followed.logged.history.lawful at in
    let so = left_lawfully cluster view.last_proposer log proposer may.left is.followed.logged.agrees.last_proposer is.followed.logged.history.lawful
    (subst (λ (n : ℕ). At (Entered proposer n) mark.entered.older log) may.next at) in
    (may.left, may.next, subst (WasLeftLawfully view.last_proposer may.left) is.followed.logged.agrees.marks so)

-- ---- quorums
desk_true : {S V : Type 0} (m : Meaning S V) (view : View S V) (proposer : ℕ) → IsSafe view → (is : IsRemembered m view) → proposer ≤ view.last_proposer
    → (desk : DeskView V) × (caller : CallerView)
    × IsDeskTrue m is.followed.cluster is.followed.logged.global.log is.followed.logged.global.made (era_at view proposer).number proposer caller (queue_at view.flow proposer).messages desk
desk_true m view proposer safe is known =
    let desk = at_low view.desks proposer (omega (arith, known, safe.sound.desks)) in
    let caller = at_low view.callers proposer (omega (arith, known, safe.sound.callers)) in
    (desk.0, caller.0, is.followed.logged.agrees.desks proposer desk.0 caller.0 desk.1 caller.1)

-- who is in an era has all others in the one before it, or beyond
one_apart : (cluster : Cluster) (log : List Happening) (one other era number : ℕ) → Lawful cluster log → one ≤ cluster.last_proposer → (Stands (Entered one (suc era)) log → ⊥)
    → IsIn log other number → number ≤ suc era
one_apart cluster log one other era number lawful known not_beyond (inl first) = omega (arith, first)
one_apart cluster log one other era number lawful known not_beyond (inr entered) =
    let may : MayEnter cluster entered.older other number = enter_law cluster lawful entered.at in
    elim (none_or_some may.left) [
      | inl none ↦ omega (arith, may.next, none)
      | inr some ↦
          let all : AllEntered cluster may.left (marks_of log) = λ proposer low. stands_part (may.may_leave.all_in some proposer low) (part_of entered.at) in
          let low : may.left ≤ era = all_in_low cluster log may.left one era lawful known not_beyond (inr all) in
          omega (arith, may.next, low)
    ]
  where
    none_or_some : (n : ℕ) → (n ≡ 0) ⊎ (0 < n)
    none_or_some zero = inl refl
    none_or_some (suc n) = inr (omega arith)

meet : {S V : Type 0} (m : Meaning S V) (view : View S V) (one other : ℕ) (prepared accepted : List ℕ) → IsSafe view → IsRemembered m view → one ≤ view.last_proposer
    → other ≤ view.last_proposer
    → holds_prep (era_at view one) prepared ≡ true → holds_acc (era_at view other) accepted ≡ true → Shared prepared accepted
meet m view one other prepared accepted safe is known_one known_other prepares accepts =
    let cluster = is.followed.cluster in
    let log = is.followed.logged.global.log in
    let lawful = is.followed.logged.history.lawful in
    let first = (desk_true m view one safe is known_one).2 in
    let second = (desk_true m view other safe is known_other).2 in
    is.followed.logged.meets (era_at view one).number (era_at view other).number
    (one_apart cluster log other one (era_at view other).number (era_at view one).number lawful second.known second.vault.not_beyond first.vault.is_in)
    (one_apart cluster log one other (era_at view one).number (era_at view other).number lawful first.known first.vault.not_beyond second.vault.is_in)
    prepared accepted ((is.followed.logged.agrees.eras one known_one).prepares prepared ∙ prepares) ((is.followed.logged.agrees.eras other known_other).accepts accepted ∙ accepts)

pub eras_are_lawful : {S V : Type 0} (m : Meaning S V) → ErasAreLawful m
eras_are_lawful m view safe is = record {
  allowed = λ proposer era stands. allowed m view proposer era is stands;
  meet = λ one other prepared accepted known_one known_other prepares accepts. meet m view one other prepared accepted safe is known_one known_other prepares accepts;
}

-- so they are after each step
pub lawful_then : {S V : Type 0} (m : Meaning S V) (event : Event) {old new : View S V} → Step m old event new → IsSafe old → IsRemembered m old → m.shelves.tells
    → m.disks.tells → AreErasLawful new
lawful_then m event {old} {new} by safe is shelves disks = eras_are_lawful m new (steps_are_safe m old event new safe by) (keeps m old event new shelves disks is by)
