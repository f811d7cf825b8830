-- Who confirmed what was acknowledged in the era in which proposer 0 works, and which era that is as the marks tell.
use Rattle.std.specs.Prelude.{◌≡◌, ◌⊎◌, ℕ, ◌==◌, Bool, true, false, if◌then◌else◌, List, [], ◌∷◌, reverse, Some}
use Rattle.cas_ballot.specs.Members.{has_member}
use Rattle.cas_quorum.specs.declared.era.Era.{Era}
use Rattle.cas_record.specs.Places.{Stands}
use Rattle.cas_record.specs.declared.mark.Acknowledgment.{Acknowledgment}
use Rattle.cas_record.specs.declared.mark.Mark.{Mark}
use Rattle.cas_record.specs.declared.mark.Mark.TheVariants.{Acked, EraEntered}
use Rattle.cas_record.specs.declared.operator.Asked.{Asked}
use Rattle.cas_record.specs.declared.operator.Asked.TheVariants as asked
use Rattle.cas_model.specs.Council.{Probe, ExchangeView, OrderView, PlanView, Council}
use Rattle.cas_model.specs.Eras.Course.{Course, course_of, next_era}
use Rattle.cas_model.specs.History.{IsRemembered}
use Rattle.cas_model.specs.Openings.{Opening, IsOpeningOn}
use Rattle.cas_model.specs.Safe.{IsSafe}
use Rattle.cas_model.specs.Step.{Event, RestartProposer, Step, IsOpening}
use Rattle.cas_model.specs.Exchanges.Step.{everyone, IsProbeOf}
use Rattle.cas_model.specs.View.{Meaning, View, era_in, era_at}

-- ---- eras
-- the era that the proposer was marked last as having entered; 0 where none was marked. The marks are read newest first.
abbrev pub era_marked : ℕ → List Mark → ℕ
era_marked proposer [] = 0
era_marked proposer (EraEntered p era ∷ older) = if p == proposer then era else era_marked proposer older
era_marked proposer (mark ∷ older) = era_marked proposer older

-- Proposer 0 works in the next era of a change of membership, and is not marked so yet: its disk had kept that era before it stopped.
pub record IsAhead {S V : Type 0} (view : View S V) : Type 0 where
  pub plan : PlanView
  pub is_plan : view.council.plan ≡ Some plan
  pub unmarked : plan.entered ≡ 0
  pub next : next_era view.council.plan ≡ Some (era_at view 0)

-- until a change of membership has marked proposer 0 in its next era, it works in the one that all entered last
abbrev pub IsUnled : Course → Type 0
IsUnled course = (plan : PlanView) → course.plan ≡ Some plan → plan.entered ≡ 0 → era_in course.eras 0 ≡ plan.progress.era

-- ---- whom a probe asks
-- whether it is a change of membership
abbrev pub is_change : Asked → Bool
is_change (asked.Join id) = true
is_change (asked.Leave id) = true
is_change (asked.Resize need_prep need_acc) = true
is_change other = false

-- the open call asked what is kept of the key
pub record IsForProbe (council : Council) (key : List ℕ) : Type 0 where
  pub order : OrderView
  pub is_open : council.order ≡ Some order
  pub is_for : IsProbeOf order.asked key

-- Proposer 0 is not ahead of its marks. Each exchange that asks what is kept of a key is of a call for that, and asks everyone. A key is read
-- in the era in which proposer 0 works.
pub record IsAskingAll {S V : Type 0} (view : View S V) : Type 0 where
  pub unled : IsUnled (course_of view)
  pub changes : (plan : PlanView) → view.council.plan ≡ Some plan → is_change plan.asked ≡ true
  pub asks : (exchange : ExchangeView) (key : List ℕ) → view.council.exchange ≡ Some exchange → exchange.question ≡ Probe key → IsForProbe view.council key × (exchange.members ≡ everyone view) × ((era : Era) → exchange.reads ≡ Some era → era ≡ era_at view 0)

-- ---- the laws
-- A cluster that opens is so, and whatever is called on one that is safe keeps it so, but that a proposer that stopped is started again.
pub record ProbesAskAll {S V : Type 0} (m : Meaning S V) : Type 0 where
  pub opening : (members : List ℕ) (view : View S V) → IsOpening m members view → IsAskingAll view
  pub opening_on : (members used : List ℕ) (floors : List Opening) (view : View S V) → IsOpeningOn m members used floors view → IsAskingAll view
  pub steps : (old : View S V) (event : Event) (new : View S V) → ((proposer : ℕ) → event ≡ RestartProposer proposer → ⊥) → IsSafe old → IsAskingAll old → Step m old event new → IsAskingAll new

-- A probe asks each who confirmed what was acknowledged in the era that proposer 0 was marked last as having entered.
abbrev pub ConfirmersAreProbed : {S V : Type 0} → Meaning S V → Type 0
ConfirmersAreProbed {S} {V} m = (view : View S V) (exchange : ExchangeView) (key : List ℕ) (a : Acknowledgment) (acceptor : ℕ) → IsSafe view → IsRemembered m view → IsAskingAll view → view.council.exchange ≡ Some exchange → exchange.question ≡ Probe key
    → Stands (Acked a) (reverse view.marks) → a.era ≡ era_marked 0 (reverse view.marks) → has_member a.by acceptor ≡ true → has_member exchange.members acceptor ≡ true

-- Proposer 0 works in the era that it was marked last as having entered, or is ahead of that.
abbrev pub ErasAreMarked : {S V : Type 0} → Meaning S V → Type 0
ErasAreMarked {S} {V} m = (view : View S V) → IsSafe view → IsRemembered m view → ((era_at view 0).number ≡ era_marked 0 (reverse view.marks)) ⊎ IsAhead view

-- Who confirmed what was acknowledged in the era in which proposer 0 works is one of those that it asks.
abbrev pub ConfirmersAreAsked : {S V : Type 0} → Meaning S V → Type 0
ConfirmersAreAsked {S} {V} m = (view : View S V) (a : Acknowledgment) (acceptor : ℕ) → IsRemembered m view → Stands (Acked a) (reverse view.marks) → a.era ≡ (era_at view 0).number → has_member a.by acceptor ≡ true
    → has_member (everyone view) acceptor ≡ true
