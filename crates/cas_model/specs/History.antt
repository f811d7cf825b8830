-- That a cluster as it is seen has a history: a log of all that happened in it, lawful and with its reasons, whose marks are its record,
-- and which tells what each of its parties keeps and knows and what the frames under way bear.
use Rattle.std.specs.Prelude.{◌≡◌, ℕ, ◌≤◌, true, [], None, Some, reverse}
use Rattle.cas_flow.specs.Flow.{queue_at}
use Rattle.cas_acceptor.specs.Acceptor.{AcceptorView}
use Rattle.cas_proposer.specs.Desk.{DeskView}
use Rattle.cas_quorum.specs.declared.era.Era.{Era}
use Rattle.cas_record.specs.Logs.Happening.{marks_of}
use Rattle.cas_record.specs.Logs.Lawful.{Cluster, ClusterMeets}
use Rattle.cas_model.specs.Collection.Logged.{AreRenewed}
use Rattle.cas_model.specs.Council.{PlanView}
use Rattle.cas_model.specs.Eras.Course.{Course, course_of, next_era, IsCourseOf}
use Rattle.cas_model.specs.Parties.{VaultKeepsEra, IsAcceptorTrue, AreMessagesTrue, IsEraOf, IsDeskTrue, IsCallerTrue}
use Rattle.cas_model.specs.Eras.Listed.{IsCouncilTrue}
use Rattle.cas_protocol.specs.Protocol.{GlobalState, HasHistory}
use Rattle.cas_model.specs.View.{Meaning, View, CallerView, IsAt, era_at, era_in}

-- each party and each frame is as the cluster's log tells
pub record AgreesWith {S V : Type 0} (m : Meaning S V) (cluster : Cluster) (global : GlobalState) (view : View S V) : Type 0 where
  pub marks : marks_of global.log ≡ reverse view.marks
  pub last_proposer : cluster.last_proposer ≡ view.last_proposer
  pub few : view.last_proposer ≤ 16
  pub eras : (id : ℕ) → id ≤ view.last_proposer → IsEraOf cluster (era_at view id)
  pub acceptors : (id : ℕ) (acceptor : AcceptorView S) → IsAt view.acceptors id acceptor → IsAcceptorTrue m global.log id (global.kept id) acceptor
  pub desks : (id : ℕ) (desk : DeskView V) (caller : CallerView) → IsAt view.desks id desk → IsAt view.callers id caller → IsDeskTrue m cluster global.log global.made (era_at view id).number id caller (queue_at view.flow id).messages desk
  pub callers : (id : ℕ) (caller : CallerView) → IsAt view.callers id caller → IsCallerTrue global.log global.made id caller
  pub council : IsCouncilTrue cluster global.log view.council
  pub own : (id : ℕ) → AreMessagesTrue global.log (queue_at view.flow id).messages
  pub late : AreMessagesTrue global.log view.flow.late

-- the log of a cluster
pub record IsLogged {S V : Type 0} (m : Meaning S V) (cluster : Cluster) (view : View S V) : Type 0 where
  pub meets : ClusterMeets cluster
  pub global : GlobalState
  pub history : HasHistory cluster global
  pub agrees : AgreesWith m cluster global view

-- ---- eras on disks
-- A crash leaves the vault in the era in which its proposer works. Or the proposer is down, holds no promise and has no open round, and
-- a crash leaves its vault in that era, which all entered last, or in the next one.
pub data IsInEra {S V : Type 0} (m : Meaning S V) (course : Course) (id : ℕ) (desk : DeskView V) : Type 0 where
  inside : VaultKeepsEra m.disks (era_in course.eras id).number (era_in course.eras id).number desk.vault → IsInEra m course id desk
  torn : (plan : PlanView) (next : Era) → course.plan ≡ Some plan → next_era course.plan ≡ Some next → era_in course.eras id ≡ plan.progress.era → desk.down ≡ true → desk.cache ≡ [] → desk.round ≡ None
      → VaultKeepsEra m.disks (era_in course.eras id).number next.number desk.vault → IsInEra m course id desk

abbrev pub AreInEras : {S V : Type 0} → Meaning S V → View S V → Type 0
AreInEras {S} {V} m view = (id : ℕ) (desk : DeskView V) → IsAt view.desks id desk → (id ≤ view.last_proposer) × IsInEra m (course_of view) id desk

-- ---- the whole
-- there is a cluster whose log agrees with it, with the eras of its course, and each proposer's disk is in its era
pub record IsFollowed {S V : Type 0} (m : Meaning S V) (view : View S V) : Type 0 where
  pub cluster : Cluster
  pub logged : IsLogged m cluster view
  pub course : IsCourseOf cluster (course_of view)
  pub in_eras : AreInEras m view

-- and each proposer that was renewed for a collection is so
pub record IsRemembered {S V : Type 0} (m : Meaning S V) (view : View S V) : Type 0 where
  pub followed : IsFollowed m view
  pub renewed : AreRenewed m view
