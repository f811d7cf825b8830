-- What is true of a cluster that nobody stops by a call: who is down there failed by its own disk.
use Rattle.std.specs.Prelude.{◌≡◌, ◌⊎◌, ℕ, ◌<◌, Bool, true, false, if◌then◌else◌, List, Option, None, Some, Contains}
use Rattle.cas_ballot.specs.Members.{has_member, union_of, IsMemberSet}
use Rattle.cas_acceptor.specs.Acceptor.{AcceptorView}
use Rattle.cas_proposer.specs.Desk.{DeskView}
use Rattle.cas_quorum.specs.declared.era.Era.{Era}
use Rattle.cas_record.specs.declared.answer.Answer.{Answer}
use Rattle.cas_record.specs.declared.mark.Mark.{Mark}
use Rattle.cas_record.specs.declared.operator.OpAnswer.{OpAnswer}
use Rattle.cas_slot.specs.Ages.{least_age}
use Rattle.cas_vault.specs.Vault.{disk_of}
use Rattle.cas_model.specs.Council.{ExchangeView, OrderView, Council}
use Rattle.cas_model.specs.Eras.Course.{later_of}
use Rattle.cas_model.specs.History.{IsRemembered}
use Rattle.cas_model.specs.Parties.{IsAged}
use Rattle.cas_model.specs.Safe.{IsSafe}
use Rattle.cas_model.specs.Step.{Event, CrashAcceptor, RestartAcceptor, CrashProposer, RestartProposer}
use Rattle.cas_model.specs.View.{Meaning, View, CallView, CallerView, IsAt, era_in}
use Rattle.cas_model_causes.specs.Exchanges.Answering.{IsAnswering}
use Rattle.cas_model_causes.specs.Exchanges.Confirmed.{IsAskingAll}
use Rattle.cas_model_causes.specs.Exchanges.Current.{AreProbesCurrent}
use Rattle.cas_model_causes.specs.Exchanges.Probed.{IsProbing}
use Rattle.cas_model_causes.specs.Eras.Tellings.{TellingsAreTrue}
use Rattle.cas_model_causes.specs.Exchanges.Unaged.{IsUnaged}
use Rattle.cas_board_world.specs.Blame.{Blame, Nobody, VaultOf, blame_by_answer, blame_by_op, blame_by, IsDeserved}

-- ---- stops
-- it stops an acceptor or a proposer, or starts one again
abbrev pub is_stop : Event → Bool
is_stop (CrashAcceptor id) = true
is_stop (RestartAcceptor id) = true
is_stop (CrashProposer proposer) = true
is_stop (RestartProposer proposer) = true
is_stop other = false

-- ---- faults
abbrev pub acceptor_faults : {S V : Type 0} → Meaning S V → AcceptorView S → ℕ
acceptor_faults m acceptor = m.shelves.faults acceptor.shelf

abbrev pub desk_faults : {S V : Type 0} → Meaning S V → DeskView V → ℕ
desk_faults m desk = m.disks.faults (disk_of desk.vault)

-- who is blamed has failed
abbrev pub IsFair : {S V : Type 0} → Meaning S V → List (AcceptorView S) → List (DeskView V) → Blame → Type 0
IsFair m acceptors desks blame = IsDeserved (acceptor_faults m) (desk_faults m) acceptors desks blame

-- ---- whom what was told blames, once it is marked
abbrev pub blame_if_told : ℕ → Option Answer → Blame
blame_if_told caller None = Nobody
blame_if_told caller (Some answer) = blame_by_answer caller answer

abbrev pub blame_by_call : ℕ → Option CallView → Blame
blame_by_call caller None = Nobody
blame_by_call caller (Some call) = blame_if_told caller call.told

abbrev pub blame_if_said : Option OpAnswer → Blame
blame_if_said None = Nobody
blame_if_said (Some answer) = blame_by_op answer

abbrev pub blame_by_order : Option OrderView → Blame
blame_by_order None = Nobody
blame_by_order (Some order) = blame_if_said order.told

-- an exchange that was broken off blames the vault of proposer 0
abbrev pub blame_if_broken : Bool → Blame
blame_if_broken broken = if broken then VaultOf 0 else Nobody

abbrev pub blame_by_exchange : Option ExchangeView → Blame
blame_by_exchange None = Nobody
blame_by_exchange (Some exchange) = blame_if_broken exchange.crashed

-- ---- who is down
-- an acceptor that is down has failed, or it never started and was no member since the cluster opened
abbrev pub IsExcused : {S V : Type 0} → Meaning S V → List ℕ → ℕ → AcceptorView S → Type 0
IsExcused m were id acceptor = (0 < acceptor_faults m acceptor) ⊎ ((acceptor.started ≡ false) × (has_member were id ≡ false))

-- the members of an era were members
abbrev pub WereMembers : List ℕ → Era → Type 0
WereMembers were era = (acceptor : ℕ) → has_member (union_of era.prep era.acc) acceptor ≡ true → has_member were acceptor ≡ true

-- ---- the whole
-- Who is down has failed, and who is blamed has, by what was told and by what is marked. Who may be asked was a member since the opening.
pub record AreBlamed {S V : Type 0} (m : Meaning S V) (were : List ℕ) (acceptors : List (AcceptorView S)) (desks : List (DeskView V)) (eras : List Era) (callers : List CallerView) (council : Council) (marks : List Mark) : Type 0 where
  pub excused : (id : ℕ) (acceptor : AcceptorView S) → IsAt acceptors id acceptor → acceptor.down ≡ true → IsExcused m were id acceptor
  pub failed : (id : ℕ) (desk : DeskView V) → IsAt desks id desk → desk.down ≡ true → 0 < desk_faults m desk
  pub calls : (id : ℕ) (caller : CallerView) → IsAt callers id caller → IsFair m acceptors desks (blame_by_call id caller.call)
  pub order : IsFair m acceptors desks (blame_by_order council.order)
  pub exchange : IsFair m acceptors desks (blame_by_exchange council.exchange)
  pub were_set : IsMemberSet were
  pub in_eras : (id : ℕ) → WereMembers were (era_in eras id)
  pub later : (era : Era) → Contains (later_of council.plan) era → WereMembers were era
  pub asked : (exchange : ExchangeView) → council.exchange ≡ Some exchange → (acceptor : ℕ) → has_member exchange.members acceptor ≡ true → has_member were acceptor ≡ true
  pub marked : (mark : Mark) → Contains marks mark → IsFair m acceptors desks (blame_by mark)

abbrev pub IsBlamedSince : {S V : Type 0} → Meaning S V → List ℕ → View S V → Type 0
IsBlamedSince m were view = AreBlamed m were view.acceptors view.desks view.eras view.callers view.council view.marks

-- some acceptors were members since the cluster opened
abbrev pub IsBlamed : {S V : Type 0} → Meaning S V → View S V → Type 0
IsBlamed m view = (were : List ℕ) × IsBlamedSince m were view

-- The cluster is safe, and nobody was stopped by a call. An exchange asks whom it is to ask, and hears them out. And where shelves and disks
-- tell what they keep, what was told of a key and to the operator is so.
pub record IsSteady {S V : Type 0} (m : Meaning S V) (view : View S V) : Type 0 where
  pub safe : IsSafe view
  pub blamed : IsBlamed m view
  pub answering : IsAnswering view
  pub asking : IsAskingAll view
  pub remembered : m.shelves.tells → m.disks.tells → IsRemembered m view
  pub probing : m.shelves.tells → m.disks.tells → IsProbing view
  pub unaged : m.shelves.tells → m.disks.tells → IsUnaged m view
  pub current : m.shelves.tells → m.disks.tells → AreProbesCurrent view
  pub telling : m.shelves.tells → m.disks.tells → TellingsAreTrue view

-- ---- the beginning
abbrev pub AreMembersUp : {S : Type 0} → List ℕ → List (AcceptorView S) → Type 0
AreMembersUp {S} members acceptors = (id : ℕ) (acceptor : AcceptorView S) → IsAt acceptors id acceptor → has_member members id ≡ true → acceptor.down ≡ false

abbrev pub AreDesksUp : {V : Type 0} → List (DeskView V) → Type 0
AreDesksUp {V} desks = (id : ℕ) (desk : DeskView V) → IsAt desks id desk → desk.down ≡ false

-- no acceptor that is up asks proposer 0 for more than the age that its vault keeps, wherever it stops
abbrev pub AreAgesCovered : {S V : Type 0} → Meaning S V → View S V → Type 0
AreAgesCovered {S} {V} m view = (id : ℕ) (acceptor : AcceptorView S) (desk : DeskView V) → IsAt view.acceptors id acceptor → acceptor.down ≡ false → IsAt view.desks 0 desk
    → IsAged m.disks (least_age (m.shelves.contents acceptor.shelf).ages 0) desk.vault
