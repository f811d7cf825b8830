-- How a cluster begins on what stood before: the floors with which the histories of keys open, and what its parties keep of them.
use Rattle.std.specs.Prelude.{◌≡◌, ℕ, ◌≤◌, ◌<◌, false, true, List, [], ◌∷◌, length, map, replicate, ⊤, None, Some, Contains}
use Rattle.cas_ballot.specs.declared.ballot.Ballot.{Ballot}
use Rattle.cas_ballot.specs.Ballot.{zero_ballot, BallotLess}
use Rattle.cas_ballot.specs.Members.{has_member, IsMemberSet}
use Rattle.cas_change.specs.declared.state.State.{State}
use Rattle.cas_flow.specs.Flow.{empty_flow}
use Rattle.cas_proposer.specs.Desk.{DeskView}
use Rattle.cas_quorum.specs.Era.{majority_era}
use Rattle.cas_slot.specs.Contents.{Contents, nothing, kept_at}
use Rattle.cas_slot.specs.Shelf.{OnlyLeaves}
use Rattle.cas_slot.specs.declared.slot.Slot.{Slot}
use Rattle.cas_vault.specs.Vault.{IsPast}
use Rattle.cas_acceptor.specs.Acceptor.{AcceptorView}
use Rattle.cas_record.specs.declared.mark.Mark.{Mark}
use Rattle.cas_record.specs.declared.mark.Mark.TheVariants.{Floor}
use Rattle.cas_model.specs.Council.{opening_council}
use Rattle.cas_model.specs.Calls.Step.{most_marks}
use Rattle.cas_model.specs.Parties.{VaultKeepsEra}
use Rattle.cas_model.specs.View.{Meaning, CallerView, View, IsAt, new_caller}

-- ---- floors
-- the history of the key opens with this state at this ballot
pub record Opening : Type 0 where
  pub key : List ℕ
  pub ballot : Ballot
  pub state : State

abbrev pub mark_of : Opening → Mark
mark_of o = Floor o.key o.ballot o.state

-- each of the others is of another key
abbrev pub KeysDiffer : List Opening → Type 0
KeysDiffer [] = ⊤
KeysDiffer (o ∷ others) = ((p : Opening) → Contains others p → p.key ≡ o.key → ⊥) × KeysDiffer others

-- each is above zero, and no key has two
pub record AreOpenings (floors : List Opening) : Type 0 where
  pub some : (o : Opening) → Contains floors o → BallotLess zero_ballot o.ballot
  pub differ : KeysDiffer floors

-- ---- what is kept of them
-- the slot accepted the floor in era 0, and promised nothing
abbrev pub slot_of : Opening → Slot
slot_of o = record { promise = zero_ballot; accepted = Some (record { ballot = o.ballot; era = 0; state = o.state }) }

-- these are the floors, each in its slot, and no other key has one
pub record HoldsFloors (floors : List Opening) (kept : Contents) : Type 0 where
  pub each : (o : Opening) → Contains floors o → kept_at kept o.key ≡ Some (slot_of o)
  pub no_other : (key : List ℕ) → ((o : Opening) → Contains floors o → o.key ≡ key → ⊥) → kept_at kept key ≡ None

-- a member that is up holds the floors; and who is none, and is up, keeps nothing
pub record IsOpenAcceptor {S V : Type 0} (m : Meaning S V) (members : List ℕ) (floors : List Opening) (id : ℕ) (acceptor : AcceptorView S) : Type 0 where
  pub same_id : acceptor.id ≡ id
  pub started : acceptor.down ≡ false → acceptor.started ≡ true
  pub holds : has_member members id ≡ true → acceptor.down ≡ false → HoldsFloors floors (m.shelves.contents acceptor.shelf)
  pub keeps : has_member members id ≡ false → acceptor.down ≡ false → m.shelves.contents acceptor.shelf ≡ nothing
  pub lasts : m.shelves.tells → acceptor.down ≡ false → OnlyLeaves (m.shelves.contents acceptor.shelf) (m.shelves.may_leave acceptor.shelf)
  pub not_started : acceptor.down ≡ true → acceptor.started ≡ false

-- an acceptor of this number is there, and up
pub record IsUp {S V : Type 0} (view : View S V) (id : ℕ) : Type 0 where
  pub acceptor : AcceptorView S
  pub at : IsAt view.acceptors id acceptor
  pub up : acceptor.down ≡ false

-- it holds no promise and has no open round, and its vault is in era 0 and past each floor
pub record IsOpenDesk {S V : Type 0} (m : Meaning S V) (floors : List Opening) (id : ℕ) (desk : DeskView V) : Type 0 where
  pub same_id : desk.id ≡ id
  pub in_era : m.disks.tells → VaultKeepsEra m.disks 0 0 desk.vault
  pub past : m.disks.tells → (o : Opening) → Contains floors o → IsPast m.disks.may_leave o.ballot.counter desk.vault
  pub no_promise : desk.cache ≡ []
  pub none_open : desk.round ≡ None

-- nothing has happened yet but that the floors were marked; who was used before is never to join
pub record IsOpeningOn {S V : Type 0} (m : Meaning S V) (members used : List ℕ) (floors : List Opening) (view : View S V) : Type 0 where
  pub eras : view.eras ≡ replicate 17 (majority_era 0 members)
  pub few : view.last_proposer ≤ 16
  pub member_set : IsMemberSet members
  pub some : 0 < length members
  pub few_members : length members ≤ 9
  pub used_set : IsMemberSet used
  pub all_used : (acceptor : ℕ) → has_member members acceptor ≡ true → has_member used acceptor ≡ true
  pub openings : AreOpenings floors
  pub acceptors : (id : ℕ) (acceptor : AcceptorView S) → IsAt view.acceptors id acceptor → IsOpenAcceptor m members floors id acceptor
  -- each member is up where there are floors
  pub up : (o : Opening) → Contains floors o → (id : ℕ) → has_member members id ≡ true → IsUp view id
  pub desks : (id : ℕ) (desk : DeskView V) → IsAt view.desks id desk → (id ≤ view.last_proposer) × IsOpenDesk m floors id desk
  pub callers : (id : ℕ) (caller : CallerView) → IsAt view.callers id caller → caller ≡ new_caller
  pub council : view.council ≡ opening_council used
  pub flow : view.flow ≡ empty_flow
  pub marks : view.marks ≡ map mark_of floors
  pub room : length view.marks ≤ most_marks
