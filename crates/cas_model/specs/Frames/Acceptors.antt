-- What a step does to an acceptor and its shelf.
use Rattle.std.specs.Prelude.{◌≡◌, ◌≤◌, true, false, Ok}
use Rattle.cas_base.specs.Faults.{Rose}
use Rattle.cas_slot.specs.declared.message.Reply.{Reply}
use Rattle.cas_slot.specs.declared.message.Request.{Request}
use Rattle.cas_slot.specs.Contents.{nothing}
use Rattle.cas_slot.specs.Shelf.{Left, OnlyLeaves, NothingIsPending}
use Rattle.cas_slot.specs.Table.{IsReplyByTable}
use Rattle.cas_acceptor.specs.Acceptor.{AcceptorView, LeavesByTable}
use Rattle.cas_model.specs.View.{ShelfMeaning}

-- it is up, answers by its table, and a crash leaves what it keeps then
pub record AnswersByTable {S : Type 0} (m : ShelfMeaning S) (old new : AcceptorView S) (request : Request) (reply : Reply) : Type 0 where
  pub up : old.down ≡ false
  pub acceptor : new ≡ record old { shelf = new.shelf }
  pub table : IsReplyByTable old.id (m.contents old.shelf) request reply (m.contents new.shelf)
  pub lasts : m.tells → OnlyLeaves (m.contents new.shelf) (m.may_leave new.shelf)
  pub never_falls : m.faults old.shelf ≤ m.faults new.shelf

-- its shelf fails within the answer, and its count of faults rose: a crash leaves what was kept before, or what the table makes of that
pub record StopsWithin {S : Type 0} (m : ShelfMeaning S) (old new : AcceptorView S) (request : Request) : Type 0 where
  pub up : old.down ≡ false
  pub acceptor : new ≡ record old { down = true; shelf = new.shelf }
  pub leaves : m.tells → (left : Left) → m.may_leave new.shelf left → LeavesByTable (m.contents old.shelf) request left
  pub faulted : Rose (m.faults old.shelf) (m.faults new.shelf)

-- it is up, finds no memory, and keeps what it kept
pub record FindsNoMemory {S : Type 0} (m : ShelfMeaning S) (old new : AcceptorView S) : Type 0 where
  pub up : old.down ≡ false
  pub acceptor : new ≡ record old { shelf = new.shelf }
  pub kept : m.contents new.shelf ≡ m.contents old.shelf
  pub lasts : m.tells → OnlyLeaves (m.contents new.shelf) (m.may_leave new.shelf)
  pub never_falls : m.faults old.shelf ≤ m.faults new.shelf

-- nothing is pending on its shelf's disk then, and a crash left what it might leave
pub record CrashesShelf {S : Type 0} (m : ShelfMeaning S) (old new : AcceptorView S) : Type 0 where
  pub acceptor : new ≡ record old { down = true; shelf = new.shelf }
  pub settled : m.tells → NothingIsPending (m.may_leave old.shelf) (m.may_leave new.shelf)
  pub never_falls : m.faults old.shelf ≤ m.faults new.shelf

-- a shelf that never started is started, and another is reopened as a crash left it
pub record StartsShelf {S : Type 0} (m : ShelfMeaning S) (old new : AcceptorView S) : Type 0 where
  pub was_down : old.down ≡ true
  pub acceptor : new ≡ record old { started = true; down = false; shelf = new.shelf }
  pub afresh : old.started ≡ false → m.contents new.shelf ≡ nothing
  pub reopened : m.tells → old.started ≡ true → m.may_leave old.shelf (Ok (m.contents new.shelf))
  pub lasts : m.tells → OnlyLeaves (m.contents new.shelf) (m.may_leave new.shelf)
  pub never_falls : m.faults old.shelf ≤ m.faults new.shelf

-- it stays down, and nothing is lost of one that had started
pub record FailsToStart {S : Type 0} (m : ShelfMeaning S) (old new : AcceptorView S) : Type 0 where
  pub was_down : old.down ≡ true
  pub acceptor : new ≡ record old { shelf = new.shelf }
  pub leaves : m.tells → old.started ≡ true → (left : Left) → m.may_leave new.shelf left → m.may_leave old.shelf left
  pub never_falls : m.faults old.shelf ≤ m.faults new.shelf
