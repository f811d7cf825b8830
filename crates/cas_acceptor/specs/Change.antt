-- What an answer does to what is kept.
use Rattle.cas_slot.specs.declared.message.Ask.{Ask}
use Rattle.cas_slot.specs.declared.message.Tell.{Tell}
use Rattle.cas_slot.specs.declared.message.Tell.TheVariants as tell
use Rattle.cas_slot.specs.Contents.{Contents, with_kept, without_kept, with_raised}
use Rattle.cas_slot.specs.Limits.{SlotBallotsFit}
use Rattle.cas_slot.specs.Slots.{IsFullFor}
use Rattle.cas_slot.specs.Table.{Answers}
use Rattle.cas_acceptor.specs.declared.change.Change.{Change}
use Rattle.cas_acceptor.specs.declared.change.Change.TheVariants.{Nothing, Put, Remove, Raise}

-- what is kept after the change, where there is room for it
abbrev pub changed : Contents → Change → Contents
changed old Nothing = old
changed old (Put key slot) = with_kept old key.now slot
changed old (Remove key) = without_kept old key.now
changed old (Raise least) = with_raised old least.now

-- there is no room for the change
abbrev pub HasNoRoomForChange : Contents → Change → Type 0
HasNoRoomForChange old Nothing = ⊥
HasNoRoomForChange old (Put key slot) = IsFullFor old.slots key.now
HasNoRoomForChange old (Remove key) = ⊥
HasNoRoomForChange old (Raise least) = ⊥

-- the ballots of what is put are within their limits
abbrev pub ChangeBallotsFit : Change → Type 0
ChangeBallotsFit (Put key slot) = SlotBallotsFit slot
ChangeBallotsFit other = Unit {0}

-- what a question is told and what is changed for it: by the table, both where there is room and where there is none
pub record Decides (old : Contents) (question : Ask) (answer : Tell) (change : Change) : Type 0 where
  pub room : ¬ (HasNoRoomForChange old change) → Answers old question answer (changed old change)
  pub none : HasNoRoomForChange old change → Answers old question tell.Full old
