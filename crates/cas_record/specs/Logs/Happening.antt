-- What happens in the store, in the order of time: what is marked, and also what leaves no mark.
use Rattle.std.specs.Prelude.{ℕ, List, [], ◌∷◌}
use Rattle.cas_ballot.specs.declared.ballot.Ballot.{Ballot}
use Rattle.cas_record.specs.declared.mark.Mark.{Mark}
use Rattle.cas_slot.specs.declared.ages.Ages.{Ages}
use Rattle.cas_slot.specs.declared.message.Request.{Request}
use Rattle.cas_slot.specs.declared.message.Reply.{Reply}

pub data Happening : Type 0 where
  -- a mark was made
  Marked : Mark → Happening
  -- a request was made, whatever becomes of its frame
  Asked : Request → Happening
  -- an acceptor promised the ballot for the key, and told the ballot that it had accepted, or zero
  Promised : (acceptor : ℕ) (key : List ℕ) (ballot told : Ballot) → Happening
  -- an acceptor took the ballot for the key for certain, and by the same act promised `ride`, or zero
  Took : (acceptor : ℕ) (key : List ℕ) (ballot ride : Ballot) → Happening
  -- an acceptor removed the key's slot, which held the tombstone
  Dropped : (acceptor : ℕ) (key : List ℕ) (tombstone : Ballot) → Happening
  -- a proposer is in the era for certain
  Entered : (proposer era : ℕ) → Happening
  -- a proposer drew the ballot for the key, in the era in which it was; a ballot for no key is the tag of requests
  Drew : (ballot : Ballot) (key : List ℕ) (era : ℕ) → Happening
  -- for certain the acceptor asks each proposer for at least this age
  Raised : (acceptor : ℕ) (least : Ages) → Happening
  -- an acceptor answered the request so, whatever becomes of the frame
  Replied : Request → Reply → Happening

-- the record of a log: its marks
abbrev pub marks_of : List Happening → List Mark
marks_of [] = []
marks_of (Marked mark ∷ older) = mark ∷ marks_of older
marks_of (other ∷ older) = marks_of older
