-- What a crash leaves within an answer.
use Rattle.std.proofs.Common.{ℕ, ◌≤◌, inl, inr, sym, subst, arith, Ok}
use Rattle.cas_slot.specs.Contents.{Contents}
use Rattle.cas_slot.specs.declared.message.Request.{Request}
use Rattle.cas_slot.specs.declared.message.Tell.{Tell}
use Rattle.cas_slot.specs.Shelf.{Left, OnlyLeaves, IsOldOrNew, ShelfLeavesOnly}
use Rattle.cas_slot.specs.declared.message.Ask.{Ask}
use Rattle.cas_slot.specs.declared.message.Ask.TheVariants as ask
use Rattle.cas_slot.specs.declared.message.Tell.TheVariants as tell
use Rattle.cas_slot.specs.Ages.{least_age}
use Rattle.cas_slot.specs.Table.{Answers, Handles}
use Rattle.cas_acceptor.specs.declared.change.Change.{Change}
use Rattle.cas_acceptor.specs.Change.{changed, HasNoRoomForChange, Decides}
use Rattle.cas_acceptor.specs.Acceptor.{LeavesByTable}

module _ {S : Type 0} (moment : S → ℕ) (left_since : S → ℕ → Left → Type 0) where
  pub leaves_weaker : (old new : S) (P Q : Left → Type 0) → ((left : Left) → P left → Q left) → ShelfLeavesOnly moment left_since old new P → ShelfLeavesOnly moment left_since old new Q
  leaves_weaker old new P Q f h = record {
    later = h.later;
    each = λ left since. f left (h.each left since);
  }

  -- a shelf that was not touched
  pub leaves_same : (may_leave : S → Left → Type 0) (contents : S → Contents) (shelf : S) (P : Left → Type 0)
      → ((left : Left) → left_since shelf (moment shelf) left → may_leave shelf left) → OnlyLeaves (contents shelf) (may_leave shelf) → P (Ok (contents shelf))
      → ShelfLeavesOnly moment left_since shelf shelf P
  leaves_same may_leave contents shelf P only kept holds = record {
    later = omega arith;
    each = λ left since. subst P (sym (kept left (only left since))) holds;
  }

not_aged : (old : Contents) (question : Ask) (least : ℕ) (new : Contents) → Answers old question (tell.Aged least) new → ⊥
not_aged old (ask.Prepare key ballot) least new h = h
not_aged old (ask.Accept key ballot era ride state) least new h = h
not_aged old (ask.Ages tag ages) least new h = h
not_aged old (ask.Remove key tomb) least new h = h
not_aged old (ask.List tag after) least new h = h
not_aged old (ask.Probe tag key) least new h = h

-- a request whose age is not too low is told what its question is
pub handled : (old : Contents) (request : Request) (answer : Tell) (new : Contents) → least_age old.ages request.from ≤ request.age → Answers old request.ask answer new → Handles old request answer new
handled old request (tell.Aged least) new old_enough h = absurd (not_aged old request.ask least new h)
handled old request (tell.Promised accepted) new old_enough h = (old_enough, h)
handled old request tell.Accepted new old_enough h = (old_enough, h)
handled old request (tell.Met seen) new old_enough h = (old_enough, h)
handled old request tell.Full new old_enough h = (old_enough, h)
handled old request tell.AgesSet new old_enough h = (old_enough, h)
handled old request tell.Removed new old_enough h = (old_enough, h)
handled old request tell.Kept new old_enough h = (old_enough, h)
handled old request (tell.Listed after keys more) new old_enough h = (old_enough, h)
handled old request (tell.Probed promise accepted) new old_enough h = (old_enough, h)

-- what was kept before, or one outcome that the table allows
pub by_table : (old new : Contents) (request : Request) (answer : Tell) → Handles old request answer new → (left : Left) → IsOldOrNew old new left → LeavesByTable old request left
by_table old new request answer row left (inl same) = inl same
by_table old new request answer row left (inr other) = inr (answer, new, row, other)

-- a crash within a change for which there is room
pub leaves_by_table : {S : Type 0} (moment : S → ℕ) (left_since : S → ℕ → Left → Type 0) (before after : S) (old : Contents) (request : Request) (answer : Tell) (change : Change)
    → least_age old.ages request.from ≤ request.age → Decides old request.ask answer change → (HasNoRoomForChange old change → ⊥)
    → ShelfLeavesOnly moment left_since before after (IsOldOrNew old (changed old change)) → ShelfLeavesOnly moment left_since before after (LeavesByTable old request)
leaves_by_table moment left_since before after old request answer change old_enough decides room =
    leaves_weaker moment left_since before after (IsOldOrNew old (changed old change)) (LeavesByTable old request)
    (by_table old (changed old change) request answer (handled old request answer (changed old change) old_enough (decides.room room)))
