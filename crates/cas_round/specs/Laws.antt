-- The order of replies is no matter.
use Rattle.std.specs.Prelude.{◌≡◌, List, Option, Contains, option_map}
use Rattle.cas_ballot.specs.declared.ballot.Ballot.{Ballot}
use Rattle.cas_quorum.specs.declared.era.Era.{Era}
use Rattle.cas_slot.specs.declared.slot.Accepted.{Accepted}
use Rattle.cas_slot.specs.declared.message.Reply.{Reply}
use Rattle.cas_round.specs.declared.verdict.RoundVerdict.{RoundVerdict}
use Rattle.cas_round.specs.Replies.{is_prepare, heard, accepteds_of}
use Rattle.cas_round.specs.Round.{IsPrepareVerdict, IsAcceptVerdict, IsRead}

-- each reply of either list is in the other
pub record SameReplies (xs ys : List Reply) : Type 0 where
  pub forth : (reply : Reply) → Contains xs reply → Contains ys reply
  pub back : (reply : Reply) → Contains ys reply → Contains xs reply

-- by the same replies there is one verdict of each phase
abbrev pub OneVerdict : Type 0
OneVerdict = (era : Era) (ballot : Ballot) (xs ys : List Reply) → SameReplies xs ys → (v w : RoundVerdict)
    → (IsPrepareVerdict era ballot xs v → IsPrepareVerdict era ballot ys w → v ≡ w)
    × (IsAcceptVerdict era ballot xs v → IsAcceptVerdict era ballot ys w → v ≡ w)

-- what the replies tell as accepted at one ballot is one state
abbrev pub HasOneStateEach : Ballot → List Reply → Type 0
HasOneStateEach ballot replies = (p q : Accepted) → Contains (accepteds_of (heard is_prepare ballot replies)) p → Contains (accepteds_of (heard is_prepare ballot replies)) q
    → p.ballot ≡ q.ballot → p ≡ q

-- by the same replies there is one ballot that is read, or none; and one state, where the replies tell one for each ballot
abbrev pub OneRead : Type 0
OneRead = (ballot : Ballot) (xs ys : List Reply) → SameReplies xs ys → (a b : Option Accepted) → IsRead ballot xs a → IsRead ballot ys b
    → (option_map (λ read. read.ballot) a ≡ option_map (λ read. read.ballot) b) × (HasOneStateEach ballot xs → a ≡ b)
