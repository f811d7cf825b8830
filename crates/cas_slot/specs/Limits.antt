-- What a slot, a question and an answer may hold: ballots within their limits, and listings in order.
use Rattle.std.specs.Prelude.{◌≡◌, ℕ, Bool, IsTrue, List, length, Option, IfSome}
use Rattle.cas_ballot.specs.Ballot.{FitsBallot}
use Rattle.cas_slot.specs.declared.slot.Slot.{Slot}
use Rattle.cas_slot.specs.declared.message.Ask.{Ask}
use Rattle.cas_slot.specs.declared.message.Ask.TheVariants as ask
use Rattle.cas_slot.specs.declared.message.Tell.{Tell}
use Rattle.cas_slot.specs.declared.message.Tell.TheVariants as tell
use Rattle.cas_slot.specs.Contents.{Contents, kept_at}
use Rattle.cas_slot.specs.Slots.{rises}

-- the ballots of a slot, and of a question, are within their limits
pub record SlotBallotsFit (slot : Slot) : Type 0 where
  pub promise : FitsBallot slot.promise
  pub accepted : IfSome slot.accepted (λ a. FitsBallot a.ballot)

abbrev pub AskBallotsFit : Ask → Type 0
AskBallotsFit (ask.Prepare key ballot) = FitsBallot ballot
AskBallotsFit (ask.Accept key ballot era ride state) = FitsBallot ballot × IfSome ride FitsBallot
AskBallotsFit (ask.Ages tag least) = FitsBallot tag
AskBallotsFit (ask.Remove key tomb) = FitsBallot tomb
AskBallotsFit (ask.List tag after) = FitsBallot tag
AskBallotsFit (ask.Probe tag key) = FitsBallot tag

-- a listing's keys rise above the one gone on after, and there are four where more follow
abbrev pub CanBeListed : Option (List ℕ) → List (List ℕ) → Bool → Type 0
CanBeListed after keys more = IsTrue (rises after keys) × (IsTrue more → length keys ≡ 4)

-- the ballots of an answer are within their limits, and its listing is one that can be
abbrev pub TellFits : Tell → Type 0
TellFits (tell.Promised accepted) = IfSome accepted (λ a. FitsBallot a.ballot)
TellFits (tell.Met ballot) = FitsBallot ballot
TellFits (tell.Probed promise accepted) = FitsBallot promise × IfSome accepted (λ a. FitsBallot a.ballot)
TellFits (tell.Listed after keys more) = CanBeListed after keys more
-- no other answer names a ballot
TellFits other = Unit {0}

-- the ballots of each slot are within their limits
abbrev pub AllBallotsFit : Contents → Type 0
AllBallotsFit contents = (key : List ℕ) → IfSome (kept_at contents key) SlotBallotsFit
