-- A tally, and what one more reply makes of it.
use Rattle.std.specs.Prelude.{ℕ, Bool, nat_le, if◌then◌else◌, max, List, [], Option, None, Some}
use Rattle.cas_ballot.specs.declared.ballot.Ballot.{Ballot}
use Rattle.cas_ballot.specs.Ballot.{greater_of}
use Rattle.cas_quorum.specs.Quorum.{count_in}
use Rattle.cas_slot.specs.declared.message.Tell.{Tell}
use Rattle.cas_slot.specs.declared.message.Tell.TheVariants as tell
use Rattle.cas_round.specs.declared.verdict.RoundVerdict.{RoundVerdict}
use Rattle.cas_round.specs.declared.verdict.RoundVerdict.TheVariants.{Quorum, Met, Aged, Full, Short}
use Rattle.cas_round.specs.declared.tally.Tally.{Tally}

-- of no reply
abbrev pub no_tally : Tally
no_tally = record { confirmed = []; met = None; aged = None; full = None }

-- the greater of what is kept and what is told
abbrev pub greatest_met : Option Ballot → Ballot → Ballot
greatest_met None told = told
greatest_met (Some met) told = greater_of met told

abbrev pub greatest_age : Option ℕ → ℕ → ℕ
greatest_age None told = told
greatest_age (Some aged) told = max aged told

abbrev pub least_full : Option ℕ → ℕ → ℕ
least_full None told = told
least_full (Some full) told = if nat_le full told then full else told

-- after an acceptor told why it does not confirm
abbrev pub refused_after : Tally → ℕ → Tell → Tally
refused_after tally from (tell.Met ballot) = record tally { met = Some (greatest_met tally.met ballot) }
refused_after tally from (tell.Aged least) = record tally { aged = Some (greatest_age tally.aged least) }
refused_after tally from tell.Full = record tally { full = Some (least_full tally.full from) }
refused_after tally from other = tally

-- the first that holds
abbrev pub short_by : Tally → List ℕ → ℕ → RoundVerdict
short_by tally members need = Short (count_in members tally.confirmed) need

abbrev pub unless_full : Option ℕ → RoundVerdict → RoundVerdict
unless_full None other = other
unless_full (Some acceptor) other = Full acceptor

abbrev pub unless_aged : Option ℕ → RoundVerdict → RoundVerdict
unless_aged None other = other
unless_aged (Some least) other = Aged least

abbrev pub unless_met : Option Ballot → RoundVerdict → RoundVerdict
unless_met None other = other
unless_met (Some ballot) other = Met ballot

abbrev pub verdict_by : Tally → Bool → List ℕ → ℕ → RoundVerdict
verdict_by tally quorum members need =
    if quorum then Quorum else unless_met tally.met (unless_aged tally.aged (unless_full tally.full (short_by tally members need)))
