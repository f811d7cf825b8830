-- Which marks tell of no conflict, and so of any number of rounds.
use Rattle.std.proofs.Common.{◌≡◌, ◌≤◌, ◌<◌, ℕ, zero, suc, true, false, List, refl, arith}
use Rattle.std.proofs.lemmas.List.Elements.{All-weaker}
use Rattle.cas_record.specs.declared.answer.Answer.{Answer}
use Rattle.cas_record.specs.declared.answer.Answer.TheVariants as answer
use Rattle.cas_record.specs.declared.mark.Mark.{Mark}
use Rattle.cas_record.specs.declared.mark.Mark.TheVariants.{Begun, Proposed, Voted, Acked, Floor, EraEntered, Ended, Harmed, Told}
use Rattle.cas_record.specs.declared.operator.Asked.{Asked}
use Rattle.cas_record.specs.declared.operator.OpAnswer.{OpAnswer}
use Rattle.cas_protocol.specs.Protocol.{is_done}
use Rattle.cas_model.specs.View.{View}
use Rattle.cas_board_steps.specs.Collection.Collecting.{IsTombstoneMark, IsCollectingMark, most_rounds}
use Rattle.cas_board_steps.specs.Calls.Conflicts.{is_conflict}
use Rattle.cas_board_steps.specs.Eras.Membership.{IsPlanMark, IsRescanMark}
use Rattle.cas_board_steps.specs.Mine.{mine}
use Rattle.cas_board_steps.specs.Exchanges.Orders.{IsToldIn}

-- what is done is no conflict
pub done_no_conflict : (told : Answer) → is_done told ≡ true → is_conflict told ≡ false
done_no_conflict (answer.Done state took ballot) done = refl
done_no_conflict (answer.Conflict met) done = absurd (cc done)
done_no_conflict (answer.Aged least) done = refl
done_no_conflict (answer.Full acceptor) done = refl
done_no_conflict (answer.Short got need) done = refl
done_no_conflict (answer.Moved era) done = refl
done_no_conflict answer.Crashed done = refl
done_no_conflict (answer.Unsettled why) done = refl
done_no_conflict answer.Down done = refl
done_no_conflict answer.VaultFault done = refl
done_no_conflict answer.Spent done = refl
done_no_conflict answer.RecordFull done = refl
done_no_conflict (answer.NoMemory proposed) done = refl

-- what ends no call with a conflict may stand where so many rounds are asked of one that does
pub rescan_within : (tries : ℕ) (mark : Mark) → IsPlanMark mark → IsRescanMark tries mark
rescan_within tries (Proposed p) is = tt
rescan_within tries (Harmed caller one down) is = tt
rescan_within tries (Begun caller one key program) is = is
rescan_within tries (Voted acceptor key ballot) is = tt
rescan_within tries (Acked a) is = tt
rescan_within tries (Floor key ballot state) is = tt
rescan_within tries (EraEntered proposer number) is = tt
rescan_within tries (Ended caller one rounds told) is = λ conflict. absurd (cc (is, conflict))
rescan_within tries (Told asked told) is = is

pub tombstone_within : (key : List ℕ) (tries : ℕ) (mark : Mark) → IsTombstoneMark key mark → IsCollectingMark key tries mark
tombstone_within key tries (Proposed p) is = tt
tombstone_within key tries (Harmed caller one down) is = tt
tombstone_within key tries (Begun caller one other program) is = is
tombstone_within key tries (Ended caller one rounds told) is = λ conflict. absurd (cc (is, conflict))
tombstone_within key tries (Voted acceptor other ballot) is = is
tombstone_within key tries (Acked a) is = is
tombstone_within key tries (Floor other ballot state) is = is
tombstone_within key tries (EraEntered proposer number) is = is
tombstone_within key tries (Told asked told) is = is

pub told_within : {S V Q : Type 0} {asks : Asked} {most : ℕ} {old new : View S V} {told : OpAnswer} (key : List ℕ) (tries : ℕ) → IsToldIn asks (IsTombstoneMark key) most old new told × Q → IsToldIn asks (IsCollectingMark key tries) most old new told × Q
told_within key tries (t, q) = (record { marks = t.marks; makes = t.makes; all_such = All-weaker (IsTombstoneMark key) (IsCollectingMark key tries) (tombstone_within key tries) (mine 0 t.marks) t.all_such; few = t.few; is_free = t.is_free; counts = λ enters. absurd (enters 0 0); keeps = λ not. t.keeps (λ enters. enters 0 0) }, q)

-- ---- how many rounds there may be
pub most_some : (tries : ℕ) → 1 ≤ most_rounds tries
most_some zero = omega arith
most_some (suc n) = omega arith

pub most_is : (tries : ℕ) → 1 ≤ tries → most_rounds tries ≡ tries
most_is zero some = absurd (omega (arith, some))
most_is (suc n) some = refl

-- there may be another
pub most_above : (tries rounds : ℕ) → rounds < tries → rounds < most_rounds tries
most_above zero rounds low = absurd (omega (arith, low))
most_above (suc n) rounds low = low

-- and with none left it has had all
pub most_spent : (tries rounds : ℕ) → 1 ≤ rounds → rounds ≤ most_rounds tries → tries ≤ rounds → rounds ≡ most_rounds tries
most_spent zero rounds some within spent = omega (arith, some, within)
most_spent (suc n) rounds some within spent = omega (arith, within, spent)
