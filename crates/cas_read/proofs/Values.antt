-- What members agree on of a key, as an answer to a read, is so.
use Rattle.std.proofs.Common.{◌≡◌, ◌≢◌, ℕ, true, List, length, reverse, Option, None, Some, Result, Ok, Err, sym, ap, subst, ◌∙◌}
use Rattle.std.specs.Prelude.{take, option_and_then, IfOk}
use Rattle.std.specs.List.{position}
use Rattle.std.proofs.Math.Seq.{take-append_seam}
use Rattle.cas_base.proofs.Bools.{if_true}
use Rattle.cas_ballot.specs.declared.ballot.Ballot.{Ballot}
use Rattle.cas_ballot.specs.Ballot.{zero_ballot}
use Rattle.cas_quorum.specs.declared.era.Era.{Era}
use Rattle.cas_quorum.specs.Era.{Meet}
use Rattle.cas_record.specs.declared.agreement.Agreement.{Agreement}
use Rattle.cas_record.specs.declared.agreement.Agreement.TheVariants as agreed
use Rattle.cas_record.specs.declared.answer.Answer.{Answer}
use Rattle.cas_record.specs.declared.mark.Mark.{Mark}
use Rattle.cas_record.specs.declared.read_answer.ReadAnswer.{ReadAnswer}
use Rattle.cas_record.specs.declared.operator.Probe.{Probe as Answered}
use Rattle.cas_record.specs.declared.operator.Probes.{Probes}
use Rattle.cas_record.specs.Agreement.{tells_in, is_agreed, place_of, IsAgreementOf}
use Rattle.cas_record.specs.Histories.Chain.{is_ballot}
use Rattle.cas_record.specs.Reading.{told_at, state_kept, read_of}
use Rattle.cas_record.proofs.Tests.{ballot_is}
use Rattle.cas_model.specs.Exchanges.ReadLaws.{IsReadSo}
use Rattle.cas_agreement.specs.Nothing.{HasNoFloorSince, IsSettledEmpty}
use Rattle.cas_agreement.proofs.Agreed.{told_there}
use Rattle.cas_turn.specs.Seen.{Begins}
use Rattle.cas_board_steps.specs.Exchanges.Orders.{IsAgreedIn, IsAgreedStateTrue, IsTrueAgreement, WasEmptyBehind}
use Rattle.cas_board.specs.declared.probing.Look.{Look}
use Rattle.cas_read.specs.Read.{answer_by, IsValueSoOnBoard, IsEmptySoOnBoard, IsAnswerSo}

-- ---- a key of which nothing was told
-- what is settled in a front leaves the empty state, if the register was empty behind it, and no floor was made since
empty_behind : (before all : List Mark) (key : List ℕ) → WasEmptyBehind (length before) all key → Begins before all
    → HasNoFloorSince key (reverse before) (reverse all) → IsSettledEmpty key (reverse before)
empty_behind before all key was goes none =
    let front : take (length before) all ≡ before = ap (take (length before)) (sym goes.whole) ∙ take-append_seam before goes.behind in
    subst (λ (l : List Mark). IsSettledEmpty key (reverse l)) front
    (was.before (length before) was.more (subst (λ (l : List Mark). HasNoFloorSince key (reverse l) (reverse all)) (sym front) none))

-- ---- the answer
module _ (before all : List Mark) (key : List ℕ) (goes : Begins before all) (none : HasNoFloorSince key (reverse before) (reverse all)) (found : Probes) (era : Era) (meets : Meet era era) where
  value_so : (ballot : Ballot) (at : Option ℕ) → is_agreed era found.probes.items ballot ≡ true → at ≡ place_of era.number ballot found.probes.items → IsAgreedStateTrue before all key found ballot at → ballot ≢ zero_ballot → IsValueSoOnBoard before all key (state_kept (told_at at found.probes.items)) ballot
  value_so ballot at agrees at_is true_ above =
      let it = told_there era found.probes.items ballot meets above agrees in
      let there : at ≡ Some it.place = at_is ∙ it.is in
      let both = true_.state it.place it.one it.told.promise it.told.accepted there it.at it.told.is in
      let so : IsReadSo (reverse before) (reverse all) key it.told.accepted = both.1 in
      let kept : state_kept (told_at at found.probes.items) ≡ it.told.accepted.state =
      ap (λ (o : Option ℕ). state_kept (told_at o found.probes.items)) there ∙ ap (λ (o : Option Answered). state_kept (option_and_then (λ (x : Answered). x.told) o)) it.at ∙ ap state_kept it.told.is in
      subst (λ (b : Ballot). IsValueSoOnBoard before all key (state_kept (told_at at found.probes.items)) b) both.0 (record { is = kept ∙ so.state; goes_on = so.goes_on; begins = so.begins })

  empty_so : (ballot : Ballot) (at : Option ℕ) → at ≡ place_of era.number ballot found.probes.items → IsAgreedStateTrue before all key found ballot at → ballot ≡ zero_ballot
      → IsEmptySoOnBoard before key (state_kept (told_at at found.probes.items))
  empty_so ballot at at_is true_ same = record {
    is = ap (λ (o : Option ℕ). state_kept (told_at o found.probes.items)) (at_is ∙ if_true (is_ballot ballot zero_ballot) None (position (tells_in era.number ballot) found.probes.items) (ballot_is same));
    was = empty_behind before all key (true_.nothing same) goes none;
  }

  answer_so : (agreement : Agreement) → IsAgreementOf era found.probes.items agreement → IsTrueAgreement before all key found agreement → IsAnswerSo before all (read_of key agreement found.probes.items)
  answer_so (agreed.Value ballot at) agrees true_ = ((λ above. value_so ballot at agrees.0 agrees.1 true_ above), (λ same. empty_so ballot at agrees.1 true_ same))
  answer_so (agreed.Short got need) agrees true_ = tt
  answer_so (agreed.NotAgreed least most) agrees true_ = tt
  answer_so (agreed.OldEra ballot number) agrees true_ = tt

-- what is answered is made from the look, and names the key that was copied
pub answered : (key named : List ℕ) (looked : Result Look Answer) (look : Look) (answer : ReadAnswer) → named ≡ key → looked ≡ Ok look → answer ≡ read_of named look.agreement look.found.probes.items → answer ≡ answer_by key looked
answered key named looked look answer same is_look made = made ∙ ap (λ (k : List ℕ). read_of k look.agreement look.found.probes.items) same ∙ sym (ap (answer_by key) is_look)

pub look_so : (tells : Type 0) (before all : List Mark) (key : List ℕ) → Begins before all → HasNoFloorSince key (reverse before) (reverse all)
    → (looked : Result Look Answer) → IfOk looked (λ look. IsAgreedIn tells tells all look.found look.agreement) → IfOk looked (λ look. IsTrueAgreement before all key look.found look.agreement) → IsAnswerSo before all (answer_by key looked)
look_so tells before all key goes none (Ok look) agreed_in true_ = answer_so before all key goes none look.found agreed_in.era agreed_in.meets look.agreement agreed_in.agrees true_
look_so tells before all key goes none (Err why) agreed_in true_ = tt
