-- That what is read of a key is so, by the marks before and after.
use Rattle.std.proofs.Common.{◌≡◌, ◌≤◌, ℕ, true, List, [], ◌∷◌, ◌++◌, length, length-append, map, reverse, Option, None, Some, sym, ap, subst, ◌∙◌, append_assoc, arith}
use Rattle.std.specs.Prelude.{take, drop}
use Rattle.std.proofs.lemmas.List.{reverse-append, take-append-drop, take-append-le, length-take-le, length-reverse}
use Rattle.cas_ballot.specs.Ballot.{zero_ballot}
use Rattle.cas_ballot.specs.declared.ballot.Ballot.{Ballot}
use Rattle.cas_quorum.specs.declared.era.Era.{Era}
use Rattle.cas_record.specs.Agreement.{IsAgreementOf, is_agreed, place_of}
use Rattle.cas_record.specs.Histories.Chain.{settled_of}
use Rattle.cas_record.specs.Legal.{IsLegal}
use Rattle.cas_record.specs.Places.{IsOlderPart, IsPrefix, whole, later}
use Rattle.cas_record.specs.declared.agreement.Agreement.{Agreement}
use Rattle.cas_record.specs.declared.agreement.Agreement.TheVariants as agreed
use Rattle.cas_record.specs.declared.mark.Mark.{Mark}
use Rattle.cas_record.specs.declared.operator.OpAnswer.{OpAnswer}
use Rattle.cas_record.specs.declared.operator.OpAnswer.TheVariants as op
use Rattle.cas_record.specs.declared.operator.Probe.{Probe as ProbeOf}
use Rattle.cas_record.specs.declared.operator.Probes.{Probes}
use Rattle.cas_slot.specs.declared.slot.Accepted.{Accepted}
use Rattle.cas_model.specs.Council.{ExchangeView}
use Rattle.cas_model.specs.Exchanges.Read.{AgreeAt}
use Rattle.cas_model.specs.Exchanges.ReadLaws.{IsReadGathered, IsReadSo, WasEmptyOnce, marks_before}
use Rattle.cas_model.specs.History.{IsRemembered}
use Rattle.cas_model.specs.View.{Meaning, View, IsAt}
use Rattle.cas_model.proofs.Exchanges.ReadLaws.{reads_are_so, reads_of_nothing_are_so}
use Rattle.cas_model.proofs.Openings.Opens.{remembered_legal}
use Rattle.cas_board_steps.specs.Exchanges.Orders.{IsAgreedStateTrue, IsTrueAgreement, IsTrueRead}
use Rattle.cas_agreement.specs.Nothing.{HasNoFloorSince, IsSettledEmpty}
use Rattle.cas_agreement.specs.Told.{Rises}
use Rattle.cas_agreement.proofs.Nothing.{reads_find_nothing}
use Rattle.cas_agreement.proofs.Agreed.{agree_at, agree_on}

-- ---- fronts of a record
part_behind : {A : Type 0} (newer older : List A) → IsOlderPart older (newer ++ older)
part_behind [] older = whole
part_behind (x ∷ newer) older = later (part_behind newer older)

-- the marks of a front, newest first, are an older part of those of a front that goes on from it
pub front_part : {A : Type 0} (front behind : List A) → IsOlderPart (reverse front) (reverse (front ++ behind))
front_part front behind = subst (IsOlderPart (reverse front)) (sym (reverse-append front behind)) (part_behind (reverse behind) (reverse front))

prefix_then : {A : Type 0} (a b c : List A) → IsPrefix a b → IsPrefix b c → IsPrefix a c
prefix_then a b c first second = record { rest = first.rest ++ second.rest; joins = second.joins ∙ ap (λ l. l ++ second.rest) first.joins ∙ append_assoc a first.rest second.rest }

-- ---- a read that is so behind more marks is so behind fewer
module _ (fewer more all : List Mark) (behind : List Mark) (first : fewer ++ behind ≡ more) (after : List Mark) (second : more ++ after ≡ all) (legal : IsLegal (reverse all)) (key : List ℕ) where
  grew : IsPrefix (settled_of key (reverse fewer)) (settled_of key (reverse more))
  grew = legal.only_grows (subst (λ l. IsOlderPart (reverse more) (reverse l)) second (front_part more after)) (subst (λ l. IsOlderPart (reverse fewer) (reverse l)) first (front_part fewer behind)) key

  longer : length fewer ≤ length more
  longer = omega (arith, ap (λ (l : List Mark). length l) first, length-append fewer behind)

  pub so_earlier : (accepted : Accepted) → IsReadSo (reverse more) (reverse all) key accepted → IsReadSo (reverse fewer) (reverse all) key accepted
  so_earlier accepted so = record { state = so.state; goes_on = prefix_then _ _ _ grew so.goes_on; begins = so.begins }

  read_earlier : (found : Probes) (ballot : Ballot) (at : Option ℕ) → IsAgreedStateTrue more all key found ballot at → IsAgreedStateTrue fewer all key found ballot at
  read_earlier found ballot at is = record {
    nothing = λ zero. let was = is.nothing zero in record { since = was.since; more = omega (arith, longer, was.more); empty = was.empty; before = was.before };
    state = λ place one promise accepted at_is at_one told. let so = is.state place one promise accepted at_is at_one told in (so.0, so_earlier accepted so.1);
  }

  agreement_earlier : (found : Probes) (agreement : Agreement) → IsTrueAgreement more all key found agreement → IsTrueAgreement fewer all key found agreement
  agreement_earlier found (agreed.Value ballot at) is = read_earlier found ballot at is
  agreement_earlier found (agreed.Short got need) is = tt
  agreement_earlier found (agreed.NotAgreed low high) is = tt
  agreement_earlier found (agreed.OldEra ballot number) is = tt

pub true_earlier : (fewer more all behind after : List Mark) → fewer ++ behind ≡ more → more ++ after ≡ all → IsLegal (reverse all) → (told : OpAnswer) (agreement : Option Agreement) → IsTrueRead more all told agreement → IsTrueRead fewer all told agreement
true_earlier fewer more all behind after first second legal (op.Probed key found) (Some agreement) is = agreement_earlier fewer more all behind first after second legal key found agreement is
true_earlier fewer more all behind after first second legal (op.Probed key found) None is = tt
true_earlier fewer more all behind after first second legal (op.Joined id era rescanned) agreement is = tt
true_earlier fewer more all behind after first second legal (op.Left id era rescanned) agreement is = tt
true_earlier fewer more all behind after first second legal (op.Resized need_prep need_acc era rescanned) agreement is = tt
true_earlier fewer more all behind after first second legal (op.Refused fault) agreement is = tt
true_earlier fewer more all behind after first second legal (op.Busy era) agreement is = tt
true_earlier fewer more all behind after first second legal (op.Collected other ballot removed kept) agreement is = tt
true_earlier fewer more all behind after first second legal (op.NotEmpty version) agreement is = tt
true_earlier fewer more all behind after first second legal (op.Absent acceptor) agreement is = tt
true_earlier fewer more all behind after first second legal (op.ProposerDown proposer) agreement is = tt
true_earlier fewer more all behind after first second legal (op.Stopped why) agreement is = tt

-- ---- a read that is gathered
take_shorter : {A : Type 0} (many since : ℕ) (l : List A) → many ≤ since → since ≤ length l → (behind : List A) × (take many l ++ behind ≡ take since l)
take_shorter many since l fewer low =
    let same : take many l ≡ take many (take since l) = ap (λ f. take many f) (sym (take-append-drop since l)) ∙ take-append-le many (take since l) (drop since l) (omega (arith, fewer, length-take-le since l low)) in
    (drop many (take since l), ap (λ f. f ++ drop many (take since l)) same ∙ take-append-drop many (take since l))

module _ {S V : Type 0} (m : Meaning S V) (old new : View S V) (exchange : ExchangeView) (key : List ℕ) (era : Era) (is : IsRemembered m old) (now : IsRemembered m new) (gathered : IsReadGathered old exchange key era new) (more : List Mark) (made : new.marks ≡ old.marks ++ more) (low : exchange.since ≤ length old.marks) (rises : Rises (map (λ p. p.acceptor) exchange.told)) where
  since_same : take exchange.since new.marks ≡ take exchange.since old.marks
  since_same = ap (λ (l : List Mark). take exchange.since l) made ∙ take-append-le exchange.since old.marks more low

  long : exchange.since ≤ length new.marks
  long = omega (arith, low, ap (λ (l : List Mark). length l) made, length-append old.marks more)

  read_now : (found : Probes) (ballot : Ballot) (at : Option ℕ) → found.probes.items ≡ exchange.told → is_agreed era exchange.told ballot ≡ true → at ≡ place_of era.number ballot exchange.told → IsAgreedStateTrue (take exchange.since new.marks) new.marks key found ballot at
  read_now found ballot at keeps agrees at_is = record {
    nothing = λ zero. record {
      since = exchange.since;
      more = few;
      empty = subst (λ (l : List Mark). WasEmptyOnce (reverse l) (reverse new.marks) key) (sym since_same) (empty_at zero).1;
      before = λ few short none. found_empty zero few short none;
    };
    state = λ place one promise accepted place_is at_one told.
        let on = agree_on exchange.told rises era ballot place one promise accepted agrees (sym place_is ∙ at_is) (subst (λ (l : List ProbeOf). IsAt l place one) keeps at_one) told in
        (on.1, subst (λ (l : List Mark). IsReadSo (reverse l) (reverse new.marks) key accepted) (sym since_same) (reads_are_so m old new exchange key era accepted is gathered on.0));
  }
    where
      few : length (take exchange.since new.marks) ≤ exchange.since
      few = omega (arith, length-take-le exchange.since new.marks long)

      at_zero : ballot ≡ zero_ballot → AgreeAt era exchange.told zero_ballot
      at_zero zero = agree_at exchange.told rises era zero_ballot (subst (λ (b : Ballot). is_agreed era exchange.told b ≡ true) zero agrees)

      empty_at : ballot ≡ zero_ballot → (new.marks ≡ old.marks) × WasEmptyOnce (marks_before old exchange) (reverse new.marks) key
      empty_at zero = reads_of_nothing_are_so m old new exchange key era is gathered (at_zero zero)

      found_empty : ballot ≡ zero_ballot → (so_many : ℕ) → so_many ≤ exchange.since → HasNoFloorSince key (reverse (take so_many new.marks)) (reverse new.marks)
          → IsSettledEmpty key (reverse (take so_many new.marks))
      found_empty zero so_many short none =
          let part = subst (λ (l : List Mark). IsOlderPart (reverse (take so_many new.marks)) (reverse l)) (take-append-drop so_many new.marks) (front_part (take so_many new.marks) (drop so_many new.marks)) in
          let size : length (reverse (take so_many new.marks)) ≤ exchange.since = omega (arith, length-reverse (take so_many new.marks), length-take-le so_many new.marks (omega (arith, short, long)), short) in
          reads_find_nothing m old new exchange key era (reverse (take so_many new.marks)) is gathered (at_zero zero)
          (subst (λ (l : List Mark). IsOlderPart (reverse (take so_many new.marks)) (reverse l)) (empty_at zero).0 part) size
          (subst (λ (l : List Mark). HasNoFloorSince key (reverse (take so_many new.marks)) (reverse l)) (empty_at zero).0 none)

  gathered_truly : (found : Probes) (agreement : Agreement) → found.probes.items ≡ exchange.told → IsAgreementOf era found.probes.items agreement → IsTrueAgreement (take exchange.since new.marks) new.marks key found agreement
  gathered_truly found (agreed.Value ballot at) keeps agrees = let parts = subst (λ (l : List ProbeOf). IsAgreementOf era l (agreed.Value ballot at)) keeps agrees in read_now found ballot at keeps parts.0 parts.1
  gathered_truly found (agreed.Short got need) keeps agrees = tt
  gathered_truly found (agreed.NotAgreed least most) keeps agrees = tt
  gathered_truly found (agreed.OldEra ballot number) keeps agrees = tt

  -- so it is behind fewer marks
  pub read_truly : (many : ℕ) → many ≤ exchange.since → (found : Probes) (agreement : Agreement) → found.probes.items ≡ exchange.told → IsAgreementOf era found.probes.items agreement → IsTrueAgreement (take many new.marks) new.marks key found agreement
  read_truly many fewer found agreement keeps agrees =
      let first = take_shorter many exchange.since new.marks fewer long in
      agreement_earlier (take many new.marks) (take exchange.since new.marks) new.marks first.0 first.1 (drop exchange.since new.marks) (take-append-drop exchange.since new.marks) (remembered_legal m new now) key found agreement (gathered_truly found agreement keeps agrees)
