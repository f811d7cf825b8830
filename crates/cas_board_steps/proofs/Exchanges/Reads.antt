-- What a read marks is nobody's, and what members told of a key stays true as more is marked.
use Rattle.std.proofs.Common.{◌≡◌, ◌≤◌, ℕ, false, List, [], ◌∷◌, ◌++◌, length, map, reverse, Option, Some, refl, sym, ap, subst, ◌∙◌, inl, inr, arith}
use Rattle.std.specs.Prelude.{All, take, Contains}
use Rattle.std.proofs.lemmas.List.{reverse-append, take-append-le}
use Rattle.std.proofs.lemmas.List.Elements.{All-nil, All-cons}
use Rattle.cas_ballot.specs.declared.ballot.Ballot.{Ballot}
use Rattle.cas_quorum.specs.declared.era.Era.{Era}
use Rattle.cas_record.specs.Logs.Happening.{Happening, Marked, marks_of}
use Rattle.cas_record.specs.Logs.Lawful.{Cluster, Lawful}
use Rattle.cas_record.specs.Logs.Orderly.{IsAboveFloors}
use Rattle.cas_record.specs.Places.{Stands}
use Rattle.cas_record.proofs.PlaceLemmas.{stands_later}
use Rattle.cas_record.specs.declared.mark.Acknowledgment.{Acknowledgment}
use Rattle.cas_record.specs.declared.mark.Mark.{Mark}
use Rattle.cas_record.specs.declared.mark.Mark.TheVariants.{Acked, Voted}
use Rattle.cas_record.specs.declared.operator.Probe.{Probe as ProbeOf}
use Rattle.cas_slot.specs.declared.message.Tell.{Tell}
use Rattle.cas_slot.specs.declared.message.Tell.TheVariants as tell
use Rattle.cas_slot.specs.declared.slot.Accepted.{Accepted}
use Rattle.cas_protocol.proofs.Growing.{accepted_grows}
use Rattle.cas_protocol.specs.Acceptors.{IsAcceptedState}
use Rattle.cas_protocol.specs.Reads.{acknowledgment_of}
use Rattle.cas_model.specs.Eras.Course.{CourseIsUnderWay, course_of, next_era}
use Rattle.cas_model.specs.Exchanges.Read.{MarksRead, counted, nothing, holders_of}
use Rattle.cas_model.specs.Exchanges.Step.{everyone}
use Rattle.cas_model.specs.History.{IsRemembered}
use Rattle.cas_model.specs.Safe.{IsSafe}
use Rattle.cas_model.specs.View.{Meaning, View, era_at}
use Rattle.cas_model.proofs.Eras.Courses.{leads}
use Rattle.cas_model_causes.specs.Exchanges.Confirmed.{IsAhead, IsUnled, era_marked}
use Rattle.cas_model_causes.specs.Exchanges.Current.{IsCurrentTell, AreCurrentTells}
use Rattle.cas_model_causes.specs.Exchanges.Unaged.{AreToldSo}
use Rattle.cas_model_causes.proofs.Exchanges.Confirmed.{eras_are_marked, confirmers_are_asked}
use Rattle.cas_turn.specs.Seen.{OnlyOwnedBy}
use Rattle.cas_board_steps.specs.Exchanges.Orders.{AreAllConfirmers}
use Rattle.cas_board_steps.specs.Mine.{mine}
use Rattle.cas_board_steps.specs.Owners.{MayAdd, is_answer, owner_of}
use Rattle.cas_board_steps.proofs.Calls.Events.{only_one}

-- ---- whose they are
-- nobody's, and none of them is an answer
pub record AreNobodys (marks : List Mark) : Type 0 where
  pub none_mine : mine 0 marks ≡ []
  pub no_answers : All (λ mark. is_answer mark ≡ false) marks
  pub may_add : MayAdd marks
  pub only : OnlyOwnedBy owner_of 0 marks

pub nobodys_none : AreNobodys []
nobodys_none = record { none_mine = refl; no_answers = All-nil (λ mark. is_answer mark ≡ false); may_add = tt; only = All-nil (λ i. (m : ℕ) → owner_of i ≡ Some m → m ≡ 0) }

votes_nobodys : (key : List ℕ) (ballot : Ballot) (a : Acknowledgment) (by : List ℕ) → AreNobodys (map (λ acceptor. Voted acceptor key ballot) by ++ Acked a ∷ [])
votes_nobodys key ballot a [] = record {
  none_mine = refl;
  no_answers = All-cons (λ mark. is_answer mark ≡ false) (Acked a) [] refl (All-nil (λ mark. is_answer mark ≡ false));
  may_add = (tt, tt);
  only = only_one 0 (Acked a) (λ m e. absurd (cc e));
}
votes_nobodys key ballot a (one ∷ by) =
    let rest = votes_nobodys key ballot a by in
    let later : List Mark = map (λ acceptor. Voted acceptor key ballot) by ++ Acked a ∷ [] in
    record {
      none_mine = rest.none_mine;
      no_answers = All-cons (λ mark. is_answer mark ≡ false) (Voted one key ballot) later refl rest.no_answers;
      may_add = (rest.no_answers, rest.may_add);
      only = All-cons (λ i. (m : ℕ) → owner_of i ≡ Some m → m ≡ 0) (Voted one key ballot) later (λ m e. absurd (cc e)) rest.only;
    }

pub read_nobodys : (era : Era) (key : List ℕ) (found : List ProbeOf) (older marks : List Mark) → MarksRead era key found older marks → AreNobodys marks
read_nobodys era key found older marks (counted accepted agree above same) = subst AreNobodys (sym same) (votes_nobodys key accepted.ballot (acknowledgment_of key accepted (holders_of accepted.ballot found)) (holders_of accepted.ballot found))
read_nobodys era key found older marks (nothing none same) = subst AreNobodys (sym same) nobodys_none

-- ---- what was told stays true
grows_on : (cluster : Cluster) (log : List Happening) (older more : List Mark) (key : List ℕ) (accepted : Option Accepted) → Lawful cluster log → marks_of log ≡ more ++ older → IsAcceptedState older key accepted → IsAcceptedState (marks_of log) key accepted
grows_on cluster [] older [] key accepted lawful are was = subst (λ (l : List Mark). IsAcceptedState l key accepted) (sym are) was
grows_on cluster [] older (x ∷ more) key accepted lawful are was = absurd (cc are)
grows_on cluster (Marked mark ∷ log) older [] key accepted lawful are was = subst (λ (l : List Mark). IsAcceptedState l key accepted) (sym are) was
grows_on cluster (Marked mark ∷ log) older (x ∷ more) key accepted lawful are was =
    let rest : marks_of log ≡ more ++ older = cc are in
    accepted_grows cluster (Marked mark) log key accepted lawful (grows_on cluster log older more key accepted lawful.0 rest was)
grows_on cluster (h ∷ log) older more key accepted lawful are was = accepted_grows cluster h log key accepted lawful (grows_on cluster log older more key accepted lawful.0 are was)

module _ {S V : Type 0} (m : Meaning S V) (new : View S V) (old more : List Mark) (made : new.marks ≡ old ++ more) (key : List ℕ) where
  backwards : reverse new.marks ≡ reverse more ++ reverse old
  backwards = ap (λ (l : List Mark). reverse l) made ∙ reverse-append old more

  pub told_still : IsRemembered m new → (found : List ProbeOf) → AreToldSo (reverse old) key found → AreToldSo (reverse new.marks) key found
  told_still is found so place one told at is_told =
      let was = so place one told at is_told in
      record {
        promise = was.promise;
        accepted = was.accepted;
        is = was.is;
        so = subst (λ (l : List Mark). IsAcceptedState l key was.accepted) is.followed.logged.agrees.marks
            (grows_on is.followed.cluster is.followed.logged.global.log (reverse old) (reverse more) key was.accepted is.followed.logged.history.lawful (is.followed.logged.agrees.marks ∙ backwards) was.so);
      }

  above_before : (ballot : Ballot) → IsAboveFloors (reverse new.marks) key ballot → IsAboveFloors (reverse old) key ballot
  above_before ballot above = record { above = λ stands. above.above (subst (Stands _) (sym backwards) (stands_later (reverse more) stands)) }

  tell_still : (many acceptor : ℕ) (t : Tell) → many ≤ length old → IsCurrentTell (reverse old) (take many old) key acceptor t → IsCurrentTell (reverse new.marks) (take many new.marks) key acceptor t
  tell_still many acceptor (tell.Probed promise accepted) low was = λ a among same member above.
      was a (subst (λ (l : List Mark). Contains l (Acked a)) (ap (λ (l : List Mark). take many l) made ∙ take-append-le many old more low) among) same member (above_before a.ballot above)
  tell_still many acceptor (tell.Aged least) low was = tt
  tell_still many acceptor (tell.Promised accepted) low was = tt
  tell_still many acceptor tell.Accepted low was = tt
  tell_still many acceptor (tell.Met seen) low was = tt
  tell_still many acceptor tell.Full low was = tt
  tell_still many acceptor tell.AgesSet low was = tt
  tell_still many acceptor tell.Removed low was = tt
  tell_still many acceptor tell.Kept low was = tt
  tell_still many acceptor (tell.Listed after keys more_) low was = tt

  pub current_still : (many : ℕ) (found : List ProbeOf) → many ≤ length old → AreCurrentTells (reverse old) (take many old) key found → AreCurrentTells (reverse new.marks) (take many new.marks) key found
  current_still many found low was place one t at is_told = tell_still many one.acceptor t low (was place one t at is_told)

-- ---- where proposer 0 works
-- it is not ahead of its marks
not_ahead : {S V : Type 0} (view : View S V) → IsSafe view → IsUnled (course_of view) → IsAhead view → ⊥
not_ahead view safe unled ahead =
    let moving : CourseIsUnderWay (course_of view) (Some ahead.plan) = subst (CourseIsUnderWay (course_of view)) ahead.is_plan safe.course.under_way in
    let follows = (leads ahead.plan.progress.era (era_at view 0) ahead.plan.progress.left (ap next_era (sym ahead.is_plan) ∙ ahead.next) moving.start).follows in
    let same : (era_at view 0).number ≡ ahead.plan.progress.era.number = ap (λ (e : Era). e.number) (unled ahead.plan ahead.is_plan ahead.unmarked) in
    omega (arith, follows.number, same)

pub era_is_marked : {S V : Type 0} (m : Meaning S V) (view : View S V) → IsSafe view → IsRemembered m view → IsUnled (course_of view) → (era_at view 0).number ≡ era_marked 0 (reverse view.marks)
era_is_marked m view safe is unled = elim (eras_are_marked m view safe is) [
  | inl same ↦ same
  | inr ahead ↦ absurd (not_ahead view safe unled ahead)
]

pub all_confirmers : {S V : Type 0} (m : Meaning S V) (view : View S V) → IsSafe view → IsRemembered m view → IsUnled (course_of view) → AreAllConfirmers (reverse view.marks) (everyone view)
all_confirmers m view safe is unled a acceptor stands era confirms = confirmers_are_asked m view a acceptor is stands (era ∙ sym (era_is_marked m view safe is unled)) confirms
