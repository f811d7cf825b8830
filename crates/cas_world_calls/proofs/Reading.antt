-- What the code finds of what members agree on.
use Rattle.std.proofs.Common.{◌≡◌, ℕ, zero, suc, Bool, true, false, List, [], ◌∷◌, Option, None, Some, refl, sym, ap, subst, ◌∙◌}
use Rattle.std.specs.Prelude.{◌&&◌, ◌==◌, if◌then◌else◌, Result, Ok, Err, IfOk}
use Rattle.std.specs.Ordering.{is_lt}
use Rattle.cas_base.proofs.Bools.{if_true, and_left, and_right, both_true}
use Rattle.cas_ballot.specs.declared.ballot.Ballot.{Ballot}
use Rattle.cas_ballot.specs.Ballot.{ballot_cmp, BallotLess}
use Rattle.cas_quorum.specs.declared.era.Era.{Era}
use Rattle.cas_quorum.specs.Era.{holds_prep, holds_acc}
use Rattle.cas_slot.specs.declared.message.Tell.{Tell}
use Rattle.cas_slot.specs.declared.message.Tell.TheVariants as tell
use Rattle.cas_slot.specs.declared.slot.Accepted.{Accepted}
use Rattle.cas_record.specs.declared.mark.Mark.{Mark}
use Rattle.cas_record.specs.declared.operator.Probe.{Probe as Answered}
use Rattle.cas_record.specs.Histories.Chain.{top_of}
use Rattle.cas_record.proofs.Tests.{nat_same, nat_is, less_tells, less_is}
use Rattle.cas_model.specs.Exchanges.Read.{holders_of, AgreeOn, marks_of_holders, MarksRead, counted, nothing}
use Rattle.cas_model.specs.View.{IsAt}
use Rattle.cas_model.proofs.Places.{some_is}
use Rattle.cas_record.specs.Book.{Book}
use Rattle.cas_record.specs.declared.operator.OpAnswer.{OpAnswer}
use Rattle.cas_model.specs.Council as cluster
use Rattle.cas_model.specs.Council.{ExchangeView}
use Rattle.cas_world_calls.specs.Read.{agrees, agreed_by, or_next, first_agreed, GathersIn, plain, read}
use Rattle.cas_world_calls.specs.declared.council.Gathered.{Gathered}
use Rattle.cas_world_calls.proofs.Listed.{gathers_from}

-- ---- what is so where nothing failed
pub ok_then : {A E : Type 0} {P : A → Type 0} (Q : A → Type 0) (r : Result A E) → IfOk r P → ((x : A) → P x → Q x) → IfOk r Q
ok_then Q (Ok x) is then_ = then_ x is
ok_then Q (Err e) is then_ = tt

-- ---- one that agrees
record ToldAgreeing (era : Era) (found : List Answered) (above : Ballot) (told : Option Tell) (accepted : Accepted) : Type 0 where
  promise : Ballot
  is : told ≡ Some (tell.Probed promise (Some accepted))
  agree : agrees era found above accepted ≡ true

told_if : (era : Era) (found : List Answered) (above : Ballot) (promise : Ballot) (a accepted : Accepted) (b : Bool) → agrees era found above a ≡ b → (if b then Some a else None) ≡ Some accepted
    → ToldAgreeing era found above (Some (tell.Probed promise (Some a))) accepted
told_if era found above promise a accepted true agree is =
    let same : a ≡ accepted = some_is is in
    record { promise = promise; is = ap (λ (x : Accepted). Some (tell.Probed promise (Some x))) same; agree = subst (λ (x : Accepted). agrees era found above x ≡ true) same agree }
told_if era found above promise a accepted false agree is = absurd (cc is)

agreed_told : (era : Era) (found : List Answered) (above : Ballot) (told : Option Tell) (accepted : Accepted) → agreed_by era found above told ≡ Some accepted
    → ToldAgreeing era found above told accepted
agreed_told era found above (Some (tell.Probed promise (Some a))) accepted is = told_if era found above promise a accepted (agrees era found above a) refl is
agreed_told era found above told accepted is = absurd (cc is)

-- ---- the first of them
record FirstAgreeing (era : Era) (found : List Answered) (above : Ballot) (rest : List Answered) (accepted : Accepted) : Type 0 where
  place : ℕ
  one : Answered
  at : IsAt rest place one
  told : ToldAgreeing era found above one.told accepted

first_by : (era : Era) (found : List Answered) (above : Ballot) (one : Answered) (later : List Answered) (accepted : Accepted) (o : Option Accepted) → agreed_by era found above one.told ≡ o
    → or_next o (first_agreed era found above later) ≡ Some accepted
    → (first_agreed era found above later ≡ Some accepted → FirstAgreeing era found above later accepted) → FirstAgreeing era found above (one ∷ later) accepted
first_by era found above one later accepted None e is rest = let it = rest is in record { place = suc it.place; one = it.one; at = it.at; told = it.told }
first_by era found above one later accepted (Some a) e is rest = record { place = zero; one = one; at = refl; told = agreed_told era found above one.told accepted (e ∙ is) }

first_of : (era : Era) (found : List Answered) (above : Ballot) (rest : List Answered) (accepted : Accepted) → first_agreed era found above rest ≡ Some accepted
    → FirstAgreeing era found above rest accepted
first_of era found above [] accepted is = absurd (cc is)
first_of era found above (one ∷ later) accepted is = first_by era found above one later accepted (agreed_by era found above one.told) refl is (first_of era found above later accepted)

none_by : (o next : Option Accepted) → or_next o next ≡ None → (o ≡ None) × (next ≡ None)
none_by None next is = (refl, is)
none_by (Some a) next is = absurd (cc is)

none_of : (era : Era) (found : List Answered) (above : Ballot) (rest : List Answered) → first_agreed era found above rest ≡ None → (place : ℕ) (one : Answered) → IsAt rest place one
    → agreed_by era found above one.told ≡ None
none_of era found above [] is place one at = absurd (cc at)
none_of era found above (first ∷ later) is zero one at =
    subst (λ (x : Answered). agreed_by era found above x.told ≡ None) (some_is at) (none_by (agreed_by era found above first.told) (first_agreed era found above later) is).0
none_of era found above (first ∷ later) is (suc place) one at = none_of era found above later (none_by (agreed_by era found above first.told) (first_agreed era found above later) is).1 place one at

-- ---- what is marked
agree_on : (era : Era) (found : List Answered) (above : Ballot) (accepted : Accepted) → FirstAgreeing era found above found accepted → AgreeOn era found accepted
agree_on era found above accepted first =
    let rest = and_right (is_lt (ballot_cmp above accepted.ballot)) _ first.told.agree in
    let quorums = and_right (accepted.era == era.number) _ rest in
    record {
      agree = record {
        prepares = and_left (holds_prep era (holders_of accepted.ballot found)) (holds_acc era (holders_of accepted.ballot found)) quorums;
        accepts = and_right (holds_prep era (holders_of accepted.ballot found)) (holds_acc era (holders_of accepted.ballot found)) quorums;
      };
      place = first.place;
      one = first.one;
      at = first.at;
      promise = first.told.promise;
      told = first.told.is;
      in_era = nat_same (and_left (accepted.era == era.number) _ rest);
    }

pub marks_counted : (era : Era) (key : List ℕ) (found : List Answered) (older marks : List Mark) (top : Ballot) (accepted : Accepted) → top ≡ top_of key older
    → first_agreed era found top found ≡ Some accepted
    → marks ≡ marks_of_holders key accepted (holders_of accepted.ballot found) → MarksRead era key found older marks
marks_counted era key found older marks top accepted is_top first same =
    let it = first_of era found top found accepted first in
    counted accepted (agree_on era found top accepted it)
    (subst (λ (b : Ballot). BallotLess b accepted.ballot) is_top (less_tells (and_left (is_lt (ballot_cmp top accepted.ballot)) _ it.told.agree))) same

pub marks_nothing : (era : Era) (key : List ℕ) (found : List Answered) (older marks : List Mark) (top : Ballot) → top ≡ top_of key older → first_agreed era found top found ≡ None → marks ≡ []
    → MarksRead era key found older marks
marks_nothing era key found older marks top is_top none same = nothing (λ accepted agree above. absurd (cc (
  sym (ap (agreed_by era found top) agree.told) ∙ none_of era found top found none agree.place agree.one agree.at,
  if_true (agrees era found top accepted) (Some accepted) None (both_true (is_lt (ballot_cmp top accepted.ballot)) _ (less_is (subst (λ (b : Ballot). BallotLess b accepted.ballot) (sym is_top) above))
      (both_true (accepted.era == era.number) _ (nat_is agree.in_era) (both_true (holds_prep era (holders_of accepted.ballot found)) (holds_acc era (holders_of accepted.ballot found)) agree.agree.prepares agree.agree.accepts))),
))) same

-- ---- what came of an exchange
-- whatever exchange stands in the council
pub gathers_in : (era : Era) (exchange : ExchangeView) (old new : cluster.Council) (other : Option ExchangeView) (before after : Book) (result : Result Gathered OpAnswer)
    → GathersIn era exchange (record old { exchange = other }) before after result new → GathersIn era exchange old before after result new
gathers_in era exchange old new other before after result (plain gathers same) = plain (gathers_from era exchange old new other result gathers) same
gathers_in era exchange old new other before after result (read key its agreement found kept marks up asks reads has keeps is made room agrees told next) =
    read key its agreement found kept marks up asks reads has keeps is made room agrees told next
