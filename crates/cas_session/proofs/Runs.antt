-- How the calls of attempts make up the serving of a request.
use Rattle.std.proofs.Common.{◌≡◌, ℕ, suc, ◌+◌, ◌<◌, ◌≤◌, Bool, true, false, List, [], ◌∷◌, ◌++◌, Option, Some, None, refl, sym, ap, subst, ◌∙◌, append_assoc, arith}
use Rattle.std.specs.Prelude.{ℤ, MatchOption, FitsSigned}
use Rattle.std.specs.Int.{w64}
use Rattle.cas_ballot.specs.declared.ballot.Ballot.{Ballot}
use Rattle.cas_change.specs.declared.program.Clause.{Clause}
use Rattle.cas_change.specs.declared.state.State.{State}
use Rattle.cas_change.specs.declared.outcome.Took.{Took}
use Rattle.cas_record.specs.declared.answer.Answer.{Answer}
use Rattle.cas_record.specs.declared.answer.Answer.TheVariants as answer
use Rattle.cas_record.specs.declared.mark.Mark.{Mark}
use Rattle.cas_record.specs.Histories.Chain.{keep_always}
use Rattle.cas_session_text.specs.Contents.{SessionContents, IsContents, StandsFor, after_reply}
use Rattle.cas_session.specs.declared.request.SessionAct.{SessionAct}
use Rattle.cas_session.specs.declared.request.SessionAnswer.{SessionAnswer}
use Rattle.cas_session.specs.declared.request.SessionAnswer.TheVariants.{NotSession, Tired}
use Rattle.cas_session.specs.declared.decision.Decision.{Decision}
use Rattle.cas_session.specs.declared.decision.Decision.TheVariants.{Answered, Proposes}
use Rattle.cas_session.specs.declared.attempts.Ending.{Ending}
use Rattle.cas_session.specs.declared.attempts.Ending.TheVariants.{Ends, Again}
use Rattle.cas_session.specs.Calls.{Call, Changes, MakesCalls, none, first}
use Rattle.cas_session.specs.Request.{Request, request_of, decided, reply_to, change_to, ProposesFitting}
use Rattle.cas_session.specs.Serving.{is_done, ends_by, ends_with, without_memory, reads, proposes, AttemptGoesOn, finds_no_memory, finds_no_session, finds_answer, changes}
use Rattle.cas_session.specs.Serving.{Attempts, has_no_memory, reads_nothing, reads_state, ServesRequest, is_answered, is_tired, tries_again, WasServed, WasTried, HasGoneOn}

-- ---- what a state stands for
pub none_stands : (state : State) (found : Option SessionContents) → MatchOption found ((contents : SessionContents) → StandsFor state contents → ⊥) (λ s. IsContents s × StandsFor state s)
    → found ≡ None
    → (contents : SessionContents) → StandsFor state contents → ⊥
none_stands state None m e = m
none_stands state (Some s) m e = absurd cc

pub some_stands : (state : State) (found : Option SessionContents) (session : SessionContents)
    → MatchOption found ((contents : SessionContents) → StandsFor state contents → ⊥) (λ s. IsContents s × StandsFor state s)
    → found ≡ Some session → StandsFor state session
some_stands state None session m e = absurd cc
some_stands state (Some s) session m e = let same : s ≡ session = cc (e) in subst (StandsFor state) same m.1

-- ---- what follows a read
pub gone_memory : {request : Request} {key : List ℕ} {pending : Bool} {state : State} {marks : List Mark} {ending : Ending} → ending ≡ without_memory pending
    → HasGoneOn request key pending state marks marks ending
gone_memory {request} {key} {pending} {state} {marks} e = subst (λ x. HasGoneOn request key pending state marks marks x) (sym e) (record { calls = []; made = none; goes_on = finds_no_memory })

pub gone_no_session : {request : Request} {key : List ℕ} {pending : Bool} {state : State} {marks : List Mark} → ((contents : SessionContents) → StandsFor state contents → ⊥)
    → HasGoneOn request key pending state marks marks (Ends NotSession)
gone_no_session n = record { calls = []; made = none; goes_on = finds_no_session n }

pub gone_answer : {key : List ℕ} {pending : Bool} {state : State} {marks : List Mark} {told : SessionAnswer} (caller number known : ℕ) (act : SessionAct)
    (contents : SessionContents) (decision : Decision)
    → known ≡ caller → StandsFor state contents → decision ≡ decided (request_of known number act) contents → decision ≡ Answered told
    → HasGoneOn (request_of caller number act) key pending state marks marks (Ends told)
gone_answer caller number known act contents decision same stands d e = record {
  calls = [];
  made = none;
  goes_on = finds_answer contents stands (ap (λ n. decided (request_of n number act) contents) (sym same) ∙ sym d ∙ e);
}

pub gone_change : {key : List ℕ} {pending : Bool} {state : State} {old new : List Mark} {ending : Ending} (caller number known : ℕ) (act : SessionAct)
    (contents : SessionContents) (decision : Decision) (left : ℤ) (program : List Clause) (told : Answer)
    → known ≡ caller → StandsFor state contents → decision ≡ decided (request_of known number act) contents → decision ≡ Proposes left
    → program ≡ change_to state (after_reply (reply_to (request_of known number act) left) contents) → Changes caller key program old new told → ending ≡ ends_with left told pending
    → HasGoneOn (request_of caller number act) key pending state old new ending
gone_change {key} {pending} {state} {old} {new} caller number known act contents decision left program told same stands d e p c end =
    let change : List Clause = change_to state (after_reply (reply_to (request_of caller number act) left) contents) in
    let is : program ≡ change = p ∙ ap (λ n. change_to state (after_reply (reply_to (request_of n number act) left) contents)) same in
    subst (λ x. HasGoneOn (request_of caller number act) key pending state old new x) (sym end) (record {
      calls = proposes change told ∷ [];
      made = first (subst (λ (q : List Clause). Changes caller key q old new told) is c) none;
      goes_on = changes contents stands (ap (λ n. decided (request_of n number act) contents) (sym same) ∙ sym d ∙ e);
    })

-- a value that is proposed is passed on as it is
pub fits_of : (decision : Decision) (left : ℤ) → ProposesFitting decision → decision ≡ Proposes left → FitsSigned w64 left
fits_of (Proposes l) left fits e = let same : l ≡ left = cc (e) in subst (FitsSigned w64) same fits
fits_of (Answered told) left fits e = absurd (cc (e))

-- ---- an attempt
pub tried_memory : {request : Request} {key : List ℕ} {pending : Bool} {marks : List Mark} {ending : Ending} → ending ≡ without_memory pending → WasTried request key pending marks marks ending
tried_memory {request} {key} {pending} {marks} e = subst (λ x. WasTried request key pending marks marks x) (sym e) (record { calls = []; made = none; tried = has_no_memory })

not_done : (told : Answer) → ((state : State) (took : Took) (ballot : Ballot) → told ≡ answer.Done state took ballot → ⊥) → is_done told ≡ false
not_done (answer.Done state took ballot) n = absurd (n state took ballot refl)
not_done other n = refl

pub tried_nothing : {key : List ℕ} {pending : Bool} {old new : List Mark} {ending : Ending} (caller number : ℕ) (act : SessionAct) (program : List Clause) (told : Answer) → program ≡ keep_always
    → Changes caller key program old new told → ((state : State) (took : Took) (ballot : Ballot) → told ≡ answer.Done state took ballot → ⊥) → ending ≡ ends_by told pending
    → WasTried (request_of caller number act) key pending old new ending
tried_nothing {key} {pending} {old} {new} caller number act program told p c n end =
    subst (λ x. WasTried (request_of caller number act) key pending old new x) (sym end) (record {
      calls = reads told ∷ [];
      made = first (subst (λ (q : List Clause). Changes caller key q old new told) p c) none;
      tried = reads_nothing (not_done told n);
    })

pub tried_state : {key : List ℕ} {pending : Bool} {old mid new : List Mark} {ending : Ending} (caller number then_caller : ℕ) (act : SessionAct)
    (program : List Clause) (told : Answer) (state : State) (took : Took) (ballot : Ballot)
    → program ≡ keep_always → Changes caller key program old mid told → told ≡ answer.Done state took ballot → then_caller ≡ caller
    → HasGoneOn (request_of then_caller number act) key pending state mid new ending → WasTried (request_of caller number act) key pending old new ending
tried_state {key} {pending} {old} {mid} {new} {ending} caller number then_caller act program told state took ballot p c e same gone =
    let went = subst (λ n. HasGoneOn (request_of n number act) key pending state mid new ending) same gone in
    let read : Changes caller key keep_always old mid (answer.Done state took ballot) =
    subst (λ (a : Answer). Changes caller key keep_always old mid a) e (subst (λ (q : List Clause). Changes caller key q old mid told) p c) in
    record { calls = reads (answer.Done state took ballot) ∷ went.calls; made = first read went.made; tried = reads_state went.goes_on }

-- ---- several attempts
makes_both : {caller : ℕ} {key : List ℕ} {old mid new : List Mark} {calls more : List Call} → MakesCalls caller key old calls mid → MakesCalls caller key mid more new
    → MakesCalls caller key old (calls ++ more) new
makes_both none m = m
makes_both (first c rest) m = first c (makes_both rest m)

-- these calls were made, and what is served by at most so many more attempts is served by all
pub record SoFar (request : Request) (key : List ℕ) (tries : ℕ) (old now : List Mark) (left : ℕ) (pending : Bool) : Type 0 where
  pub calls : List Call
  pub made : MakesCalls request.caller key old calls now
  pub serves : (more : List Call) (told : SessionAnswer) → ServesRequest request left pending more told → ServesRequest request tries false (calls ++ more) told

pub none_yet : (request : Request) (key : List ℕ) (tries : ℕ) (old : List Mark) → SoFar request key tries old old tries false
none_yet request key tries old = record { calls = []; made = none; serves = λ more told s. s }

-- the caller is the one that it was
pub same_request : {key : List ℕ} {pending : Bool} {now next : List Mark} {ending : Ending} (caller number known : ℕ) (act : SessionAct) → known ≡ caller
    → WasTried (request_of known number act) key pending now next ending
    → WasTried (request_of caller number act) key pending now next ending
same_request {key} {pending} {now} {next} {ending} caller number known act same t = subst (λ n. WasTried (request_of n number act) key pending now next ending) same t

pub go_again : {request : Request} {key : List ℕ} {tries : ℕ} {old now next : List Mark} {pending : Bool} (left rest : ℕ) (last : Answer) (then_pending : Bool)
    → left ≡ suc (suc rest) → SoFar request key tries old now left pending
    → WasTried request key pending now next (Again last then_pending) → SoFar request key tries old next (suc rest) then_pending
go_again {request} {key} {tries} {old} {now} {next} {pending} left rest last then_pending e so t =
    let s = subst (λ n. SoFar request key tries old now n pending) e so in
    record {
      calls = s.calls ++ t.calls;
      made = makes_both s.made t.made;
      serves = λ more told served. subst (λ (cs : List Call). ServesRequest request tries false cs told) (sym (append_assoc s.calls t.calls more))
          (s.serves (t.calls ++ more) told (tries_again t.tried served));
    }

pub ended : {request : Request} {key : List ℕ} {tries : ℕ} {old now next : List Mark} {pending : Bool} (left rest : ℕ) (told : SessionAnswer)
    → left ≡ suc rest → SoFar request key tries old now left pending
    → WasTried request key pending now next (Ends told) → WasServed request key tries old next told
ended {request} {key} {tries} {old} {now} {next} {pending} left rest told e so t =
    let s = subst (λ n. SoFar request key tries old now n pending) e so in
    record { calls = s.calls ++ t.calls; made = makes_both s.made t.made; served = s.serves t.calls told (is_answered t.tried) }

pub tired : {request : Request} {key : List ℕ} {tries : ℕ} {old now next : List Mark} {pending : Bool} (left : ℕ) (last : Answer) (then_pending : Bool)
    → left ≡ 1 → SoFar request key tries old now left pending
    → WasTried request key pending now next (Again last then_pending) → WasServed request key tries old next (Tired last)
tired {request} {key} {tries} {old} {now} {next} {pending} left last then_pending e so t =
    let s = subst (λ n. SoFar request key tries old now n pending) e so in
    record { calls = s.calls ++ t.calls; made = makes_both s.made t.made; served = s.serves t.calls (Tired last) (is_tired t.tried) }

pub at_left : {request : Request} {key : List ℕ} {tries : ℕ} {old now : List Mark} {m n : ℕ} {pending : Bool} → m ≡ n → SoFar request key tries old now m pending
    → SoFar request key tries old now n pending
at_left {request} {key} {tries} {old} {now} {pending = pending} e s = subst (λ k. SoFar request key tries old now k pending) e s
