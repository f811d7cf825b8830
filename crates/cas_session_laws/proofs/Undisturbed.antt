-- A request whose calls are done on one state.
use Rattle.std.proofs.Common.{◌≡◌, ℕ, suc, ◌+◌, ◌-◌, ◌^◌, ◌<◌, Bool, true, false, cond, List, [], ◌∷◌, ◌++◌, Option, Some, None, refl, sym, ap, subst, ◌∙◌, append_assoc, arith}
use Rattle.std.specs.Prelude.{nat_lt, ◌||◌, ℤ}
use Rattle.std.proofs.lemmas.Bool.{lt-ltb}
use lib.Pointwise.{bytes_decides}
use Rattle.cas_ballot.specs.declared.ballot.Ballot.{Ballot}
use Rattle.cas_change.specs.State.{after_put}
use Rattle.cas_change.specs.Outcome.{holds, outcome_of, outcome_by}
use Rattle.cas_change.specs.declared.state.Body.TheVariants.{Number, Text}
use Rattle.cas_change.specs.declared.state.State.{State}
use Rattle.cas_change.specs.declared.state.State.TheVariants.{Empty, Held}
use Rattle.cas_change.specs.declared.program.Clause.{Clause}
use Rattle.cas_change.specs.declared.program.Act.TheVariants.{PutText}
use Rattle.cas_change.specs.declared.outcome.Outcome.{Outcome}
use Rattle.cas_change.specs.declared.outcome.Took.{Took}
use Rattle.cas_change.specs.declared.outcome.Took.TheVariants.{Clause as ByClause}
use Rattle.cas_record.specs.declared.answer.Answer.{Answer}
use Rattle.cas_record.specs.declared.answer.Answer.TheVariants as answer
use Rattle.cas_record.specs.Histories.Chain.{keep_always}
use Rattle.cas_session_text.specs.Contents.{SessionContents, StandsFor, contents_text, after_reply}
use Rattle.cas_session.specs.declared.request.SessionAnswer.{SessionAnswer}
use Rattle.cas_session.specs.declared.request.SessionAnswer.TheVariants.{Done, Stopped}
use Rattle.cas_session.specs.declared.decision.Decision.{Decision}
use Rattle.cas_session.specs.declared.decision.Decision.TheVariants.{Answered, Proposes}
use Rattle.cas_session.specs.declared.attempts.Ending.{Ending}
use Rattle.cas_session.specs.declared.attempts.Ending.TheVariants.{Ends, Again}
use Rattle.cas_session.specs.Calls.{Call}
use Rattle.cas_session.specs.Request.{Request, decided, reply_to, guard_for, change_to, one_clause}
use Rattle.cas_session.specs.Serving.{is_done, ends_by, ends_with, without_memory, reads, proposes, AttemptGoesOn, finds_no_memory, finds_no_session}
use Rattle.cas_session.specs.Serving.{finds_answer, changes, Attempts, has_no_memory, reads_nothing, reads_state, ServesRequest, is_answered, is_tired, tries_again}
use Rattle.cas_session_laws.specs.Laws.{MayPut, IsDoneOn, done_on, no_memory, RequestIsDoneOrNoMemory, was_done, has_none}
use Rattle.cas_session_laws.proofs.Steps.{stands_once, outcome_held}

own_guard : (state : State) (contents : SessionContents) → StandsFor state contents → holds (guard_for state) state ≡ true
own_guard Empty contents s = refl
own_guard (Held version (Text text)) contents s = (bytes_decides text text).1 refl
own_guard (Held version (Number number)) contents s = absurd s

may_put : (state : State) (text : List ℕ) → MayPut state → (outcome_by 0 state (after_put (Text text) state)).took ≡ ByClause 0
may_put Empty text may = refl
may_put (Held version body) text may =
    let next : State = Held (version + 1) (Text text) in
    ap (λ b. (outcome_by 0 (Held version body) (cond b (Some next) None)).took) (lt-ltb version (2 ^ 64 - 1) may)

-- a change of the state that it was made for acts
acts_on_own : (state : State) (contents : SessionContents) (text : List ℕ) → StandsFor state contents → MayPut state
    → (outcome_of (one_clause (guard_for state) (PutText text)) state).took ≡ ByClause 0
acts_on_own state contents text s may = ap (λ (o : Outcome). o.took) (outcome_held state text state (own_guard state contents s)) ∙ may_put state text may

pub record IsRequestOver (left : ℤ) (ending : Ending) : Type 0 where
  pub told : SessionAnswer
  pub ends : ending ≡ Ends told
  pub done : RequestIsDoneOrNoMemory left told

with_done : (left : ℤ) (state : State) (took : Took) (ballot : Ballot) (pending : Bool) → took ≡ ByClause 0 → ends_with left (answer.Done state took ballot) pending ≡ Ends (Done left true)
with_done left state took ballot pending e = ap (λ (t : Took). ends_with left (answer.Done state t ballot) pending) e

changed : (left : ℤ) (state : State) (program : List Clause) (told : Answer) (pending : Bool) → (outcome_of program state).took ≡ ByClause 0
    → IsDoneOn state (record { program = program; answer = told })
    → IsRequestOver left (ends_with left told pending)
changed left state program told pending took (done_on {ballot} e) =
    record {
      told = Done left true;
      ends = ap (λ (a : Answer). ends_with left a pending) e ∙ with_done left (outcome_of program state).state (outcome_of program state).took ballot pending took;
      done = was_done refl;
    }
changed left state program told pending took (no_memory {proposed} e) =
    record {
      told = Stopped (answer.NoMemory proposed) (pending || proposed);
      ends = ap (λ (a : Answer). ends_with left a pending) e;
      done = has_none refl;
    }

goes_on : (request : Request) (pending : Bool) (state : State) (contents : SessionContents) (left : ℤ) {more : List Call} {ending : Ending}
    → StandsFor state contents → MayPut state → decided request contents ≡ Proposes left
    → AttemptGoesOn request pending state more ending → ((front back : List Call) (call : Call) → more ≡ front ++ call ∷ back → IsDoneOn state call) → IsRequestOver left ending
goes_on request pending state contents left s may d finds_no_memory each = record { told = Stopped (answer.NoMemory false) pending; ends = refl; done = has_none refl }
goes_on request pending state contents left s may d (finds_no_session n) each = absurd (n contents s)
goes_on request pending state contents left s may d (finds_answer other {told} t e) each =
    let same : contents ≡ other = stands_once state contents other s t in
    let clash : Proposes left ≡ Answered told = sym d ∙ ap (decided request) same ∙ e in
    absurd (cc (clash))
goes_on request pending state contents left s may d (changes other {left = l} {told} t e) each =
    let same : contents ≡ other = stands_once state contents other s t in
    let both : Proposes left ≡ Proposes l = sym d ∙ ap (decided request) same ∙ e in
    let value : l ≡ left = cc (both) in
    let program : List Clause = change_to state (after_reply (reply_to request l) other) in
    subst (λ (v : ℤ). IsRequestOver v (ends_with l told pending)) value
    (changed l state program told pending (acts_on_own state contents (contents_text (after_reply (reply_to request l) other)) s may) (each [] [] (proposes program told) refl))

tried : (request : Request) (pending : Bool) (state : State) (contents : SessionContents) (left : ℤ) {calls : List Call} {ending : Ending}
    → StandsFor state contents → MayPut state → decided request contents ≡ Proposes left
    → Attempts request pending calls ending → ((front back : List Call) (call : Call) → calls ≡ front ++ call ∷ back → IsDoneOn state call) → IsRequestOver left ending
tried request pending state contents left s may d has_no_memory each = record { told = Stopped (answer.NoMemory false) pending; ends = refl; done = has_none refl }
tried request pending state contents left s may d (reads_nothing {told} n) each = by_call (each [] [] (reads told) refl)
  where
    by_call : IsDoneOn state (reads told) → IsRequestOver left (ends_by told pending)
    by_call (done_on e) =
        let clash : false ≡ true = sym n ∙ ap is_done e in
        absurd (cc (clash))
    by_call (no_memory {proposed} e) = record { told = Stopped (answer.NoMemory proposed) pending; ends = ap (λ (a : Answer). ends_by a pending) e; done = has_none refl }
tried request pending state contents left s may d (reads_state {state = seen} {took} {ballot} {more} {ending} g) each = by_call (each [] more (reads (answer.Done seen took ballot)) refl)
  where
    by_call : IsDoneOn state (reads (answer.Done seen took ballot)) → IsRequestOver left ending
    by_call (done_on e) =
        let same : seen ≡ state = cc (e) in
        goes_on request pending state contents left s may d (subst (λ (t : State). AttemptGoesOn request pending t more ending) same g)
        (λ front back call e2. each (reads (answer.Done seen took ballot) ∷ front) back call (ap (λ (cs : List Call). reads (answer.Done seen took ballot) ∷ cs) e2))
    by_call (no_memory e) = absurd (cc (e))

pub undisturbed : (request : Request) (state : State) (contents : SessionContents) (left : ℤ) {tries : ℕ} {pending : Bool} {calls : List Call} {told : SessionAnswer}
    → StandsFor state contents → MayPut state
    → decided request contents ≡ Proposes left → ServesRequest request tries pending calls told
    → ((front back : List Call) (call : Call) → calls ≡ front ++ call ∷ back → IsDoneOn state call) → RequestIsDoneOrNoMemory left told
undisturbed request state contents left s may d (is_answered {pending = pending} {told = told} a) each =
    let over = tried request pending state contents left s may d a each in
    let same : over.told ≡ told = cc (over.ends) in
    subst (RequestIsDoneOrNoMemory left) same over.done
undisturbed request state contents left s may d (is_tired {pending = pending} a) each =
    let over = tried request pending state contents left s may d a each in
    absurd (cc (over.ends))
undisturbed request state contents left s may d (tries_again {pending = pending} {calls = calls} {more = more} a rest) each =
    let over = tried request pending state contents left s may d a (λ front back call e. each front (back ++ more) call
    (ap (λ (cs : List Call). cs ++ more) e ∙ append_assoc front (call ∷ back) more)) in
    absurd (cc (over.ends))
