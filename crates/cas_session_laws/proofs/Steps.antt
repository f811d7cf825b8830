-- What one entry of a session's history does to a state.
use Rattle.std.proofs.Common.{◌≡◌, ℕ, suc, ◌+◌, ◌-◌, ◌^◌, ◌<◌, ◌≤◌, Bool, true, false, cond, List, [], ◌∷◌, Option, Some, None, refl, sym, ap, subst, ◌∙◌, arith, inl, inr}
use Rattle.std.specs.Prelude.{nat_lt, not, ◌⊎◌, ◌==◌, ℤ, pos, negsuc, ◌+ℤ◌, FitsSigned}
use Rattle.std.specs.Int.{w64}
use Rattle.std.proofs.lemmas.Bool.{cases_Bool, eqb-true, ltb-true}
use lib.Pointwise.{bytes_decides}
use Rattle.cas_change.specs.State.{fits_i64, after_put}
use Rattle.cas_change.specs.Outcome.{holds, outcome_of, outcome_at, outcome_by}
use Rattle.cas_change.specs.declared.state.Body.TheVariants.{Number, Text}
use Rattle.cas_change.specs.declared.state.State.{State}
use Rattle.cas_change.specs.declared.state.State.TheVariants.{Empty, Held}
use Rattle.cas_change.specs.declared.program.Clause.{Clause}
use Rattle.cas_change.specs.declared.program.Guard.{Guard}
use Rattle.cas_change.specs.declared.program.Guard.TheVariants.{IsEmpty, TextIs}
use Rattle.cas_change.specs.declared.program.Act.TheVariants.{PutText}
use Rattle.cas_change.specs.declared.outcome.Outcome.{Outcome}
use Rattle.cas_change.specs.declared.outcome.Took.{Took}
use Rattle.cas_change.specs.declared.outcome.Took.TheVariants.{Clause as ByClause, Nothing, Unfit}
use Rattle.cas_record.specs.declared.entry.Entry.{Entry}
use Rattle.cas_record.specs.Histories.Chain.{keep_always}
use Rattle.cas_session_text.specs.declared.reply.LastReply.{LastReply}
use Rattle.cas_session_text.specs.Contents.{SessionContents, IsLastReply, IsContents, StandsFor, no_requests, contents_text, reply_of, after_reply}
use Rattle.cas_session_text.proofs.Replies.{IsContents-after}
use Rattle.cas_session_text.proofs.Texts.{contents_text-once}
use Rattle.cas_session.specs.declared.request.SessionAct.{SessionAct}
use Rattle.cas_session.specs.declared.request.SessionAct.TheVariants.{Add, Put}
use Rattle.cas_session.specs.declared.decision.Decision.{Decision}
use Rattle.cas_session.specs.declared.decision.Decision.TheVariants.{Answered, Proposes}
use Rattle.cas_session.specs.declared.request.SessionAnswer.TheVariants.{Done, Stale, Gap, Unfit}
use Rattle.cas_session.specs.Request.{Request, value_after, last_number, decided, decided_by, decided_new, decided_next, reply_to, guard_for, change_to, one_clause}
use Rattle.cas_session_laws.specs.History.{IsRequest, IsChangeFor, IsOfSession, keeps, changes, ActsFor, number_in}

-- ---- what a state stands for
lawful_empty : IsContents no_requests
lawful_empty = record { value_fits = omega arith; each = tt; rising = tt }

pub lawful-stands : (state : State) (contents : SessionContents) → StandsFor state contents → IsContents contents
lawful-stands Empty contents e = subst IsContents (sym e) lawful_empty
lawful-stands (Held version (Text text)) contents s = s.0
lawful-stands (Held version (Number number)) contents s = absurd s

pub stands_once : (state : State) (a b : SessionContents) → StandsFor state a → StandsFor state b → a ≡ b
stands_once Empty a b p q = p ∙ sym q
stands_once (Held version (Text text)) a b p q = contents_text-once a b p.0 q.0 (p.1 ∙ sym q.1)
stands_once (Held version (Number number)) a b p q = absurd p

-- ---- what is decided of the request that is next
-- it is one above the last, and leaves the value that its act gives
pub record IsNextNumber (request : Request) (contents : SessionContents) (left : ℤ) : Type 0 where
  pub number : request.number ≡ last_number (reply_of request.caller contents.replies) + 1
  pub value : value_after request.act contents.value ≡ Some left

next-value : (value : ℤ) (o : Option ℤ) (left : ℤ) → decided_next value o ≡ Proposes left → o ≡ Some left
next-value value (Some l) left e = let same : l ≡ left = cc in ap (λ x. Some x) same
next-value value None left e = absurd cc

next-new : (request : Request) (value : ℤ) (last : ℕ) (left : ℤ) → decided_new request value last ≡ Proposes left → (request.number ≡ last + 1) × (value_after request.act value ≡ Some left)
next-new request value last left e = elim (cases_Bool (request.number == (last + 1))) [
  | inl t ↦
      let step : decided_next value (value_after request.act value) ≡ Proposes left = sym (ap (λ b. cond b (decided_next value (value_after request.act value)) (Answered (Gap last))) t) ∙ e in
      (eqb-true request.number (last + 1) t, next-value value (value_after request.act value) left step)
  | inr f ↦
      let step : Answered (Gap last) ≡ Proposes left = sym (ap (λ b. cond b (decided_next value (value_after request.act value)) (Answered (Gap last))) f) ∙ e in
      absurd (cc (step))
]

next-by : (request : Request) (value : ℤ) (last : Option LastReply) (left : ℤ) → decided_by request value last ≡ Proposes left
    → (request.number ≡ last_number last + 1) × (value_after request.act value ≡ Some left)
next-by request value None left e = next-new request value 0 left e
next-by request value (Some last) left e =
    let older : Decision = cond (nat_lt request.number last.number) (Answered (Stale last.number)) (decided_new request value last.number) in
    elim (cases_Bool (request.number == last.number)) [
      | inl t ↦
          let step : Answered (Done last.reply false) ≡ Proposes left = sym (ap (λ b. cond b (Answered (Done last.reply false)) older) t) ∙ e in
          absurd (cc (step))
      | inr f ↦
          let step : older ≡ Proposes left = sym (ap (λ b. cond b (Answered (Done last.reply false)) older) f) ∙ e in
          elim (cases_Bool (nat_lt request.number last.number)) [
            | inl t ↦
                let stale : Answered (Stale last.number) ≡ Proposes left = sym (ap (λ b. cond b (Answered (Stale last.number)) (decided_new request value last.number)) t) ∙ step in
                absurd (cc (stale))
            | inr n ↦ next-new request value last.number left (sym (ap (λ b. cond b (Answered (Stale last.number)) (decided_new request value last.number)) n) ∙ step)
          ]
    ]

pub is_next : (request : Request) (contents : SessionContents) (left : ℤ) → decided request contents ≡ Proposes left → IsNextNumber request contents left
is_next request contents left e =
    let parts = next-by request contents.value (reply_of request.caller contents.replies) left e in
    record { number = parts.0; value = parts.1 }

-- the value that fits is that of an i64
fits_of : (z : ℤ) → fits_i64 z ≡ true → FitsSigned w64 z
fits_of (pos n) e = let below : n < 2 ^ 63 = ltb-true n (2 ^ 63) e in omega arith
fits_of (negsuc n) e = let below : n < 2 ^ 63 = ltb-true n (2 ^ 63) e in omega arith

left_fits : (act : SessionAct) (value left : ℤ) → FitsSigned w64 (number_in act) → value_after act value ≡ Some left → FitsSigned w64 left
left_fits (Add addend) value left fits e = elim (cases_Bool (fits_i64 (value +ℤ addend))) [
  | inl t ↦
      let step : Some (value +ℤ addend) ≡ Some left = sym (ap (λ b. cond b (Some (value +ℤ addend)) None) t) ∙ e in
      let same : value +ℤ addend ≡ left = cc (step) in
      subst (FitsSigned w64) same (fits_of (value +ℤ addend) t)
  | inr f ↦
      let step : None ≡ Some left = sym (ap (λ b. cond b (Some (value +ℤ addend)) None) f) ∙ e in
      absurd (cc (step))
]
left_fits (Put number) value left fits e = let same : number ≡ left = cc (e) in subst (FitsSigned w64) same fits

pub lawful-reply : (request : Request) (contents : SessionContents) (left : ℤ) → IsRequest request → IsNextNumber request contents left → IsLastReply (reply_to request left)
lawful-reply request contents left lawful next = record {
  caller = lawful.caller;
  numbered = lawful.numbered;
  number_fits = lawful.number_fits;
  reply_fits = left_fits request.act contents.value left lawful.act_fits next.value;
}

-- ---- what a change makes of a state
-- the state stays, and the clause was not taken; or it stands where the guard holds, and the text is put
pub data MakesOfState (made : State) (text : List ℕ) (state : State) (outcome : Outcome) : Type 0 where
  stays : outcome.state ≡ state → ((n : ℕ) → outcome.took ≡ ByClause n → ⊥) → MakesOfState made text state outcome
  puts : holds (guard_for made) state ≡ true → (after : State) → after_put (Text text) state ≡ Some after
      → outcome ≡ record { state = after; took = ByClause 0 } → MakesOfState made text state outcome

by_put : (made : State) (text : List ℕ) (state : State) → holds (guard_for made) state ≡ true → (o : Option State) → after_put (Text text) state ≡ o
    → MakesOfState made text state (outcome_by 0 state o)
by_put made text state guard (Some after) e = puts guard after e refl
by_put made text state guard None e = stays refl (λ n took. absurd (cc (took)))

-- where the guard holds, the text is put
pub outcome_held : (made : State) (text : List ℕ) (state : State) → holds (guard_for made) state ≡ true
    → outcome_of (one_clause (guard_for made) (PutText text)) state ≡ outcome_by 0 state (after_put (Text text) state)
outcome_held made text state t =
    let program : List Clause = one_clause (guard_for made) (PutText text) in
    let by : Bool → Outcome = λ b. outcome_at program state (cond (nat_lt (cond (not b) (1 + 0) 0) 1) (Some (cond (not b) (1 + 0) 0)) None) in
    ap by t

-- where it does not, the state stays
outcome_other : (made : State) (text : List ℕ) (state : State) → holds (guard_for made) state ≡ false
    → outcome_of (one_clause (guard_for made) (PutText text)) state ≡ record { state = state; took = Nothing }
outcome_other made text state f =
    let program : List Clause = one_clause (guard_for made) (PutText text) in
    let by : Bool → Outcome = λ b. outcome_at program state (cond (nat_lt (cond (not b) (1 + 0) 0) 1) (Some (cond (not b) (1 + 0) 0)) None) in
    ap by f

pub makes-change : (made : State) (text : List ℕ) (state : State) → MakesOfState made text state (outcome_of (one_clause (guard_for made) (PutText text)) state)
makes-change made text state = elim (cases_Bool (holds (guard_for made) state)) [
  | inl t ↦ subst (MakesOfState made text state) (sym (outcome_held made text state t)) (by_put made text state t (after_put (Text text) state) refl)
  | inr f ↦ subst (MakesOfState made text state) (sym (outcome_other made text state f)) (stays refl (λ n took. absurd (cc (took))))
]

-- the guard holds of a state that stands for what it was made for
guard_stands : (made state : State) (contents : SessionContents) → StandsFor made contents → holds (guard_for made) state ≡ true
    → (guard_for made ≡ guard_for state) × StandsFor state contents
guard_stands Empty Empty contents s t = (refl, s)
guard_stands Empty (Held w (Number n)) contents s t = absurd cc
guard_stands Empty (Held w (Text y)) contents s t = absurd cc
guard_stands (Held v (Text x)) Empty contents s t = absurd cc
guard_stands (Held v (Text x)) (Held w (Number n)) contents s t = absurd cc
guard_stands (Held v (Text x)) (Held w (Text y)) contents s t =
    let same : y ≡ x = (bytes_decides y x).0 t in
    (ap TextIs (sym same), (s.0, s.1 ∙ sym same))
guard_stands (Held v (Number n)) state contents s t = absurd s

-- what was put stands for what was printed
put_stands : (state after : State) (contents : SessionContents) → IsContents contents → after_put (Text (contents_text contents)) state ≡ Some after → StandsFor after contents
put_stands Empty after contents lawful e =
    let same : Held 0 (Text (contents_text contents)) ≡ after = cc (e) in
    subst (λ s. StandsFor s contents) same (lawful, refl)
put_stands (Held v body) after contents lawful e =
    let next : State = Held (v + 1) (Text (contents_text contents)) in
    elim (cases_Bool (nat_lt v (2 ^ 64 - 1))) [
      | inl t ↦
          let step : Some next ≡ Some after = sym (ap (λ b. cond b (Some next) None) t) ∙ e in
          let same : next ≡ after = cc (step) in
          subst (λ s. StandsFor s contents) same (lawful, refl)
      | inr f ↦
          let step : None ≡ Some after = sym (ap (λ b. cond b (Some next) None) f) ∙ e in
          absurd (cc (step))
    ]

-- ---- one entry
-- the entry acted, and left a state that stands for the contents with the reply
pub record HasLeftContents (request : Request) (state : State) (left : ℤ) (contents : SessionContents) (entry : Entry) : Type 0 where
  pub after : State
  pub outcome : outcome_of entry.program state ≡ record { state = after; took = ByClause 0 }
  pub stands_for : StandsFor after (after_reply (reply_to request left) contents)

lawful-after : (request : Request) (state : State) (contents : SessionContents) (left : ℤ) (program : List Clause) → IsChangeFor request state contents left program
    → IsContents (after_reply (reply_to request left) contents)
lawful-after request state contents left program change =
    IsContents-after (reply_to request left) contents (lawful-reply request contents left change.lawful (is_next request contents left change.next)) (lawful-stands state contents change.stands_for)

pub left_by : {request : Request} {state : State} {left : ℤ} {entry : Entry} (acts : ActsFor request state left entry) → HasLeftContents request state left acts.contents entry
left_by {request} {state} {left} {entry} acts = by_outcome (makes-change state text state)
  where
    told : SessionContents
    told = after_reply (reply_to request left) acts.contents

    text : List ℕ
    text = contents_text (after_reply (reply_to request left) acts.contents)

    by_outcome : MakesOfState state (contents_text (after_reply (reply_to request left) acts.contents)) state (outcome_of (change_to state (after_reply (reply_to request left) acts.contents)) state)
        → HasLeftContents request state left acts.contents entry
    by_outcome (stays same none) = absurd (none 0 (ap (λ (p : List Clause). (outcome_of p state).took) (sym acts.change.change) ∙ acts.took))
    by_outcome (puts guard after put outcome) = record {
      after = after;
      outcome = ap (λ (p : List Clause). outcome_of p state) acts.change.change ∙ outcome;
      stands_for = put_stands state after (after_reply (reply_to request left) acts.contents) (lawful-after request state acts.contents left entry.program acts.change) put;
    }

-- an entry of a session leaves a state as it is, or acts on it for a request
pub data Step (state : State) (entry : Entry) : Type 0 where
  kept : (outcome_of entry.program state).state ≡ state → Step state entry
  acted : {request : Request} {left : ℤ} → ActsFor request state left entry → Step state entry

-- where the guard of a change holds, it acts
acts_put : {request : Request} {made : State} {contents : SessionContents} {left : ℤ} (state : State) (entry : Entry) → request.caller ≡ entry.caller
    → IsChangeFor request made contents left entry.program
    → holds (guard_for made) state ≡ true → (outcome_of entry.program state).took ≡ ByClause 0 → ActsFor request state left entry
acts_put {request} {made} {contents} {left} state entry same change guard took =
    let stands = guard_stands made state contents change.stands_for guard in
    record {
      same_caller = same;
      contents = contents;
      change = record {
        lawful = change.lawful;
        stands_for = stands.1;
        next = change.next;
        change = change.change ∙ ap (λ (g : Guard). one_clause g (PutText (contents_text (after_reply (reply_to request left) contents)))) stands.0;
      };
      took = took;
    }

pub step_of : (state : State) (entry : Entry) → IsOfSession entry → Step state entry
step_of state entry (keeps e) = kept (ap (λ (p : List Clause). (outcome_of p state).state) e)
step_of state entry (changes {request = request} {state = made} {contents = contents} {left = left} same change) = by_outcome
    (makes-change made (contents_text (after_reply (reply_to request left) contents)) state)
  where
    by_outcome : MakesOfState made (contents_text (after_reply (reply_to request left) contents)) state (outcome_of (change_to made (after_reply (reply_to request left) contents)) state)
        → Step state entry
    by_outcome (stays same_state none) = kept (ap (λ (p : List Clause). (outcome_of p state).state) change.change ∙ same_state)
    by_outcome (puts guard after put outcome) = acted {request = request} {left = left}
        (acts_put state entry same change guard (ap (λ (p : List Clause). (outcome_of p state).took) change.change ∙ ap (λ (o : Outcome). o.took) outcome))

-- a change whose clause was taken acted
pub acts_where_taken : (request : Request) (made state : State) (contents : SessionContents) (left : ℤ) (entry : Entry) (clause : ℕ) → request.caller ≡ entry.caller
    → IsChangeFor request made contents left entry.program → (outcome_of entry.program state).took ≡ ByClause clause → ActsFor request state left entry
acts_where_taken request made state contents left entry clause same change took = by_outcome (makes-change made (contents_text (after_reply (reply_to request left) contents)) state)
  where
    by_outcome : MakesOfState made (contents_text (after_reply (reply_to request left) contents)) state (outcome_of (change_to made (after_reply (reply_to request left) contents)) state)
        → ActsFor request state left entry
    by_outcome (stays same_state none) = absurd (none clause (ap (λ (p : List Clause). (outcome_of p state).took) (sym change.change) ∙ took))
    by_outcome (puts guard after put outcome) =
        acts_put state entry same change guard (ap (λ (p : List Clause). (outcome_of p state).took) change.change ∙ ap (λ (o : Outcome). o.took) outcome)
