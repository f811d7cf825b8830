-- The requests that act in the history of a session.
use Rattle.std.proofs.Common.{◌≡◌, ℕ, suc, ◌+◌, ◌<◌, ◌≤◌, Bool, true, false, cond, List, [], ◌∷◌, ◌++◌, Option, Some, None, refl, sym, ap, subst, ◌∙◌, arith, inl, inr}
use Rattle.std.specs.Prelude.{◌⊎◌, ◌==◌, ℤ}
use Rattle.std.specs.List.{AllByRecursion}
use Rattle.std.specs.Option.{option_and_then}
use Rattle.std.proofs.lemmas.Bool.{cases_Bool, cases_eq, eqb-true}
use Rattle.cas_change.specs.declared.state.State.{State}
use Rattle.cas_change.specs.declared.outcome.Outcome.{Outcome}
use Rattle.cas_change.specs.declared.outcome.Took.TheVariants.{Clause as ByClause}
use Rattle.cas_change.specs.Outcome.{outcome_of}
use Rattle.cas_record.specs.declared.entry.Entry.{Entry}
use Rattle.cas_record.specs.Histories.Replay.{replay_from}
use Rattle.cas_session_text.specs.declared.reply.LastReply.{LastReply}
use Rattle.cas_session_text.specs.Contents.{SessionContents, StandsFor, reply_of, with_reply, after_reply}
use Rattle.cas_session_text.proofs.Replies.{reply_of-told, reply_of-other}
use Rattle.cas_session.specs.Request.{Request, value_after, last_number, reply_to}
use Rattle.cas_session_laws.specs.History.{IsOfSession, ActsFor, Acting, none, stays, acts, IsSameRequest, AreApart, value_by, HasActed}
use Rattle.cas_session_laws.proofs.Steps.{stands_once, IsNextNumber, is_next, HasLeftContents, left_by, Step, kept, acted, step_of}

-- ---- they are found
pub record FoundRequests (state : State) (history : List Entry) : Type 0 where
  pub requests : List Request
  pub acting : Acting state history requests

pub found : (state : State) (history : List Entry) → AllByRecursion IsOfSession history → FoundRequests state history
found state [] each = record { requests = []; acting = none }
found state (entry ∷ later) each =
    let rest = found (outcome_of entry.program state).state later each.1 in
    elim (step_of state entry each.0) [
      | kept same ↦ record { requests = rest.requests; acting = stays same (subst (λ s. Acting s later rest.requests) same rest.acting) }
      | acted {request} {left} a ↦ record { requests = request ∷ rest.requests; acting = acts {left = left} a rest.acting }
    ]

-- ---- each acts once
-- the numbers of a caller's requests that act rise above that of its last one before
abbrev pub IsAbove : List LastReply → Request → Type 0
IsAbove replies request = last_number (reply_of request.caller replies) < request.number

above_more : (told : LastReply) (replies : List LastReply) → last_number (reply_of told.caller replies) < told.number → (requests : List Request)
    → AllByRecursion (IsAbove (with_reply told replies)) requests → AllByRecursion (IsAbove replies) requests
above_more told replies rises [] each = tt
above_more told replies rises (request ∷ requests) each = (one, above_more told replies rises requests each.1)
  where
    one : IsAbove replies request
    one = elim (cases_eq told.caller request.caller) [
      | inl same ↦
          let last : last_number (reply_of request.caller (with_reply told replies)) ≡ told.number = ap (λ c. last_number (reply_of c (with_reply told replies))) (sym same)
          ∙ ap last_number (reply_of-told told replies) in
          let before : last_number (reply_of request.caller replies) ≡ last_number (reply_of told.caller replies) = ap (λ c. last_number (reply_of c replies)) (sym same) in
          omega (arith, each.0, last, before, rises)
      | inr other ↦
          let last : last_number (reply_of request.caller (with_reply told replies)) ≡ last_number (reply_of request.caller replies) = ap last_number
          (reply_of-other told replies request.caller other) in
          omega (arith, each.0, last)
    ]

pub all_above : {state : State} {history : List Entry} {requests : List Request} → Acting state history requests → (contents : SessionContents) → StandsFor state contents
    → AllByRecursion (IsAbove contents.replies) requests
all_above none contents s = tt
all_above (stays {state} {entry} {later} {requests} same rest) contents s = all_above rest contents s
all_above (acts {state} {entry} {later} {request} {left} {requests} a rest) contents s =
    let by = left_by a in
    let told : LastReply = reply_to request left in
    let one : a.contents ≡ contents = stands_once state a.contents contents a.change.stands_for s in
    let next = is_next request a.contents left a.change.next in
    let state_is : (outcome_of entry.program state).state ≡ by.after = ap (λ (o : Outcome). o.state) by.outcome in
    let after : StandsFor (outcome_of entry.program state).state (after_reply told a.contents) = subst (λ t. StandsFor t (after_reply told a.contents)) (sym state_is) by.stands_for in
    let more = all_above rest (after_reply told a.contents) after in
    subst (λ (c : SessionContents). AllByRecursion (IsAbove c.replies) (request ∷ requests)) one
    (omega (arith, next.number), above_more told a.contents.replies (omega (arith, next.number)) requests more)

none_again : (told : LastReply) (replies : List LastReply) (request : Request) → request.caller ≡ told.caller → request.number ≡ told.number → (requests : List Request)
    → AllByRecursion (IsAbove (with_reply told replies)) requests → AllByRecursion (λ later. IsSameRequest request later → ⊥) requests
none_again told replies request caller number [] each = tt
none_again told replies request caller number (later ∷ requests) each = (apart, none_again told replies request caller number requests each.1)
  where
    apart : IsSameRequest request later → ⊥
    apart same =
        let last : last_number (reply_of later.caller (with_reply told replies)) ≡ told.number =
        ap (λ c. last_number (reply_of c (with_reply told replies))) (sym same.0 ∙ caller) ∙ ap last_number (reply_of-told told replies) in
        omega (arith, each.0, last, number, same.1)

pub acts_once : {state : State} {history : List Entry} {requests : List Request} → Acting state history requests → AreApart requests
acts_once none = tt
acts_once (stays same rest) = acts_once rest
acts_once (acts {state} {entry} {later} {request} {left} {requests} a rest) =
    let by = left_by a in
    let told : LastReply = reply_to request left in
    let state_is : (outcome_of entry.program state).state ≡ by.after = ap (λ (o : Outcome). o.state) by.outcome in
    let after : StandsFor (outcome_of entry.program state).state (after_reply told a.contents) = subst (λ t. StandsFor t (after_reply told a.contents)) (sym state_is) by.stands_for in
    (none_again told a.contents.replies request refl refl requests (all_above rest (after_reply told a.contents) after), acts_once rest)

-- ---- values
pub record Folds (requests : List Request) (value : ℤ) (state : State) : Type 0 where
  pub last : SessionContents
  pub stands_for : StandsFor state last
  pub folds : value_by requests value ≡ Some last.value

pub folds_of : {state : State} {history : List Entry} {requests : List Request} → Acting state history requests → (contents : SessionContents) → StandsFor state contents
    → Folds requests contents.value (replay_from state history)
folds_of none contents s = record { last = contents; stands_for = s; folds = refl }
folds_of (stays {state} {entry} {later} {requests} same rest) contents s =
    subst (λ t. Folds requests contents.value (replay_from t later)) (sym same) (folds_of rest contents s)
folds_of (acts {state} {entry} {later} {request} {left} {requests} a rest) contents s =
    let by = left_by a in
    let told : LastReply = reply_to request left in
    let one : a.contents ≡ contents = stands_once state a.contents contents a.change.stands_for s in
    let next = is_next request a.contents left a.change.next in
    let state_is : (outcome_of entry.program state).state ≡ by.after = ap (λ (o : Outcome). o.state) by.outcome in
    let after : StandsFor (outcome_of entry.program state).state (after_reply told a.contents) = subst (λ t. StandsFor t (after_reply told a.contents)) (sym state_is) by.stands_for in
    let more = folds_of rest (after_reply told a.contents) after in
    let value : value_after request.act contents.value ≡ Some left = ap (λ (c : SessionContents). value_after request.act c.value) (sym one) ∙ next.value in
    record {
      last = more.last;
      stands_for = more.stands_for;
      folds = ap (option_and_then (value_by requests)) value ∙ more.folds;
    }

-- ---- where a reply comes from
pub reply_of-caller : (caller : ℕ) (replies : List LastReply) (told : LastReply) → reply_of caller replies ≡ Some told → told.caller ≡ caller
reply_of-caller caller [] told e = absurd cc
reply_of-caller caller (reply ∷ replies) told e = elim (cases_Bool (reply.caller == caller)) [
  | inl t ↦
      let step : Some reply ≡ Some told = sym (ap (λ b. cond b (Some reply) (reply_of caller replies)) t) ∙ e in
      let same : reply ≡ told = cc (step) in
      ap (λ (r : LastReply). r.caller) (sym same) ∙ eqb-true reply.caller caller t
  | inr f ↦ reply_of-caller caller replies told (sym (ap (λ b. cond b (Some reply) (reply_of caller replies)) f) ∙ e)
]

-- a reply that stands after a history was there at its start, or its request has acted
pub data Explained (caller : ℕ) (told : LastReply) (start : State) (history : List Entry) : Type 0 where
  was_told : (contents : SessionContents) → StandsFor start contents → reply_of caller contents.replies ≡ Some told → Explained caller told start history
  has_acted : {request : Request} {left : ℤ} → reply_to request left ≡ told → HasActed request left start history → Explained caller told start history

later_acted : {request : Request} {left : ℤ} (state : State) (entry : Entry) (later : List Entry) → HasActed request left (outcome_of entry.program state).state later
    → HasActed request left state (entry ∷ later)
later_acted state entry later h = record {
  before = entry ∷ h.before;
  entry = h.entry;
  after = h.after;
  place = ap (λ (es : List Entry). entry ∷ es) h.place;
  acted = h.acted;
}

pub explained : (state : State) (history : List Entry) → AllByRecursion IsOfSession history → (contents : SessionContents) → StandsFor (replay_from state history) contents
    → (caller : ℕ) (told : LastReply) → reply_of caller contents.replies ≡ Some told → Explained caller told state history
explained state [] each contents s caller told e = was_told contents s e
explained state (entry ∷ later) each contents s caller told e =
    elim (explained (outcome_of entry.program state).state later each.1 contents s caller told e) [
      | has_acted same h ↦ has_acted same (later_acted state entry later h)
      | was_told held stood told_then ↦ first held stood told_then (step_of state entry each.0)
    ]
  where
    first : (held : SessionContents) → StandsFor (outcome_of entry.program state).state held → reply_of caller held.replies ≡ Some told → Step state entry → Explained caller told state (entry ∷ later)
    first held stood told_then (kept same) = was_told held (subst (λ t. StandsFor t held) same stood) told_then
    first held stood told_then (acted {request} {left} a) =
        let by = left_by a in
        let mine : LastReply = reply_to request left in
        let state_is : (outcome_of entry.program state).state ≡ by.after = ap (λ (o : Outcome). o.state) by.outcome in
        let one : held ≡ after_reply mine a.contents = stands_once by.after held (after_reply mine a.contents) (subst (λ t. StandsFor t held) state_is stood) by.stands_for in
        let found_then : reply_of caller (with_reply mine a.contents.replies) ≡ Some told = ap (λ (c : SessionContents). reply_of caller c.replies) (sym one) ∙ told_then in
        elim (cases_eq request.caller caller) [
          | inl same ↦
              let both : Some mine ≡ Some told = sym (reply_of-told mine a.contents.replies) ∙ ap (λ c. reply_of c (with_reply mine a.contents.replies)) same ∙ found_then in
              has_acted {request = request} {left = left} (cc (both)) (record { before = []; entry = entry; after = later; place = refl; acted = a })
          | inr other ↦ was_told a.contents a.change.stands_for (sym (reply_of-other mine a.contents.replies caller other) ∙ found_then)
        ]
