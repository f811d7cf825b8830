-- What one mark more owes each rule.
use Rattle.std.proofs.Common.{◌≡◌, ℕ, suc, ◌≤◌, Bool, true, false, not, List, [], ◌∷◌, ◌++◌, refl, sym, ap, ◌∙◌, subst}
use Rattle.std.specs.Prelude.{◌⊎◌, ◌&&◌, ◌||◌, if◌then◌else◌}
use mathlib.Core.Logic.{inl, inr}
use Rattle.cas_base.proofs.Bools.{if_false, true_or_false, and_left, and_right, left_false, or_left, or_right, both_true, not_both, not_tells, not_of_false, false_of_not}
use Rattle.cas_ballot.specs.declared.ballot.Ballot.{Ballot}
use Rattle.cas_ballot.specs.Ballot.{zero_ballot, greater_of}
use Rattle.cas_change.specs.declared.program.Clause.{Clause}
use Rattle.cas_change.specs.declared.state.State.{State}
use Rattle.cas_change.specs.declared.outcome.Took.{Took}
use Rattle.cas_record.specs.declared.answer.Answer.{Answer}
use Rattle.cas_record.specs.declared.answer.Answer.TheVariants as answer
use Rattle.cas_record.specs.declared.entry.Entry.{Entry}
use Rattle.cas_record.specs.declared.mark.Mark.{Mark}
use Rattle.cas_record.specs.declared.mark.Mark.TheVariants.{Begun, Proposed, Voted, Acked, Floor, EraEntered, Ended, Harmed, Told}
use Rattle.cas_record.specs.declared.mark.Proposal.{Proposal}
use Rattle.cas_record.specs.declared.mark.Acknowledgment.{Acknowledgment}
use Rattle.cas_record.specs.Places.{At, Stands, IsOlderPart, IsPrefix, here, past, whole, later}
use Rattle.cas_record.specs.Histories.Chain.{is_key, is_ballot, is_proposal, has_proposal, has_calls, opens_at, has_opening, chain_of, program_of, top_of, settled_of}
use Rattle.cas_record.specs.Legal.{calls_of, IsProposed, IsEnded, IsFirstProposal, IsFirstEnd, IsNumbered, DoesStand, tells_refused, tells_unsettled, RefusedNever, harms_due, harms_of}
use Rattle.cas_record.specs.Legal.{WasBegun, HasVotes, HasFloor, IsAcked, NoneBegun, IsFloor, IsLegal, IsBegun}
use Rattle.cas_record.proofs.PlaceLemmas.{newest_or, stands_at, stands_deeper, part_at, deeper, prefix_same, prefix_trans}
use Rattle.cas_record.proofs.Tests.{proposal_tells, key_same, key_refl, ballot_is, ballot_same}
use Rattle.cas_record.proofs.Histories.Chains.{has_proposal_is, top_cases, entry_place}
use Rattle.cas_record.proofs.Histories.Calls.{program_of_begun, counted_part}
use Rattle.cas_record.proofs.LegalLemmas.{split_at}
use Rattle.cas_audit.specs.Keeping.{KeepsNumbers, KeepsStanding, KeepsRefusals, StandsLate, KeepsRealTime, KeepsSettled, KeepsVotes, KeepsFloors, KeepsHarms, LegalGoesOn}
use Rattle.cas_audit.specs.Rules.{DoneStands, StandsAfterSeen, OnlyGrows, AckedByVotes, FloorsAreTombstones, ShortIsHarmed}
use Rattle.cas_audit.proofs.Histories.{counted_of}

-- ---- numbers
numbers_of : (mark : Mark) (older : List Mark) → IsNumbered (mark ∷ older) → KeepsNumbers mark older
numbers_of (Begun caller call key program) older is = is.begun here
numbers_of (Proposed p) older is = is.proposed here
numbers_of (Ended caller call rounds answer) older is = is.ended here
numbers_of mark older is = tt

begun_on : {mark : Mark} {older xs : List Mark} {caller call : ℕ} {key : List ℕ} {program : List Clause} → IsNumbered older → KeepsNumbers mark older
    → At (Begun caller call key program) xs (mark ∷ older) → call ≡ suc (calls_of caller xs)
begun_on is on here = on
begun_on is on (past at) = is.begun at

proposed_on : {mark : Mark} {older xs : List Mark} {p : Proposal} → IsNumbered older → KeepsNumbers mark older → At (Proposed p) xs (mark ∷ older) → IsFirstProposal p xs
proposed_on is on here = on
proposed_on is on (past at) = is.proposed at

ended_on : {mark : Mark} {older xs : List Mark} {caller call rounds : ℕ} {answer : Answer} → IsNumbered older → KeepsNumbers mark older
    → At (Ended caller call rounds answer) xs (mark ∷ older) → IsFirstEnd caller call xs
ended_on is on here = on
ended_on is on (past at) = is.ended at

pub numbers_on : (mark : Mark) (older : List Mark) → IsNumbered older → KeepsNumbers mark older → IsNumbered (mark ∷ older)
numbers_on mark older is on = record { begun = λ at. begun_on is on at; proposed = λ at. proposed_on is on at; ended = λ at. ended_on is on at }

-- ---- answered changes
standing_of : (mark : Mark) (older : List Mark) → DoneStands (mark ∷ older) → KeepsStanding mark older
standing_of (Ended caller call rounds (answer.Done state took ballot)) older is = is.each here
standing_of mark older is = tt

done_on : {mark : Mark} {older xs : List Mark} {caller call rounds : ℕ} {state : State} {took : Took} {ballot : Ballot} → DoneStands older → KeepsStanding mark older
    → At (Ended caller call rounds (answer.Done state took ballot)) xs (mark ∷ older) → DoesStand caller call state took ballot xs
done_on is on here = on
done_on is on (past at) = is.each at

late_of : (mark : Mark) (older : List Mark) → StandsAfterSeen (mark ∷ older) → KeepsRealTime mark older
late_of (Ended caller call rounds (answer.Done state took ballot)) older is = record { each = λ began. is.each here began }
late_of mark older is = tt

late_on : {mark : Mark} {older xs : List Mark} {caller call rounds : ℕ} {state : State} {took : Took} {ballot : Ballot} → StandsAfterSeen older → KeepsRealTime mark older
    → At (Ended caller call rounds (answer.Done state took ballot)) xs (mark ∷ older) → StandsLate caller call xs
late_on is on here = on
late_on is on (past at) = record { each = λ began. is.each at began }

-- ---- refusals
proposed_more : {caller call : ℕ} {mark : Mark} {older : List Mark} → IsProposed caller call older → IsProposed caller call (mark ∷ older)
proposed_more p = record { proposal = p.proposal; stands = record { older = p.stands.older; at = past p.stands.at }; same_caller = p.same_caller; same_call = p.same_call }

refusals_of : (mark : Mark) (older : List Mark) → RefusedNever (mark ∷ older) → KeepsRefusals mark older
refusals_of (Ended caller call rounds answer) older is = record { refused = λ tells proposed. is.refused here tells (proposed_more proposed); unsettled = λ tells. is.unsettled here tells }
refusals_of mark older is = tt

-- no call is proposed by a mark that ends another, nor after its end
still_proposed : {caller call rounds c n : ℕ} {answer : Answer} {older : List Mark} → IsProposed c n (Ended caller call rounds answer ∷ older) → IsProposed c n older
still_proposed p = elim (newest_or p.stands) [
  | inl same ↦ absurd (cc same)
  | inr stands ↦ record { proposal = p.proposal; stands = stands; same_caller = p.same_caller; same_call = p.same_call }
]

not_proposed_now : {mark : Mark} {older xs : List Mark} {caller call rounds : ℕ} {answer : Answer} → IsNumbered (mark ∷ older) → At (Ended caller call rounds answer) xs older
    → IsProposed caller call (mark ∷ older) → IsProposed caller call older
not_proposed_now {mark} {older} {xs} {caller} {call} {rounds} {answer} numbered at p = elim (newest_or p.stands) [
  | inl same ↦
      let first : IsFirstProposal p.proposal older = numbered.proposed (subst (λ m. At m older (mark ∷ older)) (sym same) here) in
      let ended : IsEnded caller call older = record { rounds = rounds; answer = answer; stands = stands_at at } in
      absurd (first.open_yet (subst (λ c. IsEnded c p.proposal.call older) (sym p.same_caller) (subst (λ n. IsEnded caller n older) (sym p.same_call) ended)))
  | inr stands ↦ record { proposal = p.proposal; stands = stands; same_caller = p.same_caller; same_call = p.same_call }
]

refused_on : {mark : Mark} {older xs : List Mark} {caller call rounds : ℕ} {answer : Answer} → RefusedNever older → IsNumbered (mark ∷ older) → KeepsRefusals mark older
    → At (Ended caller call rounds answer) xs (mark ∷ older) → tells_refused answer ≡ true → IsProposed caller call (mark ∷ older) → ⊥
refused_on is numbered on here tells proposed = on.refused tells (still_proposed proposed)
refused_on is numbered on (past at) tells proposed = is.refused at tells (not_proposed_now numbered at proposed)

unsettled_on : {mark : Mark} {older xs : List Mark} {caller call rounds : ℕ} {answer : Answer} → RefusedNever older → KeepsRefusals mark older
    → At (Ended caller call rounds answer) xs (mark ∷ older) → tells_unsettled answer ≡ true → IsProposed caller call xs
unsettled_on is on here tells = on.unsettled tells
unsettled_on is on (past at) tells = is.unsettled at tells

-- ---- what is settled
-- where a key's top is the ballot of an acknowledgment or a floor, the key has a proposal or an opening floor at it
abbrev Topped : List ℕ → Ballot → List Mark → Type 0
Topped key ballot older = (ballot ≡ zero_ballot) ⊎ ((has_proposal key ballot older ≡ true) ⊎ (has_opening key ballot older ≡ true))

zero_or_not : (ballot : Ballot) → (ballot ≡ zero_ballot) ⊎ (ballot ≡ zero_ballot → ⊥)
zero_or_not ballot = elim (true_or_false (is_ballot ballot zero_ballot)) [
  | inl e ↦ inl (ballot_same e)
  | inr e ↦ inr (λ z. not_both (is_ballot ballot zero_ballot) (ballot_is z) e)
]

proposed_by_ack : {key : List ℕ} {ballot : Ballot} {older : List Mark} → IsLegal older → IsAcked key ballot older → (ballot ≡ zero_ballot → ⊥) → has_proposal key ballot older ≡ true
proposed_by_ack legal acked drawn =
    let v = legal.has_votes acked.stands.at in
    has_proposal_is (deeper v.proposed.at acked.stands.at) (record { same_key = v.same_key ∙ acked.same_key; same_ballot = v.same_ballot ∙ acked.same_ballot; not_zero = drawn })

opening_here : (key : List ℕ) (floor : Ballot) (state : State) (older : List Mark) → has_calls older ≡ false → opens_at key floor (Floor key floor state) older ≡ true
opening_here key floor state older none = both_true (is_key key key) _ (key_refl key) (both_true (is_ballot floor floor) _ (ballot_is {a = floor} refl) (not_of_false (has_calls older) none))

opening_at : {key : List ℕ} {floor : Ballot} {state : State} {older marks : List Mark} → At (Floor key floor state) older marks → has_calls older ≡ false → has_opening key floor marks ≡ true
opening_at {key} {floor} {state} {older} here none = or_left (opens_at key floor (Floor key floor state) older) (has_opening key floor older) (opening_here key floor state older none)
opening_at {key} {floor} (past {y = mark} {rest = rest} at) none = or_right (opens_at key floor mark rest) (has_opening key floor rest) (opening_at at none)

record SomeBegun (marks : List Mark) : Type 0 where
  caller : ℕ
  call : ℕ
  key : List ℕ
  program : List Clause
  stands : Stands (Begun caller call key program) marks

begun_more : (mark : Mark) (older : List Mark) → SomeBegun older → SomeBegun (mark ∷ older)
begun_more mark older b = record { caller = b.caller; call = b.call; key = b.key; program = b.program; stands = record { older = b.stands.older; at = past b.stands.at } }

some_begun : (marks : List Mark) → has_calls marks ≡ true → SomeBegun marks
some_begun [] e = absurd cc
some_begun (Begun caller call key program ∷ older) e = record { caller = caller; call = call; key = key; program = program; stands = record { older = older; at = here } }
some_begun (mark ∷ older) e = begun_more mark older (some_begun older e)

pub none_begun : (marks : List Mark) → NoneBegun marks → has_calls marks ≡ false
none_begun marks none = false_of_not (has_calls marks) (λ e. let b = some_begun marks e in none b.caller b.call b.key b.program b.stands)

topped_by_floor : {key : List ℕ} {ballot : Ballot} {older : List Mark} → IsLegal older → HasFloor key ballot older → (ballot ≡ zero_ballot → ⊥)
    → (has_proposal key ballot older ≡ true) ⊎ (has_opening key ballot older ≡ true)
topped_by_floor {key} {ballot} {older} legal floor drawn = elim (legal.floors floor.stands.at) [
  | inl opening ↦ inr (opening_at floor.stands.at (none_begun floor.stands.older opening.none_begun))
  | inr tomb ↦
      let a = tomb.acked in
      inl (proposed_by_ack {older = older} legal
      (record { acknowledgment = a.acknowledgment; stands = stands_deeper a.stands floor.stands.at; same_key = a.same_key; same_ballot = a.same_ballot }) drawn)
]

pub topped : (key : List ℕ) (older : List Mark) → IsLegal older → Topped key (top_of key older) older
topped key older legal = elim (zero_or_not (top_of key older)) [
  | inl zero ↦ inl zero
  | inr drawn ↦ inr (elim (top_cases key older) [
    | inl zero ↦ absurd (drawn zero)
    | inr made ↦ elim made [
      | inl acked ↦ inl (proposed_by_ack {older = older} legal acked drawn)
      | inr floor ↦ topped_by_floor legal floor drawn
    ]
  ])
]

-- a proposal leaves the history of a ballot that has one, or an opening floor
pub unmoved : (key : List ℕ) (ballot : Ballot) (p : Proposal) (older : List Mark) → Topped key ballot older → chain_of key ballot (Proposed p ∷ older) ≡ chain_of key ballot older
unmoved key ballot p older top =
    let fits = is_proposal key ballot p && not (has_proposal key ballot older || has_opening key ballot older) in
    if_false fits _ _ (false_of_not fits (λ e.
    let is = and_left (is_proposal key ballot p) (not (has_proposal key ballot older || has_opening key ballot older)) e in
    let none = not_tells (has_proposal key ballot older || has_opening key ballot older) (and_right (is_proposal key ballot p) (not (has_proposal key ballot older || has_opening key ballot older)) e) in
    elim top [
      | inl zero ↦ (proposal_tells key ballot p is).not_zero zero
      | inr made ↦ not_both (has_proposal key ballot older || has_opening key ballot older) (either (has_proposal key ballot older) (has_opening key ballot older) made) none
    ]))
  where
    either : (a b : Bool) → (a ≡ true) ⊎ (b ≡ true) → (a || b) ≡ true
    either a b (inl e) = or_left a b e
    either a b (inr e) = or_right a b e

top_apart : (key k : List ℕ) (x y : Ballot) → is_key k key ≡ false → (if is_key k key then x else y) ≡ y
top_apart key k x y e = if_false (is_key k key) x y e

opens_apart : (key k : List ℕ) (b f : Ballot) (state : State) (older : List Mark) → is_key k key ≡ false → opens_at key b (Floor k f state) older ≡ false
opens_apart key k b f state older e = left_false (is_key k key) _ e

pub floor_apart : (key k : List ℕ) (f : Ballot) (state : State) (older : List Mark) → is_key k key ≡ false → settled_of key (Floor k f state ∷ older) ≡ settled_of key older
floor_apart key k f state older e =
    ap (λ b. chain_of key b (Floor k f state ∷ older)) (top_apart key k (greater_of f (top_of key older)) (top_of key older) e)
    ∙ if_false (opens_at key (top_of key older) (Floor k f state) older) [] (chain_of key (top_of key older) older) (opens_apart key k (top_of key older) f state older e)

pub acked_apart : (key : List ℕ) (a : Acknowledgment) (older : List Mark) → is_key a.key key ≡ false → settled_of key (Acked a ∷ older) ≡ settled_of key older
acked_apart key a older e = ap (λ b. chain_of key b older) (top_apart key a.key (greater_of a.ballot (top_of key older)) (top_of key older) e)

-- on a legal record a mark that keeps the settled history of its key keeps each
pub settled_goes_on : (mark : Mark) (older : List Mark) → IsLegal older → KeepsSettled mark older → (key : List ℕ) → IsPrefix (settled_of key older) (settled_of key (mark ∷ older))
settled_goes_on (Acked a) older legal on key = elim (true_or_false (is_key a.key key)) [
  | inl e ↦ subst (λ k. IsPrefix (settled_of k older) (settled_of k (Acked a ∷ older))) (key_same e) on
  | inr e ↦ prefix_same (sym (acked_apart key a older e))
]
settled_goes_on (Floor k f state) older legal on key = elim (true_or_false (is_key k key)) [
  | inl e ↦ subst (λ x. IsPrefix (settled_of x older) (settled_of x (Floor k f state ∷ older))) (key_same e) on
  | inr e ↦ prefix_same (sym (floor_apart key k f state older e))
]
settled_goes_on (Proposed p) older legal on key = prefix_same (sym (unmoved key (top_of key older) p older (topped key older legal)))
settled_goes_on (Begun c n k p) older legal on key = prefix_same refl
settled_goes_on (Voted a k b) older legal on key = prefix_same refl
settled_goes_on (EraEntered p n) older legal on key = prefix_same refl
settled_goes_on (Ended c n r a) older legal on key = prefix_same refl
settled_goes_on (Harmed c n d) older legal on key = prefix_same refl
settled_goes_on (Told a b) older legal on key = prefix_same refl

grows_on : {mark : Mark} {older later_part earlier : List Mark} → IsLegal older → KeepsSettled mark older → IsOlderPart later_part (mark ∷ older) → IsOlderPart earlier later_part
    → (key : List ℕ) → IsPrefix (settled_of key earlier) (settled_of key later_part)
grows_on {mark} {older} legal on whole whole key = prefix_same refl
grows_on {mark} {older} legal on whole (later q) key = prefix_trans (legal.only_grows whole q key) (settled_goes_on mark older legal on key)
grows_on legal on (later p) q key = legal.only_grows p q key

grows_of : (mark : Mark) (older : List Mark) → OnlyGrows (mark ∷ older) → KeepsSettled mark older
grows_of (Acked a) older is = is.each whole (later whole) a.key
grows_of (Floor key ballot state) older is = is.each whole (later whole) key
grows_of mark older is = tt

-- ---- what is settled was begun
pub was_begun : (marks : List Mark) → IsNumbered marks → (key : List ℕ) (entry : Entry) → Stands entry (settled_of key marks) → WasBegun key entry marks
was_begun marks numbered key entry s =
    let split = split_at s.at in
    let place = entry_place key (top_of key marks) marks split.front entry s.older split.joins in
    let p = place.proposal in
    let begun : IsBegun p.caller p.call p.key place.older = (numbered.proposed place.at).begun in
    let program : program_of p.caller p.call place.older ≡ begun.program = program_of_begun (counted_part (counted_of numbered) (part_at place.at)) begun.stands.at in
    let bears : entry.program ≡ begun.program = ap (λ (x : Entry). x.program) place.entry_is ∙ program in
    let same : Begun p.caller p.call p.key begun.program ≡ Begun entry.caller entry.call key entry.program =
    λ i. Begun (sym place.entry_is i).caller (sym place.entry_is i).call (place.same_key i) (sym bears i) in
    record {
      proposal = p;
      older = place.older;
      proposed = place.at;
      same_key = place.same_key;
      same_caller = sym (ap (λ (x : Entry). x.caller) place.entry_is);
      same_call = sym (ap (λ (x : Entry). x.call) place.entry_is);
      begun = subst (λ (mark : Mark). Stands mark place.older) same begun.stands;
    }

begun_first_on : {mark : Mark} {older part : List Mark} → IsLegal older → IsNumbered (mark ∷ older) → IsOlderPart part (mark ∷ older)
    → (key : List ℕ) (entry : Entry) → Stands entry (settled_of key part) → WasBegun key entry part
begun_first_on {mark} {older} legal numbered whole key entry s = was_begun (mark ∷ older) numbered key entry s
begun_first_on legal numbered (later p) key entry s = legal.begun_first p key entry s

-- ---- votes, floors and harms
votes_of : (mark : Mark) (older : List Mark) → AckedByVotes (mark ∷ older) → KeepsVotes mark older
votes_of (Acked a) older is = is.each here
votes_of mark older is = tt

votes_on : {mark : Mark} {older xs : List Mark} {a : Acknowledgment} → IsLegal older → KeepsVotes mark older → At (Acked a) xs (mark ∷ older) → HasVotes a xs
votes_on legal on here = on
votes_on legal on (past at) = legal.has_votes at

floors_of : (mark : Mark) (older : List Mark) → FloorsAreTombstones (mark ∷ older) → KeepsFloors mark older
floors_of (Floor key ballot state) older is = is.each here
floors_of mark older is = tt

floors_on : {mark : Mark} {older xs : List Mark} {key : List ℕ} {ballot : Ballot} {state : State} → IsLegal older → KeepsFloors mark older → At (Floor key ballot state) xs (mark ∷ older) → IsFloor key ballot state xs
floors_on legal on here = on
floors_on legal on (past at) = legal.floors at

harms_kept : (mark : Mark) (older : List Mark) → ShortIsHarmed (mark ∷ older) → KeepsHarms mark older
harms_kept (Ended caller call rounds answer) older is = is.each here
harms_kept mark older is = tt

harms_on : {mark : Mark} {older xs : List Mark} {caller call rounds : ℕ} {answer : Answer} → IsLegal older → KeepsHarms mark older → At (Ended caller call rounds answer) xs (mark ∷ older)
    → harms_due answer ≤ harms_of caller call xs
harms_on legal on here = on
harms_on legal on (past at) = legal.short_harmed at

-- ---- the whole
pub rules_go_on : LegalGoesOn
rules_go_on mark older legal = record {
  numbered = (numbers_of mark older, numbers_on mark older legal.numbered);
  done_stands = (standing_of mark older, λ on. record { each = λ at. done_on (record { each = λ at. legal.done_stands at }) on at });
  refused_never = λ numbered. (refusals_of mark older, λ on. record { refused = λ at. refused_on legal.refused_never numbered on at; unsettled = λ at. unsettled_on legal.refused_never on at });
  after_seen = (late_of mark older, λ on. record { each = λ at began. (late_on (record { each = λ at began. legal.after_seen at began }) on at).each began });
  only_grows = (grows_of mark older, λ on. record { each = λ p q. grows_on legal on p q });
  begun_first = λ numbered. record { each = λ p. begun_first_on legal numbered p };
  has_votes = (votes_of mark older, λ on. record { each = λ at. votes_on legal on at });
  floors = (floors_of mark older, λ on. record { each = λ at. floors_on legal on at });
  short_harmed = (harms_kept mark older, λ on. record { each = λ at. harms_on legal on at });
}
