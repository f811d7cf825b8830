-- Histories in any record, lawful or not: they never change as the record grows, and each entry has its proposal.
use Rattle.std.proofs.Common.{◌≡◌, ℕ, true, false, not, List, [], ◌∷◌, ◌++◌, refl, sym, ◌∙◌, subst}
use Rattle.std.specs.Prelude.{◌⊎◌, ◌&&◌, ◌||◌}
use Rattle.std.specs.Ordering.{is_lt}
use mathlib.Core.Logic.{inl, inr}
use Rattle.cas_ballot.specs.declared.ballot.Ballot.{Ballot}
use Rattle.cas_ballot.specs.Ballot.{ballot_cmp, zero_ballot, BallotAtMost, BallotLess}
use Rattle.cas_ballot.proofs.BallotLemmas.{at_most_refl, at_most_trans}
use Rattle.cas_change.specs.declared.program.Clause.{Clause}
use Rattle.cas_change.specs.declared.state.State.{State}
use Rattle.cas_record.specs.declared.entry.Entry.{Entry}
use Rattle.cas_record.specs.declared.mark.Mark.{Mark}
use Rattle.cas_record.specs.declared.mark.Mark.TheVariants.{Begun, Proposed, Acked, Floor}
use Rattle.cas_record.specs.declared.mark.Proposal.{Proposal}
use Rattle.cas_record.specs.declared.mark.Acknowledgment.{Acknowledgment}
use Rattle.cas_record.specs.Places.{At, IsOlderPart, here, past, whole, later}
use Rattle.cas_record.specs.Histories.Chain.{is_key, is_ballot, is_proposal, has_proposal, has_calls, opens_at, has_opening, floor_below, link_of, entry_of, chain_of, top_of}
use Rattle.cas_record.specs.Legal.{HasProposal, HasFloor, IsAcked}
use Rattle.cas_record.proofs.PlaceLemmas.{last_or_in}
use Rattle.cas_base.proofs.Bools.{if_true, if_false, true_or_false, and_left, and_right, both_true, left_false, right_false, or_cases, or_left, or_right, not_of_true, not_of_false, not_tells}
use Rattle.cas_record.proofs.Tests.{if_both, neither, neither_left, neither_right, key_same, key_refl, ballot_same, less_tells, less_is, IsProposalOf, proposal_tells, proposal_is, step_right, step_left, step_cases}

-- ---- which ballots have a proposal
has_in : {key : List ℕ} {ballot : Ballot} {mark : Mark} {older : List Mark} → HasProposal key ballot older → HasProposal key ballot (mark ∷ older)
has_in h = record { proposal = h.proposal; stands = record { older = h.stands.older; at = past h.stands.at }; same_key = h.same_key; same_ballot = h.same_ballot }

pub has_proposal_tells : (key : List ℕ) (ballot : Ballot) (marks : List Mark) → has_proposal key ballot marks ≡ true → HasProposal key ballot marks
has_proposal_tells key ballot [] e = absurd cc
has_proposal_tells key ballot (Proposed p ∷ older) e = elim (or_cases (is_proposal key ballot p) (has_proposal key ballot older) e) [
  | inl first ↦
      let of = proposal_tells key ballot p first in
      record { proposal = p; stands = record { older = older; at = here }; same_key = of.same_key; same_ballot = of.same_ballot }
  | inr rest ↦ has_in (has_proposal_tells key ballot older rest)
]
has_proposal_tells key ballot (mark ∷ older) e = has_in (has_proposal_tells key ballot older e)

-- a mark in front takes no proposal away
pub has_proposal_more : (key : List ℕ) (ballot : Ballot) (mark : Mark) (older : List Mark) → has_proposal key ballot older ≡ true → has_proposal key ballot (mark ∷ older) ≡ true
has_proposal_more key ballot (Proposed p) older e = or_right (is_proposal key ballot p) (has_proposal key ballot older) e
has_proposal_more key ballot mark older e = e

pub has_proposal_is : {key : List ℕ} {ballot : Ballot} {p : Proposal} {older marks : List Mark} → At (Proposed p) older marks → IsProposalOf key ballot p → has_proposal key ballot marks ≡ true
has_proposal_is {key} {ballot} {p} {older} here of = or_left (is_proposal key ballot p) (has_proposal key ballot older) (proposal_is of)
has_proposal_is {key} {ballot} (past {y = mark} {rest = rest} at) of = has_proposal_more key ballot mark rest (has_proposal_is at of)

pub has_proposal_later : (key : List ℕ) (ballot : Ballot) {part marks : List Mark} → IsOlderPart part marks → has_proposal key ballot part ≡ true → has_proposal key ballot marks ≡ true
has_proposal_later key ballot whole e = e
has_proposal_later key ballot (later {y = mark} {rest = rest} part) e = has_proposal_more key ballot mark rest (has_proposal_later key ballot part e)

-- ---- opening floors
-- a floor of the key at the ballot that was made before any call began
pub record OpensAt (key : List ℕ) (ballot : Ballot) (marks : List Mark) : Type 0 where
  pub state : State
  pub older : List Mark
  pub at : At (Floor key ballot state) older marks
  pub none : has_calls older ≡ false

opens_more : {key : List ℕ} {ballot : Ballot} {mark : Mark} {marks : List Mark} → OpensAt key ballot marks → OpensAt key ballot (mark ∷ marks)
opens_more o = record { state = o.state; older = o.older; at = past o.at; none = o.none }

opens_here : (key : List ℕ) (ballot : Ballot) (mark : Mark) (older : List Mark) → opens_at key ballot mark older ≡ true → OpensAt key ballot (mark ∷ older)
opens_here key ballot (Floor k floor state) older e =
    let rest : (is_ballot floor ballot && not (has_calls older)) ≡ true = and_right (is_key k key) _ e in
    record {
      state = state;
      older = older;
      at = subst (λ x. At (Floor key x state) older (Floor k floor state ∷ older)) (ballot_same (and_left (is_ballot floor ballot) _ rest))
          (subst (λ x. At (Floor x floor state) older (Floor k floor state ∷ older)) (key_same (and_left (is_key k key) _ e)) here);
      none = not_tells (has_calls older) (and_right (is_ballot floor ballot) _ rest);
    }
opens_here key ballot mark older e = absurd cc

pub opening_tells : (key : List ℕ) (ballot : Ballot) (marks : List Mark) → has_opening key ballot marks ≡ true → OpensAt key ballot marks
opening_tells key ballot [] e = absurd cc
opening_tells key ballot (mark ∷ older) e = elim (or_cases (opens_at key ballot mark older) (has_opening key ballot older) e) [
  | inl first ↦ opens_here key ballot mark older first
  | inr rest ↦ opens_more (opening_tells key ballot older rest)
]

-- where no call was begun, none stands
pub no_calls : {caller call : ℕ} {key : List ℕ} {program : List Clause} {older marks : List Mark} → has_calls marks ≡ false → At (Begun caller call key program) older marks → ⊥
no_calls e here = cc
no_calls {marks = mark ∷ rest} e (past at) = no_calls (tail mark rest e) at
  where
    tail : (mark : Mark) (rest : List Mark) → has_calls (mark ∷ rest) ≡ false → has_calls rest ≡ false
    tail (Begun caller call key program) rest e = absurd cc
    tail mark rest e = e

-- ---- the history of a ballot
-- a ballot with no proposal has no history
pub chain-none : (key : List ℕ) (ballot : Ballot) (marks : List Mark) → has_proposal key ballot marks ≡ false → chain_of key ballot marks ≡ []
chain-none key ballot [] e = refl
chain-none key ballot (Proposed p ∷ older) e =
    let e2 : has_proposal key ballot older ≡ false = neither_right (is_proposal key ballot p) (has_proposal key ballot older) e in
    if_false (is_proposal key ballot p && not (has_proposal key ballot older || has_opening key ballot older)) _ _
    (left_false _ _ (neither_left (is_proposal key ballot p) (has_proposal key ballot older) e)) ∙ chain-none key ballot older e2
chain-none key ballot (Floor k floor state ∷ older) e = if_both (opens_at key ballot (Floor k floor state) older) [] (chain_of key ballot older) [] refl (chain-none key ballot older e)
chain-none key ballot (mark ∷ older) e = chain-none key ballot older e

-- zero has none
zero_none : (key : List ℕ) (marks : List Mark) → has_proposal key zero_ballot marks ≡ false
zero_none key [] = refl
zero_none key (Proposed p ∷ older) =
    neither (is_proposal key zero_ballot p) (has_proposal key zero_ballot older) (right_false (is_key p.key key) _ (right_false (is_ballot p.ballot zero_ballot) _ refl)) (zero_none key older)
zero_none key (mark ∷ older) = zero_none key older

pub chain_zero : (key : List ℕ) (marks : List Mark) → chain_of key zero_ballot marks ≡ []
chain_zero key marks = chain-none key zero_ballot marks (zero_none key marks)

-- an opening floor has none
pub chain-opens : (key : List ℕ) (ballot : Ballot) (mark : Mark) (older : List Mark) → opens_at key ballot mark older ≡ true → chain_of key ballot (mark ∷ older) ≡ []
chain-opens key ballot (Floor k floor state) older e = if_true (opens_at key ballot (Floor k floor state) older) [] (chain_of key ballot older) e
chain-opens key ballot mark older e = absurd cc

pub chain-opened : (key : List ℕ) (ballot : Ballot) (marks : List Mark) → has_opening key ballot marks ≡ true → chain_of key ballot marks ≡ []
chain-opened key ballot [] e = refl
chain-opened key ballot (Proposed p ∷ older) e =
    if_false (is_proposal key ballot p && not (has_proposal key ballot older || has_opening key ballot older)) _ _
    (right_false (is_proposal key ballot p) _ (not_of_true _ (or_right (has_proposal key ballot older) (has_opening key ballot older) e))) ∙ chain-opened key ballot older e
chain-opened key ballot (Floor k floor state ∷ older) e = elim (or_cases (opens_at key ballot (Floor k floor state) older) (has_opening key ballot older) e) [
  | inl first ↦ chain-opens key ballot (Floor k floor state) older first
  | inr rest ↦ if_both (opens_at key ballot (Floor k floor state) older) [] (chain_of key ballot older) [] refl (chain-opened key ballot older rest)
]
chain-opened key ballot (mark ∷ older) e = chain-opened key ballot older e

-- one with a proposal keeps its history
chain-more : (key : List ℕ) (ballot : Ballot) (mark : Mark) (older : List Mark) → has_proposal key ballot older ≡ true → has_opening key ballot (mark ∷ older) ≡ false
    → chain_of key ballot (mark ∷ older) ≡ chain_of key ballot older
chain-more key ballot (Proposed p) older e none =
    if_false (is_proposal key ballot p && not (has_proposal key ballot older || has_opening key ballot older)) _ _
    (right_false (is_proposal key ballot p) _ (not_of_true _ (or_left (has_proposal key ballot older) (has_opening key ballot older) e)))
chain-more key ballot (Floor k floor state) older e none =
    if_false (opens_at key ballot (Floor k floor state) older) [] (chain_of key ballot older) (neither_left (opens_at key ballot (Floor k floor state) older) (has_opening key ballot older) none)
chain-more key ballot mark older e none = refl

pub chain-later : (key : List ℕ) (ballot : Ballot) {part marks : List Mark} → IsOlderPart part marks → has_proposal key ballot part ≡ true → has_opening key ballot marks ≡ false
    → chain_of key ballot marks ≡ chain_of key ballot part
chain-later key ballot whole e none = refl
chain-later key ballot (later {y = mark} {rest = rest} part) e none =
    let e2 : has_opening key ballot rest ≡ false = neither_right (opens_at key ballot mark rest) (has_opening key ballot rest) none in
    chain-more key ballot mark rest (has_proposal_later key ballot part e) none ∙ chain-later key ballot part e e2

-- at its first proposal it is the history of the link, and the entry
pub chain-at : {p : Proposal} {older marks : List Mark} → At (Proposed p) older marks → has_proposal p.key p.ballot older ≡ false → (p.ballot ≡ zero_ballot → ⊥)
    → has_opening p.key p.ballot marks ≡ false → chain_of p.key p.ballot marks ≡ chain_of p.key (link_of older p) older ++ entry_of older p ∷ []
chain-at {p} {older} here fresh not_zero none =
    let of : IsProposalOf p.key p.ballot p = record { same_key = refl; same_ballot = refl; not_zero = not_zero } in
    if_true (is_proposal p.key p.ballot p && not (has_proposal p.key p.ballot older || has_opening p.key p.ballot older)) _ _
    (both_true _ _ (proposal_is of) (not_of_false _ (neither (has_proposal p.key p.ballot older) (has_opening p.key p.ballot older) fresh none)))
chain-at {p} {older} (past {y = mark} {rest = rest} at) fresh not_zero none =
    chain-more p.key p.ballot mark rest (has_proposal_is at (record { same_key = refl; same_ballot = refl; not_zero = not_zero })) none
    ∙ chain-at at fresh not_zero (neither_right (opens_at p.key p.ballot mark rest) (has_opening p.key p.ballot rest) none)

-- where an entry stands in a history, it is that of a proposal, behind the history of the proposal's link
pub record EntryPlace (key : List ℕ) (entry : Entry) (before : List Entry) (marks : List Mark) : Type 0 where
  pub proposal : Proposal
  pub older : List Mark
  pub at : At (Proposed proposal) older marks
  pub same_key : proposal.key ≡ key
  pub entry_is : entry ≡ entry_of older proposal
  pub before_is : before ≡ chain_of key (link_of older proposal) older

place_more : {key : List ℕ} {entry : Entry} {before : List Entry} {mark : Mark} {marks : List Mark} → EntryPlace key entry before marks → EntryPlace key entry before (mark ∷ marks)
place_more p = record { proposal = p.proposal; older = p.older; at = past p.at; same_key = p.same_key; entry_is = p.entry_is; before_is = p.before_is }

pub nil_not : (before : List Entry) (entry : Entry) (after : List Entry) → [] ≡ before ++ entry ∷ after → ⊥
nil_not [] entry after e = cc
nil_not (x ∷ before) entry after e = cc

pub entry_place : (key : List ℕ) (ballot : Ballot) (marks : List Mark) (before : List Entry) (entry : Entry) (after : List Entry)
    → chain_of key ballot marks ≡ before ++ entry ∷ after → EntryPlace key entry before marks
entry_place key ballot [] before entry after e = absurd (nil_not before entry after e)
entry_place key ballot (Proposed p ∷ older) before entry after e =
    elim (true_or_false (is_proposal key ballot p && not (has_proposal key ballot older || has_opening key ballot older))) [
      | inl fits ↦
          let of = proposal_tells key ballot p (and_left (is_proposal key ballot p) _ fits) in
          elim (last_or_in (chain_of key (link_of older p) older) (entry_of older p) before entry after (sym (if_true _ _ _ fits) ∙ e)) [
            | inl last ↦ record { proposal = p; older = older; at = here; same_key = of.same_key; entry_is = last.1; before_is = last.0 }
            | inr inside ↦ place_more (entry_place key (link_of older p) older before entry inside.0 inside.1)
          ]
      | inr other ↦ place_more (entry_place key ballot older before entry after (sym (if_false _ _ _ other) ∙ e))
    ]
entry_place key ballot (Floor k floor state ∷ older) before entry after e = elim (true_or_false (opens_at key ballot (Floor k floor state) older)) [
  | inl opens ↦ absurd (nil_not before entry after (sym (if_true (opens_at key ballot (Floor k floor state) older) [] (chain_of key ballot older) opens) ∙ e))
  | inr other ↦ place_more (entry_place key ballot older before entry after (sym (if_false (opens_at key ballot (Floor k floor state) older) [] (chain_of key ballot older) other) ∙ e))
]
entry_place key ballot (mark ∷ older) before entry after e = place_more (entry_place key ballot older before entry after e)

-- ---- floors
floor_more : {key : List ℕ} {ballot : Ballot} {mark : Mark} {marks : List Mark} → HasFloor key ballot marks → HasFloor key ballot (mark ∷ marks)
floor_more f = record { state = f.state; stands = record { older = f.stands.older; at = past f.stands.at } }

-- a floor below the ballot is at most the greatest such
floor_below_more : (key : List ℕ) (ballot : Ballot) (mark : Mark) (older : List Mark) → BallotAtMost (floor_below key ballot older) (floor_below key ballot (mark ∷ older))
floor_below_more key ballot (Floor k floor state) older = step_right (is_key k key && is_lt (ballot_cmp floor ballot)) floor (floor_below key ballot older)
floor_below_more key ballot mark older = at_most_refl (floor_below key ballot older)

pub at_most_floor_below : {key : List ℕ} {floor ballot : Ballot} {state : State} {older marks : List Mark} → At (Floor key floor state) older marks → BallotLess floor ballot
    → BallotAtMost floor (floor_below key ballot marks)
at_most_floor_below {key} {floor} {ballot} {state} {older} here less =
    step_left (is_key key key && is_lt (ballot_cmp floor ballot)) floor (floor_below key ballot older) (both_true _ _ (key_refl key) (less_is less))
at_most_floor_below {key} {floor} {ballot} (past {y = mark} {rest = rest} at) less = at_most_trans (at_most_floor_below at less) (floor_below_more key ballot mark rest)

pub record FloorBelow (key : List ℕ) (floor ballot : Ballot) (marks : List Mark) : Type 0 where
  pub stands : HasFloor key floor marks
  pub below : BallotLess floor ballot

below_more : {key : List ℕ} {floor ballot : Ballot} {mark : Mark} {marks : List Mark} → (floor ≡ zero_ballot) ⊎ FloorBelow key floor ballot marks
    → (floor ≡ zero_ballot) ⊎ FloorBelow key floor ballot (mark ∷ marks)
below_more c = elim c [ inl z ↦ inl z | inr f ↦ inr (record { stands = floor_more f.stands; below = f.below }) ]

-- the greatest such is a floor below the ballot, or zero
pub floor_below_cases : (key : List ℕ) (ballot : Ballot) (marks : List Mark)
    → (floor_below key ballot marks ≡ zero_ballot) ⊎ FloorBelow key (floor_below key ballot marks) ballot marks
floor_below_cases key ballot [] = inl refl
floor_below_cases key ballot (Floor k floor state ∷ older) =
    let t = is_key k key && is_lt (ballot_cmp floor ballot) in
    let P : Ballot → Type 0 = λ b. (b ≡ zero_ballot) ⊎ FloorBelow key b ballot (Floor k floor state ∷ older) in
    elim (step_cases t floor (floor_below key ballot older)) as (λ _. P (floor_below key ballot (Floor k floor state ∷ older))) [
      | inl same ↦ subst P (sym same) (below_more (floor_below_cases key ballot older))
      | inr this ↦
          let same_key : k ≡ key = key_same (and_left (is_key k key) _ this.0) in
          subst P (sym this.1) (inr (record {
            stands = record { state = state; stands = record { older = older; at = subst (λ x. At (Floor x floor state) older (Floor k floor state ∷ older)) same_key here } };
            below = less_tells (and_right (is_key k key) _ this.0);
          }))
    ]
floor_below_cases key ballot (mark ∷ older) = below_more (floor_below_cases key ballot older)

-- ---- the top
pub top_more : (key : List ℕ) (mark : Mark) (older : List Mark) → BallotAtMost (top_of key older) (top_of key (mark ∷ older))
top_more key (Acked a) older = step_right (is_key a.key key) a.ballot (top_of key older)
top_more key (Floor k floor state) older = step_right (is_key k key) floor (top_of key older)
top_more key mark older = at_most_refl (top_of key older)

pub top_later : {part marks : List Mark} → IsOlderPart part marks → (key : List ℕ) → BallotAtMost (top_of key part) (top_of key marks)
top_later {part} whole key = at_most_refl (top_of key part)
top_later (later {y = mark} {rest = rest} part) key = at_most_trans (top_later part key) (top_more key mark rest)

pub acked_at_most_top : {a : Acknowledgment} {older marks : List Mark} → At (Acked a) older marks → BallotAtMost a.ballot (top_of a.key marks)
acked_at_most_top {a} {older} here = step_left (is_key a.key a.key) a.ballot (top_of a.key older) (key_refl a.key)
acked_at_most_top {a} (past {y = mark} {rest = rest} at) = at_most_trans (acked_at_most_top at) (top_more a.key mark rest)

acked_more : {key : List ℕ} {ballot : Ballot} {mark : Mark} {marks : List Mark} → IsAcked key ballot marks → IsAcked key ballot (mark ∷ marks)
acked_more a = record {
  acknowledgment = a.acknowledgment;
  stands = record { older = a.stands.older; at = past a.stands.at };
  same_key = a.same_key;
  same_ballot = a.same_ballot;
}

abbrev TopCase : List ℕ → Ballot → List Mark → Type 0
TopCase key ballot marks = (ballot ≡ zero_ballot) ⊎ (IsAcked key ballot marks ⊎ HasFloor key ballot marks)

case_more : {key : List ℕ} {ballot : Ballot} {mark : Mark} {marks : List Mark} → TopCase key ballot marks → TopCase key ballot (mark ∷ marks)
case_more c = elim c [
  | inl z ↦ inl z
  | inr s ↦ inr (elim s [ inl a ↦ inl (acked_more a) | inr f ↦ inr (floor_more f) ])
]

pub top_cases : (key : List ℕ) (marks : List Mark) → (top_of key marks ≡ zero_ballot) ⊎ (IsAcked key (top_of key marks) marks ⊎ HasFloor key (top_of key marks) marks)
top_cases key [] = inl refl
top_cases key (Acked a ∷ older) =
    elim (step_cases (is_key a.key key) a.ballot (top_of key older)) as (λ _. TopCase key (top_of key (Acked a ∷ older)) (Acked a ∷ older)) [
      | inl same ↦ subst (λ b. TopCase key b (Acked a ∷ older)) (sym same) (case_more (top_cases key older))
      | inr this ↦ inr (inl (record { acknowledgment = a; stands = record { older = older; at = here }; same_key = key_same this.0; same_ballot = sym this.1 }))
    ]
top_cases key (Floor k floor state ∷ older) =
    elim (step_cases (is_key k key) floor (top_of key older)) as (λ _. TopCase key (top_of key (Floor k floor state ∷ older)) (Floor k floor state ∷ older)) [
      | inl same ↦ subst (λ b. TopCase key b (Floor k floor state ∷ older)) (sym same) (case_more (top_cases key older))
      | inr this ↦
          let same_key : k ≡ key = key_same this.0 in
          subst (λ b. TopCase key b (Floor k floor state ∷ older)) (sym this.1)
          (inr (inr (record { state = state; stands = record { older = older; at = subst (λ x. At (Floor x floor state) older (Floor k floor state ∷ older)) same_key here } })))
    ]
top_cases key (mark ∷ older) = case_more (top_cases key older)
