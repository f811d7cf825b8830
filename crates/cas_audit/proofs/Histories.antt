-- Histories in a record whose calls are numbered: they stay as the record grows, and one entry ends the history of one
-- ballot only.
use Rattle.std.proofs.Common.{◌≡◌, ℕ, suc, ◌+◌, Bool, true, false, not, List, [], ◌∷◌, ◌++◌, length, arith, refl, sym, ap, ◌∙◌}
use Rattle.std.specs.Prelude.{◌⊎◌, ◌&&◌, ◌||◌}
use mathlib.Core.Logic.{inl, inr}
use Rattle.cas_base.proofs.Bools.{if_true, if_false, true_or_false, and_left, or_left, right_false, not_of_true}
use Rattle.cas_ballot.specs.declared.ballot.Ballot.{Ballot}
use Rattle.cas_change.specs.declared.program.Clause.{Clause}
use Rattle.cas_record.specs.declared.entry.Entry.{Entry}
use Rattle.cas_record.specs.declared.mark.Mark.{Mark}
use Rattle.cas_record.specs.declared.mark.Mark.TheVariants.{Begun, Proposed, Floor}
use Rattle.cas_record.specs.declared.mark.Proposal.{Proposal}
use Rattle.cas_record.specs.Places.{At, IsOlderPart, here, past, whole, later}
use Rattle.cas_record.specs.Histories.Chain.{is_key, is_ballot, is_proposal, has_proposal, has_calls, opens_at, has_opening, link_of, entry_of, chain_of}
use Rattle.cas_record.specs.Histories.Replay.{opening_state}
use Rattle.cas_record.specs.Legal.{IsNumbered}
use Rattle.cas_record.proofs.PlaceLemmas.{older_than, newer_than, at_one, order, stands_at, at_part, part_at, part_part, last_or_in}
use Rattle.cas_record.proofs.Tests.{proposal_tells}
use Rattle.cas_record.proofs.Histories.Chains.{has_proposal_tells, chain-none, chain-opened, chain-opens, chain-later, no_calls, nil_not}
use Rattle.cas_record.proofs.Histories.Calls.{AreCallsCounted}

pub counted_of : {marks : List Mark} → IsNumbered marks → AreCallsCounted marks
counted_of is = record { begun = λ at. is.begun at }

pub numbered_part : {part marks : List Mark} → IsNumbered marks → IsOlderPart part marks → IsNumbered part
numbered_part is part = record {
  begun = λ at. is.begun (at_part at part);
  proposed = λ at. is.proposed (at_part at part);
  ended = λ at. is.ended (at_part at part);
}

-- ---- calls
pub calls_more : (mark : Mark) (older : List Mark) → has_calls older ≡ true → has_calls (mark ∷ older) ≡ true
calls_more (Begun caller call key program) older e = refl
calls_more mark older e = e

pub calls_later : {part marks : List Mark} → IsOlderPart part marks → has_calls part ≡ true → has_calls marks ≡ true
calls_later whole e = e
calls_later (later {y = mark} {rest = rest} part) e = calls_more mark rest (calls_later part e)

pub calls_begun : {caller call : ℕ} {key : List ℕ} {program : List Clause} {older marks : List Mark} → At (Begun caller call key program) older marks → has_calls marks ≡ true
calls_begun {marks = marks} at = elim (true_or_false (has_calls marks)) [ inl e ↦ e | inr e ↦ absurd (no_calls e at) ]

-- before a proposal a call was begun
pub calls_proposed : {p : Proposal} {older marks : List Mark} → IsNumbered marks → At (Proposed p) older marks → has_calls older ≡ true
calls_proposed is at = calls_begun (is.proposed at).begun.stands.at

-- ---- openings
pub no_opens : (key : List ℕ) (ballot : Ballot) (mark : Mark) (older : List Mark) → has_calls older ≡ true → opens_at key ballot mark older ≡ false
no_opens key ballot (Floor k floor state) older e =
    right_false (is_key k key) _ (right_false (is_ballot floor ballot) _ (not_of_true (has_calls older) e))
no_opens key ballot mark older e = refl

opening_more : (key : List ℕ) (ballot : Ballot) (mark : Mark) (older : List Mark) → has_calls older ≡ true → has_opening key ballot (mark ∷ older) ≡ has_opening key ballot older
opening_more key ballot mark older e = ap (λ (t : Bool). t || has_opening key ballot older) (no_opens key ballot mark older e)

-- once a call was begun, openings stay
pub opening_stays : (key : List ℕ) (ballot : Ballot) {part marks : List Mark} → IsOlderPart part marks → has_calls part ≡ true → has_opening key ballot marks ≡ has_opening key ballot part
opening_stays key ballot whole e = refl
opening_stays key ballot (later {y = mark} {rest = rest} part) e = opening_more key ballot mark rest (calls_later part e) ∙ opening_stays key ballot part e

start_more : (key : List ℕ) (mark : Mark) (older : List Mark) → has_calls older ≡ true → opening_state key (mark ∷ older) ≡ opening_state key older
start_more key (Floor k floor state) older e = if_false (is_key k key && not (has_calls older)) _ _ (right_false (is_key k key) _ (not_of_true (has_calls older) e))
start_more key mark older e = refl

pub start_stays : (key : List ℕ) {part marks : List Mark} → IsOlderPart part marks → has_calls part ≡ true → opening_state key marks ≡ opening_state key part
start_stays key whole e = refl
start_stays key (later {y = mark} {rest = rest} part) e = start_more key mark rest (calls_later part e) ∙ start_stays key part e

-- ---- histories stay
pub chain_stays : (key : List ℕ) (ballot : Ballot) {part marks : List Mark} → IsOlderPart part marks → has_calls part ≡ true → has_proposal key ballot part ≡ true
    → chain_of key ballot marks ≡ chain_of key ballot part
chain_stays key ballot {part} {marks} is e there = elim (true_or_false (has_opening key ballot marks)) [
  | inl opened ↦ chain-opened key ballot marks opened ∙ sym (chain-opened key ballot part (sym (opening_stays key ballot is e) ∙ opened))
  | inr none ↦ chain-later key ballot is there none
]

-- one with an entry has a proposal
pub proposed_of : (key : List ℕ) (ballot : Ballot) (marks : List Mark) → (chain_of key ballot marks ≡ [] → ⊥) → has_proposal key ballot marks ≡ true
proposed_of key ballot marks some = elim (true_or_false (has_proposal key ballot marks)) [
  | inl e ↦ e
  | inr e ↦ absurd (some (chain-none key ballot marks e))
]

-- and then a call was begun
pub calls_of_chain : (key : List ℕ) (ballot : Ballot) {marks : List Mark} → IsNumbered marks → has_proposal key ballot marks ≡ true → has_calls marks ≡ true
calls_of_chain key ballot {marks} is e =
    let found = has_proposal_tells key ballot marks e in
    calls_later (part_at found.stands.at) (calls_proposed is found.stands.at)

pub some_stays : (key : List ℕ) (ballot : Ballot) {part marks : List Mark} → IsNumbered marks → IsOlderPart part marks → (chain_of key ballot part ≡ [] → ⊥)
    → chain_of key ballot marks ≡ chain_of key ballot part
some_stays key ballot {part} is part_is some =
    let there = proposed_of key ballot part some in
    chain_stays key ballot part_is (calls_of_chain key ballot (numbered_part is part_is) there) there

-- ---- the last entry
-- the history up to the ballot ends with its proposal's entry
pub record EndsBy (key : List ℕ) (ballot : Ballot) (marks : List Mark) : Type 0 where
  pub proposal : Proposal
  pub older : List Mark
  pub at : At (Proposed proposal) older marks
  pub same_key : proposal.key ≡ key
  pub same_ballot : proposal.ballot ≡ ballot
  pub is : chain_of key ballot marks ≡ chain_of key (link_of older proposal) older ++ entry_of older proposal ∷ []

ends_more : (key : List ℕ) (ballot : Ballot) (mark : Mark) (older : List Mark) → chain_of key ballot (mark ∷ older) ≡ chain_of key ballot older
    → (chain_of key ballot older ≡ []) ⊎ EndsBy key ballot older → (chain_of key ballot (mark ∷ older) ≡ []) ⊎ EndsBy key ballot (mark ∷ older)
ends_more key ballot mark older same c = elim c [
  | inl none ↦ inl (same ∙ none)
  | inr e ↦ inr (record { proposal = e.proposal; older = e.older; at = past e.at; same_key = e.same_key; same_ballot = e.same_ballot; is = same ∙ e.is })
]

pub chain_cases : (key : List ℕ) (ballot : Ballot) (marks : List Mark) → (chain_of key ballot marks ≡ []) ⊎ EndsBy key ballot marks
chain_cases key ballot [] = inl refl
chain_cases key ballot (Proposed p ∷ older) =
    let fits = is_proposal key ballot p && not (has_proposal key ballot older || has_opening key ballot older) in
    elim (true_or_false fits) [
      | inl e ↦
          let of = proposal_tells key ballot p (and_left (is_proposal key ballot p) _ e) in
          inr (record { proposal = p; older = older; at = here; same_key = of.same_key; same_ballot = of.same_ballot; is = if_true fits _ _ e })
      | inr e ↦ ends_more key ballot (Proposed p) older (if_false fits _ _ e) (chain_cases key ballot older)
    ]
chain_cases key ballot (Floor k floor state ∷ older) = elim (true_or_false (opens_at key ballot (Floor k floor state) older)) [
  | inl e ↦ inl (chain-opens key ballot (Floor k floor state) older e)
  | inr e ↦ ends_more key ballot (Floor k floor state) older (if_false (opens_at key ballot (Floor k floor state) older) _ _ e) (chain_cases key ballot older)
]
chain_cases key ballot (mark ∷ older) = ends_more key ballot mark older refl (chain_cases key ballot older)

-- ---- proposals are told apart
pub record OneProposal (p q : Proposal) (xs ys : List Mark) : Type 0 where
  pub same : p ≡ q
  pub older_same : xs ≡ ys

-- a call is proposed once
pub one_call : {marks xs ys : List Mark} {p q : Proposal} → IsNumbered marks → At (Proposed p) xs marks → At (Proposed q) ys marks → p.caller ≡ q.caller → p.call ≡ q.call → OneProposal p q xs ys
one_call {p = p} {q = q} is p_at q_at same_caller same_call = elim (order p_at q_at) [
  | older_than before ↦ absurd ((is.proposed q_at).once (record { proposal = p; stands = stands_at before; same_caller = same_caller; same_call = same_call }))
  | newer_than after ↦ absurd ((is.proposed p_at).once (record { proposal = q; stands = stands_at after; same_caller = sym same_caller; same_call = sym same_call }))
  | at_one same older_same ↦ record { same = cc same; older_same = older_same }
]

-- a key has one proposal at a ballot
pub one_ballot : {marks xs ys : List Mark} {p q : Proposal} → IsNumbered marks → At (Proposed p) xs marks → At (Proposed q) ys marks → p.key ≡ q.key → p.ballot ≡ q.ballot → OneProposal p q xs ys
one_ballot {p = p} {q = q} is p_at q_at same_key same_ballot = elim (order p_at q_at) [
  | older_than before ↦ absurd ((is.proposed q_at).fresh (record { proposal = p; stands = stands_at before; same_key = same_key; same_ballot = same_ballot }))
  | newer_than after ↦ absurd ((is.proposed p_at).fresh (record { proposal = q; stands = stands_at after; same_key = sym same_key; same_ballot = sym same_ballot }))
  | at_one same older_same ↦ record { same = cc same; older_same = older_same }
]

not_nil : (xs : List Entry) (e : Entry) → xs ++ e ∷ [] ≡ [] → ⊥
not_nil xs e is = nil_not xs e [] (sym is)

-- lists with one more at their ends are one where both parts are
pub last_same : (xs ys : List Entry) (e f : Entry) → xs ++ e ∷ [] ≡ ys ++ f ∷ [] → (xs ≡ ys) × (e ≡ f)
last_same xs ys e f is = elim (last_or_in xs e ys f [] is) [
  | inl last ↦ (sym last.0, sym last.1)
  | inr inside ↦ absurd (too_long ys f inside.0 xs e inside.1 is)
]
  where
    longer : (ys : List Entry) (f : Entry) (rest : List Entry) → length (ys ++ f ∷ rest) ≡ suc (length ys + length rest)
    longer [] f rest = omega arith
    longer (y ∷ ys) f rest = omega (arith, longer ys f rest)

    too_long : (ys : List Entry) (f : Entry) (rest xs : List Entry) (e : Entry) → xs ≡ ys ++ f ∷ rest → xs ++ e ∷ [] ≡ ys ++ f ∷ [] → ⊥
    too_long ys f rest xs e within same =
        absurd (omega (arith, longer xs e [], longer ys f [], longer ys f rest, ap length within, ap length same))

-- two ballots whose histories end with one entry are one
pub one_end : (key : List ℕ) (b c : Ballot) {marks : List Mark} (xs ys : List Entry) (e : Entry) → IsNumbered marks
    → chain_of key b marks ≡ xs ++ e ∷ [] → chain_of key c marks ≡ ys ++ e ∷ [] → b ≡ c
one_end key b c {marks} xs ys e is b_is c_is = elim (chain_cases key b marks) [
  | inl none ↦ absurd (not_nil xs e (sym b_is ∙ none))
  | inr b_ends ↦ elim (chain_cases key c marks) [
    | inl none ↦ absurd (not_nil ys e (sym c_is ∙ none))
    | inr c_ends ↦
        let b_entry : entry_of b_ends.older b_ends.proposal ≡ e = (last_same _ xs _ e (sym b_ends.is ∙ b_is)).1 in
        let c_entry : entry_of c_ends.older c_ends.proposal ≡ e = (last_same _ ys _ e (sym c_ends.is ∙ c_is)).1 in
        let same = b_entry ∙ sym c_entry in
        let one = one_call is b_ends.at c_ends.at (ap (λ (x : Entry). x.caller) same) (ap (λ (x : Entry). x.call) same) in
        sym b_ends.same_ballot ∙ ap (λ (p : Proposal). p.ballot) one.same ∙ c_ends.same_ballot
  ]
]

-- two ballots of one history are one, or it is empty
pub one_chain : (key : List ℕ) (b c : Ballot) {marks : List Mark} → IsNumbered marks → chain_of key b marks ≡ chain_of key c marks → (chain_of key b marks ≡ []) ⊎ (b ≡ c)
one_chain key b c {marks} is same = elim (chain_cases key b marks) [
  | inl none ↦ inl none
  | inr ends ↦ inr (one_end key b c _ _ _ is ends.is (sym same ∙ ends.is))
]

-- ---- an entry within a history
-- the entry is a proposal's, and the history up to the proposal's ballot ends with it
pub record EntryIn (key : List ℕ) (before : List Entry) (entry : Entry) (marks : List Mark) : Type 0 where
  pub proposal : Proposal
  pub older : List Mark
  pub at : At (Proposed proposal) older marks
  pub same_key : proposal.key ≡ key
  pub entry_is : entry ≡ entry_of older proposal
  pub before_is : before ≡ chain_of key (link_of older proposal) older
  pub chain_is : chain_of key proposal.ballot marks ≡ before ++ entry ∷ []

entry_in_part : {marks : List Mark} → IsNumbered marks → (part : List Mark) → IsOlderPart part marks → (key : List ℕ) (ballot : Ballot) (before : List Entry) (entry : Entry) (after : List Entry)
    → chain_of key ballot part ≡ before ++ entry ∷ after → EntryIn key before entry marks
entry_in_part is [] part_is key ballot before entry after e = absurd (nil_not before entry after e)
entry_in_part {marks} is (Proposed p ∷ older) part_is key ballot before entry after e =
    let fits = is_proposal key ballot p && not (has_proposal key ballot older || has_opening key ballot older) in
    elim (true_or_false fits) [
      | inl t ↦
          let fit = and_left (is_proposal key ballot p) _ t in
          let of = proposal_tells key ballot p fit in
          let chain : chain_of key ballot (Proposed p ∷ older) ≡ chain_of key (link_of older p) older ++ entry_of older p ∷ [] = if_true fits _ _ t in
          elim (last_or_in (chain_of key (link_of older p) older) (entry_of older p) before entry after (sym chain ∙ e)) [
            | inl last ↦
                let stays : chain_of key ballot marks ≡ chain_of key ballot (Proposed p ∷ older) =
                chain_stays key ballot part_is (calls_proposed is (at_part here part_is)) (or_left (is_proposal key ballot p) (has_proposal key ballot older) fit) in
                record {
                  proposal = p;
                  older = older;
                  at = at_part here part_is;
                  same_key = of.same_key;
                  entry_is = last.1;
                  before_is = last.0;
                  chain_is = ap (λ b. chain_of key b marks) of.same_ballot ∙ stays ∙ chain ∙ (λ i. sym last.0 i ++ sym last.1 i ∷ []);
                }
            | inr inside ↦ entry_in_part is older (part_part (later whole) part_is) key (link_of older p) before entry inside.0 inside.1
          ]
      | inr t ↦ entry_in_part is older (part_part (later whole) part_is) key ballot before entry after (sym (if_false fits _ _ t) ∙ e)
    ]
entry_in_part is (Floor k floor state ∷ older) part_is key ballot before entry after e =
    let opens = opens_at key ballot (Floor k floor state) older in
    elim (true_or_false opens) [
      | inl t ↦ absurd (nil_not before entry after (sym (chain-opens key ballot (Floor k floor state) older t) ∙ e))
      | inr t ↦ entry_in_part is older (part_part (later whole) part_is) key ballot before entry after (sym (if_false opens _ _ t) ∙ e)
    ]
entry_in_part is (mark ∷ older) part_is key ballot before entry after e = entry_in_part is older (part_part (later whole) part_is) key ballot before entry after e

pub entry_in : {marks : List Mark} → IsNumbered marks → (key : List ℕ) (ballot : Ballot) (before : List Entry) (entry : Entry) (after : List Entry)
    → chain_of key ballot marks ≡ before ++ entry ∷ after → EntryIn key before entry marks
entry_in {marks} is key ballot before entry after e = entry_in_part is marks whole key ballot before entry after e
