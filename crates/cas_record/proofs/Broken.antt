-- Records that are not legal, one for each rule: what a store would show that breaks just it. Two rules follow from
-- others and cannot be broken alone; their records are marked.
use Rattle.std.proofs.Common.{◌≡◌, ℕ, ◌≤◌, List, [], ◌∷◌, ◌++◌, arith, refl, sym, ap, ◌∙◌}
use mathlib.Core.Logic.{inl, inr}
use Rattle.cas_ballot.specs.declared.ballot.Ballot.{Ballot}
use Rattle.cas_ballot.specs.Ballot.{zero_ballot}
use Rattle.cas_change.specs.declared.state.State.TheVariants.{Empty}
use Rattle.cas_change.specs.declared.outcome.Took.TheVariants.{Clause as ByClause}
use Rattle.cas_record.specs.declared.answer.Answer.TheVariants as answer
use Rattle.cas_record.specs.declared.entry.Entry.{Entry}
use Rattle.cas_record.specs.declared.mark.Mark.{Mark}
use Rattle.cas_record.specs.declared.mark.Mark.TheVariants.{Begun, Proposed, Voted, Acked, Floor, Ended}
use Rattle.cas_record.specs.declared.mark.Proposal.{Proposal}
use Rattle.cas_record.specs.declared.mark.Acknowledgment.{Acknowledgment}
use Rattle.cas_record.specs.Places.{At, Stands, here, past, whole, later}
use Rattle.cas_record.specs.Histories.Chain.{keep_always, settled_of}
use Rattle.cas_record.specs.Legal.{IsLegal}
use Rattle.cas_record.specs.Logs.Witness.{key_a, at}
use Rattle.cas_record.proofs.PlaceLemmas.{none_at_nil}
use Rattle.cas_record.proofs.Histories.Chains.{nil_not}

abbrev begins : ℕ → ℕ → Mark
begins caller call = Begun caller call key_a keep_always

abbrev proposes : ℕ → Ballot → Ballot → Mark
proposes caller ballot read = Proposed (record { caller = caller; call = 1; key = key_a; ballot = ballot; read = read; era = 0; prepared_by = [] })

abbrev acks : Ballot → List ℕ → Mark
acks ballot by = Acked (record { key = key_a; ballot = ballot; era = 0; by = by })

abbrev done : ℕ → Ballot → Mark
done caller ballot = Ended caller 1 1 (answer.Done Empty (ByClause 0) ballot)

-- only its Begun mark stands
no_proposal : {caller call : ℕ} {p : Proposal} {older : List Mark} → At (Proposed p) older (begins caller call ∷ []) → ⊥
no_proposal (past p) = none_at_nil p

-- numbered: the first call has number 2
not_numbered : IsLegal (begins 1 2 ∷ []) → ⊥
not_numbered legal = let number : ◌≡◌ {A = ℕ} 2 1 = legal.numbered.begun here in absurd (omega arith)

-- done_stands: an invented answer
not_standing : IsLegal (done 1 (at 1 1) ∷ begins 1 1 ∷ []) → ⊥
not_standing legal = no_proposal (legal.done_stands here).proposed.at

-- refused_never: a change that was proposed is told as never proposed
not_refused : IsLegal (Ended 1 1 1 answer.Crashed ∷ proposes 1 (at 1 1) zero_ballot ∷ begins 1 1 ∷ []) → ⊥
not_refused legal = legal.refused_never.refused here refl (record {
  proposal = record { caller = 1; call = 1; key = key_a; ballot = at 1 1; read = zero_ballot; era = 0; prepared_by = [] };
  stands = record { older = begins 1 1 ∷ []; at = past here };
  same_caller = refl;
  same_call = refl;
})

-- two changes that did not see one another: the second proposer read nothing, although the first was acknowledged
abbrev lost : List Mark
lost =
    acks (at 2 2) [] ∷ proposes 2 (at 2 2) zero_ballot ∷ begins 2 1
    ∷ acks (at 1 1) [] ∷ proposes 1 (at 1 1) zero_ballot ∷ begins 1 1 ∷ []

first_same : (x y : Entry) (xs ys : List Entry) → x ∷ xs ≡ y ∷ ys → x.caller ≡ y.caller
first_same x y xs ys e = cc

-- only_grows: what was settled is lost
not_growing : IsLegal lost → ⊥
not_growing legal =
    let prefix = legal.only_grows whole (later (later (later whole))) key_a in
    let same : ◌≡◌ {A = ℕ} 2 1 = first_same _ _ _ _ prefix.joins in
    absurd (omega arith)

-- done_stands: a change at the ballot of an opening floor, whose history is empty
abbrev opened : List Mark
opened = acks (at 1 1) [] ∷ proposes 1 (at 1 1) zero_ballot ∷ begins 1 1 ∷ Floor key_a (at 1 1) Empty ∷ []

of_key_a : {p : Proposal} {older : List Mark} → At (Proposed p) older opened → p.key ≡ key_a
of_key_a (past here) = refl
of_key_a (past (past (past (past p)))) = absurd (none_at_nil p)

not_opened : IsLegal (done 1 (at 1 1) ∷ opened) → ⊥
not_opened legal =
    let stands = legal.done_stands here in
    let entry : Entry = record { caller = 1; call = 1; program = stands.program } in
    let place : [] ≡ stands.before ++ entry ∷ stands.after =
    ap (λ (key : List ℕ). settled_of key opened) (sym (of_key_a stands.proposed.at)) ∙ stands.place in
    nil_not stands.before entry stands.after place

-- after_seen, and with it only_grows: an answered change stands before what was settled when it began
not_after : IsLegal (done 2 (at 2 2) ∷ lost) → ⊥
not_after legal =
    let low : 1 ≤ 0 = legal.after_seen here (past (past here)) (record { caller = 2; call = 1; program = keep_always }) [] [] refl refl refl in
    absurd (omega arith)

-- begun_first, and with it numbered: a change that nobody asked for stands
never_begun : {p : Proposal} {older : List Mark} {caller call : ℕ} {key : List ℕ} → At (Proposed p) older (acks (at 1 1) [] ∷ proposes 1 (at 1 1) zero_ballot ∷ []) → Stands (Begun caller call key keep_always) older → ⊥
never_begun (past here) s = none_at_nil s.at
never_begun (past (past p)) s = none_at_nil p

not_begun : IsLegal (acks (at 1 1) [] ∷ proposes 1 (at 1 1) zero_ballot ∷ []) → ⊥
not_begun legal =
    let was = legal.begun_first whole key_a (record { caller = 1; call = 1; program = keep_always }) (record { older = []; at = here }) in
    never_begun was.proposed was.begun

-- has_votes: an acknowledgment for which nobody voted
no_vote : {acceptor : ℕ} {key : List ℕ} {ballot : Ballot} {older : List Mark} → At (Voted acceptor key ballot) older (proposes 1 (at 1 1) zero_ballot ∷ begins 1 1 ∷ []) → ⊥
no_vote (past (past p)) = none_at_nil p

not_voted : IsLegal (acks (at 1 1) (1 ∷ []) ∷ proposes 1 (at 1 1) zero_ballot ∷ begins 1 1 ∷ []) → ⊥
not_voted legal = no_vote ((legal.has_votes here).votes 1 refl).at

-- floors: a floor where nothing was acknowledged
no_ack : {a : Acknowledgment} {older : List Mark} → At (Acked a) older (begins 1 1 ∷ []) → ⊥
no_ack (past p) = none_at_nil p

not_floor : IsLegal (Floor key_a (at 1 1) Empty ∷ begins 1 1 ∷ []) → ⊥
not_floor legal = elim (legal.floors here) [
  | inl opening ↦ opening.none_begun 1 1 key_a keep_always (record { older = []; at = here })
  | inr tombstone ↦ no_ack tombstone.acked.stands.at
]

-- short_harmed: a shortfall that nothing explains
not_harmed : IsLegal (Ended 1 1 1 (answer.Short 0 2) ∷ begins 1 1 ∷ []) → ⊥
not_harmed legal = let due : 2 ≤ 0 = legal.short_harmed here in absurd (omega arith)
