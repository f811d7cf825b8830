-- What the tables tell of one mark more.
use Rattle.std.proofs.Common.{◌≡◌, ℕ, zero, suc, ◌+◌, ◌≤◌, ◌<◌, Bool, true, false, not, List, [], ◌∷◌, ◌++◌, length, reverse, arith, refl, sym, ap, ◌∙◌, subst}
use Rattle.std.specs.Prelude.{◌&&◌, ◌||◌, ◌==◌, ◌↔◌, IsTrue, IfOk, Result, Ok, Err, Option, Some, None, is_some, slice_get, filter}
use Rattle.std.specs.List.{range_with_len}
use mathlib.Core.Logic.{inl, inr}
use Rattle.cas_base.proofs.Bools.{if_true, if_false, true_or_false, or_cases, or_left, or_right, and_right, not_both, not_tells, not_of_false, false_of_not, some_is}
use Rattle.cas_ballot.specs.declared.ballot.Ballot.{Ballot}
use Rattle.cas_ballot.specs.Ballot.{greater_of, BallotLess}
use Rattle.cas_ballot.specs.Members.{has_member, with_member, intersection_of, members_where, IsMemberSet}
use Rattle.cas_ballot.proofs.BallotLemmas.{greater_cases, less_not_at_most, at_most_of_less}
use Rattle.cas_ballot.proofs.MemberLemmas.{has-members_where, members_where_same, members_where_tells}
use Rattle.cas_change.specs.declared.state.State.{State}
use Rattle.cas_change.specs.declared.outcome.Took.{Took}
use Rattle.cas_change.specs.Outcome.{outcome_of}
use Rattle.cas_record.specs.declared.answer.Answer.{Answer}
use Rattle.cas_record.specs.declared.entry.Entry.{Entry}
use Rattle.cas_record.specs.declared.mark.Mark.{Mark}
use Rattle.cas_record.specs.declared.mark.Mark.TheVariants.{Proposed, Voted, Acked, Floor}
use Rattle.cas_record.specs.declared.mark.Proposal.{Proposal}
use Rattle.cas_record.specs.declared.mark.Acknowledgment.{Acknowledgment}
use Rattle.cas_record.specs.Places.{At, Stands, IsOlderPart, IsPrefix, here, past}
use Rattle.cas_record.specs.Histories.Chain.{is_key, has_calls, has_proposal, opens_at, link_of, entry_of, program_of, chain_of, top_of, settled_of}
use Rattle.cas_record.specs.Kept.Index.{floor_at}
use Rattle.cas_record.specs.Histories.Replay.{replay_from, opening_state}
use Rattle.cas_record.specs.Legal.{IsBegun, IsProposed, IsEnded, IsNumbered, DoesStand, tells_refused, tells_unsettled, HasVotes, HasFloor, IsAcked, IsOpeningFloor, IsLegal}
use Rattle.cas_record.proofs.PlaceLemmas.{stands_at, stands_part, part_at, length-prefix}
use Rattle.cas_record.proofs.Tests.{key_same, key_refl, nat_same, nat_is}
use Rattle.cas_record.proofs.Histories.Lemmas.{placed}
use Rattle.cas_record.proofs.Histories.Calls.{begun_once}
use Rattle.cas_audit.specs.declared.told.Call.{Call}
use Rattle.cas_audit.specs.declared.told.Node.{Node}
use Rattle.cas_audit.specs.Keeping.{TellsTruly, StandsLate}
use Rattle.cas_audit.specs.Told.{place_of, ballot_of, has_ended, call_of, node_of, is_at, voters_of, has_acked, chain_from, EndsFront}
use Rattle.cas_audit.specs.Tables.{key_in, key_at, IsFoundAt, ChangeAt, StandsNowhere}
use Rattle.cas_record.proofs.Tests.{if_both}
use Rattle.cas_record.proofs.Histories.Chains.{chain-none, no_calls}
use Rattle.cas_audit.proofs.Histories.{no_opens, calls_of_chain, counted_of, one_call, one_ballot, one_end, last_same, entry_in}
use Rattle.cas_audit.proofs.Facts.{began_at, has_place, proposed_by, has_ballot, is_proposed, not_proposed, ended_tells, ended_is, node_tells, has_node, no_node, node_history, at_same, at_refl}
use Rattle.cas_audit.proofs.Walks.{one_front, length_last}

pub no_iff : {P : Type 0} {b : Bool} → b ≡ false → (P → ⊥) → IsTrue b ↔ P
no_iff {b = b} is n = (λ e. absurd (not_both b e is), λ p. absurd (n p))

pub yes_iff : {P : Type 0} {b : Bool} → b ≡ true → P → IsTrue b ↔ P
yes_iff is p = (λ e. p, λ q. is)

pub some_of : {A : Type 0} (o : Option A) → is_some o ≡ true → (x : A) × (o ≡ Some x)
some_of None e = absurd cc
some_of (Some x) e = (x, refl)

pub none_of : {A : Type 0} (o : Option A) → is_some o ≡ false → o ≡ None
none_of None e = refl
none_of (Some x) e = absurd cc

pub true_of_not : (b : Bool) → (b ≡ false → ⊥) → b ≡ true
true_of_not true n = refl
true_of_not false n = absurd (n refl)

-- ---- calls
module _ {caller call : ℕ} {marks : List Mark} {told : Call} (is : told ≡ call_of caller call marks) where
  pub told_ended : told.ended ≡ true → IsEnded caller call marks
  told_ended e = ended_tells caller call marks (sym (ap (λ (x : Call). x.ended) is) ∙ e)

  pub told_open : told.ended ≡ false → IsEnded caller call marks → ⊥
  told_open e ended = not_both (has_ended caller call marks) (ended_is ended) (sym (ap (λ (x : Call). x.ended) is) ∙ e)

  pub told_proposed : is_some told.proposed ≡ true → IsProposed caller call marks
  told_proposed e = let s = some_of told.proposed e in is_proposed (sym (ap (λ (x : Call). x.proposed) is) ∙ s.1)

  pub told_unproposed : is_some told.proposed ≡ false → IsProposed caller call marks → ⊥
  told_unproposed e = not_proposed (sym (ap (λ (x : Call). x.proposed) is) ∙ none_of told.proposed e)

  pub told_begun : is_some told.begun ≡ true → (key : List ℕ) × IsBegun caller call key marks
  told_begun e =
      let s = some_of told.begun e in
      let b = began_at caller call s.0 marks (sym (ap (λ (x : Call). x.begun) is) ∙ s.1) in
      (b.key, record { program = b.program; stands = stands_at b.at })

  pub told_unbegun : is_some told.begun ≡ false → (key : List ℕ) → IsBegun caller call key marks → ⊥
  told_unbegun e key b =
      let h = has_place b.stands.at in
      absurd (cc (h.is, sym (ap (λ (x : Call). x.begun) is) ∙ none_of told.begun e))

-- ---- keys of calls
pub key_tells : (caller call : ℕ) (key : List ℕ) (marks : List Mark) → key_at marks (place_of caller call (reverse marks)) ≡ Some key → IsBegun caller call key (reverse marks)
key_tells caller call key marks is = go (place_of caller call (reverse marks)) refl
  where
    go : (place : Option ℕ) → place_of caller call (reverse marks) ≡ place → IsBegun caller call key (reverse marks)
    go None e = absurd (cc (ap (key_at marks) e, is))
    go (Some place) e =
        let b = began_at caller call place (reverse marks) e in
        let read : key_at marks (Some place) ≡ Some b.key = ap (λ (n : ℕ). key_in (slice_get marks n)) b.place_is ∙ ap key_in (placed marks b.at) in
        let same : b.key ≡ key = some_is b.key key (sym read ∙ sym (ap (key_at marks) e) ∙ is) in
        subst (λ k. IsBegun caller call k (reverse marks)) same (record { program = b.program; stands = stands_at b.at })

pub key_is_told : (caller call : ℕ) (key : List ℕ) (marks : List Mark) → IsNumbered (reverse marks) → IsBegun caller call key (reverse marks) → key_at marks (place_of caller call (reverse marks)) ≡ Some key
key_is_told caller call key marks numbered begun =
    let h = has_place begun.stands.at in
    let b = began_at caller call h.place (reverse marks) h.is in
    let one = begun_once (counted_of numbered) b.at begun.stands.at in
    ap (key_at marks) h.is ∙ ap (λ (n : ℕ). key_in (slice_get marks n)) b.place_is ∙ ap key_in (placed marks b.at) ∙ ap Some one.same_key

pub one_key : {caller call : ℕ} {key other : List ℕ} {marks : List Mark} → IsNumbered marks → IsBegun caller call key marks → IsBegun caller call other marks → key ≡ other
one_key numbered a b = (begun_once (counted_of numbered) a.stands.at b.stands.at).same_key

begun_later : {caller call : ℕ} {key : List ℕ} {part marks : List Mark} → IsOlderPart part marks → IsBegun caller call key part → IsBegun caller call key marks
begun_later part b = record { program = b.program; stands = stands_part b.stands part }

-- a proposal's call began for its key
pub begun_for : {p : Proposal} {older marks : List Mark} → IsNumbered marks → At (Proposed p) older marks → IsBegun p.caller p.call p.key marks
begun_for numbered at = begun_later (part_at at) (numbered.proposed at).begun

-- ---- answers that tell of proposals
pub truly_proposed : {caller call : ℕ} {marks : List Mark} (answer : Answer) (r : Bool) → r ≡ tells_refused answer → IsProposed caller call marks → IsTrue (not r) ↔ TellsTruly answer caller call marks
truly_proposed answer r is proposed = (
  λ e. record { refused = λ tells p. not_both (tells_refused answer) tells (sym is ∙ not_tells r e); unsettled = λ tells. proposed },
  λ t. not_of_false r (false_of_not r (λ e. t.refused (sym is ∙ e) proposed)),
)

pub truly_unproposed : {caller call : ℕ} {marks : List Mark} (answer : Answer) (u : Bool) → u ≡ tells_unsettled answer → (IsProposed caller call marks → ⊥) → IsTrue (not u) ↔ TellsTruly answer caller call marks
truly_unproposed answer u is never = (
  λ e. record { refused = λ tells p. never p; unsettled = λ tells. absurd (not_both (tells_unsettled answer) tells (sym is ∙ not_tells u e)) },
  λ t. not_of_false u (false_of_not u (λ e. never (t.unsettled (sym is ∙ e)))),
)

-- ---- where a change stands
-- an entry of the call ends the history of the ballot at which the call was proposed
pub record ChangeIn (caller call : ℕ) (key : List ℕ) (ballot : Ballot) (before : List Entry) (entry : Entry) (marks : List Mark) : Type 0 where
  pub chain_is : chain_of key ballot marks ≡ before ++ entry ∷ []
  pub front : IsPrefix (before ++ entry ∷ []) (settled_of key marks)
  pub proposal : Proposal
  pub older : List Mark
  pub at : At (Proposed proposal) older marks
  pub same_ballot : proposal.ballot ≡ ballot
  pub entry_is : entry ≡ entry_of older proposal
  pub before_is : before ≡ chain_of key (link_of older proposal) older

pub call_in : {caller call : ℕ} {marks : List Mark} → IsNumbered marks → (k : List ℕ) (before : List Entry) (entry : Entry) (after : List Entry) → entry.caller ≡ caller → entry.call ≡ call
    → settled_of k marks ≡ before ++ entry ∷ after → IsBegun caller call k marks × IsProposed caller call marks
call_in {caller} {call} {marks} numbered k before entry after same_caller same_call is =
    let e = entry_in numbered k (top_of k marks) before entry after is in
    let of_caller : e.proposal.caller ≡ caller = sym (ap (λ (x : Entry). x.caller) e.entry_is) ∙ same_caller in
    let of_call : e.proposal.call ≡ call = sym (ap (λ (x : Entry). x.call) e.entry_is) ∙ same_call in
    let begun : IsBegun e.proposal.caller e.proposal.call k marks = subst (λ x. IsBegun e.proposal.caller e.proposal.call x marks) e.same_key (begun_for numbered e.at) in (
      subst (λ c. IsBegun c call k marks) of_caller (subst (λ n. IsBegun e.proposal.caller n k marks) of_call begun),
      record { proposal = e.proposal; stands = stands_at e.at; same_caller = of_caller; same_call = of_call },
    )

front_of : (before : List Entry) (entry : Entry) (after entries : List Entry) → entries ≡ before ++ entry ∷ after → IsPrefix (before ++ entry ∷ []) entries
front_of before entry after entries is = record { rest = after; joins = is ∙ sym (joined before entry after) }
  where
    joined : (before : List Entry) (entry : Entry) (after : List Entry) → (before ++ entry ∷ []) ++ after ≡ before ++ entry ∷ after
    joined [] entry after = refl
    joined (x ∷ before) entry after = ap (λ rest. x ∷ rest) (joined before entry after)

pub change_in : {caller call : ℕ} {key : List ℕ} {ballot : Ballot} {marks : List Mark} → IsNumbered marks → IsBegun caller call key marks → ballot_of caller call marks ≡ Some ballot
    → (k : List ℕ) (before : List Entry) (entry : Entry) (after : List Entry) → entry.caller ≡ caller → entry.call ≡ call
    → settled_of k marks ≡ before ++ entry ∷ after → ChangeIn caller call key ballot before entry marks
change_in {caller} {call} {key} {ballot} {marks} numbered begun proposed k before entry after same_caller same_call is =
    let e = entry_in numbered k (top_of k marks) before entry after is in
    let by = proposed_by caller call ballot marks proposed in
    let of_caller : e.proposal.caller ≡ caller = sym (ap (λ (x : Entry). x.caller) e.entry_is) ∙ same_caller in
    let of_call : e.proposal.call ≡ call = sym (ap (λ (x : Entry). x.call) e.entry_is) ∙ same_call in
    let one = one_call numbered e.at by.at (of_caller ∙ sym by.same_caller) (of_call ∙ sym by.same_call) in
    let of_ballot : e.proposal.ballot ≡ ballot = ap (λ (p : Proposal). p.ballot) one.same ∙ by.same_ballot in
    let same_key : k ≡ key = one_key numbered (call_in numbered k before entry after same_caller same_call is).0 begun in
    record {
      chain_is = (λ i. chain_of (sym same_key i) (sym of_ballot i) marks) ∙ e.chain_is;
      front = subst (λ x. IsPrefix (before ++ entry ∷ []) (settled_of x marks)) same_key (front_of before entry after (settled_of k marks) is);
      proposal = e.proposal;
      older = e.older;
      at = e.at;
      same_ballot = of_ballot;
      entry_is = e.entry_is;
      before_is = e.before_is ∙ ap (λ x. chain_of x (link_of e.older e.proposal) e.older) same_key;
    }

-- where the history of the call's ballot is empty or longer than what is settled, the call's change does not stand
pub nowhere_short : {caller call : ℕ} {key : List ℕ} {ballot : Ballot} {marks : List Mark} → IsNumbered marks → IsBegun caller call key marks → ballot_of caller call marks ≡ Some ballot
    → length (chain_of key ballot marks) ≡ 0 → StandsNowhere caller call marks
nowhere_short numbered begun proposed none k before entry after same_caller same_call is =
    let c = change_in numbered begun proposed k before entry after same_caller same_call is in
    absurd (omega (arith, none, ap length c.chain_is, length_last before entry))

pub nowhere_long : {caller call : ℕ} {key : List ℕ} {ballot : Ballot} {marks : List Mark} → IsNumbered marks → IsBegun caller call key marks → ballot_of caller call marks ≡ Some ballot
    → length (settled_of key marks) < length (chain_of key ballot marks) → StandsNowhere caller call marks
nowhere_long numbered begun proposed long k before entry after same_caller same_call is =
    let c = change_in numbered begun proposed k before entry after same_caller same_call is in
    absurd (omega (arith, long, ap length c.chain_is, length-prefix c.front))

-- where another ballot ends the front of what is settled that is as long, it does not stand either
pub nowhere_other : {caller call place : ℕ} {key : List ℕ} {ballot : Ballot} {marks : List Mark} (found : Option Ballot) → IsNumbered marks → IsBegun caller call key marks → ballot_of caller call marks ≡ Some ballot
    → length (chain_of key ballot marks) ≡ suc place → IsFoundAt key marks place found → (found ≡ Some ballot → ⊥) → StandsNowhere caller call marks
nowhere_other None numbered begun proposed long ends other k before entry after same_caller same_call is = ends
nowhere_other {caller} {call} {place} {key} {ballot} {marks} (Some b) numbered begun proposed long ends other k before entry after same_caller same_call is =
    let c = change_in numbered begun proposed k before entry after same_caller same_call is in
    let same : chain_of key b marks ≡ before ++ entry ∷ [] = one_front ends.begins c.front (ends.long ∙ sym long ∙ ap length c.chain_is) in
    other (ap Some (one_end key b ballot before before entry numbered same c.chain_is))

chain_joined : (front : List Entry) (entry : Entry) (rest : List Entry) → (front ++ entry ∷ []) ++ rest ≡ front ++ entry ∷ rest
chain_joined [] entry rest = refl
chain_joined (x ∷ front) entry rest = ap (λ r. x ∷ r) (chain_joined front entry rest)

-- where the call's ballot ends a front of what is settled, its change stands there
pub change_here : {caller call place : ℕ} {key : List ℕ} {ballot : Ballot} {marks : List Mark} → IsNumbered marks → IsBegun caller call key marks → ballot_of caller call marks ≡ Some ballot
    → EndsFront key ballot marks (settled_of key marks) place → ChangeAt caller call place marks
change_here {caller} {call} {place} {key} {ballot} {marks} numbered begun proposed ends =
    let by = proposed_by caller call ballot marks proposed in
    let p = by.proposal in
    let p_begun : IsBegun caller call p.key marks = subst (λ c. IsBegun c call p.key marks) by.same_caller (subst (λ n. IsBegun p.caller n p.key marks) by.same_call (begun_for numbered by.at)) in
    let same_key : key ≡ p.key = one_key numbered begun p_begun in
    let some : chain_of p.key p.ballot marks ≡ [] → ⊥ = λ none. absurd (omega (arith, ends.long, ap length ((λ i. chain_of (same_key i) (sym by.same_ballot i) marks) ∙ none))) in
    let n = has_node (record { proposal = p; stands = stands_at by.at; same_key = refl; same_ballot = refl }) in
    let tells = node_history numbered (node_tells p.key p.ballot marks n.node n.is) some in
    let one = one_ballot numbered tells.at by.at tells.same_key tells.same_ballot in
    let chain : chain_of key ballot marks ≡ chain_of p.key (link_of by.older p) by.older ++ entry_of by.older p ∷ [] =
    (λ i. chain_of (same_key i) (sym by.same_ballot i) marks) ∙ tells.chain_is
    ∙ (λ i. tells.from_is i ++ entry_of tells.older tells.proposal ∷ [])
    ∙ (λ i. chain_of p.key (link_of (one.older_same i) (one.same i)) (one.older_same i) ++ entry_of (one.older_same i) (one.same i) ∷ []) in
    record {
      proposal = p;
      older = by.older;
      at = by.at;
      same_caller = by.same_caller;
      same_call = by.same_call;
      long = omega (arith, ends.long, ap length chain, length_last (chain_of p.key (link_of by.older p) by.older) (entry_of by.older p));
      after = ends.begins.rest;
      stands = ap (λ k. settled_of k marks) (sym same_key) ∙ ends.begins.joins ∙ ap (λ front. front ++ ends.begins.rest) chain
          ∙ chain_joined (chain_of p.key (link_of by.older p) by.older) (entry_of by.older p) ends.begins.rest;
    }

-- ---- the outcome of a change that stands
pub outcome_told : {caller call place : ℕ} {state : State} {took : Took} {ballot : Ballot} {marks : List Mark} {node : Node} → IsNumbered marks → (c : ChangeAt caller call place marks)
    → c.proposal.ballot ≡ ballot → node_of c.proposal.key c.proposal.ballot marks ≡ Some node → (node.outcome ≡ record { state = state; took = took }) ↔ DoesStand caller call state took ballot marks
outcome_told {caller} {call} {place} {state} {took} {ballot} {marks} {node} numbered c same_ballot is =
    let p = c.proposal in
    let front = chain_of p.key (link_of c.older p) c.older in
    let entry = entry_of c.older p in
    let begun : IsBegun caller call p.key marks = subst (λ x. IsBegun x call p.key marks) c.same_caller (subst (λ n. IsBegun p.caller n p.key marks) c.same_call (begun_for numbered c.at)) in
    let h = has_ballot (record { proposal = p; stands = stands_at c.at; same_caller = c.same_caller; same_call = c.same_call }) in
    let by = proposed_by caller call h.ballot marks h.is in
    let own = one_call numbered by.at c.at (by.same_caller ∙ sym c.same_caller) (by.same_call ∙ sym c.same_call) in
    let h_is : h.ballot ≡ p.ballot = sym by.same_ballot ∙ ap (λ (x : Proposal). x.ballot) own.same in
    let inside = change_in numbered begun (h.is ∙ ap Some h_is) p.key front entry c.after c.same_caller c.same_call c.stands in
    let tells = node_history numbered (node_tells p.key p.ballot marks node is) (λ none. absurd (omega (arith, ap length (sym inside.chain_is ∙ none), length_last front entry))) in
    let one = one_ballot numbered tells.at c.at tells.same_key tells.same_ballot in
    let from : chain_from p.key node.from marks ≡ front = tells.from_is ∙ (λ i. chain_of p.key (link_of (one.older_same i) (one.same i)) (one.older_same i)) in
    let outcome : node.outcome ≡ outcome_of entry.program (replay_from (opening_state p.key marks) front) = tells.outcome_is
    ∙ (λ i. outcome_of (program_of (one.same i).caller (one.same i).call (one.older_same i)) (replay_from (opening_state p.key marks) (from i))) in (
      λ e. record {
        proposal = p;
        proposed = stands_at c.at;
        same_caller = c.same_caller;
        same_call = c.same_call;
        same_ballot = same_ballot;
        program = entry.program;
        before = front;
        after = c.after;
        place = c.stands ∙ (λ i. front ++ record { caller = c.same_caller i; call = c.same_call i; program = entry.program } ∷ c.after);
        outcome = sym outcome ∙ e;
      },
      λ d.
          let q = one_call numbered d.proposed.at c.at (d.same_caller ∙ sym c.same_caller) (d.same_call ∙ sym c.same_call) in
          let told : Entry = record { caller = caller; call = call; program = d.program } in
          let there : settled_of p.key marks ≡ d.before ++ told ∷ d.after = ap (λ (x : Proposal). settled_of x.key marks) (sym q.same) ∙ d.place in
          let own_place = change_in numbered begun (h.is ∙ ap Some h_is) p.key d.before told d.after refl refl there in
          let last = last_same d.before front told entry (sym own_place.chain_is ∙ inside.chain_is) in
          outcome ∙ (λ i. outcome_of (sym last.1 i).program (replay_from (opening_state (sym q.same i).key marks) (sym last.0 i))) ∙ d.outcome,
    )

-- ---- real time
pub late_told : {caller call place : ℕ} {marks : List Mark} {told : Call} → IsNumbered marks → told ≡ call_of caller call marks → ChangeAt caller call place marks → (told.seen ≤ place) ↔ StandsLate caller call marks
late_told {caller} {call} {place} {marks} {told} numbered is c =
    let p = c.proposal in
    let front = chain_of p.key (link_of c.older p) c.older in
    let entry = entry_of c.older p in
    let begun : IsBegun caller call p.key marks = subst (λ x. IsBegun x call p.key marks) c.same_caller (subst (λ n. IsBegun p.caller n p.key marks) c.same_call (begun_for numbered c.at)) in
    let h = has_place begun.stands.at in
    let b = began_at caller call h.place marks h.is in
    let seen : told.seen ≡ length (settled_of b.key b.older) = ap (λ (x : Call). x.seen) is ∙ b.seen_is in
    let o = has_ballot (record { proposal = p; stands = stands_at c.at; same_caller = c.same_caller; same_call = c.same_call }) in
    let inside = change_in numbered begun o.is p.key front entry c.after c.same_caller c.same_call c.stands in (
      λ low. record {
        each = λ {key} {program} {earlier} at e before after same_caller same_call stands.
            let one = begun_once (counted_of numbered) b.at at in
            let also = change_in numbered begun o.is key before e after same_caller same_call stands in
            let seen_there : length (settled_of b.key b.older) ≡ length (settled_of key earlier) = λ i. length (settled_of (one.same_key i) (one.older_same i)) in
            let same : before ≡ front = (last_same before front e entry (last_of (one_end_same numbered inside also))).0 in
            omega (arith, low, seen, c.long, ap length same, seen_there);
      },
      λ late.
          let key_is = one_key numbered (record { program = b.program; stands = stands_at b.at }) begun in
          omega (arith, seen, c.long, late.each b.at entry front c.after c.same_caller c.same_call (ap (λ k. settled_of k marks) key_is ∙ c.stands)),
    )
  where
    last_of : {xs ys : List Entry} → xs ≡ ys → xs ≡ ys
    last_of e = e

    one_end_same : {caller call : ℕ} {key : List ℕ} {ballot : Ballot} {xs ys : List Entry} {e f : Entry} {marks : List Mark} → IsNumbered marks → ChangeIn caller call key ballot xs e marks → ChangeIn caller call key ballot ys f marks
        → ys ++ f ∷ [] ≡ xs ++ e ∷ []
    one_end_same numbered a b = sym b.chain_is ∙ a.chain_is

-- ---- what is settled

pub greater_high : (ballot top : Ballot) → BallotLess top ballot → greater_of ballot top ≡ ballot
greater_high ballot top less = elim (greater_cases ballot top) [
  | inl own ↦ own.0
  | inr other ↦ absurd (less_not_at_most less (at_most_of_less other.1))
]

-- ---- votes
below_in : (p : ℕ → Bool) (w a n : ℕ) → has_member (filter p (range_with_len a w)) n ≡ true → n < a + w
below_in p zero a n e = absurd cc
below_in p (suc w) a n e = elim (true_or_false (p a)) [
  | inl t ↦ elim (or_cases (a == n) (has_member (filter p (range_with_len (a + 1) w)) n) (ap (λ xs. has_member xs n) (sym (if_true (p a) (a ∷ filter p (range_with_len (a + 1) w)) (filter p (range_with_len (a + 1) w)) t)) ∙ e)) [
    | inl first ↦ omega (arith, nat_same first)
    | inr rest ↦ omega (arith, below_in p w (a + 1) n rest)
  ]
  | inr t ↦ omega (arith, below_in p w (a + 1) n (ap (λ xs. has_member xs n) (sym (if_false (p a) (a ∷ filter p (range_with_len (a + 1) w)) (filter p (range_with_len (a + 1) w)) t)) ∙ e))
]

below_where : (p : ℕ → Bool) (n : ℕ) → has_member (members_where p) n ≡ true → n < 64
unfolding members_where
below_where p n e = below_in p 64 0 n e

pub below_set : {ids : List ℕ} {n : ℕ} → IsMemberSet ids → has_member ids n ≡ true → n < 64
below_set {ids} {n} set e = below_where (has_member ids) n (ap (λ xs. has_member xs n) (sym set.lists) ∙ e)

pub all_within : (by voters : List ℕ) → intersection_of by voters ≡ by → (acceptor : ℕ) → has_member by acceptor ≡ true → has_member voters acceptor ≡ true
all_within by voters is acceptor e =
    and_right (has_member by acceptor) (has_member voters acceptor) (members_where_tells (λ n. has_member by n && has_member voters n) acceptor (ap (λ xs. has_member xs acceptor) is ∙ e))

pub within_all : (by voters : List ℕ) → IsMemberSet by → ((acceptor : ℕ) → has_member by acceptor ≡ true → has_member voters acceptor ≡ true) → intersection_of by voters ≡ by
within_all by voters set all = members_where_same (λ n. has_member by n && has_member voters n) (has_member by) (λ n low. both (has_member by n) (has_member voters n) (all n)) ∙ sym set.lists
  where
    both : (a b : Bool) → (a ≡ true → b ≡ true) → (a && b) ≡ a
    both true b f = f refl
    both false b f = refl

pub empty_within : (by voters : List ℕ) → length by ≡ 0 → (acceptor : ℕ) → has_member by acceptor ≡ true → has_member voters acceptor ≡ true
empty_within [] voters e acceptor has = absurd cc
empty_within (x ∷ by) voters e acceptor has = absurd cc

voted_past : {acceptor : ℕ} {key : List ℕ} {ballot : Ballot} {mark : Mark} {older : List Mark} → Stands (Voted acceptor key ballot) older → Stands (Voted acceptor key ballot) (mark ∷ older)
voted_past s = record { older = s.older; at = past s.at }

pub voted_tells : (acceptor : ℕ) (key : List ℕ) (ballot : Ballot) (marks : List Mark) → has_member (voters_of key ballot marks) acceptor ≡ true → Stands (Voted acceptor key ballot) marks
voted_tells acceptor key ballot [] e = absurd cc
voted_tells acceptor key ballot (Voted a k b ∷ older) e = elim (true_or_false (is_at key ballot k b)) [
  | inl t ↦
      let same = at_same {key = key} {k = k} {ballot = ballot} {b = b} t in
      let has : has_member (with_member (voters_of key ballot older) a) acceptor ≡ true = ap (λ xs. has_member xs acceptor) (sym (if_true (is_at key ballot k b) (with_member (voters_of key ballot older) a) (voters_of key ballot older) t)) ∙ e in
      elim (or_cases (acceptor == a) (has_member (voters_of key ballot older) acceptor) (members_where_tells (λ n. n == a || has_member (voters_of key ballot older) n) acceptor has)) [
        | inl own ↦
            let own_is = nat_same {a = acceptor} {b = a} own in
            subst (λ x. Stands (Voted x key ballot) (Voted a k b ∷ older)) (sym own_is)
            (subst (λ x. Stands (Voted a x ballot) (Voted a k b ∷ older)) same.0 (subst (λ x. Stands (Voted a k x) (Voted a k b ∷ older)) same.1 (stands_at here)))
        | inr rest ↦ voted_past (voted_tells acceptor key ballot older rest)
      ]
  | inr t ↦ voted_past (voted_tells acceptor key ballot older (ap (λ xs. has_member xs acceptor) (sym (if_false (is_at key ballot k b) (with_member (voters_of key ballot older) a) (voters_of key ballot older) t)) ∙ e))
]
voted_tells acceptor key ballot (mark ∷ older) e = voted_past (voted_tells acceptor key ballot older e)

voters_more : (acceptor : ℕ) (key : List ℕ) (ballot : Ballot) (mark : Mark) (older : List Mark) → acceptor < 64 → has_member (voters_of key ballot older) acceptor ≡ true → has_member (voters_of key ballot (mark ∷ older)) acceptor ≡ true
voters_more acceptor key ballot (Voted a k b) older low e = elim (true_or_false (is_at key ballot k b)) [
  | inl t ↦ ap (λ xs. has_member xs acceptor) (if_true (is_at key ballot k b) (with_member (voters_of key ballot older) a) (voters_of key ballot older) t)
      ∙ has-members_where (λ n. n == a || has_member (voters_of key ballot older) n) acceptor low ∙ or_right (acceptor == a) (has_member (voters_of key ballot older) acceptor) e
  | inr t ↦ ap (λ xs. has_member xs acceptor) (if_false (is_at key ballot k b) (with_member (voters_of key ballot older) a) (voters_of key ballot older) t) ∙ e
]
voters_more acceptor key ballot mark older low e = e

pub voted_is : {acceptor : ℕ} {key : List ℕ} {ballot : Ballot} {older marks : List Mark} → acceptor < 64 → At (Voted acceptor key ballot) older marks → has_member (voters_of key ballot marks) acceptor ≡ true
voted_is {acceptor} {key} {ballot} {older} low here =
    ap (λ xs. has_member xs acceptor) (if_true (is_at key ballot key ballot) (with_member (voters_of key ballot older) acceptor) (voters_of key ballot older) (at_refl key ballot))
    ∙ has-members_where (λ n. n == acceptor || has_member (voters_of key ballot older) n) acceptor low
    ∙ or_left (acceptor == acceptor) (has_member (voters_of key ballot older) acceptor) (nat_is {a = acceptor} {b = acceptor} refl)
voted_is {acceptor} {key} {ballot} low (past {y = mark} {rest = rest} at) = voters_more acceptor key ballot mark rest low (voted_is low at)

-- ---- acknowledgments and floors
acked_past : {key : List ℕ} {ballot : Ballot} {mark : Mark} {older : List Mark} → IsAcked key ballot older → IsAcked key ballot (mark ∷ older)
acked_past a = record { acknowledgment = a.acknowledgment; stands = record { older = a.stands.older; at = past a.stands.at }; same_key = a.same_key; same_ballot = a.same_ballot }

pub acked_tells : (key : List ℕ) (ballot : Ballot) (marks : List Mark) → has_acked key ballot marks ≡ true → IsAcked key ballot marks
acked_tells key ballot [] e = absurd cc
acked_tells key ballot (Acked a ∷ older) e = elim (or_cases (is_at key ballot a.key a.ballot) (has_acked key ballot older) e) [
  | inl own ↦ let same = at_same {key = key} {k = a.key} {ballot = ballot} {b = a.ballot} own in record { acknowledgment = a; stands = stands_at here; same_key = same.0; same_ballot = same.1 }
  | inr rest ↦ acked_past (acked_tells key ballot older rest)
]
acked_tells key ballot (mark ∷ older) e = acked_past (acked_tells key ballot older e)

acked_more : (key : List ℕ) (ballot : Ballot) (mark : Mark) (older : List Mark) → has_acked key ballot older ≡ true → has_acked key ballot (mark ∷ older) ≡ true
acked_more key ballot (Acked a) older e = or_right (is_at key ballot a.key a.ballot) (has_acked key ballot older) e
acked_more key ballot mark older e = e

acked_at : {a : Acknowledgment} {older marks : List Mark} → At (Acked a) older marks → has_acked a.key a.ballot marks ≡ true
acked_at {a} {older} here = or_left (is_at a.key a.ballot a.key a.ballot) (has_acked a.key a.ballot older) (at_refl a.key a.ballot)
acked_at {a} (past {y = mark} {rest = rest} at) = acked_more a.key a.ballot mark rest (acked_at at)

pub acked_is : {key : List ℕ} {ballot : Ballot} {marks : List Mark} → IsAcked key ballot marks → has_acked key ballot marks ≡ true
acked_is {marks = marks} a = (λ i. has_acked (sym a.same_key i) (sym a.same_ballot i) marks) ∙ acked_at a.stands.at

-- a key with a floor has a greatest
floor_past : (key : List ℕ) (mark : Mark) (older : List Mark) → is_some (floor_at key older) ≡ true → is_some (floor_at key (mark ∷ older)) ≡ true
floor_past key (Floor k f s) older e = elim (true_or_false (is_key k key)) [
  | inl t ↦ ap is_some (if_true (is_key k key) _ (floor_at key older) t)
  | inr t ↦ ap is_some (if_false (is_key k key) _ (floor_at key older) t) ∙ e
]
floor_past key mark older e = e

pub floor_is : {key : List ℕ} {floor : Ballot} {state : State} {older marks : List Mark} → At (Floor key floor state) older marks → is_some (floor_at key marks) ≡ true
floor_is {key} {floor} {state} {older} here = ap is_some (if_true (is_key key key) _ (floor_at key older) (key_refl key))
floor_is {key} (past {y = mark} {rest = rest} at) = floor_past key mark rest (floor_is at)

pub floor_tells : (key : List ℕ) (marks : List Mark) → is_some (floor_at key marks) ≡ true → (floor : Ballot) × HasFloor key floor marks
floor_tells key [] e = absurd cc
floor_tells key (Floor k f s ∷ older) e = elim (true_or_false (is_key k key)) [
  | inl t ↦ (f, subst (λ x. HasFloor x f (Floor k f s ∷ older)) (key_same t) (record { state = s; stands = stands_at here }))
  | inr t ↦ further (floor_tells key older (ap is_some (sym (if_false (is_key k key) _ (floor_at key older) t)) ∙ e))
]
  where
    further : (floor : Ballot) × HasFloor key floor older → (floor : Ballot) × HasFloor key floor (Floor k f s ∷ older)
    further h = (h.0, record { state = h.1.state; stands = record { older = h.1.stands.older; at = past h.1.stands.at } })
floor_tells key (mark ∷ older) e = let h = floor_tells key older e in (h.0, record { state = h.1.state; stands = record { older = h.1.stands.older; at = past h.1.stands.at } })

-- ---- of a change
pub change_begun : {caller call place : ℕ} {marks : List Mark} → IsNumbered marks → (c : ChangeAt caller call place marks) → IsBegun caller call c.proposal.key marks
change_begun {caller} {call} {place} {marks} numbered c =
    let p = c.proposal in
    subst (λ x. IsBegun x call p.key marks) c.same_caller (subst (λ n. IsBegun p.caller n p.key marks) c.same_call (begun_for numbered c.at))

pub own_ballot : {caller call : ℕ} {p : Proposal} {older marks : List Mark} → IsNumbered marks → At (Proposed p) older marks → p.caller ≡ caller → p.call ≡ call → ballot_of caller call marks ≡ Some p.ballot
own_ballot {caller} {call} {p} {older} {marks} numbered at same_caller same_call =
    let h = has_ballot (record { proposal = p; stands = stands_at at; same_caller = same_caller; same_call = same_call }) in
    let by = proposed_by caller call h.ballot marks h.is in
    let own = one_call numbered by.at at (by.same_caller ∙ sym same_caller) (by.same_call ∙ sym same_call) in
    h.is ∙ ap Some (sym by.same_ballot ∙ ap (λ (x : Proposal). x.ballot) own.same)

pub done_ballot : {caller call : ℕ} {state : State} {took : Took} {ballot : Ballot} {marks : List Mark} → IsNumbered marks → DoesStand caller call state took ballot marks → ballot_of caller call marks ≡ Some ballot
done_ballot numbered d = own_ballot numbered d.proposed.at d.same_caller d.same_call ∙ ap Some d.same_ballot

-- ---- results
pub if_ok_map : {A E : Type 0} {P Q : A → Type 0} (r : Result A E) → IfOk r P → ((x : A) → P x → Q x) → IfOk r Q
if_ok_map (Ok x) p f = f x p
if_ok_map (Err e) p f = tt

-- ---- floors
pub floor_settled : (key : List ℕ) (ballot : Ballot) (state : State) (older : List Mark) → IsLegal older → settled_of key (Floor key ballot state ∷ older) ≡ chain_of key (greater_of ballot (top_of key older)) older
floor_settled key ballot state older legal =
    let top = greater_of ballot (top_of key older) in
    ap (λ b. chain_of key b (Floor key ballot state ∷ older)) (if_true (is_key key key) top (top_of key older) (key_refl key))
    ∙ elim (true_or_false (has_calls older)) [
      | inl some ↦ if_false (opens_at key top (Floor key ballot state) older) [] (chain_of key top older) (no_opens key top (Floor key ballot state) older some)
      | inr none ↦
          let empty : chain_of key top older ≡ [] = chain-none key top older (false_of_not (has_proposal key top older) (λ e. not_both (has_calls older) (calls_of_chain key top legal.numbered e) none)) in
          if_both (opens_at key top (Floor key ballot state) older) [] (chain_of key top older) (chain_of key top older) (sym empty) refl
    ]

pub acked_settled : (a : Acknowledgment) (older : List Mark) → settled_of a.key (Acked a ∷ older) ≡ chain_of a.key (greater_of a.ballot (top_of a.key older)) older
acked_settled a older = ap (λ b. chain_of a.key b older) (if_true (is_key a.key a.key) (greater_of a.ballot (top_of a.key older)) (top_of a.key older) (key_refl a.key))

pub opening_told : {key : List ℕ} {marks : List Mark} → has_calls marks ≡ false → is_some (floor_at key marks) ≡ false → IsOpeningFloor key marks
opening_told {key} {marks} none floorless = record {
  none_begun = λ caller call k program begun. no_calls none begun.at;
  first = λ stands. not_both (is_some (floor_at key marks)) (floor_is stands.at) floorless;
}

-- ---- votes
pub votes_told : {a : Acknowledgment} {marks : List Mark} {node : Node} → IsNumbered marks → node_of a.key a.ballot marks ≡ Some node → node.era ≡ a.era
    → ((acceptor : ℕ) → has_member a.by acceptor ≡ true → has_member (voters_of a.key a.ballot marks) acceptor ≡ true) → HasVotes a marks
votes_told {a} {marks} {node} numbered is era all =
    let n = node_tells a.key a.ballot marks node is in
    record {
      proposal = n.proposal;
      proposed = stands_at n.at;
      same_key = n.same_key;
      same_ballot = n.same_ballot;
      same_era = sym (ap (λ (x : Node). x.era) n.is) ∙ era;
      votes = λ acceptor member. voted_tells acceptor a.key a.ballot marks (all acceptor member);
    }

pub era_told : {a : Acknowledgment} {marks : List Mark} {node : Node} → IsNumbered marks → node_of a.key a.ballot marks ≡ Some node → HasVotes a marks → node.era ≡ a.era
era_told {a} {marks} {node} numbered is v =
    let n = node_tells a.key a.ballot marks node is in
    let one = one_ballot numbered n.at v.proposed.at (n.same_key ∙ sym v.same_key) (n.same_ballot ∙ sym v.same_ballot) in
    ap (λ (x : Node). x.era) n.is ∙ ap (λ (p : Proposal). p.era) one.same ∙ v.same_era

pub all_told : {a : Acknowledgment} {marks : List Mark} → IsMemberSet a.by → HasVotes a marks → (acceptor : ℕ) → has_member a.by acceptor ≡ true → has_member (voters_of a.key a.ballot marks) acceptor ≡ true
all_told set v acceptor member = voted_is (below_set set member) (v.votes acceptor member).at

pub votes_node : {a : Acknowledgment} {marks : List Mark} → node_of a.key a.ballot marks ≡ None → HasVotes a marks → ⊥
votes_node none v = no_node none (record { proposal = v.proposal; stands = v.proposed; same_key = v.same_key; same_ballot = v.same_ballot })
