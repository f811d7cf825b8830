-- What one mark more changes in the tables.
use Rattle.std.proofs.Common.{◌≡◌, ℕ, suc, ◌+◌, ◌≤◌, ◌<◌, Bool, true, false, not, List, [], ◌∷◌, ◌++◌, length, reverse, arith, refl, sym, ap, ◌∙◌, subst}
use Rattle.std.specs.Prelude.{◌&&◌, ◌||◌, ◌==◌, Option, Some, None, unwrap_or, if◌then◌else◌, slice_get}
use Rattle.std.specs.Cmp.{both_ways}
use mathlib.Core.Logic.{inl, inr}
use Rattle.indexmap.specs.IndexMap.{get}
use Rattle.cas_base.proofs.Bools.{if_true, if_false, true_or_false, or_left, and_left, and_right, both_true, false_of_not, left_false, right_false, not_of_true, not_of_false}
use Rattle.cas_ballot.specs.declared.ballot.Ballot.{Ballot}
use Rattle.cas_ballot.specs.Ballot.{zero_ballot, greater_of}
use Rattle.cas_change.specs.declared.state.State.{State}
use Rattle.cas_change.specs.declared.outcome.Outcome.{Outcome}
use Rattle.cas_change.specs.Outcome.{outcome_of}
use Rattle.cas_ballot.specs.Members.{with_member}
use Rattle.cas_change.specs.declared.program.Clause.{Clause}
use Rattle.cas_record.specs.declared.entry.Entry.{Entry}
use Rattle.cas_record.specs.declared.mark.Mark.{Mark}
use Rattle.cas_record.specs.declared.mark.Mark.TheVariants.{Begun, Proposed, Voted, Acked, Floor, Ended, Harmed}
use Rattle.cas_record.specs.declared.answer.Answer.{Answer}
use Rattle.cas_record.specs.declared.mark.Proposal.{Proposal}
use Rattle.cas_record.specs.declared.mark.Acknowledgment.{Acknowledgment}
use Rattle.cas_record.specs.Places.{At, IsPrefix, here, whole, later}
use Rattle.cas_record.specs.Histories.Replay.{replay_from, opening_state}
use Rattle.cas_record.specs.Histories.Chain.{is_key, is_ballot, is_call, is_proposal, has_proposal, opens_at, has_opening, has_calls, link_of, entry_of, program_of, chain_of, top_of, settled_of}
use Rattle.cas_record.specs.Kept.Index.{floor_at, later_of}
use Rattle.cas_record.specs.Legal.{calls_of, harms_of, IsBegun, IsNumbered, IsLegal}
use Rattle.cas_record.proofs.PlaceLemmas.{prefix_trans}
use Rattle.cas_record.proofs.Tests.{key_same, key_is, ballot_same, ballot_is, nat_same, nat_is, call_same}
use Rattle.cas_record.proofs.Histories.Lemmas.{placed}
use Rattle.cas_record.proofs.Histories.Chains.{chain_zero, chain-opened, chain-at, has_proposal_tells}
use Rattle.cas_record.proofs.Histories.Calls.{program_of_begun}
use Rattle.cas_audit.specs.declared.told.Call.{Call}
use Rattle.cas_audit.specs.declared.told.Row.{Row}
use Rattle.cas_audit.specs.declared.told.Opening.{Opening}
use Rattle.cas_audit.specs.declared.told.Node.{Node}
use Rattle.cas_audit.specs.declared.told.Spot.{Spot}
use Rattle.cas_audit.specs.declared.tables.Tables.{Tables}
use Rattle.cas_audit.specs.Told.{place_of, seen_of, ballot_of, has_ended, call_of, row_of, opening_of, node_of, node_by, voters_of, has_acked, spot_of, is_at, chain_from, start_of, raised_row}
use Rattle.cas_audit.specs.Tables.{same_call, same_spot, same_place, no_call, IsFoundIn, IsFoundAt, AreTables, program_in, program_at}
use Rattle.cas_audit.proofs.Histories.{counted_of, some_stays}
use Rattle.cas_audit.proofs.Openings.{start_is}
use Rattle.cas_audit.proofs.Walks.{length_last, nil_of_length}
use Rattle.cas_audit.proofs.Facts.{at_same, has_place, began_at, node_tells, node_length, node_history}
use Rattle.cas_audit.proofs.Decisions.{acked_settled, floor_settled}
use Rattle.cas_audit.proofs.Going.{topped, unmoved, acked_apart, floor_apart}

-- ---- tables
-- a table in which one key was given a value tells the new function where that has the value there, and is the old one elsewhere
pub next_or : {K V : Type 0} (eq : K → K → Bool) (now before : K → V) (other : V) (old new : K → Option V) (at : K) (value : V) → ((q : K) → new q ≡ (if eq at q then Some value else old q))
    → ((q : K) → unwrap_or (old q) other ≡ before q) → ((q : K) → eq at q ≡ true → now q ≡ value) → ((q : K) → eq at q ≡ false → now q ≡ before q) → (q : K) → unwrap_or (new q) other ≡ now q
next_or eq now before other old new at value put tells hit miss q = elim (true_or_false (eq at q)) [
  | inl e ↦ ap (λ o. unwrap_or o other) (put q ∙ if_true (eq at q) (Some value) (old q) e) ∙ sym (hit q e)
  | inr e ↦ ap (λ o. unwrap_or o other) (put q ∙ if_false (eq at q) (Some value) (old q) e) ∙ tells q ∙ sym (miss q e)
]

pub next_some : {K V : Type 0} (eq : K → K → Bool) (now before : K → Option V) (old new : K → Option V) (at : K) (value : V) → ((q : K) → new q ≡ (if eq at q then Some value else old q))
    → ((q : K) → old q ≡ before q) → ((q : K) → eq at q ≡ true → now q ≡ Some value) → ((q : K) → eq at q ≡ false → now q ≡ before q) → (q : K) → new q ≡ now q
next_some eq now before old new at value put tells hit miss q = elim (true_or_false (eq at q)) [
  | inl e ↦ put q ∙ if_true (eq at q) (Some value) (old q) e ∙ sym (hit q e)
  | inr e ↦ put q ∙ if_false (eq at q) (Some value) (old q) e ∙ tells q ∙ sym (miss q e)
]

same_parts : (x y : Ballot) → x.counter ≡ y.counter → x.proposer ≡ y.proposer → x ≡ y
same_parts x y p q =
    let counted : ℕ → Ballot = λ n. record { counter = n; proposer = x.proposer } in
    let proposed : ℕ → Ballot = λ n. record { counter = y.counter; proposer = n } in
    ap counted p ∙ ap proposed q

-- the test of the table is that of the marks
pub spot_at : (k : List ℕ) (b : Ballot) (key : List ℕ) (ballot : Ballot) → same_spot (k, b) (key, ballot) ≡ is_at key ballot k b
spot_at k b key ballot = both_ways (same_spot (k, b) (key, ballot)) (is_at key ballot k b)
    (λ e.
    let rest : ((b.counter == ballot.counter) && (b.proposer == ballot.proposer)) ≡ true = and_right (is_key k key) _ e in
    let same = same_parts b ballot (nat_same {a = b.counter} {b = ballot.counter} (and_left (b.counter == ballot.counter) _ rest)) (nat_same {a = b.proposer} {b = ballot.proposer} (and_right (b.counter == ballot.counter) _ rest)) in
    both_true (is_key k key) (is_ballot b ballot) (and_left (is_key k key) _ e) (ballot_is same))
    (λ e.
    let same = ballot_same {a = b} {b = ballot} (and_right (is_key k key) (is_ballot b ballot) e) in
    both_true (is_key k key) _ (and_left (is_key k key) (is_ballot b ballot) e)
    (both_true (b.counter == ballot.counter) _ (nat_is {a = b.counter} {b = ballot.counter} (ap (λ (x : Ballot). x.counter) same)) (nat_is {a = b.proposer} {b = ballot.proposer} (ap (λ (x : Ballot). x.proposer) same))))

-- ---- places
-- what ends a front of what was settled still does
pub found_kept : (mark : Mark) (older : List Mark) → IsLegal (mark ∷ older) → (key : List ℕ) (place : ℕ) (found : Option Ballot) → IsFoundAt key older place found → IsFoundAt key (mark ∷ older) place found
found_kept mark older legal key place None ends = ends
found_kept mark older legal key place (Some ballot) ends =
    let stays = some_stays key ballot legal.numbered (later whole) (λ none. absurd (omega (arith, ends.long, ap length none))) in
    record {
      begins = subst (λ front. IsPrefix front (settled_of key (mark ∷ older))) (sym stays) (prefix_trans ends.begins (legal.only_grows whole (later whole) key));
      long = ap length stays ∙ ends.long;
    }

-- a mark after which as much is settled of the key
pub places_kept : (mark : Mark) (older : List Mark) (settled : (List ℕ × ℕ) → Option Ballot) → IsLegal (mark ∷ older)
    → ((key : List ℕ) → length (settled_of key (mark ∷ older)) ≡ length (settled_of key older))
    → ((key : List ℕ) (place : ℕ) → place < length (settled_of key older) → IsFoundAt key older place (settled (key, place)))
    → (key : List ℕ) (place : ℕ) → place < length (settled_of key (mark ∷ older)) → IsFoundAt key (mark ∷ older) place (settled (key, place))
places_kept mark older settled legal same places key place within = found_kept mark older legal key place (settled (key, place)) (places key place (omega (arith, within, same key)))

-- ---- marks that change no table

-- ---- a mark that tells of a call
module _ (old new : Tables) (older : List Mark) (caller call : ℕ) (value : Call) (are : AreTables old older)
    (put : (q : ℕ × ℕ) → get same_call new.calls q ≡ (if same_call (caller, call) q then Some value else get same_call old.calls q)) where
  pub calls_next : (mark : Mark) → ((c n : ℕ) → is_call c n caller call ≡ true → call_of c n (mark ∷ older) ≡ value) → ((c n : ℕ) → is_call c n caller call ≡ false → call_of c n (mark ∷ older) ≡ call_of c n older)
      → (c n : ℕ) → unwrap_or (get same_call new.calls (c, n)) no_call ≡ call_of c n (mark ∷ older)
  calls_next mark hit miss c n = next_or same_call (λ q. call_of q.0 q.1 (mark ∷ older)) (λ q. call_of q.0 q.1 older) no_call (get same_call old.calls) (get same_call new.calls) (caller, call) value put
      (λ q. are.calls q.0 q.1) (λ q. hit q.0 q.1) (λ q. miss q.0 q.1) (c, n)

-- ---- a call begins
pub begun_count : (caller call : ℕ) (key : List ℕ) (program : List Clause) (marks : List Mark) → call ≡ suc (calls_of caller marks) → (q : ℕ) → (caller == q) ≡ true → calls_of q (Begun caller call key program ∷ marks) ≡ call
begun_count caller call key program marks next q e =
    if_true (caller == q) (suc (calls_of q marks)) (calls_of q marks) e ∙ ap (λ x. suc (calls_of x marks)) (sym (nat_same {a = caller} {b = q} e)) ∙ sym next

-- what was told of the call
told_here : (caller call : ℕ) (marks : List Mark) (told : Call) → told ≡ call_of caller call marks → (c n : ℕ) → is_call c n caller call ≡ true → call_of c n marks ≡ told
told_here caller call marks told is c n e =
    let same = call_same {caller = c} {call = n} {c = caller} {n = call} e in
    (λ i. call_of (sym same.0 i) (sym same.1 i) marks) ∙ sym is

pub begun_call : (caller call : ℕ) (key : List ℕ) (program : List Clause) (marks : List Mark) (told : Call) (place seen : ℕ) → told ≡ call_of caller call marks → place ≡ length marks → seen ≡ length (settled_of key marks)
    → (c n : ℕ) → is_call c n caller call ≡ true
    → call_of c n (Begun caller call key program ∷ marks) ≡ record { begun = Some place; seen = seen; proposed = told.proposed; ended = told.ended; harms = told.harms }
begun_call caller call key program marks told place seen is place_is seen_is c n e =
    let here = told_here caller call marks told is c n e in
    let at : place_of c n (Begun caller call key program ∷ marks) ≡ Some place = if_true (is_call c n caller call) (Some (length marks)) (place_of c n marks) e ∙ ap Some (sym place_is) in
    let saw : seen_of c n (Begun caller call key program ∷ marks) ≡ seen = if_true (is_call c n caller call) (length (settled_of key marks)) (seen_of c n marks) e ∙ sym seen_is in
    λ i. record { begun = at i; seen = saw i; proposed = (here i).proposed; ended = (here i).ended; harms = (here i).harms }

pub begun_other : (caller call : ℕ) (key : List ℕ) (program : List Clause) (marks : List Mark) (c n : ℕ) → is_call c n caller call ≡ false → call_of c n (Begun caller call key program ∷ marks) ≡ call_of c n marks
begun_other caller call key program marks c n e =
    let at : place_of c n (Begun caller call key program ∷ marks) ≡ place_of c n marks = if_false (is_call c n caller call) (Some (length marks)) (place_of c n marks) e in
    let saw : seen_of c n (Begun caller call key program ∷ marks) ≡ seen_of c n marks = if_false (is_call c n caller call) (length (settled_of key marks)) (seen_of c n marks) e in
    λ i. record { begun = at i; seen = saw i; proposed = ballot_of c n marks; ended = has_ended c n marks; harms = harms_of c n marks }

-- ---- a call is answered
pub ended_call : (caller call rounds : ℕ) (answer : Answer) (marks : List Mark) (told : Call) → told ≡ call_of caller call marks → (c n : ℕ) → is_call c n caller call ≡ true
    → call_of c n (Ended caller call rounds answer ∷ marks) ≡ record { begun = told.begun; seen = told.seen; proposed = told.proposed; ended = true; harms = told.harms }
ended_call caller call rounds answer marks told is c n e =
    let here = told_here caller call marks told is c n e in
    let over : has_ended c n (Ended caller call rounds answer ∷ marks) ≡ true = or_left (is_call c n caller call) (has_ended c n marks) e in
    λ i. record { begun = (here i).begun; seen = (here i).seen; proposed = (here i).proposed; ended = over i; harms = (here i).harms }

pub ended_other : (caller call rounds : ℕ) (answer : Answer) (marks : List Mark) (c n : ℕ) → is_call c n caller call ≡ false → call_of c n (Ended caller call rounds answer ∷ marks) ≡ call_of c n marks
ended_other caller call rounds answer marks c n e =
    let over : has_ended c n (Ended caller call rounds answer ∷ marks) ≡ has_ended c n marks = ap (λ (t : Bool). t || has_ended c n marks) e in
    λ i. record { begun = place_of c n marks; seen = seen_of c n marks; proposed = ballot_of c n marks; ended = over i; harms = harms_of c n marks }

-- ---- a frame of a call is harmed
pub harmed_call : (caller call : ℕ) (down : Bool) (marks : List Mark) (told : Call) → told ≡ call_of caller call marks → (c n : ℕ) → is_call c n caller call ≡ true
    → call_of c n (Harmed caller call down ∷ marks) ≡ record { begun = told.begun; seen = told.seen; proposed = told.proposed; ended = told.ended; harms = told.harms + 1 }
harmed_call caller call down marks told is c n e =
    let here = told_here caller call marks told is c n e in
    let plus : suc told.harms ≡ told.harms + 1 = omega arith in
    let more : harms_of c n (Harmed caller call down ∷ marks) ≡ told.harms + 1 = if_true (is_call c n caller call) (suc (harms_of c n marks)) (harms_of c n marks) e ∙ ap (λ (x : Call). suc x.harms) here ∙ plus in
    λ i. record { begun = (here i).begun; seen = (here i).seen; proposed = (here i).proposed; ended = (here i).ended; harms = more i }

pub harmed_other : (caller call : ℕ) (down : Bool) (marks : List Mark) (c n : ℕ) → is_call c n caller call ≡ false → call_of c n (Harmed caller call down ∷ marks) ≡ call_of c n marks
harmed_other caller call down marks c n e =
    let same : harms_of c n (Harmed caller call down ∷ marks) ≡ harms_of c n marks = if_false (is_call c n caller call) (suc (harms_of c n marks)) (harms_of c n marks) e in
    λ i. record { begun = place_of c n marks; seen = seen_of c n marks; proposed = ballot_of c n marks; ended = has_ended c n marks; harms = same i }

-- a record has at least as many marks
pub harms_few : (caller call : ℕ) (marks : List Mark) → harms_of caller call marks ≤ length marks
harms_few caller call [] = omega arith
harms_few caller call (Harmed c n down ∷ older) = elim (true_or_false (is_call caller call c n)) [
  | inl e ↦ omega (arith, harms_few caller call older, if_true (is_call caller call c n) (suc (harms_of caller call older)) (harms_of caller call older) e)
  | inr e ↦ omega (arith, harms_few caller call older, if_false (is_call caller call c n) (suc (harms_of caller call older)) (harms_of caller call older) e)
]
harms_few caller call (mark ∷ older) = omega (arith, harms_few caller call older)

-- ---- a vote
pub voted_spot : (acceptor : ℕ) (key : List ℕ) (ballot : Ballot) (marks : List Mark) (spot : Spot) → spot ≡ spot_of key ballot marks → (q : List ℕ × Ballot) → same_spot (key, ballot) q ≡ true
    → spot_of q.0 q.1 (Voted acceptor key ballot ∷ marks) ≡ record { voters = with_member spot.voters acceptor; acked = spot.acked }
voted_spot acceptor key ballot marks spot is q e =
    let at : is_at q.0 q.1 key ballot ≡ true = sym (spot_at key ballot q.0 q.1) ∙ e in
    let same = at_same {key = q.0} {k = key} {ballot = q.1} {b = ballot} at in
    let here : spot_of q.0 q.1 marks ≡ spot = (λ i. spot_of (sym same.0 i) (sym same.1 i) marks) ∙ sym is in
    let more : voters_of q.0 q.1 (Voted acceptor key ballot ∷ marks) ≡ with_member spot.voters acceptor =
    if_true (is_at q.0 q.1 key ballot) (with_member (voters_of q.0 q.1 marks) acceptor) (voters_of q.0 q.1 marks) at ∙ ap (λ (x : Spot). with_member x.voters acceptor) here in
    λ i. record { voters = more i; acked = (here i).acked }

pub voted_other : (acceptor : ℕ) (key : List ℕ) (ballot : Ballot) (marks : List Mark) (q : List ℕ × Ballot) → same_spot (key, ballot) q ≡ false → spot_of q.0 q.1 (Voted acceptor key ballot ∷ marks) ≡ spot_of q.0 q.1 marks
voted_other acceptor key ballot marks q e =
    let same : voters_of q.0 q.1 (Voted acceptor key ballot ∷ marks) ≡ voters_of q.0 q.1 marks =
    if_false (is_at q.0 q.1 key ballot) (with_member (voters_of q.0 q.1 marks) acceptor) (voters_of q.0 q.1 marks) (sym (spot_at key ballot q.0 q.1) ∙ e) in
    λ i. record { voters = same i; acked = has_acked q.0 q.1 marks }

-- ---- a proposal
pub proposed_call : (p : Proposal) (marks : List Mark) (told : Call) → told ≡ call_of p.caller p.call marks → (c n : ℕ) → is_call c n p.caller p.call ≡ true
    → call_of c n (Proposed p ∷ marks) ≡ record { begun = told.begun; seen = told.seen; proposed = Some p.ballot; ended = told.ended; harms = told.harms }
proposed_call p marks told is c n e =
    let here = told_here p.caller p.call marks told is c n e in
    let at : ballot_of c n (Proposed p ∷ marks) ≡ Some p.ballot = if_true (is_call c n p.caller p.call) (Some p.ballot) (ballot_of c n marks) e in
    λ i. record { begun = (here i).begun; seen = (here i).seen; proposed = at i; ended = (here i).ended; harms = (here i).harms }

pub proposed_other : (p : Proposal) (marks : List Mark) (c n : ℕ) → is_call c n p.caller p.call ≡ false → call_of c n (Proposed p ∷ marks) ≡ call_of c n marks
proposed_other p marks c n e =
    let at : ballot_of c n (Proposed p ∷ marks) ≡ ballot_of c n marks = if_false (is_call c n p.caller p.call) (Some p.ballot) (ballot_of c n marks) e in
    λ i. record { begun = place_of c n marks; seen = seen_of c n marks; proposed = at i; ended = has_ended c n marks; harms = harms_of c n marks }

pub proposed_node : (p : Proposal) (marks : List Mark) (node : Node) → node ≡ node_by p marks → (q : List ℕ × Ballot) → same_spot (p.key, p.ballot) q ≡ true → node_of q.0 q.1 (Proposed p ∷ marks) ≡ Some node
proposed_node p marks node is q e =
    if_true (is_at q.0 q.1 p.key p.ballot) (Some (node_by p marks)) (node_of q.0 q.1 marks) (sym (spot_at p.key p.ballot q.0 q.1) ∙ e) ∙ ap Some (sym is)

pub no_proposed_node : (p : Proposal) (marks : List Mark) (q : List ℕ × Ballot) → same_spot (p.key, p.ballot) q ≡ false → node_of q.0 q.1 (Proposed p ∷ marks) ≡ node_of q.0 q.1 marks
no_proposed_node p marks q e = if_false (is_at q.0 q.1 p.key p.ballot) (Some (node_by p marks)) (node_of q.0 q.1 marks) (sym (spot_at p.key p.ballot q.0 q.1) ∙ e)

-- what is settled stays
pub proposed_settled : (p : Proposal) (marks : List Mark) → IsLegal marks → (key : List ℕ) → settled_of key (Proposed p ∷ marks) ≡ settled_of key marks
proposed_settled p marks legal key = unmoved key (top_of key marks) p marks (topped key marks legal)

pub proposed_row : (p : Proposal) (marks : List Mark) → IsLegal marks → (key : List ℕ) → row_of key (Proposed p ∷ marks) ≡ row_of key marks
proposed_row p marks legal key = λ i. record { top = top_of key marks; settled = length (proposed_settled p marks legal key i); floor = floor_at key marks }

-- ---- an acknowledgment or a floor
pub acked_spot : (a : Acknowledgment) (marks : List Mark) (spot : Spot) → spot ≡ spot_of a.key a.ballot marks → (q : List ℕ × Ballot) → same_spot (a.key, a.ballot) q ≡ true
    → spot_of q.0 q.1 (Acked a ∷ marks) ≡ record { voters = spot.voters; acked = true }
acked_spot a marks spot is q e =
    let at : is_at q.0 q.1 a.key a.ballot ≡ true = sym (spot_at a.key a.ballot q.0 q.1) ∙ e in
    let same = at_same {key = q.0} {k = a.key} {ballot = q.1} {b = a.ballot} at in
    let here : spot_of q.0 q.1 marks ≡ spot = (λ i. spot_of (sym same.0 i) (sym same.1 i) marks) ∙ sym is in
    let over : has_acked q.0 q.1 (Acked a ∷ marks) ≡ true = or_left (is_at q.0 q.1 a.key a.ballot) (has_acked q.0 q.1 marks) at in
    λ i. record { voters = (here i).voters; acked = over i }

pub acked_other : (a : Acknowledgment) (marks : List Mark) (q : List ℕ × Ballot) → same_spot (a.key, a.ballot) q ≡ false → spot_of q.0 q.1 (Acked a ∷ marks) ≡ spot_of q.0 q.1 marks
acked_other a marks q e =
    let same : has_acked q.0 q.1 (Acked a ∷ marks) ≡ has_acked q.0 q.1 marks = ap (λ (t : Bool). t || has_acked q.0 q.1 marks) (sym (spot_at a.key a.ballot q.0 q.1) ∙ e) in
    λ i. record { voters = voters_of q.0 q.1 marks; acked = same i }

-- ---- what a proposal adds to the history
pub chain_few : (key : List ℕ) (ballot : Ballot) (marks : List Mark) → length (chain_of key ballot marks) ≤ length marks
chain_few key ballot [] = omega arith
chain_few key ballot (Proposed p ∷ older) =
    let fits = is_proposal key ballot p && not (has_proposal key ballot older || has_opening key ballot older) in
    elim (true_or_false fits) [
      | inl e ↦ omega (arith, chain_few key (link_of older p) older, ap length (if_true fits (chain_of key (link_of older p) older ++ entry_of older p ∷ []) (chain_of key ballot older) e), length_last (chain_of key (link_of older p) older) (entry_of older p))
      | inr e ↦ omega (arith, chain_few key ballot older, ap length (if_false fits (chain_of key (link_of older p) older ++ entry_of older p ∷ []) (chain_of key ballot older) e))
    ]
chain_few key ballot (Floor k f s ∷ older) = elim (true_or_false (opens_at key ballot (Floor k f s) older)) [
  | inl e ↦ omega (arith, ap length (if_true (opens_at key ballot (Floor k f s) older) [] (chain_of key ballot older) e))
  | inr e ↦ omega (arith, chain_few key ballot older, ap length (if_false (opens_at key ballot (Floor k f s) older) [] (chain_of key ballot older) e))
]
chain_few key ballot (mark ∷ older) = omega (arith, chain_few key ballot older)

pub length_zero : (p : Proposal) (marks : List Mark) → p.ballot ≡ zero_ballot → 0 ≡ length (chain_of p.key p.ballot (Proposed p ∷ marks))
length_zero p marks zero = sym (ap length (ap (λ b. chain_of p.key b (Proposed p ∷ marks)) zero ∙ chain_zero p.key (Proposed p ∷ marks)))

pub length_opened : (p : Proposal) (marks : List Mark) → has_opening p.key p.ballot marks ≡ true → 0 ≡ length (chain_of p.key p.ballot (Proposed p ∷ marks))
length_opened p marks opened = sym (ap length (chain-opened p.key p.ballot (Proposed p ∷ marks) opened))

at_front : (p : Proposal) (marks : List Mark) → At (Proposed p) marks (Proposed p ∷ marks)
at_front p marks = here

pub length_next : (p : Proposal) (marks : List Mark) → IsNumbered (Proposed p ∷ marks) → (p.ballot ≡ zero_ballot → ⊥) → has_opening p.key p.ballot marks ≡ false
    → suc (length (chain_of p.key (link_of marks p) marks)) ≡ length (chain_of p.key p.ballot (Proposed p ∷ marks))
length_next p marks numbered drawn none =
    let fresh : has_proposal p.key p.ballot marks ≡ false = false_of_not (has_proposal p.key p.ballot marks) (λ e. (numbered.proposed here).fresh (has_proposal_tells p.key p.ballot marks e)) in
    sym (ap length (chain-at (at_front p marks) fresh drawn none) ∙ length_last (chain_of p.key (link_of marks p) marks) (entry_of marks p))

-- ---- the state after a history
replay_last : (state : State) (entries : List Entry) (entry : Entry) → replay_from state (entries ++ entry ∷ []) ≡ (outcome_of entry.program (replay_from state entries)).state
replay_last state [] entry = refl
replay_last state (x ∷ entries) entry = replay_last (outcome_of x.program state).state entries entry

pub state_told : (key : List ℕ) (ballot : Ballot) (marks : List Mark) (node : Node) → IsNumbered marks → node_of key ballot marks ≡ Some node → 0 < node.length
    → node.outcome.state ≡ replay_from (opening_state key marks) (chain_of key ballot marks)
state_told key ballot marks node numbered is long =
    let n = node_tells key ballot marks node is in
    let tells = node_history numbered n (λ none. absurd (omega (arith, long, node_length numbered n, ap length none))) in
    ap (λ (x : Outcome). x.state) tells.outcome_is ∙ sym (ap (replay_from (opening_state key marks)) tells.chain_is ∙ replay_last (opening_state key marks) (chain_from key node.from marks) (entry_of tells.older tells.proposal))

pub state_start : (key : List ℕ) (ballot : Ballot) (marks : List Mark) → length (chain_of key ballot marks) ≡ 0 → start_of (opening_of key marks) ≡ replay_from (opening_state key marks) (chain_of key ballot marks)
state_start key ballot marks none = sym (start_is key marks) ∙ ap (replay_from (opening_state key marks)) (sym (nil_of_length (chain_of key ballot marks) none))

-- ---- programs
pub program_told : (p : Proposal) (marks : List Mark) → IsNumbered (reverse marks) → IsBegun p.caller p.call p.key (reverse marks) → program_at marks (place_of p.caller p.call (reverse marks)) ≡ Some (program_of p.caller p.call (reverse marks))
program_told p marks numbered begun =
    let h = has_place begun.stands.at in
    let b = began_at p.caller p.call h.place (reverse marks) h.is in
    ap (program_at marks) h.is ∙ ap (λ (n : ℕ). program_in (slice_get marks n)) b.place_is ∙ ap program_in (placed marks b.at) ∙ ap Some (sym (program_of_begun (counted_of numbered) b.at))

-- ---- what an acknowledgment or a floor leaves

-- with one mark more
pub found_next : (mark : Mark) (older : List Mark) → IsLegal (mark ∷ older) → (key : List ℕ) (entries : List Entry) (place : ℕ) (found : Option Ballot) → settled_of key (mark ∷ older) ≡ entries
    → IsFoundIn key older entries place found → IsFoundAt key (mark ∷ older) place found
found_next mark older legal key entries place None is ends = ends
found_next mark older legal key entries place (Some ballot) is ends =
    let stays = some_stays key ballot legal.numbered (later whole) (λ none. absurd (omega (arith, ends.long, ap length none))) in
    record {
      begins = subst (λ front. IsPrefix front (settled_of key (mark ∷ older))) (sym stays) (subst (IsPrefix (chain_of key ballot older)) (sym is) ends.begins);
      long = ap length stays ∙ ends.long;
    }

-- another place
pub place_apart : (key k : List ℕ) (place p : ℕ) → (key ≡ k → place ≡ p → ⊥) → same_place (key, place) (k, p) ≡ false
place_apart key k place p apart = false_of_not (same_place (key, place) (k, p)) (λ e. apart (key_same (and_left (is_key key k) (place == p) e)) (nat_same {a = place} {b = p} (and_right (is_key key k) (place == p) e)))

-- what a table of places finds of the settled histories stays, with one ballot more past what is settled
pub settled_put : (key : List ℕ) (place : ℕ) (ballot : Ballot) (marks : List Mark) (old new : (List ℕ × ℕ) → Option Ballot) → length (settled_of key marks) ≤ place
    → ((q : List ℕ × ℕ) → new q ≡ (if same_place (key, place) q then Some ballot else old q))
    → ((k : List ℕ) (p : ℕ) → p < length (settled_of k marks) → IsFoundAt k marks p (old (k, p))) → (k : List ℕ) (p : ℕ) → p < length (settled_of k marks) → IsFoundAt k marks p (new (k, p))
settled_put key place ballot marks old new beyond put places k p within =
    let apart = place_apart key k place p (λ same_key same. absurd (omega (arith, within, beyond, same, ap (λ x. length (settled_of x marks)) same_key))) in
    subst (IsFoundAt k marks p) (sym (put (k, p) ∙ if_false (same_place (key, place) (k, p)) (Some ballot) (old (k, p)) apart)) (places k p within)

pub node_empty : (key : List ℕ) (ballot : Ballot) (marks : List Mark) (node : Node) → IsNumbered marks → node_of key ballot marks ≡ Some node → node.length ≡ 0 → length (chain_of key ballot marks) ≡ 0
node_empty key ballot marks node numbered is none = sym (node_length numbered (node_tells key ballot marks node is)) ∙ none

-- ---- rows after a top
-- the row of another key stays
pub acked_row_other : (a : Acknowledgment) (marks : List Mark) (key : List ℕ) → is_key a.key key ≡ false → row_of key (Acked a ∷ marks) ≡ row_of key marks
acked_row_other a marks key e =
    let top : top_of key (Acked a ∷ marks) ≡ top_of key marks = if_false (is_key a.key key) (greater_of a.ballot (top_of key marks)) (top_of key marks) e in
    λ i. record { top = top i; settled = length (acked_apart key a marks e i); floor = floor_at key marks }

pub acked_row : (a : Acknowledgment) (marks : List Mark) (row : Row) → row ≡ raised_row a.key a.ballot marks → (key : List ℕ) → is_key a.key key ≡ true → row_of key (Acked a ∷ marks) ≡ row
acked_row a marks row is key e =
    let same : a.key ≡ key = key_same e in
    let top : top_of a.key (Acked a ∷ marks) ≡ greater_of a.ballot (top_of a.key marks) = if_true (is_key a.key a.key) (greater_of a.ballot (top_of a.key marks)) (top_of a.key marks) (key_is {a = a.key} refl) in
    let own : row_of a.key (Acked a ∷ marks) ≡ raised_row a.key a.ballot marks = λ i. record { top = top i; settled = length (acked_settled a marks i); floor = floor_at a.key marks } in
    (λ i. row_of (sym same i) (Acked a ∷ marks)) ∙ own ∙ sym is

pub floor_row_other : (k : List ℕ) (ballot : Ballot) (state : State) (marks : List Mark) (key : List ℕ) → is_key k key ≡ false → row_of key (Floor k ballot state ∷ marks) ≡ row_of key marks
floor_row_other k ballot state marks key e =
    let top : top_of key (Floor k ballot state ∷ marks) ≡ top_of key marks = if_false (is_key k key) (greater_of ballot (top_of key marks)) (top_of key marks) e in
    let floor : floor_at key (Floor k ballot state ∷ marks) ≡ floor_at key marks = if_false (is_key k key) (Some (later_of ballot (floor_at key marks))) (floor_at key marks) e in
    λ i. record { top = top i; settled = length (floor_apart key k ballot state marks e i); floor = floor i }

pub floor_row : (k : List ℕ) (ballot : Ballot) (state : State) (marks : List Mark) (row : Row) → IsLegal marks → row ≡ raised_row k ballot marks → (key : List ℕ) → is_key k key ≡ true
    → row_of key (Floor k ballot state ∷ marks) ≡ record { top = row.top; settled = row.settled; floor = Some (later_of ballot row.floor) }
floor_row k ballot state marks row legal is key e =
    let same : k ≡ key = key_same e in
    let top : top_of k (Floor k ballot state ∷ marks) ≡ greater_of ballot (top_of k marks) = if_true (is_key k k) (greater_of ballot (top_of k marks)) (top_of k marks) (key_is {a = k} refl) in
    let floor : floor_at k (Floor k ballot state ∷ marks) ≡ Some (later_of ballot (floor_at k marks)) = if_true (is_key k k) (Some (later_of ballot (floor_at k marks))) (floor_at k marks) (key_is {a = k} refl) in
    let raised = raised_row k ballot marks in
    let own : row_of k (Floor k ballot state ∷ marks) ≡ record { top = raised.top; settled = raised.settled; floor = Some (later_of ballot raised.floor) } =
    λ i. record { top = top i; settled = length (floor_settled k ballot state marks legal i); floor = floor i } in
    (λ i. row_of (sym same i) (Floor k ballot state ∷ marks)) ∙ own ∙ (λ i. record { top = (sym is i).top; settled = (sym is i).settled; floor = Some (later_of ballot (sym is i).floor) })

-- ---- places after a top
-- all places of the key that was raised are found, and the others stay
pub raised_places : (mark : Mark) (k : List ℕ) (entries : List Entry) (marks : List Mark) (settled : (List ℕ × ℕ) → Option Ballot) → IsLegal (mark ∷ marks) → settled_of k (mark ∷ marks) ≡ entries
    → ((key : List ℕ) → is_key k key ≡ false → settled_of key (mark ∷ marks) ≡ settled_of key marks)
    → ((place : ℕ) → place < length entries → IsFoundIn k marks entries place (settled (k, place)))
    → ((key : List ℕ) (place : ℕ) → place < length (settled_of key marks) → IsFoundAt key marks place (settled (key, place)))
    → (key : List ℕ) (place : ℕ) → place < length (settled_of key (mark ∷ marks)) → IsFoundAt key (mark ∷ marks) place (settled (key, place))
raised_places mark k entries marks settled legal is apart own others key place within = elim (true_or_false (is_key k key)) [
  | inl e ↦
      let same : k ≡ key = key_same e in
      subst (λ x. IsFoundAt x (mark ∷ marks) place (settled (x, place))) same
      (found_next mark marks legal k entries place (settled (k, place)) is (own place (omega (arith, within, ap length is, ap (λ x. length (settled_of x (mark ∷ marks))) same))))
  | inr e ↦ found_kept mark marks legal key place (settled (key, place)) (others key place (omega (arith, within, ap length (apart key e))))
]

-- ---- openings
pub opened_next : (k : List ℕ) (ballot : Ballot) (state : State) (marks : List Mark) (opening : Opening) → has_calls marks ≡ false → opening ≡ record { ballot = ballot; state = state } → (key : List ℕ) → is_key k key ≡ true
    → opening_of key (Floor k ballot state ∷ marks) ≡ Some opening
opened_next k ballot state marks opening none is key e =
    if_true (is_key k key && not (has_calls marks)) (Some (record { ballot = ballot; state = state })) (opening_of key marks) (both_true (is_key k key) (not (has_calls marks)) e (not_of_false (has_calls marks) none)) ∙ ap Some (sym is)

pub opened_other : (k : List ℕ) (ballot : Ballot) (state : State) (marks : List Mark) (key : List ℕ) → is_key k key ≡ false → opening_of key (Floor k ballot state ∷ marks) ≡ opening_of key marks
opened_other k ballot state marks key e = if_false (is_key k key && not (has_calls marks)) (Some (record { ballot = ballot; state = state })) (opening_of key marks) (left_false (is_key k key) (not (has_calls marks)) e)

pub opened_late : (k : List ℕ) (ballot : Ballot) (state : State) (marks : List Mark) → has_calls marks ≡ true → (key : List ℕ) → opening_of key (Floor k ballot state ∷ marks) ≡ opening_of key marks
opened_late k ballot state marks some key =
    if_false (is_key k key && not (has_calls marks)) (Some (record { ballot = ballot; state = state })) (opening_of key marks) (right_false (is_key k key) (not (has_calls marks)) (not_of_true (has_calls marks) some))
