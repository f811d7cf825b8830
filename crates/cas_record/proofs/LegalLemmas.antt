-- The marks of a lawful log are a legal record.
use Rattle.std.proofs.Common.{◌≡◌, ℕ, suc, ◌≤◌, false, List, [], ◌∷◌, ◌++◌, length, arith, refl, sym, ap, ◌∙◌, subst, append_assoc}
use mathlib.Core.Logic.{inl, inr}
use Rattle.cas_ballot.specs.declared.ballot.Ballot.{Ballot}
use Rattle.cas_ballot.specs.Ballot.{BallotAtMost}
use Rattle.cas_ballot.proofs.BallotLemmas.{at_most_or_less, less_not_at_most}
use Rattle.cas_change.specs.declared.program.Clause.{Clause}
use Rattle.cas_change.specs.declared.state.State.{State}
use Rattle.cas_change.specs.declared.outcome.Took.{Took as Who}
use Rattle.cas_record.specs.declared.answer.Answer.{Answer}
use Rattle.cas_record.specs.declared.answer.Answer.TheVariants as answer
use Rattle.cas_record.specs.declared.entry.Entry.{Entry}
use Rattle.cas_record.specs.declared.mark.Mark.{Mark}
use Rattle.cas_record.specs.declared.mark.Mark.TheVariants.{Begun, Proposed, Ended}
use Rattle.cas_record.specs.declared.mark.Proposal.{Proposal}
use Rattle.cas_record.specs.Places.{At, Stands, IsOlderPart, IsPrefix, here, past, whole, later}
use Rattle.cas_record.specs.Histories.Chain.{has_proposal, link_of, entry_of, program_of, chain_of, top_of, settled_of}
use Rattle.cas_record.specs.Legal.{calls_of, IsBegun, IsProposed, IsEnded, IsFirstProposal, IsFirstEnd, IsNumbered, DoesStand, RefusedNever, harms_due, harms_of, WasBegun, HasVotes, IsAcked, IsFloor, IsLegal}
use Rattle.cas_record.specs.Logs.Happening.{Happening, Marked, marks_of}
use Rattle.cas_record.specs.Logs.Lawful.{Cluster, Lawful, MayEnd, MayBeDone}
use Rattle.cas_record.proofs.PlaceLemmas.{deeper, stands_at, at_part, part_at, older_than, newer_than, at_one, order, prefix_same, length-prefix}
use Rattle.cas_base.proofs.Bools.{false_of_not}
use Rattle.cas_record.proofs.Histories.Chains.{chain-none, chain-at, has_proposal_tells, entry_place, acked_at_most_top}
use Rattle.cas_record.proofs.Logs.Lemmas.{law, lawful_older, mark_at, in_log, InLog, part_of, proposal_law, ack_law, floor_law, not_zero, proposal_placed, not_opened, AckedAt, acked_at, proposal_of_acked, above_opening, opening_deeper, has_none_zero, chain_whole, link_begins}
use Rattle.cas_record.proofs.Logs.Agreement.{Seam, Settles, by_ack, by_opening, settles_deeper, settles_begins, settles_top, agree, grows, settled_begins, overtake}
use Rattle.cas_record.proofs.Histories.Calls.{AreCallsCounted, counted_part, begun_once, program_of_begun}

-- ---- older parts of logs
pub record LogPart (part : List Mark) (log : List Happening) : Type 0 where
  pub older : List Happening
  pub is : part ≡ marks_of older
  pub is_part : IsOlderPart older log

part_more : {part : List Mark} {happening : Happening} {log : List Happening} → LogPart part log → LogPart part (happening ∷ log)
part_more l = record { older = l.older; is = l.is; is_part = later l.is_part }

part_nil : {part : List Mark} → IsOlderPart part [] → part ≡ []
part_nil whole = refl

part_front : (other : Mark) (older : List Happening) {part : List Mark} → IsOlderPart part (other ∷ marks_of older)
    → (IsOlderPart part (marks_of older) → LogPart part older) → LogPart part (Marked other ∷ older)
part_front other older whole rest = record { older = Marked other ∷ older; is = refl; is_part = whole }
part_front other older (later q) rest = part_more (rest q)

pub part_in_log : (log : List Happening) {part : List Mark} → IsOlderPart part (marks_of log) → LogPart part log
part_in_log [] q = record { older = []; is = part_nil q; is_part = whole }
part_in_log (Marked other ∷ older) q = part_front other older q (λ rest. part_in_log older rest)
part_in_log (other ∷ older) q = part_more (part_in_log older q)

-- a part is the whole, or stands behind something
pub data IsPart {A : Type 0} (part all : List A) : Type 0 where
  all_of : part ≡ all → IsPart part all
  behind : {x : A} → At x part all → IsPart part all

part_past : {A : Type 0} {part : List A} {y : A} {rest : List A} → IsPart part rest → IsPart part (y ∷ rest)
part_past {y = y} {rest = rest} (all_of e) = behind (subst (λ xs. At y xs (y ∷ rest)) (sym e) here)
part_past (behind at) = behind (past at)

pub part_cases : {A : Type 0} {part all : List A} → IsOlderPart part all → IsPart part all
part_cases whole = all_of refl
part_cases (later q) = part_past (part_cases q)

pub lawful_part : (cluster : Cluster) {older log : List Happening} → Lawful cluster log → IsOlderPart older log → Lawful cluster older
lawful_part cluster lawful whole = lawful
lawful_part cluster lawful (later q) = lawful_part cluster lawful.0 q

-- ---- calls
pub counted : (cluster : Cluster) (log : List Happening) → Lawful cluster log → AreCallsCounted (marks_of log)
counted cluster log lawful = record {
  begun = λ {caller} {call} {key} {program} {older} at.
      let found = in_log log at in
      let says : call ≡ suc (calls_of caller (marks_of found.older)) = law cluster lawful found.at in
      says ∙ ap (λ marks. suc (calls_of caller marks)) (sym found.is);
}

end_law : (cluster : Cluster) {log older : List Happening} {caller call rounds : ℕ} {answer : Answer} → Lawful cluster log → At (Marked (Ended caller call rounds answer)) older log
    → MayEnd (marks_of older) caller call answer
end_law cluster lawful at = law cluster lawful at

pub is_numbered : (cluster : Cluster) (log : List Happening) → Lawful cluster log → IsNumbered (marks_of log)
is_numbered cluster log lawful = record {
  begun = (counted cluster log lawful).begun;
  proposed = λ {p} {older} at.
      let found = in_log log at in
      subst (IsFirstProposal p) (sym found.is) (proposal_law cluster lawful found.at).first;
  ended = λ {caller} {call} {rounds} {answer} {older} at.
      let found = in_log log at in
      subst (IsFirstEnd caller call) (sym found.is) (end_law cluster lawful found.at).first;
}

-- ---- answers
-- a call is not proposed after its end
not_after_end : (cluster : Cluster) {log older : List Happening} {caller call rounds : ℕ} {answer : Answer} → Lawful cluster log → At (Marked (Ended caller call rounds answer)) older log
    → IsProposed caller call (marks_of log) → IsProposed caller call (marks_of older)
not_after_end cluster {log} {older} {caller} {call} {rounds} {answer} lawful at proposed =
    let found = in_log log proposed.stands.at in
    elim (order found.at at) [
      | older_than before ↦ record { proposal = proposed.proposal; stands = stands_at (mark_at before); same_caller = proposed.same_caller; same_call = proposed.same_call }
      | newer_than after ↦
          let ended : IsEnded caller call (marks_of found.older) = record { rounds = rounds; answer = answer; stands = stands_at (mark_at after) } in
          absurd ((proposal_law cluster lawful found.at).first.open_yet
          (subst (λ c. IsEnded c proposed.proposal.call (marks_of found.older)) (sym proposed.same_caller)
          (subst (λ n. IsEnded caller n (marks_of found.older)) (sym proposed.same_call) ended)))
      | at_one same older_same ↦ absurd (cc same)
    ]

pub refused_never : (cluster : Cluster) (log : List Happening) → Lawful cluster log → RefusedNever (marks_of log)
refused_never cluster log lawful = record {
  refused = λ {caller} {call} {rounds} {answer} {older} at tells proposed.
      let found = in_log log at in
      (end_law cluster lawful found.at).refused tells (not_after_end cluster lawful found.at proposed);
  unsettled = λ {caller} {call} {rounds} {answer} {older} at tells.
      let found = in_log log at in
      subst (IsProposed caller call) (sym found.is) ((end_law cluster lawful found.at).unsettled tells);
}

-- ---- what a Done call tells
done_law : (cluster : Cluster) {log older : List Happening} {caller call rounds : ℕ} {state : State} {took : Who} {ballot : Ballot} → Lawful cluster log
    → At (Marked (Ended caller call rounds (answer.Done state took ballot))) older log → MayBeDone (marks_of older) caller call state took ballot
done_law cluster lawful at = (end_law cluster lawful at).answered

acked_of_done : {marks : List Mark} {caller call : ℕ} {state : State} {took : Who} {ballot : Ballot} (d : MayBeDone marks caller call state took ballot) (log : List Happening)
    → marks ≡ marks_of log → AckedAt d.proposal.key d.proposal.ballot log
acked_of_done d log e =
    subst (λ b. AckedAt d.proposal.key b log) (sym d.same_ballot) (acked_at log (subst (IsAcked d.proposal.key _) e d.acked))

acked_low : {key : List ℕ} {ballot : Ballot} {log : List Happening} → AckedAt key ballot log → BallotAtMost ballot (top_of key (marks_of log))
acked_low {key} {ballot} {log} a =
    subst (λ k. BallotAtMost ballot (top_of k (marks_of log))) a.same_key
    (subst (λ b. BallotAtMost b (top_of a.acknowledgment.key (marks_of log))) a.same_ballot (acked_at_most_top (mark_at a.at)))

-- the entry of an acknowledged proposal stands behind the history of its link
record StandsBehind (p : Proposal) (older marks : List Mark) : Type 0 where
  after : List Entry
  place : settled_of p.key marks ≡ chain_of p.key (link_of older p) older ++ entry_of older p ∷ after

stands_behind : (cluster : Cluster) (log : List Happening) {p : Proposal} {older : List Mark} → Lawful cluster log → Seam log → At (Proposed p) older (marks_of log)
    → AckedAt p.key p.ballot log → StandsBehind p older (marks_of log)
stands_behind cluster log {p} {older} lawful seam at acked =
    let found = in_log log at in
    let fresh : has_proposal p.key p.ballot (marks_of found.older) ≡ false =
    false_of_not _ (λ e. (proposal_law cluster lawful found.at).first.fresh (has_proposal_tells p.key p.ballot (marks_of found.older) e)) in
    let own : chain_of p.key p.ballot (marks_of log) ≡ chain_of p.key (link_of older p) older ++ entry_of older p ∷ [] =
    chain-at at (subst (λ marks. has_proposal p.key p.ballot marks ≡ false) (sym found.is) fresh) (not_zero cluster lawful found.at) (not_opened cluster lawful (proposal_placed found.at)) in
    let begins = settled_begins cluster lawful seam (by_ack acked) (acked_low acked) in
    record {
      after = begins.rest;
      place = begins.joins ∙ ap (λ front. front ++ begins.rest) own ∙ append_assoc (chain_of p.key (link_of older p) older) (entry_of older p ∷ []) begins.rest;
    }

does_stand : (cluster : Cluster) (log : List Happening) {caller call : ℕ} {state : State} {took : Who} {ballot : Ballot} → Lawful cluster log → Seam log
    → MayBeDone (marks_of log) caller call state took ballot → DoesStand caller call state took ballot (marks_of log)
does_stand cluster log {caller} {call} {state} {took} {ballot} lawful seam d =
    let p = d.proposal in
    let before = chain_of p.key (link_of d.older p) d.older in
    let stands = stands_behind cluster log lawful seam d.proposed (acked_of_done d log refl) in
    let same : entry_of d.older p ≡ record { caller = caller; call = call; program = program_of p.caller p.call d.older } =
    λ i. record { caller = d.same_caller i; call = d.same_call i; program = program_of p.caller p.call d.older } in
    record {
      proposal = p;
      proposed = stands_at d.proposed;
      same_caller = d.same_caller;
      same_call = d.same_call;
      same_ballot = d.same_ballot;
      program = program_of p.caller p.call d.older;
      before = before;
      after = stands.after;
      place = stands.place ∙ ap (λ (entry : Entry). before ++ entry ∷ stands.after) same;
      outcome = d.outcome;
    }

-- ---- real time
-- a call is proposed once
one_call : (cluster : Cluster) {log xs ys : List Happening} {p q : Proposal} → Lawful cluster log → At (Marked (Proposed p)) xs log → At (Marked (Proposed q)) ys log
    → p.caller ≡ q.caller → p.call ≡ q.call → p ≡ q
one_call cluster {p = p} {q = q} lawful p_at q_at same_caller same_call = elim (order p_at q_at) [
  | older_than before ↦ absurd ((proposal_law cluster lawful q_at).first.once (record { proposal = p; stands = stands_at (mark_at before); same_caller = same_caller; same_call = same_call }))
  | newer_than after ↦ absurd ((proposal_law cluster lawful p_at).first.once (record { proposal = q; stands = stands_at (mark_at after); same_caller = sym same_caller; same_call = sym same_call }))
  | at_one same older_same ↦ cc same
]

-- what was settled before a proposal that is acknowledged is at most what it goes on from
real_time_settled : (cluster : Cluster) {happening : Happening} {log older earlier : List Happening} {p : Proposal} → Lawful cluster log → Seam log → At (Marked (Proposed p)) older log
    → AckedAt p.key p.ballot log → At happening earlier older → Settles p.key (top_of p.key (marks_of earlier)) earlier
    → length (settled_of p.key (marks_of earlier)) ≤ length (chain_of p.key (link_of (marks_of older) p) (marks_of log))
real_time_settled cluster {log = log} {older = older} {earlier = earlier} {p = p} lawful seam at acked before settles =
    let top = top_of p.key (marks_of earlier) in
    let in_whole = deeper before at in
    let early = lawful_older cluster lawful in_whole in
    let same : settled_of p.key (marks_of earlier) ≡ chain_of p.key top (marks_of log) = chain_whole cluster lawful in_whole (settles_begins cluster early settles) in
    elim (at_most_or_less p.ballot top) [
      | inl high ↦ absurd (elim settles [
        | by_ack a ↦
            let q = proposal_of_acked cluster early a in
            overtake cluster lawful seam at acked (deeper (deeper q.at a.at) before) q.same_key (subst (BallotAtMost p.ballot) (sym q.same_ballot) high)
        | by_opening o ↦ less_not_at_most (above_opening cluster lawful at (opening_deeper o in_whole)) high
      ])
      | inr below ↦ subst (λ xs. length xs ≤ length (chain_of p.key (link_of (marks_of older) p) (marks_of log))) (sym same)
          (length-prefix (agree cluster lawful seam (settles_deeper settles in_whole) at below))
    ]

nil_short : {xs : List Entry} (n : ℕ) → xs ≡ [] → length xs ≤ n
nil_short n e = subst (λ ys. length ys ≤ n) (sym e) (omega arith)

pub real_time : (cluster : Cluster) {happening : Happening} {log older earlier : List Happening} {p : Proposal} → Lawful cluster log → Seam log → At (Marked (Proposed p)) older log
    → AckedAt p.key p.ballot log → At happening earlier older
    → length (settled_of p.key (marks_of earlier)) ≤ length (chain_of p.key (link_of (marks_of older) p) (marks_of log))
real_time cluster {log = log} {older = older} {earlier = earlier} {p = p} lawful seam at acked before =
    let early = lawful_older cluster lawful (deeper before at) in
    elim (settles_top cluster earlier p.key early) [
      | inl z ↦ nil_short _ (chain-none p.key (top_of p.key (marks_of earlier)) (marks_of earlier) (has_none_zero cluster earlier p.key early z))
      | inr settles ↦ real_time_settled cluster lawful seam at acked before settles
    ]

-- the Begun mark of a proposed call, in the log behind the proposal
begun_behind : (cluster : Cluster) (log : List Happening) {older : List Happening} {p : Proposal} {key : List ℕ} {program : List Clause} {earlier : List Mark} → Lawful cluster log
    → At (Marked (Proposed p)) older log → At (Begun p.caller p.call key program) earlier (marks_of log) → InLog (Begun p.caller p.call key program) earlier older
begun_behind cluster log {older} {p} {key} {program} {earlier} lawful at begun =
    let own = (proposal_law cluster lawful at).first.begun in
    let one = begun_once (counted cluster log lawful) (at_part own.stands.at (part_of at)) begun in
    let moved : At (Begun p.caller p.call key program) earlier (marks_of older) =
    subst (λ xs. At (Begun p.caller p.call key program) xs (marks_of older)) one.older_same
    (subst (λ k. At (Begun p.caller p.call k program) own.stands.older (marks_of older)) one.same_key
    (subst (λ x. At (Begun p.caller p.call p.key x) own.stands.older (marks_of older)) one.same_program own.stands.at)) in
    in_log older moved

after_seen : (cluster : Cluster) (log : List Happening) {caller call : ℕ} {state : State} {took : Who} {ballot : Ballot} {key : List ℕ} {program : List Clause} {earlier : List Mark}
    → Lawful cluster log → Seam log → MayBeDone (marks_of log) caller call state took ballot → At (Begun caller call key program) earlier (marks_of log)
    → (entry : Entry) (before after : List Entry) → entry.caller ≡ caller → entry.call ≡ call
    → settled_of key (marks_of log) ≡ before ++ entry ∷ after → length (settled_of key earlier) ≤ length before
after_seen cluster log {caller} {call} {key = key} {program = program} {earlier = earlier} lawful seam d begun entry before after same_caller same_call e =
    let place = entry_place key (top_of key (marks_of log)) (marks_of log) before entry after e in
    let p = place.proposal in
    let found = in_log log place.at in
    let done = in_log log d.proposed in
    let p_caller : p.caller ≡ caller = sym (ap (λ (x : Entry). x.caller) place.entry_is) ∙ same_caller in
    let p_call : p.call ≡ call = sym (ap (λ (x : Entry). x.call) place.entry_is) ∙ same_call in
    let one : d.proposal ≡ p = one_call cluster lawful done.at found.at (d.same_caller ∙ sym p_caller) (d.same_call ∙ sym p_call) in
    let acked : AckedAt p.key p.ballot log = subst (λ (x : Proposal). AckedAt x.key x.ballot log) one (acked_of_done d log refl) in
    let own_begun : At (Begun p.caller p.call key program) earlier (marks_of log) =
    subst (λ c. At (Begun c p.call key program) earlier (marks_of log)) (sym p_caller) (subst (λ n. At (Begun caller n key program) earlier (marks_of log)) (sym p_call) begun) in
    let early = begun_behind cluster log lawful found.at own_begun in
    let bound = real_time cluster lawful seam found.at acked early.at in
    let whole : chain_of p.key (link_of (marks_of found.older) p) (marks_of found.older) ≡ chain_of p.key (link_of (marks_of found.older) p) (marks_of log) =
    chain_whole cluster lawful found.at (link_begins cluster lawful found.at) in
    let before_is : before ≡ chain_of p.key (link_of (marks_of found.older) p) (marks_of log) =
    place.before_is ∙ ap (λ k. chain_of k (link_of place.older p) place.older) (sym place.same_key) ∙ ap (λ marks. chain_of p.key (link_of marks p) marks) found.is ∙ whole in
    subst (λ xs. length (settled_of key earlier) ≤ length xs) (sym before_is)
    (subst (λ marks. length (settled_of key marks) ≤ length (chain_of p.key (link_of (marks_of found.older) p) (marks_of log))) (sym early.is)
    (subst (λ k. length (settled_of k (marks_of early.older)) ≤ length (chain_of p.key (link_of (marks_of found.older) p) (marks_of log))) place.same_key bound))

-- ---- what is settled was begun
pub record Split {A : Type 0} (x : A) (older all : List A) : Type 0 where
  pub front : List A
  pub joins : all ≡ front ++ x ∷ older

pub split_at : {A : Type 0} {x : A} {older all : List A} → At x older all → Split x older all
split_at here = record { front = []; joins = refl }
split_at (past {y = y} at) = let s = split_at at in record { front = y ∷ s.front; joins = ap (λ rest. y ∷ rest) s.joins }

was_begun : (cluster : Cluster) (log : List Happening) → Lawful cluster log → (key : List ℕ) (entry : Entry) → Stands entry (settled_of key (marks_of log)) → WasBegun key entry (marks_of log)
was_begun cluster log lawful key entry s =
    let split = split_at s.at in
    let place = entry_place key (top_of key (marks_of log)) (marks_of log) split.front entry s.older split.joins in
    let p = place.proposal in
    let found = in_log log place.at in
    let begun : IsBegun p.caller p.call p.key place.older = subst (IsBegun p.caller p.call p.key) (sym found.is) (proposal_law cluster lawful found.at).first.begun in
    let program : program_of p.caller p.call place.older ≡ begun.program = program_of_begun (counted_part (counted cluster log lawful) (part_at place.at)) begun.stands.at in
    let bears : entry.program ≡ begun.program = ap (λ (x : Entry). x.program) place.entry_is ∙ program in
    let same : Begun p.caller p.call p.key begun.program ≡ Begun entry.caller entry.call key entry.program =
    λ i. Begun (sym place.entry_is i).caller (sym place.entry_is i).call (place.same_key i) (sym bears i) in
    record {
      proposal = p;
      older = place.older;
      proposed = place.at;
      same_key = place.same_key;
      same_caller = sym (ap (λ (x : Entry). x.caller) place.entry_is);
      same_call = sym (ap (λ (x : Entry). x.call) place.entry_is);
      begun = subst (λ (mark : Mark). Stands mark place.older) same begun.stands;
    }

-- ---- histories only grow
only_grows : (cluster : Cluster) (log : List Happening) → Lawful cluster log → Seam log → {earlier : List Mark} → IsOlderPart earlier (marks_of log)
    → (key : List ℕ) → IsPrefix (settled_of key earlier) (settled_of key (marks_of log))
only_grows cluster log lawful seam {earlier} part key =
    let l = part_in_log log part in
    subst (λ marks. IsPrefix (settled_of key marks) (settled_of key (marks_of log))) (sym l.is) (elim (part_cases l.is_part) [
      | all_of same ↦ prefix_same (ap (λ (xs : List Happening). settled_of key (marks_of xs)) same)
      | behind at ↦ grows cluster lawful seam at key
    ])

-- ---- the whole
pub legal_by_seams : (cluster : Cluster) → ((log : List Happening) → Lawful cluster log → Seam log) → (log : List Happening) → Lawful cluster log → IsLegal (marks_of log)
legal_by_seams cluster seams log lawful = record {
  numbered = is_numbered cluster log lawful;
  done_stands = λ {caller} {call} {rounds} {state} {took} {ballot} {older} at.
      let found = in_log log at in
      let before = lawful_older cluster lawful found.at in
      subst (DoesStand caller call state took ballot) (sym found.is) (does_stand cluster found.older before (seams found.older before) (done_law cluster lawful found.at));
  refused_never = refused_never cluster log lawful;
  after_seen = λ {caller} {call} {rounds} {state} {took} {ballot} {key} {program} {older} {earlier} at begun entry before after same_caller same_call e.
      let found = in_log log at in
      let early = lawful_older cluster lawful found.at in
      after_seen cluster found.older early (seams found.older early) (done_law cluster lawful found.at)
      (subst (λ (marks : List Mark). At (Begun caller call key program) earlier marks) found.is begun) entry before after same_caller same_call
      (ap (λ (marks : List Mark). settled_of key marks) (sym found.is) ∙ e);
  only_grows = λ {later} {earlier} later_part earlier_part key.
      let l = part_in_log log later_part in
      let early = lawful_part cluster lawful l.is_part in
      subst (λ marks. IsPrefix (settled_of key earlier) (settled_of key marks)) (sym l.is)
      (only_grows cluster l.older early (seams l.older early) (subst (IsOlderPart earlier) l.is earlier_part) key);
  begun_first = λ {part} is_part key entry stands.
      let l = part_in_log log is_part in
      subst (WasBegun key entry) (sym l.is) (was_begun cluster l.older (lawful_part cluster lawful l.is_part) key entry
      (subst (λ marks. Stands entry (settled_of key marks)) l.is stands));
  has_votes = λ {a} {older} at.
      let found = in_log log at in
      subst (HasVotes a) (sym found.is) (ack_law cluster lawful found.at).votes;
  floors = λ {key} {ballot} {state} {older} at.
      let found = in_log log at in
      subst (IsFloor key ballot state) (sym found.is) (floor_law cluster lawful found.at);
  short_harmed = λ {caller} {call} {rounds} {answer} {older} at.
      let found = in_log log at in
      subst (λ marks. harms_due answer ≤ harms_of caller call marks) (sym found.is) (end_law cluster lawful found.at).harmed;
}
