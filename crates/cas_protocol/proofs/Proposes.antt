-- A proposer with a quorum proposes lawfully, and what it read is the state from which its proposal goes on.
use Rattle.std.proofs.Common.{◌≡◌, ◌<◌, ◌≤◌, ℕ, suc, arith, true, List, [], ◌∷◌, Option, Some, None, refl, sym, ap, subst, ◌∙◌, inl, inr}
use Rattle.std.specs.Prelude.{◌⊎◌, ◌==◌, ◌&&◌, not, Contains}
use Rattle.cas_base.proofs.Bools.{and_left, and_right, both_true, if_false, not_tells, false_of_not}
use Rattle.cas_ballot.specs.declared.ballot.Ballot.{Ballot}
use Rattle.cas_ballot.specs.Ballot.{zero_ballot, BallotAtMost, BallotLess}
use Rattle.cas_ballot.specs.Members.{has_member}
use Rattle.cas_ballot.proofs.BallotLemmas.{zero_at_most, at_most_antisym, at_most_trans, at_most_or_less, at_most_greater_right, less_irreflexive}
use Rattle.cas_ballot.proofs.MemberLemmas.{members_where_tells, has-members_where}
use Rattle.cas_change.specs.declared.state.State.TheVariants.{Empty}
use Rattle.cas_slot.specs.declared.message.Reply.{Reply}
use Rattle.cas_slot.specs.declared.message.Tell.{Tell}
use Rattle.cas_slot.specs.declared.message.Tell.TheVariants as tell
use Rattle.cas_slot.specs.declared.slot.Accepted.{Accepted}
use Rattle.cas_slot.specs.Slot.{accepted_ballot}
use Rattle.cas_round.specs.Replies.{is_prepare, is_accept, is_heard, heard, is_promise, is_acceptance, accepted_by, accepteds_of, promisers_of, accepters_of}
use Rattle.cas_round.specs.Round.{GreatestOf, AcceptedAtMost, IsRead}
use Rattle.cas_round.proofs.Lists.{Has, has, contains, filter_has, has_filter, has_map, map_has, any_has, has_any}
use Rattle.cas_record.specs.declared.mark.Mark.{Mark}
use Rattle.cas_record.specs.declared.mark.Mark.TheVariants.{Proposed, Voted, Floor}
use Rattle.cas_record.specs.declared.mark.Proposal.{Proposal}
use Rattle.cas_record.specs.declared.entry.Entry.{Entry}
use Rattle.cas_record.specs.Histories.Chain.{is_key, floor_below, chain_of, link_of, has_calls}
use Rattle.cas_record.specs.Histories.Replay.{replay_from, opening_state}
use Rattle.cas_record.specs.Logs.Happening.{Happening, Marked, Promised, Entered, Drew, marks_of}
use Rattle.cas_record.specs.Laws.{HistoryIsOpened}
use Rattle.cas_record.specs.Logs.Lawful.{Cluster, ClusterMeets, Lawful, IsIn, AllEntered, IsMade, Granted, MayPropose}
use Rattle.cas_record.specs.Legal.{HasProposal, HasFloor}
use Rattle.cas_record.specs.Logs.Orderly.{Orderly, IsAboveFloors, MayDraw, WasRead, nothing_read, read_from}
use Rattle.cas_record.specs.Places.{Stands, At, here, past}
use Rattle.cas_record.proofs.Histories.Chains.{at_most_floor_below, chain_zero, chain-opened, OpensAt, opening_tells}
use Rattle.cas_record.proofs.Logs.Eras.{le_or_lt, entered_of_mark, entered_by}
use Rattle.cas_record.proofs.Logs.Grants.{granted_promise}
use Rattle.cas_record.proofs.Histories.Links.{link_read}
use Rattle.cas_record.proofs.Logs.Openings.{opening_read}
use Rattle.cas_record.proofs.Logs.Orders.{reason}
use Rattle.cas_record.proofs.PlaceLemmas.{stands_deeper, stands_at}
use Rattle.cas_record.proofs.Tests.{nat_same, nat_is, key_same}
use Rattle.cas_protocol.specs.Acceptors.{IsAcceptedState, IsEmptyAt}
use Rattle.cas_protocol.specs.Laws.{IsStateRead, ProposersProposeLawfully, ProposersCountLawfully}
use Rattle.cas_protocol.specs.Proposers.{AreRepliesTrue, IsOpenRound, AreFloorsClear, state_read}
use Rattle.cas_protocol.specs.Protocol.{IsFloorClear}
use Rattle.cas_protocol.proofs.Answered.{made_not_zero, accepted_not_zero}
use Rattle.cas_protocol.proofs.Proposing.{promise_told, acceptance_told, HasPromised, member_heard, promise_heard, vote_heard}

-- ---- who promised
-- the reply by which an acceptor promised
record Promiser (replies : List Reply) (ballot : Ballot) (acceptor : ℕ) : Type 0 where
  reply : Reply
  stands : Has reply replies
  is_heard : is_heard is_prepare ballot reply ≡ true
  from : reply.from ≡ acceptor
  accepted : Option Accepted
  tells : reply.tell ≡ tell.Promised accepted

promiser : (replies : List Reply) (ballot : Ballot) (acceptor : ℕ) → has_member (promisers_of ballot replies) acceptor ≡ true → Promiser replies ballot acceptor
promiser replies ballot acceptor member =
    let any = any_has (λ reply. (reply.from == acceptor) && is_promise reply.tell) (heard is_prepare ballot replies) (members_where_tells _ acceptor member) in
    let place = filter_has (is_heard is_prepare ballot) any.one replies any.stands in
    let told = promise_told any.one.tell (and_right (any.one.from == acceptor) (is_promise any.one.tell) any.passes) in
    record {
      reply = any.one;
      stands = place.stands;
      is_heard = place.passes;
      from = nat_same {a = any.one.from} {b = acceptor} (and_left (any.one.from == acceptor) (is_promise any.one.tell) any.passes);
      accepted = told.accepted;
      tells = told.is;
    }

-- what was told is at most what was read
told_low : (list : List Accepted) (read : Option Accepted) (accepted : Option Accepted) → GreatestOf AcceptedAtMost list read → ((a : Accepted) → accepted ≡ Some a → Has a list)
    → BallotAtMost (accepted_ballot accepted) (accepted_ballot read)
told_low list read None greatest there = zero_at_most (accepted_ballot read)
told_low list None (Some a) none there = absurd (subst (Has a) none (there a refl))
told_low list (Some r) (Some a) greatest there =
    let place : Contains list a = contains a list (there a refl) in
    subst (λ (y : Accepted). BallotAtMost y.ballot r.ballot) place.2 (greatest.above place.0 a place.1)

-- ---- what was read
-- the reply that told what was read
record Reader (replies : List Reply) (ballot : Ballot) (accepted : Accepted) : Type 0 where
  reply : Reply
  stands : Has reply replies
  is_heard : is_heard is_prepare ballot reply ≡ true
  tells : reply.tell ≡ tell.Promised (Some accepted)

accepted_told : (answer : Tell) (accepted : Accepted) → accepted_by answer ≡ Some accepted → answer ≡ tell.Promised (Some accepted)
accepted_told (tell.Promised a) accepted e = ap tell.Promised e
accepted_told other accepted e = absurd (cc)

reader : (replies : List Reply) (ballot : Ballot) (accepted : Accepted) → Contains (accepteds_of (heard is_prepare ballot replies)) accepted → Reader replies ballot accepted
reader replies ballot accepted stands =
    let picked = map_has (λ reply. accepted_by reply.tell) accepted (heard is_prepare ballot replies) (has accepted (accepteds_of (heard is_prepare ballot replies)) stands) in
    let place = filter_has (is_heard is_prepare ballot) picked.source replies picked.stands in
    record { reply = picked.source; stands = place.stands; is_heard = place.passes; tells = accepted_told picked.source.tell accepted picked.gives }

promise_is : (cluster : Cluster) {log : List Happening} (p : Proposal) (replies : List Reply) (accepted : Accepted) → Orderly cluster log → Stands (Drew p.ballot p.key p.era) log → AreRepliesTrue log replies
    → (r : Reader replies p.ballot accepted) → HasPromised log p.key p.ballot r.reply (Some accepted)
promise_is cluster p replies accepted orderly drawn true_ r = promise_heard cluster p.key p.ballot p.era r.reply (Some accepted) orderly drawn (true_ r.reply (contains r.reply replies r.stands)) r.is_heard r.tells

-- ---- what the rules of a proposal ask
has_promiser : (replies : List Reply) (ballot : Ballot) (reply : Reply) → Has reply replies → is_heard is_prepare ballot reply ≡ true → is_promise reply.tell ≡ true → reply.from < 64
    → has_member (promisers_of ballot replies) reply.from ≡ true
has_promiser replies ballot reply stands heard_ promises small =
    has-members_where _ reply.from small
    ∙ has_any (λ r. (r.from == reply.from) && is_promise r.tell) reply (heard is_prepare ballot replies) (has_filter (is_heard is_prepare ballot) reply replies stands heard_)
    (both_true (reply.from == reply.from) (is_promise reply.tell) (nat_is {a = reply.from} refl) promises)

-- each acceptor that promised granted the ballot
granted : (cluster : Cluster) {log : List Happening} (p : Proposal) (replies : List Reply) (read : Option Accepted) → Orderly cluster log → Stands (Drew p.ballot p.key p.era) log → AreRepliesTrue log replies
    → IsRead p.ballot replies read → p.read ≡ accepted_ballot read → (acceptor : ℕ) → has_member (promisers_of p.ballot replies) acceptor ≡ true → Granted log acceptor p
granted cluster {log} p replies read orderly drawn true_ is_read read_is acceptor member =
    let who = promiser replies p.ballot acceptor member in
    let told = promise_heard cluster p.key p.ballot p.era who.reply who.accepted orderly drawn (true_ who.reply (contains who.reply replies who.stands)) who.is_heard who.tells in
    let low : BallotAtMost (accepted_ballot who.accepted) (accepted_ballot read) =
    told_low (accepteds_of (heard is_prepare p.ballot replies)) read who.accepted is_read
    (λ a e. has_map (λ (r : Reply). accepted_by r.tell) who.reply a (heard is_prepare p.ballot replies) (has_filter (is_heard is_prepare p.ballot) who.reply replies who.stands who.is_heard) (ap accepted_by who.tells ∙ e)) in
    granted_promise cluster p (accepted_ballot who.accepted) orderly drawn (subst (λ x. Stands (Promised x p.key p.ballot (accepted_ballot who.accepted)) log) who.from told.promised) (subst (BallotAtMost (accepted_ballot who.accepted)) (sym read_is) low)

-- what was read is below the ballot, and zero or a proposal of the key
read_below : (cluster : Cluster) {log : List Happening} (p : Proposal) (replies : List Reply) (read : Option Accepted) → Orderly cluster log → Stands (Drew p.ballot p.key p.era) log → AreRepliesTrue log replies
    → (HasProposal p.key p.ballot (marks_of log) → ⊥) → IsAboveFloors (marks_of log) p.key p.ballot → IsRead p.ballot replies read → BallotLess (accepted_ballot read) p.ballot
read_below cluster {log} p replies None orderly drawn true_ fresh above is_read = let may : MayDraw cluster drawn.older p.ballot p.key p.era = reason cluster orderly drawn.at in may.some
read_below cluster {log} p replies (Some a) orderly drawn true_ fresh above is_read =
    let told = promise_is cluster p replies a orderly drawn true_ (reader replies p.ballot a is_read.stands) in
    elim (at_most_or_less p.ballot a.ballot) [
      | inl low ↦ elim told.state [
        | inl made ↦ absurd (fresh (record { proposal = made.proposal; stands = made.stands; same_key = made.same_key; same_ballot = made.same_ballot ∙ at_most_antisym told.low low }))
        | inr opening ↦ let o = opening_tells p.key a.ballot (marks_of log) opening.opens in above.above (stands_at o.at)
      ]
      | inr less ↦ less
    ]

read_made : (cluster : Cluster) {log : List Happening} (p : Proposal) (replies : List Reply) (read : Option Accepted) → Orderly cluster log → Stands (Drew p.ballot p.key p.era) log → AreRepliesTrue log replies
    → IsRead p.ballot replies read → IsAcceptedState (marks_of log) p.key read
read_made cluster p replies None orderly drawn true_ is_read = tt
read_made cluster p replies (Some a) orderly drawn true_ is_read = (promise_is cluster p replies a orderly drawn true_ (reader replies p.ballot a is_read.stands)).state

read_stands : (log : List Happening) (key : List ℕ) (read : Option Accepted) → IsAcceptedState (marks_of log) key read → (accepted_ballot read ≡ zero_ballot) ⊎ IsMade key (accepted_ballot read) (marks_of log)
read_stands log key None made = inl refl
read_stands log key (Some a) (inl made) = inr (inl (record { proposal = made.proposal; stands = made.stands; same_key = made.same_key; same_ballot = made.same_ballot }))
read_stands log key (Some a) (inr opening) = let o = opening_tells key a.ballot (marks_of log) opening.opens in inr (inr (record { state = o.state; stands = stands_at o.at }))

pub in_still : {log : List Happening} {older : List Happening} {happening : Happening} {proposer era : ℕ} → IsIn older proposer era → At happening older log → IsIn log proposer era
in_still is_in at = elim is_in [ inl first ↦ inl first | inr entered ↦ inr (stands_deeper entered at) ]

was_read : (cluster : Cluster) {log : List Happening} (p : Proposal) (replies : List Reply) (read : Option Accepted) → Orderly cluster log → Stands (Drew p.ballot p.key p.era) log → AreRepliesTrue log replies
    → p.prepared_by ≡ promisers_of p.ballot replies → IsRead p.ballot replies read → p.read ≡ accepted_ballot read → WasRead log p
was_read cluster p replies None orderly drawn true_ by is_read read_is = nothing_read read_is
was_read cluster {log} p replies (Some a) orderly drawn true_ by is_read read_is =
    let r = reader replies p.ballot a is_read.stands in
    let told = promise_is cluster p replies a orderly drawn true_ r in
    let from = (true_ r.reply (contains r.reply replies r.stands)).from in
    read_from r.reply.from (ap (λ ids. has_member ids r.reply.from) by ∙ has_promiser replies p.ballot r.reply r.stands r.is_heard (ap is_promise r.tells) from)
    (subst (λ b. Stands (Promised r.reply.from p.key p.ballot b) log) (sym read_is) told.promised)

may_propose : (cluster : Cluster) (log : List Happening) (p : Proposal) (replies : List Reply) (read : Option Accepted) → Lawful cluster log → Orderly cluster log → IsOpenRound log p.caller p.call p.key p.ballot p.era
    → AreRepliesTrue log replies → p.prepared_by ≡ promisers_of p.ballot replies → cluster.prepares p.era p.prepared_by ≡ true → IsRead p.ballot replies read → p.read ≡ accepted_ballot read → MayPropose cluster log p
may_propose cluster log p replies read lawful orderly round true_ by quorum is_read read_is =
    let may : MayDraw cluster round.drawn.older p.ballot p.key p.era = reason cluster orderly round.drawn.at in
    let made = read_made cluster p replies read orderly round.drawn true_ is_read in
    record {
      first = record { begun = round.begun; once = round.once; open_yet = round.open_yet; fresh = round.fresh };
      above_read = subst (λ b. BallotLess b p.ballot) (sym read_is) (read_below cluster p replies read orderly round.drawn true_ round.fresh round.above_floors is_read);
      read_stands = subst (λ b. (b ≡ zero_ballot) ⊎ IsMade p.key b (marks_of log)) (sym read_is) (read_stands log p.key read made);
      above_floors = round.above_floors.above;
      quorum = quorum;
      granted = λ acceptor member. granted cluster p replies read orderly round.drawn true_ is_read read_is acceptor (sym (ap (λ ids. has_member ids acceptor) by) ∙ member);
      known = may.known;
      is_in = in_still may.is_in round.drawn.at;
      not_beyond = round.not_beyond;
    }

-- ---- the state from which a proposal goes on
opens_later : {key : List ℕ} {ballot : Ballot} {mark : Mark} {marks : List Mark} → OpensAt key ballot marks → OpensAt key ballot (mark ∷ marks)
opens_later o = record { state = o.state; older = o.older; at = past o.at; none = o.none }

-- with no opening floor a history opens with the empty state
pub opens_empty : (key : List ℕ) (marks : List Mark) → ((floor : Ballot) → OpensAt key floor marks → ⊥) → opening_state key marks ≡ Empty
opens_empty key [] none = refl
opens_empty key (Floor k floor state ∷ older) none =
    if_false (is_key k key && not (has_calls older)) state (opening_state key older) (false_of_not _ (λ opens.
    none floor (record {
      state = state;
      older = older;
      at = subst (λ x. At (Floor x floor state) older (Floor k floor state ∷ older)) (key_same (and_left (is_key k key) (not (has_calls older)) opens)) here;
      none = not_tells (has_calls older) (and_right (is_key k key) (not (has_calls older)) opens);
    })))
    ∙ opens_empty key older (λ f o. none f (opens_later o))
opens_empty key (mark ∷ older) none = opens_empty key older (λ f o. none f (opens_later o))

-- a floor is not zero
pub floor_not_zero : (cluster : Cluster) (log : List Happening) {key : List ℕ} {floor : Ballot} → Lawful cluster log → IsEmptyAt (marks_of log) key floor ⊎ HistoryIsOpened cluster log key floor → floor ≡ zero_ballot → ⊥
floor_not_zero cluster log lawful (inl empty) zero = made_not_zero cluster log lawful empty.1 zero
floor_not_zero cluster log lawful (inr opened) zero = less_irreflexive (subst (BallotLess zero_ballot) zero opened.some)

-- where a proposal goes on from nothing the key has no floor
none_opens : (cluster : Cluster) (log : List Happening) (p : Proposal) → Lawful cluster log → IsAboveFloors (marks_of log) p.key p.ballot → ((floor : Ballot) → HasFloor p.key floor (marks_of log) → IsEmptyAt (marks_of log) p.key floor ⊎ HistoryIsOpened cluster log p.key floor)
    → link_of (marks_of log) p ≡ zero_ballot → (floor : Ballot) → OpensAt p.key floor (marks_of log) → ⊥
none_opens cluster log p lawful above each link floor o =
    let stands : Stands (Floor p.key floor o.state) (marks_of log) = stands_at o.at in
    let low = at_most_trans (at_most_floor_below o.at (above.above stands)) (at_most_greater_right p.read (floor_below p.key p.ballot (marks_of log))) in
    floor_not_zero cluster log lawful (each floor (record { state = o.state; stands = stands })) (at_most_antisym (subst (BallotAtMost floor) link low) (zero_at_most floor))

state_is_read : (cluster : Cluster) → ClusterMeets cluster → (log : List Happening) (p : Proposal) (replies : List Reply) (read : Option Accepted) → Lawful cluster log → Orderly cluster log → IsOpenRound log p.caller p.call p.key p.ballot p.era
    → AreRepliesTrue log replies → p.prepared_by ≡ promisers_of p.ballot replies → IsRead p.ballot replies read → p.read ≡ accepted_ballot read → AreFloorsClear cluster log p.key p.ballot p.prepared_by → MayPropose cluster log p → IsStateRead log p read
state_is_read cluster meets log p replies read lawful orderly round true_ by is_read read_is floors may =
    elim (link_read cluster {log = log} {p = p} lawful orderly (was_read cluster p replies read orderly round.drawn true_ by is_read read_is) (λ acceptor floor member there low. floors.clear acceptor floor member there low)) [
      | inl link ↦ at_read read (read_made cluster p replies read orderly round.drawn true_ is_read) (link ∙ read_is)
      | inr floored ↦ at_floor read read_is (read_made cluster p replies read orderly round.drawn true_ is_read) (sym read_is ∙ floored.0) (floors.empty (link_of (marks_of log) p) floored.1)
    ]
  where
    at_read : (r : Option Accepted) → IsAcceptedState (marks_of log) p.key r → link_of (marks_of log) p ≡ accepted_ballot r
        → state_read r ≡ replay_from (opening_state p.key (marks_of log)) (chain_of p.key (link_of (marks_of log) p) (marks_of log))
    at_read None made link =
        sym (ap (λ (xs : List Entry). replay_from (opening_state p.key (marks_of log)) xs) (ap (λ b. chain_of p.key b (marks_of log)) link ∙ chain_zero p.key (marks_of log))
        ∙ opens_empty p.key (marks_of log) (none_opens cluster log p lawful round.above_floors floors.empty link))
    at_read (Some a) (inr opening) link =
        opening.state_is ∙ ap (λ (xs : List Entry). replay_from (opening_state p.key (marks_of log)) xs) (sym (chain-opened p.key a.ballot (marks_of log) opening.opens) ∙ ap (λ b. chain_of p.key b (marks_of log)) (sym link))
    at_read (Some a) (inl made) link = made.state_is ∙ ap (λ b. replay_from (opening_state p.key (marks_of log)) (chain_of p.key b (marks_of log))) (sym link)

    at_floor : (r : Option Accepted) → p.read ≡ accepted_ballot r → IsAcceptedState (marks_of log) p.key r → accepted_ballot r ≡ zero_ballot
        → IsEmptyAt (marks_of log) p.key (link_of (marks_of log) p) ⊎ HistoryIsOpened cluster log p.key (link_of (marks_of log) p)
        → state_read r ≡ replay_from (opening_state p.key (marks_of log)) (chain_of p.key (link_of (marks_of log) p) (marks_of log))
    at_floor None nothing made zero (inl empty) = empty.1.state_is
    at_floor None nothing made zero (inr opened) =
        let after : Lawful cluster (Marked (Proposed p) ∷ log) = (lawful, may) in
        absurd (opening_read cluster meets after orderly here nothing opened refl)
    at_floor (Some a) nothing made zero floor = absurd (accepted_not_zero cluster log a lawful made zero)

-- ---- who is clear of floors
-- who promised is a member of the era of the ballot
member_promised : (cluster : Cluster) {log : List Happening} (p : Proposal) (replies : List Reply) → Orderly cluster log → Stands (Drew p.ballot p.key p.era) log → AreRepliesTrue log replies
    → (acceptor : ℕ) → has_member (promisers_of p.ballot replies) acceptor ≡ true → has_member (cluster.members p.era) acceptor ≡ true
member_promised cluster p replies orderly drawn true_ acceptor member =
    let who = promiser replies p.ballot acceptor member in
    subst (λ (a : ℕ). has_member (cluster.members p.era) a ≡ true) who.from
    (member_heard cluster p.key p.ballot p.era who.reply orderly drawn (true_ who.reply (contains who.reply replies who.stands)) who.is_heard)

-- an era that all are in comes after that of no proposer
pub all_in_low : (cluster : Cluster) (log : List Happening) (all proposer era : ℕ) → Lawful cluster log → proposer ≤ cluster.last_proposer → (Stands (Entered proposer (suc era)) log → ⊥)
    → (all ≡ 0) ⊎ AllEntered cluster all (marks_of log) → all ≤ era
all_in_low cluster log all proposer era lawful known not_beyond (inl first) = omega (arith, first)
all_in_low cluster log all proposer era lawful known not_beyond (inr all_in) = elim (le_or_lt all era) [
  | inl low ↦ low
  | inr beyond ↦ absurd (not_beyond (entered_by cluster all (suc era) (omega arith) lawful (entered_of_mark cluster log lawful (all_in proposer known)) (omega arith) beyond))
]

-- a quorum of a round is clear of the floors that members are clear of
pub clear_of_floors : (cluster : Cluster) (log : List Happening) (p : Proposal) (replies : List Reply) → Lawful cluster log → Orderly cluster log → IsOpenRound log p.caller p.call p.key p.ballot p.era
    → AreRepliesTrue log replies → p.prepared_by ≡ promisers_of p.ballot replies → ((floor : Ballot) → HasFloor p.key floor (marks_of log) → IsEmptyAt (marks_of log) p.key floor ⊎ HistoryIsOpened cluster log p.key floor)
    → ((floor : Ballot) → HasFloor p.key floor (marks_of log) → IsFloorClear cluster log p.key floor) → AreFloorsClear cluster log p.key p.ballot p.prepared_by
clear_of_floors cluster log p replies lawful orderly round true_ by empty clear =
    let may : MayDraw cluster round.drawn.older p.ballot p.key p.era = reason cluster orderly round.drawn.at in
    record {
      empty = empty;
      clear = λ acceptor floor member has less.
          let of = clear floor has in
          of.clear p.era acceptor (all_in_low cluster log of.era p.ballot.proposer p.era lawful may.known round.not_beyond of.all_in)
          (member_promised cluster p replies orderly round.drawn true_ acceptor (sym (ap (λ ids. has_member ids acceptor) by) ∙ member));
    }

pub propose : ProposersProposeLawfully
propose cluster meets log p replies read lawful orderly round true_ by quorum is_read read_is floors =
    let may = may_propose cluster log p replies read lawful orderly round true_ by quorum is_read read_is in
    (may, state_is_read cluster meets log p replies read lawful orderly round true_ by is_read read_is floors may)

-- ---- an acknowledgment
pub record Voter (replies : List Reply) (ballot : Ballot) (acceptor : ℕ) : Type 0 where
  pub reply : Reply
  pub stands : Has reply replies
  pub is_heard : is_heard is_accept ballot reply ≡ true
  pub from : reply.from ≡ acceptor
  pub tells : reply.tell ≡ tell.Accepted

pub voter : (replies : List Reply) (ballot : Ballot) (acceptor : ℕ) → has_member (accepters_of ballot replies) acceptor ≡ true → Voter replies ballot acceptor
voter replies ballot acceptor member =
    let any = any_has (λ reply. (reply.from == acceptor) && is_acceptance reply.tell) (heard is_accept ballot replies) (members_where_tells _ acceptor member) in
    let place = filter_has (is_heard is_accept ballot) any.one replies any.stands in
    record {
      reply = any.one;
      stands = place.stands;
      is_heard = place.passes;
      from = nat_same {a = any.one.from} {b = acceptor} (and_left (any.one.from == acceptor) (is_acceptance any.one.tell) any.passes);
      tells = acceptance_told any.one.tell (and_right (any.one.from == acceptor) (is_acceptance any.one.tell) any.passes);
    }

pub count : ProposersCountLawfully
count cluster log a replies lawful orderly proposed true_ by quorum = record {
  votes = record {
    proposal = proposed.proposal;
    proposed = proposed.proposed;
    same_key = proposed.same_key;
    same_ballot = proposed.same_ballot;
    same_era = proposed.same_era;
    votes = λ acceptor member.
        let who = voter replies a.ballot acceptor (sym (ap (λ ids. has_member ids acceptor) by) ∙ member) in
        subst (λ x. Stands (Voted x a.key a.ballot) (marks_of log)) who.from
        (vote_heard cluster a.key a.ballot a.era who.reply orderly proposed.drawn (true_ who.reply (contains who.reply replies who.stands)) who.is_heard who.tells);
  };
  quorum = quorum;
}
