-- What a read knows of its tag, and the marks that it makes.
use Rattle.std.proofs.Common.{◌≡◌, ℕ, suc, true, List, [], ◌∷◌, ◌++◌, length, Option, Some, reverse, refl, sym, ap, subst, ◌∙◌, append_assoc, inl, inr}
use Rattle.std.specs.Prelude.{◌==◌, map}
use Rattle.std.proofs.lemmas.List.{reverse-append}
use Rattle.cas_base.proofs.Bools.{or_cases, or_left, or_right}
use Rattle.cas_ballot.specs.declared.ballot.Ballot.{Ballot}
use Rattle.cas_ballot.specs.Members.{has_member}
use Rattle.cas_ballot.proofs.MemberLemmas.{members_where_tells}
use Rattle.cas_quorum.specs.declared.era.Era.{Era}
use Rattle.cas_quorum.specs.Era.{holds_prep, holds_acc}
use Rattle.cas_slot.specs.declared.message.Ask.{Ask}
use Rattle.cas_slot.specs.declared.message.Ask.TheVariants as ask
use Rattle.cas_slot.specs.declared.message.Phase.TheVariants as phase
use Rattle.cas_slot.specs.declared.message.Request.{Request}
use Rattle.cas_slot.specs.declared.message.Tell.{Tell}
use Rattle.cas_slot.specs.declared.message.Tell.TheVariants as tell
use Rattle.cas_slot.specs.declared.slot.Accepted.{Accepted}
use Rattle.cas_slot.specs.Message.{phase_of, tag_of}
use Rattle.cas_slot.specs.Slot.{accepted_ballot}
use Rattle.cas_record.specs.declared.mark.Acknowledgment.{Acknowledgment}
use Rattle.cas_record.specs.declared.mark.Mark.{Mark}
use Rattle.cas_record.specs.declared.mark.Mark.TheVariants.{Voted, Acked}
use Rattle.cas_record.specs.declared.operator.Probe.{Probe as Answered}
use Rattle.cas_record.specs.Logs.Happening.{Happening, Marked, Asked, Drew, Entered, marks_of}
use Rattle.cas_record.specs.Logs.Lawful.{Cluster, Lawful}
use Rattle.cas_record.specs.Logs.Orderly.{Orderly, MayAsk, MayAskFor, MayDraw, MayReply}
use Rattle.cas_record.specs.Places.{At, Stands, here, past}
use Rattle.cas_record.proofs.Logs.Orders.{reason}
use Rattle.cas_record.proofs.PlaceLemmas.{stands_deeper, newest_or}
use Rattle.cas_record.proofs.Tests.{nat_same, nat_is, ballot_same}
use Rattle.cas_protocol.specs.Proposers.{IsReplyTrue, WasProbed, IsVoteSeen, by_deed, by_probe, IsProposedIn, HasVotesSeen}
use Rattle.cas_protocol.specs.Protocol.{GlobalState, HasHistory, SeesVote, CountsSeen, with_mark}
use Rattle.cas_protocol.specs.Reads.{HasToldBallot, MayBeCounted, AreFloorsKnown, acknowledgment_of}
use Rattle.cas_protocol.proofs.CountedReads.{count_read}
use Rattle.cas_protocol.proofs.Events.{keeps}
use Rattle.cas_protocol.proofs.QuorumReads as reads
use Rattle.cas_model.specs.Council.{Question, Probe, phase_for, ExchangeView}
use Rattle.cas_model.specs.Exchanges.Read.{tells_ballot, holders_of, marks_of_holders, MarksRead, counted, nothing}
use Rattle.cas_model.specs.Exchanges.Step.{question_to}
use Rattle.cas_model.specs.Parties.{IsReadTrue, IsExchangeTrue}
use Rattle.cas_model.specs.View.{Meaning, View, IsAt}
use Rattle.cas_model.proofs.Around.{Whole, whole_more}
use Rattle.cas_model.proofs.Calls.Asks.{asked_log, asked_now}
use Rattle.cas_model.proofs.Eras.Listings.{answer_of}
use Rattle.cas_model.specs.Eras.Listings.{told_by}
use Rattle.cas_model.proofs.Others.{later}

-- ---- its tag
asked_at : {x : Happening} {older : List Happening} (f : ℕ → Request) (tos : List ℕ) (log : List Happening) → At x older log → At x older (asked_log f tos log)
asked_at f [] log at = at
asked_at f (to ∷ tos) log at = past (asked_at f tos log at)

-- nothing was asked with a tag before it was drawn
unasked : (cluster : Cluster) (log : List Happening) (tag : Ballot) (era : ℕ) (request : Request) (key : List ℕ) → Orderly cluster (Drew tag [] era ∷ log) → Stands (Asked request) log
    → request.ask ≡ ask.Probe tag key → ⊥
unasked cluster log tag era request key orderly asked is =
    let may : MayAsk cluster asked.older request request.ask = reason cluster orderly.0 asked.at in
    let may_for : MayAskFor cluster asked.older request [] tag = subst (MayAsk cluster asked.older request) is may in
    let draw : MayDraw cluster log tag [] era = orderly.1 in
    draw.fresh [] may_for.era (stands_deeper may_for.drawn asked.at)

same_key : {tag other : Ballot} {key k : List ℕ} → ask.Probe tag key ≡ ask.Probe other k → k ≡ key
same_key is = cc is

-- it was just drawn, and these were asked
pub read_begun : (cluster : Cluster) (log : List Happening) (age since : ℕ) (tag : Ballot) (key tos : List ℕ) (era : Era) → Orderly cluster (Drew tag [] era.number ∷ log)
    → length (marks_of log) ≡ since
    → (Stands (Entered tag.proposer (suc era.number)) log → ⊥) → AreFloorsKnown cluster log key
    → ((by : List ℕ) → holds_prep era by ≡ true → cluster.prepares era.number by ≡ true) → ((by : List ℕ) → holds_acc era by ≡ true → cluster.accepts era.number by ≡ true)
    → IsReadTrue cluster (asked_log (question_to age tag (Probe key)) tos (Drew tag [] era.number ∷ log)) tag since key era
read_begun cluster log age since tag key tos era orderly many not_beyond floors prepares accepts = record {
  older = log;
  drawn = asked_at (question_to age tag (Probe key)) tos (Drew tag [] era.number ∷ log) here;
  behind = many;
  not_beyond = not_beyond;
  floors = floors;
  alone = λ request k stands is. elim (asked_now (question_to age tag (Probe key)) tos (Drew tag [] era.number ∷ log) stands) [
    | inl now ↦ same_key (sym (ap (λ (r : Request). r.ask) now.1) ∙ is)
    | inr before ↦ elim (newest_or before) [
      | inl drew ↦ absurd (cc drew)
      | inr old ↦ absurd (unasked cluster log tag era.number request k orderly old is)
    ]
  ];
  prepares = prepares;
  accepts = accepts;
}

-- ---- what it was told
-- a request of that phase probes
record Probes (question : Ask) : Type 0 where
  tag : Ballot
  key : List ℕ
  is : question ≡ ask.Probe tag key

probes : (question : Ask) → phase_of question ≡ phase.Probe → Probes question
probes (ask.Probe tag key) e = record { tag = tag; key = key; is = refl }
probes question e = absurd (cc e)

-- what an acceptor told of the key was told to a probe of it
pub was_probed : (cluster : Cluster) (global : GlobalState) (exchange : ExchangeView) (key : List ℕ) (era : Era) → HasHistory cluster global → IsExchangeTrue cluster global.log exchange
    → exchange.question ≡ Probe key → exchange.reads ≡ Some era
    → (place : ℕ) (one : Answered) (promise : Ballot) (accepted : Option Accepted) → IsAt exchange.told place one → one.told ≡ Some (tell.Probed promise accepted)
    → WasProbed global.log exchange.tag key one.acceptor accepted
was_probed cluster global exchange key era history is asks reads place one promise accepted at told =
    let was = is.told place one (tell.Probed promise accepted) at told in
    let known : IsReplyTrue global.log was.reply = history.knows.replied was.made.request was.reply was.made.replied in
    let may : MayReply known.replied.older known.request was.reply = reason cluster history.orderly known.replied.at in
    let probe : Probes known.request.ask = probes known.request.ask (sym may.phase ∙ was.to_it.phase ∙ ap (λ (q : Question). phase_for q) asks) in
    let tagged : probe.tag ≡ exchange.tag = ap tag_of (sym probe.is) ∙ sym may.tag ∙ was.to_it.tag in
    let with_tag : known.request.ask ≡ ask.Probe exchange.tag probe.key = probe.is ∙ ap (λ (b : Ballot). ask.Probe b probe.key) tagged in
    let of_key : probe.key ≡ key = (is.read key era asks reads).alone known.request probe.key (stands_deeper may.asked known.replied.at) with_tag in
    record {
      reply = was.reply;
      told = known;
      from = was.same_from;
      asked = with_tag ∙ ap (λ (k : List ℕ). ask.Probe exchange.tag k) of_key;
      promise = promise;
      tells = was.same_tell;
    }

-- who told the ballot
record TellsBallot (ballot : Ballot) (told : Option Tell) : Type 0 where
  promise : Ballot
  accepted : Option Accepted
  is : told ≡ Some (tell.Probed promise accepted)
  same : accepted_ballot accepted ≡ ballot

tells_of : (ballot : Ballot) (told : Option Tell) → tells_ballot ballot told ≡ true → TellsBallot ballot told
tells_of ballot (Some (tell.Probed promise accepted)) e = record { promise = promise; accepted = accepted; is = refl; same = ballot_same e }
tells_of ballot told e = absurd (cc e)

same_accepted : {p q : Ballot} {a b : Option Accepted} → Some (tell.Probed p a) ≡ Some (tell.Probed q b) → a ≡ b
same_accepted is = cc is

-- an acceptor that holds the ballot told so
pub record HoldsBallot (ballot : Ballot) (found : List Answered) (acceptor : ℕ) : Type 0 where
  pub place : ℕ
  pub one : Answered
  pub at : IsAt found place one
  pub same : one.acceptor ≡ acceptor
  pub promise : Ballot
  pub accepted : Option Accepted
  pub told : one.told ≡ Some (tell.Probed promise accepted)
  pub same_ballot : accepted_ballot accepted ≡ ballot

pub holds : (ballot : Ballot) (found : List Answered) (acceptor : ℕ) → has_member (holders_of ballot found) acceptor ≡ true → HoldsBallot ballot found acceptor
holds ballot found acceptor is =
    let tells = tells_of ballot (told_by found acceptor) (members_where_tells (λ a. tells_ballot ballot (told_by found a)) acceptor is) in
    let said = answer_of found acceptor (tell.Probed tells.promise tells.accepted) tells.is in
    record {
      place = said.place;
      one = said.answer;
      at = said.at;
      same = said.same;
      promise = tells.promise;
      accepted = tells.accepted;
      told = said.is_told;
      same_ballot = tells.same;
    }

-- an acceptor holds one ballot
pub holds_one : (a b : Ballot) (found : List Answered) (acceptor : ℕ) → has_member (holders_of a found) acceptor ≡ true → has_member (holders_of b found) acceptor ≡ true → a ≡ b
holds_one a b found acceptor of_a of_b =
    let tells_a = tells_of a (told_by found acceptor) (members_where_tells (λ n. tells_ballot a (told_by found n)) acceptor of_a) in
    let tells_b = tells_of b (told_by found acceptor) (members_where_tells (λ n. tells_ballot b (told_by found n)) acceptor of_b) in
    sym tells_a.same ∙ ap accepted_ballot (same_accepted (sym tells_a.is ∙ tells_b.is)) ∙ tells_b.same

-- ---- votes that are seen
seen_later : (cluster : Cluster) (h : Happening) (log : List Happening) (acceptor : ℕ) (key : List ℕ) (ballot : Ballot) → Lawful cluster (h ∷ log) → IsVoteSeen log acceptor key ballot
    → IsVoteSeen (h ∷ log) acceptor key ballot
seen_later cluster h log acceptor key ballot lawful (by_deed ride took) = by_deed ride (later took)
seen_later cluster h log acceptor key ballot lawful (by_probe tag accepted probed same) = by_probe tag accepted ((reads.stays cluster h log lawful).probed tag key acceptor (Some accepted) probed) same

abbrev voted : List ℕ → Ballot → List ℕ → List Mark
voted key ballot by = map (λ acceptor. Voted acceptor key ballot) by

-- each of these votes is marked
record IsVotedBy {S V : Type 0} (m : Meaning S V) (cluster : Cluster) (global : GlobalState) (view : View S V) (key : List ℕ) (ballot : Ballot) (by : List ℕ) : Type 0 where
  after : GlobalState
  whole : Whole m cluster after view
  marks : marks_of after.log ≡ reverse (voted key ballot by) ++ marks_of global.log
  stays : (x : Happening) → Stands x global.log → Stands x after.log
  marks_stay : (mark : Mark) → Stands mark (marks_of global.log) → Stands mark (marks_of after.log)
  votes : (acceptor : ℕ) → has_member by acceptor ≡ true → Stands (Voted acceptor key ballot) (marks_of after.log)

pub reverse_first : {A : Type 0} (x : A) (xs ys : List A) → reverse (x ∷ xs) ++ ys ≡ reverse xs ++ x ∷ ys
reverse_first x xs ys = ap (λ l. l ++ ys) (reverse-append (x ∷ []) xs) ∙ append_assoc (reverse xs) (x ∷ []) ys

votes_more : {S V : Type 0} (m : Meaning S V) (cluster : Cluster) (global : GlobalState) (view : View S V) (key : List ℕ) (ballot : Ballot) (one : ℕ) (by : List ℕ)
    → IsVotedBy m cluster (with_mark global (Marked (Voted one key ballot))) view key ballot by
    → IsVotedBy m cluster global view key ballot (one ∷ by)
votes_more m cluster global view key ballot one by rest = record {
  after = rest.after;
  whole = rest.whole;
  marks = rest.marks ∙ sym (reverse_first (Voted one key ballot) (voted key ballot by) (marks_of global.log));
  stays = λ x stands. rest.stays x (later stands);
  marks_stay = λ mark stands. rest.marks_stay mark (later stands);
  votes = λ acceptor e. elim (or_cases (one == acceptor) (has_member by acceptor) e) [
    | inl same ↦ rest.marks_stay (Voted acceptor key ballot) (subst (λ (a : ℕ). Stands (Voted a key ballot) (Voted one key ballot ∷ marks_of global.log)) (nat_same same) (record { older = marks_of global.log; at = here }))
    | inr there ↦ rest.votes acceptor there
  ];
}

votes_by : {S V : Type 0} (m : Meaning S V) (cluster : Cluster) (global : GlobalState) (view : View S V) (key : List ℕ) (ballot : Ballot) (by : List ℕ)
    → ((acceptor : ℕ) → has_member by acceptor ≡ true → IsVoteSeen global.log acceptor key ballot)
    → Whole m cluster global view → IsVotedBy m cluster global view key ballot by
votes_by m cluster global view key ballot [] seen whole = record { after = global; whole = whole; marks = refl; stays = λ x stands. stands; marks_stay = λ mark stands. stands; votes = λ acceptor e. absurd (cc e) }
votes_by m cluster global view key ballot (one ∷ by) seen whole =
    let h : Happening = Marked (Voted one key ballot) in
    let first : IsVoteSeen global.log one key ballot = seen one (or_left (one == one) (has_member by one) (nat_is {a = one} refl)) in
    let history : HasHistory cluster (with_mark global h) = keeps cluster whole.meets global whole.history (SeesVote one key ballot first) in
    votes_more m cluster global view key ballot one by (votes_by m cluster (with_mark global h) view key ballot by
    (λ acceptor e. seen_later cluster h global.log acceptor key ballot history.lawful (seen acceptor (or_right (one == acceptor) (has_member by acceptor) e)))
    (whole_more m cluster global view h (λ p. tt) (λ a. tt) history whole))

-- ---- what is counted
pub record IsMarkedBy {S V : Type 0} (m : Meaning S V) (cluster : Cluster) (global : GlobalState) (view : View S V) (marks : List Mark) : Type 0 where
  pub after : GlobalState
  pub whole : Whole m cluster after view
  pub marks_are : marks_of after.log ≡ reverse marks ++ marks_of global.log

proposed_later : (log after : List Happening) (a : Acknowledgment) → ((x : Happening) → Stands x log → Stands x after) → ((mark : Mark) → Stands mark (marks_of log) → Stands mark (marks_of after))
    → IsProposedIn log a → IsProposedIn after a
proposed_later log after a stays marks_stay was = record {
  drawn = stays _ was.drawn;
  proposal = was.proposal;
  proposed = marks_stay _ was.proposed;
  same_key = was.same_key;
  same_ballot = was.same_ballot;
  same_era = was.same_era;
}

counts_by : {S V : Type 0} (m : Meaning S V) (cluster : Cluster) (global : GlobalState) (view : View S V) (key : List ℕ) (accepted : Accepted) (by : List ℕ)
    → MayBeCounted cluster global.log (acknowledgment_of key accepted by)
    → Whole m cluster global view → IsMarkedBy m cluster global view (marks_of_holders key accepted by)
counts_by {S} {V} m cluster global view key accepted by may whole = record {
  after = with_mark votes.after h;
  whole = whole_more m cluster votes.after view h (λ p. tt) (λ a. tt) history votes.whole;
  marks_are = ap (λ (l : List Mark). Acked a ∷ l) votes.marks
      ∙ sym (ap (λ (l : List Mark). l ++ marks_of global.log) (reverse-append (voted key accepted.ballot by) (Acked a ∷ [])));
}
  where
    a : Acknowledgment
    a = acknowledgment_of key accepted by

    h : Happening
    h = Marked (Acked a)

    votes : IsVotedBy m cluster global view key accepted.ballot by
    votes = votes_by m cluster global view key accepted.ballot by may.votes whole

    seen : HasVotesSeen cluster votes.after.log a
    seen = record {
      proposed = proposed_later global.log votes.after.log a votes.stays votes.marks_stay may.proposed;
      votes = votes.votes;
      quorum = may.quorum;
    }

    history : HasHistory cluster (with_mark votes.after h)
    history = keeps cluster votes.whole.meets votes.after votes.whole.history (CountsSeen a seen)

-- what members agree on is told to a read by each that holds it
pub told_ballot : (cluster : Cluster) (global : GlobalState) (exchange : ExchangeView) (key : List ℕ) (era : Era) (ballot : Ballot) → HasHistory cluster global
    → IsExchangeTrue cluster global.log exchange → exchange.question ≡ Probe key → exchange.reads ≡ Some era
    → (acceptor : ℕ) → has_member (holders_of ballot exchange.told) acceptor ≡ true → HasToldBallot global.log exchange.tag key ballot acceptor
told_ballot cluster global exchange key era ballot history is asks reads acceptor member =
    let it = holds ballot exchange.told acceptor member in
    record {
      accepted = it.accepted;
      probed = subst (λ (a : ℕ). WasProbed global.log exchange.tag key a it.accepted) it.same
          (was_probed cluster global exchange key era history is asks reads it.place it.one it.promise it.accepted it.at it.told);
      same_ballot = it.same_ballot;
    }

pub marks_read : {S V : Type 0} (m : Meaning S V) (cluster : Cluster) (global : GlobalState) (view : View S V) (exchange : ExchangeView) (key : List ℕ) (era : Era) (marks : List Mark)
    → IsExchangeTrue cluster global.log exchange → exchange.question ≡ Probe key
    → exchange.reads ≡ Some era → MarksRead era key exchange.told (marks_of global.log) marks → Whole m cluster global view → IsMarkedBy m cluster global view marks
marks_read {S} {V} m cluster global view exchange key era marks is asks reads (counted accepted agree above same) whole =
    let by : List ℕ = holders_of accepted.ballot exchange.told in
    let read = is.read key era asks reads in
    let may = count_read cluster global.log exchange.tag key by agree.one.acceptor accepted whole.history.lawful whole.history.orderly (λ p stands. whole.history.knows.drawn p stands)
    (told_ballot cluster global exchange key era accepted.ballot whole.history is asks reads)
    (was_probed cluster global exchange key era whole.history is asks reads agree.place agree.one agree.promise (Some accepted) agree.at agree.told)
    (subst (λ (e : ℕ). cluster.accepts e by ≡ true) (sym agree.in_era) (read.accepts by agree.agree.accepts)) above in
    subst (IsMarkedBy m cluster global view) (sym same) (counts_by m cluster global view key accepted by may.0 whole)
marks_read {S} {V} m cluster global view exchange key era marks is asks reads (nothing none same) whole =
    subst (IsMarkedBy m cluster global view) (sym same) (record { after = global; whole = whole; marks_are = refl })
