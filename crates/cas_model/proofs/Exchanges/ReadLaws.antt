-- What a read tells goes on from what was settled when it asked, and begins what is settled once it is gathered.
use Rattle.std.proofs.Common.{◌≡◌, ℕ, true, List, [], ◌∷◌, ◌++◌, length, Some, reverse, refl, sym, ap, subst, ◌∙◌, inl, inr, arith}
use Rattle.std.specs.Prelude.{map, take, if◌then◌else◌}
use Rattle.std.proofs.lemmas.List.{append-nil, reverse-append, reverse-reverse, length-reverse}
use Rattle.std.proofs.Math.Seq.{take-append_seam}
use Rattle.cas_ballot.specs.declared.ballot.Ballot.{Ballot}
use Rattle.cas_ballot.specs.Ballot.{zero_ballot, greater_of, BallotAtMost, BallotLess}
use Rattle.cas_ballot.specs.Members.{has_member}
use Rattle.cas_ballot.proofs.BallotLemmas.{at_most_or_less, none_below_zero}
use Rattle.cas_change.specs.declared.state.State.{State}
use Rattle.cas_quorum.specs.declared.era.Era.{Era}
use Rattle.cas_quorum.specs.Era.{holds_prep, holds_acc}
use Rattle.cas_slot.specs.declared.slot.Accepted.{Accepted}
use Rattle.cas_record.specs.declared.entry.Entry.{Entry}
use Rattle.cas_record.specs.declared.mark.Mark.{Mark}
use Rattle.cas_record.specs.declared.mark.Mark.TheVariants.{Voted, Acked}
use Rattle.cas_record.specs.declared.operator.Probe.{Probe as Answered}
use Rattle.cas_record.specs.Histories.Chain.{is_key, chain_of, top_of, settled_of}
use Rattle.cas_record.specs.Histories.Replay.{replay_from, opening_state}
use Rattle.cas_record.specs.Logs.Happening.{Happening, marks_of}
use Rattle.cas_record.specs.Logs.Lawful.{Cluster, ClusterMeets}
use Rattle.cas_record.specs.Places.{IsOlderPart, IsPrefix, whole, later as older_by}
use Rattle.cas_record.proofs.Logs.Listings.{marks_part}
use Rattle.cas_record.proofs.PlaceLemmas.{part_at, prefix_same}
use Rattle.cas_protocol.specs.Protocol.{GlobalState, HasHistory}
use Rattle.cas_protocol.specs.Reads.{HasToldBallot, IsQuorumRead, AreFloorsKnown, WasEmptySince, acknowledgment_of}
use Rattle.cas_protocol.specs.Proposers.{WasProbed}
use Rattle.cas_protocol.proofs.CountedReads.{stand, count_read}
use Rattle.cas_protocol.proofs.EmptyReads.{empty_since}
use Rattle.cas_protocol.proofs.QuorumReads as reads
use Rattle.cas_model.specs.Council.{Probe, ExchangeView}
use Rattle.cas_model.specs.Exchanges.Read.{holders_of, AgreeAt, AgreeOn, marks_of_holders, MarksRead, counted, nothing}
use Rattle.cas_model.specs.Exchanges.ReadLaws.{IsReadGathered, marks_before, IsReadSo, WasEmptyOnce, ReadsAreSo, ReadsOfNothingAreSo}
use Rattle.cas_model.specs.Exchanges.Step as council
use Rattle.cas_model.specs.Exchanges.Step.{Gathers}
use Rattle.cas_model.specs.History.{IsLogged}
use Rattle.cas_model.specs.Parties.{IsReadTrue, IsExchangeTrue}
use Rattle.cas_model.specs.View.{Meaning, View}
use Rattle.cas_model.proofs.Exchanges.Reads.{was_probed, told_ballot, holds_one, reverse_first}
use Rattle.cas_model.proofs.Places.{some_is}

-- ---- the marks before it asked
record Behind {A : Type 0} (part all : List A) : Type 0 where
  front : List A
  joins : all ≡ front ++ part

behind : {A : Type 0} {part all : List A} → IsOlderPart part all → Behind part all
behind whole = record { front = []; joins = refl }
behind (older_by {y = y} part) = let rest = behind part in record { front = y ∷ rest.front; joins = ap (λ l. y ∷ l) rest.joins }

part_is : {A : Type 0} (part xs : List A) → IsOlderPart part (reverse xs) → part ≡ reverse (take (length part) xs)
part_is part xs older =
    let is = behind older in
    let forth : xs ≡ reverse part ++ reverse is.front = sym (reverse-reverse xs) ∙ ap (λ l. reverse l) is.joins ∙ reverse-append is.front part in
    let taken : take (length part) xs ≡ reverse part =
    ap (λ l. take (length part) l) forth ∙ ap (λ n. take n (reverse part ++ reverse is.front)) (sym (length-reverse part)) ∙ take-append_seam (reverse part) (reverse is.front) in
    sym (ap (λ l. reverse l) taken ∙ reverse-reverse part)

-- ---- what votes and an acknowledgment leave as it was
abbrev voted : List ℕ → Ballot → List ℕ → List Mark
voted key ballot by = map (λ acceptor. Voted acceptor key ballot) by

chain_still : (key k : List ℕ) (ballot b : Ballot) (by : List ℕ) (marks : List Mark) → chain_of k b (reverse (voted key ballot by) ++ marks) ≡ chain_of k b marks
chain_still key k ballot b [] marks = refl
chain_still key k ballot b (one ∷ by) marks = ap (chain_of k b) (reverse_first (Voted one key ballot) (voted key ballot by) marks) ∙ chain_still key k ballot b by (Voted one key ballot ∷ marks)

top_still : (key k : List ℕ) (ballot : Ballot) (by : List ℕ) (marks : List Mark) → top_of k (reverse (voted key ballot by) ++ marks) ≡ top_of k marks
top_still key k ballot [] marks = refl
top_still key k ballot (one ∷ by) marks = ap (top_of k) (reverse_first (Voted one key ballot) (voted key ballot by) marks) ∙ top_still key k ballot by (Voted one key ballot ∷ marks)

opening_still : (key k : List ℕ) (ballot : Ballot) (by : List ℕ) (marks : List Mark) → opening_state k (reverse (voted key ballot by) ++ marks) ≡ opening_state k marks
opening_still key k ballot [] marks = refl
opening_still key k ballot (one ∷ by) marks = ap (opening_state k) (reverse_first (Voted one key ballot) (voted key ballot by) marks) ∙ opening_still key k ballot by (Voted one key ballot ∷ marks)

-- the marks of those that hold what is read
holders_first : (key : List ℕ) (accepted : Accepted) (by : List ℕ) (marks : List Mark)
    → reverse (marks_of_holders key accepted by) ++ marks ≡ Acked (acknowledgment_of key accepted by) ∷ (reverse (voted key accepted.ballot by) ++ marks)
holders_first key accepted by marks = ap (λ (l : List Mark). l ++ marks) (reverse-append (voted key accepted.ballot by) (Acked (acknowledgment_of key accepted by) ∷ []))

-- what the acknowledgment settles is settled behind the votes, too
settled_still : (key : List ℕ) (accepted : Accepted) (by : List ℕ) (marks : List Mark)
    → settled_of key (Acked (acknowledgment_of key accepted by) ∷ (reverse (voted key accepted.ballot by) ++ marks)) ≡ settled_of key (Acked (acknowledgment_of key accepted by) ∷ marks)
settled_still key accepted by marks =
    let then_ : List Mark = reverse (voted key accepted.ballot by) ++ marks in
    ap (λ (b : Ballot). chain_of key (if is_key key key then greater_of accepted.ballot b else b) then_) (top_still key key accepted.ballot by marks)
    ∙ chain_still key key accepted.ballot (if is_key key key then greater_of accepted.ballot (top_of key marks) else top_of key marks) by marks

-- ---- what they agree on is one ballot
agree_one : (cluster : Cluster) (era : Era) (found : List Answered) (a b : Ballot) → ClusterMeets cluster → ((by : List ℕ) → holds_prep era by ≡ true → cluster.prepares era.number by ≡ true)
    → ((by : List ℕ) → holds_acc era by ≡ true → cluster.accepts era.number by ≡ true)
    → AgreeAt era found a → AgreeAt era found b → a ≡ b
agree_one cluster era found a b meets prepares accepts of_a of_b =
    let shared =
    meets era.number era.number (omega arith) (omega arith) (holders_of a found) (holders_of b found) (prepares (holders_of a found) of_a.prepares) (accepts (holders_of b found) of_b.accepts) in
    holds_one a b found shared.acceptor shared.left shared.right

-- ---- a read that is gathered
-- its marks are made behind those that stand
record IsMarkedBehind {S V : Type 0} (old : View S V) (exchange : ExchangeView) (key : List ℕ) (era : Era) (new : View S V) : Type 0 where
  marks : List Mark
  are : MarksRead era key exchange.told (reverse old.marks) marks
  behind_all : new.marks ≡ old.marks ++ marks

marked_behind : {S V : Type 0} (old : View S V) (exchange : ExchangeView) (key : List ℕ) (era : Era) (new : View S V) → IsReadGathered old exchange key era new
    → IsMarkedBehind old exchange key era new
marked_behind {S} {V} old exchange key era new is = by_case is.step.gathers
  where
    its : ExchangeView
    its = is.step.at.exchange

    same : its ≡ exchange
    same = some_is (sym is.step.at.is_open ∙ is.is_open)

    asks : its.question ≡ Probe key
    asks = ap (λ (e : ExchangeView). e.question) same ∙ is.asks

    reads_era : its.reads ≡ Some era
    reads_era = ap (λ (e : ExchangeView). e.reads) same ∙ is.reads

    one_key : {a b : List ℕ} → Probe a ≡ Probe b → a ≡ b
    one_key e = cc e

    by_case : Gathers old its new → IsMarkedBehind old exchange key era new
    by_case (council.crashed crashed view) = absurd (cc (crashed, ap (λ (e : ExchangeView). e.crashed) same, is.up))
    by_case (council.probed k found up question plain keeps view) = absurd (cc (plain, reads_era))
    by_case (council.read k e found marks up question reads keeps counts view) = record {
      marks = marks;
      are = subst (λ (x : ExchangeView). MarksRead era key x.told (reverse old.marks) marks) same
          (subst (λ (x : Era). MarksRead x key its.told (reverse old.marks) marks) (some_is (sym reads ∙ reads_era))
          (subst (λ (x : List ℕ). MarksRead e x its.told (reverse old.marks) marks) (one_key (sym question ∙ asks)) counts));
      behind_all = ap (λ (v : View S V). v.marks) view;
    }
    by_case (council.lists of listing up enough on view) = absurd (cc (of.question, asks))
    by_case (council.is_short of short up missing view) = absurd (cc (of.question, asks))
    by_case (council.no_memory up view) = absurd (cc (is.step.at.is_open, ap (λ (v : View S V). v.council.exchange) view, is.over))

-- ---- what is known of it in the log
quorum_read : (cluster : Cluster) (global : GlobalState) (exchange : ExchangeView) (key : List ℕ) (era : Era) (ballot : Ballot) → HasHistory cluster global
    → (is : IsExchangeTrue cluster global.log exchange) → (asks : exchange.question ≡ Probe key) → (reads_era : exchange.reads ≡ Some era)
    → AgreeAt era exchange.told ballot → IsQuorumRead cluster (is.read key era asks reads_era).older global.log exchange.tag key ballot (holders_of ballot exchange.told)
quorum_read cluster global exchange key era ballot history is asks reads_era agree =
    let read = is.read key era asks reads_era in
    record {
      era = era.number;
      drawn = read.drawn;
      not_beyond = read.not_beyond;
      quorum = read.prepares (holders_of ballot exchange.told) agree.prepares;
      told = told_ballot cluster global exchange key era ballot history is asks reads_era;
    }

-- the marks before it asked are those of the log then
before_is : (cluster : Cluster) (log : List Happening) (exchange : ExchangeView) (key : List ℕ) (era : Era) (marks : List Mark) → marks_of log ≡ reverse marks
    → (read : IsReadTrue cluster log exchange.tag exchange.since key era) → marks_of read.older ≡ reverse (take exchange.since marks)
before_is cluster log exchange key era marks are read =
    part_is (marks_of read.older) marks (subst (IsOlderPart (marks_of read.older)) are (marks_part (part_at read.drawn))) ∙ ap (λ (n : ℕ). reverse (take n marks)) read.behind

-- behind votes and the acknowledgment the history up to a ballot is what it was
record IsStill (older now : List Mark) (key : List ℕ) : Type 0 where
  chain : (b : Ballot) → chain_of key b now ≡ chain_of key b older
  opening : opening_state key now ≡ opening_state key older

still : (era : Era) (key : List ℕ) (found : List Answered) (older marks : List Mark) → MarksRead era key found older marks → IsStill older (reverse marks ++ older) key
still era key found older marks (nothing none is) = subst (λ (l : List Mark). IsStill older (reverse l ++ older) key) (sym is) (record { chain = λ b. refl; opening = refl })
still era key found older marks (counted accepted agree above is) =
    let by : List ℕ = holders_of accepted.ballot found in
    subst (λ (l : List Mark). IsStill older (reverse l ++ older) key) (sym is) (subst (λ (l : List Mark). IsStill older l key) (sym (holders_first key accepted by older))
    (record { chain = λ b. chain_still key key accepted.ballot b by older; opening = opening_still key key accepted.ballot by older }))

-- ---- the laws
pub reads_are_so : {S V : Type 0} (m : Meaning S V) → ReadsAreSo m
reads_are_so {S} {V} m old new exchange key era accepted is gathered agree =
    subst (λ (l : List Mark). IsReadSo (marks_before old exchange) l key accepted) (sym now_is) (record {
      state =
          went.1 ∙ ap (λ (x : State). replay_from x (chain_of key accepted.ballot older)) (sym as_it_was.opening)
          ∙ ap (λ (l : List Entry). replay_from (opening_state key now) l) (sym (as_it_was.chain accepted.ballot));
      goes_on = subst (λ (l : List Mark). IsPrefix (settled_of key l) (chain_of key accepted.ballot now)) (before_is cluster log exchange key era old.marks logged.agrees.marks read)
          (subst (λ (l : List Entry). IsPrefix (settled_of key (marks_of read.older)) l) (sym (as_it_was.chain accepted.ballot)) went.0);
      begins = subst (λ (l : List Entry). IsPrefix l (settled_of key now)) (sym (as_it_was.chain accepted.ballot)) (begins made.marks made.are);
    })
  where
    cluster : Cluster
    cluster = is.followed.cluster

    logged : IsLogged m cluster old
    logged = is.followed.logged

    global : GlobalState
    global = logged.global

    log : List Happening
    log = global.log

    older : List Mark
    older = reverse old.marks

    exchange_true : IsExchangeTrue cluster log exchange
    exchange_true = logged.agrees.council.0 exchange gathered.is_open

    read : IsReadTrue cluster log exchange.tag exchange.since key era
    read = exchange_true.read key era gathered.asks gathered.reads

    made : IsMarkedBehind old exchange key era new
    made = marked_behind old exchange key era new gathered

    now : List Mark
    now = reverse made.marks ++ older

    now_is : reverse new.marks ≡ now
    now_is = ap (λ (l : List Mark). reverse l) made.behind_all ∙ reverse-append old.marks made.marks

    as_it_was : IsStill older now key
    as_it_was = still era key exchange.told older made.marks made.are

    probed : (x : Accepted) → (its : AgreeOn era exchange.told x) → WasProbed log exchange.tag key its.one.acceptor (Some x)
    probed x its = was_probed cluster global exchange key era logged.history exchange_true gathered.asks gathered.reads its.place its.one its.promise (Some x) its.at its.told

    told : (x : Accepted) (acceptor : ℕ) → has_member (holders_of x.ballot exchange.told) acceptor ≡ true → HasToldBallot log exchange.tag key x.ballot acceptor
    told x = told_ballot cluster global exchange key era x.ballot logged.history exchange_true gathered.asks gathered.reads

    quorum : (x : Accepted) → AgreeOn era exchange.told x → cluster.accepts x.era (holders_of x.ballot exchange.told) ≡ true
    quorum x its = subst (λ (e : ℕ). cluster.accepts e (holders_of x.ballot exchange.told) ≡ true) (sym its.in_era) (read.accepts (holders_of x.ballot exchange.told) its.agree.accepts)

    went : IsPrefix (settled_of key (marks_of read.older)) (chain_of key accepted.ballot older) × (accepted.state ≡ replay_from (opening_state key older) (chain_of key accepted.ballot older))
    went = subst (λ (l : List Mark). IsPrefix (settled_of key (marks_of read.older)) (chain_of key accepted.ballot l) × (accepted.state ≡ replay_from (opening_state key l) (chain_of key accepted.ballot l))) logged.agrees.marks
        (reads.goes_on cluster logged.meets read.older log exchange.tag key (holders_of accepted.ballot exchange.told) agree.one.acceptor accepted logged.history.lawful logged.history.orderly read.floors
        (quorum_read cluster global exchange key era accepted.ballot logged.history exchange_true gathered.asks gathered.reads agree.agree) (probed accepted agree))

    stands : BallotAtMost accepted.ballot (top_of key older) → IsPrefix (chain_of key accepted.ballot older) (settled_of key older)
    stands low = subst (λ (l : List Mark). IsPrefix (chain_of key accepted.ballot l) (settled_of key l)) logged.agrees.marks
        (stand cluster logged.meets log log exchange.tag key (holders_of accepted.ballot exchange.told) agree.one.acceptor accepted logged.history.orderly logged.history.lawful whole (told accepted) (probed accepted agree) (quorum accepted agree)
        (subst (λ (l : List Mark). BallotAtMost accepted.ballot (top_of key l)) (sym logged.agrees.marks) low))

    counts : (x : Accepted) → AgreeOn era exchange.told x → BallotLess (top_of key older) x.ballot
        → settled_of key (Acked (acknowledgment_of key x (holders_of x.ballot exchange.told)) ∷ older) ≡ chain_of key x.ballot older
    counts x its above = subst (λ (l : List Mark). settled_of key (Acked (acknowledgment_of key x (holders_of x.ballot exchange.told)) ∷ l) ≡ chain_of key x.ballot l) logged.agrees.marks
        (count_read cluster log exchange.tag key (holders_of x.ballot exchange.told) its.one.acceptor x logged.history.lawful logged.history.orderly (λ p stood. logged.history.knows.drawn p stood) (told x) (probed x its) (quorum x its)
        (subst (λ (l : List Mark). BallotLess (top_of key l) x.ballot) (sym logged.agrees.marks) above)).1

    begins : (marks : List Mark) → MarksRead era key exchange.told older marks → IsPrefix (chain_of key accepted.ballot older) (settled_of key (reverse marks ++ older))
    begins marks (nothing none same) =
        subst (λ (l : List Mark). IsPrefix (chain_of key accepted.ballot older) (settled_of key (reverse l ++ older))) (sym same) (elim (at_most_or_less accepted.ballot (top_of key older)) [
          | inl low ↦ stands low
          | inr above ↦ absurd (none accepted agree above)
        ])
    begins marks (counted other its above same) =
        let by : List ℕ = holders_of other.ballot exchange.told in
        let one : accepted.ballot ≡ other.ballot = agree_one cluster era exchange.told accepted.ballot other.ballot logged.meets read.prepares read.accepts agree.agree its.agree in
        prefix_same (ap (λ (b : Ballot). chain_of key b older) one ∙ sym (counts other its above) ∙ sym (settled_still key other by older)
        ∙ ap (settled_of key) (sym (holders_first key other by older)) ∙ ap (λ (l : List Mark). settled_of key (reverse l ++ older)) (sym same))

pub reads_of_nothing_are_so : {S V : Type 0} (m : Meaning S V) → ReadsOfNothingAreSo m
reads_of_nothing_are_so {S} {V} m old new exchange key era is gathered agree = (
  marks_same,
  subst (λ (l : List Mark). WasEmptyOnce (marks_before old exchange) l key) (sym (ap (λ (l : List Mark). reverse l) marks_same))
      (subst (λ (l : List Mark). WasEmptyOnce (marks_before old exchange) l key) logged.agrees.marks
      (subst (λ (l : List Mark). WasEmptyOnce l (marks_of log) key) (before_is cluster log exchange key era old.marks logged.agrees.marks read) empty)),
)
  where
    cluster : Cluster
    cluster = is.followed.cluster

    logged : IsLogged m cluster old
    logged = is.followed.logged

    log : List Happening
    log = logged.global.log

    exchange_true : IsExchangeTrue cluster log exchange
    exchange_true = logged.agrees.council.0 exchange gathered.is_open

    read : IsReadTrue cluster log exchange.tag exchange.since key era
    read = exchange_true.read key era gathered.asks gathered.reads

    made : IsMarkedBehind old exchange key era new
    made = marked_behind old exchange key era new gathered

    none_marked : (marks : List Mark) → MarksRead era key exchange.told (reverse old.marks) marks → marks ≡ []
    none_marked marks (nothing none same) = same
    none_marked marks (counted other its above same) =
        let one : other.ballot ≡ zero_ballot = agree_one cluster era exchange.told other.ballot zero_ballot logged.meets read.prepares read.accepts its.agree agree in
        absurd (none_below_zero (subst (BallotLess (top_of key (reverse old.marks))) one above))

    marks_same : new.marks ≡ old.marks
    marks_same = made.behind_all ∙ ap (λ (l : List Mark). old.marks ++ l) (none_marked made.marks made.are) ∙ append-nil old.marks

    by : List ℕ
    by = holders_of zero_ballot exchange.told

    quorum : IsQuorumRead cluster read.older log exchange.tag key zero_ballot by
    quorum = quorum_read cluster logged.global exchange key era zero_ballot logged.history exchange_true gathered.asks gathered.reads agree

    known : AreFloorsKnown cluster log key
    known = record { empty = λ floor has. logged.history.knows.floors key floor has; clear = λ floor has. logged.history.knows.clear key floor has }

    since : WasEmptySince read.older log key
    since = empty_since cluster logged.meets read.older log exchange.tag key by logged.history.lawful logged.history.orderly read.floors known quorum

    empty : WasEmptyOnce (marks_of read.older) (marks_of log) key
    empty = record {
      ballot = since.ballot;
      goes_on = since.goes_on;
      begins = since.begins;
      empty = since.empty;
      at_first = λ floors. reads.nothing_read cluster logged.meets read.older log exchange.tag key by logged.history.lawful logged.history.orderly read.floors floors quorum;
    }
