-- What a key held before a read that found nothing of it.
use Rattle.std.proofs.Common.{◌≡◌, ◌≤◌, ℕ, true, List, [], ◌∷◌, length, arith, refl, sym, ap, subst, ◌∙◌, inl, inr}
use Rattle.std.specs.Prelude.{◌⊎◌, ◌&&◌, not}
use Rattle.cas_base.proofs.Bools.{true_or_false, if_false}
use Rattle.cas_ballot.specs.declared.ballot.Ballot.{Ballot}
use Rattle.cas_ballot.specs.Ballot.{zero_ballot, BallotAtMost}
use Rattle.cas_ballot.specs.Members.{has_member}
use Rattle.cas_ballot.proofs.BallotLemmas.{at_most_trans, at_most_antisym, zero_at_most}
use Rattle.cas_change.specs.declared.state.State.{State}
use Rattle.cas_record.specs.declared.entry.Entry.{Entry}
use Rattle.cas_record.specs.declared.mark.Mark.{Mark}
use Rattle.cas_record.specs.declared.mark.Mark.TheVariants.{Floor}
use Rattle.cas_record.specs.Histories.Chain.{is_key, chain_of, top_of, settled_of}
use Rattle.cas_record.specs.Histories.Chain.{has_calls}
use Rattle.cas_record.specs.Histories.Replay.{replay_from, opening_state}
use Rattle.cas_record.specs.Legal.{HasFloor}
use Rattle.cas_record.specs.Logs.Happening.{Happening, Took, marks_of}
use Rattle.cas_record.specs.Logs.Lawful.{Cluster, ClusterMeets, Lawful}
use Rattle.cas_record.specs.Logs.Orderly.{Orderly, MayDraw}
use Rattle.cas_record.specs.Places.{At, Stands, IsOlderPart, here, past, whole, later}
use Rattle.cas_record.proofs.Histories.Chains.{chain_zero, top_later}
use Rattle.cas_record.proofs.LegalLemmas.{LogPart, part_in_log, part_cases, all_of, behind, lawful_part}
use Rattle.cas_record.proofs.Logs.Agreement.{Settles, by_ack, by_opening, settles_top, settles_begins}
use Rattle.cas_record.proofs.Logs.Lemmas.{lawful_older, mark_stands, part_of, chain_whole}
use Rattle.cas_record.proofs.Logs.Orders.{reason}
use Rattle.cas_record.proofs.PlaceLemmas.{stands_at, stands_part, part_part, at_part}
use Rattle.cas_record.proofs.Tests.{key_same}
use Rattle.cas_protocol.specs.Reads.{AreFloorsKnown, IsQuorumRead}
use Rattle.cas_protocol.proofs.QuorumReads.{RemovedAt, Reached, by_member, by_floor, acked_some, floor_low, nothing_read, reached, removed_at, told_after}
use Rattle.cas_model.specs.Exchanges.Read.{holders_of}
use Rattle.cas_model.specs.History.{IsLogged}
use Rattle.cas_model.specs.Parties.{IsExchangeTrue, IsReadTrue}
use Rattle.cas_model.specs.View.{Meaning}
use Rattle.cas_model.proofs.Exchanges.Reads.{told_ballot}
use Rattle.cas_agreement.specs.Nothing.{HasNoFloorSince, IsSettledEmpty, ReadsOfNothingFindNothing}

-- ---- older parts
-- what stands in a list stands in its older part, or behind it
at_or_since : {A : Type 0} {x : A} {older part all : List A} → At x older all → IsOlderPart part all → At x older part ⊎ IsOlderPart part older
at_or_since at whole = inl at
at_or_since here (later q) = inr q
at_or_since (past at) (later q) = at_or_since at q

pub part_shorter : {A : Type 0} {part all : List A} → IsOlderPart part all → length part ≤ length all
part_shorter whole = omega arith
part_shorter (later q) = omega (arith, part_shorter q)

-- the shorter of two is an older part of the longer
part_of_longer : {A : Type 0} {a b all : List A} → IsOlderPart a all → IsOlderPart b all → length a ≤ length b → IsOlderPart a b
part_of_longer a whole few = a
part_of_longer whole (later q) few = absurd (omega (arith, part_shorter q, few))
part_of_longer (later p) (later q) few = part_of_longer p q few

-- ---- floors
mark_opens : (key : List ℕ) (mark : Mark) (older : List Mark) → ((floor : Ballot) (state : State) → mark ≡ Floor key floor state → ⊥) → opening_state key (mark ∷ older) ≡ opening_state key older
mark_opens key (Floor k floor state) older none = elim (true_or_false (is_key k key)) [
  | inl same ↦ absurd (none floor state (ap (λ l. Floor l floor state) (key_same same)))
  | inr other ↦ if_false (is_key k key && not (has_calls older)) state (opening_state key older) (ap (λ b. b && not (has_calls older)) other)
]
mark_opens key mark older none = refl

-- with no floor since, a history opens as it did
opens_same : (key : List ℕ) {part all : List Mark} → IsOlderPart part all → HasNoFloorSince key part all → opening_state key all ≡ opening_state key part
opens_same key whole none = refl
opens_same key {part = part} (later {y = mark} {rest = rest} q) none =
    mark_opens key mark rest (λ floor state is. none floor state rest (subst (λ m. At m rest (mark ∷ rest)) is here) q)
    ∙ opens_same key q (λ floor state older at behind. none floor state older (past at) behind)

-- ---- in a log
found_nothing : (cluster : Cluster) → ClusterMeets cluster → (before log : List Happening) (key by : List ℕ) (part : List Mark) (tag : Ballot) → Lawful cluster log → Orderly cluster log → AreFloorsKnown cluster before key
    → IsQuorumRead cluster before log tag key zero_ballot by → IsOlderPart part (marks_of before) → HasNoFloorSince key part (marks_of log) → IsSettledEmpty key part
found_nothing cluster meets before log key by part tag lawful orderly floors read older none =
    ap (λ (xs : List Entry). replay_from (opening_state key part) xs) settled
    ∙ ap (λ (o : State). replay_from o (settled_of key marks)) (sym (opens_same key older (λ floor state behind at since. none floor state behind (at_part at in_all) since)))
    ∙ nothing_read cluster meets before log tag key by lawful orderly floors (λ floor has. in_before (in_part has)) read
  where
    marks : List Mark
    marks = marks_of before

    there : Lawful cluster before
    there = lawful_older cluster lawful read.drawn

    drew : MayDraw cluster before tag [] read.era
    drew = reason cluster orderly read.drawn

    in_all : IsOlderPart marks (marks_of log)
    in_all = part_of read.drawn

    -- each floor was made by then
    in_part : {floor : Ballot} → HasFloor key floor (marks_of log) → HasFloor key floor part
    in_part {floor} has = elim (at_or_since has.stands.at (part_part older in_all)) [
      | inl at ↦ record { state = has.state; stands = stands_at at }
      | inr since ↦ absurd (none floor has.state has.stands.older has.stands.at since)
    ]

    in_before : {floor : Ballot} → HasFloor key floor part → HasFloor key floor marks
    in_before has = record { state = has.state; stands = stands_part has.stands older }

    in_log_too : {floor : Ballot} → HasFloor key floor marks → HasFloor key floor (marks_of log)
    in_log_too has = record { state = has.state; stands = stands_part has.stands in_all }

    -- what is settled last is a floor
    at_top : {floor : Ballot} → HasFloor key floor marks → BallotAtMost (top_of key marks) floor → HasFloor key (top_of key marks) marks
    at_top has high = subst (λ b. HasFloor key b marks) (at_most_antisym (floor_low has.stands.at) high) has

    removed : {acceptor : ℕ} {taken ride : Ballot} → has_member by acceptor ≡ true → Stands (Took acceptor key taken ride) before → (taken ≡ zero_ballot → ⊥) → RemovedAt cluster log key taken
    removed {acceptor} member took some =
        let told = read.told acceptor member in
        removed_at cluster lawful orderly (told_after cluster orderly read.drawn told.probed told.same_ballot) took some

    floored : (top_of key marks ≡ zero_ballot → ⊥) → Reached before key by (top_of key marks) → HasFloor key (top_of key marks) marks
    floored some (by_member acceptor taken ride member took high) =
        let gone = removed member took (λ zero. some (at_most_antisym (subst (BallotAtMost (top_of key marks)) zero high) (zero_at_most (top_of key marks)))) in
        at_top (in_before (in_part gone.has)) (at_most_trans high gone.above)
    floored some (by_floor floor has high) = at_top has high

    top_floor : (top_of key marks ≡ zero_ballot) ⊎ Settles key (top_of key marks) before → (top_of key marks ≡ zero_ballot) ⊎ HasFloor key (top_of key marks) marks
    top_floor (inl zero) = inl zero
    top_floor (inr (by_ack a)) = inr (floored (acked_some cluster there a) (reached cluster meets there drew.known drew.is_in read.not_beyond read.quorum a))
    top_floor (inr (by_opening o)) = inr (record { state = o.state; stands = mark_stands (stands_at o.at) })

    -- and it was settled by then
    same_top : top_of key part ≡ top_of key marks
    same_top = elim (top_floor (settles_top cluster before key there)) [
      | inl zero ↦ at_most_antisym (top_later older key) (subst (λ b. BallotAtMost b (top_of key part)) (sym zero) (zero_at_most (top_of key part)))
      | inr has ↦ let made = in_part (in_log_too has) in at_most_antisym (top_later older key) (floor_low made.stands.at)
    ]

    then_ : LogPart part before
    then_ = part_in_log before older

    lawful_then : Lawful cluster then_.older
    lawful_then = lawful_part cluster there then_.is_part

    top_then : top_of key (marks_of then_.older) ≡ top_of key marks
    top_then = ap (top_of key) (sym then_.is) ∙ same_top

    settled_then : (top_of key (marks_of then_.older) ≡ zero_ballot) ⊎ Settles key (top_of key (marks_of then_.older)) then_.older → settled_of key (marks_of then_.older) ≡ settled_of key marks
    settled_then (inl zero) =
        ap (λ b. chain_of key b (marks_of then_.older)) zero ∙ chain_zero key (marks_of then_.older)
        ∙ sym (ap (λ b. chain_of key b marks) (sym top_then ∙ zero) ∙ chain_zero key marks)
    settled_then (inr settles) = elim (part_cases then_.is_part) [
      | all_of same ↦ ap (λ l. settled_of key (marks_of l)) same
      | behind at ↦ chain_whole cluster there at (settles_begins cluster lawful_then settles) ∙ ap (λ b. chain_of key b marks) top_then
    ]

    settled : settled_of key part ≡ settled_of key marks
    settled = ap (settled_of key) then_.is ∙ settled_then (settles_top cluster then_.older key lawful_then)

-- ---- in the model
pub reads_find_nothing : {S V : Type 0} (m : Meaning S V) → ReadsOfNothingFindNothing m
reads_find_nothing m old new exchange key era part is gathered agree older few none =
    found_nothing cluster logged.meets read.older log key (holders_of zero_ballot exchange.told) part exchange.tag logged.history.lawful logged.history.orderly read.floors asked
    (part_of_longer (subst (IsOlderPart part) (sym logged.agrees.marks) older) (part_of read.drawn) (omega (arith, few, read.behind)))
    (subst (HasNoFloorSince key part) (sym logged.agrees.marks) none)
  where
    cluster : Cluster
    cluster = is.followed.cluster

    logged : IsLogged m cluster old
    logged = is.followed.logged

    log : List Happening
    log = logged.global.log

    exchange_true : IsExchangeTrue cluster log exchange
    exchange_true = logged.agrees.council.0 exchange gathered.is_open

    read : IsReadTrue cluster log exchange.tag exchange.since key era
    read = exchange_true.read key era gathered.asks gathered.reads

    asked : IsQuorumRead cluster read.older log exchange.tag key zero_ballot (holders_of zero_ballot exchange.told)
    asked = record {
      era = era.number;
      drawn = read.drawn;
      not_beyond = read.not_beyond;
      quorum = read.prepares (holders_of zero_ballot exchange.told) agree.prepares;
      told = told_ballot cluster logged.global exchange key era zero_ballot logged.history exchange_true gathered.asks gathered.reads;
    }
