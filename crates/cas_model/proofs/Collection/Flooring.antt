-- What is known of the parties stays known as a tombstone becomes the floor of its key, once all proposers are renewed.
use Rattle.std.proofs.Common.{◌≡◌, ◌≤◌, ℕ, List, ◌∷◌, Option, None, Some, refl, sym, subst, inl, inr}
use Rattle.std.specs.Prelude.{◌⊎◌, Contains}
use Rattle.cas_ballot.specs.declared.ballot.Ballot.{Ballot}
use Rattle.cas_ballot.specs.Ballot.{BallotAtMost, BallotLess}
use Rattle.cas_cache.specs.declared.ready.Ready.{Ready}
use Rattle.cas_change.specs.declared.state.State.{State}
use Rattle.cas_change.specs.declared.state.State.TheVariants.{Empty}
use Rattle.cas_flow.specs.Flow.{queue_at}
use Rattle.cas_flow.specs.declared.message.Message.{Message}
use Rattle.cas_proposer.specs.Desk.{DeskView}
use Rattle.cas_proposer.specs.declared.round.Round.{Round}
use Rattle.cas_vault.specs.declared.vault.Vault.{Vault}
use Rattle.cas_vault.specs.Vault.{IsPast}
use Rattle.cas_record.specs.declared.mark.Mark.TheVariants.{Floor}
use Rattle.cas_record.specs.Logs.Happening.{Happening, Marked, marks_of}
use Rattle.cas_record.specs.Logs.Lawful.{Cluster}
use Rattle.cas_record.specs.Legal.{HasFloor}
use Rattle.cas_record.specs.Logs.Orderly.{IsAboveFloors}
use Rattle.cas_record.proofs.PlaceLemmas.{newest_or}
use Rattle.cas_model.specs.Collection.Logged.{IsRenewed}
use Rattle.cas_model.specs.Eras.Listed.{IsCouncilTrue}
use Rattle.cas_model.specs.Parties.{IsInHand, IsHeldReady, IsPrepareTrue, IsAcceptTrue, IsOpenTrue, IsVaultTrue, IsDeskTrue}
use Rattle.cas_protocol.specs.Protocol.{Made, GlobalState, HasHistory, with_mark}
use Rattle.cas_model.specs.View.{Meaning, View, CallView, CallerView, IsAt, era_at}
use Rattle.cas_model.proofs.Around.{Whole}
use Rattle.cas_model.proofs.Others.{later, all_still, replies_still, messages_still, caller_still, acceptor_still}
use Rattle.cas_protocol.proofs.Events.{mark_now}

-- ---- the floor
abbrev pub floor_mark : List ℕ → Ballot → Happening
floor_mark key tomb = Marked (Floor key tomb Empty)

floor_is : {k key : List ℕ} {floor tomb : Ballot} {state : State} → Floor k floor state ≡ Floor key tomb Empty → (k ≡ key) × (floor ≡ tomb)
floor_is same = (cc same, cc same)

-- a floor that stands then is this one, or stood before
floor_or : (log : List Happening) (key : List ℕ) (tomb : Ballot) {k : List ℕ} {floor : Ballot} → HasFloor k floor (marks_of (floor_mark key tomb ∷ log)) → ((k ≡ key) × (floor ≡ tomb)) ⊎ HasFloor k floor (marks_of log)
floor_or log key tomb has = elim (newest_or has.stands) [
  | inl now ↦ inl (floor_is now)
  | inr before ↦ inr (record { state = has.state; stands = before })
]

-- ---- ballots
above_floored : (log : List Happening) (key : List ℕ) (tomb : Ballot) {k : List ℕ} {ballot : Ballot} → (k ≡ key → BallotLess tomb ballot) → IsAboveFloors (marks_of log) k ballot → IsAboveFloors (marks_of (floor_mark key tomb ∷ log)) k ballot
above_floored log key tomb {k} {ballot} less was = record {
  above = λ {floor} {state} stands. elim (newest_or stands) [
    | inl now ↦ let is = floor_is now in subst (λ (b : Ballot). BallotLess b ballot) (sym is.1) (less is.0)
    | inr before ↦ was.above before
  ];
}

hand_floored : (log : List Happening) (key : List ℕ) (tomb : Ballot) {id era : ℕ} {k : List ℕ} {ballot : Ballot} → (k ≡ key → BallotLess tomb ballot) → IsInHand log id era k ballot → IsInHand (floor_mark key tomb ∷ log) id era k ballot
hand_floored log key tomb less was = record {
  own = was.own;
  drawn = later was.drawn;
  fresh = λ has. elim (mark_now (floor_mark key tomb) log has.stands) [
    | inl now ↦ absurd (cc now)
    | inr before ↦ was.fresh (record { proposal = has.proposal; stands = before; same_key = has.same_key; same_ballot = has.same_ballot })
  ];
  above_floors = above_floored log key tomb less was.above_floors;
}

ready_floored : (cluster : Cluster) (log : List Happening) (all : List Made) (key : List ℕ) (tomb : Ballot) {id era : ℕ} {k : List ℕ} {ready : Ready} → (k ≡ key → BallotLess tomb ready.ballot × BallotAtMost tomb ready.read)
    → IsHeldReady cluster log all id era k ready → IsHeldReady cluster (floor_mark key tomb ∷ log) all id era k ready
ready_floored cluster log all key tomb {id} {era} {k} {ready} above was = record {
  in_hand = hand_floored log key tomb (λ same. (above same).0) was.in_hand;
  own_read = was.own_read;
  drawn = later was.drawn;
  made = was.made;
  replies = was.replies;
  replied = replies_still (floor_mark key tomb) log was.replies was.replied;
  accepted_by = was.accepted_by;
  quorum = was.quorum;
  above = was.above;
  rides = all_still (floor_mark key tomb) log (λ request e asked state now is. absurd (cc now)) was.rides;
  over_floors = λ floor has. elim (floor_or log key tomb has) [
    | inl now ↦ subst (λ (b : Ballot). BallotAtMost b ready.read) (sym now.1) (above now.0).1
    | inr before ↦ was.over_floors floor before
  ];
}

-- ---- rounds
prepare_floored : (log : List Happening) (key : List ℕ) (tomb : Ballot) {id : ℕ} {call : CallView} {waiting : List Message} {round : Round} → (round.key ≡ key → BallotLess tomb round.ballot)
    → IsPrepareTrue log id call waiting round → IsPrepareTrue (floor_mark key tomb ∷ log) id call waiting round
prepare_floored log key tomb less was = record {
  unproposed = was.unproposed;
  in_hand = hand_floored log key tomb less was.in_hand;
  replies = was.replies;
  preparing = was.preparing;
  made = replies_still (floor_mark key tomb) log was.replies was.made;
  heard = was.heard;
}

accept_floored : (log : List Happening) (all : List Made) (key : List ℕ) (tomb : Ballot) {id number : ℕ} {call : CallView} {waiting : List Message} {round : Round} → (round.key ≡ key → BallotLess tomb round.ballot)
    → ((ride : Ballot) → round.key ≡ key → round.ride ≡ Some ride → BallotLess tomb ride) → IsAcceptTrue log all id number call waiting round → IsAcceptTrue (floor_mark key tomb ∷ log) all id number call waiting round
accept_floored log all key tomb {round = round} less rides was = record {
  made = was.made;
  stands = was.stands;
  same_caller = was.same_caller;
  same_call = was.same_call;
  same_key = was.same_key;
  same_ballot = was.same_ballot;
  same_era = was.same_era;
  proposed = was.proposed;
  drawn = later was.drawn;
  above_floors = above_floored log key tomb less was.above_floors;
  prepared = was.prepared;
  replies = was.replies;
  accepting = was.accepting;
  replied = replies_still (floor_mark key tomb) log was.replies was.replied;
  heard = was.heard;
  ride = λ ballot is. let of = was.ride ballot is in record {
    in_hand = hand_floored log key tomb (λ same. rides ballot same is) of.in_hand;
    above = of.above;
    all = all_still (floor_mark key tomb) log (λ request e asked state now is_ask. absurd (cc now)) of.all;
  };
}

open_floored : (cluster : Cluster) (log : List Happening) (all : List Made) (key : List ℕ) (tomb : Ballot) (id era : ℕ) (caller : CallerView) (waiting : List Message) (round : Option Round) → ((r : Round) → round ≡ Some r → r.key ≡ key → BallotLess tomb r.ballot)
    → ((r : Round) (ride : Ballot) → round ≡ Some r → r.key ≡ key → r.ride ≡ Some ride → BallotLess tomb ride) → IsOpenTrue cluster log all id era caller waiting round → IsOpenTrue cluster (floor_mark key tomb ∷ log) all id era caller waiting round
open_floored cluster log all key tomb id era caller waiting None less rides was = was
open_floored cluster log all key tomb id era caller waiting (Some round) less rides was = record {
  call = was.call;
  is_open = was.is_open;
  same_key = was.same_key;
  own = was.own;
  same_era = was.same_era;
  is_era = was.is_era;
  phase = elim was.phase [
    | inl prepare ↦ inl (prepare_floored log key tomb (less round refl) prepare)
    | inr accept ↦ inr (accept_floored log all key tomb (less round refl) (λ ride same is. rides round ride refl same is) accept)
  ];
}

-- ---- desks
vault_floored : {S V : Type 0} (m : Meaning S V) (log : List Happening) (key : List ℕ) (tomb : Ballot) (id era : ℕ) (vault : Vault V) → IsPast m.disks.may_leave tomb.counter vault → IsVaultTrue m log id era vault → IsVaultTrue m (floor_mark key tomb ∷ log) id era vault
vault_floored m log key tomb id era vault past was = record {
  past = λ ballot k e stands own. elim (newest_or stands) [
    | inl now ↦ absurd (cc now)
    | inr before ↦ was.past ballot k e before own
  ];
  past_floors = λ k floor has. elim (floor_or log key tomb has) [
    | inl now ↦ subst (λ (b : Ballot). IsPast m.disks.may_leave b.counter vault) (sym now.1) past
    | inr before ↦ was.past_floors k floor before
  ];
  ages = λ request stands own. elim (newest_or stands) [
    | inl now ↦ absurd (cc now)
    | inr before ↦ was.ages request before own
  ];
  is_in = elim was.is_in [
    | inl first ↦ inl first
    | inr entered ↦ inr (later entered)
  ];
  not_beyond = λ stands. elim (newest_or stands) [
    | inl now ↦ absurd (cc now)
    | inr before ↦ was.not_beyond before
  ];
}

desk_floored : {S V : Type 0} (m : Meaning S V) (cluster : Cluster) (log : List Happening) (all : List Made) (key : List ℕ) (tomb : Ballot) (age era id : ℕ) (caller : CallerView) (waiting : List Message) (desk : DeskView V) → IsRenewed m.disks key tomb age desk
    → IsDeskTrue m cluster log all era id caller waiting desk → IsDeskTrue m cluster (floor_mark key tomb ∷ log) all era id caller waiting desk
desk_floored m cluster log all key tomb age era id caller waiting desk renewed was = record {
  same_id = was.same_id;
  known = was.known;
  vault = vault_floored m log key tomb id era desk.vault renewed.past was.vault;
  cached = λ k ready has. ready_floored cluster log all key tomb (λ same. renewed.cached ready (subst (λ (x : List ℕ). Contains desk.cache (x, ready)) same has)) (was.cached k ready has);
  one_each = was.one_each;
  none_open = was.none_open;
  round = open_floored cluster log all key tomb id era caller waiting desk.round renewed.ballot renewed.ride was.round;
}

-- ---- the whole
pub whole_floored : {S V : Type 0} (m : Meaning S V) (cluster : Cluster) (global : GlobalState) (view : View S V) (key : List ℕ) (tomb : Ballot)
    → ((id : ℕ) (desk : DeskView V) → IsAt view.desks id desk → id ≤ view.last_proposer → (age : ℕ) × IsRenewed m.disks key tomb age desk)
    → IsCouncilTrue cluster (floor_mark key tomb ∷ global.log) view.council → HasHistory cluster (with_mark global (floor_mark key tomb)) → Whole m cluster global view → Whole m cluster (with_mark global (floor_mark key tomb)) view
whole_floored {S} {V} m cluster global view key tomb renewed council history whole = record {
  meets = whole.meets;
  history = history;
  acceptors = λ a acceptor at. acceptor_still m cluster (floor_mark key tomb) global.log a (global.kept a) history.lawful tt (whole.acceptors a acceptor at);
  parties = record {
    last_proposer = whole.parties.last_proposer;
    few = whole.parties.few;
    eras = whole.parties.eras;
    desks = λ p these desk caller at_desk at_caller.
        let was = whole.parties.desks p these desk caller at_desk at_caller in
        let of = renewed p desk at_desk (subst (λ (n : ℕ). p ≤ n) whole.parties.last_proposer was.known) in
        desk_floored m cluster global.log global.made key tomb of.0 (era_at view p).number p caller (queue_at view.flow p).messages desk of.1 was;
    callers = λ p these caller at. caller_still (floor_mark key tomb) global.log global.made caller (record { begins = λ n k program now. absurd (cc now); ends = λ n rounds told now. absurd (cc now); proposes = λ q now. absurd (cc now) }) (whole.parties.callers p these caller at);
    council = council;
    own = λ p. messages_still (floor_mark key tomb) global.log (queue_at view.flow p).messages (whole.parties.own p);
    late = messages_still (floor_mark key tomb) global.log view.flow.late whole.parties.late;
  };
}
