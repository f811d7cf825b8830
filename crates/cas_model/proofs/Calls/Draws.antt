-- What a draw does to what a proposer knows: its vault is past the ballot, and the ballot is in hand.
use Rattle.std.proofs.Common.{◌≡◌, ◌≤◌, ℕ, List, ◌∷◌, Option, None, Some, refl, sym, ap, subst, ◌∙◌, inl, inr, arith}
use Rattle.std.specs.Prelude.{◌+◌}
use Rattle.cas_ballot.specs.declared.ballot.Ballot.{Ballot}
use Rattle.cas_ballot.specs.Ballot.{BallotLess}
use Rattle.cas_cache.specs.declared.ready.Ready.{Ready}
use Rattle.cas_flow.specs.declared.message.Message.{Message}
use Rattle.cas_slot.specs.declared.message.Reply.{Reply}
use Rattle.cas_vault.specs.declared.vault.Vault.{Vault}
use Rattle.cas_vault.specs.Vault.{counter_of, IsPast}
use Rattle.cas_record.specs.Logs.Happening.{Happening, Drew, marks_of}
use Rattle.cas_record.specs.Logs.Lawful.{Cluster}
use Rattle.cas_record.specs.Logs.Orderly.{IsAboveFloors}
use Rattle.cas_record.specs.Places.{here}
use Rattle.cas_record.proofs.PlaceLemmas.{newest_or}
use Rattle.cas_protocol.specs.Desks.{IsPastAll}
use Rattle.cas_model.specs.Parties.{AreMessagesTrue, WereMade, IsAged, IsVaultTrue, ArePromisesHeld, IsInHand, IsCallerTrue}
use Rattle.cas_protocol.specs.Protocol.{Made, GlobalState, HasHistory, Draws as DrawsEvent}
use Rattle.cas_model.specs.Calls.Desks.{VaultGoesOn, HasDrawn, MayHaveDrawn}
use Rattle.cas_model.specs.View.{DiskMeaning, Meaning, View, CallerView, era_at}
use Rattle.cas_model.proofs.Around.{Around, around_more}
use Rattle.cas_protocol.proofs.Events.{keeps}
use Rattle.cas_model.proofs.Others.{LeavesCalls, ProposesNot, FloorsNot, AsksToRide, later, hand_still, ready_still, replies_still, messages_still, caller_still}
use Rattle.cas_model.proofs.Places.{some_is}
use Rattle.cas_protocol.proofs.Rides.{draws}

-- ---- vaults
-- what lasts of a vault as it changes: what it is past, and the ages that it keeps
pub record Lasts {V : Type 0} (m : DiskMeaning V) (old new : Vault V) : Type 0 where
  pub still_past : (n : ℕ) → IsPast m.may_leave n old → IsPast m.may_leave n new
  pub ages : (age : ℕ) → IsAged m age old → IsAged m age new

pub lasts : {V : Type 0} {m : DiskMeaning V} {old new : Vault V} → m.tells → VaultGoesOn m old new → Lasts m old new
lasts tells on = record { still_past = on.still_past tells; ages = on.ages tells }

pub vault_goes_on : {S V : Type 0} (m : Meaning S V) (log : List Happening) (id era : ℕ) {old new : Vault V} → m.disks.tells → VaultGoesOn m.disks old new → IsVaultTrue m log id era old → IsVaultTrue m log id era new
vault_goes_on m log id era tells on was = record {
  past = λ ballot key e stands own. on.still_past tells ballot.counter (was.past ballot key e stands own);
  past_floors = λ key floor has. on.still_past tells floor.counter (was.past_floors key floor has);
  ages = λ request stands own. on.ages tells request.age (was.ages request stands own);
  is_in = was.is_in;
  not_beyond = was.not_beyond;
}

-- its counter is past all that it drew and past each floor
pub past_all : {S V : Type 0} (m : Meaning S V) (cluster : Cluster) (log : List Happening) (id era : ℕ) (key : List ℕ) (vault : Vault V) → id ≤ cluster.last_proposer → IsVaultTrue m log id era vault → IsPastAll cluster log id era (counter_of vault) key
past_all m cluster log id era key vault known was = record {
  known = known;
  is_in = was.is_in;
  drawn = λ ballot k e stands own. (was.past ballot k e stands own).counter;
  floors = λ floor has. (was.past_floors key floor has).counter;
}

-- ---- a draw
-- the log with the ballot, where one was drawn
abbrev pub drew_log : Option Ballot → List ℕ → ℕ → List Happening → List Happening
drew_log None key era log = log
drew_log (Some ballot) key era log = Drew ballot key era ∷ log

abbrev pub drew : GlobalState → Option Ballot → List ℕ → ℕ → GlobalState
drew global ballot key era = record global { log = drew_log ballot key era global.log }

drew_same : {b ballot : Ballot} {k key : List ℕ} {e era : ℕ} → Drew b k e ≡ Drew ballot key era → b ≡ ballot
drew_same now = cc now

pub drew_vault : {S V : Type 0} (m : Meaning S V) (log : List Happening) (id era : ℕ) (key : List ℕ) (old new : Vault V) (ballot : Option Ballot) → m.disks.tells → MayHaveDrawn m.disks id old new ballot
    → IsVaultTrue m log id era old → IsVaultTrue m (drew_log ballot key era log) id era new
drew_vault m log id era key old new None tells by was = vault_goes_on m log id era tells by.goes_on was
drew_vault m log id era key old new (Some ballot) tells by was =
    let on = vault_goes_on m log id era tells by.goes_on was in record {
      past = λ b k e stands own. elim (newest_or stands) [
        | inl now ↦ subst (λ (x : Ballot). IsPast m.disks.may_leave x.counter new) (sym (drew_same now)) (by.past tells)
        | inr before ↦ on.past b k e before own
      ];
      past_floors = on.past_floors;
      ages = λ request stands own. elim (newest_or stands) [
        | inl now ↦ absurd (cc now)
        | inr before ↦ on.ages request before own
      ];
      is_in = elim on.is_in [ inl first ↦ inl first | inr entered ↦ inr (later entered) ];
      not_beyond = λ stands. elim (newest_or stands) [
        | inl now ↦ absurd (cc now)
        | inr before ↦ on.not_beyond before
      ];
    }

-- a draw proposes nothing, makes no floor and asks nothing
drew_not : {ballot : Ballot} {key : List ℕ} {era : ℕ} (k : List ℕ) (b : Ballot) → ProposesNot (Drew ballot key era) k b
drew_not k b p now = absurd (cc now)

drew_none : {ballot : Ballot} {key : List ℕ} {era : ℕ} → FloorsNot (Drew ballot key era)
drew_none k f s now = absurd (cc now)

drew_asks : {ballot : Ballot} {key : List ℕ} {era : ℕ} (k : List ℕ) (b r : Ballot) → AsksToRide (Drew ballot key era) k b r
drew_asks k b r request e asked state now = absurd (cc now)

drew_calls : (ballot : Ballot) (key : List ℕ) (era id : ℕ) → LeavesCalls (Drew ballot key era) id
drew_calls ballot key era id = record { begins = λ n k p now. absurd (cc now); ends = λ n r a now. absurd (cc now); proposes = λ p now. absurd (cc now) }

pub drew_ready : (cluster : Cluster) (log : List Happening) (all : List Made) (id era : ℕ) (cache : List (List ℕ × Ready)) (key : List ℕ) (ballot : Option Ballot)
    → ArePromisesHeld cluster log all id era cache → ArePromisesHeld cluster (drew_log ballot key era log) all id era cache
drew_ready cluster log all id era cache key None were = λ k ready has. were k ready has
drew_ready cluster log all id era cache key (Some ballot) were = λ k ready has. ready_still cluster (Drew ballot key era) log all (drew_not k ready.ballot) drew_none (drew_asks k ready.read ready.ballot) (were k ready has)

pub drew_caller : (log : List Happening) (all : List Made) (id : ℕ) (caller : CallerView) (key : List ℕ) (era : ℕ) (ballot : Option Ballot) → IsCallerTrue log all id caller → IsCallerTrue (drew_log ballot key era log) all id caller
drew_caller log all id caller key era None was = was
drew_caller log all id caller key era (Some ballot) was = caller_still (Drew ballot key era) log all caller (drew_calls ballot key era id) was

pub drew_messages : (log : List Happening) (messages : List Message) (key : List ℕ) (era : ℕ) (ballot : Option Ballot) → AreMessagesTrue log messages → AreMessagesTrue (drew_log ballot key era log) messages
drew_messages log messages key era None were = were
drew_messages log messages key era (Some ballot) were = messages_still (Drew ballot key era) log messages were

pub drew_marks : (log : List Happening) (key : List ℕ) (era : ℕ) (ballot : Option Ballot) → marks_of (drew_log ballot key era log) ≡ marks_of log
drew_marks log key era None = refl
drew_marks log key era (Some ballot) = refl

-- what is around the proposer stays
pub drew_around : {S V : Type 0} (m : Meaning S V) (cluster : Cluster) (global : GlobalState) (view : View S V) (id : ℕ) (key : List ℕ) (old new : Vault V) (ballot : Option Ballot)
    → id ≤ cluster.last_proposer → MayHaveDrawn m.disks id old new ballot → IsVaultTrue m global.log id (era_at view id).number old
    → Around m cluster global view id → Around m cluster (drew global ballot key (era_at view id).number) view id
drew_around m cluster global view id key old new None known by vault around = around
drew_around m cluster global view id key old new (Some ballot) known by vault around =
    let era = (era_at view id).number in
    let all = past_all m cluster global.log id era key old known vault in
    let history : HasHistory cluster (drew global (Some ballot) key era) =
    subst (λ (b : Ballot). HasHistory cluster (drew global (Some b) key era)) (sym by.draws.next) (keeps cluster around.meets global around.history (DrawsEvent id era (counter_of old) key all)) in
    around_more m cluster global.log global.kept global.made view id (Drew ballot key era)
    (λ p other own. other (sym own ∙ ap (λ (b : Ballot). b.proposer) by.draws.next), λ a. tt) (λ request now. absurd (cc now)) around history

-- the ballot is in hand
pub drew_in_hand : {S V : Type 0} (m : Meaning S V) (cluster : Cluster) (global : GlobalState) (id era : ℕ) (key : List ℕ) (old new : Vault V) (ballot : Ballot)
    → id ≤ cluster.last_proposer → HasDrawn m.disks id old new ballot → IsVaultTrue m global.log id era old → HasHistory cluster global → IsInHand (drew global (Some ballot) key era).log id era key ballot
drew_in_hand m cluster global id era key old new ballot known by vault history =
    let own : ballot.proposer ≡ id = ap (λ (b : Ballot). b.proposer) by.draws.next in
    let counter : ballot.counter ≡ counter_of old + 1 = ap (λ (b : Ballot). b.counter) by.draws.next in
    record {
      own = own;
      drawn = record { older = global.log; at = here };
      fresh = λ has.
          let drawn = history.knows.drawn has.proposal has.stands in
          let low = (vault.past has.proposal.ballot has.proposal.key has.proposal.era drawn (ap (λ (b : Ballot). b.proposer) has.same_ballot ∙ own)).counter in
          let same : has.proposal.ballot.counter ≡ ballot.counter = ap (λ (b : Ballot). b.counter) has.same_ballot in
          absurd (omega (arith, counter, low, same));
      above_floors = subst (λ (b : Ballot). IsAboveFloors (marks_of global.log) key b) (sym by.draws.next) (draws cluster global.log id era (counter_of old) key (past_all m cluster global.log id era key old known vault)).above;
    }

-- ---- what was in hand before
pub drew_hand : (log : List Happening) (id e : ℕ) (k : List ℕ) (b : Ballot) (key : List ℕ) (era : ℕ) (ballot : Option Ballot) → IsInHand log id e k b → IsInHand (drew_log ballot key era log) id e k b
drew_hand log id e k b key era None was = was
drew_hand log id e k b key era (Some ballot) was = hand_still (Drew ballot key era) log (drew_not k b) drew_none was

pub drew_replies : (log : List Happening) (replies : List Reply) (key : List ℕ) (era : ℕ) (ballot : Option Ballot) → WereMade log replies → WereMade (drew_log ballot key era log) replies
drew_replies log replies key era None were = λ reply has_it. were reply has_it
drew_replies log replies key era (Some ballot) were = replies_still (Drew ballot key era) log replies were

-- a ballot that is drawn is above all that are in hand
pub drawn_above : {S V : Type 0} (m : Meaning S V) (log : List Happening) (id era e : ℕ) (k : List ℕ) (b : Ballot) (old new : Vault V) (ballot : Ballot) → HasDrawn m.disks id old new ballot → IsVaultTrue m log id era old → IsInHand log id e k b → BallotLess b ballot
drawn_above m log id era e k b old new ballot by vault hand =
    let low = (vault.past b k e hand.drawn hand.own).counter in
    let counter : ballot.counter ≡ counter_of old + 1 = ap (λ (x : Ballot). x.counter) by.draws.next in
    record { counters = omega (arith, low, counter); proposers = λ same. absurd (omega (arith, low, counter, same)) }

-- the ballot that rides, where one does: it is in hand, and above the one that it rides on
pub drew_ride : {S V : Type 0} (m : Meaning S V) (cluster : Cluster) (global : GlobalState) (id era : ℕ) (key : List ℕ) (b : Ballot) (old new : Vault V) (ride : Option Ballot)
    → id ≤ cluster.last_proposer → MayHaveDrawn m.disks id old new ride → IsVaultTrue m global.log id era old → HasHistory cluster global → IsInHand global.log id era key b
    → (r : Ballot) → ride ≡ Some r → IsInHand (drew global ride key era).log id era key r × BallotLess b r
drew_ride m cluster global id era key b old new None known by vault history hand r rides = absurd (cc rides)
drew_ride m cluster global id era key b old new (Some ballot) known by vault history hand r rides =
    subst (λ (x : Ballot). IsInHand (drew global (Some ballot) key era).log id era key x × BallotLess b x) (some_is rides)
    (drew_in_hand m cluster global id era key old new ballot known by vault history, drawn_above m global.log id era era key b old new ballot by vault hand)
