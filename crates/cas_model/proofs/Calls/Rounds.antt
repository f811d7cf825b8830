-- A round proposes: by a promise at once, or once its prepare phase has a quorum.
use Rattle.std.proofs.Common.{◌≡◌, ℕ, suc, true, List, [], Option, None, Some, refl, sym, ap, subst, ◌∙◌, arith}
use Rattle.std.specs.Prelude.{Contains}
use Rattle.cas_ballot.specs.declared.ballot.Ballot.{Ballot}
use Rattle.cas_ballot.specs.Ballot.{BallotLess}
use Rattle.cas_cache.specs.declared.ready.Ready.{Ready}
use Rattle.cas_cache.specs.Entries.{without}
use Rattle.cas_change.specs.declared.outcome.Outcome.{Outcome}
use Rattle.cas_change.specs.Outcome.{outcome_of}
use Rattle.cas_flow.specs.Flow.{FlowView, queue_at}
use Rattle.cas_flow.specs.declared.message.Message.{Message}
use Rattle.cas_proposer.specs.Desk.{DeskView}
use Rattle.cas_proposer.specs.Round.{has_quorum, IsPrepare, IsPreparing, IsAccepting, IsReadOf, IsConfirmersOf}
use Rattle.cas_proposer.specs.declared.round.OpenPhase.{OpenPhase}
use Rattle.cas_proposer.specs.declared.round.OpenPhase.TheVariants.{Prepare, Accept}
use Rattle.cas_proposer.specs.declared.round.Round.{Round}
use Rattle.cas_quorum.specs.declared.era.Era.{Era}
use Rattle.cas_quorum.specs.Era.{holds_prep}
use Rattle.cas_round.specs.Replies.{promisers_of}
use Rattle.cas_slot.specs.declared.slot.Accepted.{Accepted}
use Rattle.cas_slot.specs.declared.message.Reply.{Reply}
use Rattle.cas_slot.specs.Slot.{accepted_ballot}
use Rattle.cas_vault.specs.declared.vault.Vault.{Vault}
use Rattle.cas_vault.specs.Vault.{kept_of}
use Rattle.cas_record.specs.declared.mark.Mark.TheVariants.{Begun}
use Rattle.cas_record.specs.declared.mark.Proposal.{Proposal}
use Rattle.cas_record.specs.Logs.Happening.{Happening, Entered, marks_of}
use Rattle.cas_record.specs.Logs.Lawful.{Cluster}
use Rattle.cas_record.specs.Places.{Stands}
use Rattle.cas_model.specs.Parties.{WereMade, IsEraOf, IsAged, IsVaultTrue, ArePromisesHeld, IsHeldReady, HaveOneEach, HasNone, IsInHand, IsPrepareTrue, IsOpenTrue, IsDeskTrue, IsCallerTrue}
use Rattle.cas_protocol.specs.Proposers.{IsOpenRound, state_read}
use Rattle.cas_protocol.specs.Protocol.{Made, GlobalState, HasHistory, AllReplied, Proposes, ProposesByRide, with_proposal}
use Rattle.cas_model.specs.Calls.Step.{Sends, accepts_to, proposal_of, proposed_view}
use Rattle.cas_model.specs.Calls.Desks.{MayHaveDrawn, BeginsByPromise}
use Rattle.cas_model.specs.View.{Meaning, View, CallView, CallerView, IsAt, era_at}
use Rattle.cas_model.proofs.Others.{no_probe_in}
use Rattle.cas_model.proofs.Around.{Whole, Around, around}
use Rattle.cas_model.proofs.Calls.Caches.{contains_without, contains_promise, ready_fewer, one_without, none_without}
use Rattle.cas_model.proofs.Calls.Draws.{drew, drew_vault, drew_ready, drew_caller, drew_messages, drew_around, drew_hand, drew_replies, drew_ride}
use Rattle.cas_protocol.proofs.Events.{keeps}
use Rattle.cas_model.specs.Collection.State.{tomb_of}
use Rattle.cas_model.proofs.Collection.Renewing.{IsRenewedFor, asks_by}
use Rattle.cas_model.proofs.Calls.Proposals.{accept_requests, IsReadyToPropose, proposed_global, proposes}

-- replies that were made
pub all_replied : (log : List Happening) (replies : List Reply) → WereMade log replies → AllReplied log replies
all_replied log replies were reply has_it = let was = were reply has_it in (was.request, was.replied)

-- a desk whose round is None has nothing that waits
pub none_waits : (cluster : Cluster) (log : List Happening) (all : List Made) (id era : ℕ) (caller : CallerView) (waiting : List Message) (round : Option Round) → round ≡ None
    → IsOpenTrue cluster log all id era caller waiting round → waiting ≡ []
none_waits cluster log all id era caller waiting None e of = of
none_waits cluster log all id era caller waiting (Some round) e of = absurd (cc e)

-- the round of an open call at a ballot in hand is one that may propose
open_round : {S V : Type 0} (m : Meaning S V) (log : List Happening) (all : List Made) (id era : ℕ) (caller : CallerView) (call : CallView) (key : List ℕ) (ballot : Ballot) (vault : Vault V)
    → caller.call ≡ Some call → call.proposed ≡ None → key ≡ call.key
    → IsInHand log id era key ballot → IsVaultTrue m log id era vault → IsCallerTrue log all id caller → IsOpenRound log id caller.number key ballot era
open_round m log all id era caller call key ballot vault is_open unproposed same hand was caller_true =
    let of = caller_true.call call is_open in record {
      drawn = hand.drawn;
      not_beyond = subst (λ (p : ℕ). Stands (Entered p (suc era)) log → ⊥) (sym hand.own) was.not_beyond;
      fresh = hand.fresh;
      above_floors = hand.above_floors;
      begun = record { program = call.program; stands = subst (λ (k : List ℕ). Stands (Begun id caller.number k call.program) (marks_of log)) (sym same) of.begun };
      once = of.unproposed unproposed;
      open_yet = of.open_yet;
    }

begun_here : (log : List Happening) (all : List Made) (id : ℕ) (caller : CallerView) (call : CallView) (key : List ℕ) → caller.call ≡ Some call → key ≡ call.key → IsCallerTrue log all id caller
    → Stands (Begun id caller.number key call.program) (marks_of log)
begun_here log all id caller call key is_open same caller_true = subst (λ (k : List ℕ). Stands (Begun id caller.number k call.program) (marks_of log)) (sym same) (caller_true.call call is_open).begun

-- ---- by a promise
pub begins_by_promise : {S V : Type 0} (m : Meaning S V) (cluster : Cluster) (global : GlobalState) (old : View S V) (id : ℕ) (caller : CallerView) (call : CallView) (desk now : DeskView V) (ready : Ready) (ride : Option Ballot) (round : Round)
    (outcome : Outcome) (flow : FlowView) → m.disks.tells → IsAt old.callers id caller → caller.call ≡ Some call → call.proposed ≡ None → IsAt old.desks id desk
    → BeginsByPromise m.disks (era_at old id) call.key desk now ready ride round → outcome ≡ outcome_of call.program ready.state
    → Sends old.flow id (accepts_to id (kept_of desk.vault).age round.key round.ballot round.era.number ride outcome.state round.era.acc) flow → IsRenewedFor m.disks old.council.collection id desk
    → Whole m cluster global old
    → Whole m cluster (proposed_global (drew global ride call.key (era_at old id).number) id (kept_of desk.vault).age (record round { ride = ride }) (proposal_of id caller.number round ready.read ready.by) outcome)
    (proposed_view old id caller call now flow (proposal_of id caller.number round ready.read ready.by) outcome)
begins_by_promise {S} {V} m cluster global old id caller call desk now ready ride round outcome flow tells at_caller is_open unproposed at_desk begins is_outcome sends renewed whole =
    proposes m cluster before old id (kept_of desk.vault).age caller call now (record round { ride = ride }) outcome flow ready.read ready.by ready_to
    (drew_around m cluster global old id call.key desk.vault now.vault ride of.known drawn of.vault (around m cluster global old id whole)) history
  where
    era : ℕ
    era = (era_at old id).number

    of : IsDeskTrue m cluster global.log global.made era id caller (queue_at old.flow id).messages desk
    of = whole.parties.desks id tt desk caller at_desk at_caller

    drawn : MayHaveDrawn m.disks id desk.vault now.vault ride
    drawn = subst (λ (i : ℕ). MayHaveDrawn m.disks i desk.vault now.vault ride) of.same_id begins.drawn

    before : GlobalState
    before = drew global ride call.key era

    about_key : round.key ≡ call.key
    about_key = begins.opened.0.of_key

    about_era : round.era ≡ (era_at old id)
    about_era = begins.opened.0.in_era

    about_ballot : round.ballot ≡ ready.ballot
    about_ballot = begins.opened.0.at

    held : IsHeldReady cluster before.log before.made id era call.key ready
    held = drew_ready cluster global.log global.made id era desk.cache call.key ride of.cached call.key ready (contains_promise call.key ready desk.cache begins.promise)

    -- the promise, as the round has it
    held_round : IsHeldReady cluster before.log before.made id round.era.number round.key ready
    held_round = subst (λ (e : Era). IsHeldReady cluster before.log before.made id e.number round.key ready) (sym about_era)
        (subst (λ (k : List ℕ). IsHeldReady cluster before.log before.made id era k ready) (sym about_key) held)

    hand : IsInHand before.log id round.era.number round.key round.ballot
    hand = subst (λ (b : Ballot). IsInHand before.log id round.era.number round.key b) (sym about_ballot) held_round.in_hand

    vault : IsVaultTrue m before.log id era now.vault
    vault = drew_vault m global.log id era call.key desk.vault now.vault ride tells drawn of.vault

    vault_round : IsVaultTrue m before.log id round.era.number now.vault
    vault_round = subst (λ (e : Era). IsVaultTrue m before.log id e.number now.vault) (sym about_era) vault

    caller_true : IsCallerTrue before.log before.made id caller
    caller_true = drew_caller global.log global.made id caller call.key era ride (whole.parties.callers id tt caller at_caller)

    rides : (r : Ballot) → ride ≡ Some r → IsInHand before.log id round.era.number round.key r × BallotLess round.ballot r
    rides r e =
        let of_ride = drew_ride m cluster global id era call.key ready.ballot desk.vault now.vault ride of.known drawn of.vault whole.history (of.cached call.key ready (contains_promise call.key ready desk.cache begins.promise)).in_hand r e in
        (subst (λ (x : Era). IsInHand before.log id x.number round.key r) (sym about_era) (subst (λ (k : List ℕ). IsInHand before.log id era k r) (sym about_key) of_ride.0), subst (λ (b : Ballot). BallotLess b r) (sym about_ballot) of_ride.1)

    p : Proposal
    p = proposal_of id caller.number round ready.read ready.by

    history : HasHistory cluster (with_proposal before p outcome)
    history = subst (λ (o : Outcome). HasHistory cluster (with_proposal before p o)) (sym is_outcome)
        (keeps cluster whole.meets before (drew_around m cluster global old id call.key desk.vault now.vault ride of.known drawn of.vault (around m cluster global old id whole)).history
        (ProposesByRide p call.program ready (begun_here before.log before.made id caller call round.key is_open about_key caller_true) (record {
          round = open_round m before.log before.made id round.era.number caller call round.key round.ballot now.vault is_open unproposed about_key hand vault_round caller_true;
          same_ballot = about_ballot;
          same_read = refl;
          by = refl;
          drawn = held_round.drawn;
          made = held_round.made;
          replies = held_round.replies;
          replied = all_replied before.log held_round.replies held_round.replied;
          accepted_by = held_round.accepted_by;
          quorum = held_round.quorum;
          above = held_round.above;
          all = held_round.rides;
          over_floors = held_round.over_floors;
        })))

    ready_to : IsReadyToPropose m cluster before old id (kept_of desk.vault).age caller call now (record round { ride = ride }) outcome flow
    ready_to = record {
      at_caller = at_caller;
      is_open = is_open;
      caller_true = caller_true;
      known = of.known;
      same_id = ap (λ (d : DeskView V). d.id) begins.desk ∙ of.same_id;
      vault = vault;
      aged = begins.aged tells;
      cached = subst (ArePromisesHeld cluster before.log before.made id era) (sym (ap (λ (d : DeskView V). d.cache) begins.desk))
          (ready_fewer cluster before.log before.made id era (without call.key desk.cache) desk.cache (λ entry h. contains_without call.key desk.cache h) (drew_ready cluster global.log global.made id era desk.cache call.key ride of.cached));
      one_each = subst (λ (d : DeskView V). HaveOneEach d.cache) (sym begins.desk) (one_without call.key desk.cache of.one_each);
      none_open = subst (λ (d : DeskView V). HasNone (Some (record round { ride = ride })) d.cache) (sym begins.desk)
          (λ one h. none_without call.key desk.cache of.one_each one (subst (λ (k : List ℕ). Contains (without call.key desk.cache) (k, one)) about_key h));
      is_round = ap (λ (d : DeskView V). d.round) begins.desk;
      same_key = about_key;
      same_era = ap (λ (e : Era). e.number) about_era;
      is_era = subst (IsEraOf cluster) (sym about_era) (whole.parties.eras id (omega (arith, of.known, whole.parties.last_proposer)));
      in_hand = hand;
      ride = rides;
      prepared = [];
      accepting = record { phase = begins.opened.1.phase; met = begins.opened.1.met };
      none_waits = none_waits cluster global.log global.made id era caller (queue_at old.flow id).messages desk.round begins.none_open of.round;
      late = drew_messages global.log old.flow.late call.key era ride whole.parties.late;
      above = λ to. asks_by old.council (accept_requests id (kept_of desk.vault).age (record round { ride = ride }) outcome to) (no_probe_in old.council.exchange _ (λ tag k is. cc is)) (λ tag least is. cc is) (λ c age is at asks_round same.
          subst (BallotLess (tomb_of c.tombstone)) (sym about_ballot) ((renewed c age is at).cached ready
          (subst (λ (k : List ℕ). Contains desk.cache (k, ready)) (sym about_key ∙ same) (contains_promise call.key ready desk.cache begins.promise))).0);
      sends = sends;
    }

-- ---- once the prepare phase has a quorum
-- those that promised, and that they are a prepare quorum of the era
promised_quorum : (era : Era) (ballot : Ballot) (replies : List Reply) (phase_is : OpenPhase) → IsPrepare era ballot replies phase_is → has_quorum phase_is ≡ true
    → holds_prep era (promisers_of ballot replies) ≡ true
promised_quorum era ballot replies (Prepare p) is quorum =
    ap (λ (e : Era). holds_prep e (promisers_of ballot replies)) (sym is.same_era) ∙ ap (λ (by : List ℕ). holds_prep p.era by) (sym is.tally.confirmed) ∙ quorum
promised_quorum era ballot replies (Accept p) is quorum = absurd is

pub proposes_round : {S V : Type 0} (m : Meaning S V) (cluster : Cluster) (global : GlobalState) (old : View S V) (id : ℕ) (caller : CallerView) (call : CallView) (desk now : DeskView V) (round : Round) (phase_is : OpenPhase) (read : Option Accepted) (by : List ℕ)
    (ride : Option Ballot) (outcome : Outcome) (flow : FlowView) → m.disks.tells → IsAt old.callers id caller → caller.call ≡ Some call → IsAt old.desks id desk → desk.round ≡ Some round → (queue_at old.flow id).messages ≡ []
    → IsPrepareTrue global.log id call (queue_at old.flow id).messages round → round.key ≡ call.key → round.era.number ≡ (era_at old id).number → IsEraOf cluster round.era
    → has_quorum round.phase ≡ true → IsConfirmersOf round by → IsReadOf round read → ((replies : List Reply) → IsPreparing replies round → IsAccepting replies [] (record round { phase = phase_is }))
    → MayHaveDrawn m.disks desk.id desk.vault now.vault ride → IsAged m.disks (kept_of desk.vault).age now.vault
    → now ≡ record desk { vault = now.vault; round = Some (record round { ride = ride; phase = phase_is }) } → outcome ≡ outcome_of call.program (state_read read)
    → Sends old.flow id (accepts_to id (kept_of desk.vault).age round.key round.ballot round.era.number ride outcome.state round.era.acc) flow → IsRenewedFor m.disks old.council.collection id desk
    → Whole m cluster global old
    → Whole m cluster (proposed_global (drew global ride round.key (era_at old id).number) id (kept_of desk.vault).age (record round { ride = ride; phase = phase_is }) (proposal_of id caller.number round (accepted_ballot read) by) outcome)
    (proposed_view old id caller call now flow (proposal_of id caller.number round (accepted_ballot read) by) outcome)
proposes_round {S} {V} m cluster global old id caller call desk now round phase_is read by ride outcome flow tells at_caller is_open at_desk is_round no_frames prepare same_key same_era is_era quorum confirmers is_read accepts may_drawn aged is_now is_outcome sends renewed whole =
    proposes m cluster before old id (kept_of desk.vault).age caller call now final outcome flow (accepted_ballot read) by ready_to after_draw history
  where
    era : ℕ
    era = (era_at old id).number

    final : Round
    final = record round { ride = ride; phase = phase_is }

    of : IsDeskTrue m cluster global.log global.made era id caller (queue_at old.flow id).messages desk
    of = whole.parties.desks id tt desk caller at_desk at_caller

    drawn : MayHaveDrawn m.disks id desk.vault now.vault ride
    drawn = subst (λ (i : ℕ). MayHaveDrawn m.disks i desk.vault now.vault ride) of.same_id may_drawn

    before : GlobalState
    before = drew global ride round.key era

    after_draw : Around m cluster before old id
    after_draw = drew_around m cluster global old id round.key desk.vault now.vault ride of.known drawn of.vault (around m cluster global old id whole)

    hand : IsInHand before.log id round.era.number round.key round.ballot
    hand = drew_hand global.log id round.era.number round.key round.ballot round.key era ride prepare.in_hand

    hand_here : IsInHand global.log id era round.key round.ballot
    hand_here = subst (λ (e : ℕ). IsInHand global.log id e round.key round.ballot) same_era prepare.in_hand

    vault : IsVaultTrue m before.log id era now.vault
    vault = drew_vault m global.log id era round.key desk.vault now.vault ride tells drawn of.vault

    vault_round : IsVaultTrue m before.log id round.era.number now.vault
    vault_round = subst (λ (e : ℕ). IsVaultTrue m before.log id e now.vault) (sym same_era) vault

    caller_true : IsCallerTrue before.log before.made id caller
    caller_true = drew_caller global.log global.made id caller round.key era ride (whole.parties.callers id tt caller at_caller)

    replies_made : WereMade before.log prepare.replies
    replies_made = drew_replies global.log prepare.replies round.key era ride prepare.made

    by_is : by ≡ promisers_of round.ballot prepare.replies
    by_is = confirmers.prepare prepare.replies prepare.preparing

    p : Proposal
    p = proposal_of id caller.number round (accepted_ballot read) by

    history : HasHistory cluster (with_proposal before p outcome)
    history = subst (λ (o : Outcome). HasHistory cluster (with_proposal before p o)) (sym is_outcome)
        (keeps cluster whole.meets before after_draw.history
        (Proposes p call.program read (begun_here before.log before.made id caller call round.key is_open same_key caller_true) (record {
          round = open_round m before.log before.made id round.era.number caller call round.key round.ballot now.vault is_open prepare.unproposed same_key hand vault_round caller_true;
          replies = prepare.replies;
          replied = all_replied before.log prepare.replies replies_made;
          by = by_is;
          quorum = is_era.prepares by ∙ ap (λ (x : List ℕ). holds_prep round.era x) by_is ∙ promised_quorum round.era round.ballot prepare.replies round.phase prepare.preparing.phase quorum;
          is_read = is_read prepare.replies prepare.preparing;
          same_read = refl;
        })))

    ready_to : IsReadyToPropose m cluster before old id (kept_of desk.vault).age caller call now final outcome flow
    ready_to = record {
      at_caller = at_caller;
      is_open = is_open;
      caller_true = caller_true;
      known = of.known;
      same_id = ap (λ (d : DeskView V). d.id) is_now ∙ of.same_id;
      vault = vault;
      aged = aged;
      cached =
          subst (ArePromisesHeld cluster before.log before.made id era) (sym (ap (λ (d : DeskView V). d.cache) is_now))
          (drew_ready cluster global.log global.made id era desk.cache round.key ride of.cached);
      one_each = subst (λ (d : DeskView V). HaveOneEach d.cache) (sym is_now) of.one_each;
      none_open = subst (λ (d : DeskView V). HasNone (Some final) d.cache) (sym is_now) (subst (λ (r : Option Round). HasNone r desk.cache) is_round of.none_open);
      is_round = ap (λ (d : DeskView V). d.round) is_now;
      same_key = same_key;
      same_era = same_era;
      is_era = is_era;
      in_hand = hand;
      ride = λ r e.
          let of_ride = drew_ride m cluster global id era round.key round.ballot desk.vault now.vault ride of.known drawn of.vault whole.history hand_here r e in
          (subst (λ (x : ℕ). IsInHand before.log id x round.key r) (sym same_era) of_ride.0, of_ride.1);
      prepared = prepare.replies;
      accepting = let turned = accepts prepare.replies prepare.preparing in record { phase = turned.phase; met = turned.met };
      none_waits = no_frames;
      late = drew_messages global.log old.flow.late round.key era ride whole.parties.late;
      above = λ to. asks_by old.council (accept_requests id (kept_of desk.vault).age final outcome to) (no_probe_in old.council.exchange _ (λ tag k is. cc is)) (λ tag least is. cc is) (λ c age is at asks_round same. (renewed c age is at).ballot round is_round same);
      sends = sends;
    }
