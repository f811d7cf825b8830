-- A cluster stays safe as calls begin, propose, are counted and end.
use Rattle.std.proofs.Common.{◌≡◌, ◌<◌, ◌≤◌, ℕ, suc, true, false, List, [], ◌∷◌, ◌++◌, Option, None, Some, refl, sym, ap, subst, ◌∙◌, arith, length-append}
use Rattle.std.specs.Prelude.{◌+◌, ◌*◌, ◌-◌, length, map, slice_set, Contains}
use Rattle.std.proofs.lemmas.List.{length-map}
use Rattle.cas_ballot.specs.declared.ballot.Ballot.{Ballot}
use Rattle.cas_ballot.specs.Ballot.{FitsBallot}
use Rattle.cas_ballot.specs.Members.{has_member, IsMemberSet}
use Rattle.cas_cache.specs.declared.ready.Ready.{Ready}
use Rattle.cas_change.specs.declared.program.Clause.{Clause}
use Rattle.cas_flow.specs.Flow.{FlowView, queue_at}
use Rattle.cas_flow.specs.Message.{head_of}
use Rattle.cas_flow.specs.Queue.{QueueView}
use Rattle.cas_flow.specs.declared.message.Message.{Message}
use Rattle.cas_flow.specs.declared.message.Message.TheVariants as message
use Rattle.cas_proposer.specs.Desk.{DeskView}
use Rattle.cas_proposer.specs.Round.{is_preparing, IsPrepare, IsAccept}
use Rattle.cas_proposer.specs.declared.round.OpenPhase.{OpenPhase}
use Rattle.cas_proposer.specs.declared.round.OpenPhase.TheVariants.{Prepare, Accept}
use Rattle.cas_proposer.specs.declared.round.Round.{Round}
use Rattle.cas_quorum.specs.declared.era.Era.{Era}
use Rattle.cas_round.specs.Replies.{is_prepare}
use Rattle.cas_round.proofs.Lists.{has}
use Rattle.cas_slot.specs.Message.{phase_of}
use Rattle.cas_slot.specs.declared.message.Reply.{Reply}
use Rattle.cas_slot.specs.declared.message.Request.{Request}
use Rattle.cas_vault.specs.Vault.{kept_of}
use Rattle.cas_record.specs.declared.mark.Mark.TheVariants.{Begun}
use Rattle.cas_model.specs.Parties.{asked_in}
use Rattle.cas_model.specs.Council.{reserved_by}
use Rattle.cas_model.specs.Safe.{requests_in, IsPartySafe, IsRoundSafe, IsOpenSafe, IsSound}
use Rattle.cas_model.specs.Calls.Step as calls
use Rattle.cas_model.specs.Calls.Step.{most_marks, round_marks, most_round_marks, Opens, opened, with_call, tried_again, Sends, prepares_to}
use Rattle.cas_model.specs.Calls.Desks.{BeginsToPrepare}
use Rattle.cas_model.specs.View.{Meaning, View, CallView, CallerView, IsAt, new_call, new_caller, reserved_in, reserved_of, with_desk, era_at}
use Rattle.cas_model.proofs.Calls.Beginnings.{prepare_request}
use Rattle.cas_model.proofs.Calls.Caches.{contains_without}
use Rattle.cas_model.proofs.Calls.Steps.{no_harm}
use Rattle.cas_model.proofs.Frames.Harms.{has_of_map, has_member_of}
use Rattle.cas_model.proofs.Places.{own_set, at_one, some_is}
use Rattle.cas_model.proofs.Safety.Parts.{more_by, reserved_set, few_round, requests_of_map, left_within, right_within, safe_but, caller_low, desk_low, changes_caller, changes_desk, party_idle, idle_at}

-- ---- a call opens
-- there is room for what a call reserves
room_for : (callers : List CallerView) (marks others id : ℕ) (old new : CallerView) → IsAt callers id old → marks + reserved_of (slice_set callers id new_caller) + others + reserved_in new.call ≤ most_marks
    → marks + (reserved_of (slice_set callers id new) + others) ≤ most_marks
room_for callers marks others id old new at low = omega (arith, low, reserved_set callers id old new at, reserved_set callers id old new_caller at)

pub none_open : {V : Type 0} (era : Era) (marks id : ℕ) (desk : DeskView V) (caller : CallerView) (queue : QueueView) → caller.call ≡ None → IsPartySafe era marks id desk caller queue → desk.round ≡ None
none_open era marks id desk caller queue none was = by_round desk.round was.round
  where
    by_round : (round : Option Round) → IsRoundSafe era caller queue round → round ≡ None
    by_round None is = refl
    by_round (Some round) is = absurd (cc (none, is.is_open))

-- a party whose desk has no open round, with another call
recalled : {V : Type 0} (era : Era) (few marks id : ℕ) (desk : DeskView V) (caller new : CallerView) (queue : QueueView) → desk.round ≡ None → new.number ≤ marks → ((call : CallView) → new.call ≡ Some call → 0 < call.reserved)
    → reserved_in new.call ≤ most_round_marks → IsPartySafe era few id desk caller queue → IsPartySafe era marks id desk new queue
recalled era few marks id desk caller new queue none number reserved low was =
    party_idle era marks id desk new queue was.same_id none (idle_at era caller queue desk.round none was.round).none_waits number was.cached reserved low

pub opens_safe : {S V : Type 0} (old : View S V) (id : ℕ) (key : List ℕ) (program : List Clause) (new : View S V) → IsSound old → Opens old id key program new → IsSound new
opens_safe {S} {V} old id key program new was (calls.first caller at none room view) =
    let now : CallerView = record { number = suc caller.number; call = Some (new_call key program (round_marks (era_at old id) - 1)) } in
    subst IsSound (sym view) (safe_but old (opened old id caller key program) id was (caller_low old id caller was at) (changes_caller old id now old.flow (old.marks ++ Begun id (suc caller.number) key program ∷ []) was refl (λ p other. refl) (more_by old.marks (Begun id (suc caller.number) key program ∷ [])))
    (λ desk c at_desk at_caller. subst (λ (x : CallerView). IsPartySafe (era_at old id) (length (old.marks ++ Begun id (suc caller.number) key program ∷ [])) id desk x (queue_at old.flow id)) (sym (own_set old.callers id now c at_caller))
    (let party = was.parties id desk caller at_desk at in
    recalled (era_at old id) (length old.marks) (length (old.marks ++ Begun id (suc caller.number) key program ∷ [])) id desk caller now (queue_at old.flow id)
    (none_open (era_at old id) (length old.marks) id desk caller (queue_at old.flow id) none party) (omega (arith, party.number, length-append old.marks (Begun id (suc caller.number) key program ∷ [])))
    (λ call is. subst (λ (x : CallView). 0 < x.reserved) (some_is is) (omega arith)) (omega (arith, few_round (era_at old id) (was.few_members id))) party))
    (room_for old.callers (length (old.marks ++ Begun id (suc caller.number) key program ∷ [])) (reserved_by old.council) id caller now at (omega (arith, room, length-append old.marks (Begun id (suc caller.number) key program ∷ [])))))
opens_safe {S} {V} old id key program new was (calls.again caller call reserved at is_open same_key same_program unproposed met idle room some view) =
    let now : CallerView = record caller { call = Some (tried_again call reserved) } in
    subst IsSound (sym view) (safe_but old (with_call old id caller (tried_again call reserved)) id was (caller_low old id caller was at) (changes_caller old id now old.flow old.marks was refl (λ p other. refl) (omega arith))
    (λ desk c at_desk at_caller. subst (λ (x : CallerView). IsPartySafe (era_at old id) (length old.marks) id desk x (queue_at old.flow id)) (sym (own_set old.callers id now c at_caller))
    (let party = was.parties id desk caller at_desk at in
    recalled (era_at old id) (length old.marks) (length old.marks) id desk caller now (queue_at old.flow id) (idle desk at_desk) party.number
    (λ x is. subst (λ (y : CallView). 0 < y.reserved) (some_is is) some.0) (omega (arith, some.1, few_round (era_at old id) (was.few_members id))) party))
    (room_for old.callers (length old.marks) (reserved_by old.council) id caller now at room))

-- ---- a round begins
-- the phase of a round that has just begun
pub prepares_is : (era : Era) (ballot : Ballot) (replies : List Reply) (phase_is : OpenPhase) → IsPrepare era ballot replies phase_is
    → (is_preparing phase_is ≡ true) × (asked_in era phase_is ≡ era.prep)
prepares_is era ballot replies (Prepare p) is = (refl, refl)
prepares_is era ballot replies (Accept p) is = absurd is

pub accepts_is : (era : Era) (ballot : Ballot) (replies : List Reply) (phase_is : OpenPhase) → IsAccept era ballot replies phase_is → (is_preparing phase_is ≡ false) × (asked_in era phase_is ≡ era.acc)
accepts_is era ballot replies (Prepare p) is = absurd is
accepts_is era ballot replies (Accept p) is = (refl, refl)

-- frames that ask these members are about them
pub about_members : (f : ℕ → Request) (tos members : List ℕ) (messages : List Message) → ((to : ℕ) → (f to).to ≡ to) → messages ≡ map (λ to. message.Request (f to)) tos → members ≡ tos
    → (each : Message) → Contains messages each → has_member members (head_of each).1 ≡ true
about_members f tos members messages same is are each has_it =
    let of = has_of_map (λ (to : ℕ). message.Request (f to)) each tos (has each (map (λ to. message.Request (f to)) tos) (subst (λ (l : List Message). Contains l each) is has_it)) in
    subst (λ (x : Message). has_member members (head_of x).1 ≡ true) of.1.1
    (subst (λ (n : ℕ). has_member members n ≡ true) (sym (same of.0)) (subst (λ (l : List ℕ). has_member l of.0 ≡ true) (sym are) (has_member_of of.0 tos of.1.0)))

-- each of the requests that wait asks to prepare
ask_prepares : (f : ℕ → Request) (tos : List ℕ) (messages : List Message) → ((to : ℕ) → is_prepare (phase_of (f to).ask) ≡ true) → messages ≡ map (λ to. message.Request (f to)) tos
    → (request : Request) → Contains messages (message.Request request) → is_prepare (phase_of request.ask) ≡ true
ask_prepares f tos messages prepares are request has_it =
    let of = has_of_map (λ (to : ℕ). message.Request (f to)) (message.Request request) tos (has (message.Request request) (map (λ to. message.Request (f to)) tos) (subst (λ (l : List Message). Contains l (message.Request request)) are has_it)) in
    let same : f of.0 ≡ request = cc of.1.1 in
    subst (λ (r : Request). is_prepare (phase_of r.ask) ≡ true) same (prepares of.0)

-- what a round reserves is enough
pub enough : (era : Era) → IsMemberSet era.prep → IsMemberSet era.acc → (reserved : ℕ) → round_marks era ≤ suc reserved → 4 + 3 * length era.acc + length era.prep ≤ reserved
enough era prep acc reserved low = omega (arith, low, left_within era.prep era.acc prep, right_within era.prep era.acc acc)

pub prepares_safe : {S V : Type 0} (m : Meaning S V) (old : View S V) (id : ℕ) (caller : CallerView) (call : CallView) (desk now : DeskView V) (ballot : Ballot) (round : Round) (flow : FlowView) → IsSound old
    → IsAt old.callers id caller → caller.call ≡ Some call → call.proposed ≡ None → call.harmed ≡ [] → IsAt old.desks id desk → desk.down ≡ false → round_marks (era_at old id) ≤ suc call.reserved
    → BeginsToPrepare m.disks (era_at old id) call.key desk now ballot round → Sends old.flow id (prepares_to id (kept_of desk.vault).age call.key ballot (era_at old id).prep) flow → IsSound (record (with_desk old id now) { flow = flow })
prepares_safe {S} {V} m old id caller call desk now ballot round flow was at_caller is_open unproposed unharmed at_desk up room begins sends =
    safe_but old (record (with_desk old id now) { flow = flow }) id was (desk_low old id desk was at_desk) (changes_desk old id now flow was sends.queues sends.others)
    (λ d c at_d at_c. subst (λ (x : DeskView V). IsPartySafe (era_at old id) (length old.marks) id x c (queue_at flow id)) (sym (own_set old.desks id now d at_d))
    (subst (λ (x : CallerView). IsPartySafe (era_at old id) (length old.marks) id now x (queue_at flow id)) (at_one old.callers id at_caller at_c) safe)) was.room
  where
    party : IsPartySafe (era_at old id) (length old.marks) id desk caller (queue_at old.flow id)
    party = was.parties id desk caller at_desk at_caller

    f : ℕ → Request
    f = prepare_request id (kept_of desk.vault).age call.key ballot

    waiting : (queue_at flow id).messages ≡ prepares_to id (kept_of desk.vault).age call.key ballot (era_at old id).prep
    waiting = sends.own ∙ ap (λ (l : List Message). l ++ prepares_to id (kept_of desk.vault).age call.key ballot (era_at old id).prep) (idle_at (era_at old id) caller (queue_at old.flow id) desk.round begins.none_open party.round).none_waits

    preparing : (is_preparing round.phase ≡ true) × (asked_in round.era round.phase ≡ round.era.prep)
    preparing = prepares_is round.era round.ballot [] round.phase begins.opened.1.phase

    asked : asked_in (era_at old id) round.phase ≡ (era_at old id).prep
    asked = subst (λ (e : Era). asked_in e round.phase ≡ e.prep) begins.opened.0.in_era preparing.1

    counted : requests_in (queue_at flow id).messages ≡ length (era_at old id).prep
    counted = ap requests_in waiting ∙ requests_of_map f (era_at old id).prep

    open_safe : IsOpenSafe (era_at old id) caller (queue_at flow id) round
    open_safe = record {
      call = call;
      is_open = is_open;
      same_key = begins.opened.0.of_key;
      same_era = begins.opened.0.in_era;
      ballot = subst FitsBallot (sym begins.opened.0.at) begins.drawn.fits;
      ride = λ b some. absurd (cc (some, begins.opened.0.ride));
      about = about_members f (era_at old id).prep (asked_in (era_at old id) round.phase) (queue_at flow id).messages (λ to. refl) waiting asked;
      asks = λ e request h. ask_prepares f (era_at old id).prep (queue_at flow id).messages (λ to. refl) waiting request h;
      harmed_set = subst IsMemberSet (sym unharmed) no_harm;
      harmed_within = λ a h. absurd (cc (sym h ∙ ap (λ (l : List ℕ). has_member l a) unharmed));
      unproposed = λ e. unproposed;
      prepare_room = λ e. omega (arith, enough (era_at old id) (was.prep_sets id) (was.acc_sets id) call.reserved room);
      proposed = λ e. absurd (cc (e, preparing.0));
      accept_room = λ e. absurd (cc (e, preparing.0));
    }

    safe : IsPartySafe (era_at old id) (length old.marks) id now caller (queue_at flow id)
    safe = record {
      same_id = ap (λ (d : DeskView V). d.id) begins.desk ∙ party.same_id;
      idle = λ down. absurd (cc (down, up, ap (λ (d : DeskView V). d.down) begins.desk));
      number = party.number;
      few = party.few;
      cached = λ key ready h. party.cached key ready (contains_without call.key desk.cache (subst (λ (l : List (List ℕ × Ready)). Contains l (key, ready)) (ap (λ (d : DeskView V). d.cache) begins.desk) h));
      round = subst (IsRoundSafe (era_at old id) caller (queue_at flow id)) (sym (ap (λ (d : DeskView V). d.round) begins.desk)) open_safe;
      room = omega (arith, sends.room, counted, length-map (era_at old id).prep (λ (to : ℕ). message.Request (f to)));
    }
