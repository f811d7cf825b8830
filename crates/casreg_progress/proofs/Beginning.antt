-- How a ready line begins: with a phase whose members are ready for its requests, or it is over well at once.
use Rattle.std.proofs.Common.{◌≡◌, ◌<◌, ◌≤◌, ◌-◌, ◌^◌, ℕ, suc, Bool, true, false, List, [], ◌++◌, Option, None, Some, slice_set, refl, sym, ap, ap₂, subst, ◌∙◌, inl, inr, arith}
use Rattle.std.specs.Prelude.{◌+◌, cond, map, Contains}
use Rattle.cas_base.proofs.Bools.{not_both}
use Rattle.cas_ballot.specs.declared.ballot.Ballot.{Ballot}
use Rattle.cas_ballot.specs.Members.{has_member}
use Rattle.cas_cache.specs.declared.ready.Ready.{Ready}
use Rattle.cas_cache.specs.Entries.{promise_at}
use Rattle.cas_change.specs.declared.outcome.Outcome.{Outcome}
use Rattle.cas_change.specs.declared.outcome.Took.{Took}
use Rattle.cas_change.specs.declared.program.Clause.{Clause}
use Rattle.cas_change.specs.declared.state.State.{State}
use Rattle.cas_flow.specs.Flow.{FlowView, queue_at}
use Rattle.cas_flow.specs.declared.message.Message.{Message}
use Rattle.cas_flow.specs.declared.message.Message.TheVariants as message
use Rattle.cas_acceptor.specs.Acceptor.{AcceptorView}
use Rattle.cas_proposer.specs.Desk.{DeskView}
use Rattle.cas_proposer.specs.Round.{IsPrepare, is_preparing}
use Rattle.cas_proposer.specs.declared.round.OpenPhase.{OpenPhase}
use Rattle.cas_proposer.specs.declared.round.OpenPhase.TheVariants.{Prepare, Accept}
use Rattle.cas_proposer.specs.declared.round.Round.{Round}
use Rattle.cas_quorum.specs.declared.era.Era.{Era}
use Rattle.cas_record.specs.declared.answer.Answer.{Answer}
use Rattle.cas_record.specs.declared.answer.Answer.TheVariants as answer
use Rattle.cas_round.proofs.Lists.{has}
use Rattle.cas_slot.specs.Ages.{least_age}
use Rattle.cas_slot.specs.declared.message.Ask.{Ask}
use Rattle.cas_slot.specs.declared.message.Ask.TheVariants as ask
use Rattle.cas_slot.specs.declared.message.Reply.{Reply}
use Rattle.cas_slot.specs.declared.message.Request.{Request}
use Rattle.cas_vault.specs.declared.kept.Kept.{Kept}
use Rattle.cas_vault.specs.declared.vault.Vault.{Vault}
use Rattle.cas_vault.specs.Vault.{counter_of, kept_of}
use Rattle.cas_model.specs.Safe.{IsSafe, IsSound}
use Rattle.cas_model.specs.Step as step
use Rattle.cas_model.specs.Step.{StepBegin}
use Rattle.cas_model.specs.Calls.Step as calls
use Rattle.cas_model.specs.Calls.Step.{round_marks, opened, prepares_to, accepts_to}
use Rattle.cas_model.specs.Calls.Desks.{MayHaveDrawn, HasDrawn}
use Rattle.cas_model.specs.View.{Meaning, DiskMeaning, View, CallView, CallerView, IsAt, new_call, era_at}
use Rattle.cas_model.proofs.Frames.Harms.{has_of_map, has_member_of}
use Rattle.cas_model.proofs.Places.{at_one, at_set, own_set, some_is}
use Rattle.cas_model.proofs.Calls.Safe.{opens_safe, accepts_is}
use Rattle.cas_model.proofs.Safety.Parts.{idle_at}
use Rattle.cas_model.proofs.Safety.Steps.{steps_are_safe}
use Rattle.cas_model_causes.specs.Calls.Causes.{CallIsTold}
use Rattle.cas_model_causes.specs.Calls.Undisturbed.{LetsPass, PreparesAfresh, AcceptsAfresh, BeginsToAsk}
use Rattle.cas_model_causes.proofs.Calls.Ends.{told_by, desk_by, ridden}
use Rattle.cas_model_causes.proofs.Calls.Undisturbed.{begin_to_ask}
use Rattle.casreg_progress.specs.Lines.{ballot_by, next_ballot, IsMemberOf, IsReadyFor, IsReadyToBegin, AreReady}
use Rattle.casreg_progress.proofs.Fitting.{IsOpenTo, AllAsked, IsUnderway}
use Rattle.casreg_progress.proofs.Standing.{Shows, opens_in}

-- ---- how a call stands
-- it was told nothing yet, or that it is done at this ballot, or that there was no memory, or its desk went down by a fault of its vault
pub data EndsWell {S V : Type 0} (ballot : Ballot) (view : View S V) (id : ℕ) : Type 0 where
  untold : CallIsTold view id None → EndsWell ballot view id
  done : (state : State) (took : Took) → CallIsTold view id (Some (answer.Done state took ballot)) → EndsWell ballot view id
  no_memory : (proposed : Bool) → CallIsTold view id (Some (answer.NoMemory proposed)) → EndsWell ballot view id
  goes_down : CallIsTold view id (Some answer.VaultFault) → (desk : DeskView V) → IsAt view.desks id desk → desk.down ≡ true → EndsWell ballot view id

-- a phase at this ballot has just begun whose members are ready for its requests, or no round is open and the call stands well
pub data Begun {S V : Type 0} (m : Meaning S V) (era : Era) (ballot : Ballot) (id : ℕ) (view : View S V) : Type 0 where
  prepares : (round : Round) (age : ℕ) → PreparesAfresh view id round → round.era ≡ era → round.ballot ≡ ballot → IsUnderway m era id age (ask.Prepare round.key round.ballot) view → Shows view id (Some true) → CallIsTold view id None → IsSafe view → Begun m era ballot id view
  accepts : (prepared : List Reply) (round : Round) (outcome : Outcome) (age : ℕ) → AcceptsAfresh view id prepared round outcome → round.era ≡ era → round.ballot ≡ ballot
      → IsUnderway m era id age (ask.Accept round.key round.ballot round.era.number round.ride outcome.state) view → Shows view id (Some false) → CallIsTold view id None → IsSafe view → Begun m era ballot id view
  over : Shows view id None → EndsWell ballot view id → Begun m era ballot id view

-- ---- ages of vaults
drawn_age : (low : Bool) (kept : Kept) (bound : ℕ) → (cond low (record kept { bound = bound }) kept).age ≡ kept.age
drawn_age true kept bound = refl
drawn_age false kept bound = refl

pub has_drawn_age : {V : Type 0} (m : DiskMeaning V) (id : ℕ) (old new : Vault V) (ballot : Ballot) → HasDrawn m id old new ballot → (kept_of new).age ≡ (kept_of old).age
has_drawn_age m id old new ballot drawn = ap (λ (k : Kept). k.age) drawn.draws.kept ∙ drawn_age _ (kept_of old) _

pub may_age : {V : Type 0} (m : DiskMeaning V) (id : ℕ) (old new : Vault V) (ballot : Option Ballot) → MayHaveDrawn m id old new ballot → (kept_of new).age ≡ (kept_of old).age
may_age m id old new None kept = ap (λ (k : Kept). k.age) kept.shows.kept
may_age m id old new (Some ballot) drawn = has_drawn_age m id old new ballot drawn

-- ---- requests
sent_to : (messages : List Message) (request : ℕ → Request) (members : List ℕ) → messages ≡ map (λ to. message.Request (request to)) members → (each : Request) → Contains messages (message.Request each) → (to : ℕ) × (has_member members to ≡ true) × (request to ≡ each)
sent_to messages request members is each waits =
    let of = has_of_map (λ to. message.Request (request to)) (message.Request each) members (has (message.Request each) (map (λ to. message.Request (request to)) members) (subst (λ (l : List Message). Contains l (message.Request each)) is waits)) in
    (of.0, has_member_of of.0 members of.1.0, cc of.1.1)

-- the same requests, as two say them: the one whom they ask and what, the other their age
pub all_asked : (era : Era) (id age : ℕ) (question : Ask) (messages : List Message) (asks ages : ℕ → Request) (members others : List ℕ) → messages ≡ map (λ to. message.Request (asks to)) members → messages ≡ map (λ to. message.Request (ages to)) others
    → ((n : ℕ) → has_member members n ≡ true → IsMemberOf era (asks n).to) → ((n : ℕ) → (asks n).from ≡ id) → ((n : ℕ) → (asks n).ask ≡ question) → ((n : ℕ) → (ages n).age ≡ age) → AllAsked era id age question messages
all_asked era id age question messages asks ages members others is aged to from ask_is age_is request waits =
    let by = sent_to messages asks members is request waits in
    let of = sent_to messages ages others aged request waits in
    record {
      to = subst (λ (r : Request). IsMemberOf era r.to) by.2 (to by.0 by.1);
      from = ap (λ (r : Request). r.from) (sym by.2) ∙ from by.0;
      of_age = ap (λ (r : Request). r.age) (sym of.2) ∙ age_is of.0;
      ask = ap (λ (r : Request). r.ask) (sym by.2) ∙ ask_is by.0;
    }

-- ---- phases
pub prepare_phase : (era : Era) (ballot : Ballot) (replies : List Reply) (phase : OpenPhase) → IsPrepare era ballot replies phase → is_preparing phase ≡ true
prepare_phase era ballot replies (Prepare phase) is = refl
prepare_phase era ballot replies (Accept phase) is = absurd is

pub shows_by : {S V : Type 0} (old new : View S V) (id : ℕ) (desk now : DeskView V) (phase : Option Bool) → IsAt old.desks id desk → new.desks ≡ slice_set old.desks id now → opens_in now.round ≡ phase → Shows new id phase
shows_by old new id desk now phase at is opens = record { desk = now; at_desk = desk_by old new id desk now at is; phase_is = opens }

-- the desk that was put has that age
pub age_by : {S V : Type 0} (old new : View S V) (id age : ℕ) (now : DeskView V) → new.desks ≡ slice_set old.desks id now → (kept_of now.vault).age ≡ age → (desk : DeskView V) → IsAt new.desks id desk → (kept_of desk.vault).age ≡ age
age_by {S} {V} old new id age now is aged desk at = ap (λ (d : DeskView V). (kept_of d.vault).age) (own_set old.desks id now desk (subst (λ (l : List (DeskView V)). IsAt l id desk) is at)) ∙ aged

-- ---- a call that is opened
record IsCallOpened {S V : Type 0} (m : Meaning S V) (old middle : View S V) (id : ℕ) (key : List ℕ) (program : List Clause) (call : CallView) : Type 0 where
  pub era : era_at middle id ≡ era_at old id
  pub desks : middle.desks ≡ old.desks
  pub all_ready : AreReady m middle id key
  pub call_is : call ≡ new_call key program (round_marks (era_at middle id) - 1)

is_new : {S V : Type 0} (m : Meaning S V) (old middle : View S V) (id : ℕ) (key : List ℕ) (program : List Clause) → AreReady m old id key → ((caller : CallerView) → IsAt old.callers id caller → caller.call ≡ None) → calls.Opens old id key program middle
    → (caller : CallerView) (call : CallView) → IsAt middle.callers id caller → caller.call ≡ Some call → IsCallOpened m old middle id key program call
is_new {S} {V} m old middle id key program ready none_open (calls.first was at was_none room is) caller call there is_call = record {
  era = ap (λ (w : View S V). era_at w id) is;
  desks = ap (λ (w : View S V). w.desks) is;
  all_ready = subst (λ (w : View S V). AreReady m w id key) (sym is) (record { desk = ready.desk; at_desk = ready.at_desk; begins = ready.begins; members = ready.members });
  call_is = some_is (sym is_call ∙ ap (λ (c : CallerView). c.call) (sym same)) ∙ ap (λ (e : Era). new_call key program (round_marks e - 1)) (sym (ap (λ (w : View S V). era_at w id) is));
}
  where
    next : CallerView
    next = record { number = suc was.number; call = Some (new_call key program (round_marks (era_at old id) - 1)) }

    same : next ≡ caller
    same = at_one middle.callers id (subst (λ (l : List CallerView). IsAt l id next) (sym (ap (λ (w : View S V). w.callers) is)) (at_set old.callers id was next at)) there
is_new m old middle id key program ready none_open (calls.again was open_call reserved at is_open key_is program_is none_proposed met no_round room some is) caller call there is_call = absurd (cc (none_open was at, is_open))

-- what is ready of the desk that stands there
record ReadyDesk {S V : Type 0} (m : Meaning S V) (view : View S V) (id : ℕ) (key : List ℕ) (desk : DeskView V) : Type 0 where
  pub begins : IsReadyToBegin desk key
  pub members : (member : ℕ) → IsMemberOf (era_at view id) member → (acceptor : AcceptorView S) × IsAt view.acceptors member acceptor × IsReadyFor m.shelves desk key acceptor

ready_desk : {S V : Type 0} (m : Meaning S V) (view : View S V) (id : ℕ) (key : List ℕ) (desk : DeskView V) → AreReady m view id key → IsAt view.desks id desk → ReadyDesk m view id key desk
ready_desk {S} {V} m view id key desk ready at = subst (ReadyDesk m view id key) (at_one view.desks id ready.at_desk at) (record { begins = ready.begins; members = ready.members })

-- ---- the beginning
pub begins : {S V : Type 0} (m : Meaning S V) (old new : View S V) (id : ℕ) (key : List ℕ) (program : List Clause) → IsSafe old → (ready : AreReady m old id key) → ((caller : CallerView) → IsAt old.callers id caller → caller.call ≡ None)
    → StepBegin m old id key program new → Begun m (era_at old id) (next_ballot ready.desk key) id new
begins {S} {V} m old new id key program safe ready none_open by = subst (λ (e : Era). Begun m e (next_ballot ready.desk key) id new) fresh.era (in_round by.begins)
  where
    fresh : IsCallOpened m old by.middle id key program by.call
    fresh = is_new m old by.middle id key program ready none_open by.opens by.caller by.call by.at_caller by.is_open

    era : Era
    era = era_at by.middle id

    key_is : by.call.key ≡ key
    key_is = ap (λ (c : CallView). c.key) fresh.call_is

    middle_safe : IsSound by.middle
    middle_safe = opens_safe old id key program by.middle safe.sound by.opens

    new_safe : IsSafe new
    new_safe = steps_are_safe m old (step.Begin id key program) new safe by

    asks : BeginsToAsk new id
    asks = begin_to_ask m old new id key program safe by

    same_id : (desk : DeskView V) → IsAt by.middle.desks id desk → desk.id ≡ id
    same_id desk at = (middle_safe.parties id desk by.caller at by.at_caller).same_id

    ready_at : (desk : DeskView V) → IsAt by.middle.desks id desk → ReadyDesk m by.middle id key desk
    ready_at desk at = ready_desk m by.middle id key desk fresh.all_ready at

    empty : (desk : DeskView V) → IsAt by.middle.desks id desk → desk.round ≡ None → (queue_at by.middle.flow id).messages ≡ []
    empty desk at none = (idle_at (era_at by.middle id) by.caller (queue_at by.middle.flow id) desk.round none (middle_safe.parties id desk by.caller at by.at_caller).round).none_waits

    waits : (desk : DeskView V) (messages : List Message) (flow : FlowView) → IsAt by.middle.desks id desk → desk.round ≡ None → calls.Sends by.middle.flow id messages flow → new.flow ≡ flow → (queue_at new.flow id).messages ≡ messages
    waits desk messages flow at none sends is = ap (λ (f : FlowView). (queue_at f id).messages) is ∙ sends.own ∙ ap (λ (l : List Message). l ++ messages) (empty desk at none)

    told_none : (told : Option Answer) → by.call.told ≡ told → new.callers ≡ by.middle.callers → CallIsTold new id told
    told_none told is same = record { caller = by.caller; at_caller = subst (λ (l : List CallerView). IsAt l id by.caller) (sym same) by.at_caller; call = by.call; is_open = by.is_open; told_is = is }

    -- each member that is ready lets pass what is asked at the ballot of the next round
    opens : (desk : DeskView V) → IsAt by.middle.desks id desk → new.acceptors ≡ by.middle.acceptors → (question : Ask) → ((acceptor : AcceptorView S) → IsReadyFor m.shelves desk key acceptor → LetsPass (m.shelves.contents acceptor.shelf) question)
        → (member : ℕ) → IsMemberOf era member → IsOpenTo m new id (kept_of desk.vault).age question member
    opens desk at same question passes member is =
        let r = (ready_at desk at).members member is in
        record {
          acceptor = r.0;
          at_acceptor = subst (λ (l : List (AcceptorView S)). IsAt l member r.0) (sym same) r.1;
          up = r.2.up;
          answers_age = subst (λ (p : ℕ). least_age (m.shelves.contents r.0.shelf).ages p ≤ (kept_of desk.vault).age) (same_id desk at) r.2.age;
          passes = passes r.0 r.2;
        }

    -- the ballot of the round that begins
    drawn_is : (desk : DeskView V) (ballot : Ballot) → promise_at by.call.key desk.cache ≡ None → ballot ≡ record { counter = counter_of desk.vault + 1; proposer = desk.id } → next_ballot desk key ≡ ballot
    drawn_is desk ballot no_promise next = ap (λ (k : List ℕ). next_ballot desk k) (sym key_is) ∙ ap (ballot_by desk.id (counter_of desk.vault)) no_promise ∙ sym next

    -- the desk is that of before
    next_is : (desk : DeskView V) → IsAt by.middle.desks id desk → next_ballot desk key ≡ next_ballot ready.desk key
    next_is desk at = ap (λ (d : DeskView V). next_ballot d key) (at_one old.desks id (subst (λ (l : List (DeskView V)). IsAt l id desk) fresh.desks at) ready.at_desk)

    promised_is : (desk : DeskView V) (ready_by : Ready) → promise_at by.call.key desk.cache ≡ Some ready_by → next_ballot desk key ≡ ready_by.ballot
    promised_is desk ready_by promise = ap (λ (k : List ℕ). next_ballot desk k) (sym key_is) ∙ ap (ballot_by desk.id (counter_of desk.vault)) promise

    over_at : (desk now : DeskView V) → IsAt by.middle.desks id desk → new.desks ≡ slice_set by.middle.desks id now → now.round ≡ None → EndsWell (next_ballot ready.desk key) new id → Begun m era (next_ballot ready.desk key) id new
    over_at desk now at is none well = over (shows_by by.middle new id desk now None at is (ap opens_in none)) well

    stays_by : (told : Answer) → calls.IsNoBeginning told → ((desk : DeskView V) → IsAt by.middle.desks id desk → (desk.round ≡ None) × (told ≡ answer.Down → desk.down ≡ true)) → (told ≡ answer.RecordFull → calls.IsFull by.middle id × (suc by.call.reserved < round_marks era))
        → CallIsTold new id (Some told) → EndsWell (next_ballot ready.desk key) new id
    stays_by answer.Down no_beginning no_round full is = absurd (not_both _ ((no_round fresh.all_ready.desk fresh.all_ready.at_desk).1 refl) fresh.all_ready.begins.up)
    stays_by answer.RecordFull no_beginning no_round full is = absurd (omega (arith, (full refl).1, ap (λ (c : CallView). c.reserved) fresh.call_is))
    stays_by (answer.NoMemory proposed) no_beginning no_round full is = no_memory proposed is
    stays_by told no_beginning no_round full is = absurd no_beginning

    in_round : calls.BeginsRound m by.middle id by.caller by.call new → Begun m era (next_ballot ready.desk key) id new
    in_round (calls.prepares desk now ballot round flow at up few begun sends is) =
        let desks = ap (λ (w : View S V). w.desks) is in
        let about = begun.opened.0 in
        let key_same : by.call.key ≡ round.key = sym about.of_key in
        let question : ask.Prepare by.call.key ballot ≡ ask.Prepare round.key round.ballot = ap₂ (λ (k : List ℕ) (b : Ballot). ask.Prepare k b) key_same (sym about.at) in
        let question_next : ask.Prepare key (next_ballot desk key) ≡ ask.Prepare round.key round.ballot = ap₂ (λ (k : List ℕ) (b : Ballot). ask.Prepare k b) (sym key_is ∙ key_same) (drawn_is desk ballot begun.no_promise begun.drawn.draws.next ∙ sym about.at) in
        let sent = waits desk (prepares_to id (kept_of desk.vault).age by.call.key ballot era.prep) flow at begun.none_open sends (ap (λ (w : View S V). w.flow) is) in
        let request : ℕ → Request = λ (to : ℕ). record { to = to; from = id; age = (kept_of desk.vault).age; ask = ask.Prepare by.call.key ballot } in
        prepares round (kept_of desk.vault).age
        (asks.prepares round (record { desk = now; at_desk = desk_by by.middle new id desk now at desks; is_open = ap (λ (d : DeskView V). d.round) begun.desk; preparing = begun.opened.1 })) about.in_era (about.at ∙ sym (drawn_is desk ballot begun.no_promise begun.drawn.draws.next) ∙ next_is desk at)
        (record {
          asked = all_asked era id (kept_of desk.vault).age (ask.Prepare round.key round.ballot) (queue_at new.flow id).messages request request era.prep era.prep sent sent (λ n member. inl member) (λ n. refl) (λ n. question) (λ n. refl);
          members = opens desk at (ap (λ (w : View S V). w.acceptors) is) (ask.Prepare round.key round.ballot) (λ acceptor r. subst (LetsPass (m.shelves.contents acceptor.shelf)) question_next (r.seen, r.room));
          desk_age = age_by by.middle new id (kept_of desk.vault).age now desks (has_drawn_age m.disks desk.id desk.vault now.vault ballot begun.drawn);
        })
        (shows_by by.middle new id desk now (Some true) at desks (ap opens_in (ap (λ (d : DeskView V). d.round) begun.desk) ∙ ap (λ (b : Bool). Some b) (prepare_phase round.era round.ballot [] round.phase begun.opened.1.phase)))
        (told_none None (ap (λ (c : CallView). c.told) fresh.call_is) (ap (λ (w : View S V). w.callers) is)) new_safe
    in_round (calls.proposes desk now ready_by ride round outcome flow at up few begun made sends is) =
        let desks = ap (λ (w : View S V). w.desks) is in
        let about = begun.opened.0 in
        let goes : Round = record round { ride = ride } in
        let accepting = ridden [] [] round ride begun.opened.1 in
        let afresh = asks.accepts goes (record { desk = now; at_desk = desk_by by.middle new id desk now at desks; is_open = ap (λ (d : DeskView V). d.round) begun.desk; accepting = accepting }) in
        let sent = waits desk (accepts_to id (kept_of desk.vault).age round.key round.ballot round.era.number ride outcome.state round.era.acc) flow at begun.none_open sends (ap (λ (w : View S V). w.flow) is) in
        let question : Ask = ask.Accept goes.key goes.ballot goes.era.number goes.ride afresh.0.state in
        accepts [] goes afresh.0 (kept_of desk.vault).age afresh.1 about.in_era (about.at ∙ sym (promised_is desk ready_by begun.promise) ∙ next_is desk at)
        (record {
          asked = all_asked era id (kept_of desk.vault).age question (queue_at new.flow id).messages (λ to. record { to = to; from = id; age = afresh.1.age; ask = question })
              (λ to. record { to = to; from = id; age = (kept_of desk.vault).age; ask = ask.Accept round.key round.ballot round.era.number ride outcome.state }) round.era.acc round.era.acc afresh.1.waits sent
              (λ n member. inr (subst (λ (e : Era). has_member e.acc n ≡ true) about.in_era member)) (λ n. refl) (λ n. refl) (λ n. refl);
          members = opens desk at (ap (λ (w : View S V). w.acceptors) is) question
              (λ acceptor r. subst (λ (k : List ℕ). LetsPass (m.shelves.contents acceptor.shelf) (ask.Accept k round.ballot round.era.number ride afresh.0.state)) (sym key_is ∙ sym about.of_key)
              (subst (λ (b : Ballot). LetsPass (m.shelves.contents acceptor.shelf) (ask.Accept key b round.era.number ride afresh.0.state)) (promised_is desk ready_by begun.promise ∙ sym about.at) (inr (r.seen, r.room))));
          desk_age = age_by by.middle new id (kept_of desk.vault).age now desks (may_age m.disks desk.id desk.vault now.vault ride begun.drawn);
        })
        (shows_by by.middle new id desk now (Some false) at desks (ap opens_in (ap (λ (d : DeskView V). d.round) begun.desk) ∙ ap (λ (b : Bool). Some b) (accepts_is round.era round.ballot [] round.phase accepting.phase).0))
        (told_by by.middle new id by.caller (calls.proposing by.call outcome) by.at_caller (ap (λ (w : View S V). w.callers) is)) new_safe
    in_round (calls.stays told no_beginning no_round full is) =
        over (record {
          desk = fresh.all_ready.desk;
          at_desk = subst (λ (l : List (DeskView V)). IsAt l id fresh.all_ready.desk) (sym (ap (λ (w : View S V). w.desks) is)) fresh.all_ready.at_desk;
          phase_is = ap opens_in fresh.all_ready.begins.none_open;
        }) (stays_by told no_beginning no_round full (told_by by.middle new id by.caller (calls.over by.call told) by.at_caller (ap (λ (w : View S V). w.callers) is)))
    in_round (calls.spent desk now at none_open up no_promise spent kept now_is is) =
        let low : counter_of desk.vault < 2 ^ 48 = (ready_at desk at).begins.unspent (ap (λ (k : List ℕ). promise_at k desk.cache) (sym key_is) ∙ no_promise) in
        absurd (omega (arith, low, spent))
    in_round (calls.fails desk now at none_open up fails is) =
        over_at desk now at (ap (λ (w : View S V). w.desks) is) (ap (λ (d : DeskView V). d.round) fails.desk)
        (goes_down (told_by by.middle new id by.caller (calls.over by.call answer.VaultFault) by.at_caller (ap (λ (w : View S V). w.callers) is)) now (desk_by by.middle new id desk now at (ap (λ (w : View S V). w.desks) is)) (ap (λ (d : DeskView V). d.down) fails.desk))
    in_round (calls.loses desk now ballot at none_open up loses is) =
        over_at desk now at (ap (λ (w : View S V). w.desks) is) (ap (λ (d : DeskView V). d.round) loses.desk)
        (no_memory false (told_by by.middle new id by.caller (calls.over by.call (answer.NoMemory false)) by.at_caller (ap (λ (w : View S V). w.callers) is)))
