-- Each line of a script leaves a safe cluster safe, and a remembered one remembered.
use Rattle.std.proofs.Common.{◌≡◌, ℕ, Bool, List, sym, ap, subst}
use Rattle.cas_change.specs.declared.program.Clause.{Clause}
use Rattle.cas_lines.specs.declared.answer.EventAnswer.{EventAnswer}
use Rattle.cas_lines.specs.declared.command.Command.{Command}
use Rattle.cas_record.specs.declared.answer.Answer.{Answer}
use Rattle.cas_model.specs.History.{IsRemembered}
use Rattle.cas_model.specs.Safe.{IsSafe}
use Rattle.cas_model.specs.Step as step
use Rattle.cas_model.specs.Step.{Event, Step}
use Rattle.cas_model.specs.View.{Meaning, View}
use Rattle.cas_model.proofs.Safety.Steps.{steps_are_safe}
use Rattle.cas_model.proofs.ViewLaws.{steps}
use Rattle.casreg_script.specs.Calls.Changes as changes
use Rattle.casreg_script.specs.Calls.Changes.{Turned, FailsToTurn, EndsPrepareBy, IsAcceptedBy, IsRoundBy, AreRounds, AreRoundsBy, IsChange}
use Rattle.casreg_script.specs.Collection.Collections as collections
use Rattle.casreg_script.specs.Collection.Collections.{EndsReading, EndsVoting, HasRounds, HasTaken, IsCalled, IsCollection, TakesCollectStep}
use Rattle.casreg_script.specs.Frames.Conditions.{NetworkView}
use Rattle.casreg_script.specs.Events as events
use Rattle.casreg_script.specs.Events.{CrashesAcceptor, RestartsAcceptor, RestartsProposer, AnswersStray}
use Rattle.cas_change.specs.declared.program.Act.TheVariants.{Keep}
use Rattle.cas_change.specs.declared.program.Guard.TheVariants.{Always}
use Rattle.cas_lines.specs.Command.{one}
use Rattle.cas_record.specs.declared.operator.Asked.{Asked}
use Rattle.cas_record.specs.declared.operator.Asked.TheVariants as asked
use Rattle.cas_record.specs.declared.operator.OpAnswer.{OpAnswer}
use Rattle.cas_model.specs.Council.{Probe, NextKeys}
use Rattle.casreg_script.specs.Exchanges.Exchanges as exchanges
use Rattle.casreg_script.specs.Exchanges.Exchanges.{AskTurned, AsksMembers}
use Rattle.casreg_script.specs.Eras.Membership as membership
use Rattle.casreg_script.specs.Eras.Membership.{Advances, HasAdvanced, IsTakenUp, ChangesMembers}
use Rattle.casreg_script.specs.Exchanges.Probes as probes
use Rattle.casreg_script.specs.Exchanges.Probes.{IsInquiry}
use Rattle.casreg_script.specs.Script as script
use Rattle.casreg_script.specs.Frames.Strays as strays
use Rattle.casreg_script.specs.Frames.Strays.{LetsStrayIn}
use Rattle.casreg_script.specs.Script.{State, LineAnswer, RunsEvent, IsAnswered}
use Rattle.casreg_script.specs.declared.halt.Halt.{Halt}
use Rattle.casreg_progress.specs.Runs.{LinesKeepSafe, LinesKeepRemembered}

-- ---- what stays
-- a cluster that was safe is safe, and one that was remembered is, if shelves and disks tell what they keep
abbrev pub Stays : {S V : Type 0} → Meaning S V → View S V → View S V → Type 0
Stays m old new = (IsSafe old → IsSafe new) × (m.shelves.tells → m.disks.tells → IsRemembered m old → IsRemembered m new)

pub same : {S V : Type 0} (m : Meaning S V) (old : View S V) → Stays m old old
same m old = (λ was. was, λ shelves disks was. was)

pub both : {S V : Type 0} (m : Meaning S V) (old mid new : View S V) → Stays m old mid → Stays m mid new → Stays m old new
both m old mid new before after = (λ was. after.0 (before.0 was), λ shelves disks was. after.1 shelves disks (before.1 shelves disks was))

by_step : {S V : Type 0} (m : Meaning S V) (old new : View S V) (event : Event) → Step m old event new → Stays m old new
by_step m old new event by = (λ was. steps_are_safe m old event new was by, λ shelves disks was. steps m shelves disks old event new was by)

-- ---- a late frame
stray_stays : {S V : Type 0} (m : Meaning S V) (old new : View S V) (index : ℕ) (answer : EventAnswer) → AnswersStray m old index answer new → Stays m old new
stray_stays m old new index answer (events.absent none) = same m old
stray_stays m old new index answer (events.strays by) = by_step m old new (step.Stray index) by
stray_stays m old new index answer (events.full low is) = same m old
stray_stays m old new index answer (events.no_memory low by) = by_step m old new step.RefuseStray by

lets_stays : {S V : Type 0} (m : Meaning S V) {net next : NetworkView} (old new : View S V) → LetsStrayIn m net old next new → Stays m old new
lets_stays m old new (strays.none names) = same m old
lets_stays m old new (strays.one place answer names by) = stray_stays m old new place answer by

-- ---- a change
turned_stays : {S V : Type 0} (m : Meaning S V) {net : NetworkView} (id : ℕ) (old : View S V) {next : NetworkView} {again : Bool} (new : View S V) → Turned m net id old next again new
    → Stays m old new
turned_stays m id old new changes.none = same m old
turned_stays m id old new (changes.one_more {verdict = verdict} {mid = mid} {near = near} frame before lets at decides by) =
    both m old mid new (turned_stays m id old mid before) (both m mid near new (lets_stays m mid near lets) (by_step m near new (step.Turn id verdict) by))

fails_stays : {S V : Type 0} (m : Meaning S V) {net next : NetworkView} (id : ℕ) (old new : View S V) → FailsToTurn m net id old next new → Stays m old new
fails_stays m id old new by =
    both m old by.mid new (turned_stays m id old by.mid by.turned) (both m by.mid by.near new (lets_stays m by.mid by.near by.lets_in) (by_step m by.near new (step.RefuseTurn id) by.fails))

module _ {S V : Type 0} (m : Meaning S V) (id : ℕ) {Begins Ends Counts : View S V → View S V → Type 0} (begin_stays : (old new : View S V) → Begins old new → Stays m old new) (end_stays : (old new : View S V) → Ends old new → Stays m old new) (count_stays : (old new : View S V) → Counts old new → Stays m old new) where
  prepare_stays : {net next : NetworkView} (halt : Halt) (old new : View S V) → EndsPrepareBy Ends m net id halt old next new → Stays m old new
  prepare_stays halt old new by = both m old by.turned new (turned_stays m id old by.turned by.turns.turned) (end_stays by.turned new by.proposes)

  accepted_stays : {net next : NetworkView} (halt after : Halt) (old new : View S V) → IsAcceptedBy Counts m net id halt old next after new → Stays m old new
  accepted_stays halt after old new (changes.cut_short (changes.halts accepting due by)) = by_step m old new (step.CrashProposer id) by
  accepted_stays halt after old new (changes.cut_short (changes.no_memory not_due by)) = fails_stays m id old new by
  accepted_stays halt after old new (changes.counts {turned = turned} not_due turns by) = both m old turned new (turned_stays m id old turned turns.turned) (count_stays turned new by)

  round_stays : {net next : NetworkView} (halt after : Halt) (old new : View S V) → IsRoundBy Ends Counts m net id halt old next after new → Stays m old new
  round_stays halt after old new changes.none_begun = same m old
  round_stays halt after old new (changes.by_promise accepted) = accepted_stays halt after old new accepted
  round_stays halt after old new (changes.cut_off (changes.no_memory by)) = fails_stays m id old new by
  round_stays halt after old new (changes.cut_off (changes.halts {turned = turned} turns strikes by)) =
      both m old turned new (turned_stays m id old turned turns.turned) (by_step m turned new (step.CrashProposer id) by)
  round_stays halt after old new (changes.ends_short by) = prepare_stays halt old new by
  round_stays halt after old new (changes.proposes {proposed = proposed} by accepted) = both m old proposed new (prepare_stays halt old proposed by) (accepted_stays halt after proposed new accepted)

  rounds_stay_by : {net next : NetworkView} (tries : ℕ) (halt after : Halt) (old new : View S V) → AreRoundsBy Begins Ends Counts m id tries net halt old next after new → Stays m old new
  rounds_stay_by tries halt after old new (changes.last by ends) = round_stays halt after old new by
  rounds_stay_by tries halt after old new (changes.another {mid = mid} {met = met} {begun = begun} many by is_met begins more) =
      both m old met new (round_stays halt mid old met by) (both m met begun new (begin_stays met begun begins) (rounds_stay_by _ mid after begun new more))

rounds_stay : {S V : Type 0} (m : Meaning S V) {net next : NetworkView} (id : ℕ) (key : List ℕ) (program : List Clause) (tries : ℕ) (halt after : Halt) (old new : View S V)
    → AreRounds m id key program tries net halt old next after new → Stays m old new
rounds_stay m id key program tries halt after old new by =
    rounds_stay_by m id (λ before next begins. by_step m before next (step.Begin id key program) begins) (λ before next ends. by_step m before next (step.Propose id) ends)
    (λ before next counts. by_step m before next (step.Count id) counts) tries halt after old new by

change_stays : {S V : Type 0} (m : Meaning S V) (tries : ℕ) {net next : NetworkView} (id : ℕ) (key : List ℕ) (program : List Clause) (halt after : Halt) (old new : View S V) (answer : Answer)
    → IsChange m tries net id key program halt old answer next after new → Stays m old new
change_stays m tries id key program halt after old new answer (changes.refused is by) = by_step m old new (step.RefuseBegin id key) by
change_stays m tries id key program halt after old new answer (changes.ended {begun = begun} {told = told} begins rounds ends) =
    both m old begun new (by_step m old begun (step.Begin id key program) begins)
    (both m begun told new (rounds_stay m id key program tries halt after begun told rounds) (by_step m told new (step.End id answer) ends))

-- ---- an event
crashes_stays : {S V : Type 0} (m : Meaning S V) (old new : View S V) (id : ℕ) (answer : EventAnswer) → CrashesAcceptor m old id answer new → Stays m old new
crashes_stays m old new id answer (events.absent none) = same m old
crashes_stays m old new id answer (events.crashes there by) = by_step m old new (step.CrashAcceptor id) by

restarts_stays : {S V : Type 0} (m : Meaning S V) (old new : View S V) (id : ℕ) (answer : EventAnswer) → RestartsAcceptor m old id answer new → Stays m old new
restarts_stays m old new id answer (events.absent none) = same m old
restarts_stays m old new id answer (events.restarts result there by tells) = by_step m old new (step.RestartAcceptor id) by

proposer_stays : {S V : Type 0} (m : Meaning S V) (old new : View S V) (id : ℕ) (answer : EventAnswer) → RestartsProposer m old id answer new → Stays m old new
proposer_stays m old new id answer (events.restarts result by tells) = by_step m old new (step.RestartProposer id) by

-- a state of the same world
same_world : {S V : Type 0} (m : Meaning S V) (old new : State S V) → new.world ≡ old.world → Stays m old.world new.world
same_world m old new is = subst (Stays m old.world) (sym is) (same m old.world)

event_stays : {S V : Type 0} (m : Meaning S V) (old new : State S V) (command : Command) (answer : EventAnswer) → RunsEvent m old command answer new → Stays m old.world new.world
event_stays {S} {V} m old new command answer (script.net is) = same_world m old new (ap (λ (s : State S V). s.world) is)
event_stays m old new command answer (script.crash_acceptor {id = id} {world = world} by) = crashes_stays m old.world world id answer by
event_stays m old new command answer (script.restart_acceptor {id = id} {world = world} by) = restarts_stays m old.world world id answer by
event_stays m old new command answer (script.crash_proposer {proposer = proposer} {world = world} by) = by_step m old.world world (step.CrashProposer proposer) by
event_stays m old new command answer (script.restart_proposer {proposer = proposer} {world = world} by) = proposer_stays m old.world world proposer answer by
event_stays {S} {V} m old new command answer (script.halt_prepared halt at is) = same_world m old new (ap (λ (s : State S V). s.world) is)
event_stays {S} {V} m old new command answer (script.halt_proposed halt at is) = same_world m old new (ap (λ (s : State S V). s.world) is)
event_stays m old new command answer (script.stray {index = index} {world = world} by) = stray_stays m old.world world index answer by

-- ---- an exchange
ask_turned_stays : {S V : Type 0} (m : Meaning S V) {net : NetworkView} (old : View S V) {next : NetworkView} {again : Bool} (new : View S V) → AskTurned m net old next again new → Stays m old new
ask_turned_stays m old new exchanges.none = same m old
ask_turned_stays m old new (exchanges.one_more {verdict = verdict} {mid = mid} {near = near} frame before lets at decides by) =
    both m old mid new (ask_turned_stays m old mid before) (both m mid near new (lets_stays m mid near lets) (by_step m near new (step.TurnExchange verdict) by))

asks_stays : {S V : Type 0} (m : Meaning S V) {net next : NetworkView} (asks gathers : Event) (old new : View S V) → AsksMembers m net asks gathers old next new → Stays m old new
asks_stays m asks gathers old new (exchanges.not_asked by none) = by_step m old new asks by
asks_stays m asks gathers old new (exchanges.no_memory {asked = asked} by fails) =
    both m old asked new (by_step m old asked asks by)
    (both m asked fails.mid new (ask_turned_stays m asked fails.mid fails.turned) (both m fails.mid fails.near new (lets_stays m fails.mid fails.near fails.lets_in) (by_step m fails.near new step.RefuseTurnExchange fails.fails)))
asks_stays m asks gathers old new (exchanges.gathered {asked = asked} {turned = turned} by turns gather) =
    both m old asked new (by_step m old asked asks by) (both m asked turned new (ask_turned_stays m asked turned turns.turned) (by_step m turned new gathers gather))

-- ---- a probe or a read
inquiry_stays : {S V : Type 0} (m : Meaning S V) {net next : NetworkView} (what : Asked) (key : List ℕ) (old new : View S V) (answer : OpAnswer) → IsInquiry m net what key old answer next new
    → Stays m old new
inquiry_stays m what key old new answer (probes.refused why by) = by_step m old new step.RefuseOrder by
inquiry_stays m what key old new answer (probes.told {ordered = ordered} {asked_all = asked_all} by asks tells) =
    both m old ordered new (by_step m old ordered (step.Order what) by)
    (both m ordered asked_all new (asks_stays m (step.AskAll (Probe key)) step.Gather ordered asked_all asks) (by_step m asked_all new (step.Tell answer) tells))

-- ---- a change of membership
advance_stays : {S V : Type 0} (m : Meaning S V) (tries : ℕ) {net next : NetworkView} (halt after : Halt) (old new : View S V) → Advances m tries net halt old next after new → Stays m old new
advance_stays m tries halt after old new (membership.lists places settles none asks) = asks_stays m (step.AskAll (NextKeys places)) step.Gather old new asks
advance_stays m tries halt after old new (membership.rescans key answer due change) = change_stays m tries 0 key (one Always Keep) halt after old new answer change
advance_stays m tries halt after old new (membership.no_memory by) = by_step m old new step.RefuseKey by
advance_stays m tries halt after old new (membership.enters proposer due by) = by_step m old new (step.EnterEra proposer) by

advanced_stays : {S V : Type 0} (m : Meaning S V) (tries : ℕ) {net : NetworkView} (halt : Halt) (old : View S V) {next : NetworkView} (after : Halt) (new : View S V)
    → HasAdvanced m tries net halt old next after new → Stays m old new
advanced_stays m tries halt old after new membership.none = same m old
advanced_stays m tries halt old after new (membership.one_more {before = before} {mid = mid} first on by) =
    both m old mid new (advanced_stays m tries halt old before mid first) (advance_stays m tries before after mid new by)

taken_up_stays : {S V : Type 0} (m : Meaning S V) (asked : Asked) (old new : View S V) → IsTakenUp m asked old new → Stays m old new
taken_up_stays m asked old new (membership.resumes is) = same m old
taken_up_stays m asked old new (membership.opens not_yet by) = by_step m old new step.OpenPlan by

members_stay : {S V : Type 0} (m : Meaning S V) (tries : ℕ) {net next : NetworkView} (asked : Asked) (halt after : Halt) (old new : View S V) (answer : OpAnswer)
    → ChangesMembers m tries net asked halt old answer next after new → Stays m old new
members_stay m tries asked halt after old new answer (membership.refused why by) = by_step m old new step.RefuseOrder by
members_stay m tries asked halt after old new answer (membership.told {ordered = ordered} {over = over} by carried tells) =
    both m old ordered new (by_step m old ordered (step.Order asked) by)
    (both m ordered carried.taken_up new (taken_up_stays m asked ordered carried.taken_up carried.takes_up) (both m carried.taken_up over new (advanced_stays m tries halt carried.taken_up after over carried.advances) (by_step m over new (step.Tell answer) tells)))

-- ---- a collection
reading_stays : {S V : Type 0} (m : Meaning S V) (old new : View S V) → EndsReading m old new → Stays m old new
reading_stays m old new (collections.reads_held version found by) = by_step m old new step.ReadHeld by
reading_stays m old new (collections.proposes none by) = by_step m old new (step.Propose 0) by

voting_stays : {S V : Type 0} (m : Meaning S V) (old new : View S V) → EndsVoting m old new → Stays m old new
voting_stays m old new (collections.acknowledges by) = by_step m old new step.CountCollect by
voting_stays m old new (collections.leaves_open by told) = by_step m old new (step.Count 0) by

called_stays : {S V : Type 0} (m : Meaning S V) (tries : ℕ) {net next : NetworkView} (key : List ℕ) (halt after : Halt) (old new : View S V) → IsCalled m tries net key halt old next after new
    → Stays m old new
called_stays {S} {V} m tries {net} {next} key halt after old new by = by_end by
  where
    has_rounds : {between : NetworkView} (last : View S V) (ends : Halt) → HasRounds m tries net key halt old between ends last → Stays m old last
    has_rounds last ends has =
        both m old has.begun last (by_step m old has.begun (step.BeginCollect key) has.begins)
        (rounds_stay_by m 0 (λ before next begins. by_step m before next (step.BeginCollect key) begins) (reading_stays m) (voting_stays m) tries halt ends has.begun last has.rounds)

    by_end : IsCalled m tries net key halt old next after new → Stays m old new
    by_end (collections.over has none) = has_rounds new after has
    by_end (collections.ended {told = told} answer has ends) = both m old told new (has_rounds told after has) (by_step m told new (step.EndCollect answer) ends)

takes_stays : {S V : Type 0} (m : Meaning S V) {net next : NetworkView} (old new : View S V) → TakesCollectStep m net old next new → Stays m old new
takes_stays m old new (collections.gathers by) = by_step m old new step.GatherRound by
takes_stays m old new (collections.renews proposer by) = by_step m old new (step.Renew proposer) by
takes_stays m old new (collections.asks by) = asks_stays m step.AskCollect step.GatherCollect old new by
takes_stays m old new (collections.marks by) = by_step m old new step.MakeFloor by

taken_stays : {S V : Type 0} (m : Meaning S V) {net : NetworkView} (old : View S V) {next : NetworkView} (new : View S V) → HasTaken m net old next new → Stays m old new
taken_stays m old new collections.none = same m old
taken_stays m old new (collections.one_more {mid = mid} before on by) = both m old mid new (taken_stays m old mid before) (takes_stays m mid new by)

collection_stays : {S V : Type 0} (m : Meaning S V) (tries : ℕ) {net next : NetworkView} (key : List ℕ) (halt after : Halt) (old new : View S V) (answer : OpAnswer)
    → IsCollection m tries net key halt old answer next after new → Stays m old new
collection_stays m tries key halt after old new answer (collections.refused why by) = by_step m old new step.RefuseOrder by
collection_stays m tries key halt after old new answer (collections.told {ordered = ordered} {over = over} by carried tells) =
    both m old ordered new (by_step m old ordered (step.Order (asked.Collect key)) by)
    (both m ordered carried.called new (called_stays m tries key halt after ordered carried.called carried.calls) (both m carried.called over new (taken_stays m carried.called over carried.takes) (by_step m over new (step.Tell answer) tells)))

-- ---- a line
pub line_stays : {S V : Type 0} (m : Meaning S V) (tries : ℕ) (old new : State S V) (line : List ℕ) (answer : LineAnswer) → IsAnswered m tries old line answer new → Stays m old.world new.world
line_stays m tries old new line answer (script.changes {answer = told} command asked is_line asks runs) =
    change_stays m tries asked.caller asked.key asked.program runs.halt runs.after old.world new.world told runs.change
line_stays m tries old new line answer (script.happens {answer = told} command is_line runs) = event_stays m old new command told runs
line_stays m tries old new line answer (script.shows id key is_line shown) = same m old.world
line_stays m tries old new line answer (script.probes {answer = told} key is_line runs) = inquiry_stays m (asked.Probe key) key old.world new.world told runs.probe
line_stays m tries old new line answer (script.reads key is_line runs) = inquiry_stays m (asked.Read key) key old.world new.world runs.read.said runs.read.inquiry
line_stays m tries old new line answer (script.collects {answer = told} key is_line runs) = collection_stays m tries key runs.halt runs.after old.world new.world told runs.collects
line_stays m tries old new line answer (script.changes_members {answer = told} command asked is_line asks runs) =
    members_stay m tries asked runs.halt runs.after old.world new.world told runs.changes
line_stays m tries old new line answer (script.refused why word is_line) = same m old.world
line_stays m tries old new line answer (script.remark is_line) = same m old.world

pub lines_keep_safe : {S V : Type 0} (m : Meaning S V) → LinesKeepSafe m
lines_keep_safe m tries old new line answer was by = (line_stays m tries old new line answer by).0 was

pub lines_keep_remembered : {S V : Type 0} (m : Meaning S V) → LinesKeepRemembered m
lines_keep_remembered m shelves disks tries old new line answer was by = (line_stays m tries old new line answer by).1 shelves disks was
