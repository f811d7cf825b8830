-- Whatever is called on a cluster, but for stops, whoever is blamed has failed.
use Rattle.std.proofs.Common.{◌≡◌, false, sym, ap, subst}
use Rattle.cas_model.specs.Safe.{IsSafe}
use Rattle.cas_model.specs.Step as step
use Rattle.cas_model.specs.Step.{Event, Step}
use Rattle.cas_model.specs.View.{Meaning, View}
use Rattle.cas_model.proofs.Safety.Steps.{steps_are_safe}
use Rattle.cas_model.proofs.ViewLaws.{steps}
use Rattle.cas_model_causes.proofs.Exchanges.Answering.{clusters_answer}
use Rattle.cas_model_causes.proofs.Exchanges.Asking.{probes_ask_all}
use Rattle.cas_model_causes.proofs.Exchanges.Current.{probes_are_current}
use Rattle.cas_model_causes.proofs.Exchanges.Probed.{probes_tell_so}
use Rattle.cas_model_causes.proofs.Exchanges.TooOld.{probes_are_unaged}
use Rattle.cas_model_causes.proofs.Eras.Tellings.{steps_tell_truly}
use Rattle.cas_record.specs.declared.operator.OpAnswer.TheVariants as told
use Rattle.cas_record.specs.declared.answer.Answer.TheVariants as answer
use Rattle.cas_board_world.specs.Steady.{IsBlamed, IsBlamedSince, IsSteady, is_stop}
use Rattle.cas_board_world.proofs.Parts.{on_telling}
use Rattle.cas_board_world.proofs.Callers.{begin_blamed, refuses_blamed, propose_blamed, count_blamed, end_blamed}
use Rattle.cas_board_world.proofs.Frames.{turn_blamed, refuse_turn_blamed, stray_blamed, no_room_blamed}
use Rattle.cas_board_world.proofs.Councils.{order_blamed, tell_blamed, ask_blamed, turn_exchange_blamed, refuse_exchange_blamed, gather_blamed}
use Rattle.cas_board_world.proofs.Plans.{open_blamed, enter_blamed}
use Rattle.cas_board_world.proofs.Collections.{begin_collect_blamed, read_held_blamed, count_collect_blamed, end_collect_blamed, gather_round_blamed, renew_blamed, ask_collect_blamed, gather_collect_blamed, make_floor_blamed}

pub blamed_then : {S V : Type 0} (m : Meaning S V) (old : View S V) (event : Event) (new : View S V) → is_stop event ≡ false → IsSafe old → IsBlamed m old → Step m old event new → IsBlamed m new
blamed_then m old (step.Begin id key program) new none safe (were, is) by = (were, begin_blamed m old id key program new safe is by)
blamed_then m old (step.RefuseBegin id key) new none safe (were, is) by = (were, refuses_blamed m old id key new is by)
blamed_then m old (step.Turn id verdict) new none safe (were, is) by = (were, turn_blamed m old id verdict new safe is by)
blamed_then m old (step.RefuseTurn id) new none safe (were, is) by = (were, refuse_turn_blamed m old id new is by)
blamed_then m old (step.Propose id) new none safe (were, is) by = (were, propose_blamed m old id new is by)
blamed_then m old (step.Count id) new none safe (were, is) by = (were, count_blamed m old id new is by)
blamed_then m old (step.End id said) new none safe (were, is) by = (were, (end_blamed m old id said new is by).0)
blamed_then m old (step.Stray index) new none safe (were, is) by = (were, stray_blamed m old index new is by)
blamed_then m old step.RefuseStray new none safe (were, is) by = (were, no_room_blamed m old new is by)
blamed_then m old (step.CrashAcceptor id) new none safe (were, is) by = absurd (cc none)
blamed_then m old (step.RestartAcceptor id) new none safe (were, is) by = absurd (cc none)
blamed_then m old (step.CrashProposer id) new none safe (were, is) by = absurd (cc none)
blamed_then m old (step.RestartProposer id) new none safe (were, is) by = absurd (cc none)
blamed_then m old (step.Order asked) new none safe (were, is) by = (were, order_blamed m old asked new is by)
blamed_then m old step.RefuseOrder new none safe (were, is) by = (were, subst (IsBlamedSince m were) (sym by) is)
blamed_then m old (step.Tell said) new none safe (were, is) by = (were, tell_blamed m old said new is by)
blamed_then m old (step.AskAll question) new none safe (were, is) by = (were, ask_blamed m old question new is by)
blamed_then m old (step.TurnExchange verdict) new none safe (were, is) by = (were, turn_exchange_blamed m old verdict new safe is by)
blamed_then m old step.RefuseTurnExchange new none safe (were, is) by = (were, refuse_exchange_blamed m old new is by)
blamed_then m old step.Gather new none safe (were, is) by = (were, gather_blamed m old new is by)
blamed_then m old step.RefuseKey new none safe (were, is) by = (were, subst (IsBlamedSince m were) (sym by.view) (on_telling m is (told.Stopped (answer.NoMemory false)) tt))
blamed_then m old step.OpenPlan new none safe (were, is) by = open_blamed m old new safe is by
blamed_then m old (step.EnterEra id) new none safe (were, is) by = (were, enter_blamed m old id new is by)
blamed_then m old (step.BeginCollect key) new none safe (were, is) by = (were, begin_collect_blamed m old key new safe is by)
blamed_then m old step.ReadHeld new none safe (were, is) by = (were, read_held_blamed m old new is by)
blamed_then m old step.CountCollect new none safe (were, is) by = (were, count_collect_blamed m old new is by)
blamed_then m old (step.EndCollect said) new none safe (were, is) by = (were, end_collect_blamed m old said new is by)
blamed_then m old step.GatherRound new none safe (were, is) by = (were, gather_round_blamed m old new is by)
blamed_then m old (step.Renew id) new none safe (were, is) by = (were, renew_blamed m old id new is by)
blamed_then m old step.AskCollect new none safe (were, is) by = (were, ask_collect_blamed m old new is by)
blamed_then m old step.GatherCollect new none safe (were, is) by = (were, gather_collect_blamed m old new is by)
blamed_then m old step.MakeFloor new none safe (were, is) by = (were, make_floor_blamed m old new is by)

-- a cluster that nobody stops stays so by every other call
pub steady_then : {S V : Type 0} (m : Meaning S V) (old : View S V) (event : Event) (new : View S V) → is_stop event ≡ false → IsSteady m old → Step m old event new → IsSteady m new
steady_then m old event new none is by = record {
  safe = steps_are_safe m old event new is.safe by;
  blamed = blamed_then m old event new none is.safe is.blamed by;
  answering = (clusters_answer m).steps old event new is.safe is.answering by;
  asking = (probes_ask_all m).steps old event new (λ proposer restarts. absurd (cc (none, ap is_stop restarts))) is.safe is.asking by;
  remembered = λ shelves disks. steps m shelves disks old event new (is.remembered shelves disks) by;
  probing = λ shelves disks. (probes_tell_so m).steps shelves disks old event new is.safe (is.remembered shelves disks) (is.probing shelves disks) by;
  unaged = λ shelves disks. (probes_are_unaged m).steps shelves disks old event new is.safe (is.remembered shelves disks) (is.unaged shelves disks) by;
  current = λ shelves disks. (probes_are_current m).steps shelves disks old event new is.safe (is.remembered shelves disks) (is.current shelves disks) by;
  telling = λ shelves disks. steps_tell_truly m old event new is.safe (is.remembered shelves disks) by (is.telling shelves disks);
}
