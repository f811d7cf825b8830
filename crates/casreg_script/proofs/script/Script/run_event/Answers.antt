use Rattle.std.proofs.Common.{◌≡◌, ◌≤◌, true, ◌∷◌, slice_index_or, slice_set, refl, sym, ap, subst, arith}
use Rattle.cas_lines.specs.declared.answer.EventAnswer.TheVariants as event
use Rattle.cas_lines.specs.Command.{IsKnown}
use Rattle.cas_lines.specs.declared.command.Command.{Command}
use Rattle.cas_model.specs.Step as step
use Rattle.cas_model.specs.Step.{Step}
use Rattle.cas_model.specs.View.{View, IsAt, meaning}
use Rattle.casreg_script.specs.Events.{CrashesAcceptor, RestartsAcceptor, RestartsProposer, AnswersStray}
use Rattle.casreg_script.specs.Script.{RunsEvent, nowhere, net, crash_acceptor, restart_acceptor, crash_proposer, restart_proposer, halt_prepared, halt_proposed, stray}
use Rattle.casreg_script.specs.Stage.{Stage}
use Rattle.casreg_script.specs.declared.halt.Halt.{Halt}
use Rattle.casreg_script.proofs.Calls.Keeping.{crashes_keep, restarts_keep, crash_between, proposer_keeps, strays_keep}
use Rattle.casreg_script.proofs.Stages.{goes_idle, world_is, halts_are, halt_at, in_world, in_network, in_halts}
use Rattle.casreg_script.proofs.script.Script.run_event.Goals as goal

pub invariant_of-self-in-CrashAcceptor : goal.invariant_of-self-in-CrashAcceptor
invariant_of-self-in-CrashAcceptor g c = goes_idle c.self.inside.world c.crash_acceptor.new.world c.self.inside.network c.self.inside.halts c.self.inside.tries c.self.inside.proposers c.self.invariant (crashes_keep (meaning g.S.Shelf g.V.Disk) c.self.inside.world c.crash_acceptor.new.world c.in-CrashAcceptor.id c.crash_acceptor.result c.crash_acceptor.ensures)

pub invariant_of-self-in-RestartAcceptor : goal.invariant_of-self-in-RestartAcceptor
invariant_of-self-in-RestartAcceptor g c = goes_idle c.self.inside.world c.restart_acceptor.new.world c.self.inside.network c.self.inside.halts c.self.inside.tries c.self.inside.proposers c.self.invariant (restarts_keep (meaning g.S.Shelf g.V.Disk) c.self.inside.world c.restart_acceptor.new.world c.in-RestartAcceptor.id c.restart_acceptor.result c.restart_acceptor.ensures)

pub invariant_of-self-in-CrashProposer : goal.invariant_of-self-in-CrashProposer
invariant_of-self-in-CrashProposer g c = goes_idle c.self.inside.world c.crash_proposer.new.self c.self.inside.network c.self.inside.halts c.self.inside.tries c.self.inside.proposers c.self.invariant (crash_between (meaning g.S.Shelf g.V.Disk) c.self.inside.world c.crash_proposer.new.self c.in-CrashProposer.proposer (omega (arith, subst (IsKnown c.args.self.now.world.last_proposer) c.in-CrashProposer.is c.requires.known, ap (λ (v : Stage _ _). v.world.last_proposer) c.self.view_is)) c.self.invariant.idle c.crash_proposer.ensures)

pub invariant_of-self-in-RestartProposer : goal.invariant_of-self-in-RestartProposer
invariant_of-self-in-RestartProposer g c = goes_idle c.self.inside.world c.restart_proposer.new.world c.self.inside.network c.self.inside.halts c.self.inside.tries c.self.inside.proposers c.self.invariant (proposer_keeps (meaning g.S.Shelf g.V.Disk) c.self.inside.world c.restart_proposer.new.world c.in-RestartProposer.proposer c.restart_proposer.result c.restart_proposer.ensures)

pub invariant_of-self-in-Stray : goal.invariant_of-self-in-Stray
invariant_of-self-in-Stray g c = goes_idle c.self.inside.world c.stray.new.world c.self.inside.network c.self.inside.halts c.self.inside.tries c.self.inside.proposers c.self.invariant (strays_keep (meaning g.S.Shelf g.V.Disk) c.self.inside.world c.stray.new.world c.in-Stray.index c.stray.result c.stray.ensures)

pub returns-in-CrashAcceptor-clause-runs : goal.returns-in-CrashAcceptor-clause-runs
returns-in-CrashAcceptor-clause-runs g c state at =
    in_world c.self.inside.world c.crash_acceptor.new.world c.self.inside.network c.self.inside.halts c.self.inside.tries c.args.self.now state (RunsEvent (meaning g.S.Shelf g.V.Disk) state c.args.command.now c.crash_acceptor.result) c.self.view_is at
    (subst (λ (x : Command). RunsEvent (meaning g.S.Shelf g.V.Disk) state x c.crash_acceptor.result (record state { world = c.crash_acceptor.new.world })) (sym c.in-CrashAcceptor.is)
    (crash_acceptor (subst (λ (w : View _ _). CrashesAcceptor (meaning g.S.Shelf g.V.Disk) w c.in-CrashAcceptor.id c.crash_acceptor.result c.crash_acceptor.new.world) (world_is c.self.inside.world c.self.inside.network c.self.inside.halts c.self.inside.tries c.args.self.now state c.self.view_is at) c.crash_acceptor.ensures)))

pub returns-in-RestartAcceptor-clause-runs : goal.returns-in-RestartAcceptor-clause-runs
returns-in-RestartAcceptor-clause-runs g c state at =
    in_world c.self.inside.world c.restart_acceptor.new.world c.self.inside.network c.self.inside.halts c.self.inside.tries c.args.self.now state (RunsEvent (meaning g.S.Shelf g.V.Disk) state c.args.command.now c.restart_acceptor.result) c.self.view_is at
    (subst (λ (x : Command). RunsEvent (meaning g.S.Shelf g.V.Disk) state x c.restart_acceptor.result (record state { world = c.restart_acceptor.new.world })) (sym c.in-RestartAcceptor.is)
    (restart_acceptor (subst (λ (w : View _ _). RestartsAcceptor (meaning g.S.Shelf g.V.Disk) w c.in-RestartAcceptor.id c.restart_acceptor.result c.restart_acceptor.new.world) (world_is c.self.inside.world c.self.inside.network c.self.inside.halts c.self.inside.tries c.args.self.now state c.self.view_is at) c.restart_acceptor.ensures)))

pub returns-in-CrashProposer-clause-runs : goal.returns-in-CrashProposer-clause-runs
returns-in-CrashProposer-clause-runs g c state at =
    in_world c.self.inside.world c.crash_proposer.new.self c.self.inside.network c.self.inside.halts c.self.inside.tries c.args.self.now state (RunsEvent (meaning g.S.Shelf g.V.Disk) state c.args.command.now event.Ok) c.self.view_is at
    (subst (λ (x : Command). RunsEvent (meaning g.S.Shelf g.V.Disk) state x event.Ok (record state { world = c.crash_proposer.new.self })) (sym c.in-CrashProposer.is)
    (crash_proposer (subst (λ (w : View _ _). Step (meaning g.S.Shelf g.V.Disk) w (step.CrashProposer c.in-CrashProposer.proposer) c.crash_proposer.new.self) (world_is c.self.inside.world c.self.inside.network c.self.inside.halts c.self.inside.tries c.args.self.now state c.self.view_is at) c.crash_proposer.ensures)))

pub returns-in-RestartProposer-clause-runs : goal.returns-in-RestartProposer-clause-runs
returns-in-RestartProposer-clause-runs g c state at =
    in_world c.self.inside.world c.restart_proposer.new.world c.self.inside.network c.self.inside.halts c.self.inside.tries c.args.self.now state (RunsEvent (meaning g.S.Shelf g.V.Disk) state c.args.command.now c.restart_proposer.result) c.self.view_is at
    (subst (λ (x : Command). RunsEvent (meaning g.S.Shelf g.V.Disk) state x c.restart_proposer.result (record state { world = c.restart_proposer.new.world })) (sym c.in-RestartProposer.is)
    (restart_proposer (subst (λ (w : View _ _). RestartsProposer (meaning g.S.Shelf g.V.Disk) w c.in-RestartProposer.proposer c.restart_proposer.result c.restart_proposer.new.world) (world_is c.self.inside.world c.self.inside.network c.self.inside.halts c.self.inside.tries c.args.self.now state c.self.view_is at) c.restart_proposer.ensures)))

pub returns-in-Stray-clause-runs : goal.returns-in-Stray-clause-runs
returns-in-Stray-clause-runs g c state at =
    in_world c.self.inside.world c.stray.new.world c.self.inside.network c.self.inside.halts c.self.inside.tries c.args.self.now state (RunsEvent (meaning g.S.Shelf g.V.Disk) state c.args.command.now c.stray.result) c.self.view_is at
    (subst (λ (x : Command). RunsEvent (meaning g.S.Shelf g.V.Disk) state x c.stray.result (record state { world = c.stray.new.world })) (sym c.in-Stray.is)
    (stray (subst (λ (w : View _ _). AnswersStray (meaning g.S.Shelf g.V.Disk) w c.in-Stray.index c.stray.result c.stray.new.world) (world_is c.self.inside.world c.self.inside.network c.self.inside.halts c.self.inside.tries c.args.self.now state c.self.view_is at) c.stray.ensures)))

pub returns-in-Net-clause-runs : goal.returns-in-Net-clause-runs
returns-in-Net-clause-runs g c state at =
    in_network c.self.inside.world c.self.inside.network c.set.new.self c.self.inside.halts c.self.inside.tries c.args.self.now state (record { leg = c.in-Net.leg; who = c.in-Net.who; verdict = c.in-Net.verdict })
    (RunsEvent (meaning g.S.Shelf g.V.Disk) state c.args.command.now event.Ok) c.self.view_is at (c.set.ensures state.rules)
    (subst (λ (x : Command). RunsEvent (meaning g.S.Shelf g.V.Disk) state x event.Ok (record state { rules = record { leg = c.in-Net.leg; who = c.in-Net.who; verdict = c.in-Net.verdict } ∷ state.rules })) (sym c.in-Net.is) (net refl))

pub returns-in-HaltPrepared-clause-runs : goal.returns-in-HaltPrepared-clause-runs
returns-in-HaltPrepared-clause-runs g c state at =
    let same : c.from.result ≡ c.in-HaltPrepared.proposer = c.from.ensures in
    let known : c.in-HaltPrepared.proposer ≤ c.args.self.now.world.last_proposer = subst (IsKnown c.args.self.now.world.last_proposer) c.in-HaltPrepared.is c.requires.known in
    let halt : Halt = slice_index_or c.self.inside.halts c.from.result nowhere in
    let there : IsAt state.halts c.in-HaltPrepared.proposer halt = halt_at c.self.inside.halts state.halts c.from.result c.in-HaltPrepared.proposer same
    (omega (arith, known, ap (λ (v : Stage _ _). v.world.last_proposer) c.self.view_is, c.self.invariant.known, c.self.invariant.few, c.self.ranges)) (halts_are c.self.inside.world c.self.inside.network c.self.inside.halts c.self.inside.tries c.args.self.now state c.self.view_is at) in
    in_halts c.self.inside.world c.self.inside.network c.self.inside.halts c.self.inside.tries c.args.self.now state c.from.result c.in-HaltPrepared.proposer (record halt { after_prepare = true })
    (RunsEvent (meaning g.S.Shelf g.V.Disk) state c.args.command.now event.Ok) c.self.view_is at same
    (subst (λ (x : Command). RunsEvent (meaning g.S.Shelf g.V.Disk) state x event.Ok (record state { halts = slice_set state.halts c.in-HaltPrepared.proposer (record halt { after_prepare = true }) })) (sym c.in-HaltPrepared.is) (halt_prepared halt there refl))

pub returns-in-HaltProposed-clause-runs : goal.returns-in-HaltProposed-clause-runs
returns-in-HaltProposed-clause-runs g c state at =
    let same : c.from-in-HaltProposed.result ≡ c.in-HaltProposed.proposer = c.from-in-HaltProposed.ensures in
    let known : c.in-HaltProposed.proposer ≤ c.args.self.now.world.last_proposer = subst (IsKnown c.args.self.now.world.last_proposer) c.in-HaltProposed.is c.requires.known in
    let halt : Halt = slice_index_or c.self.inside.halts c.from-in-HaltProposed.result nowhere in
    let there : IsAt state.halts c.in-HaltProposed.proposer halt = halt_at c.self.inside.halts state.halts c.from-in-HaltProposed.result c.in-HaltProposed.proposer same
    (omega (arith, known, ap (λ (v : Stage _ _). v.world.last_proposer) c.self.view_is, c.self.invariant.known, c.self.invariant.few, c.self.ranges)) (halts_are c.self.inside.world c.self.inside.network c.self.inside.halts c.self.inside.tries c.args.self.now state c.self.view_is at) in
    in_halts c.self.inside.world c.self.inside.network c.self.inside.halts c.self.inside.tries c.args.self.now state c.from-in-HaltProposed.result c.in-HaltProposed.proposer (record halt { after_propose = true })
    (RunsEvent (meaning g.S.Shelf g.V.Disk) state c.args.command.now event.Ok) c.self.view_is at same
    (subst (λ (x : Command). RunsEvent (meaning g.S.Shelf g.V.Disk) state x event.Ok (record state { halts = slice_set state.halts c.in-HaltProposed.proposer (record halt { after_propose = true }) })) (sym c.in-HaltProposed.is) (halt_proposed halt there refl))
