use Rattle.std.proofs.Common.{◌≡◌, Some, Option, ap, subst, arith}
use Rattle.std.specs.Prelude.{IfSome}
use Rattle.cas_lines.specs.Command.{change_of}
use Rattle.cas_fate.specs.declared.generator.Drawn.{Drawn}
use Rattle.rand_pcg.specs.Lcg.{Lcg}
use Rattle.cas_lines.specs.declared.command.Command.{Command}
use Rattle.casreg_script.specs.Load.{command_of}
use Rattle.casreg_script.proofs.Calls.Keeping.{change_leaves, idle_then, stays_quiet}
use Rattle.casreg_script.proofs.Loads.{asks_for}
use Rattle.casreg_script.proofs.load.answer_line.Goals as goal

pub change-requires-in-Some-clause-known : goal.change-requires-in-Some-clause-known
change-requires-in-Some-clause-known g c =
    let asks = subst (λ (o : Option _). IfSome o (λ asked. change_of c.in_ok-command.command ≡ Some (record { caller = asked.caller; key = asked.key.now; program = asked.program }))) c.in-Some.is c.in_ok-asked.ensures.asked in
    let caller = asks_for c.args.line c.next-drawn.result (record { caller = c.in-Some.asked.caller; key = c.in-Some.asked.key.now; program = c.in-Some.asked.program }) (subst (λ (k : Command). change_of k ≡ Some (record { caller = c.in-Some.asked.caller; key = c.in-Some.asked.key.now; program = c.in-Some.asked.program })) c.in_ok-command.ensures asks) in
    omega (arith, caller, c.next-drawn.ensures.caller.1, c.requires.known)

pub change-requires-in-Some-clause-idle : goal.change-requires-in-Some-clause-idle
change-requires-in-Some-clause-idle g c =
    let asks = subst (λ (o : Option _). IfSome o (λ asked. change_of c.in_ok-command.command ≡ Some (record { caller = asked.caller; key = asked.key.now; program = asked.program }))) c.in-Some.is c.in_ok-asked.ensures.asked in
    let caller = asks_for c.args.line c.next-drawn.result (record { caller = c.in-Some.asked.caller; key = c.in-Some.asked.key.now; program = c.in-Some.asked.program }) (subst (λ (k : Command). change_of k ≡ Some (record { caller = c.in-Some.asked.caller; key = c.in-Some.asked.key.now; program = c.in-Some.asked.program })) c.in_ok-command.ensures asks) in
    c.requires.idle c.in-Some.asked.caller (omega (arith, caller, c.next-drawn.ensures.caller.1, c.requires.known))

pub returns-clause-answers : goal.returns-clause-answers
returns-clause-answers g c by is =
    let asks = subst (λ (o : Option _). IfSome o (λ asked. change_of c.in_ok-command.command ≡ Some (record { caller = asked.caller; key = asked.key.now; program = asked.program }))) c.in-Some.is c.in_ok-asked.ensures.asked in
    let change = c.change-in-Some.ensures.change by is in
    record {
      view = change.view;
      is = change.is;
      has = record {
        asked = record { caller = c.in-Some.asked.caller; key = c.in-Some.asked.key.now; program = c.in-Some.asked.program };
        asks = subst (λ (d : Drawn × Lcg). change_of (command_of c.args.line d.0) ≡ Some (record { caller = c.in-Some.asked.caller; key = c.in-Some.asked.key.now; program = c.in-Some.asked.program })) c.next-drawn.ensures.drawn (subst (λ (k : Command). change_of k ≡ Some (record { caller = c.in-Some.asked.caller; key = c.in-Some.asked.key.now; program = c.in-Some.asked.program })) c.in_ok-command.ensures asks);
        after = c.change-in-Some.new.halt;
        change = change.has;
        lines = ap (λ (d : Drawn × Lcg). d.1) c.next-drawn.ensures.drawn;
      };
    }

pub returns-clause-idle : goal.returns-clause-idle
returns-clause-idle g c =
    let change = c.change-in-Some.ensures.change c.requires.network.0 c.requires.network.1 in
    idle_then c.args.world.now c.change-in-Some.new.world c.in-Some.asked.caller (change_leaves _ c.args.load.tries c.in-Some.asked.caller c.in-Some.asked.key.now c.in-Some.asked.program _ c.change-in-Some.new.halt c.args.world.now c.change-in-Some.new.world c.change-in-Some.result change.has) c.requires.idle c.change-in-Some.ensures.idle

pub returns-clause-quiet : goal.returns-clause-quiet
returns-clause-quiet g c =
    let change = c.change-in-Some.ensures.change c.requires.network.0 c.requires.network.1 in
    stays_quiet ((change_leaves _ c.args.load.tries c.in-Some.asked.caller c.in-Some.asked.key.now c.in-Some.asked.program _ c.change-in-Some.new.halt c.args.world.now c.change-in-Some.new.world c.change-in-Some.result change.has).council c.requires.quiet) c.requires.quiet
