use Rattle.std.proofs.Common.{sym, ap, subst, ◌∙◌}
use Rattle.std.specs.Prelude.{Some}
use Rattle.cas_world.specs.Eras.Plans.{asked_of}
use Rattle.cas_board_steps.specs.Eras.Membership.{IsPlanMark, IsRescanMark, StandsAt}
use Rattle.cas_board_steps.specs.Mine.{wanted_by, wants}
use Rattle.cas_board_steps.specs.declared.membership.MembersStep.{MembersStep}
use Rattle.cas_board_steps.proofs.Calls.Tries.{rescan_within}
use Rattle.cas_board.proofs.Steps.{run_step}
use Rattle.cas_board.proofs.Operating.{order_runs, if_err, told_less}
use Rattle.cas_board.proofs.board.Board.finish_step.Goals as goal

pub returns-in-Next-clause-goes_on : goal.returns-in-Next-clause-goes_on
returns-in-Next-clause-goes_on g c =
    run_step IsPlanMark (g.F.Fate.harm_count c.args.fate.now) (g.F.Fate.harm_count c.args.fate.now) c.args.pass.now c.args.pass.now (order_runs IsPlanMark (g.F.Fate.harm_count c.args.fate.now) c.args.pass.now)

pub returns-in-Next-clause-planned : goal.returns-in-Next-clause-planned
returns-in-Next-clause-planned g c =
    subst (λ (s : MembersStep). StandsAt (asked_of c.args.target.now) c.args.pass.now.own (wanted_by 0 c.args.pass.now.seen) s) c.in-Next.is c.requires.stands

pub run_listing-requires-clause-lists : goal.run_listing-requires-clause-lists
run_listing-requires-clause-lists g c =
    subst (λ (s : MembersStep). StandsAt (asked_of c.args.target.now) c.args.pass.now.own (wanted_by 0 c.args.pass.now.seen) s) c.in-Lists.is c.requires.stands

pub run_rescan-requires-clause-rescans : goal.run_rescan-requires-clause-rescans
run_rescan-requires-clause-rescans g c =
    (subst (λ (s : MembersStep). StandsAt (asked_of c.args.target.now) c.args.pass.now.own (wanted_by 0 c.args.pass.now.seen) s) c.in-Rescans.is c.requires.stands).0

pub run_rescan-requires-clause-wanted : goal.run_rescan-requires-clause-wanted
run_rescan-requires-clause-wanted g c =
    (subst (λ (s : MembersStep). StandsAt (asked_of c.args.target.now) c.args.pass.now.own (wanted_by 0 c.args.pass.now.seen) s) c.in-Rescans.is c.requires.stands).1 ∙ ap (λ p. Some (wants c.in-Rescans.rescan.begun.call c.in-Rescans.rescan.key p)) (sym c.requires.program)

pub run_rescan-requires-clause-first : goal.run_rescan-requires-clause-first
run_rescan-requires-clause-first g c =
    (subst (λ (s : MembersStep). StandsAt (asked_of c.args.target.now) c.args.pass.now.own (wanted_by 0 c.args.pass.now.seen) s) c.in-Rescans.is c.requires.stands).2

pub returns-in-Lists-clause-told : goal.returns-in-Lists-clause-told
returns-in-Lists-clause-told g c =
    if_err c.run_listing.result (λ told t. (t.0, t.1, told_less IsPlanMark (IsRescanMark c.args.tries) (rescan_within c.args.tries) (λ enters proposer era. tt) (asked_of c.args.target.now) t.0 c.args.pass.now c.run_listing.new.pass told t.2)) c.run_listing.ensures.told
