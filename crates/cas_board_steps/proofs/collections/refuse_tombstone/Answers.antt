use Rattle.std.proofs.Common.{sym, subst, ap, ◌∙◌}
use Rattle.cas_world.specs.Collection.Collect.{leaves_no_call}
use Rattle.cas_world.specs.Eras.Plans.{MayTell, was_told}
use Rattle.cas_board_steps.specs.Collection.Collecting.{tells}
use Rattle.cas_board_steps.proofs.Collection.RoundStages.{refused_was_told, refused_was_begun, unstopped, tells_stopped, stops_stopped}
use Rattle.cas_board_steps.proofs.collections.refuse_tombstone.Goals as goal

pub stop-requires-clause-told : goal.stop-requires-clause-told
stop-requires-clause-told g c = (refused_was_begun c.args.world.now c.args.call c.args.refusal c.in-Stopped.told c.in-Stopped.is c.requires.refused (sym c.leaves_no_call.ensures ∙ c.if-leaves_no_call.false)).was

pub stop-requires-clause-calling : goal.stop-requires-clause-calling
stop-requires-clause-calling g c = (refused_was_begun c.args.world.now c.args.call c.args.refusal c.in-Stopped.told c.in-Stopped.is c.requires.refused (sym c.leaves_no_call.ensures ∙ c.if-leaves_no_call.false)).calling

pub stop-requires-clause-undone : goal.stop-requires-clause-undone
stop-requires-clause-undone g c = (refused_was_begun c.args.world.now c.args.call c.args.refusal c.in-Stopped.told c.in-Stopped.is c.requires.refused (sym c.leaves_no_call.ensures ∙ c.if-leaves_no_call.false)).undone

pub tell-requires : goal.tell-requires
tell-requires g c = subst (MayTell c.args.world.now) c.in-Stopped.is (was_told (refused_was_told c.args.world.now c.args.call c.args.refusal c.requires.refused (ap leaves_no_call c.in-Stopped.is ∙ sym c.leaves_no_call.ensures ∙ c.if-leaves_no_call.true)))

pub returns-then-leaves_no_call-clause-stops : goal.returns-then-leaves_no_call-clause-stops
returns-then-leaves_no_call-clause-stops g c = tells_stopped _ c.args.world.now c.tell.new.self c.args.refusal c.in-Stopped.told c.in-Stopped.is (sym c.leaves_no_call.ensures ∙ c.if-leaves_no_call.true) c.tell.ensures.step

pub returns-else-leaves_no_call-clause-stops : goal.returns-else-leaves_no_call-clause-stops
returns-else-leaves_no_call-clause-stops g c = stops_stopped _ c.args.world.now c.stop.new.world c.args.refusal c.in-Stopped.told c.in-Stopped.is (sym c.leaves_no_call.ensures ∙ c.if-leaves_no_call.false) c.stop.ensures.stops

pub tell-requires-in_default : goal.tell-requires-in_default
tell-requires-in_default g c = was_told (refused_was_told c.args.world.now c.args.call c.args.refusal c.requires.refused (unstopped c.args.refusal c.in_default.not-Stopped))

pub returns-in_default-clause-stops : goal.returns-in_default-clause-stops
returns-in_default-clause-stops g c = tells (unstopped c.args.refusal c.in_default.not-Stopped) c.tell-in_default.ensures.step
