use Rattle.std.proofs.Common.{◌∙◌, ap, sym, subst}
use Rattle.cas_slot.specs.Slot.{accepted_of}
use Rattle.cas_survey.specs.Survey.{GathersKey}
use Rattle.cas_survey.proofs.Gathering.{gathers_key}
use Rattle.cas_survey.proofs.Noting.{on_ok}
use Rattle.cas_survey.proofs.findings.Findings.add_key.Goals as goal

pub returns-clause-slots : goal.returns-clause-slots
returns-clause-slots g c = on_ok c.note.result (λ is. subst (GathersKey (g.S.Shelf.contents c.args.shelf.now) c.args.key.now _) (sym is)
    (gathers_key (g.S.Shelf.contents c.args.shelf.now) c.args.key.now _ c.in-Some.slot.accepted (ap accepted_of (sym c.in_ok-slot.ensures ∙ c.in-Some.is)))) c.note.ensures
