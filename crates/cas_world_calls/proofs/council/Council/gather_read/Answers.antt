use Rattle.std.proofs.Common.{Option, List, refl, sym, ap, subst, ◌∙◌}
use Rattle.std.specs.Prelude.{option_map}
use Rattle.cas_model.specs.Council.{telling}
use Rattle.cas_record.specs.Agreement.{IsAgreementOf}
use Rattle.cas_record.specs.declared.operator.OpAnswer.{OpAnswer}
use Rattle.cas_record.specs.declared.operator.Probe.{Probe}
use Rattle.cas_record.specs.declared.operator.OpAnswer.TheVariants as op
use Rattle.cas_world_calls.specs.Council.{council_view, exchange_view}
use Rattle.cas_world_calls.specs.Read.{read}
use Rattle.cas_world_calls.specs.declared.council.OpenExchange.{OpenExchange}
use Rattle.cas_world_calls.proofs.council.Council.gather_read.Goals as goal

pub push_marks-requires : goal.push_marks-requires
push_marks-requires c = c.requires.room c.in-Ok.ensures.key c.args.era.now c.in-Ok.field-0.marks.items c.in-Ok.ensures.asks c.requires.reads c.in-Ok.ensures.marks

pub returns-in-Ok-clause-gathers : goal.returns-in-Ok-clause-gathers
returns-in-Ok-clause-gathers c =
    let it = c.in-Ok.ensures in
    read it.key c.args.era.now c.agree-agreement.result c.new.result it.found.found c.in-Ok.field-0.marks.items c.requires.up it.asks c.requires.reads c.new.ensures it.found.same it.marks c.push_marks.ensures.marks c.push_marks.ensures.room
    (subst (λ (l : List Probe). IsAgreementOf c.args.era.now l c.agree-agreement.result) (c.deref.ensures.value ∙ sym c.new.ensures) c.agree-agreement.ensures.is) refl
    (c.tell.ensures.told ∙ ap (λ (a : OpAnswer). telling (council_view c.args.self.now) a) it.found.tells
    ∙ ap (λ (o : Option OpenExchange). record (telling (council_view c.args.self.now) (op.Probed it.key it.found.found)) { exchange = option_map exchange_view o }) c.requires.taken)
