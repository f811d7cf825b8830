use Rattle.std.proofs.Common.{rules, ℕ, List, [], length, None, refl, sym, ap, ◌∙◌}
use Rattle.cas_record.specs.declared.mark.Mark.{Mark}
use Rattle.cas_model.specs.Exchanges.Step.{new_exchange}
use Rattle.cas_world.specs.Exchanges.Exchange.{asked_from, question_from}
use Rattle.std.specs.Prelude.{option_copied}
use Rattle.cas_world.proofs.Calls.Beginning.{lost_idle, lost_tagged, goes_on_same, tags_all}
use Rattle.cas_world.proofs.exchange.open_exchange.Goals as goal

pub returns-then-is_err-clause-refused : goal.returns-then-is_err-clause-refused
returns-then-is_err-clause-refused g c = (
  refl,
  sym c.is_down.ensures ∙ c.if-is_down.false,
  None,
  lost_idle g.V.Disk.tells g.V.Disk.may_leave g.V.Disk.fault_count [] c.args.desk.now c.args.desk.now c.requires.idle (record { shows = record { counter = refl; kept = refl }; goes_on = goes_on_same g.V.Disk.tells g.V.Disk.may_leave g.V.Disk.fault_count c.args.desk.now.vault }) refl,
)

pub returns-in-Ok-clause-refused : goal.returns-in-Ok-clause-refused
returns-in-Ok-clause-refused g c =
    let lost = lost_tagged g.V.Disk.tells g.V.Disk.may_leave g.V.Disk.fault_count (option_copied c.args.goes_on) c.args.desk.now c.tag_for.new.desk c.in-Ok.tag c.requires.idle c.in-Ok.ensures.tag.0 c.in-Ok.ensures.desk in (
      refl,
      sym c.is_down.ensures ∙ c.if-is_down.false,
      lost.0,
      lost.1,
    )

pub returns-in-Ok-ask_members-clause-ok : goal.returns-in-Ok-ask_members-clause-ok
returns-in-Ok-ask_members-clause-ok g c =
    let up = sym c.is_down.ensures ∙ c.if-is_down.false in record {
      up = up;
      tag = c.in-Ok.tag;
      tagged = tags_all g.V.Disk.tells g.V.Disk.may_leave g.V.Disk.fault_count g.V.Disk.seen (option_copied c.args.goes_on) c.args.desk.now c.tag_for.new.desk c.in-Ok.tag (c.age-age.ensures.stands up) c.in-Ok.ensures.tag.0;
      desk = c.in-Ok.ensures.desk;
      sends = search rules;
      exchange = c.in-Ok-ask_members.ensures.exchange ∙ ap (λ (n : ℕ). new_exchange (question_from c.args.everyone (option_copied c.args.goes_on) c.args.what) c.in-Ok.tag (asked_from c.args.everyone (option_copied c.args.goes_on)) n c.args.reads) (ap (λ (l : List Mark). length l) c.marks-since.ensures);
      begun = c.in-Ok-ask_members.ensures.begun;
    }
