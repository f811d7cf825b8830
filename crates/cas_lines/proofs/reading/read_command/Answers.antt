use Rattle.cas_change_text.proofs.BothWays.{only_from_gives, found_from_gives}
use Rattle.cas_change_text.specs.Words.{words_of}
use Rattle.cas_change_text.proofs.Misfits.{misfit_from_gives}
use Rattle.std.specs.Prelude.{◌≡◌, Option, IfSome}
use Rattle.cas_lines.specs.Command.{AreCommand, AreUnlimited, IsKnown, IsLine, asks_nobody, is_event}
use Rattle.cas_lines.specs.Reading.{line_in}
use Rattle.cas_lines.specs.declared.command.Command.{Command}
use Rattle.cas_lines.proofs.Commands.{line_found, line_again, line_known}
use Rattle.cas_lines.proofs.EventWords.{line_event}
use Rattle.cas_lines.proofs.LineMisfits.{line_misfit}
use Rattle.cas_lines.proofs.reading.read_command.Goals as goal

pub returns-clause-found : goal.returns-clause-found
returns-clause-found c =
    let line = c.args.line.now in
    found_from_gives c.line_in.result (line_in c.args.proposers line) (IsLine c.args.proposers line) c.line_in.ensures (line_found c.args.proposers line)

pub returns-clause-only : goal.returns-clause-only
returns-clause-only c = λ said is.
    let line = c.args.line.now in
    only_from_gives c.line_in.result (line_in c.args.proposers line) said c.line_in.ensures (line_again c.args.proposers line said is)

pub returns-clause-first : goal.returns-clause-first
returns-clause-first c = λ fits.
    let line = c.args.line.now in
    misfit_from_gives c.line_in.result (line_in c.args.proposers line) (AreUnlimited c.args.proposers) (AreCommand c.args.proposers) (words_of line) c.line_in.ensures
    (λ refusal. line_misfit c.args.proposers line refusal fits)

pub returns-clause-known : goal.returns-clause-known
returns-clause-known c =
    let line = c.args.line.now in
    found_from_gives c.line_in.result (line_in c.args.proposers line) (λ read. IfSome read (IsKnown c.args.proposers)) c.line_in.ensures
    (λ read is. line_known c.args.proposers line read (line_found c.args.proposers line read is))

pub returns-clause-event : goal.returns-clause-event
returns-clause-event c =
    let line = c.args.line.now in
    let P : Option Command → Type 0 = λ read. IfSome read (λ command. asks_nobody command ≡ is_event (words_of line)) in
    found_from_gives c.line_in.result (line_in c.args.proposers line) P c.line_in.ensures
    (λ read is. line_event c.args.proposers line read (line_found c.args.proposers line read is))
