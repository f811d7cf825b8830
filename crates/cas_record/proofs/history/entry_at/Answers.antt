use Rattle.std.proofs.Common.{rules, ◌≡◌, ◌<◌, length, sym, ap, arith, ◌∙◌}
use Rattle.std.specs.Prelude.{slice_get}
use Rattle.std.proofs.lemmas.List.{length-reverse}
use Rattle.cas_record.specs.declared.mark.Mark.TheVariants.{Proposed}
use Rattle.cas_record.specs.declared.row.Link.{Link}
use Rattle.cas_record.proofs.Positions.{got}
use Rattle.cas_record.proofs.Histories.Lemmas.{at_low, placed, entry_read}
use Rattle.cas_record.proofs.history.entry_at.Goals as goal

pub offset_bounds-marks-link : goal.offset_bounds-marks-link
offset_bounds-marks-link c =
    let place = ap (λ (link : Link). link.place) c.requires.is in
    let low : c.args.link.place < length c.args.marks.now = omega (arith, place, at_low c.requires.at, length-reverse c.args.marks.now) in
    search (rules, low)

pub bounds-marks-link : goal.bounds-marks-link
bounds-marks-link c =
    let place = ap (λ (link : Link). link.place) c.requires.is in
    omega (arith, place, at_low c.requires.at, length-reverse c.args.marks.now)

pub unreachable-requires : goal.unreachable-requires
unreachable-requires c =
    let place : c.args.link.place ≡ length c.requires.older = ap (λ (link : Link). link.place) c.requires.is in
    let read = ap (slice_get c.args.marks.now) place ∙ placed c.args.marks.now c.requires.at in
    c.in_default.not-Proposed c.requires.proposal (c.index-marks-link.is ∙ (got c.args.marks.now c.args.link.place (Proposed c.requires.proposal) c.index-marks-link.result read).1)

pub returns : goal.returns
returns c = λ p older at is.
    let place : c.args.link.place ≡ length older = ap (λ (link : Link). link.place) is in
    let read = ap (slice_get c.args.marks.now) place ∙ placed c.args.marks.now at in
    let same = sym c.in-Proposed.is ∙ c.index-marks-link.is ∙ (got c.args.marks.now c.args.link.place (Proposed p) c.index-marks-link.result read).1 in
    entry_read c.args.marks.now c.in-Proposed.proposal p older c.args.link c.in_ok-program_at-in-Proposed.field-0 at same is c.in_ok-program_at-in-Proposed.ensures
