-- the links so far were gone along
use Rattle.std.proofs.Common.{◌+◌, reverse}
use Rattle.std.specs.Option.{option_map_or}
use Rattle.cas_record.specs.declared.row.Link.{Link}
use Rattle.cas_record.specs.Histories.Chain.{top_of}
use Rattle.cas_record.proofs.Histories.Lemmas.{IsReached}
use Rattle.cas_record.proofs.tables.Tables.settled.Given as goal

abbrev pub invariant-loop-next : goal.invariant-loop-next
invariant-loop-next l = IsReached l.key (top_of l.key (reverse l.marks)) (reverse l.marks) l.next l.entries.items

-- each link is below the one before
abbrev pub decreases-loop-next : goal.decreases-loop-next
decreases-loop-next l = option_map_or (λ (link : Link). link.place + 1) l.next 0
