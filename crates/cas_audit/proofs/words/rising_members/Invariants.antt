use Rattle.std.proofs.Common.{ℕ, ◌+◌, List, Bor, length}
use Rattle.std.specs.Option.{option_map, option_map_or}
use Rattle.cas_audit.proofs.Spelling.Rising.{AreMembersReadSoFar}
use Rattle.cas_audit.proofs.words.rising_members.Given as goal

-- the members so far are those of the parts before the rest
abbrev pub invariant-loop-rest : goal.invariant-loop-rest
invariant-loop-rest l = AreMembersReadSoFar l.word l.members l.least (option_map (λ (list : Bor (List ℕ)). list.now) l.rest)

abbrev pub decreases-loop-rest : goal.decreases-loop-rest
decreases-loop-rest l = option_map_or (λ (list : Bor (List ℕ)). length list.now + 1) l.rest 0
