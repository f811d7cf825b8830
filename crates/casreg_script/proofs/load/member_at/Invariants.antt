use Rattle.casreg_script.proofs.MembersFrom.{IsPlacedFrom}
use Rattle.casreg_script.proofs.load.member_at.Given as goal

-- what is sought stands at this place among the members from the next number on
abbrev pub invariant-loop-number : goal.invariant-loop-number
invariant-loop-number l = record {
  placed : IsPlacedFrom l.members l.place l.number l.left;
}
