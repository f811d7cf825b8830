-- How the refusal of a change of membership is printed.
use Rattle.std.specs.Prelude.{ℕ, List, codes}
use Rattle.cas_quorum.specs.declared.fault.PlanFault.{PlanFault}
use Rattle.cas_quorum.specs.declared.fault.PlanFault.TheVariants.{AlreadyIn, NotIn, IdUsed, TooMany, Last, BadSize, NotMajority}

abbrev pub plan_fault_text : PlanFault → List ℕ
plan_fault_text AlreadyIn = codes "already in"
plan_fault_text NotIn = codes "not in"
plan_fault_text IdUsed = codes "id used"
plan_fault_text TooMany = codes "too many"
plan_fault_text Last = codes "last"
plan_fault_text BadSize = codes "bad size"
plan_fault_text NotMajority = codes "not majority"
