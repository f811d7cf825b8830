-- The witness stands, and is orderly.
use Rattle.std.proofs.Common.{refl, reverse}
use Rattle.cas_ballot.specs.Members.{members_where}
use Rattle.cas_record.specs.Logs.Witness.{small_cluster, happened, WitnessStands, WitnessIsOrderly}
use Rattle.cas_record.proofs.Logs.Checks.{lawful_checked}
use Rattle.cas_record.proofs.Logs.Reasons.{orderly_checked}
use Rattle.cas_record.proofs.Logs.Quorums.{small_meet}

pub witness_stands : WitnessStands
unfolding members_where
witness_stands = record {
  meet = small_meet;
  lawful = lawful_checked small_cluster (reverse happened) refl;
  settled = refl;
  state = refl;
}

pub witness_is_orderly : WitnessIsOrderly
witness_is_orderly = orderly_checked small_cluster (reverse happened) refl
