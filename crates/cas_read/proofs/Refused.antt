-- A read that finds no memory for its key.
use Rattle.std.proofs.Common.{ℕ, false, List, [], Err, inr, refl, sym, append-nil, arith}
use Rattle.cas_ballot.specs.Members.{members_where}
use Rattle.cas_ballot.proofs.MemberLemmas.{IsMemberSet-members_where}
use Rattle.cas_record.specs.declared.answer.Answer.TheVariants.{NoMemory}
use Rattle.cas_record.specs.declared.mark.Mark.{Mark}
use Rattle.cas_record.specs.declared.read_answer.ReadAnswer.TheVariants.{Stopped}
use Rattle.cas_turn.specs.Sitting.{Sitting}
use Rattle.cas_board_steps.specs.Mine.{mine}
use Rattle.cas_board.specs.Operations.{is_not_begun}
use Rattle.cas_read.specs.Read.{HasReadByLook}

-- nothing happened
pub refused_read : {V : Type 0} (tells : Type 0) (key : List ℕ) (harms : ℕ) (pass : Sitting V Mark) → HasReadByLook tells key harms harms pass pass (Stopped (NoMemory false))
refused_read tells key harms pass = record {
  looked = Err (NoMemory false);
  is = refl;
  operates = is_not_begun (NoMemory false) (inr refl) refl (record { never_falls = omega arith; counted = λ below. omega arith }) (record { begins = record { behind = []; whole = append-nil pass.seen }; own_marks = sym (append-nil (mine pass.number pass.seen)) }) (λ enters. refl);
  names = (members_where (λ n. false), IsMemberSet-members_where (λ n. false), refl);
  silent = tt;
  found = λ t. tt;
  agrees = tt;
}
