use Rattle.cas_lines.proofs.op_answer.push_op.Goals as goal

pub returns-in-NotEmpty : goal.returns-in-NotEmpty
returns-in-NotEmpty c = rw c.in-NotEmpty.is c.write-in-NotEmpty.ensures.bytes
