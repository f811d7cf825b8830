use Rattle.cas_audit.proofs.Spelling.TextRecords.{records_read}
use Rattle.cas_audit.proofs.text.records_are_read.Goals as goal

pub returns : goal.returns
returns c = records_read
