use Rattle.cas_record.proofs.Logs.Clusters.{lawful_more, orderly_more}
use Rattle.cas_record.proofs.laws.more_eras_stay_lawful.Goals as goal

pub returns : goal.returns
returns c = record {
  lawful = λ old new wider log lawful. lawful_more wider log lawful;
  orderly = λ old new wider log orderly. orderly_more wider log orderly;
}
