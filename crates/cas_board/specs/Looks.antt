-- What a look of the operator answers.
use Rattle.std.specs.Prelude.{⊤, ℕ, List, Option, Some, Result, Ok, Err}
use Rattle.cas_record.specs.declared.agreement.Agreement.{Agreement}
use Rattle.cas_record.specs.declared.answer.Answer.{Answer}
use Rattle.cas_record.specs.declared.operator.OpAnswer.{OpAnswer}
use Rattle.cas_record.specs.declared.operator.OpAnswer.TheVariants as told
use Rattle.cas_board.specs.declared.probing.Look.{Look}
use Rattle.cas_board_steps.specs.declared.orders.Heard.{Heard}

-- what the operator's call was told of the key: what the members told, or what stopped it
abbrev pub told_by_look : List ℕ → Result Look Answer → OpAnswer
told_by_look key (Ok look) = told.Probed key look.found
told_by_look key (Err why) = told.Stopped why

-- the members told something, and it is known what they agree on; or it was stopped
abbrev pub IsHeardSo : OpAnswer → Option Agreement → Type 0
IsHeardSo (told.Probed key found) (Some agreement) = ⊤
IsHeardSo (told.Stopped why) agreement = ⊤
IsHeardSo other agreement = ⊥

abbrev pub IsLookHeard : Heard → Type 0
IsLookHeard heard = IsHeardSo heard.told heard.agreement
