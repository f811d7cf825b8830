-- The words of a record's lines, by cases on what they say.
use Rattle.std.specs.Prelude.{◌≡◌, ℕ, ◌^◌, ◌<◌, Bool, true, false, List, [], ◌∷◌, ◌++◌, codes, Some}
use Rattle.cas_ballot.specs.declared.ballot.Ballot.{Ballot}
use Rattle.cas_change.specs.Key.{IsKey}
use Rattle.cas_change.specs.declared.outcome.Took.{Took}
use Rattle.cas_change.specs.declared.outcome.Took.TheVariants as took
use Rattle.cas_change_text.specs.Decimal.{u64_of}
use Rattle.cas_change_text.specs.Grammar.{IsPair, IsProgram, IsState}
use Rattle.cas_change_text.specs.Words.{Word}
use Rattle.cas_lines.specs.Command.{IsAcceptor}
use Rattle.cas_quorum.specs.declared.fault.PlanFault.{PlanFault}
use Rattle.cas_quorum.specs.declared.fault.PlanFault.TheVariants as fault
use Rattle.cas_record.specs.declared.answer.Answer.{Answer}
use Rattle.cas_record.specs.declared.answer.Answer.TheVariants as answer
use Rattle.cas_record.specs.declared.answer.Cause.{Cause}
use Rattle.cas_record.specs.declared.answer.Cause.TheVariants as cause
use Rattle.cas_record.specs.declared.mark.Mark.{Mark}
use Rattle.cas_record.specs.declared.mark.Mark.TheVariants.{Begun, Proposed, Voted, Acked, Floor, EraEntered, Ended, Harmed, Told}
use Rattle.cas_record.specs.declared.operator.Asked.{Asked}
use Rattle.cas_record.specs.declared.operator.Asked.TheVariants as asked
use Rattle.cas_record.specs.declared.operator.OpAnswer.{OpAnswer}
use Rattle.cas_record.specs.declared.operator.OpAnswer.TheVariants as told

-- ---- one word

-- the word is this number in decimal digits, and the number has at most so many bits
abbrev pub IsNumber : ℕ → ℕ → Word → Type 0
IsNumber bits number word = (u64_of word ≡ Some number) × (number < 2 ^ bits)

-- two numbers of at most so many bits, with a point between them
abbrev pub IsPoint : ℕ → ℕ → ℕ → ℕ → Word → Type 0
IsPoint bits first also second word = (front back : Word) × (word ≡ front ++ codes "." ++ back) × IsNumber bits first front × IsNumber also second back

-- a caller, and the number of its call
abbrev pub SpellsCall : ℕ → ℕ → Word → Type 0
SpellsCall caller call word = IsPoint 8 caller 32 call word

-- a counter, and its proposer
abbrev pub IsBallot : Ballot → Word → Type 0
IsBallot ballot word = IsPoint 64 ballot.counter 8 ballot.proposer word

-- acceptors, each with a greater number than the one before it, and a comma between any two
abbrev pub AreRising : List ℕ → Word → Type 0
AreRising [] word = ⊥
AreRising (id ∷ []) word = IsAcceptor id word
AreRising (id ∷ next ∷ ids) word = (front rest : Word) × (word ≡ front ++ codes "," ++ rest) × IsAcceptor id front × (id < next) × AreRising (next ∷ ids) rest

-- a set of acceptors; a dash where there is none
abbrev pub IsSet : List ℕ → Word → Type 0
IsSet [] word = word ≡ codes "-"
IsSet (id ∷ ids) word = AreRising (id ∷ ids) word

-- a version, with a `v` in front
abbrev pub IsVersion : ℕ → Word → Type 0
IsVersion version word = (digits : Word) × (word ≡ codes "v" ++ digits) × IsNumber 64 version digits

-- ---- answers

-- how few acceptors confirmed, and how many were needed
abbrev pub SpellsShort : List Word → ℕ → ℕ → Type 0
SpellsShort words got need = (first second : Word) × (words ≡ codes "short" ∷ first ∷ second ∷ []) × IsNumber 32 got first × IsNumber 32 need second

abbrev pub IsCause : List Word → Cause → Type 0
IsCause words (cause.Met ballot) = IsPair words (codes "met") (IsBallot ballot)
IsCause words (cause.Aged least) = IsPair words (codes "aged") (IsNumber 64 least)
IsCause words (cause.Full acceptor) = IsPair words (codes "full") (IsAcceptor acceptor)
IsCause words (cause.Short got need) = SpellsShort words got need
IsCause words (cause.Moved era) = IsPair words (codes "moved") (IsNumber 32 era)
IsCause words cause.Crashed = words ≡ codes "crashed" ∷ []

-- an answer by which nothing is known to be done
abbrev pub IsStop : List Word → Answer → Type 0
IsStop words (answer.Done state took ballot) = ⊥
IsStop words (answer.Conflict met) = IsPair words (codes "conflict") (IsBallot met)
IsStop words (answer.Aged least) = IsPair words (codes "aged") (IsNumber 64 least)
IsStop words (answer.Full acceptor) = IsPair words (codes "full") (IsAcceptor acceptor)
IsStop words (answer.Short got need) = SpellsShort words got need
IsStop words (answer.Moved era) = IsPair words (codes "moved") (IsNumber 32 era)
IsStop words answer.Crashed = words ≡ codes "crashed" ∷ []
IsStop words (answer.Unsettled why) = (rest : List Word) × (words ≡ codes "unsettled" ∷ rest) × IsCause rest why
IsStop words answer.Down = words ≡ codes "down" ∷ []
IsStop words answer.VaultFault = words ≡ codes "vault" ∷ codes "fault" ∷ []
IsStop words answer.Spent = words ≡ codes "spent" ∷ []
IsStop words answer.RecordFull = words ≡ codes "record" ∷ codes "full" ∷ []
IsStop words (answer.NoMemory false) = words ≡ codes "no" ∷ codes "memory" ∷ []
IsStop words (answer.NoMemory true) = words ≡ codes "no" ∷ codes "memory" ∷ codes "proposed" ∷ []

-- which clause acted
abbrev pub IsTook : List Word → Took → Type 0
IsTook words (took.Clause i) = IsPair words (codes "clause") (IsNumber 8 i)
IsTook words took.Nothing = words ≡ codes "no" ∷ codes "clause" ∷ []
IsTook words (took.Unfit i) = IsPair words (codes "unfit") (IsNumber 8 i)

-- what a call is answered
abbrev pub IsAnswer : List Word → Answer → Type 0
IsAnswer words (answer.Done state took ballot) =
    (left note : List Word) × (at : Word) × (words ≡ codes "done" ∷ left ++ codes "at" ∷ at ∷ note) × IsState left state × IsBallot ballot at × IsTook note took
IsAnswer words other = IsStop words other

-- ---- operators

-- what an operator asks for
abbrev pub SpellsAsked : List Word → Asked → Type 0
SpellsAsked words (asked.Join id) = IsPair words (codes "join") (IsAcceptor id)
SpellsAsked words (asked.Leave id) = IsPair words (codes "leave") (IsAcceptor id)
SpellsAsked words (asked.Collect key) = (words ≡ codes "collect" ∷ key ∷ []) × IsKey key
SpellsAsked words (asked.Probe key) = (words ≡ codes "probe" ∷ key ∷ []) × IsKey key
SpellsAsked words (asked.Resize need_prep need_acc) = (first second : Word) × (words ≡ codes "resize" ∷ first ∷ second ∷ []) × IsNumber 32 need_prep first × IsNumber 32 need_acc second
SpellsAsked words (asked.Read key) = (words ≡ codes "read" ∷ key ∷ []) × IsKey key

-- a plan of this name is finished: for whom, in which era, and how many keys were proposed anew
abbrev pub IsFinished : List Word → Word → ℕ → ℕ → ℕ → Type 0
IsFinished words name id era rescanned =
    (who number count : Word) × (words ≡ name ∷ who ∷ codes "era" ∷ number ∷ codes "rescanned" ∷ count ∷ [])
    × IsAcceptor id who × IsNumber 32 era number × IsNumber 32 rescanned count

-- why the membership does not admit a plan
abbrev pub refusal_words : PlanFault → List Word
refusal_words fault.AlreadyIn = codes "already" ∷ codes "in" ∷ []
refusal_words fault.NotIn = codes "not" ∷ codes "in" ∷ []
refusal_words fault.IdUsed = codes "id" ∷ codes "used" ∷ []
refusal_words fault.TooMany = codes "too" ∷ codes "many" ∷ []
refusal_words fault.Last = codes "last" ∷ []
refusal_words fault.BadSize = codes "bad" ∷ codes "size" ∷ []
refusal_words fault.NotMajority = codes "not" ∷ codes "majority" ∷ []

-- what an operator is answered; no probe's answer has words, and none says that a change is done
abbrev pub SpellsTold : List Word → OpAnswer → Type 0
SpellsTold words (told.Joined id era rescanned) = IsFinished words (codes "joined") id era rescanned
SpellsTold words (told.Left id era rescanned) = IsFinished words (codes "left") id era rescanned
SpellsTold words (told.Resized need_prep need_acc era rescanned) =
    (first second number count : Word) × (words ≡ codes "resized" ∷ first ∷ second ∷ codes "era" ∷ number ∷ codes "rescanned" ∷ count ∷ [])
    × IsNumber 32 need_prep first × IsNumber 32 need_acc second × IsNumber 32 era number × IsNumber 32 rescanned count
SpellsTold words (told.Refused reason) = words ≡ refusal_words reason
SpellsTold words (told.Busy era) = IsPair words (codes "busy") (IsNumber 32 era)
SpellsTold words (told.Collected key ballot removed kept) =
    (at first last : Word) × (words ≡ codes "collected" ∷ key ∷ codes "at" ∷ at ∷ codes "removed" ∷ first ∷ codes "kept" ∷ last ∷ [])
    × IsKey key × IsBallot ballot at × IsNumber 32 removed first × IsNumber 32 kept last
SpellsTold words (told.NotEmpty version) = (last : Word) × (words ≡ codes "not" ∷ codes "empty" ∷ last ∷ []) × IsVersion version last
SpellsTold words (told.Absent acceptor) = IsPair words (codes "absent") (IsAcceptor acceptor)
SpellsTold words (told.ProposerDown proposer) = (last : Word) × (words ≡ codes "proposer" ∷ codes "down" ∷ last ∷ []) × IsNumber 8 proposer last
SpellsTold words (told.Probed key found) = ⊥
SpellsTold words (told.Stopped answer) = IsStop words answer

-- ---- lines

-- an era, and the acceptors of a quorum in it
abbrev pub IsQuorum : List Word → ℕ → List ℕ → Type 0
IsQuorum words era ids = (number set : Word) × (words ≡ codes "era" ∷ number ∷ codes "by" ∷ set ∷ []) × IsNumber 32 era number × IsSet ids set

-- what harmed a frame: its fate, or that its acceptor was down
abbrev pub harm_word : Bool → Word
harm_word false = codes "fate"
harm_word true = codes "down"

-- the words of a mark's line, of which there is one form for each kind of mark
abbrev pub IsMarkLine : List Word → Mark → Type 0
IsMarkLine words (Begun caller call key program) =
    (at : Word) × (rest : List Word) × (words ≡ codes "begun" ∷ at ∷ key ∷ rest) × SpellsCall caller call at × IsKey key × IsProgram rest program
IsMarkLine words (Proposed p) =
    (at ballot read : Word) × (rest : List Word) × (words ≡ codes "proposed" ∷ at ∷ p.key ∷ ballot ∷ codes "read" ∷ read ∷ rest)
    × SpellsCall p.caller p.call at × IsKey p.key × IsBallot p.ballot ballot × IsBallot p.read read × IsQuorum rest p.era p.prepared_by
IsMarkLine words (Voted acceptor key ballot) =
    (first last : Word) × (words ≡ codes "voted" ∷ first ∷ key ∷ last ∷ []) × IsAcceptor acceptor first × IsKey key × IsBallot ballot last
IsMarkLine words (Acked a) =
    (ballot : Word) × (rest : List Word) × (words ≡ codes "acked" ∷ a.key ∷ ballot ∷ rest) × IsKey a.key × IsBallot a.ballot ballot × IsQuorum rest a.era a.by
IsMarkLine words (Floor key ballot state) =
    (at : Word) × (rest : List Word) × (words ≡ codes "floor" ∷ key ∷ at ∷ rest) × IsKey key × IsBallot ballot at × IsState rest state
IsMarkLine words (EraEntered proposer number) =
    (first last : Word) × (words ≡ codes "entered" ∷ first ∷ last ∷ []) × IsNumber 8 proposer first × IsNumber 32 number last
IsMarkLine words (Ended caller call rounds answer) =
    (at count : Word) × (rest : List Word) × (words ≡ codes "ended" ∷ at ∷ count ∷ rest) × SpellsCall caller call at × IsNumber 32 rounds count × IsAnswer rest answer
IsMarkLine words (Harmed caller call down) = (at : Word) × (words ≡ codes "harmed" ∷ at ∷ harm_word down ∷ []) × SpellsCall caller call at
IsMarkLine words (Told asked answer) =
    (front rest : List Word) × (words ≡ codes "told" ∷ front ++ codes "->" ∷ rest) × SpellsAsked front asked × SpellsTold rest answer

-- the line in front of the marks, which says how many there are
abbrev pub IsCountLine : List Word → ℕ → Type 0
IsCountLine words count = IsPair words (codes "record") (IsNumber 32 count)
