-- The lines that ask for a change, are an operator's or are an event, and what they ask for.
use Rattle.std.specs.Prelude.{◌≡◌, ◌≢◌, ℕ, ◌≤◌, Bool, true, false, ◌==◌, List, [], ◌∷◌, ◌++◌, length, codes, Option, Some, None, IfSome}
use Rattle.std.specs.List.{list_any}
use Rattle.std.specs.Str.{bytes_eq}
use Rattle.cas_change.specs.Key.{IsKey}
use Rattle.cas_change.specs.declared.program.Clause.{Clause}
use Rattle.cas_change.specs.declared.program.Guard.{Guard}
use Rattle.cas_change.specs.declared.program.Guard.TheVariants.{Always, IsEmpty, VersionIs}
use Rattle.cas_change.specs.declared.program.Act.{Act}
use Rattle.cas_change.specs.declared.program.Act.TheVariants.{Keep, PutText, PutNumber, Add as AddTo, Clear}
use Rattle.cas_change_text.specs.Decimal.{u64_of, i64_of}
use Rattle.cas_change_text.specs.Grammar.{IsTextWord, IsClauses, IsProgram}
use Rattle.cas_change_text.specs.Words.{Word, words_of}
use Rattle.cas_fate.specs.declared.fate.Leg.{Leg}
use Rattle.cas_fate.specs.declared.fate.Leg.TheVariants as legs
use Rattle.cas_fate.specs.declared.fate.Verdict.{Verdict}
use Rattle.cas_fate.specs.declared.fate.Verdict.TheVariants as verdicts
use Rattle.cas_lines.specs.declared.reading.TheConstants.{LONGEST_LINE}
use Rattle.cas_lines.specs.declared.command.Command.{Command}
use Rattle.cas_lines.specs.declared.command.Command.TheVariants.{Get, Set, Num, Init, Add, Cas, CasNum, Del, DelVersion, Do, Join, Leave, Resize, Collect, Probe, Read, Net, CrashAcceptor, RestartAcceptor, CrashProposer, RestartProposer, HaltPrepared, HaltProposed, Stray, Show}

-- ---- the grammar

-- the word is the number of one of the proposers, from 1
abbrev pub NamesCaller : ℕ → ℕ → Word → Type 0
NamesCaller proposers caller word = (u64_of word ≡ Some caller) × (1 ≤ caller) × (caller ≤ proposers)

-- a caller, the name of a form, a key, and these words
abbrev pub IsForm : ℕ → List Word → ℕ → Word → List ℕ → List Word → Type 0
IsForm proposers words caller name key rest = (word : Word) × NamesCaller proposers caller word × IsKey key × (words ≡ word ∷ name ∷ key ∷ rest)

-- the same, where one word follows the key
abbrev pub IsFormWith : ℕ → List Word → ℕ → Word → List ℕ → (Word → Type 0) → Type 0
IsFormWith proposers words caller name key P = (last : Word) × IsForm proposers words caller name key (last ∷ []) × P last

-- the same, where a version and one word more follow it
abbrev pub IsFormAt : ℕ → List Word → ℕ → Word → List ℕ → ℕ → (Word → Type 0) → Type 0
IsFormAt proposers words caller name key version P =
    (first last : Word) × IsForm proposers words caller name key (first ∷ last ∷ []) × (u64_of first ≡ Some version) × P last

-- the word is an acceptor's number
abbrev pub IsAcceptor : ℕ → Word → Type 0
IsAcceptor id word = (u64_of word ≡ Some id) × (id ≤ 63)

-- the word is the number of one of the proposers, where the operator's own is 0
abbrev pub IsProposer : ℕ → ℕ → Word → Type 0
IsProposer proposers proposer word = (u64_of word ≡ Some proposer) × (proposer ≤ proposers)

-- the word that names a leg
abbrev pub leg_word : Leg → Word
leg_word legs.Prepare = codes "prepare"
leg_word legs.Accept = codes "accept"
leg_word legs.Ages = codes "ages"
leg_word legs.Remove = codes "remove"
leg_word legs.List = codes "list"
leg_word legs.Probe = codes "probe"
leg_word legs.Reply = codes "reply"

-- the word names this leg, or all of them
abbrev pub IsLeg : Option Leg → Word → Type 0
IsLeg None word = word ≡ codes "all"
IsLeg (Some leg) word = word ≡ leg_word leg

-- the word says this size of a quorum
abbrev pub IsSize : ℕ → Word → Type 0
IsSize size word = (u64_of word ≡ Some size) × (1 ≤ size) × (size ≤ 9)

-- the word is this acceptor's number, or stands for all of them
abbrev pub IsWho : Option ℕ → Word → Type 0
IsWho None word = word ≡ codes "*"
IsWho (Some id) word = IsAcceptor id word

-- the word names this verdict. No word names that a frame is held back
abbrev pub NamesVerdict : Verdict → Word → Type 0
NamesVerdict verdicts.Deliver word = word ≡ codes "deliver"
NamesVerdict verdicts.Lose word = word ≡ codes "lose"
NamesVerdict verdicts.Twice word = word ≡ codes "twice"
NamesVerdict verdicts.Late word = word ≡ codes "late"
NamesVerdict verdicts.Hold word = ⊥

-- these words, and a last one
abbrev pub HasLast : List Word → List Word → (Word → Type 0) → Type 0
HasLast words names P = (last : Word) × (words ≡ names ++ last ∷ []) × P last

-- a halt of a proposer at the point of this name
abbrev pub IsHalt : ℕ → List Word → ℕ → Word → Type 0
IsHalt proposers words proposer point = (word : Word) × (words ≡ codes "halt" ∷ word ∷ point ∷ []) × IsProposer proposers proposer word

-- the words of a command, of which there is one form for each
abbrev pub IsCommand : ℕ → List Word → Command → Type 0
IsCommand proposers words (Get caller key) = IsForm proposers words caller (codes "get") key []
IsCommand proposers words (Set caller key text) = IsFormWith proposers words caller (codes "set") key (IsTextWord text)
IsCommand proposers words (Num caller key number) = IsFormWith proposers words caller (codes "num") key (λ word. i64_of word ≡ Some number)
IsCommand proposers words (Init caller key number) = IsFormWith proposers words caller (codes "init") key (λ word. i64_of word ≡ Some number)
IsCommand proposers words (Add caller key number) = IsFormWith proposers words caller (codes "add") key (λ word. i64_of word ≡ Some number)
IsCommand proposers words (Cas caller key version text) = IsFormAt proposers words caller (codes "cas") key version (IsTextWord text)
IsCommand proposers words (CasNum caller key version number) = IsFormAt proposers words caller (codes "casnum") key version (λ word. i64_of word ≡ Some number)
IsCommand proposers words (Del caller key) = IsForm proposers words caller (codes "del") key []
IsCommand proposers words (DelVersion caller key version) = IsFormWith proposers words caller (codes "delv") key (λ word. u64_of word ≡ Some version)
IsCommand proposers words (Do caller key program) = (rest : List Word) × IsForm proposers words caller (codes "do") key rest × IsProgram rest program
IsCommand proposers words (Join id) = HasLast words (codes "op" ∷ codes "join" ∷ []) (IsAcceptor id)
IsCommand proposers words (Leave id) = HasLast words (codes "op" ∷ codes "leave" ∷ []) (IsAcceptor id)
IsCommand proposers words (Resize need_prep need_acc) =
    (first second : Word) × (words ≡ codes "op" ∷ codes "resize" ∷ first ∷ second ∷ []) × IsSize need_prep first × IsSize need_acc second
IsCommand proposers words (Collect key) = (words ≡ codes "op" ∷ codes "collect" ∷ key ∷ []) × IsKey key
IsCommand proposers words (Probe key) = (words ≡ codes "op" ∷ codes "probe" ∷ key ∷ []) × IsKey key
IsCommand proposers words (Read key) = (words ≡ codes "op" ∷ codes "read" ∷ key ∷ []) × IsKey key
IsCommand proposers words (Net leg who verdict) =
    (first second third : Word) × (words ≡ codes "net" ∷ first ∷ second ∷ third ∷ []) × IsLeg leg first × IsWho who second × NamesVerdict verdict third
IsCommand proposers words (CrashAcceptor id) = HasLast words (codes "crash" ∷ codes "acceptor" ∷ []) (IsAcceptor id)
IsCommand proposers words (RestartAcceptor id) = HasLast words (codes "restart" ∷ codes "acceptor" ∷ []) (IsAcceptor id)
IsCommand proposers words (CrashProposer proposer) = HasLast words (codes "crash" ∷ codes "proposer" ∷ []) (IsProposer proposers proposer)
IsCommand proposers words (RestartProposer proposer) = HasLast words (codes "restart" ∷ codes "proposer" ∷ []) (IsProposer proposers proposer)
IsCommand proposers words (HaltPrepared proposer) = IsHalt proposers words proposer (codes "after-prepare")
IsCommand proposers words (HaltProposed proposer) = IsHalt proposers words proposer (codes "after-propose")
IsCommand proposers words (Stray index) = HasLast words (codes "stray" ∷ []) (λ word. u64_of word ≡ Some index)
IsCommand proposers words (Show id key) = (word : Word) × (words ≡ codes "show" ∷ word ∷ key ∷ []) × IsAcceptor id word × IsKey key

-- the same, where a program may have any number of clauses
abbrev pub IsUnlimited : ℕ → List Word → Command → Type 0
IsUnlimited proposers words (Do caller key program) = (rest : List Word) × IsForm proposers words caller (codes "do") key rest × IsClauses rest program
IsUnlimited proposers words command = IsCommand proposers words command

-- the words of some command
abbrev pub AreCommand : ℕ → List Word → Type 0
AreCommand proposers words = (command : Command) × IsCommand proposers words command

abbrev pub AreUnlimited : ℕ → List Word → Type 0
AreUnlimited proposers words = (command : Command) × IsUnlimited proposers words command

-- a line without a word, or whose first word begins with a number sign
abbrev pub is_remark : List Word → Bool
is_remark [] = true
is_remark ([] ∷ words) = false
is_remark ((byte ∷ bytes) ∷ words) = byte == 35

-- the words that begin events
abbrev pub event_words : List Word
event_words = codes "net" ∷ codes "crash" ∷ codes "restart" ∷ codes "halt" ∷ codes "stray" ∷ codes "show" ∷ []

-- an event's line: its first word is one of them
abbrev pub is_event : List Word → Bool
is_event [] = false
is_event (word ∷ words) = list_any (bytes_eq word) event_words

-- what a line of at most 16,384 bytes says: a command, or nothing where it is a remark
abbrev pub IsLine : ℕ → List ℕ → Option Command → Type 0
IsLine proposers line None = (length line ≤ LONGEST_LINE) × (is_remark (words_of line) ≡ true)
IsLine proposers line (Some command) = (length line ≤ LONGEST_LINE) × IsCommand proposers (words_of line) command

-- ---- what a command asks for

-- a change of the register of a key, for a caller
pub record AskedChange : Type 0 where
  pub caller : ℕ
  pub key : List ℕ
  pub program : List Clause

abbrev pub asks : ℕ → List ℕ → List Clause → Option AskedChange
asks caller key program = Some (record { caller = caller; key = key; program = program })

-- a program of one clause
abbrev pub one : Guard → Act → List Clause
one guard act = record { guard = guard; act = act } ∷ []

-- the change that a command asks for; none where it is an event or an operator's
abbrev pub change_of : Command → Option AskedChange
change_of (Get caller key) = asks caller key (one Always Keep)
change_of (Set caller key text) = asks caller key (one Always (PutText text))
change_of (Num caller key number) = asks caller key (one Always (PutNumber number))
change_of (Init caller key number) = asks caller key (one IsEmpty (PutNumber number))
change_of (Add caller key number) = asks caller key (one Always (AddTo number))
change_of (Cas caller key version text) = asks caller key (one (VersionIs version) (PutText text))
change_of (CasNum caller key version number) = asks caller key (one (VersionIs version) (PutNumber number))
change_of (Del caller key) = asks caller key (one Always Clear)
change_of (DelVersion caller key version) = asks caller key (one (VersionIs version) Clear)
change_of (Do caller key program) = asks caller key program
change_of command = None

-- the command is an event, which asks for no change and nothing of the operator
abbrev pub asks_nobody : Command → Bool
asks_nobody (Net leg who verdict) = true
asks_nobody (CrashAcceptor id) = true
asks_nobody (RestartAcceptor id) = true
asks_nobody (CrashProposer proposer) = true
asks_nobody (RestartProposer proposer) = true
asks_nobody (HaltPrepared proposer) = true
asks_nobody (HaltProposed proposer) = true
asks_nobody (Stray index) = true
asks_nobody (Show id key) = true
asks_nobody command = false

-- a command is within its limits, where there are so many proposers: callers count from 1 and proposers from 0, and no
-- frame is held back
abbrev pub IsKnown : ℕ → Command → Type 0
IsKnown proposers (Net leg who verdict) = verdict ≢ verdicts.Hold
IsKnown proposers (CrashProposer proposer) = proposer ≤ proposers
IsKnown proposers (RestartProposer proposer) = proposer ≤ proposers
IsKnown proposers (HaltPrepared proposer) = proposer ≤ proposers
IsKnown proposers (HaltProposed proposer) = proposer ≤ proposers
IsKnown proposers command = IfSome (change_of command) (λ asked. (1 ≤ asked.caller) × (asked.caller ≤ proposers))
