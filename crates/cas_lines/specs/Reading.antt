-- Reading the words of a line from left to right, up to the first that does not fit.
use Rattle.std.specs.Prelude.{ℕ, Bool, false, ◌||◌, ◌&&◌, ◌==◌, nat_le, nat_lt, if◌then◌else◌, List, [], ◌∷◌, length, codes, Option, Some, None, Result, Ok, Err}
use Rattle.std.specs.Char.{is_ascii_digit}
use Rattle.std.specs.Option.{ok_or, is_some}
use Rattle.std.specs.Str.{bytes_eq}
use Rattle.cas_change.specs.Key.{first_bad_byte}
use Rattle.cas_change.specs.declared.key.KeyFault.{KeyFault}
use Rattle.cas_change.specs.declared.key.KeyFault.TheVariants as fault
use Rattle.cas_change.specs.declared.key.TheConstants.{LONGEST_KEY}
use Rattle.cas_change_text.specs.Decimal.{u64_of}
use Rattle.cas_change_text.specs.Words.{Word, WordsLeft, words_of, all_of}
use Rattle.cas_change_text.specs.Reading.{◌>>=◌, Read, word_at, version_at, number_at, text_at, program_at, end_at, refusal_at}
use Rattle.cas_change_text.specs.declared.refusal.TextRefusal.{TextRefusal}
use Rattle.cas_change_text.specs.declared.refusal.Why.{Why}
use Rattle.cas_change_text.specs.declared.refusal.Why.TheVariants as why
use Rattle.cas_fate.specs.declared.fate.Leg.{Leg}
use Rattle.cas_fate.specs.declared.fate.Leg.TheVariants as legs
use Rattle.cas_fate.specs.declared.fate.Verdict.{Verdict}
use Rattle.cas_fate.specs.declared.fate.Verdict.TheVariants as verdicts
use Rattle.cas_lines.specs.Command.{is_remark}
use Rattle.cas_lines.specs.declared.reading.TheConstants.{LONGEST_LINE}
use Rattle.cas_lines.specs.declared.command.Command.{Command}
use Rattle.cas_lines.specs.declared.command.Command.TheVariants.{Get, Set, Num, Init, Add, Cas, CasNum, Del, DelVersion, Do, Join, Leave, Resize, Collect, Probe, Read as ReadKey, Net, CrashAcceptor, RestartAcceptor, CrashProposer, RestartProposer, HaltPrepared, HaltProposed, Stray, Show}
use Rattle.cas_lines.specs.declared.changes.ChangeName.{ChangeName}
use Rattle.cas_lines.specs.declared.changes.ChangeName.TheVariants as names
use Rattle.cas_lines.specs.declared.events.EventName.{EventName}
use Rattle.cas_lines.specs.declared.events.EventName.TheVariants as events
use Rattle.cas_lines.specs.declared.events.Party.{Party}
use Rattle.cas_lines.specs.declared.events.Party.TheVariants as parties
use Rattle.cas_lines.specs.declared.events.HaltPoint.{HaltPoint}
use Rattle.cas_lines.specs.declared.events.HaltPoint.TheVariants as points
use Rattle.cas_lines.specs.declared.operator.OpName.{OpName}
use Rattle.cas_lines.specs.declared.operator.OpName.TheVariants as ops
use Rattle.cas_lines.specs.declared.reading.LineHead.{LineHead}
use Rattle.cas_lines.specs.declared.reading.LineHead.TheVariants as heads

-- the first byte is a decimal digit
abbrev pub begins_with_digit : Word → Bool
begins_with_digit [] = false
begins_with_digit (byte ∷ bytes) = is_ascii_digit byte

-- the number, where it is within these bounds
abbrev pub within : ℕ → ℕ → Option ℕ → Option ℕ
within least greatest None = None
within least greatest (Some number) = if nat_le least number && nat_le number greatest then Some number else None

-- ---- changes

-- the form of change that a word names
abbrev pub change_name : Word → Option ChangeName
change_name word = if bytes_eq word (codes "get") then Some names.Get
    else (if bytes_eq word (codes "set") then Some names.Set
    else (if bytes_eq word (codes "num") then Some names.Num
    else (if bytes_eq word (codes "init") then Some names.Init
    else (if bytes_eq word (codes "add") then Some names.Add
    else (if bytes_eq word (codes "cas") then Some names.Cas
    else (if bytes_eq word (codes "casnum") then Some names.CasNum
    else (if bytes_eq word (codes "del") then Some names.Del
    else (if bytes_eq word (codes "delv") then Some names.DelVersion
    else (if bytes_eq word (codes "do") then Some names.Do else None)))))))))

unfoldable pub name_at : WordsLeft → Read ChangeName
name_at left = do
  word ← word_at left
  name ← ok_or (change_name word.0) (refusal_at why.UnknownWord left)
  Ok (name, word.1)

-- why bytes that are no key are refused
abbrev pub why_no_key : KeyFault → Why
why_no_key fault.TooLong = why.TooLong
why_no_key fault.Empty = why.UnknownWord
why_no_key (fault.BadByte at) = why.UnknownWord
why_no_key fault.NoMemory = why.NoMemory

-- the key that a word is, which stands at this place
unfoldable pub key_in : ℕ → Word → Result (List ℕ) TextRefusal
key_in at word = if nat_lt LONGEST_KEY (length word) then Err (record { why = why.TooLong; word = at })
    else (if (length word == 0) || is_some (first_bad_byte word) then Err (record { why = why.UnknownWord; word = at }) else Ok word)

unfoldable pub key_at : WordsLeft → Read (List ℕ)
key_at left = do
  word ← word_at left
  key ← key_in left.at word.0
  Ok (key, word.1)

-- what was read, where no word follows
abbrev pub ended : {X : Type 0} → Read X → Result X TextRefusal
ended read = do
  x ← read
  end ← end_at x.1
  Ok x.0

-- the change of this form, by what follows its key
unfoldable pub change_of_name : ChangeName → ℕ → List ℕ → WordsLeft → Result Command TextRefusal
change_of_name names.Get caller key left = end_at left >>= λ end. Ok (Get caller key)
change_of_name names.Set caller key left = ended (text_at left) >>= λ text. Ok (Set caller key text)
change_of_name names.Num caller key left = ended (number_at left) >>= λ number. Ok (Num caller key number)
change_of_name names.Init caller key left = ended (number_at left) >>= λ number. Ok (Init caller key number)
change_of_name names.Add caller key left = ended (number_at left) >>= λ number. Ok (Add caller key number)
change_of_name names.Cas caller key left = version_at left >>= λ version. (ended (text_at version.1) >>= λ text. Ok (Cas caller key version.0 text))
change_of_name names.CasNum caller key left = version_at left >>= λ version. (ended (number_at version.1) >>= λ number. Ok (CasNum caller key version.0 number))
change_of_name names.Del caller key left = end_at left >>= λ end. Ok (Del caller key)
change_of_name names.DelVersion caller key left = ended (version_at left) >>= λ version. Ok (DelVersion caller key version)
change_of_name names.Do caller key left = program_at left >>= λ program. Ok (Do caller key program)

-- a form and a key, and what follows them
unfoldable pub change_at : ℕ → WordsLeft → Result Command TextRefusal
change_at caller left = do
  name ← name_at left
  key ← key_at name.1
  change_of_name name.0 caller key.0 key.1

-- ---- acceptors

abbrev pub acceptor_of : Word → Option ℕ
acceptor_of word = within 0 63 (u64_of word)

unfoldable pub acceptor_at : WordsLeft → Read ℕ
acceptor_at left = do
  word ← word_at left
  id ← ok_or (acceptor_of word.0) (refusal_at why.BadNumber left)
  Ok (id, word.1)

-- ---- operator lines

abbrev pub size_of : Word → Option ℕ
size_of word = within 1 9 (u64_of word)

unfoldable pub size_at : WordsLeft → Read ℕ
size_at left = do
  word ← word_at left
  size ← ok_or (size_of word.0) (refusal_at why.BadNumber left)
  Ok (size, word.1)

-- what an operator's line asks for, as a word names it
abbrev pub op_name : Word → Option OpName
op_name word = if bytes_eq word (codes "join") then Some ops.Join
    else (if bytes_eq word (codes "leave") then Some ops.Leave
    else (if bytes_eq word (codes "resize") then Some ops.Resize
    else (if bytes_eq word (codes "collect") then Some ops.Collect
    else (if bytes_eq word (codes "probe") then Some ops.Probe
    else (if bytes_eq word (codes "read") then Some ops.Read else None)))))

unfoldable pub op_name_at : WordsLeft → Read OpName
op_name_at left = do
  word ← word_at left
  name ← ok_or (op_name word.0) (refusal_at why.UnknownWord left)
  Ok (name, word.1)

-- the operator's line of this name, by what follows it
unfoldable pub op_of_name : OpName → WordsLeft → Result Command TextRefusal
op_of_name ops.Join left = ended (acceptor_at left) >>= λ id. Ok (Join id)
op_of_name ops.Leave left = ended (acceptor_at left) >>= λ id. Ok (Leave id)
op_of_name ops.Resize left = size_at left >>= λ need_prep. (ended (size_at need_prep.1) >>= λ need_acc. Ok (Resize need_prep.0 need_acc))
op_of_name ops.Collect left = ended (key_at left) >>= λ key. Ok (Collect key)
op_of_name ops.Probe left = ended (key_at left) >>= λ key. Ok (Probe key)
op_of_name ops.Read left = ended (key_at left) >>= λ key. Ok (ReadKey key)

-- a name, and what follows it
unfoldable pub op_at : WordsLeft → Result Command TextRefusal
op_at left = op_name_at left >>= λ name. op_of_name name.0 name.1

-- ---- events

-- the event that a word names
abbrev pub event_name : Word → Option EventName
event_name word = if bytes_eq word (codes "net") then Some events.Net
    else (if bytes_eq word (codes "crash") then Some events.Crash
    else (if bytes_eq word (codes "restart") then Some events.Restart
    else (if bytes_eq word (codes "halt") then Some events.Halt
    else (if bytes_eq word (codes "stray") then Some events.Stray
    else (if bytes_eq word (codes "show") then Some events.Show else None)))))

abbrev pub leg_name : Word → Option Leg
leg_name word = if bytes_eq word (codes "prepare") then Some legs.Prepare
    else (if bytes_eq word (codes "accept") then Some legs.Accept
    else (if bytes_eq word (codes "ages") then Some legs.Ages
    else (if bytes_eq word (codes "remove") then Some legs.Remove
    else (if bytes_eq word (codes "list") then Some legs.List
    else (if bytes_eq word (codes "probe") then Some legs.Probe
    else (if bytes_eq word (codes "reply") then Some legs.Reply else None))))))

abbrev pub verdict_name : Word → Option Verdict
verdict_name word = if bytes_eq word (codes "deliver") then Some verdicts.Deliver
    else (if bytes_eq word (codes "lose") then Some verdicts.Lose
    else (if bytes_eq word (codes "twice") then Some verdicts.Twice
    else (if bytes_eq word (codes "late") then Some verdicts.Late else None)))

abbrev pub party_name : Word → Option Party
party_name word = if bytes_eq word (codes "acceptor") then Some parties.Acceptor
    else (if bytes_eq word (codes "proposer") then Some parties.Proposer else None)

abbrev pub halt_point_name : Word → Option HaltPoint
halt_point_name word = if bytes_eq word (codes "after-prepare") then Some points.Prepared
    else (if bytes_eq word (codes "after-propose") then Some points.Proposed else None)

abbrev pub proposer_of : ℕ → Word → Option ℕ
proposer_of proposers word = within 0 proposers (u64_of word)

-- what a word says, which stands at this place; nothing where it stands for all
abbrev pub one_or_all : {X : Type 0} → Word → (Word → Option X) → Why → ℕ → Word → Result (Option X) TextRefusal
one_or_all all value reason at word = if bytes_eq word all then Ok None else (ok_or (value word) (record { why = reason; word = at }) >>= λ x. Ok (Some x))

abbrev pub leg_in : ℕ → Word → Result (Option Leg) TextRefusal
leg_in = one_or_all (codes "all") leg_name why.UnknownWord

abbrev pub who_in : ℕ → Word → Result (Option ℕ) TextRefusal
who_in = one_or_all (codes "*") acceptor_of why.BadNumber

unfoldable pub leg_at : WordsLeft → Read (Option Leg)
leg_at left = do
  word ← word_at left
  leg ← leg_in left.at word.0
  Ok (leg, word.1)

unfoldable pub who_at : WordsLeft → Read (Option ℕ)
who_at left = do
  word ← word_at left
  who ← who_in left.at word.0
  Ok (who, word.1)

unfoldable pub verdict_at : WordsLeft → Read Verdict
verdict_at left = do
  word ← word_at left
  verdict ← ok_or (verdict_name word.0) (refusal_at why.UnknownWord left)
  Ok (verdict, word.1)

unfoldable pub party_at : WordsLeft → Read Party
party_at left = do
  word ← word_at left
  party ← ok_or (party_name word.0) (refusal_at why.UnknownWord left)
  Ok (party, word.1)

unfoldable pub halt_point_at : WordsLeft → Read HaltPoint
halt_point_at left = do
  word ← word_at left
  point ← ok_or (halt_point_name word.0) (refusal_at why.UnknownWord left)
  Ok (point, word.1)

unfoldable pub proposer_at : ℕ → WordsLeft → Read ℕ
proposer_at proposers left = do
  word ← word_at left
  proposer ← ok_or (proposer_of proposers word.0) (refusal_at why.BadNumber left)
  Ok (proposer, word.1)

unfoldable pub net_at : WordsLeft → Result Command TextRefusal
net_at left = do
  leg ← leg_at left
  who ← who_at leg.1
  verdict ← ended (verdict_at who.1)
  Ok (Net leg.0 who.0 verdict)

unfoldable pub crash_of : Party → ℕ → WordsLeft → Result Command TextRefusal
crash_of parties.Acceptor proposers left = ended (acceptor_at left) >>= λ id. Ok (CrashAcceptor id)
crash_of parties.Proposer proposers left = ended (proposer_at proposers left) >>= λ proposer. Ok (CrashProposer proposer)

unfoldable pub restart_of : Party → ℕ → WordsLeft → Result Command TextRefusal
restart_of parties.Acceptor proposers left = ended (acceptor_at left) >>= λ id. Ok (RestartAcceptor id)
restart_of parties.Proposer proposers left = ended (proposer_at proposers left) >>= λ proposer. Ok (RestartProposer proposer)

abbrev pub halt_of : HaltPoint → ℕ → Command
halt_of points.Prepared proposer = HaltPrepared proposer
halt_of points.Proposed proposer = HaltProposed proposer

unfoldable pub halt_at : ℕ → WordsLeft → Result Command TextRefusal
halt_at proposers left = do
  proposer ← proposer_at proposers left
  point ← ended (halt_point_at proposer.1)
  Ok (halt_of point proposer.0)

unfoldable pub show_at : WordsLeft → Result Command TextRefusal
show_at left = do
  id ← acceptor_at left
  key ← ended (key_at id.1)
  Ok (Show id.0 key)

-- the event of this name, by what follows it
unfoldable pub event_at : EventName → ℕ → WordsLeft → Result Command TextRefusal
event_at events.Net proposers left = net_at left
event_at events.Crash proposers left = party_at left >>= λ party. crash_of party.0 proposers party.1
event_at events.Restart proposers left = party_at left >>= λ party. restart_of party.0 proposers party.1
event_at events.Halt proposers left = halt_at proposers left
event_at events.Stray proposers left = ended (version_at left) >>= λ index. Ok (Stray index)
event_at events.Show proposers left = show_at left

-- ---- lines

-- what a first word says, which stands at this place: a number is a caller, `op` is an operator's line, and another name
-- is that of an event
unfoldable pub head_in : ℕ → ℕ → Word → Result LineHead TextRefusal
head_in proposers at word = if begins_with_digit word
    then (ok_or (within 1 proposers (u64_of word)) (record { why = why.BadNumber; word = at }) >>= λ caller. Ok (heads.Caller caller))
    else (if bytes_eq word (codes "op") then Ok heads.Operator
    else (ok_or (event_name word) (record { why = why.UnknownWord; word = at }) >>= λ name. Ok (heads.Event name)))

unfoldable pub head_at : ℕ → WordsLeft → Read LineHead
head_at proposers left = do
  word ← word_at left
  head ← head_in proposers left.at word.0
  Ok (head, word.1)

-- what follows the first word
abbrev pub command_behind : ℕ → LineHead → WordsLeft → Result Command TextRefusal
command_behind proposers (heads.Caller caller) left = change_at caller left
command_behind proposers heads.Operator left = op_at left
command_behind proposers (heads.Event name) left = event_at name proposers left

unfoldable pub command_at : ℕ → WordsLeft → Result Command TextRefusal
command_at proposers left = do
  head ← head_at proposers left
  command_behind proposers head.0 head.1

-- a whole line, where its length fits
unfoldable pub words_in : ℕ → List Word → Result (Option Command) TextRefusal
words_in proposers words = if is_remark words then Ok None else (command_at proposers (all_of words) >>= λ command. Ok (Some command))

-- a whole line
unfoldable pub line_in : ℕ → List ℕ → Result (Option Command) TextRefusal
line_in proposers line = if nat_lt LONGEST_LINE (length line) then Err (record { why = why.TooLong; word = 0 })
    else words_in proposers (words_of line)
