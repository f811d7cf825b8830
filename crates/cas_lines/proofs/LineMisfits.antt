-- The first word of a line that does not fit.
use Rattle.std.proofs.Common.{◌≡◌, ℕ, ◌≤◌, Bool, true, false, List, ◌∷◌, length, Option, Some, None, Result, Ok, Err, refl, sym, ap, subst, ◌∙◌, arith}
use Rattle.std.specs.Prelude.{◌||◌, ◌==◌, codes, nat_lt, if◌then◌else◌}
use Rattle.std.specs.Option.{ok_or, is_some}
use Rattle.std.specs.Str.{bytes_eq}
use Rattle.std.proofs.lemmas.Bool.{le-leb, le-ltb}
use Rattle.cas_change.specs.Key.{IsKey, first_bad_byte}
use Rattle.cas_change.specs.declared.key.TheConstants.{LONGEST_KEY}
use Rattle.cas_change.specs.declared.program.TheConstants.{MOST_CLAUSES}
use Rattle.cas_change_text.specs.declared.refusal.Why.{Why}
use Rattle.cas_change_text.specs.declared.refusal.Why.TheVariants as why
use Rattle.cas_change_text.specs.declared.refusal.TextRefusal.{TextRefusal}
use Rattle.cas_change_text.specs.Decimal.{u64_of}
use Rattle.cas_change_text.specs.Misfit.{IsFirstMisfit}
use Rattle.cas_change_text.specs.Reading.{◌>>=◌, version_at, number_at, text_at, clauses_at}
use Rattle.cas_change_text.specs.Words.{Word, WordsLeft, words_of, all_of}
use Rattle.cas_change_text.proofs.BothWays.{bind_ok, clauses_found}
use Rattle.cas_change_text.proofs.Misfits.{said_reader, version_reader, number_reader, text_reader, clauses_whole}
use Rattle.cas_change_text.proofs.Stopping.{IsReader, IsWhole, read_as, after, one_word_reader, reads_nothing, to_end, whole_to_end, whole_after, made_whole, first_misfit}
use Rattle.cas_fate.specs.declared.fate.Verdict.TheVariants as verdicts
use Rattle.cas_lines.specs.declared.reading.TheConstants.{LONGEST_LINE}
use Rattle.cas_lines.specs.declared.command.Command.{Command}
use Rattle.cas_lines.specs.declared.command.Command.TheVariants.{Get, Set, Num, Init, Add, Cas, CasNum, Del, DelVersion, Do, Join, Leave, Resize, Collect, Probe, Read, Net, CrashAcceptor, RestartAcceptor, CrashProposer, RestartProposer, HaltPrepared, HaltProposed, Stray, Show}
use Rattle.cas_lines.specs.declared.changes.ChangeName.{ChangeName}
use Rattle.cas_lines.specs.declared.changes.ChangeName.TheVariants as names
use Rattle.cas_lines.specs.declared.events.EventName.{EventName}
use Rattle.cas_lines.specs.declared.events.EventName.TheVariants as events
use Rattle.cas_lines.specs.declared.events.Party.{Party}
use Rattle.cas_lines.specs.declared.events.Party.TheVariants as parties
use Rattle.cas_lines.specs.declared.events.HaltPoint.TheVariants as points
use Rattle.cas_lines.specs.declared.operator.OpName.{OpName}
use Rattle.cas_lines.specs.declared.operator.OpName.TheVariants as ops
use Rattle.cas_lines.specs.declared.reading.LineHead.{LineHead}
use Rattle.cas_lines.specs.declared.reading.LineHead.TheVariants as heads
use Rattle.cas_lines.specs.Command.{NamesCaller, IsCommand, IsUnlimited, AreCommand, AreUnlimited, is_remark}
use Rattle.cas_lines.specs.Reading.{begins_with_digit, within, change_name, name_at, key_in, key_at, change_of_name, change_at, size_at, size_of, op_name, op_name_at, op_of_name, op_at, event_name, leg_name, verdict_name, party_name, halt_point_name, acceptor_of, proposer_of, one_or_all, leg_in, leg_at, who_in, who_at, verdict_at, party_at, halt_point_at, acceptor_at, proposer_at, net_at, crash_of, restart_of, halt_of, halt_at, show_at, event_at, head_in, head_at, command_behind, command_at, words_in, line_in}
use Rattle.cas_lines.proofs.ChangeLines.{change_word, form, front_at, front_found, change_of_name-found}
use Rattle.cas_lines.proofs.Commands.{IsHead, line_at, line_at-found, behind_found, command_again}

-- ---- first words, names and keys

head_in-place : (proposers at : ℕ) (word : Word) (refusal : TextRefusal) → head_in proposers at word ≡ Err refusal → refusal.word ≡ at
unfolding head_in
head_in-place proposers at word refusal e = by (begins_with_digit word) (bytes_eq word (codes "op")) e
  where
    by_caller : (o : Option ℕ) → (ok_or o (record { why = why.BadNumber; word = at }) >>= λ caller. Ok (heads.Caller caller)) ≡ Err refusal → refusal.word ≡ at
    by_caller None is = let same : record { why = why.BadNumber; word = at } ≡ refusal = cc in ap (λ (r : TextRefusal). r.word) (sym same)
    by_caller (Some caller) is = absurd cc

    by_event : (o : Option EventName) → (ok_or o (record { why = why.UnknownWord; word = at }) >>= λ name. Ok (heads.Event name)) ≡ Err refusal → refusal.word ≡ at
    by_event None is = let same : record { why = why.UnknownWord; word = at } ≡ refusal = cc in ap (λ (r : TextRefusal). r.word) (sym same)
    by_event (Some name) is = absurd cc

    by : (b c : Bool) → (if b
        then (ok_or (within 1 proposers (u64_of word)) (record { why = why.BadNumber; word = at }) >>= λ caller. Ok (heads.Caller caller))
        else (if c then Ok heads.Operator else (ok_or (event_name word) (record { why = why.UnknownWord; word = at }) >>= λ name. Ok (heads.Event name)))) ≡ Err refusal → refusal.word ≡ at
    by true c is = by_caller (within 1 proposers (u64_of word)) is
    by false true is = absurd cc
    by false false is = by_event (event_name word) is

head_reader : (proposers : ℕ) → IsReader (head_at proposers)
unfolding head_at head_in
head_reader proposers = one_word_reader (head_in proposers) (head_in-place proposers) (codes "stray") (heads.Event events.Stray) (λ at. refl)

name_reader : IsReader name_at
unfolding name_at
name_reader = said_reader change_name why.UnknownWord (codes "get") names.Get refl

key_in-place : (at : ℕ) (word : Word) (refusal : TextRefusal) → key_in at word ≡ Err refusal → refusal.word ≡ at
unfolding key_in
key_in-place at word refusal e = by (nat_lt LONGEST_KEY (length word)) ((length word == 0) || is_some (first_bad_byte word)) e
  where
    by : (b c : Bool) → (if b then Err (record { why = why.TooLong; word = at }) else (if c then Err (record { why = why.UnknownWord; word = at }) else Ok word)) ≡ Err refusal → refusal.word ≡ at
    by true c is = let same : record { why = why.TooLong; word = at } ≡ refusal = cc in ap (λ (r : TextRefusal). r.word) (sym same)
    by false true is = let same : record { why = why.UnknownWord; word = at } ≡ refusal = cc in ap (λ (r : TextRefusal). r.word) (sym same)
    by false false is = absurd cc

key_reader : IsReader key_at
unfolding key_at key_in
key_reader = one_word_reader key_in key_in-place (codes "a") (codes "a") (λ at. refl)

-- ---- changes

-- what follows a key, where a program may have this many clauses
abbrev change_within : ℕ → ChangeName → ℕ → List ℕ → WordsLeft → Result Command TextRefusal
change_within most names.Do caller key left = clauses_at most left >>= λ program. Ok (Do caller key program)
change_within most name caller key left = change_of_name name caller key left

change_whole : (most caller : ℕ) (key : List ℕ) (name : ChangeName) → IsWhole (λ m. change_within m name caller key) most
unfolding change_of_name
change_whole most caller key names.Get = whole_to_end (λ left. read_as left (Get caller key)) most (reads_nothing (Get caller key))
change_whole most caller key names.Set = made_whole (to_end text_at) most (λ text. Set caller key text) (whole_to_end text_at most text_reader)
change_whole most caller key names.Num = made_whole (to_end number_at) most (λ number. Num caller key number) (whole_to_end number_at most number_reader)
change_whole most caller key names.Init = made_whole (to_end number_at) most (λ number. Init caller key number) (whole_to_end number_at most number_reader)
change_whole most caller key names.Add = made_whole (to_end number_at) most (λ number. Add caller key number) (whole_to_end number_at most number_reader)
change_whole most caller key names.Cas =
    whole_after version_at (λ m version left. to_end text_at m left >>= λ text. Ok (Cas caller key version text)) most version_reader
    (λ version. made_whole (to_end text_at) most (λ text. Cas caller key version text) (whole_to_end text_at most text_reader))
change_whole most caller key names.CasNum =
    whole_after version_at (λ m version left. to_end number_at m left >>= λ number. Ok (CasNum caller key version number)) most version_reader
    (λ version. made_whole (to_end number_at) most (λ number. CasNum caller key version number) (whole_to_end number_at most number_reader))
change_whole most caller key names.Del = whole_to_end (λ left. read_as left (Del caller key)) most (reads_nothing (Del caller key))
change_whole most caller key names.DelVersion = made_whole (to_end version_at) most (λ version. DelVersion caller key version) (whole_to_end version_at most version_reader)
change_whole most caller key names.Do = made_whole clauses_at most (λ program. Do caller key program) (clauses_whole most)

-- a form and a key, and what follows them, where a program may have this many clauses
abbrev change_up_to : ℕ → ℕ → WordsLeft → Result Command TextRefusal
change_up_to most caller left = front_at (change_within most) caller left

change_up_to-whole : (most caller : ℕ) → IsWhole (λ m. change_up_to m caller) most
change_up_to-whole most caller =
    whole_after name_at (λ m name. after key_at (λ key. change_within m name caller key)) most name_reader
    (λ name. whole_after key_at (λ m key. change_within m name caller key) most key_reader (λ key. change_whole most caller key name))

-- ---- operator lines

acceptor_reader : IsReader acceptor_at
unfolding acceptor_at
acceptor_reader = said_reader acceptor_of why.BadNumber (codes "0") 0 refl

size_reader : IsReader size_at
unfolding size_at
size_reader = said_reader size_of why.BadNumber (codes "1") 1 refl

op_name_reader : IsReader op_name_at
unfolding op_name_at
op_name_reader = said_reader op_name why.UnknownWord (codes "probe") ops.Probe refl

op_of_name-whole : (most : ℕ) (name : OpName) → IsWhole (λ m. op_of_name name) most
unfolding op_of_name
op_of_name-whole most ops.Join = made_whole (to_end acceptor_at) most (λ id. Join id) (whole_to_end acceptor_at most acceptor_reader)
op_of_name-whole most ops.Leave = made_whole (to_end acceptor_at) most (λ id. Leave id) (whole_to_end acceptor_at most acceptor_reader)
op_of_name-whole most ops.Resize =
    whole_after size_at (λ m need_prep left. to_end size_at m left >>= λ need_acc. Ok (Resize need_prep need_acc)) most size_reader
    (λ need_prep. made_whole (to_end size_at) most (λ need_acc. Resize need_prep need_acc) (whole_to_end size_at most size_reader))
op_of_name-whole most ops.Collect = made_whole (to_end key_at) most (λ key. Collect key) (whole_to_end key_at most key_reader)
op_of_name-whole most ops.Probe = made_whole (to_end key_at) most (λ key. Probe key) (whole_to_end key_at most key_reader)
op_of_name-whole most ops.Read = made_whole (to_end key_at) most (λ key. Read key) (whole_to_end key_at most key_reader)

op_whole : (most : ℕ) → IsWhole (λ m. op_at) most
unfolding op_at
op_whole most = whole_after op_name_at (λ m name. op_of_name name) most op_name_reader (op_of_name-whole most)

-- ---- events

one_or_all-place : {X : Type 0} (all : Word) (value : Word → Option X) (reason : Why) (at : ℕ) (word : Word) (refusal : TextRefusal) → one_or_all all value reason at word ≡ Err refusal → refusal.word ≡ at
one_or_all-place {X} all value reason at word refusal e = by (bytes_eq word all) (value word) e
  where
    by : (b : Bool) (o : Option X) → (if b then Ok None else (ok_or o (record { why = reason; word = at }) >>= λ x. Ok (Some x))) ≡ Err refusal → refusal.word ≡ at
    by true o is = absurd cc
    by false None is = let same : record { why = reason; word = at } ≡ refusal = cc in ap (λ (r : TextRefusal). r.word) (sym same)
    by false (Some x) is = absurd cc

leg_reader : IsReader leg_at
unfolding leg_at
leg_reader = one_word_reader leg_in (one_or_all-place (codes "all") leg_name why.UnknownWord) (codes "all") None (λ at. refl)

who_reader : IsReader who_at
unfolding who_at
who_reader = one_word_reader who_in (one_or_all-place (codes "*") acceptor_of why.BadNumber) (codes "*") None (λ at. refl)

verdict_reader : IsReader verdict_at
unfolding verdict_at
verdict_reader = said_reader verdict_name why.UnknownWord (codes "late") verdicts.Late refl

party_reader : IsReader party_at
unfolding party_at
party_reader = said_reader party_name why.UnknownWord (codes "acceptor") parties.Acceptor refl

halt_point_reader : IsReader halt_point_at
unfolding halt_point_at
halt_point_reader = said_reader halt_point_name why.UnknownWord (codes "after-prepare") points.Prepared refl

proposer_reader : (proposers : ℕ) → IsReader (proposer_at proposers)
unfolding proposer_at
proposer_reader proposers = said_reader (proposer_of proposers) why.BadNumber (codes "0") 0 (rw (le-leb 0 proposers (omega arith)) refl)

crash_whole : (proposers most : ℕ) (party : Party) → IsWhole (λ m. crash_of party proposers) most
unfolding crash_of
crash_whole proposers most parties.Acceptor = made_whole (to_end acceptor_at) most (λ id. CrashAcceptor id) (whole_to_end acceptor_at most acceptor_reader)
crash_whole proposers most parties.Proposer = made_whole (to_end (proposer_at proposers)) most (λ proposer. CrashProposer proposer) (whole_to_end (proposer_at proposers) most (proposer_reader proposers))

restart_whole : (proposers most : ℕ) (party : Party) → IsWhole (λ m. restart_of party proposers) most
unfolding restart_of
restart_whole proposers most parties.Acceptor = made_whole (to_end acceptor_at) most (λ id. RestartAcceptor id) (whole_to_end acceptor_at most acceptor_reader)
restart_whole proposers most parties.Proposer = made_whole (to_end (proposer_at proposers)) most (λ proposer. RestartProposer proposer) (whole_to_end (proposer_at proposers) most (proposer_reader proposers))

event_whole : (proposers most : ℕ) (name : EventName) → IsWhole (λ m. event_at name proposers) most
unfolding event_at net_at halt_at show_at
event_whole proposers most events.Net =
    whole_after leg_at (λ m leg. after who_at (λ who left. to_end verdict_at m left >>= λ verdict. Ok (Net leg who verdict))) most leg_reader
    (λ leg. whole_after who_at (λ m who left. to_end verdict_at m left >>= λ verdict. Ok (Net leg who verdict)) most who_reader
    (λ who. made_whole (to_end verdict_at) most (λ verdict. Net leg who verdict) (whole_to_end verdict_at most verdict_reader)))
event_whole proposers most events.Crash = whole_after party_at (λ m party. crash_of party proposers) most party_reader (crash_whole proposers most)
event_whole proposers most events.Restart = whole_after party_at (λ m party. restart_of party proposers) most party_reader (restart_whole proposers most)
event_whole proposers most events.Halt =
    whole_after (proposer_at proposers) (λ m proposer left. to_end halt_point_at m left >>= λ point. Ok (halt_of point proposer)) most (proposer_reader proposers)
    (λ proposer. made_whole (to_end halt_point_at) most (λ point. halt_of point proposer) (whole_to_end halt_point_at most halt_point_reader))
event_whole proposers most events.Stray = made_whole (to_end version_at) most (λ index. Stray index) (whole_to_end version_at most version_reader)
event_whole proposers most events.Show =
    whole_after acceptor_at (λ m id left. to_end key_at m left >>= λ key. Ok (Show id key)) most acceptor_reader
    (λ id. made_whole (to_end key_at) most (λ key. Show id key) (whole_to_end key_at most key_reader))

-- ---- commands

-- what follows a first word, where a program may have this many clauses
abbrev behind_up_to : ℕ → ℕ → LineHead → WordsLeft → Result Command TextRefusal
behind_up_to proposers most (heads.Caller caller) left = change_up_to most caller left
behind_up_to proposers most heads.Operator left = op_at left
behind_up_to proposers most (heads.Event name) left = event_at name proposers left

behind_up_to-whole : (proposers most : ℕ) (head : LineHead) → IsWhole (λ m. behind_up_to proposers m head) most
behind_up_to-whole proposers most (heads.Caller caller) = change_up_to-whole most caller
behind_up_to-whole proposers most heads.Operator = op_whole most
behind_up_to-whole proposers most (heads.Event name) = event_whole proposers most name

-- a whole command, where a program may have this many clauses
abbrev command_up_to : ℕ → ℕ → WordsLeft → Result Command TextRefusal
command_up_to proposers most left = line_at proposers (behind_up_to proposers most) left

command_up_to-whole : (proposers most : ℕ) → IsWhole (command_up_to proposers) most
command_up_to-whole proposers most =
    whole_after (head_at proposers) (behind_up_to proposers) most (head_reader proposers) (behind_up_to-whole proposers most)

-- where a program may have 8 clauses, it is the reader of commands
within_as : (name : ChangeName) (caller : ℕ) (key : List ℕ) (left : WordsLeft) → change_within MOST_CLAUSES name caller key left ≡ change_of_name name caller key left
unfolding change_of_name
within_as names.Get caller key left = refl
within_as names.Set caller key left = refl
within_as names.Num caller key left = refl
within_as names.Init caller key left = refl
within_as names.Add caller key left = refl
within_as names.Cas caller key left = refl
within_as names.CasNum caller key left = refl
within_as names.Del caller key left = refl
within_as names.DelVersion caller key left = refl
within_as names.Do caller key left = refl

behind_as : (proposers : ℕ) (head : LineHead) (left : WordsLeft) → behind_up_to proposers MOST_CLAUSES head left ≡ command_behind proposers head left
unfolding change_at
behind_as proposers (heads.Caller caller) left = λ i. name_at left >>= λ name. (key_at name.1 >>= λ key. within_as name.0 caller key.0 key.1 i)
behind_as proposers heads.Operator left = refl
behind_as proposers (heads.Event name) left = refl

command_as : (proposers : ℕ) (left : WordsLeft) → command_up_to proposers MOST_CLAUSES left ≡ command_at proposers left
unfolding command_at
command_as proposers left = λ i. head_at proposers left >>= λ head. behind_as proposers head.0 head.1 i

-- ---- what is read is of the grammar

unlimited_of : (proposers : ℕ) (words : List Word) (command : Command) → IsCommand proposers words command → IsUnlimited proposers words command
unlimited_of proposers words (Do caller key program) is = (is.0, is.1, is.2.0)
unlimited_of proposers words (Get caller key) is = is
unlimited_of proposers words (Set caller key text) is = is
unlimited_of proposers words (Num caller key number) is = is
unlimited_of proposers words (Init caller key number) is = is
unlimited_of proposers words (Add caller key number) is = is
unlimited_of proposers words (Cas caller key version text) is = is
unlimited_of proposers words (CasNum caller key version number) is = is
unlimited_of proposers words (Del caller key) is = is
unlimited_of proposers words (DelVersion caller key version) is = is
unlimited_of proposers words (Join id) is = is
unlimited_of proposers words (Leave id) is = is
unlimited_of proposers words (Resize need_prep need_acc) is = is
unlimited_of proposers words (Collect key) is = is
unlimited_of proposers words (Probe key) is = is
unlimited_of proposers words (Read key) is = is
unlimited_of proposers words (Net leg who verdict) is = is
unlimited_of proposers words (CrashAcceptor id) is = is
unlimited_of proposers words (RestartAcceptor id) is = is
unlimited_of proposers words (CrashProposer proposer) is = is
unlimited_of proposers words (RestartProposer proposer) is = is
unlimited_of proposers words (HaltPrepared proposer) is = is
unlimited_of proposers words (HaltProposed proposer) is = is
unlimited_of proposers words (Stray index) is = is
unlimited_of proposers words (Show id key) is = is

within_found : (most proposers caller : ℕ) (word : Word) (key : List ℕ) → NamesCaller proposers caller word → IsKey key → (name : ChangeName) (left : WordsLeft) (command : Command)
    → change_within most name caller key left ≡ Ok command → IsUnlimited proposers (word ∷ change_word name ∷ key ∷ left.words) command
within_found most proposers caller word key is names_key name left command e = by name e
  where
    by : (n : ChangeName) → change_within most n caller key left ≡ Ok command → IsUnlimited proposers (word ∷ change_word n ∷ key ∷ left.words) command
    by names.Do read =
        let p = bind_ok (clauses_at most left) (λ program. Ok (Do caller key program)) command read in
        let same : Do caller key p.0 ≡ command = cc (p.2) in
        subst (IsUnlimited proposers (word ∷ codes "do" ∷ key ∷ left.words)) same (left.words, form proposers caller word (codes "do") key left.words left.words is names_key refl, (clauses_found most left p.0 p.1).0)
    by names.Get read = unlimited_of proposers _ command (change_of_name-found proposers caller word key is names_key names.Get left command read)
    by names.Set read = unlimited_of proposers _ command (change_of_name-found proposers caller word key is names_key names.Set left command read)
    by names.Num read = unlimited_of proposers _ command (change_of_name-found proposers caller word key is names_key names.Num left command read)
    by names.Init read = unlimited_of proposers _ command (change_of_name-found proposers caller word key is names_key names.Init left command read)
    by names.Add read = unlimited_of proposers _ command (change_of_name-found proposers caller word key is names_key names.Add left command read)
    by names.Cas read = unlimited_of proposers _ command (change_of_name-found proposers caller word key is names_key names.Cas left command read)
    by names.CasNum read = unlimited_of proposers _ command (change_of_name-found proposers caller word key is names_key names.CasNum left command read)
    by names.Del read = unlimited_of proposers _ command (change_of_name-found proposers caller word key is names_key names.Del left command read)
    by names.DelVersion read = unlimited_of proposers _ command (change_of_name-found proposers caller word key is names_key names.DelVersion left command read)

behind_up_to-found : (proposers most : ℕ) (word : Word) (head : LineHead) → IsHead proposers word head → (left : WordsLeft) (command : Command) → behind_up_to proposers most head left ≡ Ok command
    → IsUnlimited proposers (word ∷ left.words) command
behind_up_to-found proposers most word (heads.Caller caller) is left command e =
    front_found caller word (change_within most) (IsUnlimited proposers) (λ key names_key. within_found most proposers caller word key is names_key) left command e
behind_up_to-found proposers most word heads.Operator is left command e =
    unlimited_of proposers (word ∷ left.words) command (behind_found proposers word heads.Operator is left command e)
behind_up_to-found proposers most word (heads.Event name) is left command e =
    unlimited_of proposers (word ∷ left.words) command (behind_found proposers word (heads.Event name) is left command e)

-- ---- lines

command_misfit : (proposers : ℕ) (words : List Word) (refusal : TextRefusal) → command_at proposers (all_of words) ≡ Err refusal
    → IsFirstMisfit (AreUnlimited proposers) (AreCommand proposers) words refusal.word
command_misfit proposers words refusal e =
    first_misfit (command_up_to proposers) MOST_CLAUSES (AreUnlimited proposers) (AreCommand proposers)
    (λ enough ws command read. (command, line_at-found proposers (behind_up_to proposers enough) (IsUnlimited proposers) (behind_up_to-found proposers enough) (all_of ws) command read))
    (λ ws is. (is.0, command_as proposers (all_of ws) ∙ command_again proposers ws is.0 is.1))
    (command_up_to-whole proposers MOST_CLAUSES) words refusal (command_as proposers (all_of words) ∙ e)

-- a line whose length fits is refused at its first misfit
pub line_misfit : (proposers : ℕ) (line : List ℕ) (refusal : TextRefusal) → length line ≤ LONGEST_LINE → line_in proposers line ≡ Err refusal
    → IsFirstMisfit (AreUnlimited proposers) (AreCommand proposers) (words_of line) refusal.word
unfolding line_in words_in
line_misfit proposers line refusal fits e = by_remark (is_remark (words_of line)) (sym long ∙ e)
  where
    long : line_in proposers line ≡ words_in proposers (words_of line)
    long = rw (le-ltb LONGEST_LINE (length line) fits) refl

    by_command : (r : Result Command TextRefusal) → command_at proposers (all_of (words_of line)) ≡ r → (r >>= λ command. Ok (Some command)) ≡ Err refusal
        → IsFirstMisfit (AreUnlimited proposers) (AreCommand proposers) (words_of line) refusal.word
    by_command (Ok command) is refused = absurd (let no : Ok (Some command) ≡ Err refusal = refused in cc)
    by_command (Err other) is refused = let same : other ≡ refusal = cc in command_misfit proposers (words_of line) refusal (is ∙ ap Err same)

    by_remark : (b : Bool) → (if b then Ok None else (command_at proposers (all_of (words_of line)) >>= λ command. Ok (Some command))) ≡ Err refusal
        → IsFirstMisfit (AreUnlimited proposers) (AreCommand proposers) (words_of line) refusal.word
    by_remark true refused = absurd cc
    by_remark false refused = by_command (command_at proposers (all_of (words_of line))) refl refused
