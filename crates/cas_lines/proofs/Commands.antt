-- What is read of a line is in the grammar of lines, and what is in the grammar is read.
use Rattle.std.proofs.Common.{◌≡◌, ℕ, ◌+◌, ◌^◌, true, false, List, [], ◌∷◌, length, Option, Some, None, Result, Ok, Err, refl, sym, ap, subst, ◌∙◌, arith, inl, inr}
use Rattle.std.specs.Prelude.{◌≢◌, ◌&&◌, codes, nat_le, nat_lt, if◌then◌else◌, IfSome}
use Rattle.std.specs.Char.{is_ascii_digit}
use Rattle.std.specs.List.{list_all}
use Rattle.std.specs.Option.{ok_or}
use Rattle.std.specs.Str.{bytes_eq}
use Rattle.std.proofs.lemmas.Bool.Decides.{nat_tests}
use Rattle.std.proofs.lemmas.Bool.{ltb-false, le-ltb, and_parts}
use Rattle.std.proofs.lemmas.Slice.Eq.{bytes_eq-Decides}
use Rattle.cas_change_text.specs.declared.refusal.Why.TheVariants as why
use Rattle.cas_change_text.specs.declared.refusal.TextRefusal.{TextRefusal}
use Rattle.cas_change_text.specs.Decimal.{u64_of, is_numeral, number_after}
use Rattle.cas_change_text.specs.Reading.{◌>>=◌}
use Rattle.cas_change_text.specs.Words.{Word, WordsLeft, words_of, all_of}
use Rattle.cas_change_text.proofs.BothWays.{bind_ok, ok_or_ok, from, version_again, number_again, text_again, clauses_again}
use Rattle.cas_change_text.proofs.EscapedTexts.{chosen}
use Rattle.cas_fate.specs.declared.fate.Verdict.{Verdict}
use Rattle.cas_fate.specs.declared.fate.Verdict.TheVariants as verdicts
use Rattle.cas_lines.specs.declared.reading.TheConstants.{LONGEST_LINE}
use Rattle.cas_lines.specs.declared.reading.LineHead.{LineHead}
use Rattle.cas_lines.specs.declared.reading.LineHead.TheVariants as heads
use Rattle.cas_lines.specs.declared.command.Command.{Command}
use Rattle.cas_lines.specs.declared.command.Command.TheVariants.{Get, Set, Num, Init, Add, Cas, CasNum, Del, DelVersion, Do, Join, Leave, Resize, Collect, Probe, Read, Net, CrashAcceptor, RestartAcceptor, CrashProposer, RestartProposer, HaltPrepared, HaltProposed, Stray, Show}
use Rattle.cas_lines.specs.declared.changes.ChangeName.{ChangeName}
use Rattle.cas_lines.specs.declared.changes.ChangeName.TheVariants as names
use Rattle.cas_lines.specs.declared.events.EventName.{EventName}
use Rattle.cas_lines.specs.declared.events.EventName.TheVariants as events
use Rattle.cas_lines.specs.declared.events.HaltPoint.TheVariants as points
use Rattle.cas_lines.specs.Command.{NamesCaller, IsForm, NamesVerdict, IsCommand, IsKnown, is_remark, IsLine}
use Rattle.cas_lines.specs.Reading.{begins_with_digit, within, change_name, change_of_name, event_name, crash_of, restart_of, party_at, op_at, event_at, head_in, head_at, command_behind, command_at, words_in, line_in}
use Rattle.cas_lines.proofs.ChangeLines.{change_word, change_found, form_again}
use Rattle.cas_lines.proofs.EventLines.{one_found, within_some, within_again, event_word, event_named, event_found, net_again, last_acceptor-again, last_proposer-again, halt_again, show_again}
use Rattle.cas_lines.proofs.OperatorLines.{op_found, join_again, leave_again, resize_again, collect_again, probe_again, read_again}

-- ---- first words

-- a word that says a number begins with a digit
pub number_begins : (word : Word) (number : ℕ) → u64_of word ≡ Some number → begins_with_digit word ≡ true
number_begins [] number e = absurd cc
number_begins (byte ∷ bytes) number e =
    elim (chosen (is_numeral (byte ∷ bytes) && nat_lt (number_after 0 (byte ∷ bytes)) (2 ^ 64)) (Some (number_after 0 (byte ∷ bytes))) None (Some number) e) [
      | inl p ↦
          let numeral = and_parts (is_numeral (byte ∷ bytes)) (nat_lt (number_after 0 (byte ∷ bytes)) (2 ^ 64)) p.0 in
          let digits = and_parts (nat_le 1 (length (byte ∷ bytes)) && nat_le (length (byte ∷ bytes)) 20) (list_all is_ascii_digit (byte ∷ bytes)) numeral.0 in
          (and_parts (is_ascii_digit byte) (list_all is_ascii_digit bytes) digits.1).0
      | inr p ↦ absurd (cc (p.1))
    ]

-- the word says this
abbrev pub IsHead : ℕ → Word → LineHead → Type 0
IsHead proposers word (heads.Caller caller) = NamesCaller proposers caller word
IsHead proposers word heads.Operator = word ≡ codes "op"
IsHead proposers word (heads.Event name) = word ≡ event_word name

head_in-found : (proposers at : ℕ) (word : Word) (head : LineHead) → head_in proposers at word ≡ Ok head → IsHead proposers word head
unfolding head_in
head_in-found proposers at word head e =
    elim (chosen (begins_with_digit word)
    (ok_or (within 1 proposers (u64_of word)) (record { why = why.BadNumber; word = at }) >>= λ caller. Ok (heads.Caller caller))
    (if bytes_eq word (codes "op") then Ok heads.Operator else (ok_or (event_name word) (record { why = why.UnknownWord; word = at }) >>= λ name. Ok (heads.Event name))) (Ok head) e) [
      | inl p ↦
          let c = bind_ok (ok_or (within 1 proposers (u64_of word)) (record { why = why.BadNumber; word = at })) _ head p.1 in
          let w = within_some 1 proposers (u64_of word) c.0 (ok_or_ok (within 1 proposers (u64_of word)) (record { why = why.BadNumber; word = at }) c.0 c.1) in
          let same : heads.Caller c.0 ≡ head = cc (c.2) in
          subst (IsHead proposers word) same w
      | inr p ↦ elim (chosen (bytes_eq word (codes "op")) (Ok heads.Operator) (ok_or (event_name word) (record { why = why.UnknownWord; word = at }) >>= λ name. Ok (heads.Event name)) (Ok head) p.1) [
        | inl q ↦
            let same : heads.Operator ≡ head = cc (q.1) in
            subst (IsHead proposers word) same ((bytes_eq-Decides word (codes "op")).0 q.0)
        | inr q ↦
            let n = bind_ok (ok_or (event_name word) (record { why = why.UnknownWord; word = at })) _ head q.1 in
            let same : heads.Event n.0 ≡ head = cc (n.2) in
            subst (IsHead proposers word) same (event_named word n.0 (ok_or_ok (event_name word) (record { why = why.UnknownWord; word = at }) n.0 n.1))
      ]
    ]

caller_in-again : (proposers at : ℕ) (word : Word) (caller : ℕ) → NamesCaller proposers caller word → head_in proposers at word ≡ Ok (heads.Caller caller)
unfolding head_in
caller_in-again proposers at word caller is = rw (number_begins word caller is.0, within_again 1 proposers (u64_of word) caller is.0 is.1 is.2) refl

-- ---- commands

-- a first word, and what its reader reads behind it
abbrev pub line_at : ℕ → (LineHead → WordsLeft → Result Command TextRefusal) → WordsLeft → Result Command TextRefusal
line_at proposers rest left = head_at proposers left >>= λ head. rest head.0 head.1

pub line_at-found : (proposers : ℕ) (rest : LineHead → WordsLeft → Result Command TextRefusal) (Says : List Word → Command → Type 0)
    → ((word : Word) (head : LineHead) → IsHead proposers word head → (left : WordsLeft) (command : Command) → rest head left ≡ Ok command → Says (word ∷ left.words) command)
    → (left : WordsLeft) (command : Command) → line_at proposers rest left ≡ Ok command → Says left.words command
unfolding head_at
line_at-found proposers rest Says found left command e =
    let h = bind_ok (head_at proposers left) _ command e in
    let w = one_found (head_in proposers) left h.0.0 h.0.1 h.1 in
    subst (λ (ws : List Word). Says ws command) (sym w.1) (found w.0 h.0.0 (head_in-found proposers left.at w.0 h.0.0 w.2) h.0.1 command h.2)

pub behind_found : (proposers : ℕ) (word : Word) (head : LineHead) → IsHead proposers word head → (left : WordsLeft) (command : Command) → command_behind proposers head left ≡ Ok command
    → IsCommand proposers (word ∷ left.words) command
behind_found proposers word (heads.Caller caller) is left command e = change_found proposers caller word is left command e
behind_found proposers word heads.Operator is left command e =
    subst (λ (w : Word). IsCommand proposers (w ∷ left.words) command) (sym is) (op_found proposers left command e)
behind_found proposers word (heads.Event name) is left command e =
    subst (λ (w : Word). IsCommand proposers (w ∷ left.words) command) (sym is) (event_found proposers name left command e)

command_found : (proposers : ℕ) (left : WordsLeft) (command : Command) → command_at proposers left ≡ Ok command → IsCommand proposers left.words command
unfolding command_at
command_found proposers left command e = line_at-found proposers (command_behind proposers) (IsCommand proposers) (behind_found proposers) left command e

-- a change is read up to its key
change_again : (proposers caller : ℕ) (key : List ℕ) (name : ChangeName) (words rest : List Word) → IsForm proposers words caller (change_word name) key rest → change_name (change_word name) ≡ Some name
    → command_at proposers (all_of words) ≡ change_of_name name caller key (from (0 + 1 + 1 + 1) rest)
unfolding command_at head_at
change_again proposers caller key name words rest is named =
    ap (λ (ws : List Word). command_at proposers (all_of ws)) is.3
    ∙ rw (caller_in-again proposers 0 is.0 caller is.1) (form_again (0 + 1) caller key name rest is.2 named)

-- an operator's line is read up to its first word
op_again : (proposers : ℕ) (words rest : List Word) → words ≡ codes "op" ∷ rest → command_at proposers (all_of words) ≡ op_at (from (0 + 1) rest)
unfolding command_at head_at head_in
op_again proposers words rest is = ap (λ (ws : List Word). command_at proposers (all_of ws)) is

-- an event is read up to its first word
event_again : (proposers : ℕ) (words rest : List Word) (name : EventName) → words ≡ event_word name ∷ rest → command_at proposers (all_of words) ≡ event_at name proposers (from (0 + 1) rest)
unfolding command_at head_at head_in
event_again proposers words rest name is = ap (λ (ws : List Word). command_at proposers (all_of ws)) is ∙ by name
  where
    by : (n : EventName) → command_at proposers (all_of (event_word n ∷ rest)) ≡ event_at n proposers (from (0 + 1) rest)
    by events.Net = refl
    by events.Crash = refl
    by events.Restart = refl
    by events.Halt = refl
    by events.Stray = refl
    by events.Show = refl

pub command_again : (proposers : ℕ) (words : List Word) (command : Command) → IsCommand proposers words command → command_at proposers (all_of words) ≡ Ok command
unfolding change_of_name event_at crash_of restart_of party_at
command_again proposers words (Get caller key) is = change_again proposers caller key names.Get words [] is refl
command_again proposers words (Del caller key) is = change_again proposers caller key names.Del words [] is refl
command_again proposers words (Set caller key text) is =
    change_again proposers caller key names.Set words (is.0 ∷ []) is.1 refl ∙ rw (text_again is.0 text is.2 (0 + 1 + 1 + 1) []).1 refl
command_again proposers words (Num caller key number) is =
    change_again proposers caller key names.Num words (is.0 ∷ []) is.1 refl ∙ rw (number_again is.0 number is.2 (0 + 1 + 1 + 1) []).1 refl
command_again proposers words (Init caller key number) is =
    change_again proposers caller key names.Init words (is.0 ∷ []) is.1 refl ∙ rw (number_again is.0 number is.2 (0 + 1 + 1 + 1) []).1 refl
command_again proposers words (Add caller key number) is =
    change_again proposers caller key names.Add words (is.0 ∷ []) is.1 refl ∙ rw (number_again is.0 number is.2 (0 + 1 + 1 + 1) []).1 refl
command_again proposers words (DelVersion caller key version) is =
    change_again proposers caller key names.DelVersion words (is.0 ∷ []) is.1 refl ∙ rw (version_again is.0 version is.2 (0 + 1 + 1 + 1) []).1 refl
command_again proposers words (Cas caller key version text) is =
    let v = version_again is.0 version is.3 (0 + 1 + 1 + 1) (is.1 ∷ []) in
    change_again proposers caller key names.Cas words (is.0 ∷ is.1 ∷ []) is.2 refl ∙ rw (v.1, (text_again is.1 text is.4 v.0 []).1) refl
command_again proposers words (CasNum caller key version number) is =
    let v = version_again is.0 version is.3 (0 + 1 + 1 + 1) (is.1 ∷ []) in
    change_again proposers caller key names.CasNum words (is.0 ∷ is.1 ∷ []) is.2 refl ∙ rw (v.1, (number_again is.1 number is.4 v.0 []).1) refl
command_again proposers words (Do caller key program) is =
    change_again proposers caller key names.Do words is.0 is.1 refl ∙ rw (clauses_again 8 (0 + 1 + 1 + 1) is.0 program is.2.0 is.2.1) refl
command_again proposers words (Join id) is = op_again proposers words (codes "join" ∷ is.0 ∷ []) is.1 ∙ join_again (0 + 1) id is.0 is.2
command_again proposers words (Leave id) is = op_again proposers words (codes "leave" ∷ is.0 ∷ []) is.1 ∙ leave_again (0 + 1) id is.0 is.2
command_again proposers words (Resize need_prep need_acc) is =
    op_again proposers words (codes "resize" ∷ is.0 ∷ is.1 ∷ []) is.2 ∙ resize_again (0 + 1) need_prep need_acc is.0 is.1 is.3 is.4
command_again proposers words (Collect key) is = op_again proposers words (codes "collect" ∷ key ∷ []) is.0 ∙ collect_again (0 + 1) key is.1
command_again proposers words (Probe key) is = op_again proposers words (codes "probe" ∷ key ∷ []) is.0 ∙ probe_again (0 + 1) key is.1
command_again proposers words (Read key) is = op_again proposers words (codes "read" ∷ key ∷ []) is.0 ∙ read_again (0 + 1) key is.1
command_again proposers words (Net leg who verdict) is =
    event_again proposers words (is.0 ∷ is.1 ∷ is.2 ∷ []) events.Net is.3 ∙ net_again (0 + 1) leg who verdict is.0 is.1 is.2 is.4 is.5 is.6
command_again proposers words (CrashAcceptor id) is =
    event_again proposers words (codes "acceptor" ∷ is.0 ∷ []) events.Crash is.1 ∙ rw (last_acceptor-again (0 + 1 + 1) is.0 id is.2) refl
command_again proposers words (RestartAcceptor id) is =
    event_again proposers words (codes "acceptor" ∷ is.0 ∷ []) events.Restart is.1 ∙ rw (last_acceptor-again (0 + 1 + 1) is.0 id is.2) refl
command_again proposers words (CrashProposer proposer) is =
    event_again proposers words (codes "proposer" ∷ is.0 ∷ []) events.Crash is.1 ∙ rw (last_proposer-again proposers (0 + 1 + 1) is.0 proposer is.2) refl
command_again proposers words (RestartProposer proposer) is =
    event_again proposers words (codes "proposer" ∷ is.0 ∷ []) events.Restart is.1 ∙ rw (last_proposer-again proposers (0 + 1 + 1) is.0 proposer is.2) refl
command_again proposers words (HaltPrepared proposer) is =
    event_again proposers words (is.0 ∷ codes "after-prepare" ∷ []) events.Halt is.1 ∙ halt_again proposers (0 + 1) points.Prepared proposer is.0 is.2
command_again proposers words (HaltProposed proposer) is =
    event_again proposers words (is.0 ∷ codes "after-propose" ∷ []) events.Halt is.1 ∙ halt_again proposers (0 + 1) points.Proposed proposer is.0 is.2
command_again proposers words (Stray index) is =
    event_again proposers words (is.0 ∷ []) events.Stray is.1 ∙ rw (version_again is.0 index is.2 (0 + 1) []).1 refl
command_again proposers words (Show id key) is =
    event_again proposers words (is.0 ∷ key ∷ []) events.Show is.1 ∙ show_again (0 + 1) id key is.0 is.2 is.3

-- ---- lines

-- a command's words are no remark
no_remark : (proposers : ℕ) (words : List Word) (caller : ℕ) (name : Word) (key : List ℕ) (rest : List Word) → IsForm proposers words caller name key rest → is_remark words ≡ false
no_remark proposers words caller name key rest is = ap is_remark is.3 ∙ begins is.0 (number_begins is.0 caller is.1.0)
  where
    begins : (word : Word) → begins_with_digit word ≡ true → is_remark (word ∷ name ∷ key ∷ rest) ≡ false
    begins [] digit = absurd cc
    begins (byte ∷ bytes) digit = grind (arith, nat_tests)

no_remark_of : (proposers : ℕ) (words : List Word) (command : Command) → IsCommand proposers words command → is_remark words ≡ false
no_remark_of proposers words (Get caller key) is = no_remark proposers words caller (codes "get") key [] is
no_remark_of proposers words (Del caller key) is = no_remark proposers words caller (codes "del") key [] is
no_remark_of proposers words (Set caller key text) is = no_remark proposers words caller (codes "set") key (is.0 ∷ []) is.1
no_remark_of proposers words (Num caller key number) is = no_remark proposers words caller (codes "num") key (is.0 ∷ []) is.1
no_remark_of proposers words (Init caller key number) is = no_remark proposers words caller (codes "init") key (is.0 ∷ []) is.1
no_remark_of proposers words (Add caller key number) is = no_remark proposers words caller (codes "add") key (is.0 ∷ []) is.1
no_remark_of proposers words (DelVersion caller key version) is = no_remark proposers words caller (codes "delv") key (is.0 ∷ []) is.1
no_remark_of proposers words (Cas caller key version text) is = no_remark proposers words caller (codes "cas") key (is.0 ∷ is.1 ∷ []) is.2
no_remark_of proposers words (CasNum caller key version number) is = no_remark proposers words caller (codes "casnum") key (is.0 ∷ is.1 ∷ []) is.2
no_remark_of proposers words (Do caller key program) is = no_remark proposers words caller (codes "do") key is.0 is.1
no_remark_of proposers words (Join id) is = ap is_remark is.1
no_remark_of proposers words (Leave id) is = ap is_remark is.1
no_remark_of proposers words (Resize need_prep need_acc) is = ap is_remark is.2
no_remark_of proposers words (Collect key) is = ap is_remark is.0
no_remark_of proposers words (Probe key) is = ap is_remark is.0
no_remark_of proposers words (Read key) is = ap is_remark is.0
no_remark_of proposers words (Net leg who verdict) is = ap is_remark is.3
no_remark_of proposers words (CrashAcceptor id) is = ap is_remark is.1
no_remark_of proposers words (RestartAcceptor id) is = ap is_remark is.1
no_remark_of proposers words (CrashProposer proposer) is = ap is_remark is.1
no_remark_of proposers words (RestartProposer proposer) is = ap is_remark is.1
no_remark_of proposers words (HaltPrepared proposer) is = ap is_remark is.1
no_remark_of proposers words (HaltProposed proposer) is = ap is_remark is.1
no_remark_of proposers words (Stray index) is = ap is_remark is.1
no_remark_of proposers words (Show id key) is = ap is_remark is.1

pub line_found : (proposers : ℕ) (line : List ℕ) (said : Option Command) → line_in proposers line ≡ Ok said → IsLine proposers line said
unfolding line_in words_in
line_found proposers line said e =
    elim (chosen (nat_lt LONGEST_LINE (length line)) (Err (record { why = why.TooLong; word = 0 })) (words_in proposers (words_of line)) (Ok said) e) [
      | inl p ↦ absurd (cc (p.1))
      | inr p ↦ elim (chosen (is_remark (words_of line)) (Ok None) (command_at proposers (all_of (words_of line)) >>= λ command. Ok (Some command)) (Ok said) p.1) [
        | inl q ↦
            let same : None ≡ said = cc (q.1) in
            subst (IsLine proposers line) same (ltb-false LONGEST_LINE (length line) p.0, q.0)
        | inr q ↦
            let c = bind_ok (command_at proposers (all_of (words_of line))) _ said q.1 in
            let same : Some c.0 ≡ said = cc (c.2) in
            subst (IsLine proposers line) same (ltb-false LONGEST_LINE (length line) p.0, command_found proposers (all_of (words_of line)) c.0 c.1)
      ]
    ]

pub line_again : (proposers : ℕ) (line : List ℕ) (said : Option Command) → IsLine proposers line said → line_in proposers line ≡ Ok said
unfolding line_in words_in
line_again proposers line None is = rw (le-ltb LONGEST_LINE (length line) is.0, is.1) refl
line_again proposers line (Some command) is =
    rw (le-ltb LONGEST_LINE (length line) is.0, no_remark_of proposers (words_of line) command is.1, command_again proposers (words_of line) command is.1) refl

-- ---- limits

no_hold : (verdict : Verdict) (word : Word) → NamesVerdict verdict word → verdict ≢ verdicts.Hold
no_hold verdicts.Deliver word is = λ e. cc
no_hold verdicts.Lose word is = λ e. cc
no_hold verdicts.Twice word is = λ e. cc
no_hold verdicts.Late word is = λ e. cc
no_hold verdicts.Hold word is = absurd is

-- what a line of the grammar asks for is within its limits
pub command_known : (proposers : ℕ) (words : List Word) (command : Command) → IsCommand proposers words command → IsKnown proposers command
command_known proposers words (Get caller key) is = (is.1.1, is.1.2)
command_known proposers words (Set caller key text) is = (is.1.1.1, is.1.1.2)
command_known proposers words (Num caller key number) is = (is.1.1.1, is.1.1.2)
command_known proposers words (Init caller key number) is = (is.1.1.1, is.1.1.2)
command_known proposers words (Add caller key number) is = (is.1.1.1, is.1.1.2)
command_known proposers words (Cas caller key version text) is = (is.2.1.1, is.2.1.2)
command_known proposers words (CasNum caller key version number) is = (is.2.1.1, is.2.1.2)
command_known proposers words (Del caller key) is = (is.1.1, is.1.2)
command_known proposers words (DelVersion caller key version) is = (is.1.1.1, is.1.1.2)
command_known proposers words (Do caller key program) is = (is.1.1.1, is.1.1.2)
command_known proposers words (Join id) is = tt
command_known proposers words (Leave id) is = tt
command_known proposers words (Resize need_prep need_acc) is = tt
command_known proposers words (Collect key) is = tt
command_known proposers words (Probe key) is = tt
command_known proposers words (Read key) is = tt
command_known proposers words (Net leg who verdict) is = no_hold verdict is.2 is.6
command_known proposers words (CrashAcceptor id) is = tt
command_known proposers words (RestartAcceptor id) is = tt
command_known proposers words (CrashProposer proposer) is = is.2.1
command_known proposers words (RestartProposer proposer) is = is.2.1
command_known proposers words (HaltPrepared proposer) is = is.2.1
command_known proposers words (HaltProposed proposer) is = is.2.1
command_known proposers words (Stray index) is = tt
command_known proposers words (Show id key) is = tt

pub line_known : (proposers : ℕ) (line : List ℕ) (said : Option Command) → IsLine proposers line said → IfSome said (IsKnown proposers)
line_known proposers line None is = tt
line_known proposers line (Some command) is = command_known proposers (words_of line) command is.1
