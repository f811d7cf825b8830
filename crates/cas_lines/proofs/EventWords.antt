-- A command is an event where its first word is an event's, and nowhere else.
use Rattle.std.proofs.Common.{◌≡◌, ℕ, true, false, List, [], ◌∷◌, Option, Some, None, refl, sym, ap, ◌∙◌}
use Rattle.std.specs.Prelude.{codes, IfSome}
use Rattle.std.specs.List.{list_any}
use Rattle.std.specs.Str.{bytes_eq}
use Rattle.std.proofs.lemmas.Slice.Eq.{bytes_eq-Decides}
use Rattle.cas_change_text.specs.Decimal.{u64_of}
use Rattle.cas_change_text.specs.Words.{Word, words_of}
use Rattle.cas_lines.specs.declared.command.Command.{Command}
use Rattle.cas_lines.specs.declared.command.Command.TheVariants.{Get, Set, Num, Init, Add, Cas, CasNum, Del, DelVersion, Do, Join, Leave, Resize, Collect, Probe, Read, Net, CrashAcceptor, RestartAcceptor, CrashProposer, RestartProposer, HaltPrepared, HaltProposed, Stray, Show}
use Rattle.cas_lines.specs.Command.{IsForm, IsCommand, IsLine, event_words, is_event, asks_nobody}

-- a number is no other word
other_word : (word other : Word) (number : ℕ) → u64_of word ≡ Some number → u64_of other ≡ None → bytes_eq word other ≡ false
other_word word other number is none = elim (bytes_eq word other) as (λ b. (b ≡ true → word ≡ other) → b ≡ false) [
  | true ↦ λ same. let e = ap u64_of (same refl) in absurd cc
  | false ↦ λ same. refl
]
    (bytes_eq-Decides word other).0

number_no_event : (word : Word) (number : ℕ) → u64_of word ≡ Some number → list_any (bytes_eq word) event_words ≡ false
number_no_event word number is =
    let other = λ (w : Word) (none : u64_of w ≡ None). other_word word w number is none in
    rw (other (codes "net") refl, other (codes "crash") refl, other (codes "restart") refl, other (codes "halt") refl, other (codes "stray") refl, other (codes "show") refl) refl

-- the first word of a change is its caller's number
form_no_event : (proposers : ℕ) (words : List Word) (caller : ℕ) (name : Word) (key : List ℕ) (rest : List Word) → IsForm proposers words caller name key rest → is_event words ≡ false
form_no_event proposers words caller name key rest is = ap is_event is.3 ∙ number_no_event is.0 caller is.1.0

command_event : (proposers : ℕ) (words : List Word) (command : Command) → IsCommand proposers words command → asks_nobody command ≡ is_event words
command_event proposers words (Get caller key) is = sym (form_no_event proposers words caller (codes "get") key [] is)
command_event proposers words (Set caller key text) is = sym (form_no_event proposers words caller (codes "set") key (is.0 ∷ []) is.1)
command_event proposers words (Num caller key number) is = sym (form_no_event proposers words caller (codes "num") key (is.0 ∷ []) is.1)
command_event proposers words (Init caller key number) is = sym (form_no_event proposers words caller (codes "init") key (is.0 ∷ []) is.1)
command_event proposers words (Add caller key number) is = sym (form_no_event proposers words caller (codes "add") key (is.0 ∷ []) is.1)
command_event proposers words (Cas caller key version text) is = sym (form_no_event proposers words caller (codes "cas") key (is.0 ∷ is.1 ∷ []) is.2)
command_event proposers words (CasNum caller key version number) is = sym (form_no_event proposers words caller (codes "casnum") key (is.0 ∷ is.1 ∷ []) is.2)
command_event proposers words (Del caller key) is = sym (form_no_event proposers words caller (codes "del") key [] is)
command_event proposers words (DelVersion caller key version) is = sym (form_no_event proposers words caller (codes "delv") key (is.0 ∷ []) is.1)
command_event proposers words (Do caller key program) is = sym (form_no_event proposers words caller (codes "do") key is.0 is.1)
command_event proposers words (Join id) is = sym (ap is_event is.1)
command_event proposers words (Leave id) is = sym (ap is_event is.1)
command_event proposers words (Resize need_prep need_acc) is = sym (ap is_event is.2)
command_event proposers words (Collect key) is = sym (ap is_event is.0)
command_event proposers words (Probe key) is = sym (ap is_event is.0)
command_event proposers words (Read key) is = sym (ap is_event is.0)
command_event proposers words (Net leg who verdict) is = sym (ap is_event is.3)
command_event proposers words (CrashAcceptor id) is = sym (ap is_event is.1)
command_event proposers words (RestartAcceptor id) is = sym (ap is_event is.1)
command_event proposers words (CrashProposer proposer) is = sym (ap is_event is.1)
command_event proposers words (RestartProposer proposer) is = sym (ap is_event is.1)
command_event proposers words (HaltPrepared proposer) is = sym (ap is_event is.1)
command_event proposers words (HaltProposed proposer) is = sym (ap is_event is.1)
command_event proposers words (Stray index) is = sym (ap is_event is.1)
command_event proposers words (Show id key) is = sym (ap is_event is.1)

pub line_event : (proposers : ℕ) (line : List ℕ) (said : Option Command) → IsLine proposers line said → IfSome said (λ command. asks_nobody command ≡ is_event (words_of line))
line_event proposers line None is = tt
line_event proposers line (Some command) is = command_event proposers (words_of line) command is.1
