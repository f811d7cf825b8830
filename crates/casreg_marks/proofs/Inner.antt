-- The words of a mark's line have no byte that ends a line.
use Rattle.std.proofs.Common.{◌≡◌, ℕ, ◌^◌, ◌≤◌, Bool, true, false, cond, not, List, [], ◌∷◌, ◌++◌, length, Option, Some, None, refl, sym, ap, subst, ◌∙◌, arith, inl, inr}
use Rattle.std.specs.Prelude.{◌==◌, ◌&&◌, codes, ℤ, nat_lt, nat_le}
use Rattle.cas_ballot.specs.declared.ballot.Ballot.{Ballot}
use Rattle.std.specs.Char.{is_ascii_digit}
use Rattle.std.specs.List.{list_all, AllByRecursion}
use Rattle.std.proofs.lemmas.Bool.{and_parts, and_from}
use Rattle.std.proofs.lemmas.Bool.Decides.{nat_tests}
use Rattle.std.proofs.lemmas.List.Elements.{recursion_from_All}
use Rattle.std.proofs.lemmas.List.Folds.{list_all-append}
use Rattle.cas_change.specs.Key.{IsKey, IsKeyByte}
use Rattle.cas_change.specs.declared.outcome.Took.{Took}
use Rattle.cas_change.specs.declared.outcome.Took.TheVariants as took
use Rattle.cas_change.specs.declared.program.Guard.{Guard}
use Rattle.cas_change.specs.declared.program.Guard.TheVariants.{Always, IsEmpty, VersionIs, NumberBelow, TextIs}
use Rattle.cas_change.specs.declared.program.Act.{Act}
use Rattle.cas_change.specs.declared.program.Act.TheVariants.{Keep, PutText, PutNumber, Add, Clear}
use Rattle.cas_change.specs.declared.program.Clause.{Clause}
use Rattle.cas_change.specs.declared.state.Body.{Body}
use Rattle.cas_change.specs.declared.state.Body.TheVariants.{Number, Text}
use Rattle.cas_change.specs.declared.state.State.{State}
use Rattle.cas_change.specs.declared.state.State.TheVariants.{Empty, Held}
use Rattle.cas_change_text.specs.Decimal.{is_numeral, number_after, u64_of, i64_of, is_negative, digits_of, signed_of}
use Rattle.cas_change_text.specs.Escapes.{is_plain, hex_value, byte_from, StandsForByte, SpellsEach}
use Rattle.cas_change_text.specs.Grammar.{IsPair, IsTextWord, IsGuard, IsAct, IsClause, IsClauses, IsBody, IsState}
use Rattle.cas_change_text.specs.Words.{Word}
use Rattle.cas_change_text.proofs.EscapedTexts.{chosen}
use Rattle.cas_lines.specs.Command.{IsAcceptor}
use Rattle.cas_quorum.specs.declared.fault.PlanFault.{PlanFault}
use Rattle.cas_quorum.specs.declared.fault.PlanFault.TheVariants as fault
use Rattle.cas_record.specs.declared.answer.Answer.{Answer}
use Rattle.cas_record.specs.declared.answer.Answer.TheVariants as answer
use Rattle.cas_record.specs.declared.answer.Cause.{Cause}
use Rattle.cas_record.specs.declared.answer.Cause.TheVariants as cause
use Rattle.cas_record.specs.declared.mark.Mark.{Mark}
use Rattle.cas_record.specs.declared.mark.Mark.TheVariants.{Begun, Proposed, Voted, Acked, Floor, EraEntered, Ended, Harmed, Told}
use Rattle.cas_record.specs.declared.operator.Asked.{Asked}
use Rattle.cas_record.specs.declared.operator.Asked.TheVariants as asked
use Rattle.cas_record.specs.declared.operator.OpAnswer.{OpAnswer}
use Rattle.cas_record.specs.declared.operator.OpAnswer.TheVariants as told
use Rattle.cas_audit.specs.Spelling.Lines.{IsNumber, IsPoint, SpellsCall, IsBallot, AreRising, IsSet, IsQuorum, harm_word, IsMarkLine}
use Rattle.cas_audit.specs.Spelling.Lines.{SpellsShort, IsCause, IsStop, IsTook, IsAnswer, SpellsAsked, IsFinished, refusal_words, SpellsTold}

-- a byte within a line: neither a newline nor a carriage return
abbrev pub is_inner : ℕ → Bool
is_inner byte = not (byte == 10) && not (byte == 13)

abbrev pub has_inner : List ℕ → Bool
has_inner word = list_all is_inner word

abbrev pub have_inner : List Word → Bool
have_inner words = list_all has_inner words

-- such a word, and such words
pub record IsInner (word : List ℕ) : Type 0 where
  pub has : has_inner word ≡ true

pub record AreInner (words : List Word) : Type 0 where
  pub have : have_inner words ≡ true

-- ---- words in a row
pub none : AreInner []
none = record { have = refl }

pub word : {one : Word} → has_inner one ≡ true → IsInner one
word is = record { has = is }

pub first : {one : Word} {words : List Word} → IsInner one → AreInner words → AreInner (one ∷ words)
first {one} {words} inner more = record { have = and_from (has_inner one) (have_inner words) inner.has more.have }

both : {front back : List Word} → AreInner front → AreInner back → AreInner (front ++ back)
both {front} {back} inner more = record { have = list_all-append has_inner front back ∙ and_from (have_inner front) (have_inner back) inner.have more.have }

joined : {front back : List ℕ} → IsInner front → IsInner back → IsInner (front ++ back)
joined {front} {back} inner more = record { has = list_all-append is_inner front back ∙ and_from (has_inner front) (has_inner back) inner.has more.has }

word_is : {one other : Word} → one ≡ other → IsInner other → IsInner one
word_is same inner = subst IsInner (sym same) inner

words_are : {words others : List Word} → words ≡ others → AreInner others → AreInner words
words_are same inner = subst AreInner (sym same) inner

-- one word that is named
alone : (name : Word) {words : List Word} → has_inner name ≡ true → words ≡ name ∷ [] → AreInner words
alone name is same = words_are same (first (word is) none)

-- two
alone_two : (name next : Word) {words : List Word} → has_inner name ≡ true → has_inner next ≡ true → words ≡ name ∷ next ∷ [] → AreInner words
alone_two name next is also same = words_are same (first (word is) (first (word also) none))

-- ---- numbers
digit : (byte : ℕ) → is_ascii_digit byte ≡ true → is_inner byte ≡ true
digit byte is = grind (arith, nat_tests)

digits : (text : Word) → list_all is_ascii_digit text ≡ true → has_inner text ≡ true
digits [] are = refl
digits (byte ∷ text) are =
    let parts = and_parts (is_ascii_digit byte) (list_all is_ascii_digit text) are in
    and_from (is_inner byte) (has_inner text) (digit byte parts.0) (digits text parts.1)

numeral : (text : Word) → is_numeral text ≡ true → has_inner text ≡ true
numeral text is =
    let sizes = and_parts (nat_le 1 (length text) && nat_le (length text) 20) (list_all is_ascii_digit text) is in
    digits text sizes.1

pub number : {text : Word} {n : ℕ} → u64_of text ≡ Some n → IsInner text
number {text} {n} is = elim (chosen (is_numeral text && nat_lt (number_after 0 text) (2 ^ 64)) (Some (number_after 0 text)) None (Some n) is) [
  | inl p ↦ word (numeral text (and_parts (is_numeral text) (nat_lt (number_after 0 text) (2 ^ 64)) (p.0)).0)
  | inr p ↦ absurd (cc (p.1))
]

signed : (text : Word) → has_inner (digits_of text) ≡ true → has_inner text ≡ true
signed [] are = refl
signed (byte ∷ text) are = by (byte == 45) refl are
  where
    minus : (b : ℕ) → (b == 45) ≡ true → is_inner b ≡ true
    minus b is = grind (arith, nat_tests)

    by : (b : Bool) → (byte == 45) ≡ b → has_inner (cond b text (byte ∷ text)) ≡ true → has_inner (byte ∷ text) ≡ true
    by true is rest = and_from (is_inner byte) (has_inner text) (minus byte is) rest
    by false is rest = rest

integer : {text : Word} {n : ℤ} → i64_of text ≡ Some n → IsInner text
integer {text} {n} is = elim (chosen (is_numeral (digits_of text)) (signed_of (is_negative text) (number_after 0 (digits_of text))) None (Some n) is) [
  | inl p ↦ word (signed text (numeral (digits_of text) (p.0)))
  | inr p ↦ absurd (cc (p.1))
]

point : (bits one also two : ℕ) (text : Word) → IsPoint bits one also two text → IsInner text
point bits one also two text is = word_is is.2 (joined (joined (number is.3.0) (word {one = codes "."} refl)) (number is.4.0))

-- ---- keys and texts
key_bytes : (bytes : List ℕ) → AllByRecursion IsKeyByte bytes → has_inner bytes ≡ true
key_bytes [] each = refl
key_bytes (byte ∷ bytes) each = and_from (is_inner byte) (has_inner bytes) (high byte each.0.0) (key_bytes bytes each.1)
  where
    high : (b : ℕ) → 0x21 ≤ b → is_inner b ≡ true
    high b is = grind (arith, nat_tests)

key : {bytes : List ℕ} → IsKey bytes → IsInner bytes
key {bytes} is = word (key_bytes bytes (recursion_from_All IsKeyByte bytes is.each))

hex : (byte value : ℕ) → hex_value byte ≡ Some value → is_inner byte ≡ true
hex byte value is = grind (arith, nat_tests)

hexes : (high low : Option ℕ) (byte : ℕ) → byte_from high low ≡ Some byte → (one : ℕ) × (two : ℕ) × (high ≡ Some one) × (low ≡ Some two)
hexes (Some one) (Some two) byte is = (one, two, refl, refl)
hexes (Some one) None byte is = absurd (cc is)
hexes None low byte is = absurd (cc is)

stands : (text : Word) (byte : ℕ) → StandsForByte text byte → has_inner text ≡ true
stands [] byte is = absurd is
stands (sign ∷ []) byte is = and_from (is_inner sign) true (plain sign is.0) refl
  where
    plain : (b : ℕ) → is_plain b ≡ true → is_inner b ≡ true
    plain b e = grind (arith, nat_tests)
stands (sign ∷ one ∷ []) byte is = absurd is
stands (sign ∷ high ∷ low ∷ []) byte is =
    let two = hexes (hex_value high) (hex_value low) byte is.1 in
    and_from (is_inner sign) (has_inner (high ∷ low ∷ [])) (ap is_inner is.0)
    (and_from (is_inner high) (has_inner (low ∷ [])) (hex high two.0 two.2) (and_from (is_inner low) true (hex low two.1 two.3) refl))
stands (sign ∷ high ∷ low ∷ more ∷ rest) byte is = absurd is

spelled_each : (bytes : List ℕ) (text : Word) → SpellsEach text bytes → IsInner text
spelled_each [] text is = word_is is (word {one = []} refl)
spelled_each (byte ∷ bytes) text is = word_is is.4 (joined (word (stands is.0 byte is.2)) (spelled_each bytes is.1 is.3))

text_word : (bytes : List ℕ) (text : Word) → IsTextWord bytes text → IsInner text
text_word [] text is = word_is is.0 (word {one = codes "%-"} refl)
text_word (byte ∷ bytes) text is = spelled_each (byte ∷ bytes) text is.0

-- ---- programs and states
pair : (name : Word) (P : Word → Type 0) {words : List Word} → has_inner name ≡ true → ((text : Word) → P text → IsInner text) → IsPair words name P → AreInner words
pair name P named each is = words_are is.1 (first (word named) (first (each is.0 is.2) none))

guards : (words : List Word) (guard : Guard) → IsGuard words guard → AreInner words
guards words Always is = alone (codes "always") refl is
guards words IsEmpty is = alone (codes "empty") refl is
guards words (VersionIs version) is = pair (codes "version") (λ text. u64_of text ≡ Some version) refl (λ text says. number says) is
guards words (NumberBelow n) is = pair (codes "below") (λ text. i64_of text ≡ Some n) refl (λ text says. integer says) is
guards words (TextIs bytes) is = pair (codes "is") (IsTextWord bytes) refl (text_word bytes) is

acts : (words : List Word) (act : Act) → IsAct words act → AreInner words
acts words Keep is = alone (codes "keep") refl is
acts words (PutText bytes) is = pair (codes "text") (IsTextWord bytes) refl (text_word bytes) is
acts words (PutNumber n) is = pair (codes "num") (λ text. i64_of text ≡ Some n) refl (λ text says. integer says) is
acts words (Add n) is = pair (codes "add") (λ text. i64_of text ≡ Some n) refl (λ text says. integer says) is
acts words Clear is = alone (codes "clear") refl is

clause : (words : List Word) (one : Clause) → IsClause words one → AreInner words
clause words one is = words_are is.4 (both (guards is.0 one.guard is.2) (acts is.1 one.act is.3))

program : (words : List Word) (clauses : List Clause) → IsClauses words clauses → AreInner words
program words [] is = absurd is
program words (one ∷ []) is = clause words one is
program words (one ∷ next ∷ clauses) is =
    words_are is.4 (both (clause is.0 one is.2) (first (word {one = codes ";"} refl) (program is.1 (next ∷ clauses) is.3)))

body : (words : List Word) (held : Body) → IsBody words held → AreInner words
body words (Number n) is = pair (codes "num") (λ text. i64_of text ≡ Some n) refl (λ text says. integer says) is
body words (Text bytes) is = pair (codes "text") (IsTextWord bytes) refl (text_word bytes) is

state : (words : List Word) (left : State) → IsState words left → AreInner words
state words Empty is = alone (codes "empty") refl is
state words (Held version held) is = words_are is.4 (first (joined (word {one = codes "v"} refl) (number is.2)) (body is.1 held is.3))

-- ---- answers
small : (bits n : ℕ) (text : Word) → IsNumber bits n text → IsInner text
small bits n text is = number is.0

acceptor_word : (id : ℕ) (text : Word) → IsAcceptor id text → IsInner text
acceptor_word id text is = number is.0

ballot_word : (ballot : Ballot) {text : Word} → IsBallot ballot text → IsInner text
ballot_word ballot {text} is = point 64 ballot.counter 8 ballot.proposer text is

call_word : (caller call : ℕ) {text : Word} → SpellsCall caller call text → IsInner text
call_word caller call {text} is = point 8 caller 32 call text is

short : (words : List Word) (got need : ℕ) → SpellsShort words got need → AreInner words
short words got need is = words_are is.2 (first (word {one = codes "short"} refl) (first (number is.3.0) (first (number is.4.0) none)))

causes : (words : List Word) (why : Cause) → IsCause words why → AreInner words
causes words (cause.Met met) is = pair (codes "met") (IsBallot met) refl (λ text says. ballot_word met says) is
causes words (cause.Aged least) is = pair (codes "aged") (IsNumber 64 least) refl (small 64 least) is
causes words (cause.Full id) is = pair (codes "full") (IsAcceptor id) refl (acceptor_word id) is
causes words (cause.Short got need) is = short words got need is
causes words (cause.Moved era) is = pair (codes "moved") (IsNumber 32 era) refl (small 32 era) is
causes words cause.Crashed is = alone (codes "crashed") refl is

stop : (words : List Word) (answered : Answer) → IsStop words answered → AreInner words
stop words (answer.Done left by ballot) is = absurd is
stop words (answer.Conflict met) is = pair (codes "conflict") (IsBallot met) refl (λ text says. ballot_word met says) is
stop words (answer.Aged least) is = pair (codes "aged") (IsNumber 64 least) refl (small 64 least) is
stop words (answer.Full id) is = pair (codes "full") (IsAcceptor id) refl (acceptor_word id) is
stop words (answer.Short got need) is = short words got need is
stop words (answer.Moved era) is = pair (codes "moved") (IsNumber 32 era) refl (small 32 era) is
stop words answer.Crashed is = alone (codes "crashed") refl is
stop words (answer.Unsettled why) is = words_are is.1 (first (word {one = codes "unsettled"} refl) (causes is.0 why is.2))
stop words answer.Down is = alone (codes "down") refl is
stop words answer.VaultFault is = alone_two (codes "vault") (codes "fault") refl refl is
stop words answer.Spent is = alone (codes "spent") refl is
stop words answer.RecordFull is = alone_two (codes "record") (codes "full") refl refl is
stop words (answer.NoMemory false) is = alone_two (codes "no") (codes "memory") refl refl is
stop words (answer.NoMemory true) is =
    words_are is (first (word {one = codes "no"} refl) (first (word {one = codes "memory"} refl) (first (word {one = codes "proposed"} refl) none)))

acted : (words : List Word) (by : Took) → IsTook words by → AreInner words
acted words (took.Clause i) is = pair (codes "clause") (IsNumber 8 i) refl (small 8 i) is
acted words took.Nothing is = alone_two (codes "no") (codes "clause") refl refl is
acted words (took.Unfit i) is = pair (codes "unfit") (IsNumber 8 i) refl (small 8 i) is

answers : (words : List Word) (answered : Answer) → IsAnswer words answered → AreInner words
answers words (answer.Done left by ballot) is =
    words_are is.3 (first (word {one = codes "done"} refl) (both (state is.0 left is.4) (first (word {one = codes "at"} refl) (first (ballot_word ballot is.5) (acted is.1 by is.6)))))
answers words (answer.Conflict met) is = stop words (answer.Conflict met) is
answers words (answer.Aged least) is = stop words (answer.Aged least) is
answers words (answer.Full id) is = stop words (answer.Full id) is
answers words (answer.Short got need) is = stop words (answer.Short got need) is
answers words (answer.Moved era) is = stop words (answer.Moved era) is
answers words answer.Crashed is = stop words answer.Crashed is
answers words (answer.Unsettled why) is = stop words (answer.Unsettled why) is
answers words answer.Down is = stop words answer.Down is
answers words answer.VaultFault is = stop words answer.VaultFault is
answers words answer.Spent is = stop words answer.Spent is
answers words answer.RecordFull is = stop words answer.RecordFull is
answers words (answer.NoMemory proposed) is = stop words (answer.NoMemory proposed) is

-- ---- operators
asks : (words : List Word) (asked_for : Asked) → SpellsAsked words asked_for → AreInner words
asks words (asked.Join id) is = pair (codes "join") (IsAcceptor id) refl (acceptor_word id) is
asks words (asked.Leave id) is = pair (codes "leave") (IsAcceptor id) refl (acceptor_word id) is
asks words (asked.Collect name) is = words_are is.0 (first (word {one = codes "collect"} refl) (first (key is.1) none))
asks words (asked.Probe name) is = words_are is.0 (first (word {one = codes "probe"} refl) (first (key is.1) none))
asks words (asked.Resize need_prep need_acc) is =
    words_are is.2 (first (word {one = codes "resize"} refl) (first (number is.3.0) (first (number is.4.0) none)))
asks words (asked.Read name) is = words_are is.0 (first (word {one = codes "read"} refl) (first (key is.1) none))

finished : (words : List Word) (name : Word) (id era rescanned : ℕ) → has_inner name ≡ true → IsFinished words name id era rescanned → AreInner words
finished words name id era rescanned named is =
    words_are is.3 (first (word named) (first (number is.4.0) (first (word {one = codes "era"} refl) (first (number is.5.0)
    (first (word {one = codes "rescanned"} refl) (first (number is.6.0) none))))))

refused : (reason : PlanFault) → AreInner (refusal_words reason)
refused fault.AlreadyIn = record { have = refl }
refused fault.NotIn = record { have = refl }
refused fault.IdUsed = record { have = refl }
refused fault.TooMany = record { have = refl }
refused fault.Last = record { have = refl }
refused fault.BadSize = record { have = refl }
refused fault.NotMajority = record { have = refl }

tells : (words : List Word) (said : OpAnswer) → SpellsTold words said → AreInner words
tells words (told.Joined id era rescanned) is = finished words (codes "joined") id era rescanned refl is
tells words (told.Left id era rescanned) is = finished words (codes "left") id era rescanned refl is
tells words (told.Resized need_prep need_acc era rescanned) is =
    words_are is.4 (first (word {one = codes "resized"} refl) (first (number is.5.0) (first (number is.6.0) (first (word {one = codes "era"} refl) (first (number is.7.0)
    (first (word {one = codes "rescanned"} refl) (first (number is.8.0) none)))))))
tells words (told.Refused reason) is = words_are is (refused reason)
tells words (told.Busy era) is = pair (codes "busy") (IsNumber 32 era) refl (small 32 era) is
tells words (told.Collected name ballot removed kept) is =
    words_are is.3 (first (word {one = codes "collected"} refl) (first (key is.4) (first (word {one = codes "at"} refl) (first (ballot_word ballot is.5)
    (first (word {one = codes "removed"} refl) (first (number is.6.0) (first (word {one = codes "kept"} refl) (first (number is.7.0) none))))))))
tells words (told.NotEmpty version) is =
    words_are is.1 (first (word {one = codes "not"} refl) (first (word {one = codes "empty"} refl) (first (word_is is.2.1 (joined (word {one = codes "v"} refl) (number is.2.2.0))) none)))
tells words (told.Absent id) is = pair (codes "absent") (IsAcceptor id) refl (acceptor_word id) is
tells words (told.ProposerDown proposer) is =
    words_are is.1 (first (word {one = codes "proposer"} refl) (first (word {one = codes "down"} refl) (first (number is.2.0) none)))
tells words (told.Probed name found) is = absurd is
tells words (told.Stopped answered) is = stop words answered is

-- ---- lines
rising : (ids : List ℕ) (text : Word) → AreRising ids text → IsInner text
rising [] text is = absurd is
rising (id ∷ []) text is = number is.0
rising (id ∷ next ∷ ids) text is = word_is is.2 (joined (joined (number is.3.0) (word {one = codes ","} refl)) (rising (next ∷ ids) is.1 is.5))

members : (ids : List ℕ) (text : Word) → IsSet ids text → IsInner text
members [] text is = word_is is (word {one = codes "-"} refl)
members (id ∷ ids) text is = rising (id ∷ ids) text is

quorum : (words : List Word) (era : ℕ) (ids : List ℕ) → IsQuorum words era ids → AreInner words
quorum words era ids is =
    words_are is.2 (first (word {one = codes "era"} refl) (first (number is.3.0) (first (word {one = codes "by"} refl) (first (members ids is.1 is.4) none))))

harm : (down : Bool) → IsInner (harm_word down)
harm false = word refl
harm true = word refl

pub mark_words : (words : List Word) (mark : Mark) → IsMarkLine words mark → AreInner words
mark_words words (Begun caller call name clauses) is =
    words_are is.2 (first (word {one = codes "begun"} refl) (first (call_word caller call is.3) (first (key is.4) (program is.1 clauses is.5.0))))
mark_words words (Proposed p) is =
    words_are is.4 (first (word {one = codes "proposed"} refl) (first (call_word p.caller p.call is.5) (first (key is.6) (first (ballot_word p.ballot is.7)
    (first (word {one = codes "read"} refl) (first (ballot_word p.read is.8) (quorum is.3 p.era p.prepared_by is.9)))))))
mark_words words (Voted id name ballot) is =
    words_are is.2 (first (word {one = codes "voted"} refl) (first (number is.3.0) (first (key is.4) (first (ballot_word ballot is.5) none))))
mark_words words (Acked a) is =
    words_are is.2 (first (word {one = codes "acked"} refl) (first (key is.3) (first (ballot_word a.ballot is.4) (quorum is.1 a.era a.by is.5))))
mark_words words (Floor name ballot left) is =
    words_are is.2 (first (word {one = codes "floor"} refl) (first (key is.3) (first (ballot_word ballot is.4) (state is.1 left is.5))))
mark_words words (EraEntered proposer era) is =
    words_are is.2 (first (word {one = codes "entered"} refl) (first (number is.3.0) (first (number is.4.0) none)))
mark_words words (Ended caller call rounds answered) is =
    words_are is.3 (first (word {one = codes "ended"} refl) (first (call_word caller call is.4) (first (number is.5.0) (answers is.2 answered is.6))))
mark_words words (Harmed caller call down) is =
    words_are is.1 (first (word {one = codes "harmed"} refl) (first (call_word caller call is.2) (first (harm down) none)))
mark_words words (Told asked_for said) is =
    words_are is.2 (first (word {one = codes "told"} refl) (both (asks is.0 asked_for is.3) (first (word {one = codes "->"} refl) (tells is.1 said is.4))))
