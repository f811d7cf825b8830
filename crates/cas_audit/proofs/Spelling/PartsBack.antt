-- The parts of a mark as they are printed, read again.
use Rattle.std.proofs.Common.{◌≡◌, ℕ, ◌+◌, ◌^◌, ◌<◌, ◌≤◌, true, false, not, List, [], ◌∷◌, ◌++◌, length, Option, Some, None, Ok, refl, ap, ◌∙◌, append_assoc, arith}
use Rattle.std.specs.Prelude.{codes, decimal}
use Rattle.std.specs.List.{AllByRecursion}
use Rattle.std.specs.Str.{bytes_eq}
use Rattle.std.proofs.lemmas.Bool.{and_from}
use Rattle.std.proofs.lemmas.Bool.Decides.{nat_tests}
use Rattle.std.proofs.lemmas.List.Elements.{recursion_from_All}
use Rattle.cas_ballot.specs.Ballot.{ballot_text}
use Rattle.cas_ballot.specs.Members.{IsMemberSet}
use Rattle.cas_ballot.specs.declared.ballot.Ballot.{Ballot}
use Rattle.cas_change.specs.Key.{IsKey, IsKeyByte}
use Rattle.cas_change.specs.declared.outcome.Took.{Took}
use Rattle.cas_change.specs.declared.outcome.Took.TheVariants as took
use Rattle.cas_change_text.specs.Decimal.{u64_of}
use Rattle.cas_change_text.specs.Printing.{state_text}
use Rattle.cas_change_text.specs.Reading.{Read, version_at}
use Rattle.cas_change_text.specs.Words.{Word, WordsLeft, is_blank, words_of}
use Rattle.cas_change_text.proofs.BothWays.{from, state_again}
use Rattle.cas_change_text.proofs.Printed.{has_no_blank, IsWord-decimal, u64_of-decimal, IsState-printed}
use Rattle.cas_lines.specs.Answers.{answer_text, cause_text}
use Rattle.cas_lines.specs.Reading.{key_at, acceptor_at}
use Rattle.cas_lines.proofs.ChangeLines.{key_in-again}
use Rattle.cas_lines.proofs.EventLines.{within_again}
use Rattle.cas_record.specs.declared.answer.Answer.{Answer}
use Rattle.cas_record.specs.declared.answer.Answer.TheVariants as answer
use Rattle.cas_record.specs.declared.answer.Cause.{Cause}
use Rattle.cas_record.specs.declared.answer.Cause.TheVariants as cause
use Rattle.cas_record.specs.declared.operator.OpAnswer.TheVariants as told
use Rattle.cas_audit.specs.Spelling.Printing.{call_text, numbers_text, clause_note, full_answer_text, is_told}
use Rattle.cas_audit.specs.Spelling.Ranges.{CallFits, BallotFits, TookFits, CauseFits, AnswerFits}
use Rattle.cas_audit.specs.Spelling.Reading.{u8_of, u32_of, both_of, call_of, ballot_from, ballot_of, members_of, said_at, named_at, behind_name, numbered_at, told_name, cause_at, cause_of}
use Rattle.cas_audit.specs.Spelling.Reading.{stop_of, stop_in, took_at, took_of, done_at, answer_at, quorum_at}
use Rattle.cas_audit.proofs.Spelling.MemberWords.{members_read_again, members_word}
use Rattle.cas_audit.proofs.Spelling.TextWords.{word_alone, name, behind, after_blank, after_name, before_point, behind_point, point_word}

-- ---- numbers
pub u8_again : (n : ℕ) → n < 2 ^ 8 → u8_of (decimal n) ≡ Some n
u8_again n fits = within_again 0 255 (u64_of (decimal n)) n (u64_of-decimal n (omega (arith, fits))) (omega arith) (omega (arith, fits))

pub u32_again : (n : ℕ) → n < 2 ^ 32 → u32_of (decimal n) ≡ Some n
u32_again n fits = within_again 0 4294967295 (u64_of (decimal n)) n (u64_of-decimal n (omega (arith, fits))) (omega arith) (omega (arith, fits))

pub call_again : (caller call : ℕ) → CallFits caller call → call_of (call_text caller call) ≡ Some (caller, call)
call_again caller call fits =
    let wide : caller < 2 ^ 64 = omega (arith, fits.0) in
    (λ i. both_of (u8_of (before_point caller call wide i)) (u32_of (behind_point caller call wide i)))
    ∙ (λ i. both_of (u8_again caller fits.0 i) (u32_again call fits.1 i))

pub ballot_again : (ballot : Ballot) → BallotFits ballot → ballot_of (ballot_text ballot) ≡ Some ballot
ballot_again ballot fits =
    (λ i. ballot_from (u64_of (before_point ballot.counter ballot.proposer fits.0 i)) (u8_of (behind_point ballot.counter ballot.proposer fits.0 i)))
    ∙ (λ i. ballot_from (u64_of-decimal ballot.counter fits.0 i) (u8_again ballot.proposer fits.1 i))

-- ---- words
pub number_words : (n : ℕ) → n < 2 ^ 64 → words_of (decimal n) ≡ decimal n ∷ []
number_words n fits = word_alone (decimal n) (IsWord-decimal n fits)

pub call_words : (caller call : ℕ) → CallFits caller call → words_of (call_text caller call) ≡ call_text caller call ∷ []
call_words caller call fits = word_alone (call_text caller call) (point_word caller call (omega (arith, fits.0)) (omega (arith, fits.1)))

pub ballot_words : (ballot : Ballot) → BallotFits ballot → words_of (ballot_text ballot) ≡ ballot_text ballot ∷ []
ballot_words ballot fits = word_alone (ballot_text ballot) (point_word ballot.counter ballot.proposer fits.0 (omega (arith, fits.1)))

pub members_words : (ids : List ℕ) → IsMemberSet ids → words_of (numbers_text ids) ≡ numbers_text ids ∷ []
members_words ids set = word_alone (numbers_text ids) (members_word ids set)

key_whole : (key : List ℕ) → AllByRecursion IsKeyByte key → has_no_blank key ≡ true
key_whole [] each = refl
key_whole (byte ∷ key) each = and_from _ _ (no_blank each.0.0) (key_whole key each.1)
  where
    no_blank : 0x21 ≤ byte → not (is_blank byte) ≡ true
    no_blank least = grind (arith, nat_tests)

pub key_words : (key : List ℕ) → IsKey key → words_of key ≡ key ∷ []
key_words key is = word_alone key (record { some = is.not_empty; whole = key_whole key (recursion_from_All IsKeyByte key is.each) })

-- ---- the next word
pub said_again : {X : Type 0} (value : Word → Option X) (word : Word) (x : X) → value word ≡ Some x → (at : ℕ) (rest : List Word) → said_at value (from at (word ∷ rest)) ≡ Ok (x, from (at + 1) rest)
unfolding said_at
said_again value word x says at rest = rw says refl

pub acceptor_read : (id : ℕ) → id ≤ 63 → (at : ℕ) (rest : List Word) → acceptor_at (from at (decimal id ∷ rest)) ≡ Ok (id, from (at + 1) rest)
unfolding acceptor_at
acceptor_read id fits at rest = rw (within_again 0 63 (u64_of (decimal id)) id (u64_of-decimal id (omega (arith, fits))) (omega arith) fits) refl

pub key_read : (key : List ℕ) → IsKey key → (at : ℕ) (rest : List Word) → key_at (from at (key ∷ rest)) ≡ Ok (key, from (at + 1) rest)
unfolding key_at
key_read key is at rest = rw (key_in-again at key is) refl

pub version_read : (n : ℕ) → n < 2 ^ 64 → (at : ℕ) (rest : List Word) → version_at (from at (decimal n ∷ rest)) ≡ Ok (n, from (at + 1) rest)
unfolding version_at
version_read n fits at rest = rw (u64_of-decimal n fits) refl

pub ballot_read : (ballot : Ballot) → BallotFits ballot → (at : ℕ) (rest : List Word) → said_at ballot_of (from at (ballot_text ballot ∷ rest)) ≡ Ok (ballot, from (at + 1) rest)
ballot_read ballot fits at rest = said_again ballot_of (ballot_text ballot) ballot (ballot_again ballot fits) at rest

pub u8_read : (n : ℕ) → n < 2 ^ 8 → (at : ℕ) (rest : List Word) → said_at u8_of (from at (decimal n ∷ rest)) ≡ Ok (n, from (at + 1) rest)
u8_read n fits at rest = said_again u8_of (decimal n) n (u8_again n fits) at rest

pub u32_read : (n : ℕ) → n < 2 ^ 32 → (at : ℕ) (rest : List Word) → said_at u32_of (from at (decimal n ∷ rest)) ≡ Ok (n, from (at + 1) rest)
u32_read n fits at rest = said_again u32_of (decimal n) n (u32_again n fits) at rest

pub call_read : (caller call : ℕ) → CallFits caller call → (at : ℕ) (rest : List Word) → said_at call_of (from at (call_text caller call ∷ rest)) ≡ Ok ((caller, call), from (at + 1) rest)
call_read caller call fits at rest = said_again call_of (call_text caller call) (caller, call) (call_again caller call fits) at rest

pub members_read : (ids : List ℕ) → IsMemberSet ids → (at : ℕ) (rest : List Word) → said_at members_of (from at (numbers_text ids ∷ rest)) ≡ Ok (ids, from (at + 1) rest)
members_read ids set at rest = said_again members_of (numbers_text ids) ids (members_read_again ids set) at rest

-- ---- the last part of a line
-- what the text says is read to its end
abbrev pub Last : {X : Type 0} → (WordsLeft → Read X) → List ℕ → X → Type 0
Last read text x = (at : ℕ) → (next : ℕ) × (read (from at (words_of text)) ≡ Ok (x, from next []))

-- a text of these words is read to its end
pub last : {X : Type 0} (read : WordsLeft → Read X) (text : List ℕ) (words : List Word) (x : X) → words_of text ≡ words → ((at : ℕ) → (next : ℕ) × (read (from at words) ≡ Ok (x, from next []))) → Last read text x
last read text words x are reads at =
    let r = reads at in
    (r.0, ap (λ (ws : List Word). read (from at ws)) are ∙ r.1)

-- a name, and what follows it
pub named : (word : Word) (rest : List ℕ) (words : List Word) → 0 < length word → has_no_blank word ≡ true → words_of rest ≡ words → words_of (word ++ 32 ∷ rest) ≡ word ∷ words
named word rest words some whole are = behind word rest (word ∷ []) words (name word some whole) are

-- the words of a shortfall
short_words : (got need : ℕ) → got < 2 ^ 32 → need < 2 ^ 32 → words_of (codes "short " ++ decimal got ++ codes " " ++ decimal need) ≡ codes "short" ∷ decimal got ∷ decimal need ∷ []
short_words got need fits also =
    after_blank (codes "short " ++ decimal got) (decimal need) (codes "short" ∷ decimal got ∷ []) (decimal need ∷ [])
    (named (codes "short") (decimal got) (decimal got ∷ []) (omega arith) refl (number_words got (omega (arith, fits)))) (number_words need (omega (arith, also)))

pub cause_last : (why : Cause) → CauseFits why → Last cause_at (cause_text why) why
unfolding cause_at cause_of named_at
cause_last (cause.Met ballot) fits = last cause_at (codes "met " ++ ballot_text ballot) (codes "met" ∷ ballot_text ballot ∷ []) (cause.Met ballot)
    (named (codes "met") (ballot_text ballot) (ballot_text ballot ∷ []) (omega arith) refl (ballot_words ballot fits))
    (λ at. (at + 1 + 1, rw (ballot_read ballot fits (at + 1) []) refl))
cause_last (cause.Aged least) fits = last cause_at (codes "aged " ++ decimal least) (codes "aged" ∷ decimal least ∷ []) (cause.Aged least)
    (named (codes "aged") (decimal least) (decimal least ∷ []) (omega arith) refl (number_words least fits))
    (λ at. (at + 1 + 1, rw (version_read least fits (at + 1) []) refl))
cause_last (cause.Full acceptor) fits = last cause_at (codes "full " ++ decimal acceptor) (codes "full" ∷ decimal acceptor ∷ []) (cause.Full acceptor)
    (named (codes "full") (decimal acceptor) (decimal acceptor ∷ []) (omega arith) refl (number_words acceptor (omega (arith, fits))))
    (λ at. (at + 1 + 1, rw (acceptor_read acceptor fits (at + 1) []) refl))
cause_last (cause.Short got need) fits = last cause_at (codes "short " ++ decimal got ++ codes " " ++ decimal need) (codes "short" ∷ decimal got ∷ decimal need ∷ []) (cause.Short got need)
    (short_words got need fits.0 fits.1)
    (λ at. (at + 1 + 1 + 1, rw (u32_read got fits.0 (at + 1) (decimal need ∷ []), u32_read need fits.1 (at + 1 + 1) []) refl))
cause_last (cause.Moved era) fits = last cause_at (codes "moved " ++ decimal era) (codes "moved" ∷ decimal era ∷ []) (cause.Moved era)
    (named (codes "moved") (decimal era) (decimal era ∷ []) (omega arith) refl (number_words era (omega (arith, fits))))
    (λ at. (at + 1 + 1, rw (u32_read era fits (at + 1) []) refl))
cause_last cause.Crashed fits = last cause_at (codes "crashed") (codes "crashed" ∷ []) cause.Crashed (name (codes "crashed") (omega arith) refl) (λ at. (at + 1, refl))

-- ---- answers
-- the answer's first word, and what is read behind it
pub record IsStop (a : Answer) : Type 0 where
  pub word : Word
  pub words : List Word
  pub are : words_of (answer_text a) ≡ word ∷ words
  pub reads : (at : ℕ) → (next : ℕ) × (stop_in at word (from (at + 1) words) ≡ Ok (a, from next []))
  pub own : told_name word ≡ None
  pub undone : bytes_eq word (codes "done") ≡ false

pub stop_again : (a : Answer) → is_told (told.Stopped a) ≡ true → AnswerFits a → IsStop a
unfolding stop_in stop_of behind_name
stop_again (answer.Done state took ballot) written fits = absurd cc
stop_again (answer.Conflict met) written fits = record {
  word = codes "conflict";
  words = ballot_text met ∷ [];
  are = named (codes "conflict") (ballot_text met) (ballot_text met ∷ []) (omega arith) refl (ballot_words met fits);
  reads = λ at. (at + 1 + 1, rw (ballot_read met fits (at + 1) []) refl);
  own = refl;
  undone = refl;
}
stop_again (answer.Aged least) written fits = record {
  word = codes "aged";
  words = decimal least ∷ [];
  are = named (codes "aged") (decimal least) (decimal least ∷ []) (omega arith) refl (number_words least fits);
  reads = λ at. (at + 1 + 1, rw (version_read least fits (at + 1) []) refl);
  own = refl;
  undone = refl;
}
stop_again (answer.Full acceptor) written fits = record {
  word = codes "full";
  words = decimal acceptor ∷ [];
  are = named (codes "full") (decimal acceptor) (decimal acceptor ∷ []) (omega arith) refl (number_words acceptor (omega (arith, fits)));
  reads = λ at. (at + 1 + 1, rw (acceptor_read acceptor fits (at + 1) []) refl);
  own = refl;
  undone = refl;
}
stop_again (answer.Short got need) written fits = record {
  word = codes "short";
  words = decimal got ∷ decimal need ∷ [];
  are = short_words got need fits.0 fits.1;
  reads = λ at. (at + 1 + 1 + 1, rw (u32_read got fits.0 (at + 1) (decimal need ∷ []), u32_read need fits.1 (at + 1 + 1) []) refl);
  own = refl;
  undone = refl;
}
stop_again (answer.Moved era) written fits = record {
  word = codes "moved";
  words = decimal era ∷ [];
  are = named (codes "moved") (decimal era) (decimal era ∷ []) (omega arith) refl (number_words era (omega (arith, fits)));
  reads = λ at. (at + 1 + 1, rw (u32_read era fits (at + 1) []) refl);
  own = refl;
  undone = refl;
}
stop_again answer.Crashed written fits = record { word = codes "crashed"; words = []; are = name (codes "crashed") (omega arith) refl; reads = λ at. (at + 1, refl); own = refl; undone = refl }
stop_again (answer.Unsettled why) written fits =
    let cause = cause_last why fits in
    record {
      word = codes "unsettled";
      words = words_of (cause_text why);
      are = named (codes "unsettled") (cause_text why) (words_of (cause_text why)) (omega arith) refl refl;
      reads = λ at. let r = cause (at + 1) in (r.0, rw r.1 refl);
      own = refl;
      undone = refl;
    }
stop_again answer.Down written fits = record { word = codes "down"; words = []; are = name (codes "down") (omega arith) refl; reads = λ at. (at + 1, refl); own = refl; undone = refl }
stop_again answer.VaultFault written fits = record { word = codes "vault"; words = codes "fault" ∷ []; are = refl; reads = λ at. (at + 1 + 1, refl); own = refl; undone = refl }
stop_again answer.Spent written fits = record { word = codes "spent"; words = []; are = name (codes "spent") (omega arith) refl; reads = λ at. (at + 1, refl); own = refl; undone = refl }
stop_again answer.RecordFull written fits = record { word = codes "record"; words = codes "full" ∷ []; are = refl; reads = λ at. (at + 1 + 1, refl); own = refl; undone = refl }
stop_again (answer.NoMemory false) written fits = record { word = codes "no"; words = codes "memory" ∷ []; are = refl; reads = λ at. (at + 1 + 1, refl); own = refl; undone = refl }
stop_again (answer.NoMemory true) written fits = record { word = codes "no"; words = codes "memory" ∷ codes "proposed" ∷ []; are = refl; reads = λ at. (at + 1 + 1 + 1, refl); own = refl; undone = refl }

-- which clause acted, as it stands behind an answer
record IsNote (t : Took) : Type 0 where
  pub text : List ℕ
  pub note : clause_note t ≡ 32 ∷ text
  pub words : List Word
  pub are : words_of text ≡ words
  pub reads : (at : ℕ) → (next : ℕ) × (took_at (from at words) ≡ Ok (t, from next []))

took_again : (t : Took) → TookFits t → IsNote t
unfolding took_at took_of named_at behind_name
took_again (took.Clause i) fits = record {
  text = codes "clause " ++ decimal i;
  note = refl;
  words = codes "clause" ∷ decimal i ∷ [];
  are = named (codes "clause") (decimal i) (decimal i ∷ []) (omega arith) refl (number_words i (omega (arith, fits)));
  reads = λ at. (at + 1 + 1, rw (u8_read i fits (at + 1) []) refl);
}
took_again took.Nothing fits = record { text = codes "no clause"; note = refl; words = codes "no" ∷ codes "clause" ∷ []; are = refl; reads = λ at. (at + 1 + 1, refl) }
took_again (took.Unfit i) fits = record {
  text = codes "unfit " ++ decimal i;
  note = refl;
  words = codes "unfit" ∷ decimal i ∷ [];
  are = named (codes "unfit") (decimal i) (decimal i ∷ []) (omega arith) refl (number_words i (omega (arith, fits)));
  reads = λ at. (at + 1 + 1, rw (u8_read i fits (at + 1) []) refl);
}

-- an answer but for Done, as it ends a line
stop_last : (a : Answer) → is_told (told.Stopped a) ≡ true → AnswerFits a → Last answer_at (answer_text a) a
unfolding answer_at
stop_last a written fits at =
    let s = stop_again a written fits in
    let r = s.reads at in
    (r.0, ap (λ (ws : List Word). answer_at (from at ws)) s.are ∙ rw (s.undone, r.1) refl)

pub answer_last : (a : Answer) → AnswerFits a → Last answer_at (full_answer_text a) a
unfolding answer_at done_at behind_name
answer_last (answer.Done state took ballot) fits = λ at.
    let note = took_again took fits.1 in
    let head : List ℕ = codes "done " ++ state_text state ++ codes " at " ++ ballot_text ballot in
    let states : List Word = words_of (state_text state) in
    let words : words_of (head ++ clause_note took) ≡ (codes "done" ∷ states ++ codes "at" ∷ ballot_text ballot ∷ []) ++ note.words =
    ap (λ (bytes : List ℕ). words_of (head ++ bytes)) note.note
    ∙ behind head note.text (codes "done" ∷ states ++ codes "at" ∷ ballot_text ballot ∷ []) note.words
    (after_name (codes "done " ++ state_text state) (ballot_text ballot) (codes "at") (codes "done" ∷ states) (ballot_text ballot ∷ []) (name (codes "at") (omega arith) refl)
    (named (codes "done") (state_text state) states (omega arith) refl refl) (ballot_words ballot fits.2)) note.are in
    let rest : List Word = codes "at" ∷ ballot_text ballot ∷ note.words in
    let s = state_again states state (IsState-printed state fits.0) (at + 1) rest in
    let r = note.reads (s.0 + 1 + 1) in
    let apart : (codes "done" ∷ states ++ codes "at" ∷ ballot_text ballot ∷ []) ++ note.words ≡ codes "done" ∷ (states ++ rest) =
    ap (λ (ws : List Word). codes "done" ∷ ws) (append_assoc states (codes "at" ∷ ballot_text ballot ∷ []) note.words) in
    (r.0, ap (λ (ws : List Word). answer_at (from at ws)) (words ∙ apart) ∙ rw (s.1, ballot_read ballot fits.2 (s.0 + 1) note.words, r.1) refl)
answer_last (answer.Conflict met) fits = stop_last (answer.Conflict met) refl fits
answer_last (answer.Aged least) fits = stop_last (answer.Aged least) refl fits
answer_last (answer.Full acceptor) fits = stop_last (answer.Full acceptor) refl fits
answer_last (answer.Short got need) fits = stop_last (answer.Short got need) refl fits
answer_last (answer.Moved era) fits = stop_last (answer.Moved era) refl fits
answer_last answer.Crashed fits = stop_last answer.Crashed refl fits
answer_last (answer.Unsettled why) fits = stop_last (answer.Unsettled why) refl fits
answer_last answer.Down fits = stop_last answer.Down refl fits
answer_last answer.VaultFault fits = stop_last answer.VaultFault refl fits
answer_last answer.Spent fits = stop_last answer.Spent refl fits
answer_last answer.RecordFull fits = stop_last answer.RecordFull refl fits
answer_last (answer.NoMemory proposed) fits = stop_last (answer.NoMemory proposed) refl fits

-- ---- an era and a quorum

abbrev pub quorum_list : ℕ → List ℕ → List Word
quorum_list era by = codes "era" ∷ decimal era ∷ codes "by" ∷ numbers_text by ∷ []

pub quorum_read : (era : ℕ) (by : List ℕ) → era < 2 ^ 32 → IsMemberSet by → (at : ℕ) → quorum_at (from at (quorum_list era by)) ≡ Ok ((era, by), from (at + 1 + 1 + 1 + 1) [])
unfolding quorum_at numbered_at behind_name
quorum_read era by fits set at = rw (u32_read era fits (at + 1) (codes "by" ∷ numbers_text by ∷ []), members_read by set (at + 1 + 1 + 1) []) refl
