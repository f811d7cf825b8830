-- How the text of a session is read, word by word.
use Rattle.std.proofs.Common.{◌≡◌, ℕ, ◌^◌, ◌<◌, Bool, true, false, not, List, [], ◌∷◌, ◌++◌, length, take, drop, Option, Some, refl, sym, ap, subst, ◌∙◌, append_assoc, append-nil, arith}
use Rattle.std.specs.Prelude.{◌==◌, ℤ, decimal}
use Rattle.std.specs.Fmt.{signed_decimal}
use Rattle.std.specs.List.{flat_map, prefix_len, AllByRecursion}
use Rattle.cas_change_text.specs.Decimal.{u64_of, i64_of}
use Rattle.cas_change_text.proofs.Printed.{u64_of-decimal, i64_of-signed_decimal}
use Rattle.cas_session_text.specs.declared.reply.LastReply.{LastReply}
use Rattle.cas_session_text.specs.Contents.{SessionContents, IsLastReply, IsContents, AreRisingAbove, reply_word, next_reply_text, contents_text, with_reply}
use Rattle.cas_session_text.proofs.Replies.{with_reply-end}
use Rattle.cas_session_text.proofs.Texts.{lacks-reply, lacks-signed, word_first, replies_behind}

abbrev pub space_at : List ℕ → ℕ
space_at bytes = prefix_len (λ byte. not (byte == 32)) bytes

abbrev pub with_replies : SessionContents → List LastReply → SessionContents
with_replies contents replies = record { value = contents.value; replies = contents.replies ++ replies }

-- of all replies these were told, and the rest is the text of those that are left
pub record Left (start now : SessionContents) (all : List LastReply) (rest : List ℕ) : Type 0 where
  pub told : List LastReply
  pub left : List LastReply
  pub parts : all ≡ told ++ left
  pub text : flat_map next_reply_text left ≡ rest
  pub session : now ≡ with_replies start told

pub none_told : (start : SessionContents) (all : List LastReply) (text : List ℕ) → flat_map next_reply_text all ≡ text → Left start start all text
none_told start all text e = record {
  told = [];
  left = all;
  parts = refl;
  text = e;
  session = λ i. record { value = start.value; replies = sym (append-nil start.replies) i };
}

-- the first of those that are left is read, and then the others are
pub record Next (start now : SessionContents) (all : List LastReply) (words : List ℕ) : Type 0 where
  pub reply : LastReply
  pub lawful : IsLastReply reply
  pub word : reply_word reply ≡ take (space_at words) words
  pub rest : Left start (record { value = now.value; replies = with_reply reply now.replies }) all (drop (space_at words) words)

each_behind : (front back : List LastReply) → AllByRecursion IsLastReply (front ++ back) → AllByRecursion IsLastReply back
each_behind [] back each = each
each_behind (reply ∷ front) back each = each_behind front back each.1

next_of : (start now : SessionContents) (all : List LastReply) (words : List ℕ) (told : List LastReply) (reply : LastReply) (left : List LastReply) → IsContents (with_replies start all)
    → all ≡ told ++ reply ∷ left → reply_word reply ++ flat_map next_reply_text left ≡ words → now ≡ with_replies start told → Next start now all words
next_of start now all words told reply left lawful parts words_are session =
    let lists : start.replies ++ all ≡ (start.replies ++ told) ++ reply ∷ left = ap (λ (rs : List LastReply). start.replies ++ rs) parts ∙ sym (append_assoc start.replies told (reply ∷ left)) in
    let each : AllByRecursion IsLastReply (reply ∷ left) = each_behind (start.replies ++ told) (reply ∷ left) (subst (AllByRecursion IsLastReply) lists lawful.each) in
    let rising : AreRisingAbove 0 ((start.replies ++ told) ++ reply ∷ left) = subst (AreRisingAbove 0) lists lawful.rising in
    let no_space = lacks-reply reply each.0 in
    let ended : with_reply reply (start.replies ++ told) ≡ start.replies ++ (told ++ reply ∷ []) = with_reply-end 0 (start.replies ++ told) reply left rising ∙ append_assoc start.replies told (reply ∷ []) in
    record {
      reply = reply;
      lawful = each.0;
      word = sym (word_first (reply_word reply) left no_space) ∙ ap (λ t. take (space_at t) t) words_are;
      rest = record {
        told = told ++ reply ∷ [];
        left = left;
        parts = parts ∙ sym (append_assoc told (reply ∷ []) left);
        text = sym (replies_behind (reply_word reply) left no_space) ∙ ap (λ t. drop (space_at t) t) words_are;
        session = λ i. record { value = ap (λ (c : SessionContents). c.value) session i; replies = (ap (λ (c : SessionContents). with_reply reply c.replies) session ∙ ended) i };
      };
    }

pub next_read : (start now : SessionContents) (all : List LastReply) (rest words : List ℕ) → IsContents (with_replies start all) → Left start now all rest → 0 < length rest → words ≡ drop 1 rest
    → Next start now all words
next_read start now all rest words lawful is some cut = by_left is.left is.parts is.text
  where
    by_left : (left : List LastReply) → all ≡ is.told ++ left → flat_map next_reply_text left ≡ rest → Next start now all words
    by_left [] parts text = absurd (omega (arith, some, ap (length {A = ℕ}) text))
    by_left (reply ∷ left) parts text = next_of start now all words is.told reply left lawful parts (ap (λ (t : List ℕ). drop 1 t) text ∙ sym cut) is.session

-- what is left, said of what was read
abbrev pub when_told : SessionContents → LastReply → SessionContents
when_told now reply = record { value = now.value; replies = with_reply reply now.replies }

pub next_left : (start now held : SessionContents) (all : List LastReply) (words behind : List ℕ) (reply : LastReply) (next : Next start now all words) → reply ≡ next.reply
    → held ≡ when_told now reply → behind ≡ drop (space_at words) words → Left start held all behind
next_left start now held all words behind reply next same told cut =
    let read : held ≡ when_told now next.reply = told ∙ ap (when_told now) same in
    subst (λ (t : List ℕ). Left start held all t) (sym cut) (subst (λ (c : SessionContents). Left start c all (drop (space_at words) words)) (sym read) next.rest)

-- where nothing is left, all were told
pub all_told : (start now : SessionContents) (all : List LastReply) (rest : List ℕ) → Left start now all rest → length rest ≡ 0 → now ≡ with_replies start all
all_told start now all rest is none = by_left is.left is.parts is.text
  where
    by_left : (left : List LastReply) → all ≡ is.told ++ left → flat_map next_reply_text left ≡ rest → now ≡ with_replies start all
    by_left [] parts text = is.session ∙ ap (with_replies start) (sym (append-nil is.told) ∙ sym parts)
    by_left (reply ∷ left) parts text = absurd (omega (arith, none, ap (length {A = ℕ}) text))

-- ---- one reply
-- the numbers that the parts of a reply's word say
pub record SaysReply (reply : LastReply) (first second third : List ℕ) : Type 0 where
  pub caller : u64_of first ≡ Some reply.caller
  pub number : u64_of second ≡ Some reply.number
  pub value : i64_of third ≡ Some reply.reply

pub says : (reply : LastReply) (caller number value : List ℕ) → IsLastReply reply → caller ≡ decimal reply.caller → number ≡ decimal reply.number → value ≡ signed_decimal reply.reply
    → SaysReply reply caller number value
says reply caller number value is c n v = record {
  caller = ap u64_of c ∙ u64_of-decimal reply.caller (omega (arith, is.caller.known));
  number = ap u64_of n ∙ u64_of-decimal reply.number is.number_fits;
  value = ap i64_of v ∙ i64_of-signed_decimal reply.reply is.reply_fits;
}

-- ---- the whole text
pub first_word : (contents : SessionContents) (text : List ℕ) → IsContents contents → contents_text contents ≡ text → signed_decimal contents.value ≡ take (space_at text) text
first_word contents text lawful e =
    sym (word_first (signed_decimal contents.value) contents.replies (lacks-signed 32 contents.value refl refl lawful.value_fits)) ∙ ap (λ t. take (space_at t) t) e

pub words_behind : (contents : SessionContents) (text : List ℕ) → IsContents contents → contents_text contents ≡ text → flat_map next_reply_text contents.replies ≡ drop (space_at text) text
words_behind contents text lawful e =
    sym (replies_behind (signed_decimal contents.value) contents.replies (lacks-signed 32 contents.value refl refl lawful.value_fits)) ∙ ap (λ t. drop (space_at t) t) e

-- where all words behind the first are told to a session with its value, that is the session of the text
pub whole_told : (contents start told : SessionContents) (words : List ℕ) (all : Bool) → start ≡ record { value = contents.value; replies = [] } → IsContents contents
    → flat_map next_reply_text contents.replies ≡ words
    → ((replies : List LastReply) → flat_map next_reply_text replies ≡ words → IsContents (with_replies start replies) → (all ≡ true) × (told ≡ with_replies start replies))
    → (all ≡ true) × (told ≡ contents)
whole_told contents start told words all s lawful text f =
    let P : SessionContents → Type 0 = λ st. ((replies : List LastReply) → flat_map next_reply_text replies ≡ words → IsContents (with_replies st replies) → (all ≡ true) × (told ≡ with_replies st replies))
    → (all ≡ true) × (told ≡ contents) in
    subst P (sym s) (λ g. g contents.replies text lawful) f
