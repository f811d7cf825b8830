-- What the text of a session spells, and that it spells nothing else.
use Rattle.std.proofs.Common.{◌≡◌, ℕ, suc, ◌+◌, ◌*◌, ◌^◌, ◌<◌, ◌≤◌, Bool, true, false, not, cond, List, [], ◌∷◌, ◌++◌, length, take, drop, Option, Some, refl, sym, ap, subst, ◌∙◌, append_assoc, append-nil, length-append, arith, rules}
use Rattle.std.specs.Prelude.{◌==◌, ◌&&◌, codes, decimal, ℤ, pos, negsuc, FitsSigned}
use Rattle.std.specs.Fmt.{signed_decimal}
use Rattle.std.specs.Int.{w64}
use Rattle.std.specs.Char.{is_ascii_digit}
use Rattle.std.specs.List.{flat_map, list_all, prefix_len, AllByRecursion}
use Rattle.std.specs.Str.{all_ascii_digits}
use Rattle.std.proofs.lemmas.Bool.{and_parts, and_from}
use Rattle.std.proofs.lemmas.Bool.Decides.{nat_tests}
use Rattle.std.proofs.lemmas.Fmt.{digits_decimal, length-decimal-le, length_signed_le, decimal_injective, signed_decimal_injective}
use Rattle.std.proofs.lemmas.List.{take_at, drop_at}
use Rattle.std.proofs.lemmas.List.Folds.{list_all-append}
use Rattle.std.proofs.lemmas.Str.Parse.{IsNumeralModel, numerals_by_value, tells_all_ascii_digits}
use lib.Signed.{mag}
use Rattle.cas_session_text.specs.declared.reply.LastReply.{LastReply}
use Rattle.cas_session_text.specs.declared.reply.TheConstants.{MOST_CALLERS}
use Rattle.cas_session_text.specs.Contents.{SessionContents, IsLastReply, IsContents, AreRisingAbove, reply_word, next_reply_text, contents_text, lacks}

-- ---- what a byte before which a text is cut is not part of
digits_lack : (stop : ℕ) → is_ascii_digit stop ≡ false → (digits : List ℕ) → all_ascii_digits digits ≡ true → lacks stop digits ≡ true
digits_lack stop other [] e = refl
digits_lack stop other (digit ∷ digits) e =
    let parts = and_parts (is_ascii_digit digit) (all_ascii_digits digits) e in
    and_from _ _ (no_stop parts.0) (digits_lack stop other digits parts.1)
  where
    no_stop : is_ascii_digit digit ≡ true → not (digit == stop) ≡ true
    no_stop d = grind (arith, nat_tests)

pub lacks-decimal : (stop n : ℕ) → is_ascii_digit stop ≡ false → n < 2 ^ 64 → lacks stop (decimal n) ≡ true
lacks-decimal stop n other fits = digits_lack stop other (decimal n) (digits_decimal (numerals_by_value (λ ds. all_ascii_digits ds ≡ true) tells_all_ascii_digits) n fits)

pub lacks-signed : (stop : ℕ) (z : ℤ) → is_ascii_digit stop ≡ false → (45 == stop) ≡ false → FitsSigned w64 z → lacks stop (signed_decimal z) ≡ true
lacks-signed stop (pos n) other no_minus fits = lacks-decimal stop n other (omega arith)
lacks-signed stop (negsuc n) other no_minus fits = and_from _ _ (ap not no_minus) (lacks-decimal stop (suc n) other (omega arith))

lacks-append : (stop : ℕ) (one two : List ℕ) → lacks stop one ≡ true → lacks stop two ≡ true → lacks stop (one ++ two) ≡ true
lacks-append stop one two p q = list_all-append _ one two ∙ and_from _ _ p q

caller_fits : (reply : LastReply) → IsLastReply reply → reply.caller < 2 ^ 64
caller_fits reply is = omega (arith, is.caller.known)

-- no space stands in what one caller was told
pub lacks-reply : (reply : LastReply) → IsLastReply reply → lacks 32 (reply_word reply) ≡ true
lacks-reply reply is =
    let value : List ℕ = signed_decimal reply.reply in
    let two : List ℕ = codes ":" ++ value in
    let three : List ℕ = decimal reply.number ++ two in
    let four : List ℕ = codes ":" ++ three in
    let has_two : lacks 32 two ≡ true = lacks-append 32 (codes ":") value refl (lacks-signed 32 reply.reply refl refl is.reply_fits) in
    let has_three : lacks 32 three ≡ true = lacks-append 32 (decimal reply.number) two (lacks-decimal 32 reply.number refl is.number_fits) has_two in
    let has_four : lacks 32 four ≡ true = lacks-append 32 (codes ":") three refl has_three in
    lacks-append 32 (decimal reply.caller) four (lacks-decimal 32 reply.caller refl (caller_fits reply is)) has_four

-- ---- where a text is cut
pub before_stop : (stop : ℕ) (front back : List ℕ) → lacks stop front ≡ true → (stop == stop) ≡ true → prefix_len (λ byte. not (byte == stop)) (front ++ stop ∷ back) ≡ length front
before_stop stop [] back e same = ap (λ b. cond (not b) (1 + prefix_len (λ byte. not (byte == stop)) back) 0) same
before_stop stop (byte ∷ front) back e same =
    let parts = and_parts (not (byte == stop)) (lacks stop front) e in
    let n : ℕ = prefix_len (λ b. not (b == stop)) (front ++ stop ∷ back) in
    let step : prefix_len (λ b. not (b == stop)) (byte ∷ (front ++ stop ∷ back)) ≡ 1 + n = ap (λ b. cond b (1 + n) 0) parts.0 in
    omega (arith, step, before_stop stop front back parts.1 same)

pub before_end : (stop : ℕ) (front : List ℕ) → lacks stop front ≡ true → prefix_len (λ byte. not (byte == stop)) front ≡ length front
before_end stop [] e = refl
before_end stop (byte ∷ front) e =
    let parts = and_parts (not (byte == stop)) (lacks stop front) e in
    let n : ℕ = prefix_len (λ b. not (b == stop)) front in
    let step : prefix_len (λ b. not (b == stop)) (byte ∷ front) ≡ 1 + n = ap (λ b. cond b (1 + n) 0) parts.0 in
    omega (arith, step, before_end stop front parts.1)

-- a text is cut before the first such byte
pub front_of : (stop : ℕ) (front back bytes : List ℕ) → lacks stop front ≡ true → (stop == stop) ≡ true → front ++ stop ∷ back ≡ bytes → take (prefix_len (λ byte. not (byte == stop)) bytes) bytes ≡ front
front_of stop front back bytes e same text = subst (λ (t : List ℕ). take (prefix_len (λ byte. not (byte == stop)) t) t ≡ front) text (take_at front (stop ∷ back) _ (sym (before_stop stop front back e same)))

pub back_of : (stop : ℕ) (front back bytes : List ℕ) → lacks stop front ≡ true → (stop == stop) ≡ true → front ++ stop ∷ back ≡ bytes → drop (prefix_len (λ byte. not (byte == stop)) bytes) bytes ≡ stop ∷ back
back_of stop front back bytes e same text = subst (λ (t : List ℕ). drop (prefix_len (λ byte. not (byte == stop)) t) t ≡ stop ∷ back) text (drop_at front (stop ∷ back) _ (sym (before_stop stop front back e same)))

-- a word ends where the replies begin
pub before_replies : (word : List ℕ) (replies : List LastReply) → lacks 32 word ≡ true → prefix_len (λ byte. not (byte == 32)) (word ++ flat_map next_reply_text replies) ≡ length word
before_replies word [] e = ap (prefix_len (λ byte. not (byte == 32))) (append-nil word) ∙ before_end 32 word e
before_replies word (reply ∷ replies) e = before_stop 32 word (reply_word reply ++ flat_map next_reply_text replies) e refl

pub word_first : (word : List ℕ) (replies : List LastReply) → lacks 32 word ≡ true
    → take (prefix_len (λ byte. not (byte == 32)) (word ++ flat_map next_reply_text replies)) (word ++ flat_map next_reply_text replies) ≡ word
word_first word replies e = take_at word (flat_map next_reply_text replies) _ (sym (before_replies word replies e))

pub replies_behind : (word : List ℕ) (replies : List LastReply) → lacks 32 word ≡ true
    → drop (prefix_len (λ byte. not (byte == 32)) (word ++ flat_map next_reply_text replies)) (word ++ flat_map next_reply_text replies) ≡ flat_map next_reply_text replies
replies_behind word replies e = drop_at word (flat_map next_reply_text replies) _ (sym (before_replies word replies e))

-- ---- how long a text is
mag_fits : (z : ℤ) → FitsSigned w64 z → mag z < 2 ^ 63
mag_fits z fits = fits.sfits

length-number : (n : ℕ) → n < 2 ^ 64 → length (decimal n) ≤ 20
length-number n fits = length-decimal-le 20 n (omega arith) (omega arith) fits

length-value : (z : ℤ) → FitsSigned w64 z → length (signed_decimal z) ≤ 20
length-value z fits = length_signed_le 19 z (omega (arith, mag_fits z fits)) (mag_fits z fits)

length-reply : (reply : LastReply) → IsLastReply reply → length (next_reply_text reply) ≤ 64
length-reply reply is =
    let value : List ℕ = signed_decimal reply.reply in
    let number : List ℕ = decimal reply.number in
    let caller : List ℕ = decimal reply.caller in
    let two : length (58 ∷ value) ≡ suc (length value) = refl in
    let three : length (number ++ 58 ∷ value) ≡ length number + length (58 ∷ value) = length-append number (58 ∷ value) in
    let four : length (caller ++ 58 ∷ (number ++ 58 ∷ value)) ≡ length caller + suc (length (number ++ 58 ∷ value)) = length-append caller (58 ∷ (number ++ 58 ∷ value)) in
    omega (arith, two, three, four, length-value reply.reply is.reply_fits, length-number reply.number is.number_fits, length-number reply.caller (caller_fits reply is))

-- the more callers were told something, the fewer are left
length-replies : (low : ℕ) (replies : List LastReply) → AllByRecursion IsLastReply replies → AreRisingAbove low replies → low ≤ MOST_CALLERS → length (flat_map next_reply_text replies) + 64 * low ≤ 1024
length-replies low [] each rising most = omega arith
length-replies low (reply ∷ replies) each rising most =
    let rest = length-replies reply.caller replies each.1 rising.1 each.0.caller.known in
    omega (arith, rest, rising.0, length-reply reply each.0, length-append (next_reply_text reply) (flat_map next_reply_text replies))

pub text_fits : (contents : SessionContents) → IsContents contents → length (contents_text contents) ≤ 4000
text_fits contents is = omega (arith, length-append (signed_decimal contents.value) (flat_map next_reply_text contents.replies), length-value contents.value is.value_fits, length-replies 0 contents.replies is.each is.rising (omega arith))

-- ---- one text, one session
-- what stands before the first such byte, and what behind it, is in the text
cut_once : (stop : ℕ) (a b c d : List ℕ) → (stop == stop) ≡ true → lacks stop a ≡ true → lacks stop b ≡ true → a ++ stop ∷ c ≡ b ++ stop ∷ d → (a ≡ b) × (c ≡ d)
cut_once stop a b c d same p q e =
    let n : ℕ → List ℕ → ℕ = λ s t. prefix_len (λ byte. not (byte == s)) t in
    let one : length a ≡ length b = sym (before_stop stop a c p same) ∙ ap (n stop) e ∙ before_stop stop b d q same in
    let fronts : a ≡ b = sym (take_at a (stop ∷ c) (length a) refl) ∙ ap (take (length a)) e ∙ take_at b (stop ∷ d) (length a) (sym one) in
    let backs : stop ∷ c ≡ stop ∷ d = sym (drop_at a (stop ∷ c) (length a) refl) ∙ ap (drop (length a)) e ∙ drop_at b (stop ∷ d) (length a) (sym one) in
    (fronts, cc (backs))

pub reply_word-once : (a b : LastReply) → IsLastReply a → IsLastReply b → reply_word a ≡ reply_word b → a ≡ b
reply_word-once a b p q e =
    let first = cut_once 58 (decimal a.caller) (decimal b.caller) (decimal a.number ++ (codes ":" ++ signed_decimal a.reply)) (decimal b.number ++ (codes ":" ++ signed_decimal b.reply)) refl
    (lacks-decimal 58 a.caller refl (caller_fits a p)) (lacks-decimal 58 b.caller refl (caller_fits b q)) e in
    let second = cut_once 58 (decimal a.number) (decimal b.number) (signed_decimal a.reply) (signed_decimal b.reply) refl
    (lacks-decimal 58 a.number refl p.number_fits) (lacks-decimal 58 b.number refl q.number_fits) first.1 in
    let caller : a.caller ≡ b.caller = decimal_injective a.caller b.caller (caller_fits a p) (caller_fits b q) first.0 in
    let number : a.number ≡ b.number = decimal_injective a.number b.number p.number_fits q.number_fits second.0 in
    let reply : a.reply ≡ b.reply = signed_decimal_injective a.reply b.reply (mag_fits a.reply p.reply_fits) (mag_fits b.reply q.reply_fits) second.1 in
    λ i. record { caller = caller i; number = number i; reply = reply i }

-- a word and the replies behind it
cut_word : (v w : List ℕ) (a b : List LastReply) → lacks 32 v ≡ true → lacks 32 w ≡ true → v ++ flat_map next_reply_text a ≡ w ++ flat_map next_reply_text b
    → (v ≡ w) × (flat_map next_reply_text a ≡ flat_map next_reply_text b)
cut_word v w a b p q e =
    let n : List ℕ → ℕ = λ t. prefix_len (λ byte. not (byte == 32)) t in
    (sym (word_first v a p) ∙ ap (λ t. take (n t) t) e ∙ word_first w b q, sym (replies_behind v a p) ∙ ap (λ t. drop (n t) t) e ∙ replies_behind w b q)

replies_once : (a b : List LastReply) → AllByRecursion IsLastReply a → AllByRecursion IsLastReply b → flat_map next_reply_text a ≡ flat_map next_reply_text b → a ≡ b
replies_once [] [] p q e = refl
replies_once [] (y ∷ b) p q e = absurd cc
replies_once (x ∷ a) [] p q e = absurd cc
replies_once (x ∷ a) (y ∷ b) p q e =
    let parts = cut_word (reply_word x) (reply_word y) a b (lacks-reply x p.0) (lacks-reply y q.0) (cc (e)) in
    let first : x ≡ y = reply_word-once x y p.0 q.0 parts.0 in
    let rest : a ≡ b = replies_once a b p.1 q.1 parts.1 in
    λ i. first i ∷ rest i

-- no two sessions have one text
pub contents_text-once : (a b : SessionContents) → IsContents a → IsContents b → contents_text a ≡ contents_text b → a ≡ b
contents_text-once a b p q e =
    let parts = cut_word (signed_decimal a.value) (signed_decimal b.value) a.replies b.replies (lacks-signed 32 a.value refl refl p.value_fits) (lacks-signed 32 b.value refl refl q.value_fits) e in
    let value : a.value ≡ b.value = signed_decimal_injective a.value b.value (mag_fits a.value p.value_fits) (mag_fits b.value q.value_fits) parts.0 in
    let replies : a.replies ≡ b.replies = replies_once a.replies b.replies p.each q.each parts.1 in
    λ i. record { value = value i; replies = replies i }
