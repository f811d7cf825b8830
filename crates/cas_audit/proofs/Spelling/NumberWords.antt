-- Numbers, calls, ballots and sets of acceptors: what is read of a word is what it says, and what it says is read.
use Rattle.std.proofs.Common.{◌≡◌, ℕ, ◌+◌, ◌^◌, ◌<◌, ◌≤◌, Bool, true, false, cond, List, [], ◌∷◌, ◌++◌, length, get_or, Option, Some, None, refl, sym, ap, subst, ◌∙◌, append_assoc, arith, inl, inr}
use Rattle.std.specs.Prelude.{◌⊎◌, ◌&&◌, codes, nat_le, nat_lt}
use Rattle.std.specs.Char.{is_ascii_digit}
use Rattle.std.specs.List.{slice_split, onto_first, list_all, position_or_len, before_first, after_first}
use Rattle.std.specs.Option.{option_and_then}
use Rattle.std.specs.Str.{bytes_eq}
use Rattle.std.proofs.lemmas.Bool.{and_parts, cases_lt, ltb-true, eqb-true}
use Rattle.std.proofs.lemmas.List.{drop_all}
use Rattle.std.proofs.lemmas.List.Splits.{slice_split_none, slice_split_at}
use Rattle.std.proofs.lemmas.List.Sums.{split_at_first, passes_at_first}
use Rattle.std.proofs.lemmas.Slice.Eq.{bytes_eq-Decides}
use Rattle.cas_ballot.specs.declared.ballot.Ballot.{Ballot}
use Rattle.cas_change_text.specs.Decimal.{is_numeral, number_after, u64_of}
use Rattle.cas_change_text.specs.Words.{Word}
use Rattle.cas_change_text.proofs.EscapedTexts.{chosen}
use Rattle.cas_lines.specs.Command.{IsAcceptor}
use Rattle.cas_lines.specs.Reading.{within, acceptor_of, begins_with_digit}
use Rattle.cas_lines.proofs.Commands.{number_begins}
use Rattle.cas_lines.proofs.EventLines.{within_some, within_again}
use Rattle.cas_audit.specs.Spelling.Lines.{IsNumber, SpellsCall, IsBallot, AreRising, IsSet}
use Rattle.cas_audit.specs.Spelling.Reading.{is_point, is_comma, u8_of, u32_of, both_of, call_of, ballot_from, ballot_of, member_onto, members_from, members_of}
use Rattle.cas_audit.proofs.Spelling.MemberWords.{no_comma_in, begins, no_dash}
use Rattle.cas_audit.proofs.Spelling.TextWords.{first_part, before_digits, behind_digits}

-- ---- numbers

-- a word that says a number is digits, and the number is below 2 ^ 64
number_parts : (word : Word) (n : ℕ) → u64_of word ≡ Some n → (list_all is_ascii_digit word ≡ true) × (n < 2 ^ 64)
number_parts word n e =
    elim (chosen (is_numeral word && nat_lt (number_after 0 word) (2 ^ 64)) (Some (number_after 0 word)) None (Some n) e) [
      | inl p ↦
          let both = and_parts (is_numeral word) (nat_lt (number_after 0 word) (2 ^ 64)) p.0 in
          let digits = and_parts (nat_le 1 (length word) && nat_le (length word) 20) (list_all is_ascii_digit word) both.0 in
          let same : number_after 0 word ≡ n = cc (p.1) in
          (digits.1, subst (λ m. m < 2 ^ 64) same (ltb-true (number_after 0 word) (2 ^ 64) both.1))
      | inr p ↦ absurd (cc (p.1))
    ]

pub u64_found : (word : Word) (n : ℕ) → u64_of word ≡ Some n → IsNumber 64 n word
u64_found word n e = (e, (number_parts word n e).1)

pub u8_found : (word : Word) (n : ℕ) → u8_of word ≡ Some n → IsNumber 8 n word
u8_found word n e = let w = within_some 0 255 (u64_of word) n e in (w.0, omega (arith, w.2))

pub u8_says : (word : Word) (n : ℕ) → IsNumber 8 n word → u8_of word ≡ Some n
u8_says word n is = within_again 0 255 (u64_of word) n is.0 (omega arith) (omega (arith, is.1))

pub u32_found : (word : Word) (n : ℕ) → u32_of word ≡ Some n → IsNumber 32 n word
u32_found word n e = let w = within_some 0 4294967295 (u64_of word) n e in (w.0, omega (arith, w.2))

pub u32_says : (word : Word) (n : ℕ) → IsNumber 32 n word → u32_of word ≡ Some n
u32_says word n is = within_again 0 4294967295 (u64_of word) n is.0 (omega arith) (omega (arith, is.1))

pub acceptor_found : (word : Word) (id : ℕ) → acceptor_of word ≡ Some id → IsAcceptor id word
acceptor_found word id e = let w = within_some 0 63 (u64_of word) id e in (w.0, w.2)

pub acceptor_says : (word : Word) (id : ℕ) → IsAcceptor id word → acceptor_of word ≡ Some id
acceptor_says word id is = within_again 0 63 (u64_of word) id is.0 (omega arith) is.1

-- ---- two numbers with a point between them

-- where a number stands behind the point, the word has one
at_point : (word : Word) (n : ℕ) → u64_of (after_first is_point word) ≡ Some n → word ≡ before_first is_point word ++ codes "." ++ after_first is_point word
at_point word n e = elim (cases_lt (position_or_len is_point word) (length word)) [
  | inl inside ↦
      let point : get_or word (position_or_len is_point word) 0 ≡ 46 = eqb-true (get_or word (position_or_len is_point word) 0) 46 (passes_at_first is_point word 0 inside) in
      split_at_first is_point word 0 inside ∙ ap (λ byte. before_first is_point word ++ (byte ∷ after_first is_point word)) point
      ∙ sym (append_assoc (before_first is_point word) (codes ".") (after_first is_point word))
  | inr past ↦
      let nothing : after_first is_point word ≡ [] = drop_all (position_or_len is_point word + 1) word (omega (arith, past)) in
      let none : None ≡ Some n = sym (ap u64_of nothing) ∙ e in
      absurd cc
]

both_found : (one two : Option ℕ) (x y : ℕ) → both_of one two ≡ Some (x, y) → (one ≡ Some x) × (two ≡ Some y)
both_found (Some one) (Some two) x y e =
    let same : (one, two) ≡ (x, y) = cc in
    (ap (λ (p : ℕ × ℕ). Some p.0) same, ap (λ (p : ℕ × ℕ). Some p.1) same)
both_found (Some one) None x y e = absurd cc
both_found None two x y e = absurd cc

pub call_found : (word : Word) (call : ℕ × ℕ) → call_of word ≡ Some call → SpellsCall call.0 call.1 word
call_found word call e =
    let both = both_found (u8_of (before_first is_point word)) (u32_of (after_first is_point word)) call.0 call.1 e in
    let first = u8_found (before_first is_point word) call.0 both.0 in
    let second = u32_found (after_first is_point word) call.1 both.1 in
    (before_first is_point word, after_first is_point word, at_point word call.1 second.0, first, second)

-- what stands on both sides of the point
before_is : (word front back : Word) (n : ℕ) → word ≡ front ++ codes "." ++ back → u64_of front ≡ Some n → before_first is_point word ≡ front
before_is word front back n split says = ap (before_first is_point) split ∙ before_digits front back (number_parts front n says).0

behind_is : (word front back : Word) (n : ℕ) → word ≡ front ++ codes "." ++ back → u64_of front ≡ Some n → after_first is_point word ≡ back
behind_is word front back n split says = ap (after_first is_point) split ∙ behind_digits front back (number_parts front n says).0

pub call_says : (word : Word) (caller call : ℕ) → SpellsCall caller call word → call_of word ≡ Some (caller, call)
call_says word caller call is =
    (λ i. both_of (u8_of (before_is word is.0 is.1 caller is.2 is.3.0 i)) (u32_of (behind_is word is.0 is.1 caller is.2 is.3.0 i)))
    ∙ (λ i. both_of (u8_says is.0 caller is.3 i) (u32_says is.1 call is.4 i))

ballot_parts : (one two : Option ℕ) (ballot : Ballot) → ballot_from one two ≡ Some ballot → (one ≡ Some ballot.counter) × (two ≡ Some ballot.proposer)
ballot_parts (Some one) (Some two) ballot e =
    let made : Ballot = record { counter = one; proposer = two } in
    let same : made ≡ ballot = cc in
    (ap (λ (b : Ballot). Some b.counter) same, ap (λ (b : Ballot). Some b.proposer) same)
ballot_parts (Some one) None ballot e = absurd cc
ballot_parts None two ballot e = absurd cc

pub ballot_found : (word : Word) (ballot : Ballot) → ballot_of word ≡ Some ballot → IsBallot ballot word
ballot_found word ballot e =
    let both = ballot_parts (u64_of (before_first is_point word)) (u8_of (after_first is_point word)) ballot e in
    let first = u64_found (before_first is_point word) ballot.counter both.0 in
    let second = u8_found (after_first is_point word) ballot.proposer both.1 in
    (before_first is_point word, after_first is_point word, at_point word ballot.proposer second.0, first, second)

pub ballot_says : (word : Word) (ballot : Ballot) → IsBallot ballot word → ballot_of word ≡ Some ballot
ballot_says word ballot is =
    (λ i. ballot_from (u64_of (before_is word is.0 is.1 ballot.counter is.2 is.3.0 i)) (u8_of (behind_is word is.0 is.1 ballot.counter is.2 is.3.0 i)))
    ∙ (λ i. ballot_from (is.3.0 i) (u8_says is.1 ballot.proposer is.4 i))

-- ---- sets of acceptors

-- the parts of a word between its commas: the word itself, or the first and those of the rest
abbrev HasParts : Word → Word → List Word → Type 0
HasParts word part parts = ((parts ≡ []) × (word ≡ part)) ⊎ ((rest : Word) × (word ≡ part ++ codes "," ++ rest) × (slice_split is_comma rest ≡ parts))

-- a byte in front, which is no comma
with_byte : (byte : ℕ) (word part : Word) (parts : List Word) → HasParts word part parts → HasParts (byte ∷ word) (byte ∷ part) parts
with_byte byte word part parts has = elim has [
  | inl p ↦ inl (p.0, ap (λ (w : Word). byte ∷ w) p.1)
  | inr p ↦ inr (p.0, ap (λ (w : Word). byte ∷ w) p.1, p.2)
]

parts_of : (word part : Word) (parts : List Word) → slice_split is_comma word ≡ part ∷ parts → HasParts word part parts
parts_of [] part parts e =
    let first : [] ≡ part = cc in
    let others : [] ≡ parts = cc in
    inl (sym others, first)
parts_of (byte ∷ word) part parts e =
    let front = first_part is_comma word in
    by front (parts_of word front.0 front.1 front.2) (is_comma byte) refl
  where
    by : (front : (first : List ℕ) × (others : List Word) × (slice_split is_comma word ≡ first ∷ others)) → HasParts word front.0 front.1
        → (b : Bool) → is_comma byte ≡ b → HasParts (byte ∷ word) part parts
    by front has true is =
        let split : [] ∷ slice_split is_comma word ≡ part ∷ parts =
        ap (λ b. cond b ([] ∷ slice_split is_comma word) (onto_first byte (slice_split is_comma word))) (sym is) ∙ e in
        let first : [] ≡ part = cc (split) in
        let others : slice_split is_comma word ≡ parts = cc (split) in
        let comma : byte ≡ 44 = eqb-true byte 44 is in
        inr (word, (λ i. comma i ∷ word) ∙ ap (λ (w : Word). w ++ codes "," ++ word) first, others)
    by front has false is =
        let split : (byte ∷ front.0) ∷ front.1 ≡ part ∷ parts =
        ap (onto_first byte) (sym front.2)
        ∙ ap (λ b. cond b ([] ∷ slice_split is_comma word) (onto_first byte (slice_split is_comma word))) (sym is) ∙ e in
        let first : byte ∷ front.0 ≡ part = cc (split) in
        let others : front.1 ≡ parts = cc (split) in
        subst (λ (w : Word). HasParts (byte ∷ word) w parts) first
        (subst (λ (ws : List Word). HasParts (byte ∷ word) (byte ∷ front.0) ws) others (with_byte byte word front.0 front.1 has))

and_then_some : {X Y : Type 0} (f : X → Option Y) (o : Option X) (y : Y) → option_and_then f o ≡ Some y → (x : X) × (o ≡ Some x) × (f x ≡ Some y)
and_then_some f (Some x) y e = (x, refl, e)
and_then_some f None y e = absurd cc

onto_some : (id : ℕ) (read : Option (List ℕ)) (ids : List ℕ) → member_onto id read ≡ Some ids → (others : List ℕ) × (read ≡ Some others) × (id ∷ others ≡ ids)
onto_some id (Some others) ids e = (others, refl, cc)
onto_some id None ids e = absurd cc

-- the first is not below the least
abbrev BeginsFrom : ℕ → List ℕ → Type 0
BeginsFrom least [] = ⊥
BeginsFrom least (id ∷ ids) = least ≤ id

one_more : (word front rest : Word) (id : ℕ) (ids : List ℕ) → word ≡ front ++ codes "," ++ rest → IsAcceptor id front → AreRising ids rest → BeginsFrom (id + 1) ids → AreRising (id ∷ ids) word
one_more word front rest id [] split is others from = absurd from
one_more word front rest id (next ∷ ids) split is others from = (front, rest, split, is, omega (arith, from), others)

rising_found : (parts : List Word) (least : ℕ) (word : Word) (ids : List ℕ) → slice_split is_comma word ≡ parts → members_from least parts ≡ Some ids → AreRising ids word × BeginsFrom least ids
rising_found [] least word ids split e =
    let front = first_part is_comma word in
    let none : [] ≡ front.0 ∷ front.1 = sym split ∙ front.2 in
    absurd cc
rising_found (part ∷ parts) least word ids split e =
    let m = and_then_some (λ id. member_onto id (members_from (id + 1) parts)) (within least 63 (u64_of part)) ids e in
    let w = within_some least 63 (u64_of part) m.0 m.1 in
    let o = onto_some m.0 (members_from (m.0 + 1) parts) ids m.2 in
    subst (λ (xs : List ℕ). AreRising xs word × BeginsFrom least xs) o.2 (elim (parts_of word part parts split) [
      | inl p ↦
          let last = ap (members_from (m.0 + 1)) (sym p.0) ∙ o.1 in
          let none : [] ≡ o.0 = cc (last) in
          (subst (λ (xs : List ℕ). AreRising (m.0 ∷ xs) word) none (subst (IsAcceptor m.0) (sym p.1) (w.0, w.2)), w.1)
      | inr p ↦
          let others = rising_found parts (m.0 + 1) p.0 o.0 p.2 o.1 in
          (one_more word part p.0 m.0 o.0 p.1 (w.0, w.2) others.0 others.1, w.1)
    ])

rising_says : (id : ℕ) (ids : List ℕ) (least : ℕ) (word : Word) → least ≤ id → AreRising (id ∷ ids) word → members_from least (slice_split is_comma word) ≡ Some (id ∷ ids)
rising_says id [] least word from is =
    ap (members_from least) (slice_split_none is_comma word (no_comma_in word (number_parts word id is.0).0))
    ∙ rw (within_again least 63 (u64_of word) id is.0 from is.1) refl
rising_says id (next ∷ ids) least word from is =
    let front : Word = is.0 in
    let rest : Word = is.1 in
    let others : members_from (id + 1) (slice_split is_comma rest) ≡ Some (next ∷ ids) = rising_says next ids (id + 1) rest (omega (arith, is.4)) is.5 in
    ap (λ (w : Word). members_from least (slice_split is_comma w)) (is.2 ∙ append_assoc front (codes ",") rest)
    ∙ ap (members_from least) (slice_split_at is_comma front 44 rest (no_comma_in front (number_parts front id is.3.0).0) refl)
    ∙ rw (within_again least 63 (u64_of front) id is.3.0 from is.3.1, others) refl

rising_begins : (id : ℕ) (ids : List ℕ) (word : Word) → AreRising (id ∷ ids) word → begins_with_digit word ≡ true
rising_begins id [] word is = number_begins word id is.0
rising_begins id (next ∷ ids) word is =
    ap begins_with_digit is.2 ∙ begins (is.0 ++ codes ",") is.1 (begins is.0 (codes ",") (number_begins is.0 id is.3.0))

rising_set : (ids : List ℕ) (word : Word) → AreRising ids word → IsSet ids word
rising_set [] word is = absurd is
rising_set (id ∷ ids) word is = is

pub set_found : (word : Word) (ids : List ℕ) → members_of word ≡ Some ids → IsSet ids word
set_found word ids e = elim (chosen (bytes_eq word (codes "-")) (Some []) (members_from 0 (slice_split is_comma word)) (Some ids) e) [
  | inl p ↦
      let none : [] ≡ ids = cc (p.1) in
      subst (λ (xs : List ℕ). IsSet xs word) none ((bytes_eq-Decides word (codes "-")).0 p.0)
  | inr p ↦ rising_set ids word (rising_found (slice_split is_comma word) 0 word ids refl p.1).0
]

pub set_says : (word : Word) (ids : List ℕ) → IsSet ids word → members_of word ≡ Some ids
set_says word [] is = ap members_of is
set_says word (id ∷ ids) is =
    ap (λ b. cond b (Some []) (members_from 0 (slice_split is_comma word))) (no_dash word (rising_begins id ids word is)) ∙ rising_says id ids 0 word (omega arith) is
