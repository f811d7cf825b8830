-- Sets of acceptors that are read in rising order.
use Rattle.std.proofs.Common.{◌≡◌, ℕ, zero, suc, ◌+◌, ◌<◌, ◌≤◌, Bool, true, false, cond, List, [], ◌∷◌, ◌++◌, Option, Some, None, Bor, refl, sym, ap, ◌∙◌, arith, append_assoc, append-nil, inl, inr}
use Rattle.std.specs.Prelude.{◌==◌, ◌||◌, filter}
use Rattle.std.specs.List.{range_with_len, slice_split}
use Rattle.std.specs.Option.{option_map, option_map_or}
use Rattle.std.proofs.lemmas.Bool.{cases_lt, or_parts}
use Rattle.std.proofs.lemmas.Bool.Decides.{nat_tests}
use Rattle.cas_ballot.specs.Members.{members_where, has_member, with_member, IsMemberSet}
use Rattle.cas_ballot.proofs.MemberLemmas.{IsMemberSet-members_where}
use Rattle.cas_change_text.specs.Decimal.{u64_of}
use Rattle.cas_change_text.specs.Words.{Word}
use Rattle.cas_lines.specs.Reading.{within}
use Rattle.cas_audit.specs.Spelling.Reading.{is_comma, member_onto, members_from}

-- ---- one more member, above all others
none_passes : (p : ℕ → Bool) (w a : ℕ) → ((n : ℕ) → a ≤ n → p n ≡ false) → filter p (range_with_len a w) ≡ []
none_passes p zero a none = refl
none_passes p (suc w) a none =
    let here : p a ≡ false = none a (omega arith) in
    let rest : filter p (range_with_len (a + 1) w) ≡ [] = none_passes p w (a + 1) (λ n from. none n (omega (arith, from))) in
    rw (here, rest) refl

-- q passes what p does, and one number more, above all of them
record IsOneMore (p q : ℕ → Bool) (id : ℕ) : Type 0 where
  pub below : (n : ℕ) → n < id → q n ≡ p n
  pub here : q id ≡ true
  pub none : (n : ℕ) → id ≤ n → p n ≡ false
  pub above : (n : ℕ) → id + 1 ≤ n → q n ≡ false

one_more_passes : (p q : ℕ → Bool) (id : ℕ) → IsOneMore p q id → (w a : ℕ) → a ≤ id → id < a + w → filter q (range_with_len a w) ≡ filter p (range_with_len a w) ++ id ∷ []
one_more_passes p q id more zero a from to = absurd (omega (arith, from, to))
one_more_passes p q id more (suc w) a from to = elim (cases_lt a id) [
  | inl lt ↦ step lt (one_more_passes p q id more w (a + 1) (omega (arith, lt)) (omega (arith, to)))
  | inr le ↦ last (omega (arith, from, le))
]
  where
    put : (b : Bool) (xs : List ℕ) → cond b (a ∷ (xs ++ id ∷ [])) (xs ++ id ∷ []) ≡ cond b (a ∷ xs) xs ++ id ∷ []
    put true xs = refl
    put false xs = refl

    step : a < id → filter q (range_with_len (a + 1) w) ≡ filter p (range_with_len (a + 1) w) ++ id ∷ []
        → filter q (range_with_len a (suc w)) ≡ filter p (range_with_len a (suc w)) ++ id ∷ []
    step lt rest =
        let same : q a ≡ p a = more.below a lt in
        rw (same, rest) (put (p a) (filter p (range_with_len (a + 1) w)))

    last : a ≡ id → filter q (range_with_len a (suc w)) ≡ filter p (range_with_len a (suc w)) ++ id ∷ []
    last is =
        let yes : q a ≡ true = ap q is ∙ more.here in
        let no : p a ≡ false = more.none a (omega (arith, is)) in
        let after : filter q (range_with_len (a + 1) w) ≡ [] = none_passes q w (a + 1) (λ n above. more.above n (omega (arith, is, above))) in
        let before : filter p (range_with_len (a + 1) w) ≡ [] = none_passes p w (a + 1) (λ n above. more.none n (omega (arith, is, above))) in
        rw (yes, no, after, before) (ap (λ m. m ∷ []) is)

-- no acceptor of the set has this number, nor one above it
abbrev pub AreBelow : List ℕ → ℕ → Type 0
AreBelow ids least = (n : ℕ) → least ≤ n → has_member ids n ≡ false

other_number : (n id : ℕ) → (n ≡ id → ⊥) → (n == id) ≡ false
other_number n id differ = grind (arith, nat_tests)

same_number : (id : ℕ) → (id == id) ≡ true
same_number id = grind (arith, nat_tests)

pub with_last : (ids : List ℕ) (least id : ℕ) → IsMemberSet ids → AreBelow ids least → least ≤ id → id ≤ 63 → with_member ids id ≡ ids ++ id ∷ []
unfolding members_where
with_last ids least id set below from fits =
    one_more_passes (has_member ids) (λ n. n == id || has_member ids n) id (record {
      below = λ n lt. ap (λ b. b || has_member ids n) (other_number n id (λ same. omega (arith, lt, same)));
      here = ap (λ b. b || has_member ids id) (same_number id);
      none = λ n le. below n (omega (arith, from, le));
      above = λ n lt. ap (λ b. b || has_member ids n) (other_number n id (λ same. omega (arith, lt, same))) ∙ below n (omega (arith, from, lt));
    }) 64 0 (omega arith) (omega (arith, fits))
    ∙ ap (λ (xs : List ℕ). xs ++ id ∷ []) (sym set.lists)

has_last : (ids : List ℕ) (id n : ℕ) → has_member ids n ≡ false → (id == n) ≡ false → has_member (ids ++ id ∷ []) n ≡ false
has_last [] id n none differ = rw differ refl
has_last (x ∷ ids) id n none differ =
    let parts = or_parts (x == n) (has_member ids n) none in
    let rest : has_member (ids ++ id ∷ []) n ≡ false = has_last ids id n parts.1 differ in
    rw (parts.0, rest) refl

-- ---- a set that is read
-- the numbers that were read before
abbrev pub in_front : List ℕ → Option (List ℕ) → Option (List ℕ)
in_front front None = None
in_front front (Some ids) = Some (front ++ ids)

-- the acceptors of what is left to read, where something is
abbrev pub rest_members : ℕ → Option (List ℕ) → Option (List ℕ)
rest_members least None = Some []
rest_members least (Some list) = members_from least (slice_split is_comma list)

-- what was read so far of a word, and what is left of it
pub record AreMembersReadSoFar (word members : List ℕ) (least : ℕ) (rest : Option (List ℕ)) : Type 0 where
  pub reads : in_front members (rest_members least rest) ≡ members_from 0 (slice_split is_comma word)
  pub below : AreBelow members least
  pub set : IsMemberSet members

pub none_read : (word : List ℕ) → AreMembersReadSoFar word [] 0 (Some word)
unfolding members_where
none_read word = record { reads = in_front-nil (members_from 0 (slice_split is_comma word)); below = λ n le. refl; set = record { lists = refl } }
  where
    in_front-nil : (read : Option (List ℕ)) → in_front [] read ≡ read
    in_front-nil None = refl
    in_front-nil (Some ids) = refl

in_front-onto : (front : List ℕ) (id : ℕ) (read : Option (List ℕ)) → in_front (front ++ id ∷ []) read ≡ in_front front (member_onto id read)
in_front-onto front id None = refl
in_front-onto front id (Some ids) = ap (λ (xs : List ℕ). Some xs) (append_assoc front (id ∷ []) ids)

rest_parts : (least : ℕ) (behind : Option (List ℕ)) → rest_members least behind ≡ members_from least (option_map_or (λ rest. slice_split is_comma rest) behind [])
rest_parts least None = refl
rest_parts least (Some rest) = refl

-- the first part is that of a member, and the others are left
pub one_read : (word members list part : List ℕ) (least id : ℕ) (behind : Option (List ℕ)) → AreMembersReadSoFar word members least (Some list)
    → slice_split is_comma list ≡ part ∷ option_map_or (λ rest. slice_split is_comma rest) behind [] → within least 63 (u64_of part) ≡ Some id → least ≤ id → id ≤ 63
    → AreMembersReadSoFar word (with_member members id) (id + 1) behind
one_read word members list part least id behind so_far split says from fits =
    let last : with_member members id ≡ members ++ id ∷ [] = with_last members least id so_far.set so_far.below from fits in
    let parts : List Word = option_map_or (λ rest. slice_split is_comma rest) behind [] in
    let step : members_from least (part ∷ parts) ≡ member_onto id (members_from (id + 1) parts) = rw says refl in
    record {
      reads = (λ i. in_front (last i) (rest_parts (id + 1) behind i)) ∙ in_front-onto members id (members_from (id + 1) parts)
          ∙ ap (in_front members) (sym step) ∙ ap (λ (ps : List Word). in_front members (members_from least ps)) (sym split) ∙ so_far.reads;
      below = λ n above. ap (λ (ids : List ℕ). has_member ids n) last
          ∙ has_last members id n (so_far.below n (omega (arith, from, above))) (other_number id n (λ same. omega (arith, same, above)));
      set = IsMemberSet-members_where (λ n. n == id || has_member members n);
    }

-- nothing is left to read
pub all_read : (word members : List ℕ) (least : ℕ) → AreMembersReadSoFar word members least None → Some members ≡ members_from 0 (slice_split is_comma word)
all_read word members least so_far = ap (λ (ids : List ℕ). Some ids) (sym (append-nil members)) ∙ so_far.reads

-- the parts of what is left, as a borrow
pub borrowed_parts : (behind : Option (Bor (List ℕ))) → option_map_or (λ (rest : Bor (List ℕ)). slice_split is_comma rest.now) behind []
    ≡ option_map_or (λ rest. slice_split is_comma rest) (option_map (λ (rest : Bor (List ℕ)). rest.now) behind) []
borrowed_parts None = refl
borrowed_parts (Some rest) = refl
