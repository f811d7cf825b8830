-- What is read is in the grammar, and what is in the grammar is read.
use Rattle.std.proofs.Common.{◌≡◌, ◌≢◌, ℕ, zero, suc, ◌+◌, ◌≤◌, Bool, true, false, cond, List, [], ◌∷◌, ◌++◌, length, Option, Some, None, Result, Ok, Err, refl, sym, ap, subst, ◌∙◌, append_assoc, append-nil, arith, inl, inr}
use Rattle.std.specs.Prelude.{◌⊎◌, ◌==◌, codes, nat_le, ℤ, MatchResult, IfOk}
use Rattle.std.specs.Option.{ok_or}
use Rattle.std.specs.Str.{bytes_eq}
use Rattle.std.proofs.lemmas.Slice.Eq.{bytes_eq-Decides}
use Rattle.std.proofs.lemmas.Bool.{leb-true, le-leb, eqb-true}
use Rattle.cas_change.specs.declared.text.TheConstants.{LONGEST_TEXT}
use Rattle.cas_change.specs.declared.program.TheConstants.{MOST_CLAUSES}
use Rattle.cas_change.specs.declared.program.Guard.{Guard}
use Rattle.cas_change.specs.declared.program.Guard.TheVariants.{Always, IsEmpty, VersionIs, NumberBelow, TextIs}
use Rattle.cas_change.specs.declared.program.Act.{Act}
use Rattle.cas_change.specs.declared.program.Act.TheVariants.{Keep, PutText, PutNumber, Add, Clear}
use Rattle.cas_change.specs.declared.program.Clause.{Clause}
use Rattle.cas_change.specs.declared.state.Body.{Body}
use Rattle.cas_change.specs.declared.state.Body.TheVariants.{Number, Text}
use Rattle.cas_change.specs.declared.state.State.{State}
use Rattle.cas_change.specs.declared.state.State.TheVariants.{Empty, Held}
use Rattle.cas_change_text.specs.declared.refusal.Why.{Why}
use Rattle.cas_change_text.specs.declared.refusal.Why.TheVariants as why
use Rattle.cas_change_text.specs.declared.refusal.TextRefusal.{TextRefusal}
use Rattle.cas_change_text.specs.declared.names.GuardName.{GuardName}
use Rattle.cas_change_text.specs.declared.names.GuardName.TheVariants as guards
use Rattle.cas_change_text.specs.declared.names.ActName.{ActName}
use Rattle.cas_change_text.specs.declared.names.ActName.TheVariants as acts
use Rattle.cas_change_text.specs.Decimal.{u64_of, i64_of}
use Rattle.cas_change_text.specs.Escapes.{text_of}
use Rattle.cas_change_text.specs.Grammar.{IsPair, IsTextWord, IsGuard, IsAct, IsClause, IsClauses, IsProgram, IsBody, IsState}
use Rattle.cas_change_text.specs.Reading.{◌>>=◌, Read, word_from, word_at, refusal_at, version_at, number_at, text_in, text_at, guard_name, guard_of, guard_at, act_name, act_of, act_at, clause_at, semicolon_from, semicolon_at, clauses_at, program_at, body_of, body_at, after_v, held_at, state_at, end_from, whole_state, GivesInMemory}
use Rattle.cas_change_text.specs.Words.{Word, WordsLeft, all_of}
use Rattle.cas_change_text.proofs.EscapedTexts.{chosen, text_of-again, text_of-found}

-- the value of a step that was not refused
pub bind_ok : {A B : Type 0} (r : Result A TextRefusal) (f : A → Result B TextRefusal) (y : B) → (r >>= f) ≡ Ok y → (x : A) × (r ≡ Ok x) × (f x ≡ Ok y)
bind_ok (Ok x) f y e = (x, refl, e)
bind_ok (Err refusal) f y e = absurd cc

pub ok_or_ok : {A : Type 0} (o : Option A) (refusal : TextRefusal) (x : A) → ok_or o refusal ≡ Ok x → o ≡ Some x
ok_or_ok (Some y) refusal x e = let same : y ≡ x = cc in ap (λ z. Some z) same
ok_or_ok None refusal x e = absurd cc

abbrev pub done : {A : Type 0} → A → Result A TextRefusal
done x = Ok x

-- these words are left at this place
abbrev pub from : ℕ → List Word → WordsLeft
from at words = record { at = at; words = words }

-- what was read is what the front of the words says, and these words follow
pub record Took {X : Type 0} (Says : List Word → X → Type 0) (words : List Word) (x : X) (rest : List Word) : Type 0 where
  pub front : List Word
  pub says : Says front x
  pub split : words ≡ front ++ rest

-- what the front says is read, whatever follows
abbrev pub Again : {X : Type 0} → (WordsLeft → Read X) → List Word → X → Type 0
Again read front x = (at : ℕ) (rest : List Word) → (next : ℕ) × (read (from at (front ++ rest)) ≡ Ok (x, from next rest))

-- ---- one word

abbrev pub IsOne : {X : Type 0} → (Word → X → Type 0) → List Word → X → Type 0
IsOne P words x = (word : Word) × (words ≡ word ∷ []) × P word x

pub word_took : (at : ℕ) (words : List Word) (word : Word) (left : WordsLeft) → word_from at words ≡ Ok (word, left) → words ≡ word ∷ left.words
word_took at [] word left e = absurd cc
word_took at (first ∷ words) word left e =
    let same : (first, from (at + 1) words) ≡ (word, left) = cc in
    ap (λ (p : Word × WordsLeft). p.0 ∷ p.1.words) same

pub version_found : (left : WordsLeft) (version : ℕ) (after : WordsLeft) → version_at left ≡ Ok (version, after) → Took (IsOne (λ word v. u64_of word ≡ Some v)) left.words version after.words
unfolding version_at
version_found left version after e =
    let w = bind_ok (word_at left) _ (version, after) e in
    let v = bind_ok (ok_or (u64_of w.0.0) (refusal_at why.BadNumber left)) _ (version, after) w.2 in
    let says : u64_of w.0.0 ≡ Some v.0 = ok_or_ok _ _ _ v.1 in
    let same : (v.0, w.0.1) ≡ (version, after) = cc (v.2) in
    let split : left.words ≡ w.0.0 ∷ w.0.1.words = word_took left.at left.words w.0.0 w.0.1 w.1 in
    record {
      front = w.0.0 ∷ [];
      says = (w.0.0, refl, says ∙ ap (λ (p : ℕ × WordsLeft). Some p.0) same);
      split = split ∙ ap (λ (p : ℕ × WordsLeft). w.0.0 ∷ p.1.words) same;
    }

pub version_again : (word : Word) (version : ℕ) → u64_of word ≡ Some version → Again version_at (word ∷ []) version
unfolding version_at
version_again word version says at rest = (at + 1, rw says refl)

pub number_found : (left : WordsLeft) (number : ℤ) (after : WordsLeft) → number_at left ≡ Ok (number, after) → Took (IsOne (λ word n. i64_of word ≡ Some n)) left.words number after.words
unfolding number_at
number_found left number after e =
    let w = bind_ok (word_at left) _ (number, after) e in
    let v = bind_ok (ok_or (i64_of w.0.0) (refusal_at why.BadNumber left)) _ (number, after) w.2 in
    let says : i64_of w.0.0 ≡ Some v.0 = ok_or_ok _ _ _ v.1 in
    let same : (v.0, w.0.1) ≡ (number, after) = cc (v.2) in
    let split : left.words ≡ w.0.0 ∷ w.0.1.words = word_took left.at left.words w.0.0 w.0.1 w.1 in
    record {
      front = w.0.0 ∷ [];
      says = (w.0.0, refl, says ∙ ap (λ (p : ℤ × WordsLeft). Some p.0) same);
      split = split ∙ ap (λ (p : ℤ × WordsLeft). w.0.0 ∷ p.1.words) same;
    }

pub number_again : (word : Word) (number : ℤ) → i64_of word ≡ Some number → Again number_at (word ∷ []) number
unfolding number_at
number_again word number says at rest = (at + 1, rw says refl)

text_in-found : (at : ℕ) (word : Word) (bytes : List ℕ) → text_in at word ≡ Ok bytes → IsTextWord bytes word
unfolding text_in
text_in-found at word bytes e =
    let t = bind_ok (ok_or (text_of word) (record { why = why.UnknownWord; word = at })) _ bytes e in
    let says : text_of word ≡ Some t.0 = ok_or_ok _ _ _ t.1 in
    elim (chosen (nat_le (length t.0) LONGEST_TEXT) (Ok t.0) (Err (record { why = why.TooLong; word = at })) (Ok bytes) t.2) [
      | inl p ↦ let same : t.0 ≡ bytes = cc (p.1) in subst (λ (bs : List ℕ). IsTextWord bs word) same (text_of-found word t.0 says, leb-true (length t.0) LONGEST_TEXT p.0)
      | inr p ↦ absurd (cc (p.1))
    ]

text_in-again : (at : ℕ) (word : Word) (bytes : List ℕ) → IsTextWord bytes word → text_in at word ≡ Ok bytes
unfolding text_in
text_in-again at word bytes spelled = rw (text_of-again bytes word spelled.0, le-leb (length bytes) LONGEST_TEXT spelled.1) refl

pub text_found : (left : WordsLeft) (bytes : List ℕ) (after : WordsLeft) → text_at left ≡ Ok (bytes, after) → Took (IsOne (λ word bs. IsTextWord bs word)) left.words bytes after.words
unfolding text_at
text_found left bytes after e =
    let w = bind_ok (word_at left) _ (bytes, after) e in
    let v = bind_ok (text_in left.at w.0.0) _ (bytes, after) w.2 in
    let same : (v.0, w.0.1) ≡ (bytes, after) = cc (v.2) in
    let split : left.words ≡ w.0.0 ∷ w.0.1.words = word_took left.at left.words w.0.0 w.0.1 w.1 in
    record {
      front = w.0.0 ∷ [];
      says = (w.0.0, refl, subst (λ (p : List ℕ × WordsLeft). IsTextWord p.0 w.0.0) same (text_in-found left.at w.0.0 v.0 v.1));
      split = split ∙ ap (λ (p : List ℕ × WordsLeft). w.0.0 ∷ p.1.words) same;
    }

pub text_again : (word : Word) (bytes : List ℕ) → IsTextWord bytes word → Again text_at (word ∷ []) bytes
unfolding text_at
text_again word bytes spelled at rest = (at + 1, rw (text_in-again at word bytes spelled) refl)

-- ---- names

pub named : {X : Type 0} (word text : Word) (x y : X) (rest : Option X) → cond (bytes_eq word text) (Some x) rest ≡ Some y → ((word ≡ text) × (x ≡ y)) ⊎ (rest ≡ Some y)
named word text x y rest e = elim (chosen (bytes_eq word text) (Some x) rest (Some y) e) [
  | inl p ↦ inl ((bytes_eq-Decides word text).0 p.0, let same : x ≡ y = cc (p.1) in same)
  | inr p ↦ inr p.1
]

-- the word that names a guard
abbrev pub guard_word : GuardName → Word
guard_word guards.Always = codes "always"
guard_word guards.Empty = codes "empty"
guard_word guards.Version = codes "version"
guard_word guards.Below = codes "below"
guard_word guards.Is = codes "is"

guard_named : (word : Word) (name : GuardName) → guard_name word ≡ Some name → word ≡ guard_word name
guard_named word name e = elim (named word (codes "always") guards.Always name _ e) [
  | inl p ↦ p.0 ∙ ap guard_word p.1
  | inr e1 ↦ elim (named word (codes "empty") guards.Empty name _ e1) [
    | inl p ↦ p.0 ∙ ap guard_word p.1
    | inr e2 ↦ elim (named word (codes "version") guards.Version name _ e2) [
      | inl p ↦ p.0 ∙ ap guard_word p.1
      | inr e3 ↦ elim (named word (codes "below") guards.Below name _ e3) [
        | inl p ↦ p.0 ∙ ap guard_word p.1
        | inr e4 ↦ elim (named word (codes "is") guards.Is name None e4) [
          | inl p ↦ p.0 ∙ ap guard_word p.1
          | inr e5 ↦ absurd cc
        ]
      ]
    ]
  ]
]

-- the word that names an act
abbrev pub act_word : ActName → Word
act_word acts.Keep = codes "keep"
act_word acts.Text = codes "text"
act_word acts.Num = codes "num"
act_word acts.Add = codes "add"
act_word acts.Clear = codes "clear"

act_named : (word : Word) (name : ActName) → act_name word ≡ Some name → word ≡ act_word name
act_named word name e = elim (named word (codes "keep") acts.Keep name _ e) [
  | inl p ↦ p.0 ∙ ap act_word p.1
  | inr e1 ↦ elim (named word (codes "text") acts.Text name _ e1) [
    | inl p ↦ p.0 ∙ ap act_word p.1
    | inr e2 ↦ elim (named word (codes "num") acts.Num name _ e2) [
      | inl p ↦ p.0 ∙ ap act_word p.1
      | inr e3 ↦ elim (named word (codes "add") acts.Add name _ e3) [
        | inl p ↦ p.0 ∙ ap act_word p.1
        | inr e4 ↦ elim (named word (codes "clear") acts.Clear name None e4) [
          | inl p ↦ p.0 ∙ ap act_word p.1
          | inr e5 ↦ absurd cc
        ]
      ]
    ]
  ]
]

-- ---- guards and acts

-- a name, and then one word
pair_took : {X Y : Type 0} (P : Word → X → Type 0) (name : Word) (make : X → Y) (Says : List Word → Y → Type 0) (words : List Word) (x : X) (rest : List Word)
    → ((front : List Word) → IsPair front name (λ word. P word x) → Says front (make x)) → Took (IsOne P) words x rest
    → Took (λ front y. Says (name ∷ front) y) words (make x) rest
pair_took P name make Says words x rest says took = record {
  front = took.front;
  says = says (name ∷ took.front) (took.says.0, ap (λ (ws : List Word). name ∷ ws) took.says.1, took.says.2);
  split = took.split;
}

guard_of-found : (name : GuardName) (left : WordsLeft) (guard : Guard) (after : WordsLeft) → guard_of name left ≡ Ok (guard, after)
    → Took (λ front g. IsGuard (guard_word name ∷ front) g) left.words guard after.words
unfolding guard_of
guard_of-found guards.Always left guard after e =
    let same : (Always, left) ≡ (guard, after) = cc in
    subst (λ (p : Guard × WordsLeft). Took (λ front g. IsGuard (codes "always" ∷ front) g) left.words p.0 p.1.words) same (record { front = []; says = refl; split = refl })
guard_of-found guards.Empty left guard after e =
    let same : (IsEmpty, left) ≡ (guard, after) = cc in
    subst (λ (p : Guard × WordsLeft). Took (λ front g. IsGuard (codes "empty" ∷ front) g) left.words p.0 p.1.words) same (record { front = []; says = refl; split = refl })
guard_of-found guards.Version left guard after e =
    let v = bind_ok (version_at left) _ (guard, after) e in
    let same : (VersionIs v.0.0, v.0.1) ≡ (guard, after) = cc (v.2) in
    subst (λ (p : Guard × WordsLeft). Took (λ front g. IsGuard (codes "version" ∷ front) g) left.words p.0 p.1.words) same
    (pair_took (λ word n. u64_of word ≡ Some n) (codes "version") (λ n. VersionIs n) IsGuard left.words v.0.0 v.0.1.words (λ front says. says) (version_found left v.0.0 v.0.1 v.1))
guard_of-found guards.Below left guard after e =
    let v = bind_ok (number_at left) _ (guard, after) e in
    let same : (NumberBelow v.0.0, v.0.1) ≡ (guard, after) = cc (v.2) in
    subst (λ (p : Guard × WordsLeft). Took (λ front g. IsGuard (codes "below" ∷ front) g) left.words p.0 p.1.words) same
    (pair_took (λ word n. i64_of word ≡ Some n) (codes "below") (λ n. NumberBelow n) IsGuard left.words v.0.0 v.0.1.words (λ front says. says) (number_found left v.0.0 v.0.1 v.1))
guard_of-found guards.Is left guard after e =
    let v = bind_ok (text_at left) _ (guard, after) e in
    let same : (TextIs v.0.0, v.0.1) ≡ (guard, after) = cc (v.2) in
    subst (λ (p : Guard × WordsLeft). Took (λ front g. IsGuard (codes "is" ∷ front) g) left.words p.0 p.1.words) same
    (pair_took (λ word bs. IsTextWord bs word) (codes "is") (λ bs. TextIs bs) IsGuard left.words v.0.0 v.0.1.words (λ front says. says) (text_found left v.0.0 v.0.1 v.1))

pub guard_found : (left : WordsLeft) (guard : Guard) (after : WordsLeft) → guard_at left ≡ Ok (guard, after) → Took IsGuard left.words guard after.words
unfolding guard_at
guard_found left guard after e =
    let w = bind_ok (word_at left) _ (guard, after) e in
    let n = bind_ok (ok_or (guard_name w.0.0) (refusal_at why.UnknownWord left)) _ (guard, after) w.2 in
    let took = guard_of-found n.0 w.0.1 guard after n.2 in
    let split : left.words ≡ w.0.0 ∷ w.0.1.words = word_took left.at left.words w.0.0 w.0.1 w.1 in
    let name : w.0.0 ≡ guard_word n.0 = guard_named w.0.0 n.0 (ok_or_ok _ _ _ n.1) in
    record {
      front = guard_word n.0 ∷ took.front;
      says = took.says;
      split = split ∙ (λ i. name i ∷ took.split i);
    }

pub guard_again : (words : List Word) (guard : Guard) → IsGuard words guard → Again guard_at words guard
unfolding guard_at guard_of
guard_again words Always is at rest = (at + 1, ap (λ (ws : List Word). guard_at (from at (ws ++ rest))) is)
guard_again words IsEmpty is at rest = (at + 1, ap (λ (ws : List Word). guard_at (from at (ws ++ rest))) is)
guard_again words (VersionIs version) is at rest =
    let a = version_again is.0 version is.2 (at + 1) rest in
    (a.0, ap (λ (ws : List Word). guard_at (from at (ws ++ rest))) is.1 ∙ ap (λ (r : Read ℕ). r >>= λ x. done (VersionIs x.0, x.1)) a.1)
guard_again words (NumberBelow number) is at rest =
    let a = number_again is.0 number is.2 (at + 1) rest in
    (a.0, ap (λ (ws : List Word). guard_at (from at (ws ++ rest))) is.1 ∙ ap (λ (r : Read ℤ). r >>= λ x. done (NumberBelow x.0, x.1)) a.1)
guard_again words (TextIs bytes) is at rest =
    let a = text_again is.0 bytes is.2 (at + 1) rest in
    (a.0, ap (λ (ws : List Word). guard_at (from at (ws ++ rest))) is.1 ∙ ap (λ (r : Read (List ℕ)). r >>= λ x. done (TextIs x.0, x.1)) a.1)

act_of-found : (name : ActName) (left : WordsLeft) (act : Act) (after : WordsLeft) → act_of name left ≡ Ok (act, after)
    → Took (λ front a. IsAct (act_word name ∷ front) a) left.words act after.words
unfolding act_of
act_of-found acts.Keep left act after e =
    let same : (Keep, left) ≡ (act, after) = cc in
    subst (λ (p : Act × WordsLeft). Took (λ front a. IsAct (codes "keep" ∷ front) a) left.words p.0 p.1.words) same (record { front = []; says = refl; split = refl })
act_of-found acts.Clear left act after e =
    let same : (Clear, left) ≡ (act, after) = cc in
    subst (λ (p : Act × WordsLeft). Took (λ front a. IsAct (codes "clear" ∷ front) a) left.words p.0 p.1.words) same (record { front = []; says = refl; split = refl })
act_of-found acts.Text left act after e =
    let v = bind_ok (text_at left) _ (act, after) e in
    let same : (PutText v.0.0, v.0.1) ≡ (act, after) = cc (v.2) in
    subst (λ (p : Act × WordsLeft). Took (λ front a. IsAct (codes "text" ∷ front) a) left.words p.0 p.1.words) same
    (pair_took (λ word bs. IsTextWord bs word) (codes "text") (λ bs. PutText bs) IsAct left.words v.0.0 v.0.1.words (λ front says. says) (text_found left v.0.0 v.0.1 v.1))
act_of-found acts.Num left act after e =
    let v = bind_ok (number_at left) _ (act, after) e in
    let same : (PutNumber v.0.0, v.0.1) ≡ (act, after) = cc (v.2) in
    subst (λ (p : Act × WordsLeft). Took (λ front a. IsAct (codes "num" ∷ front) a) left.words p.0 p.1.words) same
    (pair_took (λ word n. i64_of word ≡ Some n) (codes "num") (λ n. PutNumber n) IsAct left.words v.0.0 v.0.1.words (λ front says. says) (number_found left v.0.0 v.0.1 v.1))
act_of-found acts.Add left act after e =
    let v = bind_ok (number_at left) _ (act, after) e in
    let same : (Add v.0.0, v.0.1) ≡ (act, after) = cc (v.2) in
    subst (λ (p : Act × WordsLeft). Took (λ front a. IsAct (codes "add" ∷ front) a) left.words p.0 p.1.words) same
    (pair_took (λ word n. i64_of word ≡ Some n) (codes "add") (λ n. Add n) IsAct left.words v.0.0 v.0.1.words (λ front says. says) (number_found left v.0.0 v.0.1 v.1))

pub act_found : (left : WordsLeft) (act : Act) (after : WordsLeft) → act_at left ≡ Ok (act, after) → Took IsAct left.words act after.words
unfolding act_at
act_found left act after e =
    let w = bind_ok (word_at left) _ (act, after) e in
    let n = bind_ok (ok_or (act_name w.0.0) (refusal_at why.UnknownWord left)) _ (act, after) w.2 in
    let took = act_of-found n.0 w.0.1 act after n.2 in
    let split : left.words ≡ w.0.0 ∷ w.0.1.words = word_took left.at left.words w.0.0 w.0.1 w.1 in
    let name : w.0.0 ≡ act_word n.0 = act_named w.0.0 n.0 (ok_or_ok _ _ _ n.1) in
    record {
      front = act_word n.0 ∷ took.front;
      says = took.says;
      split = split ∙ (λ i. name i ∷ took.split i);
    }

pub act_again : (words : List Word) (act : Act) → IsAct words act → Again act_at words act
unfolding act_at act_of
act_again words Keep is at rest = (at + 1, ap (λ (ws : List Word). act_at (from at (ws ++ rest))) is)
act_again words Clear is at rest = (at + 1, ap (λ (ws : List Word). act_at (from at (ws ++ rest))) is)
act_again words (PutText bytes) is at rest =
    let a = text_again is.0 bytes is.2 (at + 1) rest in
    (a.0, ap (λ (ws : List Word). act_at (from at (ws ++ rest))) is.1 ∙ ap (λ (r : Read (List ℕ)). r >>= λ x. done (PutText x.0, x.1)) a.1)
act_again words (PutNumber number) is at rest =
    let a = number_again is.0 number is.2 (at + 1) rest in
    (a.0, ap (λ (ws : List Word). act_at (from at (ws ++ rest))) is.1 ∙ ap (λ (r : Read ℤ). r >>= λ x. done (PutNumber x.0, x.1)) a.1)
act_again words (Add number) is at rest =
    let a = number_again is.0 number is.2 (at + 1) rest in
    (a.0, ap (λ (ws : List Word). act_at (from at (ws ++ rest))) is.1 ∙ ap (λ (r : Read ℤ). r >>= λ x. done (Add x.0, x.1)) a.1)

-- ---- clauses

pub clause_found : (left : WordsLeft) (clause : Clause) (after : WordsLeft) → clause_at left ≡ Ok (clause, after) → Took IsClause left.words clause after.words
unfolding clause_at
clause_found left clause after e =
    let g = bind_ok (guard_at left) _ (clause, after) e in
    let a = bind_ok (act_at g.0.1) _ (clause, after) g.2 in
    let guard = guard_found left g.0.0 g.0.1 g.1 in
    let act = act_found g.0.1 a.0.0 a.0.1 a.1 in
    let both : Clause × WordsLeft = (record { guard = g.0.0; act = a.0.0 }, a.0.1) in
    let same : both ≡ (clause, after) = cc (a.2) in
    subst (λ (p : Clause × WordsLeft). Took IsClause left.words p.0 p.1.words) same (record {
      front = guard.front ++ act.front;
      says = (guard.front, act.front, guard.says, act.says, refl);
      split = guard.split ∙ ap (λ (ws : List Word). guard.front ++ ws) act.split ∙ sym (append_assoc guard.front act.front a.0.1.words);
    })

pub clause_again : (words : List Word) (clause : Clause) → IsClause words clause → Again clause_at words clause
unfolding clause_at
clause_again words clause is at rest =
    let guard : List Word = is.0 in
    let act : List Word = is.1 in
    let g = guard_again guard clause.guard is.2 at (act ++ rest) in
    let a = act_again act clause.act is.3 g.0 rest in (
      a.0,
      ap (λ (ws : List Word). clause_at (from at (ws ++ rest))) is.4 ∙ ap (λ (ws : List Word). clause_at (from at ws)) (append_assoc guard act rest)
          ∙ rw (g.1, a.1) refl,
    )

-- the two answers are not one
apart : (b c : Bool) (x y : WordsLeft) → (b ≡ c → ⊥) → done {A = Bool × WordsLeft} (b, x) ≡ done {A = Bool × WordsLeft} (c, y) → ⊥
apart b c x y differ e =
    let same : (b, x) ≡ (c, y) = cc in
    differ (ap (λ (p : Bool × WordsLeft). p.0) same)

semicolon_true : (at : ℕ) (words : List Word) (after : WordsLeft) → semicolon_from at words ≡ Ok (true, after) → words ≡ codes ";" ∷ after.words
semicolon_true at [] after e = absurd (apart false true (from at []) after (λ same. cc) e)
semicolon_true at (word ∷ words) after e = elim (chosen (bytes_eq word (codes ";")) (Ok (true, from (at + 1) words)) (Err (record { why = why.UnknownWord; word = at })) (Ok (true, after)) e) [
  | inl p ↦
      let one : Bool × WordsLeft = (true, from (at + 1) words) in
      let two : Bool × WordsLeft = (true, after) in
      let same : one ≡ two = cc (p.1) in
      let is : word ≡ codes ";" = (bytes_eq-Decides word (codes ";")).0 p.0 in
      λ i. is i ∷ (same i).1.words
  | inr p ↦ absurd (cc (p.1))
]

semicolon_false : (at : ℕ) (words : List Word) (after : WordsLeft) → semicolon_from at words ≡ Ok (false, after) → words ≡ []
semicolon_false at [] after e = refl
semicolon_false at (word ∷ words) after e = elim (chosen (bytes_eq word (codes ";")) (Ok (true, from (at + 1) words)) (Err (record { why = why.UnknownWord; word = at })) (Ok (false, after)) e) [
  | inl p ↦ absurd (apart true false (from (at + 1) words) after (λ same. cc) p.1)
  | inr p ↦ absurd (cc (p.1))
]

-- a clause, a semicolon, and more clauses
IsClauses-more : (words first rest : List Word) (clause : Clause) (clauses : List Clause) → IsClause first clause → IsClauses rest clauses → words ≡ first ++ codes ";" ∷ rest → IsClauses words (clause ∷ clauses)
IsClauses-more words first rest clause [] says others split = absurd others
IsClauses-more words first rest clause (next ∷ clauses) says others split = (first, rest, says, others, split)

pub clauses_found : (most : ℕ) (left : WordsLeft) (clauses : List Clause) → clauses_at most left ≡ Ok clauses → IsClauses left.words clauses × (length clauses ≤ most)
unfolding clauses_at
clauses_found zero left clauses e =
    let w = bind_ok (word_at left) _ clauses e in
    absurd (cc (w.2))
clauses_found (suc most) left clauses e =
    let c = bind_ok (clause_at left) _ clauses e in
    let m = bind_ok (semicolon_at c.0.1) _ clauses c.2 in
    let took = clause_found left c.0.0 c.0.1 c.1 in
    elim (chosen m.0.0 (clauses_at most m.0.1 >>= λ cs. Ok (c.0.0 ∷ cs)) (Ok (c.0.0 ∷ [])) (Ok clauses) m.2) [
      | inl p ↦
          let r = bind_ok (clauses_at most m.0.1) _ clauses p.1 in
          let others = clauses_found most m.0.1 r.0 r.1 in
          let same : c.0.0 ∷ r.0 ≡ clauses = cc (r.2) in
          let again : semicolon_at c.0.1 ≡ Ok (true, m.0.1) = m.1 ∙ ap (λ b. done {A = Bool × WordsLeft} (b, m.0.1)) p.0 in
          let split : c.0.1.words ≡ codes ";" ∷ m.0.1.words = semicolon_true c.0.1.at c.0.1.words m.0.1 again in
          subst (λ (cs : List Clause). IsClauses left.words cs × (length cs ≤ suc most)) same
          (IsClauses-more left.words took.front m.0.1.words c.0.0 r.0 took.says others.0 (took.split ∙ ap (λ (ws : List Word). took.front ++ ws) split), omega (arith, others.1))
      | inr p ↦
          let same : c.0.0 ∷ [] ≡ clauses = cc (p.1) in
          let again : semicolon_at c.0.1 ≡ Ok (false, m.0.1) = m.1 ∙ ap (λ b. done {A = Bool × WordsLeft} (b, m.0.1)) p.0 in
          let split : c.0.1.words ≡ [] = semicolon_false c.0.1.at c.0.1.words m.0.1 again in
          let whole : left.words ≡ took.front = took.split ∙ ap (λ (ws : List Word). took.front ++ ws) split ∙ append-nil took.front in
          subst (λ (cs : List Clause). IsClauses left.words cs × (length cs ≤ suc most)) same (subst (λ (ws : List Word). IsClause ws c.0.0) (sym whole) took.says, omega arith)
    ]

pub clauses_again : (most at : ℕ) (words : List Word) (clauses : List Clause) → IsClauses words clauses → length clauses ≤ most → clauses_at most (from at words) ≡ Ok clauses
unfolding clauses_at
clauses_again most at words [] is few = absurd is
clauses_again zero at words (clause ∷ clauses) is few = absurd (omega arith)
clauses_again (suc most) at words (clause ∷ []) is few =
    let c = clause_again words clause is at [] in
    let read : clause_at (from at words) ≡ Ok (clause, from c.0 []) = ap (λ (ws : List Word). clause_at (from at ws)) (sym (append-nil words)) ∙ c.1 in
    rw read refl
clauses_again (suc most) at words (clause ∷ next ∷ clauses) is few =
    let first : List Word = is.0 in
    let rest : List Word = is.1 in
    let c = clause_again first clause is.2 at (codes ";" ∷ rest) in
    let read : clause_at (from at words) ≡ Ok (clause, from c.0 (codes ";" ∷ rest)) = ap (λ (ws : List Word). clause_at (from at ws)) is.4 ∙ c.1 in
    let others : clauses_at most (from (c.0 + 1) rest) ≡ Ok (next ∷ clauses) = clauses_again most (c.0 + 1) rest (next ∷ clauses) is.3 (omega arith) in
    rw (read, others) refl

-- a program is read exactly where the words are its words
pub program_found : (words : List Word) (program : List Clause) → program_at (all_of words) ≡ Ok program → IsProgram words program
program_found words program e = clauses_found MOST_CLAUSES (all_of words) program e

pub program_again : (words : List Word) (program : List Clause) → IsProgram words program → program_at (all_of words) ≡ Ok program
program_again words program is = clauses_again MOST_CLAUSES 0 words program is.0 is.1

-- ---- states

body_of-found : (word : Word) (left : WordsLeft) (at : ℕ) (body : Body) (after : WordsLeft) → body_of word left at ≡ Ok (body, after)
    → Took (λ front b. IsBody (word ∷ front) b) left.words body after.words
unfolding body_of
body_of-found word left at body after e =
    elim (chosen (bytes_eq word (codes "num")) (number_at left >>= λ x. done {A = Body × WordsLeft} (Number x.0, x.1)) _ (done {A = Body × WordsLeft} (body, after)) e) [
      | inl p ↦
          let v = bind_ok (number_at left) _ (body, after) p.1 in
          let same : (Number v.0.0, v.0.1) ≡ (body, after) = cc (v.2) in
          let is : word ≡ codes "num" = (bytes_eq-Decides word (codes "num")).0 p.0 in
          subst (λ (w : Word). Took (λ front b. IsBody (w ∷ front) b) left.words body after.words) (sym is)
          (subst (λ (p : Body × WordsLeft). Took (λ front b. IsBody (codes "num" ∷ front) b) left.words p.0 p.1.words) same
          (pair_took (λ w n. i64_of w ≡ Some n) (codes "num") (λ n. Number n) IsBody left.words v.0.0 v.0.1.words (λ front says. says) (number_found left v.0.0 v.0.1 v.1)))
      | inr q ↦ elim (chosen (bytes_eq word (codes "text")) (text_at left >>= λ x. done {A = Body × WordsLeft} (Text x.0, x.1)) _ (done {A = Body × WordsLeft} (body, after)) q.1) [
        | inl p ↦
            let v = bind_ok (text_at left) _ (body, after) p.1 in
            let same : (Text v.0.0, v.0.1) ≡ (body, after) = cc (v.2) in
            let is : word ≡ codes "text" = (bytes_eq-Decides word (codes "text")).0 p.0 in
            subst (λ (w : Word). Took (λ front b. IsBody (w ∷ front) b) left.words body after.words) (sym is)
            (subst (λ (p : Body × WordsLeft). Took (λ front b. IsBody (codes "text" ∷ front) b) left.words p.0 p.1.words) same
            (pair_took (λ w bs. IsTextWord bs w) (codes "text") (λ bs. Text bs) IsBody left.words v.0.0 v.0.1.words (λ front says. says) (text_found left v.0.0 v.0.1 v.1)))
        | inr r ↦ absurd (cc (r.1))
      ]
    ]

pub body_found : (left : WordsLeft) (body : Body) (after : WordsLeft) → body_at left ≡ Ok (body, after) → Took IsBody left.words body after.words
unfolding body_at
body_found left body after e =
    let w = bind_ok (word_at left) _ (body, after) e in
    let took = body_of-found w.0.0 w.0.1 left.at body after w.2 in
    let split : left.words ≡ w.0.0 ∷ w.0.1.words = word_took left.at left.words w.0.0 w.0.1 w.1 in
    record {
      front = w.0.0 ∷ took.front;
      says = took.says;
      split = split ∙ ap (λ (ws : List Word). w.0.0 ∷ ws) took.split;
    }

pub body_again : (words : List Word) (body : Body) → IsBody words body → Again body_at words body
unfolding body_at body_of
body_again words (Number number) is at rest =
    let a = number_again is.0 number is.2 (at + 1) rest in
    (a.0, ap (λ (ws : List Word). body_at (from at (ws ++ rest))) is.1 ∙ ap (λ (r : Read ℤ). r >>= λ x. done {A = Body × WordsLeft} (Number x.0, x.1)) a.1)
body_again words (Text bytes) is at rest =
    let a = text_again is.0 bytes is.2 (at + 1) rest in
    (a.0, ap (λ (ws : List Word). body_at (from at (ws ++ rest))) is.1 ∙ ap (λ (r : Read (List ℕ)). r >>= λ x. done {A = Body × WordsLeft} (Text x.0, x.1)) a.1)

after_v-is : (word digits : Word) → after_v word ≡ Some digits → word ≡ codes "v" ++ digits
after_v-is [] digits e = absurd cc
after_v-is (byte ∷ bytes) digits e = elim (chosen (byte == 118) (Some bytes) None (Some digits) e) [
  | inl p ↦
      let same : bytes ≡ digits = cc (p.1) in
      let v : byte ≡ 118 = eqb-true byte 118 p.0 in
      λ i. v i ∷ same i
  | inr p ↦ absurd (cc (p.1))
]

held_found : (word : Word) (left : WordsLeft) (at : ℕ) (state : State) (after : WordsLeft) → held_at word left at ≡ Ok (state, after)
    → Took (λ front s. IsState (word ∷ front) s) left.words state after.words
unfolding held_at
held_found word left at state after e =
    let d = bind_ok (ok_or (after_v word) (record { why = why.UnknownWord; word = at })) _ (state, after) e in
    let v = bind_ok (ok_or (u64_of d.0) (record { why = why.BadNumber; word = at })) _ (state, after) d.2 in
    let b = bind_ok (body_at left) _ (state, after) v.2 in
    let body = body_found left b.0.0 b.0.1 b.1 in
    let same : (Held v.0 b.0.0, b.0.1) ≡ (state, after) = cc (b.2) in
    let is : word ≡ codes "v" ++ d.0 = after_v-is word d.0 (ok_or_ok _ _ _ d.1) in
    subst (λ (p : State × WordsLeft). Took (λ front s. IsState (word ∷ front) s) left.words p.0 p.1.words) same (record {
      front = body.front;
      says = (d.0, body.front, ok_or_ok _ _ _ v.1, body.says, ap (λ (w : Word). w ∷ body.front) is);
      split = body.split;
    })

pub state_found : (left : WordsLeft) (state : State) (after : WordsLeft) → state_at left ≡ Ok (state, after) → Took IsState left.words state after.words
unfolding state_at
state_found left state after e =
    let w = bind_ok (word_at left) _ (state, after) e in
    let split : left.words ≡ w.0.0 ∷ w.0.1.words = word_took left.at left.words w.0.0 w.0.1 w.1 in
    elim (chosen (bytes_eq w.0.0 (codes "empty")) (done {A = State × WordsLeft} (Empty, w.0.1)) (held_at w.0.0 w.0.1 left.at) (done {A = State × WordsLeft} (state, after)) w.2) [
      | inl p ↦
          let same : (Empty, w.0.1) ≡ (state, after) = cc (p.1) in
          let is : w.0.0 ≡ codes "empty" = (bytes_eq-Decides w.0.0 (codes "empty")).0 p.0 in
          subst (λ (q : State × WordsLeft). Took IsState left.words q.0 q.1.words) same
          (record { front = w.0.0 ∷ []; says = ap (λ (x : Word). x ∷ []) is; split = split })
      | inr p ↦
          let took = held_found w.0.0 w.0.1 left.at state after p.1 in
          record { front = w.0.0 ∷ took.front; says = took.says; split = split ∙ ap (λ (ws : List Word). w.0.0 ∷ ws) took.split }
    ]

pub state_again : (words : List Word) (state : State) → IsState words state → Again state_at words state
unfolding state_at held_at
state_again words Empty is at rest = (at + 1, ap (λ (ws : List Word). state_at (from at (ws ++ rest))) is)
state_again words (Held version body) is at rest =
    let digits : List ℕ = is.0 in
    let b = body_again is.1 body is.3 (at + 1) rest in
    (b.0, ap (λ (ws : List Word). state_at (from at (ws ++ rest))) is.4 ∙ rw (is.2, b.1) refl)

pub ends_at : (at : ℕ) (words none : List Word) → end_from at words ≡ Ok none → words ≡ []
ends_at at [] none e = refl
ends_at at (word ∷ words) none e = absurd cc

pub whole_state-found : (words : List Word) (state : State) → whole_state (all_of words) ≡ Ok state → IsState words state
unfolding whole_state
whole_state-found words state e =
    let s = bind_ok (state_at (all_of words)) _ state e in
    let end = bind_ok (end_from s.0.1.at s.0.1.words) _ state s.2 in
    let took = state_found (all_of words) s.0.0 s.0.1 s.1 in
    let whole : words ≡ took.front = took.split ∙ ap (λ (ws : List Word). took.front ++ ws) (ends_at s.0.1.at s.0.1.words end.0 end.1) ∙ append-nil took.front in
    let same : s.0.0 ≡ state = cc (end.2) in
    subst (λ (x : State). IsState words x) same (subst (λ (ws : List Word). IsState ws s.0.0) (sym whole) took.says)

pub whole_state-again : (words : List Word) (state : State) → IsState words state → whole_state (all_of words) ≡ Ok state
unfolding whole_state
whole_state-again words state is =
    let s = state_again words state is 0 [] in
    let read : state_at (all_of words) ≡ Ok (state, from s.0 []) = ap (λ (ws : List Word). state_at (from 0 ws)) (sym (append-nil words)) ∙ s.1 in
    rw read refl

-- ---- what a call that reads to the end says

memory_or_not : (reason : Why) → (reason ≡ why.NoMemory) ⊎ (reason ≢ why.NoMemory)
memory_or_not why.NoWord = inr (λ e. cc)
memory_or_not why.UnknownWord = inr (λ e. cc)
memory_or_not why.BadNumber = inr (λ e. cc)
memory_or_not why.TooLong = inr (λ e. cc)
memory_or_not why.TooManyClauses = inr (λ e. cc)
memory_or_not why.NoMemory = inl refl

-- what can be read is read, or memory ran out
pub only_from_gives : {X : Type 0} (result read : Result X TextRefusal) (x : X) → GivesInMemory result read → read ≡ Ok x → MatchResult result (λ y. y ≡ x) (λ refusal. refusal.why ≡ why.NoMemory)
only_from_gives (Ok y) read x gives is = cc
only_from_gives (Err refusal) read x gives is = elim (memory_or_not refusal.why) [
  | inl memory ↦ memory
  | inr other ↦ let none : Ok x ≡ Err refusal = sym is ∙ gives other in absurd cc
]

-- what is read has what each value that can be read has
pub found_from_gives : {X : Type 0} (result read : Result X TextRefusal) (P : X → Type 0) → GivesInMemory result read → ((x : X) → read ≡ Ok x → P x) → IfOk result P
found_from_gives (Ok x) read P gives has = has x gives
found_from_gives (Err refusal) read P gives has = tt
