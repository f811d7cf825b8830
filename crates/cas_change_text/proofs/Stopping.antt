-- Where readers of words stop: a refusal depends on no word behind the one that is refused, and the words before it can be
-- gone on with.
use Rattle.std.proofs.Common.{◌≡◌, ℕ, ◌+◌, List, [], ◌∷◌, ◌++◌, length, Result, Ok, Err, refl, sym, ap, ◌∙◌, append_assoc, append-nil, length-append, arith, inl, inr}
use Rattle.std.specs.Prelude.{◌⊎◌, ⊤}
use Rattle.cas_change_text.specs.declared.refusal.Why.TheVariants as why
use Rattle.cas_change_text.specs.declared.refusal.TextRefusal.{TextRefusal}
use Rattle.cas_change_text.specs.Misfit.{BreaksOff, IsFirstMisfit}
use Rattle.cas_change_text.specs.Reading.{◌>>=◌, Read, word_at, end_from, end_at}
use Rattle.cas_change_text.specs.Words.{Word, WordsLeft, all_of}
use Rattle.cas_change_text.proofs.BothWays.{bind_ok, from}

-- the refusal of one of two steps
pub bind_err : {A B : Type 0} (r : Result A TextRefusal) (f : A → Result B TextRefusal) (refusal : TextRefusal) → (r >>= f) ≡ Err refusal
    → (r ≡ Err refusal) ⊎ ((x : A) × (r ≡ Ok x) × (f x ≡ Err refusal))
bind_err (Ok x) f refusal e = inr (x, refl, e)
bind_err (Err other) f refusal e = let same : other ≡ refusal = cc in inl (ap Err same)

no_words : (a b : List Word) → a ++ b ≡ [] → a ≡ []
no_words [] b e = refl
no_words (word ∷ a) b e = absurd cc

-- ---- readers of a front

-- what was read is a front of the words, and is read so whatever follows
pub record ReadsFront {X : Type 0} (read : WordsLeft → Read X) (at : ℕ) (words : List Word) (x : X) (left : WordsLeft) : Type 0 where
  pub front : List Word
  pub split : words ≡ front ++ left.words
  pub place : left.at ≡ at + length front
  pub again : (rest : List Word) → read (from at (front ++ rest)) ≡ Ok (x, from left.at rest)

-- the refusal of the word that follows comes whatever stands behind it
abbrev pub Repeats : {Z : Type 0} → (WordsLeft → Result Z TextRefusal) → ℕ → List Word → List Word → TextRefusal → Type 0
Repeats read at before [] refusal = ⊤
Repeats read at before (word ∷ rest) refusal = (other : List Word) → read (from at (before ++ word ∷ other)) ≡ Err refusal

-- a refusal, and how the words before it can be gone on with
pub record Stops {X : Type 0} (read : WordsLeft → Read X) (at : ℕ) (words : List Word) (refusal : TextRefusal) : Type 0 where
  pub before : List Word
  pub rest : List Word
  pub split : words ≡ before ++ rest
  pub place : refusal.word ≡ at + length before
  pub again : Repeats read at before rest refusal
  pub more : List Word
  pub x : X
  pub next : ℕ
  pub on : (later : List Word) → read (from at (before ++ (more ++ later))) ≡ Ok (x, from next later)

pub record IsReader {X : Type 0} (read : WordsLeft → Read X) : Type 0 where
  pub goes : (at : ℕ) (words : List Word) (x : X) (left : WordsLeft) → read (from at words) ≡ Ok (x, left) → ReadsFront read at words x left
  pub stops : (at : ℕ) (words : List Word) (refusal : TextRefusal) → read (from at words) ≡ Err refusal → Stops read at words refusal

-- some words are read, whatever follows
pub record Starts {X : Type 0} (read : WordsLeft → Read X) (at : ℕ) : Type 0 where
  pub more : List Word
  pub x : X
  pub next : ℕ
  pub on : (later : List Word) → read (from at (more ++ later)) ≡ Ok (x, from next later)

pub starts : {X : Type 0} (read : WordsLeft → Read X) → IsReader read → (at : ℕ) → Starts read at
starts {X} read is at = by (read (from at [])) refl
  where
    by : (r : Read X) → read (from at []) ≡ r → Starts read at
    by (Ok y) e =
        let g = is.goes at [] y.0 y.1 e in
        let none : g.front ≡ [] = no_words g.front y.1.words (sym g.split) in
        record {
          more = [];
          x = y.0;
          next = y.1.at;
          on = λ later. ap (λ (ws : List Word). read (from at (ws ++ later))) (sym none) ∙ g.again later;
        }
    by (Err refusal) e =
        let s = is.stops at [] refusal e in
        let none : s.before ≡ [] = no_words s.before s.rest (sym s.split) in
        record {
          more = s.more;
          x = s.x;
          next = s.next;
          on = λ later. ap (λ (ws : List Word). read (from at (ws ++ (s.more ++ later)))) (sym none) ∙ s.on later;
        }

-- a reader that equals another
pub same_reader : {X : Type 0} (read other : WordsLeft → Read X) → ((left : WordsLeft) → other left ≡ read left) → IsReader read → IsReader other
same_reader {X} read other same is = record {
  goes = λ at words x left e.
      let g = is.goes at words x left (sym (same (from at words)) ∙ e) in
      record { front = g.front; split = g.split; place = g.place; again = λ rest. same (from at (g.front ++ rest)) ∙ g.again rest };
  stops = λ at words refusal e.
      let s = is.stops at words refusal (sym (same (from at words)) ∙ e) in
      record {
        before = s.before;
        rest = s.rest;
        split = s.split;
        place = s.place;
        again = repeats at s.before s.rest refusal s.again;
        more = s.more;
        x = s.x;
        next = s.next;
        on = λ later. same (from at (s.before ++ (s.more ++ later))) ∙ s.on later;
      };
}
  where
    repeats : (at : ℕ) (before rest : List Word) (refusal : TextRefusal) → Repeats read at before rest refusal → Repeats other at before rest refusal
    repeats at before [] refusal again = tt
    repeats at before (word ∷ rest) refusal again = λ more. same (from at (before ++ word ∷ more)) ∙ again more

-- ---- one word

-- this was read, and these words follow
abbrev pub read_as : {X : Type 0} → WordsLeft → X → Read X
read_as left x = Ok (x, left)

-- what the next word says, which stands at this place
abbrev pub one_word : {X : Type 0} → (ℕ → Word → Result X TextRefusal) → WordsLeft → Read X
one_word says left = word_at left >>= λ word. (says left.at word.0 >>= read_as word.1)

-- a refusal of a word is at its place, and some word says something
pub one_word_reader : {X : Type 0} (says : ℕ → Word → Result X TextRefusal) → ((at : ℕ) (word : Word) (refusal : TextRefusal) → says at word ≡ Err refusal → refusal.word ≡ at)
    → (good : Word) (x : X) → ((at : ℕ) → says at good ≡ Ok x) → IsReader (one_word says)
one_word_reader {X} says place good some is = record { goes = goes_on; stops = stops_at }
  where
    goes_word : (at : ℕ) (word : Word) (words : List Word) (x : X) (left : WordsLeft) (r : Result X TextRefusal) → says at word ≡ r → (r >>= read_as (from (at + 1) words)) ≡ Ok (x, left)
        → ReadsFront (one_word says) at (word ∷ words) x left
    goes_word at word words x left (Err refusal) e is = absurd cc
    goes_word at word words x left (Ok y) e is =
        let same : (y, from (at + 1) words) ≡ (x, left) = cc in
        record {
          front = word ∷ [];
          split = ap (λ (p : X × WordsLeft). word ∷ p.1.words) same;
          place = ap (λ (p : X × WordsLeft). p.1.at) (sym same);
          again = λ rest. rw e (ap (λ (p : X × WordsLeft). Ok (p.0, from p.1.at rest)) same);
        }

    goes_on : (at : ℕ) (words : List Word) (x : X) (left : WordsLeft) → one_word says (from at words) ≡ Ok (x, left) → ReadsFront (one_word says) at words x left
    goes_on at [] x left e = absurd cc
    goes_on at (word ∷ words) x left e = goes_word at word words x left (says at word) refl e

    stops_word : (at : ℕ) (word : Word) (words : List Word) (refusal : TextRefusal) (r : Result X TextRefusal) → says at word ≡ r → (r >>= read_as (from (at + 1) words)) ≡ Err refusal
        → Stops (one_word says) at (word ∷ words) refusal
    stops_word at word words refusal (Ok y) e is = absurd cc
    stops_word at word words refusal (Err other) e stops =
        let same : other ≡ refusal = cc in
        record {
          before = [];
          rest = word ∷ words;
          split = refl;
          place = place at word refusal (e ∙ ap Err same) ∙ omega arith;
          again = λ more. rw e (ap Err same);
          more = good ∷ [];
          x = some;
          next = at + 1;
          on = λ later. rw (is at) refl;
        }

    stops_at : (at : ℕ) (words : List Word) (refusal : TextRefusal) → one_word says (from at words) ≡ Err refusal → Stops (one_word says) at words refusal
    stops_at at [] refusal e =
        let same : record { why = why.NoWord; word = at } ≡ refusal = cc in
        record {
          before = [];
          rest = [];
          split = refl;
          place = ap (λ (r : TextRefusal). r.word) (sym same) ∙ omega arith;
          again = tt;
          more = good ∷ [];
          x = some;
          next = at + 1;
          on = λ later. rw (is at) refl;
        }
    stops_at at (word ∷ words) refusal e = stops_word at word words refusal (says at word) refl e

-- ---- one reader after another
abbrev pub after : {X Y : Type 0} → (WordsLeft → Read X) → (X → WordsLeft → Result Y TextRefusal) → WordsLeft → Result Y TextRefusal
after read then left = read left >>= λ x. then x.0 x.1

-- the second reads what the first leaves
onward : {X Y : Type 0} (read : WordsLeft → Read X) (then : X → WordsLeft → Result Y TextRefusal) (at next : ℕ) (front rest : List Word) (x : X)
    → read (from at (front ++ rest)) ≡ Ok (x, from next rest) → after read then (from at (front ++ rest)) ≡ then x (from next rest)
onward read then at next front rest x e = rw e refl

-- a refusal of the first is one of both
repeats_first : {X Y : Type 0} (read : WordsLeft → Read X) (then : X → WordsLeft → Result Y TextRefusal) (at : ℕ) (before rest : List Word) (refusal : TextRefusal)
    → Repeats read at before rest refusal → Repeats (after read then) at before rest refusal
repeats_first read then at before [] refusal again = tt
repeats_first read then at before (word ∷ rest) refusal again = λ other. rw (again other) refl

-- and so is one of the second, behind what the first reads
repeats_second : {X Y : Type 0} (read : WordsLeft → Read X) (then : X → WordsLeft → Result Y TextRefusal) (at next : ℕ) (front before rest : List Word) (x : X) (refusal : TextRefusal)
    → ((later : List Word) → read (from at (front ++ later)) ≡ Ok (x, from next later)) → Repeats (then x) next before rest refusal → Repeats (after read then) at (front ++ before) rest refusal
repeats_second read then at next front before [] x refusal on again = tt
repeats_second read then at next front before (word ∷ rest) x refusal on again = λ other.
    ap (λ (ws : List Word). after read then (from at ws)) (append_assoc front before (word ∷ other))
    ∙ onward read then at next front (before ++ word ∷ other) x (on (before ++ word ∷ other))
    ∙ again other

pub then_reader : {X Y : Type 0} (read : WordsLeft → Read X) (then : X → WordsLeft → Read Y) → IsReader read → ((x : X) → IsReader (then x)) → IsReader (after read then)
then_reader {X} {Y} read then first second = record { goes = goes_on; stops = stops_at }
  where
    goes_on : (at : ℕ) (words : List Word) (y : Y) (left : WordsLeft) → after read then (from at words) ≡ Ok (y, left) → ReadsFront (after read then) at words y left
    goes_on at words y left e =
        let step = bind_ok (read (from at words)) (λ x. then x.0 x.1) (y, left) e in
        let a = first.goes at words step.0.0 step.0.1 step.1 in
        let b = (second step.0.0).goes step.0.1.at step.0.1.words y left step.2 in
        record {
          front = a.front ++ b.front;
          split = a.split ∙ ap (λ (ws : List Word). a.front ++ ws) b.split ∙ sym (append_assoc a.front b.front left.words);
          place = omega (arith, a.place, b.place, length-append a.front b.front);
          again = λ rest. ap (λ (ws : List Word). after read then (from at ws)) (append_assoc a.front b.front rest)
              ∙ onward read then at step.0.1.at a.front (b.front ++ rest) step.0.0 (a.again (b.front ++ rest))
              ∙ b.again rest;
        }

    stops_at : (at : ℕ) (words : List Word) (refusal : TextRefusal) → after read then (from at words) ≡ Err refusal → Stops (after read then) at words refusal
    stops_at at words refusal e = elim (bind_err (read (from at words)) (λ x. then x.0 x.1) refusal e) [
      | inl stopped ↦
          let s = first.stops at words refusal stopped in
          let t = starts (then s.x) (second s.x) s.next in
          record {
            before = s.before;
            rest = s.rest;
            split = s.split;
            place = s.place;
            again = repeats_first read then at s.before s.rest refusal s.again;
            more = s.more ++ t.more;
            x = t.x;
            next = t.next;
            on = λ later. ap (λ (ws : List Word). after read then (from at (s.before ++ ws))) (append_assoc s.more t.more later)
                ∙ ap (λ (r : Read X). r >>= λ x. then x.0 x.1) (s.on (t.more ++ later))
                ∙ t.on later;
          }
      | inr step ↦
          let a = first.goes at words step.0.0 step.0.1 step.1 in
          let s = (second step.0.0).stops step.0.1.at step.0.1.words refusal step.2 in
          record {
            before = a.front ++ s.before;
            rest = s.rest;
            split = a.split ∙ ap (λ (ws : List Word). a.front ++ ws) s.split ∙ sym (append_assoc a.front s.before s.rest);
            place = omega (arith, a.place, s.place, length-append a.front s.before);
            again = repeats_second read then at step.0.1.at a.front s.before s.rest step.0.0 refusal a.again s.again;
            more = s.more;
            x = s.x;
            next = s.next;
            on = λ later. ap (λ (ws : List Word). after read then (from at ws)) (append_assoc a.front s.before (s.more ++ later))
                ∙ onward read then at step.0.1.at a.front (s.before ++ (s.more ++ later)) step.0.0 (a.again (s.before ++ (s.more ++ later)))
                ∙ s.on later;
          }
    ]

-- a reader of nothing
pub reads_nothing : {X : Type 0} (x : X) → IsReader (λ left. read_as left x)
reads_nothing {X} x = record {
  goes = λ at words y left e. let same : (x, from at words) ≡ (y, left) = cc in record {
    front = [];
    split = ap (λ (p : X × WordsLeft). p.1.words) same;
    place = ap (λ (p : X × WordsLeft). p.1.at) (sym same) ∙ omega arith;
    again = λ rest. ap (λ (p : X × WordsLeft). Ok (p.0, from p.1.at rest)) same;
  };
  stops = λ at words refusal e. absurd cc;
}

-- what was read is made into something
pub made_reader : {X Y : Type 0} (read : WordsLeft → Read X) (make : X → Y) → IsReader read → IsReader (λ left. read left >>= λ x. Ok (make x.0, x.1))
made_reader read make is = then_reader read (λ x left. read_as left (make x)) is (λ x. reads_nothing (make x))

-- ---- readers to the end

-- a refusal, and how the words before it can be gone on with where a limit is passed over
pub record StopsWhole {X : Type 0} (read : ℕ → WordsLeft → Result X TextRefusal) (most at : ℕ) (words : List Word) (refusal : TextRefusal) : Type 0 where
  pub before : List Word
  pub rest : List Word
  pub split : words ≡ before ++ rest
  pub place : refusal.word ≡ at + length before
  pub again : Repeats (read most) at before rest refusal
  pub enough : ℕ
  pub more : List Word
  pub x : X
  pub on : read enough (from at (before ++ more)) ≡ Ok x

abbrev pub IsWhole : {X : Type 0} → (ℕ → WordsLeft → Result X TextRefusal) → ℕ → Type 0
IsWhole read most = (at : ℕ) (words : List Word) (refusal : TextRefusal) → read most (from at words) ≡ Err refusal → StopsWhole read most at words refusal

-- a reader of a front, and then nothing more
abbrev pub to_end : {X : Type 0} → (WordsLeft → Read X) → ℕ → WordsLeft → Result X TextRefusal
to_end read most left = read left >>= λ x. (end_at x.1 >>= λ end. Ok x.0)

pub whole_to_end : {X : Type 0} (read : WordsLeft → Read X) (most : ℕ) → IsReader read → IsWhole (to_end read) most
whole_to_end {X} read most is at words refusal e = elim (bind_err (read (from at words)) (λ x. end_at x.1 >>= λ end. Ok x.0) refusal e) [
  | inl stopped ↦
      let s = is.stops at words refusal stopped in
      record {
        before = s.before;
        rest = s.rest;
        split = s.split;
        place = s.place;
        again = repeats_first read (λ x left. end_at left >>= λ end. Ok x) at s.before s.rest refusal s.again;
        enough = most;
        more = s.more;
        x = s.x;
        on = ap (λ (ws : List Word). to_end read most (from at (s.before ++ ws))) (sym (append-nil s.more)) ∙ rw (s.on []) refl;
      }
  | inr step ↦ ended step.0.0 step.0.1 step.1 step.0.1.words refl step.2
]
  where
    ended : (x : X) (left : WordsLeft) → read (from at words) ≡ Ok (x, left) → (ws : List Word) → left.words ≡ ws → (end_from left.at left.words >>= λ end. Ok x) ≡ Err refusal
        → StopsWhole (to_end read) most at words refusal
    ended x left read_is [] none stops = absurd (let ok : Ok x ≡ Err refusal = ap (λ (ws : List Word). end_from left.at ws >>= λ end. Ok x) (sym none) ∙ stops in cc)
    ended x left read_is (word ∷ ws) some stops =
        let g = is.goes at words x left read_is in
        let refused : (end_from left.at (word ∷ ws) >>= λ end. Ok x) ≡ Err refusal = ap (λ (v : List Word). end_from left.at v >>= λ end. Ok x) (sym some) ∙ stops in
        let same : record { why = why.UnknownWord; word = left.at } ≡ refusal = cc in
        record {
          before = g.front;
          rest = word ∷ ws;
          split = g.split ∙ ap (λ (v : List Word). g.front ++ v) some;
          place = ap (λ (r : TextRefusal). r.word) (sym same) ∙ g.place;
          again = λ other. rw (g.again (word ∷ other)) (ap Err same);
          enough = most;
          more = [];
          x = x;
          on = rw (g.again []) refl;
        }

-- what was read to the end is made into something
pub made_whole : {X Y : Type 0} (read : ℕ → WordsLeft → Result X TextRefusal) (most : ℕ) (make : X → Y) → IsWhole read most → IsWhole (λ m left. read m left >>= λ x. Ok (make x)) most
made_whole {X} {Y} read most make is at words refusal e = elim (bind_err (read most (from at words)) (λ x. Ok (make x)) refusal e) [
  | inl stopped ↦
      let s = is at words refusal stopped in
      record {
        before = s.before;
        rest = s.rest;
        split = s.split;
        place = s.place;
        again = repeats s.before s.rest s.again;
        enough = s.enough;
        more = s.more;
        x = make s.x;
        on = rw (s.on) refl;
      }
  | inr step ↦ absurd (let no : Ok (make step.0) ≡ Err refusal = step.2 in cc)
]
  where
    repeats : (before rest : List Word) → Repeats (read most) at before rest refusal → Repeats (λ left. read most left >>= λ x. Ok (make x)) at before rest refusal
    repeats before [] again = tt
    repeats before (word ∷ rest) again = λ other. rw (again other) refl

-- some words are read to their end
pub record StartsWhole {X : Type 0} (read : ℕ → WordsLeft → Result X TextRefusal) (at : ℕ) : Type 0 where
  pub enough : ℕ
  pub more : List Word
  pub x : X
  pub on : read enough (from at more) ≡ Ok x

pub starts_whole : {X : Type 0} (read : ℕ → WordsLeft → Result X TextRefusal) (most : ℕ) → IsWhole read most → (at : ℕ) → StartsWhole read at
starts_whole {X} read most is at = by (read most (from at [])) refl
  where
    by : (r : Result X TextRefusal) → read most (from at []) ≡ r → StartsWhole read at
    by (Ok x) e = record { enough = most; more = []; x = x; on = e }
    by (Err refusal) e =
        let s = is at [] refusal e in
        let none : s.before ≡ [] = no_words s.before s.rest (sym s.split) in
        record { enough = s.enough; more = s.more; x = s.x; on = ap (λ (ws : List Word). read s.enough (from at (ws ++ s.more))) (sym none) ∙ s.on }

-- a reader of a front, and then one to the end
pub whole_after : {X Y : Type 0} (read : WordsLeft → Read X) (then : ℕ → X → WordsLeft → Result Y TextRefusal) (most : ℕ) → IsReader read → ((x : X) → IsWhole (λ m. then m x) most)
    → IsWhole (λ m. after read (then m)) most
whole_after {X} {Y} read then most first second at words refusal e = elim (bind_err (read (from at words)) (λ x. then most x.0 x.1) refusal e) [
  | inl stopped ↦
      let s = first.stops at words refusal stopped in
      let t = starts_whole (λ m. then m s.x) most (second s.x) s.next in
      record {
        before = s.before;
        rest = s.rest;
        split = s.split;
        place = s.place;
        again = repeats_first read (then most) at s.before s.rest refusal s.again;
        enough = t.enough;
        more = s.more ++ t.more;
        x = t.x;
        on = ap (λ (r : Read X). r >>= λ x. then t.enough x.0 x.1) (s.on t.more) ∙ t.on;
      }
  | inr step ↦
      let a = first.goes at words step.0.0 step.0.1 step.1 in
      let s = second step.0.0 step.0.1.at step.0.1.words refusal step.2 in
      record {
        before = a.front ++ s.before;
        rest = s.rest;
        split = a.split ∙ ap (λ (ws : List Word). a.front ++ ws) s.split ∙ sym (append_assoc a.front s.before s.rest);
        place = omega (arith, a.place, s.place, length-append a.front s.before);
        again = repeats_second read (then most) at step.0.1.at a.front s.before s.rest step.0.0 refusal a.again s.again;
        enough = s.enough;
        more = s.more;
        x = s.x;
        on = ap (λ (ws : List Word). after read (then s.enough) (from at ws)) (append_assoc a.front s.before s.more)
            ∙ onward read (then s.enough) at step.0.1.at a.front (s.before ++ s.more) step.0.0 (a.again (s.before ++ s.more))
            ∙ s.on;
      }
]

-- ---- the first misfit

-- where a reader to the end stops is the first misfit of the texts that it reads
pub first_misfit : {X : Type 0} (read : ℕ → WordsLeft → Result X TextRefusal) (most : ℕ) (Unlimited Text : List Word → Type 0)
    → ((enough : ℕ) (words : List Word) (x : X) → read enough (all_of words) ≡ Ok x → Unlimited words)
    → ((words : List Word) → Text words → (x : X) × (read most (all_of words) ≡ Ok x))
    → IsWhole read most → (words : List Word) (refusal : TextRefusal) → read most (all_of words) ≡ Err refusal → IsFirstMisfit Unlimited Text words refusal.word
first_misfit {X} read most Unlimited Text found again is words refusal e =
    let s = is 0 words refusal e in
    record {
      before = s.before;
      rest = s.rest;
      split = s.split;
      stands = s.place ∙ omega arith;
      begins = (s.more, found s.enough (s.before ++ s.more) s.x s.on);
      breaks_off = breaks s.before s.rest s.split s.again;
    }
  where
    breaks : (before rest : List Word) → words ≡ before ++ rest → Repeats (read most) 0 before rest refusal → BreaksOff Text before rest
    breaks before [] split repeats = λ text.
        let ok = again before text in
        let bad : Err refusal ≡ Ok ok.0 = sym e ∙ ap (λ (ws : List Word). read most (all_of ws)) (split ∙ append-nil before) ∙ ok.1 in
        cc
    breaks before (word ∷ rest) split repeats = λ text.
        let ok = again ((before ++ word ∷ []) ++ text.0) text.1 in
        let bad : Err refusal ≡ Ok ok.0 = sym (repeats text.0) ∙ ap (λ (ws : List Word). read most (all_of ws)) (sym (append_assoc before (word ∷ []) text.0)) ∙ ok.1 in
        cc
