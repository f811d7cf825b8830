-- Where reading stops: at the first byte that no spelling has there, or where the bytes end too early.
use Rattle.std.proofs.Common.{◌≡◌, ℕ, zero, suc, ◌+◌, ◌-◌, ◌<◌, List, [], ◌∷◌, ◌++◌, length, take, Option, Some, None, Ok, Err, refl, sym, ap, subst, ◌∙◌, append_assoc, arith, inl, inr}
use Rattle.std.specs.Prelude.{◌⊎◌, IfSome, Bool, true, false, cond}
use Rattle.std.proofs.lemmas.List.{take_at, append-nil, length-append}
use Rattle.cas_wire.specs.Part.{IsFirstWrong}
use Rattle.cas_wire.specs.Reading.{Reading, ◌>>=◌, pair_at, made_at, byte_where, optional_at}
use Rattle.cas_wire.specs.Spelling.{optional_spelling}
use Rattle.cas_base.proofs.Bytes.{IsBytes}
use Rattle.cas_wire.proofs.Formats.{IsBytes-rest, bind_err, ok_is, left_is, not_err, IsFormat}

pub record StopsAt {A : Type 0} (s : A → List ℕ) (F : A → Type 0) (bytes : List ℕ) (left : ℕ) : Type 0 where
  pub front : List ℕ
  pub behind : List ℕ
  pub parts : bytes ≡ front ++ behind
  pub len : length behind ≡ left
  -- some spelling begins with the front
  pub value : A
  pub tail : List ℕ
  pub fits : F value
  pub begins : s value ≡ front ++ tail
  -- and none with one byte more
  pub other : (b : ℕ) (after : List ℕ) → behind ≡ b ∷ after → (a : A) (rest : List ℕ) → F a → s a ≡ front ++ (b ∷ rest) → ⊥

abbrev pub Stops : {A : Type 0} → (A → List ℕ) → (A → Type 0) → (List ℕ → Reading A) → Type 0
Stops s F r = (bytes : List ℕ) (left : ℕ) → IsBytes bytes → r bytes ≡ Err left → StopsAt s F bytes left

-- ---- what it says of bytes

other_here : {A : Type 0} (s : A → List ℕ) (F : A → Type 0) (front behind : List ℕ) → (at : ℕ) → length front ≡ at → at < length (front ++ behind)
    → ((b : ℕ) (after : List ℕ) → behind ≡ b ∷ after → (a : A) (rest : List ℕ) → F a → s a ≡ front ++ (b ∷ rest) → ⊥)
    → (a : A) (rest : List ℕ) → F a → s a ≡ take (at + 1) (front ++ behind) ++ rest → ⊥
other_here s F front [] at len lt h a rest fits e = omega (arith, len, lt, length-append front [])
other_here s F front (b ∷ after) at len lt h a rest fits e =
    let longer : length (front ++ b ∷ []) ≡ at + 1 = omega (arith, len, length-append front (b ∷ [])) in
    let taken : take (at + 1) (front ++ b ∷ after) ≡ front ++ b ∷ [] = ap (λ (xs : List ℕ). take (at + 1) xs) (sym (append_assoc front (b ∷ []) after)) ∙ take_at (front ++ b ∷ []) after (at + 1) longer in
    h b after refl a rest fits (e ∙ ap (λ (xs : List ℕ). xs ++ rest) taken ∙ append_assoc front (b ∷ []) rest)

pub first_wrong : {A : Type 0} (s : A → List ℕ) (F : A → Type 0) (bytes : List ℕ) (left : ℕ) → StopsAt s F bytes left → IsFirstWrong s F bytes (length bytes - left)
first_wrong s F bytes left st =
    let whole : length bytes ≡ length st.front + length st.behind = ap (λ (xs : List ℕ). length xs) st.parts ∙ length-append st.front st.behind in
    let at : length st.front ≡ length bytes - left = omega (arith, whole, st.len) in
    let taken : take (length bytes - left) bytes ≡ st.front = ap (λ (xs : List ℕ). take (length bytes - left) xs) st.parts ∙ take_at st.front st.behind (length bytes - left) at in
    record {
      before = (st.value, st.tail, st.fits, st.begins ∙ ap (λ (xs : List ℕ). xs ++ st.tail) (sym taken));
      here = λ lt a rest fits e.
          other_here s F st.front st.behind (length bytes - left) at (omega (arith, lt, ap (λ (xs : List ℕ). length xs) st.parts)) st.other a rest fits
          (e ∙ ap (λ (xs : List ℕ). take (length bytes - left + 1) xs ++ rest) st.parts);
    }

-- ---- one behind the other

append_split : (xs ys zs ws : List ℕ) → xs ++ ys ≡ zs ++ ws → ((u : List ℕ) × (xs ≡ zs ++ u) × (ws ≡ u ++ ys)) ⊎ ((u : List ℕ) × (zs ≡ xs ++ u) × (ys ≡ u ++ ws))
append_split xs ys [] ws e = inl (xs, refl, sym e)
append_split [] ys (z ∷ zs) ws e = inr (z ∷ zs, refl, e)
append_split (x ∷ xs) ys (z ∷ zs) ws e =
    let first : x ≡ z = cc in
    let later : xs ++ ys ≡ zs ++ ws = cc in
    elim (append_split xs ys zs ws later) [
      | inl p ↦ inl (p.0, ap (λ (l : List ℕ). x ∷ l) p.1 ∙ ap (λ (y : ℕ). y ∷ (zs ++ p.0)) first, p.2)
      | inr p ↦ inr (p.0, ap (λ (l : List ℕ). z ∷ l) p.1 ∙ ap (λ (y : ℕ). y ∷ (xs ++ p.0)) (sym first), p.2)
    ]

module _ {A : Type 0} {s : A → List ℕ} {F : A → Type 0} {r : List ℕ → Reading A} where
  -- reading that stops does not find a whole spelling
  not_whole : IsFormat s F r → (bytes : List ℕ) (left : ℕ) (a : A) (rest : List ℕ) → F a → bytes ≡ s a ++ rest → r bytes ≡ Err left → ⊥
  not_whole one bytes left a rest fits is e = not_err (a, rest) left (sym (one.again a rest fits) ∙ ap r (sym is) ∙ e)

  ends_or_goes_on : IsFormat s F r → (bytes : List ℕ) (left : ℕ) → (st : StopsAt s F bytes left) → r bytes ≡ Err left → (a : A) → F a
      → (b : ℕ) (after : List ℕ) → st.behind ≡ b ∷ after → (u rest more : List ℕ) → s a ≡ st.front ++ u → b ∷ rest ≡ u ++ more → ⊥
  ends_or_goes_on one bytes left st e a fits b after is [] rest more sa eq =
      not_whole one bytes left a st.behind fits (st.parts ∙ ap (λ (xs : List ℕ). xs ++ st.behind) (sym (sa ∙ append-nil st.front))) e
  ends_or_goes_on one bytes left st e a fits b after is (c ∷ u) rest more sa eq =
      let same : b ≡ c = cc in
      st.other b after is a u fits (sa ∙ ap (λ (y : ℕ). st.front ++ (y ∷ u)) (sym same))

  -- so nothing begun by a spelling has the byte there
  pub never : IsFormat s F r → (bytes : List ℕ) (left : ℕ) → (st : StopsAt s F bytes left) → r bytes ≡ Err left → (a : A) (more : List ℕ) → F a
      → (b : ℕ) (after : List ℕ) → st.behind ≡ b ∷ after → (rest : List ℕ) → s a ++ more ≡ st.front ++ (b ∷ rest) → ⊥
  never one bytes left st e a more fits b after is rest eq = elim (append_split (s a) more st.front (b ∷ rest) eq) [
    | inl p ↦ ends_or_goes_on one bytes left st e a fits b after is p.0 rest more p.1 p.2
    | inr p ↦ not_whole one bytes left a (p.0 ++ st.behind) fits (st.parts ∙ ap (λ (xs : List ℕ). xs ++ st.behind) p.1 ∙ append_assoc (s a) p.0 st.behind) e
  ]

  -- the same where only a front of each spelling is read
  pub stops_first : {B : Type 0} {w : B → List ℕ} {W : B → Type 0} → IsFormat s F r → Stops s F r
      → ((a : A) → F a → (b : B) × (tail : List ℕ) × W b × (w b ≡ s a ++ tail))
      → ((b : B) → W b → (a : A) × (more : List ℕ) × F a × (w b ≡ s a ++ more))
      → (bytes : List ℕ) (left : ℕ) → IsBytes bytes → r bytes ≡ Err left → StopsAt w W bytes left
  stops_first one stops to from bytes left fits e =
      let st = stops bytes left fits e in
      let v = to st.value st.fits in
      record {
        front = st.front;
        behind = st.behind;
        parts = st.parts;
        len = st.len;
        value = v.0;
        tail = st.tail ++ v.1;
        fits = v.2;
        begins = v.3 ∙ ap (λ (xs : List ℕ). xs ++ v.1) st.begins ∙ append_assoc st.front st.tail v.1;
        other = λ b after is whole rest wfits we.
            let p = from whole wfits in
            never one bytes left st e p.0 p.1 p.2 b after is rest (sym p.3 ∙ we);
      }

  -- and where what is behind a first value stops
  pub stops_second : {B C : Type 0} {t : C → List ℕ} {G : C → Type 0} {w : B → List ℕ} {W : B → Type 0} → IsFormat s F r
      → (bytes : List ℕ) (a : A) (rest1 : List ℕ) (left : ℕ) → F a → bytes ≡ s a ++ rest1 → StopsAt t G rest1 left
      → ((c : C) → G c → (b : B) × W b × (w b ≡ s a ++ t c))
      → ((b : B) → W b → (a' : A) × F a' × ((more : List ℕ) × (w b ≡ s a' ++ more) × (a' ≡ a → (c : C) × G c × (more ≡ t c))))
      → StopsAt w W bytes left
  stops_second {t} {G} one bytes a rest1 left fa is st to from =
      let v = to st.value st.fits in
      record {
        front = s a ++ st.front;
        behind = st.behind;
        parts = is ∙ ap (λ (xs : List ℕ). s a ++ xs) st.parts ∙ sym (append_assoc (s a) st.front st.behind);
        len = st.len;
        value = v.0;
        tail = st.tail;
        fits = v.1;
        begins = v.2 ∙ ap (λ (xs : List ℕ). s a ++ xs) st.begins ∙ sym (append_assoc (s a) st.front st.tail);
        other = λ b after isb whole rest wfits we.
            let p = from whole wfits in
            let read = ok_is (p.0, p.2.0) (a, st.front ++ (b ∷ rest))
            (sym (one.again p.0 p.2.0 p.1) ∙ ap r (sym p.2.1 ∙ we ∙ append_assoc (s a) st.front (b ∷ rest)) ∙ one.again a (st.front ++ (b ∷ rest)) fa) in
            let c = p.2.2 (ap (λ (y : A × List ℕ). y.0) read) in
            st.other b after isb c.0 rest c.1 (sym c.2 ∙ ap (λ (y : A × List ℕ). y.1) read);
      }

module _ {A B : Type 0} {s : A → List ℕ} {F : A → Type 0} {r : List ℕ → Reading A} where
  pub pair_stops : {t : B → List ℕ} {G : B → Type 0} {q : List ℕ → Reading B} → IsFormat s F r → Stops s F r → Stops t G q → (b0 : B) → G b0
      → Stops (λ (p : A × B). s p.0 ++ t p.1) (λ p. F p.0 × G p.1) (pair_at r q)
  pair_stops {t} {G} {q} one stops stops2 b0 g0 bytes left fits e = elim (bind_err (r bytes) (λ a. q a.1 >>= λ b. Ok ((a.0, b.0), b.1)) left e) [
    | inl first ↦ stops_first {B = A × B} {w = λ (p : A × B). s p.0 ++ t p.1} {W = λ p. F p.0 × G p.1} one stops (λ a h. ((a, b0), t b0, (h, g0), refl)) (λ p h. (p.0, t p.1, h.0, refl)) bytes left fits first
    | inr a ↦ elim (bind_err (q a.0.1) (λ b. Ok ((a.0.0, b.0), b.1)) left a.2) [
      | inl second ↦
          let tk = one.takes bytes a.0 fits a.1 in
          stops_second {B = A × B} {C = B} {t = t} {G = G} {w = λ (p : A × B). s p.0 ++ t p.1} {W = λ p. F p.0 × G p.1} one bytes a.0.0 a.0.1 left tk.1 tk.0.parts (stops2 a.0.1 left tk.0.rest_fits second)
          (λ c h. ((a.0.0, c), (tk.1, h), refl)) (λ p h. (p.0, h.0, (t p.1, refl, λ same. (p.1, h.1, refl))))
      | inr b ↦ absurd (not_err ((a.0.0, b.0.0), b.0.1) left b.2)
    ]
  ]

  pub made_stops : (f : A → B) (g : B → A) → ((a : A) → F a → g (f a) ≡ a) → Stops s F r → Stops (λ b. s (g b)) (λ b. F (g b)) (made_at f r)
  made_stops f g back stops bytes left fits e = elim (bind_err (r bytes) (λ a. Ok (f a.0, a.1)) left e) [
    | inl first ↦
        let st = stops bytes left fits first in
        record {
          front = st.front;
          behind = st.behind;
          parts = st.parts;
          len = st.len;
          value = f st.value;
          tail = st.tail;
          fits = subst F (sym (back st.value st.fits)) st.fits;
          begins = ap s (back st.value st.fits) ∙ st.begins;
          other = λ b after is whole rest wfits we. st.other b after is (g whole) rest wfits we;
        }
    | inr a ↦ absurd (not_err (f a.0.0, a.0.1) left a.2)
  ]

-- ---- a first byte, and what is behind it

-- nothing is there
pub ended : {A : Type 0} (s : A → List ℕ) (F : A → Type 0) (bytes : List ℕ) (left : ℕ) → 0 ≡ left → (a : A) (tail : List ℕ) → F a → s a ≡ bytes ++ tail → StopsAt s F bytes left
ended s F bytes left none a tail fits begins = record {
  front = bytes;
  behind = [];
  parts = sym (append-nil bytes);
  len = none;
  value = a;
  tail = tail;
  fits = fits;
  begins = begins;
  other = λ b after is. absurd cc;
}

-- the first byte stands in no spelling
pub not_first : {A : Type 0} (s : A → List ℕ) (F : A → Type 0) (b : ℕ) (bytes : List ℕ) (left : ℕ) → length (b ∷ bytes) ≡ left → (a : A) → F a → ((x : A) (rest : List ℕ) → F x → s x ≡ b ∷ rest → ⊥) → StopsAt s F (b ∷ bytes) left
not_first s F b bytes left all a fits never = record {
  front = [];
  behind = b ∷ bytes;
  parts = refl;
  len = all;
  value = a;
  tail = s a;
  fits = fits;
  begins = refl;
  other = λ c after is x rest xfits e. never x rest xfits (e ∙ (let same : c ≡ b = cc in ap (λ (y : ℕ). y ∷ rest) same));
}

-- the first byte is that of a variant, and what is behind it stops
pub behind_first : {A B : Type 0} (s : A → List ℕ) (F : A → Type 0) (t : B → List ℕ) (G : B → Type 0) (n : ℕ) (bytes : List ℕ) (left : ℕ) → StopsAt s F bytes left → (f : A → B)
    → ((a : A) → F a → G (f a) × (t (f a) ≡ n ∷ s a)) → ((b : B) (rest : List ℕ) → G b → t b ≡ n ∷ rest → (a : A) × F a × (s a ≡ rest)) → StopsAt t G (n ∷ bytes) left
behind_first s F t G n bytes left st f to from =
    let v = to st.value st.fits in
    record {
      front = n ∷ st.front;
      behind = st.behind;
      parts = ap (λ (xs : List ℕ). n ∷ xs) st.parts;
      len = st.len;
      value = f st.value;
      tail = st.tail;
      fits = v.0;
      begins = v.1 ∙ ap (λ (xs : List ℕ). n ∷ xs) st.begins;
      other = λ b after is x rest xfits e.
          let a = from x (st.front ++ (b ∷ rest)) xfits e in
          st.other b after is a.0 rest a.1 a.2;
    }

guarded : {A : Type 0} (b : Bool) (x : A × List ℕ) (m left : ℕ) → cond b (Ok x) (Err m) ≡ Err left → (b ≡ false) × (m ≡ left)
guarded true x m left e = absurd (not_err x left e)
guarded {A} false x m left e = (refl, left_is {A = A} m left e)

pub byte_stops : (test : ℕ → Bool) (n : ℕ) → test n ≡ true → n < 256 → Stops (λ n. n ∷ []) (λ n. (test n ≡ true) × (n < 256)) (byte_where test)
byte_stops test n good small [] left fits e = let none : 0 ≡ left = left_is {A = ℕ} 0 left e in ended (λ n. n ∷ []) (λ n. (test n ≡ true) × (n < 256)) [] left none n (n ∷ []) (good, small) refl
byte_stops test n good small (b ∷ bytes) left fits e =
    let g = guarded (test b) (b, bytes) (length (b ∷ bytes)) left e in
    not_first (λ n. n ∷ []) (λ n. (test n ≡ true) × (n < 256)) b bytes left g.1 n (good, small)
    (λ x rest h is. let same : x ≡ b = cc in let no : test x ≡ false = ap test same ∙ g.0 in absurd (let passes : test x ≡ true = h.0 in cc))

some_from : {A : Type 0} (s : A → List ℕ) (F : A → Type 0) (o : Option A) (rest : List ℕ) → IfSome o F → optional_spelling s o ≡ 1 ∷ rest → (a : A) × F a × (s a ≡ rest)
some_from s F None rest h e = absurd cc
some_from s F (Some a) rest h e = (a, h, cc)

neither : {A : Type 0} (s : A → List ℕ) (b : ℕ) (o : Option A) (rest : List ℕ) → optional_spelling s o ≡ suc (suc b) ∷ rest → ⊥
neither s b None rest e = cc
neither s b (Some a) rest e = cc

module _ {A : Type 0} {s : A → List ℕ} {F : A → Type 0} {r : List ℕ → Reading A} where
  pub optional_stops : Stops s F r → Stops (optional_spelling s) (λ o. IfSome o F) (optional_at r)
  optional_stops stops [] left fits e = let none : 0 ≡ left = left_is {A = Option A} 0 left e in ended (optional_spelling s) (λ o. IfSome o F) [] left none None (0 ∷ []) tt refl
  optional_stops stops (zero ∷ bytes) left fits e = absurd (let nothing : Option A × List ℕ = (None, bytes) in not_err nothing left e)
  optional_stops stops (suc zero ∷ bytes) left fits e = elim (bind_err (r bytes) (λ a. Ok (Some a.0, a.1)) left e) [
    | inl first ↦ behind_first s F (optional_spelling s) (λ o. IfSome o F) 1 bytes left (stops bytes left (IsBytes-rest 1 bytes fits) first) (λ a. Some a) (λ a h. (h, refl)) (some_from s F)
    | inr a ↦ absurd (not_err (Some a.0.0, a.0.1) left a.2)
  ]
  optional_stops stops (suc (suc b) ∷ bytes) left fits e =
      let all : length (b ∷ bytes) ≡ left = left_is {A = Option A} (length (b ∷ bytes)) left e in
      not_first (optional_spelling s) (λ o. IfSome o F) (suc (suc b)) bytes left all None tt (λ o rest h is. neither s b o rest is)
