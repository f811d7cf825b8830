-- Lemmas on texts in words.
use Rattle.std.proofs.Common.{◌≡◌, ℕ, Bool, true, false, cond, List, [], ◌∷◌, ◌++◌, length, Option, Some, None, refl, sym, ap, subst, ◌∙◌, append_assoc, arith, inl, inr}
use Rattle.std.specs.Prelude.{◌⊎◌, ◌==◌, codes}
use Rattle.std.specs.Str.{bytes_eq}
use Rattle.std.proofs.lemmas.Slice.Eq.{bytes_eq-Decides}
use Rattle.std.proofs.lemmas.Bool.{eqb-true, eqb-false, ne_eqb, false_from_ne_true}
use Rattle.cas_change_text.specs.Escapes.{is_plain, hex_value, byte_from, StandsForByte, SpellsEach, SpellsEscaped, onto, unescaped, text_of}

-- bytes in front, where there are bytes behind them
abbrev pub in_front : List ℕ → Option (List ℕ) → Option (List ℕ)
in_front front None = None
in_front front (Some bytes) = Some (front ++ bytes)

pub in_front-onto : (front : List ℕ) (byte : ℕ) (bytes : Option (List ℕ)) → in_front (front ++ byte ∷ []) bytes ≡ in_front front (onto (Some byte) bytes)
in_front-onto front byte None = refl
in_front-onto front byte (Some bytes) = ap (λ (b : List ℕ). Some b) (append_assoc front (byte ∷ []) bytes)

-- which way a test went
pub chosen : {A : Type 0} (b : Bool) (x y z : A) → cond b x y ≡ z → ((b ≡ true) × (x ≡ z)) ⊎ ((b ≡ false) × (y ≡ z))
chosen true x y z e = inl (refl, e)
chosen false x y z e = inr (refl, e)

-- the parts of bytes with one more in front
onto_some : (byte : Option ℕ) (rest : Option (List ℕ)) (bytes : List ℕ) → onto byte rest ≡ Some bytes
    → (first : ℕ) × (others : List ℕ) × (byte ≡ Some first) × (rest ≡ Some others) × (first ∷ others ≡ bytes)
onto_some (Some byte) (Some rest) bytes e = (byte, rest, refl, refl, cc)
onto_some (Some byte) None bytes e = absurd cc
onto_some None rest bytes e = absurd cc

-- a plain byte in front stands for itself
unescaped-plain : (sign : ℕ) (rest : List ℕ) → is_plain sign ≡ true → unescaped (sign ∷ rest) ≡ onto (Some sign) (unescaped rest)
unescaped-plain sign [] plain = ap (λ b. cond b (Some (sign ∷ [])) None) plain
unescaped-plain sign (high ∷ []) plain = ap (λ b. cond b (onto (Some sign) (unescaped (high ∷ []))) None) plain
unescaped-plain sign (high ∷ low ∷ rest) plain =
    ap (λ b. cond b (onto (Some sign) (unescaped (high ∷ low ∷ rest))) (cond (sign == 37) (onto (byte_from (hex_value high) (hex_value low)) (unescaped rest)) None)) plain

-- what stands for one byte, in front of what stands for others
front_again : (front rest : List ℕ) (byte : ℕ) (bytes : List ℕ) → StandsForByte front byte → unescaped rest ≡ Some bytes → unescaped (front ++ rest) ≡ Some (byte ∷ bytes)
front_again [] rest byte bytes stands others = absurd stands
front_again (sign ∷ []) rest byte bytes stands others = unescaped-plain sign rest stands.0 ∙ (λ i. onto (Some (stands.1 i)) (others i))
front_again (sign ∷ digit ∷ []) rest byte bytes stands others = absurd stands
front_again (sign ∷ high ∷ low ∷ []) rest byte bytes stands others =
    ap (λ s. unescaped (s ∷ high ∷ low ∷ rest)) stands.0 ∙ (λ i. onto (stands.1 i) (others i))
front_again (sign ∷ high ∷ low ∷ more ∷ others) rest byte bytes stands e = absurd stands

-- a word stands for the bytes that it spells
pub SpellsEach-again : (bytes word : List ℕ) → SpellsEach word bytes → unescaped word ≡ Some bytes
SpellsEach-again [] word spelled = ap unescaped spelled
SpellsEach-again (byte ∷ bytes) word spelled =
    let front : List ℕ = spelled.0 in
    let rest : List ℕ = spelled.1 in
    ap unescaped spelled.4 ∙ front_again front rest byte bytes spelled.2 (SpellsEach-again bytes rest spelled.3)

-- a plain byte in front
plain_found : (sign : ℕ) (rest bytes others : List ℕ) → is_plain sign ≡ true → SpellsEach rest others → sign ∷ others ≡ bytes → SpellsEach (sign ∷ rest) bytes
plain_found sign rest bytes others plain each is = subst (SpellsEach (sign ∷ rest)) is (sign ∷ [], rest, (plain, refl), each, refl)

-- a word spells the bytes that it stands for
pub SpellsEach-found : (word bytes : List ℕ) → unescaped word ≡ Some bytes → SpellsEach word bytes
SpellsEach-found [] bytes e = subst (SpellsEach []) (let is : [] ≡ bytes = cc in is) refl
SpellsEach-found (sign ∷ []) bytes e = elim (chosen (is_plain sign) (Some (sign ∷ [])) None (Some bytes) e) [
  | inl p ↦ plain_found sign [] bytes [] p.0 refl (let is : sign ∷ [] ≡ bytes = cc (p.1) in is)
  | inr p ↦ absurd (cc (p.1))
]
SpellsEach-found (sign ∷ high ∷ []) bytes e = elim (chosen (is_plain sign) (onto (Some sign) (unescaped (high ∷ []))) None (Some bytes) e) [
  | inl p ↦
      let parts = onto_some (Some sign) (unescaped (high ∷ [])) bytes p.1 in
      plain_found sign (high ∷ []) bytes parts.1 p.0 (SpellsEach-found (high ∷ []) parts.1 parts.3) (let is : sign ∷ parts.1 ≡ bytes = cc (parts.2, parts.4) in is)
  | inr p ↦ absurd (cc (p.1))
]
SpellsEach-found (sign ∷ high ∷ low ∷ rest) bytes e =
    elim (chosen (is_plain sign) (onto (Some sign) (unescaped (high ∷ low ∷ rest))) (cond (sign == 37) (onto (byte_from (hex_value high) (hex_value low)) (unescaped rest)) None) (Some bytes) e) [
      | inl p ↦
          let parts = onto_some (Some sign) (unescaped (high ∷ low ∷ rest)) bytes p.1 in
          plain_found sign (high ∷ low ∷ rest) bytes parts.1 p.0 (SpellsEach-found (high ∷ low ∷ rest) parts.1 parts.3) (let is : sign ∷ parts.1 ≡ bytes = cc (parts.2, parts.4) in is)
      | inr p ↦ elim (chosen (sign == 37) (onto (byte_from (hex_value high) (hex_value low)) (unescaped rest)) None (Some bytes) p.1) [
        | inl q ↦
            let parts = onto_some (byte_from (hex_value high) (hex_value low)) (unescaped rest) bytes q.1 in
            subst (SpellsEach (sign ∷ high ∷ low ∷ rest)) parts.4
            (sign ∷ high ∷ low ∷ [], rest, (eqb-true sign 37 q.0, parts.2), SpellsEach-found rest parts.1 parts.3, refl)
        | inr q ↦ absurd (cc (q.1))
      ]
    ]

-- a word that spells a text is read as that text
pub text_of-again : (bytes word : List ℕ) → SpellsEscaped word bytes → text_of word ≡ Some bytes
text_of-again [] word spelled = ap text_of spelled
text_of-again (byte ∷ bytes) word spelled =
    let stands : unescaped word ≡ Some (byte ∷ bytes) = SpellsEach-again (byte ∷ bytes) word spelled in
    let other : bytes_eq word (codes "%-") ≡ false = false_from_ne_true _ (λ same.
    let is : word ≡ codes "%-" = (bytes_eq-Decides word (codes "%-")).0 same in
    let none : None ≡ Some (byte ∷ bytes) = sym (ap unescaped is) ∙ stands in cc) in
    let some : (length word == 0) ≡ false = not_empty word stands in
    rw (other, some) stands
  where
    not_empty : (w : List ℕ) → unescaped w ≡ Some (byte ∷ bytes) → (length w == 0) ≡ false
    not_empty [] e = absurd cc
    not_empty (b ∷ w) e = ne_eqb (length (b ∷ w)) 0 (λ zero. omega arith)

-- a word spells the text that it is read as
pub text_of-found : (word bytes : List ℕ) → text_of word ≡ Some bytes → SpellsEscaped word bytes
text_of-found word bytes e = elim (chosen (bytes_eq word (codes "%-")) (Some []) (cond (length word == 0) None (unescaped word)) (Some bytes) e) [
  | inl p ↦ subst (SpellsEscaped word) (let is : [] ≡ bytes = cc (p.1) in is) ((bytes_eq-Decides word (codes "%-")).0 p.0)
  | inr p ↦ elim (chosen (length word == 0) None (unescaped word) (Some bytes) p.1) [
    | inl q ↦ absurd (cc (q.1))
    | inr q ↦ each bytes (eqb-false (length word) 0 q.0) (SpellsEach-found word bytes q.1)
  ]
]
  where
    each : (bs : List ℕ) → (length word ≡ 0 → ⊥) → SpellsEach word bs → SpellsEscaped word bs
    each [] some spelled = absurd (some (ap length spelled))
    each (b ∷ bs) some spelled = spelled
