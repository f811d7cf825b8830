-- What is read of a change behind its caller is in the grammar, and what is in the grammar is read.
use Rattle.std.proofs.Common.{◌≡◌, ℕ, ◌+◌, ◌<◌, ◌≤◌, true, false, cond, List, [], ◌∷◌, ◌++◌, length, Option, Some, None, Result, Ok, Err, refl, sym, ap, subst, ◌∙◌, arith, inl, inr}
use Rattle.std.specs.Prelude.{◌≢◌, ◌==◌, ◌||◌, codes, nat_lt}
use Rattle.std.specs.Option.{ok_or, is_some}
use Rattle.std.proofs.lemmas.Bool.{ltb-false, le-ltb, eqb-false, ne_eqb, or_parts, or_right, lt-ltb}
use Rattle.cas_change.specs.Key.{IsKey, first_bad_byte}
use Rattle.cas_change.specs.declared.key.KeyFault.{KeyFault}
use Rattle.cas_change.specs.declared.key.KeyFault.TheVariants as fault
use Rattle.cas_change.specs.declared.key.TheConstants.{LONGEST_KEY}
use Rattle.cas_change.proofs.Keys.{key_bytes, no_bad_byte}
use Rattle.cas_change_text.specs.declared.refusal.Why.TheVariants as why
use Rattle.cas_change_text.specs.declared.refusal.TextRefusal.{TextRefusal}
use Rattle.cas_change_text.specs.Decimal.{u64_of, i64_of}
use Rattle.cas_change_text.specs.Grammar.{IsTextWord}
use Rattle.cas_change_text.specs.Reading.{◌>>=◌, Read, word_at, version_at, number_at, text_at, program_at, end_at, refusal_at}
use Rattle.cas_change_text.specs.Words.{Word, WordsLeft}
use Rattle.cas_change_text.proofs.BothWays.{bind_ok, ok_or_ok, named, Took, IsOne, from, word_took, version_found, number_found, text_found, clauses_found, ends_at}
use Rattle.cas_change_text.proofs.EscapedTexts.{chosen}
use Rattle.cas_lines.specs.declared.command.Command.{Command}
use Rattle.cas_lines.specs.declared.command.Command.TheVariants.{Get, Set, Num, Init, Add, Cas, CasNum, Del, DelVersion, Do}
use Rattle.cas_lines.specs.declared.changes.ChangeName.{ChangeName}
use Rattle.cas_lines.specs.declared.changes.ChangeName.TheVariants as names
use Rattle.cas_lines.specs.Command.{NamesCaller, IsForm, IsCommand}
use Rattle.cas_lines.specs.Reading.{change_name, name_at, why_no_key, key_in, key_at, ended, change_of_name, change_at}

-- ---- names

-- the word that names a form
abbrev pub change_word : ChangeName → Word
change_word names.Get = codes "get"
change_word names.Set = codes "set"
change_word names.Num = codes "num"
change_word names.Init = codes "init"
change_word names.Add = codes "add"
change_word names.Cas = codes "cas"
change_word names.CasNum = codes "casnum"
change_word names.Del = codes "del"
change_word names.DelVersion = codes "delv"
change_word names.Do = codes "do"

change_named : (word : Word) (name : ChangeName) → change_name word ≡ Some name → word ≡ change_word name
change_named word name e = elim (named word (codes "get") names.Get name _ e) [
  | inl p ↦ p.0 ∙ ap change_word p.1
  | inr e1 ↦ elim (named word (codes "set") names.Set name _ e1) [
    | inl p ↦ p.0 ∙ ap change_word p.1
    | inr e2 ↦ elim (named word (codes "num") names.Num name _ e2) [
      | inl p ↦ p.0 ∙ ap change_word p.1
      | inr e3 ↦ elim (named word (codes "init") names.Init name _ e3) [
        | inl p ↦ p.0 ∙ ap change_word p.1
        | inr e4 ↦ elim (named word (codes "add") names.Add name _ e4) [
          | inl p ↦ p.0 ∙ ap change_word p.1
          | inr e5 ↦ elim (named word (codes "cas") names.Cas name _ e5) [
            | inl p ↦ p.0 ∙ ap change_word p.1
            | inr e6 ↦ elim (named word (codes "casnum") names.CasNum name _ e6) [
              | inl p ↦ p.0 ∙ ap change_word p.1
              | inr e7 ↦ elim (named word (codes "del") names.Del name _ e7) [
                | inl p ↦ p.0 ∙ ap change_word p.1
                | inr e8 ↦ elim (named word (codes "delv") names.DelVersion name _ e8) [
                  | inl p ↦ p.0 ∙ ap change_word p.1
                  | inr e9 ↦ elim (named word (codes "do") names.Do name None e9) [
                    | inl p ↦ p.0 ∙ ap change_word p.1
                    | inr e10 ↦ absurd cc
                  ]
                ]
              ]
            ]
          ]
        ]
      ]
    ]
  ]
]

-- ---- keys

none_is : (o : Option ℕ) → is_some o ≡ false → o ≡ None
none_is None e = refl
none_is (Some n) e = absurd cc

pub key_in-found : (at : ℕ) (word key : Word) → key_in at word ≡ Ok key → (word ≡ key) × IsKey key
unfolding key_in
key_in-found at word key e =
    elim (chosen (nat_lt LONGEST_KEY (length word)) (Err (record { why = why.TooLong; word = at })) (cond ((length word == 0) || is_some (first_bad_byte word)) (Err (record { why = why.UnknownWord; word = at })) (Ok word)) (Ok key) e) [
      | inl p ↦ absurd (cc (p.1))
      | inr p ↦ elim (chosen ((length word == 0) || is_some (first_bad_byte word)) (Err (record { why = why.UnknownWord; word = at })) (Ok word) (Ok key) p.1) [
        | inl q ↦ absurd (cc (q.1))
        | inr q ↦
            let parts = or_parts (length word == 0) (is_some (first_bad_byte word)) q.0 in
            let some : length word ≡ 0 → ⊥ = eqb-false (length word) 0 parts.0 in
            let same : word ≡ key = cc (q.1) in
            (same, subst IsKey same (key_bytes word (omega (arith, some)) (ltb-false LONGEST_KEY (length word) p.0) (none_is (first_bad_byte word) parts.1)))
      ]
    ]

pub key_in-again : (at : ℕ) (key : Word) → IsKey key → key_in at key ≡ Ok key
unfolding key_in
key_in-again at key is =
    let some : (length key == 0) ≡ false = ne_eqb (length key) 0 (λ zero. omega (arith, is.not_empty)) in
    rw (le-ltb LONGEST_KEY (length key) is.fits, some, good (first_bad_byte key) refl) refl
  where
    good : (o : Option ℕ) → first_bad_byte key ≡ o → is_some o ≡ false
    good None e = refl
    good (Some place) e = absurd (no_bad_byte key place is e)

-- bytes that are no key are refused as such
pub key_in-refused : (at : ℕ) (word : Word) (why_none : KeyFault) → (why_none ≡ fault.TooLong → LONGEST_KEY < length word) → (why_none ≡ fault.Empty → word ≡ [])
    → ((place : ℕ) → why_none ≡ fault.BadByte place → (length word ≤ LONGEST_KEY) × (first_bad_byte word ≡ Some place))
    → why_no_key why_none ≢ why.NoMemory → key_in at word ≡ Err (record { why = why_no_key why_none; word = at })
unfolding key_in
key_in-refused at word fault.TooLong long empty bad other = rw (lt-ltb LONGEST_KEY (length word) (long refl)) refl
key_in-refused at word fault.Empty long empty bad other = ap (key_in at) (empty refl)
key_in-refused at word (fault.BadByte place) long empty bad other =
    let b = bad place refl in
    let some : is_some (first_bad_byte word) ≡ true = ap is_some b.1 in
    rw (le-ltb LONGEST_KEY (length word) b.0, or_right (length word == 0) (is_some (first_bad_byte word)) some) refl
key_in-refused at word fault.NoMemory long empty bad other = absurd (other refl)

-- ---- ends

pub ended_found : {X : Type 0} (read : Read X) (x : X) → ended read ≡ Ok x → (left : WordsLeft) × (read ≡ Ok (x, left)) × (left.words ≡ [])
ended_found (Err refusal) x e = absurd cc
ended_found (Ok y) x e =
    let end = bind_ok (end_at y.1) _ x e in
    let same : y.0 ≡ x = cc (end.2) in
    (y.1, (λ i. Ok (same i, y.1)), ends_at y.1.at y.1.words end.0 end.1)

-- the last word
pub last_found : {X : Type 0} (P : Word → X → Type 0) (words : List Word) (x : X) (rest : List Word) → Took (IsOne P) words x rest → rest ≡ [] → (last : Word) × (words ≡ last ∷ []) × P last x
last_found P words x rest took none = (took.says.0, took.split ∙ (λ i. took.says.1 i ++ none i), took.says.2)

pub form : (proposers caller : ℕ) (word name : Word) (key : List ℕ) (rest words : List Word) → NamesCaller proposers caller word → IsKey key → words ≡ rest → IsForm proposers (word ∷ name ∷ key ∷ words) caller name key rest
form proposers caller word name key rest words is names_key same = (word, is, names_key, ap (λ (ws : List Word). word ∷ name ∷ key ∷ ws) same)

pub change_of_name-found : (proposers caller : ℕ) (word : Word) (key : List ℕ) → NamesCaller proposers caller word → IsKey key → (name : ChangeName) (left : WordsLeft) (command : Command)
    → change_of_name name caller key left ≡ Ok command → IsCommand proposers (word ∷ change_word name ∷ key ∷ left.words) command
unfolding change_of_name
change_of_name-found proposers caller word key is names_key names.Get left command e =
    let end = bind_ok (end_at left) _ command e in
    let same : Get caller key ≡ command = cc (end.2) in
    subst (IsCommand proposers (word ∷ codes "get" ∷ key ∷ left.words)) same (form proposers caller word (codes "get") key [] left.words is names_key (ends_at left.at left.words end.0 end.1))
change_of_name-found proposers caller word key is names_key names.Del left command e =
    let end = bind_ok (end_at left) _ command e in
    let same : Del caller key ≡ command = cc (end.2) in
    subst (IsCommand proposers (word ∷ codes "del" ∷ key ∷ left.words)) same (form proposers caller word (codes "del") key [] left.words is names_key (ends_at left.at left.words end.0 end.1))
change_of_name-found proposers caller word key is names_key names.Set left command e =
    let t = bind_ok (ended (text_at left)) _ command e in
    let r = ended_found (text_at left) t.0 t.1 in
    let last = last_found (λ w bs. IsTextWord bs w) left.words t.0 r.0.words (text_found left t.0 r.0 r.1) r.2 in
    let same : Set caller key t.0 ≡ command = cc (t.2) in
    subst (IsCommand proposers (word ∷ codes "set" ∷ key ∷ left.words)) same (last.0, form proposers caller word (codes "set") key (last.0 ∷ []) left.words is names_key last.1, last.2)
change_of_name-found proposers caller word key is names_key names.Num left command e =
    let n = bind_ok (ended (number_at left)) _ command e in
    let r = ended_found (number_at left) n.0 n.1 in
    let last = last_found (λ w m. i64_of w ≡ Some m) left.words n.0 r.0.words (number_found left n.0 r.0 r.1) r.2 in
    let same : Num caller key n.0 ≡ command = cc (n.2) in
    subst (IsCommand proposers (word ∷ codes "num" ∷ key ∷ left.words)) same (last.0, form proposers caller word (codes "num") key (last.0 ∷ []) left.words is names_key last.1, last.2)
change_of_name-found proposers caller word key is names_key names.Init left command e =
    let n = bind_ok (ended (number_at left)) _ command e in
    let r = ended_found (number_at left) n.0 n.1 in
    let last = last_found (λ w m. i64_of w ≡ Some m) left.words n.0 r.0.words (number_found left n.0 r.0 r.1) r.2 in
    let same : Init caller key n.0 ≡ command = cc (n.2) in
    subst (IsCommand proposers (word ∷ codes "init" ∷ key ∷ left.words)) same (last.0, form proposers caller word (codes "init") key (last.0 ∷ []) left.words is names_key last.1, last.2)
change_of_name-found proposers caller word key is names_key names.Add left command e =
    let n = bind_ok (ended (number_at left)) _ command e in
    let r = ended_found (number_at left) n.0 n.1 in
    let last = last_found (λ w m. i64_of w ≡ Some m) left.words n.0 r.0.words (number_found left n.0 r.0 r.1) r.2 in
    let same : Add caller key n.0 ≡ command = cc (n.2) in
    subst (IsCommand proposers (word ∷ codes "add" ∷ key ∷ left.words)) same (last.0, form proposers caller word (codes "add") key (last.0 ∷ []) left.words is names_key last.1, last.2)
change_of_name-found proposers caller word key is names_key names.DelVersion left command e =
    let n = bind_ok (ended (version_at left)) _ command e in
    let r = ended_found (version_at left) n.0 n.1 in
    let last = last_found (λ w m. u64_of w ≡ Some m) left.words n.0 r.0.words (version_found left n.0 r.0 r.1) r.2 in
    let same : DelVersion caller key n.0 ≡ command = cc (n.2) in
    subst (IsCommand proposers (word ∷ codes "delv" ∷ key ∷ left.words)) same (last.0, form proposers caller word (codes "delv") key (last.0 ∷ []) left.words is names_key last.1, last.2)
change_of_name-found proposers caller word key is names_key names.Cas left command e =
    let v = bind_ok (version_at left) _ command e in
    let took = version_found left v.0.0 v.0.1 v.1 in
    let t = bind_ok (ended (text_at v.0.1)) _ command v.2 in
    let r = ended_found (text_at v.0.1) t.0 t.1 in
    let last = last_found (λ w bs. IsTextWord bs w) v.0.1.words t.0 r.0.words (text_found v.0.1 t.0 r.0 r.1) r.2 in
    let split : left.words ≡ took.says.0 ∷ last.0 ∷ [] = took.split ∙ (λ i. took.says.1 i ++ last.1 i) in
    let same : Cas caller key v.0.0 t.0 ≡ command = cc (t.2) in
    subst (IsCommand proposers (word ∷ codes "cas" ∷ key ∷ left.words)) same (took.says.0, last.0, form proposers caller word (codes "cas") key (took.says.0 ∷ last.0 ∷ []) left.words is names_key split, took.says.2, last.2)
change_of_name-found proposers caller word key is names_key names.CasNum left command e =
    let v = bind_ok (version_at left) _ command e in
    let took = version_found left v.0.0 v.0.1 v.1 in
    let n = bind_ok (ended (number_at v.0.1)) _ command v.2 in
    let r = ended_found (number_at v.0.1) n.0 n.1 in
    let last = last_found (λ w m. i64_of w ≡ Some m) v.0.1.words n.0 r.0.words (number_found v.0.1 n.0 r.0 r.1) r.2 in
    let split : left.words ≡ took.says.0 ∷ last.0 ∷ [] = took.split ∙ (λ i. took.says.1 i ++ last.1 i) in
    let same : CasNum caller key v.0.0 n.0 ≡ command = cc (n.2) in
    subst (IsCommand proposers (word ∷ codes "casnum" ∷ key ∷ left.words)) same (took.says.0, last.0, form proposers caller word (codes "casnum") key (took.says.0 ∷ last.0 ∷ []) left.words is names_key split, took.says.2, last.2)
change_of_name-found proposers caller word key is names_key names.Do left command e =
    let p = bind_ok (program_at left) _ command e in
    let program = clauses_found 8 left p.0 p.1 in
    let same : Do caller key p.0 ≡ command = cc (p.2) in
    subst (IsCommand proposers (word ∷ codes "do" ∷ key ∷ left.words)) same (left.words, form proposers caller word (codes "do") key left.words left.words is names_key refl, program)

-- a form and a key, and what their reader reads behind them
abbrev pub front_at : (ChangeName → ℕ → List ℕ → WordsLeft → Result Command TextRefusal) → ℕ → WordsLeft → Result Command TextRefusal
front_at rest caller left = name_at left >>= λ name. (key_at name.1 >>= λ key. rest name.0 caller key.0 key.1)

pub front_found : (caller : ℕ) (word : Word) (rest : ChangeName → ℕ → List ℕ → WordsLeft → Result Command TextRefusal) (Says : List Word → Command → Type 0)
    → ((key : List ℕ) → IsKey key → (name : ChangeName) (left : WordsLeft) (command : Command) → rest name caller key left ≡ Ok command
    → Says (word ∷ change_word name ∷ key ∷ left.words) command)
    → (left : WordsLeft) (command : Command) → front_at rest caller left ≡ Ok command → Says (word ∷ left.words) command
unfolding name_at key_at
front_found caller word rest Says found left command e =
    let n = bind_ok (name_at left) _ command e in
    let nw = bind_ok (word_at left) _ n.0 n.1 in
    let nv = bind_ok (ok_or (change_name nw.0.0) (refusal_at why.UnknownWord left)) _ n.0 nw.2 in
    let k = bind_ok (key_at n.0.1) _ command n.2 in
    let kw = bind_ok (word_at n.0.1) _ k.0 k.1 in
    let kv = bind_ok (key_in n.0.1.at kw.0.0) _ k.0 kw.2 in
    let n_is : (nv.0, nw.0.1) ≡ n.0 = cc (nv.2) in
    let k_is : (kv.0, kw.0.1) ≡ k.0 = cc (kv.2) in
    let name : nw.0.0 ≡ change_word n.0.0 = change_named nw.0.0 nv.0 (ok_or_ok _ _ _ nv.1) ∙ ap (λ (x : ChangeName × WordsLeft). change_word x.0) n_is in
    let key = key_in-found n.0.1.at kw.0.0 kv.0 kv.1 in
    let key_is : kw.0.0 ≡ k.0.0 = key.0 ∙ ap (λ (x : List ℕ × WordsLeft). x.0) k_is in
    let good : IsKey k.0.0 = subst (λ (x : List ℕ × WordsLeft). IsKey x.0) k_is key.1 in
    let second : n.0.1.words ≡ k.0.0 ∷ k.0.1.words = word_took n.0.1.at n.0.1.words kw.0.0 kw.0.1 kw.1 ∙ (λ i. key_is i ∷ (k_is i).1.words) in
    let first : left.words ≡ change_word n.0.0 ∷ n.0.1.words = word_took left.at left.words nw.0.0 nw.0.1 nw.1 ∙ (λ i. name i ∷ (n_is i).1.words) in
    let all : word ∷ left.words ≡ word ∷ change_word n.0.0 ∷ k.0.0 ∷ k.0.1.words =
    ap (λ (ws : List Word). word ∷ ws) first ∙ ap (λ (ws : List Word). word ∷ change_word n.0.0 ∷ ws) second in
    subst (λ (ws : List Word). Says ws command) (sym all) (found k.0.0 good n.0.0 k.0.1 command k.2)

pub change_found : (proposers caller : ℕ) (word : Word) → NamesCaller proposers caller word → (left : WordsLeft) (command : Command) → change_at caller left ≡ Ok command
    → IsCommand proposers (word ∷ left.words) command
unfolding change_at
change_found proposers caller word is left command e =
    front_found caller word change_of_name (IsCommand proposers) (λ key names_key. change_of_name-found proposers caller word key is names_key) left command e

-- a form is read up to its key
pub form_again : (at caller : ℕ) (key : List ℕ) (name : ChangeName) (rest : List Word) → IsKey key → change_name (change_word name) ≡ Some name
    → change_at caller (from at (change_word name ∷ key ∷ rest)) ≡ change_of_name name caller key (from (at + 1 + 1) rest)
unfolding change_at name_at key_at
form_again at caller key name rest names_key named = rw (named, key_in-again (at + 1) key names_key) refl
