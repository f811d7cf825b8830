-- What is read of an operator's line behind its first word is in the grammar, and what is in the grammar is read.
use Rattle.std.proofs.Common.{◌≡◌, ℕ, ◌+◌, List, [], ◌∷◌, Some, None, Ok, refl, sym, ap, subst, ◌∙◌, inl, inr}
use Rattle.std.specs.Prelude.{codes}
use Rattle.cas_change.specs.Key.{IsKey}
use Rattle.cas_change_text.specs.declared.refusal.Why.TheVariants as why
use Rattle.cas_change_text.specs.Decimal.{u64_of}
use Rattle.cas_change_text.specs.Words.{Word, WordsLeft}
use Rattle.cas_change_text.proofs.BothWays.{bind_ok, named, from}
use Rattle.cas_change_text.proofs.Misfits.{said}
use Rattle.cas_lines.specs.declared.command.Command.{Command}
use Rattle.cas_lines.specs.declared.command.Command.TheVariants.{Join, Leave, Resize, Collect, Probe, Read}
use Rattle.cas_lines.specs.declared.operator.OpName.{OpName}
use Rattle.cas_lines.specs.declared.operator.OpName.TheVariants as ops
use Rattle.cas_lines.specs.Command.{IsAcceptor, IsCommand, IsSize}
use Rattle.cas_lines.specs.Reading.{ended, acceptor_at, key_in, key_at, op_name, op_name_at, op_of_name, op_at, size_at, size_of}
use Rattle.cas_lines.proofs.ChangeLines.{key_in-found, key_in-again}
use Rattle.cas_lines.proofs.EventLines.{one_found, last_one_found, said_found, last_parts, last_acceptor, last_acceptor-again, within_again, within_some}

-- the word that names what an operator's line asks for
abbrev pub op_word : OpName → Word
op_word ops.Join = codes "join"
op_word ops.Leave = codes "leave"
op_word ops.Resize = codes "resize"
op_word ops.Collect = codes "collect"
op_word ops.Probe = codes "probe"
op_word ops.Read = codes "read"

op_named : (word : Word) (name : OpName) → op_name word ≡ Some name → word ≡ op_word name
op_named word name e = elim (named word (codes "join") ops.Join name _ e) [
  | inl p ↦ p.0 ∙ ap op_word p.1
  | inr e1 ↦ elim (named word (codes "leave") ops.Leave name _ e1) [
    | inl p ↦ p.0 ∙ ap op_word p.1
    | inr e2 ↦ elim (named word (codes "resize") ops.Resize name _ e2) [
      | inl p ↦ p.0 ∙ ap op_word p.1
      | inr e3 ↦ elim (named word (codes "collect") ops.Collect name _ e3) [
        | inl p ↦ p.0 ∙ ap op_word p.1
        | inr e4 ↦ elim (named word (codes "probe") ops.Probe name _ e4) [
          | inl p ↦ p.0 ∙ ap op_word p.1
          | inr e5 ↦ elim (named word (codes "read") ops.Read name None e5) [
            | inl p ↦ p.0 ∙ ap op_word p.1
            | inr e6 ↦ absurd cc
          ]
        ]
      ]
    ]
  ]
]

op_name_found : (left : WordsLeft) (name : OpName) (after : WordsLeft) → op_name_at left ≡ Ok (name, after) → left.words ≡ op_word name ∷ after.words
unfolding op_name_at
op_name_found left name after e =
    let w = one_found (said op_name why.UnknownWord) left name after e in
    let is : w.0 ≡ op_word name = op_named w.0 name (said_found op_name why.UnknownWord left.at w.0 name w.2) in
    w.1 ∙ ap (λ (word : Word). word ∷ after.words) is

-- ---- sizes
size_found : (word : Word) (size : ℕ) → size_of word ≡ Some size → IsSize size word
size_found word size e = let w = within_some 1 9 (u64_of word) size e in (w.0, w.1, w.2)

size_again : (word : Word) (size : ℕ) → IsSize size word → size_of word ≡ Some size
size_again word size is = within_again 1 9 (u64_of word) size is.0 is.1 is.2

-- the word is the size that was read, and another one may follow it
size_first : (left : WordsLeft) (size : ℕ) (after : WordsLeft) → size_at left ≡ Ok (size, after) → (word : Word) × (left.words ≡ word ∷ after.words) × IsSize size word
unfolding size_at
size_first left size after e =
    let w = one_found (said size_of why.BadNumber) left size after e in
    (w.0, w.1, size_found w.0 size (said_found size_of why.BadNumber left.at w.0 size w.2))

size_last : (left : WordsLeft) (size : ℕ) → ended (size_at left) ≡ Ok size → (word : Word) × (left.words ≡ word ∷ []) × IsSize size word
unfolding size_at
size_last left size e =
    let w = last_one_found (said size_of why.BadNumber) left size e in
    (w.0, w.1, size_found w.0 size (said_found size_of why.BadNumber left.at w.0 size w.2))

-- the last word is the key that was read
last_key : (left : WordsLeft) (key : List ℕ) → ended (key_at left) ≡ Ok key → (left.words ≡ key ∷ []) × IsKey key
unfolding key_at
last_key left key e =
    let word = last_one_found key_in left key e in
    let is = key_in-found left.at word.0 key word.2 in
    (word.1 ∙ ap (λ (w : Word). w ∷ []) is.0, is.1)

op_of_name-found : (proposers : ℕ) (name : OpName) (left : WordsLeft) (command : Command) → op_of_name name left ≡ Ok command → IsCommand proposers (codes "op" ∷ op_word name ∷ left.words) command
unfolding op_of_name
op_of_name-found proposers ops.Join left command e =
    let a = bind_ok (ended (acceptor_at left)) _ command e in
    let last = last_acceptor left a.0 a.1 in
    let same : Join a.0 ≡ command = cc (a.2) in
    subst (IsCommand proposers (codes "op" ∷ codes "join" ∷ left.words)) same (last_parts (codes "op") (codes "join") left.words (codes "join" ∷ left.words) last.0 (IsAcceptor a.0) refl last.1 last.2)
op_of_name-found proposers ops.Leave left command e =
    let a = bind_ok (ended (acceptor_at left)) _ command e in
    let last = last_acceptor left a.0 a.1 in
    let same : Leave a.0 ≡ command = cc (a.2) in
    subst (IsCommand proposers (codes "op" ∷ codes "leave" ∷ left.words)) same (last_parts (codes "op") (codes "leave") left.words (codes "leave" ∷ left.words) last.0 (IsAcceptor a.0) refl last.1 last.2)
op_of_name-found proposers ops.Resize left command e =
    let p = bind_ok (size_at left) _ command e in
    let a = bind_ok (ended (size_at p.0.1)) _ command p.2 in
    let first = size_first left p.0.0 p.0.1 p.1 in
    let second = size_last p.0.1 a.0 a.1 in
    let same : Resize p.0.0 a.0 ≡ command = cc (a.2) in
    let split : codes "op" ∷ codes "resize" ∷ left.words ≡ codes "op" ∷ codes "resize" ∷ first.0 ∷ second.0 ∷ [] =
    ap (λ (ws : List Word). codes "op" ∷ codes "resize" ∷ ws) (first.1 ∙ ap (λ (ws : List Word). first.0 ∷ ws) second.1) in
    subst (IsCommand proposers (codes "op" ∷ codes "resize" ∷ left.words)) same (first.0, second.0, split, first.2, second.2)
op_of_name-found proposers ops.Collect left command e =
    let k = bind_ok (ended (key_at left)) _ command e in
    let last = last_key left k.0 k.1 in
    let same : Collect k.0 ≡ command = cc (k.2) in
    subst (IsCommand proposers (codes "op" ∷ codes "collect" ∷ left.words)) same (ap (λ (ws : List Word). codes "op" ∷ codes "collect" ∷ ws) last.0, last.1)
op_of_name-found proposers ops.Probe left command e =
    let k = bind_ok (ended (key_at left)) _ command e in
    let last = last_key left k.0 k.1 in
    let same : Probe k.0 ≡ command = cc (k.2) in
    subst (IsCommand proposers (codes "op" ∷ codes "probe" ∷ left.words)) same (ap (λ (ws : List Word). codes "op" ∷ codes "probe" ∷ ws) last.0, last.1)
op_of_name-found proposers ops.Read left command e =
    let k = bind_ok (ended (key_at left)) _ command e in
    let last = last_key left k.0 k.1 in
    let same : Read k.0 ≡ command = cc (k.2) in
    subst (IsCommand proposers (codes "op" ∷ codes "read" ∷ left.words)) same (ap (λ (ws : List Word). codes "op" ∷ codes "read" ∷ ws) last.0, last.1)

pub op_found : (proposers : ℕ) (left : WordsLeft) (command : Command) → op_at left ≡ Ok command → IsCommand proposers (codes "op" ∷ left.words) command
unfolding op_at
op_found proposers left command e =
    let n = bind_ok (op_name_at left) _ command e in
    let first = op_name_found left n.0.0 n.0.1 n.1 in
    subst (λ (ws : List Word). IsCommand proposers (codes "op" ∷ ws) command) (sym first) (op_of_name-found proposers n.0.0 n.0.1 command n.2)

pub join_again : (at : ℕ) (id : ℕ) (word : Word) → IsAcceptor id word → op_at (from at (codes "join" ∷ word ∷ [])) ≡ Ok (Join id)
unfolding op_at op_name_at op_of_name
join_again at id word is = rw (last_acceptor-again (at + 1) word id is) refl

pub leave_again : (at : ℕ) (id : ℕ) (word : Word) → IsAcceptor id word → op_at (from at (codes "leave" ∷ word ∷ [])) ≡ Ok (Leave id)
unfolding op_at op_name_at op_of_name
leave_again at id word is = rw (last_acceptor-again (at + 1) word id is) refl

pub resize_again : (at need_prep need_acc : ℕ) (first second : Word) → IsSize need_prep first → IsSize need_acc second
    → op_at (from at (codes "resize" ∷ first ∷ second ∷ [])) ≡ Ok (Resize need_prep need_acc)
unfolding op_at op_name_at op_of_name size_at
resize_again at need_prep need_acc first second is_first is_second = rw (size_again first need_prep is_first, size_again second need_acc is_second) refl

pub collect_again : (at : ℕ) (key : List ℕ) → IsKey key → op_at (from at (codes "collect" ∷ key ∷ [])) ≡ Ok (Collect key)
unfolding op_at op_name_at op_of_name key_at
collect_again at key names_key = rw (key_in-again (at + 1) key names_key) refl

pub probe_again : (at : ℕ) (key : List ℕ) → IsKey key → op_at (from at (codes "probe" ∷ key ∷ [])) ≡ Ok (Probe key)
unfolding op_at op_name_at op_of_name key_at
probe_again at key names_key = rw (key_in-again (at + 1) key names_key) refl

pub read_again : (at : ℕ) (key : List ℕ) → IsKey key → op_at (from at (codes "read" ∷ key ∷ [])) ≡ Ok (Read key)
unfolding op_at op_name_at op_of_name key_at
read_again at key names_key = rw (key_in-again (at + 1) key names_key) refl
