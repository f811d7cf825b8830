-- Answers of calls: what is read of words is what they say, and what they say is read.
use Rattle.std.proofs.Common.{◌≡◌, ℕ, ◌+◌, Bool, true, false, cond, List, [], ◌∷◌, ◌++◌, Option, Some, None, Ok, Err, refl, sym, ap, subst, ◌∙◌, inl, inr}
use Rattle.std.specs.Prelude.{codes}
use Rattle.std.specs.Option.{ok_or}
use Rattle.std.specs.Str.{bytes_eq}
use Rattle.std.proofs.lemmas.Slice.Eq.{bytes_eq-Decides}
use Rattle.cas_change.specs.declared.outcome.Took.{Took}
use Rattle.cas_change.specs.declared.outcome.Took.TheVariants as took
use Rattle.cas_change_text.specs.Decimal.{u64_of}
use Rattle.cas_change_text.specs.Grammar.{IsPair}
use Rattle.cas_change_text.specs.Reading.{◌>>=◌, Read, word_at, version_at, state_at, refusal_at}
use Rattle.cas_change_text.specs.Words.{Word, WordsLeft}
use Rattle.cas_change_text.specs.declared.refusal.Why.TheVariants as why
use Rattle.cas_change_text.proofs.BothWays.{bind_ok, ok_or_ok, done, from, word_took, state_found, state_again}
use Rattle.cas_change_text.proofs.EscapedTexts.{chosen}
use Rattle.cas_change_text.proofs.Misfits.{said}
use Rattle.cas_lines.specs.Command.{IsAcceptor}
use Rattle.cas_lines.specs.Reading.{acceptor_of, acceptor_at}
use Rattle.cas_lines.proofs.EventLines.{one_found, said_found}
use Rattle.cas_record.specs.declared.answer.Answer.{Answer}
use Rattle.cas_record.specs.declared.answer.Answer.TheVariants as answer
use Rattle.cas_record.specs.declared.answer.Cause.{Cause}
use Rattle.cas_record.specs.declared.answer.Cause.TheVariants as cause
use Rattle.cas_audit.specs.Spelling.Lines.{IsNumber, IsBallot, SpellsShort, IsCause, IsStop, IsTook, IsAnswer}
use Rattle.cas_audit.specs.Spelling.Reading.{u8_of, u32_of, ballot_of, said_at, named_at, behind_name, stop_name, cause_name, took_name, told_name, cause_of, cause_at, proposed_from}
use Rattle.cas_audit.specs.Spelling.Reading.{proposed_at, stop_of, stop_in, took_of, took_at, done_at, answer_at}
use Rattle.cas_audit.specs.declared.names.StopName.{StopName}
use Rattle.cas_audit.specs.declared.names.StopName.TheVariants as stops
use Rattle.cas_audit.specs.declared.names.CauseName.{CauseName}
use Rattle.cas_audit.specs.declared.names.CauseName.TheVariants as causes
use Rattle.cas_audit.specs.declared.names.TookName.{TookName}
use Rattle.cas_audit.specs.declared.names.TookName.TheVariants as tooks
use Rattle.cas_audit.proofs.Spelling.NumberWords.{u8_found, u8_says, u32_found, u32_says, u64_found, acceptor_found, acceptor_says, ballot_found, ballot_says}
use Rattle.cas_audit.proofs.Spelling.PartsBack.{said_again}

-- ---- names

-- the first of these that has the word as its name
abbrev pub first_named : {X : Type 0} → (X → Word) → List X → Word → Option X
first_named name [] word = None
first_named name (x ∷ xs) word = cond (bytes_eq word (name x)) (Some x) (first_named name xs word)

-- the word is its name
pub is_named : {X : Type 0} (name : X → Word) (xs : List X) (word : Word) (x : X) → first_named name xs word ≡ Some x → word ≡ name x
is_named name [] word x e = absurd cc
is_named name (y ∷ xs) word x e = elim (chosen (bytes_eq word (name y)) (Some y) (first_named name xs word) (Some x) e) [
  | inl p ↦
      let same : y ≡ x = cc (p.1) in
      (bytes_eq-Decides word (name y)).0 p.0 ∙ ap name same
  | inr p ↦ is_named name xs word x p.1
]

-- ---- the next word

-- the word that was read, what it says, and the words behind it
pub said_one : {X : Type 0} (value : Word → Option X) (Says : X → Word → Type 0) → ((word : Word) (x : X) → value word ≡ Some x → Says x word)
    → (left : WordsLeft) (x : X × WordsLeft) → said_at value left ≡ Ok x → (word : Word) × (left.words ≡ word ∷ x.1.words) × Says x.0 word
unfolding said_at
said_one value Says found left x e =
    let w = one_found (said value why.BadNumber) left x.0 x.1 e in
    (w.0, w.1, found w.0 x.0 (said_found value why.BadNumber left.at w.0 x.0 w.2))

-- the name that was read, and the words behind it
pub named_one : {X : Type 0} (value : Word → Option X) (name : X → Word) → ((word : Word) (x : X) → value word ≡ Some x → word ≡ name x)
    → (left : WordsLeft) (x : X × WordsLeft) → named_at value left ≡ Ok x → left.words ≡ name x.0 ∷ x.1.words
unfolding named_at
named_one value name found left x e =
    let w = one_found (said value why.UnknownWord) left x.0 x.1 e in
    w.1 ∙ ap (λ (word : Word). word ∷ x.1.words) (found w.0 x.0 (said_found value why.UnknownWord left.at w.0 x.0 w.2))

pub name_found : (name : Word) (left behind : WordsLeft) → behind_name name left ≡ Ok behind → left.words ≡ name ∷ behind.words
unfolding behind_name
name_found name left behind e =
    let w = bind_ok (word_at left) _ behind e in
    elim (chosen (bytes_eq w.0.0 name) (Ok w.0.1) (Err (refusal_at why.UnknownWord left)) (Ok behind) w.2) [
      | inl p ↦
          let same : w.0.1 ≡ behind = cc (p.1) in
          let is : w.0.0 ≡ name = (bytes_eq-Decides w.0.0 name).0 p.0 in
          word_took left.at left.words w.0.0 w.0.1 w.1 ∙ (λ i. is i ∷ (same i).words)
      | inr p ↦ absurd (cc (p.1))
    ]

-- ---- the last words

-- nothing was read behind the name
pub nothing_more : {Y : Type 0} (y : Y) (left : WordsLeft) (z : Y × WordsLeft) → done {A = Y × WordsLeft} (y, left) ≡ Ok z → z.1.words ≡ [] → (y ≡ z.0) × (left.words ≡ [])
nothing_more {Y} y left z e end =
    let same : (y, left) ≡ z = cc in
    (ap (λ (p : Y × WordsLeft). p.0) same, ap (λ (p : Y × WordsLeft). p.1.words) same ∙ end)

-- one word was read behind the name
pub pair_found : {X Y : Type 0} (value : Word → Option X) (make : X → Y) (Says : X → Word → Type 0) → ((word : Word) (x : X) → value word ≡ Some x → Says x word)
    → (name : Word) (left : WordsLeft) (z : Y × WordsLeft) → (said_at value left >>= λ x. done {A = Y × WordsLeft} (make x.0, x.1)) ≡ Ok z → z.1.words ≡ []
    → (x : X) × (make x ≡ z.0) × IsPair (name ∷ left.words) name (Says x)
pair_found {X} {Y} value make Says found name left z e end =
    let v = bind_ok (said_at value left) _ z e in
    let one = said_one value Says found left v.0 v.1 in
    let last = nothing_more (make v.0.0) v.0.1 z v.2 end in
    (v.0.0, last.0, (one.0, ap (λ (ws : List Word). name ∷ ws) (one.1 ∙ ap (λ (ws : List Word). one.0 ∷ ws) last.1), one.2))

-- a shortfall was read behind the name
short_found : {Y : Type 0} (make : ℕ → ℕ → Y) (left : WordsLeft) (z : Y × WordsLeft)
    → (said_at u32_of left >>= λ x. (said_at u32_of x.1 >>= λ y. done {A = Y × WordsLeft} (make x.0 y.0, y.1))) ≡ Ok z → z.1.words ≡ []
    → (got need : ℕ) × (make got need ≡ z.0) × SpellsShort (codes "short" ∷ left.words) got need
short_found {Y} make left z e end =
    let g = bind_ok (said_at u32_of left) _ z e in
    let n = bind_ok (said_at u32_of g.0.1) _ z g.2 in
    let got = said_one u32_of (IsNumber 32) u32_found left g.0 g.1 in
    let need = said_one u32_of (IsNumber 32) u32_found g.0.1 n.0 n.1 in
    let last = nothing_more (make g.0.0 n.0.0) n.0.1 z n.2 end in
    let split : left.words ≡ got.0 ∷ need.0 ∷ [] = got.1 ∙ ap (λ (ws : List Word). got.0 ∷ ws) (need.1 ∙ ap (λ (ws : List Word). need.0 ∷ ws) last.1) in
    (g.0.0, n.0.0, last.0, (got.0, need.0, ap (λ (ws : List Word). codes "short" ∷ ws) split, got.2, need.2))

-- ---- causes

abbrev cause_word : CauseName → Word
cause_word causes.Met = codes "met"
cause_word causes.Aged = codes "aged"
cause_word causes.Full = codes "full"
cause_word causes.Short = codes "short"
cause_word causes.Moved = codes "moved"
cause_word causes.Crashed = codes "crashed"

cause_named : (word : Word) (name : CauseName) → cause_name word ≡ Some name → word ≡ cause_word name
cause_named word name e = is_named cause_word (causes.Met ∷ causes.Aged ∷ causes.Full ∷ causes.Short ∷ causes.Moved ∷ causes.Crashed ∷ []) word name e

cause_of-found : (name : CauseName) (left : WordsLeft) (z : Cause × WordsLeft) → cause_of name left ≡ Ok z → z.1.words ≡ [] → IsCause (cause_word name ∷ left.words) z.0
unfolding cause_of acceptor_at version_at said_at
cause_of-found causes.Met left z e end =
    let p = pair_found ballot_of (λ x. cause.Met x) IsBallot ballot_found (codes "met") left z e end in
    subst (IsCause (codes "met" ∷ left.words)) p.1 p.2
cause_of-found causes.Aged left z e end =
    let p = pair_found u64_of (λ x. cause.Aged x) (IsNumber 64) u64_found (codes "aged") left z e end in
    subst (IsCause (codes "aged" ∷ left.words)) p.1 p.2
cause_of-found causes.Full left z e end =
    let p = pair_found acceptor_of (λ x. cause.Full x) IsAcceptor acceptor_found (codes "full") left z e end in
    subst (IsCause (codes "full" ∷ left.words)) p.1 p.2
cause_of-found causes.Short left z e end =
    let p = short_found (λ x y. cause.Short x y) left z e end in
    subst (IsCause (codes "short" ∷ left.words)) p.2 p.3
cause_of-found causes.Moved left z e end =
    let p = pair_found u32_of (λ x. cause.Moved x) (IsNumber 32) u32_found (codes "moved") left z e end in
    subst (IsCause (codes "moved" ∷ left.words)) p.1 p.2
cause_of-found causes.Crashed left z e end =
    let p = nothing_more cause.Crashed left z e end in
    subst (IsCause (codes "crashed" ∷ left.words)) p.0 (ap (λ (ws : List Word). codes "crashed" ∷ ws) p.1)

cause_found : (left : WordsLeft) (z : Cause × WordsLeft) → cause_at left ≡ Ok z → z.1.words ≡ [] → IsCause left.words z.0
unfolding cause_at
cause_found left z e end =
    let n = bind_ok (named_at cause_name left) _ z e in
    let first = named_one cause_name cause_word cause_named left n.0 n.1 in
    subst (λ (ws : List Word). IsCause ws z.0) (sym first) (cause_of-found n.0.0 n.0.1 z n.2 end)

-- all words of it are read
abbrev pub ReadsAll : {X : Type 0} → (WordsLeft → Read X) → List Word → X → Type 0
ReadsAll read words x = (at : ℕ) → (next : ℕ) × (read (from at words) ≡ Ok (x, from next []))

cause_again : (words : List Word) (why : Cause) → IsCause words why → ReadsAll cause_at words why
unfolding cause_at cause_of named_at acceptor_at version_at
cause_again words (cause.Met ballot) is at =
    (at + 1 + 1, ap (λ (ws : List Word). cause_at (from at ws)) is.1 ∙ rw (said_again ballot_of is.0 ballot (ballot_says is.0 ballot is.2) (at + 1) []) refl)
cause_again words (cause.Aged least) is at =
    (at + 1 + 1, ap (λ (ws : List Word). cause_at (from at ws)) is.1 ∙ rw (is.2.0) refl)
cause_again words (cause.Full acceptor) is at =
    (at + 1 + 1, ap (λ (ws : List Word). cause_at (from at ws)) is.1 ∙ rw (acceptor_says is.0 acceptor is.2) refl)
cause_again words (cause.Short got need) is at = (
  at + 1 + 1 + 1,
  ap (λ (ws : List Word). cause_at (from at ws)) is.2
      ∙ rw (said_again u32_of is.0 got (u32_says is.0 got is.3) (at + 1) (is.1 ∷ []), said_again u32_of is.1 need (u32_says is.1 need is.4) (at + 1 + 1) []) refl,
)
cause_again words (cause.Moved era) is at =
    (at + 1 + 1, ap (λ (ws : List Word). cause_at (from at ws)) is.1 ∙ rw (said_again u32_of is.0 era (u32_says is.0 era is.2) (at + 1) []) refl)
cause_again words cause.Crashed is at = (at + 1, ap (λ (ws : List Word). cause_at (from at ws)) is)

-- ---- answers by which nothing is known to be done

abbrev stop_word : StopName → Word
stop_word stops.Conflict = codes "conflict"
stop_word stops.Aged = codes "aged"
stop_word stops.Full = codes "full"
stop_word stops.Short = codes "short"
stop_word stops.Moved = codes "moved"
stop_word stops.Crashed = codes "crashed"
stop_word stops.Unsettled = codes "unsettled"
stop_word stops.Down = codes "down"
stop_word stops.Vault = codes "vault"
stop_word stops.Spent = codes "spent"
stop_word stops.Record = codes "record"
stop_word stops.No = codes "no"

stop_named : (word : Word) (name : StopName) → stop_name word ≡ Some name → word ≡ stop_word name
stop_named word name e =
    is_named stop_word
    (stops.Conflict ∷ stops.Aged ∷ stops.Full ∷ stops.Short ∷ stops.Moved ∷ stops.Crashed ∷ stops.Unsettled ∷ stops.Down ∷ stops.Vault ∷ stops.Spent ∷ stops.Record ∷ stops.No ∷ []) word name e

-- whether a last word said that the change was proposed
proposed_found : (at : ℕ) (words : List Word) (x : Bool × WordsLeft) → proposed_from at words ≡ Ok x → x.1.words ≡ [] → IsStop (codes "no" ∷ codes "memory" ∷ words) (answer.NoMemory x.0)
proposed_found at [] x e end =
    let p = nothing_more false (from at []) x e end in
    subst (λ b. IsStop (codes "no" ∷ codes "memory" ∷ []) (answer.NoMemory b)) p.0 refl
proposed_found at (word ∷ words) x e end =
    elim (chosen (bytes_eq word (codes "proposed")) (done {A = Bool × WordsLeft} (true, from (at + 1) words)) (Err (record { why = why.UnknownWord; word = at })) (Ok x) e) [
      | inl q ↦
          let p = nothing_more true (from (at + 1) words) x q.1 end in
          let is : word ≡ codes "proposed" = (bytes_eq-Decides word (codes "proposed")).0 q.0 in
          subst (λ b. IsStop (codes "no" ∷ codes "memory" ∷ word ∷ words) (answer.NoMemory b)) p.0 (λ i. codes "no" ∷ codes "memory" ∷ is i ∷ p.1 i)
      | inr q ↦ absurd (cc (q.1))
    ]

stop_of-found : (name : StopName) (left : WordsLeft) (z : Answer × WordsLeft) → stop_of name left ≡ Ok z → z.1.words ≡ [] → IsStop (stop_word name ∷ left.words) z.0
unfolding stop_of acceptor_at version_at said_at
stop_of-found stops.Conflict left z e end =
    let p = pair_found ballot_of (λ x. answer.Conflict x) IsBallot ballot_found (codes "conflict") left z e end in
    subst (IsStop (codes "conflict" ∷ left.words)) p.1 p.2
stop_of-found stops.Aged left z e end =
    let p = pair_found u64_of (λ x. answer.Aged x) (IsNumber 64) u64_found (codes "aged") left z e end in
    subst (IsStop (codes "aged" ∷ left.words)) p.1 p.2
stop_of-found stops.Full left z e end =
    let p = pair_found acceptor_of (λ x. answer.Full x) IsAcceptor acceptor_found (codes "full") left z e end in
    subst (IsStop (codes "full" ∷ left.words)) p.1 p.2
stop_of-found stops.Short left z e end =
    let p = short_found (λ x y. answer.Short x y) left z e end in
    subst (IsStop (codes "short" ∷ left.words)) p.2 p.3
stop_of-found stops.Moved left z e end =
    let p = pair_found u32_of (λ x. answer.Moved x) (IsNumber 32) u32_found (codes "moved") left z e end in
    subst (IsStop (codes "moved" ∷ left.words)) p.1 p.2
stop_of-found stops.Crashed left z e end =
    let p = nothing_more answer.Crashed left z e end in
    subst (IsStop (codes "crashed" ∷ left.words)) p.0 (ap (λ (ws : List Word). codes "crashed" ∷ ws) p.1)
stop_of-found stops.Unsettled left z e end =
    let c = bind_ok (cause_at left) _ z e in
    let p = nothing_more (answer.Unsettled c.0.0) c.0.1 z c.2 end in
    subst (IsStop (codes "unsettled" ∷ left.words)) p.0 (left.words, refl, cause_found left c.0 c.1 p.1)
stop_of-found stops.Down left z e end =
    let p = nothing_more answer.Down left z e end in
    subst (IsStop (codes "down" ∷ left.words)) p.0 (ap (λ (ws : List Word). codes "down" ∷ ws) p.1)
stop_of-found stops.Vault left z e end =
    let n = bind_ok (behind_name (codes "fault") left) _ z e in
    let p = nothing_more answer.VaultFault n.0 z n.2 end in
    subst (IsStop (codes "vault" ∷ left.words)) p.0 (ap (λ (ws : List Word). codes "vault" ∷ ws) (name_found (codes "fault") left n.0 n.1 ∙ ap (λ (ws : List Word). codes "fault" ∷ ws) p.1))
stop_of-found stops.Spent left z e end =
    let p = nothing_more answer.Spent left z e end in
    subst (IsStop (codes "spent" ∷ left.words)) p.0 (ap (λ (ws : List Word). codes "spent" ∷ ws) p.1)
stop_of-found stops.Record left z e end =
    let n = bind_ok (behind_name (codes "full") left) _ z e in
    let p = nothing_more answer.RecordFull n.0 z n.2 end in
    subst (IsStop (codes "record" ∷ left.words)) p.0 (ap (λ (ws : List Word). codes "record" ∷ ws) (name_found (codes "full") left n.0 n.1 ∙ ap (λ (ws : List Word). codes "full" ∷ ws) p.1))
stop_of-found stops.No left z e end =
    let n = bind_ok (behind_name (codes "memory") left) _ z e in
    let b = bind_ok (proposed_at n.0) _ z n.2 in
    let p = nothing_more (answer.NoMemory b.0.0) b.0.1 z b.2 end in
    subst (IsStop (codes "no" ∷ left.words)) p.0
    (subst (λ (ws : List Word). IsStop (codes "no" ∷ ws) (answer.NoMemory b.0.0)) (sym (name_found (codes "memory") left n.0 n.1)) (proposed_found n.0.at n.0.words b.0 b.1 p.1))

pub stop_found : (at : ℕ) (word : Word) (behind : WordsLeft) (z : Answer × WordsLeft) → stop_in at word behind ≡ Ok z → z.1.words ≡ [] → IsStop (word ∷ behind.words) z.0
unfolding stop_in
stop_found at word behind z e end =
    let n = bind_ok (ok_or (stop_name word) (record { why = why.UnknownWord; word = at })) _ z e in
    let is : word ≡ stop_word n.0 = stop_named word n.0 (ok_or_ok (stop_name word) (record { why = why.UnknownWord; word = at }) n.0 n.1) in
    subst (λ (w : Word). IsStop (w ∷ behind.words) z.0) (sym is) (stop_of-found n.0 behind z n.2 end)

-- its first word, and what is read behind it
pub record IsStopRead (words : List Word) (a : Answer) : Type 0 where
  pub word : Word
  pub rest : List Word
  pub are : words ≡ word ∷ rest
  pub reads : (at : ℕ) → (next : ℕ) × (stop_in at word (from (at + 1) rest) ≡ Ok (a, from next []))
  pub own : told_name word ≡ None
  pub undone : bytes_eq word (codes "done") ≡ false

pub stop_reads : (words : List Word) (a : Answer) → IsStop words a → IsStopRead words a
unfolding stop_in stop_of behind_name acceptor_at version_at
stop_reads words (answer.Done state took ballot) is = absurd is
stop_reads words (answer.Conflict met) is = record {
  word = codes "conflict";
  rest = is.0 ∷ [];
  are = is.1;
  reads = λ at. (at + 1 + 1, rw (said_again ballot_of is.0 met (ballot_says is.0 met is.2) (at + 1) []) refl);
  own = refl;
  undone = refl;
}
stop_reads words (answer.Aged least) is = record {
  word = codes "aged";
  rest = is.0 ∷ [];
  are = is.1;
  reads = λ at. (at + 1 + 1, rw (is.2.0) refl);
  own = refl;
  undone = refl;
}
stop_reads words (answer.Full acceptor) is = record {
  word = codes "full";
  rest = is.0 ∷ [];
  are = is.1;
  reads = λ at. (at + 1 + 1, rw (acceptor_says is.0 acceptor is.2) refl);
  own = refl;
  undone = refl;
}
stop_reads words (answer.Short got need) is = record {
  word = codes "short";
  rest = is.0 ∷ is.1 ∷ [];
  are = is.2;
  reads = λ at. (at + 1 + 1 + 1, rw (said_again u32_of is.0 got (u32_says is.0 got is.3) (at + 1) (is.1 ∷ []), said_again u32_of is.1 need (u32_says is.1 need is.4) (at + 1 + 1) []) refl);
  own = refl;
  undone = refl;
}
stop_reads words (answer.Moved era) is = record {
  word = codes "moved";
  rest = is.0 ∷ [];
  are = is.1;
  reads = λ at. (at + 1 + 1, rw (said_again u32_of is.0 era (u32_says is.0 era is.2) (at + 1) []) refl);
  own = refl;
  undone = refl;
}
stop_reads words answer.Crashed is = record { word = codes "crashed"; rest = []; are = is; reads = λ at. (at + 1, refl); own = refl; undone = refl }
stop_reads words (answer.Unsettled why) is = record {
  word = codes "unsettled";
  rest = is.0;
  are = is.1;
  reads = λ at. let c = cause_again is.0 why is.2 (at + 1) in (c.0, rw (c.1) refl);
  own = refl;
  undone = refl;
}
stop_reads words answer.Down is = record { word = codes "down"; rest = []; are = is; reads = λ at. (at + 1, refl); own = refl; undone = refl }
stop_reads words answer.VaultFault is = record { word = codes "vault"; rest = codes "fault" ∷ []; are = is; reads = λ at. (at + 1 + 1, refl); own = refl; undone = refl }
stop_reads words answer.Spent is = record { word = codes "spent"; rest = []; are = is; reads = λ at. (at + 1, refl); own = refl; undone = refl }
stop_reads words answer.RecordFull is = record { word = codes "record"; rest = codes "full" ∷ []; are = is; reads = λ at. (at + 1 + 1, refl); own = refl; undone = refl }
stop_reads words (answer.NoMemory false) is = record { word = codes "no"; rest = codes "memory" ∷ []; are = is; reads = λ at. (at + 1 + 1, refl); own = refl; undone = refl }
stop_reads words (answer.NoMemory true) is = record { word = codes "no"; rest = codes "memory" ∷ codes "proposed" ∷ []; are = is; reads = λ at. (at + 1 + 1 + 1, refl); own = refl; undone = refl }

-- ---- which clause acted

abbrev took_word : TookName → Word
took_word tooks.Clause = codes "clause"
took_word tooks.No = codes "no"
took_word tooks.Unfit = codes "unfit"

took_named : (word : Word) (name : TookName) → took_name word ≡ Some name → word ≡ took_word name
took_named word name e = is_named took_word (tooks.Clause ∷ tooks.No ∷ tooks.Unfit ∷ []) word name e

took_of-found : (name : TookName) (left : WordsLeft) (z : Took × WordsLeft) → took_of name left ≡ Ok z → z.1.words ≡ [] → IsTook (took_word name ∷ left.words) z.0
unfolding took_of
took_of-found tooks.Clause left z e end =
    let p = pair_found u8_of (λ x. took.Clause x) (IsNumber 8) u8_found (codes "clause") left z e end in
    subst (IsTook (codes "clause" ∷ left.words)) p.1 p.2
took_of-found tooks.No left z e end =
    let n = bind_ok (behind_name (codes "clause") left) _ z e in
    let p = nothing_more took.Nothing n.0 z n.2 end in
    subst (IsTook (codes "no" ∷ left.words)) p.0 (ap (λ (ws : List Word). codes "no" ∷ ws) (name_found (codes "clause") left n.0 n.1 ∙ ap (λ (ws : List Word). codes "clause" ∷ ws) p.1))
took_of-found tooks.Unfit left z e end =
    let p = pair_found u8_of (λ x. took.Unfit x) (IsNumber 8) u8_found (codes "unfit") left z e end in
    subst (IsTook (codes "unfit" ∷ left.words)) p.1 p.2

took_found : (left : WordsLeft) (z : Took × WordsLeft) → took_at left ≡ Ok z → z.1.words ≡ [] → IsTook left.words z.0
unfolding took_at
took_found left z e end =
    let n = bind_ok (named_at took_name left) _ z e in
    let first = named_one took_name took_word took_named left n.0 n.1 in
    subst (λ (ws : List Word). IsTook ws z.0) (sym first) (took_of-found n.0.0 n.0.1 z n.2 end)

took_again : (words : List Word) (t : Took) → IsTook words t → ReadsAll took_at words t
unfolding took_at took_of named_at behind_name
took_again words (took.Clause i) is at =
    (at + 1 + 1, ap (λ (ws : List Word). took_at (from at ws)) is.1 ∙ rw (said_again u8_of is.0 i (u8_says is.0 i is.2) (at + 1) []) refl)
took_again words took.Nothing is at = (at + 1 + 1, ap (λ (ws : List Word). took_at (from at ws)) is)
took_again words (took.Unfit i) is at =
    (at + 1 + 1, ap (λ (ws : List Word). took_at (from at ws)) is.1 ∙ rw (said_again u8_of is.0 i (u8_says is.0 i is.2) (at + 1) []) refl)

-- ---- answers

done_found : (left : WordsLeft) (z : Answer × WordsLeft) → done_at left ≡ Ok z → z.1.words ≡ [] → IsAnswer (codes "done" ∷ left.words) z.0
unfolding done_at
done_found left z e end =
    let s = bind_ok (state_at left) _ z e in
    let n = bind_ok (behind_name (codes "at") s.0.1) _ z s.2 in
    let b = bind_ok (said_at ballot_of n.0) _ z n.2 in
    let t = bind_ok (took_at b.0.1) _ z b.2 in
    let p = nothing_more (answer.Done s.0.0 t.0.0 b.0.0) t.0.1 z t.2 end in
    let state = state_found left s.0.0 s.0.1 s.1 in
    let name = name_found (codes "at") s.0.1 n.0 n.1 in
    let ballot = said_one ballot_of IsBallot ballot_found n.0 b.0 b.1 in
    let note : List Word = b.0.1.words in
    let split : left.words ≡ state.front ++ codes "at" ∷ ballot.0 ∷ note =
    state.split ∙ ap (λ (ws : List Word). state.front ++ ws) (name ∙ ap (λ (ws : List Word). codes "at" ∷ ws) ballot.1) in
    subst (IsAnswer (codes "done" ∷ left.words)) p.0
    (state.front, note, ballot.0, ap (λ (ws : List Word). codes "done" ∷ ws) split, state.says, ballot.2, took_found b.0.1 t.0 t.1 p.1)

stop_answers : (words : List Word) (a : Answer) → IsStop words a → IsAnswer words a
stop_answers words (answer.Done state took ballot) is = absurd is
stop_answers words (answer.Conflict met) is = is
stop_answers words (answer.Aged least) is = is
stop_answers words (answer.Full acceptor) is = is
stop_answers words (answer.Short got need) is = is
stop_answers words (answer.Moved era) is = is
stop_answers words answer.Crashed is = is
stop_answers words (answer.Unsettled why) is = is
stop_answers words answer.Down is = is
stop_answers words answer.VaultFault is = is
stop_answers words answer.Spent is = is
stop_answers words answer.RecordFull is = is
stop_answers words (answer.NoMemory proposed) is = is

pub answer_found : (left : WordsLeft) (z : Answer × WordsLeft) → answer_at left ≡ Ok z → z.1.words ≡ [] → IsAnswer left.words z.0
unfolding answer_at
answer_found left z e end =
    let w = bind_ok (word_at left) _ z e in
    let split : left.words ≡ w.0.0 ∷ w.0.1.words = word_took left.at left.words w.0.0 w.0.1 w.1 in
    subst (λ (ws : List Word). IsAnswer ws z.0) (sym split) (elim (chosen (bytes_eq w.0.0 (codes "done")) (done_at w.0.1) (stop_in left.at w.0.0 w.0.1) (Ok z) w.2) [
      | inl p ↦
          let is : w.0.0 ≡ codes "done" = (bytes_eq-Decides w.0.0 (codes "done")).0 p.0 in
          subst (λ (word : Word). IsAnswer (word ∷ w.0.1.words) z.0) (sym is) (done_found w.0.1 z p.1 end)
      | inr p ↦ stop_answers (w.0.0 ∷ w.0.1.words) z.0 (stop_found left.at w.0.0 w.0.1 z p.1 end)
    ])

-- an answer but for Done
stop_again : (words : List Word) (a : Answer) → IsStop words a → ReadsAll answer_at words a
unfolding answer_at
stop_again words a is at =
    let s = stop_reads words a is in
    let r = s.reads at in
    (r.0, ap (λ (ws : List Word). answer_at (from at ws)) s.are ∙ rw (s.undone, r.1) refl)

pub answer_again : (words : List Word) (a : Answer) → IsAnswer words a → ReadsAll answer_at words a
unfolding answer_at done_at behind_name
answer_again words (answer.Done state took ballot) is = λ at.
    let states : List Word = is.0 in
    let note : List Word = is.1 in
    let word : Word = is.2 in
    let s = state_again states state is.4 (at + 1) (codes "at" ∷ word ∷ note) in
    let t = took_again note took is.6 (s.0 + 1 + 1) in
    (t.0, ap (λ (ws : List Word). answer_at (from at ws)) is.3 ∙ rw (s.1, said_again ballot_of word ballot (ballot_says word ballot is.5) (s.0 + 1) note, t.1) refl)
answer_again words (answer.Conflict met) is = stop_again words (answer.Conflict met) is
answer_again words (answer.Aged least) is = stop_again words (answer.Aged least) is
answer_again words (answer.Full acceptor) is = stop_again words (answer.Full acceptor) is
answer_again words (answer.Short got need) is = stop_again words (answer.Short got need) is
answer_again words (answer.Moved era) is = stop_again words (answer.Moved era) is
answer_again words answer.Crashed is = stop_again words answer.Crashed is
answer_again words (answer.Unsettled why) is = stop_again words (answer.Unsettled why) is
answer_again words answer.Down is = stop_again words answer.Down is
answer_again words answer.VaultFault is = stop_again words answer.VaultFault is
answer_again words answer.Spent is = stop_again words answer.Spent is
answer_again words answer.RecordFull is = stop_again words answer.RecordFull is
answer_again words (answer.NoMemory proposed) is = stop_again words (answer.NoMemory proposed) is
