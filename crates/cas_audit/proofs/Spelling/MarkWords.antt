-- Marks: what is read of a line's words is what they say, and what they say is read.
use Rattle.std.proofs.Common.{◌≡◌, ℕ, ◌+◌, Bool, true, false, List, [], ◌∷◌, ◌++◌, Option, Some, None, Result, Ok, Err, refl, sym, ap, subst, ◌∙◌, append-nil, inl, inr}
use Rattle.std.specs.Prelude.{◌==◌, codes, IfOk}
use Rattle.std.specs.Option.{ok_or}
use Rattle.std.specs.Str.{bytes_eq}
use Rattle.std.proofs.lemmas.Bool.{eqb-true}
use Rattle.std.proofs.lemmas.Slice.Eq.{bytes_eq-Decides}
use Rattle.cas_change.specs.Key.{IsKey}
use Rattle.cas_change_text.specs.Decimal.{u64_of}
use Rattle.cas_change.specs.declared.state.State.{State}
use Rattle.cas_change_text.specs.Grammar.{IsState}
use Rattle.cas_change_text.specs.Reading.{◌>>=◌, word_at, state_at, program_at, refusal_at, after_v}
use Rattle.cas_change_text.specs.Words.{Word, WordsLeft, words_of, all_of}
use Rattle.cas_change_text.specs.declared.refusal.Why.TheVariants as why
use Rattle.cas_change_text.proofs.BothWays.{bind_ok, ok_or_ok, done, from, word_took, state_found, state_again, clauses_found, clauses_again}
use Rattle.cas_change_text.proofs.EscapedTexts.{chosen}
use Rattle.cas_lines.specs.Command.{IsAcceptor}
use Rattle.cas_lines.specs.Reading.{acceptor_of, acceptor_at, key_in, key_at, ended}
use Rattle.cas_lines.proofs.ChangeLines.{key_in-found, key_in-again, ended_found}
use Rattle.cas_lines.proofs.EventLines.{one_found}
use Rattle.cas_quorum.specs.declared.fault.PlanFault.TheVariants as fault
use Rattle.cas_record.specs.declared.mark.Acknowledgment.{Acknowledgment}
use Rattle.cas_record.specs.declared.mark.Mark.{Mark}
use Rattle.cas_record.specs.declared.mark.Mark.TheVariants.{Begun, Proposed, Voted, Acked, Floor, EraEntered, Ended, Harmed, Told}
use Rattle.cas_record.specs.declared.mark.Proposal.{Proposal}
use Rattle.cas_record.specs.declared.operator.Asked.{Asked}
use Rattle.cas_record.specs.declared.operator.Asked.TheVariants as asked
use Rattle.cas_record.specs.declared.operator.OpAnswer.{OpAnswer}
use Rattle.cas_record.specs.declared.operator.OpAnswer.TheVariants as told
use Rattle.cas_audit.specs.Spelling.Lines.{IsNumber, SpellsCall, IsBallot, IsSet, IsVersion, SpellsAsked, IsFinished, SpellsTold, IsQuorum, harm_word, IsMarkLine, IsCountLine}
use Rattle.cas_audit.specs.Spelling.Reading.{u8_of, u32_of, call_of, ballot_of, members_of, said_at, named_at, behind_name, numbered_at, marked_version_at, mark_name, asked_name, told_name}
use Rattle.cas_audit.specs.Spelling.Reading.{harm_name, answer_at, stop_in, asked_of, asked_at, finished_at, resized_at, collected_at, not_in, not_at, told_of, told_by, told_at, begun_at, quorum_at}
use Rattle.cas_audit.specs.Spelling.Reading.{proposal_at, acknowledgment_at, voted_at, floor_at, entered_at, ended_at, harmed_at, told_mark_at, mark_of, mark_at, line_mark}
use Rattle.cas_audit.specs.Spelling.Texts.{count_at}
use Rattle.cas_audit.specs.declared.names.AskedName.{AskedName}
use Rattle.cas_audit.specs.declared.names.AskedName.TheVariants as asks
use Rattle.cas_audit.specs.declared.names.MarkName.{MarkName}
use Rattle.cas_audit.specs.declared.names.MarkName.TheVariants as marks
use Rattle.cas_audit.specs.declared.names.ToldName.{ToldName}
use Rattle.cas_audit.specs.declared.names.ToldName.TheVariants as tells
use Rattle.cas_audit.proofs.Spelling.AnswerWords.{is_named, said_one, named_one, name_found, nothing_more, pair_found, ReadsAll, stop_found, stop_reads, answer_found, answer_again}
use Rattle.cas_audit.proofs.Spelling.NumberWords.{u8_found, u8_says, u32_found, u32_says, u64_found, acceptor_found, acceptor_says, call_found, call_says, ballot_found, ballot_says}
use Rattle.cas_audit.proofs.Spelling.NumberWords.{set_found, set_says}
use Rattle.cas_audit.proofs.Spelling.PartsBack.{said_again}

-- ---- the next words

acceptor_one : (left : WordsLeft) (x : ℕ × WordsLeft) → acceptor_at left ≡ Ok x → (word : Word) × (left.words ≡ word ∷ x.1.words) × IsAcceptor x.0 word
unfolding acceptor_at said_at
acceptor_one left x e = said_one acceptor_of IsAcceptor acceptor_found left x e

acceptor_read : (word : Word) (id : ℕ) → IsAcceptor id word → (at : ℕ) (rest : List Word) → acceptor_at (from at (word ∷ rest)) ≡ Ok (id, from (at + 1) rest)
unfolding acceptor_at
acceptor_read word id is at rest = rw (acceptor_says word id is) refl

key_one : (left : WordsLeft) (x : List ℕ × WordsLeft) → key_at left ≡ Ok x → (left.words ≡ x.0 ∷ x.1.words) × IsKey x.0
unfolding key_at
key_one left x e =
    let w = one_found key_in left x.0 x.1 e in
    let key = key_in-found left.at w.0 x.0 w.2 in
    (w.1 ∙ ap (λ (word : Word). word ∷ x.1.words) key.0, key.1)

key_read : (key : List ℕ) → IsKey key → (at : ℕ) (rest : List Word) → key_at (from at (key ∷ rest)) ≡ Ok (key, from (at + 1) rest)
unfolding key_at
key_read key is at rest = rw (key_in-again at key is) refl

call_one : (left : WordsLeft) (x : (ℕ × ℕ) × WordsLeft) → said_at call_of left ≡ Ok x → (word : Word) × (left.words ≡ word ∷ x.1.words) × SpellsCall x.0.0 x.0.1 word
call_one left x e = said_one call_of (λ c. SpellsCall c.0 c.1) call_found left x e

call_read : (word : Word) (caller call : ℕ) → SpellsCall caller call word → (at : ℕ) (rest : List Word) → said_at call_of (from at (word ∷ rest)) ≡ Ok ((caller, call), from (at + 1) rest)
call_read word caller call is at rest = said_again call_of word (caller, call) (call_says word caller call is) at rest

u32_read : (word : Word) (n : ℕ) → IsNumber 32 n word → (at : ℕ) (rest : List Word) → said_at u32_of (from at (word ∷ rest)) ≡ Ok (n, from (at + 1) rest)
u32_read word n is at rest = said_again u32_of word n (u32_says word n is) at rest

-- a number behind a name
numbered_one : (name : Word) (left : WordsLeft) (x : ℕ × WordsLeft) → numbered_at name left ≡ Ok x → (word : Word) × (left.words ≡ name ∷ word ∷ x.1.words) × IsNumber 32 x.0 word
unfolding numbered_at
numbered_one name left x e =
    let n = bind_ok (behind_name name left) _ x e in
    let one = said_one u32_of (IsNumber 32) u32_found n.0 x n.2 in
    (one.0, name_found name left n.0 n.1 ∙ ap (λ (ws : List Word). name ∷ ws) one.1, one.2)

-- ---- an era and a quorum

quorum_found : (left : WordsLeft) (z : (ℕ × List ℕ) × WordsLeft) → quorum_at left ≡ Ok z → z.1.words ≡ [] → IsQuorum left.words z.0.0 z.0.1
unfolding quorum_at
quorum_found left z e end =
    let n = bind_ok (numbered_at (codes "era") left) _ z e in
    let b = bind_ok (behind_name (codes "by") n.0.1) _ z n.2 in
    let m = bind_ok (said_at members_of b.0) _ z b.2 in
    let read : ℕ × List ℕ = (n.0.0, m.0.0) in
    let p = nothing_more read m.0.1 z m.2 end in
    let era = numbered_one (codes "era") left n.0 n.1 in
    let set = said_one members_of IsSet set_found b.0 m.0 m.1 in
    let behind : b.0.words ≡ set.0 ∷ [] = set.1 ∙ ap (λ (ws : List Word). set.0 ∷ ws) p.1 in
    let by : n.0.1.words ≡ codes "by" ∷ set.0 ∷ [] = name_found (codes "by") n.0.1 b.0 b.1 ∙ ap (λ (ws : List Word). codes "by" ∷ ws) behind in
    subst (λ (q : ℕ × List ℕ). IsQuorum left.words q.0 q.1) p.0
    (era.0, set.0, era.1 ∙ ap (λ (ws : List Word). codes "era" ∷ era.0 ∷ ws) by, era.2, set.2)

quorum_again : (words : List Word) (era : ℕ) (ids : List ℕ) → IsQuorum words era ids → ReadsAll quorum_at words (era, ids)
unfolding quorum_at numbered_at behind_name
quorum_again words era ids is at = (
  at + 1 + 1 + 1 + 1,
  ap (λ (ws : List Word). quorum_at (from at ws)) is.2
      ∙ rw (u32_read is.0 era is.3 (at + 1) (codes "by" ∷ is.1 ∷ []), said_again members_of is.1 ids (set_says is.1 ids is.4) (at + 1 + 1 + 1) []) refl,
)

-- ---- what operators ask for

abbrev asked_word : AskedName → Word
asked_word asks.Join = codes "join"
asked_word asks.Leave = codes "leave"
asked_word asks.Collect = codes "collect"
asked_word asks.Probe = codes "probe"
asked_word asks.Resize = codes "resize"
asked_word asks.Read = codes "read"

asked_named : (word : Word) (name : AskedName) → asked_name word ≡ Some name → word ≡ asked_word name
asked_named word name e = is_named asked_word (asks.Join ∷ asks.Leave ∷ asks.Collect ∷ asks.Probe ∷ asks.Resize ∷ asks.Read ∷ []) word name e

-- the words that were read, and those behind them
abbrev AskedOf : List Word → Asked × WordsLeft → Type 0
AskedOf words z = (front : List Word) × (words ≡ front ++ z.1.words) × SpellsAsked front z.0

asked_of-found : (name : AskedName) (left : WordsLeft) (z : Asked × WordsLeft) → asked_of name left ≡ Ok z → AskedOf (asked_word name ∷ left.words) z
unfolding asked_of
asked_of-found asks.Join left z e =
    let a = bind_ok (acceptor_at left) _ z e in
    let one = acceptor_one left a.0 a.1 in
    let made : Asked × WordsLeft = (asked.Join a.0.0, a.0.1) in
    let same : made ≡ z = cc (a.2) in
    subst (AskedOf (codes "join" ∷ left.words)) same (codes "join" ∷ one.0 ∷ [], ap (λ (ws : List Word). codes "join" ∷ ws) one.1, (one.0, refl, one.2))
asked_of-found asks.Leave left z e =
    let a = bind_ok (acceptor_at left) _ z e in
    let one = acceptor_one left a.0 a.1 in
    let made : Asked × WordsLeft = (asked.Leave a.0.0, a.0.1) in
    let same : made ≡ z = cc (a.2) in
    subst (AskedOf (codes "leave" ∷ left.words)) same (codes "leave" ∷ one.0 ∷ [], ap (λ (ws : List Word). codes "leave" ∷ ws) one.1, (one.0, refl, one.2))
asked_of-found asks.Collect left z e =
    let k = bind_ok (key_at left) _ z e in
    let one = key_one left k.0 k.1 in
    let made : Asked × WordsLeft = (asked.Collect k.0.0, k.0.1) in
    let same : made ≡ z = cc (k.2) in
    subst (AskedOf (codes "collect" ∷ left.words)) same (codes "collect" ∷ k.0.0 ∷ [], ap (λ (ws : List Word). codes "collect" ∷ ws) one.0, (refl, one.1))
asked_of-found asks.Probe left z e =
    let k = bind_ok (key_at left) _ z e in
    let one = key_one left k.0 k.1 in
    let made : Asked × WordsLeft = (asked.Probe k.0.0, k.0.1) in
    let same : made ≡ z = cc (k.2) in
    subst (AskedOf (codes "probe" ∷ left.words)) same (codes "probe" ∷ k.0.0 ∷ [], ap (λ (ws : List Word). codes "probe" ∷ ws) one.0, (refl, one.1))
asked_of-found asks.Resize left z e =
    let p = bind_ok (said_at u32_of left) _ z e in
    let a = bind_ok (said_at u32_of p.0.1) _ z p.2 in
    let prep = said_one u32_of (IsNumber 32) u32_found left p.0 p.1 in
    let acc = said_one u32_of (IsNumber 32) u32_found p.0.1 a.0 a.1 in
    let made : Asked × WordsLeft = (asked.Resize p.0.0 a.0.0, a.0.1) in
    let same : made ≡ z = cc (a.2) in
    let split : left.words ≡ prep.0 ∷ acc.0 ∷ a.0.1.words = prep.1 ∙ ap (λ (ws : List Word). prep.0 ∷ ws) acc.1 in
    subst (AskedOf (codes "resize" ∷ left.words)) same (codes "resize" ∷ prep.0 ∷ acc.0 ∷ [], ap (λ (ws : List Word). codes "resize" ∷ ws) split, (prep.0, acc.0, refl, prep.2, acc.2))
asked_of-found asks.Read left z e =
    let k = bind_ok (key_at left) _ z e in
    let one = key_one left k.0 k.1 in
    let made : Asked × WordsLeft = (asked.Read k.0.0, k.0.1) in
    let same : made ≡ z = cc (k.2) in
    subst (AskedOf (codes "read" ∷ left.words)) same (codes "read" ∷ k.0.0 ∷ [], ap (λ (ws : List Word). codes "read" ∷ ws) one.0, (refl, one.1))

asked_found : (left : WordsLeft) (z : Asked × WordsLeft) → asked_at left ≡ Ok z → AskedOf left.words z
unfolding asked_at
asked_found left z e =
    let n = bind_ok (named_at asked_name left) _ z e in
    let first = named_one asked_name asked_word asked_named left n.0 n.1 in
    subst (λ (ws : List Word). AskedOf ws z) (sym first) (asked_of-found n.0.0 n.0.1 z n.2)

asked_again : (words : List Word) (a : Asked) → SpellsAsked words a → (at : ℕ) (rest : List Word) → (next : ℕ) × (asked_at (from at (words ++ rest)) ≡ Ok (a, from next rest))
unfolding asked_at asked_of named_at
asked_again words (asked.Join id) is at rest = (at + 1 + 1, ap (λ (ws : List Word). asked_at (from at (ws ++ rest))) is.1 ∙ rw (acceptor_read is.0 id is.2 (at + 1) rest) refl)
asked_again words (asked.Leave id) is at rest = (at + 1 + 1, ap (λ (ws : List Word). asked_at (from at (ws ++ rest))) is.1 ∙ rw (acceptor_read is.0 id is.2 (at + 1) rest) refl)
asked_again words (asked.Collect key) is at rest = (at + 1 + 1, ap (λ (ws : List Word). asked_at (from at (ws ++ rest))) is.0 ∙ rw (key_read key is.1 (at + 1) rest) refl)
asked_again words (asked.Probe key) is at rest = (at + 1 + 1, ap (λ (ws : List Word). asked_at (from at (ws ++ rest))) is.0 ∙ rw (key_read key is.1 (at + 1) rest) refl)
asked_again words (asked.Resize need_prep need_acc) is at rest = (
  at + 1 + 1 + 1,
  ap (λ (ws : List Word). asked_at (from at (ws ++ rest))) is.2 ∙ rw (u32_read is.0 need_prep is.3 (at + 1) (is.1 ∷ rest), u32_read is.1 need_acc is.4 (at + 1 + 1) rest) refl,
)
asked_again words (asked.Read key) is at rest = (at + 1 + 1, ap (λ (ws : List Word). asked_at (from at (ws ++ rest))) is.0 ∙ rw (key_read key is.1 (at + 1) rest) refl)

-- ---- what operators are answered

abbrev told_word : ToldName → Word
told_word tells.Joined = codes "joined"
told_word tells.Left = codes "left"
told_word tells.Resized = codes "resized"
told_word tells.Already = codes "already"
told_word tells.Not = codes "not"
told_word tells.Id = codes "id"
told_word tells.Too = codes "too"
told_word tells.Last = codes "last"
told_word tells.Bad = codes "bad"
told_word tells.Busy = codes "busy"
told_word tells.Collected = codes "collected"
told_word tells.Absent = codes "absent"
told_word tells.Proposer = codes "proposer"

told_named : (word : Word) (name : ToldName) → told_name word ≡ Some name → word ≡ told_word name
told_named word name e =
    is_named told_word
    (tells.Joined ∷ tells.Left ∷ tells.Resized ∷ tells.Already ∷ tells.Not ∷ tells.Id ∷ tells.Too ∷ tells.Last ∷ tells.Bad ∷ tells.Busy ∷ tells.Collected ∷ tells.Absent ∷ tells.Proposer ∷ []) word name e

finished_found : (name : Word) (left : WordsLeft) (x : (ℕ × ℕ × ℕ) × WordsLeft) → finished_at left ≡ Ok x → x.1.words ≡ [] → IsFinished (name ∷ left.words) name x.0.0 x.0.1 x.0.2
unfolding finished_at
finished_found name left x e end =
    let a = bind_ok (acceptor_at left) _ x e in
    let n = bind_ok (numbered_at (codes "era") a.0.1) _ x a.2 in
    let r = bind_ok (numbered_at (codes "rescanned") n.0.1) _ x n.2 in
    let read : ℕ × ℕ × ℕ = (a.0.0, n.0.0, r.0.0) in
    let p = nothing_more read r.0.1 x r.2 end in
    let who = acceptor_one left a.0 a.1 in
    let era = numbered_one (codes "era") a.0.1 n.0 n.1 in
    let count = numbered_one (codes "rescanned") n.0.1 r.0 r.1 in
    let last : n.0.1.words ≡ codes "rescanned" ∷ count.0 ∷ [] = count.1 ∙ ap (λ (ws : List Word). codes "rescanned" ∷ count.0 ∷ ws) p.1 in
    let middle : a.0.1.words ≡ codes "era" ∷ era.0 ∷ codes "rescanned" ∷ count.0 ∷ [] = era.1 ∙ ap (λ (ws : List Word). codes "era" ∷ era.0 ∷ ws) last in
    subst (λ (f : ℕ × ℕ × ℕ). IsFinished (name ∷ left.words) name f.0 f.1 f.2) p.0
    (who.0, era.0, count.0, ap (λ (ws : List Word). name ∷ ws) (who.1 ∙ ap (λ (ws : List Word). who.0 ∷ ws) middle), who.2, era.2, count.2)

resized_found : (left : WordsLeft) (z : OpAnswer × WordsLeft) → resized_at left ≡ Ok z → z.1.words ≡ [] → SpellsTold (codes "resized" ∷ left.words) z.0
unfolding resized_at
resized_found left z e end =
    let p = bind_ok (said_at u32_of left) _ z e in
    let a = bind_ok (said_at u32_of p.0.1) _ z p.2 in
    let n = bind_ok (numbered_at (codes "era") a.0.1) _ z a.2 in
    let r = bind_ok (numbered_at (codes "rescanned") n.0.1) _ z n.2 in
    let done = nothing_more (told.Resized p.0.0 a.0.0 n.0.0 r.0.0) r.0.1 z r.2 end in
    let prep = said_one u32_of (IsNumber 32) u32_found left p.0 p.1 in
    let acc = said_one u32_of (IsNumber 32) u32_found p.0.1 a.0 a.1 in
    let era = numbered_one (codes "era") a.0.1 n.0 n.1 in
    let count = numbered_one (codes "rescanned") n.0.1 r.0 r.1 in
    let last : n.0.1.words ≡ codes "rescanned" ∷ count.0 ∷ [] = count.1 ∙ ap (λ (ws : List Word). codes "rescanned" ∷ count.0 ∷ ws) done.1 in
    let middle : a.0.1.words ≡ codes "era" ∷ era.0 ∷ codes "rescanned" ∷ count.0 ∷ [] = era.1 ∙ ap (λ (ws : List Word). codes "era" ∷ era.0 ∷ ws) last in
    let split : left.words ≡ prep.0 ∷ acc.0 ∷ codes "era" ∷ era.0 ∷ codes "rescanned" ∷ count.0 ∷ [] =
    prep.1 ∙ ap (λ (ws : List Word). prep.0 ∷ ws) (acc.1 ∙ ap (λ (ws : List Word). acc.0 ∷ ws) middle) in
    subst (SpellsTold (codes "resized" ∷ left.words)) done.0
    (prep.0, acc.0, era.0, count.0, ap (λ (ws : List Word). codes "resized" ∷ ws) split, prep.2, acc.2, era.2, count.2)

collected_found : (left : WordsLeft) (z : OpAnswer × WordsLeft) → collected_at left ≡ Ok z → z.1.words ≡ [] → SpellsTold (codes "collected" ∷ left.words) z.0
unfolding collected_at
collected_found left z e end =
    let k = bind_ok (key_at left) _ z e in
    let a = bind_ok (behind_name (codes "at") k.0.1) _ z k.2 in
    let b = bind_ok (said_at ballot_of a.0) _ z a.2 in
    let r = bind_ok (numbered_at (codes "removed") b.0.1) _ z b.2 in
    let n = bind_ok (numbered_at (codes "kept") r.0.1) _ z r.2 in
    let p = nothing_more (told.Collected k.0.0 b.0.0 r.0.0 n.0.0) n.0.1 z n.2 end in
    let key = key_one left k.0 k.1 in
    let name = name_found (codes "at") k.0.1 a.0 a.1 in
    let ballot = said_one ballot_of IsBallot ballot_found a.0 b.0 b.1 in
    let removed = numbered_one (codes "removed") b.0.1 r.0 r.1 in
    let kept = numbered_one (codes "kept") r.0.1 n.0 n.1 in
    let last : r.0.1.words ≡ codes "kept" ∷ kept.0 ∷ [] = kept.1 ∙ ap (λ (ws : List Word). codes "kept" ∷ kept.0 ∷ ws) p.1 in
    let counts : b.0.1.words ≡ codes "removed" ∷ removed.0 ∷ codes "kept" ∷ kept.0 ∷ [] = removed.1 ∙ ap (λ (ws : List Word). codes "removed" ∷ removed.0 ∷ ws) last in
    let behind : k.0.1.words ≡ codes "at" ∷ ballot.0 ∷ codes "removed" ∷ removed.0 ∷ codes "kept" ∷ kept.0 ∷ [] =
    name ∙ ap (λ (ws : List Word). codes "at" ∷ ws) (ballot.1 ∙ ap (λ (ws : List Word). ballot.0 ∷ ws) counts) in
    subst (SpellsTold (codes "collected" ∷ left.words)) p.0
    (ballot.0, removed.0, kept.0, ap (λ (ws : List Word). codes "collected" ∷ ws) (key.0 ∙ ap (λ (ws : List Word). k.0.0 ∷ ws) behind), key.1, ballot.2, removed.2, kept.2)

behind_v : (word digits : Word) → after_v word ≡ Some digits → word ≡ codes "v" ++ digits
behind_v [] digits e = absurd cc
behind_v (byte ∷ bytes) digits e = elim (chosen (byte == 118) (Some bytes) None (Some digits) e) [
  | inl p ↦
      let same : bytes ≡ digits = cc (p.1) in
      let v : byte ≡ 118 = eqb-true byte 118 p.0 in
      λ i. v i ∷ same i
  | inr p ↦ absurd (cc (p.1))
]

version_found : (left : WordsLeft) (z : ℕ × WordsLeft) → marked_version_at left ≡ Ok z → (word : Word) × (left.words ≡ word ∷ z.1.words) × IsVersion z.0 word
unfolding marked_version_at
version_found left z e =
    let w = bind_ok (word_at left) _ z e in
    let d = bind_ok (ok_or (after_v w.0.0) (refusal_at why.UnknownWord left)) _ z w.2 in
    let v = bind_ok (ok_or (u64_of d.0) (refusal_at why.BadNumber left)) _ z d.2 in
    let made : ℕ × WordsLeft = (v.0, w.0.1) in
    let same : made ≡ z = cc (v.2) in
    let is : w.0.0 ≡ codes "v" ++ d.0 = behind_v w.0.0 d.0 (ok_or_ok _ _ _ d.1) in
    let number : IsNumber 64 v.0 d.0 = u64_found d.0 v.0 (ok_or_ok _ _ _ v.1) in
    subst (λ (x : ℕ × WordsLeft). (word : Word) × (left.words ≡ word ∷ x.1.words) × IsVersion x.0 word) same
    (w.0.0, word_took left.at left.words w.0.0 w.0.1 w.1, (d.0, is, number))

not_in-found : (at : ℕ) (word : Word) (behind : WordsLeft) (z : OpAnswer × WordsLeft) → not_in at word behind ≡ Ok z → z.1.words ≡ [] → SpellsTold (codes "not" ∷ word ∷ behind.words) z.0
unfolding not_in
not_in-found at word behind z e end =
    elim (chosen (bytes_eq word (codes "in")) (done {A = OpAnswer × WordsLeft} (told.Refused fault.NotIn, behind)) _ (Ok z) e) [
      | inl q ↦
          let p = nothing_more (told.Refused fault.NotIn) behind z q.1 end in
          let is : word ≡ codes "in" = (bytes_eq-Decides word (codes "in")).0 q.0 in
          subst (SpellsTold (codes "not" ∷ word ∷ behind.words)) p.0 (λ i. codes "not" ∷ is i ∷ p.1 i)
      | inr r ↦ elim (chosen (bytes_eq word (codes "empty")) (marked_version_at behind >>= λ x. done {A = OpAnswer × WordsLeft} (told.NotEmpty x.0, x.1)) _ (Ok z) r.1) [
        | inl q ↦
            let v = bind_ok (marked_version_at behind) _ z q.1 in
            let p = nothing_more (told.NotEmpty v.0.0) v.0.1 z v.2 end in
            let version = version_found behind v.0 v.1 in
            let is : word ≡ codes "empty" = (bytes_eq-Decides word (codes "empty")).0 q.0 in
            let last : behind.words ≡ version.0 ∷ [] = version.1 ∙ ap (λ (ws : List Word). version.0 ∷ ws) p.1 in
            subst (SpellsTold (codes "not" ∷ word ∷ behind.words)) p.0 (version.0, (λ i. codes "not" ∷ is i ∷ last i), version.2)
        | inr s ↦ elim (chosen (bytes_eq word (codes "majority")) (done {A = OpAnswer × WordsLeft} (told.Refused fault.NotMajority, behind)) (Err (record { why = why.UnknownWord; word = at })) (Ok z) s.1) [
          | inl q ↦
              let p = nothing_more (told.Refused fault.NotMajority) behind z q.1 end in
              let is : word ≡ codes "majority" = (bytes_eq-Decides word (codes "majority")).0 q.0 in
              subst (SpellsTold (codes "not" ∷ word ∷ behind.words)) p.0 (λ i. codes "not" ∷ is i ∷ p.1 i)
          | inr q ↦ absurd (cc (q.1))
        ]
      ]
    ]

-- two words that name a refusal
refused_found : (first second : Word) (answer : OpAnswer) (left : WordsLeft) (z : OpAnswer × WordsLeft)
    → (behind_name second left >>= λ behind. done {A = OpAnswer × WordsLeft} (answer, behind)) ≡ Ok z → z.1.words ≡ []
    → (answer ≡ z.0) × (first ∷ left.words ≡ first ∷ second ∷ [])
refused_found first second answer left z e end =
    let n = bind_ok (behind_name second left) _ z e in
    let p = nothing_more answer n.0 z n.2 end in
    (p.0, ap (λ (ws : List Word). first ∷ ws) (name_found second left n.0 n.1 ∙ ap (λ (ws : List Word). second ∷ ws) p.1))

told_of-found : (name : ToldName) (left : WordsLeft) (z : OpAnswer × WordsLeft) → told_of name left ≡ Ok z → z.1.words ≡ [] → SpellsTold (told_word name ∷ left.words) z.0
unfolding told_of not_at acceptor_at said_at
told_of-found tells.Joined left z e end =
    let f = bind_ok (finished_at left) _ z e in
    let p = nothing_more (told.Joined f.0.0.0 f.0.0.1 f.0.0.2) f.0.1 z f.2 end in
    subst (SpellsTold (codes "joined" ∷ left.words)) p.0 (finished_found (codes "joined") left f.0 f.1 p.1)
told_of-found tells.Left left z e end =
    let f = bind_ok (finished_at left) _ z e in
    let p = nothing_more (told.Left f.0.0.0 f.0.0.1 f.0.0.2) f.0.1 z f.2 end in
    subst (SpellsTold (codes "left" ∷ left.words)) p.0 (finished_found (codes "left") left f.0 f.1 p.1)
told_of-found tells.Resized left z e end = resized_found left z e end
told_of-found tells.Already left z e end =
    let p = refused_found (codes "already") (codes "in") (told.Refused fault.AlreadyIn) left z e end in
    subst (SpellsTold (codes "already" ∷ left.words)) p.0 p.1
told_of-found tells.Not left z e end =
    let w = bind_ok (word_at left) _ z e in
    let split : left.words ≡ w.0.0 ∷ w.0.1.words = word_took left.at left.words w.0.0 w.0.1 w.1 in
    subst (λ (ws : List Word). SpellsTold (codes "not" ∷ ws) z.0) (sym split) (not_in-found left.at w.0.0 w.0.1 z w.2 end)
told_of-found tells.Id left z e end =
    let p = refused_found (codes "id") (codes "used") (told.Refused fault.IdUsed) left z e end in
    subst (SpellsTold (codes "id" ∷ left.words)) p.0 p.1
told_of-found tells.Too left z e end =
    let p = refused_found (codes "too") (codes "many") (told.Refused fault.TooMany) left z e end in
    subst (SpellsTold (codes "too" ∷ left.words)) p.0 p.1
told_of-found tells.Last left z e end =
    let p = nothing_more (told.Refused fault.Last) left z e end in
    subst (SpellsTold (codes "last" ∷ left.words)) p.0 (ap (λ (ws : List Word). codes "last" ∷ ws) p.1)
told_of-found tells.Bad left z e end =
    let p = refused_found (codes "bad") (codes "size") (told.Refused fault.BadSize) left z e end in
    subst (SpellsTold (codes "bad" ∷ left.words)) p.0 p.1
told_of-found tells.Busy left z e end =
    let p = pair_found u32_of (λ x. told.Busy x) (IsNumber 32) u32_found (codes "busy") left z e end in
    subst (SpellsTold (codes "busy" ∷ left.words)) p.1 p.2
told_of-found tells.Collected left z e end = collected_found left z e end
told_of-found tells.Absent left z e end =
    let p = pair_found acceptor_of (λ x. told.Absent x) IsAcceptor acceptor_found (codes "absent") left z e end in
    subst (SpellsTold (codes "absent" ∷ left.words)) p.1 p.2
told_of-found tells.Proposer left z e end =
    let n = bind_ok (behind_name (codes "down") left) _ z e in
    let p = pair_found u8_of (λ x. told.ProposerDown x) (IsNumber 8) u8_found (codes "down") n.0 z n.2 end in
    let split : codes "proposer" ∷ left.words ≡ codes "proposer" ∷ codes "down" ∷ p.2.0 ∷ [] =
    ap (λ (ws : List Word). codes "proposer" ∷ ws) (name_found (codes "down") left n.0 n.1 ∙ p.2.1) in
    subst (SpellsTold (codes "proposer" ∷ left.words)) p.1 (p.2.0, split, p.2.2)

told_by-found : (name : Option ToldName) (at : ℕ) (word : Word) (behind : WordsLeft) (z : OpAnswer × WordsLeft) → told_name word ≡ name
    → told_by name at word behind ≡ Ok z → z.1.words ≡ [] → SpellsTold (word ∷ behind.words) z.0
unfolding told_by
told_by-found (Some name) at word behind z is e end =
    subst (λ (w : Word). SpellsTold (w ∷ behind.words) z.0) (sym (told_named word name is)) (told_of-found name behind z e end)
told_by-found None at word behind z is e end =
    let s = bind_ok (stop_in at word behind) _ z e in
    let p = nothing_more (told.Stopped s.0.0) s.0.1 z s.2 end in
    subst (SpellsTold (word ∷ behind.words)) p.0 (stop_found at word behind s.0 s.1 p.1)

told_found : (left : WordsLeft) (z : OpAnswer × WordsLeft) → told_at left ≡ Ok z → z.1.words ≡ [] → SpellsTold left.words z.0
unfolding told_at
told_found left z e end =
    let w = bind_ok (word_at left) _ z e in
    let split : left.words ≡ w.0.0 ∷ w.0.1.words = word_took left.at left.words w.0.0 w.0.1 w.1 in
    subst (λ (ws : List Word). SpellsTold ws z.0) (sym split) (told_by-found (told_name w.0.0) left.at w.0.0 w.0.1 z refl w.2 end)

told_again : (words : List Word) (a : OpAnswer) → SpellsTold words a → ReadsAll told_at words a
unfolding told_at told_by told_of behind_name numbered_at collected_at not_at not_in marked_version_at finished_at resized_at
told_again words (told.Joined id era rescanned) is at = (
  at + 1 + 1 + 1 + 1 + 1 + 1,
  ap (λ (ws : List Word). told_at (from at ws)) is.3
      ∙ rw (
        acceptor_read is.0 id is.4 (at + 1) (codes "era" ∷ is.1 ∷ codes "rescanned" ∷ is.2 ∷ []),
        u32_read is.1 era is.5 (at + 1 + 1 + 1) (codes "rescanned" ∷ is.2 ∷ []),
        u32_read is.2 rescanned is.6 (at + 1 + 1 + 1 + 1 + 1) [],
      ) refl,
)
told_again words (told.Left id era rescanned) is at = (
  at + 1 + 1 + 1 + 1 + 1 + 1,
  ap (λ (ws : List Word). told_at (from at ws)) is.3
      ∙ rw (
        acceptor_read is.0 id is.4 (at + 1) (codes "era" ∷ is.1 ∷ codes "rescanned" ∷ is.2 ∷ []),
        u32_read is.1 era is.5 (at + 1 + 1 + 1) (codes "rescanned" ∷ is.2 ∷ []),
        u32_read is.2 rescanned is.6 (at + 1 + 1 + 1 + 1 + 1) [],
      ) refl,
)
told_again words (told.Resized need_prep need_acc era rescanned) is at =
    let counts : List Word = codes "era" ∷ is.2 ∷ codes "rescanned" ∷ is.3 ∷ [] in (
      at + 1 + 1 + 1 + 1 + 1 + 1 + 1,
      ap (λ (ws : List Word). told_at (from at ws)) is.4
          ∙ rw (
            u32_read is.0 need_prep is.5 (at + 1) (is.1 ∷ counts),
            u32_read is.1 need_acc is.6 (at + 1 + 1) counts,
            u32_read is.2 era is.7 (at + 1 + 1 + 1 + 1) (codes "rescanned" ∷ is.3 ∷ []),
            u32_read is.3 rescanned is.8 (at + 1 + 1 + 1 + 1 + 1 + 1) [],
          ) refl,
    )
told_again words (told.Refused fault.AlreadyIn) is at = (at + 1 + 1, ap (λ (ws : List Word). told_at (from at ws)) is)
told_again words (told.Refused fault.NotIn) is at = (at + 1 + 1, ap (λ (ws : List Word). told_at (from at ws)) is)
told_again words (told.Refused fault.IdUsed) is at = (at + 1 + 1, ap (λ (ws : List Word). told_at (from at ws)) is)
told_again words (told.Refused fault.TooMany) is at = (at + 1 + 1, ap (λ (ws : List Word). told_at (from at ws)) is)
told_again words (told.Refused fault.Last) is at = (at + 1, ap (λ (ws : List Word). told_at (from at ws)) is)
told_again words (told.Refused fault.BadSize) is at = (at + 1 + 1, ap (λ (ws : List Word). told_at (from at ws)) is)
told_again words (told.Refused fault.NotMajority) is at = (at + 1 + 1, ap (λ (ws : List Word). told_at (from at ws)) is)
told_again words (told.Busy era) is at = (at + 1 + 1, ap (λ (ws : List Word). told_at (from at ws)) is.1 ∙ rw (u32_read is.0 era is.2 (at + 1) []) refl)
told_again words (told.Collected key ballot removed kept) is at =
    let word : Word = is.0 in
    let first : Word = is.1 in
    let last : Word = is.2 in
    let counts : List Word = codes "removed" ∷ first ∷ codes "kept" ∷ last ∷ [] in (
      at + 1 + 1 + 1 + 1 + 1 + 1 + 1 + 1,
      ap (λ (ws : List Word). told_at (from at ws)) is.3
          ∙ rw (
            key_read key is.4 (at + 1) (codes "at" ∷ word ∷ counts),
            said_again ballot_of word ballot (ballot_says word ballot is.5) (at + 1 + 1 + 1) counts,
            u32_read first removed is.6 (at + 1 + 1 + 1 + 1 + 1) (codes "kept" ∷ last ∷ []),
            u32_read last kept is.7 (at + 1 + 1 + 1 + 1 + 1 + 1 + 1) [],
          ) refl,
    )
told_again words (told.NotEmpty version) is at =
    (at + 1 + 1 + 1, ap (λ (ws : List Word). told_at (from at ws)) (is.1 ∙ ap (λ (w : Word). codes "not" ∷ codes "empty" ∷ w ∷ []) is.2.1) ∙ rw (is.2.2.0) refl)
told_again words (told.Absent acceptor) is at = (at + 1 + 1, ap (λ (ws : List Word). told_at (from at ws)) is.1 ∙ rw (acceptor_read is.0 acceptor is.2 (at + 1) []) refl)
told_again words (told.ProposerDown proposer) is at =
    (at + 1 + 1 + 1, ap (λ (ws : List Word). told_at (from at ws)) is.1 ∙ rw (said_again u8_of is.0 proposer (u8_says is.0 proposer is.2) (at + 1 + 1) []) refl)
told_again words (told.Probed key found) is at = absurd is
told_again words (told.Stopped answer) is at =
    let s = stop_reads words answer is in
    let r = s.reads at in
    (r.0, ap (λ (ws : List Word). told_at (from at ws)) s.are ∙ rw (s.own, r.1) refl)

-- ---- what is read is what the line says

begun_found : (left : WordsLeft) (mark : Mark) → begun_at left ≡ Ok mark → IsMarkLine (codes "begun" ∷ left.words) mark
unfolding begun_at
begun_found left mark e =
    let c = bind_ok (said_at call_of left) _ mark e in
    let k = bind_ok (key_at c.0.1) _ mark c.2 in
    let p = bind_ok (program_at k.0.1) _ mark k.2 in
    let call = call_one left c.0 c.1 in
    let key = key_one c.0.1 k.0 k.1 in
    let program = clauses_found 8 k.0.1 p.0 p.1 in
    let same : Begun c.0.0.0 c.0.0.1 k.0.0 p.0 ≡ mark = cc (p.2) in
    let split : left.words ≡ call.0 ∷ k.0.0 ∷ k.0.1.words = call.1 ∙ ap (λ (ws : List Word). call.0 ∷ ws) key.0 in
    subst (IsMarkLine (codes "begun" ∷ left.words)) same (call.0, k.0.1.words, ap (λ (ws : List Word). codes "begun" ∷ ws) split, call.2, key.1, program)

proposed_found : (left : WordsLeft) (z : Proposal × WordsLeft) → proposal_at left ≡ Ok z → z.1.words ≡ [] → IsMarkLine (codes "proposed" ∷ left.words) (Proposed z.0)
unfolding proposal_at
proposed_found left z e end =
    let c = bind_ok (said_at call_of left) _ z e in
    let k = bind_ok (key_at c.0.1) _ z c.2 in
    let b = bind_ok (said_at ballot_of k.0.1) _ z k.2 in
    let n = bind_ok (behind_name (codes "read") b.0.1) _ z b.2 in
    let r = bind_ok (said_at ballot_of n.0) _ z n.2 in
    let q = bind_ok (quorum_at r.0.1) _ z r.2 in
    let made : Proposal = record { caller = c.0.0.0; call = c.0.0.1; key = k.0.0; ballot = b.0.0; read = r.0.0; era = q.0.0.0; prepared_by = q.0.0.1 } in
    let p = nothing_more made q.0.1 z q.2 end in
    let call = call_one left c.0 c.1 in
    let key = key_one c.0.1 k.0 k.1 in
    let ballot = said_one ballot_of IsBallot ballot_found k.0.1 b.0 b.1 in
    let name = name_found (codes "read") b.0.1 n.0 n.1 in
    let read = said_one ballot_of IsBallot ballot_found n.0 r.0 r.1 in
    let quorum = quorum_found r.0.1 q.0 q.1 p.1 in
    let behind : k.0.1.words ≡ ballot.0 ∷ codes "read" ∷ read.0 ∷ r.0.1.words =
    ballot.1 ∙ ap (λ (ws : List Word). ballot.0 ∷ ws) (name ∙ ap (λ (ws : List Word). codes "read" ∷ ws) read.1) in
    let split : left.words ≡ call.0 ∷ k.0.0 ∷ ballot.0 ∷ codes "read" ∷ read.0 ∷ r.0.1.words =
    call.1 ∙ ap (λ (ws : List Word). call.0 ∷ ws) (key.0 ∙ ap (λ (ws : List Word). k.0.0 ∷ ws) behind) in
    subst (λ (m : Proposal). IsMarkLine (codes "proposed" ∷ left.words) (Proposed m)) p.0
    (call.0, ballot.0, read.0, r.0.1.words, ap (λ (ws : List Word). codes "proposed" ∷ ws) split, call.2, key.1, ballot.2, read.2, quorum)

acked_found : (left : WordsLeft) (z : Acknowledgment × WordsLeft) → acknowledgment_at left ≡ Ok z → z.1.words ≡ [] → IsMarkLine (codes "acked" ∷ left.words) (Acked z.0)
unfolding acknowledgment_at
acked_found left z e end =
    let k = bind_ok (key_at left) _ z e in
    let b = bind_ok (said_at ballot_of k.0.1) _ z k.2 in
    let q = bind_ok (quorum_at b.0.1) _ z b.2 in
    let made : Acknowledgment = record { key = k.0.0; ballot = b.0.0; era = q.0.0.0; by = q.0.0.1 } in
    let p = nothing_more made q.0.1 z q.2 end in
    let key = key_one left k.0 k.1 in
    let ballot = said_one ballot_of IsBallot ballot_found k.0.1 b.0 b.1 in
    let quorum = quorum_found b.0.1 q.0 q.1 p.1 in
    let split : left.words ≡ k.0.0 ∷ ballot.0 ∷ b.0.1.words = key.0 ∙ ap (λ (ws : List Word). k.0.0 ∷ ws) ballot.1 in
    subst (λ (m : Acknowledgment). IsMarkLine (codes "acked" ∷ left.words) (Acked m)) p.0
    (ballot.0, b.0.1.words, ap (λ (ws : List Word). codes "acked" ∷ ws) split, key.1, ballot.2, quorum)

voted_found : (left : WordsLeft) (mark : Mark) → voted_at left ≡ Ok mark → IsMarkLine (codes "voted" ∷ left.words) mark
unfolding voted_at
voted_found left mark e =
    let a = bind_ok (acceptor_at left) _ mark e in
    let k = bind_ok (key_at a.0.1) _ mark a.2 in
    let b = bind_ok (ended (said_at ballot_of k.0.1)) _ mark k.2 in
    let r = ended_found (said_at ballot_of k.0.1) b.0 b.1 in
    let acceptor = acceptor_one left a.0 a.1 in
    let key = key_one a.0.1 k.0 k.1 in
    let ballot = said_one ballot_of IsBallot ballot_found k.0.1 (b.0, r.0) r.1 in
    let same : Voted a.0.0 k.0.0 b.0 ≡ mark = cc (b.2) in
    let last : k.0.1.words ≡ ballot.0 ∷ [] = ballot.1 ∙ ap (λ (ws : List Word). ballot.0 ∷ ws) r.2 in
    let split : left.words ≡ acceptor.0 ∷ k.0.0 ∷ ballot.0 ∷ [] = acceptor.1 ∙ ap (λ (ws : List Word). acceptor.0 ∷ ws) (key.0 ∙ ap (λ (ws : List Word). k.0.0 ∷ ws) last) in
    subst (IsMarkLine (codes "voted" ∷ left.words)) same (acceptor.0, ballot.0, ap (λ (ws : List Word). codes "voted" ∷ ws) split, acceptor.2, key.1, ballot.2)

-- a state, to the end
last_state : (left : WordsLeft) (state : State) → ended (state_at left) ≡ Ok state → IsState left.words state
last_state left state e =
    let r = ended_found (state_at left) state e in
    let took = state_found left state r.0 r.1 in
    let whole : left.words ≡ took.front = took.split ∙ ap (λ (ws : List Word). took.front ++ ws) r.2 ∙ append-nil took.front in
    subst (λ (ws : List Word). IsState ws state) (sym whole) took.says

floor_found : (left : WordsLeft) (mark : Mark) → floor_at left ≡ Ok mark → IsMarkLine (codes "floor" ∷ left.words) mark
unfolding floor_at
floor_found left mark e =
    let k = bind_ok (key_at left) _ mark e in
    let b = bind_ok (said_at ballot_of k.0.1) _ mark k.2 in
    let s = bind_ok (ended (state_at b.0.1)) _ mark b.2 in
    let key = key_one left k.0 k.1 in
    let ballot = said_one ballot_of IsBallot ballot_found k.0.1 b.0 b.1 in
    let same : Floor k.0.0 b.0.0 s.0 ≡ mark = cc (s.2) in
    let split : left.words ≡ k.0.0 ∷ ballot.0 ∷ b.0.1.words = key.0 ∙ ap (λ (ws : List Word). k.0.0 ∷ ws) ballot.1 in
    subst (IsMarkLine (codes "floor" ∷ left.words)) same
    (ballot.0, b.0.1.words, ap (λ (ws : List Word). codes "floor" ∷ ws) split, key.1, ballot.2, last_state b.0.1 s.0 s.1)

entered_found : (left : WordsLeft) (mark : Mark) → entered_at left ≡ Ok mark → IsMarkLine (codes "entered" ∷ left.words) mark
unfolding entered_at
entered_found left mark e =
    let p = bind_ok (said_at u8_of left) _ mark e in
    let n = bind_ok (ended (said_at u32_of p.0.1)) _ mark p.2 in
    let r = ended_found (said_at u32_of p.0.1) n.0 n.1 in
    let proposer = said_one u8_of (IsNumber 8) u8_found left p.0 p.1 in
    let number = said_one u32_of (IsNumber 32) u32_found p.0.1 (n.0, r.0) r.1 in
    let same : EraEntered p.0.0 n.0 ≡ mark = cc (n.2) in
    let split : left.words ≡ proposer.0 ∷ number.0 ∷ [] = proposer.1 ∙ ap (λ (ws : List Word). proposer.0 ∷ ws) (number.1 ∙ ap (λ (ws : List Word). number.0 ∷ ws) r.2) in
    subst (IsMarkLine (codes "entered" ∷ left.words)) same (proposer.0, number.0, ap (λ (ws : List Word). codes "entered" ∷ ws) split, proposer.2, number.2)

ended_mark : (left : WordsLeft) (mark : Mark) → ended_at left ≡ Ok mark → IsMarkLine (codes "ended" ∷ left.words) mark
unfolding ended_at
ended_mark left mark e =
    let c = bind_ok (said_at call_of left) _ mark e in
    let n = bind_ok (said_at u32_of c.0.1) _ mark c.2 in
    let a = bind_ok (ended (answer_at n.0.1)) _ mark n.2 in
    let r = ended_found (answer_at n.0.1) a.0 a.1 in
    let call = call_one left c.0 c.1 in
    let rounds = said_one u32_of (IsNumber 32) u32_found c.0.1 n.0 n.1 in
    let answer = answer_found n.0.1 (a.0, r.0) r.1 r.2 in
    let same : Ended c.0.0.0 c.0.0.1 n.0.0 a.0 ≡ mark = cc (a.2) in
    let split : left.words ≡ call.0 ∷ rounds.0 ∷ n.0.1.words = call.1 ∙ ap (λ (ws : List Word). call.0 ∷ ws) rounds.1 in
    subst (IsMarkLine (codes "ended" ∷ left.words)) same (call.0, rounds.0, n.0.1.words, ap (λ (ws : List Word). codes "ended" ∷ ws) split, call.2, rounds.2, answer)

harm_named : (word : Word) (down : Bool) → harm_name word ≡ Some down → word ≡ harm_word down
harm_named word down e = is_named harm_word (false ∷ true ∷ []) word down e

harmed_found : (left : WordsLeft) (mark : Mark) → harmed_at left ≡ Ok mark → IsMarkLine (codes "harmed" ∷ left.words) mark
unfolding harmed_at
harmed_found left mark e =
    let c = bind_ok (said_at call_of left) _ mark e in
    let h = bind_ok (ended (named_at harm_name c.0.1)) _ mark c.2 in
    let r = ended_found (named_at harm_name c.0.1) h.0 h.1 in
    let call = call_one left c.0 c.1 in
    let harm = named_one harm_name harm_word harm_named c.0.1 (h.0, r.0) r.1 in
    let same : Harmed c.0.0.0 c.0.0.1 h.0 ≡ mark = cc (h.2) in
    let split : left.words ≡ call.0 ∷ harm_word h.0 ∷ [] = call.1 ∙ ap (λ (ws : List Word). call.0 ∷ ws) (harm ∙ ap (λ (ws : List Word). harm_word h.0 ∷ ws) r.2) in
    subst (IsMarkLine (codes "harmed" ∷ left.words)) same (call.0, ap (λ (ws : List Word). codes "harmed" ∷ ws) split, call.2)

told_mark : (left : WordsLeft) (mark : Mark) → told_mark_at left ≡ Ok mark → IsMarkLine (codes "told" ∷ left.words) mark
unfolding told_mark_at
told_mark left mark e =
    let a = bind_ok (asked_at left) _ mark e in
    let n = bind_ok (behind_name (codes "->") a.0.1) _ mark a.2 in
    let t = bind_ok (ended (told_at n.0)) _ mark n.2 in
    let r = ended_found (told_at n.0) t.0 t.1 in
    let ask = asked_found left a.0 a.1 in
    let name = name_found (codes "->") a.0.1 n.0 n.1 in
    let answer = told_found n.0 (t.0, r.0) r.1 r.2 in
    let same : Told a.0.0 t.0 ≡ mark = cc (t.2) in
    let split : left.words ≡ ask.0 ++ codes "->" ∷ n.0.words = ask.1 ∙ ap (λ (ws : List Word). ask.0 ++ ws) name in
    subst (IsMarkLine (codes "told" ∷ left.words)) same (ask.0, n.0.words, ap (λ (ws : List Word). codes "told" ∷ ws) split, ask.2, answer)

abbrev mark_word : MarkName → Word
mark_word marks.Begun = codes "begun"
mark_word marks.Proposed = codes "proposed"
mark_word marks.Voted = codes "voted"
mark_word marks.Acked = codes "acked"
mark_word marks.Floor = codes "floor"
mark_word marks.Entered = codes "entered"
mark_word marks.Ended = codes "ended"
mark_word marks.Harmed = codes "harmed"
mark_word marks.Told = codes "told"

mark_named : (word : Word) (name : MarkName) → mark_name word ≡ Some name → word ≡ mark_word name
mark_named word name e =
    is_named mark_word (marks.Begun ∷ marks.Proposed ∷ marks.Voted ∷ marks.Acked ∷ marks.Floor ∷ marks.Entered ∷ marks.Ended ∷ marks.Harmed ∷ marks.Told ∷ []) word name e

mark_of-found : (name : MarkName) (left : WordsLeft) (mark : Mark) → mark_of name left ≡ Ok mark → IsMarkLine (mark_word name ∷ left.words) mark
unfolding mark_of
mark_of-found marks.Begun left mark e = begun_found left mark e
mark_of-found marks.Proposed left mark e =
    let p = bind_ok (ended (proposal_at left)) _ mark e in
    let r = ended_found (proposal_at left) p.0 p.1 in
    let same : Proposed p.0 ≡ mark = cc (p.2) in
    subst (IsMarkLine (codes "proposed" ∷ left.words)) same (proposed_found left (p.0, r.0) r.1 r.2)
mark_of-found marks.Voted left mark e = voted_found left mark e
mark_of-found marks.Acked left mark e =
    let p = bind_ok (ended (acknowledgment_at left)) _ mark e in
    let r = ended_found (acknowledgment_at left) p.0 p.1 in
    let same : Acked p.0 ≡ mark = cc (p.2) in
    subst (IsMarkLine (codes "acked" ∷ left.words)) same (acked_found left (p.0, r.0) r.1 r.2)
mark_of-found marks.Floor left mark e = floor_found left mark e
mark_of-found marks.Entered left mark e = entered_found left mark e
mark_of-found marks.Ended left mark e = ended_mark left mark e
mark_of-found marks.Harmed left mark e = harmed_found left mark e
mark_of-found marks.Told left mark e = told_mark left mark e

pub mark_found : (words : List Word) (mark : Mark) → mark_at (all_of words) ≡ Ok mark → IsMarkLine words mark
unfolding mark_at
mark_found words mark e =
    let n = bind_ok (named_at mark_name (all_of words)) _ mark e in
    let first : words ≡ mark_word n.0.0 ∷ n.0.1.words = named_one mark_name mark_word mark_named (all_of words) n.0 n.1 in
    subst (λ (ws : List Word). IsMarkLine ws mark) (sym first) (mark_of-found n.0.0 n.0.1 mark n.2)

-- ---- what the line says is read

pub mark_reads : (words : List Word) (mark : Mark) → IsMarkLine words mark → mark_at (all_of words) ≡ Ok mark
unfolding mark_at mark_of named_at behind_name begun_at proposal_at acknowledgment_at voted_at floor_at entered_at ended_at harmed_at told_mark_at
mark_reads words (Begun caller call key program) is =
    ap (λ (ws : List Word). mark_at (from 0 ws)) is.2
    ∙ rw (call_read is.0 caller call is.3 1 (key ∷ is.1), key_read key is.4 2 is.1, clauses_again 8 3 is.1 program is.5.0 is.5.1) refl
mark_reads words (Proposed p) is =
    let q = quorum_again is.3 p.era p.prepared_by is.9 6 in
    ap (λ (ws : List Word). mark_at (from 0 ws)) is.4
    ∙ rw (
      call_read is.0 p.caller p.call is.5 1 (p.key ∷ is.1 ∷ codes "read" ∷ is.2 ∷ is.3),
      key_read p.key is.6 2 (is.1 ∷ codes "read" ∷ is.2 ∷ is.3),
      said_again ballot_of is.1 p.ballot (ballot_says is.1 p.ballot is.7) 3 (codes "read" ∷ is.2 ∷ is.3),
      said_again ballot_of is.2 p.read (ballot_says is.2 p.read is.8) 5 is.3,
      q.1,
    ) refl
mark_reads words (Voted acceptor key ballot) is =
    ap (λ (ws : List Word). mark_at (from 0 ws)) is.2
    ∙ rw (acceptor_read is.0 acceptor is.3 1 (key ∷ is.1 ∷ []), key_read key is.4 2 (is.1 ∷ []), said_again ballot_of is.1 ballot (ballot_says is.1 ballot is.5) 3 []) refl
mark_reads words (Acked a) is =
    let q = quorum_again is.1 a.era a.by is.5 3 in
    ap (λ (ws : List Word). mark_at (from 0 ws)) is.2
    ∙ rw (key_read a.key is.3 1 (is.0 ∷ is.1), said_again ballot_of is.0 a.ballot (ballot_says is.0 a.ballot is.4) 2 is.1, q.1) refl
mark_reads words (Floor key ballot state) is =
    let s = state_again is.1 state is.5 3 [] in
    ap (λ (ws : List Word). mark_at (from 0 ws)) (is.2 ∙ ap (λ (ws : List Word). codes "floor" ∷ key ∷ is.0 ∷ ws) (sym (append-nil is.1)))
    ∙ rw (key_read key is.3 1 (is.0 ∷ (is.1 ++ [])), said_again ballot_of is.0 ballot (ballot_says is.0 ballot is.4) 2 (is.1 ++ []), s.1) refl
mark_reads words (EraEntered proposer number) is =
    ap (λ (ws : List Word). mark_at (from 0 ws)) is.2
    ∙ rw (said_again u8_of is.0 proposer (u8_says is.0 proposer is.3) 1 (is.1 ∷ []), u32_read is.1 number is.4 2 []) refl
mark_reads words (Ended caller call rounds answer) is =
    let a = answer_again is.2 answer is.6 3 in
    ap (λ (ws : List Word). mark_at (from 0 ws)) is.3
    ∙ rw (call_read is.0 caller call is.4 1 (is.1 ∷ is.2), u32_read is.1 rounds is.5 2 is.2, a.1) refl
mark_reads words (Harmed caller call false) is =
    ap (λ (ws : List Word). mark_at (from 0 ws)) is.1 ∙ rw (call_read is.0 caller call is.2 1 (codes "fate" ∷ [])) refl
mark_reads words (Harmed caller call true) is =
    ap (λ (ws : List Word). mark_at (from 0 ws)) is.1 ∙ rw (call_read is.0 caller call is.2 1 (codes "down" ∷ [])) refl
mark_reads words (Told asked answer) is =
    let a = asked_again is.0 asked is.3 1 (codes "->" ∷ is.1) in
    let t = told_again is.1 answer is.4 (a.0 + 1) in
    ap (λ (ws : List Word). mark_at (from 0 ws)) is.2 ∙ rw (a.1, t.1) refl

-- what is printed for a mark says it
pub line_says : {A E : Type 0} (items : A → List ℕ) (result : Result A E) (mark : Mark) → IfOk result (λ line. line_mark (items line) ≡ Ok mark)
    → IfOk result (λ line. IsMarkLine (words_of (items line)) mark)
line_says items (Ok line) mark is = mark_found (words_of (items line)) mark is
line_says items (Err error) mark is = tt

-- ---- the line in front of the marks

pub count_found : (words : List Word) (count : ℕ) → count_at (all_of words) ≡ Ok count → IsCountLine words count
unfolding count_at
count_found words count e =
    let n = bind_ok (behind_name (codes "record") (all_of words)) _ count e in
    let r = ended_found (said_at u32_of n.0) count n.2 in
    let one = said_one u32_of (IsNumber 32) u32_found n.0 (count, r.0) r.1 in
    (one.0, name_found (codes "record") (all_of words) n.0 n.1 ∙ ap (λ (ws : List Word). codes "record" ∷ ws) (one.1 ∙ ap (λ (ws : List Word). one.0 ∷ ws) r.2), one.2)

pub count_reads : (words : List Word) (count : ℕ) → IsCountLine words count → count_at (all_of words) ≡ Ok count
unfolding count_at behind_name
count_reads words count is = ap (λ (ws : List Word). count_at (from 0 ws)) is.1 ∙ rw (u32_read is.0 count is.2 1 []) refl
