-- What is read of an event behind its first word is in the grammar, and what is in the grammar is read.
use Rattle.std.proofs.Common.{◌≡◌, ℕ, ◌+◌, ◌≤◌, Bool, true, false, List, [], ◌∷◌, Option, Some, None, Result, Ok, refl, sym, ap, subst, ◌∙◌, arith, inl, inr}
use Rattle.std.specs.Prelude.{◌&&◌, codes, nat_le}
use Rattle.std.specs.Option.{ok_or}
use Rattle.std.specs.Str.{bytes_eq}
use Rattle.std.proofs.lemmas.Bool.{leb-true, le-leb, and_parts}
use Rattle.std.proofs.lemmas.Slice.Eq.{bytes_eq-Decides}
use Rattle.cas_change.specs.Key.{IsKey}
use Rattle.cas_change_text.specs.declared.refusal.Why.{Why}
use Rattle.cas_change_text.specs.declared.refusal.Why.TheVariants as why
use Rattle.cas_change_text.specs.declared.refusal.TextRefusal.{TextRefusal}
use Rattle.cas_change_text.specs.Decimal.{u64_of}
use Rattle.cas_change_text.specs.Reading.{◌>>=◌, word_at, version_at}
use Rattle.cas_change_text.specs.Words.{Word, WordsLeft}
use Rattle.cas_change_text.proofs.BothWays.{bind_ok, ok_or_ok, named, from, word_took}
use Rattle.cas_change_text.proofs.EscapedTexts.{chosen}
use Rattle.cas_change_text.proofs.Misfits.{said}
use Rattle.cas_change_text.proofs.Stopping.{one_word}
use Rattle.cas_fate.specs.declared.fate.Leg.{Leg}
use Rattle.cas_fate.specs.declared.fate.Leg.TheVariants as legs
use Rattle.cas_fate.specs.declared.fate.Verdict.{Verdict}
use Rattle.cas_fate.specs.declared.fate.Verdict.TheVariants as verdicts
use Rattle.cas_lines.specs.declared.command.Command.{Command}
use Rattle.cas_lines.specs.declared.command.Command.TheVariants.{Net, CrashAcceptor, RestartAcceptor, CrashProposer, RestartProposer, Stray, Show}
use Rattle.cas_lines.specs.declared.events.EventName.{EventName}
use Rattle.cas_lines.specs.declared.events.EventName.TheVariants as events
use Rattle.cas_lines.specs.declared.events.Party.{Party}
use Rattle.cas_lines.specs.declared.events.Party.TheVariants as parties
use Rattle.cas_lines.specs.declared.events.HaltPoint.{HaltPoint}
use Rattle.cas_lines.specs.declared.events.HaltPoint.TheVariants as points
use Rattle.cas_lines.specs.Command.{IsAcceptor, IsProposer, leg_word, IsLeg, IsWho, NamesVerdict, HasLast, IsHalt, IsCommand}
use Rattle.cas_lines.specs.Reading.{within, ended, key_in, key_at, event_name, leg_name, verdict_name, party_name, halt_point_name, acceptor_of, proposer_of, one_or_all, leg_in, leg_at, who_in, who_at, verdict_at, party_at, halt_point_at, acceptor_at, proposer_at, net_at, crash_of, restart_of, halt_of, halt_at, show_at, event_at}
use Rattle.cas_lines.proofs.ChangeLines.{ended_found, key_in-found, key_in-again}

-- ---- one word

-- what one word says, and the words behind it
pub one_found : {X : Type 0} (says : ℕ → Word → Result X TextRefusal) (left : WordsLeft) (x : X) (after : WordsLeft) → one_word says left ≡ Ok (x, after)
    → (word : Word) × (left.words ≡ word ∷ after.words) × (says left.at word ≡ Ok x)
one_found {X} says left x after e =
    let w = bind_ok (word_at left) _ (x, after) e in
    let v = bind_ok (says left.at w.0.0) _ (x, after) w.2 in
    let same : (v.0, w.0.1) ≡ (x, after) = cc (v.2) in (
      w.0.0,
      word_took left.at left.words w.0.0 w.0.1 w.1 ∙ ap (λ (p : X × WordsLeft). w.0.0 ∷ p.1.words) same,
      v.1 ∙ ap (λ (p : X × WordsLeft). Ok p.0) same,
    )

-- what the last word says
pub last_one_found : {X : Type 0} (says : ℕ → Word → Result X TextRefusal) (left : WordsLeft) (x : X) → ended (one_word says left) ≡ Ok x
    → (word : Word) × (left.words ≡ word ∷ []) × (says left.at word ≡ Ok x)
last_one_found says left x e =
    let r = ended_found (one_word says left) x e in
    let w = one_found says left x r.0 r.1 in
    (w.0, w.1 ∙ ap (λ (ws : List Word). w.0 ∷ ws) r.2, w.2)

pub said_found : {X : Type 0} (value : Word → Option X) (reason : Why) (at : ℕ) (word : Word) (x : X) → said value reason at word ≡ Ok x → value word ≡ Some x
said_found value reason at word x e = ok_or_ok (value word) (record { why = reason; word = at }) x e

pub said_again : {X : Type 0} (value : Word → Option X) (reason : Why) (at : ℕ) (word : Word) (x : X) → value word ≡ Some x → said value reason at word ≡ Ok x
said_again value reason at word x e = rw e refl

-- what a word says that may stand for all
pub one_or_all-found : {X : Type 0} (all : Word) (value : Word → Option X) (reason : Why) (Says : Option X → Word → Type 0)
    → ((word : Word) → word ≡ all → Says None word) → ((word : Word) (x : X) → value word ≡ Some x → Says (Some x) word)
    → (at : ℕ) (word : Word) (x : Option X) → one_or_all all value reason at word ≡ Ok x → Says x word
one_or_all-found {X} all value reason Says none some at word x e =
    elim (chosen (bytes_eq word all) (Ok None) (ok_or (value word) (record { why = reason; word = at }) >>= λ y. Ok (Some y)) (Ok x) e) [
      | inl p ↦
          let same : None ≡ x = cc (p.1) in
          subst (λ (o : Option X). Says o word) same (none word ((bytes_eq-Decides word all).0 p.0))
      | inr p ↦
          let v = bind_ok (ok_or (value word) (record { why = reason; word = at })) _ x p.1 in
          let same : Some v.0 ≡ x = cc (v.2) in
          subst (λ (o : Option X). Says o word) same (some word v.0 (ok_or_ok (value word) (record { why = reason; word = at }) v.0 v.1))
    ]

-- ---- numbers

pub within_some : (least greatest : ℕ) (number : Option ℕ) (n : ℕ) → within least greatest number ≡ Some n → (number ≡ Some n) × (least ≤ n) × (n ≤ greatest)
within_some least greatest None n e = absurd cc
within_some least greatest (Some number) n e = elim (chosen (nat_le least number && nat_le number greatest) (Some number) None (Some n) e) [
  | inl p ↦
      let parts = and_parts (nat_le least number) (nat_le number greatest) p.0 in
      let same : number ≡ n = cc (p.1) in
      (p.1, subst (λ m. least ≤ m) same (leb-true least number parts.0), subst (λ m. m ≤ greatest) same (leb-true number greatest parts.1))
  | inr p ↦ absurd (cc (p.1))
]

pub within_again : (least greatest : ℕ) (number : Option ℕ) (n : ℕ) → number ≡ Some n → least ≤ n → n ≤ greatest → within least greatest number ≡ Some n
within_again least greatest number n e low high = rw (e, le-leb least n low, le-leb n greatest high) refl

acceptor_found : (word : Word) (id : ℕ) → acceptor_of word ≡ Some id → IsAcceptor id word
acceptor_found word id e = let w = within_some 0 63 (u64_of word) id e in (w.0, w.2)

acceptor_again : (word : Word) (id : ℕ) → IsAcceptor id word → acceptor_of word ≡ Some id
acceptor_again word id is = within_again 0 63 (u64_of word) id is.0 (omega arith) is.1

proposer_found : (proposers : ℕ) (word : Word) (proposer : ℕ) → proposer_of proposers word ≡ Some proposer → IsProposer proposers proposer word
proposer_found proposers word proposer e = let w = within_some 0 proposers (u64_of word) proposer e in (w.0, w.2)

proposer_again : (proposers : ℕ) (word : Word) (proposer : ℕ) → IsProposer proposers proposer word → proposer_of proposers word ≡ Some proposer
proposer_again proposers word proposer is = within_again 0 proposers (u64_of word) proposer is.0 (omega arith) is.1

-- ---- names

-- the word that names an event
abbrev pub event_word : EventName → Word
event_word events.Net = codes "net"
event_word events.Crash = codes "crash"
event_word events.Restart = codes "restart"
event_word events.Halt = codes "halt"
event_word events.Stray = codes "stray"
event_word events.Show = codes "show"

pub event_named : (word : Word) (name : EventName) → event_name word ≡ Some name → word ≡ event_word name
event_named word name e = elim (named word (codes "net") events.Net name _ e) [
  | inl p ↦ p.0 ∙ ap event_word p.1
  | inr e1 ↦ elim (named word (codes "crash") events.Crash name _ e1) [
    | inl p ↦ p.0 ∙ ap event_word p.1
    | inr e2 ↦ elim (named word (codes "restart") events.Restart name _ e2) [
      | inl p ↦ p.0 ∙ ap event_word p.1
      | inr e3 ↦ elim (named word (codes "halt") events.Halt name _ e3) [
        | inl p ↦ p.0 ∙ ap event_word p.1
        | inr e4 ↦ elim (named word (codes "stray") events.Stray name _ e4) [
          | inl p ↦ p.0 ∙ ap event_word p.1
          | inr e5 ↦ elim (named word (codes "show") events.Show name None e5) [
            | inl p ↦ p.0 ∙ ap event_word p.1
            | inr e6 ↦ absurd cc
          ]
        ]
      ]
    ]
  ]
]

leg_named : (word : Word) (leg : Leg) → leg_name word ≡ Some leg → word ≡ leg_word leg
leg_named word leg e = elim (named word (codes "prepare") legs.Prepare leg _ e) [
  | inl p ↦ p.0 ∙ ap leg_word p.1
  | inr e1 ↦ elim (named word (codes "accept") legs.Accept leg _ e1) [
    | inl p ↦ p.0 ∙ ap leg_word p.1
    | inr e2 ↦ elim (named word (codes "ages") legs.Ages leg _ e2) [
      | inl p ↦ p.0 ∙ ap leg_word p.1
      | inr e3 ↦ elim (named word (codes "remove") legs.Remove leg _ e3) [
        | inl p ↦ p.0 ∙ ap leg_word p.1
        | inr e4 ↦ elim (named word (codes "list") legs.List leg _ e4) [
          | inl p ↦ p.0 ∙ ap leg_word p.1
          | inr e5 ↦ elim (named word (codes "probe") legs.Probe leg _ e5) [
            | inl p ↦ p.0 ∙ ap leg_word p.1
            | inr e6 ↦ elim (named word (codes "reply") legs.Reply leg None e6) [
              | inl p ↦ p.0 ∙ ap leg_word p.1
              | inr e7 ↦ absurd cc
            ]
          ]
        ]
      ]
    ]
  ]
]

verdict_named : (word : Word) (verdict : Verdict) → verdict_name word ≡ Some verdict → NamesVerdict verdict word
verdict_named word verdict e = elim (named word (codes "deliver") verdicts.Deliver verdict _ e) [
  | inl p ↦ subst (λ (v : Verdict). NamesVerdict v word) p.1 p.0
  | inr e1 ↦ elim (named word (codes "lose") verdicts.Lose verdict _ e1) [
    | inl p ↦ subst (λ (v : Verdict). NamesVerdict v word) p.1 p.0
    | inr e2 ↦ elim (named word (codes "twice") verdicts.Twice verdict _ e2) [
      | inl p ↦ subst (λ (v : Verdict). NamesVerdict v word) p.1 p.0
      | inr e3 ↦ elim (named word (codes "late") verdicts.Late verdict None e3) [
        | inl p ↦ subst (λ (v : Verdict). NamesVerdict v word) p.1 p.0
        | inr e4 ↦ absurd cc
      ]
    ]
  ]
]

-- the word that names a kind of party
abbrev pub party_word : Party → Word
party_word parties.Acceptor = codes "acceptor"
party_word parties.Proposer = codes "proposer"

party_named : (word : Word) (party : Party) → party_name word ≡ Some party → word ≡ party_word party
party_named word party e = elim (named word (codes "acceptor") parties.Acceptor party _ e) [
  | inl p ↦ p.0 ∙ ap party_word p.1
  | inr e1 ↦ elim (named word (codes "proposer") parties.Proposer party None e1) [
    | inl p ↦ p.0 ∙ ap party_word p.1
    | inr e2 ↦ absurd cc
  ]
]

-- the word that names a point of a round
abbrev pub point_word : HaltPoint → Word
point_word points.Prepared = codes "after-prepare"
point_word points.Proposed = codes "after-propose"

point_named : (word : Word) (point : HaltPoint) → halt_point_name word ≡ Some point → word ≡ point_word point
point_named word point e = elim (named word (codes "after-prepare") points.Prepared point _ e) [
  | inl p ↦ p.0 ∙ ap point_word p.1
  | inr e1 ↦ elim (named word (codes "after-propose") points.Proposed point None e1) [
    | inl p ↦ p.0 ∙ ap point_word p.1
    | inr e2 ↦ absurd cc
  ]
]

-- ---- what is read is of the grammar

net_found : (proposers : ℕ) (left : WordsLeft) (command : Command) → net_at left ≡ Ok command → IsCommand proposers (codes "net" ∷ left.words) command
unfolding net_at leg_at who_at verdict_at
net_found proposers left command e =
    let l = bind_ok (leg_at left) _ command e in
    let w = bind_ok (who_at l.0.1) _ command l.2 in
    let v = bind_ok (ended (verdict_at w.0.1)) _ command w.2 in
    let leg = one_found leg_in left l.0.0 l.0.1 l.1 in
    let who = one_found who_in l.0.1 w.0.0 w.0.1 w.1 in
    let verdict = last_one_found (said verdict_name why.UnknownWord) w.0.1 v.0 v.1 in
    let is_leg : IsLeg l.0.0 leg.0 = one_or_all-found (codes "all") leg_name why.UnknownWord IsLeg (λ word is. is) (λ word x is. leg_named word x is) left.at leg.0 l.0.0 leg.2 in
    let is_who : IsWho w.0.0 who.0 = one_or_all-found (codes "*") acceptor_of why.BadNumber IsWho (λ word is. is) (λ word x is. acceptor_found word x is) l.0.1.at who.0 w.0.0 who.2 in
    let is_verdict : NamesVerdict v.0 verdict.0 = verdict_named verdict.0 v.0 (said_found verdict_name why.UnknownWord w.0.1.at verdict.0 v.0 verdict.2) in
    let same : Net l.0.0 w.0.0 v.0 ≡ command = cc (v.2) in
    let split : codes "net" ∷ left.words ≡ codes "net" ∷ leg.0 ∷ who.0 ∷ verdict.0 ∷ [] =
    ap (λ (ws : List Word). codes "net" ∷ ws) leg.1
    ∙ ap (λ (ws : List Word). codes "net" ∷ leg.0 ∷ ws) who.1
    ∙ ap (λ (ws : List Word). codes "net" ∷ leg.0 ∷ who.0 ∷ ws) verdict.1 in
    subst (IsCommand proposers (codes "net" ∷ left.words)) same (leg.0, who.0, verdict.0, split, is_leg, is_who, is_verdict)

-- two words, and a last one
pub last_parts : (first second : Word) (left words : List Word) (last : Word) (P : Word → Type 0) → words ≡ second ∷ left → left ≡ last ∷ [] → P last → HasLast (first ∷ words) (first ∷ second ∷ []) P
last_parts first second left words last P behind end says = (last, ap (λ (ws : List Word). first ∷ ws) behind ∙ ap (λ (ws : List Word). first ∷ second ∷ ws) end, says)

pub last_acceptor : (left : WordsLeft) (id : ℕ) → ended (acceptor_at left) ≡ Ok id → (word : Word) × (left.words ≡ word ∷ []) × IsAcceptor id word
unfolding acceptor_at
last_acceptor left id e =
    let w = last_one_found (said acceptor_of why.BadNumber) left id e in
    (w.0, w.1, acceptor_found w.0 id (said_found acceptor_of why.BadNumber left.at w.0 id w.2))

last_proposer : (proposers : ℕ) (left : WordsLeft) (proposer : ℕ) → ended (proposer_at proposers left) ≡ Ok proposer → (word : Word) × (left.words ≡ word ∷ []) × IsProposer proposers proposer word
unfolding proposer_at
last_proposer proposers left proposer e =
    let w = last_one_found (said (proposer_of proposers) why.BadNumber) left proposer e in
    (w.0, w.1, proposer_found proposers w.0 proposer (said_found (proposer_of proposers) why.BadNumber left.at w.0 proposer w.2))

crash_of-found : (proposers : ℕ) (party : Party) (words : List Word) (left : WordsLeft) (command : Command) → words ≡ party_word party ∷ left.words → crash_of party proposers left ≡ Ok command
    → IsCommand proposers (codes "crash" ∷ words) command
unfolding crash_of
crash_of-found proposers parties.Acceptor words left command behind e =
    let a = bind_ok (ended (acceptor_at left)) _ command e in
    let last = last_acceptor left a.0 a.1 in
    let same : CrashAcceptor a.0 ≡ command = cc (a.2) in
    subst (IsCommand proposers (codes "crash" ∷ words)) same (last_parts (codes "crash") (codes "acceptor") left.words words last.0 (IsAcceptor a.0) behind last.1 last.2)
crash_of-found proposers parties.Proposer words left command behind e =
    let a = bind_ok (ended (proposer_at proposers left)) _ command e in
    let last = last_proposer proposers left a.0 a.1 in
    let same : CrashProposer a.0 ≡ command = cc (a.2) in
    subst (IsCommand proposers (codes "crash" ∷ words)) same (last_parts (codes "crash") (codes "proposer") left.words words last.0 (IsProposer proposers a.0) behind last.1 last.2)

restart_of-found : (proposers : ℕ) (party : Party) (words : List Word) (left : WordsLeft) (command : Command) → words ≡ party_word party ∷ left.words → restart_of party proposers left ≡ Ok command
    → IsCommand proposers (codes "restart" ∷ words) command
unfolding restart_of
restart_of-found proposers parties.Acceptor words left command behind e =
    let a = bind_ok (ended (acceptor_at left)) _ command e in
    let last = last_acceptor left a.0 a.1 in
    let same : RestartAcceptor a.0 ≡ command = cc (a.2) in
    subst (IsCommand proposers (codes "restart" ∷ words)) same (last_parts (codes "restart") (codes "acceptor") left.words words last.0 (IsAcceptor a.0) behind last.1 last.2)
restart_of-found proposers parties.Proposer words left command behind e =
    let a = bind_ok (ended (proposer_at proposers left)) _ command e in
    let last = last_proposer proposers left a.0 a.1 in
    let same : RestartProposer a.0 ≡ command = cc (a.2) in
    subst (IsCommand proposers (codes "restart" ∷ words)) same (last_parts (codes "restart") (codes "proposer") left.words words last.0 (IsProposer proposers a.0) behind last.1 last.2)

party_found : (left : WordsLeft) (party : Party) (after : WordsLeft) → party_at left ≡ Ok (party, after) → left.words ≡ party_word party ∷ after.words
unfolding party_at
party_found left party after e =
    let w = one_found (said party_name why.UnknownWord) left party after e in
    let is : w.0 ≡ party_word party = party_named w.0 party (said_found party_name why.UnknownWord left.at w.0 party w.2) in
    w.1 ∙ ap (λ (word : Word). word ∷ after.words) is

halt_of-found : (proposers proposer : ℕ) (point : HaltPoint) (words : List Word) → IsHalt proposers words proposer (point_word point) → IsCommand proposers words (halt_of point proposer)
halt_of-found proposers proposer points.Prepared words is = is
halt_of-found proposers proposer points.Proposed words is = is

halt_found : (proposers : ℕ) (left : WordsLeft) (command : Command) → halt_at proposers left ≡ Ok command → IsCommand proposers (codes "halt" ∷ left.words) command
unfolding halt_at proposer_at halt_point_at
halt_found proposers left command e =
    let p = bind_ok (proposer_at proposers left) _ command e in
    let h = bind_ok (ended (halt_point_at p.0.1)) _ command p.2 in
    let proposer = one_found (said (proposer_of proposers) why.BadNumber) left p.0.0 p.0.1 p.1 in
    let point = last_one_found (said halt_point_name why.UnknownWord) p.0.1 h.0 h.1 in
    let is_proposer : IsProposer proposers p.0.0 proposer.0 = proposer_found proposers proposer.0 p.0.0 (said_found (proposer_of proposers) why.BadNumber left.at proposer.0 p.0.0 proposer.2) in
    let is_point : point.0 ≡ point_word h.0 = point_named point.0 h.0 (said_found halt_point_name why.UnknownWord p.0.1.at point.0 h.0 point.2) in
    let same : halt_of h.0 p.0.0 ≡ command = cc (h.2) in
    let split : codes "halt" ∷ left.words ≡ codes "halt" ∷ proposer.0 ∷ point_word h.0 ∷ [] =
    ap (λ (ws : List Word). codes "halt" ∷ ws) proposer.1
    ∙ ap (λ (ws : List Word). codes "halt" ∷ proposer.0 ∷ ws) point.1
    ∙ ap (λ (word : Word). codes "halt" ∷ proposer.0 ∷ word ∷ []) is_point in
    subst (IsCommand proposers (codes "halt" ∷ left.words)) same (halt_of-found proposers p.0.0 h.0 (codes "halt" ∷ left.words) (proposer.0, split, is_proposer))

show_found : (proposers : ℕ) (left : WordsLeft) (command : Command) → show_at left ≡ Ok command → IsCommand proposers (codes "show" ∷ left.words) command
unfolding show_at acceptor_at key_at
show_found proposers left command e =
    let a = bind_ok (acceptor_at left) _ command e in
    let k = bind_ok (ended (key_at a.0.1)) _ command a.2 in
    let id = one_found (said acceptor_of why.BadNumber) left a.0.0 a.0.1 a.1 in
    let word = last_one_found key_in a.0.1 k.0 k.1 in
    let key = key_in-found a.0.1.at word.0 k.0 word.2 in
    let is_acceptor : IsAcceptor a.0.0 id.0 = acceptor_found id.0 a.0.0 (said_found acceptor_of why.BadNumber left.at id.0 a.0.0 id.2) in
    let same : Show a.0.0 k.0 ≡ command = cc (k.2) in
    let split : codes "show" ∷ left.words ≡ codes "show" ∷ id.0 ∷ k.0 ∷ [] =
    ap (λ (ws : List Word). codes "show" ∷ ws) id.1
    ∙ ap (λ (ws : List Word). codes "show" ∷ id.0 ∷ ws) word.1
    ∙ ap (λ (w : Word). codes "show" ∷ id.0 ∷ w ∷ []) key.0 in
    subst (IsCommand proposers (codes "show" ∷ left.words)) same (id.0, split, is_acceptor, key.1)

stray_found : (proposers : ℕ) (left : WordsLeft) (command : Command) → (ended (version_at left) >>= λ index. Ok (Stray index)) ≡ Ok command → IsCommand proposers (codes "stray" ∷ left.words) command
unfolding version_at
stray_found proposers left command e =
    let v = bind_ok (ended (version_at left)) _ command e in
    let word = last_one_found (said u64_of why.BadNumber) left v.0 v.1 in
    let same : Stray v.0 ≡ command = cc (v.2) in
    subst (IsCommand proposers (codes "stray" ∷ left.words)) same
    (word.0, ap (λ (ws : List Word). codes "stray" ∷ ws) word.1, said_found u64_of why.BadNumber left.at word.0 v.0 word.2)

pub event_found : (proposers : ℕ) (name : EventName) (left : WordsLeft) (command : Command) → event_at name proposers left ≡ Ok command → IsCommand proposers (event_word name ∷ left.words) command
unfolding event_at
event_found proposers events.Net left command e = net_found proposers left command e
event_found proposers events.Crash left command e =
    let p = bind_ok (party_at left) _ command e in
    crash_of-found proposers p.0.0 left.words p.0.1 command (party_found left p.0.0 p.0.1 p.1) p.2
event_found proposers events.Restart left command e =
    let p = bind_ok (party_at left) _ command e in
    restart_of-found proposers p.0.0 left.words p.0.1 command (party_found left p.0.0 p.0.1 p.1) p.2
event_found proposers events.Halt left command e = halt_found proposers left command e
event_found proposers events.Stray left command e = stray_found proposers left command e
event_found proposers events.Show left command e = show_found proposers left command e

-- ---- what is of the grammar is read

leg_in-again : (at : ℕ) (word : Word) (leg : Option Leg) → IsLeg leg word → leg_in at word ≡ Ok leg
leg_in-again at word None is = ap (λ (w : Word). leg_in at w) is
leg_in-again at word (Some leg) is = ap (λ (w : Word). leg_in at w) is ∙ by leg
  where
    by : (l : Leg) → leg_in at (leg_word l) ≡ Ok (Some l)
    by legs.Prepare = refl
    by legs.Accept = refl
    by legs.Ages = refl
    by legs.Remove = refl
    by legs.List = refl
    by legs.Probe = refl
    by legs.Reply = refl

-- a number is no star
star_none : (word : Word) → bytes_eq word (codes "*") ≡ true → u64_of word ≡ None
star_none word e = ap u64_of ((bytes_eq-Decides word (codes "*")).0 e)

who_in-again : (at : ℕ) (word : Word) (who : Option ℕ) → IsWho who word → who_in at word ≡ Ok who
who_in-again at word None is = ap (λ (w : Word). who_in at w) is
who_in-again at word (Some id) is = by (bytes_eq word (codes "*")) refl
  where
    by : (b : Bool) → bytes_eq word (codes "*") ≡ b → who_in at word ≡ Ok (Some id)
    by true star = absurd (let no_number : None ≡ Some id = sym (star_none word star) ∙ is.0 in cc)
    by false star = rw (star, acceptor_again word id is) refl

verdict_again : (word : Word) (verdict : Verdict) → NamesVerdict verdict word → verdict_name word ≡ Some verdict
verdict_again word verdicts.Deliver is = ap verdict_name is
verdict_again word verdicts.Lose is = ap verdict_name is
verdict_again word verdicts.Twice is = ap verdict_name is
verdict_again word verdicts.Late is = ap verdict_name is
verdict_again word verdicts.Hold is = absurd is

pub net_again : (at : ℕ) (leg : Option Leg) (who : Option ℕ) (verdict : Verdict) (first second third : Word) → IsLeg leg first → IsWho who second → NamesVerdict verdict third
    → net_at (from at (first ∷ second ∷ third ∷ [])) ≡ Ok (Net leg who verdict)
unfolding net_at leg_at who_at verdict_at
net_again at leg who verdict first second third is_leg is_who is_verdict =
    rw (leg_in-again at first leg is_leg, who_in-again (at + 1) second who is_who, verdict_again third verdict is_verdict) refl

pub last_acceptor-again : (at : ℕ) (word : Word) (id : ℕ) → IsAcceptor id word → ended (acceptor_at (from at (word ∷ []))) ≡ Ok id
unfolding acceptor_at
last_acceptor-again at word id is = rw (acceptor_again word id is) refl

pub last_proposer-again : (proposers at : ℕ) (word : Word) (proposer : ℕ) → IsProposer proposers proposer word → ended (proposer_at proposers (from at (word ∷ []))) ≡ Ok proposer
unfolding proposer_at
last_proposer-again proposers at word proposer is = rw (proposer_again proposers word proposer is) refl

pub halt_again : (proposers at : ℕ) (point : HaltPoint) (proposer : ℕ) (word : Word) → IsProposer proposers proposer word
    → halt_at proposers (from at (word ∷ point_word point ∷ [])) ≡ Ok (halt_of point proposer)
unfolding halt_at proposer_at halt_point_at
halt_again proposers at points.Prepared proposer word is = rw (proposer_again proposers word proposer is) refl
halt_again proposers at points.Proposed proposer word is = rw (proposer_again proposers word proposer is) refl

pub show_again : (at id : ℕ) (key : List ℕ) (word : Word) → IsAcceptor id word → IsKey key → show_at (from at (word ∷ key ∷ [])) ≡ Ok (Show id key)
unfolding show_at acceptor_at key_at
show_again at id key word is names_key = rw (acceptor_again word id is, key_in-again (at + 1) key names_key) refl
