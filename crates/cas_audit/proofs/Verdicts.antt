-- The first rule that one mark more breaks, and what the record then breaks.
use Rattle.std.proofs.Common.{◌≡◌, ℕ, suc, ◌≤◌, ◌<◌, List, [], ◌∷◌, length, arith, refl, sym, ap, subst, ◌∙◌}
use Rattle.std.specs.Prelude.{Some, None}
use Rattle.std.proofs.lemmas.Bool.Decides.{leb_tells}
use mathlib.Core.Logic.{inl, inr}
use Rattle.cas_record.specs.declared.mark.Mark.{Mark}
use Rattle.cas_record.specs.declared.entry.Entry.{Entry}
use Rattle.cas_record.specs.Histories.Chain.{settled_of}
use Rattle.cas_record.specs.Legal.{WasBegun, IsLegal}
use Rattle.cas_record.specs.Places.{Stands, IsOlderPart, IsPrefix, whole, later}
use Rattle.cas_record.proofs.PlaceLemmas.{none_at_nil, part_part, prefix_same}
use Rattle.cas_record.proofs.LawLemmas.{earlier_is_legal}
use Rattle.cas_audit.specs.declared.auditor.Broken.{Broken}
use Rattle.cas_audit.specs.Auditing.{rules, IsFirstBroken, IsBroken, AllKept, VerdictsAreOne, VerdictsStay}
use Rattle.cas_audit.specs.Keeping.{KeepsNumbers, KeepsStanding, KeepsRefusals, KeepsRealTime, KeepsSettled, KeepsVotes, KeepsFloors, KeepsHarms}
use Rattle.cas_audit.proofs.Auditing.{rules_legal, first_is_one}
use Rattle.cas_audit.proofs.Going.{rules_go_on}

module _ (mark : Mark) (older : List Mark) (legal : IsLegal older) where
  pub breaks_numbers : (KeepsNumbers mark older → ⊥) → IsFirstBroken 0 rules 1 (mark ∷ older)
  breaks_numbers n = inl (refl, λ is. n ((rules_go_on mark older legal).numbered.0 is))

  pub breaks_standing : KeepsNumbers mark older → (KeepsStanding mark older → ⊥) → IsFirstBroken 0 rules 2 (mark ∷ older)
  breaks_standing a n = let go = rules_go_on mark older legal in inr (go.numbered.1 a, inl (refl, λ is. n (go.done_stands.0 is)))

  pub breaks_refusals : KeepsNumbers mark older → KeepsStanding mark older → (KeepsRefusals mark older → ⊥) → IsFirstBroken 0 rules 3 (mark ∷ older)
  breaks_refusals a b n = let go = rules_go_on mark older legal in inr (go.numbered.1 a, inr (go.done_stands.1 b, inl (refl, λ is. n ((go.refused_never (go.numbered.1 a)).0 is))))

  pub breaks_real_time : KeepsNumbers mark older → KeepsStanding mark older → KeepsRefusals mark older → (KeepsRealTime mark older → ⊥) → IsFirstBroken 0 rules 4 (mark ∷ older)
  breaks_real_time a b c n =
      let go = rules_go_on mark older legal in
      inr (go.numbered.1 a, inr (go.done_stands.1 b, inr ((go.refused_never (go.numbered.1 a)).1 c, inl (refl, λ is. n (go.after_seen.0 is)))))

  pub breaks_settled : KeepsNumbers mark older → KeepsStanding mark older → KeepsRefusals mark older → KeepsRealTime mark older → (KeepsSettled mark older → ⊥) → IsFirstBroken 0 rules 5 (mark ∷ older)
  breaks_settled a b c d n =
      let go = rules_go_on mark older legal in
      inr (go.numbered.1 a, inr (go.done_stands.1 b, inr ((go.refused_never (go.numbered.1 a)).1 c, inr (go.after_seen.1 d, inl (refl, λ is. n (go.only_grows.0 is))))))

  pub breaks_votes : KeepsNumbers mark older → KeepsStanding mark older → KeepsRefusals mark older → KeepsRealTime mark older → KeepsSettled mark older → (KeepsVotes mark older → ⊥) → IsFirstBroken 0 rules 7 (mark ∷ older)
  breaks_votes a b c d e n =
      let go = rules_go_on mark older legal in
      inr (go.numbered.1 a, inr (go.done_stands.1 b, inr ((go.refused_never (go.numbered.1 a)).1 c, inr (go.after_seen.1 d, inr (go.only_grows.1 e, inr (go.begun_first (go.numbered.1 a), inl (refl, λ is. n (go.has_votes.0 is))))))))

  pub breaks_floors : KeepsNumbers mark older → KeepsStanding mark older → KeepsRefusals mark older → KeepsRealTime mark older → KeepsSettled mark older → KeepsVotes mark older → (KeepsFloors mark older → ⊥)
      → IsFirstBroken 0 rules 8 (mark ∷ older)
  breaks_floors a b c d e f n =
      let go = rules_go_on mark older legal in
      inr (go.numbered.1 a, inr (go.done_stands.1 b, inr ((go.refused_never (go.numbered.1 a)).1 c, inr (go.after_seen.1 d, inr (go.only_grows.1 e, inr (go.begun_first (go.numbered.1 a), inr (go.has_votes.1 f, inl (refl, λ is. n (go.floors.0 is)))))))))

  pub breaks_harms : KeepsNumbers mark older → KeepsStanding mark older → KeepsRefusals mark older → KeepsRealTime mark older → KeepsSettled mark older → KeepsVotes mark older → KeepsFloors mark older → (KeepsHarms mark older → ⊥)
      → IsFirstBroken 0 rules 9 (mark ∷ older)
  breaks_harms a b c d e f g n =
      let go = rules_go_on mark older legal in
      inr (go.numbered.1 a, inr (go.done_stands.1 b, inr ((go.refused_never (go.numbered.1 a)).1 c, inr (go.after_seen.1 d, inr (go.only_grows.1 e, inr (go.begun_first (go.numbered.1 a), inr (go.has_votes.1 f, inr (go.floors.1 g, inl (refl, λ is. n (go.short_harmed.0 is))))))))))

  pub breaks_nothing : KeepsNumbers mark older → KeepsStanding mark older → KeepsRefusals mark older → KeepsRealTime mark older → KeepsSettled mark older → KeepsVotes mark older → KeepsFloors mark older → KeepsHarms mark older
      → IsLegal (mark ∷ older)
  breaks_nothing a b c d e f g h =
      let go = rules_go_on mark older legal in
      let kept : AllKept rules (mark ∷ older) = (go.numbered.1 a, (go.done_stands.1 b, ((go.refused_never (go.numbered.1 a)).1 c, (go.after_seen.1 d, (go.only_grows.1 e, (go.begun_first (go.numbered.1 a), (go.has_votes.1 f, (go.floors.1 g, (go.short_harmed.1 h, tt))))))))) in
      (rules_legal (mark ∷ older)).0.1 kept

-- ---- what the record breaks
before_whole : {mark : Mark} {older shorter : List Mark} → IsLegal older → IsOlderPart shorter (mark ∷ older) → length shorter < suc (length older) → IsLegal shorter
before_whole legal whole less = absurd (omega (arith, less))
before_whole {mark} {older} {shorter} legal (later part) less = earlier_is_legal older shorter part legal

pub broken_now : (mark : Mark) (older : List Mark) (rule at : ℕ) → IsLegal older → at ≡ suc (length older) → IsFirstBroken 0 rules rule (mark ∷ older) → IsBroken (record { rule = rule; at = at }) (mark ∷ older)
broken_now mark older rule at legal at_is first = record { part = mark ∷ older; stands = whole; at = at_is; before = λ part less. before_whole legal part less; rule = first }

part_short : {part marks : List Mark} → IsOlderPart part marks → length part ≤ length marks
part_short whole = omega arith
part_short (later p) = omega (arith, part_short p)

before_later : {mark : Mark} {marks shorter : List Mark} (broken : Broken) (b : IsBroken broken marks) → IsOlderPart shorter (mark ∷ marks) → length shorter < length b.part → IsLegal shorter
before_later broken b whole less = absurd (omega (arith, less, part_short b.stands))
before_later broken b (later part) less = b.before part less

-- a record that breaks a rule breaks it there whatever follows
pub broken_later : (mark : Mark) (marks : List Mark) (broken : Broken) → IsBroken broken marks → IsBroken broken (mark ∷ marks)
broken_later mark marks broken b = record { part = b.part; stands = later b.stands; at = b.at; before = λ part less. before_later broken b part less; rule = b.rule }

-- ---- no marks
part_nil : {part : List Mark} → IsOlderPart part [] → part ≡ []
part_nil whole = refl

grows_nil : {a b : List Mark} → IsOlderPart b [] → IsOlderPart a b → (key : List ℕ) → IsPrefix (settled_of key a) (settled_of key b)
grows_nil q p key = prefix_same (ap (λ marks. settled_of key marks) (part_nil (part_part p q) ∙ sym (part_nil q)))

begun_nil : {part : List Mark} → IsOlderPart part [] → (key : List ℕ) (entry : Entry) → Stands entry (settled_of key part) → WasBegun key entry part
begun_nil p key entry s =
    let none : Stands entry [] = subst (λ marks. Stands entry (settled_of key marks)) (part_nil p) s in
    absurd (none_at_nil none.at)

-- the record of no marks is legal
pub nothing_legal : IsLegal []
nothing_legal = record {
  numbered = record { begun = λ at. absurd (none_at_nil at); proposed = λ at. absurd (none_at_nil at); ended = λ at. absurd (none_at_nil at) };
  done_stands = λ at. absurd (none_at_nil at);
  refused_never = record { refused = λ at tells proposed. none_at_nil at; unsettled = λ at tells. absurd (none_at_nil at) };
  after_seen = λ at began entry before after same_caller same_call is. absurd (none_at_nil at);
  only_grows = λ q p key. grows_nil q p key;
  begun_first = λ p key entry s. begun_nil p key entry s;
  has_votes = λ at. absurd (none_at_nil at);
  floors = λ at. absurd (none_at_nil at);
  short_harmed = λ at. absurd (none_at_nil at);
}

-- ---- one verdict
broken_not_legal : {marks : List Mark} {broken : Broken} → IsBroken broken marks → IsLegal marks → ⊥
broken_not_legal {marks} {broken} b legal = (rules_legal b.part).1 broken.rule (earlier_is_legal marks b.part b.stands legal) b.rule

part_one : {a b marks : List Mark} → IsOlderPart a marks → IsOlderPart b marks → length a ≡ length b → a ≡ b
part_one whole whole same = refl
part_one whole (later q) same = absurd (omega (arith, same, part_short q))
part_one (later p) whole same = absurd (omega (arith, same, part_short p))
part_one (later p) (later q) same = part_one p q same

not_longer : {marks : List Mark} {one two : Broken} → (a : IsBroken one marks) (b : IsBroken two marks) → length a.part < length b.part → ⊥
not_longer {marks} {one} {two} a b less = (rules_legal a.part).1 one.rule (b.before a.stands less) a.rule

same_length : {marks : List Mark} {one two : Broken} → (a : IsBroken one marks) (b : IsBroken two marks) → length a.part ≡ length b.part
same_length a b = elim (leb_tells (length a.part) (length b.part)) [
  | inl low ↦ elim (leb_tells (length b.part) (length a.part)) [
    | inl high ↦ omega (arith, low.1, high.1)
    | inr less ↦ absurd (not_longer a b less.1)
  ]
  | inr less ↦ absurd (not_longer b a less.1)
]

one_broken : {marks : List Mark} {one two : Broken} → IsBroken one marks → IsBroken two marks → one ≡ two
one_broken {marks} {one} {two} a b =
    let same : a.part ≡ b.part = part_one a.stands b.stands (same_length a b) in
    let rule : one.rule ≡ two.rule = first_is_one b.part one.rule two.rule (subst (IsFirstBroken 0 rules one.rule) same a.rule) b.rule in
    let at : one.at ≡ two.at = a.at ∙ ap length same ∙ sym b.at in
    λ i. record { rule = rule i; at = at i }

pub verdicts_one : VerdictsAreOne
verdicts_one marks None None a b = refl
verdicts_one marks None (Some two) a b = absurd (broken_not_legal b a)
verdicts_one marks (Some one) None a b = absurd (broken_not_legal a b)
verdicts_one marks (Some one) (Some two) a b = ap Some (one_broken a b)

pub verdicts_stay : VerdictsStay
verdicts_stay mark marks broken b = broken_later mark marks broken b
