-- A history is reached link by link, and an entry is read where its link says.
use Rattle.std.proofs.Common.{◌≡◌, ℕ, ◌+◌, ◌<◌, Bool, true, false, List, [], ◌∷◌, ◌++◌, length, reverse, Some, None, refl, sym, ap, subst, arith, ◌∙◌}
use Rattle.std.specs.Prelude.{Option, is_some, not, ◌&&◌, ◌||◌, if◌then◌else◌, slice_get}
use Rattle.std.specs.Option.{option_or, option_map_or}
use Rattle.std.proofs.lemmas.List.{length-reverse, reverse-reverse, append-nil, append_assoc}
use mathlib.Core.Logic.{inl, inr}
use Rattle.cas_base.proofs.Bools.{true_or_false, if_true, if_false, left_false, and_left, and_right, both_true, not_of_false, not_tells, some_is, not_both}
use Rattle.cas_ballot.specs.declared.ballot.Ballot.{Ballot}
use Rattle.cas_change.specs.declared.program.Clause.{Clause}
use Rattle.cas_change.specs.declared.state.State.{State}
use Rattle.cas_record.specs.declared.entry.Entry.{Entry}
use Rattle.cas_record.specs.declared.mark.Mark.{Mark}
use Rattle.cas_record.specs.declared.mark.Mark.TheVariants.{Begun, Proposed, Acked, Floor, Voted, EraEntered, Ended, Harmed, Told}
use Rattle.cas_record.specs.declared.mark.Proposal.{Proposal}
use Rattle.cas_record.specs.declared.row.Link.{Link}
use Rattle.cas_record.specs.Places.{At, IsOlderPart, here, past, whole, later}
use Rattle.cas_record.specs.Histories.Chain.{is_key, is_call, is_proposal, has_proposal, opens_at, has_opening, has_calls, has_begun, link_of, program_of, keep_always, entry_of, chain_of}
use Rattle.cas_record.specs.Histories.Replay.{opening_state}
use Rattle.cas_record.specs.Kept.Index.{begun_at, standing_at, link_by, link_at, opening_at, program_at, program_in, state_at, state_in, next_at}
use Rattle.cas_record.proofs.Tests.{call_same, proposal_tells, neither_left, neither_right}
use Rattle.cas_record.proofs.PlaceLemmas.{at_part, part_part}
use Rattle.cas_record.proofs.Histories.Chains.{chain-none, chain-opened}
use Rattle.cas_record.proofs.Kept.Homes.{there_or_not, or_some, or_none, if_there}
use Rattle.cas_record.proofs.Positions.{get_front, get_last, read_more, made_more}
use Rattle.cas_record.proofs.Kept.Stands.{link_some}

-- ---- links
pub record IsLinked (key : List ℕ) (ballot : Ballot) (marks : List Mark) (link : Link) : Type 0 where
  pub proposal : Proposal
  pub older : List Mark
  pub at : At (Proposed proposal) older marks
  pub is : link ≡ link_by proposal older
  pub same_key : proposal.key ≡ key
  pub chain : chain_of key ballot marks ≡ chain_of key (link_of older proposal) older ++ entry_of older proposal ∷ []

linked_past : {key : List ℕ} {ballot : Ballot} {mark : Mark} {older : List Mark} {link : Link} → chain_of key ballot (mark ∷ older) ≡ chain_of key ballot older → IsLinked key ballot older link → IsLinked key ballot (mark ∷ older) link
linked_past same l = record { proposal = l.proposal; older = l.older; at = past l.at; is = l.is; same_key = l.same_key; chain = same ∙ l.chain }

pub linked : (key : List ℕ) (ballot : Ballot) (marks : List Mark) (link : Link) → link_at key ballot marks ≡ Some link → has_opening key ballot marks ≡ false → IsLinked key ballot marks link
linked key ballot [] link is none = absurd cc
linked key ballot (Proposed p ∷ older) link is none = elim (there_or_not (link_at key ballot older)) [
  | inl there ↦
      let same : there.0 ≡ link = some_is there.0 link (sym (or_some (link_at key ballot older) (if is_proposal key ballot p then Some (link_by p older) else None) there.0 there.1) ∙ is) in
      let proposed : has_proposal key ballot older ≡ true = sym (link_some key ballot older) ∙ ap is_some there.1 in
      let stays : (is_proposal key ballot p && not (has_proposal key ballot older || has_opening key ballot older)) ≡ false =
      ap (λ (t : Bool). is_proposal key ballot p && not (t || has_opening key ballot older)) proposed ∙ and_false (is_proposal key ballot p) in
      linked_past (if_false (is_proposal key ballot p && not (has_proposal key ballot older || has_opening key ballot older)) (chain_of key (link_of older p) older ++ entry_of older p ∷ []) (chain_of key ballot older) stays)
      (linked key ballot older link (there.1 ∙ ap Some same) none)
  | inr gone ↦
      let new = if_there (is_proposal key ballot p) (link_by p older) link (sym (or_none (link_at key ballot older) (if is_proposal key ballot p then Some (link_by p older) else None) gone) ∙ is) in
      let fresh : has_proposal key ballot older ≡ false = sym (link_some key ballot older) ∙ ap is_some gone in
      let starts : (is_proposal key ballot p && not (has_proposal key ballot older || has_opening key ballot older)) ≡ true =
      both_true (is_proposal key ballot p) (not (has_proposal key ballot older || has_opening key ballot older)) new.0
      (ap (λ (t : Bool). not (t || has_opening key ballot older)) fresh ∙ not_of_false (has_opening key ballot older) none) in
      record {
        proposal = p;
        older = older;
        at = here;
        is = sym new.1;
        same_key = (proposal_tells key ballot p new.0).same_key;
        chain = if_true (is_proposal key ballot p && not (has_proposal key ballot older || has_opening key ballot older)) (chain_of key (link_of older p) older ++ entry_of older p ∷ []) (chain_of key ballot older) starts;
      }
]
  where
    and_false : (t : Bool) → (t && false) ≡ false
    and_false true = refl
    and_false false = refl
linked key ballot (Floor k f s ∷ older) link is none =
    linked_past (if_false (opens_at key ballot (Floor k f s) older) [] (chain_of key ballot older) (neither_left (opens_at key ballot (Floor k f s) older) (has_opening key ballot older) none))
    (linked key ballot older link is (neither_right (opens_at key ballot (Floor k f s) older) (has_opening key ballot older) none))
linked key ballot (Acked a ∷ older) link is none = linked_past refl (linked key ballot older link is none)
linked key ballot (Begun c n k p ∷ older) link is none = linked_past refl (linked key ballot older link is none)
linked key ballot (Voted a k b ∷ older) link is none = linked_past refl (linked key ballot older link is none)
linked key ballot (EraEntered p n ∷ older) link is none = linked_past refl (linked key ballot older link is none)
linked key ballot (Ended c n r a ∷ older) link is none = linked_past refl (linked key ballot older link is none)
linked key ballot (Harmed c n d ∷ older) link is none = linked_past refl (linked key ballot older link is none)
linked key ballot (Told a b ∷ older) link is none = linked_past refl (linked key ballot older link is none)

-- a link stays
link_more : (key : List ℕ) (ballot : Ballot) (mark : Mark) (older : List Mark) (link : Link) → link_at key ballot older ≡ Some link → link_at key ballot (mark ∷ older) ≡ Some link
link_more key ballot (Proposed p) older link is = or_some (link_at key ballot older) (if is_proposal key ballot p then Some (link_by p older) else None) link is
link_more key ballot (Acked a) older link is = is
link_more key ballot (Floor k f s) older link is = is
link_more key ballot (Begun c n k p) older link is = is
link_more key ballot (Voted a k b) older link is = is
link_more key ballot (EraEntered p n) older link is = is
link_more key ballot (Ended c n r a) older link is = is
link_more key ballot (Harmed c n d) older link is = is
link_more key ballot (Told a b) older link is = is

pub link_stays : (key : List ℕ) (ballot : Ballot) {part marks : List Mark} (link : Link) → IsOlderPart part marks → link_at key ballot part ≡ Some link → link_at key ballot marks ≡ Some link
link_stays key ballot link whole is = is
link_stays key ballot link (later {y = mark} {rest = rest} part) is = link_more key ballot mark rest link (link_stays key ballot link part is)

pub at_older : {A : Type 0} {x : A} {older marks : List A} → At x older marks → IsOlderPart older marks
at_older here = later whole
at_older (past at) = later (at_older at)

pub at_low : {A : Type 0} {x : A} {older marks : List A} → At x older marks → length older < length marks
at_low {older = older} here = omega arith
at_low (past at) = omega (arith, at_low at)

-- ---- standing
pub stands_tells : (key : List ℕ) (from b : Ballot) (marks : List Mark) → standing_at key from marks ≡ Some b → (from ≡ b) × ((has_proposal key from marks ≡ true) × (has_opening key from marks ≡ false))
stands_tells key from b marks is =
    let parts = if_there (has_proposal key from marks && not (has_opening key from marks)) from b is in
    (parts.1, (and_left (has_proposal key from marks) (not (has_opening key from marks)) parts.0, not_tells (has_opening key from marks) (and_right (has_proposal key from marks) (not (has_opening key from marks)) parts.0)))

pub stands_none : (key : List ℕ) (from : Ballot) (marks : List Mark) → standing_at key from marks ≡ None → chain_of key from marks ≡ []
stands_none key from marks is = elim (true_or_false (has_proposal key from marks)) [
  | inl proposed ↦ elim (true_or_false (has_opening key from marks)) [
    | inl opened ↦ chain-opened key from marks opened
    | inr closed ↦ absurd (cc (if_true (has_proposal key from marks && not (has_opening key from marks)) (Some from) None (both_true (has_proposal key from marks) (not (has_opening key from marks)) proposed (not_of_false (has_opening key from marks) closed)), is))
  ]
  | inr fresh ↦ chain-none key from marks fresh
]

-- what stands has a link
pub stands_linked : (key : List ℕ) (from b : Ballot) (marks : List Mark) → standing_at key from marks ≡ Some b → (link : Link) × (link_at key b marks ≡ Some link)
stands_linked key from b marks is =
    let tells = stands_tells key from b marks is in
    elim (there_or_not (link_at key b marks)) [
      | inl there ↦ there
      | inr gone ↦ absurd (not_both (has_proposal key from marks) tells.1.0 (ap (λ (x : Ballot). has_proposal key x marks) tells.0 ∙ sym (link_some key b marks) ∙ ap is_some gone))
    ]

-- the link at a ballot that stood earlier is what it was
pub next_same : (key : List ℕ) (from : Ballot) {part marks : List Mark} → IsOlderPart part marks → next_at key (standing_at key from part) marks ≡ next_at key (standing_at key from part) part
next_same key from {part} {marks} older = elim (there_or_not (standing_at key from part)) [
  | inl there ↦
      let link = stands_linked key from there.0 part there.1 in
      ap (λ o. next_at key o marks) there.1 ∙ link_stays key there.0 link.0 older link.1 ∙ sym (ap (λ o. next_at key o part) there.1 ∙ link.1)
  | inr gone ↦ ap (λ o. next_at key o marks) gone ∙ sym (ap (λ o. next_at key o part) gone)
]

-- ---- the way back along the links
pub record IsReached (key : List ℕ) (top : Ballot) (marks : List Mark) (next : Option Link) (entries : List Entry) : Type 0 where
  pub from : Ballot
  pub part : List Mark
  pub is_part : IsOlderPart part marks
  pub next_is : next ≡ next_at key (standing_at key from part) part
  pub chain : chain_of key top marks ≡ chain_of key from part ++ reverse entries

pub reached_first : (key : List ℕ) (top : Ballot) (marks : List Mark) (next : Option Link) → next ≡ next_at key (standing_at key top marks) marks → IsReached key top marks next []
reached_first key top marks next is = record { from = top; part = marks; is_part = whole; next_is = is; chain = sym (append-nil (chain_of key top marks)) }

pub reached_last : (key : List ℕ) (top : Ballot) (marks : List Mark) (next : Option Link) (entries : List Entry) → IsReached key top marks next entries → next ≡ None → chain_of key top marks ≡ reverse entries
reached_last key top marks next entries reached end = reached.chain ∙ ap (λ (xs : List Entry). xs ++ reverse entries) empty
  where
    empty : chain_of key reached.from reached.part ≡ []
    empty = elim (there_or_not (standing_at key reached.from reached.part)) [
      | inl there ↦
          let link = stands_linked key reached.from there.0 reached.part there.1 in
          let found : next ≡ Some link.0 = reached.next_is ∙ ap (λ o. next_at key o reached.part) there.1 ∙ link.1 in
          absurd (cc (found, end))
      | inr gone ↦ stands_none key reached.from reached.part gone
    ]

-- the link that was reached
pub reached_link : (key : List ℕ) (top : Ballot) (marks : List Mark) (next : Option Link) (entries : List Entry) (link : Link) → (reached : IsReached key top marks next entries) → next ≡ Some link
    → IsLinked key reached.from reached.part link
reached_link key top marks next entries link reached is = elim (there_or_not (standing_at key reached.from reached.part)) [
  | inl there ↦
      let tells = stands_tells key reached.from there.0 reached.part there.1 in
      let found : link_at key there.0 reached.part ≡ Some link = sym (ap (λ o. next_at key o reached.part) there.1) ∙ sym reached.next_is ∙ is in
      linked key reached.from reached.part link (ap (λ (b : Ballot). link_at key b reached.part) tells.0 ∙ found) tells.1.1
  | inr gone ↦
      let lost : next ≡ None = reached.next_is ∙ ap (λ o. next_at key o reached.part) gone in
      absurd (cc (lost, is))
]

pub reached_more : (key : List ℕ) (top : Ballot) (marks : List Mark) (next : Option Link) (entries : List Entry) (link : Link) (reached : IsReached key top marks next entries) (is : next ≡ Some link)
    (entry : Entry) (after : Option Link) → ((p : Proposal) (older : List Mark) → At (Proposed p) older marks → link ≡ link_by p older → entry ≡ entry_of older p)
    → after ≡ next_at key link.from marks → IsReached key top marks after (entries ++ entry ∷ [])
reached_more key top marks next entries link reached is entry after entry_is after_is =
    let l = reached_link key top marks next entries link reached is in
    let from = link_of l.older l.proposal in
    let goes : link.from ≡ standing_at key from l.older = ap (λ (x : Link). x.from) l.is ∙ ap (λ (k : List ℕ). standing_at k from l.older) l.same_key in
    let part = part_part (at_older l.at) reached.is_part in
    record {
      from = from;
      part = l.older;
      is_part = part;
      next_is = after_is ∙ ap (λ o. next_at key o marks) goes ∙ next_same key from part;
      chain = reached.chain ∙ ap (λ (xs : List Entry). xs ++ reverse entries) (l.chain ∙ ap (λ (e : Entry). chain_of key from l.older ++ e ∷ []) (sym (entry_is l.proposal l.older (at_part l.at reached.is_part) l.is)))
          ∙ append_assoc (chain_of key from l.older) (entry ∷ []) (reverse entries)
          ∙ ap (λ (xs : List Entry). chain_of key from l.older ++ xs) (sym (read_more entries entry));
    }

-- each link is below the one before
pub reached_low : (key : List ℕ) (top : Ballot) (marks : List Mark) (next : Option Link) (entries : List Entry) (link other : Link) (reached : IsReached key top marks next entries) → next ≡ Some link
    → next_at key link.from marks ≡ Some other → other.place < link.place
reached_low key top marks next entries link other reached is after =
    let l = reached_link key top marks next entries link reached is in
    let from = link_of l.older l.proposal in
    let goes : link.from ≡ standing_at key from l.older = ap (λ (x : Link). x.from) l.is ∙ ap (λ (k : List ℕ). standing_at k from l.older) l.same_key in
    let part = part_part (at_older l.at) reached.is_part in
    let found : next_at key (standing_at key from l.older) l.older ≡ Some other = sym (next_same key from part) ∙ sym (ap (λ o. next_at key o marks) goes) ∙ after in
    let place : link.place ≡ length l.older = ap (λ (x : Link). x.place) l.is in
    elim (there_or_not (standing_at key from l.older)) [
      | inl there ↦
          let tells = stands_tells key from there.0 l.older there.1 in
          let at_ballot : link_at key from l.older ≡ Some other = ap (λ (b : Ballot). link_at key b l.older) tells.0 ∙ sym (ap (λ o. next_at key o l.older) there.1) ∙ found in
          let deeper = linked key from l.older other at_ballot tells.1.1 in
          let low = at_low deeper.at in
          let other_place : other.place ≡ length deeper.older = ap (λ (x : Link). x.place) deeper.is in
          omega (arith, place, other_place, low)
      | inr gone ↦ let lost = ap (λ o. next_at key o l.older) gone in absurd (cc (lost, found))
    ]

pub next_falls : (key : List ℕ) (top : Ballot) (marks : List Mark) (next : Option Link) (entries : List Entry) (link : Link) (after : Option Link) (reached : IsReached key top marks next entries) → next ≡ Some link
    → after ≡ next_at key link.from marks → option_map_or (λ (l : Link). l.place + 1) after 0 < option_map_or (λ (l : Link). l.place + 1) next 0
next_falls key top marks next entries link after reached is after_is = elim (there_or_not after) [
  | inl there ↦
      let low = reached_low key top marks next entries link there.0 reached is (sym after_is ∙ there.1) in
      let left : option_map_or (λ (l : Link). l.place + 1) after 0 ≡ there.0.place + 1 = ap (λ o. option_map_or (λ (l : Link). l.place + 1) o 0) there.1 in
      let right : option_map_or (λ (l : Link). l.place + 1) next 0 ≡ link.place + 1 = ap (λ o. option_map_or (λ (l : Link). l.place + 1) o 0) is in
      omega (arith, low, left, right)
  | inr gone ↦
      let left : option_map_or (λ (l : Link). l.place + 1) after 0 ≡ 0 = ap (λ o. option_map_or (λ (l : Link). l.place + 1) o 0) gone in
      let right : option_map_or (λ (l : Link). l.place + 1) next 0 ≡ link.place + 1 = ap (λ o. option_map_or (λ (l : Link). l.place + 1) o 0) is in
      omega (arith, left, right)
]

-- ---- what is read at a place
pub at_place : {A : Type 0} {x : A} {older news : List A} → At x older news → slice_get (reverse news) (length older) ≡ Some x
at_place {A} {x} {older} here = subst (λ (xs : List A). slice_get xs (length older) ≡ Some x) (sym (made_more older x))
    (ap (λ (n : ℕ). slice_get (reverse older ++ x ∷ []) n) (sym (length-reverse older)) ∙ get_last (reverse older) x)
at_place {A} {x} {older} (past {y = y} {rest = rest} at) = subst (λ (xs : List A). slice_get xs (length older) ≡ Some x) (sym (made_more rest y))
    (get_front (reverse rest) (y ∷ []) (length older) x (at_place at))

pub placed : {A : Type 0} {x : A} {older : List A} (marks : List A) → At x older (reverse marks) → slice_get marks (length older) ≡ Some x
placed {A} {x} {older} marks at = subst (λ (xs : List A). slice_get xs (length older) ≡ Some x) (reverse-reverse marks) (at_place at)

-- ---- programs
or_is_some : {V : Type 0} (o : Option V) (t : Bool) (x : V) → is_some (option_or o (if t then Some x else None)) ≡ (t || is_some o)
or_is_some None true x = refl
or_is_some None false x = refl
or_is_some (Some y) true x = refl
or_is_some (Some y) false x = refl

begun_some : (caller call : ℕ) (marks : List Mark) → is_some (begun_at caller call marks) ≡ has_begun caller call marks
begun_some caller call [] = refl
begun_some caller call (Begun c n k p ∷ older) = or_is_some (begun_at caller call older) (is_call caller call c n) (length older) ∙ ap (λ (t : Bool). is_call caller call c n || t) (begun_some caller call older)
begun_some caller call (Proposed p ∷ older) = begun_some caller call older
begun_some caller call (Acked a ∷ older) = begun_some caller call older
begun_some caller call (Floor k f s ∷ older) = begun_some caller call older
begun_some caller call (Voted a k b ∷ older) = begun_some caller call older
begun_some caller call (EraEntered p n ∷ older) = begun_some caller call older
begun_some caller call (Ended c n r a ∷ older) = begun_some caller call older
begun_some caller call (Harmed c n d ∷ older) = begun_some caller call older
begun_some caller call (Told a b ∷ older) = begun_some caller call older

record BegunAtPlace (caller call place : ℕ) (marks : List Mark) : Type 0 where
  key : List ℕ
  program : List Clause
  older : List Mark
  at : At (Begun caller call key program) older marks
  place_is : place ≡ length older
  program_is : program_of caller call marks ≡ program

begun_past : {caller call place : ℕ} {mark : Mark} {older : List Mark} → program_of caller call (mark ∷ older) ≡ program_of caller call older → BegunAtPlace caller call place older → BegunAtPlace caller call place (mark ∷ older)
begun_past same b = record { key = b.key; program = b.program; older = b.older; at = past b.at; place_is = b.place_is; program_is = same ∙ b.program_is }

begun_place : (caller call place : ℕ) (marks : List Mark) → begun_at caller call marks ≡ Some place → BegunAtPlace caller call place marks
begun_place caller call place [] is = absurd cc
begun_place caller call place (Begun c n k p ∷ older) is = elim (there_or_not (begun_at caller call older)) [
  | inl there ↦
      let same : there.0 ≡ place = some_is there.0 place (sym (or_some (begun_at caller call older) (if is_call caller call c n then Some (length older) else None) there.0 there.1) ∙ is) in
      let begun : has_begun caller call older ≡ true = sym (begun_some caller call older) ∙ ap is_some there.1 in
      let stays : (is_call caller call c n && not (has_begun caller call older)) ≡ false = ap (λ (t : Bool). is_call caller call c n && not t) begun ∙ and_false (is_call caller call c n) in
      begun_past (if_false (is_call caller call c n && not (has_begun caller call older)) p (program_of caller call older) stays) (begun_place caller call place older (there.1 ∙ ap Some same))
  | inr gone ↦
      let new = if_there (is_call caller call c n) (length older) place (sym (or_none (begun_at caller call older) (if is_call caller call c n then Some (length older) else None) gone) ∙ is) in
      let fresh : has_begun caller call older ≡ false = sym (begun_some caller call older) ∙ ap is_some gone in
      let starts = both_true (is_call caller call c n) (not (has_begun caller call older)) new.0 (not_of_false (has_begun caller call older) fresh) in
      let same = call_same {caller = caller} {call = call} {c = c} {n = n} new.0 in
      record {
        key = k;
        program = p;
        older = older;
        at = subst (λ (x : ℕ). At (Begun x call k p) older (Begun c n k p ∷ older)) same.0 (subst (λ (y : ℕ). At (Begun c y k p) older (Begun c n k p ∷ older)) same.1 here);
        place_is = sym new.1;
        program_is = if_true (is_call caller call c n && not (has_begun caller call older)) p (program_of caller call older) starts;
      }
]
  where
    and_false : (t : Bool) → (t && false) ≡ false
    and_false true = refl
    and_false false = refl
begun_place caller call place (Proposed p ∷ older) is = begun_past refl (begun_place caller call place older is)
begun_place caller call place (Acked a ∷ older) is = begun_past refl (begun_place caller call place older is)
begun_place caller call place (Floor k f s ∷ older) is = begun_past refl (begun_place caller call place older is)
begun_place caller call place (Voted a k b ∷ older) is = begun_past refl (begun_place caller call place older is)
begun_place caller call place (EraEntered p n ∷ older) is = begun_past refl (begun_place caller call place older is)
begun_place caller call place (Ended c n r a ∷ older) is = begun_past refl (begun_place caller call place older is)
begun_place caller call place (Harmed c n d ∷ older) is = begun_past refl (begun_place caller call place older is)
begun_place caller call place (Told a b ∷ older) is = begun_past refl (begun_place caller call place older is)

program_none : (caller call : ℕ) (marks : List Mark) → has_begun caller call marks ≡ false → program_of caller call marks ≡ keep_always
program_none caller call [] e = refl
program_none caller call (Begun c n k p ∷ older) e =
    if_false (is_call caller call c n && not (has_begun caller call older)) p (program_of caller call older) (left_false (is_call caller call c n) _ (neither_left (is_call caller call c n) (has_begun caller call older) e))
    ∙ program_none caller call older (neither_right (is_call caller call c n) (has_begun caller call older) e)
program_none caller call (Proposed p ∷ older) e = program_none caller call older e
program_none caller call (Acked a ∷ older) e = program_none caller call older e
program_none caller call (Floor k f s ∷ older) e = program_none caller call older e
program_none caller call (Voted a k b ∷ older) e = program_none caller call older e
program_none caller call (EraEntered p n ∷ older) e = program_none caller call older e
program_none caller call (Ended c n r a ∷ older) e = program_none caller call older e
program_none caller call (Harmed c n d ∷ older) e = program_none caller call older e
program_none caller call (Told a b ∷ older) e = program_none caller call older e

-- the program of a call is read where it began
pub program_read : (caller call : ℕ) (part marks : List Mark) → IsOlderPart part (reverse marks) → program_at marks (begun_at caller call part) ≡ program_of caller call part
program_read caller call part marks older = elim (there_or_not (begun_at caller call part)) [
  | inl there ↦
      let b = begun_place caller call there.0 part there.1 in
      ap (program_at marks) there.1 ∙ ap (λ (n : ℕ). program_in (slice_get marks n)) b.place_is ∙ ap program_in (placed marks (at_part b.at older)) ∙ sym b.program_is
  | inr gone ↦ ap (program_at marks) gone ∙ sym (program_none caller call part (sym (begun_some caller call part) ∙ ap is_some gone))
]

proposal_same : (p q : Proposal) → Proposed p ≡ Proposed q → p ≡ q
proposal_same p q e = cc

-- the entry of a proposal, by what its link tells
pub entry_read : (marks : List Mark) (q p : Proposal) (older : List Mark) (link : Link) (program : List Clause) → At (Proposed p) older (reverse marks) → Proposed q ≡ Proposed p → link ≡ link_by p older
    → program ≡ program_at marks link.begun → record { caller = q.caller; call = q.call; program = program } ≡ entry_of older p
entry_read marks q p older link program at same is read =
    let e = proposal_same q p same in
    let told : program ≡ program_of p.caller p.call older = read ∙ ap (λ (l : Link). program_at marks l.begun) is ∙ program_read p.caller p.call older marks (at_older at) in
    let by : Proposal → Entry = λ x. record { caller = x.caller; call = x.call; program = program } in
    let with_program : List Clause → Entry = λ x. record { caller = p.caller; call = p.call; program = x } in
    ap by e ∙ ap with_program told

-- ---- the state with which a history starts
pub opening_read : (key : List ℕ) (part marks : List Mark) → IsOlderPart part (reverse marks) → state_at marks (opening_at key part) ≡ opening_state key part
opening_read key [] marks older = refl
opening_read key (Floor k f s ∷ part) marks older = elim (true_or_false (is_key k key && not (has_calls part))) [
  | inl opens ↦
      ap (state_at marks) (if_true (is_key k key && not (has_calls part)) (Some (length part)) (opening_at key part) opens)
      ∙ ap state_in (placed marks (at_part (floor_here k f s part) older))
      ∙ sym (if_true (is_key k key && not (has_calls part)) s (opening_state key part) opens)
  | inr stays ↦
      ap (state_at marks) (if_false (is_key k key && not (has_calls part)) (Some (length part)) (opening_at key part) stays)
      ∙ opening_read key part marks (part_part (later whole) older)
      ∙ sym (if_false (is_key k key && not (has_calls part)) s (opening_state key part) stays)
]
  where
    floor_here : (k : List ℕ) (f : Ballot) (s : State) (part : List Mark) → At (Floor k f s) part (Floor k f s ∷ part)
    floor_here k f s part = here
opening_read key (Proposed p ∷ part) marks older = opening_read key part marks (part_part (later whole) older)
opening_read key (Acked a ∷ part) marks older = opening_read key part marks (part_part (later whole) older)
opening_read key (Begun c n k p ∷ part) marks older = opening_read key part marks (part_part (later whole) older)
opening_read key (Voted a k b ∷ part) marks older = opening_read key part marks (part_part (later whole) older)
opening_read key (EraEntered p n ∷ part) marks older = opening_read key part marks (part_part (later whole) older)
opening_read key (Ended c n r a ∷ part) marks older = opening_read key part marks (part_part (later whole) older)
opening_read key (Harmed c n d ∷ part) marks older = opening_read key part marks (part_part (later whole) older)
opening_read key (Told a b ∷ part) marks older = opening_read key part marks (part_part (later whole) older)
