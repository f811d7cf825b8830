-- The log with which a cluster begins: each floor with which a history opens is marked, and each member of the first era takes it.
use Rattle.std.proofs.Common.{◌≡◌, ℕ, true, false, List, [], ◌∷◌, ◌++◌, refl, sym, ap, subst, ◌∙◌, inl, inr}
use Rattle.std.specs.Prelude.{◌⊎◌, ◌==◌, ◌&&◌, not, map, Contains}
use Rattle.cas_base.proofs.Bools.{if_true, if_false, true_or_false, and_left, both_true, or_left, or_right, or_cases, not_both, not_of_false}
use Rattle.cas_ballot.specs.declared.ballot.Ballot.{Ballot}
use Rattle.cas_ballot.specs.Ballot.{zero_ballot, BallotAtMost}
use Rattle.cas_ballot.specs.Members.{has_member}
use Rattle.cas_ballot.proofs.BallotLemmas.{at_most_refl, zero_at_most}
use Rattle.cas_change.specs.declared.state.State.{State}
use Rattle.cas_change.specs.declared.program.Clause.{Clause}
use Rattle.cas_round.proofs.Lists.{Has, contains}
use Rattle.cas_record.specs.declared.mark.Mark.{Mark}
use Rattle.cas_record.specs.declared.mark.Mark.TheVariants.{Floor, Begun}
use Rattle.cas_record.specs.Histories.Chain.{is_key, is_ballot, has_calls, opens_at, has_opening}
use Rattle.cas_record.specs.Logs.Happening.{Happening, Marked, Promised, Took, marks_of}
use Rattle.cas_record.specs.Logs.Lawful.{Cluster, Lawful, AreFirst, HasOpening, HasSeen, in_promise, in_take, in_ride, slot_told, is_slot}
use Rattle.cas_record.specs.Legal.{IsOpeningFloor, calls_of}
use Rattle.cas_record.specs.Logs.Listing.{no_slot_told}
use Rattle.cas_record.specs.Logs.Orderly.{Orderly, age_told}
use Rattle.cas_record.specs.Places.{At, Stands, here, past}
use Rattle.cas_record.specs.Histories.Replay.{opening_state}
use Rattle.cas_record.proofs.Logs.Lemmas.{mark_stands}
use Rattle.cas_record.proofs.PlaceLemmas.{none_at_nil, stands_at}
use Rattle.cas_record.proofs.Tests.{key_same, key_is, key_refl, ballot_is, nat_same, nat_is, slot_same}
use Rattle.cas_model.specs.Openings.{Opening, mark_of, KeysDiffer}

-- ---- the log
-- each of these takes the floor
abbrev pub takes : List ℕ → Opening → List Happening
takes [] o = []
takes (acceptor ∷ by) o = Took acceptor o.key o.ballot zero_ballot ∷ takes by o

-- the floors are given newest first
abbrev pub first_log : List ℕ → List Opening → List Happening
first_log members [] = []
first_log members (o ∷ older) = takes members o ++ Marked (mark_of o) ∷ first_log members older

-- ---- what stands in it
-- a floor was marked, or taken by a member
pub data IsOf (members : List ℕ) (floors : List Opening) (h : Happening) : Type 0 where
  marked : (o : Opening) → Has o floors → h ≡ Marked (mark_of o) → IsOf members floors h
  taken : (o : Opening) (acceptor : ℕ) → Has o floors → has_member members acceptor ≡ true → h ≡ Took acceptor o.key o.ballot zero_ballot → IsOf members floors h

of_more : {members : List ℕ} {p : Opening} {floors : List Opening} {h : Happening} → IsOf members floors h → IsOf members (p ∷ floors) h
of_more (marked o has_it is) = marked o (inr has_it) is
of_more (taken o acceptor has_it member is) = taken o acceptor (inr has_it) member is

-- in a log that goes on by takes of some members
in_takes : (members by : List ℕ) (o : Opening) (floors : List Opening) (rest : List Happening) → Has o floors → ((a : ℕ) → has_member by a ≡ true → has_member members a ≡ true)
    → ((h : Happening) (older : List Happening) → At h older rest → IsOf members floors h) → (h : Happening) (older : List Happening) → At h older (takes by o ++ rest) → IsOf members floors h
in_takes members [] o floors rest has_o within in_rest h older at = in_rest h older at
in_takes members (a ∷ by) o floors rest has_o within in_rest h older here = taken o a has_o (within a (or_left (a == a) (has_member by a) (nat_is {a = a} refl))) refl
in_takes members (a ∷ by) o floors rest has_o within in_rest h older (past at) = in_takes members by o floors rest has_o (λ b e. within b (or_right (a == b) (has_member by b) e)) in_rest h older at

in_mark : (members : List ℕ) (floors : List Opening) (o : Opening) (older : List Happening) → ((h : Happening) (before : List Happening) → At h before older → IsOf members floors h)
    → (h : Happening) (before : List Happening) → At h before (Marked (mark_of o) ∷ older) → IsOf members (o ∷ floors) h
in_mark members floors o older rest h before here = marked o (inl refl) refl
in_mark members floors o older rest h before (past at) = of_more (rest h before at)

pub in_first : (members : List ℕ) (floors : List Opening) (h : Happening) (older : List Happening) → At h older (first_log members floors) → IsOf members floors h
in_first members [] h older at = absurd (none_at_nil at)
in_first members (o ∷ floors) h older at =
    in_takes members members o (o ∷ floors) (Marked (mark_of o) ∷ first_log members floors) (inl refl) (λ a e. e) (in_mark members floors o (first_log members floors) (in_first members floors)) h older at

first_takes : (by : List ℕ) (o : Opening) (rest : List Happening) → AreFirst rest → AreFirst (takes by o ++ rest)
first_takes [] o rest first = first
first_takes (a ∷ by) o rest first = first_takes by o rest first

pub are_first : (members : List ℕ) (floors : List Opening) → AreFirst (first_log members floors)
are_first members [] = tt
are_first members (o ∷ older) = first_takes members o (Marked (mark_of o) ∷ first_log members older) (are_first members older)

-- ---- its marks
marks_takes : (by : List ℕ) (o : Opening) (rest : List Happening) → marks_of (takes by o ++ rest) ≡ marks_of rest
marks_takes [] o rest = refl
marks_takes (a ∷ by) o rest = marks_takes by o rest

pub first_marks : (members : List ℕ) (floors : List Opening) → marks_of (first_log members floors) ≡ map mark_of floors
first_marks members [] = refl
first_marks members (o ∷ older) = marks_takes members o (Marked (mark_of o) ∷ first_log members older) ∙ ap (λ (l : List Mark). mark_of o ∷ l) (first_marks members older)

pub no_calls_first : (floors : List Opening) → has_calls (map mark_of floors) ≡ false
no_calls_first [] = refl
no_calls_first (o ∷ older) = no_calls_first older

pub no_numbers_first : (caller : ℕ) (floors : List Opening) → calls_of caller (map mark_of floors) ≡ 0
no_numbers_first caller [] = refl
no_numbers_first caller (o ∷ older) = no_numbers_first caller older

-- a mark of it is that of a floor
pub mark_first : (floors : List Opening) {mark : Mark} {older : List Mark} → At mark older (map mark_of floors) → (o : Opening) × Has o floors × (mark ≡ mark_of o)
mark_first [] at = absurd (none_at_nil at)
mark_first (o ∷ floors) here = (o, inl refl, refl)
mark_first (o ∷ floors) (past at) = let rest = mark_first floors at in (rest.0, inr rest.1, rest.2)

-- each floor stands in it
behind_takes : {h : Happening} (by : List ℕ) (o : Opening) {rest : List Happening} → Stands h rest → Stands h (takes by o ++ rest)
behind_takes [] o s = s
behind_takes (a ∷ by) o s = let rest = behind_takes by o s in record { older = rest.older; at = past rest.at }

pub floor_in : (members : List ℕ) (floors : List Opening) (o : Opening) → Has o floors → Stands (Marked (mark_of o)) (first_log members floors)
floor_in members [] o h = absurd h
floor_in members (p ∷ older) o (inl same) = behind_takes members p (record {
  older = first_log members older;
  at = subst (λ (x : Opening). At (Marked (mark_of x)) (first_log members older) (Marked (mark_of p) ∷ first_log members older)) same here;
})
floor_in members (p ∷ older) o (inr h) = let rest = floor_in members older o h in behind_takes members p (record { older = rest.older; at = past rest.at })

-- ---- one key, one floor
pub one_floor : (floors : List Opening) → KeysDiffer floors → (o p : Opening) → Has o floors → Has p floors → o.key ≡ p.key → o ≡ p
one_floor [] differ o p h k same = absurd h
one_floor (x ∷ floors) differ o p (inl h) (inl k) same = sym h ∙ k
one_floor (x ∷ floors) differ o p (inl h) (inr k) same = absurd (differ.0 p (contains p floors k) (sym same ∙ ap (λ (y : Opening). y.key) (sym h)))
one_floor (x ∷ floors) differ o p (inr h) (inl k) same = absurd (differ.0 o (contains o floors h) (same ∙ ap (λ (y : Opening). y.key) (sym k)))
one_floor (x ∷ floors) differ o p (inr h) (inr k) same = one_floor floors differ.1 o p h k same

-- a key has a floor among them or none
pub data Finds (key : List ℕ) (floors : List Opening) : Type 0 where
  a_floor : (o : Opening) → Has o floors → o.key ≡ key → Finds key floors
  no_floor : ((o : Opening) → Has o floors → o.key ≡ key → ⊥) → Finds key floors

find_later : (key : List ℕ) (o : Opening) (older : List Opening) → Finds key older → is_key o.key key ≡ false → Finds key (o ∷ older)
find_later key o older (a_floor p h same) other = a_floor p (inr h) same
find_later key o older (no_floor apart) other = no_floor (λ p h same. elim h [
  | inl head ↦ not_both (is_key o.key key) (key_is (ap (λ (y : Opening). y.key) head ∙ same)) other
  | inr before ↦ apart p before same
])

pub find : (key : List ℕ) (floors : List Opening) → Finds key floors
find key [] = no_floor (λ o h same. h)
find key (o ∷ older) = elim (true_or_false (is_key o.key key)) [
  | inl own ↦ a_floor o (inl refl) (key_same own)
  | inr other ↦ find_later key o older (find key older) other
]

-- ---- slots
slot_other : {acceptor a : ℕ} {key k : List ℕ} → (a ≡ acceptor → k ≡ key → ⊥) → is_slot acceptor key a k ≡ false
slot_other {acceptor} {a} {key} {k} other = elim (true_or_false (is_slot acceptor key a k)) [
  | inl own ↦ let same = slot_same {acceptor = acceptor} {a = a} {key = key} {k = k} own in absurd (other same.0 same.1)
  | inr apart ↦ apart
]

-- takes of another key, or by others, change nothing
takes_other : (by : List ℕ) (o : Opening) (rest : List Happening) (id : ℕ) (key : List ℕ) → (has_member by id ≡ true → o.key ≡ key → ⊥) → slot_told (takes by o ++ rest) id key ≡ slot_told rest id key
takes_other [] o rest id key other = refl
takes_other (a ∷ by) o rest id key other =
    if_false (is_slot id key a o.key) _ _ (slot_other {acceptor = id} {a = a} {key = key} {k = o.key} (λ same same_key. other (or_left (a == id) (has_member by id) (nat_is {a = a} same)) same_key))
    ∙ takes_other by o rest id key (λ member same_key. other (or_right (a == id) (has_member by id) member) same_key)

-- a member's own makes the slot
takes_own : (by : List ℕ) (o : Opening) (rest : List Happening) (id : ℕ) → has_member by id ≡ true → slot_told (takes by o ++ rest) id o.key ≡ record { promise = zero_ballot; accepted = o.ballot }
takes_own [] o rest id member = absurd (cc member)
takes_own (a ∷ by) o rest id member = elim (true_or_false (a == id)) [
  | inl same ↦ if_true (is_slot id o.key a o.key) _ _ (both_true (a == id) (is_key o.key o.key) same (key_refl o.key))
  | inr other ↦
      if_false (is_slot id o.key a o.key) _ _ (slot_other {acceptor = id} {a = a} {key = o.key} {k = o.key} (λ same same_key. not_both (a == id) (nat_is {a = a} same) other))
      ∙ takes_own by o rest id (later (or_cases (a == id) (has_member by id) member) other)
]
  where
    later : ((a == id) ≡ true) ⊎ (has_member by id ≡ true) → (a == id) ≡ false → has_member by id ≡ true
    later (inl same) other = absurd (not_both (a == id) same other)
    later (inr in_by) other = in_by

-- a key without a floor has no slot
pub none_told : (members : List ℕ) (floors : List Opening) (id : ℕ) (key : List ℕ) → ((o : Opening) → Has o floors → o.key ≡ key → ⊥) → slot_told (first_log members floors) id key ≡ no_slot_told
none_told members [] id key other = refl
none_told members (o ∷ older) id key other =
    takes_other members o (Marked (mark_of o) ∷ first_log members older) id key (λ member same. other o (inl refl) same) ∙ none_told members older id key (λ p h same. other p (inr h) same)

-- nor has who is no member
pub strange_told : (members : List ℕ) (floors : List Opening) (id : ℕ) (key : List ℕ) → has_member members id ≡ false → slot_told (first_log members floors) id key ≡ no_slot_told
strange_told members [] id key other = refl
strange_told members (o ∷ older) id key other =
    takes_other members o (Marked (mark_of o) ∷ first_log members older) id key (λ member same. not_both (has_member members id) member other) ∙ strange_told members older id key other

-- and a member's slot is the floor's
pub floor_told : (members : List ℕ) (floors : List Opening) → KeysDiffer floors → (id : ℕ) (o : Opening) → Has o floors → has_member members id ≡ true
    → slot_told (first_log members floors) id o.key ≡ record { promise = zero_ballot; accepted = o.ballot }
floor_told members [] differ id o h member = absurd h
floor_told members (p ∷ older) differ id o (inl same) member =
    subst (λ (x : Opening). slot_told (first_log members (p ∷ older)) id x.key ≡ record { promise = zero_ballot; accepted = x.ballot }) same
    (takes_own members p (Marked (mark_of p) ∷ first_log members older) id member)
floor_told members (p ∷ older) differ id o (inr h) member =
    takes_other members p (Marked (mark_of p) ∷ first_log members older) id o.key (λ in_by same. differ.0 o (contains o older h) (sym same)) ∙ floor_told members older differ.1 id o h member

-- no age is told
ages_takes : (by : List ℕ) (o : Opening) (rest : List Happening) (id proposer : ℕ) → age_told (takes by o ++ rest) id proposer ≡ age_told rest id proposer
ages_takes [] o rest id proposer = refl
ages_takes (a ∷ by) o rest id proposer = ages_takes by o rest id proposer

pub no_age_first : (members : List ℕ) (floors : List Opening) (id proposer : ℕ) → age_told (first_log members floors) id proposer ≡ 0
no_age_first members [] id proposer = refl
no_age_first members (o ∷ older) id proposer = ages_takes members o (Marked (mark_of o) ∷ first_log members older) id proposer ∙ no_age_first members older id proposer

-- ---- what opens
pub opens_first : (floors : List Opening) (o : Opening) → Has o floors → has_opening o.key o.ballot (map mark_of floors) ≡ true
opens_first [] o h = absurd h
opens_first (p ∷ older) o (inl same) = subst (λ (x : Opening). has_opening x.key x.ballot (map mark_of (p ∷ older)) ≡ true) same
    (or_left (opens_at p.key p.ballot (mark_of p) (map mark_of older)) (has_opening p.key p.ballot (map mark_of older))
    (both_true (is_key p.key p.key) _ (key_refl p.key) (both_true (is_ballot p.ballot p.ballot) _ (ballot_is {a = p.ballot} refl) (not_of_false (has_calls (map mark_of older)) (no_calls_first older)))))
opens_first (p ∷ older) o (inr h) = or_right (opens_at o.key o.ballot (mark_of p) (map mark_of older)) (has_opening o.key o.ballot (map mark_of older)) (opens_first older o h)

pub state_first : (floors : List Opening) → KeysDiffer floors → (o : Opening) → Has o floors → o.state ≡ opening_state o.key (map mark_of floors)
state_first [] differ o h = absurd h
state_first (p ∷ older) differ o (inl same) = subst (λ (x : Opening). x.state ≡ opening_state x.key (map mark_of (p ∷ older))) same
    (sym (if_true (is_key p.key p.key && not (has_calls (map mark_of older))) p.state (opening_state p.key (map mark_of older))
    (both_true (is_key p.key p.key) _ (key_refl p.key) (not_of_false (has_calls (map mark_of older)) (no_calls_first older)))))
state_first (p ∷ older) differ o (inr h) =
    state_first older differ.1 o h ∙ sym (if_false (is_key p.key o.key && not (has_calls (map mark_of older))) p.state (opening_state o.key (map mark_of older)) (no_match (true_or_false (is_key p.key o.key && not (has_calls (map mark_of older))))))
  where
    no_match : ((is_key p.key o.key && not (has_calls (map mark_of older))) ≡ true) ⊎ ((is_key p.key o.key && not (has_calls (map mark_of older))) ≡ false) → (is_key p.key o.key && not (has_calls (map mark_of older))) ≡ false
    no_match (inl e) = absurd (differ.0 o (contains o older h) (sym (key_same (and_left (is_key p.key o.key) _ e))))
    no_match (inr e) = e

-- ---- it is lawful, and each happening has its reason
-- a floor of another key opens the history of its own
is_opening : (members : List ℕ) (older : List Opening) (o : Opening) → ((p : Opening) → Contains older p → p.key ≡ o.key → ⊥) → IsOpeningFloor o.key (marks_of (first_log members older))
is_opening members older o differ = record {
  none_begun = λ caller call key program s. begun (mark_first older (subst (λ (l : List Mark). At (Begun caller call key program) s.older l) (first_marks members older) s.at));
  first = λ {floor} {state} s. same (mark_first older (subst (λ (l : List Mark). At (Floor o.key floor state) s.older l) (first_marks members older) s.at));
}
  where
    begun : {caller call : ℕ} {key : List ℕ} {program : List Clause} → (p : Opening) × Has p older × (Begun caller call key program ≡ mark_of p) → ⊥
    begun found = cc found.2

    same : {floor : Ballot} {state : State} → (p : Opening) × Has p older × (Floor o.key floor state ≡ mark_of p) → ⊥
    same {floor} {state} found = let is : Floor o.key floor state ≡ Floor found.0.key found.0.ballot found.0.state = found.2 in differ found.0 (contains found.0 older found.1) (same_key is)
      where
        same_key : {p : Opening} → Floor o.key floor state ≡ Floor p.key p.ballot p.state → p.key ≡ o.key
        same_key e = cc e

-- what was seen in a part of it is the floor's, or nothing
seen_low : (members : List ℕ) (floors : List Opening) → KeysDiffer floors → (o : Opening) → Has o floors → (log : List Happening) → ((h : Happening) (older : List Happening) → At h older log → IsOf members floors h)
    → (acceptor : ℕ) (seen : Ballot) → HasSeen log acceptor o.key seen → BallotAtMost seen o.ballot
seen_low members floors differ o has_o log of acceptor seen (in_promise told s) = no_promise (of (Promised acceptor o.key seen told) s.older s.at)
  where
    no_promise : IsOf members floors (Promised acceptor o.key seen told) → BallotAtMost seen o.ballot
    no_promise (marked p h is) = absurd (cc is)
    no_promise (taken p a h member is) = absurd (cc is)
seen_low members floors differ o has_o log of acceptor seen (in_take ride s) = by_take (of (Took acceptor o.key seen ride) s.older s.at)
  where
    by_take : IsOf members floors (Took acceptor o.key seen ride) → BallotAtMost seen o.ballot
    by_take (marked p h is) = absurd (cc is)
    by_take (taken p a h member is) =
        let same_key : o.key ≡ p.key = cc is in
        let same_ballot : seen ≡ p.ballot = cc is in
        subst (BallotAtMost seen) (sym (ap (λ (x : Opening). x.ballot) (one_floor floors differ o p has_o h same_key))) (subst (BallotAtMost seen) same_ballot (at_most_refl seen))
seen_low members floors differ o has_o log of acceptor seen (in_ride t s) = by_ride (of (Took acceptor o.key t seen) s.older s.at)
  where
    by_ride : IsOf members floors (Took acceptor o.key t seen) → BallotAtMost seen o.ballot
    by_ride (marked p h is) = absurd (cc is)
    by_ride (taken p a h member is) = let none : seen ≡ zero_ballot = cc is in subst (λ (b : Ballot). BallotAtMost b o.ballot) (sym none) (zero_at_most o.ballot)

-- the log so far, and that members take the newest floor
record BeginsLog (cluster : Cluster) (members : List ℕ) (floors : List Opening) (log : List Happening) : Type 0 where
  lawful : Lawful cluster log
  orderly : Orderly cluster log
  of : (h : Happening) (older : List Happening) → At h older log → IsOf members floors h
  first : AreFirst log

opening_behind : (by : List ℕ) (o : Opening) {rest : List Happening} → HasOpening o.key o.ballot rest → HasOpening o.key o.ballot (takes by o ++ rest)
opening_behind [] o opening = opening
opening_behind (b ∷ bs) o opening = let there = opening_behind bs o opening in record { state = there.state; older = there.older; at = past there.at; first = there.first }

begins_takes : (cluster : Cluster) (members by : List ℕ) (floors : List Opening) (o : Opening) (rest : List Happening) → KeysDiffer floors → Has o floors → ((a : ℕ) → has_member members a ≡ true → has_member (cluster.members 0) a ≡ true)
    → ((a : ℕ) → has_member by a ≡ true → has_member members a ≡ true) → HasOpening o.key o.ballot rest → BeginsLog cluster members floors rest → BeginsLog cluster members floors (takes by o ++ rest)
begins_takes cluster members [] floors o rest differ has_o all within opening was = was
begins_takes cluster members (a ∷ by) floors o rest differ has_o all within opening was =
    let later = begins_takes cluster members by floors o rest differ has_o all (λ b e. within b (or_right (a == b) (has_member by b) e)) opening was in
    let member = within a (or_left (a == a) (has_member by a) (nat_is {a = a} refl)) in
    let there : HasOpening o.key o.ballot (takes by o ++ rest) = opening_behind by o opening in
    record {
      lawful = (
        later.lawful,
        record {
          made = inr (record { state = there.state; stands = mark_stands (stands_at there.at) });
          seen = λ seen s. seen_low members floors differ o has_o (takes by o ++ rest) later.of a seen s;
        },
      );
      orderly = (later.orderly, inr (record { first = later.first; member = all a member; opening = there; no_ride = refl }));
      of = in_takes members (a ∷ by) o floors rest has_o within was.of;
      first = later.first;
    }

begins_first : (cluster : Cluster) (members : List ℕ) (floors : List Opening) → KeysDiffer floors → ((a : ℕ) → has_member members a ≡ true → has_member (cluster.members 0) a ≡ true) → BeginsLog cluster members floors (first_log members floors)
begins_first cluster members [] differ all = record { lawful = tt; orderly = tt; of = λ h place at. absurd (none_at_nil at); first = tt }
begins_first cluster members (o ∷ older) differ all =
    let before = begins_first cluster members older differ.1 all in
    let marked_log : List Happening = Marked (mark_of o) ∷ first_log members older in
    begins_takes cluster members members (o ∷ older) o marked_log differ (inl refl) all (λ a e. e) (record { state = o.state; older = first_log members older; at = here; first = before.first }) (record {
      lawful = (before.lawful, inl (is_opening members older o differ.0));
      orderly = (before.orderly, tt);
      of = in_mark members older o (first_log members older) (in_first members older);
      first = before.first;
    })

pub lawful_first : (cluster : Cluster) (members : List ℕ) (floors : List Opening) → KeysDiffer floors → ((a : ℕ) → has_member members a ≡ true → has_member (cluster.members 0) a ≡ true) → Lawful cluster (first_log members floors)
lawful_first cluster members floors differ all = (begins_first cluster members floors differ all).lawful

pub orderly_first : (cluster : Cluster) (members : List ℕ) (floors : List Opening) → KeysDiffer floors → ((a : ℕ) → has_member members a ≡ true → has_member (cluster.members 0) a ≡ true) → Orderly cluster (first_log members floors)
orderly_first cluster members floors differ all = (begins_first cluster members floors differ all).orderly

-- each member took each floor
takes_stand : (by : List ℕ) (o : Opening) (rest : List Happening) (a : ℕ) → has_member by a ≡ true → Stands (Took a o.key o.ballot zero_ballot) (takes by o ++ rest)
takes_stand [] o rest a member = absurd (cc member)
takes_stand (b ∷ by) o rest a member = elim (or_cases (b == a) (has_member by a) member) [
  | inl same ↦ record {
    older = takes by o ++ rest;
    at = subst (λ (x : ℕ). At (Took x o.key o.ballot zero_ballot) (takes by o ++ rest) (Took b o.key o.ballot zero_ballot ∷ (takes by o ++ rest))) (nat_same {a = b} {b = a} same) here;
  }
  | inr in_by ↦ let later = takes_stand by o rest a in_by in record { older = later.older; at = past later.at }
]

pub took_first : (members : List ℕ) (floors : List Opening) (o : Opening) → Has o floors → (a : ℕ) → has_member members a ≡ true → Stands (Took a o.key o.ballot zero_ballot) (first_log members floors)
took_first members [] o h a member = absurd h
took_first members (p ∷ older) o (inl same) a member = subst (λ (x : Opening). Stands (Took a x.key x.ballot zero_ballot) (first_log members (p ∷ older))) same (takes_stand members p (Marked (mark_of p) ∷ first_log members older) a member)
took_first members (p ∷ older) o (inr h) a member = let rest = took_first members older o h a member in behind_takes members p (record { older = rest.older; at = past rest.at })
