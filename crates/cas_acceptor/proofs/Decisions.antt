-- The rules of one slot and the acceptor's table say the same.
use Rattle.std.proofs.Common.{◌≡◌, ℕ, Bool, true, false, cond, List, Some, None, inl, inr, ap, refl}
use Rattle.std.specs.Prelude.{Option, IsSomeAnd, IsSome, ◌&&◌}
use Rattle.std.specs.Borrow.{Bor}
use Rattle.std.specs.Ordering.{is_eq, is_lt, is_le, MatchOrdering}
use Rattle.std.specs.declared.cmp.Ordering.{Ordering}
use Rattle.std.specs.declared.cmp.Ordering.TheVariants.{Less, Equal, Greater}
use Rattle.cas_ballot.specs.declared.ballot.Ballot.{Ballot}
use Rattle.cas_ballot.specs.Ballot.{ballot_cmp, BallotLess, BallotAtMost}
use Rattle.cas_ballot.proofs.BallotLemmas.{compared, cmp_refl, cmp_of_less, at_most_or_less, not_lt_of_at_most, less_not_at_most}
use Rattle.cas_change.specs.declared.state.State.{State}
use Rattle.cas_change.specs.declared.state.State.TheVariants.{Empty}
use Rattle.cas_slot.specs.declared.slot.Accepted.{Accepted}
use Rattle.cas_slot.specs.declared.slot.Slot.{Slot}
use Rattle.cas_slot.specs.declared.rules.AcceptRule.TheVariants as accept
use Rattle.cas_slot.specs.declared.rules.RemoveRule.TheVariants as remove
use Rattle.cas_slot.specs.declared.message.Ask.TheVariants as ask
use Rattle.cas_slot.specs.declared.message.Tell.{Tell}
use Rattle.cas_slot.specs.declared.message.Tell.TheVariants as tell
use Rattle.cas_slot.specs.Contents.{Contents, kept_at}
use Rattle.cas_slot.specs.Rules.{accept_rule, remove_rule, is_accepted_at, is_empty_at, is_tombstone, tell_by_accept}
use Rattle.cas_slot.specs.Slot.{accepted_of, promise_of}
use Rattle.cas_slot.specs.Table.{seen_at, accepted_at, IsRepeat}
use Rattle.cas_acceptor.specs.Change.{Decides}
use Rattle.cas_acceptor.specs.Decide.{put_by_accept, put_of, tell_by_probe, IsListing}
use Rattle.cas_acceptor.specs.declared.change.Change.TheVariants.{Nothing}

-- ---- comparisons
equal_is : (o : Ordering) (a b : Ballot) → MatchOrdering o (BallotLess a b) (a ≡ b) (BallotLess b a) → is_eq o ≡ true → a ≡ b
equal_is Less a b h e = absurd cc
equal_is Equal a b h e = h
equal_is Greater a b h e = absurd cc

is_le-at_most : (o : Ordering) (a b : Ballot) → MatchOrdering o (BallotLess a b) (a ≡ b) (BallotLess b a) → BallotAtMost a b → is_le o ≡ true
is_le-at_most Less a b h m = refl
is_le-at_most Equal a b h m = refl
is_le-at_most Greater a b h m = absurd (less_not_at_most h m)

below_is : (a b : Ballot) → is_lt (ballot_cmp a b) ≡ true → BallotLess a b
below_is a b e = elim (at_most_or_less b a) [ inl p ↦ absurd (let no = not_lt_of_at_most p in cc) | inr q ↦ q ]

not_below : (a b : Ballot) → is_lt (ballot_cmp a b) ≡ false → BallotAtMost b a
not_below a b e = elim (at_most_or_less b a) [ inl p ↦ p | inr q ↦ absurd (let yes : is_lt (ballot_cmp a b) ≡ true = ap is_lt (cmp_of_less q) in cc) ]

-- ---- an accept
repeated : (o : Option Accepted) (ballot : Ballot) → is_accepted_at o ballot ≡ true → IsSomeAnd o (λ accepted. accepted.ballot ≡ ballot)
repeated None ballot e = absurd cc
repeated (Some accepted) ballot e = equal_is (ballot_cmp accepted.ballot ballot) accepted.ballot ballot (compared accepted.ballot ballot) e

not_repeated : (o : Option Accepted) (ballot : Ballot) → is_accepted_at o ballot ≡ false → IsSomeAnd o (λ accepted. accepted.ballot ≡ ballot) → ⊥
not_repeated None ballot e h = h
not_repeated (Some accepted) ballot e h = let yes : is_eq (ballot_cmp accepted.ballot ballot) ≡ true = rw h (ap is_eq (cmp_refl ballot)) in cc

accept_by : (repeat below : Bool) (old : Contents) (key : Bor (List ℕ)) (ballot : Ballot) (era : ℕ) (ride : Option Ballot) (state : State)
    → (repeat ≡ true → IsRepeat old key.now ballot) → (repeat ≡ false → IsRepeat old key.now ballot → ⊥)
    → (below ≡ true → BallotLess ballot (seen_at old key.now)) → (below ≡ false → BallotAtMost (seen_at old key.now) ballot)
    → Decides old (ask.Accept key.now ballot era ride state) (tell_by_accept (cond repeat accept.Repeat (cond below (accept.Met (seen_at old key.now)) accept.Take)))
    (put_of key (put_by_accept (cond repeat accept.Repeat (cond below (accept.Met (seen_at old key.now)) accept.Take)) (record { ballot = ballot; era = era; state = state }) ride))
accept_by true below old key ballot era ride state again fresh under atop = record { room = λ _. inl (again refl, refl); none = λ full. absurd full }
accept_by false true old key ballot era ride state again fresh under atop = record { room = λ _. (fresh refl, refl, under refl, refl); none = λ full. absurd full }
accept_by false false old key ballot era ride state again fresh under atop = record { room = λ fits. inr (fresh refl, atop refl, fits, refl); none = λ full. (atop refl, full, refl) }

pub accept_decides : (old : Contents) (key : Bor (List ℕ)) (ballot : Ballot) (era : ℕ) (ride : Option Ballot) (state : State)
    → Decides old (ask.Accept key.now ballot era ride state) (tell_by_accept (accept_rule (kept_at old key.now) ballot))
    (put_of key (put_by_accept (accept_rule (kept_at old key.now) ballot) (record { ballot = ballot; era = era; state = state }) ride))
accept_decides old key ballot era ride state =
    accept_by (is_accepted_at (accepted_at old key.now) ballot) (is_lt (ballot_cmp ballot (seen_at old key.now))) old key ballot era ride state
    (repeated (accepted_at old key.now) ballot) (not_repeated (accepted_at old key.now) ballot) (below_is ballot (seen_at old key.now)) (not_below ballot (seen_at old key.now))

-- ---- a removal
at_empty : (o : Option Accepted) (tomb : Ballot) → IsSomeAnd o (λ accepted. (accepted.ballot ≡ tomb) × (accepted.state ≡ Empty)) → is_empty_at o tomb ≡ true
at_empty None tomb h = absurd h
at_empty (Some accepted) tomb h = rw (h.0, h.1, cmp_refl) refl

both : (a b : Bool) → a ≡ true → b ≡ true → (a && b) ≡ true
both a b p q = rw (p, q) refl

is_tombstone-from : (slot : Slot) (tomb : Ballot)
    → IsSomeAnd slot.accepted (λ accepted. (accepted.ballot ≡ tomb) × (accepted.state ≡ Empty)) × BallotAtMost slot.promise tomb → is_tombstone slot tomb ≡ true
is_tombstone-from slot tomb h =
    both (is_empty_at slot.accepted tomb) (is_le (ballot_cmp slot.promise tomb)) (at_empty slot.accepted tomb h.0) (is_le-at_most (ballot_cmp slot.promise tomb) slot.promise tomb (compared slot.promise tomb) h.1)

abbrev IsTombstoneOf : Option Slot → Ballot → Type 0
IsTombstoneOf slot tomb = IsSomeAnd (accepted_of slot) (λ accepted. (accepted.ballot ≡ tomb) × (accepted.state ≡ Empty)) × BallotAtMost (promise_of slot) tomb

keep_is : (b : Bool) (slot : Slot) (tomb : Ballot) → is_tombstone slot tomb ≡ b → cond b remove.Remove remove.Keep ≡ remove.Keep → IsTombstoneOf (Some slot) tomb → ⊥
keep_is true slot tomb e h t = absurd cc
keep_is false slot tomb e h t = let yes = is_tombstone-from slot tomb t in absurd cc

absent : (slot : Option Slot) (tomb : Ballot) → remove_rule slot tomb ≡ remove.Absent → slot ≡ None
absent None tomb h = refl
absent (Some slot) tomb h = absurd (elim (is_tombstone slot tomb) as (λ b. cond b remove.Remove remove.Keep ≡ remove.Absent → ⊥) [ true ↦ λ e. absurd cc | false ↦ λ e. absurd cc ] h)

keeping : (slot : Option Slot) (tomb : Ballot) → remove_rule slot tomb ≡ remove.Keep → IsSome slot × (IsTombstoneOf slot tomb → ⊥)
keeping None tomb h = absurd cc
keeping (Some slot) tomb h = (refl, keep_is (is_tombstone slot tomb) slot tomb refl h)

pub keeps : (old : Contents) (key : Bor (List ℕ)) (tomb : Ballot) → remove_rule (kept_at old key.now) tomb ≡ remove.Keep → Decides old (ask.Remove key.now tomb) tell.Kept Nothing
keeps old key tomb h = let k = keeping (kept_at old key.now) tomb h in record { room = λ _. (k.0, k.1, refl); none = λ full. absurd full }

-- ---- the others
pub probes : (old : Contents) (tag : Ballot) (key : List ℕ) → Decides old (ask.Probe tag key) (tell_by_probe (kept_at old key)) Nothing
probes old tag key = record { room = λ _. (refl, refl, refl); none = λ full. absurd full }

pub lists : (old : Contents) (tag : Ballot) (after : Option (List ℕ)) (answer : Tell) → IsListing old after answer → Decides old (ask.List tag after) answer Nothing
lists old tag after (tell.Listed told keys more) h = record { room = λ _. (h.0, h.1, h.2, refl); none = λ full. absurd full }
lists old tag after (tell.Promised accepted) h = absurd h
lists old tag after tell.Accepted h = absurd h
lists old tag after (tell.Met seen) h = absurd h
lists old tag after (tell.Aged least) h = absurd h
lists old tag after tell.Full h = absurd h
lists old tag after tell.AgesSet h = absurd h
lists old tag after tell.Removed h = absurd h
lists old tag after tell.Kept h = absurd h
lists old tag after (tell.Probed promise accepted) h = absurd h
