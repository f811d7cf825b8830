-- Lists of callers and what is reserved for them; frames that wait; and parties that stay safe as others go on.
use Rattle.std.proofs.Common.{◌≡◌, ◌<◌, ◌≤◌, ℕ, zero, suc, true, false, List, [], ◌∷◌, ◌++◌, Option, None, Some, refl, sym, ap, subst, ◌∙◌, inl, inr, arith, length-set, length-append}
use Rattle.std.specs.Prelude.{◌⊎◌, ◌+◌, ◌||◌, ◌&&◌, ◌==◌, nat_lt, length, map, slice_set, Contains}
use Rattle.cas_base.proofs.Bools.{true_or_false, and_left, and_right, or_left, or_right}
use Rattle.cas_ballot.specs.Ballot.{FitsBallot}
use Rattle.cas_ballot.specs.Members.{members_where, has_member, with_member, union_of, IsMemberSet}
use Rattle.cas_ballot.proofs.CountLemmas.{length-within, length-apart, someone}
use Rattle.cas_ballot.proofs.MemberLemmas.{has-members_where}
use Rattle.cas_cache.specs.declared.ready.Ready.{Ready}
use Rattle.cas_flow.specs.Flow.{FlowView, queue_at}
use Rattle.cas_flow.specs.Queue.{QueueView}
use Rattle.cas_flow.specs.declared.message.Message.{Message}
use Rattle.cas_flow.specs.declared.message.Message.TheVariants as message
use Rattle.cas_acceptor.specs.Acceptor.{AcceptorView}
use Rattle.cas_proposer.specs.Desk.{DeskView}
use Rattle.cas_proposer.specs.declared.round.Round.{Round}
use Rattle.cas_quorum.specs.declared.era.Era.{Era}
use Rattle.cas_slot.specs.declared.message.Request.{Request}
use Rattle.cas_record.specs.declared.mark.Mark.{Mark}
use Rattle.cas_record.proofs.Tests.{nat_same, nat_is}
use Rattle.cas_model.specs.Council.{Council, exchange_place, reserved_by}
use Rattle.cas_model.specs.Safe.{requests_in, IsPartySafe, IsRoundSafe, IsIdleSafe, IsSound, IsAskingSafe, IsCouncilSafe}
use Rattle.cas_model.specs.Eras.Course.{HasFewMembers}
use Rattle.cas_model.specs.Calls.Step.{most_marks, round_marks, most_round_marks}
use Rattle.cas_model.proofs.Places.{some_is, same_or_not, own_set, other_set}
use Rattle.cas_model.specs.View.{View, CallView, CallerView, IsAt, reserved_in, reserved_of, reserved_in_all, era_at, era_in}

-- ---- what is reserved
pub reserved_set : (callers : List CallerView) (place : ℕ) (old new : CallerView) → IsAt callers place old → reserved_of (slice_set callers place new) + reserved_in old.call ≡ reserved_of callers + reserved_in new.call
reserved_set [] place old new at = absurd (cc at)
reserved_set (c ∷ callers) zero old new at =
    let same : reserved_in c.call ≡ reserved_in old.call = ap (λ (x : CallerView). reserved_in x.call) (some_is at) in
    omega (arith, same)
reserved_set (c ∷ callers) (suc place) old new at = omega (arith, reserved_set callers place old new at)

-- a round of few members reserves few marks
pub few_round : (era : Era) → HasFewMembers era → round_marks era ≤ most_round_marks
few_round era few =
    let low : length (union_of era.prep era.acc) ≤ 9 = few in
    omega (arith, low)

-- ---- frames that wait
pub requests_append : (xs ys : List Message) → requests_in (xs ++ ys) ≡ requests_in xs + requests_in ys
requests_append [] ys = omega arith
requests_append (message.Request request ∷ xs) ys = omega (arith, requests_append xs ys)
requests_append (message.Reply reply ∷ xs) ys = requests_append xs ys

pub requests_of_map : (f : ℕ → Request) (tos : List ℕ) → requests_in (map (λ to. message.Request (f to)) tos) ≡ length tos
requests_of_map f [] = refl
requests_of_map f (to ∷ tos) = ap suc (requests_of_map f tos)

-- ---- sets of members
-- a set has no more than the union with another
pub left_within : (a b : List ℕ) → IsMemberSet a → length a ≤ length (union_of a b)
left_within a b set = omega (arith, ap (λ (l : List ℕ). length l) set.lists, length-within (has_member a) (λ n. has_member a n || has_member b n) (λ n low is. or_left (has_member a n) (has_member b n) is))

pub right_within : (a b : List ℕ) → IsMemberSet b → length b ≤ length (union_of a b)
right_within a b set = omega (arith, ap (λ (l : List ℕ). length l) set.lists, length-within (has_member b) (λ n. has_member a n || has_member b n) (λ n low is. or_right (has_member a n) (has_member b n) is))

-- a set within another has no more
pub set_within : (a b : List ℕ) → IsMemberSet a → IsMemberSet b → ((n : ℕ) → has_member a n ≡ true → has_member b n ≡ true) → length a ≤ length b
set_within a b a_set b_set within =
    omega (arith, ap (λ (l : List ℕ). length l) a_set.lists, ap (λ (l : List ℕ). length l) b_set.lists, length-within (has_member a) (has_member b) (λ n low is. within n is))

has_some : (ids : List ℕ) (n : ℕ) → has_member ids n ≡ true → 0 < length ids
has_some [] n e = absurd (cc e)
has_some (x ∷ ids) n e = omega arith

-- a set with one more that it had not has one more
pub length_with_member : (ids : List ℕ) (id : ℕ) → IsMemberSet ids → id < 64 → has_member ids id ≡ false → suc (length ids) ≤ length (with_member ids id)
length_with_member ids id set low none = by_both (true_or_false (nat_lt 0 (length (members_where (λ n. n == id && has_member ids n)))))
  where
    one : 0 < length (members_where (λ n. n == id))
    one = has_some (members_where (λ n. n == id)) id (has-members_where (λ n. n == id) id low ∙ nat_is refl)

    by_both : (nat_lt 0 (length (members_where (λ n. n == id && has_member ids n))) ≡ true) ⊎ (nat_lt 0 (length (members_where (λ n. n == id && has_member ids n))) ≡ false) → suc (length ids) ≤ length (with_member ids id)
    by_both (inl e) =
        let some = someone (λ n. n == id && has_member ids n) (grind (arith, e)) in
        absurd (cc (none, ap (λ (n : ℕ). has_member ids n) (nat_same (and_left (some.acceptor == id) (has_member ids some.acceptor) some.passes)), and_right (some.acceptor == id) (has_member ids some.acceptor) some.passes))
    by_both (inr e) =
        let nobody : length (members_where (λ n. n == id && has_member ids n)) ≡ 0 = grind (arith, e) in
        omega (arith, one, nobody, ap (λ (l : List ℕ). length l) set.lists, length-apart (λ n. n == id) (has_member ids))

-- ---- places
pub low_at : {A : Type 0} (xs : List A) (place : ℕ) {x : A} → IsAt xs place x → place < length xs
low_at [] place at = absurd (cc at)
low_at (y ∷ xs) zero at = omega arith
low_at (y ∷ xs) (suc place) at = omega (arith, low_at xs place at)

pub at_low : {A : Type 0} (xs : List A) (place : ℕ) → place < length xs → (x : A) × IsAt xs place x
at_low [] place low = absurd (omega (arith, low))
at_low (y ∷ xs) zero low = (y, refl)
at_low (y ∷ xs) (suc place) low = at_low xs place (omega (arith, low))

-- ---- a cluster but for one party
-- what changes of it: acceptors that keep their identities, one proposer and its caller and frames, and more marks
pub record ChangesOneParty {S V : Type 0} (old new : View S V) (id : ℕ) : Type 0 where
  pub last_proposer : new.last_proposer ≡ old.last_proposer
  pub eras : new.eras ≡ old.eras
  pub council : new.council ≡ old.council
  pub acceptors : length new.acceptors ≡ length old.acceptors
  pub acceptor_ids : (a : ℕ) (acceptor : AcceptorView S) → IsAt new.acceptors a acceptor → acceptor.id ≡ a
  pub desks_length : length new.desks ≡ length old.desks
  pub callers_length : length new.callers ≡ length old.callers
  pub own_length : length new.flow.own ≡ length old.flow.own
  pub desks : (p : ℕ) (desk : DeskView V) → (p ≡ id → ⊥) → IsAt new.desks p desk → IsAt old.desks p desk
  pub callers : (p : ℕ) (caller : CallerView) → (p ≡ id → ⊥) → IsAt new.callers p caller → IsAt old.callers p caller
  pub own : (p : ℕ) → (p ≡ id → ⊥) → queue_at new.flow p ≡ queue_at old.flow p
  pub marks : length old.marks ≤ length new.marks

-- more marks harm no party
pub more_marks : {V : Type 0} (era : Era) (few more id : ℕ) (desk : DeskView V) (caller : CallerView) (queue : QueueView) → few ≤ more → IsPartySafe era few id desk caller queue → IsPartySafe era more id desk caller queue
more_marks era few more id desk caller queue low was = record {
  same_id = was.same_id;
  idle = was.idle;
  number = omega (arith, was.number, low);
  few = was.few;
  cached = was.cached;
  round = was.round;
  room = was.room;
}

-- the number of a proposer that has a desk, or a caller
pub desk_low : {S V : Type 0} (view : View S V) (id : ℕ) (desk : DeskView V) → IsSound view → IsAt view.desks id desk → id ≤ 16
desk_low view id desk was at = omega (arith, low_at view.desks id at, was.desks, was.few)

pub caller_low : {S V : Type 0} (view : View S V) (id : ℕ) (caller : CallerView) → IsSound view → IsAt view.callers id caller → id ≤ 16
caller_low view id caller was at = omega (arith, low_at view.callers id at, was.callers, was.few)

pub safe_but : {S V : Type 0} (old new : View S V) (id : ℕ) → IsSound old → id ≤ 16 → ChangesOneParty old new id
    → ((desk : DeskView V) (caller : CallerView) → IsAt new.desks id desk → IsAt new.callers id caller → IsPartySafe (era_at old id) (length new.marks) id desk caller (queue_at new.flow id))
    → length new.marks + reserved_in_all new ≤ most_marks → IsSound new
safe_but {S} {V} old new id was low changes party room = record {
  few = subst (λ (n : ℕ). n ≤ 16) (sym changes.last_proposer) was.few;
  prep_sets = λ p. subst (λ (l : List Era). IsMemberSet (era_in l p).prep) (sym changes.eras) (was.prep_sets p);
  acc_sets = λ p. subst (λ (l : List Era). IsMemberSet (era_in l p).acc) (sym changes.eras) (was.acc_sets p);
  few_members = λ p. subst (λ (l : List Era). HasFewMembers (era_in l p)) (sym changes.eras) (was.few_members p);
  eras = ap (λ (l : List Era). length l) changes.eras ∙ was.eras;
  acceptors = changes.acceptors ∙ was.acceptors;
  acceptor_ids = changes.acceptor_ids;
  desks = changes.desks_length ∙ was.desks ∙ ap suc (sym changes.last_proposer);
  callers = changes.callers_length ∙ was.callers ∙ ap suc (sym changes.last_proposer);
  own = changes.own_length ∙ was.own;
  parties = λ p desk caller at_desk at_caller. subst (λ (l : List Era). IsPartySafe (era_in l p) (length new.marks) p desk caller (queue_at new.flow p)) (sym changes.eras) (by_place p desk caller at_desk at_caller (same_or_not p id));
  asking = subst (λ (c : Council). IsAskingSafe c.exchange (queue_at new.flow exchange_place)) (sym changes.council)
      (subst (λ (q : QueueView). IsAskingSafe old.council.exchange q) (sym (changes.own exchange_place (λ same. omega (arith, low, same)))) was.asking);
  council = subst IsCouncilSafe (sym changes.council) was.council;
  room = room;
}
  where
    by_place : (p : ℕ) (desk : DeskView V) (caller : CallerView) → IsAt new.desks p desk → IsAt new.callers p caller → (p ≡ id) ⊎ (p ≡ id → ⊥) → IsPartySafe (era_at old p) (length new.marks) p desk caller (queue_at new.flow p)
    by_place p desk caller at_desk at_caller (inl same) =
        subst (λ (q : ℕ). IsPartySafe (era_at old q) (length new.marks) q desk caller (queue_at new.flow q)) (sym same)
        (party desk caller (subst (λ (q : ℕ). IsAt new.desks q desk) same at_desk) (subst (λ (q : ℕ). IsAt new.callers q caller) same at_caller))
    by_place p desk caller at_desk at_caller (inr other) =
        more_marks (era_at old p) (length old.marks) (length new.marks) p desk caller (queue_at new.flow p) changes.marks
        (subst (λ (q : QueueView). IsPartySafe (era_at old p) (length old.marks) p desk caller q) (sym (changes.own p other))
        (was.parties p desk caller (changes.desks p desk other at_desk) (changes.callers p caller other at_caller)))

-- what changes of the exchange and its frames, and of the marks
pub council_safe : {S V : Type 0} (old : View S V) (flow : FlowView) (next : Council) (marks : List Mark) → IsSound old → length flow.own ≡ length old.flow.own
    → ((p : ℕ) → (p ≡ exchange_place → ⊥) → queue_at flow p ≡ queue_at old.flow p) → length old.marks ≤ length marks → IsAskingSafe next.exchange (queue_at flow exchange_place)
    → IsCouncilSafe next → length marks + (reserved_of old.callers + reserved_by next) ≤ most_marks → IsSound (record old { flow = flow; council = next; marks = marks })
council_safe {S} {V} old flow next marks was own others more asking council room = record {
  few = was.few;
  prep_sets = was.prep_sets;
  acc_sets = was.acc_sets;
  few_members = was.few_members;
  eras = was.eras;
  acceptors = was.acceptors;
  acceptor_ids = was.acceptor_ids;
  desks = was.desks;
  callers = was.callers;
  own = own ∙ was.own;
  parties = λ id desk caller at_desk at_caller.
      more_marks (era_at old id) (length old.marks) (length marks) id desk caller (queue_at flow id) more
      (subst (λ (q : QueueView). IsPartySafe (era_at old id) (length old.marks) id desk caller q) (sym (others id (λ same. omega (arith, same, desk_low old id desk was at_desk)))) (was.parties id desk caller at_desk at_caller));
  asking = asking;
  council = council;
  room = room;
}

pub more_by : (marks more : List Mark) → length marks ≤ length (marks ++ more)
more_by marks more = omega (arith, length-append marks more)

-- what changes where the proposer's desk, its caller and its frames do, and marks are made
pub changes_both : {S V : Type 0} (old : View S V) (id : ℕ) (desk : DeskView V) (caller : CallerView) (flow : FlowView) (marks : List Mark) → IsSound old → length flow.own ≡ length old.flow.own
    → ((p : ℕ) → (p ≡ id → ⊥) → queue_at flow p ≡ queue_at old.flow p) → length old.marks ≤ length marks
    → ChangesOneParty old (record old { desks = slice_set old.desks id desk; callers = slice_set old.callers id caller; flow = flow; marks = marks }) id
changes_both old id desk caller flow marks was own others more = record {
  last_proposer = refl;
  eras = refl;
  council = refl;
  acceptors = refl;
  acceptor_ids = was.acceptor_ids;
  desks_length = length-set old.desks id desk;
  callers_length = length-set old.callers id caller;
  own_length = own;
  desks = λ p d other at. other_set old.desks id desk p d other at;
  callers = λ p c other at. other_set old.callers id caller p c other at;
  own = others;
  marks = more;
}

pub changes_caller : {S V : Type 0} (old : View S V) (id : ℕ) (caller : CallerView) (flow : FlowView) (marks : List Mark) → IsSound old → length flow.own ≡ length old.flow.own
    → ((p : ℕ) → (p ≡ id → ⊥) → queue_at flow p ≡ queue_at old.flow p) → length old.marks ≤ length marks
    → ChangesOneParty old (record old { callers = slice_set old.callers id caller; flow = flow; marks = marks }) id
changes_caller old id caller flow marks was own others more = record {
  last_proposer = refl;
  eras = refl;
  council = refl;
  acceptors = refl;
  acceptor_ids = was.acceptor_ids;
  desks_length = refl;
  callers_length = length-set old.callers id caller;
  own_length = own;
  desks = λ p d other at. at;
  callers = λ p c other at. other_set old.callers id caller p c other at;
  own = others;
  marks = more;
}

pub changes_desk : {S V : Type 0} (old : View S V) (id : ℕ) (desk : DeskView V) (flow : FlowView) → IsSound old → length flow.own ≡ length old.flow.own
    → ((p : ℕ) → (p ≡ id → ⊥) → queue_at flow p ≡ queue_at old.flow p) → ChangesOneParty old (record old { desks = slice_set old.desks id desk; flow = flow }) id
changes_desk old id desk flow was own others = record {
  last_proposer = refl;
  eras = refl;
  council = refl;
  acceptors = refl;
  acceptor_ids = was.acceptor_ids;
  desks_length = length-set old.desks id desk;
  callers_length = refl;
  own_length = own;
  desks = λ p d other at. other_set old.desks id desk p d other at;
  callers = λ p c other at. at;
  own = others;
  marks = omega arith;
}

-- what changes where acceptors do that keep their identities, too
pub changes_all : {S V : Type 0} (old : View S V) (id : ℕ) (acceptors : List (AcceptorView S)) (desks : List (DeskView V)) (caller : CallerView) (flow : FlowView) (marks : List Mark)
    → length acceptors ≡ length old.acceptors → ((a : ℕ) (acceptor : AcceptorView S) → IsAt acceptors a acceptor → acceptor.id ≡ a)
    → length desks ≡ length old.desks → ((p : ℕ) (desk : DeskView V) → (p ≡ id → ⊥) → IsAt desks p desk → IsAt old.desks p desk)
    → length flow.own ≡ length old.flow.own → ((p : ℕ) → (p ≡ id → ⊥) → queue_at flow p ≡ queue_at old.flow p) → length old.marks ≤ length marks
    → ChangesOneParty old (record old { acceptors = acceptors; desks = desks; callers = slice_set old.callers id caller; flow = flow; marks = marks }) id
changes_all old id acceptors desks caller flow marks acceptors_length ids desks_length other_desks own others more = record {
  last_proposer = refl;
  eras = refl;
  council = refl;
  acceptors = acceptors_length;
  acceptor_ids = ids;
  desks_length = desks_length;
  callers_length = length-set old.callers id caller;
  own_length = own;
  desks = other_desks;
  callers = λ p c other at. other_set old.callers id caller p c other at;
  own = others;
  marks = more;
}

-- ---- a party without an open round
pub party_idle : {V : Type 0} (era : Era) (marks id : ℕ) (desk : DeskView V) (caller : CallerView) (queue : QueueView) → desk.id ≡ id → desk.round ≡ None → queue.messages ≡ [] → caller.number ≤ marks
    → ((key : List ℕ) (ready : Ready) → Contains desk.cache (key, ready) → FitsBallot ready.ballot) → ((call : CallView) → caller.call ≡ Some call → 0 < call.reserved) → reserved_in caller.call ≤ most_round_marks → IsPartySafe era marks id desk caller queue
party_idle era marks id desk caller queue same none waits number fits reserved few = record {
  same_id = same;
  idle = λ down. none;
  number = number;
  few = few;
  cached = fits;
  round = subst (IsRoundSafe era caller queue) (sym none) (record { none_waits = waits; reserved = reserved });
  room = omega (arith, ap requests_in waits);
}

-- a party whose desk has no open round is idle
pub idle_at : (era : Era) (caller : CallerView) (queue : QueueView) (round : Option Round) → round ≡ None → IsRoundSafe era caller queue round → IsIdleSafe caller queue
idle_at era caller queue None none was = was
idle_at era caller queue (Some round) none was = absurd (cc none)

-- ---- acceptors that are replaced
-- acceptors of the same number that keep their identities
pub record KeepsIds {S : Type 0} (old new : List (AcceptorView S)) : Type 0 where
  pub length : length new ≡ length old
  pub ids : ((a : ℕ) (acceptor : AcceptorView S) → IsAt old a acceptor → acceptor.id ≡ a) → (a : ℕ) (acceptor : AcceptorView S) → IsAt new a acceptor → acceptor.id ≡ a

pub keeps_same : {S : Type 0} (acceptors : List (AcceptorView S)) → KeepsIds acceptors acceptors
keeps_same acceptors = record { length = refl; ids = λ ids. ids }

pub keeps_set : {S : Type 0} (acceptors : List (AcceptorView S)) (to : ℕ) (acceptor now : AcceptorView S) → IsAt acceptors to acceptor → now.id ≡ acceptor.id → KeepsIds acceptors (slice_set acceptors to now)
keeps_set {S} acceptors to acceptor now at same = record {
  length = length-set acceptors to now;
  ids = λ ids a other at_other. elim (same_or_not a to) [
    | inl here ↦ ap (λ (x : AcceptorView S). x.id) (own_set acceptors to now other (subst (λ (n : ℕ). IsAt (slice_set acceptors to now) n other) here at_other)) ∙ same ∙ ids to acceptor at ∙ sym here
    | inr there ↦ ids a other (other_set acceptors to now a other there at_other)
  ];
}
