-- A phase that ends short of confirmations had as many frames harmed as are missing.
use Rattle.std.proofs.Common.{◌≡◌, ◌<◌, ◌≤◌, ℕ, Bool, true, false, List, [], ◌∷◌, Option, None, Some, refl, sym, ap, ◌∙◌, inl, inr, arith}
use Rattle.std.specs.Prelude.{◌⊎◌, ◌==◌, ◌&&◌, ◌-◌, length, if◌then◌else◌}
use Rattle.std.specs.List.{filter_map, list_any}
use Rattle.cas_base.proofs.Bools.{both_true, and_left, and_right}
use Rattle.cas_ballot.specs.Members.{has_member, IsMemberSet}
use Rattle.cas_ballot.proofs.MemberLemmas.{has-members_where}
use Rattle.cas_proposer.specs.Round.{is_of}
use Rattle.cas_proposer.specs.declared.round.Round.{Round}
use Rattle.cas_quorum.specs.Quorum.{count_in}
use Rattle.cas_round.specs.Replies.{is_prepare, is_accept, is_heard, heard as heard_of, is_promise, is_acceptance, confirmers_of, met_by, age_by, is_full}
use Rattle.cas_round.specs.Round.{IsRoundVerdict}
use Rattle.cas_round.specs.declared.verdict.RoundVerdict.TheVariants.{Short}
use Rattle.cas_round.proofs.Lists.{Has, has, has_filter, has_map, has_any}
use Rattle.cas_slot.specs.declared.message.Ask.{Ask}
use Rattle.cas_slot.specs.declared.message.Ask.TheVariants as ask
use Rattle.cas_slot.specs.declared.message.Phase.{Phase}
use Rattle.cas_slot.specs.declared.message.Reply.{Reply}
use Rattle.cas_slot.specs.declared.message.Tell.{Tell}
use Rattle.cas_slot.specs.declared.message.Tell.TheVariants as tell
use Rattle.cas_slot.specs.Message.{phase_of}
use Rattle.cas_record.specs.Logs.Happening.{Happening}
use Rattle.cas_record.specs.Logs.Lawful.{Cluster}
use Rattle.cas_record.specs.Logs.Orderly.{Orderly, MayReply}
use Rattle.cas_record.proofs.Logs.Orders.{reason}
use Rattle.cas_record.proofs.Tests.{nat_is}
use Rattle.cas_model.specs.Parties.{IsRoundTell, WereMade, IsAccountedFor, heard, waits, was_harmed, IsPhaseHeard, asked_in}
use Rattle.cas_model.proofs.Frames.Harms.{members_count, member_low}
use Rattle.cas_model.proofs.Places.{contains_none}

-- ---- a reply that tells no reason confirms
-- what is mapped to nothing
none_mapped : {X Y : Type 0} (f : X → Option Y) (x : X) (xs : List X) → Has x xs → filter_map f xs ≡ [] → f x ≡ None
none_mapped {X} {Y} f x xs h none = by_option (f x) refl
  where
    nothing : (y : Y) (ys : List Y) → ys ≡ [] → Has y ys → ⊥
    nothing y [] e h = h
    nothing y (z ∷ ys) e h = absurd (cc e)

    by_option : (o : Option Y) → f x ≡ o → f x ≡ None
    by_option None e = e
    by_option (Some y) e = absurd (nothing y (filter_map f xs) none (has_map f x y xs h e))

pub confirms_prepare : (question : Ask) (answer : Tell) → is_prepare (phase_of question) ≡ true → IsRoundTell question answer → met_by answer ≡ None → age_by answer ≡ None → is_full answer ≡ false → is_promise answer ≡ true
confirms_prepare (ask.Prepare key ballot) (tell.Promised accepted) phase_is kind met aged full = refl
confirms_prepare question (tell.Met ballot) phase_is kind met aged full = absurd (cc met)
confirms_prepare question (tell.Aged least) phase_is kind met aged full = absurd (cc aged)
confirms_prepare question tell.Full phase_is kind met aged full = absurd (cc full)
confirms_prepare (ask.Prepare key ballot) answer phase_is kind met aged full = absurd kind
confirms_prepare question answer phase_is kind met aged full = absurd (cc phase_is)

pub confirms_accept : (question : Ask) (answer : Tell) → is_accept (phase_of question) ≡ true → IsRoundTell question answer → met_by answer ≡ None → age_by answer ≡ None → is_full answer ≡ false → is_acceptance answer ≡ true
confirms_accept (ask.Accept key ballot era ride state) tell.Accepted phase_is kind met aged full = refl
confirms_accept question (tell.Met ballot) phase_is kind met aged full = absurd (cc met)
confirms_accept question (tell.Aged least) phase_is kind met aged full = absurd (cc aged)
confirms_accept question tell.Full phase_is kind met aged full = absurd (cc full)
confirms_accept (ask.Accept key ballot era ride state) answer phase_is kind met aged full = absurd kind
confirms_accept question answer phase_is kind met aged full = absurd (cc phase_is)

not_full : (b : Bool) (from : ℕ) → (if b then Some from else None) ≡ None → b ≡ false
not_full true from e = absurd (cc e)
not_full false from e = refl

-- ---- counts
-- whoever is asked confirmed or was harmed, so what is missing was harmed
pub missing : (set by harmed : List ℕ) (need : ℕ) → IsMemberSet set → IsMemberSet harmed → need ≤ length set → ((n : ℕ) → has_member set n ≡ true → (has_member by n ≡ true) ⊎ (has_member harmed n ≡ true)) → need - count_in set by ≤ length harmed
missing set by harmed need set_is harmed_is low cases =
    let counted = members_count (has_member set) (λ n. has_member set n && has_member by n) (has_member harmed) (λ n member. elim (cases n member) [
      | inl confirmed ↦ inl (both_true (has_member set n) (has_member by n) member confirmed)
      | inr was ↦ inr was
    ]) in
    omega (arith, low, counted, ap (λ (l : List ℕ). length l) set_is.lists, ap (λ (l : List ℕ). length l) harmed_is.lists)

-- ---- a phase
pub short_of : (cluster : Cluster) (log : List Happening) (round : Round) (replies : List Reply) (harmed members : List ℕ) (need : ℕ) (is_phase : Phase → Bool) (confirms : Tell → Bool) (got needed : ℕ)
    → ((x : Phase) → is_of round.phase x ≡ true → is_phase x ≡ true)
    → ((question : Ask) (answer : Tell) → is_phase (phase_of question) ≡ true → IsRoundTell question answer → met_by answer ≡ None → age_by answer ≡ None → is_full answer ≡ false → confirms answer ≡ true)
    → Orderly cluster log → WereMade log replies → IsPhaseHeard round replies [] harmed → asked_in round.era round.phase ≡ members → IsMemberSet members → IsMemberSet harmed → need ≤ length members
    → IsRoundVerdict members need confirms (heard_of is_phase round.ballot replies) (Short got needed) → needed - got ≤ length harmed
short_of cluster log round replies harmed members need is_phase confirms got needed of_phase told orderly were phase_heard asked set_is harmed_is low verdict =
    omega (
      arith,
      verdict.4,
      verdict.5,
      missing members (confirmers_of confirms (heard_of is_phase round.ballot replies)) harmed need set_is harmed_is low
          (λ n member. by_account n (member_low members n set_is member) (phase_heard.each n (ap (λ (l : List ℕ). has_member l n) asked ∙ member))),
    )
  where
    list : List Reply
    list = heard_of is_phase round.ballot replies

    by_account : (n : ℕ) → n < 64 → IsAccountedFor round replies [] harmed n → (has_member (confirmers_of confirms list) n ≡ true) ⊎ (has_member harmed n ≡ true)
    by_account n small (was_harmed h) = inr h
    by_account n small (waits each has_it about) = absurd (contains_none has_it)
    by_account n small (heard reply has_it from is) =
        let phase_is = of_phase reply.phase (and_left (is_of round.phase reply.phase) _ is) in
        let is_there = both_true (is_phase reply.phase) _ phase_is (and_right (is_of round.phase reply.phase) _ is) in
        let stands : Has reply list = has_filter (is_heard is_phase round.ballot) reply replies (has reply replies has_it) is_there in
        let was = were reply has_it in
        let may : MayReply was.replied.older was.request reply = reason cluster orderly was.replied.at in
        let confirmed = told was.request.ask reply.tell (sym (ap is_phase may.phase) ∙ phase_is) was.kind
        (none_mapped (λ (r : Reply). met_by r.tell) reply list stands verdict.1)
        (none_mapped (λ (r : Reply). age_by r.tell) reply list stands verdict.2)
        (not_full (is_full reply.tell) reply.from (none_mapped (λ (r : Reply). if is_full r.tell then Some r.from else None) reply list stands verdict.3)) in
        inl (has-members_where (λ k. list_any (λ r. (r.from == k) && confirms r.tell) list) n small
        ∙ has_any (λ r. (r.from == n) && confirms r.tell) reply list stands (both_true (reply.from == n) (confirms reply.tell) (nat_is from) confirmed))
