-- A cluster that is remembered is remembered once a change of membership is under way: its cluster is widened by the eras that the change
-- leads to.
use Rattle.std.proofs.Common.{◌≡◌, ◌≤◌, ◌<◌, ℕ, true, List, Option, None, Some, refl, sym, ap, subst, ◌∙◌, inl, inr, arith}
use Rattle.std.specs.Prelude.{◌==◌, ◌||◌, Ok}
use Rattle.cas_base.proofs.Bools.{or_left, or_right}
use Rattle.cas_ballot.specs.Members.{has_member, IsMemberSet}
use Rattle.cas_ballot.proofs.MemberLemmas.{has-members_where, IsMemberSet-members_where}
use Rattle.cas_members.specs.Plan.{eras_in}
use Rattle.cas_members.specs.Steps.{Progress}
use Rattle.cas_proposer.specs.Desk.{DeskView}
use Rattle.cas_quorum.specs.declared.era.Era.{Era}
use Rattle.cas_record.specs.declared.mark.Mark.TheVariants.{EraEntered}
use Rattle.cas_record.specs.declared.operator.Asked.{Asked}
use Rattle.cas_record.specs.declared.operator.Asked.TheVariants.{Join}
use Rattle.cas_record.specs.Logs.Lawful.{Cluster}
use Rattle.cas_record.specs.Places.{Stands}
use Rattle.cas_record.proofs.Tests.{nat_is}
use Rattle.cas_model.specs.Collection.Logged.{IsCollectingTrue}
use Rattle.cas_model.specs.Council.{PlanView, Council}
use Rattle.cas_model.specs.Eras.Course.{IsNoEra, course_of, entries_in, IsSettled, IsCourseOf}
use Rattle.cas_model.specs.Eras.Listed.{IsPlanTrue, AreUsed}
use Rattle.cas_model.specs.History.{IsInEra, inside, torn, IsFollowed}
use Rattle.cas_model.specs.Parties.{IsEraOf}
use Rattle.cas_model.specs.Eras.Step.{IsPlanned, new_plan, used_with}
use Rattle.cas_model.specs.View.{Meaning, View, era_at}
use Rattle.cas_model.proofs.Eras.Courses.{course, course_opened}
use Rattle.cas_model.proofs.Frames.Harms.{member_low}
use Rattle.cas_model.proofs.Eras.Plans.{BeginsPlan, planned_starts, planned_meets, start_next, IsMemberOfOne, IsMemberThen, already, joins, planned_members}
use Rattle.cas_model.proofs.Eras.Steps.{entry_there}
use Rattle.cas_model.proofs.Eras.Wider.{IsAheadOfBase, wider_exchange, wider_logged}
use Rattle.cas_model.proofs.Eras.Widening.{IsWidening, widens}

-- with no change under way all proposers work in the last era of the cluster
settled_on : {S V : Type 0} (m : Meaning S V) (old : View S V) (is : IsFollowed m old) → old.council.plan ≡ None → IsCourseOf is.cluster (course old.last_proposer old.eras None (entries_in old.marks))
settled_on m old is none = subst (λ (plan : Option PlanView). IsCourseOf is.cluster (course old.last_proposer old.eras plan (entries_in old.marks))) none is.course

-- who was used stays so, and who joins is
used_set : (asked : Asked) (used : List ℕ) → IsMemberSet used → IsMemberSet (used_with asked used)
used_set (Join id) used set = IsMemberSet-members_where (λ n. n == id || has_member used n)
used_set other used set = set

used_still : (asked : Asked) (used : List ℕ) (acceptor : ℕ) → IsMemberSet used → has_member used acceptor ≡ true → has_member (used_with asked used) acceptor ≡ true
used_still (Join id) used acceptor set member =
    has-members_where (λ n. n == id || has_member used n) acceptor (member_low used acceptor set member) ∙ or_right (acceptor == id) (has_member used acceptor) member
used_still other used acceptor set member = member

joined_used : (asked : Asked) (used : List ℕ) (acceptor : ℕ) → acceptor < 64 → asked ≡ Join acceptor → has_member (used_with asked used) acceptor ≡ true
joined_used asked used acceptor small is = subst (λ (a : Asked). has_member (used_with a used) acceptor ≡ true) (sym is)
    (has-members_where (λ n. n == acceptor || has_member used n) acceptor small ∙ or_left (acceptor == acceptor) (has_member used acceptor) (nat_is {a = acceptor} refl))

pub plan_opened : {S V : Type 0} (m : Meaning S V) (old : View S V) (asked : Asked) (progress : Progress) (next : Council)
    → next.exchange ≡ old.council.exchange → next.plan ≡ Some (new_plan asked progress) → next.used ≡ used_with asked old.council.used → next.collection ≡ None → old.council.plan ≡ None
    → IsPlanned (era_at old 0) old.council.used asked (Ok progress)
    → IsFollowed m old → IsFollowed m (record old { council = next })
plan_opened {S} {V} m old asked progress next same_exchange is_plan is_used none_collected none planned is = record {
  cluster = wider;
  logged = wider_logged m is.cluster wider progress.era later old next more low is.logged ahead (
    λ exchange some. wider_exchange is.cluster wider progress.era later is.logged.global.log used exchange more ahead are is.logged.history.orderly (is.logged.agrees.council.0 exchange (sym same_exchange ∙ some)),
    subst (IsPlanTrue wider is.logged.global.log) (sym is_plan) (record { settled = λ era enters. inl (begins.first era enters); listing = λ listing none. absurd (cc none) }),
    subst (AreUsed wider) (sym is_used) used_then,
    subst (IsCollectingTrue wider is.logged.global.log) (sym none_collected) tt,
  );
  course = subst (λ (plan : Option PlanView). IsCourseOf wider (course old.last_proposer old.eras plan (entries_in old.marks))) (sym is_plan) (record {
    is_course =
        course_opened old.last_proposer old.eras (entries_in old.marks) asked progress begins.era begins.start begins.leads
        (planned_meets (era_at old 0) old.council.used asked progress settled.whole planned) on.is_course;
    later = more.has;
    none_beyond = more.none_beyond;
  });
  in_eras = λ id desk at. ((is.in_eras id desk at).0, in_era id desk (is.in_eras id desk at).1);
}
  where
    used : List ℕ
    used = old.council.used

    on : IsCourseOf is.cluster (course old.last_proposer old.eras None (entries_in old.marks))
    on = settled_on m old is none

    settled : IsSettled (course old.last_proposer old.eras None (entries_in old.marks))
    settled = on.is_course.under_way

    begins : BeginsPlan asked (era_at old 0) progress
    begins = planned_starts (era_at old 0) used asked progress settled.whole planned

    later : List Era
    later = eras_in progress.left

    is_era : IsEraOf is.cluster progress.era
    is_era = subst (IsEraOf is.cluster) (sym begins.era) (is.logged.agrees.eras 0 (omega arith))

    none_beyond : (number : ℕ) → progress.era.number < number → IsNoEra is.cluster number
    none_beyond number far = on.none_beyond number (omega (arith, far, ap (λ (e : Era). e.number) begins.era))

    widening : (wider : Cluster) × IsWidening is.cluster wider progress.era later
    widening =
        widens is.cluster progress.era later is.logged.meets is_era none_beyond (start_next progress.era progress.left begins.start)
        (planned_meets (era_at old 0) used asked progress settled.whole planned)

    wider : Cluster
    wider = widening.0

    more : IsWidening is.cluster wider progress.era later
    more = widening.1

    low : (id : ℕ) → id ≤ old.last_proposer → (era_at old id).number ≤ progress.era.number
    low id known = omega (arith, ap (λ (e : Era). e.number) (settled.same id known), ap (λ (e : Era). e.number) begins.era)

    member_then : (acceptor : ℕ) → IsMemberOfOne later acceptor → IsMemberThen (era_at old 0) used asked acceptor
    member_then acceptor member = planned_members (era_at old 0) used asked progress settled.whole planned acceptor member

    in_base : (acceptor : ℕ) → has_member (era_at old 0).prep acceptor ≡ true → has_member (is.cluster.members progress.era.number) acceptor ≡ true
    in_base acceptor member = is_era.prep_members acceptor (subst (λ (e : Era). has_member e.prep acceptor ≡ true) (sym begins.era) member)

    ahead : IsAheadOfBase is.cluster is.logged.global.log progress.era later used
    ahead = record {
      all_in = λ era entered. elim (on.is_course.entries.none_beyond _ (entry_there old.marks 0 era (subst (Stands (EraEntered 0 era)) is.logged.agrees.marks (entered 0 (omega arith))))) [
        | inl few ↦ omega (arith, few, ap (λ (e : Era). e.number) begins.era)
        | inr led ↦ absurd (omega (arith, led.1))
      ];
      joins = λ acceptor member. elim (member_then acceptor member) [
        | already is_in ↦ inl (in_base acceptor is_in)
        | joins so unused small ↦ inr unused
      ];
    }

    are : AreUsed is.cluster used
    are = is.logged.agrees.council.2

    used_then : AreUsed wider (used_with asked used)
    used_then = record {
      set = used_set asked used are.set;
      members = λ number acceptor member. elim (more.members number acceptor member) [
        | inl before ↦ used_still asked used acceptor are.set (are.members number acceptor before)
        | inr new ↦ elim (member_then acceptor new) [
          | already is_in ↦ used_still asked used acceptor are.set (are.members progress.era.number acceptor (in_base acceptor is_in))
          | joins so unused small ↦ joined_used asked used acceptor small so
        ]
      ];
    }

    in_era : (id : ℕ) (desk : DeskView V) → IsInEra m (course_of old) id desk → IsInEra m (course_of (record old { council = next })) id desk
    in_era id desk (inside within) = inside within
    in_era id desk (torn plan to is_under_way is_next in_base down none_promised idle within) = absurd (cc (is_under_way, none))
