-- Who confirmed an acknowledgment was a member of its era, and a proposer is marked last in the era in which it works.
use Rattle.std.proofs.Common.{◌≡◌, ◌≤◌, ◌<◌, ℕ, suc, Bool, true, false, List, [], ◌∷◌, Option, None, Some, reverse, refl, sym, ap, subst, ◌∙◌, inl, inr, arith}
use Rattle.std.specs.Prelude.{◌⊎◌, ◌==◌, ◌||◌, if◌then◌else◌}
use Rattle.cas_base.proofs.Bools.{or_left, or_right}
use Rattle.cas_ballot.specs.declared.ballot.Ballot.{Ballot}
use Rattle.cas_ballot.specs.Members.{has_member}
use Rattle.cas_ballot.proofs.MemberLemmas.{has-members_where}
use Rattle.cas_quorum.specs.declared.era.Era.{Era}
use Rattle.cas_record.specs.Logs.Happening.{Happening, Marked, Took, Drew, Entered, marks_of}
use Rattle.cas_record.specs.Logs.Lawful.{Cluster, Lawful, MayAck, MayVote, MayMarkEra}
use Rattle.cas_record.specs.Legal.{HasVotes}
use Rattle.cas_record.specs.Logs.Orderly.{Orderly, MayAsk, MayTakeBy}
use Rattle.cas_record.specs.Places.{Stands, here, past}
use Rattle.cas_record.specs.declared.mark.Acknowledgment.{Acknowledgment}
use Rattle.cas_record.specs.declared.mark.Mark.{Mark}
use Rattle.cas_record.specs.declared.mark.Mark.TheVariants.{Begun, Proposed, Voted, Acked, Floor, EraEntered, Ended, Harmed, Told}
use Rattle.cas_record.specs.declared.mark.Proposal.{Proposal}
use Rattle.cas_record.proofs.Logs.Eras.{le_or_lt, enter_law, entered_of_mark, entered_by}
use Rattle.cas_record.proofs.Logs.Lemmas.{InLog, law, lawful_older, in_log, stands_in_log, part_of, ack_law, proposed_at}
use Rattle.cas_record.proofs.Logs.Openings.{has_opening_deeper, never_proposed}
use Rattle.cas_record.proofs.Logs.Orders.{reason, drawn_once}
use Rattle.cas_record.proofs.PlaceLemmas.{deeper, stands_deeper, stands_part, newest_or}
use Rattle.cas_record.proofs.Tests.{nat_same}
use Rattle.cas_slot.specs.declared.message.Ask.TheVariants as ask
use Rattle.cas_model.specs.Council.{PlanView}
use Rattle.cas_model.specs.Eras.Course.{course_of, base_of, base_era, CourseIsUnderWay, not_yet, entered, next_era, entered_by as entered_in}
use Rattle.cas_model.specs.History.{IsRemembered}
use Rattle.cas_model.specs.Parties.{IsEraOf}
use Rattle.cas_model.specs.Safe.{IsSafe}
use Rattle.cas_model.specs.Exchanges.Step.{everyone}
use Rattle.cas_model.specs.View.{Meaning, View, era_at}
use Rattle.cas_model.proofs.Eras.Courses.{leads}
use Rattle.cas_model.proofs.Frames.Harms.{member_low}
use Rattle.cas_model.proofs.Eras.Steps.{entry_there, entry_stands}
use Rattle.cas_model_causes.specs.Exchanges.Confirmed.{era_marked, IsAhead, ErasAreMarked, ConfirmersAreAsked}

-- ---- who confirmed
-- who took a ballot that was drawn in an era, and is no floor, was a member of that era
took_member : (cluster : Cluster) (log : List Happening) (acceptor : ℕ) (key : List ℕ) (ballot ride : Ballot) (era : ℕ) → Orderly cluster log → Stands (Drew ballot key era) log → (took : Stands (Took acceptor key ballot ride) log) → MayTakeBy took.older acceptor key ballot ride
    → has_member (cluster.members era) acceptor ≡ true
took_member cluster log acceptor key ballot ride era orderly drawn took by =
    let asked = by.was_asked.asked in
    let there = deeper asked.at took.at in
    let may : MayAsk cluster asked.older by.request (ask.Accept key ballot by.era by.rides by.state) = subst (MayAsk cluster asked.older by.request) by.is (reason cluster orderly there) in
    let same = drawn_once cluster orderly (stands_deeper may.0.drawn there) drawn in
    subst (λ (e : ℕ). has_member (cluster.members e) acceptor ≡ true) same.1 (subst (λ (a : ℕ). has_member (cluster.members may.0.era) a ≡ true) by.was_asked.to may.0.member)

-- who confirmed an acknowledgment was a member of its era
confirmed_member : (cluster : Cluster) (log : List Happening) (a : Acknowledgment) (acceptor : ℕ) → Lawful cluster log → Orderly cluster log → ((p : Proposal) → Stands (Proposed p) (marks_of log) → Stands (Drew p.ballot p.key p.era) log) → Stands (Acked a) (marks_of log)
    → has_member a.by acceptor ≡ true → has_member (cluster.members a.era) acceptor ≡ true
confirmed_member cluster log a acceptor lawful orderly drawn_of stands member = elim (reason cluster orderly took.at) [
  | inl by ↦ took_member cluster log acceptor a.key a.ballot vote.ride a.era orderly drawn took by
  | inr first ↦ absurd (never_proposed cluster lawful (has_opening_deeper first.opening took.at) (proposed_at log (record { proposal = votes.proposal; stands = proposed; same_key = votes.same_key; same_ballot = votes.same_ballot })))
]
  where
    found : InLog (Acked a) stands.older log
    found = in_log log stands.at

    may : MayAck cluster found.older a
    may = ack_law cluster lawful found.at

    votes : HasVotes a (marks_of found.older)
    votes = may.votes

    proposed : Stands (Proposed votes.proposal) (marks_of log)
    proposed = stands_part votes.proposed (part_of found.at)

    drawn : Stands (Drew a.ballot a.key a.era) log
    drawn =
        subst (λ (b : Ballot). Stands (Drew b a.key a.era) log) votes.same_ballot
        (subst (λ (k : List ℕ). Stands (Drew votes.proposal.ballot k a.era) log) votes.same_key
        (subst (λ (e : ℕ). Stands (Drew votes.proposal.ballot votes.proposal.key e) log) votes.same_era (drawn_of votes.proposal proposed)))

    voted : Stands (Marked (Voted acceptor a.key a.ballot)) found.older
    voted = stands_in_log found.older (votes.votes acceptor member)

    vote : MayVote voted.older acceptor a.key a.ballot
    vote = law cluster (lawful_older cluster lawful found.at) voted.at

    took : Stands (Took acceptor a.key a.ballot vote.ride) log
    took = stands_deeper (stands_deeper vote.taken voted.at) found.at

-- and those that prepare or accept in the era are those that proposer 0 asks
asked_by_era : {S V : Type 0} (cluster : Cluster) (view : View S V) (acceptor : ℕ) → IsEraOf cluster (era_at view 0) → (has_member (era_at view 0).prep acceptor ≡ true) ⊎ (has_member (era_at view 0).acc acceptor ≡ true) → has_member (everyone view) acceptor ≡ true
asked_by_era cluster view acceptor of (inl prepares) =
    has-members_where (λ n. has_member (era_at view 0).prep n || has_member (era_at view 0).acc n) acceptor (member_low (era_at view 0).prep acceptor of.prep_set prepares) ∙ or_left (has_member (era_at view 0).prep acceptor) (has_member (era_at view 0).acc acceptor) prepares
asked_by_era cluster view acceptor of (inr accepts) =
    has-members_where (λ n. has_member (era_at view 0).prep n || has_member (era_at view 0).acc n) acceptor (member_low (era_at view 0).acc acceptor of.acc_set accepts) ∙ or_right (has_member (era_at view 0).prep acceptor) (has_member (era_at view 0).acc acceptor) accepts

pub confirmers_are_asked : {S V : Type 0} (m : Meaning S V) → ConfirmersAreAsked m
confirmers_are_asked {S} {V} m view a acceptor is stands same member =
    let logged = is.followed.logged in
    let cluster : Cluster = is.followed.cluster in
    let log : List Happening = logged.global.log in
    let of : IsEraOf cluster (era_at view 0) = logged.agrees.eras 0 (omega arith) in
    let stood : Stands (Acked a) (marks_of log) = subst (Stands (Acked a)) (sym logged.agrees.marks) stands in
    let in_era : has_member (cluster.members a.era) acceptor ≡ true = confirmed_member cluster log a acceptor logged.history.lawful logged.history.orderly logged.history.knows.drawn stood member in
    asked_by_era cluster view acceptor of (of.only_members acceptor (subst (λ (e : ℕ). has_member (cluster.members e) acceptor ≡ true) same in_era))

-- ---- the era that was marked last
-- who entered an era was marked in those before it, the first but for
marked_before : (cluster : Cluster) (log : List Happening) (proposer era earlier : ℕ) → Lawful cluster log → Stands (Entered proposer era) log → 0 < earlier → earlier < era → Stands (EraEntered proposer earlier) (marks_of log)
marked_before cluster log proposer era earlier lawful entered_it some low =
    let next = entered_by cluster era (suc earlier) (omega arith) lawful entered_it (omega arith) (omega (arith, low)) in
    let may = enter_law cluster lawful next.at in
    let left : may.left ≡ earlier = omega (arith, may.next) in
    let marked = may.may_leave.all_in (omega (arith, left, some)) proposer may.may_leave.known in
    subst (λ (e : ℕ). Stands (EraEntered proposer e) (marks_of log)) left (stands_part marked (part_of next.at))

-- nobody is marked in an era below one in which it was marked before
none_lower : (cluster : Cluster) (older : List Happening) (proposer era before : ℕ) → Lawful cluster older → MayMarkEra older proposer era → Stands (EraEntered proposer before) (marks_of older) → before ≤ era
none_lower cluster older proposer era before lawful may stands = elim (le_or_lt before era) [
  | inl low ↦ low
  | inr high ↦
      let entered_it = enter_law cluster lawful may.entered.at in
      absurd (may.once (marked_before cluster older proposer before era lawful (entered_of_mark cluster older lawful stands) (omega (arith, entered_it.next)) (omega (arith, high))))
]

-- so what was marked last is the greatest
greatest_marked : (cluster : Cluster) (log : List Happening) (proposer era : ℕ) → Lawful cluster log → Stands (EraEntered proposer era) (marks_of log) → era ≤ era_marked proposer (marks_of log)
greatest_marked cluster [] proposer era lawful stands = elim stands.at [ ]
greatest_marked cluster (Marked (EraEntered p e) ∷ older) proposer era lawful stands = by_test (p == proposer) refl (λ there. greatest_marked cluster older proposer era lawful.0 there) (newest_or stands)
  where
    by_test : (b : Bool) → (p == proposer) ≡ b → (Stands (EraEntered proposer era) (marks_of older) → era ≤ era_marked proposer (marks_of older)) → (EraEntered proposer era ≡ EraEntered p e) ⊎ Stands (EraEntered proposer era) (marks_of older)
        → era ≤ (if b then e else era_marked proposer (marks_of older))
    by_test true is before (inl newest) = let same : era ≡ e = cc newest in omega (arith, same)
    by_test true is before (inr there) = let one : p ≡ proposer = nat_same is in none_lower cluster older proposer e era lawful.0 (subst (λ (q : ℕ). MayMarkEra older q e) one lawful.1) there
    by_test false is before (inl newest) = let one : proposer ≡ p = cc newest in absurd (other is (sym one))
      where
        other : (p == proposer) ≡ false → p ≡ proposer → ⊥
        other not_same same = absurd (grind (arith, not_same, same))
    by_test false is before (inr there) = before there
greatest_marked cluster (Marked (Begun caller call key program) ∷ older) proposer era lawful stands = greatest_marked cluster older proposer era lawful.0 (elim (newest_or stands) [ inl e ↦ absurd (cc e) | inr there ↦ there ])
greatest_marked cluster (Marked (Proposed p) ∷ older) proposer era lawful stands = greatest_marked cluster older proposer era lawful.0 (elim (newest_or stands) [ inl e ↦ absurd (cc e) | inr there ↦ there ])
greatest_marked cluster (Marked (Voted acceptor key ballot) ∷ older) proposer era lawful stands = greatest_marked cluster older proposer era lawful.0 (elim (newest_or stands) [ inl e ↦ absurd (cc e) | inr there ↦ there ])
greatest_marked cluster (Marked (Acked a) ∷ older) proposer era lawful stands = greatest_marked cluster older proposer era lawful.0 (elim (newest_or stands) [ inl e ↦ absurd (cc e) | inr there ↦ there ])
greatest_marked cluster (Marked (Floor key ballot state) ∷ older) proposer era lawful stands = greatest_marked cluster older proposer era lawful.0 (elim (newest_or stands) [ inl e ↦ absurd (cc e) | inr there ↦ there ])
greatest_marked cluster (Marked (Ended caller call rounds told) ∷ older) proposer era lawful stands = greatest_marked cluster older proposer era lawful.0 (elim (newest_or stands) [ inl e ↦ absurd (cc e) | inr there ↦ there ])
greatest_marked cluster (Marked (Harmed caller call down) ∷ older) proposer era lawful stands = greatest_marked cluster older proposer era lawful.0 (elim (newest_or stands) [ inl e ↦ absurd (cc e) | inr there ↦ there ])
greatest_marked cluster (Marked (Told asked told) ∷ older) proposer era lawful stands = greatest_marked cluster older proposer era lawful.0 (elim (newest_or stands) [ inl e ↦ absurd (cc e) | inr there ↦ there ])
greatest_marked cluster (h ∷ older) proposer era lawful stands = greatest_marked cluster older proposer era lawful.0 stands

one_more : {proposer era : ℕ} (mark : Mark) (marks : List Mark) → (era ≡ 0) ⊎ Stands (EraEntered proposer era) marks → (era ≡ 0) ⊎ Stands (EraEntered proposer era) (mark ∷ marks)
one_more mark marks (inl none) = inl none
one_more mark marks (inr there) = inr (record { older = there.older; at = past there.at })

-- and it was marked, if any was
marked_stands : (proposer : ℕ) (marks : List Mark) → (era_marked proposer marks ≡ 0) ⊎ Stands (EraEntered proposer (era_marked proposer marks)) marks
marked_stands proposer [] = inl refl
marked_stands proposer (EraEntered p e ∷ marks) = by_test (p == proposer) refl (marked_stands proposer marks)
  where
    by_test : (b : Bool) → (p == proposer) ≡ b → (era_marked proposer marks ≡ 0) ⊎ Stands (EraEntered proposer (era_marked proposer marks)) marks
        → ((if b then e else era_marked proposer marks) ≡ 0) ⊎ Stands (EraEntered proposer (if b then e else era_marked proposer marks)) (EraEntered p e ∷ marks)
    by_test true is before = inr (subst (λ (q : ℕ). Stands (EraEntered q e) (EraEntered p e ∷ marks)) (nat_same is) (record { older = marks; at = here }))
    by_test false is (inl none) = inl none
    by_test false is (inr there) = inr (record { older = there.older; at = past there.at })
marked_stands proposer (Begun caller call key program ∷ marks) = one_more (Begun caller call key program) marks (marked_stands proposer marks)
marked_stands proposer (Proposed p ∷ marks) = one_more (Proposed p) marks (marked_stands proposer marks)
marked_stands proposer (Voted acceptor key ballot ∷ marks) = one_more (Voted acceptor key ballot) marks (marked_stands proposer marks)
marked_stands proposer (Acked a ∷ marks) = one_more (Acked a) marks (marked_stands proposer marks)
marked_stands proposer (Floor key ballot state ∷ marks) = one_more (Floor key ballot state) marks (marked_stands proposer marks)
marked_stands proposer (Ended caller call rounds told ∷ marks) = one_more (Ended caller call rounds told) marks (marked_stands proposer marks)
marked_stands proposer (Harmed caller call down ∷ marks) = one_more (Harmed caller call down) marks (marked_stands proposer marks)
marked_stands proposer (Told asked told ∷ marks) = one_more (Told asked told) marks (marked_stands proposer marks)

-- a proposer that is marked in this era, or in none, and in no later one
last_marked : (cluster : Cluster) (log : List Happening) (proposer era : ℕ) → Lawful cluster log → (0 < era → Stands (EraEntered proposer era) (marks_of log)) → ((other : ℕ) → Stands (EraEntered proposer other) (marks_of log) → other ≤ era) → era ≡ era_marked proposer (marks_of log)
last_marked cluster log proposer era lawful marked none_later = both (elim (marked_stands proposer (marks_of log)) [
  | inl none ↦ omega (arith, none)
  | inr there ↦ none_later (era_marked proposer (marks_of log)) there
]) (elim (le_or_lt era 0) [
  | inl none ↦ omega (arith, none)
  | inr some ↦ greatest_marked cluster log proposer era lawful (marked some)
])
  where
    both : era_marked proposer (marks_of log) ≤ era → era ≤ era_marked proposer (marks_of log) → era ≡ era_marked proposer (marks_of log)
    both high low = omega (arith, high, low)

-- ---- the era in which proposer 0 works
-- where it is the one that all entered last, and no change of membership has marked it in the next
in_base : {S V : Type 0} (m : Meaning S V) (view : View S V) → IsSafe view → IsRemembered m view → (era_at view 0).number ≡ (base_era (course_of view)).number → entered_in view.council.plan ≡ 0 → (era_at view 0).number ≡ era_marked 0 (reverse view.marks)
in_base m view safe is same none =
    let logged = is.followed.logged in
    let entries = safe.course.entries in
    subst (λ (l : List Mark). (era_at view 0).number ≡ era_marked 0 l) logged.agrees.marks
    (last_marked is.followed.cluster logged.global.log 0 (era_at view 0).number logged.history.lawful
    (λ some. subst (λ (l : List Mark). Stands (EraEntered 0 (era_at view 0).number) l) (sym logged.agrees.marks)
    (subst (λ (e : ℕ). Stands (EraEntered 0 e) (reverse view.marks)) (sym same) (entry_stands view.marks 0 (base_era (course_of view)).number (entries.all (omega (arith, some, same)) 0 (omega arith)))))
    (λ other stands. elim (entries.none_beyond _ (entry_there view.marks 0 other (subst (Stands (EraEntered 0 other)) logged.agrees.marks stands))) [
      | inl low ↦ omega (arith, low, same)
      | inr next ↦ absurd (omega (arith, next.1, none))
    ]))

-- where it is the next one, and proposer 0 was marked so
in_next : {S V : Type 0} (m : Meaning S V) (view : View S V) → IsSafe view → IsRemembered m view → (era_at view 0).number ≡ suc (base_era (course_of view)).number → 0 < entered_in view.council.plan → (era_at view 0).number ≡ era_marked 0 (reverse view.marks)
in_next m view safe is same some =
    let logged = is.followed.logged in
    let entries = safe.course.entries in
    subst (λ (l : List Mark). (era_at view 0).number ≡ era_marked 0 l) logged.agrees.marks
    (last_marked is.followed.cluster logged.global.log 0 (era_at view 0).number logged.history.lawful
    (λ high. subst (λ (l : List Mark). Stands (EraEntered 0 (era_at view 0).number) l) (sym logged.agrees.marks)
    (subst (λ (e : ℕ). Stands (EraEntered 0 e) (reverse view.marks)) (sym same) (entry_stands view.marks 0 (suc (base_era (course_of view)).number) (entries.led 0 some))))
    (λ other stands. elim (entries.none_beyond _ (entry_there view.marks 0 other (subst (Stands (EraEntered 0 other)) logged.agrees.marks stands))) [
      | inl low ↦ omega (arith, low, same)
      | inr next ↦ omega (arith, next.0, same)
    ]))

pub eras_are_marked : {S V : Type 0} (m : Meaning S V) → ErasAreMarked m
eras_are_marked {S} {V} m view safe is = by_plan view.council.plan refl safe.course.under_way
  where
    by_plan : (plan : Option PlanView) → view.council.plan ≡ plan → CourseIsUnderWay (course_of view) plan → ((era_at view 0).number ≡ era_marked 0 (reverse view.marks)) ⊎ IsAhead view
    by_plan None none settled =
        inl (in_base m view safe is (sym (ap (λ (p : Option PlanView). (base_of p view.eras).number) none)) (ap entered_in none))
    by_plan (Some plan) is_plan moving = elim (moving.each 0 (omega arith)) [
      | not_yet low same ↦ inl (in_base m view safe is (ap (λ (e : Era). e.number) same ∙ sym (base_is plan is_plan)) (ap entered_in is_plan ∙ omega (arith, low)))
      | entered next ↦ elim (le_or_lt plan.entered 0) [
        | inl none ↦ inr (record { plan = plan; is_plan = is_plan; unmarked = omega (arith, none); next = ap next_era is_plan ∙ next })
        | inr some ↦
            let follows = (leads plan.progress.era (era_at view 0) plan.progress.left next moving.start).follows in
            inl (in_next m view safe is (follows.number ∙ ap suc (sym (base_is plan is_plan))) (subst (λ (n : ℕ). 0 < n) (sym (ap entered_in is_plan)) some))
      ]
    ]
      where
        base_is : (p : PlanView) → view.council.plan ≡ Some p → (base_era (course_of view)).number ≡ p.progress.era.number
        base_is p e = ap (λ (o : Option PlanView). (base_of o view.eras).number) e
