-- What frames leave true of a cluster that nobody stops: the first one of a proposer in its turn, or a late one that strays in.
use Rattle.std.proofs.Common.{◌≡◌, ◌<◌, ℕ, Bool, true, false, List, [], ◌∷◌, ◌++◌, Option, None, Some, sym, ap, subst, ◌∙◌, inl, inr, arith}
use Rattle.std.specs.Prelude.{◌||◌, length, is_some, slice_get, slice_set, Contains, if◌then◌else◌}
use Rattle.cas_base.proofs.Bools.{or_left, or_right}
use Rattle.cas_ballot.specs.Members.{has_member, union_of}
use Rattle.cas_ballot.proofs.MemberLemmas.{has-members_where}
use Rattle.cas_acceptor.specs.Acceptor.{AcceptorView}
use Rattle.cas_fate.specs.declared.fate.Verdict.{Verdict}
use Rattle.cas_flow.specs.Flow.{queue_at, taken}
use Rattle.cas_flow.specs.Message.{head_of}
use Rattle.cas_flow.specs.declared.message.Message.{Message}
use Rattle.cas_proposer.specs.Desk.{DeskView}
use Rattle.cas_proposer.specs.declared.round.OpenPhase.{OpenPhase}
use Rattle.cas_proposer.specs.declared.round.OpenPhase.TheVariants.{Prepare, Accept}
use Rattle.cas_proposer.specs.declared.round.Round.{Round}
use Rattle.cas_quorum.specs.declared.era.Era.{Era}
use Rattle.cas_record.specs.declared.answer.Answer.TheVariants as answer
use Rattle.cas_record.specs.declared.mark.Mark.{Mark}
use Rattle.cas_record.specs.declared.mark.Mark.TheVariants.{Harmed}
use Rattle.cas_record.specs.Logs.Happening.{marks_of}
use Rattle.cas_slot.specs.declared.message.Ask.{Ask}
use Rattle.cas_slot.specs.declared.message.Ask.TheVariants as ask
use Rattle.cas_slot.specs.declared.message.Request.{Request}
use Rattle.cas_slot.specs.declared.message.Reply.{Reply}
use Rattle.cas_slot.specs.declared.message.Tell.{Tell}
use Rattle.cas_slot.specs.declared.message.Tell.TheVariants as tell
use Rattle.cas_protocol.specs.Acceptors.{votes_of}
use Rattle.cas_model.specs.Council.{Council}
use Rattle.cas_model.specs.Parties.{asked_in}
use Rattle.cas_model.specs.Safe.{IsSafe, IsRoundSafe}
use Rattle.cas_model.specs.Step.{StepTurn, StepRefuseTurn, StepStray}
use Rattle.cas_model.specs.Frames.Acceptors.{AnswersByTable, StopsWithin}
use Rattle.cas_model.specs.Calls.Step.{telling}
use Rattle.cas_model.specs.Frames.Step as frames
use Rattle.cas_model.specs.Frames.Step.{TakesTurn, FindsNoRoom, Strays, harmed_by, silent, marking, votes_marked, harmed_view}
use Rattle.cas_model.specs.View.{Meaning, View, CallView, CallerView, IsAt, era_at}
use Rattle.cas_model.proofs.Frames.Harms.{member_low}
use Rattle.cas_model.proofs.Places.{at_set, newest_or_older, contains_none, contains_at}
use Rattle.cas_model.proofs.Safety.Parts.{low_at, at_low}
use Rattle.cas_board_world.specs.Blame.{Nobody, SomeAcceptor, blame_by}
use Rattle.cas_board_world.specs.Steady.{AreBlamed, WereMembers, IsBlamedSince, IsFair, desk_faults}
use Rattle.cas_board_world.proofs.Parts.{rose_above, stays_above, fair_nobody, acceptor_up, acceptor_failed, desk_goes_on, on_callers, on_marks}

-- ---- votes and harms
-- a vote blames nobody
votes_nobody : (id : ℕ) (a : Ask) (t : Tell) (mark : Mark) → Contains (marks_of (votes_of id a t)) mark → blame_by mark ≡ Nobody
votes_nobody id (ask.Accept key ballot era ride state) tell.Accepted mark there = elim (newest_or_older [] there) [
  | inl now ↦ ap blame_by (sym now)
  | inr none ↦ absurd (contains_none none)
]
votes_nobody id a t mark there = absurd (contains_none there)

pub on_votes : {S V : Type 0} (m : Meaning S V) {were : List ℕ} {acceptors : List (AcceptorView S)} {desks : List (DeskView V)} {eras : List Era} {callers : List CallerView} {council : Council} {marks : List Mark}
    → AreBlamed m were acceptors desks eras callers council marks → (request : Request) (reply : Reply) → AreBlamed m were acceptors desks eras callers council (marks ++ votes_marked request reply)
on_votes m {were} {acceptors} {desks} is request reply = on_marks m is (votes_marked request reply) (λ mark there. fair_nobody m acceptors desks (blame_by mark) (votes_nobody request.to request.ask reply.tell mark there))

-- the first harm is marked
pub on_harm : {S V : Type 0} (m : Meaning S V) {were : List ℕ} {acceptors : List (AcceptorView S)} {desks : List (DeskView V)} {eras : List Era} {callers : List CallerView} {council : Council} {marks : List Mark}
    → AreBlamed m were acceptors desks eras callers council marks → (known : Bool) (mark : Mark) → IsFair m acceptors desks (blame_by mark) → AreBlamed m were acceptors desks eras callers council (marks ++ (if known then [] else mark ∷ []))
on_harm m is true mark fair = on_marks m is [] (λ other there. absurd (contains_none there))
on_harm {S} {V} m {were} {acceptors} {desks} is false mark fair = on_marks m is (mark ∷ []) (λ other there. elim (newest_or_older [] there) [
  | inl now ↦ subst (λ (k : Mark). IsFair m acceptors desks (blame_by k)) now fair
  | inr none ↦ absurd (contains_none none)
])

-- ---- acceptors that answer or fail
pub answered : {S V : Type 0} (m : Meaning S V) {were : List ℕ} {acceptors : List (AcceptorView S)} {desks : List (DeskView V)} {eras : List Era} {callers : List CallerView} {council : Council} {marks : List Mark}
    → AreBlamed m were acceptors desks eras callers council marks → (request : Request) (reply : Reply) (was now : AcceptorView S) → IsAt acceptors request.to was → AnswersByTable m.shelves was now request reply
    → AreBlamed m were (slice_set acceptors request.to now) desks eras callers council marks
answered {S} {V} m is request reply was now at by = acceptor_up m is request.to was now at (stays_above by.never_falls) (ap (λ (a : AcceptorView S). a.down) by.acceptor ∙ by.up)

pub stopped : {S V : Type 0} (m : Meaning S V) {were : List ℕ} {acceptors : List (AcceptorView S)} {desks : List (DeskView V)} {eras : List Era} {callers : List CallerView} {council : Council} {marks : List Mark}
    → AreBlamed m were acceptors desks eras callers council marks → (request : Request) (was now : AcceptorView S) → IsAt acceptors request.to was → StopsWithin m.shelves was now request
    → AreBlamed m were (slice_set acceptors request.to now) desks eras callers council marks × IsFair m (slice_set acceptors request.to now) desks SomeAcceptor
stopped m {were} {acceptors} is request was now at by =
    (acceptor_failed m is request.to was now at by.faulted, (request.to, record { one = now; at = at_set acceptors request.to was now at; failed = rose_above by.faulted }))

-- one that is down and was a member has failed
pub down_fair : {S V : Type 0} (m : Meaning S V) {were : List ℕ} {acceptors : List (AcceptorView S)} {desks : List (DeskView V)} {eras : List Era} {callers : List CallerView} {council : Council} {marks : List Mark}
    → AreBlamed m were acceptors desks eras callers council marks → (id : ℕ) (acceptor : AcceptorView S) → IsAt acceptors id acceptor → acceptor.down ≡ true → has_member were id ≡ true → IsFair m acceptors desks SomeAcceptor
down_fair m is id acceptor at down used = elim (is.excused id acceptor at down) [
  | inl failed ↦ (id, record { one = acceptor; at = at; failed = failed })
  | inr unused ↦ absurd (cc (sym used ∙ unused.1))
]

-- ---- who is asked was a member
in_union : (a b : List ℕ) (n : ℕ) → n < 64 → (has_member a n || has_member b n) ≡ true → has_member (union_of a b) n ≡ true
in_union a b n low either = has-members_where (λ k. has_member a k || has_member b k) n low ∙ either

asked_used : {S V : Type 0} (old : View S V) (id : ℕ) (used : List ℕ) (phase : OpenPhase) (acceptor : ℕ) → IsSafe old → WereMembers used (era_at old id) → has_member (asked_in (era_at old id) phase) acceptor ≡ true → has_member used acceptor ≡ true
asked_used old id used (Prepare phase) acceptor safe all member =
    all acceptor (in_union (era_at old id).prep (era_at old id).acc acceptor (member_low (era_at old id).prep acceptor (safe.sound.prep_sets id) member) (or_left (has_member (era_at old id).prep acceptor) (has_member (era_at old id).acc acceptor) member))
asked_used old id used (Accept phase) acceptor safe all member =
    all acceptor (in_union (era_at old id).prep (era_at old id).acc acceptor (member_low (era_at old id).acc acceptor (safe.sound.acc_sets id) member) (or_right (has_member (era_at old id).prep acceptor) (has_member (era_at old id).acc acceptor) member))

pub none_first : (messages : List Message) {front : Message} → messages ≡ [] → slice_get messages 0 ≡ Some front → ⊥
none_first messages none first = cc (sym (ap (λ (l : List Message). slice_get l 0) none) ∙ first)

-- so whose frame waits was one
waiting_used : {S V : Type 0} {were : List ℕ} (m : Meaning S V) (old : View S V) (id : ℕ) (caller : CallerView) (front : Message) → IsSafe old → IsBlamedSince m were old → IsAt old.callers id caller → slice_get (queue_at old.flow id).messages 0 ≡ Some front
    → has_member were (head_of front).1 ≡ true
waiting_used {S} {V} {were} m old id caller front safe is at first =
    let there = at_low old.desks id (omega (arith, low_at old.callers id at, safe.sound.desks, safe.sound.callers)) in
    by_round there.0.round (safe.sound.parties id there.0 caller there.1 at).round
  where
    by_round : (round : Option Round) → IsRoundSafe (era_at old id) caller (queue_at old.flow id) round → has_member were (head_of front).1 ≡ true
    by_round None idle = absurd (none_first (queue_at old.flow id).messages idle.none_waits first)
    by_round (Some round) open_ = asked_used old id were round.phase (head_of front).1 safe (is.in_eras id) (open_.about front (contains_at (queue_at old.flow id).messages 0 front first))

-- ---- a turn
harmed_blamed : {S V : Type 0} {were : List ℕ} (m : Meaning S V) (view : View S V) → IsBlamedSince m were view → (id : ℕ) (caller : CallerView) (call : CallView) (acceptor : ℕ) (down : Bool) → IsFair m view.acceptors view.desks (blame_by (Harmed id caller.number down))
    → IsBlamedSince m were (harmed_view view id caller call acceptor down)
harmed_blamed {were = were} m view is id caller call acceptor down fair = on_harm m (on_callers m is id (record caller { call = Some (harmed_by call acceptor) }) tt) (has_member call.harmed acceptor) (Harmed id caller.number down) fair

turns_blamed : {S V : Type 0} {were : List ℕ} (m : Meaning S V) (old : View S V) (id : ℕ) (v : Verdict) (front : Message) (caller : CallerView) (call : CallView) (new : View S V) → IsBlamedSince m were old → has_member were (head_of front).1 ≡ true → TakesTurn m old id v front caller call new → IsBlamedSince m were new
turns_blamed {S} {V} {were} m old id v front caller call new is used (frames.held stays view) = subst (IsBlamedSince m were) (sym view) is
turns_blamed {S} {V} {were} m old id v front caller call new is used (frames.gone goes view) = subst (IsBlamedSince m were) (sym view) (harmed_blamed m (record old { flow = taken old.flow id v }) is id caller call (head_of front).1 false tt)
turns_blamed {S} {V} {were} m old id v front caller call new is used (frames.answers request acceptor now reply handle is_front at by view) =
    subst (IsBlamedSince m were) (sym view) (on_votes m (on_callers m (answered m is request reply acceptor now at by) id (record caller { call = Some (marking call (length (votes_marked request reply))) }) tt) request reply)
turns_blamed {S} {V} {were} m old id v front caller call new is used (frames.finds_down request acceptor handle is_front at down view) =
    subst (IsBlamedSince m were) (sym view) (harmed_blamed m (record old { flow = taken old.flow id v }) is id caller call request.to true
    (down_fair m is request.to acceptor at down (subst (λ (x : Message). has_member were (head_of x).1 ≡ true) is_front used)))
turns_blamed {S} {V} {were} m old id v front caller call new is used (frames.brings_down request acceptor now handle is_front at by view) =
    let failed = stopped m is request acceptor now at by in
    subst (IsBlamedSince m were) (sym view) (harmed_blamed m (record old { acceptors = slice_set old.acceptors request.to now; flow = taken old.flow id v }) failed.0 id caller call request.to true failed.1)
turns_blamed {S} {V} {were} m old id v front caller call new is used (frames.arrives reply desk now round heard handle is_front at is_open hears view) =
    subst (IsBlamedSince m were) (sym view) (on_callers m (desk_goes_on m is id desk now at (subst (λ (d : DeskView V). 0 < desk_faults m desk → 0 < desk_faults m d) (sym hears.desk) (λ some. some)) (ap (λ (d : DeskView V). d.down) hears.desk)) id (record caller { call = Some (silent call) }) tt)

pub turn_blamed : {S V : Type 0} {were : List ℕ} (m : Meaning S V) (old : View S V) (id : ℕ) (v : Verdict) (new : View S V) → IsSafe old → IsBlamedSince m were old → StepTurn m old id v new → IsBlamedSince m were new
turn_blamed {were = were} m old id v new safe is by =
    turns_blamed m old id v by.front by.of_call.caller by.of_call.call new is (waiting_used m old id by.of_call.caller by.front safe is by.of_call.at_caller by.waits) by.turn

-- no memory is found
pub no_room_blamed : {S V : Type 0} {were : List ℕ} (m : Meaning S V) (old new : View S V) → IsBlamedSince m were old → FindsNoRoom m old new → IsBlamedSince m were new
no_room_blamed {S} {V} {were} m old new is (frames.stays view) = subst (IsBlamedSince m were) (sym view) is
no_room_blamed {S} {V} {were} m old new is (frames.kept id acceptor now at by view) =
    subst (IsBlamedSince m were) (sym view) (acceptor_up m is id acceptor now at (stays_above by.never_falls) (ap (λ (a : AcceptorView S). a.down) by.acceptor ∙ by.up))

pub refuse_turn_blamed : {S V : Type 0} {were : List ℕ} (m : Meaning S V) (old : View S V) (id : ℕ) (new : View S V) → IsBlamedSince m were old → StepRefuseTurn m old id new → IsBlamedSince m were new
refuse_turn_blamed {S} {V} {were} m old id new is by =
    subst (IsBlamedSince m were) (sym by.view) (on_callers m (no_room_blamed m old by.middle is by.refuses) id (record by.of_call.caller { call = Some (telling by.of_call.call (answer.NoMemory (is_some by.of_call.call.proposed))) }) tt)

-- ---- a late frame
strays_blamed : {S V : Type 0} {were : List ℕ} (m : Meaning S V) (old : View S V) (index : ℕ) (late : Message) (new : View S V) → IsBlamedSince m were old → Strays m old index late new → IsBlamedSince m were new
strays_blamed {S} {V} {were} m old index late new is (frames.answers request acceptor now reply is_late at by view) = subst (IsBlamedSince m were) (sym view) (on_votes m (answered m is request reply acceptor now at by) request reply)
strays_blamed {S} {V} {were} m old index late new is (frames.brings_down request acceptor now is_late at by view) = subst (IsBlamedSince m were) (sym view) (stopped m is request acceptor now at by).0
strays_blamed {S} {V} {were} m old index late new is (frames.arrives reply desk now round heard is_late at is_open hears view) =
    subst (IsBlamedSince m were) (sym view) (desk_goes_on m is reply.to desk now at (subst (λ (d : DeskView V). 0 < desk_faults m desk → 0 < desk_faults m d) (sym hears.desk) (λ some. some)) (ap (λ (d : DeskView V). d.down) hears.desk))
strays_blamed {S} {V} {were} m old index late new is (frames.drops ignored view) = subst (IsBlamedSince m were) (sym view) is

pub stray_blamed : {S V : Type 0} {were : List ℕ} (m : Meaning S V) (old : View S V) (index : ℕ) (new : View S V) → IsBlamedSince m were old → StepStray m old index new → IsBlamedSince m were new
stray_blamed {were = were} m old index new is by = strays_blamed m old index by.late new is by.strays
