-- What each call on the world for a caller's call does to its call, and which marks it makes.
use Rattle.std.proofs.Common.{◌≡◌, ◌≤◌, ℕ, suc, ◌-◌, Bool, true, false, if◌then◌else◌, List, [], ◌∷◌, ◌++◌, length, Option, None, Some, IsSome, is_some, slice_get, slice_set, refl, sym, ap, ap₂, subst, ◌∙◌, append-nil, length-set, arith}
use Rattle.std.proofs.lemmas.List.Elements.{All-nil, All-cons}
use Rattle.cas_ballot.specs.Members.{has_member}
use Rattle.cas_change.specs.declared.program.Clause.{Clause}
use Rattle.cas_fate.specs.declared.fate.Verdict.{Verdict}
use Rattle.cas_fate.specs.declared.fate.Verdict.TheVariants as verdict
use Rattle.cas_flow.specs.Flow.{queue_at}
use Rattle.cas_flow.specs.Queue.{fall_of}
use Rattle.cas_flow.specs.declared.fall.Fall.TheVariants.{Gone}
use Rattle.cas_flow.specs.declared.message.Message.{Message}
use Rattle.cas_proposer.specs.Desk.{DeskView}
use Rattle.cas_proposer.specs.declared.round.Round.{Round}
use Rattle.cas_record.specs.Logs.Happening.{marks_of}
use Rattle.cas_record.specs.declared.answer.Answer.{Answer}
use Rattle.cas_record.specs.declared.answer.Answer.TheVariants as answer
use Rattle.cas_record.specs.declared.mark.Acknowledgment.{Acknowledgment}
use Rattle.cas_record.specs.declared.mark.Mark.{Mark}
use Rattle.cas_record.specs.declared.mark.Mark.TheVariants.{Begun, Proposed, Voted, Acked, Ended, Harmed}
use Rattle.cas_record.specs.declared.mark.Proposal.{Proposal}
use Rattle.cas_slot.specs.declared.message.Ask.{Ask}
use Rattle.cas_slot.specs.declared.message.Ask.TheVariants as ask
use Rattle.cas_slot.specs.declared.message.Reply.{Reply}
use Rattle.cas_slot.specs.declared.message.Request.{Request}
use Rattle.cas_slot.specs.declared.message.Tell.{Tell}
use Rattle.cas_slot.specs.declared.message.Tell.TheVariants as tell
use Rattle.cas_protocol.specs.Acceptors.{votes_of}
use Rattle.cas_model.specs.Council.{Council}
use Rattle.cas_model.specs.Step.{StepBegin, StepTurn, StepRefuseTurn, StepPropose, StepCount, StepEnd, StepStray}
use Rattle.cas_model.specs.Calls.Step as calls
use Rattle.cas_model.specs.Frames.Step as frames
use Rattle.cas_model.specs.Stops.Step.{OpenCallAt}
use Rattle.cas_model.specs.View.{Meaning, View, CallView, CallerView, IsAt, new_call, era_at}
use Rattle.cas_model.proofs.Places.{at_one, at_set, some_is}
use Rattle.cas_turn.specs.Seen.{OnlyOwnedBy}
use Rattle.cas_world.specs.World.{WasTold}
use Rattle.cas_board_steps.specs.Calls.Conflicts.{is_conflict, told_conflict}
use Rattle.cas_board_steps.specs.Calls.Changes.{harm_by}
use Rattle.cas_board_steps.specs.Mine.{mine, call_of, AreOfCall, losses, Wanted, wanted_after}
use Rattle.cas_board_steps.specs.Owners.{owner_of, is_answer, MayAdd}
use Rattle.cas_board_steps.proofs.Calls.Acts.{spares_same, spares_set, SparesRounds, spares_rounds, has_round, round_set, Acts, acts_then}
use Rattle.cas_board_steps.proofs.Fronts.{mine_own}

-- ---- marks of one call
-- what is so of the marks that a call on the world makes for the caller's call
pub record Fine (n call most : ℕ) (marks : List Mark) : Type 0 where
  pub may_add : MayAdd marks
  pub only : OnlyOwnedBy owner_of n marks
  pub of_call : AreOfCall call (mine n marks)
  pub few : losses (mine n marks) ≤ most
  pub asks : (before : Option Wanted) → wanted_after n before marks ≡ before

pub only_one : (n : ℕ) (mark : Mark) → ((m : ℕ) → owner_of mark ≡ Some m → m ≡ n) → OnlyOwnedBy owner_of n (mark ∷ [])
only_one n mark is = All-cons (λ i. (m : ℕ) → owner_of i ≡ Some m → m ≡ n) mark [] is (All-nil (λ i. (m : ℕ) → owner_of i ≡ Some m → m ≡ n))

one_of_call : (call : ℕ) (mark : Mark) → call_of mark ≡ Some call → AreOfCall call (mark ∷ [])
one_of_call call mark is = All-cons (λ i. call_of i ≡ Some call) mark [] is (All-nil (λ i. call_of i ≡ Some call))

pub fine_none : (n call most : ℕ) → Fine n call most []
fine_none n call most = record {
  may_add = tt;
  only = All-nil (λ i. (m : ℕ) → owner_of i ≡ Some m → m ≡ n);
  of_call = All-nil (λ i. call_of i ≡ Some call);
  few = omega arith;
  asks = λ before. refl;
}

pub fine_vote : (n call most acceptor : ℕ) (key : List ℕ) (ballot : _) → Fine n call most (Voted acceptor key ballot ∷ [])
fine_vote n call most acceptor key ballot = record {
  may_add = (All-nil (λ mark. is_answer mark ≡ false), tt);
  only = only_one n (Voted acceptor key ballot) (λ m e. absurd (cc e));
  of_call = All-nil (λ i. call_of i ≡ Some call);
  few = omega arith;
  asks = λ before. refl;
}

pub fine_ack : (n call most : ℕ) (a : Acknowledgment) → Fine n call most (Acked a ∷ [])
fine_ack n call most a = record {
  may_add = (tt, tt);
  only = only_one n (Acked a) (λ m e. absurd (cc e));
  of_call = All-nil (λ i. call_of i ≡ Some call);
  few = omega arith;
  asks = λ before. refl;
}

pub fine_harm : (n call most : ℕ) (down : Bool) → losses (Harmed n call down ∷ []) ≤ most → Fine n call most (Harmed n call down ∷ [])
fine_harm n call most down few =
    let own = mine_own n (Harmed n call down) [] refl in
    record {
      may_add = (tt, tt);
      only = only_one n (Harmed n call down) (λ m e. sym (some_is e));
      of_call = subst (AreOfCall call) (sym own) (one_of_call call (Harmed n call down) refl);
      few = subst (λ (l : List Mark). losses l ≤ most) (sym own) few;
      asks = λ before. refl;
    }

pub fine_proposal : (n call most : ℕ) (p : Proposal) → p.caller ≡ n → p.call ≡ call → Fine n call most (Proposed p ∷ [])
fine_proposal n call most p by of =
    let own = mine_own n (Proposed p) [] (ap (λ (k : ℕ). Some k) by) in
    record {
      may_add = (refl, tt);
      only = only_one n (Proposed p) (λ m e. sym (some_is e) ∙ by);
      of_call = subst (AreOfCall call) (sym own) (one_of_call call (Proposed p) (ap (λ (k : ℕ). Some k) of));
      few = subst (λ (l : List Mark). losses l ≤ most) (sym own) (omega arith);
      asks = λ before. refl;
    }

pub fine_votes : (n call most : ℕ) (request : Request) (reply : Reply) → Fine n call most (frames.votes_marked request reply)
fine_votes n call most request reply = by_ask request.to request.ask reply.tell
  where
    by_ask : (to : ℕ) (question : Ask) (told : Tell) → Fine n call most (marks_of (votes_of to question told))
    by_ask to (ask.Accept key ballot era ride state) tell.Accepted = fine_vote n call most to key ballot
    by_ask to question told = fine_none n call most

-- ---- verdicts
pub gone_harms : (again : Bool) (v : Verdict) → fall_of again v ≡ Gone → 1 ≤ harm_by v
gone_harms true v e = absurd (cc e)
gone_harms false verdict.Deliver e = absurd (cc e)
gone_harms false verdict.Twice e = absurd (cc e)
gone_harms false verdict.Lose e = omega arith
gone_harms false verdict.Late e = omega arith
gone_harms false verdict.Hold e = absurd (cc e)

-- ---- a step of an open call
-- The call goes on as another state of it, with the same key, program and rounds; while its round is open no conflict is told.
pub record CallGoesOn {S V : Type 0} (n most : ℕ) (old new : View S V) (caller : CallerView) (call : CallView) : Type 0 where
  pub next : CallView
  pub marks : List Mark
  pub acts : Acts n old new marks
  pub fine : Fine n caller.number most marks
  pub at_next : IsAt new.callers n (record caller { call = Some next })
  pub key : next.key ≡ call.key
  pub program : next.program ≡ call.program
  pub rounds : next.rounds ≡ call.rounds
  pub closed : call.is_closed ≡ false → next.is_closed ≡ false
  pub told : (desk : DeskView V) → IsAt new.desks n desk → IsSome desk.round → told_conflict call.told ≡ false → told_conflict next.told ≡ false

-- and no mark is made where its caller is told something
pub record SilentGoesOn {S V : Type 0} (n most : ℕ) (old new : View S V) (caller : CallerView) (call : CallView) : Type 0 where
  pub goes : CallGoesOn n most old new caller call
  pub silent : (number : ℕ) (told : Answer) → WasTold new n number told → goes.marks ≡ []

-- and its answer may be marked in the same hold
pub record CallIsOver {S V : Type 0} (n most : ℕ) (old new : View S V) (caller : CallerView) (call : CallView) : Type 0 where
  pub goes : CallGoesOn n most old new caller call
  pub may_end : (rounds : ℕ) (told : Answer) → MayAdd (goes.marks ++ Ended n caller.number rounds told ∷ [])

pub over_where_told : {S V : Type 0} (n most : ℕ) (old new : View S V) (caller : CallerView) (call : CallView) (number : ℕ) (told : Answer) → SilentGoesOn n most old new caller call → WasTold new n number told → CallIsOver n most old new caller call
over_where_told n most old new caller call number told by was = record {
  goes = by.goes;
  may_end = λ rounds answer_. subst (λ (l : List Mark). MayAdd (l ++ Ended n caller.number rounds answer_ ∷ [])) (sym (by.silent number told was)) (tt, tt);
}

-- what the caller was told is what its call says
pub told_in : {S V : Type 0} (view : View S V) (n number : ℕ) (told : Answer) → WasTold view n number told → (caller : CallerView) (call : CallView) → IsAt view.callers n caller → caller.call ≡ Some call → call.told ≡ Some told
told_in view n number told was caller call at is = ap (λ (c : CallView). c.told) (some_is (sym is ∙ ap (λ (c : CallerView). c.call) (at_one view.callers n at was.at_caller) ∙ was.is_open)) ∙ was.told

same_caller : (caller : CallerView) (call : CallView) → caller.call ≡ Some call → caller ≡ record caller { call = Some call }
same_caller caller call is = ap (λ (o : Option CallView). record caller { call = o }) is

-- the caller's call alone changes, and its desk may
acts_set : {S V : Type 0} (n : ℕ) (old new : View S V) (next : CallerView) (marks : List Mark) → new.last_proposer ≡ old.last_proposer → SparesRounds n old.desks new.desks → new.callers ≡ slice_set old.callers n next → new.council ≡ old.council → new.marks ≡ old.marks ++ marks → Acts n old new marks
acts_set n old new next marks last_proposer desks callers council made = record { last_proposer = last_proposer; desks = desks; callers = spares_set n old.callers new.callers next callers; council = council; made = made }

goes_on_set : {S V : Type 0} (n most : ℕ) (old new : View S V) (caller : CallerView) (call next : CallView) (marks : List Mark) → IsAt old.callers n caller → new.last_proposer ≡ old.last_proposer → SparesRounds n old.desks new.desks
    → new.callers ≡ slice_set old.callers n (record caller { call = Some next }) → new.council ≡ old.council → new.marks ≡ old.marks ++ marks → Fine n caller.number most marks → next.key ≡ call.key → next.program ≡ call.program → next.rounds ≡ call.rounds
    → next.is_closed ≡ call.is_closed → ((desk : DeskView V) → IsAt new.desks n desk → IsSome desk.round → told_conflict next.told ≡ false) → CallGoesOn n most old new caller call
goes_on_set {S} {V} n most old new caller call next marks at last_proposer desks callers council made fine key program rounds closed told = record {
  next = next;
  marks = marks;
  acts = acts_set n old new (record caller { call = Some next }) marks last_proposer desks callers council made;
  fine = fine;
  at_next = subst (λ (l : List CallerView). IsAt l n (record caller { call = Some next })) (sym callers) (at_set old.callers n caller (record caller { call = Some next }) at);
  key = key;
  program = program;
  rounds = rounds;
  closed = λ open_. closed ∙ open_;
  told = λ desk at_desk some unmet. told desk at_desk some;
}

pub desks_same : {S V : Type 0} (n : ℕ) (old new : View S V) → new.desks ≡ old.desks → SparesRounds n old.desks new.desks
desks_same n old new same = spares_rounds n old.desks new.desks (spares_same n old.desks new.desks same)

pub desks_set : {S V : Type 0} (n : ℕ) (old new : View S V) (now : DeskView V) → new.desks ≡ slice_set old.desks n now → SparesRounds n old.desks new.desks
desks_set n old new now same = spares_rounds n old.desks new.desks (spares_set n old.desks new.desks now same)

-- a turn of its first frame
pub turn_goes_on : {S V : Type 0} (m : Meaning S V) (n : ℕ) (v : Verdict) (old new : View S V) (by : StepTurn m old n v new) → CallGoesOn n (harm_by v) old new by.of_call.caller by.of_call.call
turn_goes_on {S} {V} m n v old new by = in_turn by.of_call by.front by.turn
  where
    -- the harm is marked unless one of that acceptor was
    harmed : (at : OpenCallAt old n) (acceptor : ℕ) (down : Bool) → SparesRounds n old.desks new.desks → new.last_proposer ≡ old.last_proposer → new.council ≡ old.council
        → new.callers ≡ slice_set old.callers n (record at.caller { call = Some (frames.harmed_by at.call acceptor) }) → new.marks ≡ old.marks ++ frames.harms_marked n at.caller.number at.call acceptor down
        → losses (Harmed n at.caller.number down ∷ []) ≤ harm_by v → CallGoesOn n (harm_by v) old new at.caller at.call
    harmed at acceptor down spares last_proposer council callers made few =
        goes_on_set n (harm_by v) old new at.caller at.call (frames.harmed_by at.call acceptor) (frames.harms_marked n at.caller.number at.call acceptor down) at.at_caller last_proposer spares callers council made
        (by_member (has_member at.call.harmed acceptor)) refl refl refl refl (λ desk at_desk some. refl)
      where
        by_member : (b : Bool) → Fine n at.caller.number (harm_by v) (if b then [] else Harmed n at.caller.number down ∷ [])
        by_member true = fine_none n at.caller.number (harm_by v)
        by_member false = fine_harm n at.caller.number (harm_by v) down few

    in_turn : (at : OpenCallAt old n) (front : Message) → frames.TakesTurn m old n v front at.caller at.call new → CallGoesOn n (harm_by v) old new at.caller at.call
    in_turn at front (frames.held fall same) = record {
      next = at.call;
      marks = [];
      acts = record { last_proposer = ap (λ (w : View S V). w.last_proposer) same; desks = desks_same n old new (ap (λ (w : View S V). w.desks) same); callers = spares_same n old.callers new.callers (ap (λ (w : View S V). w.callers) same); council = ap (λ (w : View S V). w.council) same; made = ap (λ (w : View S V). w.marks) same ∙ sym (append-nil old.marks) };
      fine = fine_none n at.caller.number (harm_by v);
      at_next = subst (λ (w : View S V). IsAt w.callers n (record at.caller { call = Some at.call })) (sym same) (subst (λ (c : CallerView). IsAt old.callers n c) (same_caller at.caller at.call at.is_open) at.at_caller);
      key = refl;
      program = refl;
      rounds = refl;
      closed = λ open_. open_;
      told = λ desk at_desk some unmet. unmet;
    }
    in_turn at front (frames.gone fall same) =
        harmed at _ false (desks_same n old new (ap (λ (w : View S V). w.desks) same)) (ap (λ (w : View S V). w.last_proposer) same) (ap (λ (w : View S V). w.council) same) (ap (λ (w : View S V). w.callers) same) (ap (λ (w : View S V). w.marks) same)
        (let some : 1 ≤ harm_by v = gone_harms (queue_at old.flow n).again v fall in omega (arith, some))
    in_turn at front (frames.answers request acceptor now reply fall is there table same) =
        goes_on_set n (harm_by v) old new at.caller at.call (frames.marking at.call (length (frames.votes_marked request reply))) (frames.votes_marked request reply) at.at_caller (ap (λ (w : View S V). w.last_proposer) same) (desks_same n old new (ap (λ (w : View S V). w.desks) same))
        (ap (λ (w : View S V). w.callers) same) (ap (λ (w : View S V). w.council) same) (ap (λ (w : View S V). w.marks) same) (fine_votes n at.caller.number (harm_by v) request reply) refl refl refl refl (λ desk_ at_desk some. refl)
    in_turn at front (frames.finds_down request acceptor fall is there down same) =
        harmed at _ true (desks_same n old new (ap (λ (w : View S V). w.desks) same)) (ap (λ (w : View S V). w.last_proposer) same) (ap (λ (w : View S V). w.council) same) (ap (λ (w : View S V). w.callers) same) (ap (λ (w : View S V). w.marks) same) (omega arith)
    in_turn at front (frames.brings_down request acceptor now fall is there stops same) =
        harmed at _ true (desks_same n old new (ap (λ (w : View S V). w.desks) same)) (ap (λ (w : View S V). w.last_proposer) same) (ap (λ (w : View S V). w.council) same) (ap (λ (w : View S V). w.callers) same) (ap (λ (w : View S V). w.marks) same) (omega arith)
    in_turn at front (frames.arrives reply desk now round heard fall is there is_round hears same) =
        goes_on_set n (harm_by v) old new at.caller at.call (frames.silent at.call) [] at.at_caller (ap (λ (w : View S V). w.last_proposer) same) (desks_set n old new now (ap (λ (w : View S V). w.desks) same))
        (ap (λ (w : View S V). w.callers) same) (ap (λ (w : View S V). w.council) same) (ap (λ (w : View S V). w.marks) same ∙ sym (append-nil old.marks)) (fine_none n at.caller.number (harm_by v)) refl refl refl refl (λ desk_ at_desk some. refl)

-- no memory was found for it
pub refused_turn_goes_on : {S V : Type 0} (m : Meaning S V) (n most : ℕ) (old new : View S V) (by : StepRefuseTurn m old n new) → SilentGoesOn n most old new by.of_call.caller by.of_call.call
unfolding goes_on_set
refused_turn_goes_on {S} {V} m n most old new by = in_case by.middle by.refuses by.view
  where
    at : OpenCallAt old n
    at = by.of_call

    next : CallView
    next = calls.telling at.call (answer.NoMemory (is_some at.call.proposed))

    in_case : (middle : View S V) → frames.FindsNoRoom m old middle → new ≡ calls.with_call middle n at.caller next → SilentGoesOn n most old new at.caller at.call
    in_case middle (frames.stays stays_) same = record {
      silent = λ number told was. refl;
      goes = goes_on_set n most old new at.caller at.call next [] at.at_caller
          (ap (λ (w : View S V). w.last_proposer) same ∙ ap (λ (w : View S V). w.last_proposer) stays_) (desks_same n old new (ap (λ (w : View S V). w.desks) same ∙ ap (λ (w : View S V). w.desks) stays_))
          (ap (λ (w : View S V). w.callers) same ∙ ap (λ (w : View S V). slice_set w.callers n (record at.caller { call = Some next })) stays_) (ap (λ (w : View S V). w.council) same ∙ ap (λ (w : View S V). w.council) stays_)
          (ap (λ (w : View S V). w.marks) same ∙ ap (λ (w : View S V). w.marks) stays_ ∙ sym (append-nil old.marks)) (fine_none n at.caller.number most) refl refl refl refl (λ desk at_desk some. refl);
    }
    in_case middle (frames.kept id acceptor now there finds kept_) same = record {
      silent = λ number told was. refl;
      goes = goes_on_set n most old new at.caller at.call next [] at.at_caller
          (ap (λ (w : View S V). w.last_proposer) same ∙ ap (λ (w : View S V). w.last_proposer) kept_) (desks_same n old new (ap (λ (w : View S V). w.desks) same ∙ ap (λ (w : View S V). w.desks) kept_))
          (ap (λ (w : View S V). w.callers) same ∙ ap (λ (w : View S V). slice_set w.callers n (record at.caller { call = Some next })) kept_) (ap (λ (w : View S V). w.council) same ∙ ap (λ (w : View S V). w.council) kept_)
          (ap (λ (w : View S V). w.marks) same ∙ ap (λ (w : View S V). w.marks) kept_ ∙ sym (append-nil old.marks)) (fine_none n at.caller.number most) refl refl refl refl (λ desk at_desk some. refl);
    }

-- the end of its prepare phase
pub propose_goes_on : {S V : Type 0} (m : Meaning S V) (n most : ℕ) (old new : View S V) (by : StepPropose m old n new) → SilentGoesOn n most old new by.at_round.of_call.caller by.at_round.of_call.call
unfolding goes_on_set
propose_goes_on {S} {V} m n most old new by = in_phase by.at_round.of_call by.at_round.desk by.at_round.at_desk by.at_round.round by.proposes
  where
    over : (at : OpenCallAt old n) (now : DeskView V) (told : Answer) → ((desk : DeskView V) → IsAt new.desks n desk → IsSome desk.round → told_conflict (Some told) ≡ false) → new ≡ calls.with_call (record old { desks = slice_set old.desks n now }) n at.caller (calls.over at.call told) → SilentGoesOn n most old new at.caller at.call
    over at now told tells same = record {
      silent = λ number answer_ was. refl;
      goes = goes_on_set n most old new at.caller at.call (calls.over at.call told) [] at.at_caller (ap (λ (w : View S V). w.last_proposer) same) (desks_set n old new now (ap (λ (w : View S V). w.desks) same))
          (ap (λ (w : View S V). w.callers) same) (ap (λ (w : View S V). w.council) same) (ap (λ (w : View S V). w.marks) same ∙ sym (append-nil old.marks)) (fine_none n at.caller.number most) refl refl refl refl tells;
    }

    in_phase : (at : OpenCallAt old n) (desk : DeskView V) → IsAt old.desks n desk → (round : Round) → calls.ProposesOrEnds m old n desk round at.caller at.call new → SilentGoesOn n most old new at.caller at.call
    in_phase at desk there round (calls.proposes now turned read by_ ride outcome flow quorum confirmers reads turns made sends same) =
        record {
          silent = λ number told was. absurd (cc (told_in new n number told was _ (calls.proposing at.call outcome) (subst (λ (w : View S V). IsAt w.callers n (record at.caller { call = Some (calls.proposing at.call outcome) })) (sym same) (at_set old.callers n at.caller _ at.at_caller)) refl));
          goes = goes_on_set n most old new at.caller at.call (calls.proposing at.call outcome) (Proposed (calls.proposal_of n at.caller.number round _ by_) ∷ []) at.at_caller (ap (λ (w : View S V). w.last_proposer) same) (desks_set n old new now (ap (λ (w : View S V). w.desks) same))
              (ap (λ (w : View S V). w.callers) same) (ap (λ (w : View S V). w.council) same) (ap (λ (w : View S V). w.marks) same) (fine_proposal n at.caller.number most _ refl refl) refl refl refl refl (λ desk_ at_desk some. refl);
        }
    in_phase at desk there round (calls.ends now v told is refuses ends same) =
        let there_now : IsAt new.desks n now = subst (λ (w : View S V). IsAt w.desks n now) (sym same) (at_set old.desks n desk now there) in
        over at now told (λ one at_one_ some. absurd (cc (subst (λ (d : DeskView V). IsSome d.round) (at_one new.desks n at_one_ there_now) some, ap (λ (d : DeskView V). d.round) ends.desk))) same
    in_phase at desk there round (calls.fails now fails same) = over at now answer.VaultFault (λ one at_one_ some. refl) same
    in_phase at desk there round (calls.loses now ballot loses same) = over at now (answer.NoMemory false) (λ one at_one_ some. refl) same

-- a call that is set so was told no conflict
set_unmet : {S V : Type 0} (n : ℕ) (old new : View S V) (caller : CallerView) (next : CallView) → IsAt old.callers n caller → new.callers ≡ slice_set old.callers n (record caller { call = Some next }) → told_conflict next.told ≡ false
    → (one : CallerView) (call : CallView) → IsAt new.callers n one → one.call ≡ Some call → told_conflict call.told ≡ false
set_unmet {S} {V} n old new caller next at callers unmet one call at_one_ is =
    let at_next : IsAt new.callers n (record caller { call = Some next }) = subst (λ (l : List CallerView). IsAt l n (record caller { call = Some next })) (sym callers) (at_set old.callers n caller (record caller { call = Some next }) at) in
    let same : next ≡ call = some_is (ap (λ (c : CallerView). c.call) (at_one new.callers n at_next at_one_) ∙ is) in
    subst (λ (c : CallView). told_conflict c.told ≡ false) same unmet

-- the end of its accept phase
pub count_is_over : {S V : Type 0} (m : Meaning S V) (n most : ℕ) (old new : View S V) (by : StepCount m old n new) → CallIsOver n most old new by.at_round.of_call.caller by.at_round.of_call.call
unfolding goes_on_set
count_is_over {S} {V} m n most old new by = in_phase by.at_round.of_call by.at_round.desk by.at_round.round by.counts
  where
    in_phase : (at : OpenCallAt old n) (desk : DeskView V) (round : Round) → calls.CountsOrEnds m old n desk round at.caller at.call new → CallIsOver n most old new at.caller at.call
    in_phase at desk round (calls.counts now by_ outcome quorum confirmers proposed ends same) =
        record {
          may_end = λ rounds told. (tt, (tt, tt));
          goes = goes_on_set n most old new at.caller at.call (calls.over at.call _) (Acked _ ∷ []) at.at_caller (ap (λ (w : View S V). w.last_proposer) same) (desks_set n old new now (ap (λ (w : View S V). w.desks) same))
              (ap (λ (w : View S V). w.callers) same) (ap (λ (w : View S V). w.council) same) (ap (λ (w : View S V). w.marks) same) (fine_ack n at.caller.number most _) refl refl refl refl (λ desk_ at_desk some. refl);
        }
    in_phase at desk round (calls.ends now v why is cause ends same) =
        record {
          may_end = λ rounds told. (tt, tt);
          goes = goes_on_set n most old new at.caller at.call (calls.over at.call (answer.Unsettled why)) [] at.at_caller (ap (λ (w : View S V). w.last_proposer) same) (desks_set n old new now (ap (λ (w : View S V). w.desks) same))
              (ap (λ (w : View S V). w.callers) same) (ap (λ (w : View S V). w.council) same) (ap (λ (w : View S V). w.marks) same ∙ sym (append-nil old.marks)) (fine_none n at.caller.number most) refl refl refl refl (λ desk_ at_desk some. refl);
        }

-- which is told no conflict
pub count_unmet : {S V : Type 0} (m : Meaning S V) (n : ℕ) (old new : View S V) → StepCount m old n new → (one : CallerView) (now : CallView) → IsAt new.callers n one → one.call ≡ Some now → told_conflict now.told ≡ false
count_unmet {S} {V} m n old new by = in_phase by.at_round.of_call by.at_round.desk by.at_round.round by.counts
  where
    in_phase : (at : OpenCallAt old n) (desk : DeskView V) (round : Round) → calls.CountsOrEnds m old n desk round at.caller at.call new → (one : CallerView) (now : CallView) → IsAt new.callers n one → one.call ≡ Some now → told_conflict now.told ≡ false
    in_phase at desk round (calls.counts now by_ outcome quorum confirmers proposed ends same) = set_unmet n old new at.caller (calls.over at.call _) at.at_caller (ap (λ (w : View S V). w.callers) same) refl
    in_phase at desk round (calls.ends now v why is cause ends same) = set_unmet n old new at.caller (calls.over at.call (answer.Unsettled why)) at.at_caller (ap (λ (w : View S V). w.callers) same) refl

-- ---- a call ends
-- where the operator has no call open this is no step of it, nor where it is not caller 0's
pub quiet_rescans : (id : ℕ) (old new : Council) (key : List ℕ) (told : Answer) → (id ≡ 0 → old.order ≡ None) → calls.Rescans old id key told new → new ≡ old
quiet_rescans id old new key told quiet (calls.rescans of done same) = absurd (cc (sym (quiet of.by_operator) ∙ of.is_open))
quiet_rescans id old new key told quiet (calls.stops of not_done same) = absurd (cc (sym (quiet of.by_operator) ∙ of.is_open))
quiet_rescans id old new key told quiet (calls.is_none none same) = same

-- no exchange begins or ends by it
pub rescans_unasked : (id : ℕ) (old new : Council) (key : List ℕ) (told : Answer) → calls.Rescans old id key told new → new.exchange ≡ old.exchange
rescans_unasked id old new key told (calls.rescans of done same) = ap (λ (k : Council). k.exchange) same
rescans_unasked id old new key told (calls.stops of not_done same) = ap (λ (k : Council). k.exchange) same
rescans_unasked id old new key told (calls.is_none none same) = ap (λ (k : Council). k.exchange) same

pub record CallEnds {S V : Type 0} (n : ℕ) (old new : View S V) (caller : CallerView) (call : CallView) (told : Answer) : Type 0 where
  pub acts : Acts n (record old { council = new.council }) new (Ended n caller.number call.rounds told ∷ [])
  pub rescans : calls.Rescans old.council n call.key told new.council
  pub at_next : IsAt new.callers n (record caller { call = None })

pub end_ends : {S V : Type 0} (m : Meaning S V) (n : ℕ) (told : Answer) (old new : View S V) (by : StepEnd m old n told new) → CallEnds n old new by.of_call.caller by.of_call.call told
end_ends {S} {V} m n told old new by = record {
  acts = acts_set n (record old { council = new.council }) new (record by.of_call.caller { call = None }) _ (ap (λ (w : View S V). w.last_proposer) by.ends.view) (desks_set n (record old { council = new.council }) new by.ends.now (ap (λ (w : View S V). w.desks) by.ends.view)) (ap (λ (w : View S V). w.callers) by.ends.view)
      refl (ap (λ (w : View S V). w.marks) by.ends.view);
  rescans = subst (calls.Rescans old.council n by.of_call.call.key told) (sym (ap (λ (w : View S V). w.council) by.ends.view)) by.ends.rescans;
  at_next = subst (λ (w : View S V). IsAt w.callers n (record by.of_call.caller { call = None })) (sym by.ends.view) (at_set old.callers n by.of_call.caller (record by.of_call.caller { call = None }) by.of_call.at_caller);
}

-- ---- late frames
-- All that callers have open stays, whoever lets a late frame in.
pub record LetsInLate {S V : Type 0} (old new : View S V) : Type 0 where
  pub marks : List Mark
  pub last_proposer : new.last_proposer ≡ old.last_proposer
  pub places : length new.desks ≡ length old.desks
  pub rounds : (p : ℕ) → has_round (slice_get new.desks p) ≡ has_round (slice_get old.desks p)
  pub callers : new.callers ≡ old.callers
  pub council : new.council ≡ old.council
  pub made : new.marks ≡ old.marks ++ marks
  pub fine : (n call most : ℕ) → Fine n call most marks

lets_in_same : {S V : Type 0} (old new : View S V) (marks : List Mark) → new.last_proposer ≡ old.last_proposer → new.desks ≡ old.desks → new.callers ≡ old.callers → new.council ≡ old.council → new.marks ≡ old.marks ++ marks → ((n call most : ℕ) → Fine n call most marks) → LetsInLate old new
lets_in_same {S} {V} old new marks last_proposer desks callers council made fine = record {
  marks = marks;
  last_proposer = last_proposer;
  places = ap (λ (l : List (DeskView V)). length l) desks;
  rounds = λ p. ap (λ (l : List (DeskView V)). has_round (slice_get l p)) desks;
  callers = callers;
  council = council;
  made = made;
  fine = fine;
}

pub stray_lets_in : {S V : Type 0} (m : Meaning S V) (index : ℕ) (old new : View S V) → StepStray m old index new → LetsInLate old new
stray_lets_in {S} {V} m index old new by = by_late by.late by.strays
  where
    none_made : new.marks ≡ old.marks → new.marks ≡ old.marks ++ []
    none_made same = same ∙ sym (append-nil old.marks)

    by_late : (late : Message) → frames.Strays m old index late new → LetsInLate old new
    by_late late (frames.answers request acceptor now reply is there table same) =
        lets_in_same old new (frames.votes_marked request reply) (ap (λ (w : View S V). w.last_proposer) same) (ap (λ (w : View S V). w.desks) same) (ap (λ (w : View S V). w.callers) same) (ap (λ (w : View S V). w.council) same) (ap (λ (w : View S V). w.marks) same)
        (λ n call most. fine_votes n call most request reply)
    by_late late (frames.brings_down request acceptor now is there stops same) =
        lets_in_same old new [] (ap (λ (w : View S V). w.last_proposer) same) (ap (λ (w : View S V). w.desks) same) (ap (λ (w : View S V). w.callers) same) (ap (λ (w : View S V). w.council) same) (none_made (ap (λ (w : View S V). w.marks) same)) (λ n call most. fine_none n call most)
    by_late late (frames.drops ignored same) =
        lets_in_same old new [] (ap (λ (w : View S V). w.last_proposer) same) (ap (λ (w : View S V). w.desks) same) (ap (λ (w : View S V). w.callers) same) (ap (λ (w : View S V). w.council) same) (none_made (ap (λ (w : View S V). w.marks) same)) (λ n call most. fine_none n call most)
    by_late late (frames.arrives reply desk now round heard is there is_round hears same) = record {
      marks = [];
      last_proposer = ap (λ (w : View S V). w.last_proposer) same;
      places = ap (λ (w : View S V). length w.desks) same ∙ length-set old.desks reply.to now;
      rounds = λ p. ap (λ (w : View S V). has_round (slice_get w.desks p)) same
          ∙ round_set old.desks reply.to now desk there (ap (λ (d : DeskView V). is_some d.round) hears.desk ∙ sym (ap (λ (o : Option Round). is_some o) is_round)) p;
      callers = ap (λ (w : View S V). w.callers) same;
      council = ap (λ (w : View S V). w.council) same;
      made = none_made (ap (λ (w : View S V). w.marks) same);
      fine = λ n call most. fine_none n call most;
    }

pub refused_stray_lets_in : {S V : Type 0} (m : Meaning S V) (old new : View S V) → frames.FindsNoRoom m old new → LetsInLate old new
refused_stray_lets_in {S} {V} m old new (frames.stays same) =
    lets_in_same old new [] (ap (λ (w : View S V). w.last_proposer) same) (ap (λ (w : View S V). w.desks) same) (ap (λ (w : View S V). w.callers) same) (ap (λ (w : View S V). w.council) same) (ap (λ (w : View S V). w.marks) same ∙ sym (append-nil old.marks)) (λ n call most. fine_none n call most)
refused_stray_lets_in {S} {V} m old new (frames.kept id acceptor now there finds same) =
    lets_in_same old new [] (ap (λ (w : View S V). w.last_proposer) same) (ap (λ (w : View S V). w.desks) same) (ap (λ (w : View S V). w.callers) same) (ap (λ (w : View S V). w.council) same) (ap (λ (w : View S V). w.marks) same ∙ sym (append-nil old.marks)) (λ n call most. fine_none n call most)

-- ---- a round begins
-- no conflict keeps it from beginning
none_begun : (told : Answer) → calls.IsNoBeginning told → is_conflict told ≡ false
none_begun (answer.Conflict met) none = absurd none
none_begun (answer.Done state took ballot) none = refl
none_begun (answer.Aged least) none = refl
none_begun (answer.Full acceptor) none = refl
none_begun (answer.Short got need) none = refl
none_begun (answer.Moved era) none = refl
none_begun answer.Crashed none = refl
none_begun (answer.Unsettled why) none = refl
none_begun answer.Down none = refl
none_begun answer.VaultFault none = refl
none_begun answer.Spent none = refl
none_begun answer.RecordFull none = refl
none_begun (answer.NoMemory proposed) none = refl

begins_goes_on : {S V : Type 0} (m : Meaning S V) (n most : ℕ) (old new : View S V) (caller : CallerView) (call : CallView) → IsAt old.callers n caller → caller.call ≡ Some call → calls.BeginsRound m old n caller call new → SilentGoesOn n most old new caller call
unfolding goes_on_set
begins_goes_on {S} {V} m n most old new caller call at is (calls.prepares desk now ballot round flow at_desk up few begins sends same) = record {
  goes = record {
    next = call;
    marks = [];
    acts = record { last_proposer = ap (λ (w : View S V). w.last_proposer) same; desks = desks_set n old new now (ap (λ (w : View S V). w.desks) same); callers = spares_same n old.callers new.callers (ap (λ (w : View S V). w.callers) same); council = ap (λ (w : View S V). w.council) same; made = ap (λ (w : View S V). w.marks) same ∙ sym (append-nil old.marks) };
    fine = fine_none n caller.number most;
    at_next = subst (λ (w : View S V). IsAt w.callers n (record caller { call = Some call })) (sym same) (subst (λ (c : CallerView). IsAt old.callers n c) (same_caller caller call is) at);
    key = refl;
    program = refl;
    rounds = refl;
    closed = λ open_. open_;
    told = λ desk_ at_desk_ some unmet. unmet;
  };
  silent = λ number told was. refl;
}
begins_goes_on {S} {V} m n most old new caller call at is (calls.proposes desk now ready ride round outcome flow at_desk up few begins made sends same) =
    let goes : CallGoesOn n most old new caller call = goes_on_set n most old new caller call (calls.proposing call outcome) (Proposed (calls.proposal_of n caller.number round ready.read ready.by) ∷ []) at (ap (λ (w : View S V). w.last_proposer) same) (desks_set n old new now (ap (λ (w : View S V). w.desks) same))
    (ap (λ (w : View S V). w.callers) same) (ap (λ (w : View S V). w.council) same) (ap (λ (w : View S V). w.marks) same) (fine_proposal n caller.number most _ refl refl) refl refl refl refl (λ desk_ at_desk_ some. refl) in
    record { goes = goes; silent = λ number told was. absurd (cc (told_in new n number told was _ (calls.proposing call outcome) (subst (λ (w : View S V). IsAt w.callers n (record caller { call = Some (calls.proposing call outcome) })) (sym same) (at_set old.callers n caller _ at)) refl)) }
begins_goes_on {S} {V} m n most old new caller call at is (calls.stays told none no_round full same) = record {
  goes = goes_on_set n most old new caller call (calls.over call told) [] at (ap (λ (w : View S V). w.last_proposer) same) (desks_same n old new (ap (λ (w : View S V). w.desks) same)) (ap (λ (w : View S V). w.callers) same) (ap (λ (w : View S V). w.council) same)
      (ap (λ (w : View S V). w.marks) same ∙ sym (append-nil old.marks)) (fine_none n caller.number most) refl refl refl refl (λ desk at_desk some. none_begun told none);
  silent = λ number told was. refl;
}
begins_goes_on {S} {V} m n most old new caller call at is (calls.spent desk now at_desk none up no_promise spent kept is_now same) = record {
  goes = goes_on_set n most old new caller call (calls.over call answer.Spent) [] at (ap (λ (w : View S V). w.last_proposer) same) (desks_set n old new now (ap (λ (w : View S V). w.desks) same)) (ap (λ (w : View S V). w.callers) same) (ap (λ (w : View S V). w.council) same)
      (ap (λ (w : View S V). w.marks) same ∙ sym (append-nil old.marks)) (fine_none n caller.number most) refl refl refl refl (λ desk_ at_desk_ some. refl);
  silent = λ number told was. refl;
}
begins_goes_on {S} {V} m n most old new caller call at is (calls.fails desk now at_desk none up fails same) = record {
  goes = goes_on_set n most old new caller call (calls.over call answer.VaultFault) [] at (ap (λ (w : View S V). w.last_proposer) same) (desks_set n old new now (ap (λ (w : View S V). w.desks) same)) (ap (λ (w : View S V). w.callers) same) (ap (λ (w : View S V). w.council) same)
      (ap (λ (w : View S V). w.marks) same ∙ sym (append-nil old.marks)) (fine_none n caller.number most) refl refl refl refl (λ desk_ at_desk_ some. refl);
  silent = λ number told was. refl;
}
begins_goes_on {S} {V} m n most old new caller call at is (calls.loses desk now ballot at_desk none up loses same) = record {
  goes = goes_on_set n most old new caller call (calls.over call (answer.NoMemory false)) [] at (ap (λ (w : View S V). w.last_proposer) same) (desks_set n old new now (ap (λ (w : View S V). w.desks) same)) (ap (λ (w : View S V). w.callers) same) (ap (λ (w : View S V). w.council) same)
      (ap (λ (w : View S V). w.marks) same ∙ sym (append-nil old.marks)) (fine_none n caller.number most) refl refl refl refl (λ desk_ at_desk_ some. refl);
  silent = λ number told was. refl;
}

-- it is told no conflict then
begins_unmet : {S V : Type 0} (m : Meaning S V) (n : ℕ) (old new : View S V) (caller : CallerView) (call : CallView) → IsAt old.callers n caller → caller.call ≡ Some call → calls.BeginsRound m old n caller call new → told_conflict call.told ≡ false
    → (one : CallerView) (now : CallView) → IsAt new.callers n one → one.call ≡ Some now → told_conflict now.told ≡ false
begins_unmet {S} {V} m n old new caller call at is (calls.prepares desk now ballot round flow at_desk up few begins sends same) unmet one now_ at_one_ is_now =
    let same_caller_ : caller ≡ one = at_one old.callers n at (subst (λ (l : List CallerView). IsAt l n one) (ap (λ (w : View S V). w.callers) same) at_one_) in
    subst (λ (c : CallView). told_conflict c.told ≡ false) (some_is (sym is ∙ ap (λ (c : CallerView). c.call) same_caller_ ∙ is_now)) unmet
begins_unmet {S} {V} m n old new caller call at is (calls.proposes desk now ready ride round outcome flow at_desk up few begins made sends same) unmet one now_ at_one_ is_one = set_unmet n old new caller (calls.proposing call outcome) at (ap (λ (w : View S V). w.callers) same) refl one now_ at_one_ is_one
begins_unmet {S} {V} m n old new caller call at is (calls.stays told none no_round full same) unmet one now_ at_one_ is_one = set_unmet n old new caller (calls.over call told) at (ap (λ (w : View S V). w.callers) same) (none_begun told none) one now_ at_one_ is_one
begins_unmet {S} {V} m n old new caller call at is (calls.spent desk now at_desk none up no_promise spent kept is_now same) unmet one now_ at_one_ is_one = set_unmet n old new caller (calls.over call answer.Spent) at (ap (λ (w : View S V). w.callers) same) refl one now_ at_one_ is_one
begins_unmet {S} {V} m n old new caller call at is (calls.fails desk now at_desk none up fails same) unmet one now_ at_one_ is_one = set_unmet n old new caller (calls.over call answer.VaultFault) at (ap (λ (w : View S V). w.callers) same) refl one now_ at_one_ is_one
begins_unmet {S} {V} m n old new caller call at is (calls.loses desk now ballot at_desk none up loses same) unmet one now_ at_one_ is_one = set_unmet n old new caller (calls.over call (answer.NoMemory false)) at (ap (λ (w : View S V). w.callers) same) refl one now_ at_one_ is_one

-- a call begins, with its mark
pub record CallBegins {S V : Type 0} (n most : ℕ) (old new : View S V) (number : ℕ) (key : List ℕ) (program : List Clause) : Type 0 where
  pub next : CallView
  pub more : List Mark
  pub acts : Acts n old new (Begun n number key program ∷ more)
  pub fine : Fine n number most more
  pub at_next : IsAt new.callers n (record { number = number; call = Some next })
  pub key_is : next.key ≡ key
  pub program_is : next.program ≡ program
  pub rounds_is : next.rounds ≡ 1
  pub closed : next.is_closed ≡ false
  pub told : (desk : DeskView V) → IsAt new.desks n desk → IsSome desk.round → told_conflict next.told ≡ false
  pub unmet : told_conflict next.told ≡ false
  pub silent : (k : ℕ) (told : Answer) → WasTold new n k told → more ≡ []

pub first_begins : {S V : Type 0} (m : Meaning S V) (n most : ℕ) (key : List ℕ) (program : List Clause) (old new : View S V) (caller : CallerView) → IsAt old.callers n caller → caller.call ≡ None → StepBegin m old n key program new → CallBegins n most old new (suc caller.number) key program
first_begins {S} {V} m n most key program old new caller at none by = by_opens by.opens
  where
    by_opens : calls.Opens old n key program by.middle → CallBegins n most old new (suc caller.number) key program
    by_opens (calls.first was at_was is_none room same) =
        let one : was ≡ caller = at_one old.callers n at_was at in
        let made : CallView = new_call key program (calls.round_marks (era_at old n) - 1) in
        let first_ : CallerView = record { number = suc caller.number; call = Some made } in
        let callers : by.middle.callers ≡ slice_set old.callers n first_ = ap (λ (w : View S V). w.callers) same ∙ ap (λ (c : CallerView). slice_set old.callers n (record { number = suc c.number; call = Some made })) one in
        let at_first : IsAt by.middle.callers n first_ = subst (λ (l : List CallerView). IsAt l n first_) (sym callers) (at_set old.callers n caller first_ at) in
        let is_first : by.caller ≡ first_ = at_one by.middle.callers n by.at_caller at_first in
        let is_made : by.call ≡ made = some_is (sym by.is_open ∙ ap (λ (c : CallerView). c.call) is_first) in
        let opens : Acts n old by.middle (Begun n (suc caller.number) key program ∷ []) = acts_set n old by.middle first_ _ (ap (λ (w : View S V). w.last_proposer) same) (desks_same n old by.middle (ap (λ (w : View S V). w.desks) same)) callers (ap (λ (w : View S V). w.council) same)
        (ap (λ (w : View S V). w.marks) same ∙ ap (λ (c : CallerView). old.marks ++ Begun n (suc c.number) key program ∷ []) one) in
        let round = begins_goes_on m n most by.middle new by.caller by.call by.at_caller by.is_open by.begins in
        let goes = round.goes in
        record {
          next = goes.next;
          more = goes.marks;
          silent = round.silent;
          acts = acts_then n old by.middle new (Begun n (suc caller.number) key program ∷ []) goes.marks opens goes.acts;
          fine = subst (λ (k : ℕ). Fine n k most goes.marks) (ap (λ (c : CallerView). c.number) is_first) goes.fine;
          at_next = subst (λ (k : ℕ). IsAt new.callers n (record { number = k; call = Some goes.next })) (ap (λ (c : CallerView). c.number) is_first) goes.at_next;
          key_is = goes.key ∙ ap (λ (c : CallView). c.key) is_made;
          program_is = goes.program ∙ ap (λ (c : CallView). c.program) is_made;
          rounds_is = goes.rounds ∙ ap (λ (c : CallView). c.rounds) is_made;
          closed = goes.closed (ap (λ (c : CallView). c.is_closed) is_made);
          told = λ desk at_desk some. goes.told desk at_desk some (ap (λ (c : CallView). told_conflict c.told) is_made);
          unmet = begins_unmet m n by.middle new by.caller by.call by.at_caller by.is_open by.begins (ap (λ (c : CallView). told_conflict c.told) is_made) (record by.caller { call = Some goes.next }) goes.next goes.at_next refl;
        }
    by_opens (calls.again was open_call reserved at_was is_call key_is program_is none_ met no_round room some same) = absurd (cc (sym none ∙ ap (λ (c : CallerView). c.call) (at_one old.callers n at at_was) ∙ is_call))

-- Another round of it begins behind a conflict, for which so many marks are reserved.
pub record TriesAgain {S V : Type 0} (n most : ℕ) (old new : View S V) (caller : CallerView) (call : CallView) : Type 0 where
  pub reserved : ℕ
  pub met : calls.WasMet call.told
  pub round : SilentGoesOn n most old new caller (calls.tried_again call reserved)
  pub unmet : told_conflict round.goes.next.told ≡ false

pub again_goes_on : {S V : Type 0} (m : Meaning S V) (n most : ℕ) (key : List ℕ) (program : List Clause) (old new : View S V) (caller : CallerView) (call : CallView) → IsAt old.callers n caller → caller.call ≡ Some call → StepBegin m old n key program new → TriesAgain n most old new caller call
again_goes_on {S} {V} m n most key program old new caller call at is by = by_opens by.opens
  where
    by_opens : calls.Opens old n key program by.middle → TriesAgain n most old new caller call
    by_opens (calls.first was at_was is_none room same) = absurd (cc (sym is_none ∙ ap (λ (c : CallerView). c.call) (at_one old.callers n at_was at) ∙ is))
    by_opens (calls.again was open_call reserved at_was is_call key_is program_is none_ met no_round room some same) =
        let one : was ≡ caller = at_one old.callers n at_was at in
        let same_call : open_call ≡ call = some_is (sym is_call ∙ ap (λ (c : CallerView). c.call) one ∙ is) in
        let tried : CallView = calls.tried_again call reserved in
        let next_ : CallerView = record caller { call = Some tried } in
        let callers : by.middle.callers ≡ slice_set old.callers n next_ = ap (λ (w : View S V). w.callers) same ∙ ap₂ (λ (c : CallerView) (k : CallView). slice_set old.callers n (record c { call = Some (calls.tried_again k reserved) })) one same_call in
        let at_first : IsAt by.middle.callers n next_ = subst (λ (l : List CallerView). IsAt l n next_) (sym callers) (at_set old.callers n caller next_ at) in
        let is_first : by.caller ≡ next_ = at_one by.middle.callers n by.at_caller at_first in
        let is_tried : by.call ≡ tried = some_is (sym by.is_open ∙ ap (λ (c : CallerView). c.call) is_first) in
        let opens : Acts n old by.middle [] = acts_set n old by.middle next_ [] (ap (λ (w : View S V). w.last_proposer) same) (desks_same n old by.middle (ap (λ (w : View S V). w.desks) same)) callers (ap (λ (w : View S V). w.council) same)
        (ap (λ (w : View S V). w.marks) same ∙ sym (append-nil old.marks)) in
        let round = begins_goes_on m n most by.middle new by.caller by.call by.at_caller by.is_open by.begins in
        let goes = round.goes in
        record {
          reserved = reserved;
          met = subst (λ (c : CallView). calls.WasMet c.told) same_call met;
          unmet = begins_unmet m n by.middle new by.caller by.call by.at_caller by.is_open by.begins (ap (λ (c : CallView). told_conflict c.told) is_tried) (record by.caller { call = Some goes.next }) goes.next goes.at_next refl;
          round = record {
            silent = round.silent;
            goes = record {
              next = goes.next;
              marks = goes.marks;
              acts = acts_then n old by.middle new [] goes.marks opens goes.acts;
              fine = subst (λ (k : ℕ). Fine n k most goes.marks) (ap (λ (c : CallerView). c.number) is_first) goes.fine;
              at_next = subst (λ (k : ℕ). IsAt new.callers n (record { number = k; call = Some goes.next })) (ap (λ (c : CallerView). c.number) is_first) goes.at_next;
              key = goes.key ∙ ap (λ (c : CallView). c.key) is_tried;
              program = goes.program ∙ ap (λ (c : CallView). c.program) is_tried;
              rounds = goes.rounds ∙ ap (λ (c : CallView). c.rounds) is_tried;
              closed = λ open_. goes.closed (ap (λ (c : CallView). c.is_closed) is_tried ∙ open_);
              told = λ desk at_desk some unmet. goes.told desk at_desk some (ap (λ (c : CallView). told_conflict c.told) is_tried ∙ unmet);
            };
          };
        }

-- a call is not begun
pub refused_acts : {S V : Type 0} (m : Meaning S V) (n : ℕ) (key : List ℕ) (old new : View S V) → calls.RefusesCall m old n key new → Acts n (record old { council = new.council }) new [] × (new.callers ≡ old.callers)
refused_acts {S} {V} m n key old new (calls.stays told council refusal anew same) = (
  record {
    last_proposer = ap (λ (w : View S V). w.last_proposer) same;
    desks = desks_same n old new (ap (λ (w : View S V). w.desks) same);
    callers = spares_same n old.callers new.callers (ap (λ (w : View S V). w.callers) same);
    council = refl;
    made = ap (λ (w : View S V). w.marks) same ∙ sym (append-nil old.marks);
  },
  ap (λ (w : View S V). w.callers) same,
)
refused_acts {S} {V} m n key old new (calls.loses caller desk now ballot council at_caller at_desk no_round up loses anew same) = (
  record {
    last_proposer = ap (λ (w : View S V). w.last_proposer) same;
    desks = desks_set n old new now (ap (λ (w : View S V). w.desks) same);
    callers = spares_same n old.callers new.callers (ap (λ (w : View S V). w.callers) same);
    council = refl;
    made = ap (λ (w : View S V). w.marks) same ∙ sym (append-nil old.marks);
  },
  ap (λ (w : View S V). w.callers) same,
)
