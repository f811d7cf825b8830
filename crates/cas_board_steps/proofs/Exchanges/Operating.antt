-- What a hold does for a call of the operator, by what its calls on the world do.
use Rattle.std.proofs.Common.{◌≡◌, ◌≢◌, ◌≤◌, ℕ, zero, suc, Bool, true, false, if◌then◌else◌, List, [], ◌∷◌, ◌++◌, length, map, get_or, Option, None, Some, option_map, inl, inr, refl, sym, ap, ap₂, subst, ◌∙◌, append-nil, append_assoc, arith}
use Rattle.std.specs.Prelude.{◌⊎◌, ◌==◌, ◌||◌, ◌+◌, All, is_none, position, slice_set}
use Rattle.std.specs.Option.{option_map_or}
use Rattle.std.proofs.lemmas.List.Elements.{All-append, All-nil, All-cons}
use Rattle.std.proofs.lemmas.List.Quantifiers.{position-Some}
use Rattle.cas_ballot.specs.Members.{members_where, has_member, with_member}
use Rattle.cas_ballot.proofs.CountLemmas.{length-with_member-le}
use Rattle.cas_base.proofs.Bools.{and_left, or_cases, or_left}
use Rattle.cas_fate.specs.declared.fate.Verdict.{Verdict}
use Rattle.cas_flow.specs.Flow.{queue_at}
use Rattle.cas_proposer.specs.Desk.{DeskView}
use Rattle.cas_quorum.specs.declared.era.Era.{Era}
use Rattle.cas_record.proofs.Tests.{nat_same, nat_is}
use Rattle.cas_record.specs.declared.answer.Answer.TheVariants as answer
use Rattle.cas_record.specs.declared.mark.Mark.{Mark}
use Rattle.cas_record.specs.declared.mark.Mark.TheVariants.{Harmed, Told}
use Rattle.cas_record.specs.declared.operator.Asked.{Asked}
use Rattle.cas_record.specs.declared.operator.OpAnswer.{OpAnswer}
use Rattle.cas_record.specs.declared.operator.OpAnswer.TheVariants as op
use Rattle.cas_record.specs.declared.operator.Probe.{Probe as ProbeOf}
use Rattle.cas_record.specs.Logs.Happening.{marks_of}
use Rattle.cas_slot.specs.declared.message.Ask.{Ask}
use Rattle.cas_slot.specs.declared.message.Ask.TheVariants as ask
use Rattle.cas_slot.specs.declared.message.Reply.{Reply}
use Rattle.cas_slot.specs.declared.message.Request.{Request}
use Rattle.cas_slot.specs.declared.message.Tell.{Tell}
use Rattle.cas_slot.specs.declared.message.Tell.TheVariants as tell
use Rattle.cas_protocol.specs.Acceptors.{votes_of}
use Rattle.cas_model.specs.Council.{Council, Question, ExchangeView, OrderView, exchange_place, told_so}
use Rattle.cas_model.specs.Exchanges.Step as council
use Rattle.cas_model.specs.Exchanges.Step.{StepTell, StepTurnExchange, TurnsExchange, StepRefuseTurnExchange, SaysTheSame, told_marks, told_over, with_council, harm_marks, hears, awaits}
use Rattle.cas_model.specs.Frames.Step as frames
use Rattle.cas_model.specs.View.{Meaning, View, CallerView, IsAt}
use Rattle.cas_model.proofs.Places.{some_is}
use Rattle.cas_model.proofs.Frames.Harms.{members_count}
use Rattle.cas_model.proofs.Openings.Safe.{no_members}
use Rattle.cas_model.proofs.Safety.Parts.{at_low}
use Rattle.cas_turn.specs.Seen.{OnlyOwnedBy}
use Rattle.cas_world.specs.Exchanges.Exchange.{WasToldOrder}
use Rattle.cas_world.specs.Eras.Plans.{rescanned_of}
use Rattle.cas_board_steps.specs.Eras.Counting.{EntersEras, TellsCount}
use Rattle.cas_board_steps.specs.Calls.Changes.{harm_by}
use Rattle.cas_board_steps.specs.Kept.{IsKept, Makes}
use Rattle.cas_board_steps.specs.Mine.{mine, losses}
use Rattle.cas_board_steps.specs.Exchanges.Orders.{IsAskingHarm, OperatesIn, IsToldIn}
use Rattle.cas_board_steps.specs.Owners.{owner_of, MayAdd}
use Rattle.cas_board_steps.specs.OwnParts.{framed, asked_of, harms_part, reads_part, question_part, order_part, exchange_part, plan_part, collection_part, council_part, own_part}
use Rattle.cas_board_steps.proofs.Calls.Acts.{spares_same, spares_set, SparesRounds, spares_rounds, rounds_then, Acts, makes_of, kept_by}
use Rattle.cas_board_steps.proofs.Exchanges.Councils.{idle_free, own_is_council}
use Rattle.cas_board_steps.proofs.Calls.Events.{Fine, fine_none, fine_votes, fine_harm, gone_harms, only_one}
use Rattle.cas_board_steps.proofs.Fronts.{mine_own}
use Rattle.cas_board_steps.proofs.Calls.Holds.{Held}

-- ---- a call on the world that leaves all callers' calls
pub record LeavesOtherCalls {S V : Type 0} (old new : View S V) (marks : List Mark) : Type 0 where
  pub last_proposer : new.last_proposer ≡ old.last_proposer
  pub desks : SparesRounds 0 old.desks new.desks
  pub callers : new.callers ≡ old.callers
  pub made : new.marks ≡ old.marks ++ marks

pub leaves_then : {S V : Type 0} (a b c : View S V) (marks more : List Mark) → LeavesOtherCalls a b marks → LeavesOtherCalls b c more → LeavesOtherCalls a c (marks ++ more)
leaves_then a b c marks more first then_ = record {
  last_proposer = then_.last_proposer ∙ first.last_proposer;
  desks = rounds_then 0 a.desks b.desks c.desks first.desks then_.desks;
  callers = then_.callers ∙ first.callers;
  made = then_.made ∙ ap (λ (l : List Mark). l ++ more) first.made ∙ append_assoc a.marks marks more;
}

-- it is this one, in which callers and desks are as before but for that of proposer 0
pub leaves_desks : {S V : Type 0} (old changed new : View S V) (marks : List Mark) → new ≡ changed → changed.last_proposer ≡ old.last_proposer → changed.desks ≡ old.desks → changed.callers ≡ old.callers → changed.marks ≡ old.marks ++ marks → LeavesOtherCalls old new marks
leaves_desks {S} {V} old changed new marks is last_proposer desks callers made = subst (λ (w : View S V). LeavesOtherCalls old w marks) (sym is) (record { last_proposer = last_proposer; desks = spares_rounds 0 old.desks changed.desks (spares_same 0 old.desks changed.desks desks); callers = callers; made = made })

pub leaves_others : {S V : Type 0} (old changed new : View S V) (now : DeskView V) (marks : List Mark) → new ≡ changed → changed.last_proposer ≡ old.last_proposer → changed.desks ≡ slice_set old.desks 0 now → changed.callers ≡ old.callers → changed.marks ≡ old.marks ++ marks → LeavesOtherCalls old new marks
leaves_others {S} {V} old changed new now marks is last_proposer desks callers made = subst (λ (w : View S V). LeavesOtherCalls old w marks) (sym is) (record { last_proposer = last_proposer; desks = spares_rounds 0 old.desks changed.desks (spares_set 0 old.desks changed.desks now desks); callers = callers; made = made })

-- all but what the operator has under way changes as by a call of caller 0
acts_by : {S V : Type 0} (old new : View S V) (marks : List Mark) → LeavesOtherCalls old new marks → Acts 0 (record old { council = new.council }) new marks
acts_by old new marks leaves = record { last_proposer = leaves.last_proposer; desks = leaves.desks; callers = spares_same 0 old.callers new.callers leaves.callers; council = refl; made = leaves.made }

pub makes_by : {S V : Type 0} (old new : View S V) (marks : List Mark) → LeavesOtherCalls old new marks → MayAdd marks → OnlyOwnedBy owner_of 0 marks → Makes 0 old new marks
makes_by {S} {V} old new marks leaves may only = record { last_proposer = leaves.last_proposer; made = leaves.made; may_add = may; owned = only; others = others }
  where
    others : (m : ℕ) → m ≢ 0 → own_part new m ≡ own_part old m
    others zero other = absurd (other refl)
    others (suc m) other = (makes_of 0 (record old { council = new.council }) new marks (acts_by old new marks leaves) may only).others (suc m) other

pub kept_then : {S V : Type 0} (old new : View S V) (marks : List Mark) → LeavesOtherCalls old new marks → OnlyOwnedBy owner_of 0 marks → IsKept old → ((caller : CallerView) → IsAt new.callers 0 caller → caller.call ≡ None) → IsKept new
kept_then old new marks leaves only kept none =
    kept_by 0 (record old { council = new.council }) new marks (acts_by old new marks leaves) only (record { places = record { desks = kept.places.desks; callers = kept.places.callers }; staged = kept.staged; wanted = kept.wanted }) (record {
      staged = λ desk caller call at_desk at_caller is_call. absurd (cc (sym (none caller at_caller) ∙ is_call));
      wanted = λ caller call at_caller is_call. absurd (cc (sym (none caller at_caller) ∙ is_call));
    })

pub none_then : {S V : Type 0} (old new : View S V) (marks : List Mark) → LeavesOtherCalls old new marks → ((caller : CallerView) → IsAt old.callers 0 caller → caller.call ≡ None) → (caller : CallerView) → IsAt new.callers 0 caller → caller.call ≡ None
none_then old new marks leaves none caller at = none caller (subst (λ (l : List CallerView). IsAt l 0 caller) leaves.callers at)

-- a hold that makes no mark of the operator's
pub silently : {S V : Type 0} (old new : View S V) → LeavesOtherCalls old new [] → IsKept old → ((caller : CallerView) → IsAt old.callers 0 caller → caller.call ≡ None)
    → Held old new (Makes 0 old new [])
silently old new leaves kept none =
    let fine = fine_none 0 0 0 in
    record { does = makes_by old new [] leaves fine.may_add fine.only; kept = kept_then old new [] leaves fine.only kept (none_then old new [] leaves none); last_proposer = leaves.last_proposer }

-- one that makes marks of an exchange
pub record IsOfAsking (most : ℕ) (marks : List Mark) : Type 0 where
  pub fine : Fine 0 0 most marks
  pub harms : All IsAskingHarm (mine 0 marks)

pub operates : {S V : Type 0} (most : ℕ) (old new : View S V) (marks : List Mark) → LeavesOtherCalls old new marks → IsOfAsking most marks → IsKept old → ((caller : CallerView) → IsAt old.callers 0 caller → caller.call ≡ None) → rescanned_of new.council.plan ≡ rescanned_of old.council.plan → Held old new (OperatesIn IsAskingHarm most old new)
operates most old new marks leaves of kept none planned = record {
  does = record { marks = marks; makes = makes_by old new marks leaves of.fine.may_add of.fine.only; all_such = of.harms; few = of.fine.few; counts = λ enters. absurd (enters 0 0); keeps = λ not. planned };
  kept = kept_then old new marks leaves of.fine.only kept (none_then old new marks leaves none);
  last_proposer = leaves.last_proposer;
}

-- ---- what one call after another does
pub record OwnStep {S V : Type 0} (old new : View S V) (marks : List Mark) : Type 0 where
  pub makes : Makes 0 old new marks
  pub kept : IsKept new
  pub last_proposer : new.last_proposer ≡ old.last_proposer
  pub none : (caller : CallerView) → IsAt new.callers 0 caller → caller.call ≡ None

pub own_step_of : {S V : Type 0} (old new : View S V) (marks : List Mark) → LeavesOtherCalls old new marks → MayAdd marks → OnlyOwnedBy owner_of 0 marks → IsKept old → ((caller : CallerView) → IsAt old.callers 0 caller → caller.call ≡ None) → OwnStep old new marks
own_step_of old new marks leaves may only kept none =
    let none_now = none_then old new marks leaves none in
    record { makes = makes_by old new marks leaves may only; kept = kept_then old new marks leaves only kept none_now; last_proposer = leaves.last_proposer; none = none_now }

pub quiet_own_step : {S V : Type 0} (old new : View S V) → LeavesOtherCalls old new [] → IsKept old → ((caller : CallerView) → IsAt old.callers 0 caller → caller.call ≡ None) → OwnStep old new []
quiet_own_step old new leaves kept none = let fine = fine_none 0 0 0 in own_step_of old new [] leaves fine.may_add fine.only kept none

pub makes_then : {S V : Type 0} (a b c : View S V) (marks more : List Mark) → Makes 0 a b marks → Makes 0 b c more → MayAdd (marks ++ more) → Makes 0 a c (marks ++ more)
makes_then a b c marks more first then_ may = record {
  last_proposer = then_.last_proposer ∙ first.last_proposer;
  made = then_.made ∙ ap (λ (l : List Mark). l ++ more) first.made ∙ append_assoc a.marks marks more;
  may_add = may;
  owned = All-append (λ i. (m : ℕ) → owner_of i ≡ Some m → m ≡ 0) marks more first.owned then_.owned;
  others = λ m other. then_.others m other ∙ first.others m other;
}

pub own_step_then : {S V : Type 0} (a b c : View S V) (marks more : List Mark) → OwnStep a b marks → OwnStep b c more → MayAdd (marks ++ more) → OwnStep a c (marks ++ more)
own_step_then a b c marks more first then_ may = record { makes = makes_then a b c marks more first.makes then_.makes may; kept = then_.kept; last_proposer = then_.last_proposer ∙ first.last_proposer; none = then_.none }

-- ---- the operator is told
told_some : (asks : Asked) (told : OpAnswer) → (told_marks asks told ≡ []) ⊎ (told_marks asks told ≡ Told asks told ∷ [])
told_some asks (op.Probed key found) = inl refl
told_some asks (op.Joined id era rescanned) = inr refl
told_some asks (op.Left id era rescanned) = inr refl
told_some asks (op.Resized need_prep need_acc era rescanned) = inr refl
told_some asks (op.Refused fault) = inr refl
told_some asks (op.Busy era) = inr refl
told_some asks (op.Collected key ballot removed kept) = inr refl
told_some asks (op.NotEmpty version) = inr refl
told_some asks (op.Absent acceptor) = inr refl
told_some asks (op.ProposerDown proposer) = inr refl
told_some asks (op.Stopped why) = inr refl

pub told_may_add : (asks : Asked) (told : OpAnswer) → MayAdd (told_marks asks told)
told_may_add asks told = elim (told_some asks told) [
  | inl none ↦ subst MayAdd (sym none) tt
  | inr one ↦ subst MayAdd (sym one) (tt, tt)
]

pub told_only : (asks : Asked) (told : OpAnswer) → OnlyOwnedBy owner_of 0 (told_marks asks told)
told_only asks told = elim (told_some asks told) [
  | inl none ↦ subst (OnlyOwnedBy owner_of 0) (sym none) (All-nil (λ i. (m : ℕ) → owner_of i ≡ Some m → m ≡ 0))
  | inr one ↦ subst (OnlyOwnedBy owner_of 0) (sym one) (only_one 0 (Told asks told) (λ m e. sym (some_is e)))
]

pub told_mine : (asks : Asked) (told : OpAnswer) → mine 0 (told_marks asks told) ≡ told_marks asks told
told_mine asks told = elim (told_some asks told) [
  | inl none ↦ subst (λ (l : List Mark). mine 0 l ≡ l) (sym none) refl
  | inr one ↦ subst (λ (l : List Mark). mine 0 l ≡ l) (sym one) (mine_own 0 (Told asks told) [] refl)
]

-- what is left then
pub record TellsWhatWasAsked {S V : Type 0} (old new : View S V) (asks : Asked) (told : OpAnswer) : Type 0 where
  pub leaves : LeavesOtherCalls old new (told_marks asks told)
  pub order : new.council.order ≡ None
  pub exchange : new.council.exchange ≡ None
  pub collection : new.council.collection ≡ None

pub tells_of : {S V : Type 0} (old new : View S V) (asks : Asked) (told : OpAnswer) (order : OrderView) → old.council.order ≡ Some order → order.asked ≡ asks → StepTell old told new → TellsWhatWasAsked old new asks told
tells_of {S} {V} old new asks told order is_order is_asked by = by_case by
  where
    same_asked : (other : OrderView) → old.council.order ≡ Some other → other.asked ≡ asks
    same_asked other is_other = ap (λ (o : OrderView). o.asked) (some_is (sym is_other ∙ is_order)) ∙ is_asked

    over : (before : View S V) (other : OrderView) → old.council.order ≡ Some other → before.last_proposer ≡ old.last_proposer → before.desks ≡ old.desks → before.callers ≡ old.callers → before.marks ≡ old.marks → new ≡ told_over before other.asked told → TellsWhatWasAsked old new asks told
    over before other is_other last_proposer desks callers marks is = record {
      leaves = leaves_desks old (told_over before other.asked told) new (told_marks asks told) is last_proposer desks callers (ap (λ (l : List Mark). l ++ told_marks other.asked told) marks ∙ ap (λ (a : Asked). old.marks ++ told_marks a told) (same_asked other is_other));
      order = ap (λ (w : View S V). w.council.order) is;
      exchange = ap (λ (w : View S V). w.council.exchange) is;
      collection = ap (λ (w : View S V). w.council.collection) is;
    }

    by_case : StepTell old told new → TellsWhatWasAsked old new asks told
    by_case (council.tells other said is_other was_said same is) = over old other is_other refl refl refl refl is
    by_case (council.finishes other is_other finished is) = over (with_council old (record old.council { plan = None })) other is_other refl refl refl refl is
    by_case (council.collects other is_other collected is) = over old other is_other refl refl refl refl is

-- what was done told the operator its answer, and its call ends
pub tells_after : {S V : Type 0} (such : Mark → Type 0) (most : ℕ) (old mid new : View S V) (marks : List Mark) (asks : Asked) (told : OpAnswer) (order : OrderView) → OwnStep old mid marks → All such (mine 0 marks) → losses (mine 0 marks) ≤ most → MayAdd (marks ++ told_marks asks told)
    → mid.council.order ≡ Some order → order.asked ≡ asks → StepTell mid told new → (EntersEras such → TellsCount told old new) → ((EntersEras such → ⊥) → rescanned_of new.council.plan ≡ rescanned_of old.council.plan) → Held old new (IsToldIn asks such most old new told)
tells_after such most old mid new marks asks told order own_step all_such few may is_order is_asked by counts keeps =
    let t = tells_of mid new asks told order is_order is_asked by in
    let tells = own_step_of mid new (told_marks asks told) t.leaves (told_may_add asks told) (told_only asks told) own_step.kept own_step.none in
    let all = own_step_then old mid new marks (told_marks asks told) own_step tells may in
    record {
      does = record {
        marks = marks;
        makes = all.makes;
        all_such = all_such;
        few = few;
        is_free = idle_free new (record { no_call = all.none; order = t.order; exchange = t.exchange; collection = t.collection });
        counts = counts;
        keeps = keeps;
      };
      kept = all.kept;
      last_proposer = all.last_proposer;
    }

pub tells_in : {S V : Type 0} (such : Mark → Type 0) (most : ℕ) (old mid new : View S V) (asks : Asked) (told : OpAnswer) (order : OrderView) → LeavesOtherCalls old mid [] → mid.council.order ≡ Some order → order.asked ≡ asks → StepTell mid told new → IsKept old
    → ((caller : CallerView) → IsAt old.callers 0 caller → caller.call ≡ None) → (EntersEras such → TellsCount told old new) → ((EntersEras such → ⊥) → rescanned_of new.council.plan ≡ rescanned_of old.council.plan) → Held old new (IsToldIn asks such most old new told)
tells_in such most old mid new asks told order leaves is_order is_asked by kept none counts keeps =
    tells_after such most old mid new [] asks told order (quiet_own_step old mid leaves kept none) (All-nil such) (omega arith) (told_may_add asks told) is_order is_asked by counts keeps

-- ---- a turn of an exchange
of_none : (most : ℕ) → IsOfAsking most []
of_none most = record { fine = fine_none 0 0 most; harms = All-nil IsAskingHarm }

of_harm : (most : ℕ) (exchange : ExchangeView) (member : ℕ) (down : Bool) → losses (Harmed 0 0 down ∷ []) ≤ most → IsOfAsking most (harm_marks exchange member down)
of_harm most exchange member down few = by_member (has_member exchange.harmed member)
  where
    by_member : (b : Bool) → IsOfAsking most (if b then [] else Harmed 0 0 down ∷ [])
    by_member true = of_none most
    by_member false = record {
      fine = fine_harm 0 0 most down few;
      harms = subst (All IsAskingHarm) (sym (mine_own 0 (Harmed 0 0 down) [] refl)) (All-cons IsAskingHarm (Harmed 0 0 down) [] refl (All-nil IsAskingHarm));
    }

-- votes are nobody's
votes_none : (request : Request) (reply : Reply) → mine 0 (frames.votes_marked request reply) ≡ []
votes_none request reply = by_ask request.to request.ask reply.tell
  where
    by_ask : (to : ℕ) (question : Ask) (told : Tell) → mine 0 (marks_of (votes_of to question told)) ≡ []
    by_ask to (ask.Accept key ballot era ride state) tell.Accepted = refl
    by_ask to question told = refl

of_votes : (most : ℕ) (request : Request) (reply : Reply) → IsOfAsking most (frames.votes_marked request reply)
of_votes most request reply = record { fine = fine_votes 0 0 most request reply; harms = subst (All IsAskingHarm) (sym (votes_none request reply)) (All-nil IsAskingHarm) }

-- the same are asked
named_after : (told : List ProbeOf) (place : ℕ) (probe now : ProbeOf) → IsAt told place probe → now.acceptor ≡ probe.acceptor → map (λ p. p.acceptor) (slice_set told place now) ≡ map (λ p. p.acceptor) told
named_after [] place probe now at same = refl
named_after (one ∷ rest) zero probe now at same = ap (λ (k : ℕ). k ∷ map (λ p. p.acceptor) rest) (same ∙ ap (λ (p : ProbeOf). p.acceptor) (sym (some_is at)))
named_after (one ∷ rest) (suc place) probe now at same = ap (λ (l : List ℕ). one.acceptor ∷ l) (named_after rest place probe now at same)

pub record TurnsAsking {S V : Type 0} (most : ℕ) (old new : View S V) (exchange : ExchangeView) : Type 0 where
  pub marks : List Mark
  pub leaves : LeavesOtherCalls old new marks
  pub of_asking : IsOfAsking most marks
  pub next : ExchangeView
  pub council : new.council ≡ record old.council { exchange = Some next }
  pub question : next.question ≡ exchange.question
  pub reads : next.reads ≡ exchange.reads
  pub since : next.since ≡ exchange.since
  pub asked : asked_of next ≡ asked_of exchange
  pub harmed : length next.harmed ≤ length exchange.harmed + length (mine 0 marks)

pub turns_planned : {S V : Type 0} {most : ℕ} {old new : View S V} {exchange : ExchangeView} → TurnsAsking most old new exchange → rescanned_of new.council.plan ≡ rescanned_of old.council.plan
turns_planned turns = ap (λ (c : Council). rescanned_of c.plan) turns.council

get_at : (all : List ProbeOf) (place : ℕ) (probe d : ProbeOf) → IsAt all place probe → get_or all place d ≡ probe
get_at [] place probe d at = absurd (cc at)
get_at (one ∷ rest) zero probe d at = some_is at
get_at (one ∷ rest) (suc place) probe d at = get_at rest place probe d at

hears_named : (reply : Reply) (told : List ProbeOf) → map (λ p. p.acceptor) (hears reply told) ≡ map (λ p. p.acceptor) told
hears_named reply told = by_place (position (awaits reply.from) told) refl
  where
    now : ProbeOf
    now = record { acceptor = reply.from; told = Some reply.tell }

    by_place : (o : Option ℕ) → position (awaits reply.from) told ≡ o → map (λ p. p.acceptor) (option_map_or (λ place. slice_set told place (record { acceptor = reply.from; told = Some reply.tell })) o told) ≡ map (λ p. p.acceptor) told
    by_place None is = refl
    by_place (Some place) is =
        let low = position-Some (awaits reply.from) told place now is in
        let there = at_low told place low.0 in
        let awaited : awaits reply.from there.0 ≡ true = ap (awaits reply.from) (sym (get_at told place there.0 now there.1)) ∙ low.1 in
        named_after told place there.0 (record { acceptor = reply.from; told = Some reply.tell }) there.1 (sym (nat_same (and_left (there.0.acceptor == reply.from) (is_none there.0.told) awaited)))

-- one more is harmed at most where that is marked
none_more : (ids : List ℕ) → length (members_where (has_member ids)) ≤ length ids
none_more [] = omega (arith, ap (λ (l : List ℕ). length l) no_members.lists)
none_more (id ∷ ids) = omega (arith, members_count (has_member (id ∷ ids)) (λ n. (n == id) || has_member [] n) (has_member ids) (λ n has. elim (or_cases (id == n) (has_member ids n) has) [ inl same ↦ inl (or_left (n == id) (has_member [] n) (nat_is (sym (nat_same same)))) | inr later ↦ inr later ]), length-with_member-le [] id no_members, none_more ids)

with_one : (ids : List ℕ) (id : ℕ) → length (with_member ids id) ≤ suc (length ids)
with_one ids id = omega (arith, members_count (λ n. (n == id) || has_member ids n) (λ n. (n == id) || has_member [] n) (has_member ids) (λ n has. elim (or_cases (n == id) (has_member ids n) has) [ inl same ↦ inl (or_left (n == id) (has_member [] n) same) | inr before ↦ inr before ]), length-with_member-le [] id no_members, none_more ids)

harmed_more : (exchange : ExchangeView) (member : ℕ) (down : Bool) → length (council.harmed_exchange exchange member).harmed ≤ length exchange.harmed + length (mine 0 (harm_marks exchange member down))
harmed_more exchange member down = by_test (has_member exchange.harmed member)
  where
    by_test : (b : Bool) → length (if b then exchange.harmed else with_member exchange.harmed member) ≤ length exchange.harmed + length (mine 0 (if b then [] else Harmed 0 0 down ∷ []))
    by_test true = omega arith
    by_test false = omega (arith, with_one exchange.harmed member, ap (λ (l : List Mark). length l) (mine_own 0 (Harmed 0 0 down) [] refl))

pub turns_asking : {S V : Type 0} (m : Meaning S V) (v : Verdict) (old new : View S V) (by : StepTurnExchange m old v new) → TurnsAsking (harm_by v) old new by.at.exchange
turns_asking {S} {V} m v old new by = by_case by.turn
  where
    x : ExchangeView
    x = by.at.exchange

    same_council : old.council ≡ record old.council { exchange = Some by.at.exchange }
    same_council = ap (λ (o : Option ExchangeView). record old.council { exchange = o }) by.at.is_open

    harmed : (member : ℕ) (down : Bool) (changed : View S V) → new ≡ changed → changed.last_proposer ≡ old.last_proposer → changed.desks ≡ old.desks → changed.callers ≡ old.callers → changed.council ≡ record old.council { exchange = Some (council.harmed_exchange by.at.exchange member) }
        → changed.marks ≡ old.marks ++ harm_marks by.at.exchange member down → losses (Harmed 0 0 down ∷ []) ≤ harm_by v → TurnsAsking (harm_by v) old new by.at.exchange
    harmed member down changed is last_proposer desks callers councils made few = record {
      marks = harm_marks by.at.exchange member down;
      leaves = leaves_desks old changed new (harm_marks by.at.exchange member down) is last_proposer desks callers made;
      of_asking = of_harm (harm_by v) by.at.exchange member down few;
      next = council.harmed_exchange by.at.exchange member;
      council = ap (λ (w : View S V). w.council) is ∙ councils;
      question = refl;
      reads = refl;
      since = refl;
      asked = refl;
      harmed = harmed_more by.at.exchange member down;
    }

    by_case : TurnsExchange m old v by.front by.at.exchange new → TurnsAsking (harm_by v) old new by.at.exchange
    by_case (council.held fall is) = record {
      marks = [];
      leaves = leaves_desks old old new [] is refl refl refl (sym (append-nil old.marks));
      of_asking = of_none (harm_by v);
      next = by.at.exchange;
      council = ap (λ (w : View S V). w.council) is ∙ same_council;
      question = refl;
      reads = refl;
      since = refl;
      asked = refl;
      harmed = omega arith;
    }
    by_case (council.gone fall is) = harmed _ false _ is refl refl refl refl refl (let some : 1 ≤ harm_by v = gone_harms (queue_at old.flow exchange_place).again v fall in omega (arith, some))
    by_case (council.answers request acceptor now reply fall front at table is) = record {
      marks = frames.votes_marked request reply;
      leaves = leaves_desks old _ new (frames.votes_marked request reply) is refl refl refl refl;
      of_asking = of_votes (harm_by v) request reply;
      next = by.at.exchange;
      council = ap (λ (w : View S V). w.council) is ∙ same_council;
      question = refl;
      reads = refl;
      since = refl;
      asked = refl;
      harmed = omega arith;
    }
    by_case (council.finds_down request acceptor fall front at down is) = harmed request.to true _ is refl refl refl refl refl (omega arith)
    by_case (council.brings_down request acceptor now fall front at stops is) = harmed request.to true _ is refl refl refl refl refl (omega arith)
    by_case (council.arrives reply fall front to_it is) = record {
      marks = [];
      leaves = leaves_desks old _ new [] is refl refl refl (sym (append-nil old.marks));
      of_asking = of_none (harm_by v);
      next = record by.at.exchange { told = hears reply by.at.exchange.told };
      council = ap (λ (w : View S V). w.council) is;
      question = refl;
      reads = refl;
      since = refl;
      asked = hears_named reply by.at.exchange.told;
      harmed = omega arith;
    }

-- caller 0's own part stays as it is, where it is no probe
parts_kept : (c : Council) (next exchange : ExchangeView) → c.exchange ≡ Some exchange → next.question ≡ exchange.question → next.reads ≡ exchange.reads → next.since ≡ exchange.since → asked_of next ≡ asked_of exchange → harms_part next.question next.harmed ≡ harms_part exchange.question exchange.harmed → council_part (record c { exchange = Some next }) ≡ council_part c
parts_kept c next exchange is_open question reads since asks harms =
    ap₂ (λ (s n : ℕ). order_part c.order ++ framed 2 (s ∷ n ∷ reads_part next.reads ∷ length (asked_of next) ∷ asked_of next ++ question_part next.question) ++ plan_part c.plan ++ collection_part c.collection) since harms
    ∙ ap (λ (r : Option Era). order_part c.order ++ framed 2 (exchange.since ∷ harms_part exchange.question exchange.harmed ∷ reads_part r ∷ length (asked_of next) ∷ asked_of next ++ question_part next.question) ++ plan_part c.plan ++ collection_part c.collection) reads
    ∙ ap₂ (λ (q : Question) (l : List ℕ). order_part c.order ++ framed 2 (exchange.since ∷ harms_part exchange.question exchange.harmed ∷ reads_part exchange.reads ∷ length l ∷ l ++ question_part q) ++ plan_part c.plan ++ collection_part c.collection) question asks
    ∙ ap (λ (o : Option ExchangeView). order_part c.order ++ exchange_part o ++ plan_part c.plan ++ collection_part c.collection) (sym is_open)

pub own_kept : {S V : Type 0} (most : ℕ) (old new : View S V) (exchange : ExchangeView) → old.council.exchange ≡ Some exchange → TurnsAsking most old new exchange → ((caller : CallerView) → IsAt old.callers 0 caller → caller.call ≡ None) → ((harmed : List ℕ) → harms_part exchange.question harmed ≡ 0) → own_part new 0 ≡ own_part old 0
own_kept most old new exchange is_open turns none no_probe =
    own_is_council new (none_then old new turns.marks turns.leaves none) ∙ ap council_part turns.council
    ∙ parts_kept old.council turns.next exchange is_open turns.question turns.reads turns.since turns.asked (ap (λ (q : Question). harms_part q turns.next.harmed) turns.question ∙ no_probe turns.next.harmed ∙ sym (no_probe exchange.harmed))
    ∙ sym (own_is_council old none)

-- no memory is found for it, and the operator is told
pub refuses_asking : {S V : Type 0} (m : Meaning S V) (old new : View S V) (order : OrderView) → old.council.order ≡ Some order → StepRefuseTurnExchange m old new → LeavesOtherCalls old new [] × (new.council.order ≡ Some (told_so (op.Stopped (answer.NoMemory false)) order))
refuses_asking {S} {V} m old new order is_order by = (
  subst (λ (w : View S V). LeavesOtherCalls old w []) (sym by.view) (leaves by.refuses),
  ap (λ (w : View S V). w.council.order) by.view ∙ ap (option_map (told_so (op.Stopped (answer.NoMemory false)))) (same_order by.refuses ∙ is_order),
)
  where
    leaves : {middle : View S V} → frames.FindsNoRoom m old middle → LeavesOtherCalls old (council.told_view middle (op.Stopped (answer.NoMemory false))) []
    leaves {middle} (frames.stays is) = leaves_desks old _ (council.told_view middle (op.Stopped (answer.NoMemory false))) [] (ap (λ (w : View S V). council.told_view w (op.Stopped (answer.NoMemory false))) is) refl refl refl (sym (append-nil old.marks))
    leaves {middle} (frames.kept id acceptor now there finds is) = leaves_desks old _ (council.told_view middle (op.Stopped (answer.NoMemory false))) [] (ap (λ (w : View S V). council.told_view w (op.Stopped (answer.NoMemory false))) is) refl refl refl (sym (append-nil old.marks))

    same_order : {middle : View S V} → frames.FindsNoRoom m old middle → middle.council.order ≡ old.council.order
    same_order (frames.stays is) = ap (λ (w : View S V). w.council.order) is
    same_order (frames.kept id acceptor now there finds is) = ap (λ (w : View S V). w.council.order) is

pub refusal_planned : {S V : Type 0} (m : Meaning S V) (old new : View S V) → StepRefuseTurnExchange m old new → rescanned_of new.council.plan ≡ rescanned_of old.council.plan
refusal_planned {S} {V} m old new by = ap (λ (w : View S V). rescanned_of w.council.plan) by.view ∙ room by.refuses
  where
    room : {left : View S V} → frames.FindsNoRoom m old left → rescanned_of left.council.plan ≡ rescanned_of old.council.plan
    room (frames.stays is) = ap (λ (w : View S V). rescanned_of w.council.plan) is
    room (frames.kept id acceptor now there finds is) = ap (λ (w : View S V). rescanned_of w.council.plan) is

-- ---- what the operator was told
-- what a call of it was told last is what may be told
pub says_same : {S V : Type 0} (view : View S V) (order : OrderView) (said told : OpAnswer) → view.council.order ≡ Some (told_so said order) → WasToldOrder view told → SaysTheSame said told
says_same view order said told is_order was =
    let same : was.order ≡ told_so said order = some_is (sym was.is_open ∙ is_order) in
    let same_said : was.said ≡ said = some_is (sym was.was_said ∙ ap (λ (o : OrderView). o.told) same) in
    subst (λ (s : OpAnswer). SaysTheSame s told) same_said was.same

pub was_told_so : {S V : Type 0} (view : View S V) (order : OrderView) (said : OpAnswer) → view.council.order ≡ Some (told_so said order) → SaysTheSame said said → WasToldOrder view said
was_told_so view order said is_order same = record { order = told_so said order; is_open = is_order; said = said; was_said = refl; same = same }
