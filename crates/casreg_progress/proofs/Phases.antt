-- How the phases of a ready line end.
use Rattle.std.proofs.Common.{◌≡◌, ◌≤◌, ℕ, Bool, true, false, List, [], ◌++◌, Option, None, Some, slice_set, refl, sym, ap, subst, ◌∙◌, inr, arith}
use Rattle.std.specs.Prelude.{◌&&◌, nat_le, is_some, length}
use Rattle.cas_base.proofs.Bools.{both_true}
use Rattle.cas_ballot.specs.declared.ballot.Ballot.{Ballot}
use Rattle.cas_ballot.specs.Members.{has_member, IsMemberSet}
use Rattle.cas_ballot.proofs.CountLemmas.{length-within}
use Rattle.cas_change.specs.declared.outcome.Outcome.{Outcome}
use Rattle.cas_fate.specs.declared.fate.Verdict.TheVariants.{Deliver}
use Rattle.cas_flow.specs.Flow.{queue_at}
use Rattle.cas_flow.specs.declared.message.Message.{Message}
use Rattle.cas_acceptor.specs.Acceptor.{AcceptorView}
use Rattle.cas_proposer.specs.Desk.{DeskView}
use Rattle.cas_proposer.specs.declared.round.Round.{Round}
use Rattle.cas_quorum.specs.declared.era.Era.{Era}
use Rattle.cas_quorum.specs.Era.{IsSized, holds_prep, holds_acc}
use Rattle.cas_quorum.specs.Quorum.{count_in, has_quorum}
use Rattle.cas_record.specs.declared.answer.Answer.{Answer}
use Rattle.cas_record.specs.declared.answer.Answer.TheVariants as answer
use Rattle.cas_round.specs.declared.verdict.RoundVerdict.{RoundVerdict}
use Rattle.cas_round.specs.declared.verdict.RoundVerdict.TheVariants as verdict
use Rattle.cas_slot.specs.declared.message.Ask.{Ask}
use Rattle.cas_slot.specs.declared.message.Ask.TheVariants as ask
use Rattle.cas_slot.specs.declared.message.Reply.{Reply}
use Rattle.cas_vault.specs.Vault.{kept_of}
use Rattle.cas_model.specs.Safe.{IsSafe}
use Rattle.cas_model.specs.Step as step
use Rattle.cas_model.specs.Step.{StepPropose}
use Rattle.cas_model.specs.Stops.Step.{OpenCallAt}
use Rattle.cas_model.specs.Calls.Step as calls
use Rattle.cas_model.specs.Calls.Step.{refusal_by}
use Rattle.cas_model.specs.Frames.Step as frames
use Rattle.cas_model.specs.View.{Meaning, View, CallView, CallerView, IsAt}
use Rattle.cas_model.proofs.Places.{at_one, some_is}
use Rattle.cas_model.proofs.Calls.Safe.{accepts_is}
use Rattle.cas_model.proofs.Safety.Steps.{steps_are_safe}
use Rattle.cas_model_causes.specs.Calls.Causes.{CallIsTold}
use Rattle.cas_model_causes.specs.Calls.Undisturbed as undisturbed
use Rattle.cas_model_causes.specs.Calls.Undisturbed.{LetsPass, AcceptsAfresh, ProposesUndisturbed}
use Rattle.cas_model_causes.proofs.Calls.Ends.{told_by, desk_by}
use Rattle.cas_model_causes.proofs.Calls.Undisturbed.{prepares_propose, accepts_are_done}
use Rattle.casreg_progress.proofs.ByRules as script
use Rattle.casreg_progress.proofs.ByRules.{TurnedByRules, FailsToTurnByRules, EndsPrepare, IsAccepted}
use Rattle.casreg_script.specs.Frames.Conditions.{Rule, verdict_on}
use Rattle.casreg_script.specs.Script.{nowhere}
use Rattle.casreg_script.specs.declared.halt.Halt.{Halt}
use Rattle.casreg_progress.proofs.Beginning.{EndsWell, done, no_memory, goes_down, Begun, prepares, accepts, over, may_age, all_asked, shows_by, age_by}
use Rattle.casreg_progress.proofs.Fitting.{IsOpenTo, IsUnderway, GoesUndisturbed, goes, without_faults, faultless_propose, faultless_count}
use Rattle.casreg_progress.proofs.Standing.{StillUp, up_before, propose_same, propose_keeps, count_keeps, opens_in, turned_shows, proposes_in, counts_in}

-- ---- quorums
-- all members are a quorum
all_quorum : (need : ℕ) (set : List ℕ) → IsMemberSet set → need ≤ length set → has_quorum need set set ≡ true
all_quorum need set is_set few =
    le_is need (count_in set set) (omega (arith, few, ap (λ (l : List ℕ). length l) is_set.lists, length-within (has_member set) (λ n. has_member set n && has_member set n) (λ n low is. both_true (has_member set n) (has_member set n) is is)))
  where
    le_is : (a b : ℕ) → a ≤ b → nat_le a b ≡ true
    le_is a b low = grind (arith, low)

-- what each phase of a line may rest on: its era's sets and sizes, and that each frame is delivered
pub record Grounds (era : Era) (rules : List Rule) : Type 0 where
  pub delivers : (frame : Message) → verdict_on rules frame ≡ Deliver
  pub prep : holds_prep era era.prep ≡ true
  pub acc : holds_acc era era.acc ≡ true

pub has_grounds : (era : Era) (rules : List Rule) → IsSized era → IsMemberSet era.prep → IsMemberSet era.acc → ((frame : Message) → verdict_on rules frame ≡ Deliver) → Grounds era rules
has_grounds era rules sized prep acc delivers = record { delivers = delivers; prep = all_quorum era.need_prep era.prep prep sized.prep; acc = all_quorum era.need_acc era.acc acc sized.acc }

-- ---- what is told
pub told_one : {S V : Type 0} (view : View S V) (id : ℕ) (a b : Option Answer) → CallIsTold view id a → CallIsTold view id b → a ≡ b
told_one view id a b is other =
    let same : is.call ≡ other.call = some_is (sym is.is_open ∙ ap (λ (c : CallerView). c.call) (at_one view.callers id is.at_caller other.at_caller) ∙ other.is_open) in
    sym is.told_is ∙ ap (λ (c : CallView). c.told) same ∙ other.told_is

-- a verdict refuses neither by a fault nor for want of memory
refuses_other : (v : RoundVerdict) (told : Answer) → refusal_by v ≡ Some told → (told ≡ answer.VaultFault → ⊥) × (told ≡ answer.NoMemory false → ⊥)
refuses_other verdict.Quorum told e = absurd (cc e)
refuses_other (verdict.Met ballot) told e = (λ is. cc (e, is), λ is. cc (e, is))
refuses_other (verdict.Aged least) told e = (λ is. cc (e, is), λ is. cc (e, is))
refuses_other (verdict.Full acceptor) told e = (λ is. cc (e, is), λ is. cc (e, is))
refuses_other (verdict.Short got need) told e = (λ is. cc (e, is), λ is. cc (e, is))

-- where a turn finds no memory, the caller is told so
pub fails_told : {S V : Type 0} (m : Meaning S V) (rules : List Rule) (ballot : Ballot) (id : ℕ) (old new : View S V) → FailsToTurnByRules m rules id old new → EndsWell ballot new id
fails_told {S} {V} m rules ballot id old new by =
    no_memory (is_some by.fails.of_call.call.proposed)
    (told_by by.fails.middle new id by.fails.of_call.caller (calls.telling by.fails.of_call.call (answer.NoMemory (is_some by.fails.of_call.call.proposed)))
    (subst (λ (l : List CallerView). IsAt l id by.fails.of_call.caller) (sym (same by.fails.refuses)) by.fails.of_call.at_caller) (ap (λ (w : View S V). w.callers) by.fails.view))
  where
    same : frames.FindsNoRoom m by.mid by.fails.middle → by.fails.middle.callers ≡ by.mid.callers
    same (frames.stays is) = ap (λ (w : View S V). w.callers) is
    same (frames.kept at acceptor now there found is) = ap (λ (w : View S V). w.callers) is

-- ---- turns
turned_safe : {S V : Type 0} (m : Meaning S V) (rules : List Rule) (id : ℕ) (old new : View S V) → TurnedByRules m rules id old new → IsSafe old → IsSafe new
turned_safe m rules id old new script.none safe = safe
turned_safe m rules id old new (script.one_more {mid = mid} frame turned at by) safe = steps_are_safe m mid (step.Turn id (verdict_on rules frame)) new (turned_safe m rules id old mid turned safe) by

-- ---- the prepare phase
-- the accept phase begins, and each member that let the prepares pass lets its accepts pass
goes_on : {S V : Type 0} (m : Meaning S V) (era : Era) (ballot : Ballot) (mid new : View S V) (id age : ℕ) (replies : List Reply) (desk next : DeskView V) (seen round turned : Round) (outcome : Outcome) (ride : Option Ballot) (other : Outcome) → IsSafe new → round.era ≡ era → round.ballot ≡ ballot
    → turned ≡ record round { phase = turned.phase; met = turned.met; ride = turned.ride } → AcceptsAfresh new id replies turned outcome → CallIsTold new id None → IsUnderway m era id age (ask.Prepare round.key round.ballot) mid
    → new.acceptors ≡ mid.acceptors → IsAt mid.desks id desk → new.desks ≡ slice_set mid.desks id next → (kept_of next.vault).age ≡ (kept_of desk.vault).age
    → (queue_at new.flow id).messages ≡ calls.accepts_to id (kept_of desk.vault).age seen.key seen.ballot seen.era.number ride other.state seen.era.acc → Begun m era ballot id new
goes_on {S} {V} m era ballot mid new id age replies desk next seen round turned outcome ride other safe era_is ballot_is same afresh told was acceptors at desks kept sent =
    accepts replies turned outcome age afresh turned_era (ap (λ (r : Round). r.ballot) same ∙ ballot_is) (record {
      asked = all_asked era id age question (queue_at new.flow id).messages (λ to. record { to = to; from = id; age = afresh.age; ask = question })
          (λ to. record { to = to; from = id; age = (kept_of desk.vault).age; ask = ask.Accept seen.key seen.ballot seen.era.number ride other.state }) turned.era.acc seen.era.acc afresh.waits sent
          (λ n member. inr (subst (λ (e : Era). has_member e.acc n ≡ true) turned_era member)) (λ n. refl) (λ n. refl) (λ n. was.desk_age desk at);
      members = λ member is. opens member (was.members member is);
      desk_age = age_by mid new id age next desks (kept ∙ was.desk_age desk at);
    })
    (record {
      desk = afresh.accepts.desk;
      at_desk = afresh.accepts.at_desk;
      phase_is = ap opens_in afresh.accepts.is_open ∙ ap (λ (b : Bool). Some b) (accepts_is turned.era turned.ballot [] turned.phase afresh.accepts.accepting.phase).0;
    }) told safe
  where
    question : Ask
    question = ask.Accept turned.key turned.ballot turned.era.number turned.ride outcome.state

    turned_era : turned.era ≡ era
    turned_era = ap (λ (r : Round). r.era) same ∙ era_is

    opens : (member : ℕ) → IsOpenTo m mid id age (ask.Prepare round.key round.ballot) member → IsOpenTo m new id age question member
    opens member o = record {
      acceptor = o.acceptor;
      at_acceptor = subst (λ (l : List (AcceptorView S)). IsAt l member o.acceptor) (sym acceptors) o.at_acceptor;
      up = o.up;
      answers_age = o.answers_age;
      passes = subst (λ (k : List ℕ). LetsPass (m.shelves.contents o.acceptor.shelf) (ask.Accept k turned.ballot turned.era.number turned.ride outcome.state)) (sym (ap (λ (r : Round). r.key) same))
          (subst (λ (b : Ballot). LetsPass (m.shelves.contents o.acceptor.shelf) (ask.Accept round.key b turned.era.number turned.ride outcome.state)) (sym (ap (λ (r : Round). r.ballot) same)) (inr o.passes));
    }

-- a prepare phase that goes undisturbed proposes, or ends well
prepare_ends : {S V : Type 0} (m : Meaning S V) (era : Era) (ballot : Ballot) (mid new : View S V) (id age : ℕ) (replies : List Reply) (round : Round) → IsSafe new → round.era ≡ era → round.ballot ≡ ballot → IsUnderway m era id age (ask.Prepare round.key round.ballot) mid → new.acceptors ≡ mid.acceptors
    → (by : StepPropose m mid id new) → ProposesUndisturbed (without_faults m) mid new id replies round → Begun m era ballot id new
prepare_ends {S} {V} m era ballot mid new id age replies round safe era_is ballot_is was acceptors by result = in_phase by.at_round.of_call by.at_round.desk by.at_round.at_desk by.at_round.round by.proposes result
  where
    in_phase : (of_call : OpenCallAt mid id) (desk : DeskView V) → IsAt mid.desks id desk → (seen : Round) → calls.ProposesOrEnds m mid id desk seen of_call.caller of_call.call new → ProposesUndisturbed (without_faults m) mid new id replies round → Begun m era ballot id new
    in_phase at desk at_desk seen (calls.proposes next turned read by_them ride outcome flow quorum confirmers reads turns made sends is) (undisturbed.proposes then_ other same afresh told) =
        goes_on m era ballot mid new id age replies desk next seen round then_ other ride outcome safe era_is ballot_is same afresh told was acceptors at_desk (ap (λ (w : View S V). w.desks) is) (may_age m.disks desk.id desk.vault next.vault ride turns.drawn)
        (ap (λ (w : View S V). (queue_at w.flow id).messages) is ∙ sends.own ∙ ap (λ (l : List Message). l ++ calls.accepts_to id (kept_of desk.vault).age seen.key seen.ballot seen.era.number ride outcome.state seen.era.acc) by.at_round.none_waits)
    in_phase at desk at_desk seen (calls.proposes next turned read by_them ride outcome flow quorum confirmers reads turns made sends is) (undisturbed.vault_fails faulted told) =
        absurd (cc (told_one new id None (Some answer.VaultFault) (told_by mid new id at.caller (calls.proposing at.call outcome) at.at_caller (ap (λ (w : View S V). w.callers) is)) told))
    in_phase at desk at_desk seen (calls.proposes next turned read by_them ride outcome flow quorum confirmers reads turns made sends is) (undisturbed.no_memory told) =
        absurd (cc (told_one new id None (Some (answer.NoMemory false)) (told_by mid new id at.caller (calls.proposing at.call outcome) at.at_caller (ap (λ (w : View S V). w.callers) is)) told))
    in_phase at desk at_desk seen (calls.ends next v told verdict_is refused ends is) (undisturbed.proposes then_ other same afresh none_told) =
        absurd (cc (told_one new id None (Some told) none_told (told_by mid new id at.caller (calls.over at.call told) at.at_caller (ap (λ (w : View S V). w.callers) is))))
    in_phase at desk at_desk seen (calls.ends next v told verdict_is refused ends is) (undisturbed.vault_fails faulted other) =
        absurd ((refuses_other v told refused).0 (some_is (told_one new id (Some told) (Some answer.VaultFault) (told_by mid new id at.caller (calls.over at.call told) at.at_caller (ap (λ (w : View S V). w.callers) is)) other)))
    in_phase at desk at_desk seen (calls.ends next v told verdict_is refused ends is) (undisturbed.no_memory other) =
        absurd ((refuses_other v told refused).1 (some_is (told_one new id (Some told) (Some (answer.NoMemory false)) (told_by mid new id at.caller (calls.over at.call told) at.at_caller (ap (λ (w : View S V). w.callers) is)) other)))
    in_phase at desk at_desk seen (calls.fails next fails is) other =
        over (shows_by mid new id desk next None at_desk (ap (λ (w : View S V). w.desks) is) (ap opens_in (ap (λ (d : DeskView V). d.round) fails.desk)))
        (goes_down (told_by mid new id at.caller (calls.over at.call answer.VaultFault) at.at_caller (ap (λ (w : View S V). w.callers) is)) next (desk_by mid new id desk next at_desk (ap (λ (w : View S V). w.desks) is)) (ap (λ (d : DeskView V). d.down) fails.desk))
    in_phase at desk at_desk seen (calls.loses next ballot loses is) other =
        over (shows_by mid new id desk next None at_desk (ap (λ (w : View S V). w.desks) is) (ap opens_in (ap (λ (d : DeskView V). d.round) loses.desk)))
        (no_memory false (told_by mid new id at.caller (calls.over at.call (answer.NoMemory false)) at.at_caller (ap (λ (w : View S V). w.callers) is)))

pub prepare_ended : {S V : Type 0} (m : Meaning S V) (era : Era) (ballot : Ballot) (rules : List Rule) (id : ℕ) (halt : Halt) (view new : View S V) → Grounds era rules → Begun m era ballot id view → EndsPrepare m rules id halt view new → StillUp era new → Begun m era ballot id new
prepare_ended {S} {V} m era ballot rules id halt view new grounds (prepares round age afresh era_is ballot_is underway shows told safe) ends up =
    prepare_ends m era ballot mid new id age turns.replies round (steps_are_safe m mid (step.Propose id) new (turned_safe m rules id view mid ends.turns.turned safe) ends.proposes) era_is ballot_is turns.underway (propose_same m mid new id ends.proposes) ends.proposes
    (prepares_propose (without_faults m) view mid new id era.prep turns.replies round turns.steps safe afresh (subst (λ (e : Era). holds_prep e era.prep ≡ true) (sym era_is) grounds.prep) turns.undisturbed (faultless_propose m mid new id ends.proposes))
  where
    mid : View S V
    mid = ends.turned

    turns : GoesUndisturbed m era id age (ask.Prepare round.key round.ballot) era.prep view mid
    turns = goes m era rules id age (ask.Prepare round.key round.ballot) era.prep view mid grounds.delivers tt underway ends.turns.turned (up_before era mid new (propose_keeps m mid new id ends.proposes) up)
prepare_ended m era ballot rules id halt view new grounds (accepts prepared round outcome age afresh era_is ballot_is underway shows told safe) ends up =
    absurd (cc (proposes_in m ends.turned new id (Some false) (turned_shows m rules id (Some false) view ends.turned ends.turns.turned shows) ends.proposes))
prepare_ended m era ballot rules id halt view new grounds (over shows well) ends up = absurd (cc (proposes_in m ends.turned new id None (turned_shows m rules id None view ends.turned ends.turns.turned shows) ends.proposes))

-- ---- the accept phase
counted : {S V : Type 0} (m : Meaning S V) (era : Era) (ballot : Ballot) (rules : List Rule) (id : ℕ) (view mid new : View S V) → Grounds era rules → Begun m era ballot id view → TurnedByRules m rules id view mid → step.StepCount m mid id new → StillUp era new → EndsWell ballot new id
counted {S} {V} m era ballot rules id view mid new grounds (accepts prepared round outcome age afresh era_is ballot_is underway shows told safe) turned by up =
    done outcome.state outcome.took
    (subst (λ (b : Ballot). CallIsTold new id (Some (answer.Done outcome.state outcome.took b))) ballot_is (accepts_are_done (without_faults m) view mid new id era.acc prepared turns.replies round outcome turns.steps safe afresh (subst (λ (e : Era). holds_acc e era.acc ≡ true) (sym era_is) grounds.acc) turns.undisturbed (faultless_count m mid new id by)))
  where
    question : Ask
    question = ask.Accept round.key round.ballot round.era.number round.ride outcome.state

    turns : GoesUndisturbed m era id age question era.acc view mid
    turns = goes m era rules id age question era.acc view mid grounds.delivers tt underway turned (up_before era mid new (count_keeps m mid new id by) up)
counted m era ballot rules id view mid new grounds (prepares round age afresh era_is ballot_is underway shows told safe) turned by up = absurd (cc (counts_in m mid new id (Some true) (turned_shows m rules id (Some true) view mid turned shows) by))
counted m era ballot rules id view mid new grounds (over shows well) turned by up = absurd (cc (counts_in m mid new id None (turned_shows m rules id None view mid turned shows) by))

pub accepted : {S V : Type 0} (m : Meaning S V) (era : Era) (ballot : Ballot) (rules : List Rule) (id : ℕ) (after : Halt) (view new : View S V) → Grounds era rules → Begun m era ballot id view → IsAccepted m rules id nowhere view after new → StillUp era new → EndsWell ballot new id
accepted m era ballot rules id after view new grounds begun (script.cut_short (script.halts accepting due crashes)) up = absurd (cc due)
accepted m era ballot rules id after view new grounds begun (script.cut_short (script.no_memory due fails)) up = fails_told m rules ballot id view new fails
accepted m era ballot rules id after view new grounds begun (script.counts {turned = turned} due turns by) up = counted m era ballot rules id view turned new grounds begun turns.turned by up
