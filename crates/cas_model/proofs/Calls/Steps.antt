-- Steps of callers: a call begins or goes on with another round, proposes, is counted, and ends; and a cluster has a history after each.
use Rattle.std.proofs.Common.{◌≡◌, ◌≤◌, ℕ, suc, false, List, [], ◌∷◌, ◌++◌, Option, None, Some, reverse, refl, sym, ap, subst, ◌∙◌, inl, inr, arith}
use Rattle.std.specs.Prelude.{◌<◌, ◌-◌, ◌==◌, filter}
use Rattle.std.specs.List.{range_with_len}
use Rattle.std.proofs.lemmas.List.{reverse-append}
use Rattle.cas_base.proofs.Bools.{if_true}
use Rattle.cas_ballot.specs.declared.ballot.Ballot.{Ballot}
use Rattle.cas_ballot.specs.Members.{IsMemberSet, members_where}
use Rattle.cas_cache.specs.declared.ready.Ready.{Ready}
use Rattle.cas_change.specs.declared.program.Clause.{Clause}
use Rattle.cas_flow.specs.Flow.{queue_at}
use Rattle.cas_flow.specs.declared.message.Message.{Message}
use Rattle.cas_proposer.specs.Desk.{DeskView}
use Rattle.cas_proposer.specs.declared.round.Round.{Round}
use Rattle.cas_record.specs.declared.mark.Mark.{Mark}
use Rattle.cas_record.specs.declared.mark.Mark.TheVariants.{Begun}
use Rattle.cas_record.specs.Logs.Happening.{Happening, Marked, marks_of}
use Rattle.cas_record.specs.Logs.Lawful.{Cluster, Lawful}
use Rattle.cas_record.specs.Legal.{IsProposed, IsEnded, calls_of}
use Rattle.cas_record.specs.Places.{here}
use Rattle.cas_record.proofs.Histories.Calls.{begun_low}
use Rattle.cas_record.proofs.LegalLemmas.{counted, is_numbered}
use Rattle.cas_record.proofs.PlaceLemmas.{newest_or, stands_deeper}
use Rattle.cas_record.proofs.Tests.{nat_is}
use Rattle.cas_model.specs.History.{IsLogged}
use Rattle.cas_model.specs.Parties.{ArePromisesHeld, IsOpenTrue, IsCallTrue, IsCallerTrue}
use Rattle.cas_protocol.specs.Protocol.{Made, GlobalState, Begins}
use Rattle.cas_model.specs.Calls.Step.{round_marks, Opens, first, again, opened, tried_again, with_call}
use Rattle.cas_model.specs.View.{Meaning, View, CallView, CallerView, IsAt, new_call, era_at}
use Rattle.cas_model.proofs.Around.{Whole, around, around_more, settles, whole_of, logged, leaves_caller}
use Rattle.cas_protocol.proofs.Events.{keeps}
use Rattle.cas_model.proofs.Others.{ProposesNot, FloorsNot, AsksToRide, ready_still, vault_still, messages_still, ended_later, ended_open}
use Rattle.cas_model.proofs.Places.{own_set, some_is}

-- ---- calls that were not begun
none_proposed : (cluster : Cluster) (log : List Happening) {id number : ℕ} → Lawful cluster log → IsProposed id number (marks_of log) → number ≤ calls_of id (marks_of log)
none_proposed cluster log {id} {number} lawful is =
    let begun = ((is_numbered cluster log lawful).proposed is.stands.at).begun in
    subst (λ (n : ℕ). n ≤ calls_of id (marks_of log)) is.same_call
    (subst (λ (c : ℕ). is.proposal.call ≤ calls_of c (marks_of log)) is.same_caller (begun_low (counted cluster log lawful) (stands_deeper begun.stands is.stands.at)))

none_ended : (cluster : Cluster) (log : List Happening) {id number : ℕ} → Lawful cluster log → IsEnded id number (marks_of log) → number ≤ calls_of id (marks_of log)
none_ended cluster log lawful is =
    let begun = ((is_numbered cluster log lawful).ended is.stands.at).begun in
    begun_low (counted cluster log lawful) (stands_deeper begun.stands is.stands.at)

-- ---- what a happening of the proposer's own leaves
-- it proposes nothing, makes no floor, and asks nothing
abbrev pub IsMild : Happening → Type 0
IsMild h = ((key : List ℕ) (ballot : Ballot) → ProposesNot h key ballot) × (FloorsNot h × ((key : List ℕ) (ballot ride : Ballot) → AsksToRide h key ballot ride))

begun_mild : (id number : ℕ) (key : List ℕ) (program : List Clause) → IsMild (Marked (Begun id number key program))
begun_mild id number key program = (λ k b p now. absurd (cc now), (λ k f s now. absurd (cc now), λ k b r request era asked state now. absurd (cc now)))

pub ready_mild : (cluster : Cluster) (h : Happening) (log : List Happening) (all : List Made) (id era : ℕ) (cache : List (List ℕ × Ready)) → IsMild h → ArePromisesHeld cluster log all id era cache → ArePromisesHeld cluster (h ∷ log) all id era cache
ready_mild cluster h log all id era cache mild were key ready has = ready_still cluster h log all (mild.0 key ready.ballot) mild.1.0 (mild.1.1 key ready.read ready.ballot) (were key ready has)

-- no acceptor was harmed
none_pass : (xs : List ℕ) → filter (λ n. false) xs ≡ []
none_pass [] = refl
none_pass (x ∷ xs) = none_pass xs

pub no_harm : IsMemberSet []
unfolding members_where
no_harm = record { lists = sym (none_pass (range_with_len 0 64)) }

-- ---- the record
-- it has one more mark
pub marked : (log marks : List Mark) (mark : Mark) → log ≡ reverse marks → mark ∷ log ≡ reverse (marks ++ mark ∷ [])
marked log marks mark same = ap (λ (l : List Mark). mark ∷ l) same ∙ sym (reverse-append marks (mark ∷ []))

-- ---- a call opens
-- a desk with no open round has none whatever its caller has
open_idle : (cluster : Cluster) (log newer : List Happening) (all : List Made) (era id : ℕ) (caller new : CallerView) (waiting : List Message) (round : Option Round) → round ≡ None
    → IsOpenTrue cluster log all id era caller waiting round → IsOpenTrue cluster newer all id era new waiting round
open_idle cluster log newer all era id caller new waiting None none was = was
open_idle cluster log newer all era id caller new waiting (Some round) none was = absurd (cc none)

abbrev begun_global : GlobalState → ℕ → ℕ → List ℕ → List Clause → GlobalState
begun_global global id number key program = record global { log = Marked (Begun id number key program) ∷ global.log }

opens_first : {S V : Type 0} (m : Meaning S V) (cluster : Cluster) (global : GlobalState) (old : View S V) (id : ℕ) (key : List ℕ) (program : List Clause) (caller : CallerView)
    → IsAt old.callers id caller → caller.call ≡ None → Whole m cluster global old → Whole m cluster (begun_global global id (suc caller.number) key program) (opened old id caller key program)
opens_first {S} {V} m cluster global old id key program caller at none whole =
    let was = whole.parties.callers id tt caller at in
    let number : suc caller.number ≡ suc (calls_of id (marks_of global.log)) = ap suc was.number in
    let history = keeps cluster whole.meets global whole.history (Begins id (suc caller.number) key program number) in
    let now : CallerView = record { number = suc caller.number; call = Some (new_call key program (round_marks (era_at old id) - 1)) } in
    settles m cluster (begun_global global id (suc caller.number) key program) old (opened old id caller key program) id
    (around_more m cluster global.log global.kept global.made old id (Marked (Begun id (suc caller.number) key program)) (λ p other same. other (sym same), λ a. tt) (λ request now. absurd (cc now)) (around m cluster global old id whole) history)
    (leaves_caller old id now _ _ (λ p other. refl))
    (record {
      desk = λ desk c at_desk at_caller.
          let of = whole.parties.desks id tt desk caller at_desk at in record {
            same_id = of.same_id;
            known = of.known;
            vault = vault_still m (Marked (Begun id (suc caller.number) key program)) global.log (λ b k e same own. absurd (cc same)) (λ e same. absurd (cc same)) (λ k f s same. absurd (cc same)) (λ request same own. absurd (cc same)) of.vault;
            cached = ready_mild cluster (Marked (Begun id (suc caller.number) key program)) global.log global.made id (era_at old id).number desk.cache (begun_mild id (suc caller.number) key program) of.cached;
            one_each = of.one_each;
            none_open = of.none_open;
            round = idle_round c desk.round of.round;
          };
      caller = λ c at_caller. subst (IsCallerTrue (begun_global global id (suc caller.number) key program).log global.made id) (sym (own_set old.callers id now c at_caller)) (call_true history.lawful);
      own = messages_still (Marked (Begun id (suc caller.number) key program)) global.log (queue_at old.flow id).messages (whole.parties.own id);
      late = messages_still (Marked (Begun id (suc caller.number) key program)) global.log old.flow.late whole.parties.late;
    })
  where
    new : CallerView
    new = record { number = suc caller.number; call = Some (new_call key program (round_marks (era_at old id) - 1)) }

    log : List Happening
    log = Marked (Begun id (suc caller.number) key program) ∷ global.log

    idle_round : (c : CallerView) (round : Option Round) → IsOpenTrue cluster global.log global.made id (era_at old id).number caller (queue_at old.flow id).messages round
        → IsOpenTrue cluster log global.made id (era_at old id).number c (queue_at old.flow id).messages round
    idle_round c None of = of
    idle_round c (Some round) of = absurd (cc (none, of.is_open))

    low : caller.number ≡ calls_of id (marks_of global.log)
    low = (whole.parties.callers id tt caller at).number

    ended_before : IsEnded id (suc caller.number) (marks_of log) → IsEnded id (suc caller.number) (marks_of global.log)
    ended_before is = elim (newest_or is.stands) [
      | inl now ↦ absurd (cc now)
      | inr before ↦ record { rounds = is.rounds; answer = is.answer; stands = before }
    ]

    proposed_before : IsProposed id (suc caller.number) (marks_of log) → IsProposed id (suc caller.number) (marks_of global.log)
    proposed_before is = elim (newest_or is.stands) [
      | inl now ↦ absurd (cc now)
      | inr before ↦ record { proposal = is.proposal; stands = before; same_caller = is.same_caller; same_call = is.same_call }
    ]

    call_true : Lawful cluster log → IsCallerTrue log global.made id new
    call_true lawful = record {
      number = ap suc low ∙ sym (if_true (id == id) (suc (calls_of id (marks_of global.log))) (calls_of id (marks_of global.log)) (nat_is refl));
      call = λ call is. subst (IsCallTrue log global.made id (suc caller.number)) (some_is is) (record {
        begun = record { older = marks_of global.log; at = here };
        open_yet = λ ended. absurd (omega (arith, low, none_ended cluster global.log whole.history.lawful (ended_before ended)));
        unproposed = λ e proposed. absurd (omega (arith, low, none_proposed cluster global.log whole.history.lawful (proposed_before proposed)));
        proposed = λ some. absurd (cc some);
        harmed_set = no_harm;
        harmed = omega arith;
        told = λ told same. absurd (cc same);
      });
      ended = λ call is. elim (newest_or is.stands) [
        | inl now ↦ absurd (cc now)
        | inr before ↦ elim ((whole.parties.callers id tt caller at).ended call (record { proposal = is.proposal; stands = before; same_caller = is.same_caller; same_call = is.same_call })) [
          | inl open_ ↦ absurd (cc (none, open_.0))
          | inr ended ↦ inr (ended_later (Marked (Begun id (suc caller.number) key program)) global.log ended)
        ]
      ];
    }

-- another round of a call that is open
opens_again : {S V : Type 0} (m : Meaning S V) (cluster : Cluster) (global : GlobalState) (old : View S V) (id : ℕ) (caller : CallerView) (call : CallView) (reserved : ℕ)
    → IsAt old.callers id caller → caller.call ≡ Some call → ((desk : DeskView V) → IsAt old.desks id desk → desk.round ≡ None)
    → Whole m cluster global old → Whole m cluster global (with_call old id caller (tried_again call reserved))
opens_again {S} {V} m cluster global old id caller call reserved at is_open idle whole =
    let was = whole.parties.callers id tt caller at in
    let now : CallerView = record caller { call = Some (tried_again call reserved) } in
    settles m cluster global old (with_call old id caller (tried_again call reserved)) id (around m cluster global old id whole)
    (leaves_caller old id now _ _ (λ p other. refl))
    (record {
      desk = λ desk c at_desk at_caller.
          let of = whole.parties.desks id tt desk caller at_desk at in record {
            same_id = of.same_id;
            known = of.known;
            vault = of.vault;
            cached = of.cached;
            one_each = of.one_each;
            none_open = of.none_open;
            round = open_idle cluster global.log global.log global.made (era_at old id).number id caller c (queue_at old.flow id).messages desk.round (idle desk at_desk) of.round;
          };
      caller = λ c at_caller. subst (IsCallerTrue global.log global.made id) (sym (own_set old.callers id now c at_caller)) (record {
        number = was.number;
        call = λ x is. subst (IsCallTrue global.log global.made id caller.number) (some_is is) (let of = was.call call is_open in record {
          begun = of.begun;
          open_yet = of.open_yet;
          unproposed = of.unproposed;
          proposed = of.proposed;
          harmed_set = no_harm;
          harmed = omega arith;
          told = λ told same. absurd (cc same);
        });
        ended = ended_open global.log id caller.number caller.call (tried_again call reserved) was.ended;
      });
      own = whole.parties.own id;
      late = whole.parties.late;
    })

pub opens : {S V : Type 0} {cluster : Cluster} (m : Meaning S V) (old : View S V) (id : ℕ) (key : List ℕ) (program : List Clause) (new : View S V) → IsLogged m cluster old → Opens old id key program new → IsLogged m cluster new
opens {cluster = cluster} m old id key program new is (first caller at none room view) =
    subst (IsLogged m cluster) (sym view) (logged m cluster (begun_global is.global id (suc caller.number) key program) (opened old id caller key program)
    (opens_first m cluster is.global old id key program caller at none (whole_of m old is)) (marked (marks_of is.global.log) old.marks (Begun id (suc caller.number) key program) is.agrees.marks))
opens {cluster = cluster} m old id key program new is (again caller call reserved at is_open same_key same_program unproposed met idle room some view) =
    subst (IsLogged m cluster) (sym view) (logged m cluster is.global (with_call old id caller (tried_again call reserved)) (opens_again m cluster is.global old id caller call reserved at is_open idle (whole_of m old is)) is.agrees.marks)

-- of a call that opens, or goes on, nothing was proposed and no acceptor harmed in this round, and marks are reserved for it
pub record BeginsAnew (call : CallView) : Type 0 where
  pub unproposed : call.proposed ≡ None
  pub unharmed : call.harmed ≡ []
  pub some : 0 < call.reserved

pub anew : {S V : Type 0} (old : View S V) (id : ℕ) (key : List ℕ) (program : List Clause) (middle : View S V) (caller : CallerView) (call : CallView) → Opens old id key program middle
    → IsAt middle.callers id caller → caller.call ≡ Some call → BeginsAnew call
anew {S} {V} old id key program middle caller call (first was at none room view) at_caller is_open =
    let now : CallerView = record { number = suc was.number; call = Some (new_call key program (round_marks (era_at old id) - 1)) } in
    let same : caller ≡ now = own_set old.callers id now caller (subst (λ (v : View S V). IsAt v.callers id caller) view at_caller) in
    subst BeginsAnew (some_is (sym (ap (λ (c : CallerView). c.call) same) ∙ is_open)) (record { unproposed = refl; unharmed = refl; some = omega arith })
anew {S} {V} old id key program middle caller call (again was open_call reserved at was_open same_key same_program unproposed met idle room some view) at_caller is_open =
    let now : CallerView = record was { call = Some (tried_again open_call reserved) } in
    let same : caller ≡ now = own_set old.callers id now caller (subst (λ (v : View S V). IsAt v.callers id caller) view at_caller) in
    subst BeginsAnew (some_is (sym (ap (λ (c : CallerView). c.call) same) ∙ is_open)) (record { unproposed = unproposed; unharmed = refl; some = some.0 })
