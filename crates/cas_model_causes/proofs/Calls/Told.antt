-- Why a call is told what it is.
use Rattle.std.proofs.Common.{◌≡◌, ◌⊎◌, Bool, inl, inr, ℕ, suc, ◌-◌, arith, ◌<◌, true, false, List, length, Option, None, Some, slice_set, Contains, refl, sym, ap, subst, ◌∙◌}
use Rattle.cas_ballot.specs.declared.ballot.Ballot.{Ballot}
use Rattle.cas_record.proofs.Tests.{ballot_same}
use Rattle.cas_ballot.specs.Ballot.{ballot_cmp, BallotLess}
use Rattle.std.specs.Prelude.{IfSome}
use Rattle.std.specs.Ordering.{is_eq}
use Rattle.cas_base.proofs.Bools.{and_left, and_right}
use Rattle.cas_cache.specs.Entries.{promise_at}
use Rattle.cas_change.specs.declared.program.Clause.{Clause}
use Rattle.cas_flow.specs.Flow.{queue_at}
use Rattle.cas_proposer.specs.Desk.{DeskView}
use Rattle.cas_proposer.specs.Round.{IsVerdictOf, has_quorum}
use Rattle.cas_proposer.specs.declared.round.Round.{Round}
use Rattle.cas_round.specs.Replies.{heard, is_prepare, is_accept, mets_of, met_by, is_heard}
use Rattle.cas_round.specs.declared.verdict.RoundVerdict.{RoundVerdict}
use Rattle.cas_round.specs.declared.verdict.RoundVerdict.TheVariants as verdict
use Rattle.cas_round.proofs.Lists.{has, contains, filter_has, map_has, PassesIn, PickedFrom}
use Rattle.cas_record.specs.Logs.Happening.{Happening}
use Rattle.cas_record.specs.Logs.Lawful.{Cluster}
use Rattle.cas_record.specs.Logs.Orderly.{Orderly, MayReply, IsTold as IsSo}
use Rattle.cas_record.proofs.Logs.Orders.{reason}
use Rattle.cas_record.specs.declared.answer.Answer.{Answer}
use Rattle.cas_record.specs.declared.answer.Answer.TheVariants as answer
use Rattle.cas_record.specs.declared.answer.Cause.TheVariants as cause
use Rattle.cas_slot.specs.declared.message.Ask.{Ask}
use Rattle.cas_slot.specs.declared.message.Ask.TheVariants as ask
use Rattle.cas_slot.specs.declared.message.Phase.{Phase}
use Rattle.cas_slot.specs.declared.message.Reply.{Reply}
use Rattle.cas_slot.specs.declared.message.Tell.{Tell}
use Rattle.cas_slot.specs.declared.message.Tell.TheVariants as tell
use Rattle.cas_slot.specs.Message.{phase_of, tag_of}
use Rattle.cas_model.specs.History.{IsRemembered}
use Rattle.cas_model.specs.Parties.{WereMade, WasMade, IsOpenTrue, IsPrepareTrue, IsAcceptTrue}
use Rattle.cas_model.specs.Step.{Step, Begin, Propose, Count}
use Rattle.cas_model.specs.Stops.Step.{OpenCallAt}
use Rattle.cas_model.specs.Council.{reserved_by}
use Rattle.cas_model.specs.Calls.Step as calls
use Rattle.cas_model.specs.View.{Meaning, View, CallView, CallerView, IsAt, new_call, new_caller, reserved_of, era_at}
use Rattle.cas_model.proofs.Places.{at_one, at_set, set_set, some_is}
use Rattle.cas_model_causes.specs.Calls.Causes.{CallIsTold}
use Rattle.cas_model_causes.specs.Calls.Told.{HasVerdict, BeginsBy, PreparesBy, AcceptsBy, TellsAbove, AnswersHaveCauses, WhatIsMetIsAbove}
use Rattle.cas_model_causes.proofs.Calls.Ends.{told_by, desk_by, quorum_accepted, quorum_prepared}

-- ---- what is told
-- a caller is told one thing at a time
pub told_once : {S V : Type 0} (view : View S V) (id : ℕ) (told other : Option Answer) → CallIsTold view id told → CallIsTold view id other → told ≡ other
told_once view id told other a b =
    let same : a.caller ≡ b.caller = at_one view.callers id a.at_caller b.at_caller in
    let call : a.call ≡ b.call = some_is (sym a.is_open ∙ ap (λ (c : CallerView). c.call) same ∙ b.is_open) in
    sym a.told_is ∙ ap (λ (c : CallView). c.told) call ∙ b.told_is

-- ---- the beginning
-- what stays as a call opens
record IsCallOpenedIn {S V : Type 0} (old middle : View S V) (id : ℕ) (key : List ℕ) (call : CallView) : Type 0 where
  pub desks : middle.desks ≡ old.desks
  pub same_key : call.key ≡ key
  pub told : call.told ≡ None
  pub full : calls.IsFull middle id → suc call.reserved < calls.round_marks (era_at middle id) → calls.IsFull old id

is_opened : {S V : Type 0} (old middle : View S V) (id : ℕ) (key : List ℕ) (program : List Clause) → calls.Opens old id key program middle → (caller : CallerView) (call : CallView) → IsAt middle.callers id caller → caller.call ≡ Some call → IsCallOpenedIn old middle id key call
is_opened {S} {V} old middle id key program (calls.first was at none_open room is) caller call there is_call =
    let made : CallView = new_call key program (calls.round_marks (era_at old id) - 1) in
    let next : CallerView = record { number = suc was.number; call = Some made } in
    let same : next ≡ caller = at_one middle.callers id (subst (λ (l : List CallerView). IsAt l id next) (sym (ap (λ (w : View S V). w.callers) is)) (at_set old.callers id was next at)) there in
    let made_is : made ≡ call = some_is (ap (λ (c : CallerView). c.call) same ∙ is_call) in record {
      desks = ap (λ (w : View S V). w.desks) is;
      same_key = sym (ap (λ (c : CallView). c.key) made_is);
      told = sym (ap (λ (c : CallView). c.told) made_is);
      full = λ full short. absurd (too_short (calls.round_marks (era_at old id)) (calls.round_marks (era_at middle id)) call.reserved (ap (λ (w : View S V). calls.round_marks (era_at w id)) is) (sym (ap (λ (c : CallView). c.reserved) made_is)) short);
    }
  where
    too_short : (marks marks_then reserved : ℕ) → marks_then ≡ marks → reserved ≡ marks - 1 → suc reserved < marks_then → ⊥
    too_short marks marks_then reserved a b c = omega (arith, a, b, c)
is_opened {S} {V} old middle id key program (calls.again was open_call reserved at open_is key_is program_is none_proposed met no_round room some is) caller call there is_call =
    let made : CallView = calls.tried_again open_call reserved in
    let next : CallerView = record was { call = Some made } in
    let same : next ≡ caller = at_one middle.callers id (subst (λ (l : List CallerView). IsAt l id next) (sym (ap (λ (w : View S V). w.callers) is)) (at_set old.callers id was next at)) there in
    let made_is : made ≡ call = some_is (ap (λ (c : CallerView). c.call) same ∙ is_call) in record {
      desks = ap (λ (w : View S V). w.desks) is;
      same_key = sym (ap (λ (c : CallView). c.key) made_is) ∙ key_is;
      told = sym (ap (λ (c : CallView). c.told) made_is);
      full = λ full short. as_before full;
    }
  where
    as_before : calls.IsFull middle id → calls.IsFull old id
    as_before full =
        let callers_is : slice_set middle.callers id new_caller ≡ slice_set old.callers id new_caller =
        ap (λ (w : View S V). slice_set w.callers id new_caller) is ∙ set_set old.callers id (record was { call = Some (calls.tried_again open_call reserved) }) new_caller in
        let marks_is : length middle.marks ≡ length old.marks = ap (λ (w : View S V). length w.marks) is in
        let era_is : calls.round_marks (era_at middle id) ≡ calls.round_marks (era_at old id) = ap (λ (w : View S V). calls.round_marks (era_at w id)) is in
        let reserved_is : reserved_of (slice_set middle.callers id new_caller) ≡ reserved_of (slice_set old.callers id new_caller) = ap reserved_of callers_is in
        let council_is : reserved_by middle.council ≡ reserved_by old.council = ap (λ (w : View S V). reserved_by w.council) is in
        omega (arith, full, marks_is, era_is, reserved_is, council_is)

-- the view's desk of a place is the old one's, or the new one that was put there
old_desk : {S V : Type 0} (old middle : View S V) (id : ℕ) (desk : DeskView V) → middle.desks ≡ old.desks → IsAt middle.desks id desk → IsAt old.desks id desk
old_desk {S} {V} old middle id desk same at = subst (λ (l : List (DeskView V)). IsAt l id desk) same at

stays_by : {S V : Type 0} (m : Meaning S V) (old middle new : View S V) (id : ℕ) (key : List ℕ) (call : CallView) (told : Answer) → IsCallOpenedIn old middle id key call → calls.IsNoBeginning told
    → ((desk : DeskView V) → IsAt middle.desks id desk → (desk.round ≡ None) × (told ≡ answer.Down → desk.down ≡ true)) → (told ≡ answer.RecordFull → calls.IsFull middle id × (suc call.reserved < calls.round_marks (era_at middle id))) → BeginsBy m old id key told new
stays_by {S} {V} m old middle new id key call answer.Down is no_beginning desks full = λ desk at. (desks desk (subst (λ (l : List (DeskView V)). IsAt l id desk) (sym is.desks) at)).1 refl
stays_by m old middle new id key call answer.RecordFull is no_beginning desks full = is.full (full refl).0 (full refl).1
stays_by m old middle new id key call (answer.NoMemory proposed) is no_beginning desks full = no_beginning
stays_by m old middle new id key call (answer.Done _ _ _) is no_beginning desks full = absurd no_beginning
stays_by m old middle new id key call (answer.Conflict _) is no_beginning desks full = absurd no_beginning
stays_by m old middle new id key call (answer.Aged _) is no_beginning desks full = absurd no_beginning
stays_by m old middle new id key call (answer.Full _) is no_beginning desks full = absurd no_beginning
stays_by m old middle new id key call (answer.Short _ _) is no_beginning desks full = absurd no_beginning
stays_by m old middle new id key call (answer.Moved _) is no_beginning desks full = absurd no_beginning
stays_by m old middle new id key call answer.Crashed is no_beginning desks full = absurd no_beginning
stays_by m old middle new id key call (answer.Unsettled _) is no_beginning desks full = absurd no_beginning
stays_by m old middle new id key call answer.Spent is no_beginning desks full = absurd no_beginning
stays_by m old middle new id key call answer.VaultFault is no_beginning desks full = absurd no_beginning

pub begins_by : {S V : Type 0} (m : Meaning S V) (old new : View S V) (id : ℕ) (key : List ℕ) (program : List Clause) (told : Answer) → Step m old (Begin id key program) new → CallIsTold new id (Some told) → BeginsBy m old id key told new
begins_by {S} {V} m old new id key program told by was = in_round by.begins
  where
    opened : IsCallOpenedIn old by.middle id key by.call
    opened = is_opened old by.middle id key program by.opens by.caller by.call by.at_caller by.is_open

    -- the caller is told this, if anything
    tells : (next : CallView) (other : Answer) → new.callers ≡ slice_set by.middle.callers id (record by.caller { call = Some next }) → next.told ≡ Some other → BeginsBy m old id key other new → BeginsBy m old id key told new
    tells next other callers is_told by_other =
        let same : Some told ≡ Some other = told_once new id (Some told) next.told was (told_by by.middle new id by.caller next by.at_caller callers) ∙ is_told in
        subst (λ (a : Answer). BeginsBy m old id key a new) (sym (some_is same)) by_other

    tells_nothing : (caller : CallerView) (next : CallView) → IsAt new.callers id caller → caller.call ≡ Some next → next.told ≡ None → BeginsBy m old id key told new
    tells_nothing caller next at is_call none =
        let same : Some told ≡ None = told_once new id (Some told) None was (record { caller = caller; at_caller = at; call = next; is_open = is_call; told_is = none }) in absurd (cc same)

    in_round : calls.BeginsRound m by.middle id by.caller by.call new → BeginsBy m old id key told new
    in_round (calls.prepares desk now ballot round flow at up few begins sends is) =
        tells_nothing by.caller by.call (subst (λ (l : List CallerView). IsAt l id by.caller) (sym (ap (λ (w : View S V). w.callers) is)) by.at_caller) by.is_open opened.told
    in_round (calls.proposes desk now ready ride round outcome flow at up few begins made sends is) =
        let told_none = told_by by.middle new id by.caller (calls.proposing by.call outcome) by.at_caller (ap (λ (w : View S V). w.callers) is) in
        tells_nothing told_none.caller told_none.call told_none.at_caller told_none.is_open told_none.told_is
    in_round (calls.stays other no_beginning no_round full is) = tells (calls.over by.call other) other (ap (λ (w : View S V). w.callers) is) refl (stays_by m old by.middle new id key by.call other opened no_beginning no_round full)
    in_round (calls.spent desk now at none_open up no_promise spent kept now_is is) =
        tells (calls.over by.call answer.Spent) answer.Spent (ap (λ (w : View S V). w.callers) is) refl
        (record { desk = desk; at_desk = old_desk old by.middle id desk opened.desks at; no_promise = subst (λ (k : List ℕ). promise_at k desk.cache ≡ None) opened.same_key no_promise; counter = spent })
    in_round (calls.fails desk now at none_open up fails is) =
        tells (calls.over by.call answer.VaultFault) answer.VaultFault (ap (λ (w : View S V). w.callers) is) refl
        (record { desk = desk; at_desk = old_desk old by.middle id desk opened.desks at; now = now; at_now = desk_by by.middle new id desk now at (ap (λ (w : View S V). w.desks) is); rose = fails.faulted })
    in_round (calls.loses desk now ballot at none_open up loses is) = tells (calls.over by.call (answer.NoMemory false)) (answer.NoMemory false) (ap (λ (w : View S V). w.callers) is) refl refl

-- ---- the prepare phase
-- a verdict that refuses is the cause of what is told by it
refuses_by : {S V : Type 0} (m : Meaning S V) (old new : View S V) (id : ℕ) (why : RoundVerdict) (told : Answer) → HasVerdict old id why → calls.refusal_by why ≡ Some told → PreparesBy m old id told new
refuses_by m old new id (verdict.Met ballot) told has is = subst (λ (a : Answer). PreparesBy m old id a new) (some_is is) (verdict.Met ballot, has, refl)
refuses_by m old new id (verdict.Aged least) told has is = subst (λ (a : Answer). PreparesBy m old id a new) (some_is is) (verdict.Aged least, has, refl)
refuses_by m old new id (verdict.Full acceptor) told has is = subst (λ (a : Answer). PreparesBy m old id a new) (some_is is) (verdict.Full acceptor, has, refl)
refuses_by m old new id (verdict.Short got need) told has is = subst (λ (a : Answer). PreparesBy m old id a new) (some_is is) (verdict.Short got need, has, refl)
refuses_by m old new id verdict.Quorum told has is = absurd (cc is)

pub prepares_by : {S V : Type 0} (m : Meaning S V) (old new : View S V) (id : ℕ) (told : Answer) → Step m old (Propose id) new → CallIsTold new id (Some told) → PreparesBy m old id told new
prepares_by {S} {V} m old new id told by was = in_phase by.at_round.of_call by.at_round.desk by.at_round.at_desk by.at_round.round by.at_round.is_open by.proposes
  where
    in_phase : (at : OpenCallAt old id) (desk : DeskView V) → IsAt old.desks id desk → (round : Round) → desk.round ≡ Some round → calls.ProposesOrEnds m old id desk round at.caller at.call new → PreparesBy m old id told new
    in_phase at desk at_desk round is_open (calls.proposes now turned read by_ ride outcome flow quorum confirmers reads turns made sends is) =
        let same : Some told ≡ None = told_once new id (Some told) None was (told_by old new id at.caller (calls.proposing at.call outcome) at.at_caller (ap (λ (w : View S V). w.callers) is)) in absurd (cc same)
    in_phase at desk at_desk round is_open (calls.ends now why other verdict_is refused ends is) =
        let same : Some told ≡ Some other = told_once new id (Some told) (Some other) was (told_by old new id at.caller (calls.over at.call other) at.at_caller (ap (λ (w : View S V). w.callers) is)) in
        subst (λ (a : Answer). PreparesBy m old id a new) (sym (some_is same)) (refuses_by m old new id why other (record { desk = desk; at_desk = at_desk; round = round; is_round = is_open; verdict_is = verdict_is }) refused)
    in_phase at desk at_desk round is_open (calls.fails now fails is) =
        let same : Some told ≡ Some answer.VaultFault = told_once new id (Some told) (Some answer.VaultFault) was (told_by old new id at.caller (calls.over at.call answer.VaultFault) at.at_caller (ap (λ (w : View S V). w.callers) is)) in
        subst (λ (a : Answer). PreparesBy m old id a new) (sym (some_is same))
        (record { desk = desk; at_desk = at_desk; now = now; at_now = desk_by old new id desk now at_desk (ap (λ (w : View S V). w.desks) is); rose = fails.faulted })
    in_phase at desk at_desk round is_open (calls.loses now ballot loses is) =
        let same : Some told ≡ Some (answer.NoMemory false) = told_once new id (Some told) (Some (answer.NoMemory false)) was (told_by old new id at.caller (calls.over at.call (answer.NoMemory false)) at.at_caller (ap (λ (w : View S V). w.callers) is)) in
        subst (λ (a : Answer). PreparesBy m old id a new) (sym (some_is same)) refl

-- ---- the accept phase
-- an open phase with a quorum has that verdict
pub has_quorum_verdict : (round : Round) → has_quorum round.phase ≡ true → IsVerdictOf round verdict.Quorum
has_quorum_verdict round quorum = record {
  prepare = λ replies is. quorum_prepared round replies quorum is;
  accept = λ prepared replies is. quorum_accepted round prepared replies quorum is;
}

pub accepts_by : {S V : Type 0} (m : Meaning S V) (old new : View S V) (id : ℕ) (told : Answer) → Step m old (Count id) new → CallIsTold new id (Some told) → AcceptsBy old id told
accepts_by {S} {V} m old new id told by was = in_phase by.at_round.of_call by.at_round.desk by.at_round.at_desk by.at_round.round by.at_round.is_open by.counts
  where
    in_phase : (at : OpenCallAt old id) (desk : DeskView V) → IsAt old.desks id desk → (round : Round) → desk.round ≡ Some round → calls.CountsOrEnds m old id desk round at.caller at.call new → AcceptsBy old id told
    in_phase at desk at_desk round is_open (calls.counts now by_ outcome quorum confirmers proposed ends is) =
        let done : Answer = answer.Done outcome.state outcome.took round.ballot in
        let same : Some told ≡ Some done = told_once new id (Some told) (Some done) was (told_by old new id at.caller (calls.over at.call done) at.at_caller (ap (λ (w : View S V). w.callers) is)) in
        subst (λ (a : Answer). AcceptsBy old id a) (sym (some_is same)) (record { desk = desk; at_desk = at_desk; round = round; is_round = is_open; verdict_is = has_quorum_verdict round quorum })
    in_phase at desk at_desk round is_open (calls.ends now why reason verdict_is caused ends is) =
        let same : Some told ≡ Some (answer.Unsettled reason) = told_once new id (Some told) (Some (answer.Unsettled reason)) was (told_by old new id at.caller (calls.over at.call (answer.Unsettled reason)) at.at_caller (ap (λ (w : View S V). w.callers) is)) in
        subst (λ (a : Answer). AcceptsBy old id a) (sym (some_is same)) (why, record { desk = desk; at_desk = at_desk; round = round; is_round = is_open; verdict_is = verdict_is }, caused)

pub causes : {S V : Type 0} (m : Meaning S V) → AnswersHaveCauses m
causes m = record { begins = begins_by m; prepares = prepares_by m; accepts = accepts_by m }

-- ---- what is met
-- who is asked to prepare or to accept, and tells of a ballot, tells of one above that of the request
above_by : (log : List Happening) (acceptor : ℕ) (question : Ask) (seen : Ballot) → (is_prepare (phase_of question) ≡ true) ⊎ (is_accept (phase_of question) ≡ true) → IsSo log acceptor question (tell.Met seen) → BallotLess (tag_of question) seen
above_by log acceptor (ask.Prepare key ballot) seen of_round told = told
above_by log acceptor (ask.Accept key ballot era ride state) seen of_round told = told
above_by log acceptor (ask.Ages tag least) seen of_round told = elim of_round [ inl e ↦ absurd (cc e) | inr e ↦ absurd (cc e) ]
above_by log acceptor (ask.Remove key tomb) seen of_round told = elim of_round [ inl e ↦ absurd (cc e) | inr e ↦ absurd (cc e) ]
above_by log acceptor (ask.List tag after) seen of_round told = elim of_round [ inl e ↦ absurd (cc e) | inr e ↦ absurd (cc e) ]
above_by log acceptor (ask.Probe tag key) seen of_round told = elim of_round [ inl e ↦ absurd (cc e) | inr e ↦ absurd (cc e) ]

-- it is told that way alone
met_is : (answer : Tell) (met : Ballot) → met_by answer ≡ Some met → answer ≡ tell.Met met
met_is (tell.Met seen) met e = ap (λ (b : Ballot). tell.Met b) (some_is e)
met_is (tell.Promised _) met e = absurd (cc e)
met_is tell.Accepted met e = absurd (cc e)
met_is (tell.Aged _) met e = absurd (cc e)
met_is tell.Full met e = absurd (cc e)
met_is tell.AgesSet met e = absurd (cc e)
met_is tell.Removed met e = absurd (cc e)
met_is tell.Kept met e = absurd (cc e)
met_is (tell.Listed _ _ _) met e = absurd (cc e)
met_is (tell.Probed _ _) met e = absurd (cc e)

-- a reply of a round that was made and tells of a ballot tells of one above that of the round
made_above : (cluster : Cluster) (log : List Happening) (reply : Reply) (met : Ballot) → Orderly cluster log → WasMade log reply → (is_prepare reply.phase ≡ true) ⊎ (is_accept reply.phase ≡ true) → met_by reply.tell ≡ Some met → BallotLess reply.tag met
made_above cluster log reply met orderly made of_round tells =
    let may : MayReply made.replied.older made.request reply = reason cluster orderly made.replied.at in
    let asked : (is_prepare (phase_of made.request.ask) ≡ true) ⊎ (is_accept (phase_of made.request.ask) ≡ true) = subst (λ (p : Phase). (is_prepare p ≡ true) ⊎ (is_accept p ≡ true)) may.phase of_round in
    let told = subst (IsSo made.replied.older made.request.to made.request.ask) (met_is reply.tell met tells) may.told in
    subst (λ (b : Ballot). BallotLess b met) (sym may.tag) (above_by made.replied.older made.request.to made.request.ask met asked told)

-- among the replies that were heard at a ballot, one that tells of another tells of one above it
heard_above : (cluster : Cluster) (log : List Happening) (is_phase : Phase → Bool) (ballot met : Ballot) (replies : List Reply) → Orderly cluster log → WereMade log replies → ((p : Phase) → is_phase p ≡ true → (is_prepare p ≡ true) ⊎ (is_accept p ≡ true))
    → Contains (mets_of (heard is_phase ballot replies)) met → BallotLess ballot met
heard_above cluster log is_phase ballot met replies orderly made of_round stands =
    let picked : PickedFrom (λ reply. met_by reply.tell) met (heard is_phase ballot replies) = map_has (λ reply. met_by reply.tell) met (heard is_phase ballot replies) (has met (mets_of (heard is_phase ballot replies)) stands) in
    let passed : PassesIn (is_heard is_phase ballot) picked.source replies = filter_has (is_heard is_phase ballot) picked.source replies picked.stands in
    let of_phase = and_left (is_phase picked.source.phase) (is_eq (ballot_cmp picked.source.tag ballot)) passed.passes in
    let same : picked.source.tag ≡ ballot = ballot_same {a = picked.source.tag} {b = ballot} (and_right (is_phase picked.source.phase) (is_eq (ballot_cmp picked.source.tag ballot)) passed.passes) in
    subst (λ (b : Ballot). BallotLess b met) same (made_above cluster log picked.source met orderly (made picked.source (contains picked.source replies passed.stands)) (of_round picked.source.phase of_phase) picked.gives)

pub met_above : {S V : Type 0} (m : Meaning S V) → WhatIsMetIsAbove m
met_above {S} {V} m shelves_tell disks_tell view id caller desk round met is at_caller at_desk is_round verdict_is =
    by_round desk.round is_round (is.followed.logged.agrees.desks id desk caller at_desk at_caller).round
  where
    log : List Happening
    log = is.followed.logged.global.log

    in_phase : (call : CallView) → IsPrepareTrue log id call (queue_at view.flow id).messages round ⊎ IsAcceptTrue log is.followed.logged.global.made id caller.number call (queue_at view.flow id).messages round → BallotLess round.ballot met
    in_phase call (inl prepare) =
        heard_above is.followed.cluster log is_prepare round.ballot met prepare.replies is.followed.logged.history.orderly prepare.made (λ p e. inl e) ((verdict_is.prepare prepare.replies prepare.preparing).1.stands)
    in_phase call (inr accept) =
        heard_above is.followed.cluster log is_accept round.ballot met accept.replies is.followed.logged.history.orderly accept.replied (λ p e. inr e) ((verdict_is.accept accept.prepared accept.replies accept.accepting).1.stands)

    by_round : (open_ : Option Round) → open_ ≡ Some round → IsOpenTrue is.followed.cluster log is.followed.logged.global.made id (era_at view id).number caller (queue_at view.flow id).messages open_ → BallotLess round.ballot met
    by_round None e of = absurd (cc e)
    by_round (Some other) e of = in_phase of.call (subst (λ (r : Round). IsPrepareTrue log id of.call (queue_at view.flow id).messages r ⊎ IsAcceptTrue log is.followed.logged.global.made id caller.number of.call (queue_at view.flow id).messages r) (some_is e) of.phase)

-- where a round's open phase meets a ballot, it is above
pub verdict_above : {S V : Type 0} (m : Meaning S V) (view : View S V) (id : ℕ) (caller : CallerView) (met : Ballot) → m.shelves.tells → m.disks.tells → IsRemembered m view → IsAt view.callers id caller → HasVerdict view id (verdict.Met met) → (desk : DeskView V) → IsAt view.desks id desk
    → IfSome desk.round (λ round. BallotLess round.ballot met)
verdict_above {S} {V} m view id caller met shelves_tell disks_tell is at_caller has desk at_desk = by_round desk.round refl
  where
    by_round : (open_ : Option Round) → desk.round ≡ open_ → IfSome open_ (λ round. BallotLess round.ballot met)
    by_round None e = tt
    by_round (Some round) e =
        let same : has.round ≡ round = some_is (sym has.is_round ∙ ap (λ (d : DeskView V). d.round) (at_one view.desks id has.at_desk at_desk) ∙ e) in
        met_above m shelves_tell disks_tell view id caller desk round met is at_caller at_desk e (subst (λ (r : Round). IsVerdictOf r (verdict.Met met)) same has.verdict_is)

-- only a ballot that was met is told as one
conflict_is : (why : RoundVerdict) (met : Ballot) → calls.refusal_by why ≡ Some (answer.Conflict met) → why ≡ verdict.Met met
conflict_is (verdict.Met ballot) met e = ap (λ (b : Ballot). verdict.Met b) (same_met (some_is e))
  where
    same_met : answer.Conflict ballot ≡ answer.Conflict met → ballot ≡ met
    same_met e = cc e
conflict_is (verdict.Aged least) met e = absurd (cc e)
conflict_is (verdict.Full acceptor) met e = absurd (cc e)
conflict_is (verdict.Short got need) met e = absurd (cc e)
conflict_is verdict.Quorum met e = absurd (cc e)

unsettled_is : (why : RoundVerdict) (met : Ballot) → calls.cause_by why ≡ Some (cause.Met met) → why ≡ verdict.Met met
unsettled_is (verdict.Met ballot) met e = ap (λ (b : Ballot). verdict.Met b) (same_met (some_is e))
  where
    same_met : cause.Met ballot ≡ cause.Met met → ballot ≡ met
    same_met e = cc e
unsettled_is (verdict.Aged least) met e = absurd (cc e)
unsettled_is (verdict.Full acceptor) met e = absurd (cc e)
unsettled_is (verdict.Short got need) met e = absurd (cc e)
unsettled_is verdict.Quorum met e = absurd (cc e)

pub prepares_above : {S V : Type 0} (m : Meaning S V) (old new : View S V) (id : ℕ) (caller : CallerView) (told : Answer) → m.shelves.tells → m.disks.tells → IsRemembered m old → IsAt old.callers id caller → PreparesBy m old id told new → TellsAbove old id told
prepares_above m old new id caller (answer.Conflict met) shelves_tell disks_tell is at by = verdict_above m old id caller met shelves_tell disks_tell is at (subst (HasVerdict old id) (conflict_is by.0 met by.2) by.1)
prepares_above m old new id caller (answer.Unsettled (cause.Met met)) shelves_tell disks_tell is at by = absurd (no_cause by.0 by.2)
  where
    no_cause : (why : RoundVerdict) → calls.refusal_by why ≡ Some (answer.Unsettled (cause.Met met)) → ⊥
    no_cause (verdict.Met ballot) e = absurd (cc e)
    no_cause (verdict.Aged least) e = absurd (cc e)
    no_cause (verdict.Full acceptor) e = absurd (cc e)
    no_cause (verdict.Short got need) e = absurd (cc e)
    no_cause verdict.Quorum e = absurd (cc e)
prepares_above m old new id caller (answer.Unsettled (cause.Aged _)) shelves_tell disks_tell is at by = tt
prepares_above m old new id caller (answer.Unsettled (cause.Full _)) shelves_tell disks_tell is at by = tt
prepares_above m old new id caller (answer.Unsettled (cause.Short _ _)) shelves_tell disks_tell is at by = tt
prepares_above m old new id caller (answer.Unsettled cause.Crashed) shelves_tell disks_tell is at by = tt
prepares_above m old new id caller (answer.Unsettled (cause.Moved _)) shelves_tell disks_tell is at by = tt
prepares_above m old new id caller (answer.Done _ _ _) shelves_tell disks_tell is at by = tt
prepares_above m old new id caller (answer.Aged _) shelves_tell disks_tell is at by = tt
prepares_above m old new id caller (answer.Full _) shelves_tell disks_tell is at by = tt
prepares_above m old new id caller (answer.Short _ _) shelves_tell disks_tell is at by = tt
prepares_above m old new id caller (answer.Moved _) shelves_tell disks_tell is at by = tt
prepares_above m old new id caller answer.Crashed shelves_tell disks_tell is at by = tt
prepares_above m old new id caller answer.Down shelves_tell disks_tell is at by = tt
prepares_above m old new id caller answer.Spent shelves_tell disks_tell is at by = tt
prepares_above m old new id caller answer.RecordFull shelves_tell disks_tell is at by = tt
prepares_above m old new id caller answer.VaultFault shelves_tell disks_tell is at by = tt
prepares_above m old new id caller (answer.NoMemory _) shelves_tell disks_tell is at by = tt

pub accepts_above : {S V : Type 0} (m : Meaning S V) (old : View S V) (id : ℕ) (caller : CallerView) (told : Answer) → m.shelves.tells → m.disks.tells → IsRemembered m old → IsAt old.callers id caller → AcceptsBy old id told → TellsAbove old id told
accepts_above m old id caller (answer.Unsettled (cause.Met met)) shelves_tell disks_tell is at by = verdict_above m old id caller met shelves_tell disks_tell is at (subst (HasVerdict old id) (unsettled_is by.0 met by.2) by.1)
accepts_above m old id caller (answer.Conflict met) shelves_tell disks_tell is at by = absurd by
accepts_above m old id caller (answer.Unsettled (cause.Aged _)) shelves_tell disks_tell is at by = tt
accepts_above m old id caller (answer.Unsettled (cause.Full _)) shelves_tell disks_tell is at by = tt
accepts_above m old id caller (answer.Unsettled (cause.Short _ _)) shelves_tell disks_tell is at by = tt
accepts_above m old id caller (answer.Unsettled cause.Crashed) shelves_tell disks_tell is at by = tt
accepts_above m old id caller (answer.Unsettled (cause.Moved _)) shelves_tell disks_tell is at by = tt
accepts_above m old id caller (answer.Done _ _ _) shelves_tell disks_tell is at by = tt
accepts_above m old id caller (answer.Aged _) shelves_tell disks_tell is at by = tt
accepts_above m old id caller (answer.Full _) shelves_tell disks_tell is at by = tt
accepts_above m old id caller (answer.Short _ _) shelves_tell disks_tell is at by = tt
accepts_above m old id caller (answer.Moved _) shelves_tell disks_tell is at by = tt
accepts_above m old id caller answer.Crashed shelves_tell disks_tell is at by = tt
accepts_above m old id caller answer.Down shelves_tell disks_tell is at by = tt
accepts_above m old id caller answer.Spent shelves_tell disks_tell is at by = tt
accepts_above m old id caller answer.RecordFull shelves_tell disks_tell is at by = tt
accepts_above m old id caller answer.VaultFault shelves_tell disks_tell is at by = tt
accepts_above m old id caller (answer.NoMemory _) shelves_tell disks_tell is at by = tt
