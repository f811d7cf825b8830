-- A round ends and its caller is told how; what was proposed is counted; a call ends; a desk stops and is up again.
use Rattle.std.proofs.Common.{◌≡◌, ◌≤◌, ℕ, zero, suc, Bool, true, false, List, [], ◌∷◌, Option, None, Some, refl, sym, ap, subst, ◌∙◌, inl, inr, arith}
use Rattle.std.specs.Prelude.{◌⊎◌, ◌-◌, length, slice_set, slice_index_or}
use Rattle.cas_ballot.specs.declared.ballot.Ballot.{Ballot}
use Rattle.cas_cache.specs.declared.ready.Ready.{Ready}
use Rattle.cas_model.proofs.Calls.Failing.{failed_without}
use Rattle.cas_cache.specs.Entries.{without}
use Rattle.cas_flow.specs.Flow.{FlowView, queue_at, emptied, all_joined, abandoned}
use Rattle.cas_flow.specs.Queue.{QueueView, empty_queue, joined}
use Rattle.cas_flow.specs.declared.message.Message.{Message}
use Rattle.cas_proposer.specs.Desk.{DeskView}
use Rattle.cas_proposer.specs.Round.{is_of, is_preparing, IsVerdictOf}
use Rattle.cas_proposer.specs.declared.round.OpenPhase.{OpenPhase}
use Rattle.cas_proposer.specs.declared.round.OpenPhase.TheVariants.{Prepare, Accept}
use Rattle.cas_proposer.specs.declared.round.Round.{Round}
use Rattle.cas_quorum.specs.declared.era.Era.{Era}
use Rattle.cas_ballot.specs.Members.{IsMemberSet}
use Rattle.cas_round.specs.Round.{IsPrepareVerdict, IsAcceptVerdict}
use Rattle.cas_round.specs.Replies.{is_prepare, is_accept, is_promise, is_acceptance}
use Rattle.cas_round.specs.declared.verdict.RoundVerdict.{RoundVerdict}
use Rattle.cas_round.specs.declared.verdict.RoundVerdict.TheVariants as verdict
use Rattle.cas_slot.specs.declared.message.Phase.{Phase}
use Rattle.cas_record.specs.declared.answer.Answer.{Answer}
use Rattle.cas_record.specs.declared.answer.Answer.TheVariants as answer
use Rattle.cas_record.specs.declared.answer.Cause.{Cause}
use Rattle.cas_record.specs.Logs.Happening.{Happening, marks_of}
use Rattle.cas_record.specs.Logs.Lawful.{Cluster}
use Rattle.cas_record.specs.Legal.{IsProposed, harms_of}
use Rattle.cas_record.specs.Logs.Orderly.{Orderly}
use Rattle.cas_model.specs.Parties.{AreMessagesTrue, IsEraOf, IsVaultTrue, ArePromisesHeld, HaveOneEach, HasNone, IsPrepareTrue, IsAcceptTrue, IsOpenTrue, IsDeskTrue, IsToldTrue, IsCallTrue, IsCallerTrue, asked_in}
use Rattle.cas_protocol.specs.Protocol.{Made, GlobalState}
use Rattle.cas_model.specs.Calls.Step.{IsNoBeginning, over, with_call, refusal_by, cause_by}
use Rattle.cas_model.specs.Calls.Desks.{VaultGoesOn, MayHaveDrawn, EndsRound, FailsToDraw, LosesMemory}
use Rattle.cas_model.specs.View.{Meaning, View, CallView, CallerView, IsAt, with_desk, era_at}
use Rattle.cas_model.proofs.Around.{Whole, Around, around, settles, leaves_both, leaves_desk}
use Rattle.cas_model.proofs.Calls.Caches.{contains_without, ready_fewer, one_without}
use Rattle.cas_model.proofs.Calls.Draws.{drew, drew_log, drew_vault, drew_ready, drew_caller, drew_messages, drew_around, vault_goes_on}
use Rattle.cas_model.proofs.Others.{ended_open}
use Rattle.cas_model.proofs.Places.{own_set, some_is, contains_none, contains_new, contains_older, queue_other}
use Rattle.cas_model.proofs.Frames.Steps.{joined_true}
use Rattle.cas_model.proofs.Calls.Rounds.{none_waits}
use Rattle.cas_model.proofs.Frames.Shortfalls.{short_of, confirms_prepare, confirms_accept}

-- ---- what a caller may be told
-- why a round could not begin, where nothing was proposed
pub told_nothing : (log : List Happening) (all : List Made) (id number : ℕ) (told : Answer) → IsNoBeginning told → (IsProposed id number (marks_of log) → ⊥) → IsToldTrue log all id number told
told_nothing log all id number answer.Down is none = record { refused = λ e. none; unsettled = λ e. absurd (cc e); harmed = omega arith }
told_nothing log all id number answer.RecordFull is none = record { refused = λ e. none; unsettled = λ e. absurd (cc e); harmed = omega arith }
told_nothing log all id number (answer.NoMemory proposed) is none = record { refused = λ e. none; unsettled = λ e. absurd (cc (e, is)); harmed = omega arith }
told_nothing log all id number told is none = absurd is

-- that the vault failed, or has drawn its last ballot
pub told_fault : (log : List Happening) (all : List Made) (id number : ℕ) → (IsProposed id number (marks_of log) → ⊥) → IsToldTrue log all id number answer.VaultFault
told_fault log all id number none = record { refused = λ e. none; unsettled = λ e. absurd (cc e); harmed = omega arith }

pub told_spent : (log : List Happening) (all : List Made) (id number : ℕ) → (IsProposed id number (marks_of log) → ⊥) → IsToldTrue log all id number answer.Spent
told_spent log all id number none = record { refused = λ e. none; unsettled = λ e. absurd (cc e); harmed = omega arith }

-- how a phase without a quorum ended
pub refusal_told : (log : List Happening) (all : List Made) (id number : ℕ) (by : RoundVerdict) (told : Answer) → refusal_by by ≡ Some told → (IsProposed id number (marks_of log) → ⊥)
    → ((got need : ℕ) → by ≡ verdict.Short got need → need - got ≤ harms_of id number (marks_of log)) → IsToldTrue log all id number told
refusal_told log all id number verdict.Quorum told e none short = absurd (cc e)
refusal_told log all id number (verdict.Met ballot) told e none short = subst (IsToldTrue log all id number) (some_is e) (record { refused = λ r. none; unsettled = λ u. absurd (cc u); harmed = omega arith })
refusal_told log all id number (verdict.Aged least) told e none short = subst (IsToldTrue log all id number) (some_is e) (record { refused = λ r. none; unsettled = λ u. absurd (cc u); harmed = omega arith })
refusal_told log all id number (verdict.Full acceptor) told e none short = subst (IsToldTrue log all id number) (some_is e) (record { refused = λ r. none; unsettled = λ u. absurd (cc u); harmed = omega arith })
refusal_told log all id number (verdict.Short got need) told e none short = subst (IsToldTrue log all id number) (some_is e) (record { refused = λ r. none; unsettled = λ u. absurd (cc u); harmed = short got need refl })

pub unsettled_told : (log : List Happening) (all : List Made) (id number : ℕ) (by : RoundVerdict) (why : Cause) → cause_by by ≡ Some why → IsProposed id number (marks_of log)
    → ((got need : ℕ) → by ≡ verdict.Short got need → need - got ≤ harms_of id number (marks_of log)) → IsToldTrue log all id number (answer.Unsettled why)
unsettled_told log all id number verdict.Quorum why e was short = absurd (cc e)
unsettled_told log all id number (verdict.Met ballot) why e was short = subst (λ (c : Cause). IsToldTrue log all id number (answer.Unsettled c)) (some_is e) (record { refused = λ r. absurd (cc r); unsettled = λ u. was; harmed = omega arith })
unsettled_told log all id number (verdict.Aged least) why e was short = subst (λ (c : Cause). IsToldTrue log all id number (answer.Unsettled c)) (some_is e) (record { refused = λ r. absurd (cc r); unsettled = λ u. was; harmed = omega arith })
unsettled_told log all id number (verdict.Full acceptor) why e was short = subst (λ (c : Cause). IsToldTrue log all id number (answer.Unsettled c)) (some_is e) (record { refused = λ r. absurd (cc r); unsettled = λ u. was; harmed = omega arith })
unsettled_told log all id number (verdict.Short got need) why e was short = subst (λ (c : Cause). IsToldTrue log all id number (answer.Unsettled c)) (some_is e) (record { refused = λ r. absurd (cc r); unsettled = λ u. was; harmed = short got need refl })

-- a call that is told so
pub call_told : (log : List Happening) (all : List Made) (id number : ℕ) (call : CallView) (told : Answer) (closed : Bool) (reserved : ℕ) → IsCallTrue log all id number call → IsToldTrue log all id number told
    → IsCallTrue log all id number (record call { reserved = reserved; told = Some told; is_closed = closed })
call_told log all id number call told closed reserved was is = record {
  begun = was.begun;
  open_yet = was.open_yet;
  unproposed = was.unproposed;
  proposed = was.proposed;
  harmed_set = was.harmed_set;
  harmed = was.harmed;
  told = λ other same. subst (IsToldTrue log all id number) (some_is same) is;
}

-- ---- shortfalls
phase_of_prepare : (era : Era) (open_phase : OpenPhase) (x : Phase) → is_preparing open_phase ≡ true → is_of open_phase x ≡ true → is_prepare x ≡ true
phase_of_prepare era (Prepare p) x preparing e = e
phase_of_prepare era (Accept p) x preparing e = absurd (cc preparing)

phase_of_accept : (era : Era) (open_phase : OpenPhase) (x : Phase) → is_preparing open_phase ≡ false → is_of open_phase x ≡ true → is_accept x ≡ true
phase_of_accept era (Prepare p) x preparing e = absurd (cc preparing)
phase_of_accept era (Accept p) x preparing e = e

asked_preparing : (era : Era) (open_phase : OpenPhase) → is_preparing open_phase ≡ true → asked_in era open_phase ≡ era.prep
asked_preparing era (Prepare p) preparing = refl
asked_preparing era (Accept p) preparing = absurd (cc preparing)

asked_accepting : (era : Era) (open_phase : OpenPhase) → is_preparing open_phase ≡ false → asked_in era open_phase ≡ era.acc
asked_accepting era (Prepare p) preparing = absurd (cc preparing)
asked_accepting era (Accept p) preparing = refl

pub short_prepare : (cluster : Cluster) (log : List Happening) (id : ℕ) (call : CallView) (round : Round) (by : RoundVerdict) (got need : ℕ) → Orderly cluster log → is_preparing round.phase ≡ true → IsEraOf cluster round.era
    → IsPrepareTrue log id call [] round → IsMemberSet call.harmed → IsVerdictOf round by → by ≡ verdict.Short got need → need - got ≤ length call.harmed
short_prepare cluster log id call round by got need orderly preparing era of set_is is short =
    short_of cluster log round of.replies call.harmed round.era.prep round.era.need_prep is_prepare is_promise got need (λ x e. phase_of_prepare round.era round.phase x preparing e) confirms_prepare orderly of.made of.heard
    (asked_preparing round.era round.phase preparing) era.prep_set set_is era.sized.prep (subst (IsPrepareVerdict round.era round.ballot of.replies) short (is.prepare of.replies of.preparing))

pub short_accept : (cluster : Cluster) (log : List Happening) (all : List Made) (id number : ℕ) (call : CallView) (round : Round) (by : RoundVerdict) (got need : ℕ) → Orderly cluster log → is_preparing round.phase ≡ false → IsEraOf cluster round.era
    → IsAcceptTrue log all id number call [] round → IsMemberSet call.harmed → IsVerdictOf round by → by ≡ verdict.Short got need → need - got ≤ length call.harmed
short_accept cluster log all id number call round by got need orderly accepting era of set_is is short =
    short_of cluster log round of.replies call.harmed round.era.acc round.era.need_acc is_accept is_acceptance got need (λ x e. phase_of_accept round.era round.phase x accepting e) confirms_accept orderly of.replied of.heard
    (asked_accepting round.era round.phase accepting) era.acc_set set_is era.sized.acc (subst (IsAcceptVerdict round.era round.ballot of.replies) short (is.accept of.prepared of.replies of.accepting))

-- ---- a desk without an open round
-- what it knows once no round is open there
pub record IsDeskQuiet {S V : Type 0} (m : Meaning S V) (cluster : Cluster) (log : List Happening) (all : List Made) (id era : ℕ) (desk : DeskView V) : Type 0 where
  pub same_id : desk.id ≡ id
  pub known : id ≤ cluster.last_proposer
  pub vault : IsVaultTrue m log id era desk.vault
  pub cached : ArePromisesHeld cluster log all id era desk.cache
  pub one_each : HaveOneEach desk.cache
  pub none_open : desk.round ≡ None

pub quiet_true : {S V : Type 0} (m : Meaning S V) (cluster : Cluster) (log : List Happening) (all : List Made) (id era : ℕ) (caller : CallerView) (waiting : List Message) (desk : DeskView V) → waiting ≡ [] → IsDeskQuiet m cluster log all id era desk
    → IsDeskTrue m cluster log all era id caller waiting desk
quiet_true m cluster log all id era caller waiting desk none is = record {
  same_id = is.same_id;
  known = is.known;
  vault = is.vault;
  cached = is.cached;
  one_each = is.one_each;
  none_open = subst (λ (r : Option Round). HasNone r desk.cache) (sym is.none_open) tt;
  round = subst (IsOpenTrue cluster log all id era caller waiting) (sym is.none_open) none;
}

-- the cache has no more than it had
same_or_without : {S V : Type 0} (m : Meaning S V) (cluster : Cluster) (log : List Happening) (all : List Made) (id era : ℕ) (key : List ℕ) (old new : List (List ℕ × Ready)) → (new ≡ old) ⊎ (new ≡ without key old)
    → ArePromisesHeld cluster log all id era old → HaveOneEach old → ArePromisesHeld cluster log all id era new × HaveOneEach new
same_or_without m cluster log all id era key old new (inl same) were one = (subst (ArePromisesHeld cluster log all id era) (sym same) were, subst HaveOneEach (sym same) one)
same_or_without m cluster log all id era key old new (inr fewer) were one =
    (subst (ArePromisesHeld cluster log all id era) (sym fewer) (ready_fewer cluster log all id era (without key old) old (λ entry h. contains_without key old h) were), subst HaveOneEach (sym fewer) (one_without key old one))

pub quiet_fails : {S V : Type 0} (m : Meaning S V) (cluster : Cluster) (log : List Happening) (all : List Made) (id era : ℕ) (caller : CallerView) (waiting : List Message) (key : List ℕ) {promises : List (List ℕ × Ready)} (desk now : DeskView V) → m.disks.tells
    → IsDeskTrue m cluster log all era id caller waiting desk → FailsToDraw m.disks promises desk now → ((now.cache ≡ desk.cache) ⊎ (now.cache ≡ without key desk.cache))
    → IsDeskQuiet m cluster log all id era now
quiet_fails {S} {V} m cluster log all id era caller waiting key desk now tells of by fewer =
    let cache = same_or_without m cluster log all id era key desk.cache now.cache fewer of.cached of.one_each in
    record {
      same_id = ap (λ (d : DeskView V). d.id) by.desk ∙ of.same_id;
      known = of.known;
      vault = vault_goes_on m log id era tells by.goes_on of.vault;
      cached = cache.0;
      one_each = cache.1;
      none_open = ap (λ (d : DeskView V). d.round) by.desk;
    }

quiet_loses : {S V : Type 0} (m : Meaning S V) (cluster : Cluster) (log : List Happening) (all : List Made) (id era : ℕ) (caller : CallerView) (waiting : List Message) (key : List ℕ) (desk now : DeskView V) (ballot : Option Ballot) → m.disks.tells
    → IsDeskTrue m cluster log all era id caller waiting desk → (by : LosesMemory m.disks key desk now ballot) → MayHaveDrawn m.disks id desk.vault by.middle ballot → IsDeskQuiet m cluster (drew_log ballot key era log) all id era now
quiet_loses {S} {V} m cluster log all id era caller waiting key desk now ballot tells of by drawn =
    let cache = same_or_without m cluster (drew_log ballot key era log) all id era key desk.cache now.cache by.cache (drew_ready cluster log all id era desk.cache key ballot of.cached) of.one_each in
    record {
      same_id = ap (λ (d : DeskView V). d.id) by.desk ∙ of.same_id;
      known = of.known;
      vault = vault_goes_on m (drew_log ballot key era log) id era tells by.goes_on (drew_vault m log id era key desk.vault by.middle ballot tells drawn of.vault);
      cached = cache.0;
      one_each = cache.1;
      none_open = ap (λ (d : DeskView V). d.round) by.desk;
    }

pub quiet_ends : {S V : Type 0} (m : Meaning S V) (cluster : Cluster) (log : List Happening) (all : List Made) (id era : ℕ) (caller : CallerView) (waiting : List Message) (desk now : DeskView V) (round : Round) → m.disks.tells
    → IsDeskTrue m cluster log all era id caller waiting desk → EndsRound m.disks desk now round None → IsDeskQuiet m cluster log all id era now
quiet_ends {S} {V} m cluster log all id era caller waiting desk now round tells of by =
    let cache = same_or_without m cluster log all id era round.key desk.cache now.cache (inr (ap (λ (d : DeskView V). d.cache) by.desk)) of.cached of.one_each in
    record {
      same_id = ap (λ (d : DeskView V). d.id) by.desk ∙ of.same_id;
      known = of.known;
      vault = vault_goes_on m log id era tells by.goes_on of.vault;
      cached = cache.0;
      one_each = cache.1;
      none_open = ap (λ (d : DeskView V). d.round) by.desk;
    }

-- ---- the view then
-- the proposer's round is closed, its frames are gone, and its caller is told how
pub quiets : {S V : Type 0} (m : Meaning S V) (cluster : Cluster) (global : GlobalState) (old : View S V) (id : ℕ) (caller : CallerView) (call : CallView) (now : DeskView V) (flow : FlowView)
    → Around m cluster global old id → IsCallerTrue global.log global.made id caller → IsCallTrue global.log global.made id caller.number call → IsDeskQuiet m cluster global.log global.made id (era_at old id).number now
    → (queue_at flow id).messages ≡ [] → ((p : ℕ) → (p ≡ id → ⊥) → (queue_at flow p).messages ≡ (queue_at old.flow p).messages) → AreMessagesTrue global.log flow.late
    → Whole m cluster global (record (with_call (with_desk old id now) id caller call) { flow = flow })
quiets {S} {V} m cluster global old id caller call now flow rest was call_true quiet none others late =
    settles m cluster global old (record (with_call (with_desk old id now) id caller call) { flow = flow }) id rest
    (leaves_both old id now (record caller { call = Some call }) _ _ (others))
    (record {
      desk = λ d c at_d at_c.
          subst (λ (x : DeskView V). IsDeskTrue m cluster global.log global.made (era_at old id).number id c (queue_at flow id).messages x) (sym (own_set old.desks id now d at_d))
          (quiet_true m cluster global.log global.made id (era_at old id).number c (queue_at flow id).messages now none quiet);
      caller = λ c at_c. subst (IsCallerTrue global.log global.made id) (sym (own_set old.callers id (record caller { call = Some call }) c at_c))
          (record { number = was.number; call = λ x is. subst (IsCallTrue global.log global.made id caller.number) (some_is is) call_true; ended = ended_open global.log id caller.number caller.call call was.ended });
      own = subst (AreMessagesTrue global.log) (sym none) (λ each h. absurd (contains_none h));
      late = late;
    })

-- ---- frames that are abandoned
pub all_joined_true : (log : List Happening) (messages late : List Message) → AreMessagesTrue log messages → AreMessagesTrue log late → AreMessagesTrue log (all_joined late messages)
all_joined_true log [] late own were = λ each h. were each h
all_joined_true log (one ∷ messages) late own were = all_joined_true log messages (joined late one) (λ each h. own each (contains_older messages h)) (joined_true log late one were (own one (contains_new one messages)))

pub none_left : (flow : FlowView) (id : ℕ) → (queue_at (abandoned flow id) id).messages ≡ []
none_left flow id = by_place flow.own id (queue_at flow id)
  where
    by_place : (own : List QueueView) (p : ℕ) (queue : QueueView) → (slice_index_or (slice_set own p (emptied queue)) p empty_queue).messages ≡ []
    by_place [] p queue = refl
    by_place (q ∷ own) zero queue = refl
    by_place (q ∷ own) (suc p) queue = by_place own p queue

pub others_left : (flow : FlowView) (id p : ℕ) → (p ≡ id → ⊥) → (queue_at (abandoned flow id) p).messages ≡ (queue_at flow p).messages
others_left flow id p other = ap (λ (q : QueueView). q.messages) (queue_other flow.own id p (emptied (queue_at flow id)) other)

-- ---- a round ends without a proposal or with one that is not known to stand
pub told_fails : {S V : Type 0} (m : Meaning S V) (cluster : Cluster) (global : GlobalState) (old : View S V) (id : ℕ) (caller : CallerView) (call : CallView) (key : List ℕ) (desk now : DeskView V) (told : Answer) → m.disks.tells
    → IsAt old.callers id caller → caller.call ≡ Some call → IsAt old.desks id desk → (queue_at old.flow id).messages ≡ [] → FailsToDraw m.disks (without key desk.cache) desk now
    → IsToldTrue global.log global.made id caller.number told
    → Whole m cluster global old → Whole m cluster global (with_call (with_desk old id now) id caller (over call told))
told_fails m cluster global old id caller call key desk now told tells at_caller is_open at_desk none by is whole =
    let was = whole.parties.callers id tt caller at_caller in
    quiets m cluster global old id caller (over call told) now old.flow (around m cluster global old id whole) was
    (call_told global.log global.made id caller.number call told call.is_closed 1 (was.call call is_open) is)
    (quiet_fails m cluster global.log global.made id (era_at old id).number caller (queue_at old.flow id).messages key desk now tells (whole.parties.desks id tt desk caller at_desk at_caller) by (failed_without m.disks key desk now by))
    none (λ p other. refl) whole.parties.late

pub told_ends : {S V : Type 0} (m : Meaning S V) (cluster : Cluster) (global : GlobalState) (old : View S V) (id : ℕ) (caller : CallerView) (call : CallView) (desk now : DeskView V) (round : Round) (told : Answer) → m.disks.tells
    → IsAt old.callers id caller → caller.call ≡ Some call → IsAt old.desks id desk → (queue_at old.flow id).messages ≡ [] → EndsRound m.disks desk now round None → IsToldTrue global.log global.made id caller.number told
    → Whole m cluster global old → Whole m cluster global (with_call (with_desk old id now) id caller (over call told))
told_ends m cluster global old id caller call desk now round told tells at_caller is_open at_desk none by is whole =
    let was = whole.parties.callers id tt caller at_caller in
    quiets m cluster global old id caller (over call told) now old.flow (around m cluster global old id whole) was
    (call_told global.log global.made id caller.number call told call.is_closed 1 (was.call call is_open) is)
    (quiet_ends m cluster global.log global.made id (era_at old id).number caller (queue_at old.flow id).messages desk now round tells (whole.parties.desks id tt desk caller at_desk at_caller) by)
    none (λ p other. refl) whole.parties.late

-- the desk stays as it was, but for what its vault does not show
pub told_kept : {S V : Type 0} (m : Meaning S V) (cluster : Cluster) (global : GlobalState) (old : View S V) (id : ℕ) (caller : CallerView) (call : CallView) (desk now : DeskView V) (told : Answer) → m.disks.tells
    → IsAt old.callers id caller → caller.call ≡ Some call → IsAt old.desks id desk → desk.round ≡ None → VaultGoesOn m.disks desk.vault now.vault → now ≡ record desk { vault = now.vault } → IsToldTrue global.log global.made id caller.number told
    → Whole m cluster global old → Whole m cluster global (with_call (with_desk old id now) id caller (over call told))
told_kept {S} {V} m cluster global old id caller call desk now told tells at_caller is_open at_desk idle on is_now is whole =
    let was = whole.parties.callers id tt caller at_caller in
    let of = whole.parties.desks id tt desk caller at_desk at_caller in
    quiets m cluster global old id caller (over call told) now old.flow (around m cluster global old id whole) was
    (call_told global.log global.made id caller.number call told call.is_closed 1 (was.call call is_open) is)
    (record {
      same_id = ap (λ (d : DeskView V). d.id) is_now ∙ of.same_id;
      known = of.known;
      vault = vault_goes_on m global.log id (era_at old id).number tells on of.vault;
      cached = subst (ArePromisesHeld cluster global.log global.made id (era_at old id).number) (sym (ap (λ (d : DeskView V). d.cache) is_now)) of.cached;
      one_each = subst HaveOneEach (sym (ap (λ (d : DeskView V). d.cache) is_now)) of.one_each;
      none_open = ap (λ (d : DeskView V). d.round) is_now ∙ idle;
    })
    (none_waits cluster global.log global.made id (era_at old id).number caller (queue_at old.flow id).messages desk.round idle of.round) (λ p other. refl) whole.parties.late

-- no memory was found, where nothing was proposed
pub told_loses : {S V : Type 0} (m : Meaning S V) (cluster : Cluster) (global : GlobalState) (old : View S V) (id : ℕ) (caller : CallerView) (call : CallView) (key : List ℕ) (desk now : DeskView V) (ballot : Option Ballot) → m.disks.tells
    → IsAt old.callers id caller → caller.call ≡ Some call → call.proposed ≡ None → IsAt old.desks id desk → (queue_at old.flow id).messages ≡ [] → LosesMemory m.disks key desk now ballot
    → Whole m cluster global old → Whole m cluster (drew global ballot key (era_at old id).number) (with_call (with_desk old id now) id caller (over call (answer.NoMemory false)))
told_loses {S} {V} m cluster global old id caller call key desk now ballot tells at_caller is_open unproposed at_desk none by whole =
    let of = whole.parties.desks id tt desk caller at_desk at_caller in
    let era = (era_at old id).number in
    let drawn = subst (λ (i : ℕ). MayHaveDrawn m.disks i desk.vault by.middle ballot) of.same_id by.drawn in
    let after = drew global ballot key era in
    let was = drew_caller global.log global.made id caller key era ballot (whole.parties.callers id tt caller at_caller) in
    let call_true = was.call call is_open in
    quiets m cluster after old id caller (over call (answer.NoMemory false)) now old.flow
    (drew_around m cluster global old id key desk.vault by.middle ballot of.known drawn of.vault (around m cluster global old id whole)) was
    (call_told after.log after.made id caller.number call (answer.NoMemory false) call.is_closed 1 call_true (told_nothing after.log after.made id caller.number (answer.NoMemory false) refl (call_true.unproposed unproposed)))
    (quiet_loses m cluster global.log global.made id era caller (queue_at old.flow id).messages key desk now ballot tells of by drawn)
    none (λ p other. refl) (drew_messages global.log old.flow.late key era ballot whole.parties.late)

-- the same of a call that did not begin: no caller is told
pub lost : {S V : Type 0} (m : Meaning S V) (cluster : Cluster) (global : GlobalState) (old : View S V) (id : ℕ) (key : List ℕ) (desk now : DeskView V) (ballot : Option Ballot) → m.disks.tells
    → IsAt old.desks id desk → desk.round ≡ None → LosesMemory m.disks key desk now ballot → (caller : CallerView) → IsAt old.callers id caller
    → Whole m cluster global old → Whole m cluster (drew global ballot key (era_at old id).number) (with_desk old id now)
lost {S} {V} m cluster global old id key desk now ballot tells at_desk idle by caller at_caller whole =
    let of = whole.parties.desks id tt desk caller at_desk at_caller in
    let none = none_waits cluster global.log global.made id (era_at old id).number caller (queue_at old.flow id).messages desk.round idle of.round in
    let era = (era_at old id).number in
    let drawn = subst (λ (i : ℕ). MayHaveDrawn m.disks i desk.vault by.middle ballot) of.same_id by.drawn in
    let after = drew global ballot key era in
    settles m cluster after old (with_desk old id now) id (drew_around m cluster global old id key desk.vault by.middle ballot of.known drawn of.vault (around m cluster global old id whole))
    (leaves_desk old id now _ (λ p other. refl))
    (record {
      desk = λ d c at_d at_c.
          subst (λ (x : DeskView V). IsDeskTrue m cluster after.log after.made era id c (queue_at old.flow id).messages x) (sym (own_set old.desks id now d at_d))
          (quiet_true m cluster after.log after.made id era c (queue_at old.flow id).messages now none
          (quiet_loses m cluster global.log global.made id era caller (queue_at old.flow id).messages key desk now ballot tells of by drawn));
      caller = λ c at_c. drew_caller global.log global.made id c key era ballot (whole.parties.callers id tt c at_c);
      own = drew_messages global.log (queue_at old.flow id).messages key era ballot (whole.parties.own id);
      late = drew_messages global.log old.flow.late key era ballot whole.parties.late;
    })
