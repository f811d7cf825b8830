-- What requests of a proposer's round do to what is known: each may be made, and nothing else changes.
use Rattle.std.proofs.Common.{◌≡◌, ◌<◌, ◌≤◌, ℕ, arith, true, List, [], ◌∷◌, refl, sym, subst, ◌∙◌, inl, inr}
use Rattle.std.specs.Prelude.{⊤, map, Option, None, Some, Contains, ◌⊎◌}
use Rattle.cas_ballot.specs.declared.ballot.Ballot.{Ballot}
use Rattle.cas_ballot.specs.Members.{has_member}
use Rattle.cas_cache.specs.declared.ready.Ready.{Ready}
use Rattle.cas_flow.specs.declared.message.Message.{Message}
use Rattle.cas_flow.specs.declared.message.Message.TheVariants as message
use Rattle.cas_round.proofs.Lists.{Has, has}
use Rattle.cas_slot.specs.declared.message.Ask.TheVariants as ask
use Rattle.cas_slot.specs.declared.message.Request.{Request}
use Rattle.cas_vault.specs.declared.vault.Vault.{Vault}
use Rattle.cas_record.specs.Logs.Happening.{Happening, Asked, Drew, marks_of}
use Rattle.cas_record.specs.Logs.Lawful.{Cluster}
use Rattle.cas_record.specs.Logs.Orderly.{MayAsk, IsAboveFloors}
use Rattle.cas_record.proofs.PlaceLemmas.{newest_or}
use Rattle.cas_record.specs.Places.{Stands, here}
use Rattle.cas_model.specs.Council.{ListingView, Question, Probe, NextKeys, NewAges, Removal, PlanView}
use Rattle.cas_model.specs.Eras.Listed.{IsPlanTrue}
use Rattle.cas_model.specs.Exchanges.Step.{question_to, HasTag, WhereDrawn}
use Rattle.cas_model.specs.Calls.Desks.{VaultGoesOn, HasKept}
use Rattle.cas_proposer.specs.Desk.{DeskView}
use Rattle.cas_model.specs.Parties.{IsMessageTrue, AreMessagesTrue, IsAged, IsVaultTrue, ArePromisesHeld, IsInHand, IsCallerTrue}
use Rattle.cas_protocol.specs.Protocol.{IsEndedAsk, Made, GlobalState, IsMadeAsk, IsAskable, Asks}
use Rattle.cas_model.specs.View.{DiskMeaning, Meaning, View, CallerView}
use Rattle.cas_model.proofs.Around.{Around, around_more}
use Rattle.cas_protocol.proofs.Events.{keeps}
use Rattle.cas_model.proofs.Frames.Harms.{has_of_map}
use Rattle.cas_model.proofs.Others.{IsAskedApart, LeavesCalls, ProposesNot, FloorsNot, AsksToRide, plan_still, above_still, later, hand_still, ready_still, vault_still, messages_still, caller_still}

-- each of these acceptors is asked
abbrev pub asked_log : (ℕ → Request) → List ℕ → List Happening → List Happening
asked_log f [] log = log
asked_log f (to ∷ tos) log = Asked (f to) ∷ asked_log f tos log

abbrev pub asked_global : GlobalState → (ℕ → Request) → List ℕ → GlobalState
asked_global global f tos = record global { log = asked_log f tos global.log }

-- what stays with each request stays with all
pub asked_all : (f : ℕ → Request) (P : List Happening → Type 0) → ((to : ℕ) (log : List Happening) → P log → P (Asked (f to) ∷ log)) → (tos : List ℕ) (log : List Happening) → P log → P (asked_log f tos log)
asked_all f P step [] log was = was
asked_all f P step (to ∷ tos) log was = step to (asked_log f tos log) (asked_all f P step tos log was)

pub asked_later : {x : Happening} (f : ℕ → Request) (tos : List ℕ) (log : List Happening) → Stands x log → Stands x (asked_log f tos log)
asked_later {x} f tos log = asked_all f (Stands x) (λ to l stands. later stands) tos log

pub asked_marks : (f : ℕ → Request) (tos : List ℕ) (log : List Happening) → marks_of (asked_log f tos log) ≡ marks_of log
asked_marks f tos log = asked_all f (λ l. marks_of l ≡ marks_of log) (λ to l same. same) tos log refl

pub asked_stands : (f : ℕ → Request) (to : ℕ) (tos : List ℕ) (log : List Happening) → Has to tos → Stands (Asked (f to)) (asked_log f tos log)
asked_stands f to [] log h = absurd h
asked_stands f to (x ∷ tos) log (inl now) = subst (λ (n : ℕ). Stands (Asked (f n)) (Asked (f x) ∷ asked_log f tos log)) now (record { older = asked_log f tos log; at = here })
asked_stands f to (x ∷ tos) log (inr h) = later (asked_stands f to tos log h)

-- the messages of these requests
pub asked_messages : (f : ℕ → Request) (tos : List ℕ) (log : List Happening) → AreMessagesTrue (asked_log f tos log) (map (λ to. message.Request (f to)) tos)
asked_messages f tos log each has_it =
    let of = has_of_map (λ (to : ℕ). message.Request (f to)) each tos (has each (map (λ to. message.Request (f to)) tos) has_it) in
    subst (λ (x : Message). IsMessageTrue (asked_log f tos log) x) of.1.1 (asked_stands f of.0 tos log of.1.0)

-- a request that stands is one of these, or stood before
pub asked_now : (f : ℕ → Request) (tos : List ℕ) (log : List Happening) {request : Request} → Stands (Asked request) (asked_log f tos log) → ((to : ℕ) × (request ≡ f to)) ⊎ Stands (Asked request) log
asked_now f [] log stands = inr stands
asked_now f (to ∷ tos) log {request} stands = elim (newest_or stands) [
  | inl now ↦ let same : request ≡ f to = cc now in inl (to, same)
  | inr before ↦ asked_now f tos log before
]

-- ---- what stays
asked_not : (request : Request) (k : List ℕ) (b : Ballot) → ProposesNot (Asked request) k b
asked_not request k b p now = absurd (cc now)

asked_none : (request : Request) → FloorsNot (Asked request)
asked_none request k f s now = absurd (cc now)

asked_calls : (request : Request) (id : ℕ) → LeavesCalls (Asked request) id
asked_calls request id = record { begins = λ n k p now. absurd (cc now); ends = λ n r a now. absurd (cc now); proposes = λ p now. absurd (cc now) }

asked_same : {request other : Request} → Asked request ≡ Asked other → request ≡ other
asked_same now = cc now

pub asked_vault : {S V : Type 0} (m : Meaning S V) (f : ℕ → Request) (tos : List ℕ) (log : List Happening) (id era : ℕ) (vault : Vault V) → ((to : ℕ) → IsAged m.disks (f to).age vault)
    → IsVaultTrue m log id era vault → IsVaultTrue m (asked_log f tos log) id era vault
asked_vault {S} {V} m f tos log id era vault aged =
    asked_all f (λ l. IsVaultTrue m l id era vault) (λ to l was. vault_still m (Asked (f to)) l (λ b k e now own. absurd (cc now)) (λ e now. absurd (cc now)) (asked_none (f to))
    (λ request now own. subst (λ (r : Request). IsAged m.disks r.age vault) (sym (asked_same now)) (aged to)) was) tos log

pub asked_caller : (f : ℕ → Request) (tos : List ℕ) (log : List Happening) (all : List Made) (id : ℕ) (caller : CallerView) → IsCallerTrue log all id caller → IsCallerTrue (asked_log f tos log) all id caller
asked_caller f tos log all id caller = asked_all f (λ l. IsCallerTrue l all id caller) (λ to l was. caller_still (Asked (f to)) l all caller (asked_calls (f to) id) was) tos log

pub asked_still : (f : ℕ → Request) (tos : List ℕ) (log : List Happening) (messages : List Message) → AreMessagesTrue log messages → AreMessagesTrue (asked_log f tos log) messages
asked_still f tos log messages = asked_all f (λ l. AreMessagesTrue l messages) (λ to l was. messages_still (Asked (f to)) l messages was) tos log

pub asked_hand : (f : ℕ → Request) (tos : List ℕ) (log : List Happening) (id era : ℕ) (key : List ℕ) (ballot : Ballot) → IsInHand log id era key ballot → IsInHand (asked_log f tos log) id era key ballot
asked_hand f tos log id era key ballot = asked_all f (λ l. IsInHand l id era key ballot) (λ to l was. hand_still (Asked (f to)) l (asked_not (f to) key ballot) (asked_none (f to)) was) tos log

-- promises stay where none of the requests is to accept what they rode on
pub asked_ready : (cluster : Cluster) (f : ℕ → Request) (tos : List ℕ) (log : List Happening) (all : List Made) (id era : ℕ) (cache : List (List ℕ × Ready))
    → ((to : ℕ) (key : List ℕ) (ready : Ready) → Contains cache (key, ready) → AsksToRide (Asked (f to)) key ready.read ready.ballot)
    → ArePromisesHeld cluster log all id era cache → ArePromisesHeld cluster (asked_log f tos log) all id era cache
asked_ready cluster f tos log all id era cache rides =
    asked_all f (λ l. ArePromisesHeld cluster l all id era cache)
    (λ to l were key ready has_it. ready_still cluster (Asked (f to)) l all (asked_not (f to) key ready.ballot) (asked_none (f to)) (rides to key ready has_it) (were key ready has_it)) tos log

-- ---- that they may be made
pub asked_around : {S V : Type 0} (m : Meaning S V) (cluster : Cluster) (global : GlobalState) (view : View S V) (id : ℕ) (f : ℕ → Request) (tos : List ℕ) → ((to : ℕ) → (f to).from ≡ id)
    → ((rest : List ℕ) (to : ℕ) → Has to tos → IsAskable cluster (asked_global global f rest) (f to)) → ((to : ℕ) → IsAskedApart view.council (f to))
    → Around m cluster global view id → Around m cluster (asked_global global f tos) view id
asked_around m cluster global view id f [] own may above around = around
asked_around m cluster global view id f (to ∷ tos) own may above around =
    let before = asked_around m cluster global view id f tos own (λ rest x h. may rest x (inr h)) above around in
    around_more m cluster (asked_log f tos global.log) global.kept global.made view id (Asked (f to)) (λ p other same. other (sym same ∙ own to), λ a. tt) (λ request now. let same : request ≡ f to = cc now in subst (IsAskedApart view.council) (sym same) (above to)) before
    (keeps cluster before.meets (asked_global global f tos) before.history (Asks (f to) (may tos to (inl refl))))

-- the tag of an exchange: proposer 0 drew it in the era, above the floors of no key
pub record IsTag (log : List Happening) (era : ℕ) (tag : Ballot) : Type 0 where
  pub own : tag.proposer ≡ 0
  pub drawn : Stands (Drew tag [] era) log
  pub above : IsAboveFloors (marks_of log) [] tag

pub asked_tag : (f : ℕ → Request) (tos : List ℕ) (log : List Happening) (era : ℕ) (tag : Ballot) → IsTag log era tag → IsTag (asked_log f tos log) era tag
asked_tag f tos log era tag = asked_all f (λ l. IsTag l era tag) (λ to l was. record { own = was.own; drawn = later was.drawn; above = above_still (Asked (f to)) l (asked_none (f to)) was.above }) tos log

-- a change of membership is known as before
pub asked_plan : (cluster : Cluster) (f : ℕ → Request) (tos : List ℕ) (log : List Happening) (plan : Option PlanView) → IsPlanTrue cluster log plan → IsPlanTrue cluster (asked_log f tos log) plan
asked_plan cluster f tos log plan = asked_all f (λ l. IsPlanTrue cluster l plan) (λ to l was. plan_still cluster (Asked (f to)) l plan (asked_none (f to)) was) tos log

-- what is asked is of no key's collection
abbrev pub IsOfNoKey : Question → Type 0
IsOfNoKey (Probe key) = ⊤
IsOfNoKey (NextKeys places) = ⊤
IsOfNoKey other = ⊥

-- a request of an exchange with such a tag
pub may_question : (cluster : Cluster) (global : GlobalState) (question : Question) (age era : ℕ) (tag : Ballot) (to : ℕ) → IsOfNoKey question → has_member (cluster.members era) to ≡ true → to < 64 → IsTag global.log era tag
    → IsAskable cluster global (question_to age tag question to)
may_question cluster global (Probe key) age era tag to plain member small is = record {
  may = record { era = era; drawn = is.drawn; own = is.own; member = member; above = is.above };
  made = tt;
  ended = tt;
  from = omega arith;
  to = small;
}
may_question cluster global (NextKeys places) age era tag to plain member small is = record {
  may = record { era = era; drawn = is.drawn; own = is.own; member = member; above = is.above };
  made = tt;
  ended = tt;
  from = omega arith;
  to = small;
}
may_question cluster global (NewAges key least) age era tag to plain member small is = absurd plain
may_question cluster global (Removal key) age era tag to plain member small is = absurd plain

-- a request to prepare a ballot that is in hand
pub may_prepare : (cluster : Cluster) (global : GlobalState) (request : Request) (id era : ℕ) (key : List ℕ) (ballot : Ballot) → request.from ≡ id → request.ask ≡ ask.Prepare key ballot
    → has_member (cluster.members era) request.to ≡ true → id ≤ 16 → request.to < 64 → IsInHand global.log id era key ballot → IsAskable cluster global request
may_prepare cluster global request id era key ballot from is member low small hand = record {
  may = subst (MayAsk cluster global.log request) (sym is)
      (record { era = era; drawn = hand.drawn; own = hand.own ∙ sym from; member = member; above = hand.above_floors });
  made = subst (IsMadeAsk global.made) (sym is) tt;
  ended = subst (IsEndedAsk (marks_of global.log)) (sym is) tt;
  from = subst (λ (n : ℕ). n ≤ 16) (sym from) low;
  to = small;
}

-- ---- the vault of an exchange
-- what failed where a tag was to be drawn failed
pub where_drawn : {A : Type 0} (listing : Option ListingView) → WhereDrawn listing A → A
where_drawn None is = is
where_drawn (Some listing) is = absurd is

pub goes_same : {V : Type 0} (m : DiskMeaning V) (vault : Vault V) → HasKept m vault vault
goes_same m vault = record { shows = record { counter = refl; kept = refl }; goes_on = record { still_past = λ tells n past. past; ages = λ tells age is. is; era = λ tells era other is. is; never_falls = omega arith } }

pub tag_goes_on : {V : Type 0} (m : DiskMeaning V) (listing : Option ListingView) (desk now : DeskView V) (tag : Ballot) → HasTag m listing desk now tag → VaultGoesOn m desk.vault now.vault
tag_goes_on m None desk now tag drawn = drawn.goes_on
tag_goes_on {V} m (Some listing) desk now tag (same_tag, same_vault) = subst (λ (v : Vault V). VaultGoesOn m desk.vault v) (sym same_vault) (goes_same m desk.vault).goes_on
