-- Whatever is called on a cluster, no member finds a probe too old.
use Rattle.std.proofs.Common.{◌≡◌, ◌≤◌, ◌<◌, ℕ, zero, suc, List, [], ◌∷◌, ◌++◌, length, Option, None, Some, Ok, reverse, refl, sym, ap, subst, ◌∙◌, inl, inr, arith}
use Rattle.std.specs.Prelude.{replicate, slice_index_or, Contains}
use Rattle.cas_base.proofs.Bools.{true_or_false}
use Rattle.cas_flow.specs.Flow.{queue_at, taken, empty_flow}
use Rattle.cas_flow.specs.Queue.{empty_queue}
use Rattle.cas_slot.specs.Ages.{least_age}
use Rattle.cas_slot.specs.Contents.{Contents}
use Rattle.cas_slot.specs.Table.{Handles}
use Rattle.cas_vault.specs.declared.vault.Vault.{Vault}
use Rattle.cas_vault.specs.Vault.{kept_of}
use Rattle.cas_model.specs.Collection.State.{ages_of}
use Rattle.cas_model.specs.Parties.{IsAged}
use Rattle.cas_model.proofs.Safety.Parts.{at_low}
use Rattle.cas_model_causes.specs.Exchanges.Unaged.{TellsWithin, BearsWithin, FlowsWithin, AreWithin, IsUnagedTell, IsOldEnough, IsUnaged, ProbesAreUnaged, IsToldSo, ProbesAreToldSo}
use Rattle.cas_model_causes.specs.Exchanges.Probed.{IsToldOf}
use Rattle.cas_model_causes.proofs.Exchanges.Unaged.{IsOfAges, within_then}
use Rattle.cas_model_causes.proofs.Exchanges.Vaults.{ages_kept}
use Rattle.cas_ballot.specs.declared.ballot.Ballot.{Ballot}
use Rattle.cas_flow.specs.Message.{head_of}
use Rattle.cas_flow.specs.declared.message.Message.{Message}
use Rattle.cas_flow.specs.declared.message.Message.TheVariants as message
use Rattle.cas_proposer.specs.Desk.{DeskView}
use Rattle.cas_record.specs.declared.mark.Mark.{Mark}
use Rattle.cas_record.specs.declared.operator.Probe.{Probe as Answered}
use Rattle.cas_slot.specs.declared.message.Ask.{Ask}
use Rattle.cas_slot.specs.declared.message.Ask.TheVariants as ask
use Rattle.cas_slot.specs.declared.message.Reply.{Reply}
use Rattle.cas_slot.specs.declared.message.Request.{Request}
use Rattle.cas_slot.specs.declared.message.Tell.{Tell}
use Rattle.cas_slot.specs.declared.message.Tell.TheVariants as tell
use Rattle.cas_round.proofs.Lists.{has}
use Rattle.cas_model.specs.Council.{Question, Probe, ExchangeView, Council, exchange_place}
use Rattle.cas_model.specs.History.{IsRemembered}
use Rattle.cas_model.specs.Safe.{IsSafe}
use Rattle.cas_model.specs.Step as step
use Rattle.cas_model.specs.Step.{Step}
use Rattle.cas_model.specs.Exchanges.Step as council
use Rattle.cas_model.specs.Exchanges.Step.{hears, new_exchange, question_to, questions_to, TurnsExchange}
use Rattle.cas_model.specs.View.{Meaning, View, IsAt}
use Rattle.cas_model.proofs.Frames.Steps.{Thins, taken_thins}
use Rattle.cas_model.proofs.Frames.Harms.{has_of_map}
use Rattle.cas_model.proofs.Places.{some_is, contains_at, contains_append, contains_none, newest_or_older}
use Rattle.cas_model_causes.proofs.Exchanges.Answering.{replied_messages}
use Rattle.cas_model_causes.proofs.Exchanges.Tellers.{told_before}
use Rattle.cas_model_causes.proofs.Exchanges.Touched.{Touched, is_same, is_over, is_broken, is_asked, turned, touched, tells_none, no_reply, broken_told}
use Rattle.cas_quorum.specs.declared.era.Era.{Era}

-- no frame waits in queues that are empty
all_empty : (size place : ℕ) → (slice_index_or (replicate size empty_queue) place empty_queue).messages ≡ []
all_empty zero place = refl
all_empty (suc size) zero = refl
all_empty (suc size) (suc place) = all_empty size place

module _ {S V : Type 0} (m : Meaning S V) where
  -- ---- ages
  weaker : (P Q : ℕ → Type 0) (view : View S V) → ((n : ℕ) → P n → Q n) → AreWithin m P view → AreWithin m Q view
  weaker P Q view goes was = record {
    acceptors = λ id acceptor at. let of = was.acceptors id acceptor at in record { keeps = λ up. goes _ (of.keeps up); left = λ started left may. goes _ (of.left started left may) };
    flows = record { own = λ place each there. bears each (was.flows.own place each there); late = λ each there. bears each (was.flows.late each there) };
  }
    where
      tells : (question : Ask) → TellsWithin P question → TellsWithin Q question
      tells (ask.Ages tag least) is = goes (least_age least 0) is
      tells (ask.Prepare key ballot) is = tt
      tells (ask.Accept key ballot era ride state) is = tt
      tells (ask.Remove key tomb) is = tt
      tells (ask.List tag after) is = tt
      tells (ask.Probe tag key) is = tt

      bears : (each : Message) → BearsWithin P each → BearsWithin Q each
      bears (message.Request request) is = tells request.ask is
      bears (message.Reply reply) is = tt

  no_age : (vault : Vault V) → IsAged m.disks 0 vault
  no_age vault = record { kept = omega arith; left = λ c kept may on. omega arith }

  aged_ages : (vault : Vault V) → IsOfAges (λ n. IsAged m.disks n vault)
  aged_ages vault = record { none = no_age vault; greater = λ a b first second. record { kept = omega (arith, first.kept, second.kept); left = λ c kept may on. omega (arith, first.left c kept may on, second.left c kept may on) } }

  few_ages : (age : ℕ) → IsOfAges (λ n. n ≤ age)
  few_ages age = record { none = omega arith; greater = λ a b first second. omega (arith, first, second) }

  -- the age of proposer 0 stands first among those that are told
  first_age : (ages : List ℕ) → 0 < length ages → IsAt ages 0 (least_age (ages_of ages) 0)
  first_age [] some = absurd (omega (arith, some))
  first_age (age ∷ ages) some = refl

  held_then : m.shelves.tells → m.disks.tells → (old : View S V) (event : step.Event) (new : View S V) → IsSafe old → IsRemembered m old → IsUnaged m old → Step m old event new → (desk : DeskView V) → IsAt old.desks 0 desk → AreWithin m (λ n. IsAged m.disks n desk.vault) new
  held_then shelves disks old event new safe is was by desk at =
      within_then m shelves (λ n. IsAged m.disks n desk.vault) (aged_ages desk.vault) old event new
      (λ collection none is_it some. (is.renewed collection 0 (least_age (ages_of collection.ages) 0) desk is_it (first_age collection.ages some) at).aged) (was.held desk at) by

  -- ---- a probe goes on
  -- no more is told than before, and no more waits
  goes_on : m.shelves.tells → (old : View S V) (event : step.Event) (new : View S V) (before now : ExchangeView) → old.council.exchange ≡ Some before → (was : IsOldEnough m old before) → Step m old event new
      → ((place : ℕ) (one : Answered) (t : Tell) → IsAt now.told place one → one.told ≡ Some t → IsUnagedTell t) → ((request : Request) → Contains (queue_at new.flow exchange_place).messages (message.Request request) → Contains (queue_at old.flow exchange_place).messages (message.Request request))
      → ((reply : Reply) → Contains (queue_at new.flow exchange_place).messages (message.Reply reply) → IsUnagedTell reply.tell) → IsOldEnough m new now
  goes_on shelves old event new before now is_open was by told requests replies = record {
    age = was.age;
    within = within_then m shelves (λ n. n ≤ was.age) (few_ages was.age) old event new (λ collection none is_it some. absurd (cc (sym none ∙ is_open))) was.within by;
    requests = λ request there. was.requests request (requests request there);
    told = told;
    replies = replies;
  }

  -- an acceptor that asks for no greater age does not find the request too old
  not_too_old : (age : ℕ) (kept new : Contents) (request : Request) (t : Tell) → request.from ≡ 0 → request.age ≡ age → least_age kept.ages 0 ≤ age → Handles kept request t new → IsUnagedTell t
  not_too_old age kept new request (tell.Aged least) from same low row =
      let asks : least_age kept.ages request.from ≡ least_age kept.ages 0 = ap (least_age kept.ages) from in
      absurd (omega (arith, row.0, row.1, same, low, asks))
  not_too_old age kept new request (tell.Probed promise accepted) from same low row = tt
  not_too_old age kept new request (tell.Promised accepted) from same low row = tt
  not_too_old age kept new request tell.Accepted from same low row = tt
  not_too_old age kept new request (tell.Met seen) from same low row = tt
  not_too_old age kept new request tell.Full from same low row = tt
  not_too_old age kept new request tell.AgesSet from same low row = tt
  not_too_old age kept new request tell.Removed from same low row = tt
  not_too_old age kept new request tell.Kept from same low row = tt
  not_too_old age kept new request (tell.Listed after keys more) from same low row = tt

  asked_fresh : (new : View S V) (age : ℕ) (tag : Ballot) (question : Question) (tos : List ℕ) (since : ℕ) (reads : Option Era) (exchange : ExchangeView) → new_exchange question tag tos since reads ≡ exchange → (queue_at new.flow exchange_place).messages ≡ questions_to age tag question tos → AreWithin m (λ n. n ≤ age) new → IsOldEnough m new exchange
  asked_fresh new age tag question tos since reads exchange it waiting within = record {
    age = age;
    within = within;
    requests = λ request there.
        let of = has_of_map (λ (to : ℕ). message.Request (question_to age tag question to)) (message.Request request) tos (has (message.Request request) (questions_to age tag question tos) (subst (λ (l : List Message). Contains l (message.Request request)) waiting there)) in
        let same : question_to age tag question of.0 ≡ request = cc of.1.1 in
        (ap (λ (r : Request). r.from) (sym same), ap (λ (r : Request). r.age) (sym same));
    told = λ place one t at tells. absurd (tells_none tos place one t (subst (λ (l : List Answered). IsAt l place one) (ap (λ (e : ExchangeView). e.told) (sym it)) at) tells);
    replies = λ reply there. absurd (no_reply age tag question tos reply (subst (λ (l : List Message). Contains l (message.Reply reply)) waiting there));
  }

  probes_then : m.shelves.tells → m.disks.tells → (old : View S V) (event : step.Event) (new : View S V) → IsSafe old → IsRemembered m old → IsUnaged m old → Step m old event new → Touched m old new
      → (exchange : ExchangeView) (key : List ℕ) → new.council.exchange ≡ Some exchange → exchange.question ≡ Probe key → IsOldEnough m new exchange
  probes_then shelves disks old event new safe is was by (is_same same) exchange key is_open asks =
      let before = sym same.exchange ∙ is_open in
      let had = was.probes exchange key before asks in
      goes_on shelves old event new exchange exchange before had by had.told (λ request there. subst (λ (l : List Message). Contains l (message.Request request)) same.waits there) (λ reply there. had.replies reply (subst (λ (l : List Message). Contains l (message.Reply reply)) same.waits there))
  probes_then shelves disks old event new safe is was by (is_over none) exchange key is_open asks = absurd (cc (sym none ∙ is_open))
  probes_then shelves disks old event new safe is was by (is_broken middle same exchange_is none) exchange key is_open asks =
      let broke = broken_told middle.council.exchange exchange (sym exchange_is ∙ is_open) in
      let before = sym same.exchange ∙ broke.1 in
      let had = was.probes broke.0 key before (broke.2.question ∙ asks) in
      goes_on shelves old event new broke.0 exchange before had by (λ place one t at tells. had.told place one t (subst (λ (l : List Answered). IsAt l place one) broke.3 at) tells)
      (λ request there. absurd (contains_none (subst (λ (l : List Message). Contains l (message.Request request)) none there))) (λ reply there. absurd (contains_none (subst (λ (l : List Message). Contains l (message.Reply reply)) none there)))
  probes_then shelves disks old event new safe is was by (is_asked desk tag question tos reads at opens waiting) exchange key is_open asks =
      asked_fresh new (kept_of desk.vault).age tag question tos (length old.marks) reads exchange (some_is (sym opens ∙ is_open)) waiting
      (weaker (λ n. IsAged m.disks n desk.vault) (λ n. n ≤ (kept_of desk.vault).age) new (λ n aged. aged.kept) (held_then shelves disks old event new safe is was by desk at))
  probes_then shelves disks old event new safe is was by (turned v turns) exchange key is_open asks = by_turn turns.turn
    where
      waiting : List Message
      waiting = (queue_at old.flow exchange_place).messages

      rest : List Message
      rest = (queue_at (taken old.flow exchange_place v) exchange_place).messages

      thins : Thins waiting rest (head_of turns.front).1
      thins = taken_thins old.flow exchange_place v turns.waits

      leaves : (now : ExchangeView) → new.council.exchange ≡ Some now → now.question ≡ turns.at.exchange.question → now.told ≡ turns.at.exchange.told → (queue_at new.flow exchange_place).messages ≡ rest → IsOldEnough m new exchange
      leaves now opens question told frames =
          let same : now ≡ exchange = some_is (sym opens ∙ is_open) in
          let had = was.probes turns.at.exchange key turns.at.is_open (sym question ∙ ap (λ (e : ExchangeView). e.question) same ∙ asks) in
          goes_on shelves old event new turns.at.exchange exchange turns.at.is_open had by (λ place one t at tells. had.told place one t (subst (λ (l : List Answered). IsAt l place one) (ap (λ (e : ExchangeView). e.told) (sym same) ∙ told) at) tells)
          (λ request there. thins.before (message.Request request) (subst (λ (l : List Message). Contains l (message.Request request)) frames there)) (λ reply there. had.replies reply (thins.before (message.Reply reply) (subst (λ (l : List Message). Contains l (message.Reply reply)) frames there)))

      by_turn : TurnsExchange m old v turns.front turns.at.exchange new → IsOldEnough m new exchange
      by_turn (council.held fall view) =
          let before = sym (ap (λ (w : View S V). w.council.exchange) view) ∙ is_open in
          let had = was.probes exchange key before asks in
          let frames : (queue_at new.flow exchange_place).messages ≡ waiting = ap (λ (w : View S V). (queue_at w.flow exchange_place).messages) view in
          goes_on shelves old event new exchange exchange before had by had.told (λ request there. subst (λ (l : List Message). Contains l (message.Request request)) frames there) (λ reply there. had.replies reply (subst (λ (l : List Message). Contains l (message.Reply reply)) frames there))
      by_turn (council.gone fall view) = leaves _ (ap (λ (w : View S V). w.council.exchange) view) refl refl (ap (λ (w : View S V). (queue_at w.flow exchange_place).messages) view)
      by_turn (council.finds_down request acceptor fall front at down view) = leaves _ (ap (λ (w : View S V). w.council.exchange) view) refl refl (ap (λ (w : View S V). (queue_at w.flow exchange_place).messages) view)
      by_turn (council.brings_down request acceptor now fall front at stops_it view) = leaves _ (ap (λ (w : View S V). w.council.exchange) view) refl refl (ap (λ (w : View S V). (queue_at w.flow exchange_place).messages) view)
      by_turn (council.answers request acceptor now reply fall front at table view) =
          let before = sym (ap (λ (w : View S V). w.council.exchange) view) ∙ is_open in
          let had = was.probes exchange key before asks in
          let it = had.requests request (contains_at waiting 0 (message.Request request) (turns.waits ∙ ap (λ (x : Message). Some x) front)) in
          let unaged : IsUnagedTell reply.tell = not_too_old had.age (m.shelves.contents acceptor.shelf) (m.shelves.contents now.shelf) request reply.tell it.0 it.1 ((had.within.acceptors request.to acceptor at).keeps table.up) table.table.row in
          let frames : (queue_at new.flow exchange_place).messages ≡ rest ++ message.Reply reply ∷ [] = ap (λ (w : View S V). (queue_at w.flow exchange_place).messages) view ∙ replied_messages old.flow exchange_place v reply turns.waits in
          goes_on shelves old event new exchange exchange before had by had.told
          (λ r there. elim (contains_append rest (message.Reply reply ∷ []) (subst (λ (l : List Message). Contains l (message.Request r)) frames there)) [
            | inl early ↦ thins.before (message.Request r) early
            | inr back ↦ elim (newest_or_older [] back) [ inl newest ↦ absurd (cc newest) | inr none ↦ absurd (contains_none none) ]
          ])
          (λ r there. elim (contains_append rest (message.Reply reply ∷ []) (subst (λ (l : List Message). Contains l (message.Reply r)) frames there)) [
            | inl early ↦ had.replies r (thins.before (message.Reply r) early)
            | inr back ↦ elim (newest_or_older [] back) [ inl newest ↦ (let one : reply ≡ r = cc newest in subst (λ (x : Reply). IsUnagedTell x.tell) one unaged) | inr none ↦ absurd (contains_none none) ]
          ])
      by_turn (council.arrives reply fall front to_it view) =
          let same : record turns.at.exchange { told = hears reply turns.at.exchange.told } ≡ exchange = some_is (sym (ap (λ (w : View S V). w.council.exchange) view) ∙ is_open) in
          let had = was.probes turns.at.exchange key turns.at.is_open (ap (λ (e : ExchangeView). e.question) same ∙ asks) in
          let frames : (queue_at new.flow exchange_place).messages ≡ rest = ap (λ (w : View S V). (queue_at w.flow exchange_place).messages) view in
          goes_on shelves old event new turns.at.exchange exchange turns.at.is_open had by
          (λ place one t there tells. elim (told_before reply turns.at.exchange.told place one (subst (λ (l : List Answered). IsAt l place one) (ap (λ (e : ExchangeView). e.told) (sym same)) there)) [
            | inl early ↦ had.told place one t early tells
            | inr is_its ↦ (let its : reply.tell ≡ t = some_is (sym is_its.1 ∙ tells) in subst IsUnagedTell its (had.replies reply (contains_at waiting 0 (message.Reply reply) (turns.waits ∙ ap (λ (x : Message). Some x) front))))
          ])
          (λ request there. thins.before (message.Request request) (subst (λ (l : List Message). Contains l (message.Request request)) frames there)) (λ r there. had.replies r (thins.before (message.Reply r) (subst (λ (l : List Message). Contains l (message.Reply r)) frames there)))

  pub unaged_then : m.shelves.tells → m.disks.tells → (old : View S V) (event : step.Event) (new : View S V) → IsSafe old → IsRemembered m old → IsUnaged m old → Step m old event new → IsUnaged m new
  unaged_then shelves disks old event new safe is was by = record {
    held = λ desk at.
        let before = at_low old.desks 0 (omega (arith, safe.sound.desks)) in
        weaker (λ n. IsAged m.disks n before.0.vault) (λ n. IsAged m.disks n desk.vault) new (λ n aged. ages_kept m disks old event new by before.0 desk before.1 at n aged) (held_then shelves disks old event new safe is was by before.0 before.1);
    probes = probes_then shelves disks old event new safe is was by (touched m old event new safe.sound by);
  }

  fresh : (view : View S V) → AreWithin m (λ n. n ≡ 0) view → view.council.exchange ≡ None → IsUnaged m view
  fresh view within none = record {
    held = λ desk at. weaker (λ n. n ≡ 0) (λ n. IsAged m.disks n desk.vault) view (λ n zero_is. subst (λ (k : ℕ). IsAged m.disks k desk.vault) (sym zero_is) (no_age desk.vault)) within;
    probes = λ exchange key is_open asks. absurd (cc (sym none ∙ is_open));
  }

  none_waits : (place : ℕ) (each : Message) → Contains (queue_at empty_flow place).messages each → ⊥
  none_waits place each there = contains_none (subst (λ (l : List Message). Contains l each) (empty place) there)
    where
      empty : (p : ℕ) → (queue_at empty_flow p).messages ≡ []
      empty p = all_empty 18 p

  opens_unaged : m.shelves.tells → (members : List ℕ) (view : View S V) → step.IsOpening m members view → IsUnaged m view
  opens_unaged shelves members view is = fresh view (record {
    acceptors = λ id acceptor at.
        let one = is.acceptors id acceptor at in
        record {
          keeps = λ up. ap (λ (c : Contents). least_age c.ages 0) (one.keeps up);
          left = λ started left may. elim (true_or_false acceptor.down) [
            | inl down ↦ absurd (cc (one.not_started down, started))
            | inr up ↦ (let same : left ≡ m.shelves.contents acceptor.shelf = cc (one.lasts shelves up (Ok left) may) in ap (λ (c : Contents). least_age c.ages 0) (same ∙ one.keeps up))
          ];
        };
    flows = subst (FlowsWithin (λ n. n ≡ 0)) (sym is.flow) (record { own = λ place each there. absurd (none_waits place each there); late = λ each there. absurd (contains_none there) });
  }) (ap (λ (c : Council). c.exchange) is.council)

  pub probes_are_unaged : ProbesAreUnaged m
  probes_are_unaged = record { opening = opens_unaged; afresh = fresh; steps = unaged_then }

-- ---- what is told
told_so : (marks : List Mark) (key : List ℕ) (told : Tell) → IsToldOf marks key told → IsUnagedTell told → IsToldSo marks key told
told_so marks key (tell.Probed promise accepted) so unaged = record { promise = promise; accepted = accepted; is = refl; so = so }
told_so marks key (tell.Aged least) so unaged = absurd unaged
told_so marks key (tell.Promised accepted) so unaged = absurd so
told_so marks key tell.Accepted so unaged = absurd so
told_so marks key (tell.Met seen) so unaged = absurd so
told_so marks key tell.Full so unaged = absurd so
told_so marks key tell.AgesSet so unaged = absurd so
told_so marks key tell.Removed so unaged = absurd so
told_so marks key tell.Kept so unaged = absurd so
told_so marks key (tell.Listed after keys more) so unaged = absurd so

pub probes_are_told_so : {S V : Type 0} (m : Meaning S V) → ProbesAreToldSo m
probes_are_told_so m view exchange key probing unaged is_open asks place one told at is =
    told_so (reverse view.marks) key told ((probing exchange key is_open asks).told place one told at is) ((unaged.probes exchange key is_open asks).told place one told at is)
