-- Whatever is called on a cluster, proposer 0's vault keeps each age that it kept, wherever it stops.
use Rattle.std.proofs.Common.{◌≡◌, ℕ, List, [], Option, None, Some, slice_set, refl, sym, ap, subst, ◌∙◌, inl, inr}
use Rattle.std.specs.Prelude.{◌⊎◌}
use Rattle.cas_ballot.specs.declared.ballot.Ballot.{Ballot}
use Rattle.cas_change.specs.declared.program.Clause.{Clause}
use Rattle.cas_fate.specs.declared.fate.Verdict.{Verdict}
use Rattle.cas_proposer.specs.Desk.{DeskView}
use Rattle.cas_proposer.specs.declared.round.Round.{Round}
use Rattle.cas_record.specs.declared.answer.Answer.{Answer}
use Rattle.cas_record.specs.declared.operator.Asked.{Asked}
use Rattle.cas_record.specs.declared.operator.OpAnswer.{OpAnswer}
use Rattle.cas_vault.specs.declared.vault.Vault.{Vault}
use Rattle.cas_model.specs.Council.{ListingView, Question}
use Rattle.cas_model.specs.Parties.{IsAged}
use Rattle.cas_model.specs.Step as step
use Rattle.cas_model.specs.Step.{Step}
use Rattle.cas_model.specs.Calls.Step as calls
use Rattle.cas_model.specs.Collection.Step as collect
use Rattle.cas_model.specs.Exchanges.Step as council
use Rattle.cas_model.specs.Calls.Desks.{MayHaveDrawn, LosesMemory, EndsRound, Crashes, EntersEra, FailsToEnter, FailsToRenew}
use Rattle.cas_model.specs.Frames.Step as frames
use Rattle.cas_model.specs.Eras.Step as plans
use Rattle.cas_model.specs.Stops.Step as stops
use Rattle.cas_model.specs.Stops.Step.{LeavesRound, GoesDown}
use Rattle.cas_model.specs.View.{DiskMeaning, Meaning, View, CallView, IsAt}
use Rattle.cas_model.proofs.Calls.Asks.{where_drawn}
use Rattle.cas_model.proofs.Places.{at_one, but_set}

module _ {V : Type 0} (m : DiskMeaning V) (tells : m.tells) where
  -- each age that one desk keeps the other keeps
  abbrev pub Ages : DeskView V → DeskView V → Type 0
  Ages was now = (n : ℕ) → IsAged m n was.vault → IsAged m n now.vault

  abbrev pub Keeps : List (DeskView V) → List (DeskView V) → Type 0
  Keeps old new = (was now : DeskView V) → IsAt old 0 was → IsAt new 0 now → Ages was now

  keeps_same : (old new : List (DeskView V)) → new ≡ old → Keeps old new
  keeps_same old new same was now at_was at_now n is = let one : was ≡ now = at_one old 0 at_was (subst (λ (l : List (DeskView V)). IsAt l 0 now) same at_now) in subst (λ (d : DeskView V). IsAged m n d.vault) one is

  keeps_set : (old new : List (DeskView V)) (id : ℕ) (before after : DeskView V) → new ≡ slice_set old id after → IsAt old id before → Ages before after → Keeps old new
  keeps_set old new id before after same at ages was now at_was at_now n is = elim (but_set old id after 0 now (subst (λ (l : List (DeskView V)). IsAt l 0 now) same at_now)) [
    | inl here ↦
        let one : was ≡ before = at_one old 0 at_was (subst (λ (k : ℕ). IsAt old k before) (sym here.0) at) in
        subst (λ (d : DeskView V). IsAged m n d.vault) (sym here.1) (ages n (subst (λ (d : DeskView V). IsAged m n d.vault) one is))
    | inr other ↦ let one : was ≡ now = at_one old 0 at_was other.1 in subst (λ (d : DeskView V). IsAged m n d.vault) one is
  ]

  drawn_ages : (id : ℕ) (old new : Vault V) (ride : Option Ballot) → MayHaveDrawn m id old new ride → (n : ℕ) → IsAged m n old → IsAged m n new
  drawn_ages id old new None by n is = by.goes_on.ages tells n is
  drawn_ages id old new (Some ballot) by n is = by.goes_on.ages tells n is

  loses_ages : (key : List ℕ) (old new : DeskView V) (ride : Option Ballot) → LosesMemory m key old new ride → Ages old new
  loses_ages key old new ride by n is = by.goes_on.ages tells n (drawn_ages old.id old.vault by.middle ride by.drawn n is)

  -- the vault is the same
  same_vault : (old new : DeskView V) → new.vault ≡ old.vault → Ages old new
  same_vault old new same n is = subst (IsAged m n) (sym same) is

module _ {S V : Type 0} (m : Meaning S V) (tells : m.disks.tells) where
  abbrev pub Kept : View S V → View S V → Type 0
  Kept old new = Keeps m.disks tells old.desks new.desks

  alike : (old changed new : View S V) → new ≡ changed → changed.desks ≡ old.desks → Kept old new
  alike old changed new is same = keeps_same m.disks tells old.desks new.desks (ap (λ (w : View S V). w.desks) is ∙ same)

  put : (old changed new : View S V) (id : ℕ) (before after : DeskView V) → new ≡ changed → changed.desks ≡ slice_set old.desks id after → IsAt old.desks id before → Ages m.disks tells before after → Kept old new
  put old changed new id before after is same at ages = keeps_set m.disks tells old.desks new.desks id before after (ap (λ (w : View S V). w.desks) is ∙ same) at ages

  before_by : (old middle new : View S V) → middle.desks ≡ old.desks → Kept middle new → Kept old new
  before_by old middle new same kept = subst (λ (l : List (DeskView V)). Keeps m.disks tells l new.desks) same kept

  after_by : (old middle changed new : View S V) → new ≡ changed → changed.desks ≡ middle.desks → Kept old middle → Kept old new
  after_by old middle changed new is same kept = subst (λ (l : List (DeskView V)). Keeps m.disks tells old.desks l) (sym (ap (λ (w : View S V). w.desks) is ∙ same)) kept

  begin_kept : (old new : View S V) {id : ℕ} {key : List ℕ} {program : List Clause} → step.StepBegin m old id key program new → Kept old new
  begin_kept old new {id} {key} {program} by = before_by old by.middle new (opens by.opens) (in_round by.begins)
    where
      opens : calls.Opens old id key program by.middle → by.middle.desks ≡ old.desks
      opens (calls.first caller at none_open room is) = ap (λ (w : View S V). w.desks) is
      opens (calls.again caller call reserved at open_is key_is program_is none_proposed met no_round room few is) = ap (λ (w : View S V). w.desks) is

      in_round : calls.BeginsRound m by.middle id by.caller by.call new → Kept by.middle new
      in_round (calls.prepares desk now ballot round flow at up few begins sends is) = put by.middle _ new id desk now is refl at (λ n was. begins.drawn.goes_on.ages tells n was)
      in_round (calls.proposes desk now ready ride round outcome flow at up few begins made sends is) = put by.middle _ new id desk now is refl at (λ n was. drawn_ages m.disks tells desk.id desk.vault now.vault ride begins.drawn n was)
      in_round (calls.stays told no_beginning no_round full is) = alike by.middle _ new is refl
      in_round (calls.spent desk now at none_open up no_promise spent kept now_is is) = put by.middle _ new id desk now is refl at (λ n was. kept.goes_on.ages tells n was)
      in_round (calls.fails desk now at none_open up fails is) = put by.middle _ new id desk now is refl at (λ n was. fails.goes_on.ages tells n was)
      in_round (calls.loses desk now ballot at none_open up loses is) = put by.middle _ new id desk now is refl at (loses_ages m.disks tells by.call.key desk now ballot loses)

  refuse_kept : (old new : View S V) {id : ℕ} {key : List ℕ} → calls.RefusesCall m old id key new → Kept old new
  refuse_kept old new (calls.stays told next why rescan is) = alike old _ new is refl
  refuse_kept old new {id} {key} (calls.loses caller desk now ballot next at_caller at_desk none_open up loses rescan is) = put old _ new id desk now is refl at_desk (loses_ages m.disks tells key desk now ballot loses)

  turn_kept : (old new : View S V) (id : ℕ) (v : Verdict) → step.StepTurn m old id v new → Kept old new
  turn_kept old new id v by = in_turn by.turn
    where
      in_turn : frames.TakesTurn m old id v by.front by.of_call.caller by.of_call.call new → Kept old new
      in_turn (frames.held fall is) = alike old old new is refl
      in_turn (frames.gone fall is) = alike old _ new is refl
      in_turn (frames.answers request acceptor now reply fall front at table is) = alike old _ new is refl
      in_turn (frames.finds_down request acceptor fall front at down is) = alike old _ new is refl
      in_turn (frames.brings_down request acceptor now fall front at stops_it is) = alike old _ new is refl
      in_turn (frames.arrives reply desk now round heard fall front at is_round hears is) = put old _ new id desk now is refl at (same_vault m.disks tells desk now (ap (λ (d : DeskView V). d.vault) hears.desk))

  room_kept : (old new : View S V) → frames.FindsNoRoom m old new → new.desks ≡ old.desks
  room_kept old new (frames.stays is) = ap (λ (w : View S V). w.desks) is
  room_kept old new (frames.kept id acceptor now at finds is) = ap (λ (w : View S V). w.desks) is

  propose_kept : (old new : View S V) (id : ℕ) → step.StepPropose m old id new → Kept old new
  propose_kept old new id by = in_phase by.proposes
    where
      in_phase : calls.ProposesOrEnds m old id by.at_round.desk by.at_round.round by.at_round.of_call.caller by.at_round.of_call.call new → Kept old new
      in_phase (calls.proposes now turned read by_ ride outcome flow quorum confirmers reads turns made sends is) = put old _ new id by.at_round.desk now is refl by.at_round.at_desk (λ n was. drawn_ages m.disks tells by.at_round.desk.id by.at_round.desk.vault now.vault ride turns.drawn n was)
      in_phase (calls.ends now verdict told verdict_is refuses ends is) = put old _ new id by.at_round.desk now is refl by.at_round.at_desk (λ n was. ends.goes_on.ages tells n was)
      in_phase (calls.fails now fails is) = put old _ new id by.at_round.desk now is refl by.at_round.at_desk (λ n was. fails.goes_on.ages tells n was)
      in_phase (calls.loses now ballot loses is) = put old _ new id by.at_round.desk now is refl by.at_round.at_desk (loses_ages m.disks tells by.at_round.round.key by.at_round.desk now ballot loses)

  count_kept : (old new : View S V) (id : ℕ) → step.StepCount m old id new → Kept old new
  count_kept old new id by = in_phase by.counts
    where
      in_phase : calls.CountsOrEnds m old id by.at_round.desk by.at_round.round by.at_round.of_call.caller by.at_round.of_call.call new → Kept old new
      in_phase (calls.counts now by_ outcome quorum confirmers proposed ends is) = put old _ new id by.at_round.desk now is refl by.at_round.at_desk (λ n was. ends.goes_on.ages tells n was)
      in_phase (calls.ends now verdict why verdict_is cause ends is) = put old _ new id by.at_round.desk now is refl by.at_round.at_desk (λ n was. ends.goes_on.ages tells n was)

  end_kept : (old new : View S V) {id : ℕ} {told : Answer} → step.StepEnd m old id told new → Kept old new
  end_kept old new {id} by = put old _ new id by.ends.desk by.ends.now by.ends.view refl by.ends.at_desk (closes by.ends.closed)
    where
      closes : ((by.ends.desk.round ≡ None) × (by.ends.now ≡ by.ends.desk)) ⊎ ((round : Round) × (by.ends.desk.round ≡ Some round) × EndsRound m.disks by.ends.desk by.ends.now round None) → Ages m.disks tells by.ends.desk by.ends.now
      closes (inl idle) = same_vault m.disks tells by.ends.desk by.ends.now (ap (λ (d : DeskView V). d.vault) idle.1)
      closes (inr (round, is_round, ends)) = λ n was. ends.goes_on.ages tells n was

  stray_kept : (old new : View S V) (index : ℕ) → step.StepStray m old index new → Kept old new
  stray_kept old new index by = in_stray by.strays
    where
      in_stray : frames.Strays m old index by.late new → Kept old new
      in_stray (frames.answers request acceptor now reply late_is at table is) = alike old _ new is refl
      in_stray (frames.brings_down request acceptor now late_is at stops_it is) = alike old _ new is refl
      in_stray (frames.arrives reply desk now round heard late_is at is_round hears is) = put old _ new reply.to desk now is refl at (same_vault m.disks tells desk now (ap (λ (d : DeskView V). d.vault) hears.desk))
      in_stray (frames.drops ignored is) = alike old _ new is refl

  left_kept : (DeskTurns : DeskView V → DeskView V → Type 0) (closed : CallView → CallView) → ((before after : DeskView V) → DeskTurns before after → Ages m.disks tells before after) → (old new : View S V) (id : ℕ) → LeavesRound DeskTurns closed old id new → Kept old new
  left_kept DeskTurns closed ages old new id (stops.idle desk now at none turns is) = put old _ new id desk now is refl at (ages desk now turns)
  left_kept DeskTurns closed ages old new id (stops.closes desk now round of_call at is_round turns is) = put old _ new id desk now is refl at (ages desk now turns)

  down_kept : (DeskTurns : DeskView V → DeskView V → Type 0) → ((before after : DeskView V) → DeskTurns before after → Ages m.disks tells before after) → (old new : View S V) (id : ℕ) → GoesDown DeskTurns old id new → Kept old new
  down_kept DeskTurns ages old new id (stops.of_client client leaves) = left_kept DeskTurns stops.closed_by_crash ages old new id leaves
  down_kept DeskTurns ages old new id (stops.of_operator middle operator leaves is) = after_by old middle _ new is refl (left_kept DeskTurns stops.closed_by_crash ages old middle id leaves)

  ask_kept : (old new : View S V) (question : Question) → council.StepAskAll m old question new → Kept old new
  ask_kept old new question by = in_case by.asks
    where
      tagged_ages : (listing : Option ListingView) (now : DeskView V) (tag : Ballot) → council.HasTag m.disks listing by.desk now tag → Ages m.disks tells by.desk now
      tagged_ages None now tag drawn n was = drawn.goes_on.ages tells n was
      tagged_ages (Some listing) now tag same n was = same_vault m.disks tells by.desk now same.1 n was

      in_case : council.AsksAll m old question by.desk new → Kept old new
      in_case (council.asks now tag flow up room tagged is_now sends is) = put old _ new 0 by.desk now is refl by.may.at_desk (tagged_ages (council.listing_for old.council question) now tag tagged.has_tag)
      in_case (council.is_down down is) = alike old _ new is refl
      in_case (council.is_full up full is) = alike old _ new is refl
      in_case (council.is_spent now up spent kept is_now is) = put old _ new 0 by.desk now is refl by.may.at_desk (λ n was. kept.goes_on.ages tells n was)
      in_case (council.fails now up fault is) = let failed = where_drawn (council.listing_for old.council question) fault in put old _ new 0 by.desk now is refl by.may.at_desk (λ n was. failed.goes_on.ages tells n was)
      in_case (council.no_memory now tag up loss is) = put old _ new 0 by.desk now is refl by.may.at_desk (loses_ages m.disks tells [] by.desk now tag loss)

  exchange_kept : (old new : View S V) (v : Verdict) → council.StepTurnExchange m old v new → Kept old new
  exchange_kept old new v by = in_turn by.turn
    where
      in_turn : council.TurnsExchange m old v by.front by.at.exchange new → Kept old new
      in_turn (council.held fall is) = alike old old new is refl
      in_turn (council.gone fall is) = alike old _ new is refl
      in_turn (council.answers request acceptor now reply fall front at table is) = alike old _ new is refl
      in_turn (council.finds_down request acceptor fall front at down is) = alike old _ new is refl
      in_turn (council.brings_down request acceptor now fall front at stops_it is) = alike old _ new is refl
      in_turn (council.arrives reply fall front to_it is) = alike old _ new is refl

  gather_kept : (old new : View S V) → council.StepGather old new → Kept old new
  gather_kept old new by = in_case by.gathers
    where
      in_case : council.Gathers old by.at.exchange new → Kept old new
      in_case (council.crashed crashed is) = alike old _ new is refl
      in_case (council.probed key found up question plain found_is is) = alike old _ new is refl
      in_case (council.read key era found marks up question reads found_is counts is) = alike old _ new is refl
      in_case (council.lists of_it listing up enough on is) = alike old _ new is refl
      in_case (council.is_short of_it short up missing is) = alike old _ new is refl
      in_case (council.no_memory up is) = alike old _ new is refl

  tell_kept : (old new : View S V) {told : OpAnswer} → council.StepTell old told new → Kept old new
  tell_kept old new (council.tells order said is_open is_told same is) = alike old _ new is refl
  tell_kept old new (council.finishes order is_open by is) = alike old _ new is refl
  tell_kept old new (council.collects order is_open by is) = alike old _ new is refl

  welcome_kept : (old new : View S V) {asked : Asked} → plans.Welcomes m old asked new → new.desks ≡ old.desks
  welcome_kept old new (plans.starts id acceptor now joins at starts is) = ap (λ (w : View S V). w.desks) is
  welcome_kept old new (plans.fails id acceptor now joins at fails is) = ap (λ (w : View S V). w.desks) is
  welcome_kept old new (plans.is_up id acceptor joins at up is) = ap (λ (w : View S V). w.desks) is
  welcome_kept old new (plans.stays joins_none is) = ap (λ (w : View S V). w.desks) is

  open_kept : (old new : View S V) → plans.StepOpenPlan m old new → Kept old new
  open_kept old new by = in_case by.opens
    where
      in_case : plans.OpensPlan m old by.order.asked by.desk new → Kept old new
      in_case (plans.is_down down is) = alike old _ new is refl
      in_case (plans.is_busy plan up busy is) = alike old _ new is refl
      in_case (plans.refuses fault up none planned is) = alike old _ new is refl
      in_case (plans.opens progress middle up none planned welcomes is) = alike old _ new is (welcome_kept old middle welcomes)
      in_case (plans.no_memory progress middle up none planned welcomes is) = alike old _ new is (welcome_kept old middle welcomes)

  enter_kept : (old new : View S V) (id : ℕ) → plans.StepEnterEra m old id new → Kept old new
  enter_kept old new id by = in_case by.enters
    where
      in_case : plans.EntersNext m old by.plan by.next by.desk new → Kept old new
      in_case (plans.enters middle room leaves is) = after_by old middle _ new is refl (left_kept (EntersEra m.disks by.next) _ (λ before after turns n was. turns.ages tells n was) old middle by.plan.entered leaves)
      in_case (plans.is_full full is) = alike old _ new is refl
      in_case (plans.is_down room down is) = alike old _ new is refl
      in_case (plans.fails middle room down is) = after_by old middle _ new is refl (down_kept (FailsToEnter m.disks by.next) (λ before after turns n was. turns.ages tells n was) old middle by.plan.entered down)
      in_case (plans.no_memory now room up kept now_is is) = put old _ new by.plan.entered by.desk now is refl by.may.at_desk (λ n was. kept.goes_on.ages tells n was)

  begin_collect_kept : (old new : View S V) (key : List ℕ) → collect.StepBeginCollect m (λ before after. step.StepBegin m before 0 key collect.keep_always after) old key new → Kept old new
  begin_collect_kept old new key by = in_case by.begins
    where
      in_case : collect.BeginsCollection m (λ before after. step.StepBegin m before 0 key collect.keep_always after) old key by.may.order by.desk by.caller new → Kept old new
      in_case (collect.is_down none down is) = alike old _ new is refl
      in_case (collect.is_busy plan none up planned is) = alike old _ new is refl
      in_case (collect.is_full none up unplanned full is) = alike old _ new is refl
      in_case (collect.no_memory middle none up unplanned refuses is) = after_by old middle _ new is refl (refuse_kept old middle refuses)
      in_case (collect.begins middle none unplanned begins is) = after_by old middle _ new is refl (begin_kept old middle begins)
      in_case (collect.goes_on middle call of_it open_ begins is) = after_by old middle _ new is refl (begin_kept old middle begins)

  round_kept : (old new : View S V) → collect.StepGatherRound old new → Kept old new
  round_kept old new by = in_case by.gathers
    where
      in_case : collect.GathersRound old by.at new → Kept old new
      in_case (collect.all ballot members tombstone all is) = alike old _ new is refl
      in_case (collect.is_absent ballot members acceptor tombstone least is) = alike old _ new is refl
      in_case (collect.is_held version tombstone is) = alike old _ new is refl

  renew_kept : (old new : View S V) (id : ℕ) → collect.StepRenew m old id new → Kept old new
  renew_kept old new id by = in_case by.renews
    where
      in_case : collect.RenewsNext m old by.at id by.desk new → Kept old new
      in_case (collect.renews age middle leaves is) = after_by old middle _ new is refl (left_kept _ _ (λ before after turns n was. turns.goes_on.ages tells n was) old middle id leaves)
      in_case (collect.is_down down is) = alike old _ new is refl
      in_case (collect.fails middle down is) = after_by old middle _ new is refl (down_kept (FailsToRenew m.disks _) (λ before after turns n was. turns.goes_on.ages tells n was) old middle id down)
      in_case (collect.is_spent up spent is) = alike old _ new is refl
      in_case (collect.no_memory now up finds is) = put old _ new id by.desk now is refl by.at_desk (λ n was. finds.goes_on.ages tells n was)

  ask_collect_kept : (old new : View S V) → collect.StepAskCollect m old new → Kept old new
  ask_collect_kept old new by = in_case by.asks
    where
      in_case : collect.AsksCollect m old by.may.at by.desk new → Kept old new
      in_case (collect.asks question flow up asks room aged sends is) = alike old _ new is refl
      in_case (collect.is_down down is) = alike old _ new is refl
      in_case (collect.is_full question up asks full is) = alike old _ new is refl
      in_case (collect.no_memory up is) = alike old _ new is refl

  gather_collect_kept : (old new : View S V) → collect.StepGatherCollect old new → Kept old new
  gather_collect_kept old new by = in_case by.gathers
    where
      in_case : collect.GathersCollect old by.at by.of_exchange.exchange new → Kept old new
      in_case (collect.crashed crashed is) = alike old _ new is refl
      in_case (collect.all up all is) = alike old _ new is refl
      in_case (collect.is_absent acceptor up least is) = alike old _ new is refl

  pub ages_kept : (old : View S V) (event : step.Event) (new : View S V) → Step m old event new → Kept old new
  ages_kept old (step.Begin id key program) new by = begin_kept old new by
  ages_kept old (step.RefuseBegin id key) new by = refuse_kept old new by
  ages_kept old (step.Turn id v) new by = turn_kept old new id v by
  ages_kept old (step.RefuseTurn id) new by = alike old _ new by.view (room_kept old by.middle by.refuses)
  ages_kept old (step.Propose id) new by = propose_kept old new id by
  ages_kept old (step.Count id) new by = count_kept old new id by
  ages_kept old (step.End id told) new by = end_kept old new by
  ages_kept old (step.Stray index) new by = stray_kept old new index by
  ages_kept old step.RefuseStray new by = keeps_same m.disks tells old.desks new.desks (room_kept old new by)
  ages_kept old (step.CrashAcceptor id) new (step.crashes acceptor now at crashes is) = alike old _ new is refl
  ages_kept old (step.RestartAcceptor id) new (step.was_up acceptor at up is) = alike old old new is refl
  ages_kept old (step.RestartAcceptor id) new (step.starts acceptor now at starts is) = alike old _ new is refl
  ages_kept old (step.RestartAcceptor id) new (step.fails acceptor now at fails is) = alike old _ new is refl
  ages_kept old (step.CrashProposer id) new by = down_kept (Crashes m.disks) (λ before after turns n was. turns.goes_on.ages tells n was) old new id by
  ages_kept old (step.RestartProposer id) new (step.was_up_already desk at up is) = alike old old new is refl
  ages_kept old (step.RestartProposer id) new (step.restarts desk now caller at at_caller down restarts is) = put old _ new id desk now is refl at (λ n was. restarts.ages tells n was)
  ages_kept old (step.Order asked) new by = alike old _ new by.view refl
  ages_kept old step.RefuseOrder new by = alike old old new by refl
  ages_kept old (step.Tell told) new by = tell_kept old new by
  ages_kept old (step.AskAll question) new by = ask_kept old new question by
  ages_kept old (step.TurnExchange v) new by = exchange_kept old new v by
  ages_kept old step.RefuseTurnExchange new by = alike old _ new by.view (room_kept old by.middle by.refuses)
  ages_kept old step.Gather new by = gather_kept old new by
  ages_kept old step.RefuseKey new by = alike old _ new by.view refl
  ages_kept old step.OpenPlan new by = open_kept old new by
  ages_kept old (step.EnterEra id) new by = enter_kept old new id by
  ages_kept old (step.BeginCollect key) new by = begin_collect_kept old new key by
  ages_kept old step.ReadHeld new by = put old _ new 0 by.desk by.now by.view refl by.at_desk (λ n was. by.ends.goes_on.ages tells n was)
  ages_kept old step.CountCollect new by = after_by old by.middle _ new by.view refl (count_kept old by.middle 0 by.counts)
  ages_kept old (step.EndCollect told) new by = after_by old by.middle _ new by.view refl (end_kept old by.middle by.ends)
  ages_kept old step.GatherRound new by = round_kept old new by
  ages_kept old (step.Renew id) new by = renew_kept old new id by
  ages_kept old step.AskCollect new by = ask_collect_kept old new by
  ages_kept old step.GatherCollect new by = gather_collect_kept old new by
  ages_kept old step.MakeFloor new by = alike old _ new by.view refl
