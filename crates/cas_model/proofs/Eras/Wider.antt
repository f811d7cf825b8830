-- What is logged of a cluster is logged of a wider one: its new eras are beyond all that happened.
use Rattle.std.proofs.Common.{◌≡◌, ◌≤◌, ◌<◌, ℕ, true, false, List, Option, None, Some, sym, subst, ◌∙◌, inl, inr, arith}
use Rattle.std.specs.Prelude.{◌⊎◌}
use Rattle.cas_base.proofs.Bools.{not_both}
use Rattle.cas_ballot.specs.declared.ballot.Ballot.{Ballot}
use Rattle.cas_ballot.specs.Members.{has_member}
use Rattle.cas_cache.specs.declared.ready.Ready.{Ready}
use Rattle.cas_flow.specs.Flow.{queue_at}
use Rattle.cas_flow.specs.declared.message.Message.{Message}
use Rattle.cas_proposer.specs.Desk.{DeskView}
use Rattle.cas_proposer.specs.declared.round.Round.{Round}
use Rattle.cas_quorum.specs.declared.era.Era.{Era}
use Rattle.cas_slot.specs.declared.message.Request.{Request}
use Rattle.cas_slot.specs.Message.{tag_of}
use Rattle.cas_slot.specs.Rules.{key_of}
use Rattle.cas_record.specs.Logs.Happening.{Happening, Asked, marks_of}
use Rattle.cas_record.specs.Logs.Lawful.{Cluster, IsWidened, AllEntered}
use Rattle.cas_record.specs.Laws.{HistoryIsOpened}
use Rattle.cas_record.specs.Logs.Orderly.{Orderly, MayAskFor, IsAgedOut, IsClear, IsRoundAsk, age_told, never_asked}
use Rattle.cas_record.specs.Places.{Stands, IsOlderPart}
use Rattle.cas_record.proofs.Logs.Clusters.{lawful_more, orderly_more}
use Rattle.cas_record.proofs.Logs.Orders.{reason, round_asked, orderly_older}
use Rattle.cas_record.proofs.PlaceLemmas.{stands_deeper, stands_part, part_at}
use Rattle.cas_model.specs.Council.{Council, ExchangeView}
use Rattle.cas_model.specs.History.{AgreesWith, IsLogged}
use Rattle.cas_model.specs.Eras.Listed.{AreUsed, IsCouncilTrue}
use Rattle.cas_model.specs.Parties.{IsHeldReady, IsOpenTrue, IsDeskTrue, IsExchangeTrue}
use Rattle.cas_protocol.specs.Protocol.{Made, GlobalState, IsFloorClear, HasHistory}
use Rattle.cas_model.specs.Exchanges.Step.{with_council}
use Rattle.cas_model.specs.View.{Meaning, View, CallerView, era_at}
use Rattle.cas_model.proofs.Eras.Plans.{IsMemberOfOne}
use Rattle.cas_model.proofs.Eras.Widening.{IsWidening}
use Rattle.cas_record.proofs.Logs.Listings.{marks_part}

-- ---- floors
-- all are in no era beyond the base, and who becomes a member was one in the base or was never used
pub record IsAheadOfBase (cluster : Cluster) (log : List Happening) (base : Era) (later : List Era) (used : List ℕ) : Type 0 where
  pub all_in : (era : ℕ) → AllEntered cluster era (marks_of log) → era ≤ base.number
  pub joins : (acceptor : ℕ) → IsMemberOfOne later acceptor → (has_member (cluster.members base.number) acceptor ≡ true) ⊎ (has_member used acceptor ≡ false)

-- who was never used was asked for no ballot
unused_clear : (cluster : Cluster) (log : List Happening) (used : List ℕ) (acceptor : ℕ) (key : List ℕ) (floor : Ballot) → Orderly cluster log → AreUsed cluster used
    → has_member used acceptor ≡ false → IsClear log acceptor key floor
unused_clear cluster log used acceptor key floor orderly are unused =
    never_asked (λ request asked to round same. absurd (unasked request asked to round)) (λ ballot ride took. elim (reason cluster orderly took.at) [
      | inl by ↦ absurd (unasked by.request (stands_deeper by.was_asked.asked took.at) by.was_asked.to (subst IsRoundAsk (sym by.is) tt))
      | inr first ↦ absurd (not_both (has_member used acceptor) (are.members 0 acceptor first.member) unused)
    ])
  where
    unasked : (request : Request) → Stands (Asked request) log → request.to ≡ acceptor → IsRoundAsk request.ask → ⊥
    unasked request asked to round =
        let may : MayAskFor cluster asked.older request (key_of request.ask) (tag_of request.ask) = round_asked cluster asked.older request request.ask round (reason cluster orderly asked.at) in
        not_both (has_member used acceptor) (subst (λ (a : ℕ). has_member used a ≡ true) to (are.members may.era request.to may.member)) unused

unused_aged : (cluster : Cluster) (log : List Happening) (used : List ℕ) (acceptor : ℕ) (key : List ℕ) (floor : Ballot) → Orderly cluster log → AreUsed cluster used
    → has_member used acceptor ≡ false → IsAgedOut log acceptor key floor
unused_aged cluster log used acceptor key floor orderly are unused = record { aged = λ request asked to round same low. none request asked to round }
  where
    none : (request : Request) → Stands (Asked request) log → request.to ≡ acceptor → IsRoundAsk request.ask → request.age < age_told log acceptor request.from
    none request asked to round =
        let may : MayAskFor cluster asked.older request (key_of request.ask) (tag_of request.ask) = round_asked cluster asked.older request request.ask round (reason cluster orderly asked.at) in
        absurd (not_both (has_member used acceptor) (subst (λ (a : ℕ). has_member used a ≡ true) to (are.members may.era request.to may.member)) unused)

wider_clear : (cluster wider : Cluster) (base : Era) (later : List Era) (log : List Happening) (used : List ℕ) (key : List ℕ) (floor : Ballot) → IsWidening cluster wider base later
    → IsAheadOfBase cluster log base later used → AreUsed cluster used → Orderly cluster log
    → IsFloorClear cluster log key floor → IsFloorClear wider log key floor
wider_clear cluster wider base later log used key floor more ahead are orderly was = record {
  era = was.era;
  all_in = elim was.all_in [
    | inl first ↦ inl first
    | inr all ↦ inr (λ proposer known. all proposer (subst (λ (n : ℕ). proposer ≤ n) more.widened.last_proposer known))
  ];
  clear = λ number acceptor late member. elim (more.members number acceptor member) [
    | inl before ↦ was.clear number acceptor late before
    | inr new ↦ elim (ahead.joins acceptor new) [
      | inl in_base ↦ was.clear base.number acceptor low in_base
      | inr unused ↦ unused_clear cluster log used acceptor key floor orderly are unused
    ]
  ];
  aged = λ number acceptor late member. elim (more.members number acceptor member) [
    | inl before ↦ was.aged number acceptor late before
    | inr new ↦ elim (ahead.joins acceptor new) [
      | inl in_base ↦ was.aged base.number acceptor low in_base
      | inr unused ↦ unused_aged cluster log used acceptor key floor orderly are unused
    ]
  ];
}
  where
    low : was.era ≤ base.number
    low = elim was.all_in [ inl first ↦ omega (arith, first) | inr all ↦ ahead.all_in was.era all ]

-- ---- the history
-- a quorum stays one
wider_opened : {cluster wider : Cluster} {log : List Happening} {key : List ℕ} {floor : Ballot} → IsWidened cluster wider → HistoryIsOpened cluster log key floor → HistoryIsOpened wider log key floor
wider_opened w was = record {
  opening = was.opening;
  some = was.some;
  by = was.by;
  prepares = w.prepares 0 was.by was.prepares;
  accepts = w.accepts 0 was.by was.accepts;
  took = was.took;
}

wider_history : (cluster wider : Cluster) (base : Era) (later : List Era) (global : GlobalState) (used : List ℕ) → IsWidening cluster wider base later
    → IsAheadOfBase cluster global.log base later used
    → AreUsed cluster used
    → HasHistory cluster global → HasHistory wider global
wider_history cluster wider base later global used more ahead are was = record {
  lawful = lawful_more more.widened global.log was.lawful;
  orderly = orderly_more more.widened global.log was.orderly;
  tells = was.tells;
  knows = record {
    asked = was.knows.asked;
    known = was.knows.known;
    ended = was.knows.ended;
    replied = was.knows.replied;
    drawn = was.knows.drawn;
    made = was.knows.made;
    floors = λ key floor has. elim (was.knows.floors key floor has) [ inl empty ↦ inl empty | inr opened ↦ inr (wider_opened more.widened opened) ];
    clear = λ key floor has. wider_clear cluster wider base later global.log used key floor more ahead are was.orderly (was.knows.clear key floor has);
  };
}

-- ---- the exchange
-- as the log was at an earlier time
ahead_before : (cluster : Cluster) (log older : List Happening) (base : Era) (later : List Era) (used : List ℕ) → IsOlderPart older log → IsAheadOfBase cluster log base later used
    → IsAheadOfBase cluster older base later used
ahead_before cluster log older base later used part ahead = record { all_in = λ era entered. ahead.all_in era (λ proposer known. stands_part (entered proposer known) (marks_part part)); joins = ahead.joins }

-- what a read knows of its floors and its quorums stays
pub wider_exchange : (cluster wider : Cluster) (base : Era) (later : List Era) (log : List Happening) (used : List ℕ) (exchange : ExchangeView) → IsWidening cluster wider base later
    → IsAheadOfBase cluster log base later used → AreUsed cluster used → Orderly cluster log
    → IsExchangeTrue cluster log exchange → IsExchangeTrue wider log exchange
wider_exchange cluster wider base later log used exchange more ahead are orderly was = record {
  own = was.own;
  era = was.era;
  drawn = was.drawn;
  told = was.told;
  read = λ key era asks reads. let had = was.read key era asks reads in record {
    older = had.older;
    drawn = had.drawn;
    behind = had.behind;
    not_beyond = had.not_beyond;
    floors = record {
      empty = λ floor has. elim (had.floors.empty floor has) [ inl empty ↦ inl empty | inr opened ↦ inr (wider_opened more.widened opened) ];
      clear = λ floor has. wider_clear cluster wider base later had.older used key floor more (ahead_before cluster log had.older base later used (part_at had.drawn) ahead) are (orderly_older cluster orderly had.drawn) (had.floors.clear floor has);
    };
    alone = had.alone;
    prepares = λ by holds. more.widened.prepares era.number by (had.prepares by holds);
    accepts = λ by holds. more.widened.accepts era.number by (had.accepts by holds);
  };
}

-- ---- desks
-- its quorum is one of the wider cluster
wider_ready : (cluster wider : Cluster) (base : Era) (later : List Era) (log : List Happening) (all : List Made) (id era : ℕ) (key : List ℕ) (ready : Ready) → IsWidening cluster wider base later
    → IsHeldReady cluster log all id era key ready → IsHeldReady wider log all id era key ready
wider_ready cluster wider base later log all id era key ready more was = record {
  in_hand = was.in_hand;
  own_read = was.own_read;
  drawn = was.drawn;
  made = was.made;
  replies = was.replies;
  replied = was.replied;
  accepted_by = was.accepted_by;
  quorum = more.widened.prepares era ready.by was.quorum;
  above = was.above;
  rides = was.rides;
  over_floors = was.over_floors;
}

wider_open : (cluster wider : Cluster) (base : Era) (later : List Era) (log : List Happening) (all : List Made) (id era : ℕ) (caller : CallerView) (waiting : List Message) (round : Option Round)
    → IsWidening cluster wider base later → era ≤ base.number → IsOpenTrue cluster log all id era caller waiting round → IsOpenTrue wider log all id era caller waiting round
wider_open cluster wider base later log all id era caller waiting None more low was = was
wider_open cluster wider base later log all id era caller waiting (Some round) more low was = record {
  call = was.call;
  is_open = was.is_open;
  same_key = was.same_key;
  own = was.own;
  same_era = was.same_era;
  is_era = more.keeps round.era (omega (arith, was.same_era, low)) was.is_era;
  phase = was.phase;
}

wider_desk : {S V : Type 0} (m : Meaning S V) (cluster wider : Cluster) (base : Era) (later : List Era) (log : List Happening) (all : List Made) (era id : ℕ) (caller : CallerView) (waiting : List Message) (desk : DeskView V)
    → IsWidening cluster wider base later → era ≤ base.number → IsDeskTrue m cluster log all era id caller waiting desk → IsDeskTrue m wider log all era id caller waiting desk
wider_desk m cluster wider base later log all era id caller waiting desk more low was = record {
  same_id = was.same_id;
  known = subst (λ (n : ℕ). id ≤ n) (sym more.widened.last_proposer) was.known;
  vault = was.vault;
  cached = λ key ready has. wider_ready cluster wider base later log all id era key ready more (was.cached key ready has);
  one_each = was.one_each;
  none_open = was.none_open;
  round = wider_open cluster wider base later log all id era caller waiting desk.round more low was.round;
}

-- ---- the whole
-- with what the operator has under way then
wider_agrees : {S V : Type 0} (m : Meaning S V) (cluster wider : Cluster) (base : Era) (later : List Era) (global : GlobalState) (view : View S V) (next : Council)
    → IsWidening cluster wider base later
    → ((id : ℕ) → id ≤ view.last_proposer → (era_at view id).number ≤ base.number) → IsCouncilTrue wider global.log next → AgreesWith m cluster global view
    → AgreesWith m wider global (with_council view next)
wider_agrees m cluster wider base later global view next more low council was = record {
  marks = was.marks;
  last_proposer = more.widened.last_proposer ∙ was.last_proposer;
  few = was.few;
  eras = λ id known. more.keeps (era_at view id) (low id known) (was.eras id known);
  acceptors = was.acceptors;
  desks = λ id desk caller at_desk at_caller.
      let of = was.desks id desk caller at_desk at_caller in
      wider_desk m cluster wider base later global.log global.made (era_at view id).number id caller (queue_at view.flow id).messages desk more
      (low id (omega (arith, of.known, was.last_proposer))) of;
  callers = was.callers;
  council = council;
  own = was.own;
  late = was.late;
}

pub wider_logged : {S V : Type 0} (m : Meaning S V) (cluster wider : Cluster) (base : Era) (later : List Era) (view : View S V) (next : Council) → IsWidening cluster wider base later
    → ((id : ℕ) → id ≤ view.last_proposer → (era_at view id).number ≤ base.number) → (is : IsLogged m cluster view) → IsAheadOfBase cluster is.global.log base later view.council.used
    → IsCouncilTrue wider is.global.log next → IsLogged m wider (with_council view next)
wider_logged m cluster wider base later view next more low is ahead council = record {
  meets = more.meets;
  global = is.global;
  history = wider_history cluster wider base later is.global view.council.used more ahead is.agrees.council.2 is.history;
  agrees = wider_agrees m cluster wider base later is.global view next more low council is.agrees;
}
