-- Whatever is called on a cluster, what members tell of a key is current.
use Rattle.std.proofs.Common.{◌≡◌, ◌≤◌, ℕ, zero, suc, true, false, List, [], ◌∷◌, ◌++◌, length, length-append, Option, None, Some, reverse, refl, sym, ap, subst, ◌∙◌, inl, inr, arith}
use Rattle.std.specs.Prelude.{◌⊎◌, take, Contains}
use Rattle.std.proofs.Math.Seq.{take-nil}
use Rattle.std.proofs.lemmas.List.{reverse-append, take-append-le}
use Rattle.cas_ballot.specs.Ballot.{BallotAtMost}
use Rattle.cas_ballot.specs.Members.{has_member}
use Rattle.cas_ballot.specs.declared.ballot.Ballot.{Ballot}
use Rattle.cas_acceptor.specs.Acceptor.{AcceptorView}
use Rattle.cas_flow.specs.Flow.{queue_at}
use Rattle.cas_record.specs.Logs.Orderly.{IsAboveFloors}
use Rattle.cas_record.specs.Logs.Happening.{marks_of}
use Rattle.cas_record.specs.Places.{At, Stands, here, past}
use Rattle.cas_record.proofs.PlaceLemmas.{stands_later}
use Rattle.cas_record.specs.declared.mark.Acknowledgment.{Acknowledgment}
use Rattle.cas_record.specs.declared.mark.Mark.{Mark}
use Rattle.cas_record.specs.declared.mark.Mark.TheVariants.{Acked}
use Rattle.cas_slot.specs.Contents.{Contents}
use Rattle.cas_slot.specs.Slot.{accepted_ballot}
use Rattle.cas_slot.specs.Table.{Answers, Handles, accepted_at}
use Rattle.cas_slot.specs.declared.message.Ask.{Ask}
use Rattle.cas_slot.specs.declared.message.Ask.TheVariants as ask
use Rattle.cas_slot.specs.declared.message.Reply.{Reply}
use Rattle.cas_slot.specs.declared.message.Request.{Request}
use Rattle.cas_slot.specs.declared.message.Tell.{Tell}
use Rattle.cas_slot.specs.declared.message.Tell.TheVariants as tell
use Rattle.cas_slot.specs.declared.slot.Accepted.{Accepted}
use Rattle.cas_model.specs.Council.{Question, Council, ExchangeView, exchange_place, ask_of}
use Rattle.cas_model.specs.History.{IsRemembered}
use Rattle.cas_model.specs.Parties.{IsAcceptorTrue}
use Rattle.cas_model.specs.Safe.{IsSafe}
use Rattle.cas_model.specs.Step as step
use Rattle.cas_model.specs.Step.{Step}
use Rattle.cas_model.specs.View.{Meaning, View, IsAt}
use Rattle.cas_model.specs.Exchanges.Step as council
use Rattle.cas_model.specs.Exchanges.Step.{TurnsExchange}
use Rattle.cas_protocol.proofs.Held.{held_by}
use Rattle.cas_model.proofs.Places.{some_is, contains_take, contains_none, contains_new, contains_older, newest_or_older}
use Rattle.cas_model_causes.specs.Exchanges.Current.{IsCurrentTell, AreProbesCurrent, ProbesAreCurrent}
use Rattle.cas_model.proofs.Marks.{IsLater, record_goes_on}
use Rattle.cas_model_causes.proofs.Exchanges.Touched.{Touched, is_same, is_over, is_broken, is_asked, turned, touched, broken_told, IsSameExchange, AnswersFirst, AreTellsSo, tells_then}

-- ---- marks
before : {x : Mark} {older marks : List Mark} (first : List Mark) → At x older marks → At x (older ++ first) (marks ++ first)
before first here = here
before first (past at) = past (before first at)

-- one of the marks stands among them
stands_in : {x : Mark} (marks : List Mark) → Contains marks x → Stands x (reverse marks)
stands_in [] there = absurd (contains_none there)
stands_in {x} (mark ∷ marks) there = subst (Stands x) (sym (reverse-append (mark ∷ []) marks)) (elim (newest_or_older marks there) [
  | inl same ↦ stands_later (reverse marks) (record { older = []; at = subst (λ (m : Mark). At x [] (m ∷ [])) (sym same) here })
  | inr later ↦ let stands = stands_in marks later in record { older = stands.older ++ mark ∷ []; at = before (mark ∷ []) stands.at }
])

-- what is above the floors was above those that were there before
above_before : (old new : List Mark) (key : List ℕ) (ballot : Ballot) → IsLater old new → IsAboveFloors (reverse new) key ballot → IsAboveFloors (reverse old) key ballot
above_before old new key ballot later above = record {
  above = λ stands. above.above (subst (Stands _) (sym (ap (λ (l : List Mark). reverse l) later.1 ∙ reverse-append old later.0)) (stands_later (reverse later.0) stands));
}

-- ---- as marks are made
module _ (old new : List Mark) (later : IsLater old new) (key : List ℕ) where
  -- the first ones are the same
  firsts : (since : ℕ) → since ≤ length old → take since new ≡ take since old
  firsts since low = ap (λ (l : List Mark). take since l) later.1 ∙ take-append-le since old later.0 low

  longer : (since : ℕ) → since ≤ length old → since ≤ length new
  longer since low = omega (arith, low, ap (λ (l : List Mark). length l) later.1, length-append old later.0)

  still_current : (since acceptor : ℕ) (t : Tell) → since ≤ length old → IsCurrentTell (reverse old) (take since old) key acceptor t → IsCurrentTell (reverse new) (take since new) key acceptor t
  still_current since acceptor (tell.Probed promise accepted) low was = λ a among same member above. was a (subst (λ (l : List Mark). Contains l (Acked a)) (firsts since low) among) same member (above_before old new key a.ballot later above)
  still_current since acceptor (tell.Aged least) low was = tt
  still_current since acceptor (tell.Promised accepted) low was = tt
  still_current since acceptor tell.Accepted low was = tt
  still_current since acceptor (tell.Met seen) low was = tt
  still_current since acceptor tell.Full low was = tt
  still_current since acceptor tell.AgesSet low was = tt
  still_current since acceptor tell.Removed low was = tt
  still_current since acceptor tell.Kept low was = tt
  still_current since acceptor (tell.Listed after keys more) low was = tt

-- what is current by some of the marks is so by fewer
take_more : (many since : ℕ) (marks : List Mark) {x : Mark} → many ≤ since → Contains (take many marks) x → Contains (take since marks) x
take_more many since [] {x} low there = absurd (contains_none (subst (λ (l : List Mark). Contains l x) (take-nil many) there))
take_more zero since (mark ∷ marks) {x} low there = absurd (contains_none there)
take_more (suc many) zero (mark ∷ marks) {x} low there = absurd (omega (arith, low))
take_more (suc many) (suc since) (mark ∷ marks) {x} low there = elim (newest_or_older (take many marks) there) [
  | inl same ↦ subst (λ (m : Mark). Contains (m ∷ take since marks) x) (sym same) (contains_new x (take since marks))
  | inr later ↦ contains_older (take since marks) (take_more many since marks (omega (arith, low)) later)
]

pub among_fewer : (all more fewer : List Mark) (key : List ℕ) (acceptor : ℕ) (t : Tell) → ((x : Mark) → Contains fewer x → Contains more x) → IsCurrentTell all more key acceptor t → IsCurrentTell all fewer key acceptor t
among_fewer all more fewer key acceptor (tell.Probed promise accepted) each was = λ a among same member above. was a (each (Acked a) among) same member above
among_fewer all more fewer key acceptor (tell.Aged least) each was = tt
among_fewer all more fewer key acceptor (tell.Promised accepted) each was = tt
among_fewer all more fewer key acceptor tell.Accepted each was = tt
among_fewer all more fewer key acceptor (tell.Met seen) each was = tt
among_fewer all more fewer key acceptor tell.Full each was = tt
among_fewer all more fewer key acceptor tell.AgesSet each was = tt
among_fewer all more fewer key acceptor tell.Removed each was = tt
among_fewer all more fewer key acceptor tell.Kept each was = tt
among_fewer all more fewer key acceptor (tell.Listed after keys more_) each was = tt

pub fewer_current : (marks : List Mark) (key : List ℕ) (many since acceptor : ℕ) (t : Tell) → many ≤ since → IsCurrentTell (reverse marks) (take since marks) key acceptor t → IsCurrentTell (reverse marks) (take many marks) key acceptor t
fewer_current marks key many since acceptor t low = among_fewer (reverse marks) (take since marks) (take many marks) key acceptor t (λ x. take_more many since marks low)

-- ---- an acceptor answers
module _ {S V : Type 0} (m : Meaning S V) (view : View S V) (is : IsRemembered m view) (key : List ℕ) where
  -- what one that is up keeps of the key is current
  kept_current : (id : ℕ) (acceptor : AcceptorView S) (a : Acknowledgment) → IsAt view.acceptors id acceptor → acceptor.down ≡ false → Stands (Acked a) (reverse view.marks) → a.key ≡ key → has_member a.by id ≡ true → IsAboveFloors (reverse view.marks) key a.ballot
      → BallotAtMost a.ballot (accepted_ballot (accepted_at (m.shelves.contents acceptor.shelf) key))
  kept_current id acceptor a at up stands same member above =
      let log = is.followed.logged.global.log in
      let marks = is.followed.logged.agrees.marks in
      let of : IsAcceptorTrue m log id (is.followed.logged.global.kept id) acceptor = is.followed.logged.agrees.acceptors id acceptor at in
      let held = held_by is.followed.cluster is.followed.logged.meets log a is.followed.logged.history.lawful is.followed.logged.history.orderly (subst (Stands (Acked a)) (sym marks) stands)
      (subst (λ (k : List ℕ). IsAboveFloors (marks_of log) k a.ballot) (sym same) (subst (λ (l : List Mark). IsAboveFloors l key a.ballot) (sym marks) above)) in
      subst (λ (k : List ℕ). BallotAtMost a.ballot (accepted_ballot (accepted_at (m.shelves.contents acceptor.shelf) k))) same
      (subst (λ (c : Contents). BallotAtMost a.ballot (accepted_ballot (accepted_at c a.key))) (sym (of.keeps up))
      (held.1 id (is.followed.logged.global.kept id) (is.followed.logged.global.kept id) member (is.followed.logged.history.tells id) (inl refl)).at_least)

  -- so by its table it tells what is current
  tells_current : (since : ℕ) (tag : Ballot) (acceptor : AcceptorView S) (new : Contents) (request : Request) (t : Tell) → request.ask ≡ ask.Probe tag key → IsAt view.acceptors request.to acceptor → acceptor.down ≡ false
      → Handles (m.shelves.contents acceptor.shelf) request t new → IsCurrentTell (reverse view.marks) (take since view.marks) key request.to t
  tells_current since tag acceptor new request (tell.Probed promise accepted) asked at up row =
      let told = subst (λ (a : Ask). Answers (m.shelves.contents acceptor.shelf) a (tell.Probed promise accepted) new) asked row.1 in
      λ a among same member above. subst (λ (x : Option Accepted). BallotAtMost a.ballot (accepted_ballot x)) (sym told.1) (kept_current request.to acceptor a at up (stands_in view.marks (contains_take since view.marks among)) same member above)
  tells_current since tag acceptor new request (tell.Aged least) asked at up row = tt
  tells_current since tag acceptor new request (tell.Promised accepted) asked at up row = tt
  tells_current since tag acceptor new request tell.Accepted asked at up row = tt
  tells_current since tag acceptor new request (tell.Met seen) asked at up row = tt
  tells_current since tag acceptor new request tell.Full asked at up row = tt
  tells_current since tag acceptor new request tell.AgesSet asked at up row = tt
  tells_current since tag acceptor new request tell.Removed asked at up row = tt
  tells_current since tag acceptor new request tell.Kept asked at up row = tt
  tells_current since tag acceptor new request (tell.Listed after keys more) asked at up row = tt

-- ---- whatever is called
module _ {S V : Type 0} (m : Meaning S V) (old new : View S V) (later : IsLater old.marks new.marks) (exchange : ExchangeView) (is_open : new.council.exchange ≡ Some exchange) where
  -- the members are asked now, or were before
  asked_since : Touched m old new → (exchange.since ≡ length old.marks) ⊎ ((was : ExchangeView) × (old.council.exchange ≡ Some was) × IsSameExchange was exchange)
  asked_since (is_same same) = inr (exchange, sym same.exchange ∙ is_open, record { question = refl; since = refl })
  asked_since (is_over none) = absurd (cc (sym none ∙ is_open))
  asked_since (is_broken middle same exchange_is none) = let broke = broken_told middle.council.exchange exchange (sym exchange_is ∙ is_open) in inr (broke.0, sym same.exchange ∙ broke.1, broke.2)
  asked_since (is_asked desk tag question tos reads at opens waiting) = inl (ap (λ (e : ExchangeView). e.since) (sym (some_is (sym opens ∙ is_open))))
  asked_since (turned v turns) = by_turn turns.turn
    where
      goes : (now : ExchangeView) → new.council.exchange ≡ Some now → IsSameExchange turns.at.exchange now → (exchange.since ≡ length old.marks) ⊎ ((was : ExchangeView) × (old.council.exchange ≡ Some was) × IsSameExchange was exchange)
      goes now opens same = inr (turns.at.exchange, turns.at.is_open, subst (IsSameExchange turns.at.exchange) (some_is (sym opens ∙ is_open)) same)

      same_one : IsSameExchange turns.at.exchange turns.at.exchange
      same_one = record { question = refl; since = refl }

      by_turn : TurnsExchange m old v turns.front turns.at.exchange new → (exchange.since ≡ length old.marks) ⊎ ((was : ExchangeView) × (old.council.exchange ≡ Some was) × IsSameExchange was exchange)
      by_turn (council.held fall view) = goes turns.at.exchange (ap (λ (w : View S V). w.council.exchange) view ∙ turns.at.is_open) same_one
      by_turn (council.gone fall view) = goes _ (ap (λ (w : View S V). w.council.exchange) view) (record { question = refl; since = refl })
      by_turn (council.answers request acceptor now reply fall front at table view) = goes turns.at.exchange (ap (λ (w : View S V). w.council.exchange) view ∙ turns.at.is_open) same_one
      by_turn (council.finds_down request acceptor fall front at down view) = goes _ (ap (λ (w : View S V). w.council.exchange) view) (record { question = refl; since = refl })
      by_turn (council.brings_down request acceptor now fall front at stops_it view) = goes _ (ap (λ (w : View S V). w.council.exchange) view) (record { question = refl; since = refl })
      by_turn (council.arrives reply fall front to_it view) = goes _ (ap (λ (w : View S V). w.council.exchange) view) (record { question = refl; since = refl })

current_then : {S V : Type 0} (m : Meaning S V) → m.shelves.tells → m.disks.tells → (old : View S V) (event : step.Event) (new : View S V) → IsSafe old → IsRemembered m old → AreProbesCurrent old → Step m old event new → AreProbesCurrent new
current_then {S} {V} m shelves disks old event new safe is was by exchange key is_open asks = record {
  since = elim (asked_since m old new later exchange is_open touches) [
    | inl now ↦ subst (λ (n : ℕ). n ≤ length new.marks) (sym now) (longer old.marks new.marks later key (length old.marks) (omega arith))
    | inr had ↦ subst (λ (n : ℕ). n ≤ length new.marks) had.2.since (longer old.marks new.marks later key had.0.since (was had.0 key had.1 (had.2.question ∙ asks)).since)
  ];
  told = λ place one t at tells. then_.told place one t at tells;
  replies = λ reply waits. then_.replies reply waits;
}
  where
    later : IsLater old.marks new.marks
    later = record_goes_on m old event new by

    touches : Touched m old new
    touches = touched m old event new safe.sound by

    so : ℕ → Tell → Type 0
    so = λ acceptor t. IsCurrentTell (reverse new.marks) (take exchange.since new.marks) key acceptor t

    still : (before : ExchangeView) → old.council.exchange ≡ Some before → IsSameExchange before exchange → (acceptor : ℕ) (t : Tell) → IsCurrentTell (reverse old.marks) (take before.since old.marks) key acceptor t → so acceptor t
    still before was_open same acceptor t had =
        subst (λ (n : ℕ). IsCurrentTell (reverse new.marks) (take n new.marks) key acceptor t) same.since (still_current old.marks new.marks later key before.since acceptor t (was before key was_open (same.question ∙ asks)).since had)

    answers : (before : ExchangeView) (reply : Reply) → old.council.exchange ≡ Some before → IsSameExchange before exchange → AnswersFirst m old before reply → so reply.from reply.tell
    answers before reply was_open same first =
        let from : first.request.to ≡ reply.from = sym (first.table.table.from ∙ safe.sound.acceptor_ids first.request.to first.acceptor first.at) in
        let asked : first.request.ask ≡ ask.Probe before.tag key = first.asked ∙ ap (λ (q : Question). ask_of before.tag q first.request.to) (same.question ∙ asks) in
        subst (λ (a : ℕ). so a reply.tell) from (still before was_open same first.request.to reply.tell
        (tells_current m old is key before.since before.tag first.acceptor (m.shelves.contents first.now.shelf) first.request reply.tell asked first.at first.table.up first.table.table.row))

    then_ : AreTellsSo so exchange.told (queue_at new.flow exchange_place).messages
    then_ = tells_then m old new so exchange safe is_open
        (λ before was_open same. let had = was before key was_open (same.question ∙ asks) in record {
          told = λ place one t at tells. still before was_open same one.acceptor t (had.told place one t at tells);
          replies = λ reply waits. still before was_open same reply.from reply.tell (had.replies reply waits);
        })
        answers touches

none_open : {S V : Type 0} (view : View S V) → view.council.exchange ≡ None → AreProbesCurrent view
none_open view none exchange key is_open asks = absurd (cc (sym none ∙ is_open))

pub probes_are_current : {S V : Type 0} (m : Meaning S V) → ProbesAreCurrent m
probes_are_current m = record {
  opening = λ members view is. none_open view (ap (λ (c : Council). c.exchange) is.council);
  opening_on = λ members used floors view is. none_open view (ap (λ (c : Council). c.exchange) is.council);
  steps = current_then m;
}
