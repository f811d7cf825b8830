-- What members tell of a key stays so as a cluster goes on.
use Rattle.std.proofs.Common.{◌≡◌, ℕ, false, List, [], ◌∷◌, ◌++◌, Option, None, reverse, sym, ap, subst, ◌∙◌}
use Rattle.std.proofs.lemmas.List.{reverse-append}
use Rattle.cas_ballot.specs.declared.ballot.Ballot.{Ballot}
use Rattle.cas_flow.specs.Flow.{queue_at}
use Rattle.cas_acceptor.specs.Acceptor.{AcceptorView}
use Rattle.cas_record.specs.declared.mark.Mark.{Mark}
use Rattle.cas_record.specs.Logs.Happening.{Happening, Marked, marks_of}
use Rattle.cas_record.specs.Logs.Lawful.{Cluster, Lawful}
use Rattle.cas_slot.specs.declared.message.Ask.{Ask}
use Rattle.cas_slot.specs.declared.message.Ask.TheVariants as ask
use Rattle.cas_slot.specs.declared.message.Reply.{Reply}
use Rattle.cas_slot.specs.declared.message.Request.{Request}
use Rattle.cas_slot.specs.declared.message.Tell.{Tell}
use Rattle.cas_slot.specs.declared.message.Tell.TheVariants as tell
use Rattle.cas_slot.specs.declared.slot.Accepted.{Accepted}
use Rattle.cas_slot.specs.Contents.{Contents}
use Rattle.cas_slot.specs.Table.{Handles, Answers, accepted_at}
use Rattle.cas_protocol.specs.Acceptors.{IsAcceptedState}
use Rattle.cas_model.specs.Council.{Question, ExchangeView, Council, exchange_place, ask_of}
use Rattle.cas_model.specs.History.{IsRemembered}
use Rattle.cas_model.specs.Parties.{IsAcceptorTrue}
use Rattle.cas_model.specs.Safe.{IsSafe}
use Rattle.cas_model.specs.Step as step
use Rattle.cas_model.specs.Step.{Step}
use Rattle.cas_model.specs.View.{Meaning, View, IsAt}
use Rattle.cas_protocol.proofs.Growing.{accepted_grows}
use Rattle.cas_model.proofs.ViewLaws as laws
use Rattle.cas_model_causes.specs.Exchanges.Probed.{IsToldOf, IsProbing, ProbesTellSo}
use Rattle.cas_model.proofs.Marks.{IsLater, record_goes_on}
use Rattle.cas_model_causes.proofs.Exchanges.Touched.{IsSameExchange, AnswersFirst, AreTellsSo, tells_then, touched}

-- ---- as marks are made
-- what was accepted is so as the log goes on
grows_on : (cluster : Cluster) (log : List Happening) (older more : List Mark) (key : List ℕ) (accepted : Option Accepted) → Lawful cluster log → marks_of log ≡ more ++ older → IsAcceptedState older key accepted → IsAcceptedState (marks_of log) key accepted
grows_on cluster [] older [] key accepted lawful are was = subst (λ (l : List Mark). IsAcceptedState l key accepted) (sym are) was
grows_on cluster [] older (x ∷ more) key accepted lawful are was = absurd (cc are)
grows_on cluster (Marked mark ∷ log) older [] key accepted lawful are was = subst (λ (l : List Mark). IsAcceptedState l key accepted) (sym are) was
grows_on cluster (Marked mark ∷ log) older (x ∷ more) key accepted lawful are was =
    let rest : marks_of log ≡ more ++ older = cc are in
    accepted_grows cluster (Marked mark) log key accepted lawful (grows_on cluster log older more key accepted lawful.0 rest was)
grows_on cluster (h ∷ log) older more key accepted lawful are was = accepted_grows cluster h log key accepted lawful (grows_on cluster log older more key accepted lawful.0 are was)

-- so it is in the record of a cluster that is remembered
still_accepted : {S V : Type 0} (m : Meaning S V) (old new : View S V) (key : List ℕ) (accepted : Option Accepted) → IsRemembered m new → IsLater old.marks new.marks → IsAcceptedState (reverse old.marks) key accepted → IsAcceptedState (reverse new.marks) key accepted
still_accepted m old new key accepted is later was =
    subst (λ (l : List Mark). IsAcceptedState l key accepted) is.followed.logged.agrees.marks
    (grows_on is.followed.cluster is.followed.logged.global.log (reverse old.marks) (reverse later.0) key accepted is.followed.logged.history.lawful
    (is.followed.logged.agrees.marks ∙ ap (λ (l : List Mark). reverse l) later.1 ∙ reverse-append old.marks later.0) was)

still_told : {S V : Type 0} (m : Meaning S V) (old new : View S V) (key : List ℕ) (told : Tell) → IsRemembered m new → IsLater old.marks new.marks → IsToldOf (reverse old.marks) key told → IsToldOf (reverse new.marks) key told
still_told m old new key (tell.Probed promise accepted) is later was = still_accepted m old new key accepted is later was
still_told m old new key (tell.Aged least) is later was = tt
still_told m old new key (tell.Promised accepted) is later was = was
still_told m old new key tell.Accepted is later was = was
still_told m old new key (tell.Met seen) is later was = was
still_told m old new key tell.Full is later was = was
still_told m old new key tell.AgesSet is later was = was
still_told m old new key tell.Removed is later was = was
still_told m old new key tell.Kept is later was = was
still_told m old new key (tell.Listed after keys more) is later was = was

-- ---- an acceptor answers
-- by its table it tells what it accepted of the key, or that the request is too old
tells_so : (marks : List Mark) (key : List ℕ) (tag : Ballot) (kept new : Contents) (request : Request) (t : Tell) → request.ask ≡ ask.Probe tag key → Handles kept request t new → IsAcceptedState marks key (accepted_at kept key) → IsToldOf marks key t
tells_so marks key tag kept new request (tell.Aged least) is row so = tt
tells_so marks key tag kept new request (tell.Probed promise accepted) is row so = let told = subst (λ (a : Ask). Answers kept a (tell.Probed promise accepted) new) is row.1 in subst (IsAcceptedState marks key) (sym told.1) so
tells_so marks key tag kept new request (tell.Promised accepted) is row so = subst (λ (a : Ask). Answers kept a (tell.Promised accepted) new) is row.1
tells_so marks key tag kept new request tell.Accepted is row so = subst (λ (a : Ask). Answers kept a tell.Accepted new) is row.1
tells_so marks key tag kept new request (tell.Met seen) is row so = subst (λ (a : Ask). Answers kept a (tell.Met seen) new) is row.1
tells_so marks key tag kept new request tell.Full is row so = subst (λ (a : Ask). Answers kept a tell.Full new) is row.1
tells_so marks key tag kept new request tell.AgesSet is row so = subst (λ (a : Ask). Answers kept a tell.AgesSet new) is row.1
tells_so marks key tag kept new request tell.Removed is row so = subst (λ (a : Ask). Answers kept a tell.Removed new) is row.1
tells_so marks key tag kept new request tell.Kept is row so = subst (λ (a : Ask). Answers kept a tell.Kept new) is row.1
tells_so marks key tag kept new request (tell.Listed after keys more) is row so = subst (λ (a : Ask). Answers kept a (tell.Listed after keys more) new) is row.1

-- what an acceptor that is up accepted of a key is so
accepted_so : {S V : Type 0} (m : Meaning S V) (view : View S V) (id : ℕ) (acceptor : AcceptorView S) (key : List ℕ) → IsRemembered m view → IsAt view.acceptors id acceptor → acceptor.down ≡ false → IsAcceptedState (reverse view.marks) key (accepted_at (m.shelves.contents acceptor.shelf) key)
accepted_so m view id acceptor key is at up =
    let of : IsAcceptorTrue m is.followed.logged.global.log id (is.followed.logged.global.kept id) acceptor = is.followed.logged.agrees.acceptors id acceptor at in
    subst (λ (l : List Mark). IsAcceptedState l key (accepted_at (m.shelves.contents acceptor.shelf) key)) is.followed.logged.agrees.marks
    (subst (λ (c : Contents). IsAcceptedState (marks_of is.followed.logged.global.log) key (accepted_at c key)) (sym (of.keeps up)) ((is.followed.logged.history.tells id).states key))

-- ---- whatever is called
pub probing_then : {S V : Type 0} (m : Meaning S V) → m.shelves.tells → m.disks.tells → (old : View S V) (event : step.Event) (new : View S V) → IsSafe old → IsRemembered m old → IsProbing old → Step m old event new → IsProbing new
probing_then {S} {V} m shelves disks old event new safe is_old was by exchange key is_open asks = record {
  told = λ place one t at tells. then_.told place one t at tells;
  replies = λ reply waits. then_.replies reply waits;
}
  where
    is : IsRemembered m new
    is = laws.steps m shelves disks old event new is_old by

    later : IsLater old.marks new.marks
    later = record_goes_on m old event new by

    asked : (before : ExchangeView) (reply : Reply) → IsSameExchange before exchange → (first : AnswersFirst m old before reply) → first.request.ask ≡ ask.Probe before.tag key
    asked before reply same first = first.asked ∙ ap (λ (q : Question). ask_of before.tag q first.request.to) (same.question ∙ asks)

    then_ : AreTellsSo (λ acceptor t. IsToldOf (reverse new.marks) key t) exchange.told (queue_at new.flow exchange_place).messages
    then_ = tells_then m old new (λ acceptor t. IsToldOf (reverse new.marks) key t) exchange safe is_open
        (λ before was_open same. let had = was before key was_open (same.question ∙ asks) in record {
          told = λ place one t at tells. still_told m old new key t is later (had.told place one t at tells);
          replies = λ reply waits. still_told m old new key reply.tell is later (had.replies reply waits);
        })
        (λ before reply was_open same first. still_told m old new key reply.tell is later
        (tells_so (reverse old.marks) key before.tag (m.shelves.contents first.acceptor.shelf) (m.shelves.contents first.now.shelf) first.request reply.tell (asked before reply same first) first.table.table.row
        (accepted_so m old first.request.to first.acceptor key is_old first.at first.table.up)))
        (touched m old event new safe.sound by)

-- there is none at first
over : {S V : Type 0} (new : View S V) → new.council.exchange ≡ None → IsProbing new
over new none exchange key is_open asks = absurd (cc (sym none ∙ is_open))

pub probes_tell_so : {S V : Type 0} (m : Meaning S V) → ProbesTellSo m
probes_tell_so m = record {
  opening = λ members view is. over view (ap (λ (c : Council). c.exchange) is.council);
  opening_on = λ members used floors view is. over view (ap (λ (c : Council). c.exchange) is.council);
  steps = probing_then m;
}
