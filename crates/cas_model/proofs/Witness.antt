-- A history, call by call: a change is prepared by two acceptors while the third stops within its write, is accepted by the two and
-- Done; a promise rode along with the accepts, and the next change is proposed by it. Another proposer is met by its ballot, and crashes.
use Rattle.std.proofs.Common.{◌≡◌, ◌≤◌, ◌+◌, ℕ, zero, suc, true, false, List, [], ◌∷◌, ◌++◌, Option, Some, None, refl, sym, ap, subst, ◌∙◌, inl, inr, arith}
use Rattle.std.specs.Prelude.{length, replicate, slice_set, Ok}
use Rattle.cas_ballot.specs.declared.ballot.Ballot.{Ballot}
use Rattle.cas_ballot.specs.Members.{members_where, with_member}
use Rattle.cas_ballot.proofs.BallotLemmas.{at_most_refl}
use Rattle.cas_change.specs.declared.outcome.Outcome.{Outcome}
use Rattle.cas_change.specs.declared.state.State.TheVariants.{Empty}
use Rattle.cas_change.specs.Outcome.{outcome_of}
use Rattle.cas_flow.specs.Flow.{FlowView, empty_flow}
use Rattle.cas_flow.specs.Queue.{QueueView, empty_queue}
use Rattle.cas_flow.specs.declared.message.Message.{Message}
use Rattle.cas_flow.specs.declared.message.Message.TheVariants as message
use Rattle.cas_quorum.specs.declared.era.Era.{Era}
use Rattle.cas_quorum.specs.Era.{majority_era}
use Rattle.cas_round.specs.Replies.{is_promise, is_acceptance, is_prepare, is_accept}
use Rattle.cas_slot.specs.declared.message.Ask.TheVariants as ask
use Rattle.cas_slot.specs.declared.message.Phase.TheVariants as phase
use Rattle.cas_slot.specs.declared.message.Reply.{Reply}
use Rattle.cas_slot.specs.declared.message.Tell.{Tell}
use Rattle.cas_slot.specs.declared.message.Tell.TheVariants as tell
use Rattle.cas_slot.specs.declared.message.Request.{Request}
use Rattle.cas_slot.specs.Contents.{Contents, nothing}
use Rattle.cas_slot.specs.Slot.{seen_of}
use Rattle.cas_slot.specs.Table.{Handles}
use Rattle.cas_vault.specs.declared.kept.Kept.{Kept}
use Rattle.cas_vault.specs.declared.vault.Vault.{Vault}
use Rattle.cas_vault.specs.Vault.{kept_to_draw}
use Rattle.cas_vault.specs.Codec.{spelling}
use Rattle.cas_vault.specs.Vault.{KeptOn}
use Rattle.cas_cells.specs.Format.{frame_place, frame_size}
use Rattle.cas_vault.proofs.Keeping.{same_kept}
use Rattle.cas_acceptor.specs.Acceptor.{AcceptorView}
use Rattle.cas_proposer.specs.Desk.{DeskView}
use Rattle.cas_proposer.specs.declared.round.OpenPhase.TheVariants.{Prepare, Accept}
use Rattle.cas_proposer.specs.declared.round.Round.{Round}
use Rattle.cas_round.specs.declared.phase.PrepareRound.{PrepareRound}
use Rattle.cas_round.specs.declared.phase.AcceptRound.{AcceptRound}
use Rattle.cas_round.proofs.Arrivals as arrivals
use Rattle.cas_round.proofs.TallyLemmas as tally
use Rattle.cas_proposer.specs.Round.{Hears}
use Rattle.cas_proposer.proofs.RoundLemmas.{prepare_hears, accept_hears}
use Rattle.cas_fate.specs.declared.fate.Verdict.TheVariants.{Deliver, Late}
use Rattle.cas_record.specs.declared.mark.Mark.{Mark}
use Rattle.cas_record.specs.declared.mark.Mark.TheVariants.{Begun, Proposed, Voted, Harmed, Ended, Acked}
use Rattle.cas_record.specs.declared.answer.Answer.TheVariants as answer
use Rattle.cas_record.specs.declared.mark.Proposal.{Proposal}
use Rattle.cas_record.specs.declared.mark.Acknowledgment.{Acknowledgment}
use Rattle.cas_cache.specs.declared.ready.Ready.{Ready}
use Rattle.cas_change.specs.declared.outcome.Took.TheVariants.{Clause as ByClause}
use Rattle.cas_record.specs.Places.{here, past}
use Rattle.cas_record.specs.Logs.Witness.{three, key_a, at}
use Rattle.cas_model.specs.Council.{opening_council}
use Rattle.cas_model.specs.Parties.{IsAged, VaultKeepsEra}
use Rattle.cas_model.specs.Step.{Begin, Turn, Propose, Count, End, Stray, CrashAcceptor, RestartAcceptor, CrashProposer, RestartProposer, Step, IsOpening, IsFreshAcceptor, IsFreshDesk, History, opens, steps, crashes, starts, restarts}
use Rattle.cas_model.specs.Stops.Step.{of_client, closes}
use Rattle.cas_model.specs.Frames.Acceptors.{AnswersByTable, StopsWithin}
use Rattle.cas_model.specs.Calls.Step as calls
use Rattle.cas_model.specs.Calls.Step.{Sends, prepares_to, accepts_to}
use Rattle.cas_model.specs.Frames.Step as frames
use Rattle.cas_model.specs.Calls.Desks.{VaultGoesOn, HasDrawn, IsRideDue, Restarts}
use Rattle.cas_model.specs.View.{View, CallView, CallerView, IsAt, new_caller, new_call, with_acceptor}
use Rattle.cas_model.specs.Witness.{ToyShelf, ToyDisk, toys, ShownHistory}
use Rattle.cas_protocol.proofs.Handling as handling
use Rattle.cas_protocol.proofs.Handling.{accepted_kept, reply_to, answered}
use Rattle.cas_model.proofs.Places.{some_is, queue_other}
use Rattle.cas_protocol.proofs.Witness.{five, program}

-- ---- the parts
abbrev era : Era
era = majority_era 0 three

abbrev one : Ballot
one = at 1 1

abbrev two : Ballot
two = at 2 1

-- what a vault keeps; it draws below that bound
abbrev kept : Kept
kept = record { bound = 100; age = 0; era = 0 }

-- the image of a disk that keeps it
abbrev kept_image : List ℕ
kept_image = 1 ∷ 0 ∷ 0 ∷ 29 ∷ spelling kept ++ replicate 991 0

kept_shown : KeptOn kept kept_image
unfolding frame_place frame_size
kept_shown = record {
  fits = record { bound = omega arith; age = omega arith; era = omega arith };
  row = record { sound = refl; same = refl };
}

-- a ballot is to ride for proposer 1, whose counter is low
low_due : (counter : ℕ) (ballot : Ballot) → counter ≤ 100 → IsRideDue 1 counter (Some ballot)
low_due counter ballot low over = elim over [
  | inl none ↦ cc none
  | inr full ↦ absurd (omega (arith, low, full))
]

-- the vaults of the proposers have the memory of some vault
module _ {D : Type 0} (begun : Vault D) where
  -- a vault that drew so many numbers
  abbrev vault_at : ℕ → Vault ToyDisk
  vault_at counter = record { cells = record { disk = record { kept = kept }; alloc = begun.cells.alloc; narrow = begun.cells.narrow; cells = begun.cells.cells; change = begun.cells.change }; counter = counter; kept = kept }

  in_era : (counter : ℕ) → VaultKeepsEra toys.disks 0 0 (vault_at counter)
  in_era counter = record { kept = refl; left = λ c other on too. inl (ap (λ (k : Kept). k.era) (same_kept other kept c too on)) }

  in_age : (counter : ℕ) → IsAged toys.disks 0 (vault_at counter)
  in_age counter = record { kept = omega arith; left = λ c other on too. omega arith }

  goes_on : (old new : ℕ) → old ≤ new → VaultGoesOn toys.disks (vault_at old) (vault_at new)
  goes_on old new up = record {
    still_past = λ tells n past. record { counter = omega (arith, up, past.counter); images = past.images };
    ages = λ tells age is. record { kept = is.kept; left = is.left };
    era = λ tells e other is. record { kept = is.kept; left = is.left };
    never_falls = omega arith;
  }

  draws : (id counter : ℕ) → id ≤ 16 → counter + 1 ≤ 100 → kept ≡ kept_to_draw counter kept → HasDrawn toys.disks id (vault_at counter) (vault_at (counter + 1)) (at (counter + 1) id)
  draws id counter known low same = record {
    draws = record { next = refl; counter = refl; kept = same };
    fits = record { counter = omega (arith, low); proposer = known };
    past = λ tells. record { counter = omega arith; images = λ c on. (kept, on, low) };
    goes_on = goes_on counter (counter + 1) (omega arith);
  }

  -- an acceptor that is up and keeps this, and whose shelf failed so often; or never did
  abbrev up_after : ℕ → ℕ → Contents → AcceptorView ToyShelf
  up_after faults id contents = record { id = id; started = true; down = false; shelf = record { contents = contents; others = contents; faults = faults } }

  abbrev up : ℕ → Contents → AcceptorView ToyShelf
  up id contents = up_after 0 id contents

  abbrev never_up : AcceptorView ToyShelf
  never_up = record { id = 0; started = false; down = true; shelf = record { contents = nothing; others = nothing; faults = 0 } }

  -- a round in its prepare phase, after the promises of these
  abbrev preparing : Ballot → List ℕ → Round
  preparing ballot by = record {
    key = key_a;
    era = era;
    ballot = ballot;
    ride = None;
    met = None;
    phase = Prepare (record { era = era; ballot = ballot; tally = record { confirmed = by; met = None; aged = None; full = None }; read = None });
  }

  abbrev with_round : ℕ → Round → DeskView ToyDisk
  with_round counter round = record { id = 1; vault = vault_at counter; cache = []; round = Some round; down = false }

  abbrev idle_desk : ℕ → DeskView ToyDisk
  idle_desk id = record { id = id; vault = vault_at 0; cache = []; round = None; down = false }

  -- what waits for proposer 1, how many more have room, and what is late
  abbrev flow_of : List Message → ℕ → List Message → FlowView
  flow_of messages room late = record { own = slice_set (replicate 18 empty_queue) 1 (record { messages = messages; again = false; room = room }); late = late }

  -- proposer 1 and its caller among the others, with acceptors 1 to 3
  abbrev seen : AcceptorView ToyShelf → AcceptorView ToyShelf → AcceptorView ToyShelf → DeskView ToyDisk → CallerView → FlowView → List Mark → View ToyShelf ToyDisk
  seen a b c desk caller flow marks = record {
    last_proposer = 2;
    eras = replicate 17 era;
    acceptors = never_up ∷ a ∷ b ∷ c ∷ [];
    desks = idle_desk 0 ∷ desk ∷ idle_desk 2 ∷ [];
    callers = new_caller ∷ caller ∷ new_caller ∷ [];
    flow = flow;
    council = opening_council three;
    marks = marks;
  }

  -- no change of membership is under way
  no_plan : {id : ℕ} {key : List ℕ} → calls.IsRescan (opening_council three) id key → ⊥
  no_plan of = cc of.is_plan

  -- ---- the opening
  abbrev opening : View ToyShelf ToyDisk
  opening = seen (up 1 nothing) (up 2 nothing) (up 3 nothing) (idle_desk 1) new_caller empty_flow []

  fresh_up : (id : ℕ) → IsFreshAcceptor toys id (up id nothing)
  fresh_up id = record {
    same_id = refl;
    started = λ e. refl;
    keeps = λ e. refl;
    lasts = λ tells e left may. elim may [ inl is ↦ is | inr is ↦ is ];
    not_started = λ e. absurd (cc e);
  }

  fresh_never : IsFreshAcceptor toys 0 never_up
  fresh_never = record { same_id = refl; started = λ e. absurd (cc e); keeps = λ e. absurd (cc e); lasts = λ tells e. absurd (cc e); not_started = λ e. refl }

  acceptors_fresh : (id : ℕ) (acceptor : AcceptorView ToyShelf) → IsAt opening.acceptors id acceptor → IsFreshAcceptor toys id acceptor
  acceptors_fresh zero acceptor is = subst (IsFreshAcceptor toys 0) (some_is is) fresh_never
  acceptors_fresh (suc zero) acceptor is = subst (IsFreshAcceptor toys 1) (some_is is) (fresh_up 1)
  acceptors_fresh (suc (suc zero)) acceptor is = subst (IsFreshAcceptor toys 2) (some_is is) (fresh_up 2)
  acceptors_fresh (suc (suc (suc zero))) acceptor is = subst (IsFreshAcceptor toys 3) (some_is is) (fresh_up 3)
  acceptors_fresh (suc (suc (suc (suc id)))) acceptor is = absurd (cc is)

  fresh_desk : (id : ℕ) → IsFreshDesk toys id (idle_desk id)
  fresh_desk id = record { same_id = refl; in_era = λ tells. in_era 0; no_promise = refl; none_open = refl }

  desks_fresh : (id : ℕ) (desk : DeskView ToyDisk) → IsAt opening.desks id desk → (id ≤ 2) × IsFreshDesk toys id desk
  desks_fresh zero desk is = (omega arith, subst (IsFreshDesk toys 0) (some_is is) (fresh_desk 0))
  desks_fresh (suc zero) desk is = (omega arith, subst (IsFreshDesk toys 1) (some_is is) (fresh_desk 1))
  desks_fresh (suc (suc zero)) desk is = (omega arith, subst (IsFreshDesk toys 2) (some_is is) (fresh_desk 2))
  desks_fresh (suc (suc (suc id))) desk is = absurd (cc is)

  callers_new : (id : ℕ) (caller : CallerView) → IsAt opening.callers id caller → caller ≡ new_caller
  callers_new zero caller is = sym (some_is is)
  callers_new (suc zero) caller is = sym (some_is is)
  callers_new (suc (suc zero)) caller is = sym (some_is is)
  callers_new (suc (suc (suc id))) caller is = absurd (cc is)

  is_opening : IsOpening toys three opening
  unfolding members_where
  is_opening = record {
    eras = refl;
    council = refl;
    few = omega arith;
    member_set = record { lists = refl };
    some = omega arith;
    few_members = omega arith;
    acceptors = acceptors_fresh;
    desks = desks_fresh;
    callers = callers_new;
    flow = refl;
    marks = refl;
  }

  -- frames that are sent when none waits
  sends : (messages : List Message) (room : ℕ) (late : List Message) → length messages ≤ 3 → Sends (flow_of [] room late) 1 messages (flow_of messages 3 late)
  sends messages room late enough = record {
    own = refl;
    again = refl;
    others = λ id other. queue_other (flow_of [] room late).own 1 id (record { messages = messages; again = false; room = 3 }) other;
    late = refl;
    queues = refl;
    room = enough;
  }

  opened : History toys three opening
  opened = opens opening is_opening

  -- ---- the call begins
  abbrev asks_prepare : ℕ → Request
  asks_prepare to = record { to = to; from = 1; age = 0; ask = ask.Prepare key_a one }

  abbrev calling : ℕ → List ℕ → Option Outcome → CallerView
  calling reserved harmed proposed = record { number = 1; call = Some (record (new_call key_a program reserved) { harmed = harmed; proposed = proposed }) }

  abbrev marks_begun : List Mark
  marks_begun = Begun 1 1 key_a program ∷ []

  abbrev view_begun : View ToyShelf ToyDisk
  view_begun = seen (up 1 nothing) (up 2 nothing) (up 3 nothing) (with_round 1 (preparing one [])) (calling 19 [] None)
      (flow_of (message.Request (asks_prepare 1) ∷ message.Request (asks_prepare 2) ∷ message.Request (asks_prepare 3) ∷ []) 3 []) marks_begun

  step_begun : Step toys opening (Begin 1 key_a program) view_begun
  unfolding members_where
  step_begun = record {
    middle = seen (up 1 nothing) (up 2 nothing) (up 3 nothing) (idle_desk 1) (calling 19 [] None) empty_flow marks_begun;
    opens = calls.first new_caller refl refl (omega arith) refl;
    caller = calling 19 [] None;
    at_caller = refl;
    call = new_call key_a program 19;
    is_open = refl;
    begins = calls.prepares (idle_desk 1) (with_round 1 (preparing one [])) one (preparing one [])
        (flow_of (message.Request (asks_prepare 1) ∷ message.Request (asks_prepare 2) ∷ message.Request (asks_prepare 3) ∷ []) 3 []) refl refl (omega arith)
        (record {
          none_open = refl;
          no_promise = refl;
          drawn = draws 1 0 (omega arith) (omega arith) refl;
          aged = λ tells. in_age 1;
          opened = (
            record { of_key = refl; in_era = refl; at = refl; ride = refl; met = refl },
            record { phase = record { same_era = refl; same_ballot = refl; tally = tally.nothing is_promise; read = refl }; met = refl },
          );
          desk = refl;
        }) (sends (prepares_to 1 0 key_a one three) 0 [] (omega arith)) refl;
  }

  history_begun : History toys three view_begun
  history_begun = steps opening (Begin 1 key_a program) view_begun opened step_begun

  -- ---- what acceptors answer
  abbrev promised : Contents
  promised = handling.promised one

  abbrev accepted : Contents
  accepted = handling.accepted one two five

  abbrev asks_accept : ℕ → Request
  asks_accept to = record { to = to; from = 1; age = 0; ask = ask.Accept key_a one 0 (Some two) five }

  promises : (to : ℕ) → Handles nothing (asks_prepare to) (tell.Promised None) promised
  promises to = handling.promises to 1 one (omega arith) (record { counters = omega arith; proposers = λ same. absurd (omega (arith, same)) })

  takes : (to : ℕ) → Handles promised (asks_accept to) tell.Accepted accepted
  takes to = handling.takes to 1 one two five (omega arith) (at_most_refl one)

  answers_by : (faults : ℕ) (old new : Contents) (request : Request) (told : Tell) → Handles old request told new
      → AnswersByTable toys.shelves (up_after faults request.to old) (up_after faults request.to new) request (reply_to request told)
  answers_by faults old new request told row = record {
    up = refl;
    acceptor = refl;
    table = answered request told refl row;
    lasts = λ tells left may. elim may [ inl is ↦ is | inr is ↦ is ];
    never_falls = omega arith;
  }

  -- ---- two promise, and the third stops within its write
  abbrev promise_of : ℕ → Reply
  promise_of from = reply_to (asks_prepare from) (tell.Promised None)

  abbrev flow_promised_one : FlowView
  flow_promised_one = flow_of (message.Request (asks_prepare 2) ∷ message.Request (asks_prepare 3) ∷ message.Reply (promise_of 1) ∷ []) 3 []

  abbrev view_promised_one : View ToyShelf ToyDisk
  view_promised_one = seen (up 1 promised) (up 2 nothing) (up 3 nothing) (with_round 1 (preparing one [])) (calling 19 [] None) flow_promised_one marks_begun

  step_promised_one : Step toys view_begun (Turn 1 Deliver) view_promised_one
  step_promised_one = record {
    of_call = record { caller = calling 19 [] None; at_caller = refl; call = new_call key_a program 19; is_open = refl };
    front = message.Request (asks_prepare 1);
    waits = refl;
    turn = frames.answers (asks_prepare 1) (up 1 nothing) (up 1 promised) (promise_of 1) refl refl refl (answers_by 0 nothing promised (asks_prepare 1) (tell.Promised None) (promises 1)) refl;
  }

  abbrev flow_promised_two : FlowView
  flow_promised_two = flow_of (message.Request (asks_prepare 3) ∷ message.Reply (promise_of 1) ∷ message.Reply (promise_of 2) ∷ []) 3 []

  abbrev view_promised_two : View ToyShelf ToyDisk
  view_promised_two = seen (up 1 promised) (up 2 promised) (up 3 nothing) (with_round 1 (preparing one [])) (calling 19 [] None) flow_promised_two marks_begun

  step_promised_two : Step toys view_promised_one (Turn 1 Deliver) view_promised_two
  step_promised_two = record {
    of_call = record { caller = calling 19 [] None; at_caller = refl; call = new_call key_a program 19; is_open = refl };
    front = message.Request (asks_prepare 2);
    waits = refl;
    turn = frames.answers (asks_prepare 2) (up 2 nothing) (up 2 promised) (promise_of 2) refl refl refl (answers_by 0 nothing promised (asks_prepare 2) (tell.Promised None) (promises 2)) refl;
  }

  -- it kept nothing, and a crash leaves that or the promise
  abbrev stopped : AcceptorView ToyShelf
  stopped = record { id = 3; started = true; down = true; shelf = record { contents = nothing; others = promised; faults = 1 } }

  stops_within : StopsWithin toys.shelves (up 3 nothing) stopped (asks_prepare 3)
  stops_within = record {
    up = refl;
    acceptor = refl;
    leaves = λ tells left may. elim may [ inl is ↦ inl is | inr is ↦ inr (tell.Promised None, promised, promises 3, is) ];
    faulted = inl (omega arith);
  }

  abbrev flow_stopped : FlowView
  flow_stopped = flow_of (message.Reply (promise_of 1) ∷ message.Reply (promise_of 2) ∷ []) 4 []

  abbrev marks_stopped : List Mark
  marks_stopped = marks_begun ++ Harmed 1 1 true ∷ []

  abbrev view_stopped : View ToyShelf ToyDisk
  view_stopped = seen (up 1 promised) (up 2 promised) stopped (with_round 1 (preparing one [])) (calling 18 (3 ∷ []) None) flow_stopped marks_stopped

  step_stopped : Step toys view_promised_two (Turn 1 Deliver) view_stopped
  unfolding members_where
  step_stopped = record {
    of_call = record { caller = calling 19 [] None; at_caller = refl; call = new_call key_a program 19; is_open = refl };
    front = message.Request (asks_prepare 3);
    waits = refl;
    turn = frames.brings_down (asks_prepare 3) (up 3 nothing) stopped refl refl refl stops_within refl;
  }

  -- ---- the two replies arrive
  abbrev prepare_round : List ℕ → PrepareRound
  prepare_round by = record { era = era; ballot = one; tally = record { confirmed = by; met = None; aged = None; full = None }; read = None }

  hears_promise : (by : List ℕ) (from : ℕ) → Hears (preparing one by) (promise_of from) (preparing one (with_member by from))
  hears_promise by from = prepare_hears (preparing one by) (promise_of from) (prepare_round by) (prepare_round (with_member by from)) refl
      (λ e ballot replies h. arrivals.prepare_arrives e ballot replies (promise_of from) (prepare_round by) (prepare_round (with_member by from)).tally refl refl
      (λ list h. arrivals.promise from 1 phase.Prepare one (tell.Promised None) list (prepare_round by).tally refl h) h)
      (λ e ballot replies h not_heard. absurd (arrivals.no_other is_prepare ballot (promise_of from) one refl refl h.same_ballot not_heard))

  abbrev calling_harmed : CallView
  calling_harmed = record (new_call key_a program 18) { harmed = 3 ∷ [] }

  abbrev view_heard_one : View ToyShelf ToyDisk
  view_heard_one = seen (up 1 promised) (up 2 promised) stopped (with_round 1 (preparing one (1 ∷ []))) (calling 18 (3 ∷ []) None) (flow_of (message.Reply (promise_of 2) ∷ []) 5 []) marks_stopped

  step_heard_one : Step toys view_stopped (Turn 1 Deliver) view_heard_one
  unfolding members_where
  step_heard_one = record {
    of_call = record { caller = calling 18 (3 ∷ []) None; at_caller = refl; call = calling_harmed; is_open = refl };
    front = message.Reply (promise_of 1);
    waits = refl;
    turn = frames.arrives (promise_of 1) (with_round 1 (preparing one [])) (with_round 1 (preparing one (1 ∷ []))) (preparing one []) (preparing one (1 ∷ [])) refl refl refl refl
        (record { hears = hears_promise [] 1; desk = refl }) refl;
  }

  abbrev view_heard_two : View ToyShelf ToyDisk
  view_heard_two = seen (up 1 promised) (up 2 promised) stopped (with_round 1 (preparing one (1 ∷ 2 ∷ []))) (calling 18 (3 ∷ []) None) (flow_of [] 6 []) marks_stopped

  step_heard_two : Step toys view_heard_one (Turn 1 Deliver) view_heard_two
  unfolding members_where
  step_heard_two = record {
    of_call = record { caller = calling 18 (3 ∷ []) None; at_caller = refl; call = calling_harmed; is_open = refl };
    front = message.Reply (promise_of 2);
    waits = refl;
    turn = frames.arrives (promise_of 2) (with_round 1 (preparing one (1 ∷ []))) (with_round 1 (preparing one (1 ∷ 2 ∷ []))) (preparing one (1 ∷ [])) (preparing one (1 ∷ 2 ∷ [])) refl refl refl refl
        (record { hears = hears_promise (1 ∷ []) 2; desk = refl }) refl;
  }

  history_prepared : History toys three view_heard_two
  history_prepared = steps view_heard_one (Turn 1 Deliver) view_heard_two (steps view_stopped (Turn 1 Deliver) view_heard_one (steps view_promised_two (Turn 1 Deliver) view_stopped
      (steps view_promised_one (Turn 1 Deliver) view_promised_two (steps view_begun (Turn 1 Deliver) view_promised_one history_begun step_promised_one) step_promised_two) step_stopped) step_heard_one) step_heard_two

  -- ---- it is proposed, and the next ballot rides along
  abbrev accepting : Ballot → List ℕ → Option Ballot → Round
  accepting ballot by ride = record {
    key = key_a;
    era = era;
    ballot = ballot;
    ride = ride;
    met = None;
    phase = Accept (record { era = era; ballot = ballot; tally = record { confirmed = by; met = None; aged = None; full = None } });
  }

  abbrev proposal : Proposal
  proposal = record { caller = 1; call = 1; key = key_a; ballot = one; read = at 0 0; era = 0; prepared_by = 1 ∷ 2 ∷ [] }

  abbrev made : Outcome
  made = outcome_of program Empty

  abbrev accept_to : ℕ → Message
  accept_to to = message.Request (asks_accept to)

  abbrev marks_proposed : List Mark
  marks_proposed = marks_stopped ++ Proposed proposal ∷ []

  abbrev view_proposed : View ToyShelf ToyDisk
  view_proposed = seen (up 1 promised) (up 2 promised) stopped (with_round 2 (accepting one [] (Some two))) (calling 17 [] (Some made)) (flow_of (accept_to 1 ∷ accept_to 2 ∷ accept_to 3 ∷ []) 3 []) marks_proposed

  step_proposed : Step toys view_heard_two (Propose 1) view_proposed
  unfolding members_where
  step_proposed = record {
    at_round = record {
      of_call = record { caller = calling 18 (3 ∷ []) None; at_caller = refl; call = calling_harmed; is_open = refl };
      desk = with_round 1 (preparing one (1 ∷ 2 ∷ []));
      at_desk = refl;
      up = refl;
      round = preparing one (1 ∷ 2 ∷ []);
      is_open = refl;
      none_waits = refl;
    };
    preparing = refl;
    proposes = calls.proposes (with_round 2 (accepting one [] (Some two))) (accepting one [] None) None (1 ∷ 2 ∷ []) (Some two) made (flow_of (accept_to 1 ∷ accept_to 2 ∷ accept_to 3 ∷ []) 3 []) refl
        (record { prepare = λ replies h. h.phase.tally.confirmed; accept = λ prepared replies h. absurd h.phase })
        (λ replies h. h.phase.read)
        (record {
          turns = record {
            same = refl;
            accepting = refl;
            accepts = λ replies h. record { phase = record { same_era = refl; same_ballot = refl; tally = tally.nothing is_acceptance }; met = h.met };
          };
          due = low_due 1 two (omega arith);
          drawn = draws 1 1 (omega arith) (omega arith) refl;
          aged = λ tells. in_age 2;
          desk = refl;
        }) refl (sends (accepts_to 1 0 key_a one 0 (Some two) five three) 6 [] (omega arith)) refl;
  }

  history_proposed : History toys three view_proposed
  history_proposed = steps view_heard_two (Propose 1) view_proposed history_prepared step_proposed

  -- ---- two accept it, and the request to the third is late
  abbrev acceptance_of : ℕ → Reply
  acceptance_of from = reply_to (asks_accept from) tell.Accepted

  abbrev call_made : ℕ → CallView
  call_made reserved = record (new_call key_a program reserved) { proposed = Some made }

  abbrev marks_voted_one : List Mark
  marks_voted_one = marks_proposed ++ Voted 1 key_a one ∷ []

  abbrev view_accepted_one : View ToyShelf ToyDisk
  view_accepted_one = seen (up 1 accepted) (up 2 promised) stopped (with_round 2 (accepting one [] (Some two))) (calling 16 [] (Some made))
      (flow_of (accept_to 2 ∷ accept_to 3 ∷ message.Reply (acceptance_of 1) ∷ []) 3 []) marks_voted_one

  step_accepted_one : Step toys view_proposed (Turn 1 Deliver) view_accepted_one
  step_accepted_one = record {
    of_call = record { caller = calling 17 [] (Some made); at_caller = refl; call = call_made 17; is_open = refl };
    front = accept_to 1;
    waits = refl;
    turn = frames.answers (asks_accept 1) (up 1 promised) (up 1 accepted) (acceptance_of 1) refl refl refl (answers_by 0 promised accepted (asks_accept 1) tell.Accepted (takes 1)) refl;
  }

  abbrev marks_voted_two : List Mark
  marks_voted_two = marks_voted_one ++ Voted 2 key_a one ∷ []

  abbrev view_accepted_two : View ToyShelf ToyDisk
  view_accepted_two = seen (up 1 accepted) (up 2 accepted) stopped (with_round 2 (accepting one [] (Some two))) (calling 15 [] (Some made))
      (flow_of (accept_to 3 ∷ message.Reply (acceptance_of 1) ∷ message.Reply (acceptance_of 2) ∷ []) 3 []) marks_voted_two

  step_accepted_two : Step toys view_accepted_one (Turn 1 Deliver) view_accepted_two
  step_accepted_two = record {
    of_call = record { caller = calling 16 [] (Some made); at_caller = refl; call = call_made 16; is_open = refl };
    front = accept_to 2;
    waits = refl;
    turn = frames.answers (asks_accept 2) (up 2 promised) (up 2 accepted) (acceptance_of 2) refl refl refl (answers_by 0 promised accepted (asks_accept 2) tell.Accepted (takes 2)) refl;
  }

  abbrev marks_late : List Mark
  marks_late = marks_voted_two ++ Harmed 1 1 false ∷ []

  abbrev call_late : CallView
  call_late = record (new_call key_a program 14) { harmed = 3 ∷ []; proposed = Some made }

  -- all but the round and the flow from then on
  abbrev accepting_with : List ℕ → List Message → ℕ → View ToyShelf ToyDisk
  accepting_with by messages room =
      seen (up 1 accepted) (up 2 accepted) stopped (with_round 2 (accepting one by (Some two))) (calling 14 (3 ∷ []) (Some made)) (flow_of messages room (accept_to 3 ∷ [])) marks_late

  abbrev view_late : View ToyShelf ToyDisk
  view_late = accepting_with [] (message.Reply (acceptance_of 1) ∷ message.Reply (acceptance_of 2) ∷ []) 4

  step_late : Step toys view_accepted_two (Turn 1 Late) view_late
  unfolding members_where
  step_late = record {
    of_call = record { caller = calling 15 [] (Some made); at_caller = refl; call = call_made 15; is_open = refl };
    front = accept_to 3;
    waits = refl;
    turn = frames.gone refl refl;
  }

  abbrev accept_round : List ℕ → AcceptRound
  accept_round by = record { era = era; ballot = one; tally = record { confirmed = by; met = None; aged = None; full = None } }

  hears_acceptance : (by : List ℕ) (from : ℕ) → Hears (accepting one by (Some two)) (acceptance_of from) (accepting one (with_member by from) (Some two))
  hears_acceptance by from = accept_hears (accepting one by (Some two)) (acceptance_of from) (accept_round by) (accept_round (with_member by from)) refl
      (λ e ballot replies h. arrivals.accept_arrives e ballot replies (acceptance_of from) (accept_round by) (accept_round (with_member by from)).tally refl refl
      (λ list h. arrivals.acceptance from 1 phase.Accept one tell.Accepted list (accept_round by).tally refl h) h)
      (λ e ballot replies h not_heard. absurd (arrivals.no_other is_accept ballot (acceptance_of from) one refl refl h.same_ballot not_heard))

  abbrev view_counted_one : View ToyShelf ToyDisk
  view_counted_one = accepting_with (1 ∷ []) (message.Reply (acceptance_of 2) ∷ []) 5

  step_counted_one : Step toys view_late (Turn 1 Deliver) view_counted_one
  unfolding members_where
  step_counted_one = record {
    of_call = record { caller = calling 14 (3 ∷ []) (Some made); at_caller = refl; call = call_late; is_open = refl };
    front = message.Reply (acceptance_of 1);
    waits = refl;
    turn = frames.arrives (acceptance_of 1) (with_round 2 (accepting one [] (Some two))) (with_round 2 (accepting one (1 ∷ []) (Some two))) (accepting one [] (Some two)) (accepting one (1 ∷ []) (Some two)) refl refl refl refl
        (record { hears = hears_acceptance [] 1; desk = refl }) refl;
  }

  abbrev view_counted_two : View ToyShelf ToyDisk
  view_counted_two = accepting_with (1 ∷ 2 ∷ []) [] 6

  step_counted_two : Step toys view_counted_one (Turn 1 Deliver) view_counted_two
  unfolding members_where
  step_counted_two = record {
    of_call = record { caller = calling 14 (3 ∷ []) (Some made); at_caller = refl; call = call_late; is_open = refl };
    front = message.Reply (acceptance_of 2);
    waits = refl;
    turn = frames.arrives (acceptance_of 2) (with_round 2 (accepting one (1 ∷ []) (Some two))) (with_round 2 (accepting one (1 ∷ 2 ∷ []) (Some two))) (accepting one (1 ∷ []) (Some two)) (accepting one (1 ∷ 2 ∷ []) (Some two)) refl refl refl refl
        (record { hears = hears_acceptance (1 ∷ []) 2; desk = refl }) refl;
  }

  history_accepted : History toys three view_counted_two
  history_accepted = steps view_counted_one (Turn 1 Deliver) view_counted_two (steps view_late (Turn 1 Deliver) view_counted_one (steps view_accepted_two (Turn 1 Late) view_late
      (steps view_accepted_one (Turn 1 Deliver) view_accepted_two (steps view_proposed (Turn 1 Deliver) view_accepted_one history_proposed step_accepted_one) step_accepted_two) step_late) step_counted_one) step_counted_two

  -- ---- it is done, and the promise that rode along is kept
  abbrev acknowledgment : Acknowledgment
  acknowledgment = record { key = key_a; ballot = one; era = 0; by = 1 ∷ 2 ∷ [] }

  abbrev ready : Ready
  ready = record { ballot = two; state = five; read = one; by = 1 ∷ 2 ∷ [] }

  abbrev marks_acked : List Mark
  marks_acked = marks_late ++ Acked acknowledgment ∷ []

  abbrev desk_ready : DeskView ToyDisk
  desk_ready = record { id = 1; vault = vault_at 2; cache = (key_a, ready) ∷ []; round = None; down = false }

  abbrev call_done : CallView
  call_done = record call_late { told = Some (answer.Done five (ByClause 0) one); reserved = 1 }

  abbrev view_done : View ToyShelf ToyDisk
  view_done = seen (up 1 accepted) (up 2 accepted) stopped desk_ready (record { number = 1; call = Some call_done }) (flow_of [] 6 (accept_to 3 ∷ [])) marks_acked

  step_done : Step toys view_counted_two (Count 1) view_done
  unfolding members_where
  step_done = record {
    at_round = record {
      of_call = record { caller = calling 14 (3 ∷ []) (Some made); at_caller = refl; call = call_late; is_open = refl };
      desk = with_round 2 (accepting one (1 ∷ 2 ∷ []) (Some two));
      at_desk = refl;
      up = refl;
      round = accepting one (1 ∷ 2 ∷ []) (Some two);
      is_open = refl;
      none_waits = refl;
    };
    accepting = refl;
    counts = calls.counts desk_ready (1 ∷ 2 ∷ []) made refl (record { prepare = λ replies h. absurd h.phase; accept = λ prepared replies h. h.phase.tally.confirmed }) refl
        (record { desk = refl; counter = refl; kept = refl; goes_on = goes_on 2 2 (omega arith) }) refl;
  }

  abbrev marks_ended : List Mark
  marks_ended = marks_acked ++ Ended 1 1 1 (answer.Done five (ByClause 0) one) ∷ []

  abbrev view_ended : View ToyShelf ToyDisk
  view_ended = seen (up 1 accepted) (up 2 accepted) stopped desk_ready (record { number = 1; call = None }) (flow_of [] 6 (accept_to 3 ∷ [])) marks_ended

  step_ended : Step toys view_done (End 1 (answer.Done five (ByClause 0) one)) view_ended
  step_ended = record {
    of_call = record { caller = record { number = 1; call = Some call_done }; at_caller = refl; call = call_done; is_open = refl };
    ends = record { told = refl; desk = desk_ready; at_desk = refl; now = desk_ready; closed = inl (refl, refl); council = opening_council three; rescans = calls.is_none no_plan refl; view = refl };
  }

  history_ended : History toys three view_ended
  history_ended = steps view_done (End 1 (answer.Done five (ByClause 0) one)) view_ended (steps view_counted_two (Count 1) view_done history_accepted step_done) step_ended

  -- ---- the third is up again with the promise, and takes the late request
  abbrev view_restarted : View ToyShelf ToyDisk
  view_restarted = seen (up 1 accepted) (up 2 accepted) (up_after 1 3 promised) desk_ready (record { number = 1; call = None }) (flow_of [] 6 (accept_to 3 ∷ [])) marks_ended

  step_restarted : Step toys view_ended (RestartAcceptor 3) view_restarted
  step_restarted = starts stopped (up_after 1 3 promised) refl (record {
    was_down = refl;
    acceptor = refl;
    afresh = λ e. absurd (cc e);
    reopened = λ tells e. inr refl;
    lasts = λ tells left may. elim may [ inl is ↦ is | inr is ↦ is ];
    never_falls = omega arith;
  }) refl

  abbrev late_reply : List Message
  late_reply = message.Reply (acceptance_of 3) ∷ []

  abbrev marks_strayed : List Mark
  marks_strayed = marks_ended ++ Voted 3 key_a one ∷ []

  abbrev view_strayed : View ToyShelf ToyDisk
  view_strayed = seen (up 1 accepted) (up 2 accepted) (up_after 1 3 accepted) desk_ready (record { number = 1; call = None }) (flow_of [] 6 late_reply) marks_strayed

  step_strayed : Step toys view_restarted (Stray 0) view_strayed
  step_strayed = record {
    late = accept_to 3;
    waits = refl;
    room = omega arith;
    strays = frames.Strays.answers (asks_accept 3) (up_after 1 3 promised) (up_after 1 3 accepted) (acceptance_of 3) refl refl (answers_by 1 promised accepted (asks_accept 3) tell.Accepted (takes 3)) refl;
  }

  -- ---- the next call is proposed by the promise that rode along, and another ballot rides
  abbrev next_proposal : Proposal
  next_proposal = record { caller = 1; call = 2; key = key_a; ballot = two; read = one; era = 0; prepared_by = 1 ∷ 2 ∷ [] }

  abbrev next_made : Outcome
  next_made = outcome_of program five

  abbrev marks_next : List Mark
  marks_next = marks_strayed ++ Begun 1 2 key_a program ∷ []

  abbrev marks_ridden : List Mark
  marks_ridden = marks_next ++ Proposed next_proposal ∷ []

  abbrev caller_next : CallerView
  caller_next = record { number = 2; call = Some (new_call key_a program 19) }

  abbrev flow_next : FlowView
  flow_next = flow_of (accepts_to 1 0 key_a two 0 (Some (at 3 1)) next_made.state three) 3 late_reply

  abbrev view_next : View ToyShelf ToyDisk
  view_next = seen (up 1 accepted) (up 2 accepted) (up_after 1 3 accepted) (with_round 3 (accepting two [] (Some (at 3 1)))) (record { number = 2; call = Some (record (new_call key_a program 18) { proposed = Some next_made }) }) flow_next marks_ridden

  step_next : Step toys view_strayed (Begin 1 key_a program) view_next
  unfolding members_where
  step_next = record {
    middle = seen (up 1 accepted) (up 2 accepted) (up_after 1 3 accepted) desk_ready caller_next (flow_of [] 6 late_reply) marks_next;
    opens = calls.first (record { number = 1; call = None }) refl refl (omega arith) refl;
    caller = caller_next;
    at_caller = refl;
    call = new_call key_a program 19;
    is_open = refl;
    begins = calls.proposes desk_ready (with_round 3 (accepting two [] (Some (at 3 1)))) ready (Some (at 3 1)) (accepting two [] None) next_made flow_next refl refl (omega arith)
        (record {
          none_open = refl;
          promise = refl;
          due = low_due 2 (at 3 1) (omega arith);
          drawn = draws 1 2 (omega arith) (omega arith) refl;
          aged = λ tells. in_age 3;
          opened = (
            record { of_key = refl; in_era = refl; at = refl; ride = refl; met = refl },
            record { phase = record { same_era = refl; same_ballot = refl; tally = tally.nothing is_acceptance }; met = refl },
          );
          desk = refl;
        }) refl (sends (accepts_to 1 0 key_a two 0 (Some (at 3 1)) next_made.state three) 6 late_reply (omega arith)) refl;
  }

  history_next : History toys three view_next
  history_next = steps view_strayed (Begin 1 key_a program) view_next (steps view_restarted (Stray 0) view_strayed (steps view_ended (RestartAcceptor 3) view_restarted history_ended step_restarted) step_strayed) step_next

  -- ---- another proposer meets a ballot, stops in its round, and is up again
  abbrev other : Ballot
  other = at 1 2

  -- proposer 2 and its caller with the others as they were
  abbrev with_other : DeskView ToyDisk → CallerView → QueueView → List Message → List Mark → View ToyShelf ToyDisk
  with_other desk caller queue late marks = record view_next {
    desks = slice_set view_next.desks 2 desk;
    callers = slice_set view_next.callers 2 caller;
    flow = record { own = slice_set flow_next.own 2 queue; late = late };
    marks = marks;
  }

  abbrev asks_other : ℕ → Request
  asks_other to = record { to = to; from = 2; age = 0; ask = ask.Prepare key_a other }

  abbrev desk_other : DeskView ToyDisk
  desk_other = record { id = 2; vault = vault_at 1; cache = []; round = Some (preparing other []); down = false }

  abbrev caller_other : CallerView
  caller_other = record { number = 1; call = Some (new_call key_a program 19) }

  abbrev marks_other : List Mark
  marks_other = marks_ridden ++ Begun 2 1 key_a program ∷ []

  abbrev queue_begun : QueueView
  queue_begun = record { messages = prepares_to 2 0 key_a other three; again = false; room = 3 }

  abbrev view_other : View ToyShelf ToyDisk
  view_other = with_other desk_other caller_other queue_begun late_reply marks_other

  step_other : Step toys view_next (Begin 2 key_a program) view_other
  unfolding members_where
  step_other = record {
    middle = with_other (idle_desk 2) caller_other empty_queue late_reply marks_other;
    opens = calls.first new_caller refl refl (omega arith) refl;
    caller = caller_other;
    at_caller = refl;
    call = new_call key_a program 19;
    is_open = refl;
    begins = calls.prepares (idle_desk 2) desk_other other (preparing other []) view_other.flow refl refl (omega arith)
        (record {
          none_open = refl;
          no_promise = refl;
          drawn = draws 2 0 (omega arith) (omega arith) refl;
          aged = λ tells. in_age 1;
          opened = (
            record { of_key = refl; in_era = refl; at = refl; ride = refl; met = refl },
            record { phase = record { same_era = refl; same_ballot = refl; tally = tally.nothing is_promise; read = refl }; met = refl },
          );
          desk = refl;
        })
        (record {
          own = refl;
          again = refl;
          others = λ id apart. queue_other flow_next.own 2 id queue_begun apart;
          late = refl;
          queues = refl;
          room = omega arith;
        }) refl;
  }

  meets : Handles accepted (asks_other 1) (tell.Met two) accepted
  meets = (omega arith, (ap seen_of (sym (accepted_kept one two five)), record { counters = omega arith; proposers = λ same. absurd (omega (arith, same)) }, refl))

  abbrev met_reply : Reply
  met_reply = reply_to (asks_other 1) (tell.Met two)

  abbrev view_met : View ToyShelf ToyDisk
  view_met = with_other desk_other caller_other (record { messages = message.Request (asks_other 2) ∷ message.Request (asks_other 3) ∷ message.Reply met_reply ∷ []; again = false; room = 3 }) late_reply marks_other

  step_met : Step toys view_other (Turn 2 Deliver) view_met
  step_met = record {
    of_call = record { caller = caller_other; at_caller = refl; call = new_call key_a program 19; is_open = refl };
    front = message.Request (asks_other 1);
    waits = refl;
    turn = frames.answers (asks_other 1) (up 1 accepted) (up 1 accepted) met_reply refl refl refl (answers_by 0 accepted accepted (asks_other 1) (tell.Met two) meets) refl;
  }

  abbrev down_other : DeskView ToyDisk
  down_other = record { id = 2; vault = vault_at 1; cache = []; round = None; down = true }

  abbrev call_crashed : CallView
  call_crashed = record (new_call key_a program 1) { told = Some answer.Crashed; is_closed = true }

  abbrev late_other : List Message
  late_other = message.Reply (acceptance_of 3) ∷ message.Request (asks_other 2) ∷ message.Request (asks_other 3) ∷ message.Reply met_reply ∷ []

  abbrev queue_left : QueueView
  queue_left = record { messages = []; again = false; room = 6 }

  abbrev view_crashed : View ToyShelf ToyDisk
  view_crashed = with_other down_other (record { number = 1; call = Some call_crashed }) queue_left late_other marks_other

  step_crashed : Step toys view_met (CrashProposer 2) view_crashed
  step_crashed = of_client (λ same. cc same) (closes desk_other down_other (preparing other []) (record { caller = caller_other; at_caller = refl; call = new_call key_a program 19; is_open = refl }) refl refl
      (record { crashed = refl; shows = record { counter = refl; kept = refl }; goes_on = goes_on 1 1 (omega arith) }) refl)

  abbrev marks_crashed : List Mark
  marks_crashed = marks_other ++ Ended 2 1 1 answer.Crashed ∷ []

  abbrev view_over : View ToyShelf ToyDisk
  view_over = with_other down_other (record { number = 1; call = None }) queue_left late_other marks_crashed

  step_over : Step toys view_crashed (End 2 answer.Crashed) view_over
  step_over = record {
    of_call = record { caller = record { number = 1; call = Some call_crashed }; at_caller = refl; call = call_crashed; is_open = refl };
    ends = record { told = refl; desk = down_other; at_desk = refl; now = down_other; closed = inl (refl, refl); council = opening_council three; rescans = calls.is_none no_plan refl; view = refl };
  }

  abbrev view_last : View ToyShelf ToyDisk
  view_last = with_other (record (idle_desk 2) { vault = vault_at 100 }) (record { number = 1; call = None }) queue_left late_other marks_crashed

  restarted : Restarts toys.disks down_other (record (idle_desk 2) { vault = vault_at 100 })
  restarted = record {
    desk = refl;
    counter = λ up. refl;
    image = λ up tells. (kept_image, kept_shown, kept_shown);
    unread = λ down. absurd (cc down);
    still_past = (goes_on 1 100 (omega arith)).still_past;
    ages = (goes_on 1 100 (omega arith)).ages;
    shows = λ up tells e other is. inl (record { kept = is.kept; left = λ c k may on. inl (ap (λ (x : Kept). x.era) (same_kept k kept c on may) ∙ is.kept) });
    stays = λ down. absurd (cc down);
    never_falls = omega arith;
  }

  step_last : Step toys view_over (RestartProposer 2) view_last
  step_last = restarts down_other (record (idle_desk 2) { vault = vault_at 100 }) (record { number = 1; call = None }) refl refl refl restarted refl

  history_last : History toys three view_last
  history_last = steps view_over (RestartProposer 2) view_last (steps view_crashed (End 2 answer.Crashed) view_over (steps view_met (CrashProposer 2) view_crashed
      (steps view_other (Turn 2 Deliver) view_met (steps view_next (Begin 2 key_a program) view_other history_next step_other) step_met) step_crashed) step_over) step_last

  -- and an acceptor crashes between its answers
  abbrev crashed : AcceptorView ToyShelf
  crashed = record (up 1 accepted) { down = true }

  abbrev view_down : View ToyShelf ToyDisk
  view_down = with_acceptor view_last 1 crashed

  step_down : Step toys view_last (CrashAcceptor 1) view_down
  step_down = crashes (up 1 accepted) crashed refl (record {
    acceptor = refl;
    settled = λ tells. record { left = Ok accepted; was_possible = inl refl; nothing_else = λ other may. elim may [ inl is ↦ is | inr is ↦ is ] };
    never_falls = omega arith;
  }) refl

  pub shown : ShownHistory
  shown = record {
    members = three;
    view = view_down;
    history = steps view_last (CrashAcceptor 1) view_down history_last step_down;
    harmed = record { older = _; at = past (past (past (past (past (past (past (past (past (past (past here)))))))))) };
    done = record { older = _; at = past (past (past (past (past here)))) };
    rides = record { older = _; at = past (past here) };
    crashed = record { older = _; at = here };
  }
