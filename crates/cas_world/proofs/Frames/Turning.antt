-- What becomes of a frame that has its turn.
use Rattle.std.proofs.Common.{◌≡◌, ◌≢◌, ◌+◌, ◌-◌, ℕ, Bool, List, [], ◌∷◌, ◌++◌, Option, None, Some, length, slice_get, option_map, refl, sym, ap, subst, ◌∙◌, arith, append-nil}
use Rattle.std.specs.Prelude.{Result, Ok, Err, OnOk, IsSome, IfSome}
use Rattle.cas_flow.specs.Message.{head_of}
use Rattle.cas_flow.specs.declared.message.Message.{Message}
use Rattle.cas_flow.specs.declared.message.Message.TheVariants as message
use Rattle.cas_record.specs.Book.{Book}
use Rattle.cas_record.specs.declared.mark.Mark.{Mark}
use Rattle.cas_acceptor.specs.Acceptor.{AcceptorView}
use Rattle.cas_fate.specs.declared.fate.Verdict.{Verdict}
use Rattle.cas_flow.specs.Flow.{FlowView, queue_at, with_queue, taken}
use Rattle.cas_flow.specs.Queue.{pushed}
use Rattle.cas_slot.specs.declared.message.Request.{Request}
use Rattle.cas_model.specs.View.{ShelfMeaning}
use Rattle.cas_world_calls.specs.Call.{harmed_by, harms_marked}
use Rattle.cas_world.specs.Frames.Serve.{mark_in, Serves}
use Rattle.cas_world.specs.Frames.Turn.{MakesInRoom, Harms, Asks, is_answered, silent, marking}
use Rattle.cas_world.specs.declared.serve.Served.TheVariants as served
use Rattle.cas_world_calls.specs.declared.call.Caller.{Caller}
use Rattle.cas_world_calls.specs.declared.call.OpenCall.{OpenCall}

-- ---- the first of those that wait
pub none_waits : (messages : List Message) → None ≡ option_map head_of (slice_get messages 0) → messages ≡ []
none_waits [] e = refl
none_waits (message ∷ messages) e = absurd (cc e)

pub one_waits : (messages : List Message) → messages ≢ [] → (front : Message) × (slice_get messages 0 ≡ Some front)
one_waits [] some = absurd (some refl)
one_waits (message ∷ messages) some = (message, refl)

-- ---- an open call
some_of : {A : Type 0} (o : Option A) → IsSome o → (x : A) × (o ≡ Some x)
some_of None is = absurd (cc is)
some_of (Some x) is = (x, refl)

if_is : {A : Type 0} (P : A → Type 0) {o : Option A} {x : A} → o ≡ Some x → IfSome o P → P x
if_is {A} P same h = subst (λ (o : Option A). IfSome o P) same h

-- it is told nothing
pub makes_none : (old new : Caller) (book : Book) → IsSome old.call → IfSome old.call (λ call. new ≡ record old { call = Some (silent call) }) → MakesInRoom old new book book silent (λ call. [])
makes_none old new book is silences =
    let call = some_of old.call is in
    record {
      call = call.0;
      was_open = call.1;
      caller = if_is (λ (c : OpenCall). new ≡ record old { call = Some (silent c) }) call.1 silences;
      made = sym (append-nil book.marks);
      room = omega arith;
    }

pub makes_no_vote : (old new : Caller) (book : Book) → IsSome old.call → IfSome old.call (λ call. new ≡ record old { call = Some (silent call) }) → MakesInRoom old new book book (marking []) (λ call. [])
makes_no_vote old new book is silences =
    let call = some_of old.call is in
    let same : call.0.reserved ≡ call.0.reserved - 0 = omega arith in
    record {
      call = call.0;
      was_open = call.1;
      caller = if_is (λ (c : OpenCall). new ≡ record old { call = Some (silent c) }) call.1 silences ∙ ap (λ (r : ℕ). record old { call = Some (record (silent call.0) { reserved = r }) }) same;
      made = sym (append-nil book.marks);
      room = omega arith;
    }

-- and its vote is marked
pub makes_vote : (old middle new : Caller) (before after : Book) (mark : Mark) → IsSome old.call → IfSome old.call (λ call. middle ≡ record old { call = Some (silent call) })
    → IfSome middle.call (λ call. new ≡ record middle { call = Some (record call { reserved = call.reserved - 1 }) })
    → after.marks ≡ before.marks ++ mark ∷ [] → after.room + 1 ≡ before.room → MakesInRoom old new before after (marking (mark ∷ [])) (λ call. mark ∷ [])
makes_vote old middle new before after mark is silences marks made room =
    let call = some_of old.call is in
    let still : middle ≡ record old { call = Some (silent call.0) } = if_is (λ (c : OpenCall). middle ≡ record old { call = Some (silent c) }) call.1 silences in
    let then : new ≡ record middle { call = Some (record (silent call.0) { reserved = call.0.reserved - 1 }) } =
    if_is (λ (c : OpenCall). new ≡ record middle { call = Some (record c { reserved = c.reserved - 1 }) }) (ap (λ (c : Caller). c.call) still) marks in
    record {
      call = call.0;
      was_open = call.1;
      caller = then ∙ ap (λ (who : Caller). record who { call = Some (record (silent call.0) { reserved = call.0.reserved - 1 }) }) still;
      made = made;
      room = room;
    }

-- it was harmed
pub makes_harm : (proposer : ℕ) (old new : Caller) (before after : Book) (acceptor : ℕ) (down : Bool) → IsSome old.call → IfSome old.call (λ call. new ≡ record old { call = Some (harmed_by call acceptor) })
    → IfSome old.call (λ call. after.marks ≡ before.marks ++ harms_marked proposer old.number call acceptor down)
    → IfSome old.call (λ call. after.room + length (harms_marked proposer old.number call acceptor down) ≡ before.room)
    → Harms proposer old new before after acceptor down
makes_harm proposer old new before after acceptor down is harms made room =
    let call = some_of old.call is in
    record {
      call = call.0;
      was_open = call.1;
      caller = if_is (λ (c : OpenCall). new ≡ record old { call = Some (harmed_by c acceptor) }) call.1 harms;
      made = if_is (λ (c : OpenCall). after.marks ≡ before.marks ++ harms_marked proposer old.number c acceptor down) call.1 made;
      room = if_is (λ (c : OpenCall). after.room + length (harms_marked proposer old.number c acceptor down) ≡ before.room) call.1 room;
    }

-- ---- a request
-- the acceptor answers
pub answered : {S : Type 0} (m : ShelfMeaning S) (proposer : ℕ) (verdict : Verdict) (request : Request) (acceptors acceptors_now : List (AcceptorView S)) (caller caller_now : Caller) (flow middle flow_now : FlowView) (before after : Book)
    (frame : Option Message) (vote : Option Mark) → Serves m acceptors request (served.Replied frame vote) acceptors_now → middle ≡ taken flow proposer verdict
    → IfSome frame (λ message. flow_now ≡ with_queue middle proposer (pushed (queue_at middle proposer) message))
    → MakesInRoom caller caller_now before after (marking (mark_in vote)) (λ call. mark_in vote)
    → Asks m proposer verdict request acceptors acceptors_now caller caller_now flow flow_now before after
answered {S} m proposer verdict request acceptors acceptors_now caller caller_now flow middle flow_now before after frame vote by takes pushes makes =
    let there : flow_now ≡ with_queue middle proposer (pushed (queue_at middle proposer) (message.Reply by.reply)) =
    if_is (λ (message : Message). flow_now ≡ with_queue middle proposer (pushed (queue_at middle proposer) message)) by.bears pushes in
    is_answered by.acceptor by.after by.reply by.stands by.table by.changed
    (there ∙ ap (λ (f : FlowView). with_queue f proposer (pushed (queue_at f proposer) (message.Reply by.reply))) takes)
    (subst (λ (marks : List Mark). MakesInRoom caller caller_now before after (marking marks) (λ call. marks)) by.voted makes)

-- what follows where a call succeeded
pub on_ok : {T E : Type 0} {P Q : Type 0} (result : Result T E) → (P → Q) → OnOk result P → OnOk result Q
on_ok (Ok x) f p = f p
on_ok (Err e) f p = p
