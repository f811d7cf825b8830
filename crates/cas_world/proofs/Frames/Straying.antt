-- What becomes of a late frame.
use Rattle.std.proofs.Common.{◌≡◌, ◌+◌, ℕ, List, ◌++◌, Option, length, ap, subst, ◌∙◌}
use Rattle.std.specs.Prelude.{IfSome}
use Rattle.cas_acceptor.specs.Acceptor.{AcceptorView}
use Rattle.cas_flow.specs.Flow.{FlowView}
use Rattle.cas_flow.specs.declared.message.Message.{Message}
use Rattle.cas_flow.specs.declared.message.Message.TheVariants as message
use Rattle.cas_record.specs.Book.{Book}
use Rattle.cas_record.specs.declared.mark.Mark.{Mark}
use Rattle.cas_slot.specs.declared.message.Request.{Request}
use Rattle.cas_model.specs.Frames.Step.{with_late, without_late}
use Rattle.cas_model.specs.View.{ShelfMeaning}
use Rattle.cas_world.specs.Frames.Serve.{mark_in, RepliesBy}
use Rattle.cas_world.specs.Frames.Stray.{AsksLate, is_answered}

-- the acceptor answers
pub answered_late : {S : Type 0} (m : ShelfMeaning S) (index : ℕ) (request : Request) (acceptors acceptors_now : List (AcceptorView S)) (flow middle flow_now : FlowView) (before after : Book) (frame : Option Message) (vote : Option Mark)
    → RepliesBy m acceptors request frame vote acceptors_now → middle ≡ without_late flow index → IfSome frame (λ message. flow_now ≡ with_late middle message)
    → after.marks ≡ before.marks ++ mark_in vote → after.room + length (mark_in vote) ≡ before.room
    → AsksLate m index request acceptors acceptors_now flow flow_now before after
answered_late m index request acceptors acceptors_now flow middle flow_now before after frame vote by takes pushes made room =
    is_answered by.acceptor by.after by.reply by.stands by.table by.changed
    (subst (λ (o : Option Message). IfSome o (λ message. flow_now ≡ with_late middle message)) by.bears pushes ∙ ap (λ (f : FlowView). with_late f (message.Reply by.reply)) takes)
    (subst (λ (ms : List Mark). after.marks ≡ before.marks ++ ms) by.voted made)
    (subst (λ (ms : List Mark). after.room + length ms ≡ before.room) by.voted room)
