-- Callers by their places, and what is reserved for them.
use Rattle.std.proofs.Common.{◌≡◌, ◌≤◌, ℕ, zero, suc, true, false, List, [], ◌∷◌, Option, None, Some, slice_set, slice_index_or, refl, ap, subst, ◌∙◌, arith}
use Rattle.std.specs.Prelude.{map, option_map, is_some, MatchOption}
use Rattle.std.proofs.lemmas.List.{length-map}
use Rattle.cas_acceptor.specs.Acceptor.{AcceptorView}
use Rattle.cas_flow.specs.Flow.{FlowView, queue_at}
use Rattle.cas_proposer.specs.Desk.{DeskView}
use Rattle.cas_proposer.specs.declared.round.Round.{Round}
use Rattle.cas_record.specs.Book.{Book}
use Rattle.cas_model.specs.Safe.{IsOpenSafe, IsRoundSafe, IsSafe}
use Rattle.cas_model.specs.View.{CallView, IsAt, era_in}
use Rattle.cas_world_calls.specs.declared.council.Council.{Council}
use Rattle.cas_world_calls.specs.declared.call.Caller.{Caller}
use Rattle.cas_world_calls.specs.declared.call.OpenCall.{OpenCall}
use Rattle.cas_model.proofs.Places.{at_one}
use Rattle.cas_world.specs.World.{view_of, call_view, caller_view}
use Rattle.cas_world.proofs.Parts.{at_place}

pub map_set : {A B : Type 0} (f : A → B) (xs : List A) (place : ℕ) (x : A) → map f (slice_set xs place x) ≡ slice_set (map f xs) place (f x)
map_set f [] place x = refl
map_set f (y ∷ xs) zero x = refl
map_set {A} {B} f (y ∷ xs) (suc place) x = ap (λ (l : List B). f y ∷ l) (map_set f xs place x)

pub at_map : {A B : Type 0} (f : A → B) (xs : List A) (place : ℕ) (x : A) → IsAt xs place x → IsAt (map f xs) place (f x)
at_map f [] place x at = cc at
at_map {A} {B} f (y ∷ xs) zero x at = ap (λ (o : Option A). option_map f o) at
at_map f (y ∷ xs) (suc place) x at = at_map f xs place x at

-- what is lent of an open round shows that one is open
pub lent : {A : Type 0} (now_of : A → Round) (lent_one : Option A) (round : Option Round) → MatchOption lent_one (round ≡ None) (λ one. round ≡ Some (now_of one)) → is_some lent_one ≡ true → (open_one : Round) × (round ≡ Some open_one)
lent now_of None round match is = cc is
lent now_of (Some one) round match is = (now_of one, match)

pub not_lent : {A : Type 0} (now_of : A → Round) (lent_one : Option A) (round : Option Round) → MatchOption lent_one (round ≡ None) (λ one. round ≡ Some (now_of one)) → is_some lent_one ≡ false → round ≡ None
not_lent now_of None round match is = match
not_lent now_of (Some one) round match is = cc is

-- a call that is seen as open is open
pub seen_open : (call : Option OpenCall) (view : CallView) → option_map call_view call ≡ Some view → (open_one : OpenCall) × (call ≡ Some open_one)
seen_open None view is = cc is
seen_open (Some one) view is = (one, refl)

-- where a round is open its caller has an open call
pub call_at : {S V : Type 0} (last_proposer : ℕ) (council : Council) (acceptors : List (AcceptorView S)) (desks : List (DeskView V)) (callers : List Caller) (flow : FlowView) (book : Book) (id : ℕ) (desk : DeskView V) (round : Round) (caller : Caller)
    → IsSafe (view_of last_proposer council acceptors desks callers flow book) → IsAt desks id desk → IsAt callers id caller → desk.round ≡ Some round → (open_one : OpenCall) × (caller.call ≡ Some open_one)
call_at last_proposer council acceptors desks callers flow book id desk round caller safe at_desk at_caller is_round =
    let is : IsOpenSafe (era_in council.eras.0 id) (caller_view caller) (queue_at flow id) round =
    subst (IsRoundSafe (era_in council.eras.0 id) (caller_view caller) (queue_at flow id)) is_round (safe.sound.parties id desk (caller_view caller) at_desk (at_map caller_view callers id caller at_caller)).round in
    seen_open caller.call is.call is.is_open

-- a desk and its caller, with the open round and the open call
pub record IsRoundOpenIn {V : Type 0} (desks : List (DeskView V)) (callers : List Caller) (id : ℕ) (desk : DeskView V) (caller : Caller) : Type 0 where
  pub at_desk : IsAt desks id desk
  pub at_caller : IsAt callers id caller
  pub round : Round
  pub is_round : desk.round ≡ Some round
  pub call : OpenCall
  pub is_open : caller.call ≡ Some call

-- what an index reads of a world whose round is lent
pub open_in : {S V : Type 0} {A : Type 0} (now_of : A → Round) (last_proposer : ℕ) (council : Council) (acceptors : List (AcceptorView S)) (desks : List (DeskView V)) (callers : List Caller) (flow : FlowView) (book : Book) (place id : ℕ)
    (desk read : DeskView V) (lent_one : Option A) (caller : Caller) → place ≡ id → id ≤ last_proposer → IsSafe (view_of last_proposer council acceptors desks callers flow book)
    → desk ≡ slice_index_or desks place desk → read ≡ slice_index_or desks place read → MatchOption lent_one (read.round ≡ None) (λ one. read.round ≡ Some (now_of one)) → is_some lent_one ≡ true
    → caller ≡ slice_index_or callers place caller → IsRoundOpenIn desks callers id desk caller
open_in {S} {V} now_of last_proposer council acceptors desks callers flow book place id desk read lent_one caller same low safe desk_is read_is match some caller_is =
    let at_desk = at_place desks place id desk same (omega (arith, safe.sound.desks, low)) desk_is in
    let at_read = at_place desks place id read same (omega (arith, safe.sound.desks, low)) read_is in
    let at_caller = at_place callers place id caller same (omega (arith, safe.sound.callers, low, length-map callers caller_view)) caller_is in
    let found = lent now_of lent_one read.round match some in
    let is_round : desk.round ≡ Some found.0 = ap (λ (d : DeskView V). d.round) (at_one desks id at_desk at_read) ∙ found.1 in
    let call = call_at last_proposer council acceptors desks callers flow book id desk found.0 caller safe at_desk at_caller is_round in
    record { at_desk = at_desk; at_caller = at_caller; round = found.0; is_round = is_round; call = call.0; is_open = call.1 }
