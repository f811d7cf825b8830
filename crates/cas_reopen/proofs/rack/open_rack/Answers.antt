use Rattle.std.proofs.Common.{◌≡◌, ◌∙◌, ℕ, List, rules, true, refl, sym, subst}
use Rattle.cas_ballot.specs.Members.{has_member}
use Rattle.cas_store.specs.Rack.{rack_meaning, IsAllEmpty}
use Rattle.cas_store.proofs.Keeping.{stored}
use Rattle.cas_world.specs.Openings.Opening.{members_to}
use Rattle.cas_reopen.specs.Closed.{IsWhyClosed, ComesInOrder, StopsWithinOpening}
use Rattle.cas_reopen.specs.Closed.NoneWasLost.{all_were_empty, all_stood}
use Rattle.cas_reopen.specs.Closed.StopsWithinOpening.{all_empty}
use Rattle.cas_reopen.specs.Opened.IsOpenedOver.{is_new}
use Rattle.cas_reopen.specs.Ready.{OthersStay}
use Rattle.cas_reopen.proofs.Asked.{found_asked, stops_asked, others_asked, closed_unknown, closed_since, stops_since, others_since}
use Rattle.cas_reopen.proofs.Begun.{all_found_empty, same_members}
use Rattle.cas_reopen.proofs.Racks.{reopened, named, each_err, in_order, unknown_in_order}
use Rattle.cas_reopen.proofs.Restoring.{if_ok, if_err}
use Rattle.cas_reopen.proofs.rack.open_rack.Given.{Over}
use Rattle.cas_reopen.proofs.rack.open_rack.Goals as goal
use Rattle.cas_reopen.proofs.rack.open_rack.Goals.{After-are_zero}

pub returns-in-Err-clause-stops : goal.returns-in-Err-clause-stops
returns-in-Err-clause-stops g c = λ told. stops_asked (rack_meaning g.D.Disk) c.args.members c.args.rack c.lengths_of.new.rack told (c.in-Err.ensures {u = tt}).err.acceptors

pub returns-in-Err-clause-fault : goal.returns-in-Err-clause-fault
returns-in-Err-clause-fault g c = closed_unknown (rack_meaning g.D.Disk) c.args.members c.args.rack c.lengths_of.new.rack c.in-Err.fault (c.in-Err.ensures {u = tt}).err

pub returns-in-Err-clause-others : goal.returns-in-Err-clause-others
returns-in-Err-clause-others g c = others_asked (rack_meaning g.D.Disk) c.args.members c.args.rack.acceptors.items c.lengths_of.new.rack.acceptors.items (c.in-Err.ensures {u = tt}).err.acceptors

pub returns-in-Some-clause-stops : goal.returns-in-Some-clause-stops
returns-in-Some-clause-stops g c = λ told. stops_asked (rack_meaning g.D.Disk) c.args.members c.args.rack c.lengths_of.new.rack told
    (found_asked (rack_meaning g.D.Disk) c.in-Ok.filled.acceptors c.args.rack.acceptors.items c.lengths_of.new.rack.acceptors.items (c.in-Ok.ensures {u = tt}).ok.of_acceptors)

pub returns-then-not-are_zero-clause-opened : goal.returns-then-not-are_zero-clause-opened
returns-then-not-are_zero-clause-opened g c = if_ok _ _ c.go_on.result
    (λ store. reopened (stored g.D.Disk) (rack_meaning g.D.Disk) c.args.config.acceptors c.args.config.proposers c.args.members c.args.rack
    c.lengths_of.new.rack store.world c.in-Ok.filled.acceptors c.in-Ok.filled.vaults (c.in-Ok.ensures {u = tt}).ok ((c.in_default.ensures {u = tt}).none refl)) c.go_on.ensures.ok

pub returns-then-not-are_zero-clause-fault : goal.returns-then-not-are_zero-clause-fault
returns-then-not-are_zero-clause-fault g c = if_err _ _ c.go_on.result (λ back. closed_since (rack_meaning g.D.Disk) c.args.members c.in-Ok.filled.acceptors c.in-Ok.filled.vaults c.args.rack
    c.lengths_of.new.rack (c.in-Ok.ensures {u = tt}).ok back.1 back.0) c.go_on.ensures.err

pub returns-then-not-are_zero-clause-stops : goal.returns-then-not-are_zero-clause-stops
returns-then-not-are_zero-clause-stops g c = λ told. if_err _ _ c.go_on.result (λ back. stops_since (rack_meaning g.D.Disk) c.args.members c.in-Ok.filled.acceptors c.in-Ok.filled.vaults c.args.rack
    c.lengths_of.new.rack (c.in-Ok.ensures {u = tt}).ok back.1 told) (c.go_on.ensures.stops refl told)

pub returns-then-not-are_zero-clause-others : goal.returns-then-not-are_zero-clause-others
returns-then-not-are_zero-clause-others g c = if_err _ _ c.go_on.result (λ back. others_since (rack_meaning g.D.Disk) c.args.members c.in-Ok.filled.acceptors c.in-Ok.filled.vaults c.args.rack
    c.lengths_of.new.rack (c.in-Ok.ensures {u = tt}).ok back.1) c.go_on.ensures.others

-- all disks are empty
empty : (g : Over) (c : After-are_zero g) → c.are_zero.result ≡ true → IsAllEmpty (rack_meaning g.D.Disk) c.args.rack c.lengths_of.new.rack
empty g c zero = all_found_empty (rack_meaning g.D.Disk) c.args.members c.args.rack c.lengths_of.new.rack c.in-Ok.filled.acceptors c.in-Ok.filled.vaults
    (sym c.args.rack.acceptors.ok.0 ∙ c.requires.acceptors) (sym c.args.rack.vaults.ok.0 ∙ c.requires.vaults) (c.are_zero.ensures.none zero) (c.in-Ok.ensures {u = tt}).ok

pub returns-then-eq-clause-opened : goal.returns-then-eq-clause-opened
returns-then-eq-clause-opened g c =
    let zero : c.are_zero.result ≡ true = search rules in
    if_ok _ _ c.open_new.result (λ store over. is_new c.lengths_of.new.rack (empty g (goal.at.returns-then-eq-clause-opened g c).After-are_zero zero)
    (same_members c.args.members c.first_members.result (sym c.eq.ensures ∙ c.if-eq.true) ∙ c.first_members.ensures) over) c.open_new.ensures.ok

pub returns-then-eq-clause-fault : goal.returns-then-eq-clause-fault
returns-then-eq-clause-fault g c =
    let same : c.args.members ≡ members_to c.args.config.acceptors = same_members c.args.members c.first_members.result (sym c.eq.ensures ∙ c.if-eq.true) ∙ c.first_members.ensures in
    if_err _ _ c.open_new.result (λ back why. subst (λ (members : List ℕ). IsWhyClosed (rack_meaning g.D.Disk) members c.args.rack back.1 back.0) (sym same)
    (closed_since (rack_meaning g.D.Disk) (members_to c.args.config.acceptors) c.in-Ok.filled.acceptors c.in-Ok.filled.vaults c.args.rack
    c.lengths_of.new.rack (c.in-Ok.ensures {u = tt}).ok back.1 back.0 why)) c.open_new.ensures.err

pub returns-then-eq-clause-stops : goal.returns-then-eq-clause-stops
returns-then-eq-clause-stops g c =
    let zero : c.are_zero.result ≡ true = search rules in
    λ told. each_err (λ back. StopsWithinOpening (rack_meaning g.D.Disk) c.args.members c.args.rack back.1) c.open_new.result
    (λ back. all_empty c.lengths_of.new.rack (empty g (goal.at.returns-then-eq-clause-stops g c).After-are_zero zero))

pub returns-then-eq-clause-others : goal.returns-then-eq-clause-others
returns-then-eq-clause-others g c =
    let same : c.args.members ≡ members_to c.args.config.acceptors = same_members c.args.members c.first_members.result (sym c.eq.ensures ∙ c.if-eq.true) ∙ c.first_members.ensures in
    if_err _ _ c.open_new.result (λ back stay. others_since (rack_meaning g.D.Disk) c.args.members c.in-Ok.filled.acceptors c.in-Ok.filled.vaults c.args.rack
    c.lengths_of.new.rack (c.in-Ok.ensures {u = tt}).ok back.1
    (subst (λ (members : List ℕ). OthersStay members c.lengths_of.new.rack.acceptors.items back.1.acceptors.items) (sym same) stay)) c.open_new.ensures.others

pub returns-clause-opened : goal.returns-clause-opened
returns-clause-opened g c =
    let zero : c.are_zero.result ≡ true = search rules in
    if_ok _ _ c.go_on-2.result (λ store. named (stored g.D.Disk) (rack_meaning g.D.Disk) c.args.config.acceptors c.args.config.proposers c.args.members c.args.rack
    c.lengths_of.new.rack store.world c.new.result c.new.ensures (empty g (goal.at.returns-clause-opened g c).After-are_zero zero)) c.go_on-2.ensures.ok

pub returns-clause-fault : goal.returns-clause-fault
returns-clause-fault g c = if_err _ _ c.go_on-2.result (λ back. closed_since (rack_meaning g.D.Disk) c.args.members c.in-Ok.filled.acceptors c.in-Ok.filled.vaults c.args.rack
    c.lengths_of.new.rack (c.in-Ok.ensures {u = tt}).ok back.1 back.0) c.go_on-2.ensures.err

pub returns-clause-stops : goal.returns-clause-stops
returns-clause-stops g c =
    let zero : c.are_zero.result ≡ true = search rules in
    λ told. each_err (λ back. StopsWithinOpening (rack_meaning g.D.Disk) c.args.members c.args.rack back.1) c.go_on-2.result
    (λ back. all_empty c.lengths_of.new.rack (empty g (goal.at.returns-clause-stops g c).After-are_zero zero))

pub returns-clause-others : goal.returns-clause-others
returns-clause-others g c = if_err _ _ c.go_on-2.result (λ back. others_since (rack_meaning g.D.Disk) c.args.members c.in-Ok.filled.acceptors c.in-Ok.filled.vaults c.args.rack
    c.lengths_of.new.rack (c.in-Ok.ensures {u = tt}).ok back.1) c.go_on-2.ensures.others

-- ---- the order of the faults
pub returns-in-Err-clause-order : goal.returns-in-Err-clause-order
returns-in-Err-clause-order g c = unknown_in_order (rack_meaning g.D.Disk) c.args.members c.args.rack c.lengths_of.new.rack c.in-Err.fault (c.in-Err.ensures {u = tt}).err

pub returns-then-not-are_zero-clause-order : goal.returns-then-not-are_zero-clause-order
returns-then-not-are_zero-clause-order g c = each_err (λ back. ComesInOrder (rack_meaning g.D.Disk) c.args.members c.args.rack back.0) c.go_on.result
    (λ back. in_order (rack_meaning g.D.Disk) c.args.members c.args.rack back.0
    (all_stood c.lengths_of.new.rack c.in-Ok.filled.acceptors c.in-Ok.filled.vaults (c.in-Ok.ensures {u = tt}).ok ((c.in_default.ensures {u = tt}).none refl)))

pub returns-then-eq-clause-order : goal.returns-then-eq-clause-order
returns-then-eq-clause-order g c =
    let zero : c.are_zero.result ≡ true = search rules in
    each_err (λ back. ComesInOrder (rack_meaning g.D.Disk) c.args.members c.args.rack back.0) c.open_new.result
    (λ back. in_order (rack_meaning g.D.Disk) c.args.members c.args.rack back.0
    (all_were_empty c.lengths_of.new.rack (empty g (goal.at.returns-then-eq-clause-order g c).After-are_zero zero)))

pub returns-clause-order : goal.returns-clause-order
returns-clause-order g c =
    let zero : c.are_zero.result ≡ true = search rules in
    each_err (λ back. ComesInOrder (rack_meaning g.D.Disk) c.args.members c.args.rack back.0) c.go_on-2.result
    (λ back. in_order (rack_meaning g.D.Disk) c.args.members c.args.rack back.0
    (all_were_empty c.lengths_of.new.rack (empty g (goal.at.returns-clause-order g c).After-are_zero zero)))
