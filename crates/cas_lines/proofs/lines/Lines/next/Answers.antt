use Rattle.std.proofs.Common.{◌≡◌, ◌+◌, ◌<◌, Ok, true, false, ◌==◌, [], length, get_or, refl, ap, arith, inl, inr}
use Rattle.std.proofs.lemmas.Bool.{ne_eqb}
use Rattle.std.proofs.lemmas.Grind.{common_steps}
use Rattle.std.proofs.lemmas.Result.{err_from_is_err_and}
use Rattle.cas_lines.specs.Lines.{has_newline, room_behind}
use Rattle.cas_lines.specs.declared.lines.TheConstants.{LINE_LIMIT, MOST_LINES}
use Rattle.cas_lines.proofs.Calls.{tells, tells_line, room_for_line, room_for_end, nothing_held, newline_at, newline_in_front}
use Rattle.cas_lines.proofs.FirstLens.{newline_within, hands_line, hands_longest, hands_rest, is_long_line}
use Rattle.cas_lines.proofs.lines.Lines.next.Goals as goal

pub returns-in_err-hand_out-in-Line-clause-err : goal.returns-in_err-hand_out-in-Line-clause-err
returns-in_err-hand_out-in-Line-clause-err g c =
    let p = err_from_is_err_and c.from_residual-in_err-hand_out-in-Line.result c.from_residual-in_err-hand_out-in-Line.ensures.1 in
    rw (p.1, c.in_err-hand_out-in-Line.ensures.err) c.in_ok-supply.ensures.ahead

pub returns-in_err-hand_out-in-End-2-clause-err : goal.returns-in_err-hand_out-in-End-2-clause-err
returns-in_err-hand_out-in-End-2-clause-err g c =
    let p = err_from_is_err_and c.from_residual-in_err-hand_out-in-End-2.result c.from_residual-in_err-hand_out-in-End-2.ensures.1 in
    rw (p.1, c.in_err-hand_out-in-End-2.ensures.err) c.in_ok-supply.ensures.ahead

pub returns-in_err-hand_out-in-Beyond-clause-err : goal.returns-in_err-hand_out-in-Beyond-clause-err
returns-in_err-hand_out-in-Beyond-clause-err g c =
    let p = err_from_is_err_and c.from_residual-in_err-hand_out-in-Beyond.result c.from_residual-in_err-hand_out-in-Beyond.ensures.1 in
    rw (p.1, c.in_err-hand_out-in-Beyond.ensures.err) c.in_ok-supply.ensures.ahead

pub returns-in_ok-hand_out-in-Line-clause-line : goal.returns-in_ok-hand_out-in-Line-clause-line
returns-in_ok-hand_out-in-Line-clause-line g c =
    let out = c.in_ok-hand_out-in-Line.ensures in
    hands_line LINE_LIMIT c.args.self.now c.hand_out.new.self _ _ c.supply.new.self.held _ refl c.in_ok-supply.ensures.ahead out.held out.text
    (c.in_ok-supply.ensures.line (ap Ok c.in-Line.is))

pub returns-in_ok-hand_out-in-End-2-clause-line : goal.returns-in_ok-hand_out-in-End-2-clause-line
returns-in_ok-hand_out-in-End-2-clause-line g c =
    let ended = c.in_ok-supply.ensures.end (ap Ok c.in-End-2.is) in
    let out = c.in_ok-hand_out-in-End-2.ensures in
    let some : 0 < length c.supply.new.self.held = grind (arith, common_steps) in
    hands_rest c.args.self.now c.hand_out-in-End-2.new.self _ _ c.supply.new.self.held _ c.in_ok-supply.ensures.ahead out.held out.text
    ended.2 some (omega (arith, ended.1))

pub returns-in_ok-hand_out-in-Beyond-clause-line : goal.returns-in_ok-hand_out-in-Beyond-clause-line
returns-in_ok-hand_out-in-Beyond-clause-line g c =
    let held = c.supply.new.self.held in
    let beyond = c.in_ok-supply.ensures.beyond (ap Ok c.in-Beyond.is) in
    let inside : LINE_LIMIT < length c.supply.new.self.held = omega (arith, beyond.1) in
    let at : get_or c.supply.new.self.held LINE_LIMIT 0 ≡ 10 = cc c.if-rest-eq10.true in
    let out = c.in_ok-hand_out-in-Beyond.ensures in
    hands_longest LINE_LIMIT c.args.self.now c.hand_out-in-Beyond.new.self _ _ held _ refl c.in_ok-supply.ensures.ahead out.held out.text beyond.0 inside at

pub returns-in-Beyond-2-clause-endless : goal.returns-in-Beyond-2-clause-endless
returns-in-Beyond-2-clause-endless g c = λ line is.
    let s = c.self.inside in
    let held = c.supply.new.self.held in
    let beyond = c.in_ok-supply.ensures.beyond (ap Ok c.in-Beyond.is) in
    let inside : LINE_LIMIT < length c.supply.new.self.held = omega (arith, beyond.1) in
    let other : (get_or c.supply.new.self.held LINE_LIMIT 0 == 10) ≡ false =
    ne_eqb (get_or held LINE_LIMIT 0) 10 (λ e. c.if-rest-eq10.false (cc e)) in
    let number : line ≡ s.handed + 1 = cc is in
    let few : s.handed < MOST_LINES = omega arith in
    let number_now : line ≡ c.args.self.now.handed + 1 = rw (← c.self.view_is) number in
    let few_now : c.args.self.now.handed < MOST_LINES = rw (← c.self.view_is) few in
    (number_now, few_now, is_long_line LINE_LIMIT c.args.self.now _ _ held refl c.in_ok-supply.ensures.ahead beyond.0 inside other)

pub returns-in-Beyond-2-clause-err : goal.returns-in-Beyond-2-clause-err
returns-in-Beyond-2-clause-err g c = c.in_ok-supply.ensures.ahead

-- ---- a line that is there already
pub returns-in_err-supply-clause-err : goal.returns-in_err-supply-clause-err
returns-in_err-supply-clause-err g c =
    let p = err_from_is_err_and c.from_residual-in_err-supply.result c.from_residual-in_err-supply.ensures.1 in
    rw p.1 c.in_err-supply.ensures.ahead

pub returns-in_err-expect_end-clause-ready : goal.returns-in_err-expect_end-clause-ready
returns-in_err-expect_end-clause-ready g c = λ some. c.in_err-expect_end.ensures.ready (newline_within LINE_LIMIT _ some)

pub returns-then-self-eq-MOST_LINES-clause-ready : goal.returns-then-self-eq-MOST_LINES-clause-ready
returns-then-self-eq-MOST_LINES-clause-ready g c = λ some. c.in_ok-expect_end.ensures.ready (newline_within LINE_LIMIT _ some)

-- ---- what the source was asked, and what is told
pub returns-then-self-eq-MOST_LINES-clause-at_once : goal.returns-then-self-eq-MOST_LINES-clause-at_once
returns-then-self-eq-MOST_LINES-clause-at_once g c =
    let asks = c.in_ok-expect_end.ensures.asks in
    let none : c.expect_end.new.self.held ≡ [] = nothing_held _ _ _ _ _ _ asks (λ stop stops. stops) in
    let room : 0 ≡ room_behind c.args.self.now.handed = rw (← c.self.view_is) (room_for_end c.self.inside.handed c.if-self-eq-MOST_LINES.true) in
    tells _ 0 c.args.self.now c.expect_end.new.self _ _ _ c.expect_end.new.self.held _ asks room (λ stop stops. (stops, none, none))

pub returns-in_err-expect_end-clause-at_once : goal.returns-in_err-expect_end-clause-at_once
returns-in_err-expect_end-clause-at_once g c =
    let p = err_from_is_err_and c.from_residual.result c.from_residual.ensures.1 in
    let room : 0 ≡ room_behind c.args.self.now.handed = rw (← c.self.view_is) (room_for_end c.self.inside.handed c.if-self-eq-MOST_LINES.true) in
    rw (p.1, p.2) (tells _ 0 c.args.self.now c.expect_end.new.self _ _ _ c.expect_end.new.self.held _ c.in_err-expect_end.ensures.asks room (λ stop stops. (stops, refl)))

pub returns-in_err-supply-clause-at_once : goal.returns-in_err-supply-clause-at_once
returns-in_err-supply-clause-at_once g c =
    let p = err_from_is_err_and c.from_residual-in_err-supply.result c.from_residual-in_err-supply.ensures.1 in
    let room : LINE_LIMIT ≡ room_behind c.args.self.now.handed = rw (← c.self.view_is) (room_for_line c.self.inside.handed c.if-self-eq-MOST_LINES.false) in
    rw (p.1, p.2) (tells _ LINE_LIMIT c.args.self.now c.supply.new.self _ _ _ c.supply.new.self.held _ c.in_err-supply.ensures.asks room (λ stop stops. (stops, refl)))

pub returns-in_err-hand_out-in-Line-clause-at_once : goal.returns-in_err-hand_out-in-Line-clause-at_once
returns-in_err-hand_out-in-Line-clause-at_once g c =
    let p = err_from_is_err_and c.from_residual-in_err-hand_out-in-Line.result c.from_residual-in_err-hand_out-in-Line.ensures.1 in
    let room : LINE_LIMIT ≡ room_behind c.args.self.now.handed = rw (← c.self.view_is) (room_for_line c.self.inside.handed c.if-self-eq-MOST_LINES.false) in
    rw (p.1, p.2, c.in_err-hand_out-in-Line.ensures.err) (tells _ LINE_LIMIT c.args.self.now c.supply.new.self _ _ _ c.supply.new.self.held _ (rw c.in-Line.is at c.in_ok-supply.ensures.asks)
    room (λ stop stops. ((λ is. cc, λ is. cc), refl)))

pub returns-in_err-hand_out-in-End-2-clause-at_once : goal.returns-in_err-hand_out-in-End-2-clause-at_once
returns-in_err-hand_out-in-End-2-clause-at_once g c =
    let p = err_from_is_err_and c.from_residual-in_err-hand_out-in-End-2.result c.from_residual-in_err-hand_out-in-End-2.ensures.1 in
    let room : LINE_LIMIT ≡ room_behind c.args.self.now.handed = rw (← c.self.view_is) (room_for_line c.self.inside.handed c.if-self-eq-MOST_LINES.false) in
    rw (p.1, p.2, c.in_err-hand_out-in-End-2.ensures.err) (tells _ LINE_LIMIT c.args.self.now c.supply.new.self _ _ _ c.supply.new.self.held _ (rw c.in-End-2.is at c.in_ok-supply.ensures.asks)
    room (λ stop stops. ((λ is. cc, λ is. cc), refl)))

pub returns-in_err-hand_out-in-Beyond-clause-at_once : goal.returns-in_err-hand_out-in-Beyond-clause-at_once
returns-in_err-hand_out-in-Beyond-clause-at_once g c =
    let p = err_from_is_err_and c.from_residual-in_err-hand_out-in-Beyond.result c.from_residual-in_err-hand_out-in-Beyond.ensures.1 in
    let room : LINE_LIMIT ≡ room_behind c.args.self.now.handed = rw (← c.self.view_is) (room_for_line c.self.inside.handed c.if-self-eq-MOST_LINES.false) in
    rw (p.1, p.2, c.in_err-hand_out-in-Beyond.ensures.err) (tells _ LINE_LIMIT c.args.self.now c.supply.new.self _ _ _ c.supply.new.self.held _ (rw c.in-Beyond.is at c.in_ok-supply.ensures.asks)
    room (λ stop stops. ((λ is. cc, λ is. cc), refl)))

pub returns-in_ok-hand_out-in-Line-clause-few : goal.returns-in_ok-hand_out-in-Line-clause-few
returns-in_ok-hand_out-in-Line-clause-few g c = rw (← c.self.view_is) (omega arith)

pub returns-in_ok-hand_out-in-Line-clause-at_once : goal.returns-in_ok-hand_out-in-Line-clause-at_once
returns-in_ok-hand_out-in-Line-clause-at_once g c =
    let held = c.supply.new.self.held in
    let out = c.in_ok-hand_out-in-Line.ensures in
    let some : has_newline c.supply.new.self.held ≡ true = newline_in_front LINE_LIMIT held (c.in_ok-supply.ensures.line (ap Ok c.in-Line.is)) in
    let room : LINE_LIMIT ≡ room_behind c.args.self.now.handed = rw (← c.self.view_is) (room_for_line c.self.inside.handed c.if-self-eq-MOST_LINES.false) in
    tells _ LINE_LIMIT c.args.self.now c.hand_out.new.self _ _ _ held _ (rw c.in-Line.is at c.in_ok-supply.ensures.asks) room
    (λ stop stops. tells_line held c.hand_out.new.self.held c.in_ok-hand_out-in-Line.field-0 stop out.held out.text (inl (stops, some)))

pub returns-in_ok-hand_out-in-End-2-clause-at_once : goal.returns-in_ok-hand_out-in-End-2-clause-at_once
returns-in_ok-hand_out-in-End-2-clause-at_once g c =
    let held = c.supply.new.self.held in
    let out = c.in_ok-hand_out-in-End-2.ensures in
    let none = (c.in_ok-supply.ensures.end (ap Ok c.in-End-2.is)).0 in
    let some : 0 < length c.supply.new.self.held = grind (arith, common_steps) in
    let room : LINE_LIMIT ≡ room_behind c.args.self.now.handed = rw (← c.self.view_is) (room_for_line c.self.inside.handed c.if-self-eq-MOST_LINES.false) in
    tells _ LINE_LIMIT c.args.self.now c.hand_out-in-End-2.new.self _ _ _ held _ (rw c.in-End-2.is at c.in_ok-supply.ensures.asks) room
    (λ stop stops. tells_line held c.hand_out-in-End-2.new.self.held c.in_ok-hand_out-in-End-2.field-0 stop out.held out.text (inr (stops, none, some)))

pub returns-in_ok-hand_out-in-Beyond-clause-at_once : goal.returns-in_ok-hand_out-in-Beyond-clause-at_once
returns-in_ok-hand_out-in-Beyond-clause-at_once g c =
    let held = c.supply.new.self.held in
    let beyond = c.in_ok-supply.ensures.beyond (ap Ok c.in-Beyond.is) in
    let inside : LINE_LIMIT < length c.supply.new.self.held = omega (arith, beyond.1) in
    let at : get_or c.supply.new.self.held LINE_LIMIT 0 ≡ 10 = cc c.if-rest-eq10.true in
    let out = c.in_ok-hand_out-in-Beyond.ensures in
    let room : LINE_LIMIT ≡ room_behind c.args.self.now.handed = rw (← c.self.view_is) (room_for_line c.self.inside.handed c.if-self-eq-MOST_LINES.false) in
    tells _ LINE_LIMIT c.args.self.now c.hand_out-in-Beyond.new.self _ _ _ held _ (rw c.in-Beyond.is at c.in_ok-supply.ensures.asks) room
    (λ stop stops. tells_line held c.hand_out-in-Beyond.new.self.held c.in_ok-hand_out-in-Beyond.field-0 stop out.held out.text (inl (stops, newline_at LINE_LIMIT held inside at)))

pub returns-in-Beyond-2-clause-at_once : goal.returns-in-Beyond-2-clause-at_once
returns-in-Beyond-2-clause-at_once g c =
    let room : LINE_LIMIT ≡ room_behind c.args.self.now.handed = rw (← c.self.view_is) (room_for_line c.self.inside.handed c.if-self-eq-MOST_LINES.false) in
    tells _ LINE_LIMIT c.args.self.now c.supply.new.self _ _ _ c.supply.new.self.held _ (rw c.in-Beyond.is at c.in_ok-supply.ensures.asks)
    room (λ stop stops. ((λ is. cc, λ is. cc), refl))

pub returns-in_ok-hand_out-in-Beyond-clause-few : goal.returns-in_ok-hand_out-in-Beyond-clause-few
returns-in_ok-hand_out-in-Beyond-clause-few g c = rw (← c.self.view_is) (omega arith)
