use Rattle.std.proofs.Common.{◌≡◌, Some, true, eqb-true, ◌∙◌, arith}
use Rattle.cas_cells.specs.Format.{is_open, number_of, next, payload_in}
use Rattle.cas_cells.specs.Held.{HeldIn}
use Rattle.cas_cells.specs.declared.cell.Side.TheVariants.{First, Second}
use Rattle.cas_cells.proofs.Places.{IsSize}
use Rattle.cas_cells.proofs.Recovering.{Whole, first_frame, second_frame, first_spare, second_spare, held_current, held_on, made}
use Rattle.cas_cells.proofs.reading.cell_of.Goals as goal

pub current-requires-clause-frame : goal.current-requires-clause-frame
current-requires-clause-frame c =
    let f = c.args.first.now in
    let h = c.args.second.now in
    let size = c.args.size in
    let fit : IsSize size = record { least = c.requires.least; most = c.requires.most } in
    let w : Whole size fit f h = record { whole = c.requires.sound; f_short = c.requires.first_size; g_short = c.requires.second_size; f_byte = omega (arith, c.type_inv.first 3); g_byte = omega (arith, c.type_inv.second 3) } in
    let is_first : c.current_side.result ≡ Some First = cc in
    first_frame size fit f h w (c.current_side.ensures.first is_first).0

pub current-requires-in-Some-Second-clause-frame : goal.current-requires-in-Some-Second-clause-frame
current-requires-in-Some-Second-clause-frame c =
    let f = c.args.first.now in
    let h = c.args.second.now in
    let size = c.args.size in
    let fit : IsSize size = record { least = c.requires.least; most = c.requires.most } in
    let w : Whole size fit f h = record { whole = c.requires.sound; f_short = c.requires.first_size; g_short = c.requires.second_size; f_byte = omega (arith, c.type_inv.first 3); g_byte = omega (arith, c.type_inv.second 3) } in
    let is_second : c.current_side.result ≡ Some Second = cc in
    second_frame size fit f h w (c.current_side.ensures.second is_second).0

pub returns-in-Some-First : goal.returns-in-Some-First
returns-in-Some-First c =
    let f = c.args.first.now in
    let h = c.args.second.now in
    let size = c.args.size in
    let fit : IsSize size = record { least = c.requires.least; most = c.requires.most } in
    let w : Whole size fit f h = record { whole = c.requires.sound; f_short = c.requires.first_size; g_short = c.requires.second_size; f_byte = omega (arith, c.type_inv.first 3); g_byte = omega (arith, c.type_inv.second 3) } in
    let is_first : c.current_side.result ≡ Some First = cc in
    let facts = c.current_side.ensures.first is_first in
    made c.current.result (HeldIn size f h) (payload_in f) First (number_of f) c.is_open.result size c.current.ensures.payload c.current.ensures.side c.current.ensures.number c.current.ensures.spare c.current.ensures.used
    (λ cell pay side number spare used. held_on size fit cell First f h side (held_current size fit cell (payload_in f) f h (number_of f) (is_open h) pay number (spare ∙ c.is_open.ensures) (first_frame size fit f h w facts.0) (second_spare size fit f h w facts.0 facts.1) (omega (arith, used, c.requires.second_size))))

pub returns-in-Some-Second : goal.returns-in-Some-Second
returns-in-Some-Second c =
    let f = c.args.first.now in
    let h = c.args.second.now in
    let size = c.args.size in
    let fit : IsSize size = record { least = c.requires.least; most = c.requires.most } in
    let w : Whole size fit f h = record { whole = c.requires.sound; f_short = c.requires.first_size; g_short = c.requires.second_size; f_byte = omega (arith, c.type_inv.first 3); g_byte = omega (arith, c.type_inv.second 3) } in
    let is_second : c.current_side.result ≡ Some Second = cc in
    let facts = c.current_side.ensures.second is_second in
    let follows : (is_open f ≡ true) → number_of h ≡ next (number_of f) = λ (opened : is_open f ≡ true). let test = facts.1 opened in eqb-true (number_of h) (next (number_of f)) test in
    made c.current-in-Some-Second.result (HeldIn size f h) (payload_in h) Second (number_of h) c.is_open-in-Some-Second.result size c.current-in-Some-Second.ensures.payload c.current-in-Some-Second.ensures.side c.current-in-Some-Second.ensures.number c.current-in-Some-Second.ensures.spare c.current-in-Some-Second.ensures.used
    (λ cell pay side number spare used. held_on size fit cell Second f h side (held_current size fit cell (payload_in h) h f (number_of h) (is_open f) pay number (spare ∙ c.is_open-in-Some-Second.ensures) (second_frame size fit f h w facts.0) (first_spare size fit f h w facts.0 follows) (omega (arith, used, c.requires.first_size))))
