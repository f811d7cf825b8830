use Rattle.std.proofs.Common.{ℕ, List, [], ◌∷◌, ◌++◌, ◌+◌, ap, arith, ◌∙◌}
use Rattle.std.specs.Int.{w64, to_be_bytes}
use Rattle.cas_slot.specs.Message.{phase_of}
use Rattle.cas_wire.specs.Frame.{ask_spelling, request_spelling}
use Rattle.cas_wire.specs.Room.{ask_room}
use Rattle.cas_wire.specs.Kinds.{phase_byte}
use Rattle.cas_wire.proofs.Puts.{Puts-then, Puts-as, four_put}
use Rattle.cas_wire.proofs.request.put_request.Goals as goal

pub returns-clause-spelling : goal.returns-clause-spelling
unfolding request_spelling
returns-clause-spelling c =
    let age : List ℕ = to_be_bytes w64 c.args.request.now.age in
    let ask : List ℕ = ask_spelling c.args.request.now.ask in
    let head = four_put c.args.out.now c.put_byte.new.out c.put_byte-2.new.out c.put_byte-3.new.out c.put_byte-4.new.out 2 c.phase_byte.result c.number.result c.args.request.now.from c.put_byte.ensures c.put_byte-2.ensures c.put_byte-3.ensures c.put_byte-4.ensures in
    let front = Puts-then c.args.out.now c.put_byte-4.new.out c.put_u64.new.out (2 ∷ c.phase_byte.result ∷ c.number.result ∷ c.args.request.now.from ∷ []) age 4 8 head c.put_u64.ensures.spelling in
    let whole = Puts-then c.args.out.now c.put_u64.new.out c.put_ask.new.out (2 ∷ c.phase_byte.result ∷ c.number.result ∷ c.args.request.now.from ∷ age) ask 12 (145 + ask_room c.args.request.now.ask) front c.put_ask.ensures.spelling in
    Puts-as c.args.out.now c.put_ask.new.out _ _ _ _ whole
    (ap (λ (k : ℕ). (2 ∷ k ∷ c.number.result ∷ c.args.request.now.from ∷ age) ++ ask) (c.phase_byte.ensures ∙ ap phase_byte c.phase.ensures)
    ∙ ap (λ (t : ℕ). (2 ∷ phase_byte (phase_of c.args.request.now.ask) ∷ t ∷ c.args.request.now.from ∷ age) ++ ask) c.number.ensures.value) (omega arith)
