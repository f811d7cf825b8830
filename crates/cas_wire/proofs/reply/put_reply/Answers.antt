use Rattle.std.proofs.Common.{ℕ, List, [], ◌∷◌, ◌++◌, ap, arith, ◌∙◌}
use Rattle.cas_wire.specs.Frame.{tell_spelling, reply_spelling}
use Rattle.cas_wire.specs.Kinds.{kind_of, kind_byte}
use Rattle.cas_wire.specs.Spelling.{ballot_spelling}
use Rattle.cas_wire.proofs.Puts.{Puts-then, Puts-as, four_put}
use Rattle.cas_wire.proofs.reply.put_reply.Goals as goal

pub returns-clause-spelling : goal.returns-clause-spelling
unfolding reply_spelling
returns-clause-spelling c =
    let tag : List ℕ = ballot_spelling c.args.reply.now.tag in
    let told : List ℕ = tell_spelling c.args.reply.now.tell in
    let head = four_put c.args.out.now c.put_byte.new.out c.put_byte-2.new.out c.put_byte-3.new.out c.put_byte-4.new.out 2 c.kind_byte.result c.number.result c.args.reply.now.to c.put_byte.ensures c.put_byte-2.ensures c.put_byte-3.ensures c.put_byte-4.ensures in
    let five = Puts-then c.args.out.now c.put_byte-4.new.out c.put_byte-5.new.out (2 ∷ c.kind_byte.result ∷ c.number.result ∷ c.args.reply.now.to ∷ []) (c.phase_byte.result ∷ []) 4 1 head c.put_byte-5.ensures in
    let front = Puts-then c.args.out.now c.put_byte-5.new.out c.put_ballot.new.out (2 ∷ c.kind_byte.result ∷ c.number.result ∷ c.args.reply.now.to ∷ c.phase_byte.result ∷ []) tag 5 9 five c.put_ballot.ensures in
    let whole = Puts-then c.args.out.now c.put_ballot.new.out c.put_tell.new.out (2 ∷ c.kind_byte.result ∷ c.number.result ∷ c.args.reply.now.to ∷ c.phase_byte.result ∷ tag) told 14 4040 front c.put_tell.ensures.spelling in
    Puts-as c.args.out.now c.put_tell.new.out _ _ 4054 4054 whole
    (ap (λ (k : ℕ). (2 ∷ k ∷ c.number.result ∷ c.args.reply.now.to ∷ c.phase_byte.result ∷ tag) ++ told) (c.kind_byte.ensures ∙ ap kind_byte c.kind_of.ensures)
    ∙ ap (λ (f : ℕ). (2 ∷ kind_byte (kind_of c.args.reply.now.tell) ∷ f ∷ c.args.reply.now.to ∷ c.phase_byte.result ∷ tag) ++ told) c.number.ensures.value
    ∙ ap (λ (p : ℕ). (2 ∷ kind_byte (kind_of c.args.reply.now.tell) ∷ c.args.reply.now.from ∷ c.args.reply.now.to ∷ p ∷ tag) ++ told) c.phase_byte.ensures) (omega arith)
