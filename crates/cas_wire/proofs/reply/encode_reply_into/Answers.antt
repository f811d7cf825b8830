use Rattle.std.proofs.Common.{◌≡◌, ℕ, List, ◌++◌, ap, ◌∙◌}
use Rattle.cas_wire.specs.Frame.{reply_spelling}
use Rattle.cas_wire.proofs.Frames.{reply_alone}
use Rattle.cas_wire.proofs.reply.encode_reply_into.Goals as goal

pub returns-clause-alone : goal.returns-clause-alone
returns-clause-alone c =
    let spelled : c.put_reply.new.out.items ≡ reply_spelling c.args.reply.now = c.put_reply.ensures.spelling.items ∙ ap (λ (xs : List ℕ). xs ++ reply_spelling c.args.reply.now) c.requires.empty in
    reply_alone c.put_reply.new.out.items c.args.reply.now c.put_reply.ensures.fits spelled
