use Rattle.std.proofs.Common.{◌≡◌, ℕ, List, ◌++◌, ap, ◌∙◌}
use Rattle.cas_wire.specs.Frame.{request_spelling}
use Rattle.cas_wire.proofs.Frames.{request_alone}
use Rattle.cas_wire.proofs.request.encode_request_into.Goals as goal

pub returns-clause-alone : goal.returns-clause-alone
returns-clause-alone c =
    let spelled : c.put_request.new.out.items ≡ request_spelling c.args.request.now = c.put_request.ensures.spelling.items ∙ ap (λ (xs : List ℕ). xs ++ request_spelling c.args.request.now) c.requires.empty in
    request_alone c.put_request.new.out.items c.args.request.now c.put_request.ensures.fits spelled
