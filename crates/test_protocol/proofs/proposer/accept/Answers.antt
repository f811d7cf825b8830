use Rattle.std.proofs.Common.{◌∙◌}
use Rattle.test_protocol.proofs.Rounds.{GoesOn, after_ride, after_end}
use Rattle.test_protocol.proofs.proposer.accept.Goals as goal

pub confirmers-by-requires : goal.confirmers-by-requires
confirmers-by-requires g c =
    let on : GoesOn c.ride.new.self = after_ride c.args.desk.now c.ride.new.self c.ride.result c.in_ok-ride.ride c.in_ok-ride.was c.ride.ensures.none c.ride.ensures.rides c.requires.open c.requires.up in
    c.all_reply.ensures.open ∙ on.still_open

pub verdict-requires : goal.verdict-requires
verdict-requires g c =
    let on : GoesOn c.ride.new.self = after_ride c.args.desk.now c.ride.new.self c.ride.result c.in_ok-ride.ride c.in_ok-ride.was c.ride.ensures.none c.ride.ensures.rides c.requires.open c.requires.up in
    c.all_reply.ensures.open ∙ on.still_open

pub end-requires : goal.end-requires
end-requires g c =
    let on : GoesOn c.ride.new.self = after_ride c.args.desk.now c.ride.new.self c.ride.result c.in_ok-ride.ride c.in_ok-ride.was c.ride.ensures.none c.ride.ensures.rides c.requires.open c.requires.up in
    c.all_reply.ensures.open ∙ on.still_open

pub returns-clause-up : goal.returns-clause-up
returns-clause-up g c =
    let on : GoesOn c.ride.new.self = after_ride c.args.desk.now c.ride.new.self c.ride.result c.in_ok-ride.ride c.in_ok-ride.was c.ride.ensures.none c.ride.ensures.rides c.requires.open c.requires.up in
    (after_end c.all_reply.new.desk c.end.new.self _ (c.all_reply.ensures.open ∙ on.still_open) c.end.ensures.desk).0 ∙ c.all_reply.ensures.down ∙ on.up

pub returns-clause-idle : goal.returns-clause-idle
returns-clause-idle g c =
    let on : GoesOn c.ride.new.self = after_ride c.args.desk.now c.ride.new.self c.ride.result c.in_ok-ride.ride c.in_ok-ride.was c.ride.ensures.none c.ride.ensures.rides c.requires.open c.requires.up in
    (after_end c.all_reply.new.desk c.end.new.self _ (c.all_reply.ensures.open ∙ on.still_open) c.end.ensures.desk).1
