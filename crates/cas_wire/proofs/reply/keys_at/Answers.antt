use Rattle.std.proofs.Common.{◌≤◌, length, arith}
use Rattle.cas_wire.proofs.Counting.{few_keys}
use Rattle.cas_wire.proofs.reply.keys_at.Goals as goal

pub new-requires : goal.new-requires
new-requires c =
    let few : length c.in_ok-keys.keys.items ≤ 4 = few_keys c.args.bytes.now (c.in_ok-count.count, c.in_ok-count.rest.now) (c.in_ok-keys.keys.items, c.in_ok-keys.rest.now) c.in_ok-count.ensures c.in_ok-keys.ensures in
    omega (arith, c.in_ok-keys.keys.ok.0, few)
