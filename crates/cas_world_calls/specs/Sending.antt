-- Frames that are sent.
use Rattle.std.specs.Prelude.{ℕ, List, map}
use Rattle.cas_flow.specs.declared.message.Message.{Message}
use Rattle.cas_flow.specs.declared.message.Message.TheVariants as message
use Rattle.cas_slot.specs.declared.message.Ask.{Ask}

-- each of these acceptors is asked this
abbrev pub requests_to : ℕ → ℕ → Ask → List ℕ → List Message
requests_to proposer age asked members = map (λ to. message.Request (record { to = to; from = proposer; age = age; ask = asked })) members
