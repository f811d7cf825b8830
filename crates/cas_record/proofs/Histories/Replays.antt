-- A history is replayed entry by entry.
use Rattle.std.proofs.Common.{◌≡◌, List, [], ◌∷◌, ◌++◌, refl, ap, ◌∙◌}
use Rattle.cas_change.specs.declared.state.State.{State}
use Rattle.cas_change.specs.Outcome.{outcome_of}
use Rattle.cas_record.specs.declared.entry.Entry.{Entry}
use Rattle.cas_record.specs.declared.mark.Mark.TheVariants.{Proposed}
use Rattle.cas_record.specs.declared.mark.Proposal.{Proposal}
use Rattle.cas_record.specs.Places.{At}
use Rattle.cas_record.specs.Histories.Chain.{link_of, entry_of, chain_of}
use Rattle.cas_record.specs.Histories.Replay.{replay_from}
use Rattle.cas_record.specs.Logs.Happening.{Happening, Marked, marks_of}
use Rattle.cas_record.specs.Logs.Lawful.{Cluster, Lawful}
use Rattle.cas_record.proofs.Logs.Lemmas.{chain_of_proposal}

pub replay-append : (state : State) (xs ys : List Entry) → replay_from state (xs ++ ys) ≡ replay_from (replay_from state xs) ys
replay-append state [] ys = refl
replay-append state (entry ∷ xs) ys = replay-append (outcome_of entry.program state).state xs ys

pub replay-push : (state : State) (xs : List Entry) (entry : Entry) → replay_from state (xs ++ entry ∷ []) ≡ (outcome_of entry.program (replay_from state xs)).state
replay-push state xs entry = replay-append state xs (entry ∷ [])

-- the state of a proposal is what its program makes of the state of its link
pub replay_of_proposal : (cluster : Cluster) {log older : List Happening} {p : Proposal} (state : State) → Lawful cluster log → At (Marked (Proposed p)) older log
    → replay_from state (chain_of p.key p.ballot (marks_of log))
    ≡ (outcome_of (entry_of (marks_of older) p).program (replay_from state (chain_of p.key (link_of (marks_of older) p) (marks_of log)))).state
replay_of_proposal cluster {log} {older} {p} state lawful at =
    ap (λ (xs : List Entry). replay_from state xs) (chain_of_proposal cluster lawful at)
    ∙ replay-push state (chain_of p.key (link_of (marks_of older) p) (marks_of log)) (entry_of (marks_of older) p)
