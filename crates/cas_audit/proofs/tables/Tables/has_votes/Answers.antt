use Rattle.std.proofs.Common.{refl, sym, ap, ◌∙◌}
use Rattle.std.specs.Prelude.{option_copied}
use Rattle.cas_ballot.specs.Members.{has_member}
use Rattle.cas_audit.specs.declared.told.Spot.{Spot}
use Rattle.cas_audit.proofs.Decisions.{no_iff, votes_node, era_told, votes_told, all_told}
use Rattle.cas_audit.proofs.tables.Tables.has_votes.Goals as goal

pub returns-in_default : goal.returns-in_default
returns-in_default c = λ marks audit. no_iff refl (votes_node (sym (c.in_ok-node.ensures marks audit.are) ∙ ap option_copied c.in_default.is))

pub returns-then-node-a : goal.returns-then-node-a
returns-then-node-a c = λ marks audit. no_iff refl (λ votes. c.if-node-a.true (era_told audit.legal.numbered (sym (c.in_ok-node.ensures marks audit.are) ∙ ap option_copied c.in-Some.is) votes))

pub returns : goal.returns
returns c = λ marks audit.
    let numbered = audit.legal.numbered in
    let node = sym (c.in_ok-node.ensures marks audit.are) ∙ ap option_copied c.in-Some.is in
    let voters = ap (λ (x : Spot). x.voters) (c.in_ok-spot_of.ensures marks audit.are) in (
      λ e. votes_told numbered node c.if-node-a.false (λ acceptor member. ap (λ ids. has_member ids acceptor) (sym voters) ∙ c.has_all.ensures.all.0 e acceptor member),
      λ votes. c.has_all.ensures.all.1 (λ acceptor member. ap (λ ids. has_member ids acceptor) voters ∙ all_told c.has_all.ensures.set votes acceptor member),
    )
