use Rattle.std.proofs.Common.{◌≡◌, Some, refl, reverse, sym, ap, ◌∙◌}
use Rattle.std.specs.Prelude.{option_copied}
use Rattle.cas_base.proofs.Bools.{not_both, some_is}
use Rattle.cas_record.proofs.PlaceLemmas.{stands_at}
use Rattle.cas_audit.specs.declared.told.Call.{Call}
use Rattle.cas_audit.specs.Told.{node_of}
use Rattle.cas_audit.proofs.Facts.{no_node}
use Rattle.cas_audit.proofs.Decisions.{no_iff, one_key, outcome_told, change_begun, own_ballot, done_ballot}
use Rattle.cas_audit.proofs.tables.Tables.has_outcome.Goals as goal

pub returns-then-not-is_found : goal.returns-then-not-is_found
returns-then-not-is_found c = λ place change. no_iff refl (λ stands.
    let marks = reverse c.args.marks.now in
    let told = ap (λ (x : Call). x.proposed) (c.call_of.ensures marks c.requires.are) in
    not_both c.is_found.result (c.is_found.ensures.1 (told ∙ done_ballot c.requires.legal.numbered stands)) c.if-not-is_found.true)

pub returns-in_default : goal.returns-in_default
returns-in_default c = λ place change. absurd (cc (ap option_copied c.in_default.is, (c.key_of.ensures change.proposal.key).1 (change_begun c.requires.legal.numbered change)))

pub returns-in-Some-2 : goal.returns-in-Some-2
returns-in-Some-2 c = λ place change.
    let marks = reverse c.args.marks.now in
    let numbered = c.requires.legal.numbered in
    let told = ap (λ (x : Call). x.proposed) (c.call_of.ensures marks c.requires.are) in
    let p = change.proposal in
    let key_is : c.in-Some.key.now ≡ p.key = one_key numbered ((c.key_of.ensures c.in-Some.key.now).0 (ap option_copied c.in-Some.is)) (change_begun numbered change) in
    let same : p.ballot ≡ c.args.ballot = some_is p.ballot c.args.ballot (sym (own_ballot numbered change.at change.same_caller change.same_call) ∙ sym told ∙ c.is_found.ensures.0 c.if-not-is_found.false) in
    let node : node_of p.key p.ballot marks ≡ Some c.in-Some-2.node.now =
    (λ i. node_of (sym key_is i) (same i) marks) ∙ sym (c.in_ok-node.ensures marks c.requires.are) ∙ ap option_copied c.in-Some-2.is in
    let outcome = outcome_told numbered change same node in
    (λ e. outcome.0 (c.is_outcome.ensures.0 e), λ stands. c.is_outcome.ensures.1 (outcome.1 stands))

pub returns-in-None : goal.returns-in-None
returns-in-None c = λ place change.
    let marks = reverse c.args.marks.now in
    let numbered = c.requires.legal.numbered in
    let told = ap (λ (x : Call). x.proposed) (c.call_of.ensures marks c.requires.are) in
    let p = change.proposal in
    let key_is : c.in-Some.key.now ≡ p.key = one_key numbered ((c.key_of.ensures c.in-Some.key.now).0 (ap option_copied c.in-Some.is)) (change_begun numbered change) in
    let same : p.ballot ≡ c.args.ballot = some_is p.ballot c.args.ballot (sym (own_ballot numbered change.at change.same_caller change.same_call) ∙ sym told ∙ c.is_found.ensures.0 c.if-not-is_found.false) in
    absurd (no_node (sym (c.in_ok-node.ensures marks c.requires.are) ∙ ap option_copied c.in-None.is) (record { proposal = p; stands = stands_at change.at; same_key = sym key_is; same_ballot = same }))
