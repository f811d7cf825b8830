use Rattle.std.proofs.Common.{◌+◌, List, ℕ, take, sym, ◌∙◌, ap, arith}
use Rattle.std.specs.Prelude.{◌||◌}
use Rattle.std.specs.List.{list_any}
use Rattle.std.proofs.lemmas.List.{take_all}
use Rattle.std.proofs.lemmas.List.Folds.{list_any_more}
use Rattle.cas_record.specs.Histories.Chain.{is_key}
use Rattle.cas_world_listing.proofs.KeyLemmas.{none_added, added_both, added_same}
use Rattle.cas_world_listing.proofs.keys.add_keys.Goals as goal

pub loop-key-init : goal.loop-key-init
loop-key-init c = none_added c.args.keys.now.items c.requires

pub loop-key-preserved : goal.loop-key-preserved
loop-key-preserved c =
    let more = c.args.more.now in
    let at = c.loop-key.key-index in
    let key = c.key-item.result in
    added_both (λ other. list_any (is_key other) (take at more)) (λ other. is_key other key) (λ other. list_any (is_key other) (take (at + 1) more)) c.args.keys.now.items c.loop-key.keys.items c.add_key.new.keys.items
    c.loop-key.invariant (c.in_ok-add_key.ensures {u = tt})
    (λ other. sym (list_any_more (is_key other) more at key (omega arith) ∙ ap (λ (k : List ℕ). list_any (is_key other) (take at more) || is_key other k) (sym c.key-item.is)))

pub returns : goal.returns
returns c =
    let more = c.args.more.now in
    added_same (λ other. list_any (is_key other) (take c.loop-key.key-index more)) (λ other. list_any (is_key other) more) c.args.keys.now.items c.loop-key.keys.items
    (λ other. ap (list_any (is_key other)) (take_all c.loop-key.key-index more (omega arith))) c.loop-key.invariant
