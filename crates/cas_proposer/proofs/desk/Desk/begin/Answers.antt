use Rattle.std.proofs.Common.{◌≡◌, ℕ, List, false, None, sym, ap, subst, ◌∙◌}
use Rattle.cas_disk.specs.Disk.{LeavesOnly}
use Rattle.cas_cache.specs.declared.ready.Ready.{Ready}
use Rattle.cas_cache.specs.Cache.{promises_of}
use Rattle.cas_cache.specs.Entries.{promise_at}
use Rattle.cas_vault.specs.Vault.{disk_of, counter_of, kept_of, kept_to_draw, KeepsBeforeOrAfter, IsPast}
use Rattle.cas_proposer.specs.Desk.{DeskView}
use Rattle.cas_proposer.proofs.DeskLemmas.{untouched, taken_back}
use Rattle.cas_proposer.proofs.desk.Desk.begin.Goals as goal

pub returns-in-Ok-draw-clause-still_past : goal.returns-in-Ok-draw-clause-still_past
returns-in-Ok-draw-clause-still_past g c tells n past = c.draw.ensures.still_past tells n (subst (λ (d : DeskView g.row.V.Denot). IsPast g.V.Disk.may_leave n d.vault) (sym c.self.view_is) past)

pub returns-after-matches-clause-still_past : goal.returns-after-matches-clause-still_past
returns-after-matches-clause-still_past g c tells n past = c.draw.ensures.still_past tells n (subst (λ (d : DeskView g.row.V.Denot). IsPast g.V.Disk.may_leave n d.vault) (sym c.self.view_is) past)

pub returns-in-Some-clause-any_moment : goal.returns-in-Some-clause-any_moment
returns-in-Some-clause-any_moment g c tells =
    let up : c.self.inside.down ≡ false = ap (λ (d : DeskView g.row.V.Denot). d.down) c.self.view_is ∙ c.requires.up in
    subst (λ (d : DeskView g.row.V.Denot). LeavesOnly g.V.Disk.moment g.V.Disk.left_since (disk_of d.vault) (disk_of c.self.inside.vault) (KeepsBeforeOrAfter (kept_of d.vault) (kept_to_draw (counter_of d.vault) (kept_of d.vault)))) c.self.view_is
    (untouched g.V.Disk.tells g.V.Disk.seen g.V.Disk.may_leave g.V.Disk.moment g.V.Disk.left_since c.self.inside.vault (kept_to_draw (counter_of c.self.inside.vault) (kept_of c.self.inside.vault)) (c.self.invariant.stands up) tells
    (λ image left. g.met.V.Disk.only_now _ image tells left))

pub returns-after-matches-clause-refused : goal.returns-after-matches-clause-refused
returns-after-matches-clause-refused g c =
    let none : promise_at c.args.key.now (promises_of c.self.inside.cache) ≡ None = sym c.in-Ok-take.ensures.ready ∙ c.in-None.is in
    let same = taken_back c.args.key.now (promises_of c.self.inside.cache) (promises_of c.take.new.self) (promises_of c.forget.new.self) none c.in-Ok-take.ensures.promises c.forget.ensures.promises in
    let with_cache : List (List ℕ × Ready) → DeskView g.row.V.Denot = λ l. record { id = c.self.inside.id; vault = c.draw.new.vault; cache = l; round = c.self.inside.round; down = c.match-matches.self } in
    let with_others : DeskView g.row.V.Denot → DeskView g.row.V.Denot = λ d. record { id = d.id; vault = c.draw.new.vault; cache = d.cache; round = d.round; down = c.match-matches.self } in
    ap with_cache same ∙ ap with_others c.self.view_is

pub returns-after-matches-clause-faulted : goal.returns-after-matches-clause-faulted
returns-after-matches-clause-faulted g c is =
    let none : promise_at c.args.key.now (promises_of c.self.inside.cache) ≡ None = sym c.in-Ok-take.ensures.ready ∙ c.in-None.is in
    subst (λ (d : DeskView g.row.V.Denot). promise_at c.args.key.now d.cache ≡ None) c.self.view_is none
