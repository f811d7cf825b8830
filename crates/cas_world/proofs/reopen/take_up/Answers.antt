use Rattle.std.proofs.Common.{◌≡◌, ◌+◌, ◌≤◌, ℕ, true, false, List, refl, sym, ap, subst, ◌∙◌, arith}
use Rattle.std.specs.Prelude.{max}
use Rattle.cas_vault.specs.Vault.{disk_of, counter_of, kept_of, fresh, KeptOn, kept_in_era, kept_one_older}
use Rattle.cas_vault.specs.declared.kept.Kept.{Kept}
use Rattle.cas_vault.specs.declared.vault.Vault.{Vault}
use Rattle.cas_model.specs.View.{DiskMeaning, disk_meaning}
use Rattle.cas_world.proofs.reopen.take_up.Given.{Over}
use Rattle.cas_world.proofs.reopen.take_up.Goals as goal
use Rattle.cas_world.proofs.reopen.take_up.Goals.{then-is_new+in_ok-start, else-is_new+in_ok-reopen}

-- a vault that goes on from what it kept before, and has not moved
record VaultGoesOnFrom {V : Type 0} (m : DiskMeaning V) (is_new : _) (disk : V) (vault : Vault V) : Type 0 where
  pub before : Kept
  pub counter : counter_of vault ≡ before.bound
  pub kept : kept_of vault ≡ before
  pub started : is_new ≡ true → before ≡ fresh
  pub reopened : is_new ≡ false → m.tells → (image : List ℕ) × m.may_leave disk image × KeptOn before image

begun : (g : Over) (c : goal.In_ok-enter_era g) → VaultGoesOnFrom (disk_meaning g.V.Disk) c.args.is_new (disk_of c.args.vault.now) c.if-is_new.vault
begun g c = elim c.if-is_new.branch [
  | then-is_new+in_ok-start w ↦ record {
    before = fresh;
    counter = ap counter_of w.vault-is ∙ (w.in_ok-start.ensures {u = tt}).counter;
    kept = ap kept_of w.vault-is ∙ (w.in_ok-start.ensures {u = tt}).kept;
    started = λ is. refl;
    reopened = λ is. absurd (cc (is, w.if-is_new.true));
  }
  | else-is_new+in_ok-reopen w ↦ record {
    before = kept_of w.reopen.new.self;
    counter = ap counter_of w.vault-is ∙ (w.in_ok-reopen.ensures {u = tt}).counter;
    kept = ap kept_of w.vault-is;
    started = λ is. absurd (cc (is, w.if-is_new.false));
    reopened = λ is tells. (g.V.Disk.seen (disk_of w.reopen.new.self), w.reopen.ensures.image tells, (w.in_ok-reopen.ensures {u = tt}).reopened tells);
  }
]

-- what is kept once the age is raised and era 0 entered
kept_then : (before : Kept) (counter : ℕ) → before.bound ≤ counter → kept_in_era 0 (kept_one_older counter before) ≡ record { bound = counter; age = before.age + 1; era = 0 }
kept_then before counter low = ap (λ (n : ℕ). record { bound = n; age = before.age + 1; era = 0 }) (let e : max before.bound counter ≡ counter = omega (arith, low) in e)

-- src/reopen.rt:153:1
pub returns-clause-goes_on : goal.returns-clause-goes_on
returns-clause-goes_on g c =
    let from = begun g c in
    let moved : counter_of c.forward.new.self ≡ max from.before.bound c.args.past = c.forward.ensures.counter ∙ ap (λ (n : ℕ). max n c.args.past) from.counter in
    let counter : counter_of c.enter_era.new.self ≡ counter_of c.forward.new.self = c.enter_era.ensures.counter ∙ c.raise_age.ensures.counter in
    record {
      before = from.before;
      counter = counter ∙ moved;
      kept = (c.in_ok-enter_era.ensures {u = tt}).kept
          ∙ ap (kept_in_era 0) ((c.in_ok-raise_age.ensures {u = tt}).kept ∙ ap (kept_one_older (counter_of c.forward.new.self)) (c.forward.ensures.kept ∙ from.kept))
          ∙ kept_then from.before (counter_of c.forward.new.self) (omega (arith, moved))
          ∙ ap (λ (n : ℕ). record { bound = n; age = from.before.age + 1; era = 0 }) (sym counter);
      started = from.started;
      reopened = from.reopened;
    }
