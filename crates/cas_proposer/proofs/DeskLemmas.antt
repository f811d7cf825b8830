-- What the calls of a desk keep true.
use Rattle.std.specs.Prelude.{nat_eq, OnOk, Result, Ok, Err}
use Rattle.std.specs.Cmp.Lexicographic.{pointwise}
use Rattle.std.specs.Map.{lookup, remove_entry}
use Rattle.std.specs.Ordering.{is_lt}
use Rattle.std.proofs.Common.{◌≡◌, inl, ℕ, ◌≤◌, ◌^◌, Bool, true, false, cond, List, [], ◌∷◌, take, Option, Some, None, refl, sym, ap, subst, ◌∙◌, arith}
use Rattle.cas_ballot.specs.declared.ballot.Ballot.{Ballot}
use Rattle.cas_ballot.specs.Ballot.{ballot_cmp}
use Rattle.cas_disk.specs.Disk.{LeavesOnly}
use Rattle.cas_slot.specs.declared.message.Reply.{Reply}
use Rattle.cas_slot.specs.declared.message.Tell.{Tell}
use Rattle.cas_round.specs.Replies.{met_by}
use Rattle.cas_cache.specs.declared.ready.Ready.{Ready}
use Rattle.cas_cache.specs.declared.cache.Cache.{Cache}
use Rattle.cas_cache.specs.Cache.{promises_of}
use Rattle.cas_cache.specs.Entries.{promise_at, without}
use Rattle.cas_vault.specs.declared.kept.Kept.{Kept}
use Rattle.cas_vault.specs.declared.vault.Vault.{Vault}
use Rattle.cas_vault.specs.Vault.{disk_of, kept_of, KeepsBeforeOrAfter, VaultStands, IsPast}
use Rattle.cas_proposer.specs.declared.round.Round.{Round}
use Rattle.cas_proposer.specs.Round.{met_with, met_after, is_heard_at, Hears, may_keep}
use Rattle.cas_proposer.specs.Desk.{cache_after, met_counter, IsDesk}

-- ---- results
pub still_ok : {T E P Q : Type 0} (r : Result T E) → (P → Q) → OnOk r P → OnOk r Q
still_ok (Ok v) f h = f h
still_ok (Err e) f h = h

-- ---- promises
absent_head : (b : Bool) (e : List ℕ × Ready) (es rest : List (List ℕ × Ready)) (found : Option Ready) → cond b (Some e.1) found ≡ None → (found ≡ None → rest ≡ es) → cond b es (e ∷ rest) ≡ e ∷ es
absent_head true e es rest found none so = absurd (cc)
absent_head false e es rest found none so = ap (λ (l : List (List ℕ × Ready)). e ∷ l) (so none)

absent : (t : List ℕ → Bool) (es : List (List ℕ × Ready)) → lookup t es ≡ None → remove_entry t es ≡ es
absent t [] none = refl
absent t (e ∷ es) none = absent_head (t e.0) e es (remove_entry t es) (lookup t es) none (absent t es)

-- the promises without that of a key that has none
pub without_absent : (key : List ℕ) (promises : List (List ℕ × Ready)) → promise_at key promises ≡ None → without key promises ≡ promises
without_absent key promises none = absent (pointwise nat_eq key) promises none

-- a promise that was taken out and forgotten, where there was none
pub taken_back : (key : List ℕ) (old mid new : List (List ℕ × Ready)) → promise_at key old ≡ None → mid ≡ without key old → new ≡ without key mid → new ≡ old
taken_back key old mid new none took forgot =
    let same : mid ≡ old = took ∙ without_absent key old none in
    forgot ∙ ap (λ (l : List (List ℕ × Ready)). without key l) same ∙ without_absent key old none

-- a promise that is kept stands first
pub kept_first : (round : Round) (kept : Option Ready) (ready : Ready) (old new : List (List ℕ × Ready)) → kept ≡ Some ready → may_keep round ready ≡ true → promise_at round.key old ≡ None
    → new ≡ take 64 ((round.key, ready) ∷ old) → new ≡ cache_after round kept old
kept_first round kept ready old new is may none keeps =
    keeps
    ∙ sym (ap (λ (o : Option Ready). cache_after round o old) is
    ∙ ap (λ (b : Bool). cond b (take 64 ((round.key, ready) ∷ without round.key old)) (without round.key old)) may
    ∙ ap (λ (l : List (List ℕ × Ready)). take 64 ((round.key, ready) ∷ l)) (without_absent round.key old none))

-- ---- ballots that are met
chosen : (b : Bool) (met told : Ballot) → met.counter ≤ 2 ^ 48 → told.counter ≤ 2 ^ 48 → (cond b told met).counter ≤ 2 ^ 48
chosen true met told low high = high
chosen false met told low high = low

with_within : (met told : Option Ballot) → met_counter met ≤ 2 ^ 48 → met_counter told ≤ 2 ^ 48 → met_counter (met_with met told) ≤ 2 ^ 48
with_within met None low high = low
with_within None (Some told) low high = high
with_within (Some met) (Some told) low high = chosen (is_lt (ballot_cmp met told)) met told low high

after_within : (b : Bool) (met : Option Ballot) (tell : Tell) → met_counter met ≤ 2 ^ 48 → met_counter (met_by tell) ≤ 2 ^ 48 → met_counter (met_after b met tell) ≤ 2 ^ 48
after_within true met tell low high = with_within met (met_by tell) low high
after_within false met tell low high = low

-- ---- the desk
module _ {V : Type 0} (tells : Type 0) (seen : V → List ℕ) (may_leave : V → List ℕ → Type 0) where
  -- a reply keeps what a desk keeps true
  pub still_desk : (vault : Vault V) (cache : Cache) (down : Bool) (old : Round) (reply : Reply) (new : Round) → Hears old reply new → met_counter (met_by reply.tell) ≤ 2 ^ 48
      → IsDesk tells seen may_leave vault cache (Some old) down → IsDesk tells seen may_leave vault cache (Some new) down
  still_desk vault cache down old reply new heard within desk =
      let same_key : new.key ≡ old.key = ap (λ (r : Round). r.key) heard.same in
      record {
        stands = desk.stands;
        idle = λ is. let none : Some old ≡ None = desk.idle is in absurd (cc);
        place = desk.place ∙ ap (λ (k : List ℕ). Some k) (sym same_key);
        out = subst (λ (k : List ℕ). promise_at k (promises_of cache) ≡ None) (sym same_key) desk.out;
        unridden = λ is. ap (λ (r : Round). r.ride) heard.same ∙ desk.unridden (sym heard.same_phase ∙ is);
        within = subst (λ (m : Option Ballot). met_counter m ≤ 2 ^ 48) (sym heard.met) (after_within (is_heard_at old reply) old.met reply.tell desk.within within);
      }

  -- a vault that is past a number is past each lower one
  pub past_below : (vault : Vault V) (n m : ℕ) → n ≤ m → IsPast may_leave m vault → IsPast may_leave n vault
  past_below vault n m low past = record {
    counter = omega (arith, past.counter);
    images = λ c left. let there = past.images c left in (there.0, there.1, omega (arith, there.2));
  }

  module _ (moment : V → ℕ) (left_since : V → ℕ → List ℕ → Type 0) where
    -- a vault that was not touched
    pub untouched : (vault : Vault V) (after : Kept) → VaultStands tells seen may_leave vault → tells → ((c : List ℕ) → left_since (disk_of vault) (moment (disk_of vault)) c → may_leave (disk_of vault) c)
        → LeavesOnly moment left_since (disk_of vault) (disk_of vault) (KeepsBeforeOrAfter (kept_of vault) after)
    untouched vault after stands t now = record { later = omega arith; each = λ c left. inl (stands.images t c (now c left)) }
