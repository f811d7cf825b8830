-- How a proposer is renewed, or is not, and what that does to the whole.
use Rattle.std.proofs.Common.{◌≡◌, ◌+◌, ◌<◌, ◌≤◌, ◌∷◌, ◌++◌, ℕ, zero, suc, false, List, [], Option, None, Some, Result, Ok, Err, refl, sym, ap, subst, ◌∙◌, inl, inr, arith, slice_set}
use Rattle.std.specs.Prelude.{◌^◌, max, IfErr, IfOk, IsErrOf, OnOk, map, option_map}
use Rattle.cas_acceptor.specs.Acceptor.{AcceptorView}
use Rattle.cas_ballot.specs.declared.ballot.Ballot.{Ballot}
use Rattle.cas_base.specs.Faults.{Rose}
use Rattle.cas_disk.specs.Disk.{LeavesOnly}
use Rattle.cas_cache.specs.Entries.{without}
use Rattle.cas_flow.specs.Flow.{FlowView}
use Rattle.cas_proposer.specs.Desk.{DeskView, IsCrashed, cache_without}
use Rattle.cas_record.specs.Book.{Book}
use Rattle.cas_record.specs.declared.answer.Answer.TheVariants as answer
use Rattle.cas_record.specs.declared.answer.Cause.TheVariants as cause
use Rattle.cas_record.specs.declared.operator.OpAnswer.{OpAnswer}
use Rattle.cas_record.specs.declared.operator.OpAnswer.TheVariants as op
use Rattle.cas_vault.specs.Vault.{disk_of, counter_of, kept_of, kept_one_older, KeepsBeforeOrAfter, VaultStands, IsPast}
use Rattle.cas_vault.specs.declared.kept.Kept.{Kept}
use Rattle.cas_vault.specs.declared.error.VaultError.{VaultError}
use Rattle.cas_vault.specs.declared.error.VaultError.TheVariants as error
use Rattle.cas_vault.proofs.Keeping.{same_kept}
use Rattle.cas_model.specs.Collection.State.{CollectionView, confirmed_step, reserved_for_collection, tomb_of}
use Rattle.cas_model.specs.Council as cluster
use Rattle.cas_model.specs.Council.{reserved_by, telling, told_so, hushed}
use Rattle.cas_model.proofs.Eras.Rescanning.{told_reserves}
use Rattle.cas_model.proofs.Places.{at_one}
use Rattle.cas_model.specs.Collection.Step as collect
use Rattle.cas_model.specs.Collection.Step.{CollectingAt, RenewsNext}
use Rattle.cas_model.specs.Safe.{IsSafe, renewals_before}
use Rattle.cas_model.specs.Step as step
use Rattle.cas_model.specs.Step.{Step}
use Rattle.cas_model.specs.Exchanges.Step.{SaysTheSame, told_view}
use Rattle.cas_model.specs.Calls.Desks.{Renews, FailsToRenew, FindsNoAge}
use Rattle.cas_model.specs.Stops.Step as stops
use Rattle.cas_model.specs.Stops.Step.{LeavesRound, closed_by, closed_by_crash, broken_off_view}
use Rattle.cas_model.specs.View.{Meaning, View, CallerView, IsAt, reserved_of, reserved_in_all, with_desk}
use Rattle.cas_world_calls.specs.Answers.{aged_answer, crash_answer}
use Rattle.cas_world_calls.specs.Collecting.{with_collection}
use Rattle.cas_world_calls.specs.Council.{council_view}
use Rattle.cas_world.proofs.Calls.Disks.{disks}
use Rattle.cas_world_calls.specs.declared.call.Caller.{Caller}
use Rattle.cas_world_calls.specs.declared.call.OpenCall.{OpenCall}
use Rattle.cas_world_calls.specs.declared.council.Council.{Council}
use Rattle.cas_world.specs.Collection.Collect as marks
use Rattle.cas_world.specs.Collection.Collect.{GoesOnCollecting, IsDueStep, MarksRenewal}
use Rattle.cas_world.specs.Exchanges.Exchange.{WasToldOrder}
use Rattle.cas_world.specs.Eras.Moving.{LeavesDesk, closed_with, crash_at, abandoned_at}
use Rattle.cas_world.specs.World.{view_of, call_view, caller_view}
use Rattle.cas_collect.specs.declared.collect.CollectStep.TheVariants.{Renew}
use Rattle.cas_world.proofs.Collection.Collects.{hushed_on}
use Rattle.cas_world.proofs.Collection.Gathers.{collecting_at}
use Rattle.cas_world.proofs.Exchanges.Exchanges.{hushed_reserves}
use Rattle.cas_world.proofs.Eras.Moving.{crash_order, crash_reserves, crashed_same, left_reserves, left_round, turned}
use Rattle.cas_world.proofs.Parts.{left_at, set_same}
use Rattle.cas_world.proofs.Stops.Stops.{HaveCopies, copies_idle, copies_still}

-- ---- vaults
module _ {V : Type 0} (tells : Type 0) (may_leave : V → List ℕ → Type 0) (faults : V → ℕ) where
  -- it is past the tombstone and at the new age, whatever a crash leaves
  pub grows_older : (seen : V → List ℕ) (key : List ℕ) (tomb : Ballot) (age : ℕ) (old new : DeskView V) → old.down ≡ false → new ≡ record old { vault = new.vault; cache = without key (cache_without old.round old.cache); round = None }
      → age ≡ (kept_of old.vault).age + 1 → counter_of new.vault ≡ max (counter_of old.vault) tomb.counter
      → kept_of new.vault ≡ kept_one_older (max (counter_of old.vault) tomb.counter) (kept_of old.vault) → (new.down ≡ false → VaultStands tells seen may_leave new.vault)
      → (tells → IsPast may_leave tomb.counter new.vault) → (tells → (n : ℕ) → IsPast may_leave n old.vault → IsPast may_leave n new.vault) → faults (disk_of old.vault) ≤ faults (disk_of new.vault) → Renews (disks tells may_leave faults) key tomb age old new
  grows_older seen key tomb age old new up desk older counter kept stands past still never_falls = record {
    up = up;
    desk = desk;
    one_more = older;
    counter = counter;
    kept = kept;
    past = past;
    aged = λ told. record {
      kept = omega (arith, older, ap (λ (k : Kept). k.age) kept);
      left = λ c k may on. omega (arith, older, ap (λ (x : Kept). x.age) (same_kept k (kept_of new.vault) c on ((stands (ap (λ (d : DeskView V). d.down) desk ∙ up)).images told c may) ∙ kept));
    };
    goes_on = record {
      still_past = still;
      ages = λ told other is. record {
        kept = omega (arith, is.kept, ap (λ (k : Kept). k.age) kept);
        left = λ c k may on. omega (arith, is.kept, ap (λ (x : Kept). x.age) (same_kept k (kept_of new.vault) c on ((stands (ap (λ (d : DeskView V). d.down) desk ∙ up)).images told c may) ∙ kept));
      };
      era = λ told era other is. record {
        kept = ap (λ (k : Kept). k.era) kept ∙ is.kept;
        left = λ c k may on. inl (ap (λ (x : Kept). x.era) (same_kept k (kept_of new.vault) c on ((stands (ap (λ (d : DeskView V). d.down) desk ∙ up)).images told c may) ∙ kept) ∙ is.kept);
      };
      never_falls = never_falls;
    };
  }

  -- it stopped within the write: a crash leaves it at the new age, or as it was
  pub fails_to_grow : (moment : V → ℕ) (left_since : V → ℕ → List ℕ → Type 0) (counter : ℕ) (tomb : Ballot) (old new : DeskView V) → old.down ≡ false → IsCrashed old new
      → counter_of new.vault ≡ max (counter_of old.vault) tomb.counter → kept_of new.vault ≡ kept_of old.vault
      → (tells → (t : ℕ) (c : List ℕ) → t ≤ moment (disk_of new.vault) → may_leave (disk_of new.vault) c → left_since (disk_of new.vault) t c)
      → (tells → LeavesOnly moment left_since (disk_of old.vault) (disk_of new.vault) (KeepsBeforeOrAfter (kept_of old.vault) (kept_one_older counter (kept_of old.vault))))
      → (tells → (n : ℕ) → IsPast may_leave n old.vault → IsPast may_leave n new.vault) → Rose (faults (disk_of old.vault)) (faults (disk_of new.vault))
      → faults (disk_of old.vault) ≤ faults (disk_of new.vault) → FailsToRenew (disks tells may_leave faults) tomb old new
  fails_to_grow moment left_since counter tomb old new up crashed moved same now moments past rose never_falls = record {
    up = up;
    crashed = crashed;
    counter = moved;
    kept = same;
    goes_on = record {
      still_past = past;
      ages = λ told age is. record {
        kept = omega (arith, is.kept, ap (λ (k : Kept). k.age) same);
        left = λ c k may on. elim (left_at moment left_since may_leave (disk_of old.vault) (disk_of new.vault) (KeepsBeforeOrAfter (kept_of old.vault) (kept_one_older counter (kept_of old.vault))) (now told) (moments told) c may) [
          | inl before ↦ omega (arith, is.kept, ap (λ (x : Kept). x.age) (same_kept k (kept_of old.vault) c on before))
          | inr after ↦ omega (arith, is.kept, ap (λ (x : Kept). x.age) (same_kept k (kept_one_older counter (kept_of old.vault)) c on after))
        ];
      };
      era = λ told era other is. record {
        kept = ap (λ (k : Kept). k.era) same ∙ is.kept;
        left = λ c k may on. elim (left_at moment left_since may_leave (disk_of old.vault) (disk_of new.vault) (KeepsBeforeOrAfter (kept_of old.vault) (kept_one_older counter (kept_of old.vault))) (now told) (moments told) c may) [
          | inl before ↦ inl (ap (λ (x : Kept). x.era) (same_kept k (kept_of old.vault) c on before) ∙ is.kept)
          | inr after ↦ inl (ap (λ (x : Kept). x.era) (same_kept k (kept_one_older counter (kept_of old.vault)) c on after) ∙ is.kept)
        ];
      };
      never_falls = never_falls;
    };
    faulted = rose;
  }

  -- no memory was found for it
  pub finds_no_age : (seen : V → List ℕ) (tomb : Ballot) (old new : DeskView V) → old.down ≡ false → new ≡ record old { vault = new.vault } → counter_of new.vault ≡ max (counter_of old.vault) tomb.counter → kept_of new.vault ≡ kept_of old.vault
      → (new.down ≡ false → VaultStands tells seen may_leave new.vault) → (tells → (n : ℕ) → IsPast may_leave n old.vault → IsPast may_leave n new.vault) → faults (disk_of old.vault) ≤ faults (disk_of new.vault) → FindsNoAge (disks tells may_leave faults) tomb old new
  finds_no_age seen tomb old new up desk counter same stands past never_falls = record {
    desk = desk;
    counter = counter;
    kept = same;
    goes_on = record {
      still_past = past;
      ages = λ told age is. record {
        kept = omega (arith, is.kept, ap (λ (k : Kept). k.age) same);
        left = λ c k may on. omega (arith, is.kept, ap (λ (x : Kept). x.age) (same_kept k (kept_of new.vault) c on ((stands (ap (λ (d : DeskView V). d.down) desk ∙ up)).images told c may) ∙ same));
      };
      era = λ told era other is. record {
        kept = ap (λ (k : Kept). k.era) same ∙ is.kept;
        left = λ c k may on. inl (ap (λ (x : Kept). x.era) (same_kept k (kept_of new.vault) c on ((stands (ap (λ (d : DeskView V). d.down) desk ∙ up)).images told c may) ∙ same) ∙ is.kept);
      };
      never_falls = never_falls;
    };
  }

-- ---- the whole
aged_same : (age : ℕ) (call : OpenCall) → call_view (closed_with (λ proposed. aged_answer proposed age) call) ≡ closed_by (answer.Aged age) (cause.Aged age) (call_view call)
aged_same age call = refl

-- what became of it: the step, the room and the copies that it needs, and what is told
pub record IsRenewal {S V : Type 0} (m : Meaning S V) (old : View S V) (at : CollectingAt old.council) (id : ℕ) (desk : DeskView V) (desks : List (DeskView V)) (callers : List Caller) (left : ℕ) (result : Result ℕ OpAnswer) (new : View S V) : Type 0 where
  pub renews : RenewsNext m old at id desk new
  pub room : reserved_in_all new ≤ left
  pub copies : HaveCopies desks callers
  pub ok : OnOk result (GoesOnCollecting old new)
  pub err : IfErr result (WasToldOrder new)
  pub older : IfOk result (λ age. age ≡ (kept_of desk.vault).age + 1)

-- the age that is answered is one more than that of the desk there
pub next_ages : {V E : Type 0} (desks : List (DeskView V)) (id : ℕ) (desk : DeskView V) (result : Result ℕ E) → IsAt desks id desk → IfOk result (λ age. age ≡ (kept_of desk.vault).age + 1)
    → IfOk result (λ age. (other : DeskView V) → IsAt desks id other → age ≡ (kept_of other.vault).age + 1)
next_ages {V} {E} desks id desk (Ok age) at is = λ other at_other. is ∙ ap (λ (d : DeskView V). (kept_of d.vault).age + 1) (at_one desks id at at_other)
next_ages desks id desk (Err refusal) at is = tt

module _ {S V : Type 0} (m : Meaning S V) (last_proposer : ℕ) (council council_now : Council) (acceptors : List (AcceptorView S)) (desks : List (DeskView V)) (callers : List Caller) (flow then_ flow_now : FlowView) (book : Book) (id : ℕ) (desk now : DeskView V) (caller caller_now : Caller)
    (at : CollectingAt (council_view council)) (at_desk : IsAt desks id desk) (at_caller : IsAt callers id caller) (up : desk.down ≡ false) (eras : council_now.eras ≡ council.eras) (were : HaveCopies desks callers)
    (some : (call : OpenCall) → caller.call ≡ Some call → 0 < call.reserved) (fits : reserved_in_all (view_of last_proposer council acceptors desks callers flow book) ≤ book.room) where
  abbrev old : View S V
  old = view_of last_proposer council acceptors desks callers flow book

  abbrev left : View S V
  left = view_of last_proposer council acceptors (slice_set desks id now) (slice_set callers id caller_now) then_ book

  abbrev new : View S V
  new = view_of last_proposer council_now acceptors (slice_set desks id now) (slice_set callers id caller_now) flow_now book

  abbrev Outcome : Result ℕ OpAnswer → Type 0
  Outcome result = IsRenewal m old at id desk (slice_set desks id now) (slice_set callers id caller_now) book.room result new

  -- the operator's call is told it
  told_it : (middle : cluster.Council) (said : OpAnswer) → middle.order ≡ (council_view council).order → council_view council_now ≡ telling middle said → SaysTheSame said said → WasToldOrder new said
  told_it middle said order is itself = record {
    order = told_so said at.order;
    is_open = ap (λ (k : cluster.Council). k.order) is ∙ ap (option_map (told_so said)) (order ∙ at.is_open);
    said = said;
    was_said = refl;
    same = itself;
  }

  grows : (age : ℕ) (result : Result ℕ OpAnswer) → LeavesDesk (Renews m.disks at.collection.course.key (tomb_of at.collection.tombstone) age) (closed_with (λ proposed. aged_answer proposed age)) id desk now caller caller_now flow then_
      → council_view council_now ≡ with_collection (hushed (council_view council)) (λ c. record (confirmed_step c) { ages = c.ages ++ age ∷ [] }) → flow_now ≡ then_ → result ≡ Ok age → Outcome result
  grows age result leaves_ is flows answer_is = record {
    renews = collect.renews age left
        (left_round (Renews m.disks at.collection.course.key (tomb_of at.collection.tombstone) age) (closed_with (λ proposed. aged_answer proposed age)) (closed_by (answer.Aged age) (cause.Aged age)) last_proposer council acceptors desks callers flow then_ book id desk now caller caller_now (aged_same age) at_desk at_caller leaves_)
        ((λ i. record new { eras = (eras i).0; council = is i; flow = flows i })
        ∙ hushed_on left at.order at.collection (λ c. record (confirmed_step c) { ages = c.ages ++ age ∷ [] }) at.is_open at.is_collection);
    room = omega (
      arith,
      fits,
      left_reserves (Renews m.disks at.collection.course.key (tomb_of at.collection.tombstone) age) (λ proposed. aged_answer proposed age) id id callers desk now caller caller_now flow then_ at_caller some leaves_,
      ap reserved_by is,
      hushed_reserves (council_view council).order,
      ap (λ (o : Option CollectionView). reserved_for_collection (option_map (λ c. record (confirmed_step c) { ages = c.ages ++ age ∷ [] }) o)) at.is_collection,
      ap reserved_for_collection at.is_collection,
    );
    copies = copies_idle desks callers id now caller_now (ap (λ (d : DeskView V). d.round) (turned _ _ id desk now caller caller_now flow then_ leaves_).desk) were;
    ok = subst (λ (r : Result ℕ OpAnswer). OnOk r (GoesOnCollecting old new)) (sym answer_is) (record {
      collection = at.collection;
      was = at.is_collection;
      next = record (confirmed_step at.collection) { ages = at.collection.ages ++ age ∷ [] };
      is = is ∙ ap (λ (o : Option CollectionView). record (hushed (council_view council)) { collection = option_map (λ c. record (confirmed_step c) { ages = c.ages ++ age ∷ [] }) o }) at.is_collection;
      course = refl;
    });
    err = subst (λ (r : Result ℕ OpAnswer). IfErr r (WasToldOrder new)) (sym answer_is) tt;
    older = subst (λ (r : Result ℕ OpAnswer). IfOk r (λ age. age ≡ (kept_of desk.vault).age + 1)) (sym answer_is) (turned _ _ id desk now caller caller_now flow then_ leaves_).one_more;
  }

  goes_down : (result : Result ℕ OpAnswer) → LeavesDesk (FailsToRenew m.disks (tomb_of at.collection.tombstone)) (closed_with crash_answer) id desk now caller caller_now flow then_
      → council_view council_now ≡ telling (crash_at id (council_view council)) (op.ProposerDown id)
      → flow_now ≡ abandoned_at id then_ → result ≡ Err (op.ProposerDown id) → Outcome result
  goes_down result leaves_ is flows answer_is = record {
    renews = by_id id refl;
    room = omega (
      arith,
      fits,
      left_reserves (FailsToRenew m.disks (tomb_of at.collection.tombstone)) crash_answer id id callers desk now caller caller_now flow then_ at_caller some leaves_,
      ap reserved_by is,
      told_reserves (crash_at id (council_view council)).order (op.ProposerDown id),
      crash_reserves id (council_view council),
    );
    copies = copies_idle desks callers id now caller_now (ap (λ (d : DeskView V). d.round) (turned _ _ id desk now caller caller_now flow then_ leaves_).crashed) were;
    ok = subst (λ (r : Result ℕ OpAnswer). OnOk r (GoesOnCollecting old new)) (sym answer_is) tt;
    older = subst (λ (r : Result ℕ OpAnswer). IfOk r (λ age. age ≡ (kept_of desk.vault).age + 1)) (sym answer_is) tt;
    err = subst (λ (r : Result ℕ OpAnswer). IfErr r (WasToldOrder new)) (sym answer_is) (told_it (crash_at id (council_view council)) (op.ProposerDown id) (crash_order id (council_view council)) is refl);
  }
    where
      left_so : LeavesRound (FailsToRenew m.disks (tomb_of at.collection.tombstone)) closed_by_crash old id left
      left_so = left_round (FailsToRenew m.disks (tomb_of at.collection.tombstone)) (closed_with crash_answer) closed_by_crash last_proposer council acceptors desks callers flow then_ book id desk now caller caller_now crashed_same at_desk at_caller leaves_

      by_id : (n : ℕ) → id ≡ n → RenewsNext m old at id desk new
      by_id zero none =
          collect.fails (broken_off_view left) (stops.of_operator left none left_so refl)
          (λ i. record new { eras = (eras i).0; council = (is ∙ ap (λ (n : ℕ). telling (crash_at n (council_view council)) (op.ProposerDown id)) none) i; flow = (flows ∙ ap (λ (n : ℕ). abandoned_at n then_) none) i })
      by_id (suc n) more =
          collect.fails left (stops.of_client (λ none. absurd (cc (none, more))) left_so)
          (λ i. record new { eras = (eras i).0; council = (is ∙ ap (λ (k : ℕ). telling (crash_at k (council_view council)) (op.ProposerDown id)) more) i; flow = (flows ∙ ap (λ (k : ℕ). abandoned_at k then_) more) i })

  -- all stays but for what it is told, and for the desk
  stays : (result : Result ℕ OpAnswer) (said : OpAnswer) → caller_now ≡ caller → then_ ≡ flow → council_view council_now ≡ telling (council_view council) said → flow_now ≡ then_ → result ≡ Err said → now.round ≡ desk.round → SaysTheSame said said
      → (new ≡ told_view (with_desk old id now) said → RenewsNext m old at id desk new) → Outcome result
  stays result said same_caller same_flow is flows answer_is same_round itself step_ = record {
    renews = step_ (λ i. record new {
      eras = (eras i).0;
      callers = ap (map caller_view) (ap (slice_set callers id) same_caller ∙ set_same callers id caller at_caller) i;
      council = is i;
      flow = (flows ∙ same_flow) i;
    });
    room = omega (
      arith,
      fits,
      ap (λ (l : List Caller). reserved_of (map caller_view l)) (ap (slice_set callers id) same_caller ∙ set_same callers id caller at_caller),
      ap reserved_by is,
      told_reserves (council_view council).order said,
    );
    copies = subst (HaveCopies (slice_set desks id now)) (sym (ap (slice_set callers id) same_caller ∙ set_same callers id caller at_caller)) (copies_still desks callers id desk now at_desk same_round were);
    ok = subst (λ (r : Result ℕ OpAnswer). OnOk r (GoesOnCollecting old new)) (sym answer_is) tt;
    older = subst (λ (r : Result ℕ OpAnswer). IfOk r (λ age. age ≡ (kept_of desk.vault).age + 1)) (sym answer_is) tt;
    err = subst (λ (r : Result ℕ OpAnswer). IfErr r (WasToldOrder new)) (sym answer_is) (told_it (council_view council) said refl is itself);
  }

  -- whichever became of it
  pub renewed_so : (moved : Result ℕ VaultError) (result : Result ℕ OpAnswer) → IfOk moved (λ age. LeavesDesk (Renews m.disks at.collection.course.key (tomb_of at.collection.tombstone) age) (closed_with (λ proposed. aged_answer proposed age)) id desk now caller caller_now flow then_)
      → (IsErrOf moved error.VaultFault → LeavesDesk (FailsToRenew m.disks (tomb_of at.collection.tombstone)) (closed_with crash_answer) id desk now caller caller_now flow then_)
      → (IsErrOf moved error.Spent → ((kept_of desk.vault).age ≡ 2 ^ 48) × (now ≡ desk))
      → (IsErrOf moved error.NoMemory → FindsNoAge m.disks (tomb_of at.collection.tombstone) desk now) → ((IsErrOf moved error.VaultFault → ⊥) → IfErr moved (λ e. (caller_now ≡ caller) × (then_ ≡ flow)))
      → MarksRenewal id moved (council_view council) (council_view council_now) then_ flow_now result → Outcome result
  renewed_so moved result ok fault spent none same (marks.renews age is council_is flows answer_is) =
      grows age result (subst (λ (r : Result ℕ VaultError). IfOk r (λ a. LeavesDesk (Renews m.disks at.collection.course.key (tomb_of at.collection.tombstone) a) (closed_with (λ proposed. aged_answer proposed a)) id desk now caller caller_now flow then_)) is ok) council_is flows answer_is
  renewed_so moved result ok fault spent none same (marks.fails is council_is flows answer_is) = goes_down result (fault is) council_is flows answer_is
  renewed_so moved result ok fault spent none same (marks.is_spent is council_is flows answer_is) =
      let kept = subst (λ (r : Result ℕ VaultError). IfErr r (λ e. (caller_now ≡ caller) × (then_ ≡ flow))) is (same (λ failed. cc (is, failed))) in
      stays result (op.Stopped answer.Spent) kept.0 kept.1 council_is flows answer_is (ap (λ (d : DeskView V). d.round) (spent is).1) refl
      (λ view. collect.is_spent up (spent is).0 (view ∙ ap (λ (l : List (DeskView V)). told_view (record old { desks = l }) (op.Stopped answer.Spent)) (ap (slice_set desks id) (spent is).1 ∙ set_same desks id desk at_desk)))
  renewed_so moved result ok fault spent none same (marks.no_memory is council_is flows answer_is) =
      let kept = subst (λ (r : Result ℕ VaultError). IfErr r (λ e. (caller_now ≡ caller) × (then_ ≡ flow))) is (same (λ failed. cc (is, failed))) in
      stays result (op.Stopped (answer.NoMemory false)) kept.0 kept.1 council_is flows answer_is (ap (λ (d : DeskView V). d.round) (none is).desk) refl (λ view. collect.no_memory now up (none is) view)

-- the step, where it is the proposer's turn
pub renews_next : {S V : Type 0} (m : Meaning S V) (old new : View S V) (id : ℕ) (desk : DeskView V) (caller : CallerView) (safe : IsSafe old) (due : IsDueStep old (Renew id)) → IsAt old.desks id desk → IsAt old.callers id caller
    → RenewsNext m old (collecting_at old due.collection safe due.is_collection) id desk new → Step m old (step.Renew id) new
renews_next m old new id desk caller safe due at_desk at_caller by = record {
  at = collecting_at old due.collection safe due.is_collection;
  is_due = due.is_due;
  in_order = (safe.collection.each due.collection due.is_collection).ages ∙ ap (renewals_before old.last_proposer) due.is_due;
  desk = desk;
  at_desk = at_desk;
  caller = caller;
  at_caller = at_caller;
  renews = by;
}
