-- What stops and restarts of one party do to the whole.
use Rattle.std.proofs.Common.{◌≡◌, ◌<◌, ◌≤◌, ℕ, Bool, true, false, List, Option, None, Some, Result, Ok, Err, slice_set, refl, sym, ap, subst, ◌∙◌, inl, inr, arith}
use Rattle.std.specs.Prelude.{⊤, ◌⊎◌, if◌then◌else◌, map, option_map, is_some, IfSome, OnOk, OnErr, is_err, IsTrue}
use Rattle.cas_world.proofs.Calls.Beginning.{no_more}
use Rattle.cas_base.proofs.Bools.{true_or_false}
use Rattle.cas_acceptor.specs.Acceptor.{AcceptorView}
use Rattle.cas_slot.specs.Contents.{nothing}
use Rattle.cas_slot.specs.Shelf.{Left, OnlyLeaves}
use Rattle.cas_slot.specs.declared.fault.ShelfFault.{ShelfFault}
use Rattle.cas_flow.specs.Flow.{FlowView, abandoned}
use Rattle.cas_record.specs.Book.{Book}
use Rattle.cas_record.specs.declared.answer.Answer.{Answer}
use Rattle.cas_disk.specs.Disk.{Only}
use Rattle.cas_proposer.specs.Desk.{DeskView, ShowsTheSame}
use Rattle.cas_proposer.specs.declared.round.Round.{Round}
use Rattle.cas_vault.specs.declared.kept.Kept.{Kept}
use Rattle.cas_vault.specs.declared.error.VaultError.{VaultError}
use Rattle.cas_vault.specs.declared.vault.Vault.{Vault}
use Rattle.cas_vault.specs.Vault.{kept_of, disk_of, counter_of, KeptOn, IsPast, VaultStands}
use Rattle.cas_vault.proofs.Keeping.{same_kept}
use Rattle.cas_model.specs.Step as step
use Rattle.cas_model.specs.Step.{StepRestartAcceptor, StepRestartProposer}
use Rattle.cas_model.specs.Stops.Step as stops
use Rattle.cas_model.specs.Stops.Step.{CrashesDesk}
use Rattle.cas_quorum.specs.declared.era.Era.{Era}
use Rattle.cas_model.specs.Eras.Course.{era_shown}
use Rattle.cas_model.specs.Parties.{IsAged, VaultKeepsEra}
use Rattle.cas_model.specs.Calls.Desks.{VaultGoesOn, Crashes, Restarts}
use Rattle.cas_model.specs.View.{DiskMeaning, Meaning, ShelfMeaning, View, CallerView, IsAt, reserved_in, reserved_of, era_at, with_acceptor, with_desk}
use Rattle.cas_model.proofs.Places.{at_one, at_set, but_set, own_set, other_set}
use Rattle.cas_model.proofs.Safety.Parts.{reserved_set}
use Rattle.cas_world_calls.specs.declared.council.Council.{Council}
use Rattle.cas_world_calls.specs.declared.call.Caller.{Caller}
use Rattle.cas_world_calls.specs.declared.call.OpenCall.{OpenCall}
use Rattle.cas_world_calls.specs.Answers.{crash_answer}
use Rattle.cas_world_calls.specs.Call.{over}
use Rattle.cas_world.specs.Stops.Restarting.{TellsOfAcceptor, TellsOfDesk}
use Rattle.cas_world.specs.World.{HasCopies, view_of, call_view, caller_view}
use Rattle.cas_world.proofs.Calls.Callers.{map_set, at_map}
use Rattle.cas_world.proofs.Parts.{same_but, set_same}

pub restarted : {S V : Type 0} (m : Meaning S V) (old : View S V) (id : ℕ) (acceptor now : AcceptorView S) (r : Result ⊤ ShelfFault) → IsAt old.acceptors id acceptor → now.id ≡ acceptor.id
    → OnOk r (now.down ≡ false) → OnErr r (IsTrue now.down) → (acceptor.down ≡ false → now ≡ acceptor) → OnOk r (IsTrue now.started) → OnErr r (now.started ≡ acceptor.started)
    → (m.shelves.tells → now.down ≡ false → OnlyLeaves (m.shelves.contents now.shelf) (m.shelves.may_leave now.shelf))
    → (IsTrue acceptor.down → acceptor.started ≡ false → OnOk r (m.shelves.contents now.shelf ≡ nothing))
    → (m.shelves.tells → IsTrue acceptor.down → IsTrue acceptor.started → OnOk r (m.shelves.may_leave acceptor.shelf (Ok (m.shelves.contents now.shelf))))
    → (m.shelves.tells → IsTrue acceptor.started → (left : Left) → m.shelves.may_leave now.shelf left → m.shelves.may_leave acceptor.shelf left)
    → m.shelves.faults acceptor.shelf ≤ m.shelves.faults now.shelf
    → StepRestartAcceptor m old id (with_acceptor old id now)
restarted {S} {V} m old id acceptor now r at same up still_down unchanged started not_started lasts afresh reopened leaves never_falls = elim (true_or_false acceptor.down) [
  | inl down ↦ by_result down r up still_down started not_started (afresh down) (λ tells. reopened tells down)
  | inr is_up ↦ step.was_up acceptor at is_up (ap (λ (l : List (AcceptorView S)). record old { acceptors = l }) (ap (λ (a : AcceptorView S). slice_set old.acceptors id a) (unchanged is_up) ∙ set_same old.acceptors id acceptor at))
]
  where
    by_result : IsTrue acceptor.down → (r : Result ⊤ ShelfFault) → OnOk r (now.down ≡ false) → OnErr r (IsTrue now.down) → OnOk r (IsTrue now.started) → OnErr r (now.started ≡ acceptor.started)
        → (acceptor.started ≡ false → OnOk r (m.shelves.contents now.shelf ≡ nothing)) → (m.shelves.tells → IsTrue acceptor.started → OnOk r (m.shelves.may_leave acceptor.shelf (Ok (m.shelves.contents now.shelf))))
        → StepRestartAcceptor m old id (with_acceptor old id now)
    by_result down (Ok x) is_up still started same_started afresh reopened = step.starts acceptor now at (record {
      was_down = down;
      acceptor = ap (λ (i : ℕ). record { id = i; started = now.started; down = now.down; shelf = now.shelf }) same
          ∙ ap (λ (s : Bool). record { id = acceptor.id; started = s; down = now.down; shelf = now.shelf }) started
          ∙ ap (λ (d : Bool). record { id = acceptor.id; started = true; down = d; shelf = now.shelf }) is_up;
      afresh = afresh;
      reopened = reopened;
      lasts = λ tells. lasts tells is_up;
      never_falls = never_falls;
    }) refl
    by_result down (Err fault) is_up still started same_started afresh reopened = step.fails acceptor now at (record {
      was_down = down;
      acceptor = same_but acceptor now true same same_started still ∙ ap (λ (d : Bool). record acceptor { down = d; shelf = now.shelf }) (sym down);
      leaves = leaves;
      never_falls = never_falls;
    }) refl

-- what its answer tells of the acceptor, at its place before and after
pub acceptor_tells : {S : Type 0} (m : ShelfMeaning S) (acceptors : List (AcceptorView S)) (index id : ℕ) (acceptor started was now : AcceptorView S) (r : Result ⊤ ShelfFault)
    → index ≡ id → IsAt acceptors id acceptor → IsAt acceptors id was → IsAt (slice_set acceptors index started) id now → TellsOfAcceptor m acceptor started r → TellsOfAcceptor m was now r
acceptor_tells {S} m acceptors index id acceptor started was now r same at at_was at_now tells =
    let there : IsAt (slice_set acceptors id started) id now = subst (λ (i : ℕ). IsAt (slice_set acceptors i started) id now) same at_now in
    subst (λ (a : AcceptorView S). TellsOfAcceptor m a now r) (at_one acceptors id at at_was)
    (subst (λ (a : AcceptorView S). TellsOfAcceptor m acceptor a r) (at_one (slice_set acceptors id started) id (at_set acceptors id acceptor started at) there) tells)

pub desk_tells : {V : Type 0} (m : DiskMeaning V) (desks : List (DeskView V)) (index id : ℕ) (desk started was now : DeskView V) (r : Result ⊤ VaultError)
    → index ≡ id → IsAt desks id desk → IsAt desks id was → IsAt (slice_set desks index started) id now → TellsOfDesk m desk started r → TellsOfDesk m was now r
desk_tells {V} m desks index id desk started was now r same at at_was at_now tells =
    let there : IsAt (slice_set desks id started) id now = subst (λ (i : ℕ). IsAt (slice_set desks i started) id now) same at_now in
    subst (λ (d : DeskView V). TellsOfDesk m d now r) (at_one desks id at at_was)
    (subst (λ (d : DeskView V). TellsOfDesk m desk d r) (at_one (slice_set desks id started) id (at_set desks id desk started at) there) tells)

-- whether a desk is up after its restart, by the answer
pub desk_is_up : {V : Type 0} (desk now : DeskView V) (r : Result ⊤ VaultError) → OnOk r (now ≡ record desk { vault = now.vault; down = false }) → (desk.down ≡ false → (r ≡ Ok tt) × (now ≡ desk)) → OnOk r (now.down ≡ false)
desk_is_up {V} desk now (Ok x) ok up = ap (λ (d : DeskView V). d.down) ok
desk_is_up desk now (Err e) ok up = tt

pub desk_stays_down : {V : Type 0} (desk now : DeskView V) (r : Result ⊤ VaultError) → OnErr r (now ≡ record desk { vault = now.vault }) → (desk.down ≡ false → (r ≡ Ok tt) × (now ≡ desk)) → OnErr r (now.down ≡ true)
desk_stays_down desk now (Ok x) err up = tt
desk_stays_down {V} desk now (Err e) err up = elim (true_or_false desk.down) [
  | inl down ↦ ap (λ (d : DeskView V). d.down) err ∙ down
  | inr is_up ↦ absurd (cc (up is_up).0)
]

-- ---- vaults
-- a crash leaves a vault in the same eras, past all that it was past
pub crash_goes_on : {V : Type 0} (m : DiskMeaning V) (old new : Vault V) (seen : List ℕ) → kept_of new ≡ kept_of old → (m.tells → m.may_leave (disk_of old) seen) → (m.tells → Only seen (m.may_leave (disk_of new)))
    → (m.tells → (n : ℕ) → IsPast m.may_leave n old → IsPast m.may_leave n new) → m.faults (disk_of old) ≤ m.faults (disk_of new) → VaultGoesOn m old new
crash_goes_on m old new seen kept image settled past never_falls = record {
  still_past = past;
  never_falls = never_falls;
  ages = λ tells age is. record {
    kept = subst (λ (k : Kept). age ≤ k.age) (sym kept) is.kept;
    left = λ c k may on. is.left seen k (image tells) (subst (KeptOn k) (settled tells c may) on);
  };
  era = λ tells era other is. record {
    kept = ap (λ (k : Kept). k.era) kept ∙ is.kept;
    left = λ c k may on. is.left seen k (image tells) (subst (KeptOn k) (settled tells c may) on);
  };
}

-- so does the end of a round, which changes nothing of the disk
pub end_goes_on : {V : Type 0} (m : DiskMeaning V) (old new : Vault V) → kept_of new ≡ kept_of old → disk_of new ≡ disk_of old → ((n : ℕ) → IsPast m.may_leave n old → IsPast m.may_leave n new) → VaultGoesOn m old new
end_goes_on {V} m old new kept disk past = record {
  still_past = λ tells n is. past n is;
  never_falls = no_more (m.faults (disk_of old)) (m.faults (disk_of new)) (ap m.faults disk);
  ages = λ tells age is. record { kept = subst (λ (k : Kept). age ≤ k.age) (sym kept) is.kept; left = λ c k may on. is.left c k (subst (λ (d : V). m.may_leave d c) disk may) on };
  era = λ tells era other is. record { kept = ap (λ (k : Kept). k.era) kept ∙ is.kept; left = λ c k may on. is.left c k (subst (λ (d : V). m.may_leave d c) disk may) on };
}

-- a restart shows one era, and a crash leaves just that from then on
pub shows_era : {V : Type 0} (m : DiskMeaning V) (old new : Vault V) (seen : List ℕ) → m.may_leave (disk_of old) seen → KeptOn (kept_of new) seen → ((c : List ℕ) → m.may_leave (disk_of new) c → KeptOn (kept_of new) c)
    → (era other : ℕ) → VaultKeepsEra m era other old → VaultKeepsEra m era era new ⊎ VaultKeepsEra m other other new
shows_era {V} m old new seen image on lasts era other is = elim (is.left seen (kept_of new) image on) [
  | inl same ↦ inl (within era same)
  | inr next ↦ inr (within other next)
]
  where
    within : (n : ℕ) → (kept_of new).era ≡ n → VaultKeepsEra m n n new
    within n is_n = record { kept = is_n; left = λ c k may k_on. inl (ap (λ (x : Kept). x.era) (same_kept k (kept_of new) c k_on (lasts c may)) ∙ is_n) }

-- one that fails leaves what the vault kept
pub stays_within : {V : Type 0} (m : DiskMeaning V) (old new : Vault V) → kept_of new ≡ kept_of old → ((c : List ℕ) → m.may_leave (disk_of new) c → m.may_leave (disk_of old) c) → (era other : ℕ) → VaultKeepsEra m era other old → VaultKeepsEra m era other new
stays_within m old new same leaves era other is = record { kept = ap (λ (k : Kept). k.era) same ∙ is.kept; left = λ c k may on. is.left c k (leaves c may) on }

-- a restart shows an age that it kept, and a crash leaves just that from then on
shows_age : {V : Type 0} (m : DiskMeaning V) (old new : Vault V) (seen : List ℕ) → m.may_leave (disk_of old) seen → KeptOn (kept_of new) seen → ((c : List ℕ) → m.may_leave (disk_of new) c → KeptOn (kept_of new) c)
    → (age : ℕ) → IsAged m age old → IsAged m age new
shows_age m old new seen image on lasts age is = record {
  kept = is.left seen (kept_of new) image on;
  left = λ c k may k_on. subst (λ (x : Kept). age ≤ x.age) (sym (same_kept k (kept_of new) c k_on (lasts c may))) (is.left seen (kept_of new) image on);
}

-- one that fails leaves what the vault kept
stays_aged : {V : Type 0} (m : DiskMeaning V) (old new : Vault V) → kept_of new ≡ kept_of old → ((c : List ℕ) → m.may_leave (disk_of new) c → m.may_leave (disk_of old) c) → (age : ℕ) → IsAged m age old → IsAged m age new
stays_aged m old new same leaves age is = record { kept = subst (λ (k : Kept). age ≤ k.age) (sym same) is.kept; left = λ c k may on. is.left c k (leaves c may) on }

-- what a restart does to the vault of a desk that was down
pub record RestartsVault {V : Type 0} (m : DiskMeaning V) (old new : Vault V) (r : Result ⊤ VaultError) : Type 0 where
  pub counter : OnOk r (counter_of new ≡ (kept_of new).bound)
  pub image : OnOk r (m.tells → (c : List ℕ) × m.may_leave (disk_of old) c × KeptOn (kept_of new) c)
  pub unread : OnErr r (ShowsTheSame old new)
  pub still_past : m.tells → (n : ℕ) → IsPast m.may_leave n old → IsPast m.may_leave n new
  pub ages : m.tells → (age : ℕ) → IsAged m age old → IsAged m age new
  pub shows : OnOk r (m.tells → (era other : ℕ) → VaultKeepsEra m era other old → VaultKeepsEra m era era new ⊎ VaultKeepsEra m other other new)
  pub stays : OnErr r (m.tells → (era other : ℕ) → VaultKeepsEra m era other old → VaultKeepsEra m era other new)
  pub never_falls : m.faults (disk_of old) ≤ m.faults (disk_of new)

pub restarts_vault : {V : Type 0} (m : DiskMeaning V) (old new : Vault V) (r : Result ⊤ VaultError) (seen : List ℕ) → (m.tells → m.may_leave (disk_of old) seen) → (m.tells → OnOk r (KeptOn (kept_of new) seen))
    → OnOk r (counter_of new ≡ (kept_of new).bound) → OnOk r (m.tells → (c : List ℕ) → m.may_leave (disk_of new) c → KeptOn (kept_of new) c) → OnErr r (ShowsTheSame old new)
    → (m.tells → (c : List ℕ) → m.may_leave (disk_of new) c → m.may_leave (disk_of old) c) → (m.tells → (n : ℕ) → IsPast m.may_leave n old → IsPast m.may_leave n new) → m.faults (disk_of old) ≤ m.faults (disk_of new) → RestartsVault m old new r
restarts_vault m old new (Ok x) seen image reopened bound lasts same leaves past never_falls = record {
  counter = bound;
  image = λ tells. (seen, image tells, reopened tells);
  unread = tt;
  still_past = past;
  ages = λ tells. shows_age m old new seen (image tells) (reopened tells) (lasts tells);
  shows = λ tells. shows_era m old new seen (image tells) (reopened tells) (lasts tells);
  stays = tt;
  never_falls = never_falls;
}
restarts_vault m old new (Err e) seen image reopened bound lasts same leaves past never_falls = record {
  counter = tt;
  image = tt;
  unread = same;
  still_past = past;
  ages = λ tells. stays_aged m old new same.kept (leaves tells);
  shows = tt;
  stays = λ tells. stays_within m old new same.kept (leaves tells);
  never_falls = never_falls;
}

-- what is so of either end
pub on_ok_of : {A B : Type 0} (result : Result A B) (P : Type 0) → is_err result ≡ true → OnOk result P
on_ok_of (Ok x) P is = absurd (cc is)
on_ok_of (Err e) P is = tt

pub on_ok_so : {A B : Type 0} (result : Result A B) (P : Type 0) → P → OnOk result P
on_ok_so (Ok x) P has = has
on_ok_so (Err e) P has = tt

pub on_err_of : {A B : Type 0} (result : Result A B) (P : Type 0) → P → OnErr result P
on_err_of (Ok x) P has = tt
on_err_of (Err e) P has = has

pub on_err_not : {A B : Type 0} (result : Result A B) (P : Type 0) → is_err result ≡ false → OnErr result P
on_err_not (Ok x) P is = tt
on_err_not (Err e) P is = absurd (cc is)

-- a vault that stands leaves what it keeps, where its desk is up
pub lasts_then : {V : Type 0} (m : DiskMeaning V) (seen : V → List ℕ) (desk now : DeskView V) (r : Result ⊤ VaultError) → OnOk r (now ≡ record desk { vault = now.vault; down = false }) → (now.down ≡ false → VaultStands m.tells seen m.may_leave now.vault)
    → OnOk r (m.tells → (c : List ℕ) → m.may_leave (disk_of now.vault) c → KeptOn (kept_of now.vault) c)
lasts_then {V} m seen desk now (Ok x) ok stands = λ tells. (stands (ap (λ (d : DeskView V). d.down) ok)).images tells
lasts_then m seen desk now (Err e) ok stands = tt

-- a desk is up again, or stays down, or was up
pub same_round : {V : Type 0} (desk now : DeskView V) (r : Result ⊤ VaultError) → (OnOk r (now ≡ record desk { vault = now.vault; down = false })) → OnErr r (now ≡ record desk { vault = now.vault }) → now.round ≡ desk.round
same_round {V} desk now (Ok x) ok err = ap (λ (d : DeskView V). d.round) ok
same_round {V} desk now (Err e) ok err = ap (λ (d : DeskView V). d.round) err

pub desk_restarted : {S V : Type 0} (m : Meaning S V) (old : View S V) (id : ℕ) (desk now : DeskView V) (caller : CallerView) (eras : List Era) (r : Result ⊤ VaultError) → IsAt old.desks id desk → IsAt old.callers id caller → desk.down ≡ true
    → OnOk r (now ≡ record desk { vault = now.vault; down = false }) → OnErr r (now ≡ record desk { vault = now.vault }) → RestartsVault m.disks desk.vault now.vault r
    → OnOk r (eras ≡ slice_set old.eras id (era_shown old.council.plan (era_at old id) (kept_of now.vault).era)) → OnErr r (eras ≡ old.eras) → StepRestartProposer m old id (record (with_desk old id now) { eras = eras })
desk_restarted {S} {V} m old id desk now caller eras r at at_caller down ok err on shown same = step.restarts desk now caller at at_caller down (by_result r down ok err on) (by_eras r ok err shown same)
  where
    by_result : (r : Result ⊤ VaultError) → IsTrue desk.down → OnOk r (now ≡ record desk { vault = now.vault; down = false }) → OnErr r (now ≡ record desk { vault = now.vault }) → RestartsVault m.disks desk.vault now.vault r → Restarts m.disks desk now
    by_result (Ok x) down ok err of = let up : now.down ≡ false = ap (λ (d : DeskView V). d.down) ok in record {
      desk = ok ∙ ap (λ (d : Bool). record desk { vault = now.vault; down = d }) (sym up);
      counter = λ is_up. of.counter;
      image = λ is_up. of.image;
      unread = λ is_down. absurd (cc (is_down, up));
      still_past = of.still_past;
      ages = of.ages;
      shows = λ is_up. of.shows;
      stays = λ is_down. absurd (cc (is_down, up));
      never_falls = of.never_falls;
    }
    by_result (Err e) down ok err of = let still : now.down ≡ true = ap (λ (d : DeskView V). d.down) err ∙ down in record {
      desk = err ∙ ap (λ (d : Bool). record desk { vault = now.vault; down = d }) (sym (ap (λ (d : DeskView V). d.down) err));
      counter = λ is_up. absurd (cc (is_up, still));
      image = λ is_up. absurd (cc (is_up, still));
      unread = λ is_down. of.unread;
      still_past = of.still_past;
      ages = of.ages;
      shows = λ is_up. absurd (cc (is_up, still));
      stays = λ is_down. of.stays;
      never_falls = of.never_falls;
    }

    by_eras : (r : Result ⊤ VaultError) → OnOk r (now ≡ record desk { vault = now.vault; down = false }) → OnErr r (now ≡ record desk { vault = now.vault })
        → OnOk r (eras ≡ slice_set old.eras id (era_shown old.council.plan (era_at old id) (kept_of now.vault).era)) → OnErr r (eras ≡ old.eras) → record (with_desk old id now) { eras = eras } ≡ step.restarted old id now
    by_eras (Ok x) ok err shown same =
        ap (λ (l : List Era). record (with_desk old id now) { eras = l }) shown
        ∙ ap (λ (d : Bool). record (with_desk old id now) { eras = if d then old.eras else slice_set old.eras id (era_shown old.council.plan (era_at old id) (kept_of now.vault).era) }) (sym (ap (λ (d : DeskView V). d.down) ok))
    by_eras (Err e) ok err shown same =
        ap (λ (l : List Era). record (with_desk old id now) { eras = l }) same
        ∙ ap (λ (d : Bool). record (with_desk old id now) { eras = if d then old.eras else slice_set old.eras id (era_shown old.council.plan (era_at old id) (kept_of now.vault).era) }) (sym (ap (λ (d : DeskView V). d.down) err ∙ down))

-- ---- copies
abbrev pub HaveCopies : {V : Type 0} → List (DeskView V) → List Caller → Type 0
HaveCopies {V} desks callers = (id : ℕ) (desk : DeskView V) (caller : Caller) → IsAt desks id desk → IsAt callers id caller → HasCopies desk.round caller.call

-- a desk that keeps its round
pub copies_still : {V : Type 0} (desks : List (DeskView V)) (callers : List Caller) (id : ℕ) (desk now : DeskView V) → IsAt desks id desk → now.round ≡ desk.round → HaveCopies desks callers → HaveCopies (slice_set desks id now) callers
copies_still {V} desks callers id desk now at same were p d caller at_d at_caller = elim (but_set desks id now p d at_d) [
  | inl own ↦ subst (λ (r : Option Round). HasCopies r caller.call) (sym (ap (λ (x : DeskView V). x.round) own.1 ∙ same)) (were id desk caller at (subst (λ (n : ℕ). IsAt callers n caller) own.0 at_caller))
  | inr other ↦ were p d caller other.1 at_caller
]

-- another desk and another caller, which have their copies
pub copies_next : {V : Type 0} (desks : List (DeskView V)) (callers : List Caller) (id : ℕ) (now : DeskView V) (next : Caller) → HasCopies now.round next.call → HaveCopies desks callers → HaveCopies (slice_set desks id now) (slice_set callers id next)
copies_next {V} desks callers id now next has were p d caller at_d at_caller = elim (but_set desks id now p d at_d) [
  | inl own ↦ subst (λ (x : DeskView V). HasCopies x.round caller.call) (sym own.1)
      (subst (λ (c : Caller). HasCopies now.round c.call) (sym (own_set callers id next caller (subst (λ (n : ℕ). IsAt (slice_set callers id next) n caller) own.0 at_caller))) has)
  | inr other ↦ were p d caller other.1 (other_set callers id next p caller other.0 at_caller)
]

-- a desk that has no open round now, and another call of its caller
pub copies_idle : {V : Type 0} (desks : List (DeskView V)) (callers : List Caller) (id : ℕ) (now : DeskView V) (next : Caller) → now.round ≡ None → HaveCopies desks callers → HaveCopies (slice_set desks id now) (slice_set callers id next)
copies_idle {V} desks callers id now next none were p d caller at_d at_caller = elim (but_set desks id now p d at_d) [
  | inl own ↦ subst (λ (r : Option Round). HasCopies r caller.call) (sym (ap (λ (x : DeskView V). x.round) own.1 ∙ none)) tt
  | inr other ↦ were p d caller other.1 (other_set callers id next p caller other.0 at_caller)
]

-- the same with the same callers
pub copies_closed : {V : Type 0} (desks : List (DeskView V)) (callers : List Caller) (id : ℕ) (now : DeskView V) → now.round ≡ None → HaveCopies desks callers → HaveCopies (slice_set desks id now) callers
copies_closed {V} desks callers id now none were p d caller at_d at_caller = elim (but_set desks id now p d at_d) [
  | inl own ↦ subst (λ (r : Option Round). HasCopies r caller.call) (sym (ap (λ (x : DeskView V). x.round) own.1 ∙ none)) tt
  | inr other ↦ were p d caller other.1 at_caller
]

-- ---- a proposer that stops
abbrev pub crashed_caller : Caller → OpenCall → Caller
crashed_caller caller call = record caller { call = Some (record (over call (crash_answer (is_some call.proposed))) { is_closed = true }) }

pub crash_closes : {S V : Type 0} (m : Meaning S V) (last_proposer : ℕ) (council : Council) (acceptors : List (AcceptorView S)) (desks : List (DeskView V)) (callers : List Caller) (flow : FlowView) (book : Book) (id : ℕ) (desk now : DeskView V) (round : Round) (caller : Caller) (call : OpenCall)
    → IsAt desks id desk → IsAt callers id caller → caller.call ≡ Some call → desk.round ≡ Some round → Crashes m.disks desk now
    → CrashesDesk m (view_of last_proposer council acceptors desks callers flow book) id (view_of last_proposer council acceptors (slice_set desks id now) (slice_set callers id (crashed_caller caller call)) (abandoned flow id) book)
crash_closes {S} {V} m last_proposer council acceptors desks callers flow book id desk now round caller call at_desk at_caller is_open is_round by =
    stops.closes desk now round (record { caller = caller_view caller; at_caller = at_map caller_view callers id caller at_caller; call = call_view call; is_open = ap (λ (o : Option OpenCall). option_map call_view o) is_open })
    at_desk is_round by
    (ap (λ (l : List CallerView). record (view_of last_proposer council acceptors (slice_set desks id now) callers (abandoned flow id) book) { callers = l }) (map_set caller_view callers id (crashed_caller caller call)))

pub crash_idle : {S V : Type 0} (m : Meaning S V) (old : View S V) (id : ℕ) (desk now : DeskView V) → IsAt old.desks id desk → desk.round ≡ None → Crashes m.disks desk now
    → CrashesDesk m old id (record (with_desk old id now) { flow = abandoned old.flow id })
crash_idle m old id desk now at none by = stops.idle desk now at none by refl

-- what is done to a world is done to what it is seen as
pub crash_seen : {S V : Type 0} (m : Meaning S V) (id : ℕ) {inside now new : View S V} → inside ≡ now → CrashesDesk m inside id new → CrashesDesk m now id new
crash_seen {S} {V} m id {inside} {now} {new} same by = subst (λ (v : View S V). CrashesDesk m v id new) same by

-- the caller whose round was closed, as it was told
pub closed_is : (caller read new : Caller) (call : OpenCall) (told : Answer) (proposed : Bool) → caller.call ≡ Some call → read ≡ caller → IfSome read.call (λ c. proposed ≡ is_some c.proposed) → told ≡ crash_answer proposed
    → IfSome caller.call (λ c. new ≡ record caller { call = Some (record (over c told) { is_closed = true }) }) → new ≡ crashed_caller caller call
closed_is caller read new call told proposed is_open same has_proposed told_is by =
    let proposed_is : proposed ≡ is_some call.proposed = subst (λ (o : Option OpenCall). IfSome o (λ c. proposed ≡ is_some c.proposed)) (ap (λ (c : Caller). c.call) same ∙ is_open) has_proposed in
    let closed : new ≡ record caller { call = Some (record (over call told) { is_closed = true }) } =
    subst (λ (o : Option OpenCall). IfSome o (λ c. new ≡ record caller { call = Some (record (over c told) { is_closed = true }) })) is_open by in
    closed ∙ ap (λ (a : Answer). record caller { call = Some (record (over call a) { is_closed = true }) }) (told_is ∙ ap crash_answer proposed_is)

-- no more is reserved then
pub room_closed : (callers : List Caller) (id : ℕ) (caller new : Caller) (call : OpenCall) → IsAt callers id caller → caller.call ≡ Some call → 0 < call.reserved → new ≡ crashed_caller caller call
    → reserved_of (map caller_view (slice_set callers id new)) ≤ reserved_of (map caller_view callers)
room_closed callers id caller new call at is_open some is =
    omega (
      arith,
      some,
      ap (λ (l : List CallerView). reserved_of l) (map_set caller_view callers id new),
      reserved_set (map caller_view callers) id (caller_view caller) (caller_view new) (at_map caller_view callers id caller at),
      ap (λ (o : Option OpenCall). reserved_in (option_map call_view o)) is_open,
      ap (λ (c : Caller). reserved_in (caller_view c).call) is,
    )
