-- What the calls of a cache leave of its entries.
use Rattle.std.specs.Prelude.{is_some, nat_eq}
use Rattle.std.specs.Cmp.Lexicographic.{pointwise, nat_list_eq_equiv}
use Rattle.std.specs.List.{IsDistinct}
use Rattle.std.specs.Map.{lookup, lookup_entry, remove_entry, set_value, keys_of}
use Rattle.std.specs.Option.{option_map_or}
use Rattle.std.proofs.Common.{◌≡◌, ℕ, zero, suc, ◌+◌, ◌-◌, ◌<◌, ◌≤◌, Bool, true, false, cond, ◌&&◌, List, [], ◌∷◌, length, take, Option, Some, None, refl, sym, ap, subst, ◌∙◌, arith}
use Rattle.std.proofs.lemmas.List.{take_all, length-take}
use Rattle.std.proofs.lemmas.Map.{lookup-remove_entry}
use Rattle.std.proofs.lemmas.Slice.Eq.{bytes_eq-Decides}
use Rattle.lru.specs.LruCache.{LruCache, promoted, put_entries, lru_cache}
use Rattle.cas_cache.specs.Entries.{with_promise, promises_in, key_without_promise, place_in, all_kept, is_row, promise_at, without}
use Rattle.cas_cache.specs.declared.ready.Ready.{Ready}

abbrev pub Entry : Type 0
Entry = List ℕ × Option Ready

-- ---- keys

pub same_key : (key k : List ℕ) → pointwise nat_eq key k ≡ true → key ≡ k
same_key key k is = (bytes_eq-Decides key k).0 is

pub own_key : (key : List ℕ) → pointwise nat_eq key key ≡ true
own_key key = (bytes_eq-Decides key key).1 refl

-- ---- all entries have a promise

kept_there : (key : List ℕ) (o : Option Ready) (b : Bool) → b ≡ true → key_without_promise key o ≡ None → (is_some o && b) ≡ true
kept_there key None b rest is = absurd (cc)
kept_there key (Some ready) b rest is = rest

-- where no place is open each entry has a promise
pub no_place : (es : List Entry) → is_row es ≡ true → place_in es ≡ None → all_kept es ≡ true
no_place [] row none = refl
no_place (e ∷ es) row none = kept_there e.0 e.1 (all_kept es) row none

-- and the other way round
pub kept_row : (es : List Entry) → all_kept es ≡ true → is_row es ≡ true
kept_row [] kept = refl
kept_row ((k, None) ∷ es) kept = absurd (cc)
kept_row ((k, Some ready) ∷ es) kept = kept

pub length_kept : (es : List Entry) → all_kept es ≡ true → length es ≡ length (promises_in es)
length_kept [] kept = refl
length_kept ((k, None) ∷ es) kept = absurd (cc)
length_kept ((k, Some ready) ∷ es) kept = ap suc (length_kept es kept)

pub taken : (n : ℕ) (es : List Entry) → all_kept es ≡ true → promises_in (take n es) ≡ take n (promises_in es)
taken zero es kept = refl
taken (suc n) [] kept = refl
taken (suc n) ((k, None) ∷ es) kept = absurd (cc)
taken (suc n) ((k, Some ready) ∷ es) kept = ap (λ ps. (k, ready) ∷ ps) (taken n es kept)

pub taken_kept : (n : ℕ) (es : List Entry) → all_kept es ≡ true → all_kept (take n es) ≡ true
taken_kept zero es kept = refl
taken_kept (suc n) [] kept = refl
taken_kept (suc n) ((k, None) ∷ es) kept = absurd (cc)
taken_kept (suc n) ((k, Some ready) ∷ es) kept = taken_kept n es kept

-- ---- look-ups

pub none_is : {X : Type 0} (o : Option X) → is_some o ≡ false → o ≡ None
none_is None is = refl
none_is (Some x) is = absurd (cc)

module _ (t : List ℕ → Bool) where
  found_head : (b : Bool) (ready : Ready) (rest : Option (Option Ready)) (rest' : Option Ready) (v : Option Ready) → cond b (Some (Some ready)) rest ≡ Some v → (rest ≡ Some v → v ≡ rest') → v ≡ cond b (Some ready) rest'
  found_head true ready rest rest' v is there = cc
  found_head false ready rest rest' v is there = there is

  -- what an entry of a key holds is the promise of the key
  pub found : (es : List Entry) (v : Option Ready) → all_kept es ≡ true → lookup t es ≡ Some v → v ≡ lookup t (promises_in es)
  found [] v kept is = absurd (cc)
  found ((k, None) ∷ es) v kept is = absurd (cc)
  found ((k, Some ready) ∷ es) v kept is = found_head (t k) ready (lookup t es) (lookup t (promises_in es)) v is (found es v kept)

  absent_tail : {X : Type 0} (b : Bool) (x : X) (rest : Option X) → cond b (Some x) rest ≡ None → rest ≡ None
  absent_tail true x rest is = absurd (cc)
  absent_tail false x rest is = is

  absent_head : {X Y : Type 0} (b : Bool) (x : X) (y : Y) (rest : Option X) (rest' : Option Y) → cond b (Some x) rest ≡ None → (rest ≡ None → rest' ≡ None) → cond b (Some y) rest' ≡ None
  absent_head true x y rest rest' is there = absurd (cc)
  absent_head false x y rest rest' is there = there is

  -- a key without an entry has no promise
  pub absent : (es : List Entry) → lookup t es ≡ None → lookup t (promises_in es) ≡ None
  absent [] is = refl
  absent ((k, None) ∷ es) is = absent es (absent_tail (t k) None (lookup t es) is)
  absent ((k, Some ready) ∷ es) is = absent_head (t k) (Some ready) ready (lookup t es) (lookup t (promises_in es)) is (absent es)

  pub no_entry : (es : List Entry) → lookup t es ≡ None → lookup_entry t es ≡ None
  no_entry [] is = refl
  no_entry (e ∷ es) is = absent_head (t e.0) e.1 e (lookup t es) (lookup_entry t es) is (no_entry es)

  unremoved_head : {X : Type 0} (b : Bool) (x : X) (p : List ℕ × X) (ps qs : List (List ℕ × X)) (rest : Option X) → cond b (Some x) rest ≡ None → (rest ≡ None → qs ≡ ps) → cond b ps (p ∷ qs) ≡ p ∷ ps
  unremoved_head true x p ps qs rest is there = absurd (cc)
  unremoved_head false x p ps qs rest is there = ap (λ l. p ∷ l) (there is)

  -- nothing is taken out for a key that is not there
  pub unremoved : {X : Type 0} (ps : List (List ℕ × X)) → lookup t ps ≡ None → remove_entry t ps ≡ ps
  unremoved [] is = refl
  unremoved (p ∷ ps) is = unremoved_head (t p.0) p.1 p ps (remove_entry t ps) (lookup t ps) is (unremoved ps)

  removed_head : (b : Bool) (k : List ℕ) (ready : Ready) (es es' : List Entry) (ps : List (List ℕ × Ready)) → promises_in es' ≡ ps → promises_in (cond b es ((k, Some ready) ∷ es')) ≡ cond b (promises_in es) ((k, ready) ∷ ps)
  removed_head true k ready es es' ps is = refl
  removed_head false k ready es es' ps is = ap (λ l. (k, ready) ∷ l) is

  -- taking an entry out takes its promise out
  pub removed : (es : List Entry) → all_kept es ≡ true → promises_in (remove_entry t es) ≡ remove_entry t (promises_in es)
  removed [] kept = refl
  removed ((k, None) ∷ es) kept = absurd (cc)
  removed ((k, Some ready) ∷ es) kept = removed_head (t k) k ready es (remove_entry t es) (remove_entry t (promises_in es)) (removed es kept)

  still_head : (b : Bool) (k : List ℕ) (ready : Ready) (es es' : List Entry) → all_kept es ≡ true → all_kept es' ≡ true → all_kept (cond b es ((k, Some ready) ∷ es')) ≡ true
  still_head true k ready es es' kept kept' = kept
  still_head false k ready es es' kept kept' = kept'

  pub still_kept : (es : List Entry) → all_kept es ≡ true → all_kept (remove_entry t es) ≡ true
  still_kept [] kept = refl
  still_kept ((k, None) ∷ es) kept = absurd (cc)
  still_kept ((k, Some ready) ∷ es) kept = still_head (t k) k ready es (remove_entry t es) kept (still_kept es kept)

  -- the entry of a key that is there
  pub record IsThere (es : List Entry) (e : Entry) : Type 0 where
    pub entry : lookup_entry t es ≡ Some e
    pub value : lookup t es ≡ Some e.1
    pub passes : t e.0 ≡ true

  there_head : (b : Bool) (x : Entry) (es : List Entry) → t x.0 ≡ b → is_some (cond b (Some x.1) (lookup t es)) ≡ true → (is_some (lookup t es) ≡ true → (e : Entry) × IsThere es e) → (e : Entry) × IsThere (x ∷ es) e
  there_head true x es test is there = (x, record { entry = rw test refl; value = rw test refl; passes = test })
  there_head false x es test is there =
      let below = there is in
      (below.0, record { entry = rw test below.1.entry; value = rw test below.1.value; passes = below.1.passes })

  pub entry_there : (es : List Entry) → is_some (lookup t es) ≡ true → (e : Entry) × IsThere es e
  entry_there [] is = absurd (cc)
  entry_there (x ∷ es) is = there_head (t x.0) x es refl is (entry_there es)

  -- it goes first
  pub promoted_there : (es : List Entry) (e : Entry) → IsThere es e → promoted t es ≡ e ∷ remove_entry t es
  promoted_there es e there = ap (λ o. option_map_or (λ f. f ∷ remove_entry t es) o es) there.entry

  pub promoted_absent : (es : List Entry) → lookup t es ≡ None → promoted t es ≡ es
  promoted_absent es is = ap (λ o. option_map_or (λ f. f ∷ remove_entry t es) o es) (no_entry es is)

  -- the first entry is written
  pub first_set : (e : Entry) (es : List Entry) (w : Option Ready) → t e.0 ≡ true → set_value t (e ∷ es) w ≡ (e.0, w) ∷ es
  first_set e es w is = ap (λ b. cond b ((e.0, w) ∷ es) (e ∷ set_value t es w)) is

  pub first_found : (e : Entry) (es : List Entry) → t e.0 ≡ true → lookup t (e ∷ es) ≡ Some e.1
  first_found e es is = ap (λ b. cond b (Some e.1) (lookup t es)) is

-- a new entry goes first, where there is room
pub put_absent : (c : LruCache (List ℕ) (Option Ready)) (key : List ℕ) (v : Option Ready) → lookup (pointwise nat_eq key) c.entries ≡ None → length c.entries ≤ c.cap - 1 → put_entries (pointwise nat_eq) c key v ≡ (key, v) ∷ c.entries
put_absent c key v is room =
    ap (λ o. option_map_or (λ (e : Entry). (e.0, v) ∷ remove_entry (pointwise nat_eq key) c.entries) o ((key, v) ∷ take (c.cap - 1) c.entries)) (no_entry (pointwise nat_eq key) c.entries is)
    ∙ ap (λ l. (key, v) ∷ l) (take_all (c.cap - 1) c.entries room)

-- ---- the open place

-- an open place stands in front, and is its key's
pub record IsOpen (es : List Entry) (key : List ℕ) (rest : List Entry) : Type 0 where
  pub is : es ≡ (key, None) ∷ rest
  pub kept : all_kept rest ≡ true

pub place_open : (es : List Entry) (key : List ℕ) → is_row es ≡ true → place_in es ≡ Some key → (rest : List Entry) × IsOpen es key rest
place_open [] key row is = absurd (cc)
place_open ((k, None) ∷ es) key row is = let same : k ≡ key = cc in (es, record { is = ap (λ j. (j, None) ∷ es) same; kept = row })
place_open ((k, Some ready) ∷ es) key row is = absurd (cc)

-- ---- keys that differ

-- after an entry was taken out its key is not there
pub gone : (key : List ℕ) (es : List Entry) → IsDistinct (pointwise nat_eq) (keys_of es) → lookup (pointwise nat_eq key) (remove_entry (pointwise nat_eq key) es) ≡ None
gone key es distinct =
    lookup-remove_entry nat_list_eq_equiv (pointwise nat_eq key) (λ x y is. nat_list_eq_equiv.congr key x y is) key es distinct
    ∙ ap (λ b. cond b None (lookup (pointwise nat_eq key) es)) (own_key key)

-- ---- what holds of every cache

abbrev pub Lru : Type 0
Lru = LruCache (List ℕ) (Option Ready)

pub record IsCache (c : Lru) : Type 0 where
  pub capacity : c.cap ≡ 65
  pub row : is_row c.entries ≡ true
  pub few : length (promises_in c.entries) ≤ 64

shorter : {X : Type 0} (b : Bool) (p : List ℕ × X) (ps qs : List (List ℕ × X)) → length qs ≤ length ps → length (cond b ps (p ∷ qs)) ≤ length (p ∷ ps)
shorter true p ps qs le = omega arith
shorter false p ps qs le = omega (arith, le)

removed_short : {X : Type 0} (t : List ℕ → Bool) (ps : List (List ℕ × X)) → length (remove_entry t ps) ≤ length ps
removed_short t [] = omega arith
removed_short t (p ∷ ps) = shorter (t p.0) p ps (remove_entry t ps) (removed_short t ps)

-- ---- forget

-- an entry that goes takes its promise or its place along
forgotten_head : (key : List ℕ) (b : Bool) (e : Entry) (es : List Entry) → pointwise nat_eq key e.0 ≡ b → all_kept es ≡ true → (b ≡ true → lookup (pointwise nat_eq key) es ≡ None) → promises_in (cond b es (e ∷ remove_entry (pointwise nat_eq key) es)) ≡ without key (with_promise e.0 e.1 (promises_in es))
forgotten_head key true (k, None) es test kept alone = sym (unremoved (pointwise nat_eq key) (promises_in es) (absent (pointwise nat_eq key) es (alone refl)))
forgotten_head key true (k, Some ready) es test kept alone = rw test refl
forgotten_head key false (k, None) es test kept alone = removed (pointwise nat_eq key) es kept
forgotten_head key false (k, Some ready) es test kept alone = rw test (ap (λ l. (k, ready) ∷ l) (removed (pointwise nat_eq key) es kept))

-- no key after it is the first one's
alone_after : (key : List ℕ) (e : Entry) (es : List Entry) → IsDistinct (pointwise nat_eq) (keys_of (e ∷ es)) → pointwise nat_eq key e.0 ≡ true → lookup (pointwise nat_eq key) es ≡ None
alone_after key e es distinct test =
    sym (ap (λ b. lookup (pointwise nat_eq key) (cond b es (e ∷ remove_entry (pointwise nat_eq key) es))) test) ∙ gone key (e ∷ es) distinct

pub forgotten : (key : List ℕ) (es : List Entry) → is_row es ≡ true → IsDistinct (pointwise nat_eq) (keys_of es) → promises_in (remove_entry (pointwise nat_eq key) es) ≡ without key (promises_in es)
forgotten key [] row distinct = refl
forgotten key (e ∷ es) row distinct = forgotten_head key (pointwise nat_eq key e.0) e es refl row (alone_after key e es distinct)

forgotten_row_head : (b : Bool) (e : Entry) (es es' : List Entry) → all_kept es ≡ true → all_kept es' ≡ true → is_row (cond b es (e ∷ es')) ≡ true
forgotten_row_head true e es es' kept kept' = kept_row es kept
forgotten_row_head false e es es' kept kept' = kept'

pub forgotten_row : (t : List ℕ → Bool) (es : List Entry) → is_row es ≡ true → is_row (remove_entry t es) ≡ true
forgotten_row t [] row = refl
forgotten_row t (e ∷ es) row = forgotten_row_head (t e.0) e es (remove_entry t es) row (still_kept t es row)

-- a cache without the entry of a key
pub forgets : (key : List ℕ) (c c' : Lru) → IsCache c → IsDistinct (pointwise nat_eq) (keys_of c.entries) → c' ≡ lru_cache (remove_entry (pointwise nat_eq key) c.entries) c.cap → IsCache c'
forgets key c c' is distinct same = subst (λ (d : Lru). IsCache d) (sym same) (record {
  capacity = is.capacity;
  row = forgotten_row (pointwise nat_eq key) c.entries is.row;
  few = omega (arith, is.few, removed_short (pointwise nat_eq key) (promises_in c.entries), ap (λ (l : List (List ℕ × Ready)). length l) (forgotten key c.entries is.row distinct));
})

pub forgets_promise : (key : List ℕ) (c c' : Lru) → IsCache c → IsDistinct (pointwise nat_eq) (keys_of c.entries) → c' ≡ lru_cache (remove_entry (pointwise nat_eq key) c.entries) c.cap → promises_in c'.entries ≡ without key (promises_in c.entries)
forgets_promise key c c' is distinct same = ap (λ (d : Lru). promises_in d.entries) same ∙ forgotten key c.entries is.row distinct

pub forgets_all : (key : List ℕ) (c c' : Lru) → IsDistinct (pointwise nat_eq) (keys_of c.entries) → c' ≡ lru_cache (remove_entry (pointwise nat_eq key) c.entries) c.cap → promise_at key (promises_in c'.entries) ≡ None
forgets_all key c c' distinct same = absent (pointwise nat_eq key) c'.entries (ap (λ (d : Lru). lookup (pointwise nat_eq key) d.entries) same ∙ gone key c.entries distinct)

-- ---- keep

-- an open place that is filled
pub filled : (key : List ℕ) (ready : Ready) (es rest : List Entry) → IsOpen es key rest → set_value (pointwise nat_eq key) es (Some ready) ≡ (key, Some ready) ∷ rest
filled key ready es rest open_ = ap (λ (l : List Entry). set_value (pointwise nat_eq key) l (Some ready)) open_.is ∙ first_set (pointwise nat_eq key) (key, None) rest (Some ready) (own_key key)

open_length : (key : List ℕ) (es rest : List Entry) → IsOpen es key rest → length rest ≡ length (promises_in es)
open_length key es rest open_ = length_kept rest open_.kept ∙ ap (λ (l : List Entry). length (promises_in l)) (sym open_.is)

-- where it fits
pub keeps : (key : List ℕ) (ready : Ready) (es : List Entry) (cap : ℕ) → cap ≡ 65 → is_row es ≡ true → place_in es ≡ Some key → length (set_value (pointwise nat_eq key) es (Some ready)) ≤ 64 → IsCache (lru_cache (set_value (pointwise nat_eq key) es (Some ready)) cap)
keeps key ready es cap capacity row place short =
    let found = place_open es key row place in
    let is = filled key ready es found.0 found.1 in
    record {
      capacity = capacity;
      row = ap (λ (l : List Entry). is_row l) is ∙ found.1.kept;
      few = let kept : all_kept (set_value (pointwise nat_eq key) es (Some ready)) ≡ true = ap (λ (l : List Entry). all_kept l) is ∙ found.1.kept in
          omega (arith, short, length_kept (set_value (pointwise nat_eq key) es (Some ready)) kept);
    }

-- where there are too many the last goes
pub keeps_but_last : (key : List ℕ) (ready : Ready) (es : List Entry) (c : Lru) (cap : ℕ) → cap ≡ 65 → is_row es ≡ true → place_in es ≡ Some key → length (promises_in es) ≤ 64
    → c ≡ lru_cache (take (length (set_value (pointwise nat_eq key) es (Some ready)) - 1) (set_value (pointwise nat_eq key) es (Some ready))) cap → IsCache c
keeps_but_last key ready es c cap capacity row place few same =
    let found = place_open es key row place in
    let all = set_value (pointwise nat_eq key) es (Some ready) in
    let is : all ≡ (key, Some ready) ∷ found.0 = filled key ready es found.0 found.1 in
    let kept : all_kept all ≡ true = ap (λ (l : List Entry). all_kept l) is ∙ found.1.kept in
    let front : all_kept (take (length all - 1) all) ≡ true = taken_kept (length all - 1) all kept in
    let long : length all ≡ 1 + length (promises_in es) = ap (λ (l : List Entry). length l) is ∙ (let n = open_length key es found.0 found.1 in omega (arith, n)) in
    subst (λ (d : Lru). IsCache d) (sym same) (record {
      capacity = capacity;
      row = kept_row (take (length all - 1) all) front;
      few = omega (arith, few, long, length_kept (take (length all - 1) all) front, length-take (length all - 1) all);
    })

-- the promises then, of which the last goes where there are too many
pub kept_promises : (key : List ℕ) (ready : Ready) (es : List Entry) → is_row es ≡ true → place_in es ≡ Some key → promises_in (set_value (pointwise nat_eq key) es (Some ready)) ≡ (key, ready) ∷ promises_in es
kept_promises key ready es row place =
    let found = place_open es key row place in
    ap (λ (l : List Entry). promises_in l) (filled key ready es found.0 found.1) ∙ ap (λ (l : List Entry). (key, ready) ∷ promises_in l) (sym found.1.is)

pub taken_promises : (key : List ℕ) (ready : Ready) (es : List Entry) → is_row es ≡ true → place_in es ≡ Some key → length (promises_in es) ≤ 64 → 64 < length (set_value (pointwise nat_eq key) es (Some ready))
    → promises_in (take (length (set_value (pointwise nat_eq key) es (Some ready)) - 1) (set_value (pointwise nat_eq key) es (Some ready))) ≡ take 64 ((key, ready) ∷ promises_in es)
taken_promises key ready es row place few many =
    let found = place_open es key row place in
    let all = set_value (pointwise nat_eq key) es (Some ready) in
    let is : all ≡ (key, Some ready) ∷ found.0 = filled key ready es found.0 found.1 in
    let kept : all_kept all ≡ true = ap (λ (l : List Entry). all_kept l) is ∙ found.1.kept in
    let long : length all ≡ 1 + length (promises_in es) = ap (λ (l : List Entry). length l) is ∙ (let n = open_length key es found.0 found.1 in omega (arith, n)) in
    let front : length all - 1 ≡ 64 = omega (arith, long, few, many) in
    taken (length all - 1) all kept ∙ (λ t. take (front t) (kept_promises key ready es row place t))

-- where there are no more than may be kept all stay
pub kept_all : (key : List ℕ) (ready : Ready) (es : List Entry) → is_row es ≡ true → place_in es ≡ Some key → length (set_value (pointwise nat_eq key) es (Some ready)) ≤ 64
    → promises_in (set_value (pointwise nat_eq key) es (Some ready)) ≡ take 64 ((key, ready) ∷ promises_in es)
kept_all key ready es row place short =
    let found = place_open es key row place in
    let all = set_value (pointwise nat_eq key) es (Some ready) in
    let is : all ≡ (key, Some ready) ∷ found.0 = filled key ready es found.0 found.1 in
    let long : length all ≡ 1 + length (promises_in es) = ap (λ (l : List Entry). length l) is ∙ (let n = open_length key es found.0 found.1 in omega (arith, n)) in
    let fits : length ((key, ready) ∷ promises_in es) ≤ 64 = omega (arith, long, short) in
    kept_promises key ready es row place ∙ sym (take_all 64 ((key, ready) ∷ promises_in es) fits)

-- ---- take

-- promoting a key that is not there changes nothing
pub same_cache : (key : List ℕ) (c c' : Lru) → lookup (pointwise nat_eq key) c.entries ≡ None → c' ≡ lru_cache (promoted (pointwise nat_eq key) c.entries) c.cap → c' ≡ c
same_cache key c c' none same = same ∙ ap (λ (l : List Entry). lru_cache l c.cap) (promoted_absent (pointwise nat_eq key) c.entries none)

-- a place is opened for a key that is not there
pub opens : (key k : List ℕ) (c c' d : Lru) → IsCache c → place_in c.entries ≡ None → lookup (pointwise nat_eq key) c.entries ≡ None → c' ≡ c → k ≡ key → d ≡ lru_cache (put_entries (pointwise nat_eq) c' k None) c'.cap → d ≡ lru_cache ((key, None) ∷ c.entries) c.cap
opens key k c c' d is free none same same_k put =
    let kept = no_place c.entries is.row free in
    let room : length c.entries ≤ c.cap - 1 = omega (arith, length_kept c.entries kept, is.few, is.capacity) in
    put ∙ (λ t. lru_cache (put_entries (pointwise nat_eq) (same t) (same_k t) None) ((same t).cap)) ∙ ap (λ (l : List Entry). lru_cache l c.cap) (put_absent c key None none room)

pub opens_cache : (key : List ℕ) (c d : Lru) → IsCache c → place_in c.entries ≡ None → d ≡ lru_cache ((key, None) ∷ c.entries) c.cap → IsCache d
opens_cache key c d is free same = subst (λ (x : Lru). IsCache x) (sym same) (record { capacity = is.capacity; row = no_place c.entries is.row free; few = is.few })

-- an entry that is there goes first, and its promise is taken out
pub takes : (key : List ℕ) (c c' : Lru) → is_some (lookup (pointwise nat_eq key) c.entries) ≡ true → c' ≡ lru_cache (promoted (pointwise nat_eq key) c.entries) c.cap
    → (e : Entry) × IsThere (pointwise nat_eq key) c.entries e × (c'.entries ≡ e ∷ remove_entry (pointwise nat_eq key) c.entries)
takes key c c' some same =
    let there = entry_there (pointwise nat_eq key) c.entries some in
    (there.0, there.1, ap (λ (x : Lru). x.entries) same ∙ promoted_there (pointwise nat_eq key) c.entries there.0 there.1)

pub takes_out : (key : List ℕ) (c c' : Lru) → is_some (lookup (pointwise nat_eq key) c.entries) ≡ true → c' ≡ lru_cache (promoted (pointwise nat_eq key) c.entries) c.cap
    → set_value (pointwise nat_eq key) c'.entries None ≡ (key, None) ∷ remove_entry (pointwise nat_eq key) c.entries
takes_out key c c' some same =
    let t = takes key c c' some same in
    ap (λ (l : List Entry). set_value (pointwise nat_eq key) l None) t.2
    ∙ first_set (pointwise nat_eq key) t.0 (remove_entry (pointwise nat_eq key) c.entries) None t.1.passes
    ∙ ap (λ (k : List ℕ). (k, None) ∷ remove_entry (pointwise nat_eq key) c.entries) (sym (same_key key t.0.0 t.1.passes))

pub takes_cache : (key : List ℕ) (c c' : Lru) → IsCache c → place_in c.entries ≡ None → is_some (lookup (pointwise nat_eq key) c.entries) ≡ true → c' ≡ lru_cache (promoted (pointwise nat_eq key) c.entries) c.cap
    → IsCache (lru_cache (set_value (pointwise nat_eq key) c'.entries None) c'.cap)
takes_cache key c c' is free some same =
    let out = takes_out key c c' some same in
    let kept = no_place c.entries is.row free in
    record {
      capacity = ap (λ (x : Lru). x.cap) same ∙ is.capacity;
      row = ap (λ (l : List Entry). is_row l) out ∙ still_kept (pointwise nat_eq key) c.entries kept;
      few = let long = ap (λ (l : List Entry). length (promises_in l)) (λ t. out t) in
          let gone_one = ap (λ (l : List (List ℕ × Ready)). length l) (removed (pointwise nat_eq key) c.entries kept) in
          omega (arith, is.few, long, gone_one, removed_short (pointwise nat_eq key) (promises_in c.entries));
    }

-- what was there is the key's promise
pub takes_promise : (key : List ℕ) (c c' : Lru) (v : Option Ready) → IsCache c → place_in c.entries ≡ None → is_some (lookup (pointwise nat_eq key) c.entries) ≡ true → c' ≡ lru_cache (promoted (pointwise nat_eq key) c.entries) c.cap
    → Some v ≡ lookup (pointwise nat_eq key) c'.entries → v ≡ promise_at key (promises_in c.entries)
takes_promise key c c' v is free some same value =
    let t = takes key c c' some same in
    let first : Some v ≡ Some t.0.1 = value ∙ ap (λ (l : List Entry). lookup (pointwise nat_eq key) l) t.2 ∙ first_found (pointwise nat_eq key) t.0 (remove_entry (pointwise nat_eq key) c.entries) t.1.passes in
    found (pointwise nat_eq key) c.entries v (no_place c.entries is.row free) (t.1.value ∙ sym first)

pub takes_promises : (key : List ℕ) (c c' : Lru) → IsCache c → place_in c.entries ≡ None → is_some (lookup (pointwise nat_eq key) c.entries) ≡ true → c' ≡ lru_cache (promoted (pointwise nat_eq key) c.entries) c.cap
    → promises_in (set_value (pointwise nat_eq key) c'.entries None) ≡ without key (promises_in c.entries)
takes_promises key c c' is free some same =
    ap (λ (l : List Entry). promises_in l) (takes_out key c c' some same) ∙ removed (pointwise nat_eq key) c.entries (no_place c.entries is.row free)

pub takes_all : (key : List ℕ) (c c' : Lru) → IsDistinct (pointwise nat_eq) (keys_of c.entries) → is_some (lookup (pointwise nat_eq key) c.entries) ≡ true → c' ≡ lru_cache (promoted (pointwise nat_eq key) c.entries) c.cap
    → promise_at key (promises_in (set_value (pointwise nat_eq key) c'.entries None)) ≡ None
takes_all key c c' distinct some same =
    ap (λ (l : List Entry). promise_at key (promises_in l)) (takes_out key c c' some same)
    ∙ absent (pointwise nat_eq key) (remove_entry (pointwise nat_eq key) c.entries) (gone key c.entries distinct)

pub takes_some : (key : List ℕ) (c c' : Lru) → is_some (lookup (pointwise nat_eq key) c.entries) ≡ true → c' ≡ lru_cache (promoted (pointwise nat_eq key) c.entries) c.cap → None ≡ lookup (pointwise nat_eq key) c'.entries → ⊥
takes_some key c c' some same none =
    let t = takes key c c' some same in
    let first : None ≡ Some t.0.1 = none ∙ ap (λ (l : List Entry). lookup (pointwise nat_eq key) l) t.2 ∙ first_found (pointwise nat_eq key) t.0 (remove_entry (pointwise nat_eq key) c.entries) t.1.passes in
    cc
