use Rattle.std.specs.Prelude.{OnOk, OnErr, is_some, nat_eq}
use Rattle.std.specs.Cmp.Lexicographic.{pointwise}
use Rattle.std.specs.Map.{lookup, set_value}
use Rattle.std.proofs.Common.{◌≡◌, ◌∙◌, Result, Ok, Err, Option, Some, true, ap, subst, sym, List}
use Rattle.lru.specs.LruCache.{lru_cache}
use Rattle.cas_cache.specs.declared.ready.Ready.{Ready}
use Rattle.cas_cache.specs.Entries.{promises_in, place_in, promise_at}
use Rattle.cas_cache.proofs.Rows.{Lru, Entry, takes_some, IsCache, none_is, same_cache, opens, opens_cache, unremoved, absent, takes_cache, takes_promise, takes_promises, takes_out, takes_all}
use Rattle.cas_cache.proofs.cache.Cache.take.Goals as goal

-- a fact that holds either way holds of an error
of_err : {T E : Type 0} (r : Result T E) (P : Type 0) → P → OnErr r P
of_err (Ok x) P p = tt
of_err (Err e) P p = p

-- what follows from either outcome
either_way : {T E : Type 0} (r : Result T E) (P Q R : Type 0) → OnOk r P → OnErr r Q → (P → R) → (Q → R) → R
either_way (Ok x) P Q R done failed yes_way no_way = yes_way done
either_way (Err e) P Q R done failed yes_way no_way = no_way failed

pub invariant_of-self : goal.invariant_of-self
invariant_of-self c =
    let s = c.args.self.now in
    let key = c.args.key.now in
    let none = none_is (lookup (pointwise nat_eq key) s.entries.entries) (sym c.promote.ensures.value ∙ c.if-not-promote.true) in
    let same = same_cache key s.entries c.promote.new.self none c.promote.ensures.entries in
    let is : IsCache s.entries = record { capacity = s.capacity; row = s.row; few = s.few } in
    let kept = subst (λ (x : Lru). IsCache x) (sym same) is in
    record { capacity = kept.capacity; row = kept.row; few = kept.few }

pub returns-in_err-copy-clause-same : goal.returns-in_err-copy-clause-same
returns-in_err-copy-clause-same c =
    let s = c.args.self.now in
    let key = c.args.key.now in
    let none = none_is (lookup (pointwise nat_eq key) s.entries.entries) (sym c.promote.ensures.value ∙ c.if-not-promote.true) in
    let same = same_cache key s.entries c.promote.new.self none c.promote.ensures.entries in
    of_err c.from_residual.result _ (ap (λ (x : Lru). promises_in x.entries) same)

pub returns-in_err-copy-clause-no_place : goal.returns-in_err-copy-clause-no_place
returns-in_err-copy-clause-no_place c =
    let s = c.args.self.now in
    let key = c.args.key.now in
    let none = none_is (lookup (pointwise nat_eq key) s.entries.entries) (sym c.promote.ensures.value ∙ c.if-not-promote.true) in
    let same = same_cache key s.entries c.promote.new.self none c.promote.ensures.entries in
    of_err c.from_residual.result _ (ap (λ (x : Lru). place_in x.entries) same ∙ c.requires)

pub invariant_of-self-then-not-promote : goal.invariant_of-self-then-not-promote
invariant_of-self-then-not-promote c =
    let s = c.args.self.now in
    let key = c.args.key.now in
    let none = none_is (lookup (pointwise nat_eq key) s.entries.entries) (sym c.promote.ensures.value ∙ c.if-not-promote.true) in
    let same = same_cache key s.entries c.promote.new.self none c.promote.ensures.entries in
    let is : IsCache s.entries = record { capacity = s.capacity; row = s.row; few = s.few } in
    let kept : IsCache c.put.new.self = either_way c.put.result _ _ (IsCache c.put.new.self) c.put.ensures.entries c.put.ensures.err
    (λ put. opens_cache key s.entries c.put.new.self is c.requires (opens key c.in_ok-copy.field-0 s.entries c.promote.new.self c.put.new.self is c.requires none same c.in_ok-copy.ensures put))
    (λ err. subst (λ (x : Lru). IsCache x) (sym (err ∙ same)) is) in
    record { capacity = kept.capacity; row = kept.row; few = kept.few }

pub returns-in_err-put-clause-same : goal.returns-in_err-put-clause-same
returns-in_err-put-clause-same c =
    let s = c.args.self.now in
    let key = c.args.key.now in
    let none = none_is (lookup (pointwise nat_eq key) s.entries.entries) (sym c.promote.ensures.value ∙ c.if-not-promote.true) in
    let same = same_cache key s.entries c.promote.new.self none c.promote.ensures.entries in
    of_err c.from_residual-in_err-put.result _ (ap (λ (x : Lru). promises_in x.entries) (c.in_err-put.ensures.err ∙ same))

pub returns-in_err-put-clause-no_place : goal.returns-in_err-put-clause-no_place
returns-in_err-put-clause-no_place c =
    let s = c.args.self.now in
    let key = c.args.key.now in
    let none = none_is (lookup (pointwise nat_eq key) s.entries.entries) (sym c.promote.ensures.value ∙ c.if-not-promote.true) in
    let same = same_cache key s.entries c.promote.new.self none c.promote.ensures.entries in
    of_err c.from_residual-in_err-put.result _ (ap (λ (x : Lru). place_in x.entries) (c.in_err-put.ensures.err ∙ same) ∙ c.requires)

pub returns-then-not-promote-clause-ready : goal.returns-then-not-promote-clause-ready
returns-then-not-promote-clause-ready c =
    let s = c.args.self.now in
    let key = c.args.key.now in
    let none = none_is (lookup (pointwise nat_eq key) s.entries.entries) (sym c.promote.ensures.value ∙ c.if-not-promote.true) in
    sym (absent (pointwise nat_eq key) s.entries.entries none)

pub returns-then-not-promote-clause-promises : goal.returns-then-not-promote-clause-promises
returns-then-not-promote-clause-promises c =
    let s = c.args.self.now in
    let key = c.args.key.now in
    let none = none_is (lookup (pointwise nat_eq key) s.entries.entries) (sym c.promote.ensures.value ∙ c.if-not-promote.true) in
    let same = same_cache key s.entries c.promote.new.self none c.promote.ensures.entries in
    let is : IsCache s.entries = record { capacity = s.capacity; row = s.row; few = s.few } in
    let opened = opens key c.in_ok-copy.field-0 s.entries c.promote.new.self c.put.new.self is c.requires none same c.in_ok-copy.ensures c.in_ok-put.ensures.entries in
    ap (λ (x : Lru). promises_in x.entries) opened ∙ sym (unremoved (pointwise nat_eq key) (promises_in s.entries.entries) (absent (pointwise nat_eq key) s.entries.entries none))

pub returns-then-not-promote-clause-place : goal.returns-then-not-promote-clause-place
returns-then-not-promote-clause-place c =
    let s = c.args.self.now in
    let key = c.args.key.now in
    let none = none_is (lookup (pointwise nat_eq key) s.entries.entries) (sym c.promote.ensures.value ∙ c.if-not-promote.true) in
    let same = same_cache key s.entries c.promote.new.self none c.promote.ensures.entries in
    let is : IsCache s.entries = record { capacity = s.capacity; row = s.row; few = s.few } in
    let opened = opens key c.in_ok-copy.field-0 s.entries c.promote.new.self c.put.new.self is c.requires none same c.in_ok-copy.ensures c.in_ok-put.ensures.entries in
    ap (λ (x : Lru). place_in x.entries) opened

pub returns-then-not-promote-clause-gone : goal.returns-then-not-promote-clause-gone
returns-then-not-promote-clause-gone c =
    let s = c.args.self.now in
    let key = c.args.key.now in
    let none = none_is (lookup (pointwise nat_eq key) s.entries.entries) (sym c.promote.ensures.value ∙ c.if-not-promote.true) in
    let same = same_cache key s.entries c.promote.new.self none c.promote.ensures.entries in
    let is : IsCache s.entries = record { capacity = s.capacity; row = s.row; few = s.few } in
    let opened = opens key c.in_ok-copy.field-0 s.entries c.promote.new.self c.put.new.self is c.requires none same c.in_ok-copy.ensures c.in_ok-put.ensures.entries in
    ap (λ (x : Lru). promise_at key (promises_in x.entries)) opened ∙ absent (pointwise nat_eq key) s.entries.entries none

pub invariant_of-self-in-Some : goal.invariant_of-self-in-Some
invariant_of-self-in-Some c =
    let s = c.args.self.now in
    let key = c.args.key.now in
    let is : IsCache s.entries = record { capacity = s.capacity; row = s.row; few = s.few } in
    let some : is_some (lookup (pointwise nat_eq key) s.entries.entries) ≡ true = sym c.promote.ensures.value ∙ c.if-not-promote.false in
    let kept = takes_cache key s.entries c.promote.new.self is c.requires some c.promote.ensures.entries in
    let written = subst (λ (v : Option Ready). IsCache (lru_cache (set_value (pointwise nat_eq key) c.promote.new.self.entries v) c.promote.new.self.cap)) (sym c.take.ensures.after) kept in
    record { capacity = written.capacity; row = written.row; few = written.few }

pub unreachable-requires : goal.unreachable-requires
unreachable-requires c =
    let s = c.args.self.now in
    takes_some c.args.key.now s.entries c.promote.new.self (sym c.promote.ensures.value ∙ c.if-not-promote.false) c.promote.ensures.entries c.in-None.ensures.value

pub returns-clause-ready : goal.returns-clause-ready
returns-clause-ready c =
    let s = c.args.self.now in
    let key = c.args.key.now in
    let is : IsCache s.entries = record { capacity = s.capacity; row = s.row; few = s.few } in
    let some : is_some (lookup (pointwise nat_eq key) s.entries.entries) ≡ true = sym c.promote.ensures.value ∙ c.if-not-promote.false in
    takes_promise key s.entries c.promote.new.self c.take.result is c.requires some c.promote.ensures.entries (ap (λ (v : Option Ready). Some v) c.take.ensures.value ∙ c.in-Some.ensures.value)

pub returns-clause-promises : goal.returns-clause-promises
returns-clause-promises c =
    let s = c.args.self.now in
    let key = c.args.key.now in
    let is : IsCache s.entries = record { capacity = s.capacity; row = s.row; few = s.few } in
    let some : is_some (lookup (pointwise nat_eq key) s.entries.entries) ≡ true = sym c.promote.ensures.value ∙ c.if-not-promote.false in
    ap (λ (v : Option Ready). promises_in (set_value (pointwise nat_eq key) c.promote.new.self.entries v)) c.take.ensures.after
    ∙ takes_promises key s.entries c.promote.new.self is c.requires some c.promote.ensures.entries

pub returns-clause-place : goal.returns-clause-place
returns-clause-place c =
    let s = c.args.self.now in
    let key = c.args.key.now in
    let is : IsCache s.entries = record { capacity = s.capacity; row = s.row; few = s.few } in
    let some : is_some (lookup (pointwise nat_eq key) s.entries.entries) ≡ true = sym c.promote.ensures.value ∙ c.if-not-promote.false in
    ap (λ (v : Option Ready). place_in (set_value (pointwise nat_eq key) c.promote.new.self.entries v)) c.take.ensures.after
    ∙ ap (λ (l : List Entry). place_in l) (takes_out key s.entries c.promote.new.self some c.promote.ensures.entries)

pub returns-clause-gone : goal.returns-clause-gone
returns-clause-gone c =
    let s = c.args.self.now in
    let key = c.args.key.now in
    let is : IsCache s.entries = record { capacity = s.capacity; row = s.row; few = s.few } in
    let some : is_some (lookup (pointwise nat_eq key) s.entries.entries) ≡ true = sym c.promote.ensures.value ∙ c.if-not-promote.false in
    ap (λ (v : Option Ready). promise_at key (promises_in (set_value (pointwise nat_eq key) c.promote.new.self.entries v))) c.take.ensures.after
    ∙ takes_all key s.entries c.promote.new.self c.len.ensures.valid.0 some c.promote.ensures.entries
