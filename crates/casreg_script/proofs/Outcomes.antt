-- What is so of a result by whether it is an error.
use Rattle.std.proofs.Common.{◌≡◌, true, false, Option, None, Some, Ok, Err, refl}
use Rattle.std.specs.Prelude.{Result, IfErr, IfNone, IsSome, OnOk, OnErr, is_err, is_some, option_map}

pub if_none : {T P : Type 0} (o : Option T) → is_some o ≡ false → IfNone o P → P
if_none None none p = p
if_none (Some x) none p = absurd cc

pub some_mapped : {T U : Type 0} (f : T → U) (o : Option T) → is_some o ≡ true → IsSome (option_map f o)
some_mapped f None some = absurd cc
some_mapped f (Some x) some = refl

pub on_err : {T E P : Type 0} (r : Result T E) → is_err r ≡ true → OnErr r P → P
on_err (Ok x) e p = absurd cc
on_err (Err x) e p = p

pub on_err_of : {T E P : Type 0} (r : Result T E) → P → OnErr r P
on_err_of (Ok x) p = tt
on_err_of (Err x) p = p

pub on_ok : {T E P : Type 0} (r : Result T E) → is_err r ≡ false → OnOk r P → P
on_ok (Ok x) e p = p
on_ok (Err x) e p = absurd cc

pub on_ok_of : {T E P : Type 0} (r : Result T E) → P → OnOk r P
on_ok_of (Ok x) p = p
on_ok_of (Err x) p = tt

pub on_ok_then : {T E P Q : Type 0} (r : Result T E) → OnOk r P → (P → Q) → OnOk r Q
on_ok_then (Ok x) p then_q = then_q p
on_ok_then (Err x) p then_q = tt

-- where each index tells something of the error, and one is at hand
pub if_err_by : {T E A : Type 0} {P : A → E → Type 0} {I : A → Type 0} {Q : E → Type 0} (r : Result T E) → ((e : E) → ((a : A) → I a → P a e) → Q e) → ((a : A) → I a → IfErr r (P a)) → IfErr r Q
if_err_by (Ok x) f p = tt
if_err_by (Err e) f p = f e p

-- where it is known which result it is
pub on_ok_is : {T E P : Type 0} (r : Result T E) (x : T) → r ≡ Ok x → OnOk r P → P
on_ok_is (Ok y) x is p = p
on_ok_is (Err e) x is p = absurd (cc is)

pub if_none_of : {T P : Type 0} (o : Option T) → P → IfNone o P
if_none_of None p = p
if_none_of (Some x) p = tt
