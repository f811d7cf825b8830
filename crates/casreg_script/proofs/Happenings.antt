-- What the event lines of a script do.
use Rattle.std.proofs.Common.{◌≡◌, ℕ, Bool, true, false, List, not, Option, None, Some, Result, Err, refl, sym, ap, subst, ◌∙◌}
use Rattle.std.specs.Prelude.{IsSome, IsErrOf, option_map, if◌then◌else◌}
use Rattle.cas_acceptor.specs.Acceptor.{AcceptorView}
use Rattle.cas_ballot.specs.Members.{has_member}
use Rattle.cas_world.specs.Readers.{up_in}

pub some_there : {A : Type 0} (o : Option A) (x : A) → o ≡ Some x → IsSome o
some_there o x is = subst (λ (p : Option _). IsSome p) (sym is) refl

pub err_is : {T E : Type 0} (r : Result T E) (e x : E) → r ≡ Err e → e ≡ x → IsErrOf r x
err_is r e x is same = subst (λ (s : Result _ _). IsErrOf s x) (sym (is ∙ ap (λ (y : _). Err y) same)) refl

-- one that is up or down is there
pub up_there : {S : Type 0} (used : List ℕ) (id : ℕ) (o : Option (AcceptorView S)) (b : Bool) → up_in used id o ≡ Some b → (acceptor : AcceptorView S) × (o ≡ Some acceptor)
up_there {S} used id o b is = by_member (has_member used id) o is
  where
    by_member : (member : Bool) (o : Option (AcceptorView S)) → (if member then option_map (λ (a : AcceptorView S). not a.down) o else None) ≡ Some b → (acceptor : AcceptorView S) × (o ≡ Some acceptor)
    by_member false o is = absurd (cc is)
    by_member true None is = absurd (cc is)
    by_member true (Some acceptor) is = (acceptor, refl)
