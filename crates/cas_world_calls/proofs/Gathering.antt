-- What came of an exchange, in the council.
use Rattle.std.proofs.Common.{◌≡◌, Some, Option, sym, subst}
use Rattle.std.specs.Prelude.{IfSome}
use Rattle.cas_model.specs.Council.{ExchangeView}
use Rattle.cas_world_calls.specs.Council.{exchange_view}
use Rattle.cas_world_calls.specs.declared.council.OpenExchange.{OpenExchange}

-- of the exchange that was open
pub of_open : (o : Option OpenExchange) (exchange : OpenExchange) (P : ExchangeView → Type 0) → o ≡ Some exchange → P (exchange_view exchange) → IfSome o (λ e. P (exchange_view e))
of_open o exchange P is has = subst (λ (x : Option OpenExchange). IfSome x (λ e. P (exchange_view e))) (sym is) has
