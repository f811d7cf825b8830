-- Lemmas on numbers that are read digit by digit.
use Rattle.std.proofs.Common.{◌≡◌, ℕ, ◌+◌, ◌-◌, ◌*◌, ◌<◌, ◌≤◌, List, [], ◌∷◌, length, get_or, drop, arith}
use Rattle.std.proofs.lemmas.List.{at_drop_more}
use Rattle.cas_change_text.specs.Decimal.{number_after}

-- more digits never make a number less
pub number_after-ge : (n : ℕ) (digits : List ℕ) → n ≤ number_after n digits
number_after-ge n [] = omega arith
number_after-ge n (digit ∷ digits) = omega (arith, number_after-ge (n * 10 + (digit - 48)) digits)

-- what is too great with one digit more is too great in the end
pub number_beyond : (digits : List ℕ) (at number least : ℕ) → at < length digits → least ≤ number * 10 + (get_or digits at 0 - 48)
    → least ≤ number_after number (drop at digits)
number_beyond digits at number least inside over =
    let next : ℕ = number * 10 + (get_or digits at 0 - 48) in
    let step : number_after number (drop at digits) ≡ number_after (number * 10 + (get_or digits at 0 - 48)) (drop (at + 1) digits) = at_drop_more (λ ds. number_after number ds) digits at 0 inside in
    omega (arith, step, number_after-ge (number * 10 + (get_or digits at 0 - 48)) (drop (at + 1) digits))
