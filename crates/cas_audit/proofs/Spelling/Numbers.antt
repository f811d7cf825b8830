-- The members of a set below a number.
use Rattle.std.proofs.Common.{◌≡◌, ℕ, ◌+◌, ◌++◌, ◌∷◌, [], List, Bool, filter, cond, arith, ap, sym, ◌∙◌}
use Rattle.std.specs.List.{range_with_len}
use Rattle.std.proofs.lemmas.List.{map-id}
use Rattle.std.proofs.lemmas.List.FromFn.{filter_of_map_range_with_len_more}
use Rattle.cas_ballot.specs.Members.{has_member, members_where, IsMemberSet}

pub filter_more : (p : ℕ → Bool) (n : ℕ) → filter p (range_with_len 0 (n + 1)) ≡ filter p (range_with_len 0 n) ++ cond (p n) (n ∷ []) []
filter_more p n =
    ap (λ (xs : List ℕ). filter p xs) (sym (map-id (range_with_len 0 (n + 1))))
    ∙ filter_of_map_range_with_len_more p (λ x. x) 0 n n (omega arith)
    ∙ ap (λ (xs : List ℕ). filter p xs ++ cond (p n) (n ∷ []) []) (map-id (range_with_len 0 n))

pub members_listed : (ids : List ℕ) (n : ℕ) → IsMemberSet ids → n ≡ 64 → filter (has_member ids) (range_with_len 0 n) ≡ ids
unfolding members_where
members_listed ids n is all = ap (λ (k : ℕ). filter (has_member ids) (range_with_len 0 k)) all ∙ sym is.lists
