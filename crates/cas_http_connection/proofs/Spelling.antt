-- More bytes of an input, and more requests.
use Rattle.std.proofs.Common.{◌≡◌, ℕ, suc, ◌+◌, ◌<◌, Bool, true, false, ◌||◌, ◌==◌, List, [], ◌∷◌, ◌++◌, length, None, sym, subst, append_assoc, append-nil, arith}
use Rattle.std.proofs.lemmas.Grind.{common_steps}
use Rattle.std.proofs.lemmas.List.{drop-append-le}
use Rattle.cas_lines.specs.Source.{Taken}
use Rattle.cas_http.specs.declared.request.Spelled.{Spelled}
use Rattle.cas_http.specs.Requests.{BeginsWith}
use Rattle.cas_http.proofs.RequestFronts.{request_stays}
use Rattle.cas_http.proofs.RequestSizes.{request_fits}
use Rattle.cas_http_connection.specs.declared.connection.TheConstants.{MOST_REQUESTS}
use Rattle.cas_http_connection.specs.Input.{is_last, SpellsRequests, spells_none, spells_one_more, IsOpen, Gave, gave_nothing, gave_more}

-- what is spelled stays, whatever bytes follow
pub spells_on : (bytes more : List ℕ) (requests : List Spelled) (closed : Bool) (rest : List ℕ) → SpellsRequests bytes requests closed rest
    → SpellsRequests (bytes ++ more) requests closed (rest ++ more)
spells_on bytes more requests closed rest spells_none = spells_none
spells_on bytes more requests closed rest (spells_one_more {requests = earlier} {rest = before} {asked} spells begins) =
    subst (λ r. SpellsRequests (bytes ++ more) (earlier ++ asked ∷ []) (is_last (length earlier) asked) r) (drop-append-le asked.length before more (request_fits before asked begins).0)
    (spells_one_more (spells_on bytes more earlier false before spells) (request_stays before more asked begins))

-- what was given first, and what was given then to a reader that held these bytes
pub gave_both : {S : Type 0} (gives : S → Taken → S → Type 0) (old mid : S) (bytes held : List ℕ) (requests : List Spelled) (new : S) (more : List ℕ) → SpellsRequests bytes requests false held
    → Gave gives IsOpen old bytes mid → Gave gives (λ later. BeginsWith (held ++ later) None) mid more new → Gave gives IsOpen old (bytes ++ more) new
gave_both gives old mid bytes held requests new more spells first gave_nothing = subst (λ b. Gave gives IsOpen old b mid) (sym (append-nil bytes)) first
gave_both gives old mid bytes held requests new more spells first (gave_more {bytes = earlier} {piece} {mid = between} then waits gave) =
    let still : IsOpen (bytes ++ earlier) = (requests, held ++ earlier, spells_on bytes earlier requests false held spells, waits) in
    subst (λ b. Gave gives IsOpen old b new) (append_assoc bytes earlier piece) (gave_more (gave_both gives old mid bytes held requests between earlier spells first then) still gave)

-- where the connection goes on, more requests may come
second_false : (a b : Bool) → (a || b) ≡ false → b ≡ false
second_false true b is = cc
second_false false b is = is

room_for : (answered most : ℕ) → (suc answered == most) ≡ false → answered < most → answered + 1 < most
room_for answered most test few = grind (arith, common_steps)

pub more_may_come : (answered : ℕ) (asked : Spelled) → is_last answered asked ≡ false → answered < MOST_REQUESTS → answered + 1 < MOST_REQUESTS
more_may_come answered asked still few = room_for answered MOST_REQUESTS (second_false asked.last (suc answered == MOST_REQUESTS) still) few
