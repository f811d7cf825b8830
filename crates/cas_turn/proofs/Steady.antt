-- The rule stays over a step, a cut and a join, from what changes: the seats that take part, and the moment.
use Rattle.std.proofs.Common.{◌≡◌, ℕ, ◌+◌, ◌<◌, ◌≢◌, Bool, true, eqb, cond, List, [], ◌∷◌, ◌++◌, length, set, refl, sym, ap, ◌∙◌, subst, ⊎_elim, arith, eq-eqb, ne_eqb, length-set}
use Rattle.std.specs.Prelude.{Option}
use mathlib.Core.Logic.{dite}
use mathlib.Core.Option.{some, some-injective}
use native.Mathlib.Decide.{ℕ_discrete}
use lib.ListN.{get_elem?}
use Rattle.std.proofs.lemmas.List.Sums.{sum_by_push}
use Rattle.atomic_table.specs.Table.{State}
use Rattle.atomic_table.proofs.Lists.{at_set, set_else, at_longer}
use Rattle.cas_turn.specs.declared.view.Stage.TheVariants.{Idle, Waiting, Holding}
use Rattle.cas_turn.specs.declared.view.View.{View}
use Rattle.cas_turn.specs.declared.view.View.TheVariants.{Opens, Tells, Sits, Gathers}
use Rattle.cas_turn.specs.Rule.{Moment, tickets_of, numbers_of, IsHolder, home_of, StageFits, Fits, words_of, Kept}
use Rattle.cas_turn.proofs.Rows.{at_snoc, at_below, set_there, sum_set}

-- a function, changed at one number
abbrev pub at_one : (ℕ → ℕ) → ℕ → ℕ → ℕ → ℕ
at_one f n x k = cond (eqb k n) x (f k)

pub at_one_here : (f : ℕ → ℕ) (n x : ℕ) → at_one f n x n ≡ x
at_one_here f n x = ap (λ b. cond b x (f n)) (eq-eqb n n refl)

pub at_one_else : (f : ℕ → ℕ) (n x k : ℕ) → k ≢ n → at_one f n x k ≡ f k
at_one_else f n x k other = ap (λ b. cond b x (f k)) (ne_eqb k n other)

module _ {V I : Type 0} (list : V → List I) (owner : I → Option ℕ) (part : V → ℕ → List ℕ) (made_for : V → ℕ) (seats : ℕ) where
  abbrev D : Type 0
  D = View V I

  abbrev St : Type 0
  St = State (Option V) D

  abbrev Rule : St → Type 0
  Rule = Kept list owner part made_for seats

  abbrev F : Moment V → ℕ → D → Type 0
  F = Fits list owner part made_for

  -- a seat that neither gives nor takes keeps what it knows, where the value and the desks stay
  pub on_stages : (m : Moment V) (out : Bool) (drawn served : ℕ) (queue : ℕ → ℕ) (j : ℕ) (d : D)
      → ((t : ℕ) → StageFits list owner part made_for m j (Waiting t) → StageFits list owner part made_for (record { now = m.now; out = out; drawn = drawn; served = served; queue = queue; desk = m.desk }) j (Waiting t))
      → ((t : ℕ) (v : V) → StageFits list owner part made_for m j (Holding t v) → StageFits list owner part made_for (record { now = m.now; out = out; drawn = drawn; served = served; queue = queue; desk = m.desk }) j (Holding t v))
      → F m j d → F (record { now = m.now; out = out; drawn = drawn; served = served; queue = queue; desk = m.desk }) j d
  on_stages m out drawn served queue j (Opens n count seen) waits holds f = f
  on_stages m out drawn served queue j (Tells seen) waits holds f = f
  on_stages m out drawn served queue j (Sits k Idle learned) waits holds f = record { stands = f.stands; own_part = f.own_part; for_seats = f.for_seats; stage_fits = tt; learned_fits = f.learned_fits }
  on_stages m out drawn served queue j (Sits k (Waiting t) learned) waits holds f = record { stands = f.stands; own_part = f.own_part; for_seats = f.for_seats; stage_fits = waits t f.stage_fits; learned_fits = f.learned_fits }
  on_stages m out drawn served queue j (Sits k (Holding t v) learned) waits holds f = record { stands = f.stands; own_part = f.own_part; for_seats = f.for_seats; stage_fits = holds t v f.stage_fits; learned_fits = f.learned_fits }
  on_stages m out drawn served queue j (Gathers them) waits holds f = f

  -- one seat steps
  pub moved : (s : St) (r : Rule s) (ws : List ℕ) (hs : List (mathlib.Core.Option.Option (Option V))) (me : ℕ) (v w : D) (m : Moment V) → get_elem? s.views me ≡ some v
      → ws ≡ words_of list owner part made_for m → hs ≡ home_of m.out m.now ∷ []
      → (tickets_of w + m.served) + r.moment.drawn ≡ (tickets_of v + r.moment.served) + m.drawn
      → numbers_of seats w ≡ numbers_of seats v
      → made_for m.now ≡ made_for r.moment.now
      → (m.out ≡ true → (d : D) × (get_elem? (set s.views me w) (m.queue m.served) ≡ some d) × IsHolder d)
      → F m me w
      → ((j : ℕ) (d : D) → j ≢ me → get_elem? s.views j ≡ some d → F r.moment j d → F m j d)
      → Rule (record { words = ws; homes = hs; views = set s.views me w })
  moved s r ws hs me v w m at words homes tickets numbers still holder mine others = record {
    moment = m;
    words = words;
    homes = homes;
    tickets = (let t = sum_set tickets_of s.views me v w at in let old = r.tickets in omega arith);
    numbers = (let t = sum_set (numbers_of seats) s.views me v w at in let old = r.numbers in omega arith);
    for_seats = still ∙ r.for_seats;
    holder = holder;
    each_seat = λ j d e. ⊎_elim (λ (t : (j ≡ me) × (w ≡ d)). subst (λ (x : ℕ × D). F m x.0 x.1) (λ i. (sym t.0 i, t.1 i)) mine)
        (λ (t : (j ≢ me) × (get_elem? s.views j ≡ some d)). others j d t.0 t.1 (r.each_seat j d t.1)) (at_set s.views me j w d e);
  }

  -- the holder stays where another seat changes, or the seat that changes still holds
  pub holder_stays : (vs : List D) (me q : ℕ) (v w : D) → get_elem? vs me ≡ some v → (IsHolder v → IsHolder w) → (d : D) × (get_elem? vs q ≡ some d) × IsHolder d
      → (d : D) × (get_elem? (set vs me w) q ≡ some d) × IsHolder d
  holder_stays vs me q v w at still h = dite (ℕ_discrete q me)
      (λ (e : q ≡ me). let there : get_elem? vs me ≡ some (h.0) = subst (λ (x : ℕ). get_elem? vs x ≡ some (h.0)) e h.1 in let same : h.0 ≡ v = some-injective (h.0) v (sym there ∙ at) in
      (w, subst (λ (x : ℕ). get_elem? (set vs me w) x ≡ some w) (sym e) (set_there vs me v w at), still (subst (λ (d : D). IsHolder d) same h.2)))
      (λ (other : q ≢ me). (h.0, set_else vs me q w other ∙ h.1, h.2))

  -- a seat is cut in two, and only desks change
  pub cut : (s : St) (r : Rule s) (me : ℕ) (v left right : D) (desk : ℕ → ℕ) → get_elem? s.views me ≡ some v
      → tickets_of left + tickets_of right ≡ tickets_of v
      → numbers_of seats left + numbers_of seats right ≡ numbers_of seats v
      → (IsHolder v → IsHolder left)
      → F (record r.moment { desk = desk }) me left
      → F (record r.moment { desk = desk }) (length s.views) right
      → ((j : ℕ) (d : D) → j ≢ me → j < length s.views → get_elem? s.views j ≡ some d → F r.moment j d → F (record r.moment { desk = desk }) j d)
      → Rule (record { words = s.words; homes = s.homes; views = set s.views me left ++ right ∷ [] })
  cut s r me v left right desk at tickets numbers still mine new others = let front : List D = set s.views me left in let long : length front ≡ length s.views = length-set s.views me left in record {
    moment = record r.moment { desk = desk };
    words = r.words;
    homes = r.homes;
    tickets = (let t = sum_set tickets_of s.views me v left at in let u = sum_by_push tickets_of front right in let old = r.tickets in omega arith);
    numbers = (let t = sum_set (numbers_of seats) s.views me v left at in let u = sum_by_push (numbers_of seats) front right in let old = r.numbers in omega arith);
    for_seats = r.for_seats;
    holder = λ out. let h = holder_stays s.views me (r.moment.queue r.moment.served) v left at still (r.holder out) in (h.0, at_longer front (right ∷ []) (r.moment.queue r.moment.served) (h.0) h.1, h.2);
    each_seat = λ j d x. ⊎_elim
        (λ (t : get_elem? front j ≡ some d). ⊎_elim
        (λ (u : (j ≡ me) × (left ≡ d)). subst (λ (y : ℕ × D). F (record r.moment { desk = desk }) y.0 y.1) (λ i. (sym u.0 i, u.1 i)) mine)
        (λ (u : (j ≢ me) × (get_elem? s.views j ≡ some d)). others j d u.0 (at_below s.views j d u.1) u.1 (r.each_seat j d u.1))
        (at_set s.views me j left d t))
        (λ (t : (j ≡ length front) × (right ≡ d)). subst (λ (y : ℕ × D). F (record r.moment { desk = desk }) y.0 y.1) (λ i. (sym (t.0 ∙ long) i, t.1 i)) new)
        (at_snoc front right d j x);
  }

  -- a seat takes in another, and only desks change
  pub joined : (s : St) (r : Rule s) (me other : ℕ) (v e both spent : D) (desk : ℕ → ℕ) → get_elem? s.views me ≡ some v → (other ≡ me → ⊥) → get_elem? (set s.views me both) other ≡ some e
      → tickets_of both + tickets_of spent ≡ tickets_of v + tickets_of e
      → numbers_of seats both + numbers_of seats spent ≡ numbers_of seats v + numbers_of seats e
      → (IsHolder v → IsHolder both) → (IsHolder e → IsHolder spent)
      → F (record r.moment { desk = desk }) me both
      → F (record r.moment { desk = desk }) other spent
      → ((j : ℕ) (d : D) → j ≢ me → j ≢ other → get_elem? s.views j ≡ some d → F r.moment j d → F (record r.moment { desk = desk }) j d)
      → Rule (record { words = s.words; homes = s.homes; views = set (set s.views me both) other spent })
  joined s r me other v e both spent desk at apart there tickets numbers still still' mine spent_fits others = record {
    moment = record r.moment { desk = desk };
    words = r.words;
    homes = r.homes;
    tickets = (let t = sum_set tickets_of s.views me v both at in let u = sum_set tickets_of (set s.views me both) other e spent there in let old = r.tickets in omega arith);
    numbers = (let t = sum_set (numbers_of seats) s.views me v both at in let u = sum_set (numbers_of seats) (set s.views me both) other e spent there in let old = r.numbers in omega arith);
    for_seats = r.for_seats;
    holder = λ out. holder_stays (set s.views me both) other (r.moment.queue r.moment.served) e spent there still' (holder_stays s.views me (r.moment.queue r.moment.served) v both at still (r.holder out));
    each_seat = λ j d x. ⊎_elim (λ (t : (j ≡ other) × (spent ≡ d)). subst (λ (y : ℕ × D). F (record r.moment { desk = desk }) y.0 y.1) (λ i. (sym t.0 i, t.1 i)) spent_fits)
        (λ (t : (j ≢ other) × (get_elem? (set s.views me both) j ≡ some d)). ⊎_elim
        (λ (u : (j ≡ me) × (both ≡ d)). subst (λ (y : ℕ × D). F (record r.moment { desk = desk }) y.0 y.1) (λ i. (sym u.0 i, u.1 i)) mine)
        (λ (u : (j ≢ me) × (get_elem? s.views j ≡ some d)). others j d u.0 t.0 u.1 (r.each_seat j d u.1))
        (at_set s.views me j both d t.1))
        (at_set (set s.views me both) other j spent d x);
  }
