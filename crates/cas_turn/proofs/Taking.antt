-- The steps of a hold keep the rule: a ticket is drawn, the value is taken where the ticket is served, its list is published, and the next ticket is served.
use Rattle.std.proofs.Common.{◌≡◌, ℕ, ◌+◌, ◌%◌, ◌^◌, ◌<◌, ◌≤◌, ◌≢◌, Bool, true, false, List, [], ◌∷◌, ◌++◌, length, set, get_or, refl, sym, ap, ◌∙◌, subst, arith}
use Rattle.std.specs.Prelude.{Option, Some, None}
use mathlib.Core.Logic.{dite}
use mathlib.Core.Option.{none, some, some-injective}
use native.Mathlib.Decide.{ℕ_discrete}
use lib.ListN.{get_elem?}
use Rattle.std.proofs.lemmas.List.Sums.{sum_by-le-sum_by}
use Rattle.std.proofs.lemmas.List.Elements.{All-weaker}
use Rattle.atomic_table.specs.Table.{State, step, keeps, takes, gives, Allows}
use Rattle.atomic_table.proofs.Lists.{one_turn}
use Rattle.cas_turn.specs.declared.view.Stage.{Stage}
use Rattle.cas_turn.specs.declared.view.Stage.TheVariants.{Idle, Waiting, Holding}
use Rattle.cas_turn.specs.declared.view.Known.{Known}
use Rattle.cas_turn.specs.declared.view.View.{View}
use Rattle.cas_turn.specs.declared.view.View.TheVariants.{Opens, Tells, Sits, Gathers}
use Rattle.cas_turn.specs.Seen.{Begins, HasSeenOwn, OnlyOwnedBy, added_to}
use Rattle.cas_turn.specs.Rule.{Moment, tickets_of, numbers_of, stage_weight, sat, IsHolder, home_of, SeatStands, SeatKnows, Fits, words_of, Kept}
use Rattle.cas_turn.specs.Steps.{Sat, known_of, known_from, idle, waiting, holding, ticket_in, IsHolding, Grew, drew, looked, measured, published, left_turn}
use Rattle.cas_turn.proofs.Rows.{set_there, one_more, mod_small}
use Rattle.cas_turn.proofs.SeenLemmas.{begins_grows, sees_self, sees_grown, none_else}
use Rattle.cas_turn.proofs.Steady.{at_one, at_one_here, at_one_else, on_stages, moved, holder_stays}

stage_light : {V : Type 0} (stage : Stage V) → stage_weight stage ≤ 1
stage_light Idle = omega arith
stage_light (Waiting t) = omega arith
stage_light (Holding t v) = omega arith

abbrev inner : {V : Type 0} → List (ℕ × Option V) → Option V
inner [] = None
inner (x ∷ xs) = x.1

same_slot : {V : Type 0} (w u : V) → ◌≡◌ {A = List (ℕ × Option V)} ((0, Some w) ∷ []) ((0, Some u) ∷ []) → w ≡ u
same_slot {V} w u e = let e' : Some w ≡ Some u = ap inner e in cc

module _ {V I : Type 0} where
  -- a seat with a ticket has a number
  light : (n : ℕ) (d : View V I) → tickets_of d ≤ numbers_of n d
  light n (Opens next count seen) = omega arith
  light n (Tells seen) = omega arith
  light n (Sits k stage learned) = stage_light stage
  light n (Gathers them) = omega arith

  not_holding : (k : Known I) (learned : Option (List I × List I)) → IsHolder {V = V} {I = I} (Sits k Idle learned) → ⊥
  not_holding k learned h = let k' : Known I = h.0 in let t' : ℕ = h.1 in let v' : V = h.2 in let l' : Option (List I × List I) = h.3 in let e : Sits k Idle learned ≡ Sits k' (Holding t' v') l' = h.4 in cc

  not_taken : (k : Known I) (t : ℕ) (learned : Option (List I × List I)) → IsHolder {V = V} {I = I} (Sits k (Waiting t) learned) → ⊥
  not_taken k t learned h = let k' : Known I = h.0 in let t' : ℕ = h.1 in let v' : V = h.2 in let l' : Option (List I × List I) = h.3 in let e : Sits k (Waiting t) learned ≡ Sits k' (Holding t' v') l' = h.4 in cc

module _ {V I : Type 0} (list : V → List I) (owner : I → Option ℕ) (part : V → ℕ → List ℕ) (made_for : V → ℕ) (seats : ℕ) where
  abbrev D : Type 0
  D = View V I

  abbrev St : Type 0
  St = State (Option V) D

  abbrev Rule : St → Type 0
  Rule = Kept list owner part made_for seats

  abbrev F : Moment V → ℕ → D → Type 0
  F = Fits list owner part made_for

  -- who holds has a ticket that is drawn and not served
  holder_waits : (s : St) (r : Rule s) → r.moment.out ≡ true → r.moment.served < r.moment.drawn
  holder_waits s r out = let h = r.holder out in let k = h.2 in
      let f : F r.moment (r.moment.queue r.moment.served) (Sits k.0 (Holding k.1 k.2) k.3) = subst (F r.moment (r.moment.queue r.moment.served)) k.4 (r.each_seat (r.moment.queue r.moment.served) (h.0) h.1) in
      let q = f.stage_fits in let d = q.queues.was_drawn in let e = q.is_served in omega arith

  pub draws : (slots id : ℕ) (k : Known I) → Allows Rule slots id (idle k) 0 (λ n. (n + 1) % 2 ^ 64) (drew (step slots 0 1 0 none) (idle k))
  draws slots id k s r _ at _ = let m = r.moment in let queue : ℕ → ℕ = at_one m.queue m.drawn id in
      let m' : Moment V = record { now = m.now; out = m.out; drawn = m.drawn + 1; served = m.served; queue = queue; desk = m.desk } in
      let w : D = sat k (Waiting m.drawn) in
      let f : F m id (sat k Idle) = r.each_seat id (sat k Idle) at in
      let enough = r.tickets in (
        w,
        keeps,
        tt,
        moved list owner part made_for seats s r _ _ id (sat k Idle) w m' at
            (ap (λ ws. set ws 0 ((get_or ws 0 0 + 1) % 2 ^ 64)) r.words ∙ ap (λ (n : ℕ). n ∷ m.served % 2 ^ 64 ∷ length (list m.now) ∷ []) (one_more m.drawn))
            r.homes
            (omega arith)
            refl
            refl
            (λ out. let less = holder_waits s r out in let stays = holder_stays list owner part made_for seats s.views id (m.queue m.served) (sat k Idle) w at (λ h. absurd (not_holding k None h)) (r.holder out) in
            (stays.0, (subst (λ (q : ℕ). get_elem? (set s.views id w) q ≡ some (stays.0)) (sym (at_one_else m.queue m.drawn id m.served (λ e. omega arith))) stays.1), stays.2))
            (record { stands = f.stands; own_part = f.own_part; for_seats = f.for_seats; stage_fits = record { at_queue = at_one_here m.queue m.drawn id; not_served = omega arith; was_drawn = omega arith }; learned_fits = tt })
            (λ j d other there. on_stages list owner part made_for seats m m.out (m.drawn + 1) m.served queue j d
            (λ t q. let less = q.was_drawn in record { at_queue = at_one_else m.queue m.drawn id t (λ e. omega arith) ∙ q.at_queue; not_served = q.not_served; was_drawn = omega arith })
            (λ t v h. let q = h.queues in let less = q.was_drawn in record { queues = record { at_queue = at_one_else m.queue m.drawn id t (λ e. omega arith) ∙ q.at_queue; not_served = q.not_served; was_drawn = omega arith }; is_served = h.is_served; is_out = h.is_out; has_value = h.has_value })),
        record { waits = refl; ticket = ap (λ ws. get_or ws 0 0) r.words },
      )

  -- the ticket whose word is served is the one that is served
  served_now : (s : St) (r : Rule s) (t : ℕ) → seats < 2 ^ 32 → r.moment.served ≤ t → t < r.moment.drawn → r.moment.served % 2 ^ 64 ≡ t % 2 ^ 64 → r.moment.served ≡ t
  served_now s r t few lo hi e = let tickets = r.tickets in let numbers = r.numbers in let less = sum_by-le-sum_by tickets_of (numbers_of seats) s.views (light seats) in one_turn r.moment.served t (2 ^ 64) lo (omega arith) e

  -- where the ticket that is served waits, the value is at home
  at_home : (s : St) (r : Rule s) (id t : ℕ) (k : Known I) → get_elem? s.views id ≡ some (sat k (Waiting t)) → r.moment.queue r.moment.served ≡ id → (out : Bool) → r.moment.out ≡ out → out ≡ false
  at_home s r id t k at here false e = refl
  at_home s r id t k at here true e = let h = r.holder e in
      let there : get_elem? s.views id ≡ some (h.0) = subst (λ (q : ℕ). get_elem? s.views q ≡ some (h.0)) here h.1 in
      let same : h.0 ≡ sat k (Waiting t) = some-injective (h.0) (sat k (Waiting t)) (sym there ∙ at) in
      absurd (not_taken k t None (subst (λ (d : D). IsHolder d) same h.2))

  pub looks : (slots id : ℕ) (k : Known I) (t : ℕ) → seats < 2 ^ 32 → Allows Rule slots id (waiting k t) 1 (λ n. n) (looked list owner part made_for (step slots 1 0 0 none) (waiting k t))
  looks slots id k t few s r _ at _ = let m = r.moment in
      let told : get_or s.words 1 0 ≡ m.served % 2 ^ 64 = ap (λ ws. get_or ws 1 0) r.words in
      let f : F m id (sat k (Waiting t)) = r.each_seat id (sat k (Waiting t)) at in
      let q = f.stage_fits in
      let same_words : set s.words 1 (get_or s.words 1 0) ≡ words_of list owner part made_for m = ap (λ ws. set ws 1 (get_or ws 1 0)) r.words in
      dite (ℕ_discrete (get_or s.words 1 0) (t % 2 ^ 64))
      (λ (yes : get_or s.words 1 0 ≡ t % 2 ^ 64).
      let now : m.served ≡ t = served_now s r t few q.not_served q.was_drawn (sym told ∙ yes) in
      let here : m.queue m.served ≡ id = ap m.queue now ∙ q.at_queue in
      let home : m.out ≡ false = at_home s r id t k at here m.out refl in
      let homes : s.homes ≡ some (Some m.now) ∷ [] = r.homes ∙ ap (λ b. home_of b m.now ∷ []) home in
      let k' : Known I = known_from list owner part made_for k m.now in
      let w : D = sat k' (Holding t m.now) in
      let m' : Moment V = record { now = m.now; out = true; drawn = m.drawn; served = m.served; queue = m.queue; desk = m.desk } in
      let enough = r.tickets in (
        w,
        takes 0 (Some m.now),
        ap (λ hs. get_elem? hs 0) homes,
        moved list owner part made_for seats s r _ _ id (sat k (Waiting t)) w m' at same_words (ap (λ hs. set hs 0 none) homes) refl refl refl
            (λ _. (w, subst (λ (i : ℕ). get_elem? (set s.views id w) i ≡ some w) (sym here) (set_there s.views id (sat k (Waiting t)) w at), (k', t, m.now, None, refl)))
            (record { stands = record { at_desk = f.stands.at_desk; has_seen = sees_self owner k.number (list m.now) }; own_part = refl; for_seats = f.for_seats; stage_fits = record { queues = record { at_queue = q.at_queue; not_served = q.not_served; was_drawn = q.was_drawn }; is_served = sym now; is_out = refl; has_value = refl }; learned_fits = tt })
            (λ j d other there. on_stages list owner part made_for seats m true m.drawn m.served m.queue j d
            (λ t p. record { at_queue = p.at_queue; not_served = p.not_served; was_drawn = p.was_drawn })
            (λ t v h. let p = h.queues in record { queues = record { at_queue = p.at_queue; not_served = p.not_served; was_drawn = p.was_drawn }; is_served = h.is_served; is_out = refl; has_value = h.has_value })),
        (λ _. (m.now, record { holds = refl; has_seen = f.stands.has_seen; own_part = f.own_part; for_seats = f.for_seats }), λ no. absurd (no yes)),
      ))
      (λ (no : get_or s.words 1 0 ≢ t % 2 ^ 64). (
        sat k (Waiting t),
        keeps,
        tt,
        moved list owner part made_for seats s r _ _ id (sat k (Waiting t)) (sat k (Waiting t)) m at same_words r.homes refl refl refl
            (λ out. holder_stays list owner part made_for seats s.views id (m.queue m.served) (sat k (Waiting t)) (sat k (Waiting t)) at (λ h. h) (r.holder out))
            f (λ j d other there x. x),
        (λ yes. absurd (no yes), λ _. refl),
      ))

  pub measures : (slots id : ℕ) (k : Known I) (t : ℕ) (v : V) (inside : Option V) → Allows Rule slots id (holding k t v inside) 2 (λ n. n) (measured list owner part made_for (step slots 2 0 0 none) (holding k t v inside))
  measures slots id k t v inside s r _ at _ = let m = r.moment in
      let f : F m id (sat k (Holding t v)) = r.each_seat id (sat k (Holding t v)) at in let h = f.stage_fits in (
        sat k (Holding t v),
        keeps,
        tt,
        moved list owner part made_for seats s r _ _ id (sat k (Holding t v)) (sat k (Holding t v)) m at (ap (λ ws. set ws 2 (get_or ws 2 0)) r.words) r.homes refl refl refl
            (λ out. holder_stays list owner part made_for seats s.views id (m.queue m.served) (sat k (Holding t v)) (sat k (Holding t v)) at (λ h. h) (r.holder out)) f (λ j d other there x. x),
        (refl, λ u e. ap (λ ws. get_or ws 2 0) r.words ∙ (let same : v ≡ u = cc in ap (λ x. length (list x)) (sym h.has_value ∙ same))),
      )

  -- what another number has seen and owns stays, where the holder's new items and own part are published
  module _ (m : Moment V) (w : V) (mine me : ℕ) (new : List I) (whole : list m.now ++ new ≡ list w) (only : OnlyOwnedBy owner mine new) (parts : (n : ℕ) → n ≢ mine → part w n ≡ part m.now n) (still : made_for w ≡ made_for m.now) (at : m.desk mine ≡ me) where
    elsewhere : (j n : ℕ) → j ≢ me → m.desk n ≡ j → n ≢ mine
    elsewhere j n other here same = other (sym here ∙ (ap m.desk same ∙ at))

    stands_on : (j n : ℕ) (seen : List I) → j ≢ me → SeatStands list owner part made_for m.now m.desk j n seen → SeatStands list owner part made_for w m.desk j n seen
    stands_on j n seen other f = record { at_desk = f.at_desk; has_seen = subst (HasSeenOwn owner n seen) whole (sees_grown owner n seen (list m.now) new f.has_seen (none_else owner mine n (elsewhere j n other f.at_desk) new only)) }

    abbrev grown : Moment V
    grown = record { now = w; out = m.out; drawn = m.drawn; served = m.served; queue = m.queue; desk = m.desk }

    fits_on : (j : ℕ) (d : D) → j ≢ me → m.queue m.served ≡ me → F m j d → F grown j d
    fits_on j (Opens next count seen) other holds f = (still ∙ f.0, λ n le. let g = f.1 n le in record { stands = stands_on j n seen other g.stands; no_part = parts n (elsewhere j n other g.stands.at_desk) ∙ g.no_part })
    fits_on j (Tells seen) other holds f = subst (Begins seen) whole (begins_grows seen (list m.now) new f)
    fits_on j (Sits k Idle learned) other holds f = record { stands = stands_on j k.number k.seen other f.stands; own_part = parts k.number (elsewhere j k.number other f.stands.at_desk) ∙ f.own_part; for_seats = still ∙ f.for_seats; stage_fits = tt; learned_fits = f.learned_fits }
    fits_on j (Sits k (Waiting t) learned) other holds f = let q = f.stage_fits in record { stands = stands_on j k.number k.seen other f.stands; own_part = parts k.number (elsewhere j k.number other f.stands.at_desk) ∙ f.own_part; for_seats = still ∙ f.for_seats; stage_fits = record { at_queue = q.at_queue; not_served = q.not_served; was_drawn = q.was_drawn }; learned_fits = f.learned_fits }
    fits_on j (Sits k (Holding t v) learned) other holds f = let h = f.stage_fits in absurd (other (sym h.queues.at_queue ∙ (ap m.queue h.is_served ∙ holds)))
    fits_on j (Gathers them) other holds f = All-weaker (λ k. SeatKnows list owner part made_for m.now m.desk j k) (λ k. SeatKnows list owner part made_for w m.desk j k)
        (λ k g. record { stands = stands_on j k.number k.seen other g.stands; own_part = parts k.number (elsewhere j k.number other g.stands.at_desk) ∙ g.own_part }) them f

  pub publishes : (slots id : ℕ) (k : Known I) (t : ℕ) (v w : V) (new : List I) (added : ℕ) → list v ++ new ≡ list w → OnlyOwnedBy owner k.number new → ((n : ℕ) → n ≢ k.number → part w n ≡ part v n) → made_for w ≡ made_for v
      → added + length (list v) ≡ length (list w) → length (list w) < 2 ^ 64
      → Allows Rule slots id (holding k t v (Some w)) 2 (λ n. (n + added) % 2 ^ 64) (published list owner part made_for (step slots 2 added 0 none) (holding k t v (Some w)))
  publishes slots id k t v w new added whole only parts still count small s r _ at _ = let m = r.moment in
      let f : F m id (sat k (Holding t v)) = r.each_seat id (sat k (Holding t v)) at in let h = f.stage_fits in let q = h.queues in
      let k' : Known I = known_from list owner part made_for k w in
      let x : D = sat k' (Holding t w) in
      let whole' : list m.now ++ new ≡ list w = subst (λ (u : V). list u ++ new ≡ list w) h.has_value whole in
      let m' : Moment V = record { now = w; out = m.out; drawn = m.drawn; served = m.served; queue = m.queue; desk = m.desk } in
      let here : m.queue m.served ≡ id = ap m.queue (sym h.is_served) ∙ q.at_queue in
      let same : length (list v) ≡ length (list m.now) = ap (λ u. length (list u)) h.has_value in
      let enough = r.tickets in (
        x,
        keeps,
        tt,
        moved list owner part made_for seats s r _ _ id (sat k (Holding t v)) x m' at
            (ap (λ ws. set ws 2 ((get_or ws 2 0 + added) % 2 ^ 64)) r.words ∙ ap (λ (n : ℕ). m.drawn % 2 ^ 64 ∷ m.served % 2 ^ 64 ∷ n ∷ []) (let sum : length (list m.now) + added ≡ length (list w) = omega arith in ap (λ (n : ℕ). n % 2 ^ 64) sum ∙ mod_small (length (list w)) small))
            (r.homes ∙ (ap (λ b. home_of b m.now ∷ []) h.is_out ∙ ap (λ b. home_of b w ∷ []) (sym h.is_out)))
            refl refl
            (still ∙ ap made_for h.has_value)
            (λ _. (x, subst (λ (i : ℕ). get_elem? (set s.views id x) i ≡ some x) (sym here) (set_there s.views id (sat k (Holding t v)) x at), (k', t, w, None, refl)))
            (record { stands = record { at_desk = f.stands.at_desk; has_seen = sees_self owner k.number (list w) }; own_part = refl; for_seats = still ∙ (ap made_for h.has_value ∙ f.for_seats); stage_fits = record { queues = record { at_queue = q.at_queue; not_served = q.not_served; was_drawn = q.was_drawn }; is_served = h.is_served; is_out = h.is_out; has_value = refl }; learned_fits = tt })
            (λ j d other there. fits_on m w k.number id new whole' only (λ n ne. parts n ne ∙ ap (λ u. part u n) h.has_value) (still ∙ ap made_for h.has_value) f.stands.at_desk j d other here),
        (λ u e. let is : w ≡ u = same_slot w u e in (ap (λ y. holding (known_from list owner part made_for k y) t y (Some y)) is, ap made_for (sym is) ∙ (still ∙ (ap made_for h.has_value ∙ f.for_seats)))),
      )

  pub leaves : (slots id : ℕ) (k : Known I) (t : ℕ) (v : V) → Allows Rule slots id (holding k t v (Some v)) 1 (λ n. (n + 1) % 2 ^ 64) (left_turn (step slots 1 1 0 none) (holding k t v (Some v)))
  leaves slots id k t v s r _ at _ = let m = r.moment in
      let f : F m id (sat k (Holding t v)) = r.each_seat id (sat k (Holding t v)) at in let h = f.stage_fits in let q = h.queues in
      let m' : Moment V = record { now = m.now; out = false; drawn = m.drawn; served = m.served + 1; queue = m.queue; desk = m.desk } in
      let here : m.queue m.served ≡ id = ap m.queue (sym h.is_served) ∙ q.at_queue in
      let enough = r.tickets in (
        sat k Idle,
        gives,
        tt,
        moved list owner part made_for seats s r _ _ id (sat k (Holding t v)) (sat k Idle) m' at
            (ap (λ ws. set ws 1 ((get_or ws 1 0 + 1) % 2 ^ 64)) r.words ∙ ap (λ (n : ℕ). m.drawn % 2 ^ 64 ∷ n ∷ length (list m.now) ∷ []) (one_more m.served))
            (ap (λ hs. set hs 0 (some (Some v))) (r.homes ∙ ap (λ b. home_of b m.now ∷ []) h.is_out) ∙ ap (λ u. some (Some u) ∷ []) h.has_value)
            (omega arith) refl refl
            (λ (e : false ≡ true). absurd (cc))
            (record { stands = f.stands; own_part = f.own_part; for_seats = f.for_seats; stage_fits = tt; learned_fits = tt })
            (λ j d other there. on_stages list owner part made_for seats m false m.drawn (m.served + 1) m.queue j d
            (λ u p. let lo = p.not_served in let ne : u ≢ m.served = λ e. other (sym p.at_queue ∙ (ap m.queue e ∙ here)) in record { at_queue = p.at_queue; not_served = omega arith; was_drawn = p.was_drawn })
            (λ u x g. absurd (other (sym g.queues.at_queue ∙ (ap m.queue g.is_served ∙ here))))),
        refl,
      )

  -- the same at a seat that is known by an equation
  pub draws_at : (slots id : ℕ) (me : Sat V I) → me ≡ idle (known_of me.0) → Allows Rule slots id me 0 (λ n. (n + 1) % 2 ^ 64) (drew (step slots 0 1 0 none) me)
  draws_at slots id me is = subst (λ (m : Sat V I). Allows Rule slots id m 0 (λ n. (n + 1) % 2 ^ 64) (drew (step slots 0 1 0 none) m)) (sym is) (draws slots id (known_of me.0))

  pub looks_at : (slots id : ℕ) (me : Sat V I) (k : Known I) (t : ℕ) → me ≡ waiting k t → seats < 2 ^ 32 → Allows Rule slots id me 1 (λ n. n) (looked list owner part made_for (step slots 1 0 0 none) me)
  looks_at slots id me k t is few = subst (λ (m : Sat V I). Allows Rule slots id m 1 (λ n. n) (looked list owner part made_for (step slots 1 0 0 none) m)) (sym is) (looks slots id k t few)

  pub measures_at : (slots id : ℕ) (me : Sat V I) (v : V) (inside : Option V) → IsHolding me v inside → Allows Rule slots id me 2 (λ n. n) (measured list owner part made_for (step slots 2 0 0 none) me)
  measures_at slots id me v inside is = subst (λ (m : Sat V I). Allows Rule slots id m 2 (λ n. n) (measured list owner part made_for (step slots 2 0 0 none) m)) (sym is) (measures slots id (known_of me.0) (ticket_in me) v inside)

  pub publishes_at : (slots id : ℕ) (me : Sat V I) (v w : V) (added : ℕ) → IsHolding me v (Some w) → Grew list owner part made_for (known_of me.0).number v w → added + length (list v) ≡ length (list w) → length (list w) < 2 ^ 64
      → Allows Rule slots id me 2 (λ n. (n + added) % 2 ^ 64) (published list owner part made_for (step slots 2 added 0 none) me)
  publishes_at slots id me v w added is grew count small = subst (λ (m : Sat V I). Allows Rule slots id m 2 (λ n. (n + added) % 2 ^ 64) (published list owner part made_for (step slots 2 added 0 none) m)) (sym is)
      (publishes slots id (known_of me.0) (ticket_in me) v w (added_to (list v) (list w)) added grew.whole grew.owned grew.others grew.for_seats count small)

  pub leaves_at : (slots id : ℕ) (me : Sat V I) (v : V) → IsHolding me v (Some v) → Allows Rule slots id me 1 (λ n. (n + 1) % 2 ^ 64) (left_turn (step slots 1 1 0 none) me)
  leaves_at slots id me v is = subst (λ (m : Sat V I). Allows Rule slots id m 1 (λ n. (n + 1) % 2 ^ 64) (left_turn (step slots 1 1 0 none) m)) (sym is) (leaves slots id (known_of me.0) (ticket_in me) v)

  pub holding_is : (me : Sat V I) (k : Known I) (t : ℕ) (v : V) (inside : Option V) → me ≡ holding k t v inside → IsHolding me v inside
  holding_is me k t v inside is = is ∙ ap (λ (m : Sat V I). holding (known_of m.0) (ticket_in m) v inside) (sym is)
