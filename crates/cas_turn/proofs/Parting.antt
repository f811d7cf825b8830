-- Seats are made, tell one another what they have seen, and are taken in at the end; and what the last of them knows of the value.
use Rattle.std.proofs.Common.{◌≡◌, ℕ, zero, suc, ◌+◌, ◌<◌, ◌≢◌, Bool, true, false, List, [], ◌∷◌, length, set, get_or, refl, sym, ap, ◌∙◌, subst, arith}
use Rattle.std.specs.Prelude.{Option, Some, None, All}
use mathlib.Core.Logic.{dite}
use mathlib.Core.Option.{none, some, some-injective, some-ne-none}
use native.Mathlib.Decide.{ℕ_discrete}
use lib.ListN.{get_elem?}
use Rattle.std.proofs.lemmas.List.Elements.{All-weaker, All-nil, All-cons}
use Rattle.std.proofs.lemmas.List.Sums.{sum_by-cons}
use Rattle.atomic_table.specs.Table.{State, Step, step, keeps, Allows, Splits, Joins, Final, Seen, opening}
use Rattle.atomic_table.proofs.Lists.{set_else}
use Rattle.cas_turn.specs.declared.view.Stage.{Stage}
use Rattle.cas_turn.specs.declared.view.Stage.TheVariants.{Idle, Waiting, Holding}
use Rattle.cas_turn.specs.declared.view.Known.{Known}
use Rattle.cas_turn.specs.declared.view.View.{View}
use Rattle.cas_turn.specs.declared.view.View.TheVariants.{Opens, Tells, Sits, Gathers}
use Rattle.cas_turn.specs.Seen.{Begins, HasSeenOwn, longer_of}
use Rattle.cas_turn.specs.Rule.{Moment, tickets_of, numbers_of, sat, IsHolder, home_of, SeatKnows, IsUngiven, Learned, LearnedFits, Fits, Kept}
use Rattle.cas_turn.specs.Steps.{Sat, known_of, stage_of, newcomer, without_next, next_seat, note_of, told, gathered, settled, HeardNote, them_of}
use Rattle.cas_turn.proofs.Rows.{sum_two}
use Rattle.cas_turn.proofs.SeenLemmas.{begins_nothing, sees_self, sees_begins, sees_longer, learns}
use Rattle.cas_turn.proofs.Steady.{at_one, at_one_here, at_one_else, moved, holder_stays, cut, joined}

module _ {V I : Type 0} (list : V → List I) (owner : I → Option ℕ) (part : V → ℕ → List ℕ) (made_for : V → ℕ) (seats : ℕ) where
  abbrev D : Type 0
  D = View V I

  abbrev St : Type 0
  St = State (Option V) D

  abbrev Rule : St → Type 0
  Rule = Kept list owner part made_for seats

  abbrev F : Moment V → ℕ → D → Type 0
  F = Fits list owner part made_for

  -- a seat keeps what it knows where desks change for numbers that it does not have
  on_desks : (m : Moment V) (desk : ℕ → ℕ) (j : ℕ) (d : D) → ((n : ℕ) → m.desk n ≡ j → desk n ≡ j) → F m j d → F (record m { desk = desk }) j d
  on_desks m desk j (Opens next count seen) keep f = (f.0, λ n le. let g = f.1 n le in record { stands = record { at_desk = keep n g.stands.at_desk; has_seen = g.stands.has_seen }; no_part = g.no_part })
  on_desks m desk j (Tells seen) keep f = f
  on_desks m desk j (Sits k Idle learned) keep f = record { stands = record { at_desk = keep k.number f.stands.at_desk; has_seen = f.stands.has_seen }; own_part = f.own_part; for_seats = f.for_seats; stage_fits = tt; learned_fits = f.learned_fits }
  on_desks m desk j (Sits k (Waiting t) learned) keep f = let q = f.stage_fits in record { stands = record { at_desk = keep k.number f.stands.at_desk; has_seen = f.stands.has_seen }; own_part = f.own_part; for_seats = f.for_seats; stage_fits = record { at_queue = q.at_queue; not_served = q.not_served; was_drawn = q.was_drawn }; learned_fits = f.learned_fits }
  on_desks m desk j (Sits k (Holding t v) learned) keep f = let h = f.stage_fits in let q = h.queues in record { stands = record { at_desk = keep k.number f.stands.at_desk; has_seen = f.stands.has_seen }; own_part = f.own_part; for_seats = f.for_seats; stage_fits = record { queues = record { at_queue = q.at_queue; not_served = q.not_served; was_drawn = q.was_drawn }; is_served = h.is_served; is_out = h.is_out; has_value = h.has_value }; learned_fits = f.learned_fits }
  on_desks m desk j (Gathers them) keep f = All-weaker (λ k. SeatKnows list owner part made_for m.now m.desk j k) (λ k. SeatKnows list owner part made_for m.now desk j k)
      (λ k g. record { stands = record { at_desk = keep k.number g.stands.at_desk; has_seen = g.stands.has_seen }; own_part = g.own_part }) them f

  not_opening : (n count : ℕ) (seen : List I) → IsHolder {V = V} {I = I} (Opens n count seen) → ⊥
  not_opening n count seen h = let k' : Known I = h.0 in let t' : ℕ = h.1 in let v' : V = h.2 in let l' : Option (List I × List I) = h.3 in let e : ◌≡◌ {A = D} (Opens n count seen) (Sits k' (Holding t' v') l') = h.4 in cc

  not_telling : (seen : List I) → IsHolder {V = V} {I = I} (Tells seen) → ⊥
  not_telling seen h = let k' : Known I = h.0 in let t' : ℕ = h.1 in let v' : V = h.2 in let l' : Option (List I × List I) = h.3 in let e : ◌≡◌ {A = D} (Tells seen) (Sits k' (Holding t' v') l') = h.4 in cc

  not_gathering : (them : List (Known I)) → IsHolder {V = V} {I = I} (Gathers them) → ⊥
  not_gathering them h = let k' : Known I = h.0 in let t' : ℕ = h.1 in let v' : V = h.2 in let l' : Option (List I × List I) = h.3 in let e : ◌≡◌ {A = D} (Gathers them) (Sits k' (Holding t' v') l') = h.4 in cc

  not_sitting : (k : Known I) (learned : Option (List I × List I)) → IsHolder {V = V} {I = I} (Sits k Idle learned) → ⊥
  not_sitting k learned h = let k' : Known I = h.0 in let t' : ℕ = h.1 in let v' : V = h.2 in let l' : Option (List I × List I) = h.3 in let e : ◌≡◌ {A = D} (Sits k Idle learned) (Sits k' (Holding t' v') l') = h.4 in cc

  -- the next number is given
  pub numbers : (id next count : ℕ) (seen : List I) → next < seats → Splits Rule id (Opens next count seen) (without_next (Opens next count seen)) (next_seat (Opens next count seen))
  numbers id next count seen room s r at = let m = r.moment in let desk : ℕ → ℕ = at_one m.desk next (length s.views) in
      let f : F m id (Opens next count seen) = r.each_seat id (Opens next count seen) at in
      let g : IsUngiven list owner part made_for m.now m.desk id next seen = f.1 next (omega arith) in
      cut list owner part made_for seats s r id (Opens next count seen) (Opens (next + 1) count seen) (sat (newcomer count seen next) Idle) desk at refl (omega arith) (λ h. absurd (not_opening next count seen h))
      (f.0, λ n le. let u = f.1 n (omega arith) in record { stands = record { at_desk = at_one_else m.desk next (length s.views) n (λ e. omega arith) ∙ u.stands.at_desk; has_seen = u.stands.has_seen }; no_part = u.no_part })
      (record { stands = record { at_desk = at_one_here m.desk next (length s.views); has_seen = g.stands.has_seen }; own_part = g.no_part; for_seats = f.0; stage_fits = tt; learned_fits = tt })
      (λ j d other below there x. on_desks m desk j d (λ n e. at_one_else m.desk next (length s.views) n (λ same. other (sym e ∙ (ap m.desk same ∙ g.stands.at_desk))) ∙ e) x)

  -- a note of what was seen
  pub notes : (id : ℕ) (k : Known I) (stage : Stage V) (learned : Option (List I × List I)) → Splits Rule id (Sits k stage learned) (Sits k stage learned) (note_of (Sits k stage learned))
  notes id k stage learned s r at = let m = r.moment in let f : F m id (Sits k stage learned) = r.each_seat id (Sits k stage learned) at in
      cut list owner part made_for seats s r id (Sits k stage learned) (Sits k stage learned) (Tells k.seen) m.desk at (omega arith) (omega arith) (λ h. h) f (sees_begins owner k.number k.seen (list m.now) f.stands.has_seen) (λ j d other below there x. x)

  -- the seat that will close the turn
  pub begins_gathering : (id : ℕ) (v : D) → Splits Rule id v v (Gathers [])
  begins_gathering id v s r at = let m = r.moment in
      cut list owner part made_for seats s r id v v (Gathers []) m.desk at (omega arith) (omega arith) (λ h. h) (r.each_seat id v at) (All-nil (λ k. SeatKnows list owner part made_for m.now m.desk (length s.views) k)) (λ j d other below there x. x)

  -- a seat takes in a note
  pub tells : (id other : ℕ) (k : Known I) (stage : Stage V) (theirs : List I) → Joins Rule id (sat k stage) other (Tells theirs) (told (sat k stage) (Tells theirs)) (Tells [])
  tells id other k stage theirs s r at apart there = let m = r.moment in let f : F m id (sat k stage) = r.each_seat id (sat k stage) at in
      let both : D = told (sat k stage) (Tells theirs) in
      let noted : get_elem? s.views other ≡ some (Tells theirs) = sym (set_else s.views id other both apart) ∙ there in
      let g : Begins theirs (list m.now) = r.each_seat other (Tells theirs) noted in
      let lessons = learns owner k.number k.seen theirs (list m.now) f.stands.has_seen g in
      joined list owner part made_for seats s r id other (sat k stage) (Tells theirs) both (Tells []) m.desk at apart there refl refl
      (λ h. (record k { seen = longer_of k.seen theirs }, h.1, h.2, Some (k.seen, theirs), (let k' : Known I = h.0 in let t' : ℕ = h.1 in let v' : V = h.2 in let l' : Option (List I × List I) = h.3 in let e : ◌≡◌ {A = D} (sat k stage) (Sits k' (Holding t' v') l') = h.4 in let same : stage ≡ Holding t' v' = cc in ap (λ (x : Stage V). Sits (record k { seen = longer_of k.seen theirs }) x (Some (k.seen, theirs))) same)))
      (λ h. absurd (not_telling theirs h))
      (record { stands = record { at_desk = f.stands.at_desk; has_seen = sees_longer owner k.number k.seen theirs (list m.now) f.stands.has_seen g }; own_part = f.own_part; for_seats = f.for_seats; stage_fits = f.stage_fits; learned_fits = record { longer = refl; from_mine = lessons.0; from_theirs = lessons.1 } })
      (begins_nothing (list m.now))
      (λ j d a b c x. x)

  lesson : (me : Sat V I) (k : Known I) (stage : Stage V) (learned : Option (List I × List I)) (mine theirs : List I) → me.0 ≡ Sits k stage learned → me.0 ≡ Sits (known_of me.0) (stage_of me.0) (Some (mine, theirs))
      → LearnedFits list owner part made_for k.number k.seen learned → Learned list owner part made_for (known_of me.0).number mine theirs (known_of me.0).seen
  lesson me k stage learned mine theirs is e fits =
      let k' : Known I = known_of me.0 in let stage' : Stage V = stage_of me.0 in
      let both : ◌≡◌ {A = D} (Sits k stage learned) (Sits k' stage' (Some (mine, theirs))) = sym is ∙ e in
      let same : learned ≡ Some (mine, theirs) = cc in
      let who : k ≡ k' = cc in
      let fact = subst (LearnedFits list owner part made_for k.number k.seen) same fits in
      subst (λ (x : Known I). Learned list owner part made_for x.number mine theirs x.seen) who fact

  -- a seat knows what the note brought
  pub settles : (slots id : ℕ) (me : Sat V I) (k : Known I) (stage : Stage V) (learned : Option (List I × List I)) → me.0 ≡ Sits k stage learned → Allows Rule slots id me 2 (λ n. n) (settled list owner part made_for (step slots 2 0 0 none) me)
  settles slots id me k stage learned is s r _ at' _ = let m = r.moment in
      let at : get_elem? s.views id ≡ some (Sits k stage learned) = at' ∙ ap some is in
      let f : F m id (Sits k stage learned) = r.each_seat id (Sits k stage learned) at in (
        sat k stage,
        keeps,
        tt,
        moved list owner part made_for seats s r _ _ id (Sits k stage learned) (sat k stage) m at (ap (λ ws. set ws 2 (get_or ws 2 0)) r.words) r.homes refl refl refl
            (λ out. holder_stays list owner part made_for seats s.views id (m.queue m.served) (Sits k stage learned) (sat k stage) at
            (λ h. (k, h.1, h.2, None, (let k' : Known I = h.0 in let t' : ℕ = h.1 in let v' : V = h.2 in let l' : Option (List I × List I) = h.3 in let e : ◌≡◌ {A = D} (Sits k stage learned) (Sits k' (Holding t' v') l') = h.4 in let same : stage ≡ Holding t' v' = cc in ap (λ (x : Stage V). sat k x) same))) (r.holder out))
            (record { stands = f.stands; own_part = f.own_part; for_seats = f.for_seats; stage_fits = f.stage_fits; learned_fits = tt })
            (λ j d other there x. x),
        (ap (λ (v : D). (sat (known_of v) (stage_of v), me.1)) (sym is), λ mine theirs e. lesson me k stage learned mine theirs is e f.learned_fits),
      )

  -- the seat that closes the turn takes in another
  pub gathers : (id other : ℕ) (them : List (Known I)) (k : Known I) → Joins Rule id (Gathers them) other (sat k Idle) (gathered (Gathers them) (sat k Idle)) (Tells [])
  gathers id other them k s r at apart there = let m = r.moment in let desk : ℕ → ℕ = at_one m.desk k.number id in
      let both : D = gathered (Gathers them) (sat k Idle) in
      let seated : get_elem? s.views other ≡ some (sat k Idle) = sym (set_else s.views id other both apart) ∙ there in
      let f : F m other (sat k Idle) = r.each_seat other (sat k Idle) seated in
      let keep : (n : ℕ) → m.desk n ≡ id → desk n ≡ id = λ n e. dite (ℕ_discrete n k.number) (λ same. ap desk same ∙ at_one_here m.desk k.number id) (λ ne. at_one_else m.desk k.number id n ne ∙ e) in
      joined list owner part made_for seats s r id other (Gathers them) (sat k Idle) both (Tells []) desk at apart there refl (omega arith)
      (λ h. absurd (not_gathering them h)) (λ h. absurd (not_sitting k None h))
      (All-cons (λ x. SeatKnows list owner part made_for m.now desk id x) k them (record { stands = record { at_desk = at_one_here m.desk k.number id; has_seen = f.stands.has_seen }; own_part = f.own_part }) (on_desks m desk id (Gathers them) keep (r.each_seat id (Gathers them) at)))
      (begins_nothing (list m.now))
      (λ j d a b c x. on_desks m desk j d (λ n e. at_one_else m.desk k.number id n (λ same. b (sym e ∙ (ap m.desk same ∙ f.stands.at_desk))) ∙ e) x)

  opens_seat : (v : V) → ((n : ℕ) → part v n ≡ []) → made_for v ≡ seats → (j : ℕ) (d : D) → get_elem? (Opens 0 seats (list v) ∷ []) j ≡ some d → F (record { now = v; out = false; drawn = 0; served = 0; queue = λ _. 0; desk = λ _. 0 }) j d
  opens_seat v parts is zero d e = subst (F (record { now = v; out = false; drawn = 0; served = 0; queue = λ _. 0; desk = λ _. 0 }) 0) (some-injective (Opens 0 seats (list v)) d e)
      (is, λ n le. record { stands = record { at_desk = refl; has_seen = sees_self owner n (list v) }; no_part = parts n })
  opens_seat v parts is (suc j) d e = absurd (some-ne-none d (sym e))

  -- a value is under the rule at the start
  pub opens : (v : V) → ((n : ℕ) → part v n ≡ []) → made_for v ≡ seats → Rule (opening (0 ∷ 0 ∷ length (list v) ∷ []) (Some v ∷ []) (Opens 0 seats (list v)))
  opens v parts is = record {
    moment = record { now = v; out = false; drawn = 0; served = 0; queue = λ _. 0; desk = λ _. 0 };
    words = refl;
    homes = refl;
    tickets = (let t = sum_by-cons {X = D} tickets_of (Opens 0 seats (list v)) [] in omega arith);
    numbers = (let t = sum_by-cons {X = D} (numbers_of seats) (Opens 0 seats (list v)) [] in omega arith);
    for_seats = is;
    holder = λ (e : false ≡ true). absurd (cc);
    each_seat = opens_seat v parts is;
  }

  -- with all numbers, the seat that closes the turn knows that the value is at home
  nobody_holds : (s : St) (r : Rule s) (id : ℕ) (them : List (Known I)) → get_elem? s.views id ≡ some (Gathers them) → length them ≡ seats → (out : Bool) → r.moment.out ≡ out → out ≡ false
  nobody_holds s r id them at all false e = refl
  nobody_holds s r id them at all true e = let h = r.holder e in let q : ℕ = r.moment.queue r.moment.served in let x = h.2 in
      let d : D = Sits (x.0) (Holding (x.1) (x.2)) (x.3) in
      let there : get_elem? s.views q ≡ some d = h.1 ∙ ap some (x.4) in
      let other : q ≢ id = λ same. not_gathering them (subst (λ (y : D). IsHolder y) (some-injective d (Gathers them) (sym there ∙ (ap (get_elem? s.views) same ∙ at))) (x.0, x.1, x.2, x.3, refl)) in
      let two = sum_two (numbers_of seats) s.views id q (Gathers them) d other at there in
      let total = r.numbers in absurd (omega arith)

  pub closes : (id : ℕ) (them : List (Known I)) (ws : List ℕ) (xs : List (Option V)) → length them ≡ seats → Final (Seen Rule id (Gathers them)) ws xs
      → (v : V) × (get_elem? xs 0 ≡ some (Some v)) × (made_for v ≡ seats) × All (λ k. HasSeenOwn owner k.number k.seen (list v) × (part v k.number ≡ k.own)) them
  closes id them ws xs all end = let s : St = end.0 in let r : Rule s = end.1.0 in let at : get_elem? s.views id ≡ some (Gathers them) = end.1.1 in let m = r.moment in
      let home : s.homes ≡ some (Some m.now) ∷ [] = r.homes ∙ ap (λ b. home_of b m.now ∷ []) (nobody_holds s r id them at all m.out refl) in (
        m.now,
        end.4 0 (Some m.now) (ap (λ hs. get_elem? hs 0) home),
        r.for_seats,
        All-weaker (λ k. SeatKnows list owner part made_for m.now m.desk id k) (λ k. HasSeenOwn owner k.number k.seen (list m.now) × (part m.now k.number ≡ k.own)) (λ k g. (g.stands.has_seen, g.own_part)) them (r.each_seat id (Gathers them) at),
      )

  -- the same at views that are known by equations
  pub notes_at : (id : ℕ) (v : D) → v ≡ sat (known_of v) (stage_of v) → Splits Rule id v v (note_of v)
  notes_at id v is = subst (λ (x : D). Splits Rule id x x (note_of x)) (sym is) (notes id (known_of v) (stage_of v) None)

  pub tells_at : (id other : ℕ) (v w : D) (theirs : List I) → v ≡ sat (known_of v) (stage_of v) → w ≡ Tells theirs → Joins Rule id v other w (told v w) (Tells [])
  tells_at id other v w theirs is note = subst (λ (x : D × D). Joins Rule id x.0 other x.1 (told x.0 x.1) (Tells [])) (λ i. (sym is i, sym note i)) (tells id other (known_of v) (stage_of v) theirs)

  -- what a seat is once it took in a note
  pub told_is : (me note after : Sat V I) (theirs : List I) → me.0 ≡ sat (known_of me.0) (stage_of me.0) → note ≡ (Tells theirs, []) → after ≡ (told me.0 note.0, me.1)
      → after ≡ (Sits (record (known_of me.0) { seen = longer_of (known_of me.0).seen theirs }) (stage_of me.0) (Some ((known_of me.0).seen, theirs)), me.1)
  told_is me note after theirs is said e = let v : D = me.0 in let w : D = note.0 in let of_note : w ≡ Tells theirs = ap (λ (m : Sat V I). m.0) said in
      e ∙ ap (λ (x : D × D). (told x.0 x.1, me.1)) (λ i. (is i, of_note i))

  -- what the seat then hears
  pub hears : (st : Step (Option V)) (r : ℕ) (me before after : Sat V I) (theirs : List I) → before ≡ (Sits (record (known_of me.0) { seen = longer_of (known_of me.0).seen theirs }) (stage_of me.0) (Some ((known_of me.0).seen, theirs)), me.1)
      → settled list owner part made_for st before r after → HeardNote list owner part made_for theirs me after
  hears st r me before after theirs told tale =
      let tale' = subst (λ (b : Sat V I). settled list owner part made_for st b r after) told tale in
      let fact = tale'.1 (known_of me.0).seen theirs refl in
      record { seat = tale'.0; has_seen = fact.from_mine; begins = fact.from_theirs }

  pub settles_at : (slots id : ℕ) (me before : Sat V I) (theirs : List I) → before ≡ (Sits (record (known_of me.0) { seen = longer_of (known_of me.0).seen theirs }) (stage_of me.0) (Some ((known_of me.0).seen, theirs)), me.1)
      → Allows Rule slots id before 2 (λ n. n) (settled list owner part made_for (step slots 2 0 0 none) before)
  settles_at slots id me before theirs told = settles slots id before (record (known_of me.0) { seen = longer_of (known_of me.0).seen theirs }) (stage_of me.0) (Some ((known_of me.0).seen, theirs)) (ap (λ (x : Sat V I). x.0) told)

  pub numbers_at : (id next count : ℕ) (seen : List I) (v : D) → v ≡ Opens next count seen → next < seats → Splits Rule id v (without_next v) (next_seat v)
  numbers_at id next count seen v is room = subst (λ (x : D). Splits Rule id x (without_next x) (next_seat x)) (sym is) (numbers id next count seen room)

  pub gathers_at : (id other : ℕ) (v w : D) (k : Known I) → v ≡ Gathers (them_of v) → w ≡ sat k Idle → Joins Rule id v other w (gathered v w) (Tells [])
  gathers_at id other v w k is seat = subst (λ (x : D × D). Joins Rule id x.0 other x.1 (gathered x.0 x.1) (Tells [])) (λ i. (sym is i, sym seat i)) (gathers id other (them_of v) k)

  pub closes_at : (id : ℕ) (v : D) (ws : List ℕ) (xs : List (Option V)) → v ≡ Gathers (them_of v) → length (them_of v) ≡ seats → Final (Seen Rule id v) ws xs
      → (u : V) × (get_elem? xs 0 ≡ some (Some u)) × (made_for u ≡ seats) × All (λ k. HasSeenOwn owner k.number k.seen (list u) × (part u k.number ≡ k.own)) (them_of v)
  closes_at id v ws xs is all end = closes id (them_of v) ws xs all (subst (λ (x : D). Final (Seen Rule id x) ws xs) is end)
