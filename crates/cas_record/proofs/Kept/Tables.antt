-- Tables by home and ballot: what one mark more adds to them.
use Rattle.std.proofs.Common.{◌≡◌, ℕ, ◌<◌, Bool, true, false, List, [], ◌∷◌, ◌++◌, length, reverse, Some, None, refl, sym, ap, subst, arith, ◌∙◌}
use Rattle.std.specs.Prelude.{Option, not, ◌&&◌, ◌==◌, if◌then◌else◌}
use Rattle.std.specs.Option.{option_or}
use Rattle.std.specs.Cmp.{both_ways}
use Rattle.std.specs.HashMap.{HashMap}
use Rattle.std.proofs.lemmas.List.{length-reverse}
use mathlib.Core.Logic.{inl, inr}
use Rattle.cas_base.proofs.Bools.{left_false, and_left, and_right, both_true, some_is, not_both, false_of_not, not_of_false, not_tells}
use Rattle.cas_ballot.specs.declared.ballot.Ballot.{Ballot}
use Rattle.cas_ballot.specs.Ballot.{zero_ballot}
use Rattle.cas_change.specs.declared.program.Clause.{Clause}
use Rattle.cas_change.specs.declared.state.State.{State}
use Rattle.cas_record.specs.declared.mark.Mark.{Mark}
use Rattle.cas_record.specs.declared.mark.Mark.TheVariants.{Begun, Proposed, Acked, Floor, Voted, EraEntered, Ended, Harmed, Told}
use Rattle.cas_record.specs.declared.mark.Proposal.{Proposal}
use Rattle.cas_record.specs.declared.mark.Acknowledgment.{Acknowledgment}
use Rattle.cas_record.specs.declared.row.Row.{Row}
use Rattle.cas_record.specs.declared.row.Link.{Link}
use Rattle.cas_record.specs.declared.tables.Tables.{Tables}
use Rattle.indexmap.specs.IndexMap.{get}
use Rattle.cas_record.specs.Histories.Chain.{is_key, is_ballot, is_proposal, has_calls, opens_at}
use Rattle.cas_record.specs.Kept.Index.{names, home_of, link_by, link_at, opened_at, begun_at}
use Rattle.cas_record.specs.Kept.Tables.{same_spot, same_call, HasRows, TellsBySpot, IsTablesOf}
use Rattle.cas_record.proofs.Tests.{nat_same, nat_is, key_same, key_is, ballot_same, ballot_is, proposal_tells, proposal_is}
use Rattle.cas_record.proofs.Kept.Homes.{home_cases, home_within, one_home, homeless}
use Rattle.cas_record.proofs.Positions.{read_more}
use Rattle.cas_record.proofs.Kept.Rows.{rows_kept}

-- ---- spots
same_parts : (x y : Ballot) → x.counter ≡ y.counter → x.proposer ≡ y.proposer → x ≡ y
same_parts x y p q =
    let counted : ℕ → Ballot = λ n. record { counter = n; proposer = x.proposer } in
    let proposed : ℕ → Ballot = λ n. record { counter = y.counter; proposer = n } in
    ap counted p ∙ ap proposed q

pub spot_tells : (a b : ℕ × Ballot) → same_spot a b ≡ true → (a.0 ≡ b.0) × (a.1 ≡ b.1)
spot_tells a b e =
    let rest : ((a.1.counter == b.1.counter) && (a.1.proposer == b.1.proposer)) ≡ true = and_right (a.0 == b.0) _ e in
    let counters = nat_same {a = a.1.counter} {b = b.1.counter} (and_left (a.1.counter == b.1.counter) _ rest) in
    let proposers = nat_same {a = a.1.proposer} {b = b.1.proposer} (and_right (a.1.counter == b.1.counter) _ rest) in
    (nat_same {a = a.0} {b = b.0} (and_left (a.0 == b.0) _ e), same_parts a.1 b.1 counters proposers)

pub spot_is : (a b : ℕ × Ballot) → a.0 ≡ b.0 → a.1 ≡ b.1 → same_spot a b ≡ true
spot_is a b e f =
    both_true (a.0 == b.0) _ (nat_is {a = a.0} {b = b.0} e)
    (both_true (a.1.counter == b.1.counter) _ (nat_is {a = a.1.counter} {b = b.1.counter} (ap (λ (x : Ballot). x.counter) f)) (nat_is {a = a.1.proposer} {b = b.1.proposer} (ap (λ (x : Ballot). x.proposer) f)))

pub or_nothing : {V : Type 0} (o : Option V) → option_or o None ≡ o
or_nothing None = refl
or_nothing (Some x) = refl

pub or_if_not : {V : Type 0} (o : Option V) (t : Bool) (x : V) → t ≡ false → option_or o (if t then Some x else None) ≡ o
or_if_not o t x e = ap (λ (b : Bool). option_or o (if b then Some x else None)) e ∙ or_nothing o

module _ {V : Type 0} (of : List ℕ → Ballot → List Mark → Option V) (mark : Mark) (older : List Mark)
    (unnamed : (key : List ℕ) (ballot : Ballot) → home_of key older ≡ None → of key ballot older ≡ None) where
  -- what a table tells of a key, be its home old or new
  told_before : (told : ℕ × Ballot → Option V) → TellsBySpot told of older → (key : List ℕ) (ballot : Ballot) (home : ℕ) → home_of key (mark ∷ older) ≡ Some home → told (home, ballot) ≡ of key ballot older
  told_before told t key ballot home is = elim (home_cases key mark older home is) [
    | inl before ↦ t.held key ballot home before
    | inr now ↦ t.fresh home ballot (omega (arith, now.1.1)) ∙ sym (unnamed key ballot now.0)
  ]

  -- a mark that adds nothing
  pub spot_kept : (told : ℕ × Ballot → Option V) → ((key : List ℕ) (ballot : Ballot) → of key ballot (mark ∷ older) ≡ of key ballot older) → TellsBySpot told of older → TellsBySpot told of (mark ∷ older)
  spot_kept told same t = record {
    held = λ key ballot home is. told_before told t key ballot home is ∙ sym (same key ballot);
    fresh = λ home ballot past. t.fresh home ballot (omega (arith, past));
  }

  -- a mark that adds one value, of the key that it names
  pub spot_added : (told new : ℕ × Ballot → Option V) (home : ℕ) (ballot : Ballot) (value : V) → home < length (mark ∷ older)
      → ((q : ℕ × Ballot) → new q ≡ option_or (told q) (if same_spot (home, ballot) q then Some value else None))
      → ((key : List ℕ) (b : Ballot) (h : ℕ) → home_of key (mark ∷ older) ≡ Some h → of key b (mark ∷ older) ≡ option_or (of key b older) (if same_spot (home, ballot) (h, b) then Some value else None))
      → TellsBySpot told of older → TellsBySpot new of (mark ∷ older)
  spot_added told new home ballot value low adds tells t = record {
    held = λ key b h is. adds (h, b) ∙ ap (λ (o : Option V). option_or o (if same_spot (home, ballot) (h, b) then Some value else None)) (told_before told t key b h is) ∙ sym (tells key b h is);
    fresh = λ h b past.
        let apart : same_spot (home, ballot) (h, b) ≡ false = false_of_not (same_spot (home, ballot) (h, b)) (λ e. let same = (spot_tells (home, ballot) (h, b) e).0 in omega (arith, same, low, past)) in
        adds (h, b) ∙ or_if_not (told (h, b)) (same_spot (home, ballot) (h, b)) value apart ∙ t.fresh h b (omega (arith, past));
  }

-- ---- links
not_proposal : (key : List ℕ) (ballot : Ballot) (p : Proposal) → is_key p.key key ≡ false → is_proposal key ballot p ≡ false
not_proposal key ballot p e = left_false (is_key p.key key) _ e

pub no_link : (key : List ℕ) (ballot : Ballot) (marks : List Mark) → home_of key marks ≡ None → link_at key ballot marks ≡ None
no_link key ballot [] gone = refl
no_link key ballot (Proposed p ∷ older) gone =
    let parts = homeless key (Proposed p) older gone in
    or_if_not (link_at key ballot older) (is_proposal key ballot p) (link_by p older) (not_proposal key ballot p parts.1) ∙ no_link key ballot older parts.0
no_link key ballot (Acked a ∷ older) gone = no_link key ballot older (homeless key (Acked a) older gone).0
no_link key ballot (Floor k f s ∷ older) gone = no_link key ballot older (homeless key (Floor k f s) older gone).0
no_link key ballot (Begun c n k p ∷ older) gone = no_link key ballot older (homeless key (Begun c n k p) older gone).0
no_link key ballot (Voted a k b ∷ older) gone = no_link key ballot older (homeless key (Voted a k b) older gone).0
no_link key ballot (EraEntered p n ∷ older) gone = no_link key ballot older (homeless key (EraEntered p n) older gone).0
no_link key ballot (Ended c n r a ∷ older) gone = no_link key ballot older (homeless key (Ended c n r a) older gone).0
no_link key ballot (Harmed c n d ∷ older) gone = no_link key ballot older (homeless key (Harmed c n d) older gone).0
no_link key ballot (Told a b ∷ older) gone = no_link key ballot older (homeless key (Told a b) older gone).0

-- the test of a proposal is that of its spot
pub proposal_spot : (p : Proposal) (older : List Mark) (home : ℕ) → home_of p.key (Proposed p ∷ older) ≡ Some home → (p.ballot ≡ zero_ballot → ⊥)
    → (key : List ℕ) (ballot : Ballot) (h : ℕ) → home_of key (Proposed p ∷ older) ≡ Some h → is_proposal key ballot p ≡ same_spot (home, p.ballot) (h, ballot)
proposal_spot p older home own drawn key ballot h is = both_ways (is_proposal key ballot p) (same_spot (home, p.ballot) (h, ballot))
    (λ e. let tells = proposal_tells key ballot p e in
    spot_is (home, p.ballot) (h, ballot) (some_is home h (sym own ∙ ap (λ (k : List ℕ). home_of k (Proposed p ∷ older)) tells.same_key ∙ is)) tells.same_ballot)
    (λ e. let same = spot_tells (home, p.ballot) (h, ballot) e in
    proposal_is {key = key} {ballot = ballot} {p = p} (record {
      same_key = one_home p.key key (Proposed p ∷ older) home own (is ∙ ap Some (sym same.0));
      same_ballot = same.1;
      not_zero = λ z. drawn (same.1 ∙ z);
    }))

pub zero_proposal : (p : Proposal) → p.ballot ≡ zero_ballot → (key : List ℕ) (ballot : Ballot) → is_proposal key ballot p ≡ false
zero_proposal p zero key ballot = false_of_not (is_proposal key ballot p) (λ e. let tells = proposal_tells key ballot p e in tells.not_zero (sym tells.same_ballot ∙ zero))

-- ---- opening floors
not_opening : (key : List ℕ) (ballot : Ballot) (mark : Mark) (older : List Mark) → names key mark ≡ false → opens_at key ballot mark older ≡ false
not_opening key ballot (Floor k f s) older e = left_false (is_key k key) _ e
not_opening key ballot (Proposed p) older e = refl
not_opening key ballot (Acked a) older e = refl
not_opening key ballot (Begun c n k p) older e = refl
not_opening key ballot (Voted a k b) older e = refl
not_opening key ballot (EraEntered p n) older e = refl
not_opening key ballot (Ended c n r a) older e = refl
not_opening key ballot (Harmed c n d) older e = refl
not_opening key ballot (Told a b) older e = refl

pub no_opening : (key : List ℕ) (ballot : Ballot) (marks : List Mark) → home_of key marks ≡ None → opened_at key ballot marks ≡ None
no_opening key ballot [] gone = refl
no_opening key ballot (mark ∷ older) gone =
    let parts = homeless key mark older gone in
    or_if_not (opened_at key ballot older) (opens_at key ballot mark older) (length older) (not_opening key ballot mark older parts.1) ∙ no_opening key ballot older parts.0

-- the test of an opening floor is that of its spot
pub opening_spot : (k : List ℕ) (floor : Ballot) (state : State) (older : List Mark) (home : ℕ) → home_of k (Floor k floor state ∷ older) ≡ Some home → has_calls older ≡ false
    → (key : List ℕ) (ballot : Ballot) (h : ℕ) → home_of key (Floor k floor state ∷ older) ≡ Some h → opens_at key ballot (Floor k floor state) older ≡ same_spot (home, floor) (h, ballot)
opening_spot k floor state older home own none key ballot h is = both_ways (opens_at key ballot (Floor k floor state) older) (same_spot (home, floor) (h, ballot))
    (λ e. let same_key = key_same (and_left (is_key k key) _ e) in
    let rest : (is_ballot floor ballot && not (has_calls older)) ≡ true = and_right (is_key k key) _ e in
    spot_is (home, floor) (h, ballot) (some_is home h (sym own ∙ ap (λ (x : List ℕ). home_of x (Floor k floor state ∷ older)) same_key ∙ is)) (ballot_same (and_left (is_ballot floor ballot) _ rest)))
    (λ e. let same = spot_tells (home, floor) (h, ballot) e in
    both_true (is_key k key) _ (key_is (one_home k key (Floor k floor state ∷ older) home own (is ∙ ap Some (sym same.0))))
    (both_true (is_ballot floor ballot) _ (ballot_is same.1) (not_of_false (has_calls older) none)))

pub closed_floor : (k : List ℕ) (floor : Ballot) (state : State) (older : List Mark) → has_calls older ≡ true → (key : List ℕ) (ballot : Ballot) → opens_at key ballot (Floor k floor state) older ≡ false
closed_floor k floor state older some key ballot = false_of_not (opens_at key ballot (Floor k floor state) older) (λ e.
    let rest : (is_ballot floor ballot && not (has_calls older)) ≡ true = and_right (is_key k key) _ e in
    not_both (has_calls older) some (not_tells (has_calls older) (and_right (is_ballot floor ballot) _ rest)))

-- ---- all tables
pub tables_next : (tables : Tables) (marks : List Mark) (mark : Mark) → HasRows tables.rows.items (marks ++ mark ∷ [])
    → TellsBySpot (get same_spot tables.links) link_at (mark ∷ reverse marks)
    → TellsBySpot (get same_spot tables.openings) opened_at (mark ∷ reverse marks)
    → ((caller call : ℕ) → get same_call tables.calls (caller, call) ≡ begun_at caller call (mark ∷ reverse marks))
    → tables.has_calls ≡ has_calls (mark ∷ reverse marks)
    → IsTablesOf tables (marks ++ mark ∷ [])
tables_next tables marks mark rows links openings calls began =
    let more = sym (read_more marks mark) in
    record {
      rows = rows;
      links = subst (λ (ms : List Mark). TellsBySpot (get same_spot tables.links) link_at ms) more links;
      openings = subst (λ (ms : List Mark). TellsBySpot (get same_spot tables.openings) opened_at ms) more openings;
      calls = λ caller call. subst (λ (ms : List Mark). get same_call tables.calls (caller, call) ≡ begun_at caller call ms) more (calls caller call);
      calls_began = subst (λ (ms : List Mark). tables.has_calls ≡ has_calls ms) more began;
    }

-- ---- one mark more, by its kind
module _ (marks : List Mark) where
  -- a mark that names no key and begins no call
  abbrev IsQuiet : Mark → Type 0
  IsQuiet (Begun c n k p) = ⊥
  IsQuiet (Proposed p) = ⊥
  IsQuiet (Acked a) = ⊥
  IsQuiet (Floor k f s) = ⊥
  IsQuiet other = Unit {0}

  pub quiet_by : (mark : Mark) → ((c n : ℕ) (k : List ℕ) (p : List Clause) → mark ≡ Begun c n k p → ⊥) → ((p : Proposal) → mark ≡ Proposed p → ⊥) → ((a : Acknowledgment) → mark ≡ Acked a → ⊥)
      → ((k : List ℕ) (f : Ballot) (s : State) → mark ≡ Floor k f s → ⊥) → IsQuiet mark
  quiet_by (Begun c n k p) not_begun not_proposed not_acked not_floor = not_begun c n k p refl
  quiet_by (Proposed p) not_begun not_proposed not_acked not_floor = not_proposed p refl
  quiet_by (Acked a) not_begun not_proposed not_acked not_floor = not_acked a refl
  quiet_by (Floor k f s) not_begun not_proposed not_acked not_floor = not_floor k f s refl
  quiet_by (Voted a k b) not_begun not_proposed not_acked not_floor = tt
  quiet_by (EraEntered p n) not_begun not_proposed not_acked not_floor = tt
  quiet_by (Ended c n r a) not_begun not_proposed not_acked not_floor = tt
  quiet_by (Harmed c n d) not_begun not_proposed not_acked not_floor = tt
  quiet_by (Told a b) not_begun not_proposed not_acked not_floor = tt

  -- a mark that changes no history and names no key
  kept : (tables : Tables) (mark : Mark) → ((key : List ℕ) → names key mark ≡ false) → ((key : List ℕ) (b : Ballot) → link_at key b (mark ∷ reverse marks) ≡ link_at key b (reverse marks))
      → ((c n : ℕ) → begun_at c n (mark ∷ reverse marks) ≡ begun_at c n (reverse marks)) → has_calls (mark ∷ reverse marks) ≡ has_calls (reverse marks)
      → ((key : List ℕ) (b : Ballot) → opens_at key b mark (reverse marks) ≡ false) → IsTablesOf tables marks → IsTablesOf tables (marks ++ mark ∷ [])
  kept tables mark silent links begun began opens are = tables_next tables marks mark (rows_kept mark marks tables.rows.items silent are.rows)
      (spot_kept link_at mark (reverse marks) (λ k b gone. no_link k b (reverse marks) gone) (get same_spot tables.links) links are.links)
      (spot_kept opened_at mark (reverse marks) (λ k b gone. no_opening k b (reverse marks) gone) (get same_spot tables.openings)
      (λ k b. or_if_not (opened_at k b (reverse marks)) (opens_at k b mark (reverse marks)) (length (reverse marks)) (opens k b)) are.openings)
      (λ c n. are.calls c n ∙ sym (begun c n))
      (are.calls_began ∙ sym began)

  pub quiet_next : (tables : Tables) (mark : Mark) → IsQuiet mark → IsTablesOf tables marks → IsTablesOf tables (marks ++ mark ∷ [])
  quiet_next tables (Begun c n k p) quiet are = absurd quiet
  quiet_next tables (Proposed p) quiet are = absurd quiet
  quiet_next tables (Acked a) quiet are = absurd quiet
  quiet_next tables (Floor k f s) quiet are = absurd quiet
  quiet_next tables (Voted a k b) quiet are = kept tables (Voted a k b) (λ key. refl) (λ key b. refl) (λ c n. refl) refl (λ key b. refl) are
  quiet_next tables (EraEntered p n) quiet are = kept tables (EraEntered p n) (λ key. refl) (λ key b. refl) (λ c n. refl) refl (λ key b. refl) are
  quiet_next tables (Ended c n r a) quiet are = kept tables (Ended c n r a) (λ key. refl) (λ key b. refl) (λ c n. refl) refl (λ key b. refl) are
  quiet_next tables (Harmed c n d) quiet are = kept tables (Harmed c n d) (λ key. refl) (λ key b. refl) (λ c n. refl) refl (λ key b. refl) are
  quiet_next tables (Told a b) quiet are = kept tables (Told a b) (λ key. refl) (λ key b. refl) (λ c n. refl) refl (λ key b. refl) are

  -- openings stay with a mark that is no opening floor
  openings_kept : {S : Type 0} (table : HashMap (ℕ × Ballot) ℕ S) (mark : Mark) → ((key : List ℕ) (b : Ballot) → opens_at key b mark (reverse marks) ≡ false) → TellsBySpot (get same_spot table) opened_at (reverse marks)
      → TellsBySpot (get same_spot table) opened_at (mark ∷ reverse marks)
  openings_kept table mark opens t = spot_kept opened_at mark (reverse marks) (λ k b gone. no_opening k b (reverse marks) gone) (get same_spot table)
      (λ k b. or_if_not (opened_at k b (reverse marks)) (opens_at k b mark (reverse marks)) (length (reverse marks)) (opens k b)) t

  -- links stay with a mark that is no proposal
  links_kept : {S : Type 0} (table : HashMap (ℕ × Ballot) Link S) (mark : Mark) → ((key : List ℕ) (b : Ballot) → link_at key b (mark ∷ reverse marks) ≡ link_at key b (reverse marks)) → TellsBySpot (get same_spot table) link_at (reverse marks)
      → TellsBySpot (get same_spot table) link_at (mark ∷ reverse marks)
  links_kept table mark same t = spot_kept link_at mark (reverse marks) (λ k b gone. no_link k b (reverse marks) gone) (get same_spot table) same t

  module _ (tables new : Tables) (are : IsTablesOf tables marks) where
    pub begun_next : (caller call : ℕ) (key : List ℕ) (program : List Clause) → new.rows.items ≡ tables.rows.items → new.links ≡ tables.links → new.openings ≡ tables.openings
        → ((q : ℕ × ℕ) → get same_call new.calls q ≡ option_or (get same_call tables.calls q) (if same_call (caller, call) q then Some (length marks) else None))
        → new.has_calls ≡ true → IsTablesOf new (marks ++ Begun caller call key program ∷ [])
    begun_next caller call key program rows links openings calls began =
        let mark = Begun caller call key program in
        tables_next new marks mark
        (subst (λ (r : List Row). HasRows r (marks ++ mark ∷ [])) (sym rows) (rows_kept mark marks tables.rows.items (λ k. refl) are.rows))
        (subst (λ t. TellsBySpot (get same_spot t) link_at (mark ∷ reverse marks)) (sym links) (links_kept tables.links mark (λ k b. refl) are.links))
        (subst (λ t. TellsBySpot (get same_spot t) opened_at (mark ∷ reverse marks)) (sym openings) (openings_kept tables.openings mark (λ k b. refl) are.openings))
        (λ c n. calls (c, n) ∙ ap (λ (o : Option ℕ). option_or o (if same_call (caller, call) (c, n) then Some (length marks) else None)) (are.calls c n)
        ∙ ap (λ (x : ℕ). option_or (begun_at c n (reverse marks)) (if same_call (caller, call) (c, n) then Some x else None)) (sym (length-reverse marks)))
        began

    pub acked_next : (a : Acknowledgment) → HasRows new.rows.items (marks ++ Acked a ∷ []) → new.links ≡ tables.links → new.openings ≡ tables.openings → new.calls ≡ tables.calls → new.has_calls ≡ tables.has_calls
        → IsTablesOf new (marks ++ Acked a ∷ [])
    acked_next a rows links openings calls began =
        tables_next new marks (Acked a) rows
        (subst (λ t. TellsBySpot (get same_spot t) link_at (Acked a ∷ reverse marks)) (sym links) (links_kept tables.links (Acked a) (λ k b. refl) are.links))
        (subst (λ t. TellsBySpot (get same_spot t) opened_at (Acked a ∷ reverse marks)) (sym openings) (openings_kept tables.openings (Acked a) (λ k b. refl) are.openings))
        (λ c n. ap (λ t. get same_call t (c, n)) calls ∙ are.calls c n)
        (began ∙ are.calls_began)

    module _ (p : Proposal) (rows : HasRows new.rows.items (marks ++ Proposed p ∷ [])) (openings : new.openings ≡ tables.openings) (calls : new.calls ≡ tables.calls) (began : new.has_calls ≡ tables.has_calls) where
      proposed : TellsBySpot (get same_spot new.links) link_at (Proposed p ∷ reverse marks) → IsTablesOf new (marks ++ Proposed p ∷ [])
      proposed links = tables_next new marks (Proposed p) rows links
          (subst (λ t. TellsBySpot (get same_spot t) opened_at (Proposed p ∷ reverse marks)) (sym openings) (openings_kept tables.openings (Proposed p) (λ k b. refl) are.openings))
          (λ c n. ap (λ t. get same_call t (c, n)) calls ∙ are.calls c n)
          (began ∙ are.calls_began)

      pub proposed_next : (home : ℕ) → home_of p.key (Proposed p ∷ reverse marks) ≡ Some home → (p.ballot ≡ zero_ballot → ⊥)
          → ((q : ℕ × Ballot) → get same_spot new.links q ≡ option_or (get same_spot tables.links q) (if same_spot (home, p.ballot) q then Some (link_by p (reverse marks)) else None))
          → IsTablesOf new (marks ++ Proposed p ∷ [])
      proposed_next home own drawn adds =
          let older = reverse marks in
          proposed (spot_added link_at (Proposed p) older (λ k b gone. no_link k b older gone) (get same_spot tables.links) (get same_spot new.links) home p.ballot (link_by p older)
          (home_within p.key (Proposed p ∷ older) home own) adds
          (λ key b h is. ap (λ (t : Bool). option_or (link_at key b older) (if t then Some (link_by p older) else None)) (proposal_spot p older home own drawn key b h is))
          are.links)

      pub zero_next : p.ballot ≡ zero_ballot → new.links ≡ tables.links → IsTablesOf new (marks ++ Proposed p ∷ [])
      zero_next zero same =
          let older = reverse marks in
          proposed (subst (λ t. TellsBySpot (get same_spot t) link_at (Proposed p ∷ older)) (sym same)
          (links_kept tables.links (Proposed p) (λ k b. or_if_not (link_at k b older) (is_proposal k b p) (link_by p older) (zero_proposal p zero k b)) are.links))

    module _ (k : List ℕ) (floor : Ballot) (state : State) (rows : HasRows new.rows.items (marks ++ Floor k floor state ∷ [])) (links : new.links ≡ tables.links) (calls : new.calls ≡ tables.calls) (began : new.has_calls ≡ tables.has_calls) where
      floored : TellsBySpot (get same_spot new.openings) opened_at (Floor k floor state ∷ reverse marks) → IsTablesOf new (marks ++ Floor k floor state ∷ [])
      floored openings = tables_next new marks (Floor k floor state) rows
          (subst (λ t. TellsBySpot (get same_spot t) link_at (Floor k floor state ∷ reverse marks)) (sym links) (links_kept tables.links (Floor k floor state) (λ k b. refl) are.links))
          openings
          (λ c n. ap (λ t. get same_call t (c, n)) calls ∙ are.calls c n)
          (began ∙ are.calls_began)

      pub opening_next : (home : ℕ) → home_of k (Floor k floor state ∷ reverse marks) ≡ Some home → tables.has_calls ≡ false
          → ((q : ℕ × Ballot) → get same_spot new.openings q ≡ option_or (get same_spot tables.openings q) (if same_spot (home, floor) q then Some (length marks) else None))
          → IsTablesOf new (marks ++ Floor k floor state ∷ [])
      opening_next home own none adds =
          let older = reverse marks in
          let mark = Floor k floor state in
          floored (spot_added opened_at mark older (λ k b gone. no_opening k b older gone) (get same_spot tables.openings) (get same_spot new.openings) home floor (length marks)
          (home_within k (mark ∷ older) home own) adds
          (λ key b h is.
          ap (λ (t : Bool). option_or (opened_at key b older) (if t then Some (length older) else None)) (opening_spot k floor state older home own (sym are.calls_began ∙ none) key b h is)
          ∙ ap (λ (x : ℕ). option_or (opened_at key b older) (if same_spot (home, floor) (h, b) then Some x else None)) (length-reverse marks))
          are.openings)

      pub floor_next : tables.has_calls ≡ true → new.openings ≡ tables.openings → IsTablesOf new (marks ++ Floor k floor state ∷ [])
      floor_next some same = floored (subst (λ t. TellsBySpot (get same_spot t) opened_at (Floor k floor state ∷ reverse marks)) (sym same)
          (openings_kept tables.openings (Floor k floor state) (closed_floor k floor state (reverse marks) (sym are.calls_began ∙ some)) are.openings))
