-- What leads a cluster on to another era, in its log: a proposer that is up again in the next one, and one that enters it.
use Rattle.std.proofs.Common.{◌≡◌, ◌≤◌, ◌<◌, ℕ, suc, List, [], ◌∷◌, None, reverse, refl, sym, ap, subst, ◌∙◌, inl, inr, arith}
use Rattle.std.specs.Prelude.{Contains}
use Rattle.std.proofs.lemmas.List.{reverse-append, reverse-reverse}
use Rattle.cas_proposer.specs.Desk.{DeskView}
use Rattle.cas_round.proofs.Lists.{Has, has, contains}
use Rattle.cas_vault.specs.declared.vault.Vault.{Vault}
use Rattle.cas_record.specs.declared.mark.Mark.{Mark}
use Rattle.cas_record.specs.declared.mark.Mark.TheVariants.{Begun, Proposed, Voted, Acked, Floor, EraEntered, Ended, Harmed, Told}
use Rattle.cas_record.specs.Logs.Happening.{Happening, Entered, marks_of}
use Rattle.cas_record.specs.Logs.Lawful.{Cluster, Lawful}
use Rattle.cas_record.specs.Places.{At, here, past, Stands}
use Rattle.cas_record.proofs.Logs.Eras.{enter_law}
use Rattle.cas_record.proofs.Logs.Lemmas.{part_of}
use Rattle.cas_record.proofs.PlaceLemmas.{newest_or, stands_part}
use Rattle.cas_model.specs.Eras.Course.{EraEntry, entries_in}
use Rattle.cas_model.specs.Parties.{IsVaultTrue, ArePromisesHeld, HaveOneEach}
use Rattle.cas_protocol.specs.Protocol.{Made, GlobalState, IsLeaving, Enters, with_mark}
use Rattle.cas_model.specs.View.{Meaning, View}
use Rattle.cas_model.proofs.Around.{Around, around_more, IsOf}
use Rattle.cas_model.proofs.Calls.Draws.{Lasts}
use Rattle.cas_model.proofs.Calls.Ends.{IsDeskQuiet}
use Rattle.cas_protocol.proofs.Events.{keeps}
use Rattle.cas_model.proofs.Places.{contains_none, has_append}

-- ---- marks and entries
has_reverse : {A : Type 0} (x : A) (xs : List A) → Has x (reverse xs) → Has x xs
has_reverse x [] has_it = has_it
has_reverse {A} x (y ∷ xs) has_it = elim (has_append x (reverse xs) (y ∷ []) (subst (Has x) (reverse-append (y ∷ []) xs) has_it)) [
  | inl before ↦ inr (has_reverse x xs before)
  | inr last ↦ elim last [
    | inl same ↦ inl same
    | inr none ↦ absurd none
  ]
]

has_it : {A : Type 0} {x : A} {older xs : List A} → At x older xs → Has x xs
has_it here = inl refl
has_it (past at) = inr (has_it at)

has_entry : (proposer era : ℕ) (marks : List Mark) → Has (EraEntered proposer era) marks → Has (record { proposer = proposer; era = era }) (entries_in marks)
has_entry proposer era [] none = absurd none
has_entry proposer era (EraEntered p e ∷ marks) (inl same) = inl (ap (λ (m : Mark). entry_at m (record { proposer = p; era = e })) same)
  where
    entry_at : Mark → EraEntry → EraEntry
    entry_at (EraEntered q n) other = record { proposer = q; era = n }
    entry_at mark other = other
has_entry proposer era (EraEntered p e ∷ marks) (inr there) = inr (has_entry proposer era marks there)
has_entry proposer era (Begun caller call key program ∷ marks) (inl same) = absurd (cc same)
has_entry proposer era (Begun caller call key program ∷ marks) (inr there) = has_entry proposer era marks there
has_entry proposer era (Proposed p ∷ marks) (inl same) = absurd (cc same)
has_entry proposer era (Proposed p ∷ marks) (inr there) = has_entry proposer era marks there
has_entry proposer era (Voted acceptor key ballot ∷ marks) (inl same) = absurd (cc same)
has_entry proposer era (Voted acceptor key ballot ∷ marks) (inr there) = has_entry proposer era marks there
has_entry proposer era (Acked a ∷ marks) (inl same) = absurd (cc same)
has_entry proposer era (Acked a ∷ marks) (inr there) = has_entry proposer era marks there
has_entry proposer era (Floor key ballot state ∷ marks) (inl same) = absurd (cc same)
has_entry proposer era (Floor key ballot state ∷ marks) (inr there) = has_entry proposer era marks there
has_entry proposer era (Ended caller call rounds answer ∷ marks) (inl same) = absurd (cc same)
has_entry proposer era (Ended caller call rounds answer ∷ marks) (inr there) = has_entry proposer era marks there
has_entry proposer era (Harmed caller call down ∷ marks) (inl same) = absurd (cc same)
has_entry proposer era (Harmed caller call down ∷ marks) (inr there) = has_entry proposer era marks there
has_entry proposer era (Told asked answer ∷ marks) (inl same) = absurd (cc same)
has_entry proposer era (Told asked answer ∷ marks) (inr there) = has_entry proposer era marks there

-- who is marked so is among the entries
pub entry_there : (marks : List Mark) (proposer era : ℕ) → Stands (EraEntered proposer era) (reverse marks) → Contains (entries_in marks) (record { proposer = proposer; era = era })
entry_there marks proposer era stands = contains _ (entries_in marks) (has_entry proposer era marks (has_reverse (EraEntered proposer era) marks (has_it stands.at)))

-- and who is among them is marked so
marked_entry : (proposer era : ℕ) (marks : List Mark) → Has (record { proposer = proposer; era = era }) (entries_in marks) → Has (EraEntered proposer era) marks
marked_entry proposer era [] none = absurd none
marked_entry proposer era (EraEntered p e ∷ marks) (inl same) = inl (ap (λ (entry : EraEntry). EraEntered entry.proposer entry.era) same)
marked_entry proposer era (EraEntered p e ∷ marks) (inr there) = inr (marked_entry proposer era marks there)
marked_entry proposer era (Begun caller call key program ∷ marks) there = inr (marked_entry proposer era marks there)
marked_entry proposer era (Proposed p ∷ marks) there = inr (marked_entry proposer era marks there)
marked_entry proposer era (Voted acceptor key ballot ∷ marks) there = inr (marked_entry proposer era marks there)
marked_entry proposer era (Acked a ∷ marks) there = inr (marked_entry proposer era marks there)
marked_entry proposer era (Floor key ballot state ∷ marks) there = inr (marked_entry proposer era marks there)
marked_entry proposer era (Ended caller call rounds answer ∷ marks) there = inr (marked_entry proposer era marks there)
marked_entry proposer era (Harmed caller call down ∷ marks) there = inr (marked_entry proposer era marks there)
marked_entry proposer era (Told asked answer ∷ marks) there = inr (marked_entry proposer era marks there)

stands_of : {A : Type 0} {x : A} (xs : List A) → Has x xs → Stands x xs
stands_of [] none = absurd none
stands_of {A} {x} (y ∷ xs) (inl same) = record { older = xs; at = subst (λ (z : A). At z xs (y ∷ xs)) same here }
stands_of (y ∷ xs) (inr there) = let is = stands_of xs there in record { older = is.older; at = past is.at }

pub entry_stands : (marks : List Mark) (proposer era : ℕ) → Contains (entries_in marks) (record { proposer = proposer; era = era }) → Stands (EraEntered proposer era) (reverse marks)
entry_stands marks proposer era among =
    stands_of (reverse marks) (has_reverse (EraEntered proposer era) (reverse marks) (subst (Has (EraEntered proposer era)) (sym (reverse-reverse marks)) (marked_entry proposer era marks (has _ (entries_in marks) among))))

-- ---- nobody is beyond
-- Where a proposer is not marked as in an era, nobody entered the one after it.
pub none_after : (cluster : Cluster) (log : List Happening) (id other era : ℕ) → Lawful cluster log → 0 < era → other ≤ cluster.last_proposer → (Stands (EraEntered other era) (marks_of log) → ⊥) → Stands (Entered id (suc era)) log → ⊥
none_after cluster log id other era lawful some known unmarked stands =
    let may = enter_law cluster lawful stands.at in
    let marked = may.may_leave.all_in (omega (arith, may.next, some)) other known in
    unmarked (stands_part (subst (λ (n : ℕ). Stands (EraEntered other n) (marks_of stands.older)) (omega (arith, may.next)) marked) (part_of stands.at))

-- ---- a proposer is in the next era
abbrev entry_of : Happening → ℕ
entry_of (Entered proposer era) = era
entry_of other = 0

entered_vault : {S V : Type 0} (m : Meaning S V) (log : List Happening) (id era : ℕ) {old new : Vault V} → Lasts m.disks old new → (Stands (Entered id (suc (suc era))) log → ⊥)
    → IsVaultTrue m log id era old → IsVaultTrue m (Entered id (suc era) ∷ log) id (suc era) new
entered_vault m log id era still none was = record {
  past = λ ballot key e drawn own. elim (newest_or drawn) [
    | inl now ↦ absurd (cc now)
    | inr before ↦ still.still_past ballot.counter (was.past ballot key e before own)
  ];
  past_floors = λ key floor has. still.still_past floor.counter (was.past_floors key floor has);
  ages = λ request stands own. elim (newest_or stands) [
    | inl now ↦ absurd (cc now)
    | inr before ↦ still.ages request.age (was.ages request before own)
  ];
  is_in = inr (record { older = log; at = here });
  not_beyond = λ stands. elim (newest_or stands) [
    | inl now ↦ omega (arith, ap entry_of now)
    | inr before ↦ none before
  ];
}

-- one without promise and round works on in the next era
pub quiet_entered : {S V : Type 0} (m : Meaning S V) (cluster : Cluster) (log : List Happening) (all : List Made) (id era : ℕ) (old now : DeskView V) → now.id ≡ old.id → now.cache ≡ [] → now.round ≡ None
    → Lasts m.disks old.vault now.vault → (Stands (Entered id (suc (suc era))) log → ⊥) → old.id ≡ id → id ≤ cluster.last_proposer → IsVaultTrue m log id era old.vault
    → IsDeskQuiet m cluster (Entered id (suc era) ∷ log) all id (suc era) now
quiet_entered m cluster log all id era old now same_id no_promise none still beyond own known vault = record {
  same_id = same_id ∙ own;
  known = known;
  vault = entered_vault m log id era still beyond vault;
  cached = subst (ArePromisesHeld cluster (Entered id (suc era) ∷ log) all id (suc era)) (sym no_promise) (λ key ready h. absurd (contains_none h));
  one_each = subst HaveOneEach (sym no_promise) tt;
  none_open = none;
}

-- the log goes on with that it entered
of_entry : (id era : ℕ) → IsOf id (Entered id era)
of_entry id era = (λ p other same. other (sym same), λ a. tt)

pub entered_around : {S V : Type 0} (m : Meaning S V) (cluster : Cluster) (global : GlobalState) (old : View S V) (id era : ℕ) → IsLeaving cluster global.log id era → Around m cluster global old id → Around m cluster (with_mark global (Entered id (suc era))) old id
entered_around m cluster global old id era leaving was =
    around_more m cluster global.log global.kept global.made old id (Entered id (suc era)) (of_entry id (suc era)) (λ request now. absurd (cc now)) was (keeps cluster was.meets global was.history (Enters id era leaving))
