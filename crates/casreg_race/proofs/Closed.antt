-- What the record of a closed board tells of a race.
use Rattle.std.proofs.Common.{◌≡◌, ◌+◌, ◌≤◌, ℕ, List, [], Option, Some, refl, sym, ap, subst, ◌∙◌, reverse, arith}
use Rattle.std.specs.Prelude.{slice_get, slice_index_or, All, Ok, Err}
use Rattle.std.proofs.lemmas.Option.{get_or_from_slice_get, slice_get-get_or}
use Rattle.cas_model.proofs.Safety.Parts.{low_at, at_low}
use Rattle.cas_record.specs.declared.mark.Mark.{Mark}
use Rattle.cas_turn.specs.Seen.{Begins}
use Rattle.cas_turn.specs.Sitting.{Sitting, Turning, fresh_seats}
use Rattle.cas_turn.proofs.SeenLemmas.{begins_both}
use Rattle.cas_board_steps.specs.Mine.{mine}
use Rattle.cas_board.specs.Passes.{IsPassOf}
use Rattle.cas_lines.specs.declared.lines.LineFault.{LineFault}
use Rattle.casreg_tasks.specs.Tasks.{AreAllLines, bad_lines, tasks_of}
use Rattle.casreg_tasks.specs.Texts.{WroteFrontOf, WroteText}
use Rattle.casreg_tasks.specs.declared.histories.HistoryFault.{HistoryFault}
use Rattle.casreg_race.specs.declared.race.RaceFault.TheVariants as fault
use Rattle.casreg_race.specs.declared.told.Told.{Told}
use Rattle.casreg_race.specs.Race.{Raced, WroteRace}
use Rattle.casreg_race.specs.Race.WroteRace.{whole, cut_off, not_run}
use Rattle.casreg_race.specs.Runs.{ArePassesOf, AreRaced}
use Rattle.casreg_race.specs.Texts.{IsRaceText}
use Rattle.casreg_race.proofs.Lined.{fresh_at}
use Rattle.casreg_race.proofs.Racing.{ran_later}

module _ {V : Type 0} (board : Turning) (proposers : ℕ) (passes : List (Sitting V Mark)) (are : ArePassesOf board proposers passes) where
  pub each_of : (P : Sitting V Mark → Type 0) → ((pass : Sitting V Mark) → IsPassOf board pass → P pass) → All P passes
  each_of P f k d low = f (slice_index_or passes k d) (are.each k (slice_index_or passes k d) (slice_get-get_or passes k d low)).0

  module _ (marks : List Mark) (own : All (λ pass. mine pass.number marks ≡ mine pass.number pass.seen) passes) (fronts : All (λ pass. Begins pass.seen marks) passes) where
    -- the record has of a caller what its pass has seen of its own
    own_at : (n : ℕ) (pass : Sitting V Mark) → slice_get passes n ≡ Some pass → mine n marks ≡ mine n pass.seen
    own_at n pass at =
        let same : mine pass.number marks ≡ mine pass.number pass.seen = subst (λ (p : Sitting V Mark). mine p.number marks ≡ mine p.number p.seen) (get_or_from_slice_get passes n pass pass at) (own n pass (low_at passes n at)) in
        let number : pass.number ≡ n = (are.each n pass at).1 in
        ap (λ (k : ℕ). mine k marks) (sym number) ∙ same ∙ ap (λ (k : ℕ). mine k pass.seen) number

    -- and goes on with what that has seen
    later : (n : ℕ) (pass : Sitting V Mark) → slice_get passes n ≡ Some pass → Begins pass.seen marks
    later n pass at = subst (λ (p : Sitting V Mark). Begins p.seen marks) (get_or_from_slice_get passes n pass pass at) (fronts n pass (low_at passes n at))

    pass_at : (n : ℕ) → n ≤ proposers → (pass : Sitting V Mark) × (slice_get passes n ≡ Some pass)
    pass_at n low = at_low passes n (let count = are.count in omega (arith, low, count))

    pub raced_whole : (tells : Type 0) (tries : ℕ) (first : List Mark) (lines : List (List ℕ)) (harms harms_then : List ℕ) (answers : List (List Told)) → AreRaced tells tries proposers first lines harms harms_then answers passes
        → Raced tells tries proposers first lines harms harms_then answers marks
    raced_whole tells tries first lines harms harms_then answers raced = record {
      callers = raced.callers;
      begins = (let pass = pass_at 0 (omega arith) in begins_both first pass.0.seen marks (raced.fronts 0 pass.0 pass.1) (later 0 pass.0 pass.1));
      runs = λ n of_caller at.
          let pass = pass_at n (let low = low_at answers n at in let count = raced.callers in omega (arith, low, count)) in
          let run = raced.runs n pass.0 of_caller pass.1 at in
          record {
            own = run.own;
            behind = own_at n pass.0 pass.1 ∙ run.behind;
            counted = run.counted;
            run = ran_later tells pass.0.seen marks (later n pass.0 pass.1) tries n run.run;
            harmed = run.harmed;
          };
    }

    seen_first : (first : List Mark) → passes ≡ fresh_seats board.id (proposers + 1) first → (n : ℕ) (pass : Sitting V Mark) → slice_get passes n ≡ Some pass → pass.seen ≡ first
    seen_first first fresh n pass at = ap (λ (s : Sitting V Mark). s.seen) (fresh_at board.id (proposers + 1) first n pass (subst (λ (l : List (Sitting V Mark)). slice_get l n ≡ Some pass) fresh at))

    pub none_raced : (first : List Mark) → passes ≡ fresh_seats board.id (proposers + 1) first → (n : ℕ) → n ≤ proposers → mine n marks ≡ mine n first
    none_raced first fresh n low =
        let pass = pass_at n low in
        own_at n pass.0 pass.1 ∙ ap (mine n) (seen_first first fresh n pass.0 pass.1)

    begins_first : (first : List Mark) → passes ≡ fresh_seats board.id (proposers + 1) first → Begins first marks
    begins_first first fresh =
        let pass = pass_at 0 (omega arith) in
        subst (λ (l : List Mark). Begins l marks) (seen_first first fresh 0 pass.0 pass.1) (later 0 pass.0 pass.1)

    module _ (tells : Type 0) (tries : ℕ) (first : List Mark) (lines : List (List ℕ)) (harms harms_then : List ℕ) (answers : List (List Told)) (raced : AreRaced tells tries proposers first lines harms harms_then answers passes)
        (input old new : Option (List ℕ)) (all : AreAllLines input lines) (bad : List ℕ) (bad_are : bad ≡ bad_lines proposers 1 lines) where
      pub wrote_whole : WroteText (IsRaceText bad answers (reverse marks)) old new → WroteRace tells tries proposers first input old new harms harms_then marks (Ok tt)
      wrote_whole wrote = whole lines answers all (raced_whole tells tries first lines harms harms_then answers raced) (subst (λ (l : List ℕ). WroteText (IsRaceText l answers (reverse marks)) old new) bad_are wrote)

      pub wrote_front : (why : HistoryFault) → WroteFrontOf (IsRaceText bad answers (reverse marks)) old new → WroteRace tells tries proposers first input old new harms harms_then marks (Err (fault.CutOff why))
      wrote_front why wrote = cut_off why lines answers all (raced_whole tells tries first lines harms harms_then answers raced) (subst (λ (l : List ℕ). WroteFrontOf (IsRaceText l answers (reverse marks)) old new) bad_are wrote)

    pub wrote_nothing : (tells : Type 0) (tries : ℕ) (first : List Mark) (input held : Option (List ℕ)) (harms harms_then : List ℕ) (why : LineFault) → passes ≡ fresh_seats board.id (proposers + 1) first → harms_then ≡ harms → WroteRace tells tries proposers first input held held harms harms_then marks (Err (fault.NotRun why))
    wrote_nothing tells tries first input held harms harms_then why fresh same = not_run why (begins_first first fresh) (none_raced first fresh) same refl
