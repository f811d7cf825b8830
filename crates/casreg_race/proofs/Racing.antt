-- What a caller of a race has run, task by task.
use Rattle.std.specs.Prelude.{IfOk, Result}
use Rattle.std.proofs.Common.{◌≡◌, ◌≤◌, ◌+◌, ℕ, List, [], ◌∷◌, ◌++◌, length, Some, inl, inr, refl, sym, ap, subst, ◌∙◌, append-nil, length-append, arith}
use Rattle.cas_change.specs.declared.program.Clause.{Clause}
use Rattle.cas_record.specs.declared.answer.Answer.{Answer}
use Rattle.cas_record.specs.declared.mark.Mark.{Mark}
use Rattle.cas_record.specs.declared.mark.Mark.TheVariants as mark
use Rattle.cas_record.specs.declared.operator.Asked.{Asked}
use Rattle.cas_record.specs.declared.operator.Asked.TheVariants as ask
use Rattle.cas_record.specs.declared.operator.OpAnswer.{OpAnswer}
use Rattle.cas_record.specs.declared.operator.OpAnswer.TheVariants as op
use Rattle.cas_record.specs.declared.read_answer.ReadAnswer.{ReadAnswer}
use Rattle.cas_model.specs.Exchanges.Step.{told_marks}
use Rattle.cas_turn.specs.Seen.{Begins}
use Rattle.cas_turn.specs.Sitting.{Sitting, Turning}
use Rattle.cas_turn.proofs.SeenLemmas.{begins_both}
use Rattle.cas_board_steps.specs.Calls.Changes.{IsRefusalBehind}
use Rattle.cas_board_steps.specs.Eras.Counting.{EntersEras}
use Rattle.cas_board_steps.specs.Mine.{mine, losses, done_calls, FrontGoesOn}
use Rattle.cas_board_steps.specs.Calls.Open.{NothingIsOpen, rescanned_in}
use Rattle.cas_board_steps.specs.Exchanges.Orders.{IsAgreedIn, IsAskingHarm, IsSilentAtMost, IsTrueProbe}
use Rattle.cas_board_steps.proofs.Eras.Counting.{done_append, risen_by}
use Rattle.cas_board_steps.proofs.Fronts.{goes_on_then}
use Rattle.cas_board.proofs.Losses.{losses_append, counted_then}
use Rattle.cas_board.specs.Changes.{IsCounted, AnswersChange}
use Rattle.cas_board.specs.Changes.AnswersChange.{is_answered, is_not_begun}
use Rattle.cas_board.specs.Looks.{told_by_look}
use Rattle.cas_board.specs.Operations.{IsSilentSince, Operates}
use Rattle.cas_board.specs.Operations as operations
use Rattle.cas_board.specs.declared.probing.Look.{Look}
use Rattle.cas_read.specs.Read.{answer_by, HasReadByLook, IsAnswerSo}
use Rattle.casreg_tasks.specs.declared.tasks.Task.{Task}
use Rattle.casreg_tasks.specs.declared.tasks.Task.TheVariants as task
use Rattle.casreg_race.specs.declared.told.Told.{Told}
use Rattle.casreg_race.specs.declared.told.Told.TheVariants as said
use Rattle.casreg_race.specs.Runs.{asked_by, IsOrderMark, ProbeIsTrue, ReadIsTrue, AnswersOrder, IsReady, ChangeIsAnswered, IsOperated, TaskIsAnswered, CountsOn, IsCountedOn, HasRun, HasRunTask, HasRaced}
use Rattle.casreg_race.specs.Runs as runs
use Rattle.casreg_race.specs.Runs.ChangeIsAnswered.{is_called, is_turned_away}
use Rattle.casreg_race.specs.Runs.TaskIsAnswered.{is_change, is_operated, is_read}
use Rattle.casreg_race.specs.Runs.HasRun.{nothing, one_more}

-- ---- longer records
pub length_begins : {I : Type 0} (seen items : List I) → Begins seen items → length seen ≤ length items
length_begins {I} seen items begins = let whole : length (seen ++ begins.behind) ≡ length items = ap (λ (l : List I). length l) begins.whole in let both = length-append seen begins.behind in omega (arith, whole, both)

-- what is refused before a record is refused before a longer one
refused_longer : (made longer : ℕ) (why : Answer) → made ≤ longer → IsRefusalBehind made why → IsRefusalBehind longer why
refused_longer made longer why more (inl full) = let long = full.1 in inl (full.0, omega (arith, more, long))
refused_longer made longer why more (inr none) = inr none

changed_longer : (made longer tries n : ℕ) (key : List ℕ) (program : List Clause) (answered : Answer) (own : List Mark) → made ≤ longer → ChangeIsAnswered made tries n key program answered own → ChangeIsAnswered longer tries n key program answered own
changed_longer made longer tries n key program answered own more (is_called call rounds between of_call tried) = is_called call rounds between of_call tried
changed_longer made longer tries n key program answered own more (is_turned_away refusal) = is_turned_away (refused_longer made longer answered more refusal)

operated_longer : (made longer tries : ℕ) (asked : Asked) (answered : OpAnswer) (own : List Mark) → made ≤ longer → IsOperated made tries asked answered own → IsOperated longer tries asked answered own
operated_longer made longer tries asked answered own more (runs.is_told before all_such) = runs.is_told before all_such
operated_longer made longer tries asked answered own more (runs.is_not_begun why refusal stopped) = runs.is_not_begun why (refused_longer made longer why more refusal) stopped

module _ (tells : Type 0) (all later : List Mark) (begins : Begins all later) (tries n : ℕ) where
  found_later : {earlier own : List Mark} {answered : OpAnswer} → ProbeIsTrue tells all n earlier own answered → ProbeIsTrue tells later n earlier own answered
  found_later found = record { before = found.before; front = found.front; goes_on = found.goes_on; begins = begins_both found.front all later found.begins begins; made = found.made; silent = found.silent; truly = found.truly }

  read_later : {earlier own : List Mark} {key : List ℕ} {looked : Result Look Answer} → ReadIsTrue tells all n earlier own key looked → ReadIsTrue tells later n earlier own key looked
  read_later read = record { before = read.before; front = read.front; goes_on = read.goes_on; begins = begins_both read.front all later read.begins begins; made = read.made; silent = read.silent; found = read.found; agrees = read.agrees; truly = read.truly }

  answers_later : (earlier own : List Mark) (asked : Asked) (answered : OpAnswer) → AnswersOrder tells all n earlier own asked answered → AnswersOrder tells later n earlier own asked answered
  answers_later earlier own (ask.Join id) answered is = is
  answers_later earlier own (ask.Leave id) answered is = is
  answers_later earlier own (ask.Resize need_prep need_acc) answered is = is
  answers_later earlier own (ask.Collect key) answered is = is
  answers_later earlier own (ask.Probe key) answered is = (is.0, found_later is.1)
  answers_later earlier own (ask.Read key) answered is = absurd is

  answered_later : {earlier : List Mark} {asked : Task} {told : Told} {own : List Mark} → TaskIsAnswered tells all tries n earlier asked told own → TaskIsAnswered tells later tries n earlier asked told own
  answered_later (is_change change) = is_change (changed_longer (length all) (length later) tries n _ _ _ _ (length_begins all later begins) change)
  answered_later (is_operated is operated answers) = is_operated is (operated_longer (length all) (length later) tries _ _ _ (length_begins all later begins) operated) (answers_later _ _ _ _ answers)
  answered_later (is_read operated names read) = is_read (operated_longer (length all) (length later) tries _ _ _ (length_begins all later begins) operated) names (read_later read)

  pub ran_later : {first : List Mark} {counted next : ℕ} {tasks : List Task} {answers : List Told} {marks : List Mark} → HasRun tells all tries n first counted tasks answers marks next → HasRun tells later tries n first counted tasks answers marks next
  ran_later nothing = nothing
  ran_later (one_more before answered counts) = one_more (ran_later before) (answered_later answered) counts

-- ---- losses
-- the mark that tells an answer tells of no loss
told_none : (asked : Asked) (told : OpAnswer) → losses (told_marks asked told) ≡ 0
told_none asked (op.Probed key found) = refl
told_none asked told = refl

-- ---- a probe
-- the front then, and the one before the call
silent_own : {V : Type 0} (old new : Sitting V Mark) (told : OpAnswer) (own : List Mark) → old.number ≡ 0 → FrontGoesOn old.number old.seen new.seen own → IsSilentSince 0 old new told → IsSilentAtMost (length own) told
silent_own {V} old new (op.Probed key found) own operator goes few =
    let made : length (mine 0 new.seen) ≡ length (mine 0 old.seen ++ own) = ap (λ (l : List Mark). length l) (subst (λ (k : ℕ). mine k new.seen ≡ mine k old.seen ++ own) operator goes.own_marks) in
    omega (arith, few, made, length-append (mine 0 old.seen) own)
silent_own old new (op.Joined id era rescanned) own operator goes few = tt
silent_own old new (op.Left id era rescanned) own operator goes few = tt
silent_own old new (op.Resized need_prep need_acc era rescanned) own operator goes few = tt
silent_own old new (op.Refused fault) own operator goes few = tt
silent_own old new (op.Busy era) own operator goes few = tt
silent_own old new (op.Collected key ballot removed kept) own operator goes few = tt
silent_own old new (op.NotEmpty version) own operator goes few = tt
silent_own old new (op.Absent acceptor) own operator goes few = tt
silent_own old new (op.ProposerDown proposer) own operator goes few = tt
silent_own old new (op.Stopped why) own operator goes few = tt

pub found_in : {V : Type 0} (tells : Type 0) (old new : Sitting V Mark) (told : OpAnswer) (own : List Mark) → old.number ≡ 0 → FrontGoesOn old.number old.seen new.seen own → IsSilentSince 0 old new told → (tells → IsTrueProbe old.seen new.seen told)
    → ProbeIsTrue tells new.seen old.number (mine old.number old.seen) own told
found_in tells old new told own operator goes few truly = record {
  before = old.seen;
  front = new.seen;
  goes_on = goes.begins;
  begins = record { behind = []; whole = append-nil new.seen };
  made = refl;
  silent = silent_own old new told own operator goes few;
  truly = truly;
}

-- the same of a read
read_in : {V : Type 0} (tells : Type 0) (old new : Sitting V Mark) (key : List ℕ) (looked : Result Look Answer) (own : List Mark) → old.number ≡ 0 → FrontGoesOn old.number old.seen new.seen own → IsSilentSince 0 old new (told_by_look key looked)
    → (tells → IsTrueProbe old.seen new.seen (told_by_look key looked)) → IfOk looked (λ look. IsAgreedIn tells tells new.seen look.found look.agreement) → (tells → IsAnswerSo old.seen new.seen (answer_by key looked)) → ReadIsTrue tells new.seen old.number (mine old.number old.seen) own key looked
read_in tells old new key looked own operator goes few found agrees truly = record {
  before = old.seen;
  front = new.seen;
  goes_on = goes.begins;
  begins = record { behind = []; whole = append-nil new.seen };
  made = refl;
  silent = silent_own old new (told_by_look key looked) own operator goes few;
  found = found;
  agrees = agrees;
  truly = truly;
}

-- ---- one task
module _ {V : Type 0} (tells : Type 0) (tries harms harms_then : ℕ) (old new : Sitting V Mark) where
  as_asked : (asked : Task) (key : List ℕ) (program : List Clause) (told : Answer) (own : List Mark) → asked ≡ task.Change key program → ChangeIsAnswered (length new.seen) tries old.number key program told own → TaskIsAnswered tells new.seen tries old.number (mine old.number old.seen) asked (said.Change told) own
  as_asked asked key program told own is change = subst (λ (t : Task). TaskIsAnswered tells new.seen tries old.number (mine old.number old.seen) t (said.Change told) own) (sym is) (is_change change)

  change_counts : (asked : Task) (key : List ℕ) (program : List Clause) (told : Answer) (own : List Mark) → asked ≡ task.Change key program → new.own ≡ old.own → IsCountedOn (rescanned_in old.own) asked (said.Change told) own (rescanned_in new.own)
  change_counts asked key program told own is same = subst (λ (t : Task). IsCountedOn (rescanned_in old.own) t (said.Change told) own (rescanned_in new.own)) (sym is) (ap rescanned_in same)

  -- a call for a join or a leave counts
  pub members_count : (asked : Asked) (such : Mark → Type 0) (told : OpAnswer) (own : List Mark) → EntersEras such → Operates asked such harms harms_then old new told → FrontGoesOn old.number old.seen new.seen own → CountsOn (rescanned_in old.own) told own (rescanned_in new.own)
  members_count asked such told own enters (operations.is_told marks front last all_such counted counts) goes =
      let both = counts enters in
      let grown : done_calls (mine old.number new.seen) ≡ done_calls (mine old.number old.seen) + done_calls own = ap done_calls goes.own_marks ∙ done_append (mine old.number old.seen) own in
      (record { no_more = omega (arith, both.0.no_more, grown); each = λ low. (let sum = both.0.each low in omega (arith, sum, grown)) }, both.1)
  members_count asked such told own enters (operations.is_not_begun why refusal stopped counted front counts) goes =
      let kept = counts enters in
      let grown : done_calls (mine old.number new.seen) ≡ done_calls (mine old.number old.seen) + done_calls own = ap done_calls goes.own_marks ∙ done_append (mine old.number old.seen) own in
      let still : done_calls (mine old.number new.seen) ≡ done_calls (mine old.number old.seen) = ap done_calls (front.own_marks ∙ append-nil (mine old.number old.seen)) in
      subst (λ (a : OpAnswer). CountsOn (rescanned_in old.own) a own (rescanned_in new.own)) (sym stopped) (risen_by (let e : rescanned_in new.own + 0 ≡ rescanned_in old.own + done_calls own = omega (arith, kept, grown, still) in e), tt)

  pub change_ran : (asked : Task) (key : List ℕ) (program : List Clause) (told : Answer) → asked ≡ task.Change key program → new.own ≡ old.own → AnswersChange key program tries harms harms_then old new told → HasRunTask tells tries harms harms_then asked (said.Change told) old new
  change_ran asked key program told is same (is_answered call rounds between front of_call counted last tried) = record {
    own = mark.Begun old.number call key program ∷ between ++ mark.Ended old.number call rounds told ∷ [];
    front = front;
    answered = as_asked asked key program told _ is (is_called call rounds between of_call tried);
    counted = subst (λ (k : ℕ). IsCounted k harms harms_then) (sym (losses_append between (mark.Ended old.number call rounds told ∷ []) ∙ (let none : losses between + 0 ≡ losses between = omega arith in none))) counted;
    counts = change_counts asked key program told _ is same;
  }
  change_ran asked key program told is same (is_not_begun refusal counted front) = record { own = []; front = front; answered = as_asked asked key program told [] is (is_turned_away refusal); counted = counted; counts = change_counts asked key program told [] is same }

  pub order_ran : (order : Task) (asked : Asked) (told : OpAnswer) → asked_by order ≡ Some asked → ((own : List Mark) → FrontGoesOn old.number old.seen new.seen own → AnswersOrder tells new.seen old.number (mine old.number old.seen) own asked told) → ((own : List Mark) → FrontGoesOn old.number old.seen new.seen own → IsCountedOn (rescanned_in old.own) order (said.Operator told) own (rescanned_in new.own)) → Operates asked (IsOrderMark tries asked) harms harms_then old new told → HasRunTask tells tries harms harms_then order (said.Operator told) old new
  order_ran order asked told is answers counts (operations.is_told marks front last all_such counted told_count) = record {
    own = marks ++ told_marks asked told;
    front = front;
    answered = is_operated is (runs.is_told marks all_such) (answers (marks ++ told_marks asked told) front);
    counted = subst (λ (k : ℕ). IsCounted k harms harms_then) (sym (losses_append marks (told_marks asked told) ∙ (let none = told_none asked told in let e : losses marks + losses (told_marks asked told) ≡ losses marks = omega (arith, none) in e))) counted;
    counts = counts (marks ++ told_marks asked told) front;
  }
  order_ran order asked told is answers counts (operations.is_not_begun why refusal stopped counted front kept) = record { own = []; front = front; answered = is_operated is (runs.is_not_begun why refusal stopped) (answers [] front); counted = counted; counts = counts [] front }

  module _ (key : List ℕ) (answer : ReadAnswer) (read : HasReadByLook tells key harms harms_then old new answer) (operator : old.number ≡ 0) (truly : tells → IsAnswerSo old.seen new.seen answer) (kept : rescanned_in new.own ≡ rescanned_in old.own) where
    abbrev looked : Result Look Answer
    looked = read.looked

    abbrev told : OpAnswer
    told = told_by_look key looked

    read_is_true : (own : List Mark) → FrontGoesOn old.number old.seen new.seen own → ReadIsTrue tells new.seen old.number (mine old.number old.seen) own key looked
    read_is_true own goes = read_in tells old new key looked own operator goes read.silent read.found read.agrees (λ t. subst (λ (a : ReadAnswer). IsAnswerSo old.seen new.seen a) read.is (truly t))

    as_read : (own : List Mark) → FrontGoesOn old.number old.seen new.seen own → IsOperated (length new.seen) tries (ask.Read key) told own → TaskIsAnswered tells new.seen tries old.number (mine old.number old.seen) (task.Read key) (said.Read answer) own
    as_read own goes operated = subst (λ (a : ReadAnswer). TaskIsAnswered tells new.seen tries old.number (mine old.number old.seen) (task.Read key) (said.Read a) own) (sym read.is) (is_read operated read.names (read_is_true own goes))

    read_operated : Operates (ask.Read key) IsAskingHarm harms harms_then old new told → HasRunTask tells tries harms harms_then (task.Read key) (said.Read answer) old new
    read_operated (operations.is_told marks front last all_such counted told_count) = record {
      own = marks ++ told_marks (ask.Read key) told;
      front = front;
      answered = as_read (marks ++ told_marks (ask.Read key) told) front (runs.is_told marks all_such);
      counted = subst (λ (k : ℕ). IsCounted k harms harms_then) (sym (losses_append marks (told_marks (ask.Read key) told) ∙ (let none = told_none (ask.Read key) told in let e : losses marks + losses (told_marks (ask.Read key) told) ≡ losses marks = omega (arith, none) in e))) counted;
      counts = kept;
    }
    read_operated (operations.is_not_begun why refusal stopped counted front nothing_counted) = record { own = []; front = front; answered = as_read [] front (runs.is_not_begun why refusal stopped); counted = counted; counts = kept }

    pub read_ran : (order : Task) → order ≡ task.Read key → HasRunTask tells tries harms harms_then order (said.Read answer) old new
    read_ran order is = subst (λ (t : Task). HasRunTask tells tries harms harms_then t (said.Read answer) old new) (sym is) (read_operated read.operates)

-- ---- task by task
module _ {V : Type 0} (tells : Type 0) (tries : ℕ) where
  pub raced_none : (harms : ℕ) (board : Turning) (pass : Sitting V Mark) (tasks : List Task) (told : List Told) (room : ℕ) → IsReady board pass tasks told room → HasRaced tells tries harms harms [] told pass pass
  raced_none harms board pass tasks told room ready = record {
    pass = refl;
    free = ready.free;
    own = [];
    front = record { begins = record { behind = []; whole = append-nil pass.seen }; own_marks = sym (append-nil (mine pass.number pass.seen)) };
    run = subst (λ (l : List Told). HasRun tells pass.seen tries pass.number (mine pass.number pass.seen) (rescanned_in pass.own) [] l [] (rescanned_in pass.own)) (sym ready.untold) nothing;
    counted = record { never_falls = omega arith; counted = λ below. omega arith };
  }

  pub raced_more : (harms harms_now harms_then : ℕ) (tasks : List Task) (asked : Task) (told : List Told) (answer : Told) (a b c : Sitting V Mark) → HasRaced tells tries harms harms_now tasks told a b
      → c ≡ record b { seen = c.seen; own = c.own } → NothingIsOpen c.own → HasRunTask tells tries harms_now harms_then asked answer b c → HasRaced tells tries harms harms_then (tasks ++ asked ∷ []) (told ++ answer ∷ []) a c
  raced_more harms harms_now harms_then tasks asked told answer a b c first same free then_ =
      let number : b.number ≡ a.number = ap (λ (s : Sitting V Mark). s.number) first.pass in
      record {
        pass = same ∙ ap (λ (s : Sitting V Mark). record s { seen = c.seen; own = c.own }) first.pass;
        free = free;
        own = first.own ++ then_.own;
        front = goes_on_then a.number a.seen b.seen c.seen first.own then_.own first.front (subst (λ (k : ℕ). FrontGoesOn k b.seen c.seen then_.own) number then_.front);
        run = one_more (ran_later tells b.seen c.seen then_.front.begins tries a.number first.run)
            (subst (λ (l : List Mark). TaskIsAnswered tells c.seen tries a.number l asked answer then_.own) first.front.own_marks (subst (λ (k : ℕ). TaskIsAnswered tells c.seen tries k (mine k b.seen) asked answer then_.own) number then_.answered)) then_.counts;
        counted = subst (λ (k : ℕ). IsCounted k harms harms_then) (sym (losses_append first.own then_.own)) (counted_then (losses first.own) (losses then_.own) harms harms_now harms_then first.counted then_.counted);
      }

  -- the same with what was read and noted
  pub raced_next : (harms harms_now harms_then : ℕ) (all tasks : List Task) (asked : Task) (noted told : List Told) (answer : Told) (a b c : Sitting V Mark) → all ≡ tasks ++ asked ∷ [] → noted ≡ told ++ answer ∷ []
      → HasRaced tells tries harms harms_now tasks told a b → c ≡ record b { seen = c.seen; own = c.own } → NothingIsOpen c.own → HasRunTask tells tries harms_now harms_then asked answer b c → HasRaced tells tries harms harms_then all noted a c
  raced_next harms harms_now harms_then all tasks asked noted told answer a b c read notes first same free then_ =
      subst (λ (l : List Told). HasRaced tells tries harms harms_then all l a c) (sym notes)
      (subst (λ (l : List Task). HasRaced tells tries harms harms_then l (told ++ answer ∷ []) a c) (sym read) (raced_more harms harms_now harms_then tasks asked told answer a b c first same free then_))
