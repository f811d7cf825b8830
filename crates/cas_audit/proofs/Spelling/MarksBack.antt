-- A mark as it is printed, read again.
use Rattle.std.proofs.Common.{◌≡◌, ℕ, ◌+◌, ◌^◌, ◌<◌, true, false, List, [], ◌∷◌, ◌++◌, length, Ok, refl, sym, ap, ◌∙◌, append-nil, arith}
use Rattle.std.specs.Prelude.{codes, decimal, Result, Err, IfOk}
use Rattle.cas_ballot.specs.Ballot.{ballot_text}
use Rattle.cas_change.specs.Key.{IsKey}
use Rattle.cas_change_text.specs.Printing.{program_text, state_text}
use Rattle.cas_change_text.specs.Words.{Word, words_of}
use Rattle.cas_change_text.proofs.BothWays.{from, clauses_again, state_again}
use Rattle.cas_change_text.proofs.Printed.{IsWord, has_no_blank, IsWord-decimal, u64_of-decimal, IsState-printed}
use Rattle.cas_quorum.specs.declared.fault.PlanFault.TheVariants as fault
use Rattle.cas_record.specs.declared.mark.Mark.{Mark}
use Rattle.cas_record.specs.declared.mark.Mark.TheVariants.{Begun, Proposed, Voted, Acked, Floor, EraEntered, Ended, Harmed, Told}
use Rattle.cas_record.specs.declared.operator.Asked.{Asked}
use Rattle.cas_record.specs.declared.operator.Asked.TheVariants as asked
use Rattle.cas_record.specs.declared.operator.OpAnswer.{OpAnswer}
use Rattle.cas_record.specs.declared.operator.OpAnswer.TheVariants as told
use Rattle.cas_audit.specs.Spelling.Printing.{call_text, numbers_text, full_answer_text, ballots_text, asked_text, told_text, is_told, has_text, mark_text}
use Rattle.cas_audit.specs.Spelling.Ranges.{AskedFits, ToldFits, FinishFits, MarkFits}
use Rattle.cas_audit.specs.Spelling.Reading.{named_at, behind_name, numbered_at, marked_version_at, asked_at, asked_of, finished_at, resized_at, collected_at, not_in, not_at, told_of, told_by, told_at}
use Rattle.cas_audit.specs.Spelling.Reading.{begun_at, proposal_at, acknowledgment_at, voted_at, floor_at, entered_at, ended_at, harmed_at, told_mark_at, mark_of, mark_at, line_mark}
use Rattle.cas_audit.proofs.Spelling.PartsBack.{number_words, call_words, ballot_words, members_words, key_words, acceptor_read, key_read, ballot_read, u8_read, u32_read, call_read, Last}
use Rattle.cas_audit.proofs.Spelling.PartsBack.{last, named, stop_again, answer_last, quorum_list, quorum_read}
use Rattle.cas_audit.proofs.Spelling.TextWords.{word_alone, name, behind, after_blank, after_name}

-- ---- operators
-- a name, and two sizes
sizes_words : (word : Word) (need_prep need_acc : ℕ) → 0 < length word → has_no_blank word ≡ true → need_prep < 2 ^ 32 → need_acc < 2 ^ 32
    → words_of (word ++ 32 ∷ (decimal need_prep ++ codes " " ++ decimal need_acc)) ≡ word ∷ decimal need_prep ∷ decimal need_acc ∷ []
sizes_words word need_prep need_acc some whole fits also =
    named word (decimal need_prep ++ codes " " ++ decimal need_acc) (decimal need_prep ∷ decimal need_acc ∷ []) some whole
    (after_blank (decimal need_prep) (decimal need_acc) (decimal need_prep ∷ []) (decimal need_acc ∷ []) (number_words need_prep (omega (arith, fits))) (number_words need_acc (omega (arith, also))))

-- the words of what was asked, which are read whatever follows them
record IsAsk (a : Asked) : Type 0 where
  pub words : List Word
  pub are : words_of (asked_text a) ≡ words
  pub reads : (at : ℕ) (rest : List Word) → (next : ℕ) × (asked_at (from at (words ++ rest)) ≡ Ok (a, from next rest))

ask_again : (a : Asked) → AskedFits a → IsAsk a
unfolding asked_at asked_of named_at
ask_again (asked.Join id) fits = record {
  words = codes "join" ∷ decimal id ∷ [];
  are = named (codes "join") (decimal id) (decimal id ∷ []) (omega arith) refl (number_words id (omega (arith, fits)));
  reads = λ at rest. (at + 1 + 1, rw (acceptor_read id fits (at + 1) rest) refl);
}
ask_again (asked.Leave id) fits = record {
  words = codes "leave" ∷ decimal id ∷ [];
  are = named (codes "leave") (decimal id) (decimal id ∷ []) (omega arith) refl (number_words id (omega (arith, fits)));
  reads = λ at rest. (at + 1 + 1, rw (acceptor_read id fits (at + 1) rest) refl);
}
ask_again (asked.Collect key) fits = record {
  words = codes "collect" ∷ key ∷ [];
  are = named (codes "collect") key (key ∷ []) (omega arith) refl (key_words key fits);
  reads = λ at rest. (at + 1 + 1, rw (key_read key fits (at + 1) rest) refl);
}
ask_again (asked.Probe key) fits = record {
  words = codes "probe" ∷ key ∷ [];
  are = named (codes "probe") key (key ∷ []) (omega arith) refl (key_words key fits);
  reads = λ at rest. (at + 1 + 1, rw (key_read key fits (at + 1) rest) refl);
}
ask_again (asked.Resize need_prep need_acc) fits = record {
  words = codes "resize" ∷ decimal need_prep ∷ decimal need_acc ∷ [];
  are = sizes_words (codes "resize") need_prep need_acc (omega arith) refl fits.0 fits.1;
  reads = λ at rest. (at + 1 + 1 + 1, rw (u32_read need_prep fits.0 (at + 1) (decimal need_acc ∷ rest), u32_read need_acc fits.1 (at + 1 + 1) rest) refl);
}
ask_again (asked.Read key) fits = record {
  words = codes "read" ∷ key ∷ [];
  are = named (codes "read") key (key ∷ []) (omega arith) refl (key_words key fits);
  reads = λ at rest. (at + 1 + 1, rw (key_read key fits (at + 1) rest) refl);
}

abbrev finish_list : ℕ → ℕ → ℕ → List Word
finish_list id era rescanned = decimal id ∷ codes "era" ∷ decimal era ∷ codes "rescanned" ∷ decimal rescanned ∷ []

finish_words : (word : Word) (id era rescanned : ℕ) → words_of (word ++ codes " " ++ decimal id) ≡ word ∷ decimal id ∷ [] → FinishFits id era rescanned
    → words_of (word ++ codes " " ++ decimal id ++ codes " era " ++ decimal era ++ codes " rescanned " ++ decimal rescanned) ≡ word ∷ finish_list id era rescanned
finish_words word id era rescanned first fits =
    after_name (word ++ codes " " ++ decimal id ++ codes " era " ++ decimal era) (decimal rescanned) (codes "rescanned") (word ∷ decimal id ∷ codes "era" ∷ decimal era ∷ []) (decimal rescanned ∷ [])
    (name (codes "rescanned") (omega arith) refl)
    (after_name (word ++ codes " " ++ decimal id) (decimal era) (codes "era") (word ∷ decimal id ∷ []) (decimal era ∷ []) (name (codes "era") (omega arith) refl) first (number_words era (omega (arith, fits.1))))
    (number_words rescanned (omega (arith, fits.2)))

finish_read : (id era rescanned : ℕ) → FinishFits id era rescanned → (at : ℕ) → finished_at (from at (finish_list id era rescanned)) ≡ Ok ((id, era, rescanned), from (at + 1 + 1 + 1 + 1 + 1) [])
unfolding finished_at numbered_at behind_name
finish_read id era rescanned fits at =
    rw (acceptor_read id fits.0 at (codes "era" ∷ decimal era ∷ codes "rescanned" ∷ decimal rescanned ∷ []), u32_read era fits.1 (at + 1 + 1) (codes "rescanned" ∷ decimal rescanned ∷ []), u32_read rescanned fits.2 (at + 1 + 1 + 1 + 1) []) refl

version_word : (version : ℕ) → version < 2 ^ 64 → IsWord (codes "v" ++ decimal version)
version_word version fits = let digits = IsWord-decimal version fits in record { some = omega arith; whole = digits.whole }

pub told_last : (a : OpAnswer) → is_told a ≡ true → ToldFits a → Last told_at (told_text a) a
unfolding told_at told_by told_of behind_name numbered_at collected_at resized_at not_at not_in marked_version_at
told_last (told.Joined id era rescanned) written fits =
    last told_at (told_text (told.Joined id era rescanned)) (codes "joined" ∷ finish_list id era rescanned) (told.Joined id era rescanned)
    (finish_words (codes "joined") id era rescanned (named (codes "joined") (decimal id) (decimal id ∷ []) (omega arith) refl (number_words id (omega (arith, fits.0)))) fits)
    (λ at. (at + 1 + 1 + 1 + 1 + 1 + 1, rw (finish_read id era rescanned fits (at + 1)) refl))
told_last (told.Left id era rescanned) written fits =
    last told_at (told_text (told.Left id era rescanned)) (codes "left" ∷ finish_list id era rescanned) (told.Left id era rescanned)
    (finish_words (codes "left") id era rescanned (named (codes "left") (decimal id) (decimal id ∷ []) (omega arith) refl (number_words id (omega (arith, fits.0)))) fits)
    (λ at. (at + 1 + 1 + 1 + 1 + 1 + 1, rw (finish_read id era rescanned fits (at + 1)) refl))
told_last (told.Resized need_prep need_acc era rescanned) written fits =
    let counts : List Word = codes "era" ∷ decimal era ∷ codes "rescanned" ∷ decimal rescanned ∷ [] in
    let head : List ℕ = codes "resized " ++ decimal need_prep ++ codes " " ++ decimal need_acc in
    last told_at (told_text (told.Resized need_prep need_acc era rescanned)) (codes "resized" ∷ decimal need_prep ∷ decimal need_acc ∷ counts) (told.Resized need_prep need_acc era rescanned)
    (after_name (head ++ codes " era " ++ decimal era) (decimal rescanned) (codes "rescanned") (codes "resized" ∷ decimal need_prep ∷ decimal need_acc ∷ codes "era" ∷ decimal era ∷ []) (decimal rescanned ∷ [])
    (name (codes "rescanned") (omega arith) refl)
    (after_name head (decimal era) (codes "era") (codes "resized" ∷ decimal need_prep ∷ decimal need_acc ∷ []) (decimal era ∷ []) (name (codes "era") (omega arith) refl)
    (sizes_words (codes "resized") need_prep need_acc (omega arith) refl fits.0 fits.1) (number_words era (omega (arith, fits.2)))) (number_words rescanned (omega (arith, fits.3))))
    (λ at. (
      at + 1 + 1 + 1 + 1 + 1 + 1 + 1,
      rw (u32_read need_prep fits.0 (at + 1) (decimal need_acc ∷ counts), u32_read need_acc fits.1 (at + 1 + 1) counts, u32_read era fits.2 (at + 1 + 1 + 1 + 1) (codes "rescanned" ∷ decimal rescanned ∷ []), u32_read rescanned fits.3 (at + 1 + 1 + 1 + 1 + 1 + 1) []) refl,
    ))
told_last (told.Refused fault.AlreadyIn) written fits = λ at. (at + 1 + 1, refl)
told_last (told.Refused fault.NotIn) written fits = λ at. (at + 1 + 1, refl)
told_last (told.Refused fault.IdUsed) written fits = λ at. (at + 1 + 1, refl)
told_last (told.Refused fault.TooMany) written fits = λ at. (at + 1 + 1, refl)
told_last (told.Refused fault.Last) written fits = λ at. (at + 1, refl)
told_last (told.Refused fault.BadSize) written fits = λ at. (at + 1 + 1, refl)
told_last (told.Refused fault.NotMajority) written fits = λ at. (at + 1 + 1, refl)
told_last (told.Busy era) written fits =
    last told_at (told_text (told.Busy era)) (codes "busy" ∷ decimal era ∷ []) (told.Busy era)
    (named (codes "busy") (decimal era) (decimal era ∷ []) (omega arith) refl (number_words era (omega (arith, fits))))
    (λ at. (at + 1 + 1, rw (u32_read era fits (at + 1) []) refl))
told_last (told.Collected key ballot removed kept) written fits =
    let counts : List Word = codes "removed" ∷ decimal removed ∷ codes "kept" ∷ decimal kept ∷ [] in
    last told_at (told_text (told.Collected key ballot removed kept)) (codes "collected" ∷ key ∷ codes "at" ∷ ballot_text ballot ∷ counts) (told.Collected key ballot removed kept)
    (after_name (codes "collected " ++ key ++ codes " at " ++ ballot_text ballot ++ codes " removed " ++ decimal removed) (decimal kept) (codes "kept")
    (codes "collected" ∷ key ∷ codes "at" ∷ ballot_text ballot ∷ codes "removed" ∷ decimal removed ∷ []) (decimal kept ∷ []) (name (codes "kept") (omega arith) refl)
    (after_name (codes "collected " ++ key ++ codes " at " ++ ballot_text ballot) (decimal removed) (codes "removed") (codes "collected" ∷ key ∷ codes "at" ∷ ballot_text ballot ∷ []) (decimal removed ∷ []) (name (codes "removed") (omega arith) refl)
    (after_name (codes "collected " ++ key) (ballot_text ballot) (codes "at") (codes "collected" ∷ key ∷ []) (ballot_text ballot ∷ []) (name (codes "at") (omega arith) refl)
    (named (codes "collected") key (key ∷ []) (omega arith) refl (key_words key fits.0)) (ballot_words ballot fits.1)) (number_words removed (omega (arith, fits.2)))) (number_words kept (omega (arith, fits.3))))
    (λ at. (
      at + 1 + 1 + 1 + 1 + 1 + 1 + 1 + 1,
      rw (key_read key fits.0 (at + 1) (codes "at" ∷ ballot_text ballot ∷ counts), ballot_read ballot fits.1 (at + 1 + 1 + 1) counts, u32_read removed fits.2 (at + 1 + 1 + 1 + 1 + 1) (codes "kept" ∷ decimal kept ∷ []), u32_read kept fits.3 (at + 1 + 1 + 1 + 1 + 1 + 1 + 1) []) refl,
    ))
told_last (told.NotEmpty version) written fits =
    let digits : List ℕ = codes "v" ++ decimal version in
    last told_at (told_text (told.NotEmpty version)) (codes "not" ∷ codes "empty" ∷ digits ∷ []) (told.NotEmpty version)
    (named (codes "not") (codes "empty " ++ digits) (codes "empty" ∷ digits ∷ []) (omega arith) refl
    (named (codes "empty") digits (digits ∷ []) (omega arith) refl (word_alone digits (version_word version fits))))
    (λ at. (at + 1 + 1 + 1, rw (u64_of-decimal version fits) refl))
told_last (told.Absent acceptor) written fits =
    last told_at (told_text (told.Absent acceptor)) (codes "absent" ∷ decimal acceptor ∷ []) (told.Absent acceptor)
    (named (codes "absent") (decimal acceptor) (decimal acceptor ∷ []) (omega arith) refl (number_words acceptor (omega (arith, fits))))
    (λ at. (at + 1 + 1, rw (acceptor_read acceptor fits (at + 1) []) refl))
told_last (told.ProposerDown proposer) written fits =
    last told_at (told_text (told.ProposerDown proposer)) (codes "proposer" ∷ codes "down" ∷ decimal proposer ∷ []) (told.ProposerDown proposer)
    (named (codes "proposer") (codes "down " ++ decimal proposer) (codes "down" ∷ decimal proposer ∷ []) (omega arith) refl
    (named (codes "down") (decimal proposer) (decimal proposer ∷ []) (omega arith) refl (number_words proposer (omega (arith, fits)))))
    (λ at. (at + 1 + 1 + 1, rw (u8_read proposer fits (at + 1 + 1) []) refl))
told_last (told.Probed key found) written fits = absurd cc
told_last (told.Stopped answer) written fits = λ at.
    let s = stop_again answer written fits in
    let r = s.reads at in
    (r.0, ap (λ (ws : List Word). told_at (from at ws)) s.are ∙ rw (s.own, r.1) refl)

-- ---- marks
-- what stands in front of a key, and a key
keyed : (head key : List ℕ) (words : List Word) → IsKey key → words_of head ≡ words → words_of (head ++ codes " " ++ key) ≡ words ++ key ∷ []
keyed head key words is are = after_blank head key words (key ∷ []) are (key_words key is)

-- a mark's first word, and a call
called : (word : Word) (caller call : ℕ) → words_of word ≡ word ∷ [] → MarkFits (Harmed caller call true) → words_of (word ++ 32 ∷ call_text caller call) ≡ word ∷ call_text caller call ∷ []
called word caller call first fits = behind word (call_text caller call) (word ∷ []) (call_text caller call ∷ []) first (call_words caller call fits)

pub mark_again : (mark : Mark) → has_text mark ≡ true → MarkFits mark → line_mark (mark_text mark) ≡ Ok mark
unfolding mark_at mark_of named_at behind_name begun_at proposal_at acknowledgment_at voted_at floor_at entered_at ended_at harmed_at told_mark_at ballots_text
mark_again (Begun caller call key program) written fits =
    let clauses : List Word = words_of (program_text program) in
    let says = fits.2 in
    let words : words_of (mark_text (Begun caller call key program)) ≡ codes "begun" ∷ call_text caller call ∷ key ∷ clauses =
    after_blank (codes "begun " ++ call_text caller call ++ codes " " ++ key) (program_text program) (codes "begun" ∷ call_text caller call ∷ key ∷ []) clauses
    (keyed (codes "begun " ++ call_text caller call) key (codes "begun" ∷ call_text caller call ∷ []) fits.1 (called (codes "begun") caller call (name (codes "begun") (omega arith) refl) fits.0)) refl in
    ap (λ (ws : List Word). mark_at (from 0 ws)) words
    ∙ rw (call_read caller call fits.0 1 (key ∷ clauses), key_read key fits.1 2 clauses, clauses_again 8 3 clauses program says.0 says.1) refl
mark_again (Proposed p) written fits =
    let quorum : List Word = quorum_list p.era p.prepared_by in
    let head : List ℕ = codes "proposed " ++ call_text p.caller p.call ++ codes " " ++ p.key in
    let ballots : words_of (ballots_text p) ≡ ballot_text p.ballot ∷ codes "read" ∷ ballot_text p.read ∷ quorum =
    after_name (ballot_text p.ballot ++ codes " read " ++ ballot_text p.read ++ codes " era " ++ decimal p.era) (numbers_text p.prepared_by) (codes "by")
    (ballot_text p.ballot ∷ codes "read" ∷ ballot_text p.read ∷ codes "era" ∷ decimal p.era ∷ []) (numbers_text p.prepared_by ∷ []) (name (codes "by") (omega arith) refl)
    (after_name (ballot_text p.ballot ++ codes " read " ++ ballot_text p.read) (decimal p.era) (codes "era") (ballot_text p.ballot ∷ codes "read" ∷ ballot_text p.read ∷ []) (decimal p.era ∷ []) (name (codes "era") (omega arith) refl)
    (after_name (ballot_text p.ballot) (ballot_text p.read) (codes "read") (ballot_text p.ballot ∷ []) (ballot_text p.read ∷ []) (name (codes "read") (omega arith) refl) (ballot_words p.ballot fits.2.0) (ballot_words p.read fits.2.1))
    (number_words p.era (omega (arith, fits.2.2)))) (members_words p.prepared_by fits.2.3) in
    let words : words_of (head ++ codes " " ++ ballots_text p) ≡ codes "proposed" ∷ call_text p.caller p.call ∷ p.key ∷ ballot_text p.ballot ∷ codes "read" ∷ ballot_text p.read ∷ quorum =
    after_blank head (ballots_text p) (codes "proposed" ∷ call_text p.caller p.call ∷ p.key ∷ []) (ballot_text p.ballot ∷ codes "read" ∷ ballot_text p.read ∷ quorum)
    (keyed (codes "proposed " ++ call_text p.caller p.call) p.key (codes "proposed" ∷ call_text p.caller p.call ∷ []) fits.1 (called (codes "proposed") p.caller p.call (name (codes "proposed") (omega arith) refl) fits.0)) ballots in
    ap (λ (ws : List Word). mark_at (from 0 ws)) words
    ∙ rw (call_read p.caller p.call fits.0 1 (p.key ∷ ballot_text p.ballot ∷ codes "read" ∷ ballot_text p.read ∷ quorum), key_read p.key fits.1 2 (ballot_text p.ballot ∷ codes "read" ∷ ballot_text p.read ∷ quorum), ballot_read p.ballot fits.2.0 3 (codes "read" ∷ ballot_text p.read ∷ quorum), ballot_read p.read fits.2.1 5 quorum, quorum_read p.era p.prepared_by fits.2.2 fits.2.3 6) refl
mark_again (Voted acceptor key ballot) written fits =
    let words : words_of (mark_text (Voted acceptor key ballot)) ≡ codes "voted" ∷ decimal acceptor ∷ key ∷ ballot_text ballot ∷ [] =
    after_blank (codes "voted " ++ decimal acceptor ++ codes " " ++ key) (ballot_text ballot) (codes "voted" ∷ decimal acceptor ∷ key ∷ []) (ballot_text ballot ∷ [])
    (keyed (codes "voted " ++ decimal acceptor) key (codes "voted" ∷ decimal acceptor ∷ []) fits.1 (named (codes "voted") (decimal acceptor) (decimal acceptor ∷ []) (omega arith) refl (number_words acceptor (omega (arith, fits.0))))) (ballot_words ballot fits.2) in
    ap (λ (ws : List Word). mark_at (from 0 ws)) words
    ∙ rw (acceptor_read acceptor fits.0 1 (key ∷ ballot_text ballot ∷ []), key_read key fits.1 2 (ballot_text ballot ∷ []), ballot_read ballot fits.2 3 []) refl
mark_again (Acked a) written fits =
    let quorum : List Word = quorum_list a.era a.by in
    let words : words_of (mark_text (Acked a)) ≡ codes "acked" ∷ a.key ∷ ballot_text a.ballot ∷ quorum =
    after_name (codes "acked " ++ a.key ++ codes " " ++ ballot_text a.ballot ++ codes " era " ++ decimal a.era) (numbers_text a.by) (codes "by") (codes "acked" ∷ a.key ∷ ballot_text a.ballot ∷ codes "era" ∷ decimal a.era ∷ []) (numbers_text a.by ∷ []) (name (codes "by") (omega arith) refl)
    (after_name (codes "acked " ++ a.key ++ codes " " ++ ballot_text a.ballot) (decimal a.era) (codes "era") (codes "acked" ∷ a.key ∷ ballot_text a.ballot ∷ []) (decimal a.era ∷ []) (name (codes "era") (omega arith) refl)
    (after_blank (codes "acked " ++ a.key) (ballot_text a.ballot) (codes "acked" ∷ a.key ∷ []) (ballot_text a.ballot ∷ []) (named (codes "acked") a.key (a.key ∷ []) (omega arith) refl (key_words a.key fits.0)) (ballot_words a.ballot fits.1))
    (number_words a.era (omega (arith, fits.2)))) (members_words a.by fits.3) in
    ap (λ (ws : List Word). mark_at (from 0 ws)) words
    ∙ rw (key_read a.key fits.0 1 (ballot_text a.ballot ∷ quorum), ballot_read a.ballot fits.1 2 quorum, quorum_read a.era a.by fits.2 fits.3 3) refl
mark_again (Floor key ballot state) written fits =
    let states : List Word = words_of (state_text state) in
    let words : words_of (mark_text (Floor key ballot state)) ≡ codes "floor" ∷ key ∷ ballot_text ballot ∷ states =
    after_blank (codes "floor " ++ key ++ codes " " ++ ballot_text ballot) (state_text state) (codes "floor" ∷ key ∷ ballot_text ballot ∷ []) states
    (after_blank (codes "floor " ++ key) (ballot_text ballot) (codes "floor" ∷ key ∷ []) (ballot_text ballot ∷ []) (named (codes "floor") key (key ∷ []) (omega arith) refl (key_words key fits.0)) (ballot_words ballot fits.1)) refl in
    let s = state_again states state (IsState-printed state fits.2) 3 [] in
    ap (λ (ws : List Word). mark_at (from 0 ws)) (words ∙ ap (λ (ws : List Word). codes "floor" ∷ key ∷ ballot_text ballot ∷ ws) (sym (append-nil states)))
    ∙ rw (key_read key fits.0 1 (ballot_text ballot ∷ (states ++ [])), ballot_read ballot fits.1 2 (states ++ []), s.1) refl
mark_again (EraEntered proposer number) written fits =
    let words : words_of (mark_text (EraEntered proposer number)) ≡ codes "entered" ∷ decimal proposer ∷ decimal number ∷ [] =
    after_blank (codes "entered " ++ decimal proposer) (decimal number) (codes "entered" ∷ decimal proposer ∷ []) (decimal number ∷ [])
    (named (codes "entered") (decimal proposer) (decimal proposer ∷ []) (omega arith) refl (number_words proposer (omega (arith, fits.0)))) (number_words number (omega (arith, fits.1))) in
    ap (λ (ws : List Word). mark_at (from 0 ws)) words ∙ rw (u8_read proposer fits.0 1 (decimal number ∷ []), u32_read number fits.1 2 []) refl
mark_again (Ended caller call rounds answer) written fits =
    let answers : List Word = words_of (full_answer_text answer) in
    let words : words_of (mark_text (Ended caller call rounds answer)) ≡ codes "ended" ∷ call_text caller call ∷ decimal rounds ∷ answers =
    after_blank (codes "ended " ++ call_text caller call ++ codes " " ++ decimal rounds) (full_answer_text answer) (codes "ended" ∷ call_text caller call ∷ decimal rounds ∷ []) answers
    (after_blank (codes "ended " ++ call_text caller call) (decimal rounds) (codes "ended" ∷ call_text caller call ∷ []) (decimal rounds ∷ []) (called (codes "ended") caller call (name (codes "ended") (omega arith) refl) fits.0) (number_words rounds (omega (arith, fits.1)))) refl in
    let a = answer_last answer fits.2 3 in
    ap (λ (ws : List Word). mark_at (from 0 ws)) words ∙ rw (call_read caller call fits.0 1 (decimal rounds ∷ answers), u32_read rounds fits.1 2 answers, a.1) refl
mark_again (Harmed caller call false) written fits =
    let words : words_of (mark_text (Harmed caller call false)) ≡ codes "harmed" ∷ call_text caller call ∷ codes "fate" ∷ [] =
    behind (codes "harmed " ++ call_text caller call) (codes "fate") (codes "harmed" ∷ call_text caller call ∷ []) (codes "fate" ∷ []) (called (codes "harmed") caller call (name (codes "harmed") (omega arith) refl) fits) (name (codes "fate") (omega arith) refl) in
    ap (λ (ws : List Word). mark_at (from 0 ws)) words ∙ rw (call_read caller call fits 1 (codes "fate" ∷ [])) refl
mark_again (Harmed caller call true) written fits =
    let words : words_of (mark_text (Harmed caller call true)) ≡ codes "harmed" ∷ call_text caller call ∷ codes "down" ∷ [] =
    behind (codes "harmed " ++ call_text caller call) (codes "down") (codes "harmed" ∷ call_text caller call ∷ []) (codes "down" ∷ []) (called (codes "harmed") caller call (name (codes "harmed") (omega arith) refl) fits) (name (codes "down") (omega arith) refl) in
    ap (λ (ws : List Word). mark_at (from 0 ws)) words ∙ rw (call_read caller call fits 1 (codes "down" ∷ [])) refl
mark_again (Told asked answer) written fits =
    let ask = ask_again asked fits.0 in
    let answers : List Word = words_of (told_text answer) in
    let words : words_of (mark_text (Told asked answer)) ≡ codes "told" ∷ ask.words ++ codes "->" ∷ answers =
    after_name (codes "told " ++ asked_text asked) (told_text answer) (codes "->") (codes "told" ∷ ask.words) answers (name (codes "->") (omega arith) refl)
    (named (codes "told") (asked_text asked) ask.words (omega arith) refl ask.are) refl in
    let r = ask.reads 1 (codes "->" ∷ answers) in
    let a = told_last answer written fits.1 (r.0 + 1) in
    ap (λ (ws : List Word). mark_at (from 0 ws)) words ∙ rw (r.1, a.1) refl

-- what is printed for a mark says it
pub line_again : {A E : Type 0} (items : A → List ℕ) (result : Result A E) (mark : Mark) → has_text mark ≡ true → IfOk result (λ line. items line ≡ mark_text mark) → IfOk result (λ line. MarkFits mark)
    → IfOk result (λ line. line_mark (items line) ≡ Ok mark)
line_again items (Ok line) mark written text fits = ap line_mark text ∙ mark_again mark written fits
line_again items (Err error) mark written text fits = tt
