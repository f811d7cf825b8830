-- The mark that a line says, read word by word up to the first that does not fit.
use Rattle.std.specs.Prelude.{ℕ, ◌+◌, Bool, true, false, ◌==◌, if◌then◌else◌, List, [], ◌∷◌, codes, Option, Some, None, Result, Ok, Err}
use Rattle.std.specs.List.{slice_split, before_first, after_first}
use Rattle.std.specs.Option.{ok_or, option_and_then}
use Rattle.std.specs.Str.{bytes_eq}
use Rattle.cas_ballot.specs.declared.ballot.Ballot.{Ballot}
use Rattle.cas_change.specs.declared.outcome.Took.{Took}
use Rattle.cas_change.specs.declared.outcome.Took.TheVariants as took
use Rattle.cas_change_text.specs.Decimal.{u64_of}
use Rattle.cas_change_text.specs.Reading.{◌>>=◌, Read, word_at, version_at, state_at, program_at, refusal_at, after_v}
use Rattle.cas_change_text.specs.Words.{Word, WordsLeft, words_of, all_of}
use Rattle.cas_change_text.specs.declared.refusal.TextRefusal.{TextRefusal}
use Rattle.cas_change_text.specs.declared.refusal.Why.TheVariants as why
use Rattle.cas_lines.specs.Reading.{within, key_at, acceptor_at, ended}
use Rattle.cas_quorum.specs.declared.fault.PlanFault.TheVariants as fault
use Rattle.cas_record.specs.declared.answer.Answer.{Answer}
use Rattle.cas_record.specs.declared.answer.Answer.TheVariants as answer
use Rattle.cas_record.specs.declared.answer.Cause.{Cause}
use Rattle.cas_record.specs.declared.answer.Cause.TheVariants as cause
use Rattle.cas_record.specs.declared.mark.Acknowledgment.{Acknowledgment}
use Rattle.cas_record.specs.declared.mark.Mark.{Mark}
use Rattle.cas_record.specs.declared.mark.Mark.TheVariants.{Begun, Proposed, Voted, Acked, Floor, EraEntered, Ended, Harmed, Told}
use Rattle.cas_record.specs.declared.mark.Proposal.{Proposal}
use Rattle.cas_record.specs.declared.operator.Asked.{Asked}
use Rattle.cas_record.specs.declared.operator.Asked.TheVariants as asked
use Rattle.cas_record.specs.declared.operator.OpAnswer.{OpAnswer}
use Rattle.cas_record.specs.declared.operator.OpAnswer.TheVariants as told
use Rattle.cas_audit.specs.declared.names.MarkName.{MarkName}
use Rattle.cas_audit.specs.declared.names.MarkName.TheVariants as marks
use Rattle.cas_audit.specs.declared.names.StopName.{StopName}
use Rattle.cas_audit.specs.declared.names.StopName.TheVariants as stops
use Rattle.cas_audit.specs.declared.names.CauseName.{CauseName}
use Rattle.cas_audit.specs.declared.names.CauseName.TheVariants as causes
use Rattle.cas_audit.specs.declared.names.TookName.{TookName}
use Rattle.cas_audit.specs.declared.names.TookName.TheVariants as tooks
use Rattle.cas_audit.specs.declared.names.AskedName.{AskedName}
use Rattle.cas_audit.specs.declared.names.AskedName.TheVariants as asks
use Rattle.cas_audit.specs.declared.names.ToldName.{ToldName}
use Rattle.cas_audit.specs.declared.names.ToldName.TheVariants as tells

-- ---- what one word says
abbrev pub is_point : ℕ → Bool
is_point byte = byte == 46

abbrev pub is_comma : ℕ → Bool
is_comma byte = byte == 44

abbrev pub u8_of : Word → Option ℕ
u8_of word = within 0 255 (u64_of word)

abbrev pub u32_of : Word → Option ℕ
u32_of word = within 0 4294967295 (u64_of word)

-- two numbers, where both are there
abbrev pub both_of : Option ℕ → Option ℕ → Option (ℕ × ℕ)
both_of (Some one) (Some two) = Some (one, two)
both_of (Some one) None = None
both_of None two = None

-- a caller and the number of its call, with a point between them
abbrev pub call_of : Word → Option (ℕ × ℕ)
call_of word = both_of (u8_of (before_first is_point word)) (u32_of (after_first is_point word))

abbrev pub ballot_from : Option ℕ → Option ℕ → Option Ballot
ballot_from (Some counter) (Some proposer) = Some (record { counter = counter; proposer = proposer })
ballot_from (Some counter) None = None
ballot_from None proposer = None

-- a counter and the number of its proposer, with a point between them
abbrev pub ballot_of : Word → Option Ballot
ballot_of word = ballot_from (u64_of (before_first is_point word)) (u8_of (after_first is_point word))

-- the number in front of the others
abbrev pub member_onto : ℕ → Option (List ℕ) → Option (List ℕ)
member_onto id None = None
member_onto id (Some ids) = Some (id ∷ ids)

-- the acceptors whose numbers these words are, each above all before it and none below the least
abbrev pub members_from : ℕ → List Word → Option (List ℕ)
members_from least [] = Some []
members_from least (word ∷ words) = option_and_then (λ id. member_onto id (members_from (id + 1) words)) (within least 63 (u64_of word))

-- rising numbers of acceptors with commas between them, or a dash for none
abbrev pub members_of : Word → Option (List ℕ)
members_of word = if bytes_eq word (codes "-") then Some [] else members_from 0 (slice_split is_comma word)

-- ---- the next word
-- what the next word says, where it must say a number or numbers
unfoldable pub said_at : {X : Type 0} → (Word → Option X) → WordsLeft → Read X
said_at value left = do
  word ← word_at left
  x ← ok_or (value word.0) (refusal_at why.BadNumber left)
  Ok (x, word.1)

-- what the next word names
unfoldable pub named_at : {X : Type 0} → (Word → Option X) → WordsLeft → Read X
named_at name left = do
  word ← word_at left
  x ← ok_or (name word.0) (refusal_at why.UnknownWord left)
  Ok (x, word.1)

-- what follows the next word, which must be this one
unfoldable pub behind_name : Word → WordsLeft → Result WordsLeft TextRefusal
behind_name name left = do
  word ← word_at left
  if bytes_eq word.0 name then Ok word.1 else Err (refusal_at why.UnknownWord left)

-- the number behind this name
unfoldable pub numbered_at : Word → WordsLeft → Read ℕ
numbered_at name left = do
  behind ← behind_name name left
  said_at u32_of behind

-- the version behind a `v`
unfoldable pub marked_version_at : WordsLeft → Read ℕ
marked_version_at left = do
  word ← word_at left
  digits ← ok_or (after_v word.0) (refusal_at why.UnknownWord left)
  version ← ok_or (u64_of digits) (refusal_at why.BadNumber left)
  Ok (version, word.1)

-- ---- names
abbrev pub mark_name : Word → Option MarkName
mark_name word = if bytes_eq word (codes "begun") then Some marks.Begun
    else (if bytes_eq word (codes "proposed") then Some marks.Proposed
    else (if bytes_eq word (codes "voted") then Some marks.Voted
    else (if bytes_eq word (codes "acked") then Some marks.Acked
    else (if bytes_eq word (codes "floor") then Some marks.Floor
    else (if bytes_eq word (codes "entered") then Some marks.Entered
    else (if bytes_eq word (codes "ended") then Some marks.Ended
    else (if bytes_eq word (codes "harmed") then Some marks.Harmed
    else (if bytes_eq word (codes "told") then Some marks.Told else None))))))))

abbrev pub stop_name : Word → Option StopName
stop_name word = if bytes_eq word (codes "conflict") then Some stops.Conflict
    else (if bytes_eq word (codes "aged") then Some stops.Aged
    else (if bytes_eq word (codes "full") then Some stops.Full
    else (if bytes_eq word (codes "short") then Some stops.Short
    else (if bytes_eq word (codes "moved") then Some stops.Moved
    else (if bytes_eq word (codes "crashed") then Some stops.Crashed
    else (if bytes_eq word (codes "unsettled") then Some stops.Unsettled
    else (if bytes_eq word (codes "down") then Some stops.Down
    else (if bytes_eq word (codes "vault") then Some stops.Vault
    else (if bytes_eq word (codes "spent") then Some stops.Spent
    else (if bytes_eq word (codes "record") then Some stops.Record
    else (if bytes_eq word (codes "no") then Some stops.No else None)))))))))))

abbrev pub cause_name : Word → Option CauseName
cause_name word = if bytes_eq word (codes "met") then Some causes.Met
    else (if bytes_eq word (codes "aged") then Some causes.Aged
    else (if bytes_eq word (codes "full") then Some causes.Full
    else (if bytes_eq word (codes "short") then Some causes.Short
    else (if bytes_eq word (codes "moved") then Some causes.Moved
    else (if bytes_eq word (codes "crashed") then Some causes.Crashed else None)))))

abbrev pub took_name : Word → Option TookName
took_name word = if bytes_eq word (codes "clause") then Some tooks.Clause
    else (if bytes_eq word (codes "no") then Some tooks.No
    else (if bytes_eq word (codes "unfit") then Some tooks.Unfit else None))

abbrev pub asked_name : Word → Option AskedName
asked_name word = if bytes_eq word (codes "join") then Some asks.Join
    else (if bytes_eq word (codes "leave") then Some asks.Leave
    else (if bytes_eq word (codes "collect") then Some asks.Collect
    else (if bytes_eq word (codes "probe") then Some asks.Probe
    else (if bytes_eq word (codes "resize") then Some asks.Resize
    else (if bytes_eq word (codes "read") then Some asks.Read else None)))))

abbrev pub told_name : Word → Option ToldName
told_name word = if bytes_eq word (codes "joined") then Some tells.Joined
    else (if bytes_eq word (codes "left") then Some tells.Left
    else (if bytes_eq word (codes "resized") then Some tells.Resized
    else (if bytes_eq word (codes "already") then Some tells.Already
    else (if bytes_eq word (codes "not") then Some tells.Not
    else (if bytes_eq word (codes "id") then Some tells.Id
    else (if bytes_eq word (codes "too") then Some tells.Too
    else (if bytes_eq word (codes "last") then Some tells.Last
    else (if bytes_eq word (codes "bad") then Some tells.Bad
    else (if bytes_eq word (codes "busy") then Some tells.Busy
    else (if bytes_eq word (codes "collected") then Some tells.Collected
    else (if bytes_eq word (codes "absent") then Some tells.Absent
    else (if bytes_eq word (codes "proposer") then Some tells.Proposer else None))))))))))))

-- whether the acceptor of a harmed frame was down
abbrev pub harm_name : Word → Option Bool
harm_name word = if bytes_eq word (codes "fate") then Some false
    else (if bytes_eq word (codes "down") then Some true else None)

-- ---- answers
-- what follows the name of a cause
unfoldable pub cause_of : CauseName → WordsLeft → Read Cause
cause_of causes.Met left = said_at ballot_of left >>= λ x. Ok (cause.Met x.0, x.1)
cause_of causes.Aged left = version_at left >>= λ x. Ok (cause.Aged x.0, x.1)
cause_of causes.Full left = acceptor_at left >>= λ x. Ok (cause.Full x.0, x.1)
cause_of causes.Short left = said_at u32_of left >>= λ x. (said_at u32_of x.1 >>= λ y. Ok (cause.Short x.0 y.0, y.1))
cause_of causes.Moved left = said_at u32_of left >>= λ x. Ok (cause.Moved x.0, x.1)
cause_of causes.Crashed left = Ok (cause.Crashed, left)

unfoldable pub cause_at : WordsLeft → Read Cause
cause_at left = do
  name ← named_at cause_name left
  cause_of name.0 name.1

abbrev pub proposed_from : ℕ → List Word → Read Bool
proposed_from at [] = Ok (false, record { at = at; words = [] })
proposed_from at (word ∷ words) = if bytes_eq word (codes "proposed") then Ok (true, record { at = at + 1; words = words })
    else Err (record { why = why.UnknownWord; word = at })

-- whether the change was proposed before memory ran out: a last word says so
abbrev pub proposed_at : WordsLeft → Read Bool
proposed_at left = proposed_from left.at left.words

-- what follows the name of an answer that nothing was done
unfoldable pub stop_of : StopName → WordsLeft → Read Answer
stop_of stops.Conflict left = said_at ballot_of left >>= λ x. Ok (answer.Conflict x.0, x.1)
stop_of stops.Aged left = version_at left >>= λ x. Ok (answer.Aged x.0, x.1)
stop_of stops.Full left = acceptor_at left >>= λ x. Ok (answer.Full x.0, x.1)
stop_of stops.Short left = said_at u32_of left >>= λ x. (said_at u32_of x.1 >>= λ y. Ok (answer.Short x.0 y.0, y.1))
stop_of stops.Moved left = said_at u32_of left >>= λ x. Ok (answer.Moved x.0, x.1)
stop_of stops.Crashed left = Ok (answer.Crashed, left)
stop_of stops.Unsettled left = cause_at left >>= λ x. Ok (answer.Unsettled x.0, x.1)
stop_of stops.Down left = Ok (answer.Down, left)
stop_of stops.Vault left = behind_name (codes "fault") left >>= λ behind. Ok (answer.VaultFault, behind)
stop_of stops.Spent left = Ok (answer.Spent, left)
stop_of stops.Record left = behind_name (codes "full") left >>= λ behind. Ok (answer.RecordFull, behind)
stop_of stops.No left = behind_name (codes "memory") left >>= λ behind. (proposed_at behind >>= λ x. Ok (answer.NoMemory x.0, x.1))

-- the answer that nothing was done which this word begins, where the word stands at this place
unfoldable pub stop_in : ℕ → Word → WordsLeft → Read Answer
stop_in at word behind = do
  name ← ok_or (stop_name word) (record { why = why.UnknownWord; word = at })
  stop_of name behind

-- what follows the name of what a clause did
unfoldable pub took_of : TookName → WordsLeft → Read Took
took_of tooks.Clause left = said_at u8_of left >>= λ x. Ok (took.Clause x.0, x.1)
took_of tooks.No left = behind_name (codes "clause") left >>= λ behind. Ok (took.Nothing, behind)
took_of tooks.Unfit left = said_at u8_of left >>= λ x. Ok (took.Unfit x.0, x.1)

unfoldable pub took_at : WordsLeft → Read Took
took_at left = do
  name ← named_at took_name left
  took_of name.0 name.1

-- what follows the first word of an answer that the change is done
unfoldable pub done_at : WordsLeft → Read Answer
done_at left = do
  state ← state_at left
  behind ← behind_name (codes "at") state.1
  ballot ← said_at ballot_of behind
  took ← took_at ballot.1
  Ok (answer.Done state.0 took.0 ballot.0, took.1)

unfoldable pub answer_at : WordsLeft → Read Answer
answer_at left = do
  word ← word_at left
  if bytes_eq word.0 (codes "done") then done_at word.1 else stop_in left.at word.0 word.1

-- ---- operators
unfoldable pub asked_of : AskedName → WordsLeft → Read Asked
asked_of asks.Join left = acceptor_at left >>= λ x. Ok (asked.Join x.0, x.1)
asked_of asks.Leave left = acceptor_at left >>= λ x. Ok (asked.Leave x.0, x.1)
asked_of asks.Collect left = key_at left >>= λ x. Ok (asked.Collect x.0, x.1)
asked_of asks.Probe left = key_at left >>= λ x. Ok (asked.Probe x.0, x.1)
asked_of asks.Resize left = said_at u32_of left >>= λ x. (said_at u32_of x.1 >>= λ y. Ok (asked.Resize x.0 y.0, y.1))
asked_of asks.Read left = key_at left >>= λ x. Ok (asked.Read x.0, x.1)

unfoldable pub asked_at : WordsLeft → Read Asked
asked_at left = do
  name ← named_at asked_name left
  asked_of name.0 name.1

-- a plan that is finished: the acceptor, the era and how many keys were proposed anew
unfoldable pub finished_at : WordsLeft → Read (ℕ × ℕ × ℕ)
finished_at left = do
  id ← acceptor_at left
  era ← numbered_at (codes "era") id.1
  rescanned ← numbered_at (codes "rescanned") era.1
  Ok ((id.0, era.0, rescanned.0), rescanned.1)

-- sizes of quorums whose plan is finished, the era and how many keys were proposed anew
unfoldable pub resized_at : WordsLeft → Read OpAnswer
resized_at left = do
  need_prep ← said_at u32_of left
  need_acc ← said_at u32_of need_prep.1
  era ← numbered_at (codes "era") need_acc.1
  rescanned ← numbered_at (codes "rescanned") era.1
  Ok (told.Resized need_prep.0 need_acc.0 era.0 rescanned.0, rescanned.1)

unfoldable pub collected_at : WordsLeft → Read OpAnswer
collected_at left = do
  key ← key_at left
  behind ← behind_name (codes "at") key.1
  ballot ← said_at ballot_of behind
  removed ← numbered_at (codes "removed") ballot.1
  kept ← numbered_at (codes "kept") removed.1
  Ok (told.Collected key.0 ballot.0 removed.0 kept.0, kept.1)

-- what follows the word `not`, where this word stands at this place
unfoldable pub not_in : ℕ → Word → WordsLeft → Read OpAnswer
not_in at word behind = if bytes_eq word (codes "in") then Ok (told.Refused fault.NotIn, behind)
    else (if bytes_eq word (codes "empty") then (marked_version_at behind >>= λ x. Ok (told.NotEmpty x.0, x.1))
    else (if bytes_eq word (codes "majority") then Ok (told.Refused fault.NotMajority, behind)
    else Err (record { why = why.UnknownWord; word = at })))

unfoldable pub not_at : WordsLeft → Read OpAnswer
not_at left = do
  word ← word_at left
  not_in left.at word.0 word.1

-- what follows the name of an operator's answer
unfoldable pub told_of : ToldName → WordsLeft → Read OpAnswer
told_of tells.Joined left = finished_at left >>= λ x. Ok (told.Joined x.0.0 x.0.1 x.0.2, x.1)
told_of tells.Left left = finished_at left >>= λ x. Ok (told.Left x.0.0 x.0.1 x.0.2, x.1)
told_of tells.Resized left = resized_at left
told_of tells.Already left = behind_name (codes "in") left >>= λ behind. Ok (told.Refused fault.AlreadyIn, behind)
told_of tells.Not left = not_at left
told_of tells.Id left = behind_name (codes "used") left >>= λ behind. Ok (told.Refused fault.IdUsed, behind)
told_of tells.Too left = behind_name (codes "many") left >>= λ behind. Ok (told.Refused fault.TooMany, behind)
told_of tells.Last left = Ok (told.Refused fault.Last, left)
told_of tells.Bad left = behind_name (codes "size") left >>= λ behind. Ok (told.Refused fault.BadSize, behind)
told_of tells.Busy left = said_at u32_of left >>= λ x. Ok (told.Busy x.0, x.1)
told_of tells.Collected left = collected_at left
told_of tells.Absent left = acceptor_at left >>= λ x. Ok (told.Absent x.0, x.1)
told_of tells.Proposer left = behind_name (codes "down") left >>= λ behind. (said_at u8_of behind >>= λ x. Ok (told.ProposerDown x.0, x.1))

-- an answer of an operator's own, or that of a call that stopped it, where this word stands at this place
unfoldable pub told_by : Option ToldName → ℕ → Word → WordsLeft → Read OpAnswer
told_by (Some name) at word behind = told_of name behind
told_by None at word behind = stop_in at word behind >>= λ x. Ok (told.Stopped x.0, x.1)

unfoldable pub told_at : WordsLeft → Read OpAnswer
told_at left = do
  word ← word_at left
  told_by (told_name word.0) left.at word.0 word.1

-- ---- marks
unfoldable pub begun_at : WordsLeft → Result Mark TextRefusal
begun_at left = do
  call ← said_at call_of left
  key ← key_at call.1
  program ← program_at key.1
  Ok (Begun call.0.0 call.0.1 key.0 program)

-- an era, and the acceptors behind `by`
unfoldable pub quorum_at : WordsLeft → Read (ℕ × List ℕ)
quorum_at left = do
  era ← numbered_at (codes "era") left
  behind ← behind_name (codes "by") era.1
  members ← said_at members_of behind
  Ok ((era.0, members.0), members.1)

unfoldable pub proposal_at : WordsLeft → Read Proposal
proposal_at left = do
  call ← said_at call_of left
  key ← key_at call.1
  ballot ← said_at ballot_of key.1
  behind ← behind_name (codes "read") ballot.1
  read ← said_at ballot_of behind
  quorum ← quorum_at read.1
  Ok (record { caller = call.0.0; call = call.0.1; key = key.0; ballot = ballot.0; read = read.0; era = quorum.0.0; prepared_by = quorum.0.1 }, quorum.1)

unfoldable pub acknowledgment_at : WordsLeft → Read Acknowledgment
acknowledgment_at left = do
  key ← key_at left
  ballot ← said_at ballot_of key.1
  quorum ← quorum_at ballot.1
  Ok (record { key = key.0; ballot = ballot.0; era = quorum.0.0; by = quorum.0.1 }, quorum.1)

unfoldable pub voted_at : WordsLeft → Result Mark TextRefusal
voted_at left = do
  acceptor ← acceptor_at left
  key ← key_at acceptor.1
  ballot ← ended (said_at ballot_of key.1)
  Ok (Voted acceptor.0 key.0 ballot)

unfoldable pub floor_at : WordsLeft → Result Mark TextRefusal
floor_at left = do
  key ← key_at left
  ballot ← said_at ballot_of key.1
  state ← ended (state_at ballot.1)
  Ok (Floor key.0 ballot.0 state)

unfoldable pub entered_at : WordsLeft → Result Mark TextRefusal
entered_at left = do
  proposer ← said_at u8_of left
  number ← ended (said_at u32_of proposer.1)
  Ok (EraEntered proposer.0 number)

unfoldable pub ended_at : WordsLeft → Result Mark TextRefusal
ended_at left = do
  call ← said_at call_of left
  rounds ← said_at u32_of call.1
  answer ← ended (answer_at rounds.1)
  Ok (Ended call.0.0 call.0.1 rounds.0 answer)

unfoldable pub harmed_at : WordsLeft → Result Mark TextRefusal
harmed_at left = do
  call ← said_at call_of left
  down ← ended (named_at harm_name call.1)
  Ok (Harmed call.0.0 call.0.1 down)

unfoldable pub told_mark_at : WordsLeft → Result Mark TextRefusal
told_mark_at left = do
  asked ← asked_at left
  behind ← behind_name (codes "->") asked.1
  answer ← ended (told_at behind)
  Ok (Told asked.0 answer)

-- what follows the name of a mark, to the end
unfoldable pub mark_of : MarkName → WordsLeft → Result Mark TextRefusal
mark_of marks.Begun left = begun_at left
mark_of marks.Proposed left = ended (proposal_at left) >>= λ proposal. Ok (Proposed proposal)
mark_of marks.Voted left = voted_at left
mark_of marks.Acked left = ended (acknowledgment_at left) >>= λ acknowledgment. Ok (Acked acknowledgment)
mark_of marks.Floor left = floor_at left
mark_of marks.Entered left = entered_at left
mark_of marks.Ended left = ended_at left
mark_of marks.Harmed left = harmed_at left
mark_of marks.Told left = told_mark_at left

unfoldable pub mark_at : WordsLeft → Result Mark TextRefusal
mark_at left = do
  name ← named_at mark_name left
  mark_of name.0 name.1

-- the mark that a line says
abbrev pub line_mark : List ℕ → Result Mark TextRefusal
line_mark line = mark_at (all_of (words_of line))
