use Rattle.std.proofs.Common.{◌≡◌, List, length}
use Rattle.std.specs.List.{flat_map}
use Rattle.cas_session_text.specs.declared.reply.LastReply.{LastReply}
use Rattle.cas_session_text.specs.Contents.{IsContents, next_reply_text}
use Rattle.cas_session_text.proofs.Reading.{Left, with_replies}
use Rattle.cas_session_text.proofs.session.tell_words.Given as goal

-- of whatever replies the text tells, these were told, and the rest is the text of those that are left
abbrev pub invariant-loop-rest : goal.invariant-loop-rest
invariant-loop-rest l = (replies : List LastReply) → flat_map next_reply_text replies ≡ l.fn.text → IsContents (with_replies l.fn.session replies) → Left l.fn.session l.session replies l.rest

abbrev pub decreases-loop-rest : goal.decreases-loop-rest
decreases-loop-rest l = length l.rest
