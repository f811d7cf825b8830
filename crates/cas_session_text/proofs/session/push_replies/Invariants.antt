use Rattle.std.proofs.Common.{◌≡◌, ◌++◌, take, string_bytes}
use Rattle.std.specs.List.{flat_map}
use Rattle.cas_session_text.specs.Contents.{next_reply_text}
use Rattle.cas_session_text.proofs.session.push_replies.Given as goal

abbrev pub invariant-loop-reply : goal.invariant-loop-reply
invariant-loop-reply l = string_bytes l.text ≡ string_bytes l.initial.text ++ flat_map next_reply_text (take l.reply-index l.replies)
