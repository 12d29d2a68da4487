-- Definitions. What a call that writes text says, and the lent bytes after it, as one reply. Assumes nothing.
use Rattle.std.specs.Prelude.{List, ℕ}
use Rattle.job.specs.Reply.{TextReply}
use Rattle.writer.specs.declared.TextAnswer.{TextAnswer}

abbrev pub text_reply : TextAnswer → List ℕ → TextReply
text_reply r out = record { answered = r.answer; figure = r.figure; out = out }
