-- Definitions: what the calls that write text, or that count, reply. Assumes nothing.
use Rattle.std.specs.Prelude.{Bool, ◌&&◌, ◌||◌, List, ◌++◌, ℕ, eqb, leb, length, take, drop}
use Rattle.job.specs.declared.Answer.{Answer}
use Rattle.job.specs.declared.CountReply.{CountReply}
use Rattle.job.specs.Job.{max_bytes, accepted}

-- whether a number is a call's own, and no test of a job
abbrev pub of_call : ℕ → Bool
of_call number = leb 13 number && leb number 19 || eqb number 22 || leb 24 number

-- a lent list after its first words or bytes were written over
abbrev pub over : List ℕ → List ℕ → List ℕ
over front old = front ++ drop (length front) old

-- the answer, the byte figure, and the lent bytes after the call
pub record TextReply : Type 0 where
  pub answered : Answer
  pub figure : ℕ
  pub out : List ℕ

-- a refusal with a figure of 0; all memory is untouched
abbrev pub refused_text : Answer → List ℕ → TextReply
refused_text a out = record { answered = a; figure = 0; out = out }

-- whether a text fits the lent bytes and the limit (15)
abbrev pub text_fits_of : List ℕ → List ℕ → Bool
text_fits_of text out = leb (length text) (length out) && leb (length text) max_bytes

-- the byte figure is what was written
abbrev pub written_text : List ℕ → List ℕ → TextReply
written_text text out = record { answered = accepted; figure = length text; out = over text out }

-- the first bytes of the output, as many as the figure says
abbrev pub written_by : TextReply → List ℕ
written_by r = take r.figure r.out

-- a refusal with a count of 0; what calls that count reply is the declared struct of the answer and the count
abbrev pub refused_count : Answer → CountReply
refused_count a = record { answered = a; count = 0 }
