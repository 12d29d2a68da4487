-- Definitions. Settling: each noise instruction is replaced by `op=i` lines, shots rising, identities included, and the rest is copied. Assumes
-- nothing.
use Rattle.std.specs.Prelude.{List, [], ◌∷◌, ◌++◌, map, ℕ, suc}
use Rattle.text.specs.Bytes.{unlines}
use Rattle.text.specs.Template.{Value, line_text}
use Rattle.job.specs.Line.{SparsePauli, Line, Distribution, Noise, Instruction, Placed}
use Rattle.job.specs.Grammar.{inject_template}
use Rattle.job.specs.Job.{placed_at}
use Rattle.draws.specs.Draws.{Lent, element_at, Fault, Draws, draw_line, part_of, main_after}

-- a line of the settled job, with its text
pub record SettledLine : Type 0 where
  pub line : Line
  pub text : List ℕ

-- the text of an injection
unfoldable pub inject_text : ℕ → SparsePauli → List ℕ
inject_text shot P = line_text inject_template (Value.number shot ∷ Value.list P.x ∷ Value.list P.z ∷ [])

-- the injection of a fault
unfoldable pub injection : Distribution → Fault → SettledLine
injection d f = record { line = Line.inject f.shot (element_at d f.element); text = inject_text f.shot (element_at d f.element) }

-- What one instruction comes to: the lines that stand for it, and what is left of the main list; or a word was needed past the end.
pub data Step : Type 0 where
  spent : Step
  lines : List SettledLine → List ℕ → Step

unfoldable pub noise_step : Noise → List ℕ → Draws → Step
noise_step n main Draws.spent = Step.spent
noise_step n main (Draws.drawn fs left) = Step.lines (map (injection n.distribution) fs) (main_after n.correlation main left)

unfoldable pub step_of : Lent → List ℕ → List ℕ → Instruction → Step
step_of lent main text (Instruction.line l) = Step.lines (record { line = l; text = text } ∷ []) main
step_of lent main text (Instruction.noise n) = noise_step n main (draw_line lent n (part_of lent n.correlation main))

-- the settled lines, or the line of the noise whose draws were spent
pub data Settled : Type 0 where
  spent_at : ℕ → Settled
  settled : List SettledLine → Settled

unfoldable pub prefixed : List SettledLine → Settled → Settled
prefixed ls (Settled.spent_at k) = Settled.spent_at k
prefixed ls (Settled.settled ms) = Settled.settled (ls ++ ms)

unfoldable pub settle_then : ℕ → Step → (List ℕ → Settled) → Settled
settle_then k Step.spent later = Settled.spent_at k
settle_then k (Step.lines ls main) later = prefixed ls (later main)

-- the instructions, with what is left of the main list
unfoldable pub settle : Lent → List Placed → List ℕ → Settled
settle lent [] main = Settled.settled []
settle lent (i ∷ is) main = settle_then i.line (step_of lent main i.text i.instruction) (settle lent is)

-- the settled list
abbrev pub settled_list : List SettledLine → List Line
settled_list = map (λ (l : SettledLine). l.line)

-- the settled text: the header, which is copied, and the settled lines
unfoldable pub settled_text : List ℕ → List SettledLine → List ℕ
settled_text header ls = unlines (header ∷ map (λ (l : SettledLine). l.text) ls)

-- settled lines as the instructions of a job, one to a line, from line k on
unfoldable pub placed_from : ℕ → List SettledLine → List Placed
placed_from k [] = []
placed_from k (l ∷ ls) = placed_at k l.text (Instruction.line l.line) ∷ placed_from (suc k) ls
