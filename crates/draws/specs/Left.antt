-- Definitions. What a job leaves of the main list, also where its draws are spent (document 02, note 14). Assumes nothing.
use Rattle.std.specs.Prelude.{List, [], ◌∷◌, ℕ}
use Rattle.std.proofs.Math.Option.{Option, none, some}
use Rattle.job.specs.Line.{Instruction, Placed}
use Rattle.draws.specs.Draws.{Lent}
use Rattle.draws.specs.Settle.{Step, step_of}

-- Where a noise line is spent, a word past the end was needed: of the main list, which is then used up, or of the second, and the main list is as the
-- lines before left it.
unfoldable pub spent_on : Option ℕ → List ℕ → List ℕ
spent_on none main = []
spent_on (some c) main = main

unfoldable pub left_spent : Instruction → List ℕ → List ℕ
left_spent (Instruction.line l) main = main
left_spent (Instruction.noise n) main = spent_on n.correlation main

unfoldable pub left_then : Instruction → List ℕ → Step → (List ℕ → List ℕ) → List ℕ
left_then i main Step.spent later = left_spent i main
left_then i main (Step.lines ls left) later = later left

-- the words that are left, whether the instructions come to their end or not; all others are taken
unfoldable pub left_after : Lent → List Placed → List ℕ → List ℕ
left_after lent [] main = main
left_after lent (i ∷ is) main = left_then i.instruction main (step_of lent main i.text i.instruction) (left_after lent is)
