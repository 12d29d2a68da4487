-- Words that hold the states of shots: whatever they hold, after a line, and cleared. Laws. Assumes nothing.
use Rattle.std.specs.Prelude.{refl, List, ℕ, replicate}
use Rattle.std.proofs.Common.{ap, ◌∙◌}
use Rattle.pauli.specs.Pauli.{identity}
use Rattle.job.specs.declared.Header.{Header}
use Rattle.job.specs.Line.{Line}
use Rattle.frames.specs.Forward.{setting_of, forward, start}
use Rattle.draws.specs.Execute.{States, starts, forward_all}
use Rattle.rows.proofs.Laws.Pack.{column_zeros}
use Rattle.propagator.specs.Acts.{state_of, Acts, line_rule}
use Rattle.execution.specs.Holds.{Holds}

pub holds_some : (w : ℕ) (x z d : List ℕ) → Holds w x z d (state_of w x z d)
holds_some w x z d = record { shots = λ s k. refl }

pub holds_line : {w : ℕ} {x z d x' z' d' : List ℕ} {states : States} (h : Header) (line : Line) → Holds w x z d states
    → Acts w (line_rule h.qubits h.outcomes line) x z d x' z' d' → Holds w x' z' d' (forward_all h line states)
unfolding forward_all
holds_line h line p q = record { shots = λ s k. q.shots s k ∙ ap (forward (setting_of h s) line) (p.shots s k) }

pub holds_starts : (w i j k : ℕ) → Holds w (replicate i 0) (replicate j 0) (replicate k 0) starts
unfolding start identity
holds_starts w i j k =
    record {
      shots = λ s h. λ t. record { frame = record { x = column_zeros w i s t; z = column_zeros w j s t }; deltas = column_zeros w k s t };
    }
