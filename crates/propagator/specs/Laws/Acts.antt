-- Rules in every shot: one after the other, and rules that come to the same. Assumes nothing.
use Rattle.std.specs.Prelude.{◌≡◌, refl, List, ℕ, ◌/◌, ◌<◌}
use Rattle.std.proofs.Common.{ap, ◌∙◌}
use Rattle.pauli.specs.Pauli.{Pauli}
use Rattle.frames.specs.Forward.{State, on_frame}
use Rattle.propagator.specs.Acts.{frame_of, state_of, Acts}

pub acts_then : {w : ℕ} {x z d x' z' d' x'' z'' d'' : List ℕ} {first second : ℕ → State → State} → Acts w first x z d x' z' d'
    → Acts w second x' z' d' x'' z'' d'' → Acts w (λ s t. second s (first s t)) x z d x'' z'' d''
acts_then {second = second} p q = record { shots = λ s h. q.shots s h ∙ ap (second s) (p.shots s h) }

-- a rule on the frame, shown by the X part and the Z part
pub acts_frame : (w : ℕ) (rule : ℕ → Pauli → Pauli) (x z d x' z' : List ℕ)
    → ((s : ℕ) → s / 64 < w → frame_of w x' z' s ≡ rule s (frame_of w x z s)) → Acts w (λ s. on_frame (rule s)) x z d x' z' d
acts_frame w rule x z d x' z' shot = record { shots = λ s h. λ i. record { frame = shot s h i; deltas = (state_of w x z d s).deltas } }

-- nothing changes
pub acts_none : (w : ℕ) (x z d : List ℕ) → Acts w (λ s. on_frame (λ P. P)) x z d x z d
acts_none w x z d = record { shots = λ s h. refl }
