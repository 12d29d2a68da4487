-- Definitions. Annotation of a list of instructions, as the annotated text is to say it. Assumes nothing.
use Rattle.std.specs.Prelude.{false, cond, List, [], ◌∷◌, ◌++◌, ℕ}
use Rattle.std.proofs.Math.Option.{none}
use Rattle.job.specs.Line.{Distribution, size_of, Noise, Instruction}
use Rattle.circuit.specs.Annotate.{noise_qubits_of, noise_before_of}

-- depolarizing noise without correlation and condition; p by its bits
abbrev pub depolarizing_noise : ℕ → List ℕ → Noise
depolarizing_noise p qs =
    record {
      probability = p;
      correlation = none;
      condition = record { outcomes = []; parity = false };
      distribution = Distribution.depolarizing qs;
      size = size_of (Distribution.depolarizing qs);
    }

-- none for an empty list of qubits
unfoldable pub noise_over : ℕ → List ℕ → List Instruction
noise_over p [] = []
noise_over p (q ∷ qs) = Instruction.noise (depolarizing_noise p (q ∷ qs)) ∷ []

-- a line with its noise, before a measurement and after the others; noise is copied
unfoldable pub with_noise_of : ℕ → Instruction → List Instruction
with_noise_of p (Instruction.line l) =
    cond (noise_before_of l) (noise_over p (noise_qubits_of l) ++ Instruction.line l ∷ []) (Instruction.line l ∷ noise_over p (noise_qubits_of l))
with_noise_of p (Instruction.noise n) = Instruction.noise n ∷ []

unfoldable pub annotated_list : ℕ → List Instruction → List Instruction
annotated_list p [] = []
annotated_list p (i ∷ is) = with_noise_of p i ++ annotated_list p is
