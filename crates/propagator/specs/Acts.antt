-- What it is for the words of frames and deltas to follow a rule in every shot: definitions that contracts cite. Assumes nothing.
use Rattle.std.specs.Prelude.{◌≡◌, true, List, ℕ, ◌/◌, ◌<◌}
use Rattle.pauli.specs.Pauli.{Pauli, anticommutes}
use Rattle.pauli.specs.Bits.{replaced}
use Rattle.job.specs.Line.{SparsePauli, Line, pauli_of}
use Rattle.job.specs.Checks.{all_below, distinct}
use Rattle.frames.specs.Forward.{State, forward}
use Rattle.rows.specs.Column.{column}

-- the frame of shot s in the words of X and Z, w words a row
abbrev pub frame_of : ℕ → List ℕ → List ℕ → ℕ → Pauli
frame_of w x z s = record { x = column w x s; z = column w z s }

-- the frame and the deltas of shot s
abbrev pub state_of : ℕ → List ℕ → List ℕ → List ℕ → ℕ → State
state_of w x z d s = record { frame = frame_of w x z s; deltas = column w d s }

-- In every shot of the w words of a row, the state after is the rule's of the state before.
pub record Acts (w : ℕ) (rule : ℕ → State → State) (x z d x' z' d' : List ℕ) : Type 0 where
  pub shots : (s : ℕ) → s / 64 < w → state_of w x' z' d' s ≡ rule s (state_of w x z d s)

-- what a line does in shot s, for n qubits and m outcomes
abbrev pub line_rule : ℕ → ℕ → Line → ℕ → State → State
line_rule n m line s = forward (record { qubits = n; outcomes = m; shot = s }) line

-- a Pauli that is given by the lists of the qubits with an X part and with a Z part
abbrev pub written : List ℕ → List ℕ → SparsePauli
written px pz = record { x = px; z = pz }

-- the lists of a Pauli on n qubits: none listed twice
pub record PauliIn (n : ℕ) (px pz : List ℕ) : Type 0 where
  pub x_below : all_below n px ≡ true
  pub x_once : distinct px ≡ true
  pub z_below : all_below n pz ≡ true
  pub z_once : distinct pz ≡ true

-- For row r was put, in every shot, whether the frame anticommutes with P.
pub record MaskPut (w n : ℕ) (P : SparsePauli) (r : ℕ) (x z masks masks' : List ℕ) : Type 0 where
  pub shots : (s : ℕ) → s / 64 < w → column w masks' s ≡ replaced (column w masks s) r (anticommutes n (frame_of w x z s) (pauli_of P))
